-- Where a command goes on: the next phase meets the rule, with the polls so far.
use Rattle.std.proofs.Common.{Some, None, Option, Result, Ok as Read, Err as Unread}
use Prim.Native.Nat.{ℕ, zero, suc, ◌+◌, ◌-◌, ◌*◌, ◌%◌, ◌^◌, ◌≤◌, ◌<◌}
use mathlib.Core.Path.{◌≡◌, refl}
use mathlib.Core.Bool.{Bool, true, false, cond}
use mathlib.Core.List.{List, [], ◌∷◌}
use native.Mathlib.Omega.{arith}
use native.Mathlib.Nat.{mod-eq_of_lt, mod-lt}
use lib.Dec.{eqb, ltb}
use lib.ListN.{length, take, drop, length-take}
use borrow.Author.Tests.{ltb-true, leb-true, eqb-true, le-leb, lt-ltb, ne_eqb}
use Rattle.sfdp.specs.declared.FlashParams.{FlashParams}
use Rattle.sfdp.specs.declared.SFDPParameterHeader.{SFDPParameterHeader}
use Rattle.sfdp.specs.declared.SFDPError.{SFDPError}
use Rattle.sfdp.specs.declared.SFDPError.TheVariants as Refusal
use Rattle.dwords.specs.Dwords.{byte_at}
use Rattle.sfdp.specs.Jesd216.{signed, basic, parameter_header, read_header, read_table}
use Rattle.settings.specs.Limits.{page_of}
use Rattle.settings.proofs.Laws.{accepted_nonempty, accepted_32, accepted_inside, update_sound}
use Rattle.erase_plan.specs.declared.NextEntry.{NextEntry}
use Rattle.erase_plan.proofs.Lists.{by_cond}
use Rattle.erase_plan.proofs.Ordering.{present_present}
use Rattle.erase_plan.proofs.Steps.{plan_entry}
use Rattle.plans.specs.Available.{available}
use Rattle.commands.specs.Answers.{refusal_of}
use Rattle.commands.specs.declared.Answer.{Answer}
use Rattle.commands.specs.declared.Answer.TheVariants.{Done, DoneBool, ReadbackError, Busy}
use Rattle.commands.specs.Transactions.{ready}
use Rattle.commands.specs.Commands.{blank, id_at, first_id}
use Rattle.phases.specs.declared.Job.{Job}
use Rattle.phases.specs.declared.Mismatch.{Mismatch}
use Rattle.phases.specs.declared.ReadCommand.{ReadCommand}
use Rattle.phases.specs.declared.ReadCommand.TheVariants as Reads
use Rattle.phases.specs.declared.EraseCommand.{EraseCommand}
use Rattle.phases.specs.declared.EraseCommand.TheVariants as Erases
use Rattle.phases.specs.declared.WriteCommand.{WriteCommand}
use Rattle.phases.specs.declared.WriteCommand.TheVariants as Writes
use Rattle.phases.specs.declared.PollCommand.{PollCommand}
use Rattle.phases.specs.declared.PollCommand.TheVariants as Polls
use Rattle.phases.specs.declared.VerifyCommand.{VerifyCommand}
use Rattle.phases.specs.declared.VerifyCommand.TheVariants as Verifies
use Rattle.phases.specs.declared.ResetCommand.{ResetCommand}
use Rattle.phases.specs.declared.ResetCommand.TheVariants as Resets
use Rattle.phases.specs.declared.Command.{Command}
use Rattle.phases.specs.declared.Command.TheVariants as Ends
use Rattle.phases.specs.declared.Phase.{Phase}
use Rattle.phases.specs.declared.Phase.TheVariants.{Reading, Erasing, Writing, Polling, Verifying, Resetting, Ended}
use Rattle.flash.specs.declared.Session.{Session}
use Rattle.phases.specs.Waits.{part_last, span_of}
use Rattle.flash.specs.Waits.{types_of, entry_for, flagged, in_phase}
use Rattle.phases.specs.Moves.{to_after, to_before, with_header, erase_ends, write_ends, to_polls, last_written, next_erase, next_write, to_verify, after_write, still_busy, first_differs, judged, verify_on, reset_on, after_read}
use Rattle.flash.specs.Steps.{goes, ends, with_table, read_on, after_erase, after_polls, poll_on}
use Rattle.meaning.specs.Meaning.{Bytes}
use Rattle.meaning.proofs.Unroll.{page_some}
use Rattle.rule.specs.Rule.{settings_rule, job_ordered, job_rule, plan_rule, written_rule, differs_rule, table_rule, read_rule, erase_rule, write_rule, poll_rule, verify_rule, allows66, reset_rule, other_ends, program_ends, end_rule, has_types, phase_rule, erases_behind, writes_behind, verifies_behind, polls_done, polls_left, wait_rule, polls_rule, rule_of}
use Rattle.rule.proofs.Tests.{held, hold, settings_sound, sound_settings, job_order, job_ordered_lem, plan_job, written, written_rule_lem}
use Rattle.rule.proofs.Tests as Of
use Rattle.rule.proofs.Polls.{ready_done, busy_left, left_ended, done_left, done_ended, none_done}

-- a phase that meets the rule, of a session with n polls
pub record Ok (s : Session) (n : ℕ) (p : Phase) : Type 0 where
  pub phase : phase_rule s p ≡ true
  pub polls : polls_rule n s.settings.poll_limit p ≡ true

-- whatever phase the session had
same_rule : (s : Session) (q : Phase) (m : ℕ) (p : Phase) → phase_rule s p ≡ true → phase_rule (in_phase s q m) p ≡ true
unfolding phase_rule reset_rule allows66
same_rule s q m (Reading c) h = h
same_rule s q m (Erasing c enabled) h = h
same_rule s q m (Writing c enabled) h = h
same_rule s q m (Polling c left) h = h
same_rule s q m (Verifying c) h = h
same_rule s q m (Resetting Resets.Enable) h = h
same_rule s q m (Resetting Resets.Reset) h = h
same_rule s q m (Resetting Resets.F0) h = h
same_rule s q m (Ended c a) h = h

module _ (s : Session) (sound : settings_rule s.settings ≡ true) where
  pub in_phase_lem : (n : ℕ) (p : Phase) → Ok s n p → rule_of (in_phase s p n) ≡ true
  unfolding rule_of
  in_phase_lem n p o = hold _ (sound, (same_rule s p n p o.phase, (o.polls, tt)))

  limits : (1 ≤ s.settings.poll_limit) × (s.settings.poll_limit ≤ 65535)
  limits = (settings_sound s.settings sound).polls

  -- ---- ends
  pub ended : (n : ℕ) (c : Command) (a : Answer) → end_rule c a ≡ true → n ≤ 562941363552255 → Ok s n (Ended c a)
  unfolding phase_rule polls_rule
  ended n c a h l = record { phase = h; polls = le-leb n 562941363552255 l }

  pub other : (n : ℕ) (a : Answer) → other_ends a ≡ true → n ≤ 562941363552255 → Ok s n (Ended Ends.Other a)
  unfolding end_rule
  other n a h l = ended n Ends.Other a h l

  pub program_end : (n : ℕ) (J : Job) (a : Answer) (gathered : Bool) → job_ordered J ≡ true → program_ends J gathered a ≡ true → n ≤ 562941363552255
      → Ok s n (Ended (Ends.Program J gathered) a)
  unfolding end_rule
  program_end n J a gathered o h l = ended n (Ends.Program J gathered) a (hold _ (o, (h, tt))) l

  -- ---- a program's reads, then its plan; no poll so far
  plan_begins : (J : Job) → plan_rule s.settings (has_types s) J ≡ true → Ok s 0 (Erasing (Erases.Program J J.from) false)
  unfolding phase_rule erase_rule polls_rule
  plan_begins J h =
      let o = job_ordered_lem s.settings J (plan_job s.settings (has_types s) J h) in
      record {
        phase = hold _ (h, omega (arith, le-leb, o.data'));
        polls = none_done s.settings.poll_limit (erases_behind (Erases.Program J J.from));
      }

  to_after_lem : (J : Job) → plan_rule s.settings (has_types s) J ≡ true → Ok s 0 (to_after J)
  unfolding to_after phase_rule read_rule polls_rule
  to_after_lem J h =
      by_cond (Ok s 0) (ltb J.last J.top) (Reading (Reads.After J)) (Erasing (Erases.Program J J.from) false)
      (λ t. record { phase = hold _ (h, (t, tt)); polls = refl })
      (λ t. plan_begins J h)

  pub to_before_lem : (J : Job) → plan_rule s.settings (has_types s) J ≡ true → Ok s 0 (to_before J)
  unfolding to_before phase_rule read_rule polls_rule
  to_before_lem J h =
      by_cond (Ok s 0) (ltb J.base J.from) (Reading (Reads.Before J)) (to_after J)
      (λ t. record { phase = hold _ (h, (t, tt)); polls = refl })
      (λ t. to_after_lem J h)

  -- ---- an erase is done
  over_erase : (last : ℕ) (o : Option NextEntry) (on : ℕ → Phase) (over' : Phase) (n : ℕ)
      → ((e : _) (stop : ℕ) → o ≡ Some (record { entry = e; stop = stop }) → stop < last → Ok s n (on (stop + 1))) → Ok s n over' → Ok s n (next_erase o last on over')
  unfolding next_erase
  over_erase last None on over' n f g = g
  over_erase last (Some x) on over' n f g = by_cond (Ok s n) (ltb x.stop last) (on (x.stop + 1)) over' (λ t. f x.entry x.stop refl (ltb-true x.stop last t)) (λ t. g)

  entry_at : (p last : ℕ) (e : _) (stop : ℕ) → entry_for s p last ≡ Some (record { entry = e; stop = stop }) → p ≤ stop
  unfolding entry_for
  entry_at p last e stop h = (plan_entry (types_of s) (present_present (available s.settings s.known s.params)) p (last + 1) _ h).after

  next_sector : (p last n left : ℕ) → erase_rule s.settings (has_types s) (Erases.Sectors p last) ≡ true
      → polls_left n s.settings.poll_limit (erases_behind (Erases.Sectors p last)) left ≡ true
      → (stop : ℕ) → p ≤ stop → stop < last → Ok s (n + 1) (Erasing (Erases.Sectors (stop + 1) last) false)
  unfolding phase_rule erase_rule erases_behind polls_rule
  next_sector p last n left h k stop m l =
      let t = held _ h in
      let some : 1 ≤ last + 1 - p = accepted_nonempty s.settings p (last + 1 - p) t.0 in
      let most : p + (last + 1 - p) ≤ 2 ^ 32 = accepted_32 s.settings p (last + 1 - p) t.0 in
      record {
        phase = hold _ (accepted_inside s.settings p (last + 1 - p) (stop + 1) (last + 1 - (stop + 1)) t.0 (omega arith) (omega arith), (t.1.0, tt));
        polls = ready_done n s.settings.poll_limit p left k (stop + 1) (omega arith) (omega arith);
      }

  next_block : (J : Job) (p n left : ℕ) → erase_rule s.settings (has_types s) (Erases.Program J p) ≡ true
      → polls_left n s.settings.poll_limit (erases_behind (Erases.Program J p)) left ≡ true
      → (stop : ℕ) → p ≤ stop → stop < J.last → Ok s (n + 1) (Erasing (Erases.Program J (stop + 1)) false)
  unfolding phase_rule erase_rule erases_behind polls_rule
  next_block J p n left h k stop m l =
      let t = held _ h in
      let o = job_ordered_lem s.settings J (plan_job s.settings (has_types s) J t.0) in
      let from : J.from ≤ p = leb-true J.from p t.1.0 in
      let top : J.top < 2 ^ 32 = o.top in
      let span : J.last ≤ J.top = o.span in
      record {
        phase = hold _ (t.0, omega (arith, le-leb));
        polls = ready_done n s.settings.poll_limit (p - J.from) left k (stop + 1 - J.from) (omega arith) (omega arith);
      }

  last_written_lem : (J : Job) (room : List ℕ) → job_rule s.settings J ≡ true → Of.Writes s.settings J (last_written J room)
  unfolding last_written
  last_written_lem J room h =
      let o = job_ordered_lem s.settings J h in
      let a : J.base ≤ J.from = o.first in
      let b : J.from ≤ J.last = o.data' in
      let d : J.last ≤ J.top = o.span in
      by_cond (Of.Writes s.settings J) (blank (take (J.top - J.last) (drop (J.last + 1 - J.base) room))) (J.last - J.base) (J.top - J.base)
      (λ t. record { job = h; data' = omega arith; within = omega arith })
      (λ t. record { job = h; data' = omega arith; within = omega arith })

  writes_begin : (J : Job) (p : ℕ) (room : List ℕ) (n left : ℕ) → erase_rule s.settings (has_types s) (Erases.Program J p) ≡ true
      → polls_left n s.settings.poll_limit (erases_behind (Erases.Program J p)) left ≡ true
      → Ok s (n + 1) (Writing (Writes.Program J (last_written J room) 0) false)
  unfolding phase_rule erase_rule erases_behind write_rule writes_behind polls_rule
  writes_begin J p room n left h k =
      let t = held _ h in
      let j = plan_job s.settings (has_types s) J t.0 in
      let o = job_ordered_lem s.settings J j in
      let from : J.from ≤ p = leb-true J.from p t.1.0 in
      let last : p ≤ J.last = leb-true p J.last t.1.1.0 in
      let top : J.top < 2 ^ 32 = o.top in
      let span : J.last ≤ J.top = o.span in
      record {
        phase = hold _ (written_rule_lem s.settings J (last_written J room) (last_written_lem J room j), omega (arith, le-leb));
        polls = ready_done n s.settings.poll_limit (p - J.from) left k (J.last + 1 - J.from + 0) (omega arith) (omega arith);
      }

  after_erase_lem : (c : EraseCommand) (room : List ℕ) (n left : ℕ) → erase_rule s.settings (has_types s) c ≡ true → polls_left n s.settings.poll_limit (erases_behind c) left ≡ true
      → Ok s (n + 1) (after_erase s c room)
  unfolding after_erase other_ends erases_behind
  after_erase_lem Erases.Chip room n left h k = other (n + 1) Done refl (left_ended n s.settings.poll_limit 0 left k limits.1)
  after_erase_lem (Erases.Sectors p last) room n left h k =
      over_erase last (entry_for s p last) (λ q. Erasing (Erases.Sectors q last) false) (Ended Ends.Other Done) (n + 1)
      (λ e stop f l. next_sector p last n left h k stop (entry_at p last e stop f) l)
      (other (n + 1) Done refl (left_ended n s.settings.poll_limit (erases_behind (Erases.Sectors p last)) left k limits.1))
  after_erase_lem (Erases.Program J p) room n left h k =
      over_erase J.last (entry_for s p J.last) (λ q. Erasing (Erases.Program J q) false) (Writing (Writes.Program J (last_written J room) 0) false) (n + 1)
      (λ e stop f l. next_block J p n left h k stop (entry_at p J.last e stop f) l)
      (writes_begin J p room n left h k)

  -- ---- a page part is done
  part_at : (page a off to : ℕ) → 1 ≤ page → off ≤ to → off ≤ part_last page a off to
  unfolding part_last
  part_at page a off to h k = omega (arith, mod-lt (a + off) h)

  to_verify_lem : (J : Job) (to n : ℕ) → written_rule s.settings J to ≡ true → polls_done n s.settings.poll_limit (J.last + 1 - J.from + span_of J) ≡ true → Ok s n (to_verify J to)
  unfolding to_verify phase_rule verify_rule polls_rule verifies_behind program_ends
  to_verify_lem J to n w k =
      by_cond (Ok s n) J.verified (Verifying (Verifies.Compare J to)) (Ended (Ends.Program J true) Done)
      (λ t. record { phase = hold _ (t, (w, tt)); polls = k })
      (λ t. program_end n J Done true (job_order s.settings J (written s.settings J to w).job) refl (done_ended n s.settings.poll_limit (J.last + 1 - J.from + span_of J) k limits.1))

  after_program : (J : Job) (to off n left : ℕ) → write_rule s.settings (Writes.Program J to off) ≡ true
      → polls_left n s.settings.poll_limit (writes_behind (Writes.Program J to off)) left ≡ true
      → Ok s (n + 1) (after_write (page_of s.settings) (Writes.Program J to off))
  unfolding after_write next_write phase_rule write_rule writes_behind polls_rule
  after_program J to off n left h k =
      let t = held _ h in
      let w = written s.settings J to t.0 in
      let o = job_ordered_lem s.settings J w.job in
      let most : off ≤ to = leb-true off to t.1.0 in
      let stop = part_last (page_of s.settings) J.base off to in
      let m : off ≤ stop = part_at (page_of s.settings) J.base off to (page_some s.settings) most in
      let a : J.base ≤ J.from = o.first in
      let b : J.from ≤ J.last = o.data' in
      let d : J.last ≤ J.top = o.span in
      let top : J.top < 2 ^ 32 = o.top in
      let within : J.base + to ≤ J.top = w.within in
      by_cond (Ok s (n + 1)) (ltb stop to) (Writing (Writes.Program J to (stop + 1)) false) (to_verify J to)
      (λ q.
      let l : stop < to = ltb-true stop to q in
      record {
        phase = hold _ (t.0, omega (arith, le-leb));
        polls = ready_done n s.settings.poll_limit (J.last + 1 - J.from + off) left k (J.last + 1 - J.from + (stop + 1)) (omega arith) (omega arith);
      })
      (λ q. to_verify_lem J to (n + 1) t.0
      (ready_done n s.settings.poll_limit (J.last + 1 - J.from + off) left k (J.last + 1 - J.from + span_of J) (omega arith) (omega arith)))

  after_data : (a to off n left : ℕ) → write_rule s.settings (Writes.Data a to off) ≡ true
      → polls_left n s.settings.poll_limit (writes_behind (Writes.Data a to off)) left ≡ true
      → Ok s (n + 1) (after_write (page_of s.settings) (Writes.Data a to off))
  unfolding after_write next_write phase_rule write_rule writes_behind polls_rule other_ends
  after_data a to off n left h k =
      let t = held _ h in
      let most : off ≤ to = leb-true off to t.1.0 in
      let reach : a + (to + 1) ≤ 2 ^ 32 = accepted_32 s.settings a (to + 1) t.0 in
      let stop = part_last (page_of s.settings) a off to in
      let m : off ≤ stop = part_at (page_of s.settings) a off to (page_some s.settings) most in
      by_cond (Ok s (n + 1)) (ltb stop to) (Writing (Writes.Data a to (stop + 1)) false) (Ended Ends.Other Done)
      (λ q.
      let l : stop < to = ltb-true stop to q in
      record {
        phase = hold _ (t.0, omega (arith, le-leb));
        polls = ready_done n s.settings.poll_limit off left k (stop + 1) (omega arith) (omega arith);
      })
      (λ q. other (n + 1) Done refl (left_ended n s.settings.poll_limit off left k limits.1))

  after_write_lem : (c : WriteCommand) (n left : ℕ) → write_rule s.settings c ≡ true → polls_left n s.settings.poll_limit (writes_behind c) left ≡ true → Ok s (n + 1) (after_write (page_of s.settings) c)
  after_write_lem (Writes.Program J to off) n left h k = after_program J to off n left h k
  after_write_lem (Writes.Data a to off) n left h k = after_data a to off n left h k

  -- ---- which command a phase belongs to: its end by an answer that any command may have
  pub erase_end : (c : EraseCommand) (n : ℕ) (a : Answer) → other_ends a ≡ true → ((J : Job) → program_ends J true a ≡ true) → n ≤ 562941363552255
      → erase_rule s.settings (has_types s) c ≡ true → Ok s n (Ended (erase_ends c) a)
  unfolding erase_ends erase_rule
  erase_end Erases.Chip n a h g l r = other n a h l
  erase_end (Erases.Sectors p last) n a h g l r = other n a h l
  erase_end (Erases.Program J p) n a h g l r = program_end n J a true (job_order s.settings J (plan_job s.settings (has_types s) J (held _ r).0)) (g J) l

  pub write_end : (c : WriteCommand) (n : ℕ) (a : Answer) → other_ends a ≡ true → ((J : Job) → program_ends J true a ≡ true) → n ≤ 562941363552255
      → write_rule s.settings c ≡ true → Ok s n (Ended (write_ends c) a)
  unfolding write_ends write_rule
  write_end (Writes.Program J to off) n a h g l r = program_end n J a true (job_order s.settings J (written s.settings J to (held _ r).0).job) (g J) l
  write_end (Writes.Data x to off) n a h g l r = other n a h l

  busy_program : (J : Job) → program_ends J true Busy ≡ true
  unfolding program_ends
  busy_program J = refl

  busy_other : other_ends Busy ≡ true
  unfolding other_ends
  busy_other = refl

  -- ---- a poll is answered
  module _ (n left : ℕ) where
    still_erase : (c : EraseCommand) → poll_rule s.settings (has_types s) (Polls.Erase c) left ≡ true → wait_rule n s.settings.poll_limit (Polls.Erase c) left ≡ true
        → Ok s (n + 1) (still_busy (Polls.Erase c) left)
    unfolding still_busy phase_rule poll_rule polls_rule wait_rule
    still_erase c h k =
        let t = held _ h in
        let l : left < s.settings.poll_limit = ltb-true left s.settings.poll_limit t.1.0 in
        by_cond (Ok s (n + 1)) (eqb left 0) (Ended (erase_ends c) Busy) (Polling (Polls.Erase c) (left - 1))
        (λ q. erase_end c (n + 1) Busy busy_other busy_program (left_ended n s.settings.poll_limit (erases_behind c) left k limits.1) t.0)
        (λ q. record {
          phase = hold _ (t.0, (lt-ltb (left - 1) s.settings.poll_limit (omega arith), tt));
          polls = busy_left n s.settings.poll_limit (erases_behind c) left k l q;
        })

    still_write : (c : WriteCommand) → poll_rule s.settings (has_types s) (Polls.Write c) left ≡ true → wait_rule n s.settings.poll_limit (Polls.Write c) left ≡ true
        → Ok s (n + 1) (still_busy (Polls.Write c) left)
    unfolding still_busy phase_rule poll_rule polls_rule wait_rule
    still_write c h k =
        let t = held _ h in
        let l : left < s.settings.poll_limit = ltb-true left s.settings.poll_limit t.1.0 in
        by_cond (Ok s (n + 1)) (eqb left 0) (Ended (write_ends c) Busy) (Polling (Polls.Write c) (left - 1))
        (λ q. write_end c (n + 1) Busy busy_other busy_program (left_ended n s.settings.poll_limit (writes_behind c) left k limits.1) t.0)
        (λ q. record {
          phase = hold _ (t.0, (lt-ltb (left - 1) s.settings.poll_limit (omega arith), tt));
          polls = busy_left n s.settings.poll_limit (writes_behind c) left k l q;
        })

    pub poll_on_lem : (c : PollCommand) (r room : List ℕ) → poll_rule s.settings (has_types s) c left ≡ true → wait_rule n s.settings.poll_limit c left ≡ true
        → Ok s (n + 1) (poll_on s c left r room)
    unfolding poll_on after_polls still_busy other_ends poll_rule wait_rule
    poll_on_lem Polls.Once r room h k =
        let z : n ≡ 0 = eqb-true n 0 k in
        by_cond (Ok s (n + 1)) (ready (flagged s) (byte_at r 0)) (Ended Ends.Other (DoneBool false)) (Ended Ends.Other (DoneBool true))
        (λ q. other (n + 1) (DoneBool false) refl (omega arith)) (λ q. other (n + 1) (DoneBool true) refl (omega arith))
    poll_on_lem (Polls.Erase c) r room h k =
        by_cond (Ok s (n + 1)) (ready (flagged s) (byte_at r 0)) (after_erase s c room) (still_busy (Polls.Erase c) left)
        (λ q. after_erase_lem c room n left (held _ h).0 k) (λ q. still_erase c h k)
    poll_on_lem (Polls.Write c) r room h k =
        by_cond (Ok s (n + 1)) (ready (flagged s) (byte_at r 0)) (after_write (page_of s.settings) c) (still_busy (Polls.Write c) left)
        (λ q. after_write_lem c n left (held _ h).0 k) (λ q. still_write c h k)

  -- ---- verify: the byte that differs lies in the span
  abbrev Told : Job → Option Mismatch → Type 0
  Told J None = Unit {0}
  Told J (Some m) = differs_rule J m.address m.wrote m.read ≡ true

  differs_in : (J : Job) (i : ℕ) (l r : List ℕ) → J.verified ≡ true → J.base + i + length l ≤ J.top + 1 → J.top < 2 ^ 32 → Told J (first_differs J.base i l r)
  unfolding first_differs differs_rule
  differs_in J i [] r v h t = tt
  differs_in J i (x ∷ l) [] v h t = tt
  differs_in J i (x ∷ l) (y ∷ r) v h t = on (eqb x y) refl (differs_in J (suc i) l r v (omega arith) t)
    where
      at_is : (J.base + i) % 2 ^ 32 ≡ J.base + i
      at_is = mod-eq_of_lt (omega arith)

      on : (b : Bool) → eqb x y ≡ b → Told J (first_differs J.base (suc i) l r)
          → Told J (elim b [ true ↦ first_differs J.base (suc i) l r | false ↦ Some (record { address = (J.base + i) % 2 ^ 32; wrote = x; read = y }) ])
      on true e k = k
      on false e k = hold _ (v, (rw e refl, rw at_is (omega (arith, le-leb))))

  judged_ok : (J : Job) (n : ℕ) (x : Option Mismatch) → job_rule s.settings J ≡ true → polls_done n s.settings.poll_limit (J.last + 1 - J.from + span_of J) ≡ true → Told J x
      → Ok s n (judged J x)
  unfolding judged phase_rule verify_rule polls_rule verifies_behind program_ends
  judged_ok J n None j k d = program_end n J Done true (job_order s.settings J j) refl (done_ended n s.settings.poll_limit (J.last + 1 - J.from + span_of J) k limits.1)
  judged_ok J n (Some m) j k d = record { phase = hold _ (j, (d, tt)); polls = k }

  pub verify_on_lem : (c : VerifyCommand) (n : ℕ) (r room : List ℕ) → verify_rule s.settings c ≡ true → polls_done n s.settings.poll_limit (verifies_behind c) ≡ true → Ok s n (verify_on c r room)
  unfolding verify_on verify_rule verifies_behind program_ends
  verify_on_lem (Verifies.Compare J to) n r room h k =
      let t = held _ h in
      let w = written s.settings J to t.1.0 in
      let o = job_ordered_lem s.settings J w.job in
      let within : J.base + to ≤ J.top = w.within in
      judged_ok J n (first_differs J.base 0 (take (to + 1) room) r) w.job k
      (differs_in J 0 (take (to + 1) room) r t.0 (simp length-take (omega arith)) o.top)
  verify_on_lem (Verifies.Tell J m) n r room h k =
      let t = held _ h in
      program_end n J (ReadbackError m.address m.wrote m.read) true (job_order s.settings J t.0) (hold _ (refl, (t.1.0, tt)))
      (done_ended n s.settings.poll_limit (J.last + 1 - J.from + span_of J) k limits.1)

  -- ---- reset
  pub reset_on_lem : (c : ResetCommand) → reset_rule s c ≡ true → Ok s 0 (reset_on c)
  unfolding reset_on phase_rule polls_rule reset_rule other_ends
  reset_on_lem Resets.Enable h = record { phase = h; polls = refl }
  reset_on_lem Resets.Reset h = other 0 Done refl (omega arith)
  reset_on_lem Resets.F0 h = other 0 Done refl (omega arith)

  -- ---- an operation's opcode is answered: its polls
  pub polls_erase : (n : ℕ) (c : EraseCommand) → erase_rule s.settings (has_types s) c ≡ true → polls_done n s.settings.poll_limit (erases_behind c) ≡ true
      → rule_of (goes s n (to_polls s.settings.poll_limit (Polls.Erase c))) ≡ true
  unfolding to_polls phase_rule poll_rule polls_rule wait_rule
  polls_erase n c h k =
      let l : 1 ≤ s.settings.poll_limit = limits.0 in
      rw (ne_eqb s.settings.poll_limit 0 (omega arith))
      (in_phase_lem n (Polling (Polls.Erase c) (s.settings.poll_limit - 1)) (record {
        phase = hold _ (h, (lt-ltb (s.settings.poll_limit - 1) s.settings.poll_limit (omega arith), tt));
        polls = done_left n s.settings.poll_limit (erases_behind c) k l;
      }))

  pub polls_write : (n : ℕ) (c : WriteCommand) → write_rule s.settings c ≡ true → polls_done n s.settings.poll_limit (writes_behind c) ≡ true
      → rule_of (goes s n (to_polls s.settings.poll_limit (Polls.Write c))) ≡ true
  unfolding to_polls phase_rule poll_rule polls_rule wait_rule
  polls_write n c h k =
      let l : 1 ≤ s.settings.poll_limit = limits.0 in
      rw (ne_eqb s.settings.poll_limit 0 (omega arith))
      (in_phase_lem n (Polling (Polls.Write c) (s.settings.poll_limit - 1)) (record {
        phase = hold _ (h, (lt-ltb (s.settings.poll_limit - 1) s.settings.poll_limit (omega arith), tt));
        polls = done_left n s.settings.poll_limit (writes_behind c) k l;
      }))

  -- ---- a read is answered
  read_ended : (a : Answer) → other_ends a ≡ true → rule_of (ends s 0 Ends.Other a) ≡ true
  read_ended a h = in_phase_lem 0 (Ended Ends.Other a) (other 0 a h (omega arith))

  reading : (c : ReadCommand) → read_rule s.settings (has_types s) c ≡ true → rule_of (goes s 0 (Reading c)) ≡ true
  unfolding phase_rule polls_rule
  reading c h = in_phase_lem 0 (Reading c) (record { phase = h; polls = refl })

  told_lem : (e : SFDPError) → other_ends (refusal_of e) ≡ true
  unfolding other_ends
  told_lem Refusal.NoSFDP = refl
  told_lem Refusal.InvalidSFDPHeader = refl
  told_lem Refusal.InvalidSFDPParams = refl

  abbrev Small : Result SFDPParameterHeader SFDPError → Type 0
  Small (Unread e) = Unit {0}
  Small (Read h) = table_rule h.minor h.plen h.ptp ≡ true

  header_small : (r : List ℕ) → Bytes r → Small (read_header r)
  unfolding read_header parameter_header table_rule
  header_small r b =
      by_cond Small (signed r) (cond (basic (parameter_header r 8)) (Read (parameter_header r 8)) (Unread Refusal.InvalidSFDPHeader)) (Unread Refusal.NoSFDP)
      (λ t. by_cond Small (basic (parameter_header r 8)) (Read (parameter_header r 8)) (Unread Refusal.InvalidSFDPHeader)
      (λ u.
      let x : byte_at r 12 < 256 = b.below 12 in
      let y : byte_at r 13 < 256 = b.below 13 in
      let z : byte_at r 14 < 256 = b.below 14 in
      hold _ (lt-ltb _ _ (b.below 9), (lt-ltb _ _ (b.below 11), (lt-ltb (65536 * byte_at r 14 + 256 * byte_at r 13 + byte_at r 12) 16777216 (omega arith), tt))))
      (λ u. tt))
      (λ t. tt)

  headed : (h : Result SFDPParameterHeader SFDPError) → Small h → rule_of (goes s 0 (with_header h)) ≡ true
  unfolding with_header read_rule other_ends
  headed (Unread e) o = read_ended (refusal_of e) (told_lem e)
  headed (Read h) o = reading (Reads.Table h.minor h.plen h.ptp) o

  tabled : (minor plen : ℕ) (r : List ℕ) (t : Result FlashParams SFDPError) → read_table minor plen r ≡ t → rule_of (with_table s 0 t) ≡ true
  unfolding with_table rule_of phase_rule polls_rule end_rule other_ends
  tabled minor plen r (Unread x) e = read_ended (refusal_of x) (told_lem x)
  tabled minor plen r (Read p) e =
      hold _ (sound_settings _ (update_sound s.settings (settings_sound s.settings sound) minor plen r p e), (refl, (refl, tt)))

  id_ends : (more n : ℕ) (r : List ℕ) → other_ends (first_id more n r) ≡ true
  unfolding first_id other_ends
  id_ends zero n r = refl
  id_ends (suc more) n r = by_cond (λ (a : Answer). other_ends a ≡ true) (eqb (byte_at r n) 0x7F) (first_id more (n + 1) r) (id_at n r) (λ t. id_ends more (n + 1) r) (λ t. refl)

  pub read_on_lem : (c : ReadCommand) (r : List ℕ) → Bytes r → read_rule s.settings (has_types s) c ≡ true → rule_of (read_on s 0 c r) ≡ true
  unfolding read_on after_read read_rule other_ends
  read_on_lem (Reads.Read legacy a k) r b h = read_ended Done refl
  read_on_lem Reads.Header r b h = reading (Reads.Headers (byte_at r 6)) (lt-ltb (byte_at r 6) 256 (b.below 6))
  read_on_lem (Reads.Headers more) r b h = headed (read_header r) (header_small r b)
  read_on_lem (Reads.Table minor plen ptp) r b h = tabled minor plen r (read_table minor plen r) refl
  read_on_lem (Reads.Before J) r b h = in_phase_lem 0 (to_after J) (to_after_lem J (held _ h).0)
  read_on_lem (Reads.After J) r b h = in_phase_lem 0 (Erasing (Erases.Program J J.from) false) (plan_begins J (held _ h).0)
  read_on_lem Reads.Id r b h =
      by_cond (λ (p : Phase). rule_of (goes s 0 p) ≡ true) (eqb (byte_at r 0) 0x7F) (Reading Reads.IdAgain) (Ended Ends.Other (id_at 0 r))
      (λ t. reading Reads.IdAgain refl) (λ t. read_ended (id_at 0 r) refl)
  read_on_lem Reads.IdAgain r b h = read_ended (first_id 13 1 r) (id_ends 13 1 r)
  read_on_lem Reads.Protected r b h = read_ended _ refl
