-- Starts, setters and steps keep the widths, where they keep the rule.
use Rattle.std.proofs.Common.{Some, None, Option, Result, Ok, Err, unwrap_or}
use Prim.Native.Nat.{ℕ, zero, suc, ◌+◌, ◌-◌, ◌%◌, ◌^◌, ◌≤◌, ◌<◌}
use mathlib.Core.Path.{◌≡◌, refl}
use mathlib.Core.Bool.{Bool, true, false}
use mathlib.Core.List.{List, [], ◌∷◌}
use native.Mathlib.Omega.{arith}
use lib.Dec.{eqb, ltb}
use lib.ListN.{length, get_or, take}
use borrow.Author.Tests.{ltb-true, leb-true}
use Rattle.sfdp.specs.declared.FlashParams.{FlashParams}
use Rattle.sfdp.specs.declared.SFDPParameterHeader.{SFDPParameterHeader}
use Rattle.sfdp.specs.declared.SFDPError.{SFDPError}
use Rattle.sfdp.specs.declared.SFDPError.TheVariants as Refusal
use Rattle.dwords.specs.Dwords.{byte_at}
use Rattle.sfdp.specs.Jesd216.{no_params, read_header, read_table}
use Rattle.settings.specs.Limits.{Sound, page_of}
use Rattle.erase_plan.specs.declared.NextEntry.{NextEntry}
use Rattle.erase_plan.specs.Good.{Each}
use Rattle.erase_plan.proofs.Lists.{by_cond, no_false}
use Rattle.commands.specs.Answers.{refusal_of}
use Rattle.commands.specs.declared.Answer.TheVariants.{Done, DoneBool, Access, Busy}
use Rattle.commands.specs.Transactions.{ready}
use Rattle.commands.specs.Commands.{id_at, first_id}
use Rattle.phases.specs.declared.Job.{Job}
use Rattle.phases.specs.declared.Mismatch.{Mismatch}
use Rattle.phases.specs.declared.ReadCommand.{ReadCommand}
use Rattle.phases.specs.declared.ReadCommand.TheVariants as Reads
use Rattle.phases.specs.declared.EraseCommand.{EraseCommand}
use Rattle.phases.specs.declared.EraseCommand.TheVariants as Erases
use Rattle.phases.specs.declared.WriteCommand.{WriteCommand}
use Rattle.phases.specs.declared.WriteCommand.TheVariants as Writes
use Rattle.phases.specs.declared.PollCommand.{PollCommand}
use Rattle.phases.specs.declared.PollCommand.TheVariants as Polls
use Rattle.phases.specs.declared.VerifyCommand.{VerifyCommand}
use Rattle.phases.specs.declared.VerifyCommand.TheVariants as Verifies
use Rattle.phases.specs.declared.ResetCommand.{ResetCommand}
use Rattle.phases.specs.declared.ResetCommand.TheVariants as Resets
use Rattle.phases.specs.declared.Command.TheVariants as Ends
use Rattle.phases.specs.declared.Phase.{Phase}
use Rattle.phases.specs.declared.Phase.TheVariants.{Reading, Erasing, Writing, Polling, Verifying, Resetting, Ended}
use Rattle.flash.specs.declared.Session.{Session}
use Rattle.phases.specs.Waits.{part_last, need_of}
use Rattle.flash.specs.Waits.{entry_for, flagged, told, in_phase}
use Rattle.phases.specs.Moves.{to_after, to_before, with_header, read_ends, erase_ends, write_ends, poll_ends, verify_ends, ends_as, to_polls, last_written, next_erase, next_write, to_verify, after_write, still_busy, first_differs, judged, verify_on, reset_on, is_ended, after_read}
use Rattle.flash.specs.Steps.{goes, with_table, read_on, after_erase, after_polls, poll_on, advanced, counted, is_full, Taken, step_of}
use Rattle.meaning.specs.Meaning.{Bytes}
use Rattle.rule.specs.Rule.{plan_rule, differs_rule, table_rule, read_rule, erase_rule, write_rule, poll_rule, verify_rule, has_types, phase_rule}
use Rattle.rule.specs.Kept.{Ruled, Whole}
use Rattle.packed.specs.Typed.{U8, U64, TypedParams, TypedJob, TypedCommand, TypedAnswer, TypedPhase, Typed}
use Rattle.rule.proofs.Tests.{held, settings_sound, plan_job, written}
use Rattle.rule.proofs.Steps.{rule_settings, rule_phase, few_polls}
use Rattle.rule.proofs.Params.{table_typed}
use Rattle.rule.proofs.Widths.{settings_typed, updated_opcode, updated_capacity, Narrow, job_typed, phase_typed}

-- ---- lists of bytes
bytes_each : (l : List ℕ) → Bytes l → Each U8 l
unfolding byte_at
bytes_each [] b = tt
bytes_each (x ∷ l) b = (b.below 0, bytes_each l (record { below = λ (i : ℕ). b.below (suc i) }))

each_take : (n : ℕ) (l : List ℕ) → Each U8 l → Each U8 (take n l)
each_take zero l b = tt
each_take (suc n) [] b = tt
each_take (suc n) (x ∷ l) b = (b.0, each_take n l b.1)

each_at : (l : List ℕ) → Each U8 l → (i : ℕ) → get_or l i 0 < 256
each_at [] b i = omega arith
each_at (x ∷ l) b zero = b.0
each_at (x ∷ l) b (suc i) = each_at l b.1 i

-- ---- what is kept beside the rule
pub record Wide (s : Session) : Type 0 where
  pub capacity : U64 (unwrap_or s.settings.capacity 0)
  pub opcode : U8 s.settings.erase_opcode
  pub params : TypedParams s.params
  pub none : s.known ≡ false → s.params ≡ no_params
  pub narrow : Narrow s.phase

narrow_of : (p : Phase) → TypedPhase p → Narrow p
narrow_of (Reading c) t = tt
narrow_of (Erasing c enabled) t = tt
narrow_of (Writing c enabled) t = tt
narrow_of (Polling c left) t = tt
narrow_of (Verifying (Verifies.Compare J to)) t = tt
narrow_of (Verifying (Verifies.Tell J m)) t = (t.1.wrote, t.1.read)
narrow_of (Resetting c) t = tt
narrow_of (Ended c a) t = t

pub wide_of : (s : Session) → Typed s → Wide s
wide_of s t = record { capacity = t.settings.capacity; opcode = t.settings.erase_opcode; params = t.params; none = t.none; narrow = narrow_of s.phase t.phase }

pub whole_of : (s : Session) → Wide s → Ruled s → Whole s
whole_of s w h =
    let o : Sound s.settings = settings_sound s.settings (rule_settings s h) in
    let f : s.polls ≤ 562941363552255 = few_polls s h in
    record {
      typed = record {
        settings = settings_typed s.settings o w.capacity w.opcode;
        params = w.params;
        none = w.none;
        phase = phase_typed s o.polls.1 s.phase (rule_phase s h) w.narrow;
        polls = omega arith;
      };
      ruled = h;
    }

-- ---- the step
module _ (s : Session) (w : Wide s) where
  pub wide_in : (p : Phase) (n : ℕ) → Narrow p → Wide (in_phase s p n)
  wide_in p n k = record { capacity = w.capacity; opcode = w.opcode; params = w.params; none = w.none; narrow = k }

  plan_typed : (J : Job) → plan_rule s.settings (has_types s) J ≡ true → TypedJob J
  plan_typed J h = job_typed s.settings J (plan_job s.settings (has_types s) J h)

  to_after_lem : (J : Job) → Narrow (to_after J)
  unfolding to_after
  to_after_lem J = by_cond Narrow (ltb J.last J.top) (Reading (Reads.After J)) (Erasing (Erases.Program J J.from) false) (λ t. tt) (λ t. tt)

  pub to_before_lem : (J : Job) → Narrow (to_before J)
  unfolding to_before
  to_before_lem J = by_cond Narrow (ltb J.base J.from) (Reading (Reads.Before J)) (to_after J) (λ t. tt) (λ t. to_after_lem J)

  id_typed : (more n : ℕ) (r : List ℕ) → Bytes r → more + n ≤ 256 → TypedAnswer (first_id more n r)
  unfolding first_id
  id_typed zero n r b h = tt
  id_typed (suc more) n r b h =
      let x : byte_at r (n + 1) < 256 = b.below (n + 1) in
      let y : byte_at r (n + 2) < 256 = b.below (n + 2) in
      by_cond TypedAnswer (eqb (byte_at r n) 0x7F) (first_id more (n + 1) r) (id_at n r)
      (λ t. id_typed more (n + 1) r b (omega arith))
      (λ t. (omega arith, b.below n, omega arith))

  told_typed : (e : SFDPError) → TypedAnswer (refusal_of e)
  told_typed Refusal.NoSFDP = tt
  told_typed Refusal.InvalidSFDPHeader = tt
  told_typed Refusal.InvalidSFDPParams = tt

  headed : (n : ℕ) (h : Result SFDPParameterHeader SFDPError) → Wide (goes s n (with_header h))
  unfolding with_header
  headed n (Err e) = wide_in _ n (tt, told_typed e)
  headed n (Ok h) = wide_in _ n tt

  tabled : (minor plen n : ℕ) (r : List ℕ) → Bytes r → U8 minor → (t : Result FlashParams SFDPError) → read_table minor plen r ≡ t → Wide (with_table s n t)
  unfolding with_table
  tabled minor plen n r b m (Err x) e = wide_in _ n (tt, told_typed x)
  tabled minor plen n r b m (Ok p) e =
      let t : TypedParams p = table_typed minor plen r p (each_at r (bytes_each r b)) m e in
      record {
        capacity = updated_capacity p t s.settings;
        opcode = updated_opcode p t s.settings w.opcode;
        params = t;
        none = λ (k : true ≡ false). no_false k;
        narrow = (tt, tt);
      }

  read_on_lem : (c : ReadCommand) (n : ℕ) (r : List ℕ) → Bytes r → read_rule s.settings (has_types s) c ≡ true → Wide (read_on s n c r)
  unfolding read_on after_read read_rule table_rule
  read_on_lem (Reads.Read legacy a k) n r b h = wide_in _ n (tt, tt)
  read_on_lem Reads.Header n r b h = wide_in _ n tt
  read_on_lem (Reads.Headers more) n r b h = headed n (read_header r)
  read_on_lem (Reads.Table minor plen ptp) n r b h = tabled minor plen n r b (ltb-true minor 256 (held _ h).0) (read_table minor plen r) refl
  read_on_lem (Reads.Before J) n r b h = wide_in (to_after J) n (to_after_lem J)
  read_on_lem (Reads.After J) n r b h = wide_in _ n tt
  read_on_lem Reads.Id n r b h =
      let x : byte_at r 1 < 256 = b.below 1 in
      let y : byte_at r 2 < 256 = b.below 2 in
      by_cond (λ (p : Phase). Wide (goes s n p)) (eqb (byte_at r 0) 0x7F) (Reading Reads.IdAgain) (Ended Ends.Other (id_at 0 r))
      (λ t. wide_in _ n tt) (λ t. wide_in (Ended Ends.Other (id_at 0 r)) n (tt, (omega arith, b.below 0, omega arith)))
  read_on_lem Reads.IdAgain n r b h = wide_in (Ended Ends.Other (first_id 13 1 r)) n (tt, id_typed 13 1 r b (omega arith))
  read_on_lem Reads.Protected n r b h = wide_in _ n (tt, tt)

  -- ---- the command that ends
  erase_command : (c : EraseCommand) → erase_rule s.settings (has_types s) c ≡ true → TypedCommand (erase_ends c)
  unfolding erase_ends erase_rule
  erase_command Erases.Chip h = tt
  erase_command (Erases.Sectors p last) h = tt
  erase_command (Erases.Program J p) h = plan_typed J (held _ h).0

  write_command : (c : WriteCommand) → write_rule s.settings c ≡ true → TypedCommand (write_ends c)
  unfolding write_ends write_rule
  write_command (Writes.Program J to off) h = job_typed s.settings J (written s.settings J to (held _ h).0).job
  write_command (Writes.Data a to off) h = tt

  poll_command : (c : PollCommand) (left : ℕ) → poll_rule s.settings (has_types s) c left ≡ true → TypedCommand (poll_ends c)
  unfolding poll_ends poll_rule
  poll_command Polls.Once left h = tt
  poll_command (Polls.Erase c) left h = erase_command c (held _ h).0
  poll_command (Polls.Write c) left h = write_command c (held _ h).0

  verify_command : (c : VerifyCommand) → verify_rule s.settings c ≡ true → TypedCommand (verify_ends c)
  unfolding verify_ends verify_rule
  verify_command (Verifies.Compare J to) h = job_typed s.settings J (written s.settings J to (held _ h).1.0).job
  verify_command (Verifies.Tell J m) h = job_typed s.settings J (held _ h).0

  read_command : (c : ReadCommand) → read_rule s.settings (has_types s) c ≡ true → TypedCommand (read_ends c)
  unfolding read_ends read_rule
  read_command (Reads.Read legacy a k) h = tt
  read_command Reads.Header h = tt
  read_command (Reads.Headers more) h = tt
  read_command (Reads.Table minor plen ptp) h = tt
  read_command (Reads.Before J) h = plan_typed J (held _ h).0
  read_command (Reads.After J) h = plan_typed J (held _ h).0
  read_command Reads.Id h = tt
  read_command Reads.IdAgain h = tt
  read_command Reads.Protected h = tt

  phase_command : (p : Phase) → is_ended p ≡ false → phase_rule s p ≡ true → TypedCommand (ends_as p)
  unfolding ends_as is_ended phase_rule
  phase_command (Reading c) e h = read_command c h
  phase_command (Erasing c enabled) e h = erase_command c h
  phase_command (Writing c enabled) e h = write_command c h
  phase_command (Polling c left) e h = poll_command c left h
  phase_command (Verifying c) e h = verify_command c h
  phase_command (Resetting c) e h = tt
  phase_command (Ended c a) e h = no_false e

  -- ---- polls
  next_erase_lem : (o : Option NextEntry) (last : ℕ) (on : ℕ → Phase) (over' : Phase) → ((q : ℕ) → Narrow (on q)) → Narrow over' → Narrow (next_erase o last on over')
  unfolding next_erase
  next_erase_lem None last on over' f g = g
  next_erase_lem (Some e) last on over' f g = by_cond Narrow (ltb e.stop last) (on (e.stop + 1)) over' (λ t. f (e.stop + 1)) (λ t. g)

  after_erase_lem : (c : EraseCommand) (room : List ℕ) → Narrow (after_erase s c room)
  unfolding after_erase
  after_erase_lem Erases.Chip room = (tt, tt)
  after_erase_lem (Erases.Sectors p last) room =
      next_erase_lem (entry_for s p last) last (λ q. Erasing (Erases.Sectors q last) false) (Ended Ends.Other Done) (λ q. tt) (tt, tt)
  after_erase_lem (Erases.Program J p) room =
      next_erase_lem (entry_for s p J.last) J.last (λ q. Erasing (Erases.Program J q) false) (Writing (Writes.Program J (last_written J room) 0) false) (λ q. tt) tt

  to_verify_lem : (J : Job) (to : ℕ) → TypedJob J → Narrow (to_verify J to)
  unfolding to_verify
  to_verify_lem J to j = by_cond Narrow J.verified (Verifying (Verifies.Compare J to)) (Ended (Ends.Program J true) Done) (λ t. tt) (λ t. (j, tt))

  after_write_lem : (c : WriteCommand) → write_rule s.settings c ≡ true → Narrow (after_write (page_of s.settings) c)
  unfolding after_write next_write write_rule
  after_write_lem (Writes.Program J to off) h =
      by_cond Narrow (ltb (part_last (page_of s.settings) J.base off to) to) _ (to_verify J to)
      (λ t. tt) (λ t. to_verify_lem J to (job_typed s.settings J (written s.settings J to (held _ h).0).job))
  after_write_lem (Writes.Data a to off) h =
      by_cond Narrow (ltb (part_last (page_of s.settings) a off to) to) _ (Ended Ends.Other Done) (λ t. tt) (λ t. (tt, tt))

  poll_on_lem : (c : PollCommand) (left : ℕ) (r room : List ℕ) → poll_rule s.settings (has_types s) c left ≡ true → Narrow (poll_on s c left r room)
  unfolding poll_on after_polls still_busy poll_rule
  poll_on_lem Polls.Once left r room h =
      by_cond Narrow (ready (flagged s) (byte_at r 0)) (Ended Ends.Other (DoneBool false)) (Ended Ends.Other (DoneBool true)) (λ t. (tt, tt)) (λ t. (tt, tt))
  poll_on_lem (Polls.Erase c) left r room h =
      by_cond Narrow (ready (flagged s) (byte_at r 0)) (after_erase s c room) _ (λ t. after_erase_lem c room)
      (λ t. by_cond Narrow (eqb left 0) (Ended (erase_ends c) Busy) (Polling (Polls.Erase c) (left - 1)) (λ u. (erase_command c (held _ h).0, tt)) (λ u. tt))
  poll_on_lem (Polls.Write c) left r room h =
      by_cond Narrow (ready (flagged s) (byte_at r 0)) (after_write (page_of s.settings) c) _ (λ t. after_write_lem c (held _ h).0)
      (λ t. by_cond Narrow (eqb left 0) (Ended (write_ends c) Busy) (Polling (Polls.Write c) (left - 1)) (λ u. (write_command c (held _ h).0, tt)) (λ u. tt))

  to_polls_lem : (c : PollCommand) (n : ℕ) → TypedCommand (poll_ends c) → Wide (goes s n (to_polls s.settings.poll_limit c))
  unfolding to_polls
  to_polls_lem c n k =
      by_cond (λ (p : Phase). Wide (goes s n p)) (eqb s.settings.poll_limit 0) (Ended (poll_ends c) Busy) (Polling c (s.settings.poll_limit - 1))
      (λ t. wide_in (Ended (poll_ends c) Busy) n (k, tt)) (λ t. wide_in _ n tt)

  to_polls_erase : (c : EraseCommand) (n : ℕ) → erase_rule s.settings (has_types s) c ≡ true → Wide (goes s n (to_polls s.settings.poll_limit (Polls.Erase c)))
  unfolding poll_ends
  to_polls_erase c n h = to_polls_lem (Polls.Erase c) n (erase_command c h)

  to_polls_write : (c : WriteCommand) (n : ℕ) → write_rule s.settings c ≡ true → Wide (goes s n (to_polls s.settings.poll_limit (Polls.Write c)))
  unfolding poll_ends
  to_polls_write c n h = to_polls_lem (Polls.Write c) n (write_command c h)

  -- ---- verify
  abbrev Differing : Option Mismatch → Type 0
  Differing None = Unit {0}
  Differing (Some m) = U8 m.wrote × U8 m.read

  differs_bytes : (base i : ℕ) (l r : List ℕ) → Each U8 l → Each U8 r → Differing (first_differs base i l r)
  unfolding first_differs
  differs_bytes base i [] r a b = tt
  differs_bytes base i (x ∷ l) [] a b = tt
  differs_bytes base i (x ∷ l) (y ∷ r) a b = on (eqb x y) (differs_bytes base (suc i) l r a.1 b.1)
    where
      on : (t : Bool) → Differing (first_differs base (suc i) l r)
          → Differing (elim t [ true ↦ first_differs base (suc i) l r | false ↦ Some (record { address = (base + i) % 2 ^ 32; wrote = x; read = y }) ])
      on true k = k
      on false k = (a.0, b.0)

  judged_narrow : (J : Job) (x : Option Mismatch) → TypedJob J → Differing x → Narrow (judged J x)
  unfolding judged
  judged_narrow J None j d = (j, tt)
  judged_narrow J (Some m) j d = d

  verify_on_lem : (c : VerifyCommand) (r room : List ℕ) → Bytes r → Bytes room → verify_rule s.settings c ≡ true → Narrow (Verifying c) → Narrow (verify_on c r room)
  unfolding verify_on verify_rule differs_rule
  verify_on_lem (Verifies.Compare J to) r room b q h k =
      judged_narrow J (first_differs J.base 0 (take (to + 1) room) r) (job_typed s.settings J (written s.settings J to (held _ h).1.0).job)
      (differs_bytes J.base 0 (take (to + 1) room) r (each_take (to + 1) room (bytes_each room q)) (bytes_each r b))
  verify_on_lem (Verifies.Tell J m) r room b q h k =
      let t = held _ h in
      let j : TypedJob J = job_typed s.settings J t.0 in
      let l : m.address ≤ J.top = leb-true m.address J.top (held _ t.1.0).1.1.1.0 in
      let n : J.top < 2 ^ 32 = j.top in
      (j, (omega arith, k.0, k.1))

  reset_on_lem : (c : ResetCommand) → Narrow (reset_on c)
  unfolding reset_on
  reset_on_lem Resets.Enable = tt
  reset_on_lem Resets.Reset = (tt, tt)
  reset_on_lem Resets.F0 = (tt, tt)

  goes_on_lem : (p : Phase) (n : ℕ) (r room : List ℕ) → is_ended p ≡ false → Bytes r → Bytes room → phase_rule s p ≡ true → Narrow p → Wide (advanced s n p r room)
  unfolding advanced is_ended phase_rule
  goes_on_lem (Reading c) n r room e b q h k = read_on_lem c n r b h
  goes_on_lem (Erasing c true) n r room e b q h k = to_polls_erase c n h
  goes_on_lem (Erasing c false) n r room e b q h k = wide_in _ n tt
  goes_on_lem (Writing c true) n r room e b q h k = to_polls_write c n h
  goes_on_lem (Writing c false) n r room e b q h k = wide_in _ n tt
  goes_on_lem (Polling c left) n r room e b q h k = wide_in (poll_on s c left r room) n (poll_on_lem c left r room h)
  goes_on_lem (Verifying c) n r room e b q h k = wide_in (verify_on c r room) n (verify_on_lem c r room b q h k)
  goes_on_lem (Resetting c) n r room e b q h k = wide_in (reset_on c) n (reset_on_lem c)
  goes_on_lem (Ended c a) n r room e b q h k = no_false e

  pub step_wide : (failed : Bool) (r room : List ℕ) → Bytes r → Bytes room → Ruled s → Wide (step_of s failed r room).out.session
  unfolding step_of told
  step_wide failed r room b q h =
      by_cond Fine (is_ended s.phase) (record { out = told s; room = room }) _ (λ t. w)
      (λ t. by_cond Fine (ltb (length room) (need_of s.phase)) _ _ (λ u. w)
      (λ u. by_cond Fine (is_full s failed r) _ _
      (λ v. goes_on_lem s.phase (counted s) r room t b q (rule_phase s h) w.narrow)
      (λ v. wide_in (Ended (ends_as s.phase) Access) (counted s) (phase_command s.phase t (rule_phase s h), tt))))
    where
      Fine : Taken → Type 0
      Fine x = Wide x.out.session
