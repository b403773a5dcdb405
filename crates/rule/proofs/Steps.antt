-- THE STEP hands back a session that meets the rule.
use Rattle.std.proofs.Common.{Some, None, Option}
use Prim.Native.Nat.{ℕ, ◌+◌, ◌≤◌}
use mathlib.Core.Path.{◌≡◌, refl, sym, ◌∙◌, subst}
use mathlib.Core.Bool.{Bool, true, false, cond}
use mathlib.Core.List.{List}
use native.Mathlib.Omega.{arith}
use lib.Dec.{ltb}
use lib.ListN.{length}
use borrow.Author.Tests.{leb-true, eqb-true}
use Rattle.settings.specs.declared.Settings.{Settings}
use Rattle.erase_plan.specs.declared.NextEntry.{NextEntry}
use Rattle.erase_plan.proofs.Lists.{by_cond, no_false}
use Rattle.commands.specs.declared.Answer.TheVariants.{Access}
use Rattle.phases.specs.declared.Job.{Job}
use Rattle.phases.specs.declared.ReadCommand.{ReadCommand}
use Rattle.phases.specs.declared.ReadCommand.TheVariants as Reads
use Rattle.phases.specs.declared.EraseCommand.{EraseCommand}
use Rattle.phases.specs.declared.EraseCommand.TheVariants as Erases
use Rattle.phases.specs.declared.WriteCommand.{WriteCommand}
use Rattle.phases.specs.declared.WriteCommand.TheVariants as Writes
use Rattle.phases.specs.declared.PollCommand.{PollCommand}
use Rattle.phases.specs.declared.PollCommand.TheVariants as Polls
use Rattle.phases.specs.declared.VerifyCommand.{VerifyCommand}
use Rattle.phases.specs.declared.VerifyCommand.TheVariants as Verifies
use Rattle.phases.specs.declared.ResetCommand.{ResetCommand}
use Rattle.phases.specs.declared.ResetCommand.TheVariants as Resets
use Rattle.phases.specs.declared.Phase.{Phase}
use Rattle.phases.specs.declared.Phase.TheVariants.{Reading, Erasing, Writing, Polling, Verifying, Resetting, Ended}
use Rattle.flash.specs.declared.Session.{Session}
use Rattle.phases.specs.Waits.{read_tx, block_tx, page_tx, write_tx, verify_tx, reset_tx, need_of}
use Rattle.flash.specs.Waits.{entry_for, erase_tx, poll_tx, waits_on, told, page_pause}
use Rattle.phases.specs.Moves.{read_ends, poll_ends, verify_ends, ends_as, reset_on, is_ended}
use Rattle.flash.specs.Steps.{ends, advanced, counted, is_full, Taken, step_of}
use Rattle.meaning.specs.Meaning.{Bytes}
use Rattle.meaning.proofs.Stepping.{counted_is}
use Rattle.rule.specs.Rule.{settings_rule, read_rule, poll_rule, verify_rule, other_ends, program_ends, has_types, phase_rule, erases_behind, writes_behind, verifies_behind, wait_rule, polls_rule, rule_of}
use Rattle.rule.proofs.Tests.{held, settings_sound, job_order, plan_job, written}
use Rattle.rule.proofs.Polls.{left_ended, done_ended}
use Rattle.rule.proofs.Goes.{Ok, in_phase_lem, other, program_end, erase_end, write_end, poll_on_lem, verify_on_lem, reset_on_lem, polls_erase, polls_write, read_on_lem}

-- ---- the polls after a reply
abbrev pub issued : Phase → ℕ → ℕ
issued (Reading c) n = n
issued (Erasing c enabled) n = n
issued (Writing c enabled) n = n
issued (Polling c left) n = n + 1
issued (Verifying c) n = n
issued (Resetting c) n = n
issued (Ended c a) n = n

block_poll : (bytes : ℕ) (o : Option NextEntry) → (block_tx bytes o).poll ≡ false
unfolding block_tx
block_poll bytes None = refl
block_poll bytes (Some e) = refl

read_poll : (x : Settings) (c : ReadCommand) → (read_tx x c).poll ≡ false
unfolding read_tx
read_poll x (Reads.Read true a n) = refl
read_poll x (Reads.Read false a n) = refl
read_poll x Reads.Header = refl
read_poll x (Reads.Headers more) = refl
read_poll x (Reads.Table minor plen ptp) = refl
read_poll x (Reads.Before J) = refl
read_poll x (Reads.After J) = refl
read_poll x Reads.Id = refl
read_poll x Reads.IdAgain = refl
read_poll x Reads.Protected = refl

erase_poll : (s : Session) (c : EraseCommand) → (erase_tx s c).poll ≡ false
unfolding erase_tx
erase_poll s Erases.Chip = refl
erase_poll s (Erases.Sectors p last) = block_poll s.settings.address_bytes (entry_for s p last)
erase_poll s (Erases.Program J p) = block_poll s.settings.address_bytes (entry_for s p J.last)

write_poll : (x : Settings) (pause : ℕ) (c : WriteCommand) → (write_tx x pause c).poll ≡ false
unfolding write_tx page_tx
write_poll x pause (Writes.Program J to off) = refl
write_poll x pause (Writes.Data a to off) = refl

verify_poll : (bytes : ℕ) (c : VerifyCommand) → (verify_tx bytes c).poll ≡ false
unfolding verify_tx
verify_poll bytes (Verifies.Compare J to) = refl
verify_poll bytes (Verifies.Tell J m) = refl

reset_poll : (c : ResetCommand) → (reset_tx c).poll ≡ false
unfolding reset_tx
reset_poll Resets.Enable = refl
reset_poll Resets.Reset = refl
reset_poll Resets.F0 = refl

none_more : (n : ℕ) (t : Bool) → t ≡ false → n + cond t 1 0 ≡ n
none_more n true e = no_false e
none_more n false e = omega arith

polls_after : (s : Session) (p : Phase) (n : ℕ) → n + cond (waits_on s p).poll 1 0 ≡ issued p n
unfolding waits_on poll_tx
polls_after s (Reading c) n = none_more n _ (read_poll s.settings c)
polls_after s (Erasing c true) n = none_more n _ (erase_poll s c)
polls_after s (Erasing c false) n = none_more n false refl
polls_after s (Writing c true) n = none_more n _ (write_poll s.settings (page_pause s) c)
polls_after s (Writing c false) n = none_more n false refl
polls_after s (Polling c left) n = refl
polls_after s (Verifying c) n = none_more n _ (verify_poll s.settings.address_bytes c)
polls_after s (Resetting c) n = none_more n _ (reset_poll c)
polls_after s (Ended c a) n = none_more n false refl

-- ---- few polls
waits_few : (n limit : ℕ) (c : PollCommand) (left : ℕ) → limit ≤ 65535 → wait_rule n limit c left ≡ true → n + 1 ≤ 562941363552255
unfolding wait_rule
waits_few n limit Polls.Once left l h = let z : n ≡ 0 = eqb-true n 0 h in omega arith
waits_few n limit (Polls.Erase c) left l h = left_ended n limit (erases_behind c) left h l
waits_few n limit (Polls.Write c) left l h = left_ended n limit (writes_behind c) left h l

polls_few : (n limit : ℕ) (p : Phase) → limit ≤ 65535 → polls_rule n limit p ≡ true → n ≤ 562941363552255
unfolding polls_rule
polls_few n limit (Reading c) l h = let z : n ≡ 0 = eqb-true n 0 h in omega arith
polls_few n limit (Erasing c enabled) l h = done_ended n limit (erases_behind c) h l
polls_few n limit (Writing c enabled) l h = done_ended n limit (writes_behind c) h l
polls_few n limit (Polling c left) l h = let w : n + 1 ≤ 562941363552255 = waits_few n limit c left l h in omega arith
polls_few n limit (Verifying c) l h = done_ended n limit (verifies_behind c) h l
polls_few n limit (Resetting c) l h = let z : n ≡ 0 = eqb-true n 0 h in omega arith
polls_few n limit (Ended c a) l h = leb-true _ _ h

-- ---- the rule's three parts
module _ (s : Session) (h : rule_of s ≡ true) where
  pub rule_settings : settings_rule s.settings ≡ true
  unfolding rule_of
  rule_settings = (held _ h).0

  pub rule_phase : phase_rule s s.phase ≡ true
  unfolding rule_of
  rule_phase = (held _ h).1.0

  pub rule_polls : polls_rule s.polls s.settings.poll_limit s.phase ≡ true
  unfolding rule_of
  rule_polls = (held _ h).1.1.0

  pub few_polls : s.polls ≤ 562941363552255
  few_polls = polls_few s.polls s.settings.poll_limit s.phase (settings_sound s.settings rule_settings).polls.1 rule_polls

  pub counted_after : counted s ≡ issued s.phase s.polls
  counted_after = let f = few_polls in counted_is s (omega arith) ∙ polls_after s s.phase s.polls

-- ---- after a full reply, and after any other
module _ (s : Session) (sound : settings_rule s.settings ≡ true) where
  abbrev limit : ℕ
  limit = s.settings.poll_limit

  goes_on_lem : (p : Phase) (n : ℕ) (r room : List ℕ) → is_ended p ≡ false → Bytes r → phase_rule s p ≡ true → polls_rule n s.settings.poll_limit p ≡ true
      → rule_of (advanced s (issued p n) p r room) ≡ true
  unfolding advanced is_ended phase_rule polls_rule
  goes_on_lem (Reading c) n r room e b h k = rw (eqb-true n 0 k) (read_on_lem s sound c r b h)
  goes_on_lem (Erasing c true) n r room e b h k = polls_erase s sound n c h k
  goes_on_lem (Erasing c false) n r room e b h k = in_phase_lem s sound n (Erasing c true) (record { phase = h; polls = k })
  goes_on_lem (Writing c true) n r room e b h k = polls_write s sound n c h k
  goes_on_lem (Writing c false) n r room e b h k = in_phase_lem s sound n (Writing c true) (record { phase = h; polls = k })
  goes_on_lem (Polling c left) n r room e b h k = in_phase_lem s sound (n + 1) _ (poll_on_lem s sound n left c r room h k)
  goes_on_lem (Verifying c) n r room e b h k = in_phase_lem s sound n _ (verify_on_lem s sound c n r room h k)
  goes_on_lem (Resetting c) n r room e b h k = rw (eqb-true n 0 k) (in_phase_lem s sound 0 (reset_on c) (reset_on_lem s sound c h))
  goes_on_lem (Ended c a) n r room e b h k = no_false e

  access_program : (J : Job) (gathered : Bool) → program_ends J gathered Access ≡ true
  unfolding program_ends
  access_program J gathered = refl

  access_other : other_ends Access ≡ true
  unfolding other_ends
  access_other = refl

  read_breaks : (c : ReadCommand) → read_rule s.settings (has_types s) c ≡ true → Ok s 0 (Ended (read_ends c) Access)
  unfolding read_ends read_rule
  read_breaks (Reads.Read legacy a k) h = other s sound 0 Access access_other (omega arith)
  read_breaks Reads.Header h = other s sound 0 Access access_other (omega arith)
  read_breaks (Reads.Headers more) h = other s sound 0 Access access_other (omega arith)
  read_breaks (Reads.Table minor plen ptp) h = other s sound 0 Access access_other (omega arith)
  read_breaks (Reads.Before J) h =
      program_end s sound 0 J Access false (job_order s.settings J (plan_job s.settings (has_types s) J (held _ h).0)) (access_program J false) (omega arith)
  read_breaks (Reads.After J) h =
      program_end s sound 0 J Access false (job_order s.settings J (plan_job s.settings (has_types s) J (held _ h).0)) (access_program J false) (omega arith)
  read_breaks Reads.Id h = other s sound 0 Access access_other (omega arith)
  read_breaks Reads.IdAgain h = other s sound 0 Access access_other (omega arith)
  read_breaks Reads.Protected h = other s sound 0 Access access_other (omega arith)

  poll_breaks : (c : PollCommand) (n left : ℕ) → n ≤ 562941363552255 → poll_rule s.settings (has_types s) c left ≡ true → Ok s n (Ended (poll_ends c) Access)
  unfolding poll_ends poll_rule
  poll_breaks Polls.Once n left l h = other s sound n Access access_other l
  poll_breaks (Polls.Erase c) n left l h = erase_end s sound c n Access access_other (λ J. access_program J true) l (held _ h).0
  poll_breaks (Polls.Write c) n left l h = write_end s sound c n Access access_other (λ J. access_program J true) l (held _ h).0

  verify_breaks : (c : VerifyCommand) (n : ℕ) → n ≤ 562941363552255 → verify_rule s.settings c ≡ true → Ok s n (Ended (verify_ends c) Access)
  unfolding verify_ends verify_rule
  verify_breaks (Verifies.Compare J to) n l h =
      program_end s sound n J Access true (job_order s.settings J (written s.settings J to (held _ h).1.0).job) (access_program J true) l
  verify_breaks (Verifies.Tell J m) n l h = program_end s sound n J Access true (job_order s.settings J (held _ h).0) (access_program J true) l

  breaks : (p : Phase) (n : ℕ) → is_ended p ≡ false → phase_rule s p ≡ true → polls_rule n s.settings.poll_limit p ≡ true → Ok s (issued p n) (Ended (ends_as p) Access)
  unfolding ends_as is_ended phase_rule polls_rule
  breaks (Reading c) n e h k = rw (eqb-true n 0 k) (read_breaks c h)
  breaks (Erasing c enabled) n e h k =
      erase_end s sound c n Access access_other (λ J. access_program J true) (done_ended n limit (erases_behind c) k (settings_sound s.settings sound).polls.1) h
  breaks (Writing c enabled) n e h k =
      write_end s sound c n Access access_other (λ J. access_program J true) (done_ended n limit (writes_behind c) k (settings_sound s.settings sound).polls.1) h
  breaks (Polling c left) n e h k = poll_breaks c (n + 1) left (waits_few n limit c left (settings_sound s.settings sound).polls.1 k) h
  breaks (Verifying c) n e h k = verify_breaks c n (done_ended n limit (verifies_behind c) k (settings_sound s.settings sound).polls.1) h
  breaks (Resetting c) n e h k = other s sound n Access access_other (let z : n ≡ 0 = eqb-true n 0 k in omega arith)
  breaks (Ended c a) n e h k = no_false e

pub step_rule : (s : Session) (failed : Bool) (r room : List ℕ) → Bytes r → rule_of s ≡ true → rule_of (step_of s failed r room).out.session ≡ true
unfolding step_of told
step_rule s failed r room b h =
    by_cond Good (is_ended s.phase) (record { out = told s; room = room }) _ (λ t. h)
    (λ t. by_cond Good (ltb (length room) (need_of s.phase)) _ _ (λ u. h)
    (λ u. by_cond Good (is_full s failed r) _ _
    (λ v. subst (λ (n : ℕ). rule_of (advanced s n s.phase r room) ≡ true) (sym (counted_after s h))
    (goes_on_lem s (rule_settings s h) s.phase s.polls r room t b (rule_phase s h) (rule_polls s h)))
    (λ v. subst (λ (n : ℕ). rule_of (ends s n (ends_as s.phase) Access) ≡ true) (sym (counted_after s h))
    (in_phase_lem s (rule_settings s h) (issued s.phase s.polls) (Ended (ends_as s.phase) Access)
    (breaks s (rule_settings s h) s.phase s.polls t (rule_phase s h) (rule_polls s h))))))
  where
    Good : Taken → Type 0
    Good x = rule_of x.out.session ≡ true
