-- A session that meets the rule is one of those that the meaning's theorems are about, with polls that do not wrap.
use Prim.Native.Nat.{ℕ, ◌+◌, ◌^◌, ◌≤◌}
use mathlib.Core.Path.{◌≡◌, refl, subst}
use mathlib.Core.Bool.{Bool, true, false}
use mathlib.Core.List.{List}
use native.Mathlib.Omega.{arith}
use lib.ListN.{length}
use borrow.Author.Tests.{ltb-true, leb-true}
use Rattle.settings.proofs.Laws.{accepted_32}
use Rattle.phases.specs.declared.Job.{Job}
use Rattle.phases.specs.declared.ReadCommand.{ReadCommand}
use Rattle.phases.specs.declared.ReadCommand.TheVariants as Reads
use Rattle.phases.specs.declared.EraseCommand.{EraseCommand}
use Rattle.phases.specs.declared.EraseCommand.TheVariants as Erases
use Rattle.phases.specs.declared.WriteCommand.{WriteCommand}
use Rattle.phases.specs.declared.WriteCommand.TheVariants as Writes
use Rattle.phases.specs.declared.PollCommand.{PollCommand}
use Rattle.phases.specs.declared.PollCommand.TheVariants as Polls
use Rattle.phases.specs.declared.VerifyCommand.{VerifyCommand}
use Rattle.phases.specs.declared.VerifyCommand.TheVariants as Verifies
use Rattle.commands.specs.declared.Answer.{Answer}
use Rattle.commands.specs.declared.Answer.TheVariants as Answers
use Rattle.erase_plan.proofs.Lists.{no_true}
use Rattle.phases.specs.declared.Command.{Command}
use Rattle.phases.specs.declared.Command.TheVariants as Ends
use Rattle.phases.specs.declared.Phase.{Phase}
use Rattle.phases.specs.declared.Phase.TheVariants.{Reading, Erasing, Writing, Polling, Verifying, Resetting, Ended}
use Rattle.flash.specs.declared.Session.{Session}
use Rattle.phases.specs.Waits.{need_of}
use Rattle.flash.specs.Waits.{types_of, waits_on}
use Rattle.phases.specs.Moves.{is_ended}
use Rattle.commands.specs.Host.{asks}
use Rattle.meaning.specs.Meaning.{sent_of, takes}
use Rattle.meaning.proofs.Rest.{Ordered, FitRead, FitErase, FitWrite, FitPoll, FitVerify, FitPhase, Fit, meaning, seen}
use Rattle.meaning.proofs.Follows.{step_means}
use Rattle.rule.specs.Rule.{plan_rule, table_rule, read_rule, erase_rule, write_rule, poll_rule, verify_rule, other_ends, program_ends, end_rule, has_types, phase_rule, rule_of}
use Rattle.rule.specs.Kept.{Ruled, is_refusal, Meets}
use Rattle.rule.proofs.Tests.{held, settings_sound, job_ordered_lem, plan_job, plan_types, written}
use Rattle.rule.proofs.Steps.{rule_settings, rule_phase, few_polls}

-- ---- the answers
other_answer : (a : Answer) → other_ends a ≡ true → is_refusal a ≡ false
unfolding other_ends is_refusal
other_answer Answers.Done h = refl
other_answer (Answers.DoneBool b) h = refl
other_answer (Answers.DoneId bank manufacturer device) h = refl
other_answer (Answers.ReadbackError address wrote read) h = refl
other_answer Answers.InvalidManufacturer h = refl
other_answer Answers.InvalidSFDPHeader h = refl
other_answer Answers.InvalidSFDPParams h = refl
other_answer (Answers.InvalidAddress report) h = no_true h
other_answer Answers.NoResetInstruction h = no_true h
other_answer Answers.NoEraseInstruction h = no_true h
other_answer Answers.Access h = refl
other_answer Answers.Busy h = refl
other_answer Answers.BadSetting h = no_true h
other_answer (Answers.NoRoom need) h = no_true h
other_answer Answers.NoSFDP h = refl
other_answer Answers.BadSession h = no_true h

program_answer : (J : Job) (gathered : Bool) (a : Answer) → program_ends J gathered a ≡ true → is_refusal a ≡ false
unfolding program_ends is_refusal
program_answer J gathered Answers.Done h = refl
program_answer J gathered (Answers.DoneBool b) h = refl
program_answer J gathered (Answers.DoneId bank manufacturer device) h = refl
program_answer J gathered (Answers.ReadbackError address wrote read) h = refl
program_answer J gathered Answers.InvalidManufacturer h = refl
program_answer J gathered Answers.InvalidSFDPHeader h = refl
program_answer J gathered Answers.InvalidSFDPParams h = refl
program_answer J gathered (Answers.InvalidAddress report) h = no_true h
program_answer J gathered Answers.NoResetInstruction h = no_true h
program_answer J gathered Answers.NoEraseInstruction h = no_true h
program_answer J gathered Answers.Access h = refl
program_answer J gathered Answers.Busy h = refl
program_answer J gathered Answers.BadSetting h = no_true h
program_answer J gathered (Answers.NoRoom need) h = no_true h
program_answer J gathered Answers.NoSFDP h = refl
program_answer J gathered Answers.BadSession h = no_true h

end_answer : (c : Command) (a : Answer) → end_rule c a ≡ true → is_refusal a ≡ false
unfolding end_rule
end_answer Ends.Other a h = other_answer a h
end_answer (Ends.Program J gathered) a h = program_answer J gathered a (held _ h).1.0

-- what a session that meets the rule is
pub rule_meets : (s : Session) → Ruled s → Meets s
unfolding phase_rule
rule_meets s h =
    let f : s.polls ≤ 562941363552255 = few_polls s h in
    record {
      limits = settings_sound s.settings (rule_settings s h);
      answers = λ c a e. end_answer c a (subst (λ (p : Phase). phase_rule s p ≡ true) e (rule_phase s h));
      few = omega arith;
    }

-- ---- the phases
module _ (s : Session) where
  plan_ordered : (J : Job) → plan_rule s.settings (has_types s) J ≡ true → Ordered J
  plan_ordered J h = job_ordered_lem s.settings J (plan_job s.settings (has_types s) J h)

  read_fits : (c : ReadCommand) → read_rule s.settings (has_types s) c ≡ true → FitRead s c
  unfolding read_rule table_rule
  read_fits (Reads.Read legacy a n) h = tt
  read_fits Reads.Header h = tt
  read_fits (Reads.Headers more) h = ltb-true more 256 h
  read_fits (Reads.Table minor plen ptp) h = ltb-true plen 256 (held _ h).1.0
  read_fits (Reads.Before J) h =
      let t = held _ h in
      (plan_ordered J t.0, ltb-true 0 (length (types_of s)) (plan_types s.settings (has_types s) J t.0))
  read_fits (Reads.After J) h =
      let t = held _ h in
      (plan_ordered J t.0, (ltb-true J.last J.top t.1.0, ltb-true 0 (length (types_of s)) (plan_types s.settings (has_types s) J t.0)))
  read_fits Reads.Id h = tt
  read_fits Reads.IdAgain h = tt
  read_fits Reads.Protected h = tt

  erase_fits : (c : EraseCommand) → erase_rule s.settings (has_types s) c ≡ true → FitErase c
  unfolding erase_rule
  erase_fits Erases.Chip h = tt
  erase_fits (Erases.Sectors p last) h = tt
  erase_fits (Erases.Program J p) h = plan_ordered J (held _ h).0

  write_fits : (c : WriteCommand) → write_rule s.settings c ≡ true → FitWrite c
  unfolding write_rule
  write_fits (Writes.Program J to off) h =
      let t = held _ h in
      let w = written s.settings J to t.0 in
      (job_ordered_lem s.settings J w.job, (w.within, leb-true off to t.1.0))
  write_fits (Writes.Data a to off) h =
      let t = held _ h in
      let r : a + (to + 1) ≤ 2 ^ 32 = accepted_32 s.settings a (to + 1) t.0 in
      (omega arith, leb-true off to t.1.0)

  poll_fits : (c : PollCommand) (left : ℕ) → poll_rule s.settings (has_types s) c left ≡ true → FitPoll c
  unfolding poll_rule
  poll_fits Polls.Once left h = tt
  poll_fits (Polls.Erase c) left h = erase_fits c (held _ h).0
  poll_fits (Polls.Write c) left h = write_fits c (held _ h).0

  verify_fits : (c : VerifyCommand) → verify_rule s.settings c ≡ true → FitVerify c
  unfolding verify_rule
  verify_fits (Verifies.Compare J to) h =
      let w = written s.settings J to (held _ h).1.0 in
      (job_ordered_lem s.settings J w.job, w.within)
  verify_fits (Verifies.Tell J m) h = job_ordered_lem s.settings J (held _ h).0

  phase_fits : (p : Phase) → phase_rule s p ≡ true → FitPhase s p
  unfolding phase_rule
  phase_fits (Reading c) h = read_fits c h
  phase_fits (Erasing c enabled) h = erase_fits c h
  phase_fits (Writing c enabled) h = write_fits c h
  phase_fits (Polling c left) h = poll_fits c left h
  phase_fits (Verifying c) h = verify_fits c h
  phase_fits (Resetting c) h = tt
  phase_fits (Ended c a) h = tt

  pub rule_fits : rule_of s ≡ true → Fit s
  rule_fits h = phase_fits s.phase (rule_phase s h)

  -- so that each step of it is the next one of what it means
  pub rule_means : (room : List ℕ) → rule_of s ≡ true → is_ended s.phase ≡ false → need_of s.phase ≤ length room
      → meaning s room ≡ asks (sent_of (waits_on s s.phase) room) (λ r. seen (takes s r room).out (takes s r room).room)
  rule_means room h e l = let f = few_polls s h in step_means s room (rule_fits h) e l (omega arith)
