-- Sessions that meet the rule, and sessions that do not.
use Rattle.std.proofs.Common.{Some}
use mathlib.Core.Path.{◌≡◌, refl}
use mathlib.Core.Bool.{false}
use mathlib.Core.List.{[], ◌∷◌}
use lib.ListN.{replicate}
use Rattle.settings.specs.Limits.{with_poll_limit}
use Rattle.settings.specs.Ranges.{accepted_range}
use Rattle.erase_plan.specs.Types.{kept, present}
use Rattle.commands.specs.declared.Answer.TheVariants.{BadSession}
use Rattle.phases.specs.declared.Command.TheVariants as Ends
use Rattle.flash.specs.declared.Session.{Session}
use Rattle.phases.specs.Moves.{is_ended}
use Rattle.flash.specs.Steps.{ends}
use Rattle.flash.specs.Starts.{start_program, fresh, with_settings}
use Rattle.flash.specs.Waits.{told}
use native.Mathlib.Omega.{arith}
use Rattle.erase_plan.specs.Plan.{plan, plan_in, next_pos, entry_at, chosen, chosen_from, beats, cover, block_base, block_end}
use Rattle.erase_plan.specs.Span.{span_start, span_end, survey_of}
use Rattle.plans.specs.Available.{available, of_settings}
use Rattle.flash.specs.Starts.{begin_program}
use Rattle.phases.specs.Moves.{to_before, to_after}
use Rattle.phases.specs.Waits.{need_of, read_need}
use Rattle.flash.specs.Waits.{waits_on}
use Rattle.commands.specs.Host.{asks}
use Rattle.meaning.specs.Meaning.{sent_of, takes}
use Rattle.meaning.proofs.Rest.{meaning, seen}
use Rattle.rule.proofs.Fits.{rule_means}
use Rattle.rule.specs.Rule.{all, settings_rule, other_ends, end_rule, phase_rule, polls_rule, rule_of}
use Rattle.rule.specs.Kept.{Ruled}
use Rattle.rule.proofs.Starts.{keeps_rule}

-- a poll limit of 0
limit_0 : rule_of (with_settings fresh (with_poll_limit 0 fresh.settings)) ≡ false
unfolding rule_of all settings_rule
limit_0 = refl

-- the answer of a refused call
refusal_stored : rule_of (ends fresh 0 Ends.Other BadSession) ≡ false
unfolding rule_of all settings_rule phase_rule end_rule other_ends
refusal_stored = refl

-- docs/SCOPE.md's whole list: its settings, and its program, which runs
listed : Session
listed = with_settings fresh (record { address_bytes = 3; capacity = Some 1024; page_size = 256; erase_size = 256; erase_opcode = 0x20; poll_limit = 65535 })

listed_rule : Ruled listed
unfolding listed rule_of all settings_rule phase_rule end_rule other_ends polls_rule
listed_rule = refl

running : Session
running = (start_program listed 256 (1 ∷ 2 ∷ []) false (replicate 256 255)).out.session

running_rule : Ruled running
unfolding running
running_rule = keeps_rule.programs listed listed_rule 256 (1 ∷ 2 ∷ []) false (replicate 256 255)

-- it is the read of what is after the data, whose step means the script's next transaction
running_goes : is_ended running.phase ≡ false
unfolding running listed start_program begin_program accepted_range available of_settings present kept survey_of plan plan_in next_pos entry_at chosen chosen_from beats cover block_base block_end span_start span_end to_before to_after told is_ended
running_goes = refl

running_needs : need_of running.phase ≡ 256
unfolding running listed start_program begin_program accepted_range available of_settings present kept survey_of plan plan_in next_pos entry_at chosen chosen_from beats cover block_base block_end span_start span_end to_before to_after told is_ended need_of read_need
running_needs = refl

running_means : meaning running (replicate 256 255)
    ≡ asks (sent_of (waits_on running running.phase) (replicate 256 255)) (λ r. seen (takes running r (replicate 256 255)).out (takes running r (replicate 256 255)).room)
running_means = rule_means running (replicate 256 255) running_rule running_goes (omega (arith, running_needs))
