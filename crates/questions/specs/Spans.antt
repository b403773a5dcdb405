-- The span of a program: what it would erase and write again.
use Rattle.std.specs.Prelude.{ℕ, ◌-◌, cond, eqb, length, Ok, Err, Result}
use Rattle.settings.specs.declared.Settings.{Settings}
use Rattle.settings.specs.declared.BadRange.{BadRange}
use Rattle.settings.specs.Ranges.{check_address_length}
use Rattle.erase_plan.specs.Span.{span_start, span_end}
use Rattle.plans.specs.declared.PlanQuery.{PlanQuery}
use Rattle.plans.specs.declared.PlanError.{PlanError}
use Rattle.plans.specs.declared.PlanError.TheVariants.{InvalidAddress, NoEraseInstruction}
use Rattle.plans.specs.Planned.{types_for, plan_for}
use Rattle.questions.specs.declared.Span.{Span}

-- 5 for a range that the limits do not allow, with what it reports
abbrev pub unless_bad : Result (Unit {0}) BadRange → Result Span PlanError → Result Span PlanError
unless_bad (Err report) next = Err (InvalidAddress report)
unless_bad (Ok _) next = next

-- n bytes from a span's first address on, if the limits allow them
unfoldable pub limited : Settings → ℕ → ℕ → Result Span PlanError
limited s first n = unless_bad (check_address_length s first n) (Ok (record { first = first; len = n }))

-- a program's refusals in their order: 5 for the range, 7, 5 for the span; else the span of its plan
unfoldable pub spanned_of : PlanQuery → Result Span PlanError
spanned_of q =
    unless_bad (check_address_length q.settings q.address q.length)
    (cond (eqb (length (types_for q)) 0) (Err NoEraseInstruction)
    (limited q.settings (span_start (plan_for q)) (span_end (plan_for q) - span_start (plan_for q))))
