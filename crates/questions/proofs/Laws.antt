-- The span of an accepted range, by the types and the last address as the code has them.
use Rattle.std.proofs.Common.{Ok}
use Prim.Native.Nat.{ℕ, ◌+◌, ◌-◌}
use mathlib.Core.Path.{◌≡◌, refl}
use mathlib.Core.Bool.{false}
use lib.Dec.{eqb}
use lib.ListN.{length}
use Rattle.settings.specs.Ranges.{check_address_length}
use Rattle.erase_plan.specs.declared.EraseTypes.{EraseTypes}
use Rattle.erase_plan.specs.declared.Surveyed.{Surveyed}
use Rattle.erase_plan.specs.Types.{present}
use Rattle.erase_plan.specs.Plan.{plan}
use Rattle.erase_plan.specs.Span.{survey_of}
use Rattle.plans.specs.declared.PlanQuery.{PlanQuery}
use Rattle.plans.specs.Available.{available}
use Rattle.plans.specs.Planned.{types_for, plan_for}
use Rattle.questions.specs.Spans.{limited, spanned_of}

pub span_known : (q : PlanQuery) (ts : EraseTypes) (last : ℕ) (x : Surveyed) → check_address_length q.settings q.address q.length ≡ Ok tt
    → ts ≡ available q.settings q.known q.params → eqb (length (present ts)) 0 ≡ false → last + 1 ≡ q.address + q.length
    → x ≡ survey_of (plan (present ts) q.address (last + 1)) → limited q.settings x.first (x.end - x.first) ≡ spanned_of q
unfolding spanned_of types_for plan_for survey_of
span_known q ts last x h e n l y = rw (h, ← e, n, y, l) refl
