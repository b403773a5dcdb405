-- The plan that is asked for, and its answer: number, values, and what the lent slots hold at the end.
use Rattle.std.specs.Prelude.{ℕ, ◌+◌, Bool, cond, List, ◌++◌, eqb, leb, length, drop, Result, Ok, Err}
use Rattle.settings.specs.Ranges.{check_address_length}
use Rattle.settings.specs.declared.BadRange.{BadRange}
use Rattle.erase_plan.specs.declared.EraseType.{EraseType}
use Rattle.erase_plan.specs.declared.EraseEntry.{EraseEntry}
use Rattle.erase_plan.specs.Types.{present}
use Rattle.erase_plan.specs.Plan.{plan}
use Rattle.plans.specs.Available.{available}
use Rattle.plans.specs.declared.PlanQuery.{PlanQuery}
use Rattle.plans.specs.declared.PlanError.{PlanError}
use Rattle.plans.specs.declared.PlanError.TheVariants.{InvalidAddress, NoEraseInstruction, NoRoom}

-- ---- what is asked
-- the types to plan with
unfoldable pub types_for : PlanQuery → List EraseType
types_for q = present (available q.settings q.known q.params)

-- the plan of the range
unfoldable pub plan_for : PlanQuery → List EraseEntry
plan_for q = plan (types_for q) q.address (q.address + q.length)

-- the number of a refusal, as docs/SCOPE.md, Answer numbers, has it
abbrev pub error_number : PlanError → ℕ
error_number (InvalidAddress report) = 5
error_number NoEraseInstruction = 7
error_number (NoRoom n) = 11

-- ---- the answer: how many entries the plan has, or why there is none
-- refusals in order: 5 for the range, with its last address; 7 for no type; 11 for more entries than slots, with how many there are
abbrev pub answered : Result (Unit {0}) BadRange → (none : Bool) → (n room : ℕ) → Result ℕ PlanError
answered (Err report) none n room = Err (InvalidAddress report)
answered (Ok _) none n room = cond none (Err NoEraseInstruction) (cond (leb n room) (Ok n) (Err (NoRoom n)))

-- the answer to a query with so many slots lent
unfoldable pub planned_of : PlanQuery → ℕ → Result ℕ PlanError
planned_of q room =
    answered (check_address_length q.settings q.address q.length) (eqb (length (types_for q)) 0) (length (plan_for q)) room

-- where there is a plan its entries, then the slots that are left; else the slots as they were
abbrev pub filled : Result ℕ PlanError → (over as_were : List EraseEntry) → List EraseEntry
filled (Ok n) over as_were = over
filled (Err e) over as_were = as_were

unfoldable pub written_of : PlanQuery → List EraseEntry → List EraseEntry
written_of q slots = filled (planned_of q (length slots)) (plan_for q ++ drop (length (plan_for q)) slots) slots
