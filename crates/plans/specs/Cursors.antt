-- As the code goes along a plan: where it starts, the entry at a cursor, and the cursor past it.
use Rattle.std.specs.Prelude.{ℕ, ◌+◌, ◌-◌, ◌≡◌, Bool, true, false, cond, ◌||◌, List, [], eqb, leb, ltb, length, Result, Ok, Err, Option, Some, None}
use Rattle.settings.specs.Ranges.{check_address_length}
use Rattle.settings.specs.declared.BadRange.{BadRange}
use Rattle.erase_plan.specs.declared.EraseEntry.{EraseEntry}
use Rattle.erase_plan.specs.declared.NextEntry.{NextEntry}
use Rattle.erase_plan.specs.Types.{present}
use Rattle.erase_plan.specs.Plan.{plan, next_of}
use Rattle.erase_plan.specs.Later.{Even, OnAll}
use Rattle.erase_plan.specs.Marks.{is_even}
use Rattle.plans.specs.Available.{available}
use Rattle.plans.specs.Planned.{types_for, plan_for}
use Rattle.plans.specs.declared.PlanQuery.{PlanQuery}
use Rattle.plans.specs.declared.Cursor.{Cursor}
use Rattle.plans.specs.declared.Step.{Step}
use Rattle.plans.specs.declared.PlanError.{PlanError}
use Rattle.plans.specs.declared.PlanError.TheVariants.{InvalidAddress, NoEraseInstruction, NoRoom}

-- ---- the start: a refusal, or the number of entries, and where they are found
abbrev pub cursor_for : PlanQuery → Cursor
cursor_for q = record { types = available q.settings q.known q.params; at = q.address; last = q.address + q.length - 1; later = false }

abbrev pub after_checks : Result (Unit {0}) BadRange → Bool → ℕ × Cursor → Result (ℕ × Cursor) PlanError
after_checks (Err report) none ready = Err (InvalidAddress report)
after_checks (Ok _) none ready = cond none (Err NoEraseInstruction) (Ok ready)

unfoldable pub begun_of : PlanQuery → Result (ℕ × Cursor) PlanError
begun_of q =
    after_checks (check_address_length q.settings q.address q.length) (eqb (length (types_for q)) 0)
    (length (plan_for q), cursor_for q)

-- the answer of a start with so many slots lent
abbrev pub answer_of : Result (ℕ × Cursor) PlanError → ℕ → Result ℕ PlanError
answer_of (Err e) room = Err e
answer_of (Ok x) room = cond (leb x.0 room) (Ok x.0) (Err (NoRoom x.0))

-- ---- along the plan
-- the entries from a cursor on
abbrev pub ahead : Cursor → List EraseEntry
ahead c = plan (present c.types) c.at (c.last + 1)

-- none where there is no cursor: the plan is over
abbrev pub ahead_of : Option Cursor → List EraseEntry
ahead_of None = []
ahead_of (Some c) = ahead c

-- a cursor's mark is true
pub record Kept (c : Cursor) : Type 0 where
  pub marked : c.later ≡ true → Even (present c.types) × OnAll c.at (present c.types)

-- the entry at a cursor and the cursor past it, where the plan goes on
abbrev pub moved : Cursor → ℕ → Cursor
moved c at = record { types = c.types; at = at; last = c.last; later = c.later || is_even c.types }

abbrev pub step_from : Cursor → Option NextEntry → Option Step
step_from c None = None
step_from c (Some x) = Some (record { entry = x.entry; next = cond (ltb x.stop c.last) (Some (moved c (x.stop + 1))) None })

unfoldable pub step_of : Cursor → Option Step
step_of c = step_from c (next_of (present c.types) c.at (c.last + 1))
