-- The plan of moss_flash_make_erase_plan, its records read as include/moss_flash.h says.
use Rattle.std.specs.Prelude.{◌≡◌, List, [], ◌∷◌, ℕ, zero, suc, ◌/◌, ◌≤◌, length, drop}
use Rattle.erase_plan.specs.declared.EraseEntry.{EraseEntry}
use Rattle.erase_plan.specs.Good.{Each}
use Rattle.plans.specs.Planned.{plan_for, planned_of}
use Rattle.moss_flash.specs.Calls.{Called, opened_of}
use Rattle.moss_flash.specs.Plans.{query_of, plan_head, plan_called}
use Rattle.driver.specs.Driver.{Turn, Typed, first, reached}
use Rattle.driver.specs.Demand3.{after}
use Rattle.exported.specs.Exports.{number_at, exports}

-- an entry: opcode at 0, timed at 1, size at 4, base at 8, time at 12
abbrev pub entry_in : List ℕ → EraseEntry
entry_in l = record { opcode = number_at 0 1 l; timed = number_at 1 1 l; size = number_at 4 4 l; base = number_at 8 4 l; time = number_at 12 4 l }

-- so many of them, 16 bytes each
abbrev pub entries_in : ℕ → List ℕ → List EraseEntry
entries_in zero l = []
entries_in (suc n) l = entry_in l ∷ entries_in n (drop 16 l)

-- of a call for n bytes from a on: the number is that of the plan by what the session keeps, and where it is 0 C reads the plan
pub record PlanRead (ts : List Turn) (a n : ℕ) (slots : List ℕ) (y : Called) : Type 0 where
  pub number : y.number ≡ plan_head (planned_of (query_of (after ts) a n) (length slots / 16))
  pub entries : y.number ≡ 0 → entries_in (length (plan_for (query_of (after ts) a n))) y.room ≡ plan_for (query_of (after ts) a n)

-- whatever a host has done before
abbrev pub PlanShown : Type 0
PlanShown =
    (e : List ℕ) → 64 ≤ length e → (ts : List Turn) → Each Typed ts → (a n : ℕ) (slots : List ℕ)
    → PlanRead ts a n slots (plan_called (opened_of (reached (exports e) ts (first (exports e))).held (length e)) a n slots e)
