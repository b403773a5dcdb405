-- The span of a plan, and the check of it before sectors are erased.
use Rattle.std.specs.Prelude.{ℕ, ◌+◌, ◌%◌, cond, Result, Ok, Err, List, [], ◌∷◌, length, nat_lt}
use Rattle.erase_plan.specs.declared.EraseType.{EraseType}
use Rattle.erase_plan.specs.declared.EraseEntry.{EraseEntry}
use Rattle.erase_plan.specs.declared.Surveyed.{Surveyed}
use Rattle.erase_plan.specs.Plan.{plan}

-- the end of an entry's block
abbrev pub end_of : EraseEntry → ℕ
end_of e = e.base + e.size

-- the span runs from the first base to the last entry's end; without entries both are 0
unfoldable pub span_start : List EraseEntry → ℕ
span_start [] = 0
span_start (e ∷ es) = e.base

unfoldable pub span_end : List EraseEntry → ℕ
span_end [] = 0
span_end (e ∷ []) = end_of e
span_end (e ∷ f ∷ es) = span_end (f ∷ es)

-- a plan's number of entries, and its span
unfoldable pub survey_of : List EraseEntry → Surveyed
survey_of es = record { count = length es; first = span_start es; end = span_end es }

-- refused if the span starts below the address, which is reported; else if it ends past the range, whose end is reported
unfoldable pub span_check : ℕ → ℕ → ℕ → ℕ → Result (Unit {0}) ℕ
span_check address len from to =
    cond (nat_lt from address) (Err address) (cond (nat_lt (address + len) to) (Err ((address + len) % 4294967296)) (Ok tt))

-- the check of `erase_sectors` on a range
unfoldable pub sectors_check : List EraseType → ℕ → ℕ → Result (Unit {0}) ℕ
sectors_check ts address len =
    span_check address len (span_start (plan ts address (address + len))) (span_end (plan ts address (address + len)))
