-- The plan: which blocks are erased so that a range is erased. A range is its first position and its end, one past its last.
use Rattle.std.specs.Prelude.{ℕ, zero, suc, ◌+◌, ◌-◌, ◌*◌, ◌/◌, min, Bool, true, false, cond, ◌&&◌, ◌||◌, Option, Some, None, List, [], ◌∷◌, ◌==◌, nat_lt}
use Rattle.erase_plan.specs.declared.EraseType.{EraseType}
use Rattle.erase_plan.specs.declared.EraseEntry.{EraseEntry}
use Rattle.erase_plan.specs.declared.NextEntry.{NextEntry}
use Rattle.erase_plan.specs.Types.{no_type}

-- the aligned block of a size that holds a position: its base and its end
unfoldable pub block_base : ℕ → ℕ → ℕ
block_base size pos = pos / size * size

unfoldable pub block_end : ℕ → ℕ → ℕ
block_end size pos = pos / size * size + size

-- the wanted bytes from a position on that the type's aligned block there covers
unfoldable pub cover : EraseType → ℕ → ℕ → ℕ
cover t pos end = min (block_end t.size pos) end - pos

-- whether a later type is taken instead of an earlier one: it covers more, or as much with a smaller size
unfoldable pub beats : EraseType → EraseType → ℕ → ℕ → Bool
beats u t pos end = nat_lt (cover t pos end) (cover u pos end) || (cover u pos end == cover t pos end && nat_lt u.size t.size)

-- the type taken, where t is the best of those passed
unfoldable pub chosen_from : EraseType → List EraseType → ℕ → ℕ → EraseType
chosen_from t [] pos end = t
chosen_from t (u ∷ us) pos end = chosen_from (cond (beats u t pos end) u t) us pos end

-- the type taken: it covers most; on a tie the smallest size, then the earlier of the list
unfoldable pub chosen : List EraseType → ℕ → ℕ → EraseType
chosen [] pos end = no_type
chosen (t ∷ ts) pos end = chosen_from t ts pos end

-- an entry is opcode, size, base and typical time, with a mark whether that is known
abbrev pub entry_from : EraseType → ℕ → EraseEntry
entry_from t base = record { opcode = t.opcode; timed = cond t.timed 1 0; size = t.size; base = base; time = t.time }

-- the plan's entry at a position
unfoldable pub entry_at : List EraseType → ℕ → ℕ → EraseEntry
entry_at ts pos end = entry_from (chosen ts pos end) (block_base (chosen ts pos end).size pos)

-- where the plan moves on to: past the bytes that its entry covers
unfoldable pub next_pos : List EraseType → ℕ → ℕ → ℕ
next_pos ts pos end = pos + cover (chosen ts pos end) pos end

-- at most so many entries from a position on
unfoldable pub plan_in : ℕ → List EraseType → ℕ → ℕ → List EraseEntry
plan_in zero ts pos end = []
plan_in (suc n) ts pos end = elim (nat_lt pos end) [ true ↦ entry_at ts pos end ∷ plan_in n ts (next_pos ts pos end) end | false ↦ [] ]

-- the plan. An entry covers a wanted byte or more, so that a range has no more entries than bytes
unfoldable pub plan : List EraseType → ℕ → ℕ → List EraseEntry
plan [] pos end = []
plan (t ∷ ts) pos end = plan_in (end - pos) (t ∷ ts) pos end

-- the first entry of a plan with the last wanted byte that it covers, if there is one
unfoldable pub next_of : List EraseType → ℕ → ℕ → Option NextEntry
next_of [] pos end = None
next_of (t ∷ ts) pos end =
    cond (nat_lt pos end) (Some (record { entry = entry_at (t ∷ ts) pos end; stop = next_pos (t ∷ ts) pos end - 1 })) None
