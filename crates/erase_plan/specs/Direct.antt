-- The plan worked out directly: a first block, which may be the only one; then largest blocks; then a last block if any.
use Rattle.std.specs.Prelude.{◌≡◌, ℕ, zero, suc, ◌+◌, ◌-◌, ◌*◌, ◌/◌, max, true, false, List, [], ◌∷◌, ◌++◌, nat_lt}
use Rattle.erase_plan.specs.declared.EraseType.{EraseType}
use Rattle.erase_plan.specs.declared.EraseEntry.{EraseEntry}
use Rattle.erase_plan.specs.Plan.{block_end, chosen, entry_from, entry_at, plan}
use Rattle.erase_plan.specs.Later.{Even}

-- the largest size
unfoldable pub largest : List EraseType → ℕ
largest [] = 0
largest (t ∷ ts) = max t.size (largest ts)

-- the type of the largest blocks: the one taken for a whole one
unfoldable pub large_type : List EraseType → EraseType
large_type ts = chosen ts 0 (largest ts)

-- so many blocks of a type, one after the other
unfoldable pub blocks : EraseType → ℕ → ℕ → List EraseEntry
blocks t zero at = []
blocks t (suc n) at = entry_from t at ∷ blocks t n (at + t.size)

-- the entry at a position, if it is in the range
unfoldable pub one_at : List EraseType → ℕ → ℕ → List EraseEntry
one_at ts pos end = elim (nat_lt pos end) [ true ↦ entry_at ts pos end ∷ [] | false ↦ [] ]

-- how many largest blocks lie in the range from a position on
unfoldable pub wholes : List EraseType → ℕ → ℕ → ℕ
wholes ts pos end = (end - pos) / largest ts

-- from the end of a largest block on: largest blocks, and the last one
unfoldable pub beyond : List EraseType → ℕ → ℕ → List EraseEntry
beyond ts pos end = blocks (large_type ts) (wholes ts pos end) pos ++ one_at ts (pos + wholes ts pos end * largest ts) end

unfoldable pub direct : List EraseType → ℕ → ℕ → List EraseEntry
direct [] pos end = []
direct (t ∷ ts) pos end =
    elim (nat_lt pos end) [ true ↦ entry_at (t ∷ ts) pos end ∷ beyond (t ∷ ts) (block_end (largest (t ∷ ts)) pos) end | false ↦ [] ]

-- it is the plan
abbrev pub DirectIsPlan : Type 0
DirectIsPlan = (ts : List EraseType) → Even ts → (pos end : ℕ) → direct ts pos end ≡ plan ts pos end
