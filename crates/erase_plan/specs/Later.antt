-- Rounding that never happens: every entry of a plan but the first starts at its own position.
use Rattle.std.specs.Prelude.{◌≡◌, ℕ, ◌^◌, ◌<◌, ◌⊎◌, List, [], ◌∷◌}
use Rattle.erase_plan.specs.declared.EraseType.{EraseType}
use Rattle.erase_plan.specs.declared.EraseEntry.{EraseEntry}
use Rattle.erase_plan.specs.Plan.{next_pos, plan}
use Rattle.erase_plan.specs.Words.{Each, Mult}

-- a size that is a power of two
pub record Power (t : EraseType) : Type 0 where
  pub exponent : ℕ
  pub is : t.size ≡ 2 ^ exponent

-- sizes that are powers of two, or a single size
abbrev pub Single : List EraseType → Type 0
Single [] = ⊥
Single (t ∷ []) = 0 < t.size
Single (t ∷ u ∷ ts) = ⊥

abbrev pub Even : List EraseType → Type 0
Even ts = Each Power ts ⊎ Single ts

-- a position is a multiple of every size
abbrev pub OnAll : ℕ → List EraseType → Type 0
OnAll pos ts = Each (λ (t : EraseType). Mult t.size pos) ts

-- entries from a position on: each position is a multiple of every size, and no base is below it
abbrev pub InPlace : List EraseType → ℕ → ℕ → List EraseEntry → Type 0
InPlace ts pos end [] = Unit {0}
InPlace ts pos end (e ∷ es) = OnAll pos ts × (e.base ≡ pos) × InPlace ts (next_pos ts pos end) end es

abbrev pub after_first : List EraseEntry → List EraseEntry
after_first [] = []
after_first (e ∷ es) = es

-- the entries after the first of every plan of such sizes
abbrev pub LaterInPlace : Type 0
LaterInPlace = (ts : List EraseType) → Even ts → (pos end : ℕ) → InPlace ts (next_pos ts pos end) end (after_first (plan ts pos end))
