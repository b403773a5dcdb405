-- What is proved of the choice of a type and of plans: the words for it.
use Rattle.std.specs.Prelude.{◌≡◌, ℕ, ◌+◌, ◌-◌, ◌<◌, ◌≤◌, Bool, true, cond, ◌⊎◌, List, [], ◌∷◌, ◌++◌, length}
use Rattle.erase_plan.specs.declared.EraseType.{EraseType}
use Rattle.erase_plan.specs.declared.EraseEntry.{EraseEntry}
use Rattle.erase_plan.specs.Types.{in_order}
use Rattle.erase_plan.specs.Plan.{cover}
use Rattle.erase_plan.specs.Span.{end_of, span_start, span_end}
pub use Rattle.erase_plan.specs.Words.{Each, Mult}

-- a slot that holds a type
abbrev pub Present : EraseType → Type 0
Present t = 0 < t.size

-- sorted types: each may stand before all that follow
abbrev pub Sorted : List EraseType → Type 0
Sorted [] = Unit {0}
Sorted (t ∷ ts) = Each (λ (u : EraseType). in_order t u ≡ true) ts × Sorted ts

-- how many types of a list pass a test
unfoldable pub how_many : (EraseType → Bool) → List EraseType → ℕ
how_many f [] = 0
how_many f (t ∷ ts) = cond (f t) 1 0 + how_many f ts

-- The types that the laws of a plan ask for: each size is positive and a divisor of L, and L is one of the sizes. Sizes that are
-- powers of two are so, and a single size is.
pub record Divides (L : ℕ) (t : EraseType) : Type 0 where
  pub some : 0 < t.size
  pub part : Mult t.size L

abbrev pub Has : ℕ → List EraseType → Type 0
Has L [] = ⊥
Has L (t ∷ ts) = (t.size ≡ L) ⊎ Has L ts

pub record Kinds (L : ℕ) (ts : List EraseType) : Type 0 where
  pub each : Each (Divides L) ts
  pub has : Has L ts

-- u is worse than t at a position: it covers less, or as much with a larger size
abbrev pub Worse : ℕ → ℕ → EraseType → EraseType → Type 0
Worse pos end t u = (cover u pos end < cover t pos end) ⊎ ((cover u pos end ≡ cover t pos end) × (t.size < u.size))

-- u is no better than t: it is worse, or covers as much with the same size
abbrev pub NoBetter : ℕ → ℕ → EraseType → EraseType → Type 0
NoBetter pos end t u = (cover u pos end < cover t pos end) ⊎ ((cover u pos end ≡ cover t pos end) × (t.size ≤ u.size))

-- t is the type to take of a list: it is one of them, those before it are worse, those after it no better
pub record Taken (ts : List EraseType) (pos end : ℕ) (t : EraseType) : Type 0 where
  pub earlier : List EraseType
  pub later : List EraseType
  pub split : ts ≡ earlier ++ t ∷ later
  pub worse : Each (Worse pos end t) earlier
  pub no_better : Each (NoBetter pos end t) later

-- an entry's base is a multiple of its size
abbrev pub Aligned : EraseEntry → Type 0
Aligned e = Mult e.size e.base

-- an entry's block holds a position
abbrev pub Holds : ℕ → EraseEntry → Type 0
Holds pos e = (e.base ≤ pos) × (pos < end_of e)

-- an entry's block has a wanted byte
abbrev pub Meets : ℕ → ℕ → EraseEntry → Type 0
Meets pos end e = (e.base < end) × (pos < end_of e)

-- an entry's block lies between two addresses
abbrev pub Inside : ℕ → ℕ → EraseEntry → Type 0
Inside from to e = (from ≤ e.base) × (end_of e ≤ to)

-- entries from a position to the end or past it: each starts where the one before ends, below the end, at a multiple of L
abbrev pub Follows : ℕ → ℕ → ℕ → List EraseEntry → Type 0
Follows L at end [] = end ≤ at
Follows L at end (e ∷ es) = (e.base ≡ at) × (at < end) × Mult L at × Follows L (end_of e) end es

-- a whole plan's entries: the first holds the start, the others follow
abbrev pub Covers : ℕ → ℕ → ℕ → List EraseEntry → Type 0
Covers L pos end [] = end ≤ pos
Covers L pos end (e ∷ es) = Holds pos e × (pos < end) × Follows L (end_of e) end es

-- what is promised of a plan of a range that is not empty, of types with the largest size L: every base is a multiple of its size;
-- the blocks are in order and adjacent; each has a wanted byte; there are no more of them than wanted bytes; the span holds the
-- range, ends less than L past it, and holds every block
pub record Good (L pos end : ℕ) (es : List EraseEntry) : Type 0 where
  pub aligned : Each Aligned es
  pub covers : Covers L pos end es
  pub meets : Each (Meets pos end) es
  pub few : length es ≤ end - pos
  pub starts : span_start es ≤ pos
  pub reaches : end ≤ span_end es
  pub near : span_end es < end + L
  pub inside : Each (Inside (span_start es) (span_end es)) es
