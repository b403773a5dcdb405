-- The available erase types and their order.
use Rattle.std.specs.Prelude.{ℕ, ◌+◌, Bool, true, false, cond, List, [], ◌∷◌, ◌==◌, flat_map, nat_le, nat_lt, slice_index_or}
use Rattle.erase_plan.specs.declared.EraseType.{EraseType}
use Rattle.erase_plan.specs.declared.EraseTypes.{EraseTypes}

-- a slot that holds no type
abbrev pub no_type : EraseType
no_type = record { size = 0; opcode = 0; timed = false; time = 0 }

-- a slot as a list: its type, or none where the size is 0
unfoldable pub kept : EraseType → List EraseType
kept t = cond (t.size == 0) [] (t ∷ [])

-- the available types
unfoldable pub present : EraseTypes → List EraseType
present ts = flat_map kept ts.slots

-- a time as a number to sort by, an absent one first
unfoldable pub time_rank : EraseType → ℕ
time_rank t = cond t.timed (t.time + 1) 0

-- the smaller of two numbers decides; where they are equal, what follows does
abbrev pub first_by : ℕ → ℕ → Bool → Bool
first_by x y rest = cond (nat_lt x y) true (cond (nat_lt y x) false rest)

-- whether a may stand before b: sorted by size, opcode, time
unfoldable pub in_order : EraseType → EraseType → Bool
in_order a b = first_by a.size b.size (first_by a.opcode b.opcode (nat_le (time_rank a) (time_rank b)))

-- a type put before the first one that it may stand before
unfoldable pub insert : EraseType → List EraseType → List EraseType
insert t [] = t ∷ []
insert t (u ∷ us) = cond (in_order t u) (t ∷ u ∷ us) (u ∷ insert t us)

-- equal types are kept twice
unfoldable pub sort : List EraseType → List EraseType
sort [] = []
sort (t ∷ ts) = insert t (sort ts)

-- four slots, as they come
abbrev pub four_of : EraseType → EraseType → EraseType → EraseType → EraseTypes
four_of a b c d = record { slots = a ∷ b ∷ c ∷ d ∷ [] }

-- the first four of a list as slots, the missing ones last
unfoldable pub slots : List EraseType → EraseTypes
slots ts = four_of (slice_index_or ts 0 no_type) (slice_index_or ts 1 no_type) (slice_index_or ts 2 no_type) (slice_index_or ts 3 no_type)

-- four slots in any order, sorted
unfoldable pub sorted_of : EraseType → EraseType → EraseType → EraseType → EraseTypes
sorted_of a b c d = slots (sort (present (four_of a b c d)))
