-- The tests by which the code knows a later entry's position, without dividing.
use Rattle.std.specs.Prelude.{Bool, ◌||◌, ◌==◌, drop}
use Rattle.std.specs.List.{list_all}
use Rattle.std.specs.Int.{is_power_of_two}
use Rattle.erase_plan.specs.declared.EraseType.{EraseType}
use Rattle.erase_plan.specs.declared.EraseTypes.{EraseTypes}

-- a slot is empty or its size is a power of two
unfoldable pub is_power : EraseType → Bool
is_power t = t.size == 0 || is_power_of_two t.size

unfoldable pub are_powers : EraseTypes → Bool
are_powers ts = list_all is_power ts.slots

-- no slot but the first holds a type
unfoldable pub is_single : EraseTypes → Bool
is_single ts = list_all (λ (t : EraseType). t.size == 0) (drop 1 ts.slots)

unfoldable pub is_even : EraseTypes → Bool
is_even ts = is_single ts || are_powers ts
