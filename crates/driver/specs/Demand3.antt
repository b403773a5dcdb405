-- Demand 3 from a fresh session on: whatever a host has done before, commands that ended with 8 or 9 too.
use Rattle.std.specs.Prelude.{◌≡◌, List, []}
use Rattle.erase_plan.specs.Good.{Each}
use Rattle.flash.specs.declared.Session.{Session}
use Rattle.meaning.specs.Meaning.{Idle}
use Rattle.nor_model.specs.Device.{Part, State}
use Rattle.nor_model.specs.Demand3.{Act}
use Rattle.on_part.specs.OnPart.{Bytes, Keeps}
use Rattle.driver.specs.Driver.{Turn, Typed, first, reached}
use Rattle.driver.specs.ByValue.{by_value}

-- the session that turns of a host come to
abbrev pub after : List Turn → Session
after ts = (reached by_value ts (first by_value)).held

-- THE DEMAND: for every part, idle at first, every session that is reached and idle, and every sequence of commands and setters
abbrev pub Demand3FromFresh : Type 0
Demand3FromFresh =
    (p : Part) (state : State) (ts : List Turn) (acts : List Act) → state.busy ≡ 0 → Bytes p state → Each Typed ts → Idle (after ts)
    → Keeps p state.memory (record { state = state; session = after ts; accepted = [] }) acts
