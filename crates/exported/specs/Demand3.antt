-- Demand 3 of the exports, from every session that a C host reaches from a fresh one.
use Rattle.std.specs.Prelude.{◌≡◌, List, [], ℕ, ◌≤◌, length}
use Rattle.erase_plan.specs.Good.{Each}
use Rattle.meaning.specs.Meaning.{Idle}
use Rattle.nor_model.specs.Device.{Part, State}
use Rattle.nor_model.specs.Demand3.{Act}
use Rattle.on_part.specs.OnPart.{Bytes}
use Rattle.over_bytes.specs.OverBytes.{Keeps, TypedAct}
use Rattle.driver.specs.Driver.{Turn, Typed, first, reached}
use Rattle.driver.specs.Demand3.{after}
use Rattle.exported.specs.Exports.{exports}

-- the bytes that the exports leave after any calls of a host hold a session; if that is idle, demand 3 holds from them on
abbrev pub Demand3OfExports : Type 0
Demand3OfExports =
    (e : List ℕ) → 64 ≤ length e → (p : Part) (state : State) (ts : List Turn) (acts : List Act) → state.busy ≡ 0 → Bytes p state → Each Typed ts → Idle (after ts)
    → Each TypedAct acts → Keeps p state.memory (record { state = state; bytes = (reached (exports e) ts (first (exports e))).held; accepted = [] }) acts
