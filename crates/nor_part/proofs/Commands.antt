-- A part with memory: the next state is the model's, so that transactions can follow one another.
use mathlib.Core.Path.{◌≡◌}
use mathlib.Core.List.{List}
use Prim.Native.Nat.{ℕ, ◌≤◌}
use Rattle.nor_model.specs.Device as device
use Rattle.nor_part.specs.declared.State as code
use Rattle.nor_part.specs.Responds.{Same, state_of}

pub next_state : (out : device.State × List ℕ) (capacity : ℕ) (s : code.State) (reply memory : List ℕ) → 1 ≤ capacity → Same out capacity s reply memory → state_of s memory ≡ out.0
next_state out capacity s reply memory h same = λ i. record { memory = same.contents h i; latch = same.latch i; busy = same.busy i }
