-- The code's part beside the modelled one: what its facts, its state and its memory slice stand for, and when a result is the model's.
use Rattle.std.specs.Prelude.{◌≡◌, cond, ◌&&◌, List, [], ◌∷◌, ℕ, ◌≤◌, Option, Some, None, min, max, eqb, leb, ltb, length, get_or}
use Rattle.std.proofs.Math.Option as maybe
use Rattle.nor_part.specs.declared.Erase.{Erase}
use Rattle.nor_part.specs.declared.Part.{Part}
use Rattle.nor_part.specs.declared.State.{State}
use Rattle.nor_model.specs.Device as device

-- a slice as contents; past its end all is FF
abbrev pub mem_of : List ℕ → ℕ → ℕ
mem_of l i = get_or l i 0xFF

-- contents with all from a place on, up to another, set to FF
unfoldable pub set_between : ℕ → ℕ → (ℕ → ℕ) → ℕ → ℕ
set_between from to m i = cond (leb from i && ltb i to) 0xFF (m i)

-- ---- the facts
-- no part has more than 4 address bytes, or a page of no bytes: those of a part that says so are 4, and 1
abbrev pub addressed_of : Part → ℕ
addressed_of p = min p.addressed 4

abbrev pub page_of : Part → ℕ
page_of p = max p.page 1

-- the size that an opcode erases: of the first erase that has the opcode and a size
unfoldable pub first_size : List (Option Erase) → ℕ → Option ℕ
first_size [] op = None
first_size (None ∷ l) op = first_size l op
first_size (Some e ∷ l) op = cond (eqb e.opcode op && ltb 0 e.size) (Some e.size) (first_size l op)

-- in the model's words
abbrev pub size_given : Option ℕ → maybe.Option ℕ
size_given None = maybe.none
size_given (Some size) = maybe.some size

abbrev pub erases_of : Part → ℕ → maybe.Option ℕ
erases_of p op = size_given (first_size p.erases op)

-- the modelled part: its capacity is the length of the memory slice
abbrev pub part_of : Part → ℕ → device.Part
part_of p capacity = record {
  capacity = capacity;
  addressed = addressed_of p;
  page = page_of p;
  erases = erases_of p;
  flagged = p.flagged;
  id = mem_of p.id.now;
  sfdp = mem_of p.sfdp.now;
}

-- ---- the state
abbrev pub state_of : State → List ℕ → device.State
state_of s memory = record { memory = mem_of memory; latch = s.latch; busy = s.busy }

-- ---- a result: the state, the reply and the memory afterwards are those of the model. (A part of no bytes has no memory to compare)
pub record Same (out : device.State × List ℕ) (capacity : ℕ) (s : State) (reply memory : List ℕ) : Type 0 where
  pub replied : reply ≡ out.1
  pub latch : s.latch ≡ out.0.latch
  pub busy : s.busy ≡ out.0.busy
  pub contents : 1 ≤ capacity → mem_of memory ≡ out.0.memory
  pub kept : length memory ≡ capacity
