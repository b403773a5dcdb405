-- The lent room: bytes laid over it, and the first byte in which it differs from others.
use Rattle.std.specs.Prelude.{ℕ, suc, ◌+◌, true, false, cond, Option, None, Some, List, [], ◌∷◌, eqb, leb, length, take, drop}
use Rattle.commands.specs.Script.{over}
use Rattle.room.specs.declared.Difference.{Difference}

-- bytes laid over the room from a place on, where they fit; else the room as it was
unfoldable pub laid : ℕ → List ℕ → List ℕ → List ℕ
laid at bytes room = cond (leb (at + length bytes) (length room)) (over at bytes room) room

-- the first place, counted from i, at which two lists differ, with what each has there
unfoldable pub differs_from : ℕ → List ℕ → List ℕ → Option Difference
differs_from i [] r = None
differs_from i (x ∷ l) [] = None
differs_from i (x ∷ l) (y ∷ r) = elim (eqb x y) [ true ↦ differs_from (suc i) l r | false ↦ Some (record { at = i; has = x; read = y }) ]

-- the payload: a part of the lent room itself; nothing where it does not fit
unfoldable pub part_of : List ℕ → ℕ → ℕ → List ℕ
part_of room from len = cond (leb (from + len) (length room)) (take len (drop from room)) []
