-- Numbers laid one after another, as the loop goes along them.
use Prim.Native.Nat.{ℕ, zero, suc, ◌+◌, ◌*◌, ◌<◌, ◌≤◌}
use native.Mathlib.Omega.{arith}
use mathlib.Core.List.{List, [], ◌∷◌}
use mathlib.Core.Path.{◌≡◌, refl}
use lib.ListN.{length, get_or, drop}
use Rattle.std.specs.Int.{w64, to_le_bytes}
use Rattle.room.specs.Room.{laid}
use Rattle.moss_flash.specs.Records.{le8}
use Rattle.moss_flash.specs.Asked.{laid_from}

-- what is still to be laid from number i on: that number, then the rest
lay_next : (w : List ℕ) (i at : ℕ) (l : List ℕ) → i < length w
    → laid_from (at + 8) (drop (suc i) w) (laid at (le8 (get_or w i 0)) l) ≡ laid_from at (drop i w) l
unfolding laid_from
lay_next [] i at l h = absurd (omega arith)
lay_next (x ∷ w) zero at l h = refl
lay_next (x ∷ w) (suc i) at l h = lay_next w i at l (omega arith)

pub lay_on : (w : List ℕ) (i : ℕ) (l : List ℕ) → i < length w
    → laid_from (8 * (i + 1)) (drop (i + 1) w) (laid (8 * i) (le8 (get_or w i 0)) l) ≡ laid_from (8 * i) (drop i w) l
lay_on w i l h =
    let e : 8 * (i + 1) ≡ 8 * i + 8 = omega arith in
    let f : i + 1 ≡ suc i = omega arith in
    rw (e, f) (lay_next w i (8 * i) l h)

-- a number's bytes, as the library has them
pub le8_bytes : (x : ℕ) → to_le_bytes w64 x ≡ le8 x
le8_bytes x = grind arith

-- past the last number nothing is laid
pub lay_end : (w : List ℕ) (i at : ℕ) (l : List ℕ) → length w ≤ i → laid_from at (drop i w) l ≡ l
unfolding laid_from
lay_end [] zero at l h = refl
lay_end [] (suc i) at l h = refl
lay_end (x ∷ w) zero at l h = absurd (omega arith)
lay_end (x ∷ w) (suc i) at l h = lay_end w i at l (omega arith)
