-- Laws of bytes, dwords and bit fields.
use mathlib.Core.Path.{◌≡◌}
use mathlib.Core.List.{List, [], ◌∷◌}
use Prim.Native.Nat.{ℕ, zero, suc, ◌+◌, ◌-◌, ◌*◌, ◌/◌, ◌^◌, ◌<◌}
use native.Mathlib.Nat.{mod-lt}
use lib.ListN.{length, get_or}
use lib.Pow.{pow_pos}
use native.Mathlib.Omega.{arith}
use Rattle.std.proofs.lemmas.List.{get_or_default}
use Rattle.dwords.specs.Dwords.{byte_at, le32, dword, bits}

-- a byte that is there
pub byte_in : (l : List ℕ) (i : ℕ) → i < length l → get_or l i 0 ≡ byte_at l i
unfolding byte_at
byte_in l i h = get_or_default l i 0 255 h

-- a field is below its width's bound
pub bits_below : (d hi lo : ℕ) → bits d hi lo < 2 ^ (hi - lo + 1)
bits_below d hi lo = mod-lt (d / 2 ^ lo) (pow_pos (hi - lo + 1))

-- in a list of bytes every byte is below 256, read past its end too, and every dword below 2 to the power of 32
pub byte_below : (l : List ℕ) → ((i : ℕ) → get_or l i 0 < 256) → (i : ℕ) → byte_at l i < 256
unfolding byte_at
byte_below [] h i = omega arith
byte_below (x ∷ l) h zero = h 0
byte_below (x ∷ l) h (suc i) = byte_below l (λ (j : ℕ). h (suc j)) i

pub dword_below : (t : List ℕ) → ((i : ℕ) → get_or t i 0 < 256) → (n : ℕ) → dword t n < 2 ^ 32
unfolding le32
dword_below t h n = four (4 * (n - 1))
  where
    four : (i : ℕ) → le32 t i < 2 ^ 32
    four i = omega (arith, byte_below t h i, byte_below t h (i + 1), byte_below t h (i + 2), byte_below t h (i + 3))
