-- What the part reads off the wire: the address and the payload that were sent.
use mathlib.Core.Path.{◌≡◌, refl, ap, ◌∙◌}
use mathlib.Core.List.{List, ◌++◌}
use Prim.Native.Nat.{ℕ, zero, suc, ◌+◌, ◌*◌, ◌/◌, ◌%◌, ◌^◌, ◌<◌}
use native.Mathlib.Omega.{arith}
use native.Mathlib.Nat.{mod-eq_of_lt, mod-one, pow-succ', one-le-pow}
use lib.Arith.{mod-mul}
use lib.ListN.{length, drop, length-append}
use lib.Seq.{take_at, drop_at}
use Rattle.commands.specs.Wire.{high_first}
use Rattle.nor_model.specs.Device.{joined, address_in}

pub high_length : (k a : ℕ) → length (high_first k a) ≡ k
unfolding high_first
high_length zero a = refl
high_length (suc k) a = ap suc (high_length k a)

-- k bytes, the highest first, are the number modulo 256 to the power of k
joined_high : (k n a : ℕ) → joined n (high_first k a) ≡ n * 256 ^ k + a % 256 ^ k
unfolding joined high_first
joined_high zero n a = omega (arith, mod-one a)
joined_high (suc k) n a =
    let c : ℕ = 256 ^ k in
    let h : 0 < c = one-le-pow k 256 (omega arith) in
    let e : a % (256 * c) ≡ a / c % 256 * c + a % c = mod-mul a {m = 256} {c = c} (omega arith) h in
    rw (pow-succ' 256 k) (omega (arith, e, joined_high k (256 * n + a / c % 256) a))

module _ (k a : ℕ) (l : List ℕ) where
  -- the address, if its bytes can hold it
  pub address_sent : a < 256 ^ k → address_in k (high_first k a ++ l) ≡ a
  unfolding address_in
  address_sent h =
      ap (joined 0) (take_at (high_first k a) l k (high_length k a)) ∙ joined_high k 0 a ∙ omega (arith, mod-eq_of_lt h)

  -- what comes behind it
  pub behind_sent : drop k (high_first k a ++ l) ≡ l
  behind_sent = drop_at (high_first k a) l k (high_length k a)

  pub length_sent : length (high_first k a ++ l) ≡ k + length l
  length_sent = length-append (high_first k a) l ∙ ap (λ (n : ℕ). n + length l) (high_length k a)
