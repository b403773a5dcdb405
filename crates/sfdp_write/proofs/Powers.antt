-- Powers of two: one set bit, and its place.
use Prim.Native.Nat.{ℕ, zero, suc, ◌+◌, ◌*◌, ◌/◌, ◌%◌, ◌^◌, ◌<◌}
use native.Mathlib.Nat.{pow-suc, le_of_suc-le-suc}
use native.Mathlib.Omega.{arith}
use mathlib.Core.Path.{◌≡◌, refl, sym, ap, ◌∙◌}
use mathlib.Core.Bool.{Bool, true, false}
use lib.Dec.{eqb}
use lib.Count.{ones, count_trailing_zeros, under, ones_step, ones_cat}
use lib.Pow.{pow_pos}
use borrow.Author.Tests.{eqb-true, eqb-false, eq-eqb, ne_eqb}
use Rattle.std.proofs.lemmas.Nat.{zero_from_ones}
use Rattle.sfdp_write.specs.Form.{power}

half_below : (w n : ℕ) → n < 2 ^ suc w → n / 2 < 2 ^ w
half_below w n h = let e : 2 ^ suc w ≡ 2 ^ w * 2 = pow-suc 2 w in omega arith

-- one set bit: the number is 2 to the power of the zeros below it
pub one_set : (w n : ℕ) → n < 2 ^ w → ones n ≡ 1 → 2 ^ count_trailing_zeros w n ≡ n
unfolding count_trailing_zeros ones
one_set zero n h e =
    let z : n ≡ 0 = omega arith in
    let o : ones n ≡ 0 = ap ones z in
    absurd (omega arith)
one_set (suc w) n h e = by_low (n % 2) refl (λ (q : ones (n / 2) ≡ 1). one_set w (n / 2) (half_below w n h) q)
  where
    s : n % 2 + ones (n / 2) ≡ 1
    s = sym (ones_step n) ∙ e

    by_low : (b : ℕ) → n % 2 ≡ b → (ones (n / 2) ≡ 1 → 2 ^ count_trailing_zeros w (n / 2) ≡ n / 2) → 2 ^ under b (count_trailing_zeros w (n / 2)) ≡ n
    by_low zero q half =
        let one : ones (n / 2) ≡ 1 = omega (arith, s) in
        let r : 2 ^ count_trailing_zeros w (n / 2) ≡ n / 2 = half one in
        let k : 2 ^ count_trailing_zeros w (n / 2) * 2 ≡ n = omega arith in
        pow-suc 2 (count_trailing_zeros w (n / 2)) ∙ k
    by_low (suc b) q half =
        let r : n / 2 ≡ 0 = zero_from_ones (n / 2) (omega (arith, s)) in
        omega arith

ones_power : (k : ℕ) → ones (2 ^ k) ≡ 1
unfolding ones
ones_power k =
    let e : 2 ^ k ≡ 1 * 2 ^ k + 0 = omega arith in
    ap ones e ∙ ones_cat k 1 0 (pow_pos k)

-- and the zeros below the set bit of 2 to the power of k are k
pub zeros_power : (w k : ℕ) → k < w → count_trailing_zeros w (2 ^ k) ≡ k
unfolding count_trailing_zeros
zeros_power zero k h = absurd (omega arith)
zeros_power (suc w) zero h = refl
zeros_power (suc w) (suc k) h =
    let e : 2 ^ suc k ≡ 2 ^ k * 2 = pow-suc 2 k in
    let even : 2 ^ suc k % 2 ≡ 0 = omega arith in
    let half : 2 ^ suc k / 2 ≡ 2 ^ k = omega arith in
    ap (λ (b : ℕ). under b (count_trailing_zeros w (2 ^ suc k / 2))) even
    ∙ ap (λ (x : ℕ). suc (count_trailing_zeros w x)) half
    ∙ ap suc (zeros_power w k (le_of_suc-le-suc h))

-- one set bit is what a power of two has
pub count_power : (w n : ℕ) → n < 2 ^ w → eqb (ones n) 1 ≡ power w n
count_power w n h = by_test (eqb (ones n) 1) refl
  where
    by_test : (b : Bool) → eqb (ones n) 1 ≡ b → b ≡ power w n
    by_test true e = sym (eq-eqb (2 ^ count_trailing_zeros w n) n (one_set w n h (eqb-true (ones n) 1 e)))
    by_test false e =
        sym
        (ne_eqb (2 ^ count_trailing_zeros w n) n (λ (q : 2 ^ count_trailing_zeros w n ≡ n).
        eqb-false (ones n) 1 e (ap ones (sym q) ∙ ones_power (count_trailing_zeros w n))))

pub power_is : (w k : ℕ) → k < w → power w (2 ^ k) ≡ true
power_is w k h = eq-eqb (2 ^ count_trailing_zeros w (2 ^ k)) (2 ^ k) (ap (λ (x : ℕ). 2 ^ x) (zeros_power w k h))
