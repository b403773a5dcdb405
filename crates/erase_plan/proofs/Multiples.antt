-- Multiples and aligned blocks.
use Rattle.std.proofs.Common.{◌≡◌, ℕ, zero, suc, ◌+◌, ◌-◌, ◌*◌, ◌/◌, ◌%◌, ◌^◌, ◌<◌, ◌≤◌, sym, refl, ap, ◌∙◌, subst, mul-le-mul_right, mul_assoc, suc-mul, div-lt_iff_lt-mul, div-add-mod', div-mul-le_self, mul-div_cancel, arith, pow-add}
use native.Mathlib.Nat.{lt-div-mul-add}
use Rattle.erase_plan.specs.Plan.{block_base, block_end}
use Rattle.erase_plan.specs.Words.{Mult}

-- a block's base and end are multiples of its size
pub base_mult : (s p : ℕ) → Mult s (block_base s p)
unfolding block_base
base_mult s p = record { q = p / s; is = refl }

pub end_mult : (s p : ℕ) → Mult s (block_end s p)
unfolding block_end
end_mult s p = record { q = suc (p / s); is = sym (suc-mul (p / s) s) }

-- a block is as long as its size, and holds its position
pub end_base : (s p : ℕ) → block_end s p ≡ block_base s p + s
unfolding block_end block_base
end_base s p = refl

pub base_le : (s p : ℕ) → block_base s p ≤ p
unfolding block_base
base_le s p = div-mul-le_self p s

pub end_gt : (s p : ℕ) → 0 < s → p < block_end s p
unfolding block_end
end_gt s p h = lt-div-mul-add h

-- a block's base is its position less the remainder
pub base_mod : (s p : ℕ) → block_base s p ≡ p - p % s
unfolding block_base
base_mod s p = omega (arith, div-add-mod' p s)

pub mult_trans : {s t n : ℕ} → Mult s t → Mult t n → Mult s n
mult_trans {s} a b =
    record { q = b.q * a.q; is = b.is ∙ ap (λ (x : ℕ). b.q * x) a.is ∙ sym (mul_assoc b.q a.q s) }

-- a block's end is the least multiple above the position
pub end_least : {s n : ℕ} (p : ℕ) → 0 < s → Mult s n → p < n → block_end s p ≤ n
unfolding block_end
end_least {s} p h m l =
    let k : p / s < m.q = (div-lt_iff_lt-mul h).1 (subst (λ (x : ℕ). p < x) m.is l) in
    omega (arith, m.is, mul-le-mul_right s k, suc-mul (p / s) s)

-- the block of a larger size that is a multiple holds that of the smaller
pub end_mono : {s t : ℕ} (p : ℕ) → 0 < s → 0 < t → Mult s t → block_end s p ≤ block_end t p
end_mono {s} {t} p h k m = end_least p h (mult_trans m (end_mult t p)) (end_gt t p k)

-- a multiple is the base of its own block
pub base_self : {s p : ℕ} → 0 < s → Mult s p → block_base s p ≡ p
unfolding block_base
base_self {s} {p} h m =
    ap (λ (x : ℕ). x / s * s) m.is ∙ ap (λ (x : ℕ). x * s) (mul-div_cancel m.q h) ∙ sym m.is

pub mult_self : (s : ℕ) → Mult s s
mult_self s = record { q = 1; is = omega arith }

-- a divisor is no larger
pub mult_le : {s n : ℕ} → 0 < n → Mult s n → s ≤ n
mult_le {s} {n} h m = go m.q m.is
  where
    go : (q : ℕ) → n ≡ q * s → s ≤ n
    go zero e = absurd (omega arith)
    go (suc q) e = omega arith

-- a larger power of two is a multiple of a smaller
pub pow_mult : (i j : ℕ) → i ≤ j → Mult (2 ^ i) (2 ^ j)
pow_mult i j h = record { q = 2 ^ (j - i); is = ap (λ (x : ℕ). 2 ^ x) (omega arith) ∙ pow-add 2 (j - i) i }
