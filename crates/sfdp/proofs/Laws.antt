-- Laws that the proofs of the reader share.
use mathlib.Core.Path.{◌≡◌, refl, sym, ap, ◌∙◌}
use mathlib.Core.Bool.{Bool, true, false, ◌&&◌}
use mathlib.Core.List.{List, [], ◌∷◌}
use Prim.Native.Nat.{ℕ, ◌+◌, ◌-◌, ◌*◌, ◌/◌, ◌%◌, ◌^◌, ◌≤◌, ◌<◌}
use native.Mathlib.Nat.{mod-lt, mul-le-mul, div-one}
use native.Mathlib.Omega.{arith}
use lib.ListN.{length, take, drop, length-drop}
use lib.Seq.{take_all}
use lib.Dec.{eqb, leb}
use lib.Pow.{pow_pos, pow_mono}
use borrow.Author.Tests.{ne_eqb, eq-eqb, ltb-true}
use Rattle.std.proofs.lemmas.Bool.{and_parts, cases_eq}
use Rattle.std.specs.List.{starts_with}
use Rattle.std.proofs.Common.{⊎_elim}
use Rattle.std.proofs.lemmas.Nat.{one_shl}
use Rattle.dwords.specs.Dwords.{byte_at, bits, dword}
use Rattle.sfdp.specs.Jesd216.{signed, size_fits, sizes_fit, density_fits, accepted}

-- both sides of a test that holds
pub left_of : (a b : Bool) → a && b ≡ true → a ≡ true
left_of a b h = (and_parts a b h).0

pub right_of : (a b : Bool) → a && b ≡ true → b ≡ true
right_of a b h = (and_parts a b h).1

-- the lowest bits of a dword
pub lowest : (d hi : ℕ) → bits d hi 0 ≡ d % 2 ^ (hi - 0 + 1)
lowest d hi = ap (λ (n : ℕ). n % 2 ^ (hi - 0 + 1)) (div-one d)

-- bits hi:lo of a dword, by shifts
module _ (hi lo : ℕ) (down : lo ≤ hi) (dword : hi < 32) (narrow : hi - lo < 8) where
  mask : 1 * 2 ^ (hi - lo + 1) % 2 ^ 32 ≡ 2 ^ (hi - lo + 1)
  mask = one_shl (hi - lo + 1) 32 (omega arith)

  pub taken : (d : ℕ) → d / 2 ^ lo % (1 * 2 ^ (hi - lo + 1) % 2 ^ 32) ≡ bits d hi lo
  taken d = rw mask refl

  pub mask_some : 1 * 2 ^ (hi - lo + 1) % 2 ^ 32 ≡ 0 → ⊥
  mask_some e = omega (arith, mask, pow_pos (hi - lo + 1), e)

  pub field_fits : (d : ℕ) → bits d hi lo < 256
  field_fits d =
      let most : 2 ^ (hi - lo + 1) ≤ 256 = pow_mono {i = hi - lo + 1} {j = 8} (omega arith) in
      omega (arith, most, mod-lt (d / 2 ^ lo) (pow_pos (hi - lo + 1)))

-- a time fits 32 bits
pub time_fits : (w raw unit : ℕ) → w ≤ 5 → unit ≤ 64000000 → (raw % (1 * 2 ^ w % 256) + 1) * unit < 2 ^ 32
time_fits w raw unit h hu =
    let most : 2 ^ w ≤ 32 = pow_mono h in
    let count : raw % (1 * 2 ^ w % 256) + 1 ≤ 32 = rw (one_shl w 8 (omega arith)) (omega (arith, mod-lt raw (pow_pos w))) in
    omega (arith, mul-le-mul count hu)

-- what the tests of refusal 4 leave
pub exponent_fits : (e o : ℕ) → size_fits e o ≡ true → (o ≡ 0 → ⊥) → e < 32
unfolding size_fits
exponent_fits e o h n = ltb-true e 32 (rw (ne_eqb o 0 n) at h)

pub size_is_power : (e o : ℕ) → size_fits e o ≡ true → (o ≡ 0 → ⊥) → 1 * 2 ^ e % 2 ^ 32 ≡ 2 ^ e
size_is_power e o h n = one_shl e 32 (exponent_fits e o h n)

pub density_fits_lem : (d : ℕ) → density_fits d ≡ true → bits d 31 31 ≡ 1 → bits d 30 0 < 64
unfolding density_fits
density_fits_lem d h b = ltb-true (bits d 30 0) 64 (rw (eq-eqb (bits d 31 31) 1 b) at h)

pub low_density : (d : ℕ) → density_fits d ≡ true → d / 2147483648 % 2 ≡ 1 → d % 2147483648 < 64
low_density d h b = rw lowest at (density_fits_lem d h b)

pub density_is_power : (d : ℕ) → density_fits d ≡ true → d / 2147483648 % 2 ≡ 1 → 1 * 2 ^ (d % 2147483648) % 2 ^ 64 ≡ 2 ^ (d % 2147483648)
density_is_power d h b = one_shl (d % 2147483648) 64 (low_density d h b)

pub first_fits : (d : ℕ) → sizes_fit d ≡ true → size_fits (bits d 7 0) (bits d 15 8) ≡ true
unfolding sizes_fit
first_fits d h = left_of (size_fits (bits d 7 0) (bits d 15 8)) (size_fits (bits d 23 16) (bits d 31 24)) h

pub first_low_fits : (d : ℕ) → sizes_fit d ≡ true → size_fits (d % 256) (d / 256 % 256) ≡ true
first_low_fits d h = rw lowest at (first_fits d h)

pub second_fits : (d : ℕ) → sizes_fit d ≡ true → size_fits (bits d 23 16) (bits d 31 24) ≡ true
unfolding sizes_fit
second_fits d h = right_of (size_fits (bits d 7 0) (bits d 15 8)) (size_fits (bits d 23 16) (bits d 31 24)) h

-- a maximum fits 64 bits
pub max_fits : (m t : ℕ) → m < 256 → t < 2 ^ 32 → 2 * (m + 1) * t < 2 ^ 64
max_fits m t hm ht =
    let a : 2 * (m + 1) ≤ 512 = omega arith in
    let b : t ≤ 4294967296 = omega arith in
    omega (arith, mul-le-mul a b)

-- the three dwords that an accepted table's tests are on
module _ (n : ℕ) (t : List ℕ) (h : accepted n t ≡ true) where
  abbrev later : Bool
  later = sizes_fit (dword t 9) && density_fits (dword t 2)

  after_count : sizes_fit (dword t 8) && later ≡ true
  unfolding accepted
  after_count = right_of (leb 9 n) (sizes_fit (dword t 8) && later) h

  after_8 : later ≡ true
  after_8 = right_of (sizes_fit (dword t 8)) later after_count

  pub sizes_8 : sizes_fit (dword t 8) ≡ true
  sizes_8 = left_of (sizes_fit (dword t 8)) later after_count

  pub sizes_9 : sizes_fit (dword t 9) ≡ true
  sizes_9 = left_of (sizes_fit (dword t 9)) (density_fits (dword t 2)) after_8

  pub dense : density_fits (dword t 2) ≡ true
  dense = right_of (sizes_fit (dword t 9)) (density_fits (dword t 2)) after_8

-- what is left of a list past a place
pub take_rest : (l : List ℕ) (i : ℕ) → take (length l - i) (drop i l) ≡ drop i l
take_rest l i = take_all (length l - i) (drop i l) (simp length-drop (omega arith))

-- the signature, by its first bytes
eqb_swap : (a b : ℕ) → eqb a b ≡ eqb b a
eqb_swap a b = ⊎_elim (λ (e : a ≡ b). rw e refl) (λ (n : a ≡ b → ⊥). ne_eqb a b n ∙ sym (ne_eqb b a (λ (e : b ≡ a). n (sym e)))) (cases_eq a b)

-- four tests in a row, whichever way they are grouped
four : (a b c d : Bool) → a && (b && (c && (d && true))) ≡ a && b && c && d
four true true true true = refl
four true true true false = refl
four true true false d = refl
four true false c d = refl
four false b c d = refl

pub signature : (h : List ℕ) → starts_with eqb h (0x53 ∷ 0x46 ∷ 0x44 ∷ 0x50 ∷ []) ≡ signed h
unfolding signed byte_at
signature [] = refl
signature (s ∷ []) = rw (eqb_swap 0x53 s) (four (eqb s 0x53) false false false)
signature (s ∷ f ∷ []) = rw (eqb_swap 0x53 s, eqb_swap 0x46 f) (four (eqb s 0x53) (eqb f 0x46) false false)
signature (s ∷ f ∷ d ∷ []) = rw (eqb_swap 0x53 s, eqb_swap 0x46 f, eqb_swap 0x44 d) (four (eqb s 0x53) (eqb f 0x46) (eqb d 0x44) false)
signature (s ∷ f ∷ d ∷ p ∷ h) =
    rw (eqb_swap 0x53 s, eqb_swap 0x46 f, eqb_swap 0x44 d, eqb_swap 0x50 p) (four (eqb s 0x53) (eqb f 0x46) (eqb d 0x44) (eqb p 0x50))
