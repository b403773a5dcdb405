-- Codes, marks, densities and pages: what a field holds, read again; and what was read, as a field again.
use Prim.Native.Nat.{ℕ, zero, suc, ◌+◌, ◌-◌, ◌%◌, ◌^◌, ◌≤◌, ◌<◌}
use native.Mathlib.Nat.{mod-eq_of_lt}
use native.Mathlib.Omega.{arith}
use mathlib.Core.Path.{◌≡◌, refl, sym, ap, ◌∙◌}
use mathlib.Core.Bool.{Bool, true, false, cond, ◌||◌, false≢true}
use mathlib.Core.Logic.{◌⊎◌, inl, inr}
use lib.Dec.{eqb, ltb, leb}
use lib.Pow.{pow_pos, pow_mono}
use borrow.Author.Tests.{ltb-true, ltb-false, leb-true, leb-false, eqb-true, eqb-false, lt-ltb, le-leb, lt-leb}
use Rattle.dwords.specs.Dwords.{bits, bit}
use Rattle.dwords.proofs.Bytes.{bits_below}
use Rattle.sfdp.specs.Jesd216.{address_bytes, density, density_fits, volatility}
use Rattle.sfdp.specs.declared.SFDPAddressBytes.{SFDPAddressBytes}
use Rattle.sfdp.specs.declared.SFDPAddressBytes.TheVariants as Address
use Rattle.sfdp.specs.declared.SFDPStatus1Volatility.{SFDPStatus1Volatility}
use Rattle.sfdp.specs.declared.SFDPStatus1Volatility.TheVariants as Status1
use Rattle.sfdp.proofs.Laws.{left_of, right_of, density_fits_lem, lowest}
use Rattle.sfdp_write.specs.Table.{placed, mark, exponent, address_code, volatility_code, dword2}
use Rattle.sfdp_write.specs.Form.{power, density_formed, page_formed}
use Rattle.sfdp_write.proofs.Powers.{zeros_power, power_is}
use Rattle.sfdp_write.proofs.Fields.{small_below, small_31, large_below, large_31, large_30_0}

-- ---- marks
mark_back : (b : Bool) → eqb (mark b % 2) 1 ≡ b
mark_back true = refl
mark_back false = refl

pub marked : (d k : ℕ) (b : Bool) → bits d k k ≡ mark b % 2 → bit d k ≡ b
marked d k b e = ap (λ (x : ℕ). eqb x 1) e ∙ mark_back b

pub mark_again : (x : ℕ) → x < 2 → mark (eqb x 1) ≡ x
mark_again zero h = refl
mark_again (suc zero) h = refl
mark_again (suc (suc x)) h = absurd (omega arith)

-- ---- 4 KiB erase: 01 or 11
pub support_back : (b : Bool) → eqb (cond b 1 3 % 4) 1 ≡ b
support_back true = refl
support_back false = refl

pub support_code : (b : Bool) → (cond b 1 3 % 4 ≡ 1) ⊎ (cond b 1 3 % 4 ≡ 3)
support_code true = inl refl
support_code false = inr refl

pub support_again : (x : ℕ) → (x ≡ 1) ⊎ (x ≡ 3) → cond (eqb x 1) 1 3 ≡ x
support_again x (inl e) = rw e
support_again x (inr e) = rw e

-- ---- write-enable: 06 or 50
pub enable_back : (x : ℕ) → eqb x 0x06 || eqb x 0x50 ≡ true → cond (eqb x 0x06) 0x06 0x50 ≡ x
enable_back x h = by_test (eqb x 0x06) refl h
  where
    by_test : (b : Bool) → eqb x 0x06 ≡ b → b || eqb x 0x50 ≡ true → cond b 0x06 0x50 ≡ x
    by_test true e q = sym (eqb-true x 0x06 e)
    by_test false e q = sym (eqb-true x 0x50 q)

pub enable_formed : (b : Bool) → eqb (cond b 0x06 0x50) 0x06 || eqb (cond b 0x06 0x50) 0x50 ≡ true
enable_formed true = refl
enable_formed false = refl

pub enable_again : (b : Bool) → mark (eqb (cond b 0x06 0x50) 0x06) ≡ mark b
enable_again true = refl
enable_again false = refl

-- ---- address bytes: not 11
pub address_back : (a : SFDPAddressBytes) → ltb (address_code a) 3 ≡ true → address_bytes (address_code a % 4) ≡ a
unfolding address_code address_bytes
address_back Address.Three h = refl
address_back Address.ThreeOrFour h = refl
address_back Address.Four h = refl
address_back Address.Reserved h = absurd (false≢true h)

pub address_formed : (a : SFDPAddressBytes) → (a ≡ Address.Reserved → ⊥) → ltb (address_code a) 3 ≡ true
unfolding address_code
address_formed Address.Three h = refl
address_formed Address.ThreeOrFour h = refl
address_formed Address.Four h = refl
address_formed Address.Reserved h = absurd (h refl)

pub address_free : (a : SFDPAddressBytes) → ltb (address_code a) 3 ≡ true → a ≡ Address.Reserved → ⊥
unfolding address_code
address_free a h e = let r : ltb (address_code a) 3 ≡ false = ap (λ (x : SFDPAddressBytes). ltb (address_code x) 3) e in absurd (false≢true (sym r ∙ h))

pub address_other : (a : SFDPAddressBytes) → ltb (address_code a) 3 ≡ true → address_code a % 4 ≡ 3 → ⊥
address_other a h e = omega (arith, ltb-true (address_code a) 3 h)

pub address_again : (x : ℕ) → x < 4 → (x ≡ 3 → ⊥) → address_code (address_bytes x) ≡ x
unfolding address_code address_bytes
address_again zero h n = refl
address_again (suc zero) h n = refl
address_again (suc (suc zero)) h n = refl
address_again (suc (suc (suc x))) h n = absurd (n (omega arith))

pub address_read : (x : ℕ) → x < 4 → (x ≡ 3 → ⊥) → address_bytes x ≡ Address.Reserved → ⊥
unfolding address_code address_bytes
address_read x h n e =
    let c : address_code (address_bytes x) ≡ 3 = ap address_code e in
    n (sym (address_again x h n) ∙ c)

-- ---- volatility: one of five
pub status_back : (s : SFDPStatus1Volatility) → ltb 0 (volatility_code s) ≡ true → volatility (volatility_code s % 32) ≡ s
unfolding volatility_code volatility
status_back Status1.NonVolatile06 h = refl
status_back Status1.Volatile06 h = refl
status_back Status1.Volatile50 h = refl
status_back Status1.NonVolatile06Volatile50 h = refl
status_back Status1.Mixed06 h = refl
status_back Status1.Reserved h = absurd (false≢true h)

pub status_formed : (s : SFDPStatus1Volatility) → (s ≡ Status1.Reserved → ⊥) → ltb 0 (volatility_code s) ≡ true
unfolding volatility_code
status_formed Status1.NonVolatile06 h = refl
status_formed Status1.Volatile06 h = refl
status_formed Status1.Volatile50 h = refl
status_formed Status1.NonVolatile06Volatile50 h = refl
status_formed Status1.Mixed06 h = refl
status_formed Status1.Reserved h = absurd (h refl)

pub status_free : (s : SFDPStatus1Volatility) → ltb 0 (volatility_code s) ≡ true → s ≡ Status1.Reserved → ⊥
unfolding volatility_code
status_free s h e = let r : ltb 0 (volatility_code s) ≡ false = ap (λ (x : SFDPStatus1Volatility). ltb 0 (volatility_code x)) e in absurd (false≢true (sym r ∙ h))

pub status_again : (v : ℕ) → (volatility v ≡ Status1.Reserved → ⊥) → volatility_code (volatility v) ≡ v
unfolding volatility_code volatility
status_again v h = by_tests (eqb v 1) (eqb v 2) (eqb v 4) (eqb v 8) (eqb v 16) refl refl refl refl refl
  where
    at : (n : ℕ) → eqb v n ≡ true → volatility_code (volatility n) ≡ n → volatility_code (volatility v) ≡ v
    at n e r = let q : v ≡ n = eqb-true v n e in rw q r

    by_tests : (b1 b2 b3 b4 b5 : Bool) → eqb v 1 ≡ b1 → eqb v 2 ≡ b2 → eqb v 4 ≡ b3 → eqb v 8 ≡ b4 → eqb v 16 ≡ b5
        → volatility_code (volatility v) ≡ v
    by_tests true b2 b3 b4 b5 e1 e2 e3 e4 e5 = at 1 e1 refl
    by_tests false true b3 b4 b5 e1 e2 e3 e4 e5 = at 2 e2 refl
    by_tests false false true b4 b5 e1 e2 e3 e4 e5 = at 4 e3 refl
    by_tests false false false true b5 e1 e2 e3 e4 e5 = at 8 e4 refl
    by_tests false false false false true e1 e2 e3 e4 e5 = at 16 e5 refl
    by_tests false false false false false e1 e2 e3 e4 e5 = absurd (h (rw (e1, e2, e3, e4, e5)))

-- ---- powers of two
pub exponent_is : (w n : ℕ) → power w n ≡ true → 2 ^ exponent w n ≡ n
exponent_is w n h = eqb-true (2 ^ exponent w n) n h

-- an exponent is below k where the power is
pub exponent_below : (w n k : ℕ) → power w n ≡ true → n < 2 ^ k → exponent w n < k
exponent_below w n k h l = below (ltb (exponent w n) k) refl
  where
    below : (b : Bool) → ltb (exponent w n) k ≡ b → exponent w n < k
    below true e = ltb-true (exponent w n) k e
    below false e =
        let m : 2 ^ k ≤ 2 ^ exponent w n = pow_mono (ltb-false (exponent w n) k e) in
        absurd (omega (arith, exponent_is w n h))

-- ---- the density
module _ (n : ℕ) (h : density_formed n ≡ true) where
  pub density_some : 0 < n
  unfolding density_formed
  density_some = by_test (leb n 2147483648) refl h
    where
      by_test : (b : Bool) → leb n 2147483648 ≡ b → cond b (ltb 0 n) (power 64 n) ≡ true → 0 < n
      by_test true e q = ltb-true 0 n q
      by_test false e q = omega (arith, leb-false n 2147483648 e)

-- what is read of dword 2, and that an exponent there is above 31
pub record Dense (d n : ℕ) : Type 0 where
  pub is : density d ≡ n
  pub fits : density_fits d ≡ true
  pub above : bit d 31 ≡ true → 2147483648 < n
  pub below : d < 2 ^ 32

pub density_back : (n : ℕ) → density_formed n ≡ true → n < 2 ^ 64 → Dense (dword2 n) n
unfolding density density_fits density_formed dword2
density_back n h l = by_test (leb n 2147483648) refl
  where
    -- stored as it is, less 1
    small : leb n 2147483648 ≡ true → Dense (placed 30 0 (n - 1)) n
    small e =
        let m : n ≤ 2147483648 = leb-true n 2147483648 e in
        let z : bits (placed 30 0 (n - 1)) 31 31 ≡ 0 = small_31 (n - 1) in
        let some : 0 < n = density_some n h in
        record {
          is = rw z (omega arith);
          fits = rw z;
          above = λ (b : bit (placed 30 0 (n - 1)) 31 ≡ true). let o : bits (placed 30 0 (n - 1)) 31 31 ≡ 1 = eqb-true (bits (placed 30 0 (n - 1)) 31 31) 1 b in absurd (omega (arith, o, z));
          below = small_below (n - 1);
        }

    -- stored by its exponent
    large : leb n 2147483648 ≡ false → Dense (placed 30 0 (exponent 64 n) + placed 31 31 1) n
    large e =
        let q : power 64 n ≡ true = rw e at h in
        let x = exponent 64 n in
        let s : x < 64 = exponent_below 64 n 64 q l in
        let o : bits (placed 30 0 x + placed 31 31 1) 31 31 ≡ 1 = large_31 x in
        let r : bits (placed 30 0 x + placed 31 31 1) 30 0 ≡ x = large_30_0 x ∙ mod-eq_of_lt (omega arith) in
        record {
          is = rw (o, r) (exponent_is 64 n q);
          fits = rw (o, r) (lt-ltb x 64 s);
          above = λ (b : bit (placed 30 0 x + placed 31 31 1) 31 ≡ true). leb-false n 2147483648 e;
          below = large_below x;
        }

    by_test : (b : Bool) → leb n 2147483648 ≡ b → Dense (cond b (placed 30 0 (n - 1)) (placed 30 0 (exponent 64 n) + placed 31 31 1)) n
    by_test true e = small e
    by_test false e = large e

-- of a dword 2 that is read
module _ (d : ℕ) (l : d < 2 ^ 32) (fits : density_fits d ≡ true) where
  pub density_formed_lem : density_formed (density d) ≡ true
  unfolding density density_formed
  density_formed_lem = by_bit (bit d 31) refl
    where
      power_formed : (e : ℕ) → e < 64 → (b : Bool) → leb (2 ^ e) 2147483648 ≡ b → cond b (ltb 0 (2 ^ e)) (power 64 (2 ^ e)) ≡ true
      power_formed e s true t = lt-ltb 0 (2 ^ e) (pow_pos e)
      power_formed e s false t = power_is 64 e s

      by_bit : (b : Bool) → bit d 31 ≡ b
          → cond (leb (cond b (2 ^ bits d 30 0) (d + 1)) 2147483648) (ltb 0 (cond b (2 ^ bits d 30 0) (d + 1))) (power 64 (cond b (2 ^ bits d 30 0) (d + 1))) ≡ true
      by_bit true e = power_formed (bits d 30 0) (density_fits_lem d fits (eqb-true (bits d 31 31) 1 e)) (leb (2 ^ bits d 30 0) 2147483648) refl
      by_bit false e =
          let z : bits d 31 31 ≡ 1 → ⊥ = eqb-false (bits d 31 31) 1 e in
          rw (le-leb (d + 1) 2147483648 (omega (arith, bits_below d 31 31))) (lt-ltb 0 (d + 1) (omega arith))

  pub density_again : (bit d 31 ≡ true → 2147483648 < density d) → dword2 (density d) ≡ d
  unfolding density dword2
  density_again above = by_bit (bit d 31) refl above
    where
      by_bit : (b : Bool) → bit d 31 ≡ b → (b ≡ true → 2147483648 < cond b (2 ^ bits d 30 0) (d + 1))
          → cond (leb (cond b (2 ^ bits d 30 0) (d + 1)) 2147483648) (placed 30 0 (cond b (2 ^ bits d 30 0) (d + 1) - 1)) (placed 30 0 (exponent 64 (cond b (2 ^ bits d 30 0) (d + 1))) + placed 31 31 1) ≡ d
      by_bit true e a =
          let o : bits d 31 31 ≡ 1 = eqb-true (bits d 31 31) 1 e in
          let s : bits d 30 0 < 64 = density_fits_lem d fits o in
          let w : bits d 30 0 ≡ d % 2147483648 = lowest d 30 in
          rw (lt-leb (2 ^ bits d 30 0) 2147483648 (a refl), zeros_power 64 (bits d 30 0) s, w) (omega (arith, o))
      by_bit false e a =
          let z : bits d 31 31 ≡ 1 → ⊥ = eqb-false (bits d 31 31) 1 e in
          rw (le-leb (d + 1) 2147483648 (omega (arith, bits_below d 31 31))) (omega (arith, bits_below d 31 31))

-- ---- the page
pub page_back : (n : ℕ) → page_formed n ≡ true → 2 ^ (exponent 32 n % 16) ≡ n
unfolding page_formed
page_back n h =
    let q : power 32 n ≡ true = left_of (power 32 n) (leb n 32768) h in
    let m : n ≤ 32768 = leb-true n 32768 (right_of (power 32 n) (leb n 32768) h) in
    let s : exponent 32 n < 16 = exponent_below 32 n 16 q (omega arith) in
    ap (λ (x : ℕ). 2 ^ x) (mod-eq_of_lt s) ∙ exponent_is 32 n q

pub page_formed_lem : (e : ℕ) → e < 16 → page_formed (2 ^ e) ≡ true
unfolding page_formed
page_formed_lem e h =
    let q : power 32 (2 ^ e) ≡ true = power_is 32 e (omega arith) in
    let s : e ≤ 15 = omega arith in
    let m : leb (2 ^ e) 32768 ≡ true = le-leb (2 ^ e) 32768 (pow_mono s) in
    rw (q, m)
