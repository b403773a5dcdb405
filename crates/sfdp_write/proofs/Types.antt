-- Erase types: a type that has a form, read again from its fields; and one that was read, as fields again.
use Prim.Native.Nat.{ℕ, zero, suc, ◌%◌, ◌^◌, ◌≤◌, ◌<◌}
use native.Mathlib.Nat.{mod-eq_of_lt}
use native.Mathlib.Omega.{arith}
use mathlib.Core.Path.{◌≡◌, refl, sym, ap, ◌∙◌}
use mathlib.Core.Bool.{Bool, true, false, cond, not, ◌&&◌, ◌||◌}
use mathlib.Core.Logic.{◌⊎◌, inl, inr, ⊎_elim}
use lib.Dec.{eqb, ltb}
use lib.Pow.{pow_pos, pow_mono}
use borrow.Author.Tests.{not-true, ltb-true, eqb-true, eqb-false, lt-ltb, eq-eqb, ne_eqb}
use Rattle.sfdp.specs.Times.{erase_time, maximum}
use Rattle.sfdp.specs.Jesd216.{no_type, erase_type, size_fits}
use Rattle.sfdp.specs.declared.SFDPEraseInst.{SFDPEraseInst}
use Rattle.sfdp.proofs.Laws.{left_of, right_of, exponent_fits}
use Rattle.sfdp_write.specs.Table.{exponent, size_field}
use Rattle.sfdp_write.specs.Form.{power, time_formed, none_formed, one_formed, type_formed}
use Rattle.sfdp_write.specs.Promises.{AbsentZero, TypeWidths}
use Rattle.sfdp_write.proofs.Powers.{zeros_power, power_is}
use Rattle.sfdp_write.proofs.Codes.{exponent_is, exponent_below}

-- ---- several tests that hold
pub all4 : (a b c d : Bool) → a && b && c && d ≡ true → (a ≡ true) × (b ≡ true) × (c ≡ true) × (d ≡ true)
all4 a b c d h =
    let h3 : a && b && c ≡ true = left_of (a && b && c) d h in
    let h2 : a && b ≡ true = left_of (a && b) c h3 in
    (left_of a b h2, right_of a b h2, right_of (a && b) c h3, right_of (a && b && c) d h)

pub all6 : (a b c d e f : Bool) → a && b && c && d && e && f ≡ true
    → (a ≡ true) × (b ≡ true) × (c ≡ true) × (d ≡ true) × (e ≡ true) × (f ≡ true)
all6 a b c d e f h =
    let h5 : a && b && c && d && e ≡ true = left_of (a && b && c && d && e) f h in
    let r = all4 a b c d (left_of (a && b && c && d) e h5) in
    (r.0, r.1, r.2, r.3, right_of (a && b && c && d) e h5, right_of (a && b && c && d && e) f h)

-- ---- times
pub time_is : (m time typical most : ℕ) → time_formed m time typical most ≡ true → (typical ≡ time) × (most ≡ maximum m time)
unfolding time_formed
time_is m time typical most h = (
  eqb-true typical time (left_of (eqb typical time) (eqb most (maximum m time)) h),
  eqb-true most (maximum m time) (right_of (eqb typical time) (eqb most (maximum m time)) h),
)

pub time_formed_lem : (m time : ℕ) → time_formed m time time (maximum m time) ≡ true
unfolding time_formed
time_formed_lem m time = rw (eq-eqb time time refl, eq-eqb (maximum m time) (maximum m time) refl)

-- ---- a type with a form

-- what is known of its fields e, o and t in the table
pub record Typed (m : ℕ) (i : SFDPEraseInst) : Type 0 where
  pub is : erase_type (size_field i.size % 256) (i.opcode % 256) true m (i.time_raw % 128) ≡ i
  pub fits : size_fits (size_field i.size % 256) (i.opcode % 256) ≡ true
  pub absent : AbsentZero (size_field i.size % 256) (i.opcode % 256) (i.time_raw % 128)

pub fits_small : (e o : ℕ) → e < 32 → size_fits e o ≡ true
unfolding size_fits
fits_small e o h = rw (lt-ltb e 32 h) (or_true (eqb o 0))
  where
    or_true : (b : Bool) → b || true ≡ true
    or_true true = refl
    or_true false = refl

some_exponent : (e n : ℕ) → 2 ^ e ≡ n → 1 < n → 0 < e
some_exponent zero n h l = absurd (omega arith)
some_exponent (suc e) n h l = omega arith

module _ (m : ℕ) (i : SFDPEraseInst) where
  none_field : i.size ≡ 0 → size_field i.size ≡ 0
  unfolding size_field
  none_field z = rw z

  none_typed : i.size ≡ 0 → none_formed i ≡ true → Typed m i
  unfolding none_formed erase_type size_fits size_field
  none_typed z h =
      let h4 : eqb i.opcode 0 && not i.timed && eqb i.time_typ 0 && eqb i.time_max 0 ≡ true =
      left_of (eqb i.opcode 0 && not i.timed && eqb i.time_typ 0 && eqb i.time_max 0) (eqb i.time_raw 0) h in
      let r = all4 (eqb i.opcode 0) (not i.timed) (eqb i.time_typ 0) (eqb i.time_max 0) h4 in
      let o : i.opcode ≡ 0 = eqb-true i.opcode 0 r.0 in
      let k : i.timed ≡ false = not-true i.timed r.1 in
      let t : i.time_typ ≡ 0 = eqb-true i.time_typ 0 r.2 in
      let x : i.time_max ≡ 0 = eqb-true i.time_max 0 r.3 in
      let w : i.time_raw ≡ 0 =
      eqb-true i.time_raw 0 (right_of (eqb i.opcode 0 && not i.timed && eqb i.time_typ 0 && eqb i.time_max 0) (eqb i.time_raw 0) h) in
      let same : no_type ≡ i = λ j. record {
        opcode = sym o j;
        size = sym z j;
        timed = sym k j;
        time_typ = sym t j;
        time_max = sym x j;
        time_raw = sym w j;
      } in
      record {
        is = ap (λ (e : ℕ). erase_type (e % 256) (i.opcode % 256) true m (i.time_raw % 128)) (none_field z) ∙ same;
        fits = rw (z, o);
        absent = λ a. rw (z, o, w) (refl, refl, refl);
      }

  -- a type that is there
  module _ (wide : TypeWidths i) (nz : i.size ≡ 0 → ⊥) (h : one_formed m i ≡ true) where
    tests : (power 32 i.size ≡ true) × (ltb 1 i.size ≡ true) × (ltb 0 i.opcode ≡ true) × (i.timed ≡ true) × (ltb i.time_raw 128 ≡ true)
        × (time_formed m (erase_time i.time_raw) i.time_typ i.time_max ≡ true)
    unfolding one_formed
    tests =
        all6 (power 32 i.size) (ltb 1 i.size) (ltb 0 i.opcode) i.timed (ltb i.time_raw 128)
        (time_formed m (erase_time i.time_raw) i.time_typ i.time_max)
        h

    size_is : 2 ^ exponent 32 i.size ≡ i.size
    size_is = exponent_is 32 i.size tests.0

    exponent_fit : exponent 32 i.size < 32
    exponent_fit = exponent_below 32 i.size 32 tests.0 wide.size

    exponent_some : 0 < exponent 32 i.size
    exponent_some = some_exponent (exponent 32 i.size) i.size size_is (ltb-true 1 i.size tests.1)

    opcode_some : 0 < i.opcode
    opcode_some = ltb-true 0 i.opcode tests.2

    e_is : size_field i.size % 256 ≡ exponent 32 i.size
    unfolding size_field
    e_is = rw (ne_eqb i.size 0 nz) (mod-eq_of_lt (omega (arith, exponent_fit)))

    o_is : i.opcode % 256 ≡ i.opcode
    o_is = mod-eq_of_lt wide.opcode

    t_is : i.time_raw % 128 ≡ i.time_raw
    t_is = mod-eq_of_lt (ltb-true i.time_raw 128 tests.4)

    whole : erase_type (exponent 32 i.size) i.opcode true m i.time_raw ≡ i
    unfolding erase_type
    whole =
        let times : (i.time_typ ≡ erase_time i.time_raw) × (i.time_max ≡ maximum m (erase_time i.time_raw)) =
        time_is m (erase_time i.time_raw) i.time_typ i.time_max tests.5 in
        rw (ne_eqb (exponent 32 i.size) 0 (λ (q : exponent 32 i.size ≡ 0). omega (arith, exponent_some)), ne_eqb i.opcode 0 (λ (q : i.opcode ≡ 0). omega (arith, opcode_some)))
        (λ j. record {
          opcode = i.opcode;
          size = size_is j;
          timed = sym tests.3 j;
          time_typ = sym times.0 j;
          time_max = sym times.1 j;
          time_raw = i.time_raw;
        })

    one_typed : Typed m i
    one_typed = record {
      is =
          ap (λ (e : ℕ). erase_type e (i.opcode % 256) true m (i.time_raw % 128)) e_is
          ∙ ap (λ (o : ℕ). erase_type (exponent 32 i.size) o true m (i.time_raw % 128)) o_is
          ∙ ap (λ (t : ℕ). erase_type (exponent 32 i.size) i.opcode true m t) t_is
          ∙ whole;
      fits = fits_small (size_field i.size % 256) (i.opcode % 256) (rw e_is exponent_fit);
      absent = λ a. absurd (⊎_elim (λ (q : size_field i.size % 256 ≡ 0). omega (arith, e_is, exponent_some)) (λ (q : i.opcode % 256 ≡ 0). omega (arith, o_is, opcode_some)) a);
    }

  pub type_back : TypeWidths i → type_formed m i ≡ true → Typed m i
  unfolding type_formed
  type_back wide h = by_test (eqb i.size 0) refl h
    where
      by_test : (b : Bool) → eqb i.size 0 ≡ b → cond b (none_formed i) (one_formed m i) ≡ true → Typed m i
      by_test true e q = none_typed (eqb-true i.size 0 e) q
      by_test false e q = one_typed wide (eqb-false i.size 0 e) q

-- ---- a type that was read

-- it has a form, and its fields are e, o and t again
pub record Again (e o m t : ℕ) (i : SFDPEraseInst) : Type 0 where
  pub formed : type_formed m i ≡ true
  pub fields : AbsentZero e o t → (size_field i.size ≡ e) × (i.opcode ≡ o) × (i.time_raw ≡ t)

module _ (e o m t : ℕ) (fits : size_fits e o ≡ true) (small : t < 128) where
  none_again : (e ≡ 0) ⊎ (o ≡ 0) → Again e o m t no_type
  unfolding type_formed none_formed size_field
  none_again a = record {
    formed = refl;
    fields = λ (z : AbsentZero e o t). let r : (e ≡ 0) × (o ≡ 0) × (t ≡ 0) = z a in (sym r.0, sym r.1, sym r.2);
  }

  one_again : (e ≡ 0 → ⊥) → (o ≡ 0 → ⊥)
      → Again e o m t (record { opcode = o; size = 2 ^ e; timed = true; time_typ = erase_time t; time_max = maximum m (erase_time t); time_raw = t })
  unfolding type_formed one_formed size_field
  one_again ne op =
      let s : e < 32 = exponent_fits e o fits op in
      let two : 1 ≤ e = omega arith in
      let z : eqb (2 ^ e) 0 ≡ false = ne_eqb (2 ^ e) 0 (λ (q : 2 ^ e ≡ 0). omega (arith, pow_pos e)) in
      let more : 2 ^ 1 ≤ 2 ^ e = pow_mono two in
      record {
        formed = rw (z, power_is 32 e s, lt-ltb 1 (2 ^ e) more, lt-ltb 0 o (omega arith), lt-ltb t 128 small, time_formed_lem m (erase_time t));
        fields = λ (a : AbsentZero e o t). rw (z, zeros_power 32 e s) (refl, refl, refl);
      }

  pub type_again : Again e o m t (erase_type e o true m t)
  unfolding erase_type
  type_again = by_tests (eqb e 0) (eqb o 0) refl refl
    where
      by_tests : (a b : Bool) → eqb e 0 ≡ a → eqb o 0 ≡ b
          → Again e o m t (cond (a || b) no_type (record { opcode = o; size = 2 ^ e; timed = true; time_typ = erase_time t; time_max = maximum m (erase_time t); time_raw = t }))
      by_tests true b p q = none_again (inl (eqb-true e 0 p))
      by_tests false true p q = none_again (inr (eqb-true o 0 q))
      by_tests false false p q = one_again (eqb-false e 0 p) (eqb-false o 0 q)
