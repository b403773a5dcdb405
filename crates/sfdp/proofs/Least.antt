-- The erase type that is chosen: the smallest of the four, of one size the lowest opcode.
use mathlib.Core.Path.{◌≡◌, refl, ap, ◌∙◌}
use mathlib.Core.Bool.{Bool, true, false, cond, ◌&&◌, ◌||◌}
use mathlib.Core.List.Memᴰ
use mathlib.Core.List.{List, [], ◌∷◌, Memᴰ}
use mathlib.Core.Logic.{◌⊎◌, inl, inr, ⊎_elim}
use Prim.Native.Nat.{ℕ, ◌≤◌, ◌<◌}
use native.Mathlib.Nat.{le_refl, le_trans}
use native.Mathlib.Omega.{arith}
use lib.Dec.{eqb, ltb}
use borrow.Author.Tests.{eqb-true, eqb-false, ltb-true, ltb-false, eq-eqb, ne_eqb}
use Rattle.sfdp.proofs.Bounds.{Between, Power, Sized, Place, Places}
use Rattle.sfdp.specs.Chosen.{missing, below, lesser, listed, smallest, size_and_opcode, sector_erase}
use Rattle.sfdp.specs.declared.SFDPEraseInst.{SFDPEraseInst}
use Rattle.sfdp.specs.declared.SFDPEraseInsts.{SFDPEraseInsts}
use Rattle.sfdp.specs.declared.SectorErase.{SectorErase}
use Rattle.std.specs.Prelude.{Some, None}

-- y, if it has a size, is not before x: neither smaller nor of one size with a lower opcode
pub record NotBefore (x y : SFDPEraseInst) : Type 0 where
  -- x has a size then too
  pub has_size : 0 < y.size → 0 < x.size
  -- y is not smaller
  pub no_smaller : 0 < y.size → x.size ≤ y.size
  -- of one size, y's opcode is not lower
  pub no_lower : 0 < y.size → y.size ≡ x.size → x.opcode ≤ y.opcode

itself : (x : SFDPEraseInst) → NotBefore x x
itself x = record {
  has_size = λ (h : 0 < x.size). h;
  no_smaller = λ (h : 0 < x.size). le_refl x.size;
  no_lower = λ (h : 0 < x.size). λ (e : x.size ≡ x.size). le_refl x.opcode;
}

chain : {x y z : SFDPEraseInst} → NotBefore x y → NotBefore y z → NotBefore x z
chain {x} {y} {z} p q = record {
  has_size = λ (h : 0 < z.size). p.has_size (q.has_size h);
  no_smaller = λ (h : 0 < z.size). le_trans (p.no_smaller (q.has_size h)) (q.no_smaller h);
  no_lower = λ (h : 0 < z.size). λ (e : z.size ≡ x.size).
      let a : x.size ≤ y.size = p.no_smaller (q.has_size h) in
      let b : y.size ≤ z.size = q.no_smaller h in
      let xy : y.size ≡ x.size = omega arith in
      let yz : z.size ≡ y.size = omega arith in
      le_trans (p.no_lower (q.has_size h) xy) (q.no_lower h yz);
}

-- of two, one of them, and neither is before it
record OfTwo (a b r : SFDPEraseInst) : Type 0 where
  one : (r ≡ a) ⊎ (r ≡ b)
  first : NotBefore r a
  second : NotBefore r b

lesser_of_two : (a b : SFDPEraseInst) → OfTwo a b (lesser a b)
unfolding lesser below
lesser_of_two a b = by_tests (missing b) (missing a) (ltb b.size a.size) (eqb b.size a.size) (ltb b.opcode a.opcode) refl refl refl refl refl
  where
    left : NotBefore a b → OfTwo a b a
    left h = record { one = inl refl; first = itself a; second = h }

    right : NotBefore b a → OfTwo a b b
    right h = record { one = inr refl; first = h; second = itself b }

    by_tests : (mb ma lt eq lo : Bool) → missing b ≡ mb → missing a ≡ ma → ltb b.size a.size ≡ lt → eqb b.size a.size ≡ eq → ltb b.opcode a.opcode ≡ lo → OfTwo a b (cond mb a (cond (ma || (lt || (eq && lo))) b a))
    by_tests true ma lt eq lo hb ha hl he ho =
        let none : b.size ≡ 0 = eqb-true b.size 0 hb in
        left (record {
          has_size = λ (h : 0 < b.size). absurd (omega arith);
          no_smaller = λ (h : 0 < b.size). absurd (omega arith);
          no_lower = λ (h : 0 < b.size). λ (e : b.size ≡ a.size). absurd (omega arith);
        })
    by_tests false true lt eq lo hb ha hl he ho =
        let none : a.size ≡ 0 = eqb-true a.size 0 ha in
        right (record {
          has_size = λ (h : 0 < a.size). absurd (omega arith);
          no_smaller = λ (h : 0 < a.size). absurd (omega arith);
          no_lower = λ (h : 0 < a.size). λ (e : a.size ≡ b.size). absurd (omega arith);
        })
    by_tests false false true eq lo hb ha hl he ho =
        let some_b : b.size ≡ 0 → ⊥ = eqb-false b.size 0 hb in
        let less : b.size < a.size = ltb-true b.size a.size hl in
        right (record {
          has_size = λ (h : 0 < a.size). omega arith;
          no_smaller = λ (h : 0 < a.size). omega arith;
          no_lower = λ (h : 0 < a.size). λ (e : a.size ≡ b.size). absurd (omega arith);
        })
    by_tests false false false true true hb ha hl he ho =
        let some_b : b.size ≡ 0 → ⊥ = eqb-false b.size 0 hb in
        let same : b.size ≡ a.size = eqb-true b.size a.size he in
        let lower : b.opcode < a.opcode = ltb-true b.opcode a.opcode ho in
        right (record {
          has_size = λ (h : 0 < a.size). omega arith;
          no_smaller = λ (h : 0 < a.size). omega arith;
          no_lower = λ (h : 0 < a.size). λ (e : a.size ≡ b.size). omega arith;
        })
    by_tests false false false true false hb ha hl he ho =
        let some_a : a.size ≡ 0 → ⊥ = eqb-false a.size 0 ha in
        let more : a.size ≤ b.size = ltb-false b.size a.size hl in
        let lower : a.opcode ≤ b.opcode = ltb-false b.opcode a.opcode ho in
        left (record {
          has_size = λ (h : 0 < b.size). omega arith;
          no_smaller = λ (h : 0 < b.size). more;
          no_lower = λ (h : 0 < b.size). λ (e : b.size ≡ a.size). lower;
        })
    by_tests false false false false lo hb ha hl he ho =
        let some_a : a.size ≡ 0 → ⊥ = eqb-false a.size 0 ha in
        let more : a.size ≤ b.size = ltb-false b.size a.size hl in
        left (record {
          has_size = λ (h : 0 < b.size). omega arith;
          no_smaller = λ (h : 0 < b.size). more;
          no_lower = λ (h : 0 < b.size). λ (e : b.size ≡ a.size). absurd (eqb-false b.size a.size he e);
        })

-- x is one of the list, and none of the list is before it
pub record Least (l : List SFDPEraseInst) (x : SFDPEraseInst) : Type 0 where
  pub member : Memᴰ x l
  pub none_before : (y : SFDPEraseInst) → Memᴰ y l → NotBefore x y

-- the lesser of x and all of a list
abbrev least_of : SFDPEraseInst → List SFDPEraseInst → SFDPEraseInst
least_of x [] = x
least_of x (y ∷ l) = least_of (lesser x y) l

same : {x y z : SFDPEraseInst} → y ≡ z → NotBefore x z → NotBefore x y
same e h = rw e h

least_of_lem : (x : SFDPEraseInst) (l : List SFDPEraseInst) → Least (x ∷ l) (least_of x l)
least_of_lem x [] = record {
  member = Memᴰ.head refl;
  none_before = λ (y : SFDPEraseInst). λ (m : Memᴰ y (x ∷ [])). same (Memᴰ.eq_of_singleton m) (itself x);
}
least_of_lem x (y ∷ l) = step (least_of_lem (lesser x y) l)
  where
    r : SFDPEraseInst
    r = least_of (lesser x y) l

    two : OfTwo x y (lesser x y)
    two = lesser_of_two x y

    place : Memᴰ r (lesser x y ∷ l) → Memᴰ r (x ∷ y ∷ l)
    place m =
        ⊎_elim
        (λ (e : r ≡ lesser x y). ⊎_elim (λ (f : lesser x y ≡ x). Memᴰ.head (e ∙ f)) (λ (f : lesser x y ≡ y). Memᴰ.tail (Memᴰ.head (e ∙ f))) two.one)
        (λ (n : Memᴰ r l). Memᴰ.tail (Memᴰ.tail n))
        (Memᴰ.cases_cons m)

    step : Least (lesser x y ∷ l) r → Least (x ∷ y ∷ l) r
    step h = record {
      member = place h.member;
      none_before = λ (z : SFDPEraseInst). λ (m : Memᴰ z (x ∷ y ∷ l)).
          let top : NotBefore r (lesser x y) = h.none_before (lesser x y) (Memᴰ.head refl) in
          ⊎_elim
          (λ (e : z ≡ x). same e (chain top two.first))
          (λ (n : Memᴰ z (y ∷ l)). ⊎_elim (λ (e : z ≡ y). same e (chain top two.second)) (λ (k : Memᴰ z l). h.none_before z (Memᴰ.tail k)) (Memᴰ.cases_cons n))
          (Memᴰ.cases_cons m);
    }

-- ---- the smallest of the four
pub smallest_least : (s : SFDPEraseInsts) → Least (listed s) (smallest s)
unfolding smallest
smallest_least s = least_of_lem s.inst1 (s.inst2 ∷ s.inst3 ∷ s.inst4 ∷ [])

-- it has a size where any of them has
pub smallest_some : (s : SFDPEraseInsts) (y : SFDPEraseInst) → Memᴰ y (listed s) → 0 < y.size → missing (smallest s) ≡ false
smallest_some s y m h =
    let size : 0 < (smallest s).size = ((smallest_least s).none_before y m).has_size h in
    ne_eqb (smallest s).size 0 (λ (e : (smallest s).size ≡ 0). omega arith)

-- and none where none has
pub smallest_none : (s : SFDPEraseInsts) → ((y : SFDPEraseInst) → Memᴰ y (listed s) → y.size ≡ 0) → missing (smallest s) ≡ true
smallest_none s h = eq-eqb (smallest s).size 0 (h (smallest s) (smallest_least s).member)

-- ---- what the driver takes
pub sector_some : (s : SFDPEraseInsts) (y : SFDPEraseInst) → Memᴰ y (listed s) → 0 < y.size → sector_erase s ≡ Some (size_and_opcode (smallest s))
unfolding sector_erase
sector_some s y m h = rw (smallest_some s y m h)

pub sector_none : (s : SFDPEraseInsts) → ((y : SFDPEraseInst) → Memᴰ y (listed s) → y.size ≡ 0) → sector_erase s ≡ None
unfolding sector_erase
sector_none s h = rw (smallest_none s h)

-- where nothing is chosen, none has a size
pub nothing_none : (s : SFDPEraseInsts) → sector_erase s ≡ None → (y : SFDPEraseInst) → Memᴰ y (listed s) → y.size ≡ 0
nothing_none s h y m = by_test (eqb y.size 0) refl
  where
    by_test : (b : Bool) → eqb y.size 0 ≡ b → y.size ≡ 0
    by_test true e = eqb-true y.size 0 e
    by_test false e =
        let n : y.size ≡ 0 → ⊥ = eqb-false y.size 0 e in
        let q : sector_erase s ≡ Some (size_and_opcode (smallest s)) = sector_some s y m (omega arith) in
        let z : ◌≡◌ {A = ℕ} 0 1 = cc in
        absurd (omega arith)

-- a size and an opcode that are chosen are those of the smallest type
pub record Chosen (s : SFDPEraseInsts) (size opcode : ℕ) : Type 0 where
  pub of_size : (smallest s).size ≡ size
  pub of_opcode : (smallest s).opcode ≡ opcode
  pub some_size : 0 < size

pub sector_chosen : (s : SFDPEraseInsts) (e : SectorErase) → sector_erase s ≡ Some e → Chosen s e.size e.opcode
unfolding sector_erase
sector_chosen s e h = by_test (missing (smallest s)) refl h
  where
    by_test : (b : Bool) → missing (smallest s) ≡ b → cond b None (Some (size_and_opcode (smallest s))) ≡ Some e → Chosen s e.size e.opcode
    by_test true m q = let z : ◌≡◌ {A = ℕ} 0 1 = cc in absurd (omega arith)
    by_test false m q =
        let f : size_and_opcode (smallest s) ≡ e = cc in
        let g : (smallest s).size ≡ 0 → ⊥ = eqb-false (smallest s).size 0 m in
        let size : (smallest s).size ≡ e.size = ap (λ (x : SectorErase). x.size) f in
        record { of_size = size; of_opcode = ap (λ (x : SectorErase). x.opcode) f; some_size = omega (arith, size) }

-- ---- with the bounds of an accepted table
pub place_of : {s : SFDPEraseInsts} → Places s → (y : SFDPEraseInst) → Memᴰ y (listed s) → Place y
place_of {s} h y m =
    ⊎_elim
    (λ (e : y ≡ s.inst1). rw e h.first)
    (λ (n : Memᴰ y (s.inst2 ∷ s.inst3 ∷ s.inst4 ∷ [])).
    ⊎_elim
    (λ (e : y ≡ s.inst2). rw e h.second)
    (λ (k : Memᴰ y (s.inst3 ∷ s.inst4 ∷ [])).
    ⊎_elim
    (λ (e : y ≡ s.inst3). rw e h.third)
    (λ (j : Memᴰ y (s.inst4 ∷ [])). rw (Memᴰ.eq_of_singleton j) h.fourth)
    (Memᴰ.cases_cons k))
    (Memᴰ.cases_cons n))
    (Memᴰ.cases_cons m)

-- a place with a size has a type
pub sized_of : {y : SFDPEraseInst} → Place y → 0 < y.size → Sized y
sized_of {y} (inl e) h = let z : y.size ≡ 0 = rw e in absurd (omega arith)
sized_of (inr k) h = k

-- a size that is chosen is a power of two from 2 to 2,147,483,648, its opcode is from 1 to 255
pub record ChosenBounds (size opcode : ℕ) : Type 0 where
  pub power : Power 1 31 size
  pub code : Between 1 255 opcode

pub sector_bounds : {s : SFDPEraseInsts} {size opcode : ℕ} → Places s → Chosen s size opcode → ChosenBounds size opcode
sector_bounds {s} {size} {opcode} h c =
    let some : 0 < (smallest s).size = omega (arith, c.of_size, c.some_size) in
    let z : Sized (smallest s) = sized_of (place_of h (smallest s) (smallest_least s).member) some in
    record { power = rw c.of_size at z.power; code = rw c.of_opcode at z.code }
