-- What the functions over the memory cite.
use mathlib.Core.Path.{◌≡◌, refl, ap, ◌∙◌, fun_ext}
use mathlib.Core.Logic.{⊎_elim}
use mathlib.Core.List.{List}
use Prim.Native.Nat.{ℕ, suc, ◌+◌, ◌-◌, ◌*◌, ◌/◌, ◌%◌, ◌≤◌, ◌<◌}
use native.Mathlib.Omega.{arith}
use native.Mathlib.Nat.{mod-eq_of_lt, mul-mod_left, add-mod_right, div-add-mod'}
use native.Mathlib.Numerals.{add-one}
use lib.Bits.{bit_and}
use lib.ListN.{length, set, get_or, drop, replicate, drop_of_length-le}
use lib.Seq.{drop-cons, get_or-set_same, get_or-set_other}
use borrow.Rule.Slice.PartMut.{put_mid}
use Rattle.std.proofs.Common.{min, eq-eqb, ne_eqb}
use Rattle.std.proofs.lemmas.Bool.{cases_lt, cases_eq}
use Rattle.std.proofs.lemmas.Bool.Decides.{nat_tests}
use Rattle.std.proofs.lemmas.List.{places, get_or_default}
use Rattle.nor_model.specs.Device.{Part, erased, onward, and_at, programmed}
use Rattle.nor_part.specs.Responds.{mem_of, set_between}

-- a part of a slice overwritten with FF
pub fill_between : (from to n : ℕ) (l : List ℕ) → from ≤ to → to ≤ length l → n ≡ to - from
    → mem_of (put_mid from (to - from) l (replicate n 0xFF)) ≡ set_between from to (mem_of l)
unfolding set_between
fill_between from to n l h g e = fun_ext at
  where
    at : (i : ℕ) → mem_of (put_mid from (to - from) l (replicate n 0xFF)) i ≡ set_between from to (mem_of l) i
    at i = grind (arith, places, nat_tests)

-- past the slice's end all is FF already
pub set_clipped : (from to : ℕ) (l : List ℕ) → set_between from (min (length l) to) (mem_of l) ≡ set_between from to (mem_of l)
unfolding set_between
set_clipped from to l = fun_ext at
  where
    at : (i : ℕ) → set_between from (min (length l) to) (mem_of l) i ≡ set_between from to (mem_of l) i
    at i = grind (arith, places, nat_tests)

-- an erase, its block from a base on
pub erased_between : (size a base : ℕ) (m : ℕ → ℕ) → base ≡ a / size * size → set_between base (base + size) m ≡ erased size a m
unfolding set_between erased
erased_between size a base m e = rw e refl

pub base_of : (a size : ℕ) → a - a % size ≡ a / size * size
base_of a size = omega (arith, div-add-mod' a size)

-- ---- the address after an address
pub page_before : (page a : ℕ) → (a + 1) % page ≡ 0 → page ≤ a + 1
page_before page a h = ⊎_elim
    (λ (g : a + 1 < page). absurd (omega (arith, mod-eq_of_lt g)))
    (λ (g : page ≤ a + 1). g)
    (cases_lt (a + 1) page)

-- it stays below the end of its page
pub onward_below : (page q a : ℕ) → 1 ≤ page → a < q * page + page → onward page a < q * page + page
unfolding onward
onward_below page q a h g = ⊎_elim
    (λ (e : suc a % page ≡ 0). rw (eq-eqb (suc a % page) 0 e) (omega arith))
    (λ (n : suc a % page ≡ 0 → ⊥). rw (ne_eqb (suc a % page) 0 n) (short n))
    (cases_eq (suc a % page) 0)
  where
    whole : (q * page + page) % page ≡ 0
    whole = add-mod_right (q * page) page ∙ mul-mod_left q page

    short : (suc a % page ≡ 0 → ⊥) → suc a < q * page + page
    short n = ⊎_elim
        (λ (e : suc a ≡ q * page + page). absurd (n (ap (λ (k : ℕ). k % page) e ∙ whole)))
        (λ (d : suc a ≡ q * page + page → ⊥). omega arith)
        (cases_eq (suc a) (q * page + page))

-- ---- data ANDed in
pub and_set : (l : List ℕ) (c x : ℕ) → c < length l → mem_of (set l c (bit_and (get_or l c 0) x)) ≡ and_at c x (mem_of l)
unfolding and_at
and_set l c x h = fun_ext at
  where
    at : (i : ℕ) → mem_of (set l c (bit_and (get_or l c 0) x)) i ≡ and_at c x (mem_of l) i
    at i = let e : get_or l c 0 ≡ get_or l c 0xFF = get_or_default l c 0 0xFF h in grind (arith, places, nat_tests, get_or-set_same, get_or-set_other)

module _ (p : Part) (capacity page : ℕ) (hc : p.capacity ≡ capacity) (hp : p.page ≡ page) where
  pub programmed_more : (place i : ℕ) (d l : List ℕ) → i < length d → place % capacity < length l
      → programmed p (onward page place) (drop (i + 1) d) (mem_of (set l (place % capacity) (bit_and (get_or l (place % capacity) 0) (get_or d i 0))))
      ≡ programmed p place (drop i d) (mem_of l)
  unfolding programmed
  programmed_more place i d l h g = rw (and_set l (place % capacity) (get_or d i 0) g, add-one, drop-cons d i 0, hc, hp)

  pub programmed_all : (place i : ℕ) (d l : List ℕ) → length d ≤ i → programmed p place (drop i d) (mem_of l) ≡ mem_of l
  unfolding programmed
  programmed_all place i d l h = rw (drop_of_length-le d h)
