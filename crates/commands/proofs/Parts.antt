-- Bytes cut at page ends: as many parts as pages are touched.
use mathlib.Core.Path.{◌≡◌, refl, sym, ap, ◌∙◌}
use mathlib.Core.Bool.{cond}
use mathlib.Core.Logic.{⊎_elim}
use mathlib.Core.List.{[], ◌∷◌}
use Prim.Native.Nat.{ℕ, zero, suc, ◌+◌, ◌-◌, ◌/◌, ◌%◌, ◌≤◌, ◌<◌}
use native.Mathlib.Omega.{arith}
use native.Mathlib.Nat.{mod-lt, div-add-mod', div-eq_of_lt-le, div-lt_iff_lt-mul, suc-mul}
use lib.Dec.{eqb}
use lib.ListN.{length}
use borrow.Author.Tests.{lt-ltb, le-ltb, ne_eqb}
use Rattle.erase_plan.proofs.Lists.{lt_or_le}
use Rattle.settings.specs.declared.Settings.{Settings}
use Rattle.settings.specs.Limits.{page_of}
use Rattle.commands.specs.Transactions.{to_page_end, parts_in, parts}
use Rattle.commands.specs.Bounds.{pages}

-- ---- the parts, one at a time
pub in_more : (f page a off n : ℕ) → off < n
    → parts_in (suc f) page a off n ≡ record { off = off; len = to_page_end page a off n } ∷ parts_in f page a (off + to_page_end page a off n) n
unfolding parts_in
in_more f page a off n h = rw (lt-ltb off n h, parts_in)

pub in_done : (f page a off n : ℕ) → n ≤ off → parts_in f page a off n ≡ []
unfolding parts_in
in_done zero page a off n h = refl
in_done (suc f) page a off n h = rw (le-ltb off n h, parts_in)

-- a part ends with its page, or with the bytes
pub to_end : (page a off n : ℕ) → n - off ≤ page - (a + off) % page → to_page_end page a off n ≡ n - off
unfolding to_page_end
to_end page a off n h = omega arith

pub to_page : (page a off n : ℕ) → page - (a + off) % page ≤ n - off → to_page_end page a off n ≡ page - (a + off) % page
unfolding to_page_end
to_page page a off n h = omega arith

-- ---- positions in one page have one quotient
module _ (page : ℕ) (p : 1 ≤ page) where
  same_page : (x y : ℕ) → x % page + y < page → (x + y) / page ≡ x / page
  same_page x y h =
      div-eq_of_lt-le page (omega (arith, div-add-mod' x page)) (omega (arith, div-add-mod' x page, suc-mul (x / page) page))

  -- the next page's first position
  next_page : (x : ℕ) → (x + (page - x % page)) / page ≡ suc (x / page)
  next_page x =
      div-eq_of_lt-le page (omega (arith, div-add-mod' x page, mod-lt x p, suc-mul (x / page) page))
      (omega (arith, div-add-mod' x page, mod-lt x p, suc-mul (x / page) page, suc-mul (suc (x / page)) page))

  quotient_le : (x y : ℕ) → x ≤ y → x / page ≤ y / page
  quotient_le x y h =
      ⊎_elim (λ (k : y / page < x / page). absurd (omega (arith, (div-lt_iff_lt-mul p).0 k, div-add-mod' x page)))
      (λ (k : x / page ≤ y / page). k) (lt_or_le (y / page) (x / page))

  in_pages : (f a off n : ℕ) → n - off ≤ f → off < n → length (parts_in f page a off n) ≡ (a + n - 1) / page - (a + off) / page + 1
  in_pages zero a off n k h = absurd (omega arith)
  in_pages (suc f) a off n k h =
      rw (in_more f page a off n h)
      (⊎_elim
      (λ (l : page - (a + off) % page < n - off).
      let e : to_page_end page a off n ≡ page - (a + off) % page = to_page page a off n (omega arith) in
      let m : (a + off) % page < page = mod-lt (a + off) p in
      let o : a + (off + (page - (a + off) % page)) ≡ a + off + (page - (a + off) % page) = omega arith in
      let s : (a + (off + (page - (a + off) % page))) / page ≡ suc ((a + off) / page) = ap (λ (x : ℕ). x / page) o ∙ next_page (a + off) in
      rw e (omega (
        arith,
        s,
        in_pages f a (off + (page - (a + off) % page)) n (omega arith) (omega arith),
        quotient_le (a + (off + (page - (a + off) % page))) (a + n - 1) (omega arith),
      )))
      (λ (l : n - off ≤ page - (a + off) % page).
      let e : to_page_end page a off n ≡ n - off = to_end page a off n l in
      let o : a + n - 1 ≡ a + off + (n - off - 1) = omega arith in
      let s : (a + n - 1) / page ≡ (a + off) / page = ap (λ (x : ℕ). x / page) o ∙ same_page (a + off) (n - off - 1) (omega (arith, mod-lt (a + off) p)) in
      rw (e, in_done f page a (off + (n - off)) n (omega arith)) (omega (arith, s)))
      (lt_or_le (page - (a + off) % page) (n - off)))

-- ---- pages
pub pages_none : (page a : ℕ) → pages page a 0 ≡ 0
unfolding pages
pages_none page a = refl

pub pages_some : (page a n : ℕ) → 1 ≤ n → pages page a n ≡ (a + n - 1) / page - a / page + 1
unfolding pages
pages_some page a n h = rw (ne_eqb n 0 (λ e. omega arith))

pub parts_pages : (page a n : ℕ) → 1 ≤ page → length (parts page a 0 n) ≡ pages page a n
unfolding parts
parts_pages page a n p =
    ⊎_elim
    (λ (h : 0 < n). in_pages page p (n - 0) a 0 n (omega arith) h ∙ ap (λ (x : ℕ). (a + n - 1) / page - x / page + 1) (omega arith) ∙ sym (pages_some page a n h))
    (λ (h : n ≤ 0). let e : n ≡ 0 = omega arith in rw (in_done (n - 0) page a 0 n h, e) (sym (pages_none page a)))
    (lt_or_le 0 n)

-- fewer bytes touch no more pages
pub pages_le : (page a n m : ℕ) → 1 ≤ page → n ≤ m → pages page a n ≤ pages page a m
pages_le page a n m p h =
    ⊎_elim
    (λ (k : 0 < n). rw (pages_some page a n k, pages_some page a m (omega arith)) (omega (arith, quotient_le page p (a + n - 1) (a + m - 1) (omega arith))))
    (λ (k : n ≤ 0). let e : n ≡ 0 = omega arith in rw (e, pages_none page a) (omega arith))
    (lt_or_le 0 n)

-- a page has a byte or more
pub page_some : (s : Settings) → 1 ≤ page_of s
unfolding page_of
page_some s = go s.page_size
  where
    go : (n : ℕ) → 1 ≤ cond (eqb n 0) 256 n
    go zero = omega arith
    go (suc n) = rw (ne_eqb (suc n) 0 (λ e. omega arith)) (omega arith)
