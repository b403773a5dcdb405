-- A turn of the scan, and its end: what the function's proof cites.
use Prim.Native.Nat.{ℕ, suc, ◌+◌, ◌-◌, ◌≤◌, ◌<◌, min}
use mathlib.Core.Path.{◌≡◌, refl, ap}
use mathlib.Core.Logic.{◌⊎◌, inl, inr, ⊎_elim}
use mathlib.Core.List.{List, [], ◌∷◌}
use native.Mathlib.Omega.{arith}
use native.Mathlib.Numerals.{add-one}
use borrow.Author.Tests.{lt-ltb, le-ltb, eq-eqb, ne_eqb}
use lib.ListN.{length, drop, get_or, length-drop}
use lib.Seq.{drop-cons}
use Rattle.dump_runs.specs.declared.Next.TheVariants.{Found, More}
use Rattle.dump_runs.specs.Steps.{scan_of}
use Rattle.dump_runs.proofs.Sums.{le_or_lt}

-- ---- heads that differ; heads that are equal, with no run open and with one
module _ (f g s n i x y : ℕ) (p q : List ℕ) where
  pub scan_differs : (x ≡ y → ⊥) → scan_of f g s n i (x ∷ p) (y ∷ q) ≡ scan_of f g s (suc n) (suc i) p q
  unfolding scan_of
  scan_differs h = rw (scan_of, ne_eqb x y h)

  pub scan_equal : x ≡ y → n ≤ 0 → scan_of f g s n i (x ∷ p) (y ∷ q) ≡ scan_of f g (suc s) n (suc i) p q
  unfolding scan_of
  scan_equal h e = rw (scan_of, eq-eqb x y h, le-ltb 0 n e)

  pub scan_closes : x ≡ y → 0 < n → scan_of f g s n i (x ∷ p) (y ∷ q)
      ≡ Found (record { start = s; len = n }) (suc i) (record { start = s + n + 1; len = 0; first = f; second = g })
  unfolding scan_of
  scan_closes h e = rw (scan_of, eq-eqb x y h, lt-ltb 0 n e)

-- ---- a turn over two lists by their heads and what follows, to the next index j
module _ (f g s n i j x y : ℕ) (p q r t : List ℕ) (first : p ≡ x ∷ r) (second : q ≡ y ∷ t) (next : j ≡ i + 1) where
  pub step_differs : (x ≡ y → ⊥) → scan_of f g s n i p q ≡ scan_of f g s (n + 1) j r t
  step_differs h = rw (first, second, next, add-one n, add-one i) (scan_differs f g s n i x y r t h)

  pub step_equal : x ≡ y → n ≤ 0 → scan_of f g s n i p q ≡ scan_of f g (s + 1) n j r t
  step_equal h e = rw (first, second, next, add-one s, add-one i) (scan_equal f g s n i x y r t h e)

  pub step_closes : x ≡ y → 0 < n → scan_of f g s n i p q
      ≡ Found (record { start = s; len = n }) j (record { start = s + n + 1; len = 0; first = f; second = g })
  step_closes h e = rw (first, second, next, add-one i) (scan_closes f g s n i x y r t h e)

-- ---- where a list has ended
scan_ended : (f g s n i : ℕ) (p q : List ℕ) → (length p ≡ 0) ⊎ (length q ≡ 0)
    → scan_of f g s n i p q ≡ More (record { start = s; len = n; first = f + length p; second = g + length q })
unfolding scan_of
scan_ended f g s n i [] q h =
    let e : f ≡ f + 0 = omega arith in ap (λ (k : ℕ). More (record { start = s; len = n; first = k; second = g + length q })) e
scan_ended f g s n i (x ∷ p) [] h =
    let e : g ≡ g + 0 = omega arith in ap (λ (k : ℕ). More (record { start = s; len = n; first = f + suc (length p); second = k })) e
scan_ended f g s n i (x ∷ p) (y ∷ q) h = absurd (⊎_elim (λ (e : suc (length p) ≡ 0). omega arith) (λ (e : suc (length q) ≡ 0). omega arith) h)

-- the same with the lengths as they were computed
pub step_ends : (f g s n i k m : ℕ) (p q : List ℕ) → (length p ≡ 0) ⊎ (length q ≡ 0) → k ≡ length p → m ≡ length q
    → scan_of f g s n i p q ≡ More (record { start = s; len = n; first = f + k; second = g + m })
step_ends f g s n i k m p q h first second = rw (first, second) (scan_ended f g s n i p q h)

-- ---- a turn at a place of two lists, to the next index j
module _ (f g s n i j k : ℕ) (a b : List ℕ) (next : j ≡ i + 1) (ha : k < length a) (hb : k < length b) where
  pub place_differs : (get_or a k 0 ≡ get_or b k 0 → ⊥)
      → scan_of f g s n i (drop k a) (drop k b) ≡ scan_of f g s (n + 1) j (drop (k + 1) a) (drop (k + 1) b)
  place_differs e = rw (add-one k) (step_differs f g s n i j _ _ _ _ _ _ (drop-cons a k 0 ha) (drop-cons b k 0 hb) next e)

  pub place_equal : get_or a k 0 ≡ get_or b k 0 → n ≤ 0
      → scan_of f g s n i (drop k a) (drop k b) ≡ scan_of f g (s + 1) n j (drop (k + 1) a) (drop (k + 1) b)
  place_equal e z = rw (add-one k) (step_equal f g s n i j _ _ _ _ _ _ (drop-cons a k 0 ha) (drop-cons b k 0 hb) next e z)

  pub place_closes : get_or a k 0 ≡ get_or b k 0 → 0 < n
      → scan_of f g s n i (drop k a) (drop k b)
      ≡ Found (record { start = s; len = n }) j (record { start = s + n + 1; len = 0; first = f; second = g })
  place_closes e z = step_closes f g s n i j _ _ _ _ _ _ (drop-cons a k 0 ha) (drop-cons b k 0 hb) next e z

-- past the end of a list
pub place_ends : (f g s n i k x y : ℕ) (a b : List ℕ) → min (length a) (length b) ≤ k → x ≡ length a - k → y ≡ length b - k
    → scan_of f g s n i (drop k a) (drop k b) ≡ More (record { start = s; len = n; first = f + x; second = g + y })
place_ends f g s n i k x y a b h first second =
    step_ends f g s n i x y (drop k a) (drop k b)
    (⊎_elim
    (λ (e : length a ≤ k). inl (simp length-drop (omega arith)))
    (λ (e : k < length a). inr (simp length-drop (omega arith)))
    (le_or_lt (length a) k))
    (rw (length-drop k a) first)
    (rw (length-drop k b) second)

-- the turns, for the check
pub ruleset places = (place_differs, place_equal, place_closes)

-- ---- the same where the index is the place
module _ (f g s n i : ℕ) (a b : List ℕ) where
  pub turn_stops : min (length a) (length b) ≤ i
      → scan_of f g s n i (drop i a) (drop i b) ≡ More (record { start = s; len = n; first = f + (length a - i); second = g + (length b - i) })
  turn_stops h = place_ends f g s n i i _ _ a b h refl refl

  module _ (ha : i < length a) (hb : i < length b) where
    pub turn_differs : (get_or a i 0 ≡ get_or b i 0 → ⊥)
        → scan_of f g s n i (drop i a) (drop i b) ≡ scan_of f g s (n + 1) (i + 1) (drop (i + 1) a) (drop (i + 1) b)
    turn_differs e = place_differs f g s n i _ i a b refl ha hb e

    pub turn_equal : get_or a i 0 ≡ get_or b i 0 → n ≤ 0
        → scan_of f g s n i (drop i a) (drop i b) ≡ scan_of f g (s + 1) n (i + 1) (drop (i + 1) a) (drop (i + 1) b)
    turn_equal e z = place_equal f g s n i _ i a b refl ha hb e z

    pub turn_closes : get_or a i 0 ≡ get_or b i 0 → 0 < n
        → scan_of f g s n i (drop i a) (drop i b)
        ≡ Found (record { start = s; len = n }) (i + 1) (record { start = s + n + 1; len = 0; first = f; second = g })
    turn_closes e z = place_closes f g s n i _ i a b refl ha hb e z
