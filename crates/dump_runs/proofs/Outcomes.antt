-- What a scan of two parts comes to, beside the runs of the whole dumps that begin with them.
use Prim.Native.Nat.{ℕ, zero, suc, ◌+◌, ◌-◌, ◌≤◌, ◌<◌, min}
use mathlib.Core.Path.{◌≡◌, refl, sym, ap, ◌∙◌}
use mathlib.Core.Logic.{◌⊎◌, inl, inr, ⊎_elim}
use mathlib.Core.List.{List, ◌∷◌, ◌++◌}
use native.Mathlib.Omega.{arith}
use native.Mathlib.Numerals.{add-one}
use lib.ListN.{length, drop, get_or}
use lib.Seq.{drop-cons}
use Rattle.dump_runs.specs.declared.Run.{Run}
use Rattle.dump_runs.specs.declared.Comparison.{Comparison}
use Rattle.dump_runs.specs.declared.Next.{Next}
use Rattle.dump_runs.specs.declared.Next.TheVariants.{Found, More}
use Rattle.dump_runs.specs.Steps.{scan_of}
use Rattle.dump_runs.proofs.Sums.{le_or_lt}
use Rattle.std.proofs.lemmas.Bool.{cases_eq}
use Rattle.dump_runs.proofs.Scans.{turn_differs, turn_equal, turn_closes, turn_stops}
use Rattle.dump_runs.proofs.Whole.{stretch, some, runs_from, runs_equal, runs_differ, some_one}

-- an equal byte with no run open
quiet : (s n : ℕ) → n ≡ 0 → (p q : List ℕ) → some (stretch s n) ++ runs_from (s + n + 1) 0 p q ≡ runs_from (s + 1) n p q
quiet s n z p q = let e : s + 0 + 1 ≡ s + 1 = omega arith in rw z (ap (λ (k : ℕ). runs_from k 0 p q) e)

module _ (f g : ℕ) (a b : List ℕ) where
  -- a run was found, and the scan may go on at j
  pub record Finds (s n i : ℕ) (r : Run) (j : ℕ) (d : Comparison) : Type 0 where
    pub later : i < j
    pub in_a : j ≤ length a
    pub in_b : j ≤ length b
    pub first : d.first ≡ f
    pub second : d.second ≡ g
    pub moved : d.start + d.len + i ≡ s + n + j
    pub runs : (p q : List ℕ) → runs_from s n (drop i a ++ p) (drop i b ++ q) ≡ r ∷ runs_from d.start d.len (drop j a ++ p) (drop j b ++ q)

  -- a part has ended, at the index `at`
  pub record Stops (s n i : ℕ) (d : Comparison) : Type 0 where
    pub at : ℕ
    pub from : i ≤ at
    pub ended : (length a ≤ at) ⊎ (length b ≤ at)
    pub within : (at ≡ i) ⊎ ((at ≤ length a) × (at ≤ length b))
    pub kept : (length a ≤ i) ⊎ (length b ≤ i) → (d.start ≡ s) × (d.len ≡ n)
    pub first : d.first ≡ f + (length a - at)
    pub second : d.second ≡ g + (length b - at)
    pub moved : d.start + d.len + i ≡ s + n + at
    pub runs : (p q : List ℕ) → runs_from s n (drop i a ++ p) (drop i b ++ q) ≡ runs_from d.start d.len (drop at a ++ p) (drop at b ++ q)

  abbrev pub Outcome : ℕ → ℕ → ℕ → Next → Type 0
  Outcome s n i (Found r j d) = Finds s n i r j d
  Outcome s n i (More d) = Stops s n i d

  -- ---- one byte further, with the same runs from there on
  module _ (s n i t m : ℕ) (ha : i < length a) (hb : i < length b) (moves : t + m ≡ s + n + 1)
      (same : (p q : List ℕ) → runs_from s n (drop i a ++ p) (drop i b ++ q) ≡ runs_from t m (drop (i + 1) a ++ p) (drop (i + 1) b ++ q)) where
    further : (v : Next) → Outcome t m (i + 1) v → Outcome s n i v
    further (Found r j d) o =
        let e : i + 1 < j = o.later in
        let z : d.start + d.len + (i + 1) ≡ t + m + j = o.moved in
        record {
          later = omega arith;
          in_a = o.in_a;
          in_b = o.in_b;
          first = o.first;
          second = o.second;
          moved = omega arith;
          runs = λ (p q : List ℕ). same p q ∙ o.runs p q;
        }
    further (More d) o =
        let e : i + 1 ≤ o.at = o.from in
        let z : d.start + d.len + (i + 1) ≡ t + m + o.at = o.moved in
        record {
          at = o.at;
          from = omega arith;
          ended = o.ended;
          within = inr (⊎_elim (λ (h : o.at ≡ i + 1). (omega arith, omega arith)) (λ (h : (o.at ≤ length a) × (o.at ≤ length b)). h) o.within);
          kept = λ (h : (length a ≤ i) ⊎ (length b ≤ i)). absurd (⊎_elim (λ (k : length a ≤ i). omega arith) (λ (k : length b ≤ i). omega arith) h);
          first = o.first;
          second = o.second;
          moved = omega arith;
          runs = λ (p q : List ℕ). same p q ∙ o.runs p q;
        }

  -- ---- the turns
  stops : (s n i : ℕ) → min (length a) (length b) ≤ i → Outcome s n i (scan_of f g s n i (drop i a) (drop i b))
  stops s n i h =
      rw (turn_stops f g s n i a b h)
      (record {
        at = i;
        from = omega arith;
        ended = ⊎_elim (λ (e : length a ≤ i). inl e) (λ (e : i < length a). inr (omega arith)) (le_or_lt (length a) i);
        within = inl refl;
        kept = λ (e : (length a ≤ i) ⊎ (length b ≤ i)). (refl, refl);
        first = refl;
        second = refl;
        moved = refl;
        runs = λ (p q : List ℕ). refl;
      })

  module _ (s n i : ℕ) (ha : i < length a) (hb : i < length b) where
    heads : (p q : List ℕ)
        → runs_from s n (drop i a ++ p) (drop i b ++ q) ≡ runs_from s n (get_or a i 0 ∷ (drop (i + 1) a ++ p)) (get_or b i 0 ∷ (drop (i + 1) b ++ q))
    heads p q = rw (add-one i, drop-cons a i 0, drop-cons b i 0)

    differs : (get_or a i 0 ≡ get_or b i 0 → ⊥) → Outcome s (n + 1) (i + 1) (scan_of f g s (n + 1) (i + 1) (drop (i + 1) a) (drop (i + 1) b))
        → Outcome s n i (scan_of f g s n i (drop i a) (drop i b))
    differs e o =
        rw (turn_differs f g s n i a b ha hb e)
        (further s n i s (n + 1) ha hb (omega arith)
        (λ (p q : List ℕ).
        heads p q ∙ runs_differ s n (get_or a i 0) (get_or b i 0) (drop (i + 1) a ++ p) (drop (i + 1) b ++ q) e
        ∙ ap (λ (k : ℕ). runs_from s k (drop (i + 1) a ++ p) (drop (i + 1) b ++ q)) (sym (add-one n)))
        (scan_of f g s (n + 1) (i + 1) (drop (i + 1) a) (drop (i + 1) b))
        o)

    equal : get_or a i 0 ≡ get_or b i 0 → n ≡ 0 → Outcome (s + 1) n (i + 1) (scan_of f g (s + 1) n (i + 1) (drop (i + 1) a) (drop (i + 1) b))
        → Outcome s n i (scan_of f g s n i (drop i a) (drop i b))
    equal e z o =
        rw (turn_equal f g s n i a b ha hb e (omega arith))
        (further s n i (s + 1) n ha hb (omega arith)
        (λ (p q : List ℕ). heads p q ∙ runs_equal s n (get_or a i 0) (get_or b i 0) (drop (i + 1) a ++ p) (drop (i + 1) b ++ q) e ∙ quiet s n z (drop (i + 1) a ++ p) (drop (i + 1) b ++ q))
        (scan_of f g (s + 1) n (i + 1) (drop (i + 1) a) (drop (i + 1) b))
        o)

    closes : get_or a i 0 ≡ get_or b i 0 → 0 < n → Outcome s n i (scan_of f g s n i (drop i a) (drop i b))
    closes e z =
        rw (turn_closes f g s n i a b ha hb e z)
        (record {
          later = omega arith;
          in_a = omega arith;
          in_b = omega arith;
          first = refl;
          second = refl;
          moved = omega arith;
          runs = λ (p q : List ℕ). heads p q ∙ runs_equal s n (get_or a i 0) (get_or b i 0) (drop (i + 1) a ++ p) (drop (i + 1) b ++ q) e ∙ rw (some_one s n z);
        })

  -- THE OUTCOME of a scan, by the number of bytes that the first part has left
  scans : (k s n i : ℕ) → length a - i ≤ k → Outcome s n i (scan_of f g s n i (drop i a) (drop i b))
  scans zero s n i h = stops s n i (omega arith)
  scans (suc k) s n i h =
      ⊎_elim
      (λ (e : min (length a) (length b) ≤ i). stops s n i e)
      (λ (e : i < min (length a) (length b)).
      let ha : i < length a = omega arith in
      let hb : i < length b = omega arith in
      ⊎_elim
      (λ (x : get_or a i 0 ≡ get_or b i 0).
      ⊎_elim
      (λ (z : n ≤ 0). equal s n i ha hb x (omega arith) (scans k (s + 1) n (i + 1) (omega arith)))
      (λ (z : 0 < n). closes s n i ha hb x z)
      (le_or_lt n 0))
      (λ (x : get_or a i 0 ≡ get_or b i 0 → ⊥). differs s n i ha hb x (scans k s (n + 1) (i + 1) (omega arith)))
      (cases_eq (get_or a i 0) (get_or b i 0)))
      (le_or_lt (min (length a) (length b)) i)

  pub outcome : (s n i : ℕ) → Outcome s n i (scan_of f g s n i (drop i a) (drop i b))
  outcome s n i = scans (length a - i) s n i (omega arith)
