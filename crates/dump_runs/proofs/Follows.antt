-- A host that hands in two dumps in parts comes to the runs of the whole dumps.
use Prim.Native.Nat.{ℕ, suc, ◌+◌, ◌-◌, ◌≤◌, ◌<◌, min}
use mathlib.Core.Path.{◌≡◌, refl, sym, ap, ◌∙◌}
use mathlib.Core.Bool.{Bool, true, false, true≢false}
use mathlib.Core.Logic.{◌⊎◌, inl, inr, ⊎_elim}
use mathlib.Core.List.{List, [], ◌∷◌, ◌++◌}
use native.Mathlib.Omega.{arith}
use borrow.Author.Tests.{lt-ltb}
use Rattle.std.specs.Prelude.{Ok, Option}
use Rattle.std.specs.Option.{option_to_list}
use lib.ListN.{length, drop, replicate, length-append, length-drop, length-replicate, drop_of_length-le}
use Rattle.dump_runs.specs.declared.Run.{Run}
use Rattle.dump_runs.specs.declared.Comparison.{Comparison}
use Rattle.dump_runs.specs.declared.Next.{Next}
use Rattle.dump_runs.specs.declared.Next.TheVariants.{Found, More}
use Rattle.dump_runs.specs.Steps.{most, begun, goes_on, too_long, scan_of, next_of, stretch_of, open_of, tail_of}
use Rattle.dump_runs.specs.Host.{Parts, firsts, seconds, Asks, found, done, Compares, closed, part}
use Rattle.dump_runs.proofs.Sums.{le_or_lt}
use Rattle.dump_runs.proofs.Calls.{call_second, call_first, call_long, call_scans, short_first, short_second}
use Rattle.dump_runs.proofs.Whole.{stretch, some, runs_from, runs_first, runs_second}
use Rattle.dump_runs.proofs.Outcomes.{Finds, Stops, Outcome, outcome}

-- ---- a call that is not refused
-- no bytes of a dump that the other passed before
gone : (passed rest : ℕ) → goes_on passed rest ≡ false → 0 < passed → rest ≤ 0
gone passed rest h p =
    ⊎_elim
    (λ (e : rest ≤ 0). e)
    (λ (e : 0 < rest). let t : goes_on passed rest ≡ true = rw (lt-ltb 0 passed p, lt-ltb 0 rest e) in absurd (true≢false (sym t ∙ h)))
    (le_or_lt rest 0)

pub record Accepted (c : Comparison) (a b : List ℕ) (i : ℕ) (v : Next) : Type 0 where
  pub first : 0 < c.first → length b ≤ i
  pub second : 0 < c.second → length a ≤ i
  pub short_a : c.start + c.len + c.first + (length a - i) < most
  pub short_b : c.start + c.len + c.second + (length b - i) < most
  pub came : Outcome c.first c.second a b c.start c.len i v

module _ (c : Comparison) (a b : List ℕ) (i : ℕ) (v : Next) (given : next_of c a b i ≡ Ok v) where
  by_tests : (s : Bool) → goes_on c.first (length b - i) ≡ s → (f : Bool) → goes_on c.second (length a - i) ≡ f → (t : Bool)
      → too_long c (length a - i) (length b - i) ≡ t → Accepted c a b i v
  by_tests true es f ef t et = let z = call_second c a b i es in absurd (cc)
  by_tests false es true ef t et = let z = call_first c a b i es ef in absurd (cc)
  by_tests false es false ef true et = let z = call_long c a b i es ef et in absurd (cc)
  by_tests false es false ef false et =
      let z = call_scans c a b i es ef et in
      let e : v ≡ scan_of c.first c.second c.start c.len i (drop i a) (drop i b) = cc in
      record {
        first = λ (h : 0 < c.first). let e : length b - i ≤ 0 = gone c.first (length b - i) es h in omega arith;
        second = λ (h : 0 < c.second). let e : length a - i ≤ 0 = gone c.second (length a - i) ef h in omega arith;
        short_a = short_first c (length a - i) (length b - i) et;
        short_b = short_second c (length a - i) (length b - i) et;
        came = rw e (outcome c.first c.second a b c.start c.len i);
      }

  accepted : Accepted c a b i v
  accepted =
      by_tests (goes_on c.first (length b - i)) refl (goes_on c.second (length a - i)) refl (too_long c (length a - i) (length b - i)) refl

module _ (c : Comparison) (a b : List ℕ) (i : ℕ) where
  at_found : (r : Run) (j : ℕ) (d : Comparison) → next_of c a b i ≡ Ok (Found r j d) → Accepted c a b i (Found r j d)
  at_found r j d h = accepted c a b i (Found r j d) h

  at_more : (d : Comparison) → next_of c a b i ≡ Ok (More d) → Accepted c a b i (More d)
  at_more d h = accepted c a b i (More d) h

  pub finds : (r : Run) (j : ℕ) (d : Comparison) → next_of c a b i ≡ Ok (Found r j d) → Finds c.first c.second a b c.start c.len i r j d
  finds r j d h = (at_found r j d h).came

  pub stops : (d : Comparison) → next_of c a b i ≡ Ok (More d) → Stops c.first c.second a b c.start c.len i d
  stops d h = (at_more d h).came

-- ---- the runs that a comparison still has ahead: the bytes that were passed count as any bytes
abbrev pad : ℕ → List ℕ
pad n = replicate n 0

ahead : Comparison → List ℕ → List ℕ → List Run
ahead c p q = runs_from c.start c.len (pad c.first ++ p) (pad c.second ++ q)

-- a comparison that is handed back
pub record Fine (c : Comparison) : Type 0 where
  pub apart : (c.first ≡ 0) ⊎ (c.second ≡ 0)
  pub short_a : c.start + c.len + c.first < most
  pub short_b : c.start + c.len + c.second < most

-- where one list is empty, only the length of the other counts
only_first : (s n : ℕ) (x y : List ℕ) → length x ≡ length y → runs_from s n x [] ≡ runs_from s n y []
only_first s n x y e = runs_second s n x ∙ ap (λ (k : ℕ). some (stretch s n) ++ some (stretch (s + n) k)) e ∙ sym (runs_second s n y)

only_second : (s n : ℕ) (x y : List ℕ) → length x ≡ length y → runs_from s n [] x ≡ runs_from s n [] y
only_second s n x y e = runs_first s n x ∙ ap (λ (k : ℕ). some (stretch s n) ++ some (stretch (s + n) k)) e ∙ sym (runs_first s n y)

passed_first : (s n f : ℕ) (x p : List ℕ) → runs_from s n (pad f ++ (x ++ p)) [] ≡ runs_from s n (pad (f + length x) ++ p) []
passed_first s n f x p = only_first s n (pad f ++ (x ++ p)) (pad (f + length x) ++ p) (simp (length-append, length-replicate) (omega arith))

passed_second : (s n g : ℕ) (y q : List ℕ) → runs_from s n [] (pad g ++ (y ++ q)) ≡ runs_from s n [] (pad (g + length y) ++ q)
passed_second s n g y q = only_second s n (pad g ++ (y ++ q)) (pad (g + length y) ++ q) (simp (length-append, length-replicate) (omega arith))

-- the rest of a part as bytes that were passed
padded : (s n : ℕ) (x y p q : List ℕ) → (length x ≤ 0) ⊎ (length y ≤ 0) → (0 < length x → q ≡ []) → (0 < length y → p ≡ [])
    → runs_from s n (x ++ p) (y ++ q) ≡ runs_from s n (pad (length x) ++ p) (pad (length y) ++ q)
padded s n [] [] p q h hx hy = refl
padded s n [] (v ∷ y) p q h hx hy =
    let e : p ≡ [] = hy (omega arith) in
    rw e (only_second s n ((v ∷ y) ++ q) (pad (length (v ∷ y)) ++ q) (simp (length-append, length-replicate) refl))
padded s n (u ∷ x) [] p q h hx hy =
    let e : q ≡ [] = hx (omega arith) in
    rw e (only_first s n ((u ∷ x) ++ p) (pad (length (u ∷ x)) ++ p) (simp (length-append, length-replicate) refl))
padded s n (u ∷ x) (v ∷ y) p q h hx hy = absurd (⊎_elim (λ (e : suc (length x) ≤ 0). omega arith) (λ (e : suc (length y) ≤ 0). omega arith) h)

-- ---- a call, and the runs ahead before and after it
module _ (c : Comparison) (a b : List ℕ) (i : ℕ) (fine : Fine c) where
  module _ (r : Run) (j : ℕ) (d : Comparison) (h : next_of c a b i ≡ Ok (Found r j d)) where
    none_first : c.first ≡ 0
    none_first =
        let o = finds c a b i r j d h in
        let e : i < j = o.later in
        let f : j ≤ length b = o.in_b in
        ⊎_elim (λ (z : c.first ≤ 0). omega arith) (λ (z : 0 < c.first). let g : length b ≤ i = (at_found c a b i r j d h).first z in absurd (omega arith)) (le_or_lt c.first 0)

    none_second : c.second ≡ 0
    none_second =
        let o = finds c a b i r j d h in
        let e : i < j = o.later in
        let f : j ≤ length a = o.in_a in
        ⊎_elim
        (λ (z : c.second ≤ 0). omega arith)
        (λ (z : 0 < c.second). let g : length a ≤ i = (at_found c a b i r j d h).second z in absurd (omega arith))
        (le_or_lt c.second 0)

    pub found_fine : Fine d
    found_fine =
        let o = finds c a b i r j d h in
        let k = at_found c a b i r j d h in
        let e : d.first ≡ c.first = o.first in
        let f : d.second ≡ c.second = o.second in
        record { apart = inl (e ∙ none_first); short_a = omega arith; short_b = omega arith }

    found_ahead : (p q : List ℕ) → ahead c (drop i a ++ p) (drop i b ++ q) ≡ r ∷ ahead d (drop j a ++ p) (drop j b ++ q)
    unfolding ahead
    found_ahead p q =
        let o = finds c a b i r j d h in
        rw (o.first, o.second, none_first, none_second) (o.runs p q)

  module _ (d : Comparison) (h : next_of c a b i ≡ Ok (More d)) where
    pub sum_first : d.start + d.len + d.first ≡ c.start + c.len + c.first + (length a - i)
    sum_first =
        let o = stops c a b i d h in
        ⊎_elim (λ (e : o.at ≡ i). omega arith) (λ (e : (o.at ≤ length a) × (o.at ≤ length b)). omega arith) o.within

    pub sum_second : d.start + d.len + d.second ≡ c.start + c.len + c.second + (length b - i)
    sum_second =
        let o = stops c a b i d h in
        ⊎_elim (λ (e : o.at ≡ i). omega arith) (λ (e : (o.at ≤ length a) × (o.at ≤ length b)). omega arith) o.within

    at_once : (length a ≤ i) ⊎ (length b ≤ i) → (stops c a b i d h).at ≡ i
    at_once e =
        let o = stops c a b i d h in
        ⊎_elim
        (λ (z : o.at ≡ i). z)
        (λ (z : (o.at ≤ length a) × (o.at ≤ length b)). ⊎_elim (λ (x : length a ≤ i). omega arith) (λ (x : length b ≤ i). omega arith) e)
        o.within

    -- nothing was passed; the first dump had passed the second; the second had passed the first
    more_by : (P : Type 0) → (c.first ≡ 0 → c.second ≡ 0 → P) → (0 < c.first → c.second ≡ 0 → P) → (c.first ≡ 0 → 0 < c.second → P) → P
    more_by P none one two =
        ⊎_elim
        (λ (e : c.first ≡ 0). ⊎_elim (λ (f : c.second ≤ 0). none e (omega arith)) (λ (f : 0 < c.second). two e f) (le_or_lt c.second 0))
        (λ (e : c.second ≡ 0). ⊎_elim (λ (f : c.first ≤ 0). none (omega arith) e) (λ (f : 0 < c.first). one f e) (le_or_lt c.first 0))
        fine.apart

    more_apart : (d.first ≡ 0) ⊎ (d.second ≡ 0)
    more_apart =
        let o = stops c a b i d h in
        let k = at_more c a b i d h in
        more_by ((d.first ≡ 0) ⊎ (d.second ≡ 0))
        (λ (e : c.first ≡ 0) (f : c.second ≡ 0). ⊎_elim (λ (g : length a ≤ o.at). inl (omega arith)) (λ (g : length b ≤ o.at). inr (omega arith)) o.ended)
        (λ (e : 0 < c.first) (f : c.second ≡ 0). let g : length b ≤ i = k.first e in inr (omega arith))
        (λ (e : c.first ≡ 0) (f : 0 < c.second). let g : length a ≤ i = k.second f in inl (omega arith))

    more_fine : Fine d
    more_fine =
        let k = at_more c a b i d h in
        let e = sum_first in
        let f = sum_second in
        record { apart = more_apart; short_a = omega arith; short_b = omega arith }

    module _ (p q : List ℕ) (hp : 0 < d.first → q ≡ []) (hq : 0 < d.second → p ≡ []) where
      from_none : c.first ≡ 0 → c.second ≡ 0 → ahead c (drop i a ++ p) (drop i b ++ q) ≡ ahead d p q
      unfolding ahead
      from_none e f =
          let o = stops c a b i d h in
          let x : d.first ≡ length (drop o.at a) = simp length-drop (omega arith) in
          let y : d.second ≡ length (drop o.at b) = simp length-drop (omega arith) in
          rw (e, f)
          (o.runs p q
          ∙ padded d.start d.len (drop o.at a) (drop o.at b) p q
          (⊎_elim (λ (g : length a ≤ o.at). inl (simp length-drop (omega arith))) (λ (g : length b ≤ o.at). inr (simp length-drop (omega arith))) o.ended)
          (λ (z : 0 < length (drop o.at a)). hp (omega arith))
          (λ (z : 0 < length (drop o.at b)). hq (omega arith))
          ∙ ap (λ (k : ℕ). runs_from d.start d.len (pad k ++ p) (pad (length (drop o.at b)) ++ q)) (sym x)
          ∙ ap (λ (k : ℕ). runs_from d.start d.len (pad d.first ++ p) (pad k ++ q)) (sym y))

      from_first : 0 < c.first → c.second ≡ 0 → ahead c (drop i a ++ p) (drop i b ++ q) ≡ ahead d p q
      unfolding ahead
      from_first e f =
          let o = stops c a b i d h in
          let g : length b ≤ i = (at_more c a b i d h).first e in
          let t : o.at ≡ i = at_once (inr g) in
          let x : d.first ≡ c.first + length (drop i a) = simp length-drop (omega arith) in
          let y : d.second ≡ 0 = omega arith in
          let z : q ≡ [] = hp (omega arith) in
          let k = o.kept (inr g) in
          rw (f, y, z, x, k.0, k.1, drop_of_length-le b g) (passed_first c.start c.len c.first (drop i a) p)

      from_second : c.first ≡ 0 → 0 < c.second → ahead c (drop i a ++ p) (drop i b ++ q) ≡ ahead d p q
      unfolding ahead
      from_second e f =
          let o = stops c a b i d h in
          let g : length a ≤ i = (at_more c a b i d h).second f in
          let t : o.at ≡ i = at_once (inl g) in
          let x : d.second ≡ c.second + length (drop i b) = simp length-drop (omega arith) in
          let y : d.first ≡ 0 = omega arith in
          let z : p ≡ [] = hq (omega arith) in
          let k = o.kept (inl g) in
          rw (e, y, z, x, k.0, k.1, drop_of_length-le a g) (passed_second c.start c.len c.second (drop i b) q)

      more_ahead : ahead c (drop i a ++ p) (drop i b ++ q) ≡ ahead d p q
      more_ahead = more_by (ahead c (drop i a ++ p) (drop i b ++ q) ≡ ahead d p q) from_none from_first from_second

-- ---- all the calls on two parts
pub asks_fine : {p : Parts} {i : ℕ} {c d : Comparison} {l : List Run} → Asks p i c l d → Fine c → Fine d
asks_fine {p} (found {i} {j} {c} {d} {e} {r} {l} h k) fine = asks_fine k (found_fine c p.first p.second i fine r j d h)
asks_fine {p} (done {i} {c} {d} h) fine = more_fine c p.first p.second i fine d h

asks_ahead : {p : Parts} {i : ℕ} {c d : Comparison} {l : List Run} → Asks p i c l d → Fine c → (x y : List ℕ) → (0 < d.first → y ≡ []) → (0 < d.second → x ≡ [])
    → ahead c (drop i p.first ++ x) (drop i p.second ++ y) ≡ l ++ ahead d x y
asks_ahead {p} (found {i} {j} {c} {d} {e} {r} {l} h k) fine x y hx hy =
    found_ahead c p.first p.second i fine r j d h x y
    ∙ ap (λ (m : List Run). r ∷ m) (asks_ahead k (found_fine c p.first p.second i fine r j d h) x y hx hy)
asks_ahead {p} (done {i} {c} {d} h) fine x y hx hy = more_ahead c p.first p.second i fine d h x y hx hy

-- a dump that was passed before stays so, and has nothing here
asks_first : {p : Parts} {i : ℕ} {c d : Comparison} {l : List Run} → Asks p i c l d → Fine c → 0 < c.first → (length p.second ≤ i) × (0 < d.first)
asks_first {p} (found {i} {j} {c} {d} {e} {r} {l} h k) fine z =
    let n : c.first ≡ 0 = none_first c p.first p.second i fine r j d h in absurd (omega arith)
asks_first {p} (done {i} {c} {d} h) fine z =
    let o = stops c p.first p.second i d h in ((at_more c p.first p.second i d h).first z, omega arith)

asks_second : {p : Parts} {i : ℕ} {c d : Comparison} {l : List Run} → Asks p i c l d → Fine c → 0 < c.second → (length p.first ≤ i) × (0 < d.second)
asks_second {p} (found {i} {j} {c} {d} {e} {r} {l} h k) fine z =
    let n : c.second ≡ 0 = none_second c p.first p.second i fine r j d h in absurd (omega arith)
asks_second {p} (done {i} {c} {d} h) fine z =
    let o = stops c p.first p.second i d h in ((at_more c p.first p.second i d h).second z, omega arith)

-- ---- all the parts
nil : (l m : List ℕ) → length l ≤ 0 → m ≡ [] → l ++ m ≡ []
nil [] m h e = e
nil (x ∷ l) m h e = absurd (omega arith)

ends_first : {c : Comparison} {ps : List Parts} {l : List Run} → Compares c ps l → Fine c → 0 < c.first → seconds ps ≡ []
ends_first closed fine z = refl
ends_first (part {c} {d} {p} {ps} {l} {m} k n) fine z =
    let f = asks_first k fine z in nil p.second (seconds ps) f.0 (ends_first n (asks_fine k fine) f.1)

ends_second : {c : Comparison} {ps : List Parts} {l : List Run} → Compares c ps l → Fine c → 0 < c.second → firsts ps ≡ []
ends_second closed fine z = refl
ends_second (part {c} {d} {p} {ps} {l} {m} k n) fine z =
    let f = asks_second k fine z in nil p.first (firsts ps) f.0 (ends_second n (asks_fine k fine) f.1)

-- what is left at the end
passed_tail : (c : Comparison) → Fine c → (k : ℕ) → k ≡ c.first + c.second → tail_of c ≡ stretch_of (c.start + c.len) k
passed_tail c fine k e =
    let x : min (c.start + c.len) most ≡ c.start + c.len = omega arith in
    let y : min (c.first + c.second) most ≡ k = ⊎_elim (λ (z : c.first ≡ 0). omega arith) (λ (z : c.second ≡ 0). omega arith) fine.apart in
    rw (x, y)

closing : (c : Comparison) → Fine c → option_to_list (open_of c) ++ option_to_list (tail_of c) ≡ ahead c [] []
unfolding ahead
closing c fine =
    ⊎_elim
    (λ (z : c.first ≡ 0).
    let e : length (pad c.second ++ []) ≡ c.first + c.second = simp (length-append, length-replicate) (omega arith) in
    ap (λ (t : Option Run). option_to_list (open_of c) ++ option_to_list t) (passed_tail c fine (length (pad c.second ++ [])) e)
    ∙ rw z (sym (runs_first c.start c.len (pad c.second ++ []))))
    (λ (z : c.second ≡ 0).
    let e : length (pad c.first ++ []) ≡ c.first + c.second = simp (length-append, length-replicate) (omega arith) in
    ap (λ (t : Option Run). option_to_list (open_of c) ++ option_to_list t) (passed_tail c fine (length (pad c.first ++ [])) e)
    ∙ rw z (sym (runs_second c.start c.len (pad c.first ++ []))))
    fine.apart

compares_ahead : {c : Comparison} {ps : List Parts} {l : List Run} → Compares c ps l → Fine c → l ≡ ahead c (firsts ps) (seconds ps)
compares_ahead (closed {c}) fine = closing c fine
compares_ahead (part {c} {d} {p} {ps} {l} {m} k n) fine =
    ap (λ (t : List Run). l ++ t) (compares_ahead n (asks_fine k fine))
    ∙ sym (asks_ahead k fine (firsts ps) (seconds ps) (ends_first n (asks_fine k fine)) (ends_second n (asks_fine k fine)))

-- THE RUNS THAT A HOST IS HANDED are those of the whole dumps
pub begun_fine : Fine begun
begun_fine = record { apart = inl refl; short_a = omega arith; short_b = omega arith }

pub compares_runs : (ps : List Parts) (l : List Run) → Compares begun ps l → l ≡ runs_from 0 0 (firsts ps) (seconds ps)
unfolding ahead
compares_runs ps l h = compares_ahead h begun_fine

-- each call that finds a run comes further: for a loop of calls
pub further : (c : Comparison) (a b : List ℕ) (i : ℕ) (r : Run) (j : ℕ) (d : Comparison) → next_of c a b i ≡ Ok (Found r j d) → (i < j) × (j ≤ length a)
further c a b i r j d h = ((finds c a b i r j d h).later, (finds c a b i r j d h).in_a)
