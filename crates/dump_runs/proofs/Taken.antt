-- Parts that may be handed in are not refused.
use Prim.Native.Nat.{ℕ, zero, suc, ◌+◌, ◌-◌, ◌*◌, ◌≤◌, ◌<◌, min, max}
use mathlib.Core.Path.{◌≡◌, refl, ap, ◌∙◌}
use mathlib.Core.Bool.{false}
use mathlib.Core.Logic.{◌⊎◌, inl, inr, ⊎_elim}
use mathlib.Core.List.{List, [], ◌∷◌, ◌++◌}
use native.Mathlib.Omega.{arith}
use native.Mathlib.Nat.{zero-mul, suc-mul}
use borrow.Author.Tests.{lt-ltb, le-ltb, lt-leb}
use Rattle.std.specs.Prelude.{Ok}
use lib.ListN.{length, take, drop, length-append, length-take, length-drop, take-append-drop}
use lib.Seq.{take-nil, drop-nil}
use Rattle.dump_runs.specs.declared.Run.{Run}
use Rattle.dump_runs.specs.declared.Comparison.{Comparison}
use Rattle.dump_runs.specs.declared.Next.{Next}
use Rattle.dump_runs.specs.declared.Next.TheVariants.{Found, More}
use Rattle.dump_runs.specs.Steps.{most, begun, goes_on, scan_of, next_of}
use Rattle.dump_runs.specs.Host.{Parts, firsts, seconds, Asks, found, done, Compares, closed, part, Level, reads}
use Rattle.dump_runs.proofs.Sums.{le_or_lt}
use Rattle.dump_runs.proofs.Calls.{call_scans}
use Rattle.dump_runs.proofs.Outcomes.{Finds, Outcome, outcome}
use Rattle.dump_runs.proofs.Follows.{Fine, begun_fine, finds, stops, sum_first, sum_second, found_fine, asks_fine}

-- ---- a call that is not refused
goes_not : (passed rest : ℕ) → (0 < passed → rest ≤ 0) → goes_on passed rest ≡ false
goes_not passed rest h =
    ⊎_elim (λ (e : passed ≤ 0). rw (le-ltb 0 passed e)) (λ (e : 0 < passed). rw (lt-ltb 0 passed e, le-ltb 0 rest (h e))) (le_or_lt passed 0)

record Able (p : Parts) (i : ℕ) (c : Comparison) : Type 0 where
  first : 0 < c.first → length p.second ≤ i
  second : 0 < c.second → length p.first ≤ i
  short_a : c.start + c.len + c.first + (length p.first - i) < most
  short_b : c.start + c.len + c.second + (length p.second - i) < most

able_scans : (p : Parts) (i : ℕ) (c : Comparison) → Able p i c
    → next_of c p.first p.second i ≡ Ok (scan_of c.first c.second c.start c.len i (drop i p.first) (drop i p.second))
able_scans p i c a =
    call_scans c p.first p.second i
    (goes_not c.first (length p.second - i) (λ (z : 0 < c.first). let e : length p.second ≤ i = a.first z in omega arith))
    (goes_not c.second (length p.first - i) (λ (z : 0 < c.second). let e : length p.first ≤ i = a.second z in omega arith))
    (lt-leb most (c.start + c.len + max (c.first + (length p.first - i)) (c.second + (length p.second - i))) (omega arith))

able_then : (p : Parts) (i : ℕ) (c : Comparison) (r : Run) (j : ℕ) (d : Comparison) → Able p i c
    → Finds c.first c.second p.first p.second c.start c.len i r j d → Able p j d
able_then p i c r j d a o = record {
  first = λ (z : 0 < d.first). let e : length p.second ≤ i = a.first (omega arith) in omega arith;
  second = λ (z : 0 < d.second). let e : length p.first ≤ i = a.second (omega arith) in omega arith;
  short_a = omega arith;
  short_b = omega arith;
}

abbrev Asked : Parts → ℕ → Comparison → Type 0
Asked p i c = (l : List Run) × (d : Comparison) × Asks p i c l d

-- a call by its outcome, with the calls after it
ask : (p : Parts) (i : ℕ) (c : Comparison) (v : Next) → next_of c p.first p.second i ≡ Ok v
    → Outcome c.first c.second p.first p.second c.start c.len i v
    → ((r : Run) (j : ℕ) (d : Comparison) → Finds c.first c.second p.first p.second c.start c.len i r j d → Asked p j d) → Asked p i c
ask p i c (Found r j d) h o rest = let t = rest r j d o in (r ∷ t.0, t.1, found h t.2)
ask p i c (More d) h o rest = ([], d, done h)

asks : (p : Parts) (k i : ℕ) (c : Comparison) → length p.first - i ≤ k → Able p i c → Asked p i c
asks p zero i c h a =
    ask p i c _ (able_scans p i c a) (outcome c.first c.second p.first p.second c.start c.len i)
    (λ (r : Run) (j : ℕ) (d : Comparison) (o : Finds c.first c.second p.first p.second c.start c.len i r j d).
    let e : i < j = o.later in
    let f : j ≤ length p.first = o.in_a in
    absurd (omega arith))
asks p (suc k) i c h a =
    ask p i c _ (able_scans p i c a) (outcome c.first c.second p.first p.second c.start c.len i)
    (λ (r : Run) (j : ℕ) (d : Comparison) (o : Finds c.first c.second p.first p.second c.start c.len i r j d).
    let e : i < j = o.later in
    asks p k j d (omega arith) (able_then p i c r j d a o))

-- ---- what two parts leave
asks_sum_first : {p : Parts} {i : ℕ} {c d : Comparison} {l : List Run} → Asks p i c l d → Fine c
    → d.start + d.len + d.first ≡ c.start + c.len + c.first + (length p.first - i)
asks_sum_first {p} (found {i} {j} {c} {d} {e} {r} {l} h k) fine =
    let o = finds c p.first p.second i r j d h in
    let x : e.start + e.len + e.first ≡ d.start + d.len + d.first + (length p.first - j) = asks_sum_first k (found_fine c p.first p.second i fine r j d h) in
    omega arith
asks_sum_first {p} (done {i} {c} {d} h) fine = sum_first c p.first p.second i fine d h

asks_sum_second : {p : Parts} {i : ℕ} {c d : Comparison} {l : List Run} → Asks p i c l d → Fine c
    → d.start + d.len + d.second ≡ c.start + c.len + c.second + (length p.second - i)
asks_sum_second {p} (found {i} {j} {c} {d} {e} {r} {l} h k) fine =
    let o = finds c p.first p.second i r j d h in
    let x : e.start + e.len + e.second ≡ d.start + d.len + d.second + (length p.second - j) = asks_sum_second k (found_fine c p.first p.second i fine r j d h) in
    omega arith
asks_sum_second {p} (done {i} {c} {d} h) fine = sum_second c p.first p.second i fine d h

-- a dump passes the other only if its part is longer
asks_more_first : {p : Parts} {i : ℕ} {c d : Comparison} {l : List Run} → Asks p i c l d → Fine c → 0 < d.first
    → (0 < c.first) ⊎ (length p.second < length p.first)
asks_more_first {p} (found {i} {j} {c} {d} {e} {r} {l} h k) fine z =
    let o = finds c p.first p.second i r j d h in
    ⊎_elim (λ (x : 0 < d.first). inl (omega arith)) (λ (x : length p.second < length p.first). inr x)
    (asks_more_first k (found_fine c p.first p.second i fine r j d h) z)
asks_more_first {p} (done {i} {c} {d} h) fine z =
    let o = stops c p.first p.second i d h in
    ⊎_elim
    (λ (x : length p.first ≤ o.at). inl (omega arith))
    (λ (x : length p.second ≤ o.at).
    ⊎_elim (λ (y : c.first ≤ 0). inr (omega arith)) (λ (y : 0 < c.first). inl y) (le_or_lt c.first 0))
    o.ended

asks_more_second : {p : Parts} {i : ℕ} {c d : Comparison} {l : List Run} → Asks p i c l d → Fine c → 0 < d.second
    → (0 < c.second) ⊎ (length p.first < length p.second)
asks_more_second {p} (found {i} {j} {c} {d} {e} {r} {l} h k) fine z =
    let o = finds c p.first p.second i r j d h in
    ⊎_elim (λ (x : 0 < d.second). inl (omega arith)) (λ (x : length p.first < length p.second). inr x)
    (asks_more_second k (found_fine c p.first p.second i fine r j d h) z)
asks_more_second {p} (done {i} {c} {d} h) fine z =
    let o = stops c p.first p.second i d h in
    ⊎_elim
    (λ (x : length p.first ≤ o.at).
    ⊎_elim (λ (y : c.second ≤ 0). inr (omega arith)) (λ (y : 0 < c.second). inl y) (le_or_lt c.second 0))
    (λ (x : length p.second ≤ o.at). inl (omega arith))
    o.ended

-- ---- all the parts
empty : (l m : List ℕ) → l ++ m ≡ [] → (length l ≡ 0) × (m ≡ [])
empty [] m e = (refl, e)
empty (x ∷ l) m e = let z : ◌≡◌ {A = ℕ} (suc (length (l ++ m))) 0 = ap length e in absurd (omega arith)

level_first : (ps : List Parts) → firsts ps ≡ [] → Level ps
level_first [] e = tt
level_first (p ∷ ps) e =
    let h = empty p.first (firsts ps) e in
    ⊎_elim
    (λ (z : length p.second ≤ 0). inl (omega (arith, h.0), level_first ps h.1))
    (λ (z : 0 < length p.second). inr (inl (omega (arith, h.0), h.1)))
    (le_or_lt (length p.second) 0)

level_second : (ps : List Parts) → seconds ps ≡ [] → Level ps
level_second [] e = tt
level_second (p ∷ ps) e =
    let h = empty p.second (seconds ps) e in
    ⊎_elim
    (λ (z : length p.first ≤ 0). inl (omega (arith, h.0), level_second ps h.1))
    (λ (z : 0 < length p.first). inr (inr (omega (arith, h.0), h.1)))
    (le_or_lt (length p.first) 0)

record Ready (c : Comparison) (ps : List Parts) : Type 0 where
  fine : Fine c
  level : Level ps
  first : 0 < c.first → seconds ps ≡ []
  second : 0 < c.second → firsts ps ≡ []
  short_a : c.start + c.len + c.first + length (firsts ps) < most
  short_b : c.start + c.len + c.second + length (seconds ps) < most

module _ (c : Comparison) (p : Parts) (ps : List Parts) (y : Ready c (p ∷ ps)) where
  able : Able p 0 c
  able =
      let a : length (p.first ++ firsts ps) ≡ length p.first + length (firsts ps) = length-append p.first (firsts ps) in
      let b : length (p.second ++ seconds ps) ≡ length p.second + length (seconds ps) = length-append p.second (seconds ps) in
      record {
        first = λ (z : 0 < c.first). let e : length p.second ≡ 0 = (empty p.second (seconds ps) (y.first z)).0 in omega arith;
        second = λ (z : 0 < c.second). let e : length p.first ≡ 0 = (empty p.first (firsts ps) (y.second z)).0 in omega arith;
        short_a = omega (arith, y.short_a);
        short_b = omega (arith, y.short_b);
      }

  then_level : Level (p ∷ ps) → Level ps
  then_level (inl h) = h.1
  then_level (inr (inl h)) = level_first ps h.1
  then_level (inr (inr h)) = level_second ps h.1

  longer_first : Level (p ∷ ps) → length p.second < length p.first → seconds ps ≡ []
  longer_first (inl h) e = absurd (omega (arith, h.0))
  longer_first (inr (inl h)) e = absurd (omega (arith, h.0))
  longer_first (inr (inr h)) e = h.1

  longer_second : Level (p ∷ ps) → length p.first < length p.second → firsts ps ≡ []
  longer_second (inl h) e = absurd (omega (arith, h.0))
  longer_second (inr (inl h)) e = h.1
  longer_second (inr (inr h)) e = absurd (omega (arith, h.0))

  ready : (d : Comparison) (l : List Run) → Asks p 0 c l d → Ready d ps
  ready d l k =
      let a : length (p.first ++ firsts ps) ≡ length p.first + length (firsts ps) = length-append p.first (firsts ps) in
      let b : length (p.second ++ seconds ps) ≡ length p.second + length (seconds ps) = length-append p.second (seconds ps) in
      let x : d.start + d.len + d.first ≡ c.start + c.len + c.first + (length p.first - 0) = asks_sum_first k y.fine in
      let w : d.start + d.len + d.second ≡ c.start + c.len + c.second + (length p.second - 0) = asks_sum_second k y.fine in
      record {
        fine = asks_fine k y.fine;
        level = then_level y.level;
        first = λ (z : 0 < d.first).
            ⊎_elim
            (λ (e : 0 < c.first). (empty p.second (seconds ps) (y.first e)).1)
            (λ (e : length p.second < length p.first). longer_first y.level e)
            (asks_more_first k y.fine z);
        second = λ (z : 0 < d.second).
            ⊎_elim
            (λ (e : 0 < c.second). (empty p.first (firsts ps) (y.second e)).1)
            (λ (e : length p.first < length p.second). longer_second y.level e)
            (asks_more_second k y.fine z);
        short_a = omega (arith, y.short_a);
        short_b = omega (arith, y.short_b);
      }

compares : (ps : List Parts) (c : Comparison) → Ready c ps → (l : List Run) × Compares c ps l
compares [] c y = (_, closed)
compares (p ∷ ps) c y =
    let t = asks p (length p.first - 0) 0 c (omega arith) (able c p ps y) in
    let u = compares ps t.1 (ready c p ps y t.1 t.0 t.2) in
    (t.0 ++ u.0, part t.2 u.1)

pub taken : (ps : List Parts) → Level ps → length (firsts ps) < most → length (seconds ps) < most → (l : List Run) × Compares begun ps l
taken ps level a b =
    compares ps begun (record {
      fine = begun_fine;
      level = level;
      first = λ (z : 0 < 0). absurd (omega arith);
      second = λ (z : 0 < 0). absurd (omega arith);
      short_a = omega arith;
      short_b = omega arith;
    })

-- ---- parts of n bytes
reads_first : (n k : ℕ) (a b : List ℕ) → length a ≤ 0 → firsts (reads n k a b) ≡ []
reads_first n zero a b h = refl
reads_first n (suc k) [] b h = rw (take-nil n, drop-nil n) (reads_first n k [] (drop n b) (omega arith))
reads_first n (suc k) (x ∷ a) b h = absurd (omega arith)

reads_second : (n k : ℕ) (a b : List ℕ) → length b ≤ 0 → seconds (reads n k a b) ≡ []
reads_second n zero a b h = refl
reads_second n (suc k) a [] h = rw (take-nil n, drop-nil n) (reads_second n k (drop n a) [] (omega arith))
reads_second n (suc k) a (x ∷ b) h = absurd (omega arith)

pub even : (n k : ℕ) (a b : List ℕ) → Level (reads n k a b)
even n zero a b = tt
even n (suc k) a b =
    let x : length (take n a) ≡ min n (length a) = length-take n a in
    let y : length (take n b) ≡ min n (length b) = length-take n b in
    let u : length (drop n a) ≡ length a - n = length-drop n a in
    let v : length (drop n b) ≡ length b - n = length-drop n b in
    ⊎_elim
    (λ (e : length (take n a) ≤ length (take n b)).
    ⊎_elim
    (λ (f : length (take n b) ≤ length (take n a)). inl (omega arith, even n k (drop n a) (drop n b)))
    (λ (f : length (take n a) < length (take n b)). inr (inl (f, reads_first n k (drop n a) (drop n b) (omega arith))))
    (le_or_lt (length (take n b)) (length (take n a))))
    (λ (e : length (take n b) < length (take n a)). inr (inr (e, reads_second n k (drop n a) (drop n b) (omega arith))))
    (le_or_lt (length (take n a)) (length (take n b)))

none : (l : List ℕ) → length l ≤ 0 → [] ≡ l
none [] h = refl
none (x ∷ l) h = absurd (omega arith)

pub whole : (n k : ℕ) (a b : List ℕ) → length a ≤ k * n → length b ≤ k * n → (firsts (reads n k a b) ≡ a) × (seconds (reads n k a b) ≡ b)
whole n zero a b ha hb =
    let e : 0 * n ≡ 0 = zero-mul n in (none a (omega (arith, ha)), none b (omega (arith, hb)))
whole n (suc k) a b ha hb =
    let e : suc k * n ≡ k * n + n = suc-mul k n in
    let u : length (drop n a) ≡ length a - n = length-drop n a in
    let v : length (drop n b) ≡ length b - n = length-drop n b in
    let t = whole n k (drop n a) (drop n b) (omega arith) (omega arith) in
    (ap (λ (l : List ℕ). take n a ++ l) t.0 ∙ take-append-drop n a, ap (λ (l : List ℕ). take n b ++ l) t.1 ∙ take-append-drop n b)
