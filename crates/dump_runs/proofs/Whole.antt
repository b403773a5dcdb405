-- The runs of two whole dumps by recursion, and that they are the list of specs/Dumps.antt.
use Prim.Native.Nat.{ℕ, suc, ◌+◌, ◌-◌, ◌≤◌, ◌<◌, min, max}
use mathlib.Core.Path.{◌≡◌, refl, sym, ap, ◌∙◌}
use mathlib.Core.Bool.{true, false}
use mathlib.Core.Logic.{◌⊎◌, inl, inr, ⊎_elim}
use mathlib.Core.List.{List, [], ◌∷◌, ◌++◌}
use native.Mathlib.Omega.{arith}
use native.Mathlib.Numerals.{add-one}
use borrow.Author.Tests.{eq-eqb, ne_eqb}
use lib.Dec.{eqb}
use lib.ListN.{length, drop, get_or, drop_of_length-le, length-drop}
use lib.Seq.{drop-cons}
use Rattle.dump_runs.specs.declared.Run.{Run}
use Rattle.dump_runs.specs.Dumps.{Differ, end_of, Within, Common, Tail, In, Ascending, Listed}
use Rattle.std.specs.Option.{option_to_list}
use Rattle.dump_runs.specs.Steps.{stretch_of}
use Rattle.dump_runs.proofs.Sums.{le_or_lt}
use Rattle.std.proofs.lemmas.Bool.{cases_eq}

abbrev pub stretch : ℕ → ℕ → Run
stretch s n = record { start = s; len = n }

-- a run as a list: nothing if it has no byte
abbrev pub some : Run → List Run
some r = option_to_list (stretch_of r.start r.len)

-- the runs from a place on, where the n bytes from s up to that place differ, and p and q are what the dumps have from there on
unfoldable pub runs_from : ℕ → ℕ → List ℕ → List ℕ → List Run
runs_from s n [] q = some (stretch s n) ++ some (stretch (s + n) (length q))
runs_from s n (x ∷ p) [] = some (stretch s n) ++ some (stretch (s + n) (suc (length p)))
runs_from s n (x ∷ p) (y ∷ q) = elim (eqb x y) [ true ↦ some (stretch s n) ++ runs_from (s + n + 1) 0 p q | false ↦ runs_from s (suc n) p q ]

-- ---- its laws
pub runs_equal : (s n x y : ℕ) (p q : List ℕ) → x ≡ y → runs_from s n (x ∷ p) (y ∷ q) ≡ some (stretch s n) ++ runs_from (s + n + 1) 0 p q
unfolding runs_from
runs_equal s n x y p q h = rw (runs_from, eq-eqb x y h)

pub runs_differ : (s n x y : ℕ) (p q : List ℕ) → (x ≡ y → ⊥) → runs_from s n (x ∷ p) (y ∷ q) ≡ runs_from s (suc n) p q
unfolding runs_from
runs_differ s n x y p q h = rw (runs_from, ne_eqb x y h)

pub runs_first : (s n : ℕ) (q : List ℕ) → runs_from s n [] q ≡ some (stretch s n) ++ some (stretch (s + n) (length q))
unfolding runs_from
runs_first s n q = refl

pub runs_second : (s n : ℕ) (p : List ℕ) → runs_from s n p [] ≡ some (stretch s n) ++ some (stretch (s + n) (length p))
unfolding runs_from
runs_second s n [] = refl
runs_second s n (x ∷ p) = refl

-- ---- runs and lists
same_run : (r : Run) (s n : ℕ) → r.start ≡ s → r.len ≡ n → r ≡ stretch s n
same_run r s n e f = λ i. record { start = e i; len = f i }

some_none : (s : ℕ) → some (stretch s 0) ≡ []
some_none s = refl

pub some_one : (s n : ℕ) → 0 < n → some (stretch s n) ≡ stretch s n ∷ []
some_one s n h = rw (ne_eqb n 0 (λ (e : n ≡ 0). omega arith))

drop_head : (l : List ℕ) (k x : ℕ) (p : List ℕ) → drop k l ≡ x ∷ p → (k < length l) × (get_or l k 0 ≡ x) × (drop (suc k) l ≡ p)
drop_head l k x p h =
    ⊎_elim
    (λ (e : length l ≤ k). let z : ◌≡◌ {A = ℕ} 0 (suc (length p)) = sym (ap length (drop_of_length-le l e)) ∙ ap length h in absurd (omega arith))
    (λ (e : k < length l). let d : get_or l k 0 ∷ drop (suc k) l ≡ x ∷ p = sym (drop-cons l k 0 e) ∙ h in (e, cc, cc))
    (le_or_lt (length l) k)

drop_none : (l : List ℕ) (k : ℕ) → drop k l ≡ [] → length l ≤ k
drop_none l k h = let e : length l - k ≡ 0 = sym (length-drop k l) ∙ ap length h in omega arith

module _ (a b : List ℕ) where
  abbrev Right : Run → Type 0
  Right r = Common a b r ⊎ Tail a b r

  -- a list of the runs that start at s or later
  record From (s : ℕ) (l : List Run) : Type 0 where
    each : (r : Run) → In r l → Right r
    later : (r : Run) → In r l → s ≤ r.start
    every : (r : Run) → Right r → s ≤ r.start → In r l
    ascending : Ascending l
    covers : (i : ℕ) → Differ a b i → s ≤ i → (r : Run) × In r l × Within r i

  -- the n bytes from s on differ, and the one before them does not
  record Open (s n : ℕ) : Type 0 where
    in_a : s + n ≤ length a
    in_b : s + n ≤ length b
    all : (i : ℕ) → s ≤ i → i < s + n → Differ a b i
    before : (i : ℕ) → suc i ≡ s → Differ a b i → ⊥

  -- a tail starts at the end of the common part, or later
  tail_late : (r : Run) (k : ℕ) → k ≤ length a → k ≤ length b → Tail a b r → k ≤ r.start
  tail_late r k ha hb t = let e : r.start ≡ min (length a) (length b) = t.from in omega arith

  -- a run of the common part differs where it starts
  starts : (r : Run) → Common a b r → Differ a b r.start
  starts r c = let e : 0 < r.len = c.some in c.all r.start (record { low = omega arith; high = omega arith })

  -- ---- an equal byte starts no run
  module _ (k : ℕ) (ha : k < length a) (hb : k < length b) (not : Differ a b k → ⊥) where
    not_here : (r : Run) → Right r → r.start ≡ k → ⊥
    not_here r (inl c) e = not (rw e at (starts r c))
    not_here r (inr t) e = let f : r.start ≡ min (length a) (length b) = t.from in omega arith

    skips : (l : List Run) → From (suc k) l → From k l
    skips l h = record {
      each = h.each;
      later = λ (r : Run) (i : In r l). let e : suc k ≤ r.start = h.later r i in omega arith;
      every = λ (r : Run) (w : Right r) (e : k ≤ r.start).
          ⊎_elim
          (λ (f : r.start ≤ k). let g : r.start ≡ k = omega arith in absurd (not_here r w g))
          (λ (f : k < r.start). h.every r w f)
          (le_or_lt r.start k);
      ascending = h.ascending;
      covers = λ (i : ℕ) (d : Differ a b i) (e : k ≤ i).
          ⊎_elim
          (λ (f : i ≤ k). let g : i ≡ k = omega arith in absurd (not (rw g at d)))
          (λ (f : k < i). h.covers i d f)
          (le_or_lt i k);
    }

  -- ---- an open run ends where the next byte does not differ
  module _ (s n : ℕ) (o : Open s n) (not : Differ a b (s + n) → ⊥) where
    is_common : 0 < n → Common a b (stretch s n)
    is_common h = record {
      some = h;
      all = λ (i : ℕ) (w : Within (stretch s n) i). o.all i w.low w.high;
      before = o.before;
      after = not;
    }

    -- a run of the common part that starts there is that run
    same_len : (r : Run) → Common a b r → r.start ≡ s → r.len ≡ n
    same_len r c e =
        ⊎_elim
        (λ (f : r.len ≤ n).
        ⊎_elim
        (λ (g : n ≤ r.len). omega arith)
        (λ (g : r.len < n). absurd (c.after (o.all (end_of r) (omega arith) (omega arith))))
        (le_or_lt n r.len))
        (λ (f : n < r.len). absurd (not (c.all (s + n) (record { low = omega arith; high = omega arith }))))
        (le_or_lt r.len n)

    -- no run starts inside it
    not_inside : (r : Run) → Common a b r → s < r.start → r.start ≤ s + n → ⊥
    not_inside r c e f = let g : suc (r.start - 1) ≡ r.start = omega arith in c.before (r.start - 1) g (o.all (r.start - 1) (omega arith) (omega arith))

    is_first : (r : Run) → Common a b r → s ≤ r.start → r.start < s + n → r ≡ stretch s n
    is_first r c e f =
        ⊎_elim
        (λ (g : r.start ≤ s). let h : r.start ≡ s = omega arith in same_run r s n h (same_len r c h))
        (λ (g : s < r.start). absurd (not_inside r c g (omega arith)))
        (le_or_lt r.start s)

    first_or : (r : Run) → Right r → s ≤ r.start → (r ≡ stretch s n) ⊎ (s + n ≤ r.start)
    first_or r (inl c) e =
        ⊎_elim (λ (f : s + n ≤ r.start). inr f) (λ (f : r.start < s + n). inl (is_first r c e f)) (le_or_lt (s + n) r.start)
    first_or r (inr t) e = inr (tail_late r (s + n) o.in_a o.in_b t)

    conses : 0 < n → (l : List Run) → From (s + n) l → From s (stretch s n ∷ l)
    conses p l h = record {
      each = λ (r : Run) (w : In r (stretch s n ∷ l)). ⊎_elim (λ (e : r ≡ stretch s n). rw e (inl (is_common p))) (λ (i : In r l). h.each r i) w;
      later = λ (r : Run) (w : In r (stretch s n ∷ l)).
          ⊎_elim
          (λ (e : r ≡ stretch s n). let f : r.start ≡ s = ap (λ (u : Run). u.start) e in omega arith)
          (λ (i : In r l). let f : s + n ≤ r.start = h.later r i in omega arith)
          w;
      every = λ (r : Run) (w : Right r) (e : s ≤ r.start).
          ⊎_elim (λ (f : r ≡ stretch s n). inl f) (λ (f : s + n ≤ r.start). inr (h.every r w f)) (first_or r w e);
      ascending = (h.later, h.ascending);
      covers = λ (i : ℕ) (d : Differ a b i) (e : s ≤ i).
          ⊎_elim
          (λ (f : s + n ≤ i). let c = h.covers i d f in (c.0, inr c.1, c.2))
          (λ (f : i < s + n). (stretch s n, inl refl, record { low = e; high = f }))
          (le_or_lt (s + n) i);
    }

    closes : (l : List Run) → From (s + n) l → From s (some (stretch s n) ++ l)
    closes l h =
        ⊎_elim
        (λ (e : n ≤ 0).
        let z : n ≡ 0 = omega arith in
        let t : s + n ≡ s = omega arith in
        let f : From s l = rw t at h in
        rw z f)
        (λ (p : 0 < n). rw (some_one s n p) (conses p l h))
        (le_or_lt n 0)

  -- ---- where the common part has ended
  module _ (k m : ℕ) (e : k ≡ min (length a) (length b)) (f : k + m ≡ max (length a) (length b)) where
    no_more : (i : ℕ) → k ≤ i → Differ a b i → ⊥
    no_more i h d = let x : i < length a = d.first in let y : i < length b = d.second in omega arith

    is_tail : 0 < m → Tail a b (stretch k m)
    is_tail h = record { some = h; from = e; to = f }

    -- what starts there has the tail's length
    tail_len : (r : Run) → Right r → k ≤ r.start → (r.start ≡ k) × (r.len ≡ m) × (0 < r.len)
    tail_len r (inl c) h = absurd (no_more r.start h (starts r c))
    tail_len r (inr t) h =
        let x : r.start ≡ min (length a) (length b) = t.from in
        let y : end_of r ≡ max (length a) (length b) = t.to in
        (omega arith, omega arith, t.some)

    tail_only : 0 < m → From k (stretch k m ∷ [])
    tail_only p = record {
      each = λ (r : Run) (w : In r (stretch k m ∷ [])). ⊎_elim (λ (g : r ≡ stretch k m). rw g (inr (is_tail p))) (λ (i : ⊥). absurd i) w;
      later = λ (r : Run) (w : In r (stretch k m ∷ [])).
          ⊎_elim (λ (g : r ≡ stretch k m). let h : r.start ≡ k = ap (λ (u : Run). u.start) g in omega arith) (λ (i : ⊥). absurd i) w;
      every = λ (r : Run) (w : Right r) (h : k ≤ r.start). let t = tail_len r w h in inl (same_run r k m t.0 t.1);
      ascending = (λ (r : Run) (i : ⊥). absurd i, tt);
      covers = λ (i : ℕ) (d : Differ a b i) (h : k ≤ i). absurd (no_more i h d);
    }

    none : m ≡ 0 → From k []
    none z = record {
      each = λ (r : Run) (i : ⊥). absurd i;
      later = λ (r : Run) (i : ⊥). absurd i;
      every = λ (r : Run) (w : Right r) (h : k ≤ r.start). let t = tail_len r w h in absurd (omega (arith, t.1, t.2));
      ascending = tt;
      covers = λ (i : ℕ) (d : Differ a b i) (h : k ≤ i). absurd (no_more i h d);
    }

    ends : From k (some (stretch k m))
    ends =
        ⊎_elim
        (λ (h : m ≤ 0). let z : m ≡ 0 = omega arith in rw z (none z))
        (λ (p : 0 < m). rw (some_one k m p) (tail_only p))
        (le_or_lt m 0)

  -- ---- a dump has ended; the next bytes are equal; they differ
  module _ (s n : ℕ) (o : Open s n) where
    ended_first : length a ≤ s + n → From s (some (stretch s n) ++ some (stretch (s + n) (length b - (s + n))))
    ended_first h =
        let x : s + n ≤ length a = o.in_a in
        let y : s + n ≤ length b = o.in_b in
        closes s n o (λ (d : Differ a b (s + n)). let z : s + n < length a = d.first in omega arith) (some (stretch (s + n) (length b - (s + n))))
        (ends (s + n) (length b - (s + n)) (omega arith) (omega arith))

    ended_second : length b ≤ s + n → From s (some (stretch s n) ++ some (stretch (s + n) (length a - (s + n))))
    ended_second h =
        let x : s + n ≤ length a = o.in_a in
        let y : s + n ≤ length b = o.in_b in
        closes s n o (λ (d : Differ a b (s + n)). let z : s + n < length b = d.second in omega arith) (some (stretch (s + n) (length a - (s + n))))
        (ends (s + n) (length a - (s + n)) (omega arith) (omega arith))

    module _ (ha : s + n < length a) (hb : s + n < length b) where
      fresh : (Differ a b (s + n) → ⊥) → Open (s + n + 1) 0
      fresh not = record {
        in_a = omega arith;
        in_b = omega arith;
        all = λ (i : ℕ) (e : s + n + 1 ≤ i) (f : i < s + n + 1 + 0). absurd (omega arith);
        before = λ (i : ℕ) (e : suc i ≡ s + n + 1) (d : Differ a b i). let f : i ≡ s + n = omega arith in not (rw f at d);
      }

      grown : Differ a b (s + n) → Open s (suc n)
      grown d = record {
        in_a = omega arith;
        in_b = omega arith;
        all = λ (i : ℕ) (e : s ≤ i) (f : i < s + suc n).
            ⊎_elim
            (λ (g : s + n ≤ i). let h : s + n ≡ i = omega arith in rw h at d)
            (λ (g : i < s + n). o.all i e g)
            (le_or_lt (s + n) i);
        before = o.before;
      }

      passed : (Differ a b (s + n) → ⊥) → (l : List Run) → From (s + n + 1) l → From s (some (stretch s n) ++ l)
      passed not l h = closes s n o not l (skips (s + n) ha hb not l (rw (add-one (s + n)) at h))

  -- ---- all together
  runs_from_lem : (p q : List ℕ) (s n : ℕ) → drop (s + n) a ≡ p → drop (s + n) b ≡ q → Open s n → From s (runs_from s n p q)
  runs_from_lem [] q s n ea eb o =
      let e : length q ≡ length b - (s + n) = ap length (sym eb) ∙ length-drop (s + n) b in
      rw (runs_first s n q, e) (ended_first s n o (drop_none a (s + n) ea))
  runs_from_lem (x ∷ p) [] s n ea eb o =
      let e : length (x ∷ p) ≡ length a - (s + n) = ap length (sym ea) ∙ length-drop (s + n) a in
      rw (runs_second s n (x ∷ p), e) (ended_second s n o (drop_none b (s + n) eb))
  runs_from_lem (x ∷ p) (y ∷ q) s n ea eb o =
      let ha = drop_head a (s + n) x p ea in
      let hb = drop_head b (s + n) y q eb in
      ⊎_elim
      (λ (e : x ≡ y).
      let not : Differ a b (s + n) → ⊥ = λ (d : Differ a b (s + n)). d.unequal (ha.1 ∙ e ∙ sym hb.1) in
      let f : suc (s + n) ≡ s + n + 1 + 0 = omega arith in
      rw (runs_equal s n x y p q e)
      (passed s n o ha.0 hb.0 not (runs_from (s + n + 1) 0 p q)
      (runs_from_lem p q (s + n + 1) 0 (ap (λ (k : ℕ). drop k a) (sym f) ∙ ha.2) (ap (λ (k : ℕ). drop k b) (sym f) ∙ hb.2) (fresh s n o ha.0 hb.0 not))))
      (λ (e : x ≡ y → ⊥).
      let d : Differ a b (s + n) = record { first = ha.0; second = hb.0; unequal = λ (h : get_or a (s + n) 0 ≡ get_or b (s + n) 0). e (sym ha.1 ∙ h ∙ hb.1) } in
      let f : suc (s + n) ≡ s + suc n = omega arith in
      rw (runs_differ s n x y p q e)
      (runs_from_lem p q s (suc n) (ap (λ (k : ℕ). drop k a) (sym f) ∙ ha.2) (ap (λ (k : ℕ). drop k b) (sym f) ∙ hb.2) (grown s n o ha.0 hb.0 d)))
      (cases_eq x y)

  all_from : From 0 (runs_from 0 0 a b)
  all_from =
      runs_from_lem a b 0 0 refl refl (record {
        in_a = omega arith;
        in_b = omega arith;
        all = λ (i : ℕ) (e : 0 ≤ i) (f : i < 0). absurd (omega arith);
        before = λ (i : ℕ) (e : suc i ≡ 0) (d : Differ a b i). omega arith;
      })

  -- THE RUNS BY RECURSION ARE THE LIST, and each byte that differs is in one of them
  pub runs_listed : Listed a b (runs_from 0 0 a b)
  runs_listed = record {
    each = all_from.each;
    every = λ (r : Run) (w : Right r). all_from.every r w (omega arith);
    ascending = all_from.ascending;
  }

  pub runs_cover : (i : ℕ) → Differ a b i → (r : Run) × In r (runs_from 0 0 a b) × Within r i
  runs_cover i d = all_from.covers i d (omega arith)
