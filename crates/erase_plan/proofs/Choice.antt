-- The type that a plan takes at a position: what it is among the others.
use Rattle.std.proofs.Common.{◌≡◌, ℕ, ◌-◌, ◌<◌, ◌≤◌, Bool, true, false, cond, List, [], ◌∷◌, ◌++◌, sym, refl, ap, ◌∙◌, subst, inl, inr, ⊎_elim, append_assoc, append-nil, arith, le-ltb, lt-ltb, eq-eqb, ne_eqb}
use Rattle.erase_plan.specs.declared.EraseType.{EraseType}
use Rattle.erase_plan.specs.Plan.{cover, beats, chosen_from, chosen}
use Rattle.erase_plan.specs.Words.{Each}
use Rattle.erase_plan.specs.Good.{Present, Worse, NoBetter, Taken}
use Rattle.erase_plan.proofs.Lists.{lt_or_le, by_cond, no_true, no_false, each_append, each_map, each_inside}
use Rattle.erase_plan.proofs.Multiples.{end_gt}

-- the block of a type at a wanted position covers a byte or more, and none past the end
pub cover_some : (t : EraseType) (pos end : ℕ) → Present t → pos < end → 0 < cover t pos end
unfolding cover
cover_some t pos end p h = omega (arith, end_gt t.size pos p)

pub cover_le : (t : EraseType) (pos end : ℕ) → cover t pos end ≤ end - pos
unfolding cover
cover_le t pos end = omega arith

-- ---- the test between two types
module _ (u t : EraseType) (pos end : ℕ) where
  pub beats_more : cover t pos end < cover u pos end → beats u t pos end ≡ true
  unfolding beats
  beats_more h = rw (lt-ltb (cover t pos end) (cover u pos end) h)

  pub beats_less : cover u pos end < cover t pos end → beats u t pos end ≡ false
  unfolding beats
  beats_less h =
      rw (le-ltb (cover t pos end) (cover u pos end) (omega arith), ne_eqb (cover u pos end) (cover t pos end) (λ e. omega arith))

  pub beats_small : cover u pos end ≡ cover t pos end → u.size < t.size → beats u t pos end ≡ true
  unfolding beats
  beats_small e h =
      rw (le-ltb (cover t pos end) (cover u pos end) (omega arith), eq-eqb (cover u pos end) (cover t pos end) e, lt-ltb u.size t.size h)

  pub beats_tie : cover u pos end ≡ cover t pos end → t.size ≤ u.size → beats u t pos end ≡ false
  unfolding beats
  beats_tie e h =
      rw (le-ltb (cover t pos end) (cover u pos end) (omega arith), eq-eqb (cover u pos end) (cover t pos end) e, le-ltb u.size t.size h)

  -- by cases: u covers more; less; as much, with a smaller size; as much, with no smaller size
  beats_cases : (P : Bool → Type 0) → (cover t pos end < cover u pos end → P true) → (cover u pos end < cover t pos end → P false)
      → (cover u pos end ≡ cover t pos end → u.size < t.size → P true) → (cover u pos end ≡ cover t pos end → t.size ≤ u.size → P false)
      → P (beats u t pos end)
  beats_cases P more less small tie =
      ⊎_elim (λ h. rw (beats_more h) (more h))
      (λ h. ⊎_elim (λ k. rw (beats_less k) (less k))
      (λ k. let e : cover u pos end ≡ cover t pos end = omega arith in
      ⊎_elim (λ m. rw (beats_small e m) (small e m)) (λ m. rw (beats_tie e m) (tie e m)) (lt_or_le u.size t.size))
      (lt_or_le (cover u pos end) (cover t pos end)))
      (lt_or_le (cover t pos end) (cover u pos end))

  pub beats_true : beats u t pos end ≡ true → Worse pos end u t
  beats_true =
      beats_cases (λ (b : Bool). b ≡ true → Worse pos end u t) (λ h _. inl h)
      (λ h e. no_true e)
      (λ q h _. inr (sym q, h))
      (λ q h e. no_true e)

  pub beats_false : beats u t pos end ≡ false → NoBetter pos end t u
  beats_false =
      beats_cases (λ (b : Bool). b ≡ false → NoBetter pos end t u) (λ h e. no_false e)
      (λ h _. inl h)
      (λ q h e. no_false e)
      (λ q h _. inr (q, h))

-- ---- worse and no better
module _ (pos end : ℕ) where
  worse_no_better : (t u : EraseType) → Worse pos end t u → NoBetter pos end t u
  worse_no_better t u (inl h) = inl h
  worse_no_better t u (inr h) = inr (h.0, omega (arith, h.1))

  -- what is no better than t is worse than what t is worse than
  worse_trans : (t u x : EraseType) → Worse pos end u t → NoBetter pos end t x → Worse pos end u x
  worse_trans t u x (inl h) (inl k) = inl (omega arith)
  worse_trans t u x (inl h) (inr k) = inl (omega (arith, k.0))
  worse_trans t u x (inr h) (inl k) = inl (omega (arith, h.0))
  worse_trans t u x (inr h) (inr k) = inr (omega (arith, h.0, k.0), omega (arith, h.1, k.1))

  no_better_self : (t : EraseType) → NoBetter pos end t t
  no_better_self t = inr (refl, omega arith)

  taken_no_better : {ts : List EraseType} {t : EraseType} → Taken ts pos end t → Each (NoBetter pos end t) ts
  taken_no_better {ts} {t} k =
      subst (Each (NoBetter pos end t)) (sym k.split)
      (each_append (NoBetter pos end t) k.earlier (t ∷ k.later)
      (each_map (Worse pos end t) (NoBetter pos end t) (λ x w. worse_no_better t x w) k.earlier k.worse)
      (no_better_self t, k.no_better))

  -- one type more: it is taken where it beats the one taken before
  taken_more : (ts : List EraseType) (t u : EraseType) → Taken ts pos end t → Taken (ts ++ u ∷ []) pos end (cond (beats u t pos end) u t)
  taken_more ts t u k =
      by_cond (Taken (ts ++ u ∷ []) pos end) (beats u t pos end) u t
      (λ e. record {
        earlier = ts;
        later = [];
        split = refl;
        worse = each_map (NoBetter pos end t) (Worse pos end u) (λ x w. worse_trans t u x (beats_true u t pos end e) w) ts (taken_no_better k);
        no_better = tt;
      })
      (λ e. record {
        earlier = k.earlier;
        later = k.later ++ u ∷ [];
        split = ap (λ (l : List EraseType). l ++ u ∷ []) k.split ∙ append_assoc k.earlier (t ∷ k.later) (u ∷ []);
        worse = k.worse;
        no_better = each_append (NoBetter pos end t) k.later (u ∷ []) k.no_better (beats_false u t pos end e, tt);
      })

  taken_from : (us ts : List EraseType) (t : EraseType) → Taken ts pos end t → Taken (ts ++ us) pos end (chosen_from t us pos end)
  unfolding chosen_from
  taken_from [] ts t k = rw append-nil k
  taken_from (u ∷ us) ts t k =
      subst (λ (l : List EraseType). Taken l pos end (chosen_from (cond (beats u t pos end) u t) us pos end)) (append_assoc ts (u ∷ []) us)
      (taken_from us (ts ++ u ∷ []) (cond (beats u t pos end) u t) (taken_more ts t u k))

  -- the type chosen is the one to take: it is one of the list, those before it are worse, those after it no better
  pub chosen_taken : (t : EraseType) (ts : List EraseType) → Taken (t ∷ ts) pos end (chosen (t ∷ ts) pos end)
  unfolding chosen
  chosen_taken t ts = taken_from ts (t ∷ []) t (record { earlier = []; later = []; split = refl; worse = tt; no_better = tt })

  -- none covers more wanted bytes
  pub chosen_most : (ts : List EraseType) → Each (λ (u : EraseType). cover u pos end ≤ cover (chosen ts pos end) pos end) ts
  chosen_most [] = tt
  chosen_most (t ∷ ts) =
      each_map (NoBetter pos end (chosen (t ∷ ts) pos end)) (λ (u : EraseType). cover u pos end ≤ cover (chosen (t ∷ ts) pos end) pos end)
      (λ u w. ⊎_elim (λ (h : cover u pos end < cover (chosen (t ∷ ts) pos end) pos end). omega arith) (λ h. omega (arith, h.0)) w)
      (t ∷ ts) (taken_no_better (chosen_taken t ts))

  -- and of those that cover as many, none is smaller
  pub chosen_small : (ts : List EraseType)
      → Each (λ (u : EraseType). cover u pos end ≡ cover (chosen ts pos end) pos end → (chosen ts pos end).size ≤ u.size) ts
  chosen_small [] = tt
  chosen_small (t ∷ ts) =
      each_map (NoBetter pos end (chosen (t ∷ ts) pos end))
      (λ (u : EraseType). cover u pos end ≡ cover (chosen (t ∷ ts) pos end) pos end → (chosen (t ∷ ts) pos end).size ≤ u.size)
      (λ u w e. ⊎_elim (λ (h : cover u pos end < cover (chosen (t ∷ ts) pos end) pos end). omega arith) (λ h. h.1) w)
      (t ∷ ts) (taken_no_better (chosen_taken t ts))

  -- what holds of each type holds of the one chosen
  pub chosen_each : (Q : EraseType → Type 0) (t : EraseType) (ts : List EraseType) → Each Q (t ∷ ts) → Q (chosen (t ∷ ts) pos end)
  chosen_each Q t ts q =
      let k : Taken (t ∷ ts) pos end (chosen (t ∷ ts) pos end) = chosen_taken t ts in
      each_inside Q k.earlier (chosen (t ∷ ts) pos end) k.later (subst (Each Q) k.split q)

  -- one type more at the end of the list
  chosen_from_append : (t : EraseType) (ts : List EraseType) (u : EraseType)
      → chosen_from t (ts ++ u ∷ []) pos end ≡ cond (beats u (chosen_from t ts pos end) pos end) u (chosen_from t ts pos end)
  unfolding chosen_from
  chosen_from_append t [] u = refl
  chosen_from_append t (x ∷ ts) u = chosen_from_append (cond (beats x t pos end) x t) ts u

  pub chosen_append : (t : EraseType) (ts : List EraseType) (u : EraseType)
      → chosen (t ∷ ts ++ u ∷ []) pos end ≡ cond (beats u (chosen (t ∷ ts) pos end) pos end) u (chosen (t ∷ ts) pos end)
  unfolding chosen
  chosen_append t ts u = chosen_from_append t ts u

  pub chosen_one : (t : EraseType) → chosen (t ∷ []) pos end ≡ t
  unfolding chosen chosen_from
  chosen_one t = refl

  clash : (x y : EraseType) → Worse pos end x y → NoBetter pos end y x → ⊥
  clash x y (inl h) (inl k) = omega arith
  clash x y (inl h) (inr k) = omega (arith, k.0)
  clash x y (inr h) (inl k) = omega (arith, h.0)
  clash x y (inr h) (inr k) = omega (arith, h.1, k.1)

  head : {x y : EraseType} {xs ys : List EraseType} → ◌≡◌ {A = List EraseType} (x ∷ xs) (y ∷ ys) → x ≡ y
  head e = cc

  rest : {x y : EraseType} {xs ys : List EraseType} → ◌≡◌ {A = List EraseType} (x ∷ xs) (y ∷ ys) → xs ≡ ys
  rest e = cc

  same : (t u : EraseType) (p q xs ys : List EraseType) → xs ++ t ∷ p ≡ ys ++ u ∷ q → Each (Worse pos end t) xs → Each (NoBetter pos end t) p
      → Each (Worse pos end u) ys → Each (NoBetter pos end u) q → t ≡ u
  same t u p q [] [] e w n v m = head e
  same t u p q [] (y ∷ ys) e w n v m =
      let h : t ≡ y = head e in
      absurd (clash u t (subst (Worse pos end u) (sym h) v.0) (each_inside (NoBetter pos end t) ys u q (subst (Each (NoBetter pos end t)) (rest e) n)))
  same t u p q (x ∷ xs) [] e w n v m =
      let h : x ≡ u = head e in
      absurd (clash t u (subst (Worse pos end t) h w.0) (each_inside (NoBetter pos end u) xs t p (subst (Each (NoBetter pos end u)) (sym (rest e)) m)))
  same t u p q (x ∷ xs) (y ∷ ys) e w n v m = same t u p q xs ys (rest e) w.1 n v.1 m

  -- there is only one type to take
  pub taken_one : {ts : List EraseType} {t u : EraseType} → Taken ts pos end t → Taken ts pos end u → t ≡ u
  taken_one {ts} {t} {u} a b =
      same t u a.later b.later a.earlier b.earlier (sym a.split ∙ b.split) a.worse a.no_better b.worse b.no_better
