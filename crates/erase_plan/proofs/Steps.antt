-- A plan is its first entry and the plan from there on.
use Rattle.std.proofs.Common.{◌≡◌, ℕ, zero, suc, ◌+◌, ◌-◌, ◌<◌, ◌≤◌, Option, Some, None, List, [], ◌∷◌, sym, refl, ap, ◌∙◌, ap₂, ⊎_elim, arith, le-ltb, lt-ltb}
use Rattle.erase_plan.specs.declared.EraseType.{EraseType}
use Rattle.erase_plan.specs.declared.EraseEntry.{EraseEntry}
use Rattle.erase_plan.specs.declared.NextEntry.{NextEntry}
use Rattle.erase_plan.specs.Plan.{chosen, entry_at, next_pos, plan_in, plan, next_of}
use Rattle.erase_plan.specs.Words.{Each}
use Rattle.erase_plan.specs.Good.{Present}
use Rattle.erase_plan.proofs.Lists.{lt_or_le}
use Rattle.erase_plan.proofs.Choice.{cover_some, cover_le, chosen_each}

-- ---- a step moves on, and not past the end
module _ (t : EraseType) (ts : List EraseType) (p : Each Present (t ∷ ts)) (pos end : ℕ) (h : pos < end) where
  pub next_more : pos < next_pos (t ∷ ts) pos end
  unfolding next_pos
  next_more = omega (arith, cover_some (chosen (t ∷ ts) pos end) pos end (chosen_each pos end Present t ts p) h)

  pub next_within : next_pos (t ∷ ts) pos end ≤ end
  unfolding next_pos
  next_within = omega (arith, cover_le (chosen (t ∷ ts) pos end) pos end)

-- ---- plans with a bound on the number of entries
pub in_nil : (ts : List EraseType) (pos end : ℕ) → plan_in 0 ts pos end ≡ []
unfolding plan_in
in_nil ts pos end = refl

pub in_more : (n : ℕ) (ts : List EraseType) (pos end : ℕ) → pos < end → plan_in (suc n) ts pos end ≡ entry_at ts pos end ∷ plan_in n ts (next_pos ts pos end) end
unfolding plan_in
in_more n ts pos end h = rw (lt-ltb pos end h, plan_in)

pub in_done : (n : ℕ) (ts : List EraseType) (pos end : ℕ) → end ≤ pos → plan_in n ts pos end ≡ []
unfolding plan_in
in_done zero ts pos end h = refl
in_done (suc n) ts pos end h = rw (le-ltb pos end h, plan_in)

in_enough : (t : EraseType) (ts : List EraseType) → Each Present (t ∷ ts) → (m n pos end : ℕ) → end - pos ≤ m → end - pos ≤ n
    → plan_in m (t ∷ ts) pos end ≡ plan_in n (t ∷ ts) pos end
in_enough t ts p zero n pos end a b = in_done 0 (t ∷ ts) pos end (omega arith) ∙ sym (in_done n (t ∷ ts) pos end (omega arith))
in_enough t ts p (suc m) zero pos end a b = in_done (suc m) (t ∷ ts) pos end (omega arith) ∙ sym (in_done 0 (t ∷ ts) pos end (omega arith))
in_enough t ts p (suc m) (suc n) pos end a b =
    ⊎_elim
    (λ h. in_more m (t ∷ ts) pos end h
    ∙ ap (λ (l : List EraseEntry). entry_at (t ∷ ts) pos end ∷ l)
    (in_enough t ts p m n (next_pos (t ∷ ts) pos end) end (omega (arith, next_more t ts p pos end h)) (omega (arith, next_more t ts p pos end h)))
    ∙ sym (in_more n (t ∷ ts) pos end h))
    (λ h. in_done (suc m) (t ∷ ts) pos end h ∙ sym (in_done (suc n) (t ∷ ts) pos end h))
    (lt_or_le pos end)

-- ---- the plan: a larger bound gives the same
pub plan_ends : (t : EraseType) (ts : List EraseType) → Each Present (t ∷ ts) → (n pos end : ℕ) → end - pos ≤ n → plan_in n (t ∷ ts) pos end ≡ plan (t ∷ ts) pos end
unfolding plan
plan_ends t ts p n pos end h = in_enough t ts p n (end - pos) pos end h (omega arith)

-- past the end there is nothing
pub plan_done : (ts : List EraseType) (pos end : ℕ) → end ≤ pos → plan ts pos end ≡ []
unfolding plan
plan_done [] pos end h = refl
plan_done (t ∷ ts) pos end h = in_done (end - pos) (t ∷ ts) pos end h

pub plan_none : (pos end : ℕ) → plan [] pos end ≡ []
unfolding plan
plan_none pos end = refl

-- in the range there is an entry, and the plan from the position after it
pub plan_more : (t : EraseType) (ts : List EraseType) → Each Present (t ∷ ts) → (pos end : ℕ) → pos < end
    → plan (t ∷ ts) pos end ≡ entry_at (t ∷ ts) pos end ∷ plan (t ∷ ts) (next_pos (t ∷ ts) pos end) end
plan_more t ts p pos end h =
    sym (plan_ends t ts p (suc (end - pos)) pos end (omega arith))
    ∙ in_more (end - pos) (t ∷ ts) pos end h
    ∙ ap (λ (l : List EraseEntry). entry_at (t ∷ ts) pos end ∷ l)
    (plan_ends t ts p (end - pos) (next_pos (t ∷ ts) pos end) end (omega (arith, next_more t ts p pos end h)))

-- ---- the next entry, with its last wanted byte
abbrev pub ending : EraseEntry → ℕ → NextEntry
ending e s = record { entry = e; stop = s }

pub next_some : (t : EraseType) (ts : List EraseType) (pos end : ℕ) → pos < end
    → next_of (t ∷ ts) pos end ≡ Some (ending (entry_at (t ∷ ts) pos end) (next_pos (t ∷ ts) pos end - 1))
unfolding next_of
next_some t ts pos end h = rw (lt-ltb pos end h)

pub next_done : (ts : List EraseType) (pos end : ℕ) → end ≤ pos → next_of ts pos end ≡ None
unfolding next_of
next_done [] pos end h = refl
next_done (t ∷ ts) pos end h = rw (le-ltb pos end h)

pub next_none : (pos end : ℕ) → next_of [] pos end ≡ None
unfolding next_of
next_none pos end = refl

-- what an entry found says
pub record Found (ts : List EraseType) (pos end : ℕ) (n : NextEntry) : Type 0 where
  pub wanted : pos < end
  pub first : EraseType
  pub others : List EraseType
  pub are : ts ≡ first ∷ others
  pub entry : n.entry ≡ entry_at ts pos end
  pub last : n.stop ≡ next_pos ts pos end - 1

-- there is an entry or there is none
pub not_both : {A : Type 0} (o : Option NextEntry) (n : NextEntry) → o ≡ Some n → o ≡ None → A
not_both o n p q = cc

pub found : (ts : List EraseType) (pos end : ℕ) (n : NextEntry) → next_of ts pos end ≡ Some n → Found ts pos end n
found [] pos end n h = not_both (next_of [] pos end) n h (next_none pos end)
found (t ∷ ts) pos end n h =
    ⊎_elim
    (λ (l : pos < end).
    let q : n ≡ ending (entry_at (t ∷ ts) pos end) (next_pos (t ∷ ts) pos end - 1) = cc (sym h ∙ next_some t ts pos end l) in
    record {
      wanted = l;
      first = t;
      others = ts;
      are = refl;
      entry = ap (λ (x : NextEntry). x.entry) q;
      last = ap (λ (x : NextEntry). x.stop) q;
    })
    (λ (l : end ≤ pos). not_both (next_of (t ∷ ts) pos end) n h (next_done (t ∷ ts) pos end l))
    (lt_or_le pos end)

-- where there is no next entry the plan is over
pub plan_nothing : (ts : List EraseType) (pos end : ℕ) → next_of ts pos end ≡ None → plan ts pos end ≡ []
plan_nothing [] pos end h = plan_none pos end
plan_nothing (t ∷ ts) pos end h =
    ⊎_elim
    (λ (l : pos < end). not_both (next_of (t ∷ ts) pos end) _ (next_some t ts pos end l) h)
    (λ (l : end ≤ pos). plan_done (t ∷ ts) pos end l)
    (lt_or_le pos end)

-- where there is one, the plan is that entry and the plan from past its last wanted byte, which lies in the range
pub record Unrolled (ts : List EraseType) (pos end : ℕ) (n : NextEntry) : Type 0 where
  pub after : pos ≤ n.stop
  pub within : n.stop < end
  pub unrolls : plan ts pos end ≡ n.entry ∷ plan ts (n.stop + 1) end

pub plan_entry : (ts : List EraseType) → Each Present ts → (pos end : ℕ) (n : NextEntry) → next_of ts pos end ≡ Some n → Unrolled ts pos end n
plan_entry [] p pos end n h = not_both (next_of [] pos end) n h (next_none pos end)
plan_entry (t ∷ ts) p pos end n h =
    let f : Found (t ∷ ts) pos end n = found (t ∷ ts) pos end n h in
    let m : pos < next_pos (t ∷ ts) pos end = next_more t ts p pos end f.wanted in
    let w : next_pos (t ∷ ts) pos end ≤ end = next_within t ts p pos end f.wanted in
    let k : next_pos (t ∷ ts) pos end ≡ n.stop + 1 = omega (arith, f.last) in
    record {
      after = omega (arith, f.last);
      within = omega (arith, f.last);
      unrolls = plan_more t ts p pos end f.wanted ∙ ap₂ (λ (x : EraseEntry) (y : ℕ). x ∷ plan (t ∷ ts) y end) (sym f.entry) k;
    }

-- the plan is over exactly at the last byte
pub plan_last : (ts : List EraseType) (end : ℕ) → plan ts end end ≡ []
plan_last ts end = plan_done ts end end (omega arith)
