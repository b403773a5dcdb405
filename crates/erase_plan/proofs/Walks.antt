-- A walk along a plan counts its entries and finds its span.
use Rattle.std.proofs.Common.{◌≡◌, ℕ, suc, ◌+◌, ◌<◌, ◌≤◌, Bool, true, false, None, Some, List, [], ◌∷◌, ◌++◌, length, sym, refl, ap, ◌∙◌, append_assoc, append-nil, arith, length-append}
use Rattle.erase_plan.specs.declared.EraseType.{EraseType}
use Rattle.erase_plan.specs.declared.EraseEntry.{EraseEntry}
use Rattle.erase_plan.specs.declared.NextEntry.{NextEntry}
use Rattle.erase_plan.specs.declared.Surveyed.{Surveyed}
use Rattle.erase_plan.specs.Plan.{next_of, plan}
use Rattle.erase_plan.specs.Span.{end_of, span_start, span_end, survey_of}
use Rattle.erase_plan.specs.Words.{Each}
use Rattle.erase_plan.specs.Good.{Present}
use Rattle.erase_plan.specs.Later.{Even, OnAll}
use Rattle.erase_plan.proofs.Lists.{no_true}
use Rattle.erase_plan.proofs.Steps.{plan_nothing, plan_entry, plan_done}
use Rattle.erase_plan.proofs.Places.{next_on}

-- ---- one entry more at the end
pub end_append : (es : List EraseEntry) (e : EraseEntry) → span_end (es ++ e ∷ []) ≡ end_of e
unfolding span_end
end_append [] e = refl
end_append (x ∷ []) e = refl
end_append (x ∷ y ∷ es) e = end_append (y ∷ es) e

pub with_one : (s : Surveyed) (es : List EraseEntry) (e : EraseEntry) (first : ℕ) → s ≡ survey_of es
    → (s.count ≡ 0 → first ≡ e.base) → ((s.count ≡ 0 → ⊥) → first ≡ s.first)
    → ◌≡◌ {A = Surveyed} (record { count = s.count + 1; first = first; end = e.base + e.size }) (survey_of (es ++ e ∷ []))
unfolding survey_of span_start span_end
with_one s [] e first h f g =
    let z : s.count ≡ 0 = ap (λ (y : Surveyed). y.count) h in
    rw (z, f z)
with_one s (x ∷ es) e first h f g =
    let c : s.count ≡ suc (length es) = ap (λ (y : Surveyed). y.count) h in
    let n : s.count + 1 ≡ length (x ∷ es ++ e ∷ []) = omega (arith, length-append (x ∷ es) (e ∷ [])) in
    let q : first ≡ x.base = g (λ z. omega arith) ∙ ap (λ (y : Surveyed). y.first) h in
    rw (n, q, ← end_append (x ∷ es) e)

-- ---- a walk along a plan that has passed some of its entries: those passed and those ahead are the plan, and its mark is true
pub record Passed (ts : List EraseType) (start end at : ℕ) (later : Bool) (seen : Surveyed) : Type 0 where
  pub entries : List EraseEntry
  pub whole : plan ts start end ≡ entries ++ plan ts at end
  pub told : seen ≡ survey_of entries
  pub few : length entries ≤ at
  pub marked : later ≡ true → Even ts × OnAll at ts

pub walk_starts : (ts : List EraseType) (start end : ℕ) (none : Surveyed) → (none.count ≡ 0) × ((none.first ≡ 0) × (none.end ≡ 0))
    → Passed ts start end start false none
unfolding survey_of span_start span_end
walk_starts ts start end none z =
    record {
      entries = [];
      whole = refl;
      told = λ i. record { count = z.0 i; first = z.1.0 i; end = z.1.1 i };
      few = omega arith;
      marked = λ q. no_true q;
    }

module _ (ts : List EraseType) (p : Each Present ts) (start end at : ℕ) (later : Bool) (seen : Surveyed) (k : Passed ts start end at later seen) where
  -- the count is at most the position
  pub walk_few : seen.count ≤ at
  unfolding survey_of
  walk_few = omega (arith, k.few, ap (λ (s : Surveyed). s.count) k.told)

  -- an entry's last wanted byte is not before its position, and in the range
  pub walk_within : (n : NextEntry) → next_of ts at end ≡ Some n → (at ≤ n.stop) × (n.stop < end)
  walk_within n h = let u = plan_entry ts p at end n h in (u.after, u.within)

  -- nothing follows
  pub walk_over : next_of ts at end ≡ None → seen ≡ survey_of (plan ts start end)
  walk_over h =
      let q : plan ts start end ≡ k.entries =
      k.whole ∙ ap (λ (l : List EraseEntry). k.entries ++ l) (plan_nothing ts at end h) ∙ append-nil k.entries in
      k.told ∙ ap survey_of (sym q)

  module _ (n : NextEntry) (h : next_of ts at end ≡ Some n) (m : Surveyed)
      (more : (es : List EraseEntry) → seen ≡ survey_of es → m ≡ survey_of (es ++ n.entry ∷ [])) where
    past : plan ts start end ≡ (k.entries ++ n.entry ∷ []) ++ plan ts (n.stop + 1) end
    past =
        k.whole
        ∙ ap (λ (l : List EraseEntry). k.entries ++ l) (plan_entry ts p at end n h).unrolls
        ∙ sym (append_assoc k.entries (n.entry ∷ []) (plan ts (n.stop + 1) end))

    -- an entry, and the range goes on
    pub walk_more : (next : Bool) → (next ≡ true → Even ts) → n.stop + 1 < end → Passed ts start end (n.stop + 1) next m
    walk_more next even l =
        record {
          entries = k.entries ++ n.entry ∷ [];
          whole = past;
          told = more k.entries k.told;
          few = omega (arith, length-append k.entries (n.entry ∷ []), k.few, (plan_entry ts p at end n h).after);
          marked = λ q. (even q, next_on ts (even q) at end n h l);
        }

    -- an entry, and the range ends
    pub walk_last : end ≤ n.stop + 1 → m ≡ survey_of (plan ts start end)
    walk_last l =
        let q : plan ts start end ≡ k.entries ++ n.entry ∷ [] =
        past ∙ ap (λ (x : List EraseEntry). (k.entries ++ n.entry ∷ []) ++ x) (plan_done ts (n.stop + 1) end l) ∙ append-nil (k.entries ++ n.entry ∷ []) in
        more k.entries k.told ∙ ap survey_of (sym q)
