-- The entry of one type, and the better of two entries.
use Rattle.std.proofs.Common.{◌≡◌, ℕ, ◌+◌, ◌-◌, ◌<◌, ◌≤◌, true, false, eqb, min, Option, Some, None, List, [], ◌∷◌, ◌++◌, sym, refl, ap, ◌∙◌, ⊎_elim, append-nil, arith, eqb-true}
use borrow.Author.Tests.{eqb-false}
use Rattle.erase_plan.specs.declared.EraseType.{EraseType}
use Rattle.erase_plan.specs.declared.EraseEntry.{EraseEntry}
use Rattle.erase_plan.specs.declared.NextEntry.{NextEntry}
use Rattle.erase_plan.specs.Types.{kept}
use Rattle.erase_plan.specs.Plan.{block_base, cover, beats, chosen, entry_from, entry_at, next_pos, next_of}
use Rattle.erase_plan.specs.Words.{Each}
use Rattle.erase_plan.specs.Good.{Present}
use Rattle.erase_plan.proofs.Lists.{lt_or_le}
use Rattle.std.proofs.lemmas.Bool.{cases_Bool}
use Rattle.erase_plan.proofs.Multiples.{end_base, base_le, end_gt}
use Rattle.erase_plan.proofs.Ordering.{kept_none, kept_one}
use Rattle.erase_plan.proofs.Choice.{cover_some, beats_more, beats_less, beats_small, beats_tie, chosen_each, chosen_append, chosen_one}
use Rattle.erase_plan.proofs.Steps.{ending, Found, found, not_both, next_some, next_done, next_none}

-- the entry that a type gives
takes : EraseType → ℕ → ℕ → Option NextEntry
takes t pos end = Some (ending (entry_from t (block_base t.size pos)) (pos + cover t pos end - 1))

-- the next entry is that of the type chosen
next_takes : (t : EraseType) (ts : List EraseType) (pos end : ℕ) → pos < end → next_of (t ∷ ts) pos end ≡ takes (chosen (t ∷ ts) pos end) pos end
unfolding takes entry_at next_pos
next_takes t ts pos end h = next_some t ts pos end h

-- ---- one type
pub one_none : (t : EraseType) (pos end : ℕ) → t.size ≡ 0 → None ≡ next_of (kept t) pos end
one_none t pos end z = rw (kept_none t z) (sym (next_none pos end))

pub one_done : (t : EraseType) (pos end : ℕ) → end ≤ pos → None ≡ next_of (kept t) pos end
one_done t pos end h = sym (next_done (kept t) pos end h)

module _ (t : EraseType) (pos last : ℕ) (z : t.size ≡ 0 → ⊥) (h : pos ≤ last) where
  one_takes : next_of (kept t) pos (last + 1) ≡ takes t pos (last + 1)
  one_takes =
      let l : pos < last + 1 = omega arith in
      rw (kept_one t z) (next_takes t [] pos (last + 1) l ∙ ap (λ (x : EraseType). takes x pos (last + 1)) (chosen_one pos (last + 1) t))

  -- with the base of the aligned block
  module _ (b : ℕ) (e : EraseEntry) (p : b ≡ block_base t.size pos) (q : e ≡ entry_from t b) where
    one_entry : (stop : ℕ) → stop ≡ pos + cover t pos (last + 1) - 1 → Some (ending e stop) ≡ next_of (kept t) pos (last + 1)
    unfolding takes
    one_entry stop r = rw (q, p, r) (sym one_takes)

    -- its last wanted byte is the block's last, or the range's
    pub one_block : (stop : ℕ) → stop ≡ min (b + (t.size - 1)) last → Some (ending e stop) ≡ next_of (kept t) pos (last + 1)
    unfolding cover
    one_block stop k =
        let n : 0 < t.size = omega (arith, z) in
        one_entry stop (omega (arith, end_base t.size pos, base_le t.size pos, end_gt t.size pos n))

-- ---- the better of an entry of earlier types and of one more type
pub left_none : (ts : List EraseType) (u : EraseType) (pos end : ℕ) → next_of ts pos end ≡ None → next_of (kept u) pos end ≡ next_of (ts ++ kept u) pos end
left_none [] u pos end h = refl
left_none (t ∷ ts) u pos end h =
    ⊎_elim
    (λ (l : pos < end). not_both (next_of (t ∷ ts) pos end) _ (next_some t ts pos end l) h)
    (λ (l : end ≤ pos). next_done (kept u) pos end l ∙ sym (next_done (t ∷ ts ++ kept u) pos end l))
    (lt_or_le pos end)

pub right_none : (ts : List EraseType) (u : EraseType) (pos end : ℕ) → next_of (kept u) pos end ≡ None → next_of ts pos end ≡ next_of (ts ++ kept u) pos end
right_none ts u pos end h =
    ⊎_elim
    (λ (l : pos < end). ⊎_elim
    (λ (e : eqb u.size 0 ≡ true). rw (kept_none u (eqb-true u.size 0 e), append-nil))
    (λ (e : eqb u.size 0 ≡ false). not_both (next_of (u ∷ []) pos end) _
    (next_some u [] pos end l) (rw (kept_one u (eqb-false u.size 0 e)) at h))
    (cases_Bool (eqb u.size 0)))
    (λ (l : end ≤ pos). next_done ts pos end l ∙ sym (next_done (ts ++ kept u) pos end l))
    (lt_or_le pos end)

-- with the one chosen of the earlier types
module _ (t : EraseType) (ts : List EraseType) (u : EraseType) (pos end : ℕ) (h : pos < end) where
  later_kept : beats u (chosen (t ∷ ts) pos end) pos end ≡ false → next_of (t ∷ ts) pos end ≡ next_of (t ∷ ts ++ u ∷ []) pos end
  later_kept e =
      let q : chosen (t ∷ ts ++ u ∷ []) pos end ≡ chosen (t ∷ ts) pos end = chosen_append pos end t ts u ∙ rw e in
      next_takes t ts pos end h ∙ ap (λ (x : EraseType). takes x pos end) (sym q) ∙ sym (next_takes t (ts ++ u ∷ []) pos end h)

  later_taken : beats u (chosen (t ∷ ts) pos end) pos end ≡ true → next_of (u ∷ []) pos end ≡ next_of (t ∷ ts ++ u ∷ []) pos end
  later_taken e =
      let q : chosen (t ∷ ts ++ u ∷ []) pos end ≡ u = chosen_append pos end t ts u ∙ rw e in
      next_takes u [] pos end h
      ∙ ap (λ (x : EraseType). takes x pos end) (chosen_one pos end u ∙ sym q)
      ∙ sym (next_takes t (ts ++ u ∷ []) pos end h)

-- what the two entries say of the two types
record Compared (ts : List EraseType) (u : EraseType) (pos end : ℕ) (x y : NextEntry) : Type 0 where
  stays : beats u (chosen ts pos end) pos end ≡ false → Some x ≡ next_of (ts ++ kept u) pos end
  goes : beats u (chosen ts pos end) pos end ≡ true → Some y ≡ next_of (ts ++ kept u) pos end
  reach : x.stop + 1 ≡ pos + cover (chosen ts pos end) pos end
  reach_u : y.stop + 1 ≡ pos + cover u pos end
  size : x.entry.size ≡ (chosen ts pos end).size
  size_u : y.entry.size ≡ u.size

compared : (ts : List EraseType) (u : EraseType) (pos end : ℕ) (x y : NextEntry) → Each Present ts
    → next_of ts pos end ≡ Some x → next_of (kept u) pos end ≡ Some y → Compared ts u pos end x y
unfolding entry_at next_pos
compared [] u pos end x y p a b = not_both (next_of [] pos end) x a (next_none pos end)
compared (t ∷ ts) u pos end x y p a b =
    let f : Found (t ∷ ts) pos end x = found (t ∷ ts) pos end x a in
    let h : pos < end = f.wanted in
    let z : u.size ≡ 0 → ⊥ = λ e. not_both (next_of (kept u) pos end) y b (sym (one_none u pos end e)) in
    let k : kept u ≡ u ∷ [] = kept_one u z in
    let b' : next_of (u ∷ []) pos end ≡ Some y = rw k at b in
    let g : Found (u ∷ []) pos end y = found (u ∷ []) pos end y b' in
    let n : 0 < u.size = omega (arith, z) in
    let c : cover (chosen (u ∷ []) pos end) pos end ≡ cover u pos end = ap (λ (w : EraseType). cover w pos end) (chosen_one pos end u) in
    record {
      stays = λ e. sym a ∙ later_kept t ts u pos end h e ∙ ap (λ (l : List EraseType). next_of (t ∷ ts ++ l) pos end) (sym k);
      goes = λ e. sym b' ∙ later_taken t ts u pos end h e ∙ ap (λ (l : List EraseType). next_of (t ∷ ts ++ l) pos end) (sym k);
      reach = omega (arith, f.last, cover_some (chosen (t ∷ ts) pos end) pos end (chosen_each pos end Present t ts p) h);
      reach_u = omega (arith, g.last, c, cover_some u pos end n h);
      size = ap (λ (w : EraseEntry). w.size) f.entry;
      size_u = ap (λ (w : EraseEntry). w.size) g.entry ∙ ap (λ (w : EraseType). w.size) (chosen_one pos end u);
    }

module _ (ts : List EraseType) (u : EraseType) (pos end : ℕ) (x y : NextEntry) (p : Each Present ts)
    (a : next_of ts pos end ≡ Some x) (b : next_of (kept u) pos end ≡ Some y) where
  -- it reaches further
  pub better_further : x.stop < y.stop → Some y ≡ next_of (ts ++ kept u) pos end
  better_further h =
      let k : Compared ts u pos end x y = compared ts u pos end x y p a b in
      k.goes (beats_more u (chosen ts pos end) pos end (omega (arith, k.reach, k.reach_u)))

  -- it reaches less far
  pub better_shorter : y.stop < x.stop → Some x ≡ next_of (ts ++ kept u) pos end
  better_shorter h =
      let k : Compared ts u pos end x y = compared ts u pos end x y p a b in
      k.stays (beats_less u (chosen ts pos end) pos end (omega (arith, k.reach, k.reach_u)))

  -- it reaches as far and is smaller
  pub better_smaller : x.stop ≡ y.stop → y.entry.size < x.entry.size → Some y ≡ next_of (ts ++ kept u) pos end
  better_smaller h j =
      let k : Compared ts u pos end x y = compared ts u pos end x y p a b in
      k.goes (beats_small u (chosen ts pos end) pos end (omega (arith, k.reach, k.reach_u)) (omega (arith, k.size, k.size_u)))

  -- it reaches as far and is no smaller
  pub better_first : x.stop ≡ y.stop → x.entry.size ≤ y.entry.size → Some x ≡ next_of (ts ++ kept u) pos end
  better_first h j =
      let k : Compared ts u pos end x y = compared ts u pos end x y p a b in
      k.stays (beats_tie u (chosen ts pos end) pos end (omega (arith, k.reach, k.reach_u)) (omega (arith, k.size, k.size_u)))
