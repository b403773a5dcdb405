-- Every entry after the first starts at its own position, a multiple of every size; and the tests by which the code knows it.
use Rattle.std.proofs.Common.{◌≡◌, ℕ, zero, suc, ◌+◌, ◌-◌, ◌/◌, ◌%◌, ◌^◌, ◌<◌, ◌≤◌, Bool, true, false, ◌||◌, eqb, Some, List, [], ◌∷◌, drop, flat_map, sym, refl, ◌∙◌, subst, inl, inr, ⊎_elim, append-nil, div-add-mod', arith, eqb-true}
use Rattle.std.specs.List.{list_all}
use lib.Bits.{bit_and, and_mask}
use lib.Count.{ones, ones_step}
use Rattle.std.specs.Int.{is_power_of_two}
use Rattle.std.proofs.lemmas.Nat.{ones_le_self, zero_from_ones}
use borrow.Author.Tests.{eqb-false}
use Rattle.erase_plan.specs.declared.EraseType.{EraseType}
use Rattle.erase_plan.specs.declared.EraseTypes.{EraseTypes}
use Rattle.erase_plan.specs.declared.NextEntry.{NextEntry}
use Rattle.erase_plan.specs.Types.{kept, present}
use Rattle.erase_plan.specs.Plan.{block_end, entry_at, next_pos, plan, next_of}
use Rattle.erase_plan.specs.Words.{Each, Mult}
use Rattle.erase_plan.specs.Good.{Present, Divides, Kinds}
use Rattle.erase_plan.specs.Later.{Power, Even, OnAll, InPlace, after_first, LaterInPlace}
use Rattle.erase_plan.specs.Marks.{is_power, are_powers, is_single, is_even}
use Rattle.erase_plan.proofs.Lists.{lt_or_le, each_true, each_map}
use Rattle.std.proofs.lemmas.Bool.{cases_Bool, or_cases}
use Rattle.erase_plan.proofs.Multiples.{end_mult, mult_trans, base_self}
use Rattle.erase_plan.proofs.Ordering.{kept_none, kept_one, each_kept}
use Rattle.erase_plan.proofs.Choice.{chosen_each}
use Rattle.erase_plan.proofs.Steps.{Found, found, next_more, plan_more, plan_done, plan_none}
use Rattle.erase_plan.proofs.Planned.{kinds_present, next_reach, power_kinds, single_kinds}

-- ---- the entries after the first
pub even_kinds : (t : EraseType) (ts : List EraseType) → Even (t ∷ ts) → (L : ℕ) × Kinds L (t ∷ ts)
even_kinds t ts (inl p) = power_kinds (t ∷ ts) (omega arith) p
even_kinds t [] (inr s) = (t.size, single_kinds t s)
even_kinds t (u ∷ ts) (inr s) = absurd s

module _ (t : EraseType) (ts : List EraseType) (L : ℕ) (K : Kinds L (t ∷ ts)) where
  -- past an entry, still in the range: the end of the largest type's block
  past_on : (pos end : ℕ) → pos < end → next_pos (t ∷ ts) pos end < end → OnAll (next_pos (t ∷ ts) pos end) (t ∷ ts)
  past_on pos end h l =
      let at : block_end L pos ≡ next_pos (t ∷ ts) pos end = omega (arith, next_reach L t ts K pos end h) in
      let m : Mult L (next_pos (t ∷ ts) pos end) = subst (Mult L) at (end_mult L pos) in
      each_map (Divides L) (λ (u : EraseType). Mult u.size (next_pos (t ∷ ts) pos end)) (λ u d. mult_trans d.part m) (t ∷ ts) K.each

  -- where the position is a multiple of every size the entry starts there
  on_base : (pos end : ℕ) → OnAll pos (t ∷ ts) → (entry_at (t ∷ ts) pos end).base ≡ pos
  unfolding entry_at
  on_base pos end on =
      base_self (chosen_each pos end Present t ts (kinds_present K)) (chosen_each pos end (λ (u : EraseType). Mult u.size pos) t ts on)

  in_place : (n pos end : ℕ) → end - pos ≤ n → (pos < end → OnAll pos (t ∷ ts)) → InPlace (t ∷ ts) pos end (plan (t ∷ ts) pos end)
  in_place zero pos end b on = rw (plan_done (t ∷ ts) pos end (omega arith)) tt
  in_place (suc n) pos end b on =
      ⊎_elim
      (λ (l : pos < end). rw (plan_more t ts (kinds_present K) pos end l) (
        on l,
        on_base pos end (on l),
        in_place n (next_pos (t ∷ ts) pos end) end (omega (arith, next_more t ts (kinds_present K) pos end l)) (past_on pos end l),
      ))
      (λ (l : end ≤ pos). rw (plan_done (t ∷ ts) pos end l) tt)
      (lt_or_le pos end)

  after_first_lem : (pos end : ℕ) → InPlace (t ∷ ts) (next_pos (t ∷ ts) pos end) end (after_first (plan (t ∷ ts) pos end))
  after_first_lem pos end =
      ⊎_elim
      (λ (l : pos < end). rw (plan_more t ts (kinds_present K) pos end l)
      (in_place (end - next_pos (t ∷ ts) pos end) (next_pos (t ∷ ts) pos end) end (omega arith) (past_on pos end l)))
      (λ (l : end ≤ pos). rw (plan_done (t ∷ ts) pos end l) tt)
      (lt_or_le pos end)

-- no entry but the first has its base below its position, which is a multiple of every size
pub later_in_place : LaterInPlace
later_in_place [] even pos end = rw (plan_none pos end) tt
later_in_place (t ∷ ts) even pos end = let k = even_kinds t ts even in after_first_lem t ts k.0 k.1 pos end

-- the position after an entry that was found
pub next_on : (ts : List EraseType) → Even ts → (pos end : ℕ) (n : NextEntry) → next_of ts pos end ≡ Some n → n.stop + 1 < end
    → OnAll (n.stop + 1) ts
next_on [] even pos end n h l = tt
next_on (t ∷ ts) even pos end n h l =
    let f : Found (t ∷ ts) pos end n = found (t ∷ ts) pos end n h in
    let k = even_kinds t ts even in
    let m = next_more t ts (kinds_present k.1) pos end f.wanted in
    let q : next_pos (t ∷ ts) pos end ≡ n.stop + 1 = omega (arith, f.last) in
    subst (λ (p : ℕ). OnAll p (t ∷ ts)) q (past_on t ts k.0 k.1 pos end f.wanted (omega arith))

-- ---- the tests
slot_each : (P : EraseType → Type 0) (t : EraseType) → (0 < t.size → P t) → Each P (kept t)
slot_each P t p =
    ⊎_elim (λ (e : eqb t.size 0 ≡ true). subst (Each P) (sym (kept_none t (eqb-true t.size 0 e))) tt)
    (λ (e : eqb t.size 0 ≡ false). subst (Each P) (sym (kept_one t (eqb-false t.size 0 e))) (p (omega (arith, eqb-false t.size 0 e)), tt))
    (cases_Bool (eqb t.size 0))

-- a number with one bit set is a power of two
one_bit : (d n : ℕ) → n ≤ d → ones n ≡ 1 → (k : ℕ) × (n ≡ 2 ^ k)
one_bit zero n h e = absurd (omega (arith, ones_le_self n))
one_bit (suc d) n h e =
    ⊎_elim
    (λ (l : n % 2 < 1).
    let p : (k : ℕ) × (n / 2 ≡ 2 ^ k) = one_bit d (n / 2) (omega arith) (omega (arith, ones_step n)) in
    (suc p.0, omega (arith, p.1)))
    (λ (l : 1 ≤ n % 2). (0, omega (arith, zero_from_ones (n / 2) (omega (arith, ones_step n)))))
    (lt_or_le (n % 2) 1)

-- a size that is seen to be a power of two is one
seen_power : (t : EraseType) → is_power t ≡ true → 0 < t.size → Power t
unfolding is_power
seen_power t e h =
    ⊎_elim (λ (z : eqb t.size 0 ≡ true). absurd (omega (arith, eqb-true t.size 0 z)))
    (λ q. let p = one_bit t.size t.size (omega arith) (eqb-true (ones t.size) 1 q) in record { exponent = p.0; is = p.1 })
    (or_cases (eqb t.size 0) (is_power_of_two t.size) e)

power_of : (t : EraseType) → is_power t ≡ true → Each Power (kept t)
power_of t e = slot_each Power t (λ h. seen_power t e h)

-- and a position whose bits below it are 0 is a multiple
pub mask_on : (t : EraseType) (pos : ℕ) → is_power t ≡ true → 0 < t.size → bit_and pos (t.size - 1) ≡ 0 → Mult t.size pos
mask_on t pos e h z =
    let k : Power t = seen_power t e h in
    let r : pos % t.size ≡ 0 =
    subst (λ (n : ℕ). pos % n ≡ bit_and pos (n - 1)) (sym k.is) (sym (and_mask pos k.exponent)) ∙ z in
    record { q = pos / t.size; is = omega (arith, div-add-mod' pos t.size) }

pub slot_on : (t : EraseType) (pos : ℕ) → (0 < t.size → Mult t.size pos) → OnAll pos (kept t)
slot_on t pos m = slot_each (λ (u : EraseType). Mult u.size pos) t m

pub on_slot : (t : EraseType) (pos : ℕ) → OnAll pos (kept t) → 0 < t.size → Mult t.size pos
on_slot t pos on h = (subst (OnAll pos) (kept_one t (λ z. omega arith)) on).0

-- slots that are all empty hold nothing
none_kept : (l : List EraseType) → Each (λ (t : EraseType). eqb t.size 0 ≡ true) l → flat_map kept l ≡ []
none_kept [] p = refl
none_kept (t ∷ l) p = rw (kept_none t (eqb-true t.size 0 p.0)) (none_kept l p.1)

slot_even : (t : EraseType) → Even (kept t)
slot_even t =
    ⊎_elim (λ (z : eqb t.size 0 ≡ true). subst Even (sym (kept_none t (eqb-true t.size 0 z))) (inl tt))
    (λ (z : eqb t.size 0 ≡ false). subst Even (sym (kept_one t (eqb-false t.size 0 z))) (inr (omega (arith, eqb-false t.size 0 z))))
    (cases_Bool (eqb t.size 0))

single_even : (l : List EraseType) → list_all (λ (t : EraseType). eqb t.size 0) (drop 1 l) ≡ true → Even (flat_map kept l)
single_even [] q = inl tt
single_even (t ∷ l) q = rw (none_kept l (each_true (λ (u : EraseType). eqb u.size 0) l q), append-nil) (slot_even t)

powers_even : (l : List EraseType) → list_all is_power l ≡ true → Even (flat_map kept l)
powers_even l q = inl (each_kept Power l (each_map (λ (t : EraseType). is_power t ≡ true) (λ (t : EraseType). Each Power (kept t)) power_of l (each_true is_power l q)))

pub are_even : (ts : EraseTypes) → is_even ts ≡ true → Even (present ts)
unfolding is_even is_single are_powers present
are_even ts e = ⊎_elim (single_even ts.slots) (powers_even ts.slots) (or_cases (is_single ts) (are_powers ts) e)

-- the mark of the position after an entry
pub mark_even : (ts : EraseTypes) (later : Bool) → (later ≡ true → Even (present ts)) → (later || is_even ts) ≡ true → Even (present ts)
mark_even ts later even e = ⊎_elim even (are_even ts) (or_cases later (is_even ts) e)
