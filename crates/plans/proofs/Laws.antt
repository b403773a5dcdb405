-- What holds of every query, its answer and its plan.
use Rattle.std.proofs.Common.{Result, Ok, Err}
use Prim.Native.Nat.{ℕ, ◌+◌, ◌-◌, ◌≤◌, ◌<◌}
use mathlib.Core.Path.{◌≡◌, refl, sym, ap, ◌∙◌, subst}
use mathlib.Core.Bool.{Bool, true, false, cond}
use mathlib.Core.List.{List, ◌++◌}
use native.Mathlib.Omega.{arith}
use lib.Dec.{eqb, leb}
use lib.ListN.{length, drop, get_or}
use lib.Seq.{get_or-append-add, get_or-drop}
use borrow.Author.Tests.{eqb-true, eqb-false, leb-true, le-leb}
use Rattle.settings.specs.declared.BadRange.{BadRange}
use Rattle.settings.specs.Ranges.{accepted_range, last_address, check_address_length}
use Rattle.settings.proofs.Laws.{accepted_nonempty, check_fits, check_reports}
use Rattle.erase_plan.specs.declared.EraseEntry.{EraseEntry}
use Rattle.erase_plan.specs.Plan.{next_pos}
use Rattle.erase_plan.specs.Good.{Good}
use Rattle.erase_plan.specs.Later.{InPlace, after_first}
use Rattle.erase_plan.proofs.Lists.{by_cond}
use Rattle.erase_plan.proofs.Planned.{plan_good}
use Rattle.erase_plan.proofs.Places.{later_in_place}
use Rattle.plans.specs.Planned.{types_for, plan_for, planned_of, written_of, answered, filled}
use Rattle.plans.specs.Cursors.{ahead, cursor_for, after_checks, begun_of, answer_of}
use Rattle.plans.specs.declared.PlanQuery.{PlanQuery}
use Rattle.plans.specs.declared.Cursor.{Cursor}
use Rattle.plans.specs.declared.PlanError.{PlanError}
use Rattle.plans.specs.declared.PlanError.TheVariants.{InvalidAddress, NoEraseInstruction, NoRoom}
use Rattle.plans.proofs.Types.{WasRead, available_kinds, available_even}

-- the plan of every accepted range is good, where there is a type and any parameters were read from a table
pub plan_good_for : (q : PlanQuery) → (q.known ≡ true → WasRead q.params) → accepted_range q.settings q.address q.length ≡ true
    → 0 < length (types_for q) → (L : ℕ) × Good L q.address (q.address + q.length) (plan_for q)
unfolding types_for plan_for
plan_good_for q read h some =
    let k = available_kinds q.settings q.known q.params read some in
    let n = accepted_nonempty q.settings q.address q.length h in
    (k.0, plan_good k.0 (types_for q) k.1 q.address (q.address + q.length) (omega arith))

-- no entry of such a plan but the first has its base below its position, a multiple of every size
pub later_in_place_for : (q : PlanQuery) → (q.known ≡ true → WasRead q.params)
    → let next = next_pos (types_for q) q.address (q.address + q.length) in
    InPlace (types_for q) next (q.address + q.length) (after_first (plan_for q))
unfolding types_for plan_for
later_in_place_for q read =
    later_in_place (types_for q) (available_even q.settings q.known q.params read) q.address (q.address + q.length)

-- ---- each start has its cause: 5 exactly for a range that is not accepted, 7 exactly for an accepted one without a type
pub record Starts (q : PlanQuery) (n : ℕ) (c : Cursor) : Type 0 where
  pub range : accepted_range q.settings q.address q.length ≡ true
  pub some : 0 < length (types_for q)
  pub count : n ≡ length (plan_for q)
  pub start : c ≡ cursor_for q

-- what a start shows
Shown : PlanQuery → Result (ℕ × Cursor) PlanError → Type 0
Shown q (Err (InvalidAddress report)) = (accepted_range q.settings q.address q.length ≡ false) × (report.last ≡ last_address q.address q.length)
Shown q (Err NoEraseInstruction) = (accepted_range q.settings q.address q.length ≡ true) × (length (types_for q) ≡ 0)
Shown q (Err (NoRoom n)) = ⊥
Shown q (Ok x) = Starts q x.0 x.1

begun_shows : (q : PlanQuery) → Shown q (begun_of q)
unfolding begun_of Shown
begun_shows q = by_range (check_address_length q.settings q.address q.length) refl
  where
    by_range : (r : Result (Unit {0}) BadRange) → check_address_length q.settings q.address q.length ≡ r
        → Shown q (after_checks r (eqb (length (types_for q)) 0) (length (plan_for q), cursor_for q))
    by_range (Ok _) h =
        let ok = (check_fits q.settings q.address q.length).0 h in
        by_cond (Shown q) (eqb (length (types_for q)) 0) (Err NoEraseInstruction) (Ok (length (plan_for q), cursor_for q))
        (λ e. (ok, eqb-true (length (types_for q)) 0 e))
        (λ e. record { range = ok; some = omega (arith, eqb-false (length (types_for q)) 0 e); count = refl; start = refl })
    by_range (Err report) h = check_reports q.settings q.address q.length report h

module _ (q : PlanQuery) where
  pub begun_invalid : (report : BadRange) → begun_of q ≡ Err (InvalidAddress report)
      → (accepted_range q.settings q.address q.length ≡ false) × (report.last ≡ last_address q.address q.length)
  unfolding Shown
  begun_invalid report h = subst (Shown q) h (begun_shows q)

  pub begun_none : begun_of q ≡ Err NoEraseInstruction → (accepted_range q.settings q.address q.length ≡ true) × (length (types_for q) ≡ 0)
  unfolding Shown
  begun_none h = subst (Shown q) h (begun_shows q)

  pub begun_ready : (n : ℕ) (c : Cursor) → begun_of q ≡ Ok (n, c) → Starts q n c
  unfolding Shown
  begun_ready n c h = subst (Shown q) h (begun_shows q)

-- the answer is that of the start
pub planned_begun : (q : PlanQuery) (room : ℕ) → planned_of q room ≡ answer_of (begun_of q) room
unfolding planned_of begun_of
planned_begun q room = by (check_address_length q.settings q.address q.length) (eqb (length (types_for q)) 0)
  where
    by : (r : Result (Unit {0}) BadRange) (none : Bool)
        → answered r none (length (plan_for q)) room ≡ answer_of (after_checks r none (length (plan_for q), cursor_for q)) room
    by (Err report) none = refl
    by (Ok _) true = refl
    by (Ok _) false = refl

-- where there is a start, its cursor is that of the plan, and the test of the room is left
pub starts_ahead : {q : PlanQuery} {n : ℕ} {c : Cursor} → Starts q n c → ahead c ≡ plan_for q
unfolding plan_for types_for
starts_ahead {q} s =
    let h = accepted_nonempty q.settings q.address q.length s.range in
    let e : q.address + q.length - 1 + 1 ≡ q.address + q.length = omega arith in
    rw (s.start, e)

pub planned_fits : (q : PlanQuery) (n room : ℕ) (c : Cursor) → begun_of q ≡ Ok (n, c) → n ≤ room → planned_of q room ≡ Ok n
planned_fits q n room c b h = rw (planned_begun q room, b, le-leb n room h)

pub written_fits : (q : PlanQuery) (n : ℕ) (slots : List EraseEntry) (c : Cursor) → begun_of q ≡ Ok (n, c) → n ≤ length slots
    → written_of q slots ≡ ahead c ++ drop n slots
unfolding written_of
written_fits q n slots c b h =
    let s = begun_ready q n c b in
    rw (planned_fits q n (length slots) c b h) (ap (λ (es : List EraseEntry). es ++ drop (length (plan_for q)) slots) (sym (starts_ahead s))
    ∙ ap (λ (k : ℕ). ahead c ++ drop k slots) (sym s.count))

-- ---- the slots
past : (ps slots : List EraseEntry) (i : ℕ) (e : EraseEntry) → length ps ≤ i → get_or (ps ++ drop (length ps) slots) i e ≡ get_or slots i e
past ps slots i e h =
    let k : i ≡ length ps + (i - length ps) = omega arith in
    ap (λ (j : ℕ). get_or (ps ++ drop (length ps) slots) j e) k
    ∙ get_or-append-add ps (drop (length ps) slots) (i - length ps) e
    ∙ get_or-drop (length ps) slots (i - length ps) e
    ∙ ap (λ (j : ℕ). get_or slots j e) (sym k)

module _ (q : PlanQuery) (slots : List EraseEntry) where
  -- a refusal changes none
  pub refused_keeps : (e : PlanError) → planned_of q (length slots) ≡ Err e → written_of q slots ≡ slots
  unfolding written_of
  refused_keeps e h = rw h

  -- done: there was room for the plan, and so many entries were written
  pub done_fits : (n : ℕ) → planned_of q (length slots) ≡ Ok n → (n ≡ length (plan_for q)) × (length (plan_for q) ≤ length slots)
  unfolding planned_of
  done_fits n = by_range (check_address_length q.settings q.address q.length) (eqb (length (types_for q)) 0) (leb (length (plan_for q)) (length slots)) refl
    where
      by_room : (b : Bool) → leb (length (plan_for q)) (length slots) ≡ b
          → ◌≡◌ {A = Result ℕ PlanError} (cond b (Ok (length (plan_for q))) (Err (NoRoom (length (plan_for q))))) (Ok n)
          → (n ≡ length (plan_for q)) × (length (plan_for q) ≤ length slots)
      by_room true l h = (cc, leb-true (length (plan_for q)) (length slots) l)
      by_room false l h = let z : ◌≡◌ {A = ℕ} 0 1 = cc in absurd (omega arith)

      by_range : (r : Result (Unit {0}) BadRange) (none b : Bool) → leb (length (plan_for q)) (length slots) ≡ b → answered r none (length (plan_for q)) (length slots) ≡ Ok n
          → (n ≡ length (plan_for q)) × (length (plan_for q) ≤ length slots)
      by_range (Ok _) true b l h = let z : ◌≡◌ {A = ℕ} 0 1 = cc in absurd (omega arith)
      by_range (Ok _) false b l h = by_room b l (rw l at h)
      by_range (Err report) none b l h = let z : ◌≡◌ {A = ℕ} 0 1 = cc in absurd (omega arith)

  -- no slot past the plan's end changes
  pub past_keeps : (i : ℕ) (e : EraseEntry) → length (plan_for q) ≤ i → get_or (written_of q slots) i e ≡ get_or slots i e
  unfolding written_of
  past_keeps i e h = by (planned_of q (length slots))
    where
      by : (r : Result ℕ PlanError) → get_or (filled r (plan_for q ++ drop (length (plan_for q)) slots) slots) i e ≡ get_or slots i e
      by (Ok n) = past (plan_for q) slots i e h
      by (Err x) = refl
