-- Records written one after another are the records of the plan's entries.
use Rattle.std.proofs.Common.{◌≡◌, ℕ, ◌+◌, ◌*◌, ◌-◌, ◌/◌, ◌≤◌, ◌<◌, Ok, Err, Option, Some, List, [], ◌∷◌, ◌++◌, length, take, drop, refl, sym, ap, ◌∙◌, append_assoc, length-append, arith, le-leb}
use Rattle.std.proofs.lemmas.Bool.{lt-leb}
use lib.ListN.{take-append-drop}
use lib.Seq.{take_at, length-take-le}
use Rattle.commands.specs.Script.{over}
use Rattle.room.specs.Room.{laid}
use Rattle.room.proofs.Laws.{laid_fits, drop_over}
use Rattle.erase_plan.specs.declared.EraseEntry.{EraseEntry}
use Rattle.erase_plan.specs.Types.{present}
use Rattle.erase_plan.specs.Plan.{plan}
use Rattle.settings.proofs.Laws.{accepted_nonempty}
use Rattle.plans.specs.declared.PlanQuery.{PlanQuery}
use Rattle.plans.specs.declared.PlanError.{PlanError}
use Rattle.plans.specs.declared.PlanError.TheVariants.{NoRoom}
use Rattle.plans.specs.declared.Cursor.{Cursor}
use Rattle.plans.specs.declared.Step.{Step}
use Rattle.plans.specs.Available.{available}
use Rattle.plans.specs.Planned.{types_for, plan_for, planned_of}
use Rattle.plans.specs.Cursors.{begun_of, ahead, ahead_of, Kept}
use Rattle.plans.proofs.Filled.{unmarked}
use Rattle.plans.proofs.Laws.{begun_ready, planned_begun}
use Rattle.packed.specs.Numbers.{bytes}
use Rattle.moss_flash.specs.Plans.{entry_bytes, records_of, plan_over}

-- the first k slots as they are, the records of the entries from a cursor on, and what is past slot n
unfoldable pub filled : ℕ → ℕ → Option Cursor → List ℕ → List ℕ
filled k n place out = take (16 * k) out ++ (records_of (ahead_of place) ++ drop (16 * n) out)

-- ---- bytes laid at the end of what is kept
module _ (at : ℕ) (b out : List ℕ) (fits : at + length b ≤ length out) where
  take_over_end : take (at + length b) (over at b out) ≡ take at out ++ b
  unfolding over
  take_over_end =
      let e : length (take at out ++ b) ≡ at + length b = simp (length-append, length-take-le at out (omega arith)) refl in
      rw (← append_assoc (take at out) b (drop (at + length b) out)) (take_at (take at out ++ b) (drop (at + length b) out) (at + length b) e)

  pub laid_on : (end : ℕ) (rest : List ℕ) → at + length b ≤ end
      → take (at + length b) (laid at b out) ++ (rest ++ drop end (laid at b out)) ≡ take at out ++ ((b ++ rest) ++ drop end out)
  laid_on end rest h =
      rw (laid_fits at b out fits, take_over_end, drop_over at b out fits end h)
      (append_assoc (take at out) b (rest ++ drop end out)
      ∙ ap (λ (l : List ℕ). take at out ++ l) (sym (append_assoc b rest (drop end out))))

-- ---- a turn
entry_length : (e : EraseEntry) → length (entry_bytes e) ≡ 16
unfolding entry_bytes bytes
entry_length e = refl

pub fill_on : (k n : ℕ) (place : Option Cursor) (s : Step) (out : List ℕ) → ahead_of place ≡ s.entry ∷ ahead_of s.next → k < n → 16 * n ≤ length out
    → filled (k + 1) n s.next (laid (16 * k) (entry_bytes s.entry) out) ≡ filled k n place out
unfolding filled records_of
fill_on k n place s out gives h room =
    let b : List ℕ = entry_bytes s.entry in
    let size : length b ≡ 16 = entry_length s.entry in
    let e : 16 * (k + 1) ≡ 16 * k + length b = omega (arith, size) in
    rw (e, gives) (laid_on (16 * k) b out (omega (arith, size)) (16 * n) (records_of (ahead_of s.next)) (omega (arith, size)))

-- ---- the first and the last
pub fill_start : (n : ℕ) (c : Cursor) (out : List ℕ) → filled 0 n (Some c) out ≡ records_of (ahead c) ++ drop (16 * n) out
unfolding filled
fill_start n c out = refl

none_ahead : (es : List EraseEntry) → length es ≡ 0 → es ≡ []
none_ahead [] h = refl
none_ahead (e ∷ es) h = absurd (omega arith)

pub fill_end : (k n : ℕ) (place : Option Cursor) (out : List ℕ) → k + length (ahead_of place) ≡ n → n ≤ k → filled k n place out ≡ out
unfolding filled records_of
fill_end k n place out h l =
    let e : n ≡ k = omega arith in
    rw (e, none_ahead (ahead_of place) (omega arith)) (take-append-drop (16 * k) out)

-- ---- the plan of a query
-- where it starts, what is ahead is the whole plan
module _ (q : PlanQuery) (n : ℕ) (c : Cursor) (h : begun_of q ≡ Ok (n, c)) where
  from_start_lem : ahead c ≡ plan_for q
  unfolding plan_for types_for
  from_start_lem =
      let s = begun_ready q n c h in
      let some : 1 ≤ q.length = accepted_nonempty q.settings q.address q.length s.range in
      let e : q.address + q.length - 1 + 1 ≡ q.address + q.length = omega arith in
      rw s.start (ap (plan (present (available q.settings q.known q.params)) q.address) e)

  pub count_ahead : n ≡ length (ahead c)
  count_ahead = (begun_ready q n c h).count ∙ sym (ap length from_start_lem)

  pub cursor_unmarked : Kept c
  cursor_unmarked = unmarked c (ap (λ (d : Cursor). d.later) (begun_ready q n c h).start)

  pub plan_written : (l : List ℕ) → n ≤ length l / 16 → records_of (ahead c) ++ drop (16 * n) l ≡ plan_over q l
  unfolding plan_over
  plan_written l e = rw (planned_begun, h, le-leb n (length l / 16) e, from_start_lem, (begun_ready q n c h).count) refl

  -- more entries than slots
  pub plan_short : (l : List ℕ) → length l / 16 < n → (Err (NoRoom n) ≡ planned_of q (length l / 16)) × (l ≡ plan_over q l)
  unfolding plan_over
  plan_short l e = rw (planned_begun, h, lt-leb n (length l / 16) e) (refl, refl)

  -- enough slots
  pub plan_fits : (l : List ℕ) → n ≤ length l / 16 → Ok n ≡ planned_of q (length l / 16)
  plan_fits l e = rw (planned_begun, h, le-leb n (length l / 16) e) refl

-- a refusal
pub plan_refused : (q : PlanQuery) (x : PlanError) (l : List ℕ) → begun_of q ≡ Err x → (Err x ≡ planned_of q (length l / 16)) × (l ≡ plan_over q l)
unfolding plan_over
plan_refused q x l h = rw (planned_begun, h) (refl, refl)
