-- What C reads from the records of a plan is the plan.
use Rattle.std.proofs.Common.{Result, Ok, Err, is_some}
use mathlib.Core.Path.{◌≡◌, refl, sym, ap, ◌∙◌, subst}
use mathlib.Core.Bool.{Bool, true, false, cond}
use mathlib.Core.List.{List, [], ◌∷◌, ◌++◌, append_assoc}
use Prim.Native.Nat.{ℕ, ◌+◌, ◌*◌, ◌/◌, ◌%◌, ◌≤◌, ◌<◌, ◌^◌}
use native.Mathlib.Omega.{arith}
use native.Mathlib.Nat.{mod-eq_of_lt, div-mul-le_self}
use lib.Dec.{eqb}
use lib.ListN.{length, take, drop}
use borrow.Author.Tests.{eq-eqb}
use Rattle.settings.specs.Ranges.{accepted_range, check_address_length}
use Rattle.settings.proofs.Laws.{accepted_32}
use Rattle.erase_plan.specs.declared.EraseEntry.{EraseEntry}
use Rattle.erase_plan.specs.Good.{Each}
use Rattle.erase_plan.specs.Plan.{block_base, chosen, entry_at}
use Rattle.erase_plan.proofs.Planned.{plan_each}
use Rattle.plans.specs.declared.PlanQuery.{PlanQuery}
use Rattle.plans.specs.declared.PlanError.{PlanError}
use Rattle.plans.specs.declared.PlanError.TheVariants.{InvalidAddress, NoEraseInstruction, NoRoom}
use Rattle.plans.specs.Planned.{types_for, plan_for, planned_of}
use Rattle.flash.specs.declared.Session.{Session}
use Rattle.flash.specs.Waits.{types_of}
use Rattle.flash.specs.Starts.{fresh}
use Rattle.packed.specs.Numbers.{bytes}
use Rattle.rule.specs.Kept.{Whole}
use Rattle.moss_flash.specs.declared.Refusal.{Refusal}
use Rattle.moss_flash.specs.Records.{low_first}
use Rattle.moss_flash.specs.Calls.{Called, opened_of}
use Rattle.moss_flash.specs.Plans.{query_of, entry_bytes, records_of, fitted, plan_head, plan_over, plan_called}
use Rattle.driver.specs.Driver.{Turn, Typed, first, reached}
use Rattle.driver.specs.Demand3.{after}
use Rattle.exported.specs.Exports.{number_at, exports}
use Rattle.exported.specs.Plan.{entry_in, entries_in, PlanRead, PlanShown}
use Rattle.exported.proofs.Decoding.{low_four}
use Rattle.exported.proofs.Widths.{Narrow, types_narrow, chosen_narrow}
use Rattle.exported.proofs.Exports.{opened, reaches, new_packs}

-- ---- an entry with numbers of their widths
record Fits (e : EraseEntry) : Type 0 where
  opcode : e.opcode < 256
  timed : e.timed < 256
  size : e.size < 2 ^ 32
  base : e.base < 2 ^ 32
  time : e.time < 2 ^ 32

four : (x : ℕ) → x < 2 ^ 32 → x % 256 + 256 * (x / 256 % 256 + 256 * (x / 256 / 256 % 256 + 256 * (x / 256 / 256 / 256 % 256 + 256 * 0))) ≡ x
four x h = low_four x ∙ mod-eq_of_lt h

one : (x : ℕ) → x + 256 * 0 ≡ x
one x = omega arith

entry_read : (e : EraseEntry) → Fits e → (l : List ℕ) → entry_in (entry_bytes e ++ l) ≡ e
unfolding entry_bytes bytes low_first
entry_read e f l = same (one e.opcode) (one e.timed) (four e.size f.size) (four e.base f.base) (four e.time f.time)
  where
    same : {o o' m m' z z' b b' t t' : ℕ} → o ≡ o' → m ≡ m' → z ≡ z' → b ≡ b' → t ≡ t'
        → ◌≡◌ {A = EraseEntry} (record { opcode = o; timed = m; size = z; base = b; time = t }) (record { opcode = o'; timed = m'; size = z'; base = b'; time = t' })
    same e1 e2 e3 e4 e5 = cc

rest_read : (e : EraseEntry) (l : List ℕ) → drop 16 (entry_bytes e ++ l) ≡ l
unfolding entry_bytes bytes
rest_read e l = refl

plan_read : (es : List EraseEntry) → Each Fits es → (l : List ℕ) → entries_in (length es) (records_of es ++ l) ≡ es
unfolding records_of
plan_read [] h l = refl
plan_read (e ∷ es) h l =
    let same : (entry_bytes e ++ records_of es) ++ l ≡ entry_bytes e ++ (records_of es ++ l) = append_assoc (entry_bytes e) (records_of es) l in
    ap (λ (m : List ℕ). entry_in m ∷ entries_in (length es) (drop 16 m)) same
    ∙ ap (λ (x : EraseEntry). x ∷ entries_in (length es) (drop 16 (entry_bytes e ++ (records_of es ++ l)))) (entry_read e h.0 (records_of es ++ l))
    ∙ ap (λ (m : List ℕ). e ∷ entries_in (length es) m) (rest_read e (records_of es ++ l))
    ∙ ap (λ (xs : List EraseEntry). e ∷ xs) (plan_read es h.1 l)

-- ---- the entries of a plan
entry_fits : (s : Session) → Whole s → (pos end : ℕ) → pos < 2 ^ 32 → Fits (entry_at (types_of s) pos end)
unfolding entry_at block_base
entry_fits s w pos end h =
    let c : Narrow (chosen (types_of s) pos end) = chosen_narrow (types_of s) pos end (types_narrow s w) in
    let below : pos / (chosen (types_of s) pos end).size * (chosen (types_of s) pos end).size ≤ pos = div-mul-le_self pos (chosen (types_of s) pos end).size in
    record { opcode = c.opcode; timed = mark (chosen (types_of s) pos end).timed; size = c.size; base = omega (arith, below, h); time = c.time }
  where
    mark : (b : Bool) → cond b 1 0 < 256
    mark true = omega arith
    mark false = omega arith

plan_fits : (s : Session) → Whole s → (a n : ℕ) → a + n ≤ 2 ^ 32 → Each Fits (plan_for (query_of s a n))
unfolding plan_for types_for
plan_fits s w a n h = plan_each Fits (types_of s) a (a + n) (λ q l m. entry_fits s w q (a + n) (omega (arith, m, h)))

-- only an accepted range has a plan
refused : (q : PlanQuery) (k : ℕ) → accepted_range q.settings q.address q.length ≡ false → plan_head (planned_of q k) ≡ 5
unfolding planned_of check_address_length
refused q k e = rw e

accepted : (q : PlanQuery) (k : ℕ) → plan_head (planned_of q k) ≡ 0 → accepted_range q.settings q.address q.length ≡ true
accepted q k h = by (accepted_range q.settings q.address q.length) refl
  where
    by : (b : Bool) → accepted_range q.settings q.address q.length ≡ b → accepted_range q.settings q.address q.length ≡ true
    by true e = e
    by false e = let z : ◌≡◌ {A = ℕ} 5 0 = sym (refused q k e) ∙ h in absurd (omega (arith, z))

over_plan : (q : PlanQuery) (l : List ℕ) → plan_head (planned_of q (length l / 16)) ≡ 0 → plan_over q l ≡ records_of (plan_for q) ++ drop (16 * length (plan_for q)) l
unfolding plan_over
over_plan q l = by (planned_of q (length l / 16))
  where
    by : (r : Result ℕ PlanError) → plan_head r ≡ 0 → fitted r (records_of (plan_for q) ++ drop (16 * length (plan_for q)) l) l ≡ records_of (plan_for q) ++ drop (16 * length (plan_for q)) l
    by (Ok n) h = refl
    by (Err (InvalidAddress report)) h = absurd (omega arith)
    by (Err NoEraseInstruction) h = absurd (omega arith)
    by (Err (NoRoom n)) h = absurd (omega arith)

pub plan_shown : PlanShown
plan_shown e long ts h a n slots =
    let s : Session = after ts in
    let g = reaches e long ts h (exports e).fresh fresh [] (new_packs e long) in
    subst (λ (o : Result Session Refusal). PlanRead ts a n slots (plan_called o a n slots e)) (sym (ap (λ (b : List ℕ). opened_of b (length e)) g.0 ∙ opened s g.1 e long))
    (record {
      number = refl;
      entries = λ z. ap (entries_in (length (plan_for (query_of s a n)))) (over_plan (query_of s a n) slots z)
          ∙ plan_read (plan_for (query_of s a n)) (plan_fits s g.1 a n (accepted_32 s.settings a n (accepted (query_of s a n) (length slots / 16) z))) (drop (16 * length (plan_for (query_of s a n))) slots);
    })
