-- The span of a plan holds its range, whatever the types' sizes.
use mathlib.Core.Path.{◌≡◌, refl}
use mathlib.Core.List.{List, [], ◌∷◌}
use mathlib.Core.Logic.{⊎_elim}
use Prim.Native.Nat.{ℕ, zero, suc, ◌-◌, ◌≤◌, ◌<◌}
use native.Mathlib.Omega.{arith}
use lib.ListN.{length}
use Rattle.erase_plan.specs.declared.EraseType.{EraseType}
use Rattle.erase_plan.specs.declared.EraseEntry.{EraseEntry}
use Rattle.erase_plan.specs.Good.{Each, Present}
use Rattle.erase_plan.specs.Plan.{cover, chosen, entry_at, next_pos, plan}
use Rattle.erase_plan.specs.Span.{end_of, span_start, span_end}
use Rattle.erase_plan.proofs.Lists.{lt_or_le}
use Rattle.erase_plan.proofs.Multiples.{end_base}
use Rattle.erase_plan.proofs.Steps.{next_more, plan_more, plan_done}
use Rattle.erase_plan.proofs.Planned.{entry_holds, plan_some}

span_start_lem : (t : EraseType) (ts : List EraseType) → Each Present (t ∷ ts) → (pos end : ℕ) → pos < end → span_start (plan (t ∷ ts) pos end) ≤ pos
unfolding span_start
span_start_lem t ts p pos end h = rw (plan_more t ts p pos end h) (entry_holds t ts p pos end).0

end_later : (e : EraseEntry) (es : List EraseEntry) → 0 < length es → span_end (e ∷ es) ≡ span_end es
unfolding span_end
end_later e [] h = absurd (omega arith)
end_later e (f ∷ es) h = refl

end_one : (e : EraseEntry) → span_end (e ∷ []) ≡ end_of e
unfolding span_end
end_one e = refl

-- an entry that leaves nothing of the range reaches its end
entry_end : (ts : List EraseType) (pos end : ℕ) → pos < end → end ≤ next_pos ts pos end → end ≤ end_of (entry_at ts pos end)
unfolding next_pos cover entry_at
entry_end ts pos end h k = omega (arith, end_base (chosen ts pos end).size pos)

span_end_lem : (f : ℕ) (t : EraseType) (ts : List EraseType) → Each Present (t ∷ ts) → (pos end : ℕ) → pos < end → end - pos ≤ f → end ≤ span_end (plan (t ∷ ts) pos end)
span_end_lem zero t ts p pos end h k = absurd (omega arith)
span_end_lem (suc f) t ts p pos end h k =
    let e = entry_at (t ∷ ts) pos end in
    let q = next_pos (t ∷ ts) pos end in
    ⊎_elim
    (λ (l : q < end). rw (plan_more t ts p pos end h, end_later e (plan (t ∷ ts) q end) (plan_some (t ∷ ts) p q end l (omega arith)))
    (span_end_lem f t ts p q end l (omega (arith, next_more t ts p pos end h))))
    (λ (l : end ≤ q). rw (plan_more t ts p pos end h, plan_done (t ∷ ts) q end l, end_one e) (entry_end (t ∷ ts) pos end h l))
    (lt_or_le q end)

pub record Holds (ts : List EraseType) (pos end : ℕ) : Type 0 where
  pub starts : span_start (plan ts pos end) ≤ pos
  pub reaches : end ≤ span_end (plan ts pos end)

pub span_holds : (ts : List EraseType) → Each Present ts → (pos end : ℕ) → pos < end → 0 < length ts → Holds ts pos end
span_holds [] p pos end h n = absurd (omega arith)
span_holds (t ∷ ts) p pos end h n = record { starts = span_start_lem t ts p pos end h; reaches = span_end_lem (end - pos) t ts p pos end h (omega arith) }
