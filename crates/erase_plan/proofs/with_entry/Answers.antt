-- `erase_plan::with_entry` meets its contract: the entry is the first, or one more.
use Rattle.erase_plan.proofs.Walks.{with_one}
use Rattle.erase_plan.proofs.with_entry.Goals as goal
use Rattle.erase_plan.proofs.with_entry.Goals.{then-s-eq0, else-s-eq0}

pub returns : goal.returns
returns c es h =
    with_one _ es _ _ h
    (λ z. elim c.if-s-eq0.branch [ then-s-eq0 w ↦ w.result-is | else-s-eq0 w ↦ absurd (w.if-s-eq0.false z) ])
    (λ z. elim c.if-s-eq0.branch [ then-s-eq0 w ↦ absurd (z w.if-s-eq0.true) | else-s-eq0 w ↦ w.result-is ])
