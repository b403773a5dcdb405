-- `erase_plan::check_span` meets its contract: each return cites the law of its case.
use Rattle.std.proofs.Common.{refl, arith}
use Rattle.erase_plan.proofs.Spans.{starts_below, lies_inside, ends_past}
use Rattle.erase_plan.proofs.check_span.Goals as goal
use Rattle.erase_plan.proofs.check_span.Goals.{else-from-end-via-then-from-end+else-length-end, else-from-end-via-else-from-end}

pub returns-then-first-address : goal.returns-then-first-address
returns-then-first-address c = starts_below _ _ _ _ c.if-first-address.true

pub returns-then-length-end : goal.returns-then-length-end
returns-then-length-end c = ends_past _ _ _ _ _ c.if-first-address.false c.if-from-end.true c.if-length-end.true refl

pub returns : goal.returns
returns c =
    lies_inside _ _ _ _ c.if-first-address.false
    (elim c.else-from-end.branch [ else-from-end-via-then-from-end+else-length-end w ↦ omega arith | else-from-end-via-else-from-end w ↦ omega arith ])
