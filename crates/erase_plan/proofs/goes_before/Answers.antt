-- `erase_plan::goes_before` meets its contract.
use Rattle.erase_plan.specs.Types.{in_order}
use Rattle.std.proofs.Common.{eq-eqb, ne_eqb}
use Rattle.erase_plan.proofs.goes_before.Goals as goal

pub returns-then-u-eq0 : goal.returns-then-u-eq0
unfolding in_order
returns-then-u-eq0 c = rw (eq-eqb _ _ c.if-u-eq0.true)

pub returns : goal.returns
unfolding in_order
returns c = rw (c.in_order.ensures, ne_eqb _ _ c.if-u-eq0.false)
