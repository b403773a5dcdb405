-- `erase_plan::is_power` meets its contract: no size, or the test of one.
use Rattle.std.proofs.Common.{eq-eqb, ne_eqb}
use Rattle.erase_plan.specs.Marks.{is_power}
use Rattle.erase_plan.proofs.is_power.Goals as goal

pub returns-then-t-eq0 : goal.returns-then-t-eq0
unfolding is_power
returns-then-t-eq0 c = rw (eq-eqb _ _ c.if-t-eq0.true)

pub returns-else-t-eq0 : goal.returns-else-t-eq0
unfolding is_power
returns-else-t-eq0 c = rw (c.is_power_of_two.ensures, ne_eqb _ _ c.if-t-eq0.false)
