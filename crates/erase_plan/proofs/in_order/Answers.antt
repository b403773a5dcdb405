-- `erase_plan::in_order` meets its contract: each return rewrites by the comparisons that led there.
use Rattle.erase_plan.specs.Types.{in_order}
use Rattle.std.proofs.Common.{le-ltb, lt-ltb}
use Rattle.erase_plan.proofs.in_order.Goals as goal

pub returns-then-a-b : goal.returns-then-a-b
unfolding in_order
returns-then-a-b c = rw (lt-ltb _ _ c.if-a-b.true)

pub returns-then-b-a : goal.returns-then-b-a
unfolding in_order
returns-then-b-a c = rw (le-ltb _ _ c.if-a-b.false, lt-ltb _ _ c.if-b-a.true)

pub returns-then-a-b-2 : goal.returns-then-a-b-2
unfolding in_order
returns-then-a-b-2 c = rw (le-ltb _ _ c.if-a-b.false, le-ltb _ _ c.if-b-a.false, lt-ltb _ _ c.if-a-b-2.true)

pub returns-then-b-a-2 : goal.returns-then-b-a-2
unfolding in_order
returns-then-b-a-2 c = rw (le-ltb _ _ c.if-a-b.false, le-ltb _ _ c.if-b-a.false, le-ltb _ _ c.if-a-b-2.false, lt-ltb _ _ c.if-b-a-2.true)

pub returns : goal.returns
unfolding in_order
returns c = rw (c.time_rank-2.ensures, c.time_rank.ensures, le-ltb _ _ c.if-a-b.false, le-ltb _ _ c.if-b-a.false, le-ltb _ _ c.if-a-b-2.false, le-ltb _ _ c.if-b-a-2.false)
