-- `erase_plan::is_even` meets its contract: a single type, or powers of two.
use Rattle.erase_plan.specs.Marks.{is_even}
use Rattle.erase_plan.proofs.is_even.Goals as goal

pub returns-then-is_single : goal.returns-then-is_single
unfolding is_even
returns-then-is_single c = rw (← c.is_single.ensures, c.if-is_single.true)

pub returns-else-is_single : goal.returns-else-is_single
unfolding is_even
returns-else-is_single c = rw (← c.is_single.ensures, c.if-is_single.false) c.are_powers.ensures
