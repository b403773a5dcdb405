-- `erase_plan::time_rank` meets its contract.
use Rattle.erase_plan.specs.Types.{time_rank}
use Rattle.std.proofs.Common.{rules}
use Rattle.erase_plan.proofs.time_rank.Goals as goal

pub returns-then-t : goal.returns-then-t
unfolding time_rank
returns-then-t c = rw c.if-t.true

pub returns-else-t : goal.returns-else-t
unfolding time_rank
returns-else-t c = search rules
