-- The walk has passed some entries of the plan. What is left of the addresses falls.
use Rattle.std.proofs.Common.{◌+◌, ◌-◌}
use Rattle.erase_plan.specs.Types.{present}
use Rattle.erase_plan.proofs.Walks.{Passed}
use Rattle.erase_plan.proofs.survey.Given as goal

abbrev pub invariant-loop-next : goal.invariant-loop-next
invariant-loop-next l = Passed (present l.ts) l.at (l.last + 1) l.place l.later l.seen

abbrev pub decreases-loop-next : goal.decreases-loop-next
decreases-loop-next l = 4294967296 - l.place
