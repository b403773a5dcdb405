use Rattle.std.proofs.Common.{length, ◌-◌}
use Rattle.compare_dumps.proofs.Comparing.list.Given as goal

abbrev pub decreases-loop-run : goal.decreases-loop-run
decreases-loop-run g l = length l.a - l.at
