use Rattle.std.proofs.Common.{◌≡◌, ◌-◌}
use Rattle.commands.specs.Commands.{first_id}
use Rattle.phases.proofs.reads.first_id.Given as goal

abbrev pub invariant-loop-at : goal.invariant-loop-at
invariant-loop-at l = first_id (14 - l.at) l.at l.reply ≡ first_id 13 1 l.reply
