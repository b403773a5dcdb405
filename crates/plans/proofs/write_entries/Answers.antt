-- `plans::write_entries` meets its contract: each turn is a step, and while a slot is left there is one.
use Rattle.std.proofs.Common.{refl, arith}
use Rattle.plans.proofs.Filled.{fill_more, fill_none, fill_all}
use Rattle.plans.proofs.write_entries.Goals as goal
use Rattle.plans.proofs.write_entries.Goals.{in-Some, in_default}

pub loop-slot-init : goal.loop-slot-init
loop-slot-init c = record { long = c.requires.as_many; same = refl; kept = c.requires.marked }

pub loop-slot-preserved : goal.loop-slot-preserved
loop-slot-preserved c =
    elim c.match-and_then.branch [
      | in-Some w ↦ rw (w.slots-is, w.place-is) (fill_more _ _ _ _ c.loop-slot.invariant _ c.and_then.ensures (omega arith) _ w.in-Some.is)
      | in_default w ↦ fill_none _ _ _ _ c.loop-slot.invariant _ c.and_then.ensures (omega arith) w.in_default.is
    ]

pub returns : goal.returns
returns c = fill_all _ _ _ _ c.loop-slot.invariant (omega arith)
