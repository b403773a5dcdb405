-- So far the slots hold the first entries, and the others are ahead.
use Rattle.plans.specs.Cursors.{ahead}
use Rattle.plans.proofs.Filled.{Filling}
use Rattle.plans.proofs.write_entries.Given as goal

abbrev pub invariant-loop-slot : goal.invariant-loop-slot
invariant-loop-slot l = Filling (ahead l.fn.start) l.slot-index l.place l.slots
