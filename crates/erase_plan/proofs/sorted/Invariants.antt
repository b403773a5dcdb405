-- So far: the slots of the types put in, sorted.
use Rattle.std.proofs.Common.{◌≡◌, take, flat_map}
use Rattle.std.specs.Prelude.{reverse}
use Rattle.erase_plan.specs.Types.{kept, slots, sort}
use Rattle.erase_plan.proofs.sorted.Given as goal

abbrev pub invariant-loop-t : goal.invariant-loop-t
invariant-loop-t l = l.ts ≡ slots (sort (flat_map kept (reverse (take l.t-index l.t-items))))
