-- So far: the entry of the types of the slots passed.
use Rattle.std.proofs.Common.{◌≡◌, ◌+◌, true, not, eqb, take, flat_map}
use Rattle.erase_plan.specs.Types.{kept}
use Rattle.erase_plan.specs.Plan.{next_of}
use Rattle.erase_plan.specs.Later.{OnAll}
use Rattle.erase_plan.proofs.best.Given as goal

abbrev pub invariant-loop-t : goal.invariant-loop-t
invariant-loop-t g l =
    (not (eqb g.row.LATER 0) ≡ true → OnAll l.at (flat_map kept l.t-items))
    → l.best ≡ next_of (flat_map kept (take l.t-index l.t-items)) l.at (l.last + 1)
