use Rattle.std.proofs.Common.{◌≡◌, ◌+◌, length}
use Rattle.plans.specs.Cursors.{ahead_of}
use Rattle.plans.proofs.Filled.{KeptOf}
use Rattle.moss_flash.proofs.Filling.{filled}
use Rattle.moss_flash.proofs.plan_c.write_entries.Given as goal

abbrev pub invariant-loop-k : goal.invariant-loop-k
invariant-loop-k l =
    (filled l.k l.n l.place l.out ≡ filled 0 l.n l.initial.place l.initial.out) × KeptOf l.place × (l.k + length (ahead_of l.place) ≡ l.n)
