use Rattle.std.proofs.Common.{◌≡◌, ◌*◌, ◌++◌, take, drop}
use Rattle.sfdp_write.specs.Table.{bytes_of}
use Rattle.sfdp_write.proofs.store.Given as goal

abbrev pub invariant-loop-i : goal.invariant-loop-i
invariant-loop-i l = l.out ≡ bytes_of (take l.i l.w) ++ drop (4 * l.i) l.initial.out
