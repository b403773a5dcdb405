use Rattle.std.proofs.Common.{◌≡◌, ◌*◌, ◌++◌, take, drop}
use Rattle.packed.specs.Numbers.{bytes}
use Rattle.packed.proofs.store.Given as goal

abbrev pub invariant-loop-i : goal.invariant-loop-i
invariant-loop-i l = l.out ≡ bytes (take l.i l.w) ++ drop (4 * l.i) l.initial.out
