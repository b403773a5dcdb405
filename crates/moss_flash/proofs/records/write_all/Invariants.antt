use Rattle.std.proofs.Common.{◌≡◌, ◌*◌, drop}
use Rattle.moss_flash.specs.Asked.{laid_from}
use Rattle.moss_flash.proofs.records.write_all.Given as goal

abbrev pub invariant-loop-i : goal.invariant-loop-i
invariant-loop-i l = laid_from (8 * l.i) (drop l.i l.numbers) l.out ≡ laid_from 0 l.numbers l.initial.out
