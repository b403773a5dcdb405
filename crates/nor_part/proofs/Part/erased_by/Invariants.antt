use Rattle.std.proofs.Common.{◌≡◌, drop}
use Rattle.nor_part.specs.Responds.{first_size}
use Rattle.nor_part.proofs.Part.erased_by.Given as goal

abbrev pub invariant-loop-entry : goal.invariant-loop-entry
invariant-loop-entry l = first_size (drop l.entry-index l.fn.self.erases) l.op ≡ first_size l.fn.self.erases l.op
