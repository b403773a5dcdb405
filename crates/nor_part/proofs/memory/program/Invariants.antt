use Rattle.std.proofs.Common.{◌≡◌, ◌+◌, ◌*◌, ◌/◌, ◌<◌, length, drop}
use Rattle.nor_part.specs.Responds.{mem_of}
use Rattle.nor_model.specs.Device.{Part, programmed}
use Rattle.nor_part.proofs.memory.program.Given as goal

abbrev pub invariant-loop-byte : goal.invariant-loop-byte
invariant-loop-byte l =
    (l.place < l.a / l.page * l.page + l.page)
    × ((p : Part) → p.capacity ≡ length l.initial.memory → p.page ≡ l.page → programmed p l.place (drop l.byte-index l.data) (mem_of l.memory) ≡ programmed p l.a l.data (mem_of l.initial.memory))
