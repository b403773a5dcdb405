use Rattle.std.proofs.Common.{ℕ, ◌≡◌, ◌+◌, ◌%◌, ◌<◌, length, get_or}
use Rattle.nor_part.specs.Responds.{mem_of}
use Rattle.nor_part.proofs.bytes.read.Given as goal

abbrev pub invariant-loop-byte : goal.invariant-loop-byte
invariant-loop-byte l =
    (l.cell ≡ (l.at + l.byte-index) % length l.memory)
    × (l.cell < length l.memory)
    × ((k : ℕ) → k < l.byte-index → get_or l.reply k 0 ≡ mem_of l.memory ((l.at + k) % length l.memory))
