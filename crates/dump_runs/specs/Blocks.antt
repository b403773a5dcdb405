-- The 4,096-byte blocks of a dump, and which of them a run meets.
use Rattle.std.specs.Prelude.{ℕ, ◌+◌, ◌-◌, ◌/◌, ◌≤◌, ◌<◌, ◌≡◌, cond, eqb}
use Rattle.dump_runs.specs.declared.Run.{Run}
use Rattle.dump_runs.specs.declared.Blocks.{Blocks}
use Rattle.dump_runs.specs.Dumps.{Within}

-- a run meets a block: a byte of the run lies in it
pub record Meets (r : Run) (k : ℕ) : Type 0 where
  pub byte : ℕ
  pub within : Within r byte
  pub there : byte / 4096 ≡ k

-- a block is among so many from the first on
pub record Among (b : Blocks) (k : ℕ) : Type 0 where
  pub low : b.first ≤ k
  pub high : k < b.first + b.count

-- from the block of the run's first byte to that of its last; none if the run has no byte
abbrev pub blocks_of : Run → Blocks
blocks_of r = record { first = r.start / 4096; count = cond (eqb r.len 0) 0 ((r.start + (r.len - 1)) / 4096 - r.start / 4096 + 1) }

-- the blocks are those that the run meets
abbrev pub BlocksRight : Type 0
BlocksRight = (r : Run) (k : ℕ) → (Meets r k → Among (blocks_of r) k) × (Among (blocks_of r) k → Meets r k)
