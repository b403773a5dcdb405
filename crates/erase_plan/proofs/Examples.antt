-- Worked examples, computed by the definitions.
use Rattle.std.proofs.Common.{◌≡◌, ℕ, ◌+◌, Err, false, List, [], ◌∷◌, refl}
use Rattle.erase_plan.specs.declared.EraseType.{EraseType}
use Rattle.erase_plan.specs.declared.EraseEntry.{EraseEntry}
use Rattle.erase_plan.specs.Plan.{block_base, block_end, cover, beats, chosen_from, chosen, entry_from, entry_at, next_pos, plan_in, plan}
use Rattle.erase_plan.specs.Span.{span_start, span_end, span_check, sectors_check}

-- a type and an entry of no known time
abbrev pub untimed : ℕ → ℕ → EraseType
untimed size opcode = record { size = size; opcode = opcode; timed = false; time = 0 }

abbrev pub erase : ℕ → ℕ → ℕ → EraseEntry
erase opcode size base = entry_from (untimed size opcode) base

-- the types of `test_erase_plan`, and the plan of a length at a start
abbrev pub small : List EraseType
small = untimed 4 1 ∷ untimed 32 2 ∷ untimed 64 3 ∷ []

abbrev pub planned : ℕ → ℕ → List EraseEntry
planned start len = plan small start (start + len)

-- an aligned block of the smallest size
pub one_small : planned 0 4 ≡ erase 1 4 0 ∷ []
unfolding plan plan_in next_pos entry_at chosen chosen_from beats cover block_base block_end
one_small = refl

-- an aligned block of the largest size
pub one_large : planned 0 64 ≡ erase 3 64 0 ∷ []
unfolding plan plan_in next_pos entry_at chosen chosen_from beats cover block_base block_end
one_large = refl

-- three of the largest size
pub three_large : planned 0 192 ≡ erase 3 64 0 ∷ erase 3 64 64 ∷ erase 3 64 128 ∷ []
unfolding plan plan_in next_pos entry_at chosen chosen_from beats cover block_base block_end
three_large = refl

-- the last block of the middle size
pub large_middle : planned 0 70 ≡ erase 3 64 0 ∷ erase 2 32 64 ∷ []
unfolding plan plan_in next_pos entry_at chosen chosen_from beats cover block_base block_end
large_middle = refl

-- the last block of the smallest size
pub large_small : planned 0 66 ≡ erase 3 64 0 ∷ erase 1 4 64 ∷ []
unfolding plan plan_in next_pos entry_at chosen chosen_from beats cover block_base block_end
large_small = refl

-- from an unaligned start
pub small_large : planned 62 64 ≡ erase 1 4 60 ∷ erase 3 64 64 ∷ []
unfolding plan plan_in next_pos entry_at chosen chosen_from beats cover block_base block_end
small_large = refl

-- from an unaligned start past a largest block
pub small_large_small : planned 62 68 ≡ erase 1 4 60 ∷ erase 3 64 64 ∷ erase 1 4 128 ∷ []
unfolding plan plan_in next_pos entry_at chosen chosen_from beats cover block_base block_end
small_large_small = refl

-- `erase_sectors` refuses 61,440 bytes at 4,096: the span starts at 0
abbrev pub sectors : List EraseType
sectors = untimed 4096 0x20 ∷ untimed 32768 0x52 ∷ untimed 65536 0xD8 ∷ []

pub refused_below : sectors_check sectors 4096 61440 ≡ Err 4096
unfolding sectors_check span_check span_start span_end plan plan_in next_pos entry_at chosen chosen_from beats cover block_base block_end
refused_below = refl
