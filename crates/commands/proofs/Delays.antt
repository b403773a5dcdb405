-- A worked run with parameters, written out from docs/SCOPE.md: read_params, then a program with delays, polled by flag status.
use Rattle.std.proofs.Common.{Some}
use mathlib.Core.Path.{◌≡◌, refl}
use mathlib.Core.Bool.{true, false}
use mathlib.Core.List.{List, [], ◌∷◌, ◌++◌}
use mathlib.Core.Option.{Option, some, none}
use Prim.Native.Nat.{ℕ}
use lib.ListN.{replicate}
use Rattle.dwords.specs.Dwords.{byte_at, le32}
use Rattle.sfdp.specs.declared.FlashParams.{FlashParams}
use Rattle.sfdp.specs.Times.{erase_time, page_time}
use Rattle.sfdp.specs.Jesd216.{signed, parameter_header, basic, read_header, address_bytes, density, erase_type, erase_types, timing, extended, fields, params, size_fits, sizes_fit, density_fits, accepted, read_table}
use Rattle.sfdp.specs.Chosen.{below, lesser, smallest, sector_erase}
use Rattle.settings.specs.declared.Settings.{Settings}
use Rattle.settings.specs.Limits.{defaults, page_of}
use Rattle.settings.specs.Ranges.{accepted_range}
use Rattle.settings.specs.Updated.{legacy_erase, chosen_erase, updated}
use Rattle.erase_plan.specs.Types.{kept, present, time_rank, in_order, insert, sort, slots, sorted_of}
use Rattle.erase_plan.specs.Plan.{block_base, block_end, cover, beats, chosen_from, chosen, entry_at, next_pos, plan_in, plan}
use Rattle.erase_plan.specs.Span.{span_start, span_end}
use Rattle.plans.specs.Available.{of_params, all_zero, available}
use Rattle.commands.specs.declared.Answer.{Answer}
use Rattle.commands.specs.declared.Answer.TheVariants.{Done}
use Rattle.commands.specs.Script.{Sent, Cmd, after, ◌>>◌, roomed, over, each}
use Rattle.commands.specs.Host.{Reply, got, Outcome, full, tally, tree, play}
use Rattle.commands.specs.Transactions.{page_delay, by_flag, ready, polls, to_page_end, parts_in, parts}
use Rattle.commands.specs.Commands.{read_params, blank, mismatch, written, program, program_data}
use Rattle.commands.specs.Wire.{high_first, wire}

-- ---- the part: one header, its table of 16 dwords at 10, minor 6
abbrev pub first : List ℕ
first = 0x53 ∷ 0x46 ∷ 0x44 ∷ 0x50 ∷ 0x06 ∷ 0x01 ∷ 0x00 ∷ 0xFF ∷ []

abbrev pub second : List ℕ
second = first ++ 0x00 ∷ 0x06 ∷ 0x01 ∷ 0x10 ∷ 0x10 ∷ 0x00 ∷ 0x00 ∷ 0xFF ∷ []

-- dword 1: 3 address bytes. Dword 2: 8,192 bits, 1,024 bytes. Dword 8: 2^4 bytes by 20, 2^5 bytes by 52. Dword 10: (2 + 1) × 16 ms and
-- (4 + 1) × 128 ms. Dword 11: the page time's field, pages of 2^5 bytes. Dword 14: bit 3, flag polling
abbrev pub table : ℕ → List ℕ
table page =
    replicate 4 0x00
    ++ 0xFF ∷ 0x1F ∷ 0x00 ∷ 0x00 ∷ replicate 20 0x00
    ++ 0x04 ∷ 0x20 ∷ 0x05 ∷ 0x52 ∷ replicate 4 0x00
    ++ 0x23 ∷ 0x22 ∷ 0x02 ∷ 0x00
    ∷ 0x51 ∷ page ∷ 0x00 ∷ 0x00
    ∷ replicate 8 0x00
    ++ 0x08 ∷ replicate 11 0x00

-- the parameters read, then a command with a room of 48 bytes
abbrev pub learnt : Cmd Answer → FlashParams → List Reply → List Sent × Option Outcome
learnt c p rs = play (tree 0 ((read_params >> λ w. c (roomed w (replicate 48 0))) (record { settings = defaults; known = false; params = p; room = replicate 2056 0 }))) rs

-- each transaction's bytes, the reply length, and the delay after it
abbrev pub shown : List Sent → List (List ℕ × ℕ × ℕ)
shown [] = []
shown (s ∷ ss) = (wire s, s.reply, s.delay) ∷ shown ss

-- answer, polls, settings and room
abbrev pub ended : Option Outcome → Option (Answer × ℕ × Settings × List ℕ)
ended none = none
ended (some o) = some (o.answer, o.polls, o.kept.settings, o.kept.room)

abbrev pub asked : List (List ℕ × ℕ × ℕ)
asked =
    (0x5A ∷ 0x00 ∷ 0x00 ∷ 0x00 ∷ 0x00 ∷ [], 8, 0)
    ∷ (0x5A ∷ 0x00 ∷ 0x00 ∷ 0x00 ∷ 0x00 ∷ [], 16, 0)
    ∷ (0x5A ∷ 0x00 ∷ 0x00 ∷ 0x10 ∷ 0x00 ∷ [], 64, 0)
    ∷ []

-- what the table sets: page, smallest type and its opcode, capacity
abbrev pub settings : Settings
settings = record {
  address_bytes = 3;
  capacity = Some 1024;
  page_size = 32;
  erase_size = 16;
  erase_opcode = 0x20;
  poll_limit = 65535;
}

-- ---- twenty bytes at 00001E with verify: one block of 16, for the first two of them, and one of 32. The page time is (15 + 1) × 64 µs = 1,024 µs. All
-- is FF but 07 before the data. The first block is busy for one poll; then every poll says ready at once
abbrev pub twenty : List ℕ
twenty = 1 ∷ 2 ∷ 3 ∷ 4 ∷ 5 ∷ 6 ∷ 7 ∷ 8 ∷ 9 ∷ 10 ∷ 11 ∷ 12 ∷ 13 ∷ 14 ∷ 15 ∷ 16 ∷ 17 ∷ 18 ∷ 19 ∷ 20 ∷ []

abbrev pub replies : List Reply
replies =
    got first ∷ got second ∷ got (table 0x2F)
    ∷ got (replicate 14 0x07) ∷ got (replicate 14 0xFF)
    ∷ got [] ∷ got [] ∷ got (0x00 ∷ []) ∷ got (0x80 ∷ [])
    ∷ got [] ∷ got [] ∷ got (0x81 ∷ [])
    ∷ got [] ∷ got [] ∷ got (0x80 ∷ [])
    ∷ got [] ∷ got [] ∷ got (0x80 ∷ [])
    ∷ got (replicate 14 0x07 ++ twenty)
    ∷ []

pub run : (p : FlashParams)
    → (shown (learnt (program 0x1E twenty true) p replies).0
    ≡ asked
    ++ (0x0B ∷ 0x00 ∷ 0x00 ∷ 0x10 ∷ 0x00 ∷ [], 14, 0)
    ∷ (0x0B ∷ 0x00 ∷ 0x00 ∷ 0x32 ∷ 0x00 ∷ [], 14, 0)
    ∷ (0x06 ∷ [], 0, 0)
    ∷ (0x20 ∷ 0x00 ∷ 0x00 ∷ 0x10 ∷ [], 0, 24000)
    ∷ (0x70 ∷ [], 1, 0)
    ∷ (0x70 ∷ [], 1, 0)
    ∷ (0x06 ∷ [], 0, 0)
    ∷ (0x52 ∷ 0x00 ∷ 0x00 ∷ 0x20 ∷ [], 0, 320000)
    ∷ (0x70 ∷ [], 1, 0)
    ∷ (0x06 ∷ [], 0, 0)
    ∷ (0x02 ∷ 0x00 ∷ 0x00 ∷ 0x10 ∷ replicate 14 0x07 ++ 1 ∷ 2 ∷ [], 0, 512)
    ∷ (0x70 ∷ [], 1, 0)
    ∷ (0x06 ∷ [], 0, 0)
    ∷ (0x02 ∷ 0x00 ∷ 0x00 ∷ 0x20 ∷ 3 ∷ 4 ∷ 5 ∷ 6 ∷ 7 ∷ 8 ∷ 9 ∷ 10 ∷ 11 ∷ 12 ∷ 13 ∷ 14 ∷ 15 ∷ 16 ∷ 17 ∷ 18 ∷ 19 ∷ 20 ∷ [], 0, 512)
    ∷ (0x70 ∷ [], 1, 0)
    ∷ (0x0B ∷ 0x00 ∷ 0x00 ∷ 0x10 ∷ 0x00 ∷ [], 34, 0)
    ∷ [])
    × (ended (learnt (program 0x1E twenty true) p replies).1 ≡ some (Done, 5, settings, replicate 14 0x07 ++ twenty ++ replicate 14 0xFF))
unfolding tree play full tally after over each read_params byte_at le32 signed parameter_header basic read_header address_bytes density erase_type erase_types timing extended fields params size_fits sizes_fit density_fits accepted read_table erase_time page_time below lesser smallest sector_erase legacy_erase chosen_erase updated program accepted_range available of_params all_zero time_rank in_order insert sort slots sorted_of present kept plan plan_in next_pos entry_at chosen chosen_from beats cover block_base block_end span_start span_end by_flag ready polls page_delay page_of to_page_end parts_in parts blank written mismatch high_first wire
run p = (refl, refl)

-- ---- program_data of one byte, where the page time is (14 + 1) × 64 µs = 960 µs: no delay. Polled by flag status too
pub run_short : (p : FlashParams)
    → (shown (learnt (program_data 0x1E (9 ∷ [])) p (got first ∷ got second ∷ got (table 0x2E) ∷ got [] ∷ got [] ∷ got (0x80 ∷ []) ∷ [])).0
    ≡ asked ++ (0x06 ∷ [], 0, 0) ∷ (0x02 ∷ 0x00 ∷ 0x00 ∷ 0x1E ∷ 9 ∷ [], 0, 0) ∷ (0x70 ∷ [], 1, 0) ∷ [])
unfolding tree play full tally after over each read_params byte_at le32 signed parameter_header basic read_header address_bytes density erase_type erase_types timing extended fields params size_fits sizes_fit density_fits accepted read_table erase_time page_time below lesser smallest sector_erase legacy_erase chosen_erase updated program_data accepted_range by_flag ready polls page_delay page_of to_page_end parts_in parts high_first wire
run_short p = refl
