-- A worked run of each further command, computed by the definitions: what is sent, the answer, the polls, the room.
use mathlib.Core.Path.{◌≡◌, refl}
use mathlib.Core.Bool.{true, false}
use mathlib.Core.List.{[], ◌∷◌, ◌++◌}
use lib.ListN.{replicate}
use Rattle.dwords.specs.Dwords.{byte_at}
use Rattle.sfdp.specs.declared.FlashParams.{FlashParams}
use Rattle.sfdp.specs.Jesd216.{signed, read_header}
use Rattle.settings.specs.Limits.{page_of}
use Rattle.settings.specs.Ranges.{accepted_range, last_address}
use Rattle.erase_plan.specs.Types.{kept, present}
use Rattle.erase_plan.specs.Plan.{block_base, block_end, cover, beats, chosen_from, chosen, entry_at, next_pos, plan_in, plan}
use Rattle.erase_plan.specs.Span.{span_start, span_end, span_check}
use Rattle.plans.specs.Available.{of_settings, available}
use Rattle.commands.specs.declared.Answer.TheVariants.{Done, DoneBool, DoneId, InvalidManufacturer, NoResetInstruction, NoRoom, NoSFDP}
use Rattle.commands.specs.Script.{Kept, after, roomed, over, each}
use Rattle.commands.specs.Host.{got, full, tally, tree, play, polls_in}
use Rattle.commands.specs.Transactions.{plain, at, fast_read, read_data, read_sfdp, page_delay, by_flag, ready, polls, to_page_end, parts_in, parts}
use Rattle.commands.specs.Commands.{bad_range, read, legacy_read, read_params, erase, erase_sectors, program_data, reset, read_jedec_id, first_id, is_busy, is_protected}
use Rattle.commands.proofs.Examples.{settings, started, poll1, part, Ran, outcome}

-- the settings of docs/SCOPE.md's list, with a room of four bytes
abbrev pub four : FlashParams → Kept
four p = roomed (started p) (0 ∷ 0 ∷ 0 ∷ 0 ∷ [])

-- ---- two bytes read at 000010, by 0B and by 03; the rest of the room stays
pub run_read : (p : FlashParams) → Ran (read 0x10 2 (four p)) (got (7 ∷ 8 ∷ []) ∷ []) (fast_read settings 0x10 2 ∷ []) (outcome (four p) Done 0 (7 ∷ 8 ∷ 0 ∷ 0 ∷ []))
unfolding tree play full tally polls_in after over accepted_range read
run_read p = (refl, refl, refl)

pub run_legacy : (p : FlashParams) → Ran (legacy_read 0x10 2 (four p)) (got (7 ∷ 8 ∷ []) ∷ []) (read_data settings 0x10 2 ∷ []) (outcome (four p) Done 0 (7 ∷ 8 ∷ 0 ∷ 0 ∷ []))
unfolding tree play full tally polls_in after over accepted_range legacy_read
run_legacy p = (refl, refl, refl)

-- five bytes do not fit the room: 11; at the last address they pass the capacity: 5, and that comes first
pub run_read_room : (p : FlashParams) → Ran (read 0x10 5 (four p)) [] [] (outcome (four p) (NoRoom 5) 0 (0 ∷ 0 ∷ 0 ∷ 0 ∷ []))
unfolding tree play full tally polls_in after over accepted_range read
run_read_room p = (refl, refl, refl)

pub run_read_range : (p : FlashParams) → Ran (read 0x3FF 5 (four p)) [] [] (outcome (four p) (bad_range 0x403) 0 (0 ∷ 0 ∷ 0 ∷ 0 ∷ []))
unfolding tree play full tally polls_in after over accepted_range last_address read
run_read_range p = (refl, refl, refl)

pub run_legacy_range : (p : FlashParams) → Ran (legacy_read 0x3FF 5 (four p)) [] [] (outcome (four p) (bad_range 0x403) 0 (0 ∷ 0 ∷ 0 ∷ 0 ∷ []))
unfolding tree play full tally polls_in after over accepted_range last_address legacy_read
run_legacy_range p = (refl, refl, refl)

-- ---- read_params: room for 2,055 bytes is 11
pub run_params_room : (p : FlashParams) → Ran (read_params (four p)) [] [] (outcome (four p) (NoRoom 2056) 0 (0 ∷ 0 ∷ 0 ∷ 0 ∷ []))
unfolding tree play full tally polls_in after over read_params
run_params_room p = (refl, refl, refl)

-- eight bytes at 0; the count of headers is byte 6 plus 1; then all the headers. Not signed: 12. Both replies are in the room
pub run_params : (p : FlashParams)
    → Ran (read_params (roomed (started p) (replicate 2056 0)))
    (got (1 ∷ 2 ∷ 3 ∷ 4 ∷ 5 ∷ 6 ∷ 1 ∷ 8 ∷ []) ∷ got (9 ∷ replicate 23 0xFF) ∷ [])
    (read_sfdp 0 8 ∷ read_sfdp 0 24 ∷ [])
    (outcome (started p) NoSFDP 0 (9 ∷ replicate 23 0xFF ++ replicate 2032 0))
unfolding tree play full tally polls_in after over byte_at signed read_header read_params
run_params p = (refl, refl, refl)

-- ---- chip erase: 06, C7, polls
pub run_erase : (p : FlashParams)
    → Ran (erase (four p)) (got [] ∷ got [] ∷ got (1 ∷ []) ∷ got (0 ∷ []) ∷ []) (plain 0x06 0 ∷ plain 0xC7 0 ∷ poll1 ∷ poll1 ∷ [])
    (outcome (four p) Done 2 (0 ∷ 0 ∷ 0 ∷ 0 ∷ []))
unfolding tree play full tally polls_in after by_flag ready polls byte_at erase
run_erase p = (refl, refl, refl)

-- ---- erase_sectors: 512 bytes at 000100 are two blocks of 256
pub run_sectors : (p : FlashParams)
    → Ran (erase_sectors 0x100 0x200 (four p)) (got [] ∷ got [] ∷ got (0 ∷ []) ∷ got [] ∷ got [] ∷ got (0 ∷ []) ∷ [])
    (plain 0x06 0 ∷ at 0x20 3 0x100 false 0 ∷ poll1 ∷ plain 0x06 0 ∷ at 0x20 3 0x200 false 0 ∷ poll1 ∷ [])
    (outcome (four p) Done 2 (0 ∷ 0 ∷ 0 ∷ 0 ∷ []))
unfolding tree play full tally polls_in after each erase_sectors accepted_range available of_settings present kept plan plan_in next_pos entry_at chosen chosen_from beats cover block_base block_end span_start span_end span_check by_flag ready polls byte_at
run_sectors p = (refl, refl, refl)

-- a block that starts below the range: 5, reports the address
pub run_sectors_span : (p : FlashParams) → Ran (erase_sectors 0x180 0x80 (four p)) [] [] (outcome (four p) (bad_range 0x180) 0 (0 ∷ 0 ∷ 0 ∷ 0 ∷ []))
unfolding tree play full tally polls_in after each erase_sectors accepted_range available of_settings present kept plan plan_in next_pos entry_at chosen chosen_from beats cover block_base block_end span_start span_end span_check by_flag ready polls byte_at
run_sectors_span p = (refl, refl, refl)

-- ---- program_data: three bytes at 0000FE are two parts; without data it is Done at any address
pub run_data : (p : FlashParams)
    → Ran (program_data 0xFE (1 ∷ 2 ∷ 3 ∷ []) (four p)) (got [] ∷ got [] ∷ got (0 ∷ []) ∷ got [] ∷ got [] ∷ got (0 ∷ []) ∷ [])
    (plain 0x06 0 ∷ part 0xFE (1 ∷ 2 ∷ []) ∷ poll1 ∷ plain 0x06 0 ∷ part 0x100 (3 ∷ []) ∷ poll1 ∷ [])
    (outcome (four p) Done 2 (1 ∷ 2 ∷ 3 ∷ 0 ∷ []))
unfolding tree play full tally polls_in after over each program_data accepted_range by_flag ready polls byte_at page_delay page_of to_page_end parts_in parts
run_data p = (refl, refl, refl)

pub run_no_data : (p : FlashParams) → Ran (program_data 0xFFFFFF [] (four p)) [] [] (outcome (four p) Done 0 (0 ∷ 0 ∷ 0 ∷ 0 ∷ []))
unfolding tree play full tally polls_in after program_data
run_no_data p = (refl, refl, refl)

-- ---- reset without parameters: 66, 99
pub run_reset : (p : FlashParams) → Ran (reset (four p)) (got [] ∷ got [] ∷ []) (plain 0x66 0 ∷ plain 0x99 0 ∷ []) (outcome (four p) Done 0 (0 ∷ 0 ∷ 0 ∷ 0 ∷ []))
unfolding tree play full tally polls_in after reset
run_reset p = (refl, refl, refl)

-- with a table that rules out 66/99 and allows F0: F0; that allows neither: 6
abbrev pub knowing : FlashParams → Kept
knowing p = record { settings = settings; known = true; params = p; room = [] }

pub run_reset_f0 : (p : FlashParams) → p.jesd216a ≡ true → p.reset_inst_66_99 ≡ false → p.reset_inst_f0 ≡ true
    → Ran (reset (knowing p)) (got [] ∷ []) (plain 0xF0 0 ∷ []) (outcome (knowing p) Done 0 [])
unfolding tree play full tally polls_in after reset
run_reset_f0 p e f g = rw (e, f, g) (refl, refl, refl)

pub run_reset_none : (p : FlashParams) → p.jesd216a ≡ true → p.reset_inst_66_99 ≡ false → p.reset_inst_f0 ≡ false
    → Ran (reset (knowing p)) [] [] (outcome (knowing p) NoResetInstruction 0 [])
unfolding tree play full tally polls_in after reset
run_reset_none p e f g = rw (e, f, g) (refl, refl, refl)

-- ---- the ID: C2 20 18; and behind two bytes of 7F in the longer reply; 2 where bytes 1 to 13 are 7F too
pub run_id : (p : FlashParams) → Ran (read_jedec_id (four p)) (got (0xC2 ∷ 0x20 ∷ 0x18 ∷ []) ∷ []) (plain 0x9F 3 ∷ []) (outcome (four p) (DoneId 0 0xC2 0x2018) 0 (0 ∷ 0 ∷ 0 ∷ 0 ∷ []))
unfolding tree play full tally polls_in after byte_at read_jedec_id
run_id p = (refl, refl, refl)

pub run_id_again : (p : FlashParams)
    → Ran (read_jedec_id (four p)) (got (0x7F ∷ 0x7F ∷ 0x9D ∷ []) ∷ got (0x7F ∷ 0x7F ∷ 0x9D ∷ 0x60 ∷ 0x16 ∷ replicate 11 0) ∷ []) (plain 0x9F 3 ∷ plain 0x9F 16 ∷ [])
    (outcome (four p) (DoneId 2 0x9D 0x6016) 0 (0 ∷ 0 ∷ 0 ∷ 0 ∷ []))
unfolding tree play full tally polls_in after byte_at first_id read_jedec_id
run_id_again p = (refl, refl, refl)

pub run_id_none : (p : FlashParams)
    → Ran (read_jedec_id (four p)) (got (replicate 3 0x7F) ∷ got (0 ∷ replicate 15 0x7F) ∷ []) (plain 0x9F 3 ∷ plain 0x9F 16 ∷ [])
    (outcome (four p) InvalidManufacturer 0 (0 ∷ 0 ∷ 0 ∷ 0 ∷ []))
unfolding tree play full tally polls_in after byte_at first_id read_jedec_id
run_id_none p = (refl, refl, refl)

-- ---- is_protected looks at bits 4:2, is_busy at bit 0
pub run_protected_4 : (p : FlashParams) → Ran (is_protected (four p)) (got (0x10 ∷ []) ∷ []) (plain 0x05 1 ∷ []) (outcome (four p) (DoneBool true) 0 (0 ∷ 0 ∷ 0 ∷ 0 ∷ []))
unfolding tree play full tally polls_in after byte_at is_protected
run_protected_4 p = (refl, refl, refl)

pub run_unprotected : (p : FlashParams) → Ran (is_protected (four p)) (got (0xE3 ∷ []) ∷ []) (plain 0x05 1 ∷ []) (outcome (four p) (DoneBool false) 0 (0 ∷ 0 ∷ 0 ∷ 0 ∷ []))
unfolding tree play full tally polls_in after byte_at is_protected
run_unprotected p = (refl, refl, refl)

pub run_idle : (p : FlashParams) → Ran (is_busy (four p)) (got (0xFE ∷ []) ∷ []) (poll1 ∷ []) (outcome (four p) (DoneBool false) 1 (0 ∷ 0 ∷ 0 ∷ 0 ∷ []))
unfolding tree play full tally polls_in after by_flag ready byte_at is_busy
run_idle p = (refl, refl, refl)
