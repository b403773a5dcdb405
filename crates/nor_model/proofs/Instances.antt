-- Parts that fit, each with a run that rewrites neighbours: the premises of demand 3 can be met.
use mathlib.Core.Path.{◌≡◌, refl, sym, ap, ◌∙◌}
use mathlib.Core.Bool.{true, false, cond}
use mathlib.Core.Logic.{inl, inr}
use mathlib.Core.List.{List, [], ◌∷◌}
use mathlib.Core.Option.{Option, some, none}
use Prim.Native.Nat.{ℕ, ◌%◌}
use native.Mathlib.Omega.{arith}
use native.Mathlib.Nat.{mod-lt}
use lib.Dec.{eqb}
use lib.ListN.{length, replicate, get_or}
use borrow.Author.Tests.{eqb-true}
use Rattle.dwords.specs.Dwords.{byte_at, le32}
use Rattle.sfdp.specs.Jesd216.{address_bytes, no_params, fields, params, extended, erase_type, erase_types, size_fits, sizes_fit, density_fits, accepted, read_table, read_header, signed, parameter_header, basic, density}
use Rattle.sfdp.specs.Chosen.{lesser, smallest, sector_erase}
use Rattle.settings.specs.Limits.{page_of, defaults, within}
use Rattle.settings.specs.Ranges.{accepted_range}
use Rattle.settings.specs.Updated.{updated, chosen_erase, legacy_erase}
use Rattle.settings.proofs.Laws.{new_sound}
use Rattle.erase_plan.specs.Good.{Mult}
use Rattle.erase_plan.specs.Types.{kept, present, sorted_of, sort, insert, slots, in_order, time_rank}
use Rattle.erase_plan.specs.Plan.{block_base, block_end, cover, beats, chosen_from, chosen, entry_at, next_pos, plan_in, plan}
use Rattle.erase_plan.specs.Span.{span_start, span_end, span_check}
use Rattle.erase_plan.proofs.Lists.{by_cond, no_true}
use Rattle.plans.specs.Available.{of_settings, available, all_zero, of_params}
use Rattle.commands.specs.Script.{after, over, each}
use Rattle.commands.specs.Wire.{high_first, wire}
use Rattle.commands.specs.Host.{tally}
use Rattle.commands.specs.Transactions.{page_delay, by_flag, ready, polls, to_page_end, parts_in, parts}
use Rattle.commands.specs.Commands.{blank, mismatch, written, program, read, read_params, erase_sectors, program_data}
use Rattle.commands.specs.Calls.{Program, Read, ReadParams, EraseSectors, ProgramData, script}
use Rattle.commands.specs.Leaves.{refused}
use Rattle.nor_model.specs.Device.{Part, bytes_from, joined, address_in, whole, write_enable, operate, erased, block_erase, onward, and_at, programmed, page_program, read_memory, status1, read_status, read_sfdp, unless_busy, obeyed, respond}
use Rattle.nor_model.specs.Fits.{other_command}
use Rattle.nor_model.specs.Runs.{exec}
use Rattle.nor_model.specs.Demand3.{Act, Command, Setting, AddressBytes, Capacity, PageSize, EraseSize, Now, Premises, Promises}
use Rattle.nor_model.proofs.Breaks.{one, one_apart}
use Rattle.nor_model.proofs.Tables.{bytes_data}
use Rattle.nor_model.proofs.Sequences.{after_all, demand3}

-- a part with this memory, and a driver with the default settings
abbrev pub fresh : Now
fresh = record {
  state = record { memory = λ i. i % 251; latch = true; busy = 0 };
  kept = record { settings = defaults; known = false; params = no_params; room = [] };
  accepted = [];
}

-- demand 3 from there
from_fresh : (p : Part) (acts : List Act) → Premises script p fresh acts → Promises script p (λ i. i % 251) fresh acts
from_fresh p acts h =
    demand3 p fresh.state fresh.kept acts refl (λ i. omega (arith, mod-lt i {m = 251} (omega arith))) (record { sound = new_sound; read = λ e. no_true e }) h

-- ---- parts with three types, which their SFDP tables give
-- one header, a table of 9 dwords at 10: density, three exponents with their opcodes 20, 52, D8
abbrev pub area : ℕ → ℕ → ℕ → ℕ → ℕ → ℕ → List ℕ
area d0 d1 d2 x y z =
    0x53 ∷ 0x46 ∷ 0x44 ∷ 0x50 ∷ 0x00 ∷ 0x01 ∷ 0x00 ∷ 0xFF ∷ 0x00 ∷ 0x00 ∷ 0x01 ∷ 0x09 ∷ 0x10 ∷ 0x00 ∷ 0x00 ∷ 0xFF
    ∷ 0xE5 ∷ 0x20 ∷ 0xF1 ∷ 0xFF ∷ d0 ∷ d1 ∷ d2 ∷ 0x00
    ∷ 0 ∷ 0 ∷ 0 ∷ 0 ∷ 0 ∷ 0 ∷ 0 ∷ 0 ∷ 0 ∷ 0 ∷ 0 ∷ 0 ∷ 0 ∷ 0 ∷ 0 ∷ 0 ∷ 0 ∷ 0 ∷ 0 ∷ 0
    ∷ x ∷ 0x20 ∷ y ∷ 0x52 ∷ z ∷ 0xD8 ∷ 0x00 ∷ 0xFF ∷ []

abbrev pub three : ℕ → ℕ → ℕ → ℕ → Option ℕ
three x y z op = cond (eqb op 0x20) (some x) (cond (eqb op 0x52) (some y) (one 0xD8 z op))

three_apart : (x y z op : ℕ) → other_command op ≡ true → three x y z op ≡ none
unfolding other_command
three_apart x y z op h =
    by_cond (λ (o : Option ℕ). o ≡ none) (eqb op 0x20) _ _ (λ e. other 0x20 refl e)
    (λ _. by_cond (λ (o : Option ℕ). o ≡ none) (eqb op 0x52) _ _ (λ e. other 0x52 refl e) (λ _. one_apart 0xD8 z refl op h))
  where
    other : {o : Option ℕ} (k : ℕ) → other_command k ≡ false → eqb op k ≡ true → o ≡ none
    other k f e = no_true (sym f ∙ ap other_command (sym (eqb-true op k e)) ∙ h)

-- a part of so many bytes in such pages and blocks, with this SFDP area
abbrev pub part_with : ℕ → ℕ → (ℕ → Option ℕ) → List ℕ → Part
part_with capacity page erases sfdp =
    record { capacity = capacity; addressed = 3; page = page; erases = erases; flagged = false; id = λ i. 255; sfdp = λ i. get_or sfdp i 255 }

-- 64 bytes in blocks of 4, 8 and 16; pages of 16, of which the driver uses halves
abbrev pub small : Part
small = part_with 64 16 (three 4 8 16) (area 0xFF 0x01 0x00 2 3 4)

-- five bytes inside a block of 16, which is read, erased and rewritten around them; then read
abbrev pub small_acts : List Act
small_acts =
    Setting (PageSize 8) ∷ Command ReadParams (replicate 2056 0) (λ past. 0)
    ∷ Command (Program 6 (0xA1 ∷ 0xA2 ∷ 0xA3 ∷ 0xA4 ∷ 0xA5 ∷ []) true) (replicate 16 0) (λ past. 2) ∷ Command (Read 4 10) (replicate 10 0) (λ past. 0) ∷ []

small_premises : Premises script small fresh small_acts
unfolding exec tally respond byte_at le32 ready polls after over each program accepted_range available all_zero of_settings present kept plan plan_in next_pos entry_at chosen chosen_from beats cover block_base block_end span_start span_end by_flag page_delay page_of to_page_end parts_in parts blank mismatch written refused bytes_from joined address_in whole write_enable operate erased block_erase onward and_at programmed page_program read_memory status1 read_status read_sfdp unless_busy obeyed high_first wire params fields extended erase_type erase_types address_bytes after_all read_params read_header signed parameter_header basic read_table accepted size_fits sizes_fit density_fits updated chosen_erase legacy_erase sector_erase smallest lesser read of_params sorted_of sort insert slots in_order time_rank within density
small_premises = (
  record { fits = inr (inl refl, three_apart 4 8 16); ready = λ past. omega arith; bytes = bytes_data _ tt },
  (
    record {
      fits = inl (record { capacity = refl; addressed = refl; page = half; types = (refl, (refl, (refl, tt))); apart = three_apart 4 8 16; poll = λ e. no_true e });
      ready = λ past. omega arith;
      bytes = bytes_data _ (omega arith, (omega arith, (omega arith, (omega arith, (omega arith, tt)))));
    },
    (
      record { fits = inl (record { capacity = refl; addressed = refl; page = half; types = (refl, (refl, (refl, tt))); apart = three_apart 4 8 16; poll = λ e. no_true e }); ready = λ past. omega arith; bytes = bytes_data _ tt },
      tt,
    ),
  ),
)
  where
    half : Mult 8 16
    half = record { q = 2; is = refl }

pub small_keeps : Promises script small (λ i. i % 251) fresh small_acts
small_keeps = from_fresh small small_acts small_premises

-- computed: the neighbours stand as they were, all three commands were accepted, and the room holds what was read
pub small_run : (bytes_from (after_all small small_acts fresh).state.memory 0 18
    ≡ 0 ∷ 1 ∷ 2 ∷ 3 ∷ 4 ∷ 5 ∷ 0xA1 ∷ 0xA2 ∷ 0xA3 ∷ 0xA4 ∷ 0xA5 ∷ 11 ∷ 12 ∷ 13 ∷ 14 ∷ 15 ∷ 16 ∷ 17 ∷ [])
    × (length (after_all small small_acts fresh).accepted ≡ 3)
    × ((after_all small small_acts fresh).kept.room ≡ 4 ∷ 5 ∷ 0xA1 ∷ 0xA2 ∷ 0xA3 ∷ 0xA4 ∷ 0xA5 ∷ 11 ∷ 12 ∷ 13 ∷ [])
unfolding exec tally respond byte_at le32 ready polls after over each program accepted_range available all_zero of_settings present kept plan plan_in next_pos entry_at chosen chosen_from beats cover block_base block_end span_start span_end by_flag page_delay page_of to_page_end parts_in parts blank mismatch written refused bytes_from joined address_in whole write_enable operate erased block_erase onward and_at programmed page_program read_memory status1 read_status read_sfdp unless_busy obeyed high_first wire params fields extended erase_type erase_types address_bytes after_all read_params read_header signed parameter_header basic read_table accepted size_fits sizes_fit density_fits updated chosen_erase legacy_erase sector_erase smallest lesser read of_params sorted_of sort insert slots in_order time_rank within density
small_run = (refl, refl, refl)

-- 2 MiB in blocks of 4, 32 and 64 KiB; pages of 256
abbrev pub usual : Part
usual = part_with 2097152 256 (three 4096 32768 65536) (area 0xFF 0xFF 0xFF 12 15 16)

abbrev pub usual_acts : List Act
usual_acts =
    Command ReadParams (replicate 2056 0) (λ past. 0)
    ∷ Command (Program 0x1006 (0xA1 ∷ 0xA2 ∷ 0xA3 ∷ []) true) (replicate 4096 0) (λ past. 65535) ∷ []

usual_premises : Premises script usual fresh usual_acts
unfolding exec tally respond byte_at le32 ready polls after over each program accepted_range available all_zero of_settings present kept plan plan_in next_pos entry_at chosen chosen_from beats cover block_base block_end span_start span_end by_flag page_delay page_of to_page_end parts_in parts blank mismatch written refused bytes_from joined address_in whole write_enable operate erased block_erase onward and_at programmed page_program read_memory status1 read_status read_sfdp unless_busy obeyed high_first wire params fields extended erase_type erase_types address_bytes after_all read_params read_header signed parameter_header basic read_table accepted size_fits sizes_fit density_fits updated chosen_erase legacy_erase sector_erase smallest lesser read of_params sorted_of sort insert slots in_order time_rank within density
usual_premises = (
  record { fits = inr (inl refl, three_apart 4096 32768 65536); ready = λ past. omega arith; bytes = bytes_data _ tt },
  (
    record {
      fits = inl (record { capacity = refl; addressed = refl; page = same; types = (refl, (refl, (refl, tt))); apart = three_apart 4096 32768 65536; poll = λ e. no_true e });
      ready = λ past. omega arith;
      bytes = bytes_data _ (omega arith, (omega arith, (omega arith, tt)));
    },
    tt,
  ),
)
  where
    same : Mult 256 256
    same = record { q = 1; is = refl }

pub usual_keeps : Promises script usual (λ i. i % 251) fresh usual_acts
usual_keeps = from_fresh usual usual_acts usual_premises

-- ---- a part with one odd erase size: 300 bytes in blocks of 100; pages of 20, of which the driver uses halves
abbrev pub odd : Part
odd = record { capacity = 300; addressed = 2; page = 20; erases = one 0x20 100; flagged = true; id = λ i. 255; sfdp = λ i. 255 }

-- a block erased; two bytes written into it; a read; then ten bytes across the two other blocks
abbrev pub odd_acts : List Act
odd_acts =
    Setting (AddressBytes 2) ∷ Setting (Capacity 300) ∷ Setting (PageSize 10) ∷ Setting (EraseSize 100)
    ∷ Command (EraseSectors 200 100) [] (λ past. 1) ∷ Command (ProgramData 250 (0x0F ∷ 0xF0 ∷ [])) (0 ∷ 0 ∷ []) (λ past. 1)
    ∷ Command (Read 248 4) (replicate 4 0) (λ past. 0)
    ∷ Command (Program 95 (1 ∷ 2 ∷ 3 ∷ 4 ∷ 5 ∷ 6 ∷ 7 ∷ 8 ∷ 9 ∷ 10 ∷ []) true) (replicate 200 0) (λ past. 3) ∷ []

odd_premises : Premises script odd fresh odd_acts
unfolding exec tally respond byte_at ready polls after over each program accepted_range available of_settings present kept plan plan_in next_pos entry_at chosen chosen_from beats cover block_base block_end span_start span_end by_flag page_delay page_of to_page_end parts_in parts blank mismatch written refused bytes_from joined address_in whole write_enable operate erased block_erase onward and_at programmed page_program read_memory status1 read_status unless_busy obeyed high_first wire after_all read within erase_sectors span_check program_data other_command
odd_premises = (
  record { fits = inl (record { capacity = refl; addressed = refl; page = half; types = (refl, tt); apart = one_apart 0x20 100 refl; poll = λ e. no_true e }); ready = λ past. omega arith; bytes = bytes_data _ tt },
  (
    record { fits = inl (record { capacity = refl; addressed = refl; page = half; types = (refl, tt); apart = one_apart 0x20 100 refl; poll = λ e. no_true e }); ready = λ past. omega arith; bytes = bytes_data (ProgramData 250 (0x0F ∷ 0xF0 ∷ [])) tt },
    (
      record { fits = inl (record { capacity = refl; addressed = refl; page = half; types = (refl, tt); apart = one_apart 0x20 100 refl; poll = λ e. no_true e }); ready = λ past. omega arith; bytes = bytes_data _ tt },
      (
        record { fits = inl (record { capacity = refl; addressed = refl; page = half; types = (refl, tt); apart = one_apart 0x20 100 refl; poll = λ e. no_true e }); ready = λ past. omega arith; bytes = bytes_data _ (omega arith, (omega arith, (omega arith, (omega arith, (omega arith, (omega arith, (omega arith, (omega arith, (omega arith, (omega arith, tt)))))))))) },
        tt,
      ),
    ),
  ),
)
  where
    half : Mult 10 20
    half = record { q = 2; is = refl }

pub odd_keeps : Promises script odd (λ i. i % 251) fresh odd_acts
odd_keeps = from_fresh odd odd_acts odd_premises

-- computed: all four commands were accepted, and so stands the memory
pub odd_run : (length (after_all odd odd_acts fresh).accepted ≡ 4)
    × (bytes_from (after_all odd odd_acts fresh).state.memory 246 6 ≡ 255 ∷ 255 ∷ 255 ∷ 255 ∷ 0x0F ∷ 0xF0 ∷ [])
    × (bytes_from (after_all odd odd_acts fresh).state.memory 92 14 ≡ 92 ∷ 93 ∷ 94 ∷ 1 ∷ 2 ∷ 3 ∷ 4 ∷ 5 ∷ 6 ∷ 7 ∷ 8 ∷ 9 ∷ 10 ∷ 105 ∷ [])
unfolding exec tally respond byte_at ready polls after over each program accepted_range available of_settings present kept plan plan_in next_pos entry_at chosen chosen_from beats cover block_base block_end span_start span_end by_flag page_delay page_of to_page_end parts_in parts blank mismatch written refused bytes_from joined address_in whole write_enable operate erased block_erase onward and_at programmed page_program read_memory status1 read_status unless_busy obeyed high_first wire after_all read within erase_sectors span_check program_data
odd_run = (refl, refl, refl)
