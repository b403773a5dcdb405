-- Examples of docs/SCOPE.md, and of a table that is read.
use Rattle.std.proofs.Common.{◌≡◌, ℕ, false, refl, Some, Ok, Err}
use Rattle.sfdp.specs.Jesd216.{fields, address_bytes, density, erase_types, erase_type}
use Rattle.sfdp.specs.Chosen.{sector_erase, smallest, lesser, below}
use Rattle.sfdp.specs.declared.FlashParams.{FlashParams}
use Rattle.settings.specs.declared.Settings.{Settings}
use Rattle.settings.specs.Limits.{defaults, with_address_bytes}
use Rattle.settings.specs.Updated.{updated, chosen_erase, legacy_erase}
use Rattle.settings.specs.Ranges.{accepted_range, last_address, check_address_length}

-- ---- ranges: 3 address bytes, no capacity, address 0
pub whole_24_bits : check_address_length defaults 0 16777216 ≡ Ok tt
unfolding check_address_length accepted_range
whole_24_bits = refl

pub past_24_bits : check_address_length defaults 0 16777217 ≡ Err (record { last = 0x01000000 })
unfolding check_address_length accepted_range last_address
past_24_bits = refl

pub none_at_0 : check_address_length defaults 0 0 ≡ Err (record { last = 0xFFFFFFFF })
unfolding check_address_length accepted_range last_address
none_at_0 = refl

-- the last 4,096 bytes of 32 bits: address plus length is 2^32
pub end_of_32_bits : check_address_length (with_address_bytes 4 defaults) 0xFFFFF000 4096 ≡ Ok tt
unfolding check_address_length accepted_range
end_of_32_bits = refl

-- ---- read_params: a table of 9 dwords, given here by dwords 1, 2, 8 and 9
abbrev table : (d1 d8 d9 : ℕ) → FlashParams
table d1 d8 d9 = fields 0 false d1 0x00FFFFFF d8 d9 0 0 0 0

abbrev set_to_lem : ℕ → ℕ → Settings
set_to_lem size opcode = record {
  address_bytes = 3;
  capacity = Some 2097152;
  page_size = 0;
  erase_size = size;
  erase_opcode = opcode;
  poll_limit = 65535;
}

-- 16 Mbit, types 65,536 (D8), 32,768 (52) and 4,096 (21)
pub smallest_taken : updated defaults (table 0xFFF120E5 0x520FD810 0x0000210C) ≡ set_to_lem 4096 0x21
unfolding updated fields address_bytes density erase_types erase_type chosen_erase sector_erase smallest lesser below
smallest_taken = refl

-- no type: 4 KiB by opcode 22, but not by FF
pub legacy_taken : updated defaults (table 0xFFF122E5 0 0) ≡ set_to_lem 4096 0x22
unfolding updated fields address_bytes density erase_types erase_type chosen_erase legacy_erase sector_erase smallest lesser below
legacy_taken = refl

pub legacy_barred : updated defaults (table 0xFFF1FFE5 0 0) ≡ set_to_lem 0 0x20
unfolding updated fields address_bytes density erase_types erase_type chosen_erase legacy_erase sector_erase smallest lesser below
legacy_barred = refl
