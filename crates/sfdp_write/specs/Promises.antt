-- What is promised of writing: the statements. proofs/Promised.antt proves them.
use Rattle.std.specs.Prelude.{ℕ, ◌^◌, ◌≤◌, ◌<◌, ◌≡◌, true, List, ◌++◌, ◌⊎◌, ◌↔◌, length, get_or, drop, Ok, Err}
use Rattle.dwords.specs.Dwords.{dword, bits, bit}
use Rattle.sfdp.specs.Jesd216.{density, volatility, read_table, read_area}
use Rattle.sfdp.specs.declared.SFDPAddressBytes.TheVariants as Address
use Rattle.sfdp.specs.declared.SFDPStatus1Volatility.TheVariants as Status1
use Rattle.sfdp.specs.declared.SFDPEraseInst.{SFDPEraseInst}
use Rattle.sfdp.specs.declared.FlashParams.{FlashParams}
use Rattle.sfdp_write.specs.Table.{table_of}
use Rattle.sfdp_write.specs.Written.{header, answer_to, written}
use Rattle.sfdp_write.specs.declared.WriteError.TheVariants.{NoForm, NoRoom}

-- ---- parameters

-- the same parameters, but for the minor, which is 6
abbrev pub minor6 : FlashParams → FlashParams
minor6 p = record {
  version_major = p.version_major;
  version_minor = 6;
  address_bytes = p.address_bytes;
  density = p.density;
  legacy_4kb_erase_supported = p.legacy_4kb_erase_supported;
  legacy_4kb_erase_inst = p.legacy_4kb_erase_inst;
  legacy_volatile_write_en_inst = p.legacy_volatile_write_en_inst;
  legacy_block_protect_volatile = p.legacy_block_protect_volatile;
  legacy_byte_write_granularity = p.legacy_byte_write_granularity;
  erase_insts = p.erase_insts;
  jesd216a = p.jesd216a;
  timing = p.timing;
  raw = p.raw;
  page_size = p.page_size;
  busy_poll_flag = p.busy_poll_flag;
  busy_poll_status = p.busy_poll_status;
  reset_inst_f0 = p.reset_inst_f0;
  reset_inst_66_99 = p.reset_inst_66_99;
  status_1_vol = p.status_1_vol;
  exit_4byte_e9 = p.exit_4byte_e9;
  enter_4byte_b7 = p.enter_4byte_b7;
}

-- the widths of the code's types: opcodes are bytes, sizes have 32 bits, the density 64
pub record TypeWidths (i : SFDPEraseInst) : Type 0 where
  pub opcode : i.opcode < 2 ^ 8
  pub size : i.size < 2 ^ 32

pub record Widths (p : FlashParams) : Type 0 where
  pub density : p.density < 2 ^ 64
  pub legacy : p.legacy_4kb_erase_inst < 2 ^ 8
  pub inst1 : TypeWidths p.erase_insts.inst1
  pub inst2 : TypeWidths p.erase_insts.inst2
  pub inst3 : TypeWidths p.erase_insts.inst3
  pub inst4 : TypeWidths p.erase_insts.inst4

-- ---- tables

-- 16 dwords: 64 bytes
pub record Dwords16 (t : List ℕ) : Type 0 where
  pub size : length t ≡ 64
  pub bytes : (i : ℕ) → get_or t i 0 < 256

-- parameters with a form: they hold no reserved code, and a table of minor 6 and 16 dwords reads as they are, but for the minor
pub record HasForm (p : FlashParams) : Type 0 where
  pub address : p.address_bytes ≡ Address.Reserved → ⊥
  pub status : p.status_1_vol ≡ Status1.Reserved → ⊥
  pub table : List ℕ
  pub dwords : Dwords16 table
  pub reads : read_table 6 16 table ≡ Ok (minor6 p)

-- bits hi:lo of dword n are 0
abbrev pub Clear : List ℕ → ℕ → ℕ → ℕ → Type 0
Clear t n hi lo = bits (dword t n) hi lo ≡ 0

-- no skipped or reserved field is set: all that reading does not look at is 0
pub record NoneSkipped (t : List ℕ) : Type 0 where
  pub in1 : Clear t 1 7 5 × Clear t 1 16 16 × Clear t 1 31 19
  pub in3 : Clear t 3 31 0
  pub in4 : Clear t 4 31 0
  pub in5 : Clear t 5 31 0
  pub in6 : Clear t 6 31 0
  pub in7 : Clear t 7 31 0
  pub in11 : Clear t 11 31 31
  pub in12 : Clear t 12 31 0
  pub in13 : Clear t 13 31 0
  pub in14 : Clear t 14 1 0 × Clear t 14 31 4
  pub in15 : Clear t 15 31 0
  pub in16 : Clear t 16 10 5 × Clear t 16 13 13 × Clear t 16 23 15 × Clear t 16 31 25

-- no reserved code: 4 KiB erase is 01 or 11, the address bytes are not 11, the volatility is one of its five
pub record NoneReserved (t : List ℕ) : Type 0 where
  pub support : (bits (dword t 1) 1 0 ≡ 1) ⊎ (bits (dword t 1) 1 0 ≡ 3)
  pub address : bits (dword t 1) 18 17 ≡ 3 → ⊥
  pub status : volatility (bits (dword t 16) 4 0) ≡ Status1.Reserved → ⊥

-- a type with exponent 0 or opcode 0 is absent; it has zero in exponent, opcode and time
abbrev pub AbsentZero : (exponent opcode time : ℕ) → Type 0
AbsentZero exponent opcode time = (exponent ≡ 0) ⊎ (opcode ≡ 0) → (exponent ≡ 0) × (opcode ≡ 0) × (time ≡ 0)

pub record AbsentZeros (t : List ℕ) : Type 0 where
  pub type1 : AbsentZero (bits (dword t 8) 7 0) (bits (dword t 8) 15 8) (bits (dword t 10) 10 4)
  pub type2 : AbsentZero (bits (dword t 8) 23 16) (bits (dword t 8) 31 24) (bits (dword t 10) 17 11)
  pub type3 : AbsentZero (bits (dword t 9) 7 0) (bits (dword t 9) 15 8) (bits (dword t 10) 24 18)
  pub type4 : AbsentZero (bits (dword t 9) 23 16) (bits (dword t 9) 31 24) (bits (dword t 10) 31 25)

-- a table that is written again as it was read
pub record Plain (t : List ℕ) : Type 0 where
  pub dwords : Dwords16 t
  pub skipped : NoneSkipped t
  pub reserved : NoneReserved t
  -- no density of 2,147,483,648 bits or less is stored as an exponent
  pub dense : bit (dword t 2) 31 ≡ true → 2147483648 < density (dword t 2)
  pub absent : AbsentZeros t

-- ---- the statements, of parameters p and a lent buffer

-- 15 exactly if there is no form; then 11, with 80, exactly if there are less than 80 bytes; else Ok
abbrev pub RefusesExactly : Type 0
RefusesExactly = (p : FlashParams) (room : List ℕ) → Widths p → (answer_to p room ≡ Err NoForm) ↔ (HasForm p → ⊥)

abbrev pub NeedsExactly : Type 0
NeedsExactly =
    (p : FlashParams) (room : List ℕ) (need : ℕ)
    → Widths p
    → (answer_to p room ≡ Err (NoRoom need)) ↔ (HasForm p × (length room < 80) × (need ≡ 80))

abbrev pub DoneExactly : Type 0
DoneExactly = (p : FlashParams) (room : List ℕ) → Widths p → (answer_to p room ≡ Ok tt) ↔ (HasForm p × (80 ≤ length room))

-- a refusal leaves the buffer as it was; Ok leaves the 80 bytes, and what was behind them
abbrev pub RefusalKeeps : Type 0
RefusalKeeps = (p : FlashParams) (room : List ℕ) → (answer_to p room ≡ Ok tt → ⊥) → written p room ≡ room

abbrev pub DoneWrites : Type 0
DoneWrites = (p : FlashParams) (room : List ℕ) → answer_to p room ≡ Ok tt → written p room ≡ header ++ (table_of p ++ drop 80 room)

-- reading it back gives the same parameters, but for the minor, now 6
abbrev pub ReadsBack : Type 0
ReadsBack = (p : FlashParams) (room : List ℕ) → Widths p → answer_to p room ≡ Ok tt → read_area (written p room) ≡ Ok (minor6 p)

-- what was read from a plain table of minor 6 and 16 dwords is written as those 64 bytes again
abbrev pub WritesAgain : Type 0
WritesAgain =
    (t : List ℕ) (p : FlashParams) (room : List ℕ)
    → Plain t
    → read_table 6 16 t ≡ Ok p
    → 80 ≤ length room
    → (answer_to p room ≡ Ok tt) × (written p room ≡ header ++ (t ++ drop 80 room))

-- and every table that is written is plain
abbrev pub WritesPlain : Type 0
WritesPlain = (p : FlashParams) → Widths p → HasForm p → Plain (table_of p)

-- all of it
pub record WriterPromises : Type 0 where
  pub refuses : RefusesExactly
  pub needs : NeedsExactly
  pub done : DoneExactly
  pub keeps : RefusalKeeps
  pub writes : DoneWrites
  pub back : ReadsBack
  pub again : WritesAgain
  pub plain : WritesPlain
