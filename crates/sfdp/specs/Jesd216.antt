-- JESD216's basic parameter table as docs/SCOPE.md, SFDP reading, gives it: dword, bits, meaning, in the standard's order.
use Rattle.std.specs.Prelude.{ℕ, ◌+◌, ◌*◌, ◌^◌, List, Bool, true, false, cond, ◌&&◌, ◌||◌, drop, eqb, ltb, leb, Result, Ok, Err}
use Rattle.dwords.specs.Dwords.{byte_at, dword, bits, bit}
use Rattle.sfdp.specs.Times.{erase_time, page_time, byte_time, chip_time, maximum}
use Rattle.sfdp.specs.declared.SFDPAddressBytes.{SFDPAddressBytes}
use Rattle.sfdp.specs.declared.SFDPAddressBytes.TheVariants as Address
use Rattle.sfdp.specs.declared.SFDPEraseInst.{SFDPEraseInst}
use Rattle.sfdp.specs.declared.SFDPEraseInsts.{SFDPEraseInsts}
use Rattle.sfdp.specs.declared.SFDPStatus1Volatility.{SFDPStatus1Volatility}
use Rattle.sfdp.specs.declared.SFDPStatus1Volatility.TheVariants as Status1
use Rattle.sfdp.specs.declared.SFDPTiming.{SFDPTiming}
use Rattle.sfdp.specs.declared.SFDPRawTimes.{SFDPRawTimes}
use Rattle.sfdp.specs.declared.FlashParams.{FlashParams}
use Rattle.sfdp.specs.declared.SFDPParameterHeader.{SFDPParameterHeader}
use Rattle.sfdp.specs.declared.SFDPError.{SFDPError}
use Rattle.sfdp.specs.declared.SFDPError.TheVariants as Refusal
use Rattle.sfdp.specs.declared.TableDwords.{TableDwords}

-- ---- the 8-byte header: the signature 53 46 44 50, and the count of parameter headers, byte 6 plus 1
unfoldable pub signed : List ℕ → Bool
signed h = eqb (byte_at h 0) 0x53 && eqb (byte_at h 1) 0x46 && eqb (byte_at h 2) 0x44 && eqb (byte_at h 3) 0x50

abbrev pub headers : List ℕ → ℕ
headers h = byte_at h 6 + 1

-- ---- a parameter header, its 8 bytes starting at byte i
unfoldable pub parameter_header : List ℕ → ℕ → SFDPParameterHeader
parameter_header h i = record {
  parameter_id = 256 * byte_at h (i + 7) + byte_at h i;
  minor = byte_at h (i + 1);
  major = byte_at h (i + 2);
  plen = byte_at h (i + 3);
  ptp = 65536 * byte_at h (i + 6) + 256 * byte_at h (i + 5) + byte_at h (i + 4);
}

-- the first one must be that of the basic parameter table, FF00, with major 1
unfoldable pub basic : SFDPParameterHeader → Bool
basic p = eqb p.parameter_id 0xFF00 && eqb p.major 1

-- refusals in order: 12, then 3
unfoldable pub read_header : List ℕ → Result SFDPParameterHeader SFDPError
read_header h =
    cond (signed h)
    (cond (basic (parameter_header h 8)) (Ok (parameter_header h 8)) (Err Refusal.InvalidSFDPHeader))
    (Err Refusal.NoSFDP)

-- ---- dword 1
unfoldable pub address_bytes : ℕ → SFDPAddressBytes
address_bytes code = cond (eqb code 0) Address.Three (cond (eqb code 1) Address.ThreeOrFour (cond (eqb code 2) Address.Four Address.Reserved))

-- ---- dword 2: bit 31 clear, the number plus 1; set, 2 to the power of bits 30:0. Bits of memory
unfoldable pub density : ℕ → ℕ
density d = cond (bit d 31) (2 ^ bits d 30 0) (d + 1)

-- ---- dwords 8 and 9: an erase type has an exponent and an opcode; with exponent 0 or opcode 0 there is none
abbrev pub no_type : SFDPEraseInst
no_type = record { opcode = 0; size = 0; timed = false; time_typ = 0; time_max = 0; time_raw = 0 }

-- its typical time is a field of dword 10 (known: whether the table has that dword), its maximum by dword 10's multiplier
unfoldable pub erase_type : ℕ → ℕ → Bool → ℕ → ℕ → SFDPEraseInst
erase_type exponent opcode known multiplier time =
    cond (eqb exponent 0 || eqb opcode 0) no_type
    (record {
      opcode = opcode;
      size = 2 ^ exponent;
      timed = known;
      time_typ = cond known (erase_time time) 0;
      time_max = cond known (maximum multiplier (erase_time time)) 0;
      time_raw = cond known time 0;
    })

unfoldable pub erase_types : ℕ → ℕ → Bool → ℕ → SFDPEraseInsts
erase_types d8 d9 known d10 = record {
  inst1 = erase_type (bits d8 7 0) (bits d8 15 8) known (bits d10 3 0) (bits d10 10 4);
  inst2 = erase_type (bits d8 23 16) (bits d8 31 24) known (bits d10 3 0) (bits d10 17 11);
  inst3 = erase_type (bits d9 7 0) (bits d9 15 8) known (bits d10 3 0) (bits d10 24 18);
  inst4 = erase_type (bits d9 23 16) (bits d9 31 24) known (bits d10 3 0) (bits d10 31 25);
}

-- ---- dword 11, and dword 10's multiplier for the chip erase
unfoldable pub timing : Bool → ℕ → ℕ → SFDPTiming
timing known d10 d11 = record {
  chip_erase_time_typ = cond known (chip_time (bits d11 30 24)) 0;
  chip_erase_time_max = cond known (maximum (bits d10 3 0) (chip_time (bits d11 30 24))) 0;
  first_byte_prog_time_typ = cond known (byte_time (bits d11 18 14)) 0;
  first_byte_prog_time_max = cond known (maximum (bits d11 3 0) (byte_time (bits d11 18 14))) 0;
  succ_byte_prog_time_typ = cond known (byte_time (bits d11 23 19)) 0;
  succ_byte_prog_time_max = cond known (maximum (bits d11 3 0) (byte_time (bits d11 23 19))) 0;
  page_prog_time_typ = cond known (page_time (bits d11 13 8)) 0;
  page_prog_time_max = cond known (maximum (bits d11 3 0) (page_time (bits d11 13 8))) 0;
}

-- the fields that the times were decoded from
unfoldable pub raw_times : Bool → ℕ → ℕ → SFDPRawTimes
raw_times known d10 d11 = record {
  erase_multiplier = cond known (bits d10 3 0) 0;
  prog_multiplier = cond known (bits d11 3 0) 0;
  chip_erase = cond known (bits d11 30 24) 0;
  first_byte_prog = cond known (bits d11 18 14) 0;
  succ_byte_prog = cond known (bits d11 23 19) 0;
  page_prog = cond known (bits d11 13 8) 0;
}

-- ---- dword 16, bits 4:0: exactly one of them
unfoldable pub volatility : ℕ → SFDPStatus1Volatility
volatility v =
    cond (eqb v 1) Status1.NonVolatile06
    (cond (eqb v 2) Status1.Volatile06
    (cond (eqb v 4) Status1.Volatile50
    (cond (eqb v 8) Status1.NonVolatile06Volatile50
    (cond (eqb v 16) Status1.Mixed06 Status1.Reserved))))

-- ---- the table t of n dwords, by its header's minor number
-- dwords 10 to 16 are read with 16 dwords or more and minor 5 or more
unfoldable pub extended : ℕ → ℕ → Bool
extended minor n = leb 16 n && leb 5 minor

-- the parameters, from those dwords (known: whether dwords 10 to 16 are read)
unfoldable pub fields : ℕ → Bool → (d1 d2 d8 d9 d10 d11 d14 d16 : ℕ) → FlashParams
fields minor known d1 d2 d8 d9 d10 d11 d14 d16 = record {
  version_major = 1;
  version_minor = minor;
  address_bytes = address_bytes (bits d1 18 17);
  density = density d2;
  legacy_4kb_erase_supported = eqb (bits d1 1 0) 1;
  legacy_4kb_erase_inst = bits d1 15 8;
  legacy_volatile_write_en_inst = cond (bit d1 4) 0x06 0x50;
  legacy_block_protect_volatile = bit d1 3;
  legacy_byte_write_granularity = bit d1 2;
  erase_insts = erase_types d8 d9 known d10;
  jesd216a = known;
  timing = timing known d10 d11;
  raw = raw_times known d10 d11;
  page_size = cond known (2 ^ bits d11 7 4) 0;
  busy_poll_flag = cond known (bit d14 3) false;
  busy_poll_status = cond known (bit d14 2) false;
  reset_inst_f0 = cond known (bit d16 11) false;
  reset_inst_66_99 = cond known (bit d16 12) false;
  status_1_vol = cond known (volatility (bits d16 4 0)) Status1.Reserved;
  exit_4byte_e9 = cond known (bit d16 14) false;
  enter_4byte_b7 = cond known (bit d16 24) false;
}

-- the dwords of a table that they come from
abbrev pub table_dwords : List ℕ → TableDwords
table_dwords t = record {
  d1 = dword t 1;
  d2 = dword t 2;
  d8 = dword t 8;
  d9 = dword t 9;
  d10 = dword t 10;
  d11 = dword t 11;
  d14 = dword t 14;
  d16 = dword t 16;
}

unfoldable pub params : ℕ → ℕ → List ℕ → FlashParams
params minor n t =
    fields minor (extended minor n) (dword t 1) (dword t 2) (dword t 8) (dword t 9) (dword t 10) (dword t 11) (dword t 14) (dword t 16)

-- no parameters: what stands in their place until some were read, the fields of dwords that are 0
abbrev pub no_params : FlashParams
no_params = fields 0 false 0 0 0 0 0 0 0 0

-- refusal 4: fewer than 9 dwords; an exponent of 32 or more where the opcode is not 0; a density exponent of 64 or more
unfoldable pub size_fits : ℕ → ℕ → Bool
size_fits exponent opcode = eqb opcode 0 || ltb exponent 32

unfoldable pub sizes_fit : ℕ → Bool
sizes_fit d = size_fits (bits d 7 0) (bits d 15 8) && size_fits (bits d 23 16) (bits d 31 24)

unfoldable pub density_fits : ℕ → Bool
density_fits d = cond (bit d 31) (ltb (bits d 30 0) 64) true

unfoldable pub accepted : ℕ → List ℕ → Bool
accepted n t = leb 9 n && (sizes_fit (dword t 8) && (sizes_fit (dword t 9) && density_fits (dword t 2)))

unfoldable pub read_table : ℕ → ℕ → List ℕ → Result FlashParams SFDPError
read_table minor n t = cond (accepted n t) (Ok (params minor n t)) (Err Refusal.InvalidSFDPParams)

-- ---- a whole area: the header, then the table that it points to; refusals in order 12, 3, 4
abbrev pub of_header : List ℕ → Result SFDPParameterHeader SFDPError → Result FlashParams SFDPError
of_header area (Ok p) = read_table p.minor p.plen (drop p.ptp area)
of_header area (Err e) = Err e

unfoldable pub read_area : List ℕ → Result FlashParams SFDPError
read_area area = of_header area (read_header area)

-- the answer numbers
abbrev pub error_number : SFDPError → ℕ
error_number Refusal.NoSFDP = 12
error_number Refusal.InvalidSFDPHeader = 3
error_number Refusal.InvalidSFDPParams = 4

abbrev pub answer_number : Result FlashParams SFDPError → ℕ
answer_number (Ok p) = 0
answer_number (Err e) = error_number e
