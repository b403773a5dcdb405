-- Which parameters have an exact form in a table of minor 6 and 16 dwords, field by field. That it is so is RefusesExactly of Promises.antt.
use Rattle.std.specs.Prelude.{ℕ, ◌^◌, Bool, cond, not, ◌&&◌, ◌||◌, eqb, ltb, leb}
use Rattle.sfdp.specs.Times.{erase_time, page_time, byte_time, chip_time, maximum}
use Rattle.sfdp.specs.declared.SFDPEraseInst.{SFDPEraseInst}
use Rattle.sfdp.specs.declared.SFDPEraseInsts.{SFDPEraseInsts}
use Rattle.sfdp.specs.declared.SFDPRawTimes.{SFDPRawTimes}
use Rattle.sfdp.specs.declared.SFDPTiming.{SFDPTiming}
use Rattle.sfdp.specs.declared.FlashParams.{FlashParams}
use Rattle.sfdp_write.specs.Table.{exponent, address_code, volatility_code}

-- a power of two, a number of w bits: 2 to the power of the zeros below its lowest set bit is all of it
abbrev pub power : ℕ → ℕ → Bool
power w n = eqb (2 ^ exponent w n) n

-- a density: 1 to 2,147,483,648 bits, or a power of two
unfoldable pub density_formed : ℕ → Bool
density_formed n = cond (leb n 2147483648) (ltb 0 n) (power 64 n)

-- a typical time and its maximum are those of the field
unfoldable pub time_formed : ℕ → ℕ → ℕ → ℕ → Bool
time_formed multiplier time typical most = eqb typical time && eqb most (maximum multiplier time)

-- no erase type: every field is 0
unfoldable pub none_formed : SFDPEraseInst → Bool
none_formed i = eqb i.opcode 0 && not i.timed && eqb i.time_typ 0 && eqb i.time_max 0 && eqb i.time_raw 0

-- an erase type: a power of two above 1, an opcode other than 0, and known times, those of its 7-bit field
unfoldable pub one_formed : ℕ → SFDPEraseInst → Bool
one_formed multiplier i =
    power 32 i.size && ltb 1 i.size && ltb 0 i.opcode && i.timed && ltb i.time_raw 128
    && time_formed multiplier (erase_time i.time_raw) i.time_typ i.time_max

unfoldable pub type_formed : ℕ → SFDPEraseInst → Bool
type_formed multiplier i = cond (eqb i.size 0) (none_formed i) (one_formed multiplier i)

unfoldable pub types_formed : ℕ → SFDPEraseInsts → Bool
types_formed multiplier s =
    type_formed multiplier s.inst1 && type_formed multiplier s.inst2 && type_formed multiplier s.inst3 && type_formed multiplier s.inst4

-- the raw time fields have their widths
unfoldable pub raw_formed : SFDPRawTimes → Bool
raw_formed r =
    ltb r.erase_multiplier 16 && ltb r.prog_multiplier 16 && ltb r.chip_erase 128 && ltb r.first_byte_prog 32
    && ltb r.succ_byte_prog 32 && ltb r.page_prog 64

-- and the times are theirs; the chip erase's maximum is by the multiplier of erases
unfoldable pub timing_formed : SFDPRawTimes → SFDPTiming → Bool
timing_formed r t =
    time_formed r.erase_multiplier (chip_time r.chip_erase) t.chip_erase_time_typ t.chip_erase_time_max
    && time_formed r.prog_multiplier (byte_time r.first_byte_prog) t.first_byte_prog_time_typ t.first_byte_prog_time_max
    && time_formed r.prog_multiplier (byte_time r.succ_byte_prog) t.succ_byte_prog_time_typ t.succ_byte_prog_time_max
    && time_formed r.prog_multiplier (page_time r.page_prog) t.page_prog_time_typ t.page_prog_time_max

-- a page: a power of two up to 32,768
unfoldable pub page_formed : ℕ → Bool
page_formed n = power 32 n && leb n 32768

-- dwords 1 and 2: major 1, a write-enable of 06 or 50, no reserved code of the address bytes, a density
unfoldable pub first_formed : FlashParams → Bool
first_formed p =
    eqb p.version_major 1
    && (eqb p.legacy_volatile_write_en_inst 0x06 || eqb p.legacy_volatile_write_en_inst 0x50)
    && ltb (address_code p.address_bytes) 3
    && density_formed p.density

-- dwords 8 to 16: they are known, and the volatility is no reserved code
unfoldable pub rest_formed : FlashParams → Bool
rest_formed p =
    p.jesd216a && ltb 0 (volatility_code p.status_1_vol) && page_formed p.page_size && raw_formed p.raw
    && timing_formed p.raw p.timing && types_formed p.raw.erase_multiplier p.erase_insts

-- all of them
unfoldable pub formed : FlashParams → Bool
formed p = first_formed p && rest_formed p
