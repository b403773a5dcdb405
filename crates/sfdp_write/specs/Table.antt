-- The basic parameter table of given parameters: 16 dwords in the standard's order, each field by its bits. What no parameter gives is 0.
use Rattle.std.specs.Prelude.{ℕ, ◌+◌, ◌-◌, ◌*◌, ◌%◌, ◌^◌, List, [], ◌∷◌, Bool, cond, eqb, leb}
use Rattle.std.specs.Int.Count.{count_trailing_zeros}
use Rattle.dwords.specs.Dwords.{bits}
use Rattle.sfdp.specs.declared.SFDPAddressBytes.{SFDPAddressBytes}
use Rattle.sfdp.specs.declared.SFDPAddressBytes.TheVariants as Address
use Rattle.sfdp.specs.declared.SFDPEraseInst.{SFDPEraseInst}
use Rattle.sfdp.specs.declared.SFDPEraseInsts.{SFDPEraseInsts}
use Rattle.sfdp.specs.declared.SFDPStatus1Volatility.{SFDPStatus1Volatility}
use Rattle.sfdp.specs.declared.SFDPStatus1Volatility.TheVariants as Status1
use Rattle.sfdp.specs.declared.SFDPRawTimes.{SFDPRawTimes}
use Rattle.sfdp.specs.declared.FlashParams.{FlashParams}

-- a number in bits hi:lo of a dword
abbrev pub placed : ℕ → ℕ → ℕ → ℕ
placed hi lo x = x % 2 ^ (hi - lo + 1) * 2 ^ lo

-- a yes is 1, a no is 0
abbrev pub mark : Bool → ℕ
mark b = cond b 1 0

-- the exponent of a power of two, a number of w bits: the zeros below its one set bit
abbrev pub exponent : ℕ → ℕ → ℕ
exponent w n = count_trailing_zeros w n

-- ---- dword 1: three, three or four, four; 4 KiB erase is supported (01) or not (11); write-enable 06 or 50
unfoldable pub address_code : SFDPAddressBytes → ℕ
address_code Address.Three = 0
address_code Address.ThreeOrFour = 1
address_code Address.Four = 2
address_code Address.Reserved = 3

unfoldable pub dword1 : FlashParams → ℕ
dword1 p =
    placed 1 0 (cond p.legacy_4kb_erase_supported 1 3)
    + placed 2 2 (mark p.legacy_byte_write_granularity)
    + placed 3 3 (mark p.legacy_block_protect_volatile)
    + placed 4 4 (mark (eqb p.legacy_volatile_write_en_inst 0x06))
    + placed 15 8 p.legacy_4kb_erase_inst
    + placed 18 17 (address_code p.address_bytes)

-- ---- dword 2: up to 2,147,483,648 bits the density less 1; above, bit 31 and the exponent
unfoldable pub dword2 : ℕ → ℕ
dword2 density =
    cond (leb density 2147483648)
    (placed 30 0 (density - 1))
    (placed 30 0 (exponent 64 density) + placed 31 31 1)

-- ---- dwords 8 and 9: two erase types each, exponent and opcode; 0 and 0 where there is none
unfoldable pub size_field : ℕ → ℕ
size_field size = cond (eqb size 0) 0 (exponent 32 size)

unfoldable pub types_dword : SFDPEraseInst → SFDPEraseInst → ℕ
types_dword a b =
    placed 7 0 (size_field a.size)
    + placed 15 8 a.opcode
    + placed 23 16 (size_field b.size)
    + placed 31 24 b.opcode

-- ---- dword 10: the multiplier of erases, the four types' times
unfoldable pub dword10 : (multiplier t1 t2 t3 t4 : ℕ) → ℕ
dword10 multiplier t1 t2 t3 t4 =
    placed 3 0 multiplier
    + placed 10 4 t1
    + placed 17 11 t2
    + placed 24 18 t3
    + placed 31 25 t4

abbrev pub times_dword : ℕ → SFDPEraseInsts → ℕ
times_dword multiplier s =
    dword10 multiplier s.inst1.time_raw s.inst2.time_raw s.inst3.time_raw s.inst4.time_raw

-- ---- dword 11: the multiplier of programs, the page's exponent, and the times of a page, the first byte, later bytes, the chip
unfoldable pub dword11 : ℕ → SFDPRawTimes → ℕ
dword11 page r =
    placed 3 0 r.prog_multiplier
    + placed 7 4 (exponent 32 page)
    + placed 13 8 r.page_prog
    + placed 18 14 r.first_byte_prog
    + placed 23 19 r.succ_byte_prog
    + placed 30 24 r.chip_erase

-- ---- dword 14: poll by status 1, by flag status
unfoldable pub dword14 : FlashParams → ℕ
dword14 p = placed 2 2 (mark p.busy_poll_status) + placed 3 3 (mark p.busy_poll_flag)

-- ---- dword 16: volatility, one bit of five; reset by F0 and by 66/99; exit 4-byte addresses by E9, enter them by B7
unfoldable pub volatility_code : SFDPStatus1Volatility → ℕ
volatility_code Status1.NonVolatile06 = 1
volatility_code Status1.Volatile06 = 2
volatility_code Status1.Volatile50 = 4
volatility_code Status1.NonVolatile06Volatile50 = 8
volatility_code Status1.Mixed06 = 16
volatility_code Status1.Reserved = 0

unfoldable pub dword16 : FlashParams → ℕ
dword16 p =
    placed 4 0 (volatility_code p.status_1_vol)
    + placed 11 11 (mark p.reset_inst_f0)
    + placed 12 12 (mark p.reset_inst_66_99)
    + placed 14 14 (mark p.exit_4byte_e9)
    + placed 24 24 (mark p.enter_4byte_b7)

-- ---- the table
unfoldable pub dwords_of : FlashParams → List ℕ
dwords_of p =
    dword1 p
    ∷ dword2 p.density
    ∷ 0
    ∷ 0
    ∷ 0
    ∷ 0
    ∷ 0
    ∷ types_dword p.erase_insts.inst1 p.erase_insts.inst2
    ∷ types_dword p.erase_insts.inst3 p.erase_insts.inst4
    ∷ times_dword p.raw.erase_multiplier p.erase_insts
    ∷ dword11 p.page_size p.raw
    ∷ 0
    ∷ 0
    ∷ dword14 p
    ∷ 0
    ∷ dword16 p
    ∷ []

-- dwords as bytes, the lowest first
unfoldable pub bytes_of : List ℕ → List ℕ
bytes_of [] = []
bytes_of (d ∷ l) = bits d 7 0 ∷ bits d 15 8 ∷ bits d 23 16 ∷ bits d 31 24 ∷ bytes_of l

unfoldable pub table_of : FlashParams → List ℕ
table_of p = bytes_of (dwords_of p)
