-- The parameters as 24 numbers of 64 bits. Without parameters all are 0.
use Rattle.std.specs.Prelude.{ℕ, ◌+◌, ◌*◌, Bool, true, false, cond, List, [], ◌∷◌, replicate}
use Rattle.sfdp.specs.declared.FlashParams.{FlashParams}
use Rattle.sfdp.specs.declared.SFDPEraseInst.{SFDPEraseInst}
use Rattle.sfdp.specs.declared.SFDPAddressBytes.{SFDPAddressBytes}
use Rattle.sfdp.specs.declared.SFDPAddressBytes.TheVariants as Address
use Rattle.sfdp.specs.declared.SFDPStatus1Volatility.{SFDPStatus1Volatility}
use Rattle.sfdp.specs.declared.SFDPStatus1Volatility.TheVariants as Volatility

abbrev pub bit : Bool → ℕ
bit true = 1
bit false = 0

-- the number of some bytes, the lowest first
abbrev pub low_first : List ℕ → ℕ
low_first [] = 0
low_first (x ∷ l) = x + 256 * low_first l

-- the enums by number
abbrev pub address_code : SFDPAddressBytes → ℕ
address_code Address.Three = 0
address_code Address.ThreeOrFour = 1
address_code Address.Four = 2
address_code Address.Reserved = 3

abbrev pub volatility_code : SFDPStatus1Volatility → ℕ
volatility_code Volatility.NonVolatile06 = 0
volatility_code Volatility.Volatile06 = 1
volatility_code Volatility.Volatile50 = 2
volatility_code Volatility.NonVolatile06Volatile50 = 3
volatility_code Volatility.Mixed06 = 4
volatility_code Volatility.Reserved = 5

-- known, dwords 10 to 16 known, major, minor, address bytes, 4 KiB erase and its opcode, the write-enable for volatile bits
abbrev pub head_word : FlashParams → ℕ
head_word p =
    low_first (1 ∷ bit p.jesd216a ∷ p.version_major ∷ p.version_minor ∷ address_code p.address_bytes
    ∷ bit p.legacy_4kb_erase_supported ∷ p.legacy_4kb_erase_inst ∷ p.legacy_volatile_write_en_inst ∷ [])

-- volatile protect bits, write granularity, poll by flag status, by status 1, reset by F0, by 66 and 99, E9 leaves 4-byte addresses, B7
-- enters them
abbrev pub marks_word : FlashParams → ℕ
marks_word p =
    low_first (bit p.legacy_block_protect_volatile ∷ bit p.legacy_byte_write_granularity ∷ bit p.busy_poll_flag
    ∷ bit p.busy_poll_status ∷ bit p.reset_inst_f0 ∷ bit p.reset_inst_66_99 ∷ bit p.exit_4byte_e9 ∷ bit p.enter_4byte_b7 ∷ [])

-- byte 0 the volatility of status 1, from byte 4 on the page size
abbrev pub page_word : FlashParams → ℕ
page_word p = volatility_code p.status_1_vol + 4294967296 * p.page_size

-- an erase type: byte 0 its opcode, byte 1 whether its times are known, from byte 4 on its size
abbrev pub type_head : SFDPEraseInst → ℕ
type_head i = i.opcode + 256 * bit i.timed + 4294967296 * i.size

-- head, marks, page and density; four erase types, each with its typical and its maximum time; page write, chip erase, first byte and
-- later bytes, typical and maximum. Times are in µs
abbrev pub params_words : FlashParams → List ℕ
params_words p =
    let ts = p.erase_insts in
    let t = p.timing in
    head_word p ∷ marks_word p ∷ page_word p ∷ p.density
    ∷ type_head ts.inst1 ∷ ts.inst1.time_typ ∷ ts.inst1.time_max
    ∷ type_head ts.inst2 ∷ ts.inst2.time_typ ∷ ts.inst2.time_max
    ∷ type_head ts.inst3 ∷ ts.inst3.time_typ ∷ ts.inst3.time_max
    ∷ type_head ts.inst4 ∷ ts.inst4.time_typ ∷ ts.inst4.time_max
    ∷ t.page_prog_time_typ ∷ t.page_prog_time_max ∷ t.chip_erase_time_typ ∷ t.chip_erase_time_max
    ∷ t.first_byte_prog_time_typ ∷ t.first_byte_prog_time_max ∷ t.succ_byte_prog_time_typ ∷ t.succ_byte_prog_time_max ∷ []

abbrev pub shown_words : Bool → FlashParams → List ℕ
shown_words known p = cond known (params_words p) (replicate 24 0)
