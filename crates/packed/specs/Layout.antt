-- A session as 64 words of 32 bits, and as 256 bytes, each word's lowest byte first.
--
--   word     bytes, the lowest first
--   0        version, always 1 | whether there are parameters | address bytes | whether a capacity is set
--   1, 2     capacity, low and high word
--   3        page size
--   4        erase size
--   5        erase opcode | 0 | poll limit in two bytes
--   6        the parameters: major | minor | address bytes, by its number | status 1 volatility, by its number
--   7, 8     density, low and high word
--   9        whether 4 KiB erase is supported | its opcode | write-enable opcode | whether block protect is volatile
--   10       byte write granularity | jesd216a | poll by flag status | poll by status 1
--   11       reset by F0 | reset by 66/99 | exit 4-byte by E9 | enter 4-byte by B7
--   12       page size of the parameters
--   13       multiplier of erases | multiplier of programs | chip erase time | first byte's time, as in the table
--   14       later bytes' time | page time, as in the table | 0 | 0
--   15 .. 19 erase instruction 1: opcode | timed | time as in the table | 0; size; typical time; maximum, low and high word
--   20 .. 34 erase instructions 2, 3 and 4, likewise
--   35 .. 46 chip erase, first byte, later bytes, page: for each the typical time, and the maximum's low and high word
--   47, 48   polls, low and high word
--   49       phase | command, by their numbers | answer, by its number | whether the 06 was answered
--   50       polls left, in two bytes | whether the job is verified | the command's yes or no
--   51 .. 54 the job: from, last, base, top
--   55 .. 57 three numbers of the command, or of the answer
--   58 .. 63 0
--
-- A yes is 1 and a no is 0. What a case does not use is 0; without parameters words 6 to 46 are 0.
use Rattle.std.specs.Prelude.{ℕ, ◌+◌, ◌*◌, Bool, false, cond, List, [], ◌∷◌, ◌++◌, length, get_or, eqb, Some, None, is_some, unwrap_or}
use Rattle.sfdp.specs.Jesd216.{no_type, no_params}
use Rattle.sfdp.specs.declared.SFDPAddressBytes.{SFDPAddressBytes}
use Rattle.sfdp.specs.declared.SFDPAddressBytes.TheVariants as Address
use Rattle.sfdp.specs.declared.SFDPStatus1Volatility.{SFDPStatus1Volatility}
use Rattle.sfdp.specs.declared.SFDPStatus1Volatility.TheVariants as Status1
use Rattle.sfdp.specs.declared.SFDPEraseInst.{SFDPEraseInst}
use Rattle.sfdp.specs.declared.SFDPEraseInsts.{SFDPEraseInsts}
use Rattle.sfdp.specs.declared.SFDPTiming.{SFDPTiming}
use Rattle.sfdp.specs.declared.SFDPRawTimes.{SFDPRawTimes}
use Rattle.sfdp.specs.declared.FlashParams.{FlashParams}
use Rattle.settings.specs.declared.Settings.{Settings}
use Rattle.phases.specs.declared.Job.{Job}
use Rattle.flash.specs.declared.Session.{Session}
use Rattle.packed.specs.declared.Place.{Place}
use Rattle.packed.specs.Numbers.{word, byte0, byte1, byte2, byte3, halves, low_half, high_half, bit_of, flag_of, flags_word, low_of, high_of, wide_of, bytes, words}
use Rattle.packed.specs.Phases.{slots, place, place_of, phase_in}

-- ---- enums by number
unfoldable pub address_code : SFDPAddressBytes → ℕ
address_code Address.Three = 0
address_code Address.ThreeOrFour = 1
address_code Address.Four = 2
address_code Address.Reserved = 3

unfoldable pub address_in : ℕ → SFDPAddressBytes
address_in n = get_or (Address.Three ∷ Address.ThreeOrFour ∷ Address.Four ∷ []) n Address.Reserved

unfoldable pub volatility_code : SFDPStatus1Volatility → ℕ
volatility_code Status1.NonVolatile06 = 0
volatility_code Status1.Volatile06 = 1
volatility_code Status1.Volatile50 = 2
volatility_code Status1.NonVolatile06Volatile50 = 3
volatility_code Status1.Mixed06 = 4
volatility_code Status1.Reserved = 5

unfoldable pub volatility_in : ℕ → SFDPStatus1Volatility
volatility_in n =
    get_or
    (Status1.NonVolatile06 ∷ Status1.Volatile06 ∷ Status1.Volatile50 ∷ Status1.NonVolatile06Volatile50 ∷ Status1.Mixed06 ∷ [])
    n
    Status1.Reserved

-- ---- the parts as words
abbrev pub settings_words : Settings → Bool → List ℕ
settings_words s known =
    word 1 (bit_of known) s.address_bytes (bit_of (is_some s.capacity))
    ∷ low_of (unwrap_or s.capacity 0)
    ∷ high_of (unwrap_or s.capacity 0)
    ∷ s.page_size
    ∷ s.erase_size
    ∷ halves s.erase_opcode s.poll_limit
    ∷ []

abbrev pub params_words : FlashParams → List ℕ
params_words p =
    word p.version_major p.version_minor (address_code p.address_bytes) (volatility_code p.status_1_vol)
    ∷ low_of p.density
    ∷ high_of p.density
    ∷ word (bit_of p.legacy_4kb_erase_supported) p.legacy_4kb_erase_inst p.legacy_volatile_write_en_inst (bit_of p.legacy_block_protect_volatile)
    ∷ flags_word p.legacy_byte_write_granularity p.jesd216a p.busy_poll_flag p.busy_poll_status
    ∷ flags_word p.reset_inst_f0 p.reset_inst_66_99 p.exit_4byte_e9 p.enter_4byte_b7
    ∷ p.page_size
    ∷ word p.raw.erase_multiplier p.raw.prog_multiplier p.raw.chip_erase p.raw.first_byte_prog
    ∷ word p.raw.succ_byte_prog p.raw.page_prog 0 0
    ∷ []

abbrev pub inst_words : SFDPEraseInst → List ℕ
inst_words i = word i.opcode (bit_of i.timed) i.time_raw 0 ∷ i.size ∷ i.time_typ ∷ low_of i.time_max ∷ high_of i.time_max ∷ []

abbrev pub timing_words : SFDPTiming → List ℕ
timing_words t =
    t.chip_erase_time_typ
    ∷ low_of t.chip_erase_time_max
    ∷ high_of t.chip_erase_time_max
    ∷ t.first_byte_prog_time_typ
    ∷ low_of t.first_byte_prog_time_max
    ∷ high_of t.first_byte_prog_time_max
    ∷ t.succ_byte_prog_time_typ
    ∷ low_of t.succ_byte_prog_time_max
    ∷ high_of t.succ_byte_prog_time_max
    ∷ t.page_prog_time_typ
    ∷ low_of t.page_prog_time_max
    ∷ high_of t.page_prog_time_max
    ∷ []

unfoldable pub place_head : Place → ℕ
place_head p = word p.phase p.slots.command p.answer (bit_of p.enabled)

unfoldable pub place_next : Place → ℕ
place_next p = halves p.left (bit_of p.slots.job.verified + 256 * bit_of p.slots.flag)

-- with the job's numbers and the command's or the answer's
abbrev pub place_words : Place → List ℕ
place_words p =
    let c = p.slots in
    place_head p ∷ place_next p ∷ c.job.from ∷ c.job.last ∷ c.job.base ∷ c.job.top ∷ c.a ∷ c.b ∷ c.c ∷ []

-- the parameters whose words are all 0
abbrev pub blank : FlashParams
blank = record {
  version_major = 0;
  version_minor = 0;
  address_bytes = Address.Three;
  density = 0;
  legacy_4kb_erase_supported = false;
  legacy_4kb_erase_inst = 0;
  legacy_volatile_write_en_inst = 0;
  legacy_block_protect_volatile = false;
  legacy_byte_write_granularity = false;
  erase_insts = record { inst1 = no_type; inst2 = no_type; inst3 = no_type; inst4 = no_type };
  jesd216a = false;
  timing = record {
    chip_erase_time_typ = 0;
    chip_erase_time_max = 0;
    first_byte_prog_time_typ = 0;
    first_byte_prog_time_max = 0;
    succ_byte_prog_time_typ = 0;
    succ_byte_prog_time_max = 0;
    page_prog_time_typ = 0;
    page_prog_time_max = 0;
  };
  raw = record {
    erase_multiplier = 0;
    prog_multiplier = 0;
    chip_erase = 0;
    first_byte_prog = 0;
    succ_byte_prog = 0;
    page_prog = 0;
  };
  page_size = 0;
  busy_poll_flag = false;
  busy_poll_status = false;
  reset_inst_f0 = false;
  reset_inst_66_99 = false;
  status_1_vol = Status1.NonVolatile06;
  exit_4byte_e9 = false;
  enter_4byte_b7 = false;
}

-- the parameters that are written
unfoldable pub shown : Session → FlashParams
shown s = cond s.known s.params blank

-- ---- the 64 words, and the 256 bytes
-- with these parameters and in this place
abbrev pub row_of : Session → FlashParams → Place → List ℕ
row_of s p at =
    settings_words s.settings s.known
    ++ (params_words p
    ++ (inst_words p.erase_insts.inst1
    ++ (inst_words p.erase_insts.inst2
    ++ (inst_words p.erase_insts.inst3
    ++ (inst_words p.erase_insts.inst4
    ++ (timing_words p.timing
    ++ (low_of s.polls ∷ high_of s.polls ∷ []
    ++ (place_words at
    ++ (0 ∷ 0 ∷ 0 ∷ 0 ∷ 0 ∷ 0 ∷ [])))))))))

unfoldable pub to_words : Session → List ℕ
to_words s = row_of s (shown s) (place_of s.phase)

abbrev pub bytes_of : Session → List ℕ
bytes_of s = bytes (to_words s)

-- ---- and back
unfoldable pub settings_in : List ℕ → Settings
settings_in w = record {
  address_bytes = byte2 (get_or w 0 0);
  capacity = cond (flag_of (byte3 (get_or w 0 0))) (Some (wide_of (get_or w 1 0) (get_or w 2 0))) None;
  page_size = get_or w 3 0;
  erase_size = get_or w 4 0;
  erase_opcode = byte0 (get_or w 5 0);
  poll_limit = high_half (get_or w 5 0);
}

-- the erase instruction from word i on
unfoldable pub inst_in : List ℕ → ℕ → SFDPEraseInst
inst_in w i = record {
  opcode = byte0 (get_or w i 0);
  size = get_or w (i + 1) 0;
  timed = flag_of (byte1 (get_or w i 0));
  time_typ = get_or w (i + 2) 0;
  time_max = wide_of (get_or w (i + 3) 0) (get_or w (i + 4) 0);
  time_raw = byte2 (get_or w i 0);
}

unfoldable pub insts_in : List ℕ → SFDPEraseInsts
insts_in w = record { inst1 = inst_in w 15; inst2 = inst_in w 20; inst3 = inst_in w 25; inst4 = inst_in w 30 }

unfoldable pub timing_in : List ℕ → SFDPTiming
timing_in w = record {
  chip_erase_time_typ = get_or w 35 0;
  chip_erase_time_max = wide_of (get_or w 36 0) (get_or w 37 0);
  first_byte_prog_time_typ = get_or w 38 0;
  first_byte_prog_time_max = wide_of (get_or w 39 0) (get_or w 40 0);
  succ_byte_prog_time_typ = get_or w 41 0;
  succ_byte_prog_time_max = wide_of (get_or w 42 0) (get_or w 43 0);
  page_prog_time_typ = get_or w 44 0;
  page_prog_time_max = wide_of (get_or w 45 0) (get_or w 46 0);
}

unfoldable pub raw_in : List ℕ → SFDPRawTimes
raw_in w = record {
  erase_multiplier = byte0 (get_or w 13 0);
  prog_multiplier = byte1 (get_or w 13 0);
  chip_erase = byte2 (get_or w 13 0);
  first_byte_prog = byte3 (get_or w 13 0);
  succ_byte_prog = byte0 (get_or w 14 0);
  page_prog = byte1 (get_or w 14 0);
}

unfoldable pub params_in : List ℕ → FlashParams
params_in w = record {
  version_major = byte0 (get_or w 6 0);
  version_minor = byte1 (get_or w 6 0);
  address_bytes = address_in (byte2 (get_or w 6 0));
  density = wide_of (get_or w 7 0) (get_or w 8 0);
  legacy_4kb_erase_supported = flag_of (byte0 (get_or w 9 0));
  legacy_4kb_erase_inst = byte1 (get_or w 9 0);
  legacy_volatile_write_en_inst = byte2 (get_or w 9 0);
  legacy_block_protect_volatile = flag_of (byte3 (get_or w 9 0));
  legacy_byte_write_granularity = flag_of (byte0 (get_or w 10 0));
  erase_insts = insts_in w;
  jesd216a = flag_of (byte1 (get_or w 10 0));
  timing = timing_in w;
  raw = raw_in w;
  page_size = get_or w 12 0;
  busy_poll_flag = flag_of (byte2 (get_or w 10 0));
  busy_poll_status = flag_of (byte3 (get_or w 10 0));
  reset_inst_f0 = flag_of (byte0 (get_or w 11 0));
  reset_inst_66_99 = flag_of (byte1 (get_or w 11 0));
  status_1_vol = volatility_in (byte3 (get_or w 6 0));
  exit_4byte_e9 = flag_of (byte2 (get_or w 11 0));
  enter_4byte_b7 = flag_of (byte3 (get_or w 11 0));
}

unfoldable pub known_in : List ℕ → Bool
known_in w = flag_of (byte1 (get_or w 0 0))

-- without parameters, those that stand for none
unfoldable pub params_or_none : List ℕ → FlashParams
params_or_none w = cond (known_in w) (params_in w) no_params

unfoldable pub job_in : List ℕ → Job
job_in w = record {
  from = get_or w 51 0;
  last = get_or w 52 0;
  base = get_or w 53 0;
  top = get_or w 54 0;
  verified = flag_of (byte2 (get_or w 50 0));
}

unfoldable pub place_in : List ℕ → Place
place_in w =
    place
    (byte0 (get_or w 49 0))
    (byte2 (get_or w 49 0))
    (flag_of (byte3 (get_or w 49 0)))
    (low_half (get_or w 50 0))
    (slots (byte1 (get_or w 49 0)) (flag_of (byte3 (get_or w 50 0))) (job_in w) (get_or w 55 0) (get_or w 56 0) (get_or w 57 0))

unfoldable pub from_words : List ℕ → Session
from_words w = record {
  settings = settings_in w;
  known = known_in w;
  params = params_or_none w;
  phase = phase_in (place_in w);
  polls = wide_of (get_or w 47 0) (get_or w 48 0);
}

-- the session in bytes; a byte that is not there reads as 0
abbrev pub session_in : List ℕ → Session
session_in b = from_words (words 64 b)

-- what a session's bytes make of lent ones: 256 are written, any other number stays
abbrev pub put_over : Session → List ℕ → List ℕ
put_over s out = cond (eqb (length out) 256) (bytes_of s) out
