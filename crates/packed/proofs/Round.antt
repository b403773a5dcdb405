-- A session whose bytes are read back is the session.
use Rattle.std.proofs.Common.{Option, Some, None, is_some, unwrap_or, cond}
use Prim.Native.Nat.{ℕ, zero, suc, ◌+◌, ◌*◌, ◌^◌, ◌<◌}
use native.Mathlib.Omega.{arith}
use mathlib.Core.Path.{◌≡◌, refl, sym, ap, ◌∙◌}
use mathlib.Core.Bool.{Bool, true, false, cond}
use mathlib.Core.List.{List, [], ◌∷◌, ◌++◌}
use lib.ListN.{get_or, drop}
use Rattle.sfdp.specs.Jesd216.{no_params}
use Rattle.erase_plan.specs.Good.{Each}
use Rattle.sfdp.specs.declared.SFDPAddressBytes.{SFDPAddressBytes}
use Rattle.sfdp.specs.declared.SFDPAddressBytes.TheVariants as Address
use Rattle.sfdp.specs.declared.SFDPStatus1Volatility.{SFDPStatus1Volatility}
use Rattle.sfdp.specs.declared.SFDPStatus1Volatility.TheVariants as Status1
use Rattle.sfdp.specs.declared.SFDPEraseInst.{SFDPEraseInst}
use Rattle.sfdp.specs.declared.SFDPTiming.{SFDPTiming}
use Rattle.sfdp.specs.declared.FlashParams.{FlashParams}
use Rattle.settings.specs.declared.Settings.{Settings}
use Rattle.flash.specs.declared.Session.{Session}
use Rattle.packed.specs.declared.Place.{Place}
use Rattle.packed.specs.Numbers.{word, byte0, byte1, byte2, byte3, halves, low_half, high_half, bit_of, flag_of, flags_word, low_of, high_of, wide_of, words}
use Rattle.packed.specs.Phases.{place_of, phase_in}
use Rattle.packed.specs.Layout.{address_code, address_in, volatility_code, volatility_in, settings_words, params_words, inst_words, timing_words, place_head, place_next, place_words, blank, shown, row_of, to_words, bytes_of, settings_in, inst_in, insts_in, timing_in, raw_in, params_in, known_in, params_or_none, job_in, place_in, from_words, session_in}
use Rattle.packed.specs.Typed.{U8, U16, U32, U64, TypedSettings, TypedInst, TypedInsts, TypedTiming, TypedRaw, TypedParams, Typed}
use Rattle.packed.proofs.Bytes.{byte0_word, byte1_word, byte2_word, byte3_word, words_of_bytes}
use Rattle.packed.proofs.Rows.{length_to_words}
use Rattle.packed.proofs.Places.{word_fits, none8, none32, none64, inst_none, flag_bit, wide_halves, low_fits, high_fits, bit_fits, phase_back, FitsPlace, place_fits}

-- ---- marks in a word
flag0 : (a : Bool) (b c d : ℕ) → flag_of (byte0 (word (bit_of a) b c d)) ≡ a
flag0 a b c d = ap flag_of (byte0_word (bit_of a) b c d (bit_fits a)) ∙ flag_bit a

flag1 : (a : ℕ) (b : Bool) (c d : ℕ) → U8 a → flag_of (byte1 (word a (bit_of b) c d)) ≡ b
flag1 a b c d ha = ap flag_of (byte1_word a (bit_of b) c d ha (bit_fits b)) ∙ flag_bit b

flag2 : (a b : ℕ) (c : Bool) (d : ℕ) → U8 a → U8 b → flag_of (byte2 (word a b (bit_of c) d)) ≡ c
flag2 a b c d ha hb = ap flag_of (byte2_word a b (bit_of c) d ha hb (bit_fits c)) ∙ flag_bit c

flag3 : (a b c : ℕ) (d : Bool) → U8 a → U8 b → U8 c → flag_of (byte3 (word a b c (bit_of d))) ≡ d
flag3 a b c d ha hb hc = ap flag_of (byte3_word a b c (bit_of d) ha hb hc (bit_fits d)) ∙ flag_bit d

-- ---- enums
address_back : (a : SFDPAddressBytes) → address_in (address_code a) ≡ a
unfolding address_in address_code
address_back Address.Three = refl
address_back Address.ThreeOrFour = refl
address_back Address.Four = refl
address_back Address.Reserved = refl

address_fits : (a : SFDPAddressBytes) → U8 (address_code a)
unfolding address_code
address_fits Address.Three = omega arith
address_fits Address.ThreeOrFour = omega arith
address_fits Address.Four = omega arith
address_fits Address.Reserved = omega arith

volatility_back : (v : SFDPStatus1Volatility) → volatility_in (volatility_code v) ≡ v
unfolding volatility_in volatility_code
volatility_back Status1.NonVolatile06 = refl
volatility_back Status1.Volatile06 = refl
volatility_back Status1.Volatile50 = refl
volatility_back Status1.NonVolatile06Volatile50 = refl
volatility_back Status1.Mixed06 = refl
volatility_back Status1.Reserved = refl

volatility_fits : (v : SFDPStatus1Volatility) → U8 (volatility_code v)
unfolding volatility_code
volatility_fits Status1.NonVolatile06 = omega arith
volatility_fits Status1.Volatile06 = omega arith
volatility_fits Status1.Volatile50 = omega arith
volatility_fits Status1.NonVolatile06Volatile50 = omega arith
volatility_fits Status1.Mixed06 = omega arith
volatility_fits Status1.Reserved = omega arith

-- ---- the settings
one_fits : U8 1
one_fits = omega arith

opcode_half : (l h : ℕ) → U8 l → byte0 (halves l h) ≡ l
opcode_half l h hl = omega arith

limit_half : (l h : ℕ) → U8 l → high_half (halves l h) ≡ h
limit_half l h hl = omega arith

known_back : (s : Settings) (known : Bool) (rest : List ℕ) → known_in (settings_words s known ++ rest) ≡ known
unfolding known_in
known_back s known rest = flag1 1 known s.address_bytes (bit_of (is_some s.capacity)) one_fits

-- a capacity from its mark and its number
capacity_back : (o : Option ℕ) {b : Bool} {n : ℕ} → b ≡ is_some o → n ≡ unwrap_or o 0 → cond b (Some n) None ≡ o
capacity_back (Some x) e h = rw (e, h)
capacity_back None e h = rw e

settings_back : (s : Settings) (known : Bool) (rest : List ℕ) → TypedSettings s → settings_in (settings_words s known ++ rest) ≡ s
unfolding settings_in
settings_back s known rest t = λ i. record {
  address_bytes = byte2_word 1 (bit_of known) s.address_bytes (bit_of (is_some s.capacity)) one_fits (bit_fits known) t.address_bytes i;
  capacity = capacity_back s.capacity (flag3 1 (bit_of known) s.address_bytes (is_some s.capacity) one_fits (bit_fits known) t.address_bytes) (wide_halves (unwrap_or s.capacity 0)) i;
  page_size = s.page_size;
  erase_size = s.erase_size;
  erase_opcode = opcode_half s.erase_opcode s.poll_limit t.erase_opcode i;
  poll_limit = limit_half s.erase_opcode s.poll_limit t.erase_opcode i;
}

-- ---- the parameters
inst_back : (w : List ℕ) (n : ℕ) (x : SFDPEraseInst) → TypedInst x
    → get_or w n 0 ≡ word x.opcode (bit_of x.timed) x.time_raw 0
    → get_or w (n + 1) 0 ≡ x.size
    → get_or w (n + 2) 0 ≡ x.time_typ
    → get_or w (n + 3) 0 ≡ low_of x.time_max
    → get_or w (n + 4) 0 ≡ high_of x.time_max
    → inst_in w n ≡ x
unfolding inst_in
inst_back w n x t h0 h1 h2 h3 h4 = λ i. record {
  opcode = (ap byte0 h0 ∙ byte0_word x.opcode (bit_of x.timed) x.time_raw 0 t.opcode) i;
  size = h1 i;
  timed = (ap (λ (y : ℕ). flag_of (byte1 y)) h0 ∙ flag1 x.opcode x.timed x.time_raw 0 t.opcode) i;
  time_typ = h2 i;
  time_max = (ap (λ (y : ℕ). wide_of y (get_or w (n + 4) 0)) h3 ∙ ap (λ (y : ℕ). wide_of (low_of x.time_max) y) h4 ∙ wide_halves x.time_max) i;
  time_raw = (ap byte2 h0 ∙ byte2_word x.opcode (bit_of x.timed) x.time_raw 0 t.opcode (bit_fits x.timed) t.time_raw) i;
}

module _ (s : Session) (p : FlashParams) (at : Place) where
  insts_back : TypedInsts p.erase_insts → insts_in (row_of s p at) ≡ p.erase_insts
  unfolding insts_in
  insts_back t = λ i. record {
    inst1 = inst_back (row_of s p at) 15 p.erase_insts.inst1 t.inst1 refl refl refl refl refl i;
    inst2 = inst_back (row_of s p at) 20 p.erase_insts.inst2 t.inst2 refl refl refl refl refl i;
    inst3 = inst_back (row_of s p at) 25 p.erase_insts.inst3 t.inst3 refl refl refl refl refl i;
    inst4 = inst_back (row_of s p at) 30 p.erase_insts.inst4 t.inst4 refl refl refl refl refl i;
  }

  timing_back : timing_in (row_of s p at) ≡ p.timing
  unfolding timing_in
  timing_back = λ i. record {
    chip_erase_time_typ = p.timing.chip_erase_time_typ;
    chip_erase_time_max = wide_halves p.timing.chip_erase_time_max i;
    first_byte_prog_time_typ = p.timing.first_byte_prog_time_typ;
    first_byte_prog_time_max = wide_halves p.timing.first_byte_prog_time_max i;
    succ_byte_prog_time_typ = p.timing.succ_byte_prog_time_typ;
    succ_byte_prog_time_max = wide_halves p.timing.succ_byte_prog_time_max i;
    page_prog_time_typ = p.timing.page_prog_time_typ;
    page_prog_time_max = wide_halves p.timing.page_prog_time_max i;
  }

  raw_back : TypedRaw p.raw → raw_in (row_of s p at) ≡ p.raw
  unfolding raw_in
  raw_back t =
      let em = p.raw.erase_multiplier in
      let pm = p.raw.prog_multiplier in
      let ce = p.raw.chip_erase in
      let fb = p.raw.first_byte_prog in
      let sb = p.raw.succ_byte_prog in
      let pp = p.raw.page_prog in
      λ i. record {
        erase_multiplier = byte0_word em pm ce fb t.erase_multiplier i;
        prog_multiplier = byte1_word em pm ce fb t.erase_multiplier t.prog_multiplier i;
        chip_erase = byte2_word em pm ce fb t.erase_multiplier t.prog_multiplier t.chip_erase i;
        first_byte_prog = byte3_word em pm ce fb t.erase_multiplier t.prog_multiplier t.chip_erase t.first_byte_prog i;
        succ_byte_prog = byte0_word sb pp 0 0 t.succ_byte_prog i;
        page_prog = byte1_word sb pp 0 0 t.succ_byte_prog t.page_prog i;
      }

  params_back : TypedParams p → params_in (row_of s p at) ≡ p
  unfolding params_in
  params_back t =
      let major = p.version_major in
      let minor = p.version_minor in
      let ac = address_code p.address_bytes in
      let vc = volatility_code p.status_1_vol in
      let af : U8 ac = address_fits p.address_bytes in
      let vf : U8 vc = volatility_fits p.status_1_vol in
      let k4 = p.legacy_4kb_erase_supported in
      let op = p.legacy_4kb_erase_inst in
      let en = p.legacy_volatile_write_en_inst in
      let pv = p.legacy_block_protect_volatile in
      let f1 = p.legacy_byte_write_granularity in
      let f2 = p.jesd216a in
      let f3 = p.busy_poll_flag in
      let f4 = p.busy_poll_status in
      let g1 = p.reset_inst_f0 in
      let g2 = p.reset_inst_66_99 in
      let g3 = p.exit_4byte_e9 in
      let g4 = p.enter_4byte_b7 in
      λ i. record {
        version_major = byte0_word major minor ac vc t.version_major i;
        version_minor = byte1_word major minor ac vc t.version_major t.version_minor i;
        address_bytes = (ap address_in (byte2_word major minor ac vc t.version_major t.version_minor af) ∙ address_back p.address_bytes) i;
        density = wide_halves p.density i;
        legacy_4kb_erase_supported = flag0 k4 op en (bit_of pv) i;
        legacy_4kb_erase_inst = byte1_word (bit_of k4) op en (bit_of pv) (bit_fits k4) t.legacy_4kb_erase_inst i;
        legacy_volatile_write_en_inst = byte2_word (bit_of k4) op en (bit_of pv) (bit_fits k4) t.legacy_4kb_erase_inst t.legacy_volatile_write_en_inst i;
        legacy_block_protect_volatile = flag3 (bit_of k4) op en pv (bit_fits k4) t.legacy_4kb_erase_inst t.legacy_volatile_write_en_inst i;
        legacy_byte_write_granularity = flag0 f1 (bit_of f2) (bit_of f3) (bit_of f4) i;
        erase_insts = insts_back t.erase_insts i;
        jesd216a = flag1 (bit_of f1) f2 (bit_of f3) (bit_of f4) (bit_fits f1) i;
        timing = timing_back i;
        raw = raw_back t.raw i;
        page_size = p.page_size;
        busy_poll_flag = flag2 (bit_of f1) (bit_of f2) f3 (bit_of f4) (bit_fits f1) (bit_fits f2) i;
        busy_poll_status = flag3 (bit_of f1) (bit_of f2) (bit_of f3) f4 (bit_fits f1) (bit_fits f2) (bit_fits f3) i;
        reset_inst_f0 = flag0 g1 (bit_of g2) (bit_of g3) (bit_of g4) i;
        reset_inst_66_99 = flag1 (bit_of g1) g2 (bit_of g3) (bit_of g4) (bit_fits g1) i;
        status_1_vol = (ap volatility_in (byte3_word major minor ac vc t.version_major t.version_minor af vf) ∙ volatility_back p.status_1_vol) i;
        exit_4byte_e9 = flag2 (bit_of g1) (bit_of g2) g3 (bit_of g4) (bit_fits g1) (bit_fits g2) i;
        enter_4byte_b7 = flag3 (bit_of g1) (bit_of g2) (bit_of g3) g4 (bit_fits g1) (bit_fits g2) (bit_fits g3) i;
      }

-- ---- the place
left_half : (l : ℕ) (v f : Bool) → U16 l → low_half (halves l (bit_of v + 256 * bit_of f)) ≡ l
left_half l v f h = omega arith

verified_byte : (l v f : ℕ) → U16 l → U8 v → byte2 (halves l (v + 256 * f)) ≡ v
verified_byte l v f hl hv = omega arith

flag_byte : (l v f : ℕ) → U16 l → U8 v → U8 f → byte3 (halves l (v + 256 * f)) ≡ f
flag_byte l v f hl hv hf = omega arith

module _ (s : Session) (p : FlashParams) (at : Place) (h : FitsPlace at) where
  place_back : place_in (row_of s p at) ≡ at
  unfolding place_in job_in place_head place_next
  place_back =
      let c = at.slots in
      let j = c.job in
      λ i. record {
        phase = byte0_word at.phase c.command at.answer (bit_of at.enabled) h.phase i;
        answer = byte2_word at.phase c.command at.answer (bit_of at.enabled) h.phase h.slots.command h.answer i;
        enabled = flag3 at.phase c.command at.answer at.enabled h.phase h.slots.command h.answer i;
        left = left_half at.left j.verified c.flag h.left i;
        slots = record {
          command = byte1_word at.phase c.command at.answer (bit_of at.enabled) h.phase h.slots.command i;
          flag = (ap flag_of (flag_byte at.left (bit_of j.verified) (bit_of c.flag) h.left (bit_fits j.verified) (bit_fits c.flag)) ∙ flag_bit c.flag) i;
          job = record {
            from = j.from;
            last = j.last;
            base = j.base;
            top = j.top;
            verified = (ap flag_of (verified_byte at.left (bit_of j.verified) (bit_of c.flag) h.left (bit_fits j.verified)) ∙ flag_bit j.verified) i;
          };
          a = c.a;
          b = c.b;
          c = c.c;
        };
      }

-- ---- the session
chosen_back : (k : Bool) (q p : FlashParams) → (k ≡ false → p ≡ no_params) → (k ≡ true → q ≡ p) → cond k q no_params ≡ p
chosen_back true q p none f = f refl
chosen_back false q p none f = sym (none refl)

shown_known : (s : Session) → s.known ≡ true → shown s ≡ s.params
unfolding shown
shown_known s e = rw e

or_none_back : (s : Session) → Typed s → params_or_none (to_words s) ≡ s.params
unfolding params_or_none to_words
or_none_back s t =
    let at = place_of s.phase in
    ap (λ (k : Bool). cond k (params_in (row_of s (shown s) at)) no_params) (known_back s.settings s.known (drop 6 (to_words s)))
    ∙ chosen_back s.known (params_in (row_of s (shown s) at)) s.params t.none
    (λ e. ap (λ (p : FlashParams). params_in (row_of s p at)) (shown_known s e) ∙ params_back s s.params at t.params)

pub words_back : (s : Session) → Typed s → from_words (to_words s) ≡ s
unfolding from_words to_words
words_back s t = λ i. record {
  settings = settings_back s.settings s.known (drop 6 (to_words s)) t.settings i;
  known = known_back s.settings s.known (drop 6 (to_words s)) i;
  params = or_none_back s t i;
  phase = (ap phase_in (place_back s (shown s) (place_of s.phase) (place_fits s.phase t.phase)) ∙ phase_back s.phase t.phase) i;
  polls = wide_halves s.polls i;
}

-- ---- each word is below 2 ^ 32
halves_fits : (l h : ℕ) → U16 l → U16 h → U32 (halves l h)
halves_fits l h hl hh = omega arith

byte_half : (n : ℕ) → U8 n → U16 n
byte_half n h = omega arith

marks_fit : (v f : ℕ) → U8 v → U8 f → U16 (v + 256 * f)
marks_fit v f hv hf = omega arith

settings_each : (s : Settings) (known : Bool) (rest : List ℕ) → TypedSettings s → Each U32 rest → Each U32 (settings_words s known ++ rest)
settings_each s known rest t r = (
  word_fits 1 (bit_of known) s.address_bytes (bit_of (is_some s.capacity)) one_fits (bit_fits known) t.address_bytes (bit_fits (is_some s.capacity)),
  (
    low_fits (unwrap_or s.capacity 0),
    (
      high_fits (unwrap_or s.capacity 0) t.capacity,
      (
        t.page_size,
        (t.erase_size, (halves_fits s.erase_opcode s.poll_limit (byte_half s.erase_opcode t.erase_opcode) t.poll_limit, r)),
      ),
    ),
  ),
)

params_each : (p : FlashParams) (rest : List ℕ) → TypedParams p → Each U32 rest → Each U32 (params_words p ++ rest)
params_each p rest t r =
    let flags_fit : (a b c d : Bool) → U32 (flags_word a b c d) = λ a b c d. word_fits (bit_of a) (bit_of b) (bit_of c) (bit_of d) (bit_fits a) (bit_fits b) (bit_fits c) (bit_fits d) in (
      word_fits p.version_major p.version_minor (address_code p.address_bytes) (volatility_code p.status_1_vol) t.version_major t.version_minor (address_fits p.address_bytes) (volatility_fits p.status_1_vol),
      (
        low_fits p.density,
        (
          high_fits p.density t.density,
          (
            word_fits (bit_of p.legacy_4kb_erase_supported) p.legacy_4kb_erase_inst p.legacy_volatile_write_en_inst (bit_of p.legacy_block_protect_volatile) (bit_fits p.legacy_4kb_erase_supported) t.legacy_4kb_erase_inst t.legacy_volatile_write_en_inst (bit_fits p.legacy_block_protect_volatile),
            (
              flags_fit p.legacy_byte_write_granularity p.jesd216a p.busy_poll_flag p.busy_poll_status,
              (
                flags_fit p.reset_inst_f0 p.reset_inst_66_99 p.exit_4byte_e9 p.enter_4byte_b7,
                (
                  t.page_size,
                  (
                    word_fits p.raw.erase_multiplier p.raw.prog_multiplier p.raw.chip_erase p.raw.first_byte_prog t.raw.erase_multiplier t.raw.prog_multiplier t.raw.chip_erase t.raw.first_byte_prog,
                    (word_fits p.raw.succ_byte_prog p.raw.page_prog 0 0 t.raw.succ_byte_prog t.raw.page_prog none8 none8, r),
                  ),
                ),
              ),
            ),
          ),
        ),
      ),
    )

inst_each : (x : SFDPEraseInst) (rest : List ℕ) → TypedInst x → Each U32 rest → Each U32 (inst_words x ++ rest)
inst_each x rest t r = (
  word_fits x.opcode (bit_of x.timed) x.time_raw 0 t.opcode (bit_fits x.timed) t.time_raw none8,
  (t.size, (t.time_typ, (low_fits x.time_max, (high_fits x.time_max t.time_max, r)))),
)

timing_each : (m : SFDPTiming) (rest : List ℕ) → TypedTiming m → Each U32 rest → Each U32 (timing_words m ++ rest)
timing_each m rest t r = (
  t.chip_erase_time_typ,
  (
    low_fits m.chip_erase_time_max,
    (
      high_fits m.chip_erase_time_max t.chip_erase_time_max,
      (
        t.first_byte_prog_time_typ,
        (
          low_fits m.first_byte_prog_time_max,
          (
            high_fits m.first_byte_prog_time_max t.first_byte_prog_time_max,
            (
              t.succ_byte_prog_time_typ,
              (
                low_fits m.succ_byte_prog_time_max,
                (
                  high_fits m.succ_byte_prog_time_max t.succ_byte_prog_time_max,
                  (
                    t.page_prog_time_typ,
                    (low_fits m.page_prog_time_max, (high_fits m.page_prog_time_max t.page_prog_time_max, r)),
                  ),
                ),
              ),
            ),
          ),
        ),
      ),
    ),
  ),
)

head_fits : (at : Place) → FitsPlace at → U32 (place_head at)
unfolding place_head
head_fits at h = word_fits at.phase at.slots.command at.answer (bit_of at.enabled) h.phase h.slots.command h.answer (bit_fits at.enabled)

next_fits : (at : Place) → FitsPlace at → U32 (place_next at)
unfolding place_next
next_fits at h =
    halves_fits at.left (bit_of at.slots.job.verified + 256 * bit_of at.slots.flag) h.left (marks_fit (bit_of at.slots.job.verified) (bit_of at.slots.flag) (bit_fits at.slots.job.verified) (bit_fits at.slots.flag))

place_each : (p : Place) (rest : List ℕ) → FitsPlace p → Each U32 rest → Each U32 (place_words p ++ rest)
place_each p rest h r =
    let c = h.slots in
    (head_fits p h, (next_fits p h, (c.job.from, (c.job.last, (c.job.base, (c.job.top, (c.a, (c.b, (c.c, r)))))))))

spare_each : Each U32 (0 ∷ 0 ∷ 0 ∷ 0 ∷ 0 ∷ 0 ∷ [])
spare_each = (none32, (none32, (none32, (none32, (none32, (none32, tt))))))

polls_each : (n : ℕ) (rest : List ℕ) → U64 n → Each U32 rest → Each U32 (low_of n ∷ high_of n ∷ rest)
polls_each n rest tn r = (low_fits n, (high_fits n tn, r))

row_each : (s : Session) (p : FlashParams) (at : Place) → TypedSettings s.settings → TypedParams p → U64 s.polls → FitsPlace at → Each U32 (row_of s p at)
row_each s p at ts tp tn h =
    let w = row_of s p at in
    settings_each s.settings s.known (drop 6 w) ts
    (params_each p (drop 15 w) tp
    (inst_each p.erase_insts.inst1 (drop 20 w) tp.erase_insts.inst1
    (inst_each p.erase_insts.inst2 (drop 25 w) tp.erase_insts.inst2
    (inst_each p.erase_insts.inst3 (drop 30 w) tp.erase_insts.inst3
    (inst_each p.erase_insts.inst4 (drop 35 w) tp.erase_insts.inst4
    (timing_each p.timing (drop 47 w) tp.timing
    (polls_each s.polls (drop 49 w) tn
    (place_each at (drop 58 w) h spare_each))))))))

-- the parameters that are written
blank_typed : TypedParams blank
blank_typed = record {
  version_major = none8;
  version_minor = none8;
  density = none64;
  legacy_4kb_erase_inst = none8;
  legacy_volatile_write_en_inst = none8;
  erase_insts = record { inst1 = inst_none; inst2 = inst_none; inst3 = inst_none; inst4 = inst_none };
  timing = record {
    chip_erase_time_typ = none32;
    chip_erase_time_max = none64;
    first_byte_prog_time_typ = none32;
    first_byte_prog_time_max = none64;
    succ_byte_prog_time_typ = none32;
    succ_byte_prog_time_max = none64;
    page_prog_time_typ = none32;
    page_prog_time_max = none64;
  };
  raw = record {
    erase_multiplier = none8;
    prog_multiplier = none8;
    chip_erase = none8;
    first_byte_prog = none8;
    succ_byte_prog = none8;
    page_prog = none8;
  };
  page_size = none32;
}

shown_typed : (k : Bool) (p : FlashParams) → TypedParams p → TypedParams (cond k p blank)
shown_typed true p t = t
shown_typed false p t = blank_typed

words_each : (s : Session) → Typed s → Each U32 (to_words s)
unfolding to_words shown
words_each s t =
    row_each s (shown s) (place_of s.phase) t.settings (shown_typed s.known s.params t.params) t.polls (place_fits s.phase t.phase)

each_at : (l : List ℕ) → Each U32 l → (i : ℕ) → get_or l i 0 < 2 ^ 32
each_at [] t i = none32
each_at (x ∷ l) t zero = t.0
each_at (x ∷ l) t (suc i) = each_at l t.1 i

-- THE WAY BACK: a session's bytes read as the session
pub round_trip : (s : Session) → Typed s → session_in (bytes_of s) ≡ s
round_trip s t =
    ap (λ (n : ℕ). from_words (words n (bytes_of s))) (sym (length_to_words s))
    ∙ ap from_words (words_of_bytes (to_words s) (each_at (to_words s) (words_each s t)))
    ∙ words_back s t
