-- The table of parameters with a form reads as they are.
use Prim.Native.Nat.{ℕ, ◌%◌, ◌^◌, ◌<◌}
use native.Mathlib.Nat.{mod-eq_of_lt}
use mathlib.Core.Path.{◌≡◌, sym, ap, ap₂, ◌∙◌}
use mathlib.Core.Bool.{Bool, true, cond, ◌||◌}
use mathlib.Core.List.{List, ◌++◌}
use lib.Dec.{eqb, ltb}
use borrow.Author.Tests.{ltb-true, eqb-true}
use Rattle.std.specs.Prelude.{Ok}
use Rattle.dwords.specs.Dwords.{byte_at, le32, dword, bits, bit}
use Rattle.sfdp.specs.Times.{page_time, byte_time, chip_time, maximum}
use Rattle.sfdp.specs.Jesd216.{address_bytes, erase_type, erase_types, timing, raw_times, volatility, extended, fields, params, size_fits, sizes_fit, accepted, read_table}
use Rattle.sfdp.specs.declared.SFDPEraseInst.{SFDPEraseInst}
use Rattle.sfdp.specs.declared.SFDPRawTimes.{SFDPRawTimes}
use Rattle.sfdp.specs.declared.FlashParams.{FlashParams}
use Rattle.sfdp.proofs.Laws.{left_of, right_of}
use Rattle.sfdp_write.specs.Table.{mark, exponent, address_code, size_field, volatility_code, dword1, dword2, types_dword, dword10, times_dword, dword11, dword14, dword16, dwords_of, bytes_of, table_of}
use Rattle.sfdp_write.specs.Form.{density_formed, time_formed, type_formed, types_formed, raw_formed, timing_formed, page_formed, first_formed, rest_formed, formed}
use Rattle.sfdp_write.specs.Promises.{minor6, Widths}
use Rattle.sfdp_write.proofs.Lists.{of_bytes}
use Rattle.sfdp_write.proofs.Fields as F
use Rattle.sfdp_write.proofs.Codes.{marked, support_back, enable_back, address_back, status_back, Dense, density_back, page_back}
use Rattle.sfdp_write.proofs.Types.{all4, all6, time_is, Typed, type_back}

-- ---- what a form says, part by part
module _ (p : FlashParams) (h : formed p ≡ true) where
  pub first_parts : (eqb p.version_major 1 ≡ true) × (eqb p.legacy_volatile_write_en_inst 0x06 || eqb p.legacy_volatile_write_en_inst 0x50 ≡ true)
      × (ltb (address_code p.address_bytes) 3 ≡ true) × (density_formed p.density ≡ true)
  unfolding formed first_formed
  first_parts =
      all4 (eqb p.version_major 1) (eqb p.legacy_volatile_write_en_inst 0x06 || eqb p.legacy_volatile_write_en_inst 0x50)
      (ltb (address_code p.address_bytes) 3)
      (density_formed p.density)
      (left_of (first_formed p) (rest_formed p) h)

  pub rest_parts : (p.jesd216a ≡ true) × (ltb 0 (volatility_code p.status_1_vol) ≡ true) × (page_formed p.page_size ≡ true) × (raw_formed p.raw ≡ true)
      × (timing_formed p.raw p.timing ≡ true) × (types_formed p.raw.erase_multiplier p.erase_insts ≡ true)
  unfolding formed rest_formed
  rest_parts =
      all6 p.jesd216a (ltb 0 (volatility_code p.status_1_vol)) (page_formed p.page_size) (raw_formed p.raw) (timing_formed p.raw p.timing)
      (types_formed p.raw.erase_multiplier p.erase_insts)
      (right_of (first_formed p) (rest_formed p) h)

  -- the four types
  pub record FourTyped : Type 0 where
    pub type1 : Typed p.raw.erase_multiplier p.erase_insts.inst1
    pub type2 : Typed p.raw.erase_multiplier p.erase_insts.inst2
    pub type3 : Typed p.raw.erase_multiplier p.erase_insts.inst3
    pub type4 : Typed p.raw.erase_multiplier p.erase_insts.inst4

  pub four_typed : Widths p → FourTyped
  unfolding types_formed
  four_typed wide =
      let m = p.raw.erase_multiplier in
      let s = p.erase_insts in
      let r = all4 (type_formed m s.inst1) (type_formed m s.inst2) (type_formed m s.inst3) (type_formed m s.inst4) rest_parts.5 in
      record {
        type1 = type_back m s.inst1 wide.inst1 r.0;
        type2 = type_back m s.inst2 wide.inst2 r.1;
        type3 = type_back m s.inst3 wide.inst3 r.2;
        type4 = type_back m s.inst4 wide.inst4 r.3;
      }

-- ---- dword 1
module _ (p : FlashParams) where
  abbrev a1 : ℕ
  a1 = cond p.legacy_4kb_erase_supported 1 3

  abbrev b1 : ℕ
  b1 = mark p.legacy_byte_write_granularity

  abbrev c1 : ℕ
  c1 = mark p.legacy_block_protect_volatile

  abbrev e1 : ℕ
  e1 = mark (eqb p.legacy_volatile_write_en_inst 0x06)

  abbrev o1 : ℕ
  o1 = p.legacy_4kb_erase_inst

  abbrev f1 : ℕ
  f1 = address_code p.address_bytes

  pub record First (d : ℕ) : Type 0 where
    pub below : d < 2 ^ 32
    pub support : bits d 1 0 ≡ a1 % 4
    pub granularity : bit d 2 ≡ p.legacy_byte_write_granularity
    pub volatile : bit d 3 ≡ p.legacy_block_protect_volatile
    pub enable : bit d 4 ≡ eqb p.legacy_volatile_write_en_inst 0x06
    pub opcode : bits d 15 8 ≡ o1 % 256
    pub address : bits d 18 17 ≡ f1 % 4
    pub clear : (bits d 7 5 ≡ 0) × (bits d 16 16 ≡ 0) × (bits d 31 19 ≡ 0)

  pub first : First (dword1 p)
  unfolding dword1
  first = record {
    below = F.one_below a1 b1 c1 e1 o1 f1;
    support = F.one_1_0 a1 b1 c1 e1 o1 f1;
    granularity = marked (dword1 p) 2 p.legacy_byte_write_granularity (F.one_2 a1 b1 c1 e1 o1 f1);
    volatile = marked (dword1 p) 3 p.legacy_block_protect_volatile (F.one_3 a1 b1 c1 e1 o1 f1);
    enable = marked (dword1 p) 4 (eqb p.legacy_volatile_write_en_inst 0x06) (F.one_4 a1 b1 c1 e1 o1 f1);
    opcode = F.one_15_8 a1 b1 c1 e1 o1 f1;
    address = F.one_18_17 a1 b1 c1 e1 o1 f1;
    clear = (F.one_7_5 a1 b1 c1 e1 o1 f1, F.one_16 a1 b1 c1 e1 o1 f1, F.one_31_19 a1 b1 c1 e1 o1 f1);
  }

-- ---- dwords 8 and 9
module _ (a b : SFDPEraseInst) where
  pub record Pair (d : ℕ) : Type 0 where
    pub below : d < 2 ^ 32
    pub size1 : bits d 7 0 ≡ size_field a.size % 256
    pub opcode1 : bits d 15 8 ≡ a.opcode % 256
    pub size2 : bits d 23 16 ≡ size_field b.size % 256
    pub opcode2 : bits d 31 24 ≡ b.opcode % 256

  pub pair : Pair (types_dword a b)
  unfolding types_dword
  pair =
      let x = size_field a.size in
      let y = size_field b.size in
      record {
        below = F.types_below x a.opcode y b.opcode;
        size1 = F.types_7_0 x a.opcode y b.opcode;
        opcode1 = F.types_15_8 x a.opcode y b.opcode;
        size2 = F.types_23_16 x a.opcode y b.opcode;
        opcode2 = F.types_31_24 x a.opcode y b.opcode;
      }

-- ---- dwords 14 and 16
module _ (p : FlashParams) where
  pub record Polls (d : ℕ) : Type 0 where
    pub below : d < 2 ^ 32
    pub status : bit d 2 ≡ p.busy_poll_status
    pub flag : bit d 3 ≡ p.busy_poll_flag
    pub clear : (bits d 1 0 ≡ 0) × (bits d 31 4 ≡ 0)

  pub polls : Polls (dword14 p)
  unfolding dword14
  polls =
      let a = mark p.busy_poll_status in
      let b = mark p.busy_poll_flag in
      record {
        below = F.fourteen_below a b;
        status = marked (dword14 p) 2 p.busy_poll_status (F.fourteen_2 a b);
        flag = marked (dword14 p) 3 p.busy_poll_flag (F.fourteen_3 a b);
        clear = (F.fourteen_1_0 a b, F.fourteen_31_4 a b);
      }

  pub record Last (d : ℕ) : Type 0 where
    pub below : d < 2 ^ 32
    pub status : bits d 4 0 ≡ volatility_code p.status_1_vol % 32
    pub f0 : bit d 11 ≡ p.reset_inst_f0
    pub r66 : bit d 12 ≡ p.reset_inst_66_99
    pub e9 : bit d 14 ≡ p.exit_4byte_e9
    pub b7 : bit d 24 ≡ p.enter_4byte_b7
    pub clear : (bits d 10 5 ≡ 0) × (bits d 13 13 ≡ 0) × (bits d 23 15 ≡ 0) × (bits d 31 25 ≡ 0)

  pub last : Last (dword16 p)
  unfolding dword16
  last =
      let v = volatility_code p.status_1_vol in
      let a = mark p.reset_inst_f0 in
      let b = mark p.reset_inst_66_99 in
      let x = mark p.exit_4byte_e9 in
      let y = mark p.enter_4byte_b7 in
      record {
        below = F.sixteen_below v a b x y;
        status = F.sixteen_4_0 v a b x y;
        f0 = marked (dword16 p) 11 p.reset_inst_f0 (F.sixteen_11 v a b x y);
        r66 = marked (dword16 p) 12 p.reset_inst_66_99 (F.sixteen_12 v a b x y);
        e9 = marked (dword16 p) 14 p.exit_4byte_e9 (F.sixteen_14 v a b x y);
        b7 = marked (dword16 p) 24 p.enter_4byte_b7 (F.sixteen_24 v a b x y);
        clear = (F.sixteen_10_5 v a b x y, F.sixteen_13 v a b x y, F.sixteen_23_15 v a b x y, F.sixteen_31_25 v a b x y);
      }

-- ---- dwords 10 and 11
module _ (p : FlashParams) (h : formed p ≡ true) where
  abbrev r : SFDPRawTimes
  r = p.raw

  abbrev d10 : ℕ
  d10 = times_dword p.raw.erase_multiplier p.erase_insts

  abbrev d11 : ℕ
  d11 = dword11 p.page_size p.raw

  raws : (ltb r.erase_multiplier 16 ≡ true) × (ltb r.prog_multiplier 16 ≡ true) × (ltb r.chip_erase 128 ≡ true) × (ltb r.first_byte_prog 32 ≡ true)
      × (ltb r.succ_byte_prog 32 ≡ true) × (ltb r.page_prog 64 ≡ true)
  unfolding raw_formed
  raws =
      all6 (ltb r.erase_multiplier 16) (ltb r.prog_multiplier 16) (ltb r.chip_erase 128) (ltb r.first_byte_prog 32) (ltb r.succ_byte_prog 32)
      (ltb r.page_prog 64)
      (rest_parts p h).3

  pub record Ten : Type 0 where
    pub below : d10 < 2 ^ 32
    pub multiplier : bits d10 3 0 ≡ r.erase_multiplier
    pub time1 : bits d10 10 4 ≡ p.erase_insts.inst1.time_raw % 128
    pub time2 : bits d10 17 11 ≡ p.erase_insts.inst2.time_raw % 128
    pub time3 : bits d10 24 18 ≡ p.erase_insts.inst3.time_raw % 128
    pub time4 : bits d10 31 25 ≡ p.erase_insts.inst4.time_raw % 128

  pub ten : Ten
  unfolding dword10
  ten =
      let m = r.erase_multiplier in
      let a = p.erase_insts.inst1.time_raw in
      let b = p.erase_insts.inst2.time_raw in
      let x = p.erase_insts.inst3.time_raw in
      let y = p.erase_insts.inst4.time_raw in
      record {
        below = F.ten_below m a b x y;
        multiplier = F.ten_3_0 m a b x y ∙ mod-eq_of_lt (ltb-true m 16 raws.0);
        time1 = F.ten_10_4 m a b x y;
        time2 = F.ten_17_11 m a b x y;
        time3 = F.ten_24_18 m a b x y;
        time4 = F.ten_31_25 m a b x y;
      }

  pub record Eleven : Type 0 where
    pub below : d11 < 2 ^ 32
    pub multiplier : bits d11 3 0 ≡ r.prog_multiplier
    pub page_exponent : bits d11 7 4 ≡ exponent 32 p.page_size % 16
    pub page : bits d11 13 8 ≡ r.page_prog
    pub first_byte : bits d11 18 14 ≡ r.first_byte_prog
    pub later_byte : bits d11 23 19 ≡ r.succ_byte_prog
    pub chip : bits d11 30 24 ≡ r.chip_erase
    pub clear : bits d11 31 31 ≡ 0

  pub eleven : Eleven
  unfolding dword11
  eleven =
      let m = r.prog_multiplier in
      let e = exponent 32 p.page_size in
      let a = r.page_prog in
      let b = r.first_byte_prog in
      let x = r.succ_byte_prog in
      let y = r.chip_erase in
      record {
        below = F.eleven_below m e a b x y;
        multiplier = F.eleven_3_0 m e a b x y ∙ mod-eq_of_lt (ltb-true m 16 raws.1);
        page_exponent = F.eleven_7_4 m e a b x y;
        page = F.eleven_13_8 m e a b x y ∙ mod-eq_of_lt (ltb-true a 64 raws.5);
        first_byte = F.eleven_18_14 m e a b x y ∙ mod-eq_of_lt (ltb-true b 32 raws.3);
        later_byte = F.eleven_23_19 m e a b x y ∙ mod-eq_of_lt (ltb-true x 32 raws.4);
        chip = F.eleven_30_24 m e a b x y ∙ mod-eq_of_lt (ltb-true y 128 raws.2);
        clear = F.eleven_31 m e a b x y;
      }

  raw_back : raw_times true d10 d11 ≡ p.raw
  unfolding raw_times
  raw_back = λ i. record {
    erase_multiplier = ten.multiplier i;
    prog_multiplier = eleven.multiplier i;
    chip_erase = eleven.chip i;
    first_byte_prog = eleven.first_byte i;
    succ_byte_prog = eleven.later_byte i;
    page_prog = eleven.page i;
  }

  timing_back : timing true d10 d11 ≡ p.timing
  unfolding timing timing_formed
  timing_back =
      let t = p.timing in
      let em = r.erase_multiplier in
      let pm = r.prog_multiplier in
      let q =
      all4 (time_formed em (chip_time r.chip_erase) t.chip_erase_time_typ t.chip_erase_time_max)
      (time_formed pm (byte_time r.first_byte_prog) t.first_byte_prog_time_typ t.first_byte_prog_time_max)
      (time_formed pm (byte_time r.succ_byte_prog) t.succ_byte_prog_time_typ t.succ_byte_prog_time_max)
      (time_formed pm (page_time r.page_prog) t.page_prog_time_typ t.page_prog_time_max)
      (rest_parts p h).4 in
      let chip = time_is em (chip_time r.chip_erase) t.chip_erase_time_typ t.chip_erase_time_max q.0 in
      let first_byte = time_is pm (byte_time r.first_byte_prog) t.first_byte_prog_time_typ t.first_byte_prog_time_max q.1 in
      let later_byte = time_is pm (byte_time r.succ_byte_prog) t.succ_byte_prog_time_typ t.succ_byte_prog_time_max q.2 in
      let page = time_is pm (page_time r.page_prog) t.page_prog_time_typ t.page_prog_time_max q.3 in
      λ i. record {
        chip_erase_time_typ = (ap chip_time eleven.chip ∙ sym chip.0) i;
        chip_erase_time_max = (ap₂ (λ (m x : ℕ). maximum m (chip_time x)) ten.multiplier eleven.chip ∙ sym chip.1) i;
        first_byte_prog_time_typ = (ap byte_time eleven.first_byte ∙ sym first_byte.0) i;
        first_byte_prog_time_max = (ap₂ (λ (m x : ℕ). maximum m (byte_time x)) eleven.multiplier eleven.first_byte ∙ sym first_byte.1) i;
        succ_byte_prog_time_typ = (ap byte_time eleven.later_byte ∙ sym later_byte.0) i;
        succ_byte_prog_time_max = (ap₂ (λ (m x : ℕ). maximum m (byte_time x)) eleven.multiplier eleven.later_byte ∙ sym later_byte.1) i;
        page_prog_time_typ = (ap page_time eleven.page ∙ sym page.0) i;
        page_prog_time_max = (ap₂ (λ (m x : ℕ). maximum m (page_time x)) eleven.multiplier eleven.page ∙ sym page.1) i;
      }

-- ---- all fields, and the table
same_type : {e e' o o' m m' t t' : ℕ} → e ≡ e' → o ≡ o' → m ≡ m' → t ≡ t' → erase_type e o true m t ≡ erase_type e' o' true m' t'
same_type pe po pm pt = λ i. erase_type (pe i) (po i) true (pm i) (pt i)

same_fits : {e e' o o' : ℕ} → e ≡ e' → o ≡ o' → size_fits e' o' ≡ true → size_fits e o ≡ true
same_fits pe po f = ap₂ size_fits pe po ∙ f

module _ (p : FlashParams) (h : formed p ≡ true) (wide : Widths p) where
  abbrev d8 : ℕ
  d8 = types_dword p.erase_insts.inst1 p.erase_insts.inst2

  abbrev d9 : ℕ
  d9 = types_dword p.erase_insts.inst3 p.erase_insts.inst4

  abbrev on8 : Pair p.erase_insts.inst1 p.erase_insts.inst2 d8
  on8 = pair p.erase_insts.inst1 p.erase_insts.inst2

  abbrev on9 : Pair p.erase_insts.inst3 p.erase_insts.inst4 d9
  on9 = pair p.erase_insts.inst3 p.erase_insts.inst4

  abbrev typed : FourTyped p h
  typed = four_typed p h wide

  pub dense : Dense (dword2 p.density) p.density
  dense = density_back p.density (first_parts p h).3 wide.density

  types_back : erase_types d8 d9 true (d10 p h) ≡ p.erase_insts
  unfolding erase_types
  types_back =
      let on10 = ten p h in
      λ i. record {
        inst1 = (same_type on8.size1 on8.opcode1 on10.multiplier on10.time1 ∙ typed.type1.is) i;
        inst2 = (same_type on8.size2 on8.opcode2 on10.multiplier on10.time2 ∙ typed.type2.is) i;
        inst3 = (same_type on9.size1 on9.opcode1 on10.multiplier on10.time3 ∙ typed.type3.is) i;
        inst4 = (same_type on9.size2 on9.opcode2 on10.multiplier on10.time4 ∙ typed.type4.is) i;
      }

  fields_back : fields 6 true (dword1 p) (dword2 p.density) d8 d9 (d10 p h) (d11 p h) (dword14 p) (dword16 p) ≡ minor6 p
  unfolding fields
  fields_back =
      let on1 = first p in
      let on11 = eleven p h in
      let on14 = polls p in
      let on16 = last p in
      let a = first_parts p h in
      let b = rest_parts p h in
      λ i. record {
        version_major = sym (eqb-true p.version_major 1 a.0) i;
        version_minor = 6;
        address_bytes = (ap address_bytes on1.address ∙ address_back p.address_bytes a.2) i;
        density = dense.is i;
        legacy_4kb_erase_supported = (ap (λ (x : ℕ). eqb x 1) on1.support ∙ support_back p.legacy_4kb_erase_supported) i;
        legacy_4kb_erase_inst = (on1.opcode ∙ mod-eq_of_lt wide.legacy) i;
        legacy_volatile_write_en_inst = (ap (λ (x : Bool). cond x 0x06 0x50) on1.enable ∙ enable_back p.legacy_volatile_write_en_inst a.1) i;
        legacy_block_protect_volatile = on1.volatile i;
        legacy_byte_write_granularity = on1.granularity i;
        erase_insts = types_back i;
        jesd216a = sym b.0 i;
        timing = timing_back p h i;
        raw = raw_back p h i;
        page_size = (ap (λ (x : ℕ). 2 ^ x) on11.page_exponent ∙ page_back p.page_size b.2) i;
        busy_poll_flag = on14.flag i;
        busy_poll_status = on14.status i;
        reset_inst_f0 = on16.f0 i;
        reset_inst_66_99 = on16.r66 i;
        status_1_vol = (ap volatility on16.status ∙ status_back p.status_1_vol b.1) i;
        exit_4byte_e9 = on16.e9 i;
        enter_4byte_b7 = on16.b7 i;
      }

  -- whatever comes behind the table
  module _ (more : List ℕ) where
    abbrev t : List ℕ
    t = table_of p ++ more

    pub at1 : dword t 1 ≡ dword1 p
    unfolding table_of dwords_of bytes_of le32 byte_at
    at1 = of_bytes (dword1 p) (first p).below

    pub at2 : dword t 2 ≡ dword2 p.density
    unfolding table_of dwords_of bytes_of le32 byte_at
    at2 = of_bytes (dword2 p.density) dense.below

    pub at8 : dword t 8 ≡ d8
    unfolding table_of dwords_of bytes_of le32 byte_at
    at8 = of_bytes d8 on8.below

    pub at9 : dword t 9 ≡ d9
    unfolding table_of dwords_of bytes_of le32 byte_at
    at9 = of_bytes d9 on9.below

    pub at10 : dword t 10 ≡ d10 p h
    unfolding table_of dwords_of bytes_of le32 byte_at
    at10 = of_bytes (d10 p h) (ten p h).below

    pub at11 : dword t 11 ≡ d11 p h
    unfolding table_of dwords_of bytes_of le32 byte_at
    at11 = of_bytes (d11 p h) (eleven p h).below

    pub at14 : dword t 14 ≡ dword14 p
    unfolding table_of dwords_of bytes_of le32 byte_at
    at14 = of_bytes (dword14 p) (polls p).below

    pub at16 : dword t 16 ≡ dword16 p
    unfolding table_of dwords_of bytes_of le32 byte_at
    at16 = of_bytes (dword16 p) (last p).below

    pub params_back : params 6 16 t ≡ minor6 p
    unfolding params extended
    params_back = (λ i. fields 6 true (at1 i) (at2 i) (at8 i) (at9 i) (at10 i) (at11 i) (at14 i) (at16 i)) ∙ fields_back

    fits8 : sizes_fit d8 ≡ true
    unfolding sizes_fit
    fits8 = rw (same_fits on8.size1 on8.opcode1 typed.type1.fits, same_fits on8.size2 on8.opcode2 typed.type2.fits)

    fits9 : sizes_fit d9 ≡ true
    unfolding sizes_fit
    fits9 = rw (same_fits on9.size1 on9.opcode1 typed.type3.fits, same_fits on9.size2 on9.opcode2 typed.type4.fits)

    pub accepted_back : accepted 16 t ≡ true
    unfolding accepted
    accepted_back = rw (at8, at9, at2, fits8, fits9, dense.fits)

    pub table_back : read_table 6 16 t ≡ Ok (minor6 p)
    unfolding read_table
    table_back = rw (accepted_back, params_back)
