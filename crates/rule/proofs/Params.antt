-- The parameters of a table of bytes are within their widths.
use Rattle.std.proofs.Common.{Ok}
use Prim.Native.Nat.{ℕ, ◌*◌, ◌^◌, ◌≤◌, ◌<◌}
use mathlib.Core.Path.{◌≡◌}
use mathlib.Core.Bool.{Bool, true, false, cond}
use mathlib.Core.Logic.{⊎_elim}
use mathlib.Core.List.{List}
use native.Mathlib.Omega.{arith}
use native.Mathlib.Nat.{pow-le-pow_right}
use lib.ListN.{get_or}
use Rattle.dwords.specs.Dwords.{dword, bits, bit}
use Rattle.dwords.proofs.Bytes.{bits_below, dword_below}
use Rattle.sfdp.specs.Jesd216.{no_type, erase_types, timing, raw_times, density, extended, fields, params, sizes_fit, accepted, read_table}
use Rattle.sfdp.specs.declared.SFDPEraseInst.{SFDPEraseInst}
use Rattle.sfdp.specs.declared.FlashParams.{FlashParams}
use Rattle.sfdp.proofs.Laws.{sizes_8, sizes_9, dense}
use Rattle.sfdp.proofs.Bounds.{Between, RawBelow, raw_below, TimesWithin, times_within, Sized, size_between, Place, Places, types_placed, density_between, table_params}
use Rattle.packed.proofs.Places.{inst_none}
use Rattle.packed.specs.Typed.{U8, U32, U64, TypedInst, TypedInsts, TypedTiming, TypedRaw, TypedParams}

sized_typed : (i : SFDPEraseInst) → Sized i → TypedInst i
sized_typed i z =
    let b : Between 2 2147483648 i.size = size_between z in
    let t : i.time_typ ≤ 32000000 = z.typical in
    let m : i.time_max ≤ 32 * i.time_typ = z.most in
    record { opcode = omega (arith, z.code.to); size = omega (arith, b.to); time_typ = omega arith; time_max = omega arith; time_raw = omega (arith, z.raw) }

pub inst_typed : (i : SFDPEraseInst) → Place i → TypedInst i
inst_typed i p = ⊎_elim (λ (e : i ≡ no_type). rw e inst_none) (λ (z : Sized i). sized_typed i z) p

timing_typed : (known : Bool) (d10 d11 : ℕ) → TypedTiming (timing known d10 d11)
unfolding timing
timing_typed true d10 d11 =
    let w : TimesWithin (timing true d10 d11) = times_within d10 d11 in
    record {
      chip_erase_time_typ = omega (arith, w.chip.time.to);
      chip_erase_time_max = omega (arith, w.chip.time.to, w.chip.most_time.to);
      first_byte_prog_time_typ = omega (arith, w.first_byte.time.to);
      first_byte_prog_time_max = omega (arith, w.first_byte.time.to, w.first_byte.most_time.to);
      succ_byte_prog_time_typ = omega (arith, w.later_byte.time.to);
      succ_byte_prog_time_max = omega (arith, w.later_byte.time.to, w.later_byte.most_time.to);
      page_prog_time_typ = omega (arith, w.page.time.to);
      page_prog_time_max = omega (arith, w.page.time.to, w.page.most_time.to);
    }
timing_typed false d10 d11 = record {
  chip_erase_time_typ = omega arith;
  chip_erase_time_max = omega arith;
  first_byte_prog_time_typ = omega arith;
  first_byte_prog_time_max = omega arith;
  succ_byte_prog_time_typ = omega arith;
  succ_byte_prog_time_max = omega arith;
  page_prog_time_typ = omega arith;
  page_prog_time_max = omega arith;
}

raw_typed : (known : Bool) (d10 d11 : ℕ) → TypedRaw (raw_times known d10 d11)
raw_typed known d10 d11 =
    let b : RawBelow (raw_times known d10 d11) = raw_below known d10 d11 in
    record {
      erase_multiplier = omega (arith, b.erase_multiplier);
      prog_multiplier = omega (arith, b.prog_multiplier);
      chip_erase = omega (arith, b.chip);
      first_byte_prog = omega (arith, b.first_byte);
      succ_byte_prog = omega (arith, b.later_byte);
      page_prog = omega (arith, b.page);
    }

page_typed : (known : Bool) (d : ℕ) → U32 (cond known (2 ^ bits d 7 4) 0)
page_typed true d =
    let e : bits d 7 4 ≤ 15 = omega (arith, bits_below d 7 4) in
    let p : 2 ^ bits d 7 4 ≤ 2 ^ 15 = pow-le-pow_right {n = 2} (omega arith) e in
    omega arith
page_typed false d = omega arith

enable_typed : (b : Bool) → U8 (cond b 0x06 0x50)
enable_typed true = omega arith
enable_typed false = omega arith

insts_typed : (d8 d9 : ℕ) (known : Bool) (d10 : ℕ) → sizes_fit d8 ≡ true → sizes_fit d9 ≡ true → TypedInsts (erase_types d8 d9 known d10)
insts_typed d8 d9 known d10 h8 h9 =
    let p : Places (erase_types d8 d9 known d10) = types_placed d8 d9 known d10 h8 h9 in
    record { inst1 = inst_typed _ p.first; inst2 = inst_typed _ p.second; inst3 = inst_typed _ p.third; inst4 = inst_typed _ p.fourth }

fields_typed : (minor : ℕ) (known : Bool) (d1 d2 d8 d9 d10 d11 d14 d16 : ℕ) → U8 minor → U64 (density d2) → sizes_fit d8 ≡ true → sizes_fit d9 ≡ true
    → TypedParams (fields minor known d1 d2 d8 d9 d10 d11 d14 d16)
unfolding fields
fields_typed minor known d1 d2 d8 d9 d10 d11 d14 d16 hm hd h8 h9 = record {
  version_major = omega arith;
  version_minor = hm;
  density = hd;
  legacy_4kb_erase_inst = bits_below d1 15 8;
  legacy_volatile_write_en_inst = enable_typed (bit d1 4);
  erase_insts = insts_typed d8 d9 known d10 h8 h9;
  timing = timing_typed known d10 d11;
  raw = raw_typed known d10 d11;
  page_size = page_typed known d11;
}

pub table_typed : (minor n : ℕ) (t : List ℕ) (p : FlashParams) → ((i : ℕ) → get_or t i 0 < 256) → U8 minor → read_table minor n t ≡ Ok p → TypedParams p
unfolding params
table_typed minor n t p bytes m h =
    let q : (accepted n t ≡ true) × (p ≡ params minor n t) = table_params minor n t p h in
    let d : Between 1 (2 ^ 63) (density (dword t 2)) = density_between (dword t 2) (dword_below t bytes 2) (dense n t q.0) in
    rw q.1
    (fields_typed minor (extended minor n) (dword t 1) (dword t 2) (dword t 8) (dword t 9) (dword t 10) (dword t 11) (dword t 14) (dword t 16) m
    (omega (arith, d.to)) (sizes_8 n t q.0) (sizes_9 n t q.0))
