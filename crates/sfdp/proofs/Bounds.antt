-- Bounds of what the reader gives: the times, and the parameters of an accepted table.
use mathlib.Core.Path.{◌≡◌, refl}
use mathlib.Core.Bool.{Bool, true, false, cond, true≢false, false≢true}
use mathlib.Core.Logic.{◌⊎◌, inl, inr}
use mathlib.Core.List.{List, [], ◌∷◌}
use Prim.Native.Nat.{ℕ, zero, suc, ◌+◌, ◌*◌, ◌/◌, ◌%◌, ◌^◌, ◌≤◌, ◌<◌, min, max}
use native.Mathlib.Nat.{mod-lt, mul-le-mul, one-mul, le_refl, le_trans, le_of_suc-le-suc, min-le_left, min-le_right, le-max_left, le-max_right}
use native.Mathlib.Omega.{arith}
use lib.ListN.{length, get_or, drop}
use lib.Seq.{get_or-drop}
use lib.Dec.{eqb}
use lib.Pow.{pow_pos, pow_mono}
use borrow.Author.Tests.{eqb-true, eqb-false}
use Rattle.dwords.specs.Dwords.{bits, bit, dword}
use Rattle.dwords.proofs.Bytes.{bits_below, dword_below}
use Rattle.sfdp.specs.Times.{ms, time_of, erase_time, page_time, byte_time, chip_time, maximum}
use Rattle.sfdp.specs.Jesd216.{no_type, erase_type, erase_types, timing, raw_times, density, density_fits, size_fits, sizes_fit, extended, fields, params, accepted, read_table, read_header, of_header, read_area}
use Rattle.sfdp.specs.Chosen.{capacity}
use Rattle.sfdp.specs.declared.SFDPEraseInst.{SFDPEraseInst}
use Rattle.sfdp.specs.declared.SFDPEraseInsts.{SFDPEraseInsts}
use Rattle.sfdp.specs.declared.SFDPTiming.{SFDPTiming}
use Rattle.sfdp.specs.declared.SFDPRawTimes.{SFDPRawTimes}
use Rattle.sfdp.specs.declared.FlashParams.{FlashParams}
use Rattle.sfdp.specs.declared.SFDPParameterHeader.{SFDPParameterHeader}
use Rattle.sfdp.specs.declared.SFDPError.{SFDPError}
use Rattle.sfdp.specs.declared.SFDPError.TheVariants as Refusal
use Rattle.std.specs.Prelude.{Result, Ok, Err}
use Rattle.sfdp.proofs.Laws.{exponent_fits, density_fits_lem, first_fits, second_fits, sizes_8, sizes_9, dense}

pub record Between (lo hi x : ℕ) : Type 0 where
  pub from : lo ≤ x
  pub to : x ≤ hi

-- ---- times

-- the least and the greatest of a list of units, the first one given apart
abbrev pub least : ℕ → List ℕ → ℕ
least u [] = u
least u (v ∷ l) = min u (least v l)

abbrev pub greatest : ℕ → List ℕ → ℕ
greatest u [] = u
greatest u (v ∷ l) = max u (greatest v l)

-- an entry of the list is between them
pub unit_between : (u : ℕ) (l : List ℕ) (i : ℕ) → i < length (u ∷ l) → Between (least u l) (greatest u l) (get_or (u ∷ l) i 0)
unit_between u [] zero h = record { from = le_refl u; to = le_refl u }
unit_between u [] (suc i) h = absurd (omega arith)
unit_between u (v ∷ l) zero h = record { from = min-le_left u (least v l); to = le-max_left u (greatest v l) }
unit_between u (v ∷ l) (suc i) h = wider (unit_between v l i (le_of_suc-le-suc h))
  where
    wider : Between (least v l) (greatest v l) (get_or (v ∷ l) i 0) → Between (min u (least v l)) (max u (greatest v l)) (get_or (v ∷ l) i 0)
    wider r = record {
      from = le_trans (min-le_right u (least v l)) r.from;
      to = le_trans r.to (le-max_right u (greatest v l));
    }

-- a time whose unit is in the list: from the least unit to 2 to the power of w of the greatest
pub time_between : (w u : ℕ) (l : List ℕ) (raw : ℕ) → raw / 2 ^ w < length (u ∷ l) → Between (least u l) (2 ^ w * greatest u l) (time_of w (u ∷ l) raw)
time_between w u l raw h =
    let r : Between (least u l) (greatest u l) (get_or (u ∷ l) (raw / 2 ^ w) 0) = unit_between u l (raw / 2 ^ w) h in
    let one : 1 ≤ raw % 2 ^ w + 1 = omega arith in
    let all : raw % 2 ^ w + 1 ≤ 2 ^ w = omega (arith, mod-lt raw (pow_pos w)) in
    record {
      from = rw (one-mul (least u l)) at (mul-le-mul one r.from);
      to = mul-le-mul all r.to;
    }

-- dword 10: an erase type, a field of 7 bits
pub erase_between : (raw : ℕ) → raw < 128 → Between 1000 32000000 (erase_time raw)
unfolding erase_time
erase_between raw h = time_between 5 (ms 1) (ms 16 ∷ ms 128 ∷ ms 1000 ∷ []) raw (omega arith)

-- dword 11: a page (6 bits), a byte (5 bits), the chip (7 bits)
pub page_between : (raw : ℕ) → raw < 64 → Between 8 2048 (page_time raw)
unfolding page_time
page_between raw h = time_between 5 8 (64 ∷ []) raw (omega arith)

pub byte_between : (raw : ℕ) → raw < 32 → Between 1 128 (byte_time raw)
unfolding byte_time
byte_between raw h = time_between 4 1 (8 ∷ []) raw (omega arith)

pub chip_between : (raw : ℕ) → raw < 128 → Between 16000 2048000000 (chip_time raw)
unfolding chip_time
chip_between raw h = time_between 5 (ms 16) (ms 256 ∷ ms 4000 ∷ ms 64000 ∷ []) raw (omega arith)

-- a maximum, by a multiplier of 4 bits
pub maximum_between : (m t : ℕ) → m < 16 → Between (2 * t) (32 * t) (maximum m t)
maximum_between m t h =
    let low : 2 ≤ 2 * (m + 1) = omega arith in
    let high : 2 * (m + 1) ≤ 32 = omega arith in
    record { from = mul-le-mul low (le_refl t); to = mul-le-mul high (le_refl t) }

-- ---- the raw time fields, each below its width's bound
pub record RawBelow (r : SFDPRawTimes) : Type 0 where
  pub erase_multiplier : r.erase_multiplier < 16
  pub prog_multiplier : r.prog_multiplier < 16
  pub chip : r.chip_erase < 128
  pub first_byte : r.first_byte_prog < 32
  pub later_byte : r.succ_byte_prog < 32
  pub page : r.page_prog < 64

pub raw_below : (known : Bool) (d10 d11 : ℕ) → RawBelow (raw_times known d10 d11)
unfolding raw_times
raw_below true d10 d11 = record {
  erase_multiplier = bits_below d10 3 0;
  prog_multiplier = bits_below d11 3 0;
  chip = bits_below d11 30 24;
  first_byte = bits_below d11 18 14;
  later_byte = bits_below d11 23 19;
  page = bits_below d11 13 8;
}
raw_below false d10 d11 = record {
  erase_multiplier = omega arith;
  prog_multiplier = omega arith;
  chip = omega arith;
  first_byte = omega arith;
  later_byte = omega arith;
  page = omega arith;
}

-- ---- the times of dword 11, where known: a typical time and its maximum
pub record TimeWithin (lo hi typical most : ℕ) : Type 0 where
  pub time : Between lo hi typical
  pub most_time : Between (2 * typical) (32 * typical) most

pub record TimesWithin (t : SFDPTiming) : Type 0 where
  pub chip : TimeWithin 16000 2048000000 t.chip_erase_time_typ t.chip_erase_time_max
  pub first_byte : TimeWithin 1 128 t.first_byte_prog_time_typ t.first_byte_prog_time_max
  pub later_byte : TimeWithin 1 128 t.succ_byte_prog_time_typ t.succ_byte_prog_time_max
  pub page : TimeWithin 8 2048 t.page_prog_time_typ t.page_prog_time_max

within : (lo hi t m : ℕ) → Between lo hi t → m < 16 → TimeWithin lo hi t (maximum m t)
within lo hi t m b h = record { time = b; most_time = maximum_between m t h }

pub times_within : (d10 d11 : ℕ) → TimesWithin (timing true d10 d11)
unfolding timing
times_within d10 d11 = record {
  chip = within 16000 2048000000 (chip_time (bits d11 30 24)) (bits d10 3 0) (chip_between (bits d11 30 24) (bits_below d11 30 24)) (bits_below d10 3 0);
  first_byte = within 1 128 (byte_time (bits d11 18 14)) (bits d11 3 0) (byte_between (bits d11 18 14) (bits_below d11 18 14)) (bits_below d11 3 0);
  later_byte = within 1 128 (byte_time (bits d11 23 19)) (bits d11 3 0) (byte_between (bits d11 23 19) (bits_below d11 23 19)) (bits_below d11 3 0);
  page = within 8 2048 (page_time (bits d11 13 8)) (bits d11 3 0) (page_between (bits d11 13 8) (bits_below d11 13 8)) (bits_below d11 3 0);
}

-- ---- powers of two, and the erase types

-- 2 to the power of an exponent from lo to hi
pub record Power (lo hi n : ℕ) : Type 0 where
  pub exponent : ℕ
  pub range : Between lo hi exponent
  pub is : n ≡ 2 ^ exponent

pub power_between : {lo hi n : ℕ} → Power lo hi n → Between (2 ^ lo) (2 ^ hi) n
power_between p = record {
  from = rw p.is (pow_mono p.range.from);
  to = rw p.is (pow_mono p.range.to);
}

-- a place of the table that has a type
pub record Sized (i : SFDPEraseInst) : Type 0 where
  -- its size is a power of two from 2 to 2,147,483,648
  pub power : Power 1 31 i.size
  -- its opcode is a byte other than 0
  pub code : Between 1 255 i.opcode
  -- its typical time is at most 32 s; it is 0 where it is unknown
  pub typical : i.time_typ ≤ 32000000
  -- its maximum is at most 32 times that
  pub most : i.time_max ≤ 32 * i.time_typ
  -- a known time is at least 1 ms
  pub timed_least : i.timed ≡ true → 1000 ≤ i.time_typ
  -- the field that it was decoded from has 7 bits
  pub raw : i.time_raw < 128

pub size_between : {i : SFDPEraseInst} → Sized i → Between 2 2147483648 i.size
size_between h = power_between h.power

-- no type, or one
abbrev pub Place : SFDPEraseInst → Type 0
Place i = (i ≡ no_type) ⊎ Sized i

-- a type, with exponent and opcode other than 0
abbrev typed : ℕ → ℕ → Bool → ℕ → ℕ → SFDPEraseInst
typed e o known m time = record {
  opcode = o;
  size = 2 ^ e;
  timed = known;
  time_typ = cond known (erase_time time) 0;
  time_max = cond known (maximum m (erase_time time)) 0;
  time_raw = cond known time 0;
}

module _ (e o m time : ℕ) (he : Between 1 31 e) (ho : Between 1 255 o) (hm : m < 16) (ht : time < 128) where
  typed_sized : (known : Bool) → Sized (typed e o known m time)
  typed_sized true = record {
    power = record { exponent = e; range = he; is = refl };
    code = ho;
    typical = (erase_between time ht).to;
    most = (maximum_between m (erase_time time) hm).to;
    timed_least = λ (k : true ≡ true). (erase_between time ht).from;
    raw = ht;
  }
  typed_sized false = record {
    power = record { exponent = e; range = he; is = refl };
    code = ho;
    typical = omega arith;
    most = omega arith;
    timed_least = λ (k : false ≡ true). absurd (false≢true k);
    raw = omega arith;
  }

module _ (e o : ℕ) (known : Bool) (m time : ℕ) where
  no_exponent : eqb e 0 ≡ true → erase_type e o known m time ≡ no_type
  unfolding erase_type
  no_exponent a = rw a

  no_opcode : eqb e 0 ≡ false → eqb o 0 ≡ true → erase_type e o known m time ≡ no_type
  unfolding erase_type
  no_opcode a b = rw (a, b)

  is_typed : eqb e 0 ≡ false → eqb o 0 ≡ false → erase_type e o known m time ≡ typed e o known m time
  unfolding erase_type
  is_typed a b = rw (a, b)

  pub type_place : size_fits e o ≡ true → o < 256 → m < 16 → time < 128 → Place (erase_type e o known m time)
  type_place fits ho hm ht = by_tests (eqb e 0) (eqb o 0) refl refl
    where
      by_tests : (a b : Bool) → eqb e 0 ≡ a → eqb o 0 ≡ b → Place (erase_type e o known m time)
      by_tests true b p q = inl (no_exponent p)
      by_tests false true p q = inl (no_opcode p q)
      by_tests false false p q =
          let ne : e ≡ 0 → ⊥ = eqb-false e 0 p in
          let no_zero : o ≡ 0 → ⊥ = eqb-false o 0 q in
          let be : Between 1 31 e = record { from = omega arith; to = omega (arith, exponent_fits e o fits no_zero) } in
          let bo : Between 1 255 o = record { from = omega arith; to = omega arith } in
          inr (rw (is_typed p q) (typed_sized e o m time be bo hm ht known))

-- the four of a table whose exponents fit
pub record Places (s : SFDPEraseInsts) : Type 0 where
  pub first : Place s.inst1
  pub second : Place s.inst2
  pub third : Place s.inst3
  pub fourth : Place s.inst4

pub types_placed : (d8 d9 : ℕ) (known : Bool) (d10 : ℕ) → sizes_fit d8 ≡ true → sizes_fit d9 ≡ true → Places (erase_types d8 d9 known d10)
unfolding erase_types
types_placed d8 d9 known d10 h8 h9 = record {
  first = type_place (bits d8 7 0) (bits d8 15 8) known (bits d10 3 0) (bits d10 10 4) (first_fits d8 h8) (bits_below d8 15 8) (bits_below d10 3 0) (bits_below d10 10 4);
  second = type_place (bits d8 23 16) (bits d8 31 24) known (bits d10 3 0) (bits d10 17 11) (second_fits d8 h8) (bits_below d8 31 24) (bits_below d10 3 0) (bits_below d10 17 11);
  third = type_place (bits d9 7 0) (bits d9 15 8) known (bits d10 3 0) (bits d10 24 18) (first_fits d9 h9) (bits_below d9 15 8) (bits_below d10 3 0) (bits_below d10 24 18);
  fourth = type_place (bits d9 23 16) (bits d9 31 24) known (bits d10 3 0) (bits d10 31 25) (second_fits d9 h9) (bits_below d9 31 24) (bits_below d10 3 0) (bits_below d10 31 25);
}

-- ---- density, page size, times

-- of a dword
pub density_between : (d : ℕ) → d < 2 ^ 32 → density_fits d ≡ true → Between 1 (2 ^ 63) (density d)
unfolding density
density_between d small fits = by_test (bit d 31) refl
  where
    by_test : (b : Bool) → bit d 31 ≡ b → Between 1 (2 ^ 63) (cond b (2 ^ bits d 30 0) (d + 1))
    by_test true p =
        let e : bits d 30 0 ≤ 63 = omega (arith, density_fits_lem d fits (eqb-true (bits d 31 31) 1 p)) in
        record { from = pow_pos (bits d 30 0); to = pow_mono e }
    by_test false p = record { from = omega arith; to = omega arith }

page_power : (known : Bool) (d11 : ℕ) → known ≡ true → Power 0 15 (cond known (2 ^ bits d11 7 4) 0)
page_power true d11 h =
    let e : bits d11 7 4 ≤ 15 = omega (arith, bits_below d11 7 4) in
    record { exponent = bits d11 7 4; range = record { from = omega arith; to = e }; is = refl }
page_power false d11 h = absurd (false≢true h)

page_unknown : (known : Bool) (d11 : ℕ) → known ≡ false → cond known (2 ^ bits d11 7 4) 0 ≡ 0
page_unknown true d11 h = absurd (true≢false h)
page_unknown false d11 h = refl

times_known : (known : Bool) (d10 d11 : ℕ) → known ≡ true → TimesWithin (timing known d10 d11)
times_known true d10 d11 h = times_within d10 d11
times_known false d10 d11 h = absurd (false≢true h)

-- ---- an accepted table

-- the parameters p of a table t of n dwords, by its header's minor number
pub record Read (minor n : ℕ) (t : List ℕ) (p : FlashParams) : Type 0 where
  -- the table is not refused
  pub accept : accepted n t ≡ true
  -- every field is that of the definition
  pub is : p ≡ params minor n t
  -- each of the four erase types is none, or has its bounds
  pub types : Places p.erase_insts
  -- the memory has from 1 to 2 to the power of 63 bits
  pub dense_range : Between 1 (2 ^ 63) p.density
  -- a known page has a power of two from 1 to 32,768 bytes
  pub page : p.jesd216a ≡ true → Power 0 15 p.page_size
  -- an unknown one is 0
  pub no_page : p.jesd216a ≡ false → p.page_size ≡ 0
  -- known times are within their bounds
  pub times : p.jesd216a ≡ true → TimesWithin p.timing
  -- the fields that they were decoded from are below theirs
  pub raws : RawBelow p.raw
  -- dword 1's opcode is a byte
  pub legacy : p.legacy_4kb_erase_inst < 256

-- t is a list of bytes
pub params_read : (minor n : ℕ) (t : List ℕ) → ((i : ℕ) → get_or t i 0 < 256) → accepted n t ≡ true → Read minor n t (params minor n t)
unfolding params fields
params_read minor n t bytes h = record {
  accept = h;
  is = refl;
  types = types_placed (dword t 8) (dword t 9) (extended minor n) (dword t 10) (sizes_8 n t h) (sizes_9 n t h);
  dense_range = density_between (dword t 2) (dword_below t bytes 2) (dense n t h);
  page = page_power (extended minor n) (dword t 11);
  no_page = page_unknown (extended minor n) (dword t 11);
  times = times_known (extended minor n) (dword t 10) (dword t 11);
  raws = raw_below (extended minor n) (dword t 10) (dword t 11);
  legacy = bits_below (dword t 1) 15 8;
}

-- a table that is read was accepted, and gives its parameters
pub table_params : (minor n : ℕ) (t : List ℕ) (p : FlashParams) → read_table minor n t ≡ Ok p → (accepted n t ≡ true) × (p ≡ params minor n t)
unfolding read_table
table_params minor n t p h = by_test (accepted n t) refl h
  where
    by_test : (b : Bool) → accepted n t ≡ b → cond b (Ok (params minor n t)) (Err Refusal.InvalidSFDPParams) ≡ Ok p → (accepted n t ≡ true) × (p ≡ params minor n t)
    by_test true e q = (e, cc)
    by_test false e q = let z : ◌≡◌ {A = ℕ} 0 1 = cc in absurd (omega arith)

pub table_read : (minor n : ℕ) (t : List ℕ) (p : FlashParams) → ((i : ℕ) → get_or t i 0 < 256) → read_table minor n t ≡ Ok p → Read minor n t p
table_read minor n t p bytes h =
    let q : (accepted n t ≡ true) × (p ≡ params minor n t) = table_params minor n t p h in
    rw q.1 (params_read minor n t bytes q.0)

-- ---- the capacity, in bytes
pub capacity_is : (p : FlashParams) → capacity p ≡ p.density / 8
capacity_is p = refl

pub capacity_most : {minor n : ℕ} {t : List ℕ} {p : FlashParams} → Read minor n t p → capacity p ≤ 2 ^ 60
capacity_most r = omega (arith, r.dense_range.to)

-- ---- a whole area: its first parameter header, and the table that this points to
pub record AreaRead (area : List ℕ) (p : FlashParams) : Type 0 where
  pub header : SFDPParameterHeader
  pub of_area : read_header area ≡ Ok header
  pub table : Read header.minor header.plen (drop header.ptp area) p

pub area_read : (area : List ℕ) (p : FlashParams) → ((i : ℕ) → get_or area i 0 < 256) → read_area area ≡ Ok p → AreaRead area p
unfolding read_area
area_read area p bytes h = by_header (read_header area) refl h
  where
    by_header : (r : Result SFDPParameterHeader SFDPError) → read_header area ≡ r → of_header area r ≡ Ok p → AreaRead area p
    by_header (Ok q) e f = record {
      header = q;
      of_area = e;
      table = table_read q.minor q.plen (drop q.ptp area) p (λ (i : ℕ). rw (get_or-drop q.ptp area i 0) (bytes (q.ptp + i))) f;
    }
    by_header (Err x) e f = let z : ◌≡◌ {A = ℕ} 0 1 = cc in absurd (omega arith)
