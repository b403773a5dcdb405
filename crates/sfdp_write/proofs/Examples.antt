-- Examples: a real part's table of minor 6 and 16 dwords, what is written of its parameters, and a part of 2 to the power of 32 bits. The real
-- table is not plain: it has fast reads and other fields that reading skips, and its fourth erase type, which is absent, has opcode FF.
use Prim.Native.Nat.{ℕ, zero, suc, ◌≤◌, ◌<◌}
use native.Mathlib.Omega.{arith}
use mathlib.Core.Path.{◌≡◌, refl}
use mathlib.Core.Bool.{true, false, false≢true}
use mathlib.Core.List.{List, [], ◌∷◌, ◌++◌}
use mathlib.Core.Logic.{inl, ⊎_elim}
use lib.Count.{count_trailing_zeros}
use lib.Dec.{ltb}
use lib.ListN.{length, get_or, drop}
use lib.Pow.{are_bytes}
use borrow.Author.Tests.{ltb-true}
use Rattle.std.specs.Prelude.{Ok}
use Rattle.dwords.specs.Dwords.{byte_at, le32, dword, bit}
use Rattle.sfdp.specs.Times.{erase_time, page_time, byte_time, chip_time}
use Rattle.sfdp.specs.Jesd216.{address_bytes, density, erase_type, erase_types, timing, raw_times, volatility, extended, fields, no_params, params, size_fits, sizes_fit, density_fits, accepted, read_table}
use Rattle.sfdp.specs.declared.SFDPStatus1Volatility.TheVariants as Status1
use Rattle.sfdp.proofs.Laws.{left_of, right_of}
use Rattle.sfdp_write.specs.Table.{address_code, size_field, volatility_code, dword1, dword2, types_dword, dword10, dword11, dword14, dword16, dwords_of, bytes_of, table_of}
use Rattle.sfdp_write.specs.Form.{density_formed, time_formed, none_formed, one_formed, type_formed, types_formed, raw_formed, timing_formed, page_formed, first_formed, rest_formed, formed}
use Rattle.sfdp_write.specs.Written.{header, answer_to, written}
use Rattle.sfdp_write.specs.Promises.{AbsentZero, Plain}
use Rattle.sfdp_write.proofs.Codes.{status_free}
use Rattle.sfdp_write.proofs.Promised.{writes_again}

-- MX66L1G45G
abbrev mx66 : List ℕ
mx66 =
    0xE5 ∷ 0x20 ∷ 0xFB ∷ 0xFF ∷ 0xFF ∷ 0xFF ∷ 0xFF ∷ 0x3F ∷ 0x44 ∷ 0xEB ∷ 0x08 ∷ 0x6B ∷ 0x08 ∷ 0x3B ∷ 0x04 ∷ 0xBB
    ∷ 0xFE ∷ 0xFF ∷ 0xFF ∷ 0xFF ∷ 0xFF ∷ 0xFF ∷ 0x00 ∷ 0xFF ∷ 0xFF ∷ 0xFF ∷ 0x44 ∷ 0xEB ∷ 0x0C ∷ 0x20 ∷ 0x0F ∷ 0x52
    ∷ 0x10 ∷ 0xD8 ∷ 0x00 ∷ 0xFF ∷ 0xD6 ∷ 0x49 ∷ 0xC5 ∷ 0x00 ∷ 0x85 ∷ 0xDF ∷ 0x04 ∷ 0xE3 ∷ 0x44 ∷ 0x03 ∷ 0x67 ∷ 0x38
    ∷ 0x30 ∷ 0xB0 ∷ 0x30 ∷ 0xB0 ∷ 0xF7 ∷ 0xBD ∷ 0xD5 ∷ 0x5C ∷ 0x4A ∷ 0x9E ∷ 0x29 ∷ 0xFF ∷ 0xF0 ∷ 0x50 ∷ 0xF9 ∷ 0x85
    ∷ []

-- its fields alone, all else 0, with another dword 2
abbrev alone : (b0 b1 b2 b3 : ℕ) → List ℕ
alone b0 b1 b2 b3 =
    0x05 ∷ 0x20 ∷ 0x02 ∷ 0x00 ∷ b0 ∷ b1 ∷ b2 ∷ b3 ∷ 0x00 ∷ 0x00 ∷ 0x00 ∷ 0x00 ∷ 0x00 ∷ 0x00 ∷ 0x00 ∷ 0x00
    ∷ 0x00 ∷ 0x00 ∷ 0x00 ∷ 0x00 ∷ 0x00 ∷ 0x00 ∷ 0x00 ∷ 0x00 ∷ 0x00 ∷ 0x00 ∷ 0x00 ∷ 0x00 ∷ 0x0C ∷ 0x20 ∷ 0x0F ∷ 0x52
    ∷ 0x10 ∷ 0xD8 ∷ 0x00 ∷ 0x00 ∷ 0xD6 ∷ 0x49 ∷ 0xC5 ∷ 0x00 ∷ 0x85 ∷ 0xDF ∷ 0x04 ∷ 0x63 ∷ 0x00 ∷ 0x00 ∷ 0x00 ∷ 0x00
    ∷ 0x00 ∷ 0x00 ∷ 0x00 ∷ 0x00 ∷ 0x04 ∷ 0x00 ∷ 0x00 ∷ 0x00 ∷ 0x00 ∷ 0x00 ∷ 0x00 ∷ 0x00 ∷ 0x10 ∷ 0x50 ∷ 0x00 ∷ 0x01
    ∷ []

abbrev cleared : List ℕ
cleared = alone 0xFF 0xFF 0xFF 0x3F

-- the real table and the cleared one read alike
real_read : read_table 6 16 mx66 ≡ read_table 6 16 cleared
unfolding read_table accepted sizes_fit size_fits density_fits params fields extended address_bytes density erase_types erase_type timing raw_times volatility le32 byte_at
real_read = refl

-- the parameters of the real table have a form, and what is written of them is the cleared table
real_formed : formed (params 6 16 mx66) ≡ true
unfolding formed first_formed rest_formed density_formed page_formed raw_formed timing_formed time_formed types_formed type_formed one_formed none_formed address_code volatility_code count_trailing_zeros params fields extended address_bytes density erase_types erase_type timing raw_times volatility erase_time chip_time byte_time page_time le32 byte_at
real_formed = refl

real_written : table_of (params 6 16 mx66) ≡ cleared
unfolding table_of dwords_of bytes_of dword1 dword2 types_dword dword10 dword11 dword14 dword16 size_field address_code volatility_code count_trailing_zeros params fields extended address_bytes density erase_types erase_type timing raw_times volatility le32 byte_at
real_written = refl

-- ---- plain tables, written again
below_all : (l : List ℕ) → are_bytes l ≡ true → (i : ℕ) → get_or l i 0 < 256
below_all [] h i = omega arith
below_all (x ∷ l) h zero = ltb-true x 256 (left_of (ltb x 256) (are_bytes l) h)
below_all (x ∷ l) h (suc i) = below_all l (right_of (ltb x 256) (are_bytes l) h) i

other : (a b : ℕ) → a < b → a ≡ b → ⊥
other a b h e = omega arith

present : (e o t : ℕ) → 0 < e → 0 < o → AbsentZero e o t
present e o t he ho a = absurd (⊎_elim (λ (q : e ≡ 0). omega arith) (λ (q : o ≡ 0). omega arith) a)

-- the cleared table's other dwords, whatever dword 2 is
alone_plain : (b0 b1 b2 b3 : ℕ) → are_bytes (alone b0 b1 b2 b3) ≡ true
    → (bit (dword (alone b0 b1 b2 b3) 2) 31 ≡ true → 2147483648 < density (dword (alone b0 b1 b2 b3) 2))
    → Plain (alone b0 b1 b2 b3)
unfolding le32 byte_at volatility volatility_code
alone_plain b0 b1 b2 b3 bytes above = record {
  dwords = record { size = refl; bytes = below_all (alone b0 b1 b2 b3) bytes };
  skipped = record {
    in1 = (refl, refl, refl);
    in3 = refl;
    in4 = refl;
    in5 = refl;
    in6 = refl;
    in7 = refl;
    in11 = refl;
    in12 = refl;
    in13 = refl;
    in14 = (refl, refl);
    in15 = refl;
    in16 = (refl, refl, refl, refl);
  };
  reserved = record {
    support = inl refl;
    address = other 1 3 (omega arith);
    status = status_free Status1.Mixed06 refl;
  };
  dense = above;
  absent = record {
    type1 = present 12 32 29 (omega arith) (omega arith);
    type2 = present 15 82 41 (omega arith) (omega arith);
    type3 = present 16 216 49 (omega arith) (omega arith);
    type4 = λ a. (refl, refl, refl);
  };
}

-- 128 MiB, stored as a number less 1
pub cleared_plain : Plain cleared
unfolding density le32 byte_at
cleared_plain = alone_plain 0xFF 0xFF 0xFF 0x3F refl (λ (e : false ≡ true). absurd (false≢true e))

-- 512 MiB, 2 to the power of 32 bits, stored by its exponent
abbrev large : List ℕ
large = alone 0x20 0x00 0x00 0x80

pub large_plain : Plain large
unfolding density le32 byte_at
large_plain = alone_plain 0x20 0x00 0x00 0x80 refl (λ (e : true ≡ true). omega arith)

-- so the theorem speaks of both
large_reads : read_table 6 16 large ≡ Ok (params 6 16 large)
unfolding read_table accepted sizes_fit size_fits density_fits le32 byte_at
large_reads = refl

pub large_again : (room : List ℕ) → 80 ≤ length room
    → (answer_to (params 6 16 large) room ≡ Ok tt) × (written (params 6 16 large) room ≡ header ++ (large ++ drop 80 room))
large_again room h = writes_again large (params 6 16 large) room large_plain large_reads h

-- ---- at the limits
pub at_limit : (dword2 2147483648 ≡ 0x7FFFFFFF) × (dword2 4294967296 ≡ 0x80000020)
unfolding dword2 count_trailing_zeros
at_limit = (refl, refl)

pub no_density : (density_formed 0 ≡ false) × (density_formed 2147483649 ≡ false) × (density_formed 6442450944 ≡ false)
unfolding density_formed count_trailing_zeros
no_density = (refl, refl, refl)

-- parameters without dwords 10 to 16
pub no_form : formed no_params ≡ false
unfolding formed first_formed rest_formed fields density_formed address_code address_bytes density
no_form = refl
