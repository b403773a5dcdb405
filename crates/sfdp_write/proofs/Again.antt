-- Parameters that were read from a table of minor 6 and 16 dwords have a form, and from a plain table they are written as its bytes again.
use Prim.Native.Nat.{ℕ, ◌^◌, ◌<◌}
use native.Mathlib.Nat.{mod-eq_of_lt}
use native.Mathlib.Omega.{arith}
use mathlib.Core.Path.{◌≡◌, refl, sym, ap, ◌∙◌}
use mathlib.Core.Bool.{true, cond, ◌&&◌}
use mathlib.Core.List.{List, [], ◌∷◌}
use lib.Dec.{eqb}
use lib.ListN.{get_or}
use borrow.Author.Tests.{lt-ltb}
use Rattle.dwords.specs.Dwords.{dword, bits, bit}
use Rattle.dwords.proofs.Bytes.{bits_below, dword_below}
use Rattle.sfdp.specs.Times.{page_time, byte_time, chip_time}
use Rattle.sfdp.specs.Jesd216.{address_bytes, density, erase_type, erase_types, timing, raw_times, volatility, extended, fields, params, sizes_fit, density_fits, accepted}
use Rattle.sfdp.specs.declared.SFDPAddressBytes.TheVariants as Address
use Rattle.sfdp.specs.declared.SFDPStatus1Volatility.TheVariants as Status1
use Rattle.sfdp.proofs.Laws.{left_of, right_of, first_fits, second_fits, lowest}
use Rattle.sfdp_write.specs.Table.{mark, exponent, address_code, size_field, volatility_code, dword1, dword2, types_dword, dword10, times_dword, dword11, dword14, dword16, dwords_of, bytes_of, table_of}
use Rattle.sfdp_write.specs.Form.{types_formed, raw_formed, timing_formed, first_formed, rest_formed, formed}
use Rattle.sfdp_write.specs.Promises.{NoneSkipped, Plain}
use Rattle.sfdp_write.proofs.Powers.{zeros_power}
use Rattle.sfdp_write.proofs.Placing as P
use Rattle.sfdp_write.proofs.Lists.{dwords_up, bytes_up}
use Rattle.sfdp_write.proofs.Codes.{mark_again, support_again, enable_formed, enable_again, address_formed, address_again, status_formed, status_again, density_formed_lem, density_again, page_formed_lem}
use Rattle.sfdp_write.proofs.Types.{time_formed_lem, Again, type_again}

module _ (t : List ℕ) (bytes : (i : ℕ) → get_or t i 0 < 256) (accept : accepted 16 t ≡ true) where
  abbrev d1 : ℕ
  d1 = dword t 1

  abbrev d2 : ℕ
  d2 = dword t 2

  abbrev d8 : ℕ
  d8 = dword t 8

  abbrev d9 : ℕ
  d9 = dword t 9

  abbrev d10 : ℕ
  d10 = dword t 10

  abbrev d11 : ℕ
  d11 = dword t 11

  abbrev d14 : ℕ
  d14 = dword t 14

  abbrev d16 : ℕ
  d16 = dword t 16

  fits : (sizes_fit d8 ≡ true) × (sizes_fit d9 ≡ true) × (density_fits d2 ≡ true)
  unfolding accepted
  fits =
      let r : sizes_fit d9 && density_fits d2 ≡ true = right_of (sizes_fit d8) (sizes_fit d9 && density_fits d2) accept in
      (left_of (sizes_fit d8) (sizes_fit d9 && density_fits d2) accept, left_of (sizes_fit d9) (density_fits d2) r, right_of (sizes_fit d9) (density_fits d2) r)

  -- the four types
  again1 : Again (bits d8 7 0) (bits d8 15 8) (bits d10 3 0) (bits d10 10 4) (erase_type (bits d8 7 0) (bits d8 15 8) true (bits d10 3 0) (bits d10 10 4))
  again1 = type_again (bits d8 7 0) (bits d8 15 8) (bits d10 3 0) (bits d10 10 4) (first_fits d8 fits.0) (bits_below d10 10 4)

  again2 : Again (bits d8 23 16) (bits d8 31 24) (bits d10 3 0) (bits d10 17 11) (erase_type (bits d8 23 16) (bits d8 31 24) true (bits d10 3 0) (bits d10 17 11))
  again2 = type_again (bits d8 23 16) (bits d8 31 24) (bits d10 3 0) (bits d10 17 11) (second_fits d8 fits.0) (bits_below d10 17 11)

  again3 : Again (bits d9 7 0) (bits d9 15 8) (bits d10 3 0) (bits d10 24 18) (erase_type (bits d9 7 0) (bits d9 15 8) true (bits d10 3 0) (bits d10 24 18))
  again3 = type_again (bits d9 7 0) (bits d9 15 8) (bits d10 3 0) (bits d10 24 18) (first_fits d9 fits.1) (bits_below d10 24 18)

  again4 : Again (bits d9 23 16) (bits d9 31 24) (bits d10 3 0) (bits d10 31 25) (erase_type (bits d9 23 16) (bits d9 31 24) true (bits d10 3 0) (bits d10 31 25))
  again4 = type_again (bits d9 23 16) (bits d9 31 24) (bits d10 3 0) (bits d10 31 25) (second_fits d9 fits.1) (bits_below d10 31 25)

  -- ---- a form

  raw_formed_lem : raw_formed (raw_times true d10 d11) ≡ true
  unfolding raw_formed raw_times
  raw_formed_lem =
      rw
      (lt-ltb (bits d10 3 0) 16 (bits_below d10 3 0), lt-ltb (bits d11 3 0) 16 (bits_below d11 3 0), lt-ltb (bits d11 30 24) 128 (bits_below d11 30 24), lt-ltb (bits d11 18 14) 32 (bits_below d11 18 14), lt-ltb (bits d11 23 19) 32 (bits_below d11 23 19), lt-ltb (bits d11 13 8) 64 (bits_below d11 13 8))

  timing_formed_lem : timing_formed (raw_times true d10 d11) (timing true d10 d11) ≡ true
  unfolding timing_formed raw_times timing
  timing_formed_lem =
      rw
      (time_formed_lem (bits d10 3 0) (chip_time (bits d11 30 24)), time_formed_lem (bits d11 3 0) (byte_time (bits d11 18 14)), time_formed_lem (bits d11 3 0) (byte_time (bits d11 23 19)), time_formed_lem (bits d11 3 0) (page_time (bits d11 13 8)))

  types_formed_lem : types_formed (bits d10 3 0) (erase_types d8 d9 true d10) ≡ true
  unfolding types_formed erase_types
  types_formed_lem = rw (again1.formed, again2.formed, again3.formed, again4.formed)

  first_formed_lem : (address_bytes (bits d1 18 17) ≡ Address.Reserved → ⊥) → first_formed (params 6 16 t) ≡ true
  unfolding first_formed params fields
  first_formed_lem a = rw (enable_formed (bit d1 4), address_formed (address_bytes (bits d1 18 17)) a, density_formed_lem d2 (dword_below t bytes 2) fits.2)

  rest_formed_lem : (volatility (bits d16 4 0) ≡ Status1.Reserved → ⊥) → rest_formed (params 6 16 t) ≡ true
  unfolding rest_formed params fields extended raw_times
  rest_formed_lem v =
      rw
      (status_formed (volatility (bits d16 4 0)) v, page_formed_lem (bits d11 7 4) (bits_below d11 7 4), raw_formed_lem, timing_formed_lem, types_formed_lem)

  pub params_formed : (address_bytes (bits d1 18 17) ≡ Address.Reserved → ⊥) → (volatility (bits d16 4 0) ≡ Status1.Reserved → ⊥) → formed (params 6 16 t) ≡ true
  unfolding formed
  params_formed a v = rw (first_formed_lem a, rest_formed_lem v)

  -- ---- the dwords again
  zero_dword : (n : ℕ) → bits (dword t n) 31 0 ≡ 0 → 0 ≡ dword t n
  zero_dword n c = sym c ∙ lowest (dword t n) 31 ∙ mod-eq_of_lt (dword_below t bytes n)

  mark_of : (d k : ℕ) → bits d k k < 2 → mark (bit d k) ≡ bits d k k
  mark_of d k h = mark_again (bits d k k) h

  module _ (plain : Plain t) where
    abbrev clear : NoneSkipped t
    clear = plain.skipped

    one_again : dword1 (params 6 16 t) ≡ d1
    unfolding dword1 params fields
    one_again =
        P.skip d1 19 12 clear.in1.2
        (P.grow d1 17 1 (address_code (address_bytes (bits d1 18 17))) (address_again (bits d1 18 17) (bits_below d1 18 17) plain.reserved.address)
        (P.skip d1 16 0 clear.in1.1
        (P.grow d1 8 7 (bits d1 15 8) refl
        (P.skip d1 5 2 clear.in1.0
        (P.grow d1 4 0 (mark (eqb (cond (bit d1 4) 0x06 0x50) 0x06)) (enable_again (bit d1 4) ∙ mark_of d1 4 (bits_below d1 4 4))
        (P.grow d1 3 0 (mark (bit d1 3)) (mark_of d1 3 (bits_below d1 3 3))
        (P.grow d1 2 0 (mark (bit d1 2)) (mark_of d1 2 (bits_below d1 2 2))
        (P.lowest d1 1 (cond (eqb (bits d1 1 0) 1) 1 3) (support_again (bits d1 1 0) plain.reserved.support)))))))))
        ∙ mod-eq_of_lt (dword_below t bytes 1)

    two_again : dword2 (density d2) ≡ d2
    two_again = density_again d2 (dword_below t bytes 2) fits.2 plain.dense

    eight_again : types_dword (erase_types d8 d9 true d10).inst1 (erase_types d8 d9 true d10).inst2 ≡ d8
    unfolding types_dword erase_types
    eight_again =
        let f = again1.fields plain.absent.type1 in
        let g = again2.fields plain.absent.type2 in
        P.grow d8 24 7 (erase_types d8 d9 true d10).inst2.opcode g.1
        (P.grow d8 16 7 (size_field (erase_types d8 d9 true d10).inst2.size) g.0
        (P.grow d8 8 7 (erase_types d8 d9 true d10).inst1.opcode f.1
        (P.lowest d8 7 (size_field (erase_types d8 d9 true d10).inst1.size) f.0)))
        ∙ mod-eq_of_lt (dword_below t bytes 8)

    nine_again : types_dword (erase_types d8 d9 true d10).inst3 (erase_types d8 d9 true d10).inst4 ≡ d9
    unfolding types_dword erase_types
    nine_again =
        let f = again3.fields plain.absent.type3 in
        let g = again4.fields plain.absent.type4 in
        P.grow d9 24 7 (erase_types d8 d9 true d10).inst4.opcode g.1
        (P.grow d9 16 7 (size_field (erase_types d8 d9 true d10).inst4.size) g.0
        (P.grow d9 8 7 (erase_types d8 d9 true d10).inst3.opcode f.1
        (P.lowest d9 7 (size_field (erase_types d8 d9 true d10).inst3.size) f.0)))
        ∙ mod-eq_of_lt (dword_below t bytes 9)

    ten_again : times_dword (bits d10 3 0) (erase_types d8 d9 true d10) ≡ d10
    unfolding dword10 erase_types
    ten_again =
        P.grow d10 25 6 (erase_types d8 d9 true d10).inst4.time_raw (again4.fields plain.absent.type4).2
        (P.grow d10 18 6 (erase_types d8 d9 true d10).inst3.time_raw (again3.fields plain.absent.type3).2
        (P.grow d10 11 6 (erase_types d8 d9 true d10).inst2.time_raw (again2.fields plain.absent.type2).2
        (P.grow d10 4 6 (erase_types d8 d9 true d10).inst1.time_raw (again1.fields plain.absent.type1).2
        (P.lowest d10 3 (bits d10 3 0) refl))))
        ∙ mod-eq_of_lt (dword_below t bytes 10)

    eleven_again : dword11 (2 ^ bits d11 7 4) (raw_times true d10 d11) ≡ d11
    unfolding dword11 raw_times
    eleven_again =
        P.skip d11 31 0 clear.in11
        (P.grow d11 24 6 (bits d11 30 24) refl
        (P.grow d11 19 4 (bits d11 23 19) refl
        (P.grow d11 14 4 (bits d11 18 14) refl
        (P.grow d11 8 5 (bits d11 13 8) refl
        (P.grow d11 4 3 (exponent 32 (2 ^ bits d11 7 4)) (zeros_power 32 (bits d11 7 4) (omega (arith, bits_below d11 7 4)))
        (P.lowest d11 3 (bits d11 3 0) refl))))))
        ∙ mod-eq_of_lt (dword_below t bytes 11)

    fourteen_again : dword14 (params 6 16 t) ≡ d14
    unfolding dword14 params fields extended
    fourteen_again =
        P.skip d14 4 27 clear.in14.1
        (P.grow d14 3 0 (mark (bit d14 3)) (mark_of d14 3 (bits_below d14 3 3))
        (P.start d14 2 0 (mark (bit d14 2)) (mark_of d14 2 (bits_below d14 2 2)) (sym clear.in14.0 ∙ lowest d14 1)))
        ∙ mod-eq_of_lt (dword_below t bytes 14)

    sixteen_again : dword16 (params 6 16 t) ≡ d16
    unfolding dword16 params fields extended
    sixteen_again =
        P.skip d16 25 6 clear.in16.3
        (P.grow d16 24 0 (mark (bit d16 24)) (mark_of d16 24 (bits_below d16 24 24))
        (P.skip d16 15 8 clear.in16.2
        (P.grow d16 14 0 (mark (bit d16 14)) (mark_of d16 14 (bits_below d16 14 14))
        (P.skip d16 13 0 clear.in16.1
        (P.grow d16 12 0 (mark (bit d16 12)) (mark_of d16 12 (bits_below d16 12 12))
        (P.grow d16 11 0 (mark (bit d16 11)) (mark_of d16 11 (bits_below d16 11 11))
        (P.skip d16 5 5 clear.in16.0
        (P.lowest d16 4 (volatility_code (volatility (bits d16 4 0))) (status_again (bits d16 4 0) plain.reserved.status)))))))))
        ∙ mod-eq_of_lt (dword_below t bytes 16)

    dwords_again : dwords_of (params 6 16 t) ≡ dwords_up 16 0 t
    unfolding dwords_of dwords_up params fields extended raw_times
    dwords_again = λ i.
        one_again i
        ∷ two_again i
        ∷ zero_dword 3 clear.in3 i
        ∷ zero_dword 4 clear.in4 i
        ∷ zero_dword 5 clear.in5 i
        ∷ zero_dword 6 clear.in6 i
        ∷ zero_dword 7 clear.in7 i
        ∷ eight_again i
        ∷ nine_again i
        ∷ ten_again i
        ∷ eleven_again i
        ∷ zero_dword 12 clear.in12 i
        ∷ zero_dword 13 clear.in13 i
        ∷ fourteen_again i
        ∷ zero_dword 15 clear.in15 i
        ∷ sixteen_again i
        ∷ []

    pub table_again : table_of (params 6 16 t) ≡ t
    unfolding table_of
    table_again = ap bytes_of dwords_again ∙ bytes_up 16 0 t bytes plain.dwords.size
