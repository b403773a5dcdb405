-- The statements of specs/Promises.antt, proved.
use Prim.Native.Nat.{ℕ, ◌≤◌, ◌<◌}
use native.Mathlib.Omega.{arith}
use mathlib.Core.Path.{◌≡◌, refl, sym, ap, ◌∙◌, subst}
use mathlib.Core.Bool.{Bool, true, false, cond, ◌&&◌, false≢true}
use mathlib.Core.List.{List, [], ◌++◌, append-nil}
use lib.Dec.{leb}
use lib.ListN.{length, drop}
use borrow.Author.Tests.{leb-true, leb-false, le-leb, lt-leb}
use Rattle.std.specs.Prelude.{Result, Ok, Err}
use Rattle.dwords.specs.Dwords.{byte_at, le32, dword, bits, bit}
use Rattle.dwords.proofs.Bytes.{bits_below}
use Rattle.sfdp.specs.Jesd216.{address_bytes, density, volatility, signed, parameter_header, basic, read_header, fields, params, extended, read_area}
use Rattle.sfdp.specs.declared.SFDPAddressBytes.TheVariants as Address
use Rattle.sfdp.specs.declared.SFDPStatus1Volatility.TheVariants as Status1
use Rattle.sfdp.specs.declared.FlashParams.{FlashParams}
use Rattle.sfdp.proofs.Bounds.{table_params}
use Rattle.sfdp_write.specs.Table.{dwords_of, bytes_of, table_of}
use Rattle.sfdp_write.specs.Form.{first_formed, rest_formed, formed}
use Rattle.sfdp_write.specs.Written.{header, area_of, answer_to, written}
use Rattle.sfdp_write.specs.declared.WriteError.{WriteError}
use Rattle.sfdp_write.specs.declared.WriteError.TheVariants.{NoForm, NoRoom}
use Rattle.sfdp_write.specs.Promises.{minor6, Widths, Dwords16, HasForm, NoneSkipped, NoneReserved, AbsentZeros, Plain, RefusesExactly, NeedsExactly, DoneExactly, RefusalKeeps, DoneWrites, ReadsBack, WritesAgain, WritesPlain, WriterPromises}
use Rattle.sfdp_write.proofs.Lists.{length_bytes, bytes_below}
use Rattle.sfdp_write.proofs.Codes.{support_code, address_free, address_other, address_read, status_free, status_back}
use Rattle.sfdp_write.proofs.Back.{first_parts, rest_parts, four_typed, first, pair, polls, last, ten, eleven, dense, at1, at2, at8, at9, at10, at11, at14, at16, table_back}
use Rattle.sfdp_write.proofs.Again.{params_formed, table_again}

-- ---- a form is what the tests find
pub table_dwords : (p : FlashParams) → Dwords16 (table_of p)
unfolding table_of dwords_of
table_dwords p = record { size = length_bytes (dwords_of p); bytes = bytes_below (dwords_of p) }

pub has_form : (p : FlashParams) → Widths p → formed p ≡ true → HasForm p
has_form p wide h = record {
  address = address_free p.address_bytes (first_parts p h).2;
  status = status_free p.status_1_vol (rest_parts p h).1;
  table = table_of p;
  dwords = table_dwords p;
  reads = rw append-nil at (table_back p h wide []);
}

same_form : (p : FlashParams) → formed p ≡ formed (minor6 p)
unfolding formed first_formed rest_formed
same_form p = refl

pub form_found : (p : FlashParams) → HasForm p → formed p ≡ true
unfolding params fields extended
form_found p f =
    let t = f.table in
    let q = table_params 6 16 t (minor6 p) f.reads in
    let a : p.address_bytes ≡ address_bytes (bits (dword t 1) 18 17) = ap (λ (x : FlashParams). x.address_bytes) q.1 in
    let v : p.status_1_vol ≡ volatility (bits (dword t 16) 4 0) = ap (λ (x : FlashParams). x.status_1_vol) q.1 in
    same_form p
    ∙ ap formed q.1
    ∙ params_formed t f.dwords.bytes q.0 (λ (e : address_bytes (bits (dword t 1) 18 17) ≡ Address.Reserved). f.address (a ∙ e)) (λ (e : volatility (bits (dword t 16) 4 0) ≡ Status1.Reserved). f.status (v ∙ e))

-- ---- the answers
abbrev answer : Bool → Bool → Result Unit WriteError
answer form room = cond form (cond room (Ok tt) (Err (NoRoom 80))) (Err NoForm)

none : (a b : Bool) → answer a b ≡ Err NoForm → a ≡ false
none true true e = let z : ◌≡◌ {A = ℕ} 0 1 = cc in absurd (omega arith)
none true false e = let z : ◌≡◌ {A = ℕ} 0 1 = cc in absurd (omega arith)
none false b e = refl

short : (a b : Bool) (n : ℕ) → answer a b ≡ Err (NoRoom n) → (a ≡ true) × (b ≡ false) × (n ≡ 80)
short true true n e = let z : ◌≡◌ {A = ℕ} 0 1 = cc in absurd (omega arith)
short true false n e = let q : n ≡ 80 = cc in (refl, refl, q)
short false b n e = let z : ◌≡◌ {A = ℕ} 0 1 = cc in absurd (omega arith)

done : (a b : Bool) → answer a b ≡ Ok tt → (a ≡ true) × (b ≡ true)
done true true e = (refl, refl)
done true false e = let z : ◌≡◌ {A = ℕ} 0 1 = cc in absurd (omega arith)
done false b e = let z : ◌≡◌ {A = ℕ} 0 1 = cc in absurd (omega arith)

not_formed : (p : FlashParams) (b : Bool) → formed p ≡ b → Widths p → (HasForm p → ⊥) → formed p ≡ false
not_formed p true e wide f = absurd (f (has_form p wide e))
not_formed p false e wide f = e

pub refuses_exactly : RefusesExactly
unfolding answer_to
refuses_exactly p room wide = (
  λ (e : answer_to p room ≡ Err NoForm) (f : HasForm p). absurd (false≢true (sym (none (formed p) (leb 80 (length room)) e) ∙ form_found p f)),
  λ (f : HasForm p → ⊥). rw (not_formed p (formed p) refl wide f),
)

pub needs_exactly : NeedsExactly
unfolding answer_to
needs_exactly p room need wide = (
  λ (e : answer_to p room ≡ Err (NoRoom need)).
      let r = short (formed p) (leb 80 (length room)) need e in
      (has_form p wide r.0, leb-false 80 (length room) r.1, r.2),
  λ (f : HasForm p × (length room < 80) × (need ≡ 80)). rw (form_found p f.0, lt-leb 80 (length room) f.1, f.2),
)

pub done_exactly : DoneExactly
unfolding answer_to
done_exactly p room wide = (
  λ (e : answer_to p room ≡ Ok tt).
      let r = done (formed p) (leb 80 (length room)) e in
      (has_form p wide r.0, leb-true 80 (length room) r.1),
  λ (f : HasForm p × (80 ≤ length room)). rw (form_found p f.0, le-leb 80 (length room) f.1),
)

pub refusal_keeps : RefusalKeeps
unfolding answer_to written
refusal_keeps p room h = by_tests (formed p) (leb 80 (length room)) h
  where
    by_tests : (a b : Bool) → (answer a b ≡ Ok tt → ⊥) → cond (a && b) (area_of p ++ drop 80 room) room ≡ room
    by_tests true true n = absurd (n refl)
    by_tests true false n = refl
    by_tests false b n = refl

pub done_writes : DoneWrites
unfolding answer_to written
done_writes p room e = let r = done (formed p) (leb 80 (length room)) e in rw (r.0, r.1)

-- ---- reading back
area_back : (p : FlashParams) (more : List ℕ) → Widths p → formed p ≡ true → read_area (header ++ (table_of p ++ more)) ≡ Ok (minor6 p)
unfolding read_area read_header signed parameter_header basic byte_at
area_back p more wide h = (table_back p h wide more)

pub reads_back : ReadsBack
unfolding answer_to
reads_back p room wide e =
    let r = done (formed p) (leb 80 (length room)) e in
    ap read_area (done_writes p room e) ∙ area_back p (drop 80 room) wide r.0

-- ---- writing again
pub writes_again : WritesAgain
unfolding params fields answer_to written
writes_again t p room plain reads long =
    let q = table_params 6 16 t p reads in
    let f : formed (params 6 16 t) ≡ true =
    params_formed t plain.dwords.bytes q.0 (address_read (bits (dword t 1) 18 17) (bits_below (dword t 1) 18 17) plain.reserved.address) plain.reserved.status in
    let g : formed p ≡ true = ap formed q.1 ∙ f in
    let s : table_of p ≡ t = ap table_of q.1 ∙ table_again t plain.dwords.bytes q.0 plain in
    (rw (g, le-leb 80 (length room) long), rw (g, le-leb 80 (length room) long, s))

-- ---- what is written is plain
module _ (p : FlashParams) (h : formed p ≡ true) (wide : Widths p) where
  abbrev t : List ℕ
  t = table_of p ++ []

  skipped : NoneSkipped t
  unfolding table_of dwords_of bytes_of le32 byte_at
  skipped =
      let on1 = (first p).clear in
      let on14 = (polls p).clear in
      let on16 = (last p).clear in
      record {
        in1 = rw (at1 p h wide []) on1;
        in3 = refl;
        in4 = refl;
        in5 = refl;
        in6 = refl;
        in7 = refl;
        in11 = rw (at11 p h wide []) (eleven p h).clear;
        in12 = refl;
        in13 = refl;
        in14 = rw (at14 p h wide []) on14;
        in15 = refl;
        in16 = rw (at16 p h wide []) on16;
      }

  reserved : NoneReserved t
  reserved =
      let on1 = first p in
      let on16 = last p in
      record {
        support = rw (at1 p h wide [], on1.support) (support_code p.legacy_4kb_erase_supported);
        address = rw (at1 p h wide [], on1.address) (address_other p.address_bytes (first_parts p h).2);
        status = rw (at16 p h wide [], on16.status, status_back p.status_1_vol (rest_parts p h).1) (status_free p.status_1_vol (rest_parts p h).1);
      }

  dense_above : bit (dword t 2) 31 ≡ true → 2147483648 < density (dword t 2)
  dense_above = rw (at2 p h wide [], (dense p h wide).is) (dense p h wide).above

  absent : AbsentZeros t
  absent =
      let typed = four_typed p h wide in
      let on8 = pair p.erase_insts.inst1 p.erase_insts.inst2 in
      let on9 = pair p.erase_insts.inst3 p.erase_insts.inst4 in
      let on10 = ten p h in
      record {
        type1 = rw (at8 p h wide [], at10 p h wide [], on8.size1, on8.opcode1, on10.time1) typed.type1.absent;
        type2 = rw (at8 p h wide [], at10 p h wide [], on8.size2, on8.opcode2, on10.time2) typed.type2.absent;
        type3 = rw (at9 p h wide [], at10 p h wide [], on9.size1, on9.opcode1, on10.time3) typed.type3.absent;
        type4 = rw (at9 p h wide [], at10 p h wide [], on9.size2, on9.opcode2, on10.time4) typed.type4.absent;
      }

  pub table_plain : Plain (table_of p)
  table_plain =
      let same : table_of p ++ [] ≡ table_of p = append-nil (table_of p) in
      record {
        dwords = table_dwords p;
        skipped = subst (λ (x : List ℕ). NoneSkipped x) same skipped;
        reserved = subst (λ (x : List ℕ). NoneReserved x) same reserved;
        dense = subst (λ (x : List ℕ). bit (dword x 2) 31 ≡ true → 2147483648 < density (dword x 2)) same dense_above;
        absent = subst (λ (x : List ℕ). AbsentZeros x) same absent;
      }

pub writes_plain : WritesPlain
writes_plain p wide f = table_plain p (form_found p f) wide

pub writer_promises : WriterPromises
writer_promises = record {
  refuses = refuses_exactly;
  needs = needs_exactly;
  done = done_exactly;
  keeps = refusal_keeps;
  writes = done_writes;
  back = reads_back;
  again = writes_again;
  plain = writes_plain;
}
