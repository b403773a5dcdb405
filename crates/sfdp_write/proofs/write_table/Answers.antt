use native.Mathlib.Omega.{arith}
use Rattle.sfdp_write.proofs.Codes.{density_some}
use Rattle.sfdp_write.proofs.Back.{first_parts}
use Rattle.sfdp_write.specs.Table.{table_of, bytes_of}
use borrow.Author.Tests.{le-leb, lt-leb}
use mathlib.Core.Path.{refl, sym}
use Rattle.sfdp_write.specs.Written.{answer_to, written}
use Rattle.sfdp_write.proofs.write_table.Goals as goal

pub returns-then-not-is_formed : goal.returns-then-not-is_formed
unfolding answer_to written
returns-then-not-is_formed c =
    let types = c.well_formed.0.1.1.1.1.1.1.1.1.1.1.1.0 in
    rw (← c.is_formed.ensures, c.if-not-is_formed.true)
    (refl, refl, omega (arith, c.well_formed, types.1.1.1.1.0, types.1.1.1.1.1.0))

pub returns-then-out-lt80 : goal.returns-then-out-lt80
unfolding answer_to written
returns-then-out-lt80 c =
    let types = c.well_formed.0.1.1.1.1.1.1.1.1.1.1.1.0 in
    rw (← c.is_formed.ensures, c.if-not-is_formed.false, lt-leb 80 _ c.if-out-lt80.true)
    (refl, refl, omega (arith, c.well_formed, types.1.1.1.1.0, types.1.1.1.1.1.0))

pub area_dwords-requires : goal.area_dwords-requires
area_dwords-requires c =
    let p = c.args.p in
    density_some p.density (first_parts p (rw c.if-not-is_formed.false at (sym c.is_formed.ensures))).3

pub returns : goal.returns
unfolding answer_to written table_of bytes_of
returns c =
    let types = c.well_formed.0.1.1.1.1.1.1.1.1.1.1.1.0 in
    rw (c.store.ensures, c.area_dwords.ensures, ← c.is_formed.ensures, c.if-not-is_formed.false, le-leb 80 _ c.if-out-lt80.false)
    (refl, refl, omega (arith, c.well_formed, types.1.1.1.1.0, types.1.1.1.1.1.0))
