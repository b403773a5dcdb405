use mathlib.Core.Path.{refl, sym, ◌∙◌}
use Rattle.std.proofs.Common.{arith}
use Rattle.sfdp_write.specs.Table.{bytes_of}
use Rattle.sfdp_write.proofs.Lists.{four_of, store_more}
use Rattle.sfdp_write.proofs.store.Goals as goal

pub loop-i-init : goal.loop-i-init
unfolding bytes_of
loop-i-init c = refl

pub loop-i-preserved : goal.loop-i-preserved
loop-i-preserved c =
    let l = c.loop-i in
    rw l.invariant (store_more c.args.w.now c.args.out.now c.copy_from_slice.new.self l.i _ (omega arith) (omega arith) (c.copy_from_slice.ensures.after ∙ c.to_le_bytes.ensures ∙ sym (four_of _)))
