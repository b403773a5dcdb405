use Rattle.std.proofs.Common.{refl, arith, get_or, ◌∙◌}
use Rattle.packed.specs.Numbers.{bytes}
use Rattle.packed.proofs.Bytes.{le_four, fill_word}
use Rattle.packed.proofs.store.Goals as goal

pub loop-i-init : goal.loop-i-init
unfolding bytes
loop-i-init c = refl

pub loop-i-preserved : goal.loop-i-preserved
unfolding bytes
loop-i-preserved c =
    let l = c.loop-i in
    let four = c.copy_from_slice.ensures.after ∙ c.to_le_bytes.ensures ∙ le_four (get_or c.args.w.now l.i 0) in
    rw l.invariant (fill_word c.args.w.now c.args.out.now _ l.i _ (omega arith) (omega arith) (omega arith) four)
