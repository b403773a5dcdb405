use Rattle.std.proofs.Common.{◌∙◌, ◌-◌, ap, List, ℕ, length-take, length-drop, arith, rules}
use borrow.Rule.Slice.PartMut.{put_mid}
use Rattle.nor_part.specs.Responds.{mem_of}
use Rattle.nor_part.proofs.Contents.{fill_between}
use Rattle.nor_part.proofs.memory.set_ff.Goals as goal

pub returns : goal.returns
returns c =
    let a = c.args in
    ap (λ (part : List ℕ). mem_of (put_mid a.from (a.to - a.from) a.memory.now part)) (c.fill.ensures.after (search rules))
    ∙ fill_between a.from a.to _ a.memory.now (search rules) (search rules) (simp (length-take, length-drop) (omega arith))
