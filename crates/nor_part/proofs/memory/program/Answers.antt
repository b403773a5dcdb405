use Rattle.std.proofs.Common.{◌∙◌, ◌%◌, ◌/◌, ◌<◌, length, sym, arith, mod-lt}
use Rattle.nor_part.proofs.Contents.{onward_below, programmed_more, programmed_all}
use Rattle.nor_part.proofs.memory.program.Goals as goal

pub loop-byte-preserved : goal.loop-byte-preserved
loop-byte-preserved c =
    let a = c.args in
    let l = c.loop-byte in
    let m = a.memory.now in
    let g : l.place % length m < length m = mod-lt l.place (omega arith) in
    let k : l.place % length m < length l.memory = omega arith in (
      rw c.after-place.ensures (onward_below a.page (a.a / a.page) l.place c.requires l.invariant.0),
      λ p hc hp. rw c.after-place.ensures (programmed_more p (length m) a.page hc hp l.place l.byte-index a.data.now l.memory (omega arith) k ∙ l.invariant.1 p hc hp),
    )

pub returns : goal.returns
returns c = λ h p hc hp.
    let a = c.args in
    let l = c.loop-byte in
    sym (programmed_all p (length a.memory.now) a.page hc hp l.place l.byte-index a.data.now l.memory (omega arith)) ∙ l.invariant.1 p hc hp
