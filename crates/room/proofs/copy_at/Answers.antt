use mathlib.Core.Path.{◌≡◌, refl, sym, ap, ◌∙◌}
use Rattle.std.proofs.Common.{arith, ℕ, List, length, ◌+◌, ◌<◌}
use native.Mathlib.Numerals.{add-one}
use lib.ListN.{length-set, set, get_or}
use lib.Seq.{paste, paste-zero, paste-suc}
use Rattle.room.proofs.Laws.{over_paste}
use Rattle.room.proofs.copy_at.Goals as goal

pub loop-i-init : goal.loop-i-init
loop-i-init c = (paste-zero c.args.room.now c.args.at c.args.bytes.now, refl)

pub loop-i-preserved : goal.loop-i-preserved
loop-i-preserved c =
    let a = c.args in
    let l = c.loop-i in
    let fits : a.at + l.i < length a.room.now = omega arith in
    let more : l.i < length a.bytes.now = omega arith in (
      ap (λ (w : List ℕ). set w (a.at + l.i) (get_or a.bytes.now l.i 0)) l.invariant.0
          ∙ paste-suc a.room.now a.at a.bytes.now l.i 0 fits more
          ∙ ap (λ (k : ℕ). paste a.room.now a.at a.bytes.now k) (sym (add-one l.i)),
      simp length-set l.invariant.1,
    )

pub returns : goal.returns
returns c =
    let a = c.args in
    let all : c.loop-i.i ≡ length a.bytes.now = omega arith in
    c.loop-i.invariant.0
    ∙ ap (λ (k : ℕ). paste a.room.now a.at a.bytes.now k) all
    ∙ over_paste a.at a.bytes.now a.room.now
