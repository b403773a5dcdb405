-- `erase_plan::put_in` meets its contract: slot by slot, what is to be put goes there or is passed on.
use Rattle.std.proofs.Common.{sym, ◌∙◌, ◌<◌, length, length-set, arith}
use Rattle.erase_plan.proofs.Slots.{put_none, put_one, put_taken, put_passed, put_all}
use Rattle.erase_plan.proofs.put_in.Goals as goal
use Rattle.erase_plan.proofs.put_in.Goals.{then-goes_before, else-goes_before}

pub returns-then-t-eq0 : goal.returns-then-t-eq0
returns-then-t-eq0 c l p e = e ∙ put_none _ l c.if-t-eq0.true

pub loop-slot-preserved : goal.loop-slot-preserved
loop-slot-preserved c = let h : c.loop-slot.slot-index < length c.loop-slot.slot-items = omega (arith, c.loop-slot.invariant.long) in
    elim c.if-goes_before.branch [
      | then-goes_before w ↦
          rw (w.put-is, w.slot-items-is, w.swap.ensures.x_after, w.swap.ensures.y_after) (record {
            long = length-set _ _ _ ∙ c.loop-slot.invariant.long;
            same = put_taken _ _ _ h (sym c.goes_before.ensures ∙ w.if-goes_before.true) ∙ c.loop-slot.invariant.same;
          })
      | else-goes_before w ↦
          rw (w.put-is, w.slot-items-is) (record {
            long = length-set _ _ _ ∙ c.loop-slot.invariant.long;
            same = put_passed _ _ _ h (sym c.goes_before.ensures ∙ w.if-goes_before.false) ∙ c.loop-slot.invariant.same;
          })
    ]

pub returns : goal.returns
returns c l p e =
    rw (sym (put_all c.loop-slot.put _ c.loop-slot.slot-index (omega arith)) ∙ c.loop-slot.invariant.same)
    (put_one c.args.t l c.if-t-eq0.false p c.args.ts e)
