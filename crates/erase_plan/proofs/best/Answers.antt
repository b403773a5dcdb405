-- `erase_plan::best` meets its contract: slot by slot, the better of the entry so far and the slot's.
use Rattle.std.proofs.Common.{◌<◌, ◌≤◌, length, sym, arith}
use Rattle.std.proofs.lemmas.List.{take_all}
use Rattle.erase_plan.specs.declared.EraseType.{EraseType}
use Rattle.erase_plan.specs.Types.{kept, no_type, present}
use Rattle.erase_plan.specs.Later.{OnAll}
use Rattle.erase_plan.proofs.Lists.{each_at}
use Rattle.erase_plan.proofs.Steps.{next_none}
use Rattle.erase_plan.proofs.Ordering.{kept_each, kept_more, kept_present_all}
use Rattle.erase_plan.proofs.best.Goals as goal

pub loop-t-init : goal.loop-t-init
loop-t-init g c on = sym (next_none _ _)

pub loop-t-preserved : goal.loop-t-preserved
loop-t-preserved g c on =
    let l = c.args.ts.slots in
    let i = c.loop-t.t-index in
    let h : i < length l = omega arith in
    rw (kept_more l i no_type h)
    (c.better-best.ensures _ _ _ _ (kept_present_all _) (c.loop-t.invariant on)
    (c.entry_of.ensures (λ q. each_at (λ (t : EraseType). OnAll c.args.at (kept t)) l i no_type h (kept_each _ l (on q)))))

pub returns : goal.returns
unfolding present
returns g c on =
    let h : length c.args.ts.slots ≤ c.loop-t.t-index = omega arith in
    rw (sym (take_all c.loop-t.t-index c.args.ts.slots h)) (c.loop-t.invariant on)
