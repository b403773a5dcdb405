-- `erase_plan::lies_on_all` meets its contract: the test of all.
use Rattle.std.proofs.Common.{length, rules, tests, arith}
use Rattle.std.specs.List.{AllWithin}
use Rattle.std.proofs.lemmas.Iterator.{YieldsList-from_slice, cases_from_all}
use Rattle.erase_plan.specs.declared.EraseType.{EraseType}
use Rattle.erase_plan.specs.Types.{kept, present}
use Rattle.erase_plan.specs.Words.{Mult}
use Rattle.erase_plan.specs.Later.{OnAll}
use Rattle.erase_plan.proofs.Lists.{each_within}
use Rattle.erase_plan.proofs.Ordering.{each_kept}
use Rattle.erase_plan.proofs.lies_on_all.Goals as goal

pub returns : goal.returns
unfolding present
returns c e =
    let l = c.args.ts.slots in
    let On = λ (t : EraseType). OnAll c.args.at (kept t) in
    let cases = cases_from_all _ _ c.all.result On (λ (t : EraseType). Unit {0}) c.all.ensures.ran (YieldsList-from_slice l cc) (λ x q k. search (rules, tests)) (λ x q k. tt) in
    let on : AllWithin On l 0 (length l) = rw e at cases in
    each_kept (λ (u : EraseType). Mult u.size c.args.at) l (each_within On l (λ k d h. on k d (omega arith) h))
