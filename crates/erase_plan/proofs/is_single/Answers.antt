-- `erase_plan::is_single` meets its contract: the test of all but the first.
use Rattle.std.proofs.Common.{◌∙◌, eqb, drop, length-drop, arith, rules, tests}
use Rattle.std.proofs.lemmas.List.{take_all}
use Rattle.std.proofs.lemmas.Iterator.{YieldsList-from_slice}
use Rattle.std.proofs.lemmas.Iterator.Search.{all_from_yields_List}
use Rattle.erase_plan.specs.declared.EraseType.{EraseType}
use Rattle.erase_plan.specs.Marks.{is_single}
use Rattle.erase_plan.proofs.is_single.Goals as goal

pub returns : goal.returns
unfolding is_single
returns c =
    all_from_yields_List (λ (t : EraseType). eqb t.size 0) _ _ _ c.all.ensures.ran (YieldsList-from_slice (drop 1 c.args.ts.slots) (c.iter.ensures.rest ∙ take_all _ _ (omega (arith, length-drop 1 c.args.ts.slots))))
    (λ x b q k. search (rules, tests))
