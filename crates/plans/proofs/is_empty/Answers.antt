-- `plans::is_empty` meets its contract: there is no type exactly where every size is 0.
use Rattle.std.proofs.Common.{sym, ◌∙◌, eqb, rules, tests}
use Rattle.std.proofs.lemmas.Iterator.{YieldsList-from_slice}
use Rattle.std.proofs.lemmas.Iterator.Search.{all_from_yields_List}
use Rattle.erase_plan.specs.declared.EraseType.{EraseType}
use Rattle.plans.proofs.Found.{none_present}
use Rattle.plans.proofs.is_empty.Goals as goal

pub returns : goal.returns
returns c =
    all_from_yields_List (λ (t : EraseType). eqb t.size 0) _ _ _ c.all.ensures.ran (YieldsList-from_slice c.args.ts.slots cc)
    (λ x b q k. search (rules, tests))
    ∙ sym (none_present c.args.ts)
