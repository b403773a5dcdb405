-- `erase_plan::are_powers` meets its contract: the test of all.
use Rattle.std.proofs.Common.{rules, tests}
use Rattle.std.proofs.lemmas.Iterator.{YieldsList-from_slice}
use Rattle.std.proofs.lemmas.Iterator.Search.{all_from_yields_List}
use Rattle.erase_plan.specs.Marks.{is_power, are_powers}
use Rattle.erase_plan.proofs.are_powers.Goals as goal

pub returns : goal.returns
unfolding are_powers
returns c = all_from_yields_List is_power _ _ _ c.all.ensures.ran (YieldsList-from_slice c.args.ts.slots cc) (λ x b q k. search (rules, tests))
