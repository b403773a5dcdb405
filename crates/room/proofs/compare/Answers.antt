use Rattle.std.proofs.Common.{rules, tests, ◌∙◌}
use Rattle.std.specs.List.{zip}
use Rattle.std.proofs.lemmas.Iterator.{YieldsList-from_slice, YieldsList-from_zip}
use Rattle.std.proofs.lemmas.Iterator.Search.{position_from_yields_List}
use Rattle.std.proofs.lemmas.Iterator.Adapters.{position_from-zero}
use Rattle.room.proofs.Steps.{differ, found_differs}
use Rattle.room.proofs.compare.Goals as goal

pub returns-in_err-i : goal.returns-in_err-i
returns-in_err-i c =
    let l = c.args.part.now in
    let r = c.args.reply.now in
    let found = position_from_yields_List differ c.position.new.self _ c.position.result c.position.ensures.ran (YieldsList-from_zip (YieldsList-from_slice l (cc)) (YieldsList-from_slice r (cc))) (λ x b q k. search (rules, tests)) ∙ position_from-zero differ (zip l r) in
    c.from_residual.ensures ∙ found_differs l r _ _ found c.in_err-i.was

pub returns : goal.returns
returns c =
    let l = c.args.part.now in
    let r = c.args.reply.now in
    let found = position_from_yields_List differ c.position.new.self _ c.position.result c.position.ensures.ran (YieldsList-from_zip (YieldsList-from_slice l (cc)) (YieldsList-from_slice r (cc))) (λ x b q k. search (rules, tests)) ∙ position_from-zero differ (zip l r) in
    found_differs l r _ _ found c.in_ok-i.was
