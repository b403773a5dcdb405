use Rattle.std.proofs.Common.{rules, nat_eq, tests, refl, sym, ap, ◌∙◌, ◌&&◌, arith}
use Rattle.std.specs.List.{list_all}
use Rattle.std.proofs.lemmas.Iterator.{YieldsList-from_slice}
use Rattle.std.proofs.lemmas.Iterator.Search.{all_from_yields_List}
use Rattle.room.proofs.Steps.{full, all_parts}
use Rattle.room.proofs.all_ff.Goals as goal

pub returns-then-all : goal.returns-then-all
returns-then-all c =
    let chunks = c.as_chunks.result.0.now in
    let rest = c.as_chunks.result.1.now in
    let eights = all_from_yields_List full _ _ c.all.result c.all.ensures.ran (YieldsList-from_slice chunks (cc)) (λ x b q k. search (rules, tests)) in
    let ones = all_from_yields_List (λ x. nat_eq x 255) _ _ c.all-then-all.result c.all-then-all.ensures.ran (YieldsList-from_slice rest (cc)) (λ x b q k. search (rules, tests)) in
    sym (ap (λ t. t && c.all-then-all.result) c.if-all.true) ∙ all_parts c.args.part.now rest chunks _ _ (λ k. omega (arith, c.type_inv.part k)) c.as_chunks.ensures.front c.as_chunks.ensures.back eights ones

pub returns-else-all : goal.returns-else-all
returns-else-all c =
    let chunks = c.as_chunks.result.0.now in
    let rest = c.as_chunks.result.1.now in
    let eights = all_from_yields_List full _ _ c.all.result c.all.ensures.ran (YieldsList-from_slice chunks (cc)) (λ x b q k. search (rules, tests)) in
    let ones = list_all (λ x. nat_eq x 255) rest in
    c.if-all.false ∙ sym (ap (λ t. t && ones) c.if-all.false) ∙ all_parts c.args.part.now rest chunks _ ones (λ k. omega (arith, c.type_inv.part k)) c.as_chunks.ensures.front c.as_chunks.ensures.back eights refl
