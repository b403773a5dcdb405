use Rattle.std.proofs.Common.{arith, ◌≤◌}
use Rattle.std.proofs.lemmas.Grind.{elements}
use Rattle.sfdp.proofs.Laws.{time_fits}
use Rattle.sfdp.proofs.time_of.Goals as goal

pub overflow_mul-result : goal.overflow_mul-result
overflow_mul-result c =
    let small : c.in-Some.unit.now ≤ 64000000 = grind (arith, elements) in
    record { fits = time_fits c.args.count_bits c.args.raw c.in-Some.unit.now c.requires.few_bits small }
