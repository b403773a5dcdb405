use Rattle.std.proofs.Common.{arith, sym, ◌∙◌, ◌+◌}
use Rattle.dump_runs.proofs.Scans.{place_ends}
use Rattle.dump_runs.proofs.scan.Goals as goal

pub returns : goal.returns
returns c =
    let l = c.loop-i in
    let a = c.args in
    sym (place_ends a.c.first a.c.second l.start l.len (a.from + l.i) l.i _ _ a.p.now a.q.now (omega arith) (omega arith) (omega arith)) ∙ l.invariant.same
