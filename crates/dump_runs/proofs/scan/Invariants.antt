use Rattle.std.proofs.Common.{◌≡◌, ◌+◌, drop}
use Rattle.dump_runs.specs.Steps.{scan_of}
use Rattle.dump_runs.proofs.scan.Given as goal

-- the scan of what is left, from here on, is the whole scan
abbrev pub invariant-loop-i : goal.invariant-loop-i
invariant-loop-i l =
    record {
      same : scan_of l.c.first l.c.second l.start l.len (l.from + l.i) (drop l.i l.p) (drop l.i l.q) ≡ scan_of l.c.first l.c.second l.c.start l.c.len l.from l.p l.q;
      moved : l.start + l.len ≡ l.c.start + l.c.len + l.i;
    }
