use Rattle.std.proofs.Common.{sym, ap, ◌∙◌, arith, length}
use Rattle.plans.proofs.Filled.{steps_some, steps_none}
use Rattle.moss_flash.proofs.Filling.{fill_start, fill_on, fill_end}
use Rattle.moss_flash.proofs.plan_c.write_entries.Goals as goal
use Rattle.moss_flash.proofs.plan_c.write_entries.Goals.{in-Some, in_default}

pub loop-k-preserved : goal.loop-k-preserved
loop-k-preserved c =
    let inv = c.loop-k.invariant in
    elim c.match-and_then.branch [
      | in-Some w ↦
          let t = steps_some c.loop-k.place c.and_then.result inv.1 c.and_then.ensures w.in-Some.step w.in-Some.is in
          rw (w.out-is, w.place-is, w.lay.ensures, w.entry_bytes.ensures) (
            fill_on c.loop-k.k c.args.n c.loop-k.place w.in-Some.step c.loop-k.out t.0 c.loop-k-test.true (omega (arith, c.loop-k.auto.out, c.requires.1)) ∙ inv.0,
            t.1,
            omega (arith, ap length t.0, inv.2),
          )
      | in_default w ↦ absurd (omega (arith, ap length (steps_none c.loop-k.place c.and_then.result inv.1 c.and_then.ensures w.in_default.is), inv.2, c.loop-k-test.true))
    ]

pub returns : goal.returns
returns c =
    let inv = c.loop-k.invariant in
    sym (fill_end c.loop-k.k c.args.n c.loop-k.place c.loop-k.out inv.2 c.loop-k-test.false) ∙ inv.0 ∙ fill_start c.args.n c.args.c c.args.out.now
