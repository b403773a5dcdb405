use Rattle.std.proofs.Common.{◌≡◌, Err, rules, sym, ◌∙◌, arith}
use Rattle.moss_flash.proofs.Filling.{count_ahead, cursor_unmarked, plan_written, plan_short, plan_fits, plan_refused}
use Rattle.moss_flash.proofs.plan_c.plan_into.Goals as goal

pub returns-in_err-count : goal.returns-in_err-count
returns-in_err-count c =
    let e : c.from_residual.result ≡ Err c.in_err-count.field-0.0 = search rules in
    rw e (plan_refused _ _ c.args.entries.now (sym c.begin.ensures ∙ c.in_err-count.was))

pub returns-then-slots-count : goal.returns-then-slots-count
returns-then-slots-count c = plan_short _ _ c.in_ok-count.cursor (sym c.begin.ensures ∙ c.in_ok-count.was) _ c.if-slots-count.true

pub write_entries-requires : goal.write_entries-requires
write_entries-requires c =
    let ready = sym c.begin.ensures ∙ c.in_ok-count.was in
    (count_ahead _ _ _ ready, omega (arith, c.if-slots-count.false), cursor_unmarked _ _ _ ready)

pub returns : goal.returns
returns c =
    let ready = sym c.begin.ensures ∙ c.in_ok-count.was in
    (plan_fits _ _ _ ready _ c.if-slots-count.false, c.write_entries.ensures ∙ plan_written _ _ _ ready _ c.if-slots-count.false)
