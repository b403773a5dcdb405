-- `plans::make_erase_plan` meets its contract: a start that fits its slots, and the entries ahead of it.
use Rattle.std.proofs.Common.{sym, ◌∙◌, ap, List, ◌++◌, length, drop}
use lib.Seq.{length-take-le}
use Rattle.erase_plan.specs.declared.EraseEntry.{EraseEntry}
use Rattle.plans.proofs.Laws.{begun_ready, starts_ahead, planned_fits, written_fits}
use Rattle.plans.proofs.make_erase_plan.Goals as goal

pub write_entries-requires-clause-as_many : goal.write_entries-requires-clause-as_many
write_entries-requires-clause-as_many c =
    let s = begun_ready c.args.q _ _ (sym c.begin.ensures ∙ c.in_ok-count.was) in
    length-take-le _ _ c.if-entries-count.false ∙ s.count ∙ ap length (sym (starts_ahead s))

pub returns : goal.returns
returns c =
    let b = sym c.begin.ensures ∙ c.in_ok-count.was in (
      sym (planned_fits c.args.q _ _ _ b c.if-entries-count.false),
      ap (λ (es : List EraseEntry). es ++ drop c.in_ok-count.count c.args.entries.now) c.write_entries.ensures
          ∙ sym (written_fits c.args.q _ _ _ b c.if-entries-count.false),
    )
