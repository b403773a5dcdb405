-- `erase_plan::survey` meets its contract: the walk starts, passes an entry, and ends after the last one or where there is none.
use Rattle.std.proofs.Common.{sym, ◌∙◌, arith}
use Rattle.erase_plan.proofs.Ordering.{present_present}
use Rattle.erase_plan.proofs.Places.{mark_even}
use Rattle.erase_plan.proofs.Walks.{walk_starts, walk_few, walk_within, walk_over, walk_more, walk_last}
use Rattle.erase_plan.proofs.survey.Goals as goal

pub loop-next-init : goal.loop-next-init
loop-next-init c = walk_starts _ _ _ _ c.default-seen.ensures

pub with_entry-seen-requires : goal.with_entry-seen-requires
with_entry-seen-requires c =
    let k = c.loop-next.invariant in
    let found = sym (c.entry_at.ensures (λ m. (k.marked m).1)) ∙ c.in-Some.is in
    let p = present_present c.args.ts in
    omega (arith, walk_few _ p _ _ _ _ _ k, walk_within _ p _ _ _ _ _ k _ found)

pub overflow_add-place : goal.overflow_add-place
overflow_add-place c =
    let k = c.loop-next.invariant in
    let found = sym (c.entry_at.ensures (λ m. (k.marked m).1)) ∙ c.in-Some.is in
    omega (arith, walk_within _ (present_present _) _ _ _ _ _ k _ found)

pub loop-next-smaller : goal.loop-next-smaller
loop-next-smaller c =
    let k = c.loop-next.invariant in
    let found = sym (c.entry_at.ensures (λ m. (k.marked m).1)) ∙ c.in-Some.is in
    omega (arith, walk_within _ (present_present _) _ _ _ _ _ k _ found)

pub loop-next-preserved : goal.loop-next-preserved
loop-next-preserved c =
    let k = c.loop-next.invariant in
    let found = sym (c.entry_at.ensures (λ m. (k.marked m).1)) ∙ c.in-Some.is in
    let p = present_present c.args.ts in
    walk_more _ p _ _ _ _ _ k _ found _ c.with_entry-seen.ensures _
    (λ m. mark_even c.args.ts c.loop-next.later (λ q. (k.marked q).0) (sym c.later_next-later.ensures ∙ m))
    (omega (arith, walk_within _ p _ _ _ _ _ k _ found))

pub returns-then-next-last : goal.returns-then-next-last
returns-then-next-last c =
    let k = c.loop-next.invariant in
    let found = sym (c.entry_at.ensures (λ m. (k.marked m).1)) ∙ c.in-Some.is in
    walk_last _ (present_present _) _ _ _ _ _ k _ found _ c.with_entry-seen.ensures (omega (arith, c.if-next-last.true))

pub returns-in_default : goal.returns-in_default
returns-in_default c =
    let k = c.loop-next.invariant in
    walk_over _ (present_present _) _ _ _ _ _ k (sym (c.entry_at.ensures (λ m. (k.marked m).1)) ∙ c.in_default.is)
