-- `erase_plan::sorted` meets its contract: four slots are put in, one after the other.
use Rattle.std.proofs.Common.{◌≡◌, ℕ, ◌+◌, ◌<◌, List, [], ◌∷◌, length, get_or, take, flat_map, reverse, ◌∙◌, sym, ap}
use Rattle.std.proofs.lemmas.List.{take_all, take_more, reverse-append}
use Rattle.erase_plan.specs.declared.EraseType.{EraseType}
use Rattle.erase_plan.specs.Types.{kept, no_type, present, slots, sort, sorted_of}
use Rattle.erase_plan.proofs.Slots.{slots_none}
use Rattle.erase_plan.proofs.Ordering.{kept_present_all}
use Rattle.erase_plan.proofs.sorted.Goals as goal

one_more : (l : List EraseType) (i : ℕ) → i < length l → reverse (take (i + 1) l) ≡ get_or l i no_type ∷ reverse (take i l)
one_more l i h = rw (take_more l i no_type h, reverse-append)

pub loop-t-init : goal.loop-t-init
loop-t-init c = slots_none

pub loop-t-preserved : goal.loop-t-preserved
loop-t-preserved c =
    c.put_in-ts.ensures _ (kept_present_all _) c.loop-t.invariant
    ∙ ap (λ (l : List EraseType). slots (sort (flat_map kept l))) (sym (one_more _ c.loop-t.t-index c.loop-t-test.true))

pub returns : goal.returns
unfolding sorted_of present
returns c =
    let a = c.args in
    c.loop-t.invariant
    ∙ ap (λ (l : List EraseType). slots (sort (flat_map kept (reverse l)))) (take_all c.loop-t.t-index (a.d ∷ a.c ∷ a.b ∷ a.a ∷ []) c.loop-t-test.false)
