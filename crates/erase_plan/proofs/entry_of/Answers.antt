-- `erase_plan::entry_of` meets its contract: there is no type, no wanted byte, or the entry of the block at the position.
use Rattle.std.proofs.Common.{◌≡◌, ◌<◌, sym, ◌∙◌, ⊎_elim, arith, ne_eqb}
use Rattle.erase_plan.specs.Plan.{block_base}
use Rattle.erase_plan.proofs.Entries.{one_none, one_done, one_block}
use Rattle.erase_plan.proofs.Multiples.{base_self, base_mod}
use Rattle.erase_plan.proofs.Places.{on_slot}
use Rattle.erase_plan.proofs.entry_of.Goals as goal
use Rattle.erase_plan.proofs.entry_of.Goals.{then-this-ne0, else-this-ne0}

pub returns-then-t-eq0 : goal.returns-then-t-eq0
returns-then-t-eq0 g c on = ⊎_elim (λ z. one_none _ _ _ z) (λ l. one_done _ _ _ (omega (arith, l.1))) c.then-t-eq0.either

pub returns : goal.returns
returns g c on =
    let t = c.args.t in
    let s : 0 < t.size = omega arith in
    let b : c.if-this-ne0.base ≡ block_base t.size c.args.at =
    elim c.if-this-ne0.branch [
      | then-this-ne0 w ↦ w.base-is ∙ sym (base_self s (on_slot _ _ (on (rw (ne_eqb _ _ w.if-this-ne0.true))) s))
      | else-this-ne0 w ↦ w.base-is ∙ sym (base_mod _ _)
    ] in
    one_block _ _ _ c.if-t-eq0.false c.if-last-at.false _ _ b c.entry_for.ensures _ c.min.ensures
