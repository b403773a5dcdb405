-- `erase_plan::lies_on` meets its contract: no size, a power of two and its mask, or not seen.
use Rattle.std.proofs.Common.{sym, ◌∙◌, arith, eqb-true}
use Rattle.erase_plan.proofs.Places.{slot_on, mask_on}
use Rattle.erase_plan.proofs.lies_on.Goals as goal

pub returns-then-t-eq0 : goal.returns-then-t-eq0
returns-then-t-eq0 c _ = slot_on _ _ (λ h. absurd (omega (arith, c.if-t-eq0.true)))

pub returns-then-is_power : goal.returns-then-is_power
returns-then-is_power c e =
    slot_on _ _ (λ h. mask_on c.args.t _ (sym c.is_power.ensures ∙ c.if-is_power.true) h (eqb-true _ _ e))
