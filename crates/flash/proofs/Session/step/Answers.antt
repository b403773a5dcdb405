use Rattle.std.proofs.Common.{refl, sym, ◌∙◌}
use Rattle.flash.proofs.Ways.{way_ended, way_short, way_access, way_on}
use Rattle.flash.proofs.Session.step.Goals as goal

pub returns-then-is_ended : goal.returns-then-is_ended
returns-then-is_ended c = way_ended _ _ _ _ _ c.tell.ensures (sym c.is_ended.ensures ∙ c.if-is_ended.true)

pub returns-then-work-need : goal.returns-then-work-need
returns-then-work-need c = way_short _ _ _ _ (sym c.is_ended.ensures ∙ c.if-is_ended.false) _ c.need_of-need.ensures _ c.count-n.ensures c.if-work-need.true

pub returns-then-is_full : goal.returns-then-is_full
returns-then-is_full c =
    way_on _ _ _ _ (sym c.is_ended.ensures ∙ c.if-is_ended.false) _ c.need_of-need.ensures _ c.count-n.ensures c.if-work-need.false _ c.is_full.ensures _ _ c.if-is_full.true
    (rw (c.tell-then-is_full.ensures, c.advance-next.ensures) (refl, c.keep.ensures))

pub returns : goal.returns
returns c =
    way_access _ _ _ _ (sym c.is_ended.ensures ∙ c.if-is_ended.false) _ c.need_of-need.ensures _ c.count-n.ensures c.if-work-need.false _ c.is_full.ensures _
    (rw (c.tell-2.ensures, c.ended.ensures, c.ends_as.ensures)) c.if-is_full.false
