use Rattle.std.proofs.Common.{sym, ◌∙◌}
use Rattle.moss_flash.proofs.Laying.{lay_on, lay_end, le8_bytes}
use Rattle.moss_flash.proofs.records.write_all.Goals as goal

pub loop-i-preserved : goal.loop-i-preserved
loop-i-preserved c = rw (c.lay.ensures, c.to_le_bytes.ensures, le8_bytes) (lay_on _ _ _ c.loop-i-test.true ∙ c.loop-i.invariant)

pub returns : goal.returns
returns c = sym (lay_end _ _ _ _ c.loop-i-test.false) ∙ c.loop-i.invariant
