use mathlib.Core.Path.{sym, ◌∙◌}
use Rattle.std.proofs.Common.{arith}
use Rattle.room.proofs.Laws.{laid_fits}
use Rattle.room.proofs.lay.Goals as goal

pub returns-then-at-room : goal.returns-then-at-room
returns-then-at-room c = let a = c.args in c.copy_at.ensures ∙ sym (laid_fits a.at a.bytes.now a.room.now (omega arith))
