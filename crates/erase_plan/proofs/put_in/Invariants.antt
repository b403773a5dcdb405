-- So far the slots are those of the whole putting, and what is left to put goes among those ahead.
use Rattle.std.proofs.Common.{◌≡◌, ◌++◌, take, drop, length}
use Rattle.erase_plan.proofs.Slots.{put}
use Rattle.erase_plan.proofs.put_in.Given as goal

abbrev pub invariant-loop-slot : goal.invariant-loop-slot
invariant-loop-slot l = record {
  long : length l.slot-items ≡ 4;
  same : take l.slot-index l.slot-items ++ put l.put (drop l.slot-index l.slot-items) ≡ put l.initial.put l.initial.slot-items;
}
