-- The table of chosen examples holds.
use Rattle.settings.proofs.Examples.{whole_24_bits, past_24_bits, none_at_0}
use Rattle.erase_plan.proofs.Examples.{one_small, one_large, three_large, large_middle, large_small, small_large, small_large_small, refused_below}
use Rattle.commands.proofs.Examples.{run, run_wire}
use Rattle.on_part.specs.Chosen.{Chosen}

pub chosen : Chosen
chosen = record {
  one_small = one_small;
  one_large = one_large;
  three_large = three_large;
  large_middle = large_middle;
  large_small = large_small;
  small_large = small_large;
  small_large_small = small_large_small;
  whole_run = run;
  whole_list = run_wire;
  refused_below = refused_below;
  all_of_24_bits = whole_24_bits;
  past_24_bits = past_24_bits;
  none_at_0 = none_at_0;
}
