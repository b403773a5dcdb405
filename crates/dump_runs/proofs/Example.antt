-- A small case of the list: two runs of one byte, the second of which ends with the common part, and the tail, which stays a run of its own.
use mathlib.Core.List.{[], ◌∷◌}
use Rattle.dump_runs.specs.Dumps.{Listed}
use Rattle.dump_runs.proofs.Whole.{stretch, runs_from, runs_listed}

pub example : Listed (1 ∷ 2 ∷ 3 ∷ 4 ∷ []) (1 ∷ 9 ∷ 3 ∷ 8 ∷ 5 ∷ 6 ∷ []) (stretch 1 1 ∷ stretch 3 1 ∷ stretch 4 2 ∷ [])
unfolding runs_from
example = runs_listed (1 ∷ 2 ∷ 3 ∷ 4 ∷ []) (1 ∷ 9 ∷ 3 ∷ 8 ∷ 5 ∷ 6 ∷ [])
