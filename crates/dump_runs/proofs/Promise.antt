-- THE HOST IS PROMISED what specs/Host.antt says.
use Prim.Native.Nat.{ℕ, ◌*◌, ◌≤◌, ◌<◌}
use mathlib.Core.Path.{◌≡◌}
use mathlib.Core.List.{List}
use lib.ListN.{length}
use Rattle.dump_runs.specs.declared.Run.{Run}
use Rattle.dump_runs.specs.Dumps.{Differ, Within, In, Listed}
use Rattle.dump_runs.specs.Steps.{most, begun}
use Rattle.dump_runs.specs.Host.{Parts, firsts, seconds, Compares, reads, RunsPromised}
use Rattle.dump_runs.proofs.Whole.{runs_from, runs_listed, runs_cover}
use Rattle.dump_runs.proofs.Only.{only}
use Rattle.dump_runs.proofs.Follows.{compares_runs}
use Rattle.dump_runs.proofs.Taken.{taken, even, whole}

right : (ps : List Parts) (l : List Run) → Compares begun ps l → Listed (firsts ps) (seconds ps) l
right ps l h = rw (compares_runs ps l h) (runs_listed (firsts ps) (seconds ps))

read : (n k : ℕ) (a b : List ℕ) → length a ≤ k * n → length b ≤ k * n → length a < most → length b < most
    → (l : List Run) × Compares begun (reads n k a b) l × Listed a b l
read n k a b ha hb sa sb =
    let w = whole n k a b ha hb in
    let t = taken (reads n k a b) (even n k a b) (rw w.0 sa) (rw w.1 sb) in
    (t.0, t.1, rw (w.0, w.1) at (right (reads n k a b) t.0 t.1))

covers : (a b : List ℕ) (l : List Run) → Listed a b l → (i : ℕ) → Differ a b i → (r : Run) × In r l × Within r i
covers a b l h i d = let e : l ≡ runs_from 0 0 a b = only a b l (runs_from 0 0 a b) h (runs_listed a b) in rw e (runs_cover a b i d)

pub runs_promised : RunsPromised
runs_promised = record { right = right; taken = taken; read = read; only = only; covers = covers }
