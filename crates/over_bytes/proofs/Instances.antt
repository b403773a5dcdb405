-- The premises can be met: the bytes of a fresh session, set to a part, that erases, writes, reads and programs on it.
use mathlib.Core.Path.{refl}
use mathlib.Core.List.{[]}
use Prim.Native.Nat.{ℕ, zero, suc, ◌%◌}
use native.Mathlib.Omega.{arith}
use native.Mathlib.Nat.{mod-lt}
use lib.ListN.{replicate}
use Rattle.settings.proofs.Laws.{new_sound}
use Rattle.erase_plan.specs.Good.{Each}
use Rattle.erase_plan.proofs.Lists.{no_true}
use Rattle.phases.specs.Moves.{is_ended}
use Rattle.nor_model.specs.Replay.{replay}
use Rattle.nor_model.proofs.Instances.{odd, odd_acts}
use Rattle.on_part.proofs.Instances.{start, odd_premises}
use Rattle.over_bytes.specs.OverBytes.{TypedAct}
use Rattle.driver.specs.Driver.{OfBytes}
use Rattle.over_bytes.proofs.Keeping.{packed, AllKept, all_kept, fresh_whole}

zeros : (n : ℕ) → OfBytes (replicate n 0)
zeros zero = tt
zeros (suc n) = (omega arith, zeros n)

odd_typed : Each TypedAct odd_acts
odd_typed = (
  tt,
  (
    omega arith,
    (
      tt,
      (
        tt,
        (
          (tt, tt),
          ((omega arith, zeros 2), ((tt, zeros 4), ((omega arith, zeros 200), tt))),
        ),
      ),
    ),
  ),
)

-- all four commands come to their answers, with the promises
pub odd_kept : AllKept odd (λ i. i % 251) (packed start) odd_acts
unfolding replay is_ended
odd_kept =
    all_kept odd (λ i. omega arith) (λ i. omega arith) (λ i. i % 251) odd_acts start []
    (record {
      idle = refl;
      memory = refl;
      bytes = record { below = λ i. omega (arith, mod-lt i {m = 251} (omega arith)) };
      possible = record { sound = new_sound; read = λ e. no_true e };
    }) refl fresh_whole odd_typed odd_premises
