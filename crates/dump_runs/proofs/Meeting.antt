-- The blocks of a run are those that it meets.
use Prim.Native.Nat.{ℕ, ◌+◌, ◌-◌, ◌*◌, ◌/◌, ◌^◌, ◌≤◌, ◌<◌, max}
use mathlib.Core.Path.{◌≡◌}
use mathlib.Core.Logic.{⊎_elim}
use native.Mathlib.Omega.{arith}
use borrow.Author.Tests.{eq-eqb, ne_eqb}
use Rattle.dump_runs.specs.declared.Run.{Run}
use Rattle.dump_runs.specs.Blocks.{Meets, Among, blocks_of, BlocksRight}
use Rattle.std.proofs.lemmas.Bool.{cases_eq}

met_among : (r : Run) (k : ℕ) → Meets r k → Among (blocks_of r) k
met_among r k m =
    let l : r.start ≤ m.byte = m.within.low in
    let h : m.byte < r.start + r.len = m.within.high in
    let t : m.byte / 4096 ≡ k = m.there in
    let n : r.len ≡ 0 → ⊥ = λ (e : r.len ≡ 0). omega arith in
    record { low = omega arith; high = rw (ne_eqb r.len 0 n) (omega arith) }

among_met : (r : Run) (k : ℕ) → Among (blocks_of r) k → Meets r k
among_met r k a =
    let l : r.start / 4096 ≤ k = a.low in
    ⊎_elim
    (λ (e : r.len ≡ 0). let h : k < r.start / 4096 + 0 = rw (eq-eqb r.len 0 e) at a.high in absurd (omega arith))
    (λ (e : r.len ≡ 0 → ⊥).
    let h : k < r.start / 4096 + ((r.start + (r.len - 1)) / 4096 - r.start / 4096 + 1) = rw (ne_eqb r.len 0 e) at a.high in
    record { byte = max r.start (k * 4096); within = record { low = omega arith; high = omega arith }; there = omega arith })
    (cases_eq r.len 0)

pub blocks_right : BlocksRight
blocks_right r k = (met_among r k, among_met r k)

-- no index passes 64 bits
pub blocks_low : (r : Run) → r.start < 2 ^ 64 → r.len < 2 ^ 64 → (blocks_of r).first + (blocks_of r).count < 2 ^ 64
blocks_low r s l =
    ⊎_elim
    (λ (e : r.len ≡ 0). rw (eq-eqb r.len 0 e) (omega arith))
    (λ (e : r.len ≡ 0 → ⊥). rw (ne_eqb r.len 0 e) (omega arith))
    (cases_eq r.len 0)
