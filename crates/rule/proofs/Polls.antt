-- The count of polls from operation to operation.
use Prim.Native.Nat.{ℕ, ◌+◌, ◌-◌, ◌*◌, ◌≤◌, ◌<◌, min}
use mathlib.Core.Path.{◌≡◌}
use mathlib.Core.Bool.{true, false}
use native.Mathlib.Omega.{arith}
use native.Mathlib.Nat.{mul-le-mul, mul-le-mul_right, min-eq_left, min-le_right}
use lib.Dec.{eqb}
use borrow.Author.Tests.{ltb-true, leb-true, le-leb, lt-ltb, eqb-false}
use Rattle.rule.specs.Rule.{polls_of, polls_done, polls_left}

polls_most : (limit behind : ℕ) → limit ≤ 65535 → polls_of limit behind ≤ 562941363486720
unfolding polls_of
polls_most limit behind h =
    let a : min behind 8589934592 ≤ 8589934592 = min-le_right behind 8589934592 in
    mul-le-mul a h

polls_grow : (limit k k' : ℕ) → k + 1 ≤ k' → k' ≤ 8589934592 → polls_of limit k + limit ≤ polls_of limit k'
unfolding polls_of
polls_grow limit k k' h m =
    let a : min k 8589934592 ≡ k = min-eq_left (omega arith) in
    let b : min k' 8589934592 ≡ k' = min-eq_left m in
    rw (a, b) (omega (arith, mul-le-mul_right limit h))

module _ (n limit k left : ℕ) (h : polls_left n limit k left ≡ true) where
  before : n < polls_of limit k + (limit - left)
  unfolding polls_left
  before = ltb-true _ _ h

  -- the poll that is waited on says ready: one more operation is behind
  pub ready_done : (k' : ℕ) → k + 1 ≤ k' → k' ≤ 8589934592 → polls_done (n + 1) limit k' ≡ true
  unfolding polls_done
  ready_done k' m w = le-leb (n + 1) (polls_of limit k') (omega (arith, before, polls_grow limit k k' m w))

  -- it says busy, and more may follow
  pub busy_left : left < limit → eqb left 0 ≡ false → polls_left (n + 1) limit k (left - 1) ≡ true
  unfolding polls_left
  busy_left l e = lt-ltb (n + 1) (polls_of limit k + (limit - (left - 1))) (more (eqb-false left 0 e))
    where
      more : (left ≡ 0 → ⊥) → n + 1 < polls_of limit k + (limit - (left - 1))
      more z = omega (arith, before)

  -- the command ends
  pub left_ended : limit ≤ 65535 → n + 1 ≤ 562941363552255
  left_ended l = omega (arith, before, polls_most limit k l)

module _ (n limit k : ℕ) (h : polls_done n limit k ≡ true) where
  pub done_before : n ≤ polls_of limit k
  unfolding polls_done
  done_before = leb-true _ _ h

  pub done_left : 1 ≤ limit → polls_left n limit k (limit - 1) ≡ true
  unfolding polls_left
  done_left l = lt-ltb n (polls_of limit k + (limit - (limit - 1))) (omega (arith, done_before))

  pub done_ended : limit ≤ 65535 → n ≤ 562941363552255
  done_ended l = omega (arith, done_before, polls_most limit k l)

  pub done_more : (k' : ℕ) → k ≤ k' → k' ≤ 8589934592 → polls_done n limit k' ≡ true
  unfolding polls_done polls_of
  done_more k' l m =
      let a : min k 8589934592 ≡ k = min-eq_left (omega arith) in
      let b : min k' 8589934592 ≡ k' = min-eq_left m in
      rw b (le-leb n (k' * limit) (omega (arith, rw a at done_before, mul-le-mul_right limit l)))

pub none_done : (limit k : ℕ) → polls_done 0 limit k ≡ true
unfolding polls_done
none_done limit k = le-leb 0 (polls_of limit k) (omega arith)
