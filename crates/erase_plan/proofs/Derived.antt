-- The derived order of erase types: by size, opcode, time, an absent time first. It is the plan's order.
use Rattle.std.proofs.Common.{◌≡◌, ℕ, ◌+◌, ◌<◌, ◌≤◌, cond, leb, refl, ap, ◌∙◌, Bool, true, false, Option, None, Some, Ordering, ⊎_elim, arith, le-ltb, lt-ltb, eq-eqb, ne_eqb, le-leb}
use borrow.Author.Tests.{lt-leb}
use Rattle.std.specs.Option.{option_partial_cmp}
use Rattle.std.specs.Ordering.{is_le, is_some_and, nat_cmp, bool_cmp, partial_le, partial_ordering_then}
use Rattle.erase_plan.specs.declared.EraseType.{EraseType}
use Rattle.erase_plan.specs.contracts.EraseTypePartialOrd.TheImpl as Order
use Rattle.erase_plan.specs.Types.{first_by, in_order, time_rank}
use Rattle.erase_plan.proofs.Lists.{lt_or_le}

-- its time, where that is known
abbrev pub time_of : EraseType → Option ℕ
time_of t = cond t.timed (Some t.time) None

-- no number stands beside a mark that is off
abbrev pub Clear : EraseType → Type 0
Clear t = t.timed ≡ false → t.time ≡ 0

abbrev pub times_cmp : Option ℕ → Option ℕ → Option Ordering
times_cmp x y = option_partial_cmp (λ (k l : ℕ). Some (nat_cmp k l)) x y

-- marks, then numbers
times : (x y : Bool) (m n : ℕ) → (x ≡ false → m ≡ 0) → (y ≡ false → n ≡ 0)
    → partial_ordering_then (Some (bool_cmp x y)) (Some (nat_cmp m n)) ≡ times_cmp (cond x (Some m) None) (cond y (Some n) None)
times true true m n f g = refl
times true false m n f g = refl
times false true m n f g = refl
times false false m n f g = rw (f refl, g refl) refl

pub by_time : (a b : EraseType) → Clear a → Clear b
    → Order.partial_cmp-value.it a b
    ≡ partial_ordering_then (Some (nat_cmp a.size b.size)) (partial_ordering_then (Some (nat_cmp a.opcode b.opcode)) (times_cmp (time_of a) (time_of b)))
by_time a b f g =
    ap (λ (rest : Option Ordering). partial_ordering_then (Some (nat_cmp a.size b.size)) (partial_ordering_then (Some (nat_cmp a.opcode b.opcode)) rest))
    (times a.timed b.timed a.time b.time f g)

-- ---- the plan's order
-- two numbers decide, or where they are equal what follows
first_le : (x y : ℕ) (o : Option Ordering) (rest : Bool) → is_some_and is_le o ≡ rest
    → is_some_and is_le (partial_ordering_then (Some (nat_cmp x y)) o) ≡ first_by x y rest
first_le x y o rest e =
    ⊎_elim (λ (h : x < y). rw (lt-ltb x y h))
    (λ (h : y ≤ x). ⊎_elim
    (λ (k : y < x). rw (le-ltb x y h, ne_eqb x y (λ q. omega arith), lt-ltb y x k))
    (λ (k : x ≤ y). let q : x ≡ y = omega arith in rw (le-ltb x y h, eq-eqb x y q, le-ltb y x k) e)
    (lt_or_le y x))
    (lt_or_le x y)

time_le : (x y : Bool) (m n : ℕ)
    → is_some_and is_le (times_cmp (cond x (Some m) None) (cond y (Some n) None)) ≡ leb (cond x (m + 1) 0) (cond y (n + 1) 0)
time_le false false m n = refl
time_le false true m n = rw (le-leb 0 (n + 1) (omega arith))
time_le true false m n = rw (lt-leb (m + 1) 0 (omega arith))
time_le true true m n =
    ⊎_elim (λ (h : m < n). rw (lt-ltb m n h, le-leb (m + 1) (n + 1) (omega arith)))
    (λ (h : n ≤ m). ⊎_elim
    (λ (k : n < m). rw (le-ltb m n h, ne_eqb m n (λ q. omega arith), lt-leb (m + 1) (n + 1) (omega arith)))
    (λ (k : m ≤ n). let q : m ≡ n = omega arith in rw (le-ltb m n h, eq-eqb m n q, le-leb (m + 1) (n + 1) (omega arith)))
    (lt_or_le n m))
    (lt_or_le m n)

pub le_in_order : (a b : EraseType) → Clear a → Clear b → partial_le Order.partial_cmp-value.it a b ≡ in_order a b
unfolding in_order time_rank
le_in_order a b f g =
    ap (is_some_and is_le) (by_time a b f g)
    ∙ first_le a.size b.size _ _ (first_le a.opcode b.opcode _ _ (time_le a.timed b.timed a.time b.time))
