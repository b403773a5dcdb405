-- The order of types, and sorting.
use Rattle.std.proofs.Common.{◌≡◌, ℕ, suc, ◌+◌, ◌<◌, ◌≤◌, Bool, true, false, cond, eqb, ◌⊎◌, List, [], ◌∷◌, ◌++◌, flat_map, length, take, get_or, append-nil, sym, refl, ap, ◌∙◌, inl, inr, ⊎_elim, arith, le-ltb, lt-ltb, eq-eqb, ne_eqb, le-leb}
use Rattle.std.proofs.lemmas.List.{take_more}
use Rattle.std.proofs.lemmas.List.Concat.{flat_map-append}
use borrow.Author.Tests.{eqb-false, lt-leb}
use Rattle.erase_plan.specs.declared.EraseType.{EraseType}
use Rattle.erase_plan.specs.declared.EraseTypes.{EraseTypes}
use Rattle.erase_plan.specs.Types.{kept, present, time_rank, in_order, insert, sort}
use Rattle.erase_plan.specs.Words.{Each}
use Rattle.erase_plan.specs.Good.{Present, Sorted, how_many}
use Rattle.erase_plan.proofs.Lists.{lt_or_le, by_cond, no_true, each_append, each_split, each_map}

-- ---- a slot is empty or holds a type
pub kept_none : (t : EraseType) → t.size ≡ 0 → kept t ≡ []
unfolding kept
kept_none t h = rw (eq-eqb t.size 0 h)

pub kept_one : (t : EraseType) → (t.size ≡ 0 → ⊥) → kept t ≡ t ∷ []
unfolding kept
kept_one t h = rw (ne_eqb t.size 0 h)

pub kept_present : (t : EraseType) → Each Present (kept t)
unfolding kept
kept_present t =
    by_cond (Each Present) (eqb t.size 0) [] (t ∷ []) (λ _. tt) (λ e. (omega (arith, eqb-false t.size 0 e), tt))

-- what holds of each type of some slots holds of what each slot holds, and the other way round
pub each_kept : (P : EraseType → Type 0) (l : List EraseType) → Each (λ (t : EraseType). Each P (kept t)) l → Each P (flat_map kept l)
each_kept P [] p = tt
each_kept P (t ∷ l) p = each_append P (kept t) (flat_map kept l) p.0 (each_kept P l p.1)

pub kept_each : (P : EraseType → Type 0) (l : List EraseType) → Each P (flat_map kept l) → Each (λ (t : EraseType). Each P (kept t)) l
kept_each P [] p = tt
kept_each P (t ∷ l) p = let r = each_split P (kept t) (flat_map kept l) p in (r.0, kept_each P l r.1)

pub kept_present_all : (l : List EraseType) → Each Present (flat_map kept l)
kept_present_all [] = tt
kept_present_all (t ∷ l) = each_append Present (kept t) (flat_map kept l) (kept_present t) (kept_present_all l)

-- one slot more
pub kept_more : (l : List EraseType) (i : ℕ) (d : EraseType) → i < length l
    → flat_map kept (take (i + 1) l) ≡ flat_map kept (take i l) ++ kept (get_or l i d)
kept_more l i d h = rw (take_more l i d h, flat_map-append, append-nil)

pub present_present : (ts : EraseTypes) → Each Present (present ts)
unfolding present
present_present ts = kept_present_all ts.slots

-- ---- inserting and sorting keep what is there
pub insert_each : (P : EraseType → Type 0) (t : EraseType) (l : List EraseType) → P t → Each P l → Each P (insert t l)
unfolding insert
insert_each P t [] p q = (p, tt)
insert_each P t (u ∷ us) p q =
    by_cond (Each P) (in_order t u) (t ∷ u ∷ us) (u ∷ insert t us) (λ _. (p, q)) (λ _. (q.0, insert_each P t us p q.1))

pub sort_each : (P : EraseType → Type 0) (l : List EraseType) → Each P l → Each P (sort l)
unfolding sort
sort_each P [] q = tt
sort_each P (t ∷ ts) q = insert_each P t (sort ts) q.0 (sort_each P ts q.1)

-- ---- the order, by numbers: size, opcode, time
pub data Before (a b : EraseType) : Type 0 where
  by_size : a.size < b.size → Before a b
  by_opcode : a.size ≡ b.size → a.opcode < b.opcode → Before a b
  by_time : a.size ≡ b.size → a.opcode ≡ b.opcode → time_rank a ≤ time_rank b → Before a b

pub before_order : (a b : EraseType) → Before a b → in_order a b ≡ true
unfolding in_order
before_order a b (by_size h) = rw (lt-ltb a.size b.size h)
before_order a b (by_opcode e h) =
    rw (le-ltb a.size b.size (omega arith), le-ltb b.size a.size (omega arith), lt-ltb a.opcode b.opcode h)
before_order a b (by_time e f h) =
    rw (
      le-ltb a.size b.size (omega arith),
      le-ltb b.size a.size (omega arith),
      le-ltb a.opcode b.opcode (omega arith),
      le-ltb b.opcode a.opcode (omega arith),
      le-leb (time_rank a) (time_rank b) h,
    )

-- of two types one may stand before the other
pub before_total : (a b : EraseType) → Before a b ⊎ ((in_order a b ≡ false) × Before b a)
unfolding in_order
before_total a b =
    ⊎_elim (λ (h : a.size < b.size). inl (by_size h))
    (λ (h : b.size ≤ a.size). ⊎_elim
    (λ (k : b.size < a.size). inr (rw (le-ltb a.size b.size h, lt-ltb b.size a.size k), by_size k))
    (λ (k : a.size ≤ b.size). let e : a.size ≡ b.size = omega arith in opcodes h k e)
    (lt_or_le b.size a.size))
    (lt_or_le a.size b.size)
  where
    times : b.size ≤ a.size → a.size ≤ b.size → b.opcode ≤ a.opcode → a.opcode ≤ b.opcode → Before a b ⊎ ((in_order a b ≡ false) × Before b a)
    times h k m n =
        ⊎_elim
        (λ (l : time_rank b < time_rank a). inr (
          rw (le-ltb a.size b.size h, le-ltb b.size a.size k, le-ltb a.opcode b.opcode m, le-ltb b.opcode a.opcode n, lt-leb (time_rank a) (time_rank b) l),
          by_time (omega arith) (omega arith) (omega arith),
        ))
        (λ (l : time_rank a ≤ time_rank b). inl (by_time (omega arith) (omega arith) l))
        (lt_or_le (time_rank b) (time_rank a))

    opcodes : b.size ≤ a.size → a.size ≤ b.size → a.size ≡ b.size → Before a b ⊎ ((in_order a b ≡ false) × Before b a)
    opcodes h k e =
        ⊎_elim (λ (m : a.opcode < b.opcode). inl (by_opcode e m))
        (λ (m : b.opcode ≤ a.opcode). ⊎_elim
        (λ (n : b.opcode < a.opcode). inr (
          rw (le-ltb a.size b.size h, le-ltb b.size a.size k, le-ltb a.opcode b.opcode m, lt-ltb b.opcode a.opcode n),
          by_opcode (omega arith) n,
        ))
        (λ (n : a.opcode ≤ b.opcode). times h k m n)
        (lt_or_le b.opcode a.opcode))
        (lt_or_le a.opcode b.opcode)

pub order_before : (a b : EraseType) → in_order a b ≡ true → Before a b
order_before a b h = ⊎_elim (λ x. x) (λ x. no_true (sym x.0 ∙ h)) (before_total a b)

pub before_trans : {a b c : EraseType} → Before a b → Before b c → Before a c
before_trans (by_size h) (by_size k) = by_size (omega arith)
before_trans (by_size h) (by_opcode e k) = by_size (omega arith)
before_trans (by_size h) (by_time e f k) = by_size (omega arith)
before_trans (by_opcode e h) (by_size k) = by_size (omega arith)
before_trans (by_opcode e h) (by_opcode f k) = by_opcode (e ∙ f) (omega arith)
before_trans (by_opcode e h) (by_time f g k) = by_opcode (e ∙ f) (omega arith)
before_trans (by_time e f h) (by_size k) = by_size (omega arith)
before_trans (by_time e f h) (by_opcode g k) = by_opcode (e ∙ g) (omega arith)
before_trans (by_time e f h) (by_time g i k) = by_time (e ∙ g) (f ∙ i) (omega arith)

-- ---- sorting sorts
insert_sorted : (t : EraseType) (l : List EraseType) → Sorted l → Sorted (insert t l)
unfolding insert
insert_sorted t [] s = (tt, tt)
insert_sorted t (u ∷ us) s =
    by_cond Sorted (in_order t u) (t ∷ u ∷ us) (u ∷ insert t us)
    (λ e. (
      (
        e,
        each_map (λ (x : EraseType). in_order u x ≡ true) (λ (x : EraseType). in_order t x ≡ true)
            (λ x h. before_order t x (before_trans (order_before t u e) (order_before u x h))) us s.0,
      ),
      s,
    ))
    (λ e. (insert_each (λ (x : EraseType). in_order u x ≡ true) t us (other e) s.0, insert_sorted t us s.1))
  where
    other : in_order t u ≡ false → in_order u t ≡ true
    other e = ⊎_elim (λ b. no_true (sym e ∙ before_order t u b)) (λ x. before_order u t x.1) (before_total t u)

pub sort_sorted : (l : List EraseType) → Sorted (sort l)
unfolding sort
sort_sorted [] = tt
sort_sorted (t ∷ ts) = insert_sorted t (sort ts) (sort_sorted ts)

-- ---- and keeps every type as often as it was there
insert_many : (f : EraseType → Bool) (t : EraseType) (l : List EraseType) → how_many f (insert t l) ≡ cond (f t) 1 0 + how_many f l
unfolding insert how_many
insert_many f t [] = refl
insert_many f t (u ∷ us) =
    by_cond (λ (l : List EraseType). how_many f l ≡ cond (f t) 1 0 + (cond (f u) 1 0 + how_many f us)) (in_order t u) (t ∷ u ∷ us) (u ∷ insert t us) (λ _. refl)
    (λ _. omega (arith, insert_many f t us))

pub sort_many : (f : EraseType → Bool) (l : List EraseType) → how_many f (sort l) ≡ how_many f l
unfolding sort how_many
sort_many f [] = refl
sort_many f (t ∷ ts) = insert_many f t (sort ts) ∙ ap (λ (n : ℕ). cond (f t) 1 0 + n) (sort_many f ts)

insert_length : (t : EraseType) (l : List EraseType) → length (insert t l) ≡ suc (length l)
unfolding insert
insert_length t [] = refl
insert_length t (u ∷ us) =
    by_cond (λ (l : List EraseType). length l ≡ suc (suc (length us))) (in_order t u) (t ∷ u ∷ us) (u ∷ insert t us) (λ _. refl) (λ _. ap suc (insert_length t us))

pub sort_length : (l : List EraseType) → length (sort l) ≡ length l
unfolding sort
sort_length [] = refl
sort_length (t ∷ ts) = insert_length t (sort ts) ∙ ap suc (sort_length ts)
