-- Bytes laid over a room.
use mathlib.Core.Path.{◌≡◌, refl, sym, ap, ◌∙◌}
use mathlib.Core.List.{List, [], ◌++◌, append_assoc}
use Prim.Native.Nat.{ℕ, ◌+◌, ◌-◌, ◌≤◌}
use native.Mathlib.Omega.{arith}
use lib.ListN.{length, take, drop, length-append, length-take, length-drop, take-append-drop}
use lib.Seq.{length-take-le, take_at, drop_at, drop-append-add, drop-drop, take-add}
use Rattle.commands.specs.Script.{over}
use Rattle.commands.specs.Leaves.{Beyond}

-- nothing laid over it
pub over_nil : (at : ℕ) (l : List ℕ) → over at [] l ≡ l
unfolding over
over_nil at l =
    let e : at + 0 ≡ at = omega arith in
    ap (λ (n : ℕ). take at l ++ drop n l) e ∙ take-append-drop at l

-- a room keeps its length
pub over_length : (at : ℕ) (b l : List ℕ) → at + length b ≤ length l → length (over at b l) ≡ length l
unfolding over
over_length at b l h =
    omega (arith, length-append (take at l) (b ++ drop (at + length b) l), length-append b (drop (at + length b) l), length-take at l, length-drop (at + length b) l)

-- the bytes laid over it stand there
pub over_here : (at : ℕ) (b l : List ℕ) → at ≤ length l → drop at (over at b l) ≡ b ++ drop (at + length b) l
unfolding over
over_here at b l h = drop_at (take at l) (b ++ drop (at + length b) l) at (length-take-le at l h)

-- what comes after them is as it was
pub over_rest : (n at : ℕ) (b l : List ℕ) → at ≤ length l → at + length b ≤ n → drop n (over at b l) ≡ drop n l
over_rest n at b l h k =
    let m : ℕ = n - (at + length b) in
    let e : n ≡ at + (length b + m) = omega arith in
    let f : n ≡ at + length b + m = omega arith in
    ap (λ (x : ℕ). drop x (over at b l)) e
    ∙ sym (drop-drop (length b + m) at (over at b l))
    ∙ ap (drop (length b + m)) (over_here at b l h)
    ∙ drop-append-add b (drop (at + length b) l) m
    ∙ drop-drop m (at + length b) l
    ∙ ap (λ (x : ℕ). drop x l) (sym f)

-- and so is what comes before them
pub over_before : (at n : ℕ) (b l : List ℕ) → at + n ≤ length l → take n (drop at (over (at + n) b l)) ≡ take n (drop at l)
unfolding over
over_before at n b l h =
    let x : List ℕ = b ++ drop (at + n + length b) l in
    let y : List ℕ = take n (drop at l) in
    let t : length (take at l) ≡ at = length-take-le at l (omega arith) in
    let c : length (take at l ++ y) ≡ at + n = ap length (sym (take-add at n l)) ∙ length-take-le (at + n) l h in
    let s : length y ≡ n = omega (arith, length-append (take at l) y) in
    ap (λ (z : List ℕ). take n (drop at (z ++ x))) (take-add at n l)
    ∙ ap (λ (z : List ℕ). take n (drop at z)) (append_assoc (take at l) y x)
    ∙ ap (take n) (drop_at (take at l) (y ++ x) at t)
    ∙ take_at y x n s

-- ---- beyond a need
pub beyond_same : (n : ℕ) (l : List ℕ) → Beyond n l l
beyond_same n l = record { long = refl; rest = refl }

pub beyond_trans : {n : ℕ} {k l m : List ℕ} → Beyond n k l → Beyond n l m → Beyond n k m
beyond_trans a b = record { long = b.long ∙ a.long; rest = b.rest ∙ a.rest }

pub beyond_over : (n at : ℕ) (b l : List ℕ) → at + length b ≤ n → n ≤ length l → Beyond n l (over at b l)
beyond_over n at b l h k = record { long = over_length at b l (omega arith); rest = over_rest n at b l (omega arith) h }

-- the same, on a room that is as another one beyond the need
pub beyond_more : (n at : ℕ) (b k l : List ℕ) → at + length b ≤ n → n ≤ length k → Beyond n k l → Beyond n k (over at b l)
beyond_more n at b k l h m p = beyond_trans p (beyond_over n at b l h (omega (arith, p.long)))
