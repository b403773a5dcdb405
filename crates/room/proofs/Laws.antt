-- Laws for callers: what laying bytes keeps and changes, and when two lists agree.
use Prim.Native.Nat.{ℕ, suc, ◌+◌, ◌-◌, ◌≤◌, ◌<◌}
use mathlib.Core.Path.{◌≡◌, refl, sym, ap, ◌∙◌}
use mathlib.Core.Bool.{Bool, true, false}
use mathlib.Core.Logic.{◌⊎◌, inl, inr, ⊎_elim}
use mathlib.Core.List.{List, [], ◌∷◌, ◌++◌, append_assoc}
use native.Mathlib.Omega.{arith}
use borrow.Author.Tests.{leb-true, leb-false, le-leb, lt-leb, eqb-true, eqb-false, eq-eqb, ne_eqb}
use lib.Dec.{leb, eqb}
use lib.ListN.{length, take, drop}
use lib.Seq.{paste, length-paste, take-length, take-nil, take_at, drop_at, length-take-le, take-append-le, take-take, drop-drop}
use Rattle.commands.specs.Script.{over}
use Rattle.std.specs.Prelude.{None, Some}
use Rattle.std.proofs.lemmas.Option.{none-some}
use Rattle.room.specs.Room.{laid, differs_from}

-- ---- bytes laid over the room
-- over the room, where they fit
pub laid_fits : (at : ℕ) (bytes room : List ℕ) → at + length bytes ≤ length room → laid at bytes room ≡ over at bytes room
unfolding laid
laid_fits at bytes room h = rw (le-leb (at + length bytes) (length room) h)

-- the room as it was, where they do not
pub laid_not : (at : ℕ) (bytes room : List ℕ) → length room < at + length bytes → laid at bytes room ≡ room
unfolding laid
laid_not at bytes room h = rw (lt-leb (at + length bytes) (length room) h)

pub le_or_lt : (a b : ℕ) → (a ≤ b) ⊎ (b < a)
le_or_lt a b = go (leb a b) refl
  where
    go : (t : Bool) → leb a b ≡ t → (a ≤ b) ⊎ (b < a)
    go true e = inl (leb-true a b e)
    go false e = inr (leb-false a b e)

-- what holds of bytes laid over the room and of the room as it was
laid_by : (P : List ℕ → Type 0) (at : ℕ) (bytes room : List ℕ) → (at + length bytes ≤ length room → P (over at bytes room)) → P room → P (laid at bytes room)
laid_by P at bytes room laying as_was =
    ⊎_elim
    (λ (h : at + length bytes ≤ length room). rw (laid_fits at bytes room h) (laying h))
    (λ (h : length room < at + length bytes). rw (laid_not at bytes room h) as_was)
    (le_or_lt (at + length bytes) (length room))

-- a copy to its end
pub over_paste : (at : ℕ) (bytes room : List ℕ) → paste room at bytes (length bytes) ≡ over at bytes room
unfolding over
over_paste at bytes room = rw (take-length bytes, append_assoc)

module _ (at : ℕ) (bytes room : List ℕ) (fits : at + length bytes ≤ length room) where
  pub length_over : length (over at bytes room) ≡ length room
  length_over = rw (← over_paste at bytes room) (length-paste room at bytes (length bytes) fits (omega arith))

  before : length (take at room) ≡ at
  before = length-take-le at room (omega arith)

  pub take_over : (n : ℕ) → n ≤ at → take n (over at bytes room) ≡ take n room
  unfolding over
  take_over n h =
      let short : n ≤ length (take at room) = omega (arith, before) in
      take-append-le n (take at room) (bytes ++ drop (at + length bytes) room) short ∙ take-take n at room h

  drop_over_at : drop at (over at bytes room) ≡ bytes ++ drop (at + length bytes) room
  unfolding over
  drop_over_at = drop_at (take at room) (bytes ++ drop (at + length bytes) room) at before

  pub part_over : take (length bytes) (drop at (over at bytes room)) ≡ bytes
  part_over = rw drop_over_at (take_at bytes (drop (at + length bytes) room) (length bytes) refl)

  drop_over_end : drop (at + length bytes) (over at bytes room) ≡ drop (at + length bytes) room
  drop_over_end = rw (← drop-drop (length bytes) at (over at bytes room), drop_over_at) (drop_at bytes (drop (at + length bytes) room) (length bytes) refl)

  pub drop_over : (n : ℕ) → at + length bytes ≤ n → drop n (over at bytes room) ≡ drop n room
  drop_over n h =
      let e : at + length bytes + (n - (at + length bytes)) ≡ n = omega arith in
      ap (λ (k : ℕ). drop k (over at bytes room)) (sym e)
      ∙ sym (drop-drop (n - (at + length bytes)) (at + length bytes) (over at bytes room))
      ∙ ap (λ (l : List ℕ). drop (n - (at + length bytes)) l) drop_over_end
      ∙ drop-drop (n - (at + length bytes)) (at + length bytes) room
      ∙ ap (λ (k : ℕ). drop k room) e

-- the room keeps its length
pub length_laid : (at : ℕ) (bytes room : List ℕ) → length (laid at bytes room) ≡ length room
length_laid at bytes room = laid_by (λ (l : List ℕ). length l ≡ length room) at bytes room (length_over at bytes room) refl

-- before the place, and past the end of what was laid, nothing changes
pub take_laid : (at : ℕ) (bytes room : List ℕ) (n : ℕ) → n ≤ at → take n (laid at bytes room) ≡ take n room
take_laid at bytes room n h = laid_by (λ (l : List ℕ). take n l ≡ take n room) at bytes room (λ f. take_over at bytes room f n h) refl

pub drop_laid : (at : ℕ) (bytes room : List ℕ) (n : ℕ) → at + length bytes ≤ n → drop n (laid at bytes room) ≡ drop n room
drop_laid at bytes room n h = laid_by (λ (l : List ℕ). drop n l ≡ drop n room) at bytes room (λ f. drop_over at bytes room f n h) refl

-- what was laid stands there
pub part_laid : (at : ℕ) (bytes room : List ℕ) → at + length bytes ≤ length room → take (length bytes) (drop at (laid at bytes room)) ≡ bytes
part_laid at bytes room h = rw (laid_fits at bytes room h) (part_over at bytes room h)

-- ---- the first difference
-- nothing to compare, equal heads, and heads that differ
pub differs_nil : (i : ℕ) (l : List ℕ) → differs_from i l [] ≡ None
unfolding differs_from
differs_nil i [] = refl
differs_nil i (x ∷ l) = refl

pub differs_eq : (i x y : ℕ) (l r : List ℕ) → x ≡ y → differs_from i (x ∷ l) (y ∷ r) ≡ differs_from (suc i) l r
unfolding differs_from
differs_eq i x y l r h = rw (differs_from, eq-eqb x y h)

pub differs_ne : (i x y : ℕ) (l r : List ℕ) → (x ≡ y → ⊥) → differs_from i (x ∷ l) (y ∷ r) ≡ Some (record { at = i; has = x; read = y })
unfolding differs_from
differs_ne i x y l r h = rw (differs_from, ne_eqb x y h)

equal_or_not : (x y : ℕ) → (x ≡ y) ⊎ (x ≡ y → ⊥)
equal_or_not x y = go (eqb x y) refl
  where
    go : (t : Bool) → eqb x y ≡ t → (x ≡ y) ⊎ (x ≡ y → ⊥)
    go true e = inl (eqb-true x y e)
    go false e = inr (eqb-false x y e)

-- no difference is found exactly if the two agree on the part that both have
pub differs_same : (i : ℕ) (l r : List ℕ) → differs_from i l r ≡ None → take (length r) l ≡ take (length l) r
differs_same i [] r h = take-nil (length r)
differs_same i (x ∷ l) [] h = refl
differs_same i (x ∷ l) (y ∷ r) h =
    ⊎_elim
    (λ (e : x ≡ y). rw (e, differs_same (suc i) l r (sym (differs_eq i x y l r e) ∙ h)))
    (λ (n : x ≡ y → ⊥). absurd (none-some _ (sym h ∙ differs_ne i x y l r n)))
    (equal_or_not x y)

pub same_differs : (i : ℕ) (l r : List ℕ) → take (length r) l ≡ take (length l) r → differs_from i l r ≡ None
unfolding differs_from
same_differs i [] r h = refl
same_differs i (x ∷ l) [] h = refl
same_differs i (x ∷ l) (y ∷ r) h =
    let e : x ≡ y = cc in
    let t : take (length r) l ≡ take (length l) r = cc in
    differs_eq i x y l r e ∙ same_differs (suc i) l r t
