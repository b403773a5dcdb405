-- The first difference that the room's comparison finds, as the step's pure text tells it.
use Rattle.std.proofs.Common.{◌≡◌, ℕ, suc, ◌+◌, ◌%◌, ◌^◌, Bool, true, false, eqb, ◌⊎◌, List, [], ◌∷◌, sym, refl, ap, ◌∙◌, inl, inr, ⊎_elim, eq-eqb, ne_eqb, eqb-true, Option, Some, None}
use borrow.Author.Tests.{eqb-false}
use Rattle.room.specs.Room.{differs_from}
use Rattle.room.specs.declared.Difference.{Difference}
use Rattle.room.proofs.Laws.{differs_eq, differs_ne}
use Rattle.phases.specs.declared.Mismatch.{Mismatch}
use Rattle.phases.specs.Moves.{first_differs}

unfoldable pub mismatch_of : ℕ → Option Difference → Option Mismatch
mismatch_of base None = None
mismatch_of base (Some d) = Some (record { address = (base + d.at) % 2 ^ 32; wrote = d.has; read = d.read })

first_eq : (base i x y : ℕ) (l r : List ℕ) → x ≡ y → first_differs base i (x ∷ l) (y ∷ r) ≡ first_differs base (suc i) l r
unfolding first_differs
first_eq base i x y l r h = rw (first_differs, eq-eqb x y h)

first_ne : (base i x y : ℕ) (l r : List ℕ) → (x ≡ y → ⊥) → first_differs base i (x ∷ l) (y ∷ r) ≡ mismatch_of base (Some (record { at = i; has = x; read = y }))
unfolding first_differs mismatch_of
first_ne base i x y l r h = rw (first_differs, ne_eqb x y h)

equal_or_not : (x y : ℕ) → (x ≡ y) ⊎ (x ≡ y → ⊥)
equal_or_not x y = go (eqb x y) refl
  where
    go : (t : Bool) → eqb x y ≡ t → (x ≡ y) ⊎ (x ≡ y → ⊥)
    go true e = inl (eqb-true x y e)
    go false e = inr (eqb-false x y e)

pub compares : (base i : ℕ) (l r : List ℕ) → first_differs base i l r ≡ mismatch_of base (differs_from i l r)
unfolding first_differs mismatch_of differs_from
compares base i [] r = refl
compares base i (x ∷ l) [] = refl
compares base i (x ∷ l) (y ∷ r) =
    ⊎_elim
    (λ (e : x ≡ y). first_eq base i x y l r e ∙ compares base (suc i) l r ∙ ap (mismatch_of base) (sym (differs_eq i x y l r e)))
    (λ (n : x ≡ y → ⊥). first_ne base i x y l r n ∙ ap (mismatch_of base) (sym (differs_ne i x y l r n)))
    (equal_or_not x y)
