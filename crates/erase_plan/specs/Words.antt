-- Two words that many statements share.
use Rattle.std.specs.Prelude.{◌≡◌, ℕ, ◌*◌, List, [], ◌∷◌}

-- a property of each element of a list
abbrev pub Each : {A : Type 0} → (A → Type 0) → List A → Type 0
Each P [] = Unit {0}
Each P (x ∷ xs) = P x × Each P xs

-- n is a multiple of s
pub record Mult (s n : ℕ) : Type 0 where
  pub q : ℕ
  pub is : n ≡ q * s
