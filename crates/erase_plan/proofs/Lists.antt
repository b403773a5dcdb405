-- Cases, and properties of each element of a list.
use Rattle.std.proofs.Common.{◌≡◌, ℕ, zero, suc, ◌<◌, ◌≤◌, Bool, true, false, cond, ◌⊎◌, List, [], ◌∷◌, ◌++◌, length, get_or, arith}
use Rattle.std.proofs.lemmas.Bool.{true≢false, false≢true, cases_lt, and_parts, cond_both}
use Rattle.std.specs.List.{list_all}
use Rattle.erase_plan.specs.Words.{Each}

-- two numbers stand in one order or the other
pub lt_or_le : (a b : ℕ) → (a < b) ⊎ (b ≤ a)
lt_or_le a b = cases_lt a b

-- a choice by a test, with what the test says
pub by_cond : {A : Type 0} (P : A → Type 0) (b : Bool) (x y : A) → (b ≡ true → P x) → (b ≡ false → P y) → P (cond b x y)
by_cond P b x y f g = cond_both b x y P f g

-- true and false are not equal
pub no_true : {A : Type 0} → false ≡ true → A
no_true h = absurd (false≢true h)

pub no_false : {A : Type 0} → true ≡ false → A
no_false h = absurd (true≢false h)

-- a test that each element passes
pub each_true : {A : Type 0} (p : A → Bool) (xs : List A) → list_all p xs ≡ true → Each (λ (x : A). p x ≡ true) xs
each_true p [] h = tt
each_true p (x ∷ xs) h = let r = and_parts (p x) (list_all p xs) h in (r.0, each_true p xs r.1)

module _ {A : Type 0} (P : A → Type 0) where
  pub each_append : (xs ys : List A) → Each P xs → Each P ys → Each P (xs ++ ys)
  each_append [] ys p q = q
  each_append (x ∷ xs) ys p q = (p.0, each_append xs ys p.1 q)

  pub each_split : (xs ys : List A) → Each P (xs ++ ys) → Each P xs × Each P ys
  each_split [] ys p = (tt, p)
  each_split (x ∷ xs) ys p = let r = each_split xs ys p.1 in ((p.0, r.0), r.1)

  pub each_map : (Q : A → Type 0) → ((x : A) → P x → Q x) → (xs : List A) → Each P xs → Each Q xs
  each_map Q f [] p = tt
  each_map Q f (x ∷ xs) p = (f x p.0, each_map Q f xs p.1)

  pub each_inside : (xs : List A) (x : A) (ys : List A) → Each P (xs ++ x ∷ ys) → P x
  each_inside [] x ys p = p.0
  each_inside (y ∷ xs) x ys p = each_inside xs x ys p.1

  pub each_at : (xs : List A) (i : ℕ) (d : A) → i < length xs → Each P xs → P (get_or xs i d)
  each_at [] i d h p = absurd (omega arith)
  each_at (x ∷ xs) zero d h p = p.0
  each_at (x ∷ xs) (suc i) d h p = each_at xs i d (omega arith) p.1

  pub each_within : (xs : List A) → ((k : ℕ) (d : A) → k < length xs → P (get_or xs k d)) → Each P xs
  each_within [] f = tt
  each_within (x ∷ xs) f = (f 0 x (omega arith), each_within xs (λ k d h. f (suc k) d (omega arith)))
