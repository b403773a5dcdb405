-- What the functions' proofs cite: the all-FF test and the comparison.
use Prim.Native.Nat.{ℕ, zero, suc, ◌+◌, ◌*◌, ◌/◌, ◌≤◌, ◌<◌}
use mathlib.Core.Path.{◌≡◌, refl, sym, ap, ◌∙◌}
use mathlib.Core.Bool.{Bool, true, false, not, ◌&&◌}
use mathlib.Core.Logic.{◌⊎◌, ⊎_elim, inl, inr}
use mathlib.Core.List.{List, [], ◌∷◌}
use native.Mathlib.Omega.{arith}
use native.Mathlib.Numerals.{add-one}
use borrow.Author.Tests.{eqb-true, eqb-false, eq-eqb, ne_eqb}
use lib.Dec.{eqb}
use lib.ListN.{length, take, drop, get_or, length-drop}
use lib.Seq.{drop-drop, length-take-le}
use Rattle.std.proofs.lemmas.List.{get_or-drop}
use Rattle.std.specs.Int.{w64, from_le_bytes}
use Rattle.std.specs.List.{list_all, position_from, zip}
use Rattle.std.specs.Option.{option_map}
use Rattle.std.specs.Prelude.{Option}
use Rattle.std.specs.Simd.{first_chunks}
use Rattle.std.proofs.lemmas.Grind.{common_steps}
use Rattle.std.proofs.lemmas.Nat.{le_bytes_8}
use Rattle.commands.specs.Commands.{blank}
use Rattle.room.specs.Room.{differs_from}
use Rattle.room.specs.declared.Difference.{Difference}
use Rattle.room.proofs.Laws.{le_or_lt, differs_eq, differs_ne}

-- ---- the all-FF test
and_assoc : (a b c : Bool) → a && (b && c) ≡ (a && b) && c
and_assoc true b c = refl
and_assoc false b c = refl

-- byte by byte
pub all_blank : (l : List ℕ) → list_all (λ x. eqb x 255) l ≡ blank l
unfolding blank
all_blank [] = refl
all_blank (x ∷ l) = ap (λ (b : Bool). eqb x 255 && b) (all_blank l)

-- the first bytes and the rest
blank_parts : (n : ℕ) (l : List ℕ) → blank l ≡ blank (take n l) && blank (drop n l)
unfolding blank
blank_parts zero l = refl
blank_parts (suc n) [] = refl
blank_parts (suc n) (x ∷ l) = ap (λ (b : Bool). eqb x 255 && b) (blank_parts n l) ∙ and_assoc (eqb x 255) (blank (take n l)) (blank (drop n l))

blank_eight : (l : List ℕ) (i : ℕ) → blank (drop i l) ≡ blank (take 8 (drop i l)) && blank (drop (i + 8) l)
blank_eight l i = blank_parts 8 (drop i l) ∙ ap (λ (d : List ℕ). blank (take 8 (drop i l)) && blank d) (drop-drop 8 i l)

-- eight that are FF: it is for the rest to say. Eight that are not: no
pub eight_yes : (l : List ℕ) (i : ℕ) → blank (take 8 (drop i l)) ≡ true → blank (drop i l) ≡ blank (drop (i + 8) l)
eight_yes l i e = blank_eight l i ∙ ap (λ (b : Bool). b && blank (drop (i + 8) l)) e

pub eight_no : (l : List ℕ) (i : ℕ) → blank (take 8 (drop i l)) ≡ false → blank (drop i l) ≡ false
eight_no l i e = blank_eight l i ∙ ap (λ (b : Bool). b && blank (drop (i + 8) l)) e

-- bytes as one number, the lowest first, and the number of as many FF
abbrev joined : List ℕ → ℕ
joined [] = 0
joined (x ∷ l) = x + 256 * joined l

abbrev top : List ℕ → ℕ
top [] = 0
top (x ∷ l) = 255 + 256 * top l

abbrev Bytes : List ℕ → Type 0
Bytes [] = Unit {0}
Bytes (x ∷ l) = (x < 256) × Bytes l

same_or_not : (m n : ℕ) → (m ≡ n) ⊎ (m ≡ n → ⊥)
same_or_not m n =
    ⊎_elim
    (λ (h : m ≤ n). ⊎_elim (λ (g : n ≤ m). inl (omega arith)) (λ (g : m < n). inr (λ (e : m ≡ n). omega arith)) (le_or_lt n m))
    (λ (h : n < m). inr (λ (e : m ≡ n). omega arith))
    (le_or_lt m n)

digit : (b r c s : ℕ) → b < 256 → c < 256 → eqb (b + 256 * r) (c + 256 * s) ≡ eqb b c && eqb r s
digit b r c s hb hc =
    ⊎_elim
    (λ (e : b ≡ c). ⊎_elim
    (λ (f : r ≡ s). rw (e, f, eq-eqb (c + 256 * s) (c + 256 * s) refl, eq-eqb c c refl, eq-eqb s s refl) refl)
    (λ (f : r ≡ s → ⊥). rw (e, eq-eqb c c refl, ne_eqb r s f) (ne_eqb (c + 256 * r) (c + 256 * s) (λ (h : c + 256 * r ≡ c + 256 * s). f (omega arith))))
    (same_or_not r s))
    (λ (e : b ≡ c → ⊥). rw (ne_eqb b c e) (ne_eqb (b + 256 * r) (c + 256 * s) (λ (h : b + 256 * r ≡ c + 256 * s). e (omega arith))))
    (same_or_not b c)

-- the number is the largest exactly if all the bytes are FF, over the list and not over the number eight
all_top : (l : List ℕ) → Bytes l → eqb (joined l) (top l) ≡ blank l
unfolding blank
all_top [] h = refl
all_top (x ∷ l) h = digit x (joined l) 255 (top l) h.0 (omega arith) ∙ ap (λ (b : Bool). eqb x 255 && b) (all_top l h.1)

-- so many FF
abbrev ffs : ℕ → List ℕ
ffs zero = []
ffs (suc n) = 255 ∷ ffs n

blank_ffs : (l : List ℕ) → blank l ≡ true → l ≡ ffs (length l)
unfolding blank
blank_ffs [] h = refl
blank_ffs (x ∷ l) h = let e : x ≡ 255 = grind (arith, common_steps) in let r : blank l ≡ true = grind (arith, common_steps) in rw (e, ← blank_ffs l r)

-- eight bytes as one number: the largest exactly if all of them are FF
abbrev pub full : List ℕ → Bool
full bs = eqb (from_le_bytes w64 bs) 18446744073709551615

eight_full : (bs : List ℕ) → length bs ≡ 8 → ((i : ℕ) → get_or bs i 0 < 256) → full bs ≡ blank bs
unfolding blank
eight_full bs h b = go (full bs) (blank bs) refl refl
  where
    go : (s t : Bool) → full bs ≡ s → blank bs ≡ t → full bs ≡ blank bs
    go true t e f = e ∙ sym (ap blank (sym (le_bytes_8 bs 18446744073709551615 h b (sym (eqb-true _ _ e)))))
    go false true e f = absurd (eqb-false _ _ e (ap (from_le_bytes w64) (blank_ffs bs f ∙ ap ffs h)))
    go false false e f = e ∙ sym f

below_take : (n : ℕ) (l : List ℕ) → ((i : ℕ) → get_or l i 0 < 256) → (i : ℕ) → get_or (take n l) i 0 < 256
below_take zero l b i = omega arith
below_take (suc n) [] b i = omega arith
below_take (suc n) (x ∷ l) b zero = b 0
below_take (suc n) (x ∷ l) b (suc i) = below_take n l (λ (j : ℕ). b (suc j)) i

-- eight at a time, then those that are left
eights_blank : (n : ℕ) (l : List ℕ) → n * 8 ≤ length l → ((i : ℕ) → get_or l i 0 < 256)
    → list_all full (first_chunks 8 n l) && blank (drop (n * 8) l) ≡ blank l
eights_blank zero l h b = refl
eights_blank (suc n) l h b =
    let len : length (take 8 l) ≡ 8 = search (arith, length-take-le) in
    let rest : n * 8 ≤ length (drop 8 l) = simp length-drop (omega arith) in
    sym (and_assoc (full (take 8 l)) (list_all full (first_chunks 8 n (drop 8 l))) (blank (drop (suc n * 8) l)))
    ∙ ap (λ (d : List ℕ). full (take 8 l) && (list_all full (first_chunks 8 n (drop 8 l)) && blank d)) (ap (λ (k : ℕ). drop k l) (omega arith) ∙ sym (drop-drop (n * 8) 8 l))
    ∙ ap (λ (t : Bool). full (take 8 l) && t) (eights_blank n (drop 8 l) rest (λ i. rw (get_or-drop 8 l i 0) (b (8 + i))))
    ∙ ap (λ (t : Bool). t && blank (drop 8 l)) (eight_full (take 8 l) len (below_take 8 l b))
    ∙ sym (blank_parts 8 l)

-- what both tests say together
pub all_parts : (l rest : List ℕ) (chunks : List (List ℕ)) (a b : Bool) → ((i : ℕ) → get_or l i 0 < 256)
    → chunks ≡ first_chunks 8 (length l / 8) l → rest ≡ drop (length l / 8 * 8) l → a ≡ list_all full chunks
    → b ≡ list_all (λ x. eqb x 255) rest → a && b ≡ blank l
all_parts l rest chunks a b h e f g k =
    rw (g, k, e, all_blank rest, f) (eights_blank (length l / 8) l (omega arith) h)

-- ---- the comparison
abbrev pub differ : ℕ × ℕ → Bool
differ p = not (eqb p.0 p.1)

-- the first pair that differs, where f and g read the two lists, the first of each being number i
pub differs_at : (f g : ℕ → ℕ) (i : ℕ) (l r : List ℕ) → ((k : ℕ) → f (i + k) ≡ get_or l k 0) → ((k : ℕ) → g (i + k) ≡ get_or r k 0)
    → differs_from i l r ≡ option_map (λ k. record { at = k; has = f k; read = g k }) (position_from differ i (zip l r))
unfolding differs_from
differs_at f g i [] r hf hg = refl
differs_at f g i (x ∷ l) [] hf hg = refl
differs_at f g i (x ∷ l) (y ∷ r) hf hg =
    go (differs_at f g (suc i) l r (λ k. ap f (omega arith) ∙ hf (suc k)) (λ k. ap g (omega arith) ∙ hg (suc k))) (eqb x y) refl
  where
    go : differs_from (suc i) l r ≡ option_map (λ k. record { at = k; has = f k; read = g k }) (position_from differ (suc i) (zip l r)) → (t : Bool) → eqb x y ≡ t
        → differs_from i (x ∷ l) (y ∷ r) ≡ option_map (λ k. record { at = k; has = f k; read = g k }) (position_from differ i (zip (x ∷ l) (y ∷ r)))
    go more true e = rw (differs_eq i x y l r (eqb-true x y e), e, more, add-one)
    go more false e = let z : i + 0 ≡ i = omega arith in rw (differs_ne i x y l r (eqb-false x y e), e, ← hf 0, ← hg 0, z)

-- what the search found, as the difference
pub found_differs : (l r : List ℕ) (o p : Option ℕ) → o ≡ position_from differ 0 (zip l r) → o ≡ p
    → option_map {U = Difference} (λ k. record { at = k; has = get_or l k 0; read = get_or r k 0 }) p ≡ differs_from 0 l r
found_differs l r o p e h =
    rw (← h, e) (sym (differs_at (λ k. get_or l k 0) (λ k. get_or r k 0) 0 l r (λ k. ap (λ n. get_or l n 0) (omega arith)) (λ k. ap (λ n. get_or r n 0) (omega arith))))
