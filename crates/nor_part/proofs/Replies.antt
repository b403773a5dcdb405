-- What the replies and the address cite.
use mathlib.Core.Path.{◌≡◌, refl, sym, ap, ◌∙◌}
use mathlib.Core.List.{List, [], ◌∷◌}
use Prim.Native.Nat.{ℕ, zero, suc, ◌+◌, ◌*◌, ◌%◌, ◌≤◌, ◌<◌}
use native.Mathlib.Omega.{arith}
use native.Mathlib.Nat.{suc-mod}
use native.Mathlib.Numerals.{add-one}
use lib.ListN.{length, get_or, replicate, get_or-eq_default}
use Rattle.std.proofs.Common.{slice_index_or}
use Rattle.nor_model.specs.Device.{bytes_from, joined}
use Rattle.nor_part.specs.Responds.{mem_of}

-- a reply of n bytes that has at each place the byte of that place
pub reply_by_place : (f : ℕ → ℕ) (a n : ℕ) (l : List ℕ) → length l ≡ n → ((k : ℕ) → k < n → get_or l k 0 ≡ f (a + k)) → l ≡ bytes_from f a n
unfolding bytes_from
reply_by_place f a zero [] e h = refl
reply_by_place f a zero (x ∷ l) e h = absurd (omega arith)
reply_by_place f a (suc n) [] e h = absurd (omega arith)
reply_by_place f a (suc n) (x ∷ l) e h =
    let first : x ≡ f a = h 0 (omega arith) ∙ (let e : a + 0 ≡ a = omega arith in ap f e) in
    let others : l ≡ bytes_from f (suc a) n =
    reply_by_place f (suc a) n l (omega arith) (λ k g. h (suc k) (omega arith) ∙ (let e : a + suc k ≡ suc a + k = omega arith in ap f e)) in
    ap (λ (y : ℕ). y ∷ l) first ∙ ap (λ (t : List ℕ). f a ∷ t) others

-- a memory of no bytes reads as FF
pub no_cells : (l : List ℕ) (a n : ℕ) → length l ≡ 0 → replicate n 0xFF ≡ bytes_from (λ i. mem_of l (i % length l)) a n
unfolding bytes_from
no_cells l a zero h = refl
no_cells l a (suc n) h =
    let e : mem_of l (a % length l) ≡ 0xFF = get_or-eq_default l 255 (omega arith) in rw e (ap (λ (t : List ℕ). 0xFF ∷ t) (no_cells l (suc a) n h))

-- fixed bytes read as FF past their end
pub past_end : (l : List ℕ) (a n : ℕ) → length l ≤ a → replicate n 0xFF ≡ bytes_from (mem_of l) a n
unfolding bytes_from
past_end l a zero h = refl
past_end l a (suc n) h =
    let e : mem_of l a ≡ 0xFF = get_or-eq_default l 255 h in rw e (ap (λ (t : List ℕ). 0xFF ∷ t) (past_end l (suc a) n (omega arith)))

-- the cell of the address after
pub next_cell : (a i capacity : ℕ) → ((a + i) % capacity + 1) % capacity ≡ (a + (i + 1)) % capacity
next_cell a i capacity =
    let e : a + (i + 1) ≡ suc (a + i) = omega arith in
    ap (λ (k : ℕ). k % capacity) (add-one ((a + i) % capacity)) ∙ sym (suc-mod (a + i) capacity) ∙ ap (λ (k : ℕ). k % capacity) (sym e)

-- so many bytes as a number
pub joined_none : (t : List ℕ) → length t < 1 → 0 ≡ joined 0 t
unfolding joined
joined_none [] h = refl
joined_none (a ∷ t) h = absurd (omega arith)

pub joined_1 : (t : List ℕ) → 1 ≤ length t → length t < 2 → slice_index_or t 0 0 ≡ joined 0 t
unfolding joined
joined_1 (a ∷ []) g h = omega arith
joined_1 [] g h = absurd (omega arith)
joined_1 (a ∷ b ∷ t) g h = absurd (omega arith)

pub joined_2 : (t : List ℕ) → 2 ≤ length t → length t < 3 → 256 * slice_index_or t 0 0 + slice_index_or t 1 0 ≡ joined 0 t
unfolding joined
joined_2 (a ∷ b ∷ []) g h = omega arith
joined_2 [] g h = absurd (omega arith)
joined_2 (a ∷ []) g h = absurd (omega arith)
joined_2 (a ∷ b ∷ c ∷ t) g h = absurd (omega arith)

pub joined_3 : (t : List ℕ) → 3 ≤ length t → length t < 4 → 65536 * slice_index_or t 0 0 + 256 * slice_index_or t 1 0 + slice_index_or t 2 0 ≡ joined 0 t
unfolding joined
joined_3 (a ∷ b ∷ c ∷ []) g h = omega arith
joined_3 [] g h = absurd (omega arith)
joined_3 (a ∷ []) g h = absurd (omega arith)
joined_3 (a ∷ b ∷ []) g h = absurd (omega arith)
joined_3 (a ∷ b ∷ c ∷ d ∷ t) g h = absurd (omega arith)

pub joined_4 : (t : List ℕ) → 4 ≤ length t → length t < 5
    → 16777216 * slice_index_or t 0 0 + 65536 * slice_index_or t 1 0 + 256 * slice_index_or t 2 0 + slice_index_or t 3 0 ≡ joined 0 t
unfolding joined
joined_4 (a ∷ b ∷ c ∷ d ∷ []) g h = omega arith
joined_4 [] g h = absurd (omega arith)
joined_4 (a ∷ []) g h = absurd (omega arith)
joined_4 (a ∷ b ∷ []) g h = absurd (omega arith)
joined_4 (a ∷ b ∷ c ∷ []) g h = absurd (omega arith)
joined_4 (a ∷ b ∷ c ∷ d ∷ e ∷ t) g h = absurd (omega arith)
