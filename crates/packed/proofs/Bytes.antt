-- Words and bytes: each is the other's way back.
use Prim.Native.Nat.{ℕ, zero, suc, ◌+◌, ◌*◌, ◌^◌, ◌<◌, ◌≤◌}
use native.Mathlib.Omega.{arith}
use mathlib.Core.Path.{◌≡◌, refl, sym, ap, ◌∙◌, subst}
use mathlib.Core.Bool.{Bool, true, false, ◌&&◌}
use mathlib.Core.List.{List, [], ◌∷◌, ◌++◌, append_assoc}
use lib.ListN.{length, get_or, take, drop}
use lib.Seq.{drop-drop, take-suc, take_at, drop_at, get_or-drop, length-take-le}
use native.Mathlib.Numerals.{add-one}
use borrow.Rule.Slice.PartMut.{put_mid}
use Rattle.std.specs.Int.{w32, to_le_bytes}
use Rattle.std.specs.Bool.{MatchBool}
use mathlib.Core.Logic.{◌≢◌}
use Rattle.std.specs.Array.{IsFromFnResultFrom}
use Rattle.std.specs.Fn.{Called}
use denote.Param.Members.{Mut}
use lib.Dec.{eqb}
use borrow.Author.Tests.{eqb-true, eqb-false, eq-eqb}
use Rattle.packed.specs.Numbers.{word, byte0, byte1, byte2, byte3, bytes, word_at, words, same_list}

-- ---- a word and its four bytes
pub word_of_bytes : (x : ℕ) → x < 2 ^ 32 → word (byte0 x) (byte1 x) (byte2 x) (byte3 x) ≡ x
word_of_bytes x h = omega arith

pub byte0_word : (a b c d : ℕ) → a < 256 → byte0 (word a b c d) ≡ a
byte0_word a b c d ha = omega arith

pub byte1_word : (a b c d : ℕ) → a < 256 → b < 256 → byte1 (word a b c d) ≡ b
byte1_word a b c d ha hb = omega arith

pub byte2_word : (a b c d : ℕ) → a < 256 → b < 256 → c < 256 → byte2 (word a b c d) ≡ c
byte2_word a b c d ha hb hc = omega arith

pub byte3_word : (a b c d : ℕ) → a < 256 → b < 256 → c < 256 → d < 256 → byte3 (word a b c d) ≡ d
byte3_word a b c d ha hb hc hd = omega arith

-- ---- the bytes of words
pub length_bytes : (l : List ℕ) → length (bytes l) ≡ 4 * length l
unfolding bytes
length_bytes [] = refl
length_bytes (x ∷ l) = let ih : length (bytes l) ≡ 4 * length l = length_bytes l in omega arith

pub bytes_below : (l : List ℕ) (i : ℕ) → get_or (bytes l) i 0 < 256
unfolding bytes
bytes_below [] i = omega arith
bytes_below (x ∷ l) zero = omega arith
bytes_below (x ∷ l) (suc zero) = omega arith
bytes_below (x ∷ l) (suc (suc zero)) = omega arith
bytes_below (x ∷ l) (suc (suc (suc zero))) = omega arith
bytes_below (x ∷ l) (suc (suc (suc (suc i)))) = bytes_below l i

-- ---- the words of bytes
pub length_words : (n : ℕ) (b : List ℕ) → length (words n b) ≡ n
unfolding words
length_words zero b = refl
length_words (suc n) b = ap suc (length_words n (drop 4 b))

word_after : (b : List ℕ) (i : ℕ) → word_at (drop 4 b) (4 * i) ≡ word_at b (4 * suc i)
word_after b i =
    let e0 : 4 + 4 * i ≡ 4 * suc i = omega arith in
    let e1 : 4 + (4 * i + 1) ≡ 4 * suc i + 1 = omega arith in
    let e2 : 4 + (4 * i + 2) ≡ 4 * suc i + 2 = omega arith in
    let e3 : 4 + (4 * i + 3) ≡ 4 * suc i + 3 = omega arith in
    rw (get_or-drop 4 b (4 * i) 0, get_or-drop 4 b (4 * i + 1) 0, get_or-drop 4 b (4 * i + 2) 0, get_or-drop 4 b (4 * i + 3) 0, e0, e1, e2, e3)

pub words_at : (n : ℕ) (b : List ℕ) (i : ℕ) → i < n → get_or (words n b) i 0 ≡ word_at b (4 * i)
unfolding words
words_at zero b i h = absurd (omega arith)
words_at (suc n) b zero h = refl
words_at (suc n) b (suc i) h = words_at n (drop 4 b) i (omega arith) ∙ word_after b i

-- ---- there and back
pub words_of_bytes : (l : List ℕ) → ((i : ℕ) → get_or l i 0 < 2 ^ 32) → words (length l) (bytes l) ≡ l
unfolding words bytes
words_of_bytes [] f = refl
words_of_bytes (x ∷ l) f = λ i. word_of_bytes x (f 0) i ∷ words_of_bytes l (λ k. f (suc k)) i

pub bytes_of_words : (n : ℕ) (b : List ℕ) → length b ≡ 4 * n → ((i : ℕ) → get_or b i 0 < 256) → bytes (words n b) ≡ b
unfolding words bytes
bytes_of_words zero [] h f = refl
bytes_of_words zero (x ∷ t) h f = absurd (omega arith)
bytes_of_words (suc n) [] h f = absurd (omega arith)
bytes_of_words (suc n) (x ∷ []) h f = absurd (omega arith)
bytes_of_words (suc n) (x ∷ (y ∷ [])) h f = absurd (omega arith)
bytes_of_words (suc n) (x ∷ (y ∷ (z ∷ []))) h f = absurd (omega arith)
bytes_of_words (suc n) (x ∷ (y ∷ (z ∷ (u ∷ t)))) h f =
    λ i.
    byte0_word x y z u (f 0) i
    ∷ byte1_word x y z u (f 0) (f 1) i
    ∷ byte2_word x y z u (f 0) (f 1) (f 2) i
    ∷ byte3_word x y z u (f 0) (f 1) (f 2) (f 3) i
    ∷ bytes_of_words n t (omega arith) (λ k. f (suc (suc (suc (suc k))))) i

-- ---- lists that are the same
same_head : (x y : ℕ) (b : Bool) → eqb x y && b ≡ true → (x ≡ y) × (b ≡ true)
same_head x y b h = both (eqb x y) refl b h
  where
    both : (t : Bool) → eqb x y ≡ t → (b : Bool) → t && b ≡ true → (x ≡ y) × (b ≡ true)
    both true e b h = (eqb-true x y e, h)
    both false e b h = let q : ◌≡◌ {A = ℕ} 0 1 = cc in absurd (omega arith)

pub same_equal : (a b : List ℕ) → same_list a b ≡ true → a ≡ b
unfolding same_list
same_equal [] [] h = refl
same_equal [] (y ∷ r) h = let q : ◌≡◌ {A = ℕ} 0 1 = cc in absurd (omega arith)
same_equal (x ∷ l) [] h = let q : ◌≡◌ {A = ℕ} 0 1 = cc in absurd (omega arith)
same_equal (x ∷ l) (y ∷ r) h = let p = same_head x y (same_list l r) h in λ i. p.0 i ∷ same_equal l r p.1 i

pub same_self : (a : List ℕ) → same_list a a ≡ true
unfolding same_list
same_self [] = refl
same_self (x ∷ l) = rw (eq-eqb x x refl) (same_self l)

pub same_differs : (a b : List ℕ) → (a ≡ b → ⊥) → same_list a b ≡ false
same_differs a b d = settled (same_list a b) refl
  where
    settled : (t : Bool) → same_list a b ≡ t → t ≡ false
    settled true e = absurd (d (same_equal a b e))
    settled false e = refl

-- a word's four bytes, as the library has them
pub le_four : (x : ℕ) → to_le_bytes w32 x ≡ byte0 x ∷ byte1 x ∷ byte2 x ∷ byte3 x ∷ []
le_four x = grind arith

-- ---- a list that is filled from the front, a word at a time
pub bytes_append : (a b : List ℕ) → bytes (a ++ b) ≡ bytes a ++ bytes b
unfolding bytes
bytes_append [] b = refl
bytes_append (x ∷ a) b = ap (λ (l : List ℕ). byte0 x ∷ byte1 x ∷ byte2 x ∷ byte3 x ∷ l) (bytes_append a b)

pub fill_word : (w d four : List ℕ) (i n : ℕ) → i < length w → length d ≡ 4 * length w → n ≡ 4 → four ≡ bytes (get_or w i 0 ∷ [])
    → put_mid (4 * i) n (bytes (take i w) ++ drop (4 * i) d) four ≡ bytes (take (i + 1) w) ++ drop (4 * (i + 1)) d
fill_word w d four i n h e f b =
    let k : length (bytes (take i w)) ≡ 4 * i = omega (arith, length_bytes (take i w), length-take-le i w (omega arith)) in
    let t : take (4 * i) (bytes (take i w) ++ drop (4 * i) d) ≡ bytes (take i w) = take_at (bytes (take i w)) (drop (4 * i) d) (4 * i) k in
    let r : drop (4 * i) (bytes (take i w) ++ drop (4 * i) d) ≡ drop (4 * i) d = drop_at (bytes (take i w)) (drop (4 * i) d) (4 * i) k in
    let s : take (i + 1) w ≡ take i w ++ (get_or w i 0 ∷ []) = rw add-one (take-suc w i 0 h) in
    let m : 4 * (i + 1) ≡ 4 * i + 4 = omega arith in
    rw (t, r, f, b, drop-drop 4 (4 * i) d, s, m, bytes_append (take i w) (get_or w i 0 ∷ []))
    (sym (append_assoc (bytes (take i w)) (bytes (get_or w i 0 ∷ [])) (drop (4 * i + 4) d)))

-- the words that the code reads are w exactly if the bytes are those of w
pub words_same : (x b w : List ℕ) (r : Bool) → x ≡ words 64 b → length b ≡ 256 → length w ≡ 64 → ((i : ℕ) → get_or b i 0 < 256) → ((i : ℕ) → get_or w i 0 < 2 ^ 32)
    → MatchBool r (x ≡ w) (x ≢ w) → r ≡ same_list b (bytes w)
words_same x b w true e hb hw fb fw m =
    let y : words 64 b ≡ w = sym e ∙ m in
    sym (rw (← y, bytes_of_words 64 b hb fb) (same_self b))
words_same x b w false e hb hw fb fw m =
    sym (same_differs b (bytes w) (λ q. m (e ∙ ap (words 64) q ∙ ap (λ (n : ℕ). words n (bytes w)) (sym hw) ∙ words_of_bytes w fw)))

-- ---- an array made by a function of the index that leaves itself as it was
pub made_at : {F : Type 0} {g : Mut F (ℕ × Unit {0}) ℕ} {f : F} (h : ℕ → ℕ) → ((x y : ℕ) (q : F) → Called g f (x, tt) y q → (q ≡ f) × (y ≡ h x))
    → (l : List ℕ) (i n : ℕ) (p : F) → p ≡ f → IsFromFnResultFrom g p l i n → (k : ℕ) → i ≤ k → k < i + n → get_or l k 0 ≡ h k
made_at h step l i zero p s e k lo hi = absurd (omega arith)
made_at {F} {g} {f} h step l i (suc n) p s e k lo hi =
    let t = step i e.1 e.0 (subst (λ (r : F). Called g r (i, tt) e.1 e.0) s e.3) in
    at (e.2.1 0 ∙ t.1) (λ (lo : i + 1 ≤ k) (hi : k < i + 1 + n). made_at h step l (i + 1) n e.0 t.0 e.4 k lo hi) (eqb k i) refl
  where
    at : get_or l i 0 ≡ h i → (i + 1 ≤ k → k < i + 1 + n → get_or l k 0 ≡ h k) → (b : Bool) → eqb k i ≡ b → get_or l k 0 ≡ h k
    at here rest true q = let z : k ≡ i = eqb-true k i q in rw z here
    at here rest false q = let d : k ≡ i → ⊥ = eqb-false k i q in rest (omega arith) (omega arith)
