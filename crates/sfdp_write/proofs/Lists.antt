-- Dwords as bytes, and a buffer that is filled from the front.
use Prim.Native.Nat.{ℕ, zero, suc, ◌+◌, ◌*◌, ◌/◌, ◌%◌, ◌^◌, ◌<◌, ◌≤◌}
use native.Mathlib.Nat.{div-div-eq-div-mul}
use native.Mathlib.Omega.{arith}
use Rattle.std.specs.Int.{w32, to_le_bytes}
use Rattle.std.proofs.lemmas.List.{take_at, drop_at, drop-drop, append_assoc}
use borrow.Rule.Slice.PartMut.{put_mid}
use mathlib.Core.Path.{◌≡◌, refl, sym, ap, ◌∙◌}
use mathlib.Core.List.{List, [], ◌∷◌, ◌++◌}
use lib.ListN.{length, get_or, take, drop, drop_of_length-le}
use lib.Seq.{drop-cons, take-suc, length-take-le}
use Rattle.dwords.specs.Dwords.{le32, bits}
use Rattle.dwords.proofs.Bytes.{bits_below, byte_in}
use Rattle.sfdp.proofs.Laws.{lowest}
use Rattle.sfdp_write.specs.Table.{bytes_of}

-- ---- dwords as bytes
pub length_bytes : (l : List ℕ) → length (bytes_of l) ≡ 4 * length l
unfolding bytes_of
length_bytes [] = refl
length_bytes (x ∷ l) = let ih : length (bytes_of l) ≡ 4 * length l = length_bytes l in omega arith

pub bytes_below : (l : List ℕ) (i : ℕ) → get_or (bytes_of l) i 0 < 256
unfolding bytes_of
bytes_below [] i = omega arith
bytes_below (x ∷ l) zero = bits_below x 7 0
bytes_below (x ∷ l) (suc zero) = bits_below x 15 8
bytes_below (x ∷ l) (suc (suc zero)) = bits_below x 23 16
bytes_below (x ∷ l) (suc (suc (suc zero))) = bits_below x 31 24
bytes_below (x ∷ l) (suc (suc (suc (suc i)))) = bytes_below l i

-- a dword of its four bytes
pub of_bytes : (d : ℕ) → d < 2 ^ 32 → bits d 7 0 + 256 * (bits d 15 8 + 256 * (bits d 23 16 + 256 * bits d 31 24)) ≡ d
of_bytes d h =
    let e0 : bits d 7 0 ≡ d % 256 = lowest d 7 in
    let e2 : d / 65536 ≡ d / 256 / 256 = sym (div-div-eq-div-mul d 256 256) in
    let e3 : d / 16777216 ≡ d / 256 / 256 / 256 = sym (div-div-eq-div-mul (d / 256) 256 256 ∙ div-div-eq-div-mul d 256 65536) in
    rw (e0, e2, e3) (omega arith)

-- ---- the dwords of bytes, n of them from byte i on
unfoldable pub dwords_up : ℕ → ℕ → List ℕ → List ℕ
dwords_up zero i t = []
dwords_up (suc n) i t = le32 t i ∷ dwords_up n (i + 4) t

module _ (a b c d : ℕ) (ha : a < 256) (hb : b < 256) (hc : c < 256) (hd : d < 256) where
  byte_0 : bits (a + 256 * (b + 256 * (c + 256 * d))) 7 0 ≡ a
  byte_0 = omega arith

  byte_1 : bits (a + 256 * (b + 256 * (c + 256 * d))) 15 8 ≡ b
  byte_1 = omega arith

  byte_2 : bits (a + 256 * (b + 256 * (c + 256 * d))) 23 16 ≡ c
  byte_2 = omega arith

  byte_3 : bits (a + 256 * (b + 256 * (c + 256 * d))) 31 24 ≡ d
  byte_3 = omega arith

-- four bytes of a list
four_bytes : (t : List ℕ) (i : ℕ) → i + 3 < length t
    → drop i t ≡ get_or t i 0 ∷ get_or t (i + 1) 0 ∷ get_or t (i + 2) 0 ∷ get_or t (i + 3) 0 ∷ drop (i + 4) t
four_bytes t i h =
    let e1 : i + 1 ≡ suc i = omega arith in
    let e2 : i + 2 ≡ suc (suc i) = omega arith in
    let e3 : i + 3 ≡ suc (suc (suc i)) = omega arith in
    let e4 : i + 4 ≡ suc (suc (suc (suc i))) = omega arith in
    rw (e1, e2, e3, e4)
    (drop-cons t i 0 (omega arith)
    ∙ ap (λ (r : List ℕ). get_or t i 0 ∷ r) (drop-cons t (suc i) 0 (omega arith))
    ∙ ap (λ (r : List ℕ). get_or t i 0 ∷ get_or t (suc i) 0 ∷ r) (drop-cons t (suc (suc i)) 0 (omega arith))
    ∙ ap (λ (r : List ℕ). get_or t i 0 ∷ get_or t (suc i) 0 ∷ get_or t (suc (suc i)) 0 ∷ r) (drop-cons t (suc (suc (suc i))) 0 (omega arith)))

-- they are the bytes again
pub bytes_up : (n i : ℕ) (t : List ℕ) → ((j : ℕ) → get_or t j 0 < 256) → length t ≡ i + 4 * n → bytes_of (dwords_up n i t) ≡ drop i t
unfolding bytes_of dwords_up le32
bytes_up zero i t f h = let past : length t ≤ i = omega arith in sym (drop_of_length-le t past)
bytes_up (suc n) i t f h =
    let a = get_or t i 0 in
    let b = get_or t (i + 1) 0 in
    let c = get_or t (i + 2) 0 in
    let d = get_or t (i + 3) 0 in
    rw (← byte_in t i (omega arith), ← byte_in t (i + 1) (omega arith), ← byte_in t (i + 2) (omega arith), ← byte_in t (i + 3) (omega arith))
    ((λ k.
    byte_0 a b c d (f i) (f (i + 1)) (f (i + 2)) (f (i + 3)) k
    ∷ byte_1 a b c d (f i) (f (i + 1)) (f (i + 2)) (f (i + 3)) k
    ∷ byte_2 a b c d (f i) (f (i + 1)) (f (i + 2)) (f (i + 3)) k
    ∷ byte_3 a b c d (f i) (f (i + 1)) (f (i + 2)) (f (i + 3)) k
    ∷ bytes_up n (i + 4) t f (omega arith) k)
    ∙ sym (four_bytes t i (omega arith)))

-- ---- a buffer whose front has the bytes of the first i dwords

-- the bytes of a dword, as the code gives them
pub four_of : (d : ℕ) → bytes_of (d ∷ []) ≡ to_le_bytes w32 d
unfolding bytes_of
four_of d = rw lowest refl

bytes_joined : (a b : List ℕ) → bytes_of (a ++ b) ≡ bytes_of a ++ bytes_of b
unfolding bytes_of
bytes_joined [] b = refl
bytes_joined (x ∷ a) b = ap (λ (l : List ℕ). bits x 7 0 ∷ bits x 15 8 ∷ bits x 23 16 ∷ bits x 31 24 ∷ l) (bytes_joined a b)

bytes_more : (w : List ℕ) (i : ℕ) → i < length w → bytes_of (take (i + 1) w) ≡ bytes_of (take i w) ++ bytes_of (get_or w i 0 ∷ [])
bytes_more w i h =
    let e : i + 1 ≡ suc i = omega arith in
    rw (e, take-suc w i 0 h) (bytes_joined (take i w) (get_or w i 0 ∷ []))

-- after one more
pub store_more : (w room ys : List ℕ) (i k : ℕ) → i < length w → k ≡ 4 → ys ≡ bytes_of (get_or w i 0 ∷ [])
    → put_mid (4 * i) k (bytes_of (take i w) ++ drop (4 * i) room) ys ≡ bytes_of (take (i + 1) w) ++ drop (4 * (i + 1)) room
store_more w room ys i k h four e =
    let front = bytes_of (take i w) in
    let n : length front ≡ 4 * i = omega (arith, length_bytes (take i w), length-take-le i w (omega arith)) in
    let past : 4 * (i + 1) ≡ 4 * i + 4 = omega arith in
    rw (four, e, take_at front (drop (4 * i) room) (4 * i) n, drop_at front (drop (4 * i) room) (4 * i) n, bytes_more w i h, past, drop-drop 4 (4 * i) room, append_assoc)
