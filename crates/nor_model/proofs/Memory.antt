-- Memory: ranges set to FF, data laid over, bits cleared.
use mathlib.Core.Path.{◌≡◌, refl, sym, ap, ap₂, ◌∙◌, fun_ext}
use mathlib.Core.Bool.{true, false, cond, and-false}
use mathlib.Core.Logic.{⊎_elim}
use mathlib.Core.List.{List, [], ◌∷◌, ◌++◌}
use Prim.Native.Nat.{ℕ, zero, suc, ◌+◌, ◌-◌, ◌≤◌, ◌<◌}
use native.Mathlib.Omega.{arith}
use native.Mathlib.Nat.{mod-eq_of_lt}
use lib.Bits.{bit_and, and_comm, and_mask, and_le_l}
use lib.Dec.{leb}
use lib.ListN.{length, get_or, length-append, get_or-append}
use lib.Seq.{get_or-append-add}
use borrow.Author.Tests.{le-leb, lt-leb, lt-ltb, le-ltb}
use Rattle.erase_plan.specs.Good.{Each}
use Rattle.erase_plan.proofs.Lists.{lt_or_le, by_cond}
use Rattle.nor_model.specs.Device.{bytes_from}
use Rattle.nor_model.specs.Replay.{among, laid_over, set_to_ff, cleared}

abbrev pub Mem : Type 0
Mem = ℕ → ℕ

abbrev pub Byte : ℕ → Type 0
Byte x = x < 256

-- a memory of bytes
pub record Bytes (m : Mem) : Type 0 where
  pub below : (i : ℕ) → m i < 256

-- ---- AND on bytes
pub 255-and : (b : ℕ) → b < 256 → bit_and 255 b ≡ b
255-and b h = and_comm 255 b ∙ and_mask b 8 ∙ mod-eq_of_lt h

-- ---- a range of addresses
among_in : (a n i : ℕ) → a ≤ i → i < a + n → among a n i ≡ true
among_in a n i h k = rw (le-leb a i h, lt-ltb i (a + n) k)

among_below : (a n i : ℕ) → i < a → among a n i ≡ false
among_below a n i h = rw (lt-leb a i h)

among_above : (a n i : ℕ) → a + n ≤ i → among a n i ≡ false
among_above a n i h = rw (le-ltb i (a + n) h) (and-false (leb a i))

-- the places of an address: before a range, in it, behind it
pub by_place : (P : Type 0) (a n i : ℕ) → (i < a → P) → (a ≤ i → i < a + n → P) → (a + n ≤ i → P) → P
by_place P a n i f g h = ⊎_elim f (λ (k : a ≤ i). ⊎_elim (g k) h (lt_or_le i (a + n))) (lt_or_le i a)

-- ---- a range set to FF
module _ (a n : ℕ) (m : Mem) (i : ℕ) where
  pub ff_in : a ≤ i → i < a + n → set_to_ff a n m i ≡ 255
  unfolding set_to_ff
  ff_in h k = rw (among_in a n i h k)

  pub ff_below : i < a → set_to_ff a n m i ≡ m i
  unfolding set_to_ff
  ff_below h = rw (among_below a n i h)

  pub ff_above : a + n ≤ i → set_to_ff a n m i ≡ m i
  unfolding set_to_ff
  ff_above h = rw (among_above a n i h)

-- two ranges that meet are one
pub ff_join : (a n k : ℕ) (m : Mem) → set_to_ff (a + n) k (set_to_ff a n m) ≡ set_to_ff a (n + k) m
ff_join a n k m = fun_ext (λ i. go i)
  where
    go : (i : ℕ) → set_to_ff (a + n) k (set_to_ff a n m) i ≡ set_to_ff a (n + k) m i
    go i =
        by_place _ a n i
        (λ h. ff_below (a + n) k (set_to_ff a n m) i (omega arith) ∙ ff_below a n m i h ∙ sym (ff_below a (n + k) m i h))
        (λ h l. ff_below (a + n) k (set_to_ff a n m) i l ∙ ff_in a n m i h l ∙ sym (ff_in a (n + k) m i h (omega arith)))
        (λ h. ⊎_elim
        (λ (l : i < a + n + k). ff_in (a + n) k (set_to_ff a n m) i h l ∙ sym (ff_in a (n + k) m i (omega arith) (omega arith)))
        (λ (l : a + n + k ≤ i). ff_above (a + n) k (set_to_ff a n m) i l ∙ ff_above a n m i h ∙ sym (ff_above a (n + k) m i (omega arith)))
        (lt_or_le i (a + n + k)))

-- ---- bytes joined by g with what stands there
unfoldable pub joined_by : (ℕ → ℕ → ℕ) → ℕ → List ℕ → Mem → Mem
joined_by g a d m i = cond (among a (length d) i) (g (m i) (get_or d (i - a) 255)) (m i)

module _ (g : ℕ → ℕ → ℕ) (a : ℕ) (d : List ℕ) (m : Mem) (i : ℕ) where
  by_in : a ≤ i → i < a + length d → joined_by g a d m i ≡ g (m i) (get_or d (i - a) 255)
  unfolding joined_by
  by_in h k = rw (among_in a (length d) i h k)

  by_below : i < a → joined_by g a d m i ≡ m i
  unfolding joined_by
  by_below h = rw (among_below a (length d) i h)

  by_above : a + length d ≤ i → joined_by g a d m i ≡ m i
  unfolding joined_by
  by_above h = rw (among_above a (length d) i h)

-- a byte of joined lists
get_or_first : (x y : List ℕ) (a i : ℕ) → a ≤ i → i < a + length x → get_or (x ++ y) (i - a) 255 ≡ get_or x (i - a) 255
get_or_first x y a i h k = let q : i - a < length x = omega arith in get_or-append x y 255 (i - a) q

get_or_second : (x y : List ℕ) (a i : ℕ) → a + length x ≤ i → get_or (x ++ y) (i - a) 255 ≡ get_or y (i - (a + length x)) 255
get_or_second x y a i h =
    let q : i - a ≡ length x + (i - (a + length x)) = omega arith in
    ap (λ (j : ℕ). get_or (x ++ y) j 255) q ∙ get_or-append-add x y (i - (a + length x)) 255

-- lists that follow one another are one
by_append : (g : ℕ → ℕ → ℕ) (a : ℕ) (x y : List ℕ) (m : Mem) → joined_by g a (x ++ y) m ≡ joined_by g (a + length x) y (joined_by g a x m)
by_append g a x y m = fun_ext (λ i. go i)
  where
    both : length (x ++ y) ≡ length x + length y
    both = length-append x y

    go : (i : ℕ) → joined_by g a (x ++ y) m i ≡ joined_by g (a + length x) y (joined_by g a x m) i
    go i =
        by_place _ a (length x) i
        (λ h. by_below g a (x ++ y) m i h ∙ sym (by_below g (a + length x) y (joined_by g a x m) i (omega arith) ∙ by_below g a x m i h))
        (λ h l. by_in g a (x ++ y) m i h (omega (arith, both)) ∙ ap (g (m i)) (get_or_first x y a i h l)
        ∙ sym (by_below g (a + length x) y (joined_by g a x m) i l ∙ by_in g a x m i h l))
        (λ h. ⊎_elim
        (λ (l : i < a + length x + length y). by_in g a (x ++ y) m i (omega arith) (omega (arith, both)) ∙ ap (g (m i)) (get_or_second x y a i h)
        ∙ sym (by_in g (a + length x) y (joined_by g a x m) i h l
        ∙ ap (λ (z : ℕ). g z (get_or y (i - (a + length x)) 255)) (by_above g a x m i h)))
        (λ (l : a + length x + length y ≤ i). by_above g a (x ++ y) m i (omega (arith, both))
        ∙ sym (by_above g (a + length x) y (joined_by g a x m) i l ∙ by_above g a x m i h))
        (lt_or_le i (a + length x + length y)))

-- ---- data laid over; bits cleared
abbrev over : ℕ → ℕ → ℕ
over x y = y

module _ (a : ℕ) (d : List ℕ) (m : Mem) (i : ℕ) where
  pub laid_in : a ≤ i → i < a + length d → laid_over a d m i ≡ get_or d (i - a) 255
  unfolding laid_over joined_by
  laid_in = by_in over a d m i

  pub laid_below : i < a → laid_over a d m i ≡ m i
  unfolding laid_over joined_by
  laid_below = by_below over a d m i

  pub laid_above : a + length d ≤ i → laid_over a d m i ≡ m i
  unfolding laid_over joined_by
  laid_above = by_above over a d m i

  pub cleared_in : a ≤ i → i < a + length d → cleared a d m i ≡ bit_and (m i) (get_or d (i - a) 255)
  unfolding cleared joined_by
  cleared_in = by_in bit_and a d m i

  pub cleared_below : i < a → cleared a d m i ≡ m i
  unfolding cleared joined_by
  cleared_below = by_below bit_and a d m i

  pub cleared_above : a + length d ≤ i → cleared a d m i ≡ m i
  unfolding cleared joined_by
  cleared_above = by_above bit_and a d m i

pub laid_append : (a : ℕ) (x y : List ℕ) (m : Mem) → laid_over a (x ++ y) m ≡ laid_over (a + length x) y (laid_over a x m)
unfolding laid_over joined_by
laid_append a x y m = by_append over a x y m

pub cleared_append : (a : ℕ) (x y : List ℕ) (m : Mem) → cleared a (x ++ y) m ≡ cleared (a + length x) y (cleared a x m)
unfolding cleared joined_by
cleared_append a x y m = by_append bit_and a x y m

pub cleared_nil : (a : ℕ) (m : Mem) → cleared a [] m ≡ m
cleared_nil a m = fun_ext (λ i. ⊎_elim (λ (h : i < a). cleared_below a [] m i h) (λ (h : a ≤ i). cleared_above a [] m i (omega arith)) (lt_or_le i a))

-- ---- bytes read
pub length_from : (m : Mem) (a n : ℕ) → length (bytes_from m a n) ≡ n
unfolding bytes_from
length_from m a zero = refl
length_from m a (suc n) = ap suc (length_from m (suc a) n)

pub get_or_from : (m : Mem) (a n k : ℕ) → k < n → get_or (bytes_from m a n) k 255 ≡ m (a + k)
unfolding bytes_from
get_or_from m a zero k h = absurd (omega arith)
get_or_from m a (suc n) zero h = ap m (omega arith)
get_or_from m a (suc n) (suc k) h = get_or_from m (suc a) n k (omega arith) ∙ ap m (omega arith)

pub from_agree : (m m' : Mem) (a n : ℕ) → ((i : ℕ) → a ≤ i → i < a + n → m i ≡ m' i) → bytes_from m a n ≡ bytes_from m' a n
unfolding bytes_from
from_agree m m' a zero h = refl
from_agree m m' a (suc n) h =
    ap₂ ◌∷◌ (h a (omega arith) (omega arith)) (from_agree m m' (suc a) n (λ i k l. h i (omega arith) (omega arith)))

-- bytes that stand there are read
pub from_is : (m : Mem) (a : ℕ) (d : List ℕ) → ((k : ℕ) → k < length d → m (a + k) ≡ get_or d k 255) → bytes_from m a (length d) ≡ d
unfolding bytes_from
from_is m a [] h = refl
from_is m a (x ∷ d) h =
    ap₂ ◌∷◌ (ap m (omega arith) ∙ h 0 (omega arith)) (from_is m (suc a) d (λ k l. ap m (omega arith) ∙ h (suc k) (omega arith)))

pub from_laid : (a : ℕ) (d : List ℕ) (m : Mem) → bytes_from (laid_over a d m) a (length d) ≡ d
from_laid a d m =
    from_is (laid_over a d m) a d
    (λ k h. laid_in a d m (a + k) (omega arith) (omega arith) ∙ ap (λ (j : ℕ). get_or d j 255) (omega arith))

-- bytes that stand there already, laid over
pub laid_same : (m m' : Mem) (a n : ℕ) → ((i : ℕ) → a ≤ i → i < a + n → m' i ≡ m i) → laid_over a (bytes_from m a n) m' ≡ m'
laid_same m m' a n h = fun_ext (λ i. go i)
  where
    long : length (bytes_from m a n) ≡ n
    long = length_from m a n

    go : (i : ℕ) → laid_over a (bytes_from m a n) m' i ≡ m' i
    go i =
        by_place _ a n i (λ k. laid_below a (bytes_from m a n) m' i k)
        (λ k l. laid_in a (bytes_from m a n) m' i k (omega (arith, long)) ∙ get_or_from m a n (i - a) (omega arith) ∙ ap m (omega arith) ∙ sym (h i k l))
        (λ k. laid_above a (bytes_from m a n) m' i (omega (arith, long)))

-- ---- bytes stay bytes
pub each_get_or : (l : List ℕ) → Each Byte l → (k : ℕ) → get_or l k 255 < 256
each_get_or [] h k = omega arith
each_get_or (x ∷ l) h zero = h.0
each_get_or (x ∷ l) h (suc k) = each_get_or l h.1 k

pub each_from : (m : Mem) → Bytes m → (a n : ℕ) → Each Byte (bytes_from m a n)
unfolding bytes_from
each_from m h a zero = tt
each_from m h a (suc n) = (h.below a, each_from m h (suc a) n)

pub ff_bytes : (a n : ℕ) (m : Mem) → Bytes m → Bytes (set_to_ff a n m)
unfolding set_to_ff
ff_bytes a n m h = record { below = λ i. by_cond Byte (among a n i) 255 (m i) (λ e. omega arith) (λ e. h.below i) }

pub laid_bytes : (a : ℕ) (d : List ℕ) (m : Mem) → Each Byte d → Bytes m → Bytes (laid_over a d m)
unfolding laid_over
laid_bytes a d m b h = record { below = λ i. by_cond Byte (among a (length d) i) (get_or d (i - a) 255) (m i) (λ e. each_get_or d b (i - a)) (λ e. h.below i) }

pub cleared_bytes : (a : ℕ) (d : List ℕ) (m : Mem) → Bytes m → Bytes (cleared a d m)
unfolding cleared
cleared_bytes a d m h =
    record {
      below = λ i. by_cond Byte (among a (length d) i) (bit_and (m i) (get_or d (i - a) 255)) (m i)
          (λ e. omega (arith, h.below i, and_le_l (m i) (get_or d (i - a) 255))) (λ e. h.below i);
    }

-- ---- bytes written into a range that was set to FF are laid over, if what is not written was FF
module _ (base n : ℕ) (d : List ℕ) (m : Mem) (b : Each Byte d) (fits : length d ≤ n) (ff : (i : ℕ) → base + length d ≤ i → i < base + n → m i ≡ 255) where
  pub rewritten : cleared base d (set_to_ff base n m) ≡ laid_over base d m
  rewritten = fun_ext (λ i. go i)
    where
      go : (i : ℕ) → cleared base d (set_to_ff base n m) i ≡ laid_over base d m i
      go i =
          by_place _ base (length d) i
          (λ h. cleared_below base d (set_to_ff base n m) i h ∙ ff_below base n m i h ∙ sym (laid_below base d m i h))
          (λ h l. cleared_in base d (set_to_ff base n m) i h l
          ∙ ap (λ (z : ℕ). bit_and z (get_or d (i - base) 255)) (ff_in base n m i h (omega arith))
          ∙ 255-and (get_or d (i - base) 255) (each_get_or d b (i - base)) ∙ sym (laid_in base d m i h l))
          (λ h. cleared_above base d (set_to_ff base n m) i h
          ∙ ⊎_elim (λ (l : i < base + n). ff_in base n m i (omega arith) l ∙ sym (ff i h l)) (ff_above base n m i) (lt_or_le i (base + n))
          ∙ sym (laid_above base d m i h))

-- data between bytes that stand there already are the data alone
pub restored : (base p q : ℕ) (d : List ℕ) (m : Mem)
    → laid_over base (bytes_from m base p ++ (d ++ bytes_from m (base + p + length d) q)) m ≡ laid_over (base + p) d m
restored base p q d m =
    laid_append base pre (d ++ post) m
    ∙ ap₂ (λ (a : ℕ) (f : Mem). laid_over a (d ++ post) f) here (laid_same m m base p (λ i h k. refl))
    ∙ laid_append (base + p) d post m
    ∙ laid_same m (laid_over (base + p) d m) (base + p + length d) q (λ i h k. laid_above (base + p) d m i h)
  where
    pre : List ℕ
    pre = bytes_from m base p

    post : List ℕ
    post = bytes_from m (base + p + length d) q

    here : base + length pre ≡ base + p
    here = ap (λ (n : ℕ). base + n) (length_from m base p)
