-- Bytes written in parts that keep to the driver's pages are one write: the part never wraps.
use mathlib.Core.Path.{◌≡◌, sym, ap, ap₂, ◌∙◌, fun_ext}
use mathlib.Core.Logic.{⊎_elim}
use mathlib.Core.List.{List, [], ◌∷◌}
use Prim.Native.Nat.{ℕ, zero, suc, ◌+◌, ◌-◌, ◌*◌, ◌/◌, ◌%◌, ◌≤◌, ◌<◌}
use native.Mathlib.Omega.{arith}
use native.Mathlib.Nat.{mod-lt, mod-eq_of_lt, div-add-mod', mul-mod_left}
use lib.Arith.{digits_mod}
use lib.Bits.{bit_and}
use lib.ListN.{length, get_or, take, drop, length-drop}
use lib.Seq.{length-take-le, drop-drop, take-add}
use borrow.Author.Tests.{eq-eqb, ne_eqb}
use Rattle.erase_plan.specs.Good.{Mult}
use Rattle.erase_plan.proofs.Lists.{lt_or_le}
use Rattle.erase_plan.proofs.Multiples.{mult_trans}
use Rattle.commands.specs.Transactions.{to_page_end, parts_in, parts, bytes_of}
use Rattle.commands.specs.Transactions as Cut
use Rattle.commands.proofs.Parts.{in_more, in_done}
use Rattle.nor_model.specs.Device.{Part, cell, onward, and_at, programmed}
use Rattle.nor_model.specs.Replay.{cleared}
use Rattle.nor_model.proofs.Memory.{Mem, cleared_in, cleared_below, cleared_above, cleared_nil, cleared_append}

-- ---- one byte
and_one : (c x : ℕ) (m : Mem) → and_at c x m ≡ cleared c (x ∷ []) m
unfolding and_at
and_one c x m = fun_ext (λ i. ⊎_elim (λ (h : i < c). other i (λ e. omega arith) ∙ sym (cleared_below c (x ∷ []) m i h)) (λ (h : c ≤ i). ⊎_elim (here i h) (above i) (lt_or_le i (c + 1))) (lt_or_le i c))
  where
    other : (i : ℕ) → (i ≡ c → ⊥) → and_at c x m i ≡ m i
    other i h = rw (ne_eqb i c h)

    above : (i : ℕ) → c + 1 ≤ i → and_at c x m i ≡ cleared c (x ∷ []) m i
    above i h = other i (λ e. omega arith) ∙ sym (cleared_above c (x ∷ []) m i h)

    here : (i : ℕ) → c ≤ i → i < c + 1 → and_at c x m i ≡ cleared c (x ∷ []) m i
    here i h k =
        let e : i - c ≡ 0 = omega arith in
        rw (eq-eqb i c (omega arith)) (sym (cleared_in c (x ∷ []) m i h k ∙ ap (λ (j : ℕ). bit_and (m i) (get_or (x ∷ []) j 255)) e))

-- ---- a write that meets no page start but at its first byte
abbrev pub NoWrap : ℕ → ℕ → ℕ → Type 0
NoWrap page a n = (j : ℕ) → 0 < j → j < n → 0 < (a + j) % page

onward_up : (page a : ℕ) → 0 < (a + 1) % page → onward page a ≡ suc a
unfolding onward
onward_up page a h =
    let e : a + 1 ≡ suc a = omega arith in
    rw (ne_eqb (suc a % page) 0 (λ z. omega (arith, ap (λ (x : ℕ). x % page) e)))

pub program_fits : (p : Part) (a : ℕ) (d : List ℕ) (m : Mem) → a + length d ≤ p.capacity → NoWrap p.page a (length d) → programmed p a d m ≡ cleared a d m
unfolding programmed
program_fits p a [] m h k = sym (cleared_nil a m)
program_fits p a (x ∷ []) m h k = ap (λ (c : ℕ). and_at c x m) (mod-eq_of_lt (omega arith)) ∙ and_one a x m
program_fits p a (x ∷ y ∷ d) m h k =
    let c : cell p a ≡ a = mod-eq_of_lt (omega arith) in
    ap₂ (λ (b : ℕ) (f : Mem). programmed p b (y ∷ d) f) (onward_up p.page a (k 1 (omega arith) (omega arith))) (ap (λ (b : ℕ). and_at b x m) c ∙ and_one a x m)
    ∙ program_fits p (suc a) (y ∷ d) (cleared a (x ∷ []) m) (omega arith) later
    ∙ ap (λ (b : ℕ). cleared b (y ∷ d) (cleared a (x ∷ []) m)) (omega arith)
    ∙ sym (cleared_append a (x ∷ []) (y ∷ d) m)
  where
    later : NoWrap p.page (suc a) (length (y ∷ d))
    later j g l =
        let e : a + suc j ≡ suc a + j = omega arith in
        omega (arith, k (suc j) (omega arith) (omega arith), ap (λ (z : ℕ). z % p.page) e)

-- ---- a page of the driver divides one of the part
no_remainder : (page x : ℕ) → x % page ≡ 0 → Mult page x
no_remainder page x h = record { q = x / page; is = omega (arith, div-add-mod' x page) }

remainder_none : (page x : ℕ) → Mult page x → x % page ≡ 0
remainder_none page x h = ap (λ (y : ℕ). y % page) h.is ∙ mul-mod_left h.q page

pub no_wrap : (page device a n : ℕ) → 0 < page → Mult page device → a % page + n ≤ page → NoWrap device a n
no_wrap page device a n p h k j l g =
    ⊎_elim (λ (z : 0 < (a + j) % device). z)
    (λ (z : (a + j) % device ≤ 0).
    let e : a + j ≡ a / page * page + (a % page + j) = omega (arith, div-add-mod' a page) in
    let r : (a + j) % page ≡ a % page + j = ap (λ (x : ℕ). x % page) e ∙ digits_mod (a / page) (omega arith) in
    absurd (omega (arith, r, remainder_none page (a + j) (mult_trans h (no_remainder device (a + j) (omega arith))))))
    (lt_or_le 0 ((a + j) % device))

-- ---- the parts, one after another
unfoldable pub all : {X : Type 0} → (X → Mem → Mem) → List X → Mem → Mem
all f [] m = m
all f (x ∷ xs) m = all f xs (f x m)

-- what a part does: of the bytes l for address a
abbrev pub written : Part → ℕ → List ℕ → Cut.Part → Mem → Mem
written p a l x m = programmed p (a + x.off) (bytes_of l x) m

module _ (p : Part) (page : ℕ) (some : 0 < page) (divides : Mult page p.page) (a : ℕ) (l : List ℕ) (n : ℕ) (long : n ≤ length l) (fits : a + n ≤ p.capacity) where
  -- one part
  part_one : (off : ℕ) (m : Mem) → off < n
      → written p a l (record { off = off; len = to_page_end page a off n }) m ≡ cleared (a + off) (take (to_page_end page a off n) (drop off l)) m
  unfolding to_page_end
  part_one off m h =
      let k : ℕ = to_page_end page a off n in
      let e : length (take k (drop off l)) ≡ k = length-take-le k (drop off l) (simp length-drop (omega arith)) in
      program_fits p (a + off) (take k (drop off l)) m (rw e (omega arith))
      (no_wrap page p.page (a + off) (length (take k (drop off l))) some divides (rw e (omega (arith, mod-lt (a + off) some))))

  -- one part, then the others
  part_glue : (off k : ℕ) (m : Mem) → off + k ≤ n
      → cleared (a + (off + k)) (take (n - (off + k)) (drop (off + k) l)) (cleared (a + off) (take k (drop off l)) m)
      ≡ cleared (a + off) (take (n - off) (drop off l)) m
  part_glue off k m h =
      let D : List ℕ = drop off l in
      let r : ℕ = n - (off + k) in
      let e : length (take k D) ≡ k = length-take-le k D (simp length-drop (omega arith)) in
      let b : a + (off + k) ≡ a + off + length (take k D) = omega arith in
      let s : k + r ≡ n - off = omega arith in
      ap₂ (λ (x : ℕ) (y : List ℕ). cleared x (take r y) (cleared (a + off) (take k D) m)) b (sym (drop-drop k off l))
      ∙ sym (cleared_append (a + off) (take k D) (take r (drop k D)) m)
      ∙ ap (λ (y : List ℕ). cleared (a + off) y m) (sym (take-add k r D) ∙ ap (λ (x : ℕ). take x D) s)

  none_left : (f off : ℕ) (m : Mem) → n ≤ off → all (written p a l) (parts_in f page a off n) m ≡ cleared (a + off) (take (n - off) (drop off l)) m
  unfolding all
  none_left f off m h =
      let z : n - off ≡ 0 = omega arith in
      rw (in_done f page a off n h, z) (sym (cleared_nil (a + off) m))

  to_some : (off : ℕ) → off < n → 0 < to_page_end page a off n
  unfolding to_page_end
  to_some off g = omega (arith, mod-lt (a + off) some)

  to_within : (off : ℕ) → off < n → off + to_page_end page a off n ≤ n
  unfolding to_page_end
  to_within off g = omega arith

  in_written : (f off : ℕ) (m : Mem) → n - off ≤ f → all (written p a l) (parts_in f page a off n) m ≡ cleared (a + off) (take (n - off) (drop off l)) m
  unfolding all
  in_written zero off m h = none_left 0 off m (omega arith)
  in_written (suc f) off m h =
      ⊎_elim
      (λ (g : off < n).
      let k : ℕ = to_page_end page a off n in
      rw (in_more f page a off n g)
      (ap (all (written p a l) (parts_in f page a (off + k) n)) (part_one off m g)
      ∙ in_written f (off + k) (cleared (a + off) (take k (drop off l)) m) (omega (arith, to_some off g))
      ∙ part_glue off k m (to_within off g)))
      (none_left (suc f) off m) (lt_or_le off n)

  -- all of them are one write of the first n bytes
  pub parts_written : (m : Mem) → all (written p a l) (parts page a 0 n) m ≡ cleared a (take n l) m
  unfolding parts
  parts_written m =
      let e : a + 0 ≡ a = omega arith in
      let z : n - 0 ≡ n = omega arith in
      in_written (n - 0) 0 m (omega arith) ∙ ap₂ (λ (x k : ℕ). cleared x (take k l) m) e z
