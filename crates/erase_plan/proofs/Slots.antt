-- The four slots: a type put in its place, and what they hold.
use Rattle.std.proofs.Common.{◌≡◌, ℕ, zero, suc, ◌+◌, ◌<◌, ◌≤◌, Bool, true, false, cond, ◌||◌, eqb, List, [], ◌∷◌, ◌++◌, flat_map, length, get_or, set, take, drop, sym, refl, ap, ◌∙◌, ⊎_elim, append_assoc, append-nil, arith, length-append, ne_eqb}
use lib.Seq.{drop-set-lt}
use Rattle.std.proofs.lemmas.List.{take_all, drop_all, take_more, take_more_set, drop_more, set-get_or}
use Rattle.erase_plan.specs.declared.EraseType.{EraseType}
use Rattle.erase_plan.specs.declared.EraseTypes.{EraseTypes}
use Rattle.erase_plan.specs.Types.{no_type, kept, present, in_order, insert, sort, slots, four_of, sorted_of}
use Rattle.erase_plan.specs.Words.{Each}
use Rattle.erase_plan.specs.Good.{Present, Sorted}
use Rattle.erase_plan.proofs.Lists.{by_cond}
use Rattle.std.proofs.lemmas.Bool.{cases_Bool}
use Rattle.erase_plan.proofs.Ordering.{kept_none, kept_one, present_present, sort_each, sort_sorted, sort_length}

-- ---- a type put among slots: it goes before the first that is empty or that the order allows, and each slot from there on moves one further
abbrev pub goes : EraseType → EraseType → Bool
goes t u = eqb u.size 0 || in_order t u

unfoldable pub put : EraseType → List EraseType → List EraseType
put t [] = []
put t (u ∷ us) = cond (goes t u) (t ∷ put u us) (u ∷ put t us)

-- one slot further: a type goes there, or the slot stays as it is
module _ (t : EraseType) (l : List EraseType) (i : ℕ) (h : i < length l) where
  pub put_taken : goes t (get_or l i no_type) ≡ true
      → take (i + 1) (set l i t) ++ put (get_or l i no_type) (drop (i + 1) (set l i t)) ≡ take i l ++ put t (drop i l)
  unfolding put
  put_taken e =
      rw (take_more_set l i t h, drop_more l i no_type h, drop-set-lt (i + 1) l i t (omega arith), e)
      (append_assoc (take i l) (t ∷ []) (put (get_or l i no_type) (drop (i + 1) l)))

  pub put_passed : goes t (get_or l i no_type) ≡ false
      → take (i + 1) (set l i (get_or l i no_type)) ++ put t (drop (i + 1) (set l i (get_or l i no_type))) ≡ take i l ++ put t (drop i l)
  unfolding put
  put_passed e =
      rw (set-get_or l i no_type, take_more l i no_type h, drop_more l i no_type h, e)
      (append_assoc (take i l) (get_or l i no_type ∷ []) (put t (drop (i + 1) l)))

pub put_all : (t : EraseType) (l : List EraseType) (i : ℕ) → length l ≤ i → take i l ++ put t (drop i l) ≡ l
unfolding put
put_all t l i h = rw (take_all i l h, drop_all i l h) (append-nil l)

-- so many slots, with the types of a list, the missing ones last
unfoldable pub padded : ℕ → List EraseType → List EraseType
padded zero l = []
padded (suc n) [] = no_type ∷ padded n []
padded (suc n) (t ∷ l) = t ∷ padded n l

slots_padded : (l : List EraseType) → (slots l).slots ≡ padded 4 l
unfolding slots padded
slots_padded [] = refl
slots_padded (a ∷ []) = refl
slots_padded (a ∷ b ∷ []) = refl
slots_padded (a ∷ b ∷ c ∷ []) = refl
slots_padded (a ∷ b ∷ c ∷ d ∷ l) = refl

put_empty : (n : ℕ) → put no_type (padded n []) ≡ padded n []
unfolding put padded
put_empty zero = refl
put_empty (suc n) = ap (λ (l : List EraseType). no_type ∷ l) (put_empty n)

-- a type that stands before a sorted list stays there
insert_first : (u : EraseType) (us : List EraseType) → Sorted (u ∷ us) → insert u us ≡ u ∷ us
unfolding insert
insert_first u [] s = refl
insert_first u (v ∷ us) s = rw s.0.0

put_padded : (n : ℕ) (t : EraseType) (l : List EraseType) → Each Present l → Sorted l → put t (padded n l) ≡ padded n (insert t l)
unfolding put padded insert
put_padded zero t l p s = refl
put_padded (suc n) t [] p s = ap (λ (l : List EraseType). t ∷ l) (put_empty n)
put_padded (suc n) t (u ∷ us) p s =
    let n0 : eqb u.size 0 ≡ false = ne_eqb u.size 0 (λ e. omega (arith, p.0)) in
    ⊎_elim
    (λ (o : in_order t u ≡ true).
    let q : put u (padded n us) ≡ padded n (u ∷ us) = put_padded n u us p.1 s.1 ∙ ap (padded n) (insert_first u us s) in
    rw (n0, o) (ap (λ (l : List EraseType). t ∷ l) q))
    (λ (o : in_order t u ≡ false). rw (n0, o) (ap (λ (l : List EraseType). u ∷ l) (put_padded n t us p.1 s.1)))
    (cases_Bool (in_order t u))

-- ---- where the slots are a sorted list, a type put in its place makes them the list sorted with it
pub put_none : (t : EraseType) (l : List EraseType) → t.size ≡ 0 → slots (sort l) ≡ slots (sort (kept t ++ l))
put_none t l z = rw (kept_none t z)

pub put_one : (t : EraseType) (l : List EraseType) → (t.size ≡ 0 → ⊥) → Each Present l → (ts : EraseTypes) → ts ≡ slots (sort l)
    → ◌≡◌ {A = EraseTypes} (record { slots = put t ts.slots }) (slots (sort (kept t ++ l)))
unfolding sort
put_one t l z p ts e =
    let r : put t ts.slots ≡ (slots (insert t (sort l))).slots =
    rw e (ap (put t) (slots_padded (sort l)) ∙ put_padded 4 t (sort l) (sort_each Present l p) (sort_sorted l) ∙ sym (slots_padded (insert t (sort l)))) in
    let k : sort (kept t ++ l) ≡ insert t (sort l) = rw (kept_one t z) in
    ap (λ (x : List EraseType). make x) r ∙ ap slots (sym k)
  where
    make : List EraseType → EraseTypes
    make x = record { slots = x }

pub slots_none : four_of no_type no_type no_type no_type ≡ slots (sort [])
unfolding slots sort
slots_none = refl

-- ---- four slots hold up to four types
kept_here : (t : EraseType) → Present t → kept t ≡ t ∷ []
kept_here t p = kept_one t (λ e. omega arith)

kept_no : kept no_type ≡ []
kept_no = kept_none no_type refl

pub present_slots : (l : List EraseType) → Each Present l → length l ≤ 4 → present (slots l) ≡ l
unfolding present slots
present_slots [] p h = rw kept_no
present_slots (a ∷ []) p h = rw (kept_here a p.0, kept_no)
present_slots (a ∷ b ∷ []) p h = rw (kept_here a p.0, kept_here b p.1.0, kept_no)
present_slots (a ∷ b ∷ c ∷ []) p h = rw (kept_here a p.0, kept_here b p.1.0, kept_here c p.1.1.0, kept_no)
present_slots (a ∷ b ∷ c ∷ d ∷ []) p h = rw (kept_here a p.0, kept_here b p.1.0, kept_here c p.1.1.0, kept_here d p.1.1.1.0)
present_slots (a ∷ b ∷ c ∷ d ∷ e ∷ l) p h = absurd (omega arith)

kept_length : (t : EraseType) → length (kept t) ≤ 1
unfolding kept
kept_length t = by_cond (λ (l : List EraseType). length l ≤ 1) (eqb t.size 0) [] (t ∷ []) (λ _. omega arith) (λ _. omega arith)

all_length : (l : List EraseType) → length (flat_map kept l) ≤ length l
all_length [] = omega arith
all_length (t ∷ l) = omega (arith, length-append (kept t) (flat_map kept l), kept_length t, all_length l)

pub present_length : (ts : EraseTypes) → length (present ts) ≤ length ts.slots
unfolding present
present_length ts = all_length ts.slots

-- the types of sorted slots are the types of the slots, sorted
pub sorted_present : (a b c d : EraseType) → present (sorted_of a b c d) ≡ sort (present (four_of a b c d))
unfolding sorted_of
sorted_present a b c d =
    let l = present (four_of a b c d) in
    present_slots (sort l) (sort_each Present l (present_present (four_of a b c d)))
    (omega (arith, sort_length l, present_length (four_of a b c d)))
