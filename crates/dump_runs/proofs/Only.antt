-- There is one list: ascending lists with the same runs are equal.
use Prim.Native.Nat.{ℕ, ◌≤◌, ◌<◌}
use mathlib.Core.Path.{◌≡◌, refl, sym, ap, ◌∙◌}
use mathlib.Core.Logic.{inl, inr, ⊎_elim}
use mathlib.Core.List.{List, [], ◌∷◌}
use native.Mathlib.Omega.{arith}
use Rattle.dump_runs.specs.declared.Run.{Run}
use Rattle.dump_runs.specs.Dumps.{end_of, Common, Tail, In, Ascending, Listed}

-- each run has a byte
abbrev Filled : List Run → Type 0
Filled l = (r : Run) → In r l → 0 < r.len

abbrev Sub : List Run → List Run → Type 0
Sub l m = (r : Run) → In r l → In r m

-- the first runs are the same
heads : (r s : Run) (l m : List Run) → Ascending (r ∷ l) → Ascending (s ∷ m) → Filled (r ∷ l) → Filled (s ∷ m) → In r (s ∷ m) → In s (r ∷ l) → r ≡ s
heads r s l m al am fl fm (inl e) k = e
heads r s l m al am fl fm (inr h) (inl e) = sym e
heads r s l m al am fl fm (inr h) (inr k) =
    let x : end_of s ≤ r.start = am.0 r h in
    let y : end_of r ≤ s.start = al.0 s k in
    let z : 0 < r.len = fl r (inl refl) in
    absurd (omega arith)

-- the rest of the one is in the rest of the other
rests : (r s : Run) (l m : List Run) → r ≡ s → Ascending (r ∷ l) → Filled (r ∷ l) → Sub (r ∷ l) (s ∷ m) → Sub l m
rests r s l m e al fl sub t h =
    ⊎_elim
    (λ (f : t ≡ s).
    let x : end_of r ≤ t.start = al.0 t h in
    let y : 0 < r.len = fl r (inl refl) in
    let z : t.start ≡ r.start = ap (λ (u : Run). u.start) (f ∙ sym e) in
    absurd (omega arith))
    (λ (k : In t m). k)
    (sub t (inr h))

equal : (l m : List Run) → Ascending l → Ascending m → Filled l → Filled m → Sub l m → Sub m l → l ≡ m
equal [] [] al am fl fm lm ml = refl
equal [] (s ∷ m) al am fl fm lm ml = absurd (ml s (inl refl))
equal (r ∷ l) [] al am fl fm lm ml = absurd (lm r (inl refl))
equal (r ∷ l) (s ∷ m) al am fl fm lm ml =
    let e : r ≡ s = heads r s l m al am fl fm (lm r (inl refl)) (ml s (inl refl)) in
    let t : l ≡ m =
    equal l m al.1 am.1 (λ (x : Run) (h : In x l). fl x (inr h)) (λ (x : Run) (h : In x m). fm x (inr h)) (rests r s l m e al fl lm)
    (rests s r m l (sym e) am fm ml) in
    cc

filled : (a b : List ℕ) (l : List Run) → Listed a b l → Filled l
filled a b l h r k = ⊎_elim (λ (c : Common a b r). c.some) (λ (t : Tail a b r). t.some) (h.each r k)

pub only : (a b : List ℕ) (l m : List Run) → Listed a b l → Listed a b m → l ≡ m
only a b l m h k =
    equal l m h.ascending k.ascending (filled a b l h) (filled a b m k) (λ (r : Run) (i : In r l). k.every r (h.each r i))
    (λ (r : Run) (i : In r m). h.every r (k.each r i))
