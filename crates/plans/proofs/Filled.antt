-- The entries that a cursor gives, one after the other, are those ahead of it.
use Rattle.std.proofs.Common.{◌≡◌, ℕ, ◌+◌, ◌≤◌, ◌<◌, false, cond, ltb, Option, Some, None, MatchOption, List, [], ◌∷◌, ◌++◌, length, take, set, refl, sym, ap, subst, ◌∙◌, append_assoc, append-nil, length-append, length-set, arith, ltb-true, ltb-false}
use Rattle.std.proofs.lemmas.List.{take_all, take_more_set}
use lib.Seq.{length-take-le}
use Rattle.erase_plan.specs.declared.EraseEntry.{EraseEntry}
use Rattle.erase_plan.specs.declared.NextEntry.{NextEntry}
use Rattle.erase_plan.specs.Types.{present}
use Rattle.erase_plan.specs.Plan.{next_of}
use Rattle.erase_plan.proofs.Lists.{by_cond, no_true}
use Rattle.erase_plan.proofs.Ordering.{present_present}
use Rattle.erase_plan.proofs.Places.{next_on, mark_even}
use Rattle.erase_plan.proofs.Steps.{plan_nothing, plan_entry, plan_done, Unrolled}
use Rattle.plans.specs.Cursors.{ahead, ahead_of, Kept, step_from, step_of, moved}
use Rattle.plans.specs.declared.Cursor.{Cursor}
use Rattle.plans.specs.declared.Step.{Step}

-- the mark of a cursor, if there is one, is true
abbrev pub KeptOf : Option Cursor → Type 0
KeptOf None = Unit {0}
KeptOf (Some c) = Kept c

-- a first entry's cursor has no mark
pub unmarked : (c : Cursor) → c.later ≡ false → Kept c
unmarked c e = record { marked = λ m. no_true (sym e ∙ m) }

-- ---- a step is the first entry ahead and the cursor of the others
pub record Stepped (c : Cursor) (s : Step) : Type 0 where
  pub gives : ahead c ≡ s.entry ∷ ahead_of s.next
  pub kept : KeptOf s.next

module _ (c : Cursor) (k : Kept c) where
  found_step : (x : NextEntry) → next_of (present c.types) c.at (c.last + 1) ≡ Some x
      → Stepped c (record { entry = x.entry; next = cond (ltb x.stop c.last) (Some (moved c (x.stop + 1))) None })
  found_step x f =
      by_cond (λ (o : Option Cursor). Stepped c (record { entry = x.entry; next = o })) (ltb x.stop c.last) (Some (moved c (x.stop + 1))) None
      (λ l. record {
        gives = u.unrolls;
        kept = record {
          marked = λ m.
              let even = mark_even c.types c.later (λ q. (k.marked q).0) m in
              (even, next_on (present c.types) even c.at (c.last + 1) x f (omega (arith, ltb-true x.stop c.last l)));
        };
      })
      (λ l. record {
        gives = u.unrolls ∙ ap (λ (es : List EraseEntry). x.entry ∷ es) (plan_done (present c.types) (x.stop + 1) (c.last + 1) (omega (arith, ltb-false x.stop c.last l)));
        kept = tt;
      })
    where
      u : Unrolled (present c.types) c.at (c.last + 1) x
      u = plan_entry (present c.types) (present_present c.types) c.at (c.last + 1) x f

  some_step : (o : Option NextEntry) → next_of (present c.types) c.at (c.last + 1) ≡ o → (s : Step) → step_from c o ≡ Some s → Stepped c s
  some_step None f s e = cc
  some_step (Some x) f s e = subst (Stepped c) (cc e) (found_step x f)

  pub step_some : (s : Step) → step_of c ≡ Some s → Stepped c s
  unfolding step_of
  step_some s e = some_step (next_of (present c.types) c.at (c.last + 1)) refl s e

  -- a mark stays true
  pub step_kept : (s : Step) → step_of c ≡ Some s → KeptOf s.next
  step_kept s e = (step_some s e).kept

  no_step : (o : Option NextEntry) → next_of (present c.types) c.at (c.last + 1) ≡ o → step_from c o ≡ None → ahead c ≡ []
  no_step None f e = plan_nothing (present c.types) c.at (c.last + 1) f
  no_step (Some x) f e = cc

  pub step_none : step_of c ≡ None → ahead c ≡ []
  unfolding step_of
  step_none e = no_step (next_of (present c.types) c.at (c.last + 1)) refl e

-- the same from a cursor or none
abbrev pub StepsTo : Option Cursor → Option Step → Type 0
StepsTo o r = MatchOption o (r ≡ None) (λ (c : Cursor). Kept c → r ≡ step_of c)

pub steps_some : (o : Option Cursor) (r : Option Step) → KeptOf o → StepsTo o r → (s : Step) → r ≡ Some s → (ahead_of o ≡ s.entry ∷ ahead_of s.next) × KeptOf s.next
steps_some None r k m s e = cc
steps_some (Some c) r k m s e = let z = step_some c k s (sym (m k) ∙ e) in (z.gives, z.kept)

pub steps_none : (o : Option Cursor) (r : Option Step) → KeptOf o → StepsTo o r → r ≡ None → ahead_of o ≡ []
steps_none None r k m e = refl
steps_none (Some c) r k m e = step_none c k (sym (m k) ∙ e)

-- ---- slot by slot
-- so far the slots hold the first entries, and the others are ahead
pub record Filling (es : List EraseEntry) (i : ℕ) (o : Option Cursor) (slots : List EraseEntry) : Type 0 where
  pub long : length slots ≡ length es
  pub same : take i slots ++ ahead_of o ≡ es
  pub kept : KeptOf o

module _ (es : List EraseEntry) (i : ℕ) (o : Option Cursor) (slots : List EraseEntry) (f : Filling es i o slots) (r : Option Step) (m : StepsTo o r) where
  pub fill_more : i < length slots → (s : Step) → r ≡ Some s → Filling es (i + 1) s.next (set slots i s.entry)
  fill_more h s e =
      let z = steps_some o r f.kept m s e in
      record {
        long = length-set slots i s.entry ∙ f.long;
        same =
            ap (λ (l : List EraseEntry). l ++ ahead_of s.next) (take_more_set slots i s.entry h)
            ∙ append_assoc (take i slots) (s.entry ∷ []) (ahead_of s.next)
            ∙ ap (λ (l : List EraseEntry). take i slots ++ l) (sym z.0)
            ∙ f.same;
        kept = z.1;
      }

  -- while a slot is left there is an entry
  pub fill_none : {A : Type 0} → i < length slots → r ≡ None → A
  fill_none h e =
      let z : take i slots ++ [] ≡ es = ap (λ (l : List EraseEntry). take i slots ++ l) (sym (steps_none o r f.kept m e)) ∙ f.same in
      absurd (omega (arith, f.long, ap length z, length-append (take i slots) [], length-take-le i slots))

pub fill_all : (es : List EraseEntry) (i : ℕ) (o : Option Cursor) (slots : List EraseEntry) → Filling es i o slots → length slots ≤ i → slots ≡ es
fill_all es i o slots f h =
    let t : take i slots ≡ slots = take_all i slots h in
    let q : slots ++ ahead_of o ≡ es = ap (λ (l : List EraseEntry). l ++ ahead_of o) (sym t) ∙ f.same in
    let z : length (ahead_of o) ≡ 0 = omega (arith, f.long, ap length q, length-append slots (ahead_of o)) in
    sym (append-nil slots) ∙ ap (λ (l : List EraseEntry). slots ++ l) (sym (nothing (ahead_of o) z)) ∙ q
  where
    nothing : (l : List EraseEntry) → length l ≡ 0 → l ≡ []
    nothing [] e = refl
    nothing (x ∷ l) e = absurd (omega arith)
