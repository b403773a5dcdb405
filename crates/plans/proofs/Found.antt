-- What a query comes to: no type, the start of an accepted range's plan, the test of the room.
use Rattle.std.proofs.Common.{Ok, flat_map, ◌==◌}
use Rattle.std.specs.List.{list_all}
use Prim.Native.Nat.{ℕ, ◌+◌, ◌≤◌}
use mathlib.Core.Path.{◌≡◌, refl, ap, ◌∙◌}
use mathlib.Core.Bool.{Bool, true, false, cond, ◌&&◌}
use mathlib.Core.List.{List, [], ◌∷◌}
use native.Mathlib.Omega.{arith}
use lib.Dec.{eqb}
use borrow.Author.Tests.{ne_eqb}
use lib.ListN.{length, length-append}
use Rattle.erase_plan.specs.declared.EraseType.{EraseType}
use Rattle.erase_plan.specs.declared.EraseTypes.{EraseTypes}
use Rattle.erase_plan.specs.Types.{kept, present}
use Rattle.settings.specs.declared.Settings.{Settings}
use Rattle.settings.specs.Ranges.{check_address_length}
use Rattle.settings.proofs.Laws.{check_fits, accepted_nonempty, accepted_32}

-- ---- no type
kept_length : (t : EraseType) → length (kept t) ≡ cond (eqb t.size 0) 0 1
unfolding kept
kept_length t = by (eqb t.size 0)
  where
    by : (b : Bool) → length (cond b [] (t ∷ [])) ≡ cond b 0 1
    by true = refl
    by false = refl

none_or : (b : Bool) (n : ℕ) → eqb (cond b 0 1 + n) 0 ≡ (b && eqb n 0)
none_or true n = let e : 0 + n ≡ n = omega arith in ap (λ (k : ℕ). eqb k 0) e
none_or false n = ne_eqb (1 + n) 0 (λ (e : 1 + n ≡ 0). omega arith)

all_none : (ts : List EraseType) → eqb (length (flat_map kept ts)) 0 ≡ list_all (λ (t : EraseType). t.size == 0) ts
all_none [] = refl
all_none (t ∷ ts) =
    simp (length-append, kept_length) (none_or (eqb t.size 0) (length (flat_map kept ts)) ∙ ap (λ (b : Bool). eqb t.size 0 && b) (all_none ts))

pub none_present : (ts : EraseTypes) → eqb (length (present ts)) 0 ≡ list_all (λ (t : EraseType). t.size == 0) ts.slots
unfolding present
none_present ts = all_none ts.slots

-- ---- a range that the settings accept
module _ (s : Settings) (a n : ℕ) (h : check_address_length s a n ≡ Ok tt) where
  pub range_some : 1 ≤ n
  range_some = accepted_nonempty s a n ((check_fits s a n).0 h)

  pub range_32 : a + n ≤ 4294967296
  range_32 = accepted_32 s a n ((check_fits s a n).0 h)
