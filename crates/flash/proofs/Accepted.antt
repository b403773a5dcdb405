-- What a start comes to: with room or without it, over a range that is accepted or not, and over an accepted one whose last address is given.
use Rattle.std.proofs.Common.{Result, Ok, Err}
use Rattle.std.specs.Result.{IsErrAnd}
use Rattle.std.proofs.lemmas.Result.{err_from_is_err_and}
use Prim.Native.Nat.{ℕ, ◌+◌, ◌-◌, ◌^◌, ◌≤◌}
use mathlib.Core.Path.{◌≡◌, refl, sym, ◌∙◌}
use mathlib.Core.Bool.{Bool, true, false, cond}
use mathlib.Core.List.{List}
use native.Mathlib.Omega.{arith}
use borrow.Author.Tests.{ltb-true, ltb-false, lt-leb, le-leb}
use lib.Dec.{eqb, ltb, leb}
use lib.ListN.{length}
use Rattle.std.proofs.lemmas.Bool.Decides.{nat_tests}
use Rattle.settings.specs.declared.Settings.{Settings}
use Rattle.settings.specs.declared.BadRange.{BadRange}
use Rattle.settings.specs.Ranges.{accepted_range, check_address_length, last_address}
use Rattle.settings.proofs.Laws.{check_fits, check_reports, accepted_nonempty, accepted_32}
use Rattle.erase_plan.specs.declared.EraseType.{EraseType}
use Rattle.erase_plan.specs.declared.Surveyed.{Surveyed}
use Rattle.erase_plan.specs.Plan.{plan}
use Rattle.erase_plan.specs.Span.{survey_of, span_check}
use Rattle.commands.specs.declared.Answer.{Answer}
use Rattle.commands.specs.declared.Answer.TheVariants.{InvalidAddress, NoRoom}
use Rattle.phases.specs.declared.EraseCommand.TheVariants as Erases
use Rattle.phases.specs.declared.Phase.{Phase}
use Rattle.phases.specs.declared.Phase.TheVariants.{Erasing}
use Rattle.phases.specs.Moves.{is_ended}
use Rattle.flash.specs.declared.Session.{Session}
use Rattle.flash.specs.declared.First.{First}
use Rattle.flash.specs.declared.First.TheVariants as Firsts
use Rattle.flash.specs.Waits.{types_of}
use Rattle.flash.specs.Steps.{goes}
use Rattle.flash.specs.Starts.{refused, starts, have_types, room_for, begin_sectors, begins, start_out, start_of, checked, begin_span, begin_program}

-- ---- 11, or the first phase
module _ (s : Session) (n room : ℕ) (p : Phase) (f : Result First Answer) (e : f ≡ cond (ltb room n) (Err (NoRoom n)) (Ok (Firsts.Goes 0 p))) where
  pub roomed_starts : start_out (start_of s f) ≡ room_for s n room (starts s p)
  unfolding room_for
  roomed_starts = rw (e) (on (ltb room n))
    where
      on : (t : Bool) → start_out (start_of s (cond t (Err (NoRoom n)) (Ok (Firsts.Goes 0 p)))) ≡ cond t (refused s (NoRoom n)) (starts s p)
      on true = refl
      on false = refl

  pub roomed_begins : start_of s f ≡ checked (leb n room) s (NoRoom n) (begins 0 (goes s 0 p))
  roomed_begins = rw (e) (on (ltb room n) refl)
    where
      on : (t : Bool) → ltb room n ≡ t → start_of s (cond t (Err (NoRoom n)) (Ok (Firsts.Goes 0 p))) ≡ checked (leb n room) s (NoRoom n) (begins 0 (goes s 0 p))
      on true h = rw (lt-leb _ _ (ltb-true room n h))
      on false h = rw (le-leb _ _ (ltb-false room n h))

-- ---- a range by settings, as its check answers
module _ (x : Settings) (a n : ℕ) (f : Result (Unit {0}) BadRange) (e : f ≡ check_address_length x a n) where
  pub accepted : f ≡ Ok tt → accepted_range x a n ≡ true
  accepted h = (check_fits x a n).0 (sym e ∙ h)

  pub barred : (report : BadRange) → f ≡ Err report → (accepted_range x a n ≡ false) × (report.last ≡ last_address a n)
  barred report h = check_reports x a n report (sym e ∙ h)

  -- what `?` hands on of a range that is not accepted
  pub handed_on : {A : Type 0} (r : Result A Answer) (report : BadRange) → f ≡ Err report → IsErrAnd r (λ y. y ≡ InvalidAddress report)
      → (accepted_range x a n ≡ false) × (r ≡ Err (InvalidAddress (record { last = last_address a n })))
  handed_on r report h e =
      let p = err_from_is_err_and r e in
      let k = barred report h in
      (k.0, rw (p.1, p.2, ← k.1))

  pub one_at_least : f ≡ Ok tt → 1 ≤ n
  one_at_least h = accepted_nonempty x a n (accepted h)

  pub ends_by_32 : f ≡ Ok tt → a + n ≤ 2 ^ 32
  ends_by_32 h = accepted_32 x a n (accepted h)

-- what is known of a checked range, with the tests of numbers
pub ruleset checked_range = (accepted, barred, one_at_least, ends_by_32, nat_tests)

-- ---- an accepted range, its types and its span
module _ (s : Session) (ts : List EraseType) (t : types_of s ≡ ts) (a n last : ℕ) (types : eqb (length ts) 0 ≡ false) (f : last + 1 ≡ a + n) (span : Surveyed) (e : span ≡ survey_of (plan ts a (last + 1))) where
  last_is : a + n - 1 ≡ last
  last_is = omega arith

  pub sectors_fit : span_check a n span.first span.end ≡ Ok tt → starts s (Erasing (Erases.Sectors a last) false) ≡ begin_sectors s a n
  unfolding have_types
  sectors_fit h = rw (t, types, last_is, ← f, ← e, h)

  pub sectors_bad : (at : ℕ) → span_check a n span.first span.end ≡ Err at → refused s (InvalidAddress (record { last = at })) ≡ begin_sectors s a n
  unfolding have_types
  sectors_bad at h = rw (t, types, last_is, ← f, ← e, h)

  pub program_begins : (v : Bool) (room : ℕ) → is_ended s.phase ≡ true → accepted_range s.settings a n ≡ true → begin_span s a last v span room ≡ begin_program s a n v room
  unfolding begin_program
  program_begins v room i h = rw (i, h, t, types, last_is, ← f, ← e)
