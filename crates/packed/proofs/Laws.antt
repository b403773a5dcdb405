-- The promises hold, and not of nothing.
use mathlib.Core.Path.{◌≡◌, refl, sym, ap, ◌∙◌}
use mathlib.Core.Bool.{true}
use Prim.Native.Nat.{ℕ, zero, suc, ◌<◌}
use native.Mathlib.Omega.{arith}
use lib.ListN.{get_or, replicate}
use Rattle.flash.specs.Starts.{fresh}
use Rattle.phases.specs.declared.EraseCommand.TheVariants as Erases
use Rattle.phases.specs.declared.Phase.TheVariants.{Erasing}
use Rattle.flash.specs.declared.Session.{Session}
use Rattle.packed.specs.Numbers.{words}
use Rattle.packed.specs.Phases.{erase_in, phase_in}
use Rattle.packed.specs.Layout.{bytes_of, known_in, job_in, place_in, from_words, session_in}
use Rattle.packed.specs.Typed.{Typed}
use Rattle.packed.specs.Promises.{WayBack, Sized, Below, ReadsTyped, SameIsPacked, PackedIsSame, OneSession}
use Rattle.packed.proofs.Bytes.{same_equal, same_self}
use Rattle.packed.proofs.Rows.{length_bytes_of, bytes_of_below}
use Rattle.packed.proofs.Round.{round_trip}
use Rattle.packed.proofs.Reading.{none_typed, session_typed}

pub way_back : WayBack
way_back = round_trip

pub sized : Sized
sized = length_bytes_of

pub below : Below
below = bytes_of_below

pub reads_typed : ReadsTyped
reads_typed = session_typed

pub same_is_packed : SameIsPacked
same_is_packed b h = same_equal b (bytes_of (session_in b)) h

pub packed_is_same : PackedIsSame
packed_is_same s t = rw (round_trip s t) (same_self (bytes_of s))

pub one_session : OneSession
one_session s s' t t' e = sym (round_trip s t) ∙ ap session_in e ∙ round_trip s' t'

-- ---- sessions that have the widths: a fresh one
pub fresh_typed : Typed fresh
fresh_typed = record {
  settings = record {
    address_bytes = omega arith;
    capacity = omega arith;
    page_size = omega arith;
    erase_size = omega arith;
    erase_opcode = omega arith;
    poll_limit = omega arith;
  };
  params = none_typed;
  none = λ e. refl;
  phase = (tt, tt);
  polls = omega arith;
}

-- one with parameters, whose command runs: that of 256 bytes that are all 1
ones_below : (n i : ℕ) → get_or (replicate n 1) i 0 < 256
ones_below zero i = omega arith
ones_below (suc n) zero = omega arith
ones_below (suc n) (suc i) = ones_below n i

abbrev pub running : Session
running = session_in (replicate 256 1)

pub running_typed : Typed running
running_typed = session_typed (replicate 256 1) (ones_below 256)

pub running_known : running.known ≡ true
unfolding from_words known_in words
running_known = refl

pub running_erases : running.phase ≡ Erasing (Erases.Sectors 16843009 16843009) true
unfolding from_words phase_in place_in job_in erase_in words
running_erases = refl
