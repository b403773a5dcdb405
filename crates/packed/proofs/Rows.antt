-- The words of a session from the words of its parts.
use Prim.Native.Nat.{ℕ, ◌*◌, ◌<◌}
use mathlib.Core.Path.{◌≡◌, refl, ap, ◌∙◌}
use lib.ListN.{length, get_or}
use Rattle.sfdp.specs.declared.FlashParams.{FlashParams}
use Rattle.flash.specs.declared.Session.{Session}
use Rattle.packed.specs.declared.Place.{Place}
use Rattle.packed.specs.Phases.{place_of}
use Rattle.packed.specs.Layout.{row_of, shown, to_words, bytes_of}
use Rattle.packed.proofs.Bytes.{length_bytes, bytes_below}

-- the parts of these parameters in this place are the session's
pub same_session : (s : Session) (p : FlashParams) (at : Place) → p ≡ shown s → at ≡ place_of s.phase → row_of s p at ≡ to_words s
unfolding to_words
same_session s p at e f = λ i. row_of s (e i) (f i)

-- ---- lengths
pub length_to_words : (s : Session) → length (to_words s) ≡ 64
unfolding to_words
length_to_words s = refl

pub length_bytes_of : (s : Session) → length (bytes_of s) ≡ 256
length_bytes_of s = length_bytes (to_words s) ∙ ap (λ (n : ℕ). 4 * n) (length_to_words s)

pub bytes_of_below : (s : Session) (i : ℕ) → get_or (bytes_of s) i 0 < 256
bytes_of_below s i = bytes_below (to_words s) i
