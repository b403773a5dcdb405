-- What holds of packed sessions: the statements.
use Rattle.std.specs.Prelude.{ℕ, ◌<◌, ◌≡◌, true, List, length, get_or}
use Rattle.flash.specs.declared.Session.{Session}
use Rattle.packed.specs.Numbers.{same_list}
use Rattle.packed.specs.Layout.{bytes_of, session_in}
use Rattle.packed.specs.Typed.{Typed}

-- THE WAY BACK: a session's bytes read as the session
abbrev pub WayBack : Type 0
WayBack = (s : Session) → Typed s → session_in (bytes_of s) ≡ s

-- there are 256, each below 256
abbrev pub Sized : Type 0
Sized = (s : Session) → length (bytes_of s) ≡ 256

abbrev pub Below : Type 0
Below = (s : Session) (i : ℕ) → get_or (bytes_of s) i 0 < 256

-- whatever bytes are read, the session has its types' widths
abbrev pub ReadsTyped : Type 0
ReadsTyped = (b : List ℕ) → ((i : ℕ) → get_or b i 0 < 256) → Typed (session_in b)

-- bytes that are those of the session which they read as are exactly the bytes of some session
abbrev pub SameIsPacked : Type 0
SameIsPacked = (b : List ℕ) → same_list b (bytes_of (session_in b)) ≡ true → b ≡ bytes_of (session_in b)

abbrev pub PackedIsSame : Type 0
PackedIsSame = (s : Session) → Typed s → same_list (bytes_of s) (bytes_of (session_in (bytes_of s))) ≡ true

-- two sessions have not the same bytes
abbrev pub OneSession : Type 0
OneSession = (s s' : Session) → Typed s → Typed s' → bytes_of s ≡ bytes_of s' → s ≡ s'
