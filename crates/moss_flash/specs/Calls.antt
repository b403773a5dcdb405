-- A call from C: the session in lent bytes, unpacked, handed to its function, packed again.
use Rattle.std.specs.Prelude.{ℕ, ◌≡◌, cond, not, ◌&&◌, List, [], ltb, eqb, length, Option, Some, None, Result, Ok, Err}
use Rattle.commands.specs.Answers.{number_of}
use Rattle.flash.specs.declared.Session.{Session}
use Rattle.flash.specs.declared.Event.{Event}
use Rattle.flash.specs.declared.Event.TheVariants.{Send, Answered}
use Rattle.flash.specs.declared.Stepped.{Stepped}
use Rattle.phases.specs.Moves.{is_ended}
use Rattle.flash.specs.Steps.{Taken}
use Rattle.flash.specs.Starts.{fresh}
use Rattle.packed.specs.Numbers.{same_list}
use Rattle.packed.specs.Layout.{bytes_of, session_in, put_over}
use Rattle.rule.specs.Rule.{rule_of}
use Rattle.moss_flash.specs.declared.Refusal.{Refusal}
use Rattle.moss_flash.specs.declared.Refusal.TheVariants as Refusals
use Rattle.moss_flash.specs.Records.{event_over, settings_words, settings_over}

-- bytes hold a session if they are exactly what packing it gives, and it meets the session's own rule
unfoldable pub unpack_of : List ℕ → Option Session
unpack_of b = cond (rule_of (session_in b) && same_list b (bytes_of (session_in b))) (Some (session_in b)) None

-- the number of a refusal
abbrev pub refusal_number : Refusal → ℕ
refusal_number Refusals.BadSession = 13
refusal_number Refusals.NoRoom = 11

-- 13, then 11 for an event record of less than 64 bytes
abbrev pub opening : Option Session → ℕ → Result Session Refusal
opening None room = Err Refusals.BadSession
opening (Some s) room = cond (ltb room 64) (Err Refusals.NoRoom) (Ok s)

unfoldable pub opened_of : List ℕ → ℕ → Result Session Refusal
opened_of b room = opening (unpack_of b) room

-- a start: 13 comes first also where a command runs
abbrev pub starting : Option Session → ℕ → Result Session Refusal
starting None room = Err Refusals.BadSession
starting (Some s) room = cond (ltb room 64) (cond (not (is_ended s.phase)) (Err Refusals.BadSession) (Err Refusals.NoRoom)) (Ok s)

unfoldable pub opened_start : List ℕ → ℕ → Result Session Refusal
opened_start b room = starting (unpack_of b) room

-- what a call returns: the answer's number, or 255 for a transaction to carry out
unfoldable pub number_in : Event → ℕ
number_in (Send t) = 255
number_in (Answered a polls) = number_of a

-- ---- what a call gives: its number, and the lent bytes after it
pub record Called : Type 0 where
  pub number : ℕ
  pub session : List ℕ
  pub event : List ℕ
  pub room : List ℕ

abbrev pub took : Stepped → List ℕ → Taken
took x room = record { out = x; room = room }

-- a refused call changes nothing
abbrev pub called : Result Session Refusal → (session event room : List ℕ) → (Session → Taken) → Called
called (Err n) b e room f = record { number = refusal_number n; session = b; event = e; room = room }
called (Ok s) b e room f = record {
  number = number_in (f s).out.event;
  session = put_over (f s).out.session b;
  event = event_over (f s).out.event e;
  room = (f s).room;
}

-- what a call gives whose command is lent a buffer and gives what post allows; what a refused one leaves
abbrev pub Lent : (Session → List ℕ → Stepped → List ℕ → Type 0) → Result Session Refusal
    → (session event room : List ℕ) → (number : ℕ) → (session' event' room' : List ℕ) → Type 0
Lent post (Err n) b e w number b' e' w' = (number ≡ refusal_number n) × (b' ≡ b) × (e' ≡ e) × (w' ≡ w)
Lent post (Ok s) b e w number b' e' w' =
    (x : Stepped) × post s w x w' × (number ≡ number_in x.event) × (b' ≡ put_over x.session b) × (e' ≡ event_over x.event e)

-- the same without a buffer
abbrev pub Started : (Session → Stepped → Type 0) → Result Session Refusal → (session event : List ℕ) → (number : ℕ) → (session' event' : List ℕ) → Type 0
Started post o b e number b' e' = Lent (λ s w x v. post s x) o b e [] number b' e' []

-- the fresh session, in exactly 256 bytes; else 13
unfoldable pub new_of : List ℕ → Called
new_of b = cond (eqb (length b) 256) (record { number = 0; session = bytes_of fresh; event = []; room = [] }) (record { number = 13; session = b; event = []; room = [] })

-- a setter has no event record
abbrev pub set_called : Option Session → List ℕ → (Session → Stepped) → Called
set_called None b f = record { number = 13; session = b; event = []; room = [] }
set_called (Some s) b f = record { number = number_in (f s).event; session = put_over (f s).session b; event = []; room = [] }

-- what a setter leaves that gives what post allows
abbrev pub Set : (Session → Stepped → Type 0) → Option Session → (session : List ℕ) → (number : ℕ) → (session' : List ℕ) → Type 0
Set post None b number b' = (number ≡ refusal_number Refusals.BadSession) × (b' ≡ b)
Set post (Some s) b number b' = (x : Stepped) × post s x × (number ≡ number_in x.event) × (b' ≡ put_over x.session b)

-- the settings' record: 13, 11, 0
abbrev pub settings_called : Option Session → List ℕ → Called
settings_called None out = record { number = 13; session = []; event = out; room = [] }
settings_called (Some s) out =
    cond (ltb (length out) 32) (record { number = 11; session = []; event = out; room = [] })
    (record { number = 0; session = []; event = settings_over (settings_words s) out; room = [] })
