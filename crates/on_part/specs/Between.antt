-- What docs/SCOPE.md, Answer numbers, says of a session between the transactions: 13 while a command runs, refusals, 11 at a step, an ended command, a
-- fresh session.
use Rattle.std.specs.Prelude.{◌≡◌, Bool, true, false, List, ℕ, ◌<◌, length, Result, Ok, Err}
use Rattle.settings.specs.declared.Settings.{Settings}
use Rattle.settings.specs.declared.SettingError.TheVariants as Limit
use Rattle.commands.specs.declared.Answer.{Answer}
use Rattle.commands.specs.declared.Answer.TheVariants.{Done, BadSetting, NoRoom, BadSession}
use Rattle.commands.specs.Calls.{Call}
use Rattle.commands.specs.Leaves.{refused, room_need}
use Rattle.phases.specs.declared.Phase.{Phase}
use Rattle.flash.specs.declared.Session.{Session}
use Rattle.phases.specs.declared.Transaction.{Transaction}
use Rattle.flash.specs.declared.Event.TheVariants.{Send, Answered}
use Rattle.flash.specs.Steps.{Taken, counted, step_of}
use Rattle.phases.specs.Moves.{is_ended}
use Rattle.flash.specs.Starts.{fresh}
use Rattle.meaning.specs.Meaning.{kept_of, Idle}
use Rattle.nor_model.specs.Demand3.{Setter, tried, set_by}
use Rattle.on_part.specs.OnPart.{start_of, setter_of}

-- a command runs
abbrev pub Runs : Session → Type 0
Runs s = is_ended s.phase ≡ false

-- nothing is changed, and this is answered
abbrev pub stays : Session → List ℕ → Answer → ℕ → Taken
stays s room a n = record { out = record { session = s; event = Answered a n }; room = room }

-- the room that a command needs is one number for all its steps
pub record Needs : Type 0 where
  pub need : Session → ℕ
  -- a start that is not refused: that of the command
  pub started : (c : Call) (s : Session) (room : List ℕ) (t : Transaction) → Idle s → (start_of c s room).out.event ≡ Send t
      → need (start_of c s room).out.session ≡ room_need c (kept_of s room)
  -- each step keeps it
  pub kept : (s : Session) (failed : Bool) (reply room : List ℕ) (t : Transaction) → Runs s → (step_of s failed reply room).out.event ≡ Send t
      → need (step_of s failed reply room).out.session ≡ need s
  -- with less lent a step is 11 with the need and the polls issued, that whose reply it brings too; the reply is unused, and the command
  -- waits unchanged
  pub short : (s : Session) (failed : Bool) (reply room : List ℕ) → Runs s → length room < need s
      → step_of s failed reply room ≡ stays s room (NoRoom (need s)) (counted s)

pub record Between : Type 0 where
  -- a fresh session counts as ended with Done and 0 polls
  pub freshly : (failed : Bool) (reply room : List ℕ) → step_of fresh failed reply room ≡ stays fresh room Done 0
  -- a start or a setter while a command runs is 13
  pub start_runs : (c : Call) (s : Session) (room : List ℕ) → Runs s → start_of c s room ≡ stays s room BadSession 0
  pub setter_runs : (x : Setter) (s : Session) → Runs s → setter_of x s ≡ record { session = s; event = Answered BadSession 0 }
  -- a refused start changes nothing: a later step repeats the answer of the command before it
  pub start_refused : (c : Call) (s : Session) (room : List ℕ) (a : Answer) (n : ℕ) → Idle s → (start_of c s room).out.event ≡ Answered a n
      → refused a ≡ true → start_of c s room ≡ stays s room a 0
  -- a refused setter changes nothing either
  pub setter_refused : (x : Setter) (s : Session) → Idle s → tried x s.settings ≡ Err Limit.BadSetting
      → setter_of x s ≡ record { session = s; event = Answered BadSetting 0 }
  -- one that is not refused changes the settings alone, and is Done
  pub setter_taken : (x : Setter) (s : Session) (new : Settings) → Idle s → tried x s.settings ≡ Ok new
      → setter_of x s ≡ record {
        session = record { settings = set_by x s.settings; known = s.known; params = s.params; phase = s.phase; polls = s.polls };
        event = Answered Done 0;
      }
  -- a step on an ended command issues nothing and changes nothing. What it answers goes by the phase, and a setter leaves that
  pub quiet : (p : Phase) → is_ended p ≡ true
      → (a : Answer) × ((s : Session) (failed : Bool) (reply room : List ℕ) → s.phase ≡ p → step_of s failed reply room ≡ stays s room a s.polls)
  -- it repeats the answer that ended the command
  pub repeats : (s : Session) (failed : Bool) (reply room : List ℕ) → Idle (step_of s failed reply room).out.session
      → (failed' : Bool) (reply' room' : List ℕ)
      → step_of (step_of s failed reply room).out.session failed' reply' room' ≡ record { out = (step_of s failed reply room).out; room = room' }
  -- so it is where a command ended at its start: program_data without data
  pub repeats_start : (c : Call) (s : Session) (room : List ℕ) (a : Answer) (n : ℕ) → Idle s → (start_of c s room).out.event ≡ Answered a n
      → refused a ≡ false → (failed : Bool) (reply room' : List ℕ)
      → step_of (start_of c s room).out.session failed reply room' ≡ record { out = (start_of c s room).out; room = room' }
  pub needs : Needs
