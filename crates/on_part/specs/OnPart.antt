-- Demand 3 of the driver itself: a session, its starts, its setters and its step, run on the modelled part.
use Rattle.std.specs.Prelude.{◌≡◌, true, false, cond, List, [], ◌∷◌, ◌++◌, ℕ, zero, suc, ◌<◌, length}
use Rattle.std.proofs.Math.Option.{Option, some, none}
use Rattle.commands.specs.declared.Answer.{Answer}
use Rattle.commands.specs.Script.{Sent}
use Rattle.commands.specs.Wire.{wire}
use Rattle.commands.specs.Calls.{Call, Read, LegacyRead, ReadParams, Erase, EraseSectors, Program, ProgramData, Reset, ReadJedecId, IsBusy, IsProtected, script}
use Rattle.commands.specs.Bounds.{most}
use Rattle.commands.specs.Leaves.{refused}
use Rattle.flash.specs.declared.Session.{Session}
use Rattle.flash.specs.declared.Event.TheVariants.{Send, Answered}
use Rattle.flash.specs.declared.Stepped.{Stepped}
use Rattle.flash.specs.Steps.{Taken, step_of}
use Rattle.flash.specs.Starts.{start_read, start_read_params, start_erase, start_erase_sectors, start_program, start_program_data, start_reset, start_read_jedec_id, start_is_busy, start_is_protected, setting}
use Rattle.meaning.specs.Meaning.{kept_of, sent_of, Idle}
use Rattle.nor_model.specs.Device.{Part, State}
use Rattle.nor_model.specs.Runs.{Times, Ran, replied, exec}
use Rattle.nor_model.specs.Demand3.{Setter, tried, Act, Command, Setting, Now, Possible, Assumed, Promised}

-- ---- the driver: what each function's contract says that it returns
-- a command's start: what it hands back, and the lent room then. (The commands without data leave the room as it is)
abbrev pub start_of : Call → Session → List ℕ → Taken
start_of (Read a n) s room = record { out = start_read s false a n (length room); room = room }
start_of (LegacyRead a n) s room = record { out = start_read s true a n (length room); room = room }
start_of ReadParams s room = record { out = start_read_params s (length room); room = room }
start_of Erase s room = record { out = start_erase s; room = room }
start_of (EraseSectors a n) s room = record { out = start_erase_sectors s a n; room = room }
start_of (Program a d v) s room = start_program s a d v room
start_of (ProgramData a d) s room = start_program_data s a d room
start_of Reset s room = record { out = start_reset s; room = room }
start_of ReadJedecId s room = record { out = start_read_jedec_id s; room = room }
start_of IsBusy s room = record { out = start_is_busy s; room = room }
start_of IsProtected s room = record { out = start_is_protected s; room = room }

abbrev pub setter_of : Setter → Session → Stepped
setter_of x s = setting s (tried x s.settings)

-- ---- the host, with the part before it
-- where a command has come to its answer: the session, the lent room, the answer with its polls, the part's state, the transactions
pub record Served : Type 0 where
  pub session : Session
  pub room : List ℕ
  pub answer : Answer
  pub polls : ℕ
  pub state : State
  pub sent : List Sent

-- with a transaction before it
abbrev pub behind : Sent → Option Served → Option Served
behind t (some r) = some (record { session = r.session; room = r.room; answer = r.answer; polls = r.polls; state = r.state; sent = t ∷ r.sent })
behind t none = none

-- each transaction that the driver hands out is carried out once on the part, and the part's own reply is given to the driver's step,
-- until there is an answer. With at most so many transactions: none if that is not enough
unfoldable pub serve : Part → Times → ℕ → List (List ℕ) → State → Stepped → List ℕ → Option Served
serve p times zero past state x room =
    elim x.event [ Answered a n ↦ some (record { session = x.session; room = room; answer = a; polls = n; state = state; sent = [] }) | Send t ↦ none ]
serve p times (suc k) past state x room =
    elim x.event [
      | Answered a n ↦ some (record { session = x.session; room = room; answer = a; polls = n; state = state; sent = [] })
      | Send t ↦
          let u = sent_of t room in
          let y = replied p times past state u in
          let z = step_of x.session false y.1 room in
          behind u (serve p times k (wire u ∷ past) y.0 z.out z.room)
    ]

-- a command from its start to its answer, in at most the transactions that docs/SCOPE.md allows it
abbrev pub served : Part → Times → State → Session → Call → List ℕ → Option Served
served p times state s c room =
    serve p times (most c (kept_of s room)) [] state (start_of c s room).out (start_of c s room).room

-- ---- the same run as the script's
-- what of it a run of a script has too
abbrev pub ran_of : Served → Ran
ran_of r = record { answer = r.answer; polls = r.polls; kept = kept_of r.session r.room; state = r.state; sent = r.sent }

-- the fixed bytes and the memory of a part are bytes: their type says so
pub record Bytes (p : Part) (state : State) : Type 0 where
  pub id : (i : ℕ) → p.id i < 256
  pub sfdp : (i : ℕ) → p.sfdp i < 256
  pub memory : (i : ℕ) → state.memory i < 256

-- the driver comes to an answer, as the script does: the same answer, polls, settings, parameters, room, part and transactions. Its
-- session is idle then
pub record ServedAs (p : Part) (times : Times) (state : State) (s : Session) (c : Call) (room : List ℕ) : Type 0 where
  pub to : Served
  pub is : served p times state s c room ≡ some to
  pub same : ran_of to ≡ exec p times [] state (script c (kept_of s room))
  pub idle : Idle to.session

abbrev pub ServesAsScript : Type 0
ServesAsScript =
    (p : Part) (times : Times) (state : State) (s : Session) (c : Call) (room : List ℕ) → Bytes p state → Idle s → Possible (kept_of s room)
    → ServedAs p times state s c room

-- ---- sequences of commands and setters
-- where one stands: the part's state, the session, the accepted commands
pub record Stand : Type 0 where
  pub state : State
  pub session : Session
  pub accepted : List Call

-- the same as demand 3 has it, with the room that is lent
abbrev pub now_of : Stand → List ℕ → Now
now_of x room = record { state = x.state; kept = kept_of x.session room; accepted = x.accepted }

-- after a command: it is accepted unless it is refused at the start
abbrev pub after : Stand → Call → Served → Stand
after x c r = record { state = r.state; session = r.session; accepted = cond (refused r.answer) x.accepted (x.accepted ++ (c ∷ [])) }

abbrev pub set_in : Setter → Stand → Stand
set_in a x = record { state = x.state; session = (setter_of a x.session).session; accepted = x.accepted }

-- of a command, if the premises of demand 3 hold as it starts: the driver comes to an answer, with the promises of demand 3, and its
-- session is idle again
pub record Kept (p : Part) (first : ℕ → ℕ) (x : Stand) (c : Call) (room : List ℕ) (times : Times) : Type 0 where
  pub to : Served
  pub is : served p times x.state x.session c room ≡ some to
  pub promised : Promised p first (now_of x room) c (ran_of to)
  pub idle : Idle to.session

-- so it goes on, from command to command
abbrev pub Keeps : Part → (ℕ → ℕ) → Stand → List Act → Type 0
Keeps p first x [] = Unit {0}
Keeps p first x (Command c room times ∷ acts) =
    Assumed p (kept_of x.session room) c times → (k : Kept p first x c room times) × Keeps p first (after x c k.to) acts
Keeps p first x (Setting a ∷ acts) = Keeps p first (set_in a x) acts

-- THE DEMAND: for every part, idle at first, every idle session with settings within their limits and parameters from a table if it has
-- any, and every sequence. (`Possible` is demand 3's; that `Bytes` hold is the types of the part's bytes)
abbrev pub Demand3ByValue : Type 0
Demand3ByValue =
    (p : Part) (state : State) (s : Session) (acts : List Act) → state.busy ≡ 0 → Bytes p state → Idle s → Possible (kept_of s [])
    → Keeps p state.memory (record { state = state; session = s; accepted = [] }) acts
