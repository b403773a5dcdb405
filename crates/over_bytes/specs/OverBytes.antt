-- Demand 3 through packed bytes: the host holds 256 bytes and no session. Each start, setter and step unpacks the session, and packs
-- what it hands back.
use Rattle.std.specs.Prelude.{◌≡◌, Bool, false, cond, ◌&&◌, List, [], ◌∷◌, ◌++◌, ℕ, zero, suc, ◌<◌}
use Rattle.std.proofs.Math.Option.{Option, some, none}
use Rattle.erase_plan.specs.Good.{Each}
use Rattle.commands.specs.declared.Answer.{Answer}
use Rattle.commands.specs.declared.Answer.TheVariants.{BadSession}
use Rattle.commands.specs.Script.{Sent, Kept as KeptThere}
use Rattle.commands.specs.Wire.{wire}
use Rattle.commands.specs.Calls.{Call, Read, LegacyRead, ReadParams, Erase, EraseSectors, Program, ProgramData, Reset, ReadJedecId, IsBusy, IsProtected}
use Rattle.commands.specs.Bounds.{most}
use Rattle.commands.specs.Leaves.{refused}
use Rattle.flash.specs.declared.Session.{Session}
use Rattle.flash.specs.declared.Event.{Event}
use Rattle.flash.specs.declared.Event.TheVariants.{Send, Answered}
use Rattle.flash.specs.Steps.{Taken, step_of}
use Rattle.meaning.specs.Meaning.{kept_of, sent_of, Idle}
use Rattle.packed.specs.Numbers.{same_list}
use Rattle.packed.specs.Layout.{bytes_of, session_in}
use Rattle.packed.specs.Typed.{U8, U64}
use Rattle.rule.specs.Rule.{rule_of}
use Rattle.rule.specs.Kept.{Whole}
use Rattle.nor_model.specs.Device.{Part, State}
use Rattle.nor_model.specs.Runs.{Times, Ran, replied}
use Rattle.nor_model.specs.Demand3.{Setter, AddressBytes, PageSize, EraseSize, EraseOpcode, PollLimit, Capacity, NoCapacity, Act, Command, Setting, Now, Possible, Assumed, Promised}
use Rattle.on_part.specs.OnPart.{start_of, setter_of, Bytes}

-- ---- the driver over bytes
-- the session in bytes that the packer writes; none in any other
unfoldable pub unpack_of : List ℕ → Option Session
unpack_of b = cond (rule_of (session_in b) && same_list b (bytes_of (session_in b))) (some (session_in b)) none

-- what a call hands back: the packed session, the event, and the lent room
pub record Back : Type 0 where
  pub bytes : List ℕ
  pub event : Event
  pub room : List ℕ

abbrev pub packed_of : Taken → Back
packed_of x = record { bytes = bytes_of x.out.session; event = x.out.event; room = x.room }

-- 13, and nothing is changed
abbrev pub bad_bytes : List ℕ → List ℕ → Back
bad_bytes b room = record { bytes = b; event = Answered BadSession 0; room = room }

unfoldable pub start_bytes : Call → List ℕ → List ℕ → Back
start_bytes c b room = elim (unpack_of b) [ some s ↦ packed_of (start_of c s room) | none ↦ bad_bytes b room ]

unfoldable pub set_bytes : Setter → List ℕ → Back
set_bytes a b = elim (unpack_of b) [ some s ↦ packed_of (record { out = setter_of a s; room = [] }) | none ↦ bad_bytes b [] ]

unfoldable pub step_bytes : List ℕ → Bool → List ℕ → List ℕ → Back
step_bytes b failed r room = elim (unpack_of b) [ some s ↦ packed_of (step_of s failed r room) | none ↦ bad_bytes b room ]

-- ---- the host, with the part before it: as with a session by value
pub record Served : Type 0 where
  pub bytes : List ℕ
  pub room : List ℕ
  pub answer : Answer
  pub polls : ℕ
  pub state : State
  pub sent : List Sent

abbrev pub behind : Sent → Option Served → Option Served
behind t (some r) = some (record { bytes = r.bytes; room = r.room; answer = r.answer; polls = r.polls; state = r.state; sent = t ∷ r.sent })
behind t none = none

unfoldable pub serve : Part → Times → ℕ → List (List ℕ) → State → Back → Option Served
serve p times zero past state x =
    elim x.event [ Answered a n ↦ some (record { bytes = x.bytes; room = x.room; answer = a; polls = n; state = state; sent = [] }) | Send t ↦ none ]
serve p times (suc k) past state x =
    elim x.event [
      | Answered a n ↦ some (record { bytes = x.bytes; room = x.room; answer = a; polls = n; state = state; sent = [] })
      | Send t ↦
          let u = sent_of t x.room in
          let y = replied p times past state u in
          behind u (serve p times k (wire u ∷ past) y.0 (step_bytes x.bytes false y.1 x.room))
    ]

-- what the driver keeps, as the bytes say
abbrev pub kept_in : List ℕ → List ℕ → KeptThere
kept_in b room = kept_of (session_in b) room

abbrev pub served : Part → Times → State → List ℕ → Call → List ℕ → Option Served
served p times state b c room = serve p times (most c (kept_in b room)) [] state (start_bytes c b room)

abbrev pub ran_of : Served → Ran
ran_of r = record { answer = r.answer; polls = r.polls; kept = kept_in r.bytes r.room; state = r.state; sent = r.sent }

-- ---- sequences
pub record Stand : Type 0 where
  pub state : State
  pub bytes : List ℕ
  pub accepted : List Call

abbrev pub now_of : Stand → List ℕ → Now
now_of x room = record { state = x.state; kept = kept_in x.bytes room; accepted = x.accepted }

abbrev pub after : Stand → Call → Served → Stand
after x c r = record { state = r.state; bytes = r.bytes; accepted = cond (refused r.answer) x.accepted (x.accepted ++ (c ∷ [])) }

abbrev pub set_in : Setter → Stand → Stand
set_in a x = record { state = x.state; bytes = (set_bytes a x.bytes).bytes; accepted = x.accepted }

-- of a command: the driver comes to an answer, with the promises of demand 3, and its session is idle again
pub record Kept (p : Part) (first : ℕ → ℕ) (x : Stand) (c : Call) (room : List ℕ) (times : Times) : Type 0 where
  pub to : Served
  pub is : served p times x.state x.bytes c room ≡ some to
  pub promised : Promised p first (now_of x room) c (ran_of to)
  pub idle : Idle (session_in to.bytes)

abbrev pub Keeps : Part → (ℕ → ℕ) → Stand → List Act → Type 0
Keeps p first x [] = Unit {0}
Keeps p first x (Command c room times ∷ acts) =
    Assumed p (kept_in x.bytes room) c times → (k : Kept p first x c room times) × Keeps p first (after x c k.to) acts
Keeps p first x (Setting a ∷ acts) = Keeps p first (set_in a x) acts

-- ---- what a call is given is of its types: the data and the lent room are bytes, a capacity has 64 bits, an opcode is a byte
abbrev pub TypedCall : Call → Type 0
TypedCall (Read a n) = Unit {0}
TypedCall (LegacyRead a n) = Unit {0}
TypedCall ReadParams = Unit {0}
TypedCall Erase = Unit {0}
TypedCall (EraseSectors a n) = Unit {0}
TypedCall (Program a d v) = Each (λ (x : ℕ). x < 256) d
TypedCall (ProgramData a d) = Each (λ (x : ℕ). x < 256) d
TypedCall Reset = Unit {0}
TypedCall ReadJedecId = Unit {0}
TypedCall IsBusy = Unit {0}
TypedCall IsProtected = Unit {0}

abbrev pub TypedSetter : Setter → Type 0
TypedSetter (AddressBytes n) = Unit {0}
TypedSetter (PageSize n) = Unit {0}
TypedSetter (EraseSize n) = Unit {0}
TypedSetter (EraseOpcode n) = U8 n
TypedSetter (PollLimit n) = Unit {0}
TypedSetter (Capacity n) = U64 n
TypedSetter NoCapacity = Unit {0}

abbrev pub TypedAct : Act → Type 0
TypedAct (Command c room times) = TypedCall c × Each (λ (x : ℕ). x < 256) room
TypedAct (Setting a) = TypedSetter a

-- THE DEMAND over bytes: from the bytes of an idle session that the driver itself hands back, as a fresh one. (`Whole` says that: its
-- numbers have their widths, and it meets the packer's rule)
abbrev pub Demand3OverBytes : Type 0
Demand3OverBytes =
    (p : Part) (state : State) (s : Session) (acts : List Act) → state.busy ≡ 0 → Bytes p state → Idle s → Possible (kept_of s []) → Whole s → Each TypedAct acts
    → Keeps p state.memory (record { state = state; bytes = bytes_of s; accepted = [] }) acts
