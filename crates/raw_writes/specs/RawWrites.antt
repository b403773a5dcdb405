-- Rules for raw writes: what a script of program_data calls may merge and reorder. They are of the driver itself, run on the modelled part.
use Rattle.std.specs.Prelude.{◌≡◌, Bool, false, ◌&&◌, ◌||◌, not, ◌⊎◌, ℕ, ◌<◌, eqb, leb, length}
use mathlib.Core.List.{List, [], ◌∷◌, ◌++◌, Permᴰ}
use Rattle.std.proofs.Math.Option.{Option, some, none}
use Rattle.std.specs.Int.Bits.{bit_and}
use Rattle.settings.specs.Ranges.{accepted_range}
use Rattle.erase_plan.specs.Good.{Each}
use Rattle.commands.specs.Calls.{Call, Erase, Program, ProgramData}
use Rattle.commands.specs.Leaves.{refused}
use Rattle.flash.specs.declared.Session.{Session}
use Rattle.flash.specs.declared.Event.{Event}
use Rattle.flash.specs.declared.Event.TheVariants.{Send, Answered}
use Rattle.meaning.specs.Meaning.{kept_of, Idle}
use Rattle.packed.specs.Layout.{bytes_of}
use Rattle.rule.specs.Kept.{Whole}
use Rattle.nor_model.specs.Device.{Part, State}
use Rattle.nor_model.specs.Runs.{Times}
use Rattle.nor_model.specs.Demand3.{Possible, Assumed}
use Rattle.on_part.specs.OnPart.{start_of, served, Bytes, Stand, after}
use Rattle.over_bytes.specs.OverBytes as Packed
use Rattle.over_bytes.specs.OverBytes.{TypedCall}

-- ---- scripts
-- a raw write: program_data of these bytes at this address
pub record Raw : Type 0 where
  pub at : ℕ
  pub bytes : List ℕ

abbrev pub raw : ℕ → List ℕ → Raw
raw a d = record { at = a; bytes = d }

-- raw writes one after another, as commands
abbrev pub calls : List Raw → List Call
calls [] = []
calls (x ∷ xs) = ProgramData x.at x.bytes ∷ calls xs

-- ---- the premises
-- where a script begins: what demand 3 asks of it
pub record Begins (p : Part) (state : State) (s : Session) : Type 0 where
  -- the part is idle, and its bytes are bytes
  pub idle : state.busy ≡ 0
  pub bytes : Bytes p state
  -- the session is idle; its settings are within their limits, its parameters from a table if it has any
  pub rests : Idle s
  pub possible : Possible (kept_of s [])

-- what a start hands back is a refusal
abbrev pub refusal : Event → Bool
refusal (Send t) = false
refusal (Answered a n) = refused a

-- a command of a script that begins with session s. The commands here keep the settings, so what holds with those of s holds as it starts
pub record Issued (p : Part) (s : Session) (c : Call) : Type 0 where
  -- the room that is lent for it, and the busy times of its operations: each command has its own
  pub room : List ℕ
  pub times : Times
  -- demand 3's premises: the part fits, and each operation is ready within the poll limit
  pub assumed : Assumed p (kept_of s room) c times
  -- it is accepted: its start does not refuse it
  pub accepted : refusal (start_of c s room).out.event ≡ false

-- of a raw write that is: it has no data, or its range is accepted and the room is long enough. So neither its place in the script nor what
-- its data are matters
abbrev pub AcceptedExactly : Type 0
AcceptedExactly =
    (s : Session) → Idle s → (a : ℕ) (d room : List ℕ)
    → refusal (start_of (ProgramData a d) s room).out.event
    ≡ not (eqb (length d) 0 || (accepted_range s.settings a (length d) && leb (length d) (length room)))

-- each command of a script
abbrev pub AllIssued : Part → Session → List Call → Type 0
AllIssued p s [] = Unit {0}
AllIssued p s (c ∷ cs) = Issued p s c × AllIssued p s cs

-- ---- what a script comes to
abbrev pub onward : {A B : Type 0} → (A → Option B) → Option A → Option B
onward f (some r) = f r
onward f none = none

-- the driver carries it out on the part, each command from its start to its answer: none if one of them comes to no answer
unfoldable pub carried : (p : Part) (s : Session) (cs : List Call) → AllIssued p s cs → Stand → Option Stand
carried p s [] u x = some x
carried p s (c ∷ cs) u x =
    onward (λ r. carried p s cs u.1 (after x c r)) (served p u.0.times x.state x.session c u.0.room)

-- the same through the 256 bytes of a packed session
unfoldable pub carried_packed : (p : Part) (s : Session) (cs : List Call) → AllIssued p s cs → Packed.Stand → Option Packed.Stand
carried_packed p s [] u x = some x
carried_packed p s (c ∷ cs) u x =
    onward (λ r. carried_packed p s cs u.1 (Packed.after x c r)) (Packed.served p u.0.times x.state x.bytes c u.0.room)

-- there data and lent rooms are bytes: their types say so
abbrev pub AllTyped : (p : Part) (s : Session) (cs : List Call) → AllIssued p s cs → Type 0
AllTyped p s [] u = Unit {0}
AllTyped p s (c ∷ cs) u = TypedCall c × Each (λ (x : ℕ). x < 256) u.0.room × AllTyped p s cs u.1

pub record Comes (p : Part) (state : State) (s : Session) (cs : List Call) (u : AllIssued p s cs) : Type 0 where
  pub to : Stand
  -- every command comes to its answer, and is accepted
  pub is : carried p s cs u (record { state = state; session = s; accepted = [] }) ≡ some to
  pub accepted : to.accepted ≡ cs
  -- settings and parameters are as they were, and another script may begin
  pub kept : kept_of to.session [] ≡ kept_of s []
  pub again : Begins p to.state to.session
  -- from the bytes of a session that the driver itself hands back it comes to the same, packed; and so again
  pub packed : Whole s → AllTyped p s cs u
      → (carried_packed p s cs u (record { state = state; bytes = bytes_of s; accepted = [] })
      ≡ some (record { state = to.state; bytes = bytes_of to.session; accepted = to.accepted })) × Whole to.session

-- two scripts from one beginning: at every address the memory is the same
pub record Same (p : Part) (state : State) (s : Session) (cs ds : List Call) (u : AllIssued p s cs) (v : AllIssued p s ds) : Type 0 where
  pub one : Comes p state s cs u
  pub other : Comes p state s ds v
  pub memory : one.to.state.memory ≡ other.to.state.memory

-- the script ds may stand for cs: it may be issued where cs may, with the same rooms and times if one likes; and however the two are
-- issued, they leave the same
pub record Replaced (cs ds : List Call) : Type 0 where
  pub issued : (p : Part) (s : Session) → AllIssued p s cs → AllIssued p s ds
  pub same : (p : Part) (state : State) (s : Session) → Begins p state s → (u : AllIssued p s cs) (v : AllIssued p s ds) → Same p state s cs ds u v

-- ---- THE RULES, at any place of a script of raw writes
-- the same write twice leaves the memory of one
abbrev pub Twice : Type 0
Twice = (before behind : List Raw) (x : Raw) → Replaced (calls (before ++ (x ∷ x ∷ behind))) (calls (before ++ (x ∷ behind)))

-- two writes give the same memory in either order, overlapping or not
abbrev pub EitherOrder : Type 0
EitherOrder = (before behind : List Raw) (x y : Raw) → Replaced (calls (before ++ (x ∷ y ∷ behind))) (calls (before ++ (y ∷ x ∷ behind)))

-- so do any number of writes in any order
abbrev pub AnyOrder : Type 0
AnyOrder = (xs ys : List Raw) → Permᴰ xs ys → Replaced (calls xs) (calls ys)

-- data ANDed byte by byte
unfoldable pub anded : List ℕ → List ℕ → List ℕ
anded [] e = []
anded (x ∷ d) [] = []
anded (x ∷ d) (y ∷ e) = bit_and x y ∷ anded d e

-- two writes at one address with data of one length equal a single write of the two data ANDed
abbrev pub Merged : Type 0
Merged =
    (before behind : List Raw) (a : ℕ) (d e : List ℕ) → length d ≡ length e
    → Replaced (calls (before ++ (raw a d ∷ raw a e ∷ behind))) (calls (before ++ (raw a (anded d e) ∷ behind)))

-- a command that writes: program_data, or program
abbrev pub Writes : Call → Type 0
Writes c = ((a : ℕ) × (d : List ℕ) × (c ≡ ProgramData a d)) ⊎ ((a : ℕ) × (d : List ℕ) × (v : Bool) × (c ≡ Program a d v))

-- a chip erase after any writes equals a chip erase alone
abbrev pub ErasedAfter : Type 0
ErasedAfter = (before : List Call) (behind : List Raw) → Each Writes before → Replaced (before ++ (Erase ∷ calls behind)) (Erase ∷ calls behind)

pub record RawWrites : Type 0 where
  pub accepted_exactly : AcceptedExactly
  pub twice : Twice
  pub either_order : EitherOrder
  pub any_order : AnyOrder
  pub merged : Merged
  pub erased_after : ErasedAfter
