-- A driver, whatever it keeps; a host that calls it as it likes; and the scripts as such a driver. What a host sees of the one is what
-- it sees of the other.
use Rattle.std.specs.Prelude.{◌≡◌, Bool, true, false, cond, List, [], ◌∷◌, ◌++◌, ℕ, ◌<◌, ◌^◌, ltb, length, take, drop, Result, Ok, Err}
use Rattle.sfdp.specs.Jesd216.{no_params}
use Rattle.settings.specs.declared.Settings.{Settings}
use Rattle.settings.specs.declared.SettingError.{SettingError}
use Rattle.settings.specs.Limits.{defaults}
use Rattle.erase_plan.specs.Good.{Each}
use Rattle.commands.specs.declared.Answer.{Answer}
use Rattle.commands.specs.declared.Answer.TheVariants.{Done, BadSetting, NoRoom, BadSession}
use Rattle.commands.specs.Script.{Sent, Kept, roomed}
use Rattle.commands.specs.Host.{Reply, failed, got, Outcome, Tree, ends, asks, tree}
use Rattle.commands.specs.Wire.{wire}
use Rattle.commands.specs.Calls.{Call, Program, ProgramData, script}
use Rattle.commands.specs.Leaves.{refused, room_need}
use Rattle.nor_model.specs.Demand3.{Setter, EraseOpcode, Capacity, tried}

-- ---- a driver
-- a transaction as a host carries it out: the bytes that it sends, how many it reads then; whether it is a status poll; the µs to wait
-- after it
pub record Carried : Type 0 where
  pub bytes : List ℕ
  pub reply : ℕ
  pub poll : Bool
  pub delay : ℕ

abbrev pub carried : Sent → Carried
carried s = record { bytes = wire s; reply = s.reply; poll = s.poll; delay = s.delay }

-- what a call tells: a transaction to carry out, or an answer with its polls
pub data Told (A : Type 0) : Type 0 where
  sends : Carried → Told A
  answers : A → ℕ → Told A

-- what a call gives back: what is held now, what is told, and the lent room
pub record Back (Held A : Type 0) : Type 0 where
  pub held : Held
  pub told : Told A
  pub room : List ℕ

-- A is how answers are told. A step takes whether the host reports a failure, the reply's bytes, and the lent room. `again` tells what
-- was told last; `keeps` are the settings and the parameters
pub record Driver (A : Type 0) : Type 1 where
  pub Held : Type 0
  pub fresh : Held
  pub start : Call → Held → List ℕ → Back Held A
  pub step : Bool → List ℕ → Held → List ℕ → Back Held A
  pub set : Setter → Held → Back Held A
  pub again : Held → List ℕ → Back Held A
  pub keeps : Held → Kept

-- ---- a host: it makes any calls in any order
pub data Turn : Type 0 where
  -- a start, which is lent the first so many bytes of a buffer
  Starts : Call → List ℕ → ℕ → Turn
  -- a step, which is lent the first so many bytes of the buffer of the command that runs: at each step another number, if one likes
  Steps : Bool → List ℕ → ℕ → Turn
  Sets : Setter → Turn
  Asks : Turn

-- what a host sees of a call
pub record Seen (A : Type 0) : Type 0 where
  pub told : Told A
  pub room : List ℕ
  pub kept : Kept

module _ {A : Type 0} (D : Driver A) where
  -- what a host has: what the driver holds, and the buffer of the command
  pub record Stand : Type 0 where
    pub held : D.Held
    pub buffer : List ℕ

  abbrev pub call : Turn → Stand → Back D.Held A
  call (Starts c buffer k) x = D.start c x.held (take k buffer)
  call (Steps failing r k) x = D.step failing r x.held (take k x.buffer)
  call (Sets s) x = D.set s x.held
  call Asks x = D.again x.held x.buffer

  -- a start that hands out a transaction has its own buffer from then on; what was not lent is as it was
  abbrev pub buffered : Told A → List ℕ → List ℕ → List ℕ
  buffered (sends t) old new = new
  buffered (answers a n) old new = old

  abbrev pub next : Turn → Stand → Stand
  next (Starts c buffer k) x =
      let y = call (Starts c buffer k) x in record { held = y.held; buffer = buffered y.told x.buffer (y.room ++ drop k buffer) }
  next (Steps failing r k) x = let y = call (Steps failing r k) x in record { held = y.held; buffer = y.room ++ drop k x.buffer }
  next (Sets s) x = record { held = (call (Sets s) x).held; buffer = x.buffer }
  next Asks x = record { held = (call Asks x).held; buffer = x.buffer }

  unfoldable pub sees : List Turn → Stand → List (Seen A)
  sees [] x = []
  sees (t ∷ ts) x = let y = call t x in record { told = y.told; room = y.room; kept = D.keeps y.held } ∷ sees ts (next t x)

  abbrev pub first : Stand
  first = record { held = D.fresh; buffer = [] }

  -- where some turns come to
  unfoldable pub reached : List Turn → Stand → Stand
  reached [] x = x
  reached (t ∷ ts) x = reached ts (next t x)

-- ---- THE SCRIPTS as a driver: it holds what is to come of the command, and the room that this needs. An ended command is its outcome
pub record Now : Type 0 where
  pub need : ℕ
  pub tree : Tree

-- the outcome that a failure comes to here: with what is kept, and the polls that were issued
abbrev pub here : Tree → Outcome
here (ends o) = o
here (asks s f) = here (f failed)

abbrev pub replied : Bool → List ℕ → Reply
replied true r = failed
replied false r = got r

abbrev pub outcome : Settings → Outcome → Outcome
outcome s o = record { answer = o.answer; polls = o.polls; kept = record { settings = s; known = o.kept.known; params = o.kept.params; room = o.kept.room } }

abbrev pub tells : Tree → Told Answer
tells (ends o) = answers o.answer o.polls
tells (asks s f) = sends (carried s)

-- nothing is changed, and this is answered
abbrev pub stays : Now → List ℕ → Answer → ℕ → Back Now Answer
stays now room a n = record { held = now; told = answers a n; room = room }

-- what is to come is told. The room is as the script says, and beyond the need as it was lent
abbrev pub goes : Now → List ℕ → Back Now Answer
goes now room = record { held = now; told = tells now.tree; room = take now.need (here now.tree).kept.room ++ drop now.need room }

-- a start that is refused changes nothing
abbrev pub begins : Now → Now → Tree → List ℕ → Back Now Answer
begins old new (ends o) room = cond (refused o.answer) (stays old room o.answer 0) (goes new room)
begins old new (asks s f) room = goes new room

abbrev pub script_of : Call → Kept → Now
script_of c w = record { need = room_need c w; tree = tree 0 (script c w) }

-- 13 while a command runs
abbrev pub starts : Call → Now → Tree → List ℕ → Back Now Answer
starts c now (ends o) room = let new = script_of c (roomed o.kept room) in begins now new new.tree room
starts c now (asks s f) room = stays now room BadSession 0

abbrev pub sets : Now → Outcome → Result Settings SettingError → Back Now Answer
sets now o (Ok s) = record { held = record { need = now.need; tree = ends (outcome s o) }; told = answers Done 0; room = [] }
sets now o (Err e) = stays now [] BadSetting 0

abbrev pub sets_in : Setter → Now → Tree → Back Now Answer
sets_in x now (ends o) = sets now o (tried x o.kept.settings)
sets_in x now (asks s f) = stays now [] BadSession 0

-- an ended command repeats its answer; 11 with too little room, and the reply is not looked at; else the script goes on
abbrev pub steps : Bool → List ℕ → Now → Tree → List ℕ → Back Now Answer
steps failing r now (ends o) room = stays now room o.answer o.polls
steps failing r now (asks s f) room =
    cond (ltb (length room) now.need) (stays now room (NoRoom now.need) (here now.tree).polls)
    (goes (record { need = now.need; tree = f (replied failing r) }) room)

abbrev pub scripts : Driver Answer
scripts = record {
  Held = Now;
  fresh = record { need = 0; tree = ends (record { answer = Done; polls = 0; kept = record { settings = defaults; known = false; params = no_params; room = [] } }) };
  start = λ c now room. starts c now now.tree room;
  step = λ failing r now room. steps failing r now now.tree room;
  set = λ x now. sets_in x now now.tree;
  again = λ now room. record { held = now; told = tells now.tree; room = room };
  keeps = λ now. roomed (here now.tree).kept [];
}

-- ---- what the types say of a turn: bytes are below 256, an opcode is one, a capacity has 64 bits
abbrev pub OfBytes : List ℕ → Type 0
OfBytes l = Each (λ (x : ℕ). x < 256) l

pub record Typed (t : Turn) : Type 0 where
  pub buffer : (c : Call) (l : List ℕ) (k : ℕ) → t ≡ Starts c l k → OfBytes l
  pub programs : (a : ℕ) (d : List ℕ) (v : Bool) (l : List ℕ) (k : ℕ) → t ≡ Starts (Program a d v) l k → OfBytes d
  pub writes : (a : ℕ) (d l : List ℕ) (k : ℕ) → t ≡ Starts (ProgramData a d) l k → OfBytes d
  pub reply : (failing : Bool) (r : List ℕ) (k : ℕ) → t ≡ Steps failing r k → OfBytes r
  pub opcode : (n : ℕ) → t ≡ Sets (EraseOpcode n) → n < 256
  pub capacity : (n : ℕ) → t ≡ Sets (Capacity n) → n < 2 ^ 64

-- what is seen of the scripts, as a driver shows it
abbrev pub shown : {A : Type 0} → (Told Answer → Told A) → List (Seen Answer) → List (Seen A)
shown show [] = []
shown show (x ∷ xs) = record { told = show x.told; room = x.room; kept = x.kept } ∷ shown show xs

-- THE SCRIPTS ARE FOLLOWED: from a fresh session on, whatever calls a host makes, it sees what the scripts show
abbrev pub Followed : {A : Type 0} → (Told Answer → Told A) → Driver A → Type 0
Followed show D = (ts : List Turn) → Each Typed ts → sees D ts (first D) ≡ shown show (sees scripts ts (first scripts))
