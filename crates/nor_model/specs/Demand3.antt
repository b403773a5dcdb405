-- Demand 3: on a part that fits, the flash always holds what the accepted commands say.
use Rattle.std.specs.Prelude.{◌≡◌, Bool, true, false, cond, ◌⊎◌, List, [], ◌∷◌, ◌++◌, ℕ, ◌+◌, ◌≤◌, ◌<◌, length, take, drop, Result, Ok, Err}
use Rattle.std.proofs.Math.Option.{some}
use Rattle.sfdp.specs.Jesd216.{read_table}
use Rattle.settings.specs.declared.Settings.{Settings}
use Rattle.settings.specs.declared.SettingError.{SettingError}
use Rattle.settings.specs.Limits.{Sound, set_address_bytes, set_page_size, set_erase_size, set_erase_opcode, set_poll_limit, set_capacity, clear_capacity}
use Rattle.erase_plan.specs.Good.{Each, Mult}
use Rattle.commands.specs.Answers.{number_of}
use Rattle.commands.specs.declared.Answer.{Answer}
use Rattle.commands.specs.Script.{Sent, Kept, Cmd, roomed}
use Rattle.commands.specs.Wire.{wire}
use Rattle.commands.specs.Calls.{Call, Read, LegacyRead, ReadParams, Erase, EraseSectors, Program, ProgramData, Reset, ReadJedecId, IsBusy, IsProtected, script}
use Rattle.commands.specs.Bounds.{limit}
use Rattle.commands.specs.Leaves.{refused}
use Rattle.nor_model.specs.Device.{Part, State, address_in, bytes_from}
use Rattle.nor_model.specs.Fits.{Fits, Apart}
use Rattle.nor_model.specs.Replay.{replay}
use Rattle.nor_model.specs.Runs.{Times, Ran, exec}

-- ---- what happens: commands and setters
pub data Setter : Type 0 where
  AddressBytes PageSize EraseSize EraseOpcode PollLimit Capacity : ℕ → Setter
  NoCapacity : Setter

-- a command, with the room lent for it and the busy times of its operations; or a setter
pub data Act : Type 0 where
  Command : Call → List ℕ → Times → Act
  Setting : Setter → Act

-- whether a setter takes its argument: what crate settings says of it
abbrev pub tried : Setter → Settings → Result Settings SettingError
tried (AddressBytes n) s = set_address_bytes s n
tried (PageSize n) s = set_page_size s n
tried (EraseSize n) s = set_erase_size s n
tried (EraseOpcode n) s = Ok (set_erase_opcode s n)
tried (PollLimit n) s = set_poll_limit s n
tried (Capacity n) s = Ok (set_capacity s n)
tried NoCapacity s = Ok (clear_capacity s)

-- a refused setter changes nothing
abbrev pub settled : Settings → Result Settings SettingError → Settings
settled s (Ok t) = t
settled s (Err e) = s

abbrev pub set_by : Setter → Settings → Settings
set_by x s = settled s (tried x s)

-- ---- where a sequence stands: the part's state, what the driver keeps (each command is lent its own room), the accepted commands
pub record Now : Type 0 where
  pub state : State
  pub kept : Kept
  pub accepted : List Call

-- a command is accepted unless it is refused at the start
abbrev pub ran_to : Now → Call → Ran → Now
ran_to now c r = record { state = r.state; kept = r.kept; accepted = cond (refused r.answer) now.accepted (now.accepted ++ (c ∷ [])) }

abbrev pub set_to : Setter → Now → Now
set_to x now = record {
  state = now.state;
  kept = record { settings = set_by x now.kept.settings; known = now.kept.known; params = now.kept.params; room = now.kept.room };
  accepted = now.accepted;
}

-- ---- the premises
-- what a driver can keep: settings within their limits, parameters from a table if there are any
pub record Possible (w : Kept) : Type 0 where
  pub sound : Sound w.settings
  pub read : w.known ≡ true → (minor : ℕ) × (count : ℕ) × (table : List ℕ) × (read_table minor count table ≡ Ok w.params)

-- the commands that ask the part what it is
abbrev pub Asking : Call → Type 0
Asking c = (c ≡ ReadParams) ⊎ (c ≡ ReadJedecId)

pub record Assumed (p : Part) (w : Kept) (c : Call) (times : Times) : Type 0 where
  -- when a command starts the part fits; to ask it what it is, for settings that fit, its opcodes need only be apart
  pub fits : Fits p w ⊎ (Asking c × Apart p)
  -- each operation is ready within the poll limit
  pub ready : (past : List (List ℕ)) → times past ≤ limit w
  -- data are bytes: their type says so
  pub bytes : (a : ℕ) (d : List ℕ) (v : Bool) → c ≡ Program a d v → Each (λ (x : ℕ). x < 256) d

-- ---- the promises
-- the range that a command erases for: address and length
abbrev pub range : Call → ℕ × ℕ
range (Read a n) = (0, 0)
range (LegacyRead a n) = (0, 0)
range ReadParams = (0, 0)
range Erase = (0, 0)
range (EraseSectors a n) = (a, n)
range (Program a d v) = (a, length d)
range (ProgramData a d) = (0, 0)
range Reset = (0, 0)
range ReadJedecId = (0, 0)
range IsBusy = (0, 0)
range IsProtected = (0, 0)

-- a transaction with an erase opcode, its address as the part takes it: aligned to its size, its block touches the range. (Of a command
-- without a range there is none)
pub record WellErased (p : Part) (r : ℕ × ℕ) (t : Sent) (size : ℕ) : Type 0 where
  pub aligned : Mult size (address_in p.addressed (drop 1 (wire t)))
  pub before : address_in p.addressed (drop 1 (wire t)) < r.0 + r.1
  pub behind : r.0 < address_in p.addressed (drop 1 (wire t)) + size

abbrev pub Erases : Part → ℕ × ℕ → Sent → Type 0
Erases p r t = (size : ℕ) → p.erases t.opcode ≡ some size → WellErased p r t size

-- of a command that is run at some moment of a sequence, where `first` are the first contents
pub record Promised (p : Part) (first : ℕ → ℕ) (now : Now) (c : Call) (r : Ran) : Type 0 where
  -- the memory is that of the replay of the accepted commands
  pub contents : (i : ℕ) → i < p.capacity → r.state.memory i ≡ replay (ran_to now c r).accepted first i
  -- the part is idle again
  pub idle : r.state.busy ≡ 0
  -- an accepted command ends Done, unless it asks the part what it is: the reply decides then
  pub finishes : (Asking c → ⊥) → refused r.answer ≡ false → number_of r.answer ≡ 0
  -- the room of an accepted read begins with the replayed bytes of the moment
  pub reads : (a n : ℕ) → (c ≡ Read a n) ⊎ (c ≡ LegacyRead a n) → refused r.answer ≡ false
      → take n r.kept.room ≡ bytes_from (replay now.accepted first) a n
  -- every erase is aligned and touches the range
  pub erases : Each (Erases p (range c)) r.sent

-- ---- a driver: what each command sends
module _ (driver : Call → Cmd Answer) where
  abbrev pub ran_on : Part → Now → Call → List ℕ → Times → Ran
  ran_on p now c room times = exec p times [] now.state (driver c (roomed now.kept room))

  abbrev pub next : Part → Act → Now → Now
  next p (Command c room times) now = ran_to now c (ran_on p now c room times)
  next p (Setting x) now = set_to x now

  -- the premises hold at each command of a sequence
  abbrev pub Premises : Part → Now → List Act → Type 0
  Premises p now [] = Unit {0}
  Premises p now (Command c room times ∷ acts) = Assumed p now.kept c times × Premises p (next p (Command c room times) now) acts
  Premises p now (Setting x ∷ acts) = Premises p (next p (Setting x) now) acts

  -- so do the promises
  abbrev pub Promises : Part → (ℕ → ℕ) → Now → List Act → Type 0
  Promises p first now [] = Unit {0}
  Promises p first now (Command c room times ∷ acts) =
      Promised p first now c (ran_on p now c room times) × Promises p first (next p (Command c room times) now) acts
  Promises p first now (Setting x ∷ acts) = Promises p first (next p (Setting x) now) acts

  -- for every part, idle at first, its memory bytes, and for every sequence
  abbrev pub Meets : Type 0
  Meets =
      (p : Part) (s : State) (w : Kept) (acts : List Act) → s.busy ≡ 0 → ((i : ℕ) → s.memory i < 256) → Possible w
      → let now : Now = record { state = s; kept = w; accepted = [] } in
      Premises p now acts → Promises p s.memory now acts

-- the driver of the scripts does
abbrev pub Demand3 : Type 0
Demand3 = Meets script
