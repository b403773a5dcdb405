-- Demand 3 of the driver itself: every sequence of commands and setters.
use Rattle.std.proofs.Common.{Result, Ok, Err}
use mathlib.Core.Path.{◌≡◌, refl, sym, subst}
use mathlib.Core.List.{List, [], ◌∷◌}
use Prim.Native.Nat.{ℕ, ◌<◌}
use Rattle.settings.specs.declared.Settings.{Settings}
use Rattle.settings.specs.declared.SettingError.{SettingError}
use Rattle.commands.specs.Calls.{Call}
use Rattle.flash.specs.declared.Session.{Session}
use Rattle.flash.specs.Starts.{unless_runs, setting, with_settings}
use Rattle.meaning.specs.Meaning.{kept_of, Idle}
use Rattle.nor_model.specs.Device.{Part}
use Rattle.nor_model.specs.Replay.{replay}
use Rattle.nor_model.specs.Runs.{Times, Ran}
use Rattle.nor_model.specs.Demand3.{Setter, Act, Command, Setting, tried, settled, set_by, ran_to, Assumed, Promised}
use Rattle.nor_model.proofs.Sequences.{Stands, promised, command_stands, after_all, stands}
use Rattle.nor_model.proofs.Ended.{possible_roomed}
use Rattle.on_part.specs.OnPart.{setter_of, ServedAs, Stand, now_of, after, set_in, Kept as KeptBy, Keeps, Demand3ByValue}
use Rattle.on_part.proofs.Serving.{serves}

-- ---- a setter: an idle session keeps all but its settings, and those are as the setter says
abbrev with_set : Session → Result Settings SettingError → Session
with_set s a = with_settings s (settled s.settings a)

set_session : (s : Session) → Idle s → (a : Result Settings SettingError) → (setting s a).session ≡ with_set s a
unfolding setting unless_runs
set_session s i (Ok t) = rw i
set_session s i (Err e) = rw i

pub setter_session : (x : Setter) (s : Session) → Idle s → (setter_of x s).session ≡ with_settings s (set_by x s.settings)
setter_session x s i = set_session s i (tried x s.settings)

-- ---- what holds between two acts: with any room, since each command is lent its own
pub relent : (first : ℕ → ℕ) (x : Stand) (old room : List ℕ) → Stands first (now_of x old) → Stands first (now_of x room)
relent first x old room h =
    record { idle = h.idle; memory = h.memory; bytes = h.bytes; possible = possible_roomed (kept_of x.session old) room h.possible }

module _ (p : Part) (id : (i : ℕ) → p.id i < 256) (sfdp : (i : ℕ) → p.sfdp i < 256) (first : ℕ → ℕ) where
  -- a command
  module _ (x : Stand) (c : Call) (room : List ℕ) (times : Times) (h : Stands first (now_of x room)) (i : Idle x.session) where
    comes : ServedAs p times x.state x.session c room
    comes = serves p times x.state x.session c room (record { id = id; sfdp = sfdp; memory = h.bytes.below }) i h.possible

    pub command_kept : Assumed p (kept_of x.session room) c times → KeptBy p first x c room times
    command_kept q =
        record {
          to = comes.to;
          is = comes.is;
          promised = subst (λ (r : Ran). Promised p first (now_of x room) c r) (sym comes.same) (promised p first (now_of x room) h c room times q);
          idle = comes.idle;
        }

    pub command_then : (q : Assumed p (kept_of x.session room) c times) → Stands first (now_of (after x c (command_kept q).to) (command_kept q).to.room)
    unfolding command_kept
    command_then q =
        subst (λ (r : Ran). Stands first (ran_to (now_of x room) c r)) (sym comes.same) (command_stands p first (now_of x room) h c room times q)

  -- a setter
  pub setter_then : (a : Setter) (x : Stand) (room : List ℕ) → Stands first (now_of x room) → Idle x.session → Stands first (now_of (set_in a x) room)
  unfolding after_all
  setter_then a x room h i =
      subst (λ (s : Session). Stands first (record { state = x.state; kept = kept_of s room; accepted = x.accepted })) (sym (setter_session a x.session i))
      (stands p first (Setting a ∷ []) (now_of x room) h tt)

  pub setter_idle : (a : Setter) (s : Session) → Idle s → Idle (setter_of a s).session
  setter_idle a s i = subst Idle (sym (setter_session a s i)) i

  keeps : (acts : List Act) (x : Stand) (room : List ℕ) → Stands first (now_of x room) → Idle x.session → Keeps p first x acts
  keeps [] x room h i = tt
  keeps (Command c lent times ∷ acts) x room h i =
      let g : Stands first (now_of x lent) = relent first x room lent h in
      λ q. (
        command_kept x c lent times g i q,
        keeps acts (after x c (command_kept x c lent times g i q).to) (command_kept x c lent times g i q).to.room (command_then x c lent times g i q)
            (command_kept x c lent times g i q).idle,
      )
  keeps (Setting a ∷ acts) x room h i = keeps acts (set_in a x) room (setter_then a x room h i) (setter_idle a x.session i)

pub demand3_by_value : Demand3ByValue
unfolding replay
demand3_by_value p state s acts busy b i k =
    keeps p b.id b.sfdp state.memory acts (record { state = state; session = s; accepted = [] }) []
    (record { idle = busy; memory = refl; bytes = record { below = b.memory }; possible = k }) i
