-- What docs/SCOPE.md says of a session between the transactions holds.
use Rattle.std.proofs.Common.{Result, Ok, Err}
use mathlib.Core.Path.{◌≡◌, refl, sym, ap, ◌∙◌}
use mathlib.Core.Bool.{Bool, true, false}
use mathlib.Core.List.{List}
use Prim.Native.Nat.{ℕ}
use Rattle.settings.specs.declared.Settings.{Settings}
use Rattle.settings.specs.declared.SettingError.{SettingError}
use Rattle.settings.specs.declared.SettingError.TheVariants as Limit
use Rattle.erase_plan.proofs.Lists.{no_true}
use Rattle.commands.specs.declared.Answer.{Answer}
use Rattle.commands.specs.declared.Answer.TheVariants.{Done, BadSetting, BadSession}
use Rattle.commands.specs.Calls.{Call}
use Rattle.commands.specs.Leaves.{refused}
use Rattle.phases.specs.declared.Phase.{Phase}
use Rattle.phases.specs.declared.Phase.TheVariants.{Reading, Erasing, Writing, Polling, Verifying, Resetting, Ended}
use Rattle.flash.specs.declared.Session.{Session}
use Rattle.flash.specs.declared.Event.{Event}
use Rattle.flash.specs.declared.Event.TheVariants.{Answered}
use Rattle.flash.specs.declared.Stepped.{Stepped}
use Rattle.phases.specs.Waits.{need_of}
use Rattle.flash.specs.Waits.{event_of, told}
use Rattle.phases.specs.Moves.{is_ended}
use Rattle.flash.specs.Steps.{step_of}
use Rattle.flash.specs.Starts.{fresh, unless_runs, set_to, setting, with_settings}
use Rattle.meaning.specs.Meaning.{Idle}
use Rattle.nor_model.specs.Demand3.{Setter, tried, settled, set_by}
use Rattle.on_part.specs.OnPart.{start_of, setter_of}
use Rattle.on_part.specs.Between.{Runs, stays, Needs, Between}
use Rattle.on_part.proofs.Resting.{is_answer, start_rests}
use Rattle.on_part.proofs.BetweenSteps.{ended_step, short_step, step_needs, step_repeats}
use Rattle.on_part.proofs.BetweenStarts.{start_runs, start_given}

-- ---- setters: each goes by what it tried
pub setter_runs : (x : Setter) (s : Session) → Runs s → setter_of x s ≡ record { session = s; event = Answered BadSession 0 }
unfolding setting unless_runs
setter_runs x s h = rw h

pub idle_setting : (s : Session) (a : Result Settings SettingError) → Idle s → setting s a ≡ set_to s a
unfolding setting unless_runs
idle_setting s a i = rw i

module _ (x : Setter) (s : Session) (i : Idle s) where
  setter_refused : tried x s.settings ≡ Err Limit.BadSetting → setter_of x s ≡ record { session = s; event = Answered BadSetting 0 }
  setter_refused e = idle_setting s (tried x s.settings) i ∙ ap (set_to s) e

  setter_taken : (new : Settings) → tried x s.settings ≡ Ok new
      → setter_of x s ≡ record { session = with_settings s (set_by x s.settings); event = Answered Done 0 }
  setter_taken new e =
      let q : set_by x s.settings ≡ new = ap (settled s.settings) e in
      idle_setting s (tried x s.settings) i ∙ ap (set_to s) e
      ∙ ap (λ (z : Settings). record { session = with_settings s z; event = Answered Done 0 }) (sym q)

-- ---- an ended command
phase_told : (s : Session) (p : Phase) (a : Answer) → s.phase ≡ p → event_of s p ≡ Answered a s.polls → told s ≡ record { session = s; event = Answered a s.polls }
unfolding told
phase_told s p a e h = ap (λ (z : Event). record { session = s; event = z }) (ap (event_of s) e ∙ h)

abbrev Quiet : Phase → Type 0
Quiet p = (a : Answer) × ((s : Session) (failed : Bool) (reply room : List ℕ) → s.phase ≡ p → step_of s failed reply room ≡ stays s room a s.polls)

ended_quiet : (p : Phase) → is_ended p ≡ true → Quiet p
unfolding is_ended event_of
ended_quiet (Reading c) e = no_true e
ended_quiet (Erasing c enabled) e = no_true e
ended_quiet (Writing c enabled) e = no_true e
ended_quiet (Polling c left) e = no_true e
ended_quiet (Verifying c) e = no_true e
ended_quiet (Resetting c) e = no_true e
ended_quiet (Ended c a) e = (
  a,
  λ s failed reply room h. ended_step s failed reply room (ap is_ended h) ∙ ap (λ (z : Stepped). record { out = z; room = room }) (phase_told s (Ended c a) a h refl),
)

-- ---- a fresh session, and one whose command ended at its start
fresh_step : (failed : Bool) (reply room : List ℕ) → step_of fresh failed reply room ≡ stays fresh room Done 0
unfolding step_of is_ended told event_of
fresh_step failed reply room = refl

start_repeats : (c : Call) (s : Session) (room : List ℕ) (a : Answer) (n : ℕ) → Idle s → (start_of c s room).out.event ≡ Answered a n → refused a ≡ false
    → (failed : Bool) (reply room' : List ℕ) → step_of (start_of c s room).out.session failed reply room' ≡ record { out = (start_of c s room).out; room = room' }
start_repeats c s room a n i h q failed reply room' =
    ended_step (start_of c s room).out.session failed reply room' (start_rests s i c room ∙ ap is_answer h)
    ∙ ap (λ (z : Stepped). record { out = z; room = room' }) (sym ((start_given s i room c).ended a n h q))

-- ---- the need is that of the phase
needs_told : Needs
needs_told = record {
  need = λ s. need_of s.phase;
  started = λ c s room t i h. (start_given s i room c).needs t h;
  kept = λ s failed reply room t r h. step_needs s failed reply room r t h;
  short = short_step;
}

pub between : Between
between = record {
  freshly = fresh_step;
  start_runs = start_runs;
  setter_runs = setter_runs;
  start_refused = λ c s room a n i h q. (start_given s i room c).stayed a n h q;
  setter_refused = setter_refused;
  setter_taken = λ x s new i e. setter_taken x s i new e;
  quiet = ended_quiet;
  repeats = λ s failed reply room i failed' reply' room'. step_repeats s failed reply room failed' reply' room' i;
  repeats_start = start_repeats;
  needs = needs_told;
}
