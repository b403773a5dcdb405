-- What a host can reach keeps parameters from a table, so that demand 3 holds from there on.
use Rattle.std.proofs.Common.{Result, Ok, Err}
use mathlib.Core.Path.{◌≡◌, refl, sym, ap, ◌∙◌, subst}
use mathlib.Core.Bool.{Bool, true, false}
use mathlib.Core.List.{List, [], ◌∷◌}
use Prim.Native.Nat.{ℕ}
use lib.Dec.{ltb}
use lib.ListN.{length, take}
use Rattle.sfdp.specs.declared.SFDPError.{SFDPError}
use Rattle.sfdp.specs.Jesd216.{read_table}
use Rattle.sfdp.specs.declared.FlashParams.{FlashParams}
use Rattle.settings.specs.declared.Settings.{Settings}
use Rattle.settings.specs.declared.SettingError.{SettingError}
use Rattle.erase_plan.specs.Good.{Each}
use Rattle.erase_plan.proofs.Lists.{by_cond, no_true}
use Rattle.commands.specs.declared.Answer.{Answer}
use Rattle.phases.specs.declared.ReadCommand.{ReadCommand}
use Rattle.phases.specs.declared.ReadCommand.TheVariants as Reads
use Rattle.phases.specs.declared.Phase.{Phase}
use Rattle.phases.specs.declared.Phase.TheVariants.{Reading, Erasing, Writing, Polling, Verifying, Resetting, Ended}
use Rattle.phases.specs.Waits.{need_of}
use Rattle.phases.specs.Moves.{is_ended}
use Rattle.flash.specs.declared.Session.{Session}
use Rattle.flash.specs.declared.Stepped.{Stepped}
use Rattle.flash.specs.Waits.{told}
use Rattle.flash.specs.Steps.{with_table, read_on, advanced, is_full, Taken, step_of}
use Rattle.flash.specs.Starts.{unless_runs, set_to, setting, fresh}
use Rattle.meaning.specs.Meaning.{kept_of}
use Rattle.rule.specs.Kept.{Whole}
use Rattle.rule.proofs.Fits.{rule_meets}
use Rattle.nor_model.specs.Demand3.{tried, Possible}
use Rattle.on_part.proofs.Resting.{start_by}
use Rattle.on_part.proofs.Keeping.{demand3_by_value}
use Rattle.driver.specs.Driver.{Driver, Turn, Starts, Steps, Sets, Asks, Stand, call, next, reached, first, Now, scripts, Typed}
use Rattle.driver.specs.ByValue.{by_value}
use Rattle.driver.specs.Demand3.{after, Demand3FromFresh}
use Rattle.driver.proofs.Simulating.{Same, later_same, next_is}
use Rattle.driver.proofs.Agreeing.{Agree, plainly, turns, at_first}

-- parameters, if there are any, are those of a table
pub record FromTable (s : Session) : Type 0 where
  pub read : s.known ≡ true → (minor : ℕ) × (count : ℕ) × (table : List ℕ) × (read_table minor count table ≡ Ok s.params)

abbrev From : Stepped → Type 0
From x = FromTable x.session

told_from : (s : Session) → FromTable s → From (told s)
unfolding told
told_from s h = h

-- ---- a step
table_from : (s : Session) (n minor plen : ℕ) (r : List ℕ) (t : Result FlashParams SFDPError) → read_table minor plen r ≡ t → FromTable s → FromTable (with_table s n t)
unfolding with_table
table_from s n minor plen r (Err x) e h = record { read = h.read }
table_from s n minor plen r (Ok p) e h = record { read = λ k. (minor, plen, r, e) }

read_from : (s : Session) (n : ℕ) (c : ReadCommand) (r : List ℕ) → FromTable s → FromTable (read_on s n c r)
unfolding read_on
read_from s n (Reads.Read legacy a k) r h = record { read = h.read }
read_from s n Reads.Header r h = record { read = h.read }
read_from s n (Reads.Headers more) r h = record { read = h.read }
read_from s n (Reads.Table minor plen ptp) r h = table_from s n minor plen r (read_table minor plen r) refl h
read_from s n (Reads.Before J) r h = record { read = h.read }
read_from s n (Reads.After J) r h = record { read = h.read }
read_from s n Reads.Id r h = record { read = h.read }
read_from s n Reads.IdAgain r h = record { read = h.read }
read_from s n Reads.Protected r h = record { read = h.read }

goes_from : (s : Session) (n : ℕ) (p : Phase) (r room : List ℕ) → FromTable s → FromTable (advanced s n p r room)
unfolding advanced
goes_from s n (Reading c) r room h = read_from s n c r h
goes_from s n (Erasing c enabled) r room h = record { read = h.read }
goes_from s n (Writing c enabled) r room h = record { read = h.read }
goes_from s n (Polling c left) r room h = record { read = h.read }
goes_from s n (Verifying c) r room h = record { read = h.read }
goes_from s n (Resetting c) r room h = record { read = h.read }
goes_from s n (Ended c a) r room h = h

step_from_lem : (s : Session) (failing : Bool) (r room : List ℕ) → FromTable s → From (step_of s failing r room).out
unfolding step_of
step_from_lem s failing r room h =
    by_cond (λ (x : Taken). From x.out) (is_ended s.phase) _ _ (λ t. told_from s h)
    (λ t. by_cond (λ (x : Taken). From x.out) (ltb (length room) (need_of s.phase)) _ _ (λ t. h)
    (λ t. by_cond (λ (x : Taken). From x.out) (is_full s failing r) _ _ (λ t. told_from _ (goes_from s _ s.phase r room h)) (λ t. told_from _ (record { read = h.read }))))

-- ---- a setter
set_from : (s : Session) (a : Result Settings SettingError) → FromTable s → From (set_to s a)
set_from s (Ok x) h = record { read = h.read }
set_from s (Err e) h = h

setting_from : (s : Session) (a : Result Settings SettingError) → FromTable s → From (setting s a)
unfolding setting unless_runs
setting_from s a h = by_cond From (is_ended s.phase) _ _ (λ t. set_from s a h) (λ t. h)

-- ---- each call, and all of them
call_from : (t : Turn) (s : Session) (b : List ℕ) → FromTable s → FromTable (call by_value t (record { held = s; buffer = b })).held
call_from (Starts c buffer k) s b h = start_by s From (λ a. h) (λ p. told_from _ (record { read = h.read })) c (take k buffer)
call_from (Steps f r k) s b h = step_from_lem s f r (take k b) h
call_from (Sets x) s b h = setting_from s (tried x s.settings) h
call_from Asks s b h = told_from s h

pub record Reached (s : Session) : Type 0 where
  pub whole : Whole s
  pub table : FromTable s

reaches : (ts : List Turn) → Each Typed ts → (s : Session) (now : Now) (b : List ℕ) → Agree s now b → FromTable s
    → Reached (reached by_value ts (record { held = s; buffer = b })).held
unfolding reached
reaches [] h s now b q f = record { whole = q.whole; table = f }
reaches (t ∷ ts) h s now b q f =
    let g : Same by_value scripts (λ x. x) Agree s now b t = turns s now b t h.0 q in
    subst (λ (x : Stand by_value). Reached (reached by_value ts x).held) (sym (next_is by_value t s b ∙ ap (λ (l : List ℕ). record { held = (call by_value t (record { held = s; buffer = b })).held; buffer = l }) (later_same by_value scripts (λ x. x) Agree plainly turns t (call by_value t (record { held = s; buffer = b })) (call scripts t (record { held = now; buffer = b })) b g.told g.room)))
    (reaches ts h.1 (call by_value t (record { held = s; buffer = b })).held (call scripts t (record { held = now; buffer = b })).held _ g.again (call_from t s b f))

no_table : FromTable fresh
no_table = record { read = λ k. no_true k }

-- whatever a host does
pub possible : (ts : List Turn) → Each Typed ts → Possible (kept_of (after ts) [])
possible ts h =
    let r : Reached (after ts) = reaches ts h fresh scripts.fresh [] at_first no_table in
    record { sound = (rule_meets (after ts) r.whole.ruled).limits; read = r.table.read }

pub demand3_from_fresh : Demand3FromFresh
demand3_from_fresh p state ts acts busy b h i = demand3_by_value p state (after ts) acts busy b i (possible ts h)
