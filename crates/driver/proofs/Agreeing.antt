-- The driver by value and the scripts agree call by call.
use Rattle.std.proofs.Common.{Result, Ok, Err}
use mathlib.Core.Path.{◌≡◌, refl, sym, ap, ◌∙◌, subst}
use mathlib.Core.Bool.{Bool, true, false, cond}
use mathlib.Core.Logic.{◌⊎◌, inl, inr, ⊎_elim}
use mathlib.Core.List.{List, [], ◌∷◌, ◌++◌}
use mathlib.Core.Option.{Option, some, none}
use Prim.Native.Nat.{ℕ, ◌+◌, ◌≤◌, ◌<◌, ◌^◌}
use native.Mathlib.Omega.{arith}
use lib.Dec.{ltb}
use lib.ListN.{length, take, drop, length-append, length-take, take-append-drop}
use lib.Seq.{take-append-le, take_at, take-take, length-take-le}
use borrow.Author.Tests.{le-ltb, lt-ltb, ltb-true, ltb-false}
use Rattle.settings.specs.declared.Settings.{Settings}
use Rattle.settings.specs.declared.SettingError.{SettingError}
use Rattle.erase_plan.specs.Good.{Each}
use Rattle.erase_plan.proofs.Lists.{by_cond, no_true, no_false, each_append}
use Rattle.commands.specs.declared.Answer.{Answer}
use Rattle.commands.specs.declared.Answer.TheVariants.{Done, BadSetting, Access, NoRoom, BadSession}
use Rattle.commands.specs.Script.{Sent, Kept, roomed}
use Rattle.commands.specs.Host.{Reply, failed, got, Outcome, Tree, ends, asks, tree, play}
use Rattle.commands.specs.Calls.{Call, Read, LegacyRead, ReadParams, Erase, EraseSectors, Program, ProgramData, Reset, ReadJedecId, IsBusy, IsProtected, script}
use Rattle.commands.specs.Leaves.{refused, room_need, Beyond}
use Rattle.commands.proofs.Left.{leaves}
use Rattle.phases.specs.declared.Phase.{Phase}
use Rattle.phases.specs.declared.Phase.TheVariants.{Reading, Erasing, Writing, Polling, Verifying, Resetting, Ended}
use Rattle.phases.specs.declared.Transaction.{Transaction}
use Rattle.phases.specs.Waits.{need_of}
use Rattle.phases.specs.Moves.{is_ended, ends_as, room_after}
use Rattle.flash.specs.declared.Session.{Session}
use Rattle.flash.specs.declared.Event.{Event}
use Rattle.flash.specs.declared.Event.TheVariants.{Send, Answered}
use Rattle.flash.specs.declared.Stepped.{Stepped}
use Rattle.flash.specs.Waits.{waits_on, event_of, told}
use Rattle.flash.specs.Steps.{counted, is_full, Taken, step_of}
use Rattle.flash.specs.Starts.{setting, set_to, with_settings, fresh}
use Rattle.meaning.specs.Meaning.{kept_of, sent_of, is_failed, bytes_in, takes, Bytes, Idle}
use Rattle.meaning.proofs.Rest.{meaning, seen, Fit}
use Rattle.meaning.proofs.Stepping.{seen_told, step_short}
use Rattle.meaning.proofs.Follows.{Onward, onward, Given, answers as gave, tells as goes_on}
use Rattle.meaning.proofs.Fitting.{room_kept}
use Rattle.meaning.proofs.Starting.{Begun}
use Rattle.rule.specs.Kept.{Whole}
use Rattle.rule.proofs.Whole.{keeps_whole}
use Rattle.rule.proofs.Steps.{few_polls}
use Rattle.rule.proofs.Fits.{rule_fits, rule_means}
use Rattle.nor_model.specs.Demand3.{Setter, AddressBytes, PageSize, EraseSize, EraseOpcode, PollLimit, Capacity, NoCapacity, tried}
use Rattle.on_part.specs.OnPart.{start_of, setter_of}
use Rattle.on_part.proofs.Resting.{is_answer, told_rests, told_runs, told_ends, start_rests}
use Rattle.on_part.proofs.BetweenSteps.{ended_step, short_step, step_needs}
use Rattle.on_part.proofs.BetweenStarts.{start_runs, start_given}
use Rattle.on_part.proofs.Rules.{setter_runs, idle_setting}
use Rattle.on_part.proofs.Serving.{each_below, begun}
use Rattle.driver.specs.Driver.{carried, Told, sends, answers, Back, Driver, Turn, Starts, Steps, Sets, Asks, Seen, call, shown, Now, here, replied, outcome, tells, stays, goes, begins, script_of, starts, sets, sets_in, steps, scripts, OfBytes, Typed, Followed}
use Rattle.driver.specs.ByValue.{told_by, back_of, by_value, FollowedByValue}
use Rattle.driver.proofs.Splitting.{sent_split, behind, step_split, failure_blind}
use Rattle.driver.proofs.Simulating.{Shows, Same, same_by, simulated}
use Rattle.driver.proofs.Rooms.{take_bytes, drop_bytes, step_room, start_room_lem}

-- ---- what a session and the scripts' state agree on
-- what is to come of a running session, with this room
abbrev pub to_come : Session → List ℕ → Tree
to_come s room = asks (sent_of (waits_on s s.phase) room) (λ r. seen (takes s r room).out (takes s r room).room)

pub record Idles (s : Session) (now : Now) : Type 0 where
  pub ending : Outcome
  pub is : now.tree ≡ ends ending
  pub ended : Idle s
  pub event : told s ≡ record { session = s; event = Answered ending.answer ending.polls }
  pub kept : kept_of s [] ≡ roomed ending.kept []

pub record Waits (s : Session) (now : Now) (buffer : List ℕ) : Type 0 where
  pub runs : is_ended s.phase ≡ false
  pub room : List ℕ
  pub is : now ≡ record { need = need_of s.phase; tree = to_come s room }
  pub enough : need_of s.phase ≤ length room
  pub long : need_of s.phase ≤ length buffer
  pub same : take (need_of s.phase) buffer ≡ take (need_of s.phase) room

pub record Agree (s : Session) (now : Now) (buffer : List ℕ) : Type 0 where
  pub whole : Whole s
  pub bytes : OfBytes buffer
  pub state : Idles s now ⊎ Waits s now buffer

abbrev pub SameAs : Session → Now → List ℕ → Turn → Type 0
SameAs s now b t = Same by_value scripts (λ x. x) Agree s now b t

-- ---- small laws
pub told_session : (s : Session) → (told s).session ≡ s
unfolding told
told_session s = refl

seen_ends : (s : Session) (room : List ℕ) (a : Answer) (n : ℕ) → (told s).event ≡ Answered a n
    → seen (told s) room ≡ ends (record { answer = a; polls = n; kept = kept_of s room })
unfolding seen told
seen_ends s room a n h = rw h

told_is : (s : Session) (a : Answer) (n : ℕ) → (told s).event ≡ Answered a n → told s ≡ record { session = s; event = Answered a n }
unfolding told
told_is s a n e = ap (λ (z : Event). record { session = s; event = z }) e

kept_there : (now : Now) (o : Outcome) → now.tree ≡ ends o → roomed (here now.tree).kept [] ≡ roomed o.kept []
kept_there now o e = ap (λ (z : Tree). roomed (here z).kept []) e

-- what is kept at a transaction, and the polls that were issued
here_waits : (s : Session) (room : List ℕ) → is_ended s.phase ≡ false → need_of s.phase ≤ length room
    → here (to_come s room) ≡ record { answer = Access; polls = counted s; kept = kept_of s room }
unfolding told event_of seen is_full
here_waits s room e h = ap (λ (x : Taken). here (seen x.out x.room)) (step_short s room e h true [] refl)

-- as many bytes as were lent come back
pub step_long : (s : Session) (failing : Bool) (r room : List ℕ) → length (step_of s failing r room).room ≡ length room
unfolding step_of
step_long s failing r room =
    by_cond (λ (x : Taken). length x.room ≡ length room) (is_ended s.phase) _ _ (λ t. refl)
    (λ t. by_cond (λ (x : Taken). length x.room ≡ length room) (ltb (length room) (need_of s.phase)) _ _ (λ t. refl)
    (λ t. by_cond (λ (x : Taken). length x.room ≡ length room) (is_full s failing r) _ _ (λ t. room_kept s.phase r room) (λ t. refl)))

pub of_bytes : (l : List ℕ) → OfBytes l → Bytes l
of_bytes l h = record { below = λ i. each_below l i h }

reply_bytes : (failing : Bool) (r : List ℕ) → OfBytes r → Bytes (bytes_in (replied failing r))
reply_bytes true r h = of_bytes [] tt
reply_bytes false r h = of_bytes r h

-- a reply as the step takes it
takes_replied : (s : Session) (failing : Bool) (r room : List ℕ) → takes s (replied failing r) room ≡ step_of s failing r room
takes_replied s true r room = sym (failure_blind s r room)
takes_replied s false r room = refl

-- ---- what is handed back can be packed again
pub start_whole : (c : Call) (s : Session) (room : List ℕ) → Whole s → Whole (start_of c s room).out.session
start_whole (Read a n) s room h = keeps_whole.reads s h _ _ _ _
start_whole (LegacyRead a n) s room h = keeps_whole.reads s h _ _ _ _
start_whole ReadParams s room h = keeps_whole.reads_params s h _
start_whole Erase s room h = keeps_whole.erases s h
start_whole (EraseSectors a n) s room h = keeps_whole.erases_sectors s h _ _
start_whole (Program a d v) s room h = keeps_whole.programs s h _ _ _ _
start_whole (ProgramData a d) s room h = keeps_whole.programs_data s h _ _ _
start_whole Reset s room h = keeps_whole.resets s h
start_whole ReadJedecId s room h = keeps_whole.reads_id s h
start_whole IsBusy s room h = keeps_whole.tells_busy s h
start_whole IsProtected s room h = keeps_whole.tells_protected s h

pub set_whole : (a : Setter) (s : Session) → Typed (Sets a) → Whole s → Whole (setter_of a s).session
set_whole (AddressBytes n) s t h = keeps_whole.sets_address_bytes s h n
set_whole (PageSize n) s t h = keeps_whole.sets_page_size s h n
set_whole (EraseSize n) s t h = keeps_whole.sets_erase_size s h n
set_whole (EraseOpcode n) s t h = keeps_whole.sets_erase_opcode s h n (t.opcode n refl)
set_whole (PollLimit n) s t h = keeps_whole.sets_poll_limit s h n
set_whole (Capacity n) s t h = keeps_whole.sets_capacity s h n (t.capacity n refl)
set_whole NoCapacity s t h = keeps_whole.clears_capacity s h

-- ---- setters
event_set : (s : Session) (x : Settings) (p : Phase) → is_ended p ≡ true → event_of (with_settings s x) p ≡ event_of s p
unfolding is_ended event_of
event_set s x (Reading c) e = no_true e
event_set s x (Erasing c enabled) e = no_true e
event_set s x (Writing c enabled) e = no_true e
event_set s x (Polling c left) e = no_true e
event_set s x (Verifying c) e = no_true e
event_set s x (Resetting c) e = no_true e
event_set s x (Ended c a) e = refl

told_set : (s : Session) (x : Settings) (a : Answer) (n : ℕ) → Idle s → told s ≡ record { session = s; event = Answered a n }
    → told (with_settings s x) ≡ record { session = with_settings s x; event = Answered a n }
unfolding told
told_set s x a n i e =
    ap (λ (z : Event). record { session = with_settings s x; event = z }) (event_set s x s.phase i ∙ ap (λ (z : Stepped). z.event) e)

module _ (s : Session) (now : Now) (b : List ℕ) (q : Agree s now b) (i : Idles s now) (x : Setter) (t : Typed (Sets x)) where
  there : (a : Result Settings SettingError) → tried x s.settings ≡ a → sets_in x now now.tree ≡ sets now i.ending a
  there a e =
      ap (λ (z : Tree). sets_in x now z) i.is
      ∙ ap (λ (z : Settings). sets now i.ending (tried x z)) (sym (ap (λ (w : Kept). w.settings) i.kept))
      ∙ ap (sets now i.ending) e

  here' : (a : Result Settings SettingError) → tried x s.settings ≡ a → setter_of x s ≡ set_to s a
  here' a e = idle_setting s (tried x s.settings) i.ended ∙ ap (set_to s) e

  idle_sets : SameAs s now b (Sets x)
  idle_sets = by (tried x s.settings) refl
    where
      by : (a : Result Settings SettingError) → tried x s.settings ≡ a → SameAs s now b (Sets x)
      by (Ok new) e =
          same_by by_value scripts (λ x. x) Agree s now b (Sets x) (back_of (record { out = set_to s (Ok new); room = [] })) (sets now i.ending (Ok new))
          (ap (λ (z : Stepped). back_of (record { out = z; room = [] })) (here' (Ok new) e)) (there (Ok new) e) refl refl
          (ap (λ (w : Kept). record { settings = new; known = w.known; params = w.params; room = [] }) i.kept)
          (record {
            whole = subst (λ (z : Stepped). Whole z.session) (here' (Ok new) e) (set_whole x s t q.whole);
            bytes = q.bytes;
            state = inl (record {
              ending = outcome new i.ending;
              is = refl;
              ended = i.ended;
              event = told_set s new i.ending.answer i.ending.polls i.ended i.event;
              kept = ap (λ (w : Kept). record { settings = new; known = w.known; params = w.params; room = [] }) i.kept;
            });
          })
      by (Err z) e =
          same_by by_value scripts (λ x. x) Agree s now b (Sets x) (back_of (record { out = set_to s (Err z); room = [] })) (sets now i.ending (Err z))
          (ap (λ (z : Stepped). back_of (record { out = z; room = [] })) (here' (Err z) e)) (there (Err z) e) refl refl
          (i.kept ∙ sym (kept_there now i.ending i.is)) q

-- ---- a step of an ended command
idle_steps : (s : Session) (now : Now) (b : List ℕ) → Agree s now b → (i : Idles s now) (f : Bool) (r : List ℕ) (k : ℕ) → SameAs s now b (Steps f r k)
idle_steps s now b q i f r k =
    let o : Outcome = i.ending in
    same_by by_value scripts (λ x. x) Agree s now b (Steps f r k)
    (record { held = s; told = answers o.answer o.polls; room = take k b }) (stays now (take k b) o.answer o.polls)
    (ap back_of (ended_step s f r (take k b) i.ended) ∙ ap (λ (z : Stepped). back_of (record { out = z; room = take k b })) i.event)
    (ap (λ (z : Tree). steps f r now z (take k b)) i.is) refl refl (i.kept ∙ sym (kept_there now o i.is))
    (subst (λ (l : List ℕ). Agree s now l) (sym (take-append-drop k b)) q)

idle_asks : (s : Session) (now : Now) (b : List ℕ) → Agree s now b → Idles s now → SameAs s now b Asks
idle_asks s now b q i =
    let o : Outcome = i.ending in
    same_by by_value scripts (λ x. x) Agree s now b Asks
    (record { held = s; told = answers o.answer o.polls; room = b }) (stays now b o.answer o.polls)
    (ap (λ (z : Stepped). back_of (record { out = z; room = b })) i.event)
    (ap (λ (z : Tree). record { held = now; told = tells z; room = b }) i.is) refl refl (i.kept ∙ sym (kept_there now o i.is)) q

-- ---- calls while a command runs
module _ (s : Session) (now : Now) (b : List ℕ) (q : Agree s now b) (w : Waits s now b) where
  abbrev waiting : Now
  waiting = record { need = need_of s.phase; tree = to_come s w.room }

  kept_waits : kept_of s [] ≡ roomed (here now.tree).kept []
  kept_waits =
      sym (ap (λ (z : Now). roomed (here z.tree).kept []) w.is
      ∙ ap (λ (z : Outcome). roomed z.kept []) (here_waits s w.room w.runs w.enough))

  run_starts : (c : Call) (buffer : List ℕ) (k : ℕ) → SameAs s now b (Starts c buffer k)
  run_starts c buffer k =
      same_by by_value scripts (λ x. x) Agree s now b (Starts c buffer k)
      (record { held = s; told = answers BadSession 0; room = take k buffer }) (stays now (take k buffer) BadSession 0)
      (ap back_of (start_runs c s (take k buffer) w.runs)) (ap (λ (z : Now). starts c now z.tree (take k buffer)) w.is) refl refl kept_waits q

  run_sets : (x : Setter) → SameAs s now b (Sets x)
  run_sets x =
      same_by by_value scripts (λ x. x) Agree s now b (Sets x)
      (record { held = s; told = answers BadSession 0; room = [] }) (stays now [] BadSession 0)
      (ap (λ (z : Stepped). back_of (record { out = z; room = [] })) (setter_runs x s w.runs)) (ap (λ (z : Now). sets_in x now z.tree) w.is) refl refl kept_waits q

  -- the transaction is told again
  run_asks : SameAs s now b Asks
  run_asks =
      let a : List ℕ = take (need_of s.phase) b in
      let exact : length a ≡ need_of s.phase = length-take-le (need_of s.phase) b w.long in
      let fit : Fit s = rule_fits s q.whole.ruled in
      let t : Transaction = waits_on s s.phase in
      let own : sent_of t b ≡ sent_of t a = ap (sent_of t) (sym (take-append-drop (need_of s.phase) b)) ∙ sent_split s fit a (drop (need_of s.phase) b) exact in
      let other : sent_of t w.room ≡ sent_of t a =
      ap (sent_of t) (sym (take-append-drop (need_of s.phase) w.room) ∙ ap (λ (l : List ℕ). l ++ drop (need_of s.phase) w.room) (sym w.same))
      ∙ sent_split s fit a (drop (need_of s.phase) w.room) exact in
      same_by by_value scripts (λ x. x) Agree s now b Asks
      (record { held = s; told = sends (carried (sent_of t b)); room = b }) (record { held = now; told = sends (carried (sent_of t w.room)); room = b })
      (ap (λ (z : Session). record { held = z; told = told_by (told s).event b; room = b }) (told_session s)
      ∙ ap (λ (z : Event). record { held = s; told = told_by z b; room = b }) (told_runs s w.runs))
      (ap (λ (z : Now). record { held = now; told = tells z.tree; room = b }) w.is)
      (ap (λ (u : Sent). sends (carried u)) (own ∙ sym other)) refl kept_waits q

  -- a step with too little room
  run_short : (f : Bool) (r : List ℕ) (k : ℕ) → length (take k b) < need_of s.phase → SameAs s now b (Steps f r k)
  run_short f r k h =
      same_by by_value scripts (λ x. x) Agree s now b (Steps f r k)
      (record { held = s; told = answers (NoRoom (need_of s.phase)) (counted s); room = take k b })
      (stays now (take k b) (NoRoom (need_of s.phase)) (counted s))
      (ap back_of (short_step s f r (take k b) w.runs h))
      (subst (λ (z : Now). steps f r z z.tree (take k b) ≡ stays z (take k b) (NoRoom (need_of s.phase)) (counted s)) (sym w.is) explicit)
      refl refl kept_waits (subst (λ (l : List ℕ). Agree s now l) (sym (take-append-drop k b)) q)
    where
      explicit : steps f r waiting waiting.tree (take k b) ≡ stays waiting (take k b) (NoRoom (need_of s.phase)) (counted s)
      explicit =
          ap (λ (t : Bool). cond t (stays waiting (take k b) (NoRoom (need_of s.phase)) (here (to_come s w.room)).polls)
          (goes (record { need = need_of s.phase; tree = seen (takes s (replied f r) w.room).out (takes s (replied f r) w.room).room }) (take k b))) (lt-ltb (length (take k b)) (need_of s.phase) h)
          ∙ ap (λ (z : Outcome). stays waiting (take k b) (NoRoom (need_of s.phase)) z.polls) (here_waits s w.room w.runs w.enough)

  -- ---- a step with enough
  module _ (f : Bool) (r : List ℕ) (typed : OfBytes r) (k : ℕ) (fits : need_of s.phase ≤ length (take k b)) where
    abbrev n : ℕ
    n = need_of s.phase

    abbrev lent : List ℕ
    lent = take k b

    abbrev a : List ℕ
    a = take n b

    abbrev S : Taken
    S = step_of s f r a

    fit : Fit s
    fit = rule_fits s q.whole.ruled

    exact : length a ≡ n
    exact = length-take-le n b w.long

    lent_is : lent ≡ a ++ drop n lent
    lent_is =
        sym (take-append-drop n lent)
        ∙ ap (λ (l : List ℕ). l ++ drop n lent) (take-take n k b (omega (arith, fits, length-take k b)))

    room_is : w.room ≡ a ++ drop n w.room
    room_is = sym (take-append-drop n w.room) ∙ ap (λ (l : List ℕ). l ++ drop n w.room) (sym w.same)

    by_lent : step_of s f r lent ≡ behind (drop n lent) S
    by_lent = ap (step_of s f r) lent_is ∙ step_split s w.runs fit f r a (drop n lent) exact

    by_room : takes s (replied f r) w.room ≡ behind (drop n w.room) S
    by_room = takes_replied s f r w.room ∙ ap (step_of s f r) room_is ∙ step_split s w.runs fit f r a (drop n w.room) exact

    few : s.polls + 1 < 2 ^ 64
    few = omega (arith, few_polls s q.whole.ruled)

    on : Onward s w.room (replied f r)
    on = onward s w.room (replied f r) (reply_bytes f r typed) fit w.runs w.enough few

    -- the session and the room that follow
    abbrev s' : Session
    s' = on.session

    abbrev ρ : List ℕ
    ρ = S.room ++ drop n w.room

    same_out : S.out ≡ told s'
    same_out = sym (ap (λ (x : Taken). x.out) by_room) ∙ ap (λ (x : Taken). x.out) on.is

    same_room : on.lent ≡ ρ
    same_room = sym (ap (λ (x : Taken). x.room) on.is) ∙ ap (λ (x : Taken). x.room) by_room

    sized : length S.room ≡ n
    sized = step_long s f r a ∙ exact

    here_call : back_of (step_of s f r lent) ≡ record { held = s'; told = told_by (told s').event (S.room ++ drop n lent); room = S.room ++ drop n lent }
    here_call =
        ap back_of by_lent
        ∙ ap (λ (x : Stepped). back_of (record { out = x; room = S.room ++ drop n lent })) same_out
        ∙ ap (λ (x : Session). record { held = x; told = told_by (told s').event (S.room ++ drop n lent); room = S.room ++ drop n lent }) (told_session s')

    there_call : (T : Tree) → seen (told s') ρ ≡ T → steps f r now now.tree lent ≡ goes (record { need = n; tree = T }) lent
    there_call T e =
        ap (λ (z : Now). steps f r z z.tree lent) w.is
        ∙ ap (λ (t : Bool). cond t (stays waiting lent (NoRoom n) (here (to_come s w.room)).polls)
        (goes (record { need = n; tree = seen (takes s (replied f r) w.room).out (takes s (replied f r) w.room).room }) lent)) (le-ltb (length lent) n fits)
        ∙ ap (λ (x : Taken). goes (record { need = n; tree = seen x.out x.room }) lent) by_room
        ∙ ap (λ (x : Stepped). goes (record { need = n; tree = seen x ρ }) lent) same_out
        ∙ ap (λ (z : Tree). goes (record { need = n; tree = z }) lent) e

    whole' : Whole s'
    whole' =
        subst Whole (ap (λ (x : Taken). x.out.session) by_lent ∙ ap (λ (x : Stepped). x.session) same_out ∙ told_session s')
        (keeps_whole.steps s q.whole f r lent (of_bytes r typed) (of_bytes lent (take_bytes k b q.bytes)))

    bytes' : OfBytes ((S.room ++ drop n lent) ++ drop k b)
    bytes' =
        subst (λ (l : List ℕ). OfBytes (l ++ drop k b)) (ap (λ (x : Taken). x.room) by_lent)
        (each_append (λ (x : ℕ). x < 256) (step_of s f r lent).room (drop k b) (step_room s f r lent typed (take_bytes k b q.bytes)) (drop_bytes k b q.bytes))

    room_there : take n ρ ++ drop n lent ≡ S.room ++ drop n lent
    room_there = ap (λ (l : List ℕ). l ++ drop n lent) (take_at S.room (drop n w.room) n sized)

    run_steps : SameAs s now b (Steps f r k)
    run_steps = by (is_ended s'.phase) refl
      where
        by : (t : Bool) → is_ended s'.phase ≡ t → SameAs s now b (Steps f r k)
        by true e =
            let x = told_ends s' e in
            let o : Outcome = record { answer = x.0; polls = s'.polls; kept = kept_of s' ρ } in
            same_by by_value scripts (λ x. x) Agree s now b (Steps f r k)
            (record { held = s'; told = answers x.0 s'.polls; room = S.room ++ drop n lent })
            (record { held = record { need = n; tree = ends o }; told = answers x.0 s'.polls; room = S.room ++ drop n lent })
            (here_call ∙ ap (λ (z : Event). record { held = s'; told = told_by z (S.room ++ drop n lent); room = S.room ++ drop n lent }) x.1)
            (there_call (ends o) (seen_ends s' ρ x.0 s'.polls x.1)
            ∙ ap (λ (l : List ℕ). record { held = record { need = n; tree = ends o }; told = answers x.0 s'.polls; room = l }) room_there) refl refl refl
            (record { whole = whole'; bytes = bytes'; state = inl (record { ending = o; is = refl; ended = e; event = told_is s' x.0 s'.polls x.1; kept = refl }) })
        by false e =
            let event : (told s').event ≡ Send (waits_on s' s'.phase) = told_runs s' e in
            let need' : need_of s'.phase ≡ n =
            ap (λ (z : Session). need_of z.phase) (sym (told_session s') ∙ ap (λ (z : Stepped). z.session) (sym same_out))
            ∙ step_needs s f r a w.runs (waits_on s' s'.phase) (ap (λ (z : Stepped). z.event) same_out ∙ event) in
            let enough' : need_of s'.phase ≤ length ρ = subst (λ (l : List ℕ). need_of s'.phase ≤ length l) same_room on.enough in
            let fit' : Fit s' = on.fits in
            let exact' : length S.room ≡ need_of s'.phase = sized ∙ sym need' in
            same_by by_value scripts (λ x. x) Agree s now b (Steps f r k)
            (record { held = s'; told = sends (carried (sent_of (waits_on s' s'.phase) (S.room ++ drop n lent))); room = S.room ++ drop n lent })
            (record { held = record { need = n; tree = to_come s' ρ }; told = tells (to_come s' ρ); room = S.room ++ drop n lent })
            (here_call ∙ ap (λ (z : Event). record { held = s'; told = told_by z (S.room ++ drop n lent); room = S.room ++ drop n lent }) event)
            (there_call (to_come s' ρ) (seen_told s' ρ ∙ rule_means s' ρ whole'.ruled e enough')
            ∙ ap (λ (l : List ℕ). record { held = record { need = n; tree = to_come s' ρ }; told = tells (to_come s' ρ); room = l })
            (ap (λ (z : Outcome). take n z.kept.room ++ drop n lent) (here_waits s' ρ e enough') ∙ room_there))
            (ap (λ (u : Sent). sends (carried u)) (sent_split s' fit' S.room (drop n lent) exact' ∙ sym (sent_split s' fit' S.room (drop n w.room) exact')))
            refl
            (sym (ap (λ (z : Outcome). roomed z.kept []) (here_waits s' ρ e enough')))
            (record {
              whole = whole';
              bytes = bytes';
              state = inr (record {
                runs = e;
                room = ρ;
                is = ap (λ (m : ℕ). record { need = m; tree = to_come s' ρ }) (sym need');
                enough = enough';
                long = longer exact';
                same = front exact' ∙ sym (take_at S.room (drop n w.room) (need_of s'.phase) exact');
              });
            })
          where
            longer : {m : ℕ} → length S.room ≡ m → m ≤ length ((S.room ++ drop n lent) ++ drop k b)
            longer h = omega (arith, h, length-append (S.room ++ drop n lent) (drop k b), length-append S.room (drop n lent))

            front : {m : ℕ} → length S.room ≡ m → take m ((S.room ++ drop n lent) ++ drop k b) ≡ S.room
            front {m} h =
                take-append-le m (S.room ++ drop n lent) (drop k b) (omega (arith, h, length-append S.room (drop n lent)))
                ∙ take_at S.room (drop n lent) m h

  run_step : (f : Bool) (r : List ℕ) (k : ℕ) → OfBytes r → SameAs s now b (Steps f r k)
  run_step f r k h = by (ltb (length (take k b)) (need_of s.phase)) refl
    where
      by : (t : Bool) → ltb (length (take k b)) (need_of s.phase) ≡ t → SameAs s now b (Steps f r k)
      by true e = run_short f r k (ltb-true _ _ e)
      by false e = run_steps f r h k (ltb-false _ _ e)

-- ---- a start of an idle session
pub given_enough : {x : Stepped} {room : List ℕ} → Given room x → (t : Transaction) → x.event ≡ Send t → need_of x.session.phase ≤ length room
unfolding told
given_enough (gave b m e) t h = no_true (ap is_answer (sym h ∙ e))
given_enough (goes_on s o h z) t e = h

pub given_told : {x : Stepped} {room : List ℕ} → Given room x → (t : Transaction) → x.event ≡ Send t → x ≡ told x.session
unfolding told
given_told (gave b m e) t h = no_true (ap is_answer (sym h ∙ e))
given_told (goes_on s o h z) t e = refl

seen_answer : (x : Stepped) (room : List ℕ) (a : Answer) (n : ℕ) → x.event ≡ Answered a n → seen x room ≡ ends (record { answer = a; polls = n; kept = kept_of x.session room })
unfolding seen
seen_answer x room a n h = rw h

seen_sends : (x : Stepped) (room : List ℕ) (t : Transaction) → x.event ≡ Send t → seen x room ≡ meaning x.session room
unfolding seen
seen_sends x room t h = rw h

-- a room that comes back is the lent one beyond the need
beyond_is : (n : ℕ) (old new : List ℕ) → Beyond n old new → take n new ++ drop n old ≡ new
beyond_is n old new h = ap (λ (l : List ℕ). take n new ++ l) (sym h.rest) ∙ take-append-drop n new

ended_beyond : (c : Call) (w : Kept) (o : Outcome) → tree 0 (script c w) ≡ ends o → Beyond (room_need c w) w.room o.kept.room
unfolding play
ended_beyond c w o e = (leaves c w [] o (ap (λ (t : Tree). (play t []).1) e)).beyond tt

asked_beyond : (c : Call) (w : Kept) (t : Sent) (f : Reply → Tree) (o : Outcome) → tree 0 (script c w) ≡ asks t f → f failed ≡ ends o → Beyond (room_need c w) w.room o.kept.room
unfolding play
asked_beyond c w t f o e h = (leaves c w (failed ∷ []) o (ap (λ (z : Tree). (play z (failed ∷ [])).1) e ∙ ap (λ (z : Tree). (play z []).1) h)).beyond (tt, tt)

failed_waits : (s : Session) (room : List ℕ) → is_ended s.phase ≡ false → need_of s.phase ≤ length room
    → seen (takes s failed room).out (takes s failed room).room ≡ ends (record { answer = Access; polls = counted s; kept = kept_of s room })
unfolding told event_of seen is_full
failed_waits s room e h = ap (λ (x : Taken). seen x.out x.room) (step_short s room e h true [] refl)

module _ (s : Session) (now : Now) (b : List ℕ) (q : Agree s now b) (i : Idles s now) (c : Call) (buffer : List ℕ) (k : ℕ) (typed : Typed (Starts c buffer k)) where
  abbrev room : List ℕ
  room = take k buffer

  abbrev w : Kept
  w = kept_of s room

  abbrev x : Taken
  x = start_of c s room

  g : Begun x.out x.room (script c w)
  g = begun c s room i.ended

  there_starts : (T : Tree) → tree 0 (script c w) ≡ T → starts c now now.tree room ≡ begins now (record { need = room_need c w; tree = T }) T room
  there_starts T e =
      ap (λ (z : Tree). starts c now z room) i.is
      ∙ ap (λ (z : Kept). begins now (script_of c z) (script_of c z).tree room) (sym (ap (λ (z : Kept). roomed z room) i.kept))
      ∙ ap (λ (z : Tree). begins now (record { need = room_need c w; tree = z }) z room) e

  lent_bytes : OfBytes room
  lent_bytes = take_bytes k buffer (typed.buffer c buffer k refl)

  idle_refused : (a : Answer) (m : ℕ) → x.out.event ≡ Answered a m → refused a ≡ true → SameAs s now b (Starts c buffer k)
  idle_refused a m e h =
      let o : Outcome = record { answer = a; polls = m; kept = kept_of x.out.session x.room } in
      same_by by_value scripts (λ x. x) Agree s now b (Starts c buffer k)
      (record { held = s; told = answers a 0; room = room }) (stays now room a 0)
      (ap back_of ((start_given s i.ended room c).stayed a m e h))
      (there_starts (ends o) (sym g.means ∙ seen_answer x.out x.room a m e)
      ∙ ap (λ (t : Bool). cond t (stays now room a 0) (goes (record { need = room_need c w; tree = ends o }) room)) h)
      refl refl (i.kept ∙ sym (kept_there now i.ending i.is)) q

  idle_ends : (a : Answer) (m : ℕ) → x.out.event ≡ Answered a m → refused a ≡ false → SameAs s now b (Starts c buffer k)
  idle_ends a m e h =
      let o : Outcome = record { answer = a; polls = m; kept = kept_of x.out.session x.room } in
      let T : tree 0 (script c w) ≡ ends o = sym g.means ∙ seen_answer x.out x.room a m e in
      same_by by_value scripts (λ x. x) Agree s now b (Starts c buffer k)
      (record { held = x.out.session; told = answers a m; room = x.room })
      (record { held = record { need = room_need c w; tree = ends o }; told = answers a m; room = x.room })
      (ap (λ (z : Event). record { held = x.out.session; told = told_by z x.room; room = x.room }) e)
      (there_starts (ends o) T
      ∙ ap (λ (t : Bool). cond t (stays now room a 0) (goes (record { need = room_need c w; tree = ends o }) room)) h
      ∙ ap (λ (l : List ℕ). record { held = record { need = room_need c w; tree = ends o }; told = answers a m; room = l })
      (beyond_is (room_need c w) room x.room (ended_beyond c w o T)))
      refl refl refl
      (record {
        whole = start_whole c s room q.whole;
        bytes = q.bytes;
        state = inl (record {
          ending = o;
          is = refl;
          ended = start_rests s i.ended c room ∙ ap is_answer e;
          event = sym ((start_given s i.ended room c).ended a m e h) ∙ ap (λ (z : Event). record { session = x.out.session; event = z }) e;
          kept = refl;
        });
      })

  idle_goes : (t : Transaction) → x.out.event ≡ Send t → SameAs s now b (Starts c buffer k)
  idle_goes t e =
      let s' : Session = x.out.session in
      let runs : is_ended s'.phase ≡ false = start_rests s i.ended c room ∙ ap is_answer e in
      let enough : need_of s'.phase ≤ length x.room = given_enough g.given t e in
      let whole : Whole s' = start_whole c s room q.whole in
      let event : x.out.event ≡ Send (waits_on s' s'.phase) = ap (λ (z : Stepped). z.event) (given_told g.given t e) ∙ told_runs s' runs in
      let T : tree 0 (script c w) ≡ to_come s' x.room =
      sym g.means ∙ seen_sends x.out x.room t e ∙ rule_means s' x.room whole.ruled runs enough in
      let need : need_of s'.phase ≡ room_need c w = (start_given s i.ended room c).needs t e in
      let keeps : here (to_come s' x.room) ≡ record { answer = Access; polls = counted s'; kept = kept_of s' x.room } = here_waits s' x.room runs enough in
      same_by by_value scripts (λ x. x) Agree s now b (Starts c buffer k)
      (record { held = s'; told = sends (carried (sent_of (waits_on s' s'.phase) x.room)); room = x.room })
      (record { held = record { need = room_need c w; tree = to_come s' x.room }; told = tells (to_come s' x.room); room = x.room })
      (ap (λ (z : Event). record { held = s'; told = told_by z x.room; room = x.room }) event)
      (there_starts (to_come s' x.room) T
      ∙ ap (λ (l : List ℕ). record { held = record { need = room_need c w; tree = to_come s' x.room }; told = tells (to_come s' x.room); room = l })
      (ap (λ (z : Outcome). take (room_need c w) z.kept.room ++ drop (room_need c w) room) keeps
      ∙ beyond_is (room_need c w) room x.room (asked_beyond c w _ _ _ T (failed_waits s' x.room runs enough)))) refl refl
      (sym (ap (λ (z : Outcome). roomed z.kept []) keeps))
      (record {
        whole = whole;
        bytes = each_append (λ (y : ℕ). y < 256) x.room (drop k buffer) (start_room_lem c s room (λ a d v e. typed.programs a d v buffer k (ap (λ (z : Call). Starts z buffer k) e))
            (λ a d e. typed.writes a d buffer k (ap (λ (z : Call). Starts z buffer k) e)) lent_bytes)
            (drop_bytes k buffer (typed.buffer c buffer k refl));
        state = inr (record {
          runs = runs;
          room = x.room;
          is = ap (λ (m : ℕ). record { need = m; tree = to_come s' x.room }) (sym need);
          enough = enough;
          long = omega (arith, enough, length-append x.room (drop k buffer));
          same = take-append-le (need_of s'.phase) x.room (drop k buffer) enough;
        });
      })

  idle_starts : SameAs s now b (Starts c buffer k)
  idle_starts = by x.out.event refl
    where
      answered : (a : Answer) (m : ℕ) → x.out.event ≡ Answered a m → (t : Bool) → refused a ≡ t → SameAs s now b (Starts c buffer k)
      answered a m e true h = idle_refused a m e h
      answered a m e false h = idle_ends a m e h

      by : (e : Event) → x.out.event ≡ e → SameAs s now b (Starts c buffer k)
      by (Answered a m) e = answered a m e (refused a) refl
      by (Send t) e = idle_goes t e

-- ---- every call
pub turns : (s : Session) (now : Now) (b : List ℕ) (t : Turn) → Typed t → Agree s now b → SameAs s now b t
turns s now b (Starts c buffer k) h q = ⊎_elim (λ (i : Idles s now). idle_starts s now b q i c buffer k h) (λ (w : Waits s now b). run_starts s now b q w c buffer k) q.state
turns s now b (Steps f r k) h q = ⊎_elim (λ (i : Idles s now). idle_steps s now b q i f r k) (λ (w : Waits s now b). run_step s now b q w f r k (h.reply f r k refl)) q.state
turns s now b (Sets x) h q = ⊎_elim (λ (i : Idles s now). idle_sets s now b q i x h) (λ (w : Waits s now b). run_sets s now b q w x) q.state
turns s now b Asks h q = ⊎_elim (λ (i : Idles s now). idle_asks s now b q i) (λ (w : Waits s now b). run_asks s now b q w) q.state

pub at_first : Agree fresh scripts.fresh []
unfolding told event_of is_ended
at_first = record {
  whole = keeps_whole.begins;
  bytes = tt;
  state = inl (record { ending = record { answer = Done; polls = 0; kept = kept_of fresh [] }; is = refl; ended = refl; event = refl; kept = refl });
}

abbrev pub plainly : Shows (λ (x : Told Answer). x)
plainly = record { sent = λ t. t; said = λ a n. (a, n); sending = λ t. refl; answering = λ a n. refl }

pub followed_by_value : FollowedByValue
followed_by_value ts h =
    simulated by_value scripts (λ x. x) Agree plainly turns ts h fresh scripts.fresh [] at_first
