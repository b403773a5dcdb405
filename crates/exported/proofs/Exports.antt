-- The exports follow the scripts: their bytes are the packed session of the driver by value, and their records tell what it tells.
use Rattle.std.proofs.Common.{Result, Ok, Err, Option, Some, None}
use mathlib.Core.Path.{◌≡◌, refl, sym, ap, ◌∙◌, subst}
use mathlib.Core.Bool.{Bool, true, false, cond, not, ◌&&◌}
use mathlib.Core.Logic.{◌⊎◌, ⊎_elim}
use mathlib.Core.List.{List, [], ◌∷◌}
use Prim.Native.Nat.{ℕ, ◌+◌, ◌%◌, ◌^◌, ◌≤◌, ◌<◌}
use native.Mathlib.Omega.{arith}
use lib.Dec.{eqb, ltb}
use lib.ListN.{length, take, length-take}
use borrow.Author.Tests.{le-ltb, eq-eqb, ltb-true, ltb-false}
use Rattle.settings.specs.declared.Settings.{Settings}
use Rattle.settings.specs.declared.SettingError.{SettingError}
use Rattle.erase_plan.specs.Good.{Each}
use Rattle.erase_plan.proofs.Lists.{by_cond, no_true}
use Rattle.commands.specs.declared.Answer.{Answer}
use Rattle.commands.specs.Answers.{number_of}
use Rattle.commands.specs.Calls.{Call}
use Rattle.phases.specs.declared.Transaction.{Transaction}
use Rattle.phases.specs.Waits.{need_of}
use Rattle.phases.specs.Moves.{is_ended}
use Rattle.flash.specs.declared.Session.{Session}
use Rattle.flash.specs.declared.Event.{Event}
use Rattle.flash.specs.declared.Event.TheVariants.{Send, Answered}
use Rattle.flash.specs.declared.Stepped.{Stepped}
use Rattle.flash.specs.Waits.{waits_on, told}
use Rattle.flash.specs.Steps.{is_full, Taken, step_of}
use Rattle.flash.specs.Starts.{fresh, unless_runs, setting}
use Rattle.meaning.specs.Meaning.{kept_of, Idle}
use Rattle.packed.specs.Numbers.{same_list}
use Rattle.packed.specs.Layout.{bytes_of, session_in, put_over}
use Rattle.packed.proofs.Laws.{way_back, packed_is_same, sized}
use Rattle.rule.specs.Rule.{rule_of}
use Rattle.rule.specs.Kept.{Whole}
use Rattle.rule.proofs.Whole.{keeps_whole}
use Rattle.rule.proofs.Fits.{rule_fits}
use Rattle.nor_model.specs.Demand3.{Setter, tried}
use Rattle.on_part.specs.OnPart.{start_of, setter_of}
use Rattle.on_part.proofs.Resting.{is_answer, told_rests, told_runs, told_ends}
use Rattle.on_part.proofs.BetweenSteps.{ended_step, short_step, step_needs}
use Rattle.on_part.proofs.BetweenStarts.{start_runs}
use Rattle.on_part.proofs.Serving.{begun}
use Rattle.moss_flash.specs.declared.Refusal.{Refusal}
use Rattle.moss_flash.specs.declared.Refusal.TheVariants as Refusals
use Rattle.moss_flash.specs.Records.{number_a, number_b, event_over}
use Rattle.moss_flash.specs.Calls.{Called, called, took, unpack_of, opened_of, opened_start, opening, starting, number_in, new_of, set_called}
use Rattle.driver.specs.Driver.{Told, sends, answers, Back, Driver, Turn, Starts, Steps, Sets, Asks, Seen, Stand, call, next, reached, sees, shown, first, Now, scripts, OfBytes, Typed}
use Rattle.driver.specs.ByValue.{told_by, back_of, by_value}
use Rattle.driver.proofs.Splitting.{waits_within}
use Rattle.driver.proofs.Simulating.{Shows, Same, same_by, later, next_is, later_same, simulated}
use Rattle.driver.proofs.Rooms.{take_bytes}
use Rattle.driver.proofs.Agreeing.{Agree, Idles, Waits, SameAs, plainly, turns, at_first, followed_by_value, step_long, given_enough, given_told, of_bytes, start_whole, set_whole, told_session}
use Rattle.exported.specs.Exports.{Numbers, told_in, in_numbers, back_in, exports, FollowedByExports}
use Rattle.exported.proofs.Widths.{Fine, waits_fine}
use Rattle.exported.proofs.Decoding.{decodes}

-- ---- the bytes of a whole session hold it
pub unpacks : (s : Session) → Whole s → unpack_of (bytes_of s) ≡ Some s
unfolding unpack_of
unpacks s h =
    let back : session_in (bytes_of s) ≡ s = way_back s h.typed in
    let same : same_list (bytes_of s) (bytes_of s) ≡ true = subst (λ (z : Session). same_list (bytes_of s) (bytes_of z) ≡ true) back (packed_is_same s h.typed) in
    ap (λ (z : Session). cond (rule_of z && same_list (bytes_of s) (bytes_of z)) (Some z) None) back ∙ rw (h.ruled, same)

put_packs : (s x : Session) → put_over x (bytes_of s) ≡ bytes_of x
put_packs s x = ap (λ (b : Bool). cond b (bytes_of x) (bytes_of s)) (eq-eqb _ _ (sized s))

module _ (s : Session) (w : Whole s) (e : List ℕ) (long : 64 ≤ length e) where
  pub opened : opened_of (bytes_of s) (length e) ≡ Ok s
  unfolding opened_of
  opened = ap (λ (u : Option Session). opening u (length e)) (unpacks s w) ∙ ap (λ (b : Bool). cond b (Err Refusals.NoRoom) (Ok s)) (le-ltb (length e) 64 long)

  started : opened_start (bytes_of s) (length e) ≡ Ok s
  unfolding opened_start
  started =
      ap (λ (u : Option Session). starting u (length e)) (unpacks s w)
      ∙ ap (λ (b : Bool). cond b (cond (not (is_ended s.phase)) (Err Refusals.BadSession) (Err Refusals.NoRoom)) (Ok s)) (le-ltb (length e) 64 long)

-- ---- what a call hands back fits its record
abbrev Good : Event → List ℕ → Type 0
Good ev room = (t : Transaction) → ev ≡ Send t → Fine t × (t.from + t.len ≤ length room)

abbrev transaction : Event → Transaction → Transaction
transaction (Send t) u = t
transaction (Answered a n) u = u

-- what is told of a running session, with room enough
told_good : (s : Session) → Whole s → (room : List ℕ) → (is_ended s.phase ≡ false → need_of s.phase ≤ length room) → Good (told s).event room
unfolding told
told_good s w room enough t e =
    let runs : is_ended s.phase ≡ false = told_rests s ∙ ap is_answer e in
    let is : waits_on s s.phase ≡ t = ap (λ (z : Event). transaction z t) (sym (told_runs s runs) ∙ e) in
    let within = waits_within s (rule_fits s w.ruled) in
    let most : need_of s.phase ≤ length room = enough runs in
    subst (λ (u : Transaction). Fine u × (u.from + u.len ≤ length room)) is (waits_fine s w, omega (arith, within, most))

start_good : (c : Call) (s : Session) (room : List ℕ) → Whole s → Good (start_of c s room).out.event (start_of c s room).room
start_good c s room w = by (is_ended s.phase) refl
  where
    by : (b : Bool) → is_ended s.phase ≡ b → Good (start_of c s room).out.event (start_of c s room).room
    by true i t e =
        let g = begun c s room i in
        let is : (start_of c s room).out ≡ told (start_of c s room).out.session = given_told g.given t e in
        told_good (start_of c s room).out.session (start_whole c s room w) (start_of c s room).room (λ r. given_enough g.given t e) t
        (ap (λ (z : Stepped). z.event) (sym is) ∙ e)
    by false r t e = no_true (sym (ap is_answer (sym (ap (λ (z : Taken). z.out.event) (start_runs c s room r)) ∙ e)))

step_told : (s : Session) (f : Bool) (r room : List ℕ) (t : Transaction) → (step_of s f r room).out.event ≡ Send t → (step_of s f r room).out ≡ told (step_of s f r room).out.session
unfolding step_of told
step_told s f r room =
    by_cond Tells (is_ended s.phase) _ _ (λ b t e. refl)
    (λ b. by_cond Tells (ltb (length room) (need_of s.phase)) _ _ (λ b t e. no_true (sym (ap is_answer e))) (λ b. by_cond Tells (is_full s f r) _ _ (λ b t e. refl) (λ b t e. refl)))
  where
    Tells : Taken → Type 0
    Tells x = (t : Transaction) → x.out.event ≡ Send t → x.out ≡ told x.out.session

step_good : (s : Session) → Whole s → (f : Bool) (r room : List ℕ) → OfBytes r → OfBytes room → Good (step_of s f r room).out.event (step_of s f r room).room
step_good s w f r room hr hroom t e = by (is_ended s.phase) refl
  where
    s' : Session
    s' = (step_of s f r room).out.session

    is : (step_of s f r room).out ≡ told s'
    is = step_told s f r room t e

    on : is_ended s.phase ≡ false → (b : Bool) → ltb (length room) (need_of s.phase) ≡ b → Fine t × (t.from + t.len ≤ length (step_of s f r room).room)
    on runs true h = no_true (sym (ap is_answer (sym (ap (λ (z : Taken). z.out.event) (short_step s f r room runs (ltb-true _ _ h))) ∙ e)))
    on runs false h =
        let more : need_of s.phase ≤ length room = ltb-false (length room) (need_of s.phase) h in
        let same : need_of s'.phase ≡ need_of s.phase = step_needs s f r room runs t e in
        told_good s' (keeps_whole.steps s w f r room (of_bytes r hr) (of_bytes room hroom)) (step_of s f r room).room
        (λ q. omega (arith, more, same, step_long s f r room)) t (ap (λ (z : Stepped). z.event) (sym is) ∙ e)

    by : (b : Bool) → is_ended s.phase ≡ b → Fine t × (t.from + t.len ≤ length (step_of s f r room).room)
    by true i = no_true (sym (ap is_answer (sym (told_ends s i).1 ∙ sym (ap (λ (z : Taken). z.out.event) (ended_step s f r room i)) ∙ e)))
    by false runs = on runs (ltb (length room) (need_of s.phase)) refl

-- ---- the calls
pub record Packs (b : List ℕ) (s : Session) (buffer : List ℕ) : Type 0 where
  pub now : Now
  pub is : b ≡ bytes_of s
  pub agrees : Agree s now buffer

-- a setter has no record: its number alone
abbrev set_back : Called → Back (List ℕ) Numbers
set_back y = record { held = y.session; told = answers (record { result = y.number; kind = y.number; a = 0; b = 0 }) 0; room = [] }

abbrev set_said : Stepped → Told Numbers
set_said y = answers (record { result = number_in y.event; kind = number_in y.event; a = 0; b = 0 }) 0

record Says (y : Stepped) : Type 0 where
  is : set_said y ≡ in_numbers (told_by y.event [])

setting_says : (s : Session) (a : Result Settings SettingError) → Says (setting s a)
unfolding setting unless_runs number_in number_a number_b
setting_says s (Ok x) = by_cond Says (is_ended s.phase) _ _ (λ t. record { is = refl }) (λ t. record { is = refl })
setting_says s (Err e) = by_cond Says (is_ended s.phase) _ _ (λ t. record { is = refl }) (λ t. record { is = refl })

set_says : (x : Setter) (s : Session) → set_said (setter_of x s) ≡ in_numbers (told_by (setter_of x s).event [])
set_says x s = (setting_says s (tried x s.settings)).is

-- what the driver by value hands back, packed and told in numbers
abbrev packed : Back Session Answer → Back (List ℕ) Numbers
packed y = record { held = bytes_of y.held; told = in_numbers y.told; room = y.room }

module _ (e : List ℕ) (long : 64 ≤ length e) where
  open_called : (s : Session) (room : List ℕ) (f : Session → Taken) → Good (f s).out.event (f s).room
      → back_in (called (Ok s) (bytes_of s) e room f) ≡ packed (back_of (f s))
  open_called s room f g =
      ap (λ (z : List ℕ). record { held = z; told = told_in (called (Ok s) (bytes_of s) e room f); room = (f s).room }) (put_packs s (f s).out.session)
      ∙ ap (λ (z : Told Numbers). record { held = bytes_of (f s).out.session; told = z; room = (f s).room })
      (decodes (put_over (f s).out.session (bytes_of s)) (f s).room (f s).out.event e long g)

  module _ (s : Session) (now : Now) (buffer : List ℕ) (q : Agree s now buffer) where
    abbrev stand : Turn → Back Session Answer
    stand t = call by_value t (record { held = s; buffer = buffer })

    calls_packed : (t : Turn) → Typed t → call (exports e) t (record { held = bytes_of s; buffer = buffer }) ≡ packed (stand t)
    unfolding number_in
    calls_packed (Starts c l k) h =
        ap (λ (o : Result Session Refusal). back_in (called o (bytes_of s) e (take k l) (λ z. start_of c z (take k l)))) (started s q.whole e long)
        ∙ open_called s (take k l) (λ z. start_of c z (take k l)) (start_good c s (take k l) q.whole)
    calls_packed (Steps f r k) h =
        ap (λ (o : Result Session Refusal). back_in (called o (bytes_of s) e (take k buffer) (λ z. step_of z f r (take k buffer)))) (opened s q.whole e long)
        ∙ open_called s (take k buffer) (λ z. step_of z f r (take k buffer))
        (step_good s q.whole f r (take k buffer) (h.reply f r k refl) (take_bytes k buffer q.bytes))
    calls_packed (Sets x) h =
        ap (λ (u : Option Session). set_back (set_called u (bytes_of s) (λ z. setter_of x z))) (unpacks s q.whole)
        ∙ ap (λ (z : List ℕ). record { held = z; told = set_said (setter_of x s); room = [] }) (put_packs s (setter_of x s).session)
        ∙ ap (λ (z : Told Numbers). record { held = bytes_of (setter_of x s).session; told = z; room = [] }) (set_says x s)
    calls_packed Asks h =
        ap (λ (o : Result Session Refusal). record { held = bytes_of s; told = told_in (called o (bytes_of s) e buffer (λ z. took (told z) buffer)); room = buffer }) (opened s q.whole e long)
        ∙ ap (λ (z : Told Numbers). record { held = bytes_of s; told = z; room = buffer })
        (decodes (put_over (told s).session (bytes_of s)) buffer (told s).event e long (told_good s q.whole buffer (enough q.state)))
        ∙ ap (λ (z : Session). record { held = bytes_of z; told = in_numbers (told_by (told s).event buffer); room = buffer }) (sym (told_session s))
      where
        enough : Idles s now ⊎ Waits s now buffer → is_ended s.phase ≡ false → need_of s.phase ≤ length buffer
        enough g r = ⊎_elim (λ (i : Idles s now). no_true (sym r ∙ i.ended)) (λ (w : Waits s now buffer). w.long) g

    again_agrees : (t : Turn) → Typed t → Agree (stand t).held (call scripts t (record { held = now; buffer = buffer })).held (later t (stand t) buffer)
    again_agrees t h =
        let g : SameAs s now buffer t = turns s now buffer t h q in
        subst (λ (l : List ℕ). Agree (stand t).held (call scripts t (record { held = now; buffer = buffer })).held l)
        (sym (later_same by_value scripts (λ x. x) Agree plainly turns t (stand t) (call scripts t (record { held = now; buffer = buffer })) buffer g.told g.room))
        g.again

  turn : (b : List ℕ) (s : Session) (buffer : List ℕ) (t : Turn) → Typed t → Packs b s buffer → Same (exports e) by_value in_numbers Packs b s buffer t
  turn b s buffer t h p =
      let y : Back Session Answer = call by_value t (record { held = s; buffer = buffer }) in
      let a = again_agrees s p.now buffer p.agrees t h in
      same_by (exports e) by_value in_numbers Packs b s buffer t (packed y) y
      (ap (λ (z : List ℕ). call (exports e) t (record { held = z; buffer = buffer })) p.is ∙ calls_packed s p.now buffer p.agrees t h) refl refl refl
      (ap (λ (z : Session). kept_of z []) (way_back y.held a.whole.typed))
      (record { now = (call scripts t (record { held = p.now; buffer = buffer })).held; is = refl; agrees = a })

  showing : Shows in_numbers
  showing = record {
    sent = λ t. t;
    said = λ x n. (record { result = number_of x; kind = number_of x; a = number_a x % 2 ^ 64; b = number_b x % 2 ^ 64 }, n % 2 ^ 64);
    sending = λ t. refl;
    answering = λ x n. refl;
  }

  pub new_packs : Packs (exports e).fresh fresh []
  unfolding new_of
  new_packs = record { now = scripts.fresh; is = refl; agrees = at_first }

  -- what is reached, packed
  pub reaches : (ts : List Turn) → Each Typed ts → (b : List ℕ) (s : Session) (buffer : List ℕ) → Packs b s buffer
      → ((reached (exports e) ts (record { held = b; buffer = buffer })).held ≡ bytes_of (reached by_value ts (record { held = s; buffer = buffer })).held)
      × Whole (reached by_value ts (record { held = s; buffer = buffer })).held
  unfolding reached
  reaches [] h b s buffer p = (p.is, p.agrees.whole)
  reaches (t ∷ ts) h b s buffer p =
      let g : Same (exports e) by_value in_numbers Packs b s buffer t = turn b s buffer t h.0 p in
      subst
      (λ (x : Stand (exports e)). ((reached (exports e) ts x).held ≡ bytes_of (reached by_value ts (next by_value t (record { held = s; buffer = buffer }))).held)
      × Whole (reached by_value ts (next by_value t (record { held = s; buffer = buffer }))).held)
      (sym (next_is (exports e) t b buffer
      ∙ ap (λ (l : List ℕ). record { held = (call (exports e) t (record { held = b; buffer = buffer })).held; buffer = l })
      (later_same (exports e) by_value in_numbers Packs showing turn t (call (exports e) t (record { held = b; buffer = buffer })) (call by_value t (record { held = s; buffer = buffer })) buffer g.told g.room)))
      (subst
      (λ (x : Stand by_value). ((reached (exports e) ts (record { held = (call (exports e) t (record { held = b; buffer = buffer })).held; buffer = later t (call by_value t (record { held = s; buffer = buffer })) buffer })).held ≡ bytes_of (reached by_value ts x).held)
      × Whole (reached by_value ts x).held)
      (sym (next_is by_value t s buffer))
      (reaches ts h.1 (call (exports e) t (record { held = b; buffer = buffer })).held (call by_value t (record { held = s; buffer = buffer })).held (later t (call by_value t (record { held = s; buffer = buffer })) buffer) g.again))

  seen_through : (ts : List Turn) → Each Typed ts → sees (exports e) ts (first (exports e)) ≡ shown in_numbers (sees by_value ts (first by_value))
  seen_through ts h = simulated (exports e) by_value in_numbers Packs showing turn ts h (exports e).fresh fresh [] new_packs

shown_itself : (l : List (Seen Answer)) → shown (λ x. x) l ≡ l
shown_itself [] = refl
shown_itself (x ∷ l) = ap (λ (m : List (Seen Answer)). x ∷ m) (shown_itself l)

pub followed_by_exports : FollowedByExports
followed_by_exports e long ts h =
    seen_through e long ts h ∙ ap (shown in_numbers) (followed_by_value ts h ∙ shown_itself (sees scripts ts (first scripts)))
