-- Whether a command is accepted goes by what the driver keeps and the lent room alone; and what an accepted one keeps.
use mathlib.Core.Path.{◌≡◌, refl, sym, ap, ◌∙◌}
use mathlib.Core.Bool.{Bool, true, false, cond, ◌&&◌, ◌||◌, not}
use mathlib.Core.List.{List, [], ◌∷◌}
use mathlib.Core.Option.{Option, some, none}
use Prim.Native.Nat.{ℕ, zero, suc, ◌-◌}
use native.Mathlib.Omega.{arith}
use lib.Dec.{eqb, leb}
use lib.ListN.{length}
use Rattle.settings.specs.Ranges.{accepted_range, last_address}
use Rattle.commands.specs.declared.Answer.{Answer}
use Rattle.commands.specs.declared.Answer.TheVariants.{Done, NoRoom}
use Rattle.commands.specs.Script.{Sent, Kept, Script, done, stop, send, roomed}
use Rattle.commands.specs.Wire.{wire}
use Rattle.commands.specs.Host.{Outcome}
use Rattle.commands.specs.Calls.{Call, ReadParams, script}
use Rattle.commands.specs.Bounds.{most}
use Rattle.commands.specs.Leaves.{refused, Left}
use Rattle.commands.proofs.Left.{leaves}
use Rattle.flash.specs.declared.Session.{Session}
use Rattle.phases.specs.declared.Transaction.{Transaction}
use Rattle.flash.specs.declared.Event.{Event}
use Rattle.flash.specs.declared.Event.TheVariants.{Send, Answered}
use Rattle.flash.specs.declared.Stepped.{Stepped}
use Rattle.phases.specs.declared.WriteCommand.TheVariants as Writes
use Rattle.phases.specs.declared.Command.TheVariants as Ends
use Rattle.phases.specs.declared.Phase.TheVariants.{Writing}
use Rattle.flash.specs.Waits.{event_of, told}
use Rattle.flash.specs.Steps.{goes, ends, step_of}
use Rattle.flash.specs.Starts.{stays, begins, start_out, checked, invalid, begin_data, start_program_data}
use Rattle.meaning.specs.Meaning.{kept_of, sent_of}
use Rattle.nor_model.specs.Device.{Part, State}
use Rattle.nor_model.specs.Runs.{Times, Ran, replied, exec, replies}
use Rattle.nor_model.proofs.Plays.{exec_plays}
use Rattle.on_part.specs.OnPart.{start_of, Served, behind, serve, ServedAs}
use Rattle.raw_writes.specs.RawWrites.{refusal, AcceptedExactly}

-- a command that keeps settings and parameters: any but read_params
abbrev pub Quiet : Call → Type 0
Quiet c = c ≡ ReadParams → ⊥

nonempty : (t : Sent) (ts l : List Sent) → l ≡ t ∷ ts → l ≡ [] → ⊥
nonempty t ts l h e = let z : ◌≡◌ {A = ℕ} 0 1 = cc in omega arith

-- ---- a script's run on the part
module _ (p : Part) (times : Times) (state : State) (c : Call) (w : Kept) where
  abbrev r : Ran
  r = exec p times [] state (script c w)

  abbrev o : Outcome
  o = record { answer = r.answer; polls = r.polls; kept = r.kept }

  left : Left c w (replies p times [] state (script c w)) o
  left =
      leaves c w (replies p times [] state (script c w)) o
      (ap (λ (x : List Sent × Option Outcome). x.1) (exec_plays p times [] state (script c w)))

  -- it keeps settings and parameters
  pub exec_kept : Quiet c → r.kept ≡ roomed w r.kept.room
  exec_kept n = left.settled (λ q. n q.0)

  -- what was sent is no refusal's
  pub sent_accepted : (t : Sent) (ts : List Sent) → r.sent ≡ t ∷ ts → refused r.answer ≡ false
  sent_accepted t ts h = by (refused r.answer) refl
    where
      by : (b : Bool) → refused r.answer ≡ b → b ≡ false
      by false e = refl
      by true e =
          absurd (nonempty t ts r.sent h
          (sym (ap (λ (x : List Sent × Option Outcome). x.0) (exec_plays p times [] state (script c w))) ∙ (left.refusal e).0))

-- accepted in one state of the part, accepted in every state
pub accepted_anywhere : (p : Part) (times times' : Times) (state state' : State) (c : Call) (w : Kept)
    → refused (exec p times [] state (script c w)).answer ≡ false → refused (exec p times' [] state' (script c w)).answer ≡ false
unfolding exec
accepted_anywhere p times times' state state' c w h = by (script c w) refl
  where
    ends : (x : Script Answer) → script c w ≡ x → (exec p times [] state x).answer ≡ (exec p times' [] state' x).answer
        → refused (exec p times' [] state' (script c w)).answer ≡ false
    ends x e a =
        ap (λ (x : Script Answer). refused (exec p times' [] state' x).answer) e
        ∙ ap refused (sym a)
        ∙ ap (λ (x : Script Answer). refused (exec p times [] state x).answer) (sym e)
        ∙ h

    by : (x : Script Answer) → script c w ≡ x → refused (exec p times' [] state' (script c w)).answer ≡ false
    by (done v a) e = ends (done v a) e refl
    by (stop v a) e = ends (stop v a) e refl
    by (send v t f) e = sent_accepted p times' state' c w t _ (ap (λ (x : Script Answer). (exec p times' [] state' x).sent) e)

-- ---- the driver's run: what its start hands back decides
no_run : (to : Served) → none ≡ some to → ⊥
no_run to h = let z : ◌≡◌ {A = ℕ} 0 1 = cc in omega arith

abbrev sent_in : Option Served → List Sent
sent_in (some r) = r.sent
sent_in none = []

behind_sent : (t : Sent) (o : Option Served) (to : Served) → behind t o ≡ some to → (ts : List Sent) × (to.sent ≡ t ∷ ts)
behind_sent t (some r) to h = (r.sent, ap sent_in (sym h))
behind_sent t none to h = absurd (no_run to h)

module _ (p : Part) (times : Times) (past : List (List ℕ)) (state : State) (x : Stepped) (room : List ℕ) (to : Served) where
  serve_answered : (k : ℕ) (a : Answer) (n : ℕ) → x.event ≡ Answered a n → serve p times k past state x room ≡ some to → to.answer ≡ a
  unfolding serve
  serve_answered zero a n e h = let g = rw e at h in cc
  serve_answered (suc k) a n e h = let g = rw e at h in cc

  serve_sends : (k : ℕ) (t : Transaction) → x.event ≡ Send t → serve p times k past state x room ≡ some to → (u : Sent) × (us : List Sent) × (to.sent ≡ u ∷ us)
  unfolding serve
  serve_sends zero t e h = absurd (no_run to (rw e at h))
  serve_sends (suc k) t e h =
      let u = sent_of t room in
      let y = replied p times past state u in
      let z = step_of x.session false y.1 room in
      let there : serve p times (suc k) past state x room ≡ behind u (serve p times k (wire u ∷ past) y.0 z.out z.room) = rw e in
      let g = behind_sent u (serve p times k (wire u ∷ past) y.0 z.out z.room) to (sym there ∙ h) in
      (u, g.0, g.1)

-- a start that does not refuse: nor does the script
pub start_accepted : (p : Part) (times : Times) (state : State) (s : Session) (c : Call) (room : List ℕ) → ServedAs p times state s c room
    → refusal (start_of c s room).out.event ≡ false → refused (exec p times [] state (script c (kept_of s room))).answer ≡ false
start_accepted p times state s c room v h = by (start_of c s room).out.event refl
  where
    by : (e : Event) → (start_of c s room).out.event ≡ e → refused (exec p times [] state (script c (kept_of s room))).answer ≡ false
    by (Answered a n) e =
        ap (λ (x : Ran). refused x.answer) (sym v.same)
        ∙ ap refused (serve_answered p times [] state (start_of c s room).out (start_of c s room).room v.to (most c (kept_of s room)) a n e v.is)
        ∙ ap refusal (sym e)
        ∙ h
    by (Send t) e =
        let g = serve_sends p times [] state (start_of c s room).out (start_of c s room).room v.to (most c (kept_of s room)) t e v.is in
        sent_accepted p times state c (kept_of s room) g.0 g.1 (ap (λ (x : Ran). x.sent) (sym v.same) ∙ g.2)

-- ---- a raw write
pub accepted_exactly : AcceptedExactly
unfolding start_program_data begin_data told event_of refused
accepted_exactly s i a d room = rw i (by (eqb (length d) 0) (accepted_range s.settings a (length d)) (leb (length d) (length room)))
  where
    n : ℕ
    n = length d

    by : (none? range? room? : Bool)
        → refusal (start_out (cond none? (stays (told (ends s 0 Ends.Other Done)))
        (checked range? s (invalid (last_address a n)) (checked room? s (NoRoom n) (begins 0 (goes s 0 (Writing (Writes.Data a (n - 1) 0) false))))))).event
        ≡ not (none? || (range? && room?))
    by true range? room? = refl
    by false true true = refl
    by false true false = refl
    by false false room? = refl
