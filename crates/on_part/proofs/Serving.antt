-- The driver on the part does what the command's script does there.
use mathlib.Core.Path.{◌≡◌, refl, sym, ap, ◌∙◌, subst}
use mathlib.Core.Bool.{Bool, true, false}
use mathlib.Core.List.{List, [], ◌∷◌}
use mathlib.Core.Option.{Option, some, none}
use Prim.Native.Nat.{ℕ, zero, suc, ◌+◌, ◌^◌, ◌≤◌, ◌<◌}
use native.Mathlib.Omega.{arith}
use lib.ListN.{length}
use borrow.Author.Tests.{eq-eqb}
use Rattle.dwords.specs.Dwords.{byte_at}
use Rattle.erase_plan.specs.Good.{Each}
use Rattle.erase_plan.proofs.Lists.{no_true, no_false}
use Rattle.commands.specs.declared.Answer.{Answer}
use Rattle.commands.specs.declared.Answer.TheVariants.{Access}
use Rattle.commands.specs.Script.{Sent, Kept, Script, done, stop, send}
use Rattle.commands.specs.Wire.{wire}
use Rattle.commands.specs.Host.{Reply, got, Outcome, Tree, ends, asks, full, tally, tree}
use Rattle.commands.specs.Calls.{Call, Read, LegacyRead, ReadParams, Erase, EraseSectors, Program, ProgramData, Reset, ReadJedecId, IsBusy, IsProtected, script}
use Rattle.commands.specs.Bounds.{most}
use Rattle.commands.specs.Leaves.{OfBytes}
use Rattle.flash.specs.declared.Session.{Session}
use Rattle.flash.specs.declared.Event.TheVariants.{Send, Answered}
use Rattle.flash.specs.declared.Stepped.{Stepped}
use Rattle.phases.specs.Waits.{need_of}
use Rattle.flash.specs.Waits.{waits_on, told}
use Rattle.phases.specs.Moves.{is_ended}
use Rattle.flash.specs.Steps.{Taken, step_of}
use Rattle.meaning.specs.Meaning.{kept_of, sent_of, takes, Idle}
use Rattle.meaning.proofs.Rest.{seen, Fit}
use Rattle.meaning.proofs.Stepping.{seen_told}
use Rattle.meaning.proofs.Follows.{step_means, Onward, onward, Given, answers, tells}
use Rattle.meaning.proofs.Starting.{Begun, read_begun, legacy_begun, params_begun, erase_begun, sectors_begun, program_begun, data_begun, reset_begun, id_begun, busy_begun, protected_begun}
use Rattle.nor_model.specs.Device.{Part, State}
use Rattle.nor_model.specs.Runs.{Times, Ran, replied, exec, replies}
use Rattle.nor_model.specs.Demand3.{Possible}
use Rattle.nor_model.proofs.Laws.{reply_sized}
use Rattle.nor_model.proofs.Replies.{exec_most, replies_bytes}
use Rattle.nor_model.proofs.Short.{exec_short}
use Rattle.on_part.specs.OnPart.{start_of, Served, behind, serve, ran_of, Bytes as PartBytes, ServesAsScript}
use Rattle.on_part.proofs.Resting.{is_answer, Rests, told_rests, told_runs, told_ends, start_rests}

-- ---- bytes
pub each_below : (l : List ℕ) (i : ℕ) → Each (λ (x : ℕ). x < 256) l → byte_at l i < 256
unfolding byte_at
each_below [] i h = omega arith
each_below (x ∷ l) zero h = h.0
each_below (x ∷ l) (suc i) h = each_below l i h.1

-- ---- trees: what they ask for, and how they go on
asked : Tree → Option Sent
asked (ends o) = none
asked (asks t f) = some t

gone_on : Reply → Tree → Tree
gone_on r (ends o) = ends o
gone_on r (asks t f) = f r

outcome_in : Outcome → Tree → Outcome
outcome_in o (ends x) = x
outcome_in o (asks t f) = o

sent_in : Sent → Option Sent → Sent
sent_in t (some u) = u
sent_in t none = t

is_some : Option Sent → Bool
is_some (some t) = true
is_some none = false

-- a full reply goes on with its bytes
full_got : (n : ℕ) (bytes : List ℕ) → length bytes ≡ n → full n (got bytes) ≡ some bytes
unfolding full
full_got n bytes h = rw (eq-eqb (length bytes) n h)

tree_on : (n : ℕ) (w : Kept) (t : Sent) (f : List ℕ → Script Answer) (bytes : List ℕ) → length bytes ≡ t.reply
    → gone_on (got bytes) (tree n (send w t f)) ≡ tree (n + tally t) (f bytes)
unfolding tree gone_on
tree_on n w t f bytes h =
    ap (λ (q : Option (List ℕ)). elim q [ some bytes ↦ tree (n + tally t) (f bytes) | none ↦ ends (record { answer = Access; polls = n + tally t; kept = w }) ])
    (full_got t.reply bytes h)

-- ---- a host before the part
module _ (p : Part) (times : Times) where
  -- an answer is the end
  serve_answer : (k : ℕ) (past : List (List ℕ)) (state : State) (x : Stepped) (room : List ℕ) (a : Answer) (n : ℕ) → x.event ≡ Answered a n
      → serve p times k past state x room ≡ some (record { session = x.session; room = room; answer = a; polls = n; state = state; sent = [] })
  unfolding serve
  serve_answer zero past state x room a n e = rw e
  serve_answer (suc k) past state x room a n e = rw e

  -- every reply on the way is of bytes
  unfoldable pub Replied : ℕ → List (List ℕ) → State → Stepped → List ℕ → Type 0
  Replied zero past state x room = Unit {0}
  Replied (suc k) past state x room =
      elim x.event [
        | Answered a n ↦ Unit {0}
        | Send t ↦
            let u = sent_of t room in
            let y = replied p times past state u in
            let z = step_of x.session false y.1 room in
            Each (λ (b : ℕ). b < 256) y.1 × Replied k (wire u ∷ past) y.0 z.out z.room
      ]

  replied_answer : (k : ℕ) (past : List (List ℕ)) (state : State) (x : Stepped) (room : List ℕ) (a : Answer) (n : ℕ) → x.event ≡ Answered a n
      → Replied k past state x room
  unfolding Replied
  replied_answer zero past state x room a n e = tt
  replied_answer (suc k) past state x room a n e = rw e tt

  -- what a run comes to, with n polls before it
  abbrev counting : ℕ → Ran → Ran
  counting n r = record { answer = r.answer; polls = n + r.polls; kept = r.kept; state = r.state; sent = r.sent }

  record Comes (k n : ℕ) (past : List (List ℕ)) (state : State) (x : Stepped) (room : List ℕ) (c : Script Answer) : Type 0 where
    to : Served
    is : serve p times k past state x room ≡ some to
    same : ran_of to ≡ counting n (exec p times past state c)
    idle : Idle to.session
    bytes : Replied k past state x room

  -- an answer with the outcome of a script that has ended
  seen_answer : (x : Stepped) (room : List ℕ) (a : Answer) (m : ℕ) → x.event ≡ Answered a m
      → seen x room ≡ ends (record { answer = a; polls = m; kept = kept_of x.session room })
  unfolding seen
  seen_answer x room a m h = rw h

  ended : (k n : ℕ) (past : List (List ℕ)) (state : State) (x : Stepped) (room : List ℕ) (w : Kept) (e a : Answer) (m : ℕ)
      → x.event ≡ Answered a m → Rests x → seen x room ≡ ends (record { answer = e; polls = n; kept = w }) → Comes k n past state x room (done w e)
  unfolding exec outcome_in
  ended k n past state x room w e a m h rests s =
      let o : Outcome = record { answer = a; polls = m; kept = kept_of x.session room } in
      let same : o ≡ record { answer = e; polls = n; kept = w } = ap (outcome_in o) (sym (seen_answer x room a m h) ∙ s) in
      record {
        to = record { session = x.session; room = room; answer = a; polls = m; state = state; sent = [] };
        is = serve_answer k past state x room a m h;
        same = ap (λ (q : Outcome). record { answer = q.answer; polls = q.polls; kept = q.kept; state = state; sent = [] }) same
            ∙ ap (λ (j : ℕ). record { answer = e; polls = j; kept = w; state = state; sent = [] }) (omega arith);
        idle = rests ∙ ap is_answer h;
        bytes = replied_answer k past state x room a m h;
      }

  -- an answer where the script ends; and it does not go on there
  at_answer : (k n : ℕ) (past : List (List ℕ)) (state : State) (x : Stepped) (room : List ℕ) (c : Script Answer) (a : Answer) (m : ℕ)
      → x.event ≡ Answered a m → Rests x → seen x room ≡ tree n c → Comes k n past state x room c
  unfolding tree exec asked is_some
  at_answer k n past state x room (done w e) a m h rests s = ended k n past state x room w e a m h rests s
  at_answer k n past state x room (stop w e) a m h rests s =
      let z : Comes k n past state x room (done w e) = ended k n past state x room w e a m h rests s in
      record { to = z.to; is = z.is; same = z.same; idle = z.idle; bytes = z.bytes }
  at_answer k n past state x room (send w t f) a m h rests s = no_true (ap (λ (q : Tree). is_some (asked q)) (sym (seen_answer x room a m h) ∙ s))

  -- ---- a running session
  module _ (s : Session) (room : List ℕ) (fits : Fit s) (runs : is_ended s.phase ≡ false) (enough : need_of s.phase ≤ length room) (few : s.polls + 1 < 2 ^ 64) where
    abbrev out : Sent
    out = sent_of (waits_on s s.phase) room

    -- the host sees that it asks for its transaction, and goes on as the step does
    seen_runs : seen (told s) room ≡ asks out (λ r. seen (takes s r room).out (takes s r room).room)
    seen_runs = seen_told s room ∙ step_means s room fits runs enough few

    not_ended : (o : Outcome) → seen (told s) room ≡ ends o → ⊥
    unfolding asked is_some
    not_ended o e = no_false (ap (λ (q : Tree). is_some (asked q)) (sym seen_runs ∙ e))

    -- it is the script's
    sent_is : (n : ℕ) (w : Kept) (t : Sent) (f : List ℕ → Script Answer) → seen (told s) room ≡ tree n (send w t f) → out ≡ t
    unfolding tree asked sent_in
    sent_is n w t f e = ap (λ (q : Tree). sent_in t (asked q)) (sym seen_runs ∙ e)

    -- so is what follows a full reply
    goes_on_lem : (n : ℕ) (w : Kept) (f : List ℕ → Script Answer) (bytes : List ℕ) → length bytes ≡ out.reply → seen (told s) room ≡ tree n (send w out f)
        → (x : Onward s room (got bytes)) → seen (told x.session) x.lent ≡ tree (n + tally out) (f bytes)
    unfolding gone_on
    goes_on_lem n w f bytes h e x =
        ap (λ (y : Taken). seen y.out y.room) (sym x.is)
        ∙ ap (gone_on (got bytes)) (sym seen_runs ∙ e)
        ∙ tree_on n w out f bytes h

    -- the transaction is carried out, and its reply goes to the step
    serve_runs : (k : ℕ) (past : List (List ℕ)) (state : State)
        → serve p times (suc k) past state (told s) room
        ≡ (let y = replied p times past state out in
        let z = step_of s false y.1 room in
        behind out (serve p times k (wire out ∷ past) y.0 z.out z.room))
    unfolding serve told
    serve_runs k past state = rw (told_runs s runs)

    replied_runs : (k : ℕ) (past : List (List ℕ)) (state : State)
        → (let y = replied p times past state out in
        let z = step_of s false y.1 room in
        Each (λ (b : ℕ). b < 256) y.1 × Replied k (wire out ∷ past) y.0 z.out z.room)
        → Replied (suc k) past state (told s) room
    unfolding Replied told
    replied_runs k past state h = rw (told_runs s runs) h

    sent_first_lem : (k n : ℕ) (past : List (List ℕ)) (state : State) (w : Kept) (f : List ℕ → Script Answer)
        → let y = replied p times past state out in
        (x : Onward s room (got y.1)) → Each (λ (b : ℕ). b < 256) y.1 → Comes k (n + tally out) (wire out ∷ past) y.0 (told x.session) x.lent (f y.1)
        → Comes (suc k) n past state (told s) room (send w out f)
    unfolding exec
    sent_first_lem k n past state w f x b c =
        let y = replied p times past state out in
        let r = exec p times (wire out ∷ past) y.0 (f y.1) in
        record {
          to = record { session = c.to.session; room = c.to.room; answer = c.to.answer; polls = c.to.polls; state = c.to.state; sent = out ∷ c.to.sent };
          is = serve_runs k past state
              ∙ ap (λ (z : Taken). behind out (serve p times k (wire out ∷ past) y.0 z.out z.room)) x.is
              ∙ ap (behind out) c.is;
          same = ap (λ (q : Ran). record { answer = q.answer; polls = q.polls; kept = q.kept; state = q.state; sent = out ∷ q.sent }) c.same
              ∙ ap (λ (j : ℕ). record { answer = r.answer; polls = j; kept = r.kept; state = r.state; sent = out ∷ r.sent }) (omega arith);
          idle = c.idle;
          bytes = replied_runs k past state (b, subst (λ (z : Taken). Replied k (wire out ∷ past) y.0 z.out z.room) (sym x.is) c.bytes);
        }

  -- ---- from any session on: a running one with enough room, or an ended one
  sends : (k n : ℕ) (past : List (List ℕ)) (state : State) (s : Session) (room : List ℕ) (w : Kept) (f : List ℕ → Script Answer)
      → is_ended s.phase ≡ false → Fit s → need_of s.phase ≤ length room
      → let u = sent_of (waits_on s s.phase) room in
      s.polls + length (exec p times past state (send w u f)).sent + 1 < 2 ^ 64 → length (exec p times past state (send w u f)).sent ≤ k
      → Each OfBytes (replies p times past state (send w u f)) → seen (told s) room ≡ tree n (send w u f)
      → ((k n : ℕ) (past : List (List ℕ)) (state : State) (s' : Session) (room : List ℕ) (bytes : List ℕ) → Fit s' → need_of s'.phase ≤ length room
      → s'.polls + length (exec p times past state (f bytes)).sent + 1 < 2 ^ 64 → length (exec p times past state (f bytes)).sent ≤ k
      → Each OfBytes (replies p times past state (f bytes)) → seen (told s') room ≡ tree n (f bytes) → Comes k n past state (told s') room (f bytes))
      → Comes k n past state (told s) room (send w u f)
  unfolding exec replies
  sends zero n past state s room w f runs o h l m b e next = absurd (omega arith)
  sends (suc k) n past state s room w f runs o h l m b e next =
      let u = sent_of (waits_on s s.phase) room in
      let y = replied p times past state u in
      let few : s.polls + 1 < 2 ^ 64 = omega arith in
      let x : Onward s room (got y.1) = onward s room (got y.1) (record { below = λ i. each_below y.1 i b.0 }) o runs h few in
      sent_first_lem s room o runs h few k n past state w f x b.0
      (next k (n + tally u) (wire u ∷ past) y.0 x.session x.lent y.1 x.fits x.enough (omega (arith, x.few)) (omega arith) b.1
      (goes_on_lem s room o runs h few n w f y.1 (reply_sized p (times (wire u ∷ past)) state (wire u) u.reply) e x))

  serves_told : (c : Script Answer) (k n : ℕ) (past : List (List ℕ)) (state : State) (s : Session) (room : List ℕ) → Fit s → need_of s.phase ≤ length room
      → s.polls + length (exec p times past state c).sent + 1 < 2 ^ 64 → length (exec p times past state c).sent ≤ k
      → Each OfBytes (replies p times past state c) → seen (told s) room ≡ tree n c → Comes k n past state (told s) room c
  unfolding tree
  serves_told (done w a) k n past state s room o h l m b e = by (is_ended s.phase) refl
    where
      by : (t : Bool) → is_ended s.phase ≡ t → Comes k n past state (told s) room (done w a)
      by true i = at_answer k n past state (told s) room (done w a) (told_ends s i).0 s.polls (told_ends s i).1 (told_rests s) e
      by false i = absurd (not_ended s room o i h (omega arith) _ e)
  serves_told (stop w a) k n past state s room o h l m b e = by (is_ended s.phase) refl
    where
      by : (t : Bool) → is_ended s.phase ≡ t → Comes k n past state (told s) room (stop w a)
      by true i = at_answer k n past state (told s) room (stop w a) (told_ends s i).0 s.polls (told_ends s i).1 (told_rests s) e
      by false i = absurd (not_ended s room o i h (omega arith) _ e)
  serves_told (send w t f) k n past state s room o h l m b e =
      by (is_ended s.phase) refl (λ k n past state s' room bytes. serves_told (f bytes) k n past state s' room)
    where
      by : (x : Bool) → is_ended s.phase ≡ x
          → ((k n : ℕ) (past : List (List ℕ)) (state : State) (s' : Session) (room : List ℕ) (bytes : List ℕ) → Fit s' → need_of s'.phase ≤ length room
          → s'.polls + length (exec p times past state (f bytes)).sent + 1 < 2 ^ 64 → length (exec p times past state (f bytes)).sent ≤ k
          → Each OfBytes (replies p times past state (f bytes)) → seen (told s') room ≡ tree n (f bytes) → Comes k n past state (told s') room (f bytes))
          → Comes k n past state (told s) room (send w t f)
      by true i next = at_answer k n past state (told s) room (send w t f) (told_ends s i).0 s.polls (told_ends s i).1 (told_rests s) e
      by false i next =
          subst
          (λ (u : Sent). s.polls + length (exec p times past state (send w u f)).sent + 1 < 2 ^ 64
          → length (exec p times past state (send w u f)).sent ≤ k → Each OfBytes (replies p times past state (send w u f)) → seen (told s) room ≡ tree n (send w u f)
          → Comes k n past state (told s) room (send w u f))
          (sent_is s room o i h (omega arith) n w t f e)
          (λ l m b e. sends k n past state s room w f i o h l m b e next)
          l m b e

  -- ---- from what a start gave
  begins : (k : ℕ) (state : State) (x : Stepped) (room : List ℕ) (c : Script Answer) → Begun x room c → Rests x
      → length (exec p times [] state c).sent < 2 ^ 63 → length (exec p times [] state c).sent ≤ k → Each OfBytes (replies p times [] state c)
      → Comes k 0 [] state x room c
  begins k state x room c g rests l m b = by g.given g.means rests
    where
      by : {x : Stepped} → Given room x → seen x room ≡ tree 0 c → Rests x → Comes k 0 [] state x room c
      by {x} (answers a n e) s r = at_answer k 0 [] state x room c a n e r s
      by (tells s o h z) e r = serves_told c k 0 [] state s room o h (omega (arith, z)) m b e

-- ---- the eleven commands
pub begun : (c : Call) (s : Session) (room : List ℕ) → Idle s → Begun (start_of c s room).out (start_of c s room).room (script c (kept_of s room))
begun (Read a n) s room i = read_begun s room i a n
begun (LegacyRead a n) s room i = legacy_begun s room i a n
begun ReadParams s room i = params_begun s room i
begun Erase s room i = erase_begun s room i
begun (EraseSectors a n) s room i = sectors_begun s room i a n
begun (Program a d v) s room i = program_begun s d room i a v
begun (ProgramData a d) s room i = data_begun s d room i a
begun Reset s room i = reset_begun s room i
begun ReadJedecId s room i = id_begun s room i
begun IsBusy s room i = busy_begun s room i
begun IsProtected s room i = protected_begun s room i

abbrev Whole : Part → Times → State → Session → Call → List ℕ → Type 0
Whole p times state s c room =
    Comes p times (most c (kept_of s room)) 0 [] state (start_of c s room).out (start_of c s room).room (script c (kept_of s room))

comes : (p : Part) (times : Times) (state : State) (s : Session) (c : Call) (room : List ℕ) → PartBytes p state → Idle s → Possible (kept_of s room)
    → Whole p times state s c room
comes p times state s c room b i k =
    let w = kept_of s room in
    begins p times (most c w) state (start_of c s room).out (start_of c s room).room (script c w) (begun c s room i) (start_rests s i c room)
    (exec_short p times state w k.sound c) (exec_most p times state c w)
    (replies_bytes p (record { id = b.id; sfdp = b.sfdp }) times [] state (record { below = b.memory }) (script c w))

pub serves : ServesAsScript
serves p times state s c room b i k =
    let x : Whole p times state s c room = comes p times state s c room b i k in
    let r = exec p times [] state (script c (kept_of s room)) in
    record {
      to = x.to;
      is = x.is;
      same = x.same ∙ ap (λ (n : ℕ). record { answer = r.answer; polls = n; kept = r.kept; state = r.state; sent = r.sent }) (omega arith);
      idle = x.idle;
    }

-- and what the part replied on the way was bytes
pub served_bytes : (p : Part) (times : Times) (state : State) (s : Session) (c : Call) (room : List ℕ) → PartBytes p state → Idle s → Possible (kept_of s room)
    → Replied p times (most c (kept_of s room)) [] state (start_of c s room).out (start_of c s room).room
served_bytes p times state s c room b i k = (comes p times state s c room b i k).bytes
