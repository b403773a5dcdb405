-- A script run on the part: each transaction is carried out once, and its true reply is given back.
use Rattle.std.specs.Prelude.{◌≡◌, List, [], ◌∷◌, ℕ, ◌+◌}
use Rattle.std.proofs.Math.Option.{some}
use Rattle.commands.specs.declared.Answer.{Answer}
use Rattle.commands.specs.Script.{Sent, Kept, Script, done, stop, send}
use Rattle.commands.specs.Wire.{wire}
use Rattle.commands.specs.Host.{Reply, got, tally, tree, play}
use Rattle.nor_model.specs.Device.{Part, State, respond}

-- how many polls an operation stays busy: any function of what was sent since the command started, the newest first. Each command has
-- its own
abbrev pub Times : Type 0
Times = List (List ℕ) → ℕ

-- what a run comes to: the answer, its polls, what is kept, the part's state, and the transactions
pub record Ran : Type 0 where
  pub answer : Answer
  pub polls : ℕ
  pub kept : Kept
  pub state : State
  pub sent : List Sent

abbrev pub ended : State → Kept → Answer → Ran
ended s w a = record { answer = a; polls = 0; kept = w; state = s; sent = [] }

-- a run with a transaction before it
abbrev pub sent_first : Sent → Ran → Ran
sent_first t r = record { answer = r.answer; polls = tally t + r.polls; kept = r.kept; state = r.state; sent = t ∷ r.sent }

-- the part's next state and its reply to a transaction
abbrev pub replied : Part → Times → List (List ℕ) → State → Sent → State × List ℕ
replied p times past s t = respond p (times (wire t ∷ past)) s (wire t) t.reply

unfoldable pub exec : Part → Times → List (List ℕ) → State → Script Answer → Ran
exec p times past s (done w a) = ended s w a
exec p times past s (stop w e) = ended s w e
exec p times past s (send w t f) =
    sent_first t (exec p times (wire t ∷ past) (replied p times past s t).0 (f (replied p times past s t).1))

-- the part's replies, in order
unfoldable pub replies : Part → Times → List (List ℕ) → State → Script Answer → List Reply
replies p times past s (done w a) = []
replies p times past s (stop w e) = []
replies p times past s (send w t f) =
    got (replied p times past s t).1 ∷ replies p times (wire t ∷ past) (replied p times past s t).0 (f (replied p times past s t).1)

-- a host that gives back the part's replies sends the same and comes to the same
abbrev pub ExecPlays : Type 0
ExecPlays =
    (p : Part) (times : Times) (past : List (List ℕ)) (s : State) (c : Script Answer)
    → let r = exec p times past s c in
    play (tree 0 c) (replies p times past s c) ≡ (r.sent, some (record { answer = r.answer; polls = r.polls; kept = r.kept }))
