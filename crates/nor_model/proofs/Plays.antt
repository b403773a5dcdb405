-- A run of a script on the part is what a host comes to that gives back the part's replies.
use mathlib.Core.Path.{◌≡◌, ap, ◌∙◌}
use mathlib.Core.List.{List, [], ◌∷◌}
use mathlib.Core.Option.{Option, some, none}
use Prim.Native.Nat.{ℕ, ◌+◌}
use native.Mathlib.Omega.{arith}
use lib.ListN.{length}
use borrow.Author.Tests.{eq-eqb}
use Rattle.commands.specs.declared.Answer.{Answer}
use Rattle.commands.specs.declared.Answer.TheVariants.{Access}
use Rattle.commands.specs.Script.{Sent, Script, done, stop, send}
use Rattle.commands.specs.Wire.{wire}
use Rattle.commands.specs.Host.{Reply, got, Outcome, Tree, ends, full, tally, tree, play}
use Rattle.nor_model.specs.Device.{Part, State}
use Rattle.nor_model.specs.Runs.{Times, Ran, replied, exec, replies, ExecPlays}
use Rattle.nor_model.proofs.Laws.{reply_sized}

-- the part's replies have the length asked for
full_got : (n : ℕ) (bytes : List ℕ) → length bytes ≡ n → full n (got bytes) ≡ some bytes
unfolding full
full_got n bytes h = rw (eq-eqb (length bytes) n h)

-- an outcome with n polls more
abbrev pub outcome : ℕ → Ran → Outcome
outcome n r = record { answer = r.answer; polls = n + r.polls; kept = r.kept }

module _ (p : Part) (times : Times) where
  plays_on : (n : ℕ) (past : List (List ℕ)) (s : State) (c : Script Answer)
      → play (tree n c) (replies p times past s c) ≡ ((exec p times past s c).sent, some (outcome n (exec p times past s c)))
  unfolding tree play exec replies
  plays_on n past s (done w a) = ap (λ (k : ℕ). ([], some (record { answer = a; polls = k; kept = w }))) (omega arith)
  plays_on n past s (stop w e) = ap (λ (k : ℕ). ([], some (record { answer = e; polls = k; kept = w }))) (omega arith)
  plays_on n past s (send w t f) =
      ap (λ (q : Option (List ℕ)). behind (play (on q) rs)) (full_got t.reply bytes (reply_sized p (times (wire t ∷ past)) s (wire t) t.reply))
      ∙ ap behind (plays_on (n + tally t) (wire t ∷ past) (replied p times past s t).0 (f bytes))
      ∙ ap (λ (k : ℕ). (t ∷ r.sent, some (record { answer = r.answer; polls = k; kept = r.kept }))) (omega arith)
    where
      bytes : List ℕ
      bytes = (replied p times past s t).1

      rs : List Reply
      rs = replies p times (wire t ∷ past) (replied p times past s t).0 (f bytes)

      r : Ran
      r = exec p times (wire t ∷ past) (replied p times past s t).0 (f bytes)

      on : Option (List ℕ) → Tree
      on q = elim q [ some bytes ↦ tree (n + tally t) (f bytes) | none ↦ ends (record { answer = Access; polls = n + tally t; kept = w }) ]

      behind : List Sent × Option Outcome → List Sent × Option Outcome
      behind x = (t ∷ x.0, x.1)

pub exec_plays : ExecPlays
exec_plays p times past s c =
    plays_on p times 0 past s c
    ∙ ap (λ (k : ℕ). ((exec p times past s c).sent, some (record { answer = (exec p times past s c).answer; polls = k; kept = (exec p times past s c).kept }))) (omega arith)
