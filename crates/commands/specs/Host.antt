-- What a host sees of a script: every reply it may give, failures too, and at the end the outcome with its polls.
use Rattle.std.specs.Prelude.{cond, List, [], ◌∷◌, ℕ, ◌+◌, eqb, length}
use Rattle.std.proofs.Math.Option.{Option, some, none}
use Rattle.commands.specs.declared.Answer.{Answer}
use Rattle.commands.specs.declared.Answer.TheVariants.{Access}
use Rattle.commands.specs.Script.{Sent, Kept, Script, done, stop, send}

-- the host reports a failure, or gives the reply's bytes
pub data Reply : Type 0 where
  failed : Reply
  got : List ℕ → Reply

-- an answer with its poll count, and what is kept
pub record Outcome : Type 0 where
  pub answer : Answer
  pub polls : ℕ
  pub kept : Kept

pub data Tree : Type 0 where
  ends : Outcome → Tree
  asks : Sent → (Reply → Tree) → Tree

-- the bytes of a reply that has the length asked for
unfoldable pub full : ℕ → Reply → Option (List ℕ)
full n failed = none
full n (got bytes) = cond (eqb (length bytes) n) (some bytes) none

unfoldable pub tally : Sent → ℕ
tally s = cond s.poll 1 0

-- a script with n polls behind it: a failure or a reply of another length is answer 8
unfoldable pub tree : ℕ → Script Answer → Tree
tree n (done w a) = ends (record { answer = a; polls = n; kept = w })
tree n (stop w e) = ends (record { answer = e; polls = n; kept = w })
tree n (send w s f) =
    asks s (λ r. elim (full s.reply r) [
      | some bytes ↦ tree (n + tally s) (f bytes)
      | none ↦ ends (record { answer = Access; polls = n + tally s; kept = w })
    ])

-- a host with these replies: what it sends, and the outcome if it comes to one
unfoldable pub play : Tree → List Reply → List Sent × Option Outcome
play (ends o) rs = ([], some o)
play (asks s f) [] = (s ∷ [], none)
play (asks s f) (r ∷ rs) = (s ∷ (play (f r) rs).0, (play (f r) rs).1)

-- how many of the transactions are polls
unfoldable pub polls_in : List Sent → ℕ
polls_in [] = 0
polls_in (s ∷ ss) = tally s + polls_in ss
