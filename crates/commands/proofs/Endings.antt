-- What holds where a piece of a command goes on, and where it ends.
use mathlib.Core.Path.{◌≡◌, refl, sym, subst}
use mathlib.Core.Bool.{Bool, true, false, cond}
use mathlib.Core.Logic.{⊎_elim}
use mathlib.Core.List.{List, [], ◌∷◌}
use mathlib.Core.Option.{some}
use Prim.Native.Nat.{ℕ, zero, suc}
use lib.ListN.{length}
use Rattle.dwords.specs.Dwords.{byte_at}
use Rattle.commands.specs.declared.Answer.{Answer}
use Rattle.commands.specs.declared.Answer.TheVariants.{Access, Busy}
use Rattle.commands.specs.Script.{Sent, Kept, Script, done, stop, send, Cmd, after, each}
use Rattle.commands.specs.Host.{Reply, Outcome, tree, play}
use Rattle.commands.specs.Transactions.{by_flag, ready, polls, operation}
use Rattle.commands.proofs.Hosts.{one_sent, at_done, at_stop}

-- a property of what is kept, carried along an equation
pub along : (P : Kept → Type 0) {w w' : Kept} → w' ≡ w → P w → P w'
along P e p = subst P (sym e) p

-- where the piece goes on, R holds; where the command ends, Q; for the replies that Full admits
module _ (Full : Sent → List ℕ → Type 0) (Q : Kept → Answer → Type 0) where
  abbrev pub Ends : {A : Type 0} → (A → Kept → Type 0) → Script A → Type 0
  Ends R (done w a) = R a w
  Ends R (stop w e) = Q w e
  Ends R (send w s f) = Q w Access × ((r : List ℕ) → Full s r → Ends R (f r))

  pub ends_after : {A B : Type 0} (R : A → Kept → Type 0) (S : B → Kept → Type 0) (c : Script A) (k : A → Cmd B)
      → Ends R c → ((a : A) (w : Kept) → R a w → Ends S (k a w)) → Ends S (after c k)
  unfolding after
  ends_after R S (done w a) k p q = q a w p
  ends_after R S (stop w e) k p q = p
  ends_after R S (send w s f) k p q = (p.0, λ r h. ends_after R S (f r) k (p.1 r h) q)

  -- a piece that leaves all as it is, and another after it
  pub ends_then : {A B : Type 0} (w : Kept) (S : B → Kept → Type 0) (c : Script A) (k : A → Cmd B)
      → Ends (λ a w'. w' ≡ w) c → ((a : A) → Ends S (k a w)) → Ends S (after c k)
  ends_then w S c k p q = ends_after (λ a w'. w' ≡ w) S c k p (λ a w' e. along (λ (x : Kept). Ends S (k a x)) e (q a))

  pub ends_each : {X : Type 0} (c : X → Cmd (Unit {0})) (w : Kept) → ((x : X) → Ends (λ a w'. w' ≡ w) (c x w)) → (xs : List X)
      → Ends (λ a w'. w' ≡ w) (each c xs w)
  unfolding each
  ends_each c w h [] = refl
  ends_each c w h (x ∷ xs) = ends_then w (λ a w'. w' ≡ w) (c x w) (λ u. each c xs) (h x) (λ u. ends_each c w h xs)

  module _ (w : Kept) (failing : Q w Access) (busy : Q w Busy) where
    pub ends_polls : (n : ℕ) → Ends (λ a w'. w' ≡ w) (polls n w)
    unfolding polls
    ends_polls zero = busy
    ends_polls (suc n) = (failing, λ r h. go (ready (by_flag w) (byte_at r 0)) (ends_polls n))
      where
        go : (b : Bool) → Ends (λ a w'. w' ≡ w) (polls n w) → Ends (λ a w'. w' ≡ w) (cond b (done w tt) (polls n w))
        go true h = refl
        go false h = h

    pub ends_operation : (s : Sent) → Ends (λ a w'. w' ≡ w) (operation s w)
    unfolding after
    ends_operation s = (failing, λ r h. (failing, λ r' h'. ends_polls _))

-- replies of the length asked for
abbrev pub Sized : Sent → List ℕ → Type 0
Sized s r = length r ≡ s.reply

-- so for a host's outcome
pub ends_host : (Q : Kept → Answer → Type 0) (c : Script Answer) → Ends Sized Q (λ a w. Q w a) c → (n : ℕ) (rs : List Reply) (o : Outcome)
    → (play (tree n c) rs).1 ≡ some o → Q o.kept o.answer
ends_host Q (done w a) h n rs o e = let q = at_done w a n rs o e in subst (λ (x : Kept). Q x o.answer) (sym q.0) (subst (Q w) (sym q.1) h)
ends_host Q (stop w a) h n rs o e = let q = at_stop w a n rs o e in subst (λ (x : Kept). Q x o.answer) (sym q.0) (subst (Q w) (sym q.1) h)
ends_host Q (send w s f) h n rs o e =
    ⊎_elim (λ q. subst (λ (x : Kept). Q x o.answer) (sym q.0) (subst (Q w) (sym q.1) h.0))
    (λ g. ends_host Q (f g.bytes) (h.1 g.bytes g.sized) g.behind g.rest o g.goes)
    (one_sent w s f n rs o e)
