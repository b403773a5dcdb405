-- The laws of `Sends`.
use mathlib.Core.Path.{◌≡◌}
use mathlib.Core.Bool.{Bool, true, false, cond}
use mathlib.Core.List.{List, [], ◌∷◌}
use Prim.Native.Nat.{ℕ, zero, suc, ◌+◌, ◌-◌, ◌*◌, ◌≤◌}
use native.Mathlib.Omega.{arith}
use lib.ListN.{length}
use Rattle.dwords.specs.Dwords.{byte_at}
use Rattle.commands.specs.declared.Answer.{Answer}
use Rattle.commands.specs.Script.{Sent, Kept, Script, done, stop, send, Cmd, after, need, when, each}
use Rattle.commands.proofs.Hosts.{Sends}
use Rattle.commands.specs.Transactions.{write_enable, by_flag, status_poll, ready, polls, operation}
use Rattle.commands.proofs.Endings.{along, Ends, ends_operation, ends_each}

-- where a piece goes on, R holds, whatever the replies
abbrev pub Leads : {A : Type 0} → (A → Kept → Type 0) → Script A → Type 0
Leads R c = Ends (λ s r. Unit {0}) (λ w e. Unit {0}) R c

pub leads_on : {A : Type 0} (c : Script A) → Leads (λ a w. Unit {0}) c
leads_on (done w a) = tt
leads_on (stop w e) = tt
leads_on (send w s f) = (tt, λ r h. leads_on (f r))

-- it goes on with all as it was
abbrev pub Stays : {A : Type 0} → Kept → Script A → Type 0
Stays w c = Leads (λ a w'. w' ≡ w) c

pub stays_operation : (s : Sent) (w : Kept) → Stays w (operation s w)
stays_operation s w = ends_operation (λ s r. Unit {0}) (λ w e. Unit {0}) w tt tt s

pub stays_each : {X : Type 0} (c : X → Cmd (Unit {0})) (w : Kept) → ((x : X) → Stays w (c x w)) → (xs : List X) → Stays w (each c xs w)
stays_each c w h xs = ends_each (λ s r. Unit {0}) (λ w e. Unit {0}) c w h xs

module _ (Ok : Sent → Type 0) where
  pub weaken : {A : Type 0} (c : Script A) {m n : ℕ} → m ≤ n → Sends Ok m c → Sends Ok n c
  weaken (done w a) h p = tt
  weaken (stop w e) h p = tt
  weaken (send w s f) h p = (p.0, (omega (arith, p.1.0), λ r. weaken (f r) (omega arith) (p.1.1 r)))

  -- one piece after another
  pub sends_after : {A B : Type 0} (R : A → Kept → Type 0) (m n : ℕ) (c : Script A) (k : A → Cmd B)
      → Sends Ok m c → Leads R c → ((a : A) (w : Kept) → R a w → Sends Ok n (k a w)) → Sends Ok (m + n) (after c k)
  unfolding after
  sends_after R m n (done w a) k p l q = weaken (k a w) (omega arith) (q a w l)
  sends_after R m n (stop w e) k p l q = tt
  sends_after R m n (send w s f) k p l q =
      (p.0, (omega (arith, p.1.0), λ r. weaken (after (f r) k) (omega (arith, p.1.0)) (sends_after R (m - 1) n (f r) k (p.1.1 r) (l.1 r tt) q)))

  -- where the first leaves all as it was
  pub sends_then : {A B : Type 0} (w : Kept) (m n : ℕ) (c : Script A) (k : A → Cmd B)
      → Sends Ok m c → Stays w c → ((a : A) → Sends Ok n (k a w)) → Sends Ok (m + n) (after c k)
  sends_then w m n c k p l q = sends_after (λ a w'. w' ≡ w) m n c k p l (λ a w' e. along (λ (x : Kept). Sends Ok n (k a x)) e (q a))

  -- where the second keeps to its bound from anywhere
  pub sends_any : {A B : Type 0} (m n : ℕ) (c : Script A) (k : A → Cmd B) → Sends Ok m c → ((a : A) (w : Kept) → Sends Ok n (k a w)) → Sends Ok (m + n) (after c k)
  sends_any m n c k p q = sends_after (λ a w. Unit {0}) m n c k p (leads_on c) (λ a w _. q a w)

  -- a piece for each element of a list
  pub sends_each : {X : Type 0} (c : X → Cmd (Unit {0})) (n : ℕ) (w : Kept) → ((x : X) → Sends Ok n (c x w)) → ((x : X) → Stays w (c x w)) → (xs : List X)
      → Sends Ok (length xs * n) (each c xs w)
  unfolding each
  sends_each c n w h l [] = tt
  sends_each c n w h l (x ∷ xs) =
      weaken (after (c x w) (λ u. each c xs)) (omega arith)
      (sends_then w n (length xs * n) (c x w) (λ u. each c xs) (h x) (l x) (λ u. sends_each c n w h l xs))

  pub sends_need : (n : ℕ) (t : Bool) (e : Answer) (w : Kept) → Sends Ok n (need t e w)
  sends_need n true e w = tt
  sends_need n false e w = tt

  pub sends_when : (n : ℕ) (t : Bool) (c : Cmd (Unit {0})) (w : Kept) → Sends Ok n (c w) → Sends Ok n (when t c w)
  sends_when n true c w h = h
  sends_when n false c w h = tt

  module _ (w : Kept) (enabling : Ok write_enable) (polling : Ok (status_poll w)) where
    pub sends_polls : (n : ℕ) → Sends Ok n (polls n w)
    unfolding polls
    sends_polls zero = tt
    sends_polls (suc n) = (polling, (omega arith, λ r. go (ready (by_flag w) (byte_at r 0)) (sends_polls n)))
      where
        go : (b : Bool) → Sends Ok n (polls n w) → Sends Ok {A = Unit {0}} (suc n - 1) (cond b (done w tt) (polls n w))
        go true h = tt
        go false h = weaken (polls n w) (omega arith) h

    -- 06, the operation, polls
    pub sends_operation : (s : Sent) → Ok s → Sends Ok (2 + w.settings.poll_limit) (operation s w)
    unfolding after
    sends_operation s h =
        (enabling, (omega arith, λ r. (h, (omega arith, λ r'. weaken (polls _ w) (omega arith) (sends_polls _)))))
