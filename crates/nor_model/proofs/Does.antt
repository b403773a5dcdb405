-- What a script does on the part: a precondition by recursion on the script, with a law for each piece.
use mathlib.Core.Path.{◌≡◌, refl, ap, ◌∙◌}
use mathlib.Core.Bool.{true}
use mathlib.Core.List.{List, [], ◌∷◌}
use mathlib.Core.Option.{none}
use Prim.Native.Nat.{ℕ, zero, suc, ◌-◌, ◌≤◌, ◌<◌}
use native.Mathlib.Omega.{arith}
use lib.Dec.{eqb}
use borrow.Author.Tests.{eqb-true, eqb-false}
use Rattle.erase_plan.specs.Good.{Each}
use Rattle.erase_plan.proofs.Lists.{by_cond}
use Rattle.commands.specs.declared.Answer.{Answer}
use Rattle.commands.specs.Script.{Sent, Kept, Script, done, stop, send, Cmd, after, each}
use Rattle.commands.specs.Wire.{wire}
use Rattle.commands.specs.Transactions.{write_enable, by_flag, status_poll, polls, operation}
use Rattle.commands.specs.Bounds.{limit}
use Rattle.nor_model.specs.Device.{Part, State, lowered, respond}
use Rattle.nor_model.specs.Runs.{Times, replied, exec}
use Rattle.nor_model.proofs.Memory.{Mem}
use Rattle.nor_model.proofs.Laws.{enabled, started, on_enable, Polled, on_poll}
use Rattle.nor_model.proofs.Pages.{all}

-- the part is idle with the memory m
pub record Idle (m : Mem) (s : State) : Type 0 where
  pub idle : s.busy ≡ 0
  pub same : s.memory ≡ m

-- what an operation rests on: 06 and the polls are none of the part's erases, the poll chosen is offered, and the part is ready
-- within the poll limit
pub record Pollable (p : Part) (times : Times) (w : Kept) : Type 0 where
  pub op06 : p.erases 0x06 ≡ none
  pub op05 : p.erases 0x05 ≡ none
  pub op70 : p.erases 0x70 ≡ none
  pub offered : by_flag w ≡ true → p.flagged ≡ true
  pub some : 0 < limit w
  pub short : (past : List (List ℕ)) → times past ≤ limit w

-- sending t does f to the memory of a part that is idle and enabled
pub record Operates (p : Part) (Ok : Sent → Type 0) (t : Sent) (f : Mem → Mem) : Type 0 where
  pub ok : Ok t
  pub law : (wait : ℕ) (s : State) → s.busy ≡ 0 → s.latch ≡ true → respond p wait s (wire t) t.reply ≡ (started wait (f s.memory), [])

-- each transaction is Ok; where the command ends, Ends holds
module _ (p : Part) (times : Times) (Ok : Sent → Type 0) (Ends : Kept → Answer → State → Type 0) where
  abbrev pub Does : {A : Type 0} → List (List ℕ) → State → Script A → (A → Kept → List (List ℕ) → State → Type 0) → Type 0
  Does past s (done w a) Q = Q a w past s
  Does past s (stop w e) Q = Ends w e s
  Does past s (send w t f) Q = Ok t × Does (wire t ∷ past) (replied p times past s t).0 (f (replied p times past s t).1) Q

  -- so says the run
  pub does_exec : (past : List (List ℕ)) (s : State) (c : Script Answer) → Does past s c (λ a w past' s'. Ends w a s')
      → Ends (exec p times past s c).kept (exec p times past s c).answer (exec p times past s c).state × Each Ok (exec p times past s c).sent
  unfolding exec
  does_exec past s (done w a) h = (h, tt)
  does_exec past s (stop w e) h = (h, tt)
  does_exec past s (send w t f) h =
      let k = does_exec (wire t ∷ past) (replied p times past s t).0 (f (replied p times past s t).1) h.1 in
      (k.0, (h.0, k.1))

  -- one piece after another
  pub does_after : {A B : Type 0} (past : List (List ℕ)) (s : State) (c : Script A) (k : A → Cmd B) (Q : B → Kept → List (List ℕ) → State → Type 0)
      → Does past s c (λ a w past' s'. Does past' s' (k a w) Q) → Does past s (after c k) Q
  unfolding after
  does_after past s (done w a) k Q h = h
  does_after past s (stop w e) k Q h = h
  does_after past s (send w t f) k Q h =
      (h.0, does_after (wire t ∷ past) (replied p times past s t).0 (f (replied p times past s t).1) k Q h.1)

  -- one transaction, by the part's law for it
  pub does_send : {A : Type 0} (past : List (List ℕ)) (s s' : State) (w : Kept) (t : Sent) (bytes : List ℕ) (f : List ℕ → Script A)
      (Q : A → Kept → List (List ℕ) → State → Type 0) → Ok t → replied p times past s t ≡ (s', bytes) → Does (wire t ∷ past) s' (f bytes) Q
      → Does past s (send w t f) Q
  does_send past s s' w t bytes f Q o e h = (o, rw e h)

  module _ (w : Kept) (r : Pollable p times w) (ok_poll : Ok (status_poll w)) where
    -- polls, until the part is idle
    pub does_polls : (n : ℕ) (past : List (List ℕ)) (s : State) (Q : Unit {0} → Kept → List (List ℕ) → State → Type 0) → 0 < n → s.busy ≤ n
        → ((past' : List (List ℕ)) (s' : State) → Idle s.memory s' → Q tt w past' s') → Does past s (polls n w) Q
    unfolding polls
    does_polls zero past s Q h k q = absurd (omega arith)
    does_polls (suc n) past s Q h k q =
        let past' : List (List ℕ) = wire (status_poll w) ∷ past in
        let o : Polled (by_flag w) s (replied p times past s (status_poll w)) = on_poll p (times past') s w r.op05 r.op70 r.offered in (
          ok_poll,
          rw (o.says, o.state)
              (by_cond (λ (c : Script (Unit {0})). Does past' (lowered s) c Q) (eqb (s.busy - 1) 0) (done w tt) (polls n w)
              (λ e. q past' (lowered s) (record { idle = eqb-true (s.busy - 1) 0 e; same = refl }))
              (λ e. let z : s.busy - 1 ≡ 0 → ⊥ = eqb-false (s.busy - 1) 0 e in
              does_polls n past' (lowered s) Q (omega arith) (omega arith) q)),
        )

    -- 06; the operation; polls
    pub does_operation : Ok write_enable → (t : Sent) (past : List (List ℕ)) (s : State) (m : Mem) (Q : Unit {0} → Kept → List (List ℕ) → State → Type 0)
        → Ok t → s.busy ≡ 0 → ((wait : ℕ) → respond p wait (enabled s) (wire t) t.reply ≡ (started wait m, []))
        → ((past' : List (List ℕ)) (s' : State) → Idle m s' → Q tt w past' s') → Does past s (operation t w) Q
    unfolding after
    does_operation ok t past s m Q o i law q =
        let past₁ : List (List ℕ) = wire write_enable ∷ past in
        let past₂ : List (List ℕ) = wire t ∷ past₁ in (
          ok,
          rw (on_enable p (times past₁) s i r.op06) (
            o,
            rw (law (times past₂)) (does_polls (limit w) past₂ (started (times past₂) m) Q r.some (r.short past₂) q),
          ),
        )

    -- operations, one after another: c x is the operation t x
    pub does_each : Ok write_enable → {X : Type 0} (c : X → Cmd (Unit {0})) (t : X → Sent) (f : X → Mem → Mem) → ((x : X) → c x w ≡ operation (t x) w)
        → (xs : List X) (past : List (List ℕ)) (s : State) (Q : Unit {0} → Kept → List (List ℕ) → State → Type 0)
        → Each (λ (x : X). Operates p Ok (t x) (f x)) xs → s.busy ≡ 0
        → ((past' : List (List ℕ)) (s' : State) → Idle (all f xs s.memory) s' → Q tt w past' s') → Does past s (each c xs w) Q
    unfolding each all
    does_each ok c t f e [] past s Q h i q = q past s (record { idle = i; same = refl })
    does_each ok c t f e (x ∷ xs) past s Q h i q =
        does_after past s (c x w) (λ u. each c xs) Q
        (rw (e x)
        (does_operation ok (t x) past s (f x s.memory) _ h.0.ok i (λ wait. h.0.law wait (enabled s) i refl)
        (λ past' s' j. does_each ok c t f e xs past' s' Q h.1 j.idle
        (λ past'' s'' l. q past'' s'' (record { idle = l.idle; same = l.same ∙ ap (all f xs) j.same })))))
