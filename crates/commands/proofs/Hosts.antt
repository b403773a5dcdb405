-- What a host's run of a script comes to: its polls, its list, its end.
use mathlib.Core.Path.{◌≡◌, refl, sym, ap, ◌∙◌}
use mathlib.Core.Bool.{Bool, true, false, cond}
use mathlib.Core.Logic.{◌⊎◌, inl, inr}
use mathlib.Core.List.{List, [], ◌∷◌}
use mathlib.Core.Option.{Option, some, none}
use Prim.Native.Nat.{ℕ, ◌+◌, ◌-◌, ◌≤◌}
use native.Mathlib.Omega.{arith}
use lib.Dec.{eqb}
use lib.ListN.{length}
use borrow.Author.Tests.{eqb-true}
use Rattle.erase_plan.specs.Good.{Each}
use Rattle.commands.specs.declared.Answer.{Answer}
use Rattle.commands.specs.declared.Answer.TheVariants.{Access}
use Rattle.commands.specs.Script.{Sent, Kept, Script, done, stop, send}
use Rattle.commands.specs.Host.{Reply, failed, got, Outcome, Tree, ends, full, tally, tree, play, polls_in}
use Rattle.commands.specs.Bounds.{PollsCounted}

-- ---- the polls
counts : (c : Script Answer) (n : ℕ) (rs : List Reply) (o : Outcome) → (play (tree n c) rs).1 ≡ some o → o.polls ≡ n + polls_in (play (tree n c) rs).0
unfolding tree play polls_in
counts (done w a) n rs o e = let q : o ≡ record { answer = a; polls = n; kept = w } = cc in rw q (omega arith)
counts (stop w x) n rs o e = let q : o ≡ record { answer = x; polls = n; kept = w } = cc in rw q (omega arith)
counts (send w s f) n [] o e = let z : ◌≡◌ {A = ℕ} 0 1 = cc in absurd (omega arith)
counts (send w s f) n (r ∷ rs) o e = go (full s.reply r) (λ bytes. counts (f bytes) (n + tally s) rs o) e
  where
    on : Option (List ℕ) → Tree
    on q = elim q [ some bytes ↦ tree (n + tally s) (f bytes) | none ↦ ends (record { answer = Access; polls = n + tally s; kept = w }) ]

    go : (q : Option (List ℕ))
        → ((bytes : List ℕ) → (play (tree (n + tally s) (f bytes)) rs).1 ≡ some o → o.polls ≡ n + tally s + polls_in (play (tree (n + tally s) (f bytes)) rs).0)
        → (play (on q) rs).1 ≡ some o → o.polls ≡ n + (tally s + polls_in (play (on q) rs).0)
    go (some bytes) h e = omega (arith, h bytes e)
    go none h e = let q : o ≡ record { answer = Access; polls = n + tally s; kept = w } = cc in rw q (omega arith)

pub polls_counted : PollsCounted
polls_counted c rs o e = omega (arith, counts c 0 rs o e)

-- ---- what is sent
-- a script sends at most n transactions, each as Ok says, whatever the replies
abbrev pub Sends : (Sent → Type 0) → {A : Type 0} → ℕ → Script A → Type 0
Sends Ok n (done w a) = Unit {0}
Sends Ok n (stop w e) = Unit {0}
Sends Ok n (send w s f) = Ok s × ((1 ≤ n) × ((bytes : List ℕ) → Sends Ok (n - 1) (f bytes)))

module _ (Ok : Sent → Type 0) where
  pub all_sent : (c : Script Answer) (n m : ℕ) (rs : List Reply) → Sends Ok n c → Each Ok (play (tree m c) rs).0 × (length (play (tree m c) rs).0 ≤ n)
  unfolding tree play
  all_sent (done w a) n m rs h = (tt, omega arith)
  all_sent (stop w e) n m rs h = (tt, omega arith)
  all_sent (send w s f) n m [] h = ((h.0, tt), omega (arith, h.1.0))
  all_sent (send w s f) n m (r ∷ rs) h =
      let k = go (full s.reply r) (λ bytes. all_sent (f bytes) (n - 1) (m + tally s) rs (h.1.1 bytes)) in
      ((h.0, k.0), omega (arith, h.1.0, k.1))
    where
      on : Option (List ℕ) → Tree
      on q = elim q [ some bytes ↦ tree (m + tally s) (f bytes) | none ↦ ends (record { answer = Access; polls = m + tally s; kept = w }) ]

      go : (q : Option (List ℕ))
          → ((bytes : List ℕ) → Each Ok (play (tree (m + tally s) (f bytes)) rs).0 × (length (play (tree (m + tally s) (f bytes)) rs).0 ≤ n - 1))
          → Each Ok (play (on q) rs).0 × (length (play (on q) rs).0 ≤ n - 1)
      go (some bytes) k = k bytes
      go none k = (tt, omega arith)

  -- as many replies as transactions are enough
  pub comes_to_end : (c : Script Answer) (n m : ℕ) (rs : List Reply) → Sends Ok n c → n ≤ length rs → (o : Outcome) × ((play (tree m c) rs).1 ≡ some o)
  unfolding tree play
  comes_to_end (done w a) n m rs h l = (record { answer = a; polls = m; kept = w }, refl)
  comes_to_end (stop w e) n m rs h l = (record { answer = e; polls = m; kept = w }, refl)
  comes_to_end (send w s f) n m [] h l = absurd (omega (arith, h.1.0))
  comes_to_end (send w s f) n m (r ∷ rs) h l =
      go (full s.reply r) (λ bytes. comes_to_end (f bytes) (n - 1) (m + tally s) rs (h.1.1 bytes) (omega (arith, h.1.0)))
    where
      on : Option (List ℕ) → Tree
      on q = elim q [ some bytes ↦ tree (m + tally s) (f bytes) | none ↦ ends (record { answer = Access; polls = m + tally s; kept = w }) ]

      go : (q : Option (List ℕ)) → ((bytes : List ℕ) → (o : Outcome) × ((play (tree (m + tally s) (f bytes)) rs).1 ≡ some o)) → (o : Outcome) × ((play (on q) rs).1 ≡ some o)
      go (some bytes) k = k bytes
      go none k = (record { answer = Access; polls = m + tally s; kept = w }, refl)

-- ---- one transaction: it fails, or a full reply goes on
pub record GoesOn (s : Sent) (f : List ℕ → Script Answer) (rs : List Reply) (o : Outcome) : Type 0 where
  pub bytes : List ℕ
  pub rest : List Reply
  pub behind : ℕ
  pub are : rs ≡ got bytes ∷ rest
  pub sized : length bytes ≡ s.reply
  pub goes : (play (tree behind (f bytes)) rest).1 ≡ some o

abbrev pub Fails : Kept → Outcome → Type 0
Fails w o = (o.kept ≡ w) × (o.answer ≡ Access)

pub full_got : (n : ℕ) (r : Reply) (bytes : List ℕ) → full n r ≡ some bytes → (r ≡ got bytes) × (length bytes ≡ n)
unfolding full
full_got n failed bytes e = let z : ◌≡◌ {A = ℕ} 0 1 = cc in absurd (omega arith)
full_got n (got l) bytes e = go (eqb (length l) n) refl e
  where
    go : (b : Bool) → eqb (length l) n ≡ b → ◌≡◌ {A = Option (List ℕ)} (cond b (some l) none) (some bytes) → (got l ≡ got bytes) × (length bytes ≡ n)
    go true t e =
        let q : l ≡ bytes = cc in
        (ap got q, ap length (sym q) ∙ eqb-true (length l) n t)
    go false t e = let z : ◌≡◌ {A = ℕ} 0 1 = cc in absurd (omega arith)

pub one_sent : (w : Kept) (s : Sent) (f : List ℕ → Script Answer) (n : ℕ) (rs : List Reply) (o : Outcome) → (play (tree n (send w s f)) rs).1 ≡ some o
    → Fails w o ⊎ GoesOn s f rs o
unfolding tree play
one_sent w s f n [] o e = let z : ◌≡◌ {A = ℕ} 0 1 = cc in absurd (omega arith)
one_sent w s f n (r ∷ rs) o e = go (full s.reply r) refl e
  where
    on : Option (List ℕ) → Tree
    on q = elim q [ some bytes ↦ tree (n + tally s) (f bytes) | none ↦ ends (record { answer = Access; polls = n + tally s; kept = w }) ]

    go : (q : Option (List ℕ)) → full s.reply r ≡ q → (play (on q) rs).1 ≡ some o → Fails w o ⊎ GoesOn s f (r ∷ rs) o
    go (some bytes) t e =
        let g : (r ≡ got bytes) × (length bytes ≡ s.reply) = full_got s.reply r bytes t in
        inr (record { bytes = bytes; rest = rs; behind = n + tally s; are = ap (λ (x : Reply). x ∷ rs) g.0; sized = g.1; goes = e })
    go none t e =
        let q : o ≡ record { answer = Access; polls = n + tally s; kept = w } = cc in
        inl (ap (λ (x : Outcome). x.kept) q, ap (λ (x : Outcome). x.answer) q)

-- a script that is at its end
pub at_done : (w : Kept) (a : Answer) (n : ℕ) (rs : List Reply) (o : Outcome) → (play (tree n (done w a)) rs).1 ≡ some o → (o.kept ≡ w) × (o.answer ≡ a)
unfolding tree play
at_done w a n rs o e =
    let q : o ≡ record { answer = a; polls = n; kept = w } = cc in
    (ap (λ (x : Outcome). x.kept) q, ap (λ (x : Outcome). x.answer) q)

pub at_stop : (w : Kept) (a : Answer) (n : ℕ) (rs : List Reply) (o : Outcome) → (play (tree n (stop w a)) rs).1 ≡ some o
    → (o.kept ≡ w) × (o.answer ≡ a) × ((play (tree n (stop w a)) rs).0 ≡ [])
unfolding tree play
at_stop w a n rs o e =
    let q : o ≡ record { answer = a; polls = n; kept = w } = cc in
    (ap (λ (x : Outcome). x.kept) q, ap (λ (x : Outcome). x.answer) q, refl)
