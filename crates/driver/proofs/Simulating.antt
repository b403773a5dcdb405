-- Two drivers that agree call by call: a host sees of the one what the other shows.
use mathlib.Core.Path.{◌≡◌, refl, sym, ap, ◌∙◌, subst}
use mathlib.Core.List.{List, [], ◌∷◌, ◌++◌}
use Prim.Native.Nat.{ℕ}
use lib.ListN.{drop}
use Rattle.erase_plan.specs.Good.{Each}
use Rattle.commands.specs.declared.Answer.{Answer}
use Rattle.commands.specs.Script.{Kept}
use Rattle.driver.specs.Driver.{Carried, Told, sends, answers, Back, Driver, Turn, Starts, Steps, Sets, Asks, Seen, Stand, call, buffered, next, sees, shown, Typed}

-- a way to show what is told: a transaction as one, an answer as one
pub record Shows {A : Type 0} (show : Told Answer → Told A) : Type 0 where
  pub sent : Carried → Carried
  pub said : Answer → ℕ → A × ℕ
  pub sending : (t : Carried) → show (sends t) ≡ sends (sent t)
  pub answering : (a : Answer) (n : ℕ) → show (answers a n) ≡ answers (said a n).0 (said a n).1

-- the buffer after a call goes by what is told and by the room
abbrev pub kindly : {A : Type 0} → Told A → List ℕ → List ℕ → List ℕ
kindly (sends t) old new = new
kindly (answers a n) old new = old

abbrev pub later : {H A : Type 0} → Turn → Back H A → List ℕ → List ℕ
later (Starts c buffer k) y b = kindly y.told b (y.room ++ drop k buffer)
later (Steps f r k) y b = y.room ++ drop k b
later (Sets a) y b = b
later Asks y b = b

buffered_is : {A : Type 0} (D : Driver A) (q : Told A) (old new : List ℕ) → buffered D q old new ≡ kindly q old new
buffered_is D (sends t) old new = refl
buffered_is D (answers a n) old new = refl

pub next_is : {A : Type 0} (D : Driver A) (t : Turn) (x : D.Held) (b : List ℕ) → next D t (record { held = x; buffer = b })
    ≡ record { held = (call D t (record { held = x; buffer = b })).held; buffer = later t (call D t (record { held = x; buffer = b })) b }
next_is D (Starts c buffer k) x b =
    ap (λ (l : List ℕ). record { held = (call D (Starts c buffer k) (record { held = x; buffer = b })).held; buffer = l })
    (buffered_is D (call D (Starts c buffer k) (record { held = x; buffer = b })).told b ((call D (Starts c buffer k) (record { held = x; buffer = b })).room ++ drop k buffer))
next_is D (Steps f r k) x b = refl
next_is D (Sets a) x b = refl
next_is D Asks x b = refl

module _ {A : Type 0} (D : Driver A) (E : Driver Answer) (show : Told Answer → Told A) (R : D.Held → E.Held → List ℕ → Type 0) where
  -- of a call of each: what is told, the room and what is kept are the same, and they agree again, with the buffer as it is then
  pub record Same (x : D.Held) (y : E.Held) (b : List ℕ) (t : Turn) : Type 0 where
    pub told : (call D t (record { held = x; buffer = b })).told ≡ show (call E t (record { held = y; buffer = b })).told
    pub room : (call D t (record { held = x; buffer = b })).room ≡ (call E t (record { held = y; buffer = b })).room
    pub kept : D.keeps (call D t (record { held = x; buffer = b })).held ≡ E.keeps (call E t (record { held = y; buffer = b })).held
    pub again : R (call D t (record { held = x; buffer = b })).held (call E t (record { held = y; buffer = b })).held (later t (call E t (record { held = y; buffer = b })) b)

  -- from what the two calls come to
  pub same_by : (x : D.Held) (y : E.Held) (b : List ℕ) (t : Turn) (u : Back D.Held A) (v : Back E.Held Answer)
      → call D t (record { held = x; buffer = b }) ≡ u → call E t (record { held = y; buffer = b }) ≡ v
      → u.told ≡ show v.told → u.room ≡ v.room → D.keeps u.held ≡ E.keeps v.held → R u.held v.held (later t v b) → Same x y b t
  same_by x y b t u v du dv told room kept again =
      record {
        told = ap (λ (z : Back D.Held A). z.told) du ∙ told ∙ sym (ap (λ (z : Back E.Held Answer). show z.told) dv);
        room = ap (λ (z : Back D.Held A). z.room) du ∙ room ∙ sym (ap (λ (z : Back E.Held Answer). z.room) dv);
        kept = ap (λ (z : Back D.Held A). D.keeps z.held) du ∙ kept ∙ sym (ap (λ (z : Back E.Held Answer). E.keeps z.held) dv);
        again = subst (λ (z : Back D.Held A). R z.held (call E t (record { held = y; buffer = b })).held (later t (call E t (record { held = y; buffer = b })) b)) (sym du)
            (subst (λ (z : Back E.Held Answer). R u.held z.held (later t z b)) (sym dv) again);
      }

  module _ (alike : Shows show) (turn : (x : D.Held) (y : E.Held) (b : List ℕ) (t : Turn) → Typed t → R x y b → Same x y b t) where
    kindly_shown : (q : Told Answer) (old new : List ℕ) → kindly (show q) old new ≡ kindly q old new
    kindly_shown (sends t) old new = ap (λ (z : Told A). kindly z old new) (alike.sending t)
    kindly_shown (answers a n) old new = ap (λ (z : Told A). kindly z old new) (alike.answering a n)

    pub later_same : (t : Turn) (u : Back D.Held A) (v : Back E.Held Answer) (b : List ℕ) → u.told ≡ show v.told → u.room ≡ v.room → later t u b ≡ later t v b
    later_same (Starts c buffer k) u v b h g =
        ap (λ (q : Told A). kindly q b (u.room ++ drop k buffer)) h
        ∙ kindly_shown v.told b (u.room ++ drop k buffer)
        ∙ ap (λ (l : List ℕ). kindly v.told b (l ++ drop k buffer)) g
    later_same (Steps f r k) u v b h g = ap (λ (l : List ℕ). l ++ drop k b) g
    later_same (Sets a) u v b h g = refl
    later_same Asks u v b h g = refl

    rest : (t : Turn) (ts : List Turn) (x : D.Held) (y : E.Held) (b : List ℕ) → Same x y b t
        → sees D ts (record { held = (call D t (record { held = x; buffer = b })).held; buffer = later t (call E t (record { held = y; buffer = b })) b })
        ≡ shown show (sees E ts (record { held = (call E t (record { held = y; buffer = b })).held; buffer = later t (call E t (record { held = y; buffer = b })) b }))
        → sees D ts (next D t (record { held = x; buffer = b })) ≡ shown show (sees E ts (next E t (record { held = y; buffer = b })))
    rest t ts x y b s i =
        ap (sees D ts) (next_is D t x b)
        ∙ ap (λ (l : List ℕ). sees D ts (record { held = (call D t (record { held = x; buffer = b })).held; buffer = l }))
        (later_same t (call D t (record { held = x; buffer = b })) (call E t (record { held = y; buffer = b })) b s.told s.room)
        ∙ i
        ∙ ap (λ (z : Stand E). shown show (sees E ts z)) (sym (next_is E t y b))

    pub simulated : (ts : List Turn) → Each Typed ts → (x : D.Held) (y : E.Held) (b : List ℕ) → R x y b
        → sees D ts (record { held = x; buffer = b }) ≡ shown show (sees E ts (record { held = y; buffer = b }))
    unfolding sees
    simulated [] h x y b q = refl
    simulated (t ∷ ts) h x y b q =
        let s : Same x y b t = turn x y b t h.0 q in
        let u : Back D.Held A = call D t (record { held = x; buffer = b }) in
        let v : Back E.Held Answer = call E t (record { held = y; buffer = b }) in
        let more : List (Seen A) = sees D ts (next D t (record { held = x; buffer = b })) in
        ap (λ (z : Told A). record { told = z; room = u.room; kept = D.keeps u.held } ∷ more) s.told
        ∙ ap (λ (z : List ℕ). record { told = show v.told; room = z; kept = D.keeps u.held } ∷ more) s.room
        ∙ ap (λ (z : Kept). record { told = show v.told; room = v.room; kept = z } ∷ more) s.kept
        ∙ ap (λ (l : List (Seen A)). record { told = show v.told; room = v.room; kept = E.keeps v.held } ∷ l)
        (rest t ts x y b s (simulated ts h.1 u.held v.held (later t v b) s.again))
