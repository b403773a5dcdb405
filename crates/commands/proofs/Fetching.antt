-- The two reads of a program, by the replies.
use mathlib.Core.Path.{◌≡◌, refl, sym, ap}
use mathlib.Core.Bool.{Bool, true, false}
use mathlib.Core.Logic.{◌⊎◌, inl, inr}
use mathlib.Core.List.{List, [], ◌∷◌}
use mathlib.Core.Option.{Option, some, none}
use Prim.Native.Nat.{ℕ, zero, suc, ◌+◌, ◌-◌, ◌≤◌, ◌<◌}
use native.Mathlib.Omega.{arith}
use lib.ListN.{length}
use Rattle.erase_plan.specs.Good.{Each}
use Rattle.commands.specs.declared.Answer.{Answer}
use Rattle.commands.specs.declared.Answer.TheVariants.{Access}
use Rattle.commands.specs.Script.{Sent, Kept, Cmd, after, when, roomed, over}
use Rattle.commands.specs.Host.{Reply, got, Outcome, Tree, ends, full, tally, tree, play}
use Rattle.commands.specs.Transactions.{fast_read}
use Rattle.commands.specs.Commands.{fetch, Job}
use Rattle.commands.specs.Leaves.{fetched, gathered}
use Rattle.commands.proofs.Hosts.{Fails, full_got}
use Rattle.commands.proofs.Endings.{along}
use Rattle.commands.proofs.Rooms.{over_nil}

-- ---- one read
fetched_none : (n : ℕ) (rs : List Reply) → n ≡ 0 → fetched n rs ≡ some ([], rs)
unfolding fetched
fetched_none zero rs e = refl
fetched_none (suc n) rs e = absurd (omega arith)

fetched_end : (n : ℕ) → 0 < n → fetched n [] ≡ none
unfolding fetched
fetched_end zero h = absurd (omega arith)
fetched_end (suc n) h = refl

fetched_by : (n : ℕ) (r : Reply) (rs : List Reply) (q : Option (List ℕ)) → 0 < n → full n r ≡ q
    → fetched n (r ∷ rs) ≡ elim q [ some bytes ↦ some (bytes, rs) | none ↦ none ]
unfolding fetched
fetched_by zero r rs q h e = absurd (omega arith)
fetched_by (suc n) r rs q h e = ap (λ (x : Option (List ℕ)). elim x as (λ y. Option (List ℕ × List Reply)) [ some bytes ↦ some (bytes, rs) | none ↦ none ]) e

-- nothing stored
pub roomed_nil : (off : ℕ) (w : Kept) → roomed w (over off [] w.room) ≡ w
roomed_nil off w = ap (roomed w) (over_nil off w.room)

abbrev pub Reads : List Sent → Type 0
Reads sent = Each (λ (s : Sent). s.opcode ≡ 0x0B) sent

-- what a host sends and comes to, where the read was not answered in full: it was the last transaction
pub record Missed (n : ℕ) (w : Kept) (rs : List Reply) (p : List Sent × Option Outcome) : Type 0 where
  pub missing : fetched n rs ≡ none
  pub fails : (o : Outcome) → p.1 ≡ some o → Fails w o
  pub reads : Reads p.0
  pub one : length p.0 ≤ 1

-- where it was: that of what goes on with its bytes stored, and the read before it
pub record Onward (off n : ℕ) (w : Kept) (k : Unit {0} → Cmd Answer) (rs : List Reply) (p : List Sent × Option Outcome) : Type 0 where
  pub bytes : List ℕ
  pub rest : List Reply
  pub behind : ℕ
  pub came : fetched n rs ≡ some (bytes, rest)
  pub short : length bytes ≤ n
  pub goes : p.1 ≡ (play (tree behind (k tt (roomed w (over off bytes w.room)))) rest).1
  pub reads : Reads (play (tree behind (k tt (roomed w (over off bytes w.room)))) rest).0 → Reads p.0
  pub one : length p.0 ≤ 1 + length (play (tree behind (k tt (roomed w (over off bytes w.room)))) rest).0

pub fetch_case : (t : Bool) (off a n : ℕ) (w : Kept) (k : Unit {0} → Cmd Answer) → (t ≡ true → 0 < n) → (t ≡ false → n ≡ 0) → (m : ℕ) (rs : List Reply)
    → Missed n w rs (play (tree m (after (when t (fetch off a n) w) k)) rs) ⊎ Onward off n w k rs (play (tree m (after (when t (fetch off a n) w) k)) rs)
unfolding after tree play
fetch_case true off a n w k p q m [] =
    inl (record {
      missing = fetched_end n (p refl);
      fails = λ o e. let z : ◌≡◌ {A = ℕ} 0 1 = cc in absurd (omega arith);
      reads = (refl, tt);
      one = omega arith;
    })
fetch_case true off a n w k p q m (r ∷ rs) = go (full n r) refl
  where
    s : Sent
    s = fast_read w.settings a n

    on : Option (List ℕ) → Tree
    on x = elim x [
      | some bytes ↦ tree (m + tally s) (k tt (roomed w (over off bytes w.room)))
      | none ↦ ends (record { answer = Access; polls = m + tally s; kept = w })
    ]

    failed_so : (o : Outcome) → ◌≡◌ {A = Option Outcome} (some (record { answer = Access; polls = m + tally s; kept = w })) (some o) → Fails w o
    failed_so o e =
        let q : o ≡ record { answer = Access; polls = m + tally s; kept = w } = cc in
        (ap (λ (x : Outcome). x.kept) q, ap (λ (x : Outcome). x.answer) q)

    go : (x : Option (List ℕ)) → full n r ≡ x
        → Missed n w (r ∷ rs) (s ∷ (play (on x) rs).0, (play (on x) rs).1) ⊎ Onward off n w k (r ∷ rs) (s ∷ (play (on x) rs).0, (play (on x) rs).1)
    go (some bytes) t =
        let g : (r ≡ got bytes) × (length bytes ≡ n) = full_got n r bytes t in
        inr (record {
          bytes = bytes;
          rest = rs;
          behind = m + tally s;
          came = fetched_by n r rs (some bytes) (p refl) t;
          short = omega (arith, g.1);
          goes = refl;
          reads = λ h. (refl, h);
          one = omega arith;
        })
    go none t = inl (record { missing = fetched_by n r rs none (p refl) t; fails = failed_so; reads = (refl, tt); one = omega arith })
fetch_case false off a n w k p q m rs =
    inr (record {
      bytes = [];
      rest = rs;
      behind = m;
      came = fetched_none n rs (q refl);
      short = omega arith;
      goes = ap (λ (x : Kept). (play (tree m (k tt x)) rs).1) (sym (roomed_nil off w));
      reads = λ h. along (λ (x : Kept). Reads (play (tree m (k tt x)) rs).0) (sym (roomed_nil off w)) h;
      one = omega (arith, ap (λ (x : Kept). length (play (tree m (k tt x)) rs).0) (roomed_nil off w));
    })

-- ---- both
module _ (J : Job) (rs : List Reply) (room : List ℕ) where
  pub gathered_none : fetched (J.from - J.base) rs ≡ none → gathered J rs room ≡ (false, room)
  unfolding gathered
  gathered_none e = rw (e, gathered) refl

  pub gathered_before : (before : List ℕ) (rest : List Reply) → fetched (J.from - J.base) rs ≡ some (before, rest) → fetched (J.last - J.end) rest ≡ none
      → gathered J rs room ≡ (false, over 0 before room)
  unfolding gathered
  gathered_before before rest e f = rw (e, gathered, f) refl

  pub gathered_both : (before behind : List ℕ) (rest more : List Reply) → fetched (J.from - J.base) rs ≡ some (before, rest)
      → fetched (J.last - J.end) rest ≡ some (behind, more) → gathered J rs room ≡ (true, over (J.end - J.base) behind (over 0 before room))
  unfolding gathered
  gathered_both before behind rest more e f = rw (e, gathered, f) refl
