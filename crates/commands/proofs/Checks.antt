-- Each command by cases: it is refused at the start, or its checks hold and it goes on.
use Rattle.std.proofs.Common.{Result, Ok, Err}
use mathlib.Core.Path.{◌≡◌, refl, subst}
use mathlib.Core.Bool.{Bool, true, false, ◌&&◌}
use mathlib.Core.Logic.{⊎_elim}
use mathlib.Core.List.{List, [], ◌∷◌}
use Prim.Native.Nat.{ℕ, zero, suc, ◌+◌, ◌-◌, ◌*◌, ◌≤◌, ◌<◌}
use native.Mathlib.Omega.{arith}
use lib.Dec.{leb}
use lib.ListN.{length}
use borrow.Author.Tests.{leb-true}
use Rattle.settings.specs.declared.Settings.{Settings}
use Rattle.settings.specs.Ranges.{reach, capacity_allows, accepted_range, last_address}
use Rattle.erase_plan.specs.declared.EraseType.{EraseType}
use Rattle.erase_plan.specs.Plan.{cover, chosen, entry_at, next_pos, plan}
use Rattle.erase_plan.specs.Span.{end_of, span_start, span_end, span_check}
use Rattle.erase_plan.specs.Good.{Each, Present}
use Rattle.erase_plan.proofs.Lists.{lt_or_le, no_true}
use Rattle.erase_plan.proofs.Multiples.{end_base}
use Rattle.erase_plan.proofs.Ordering.{present_present}
use Rattle.erase_plan.proofs.Steps.{next_more, plan_more, plan_done}
use Rattle.erase_plan.proofs.Planned.{entry_holds}
use Rattle.plans.specs.Available.{available}
use Rattle.commands.specs.declared.Answer.{Answer}
use Rattle.commands.specs.declared.Answer.TheVariants.{Done, NoEraseInstruction, NoRoom}
use Rattle.commands.specs.Script.{Sent, Kept, Script, done, stop, send, Cmd, after, ◌>>=◌, ◌>>◌, give, need, roomed, over, each}
use Rattle.commands.specs.Commands.{bad_range, types_of, have_types, plan_of, erase_one, read_by, fetch_sfdp, with_header, read_params, span_fits, erase_sectors, Job, job_of, read_before, program, write_data, program_data}
use Rattle.sfdp.specs.Jesd216.{headers, read_header}
use Rattle.commands.specs.Leaves.{refused}

-- ---- the span of a plan, whatever the types
module _ (t : EraseType) (ts : List EraseType) (p : Each Present (t ∷ ts)) (end : ℕ) where
  -- it starts no later than the range
  pub starts_before : (pos : ℕ) → pos < end → span_start (plan (t ∷ ts) pos end) ≤ pos
  unfolding span_start
  starts_before pos h = rw (plan_more t ts p pos end h) (entry_holds t ts p pos end).0

  -- an entry that the plan ends with reaches the end
  reaches : (pos : ℕ) → pos < end → end ≤ next_pos (t ∷ ts) pos end → end ≤ end_of (entry_at (t ∷ ts) pos end)
  unfolding entry_at next_pos cover
  reaches pos h k = omega (arith, end_base (chosen (t ∷ ts) pos end).size pos)

  -- it ends no earlier
  ends_later : (f pos : ℕ) → end - pos ≤ f → pos < end → end ≤ span_end (plan (t ∷ ts) pos end)
  unfolding span_end
  ends_later zero pos k h = absurd (omega arith)
  ends_later (suc f) pos k h =
      let m : pos < next_pos (t ∷ ts) pos end = next_more t ts p pos end h in
      ⊎_elim
      (λ (l : next_pos (t ∷ ts) pos end < end).
      rw (plan_more t ts p pos end h, plan_more t ts p (next_pos (t ∷ ts) pos end) end l)
      (rw (plan_more t ts p (next_pos (t ∷ ts) pos end) end l) at (ends_later f (next_pos (t ∷ ts) pos end) (omega arith) l)))
      (λ (l : end ≤ next_pos (t ∷ ts) pos end).
      rw (plan_more t ts p pos end h, plan_done (t ∷ ts) (next_pos (t ∷ ts) pos end) end l) (reaches pos h l))
      (lt_or_le (next_pos (t ∷ ts) pos end) end)

  pub ends_after : (pos : ℕ) → pos < end → end ≤ span_end (plan (t ∷ ts) pos end)
  ends_after pos h = ends_later (end - pos) pos (omega arith) h

pub types_present : (w : Kept) → Each Present (types_of w)
types_present w = present_present (available w.settings w.known w.params)

-- ---- one check
module _ {B : Type 0} (P : Script B → Type 0) (w : Kept) (k : Unit {0} → Cmd B) where
  need_case : (t : Bool) (e : Answer) → P (stop w e) → (t ≡ true → P (k tt w)) → P (after (need t e w) k)
  unfolding after
  need_case true e p q = q refl
  need_case false e p q = p

  types_case : P (stop w NoEraseInstruction) → ((t : EraseType) (ts : List EraseType) → types_of w ≡ t ∷ ts → P (k tt w)) → P (after (have_types w) k)
  unfolding after
  types_case p q = go (types_of w) refl
    where
      go : (l : List EraseType) → types_of w ≡ l → P (after (elim l [ [] ↦ stop w NoEraseInstruction | (t ∷ ts) ↦ done w tt ]) k)
      go [] e = p
      go (t ∷ ts) e = q t ts e

  span_case : (s : Result (Unit {0}) ℕ) → ((a : ℕ) → P (stop w (bad_range a))) → P (k tt w) → P (after (span_fits s w) k)
  unfolding after
  span_case (Ok _) p q = q
  span_case (Err a) p q = p a

-- an accepted range has a byte
pub accepted_some : (s : Settings) (a n : ℕ) → accepted_range s a n ≡ true → 1 ≤ n
unfolding accepted_range
accepted_some s a n h = go (leb 1 n) (leb (a + n) (reach s.address_bytes) && capacity_allows s (a + n)) refl h
  where
    go : (b c : Bool) → leb 1 n ≡ b → (b && c) ≡ true → 1 ≤ n
    go true c e h = leb-true 1 n e
    go false c e h = no_true h

-- ---- the commands
module _ (P : Script Answer → Type 0) (w : Kept) (no' : (e : Answer) → refused e ≡ true → P (stop w e)) where
  pub read_case : (by : Settings → ℕ → ℕ → Sent) (a n : ℕ)
      → (n ≤ length w.room → P (send w (by w.settings a n) (λ r. done (roomed w (over 0 r w.room)) Done))) → P (read_by by a n w)
  unfolding after refused
  read_case by a n q =
      need_case P w _ (accepted_range w.settings a n) (bad_range (last_address a n)) (no' _ refl)
      (λ _. need_case P w _ (leb n (length w.room)) (NoRoom n) (no' _ refl) (λ e. q (leb-true n (length w.room) e)))

  pub params_case : (2056 ≤ length w.room
      → P ((do
        r ← fetch_sfdp 0 8
        r' ← fetch_sfdp 0 (8 + 8 * headers r)
        with_header (read_header r')) w)) → P (read_params w)
  unfolding refused read_params
  params_case q = need_case P w _ (leb 2056 (length w.room)) (NoRoom 2056) (no' _ refl) (λ e. q (leb-true 2056 (length w.room) e))

  pub sectors_case : (a n : ℕ)
      → P ((do
        each erase_one (plan_of w a (a + n))
        give Done) w) → P (erase_sectors a n w)
  unfolding after refused erase_sectors
  sectors_case a n q =
      need_case P w _ (accepted_range w.settings a n) (bad_range (last_address a n)) (no' _ refl)
      (λ _. types_case P w _ (no' _ refl)
      (λ t ts e. span_case P w _ (span_check a n (span_start (plan_of w a (a + n))) (span_end (plan_of w a (a + n)))) (λ b. no' _ refl) q))

  pub data_case : (a x : ℕ) (d : List ℕ) → (length (x ∷ d) ≤ length w.room → P (write_data a (length (x ∷ d)) 0 (roomed w (over 0 (x ∷ d) w.room))))
      → P (program_data a (x ∷ d) w)
  unfolding after refused program_data
  data_case a x d q =
      need_case P w _ (accepted_range w.settings a (length (x ∷ d))) (bad_range (last_address a (length (x ∷ d)))) (no' _ refl)
      (λ _. need_case P w _ (leb (length (x ∷ d)) (length w.room)) (NoRoom (length (x ∷ d))) (no' _ refl)
      (λ e. q (leb-true (length (x ∷ d)) (length w.room) e)))

-- the order of a program's positions, and its need
pub record Placed (J : Job) (n room : ℕ) : Type 0 where
  pub some : 1 ≤ n
  pub ends : J.end ≡ J.from + n
  pub starts : J.base ≤ J.from
  pub reaches : J.end ≤ J.last
  pub fits : J.last - J.base ≤ room

pub placed : (w : Kept) (a n : ℕ) (v : Bool) (t : EraseType) (ts : List EraseType) → types_of w ≡ t ∷ ts → accepted_range w.settings a n ≡ true
    → span_end (plan_of w a (a + n)) - span_start (plan_of w a (a + n)) ≤ length w.room → Placed (job_of w a n v) n (length w.room)
placed w a n v t ts e h k =
    let p : Each Present (t ∷ ts) = subst (Each Present) e (types_present w) in
    let s : 1 ≤ n = accepted_some w.settings a n h in
    record {
      some = s;
      ends = refl;
      starts = rw e (starts_before t ts p (a + n) a (omega arith));
      reaches = rw e (ends_after t ts p (a + n) a (omega arith));
      fits = k;
    }

module _ (P : Script Answer → Type 0) (w : Kept) (no' : (e : Answer) → refused e ≡ true → P (stop w e)) where
  pub program_case : (a : ℕ) (d : List ℕ) (v : Bool)
      → (Placed (job_of w a (length d) v) (length d) (length w.room)
      → P (read_before (job_of w a (length d) v) (roomed w (over (a - span_start (plan_of w a (a + length d))) d w.room)))) → P (program a d v w)
  unfolding after refused program
  program_case a d v q =
      let J = job_of w a (length d) v in
      need_case P w _ (accepted_range w.settings a (length d)) (bad_range (last_address a (length d))) (no' _ refl)
      (λ h. types_case P w _ (no' _ refl)
      (λ t ts e. need_case P w _ (accepted_range w.settings J.base (J.last - J.base)) (bad_range (last_address J.base (J.last - J.base))) (no' _ refl)
      (λ _. need_case P w _ (leb (J.last - J.base) (length w.room)) (NoRoom (J.last - J.base)) (no' _ refl)
      (λ k. q (placed w a (length d) v t ts e h (leb-true (J.last - J.base) (length w.room) k))))))
