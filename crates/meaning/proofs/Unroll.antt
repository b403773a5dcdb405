-- Scripts, plans and page parts, one piece at a time.
use Rattle.std.proofs.Common.{Some, None, Option}
use mathlib.Core.Path.{◌≡◌, refl, sym, ap, ◌∙◌, fun_ext}
use mathlib.Core.Bool.{Bool, true, false, cond}
use mathlib.Core.List.{List, [], ◌∷◌}
use mathlib.Core.Logic.{⊎_elim}
use Prim.Native.Nat.{ℕ, zero, suc, ◌+◌, ◌-◌, ◌≤◌, ◌<◌}
use native.Mathlib.Omega.{arith}
use native.Mathlib.Nat.{mod-lt}
use lib.Dec.{eqb}
use lib.ListN.{length}
use borrow.Author.Tests.{lt-ltb, le-ltb, eqb-false}
use Rattle.dwords.specs.Dwords.{byte_at}
use Rattle.settings.specs.declared.Settings.{Settings}
use Rattle.settings.specs.Limits.{page_of}
use Rattle.erase_plan.specs.declared.EraseType.{EraseType}
use Rattle.erase_plan.specs.declared.EraseEntry.{EraseEntry}
use Rattle.erase_plan.specs.declared.NextEntry.{NextEntry}
use Rattle.erase_plan.specs.Good.{Each, Present}
use Rattle.erase_plan.specs.Plan.{next_of, entry_at, next_pos}
use Rattle.erase_plan.proofs.Lists.{lt_or_le}
use Rattle.erase_plan.proofs.Steps.{Unrolled, plan_entry, plan_done, next_some}
use Rattle.erase_plan.proofs.Ordering.{present_present}
use Rattle.plans.specs.Available.{available}
use Rattle.commands.specs.declared.Answer.{Answer}
use Rattle.commands.specs.Script.{Sent, Kept, Script, done, stop, send, Cmd, after, each}
use Rattle.commands.specs.Transactions.{write_enable, status_poll, by_flag, ready, polls, operation, erase_block, Part, to_page_end, parts_in, parts, write_part}
use Rattle.commands.specs.Commands.{types_of, plan_of, erase_one}
use Rattle.phases.specs.Waits.{part_last}
use Rattle.meaning.proofs.Rest.{block_sent, past_entry, part_at, page_sent}

-- ---- scripts
pub after_after : {A B C : Type 0} (c : Script A) (k : A → Cmd B) (h : B → Cmd C) → after (after c k) h ≡ after c (λ a w. after (k a w) h)
unfolding after
after_after (done w a) k h = refl
after_after (stop w e) k h = refl
after_after (send w s f) k h = ap (send w s) (fun_ext (λ r. after_after (f r) k h))

-- polls, and so an operation, keep what there was: what follows matters only there
polls_on_lem : {B : Type 0} (n : ℕ) (w : Kept) (k h : Unit {0} → Cmd B) → k tt w ≡ h tt w → after (polls n w) k ≡ after (polls n w) h
unfolding polls after
polls_on_lem zero w k h e = refl
polls_on_lem {B} (suc n) w k h e = ap (send w (status_poll w)) (fun_ext (λ r. on (ready (by_flag w) (byte_at r 0)) (polls_on_lem n w k h e)))
  where
    on : (t : Bool) → after (polls n w) k ≡ after (polls n w) h → after {B = B} (cond t (done w tt) (polls n w)) k ≡ after (cond t (done w tt) (polls n w)) h
    on true i = e
    on false i = i

pub op_on : {B : Type 0} (x : Sent) (w : Kept) (k h : Unit {0} → Cmd B) → k tt w ≡ h tt w → after (operation x w) k ≡ after (operation x w) h
unfolding after
op_on {B} x w k h e = ap (λ (z : Script B). send w write_enable (λ r. send w x (λ r'. z))) (polls_on_lem w.settings.poll_limit w k h e)

-- ---- plans
-- a position of the range has an entry where there is a type, and the plan from past it on
pub has_entry : (ts : List EraseType) (p last : ℕ) → p ≤ last → 0 < length ts → next_of ts p (last + 1) ≡ Some (record { entry = entry_at ts p (last + 1); stop = next_pos ts p (last + 1) - 1 })
has_entry [] p last h n = absurd (omega arith)
has_entry (t ∷ ts) p last h n = next_some t ts p (last + 1) (omega arith)

pub types_present : (w : Kept) → Each Present (types_of w)
types_present w = present_present (available w.settings w.known w.params)

pub entry_unrolls : (w : Kept) (p end : ℕ) (x : NextEntry) → next_of (types_of w) p end ≡ Some x → Unrolled (types_of w) p end x
entry_unrolls w p end x h = plan_entry (types_of w) (types_present w) p end x h

-- a plan's erases are its first entry's operation and the others
pub go_entries : (w : Kept) (p last : ℕ) (K : Unit {0} → Cmd Answer) (next : Cmd Answer) → p ≤ last → 0 < length (types_of w)
    → next w ≡ after (each erase_one (plan_of w (past_entry (next_of (types_of w) p (last + 1)) (last + 1)) (last + 1)) w) K
    → after (each erase_one (plan_of w p (last + 1)) w) K ≡ after (operation (block_sent w (next_of (types_of w) p (last + 1))) w) (λ u. next)
unfolding each
go_entries w p last K next h n e = on (next_of (types_of w) p (last + 1)) (has_entry (types_of w) p last h n) e
  where
    x : EraseEntry
    x = entry_at (types_of w) p (last + 1)

    stop' : ℕ
    stop' = next_pos (types_of w) p (last + 1) - 1

    on : (o : Option NextEntry) → o ≡ Some (record { entry = x; stop = stop' }) → next w ≡ after (each erase_one (plan_of w (past_entry o (last + 1)) (last + 1)) w) K
        → after (each erase_one (plan_of w p (last + 1)) w) K ≡ after (operation (block_sent w o) w) (λ u. next)
    on o i e =
        ap (λ (l : List EraseEntry). after (each erase_one l w) K) (entry_unrolls w p (last + 1) _ (has_entry (types_of w) p last h n)).unrolls
        ∙ after_after (erase_one x w) (λ u. each erase_one (plan_of w (stop' + 1) (last + 1))) K
        ∙ op_on (erase_block w.settings x) w (λ u w'. after (each erase_one (plan_of w (stop' + 1) (last + 1)) w') K) (λ u. next) (sym (rw i at e))
        ∙ ap (λ (z : Option NextEntry). after (operation (block_sent w z) w) (λ u. next)) (sym i)

-- past the end there is nothing to erase
pub no_entries : (w : Kept) (p end : ℕ) (K : Unit {0} → Cmd Answer) → end ≤ p → after (each erase_one (plan_of w p end) w) K ≡ K tt w
unfolding each after
no_entries w p end K h = ap (λ (l : List EraseEntry). after (each erase_one l w) K) (plan_done (types_of w) p end h)

-- ---- page parts
pub page_some : (s : Settings) → 1 ≤ page_of s
unfolding page_of
page_some s = by (eqb s.page_size 0) refl
  where
    one_le : (n : ℕ) → (n ≡ 0 → ⊥) → 1 ≤ n
    one_le n h = omega arith

    by : (b : Bool) → eqb s.page_size 0 ≡ b → 1 ≤ cond b 256 s.page_size
    by true e = omega arith
    by false e = one_le s.page_size (eqb-false s.page_size 0 e)

-- a part has a byte or more, and ends in the range
pub part_some : (page a off n : ℕ) → 1 ≤ page → off < n → 1 ≤ to_page_end page a off n
unfolding to_page_end
part_some page a off n h k = omega (arith, mod-lt (a + off) h)

pub part_within : (page a off n : ℕ) → off ≤ n → off + to_page_end page a off n ≤ n
unfolding to_page_end
part_within page a off n k = omega arith

-- the last byte of a part, and the part's length
pub part_past : (page a off to : ℕ) → 1 ≤ page → off ≤ to → part_last page a off to + 1 ≡ off + to_page_end page a off (to + 1)
unfolding to_page_end part_last
part_past page a off to h k = omega (arith, mod-lt (a + off) h)

in_more : (f page a off n : ℕ) → off < n → parts_in (suc f) page a off n ≡ record { off = off; len = to_page_end page a off n } ∷ parts_in f page a (off + to_page_end page a off n) n
unfolding parts_in
in_more f page a off n h = rw (lt-ltb off n h, parts_in)

in_done : (f page a off n : ℕ) → n ≤ off → parts_in f page a off n ≡ []
unfolding parts_in
in_done zero page a off n h = refl
in_done (suc f) page a off n h = rw (le-ltb off n h, parts_in)

in_enough : (f g page a off n : ℕ) → 1 ≤ page → n - off ≤ f → n - off ≤ g → parts_in f page a off n ≡ parts_in g page a off n
in_enough zero g page a off n p h k = in_done 0 page a off n (omega arith) ∙ sym (in_done g page a off n (omega arith))
in_enough (suc f) zero page a off n p h k = in_done (suc f) page a off n (omega arith) ∙ sym (in_done 0 page a off n (omega arith))
in_enough (suc f) (suc g) page a off n p h k =
    ⊎_elim
    (λ (l : off < n). in_more f page a off n l
    ∙ ap (λ (x : List Part). record { off = off; len = to_page_end page a off n } ∷ x)
    (in_enough f g page a (off + to_page_end page a off n) n p (omega (arith, part_some page a off n p l)) (omega (arith, part_some page a off n p l)))
    ∙ sym (in_more g page a off n l))
    (λ (l : n ≤ off). in_done (suc f) page a off n l ∙ sym (in_done (suc g) page a off n l))
    (lt_or_le off n)

pub parts_more : (page a off n : ℕ) → 1 ≤ page → off < n → parts page a off n ≡ record { off = off; len = to_page_end page a off n } ∷ parts page a (off + to_page_end page a off n) n
unfolding parts
parts_more page a off n p h =
    in_enough (n - off) (suc (n - off)) page a off n p (omega arith) (omega arith)
    ∙ in_more (n - off) page a off n h
    ∙ ap (λ (x : List Part). record { off = off; len = to_page_end page a off n } ∷ x)
    (in_enough (n - off) (n - (off + to_page_end page a off n)) page a (off + to_page_end page a off n) n p (omega arith) (omega arith))

pub parts_done : (page a off n : ℕ) → n ≤ off → parts page a off n ≡ []
unfolding parts
parts_done page a off n h = in_done (n - off) page a off n h

-- the writes from a byte on are one operation and the others
pub go_parts : (w : Kept) (a to off : ℕ) (K : Unit {0} → Cmd Answer) (next : Cmd Answer) → off ≤ to
    → next w ≡ after (each (write_part a w.room) (parts (page_of w.settings) a (off + (part_at w a to off).len) (to + 1)) w) K
    → after (each (write_part a w.room) (parts (page_of w.settings) a off (to + 1)) w) K ≡ after (operation (page_sent w a to off) w) (λ u. next)
unfolding each
go_parts w a to off K next h e =
    let page = page_of w.settings in
    let rest = parts page a (off + (part_at w a to off).len) (to + 1) in
    ap (λ (l : List Part). after (each (write_part a w.room) l w) K) (parts_more page a off (to + 1) (page_some w.settings) (omega arith))
    ∙ after_after (write_part a w.room (part_at w a to off) w) (λ u. each (write_part a w.room) rest) K
    ∙ op_on (page_sent w a to off) w (λ u w'. after (each (write_part a w.room) rest w') K) (λ u. next) (sym e)

pub no_parts : (w : Kept) (a off n : ℕ) (K : Unit {0} → Cmd Answer) → n ≤ off → after (each (write_part a w.room) (parts (page_of w.settings) a off n) w) K ≡ K tt w
unfolding each after
no_parts w a off n K h = ap (λ (l : List Part). after (each (write_part a w.room) l w) K) (parts_done (page_of w.settings) a off n h)
