-- Where a command goes on: each piece of a script that follows an operation or a read is what a phase means.
use Rattle.std.proofs.Common.{Some, None, Option}
use mathlib.Core.Path.{◌≡◌, refl, sym, ap, ◌∙◌}
use mathlib.Core.Bool.{Bool, true, false, cond}
use mathlib.Core.List.{List}
use Prim.Native.Nat.{ℕ, ◌+◌, ◌-◌, ◌≤◌, ◌<◌}
use native.Mathlib.Omega.{arith}
use lib.Dec.{ltb}
use lib.ListN.{length, take, drop}
use borrow.Author.Tests.{lt-ltb, le-ltb, ltb-true, ltb-false}
use Rattle.settings.specs.Limits.{page_of}
use Rattle.erase_plan.specs.declared.NextEntry.{NextEntry}
use Rattle.erase_plan.specs.Plan.{next_of}
use Rattle.erase_plan.proofs.Lists.{by_cond}
use Rattle.erase_plan.proofs.Steps.{Found, found}
use Rattle.commands.specs.declared.Answer.{Answer}
use Rattle.commands.specs.declared.Answer.TheVariants.{Done}
use Rattle.commands.specs.Script.{Kept, done, Cmd, after, give, when, each}
use Rattle.commands.specs.Commands.{types_of, plan_of, erase_one, fetch, verify, blank, written, writing, erasing, read_after, read_before, write_data}
use Rattle.phases.specs.declared.Job.{Job}
use Rattle.phases.specs.declared.ReadCommand.TheVariants as Reads
use Rattle.phases.specs.declared.EraseCommand.{EraseCommand}
use Rattle.phases.specs.declared.EraseCommand.TheVariants as Erases
use Rattle.phases.specs.declared.WriteCommand.{WriteCommand}
use Rattle.phases.specs.declared.WriteCommand.TheVariants as Writes
use Rattle.phases.specs.declared.VerifyCommand.TheVariants as Verifies
use Rattle.phases.specs.declared.Command.TheVariants as Ends
use Rattle.phases.specs.declared.Phase.{Phase}
use Rattle.phases.specs.declared.Phase.TheVariants.{Reading, Erasing, Writing, Verifying, Ended}
use Rattle.flash.specs.declared.Session.{Session}
use Rattle.phases.specs.Waits.{part_last}
use Rattle.flash.specs.Waits.{entry_for}
use Rattle.phases.specs.Moves.{to_after, to_before, last_written, next_erase, next_write, to_verify, after_write}
use Rattle.flash.specs.Steps.{after_erase}
use Rattle.meaning.specs.Meaning.{kept_of}
use Rattle.meaning.proofs.Rest.{aim_of, reads_on, erase_sent, erase_then, past_entry, part_at, write_sent, write_then, from_start, verifies_on, rest, Ordered, FitErase, FitWrite}
use Rattle.meaning.proofs.Unroll.{go_entries, no_entries, go_parts, no_parts, page_some, part_past}

-- ---- a plan from a position on
pub go_sectors : (w : Kept) (p last : ℕ) → p ≤ last → 0 < length (types_of w)
    → after (each erase_one (plan_of w p (last + 1)) w) (λ u. give Done) ≡ rest (Erasing (Erases.Sectors p last) false) w
unfolding rest from_start erase_sent erase_then
go_sectors w p last h n = go_entries w p last (λ u. give Done) (erase_then (Erases.Sectors p last)) h n refl

pub go_plan : (J : Job) (w : Kept) (p : ℕ) → p ≤ J.last → 0 < length (types_of w)
    → erasing (aim_of J) (plan_of w p (J.last + 1)) w ≡ rest (Erasing (Erases.Program J p) false) w
unfolding rest from_start erase_sent erase_then
go_plan J w p h n =
    go_entries w p J.last (λ u w. writing (aim_of J) (written (J.last + 1 - J.base) (J.top + 1 - J.base) w.room) 0 w) (erase_then (Erases.Program J p)) h n refl

-- ---- page writes from a byte on
pub go_writing : (J : Job) (w : Kept) (to off : ℕ) → off ≤ to → writing (aim_of J) (to + 1) off w ≡ rest (Writing (Writes.Program J to off) false) w
unfolding rest from_start write_sent write_then
go_writing J w to off h =
    go_parts w J.base to off (λ u w'. after (when J.verified (verify J.base (take (to + 1) w.room)) w') (λ u. give Done)) (write_then (Writes.Program J to off)) h refl

pub go_data : (w : Kept) (a to off : ℕ) → off ≤ to → write_data a (to + 1) off w ≡ rest (Writing (Writes.Data a to off) false) w
unfolding rest from_start write_sent write_then
go_data w a to off h = go_parts w a to off (λ u. give Done) (write_then (Writes.Data a to off)) h refl

-- ---- after a program's data: not rewritten if they are all FF
written_last : (J : Job) (room : List ℕ) → Ordered J → written (J.last + 1 - J.base) (J.top + 1 - J.base) room ≡ last_written J room + 1
unfolding written last_written
written_last J room o =
    let e : J.top + 1 - J.base - (J.last + 1 - J.base) ≡ J.top - J.last = omega (arith, o.first, o.data', o.span) in
    ap (λ (n : ℕ). cond (blank (take n (drop (J.last + 1 - J.base) room))) (J.last + 1 - J.base) (J.top + 1 - J.base)) e
    ∙ on (blank (take (J.top - J.last) (drop (J.last + 1 - J.base) room)))
  where
    on : (t : Bool) → cond t (J.last + 1 - J.base) (J.top + 1 - J.base) ≡ cond t (J.last - J.base) (J.top - J.base) + 1
    on true = omega (arith, o.first, o.data', o.span)
    on false = omega (arith, o.first, o.data', o.span)

pub go_written : (J : Job) (w : Kept) → Ordered J
    → writing (aim_of J) (written (J.last + 1 - J.base) (J.top + 1 - J.base) w.room) 0 w ≡ rest (Writing (Writes.Program J (last_written J w.room) 0) false) w
go_written J w o = ap (λ (n : ℕ). writing (aim_of J) n 0 w) (written_last J w.room o) ∙ go_writing J w (last_written J w.room) 0 (omega arith)

-- ---- a program's reads
pub go_after : (J : Job) (w : Kept) → Ordered J → 0 < length (types_of w) → read_after (aim_of J) w ≡ rest (to_after J) w
unfolding to_after rest reads_on after
go_after J w o n = on (ltb J.last J.top) refl
  where
    on : (t : Bool) → ltb J.last J.top ≡ t
        → after (when (ltb (J.last + 1) (J.top + 1)) (fetch (J.last + 1 - J.base) (J.last + 1) (J.top + 1 - (J.last + 1))) w) (λ u w. erasing (aim_of J) (plan_of w J.from (J.last + 1)) w)
        ≡ rest (cond t (Reading (Reads.After J)) (Erasing (Erases.Program J J.from) false)) w
    on true e =
        let l : J.top + 1 - (J.last + 1) ≡ J.top - J.last = omega arith in
        rw (lt-ltb (J.last + 1) (J.top + 1) (omega (arith, ltb-true J.last J.top e)), l)
    on false e = rw (le-ltb (J.last + 1) (J.top + 1) (omega (arith, ltb-false J.last J.top e))) (go_plan J w J.from o.data' n)

pub go_before : (J : Job) (w : Kept) → Ordered J → 0 < length (types_of w) → read_before (aim_of J) w ≡ rest (to_before J) w
unfolding to_before rest reads_on after
go_before J w o n = on (ltb J.base J.from)
  where
    on : (t : Bool) → after (when t (fetch 0 J.base (J.from - J.base)) w) (λ u. read_after (aim_of J)) ≡ rest (cond t (Reading (Reads.Before J)) (to_after J)) w
    on true = refl
    on false = go_after J w o n

-- ---- an erase is done: the next entry, or what follows the plan
next_entry : (w : Kept) (p last : ℕ) (K : Unit {0} → Cmd Answer) (on : ℕ → Phase) (over' : Phase)
    → ((q : ℕ) → q ≤ last → 0 < length (types_of w) → after (each erase_one (plan_of w q (last + 1)) w) K ≡ rest (on q) w)
    → K tt w ≡ rest over' w
    → after (each erase_one (plan_of w (past_entry (next_of (types_of w) p (last + 1)) (last + 1)) (last + 1)) w) K ≡ rest (next_erase (next_of (types_of w) p (last + 1)) last on over') w
unfolding next_erase
next_entry w p last K on over' more end = by (next_of (types_of w) p (last + 1)) refl
  where
    by : (o : Option NextEntry) → next_of (types_of w) p (last + 1) ≡ o
        → after (each erase_one (plan_of w (past_entry o (last + 1)) (last + 1)) w) K ≡ rest (next_erase o last on over') w
    by None e = no_entries w (last + 1) (last + 1) K (omega arith) ∙ end
    by (Some x) e =
        let s = x.stop in
        let f : Found (types_of w) p (last + 1) x = found (types_of w) p (last + 1) x e in
        by_cond (λ (q : Phase). after (each erase_one (plan_of w (s + 1) (last + 1)) w) K ≡ rest q w) (ltb s last) (on (s + 1)) over'
        (λ t. more (s + 1) (omega (arith, ltb-true s last t)) (rw f.are (omega arith)))
        (λ t. no_entries w (s + 1) (last + 1) K (omega (arith, ltb-false s last t)) ∙ end)

pub erase_next : (s : Session) (c : EraseCommand) (room : List ℕ) → FitErase c → erase_then c (kept_of s room) ≡ rest (after_erase s c room) (kept_of s room)
unfolding erase_then after_erase entry_for rest
erase_next s Erases.Chip room o = refl
erase_next s (Erases.Sectors p last) room o =
    let w = kept_of s room in
    next_entry w p last (λ u. give Done) (λ q. Erasing (Erases.Sectors q last) false) (Ended Ends.Other Done) (λ q h n. go_sectors w q last h n) refl
erase_next s (Erases.Program J p) room o =
    let w = kept_of s room in
    next_entry w p J.last (λ u w. writing (aim_of J) (written (J.last + 1 - J.base) (J.top + 1 - J.base) w.room) 0 w)
    (λ q. Erasing (Erases.Program J q) false) (Writing (Writes.Program J (last_written J room) 0) false) (λ q h n. go_plan J w q h n) (go_written J w o)

-- ---- a page write is done
go_verify : (J : Job) (w : Kept) (to : ℕ) → after (when J.verified (verify J.base (take (to + 1) w.room)) w) (λ u. give Done) ≡ rest (to_verify J to) w
unfolding to_verify rest verifies_on after
go_verify J w to = on J.verified
  where
    on : (t : Bool) → after (when t (verify J.base (take (to + 1) w.room)) w) (λ u. give Done)
        ≡ rest (cond t (Verifying (Verifies.Compare J to)) (Ended (Ends.Program J true) Done)) w
    on true = refl
    on false = refl

data_done : (w : Kept) → done w Done ≡ rest (Ended Ends.Other Done) w
unfolding rest
data_done w = refl

pub write_next : (s : Session) (c : WriteCommand) (room : List ℕ) → FitWrite c → write_then c (kept_of s room) ≡ rest (after_write (page_of s.settings) c) (kept_of s room)
unfolding write_then after_write next_write
write_next s (Writes.Program J to off) room o =
    let w = kept_of s room in
    let page = page_of s.settings in
    let e : part_last page J.base off to + 1 ≡ off + (part_at w J.base to off).len = part_past page J.base off to (page_some s.settings) o.1.1 in
    by_cond (λ (q : Phase). writing (aim_of J) (to + 1) (off + (part_at w J.base to off).len) w ≡ rest q w) (ltb (part_last page J.base off to) to)
    (Writing (Writes.Program J to (part_last page J.base off to + 1)) false) (to_verify J to)
    (λ t. ap (λ (x : ℕ). writing (aim_of J) (to + 1) x w) (sym e) ∙ go_writing J w to (part_last page J.base off to + 1) (omega (arith, ltb-true (part_last page J.base off to) to t)))
    (λ t. no_parts w J.base (off + (part_at w J.base to off).len) (to + 1) (λ u w'. after (when J.verified (verify J.base (take (to + 1) w.room)) w') (λ u. give Done))
    (omega (arith, ltb-false (part_last page J.base off to) to t)) ∙ go_verify J w to)
write_next s (Writes.Data a to off) room o =
    let w = kept_of s room in
    let page = page_of s.settings in
    let e : part_last page a off to + 1 ≡ off + (part_at w a to off).len = part_past page a off to (page_some s.settings) o.1 in
    by_cond (λ (q : Phase). write_data a (to + 1) (off + (part_at w a to off).len) w ≡ rest q w) (ltb (part_last page a off to) to)
    (Writing (Writes.Data a to (part_last page a off to + 1)) false) (Ended Ends.Other Done)
    (λ t. ap (λ (x : ℕ). write_data a (to + 1) x w) (sym e) ∙ go_data w a to (part_last page a off to + 1) (omega (arith, ltb-true (part_last page a off to) to t)))
    (λ t. no_parts w a (off + (part_at w a to off).len) (to + 1) (λ u. give Done) (omega (arith, ltb-false (part_last page a off to) to t)) ∙ data_done w)
