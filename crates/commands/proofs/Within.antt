-- The bounds of docs/SCOPE.md.
use Rattle.std.proofs.Common.{Result, Ok, Err}
use mathlib.Core.Path.{◌≡◌, refl, sym, ap}
use mathlib.Core.Bool.{Bool, true, false, cond, ◌&&◌, ◌||◌, not}
use mathlib.Core.Logic.{⊎_elim}
use mathlib.Core.List.{List, [], ◌∷◌}
use mathlib.Core.Option.{Option, some, none}
use Prim.Native.Nat.{ℕ, ◌+◌, ◌-◌, ◌*◌, ◌≤◌}
use native.Mathlib.Omega.{arith}
use native.Mathlib.Nat.{mul-le-mul_right}
use lib.Dec.{eqb, ltb}
use lib.ListN.{length, take, drop}
use Rattle.sfdp.specs.declared.FlashParams.{FlashParams}
use Rattle.sfdp.specs.declared.SFDPParameterHeader.{SFDPParameterHeader}
use Rattle.sfdp.specs.declared.SFDPError.{SFDPError}
use Rattle.dwords.specs.Dwords.{byte_at}
use Rattle.sfdp.specs.Jesd216.{read_header, read_table}
use borrow.Author.Tests.{ltb-true, ltb-false}
use Rattle.settings.specs.Limits.{page_of}
use Rattle.erase_plan.specs.declared.EraseEntry.{EraseEntry}
use Rattle.erase_plan.specs.Span.{span_start}
use Rattle.commands.specs.declared.Answer.{Answer}
use Rattle.commands.specs.declared.Answer.TheVariants.{Done, NoResetInstruction}
use Rattle.commands.specs.Script.{Sent, Kept, Script, done, stop, after, ◌>>=◌, ◌>>◌, give, when, ask, roomed, over, each}
use Rattle.commands.specs.Host.{Reply, tree, play}
use Rattle.commands.specs.Transactions.{plain, fast_read, read_data, erase_block, page_program, operation, Part, parts, bytes_of, write_part}
use Rattle.commands.specs.Commands.{plan_of, erase_one, read, legacy_read, with_table, with_header, read_params, erase, erase_sectors, blank, mismatch, judge, fetch, verify, written, Job, writing, erasing, read_after, read_before, job_of, program, write_data, program_data, reset, id_at, first_id, read_jedec_id, is_busy, is_protected}
use Rattle.commands.specs.Calls.{Call, Read, LegacyRead, ReadParams, Erase, EraseSectors, Program, ProgramData, Reset, ReadJedecId, IsBusy, IsProtected, script}
use Rattle.commands.specs.Bounds.{limit, entries, pages_of, span_pages, most, Bounded, ComesToEnd, written_pages, BoundedProgram}
use Rattle.commands.specs.Leaves.{fetched, gathered}
use Rattle.commands.proofs.Hosts.{Sends, all_sent, comes_to_end}
use Rattle.commands.proofs.Endings.{along}
use Rattle.commands.proofs.Sending.{Leads, Stays, stays_operation, stays_each, weaken, sends_after, sends_then, sends_any, sends_each, sends_operation}
use Rattle.commands.proofs.Parts.{parts_pages, pages_le, page_some}
use Rattle.commands.proofs.Fetching.{fetch_case, gathered_both}
use Rattle.commands.proofs.Checks.{read_case, params_case, sectors_case, data_case, program_case}

-- ---- at most n transactions, whatever the replies
abbrev pub Any : Sent → Type 0
Any s = Unit {0}

abbrev pub Within : {A : Type 0} → ℕ → Script A → Type 0
Within n c = Sends Any n c

-- ---- operations
within_operation : (s : Sent) (w : Kept) → Within (2 + limit w) (operation s w)
within_operation s w = sends_operation Any w tt tt s tt

within_erases : (es : List EraseEntry) (w : Kept) → Within (length es * (2 + limit w)) (each erase_one es w)
within_erases es w =
    sends_each Any erase_one (2 + limit w) w (λ e. within_operation (erase_block w.settings e) w) (λ e. stays_operation (erase_block w.settings e) w) es

stays_erases : (es : List EraseEntry) (w : Kept) → Stays w (each erase_one es w)
stays_erases es w = stays_each erase_one w (λ e. stays_operation (erase_block w.settings e) w) es

within_parts : (a n : ℕ) (l : List ℕ) (w : Kept) → Within (pages_of w a n * (2 + limit w)) (each (write_part a l) (parts (page_of w.settings) a 0 n) w)
within_parts a n l w =
    rw (← parts_pages (page_of w.settings) a n (page_some w.settings))
    (sends_each Any (write_part a l) (2 + limit w) w (λ p. within_operation (page_program w (a + p.off) (bytes_of l p)) w)
    (λ p. stays_operation (page_program w (a + p.off) (bytes_of l p)) w) (parts (page_of w.settings) a 0 n))

stays_parts : (a : ℕ) (l : List ℕ) (ps : List Part) (w : Kept) → Stays w (each (write_part a l) ps w)
stays_parts a l ps w = stays_each (write_part a l) w (λ p. stays_operation (page_program w (a + p.off) (bytes_of l p)) w) ps

-- ---- the pieces of a program
within_verify : (t : Bool) (a : ℕ) (l : List ℕ) (w : Kept) → Within 2 (when t (verify a l) w)
unfolding after
within_verify true a l w = (tt, (omega arith, λ r. go (mismatch a l r)))
  where
    go : (x : Option Answer) → Within (2 - 1) (judge x w)
    go none = tt
    go (some e) = (tt, (omega arith, λ r. tt))
within_verify false a l w = tt

within_writing : (J : Job) (n : ℕ) (w : Kept) → Within (pages_of w J.base n * (2 + limit w) + 2) (writing J n 0 w)
within_writing J n w =
    sends_then Any w (pages_of w J.base n * (2 + limit w)) 2 (each (write_part J.base w.room) (parts (page_of w.settings) J.base 0 n) w) _
    (within_parts J.base n w.room w)
    (stays_parts J.base w.room (parts (page_of w.settings) J.base 0 n) w)
    (λ u. sends_any Any 2 0 (when J.verified (verify J.base (take n w.room)) w) (λ u. give Done)
    (within_verify J.verified J.base (take n w.room) w) (λ a w'. tt))

-- with the reads done: W is the pages of the bytes that are written, by the room as it is
within_erasing : (J : Job) (es : List EraseEntry) (w : Kept)
    → Within (2 + (length es + pages_of w J.base (written (J.end - J.base) (J.last - J.base) w.room)) * (2 + limit w)) (erasing J es w)
within_erasing J es w =
    let n = written (J.end - J.base) (J.last - J.base) w.room in
    weaken Any (erasing J es w) (omega arith)
    (sends_then Any w (length es * (2 + limit w)) (pages_of w J.base n * (2 + limit w) + 2) (each erase_one es w) _
    (within_erases es w) (stays_erases es w) (λ u. within_writing J n w))

-- ---- a program
-- no more is written than the span
written_le : (data_end span_len : ℕ) (l : List ℕ) → data_end ≤ span_len → written data_end span_len l ≤ span_len
unfolding written
written_le data_end span_len l h = go (blank (take (span_len - data_end) (drop data_end l)))
  where
    go : (t : Bool) → cond t data_end span_len ≤ span_len
    go true = h
    go false = omega arith

-- all but the room is as it was
abbrev Roomed : {A : Type 0} → Kept → A → Kept → Type 0
Roomed w a w' = (l : List ℕ) × (w' ≡ roomed w l)

within_fetch : (t : Bool) (off a n : ℕ) (w : Kept) → Within 1 (when t (fetch off a n) w)
unfolding after
within_fetch true off a n w = (tt, (omega arith, λ r. tt))
within_fetch false off a n w = tt

leads_fetch : (t : Bool) (off a n : ℕ) (w : Kept) → Leads (Roomed w) (when t (fetch off a n) w)
unfolding after
leads_fetch true off a n w = (tt, λ r h. (_, refl))
leads_fetch false off a n w = (w.room, refl)

module _ (J : Job) (k : J.end ≤ J.last) where
  -- E and W
  abbrev rounds : Kept → ℕ
  rounds w = length (plan_of w J.from J.end) + pages_of w J.base (J.last - J.base)

  within_erased : (w : Kept) → Within (2 + rounds w * (2 + limit w)) (erasing J (plan_of w J.from J.end) w)
  within_erased w =
      let es = plan_of w J.from J.end in
      let n = written (J.end - J.base) (J.last - J.base) w.room in
      let l : pages_of w J.base n ≤ pages_of w J.base (J.last - J.base) =
      pages_le (page_of w.settings) J.base n (J.last - J.base) (page_some w.settings)
      (written_le (J.end - J.base) (J.last - J.base) w.room (omega arith)) in
      let m : length es + pages_of w J.base n ≤ rounds w = omega arith in
      weaken Any (erasing J es w) (omega (arith, mul-le-mul_right (2 + limit w) m)) (within_erasing J es w)

  within_after : (w : Kept) → Within (1 + (2 + rounds w * (2 + limit w))) (read_after J w)
  within_after w =
      sends_after Any (Roomed w) 1 (2 + rounds w * (2 + limit w)) (when (ltb J.end J.last) (fetch (J.end - J.base) J.end (J.last - J.end)) w) _
      (within_fetch (ltb J.end J.last) (J.end - J.base) J.end (J.last - J.end) w)
      (leads_fetch (ltb J.end J.last) (J.end - J.base) J.end (J.last - J.end) w)
      (λ u w' e. along (λ (x : Kept). Within (2 + rounds w * (2 + limit w)) (erasing J (plan_of x J.from J.end) x)) e.1 (within_erased (roomed w e.0)))

  within_before : (w : Kept) → Within (1 + (1 + (2 + rounds w * (2 + limit w)))) (read_before J w)
  within_before w =
      sends_after Any (Roomed w) 1 (1 + (2 + rounds w * (2 + limit w))) (when (ltb J.base J.from) (fetch 0 J.base (J.from - J.base)) w) _
      (within_fetch (ltb J.base J.from) 0 J.base (J.from - J.base) w)
      (leads_fetch (ltb J.base J.from) 0 J.base (J.from - J.base) w)
      (λ u w' e. along (λ (x : Kept). Within (1 + (2 + rounds w * (2 + limit w))) (read_after J x)) e.1 (within_after (roomed w e.0)))

within_program : (a : ℕ) (d : List ℕ) (v : Bool) (w : Kept) → Within (4 + (entries w a (length d) + span_pages w a (length d)) * (2 + limit w)) (program a d v w)
within_program a d v w =
    let J = job_of w a (length d) v in
    let n = (entries w a (length d) + span_pages w a (length d)) * (2 + limit w) in
    program_case (λ (s : Script Answer). Within (4 + n) s) w (λ e _. tt) a d v
    (λ p. weaken Any (read_before J (roomed w (over (a - span_start (plan_of w a (a + length d))) d w.room))) (omega arith)
    (within_before J p.reaches (roomed w (over (a - span_start (plan_of w a (a + length d))) d w.room))))

-- ---- a program by the replies to its reads
module _ (J : Job) (d : List ℕ) (w : Kept) (rs : List Reply) where
  abbrev laid : Kept
  laid = roomed w (over (J.from - J.base) d w.room)

  abbrev closer : ℕ
  closer = (length (plan_of w J.from J.end) + written_pages w J d rs) * (2 + limit w)

  after_within : (before : List ℕ) (rest : List Reply) (m : ℕ) → fetched (J.from - J.base) rs ≡ some (before, rest)
      → length (play (tree m (read_after J (roomed laid (over 0 before laid.room)))) rest).0 ≤ 3 + closer
  after_within before rest m c =
      ⊎_elim (λ g. omega (arith, g.one))
      (λ g. let w'' : Kept = roomed w' (over (J.end - J.base) g.bytes w'.room) in
      let es = plan_of w J.from J.end in
      let e : w''.room ≡ (gathered J rs laid.room).1 =
      sym (ap (λ (x : Bool × List ℕ). x.1) (gathered_both J rs laid.room before g.bytes rest g.rest c g.came)) in
      let l = (all_sent Any (erasing J es w'') _ g.behind g.rest (within_erasing J es w'')).1 in
      let f : (length es + pages_of w J.base (written (J.end - J.base) (J.last - J.base) w''.room)) * (2 + limit w) ≡ closer =
      ap (λ (x : List ℕ). (length es + pages_of w J.base (written (J.end - J.base) (J.last - J.base) x)) * (2 + limit w)) e in
      omega (arith, g.one, l, f))
      (fetch_case (ltb J.end J.last) (J.end - J.base) J.end (J.last - J.end) w' (λ u x. erasing J (plan_of x J.from J.end) x) (λ t. omega (arith, ltb-true J.end J.last t))
      (λ t. omega (arith, ltb-false J.end J.last t)) m rest)
    where
      w' : Kept
      w' = roomed laid (over 0 before laid.room)

  before_within : length (play (tree 0 (read_before J laid)) rs).0 ≤ 4 + closer
  before_within =
      ⊎_elim (λ f. omega (arith, f.one))
      (λ g. omega (arith, g.one, after_within g.bytes g.rest g.behind g.came))
      (fetch_case (ltb J.base J.from) 0 J.base (J.from - J.base) laid (λ u. read_after J) (λ t. omega (arith, ltb-true J.base J.from t))
      (λ t. omega (arith, ltb-false J.base J.from t)) 0 rs)

pub bounded_program : BoundedProgram
unfolding tree play
bounded_program a d v w rs =
    let J = job_of w a (length d) v in
    program_case (λ (s : Script Answer). length (play (tree 0 s) rs).0 ≤ 4 + closer J d w rs) w (λ e _. omega arith) a d v
    (λ p. before_within J d w rs)

-- ---- the other commands
within_table : (n : ℕ) (p : Result FlashParams SFDPError) (w : Kept) → Within n (with_table p w)
unfolding after
within_table n (Err e) w = tt
within_table n (Ok p) w = tt

within_header : (p : Result SFDPParameterHeader SFDPError) (w : Kept) → Within 1 (with_header p w)
unfolding after
within_header (Err e) w = tt
within_header (Ok h) w = (tt, (omega arith, λ r. within_table 0 (read_table h.minor h.plen r) _))

within_params : (w : Kept) → Within 3 (read_params w)
unfolding after
within_params w =
    params_case (λ (s : Script Answer). Within 3 s) w (λ e _. tt)
    (λ _. (tt, (omega arith, λ r. (tt, (omega arith, λ r'. within_header (read_header r') _)))))

within_sectors : (a n : ℕ) (w : Kept) → Within (entries w a n * (2 + limit w)) (erase_sectors a n w)
within_sectors a n w =
    sectors_case (λ (s : Script Answer). Within (entries w a n * (2 + limit w)) s) w (λ e _. tt) a n
    (weaken Any (after (each erase_one (plan_of w a (a + n)) w) (λ u. give Done)) (omega arith)
    (sends_any Any (entries w a n * (2 + limit w)) 0 (each erase_one (plan_of w a (a + n)) w) (λ u. give Done) (within_erases (plan_of w a (a + n)) w) (λ u w'. tt)))

within_erase : (w : Kept) → Within (2 + limit w) (erase w)
unfolding erase
within_erase w =
    weaken Any (after (operation (plain 0xC7 0) w) (λ u. give Done)) (omega arith)
    (sends_any Any (2 + limit w) 0 (operation (plain 0xC7 0) w) (λ u. give Done) (within_operation (plain 0xC7 0) w) (λ u w'. tt))

within_data : (a : ℕ) (d : List ℕ) (w : Kept) → Within (pages_of w a (length d) * (2 + limit w)) (program_data a d w)
unfolding program_data
within_data a [] w = tt
within_data a (x ∷ d) w =
    let w' : Kept = roomed w (over 0 (x ∷ d) w.room) in
    let n : ℕ = length (x ∷ d) in
    data_case (λ (s : Script Answer). Within (pages_of w a n * (2 + limit w)) s) w (λ e _. tt) a x d
    (λ _. weaken Any (write_data a n 0 w') (omega arith)
    (sends_any Any (pages_of w a n * (2 + limit w)) 0 (each (write_part a w'.room) (parts (page_of w.settings) a 0 n) w') (λ u. give Done)
    (within_parts a n w'.room w') (λ u w''. tt)))

within_reset : (w : Kept) → Within 2 (reset w)
unfolding after reset
within_reset w = go (not (w.known && w.params.jesd216a) || w.params.reset_inst_66_99) w.params.reset_inst_f0
  where
    go : (a b : Bool)
        → Within 2
        (cond a ((do
          ask (plain 0x66 0)
          ask (plain 0x99 0)
          give Done) w)
        (cond b ((do
          ask (plain 0xF0 0)
          give Done) w) (stop w NoResetInstruction)))
    go true b = (tt, (omega arith, λ r. (tt, (omega arith, λ r. tt))))
    go false true = (tt, (omega arith, λ r. tt))
    go false false = tt

within_id : (w : Kept) → Within 2 (read_jedec_id w)
unfolding after read_jedec_id
within_id w = (tt, (omega arith, λ r. go r (eqb (byte_at r 0) 0x7F)))
  where
    go : (r : List ℕ) (b : Bool)
        → Within (2 - 1)
        (cond b ((do
          r' ← ask (plain 0x9F 16)
          give (first_id 13 1 r')) w) (done w (id_at 0 r)))
    go r true = (tt, (omega arith, λ r. tt))
    go r false = tt

within_busy : (w : Kept) → Within 1 (is_busy w)
unfolding after is_busy
within_busy w = (tt, (omega arith, λ r. tt))

within_protected : (w : Kept) → Within 1 (is_protected w)
unfolding after is_protected
within_protected w = (tt, (omega arith, λ r. tt))

-- ---- all of them
pub within : (c : Call) (w : Kept) → Within (most c w) (script c w)
unfolding read legacy_read
within (Read a n) w = read_case (λ (s : Script Answer). Within 1 s) w (λ e _. tt) fast_read a n (λ _. (tt, (omega arith, λ r. tt)))
within (LegacyRead a n) w = read_case (λ (s : Script Answer). Within 1 s) w (λ e _. tt) read_data a n (λ _. (tt, (omega arith, λ r. tt)))
within ReadParams w = within_params w
within Erase w = within_erase w
within (EraseSectors a n) w = within_sectors a n w
within (Program a d v) w = within_program a d v w
within (ProgramData a d) w = within_data a d w
within Reset w = within_reset w
within ReadJedecId w = within_id w
within IsBusy w = within_busy w
within IsProtected w = within_protected w

pub bounded_host : Bounded
bounded_host c w rs = (all_sent Any (script c w) (most c w) 0 rs (within c w)).1

pub ends_always : ComesToEnd
ends_always c w rs h = comes_to_end Any (script c w) (most c w) 0 rs (within c w) h
