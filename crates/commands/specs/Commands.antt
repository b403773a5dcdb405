-- Each command of docs/SCOPE.md, Commands as transactions: what it checks, in order, what it sends, and how it ends.
use Rattle.std.specs.Prelude.{Bool, true, false, cond, ◌&&◌, ◌||◌, not, List, [], ◌∷◌, ℕ, zero, suc, ◌+◌, ◌-◌, ◌*◌, eqb, ltb, leb, length, take, drop, Result, Ok, Err}
use Rattle.std.proofs.Math.Option.{Option, some, none}
use Rattle.sfdp.specs.declared.FlashParams.{FlashParams}
use Rattle.sfdp.specs.declared.SFDPParameterHeader.{SFDPParameterHeader}
use Rattle.sfdp.specs.declared.SFDPError.{SFDPError}
use Rattle.dwords.specs.Dwords.{byte_at, bits}
use Rattle.sfdp.specs.Jesd216.{headers, read_header, read_table}
use Rattle.settings.specs.declared.Settings.{Settings}
use Rattle.settings.specs.Limits.{page_of}
use Rattle.settings.specs.Ranges.{accepted_range, last_address}
use Rattle.settings.specs.Updated.{updated}
use Rattle.erase_plan.specs.declared.EraseType.{EraseType}
use Rattle.erase_plan.specs.declared.EraseEntry.{EraseEntry}
use Rattle.erase_plan.specs.Types.{present}
use Rattle.erase_plan.specs.Plan.{plan}
use Rattle.erase_plan.specs.Span.{span_start, span_end, span_check}
use Rattle.plans.specs.Available.{available}
use Rattle.commands.specs.declared.Answer.{Answer}
use Rattle.commands.specs.Answers.{refusal_of}
use Rattle.commands.specs.declared.Answer.TheVariants.{Done, DoneBool, DoneId, ReadbackError, InvalidManufacturer, InvalidAddress, NoResetInstruction, NoEraseInstruction, NoRoom}
use Rattle.commands.specs.Script.{Sent, Kept, done, stop, Cmd, ◌>>=◌, ◌>>◌, give, fail, need, when, ask, kept, store, adopt, each}
use Rattle.commands.specs.Transactions.{plain, fast_read, read_data, read_sfdp, status1, erase_block, by_flag, status_poll, ready, operation, parts, write_part}

-- ---- the checks
-- answer 5 with the last address of a range
abbrev pub bad_range : ℕ → Answer
bad_range last = InvalidAddress (record { last = last })

abbrev pub in_range : ℕ → ℕ → Cmd (Unit {0})
in_range a n w = need (accepted_range w.settings a n) (bad_range (last_address a n)) w

-- answer 11 if the lent room is shorter
abbrev pub room_for : ℕ → Cmd (Unit {0})
room_for n w = need (leb n (length w.room)) (NoRoom n) w

-- the available types, in order
abbrev pub types_of : Kept → List EraseType
types_of w = present (available w.settings w.known w.params)

-- answer 7 if there is none
abbrev pub have_types : Cmd (Unit {0})
have_types w = elim (types_of w) [ [] ↦ stop w NoEraseInstruction | (t ∷ ts) ↦ done w tt ]

-- the plan for the bytes from a up to end
abbrev pub plan_of : Kept → ℕ → ℕ → List EraseEntry
plan_of w a end = plan (types_of w) a end

abbrev pub erase_one : EraseEntry → Cmd (Unit {0})
erase_one e w = operation (erase_block w.settings e) w

-- ---- read, legacy_read: 5, 11, one read into the lent room
abbrev pub read_by : (Settings → ℕ → ℕ → Sent) → ℕ → ℕ → Cmd Answer
read_by by a n = do
  in_range a n
  room_for n
  w ← kept
  r ← ask (by w.settings a n)
  store 0 r
  give Done

unfoldable pub read : ℕ → ℕ → Cmd Answer
read a n = read_by fast_read a n

unfoldable pub legacy_read : ℕ → ℕ → Cmd Answer
legacy_read a n = read_by read_data a n

-- ---- read_params: 11, three 5A reads, each full reply copied to the start of the room; 12, 3, 4
-- n bytes of the SFDP area
abbrev pub fetch_sfdp : ℕ → ℕ → Cmd (List ℕ)
fetch_sfdp a n = ask (read_sfdp a n) >>= λ r. store 0 r >> give r

abbrev pub with_table : Result FlashParams SFDPError → Cmd Answer
with_table (Err e) w = stop w (refusal_of e)
with_table (Ok p) w = (adopt (updated w.settings p) p >> give Done) w

abbrev pub with_header : Result SFDPParameterHeader SFDPError → Cmd Answer
with_header (Err e) w = stop w (refusal_of e)
with_header (Ok h) w = (fetch_sfdp h.ptp (4 * h.plen) >>= λ r. with_table (read_table h.minor h.plen r)) w

unfoldable pub read_params : Cmd Answer
read_params = do
  room_for 2056
  r ← fetch_sfdp 0 8
  r' ← fetch_sfdp 0 (8 + 8 * headers r)
  with_header (read_header r')

-- ---- erase: 06, C7, polls
unfoldable pub erase : Cmd Answer
erase = operation (plain 0xC7 0) >> give Done

-- ---- erase_sectors: 5, 7, 5 for the span; then the plan
abbrev pub span_fits : Result (Unit {0}) ℕ → Cmd (Unit {0})
span_fits (Ok _) w = done w tt
span_fits (Err a) w = stop w (bad_range a)

unfoldable pub erase_sectors : ℕ → ℕ → Cmd Answer
erase_sectors a n = do
  in_range a n
  have_types
  w ← kept
  span_fits (span_check a n (span_start (plan_of w a (a + n))) (span_end (plan_of w a (a + n))))
  each erase_one (plan_of w a (a + n))
  give Done

-- ---- program: 5, 7, 5 for a span past the limits, 11; the data copied in; reads; the plan; the page parts; verify
-- all bytes are FF
unfoldable pub blank : List ℕ → Bool
blank [] = true
blank (x ∷ l) = eqb x 0xFF && blank l

-- the first differing byte, if there is one, as answer 1: l was written from address a on, r was read
unfoldable pub mismatch : ℕ → List ℕ → List ℕ → Option Answer
mismatch a [] r = none
mismatch a (x ∷ l) [] = none
mismatch a (x ∷ l) (y ∷ r) = elim (eqb x y) [ true ↦ mismatch (suc a) l r | false ↦ some (ReadbackError a x y) ]

-- one 05 read, then answer 1
abbrev pub judge : Option Answer → Cmd (Unit {0})
judge none w = done w tt
judge (some e) w = (ask status1 >> fail e) w

-- n bytes read at a into the room
abbrev pub fetch : ℕ → ℕ → ℕ → Cmd (Unit {0})
fetch off a n w = (ask (fast_read w.settings a n) >>= λ r. store off r) w

-- one 0B read of the bytes l that were written at a
abbrev pub verify : ℕ → List ℕ → Cmd (Unit {0})
verify a l w = (ask (fast_read w.settings a (length l)) >>= λ r. judge (mismatch a l r)) w

-- the bytes after the data are not rewritten if they are all FF: how many bytes of the room are written, where the data end at
-- byte data_end and the span at byte span_len
unfoldable pub written : ℕ → ℕ → List ℕ → ℕ
written data_end span_len room = cond (blank (take (span_len - data_end) (drop data_end room))) data_end span_len

-- what a program is about: its data's addresses from `from` up to `end`, its span from `base` up to `last`
pub record Job : Type 0 where
  pub from : ℕ
  pub end : ℕ
  pub base : ℕ
  pub last : ℕ
  pub verified : Bool

-- the first n bytes of the room written from the base on, from byte off on; then verified, or not
abbrev pub writing : Job → ℕ → ℕ → Cmd Answer
writing J n off w = (do
  each (write_part J.base w.room) (parts (page_of w.settings) J.base off n)
  when J.verified (verify J.base (take n w.room))
  give Done) w

abbrev pub erasing : Job → List EraseEntry → Cmd Answer
erasing J es = do
  each erase_one es
  λ w. writing J (written (J.end - J.base) (J.last - J.base) w.room) 0 w

abbrev pub read_after : Job → Cmd Answer
read_after J = do
  when (ltb J.end J.last) (fetch (J.end - J.base) J.end (J.last - J.end))
  λ w. erasing J (plan_of w J.from J.end) w

abbrev pub read_before : Job → Cmd Answer
read_before J = do
  when (ltb J.base J.from) (fetch 0 J.base (J.from - J.base))
  read_after J

abbrev pub job_of : Kept → ℕ → ℕ → Bool → Job
job_of w a n v = record { from = a; end = a + n; base = span_start (plan_of w a (a + n)); last = span_end (plan_of w a (a + n)); verified = v }

unfoldable pub program : ℕ → List ℕ → Bool → Cmd Answer
program a d v = do
  in_range a (length d)
  have_types
  w ← kept
  let J = job_of w a (length d) v
  in_range J.base (J.last - J.base)
  room_for (J.last - J.base)
  store (J.from - J.base) d
  read_before J

-- ---- program_data: without data Done; 5, 11; the data copied in; the page parts
abbrev pub write_data : ℕ → ℕ → ℕ → Cmd Answer
write_data a n off w = (each (write_part a w.room) (parts (page_of w.settings) a off n) >> give Done) w

unfoldable pub program_data : ℕ → List ℕ → Cmd Answer
program_data a [] = give Done
program_data a (x ∷ d) = do
  in_range a (length (x ∷ d))
  room_for (length (x ∷ d))
  store 0 (x ∷ d)
  write_data a (length (x ∷ d)) 0

-- ---- reset: 66, 99 unless the parameters rule it out, else F0 if they allow it, else 6
unfoldable pub reset : Cmd Answer
reset w =
    cond (not (w.known && w.params.jesd216a) || w.params.reset_inst_66_99)
    ((ask (plain 0x66 0) >> ask (plain 0x99 0) >> give Done) w)
    (cond w.params.reset_inst_f0 ((ask (plain 0xF0 0) >> give Done) w) (stop w NoResetInstruction))

-- ---- read_jedec_id: 9F with reply 3; if byte 0 is 7F, 9F again with reply 16, and the first of bytes 1 to 13 that is not 7F
abbrev pub id_at : ℕ → List ℕ → Answer
id_at n r = DoneId n (byte_at r n) (256 * byte_at r (n + 1) + byte_at r (n + 2))

-- of so many bytes from byte n on
unfoldable pub first_id : ℕ → ℕ → List ℕ → Answer
first_id zero n r = InvalidManufacturer
first_id (suc more) n r = cond (eqb (byte_at r n) 0x7F) (first_id more (n + 1) r) (id_at n r)

unfoldable pub read_jedec_id : Cmd Answer
read_jedec_id = do
  r ← ask (plain 0x9F 3)
  λ w. cond (eqb (byte_at r 0) 0x7F) ((ask (plain 0x9F 16) >>= λ r'. give (first_id 13 1 r')) w) (done w (id_at 0 r))

-- ---- is_busy: one poll. is_protected: one 05 read, any of bits 4:2
unfoldable pub is_busy : Cmd Answer
is_busy w = (ask (status_poll w) >>= λ r. give (DoneBool (not (ready (by_flag w) (byte_at r 0))))) w

unfoldable pub is_protected : Cmd Answer
is_protected = ask status1 >>= λ r. give (DoneBool (not (eqb (bits (byte_at r 0) 4 2) 0)))
