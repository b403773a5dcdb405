-- What a session means: what is still to come of its command's script, phase by phase; and the sessions that are handed back.
use Rattle.std.proofs.Common.{Some, None, Option}
use Prim.Native.Nat.{ℕ, suc, ◌+◌, ◌-◌, ◌*◌, ◌≤◌, ◌<◌, ◌^◌}
use mathlib.Core.Path.{◌≡◌}
use mathlib.Core.Bool.{Bool, true, false, cond, not}
use mathlib.Core.List.{List}
use lib.Dec.{eqb}
use lib.ListN.{length, take}
use Rattle.dwords.specs.Dwords.{byte_at, bits}
use Rattle.sfdp.specs.Jesd216.{headers, read_header, read_table}
use Rattle.settings.specs.Limits.{page_of}
use Rattle.erase_plan.specs.declared.NextEntry.{NextEntry}
use Rattle.erase_plan.specs.Plan.{next_of}
use Rattle.commands.specs.declared.Answer.{Answer}
use Rattle.commands.specs.declared.Answer.TheVariants.{Done, DoneBool, ReadbackError}
use Rattle.commands.specs.Script.{Sent, Kept, done, Cmd, after, give, fail, ask, store, each, ◌>>=◌, ◌>>◌}
use Rattle.commands.specs.Host.{Reply, Tree, ends as over, asks, tree}
use Rattle.commands.specs.Transactions.{plain, at, fast_read, read_data, status1, erase_block, page_program, by_flag, status_poll, ready, polls, operation, Part, to_page_end, bytes_of}
use Rattle.commands.specs.Commands.{Job as Aim, types_of, plan_of, erase_one, fetch_sfdp, with_header, with_table, verify, fetch, writing, erasing, read_after, write_data, id_at, first_id, erase, program}
use Rattle.phases.specs.declared.Job.{Job}
use Rattle.phases.specs.declared.ReadCommand.{ReadCommand}
use Rattle.phases.specs.declared.ReadCommand.TheVariants as Reads
use Rattle.phases.specs.declared.EraseCommand.{EraseCommand}
use Rattle.phases.specs.declared.EraseCommand.TheVariants as Erases
use Rattle.phases.specs.declared.WriteCommand.{WriteCommand}
use Rattle.phases.specs.declared.WriteCommand.TheVariants as Writes
use Rattle.phases.specs.declared.PollCommand.{PollCommand}
use Rattle.phases.specs.declared.PollCommand.TheVariants as Polls
use Rattle.phases.specs.declared.VerifyCommand.{VerifyCommand}
use Rattle.phases.specs.declared.VerifyCommand.TheVariants as Verifies
use Rattle.phases.specs.declared.ResetCommand.{ResetCommand}
use Rattle.phases.specs.declared.ResetCommand.TheVariants as Resets
use Rattle.phases.specs.declared.Phase.{Phase}
use Rattle.phases.specs.declared.Phase.TheVariants.{Reading, Erasing, Writing, Polling, Verifying, Resetting, Ended}
use Rattle.flash.specs.declared.Session.{Session}
use Rattle.flash.specs.declared.Event.TheVariants.{Send, Answered}
use Rattle.flash.specs.declared.Stepped.{Stepped}
use Rattle.phases.specs.Waits.{need_of}
use Rattle.flash.specs.Waits.{types_of as types_for, waits_on}
use Rattle.phases.specs.Moves.{is_ended}
use Rattle.meaning.specs.Meaning.{kept_of, sent_of, bytes_in, takes, Bytes}

-- a job's ends, one past its last addresses
abbrev pub aim_of : Job → Aim
aim_of J = record { from = J.from; end = J.last + 1; base = J.base; last = J.top + 1; verified = J.verified }

-- ---- what is still to come, phase by phase
unfoldable pub reads_on : ReadCommand → Cmd Answer
reads_on (Reads.Read legacy a n) = λ w. (do
  r ← ask (cond legacy (read_data w.settings a n) (fast_read w.settings a n))
  store 0 r
  give Done) w
reads_on Reads.Header = do
  r ← fetch_sfdp 0 8
  r' ← fetch_sfdp 0 (8 + 8 * headers r)
  with_header (read_header r')
reads_on (Reads.Headers more) = do
  r ← fetch_sfdp 0 (8 + 8 * (more + 1))
  with_header (read_header r)
reads_on (Reads.Table minor plen ptp) = do
  r ← fetch_sfdp ptp (4 * plen)
  with_table (read_table minor plen r)
reads_on (Reads.Before J) = do
  fetch 0 J.base (J.from - J.base)
  read_after (aim_of J)
reads_on (Reads.After J) = do
  fetch (J.last + 1 - J.base) (J.last + 1) (J.top - J.last)
  λ w. erasing (aim_of J) (plan_of w J.from (J.last + 1)) w
reads_on Reads.Id = do
  r ← ask (plain 0x9F 3)
  λ w. cond (eqb (byte_at r 0) 0x7F) ((do
    r' ← ask (plain 0x9F 16)
    give (first_id 13 1 r')) w) (done w (id_at 0 r))
reads_on Reads.IdAgain = do
  r ← ask (plain 0x9F 16)
  give (first_id 13 1 r)
reads_on Reads.Protected = do
  r ← ask status1
  give (DoneBool (not (eqb (bits (byte_at r 0) 4 2) 0)))

-- an erase: its transaction, and what follows when it is done
abbrev pub block_sent : Kept → Option NextEntry → Sent
block_sent w None = at 0 w.settings.address_bytes 0 false 0
block_sent w (Some e) = erase_block w.settings e.entry

unfoldable pub erase_sent : Kept → EraseCommand → Sent
erase_sent w Erases.Chip = plain 0xC7 0
erase_sent w (Erases.Sectors p last) = block_sent w (next_of (types_of w) p (last + 1))
erase_sent w (Erases.Program J p) = block_sent w (next_of (types_of w) p (J.last + 1))

-- the position after an entry; without one, the range's end
abbrev pub past_entry : Option NextEntry → ℕ → ℕ
past_entry None end = end
past_entry (Some e) end = e.stop + 1

unfoldable pub erase_then : EraseCommand → Cmd Answer
erase_then Erases.Chip = give Done
erase_then (Erases.Sectors p last) = λ w. (do
  each erase_one (plan_of w (past_entry (next_of (types_of w) p (last + 1)) (last + 1)) (last + 1))
  give Done) w
erase_then (Erases.Program J p) = λ w. erasing (aim_of J) (plan_of w (past_entry (next_of (types_of w) p (J.last + 1)) (J.last + 1)) (J.last + 1)) w

-- a page write: its transaction, and what follows
abbrev pub part_at : Kept → ℕ → ℕ → ℕ → Part
part_at w a to off = record { off = off; len = to_page_end (page_of w.settings) a off (to + 1) }

abbrev pub page_sent : Kept → ℕ → ℕ → ℕ → Sent
page_sent w a to off = page_program w (a + off) (bytes_of w.room (part_at w a to off))

unfoldable pub write_sent : Kept → WriteCommand → Sent
write_sent w (Writes.Program J to off) = page_sent w J.base to off
write_sent w (Writes.Data a to off) = page_sent w a to off

unfoldable pub write_then : WriteCommand → Cmd Answer
write_then (Writes.Program J to off) w = writing (aim_of J) (to + 1) (off + (part_at w J.base to off).len) w
write_then (Writes.Data a to off) w = write_data a (to + 1) (off + (part_at w a to off).len) w

-- an operation from its 06 on, from its opcode on, from its polls on
unfoldable pub from_start : Bool → Sent → Cmd Answer → Cmd Answer
from_start false s next = do
  operation s
  next
from_start true s next = do
  ask s
  λ w. polls w.settings.poll_limit w
  next

unfoldable pub polls_on : PollCommand → ℕ → Cmd Answer
polls_on Polls.Once left = λ w. (do
  r ← ask (status_poll w)
  give (DoneBool (not (ready (by_flag w) (byte_at r 0))))) w
polls_on (Polls.Erase c) left = do
  polls (suc left)
  erase_then c
polls_on (Polls.Write c) left = do
  polls (suc left)
  write_then c

unfoldable pub verifies_on : VerifyCommand → Cmd Answer
verifies_on (Verifies.Compare J to) = λ w. (do
  verify J.base (take (to + 1) w.room)
  give Done) w
verifies_on (Verifies.Tell J m) = do
  ask status1
  fail (ReadbackError m.address m.wrote m.read)

unfoldable pub resets_on : ResetCommand → Cmd Answer
resets_on Resets.Enable = do
  ask (plain 0x66 0)
  ask (plain 0x99 0)
  give Done
resets_on Resets.Reset = do
  ask (plain 0x99 0)
  give Done
resets_on Resets.F0 = do
  ask (plain 0xF0 0)
  give Done

unfoldable pub rest : Phase → Cmd Answer
rest (Reading c) = reads_on c
rest (Erasing c enabled) = λ w. from_start enabled (erase_sent w c) (erase_then c) w
rest (Writing c enabled) = λ w. from_start enabled (write_sent w c) (write_then c) w
rest (Polling c left) = polls_on c left
rest (Verifying c) = verifies_on c
rest (Resetting c) = resets_on c
rest (Ended c a) = give a

-- THE MEANING of a session with its lent room
unfoldable pub meaning : Session → List ℕ → Tree
meaning s room = tree s.polls (rest s.phase (kept_of s room))

-- what the host sees of a start's or a step's result
unfoldable pub seen : Stepped → List ℕ → Tree
seen x room = elim x.event [ Answered a n ↦ over (record { answer = a; polls = n; kept = kept_of x.session room }) | Send t ↦ meaning x.session room ]

-- ---- sessions that a start or a step hands back: a program's addresses in order, its positions within them
pub record Ordered (J : Job) : Type 0 where
  pub first : J.base ≤ J.from
  pub data' : J.from ≤ J.last
  pub span : J.last ≤ J.top
  pub top : J.top < 2 ^ 32

-- a program that has yet to come to its plan has erase types, so that there is a first entry
abbrev pub FitRead : Session → ReadCommand → Type 0
FitRead s (Reads.Read legacy a n) = Unit {0}
FitRead s Reads.Header = Unit {0}
FitRead s (Reads.Headers more) = more < 256
FitRead s (Reads.Table minor plen ptp) = plen < 256
FitRead s (Reads.Before J) = Ordered J × (0 < length (types_for s))
FitRead s (Reads.After J) = Ordered J × ((J.last < J.top) × (0 < length (types_for s)))
FitRead s Reads.Id = Unit {0}
FitRead s Reads.IdAgain = Unit {0}
FitRead s Reads.Protected = Unit {0}

abbrev pub FitErase : EraseCommand → Type 0
FitErase Erases.Chip = Unit {0}
FitErase (Erases.Sectors p last) = Unit {0}
FitErase (Erases.Program J p) = Ordered J

abbrev pub FitWrite : WriteCommand → Type 0
FitWrite (Writes.Program J to off) = Ordered J × ((J.base + to ≤ J.top) × (off ≤ to))
FitWrite (Writes.Data a to off) = (a + to < 2 ^ 32) × (off ≤ to)

abbrev pub FitPoll : PollCommand → Type 0
FitPoll Polls.Once = Unit {0}
FitPoll (Polls.Erase c) = FitErase c
FitPoll (Polls.Write c) = FitWrite c

abbrev pub FitVerify : VerifyCommand → Type 0
FitVerify (Verifies.Compare J to) = Ordered J × (J.base + to ≤ J.top)
FitVerify (Verifies.Tell J m) = Ordered J

abbrev pub FitPhase : Session → Phase → Type 0
FitPhase s (Reading c) = FitRead s c
FitPhase s (Erasing c enabled) = FitErase c
FitPhase s (Writing c enabled) = FitWrite c
FitPhase s (Polling c left) = FitPoll c
FitPhase s (Verifying c) = FitVerify c
FitPhase s (Resetting c) = Unit {0}
FitPhase s (Ended c a) = Unit {0}

abbrev pub Fit : Session → Type 0
Fit s = FitPhase s s.phase

-- THE STEP, for every running session and every reply: the meaning asks for the session's transaction, and goes on as the step does
abbrev pub StepMeans : Type 0
StepMeans = (s : Session) (room : List ℕ) → Fit s → is_ended s.phase ≡ false → need_of s.phase ≤ length room → s.polls + 1 < 2 ^ 64
    → meaning s room ≡ asks (sent_of (waits_on s s.phase) room) (λ r. seen (takes s r room).out (takes s r room).room)

-- and what it hands back is such a session again
abbrev pub StepFits : Type 0
StepFits = (s : Session) (room : List ℕ) (r : Reply) → Bytes (bytes_in r) → Fit s → Fit (takes s r room).out.session
