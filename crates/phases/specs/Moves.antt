-- Where a phase goes when its transaction was answered, as far as no session is needed; what the reply leaves in the room; and as
-- which command a phase ends.
use Rattle.std.specs.Prelude.{ℕ, suc, ◌+◌, ◌-◌, ◌%◌, ◌^◌, Bool, true, false, cond, not, List, [], ◌∷◌, take, drop, ◌==◌, nat_lt, Some, None, Option, Result, Ok, Err}
use Rattle.sfdp.specs.declared.SFDPParameterHeader.{SFDPParameterHeader}
use Rattle.sfdp.specs.declared.SFDPError.{SFDPError}
use Rattle.dwords.specs.Dwords.{byte_at, bits}
use Rattle.sfdp.specs.Jesd216.{read_header}
use Rattle.erase_plan.specs.declared.NextEntry.{NextEntry}
use Rattle.commands.specs.Answers.{refusal_of}
use Rattle.commands.specs.declared.Answer.TheVariants.{Done, DoneBool, ReadbackError, Busy}
use Rattle.room.specs.Room.{laid}
use Rattle.commands.specs.Commands.{blank, id_at, first_id}
use Rattle.phases.specs.declared.Job.{Job}
use Rattle.phases.specs.declared.Mismatch.{Mismatch}
use Rattle.phases.specs.declared.ReadCommand.{ReadCommand}
use Rattle.phases.specs.declared.ReadCommand.TheVariants as Reads
use Rattle.phases.specs.declared.EraseCommand.{EraseCommand}
use Rattle.phases.specs.declared.EraseCommand.TheVariants as Erases
use Rattle.phases.specs.declared.WriteCommand.{WriteCommand}
use Rattle.phases.specs.declared.WriteCommand.TheVariants as Writes
use Rattle.phases.specs.declared.PollCommand.{PollCommand}
use Rattle.phases.specs.declared.PollCommand.TheVariants as Polls
use Rattle.phases.specs.declared.VerifyCommand.{VerifyCommand}
use Rattle.phases.specs.declared.VerifyCommand.TheVariants as Verifies
use Rattle.phases.specs.declared.ResetCommand.{ResetCommand}
use Rattle.phases.specs.declared.ResetCommand.TheVariants as Resets
use Rattle.phases.specs.declared.Command.{Command}
use Rattle.phases.specs.declared.Command.TheVariants as Ends
use Rattle.phases.specs.declared.Phase.{Phase}
use Rattle.phases.specs.declared.Phase.TheVariants.{Reading, Erasing, Writing, Polling, Verifying, Resetting, Ended}
use Rattle.phases.specs.Waits.{part_last}

-- ---- a program goes on to read what is before its data, then what is after it, then to its plan
unfoldable pub to_after : Job → Phase
to_after J = cond (nat_lt J.last J.top) (Reading (Reads.After J)) (Erasing (Erases.Program J J.from) false)

unfoldable pub to_before : Job → Phase
to_before J = cond (nat_lt J.base J.from) (Reading (Reads.Before J)) (to_after J)

-- ---- a read's reply
unfoldable pub with_header : Result SFDPParameterHeader SFDPError → Phase
with_header (Err e) = Ended Ends.Other (refusal_of e)
with_header (Ok h) = Reading (Reads.Table h.minor h.plen h.ptp)

-- the phase after it; of a table the session decides the answer
unfoldable pub after_read : ReadCommand → List ℕ → Phase
after_read (Reads.Read legacy a k) r = Ended Ends.Other Done
after_read Reads.Header r = Reading (Reads.Headers (byte_at r 6))
after_read (Reads.Headers more) r = with_header (read_header r)
after_read (Reads.Table minor plen ptp) r = Ended Ends.Other Done
after_read (Reads.Before J) r = to_after J
after_read (Reads.After J) r = Erasing (Erases.Program J J.from) false
after_read Reads.Id r = cond (byte_at r 0 == 0x7F) (Reading Reads.IdAgain) (Ended Ends.Other (id_at 0 r))
after_read Reads.IdAgain r = Ended Ends.Other (first_id 13 1 r)
after_read Reads.Protected r = Ended Ends.Other (DoneBool (not (bits (byte_at r 0) 4 2 == 0)))

-- the read of a table, whose reply changes settings and parameters
unfoldable pub is_table : ReadCommand → Bool
is_table (Reads.Read legacy a k) = false
is_table Reads.Header = false
is_table (Reads.Headers more) = false
is_table (Reads.Table minor plen ptp) = true
is_table (Reads.Before J) = false
is_table (Reads.After J) = false
is_table Reads.Id = false
is_table Reads.IdAgain = false
is_table Reads.Protected = false

-- the room after a read's reply
unfoldable pub read_room : ReadCommand → List ℕ → List ℕ → List ℕ
read_room (Reads.Read legacy a k) r room = laid 0 r room
read_room Reads.Header r room = laid 0 r room
read_room (Reads.Headers more) r room = laid 0 r room
read_room (Reads.Table minor plen ptp) r room = laid 0 r room
read_room (Reads.Before J) r room = laid 0 r room
read_room (Reads.After J) r room = laid (J.last + 1 - J.base) r room
read_room Reads.Id r room = room
read_room Reads.IdAgain r room = room
read_room Reads.Protected r room = room

-- ---- which command a phase belongs to, for its end
unfoldable pub read_ends : ReadCommand → Command
read_ends (Reads.Read legacy a k) = Ends.Other
read_ends Reads.Header = Ends.Other
read_ends (Reads.Headers more) = Ends.Other
read_ends (Reads.Table minor plen ptp) = Ends.Other
read_ends (Reads.Before J) = Ends.Program J false
read_ends (Reads.After J) = Ends.Program J false
read_ends Reads.Id = Ends.Other
read_ends Reads.IdAgain = Ends.Other
read_ends Reads.Protected = Ends.Other

unfoldable pub erase_ends : EraseCommand → Command
erase_ends Erases.Chip = Ends.Other
erase_ends (Erases.Sectors at last) = Ends.Other
erase_ends (Erases.Program J at) = Ends.Program J true

unfoldable pub write_ends : WriteCommand → Command
write_ends (Writes.Program J to off) = Ends.Program J true
write_ends (Writes.Data a to off) = Ends.Other

unfoldable pub poll_ends : PollCommand → Command
poll_ends Polls.Once = Ends.Other
poll_ends (Polls.Erase c) = erase_ends c
poll_ends (Polls.Write c) = write_ends c

unfoldable pub verify_ends : VerifyCommand → Command
verify_ends (Verifies.Compare J to) = Ends.Program J true
verify_ends (Verifies.Tell J m) = Ends.Program J true

unfoldable pub ends_as : Phase → Command
ends_as (Reading c) = read_ends c
ends_as (Erasing c enabled) = erase_ends c
ends_as (Writing c enabled) = write_ends c
ends_as (Polling c left) = poll_ends c
ends_as (Verifying c) = verify_ends c
ends_as (Resetting c) = Ends.Other
ends_as (Ended c a) = c

-- ---- polls, at most the poll limit
unfoldable pub to_polls : ℕ → PollCommand → Phase
to_polls limit c = cond (limit == 0) (Ended (poll_ends c) Busy) (Polling c (limit - 1))

-- a program's last byte to write: what is after its data is not rewritten if it is all FF
unfoldable pub last_written : Job → List ℕ → ℕ
last_written J room = cond (blank (take (J.top - J.last) (drop (J.last + 1 - J.base) room))) (J.last - J.base) (J.top - J.base)

-- an operation is done: the next one of the command, or what follows
unfoldable pub next_erase : Option NextEntry → ℕ → (ℕ → Phase) → Phase → Phase
next_erase None last on over' = over'
next_erase (Some e) last on over' = cond (nat_lt e.stop last) (on (e.stop + 1)) over'

unfoldable pub next_write : ℕ → ℕ → (ℕ → Phase) → Phase → Phase
next_write stop to on over' = cond (nat_lt stop to) (on (stop + 1)) over'

unfoldable pub to_verify : Job → ℕ → Phase
to_verify J to = cond J.verified (Verifying (Verifies.Compare J to)) (Ended (Ends.Program J true) Done)

unfoldable pub after_write : ℕ → WriteCommand → Phase
after_write page (Writes.Program J to off) =
    next_write (part_last page J.base off to) to (λ p. Writing (Writes.Program J to p) false) (to_verify J to)
after_write page (Writes.Data a to off) = next_write (part_last page a off to) to (λ p. Writing (Writes.Data a to p) false) (Ended Ends.Other Done)

-- one poll alone tells, and never is answer 9
unfoldable pub still_busy : PollCommand → ℕ → Phase
still_busy Polls.Once left = Ended Ends.Other (DoneBool true)
still_busy (Polls.Erase c) left = cond (left == 0) (Ended (erase_ends c) Busy) (Polling (Polls.Erase c) (left - 1))
still_busy (Polls.Write c) left = cond (left == 0) (Ended (write_ends c) Busy) (Polling (Polls.Write c) (left - 1))

-- ---- verify: the first differing byte, if there is one
unfoldable pub first_differs : ℕ → ℕ → List ℕ → List ℕ → Option Mismatch
first_differs base i [] r = None
first_differs base i (x ∷ l) [] = None
first_differs base i (x ∷ l) (y ∷ r) =
    elim (x == y) [ true ↦ first_differs base (suc i) l r | false ↦ Some (record { address = (base + i) % 2 ^ 32; wrote = x; read = y }) ]

unfoldable pub judged : Job → Option Mismatch → Phase
judged J None = Ended (Ends.Program J true) Done
judged J (Some m) = Verifying (Verifies.Tell J m)

unfoldable pub verify_on : VerifyCommand → List ℕ → List ℕ → Phase
verify_on (Verifies.Compare J to) r room = judged J (first_differs J.base 0 (take (to + 1) room) r)
verify_on (Verifies.Tell J m) r room = Ended (Ends.Program J true) (ReadbackError m.address m.wrote m.read)

unfoldable pub reset_on : ResetCommand → Phase
reset_on Resets.Enable = Resetting Resets.Reset
reset_on Resets.Reset = Ended Ends.Other Done
reset_on Resets.F0 = Ended Ends.Other Done

-- ---- the room after a full reply
unfoldable pub room_after : Phase → List ℕ → List ℕ → List ℕ
room_after (Reading c) r room = read_room c r room
room_after (Erasing c enabled) r room = room
room_after (Writing c enabled) r room = room
room_after (Polling c left) r room = room
room_after (Verifying c) r room = room
room_after (Resetting c) r room = room
room_after (Ended c a) r room = room

-- ---- whether a phase has its answer, and whether it waits on a table
unfoldable pub is_ended : Phase → Bool
is_ended (Reading c) = false
is_ended (Erasing c enabled) = false
is_ended (Writing c enabled) = false
is_ended (Polling c left) = false
is_ended (Verifying c) = false
is_ended (Resetting c) = false
is_ended (Ended c a) = true

unfoldable pub of_table : Phase → Bool
of_table (Reading c) = is_table c
of_table (Erasing c enabled) = false
of_table (Writing c enabled) = false
of_table (Polling c left) = false
of_table (Verifying c) = false
of_table (Resetting c) = false
of_table (Ended c a) = false
