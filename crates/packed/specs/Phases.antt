-- A phase as numbers: that of the phase, of its command and of its answer, marks, the polls left, the job, and three more. And back:
-- a number past the last case reads as the last.
use Rattle.std.specs.Prelude.{ℕ, Bool, false, List, [], ◌∷◌, get_or}
use Rattle.commands.specs.declared.Answer.{Answer}
use Rattle.commands.specs.declared.Answer.TheVariants as Answers
use Rattle.phases.specs.declared.Job.{Job}
use Rattle.phases.specs.declared.ReadCommand.{ReadCommand}
use Rattle.phases.specs.declared.ReadCommand.TheVariants as Reads
use Rattle.phases.specs.declared.EraseCommand.{EraseCommand}
use Rattle.phases.specs.declared.EraseCommand.TheVariants as Erases
use Rattle.phases.specs.declared.WriteCommand.{WriteCommand}
use Rattle.phases.specs.declared.WriteCommand.TheVariants as Writes
use Rattle.phases.specs.declared.PollCommand.{PollCommand}
use Rattle.phases.specs.declared.PollCommand.TheVariants as Polls
use Rattle.phases.specs.declared.VerifyCommand.{VerifyCommand}
use Rattle.phases.specs.declared.VerifyCommand.TheVariants as Verifies
use Rattle.phases.specs.declared.ResetCommand.{ResetCommand}
use Rattle.phases.specs.declared.ResetCommand.TheVariants as Resets
use Rattle.phases.specs.declared.Command.{Command}
use Rattle.phases.specs.declared.Command.TheVariants as Commands
use Rattle.phases.specs.declared.Phase.{Phase}
use Rattle.phases.specs.declared.Phase.TheVariants.{Reading, Erasing, Writing, Polling, Verifying, Resetting, Ended}
use Rattle.packed.specs.declared.Reported.{Reported}
use Rattle.packed.specs.declared.Slots.{Slots}
use Rattle.packed.specs.declared.Place.{Place}
use Rattle.packed.specs.Numbers.{byte0, low_half, bit_of, flag_of, low_of, high_of, wide_of}

-- ---- commands
abbrev pub no_job : Job
no_job = record { from = 0; last = 0; base = 0; top = 0; verified = false }

-- a command's number, its yes or no, its job, three numbers
abbrev pub slots : ℕ → Bool → Job → ℕ → ℕ → ℕ → Slots
slots n f j x y z = record { command = n; flag = f; job = j; a = x; b = y; c = z }

-- one with numbers alone
abbrev pub bare : ℕ → ℕ → ℕ → ℕ → Slots
bare n x y z = slots n false no_job x y z

-- one with a job
abbrev pub with_job : ℕ → Job → ℕ → ℕ → ℕ → Slots
with_job n j x y z = slots n false j x y z

unfoldable pub read_slots : ReadCommand → Slots
read_slots (Reads.Read legacy x n) = slots 0 legacy no_job x (low_of n) (high_of n)
read_slots Reads.Header = bare 1 0 0 0
read_slots (Reads.Headers more) = bare 2 more 0 0
read_slots (Reads.Table minor plen ptp) = bare 3 minor plen ptp
read_slots (Reads.Before j) = with_job 4 j 0 0 0
read_slots (Reads.After j) = with_job 5 j 0 0 0
read_slots Reads.Id = bare 6 0 0 0
read_slots Reads.IdAgain = bare 7 0 0 0
read_slots Reads.Protected = bare 8 0 0 0

abbrev pub read_cases : Slots → List ReadCommand
read_cases s =
    Reads.Read s.flag s.a (wide_of s.b s.c)
    ∷ Reads.Header
    ∷ Reads.Headers (byte0 s.a)
    ∷ Reads.Table (byte0 s.a) (byte0 s.b) s.c
    ∷ Reads.Before s.job
    ∷ Reads.After s.job
    ∷ Reads.Id
    ∷ Reads.IdAgain
    ∷ []

unfoldable pub read_in : Slots → ReadCommand
read_in s = get_or (read_cases s) s.command Reads.Protected

unfoldable pub erase_slots : EraseCommand → Slots
erase_slots Erases.Chip = bare 0 0 0 0
erase_slots (Erases.Sectors at last) = bare 1 at last 0
erase_slots (Erases.Program j at) = with_job 2 j at 0 0

abbrev pub erase_cases : Slots → List EraseCommand
erase_cases s = Erases.Chip ∷ Erases.Sectors s.a s.b ∷ []

unfoldable pub erase_in : Slots → EraseCommand
erase_in s = get_or (erase_cases s) s.command (Erases.Program s.job s.a)

unfoldable pub write_slots : WriteCommand → Slots
write_slots (Writes.Program j to off) = with_job 0 j to off 0
write_slots (Writes.Data x to off) = bare 1 x to off

abbrev pub write_cases : Slots → List WriteCommand
write_cases s = Writes.Program s.job s.a s.b ∷ []

unfoldable pub write_in : Slots → WriteCommand
write_in s = get_or (write_cases s) s.command (Writes.Data s.a s.b s.c)

unfoldable pub verify_slots : VerifyCommand → Slots
verify_slots (Verifies.Compare j to) = with_job 0 j to 0 0
verify_slots (Verifies.Tell j m) = with_job 1 j m.address m.wrote m.read

abbrev pub verify_cases : Slots → List VerifyCommand
verify_cases s = Verifies.Compare s.job s.a ∷ []

unfoldable pub verify_in : Slots → VerifyCommand
verify_in s = get_or (verify_cases s) s.command (Verifies.Tell s.job (record { address = s.a; wrote = byte0 s.b; read = byte0 s.c }))

unfoldable pub reset_slots : ResetCommand → Slots
reset_slots Resets.Enable = bare 0 0 0 0
reset_slots Resets.Reset = bare 1 0 0 0
reset_slots Resets.F0 = bare 2 0 0 0

unfoldable pub reset_in : Slots → ResetCommand
reset_in s = get_or (Resets.Enable ∷ Resets.Reset ∷ []) s.command Resets.F0

-- ---- answers: a number for each case, and three numbers
abbrev pub reported : ℕ → ℕ → ℕ → ℕ → Reported
reported n x y z = record { answer = n; a = x; b = y; c = z }

unfoldable pub answer_numbers : Answer → Reported
answer_numbers Answers.Done = reported 0 0 0 0
answer_numbers (Answers.DoneBool b) = reported 1 (bit_of b) 0 0
answer_numbers (Answers.DoneId bank manufacturer device) = reported 2 bank manufacturer device
answer_numbers (Answers.ReadbackError x wrote read) = reported 3 x wrote read
answer_numbers Answers.InvalidManufacturer = reported 4 0 0 0
answer_numbers Answers.InvalidSFDPHeader = reported 5 0 0 0
answer_numbers Answers.InvalidSFDPParams = reported 6 0 0 0
answer_numbers (Answers.InvalidAddress report) = reported 7 report.last 0 0
answer_numbers Answers.NoResetInstruction = reported 8 0 0 0
answer_numbers Answers.NoEraseInstruction = reported 9 0 0 0
answer_numbers Answers.Access = reported 10 0 0 0
answer_numbers Answers.Busy = reported 11 0 0 0
answer_numbers Answers.BadSetting = reported 12 0 0 0
answer_numbers (Answers.NoRoom n) = reported 13 (low_of n) (high_of n) 0
answer_numbers Answers.NoSFDP = reported 14 0 0 0
answer_numbers Answers.BadSession = reported 15 0 0 0

abbrev pub answer_cases : Reported → List Answer
answer_cases n =
    Answers.Done
    ∷ Answers.DoneBool (flag_of n.a)
    ∷ Answers.DoneId (byte0 n.a) (byte0 n.b) (low_half n.c)
    ∷ Answers.ReadbackError n.a (byte0 n.b) (byte0 n.c)
    ∷ Answers.InvalidManufacturer
    ∷ Answers.InvalidSFDPHeader
    ∷ Answers.InvalidSFDPParams
    ∷ Answers.InvalidAddress (record { last = n.a })
    ∷ Answers.NoResetInstruction
    ∷ Answers.NoEraseInstruction
    ∷ Answers.Access
    ∷ Answers.Busy
    ∷ Answers.BadSetting
    ∷ Answers.NoRoom (wide_of n.a n.b)
    ∷ Answers.NoSFDP
    ∷ []

unfoldable pub answer_in : Reported → Answer
answer_in n = get_or (answer_cases n) n.answer Answers.BadSession

-- a command that ended, with its answer's numbers
unfoldable pub command_slots : Command → Reported → Slots
command_slots Commands.Other n = bare 0 n.a n.b n.c
command_slots (Commands.Program j read) n = slots 1 read j n.a n.b n.c

abbrev pub command_cases : Slots → List Command
command_cases s = Commands.Other ∷ []

unfoldable pub command_in : Slots → Command
command_in s = get_or (command_cases s) s.command (Commands.Program s.job s.flag)

-- ---- phases: a phase's number, its answer's number, whether the 06 was answered, the polls left, its command
abbrev pub place : ℕ → ℕ → Bool → ℕ → Slots → Place
place n answer enabled left s = record { phase = n; answer = answer; enabled = enabled; left = left; slots = s }

unfoldable pub poll_place : PollCommand → ℕ → Place
poll_place Polls.Once left = place 3 0 false left (bare 0 0 0 0)
poll_place (Polls.Erase c) left = place 4 0 false left (erase_slots c)
poll_place (Polls.Write c) left = place 5 0 false left (write_slots c)

unfoldable pub place_of : Phase → Place
place_of (Reading c) = place 0 0 false 0 (read_slots c)
place_of (Erasing c enabled) = place 1 0 enabled 0 (erase_slots c)
place_of (Writing c enabled) = place 2 0 enabled 0 (write_slots c)
place_of (Polling c left) = poll_place c left
place_of (Verifying c) = place 6 0 false 0 (verify_slots c)
place_of (Resetting c) = place 7 0 false 0 (reset_slots c)
place_of (Ended c a) = place 8 (answer_numbers a).answer false 0 (command_slots c (answer_numbers a))

-- the answer's numbers stand in its command's slots
abbrev pub numbers_in : Place → Reported
numbers_in p = reported p.answer p.slots.a p.slots.b p.slots.c

abbrev pub phase_cases : Place → List Phase
phase_cases p =
    Reading (read_in p.slots)
    ∷ Erasing (erase_in p.slots) p.enabled
    ∷ Writing (write_in p.slots) p.enabled
    ∷ Polling Polls.Once p.left
    ∷ Polling (Polls.Erase (erase_in p.slots)) p.left
    ∷ Polling (Polls.Write (write_in p.slots)) p.left
    ∷ Verifying (verify_in p.slots)
    ∷ Resetting (reset_in p.slots)
    ∷ []

unfoldable pub phase_in : Place → Phase
phase_in p = get_or (phase_cases p) p.phase (Ended (command_in p.slots) (answer_in (numbers_in p)))
