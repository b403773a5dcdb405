-- THE SESSION'S OWN RULE: what holds of each session that a start, a step or a setter hands back, as tests. Session bytes from
-- outside are accepted only if their session meets it (else 13).
use Rattle.std.specs.Prelude.{ℕ, ◌+◌, ◌-◌, ◌*◌, min, Bool, true, false, not, ◌&&◌, ◌||◌, List, [], ◌∷◌, eqb, ltb, leb, length}
use Rattle.settings.specs.declared.Settings.{Settings}
use Rattle.settings.specs.Ranges.{accepted_range}
use Rattle.commands.specs.declared.Answer.{Answer}
use Rattle.commands.specs.declared.Answer.TheVariants.{Done, DoneBool, DoneId, ReadbackError, InvalidManufacturer, InvalidSFDPHeader, InvalidSFDPParams, InvalidAddress, NoResetInstruction, NoEraseInstruction, Access, Busy, BadSetting, NoRoom, NoSFDP, BadSession}
use Rattle.phases.specs.declared.Job.{Job}
use Rattle.phases.specs.declared.ReadCommand.{ReadCommand}
use Rattle.phases.specs.declared.ReadCommand.TheVariants as Reads
use Rattle.phases.specs.declared.EraseCommand.{EraseCommand}
use Rattle.phases.specs.declared.EraseCommand.TheVariants as Erases
use Rattle.phases.specs.declared.WriteCommand.{WriteCommand}
use Rattle.phases.specs.declared.WriteCommand.TheVariants as Writes
use Rattle.phases.specs.declared.PollCommand.{PollCommand}
use Rattle.phases.specs.declared.PollCommand.TheVariants as Polls
use Rattle.phases.specs.declared.VerifyCommand.{VerifyCommand}
use Rattle.phases.specs.declared.VerifyCommand.TheVariants as Verifies
use Rattle.phases.specs.declared.ResetCommand.{ResetCommand}
use Rattle.phases.specs.declared.ResetCommand.TheVariants as Resets
use Rattle.phases.specs.declared.Command.{Command}
use Rattle.phases.specs.declared.Command.TheVariants as Ends
use Rattle.phases.specs.declared.Phase.{Phase}
use Rattle.phases.specs.declared.Phase.TheVariants.{Reading, Erasing, Writing, Polling, Verifying, Resetting, Ended}
use Rattle.flash.specs.declared.Session.{Session}
use Rattle.phases.specs.Waits.{span_of}
use Rattle.flash.specs.Waits.{types_of}

-- every test of a list holds
unfoldable pub all : List Bool → Bool
all [] = true
all (t ∷ []) = t
all (t ∷ u ∷ ts) = t && all (u ∷ ts)

-- ---- the settings are within their limits: address bytes 1 to 4, a page size of at most
-- 32,768, an erase size of at most 2,147,483,648, a poll limit of 1 to 65,535
unfoldable pub settings_rule : Settings → Bool
settings_rule s =
    all
    (leb 1 s.address_bytes
    ∷ leb s.address_bytes 4
    ∷ leb s.page_size 32768
    ∷ leb s.erase_size 2147483648
    ∷ leb s.poll_limit 65535
    ∷ leb 1 s.poll_limit
    ∷ [])

-- ---- a program's addresses: its span starts at or before its data, and ends with them or after them
unfoldable pub job_ordered : Job → Bool
job_ordered J = all (leb J.base J.from ∷ leb J.from J.last ∷ leb J.last J.top ∷ [])

-- while the program runs its span is an accepted range
unfoldable pub job_rule : Settings → Job → Bool
job_rule s J = all (job_ordered J ∷ accepted_range s J.base (span_of J) ∷ [])

-- until its plan is done there are erase types
unfoldable pub plan_rule : Settings → Bool → Job → Bool
plan_rule s types J = all (job_rule s J ∷ types ∷ [])

-- it writes its span up to the byte `to`: all the data, and nothing past the span
unfoldable pub written_rule : Settings → Job → ℕ → Bool
written_rule s J to = all (job_rule s J ∷ leb J.last (J.base + to) ∷ leb (J.base + to) J.top ∷ [])

-- a byte that differs, of a program that is verified, lies in the span
unfoldable pub differs_rule : Job → ℕ → ℕ → ℕ → Bool
differs_rule J address wrote read = all (J.verified ∷ not (eqb wrote read) ∷ leb J.base address ∷ leb address J.top ∷ [])

-- ---- reads. A table is told by two bytes of a reply, and a pointer of three of them
unfoldable pub table_rule : ℕ → ℕ → ℕ → Bool
table_rule minor plen ptp = all (ltb minor 256 ∷ ltb plen 256 ∷ ltb ptp 16777216 ∷ [])

-- types: whether there are erase types
unfoldable pub read_rule : Settings → Bool → ReadCommand → Bool
-- its range is accepted
read_rule s types (Reads.Read legacy a n) = accepted_range s a n
read_rule s types Reads.Header = true
-- a byte of a reply
read_rule s types (Reads.Headers more) = ltb more 256
read_rule s types (Reads.Table minor plen ptp) = table_rule minor plen ptp
-- there are bytes to read, before the data or after them
read_rule s types (Reads.Before J) = all (plan_rule s types J ∷ ltb J.base J.from ∷ [])
read_rule s types (Reads.After J) = all (plan_rule s types J ∷ ltb J.last J.top ∷ [])
read_rule s types Reads.Id = true
read_rule s types Reads.IdAgain = true
read_rule s types Reads.Protected = true

-- ---- erases: there are erase types; the position is in the range, and what is left of the range is accepted (so not empty)
unfoldable pub erase_rule : Settings → Bool → EraseCommand → Bool
erase_rule s types Erases.Chip = true
erase_rule s types (Erases.Sectors at last) = all (accepted_range s at (last + 1 - at) ∷ types ∷ [])
erase_rule s types (Erases.Program J at) = all (plan_rule s types J ∷ leb J.from at ∷ leb at J.last ∷ [])

-- ---- page writes, from the byte off on
unfoldable pub write_rule : Settings → WriteCommand → Bool
write_rule s (Writes.Program J to off) = all (written_rule s J to ∷ leb off to ∷ [])
write_rule s (Writes.Data a to off) = all (accepted_range s a (to + 1) ∷ leb off to ∷ [])

-- ---- polls: fewer than the poll limit may follow; none follows the one of is_busy
unfoldable pub poll_rule : Settings → Bool → PollCommand → ℕ → Bool
poll_rule s types Polls.Once left = eqb left 0
poll_rule s types (Polls.Erase c) left = all (erase_rule s types c ∷ ltb left s.poll_limit ∷ [])
poll_rule s types (Polls.Write c) left = all (write_rule s c ∷ ltb left s.poll_limit ∷ [])

-- ---- verify, of a program that is to be verified
unfoldable pub verify_rule : Settings → VerifyCommand → Bool
verify_rule s (Verifies.Compare J to) = all (J.verified ∷ written_rule s J to ∷ [])
verify_rule s (Verifies.Tell J m) = all (job_rule s J ∷ differs_rule J m.address m.wrote m.read ∷ [])

-- ---- reset: 66, 99 unless the parameters rule that out, else F0 if they allow it
unfoldable pub allows66 : Session → Bool
allows66 s = not (s.known && s.params.jesd216a) || s.params.reset_inst_66_99

unfoldable pub reset_rule : Session → ResetCommand → Bool
reset_rule s Resets.Enable = allows66 s
reset_rule s Resets.Reset = allows66 s
reset_rule s Resets.F0 = all (not (allows66 s) ∷ s.params.reset_inst_f0 ∷ [])

-- ---- the answer of a command that ended. No refusal of a start or a setter stands here (5, 6, 7, 10, 11, 13): a refused call
-- leaves the session as it was
unfoldable pub other_ends : Answer → Bool
other_ends Done = true
other_ends (DoneBool answer) = true
other_ends (DoneId bank manufacturer device) = true
other_ends (ReadbackError address wrote read) = false
other_ends InvalidManufacturer = true
other_ends InvalidSFDPHeader = true
other_ends InvalidSFDPParams = true
other_ends (InvalidAddress report) = false
other_ends NoResetInstruction = false
other_ends NoEraseInstruction = false
other_ends Access = true
other_ends Busy = true
other_ends BadSetting = false
other_ends (NoRoom need) = false
other_ends NoSFDP = true
other_ends BadSession = false

-- a program's: gathered says whether its reads had all come back; if they had not, the answer is Access
unfoldable pub program_ends : Job → Bool → Answer → Bool
program_ends J gathered Done = gathered
program_ends J gathered (DoneBool answer) = false
program_ends J gathered (DoneId bank manufacturer device) = false
program_ends J gathered (ReadbackError address wrote read) = all (gathered ∷ differs_rule J address wrote read ∷ [])
program_ends J gathered InvalidManufacturer = false
program_ends J gathered InvalidSFDPHeader = false
program_ends J gathered InvalidSFDPParams = false
program_ends J gathered (InvalidAddress report) = false
program_ends J gathered NoResetInstruction = false
program_ends J gathered NoEraseInstruction = false
program_ends J gathered Access = true
program_ends J gathered Busy = gathered
program_ends J gathered BadSetting = false
program_ends J gathered (NoRoom need) = false
program_ends J gathered NoSFDP = false
program_ends J gathered BadSession = false

-- its job is ordered; the settings may have changed since, so its span need not be accepted by them
unfoldable pub end_rule : Command → Answer → Bool
end_rule Ends.Other a = other_ends a
end_rule (Ends.Program J gathered) a = all (job_ordered J ∷ program_ends J gathered a ∷ [])

-- ---- the phase fits its command
abbrev pub has_types : Session → Bool
has_types s = ltb 0 (length (types_of s))

unfoldable pub phase_rule : Session → Phase → Bool
phase_rule s (Reading c) = read_rule s.settings (has_types s) c
phase_rule s (Erasing c enabled) = erase_rule s.settings (has_types s) c
phase_rule s (Writing c enabled) = write_rule s.settings c
phase_rule s (Polling c left) = poll_rule s.settings (has_types s) c left
phase_rule s (Verifying c) = verify_rule s.settings c
phase_rule s (Resetting c) = reset_rule s c
phase_rule s (Ended c a) = end_rule c a

-- ---- the polls so far: at most the limit for each entry and each page part that is behind. An entry covers an address of the
-- range or more, and a part a byte or more
unfoldable pub erases_behind : EraseCommand → ℕ
erases_behind Erases.Chip = 0
erases_behind (Erases.Sectors at last) = at
erases_behind (Erases.Program J at) = at - J.from

unfoldable pub writes_behind : WriteCommand → ℕ
writes_behind (Writes.Program J to off) = J.last + 1 - J.from + off
writes_behind (Writes.Data a to off) = off

-- all of a program's
unfoldable pub verifies_behind : VerifyCommand → ℕ
verifies_behind (Verifies.Compare J to) = J.last + 1 - J.from + span_of J
verifies_behind (Verifies.Tell J m) = J.last + 1 - J.from + span_of J

-- the polls of so many operations, of which there are never more than 2^33
unfoldable pub polls_of : ℕ → ℕ → ℕ
polls_of limit behind = min behind 8589934592 * limit

unfoldable pub polls_done : ℕ → ℕ → ℕ → Bool
polls_done polls limit behind = leb polls (polls_of limit behind)

-- and of one more operation, whose poll is waited on, and where so many may follow it
unfoldable pub polls_left : ℕ → ℕ → ℕ → ℕ → Bool
polls_left polls limit behind left = ltb polls (polls_of limit behind + (limit - left))

unfoldable pub wait_rule : ℕ → ℕ → PollCommand → ℕ → Bool
wait_rule polls limit Polls.Once left = eqb polls 0
wait_rule polls limit (Polls.Erase c) left = polls_left polls limit (erases_behind c) left
wait_rule polls limit (Polls.Write c) left = polls_left polls limit (writes_behind c) left

unfoldable pub polls_rule : ℕ → ℕ → Phase → Bool
polls_rule polls limit (Reading c) = eqb polls 0
polls_rule polls limit (Erasing c enabled) = polls_done polls limit (erases_behind c)
polls_rule polls limit (Writing c enabled) = polls_done polls limit (writes_behind c)
polls_rule polls limit (Polling c left) = wait_rule polls limit c left
polls_rule polls limit (Verifying c) = polls_done polls limit (verifies_behind c)
polls_rule polls limit (Resetting c) = eqb polls 0
-- the limit may have changed since: at most the largest one, for 2^33 operations and one more
polls_rule polls limit (Ended c a) = leb polls 562941363552255

-- THE RULE
unfoldable pub rule_of : Session → Bool
rule_of s = all (settings_rule s.settings ∷ phase_rule s s.phase ∷ polls_rule s.polls s.settings.poll_limit s.phase ∷ [])
