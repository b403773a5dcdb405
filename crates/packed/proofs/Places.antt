-- A phase whose numbers are read back is the phase; and its numbers fit their words.
use Prim.Native.Nat.{ℕ}
use native.Mathlib.Omega.{arith}
use native.Mathlib.Nat.{mod-eq_of_lt}
use mathlib.Core.Path.{◌≡◌, refl, ap, ◌∙◌}
use mathlib.Core.Bool.{Bool, true, false}
use Rattle.sfdp.specs.Jesd216.{no_type}
use Rattle.commands.specs.declared.Answer.{Answer}
use Rattle.commands.specs.declared.Answer.TheVariants as Answers
use Rattle.phases.specs.declared.Job.{Job}
use Rattle.phases.specs.declared.ReadCommand.{ReadCommand}
use Rattle.phases.specs.declared.ReadCommand.TheVariants as Reads
use Rattle.phases.specs.declared.EraseCommand.{EraseCommand}
use Rattle.phases.specs.declared.EraseCommand.TheVariants as Erases
use Rattle.phases.specs.declared.WriteCommand.{WriteCommand}
use Rattle.phases.specs.declared.WriteCommand.TheVariants as Writes
use Rattle.phases.specs.declared.PollCommand.{PollCommand}
use Rattle.phases.specs.declared.PollCommand.TheVariants as Polls
use Rattle.phases.specs.declared.VerifyCommand.{VerifyCommand}
use Rattle.phases.specs.declared.VerifyCommand.TheVariants as Verifies
use Rattle.phases.specs.declared.ResetCommand.{ResetCommand}
use Rattle.phases.specs.declared.ResetCommand.TheVariants as Resets
use Rattle.phases.specs.declared.Command.{Command}
use Rattle.phases.specs.declared.Command.TheVariants as Commands
use Rattle.phases.specs.declared.Phase.{Phase}
use Rattle.phases.specs.declared.Phase.TheVariants.{Reading, Erasing, Writing, Polling, Verifying, Resetting, Ended}
use Rattle.packed.specs.declared.Reported.{Reported}
use Rattle.packed.specs.declared.Slots.{Slots}
use Rattle.packed.specs.declared.Place.{Place}
use Rattle.packed.specs.Numbers.{word, byte0, low_half, bit_of, flag_of, low_of, high_of, wide_of}
use Rattle.packed.specs.Phases.{no_job, slots, read_slots, read_in, erase_slots, erase_in, write_slots, write_in, verify_slots, verify_in, reset_slots, reset_in, answer_numbers, answer_in, command_slots, command_in, poll_place, place_of, numbers_in, phase_in}
use Rattle.packed.specs.Typed.{U8, U16, U32, U64, TypedInst, TypedJob, TypedRead, TypedErase, TypedWrite, TypedPoll, TypedVerify, TypedCommand, TypedAnswer, TypedPhase}

-- ---- marks and numbers
pub flag_bit : (b : Bool) → flag_of (bit_of b) ≡ b
flag_bit true = refl
flag_bit false = refl

pub wide_halves : (n : ℕ) → wide_of (low_of n) (high_of n) ≡ n
wide_halves n = omega arith

pub byte_self : (n : ℕ) → U8 n → byte0 n ≡ n
byte_self n h = mod-eq_of_lt h

pub half_self : (n : ℕ) → U16 n → low_half n ≡ n
half_self n h = mod-eq_of_lt h

pub word_fits : (a b c d : ℕ) → U8 a → U8 b → U8 c → U8 d → U32 (word a b c d)
word_fits a b c d ha hb hc hd = omega arith

-- ---- what is 0
pub none8 : U8 0
none8 = omega arith

pub none32 : U32 0
none32 = omega arith

pub none64 : U64 0
none64 = omega arith

pub inst_none : TypedInst no_type
inst_none = record { opcode = none8; size = none32; time_typ = none32; time_max = none64; time_raw = none8 }

-- ---- commands and answers, there and back
read_back : (c : ReadCommand) → TypedRead c → read_in (read_slots c) ≡ c
unfolding read_in read_slots
read_back (Reads.Read legacy x n) t = λ i. Reads.Read legacy x (wide_halves n i)
read_back Reads.Header t = refl
read_back (Reads.Headers more) t = λ i. Reads.Headers (byte_self more t i)
read_back (Reads.Table minor plen ptp) t = λ i. Reads.Table (byte_self minor t.0 i) (byte_self plen t.1 i) ptp
read_back (Reads.Before j) t = refl
read_back (Reads.After j) t = refl
read_back Reads.Id t = refl
read_back Reads.IdAgain t = refl
read_back Reads.Protected t = refl

erase_back : (c : EraseCommand) → erase_in (erase_slots c) ≡ c
unfolding erase_in erase_slots
erase_back Erases.Chip = refl
erase_back (Erases.Sectors at last) = refl
erase_back (Erases.Program j at) = refl

write_back : (c : WriteCommand) → write_in (write_slots c) ≡ c
unfolding write_in write_slots
write_back (Writes.Program j to off) = refl
write_back (Writes.Data x to off) = refl

verify_back : (c : VerifyCommand) → TypedVerify c → verify_in (verify_slots c) ≡ c
unfolding verify_in verify_slots
verify_back (Verifies.Compare j to) t = refl
verify_back (Verifies.Tell j m) t =
    λ i. Verifies.Tell j (record { address = m.address; wrote = byte_self m.wrote t.1.wrote i; read = byte_self m.read t.1.read i })

reset_back : (c : ResetCommand) → reset_in (reset_slots c) ≡ c
unfolding reset_in reset_slots
reset_back Resets.Enable = refl
reset_back Resets.Reset = refl
reset_back Resets.F0 = refl

answer_back : (a : Answer) → TypedAnswer a → answer_in (answer_numbers a) ≡ a
unfolding answer_in answer_numbers
answer_back Answers.Done t = refl
answer_back (Answers.DoneBool b) t = ap Answers.DoneBool (flag_bit b)
answer_back (Answers.DoneId bank manufacturer device) t =
    λ i. Answers.DoneId (byte_self bank t.0 i) (byte_self manufacturer t.1 i) (half_self device t.2 i)
answer_back (Answers.ReadbackError x wrote read) t = λ i. Answers.ReadbackError x (byte_self wrote t.1 i) (byte_self read t.2 i)
answer_back Answers.InvalidManufacturer t = refl
answer_back Answers.InvalidSFDPHeader t = refl
answer_back Answers.InvalidSFDPParams t = refl
answer_back (Answers.InvalidAddress report) t = refl
answer_back Answers.NoResetInstruction t = refl
answer_back Answers.NoEraseInstruction t = refl
answer_back Answers.Access t = refl
answer_back Answers.Busy t = refl
answer_back Answers.BadSetting t = refl
answer_back (Answers.NoRoom n) t = ap Answers.NoRoom (wide_halves n)
answer_back Answers.NoSFDP t = refl
answer_back Answers.BadSession t = refl

command_back : (c : Command) (n : Reported) → command_in (command_slots c n) ≡ c
unfolding command_in command_slots
command_back Commands.Other n = refl
command_back (Commands.Program j read) n = refl

-- a command's slots keep its answer's numbers
command_keeps : (c : Command) (n : Reported) → numbers_in (record { phase = 8; answer = n.answer; enabled = false; left = 0; slots = command_slots c n }) ≡ n
unfolding command_slots
command_keeps Commands.Other n = refl
command_keeps (Commands.Program j read) n = refl

-- ---- phases
ended_back : (c : Command) (a : Answer) → TypedAnswer a → phase_in (place_of (Ended c a)) ≡ Ended c a
unfolding phase_in place_of
ended_back c a t = λ i. Ended (command_back c (answer_numbers a) i) ((ap answer_in (command_keeps c (answer_numbers a)) ∙ answer_back a t) i)

poll_back : (c : PollCommand) (left : ℕ) → phase_in (poll_place c left) ≡ Polling c left
unfolding phase_in poll_place
poll_back Polls.Once left = refl
poll_back (Polls.Erase c) left = λ i. Polling (Polls.Erase (erase_back c i)) left
poll_back (Polls.Write c) left = λ i. Polling (Polls.Write (write_back c i)) left

pub phase_back : (p : Phase) → TypedPhase p → phase_in (place_of p) ≡ p
unfolding phase_in place_of
phase_back (Reading c) t = ap Reading (read_back c t)
phase_back (Erasing c enabled) t = λ i. Erasing (erase_back c i) enabled
phase_back (Writing c enabled) t = λ i. Writing (write_back c i) enabled
phase_back (Polling c left) t = poll_back c left
phase_back (Verifying c) t = ap Verifying (verify_back c t)
phase_back (Resetting c) t = ap Resetting (reset_back c)
phase_back (Ended c a) t = ended_back c a t.1

-- ---- the numbers fit their words
pub record FitsSlots (s : Slots) : Type 0 where
  pub command : U8 s.command
  pub job : TypedJob s.job
  pub a : U32 s.a
  pub b : U32 s.b
  pub c : U32 s.c

pub record FitsPlace (p : Place) : Type 0 where
  pub phase : U8 p.phase
  pub answer : U8 p.answer
  pub left : U16 p.left
  pub slots : FitsSlots p.slots

pub record FitsReported (n : Reported) : Type 0 where
  pub answer : U8 n.answer
  pub a : U32 n.a
  pub b : U32 n.b
  pub c : U32 n.c

no_job_typed : TypedJob no_job
no_job_typed = record { from = omega arith; last = omega arith; base = omega arith; top = omega arith }

pub low_fits : (n : ℕ) → U32 (low_of n)
low_fits n = omega arith

pub high_fits : (n : ℕ) → U64 n → U32 (high_of n)
high_fits n h = omega arith

pub bit_fits : (b : Bool) → U8 (bit_of b)
bit_fits true = omega arith
bit_fits false = omega arith

-- a byte, and a half, in a word
byte_fits : (n : ℕ) → U8 n → U32 n
byte_fits n h = omega arith

half_fits : (n : ℕ) → U16 n → U32 n
half_fits n h = omega arith

none_fits : U32 0
none_fits = omega arith

fits : {n : ℕ} {f : Bool} {j : Job} {x y z : ℕ} → U8 n → TypedJob j → U32 x → U32 y → U32 z → FitsSlots (slots n f j x y z)
fits hn hj hx hy hz = record { command = hn; job = hj; a = hx; b = hy; c = hz }

read_fits : (c : ReadCommand) → TypedRead c → FitsSlots (read_slots c)
unfolding read_slots
read_fits (Reads.Read legacy x n) t = fits (omega arith) no_job_typed t.0 (low_fits n) (high_fits n t.1)
read_fits Reads.Header t = fits (omega arith) no_job_typed none_fits none_fits none_fits
read_fits (Reads.Headers more) t = fits (omega arith) no_job_typed (byte_fits more t) none_fits none_fits
read_fits (Reads.Table minor plen ptp) t = fits (omega arith) no_job_typed (byte_fits minor t.0) (byte_fits plen t.1) t.2
read_fits (Reads.Before j) t = fits (omega arith) t none_fits none_fits none_fits
read_fits (Reads.After j) t = fits (omega arith) t none_fits none_fits none_fits
read_fits Reads.Id t = fits (omega arith) no_job_typed none_fits none_fits none_fits
read_fits Reads.IdAgain t = fits (omega arith) no_job_typed none_fits none_fits none_fits
read_fits Reads.Protected t = fits (omega arith) no_job_typed none_fits none_fits none_fits

erase_fits : (c : EraseCommand) → TypedErase c → FitsSlots (erase_slots c)
unfolding erase_slots
erase_fits Erases.Chip t = fits (omega arith) no_job_typed none_fits none_fits none_fits
erase_fits (Erases.Sectors at last) t = fits (omega arith) no_job_typed t.0 t.1 none_fits
erase_fits (Erases.Program j at) t = fits (omega arith) t.0 t.1 none_fits none_fits

write_fits : (c : WriteCommand) → TypedWrite c → FitsSlots (write_slots c)
unfolding write_slots
write_fits (Writes.Program j to off) t = fits (omega arith) t.0 t.1 t.2 none_fits
write_fits (Writes.Data x to off) t = fits (omega arith) no_job_typed t.0 t.1 t.2

verify_fits : (c : VerifyCommand) → TypedVerify c → FitsSlots (verify_slots c)
unfolding verify_slots
verify_fits (Verifies.Compare j to) t = fits (omega arith) t.0 t.1 none_fits none_fits
verify_fits (Verifies.Tell j m) t = fits (omega arith) t.0 t.1.address (byte_fits m.wrote t.1.wrote) (byte_fits m.read t.1.read)

reset_fits : (c : ResetCommand) → FitsSlots (reset_slots c)
unfolding reset_slots
reset_fits Resets.Enable = fits (omega arith) no_job_typed none_fits none_fits none_fits
reset_fits Resets.Reset = fits (omega arith) no_job_typed none_fits none_fits none_fits
reset_fits Resets.F0 = fits (omega arith) no_job_typed none_fits none_fits none_fits

bare_fits : {n : ℕ} → U8 n → FitsReported (record { answer = n; a = 0; b = 0; c = 0 })
bare_fits h = record { answer = h; a = none_fits; b = none_fits; c = none_fits }

answer_fits : (a : Answer) → TypedAnswer a → FitsReported (answer_numbers a)
unfolding answer_numbers
answer_fits Answers.Done t = bare_fits (omega arith)
answer_fits (Answers.DoneBool b) t = record { answer = omega arith; a = byte_fits (bit_of b) (bit_fits b); b = none_fits; c = none_fits }
answer_fits (Answers.DoneId bank manufacturer device) t = record { answer = omega arith; a = byte_fits bank t.0; b = byte_fits manufacturer t.1; c = half_fits device t.2 }
answer_fits (Answers.ReadbackError x wrote read) t = record { answer = omega arith; a = t.0; b = byte_fits wrote t.1; c = byte_fits read t.2 }
answer_fits Answers.InvalidManufacturer t = bare_fits (omega arith)
answer_fits Answers.InvalidSFDPHeader t = bare_fits (omega arith)
answer_fits Answers.InvalidSFDPParams t = bare_fits (omega arith)
answer_fits (Answers.InvalidAddress report) t = record { answer = omega arith; a = t; b = none_fits; c = none_fits }
answer_fits Answers.NoResetInstruction t = bare_fits (omega arith)
answer_fits Answers.NoEraseInstruction t = bare_fits (omega arith)
answer_fits Answers.Access t = bare_fits (omega arith)
answer_fits Answers.Busy t = bare_fits (omega arith)
answer_fits Answers.BadSetting t = bare_fits (omega arith)
answer_fits (Answers.NoRoom n) t = record { answer = omega arith; a = low_fits n; b = high_fits n t; c = none_fits }
answer_fits Answers.NoSFDP t = bare_fits (omega arith)
answer_fits Answers.BadSession t = bare_fits (omega arith)

command_fits : (c : Command) (n : Reported) → TypedCommand c → FitsReported n → FitsSlots (command_slots c n)
unfolding command_slots
command_fits Commands.Other n t h = fits (omega arith) no_job_typed h.a h.b h.c
command_fits (Commands.Program j read) n t h = fits (omega arith) t h.a h.b h.c

at_place : {n : ℕ} {enabled : Bool} {left : ℕ} {s : Slots} → U8 n → U16 left → FitsSlots s
    → FitsPlace (record { phase = n; answer = 0; enabled = enabled; left = left; slots = s })
at_place hn hl hs = record { phase = hn; answer = omega arith; left = hl; slots = hs }

poll_fits : (c : PollCommand) (left : ℕ) → TypedPoll c → U16 left → FitsPlace (poll_place c left)
unfolding poll_place
poll_fits Polls.Once left t h = at_place (omega arith) h (fits (omega arith) no_job_typed none_fits none_fits none_fits)
poll_fits (Polls.Erase c) left t h = at_place (omega arith) h (erase_fits c t)
poll_fits (Polls.Write c) left t h = at_place (omega arith) h (write_fits c t)

pub place_fits : (p : Phase) → TypedPhase p → FitsPlace (place_of p)
unfolding place_of
place_fits (Reading c) t = at_place (omega arith) (omega arith) (read_fits c t)
place_fits (Erasing c enabled) t = at_place (omega arith) (omega arith) (erase_fits c t)
place_fits (Writing c enabled) t = at_place (omega arith) (omega arith) (write_fits c t)
place_fits (Polling c left) t = poll_fits c left t.0 t.1
place_fits (Verifying c) t = at_place (omega arith) (omega arith) (verify_fits c t)
place_fits (Resetting c) t = at_place (omega arith) (omega arith) (reset_fits c)
place_fits (Ended c a) t = record { phase = omega arith; answer = (answer_fits a t.1).answer; left = omega arith; slots = command_fits c (answer_numbers a) t.0 (answer_fits a t.1) }
