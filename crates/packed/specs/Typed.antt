-- The widths of a session: each number is below the width of its type in the code. A session without parameters holds the ones
-- that stand for none.
use Rattle.std.specs.Prelude.{ℕ, ◌<◌, ◌^◌, ◌≡◌, false, unwrap_or}
use Rattle.sfdp.specs.Jesd216.{no_params}
use Rattle.sfdp.specs.declared.SFDPEraseInst.{SFDPEraseInst}
use Rattle.sfdp.specs.declared.SFDPEraseInsts.{SFDPEraseInsts}
use Rattle.sfdp.specs.declared.SFDPTiming.{SFDPTiming}
use Rattle.sfdp.specs.declared.SFDPRawTimes.{SFDPRawTimes}
use Rattle.sfdp.specs.declared.FlashParams.{FlashParams}
use Rattle.settings.specs.declared.Settings.{Settings}
use Rattle.commands.specs.declared.Answer.{Answer}
use Rattle.commands.specs.declared.Answer.TheVariants as Answers
use Rattle.phases.specs.declared.Job.{Job}
use Rattle.phases.specs.declared.Mismatch.{Mismatch}
use Rattle.phases.specs.declared.ReadCommand.{ReadCommand}
use Rattle.phases.specs.declared.ReadCommand.TheVariants as Reads
use Rattle.phases.specs.declared.EraseCommand.{EraseCommand}
use Rattle.phases.specs.declared.EraseCommand.TheVariants as Erases
use Rattle.phases.specs.declared.WriteCommand.{WriteCommand}
use Rattle.phases.specs.declared.WriteCommand.TheVariants as Writes
use Rattle.phases.specs.declared.PollCommand.{PollCommand}
use Rattle.phases.specs.declared.PollCommand.TheVariants as Polls
use Rattle.phases.specs.declared.VerifyCommand.{VerifyCommand}
use Rattle.phases.specs.declared.VerifyCommand.TheVariants as Verifies
use Rattle.phases.specs.declared.Command.{Command}
use Rattle.phases.specs.declared.Command.TheVariants as Commands
use Rattle.phases.specs.declared.Phase.{Phase}
use Rattle.phases.specs.declared.Phase.TheVariants.{Reading, Erasing, Writing, Polling, Verifying, Resetting, Ended}
use Rattle.flash.specs.declared.Session.{Session}

-- the code's u8, u16, u32 and u64
abbrev pub U8 : ℕ → Type 0
U8 n = n < 2 ^ 8

abbrev pub U16 : ℕ → Type 0
U16 n = n < 2 ^ 16

abbrev pub U32 : ℕ → Type 0
U32 n = n < 2 ^ 32

abbrev pub U64 : ℕ → Type 0
U64 n = n < 2 ^ 64

-- ---- the settings
pub record TypedSettings (s : Settings) : Type 0 where
  pub address_bytes : U8 s.address_bytes
  pub capacity : U64 (unwrap_or s.capacity 0)
  pub page_size : U32 s.page_size
  pub erase_size : U32 s.erase_size
  pub erase_opcode : U8 s.erase_opcode
  pub poll_limit : U16 s.poll_limit

-- ---- the parameters
pub record TypedInst (i : SFDPEraseInst) : Type 0 where
  pub opcode : U8 i.opcode
  pub size : U32 i.size
  pub time_typ : U32 i.time_typ
  pub time_max : U64 i.time_max
  pub time_raw : U8 i.time_raw

pub record TypedInsts (i : SFDPEraseInsts) : Type 0 where
  pub inst1 : TypedInst i.inst1
  pub inst2 : TypedInst i.inst2
  pub inst3 : TypedInst i.inst3
  pub inst4 : TypedInst i.inst4

pub record TypedTiming (t : SFDPTiming) : Type 0 where
  pub chip_erase_time_typ : U32 t.chip_erase_time_typ
  pub chip_erase_time_max : U64 t.chip_erase_time_max
  pub first_byte_prog_time_typ : U32 t.first_byte_prog_time_typ
  pub first_byte_prog_time_max : U64 t.first_byte_prog_time_max
  pub succ_byte_prog_time_typ : U32 t.succ_byte_prog_time_typ
  pub succ_byte_prog_time_max : U64 t.succ_byte_prog_time_max
  pub page_prog_time_typ : U32 t.page_prog_time_typ
  pub page_prog_time_max : U64 t.page_prog_time_max

pub record TypedRaw (r : SFDPRawTimes) : Type 0 where
  pub erase_multiplier : U8 r.erase_multiplier
  pub prog_multiplier : U8 r.prog_multiplier
  pub chip_erase : U8 r.chip_erase
  pub first_byte_prog : U8 r.first_byte_prog
  pub succ_byte_prog : U8 r.succ_byte_prog
  pub page_prog : U8 r.page_prog

pub record TypedParams (p : FlashParams) : Type 0 where
  pub version_major : U8 p.version_major
  pub version_minor : U8 p.version_minor
  pub density : U64 p.density
  pub legacy_4kb_erase_inst : U8 p.legacy_4kb_erase_inst
  pub legacy_volatile_write_en_inst : U8 p.legacy_volatile_write_en_inst
  pub erase_insts : TypedInsts p.erase_insts
  pub timing : TypedTiming p.timing
  pub raw : TypedRaw p.raw
  pub page_size : U32 p.page_size

-- ---- the phase, by its cases
pub record TypedJob (j : Job) : Type 0 where
  pub from : U32 j.from
  pub last : U32 j.last
  pub base : U32 j.base
  pub top : U32 j.top

pub record TypedMismatch (m : Mismatch) : Type 0 where
  pub address : U32 m.address
  pub wrote : U8 m.wrote
  pub read : U8 m.read

abbrev pub TypedRead : ReadCommand → Type 0
TypedRead (Reads.Read legacy a n) = U32 a × U64 n
TypedRead Reads.Header = Unit {0}
TypedRead (Reads.Headers more) = U8 more
TypedRead (Reads.Table minor plen ptp) = U8 minor × U8 plen × U32 ptp
TypedRead (Reads.Before j) = TypedJob j
TypedRead (Reads.After j) = TypedJob j
TypedRead Reads.Id = Unit {0}
TypedRead Reads.IdAgain = Unit {0}
TypedRead Reads.Protected = Unit {0}

abbrev pub TypedErase : EraseCommand → Type 0
TypedErase Erases.Chip = Unit {0}
TypedErase (Erases.Sectors at last) = U32 at × U32 last
TypedErase (Erases.Program j at) = TypedJob j × U32 at

abbrev pub TypedWrite : WriteCommand → Type 0
TypedWrite (Writes.Program j to off) = TypedJob j × U32 to × U32 off
TypedWrite (Writes.Data a to off) = U32 a × U32 to × U32 off

abbrev pub TypedPoll : PollCommand → Type 0
TypedPoll Polls.Once = Unit {0}
TypedPoll (Polls.Erase c) = TypedErase c
TypedPoll (Polls.Write c) = TypedWrite c

abbrev pub TypedVerify : VerifyCommand → Type 0
TypedVerify (Verifies.Compare j to) = TypedJob j × U32 to
TypedVerify (Verifies.Tell j m) = TypedJob j × TypedMismatch m

abbrev pub TypedCommand : Command → Type 0
TypedCommand Commands.Other = Unit {0}
TypedCommand (Commands.Program j read) = TypedJob j

abbrev pub TypedAnswer : Answer → Type 0
TypedAnswer Answers.Done = Unit {0}
TypedAnswer (Answers.DoneBool b) = Unit {0}
TypedAnswer (Answers.DoneId bank manufacturer device) = U8 bank × U8 manufacturer × U16 device
TypedAnswer (Answers.ReadbackError a wrote read) = U32 a × U8 wrote × U8 read
TypedAnswer Answers.InvalidManufacturer = Unit {0}
TypedAnswer Answers.InvalidSFDPHeader = Unit {0}
TypedAnswer Answers.InvalidSFDPParams = Unit {0}
TypedAnswer (Answers.InvalidAddress report) = U32 report.last
TypedAnswer Answers.NoResetInstruction = Unit {0}
TypedAnswer Answers.NoEraseInstruction = Unit {0}
TypedAnswer Answers.Access = Unit {0}
TypedAnswer Answers.Busy = Unit {0}
TypedAnswer Answers.BadSetting = Unit {0}
TypedAnswer (Answers.NoRoom n) = U64 n
TypedAnswer Answers.NoSFDP = Unit {0}
TypedAnswer Answers.BadSession = Unit {0}

abbrev pub TypedPhase : Phase → Type 0
TypedPhase (Reading c) = TypedRead c
TypedPhase (Erasing c enabled) = TypedErase c
TypedPhase (Writing c enabled) = TypedWrite c
TypedPhase (Polling c left) = TypedPoll c × U16 left
TypedPhase (Verifying c) = TypedVerify c
TypedPhase (Resetting c) = Unit {0}
TypedPhase (Ended c a) = TypedCommand c × TypedAnswer a

-- ---- the session
pub record Typed (s : Session) : Type 0 where
  pub settings : TypedSettings s.settings
  pub params : TypedParams s.params
  pub none : s.known ≡ false → s.params ≡ no_params
  pub phase : TypedPhase s.phase
  pub polls : U64 s.polls
