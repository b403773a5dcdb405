-- The number of each answer (docs/SCOPE.md, Answer numbers).
use Rattle.std.specs.Prelude.{ℕ}
use Rattle.sfdp.specs.declared.SFDPError.{SFDPError}
use Rattle.sfdp.specs.declared.SFDPError.TheVariants as Refusal
use Rattle.commands.specs.declared.Answer.{Answer}
use Rattle.commands.specs.declared.Answer.TheVariants.{Done, DoneBool, DoneId, ReadbackError, InvalidManufacturer, InvalidSFDPHeader, InvalidSFDPParams, InvalidAddress, NoResetInstruction, NoEraseInstruction, Access, Busy, BadSetting, NoRoom, NoSFDP, BadSession}

abbrev pub number_of : Answer → ℕ
number_of Done = 0
number_of (DoneBool yes?) = 0
number_of (DoneId bank manufacturer device) = 0
number_of (ReadbackError address wrote read) = 1
number_of InvalidManufacturer = 2
number_of InvalidSFDPHeader = 3
number_of InvalidSFDPParams = 4
number_of (InvalidAddress report) = 5
number_of NoResetInstruction = 6
number_of NoEraseInstruction = 7
number_of Access = 8
number_of Busy = 9
number_of BadSetting = 10
number_of (NoRoom need) = 11
number_of NoSFDP = 12
number_of BadSession = 13

-- the answer to an SFDP area that is refused
abbrev pub refusal_of : SFDPError → Answer
refusal_of Refusal.NoSFDP = NoSFDP
refusal_of Refusal.InvalidSFDPHeader = InvalidSFDPHeader
refusal_of Refusal.InvalidSFDPParams = InvalidSFDPParams
