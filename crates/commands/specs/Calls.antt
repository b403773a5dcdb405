-- The commands with their arguments, as one type.
use Rattle.std.specs.Prelude.{Bool, List, ℕ}
use Rattle.commands.specs.declared.Answer.{Answer}
use Rattle.commands.specs.Script.{Cmd}
use Rattle.commands.specs.Commands.{read, legacy_read, read_params, erase, erase_sectors, program, program_data, reset, read_jedec_id, is_busy, is_protected}

pub data Call : Type 0 where
  Read : ℕ → ℕ → Call
  LegacyRead : ℕ → ℕ → Call
  ReadParams : Call
  Erase : Call
  EraseSectors : ℕ → ℕ → Call
  Program : ℕ → List ℕ → Bool → Call
  ProgramData : ℕ → List ℕ → Call
  Reset : Call
  ReadJedecId : Call
  IsBusy : Call
  IsProtected : Call

-- what each means
abbrev pub script : Call → Cmd Answer
script (Read a n) w = read a n w
script (LegacyRead a n) w = legacy_read a n w
script ReadParams w = read_params w
script Erase w = erase w
script (EraseSectors a n) w = erase_sectors a n w
script (Program a d v) w = program a d v w
script (ProgramData a d) w = program_data a d w
script Reset w = reset w
script ReadJedecId w = read_jedec_id w
script IsBusy w = is_busy w
script IsProtected w = is_protected w
