-- The erase types that a plan is made of: those of the parameters if any; else 4 KiB if it is supported and its opcode is not FF; else the erase
-- size setting. Sorted by size, opcode, time, an absent time first.
use Rattle.std.specs.Prelude.{ℕ, Bool, false, cond, ◌&&◌, not, eqb}
use Rattle.sfdp.specs.declared.FlashParams.{FlashParams}
use Rattle.sfdp.specs.declared.SFDPEraseInst.{SFDPEraseInst}
use Rattle.sfdp.specs.declared.SFDPEraseInsts.{SFDPEraseInsts}
use Rattle.settings.specs.declared.Settings.{Settings}
use Rattle.erase_plan.specs.declared.EraseType.{EraseType}
use Rattle.erase_plan.specs.declared.EraseTypes.{EraseTypes}
use Rattle.erase_plan.specs.Types.{no_type, four_of, sorted_of}

-- an erase instruction of the parameters, with its typical time
abbrev pub type_of : SFDPEraseInst → EraseType
type_of i = record { size = i.size; opcode = i.opcode; timed = i.timed; time = i.time_typ }

-- a single type, its time unknown
abbrev pub single : ℕ → ℕ → EraseTypes
single size opcode = four_of (record { size = size; opcode = opcode; timed = false; time = 0 }) no_type no_type no_type

-- those of the parameters, sorted
unfoldable pub of_params : SFDPEraseInsts → EraseTypes
of_params s = sorted_of (type_of s.inst1) (type_of s.inst2) (type_of s.inst3) (type_of s.inst4)

-- the parameters have no type where each of their four places has size 0
unfoldable pub all_zero : ℕ → ℕ → ℕ → ℕ → Bool
all_zero a b c d = eqb a 0 && (eqb b 0 && (eqb c 0 && eqb d 0))

abbrev pub no_insts : SFDPEraseInsts → Bool
no_insts s = all_zero s.inst1.size s.inst2.size s.inst3.size s.inst4.size

-- 4 KiB is usable if it is supported and its opcode is not FF
unfoldable pub usable_4k : FlashParams → Bool
usable_4k p = p.legacy_4kb_erase_supported && not (eqb p.legacy_4kb_erase_inst 0xFF)

-- the erase size setting, with the erase opcode; where it is not set there is no type
unfoldable pub of_settings : Settings → EraseTypes
of_settings s = cond (eqb s.erase_size 0) (four_of no_type no_type no_type no_type) (single s.erase_size s.erase_opcode)

-- those of the parameters if any, else 4 KiB, else the erase size setting (known: whether there are parameters)
unfoldable pub available : Settings → Bool → FlashParams → EraseTypes
available s known p =
    cond (known && not (no_insts p.erase_insts)) (of_params p.erase_insts)
    (cond (known && usable_4k p) (single 4096 p.legacy_4kb_erase_inst) (of_settings s))
