-- What the driver takes from the parameters: the capacity, and the smallest erase type.
use Rattle.std.specs.Prelude.{ℕ, ◌/◌, List, [], ◌∷◌, Bool, cond, ◌&&◌, ◌||◌, eqb, ltb, Option, Some, None}
use Rattle.sfdp.specs.declared.SFDPEraseInst.{SFDPEraseInst}
use Rattle.sfdp.specs.declared.SFDPEraseInsts.{SFDPEraseInsts}
use Rattle.sfdp.specs.declared.FlashParams.{FlashParams}
use Rattle.sfdp.specs.declared.SectorErase.{SectorErase}

-- density / 8 rounded down
abbrev pub capacity : FlashParams → ℕ
capacity p = p.density / 8

-- a place of the table without a type has size 0
abbrev pub missing : SFDPEraseInst → Bool
missing i = eqb i.size 0

-- smaller in size, or of one size with a lower opcode
unfoldable pub below : SFDPEraseInst → SFDPEraseInst → Bool
below a b = ltb a.size b.size || (eqb a.size b.size && ltb a.opcode b.opcode)

-- of a and b the one that is below; a missing one never counts
unfoldable pub lesser : SFDPEraseInst → SFDPEraseInst → SFDPEraseInst
lesser a b = cond (missing b) a (cond (missing a || below b a) b a)

abbrev pub listed : SFDPEraseInsts → List SFDPEraseInst
listed s = s.inst1 ∷ s.inst2 ∷ s.inst3 ∷ s.inst4 ∷ []

-- the smallest type, of one size the lowest opcode
unfoldable pub smallest : SFDPEraseInsts → SFDPEraseInst
smallest s = lesser (lesser (lesser s.inst1 s.inst2) s.inst3) s.inst4

-- its size and opcode
abbrev pub size_and_opcode : SFDPEraseInst → SectorErase
size_and_opcode i = record { size = i.size; opcode = i.opcode }

unfoldable pub sector_erase : SFDPEraseInsts → Option SectorErase
sector_erase s = cond (missing (smallest s)) None (Some (size_and_opcode (smallest s)))
