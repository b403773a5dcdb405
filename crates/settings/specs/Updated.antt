-- What a successful read_params makes of the settings.
use Rattle.std.specs.Prelude.{ℕ, cond, not, ◌&&◌, ◌==◌, Option, Some, None}
use Rattle.std.specs.Option.{option_or}
use Rattle.sfdp.specs.Chosen.{capacity, sector_erase}
use Rattle.sfdp.specs.declared.FlashParams.{FlashParams}
use Rattle.sfdp.specs.declared.SFDPAddressBytes.{SFDPAddressBytes}
use Rattle.sfdp.specs.declared.SFDPAddressBytes.TheVariants as Address
use Rattle.sfdp.specs.declared.SectorErase.{SectorErase}
use Rattle.settings.specs.declared.Settings.{Settings}
use Rattle.settings.specs.Limits.{settings_of}

-- all but four set 3
abbrev pub address_bytes_of : SFDPAddressBytes → ℕ
address_bytes_of Address.Three = 3
address_bytes_of Address.ThreeOrFour = 3
address_bytes_of Address.Four = 4
address_bytes_of Address.Reserved = 3

-- 4 KiB if supported and its opcode is not FF
unfoldable pub legacy_erase : FlashParams → Option SectorErase
legacy_erase p =
    cond (p.legacy_4kb_erase_supported && not (p.legacy_4kb_erase_inst == 0xFF))
    (Some (record { size = 4096; opcode = p.legacy_4kb_erase_inst }))
    None

-- the smallest type, of one size the lowest opcode; else 4 KiB
unfoldable pub chosen_erase : FlashParams → Option SectorErase
chosen_erase p = option_or (sector_erase p.erase_insts) (legacy_erase p)

-- its size and opcode; else neither changes
abbrev pub size_or : ℕ → Option SectorErase → ℕ
size_or old (Some erase) = erase.size
size_or old None = old

abbrev pub opcode_or : ℕ → Option SectorErase → ℕ
opcode_or old (Some erase) = erase.opcode
opcode_or old None = old

unfoldable pub updated : Settings → FlashParams → Settings
updated s p =
    settings_of (address_bytes_of p.address_bytes) (Some (capacity p)) (cond p.jesd216a p.page_size s.page_size)
    (size_or s.erase_size (chosen_erase p)) (opcode_or s.erase_opcode (chosen_erase p)) s.poll_limit
