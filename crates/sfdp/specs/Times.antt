-- The times of dwords 10 and 11, in µs: a count in the low bits, plus 1, times the unit that the bits above choose.
use Rattle.std.specs.Prelude.{ℕ, ◌+◌, ◌*◌, ◌/◌, ◌%◌, ◌^◌, List, [], ◌∷◌, get_or}

abbrev pub ms : ℕ → ℕ
ms n = 1000 * n

-- a time whose count has w bits
abbrev pub time_of : ℕ → List ℕ → ℕ → ℕ
time_of w units raw = (raw % 2 ^ w + 1) * get_or units (raw / 2 ^ w) 0

-- dword 10: an erase type
unfoldable pub erase_time : ℕ → ℕ
erase_time raw = time_of 5 (ms 1 ∷ ms 16 ∷ ms 128 ∷ ms 1000 ∷ []) raw

-- dword 11: a page, a byte, the chip
unfoldable pub page_time : ℕ → ℕ
page_time raw = time_of 5 (8 ∷ 64 ∷ []) raw

unfoldable pub byte_time : ℕ → ℕ
byte_time raw = time_of 4 (1 ∷ 8 ∷ []) raw

unfoldable pub chip_time : ℕ → ℕ
chip_time raw = time_of 5 (ms 16 ∷ ms 256 ∷ ms 4000 ∷ ms 64000 ∷ []) raw

-- every maximum: 2 × (multiplier + 1) × typical
abbrev pub maximum : ℕ → ℕ → ℕ
maximum multiplier typical = 2 * (multiplier + 1) * typical
