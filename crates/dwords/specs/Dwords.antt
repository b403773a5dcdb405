-- Bytes, dwords and bit fields, numbered as in JESD216: dword 1 is the first of a table, bit 31 the highest of a dword.
use Rattle.std.specs.Prelude.{ℕ, ◌+◌, ◌-◌, ◌*◌, ◌/◌, ◌%◌, ◌^◌, List, Bool, get_or, eqb}

-- byte i of a list; one that is not there reads as FF, as erased flash does
unfoldable pub byte_at : List ℕ → ℕ → ℕ
byte_at l i = get_or l i 255

-- the little-endian number of the four bytes from i on
unfoldable pub le32 : List ℕ → ℕ → ℕ
le32 l i = byte_at l i + 256 * (byte_at l (i + 1) + 256 * (byte_at l (i + 2) + 256 * byte_at l (i + 3)))

-- dword n of a table, the first being dword 1
abbrev pub dword : List ℕ → ℕ → ℕ
dword t n = le32 t (4 * (n - 1))

-- bits hi:lo of a number
abbrev pub bits : ℕ → ℕ → ℕ → ℕ
bits d hi lo = d / 2 ^ lo % 2 ^ (hi - lo + 1)

-- whether bit k is set
abbrev pub bit : ℕ → ℕ → Bool
bit d k = eqb (bits d k k) 1
