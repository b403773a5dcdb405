-- Which ranges of addresses are accepted. A sum here is a mathematical one: it never wraps.
use Rattle.std.specs.Prelude.{ℕ, ◌+◌, ◌-◌, ◌%◌, ◌^◌, min, Bool, true, cond, ◌&&◌, nat_le, Option, Some, None, Result, Ok, Err}
use Rattle.settings.specs.declared.Settings.{Settings}
use Rattle.settings.specs.declared.BadRange.{BadRange}

-- 256 to the power of the address bytes. The limits say 1 to 4; more, which no setter leaves, count as 4, so that
-- no record at all accepts a range past 2^32
abbrev pub reach : ℕ → ℕ
reach bytes = 256 ^ min bytes 4

-- at most the capacity where that is set
abbrev pub within_capacity : Option ℕ → ℕ → Bool
within_capacity None end = true
within_capacity (Some n) end = nat_le end n

abbrev pub capacity_allows : Settings → ℕ → Bool
capacity_allows s end = within_capacity s.capacity end

-- accepted exactly if the length is at least 1, address plus length is at most 256 to the power of the address
-- bytes, and at most the capacity where that is set
unfoldable pub accepted_range : Settings → ℕ → ℕ → Bool
accepted_range s address length = nat_le 1 length && (nat_le (address + length) (reach s.address_bytes) && capacity_allows s (address + length))

-- address + length - 1 modulo 2^32, where to subtract 1 is to add 2^32 - 1
unfoldable pub last_address : ℕ → ℕ → ℕ
last_address address length = (address + length + (2 ^ 32 - 1)) % 2 ^ 32

-- otherwise answer 5, which reports the last address
unfoldable pub check_address_length : Settings → ℕ → ℕ → Result (Unit {0}) BadRange
check_address_length s address length = cond (accepted_range s address length) (Ok tt) (Err (record { last = last_address address length }))
