-- The settings of docs/SCOPE.md, Settings limits: defaults, limits, setters. A page size or erase size of 0 is one that is not set.
use Rattle.std.specs.Prelude.{ℕ, ◌≤◌, Bool, cond, ◌&&◌, ◌==◌, nat_le, Option, Some, None, Result, Ok, Err}
use Rattle.settings.specs.declared.Settings.{Settings}
use Rattle.settings.specs.declared.SettingError.{SettingError}
use Rattle.settings.specs.declared.SettingError.TheVariants.{BadSetting}

-- address bytes, the capacity if there is one, page size, erase size and opcode, poll limit
abbrev pub settings_of : ℕ → Option ℕ → (page size opcode polls : ℕ) → Settings
settings_of bytes capacity page size opcode polls = record {
  address_bytes = bytes;
  capacity = capacity;
  page_size = page;
  erase_size = size;
  erase_opcode = opcode;
  poll_limit = polls;
}

-- 3 address bytes, erase opcode 20, poll limit 65,535; no capacity, no page size, no erase size
abbrev pub defaults : Settings
defaults = settings_of 3 None 0 0 0x20 65535

-- ---- the settings with one of them changed, and no other
abbrev pub with_address_bytes : ℕ → Settings → Settings
with_address_bytes n s = settings_of n s.capacity s.page_size s.erase_size s.erase_opcode s.poll_limit

abbrev pub with_capacity : Option ℕ → Settings → Settings
with_capacity c s = settings_of s.address_bytes c s.page_size s.erase_size s.erase_opcode s.poll_limit

abbrev pub with_page_size : ℕ → Settings → Settings
with_page_size n s = settings_of s.address_bytes s.capacity n s.erase_size s.erase_opcode s.poll_limit

-- the erase size and the opcode
abbrev pub with_erase : ℕ → ℕ → Settings → Settings
with_erase size opcode s = settings_of s.address_bytes s.capacity s.page_size size opcode s.poll_limit

abbrev pub with_poll_limit : ℕ → Settings → Settings
with_poll_limit n s = settings_of s.address_bytes s.capacity s.page_size s.erase_size s.erase_opcode n

-- ---- the limits
-- from low to high, both included
unfoldable pub within : ℕ → ℕ → ℕ → Bool
within low high n = nat_le low n && nat_le n high

-- a number within its limits changes the settings; any other is answer 10, and nothing changes
abbrev pub limited : ℕ → ℕ → ℕ → Settings → Result Settings SettingError
limited low high n changed = cond (within low high n) (Ok changed) (Err BadSetting)

abbrev pub set_address_bytes : Settings → ℕ → Result Settings SettingError
set_address_bytes s n = limited 1 4 n (with_address_bytes n s)

abbrev pub set_page_size : Settings → ℕ → Result Settings SettingError
set_page_size s n = limited 1 32768 n (with_page_size n s)

abbrev pub set_erase_size : Settings → ℕ → Result Settings SettingError
set_erase_size s n = limited 1 2147483648 n (with_erase n s.erase_opcode s)

abbrev pub set_poll_limit : Settings → ℕ → Result Settings SettingError
set_poll_limit s n = limited 1 65535 n (with_poll_limit n s)

-- any 64-bit number, or unset
abbrev pub set_capacity : Settings → ℕ → Settings
set_capacity s n = with_capacity (Some n) s

abbrev pub clear_capacity : Settings → Settings
clear_capacity s = with_capacity None s

-- any byte
abbrev pub set_erase_opcode : Settings → ℕ → Settings
set_erase_opcode s n = with_erase s.erase_size n s

-- the page size, 256 if unset
unfoldable pub page_of : Settings → ℕ
page_of s = cond (s.page_size == 0) 256 s.page_size

-- settings within these limits. An opcode is any byte and a capacity any 64-bit number: their types say so
pub record Sound (s : Settings) : Type 0 where
  pub address : (1 ≤ s.address_bytes) × (s.address_bytes ≤ 4)
  pub page : s.page_size ≤ 32768
  pub erase : s.erase_size ≤ 2147483648
  pub polls : (1 ≤ s.poll_limit) × (s.poll_limit ≤ 65535)
