-- The settings' record of moss_flash_settings, read as include/moss_flash.h says.
use Rattle.std.specs.Prelude.{◌≡◌, Bool, cond, not, List, [], ℕ, ◌≤◌, eqb, length, Some, None, unwrap_or}
use Rattle.settings.specs.declared.Settings.{Settings}
use Rattle.erase_plan.specs.Good.{Each}
use Rattle.commands.specs.Script.{Kept}
use Rattle.commands.specs.Transactions.{by_flag}
use Rattle.phases.specs.Moves.{is_ended}
use Rattle.flash.specs.declared.Session.{Session}
use Rattle.meaning.specs.Meaning.{kept_of}
use Rattle.moss_flash.specs.Calls.{unpack_of, settings_called}
use Rattle.driver.specs.Driver.{Turn, Typed, first, reached}
use Rattle.driver.specs.Demand3.{after}
use Rattle.exported.specs.Exports.{number_at, exports}

-- what C reads there: the settings, the number that stands in the capacity's place, whether there are parameters, whether polls go by flag status, whether a command runs, the density
pub record Told : Type 0 where
  pub settings : Settings
  pub capacity : ℕ
  pub known : Bool
  pub by_flags : Bool
  pub runs : Bool
  pub density : ℕ

abbrev pub told_in : List ℕ → Told
told_in e = record {
  settings = record {
    address_bytes = number_at 0 1 e;
    capacity = cond (eqb (number_at 1 1 e) 1) (Some (number_at 8 8 e)) None;
    page_size = number_at 16 4 e;
    erase_size = number_at 20 4 e;
    erase_opcode = number_at 2 1 e;
    poll_limit = number_at 4 2 e;
  };
  capacity = number_at 8 8 e;
  known = eqb (number_at 3 1 e) 1;
  by_flags = eqb (number_at 6 1 e) 1;
  runs = eqb (number_at 7 1 e) 1;
  density = number_at 24 8 e;
}

-- what is to stand there; a capacity that there is not, and a density that is not known, is 0
abbrev pub told_of : Kept → Bool → Told
told_of w runs = record { settings = w.settings; capacity = unwrap_or w.settings.capacity 0; known = w.known; by_flags = by_flag w; runs = runs; density = cond w.known w.params.density 0 }

-- whatever a host has done before
abbrev pub SettingsShown : Type 0
SettingsShown =
    (e : List ℕ) → 64 ≤ length e → (ts : List Turn) → Each Typed ts → (out : List ℕ) → 32 ≤ length out
    → told_in (settings_called (unpack_of (reached (exports e) ts (first (exports e))).held) out).event ≡ told_of (kept_of (after ts) []) (not (is_ended (after ts).phase))
