-- That a part fits the settings: what each command may rely on when it starts. That it is idle at first is a fact on its state.
use Rattle.std.specs.Prelude.{◌≡◌, Bool, true, ◌||◌, ℕ, eqb, Some}
use Rattle.std.proofs.Math.Option.{some, none}
use Rattle.settings.specs.Limits.{page_of}
use Rattle.erase_plan.specs.declared.EraseType.{EraseType}
use Rattle.erase_plan.specs.Good.{Each, Mult}
use Rattle.commands.specs.Script.{Kept}
use Rattle.commands.specs.Transactions.{by_flag}
use Rattle.commands.specs.Commands.{types_of}
use Rattle.nor_model.specs.Device.{Part}

-- the other commands of the part
unfoldable pub other_command : ℕ → Bool
other_command op =
    eqb op 0x02 || (eqb op 0x03 || (eqb op 0x05 || (eqb op 0x06 || (eqb op 0x0B || (eqb op 0x5A || (eqb op 0x66 || (eqb op 0x70 ||
    (eqb op 0x99 || (eqb op 0x9F || (eqb op 0xC7 || eqb op 0xF0))))))))))

-- no erase opcode is one of them
abbrev pub Apart : Part → Type 0
Apart p = (op : ℕ) → other_command op ≡ true → p.erases op ≡ none

pub record Fits (p : Part) (w : Kept) : Type 0 where
  -- capacity set and equal
  pub capacity : w.settings.capacity ≡ Some p.capacity
  -- same address bytes
  pub addressed : w.settings.address_bytes ≡ p.addressed
  -- the driver's page divides its page
  pub page : Mult (page_of w.settings) p.page
  -- every opcode of the driver's types erases exactly that size
  pub types : Each (λ (t : EraseType). p.erases t.opcode ≡ some t.size) (types_of w)
  -- no erase opcode is one of the other commands
  pub apart : Apart p
  -- the poll chosen is one that it offers: 05 always is
  pub poll : by_flag w ≡ true → p.flagged ≡ true
