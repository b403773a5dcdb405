-- What a session waits on: the transaction of each phase, and what the host is told.
use Rattle.std.specs.Prelude.{ℕ, ◌+◌, ◌/◌, Bool, true, false, cond, ◌&&◌, List, ltb, Option}
use Rattle.erase_plan.specs.declared.EraseType.{EraseType}
use Rattle.erase_plan.specs.declared.NextEntry.{NextEntry}
use Rattle.erase_plan.specs.Types.{present}
use Rattle.erase_plan.specs.Plan.{next_of}
use Rattle.plans.specs.Available.{available}
use Rattle.phases.specs.declared.EraseCommand.{EraseCommand}
use Rattle.phases.specs.declared.EraseCommand.TheVariants as Erases
use Rattle.phases.specs.declared.Phase.{Phase}
use Rattle.phases.specs.declared.Phase.TheVariants.{Reading, Erasing, Writing, Polling, Verifying, Resetting, Ended}
use Rattle.phases.specs.declared.Transaction.{Transaction}
use Rattle.phases.specs.Waits.{bare, read_tx, block_tx, write_tx, verify_tx, reset_tx}
use Rattle.flash.specs.declared.Session.{Session}
use Rattle.flash.specs.declared.Event.{Event}
use Rattle.flash.specs.declared.Event.TheVariants.{Send, Answered}
use Rattle.flash.specs.declared.Stepped.{Stepped}

-- ---- the plan's entry at a position of a range, if there is one
abbrev pub types_of : Session → List EraseType
types_of s = present (available s.settings s.known s.params)

unfoldable pub entry_for : Session → ℕ → ℕ → Option NextEntry
entry_for s at last = next_of (types_of s) at (last + 1)

unfoldable pub erase_tx : Session → EraseCommand → Transaction
erase_tx s Erases.Chip = bare 0xC7 0
erase_tx s (Erases.Sectors at last) = block_tx s.settings.address_bytes (entry_for s at last)
erase_tx s (Erases.Program J at) = block_tx s.settings.address_bytes (entry_for s at J.last)

-- ---- the pause after a page write: half the page time, if that time is known and above 1,000 µs
unfoldable pub page_pause : Session → ℕ
page_pause s =
    cond (s.known && s.params.jesd216a && ltb 1000 s.params.timing.page_prog_time_typ) (s.params.timing.page_prog_time_typ / 2) 0

-- ---- polls
unfoldable pub flagged : Session → Bool
flagged s = s.known && s.params.busy_poll_flag

unfoldable pub poll_tx : Session → Transaction
poll_tx s = record { opcode = cond (flagged s) 0x70 0x05; addressed = 0; address = 0; dummy = false; from = 0; len = 0; reply = 1; poll = true; delay = 0 }

-- ---- what a phase waits on; an ended one waits on nothing
unfoldable pub waits_on : Session → Phase → Transaction
waits_on s (Reading c) = read_tx s.settings c
waits_on s (Erasing c enabled) = cond enabled (erase_tx s c) (bare 0x06 0)
waits_on s (Writing c enabled) = cond enabled (write_tx s.settings (page_pause s) c) (bare 0x06 0)
waits_on s (Polling c left) = poll_tx s
waits_on s (Verifying c) = verify_tx s.settings.address_bytes c
waits_on s (Resetting c) = reset_tx c
waits_on s (Ended c a) = bare 0 0

-- ---- what the host is told of a session: its answer with the polls, or the transaction that it waits on
unfoldable pub event_of : Session → Phase → Event
event_of s (Reading c) = Send (waits_on s (Reading c))
event_of s (Erasing c enabled) = Send (waits_on s (Erasing c enabled))
event_of s (Writing c enabled) = Send (waits_on s (Writing c enabled))
event_of s (Polling c left) = Send (waits_on s (Polling c left))
event_of s (Verifying c) = Send (waits_on s (Verifying c))
event_of s (Resetting c) = Send (waits_on s (Resetting c))
event_of s (Ended c a) = Answered a s.polls

unfoldable pub told : Session → Stepped
told s = record { session = s; event = event_of s s.phase }

-- a session in another phase, with so many polls
abbrev pub in_phase : Session → Phase → ℕ → Session
in_phase s p n = record { settings = s.settings; known = s.known; params = s.params; phase = p; polls = n }
