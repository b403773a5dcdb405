-- A worked run: one byte of program_data at 0, and a poll's reply that comes with no room. 11 with need 1 and the poll counted; the same
-- reply again, with the room, is Done with one poll.
use mathlib.Core.Path.{◌≡◌, refl}
use mathlib.Core.Bool.{true, false}
use mathlib.Core.List.{List, [], ◌∷◌}
use Prim.Native.Nat.{ℕ}
use Rattle.settings.specs.Limits.{page_of}
use Rattle.settings.specs.Ranges.{accepted_range}
use Rattle.dwords.specs.Dwords.{byte_at, bit}
use Rattle.commands.specs.declared.Answer.{Answer}
use Rattle.commands.specs.declared.Answer.TheVariants.{Done, NoRoom}
use Rattle.commands.specs.Script.{after, over, each}
use Rattle.commands.specs.Host.{tree, full, tally}
use Rattle.commands.specs.Wire.{high_first, wire}
use Rattle.commands.specs.Transactions.{page_delay, by_flag, ready, polls, to_page_end, parts_in, parts}
use Rattle.commands.specs.Commands.{program_data}
use Rattle.commands.specs.Calls.{ProgramData}
use Rattle.commands.specs.Leaves.{refused}
use Rattle.driver.specs.Driver.{Told, sends, answers, Turn, Starts, Steps, Seen, sees, first, scripts}

abbrev told : List (Seen Answer) → List (Told Answer)
told [] = []
told (x ∷ l) = x.told ∷ told l

abbrev run : List Turn
run = Starts (ProgramData 0 (5 ∷ [])) (0 ∷ []) 1 ∷ Steps false [] 1 ∷ Steps false [] 1 ∷ Steps false (0 ∷ []) 0 ∷ Steps false (0 ∷ []) 1 ∷ []

pub shows : told (sees scripts run (first scripts))
    ≡ sends (record { bytes = 0x06 ∷ []; reply = 0; poll = false; delay = 0 })
    ∷ sends (record { bytes = 0x02 ∷ 0 ∷ 0 ∷ 0 ∷ 5 ∷ []; reply = 0; poll = false; delay = 0 })
    ∷ sends (record { bytes = 0x05 ∷ []; reply = 1; poll = true; delay = 0 })
    ∷ answers (NoRoom 1) 1
    ∷ answers Done 1
    ∷ []
unfolding sees tree full tally after over each program_data accepted_range refused page_of page_delay by_flag ready polls to_page_end parts_in parts byte_at high_first wire
shows = refl
