-- The exports for C are the driver over bytes, of which demand 3 is proved (crates/over_bytes): statements.
use Rattle.std.specs.Prelude.{ℕ, ◌≤◌, ◌≡◌, Bool, List, length}
use Rattle.commands.specs.Calls.{Call}
use Rattle.flash.specs.Steps.{step_of}
use Rattle.on_part.specs.OnPart.{start_of}
use Rattle.over_bytes.specs.OverBytes.{Back, start_bytes, step_bytes}
use Rattle.moss_flash.specs.Calls.{opened_of, opened_start, called, Called, number_in}

-- a call of an export gives what the driver over bytes hands back: the event's number, the session's bytes and the lent room
pub record As (y : Called) (x : Back) : Type 0 where
  pub number : y.number ≡ number_in x.event
  pub session : y.session ≡ x.bytes
  pub room : y.room ≡ x.room

-- with room for the event record, whatever the session's bytes: the step, and each start. (`called` with these arguments is what the
-- promises of moss_flash_step and of the starts name)
pub record Exported : Type 0 where
  pub steps : (b e r room : List ℕ) (failed : Bool) → 64 ≤ length e
      → As (called (opened_of b (length e)) b e room (λ s. step_of s failed r room)) (step_bytes b failed r room)
  pub starts : (c : Call) (b e room : List ℕ) → 64 ≤ length e
      → As (called (opened_start b (length e)) b e room (λ s. start_of c s room)) (start_bytes c b room)
