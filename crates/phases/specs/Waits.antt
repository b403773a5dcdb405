-- What a phase waits on, as far as no session is needed: the transaction of each command, and the room that a command needs.
use Rattle.std.specs.Prelude.{ℕ, ◌+◌, ◌-◌, ◌*◌, ◌/◌, ◌%◌, ◌^◌, min, Bool, true, false, cond, ◌==◌, Some, None, Option}
use Rattle.settings.specs.declared.Settings.{Settings}
use Rattle.settings.specs.Limits.{page_of}
use Rattle.erase_plan.specs.declared.NextEntry.{NextEntry}
use Rattle.phases.specs.declared.Job.{Job}
use Rattle.phases.specs.declared.ReadCommand.{ReadCommand}
use Rattle.phases.specs.declared.ReadCommand.TheVariants as Reads
use Rattle.phases.specs.declared.EraseCommand.{EraseCommand}
use Rattle.phases.specs.declared.EraseCommand.TheVariants as Erases
use Rattle.phases.specs.declared.WriteCommand.{WriteCommand}
use Rattle.phases.specs.declared.WriteCommand.TheVariants as Writes
use Rattle.phases.specs.declared.PollCommand.{PollCommand}
use Rattle.phases.specs.declared.PollCommand.TheVariants as Polls
use Rattle.phases.specs.declared.VerifyCommand.{VerifyCommand}
use Rattle.phases.specs.declared.VerifyCommand.TheVariants as Verifies
use Rattle.phases.specs.declared.ResetCommand.{ResetCommand}
use Rattle.phases.specs.declared.ResetCommand.TheVariants as Resets
use Rattle.phases.specs.declared.Phase.{Phase}
use Rattle.phases.specs.declared.Phase.TheVariants.{Reading, Erasing, Writing, Polling, Verifying, Resetting, Ended}
use Rattle.phases.specs.declared.Transaction.{Transaction}

-- ---- transactions: a command byte and a reply length; with an address in so many bytes, and a dummy or none
abbrev pub bare : ℕ → ℕ → Transaction
bare op n = record { opcode = op; addressed = 0; address = 0; dummy = false; from = 0; len = 0; reply = n; poll = false; delay = 0 }

abbrev pub addressed : ℕ → ℕ → ℕ → Bool → ℕ → Transaction
addressed op bytes a dummy n = record { opcode = op; addressed = bytes; address = a; dummy = dummy; from = 0; len = 0; reply = n; poll = false; delay = 0 }

unfoldable pub read_tx : Settings → ReadCommand → Transaction
read_tx s (Reads.Read legacy a n) = cond legacy (addressed 0x03 s.address_bytes a false n) (addressed 0x0B s.address_bytes a true n)
read_tx s Reads.Header = addressed 0x5A 3 0 true 8
read_tx s (Reads.Headers more) = addressed 0x5A 3 0 true (16 + 8 * more)
read_tx s (Reads.Table minor plen ptp) = addressed 0x5A 3 ptp true (4 * plen)
read_tx s (Reads.Before J) = addressed 0x0B s.address_bytes J.base true (J.from - J.base)
read_tx s (Reads.After J) = addressed 0x0B s.address_bytes ((J.last + 1) % 2 ^ 32) true (J.top - J.last)
read_tx s Reads.Id = bare 0x9F 3
read_tx s Reads.IdAgain = bare 0x9F 16
read_tx s Reads.Protected = bare 0x05 1

-- ---- a plan's entry, if there is one
unfoldable pub block_tx : ℕ → Option NextEntry → Transaction
block_tx bytes None = addressed 0 bytes 0 false 0
block_tx bytes (Some e) = record {
  opcode = e.entry.opcode;
  addressed = bytes;
  address = e.entry.base;
  dummy = false;
  from = 0;
  len = 0;
  reply = 0;
  poll = false;
  delay = cond (e.entry.timed == 1) (e.entry.time / 2) 0;
}

-- ---- a page part: of the room's bytes for address a, from byte off on, to the page's end or to the byte `to`; its last byte
unfoldable pub part_last : ℕ → ℕ → ℕ → ℕ → ℕ
part_last page a off to = min (off + (page - (a + off) % page) - 1) to

-- the part as a transaction, with a pause after it
unfoldable pub page_tx : Settings → ℕ → ℕ → ℕ → ℕ → Transaction
page_tx s pause a to off = record {
  opcode = 0x02;
  addressed = s.address_bytes;
  address = (a + off) % 2 ^ 32;
  dummy = false;
  from = off;
  len = part_last (page_of s) a off to + 1 - off;
  reply = 0;
  poll = false;
  delay = pause;
}

unfoldable pub write_tx : Settings → ℕ → WriteCommand → Transaction
write_tx s pause (Writes.Program J to off) = page_tx s pause J.base to off
write_tx s pause (Writes.Data a to off) = page_tx s pause a to off

-- ---- a readback, and a reset
unfoldable pub verify_tx : ℕ → VerifyCommand → Transaction
verify_tx bytes (Verifies.Compare J to) = addressed 0x0B bytes J.base true (to + 1)
verify_tx bytes (Verifies.Tell J m) = bare 0x05 1

unfoldable pub reset_tx : ResetCommand → Transaction
reset_tx Resets.Enable = bare 0x66 0
reset_tx Resets.Reset = bare 0x99 0
reset_tx Resets.F0 = bare 0xF0 0

-- ---- of a phase: whether it waits on a poll, and how many bytes it asks for, which is the same by all settings
unfoldable pub is_poll : Phase → Bool
is_poll (Reading c) = false
is_poll (Erasing c enabled) = false
is_poll (Writing c enabled) = false
is_poll (Polling c left) = true
is_poll (Verifying c) = false
is_poll (Resetting c) = false
is_poll (Ended c a) = false

unfoldable pub reply_of : Settings → Phase → ℕ
reply_of s (Reading c) = (read_tx s c).reply
reply_of s (Erasing c enabled) = 0
reply_of s (Writing c enabled) = 0
reply_of s (Polling c left) = 1
reply_of s (Verifying c) = (verify_tx s.address_bytes c).reply
reply_of s (Resetting c) = 0
reply_of s (Ended c a) = 0

-- ---- the room that a command needs, the same at each of its steps
abbrev pub span_of : Job → ℕ
span_of J = J.top + 1 - J.base

unfoldable pub read_need : ReadCommand → ℕ
read_need (Reads.Read legacy a n) = n
read_need Reads.Header = 2056
read_need (Reads.Headers more) = 2056
read_need (Reads.Table minor plen ptp) = 2056
read_need (Reads.Before J) = span_of J
read_need (Reads.After J) = span_of J
read_need Reads.Id = 0
read_need Reads.IdAgain = 0
read_need Reads.Protected = 0

unfoldable pub erase_need : EraseCommand → ℕ
erase_need Erases.Chip = 0
erase_need (Erases.Sectors at last) = 0
erase_need (Erases.Program J at) = span_of J

unfoldable pub write_need : WriteCommand → ℕ
write_need (Writes.Program J to off) = span_of J
write_need (Writes.Data a to off) = to + 1

unfoldable pub poll_need : PollCommand → ℕ
poll_need Polls.Once = 0
poll_need (Polls.Erase c) = erase_need c
poll_need (Polls.Write c) = write_need c

unfoldable pub verify_need : VerifyCommand → ℕ
verify_need (Verifies.Compare J to) = span_of J
verify_need (Verifies.Tell J m) = span_of J

unfoldable pub need_of : Phase → ℕ
need_of (Reading c) = read_need c
need_of (Erasing c enabled) = erase_need c
need_of (Writing c enabled) = write_need c
need_of (Polling c left) = poll_need c
need_of (Verifying c) = verify_need c
need_of (Resetting c) = 0
need_of (Ended c a) = 0
