-- A step: what a session becomes when its transaction was answered.
use Rattle.std.specs.Prelude.{ℕ, ◌+◌, ◌%◌, ◌^◌, Bool, true, false, cond, not, ◌&&◌, List, eqb, ltb, length, Result, Ok, Err}
use Rattle.sfdp.specs.declared.FlashParams.{FlashParams}
use Rattle.sfdp.specs.declared.SFDPError.{SFDPError}
use Rattle.dwords.specs.Dwords.{byte_at}
use Rattle.sfdp.specs.Jesd216.{read_table}
use Rattle.settings.specs.Limits.{page_of}
use Rattle.settings.specs.Updated.{updated}
use Rattle.commands.specs.declared.Answer.{Answer}
use Rattle.commands.specs.declared.Answer.TheVariants.{Done, DoneBool, Access, NoRoom}
use Rattle.commands.specs.Transactions.{ready}
use Rattle.phases.specs.declared.ReadCommand.{ReadCommand}
use Rattle.phases.specs.declared.ReadCommand.TheVariants as Reads
use Rattle.phases.specs.declared.EraseCommand.{EraseCommand}
use Rattle.phases.specs.declared.EraseCommand.TheVariants as Erases
use Rattle.phases.specs.declared.WriteCommand.TheVariants as Writes
use Rattle.phases.specs.declared.PollCommand.{PollCommand}
use Rattle.phases.specs.declared.PollCommand.TheVariants as Polls
use Rattle.phases.specs.declared.Command.{Command}
use Rattle.phases.specs.declared.Command.TheVariants as Ends
use Rattle.phases.specs.declared.Phase.{Phase}
use Rattle.phases.specs.declared.Phase.TheVariants.{Reading, Erasing, Writing, Polling, Verifying, Resetting, Ended}
use Rattle.phases.specs.Waits.{need_of}
use Rattle.phases.specs.Moves.{after_read, ends_as, to_polls, last_written, next_erase, after_write, still_busy, verify_on, reset_on, room_after, is_ended}
use Rattle.flash.specs.declared.Session.{Session}
use Rattle.commands.specs.Answers.{refusal_of}
use Rattle.flash.specs.declared.Event.TheVariants.{Answered}
use Rattle.flash.specs.declared.Stepped.{Stepped}
use Rattle.flash.specs.Waits.{entry_for, flagged, waits_on, told, in_phase}

-- ---- how a session goes on, with n polls behind it: to another phase, or to the end
abbrev pub goes : Session → ℕ → Phase → Session
goes s n p = in_phase s p n

abbrev pub ends : Session → ℕ → Command → Answer → Session
ends s n c a = in_phase s (Ended c a) n

-- ---- a read's reply: a table gives new parameters, and settings by them
unfoldable pub with_table : Session → ℕ → Result FlashParams SFDPError → Session
with_table s n (Err e) = ends s n Ends.Other (refusal_of e)
with_table s n (Ok p) = record { settings = updated s.settings p; known = true; params = p; phase = Ended Ends.Other Done; polls = n }

unfoldable pub read_on : Session → ℕ → ReadCommand → List ℕ → Session
read_on s n (Reads.Read legacy a k) r = goes s n (after_read (Reads.Read legacy a k) r)
read_on s n Reads.Header r = goes s n (after_read Reads.Header r)
read_on s n (Reads.Headers more) r = goes s n (after_read (Reads.Headers more) r)
read_on s n (Reads.Table minor plen ptp) r = with_table s n (read_table minor plen r)
read_on s n (Reads.Before J) r = goes s n (after_read (Reads.Before J) r)
read_on s n (Reads.After J) r = goes s n (after_read (Reads.After J) r)
read_on s n Reads.Id r = goes s n (after_read Reads.Id r)
read_on s n Reads.IdAgain r = goes s n (after_read Reads.IdAgain r)
read_on s n Reads.Protected r = goes s n (after_read Reads.Protected r)

-- ---- an operation is done: the next one of the command, or what follows
unfoldable pub after_erase : Session → EraseCommand → List ℕ → Phase
after_erase s Erases.Chip room = Ended Ends.Other Done
after_erase s (Erases.Sectors at last) room = next_erase (entry_for s at last) last (λ p. Erasing (Erases.Sectors p last) false) (Ended Ends.Other Done)
after_erase s (Erases.Program J at) room =
    next_erase (entry_for s at J.last) J.last (λ p. Erasing (Erases.Program J p) false) (Writing (Writes.Program J (last_written J room) 0) false)

unfoldable pub after_polls : Session → PollCommand → List ℕ → Phase
after_polls s Polls.Once room = Ended Ends.Other (DoneBool false)
after_polls s (Polls.Erase c) room = after_erase s c room
after_polls s (Polls.Write c) room = after_write (page_of s.settings) c

unfoldable pub poll_on : Session → PollCommand → ℕ → List ℕ → List ℕ → Phase
poll_on s c left r room = cond (ready (flagged s) (byte_at r 0)) (after_polls s c room) (still_busy c left)

-- ---- the session after a full reply
unfoldable pub advanced : Session → ℕ → Phase → List ℕ → List ℕ → Session
advanced s n (Reading c) r room = read_on s n c r
advanced s n (Erasing c enabled) r room = goes s n (cond enabled (to_polls s.settings.poll_limit (Polls.Erase c)) (Erasing c true))
advanced s n (Writing c enabled) r room = goes s n (cond enabled (to_polls s.settings.poll_limit (Polls.Write c)) (Writing c true))
advanced s n (Polling c left) r room = goes s n (poll_on s c left r room)
advanced s n (Verifying c) r room = goes s n (verify_on c r room)
advanced s n (Resetting c) r room = goes s n (reset_on c)
advanced s n (Ended c a) r room = s

-- polls issued, the one that was waited on too
unfoldable pub counted : Session → ℕ
counted s = (s.polls + cond (waits_on s s.phase).poll 1 0) % 2 ^ 64

unfoldable pub is_full : Session → Bool → List ℕ → Bool
is_full s failed r = not failed && eqb (length r) (waits_on s s.phase).reply

-- ---- THE STEP. An ended command repeats its answer; room that is too short is 11 with the polls issued, the reply unused; a failure or
-- a reply of another length is 8; else the command goes on
pub record Taken : Type 0 where
  pub out : Stepped
  pub room : List ℕ

unfoldable pub step_of : Session → Bool → List ℕ → List ℕ → Taken
step_of s failed r room =
    cond (is_ended s.phase) (record { out = told s; room = room })
    (cond (ltb (length room) (need_of s.phase)) (record { out = record { session = s; event = Answered (NoRoom (need_of s.phase)) (counted s) }; room = room })
    (cond (is_full s failed r) (record { out = told (advanced s (counted s) s.phase r room); room = room_after s.phase r room })
    (record { out = told (ends s (counted s) (ends_as s.phase) Access); room = room })))
