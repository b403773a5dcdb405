-- A step keeps the need of its command, whatever the reply; an ended command repeats its answer.
use Rattle.std.proofs.Common.{Some, None, Option, Result, Ok, Err}
use mathlib.Core.Path.{◌≡◌, refl, sym, ap, ◌∙◌}
use mathlib.Core.Bool.{Bool, true, false, cond}
use mathlib.Core.List.{List}
use Prim.Native.Nat.{ℕ, ◌+◌, ◌-◌, ◌<◌}
use lib.Dec.{eqb, ltb}
use lib.ListN.{length, take}
use borrow.Author.Tests.{lt-ltb}
use Rattle.sfdp.specs.declared.FlashParams.{FlashParams}
use Rattle.sfdp.specs.declared.SFDPParameterHeader.{SFDPParameterHeader}
use Rattle.sfdp.specs.declared.SFDPError.{SFDPError}
use Rattle.dwords.specs.Dwords.{byte_at}
use Rattle.sfdp.specs.Jesd216.{read_header, read_table}
use Rattle.settings.specs.Limits.{page_of}
use Rattle.erase_plan.specs.declared.NextEntry.{NextEntry}
use Rattle.erase_plan.proofs.Lists.{by_cond, no_true, no_false}
use Rattle.commands.specs.declared.Answer.TheVariants.{Access, Busy, NoRoom}
use Rattle.commands.specs.Commands.{id_at}
use Rattle.commands.specs.Transactions.{ready}
use Rattle.phases.specs.declared.Job.{Job}
use Rattle.phases.specs.declared.Mismatch.{Mismatch}
use Rattle.phases.specs.declared.ReadCommand.{ReadCommand}
use Rattle.phases.specs.declared.ReadCommand.TheVariants as Reads
use Rattle.phases.specs.declared.EraseCommand.{EraseCommand}
use Rattle.phases.specs.declared.EraseCommand.TheVariants as Erases
use Rattle.phases.specs.declared.WriteCommand.{WriteCommand}
use Rattle.phases.specs.declared.WriteCommand.TheVariants as Writes
use Rattle.phases.specs.declared.PollCommand.{PollCommand}
use Rattle.phases.specs.declared.PollCommand.TheVariants as Polls
use Rattle.phases.specs.declared.VerifyCommand.{VerifyCommand}
use Rattle.phases.specs.declared.VerifyCommand.TheVariants as Verifies
use Rattle.phases.specs.declared.ResetCommand.{ResetCommand}
use Rattle.phases.specs.declared.ResetCommand.TheVariants as Resets
use Rattle.phases.specs.declared.Command.TheVariants as Ends
use Rattle.phases.specs.declared.Phase.{Phase}
use Rattle.phases.specs.declared.Phase.TheVariants.{Reading, Erasing, Writing, Polling, Verifying, Resetting, Ended}
use Rattle.flash.specs.declared.Session.{Session}
use Rattle.phases.specs.declared.Transaction.{Transaction}
use Rattle.flash.specs.declared.Event.TheVariants.{Send}
use Rattle.flash.specs.Waits.{entry_for, flagged, told}
use Rattle.phases.specs.Waits.{part_last, span_of, read_need, erase_need, write_need, poll_need, verify_need, need_of}
use Rattle.flash.specs.Steps.{goes, ends, with_table, read_on, after_erase, after_polls, poll_on, advanced, counted, is_full, Taken, step_of}
use Rattle.phases.specs.Moves.{to_after, with_header, after_read, ends_as, poll_ends, to_polls, next_erase, next_write, to_verify, after_write, still_busy, first_differs, judged, verify_on, reset_on, room_after, is_ended}
use Rattle.meaning.specs.Meaning.{Idle}
use Rattle.on_part.specs.Between.{Runs, stays}
use Rattle.on_part.proofs.Resting.{is_answer, told_rests}

-- ---- a phase that has ended, or needs so much room
abbrev Still : ℕ → Phase → Type 0
Still n p = is_ended p ≡ false → need_of p ≡ n

by_still : (n : ℕ) (b : Bool) (p q : Phase) → Still n p → Still n q → Still n (cond b p q)
by_still n b p q f g = by_cond (λ (x : Phase). Still n x) b p q (λ t. f) (λ t. g)

-- ---- after a read
after_still : (J : Job) → Still (span_of J) (to_after J)
unfolding to_after need_of read_need erase_need
after_still J = by_still (span_of J) (ltb J.last J.top) _ _ (λ e. refl) (λ e. refl)

header_still : (h : Result SFDPParameterHeader SFDPError) → Still 2056 (with_header h)
unfolding with_header need_of read_need is_ended
header_still (Err x) e = no_false e
header_still (Ok h) e = refl

table_still : (s : Session) (n : ℕ) (t : Result FlashParams SFDPError) → Still 2056 (with_table s n t).phase
unfolding with_table is_ended
table_still s n (Err x) e = no_false e
table_still s n (Ok p) e = no_false e

-- the ID is asked for again, or told
id_still : (r : List ℕ) → Still 0 (after_read Reads.Id r)
unfolding after_read need_of read_need is_ended
id_still r = by_still 0 (eqb (byte_at r 0) 0x7F) (Reading Reads.IdAgain) (Ended Ends.Other (id_at 0 r)) (λ e. refl) (λ e. no_false e)

read_still : (s : Session) (n : ℕ) (c : ReadCommand) (r : List ℕ) → Still (read_need c) (read_on s n c r).phase
unfolding read_on after_read need_of read_need erase_need is_ended
read_still s n (Reads.Read legacy a k) r e = no_false e
read_still s n Reads.Header r e = refl
read_still s n (Reads.Headers more) r e = header_still (read_header r) e
read_still s n (Reads.Table minor plen ptp) r e = table_still s n (read_table minor plen r) e
read_still s n (Reads.Before J) r e = after_still J e
read_still s n (Reads.After J) r e = refl
read_still s n Reads.Id r e = id_still r e
read_still s n Reads.IdAgain r e = no_false e
read_still s n Reads.Protected r e = no_false e

-- ---- after an operation's polls
next_still : (n : ℕ) (x : Option NextEntry) (last : ℕ) (on : ℕ → Phase) (over' : Phase) → ((p : ℕ) → Still n (on p)) → Still n over' → Still n (next_erase x last on over')
unfolding next_erase
next_still n None last on over' f g = g
next_still n (Some x) last on over' f g = by_still n (ltb x.stop last) (on (x.stop + 1)) over' (f (x.stop + 1)) g

erased_still : (s : Session) (c : EraseCommand) (room : List ℕ) → Still (erase_need c) (after_erase s c room)
unfolding after_erase need_of erase_need write_need is_ended
erased_still s Erases.Chip room = λ e. no_false e
erased_still s (Erases.Sectors at last) room = next_still 0 (entry_for s at last) last _ _ (λ p e. refl) (λ e. no_false e)
erased_still s (Erases.Program J at) room = next_still (span_of J) (entry_for s at J.last) J.last _ _ (λ p e. refl) (λ e. refl)

verify_still : (J : Job) (to : ℕ) → Still (span_of J) (to_verify J to)
unfolding to_verify need_of verify_need is_ended
verify_still J to = by_still (span_of J) J.verified _ _ (λ e. refl) (λ e. no_false e)

written_still : (page : ℕ) (c : WriteCommand) → Still (write_need c) (after_write page c)
unfolding after_write next_write need_of write_need is_ended
written_still page (Writes.Program J to off) = by_still (span_of J) (ltb (part_last page J.base off to) to) _ _ (λ e. refl) (verify_still J to)
written_still page (Writes.Data a to off) = by_still (to + 1) (ltb (part_last page a off to) to) _ _ (λ e. refl) (λ e. no_false e)

polled_still : (s : Session) (c : PollCommand) (room : List ℕ) → Still (poll_need c) (after_polls s c room)
unfolding after_polls poll_need is_ended
polled_still s Polls.Once room = λ e. no_false e
polled_still s (Polls.Erase c) room = erased_still s c room
polled_still s (Polls.Write c) room = written_still (page_of s.settings) c

busy_still : (c : PollCommand) (left : ℕ) → Still (poll_need c) (still_busy c left)
unfolding still_busy need_of poll_need is_ended
busy_still Polls.Once left = λ e. no_false e
busy_still (Polls.Erase c) left = by_still (erase_need c) (eqb left 0) _ _ (λ e. no_false e) (λ e. refl)
busy_still (Polls.Write c) left = by_still (write_need c) (eqb left 0) _ _ (λ e. no_false e) (λ e. refl)

poll_still : (s : Session) (c : PollCommand) (left : ℕ) (r room : List ℕ) → Still (poll_need c) (poll_on s c left r room)
unfolding poll_on
poll_still s c left r room = by_still (poll_need c) (ready (flagged s) (byte_at r 0)) _ _ (polled_still s c room) (busy_still c left)

polls_still : (limit : ℕ) (c : PollCommand) → Still (poll_need c) (to_polls limit c)
unfolding to_polls need_of is_ended
polls_still limit c = by_still (poll_need c) (eqb limit 0) _ _ (λ e. no_false e) (λ e. refl)

-- ---- after the others
judged_still : (J : Job) (m : Option Mismatch) → Still (span_of J) (judged J m)
unfolding judged need_of verify_need is_ended
judged_still J None e = no_false e
judged_still J (Some m) e = refl

verified_still : (c : VerifyCommand) (r room : List ℕ) → Still (verify_need c) (verify_on c r room)
unfolding verify_on verify_need is_ended
verified_still (Verifies.Compare J to) r room = judged_still J (first_differs J.base 0 (take (to + 1) room) r)
verified_still (Verifies.Tell J m) r room = λ e. no_false e

reset_still : (c : ResetCommand) → Still 0 (reset_on c)
unfolding reset_on need_of is_ended
reset_still Resets.Enable e = refl
reset_still Resets.Reset e = no_false e
reset_still Resets.F0 e = no_false e

enabled_still : (limit : ℕ) (b : Bool) (c : PollCommand) (q : Phase) → Still (poll_need c) q → Still (poll_need c) (cond b (to_polls limit c) q)
enabled_still limit b c q g = by_still (poll_need c) b (to_polls limit c) q (polls_still limit c) g

phase_still : (s : Session) (n : ℕ) (p : Phase) (r room : List ℕ) → is_ended p ≡ false → Still (need_of p) (advanced s n p r room).phase
unfolding advanced need_of poll_need is_ended
phase_still s n (Reading c) r room h = read_still s n c r
phase_still s n (Erasing c enabled) r room h = enabled_still s.settings.poll_limit enabled (Polls.Erase c) (Erasing c true) (λ e. refl)
phase_still s n (Writing c enabled) r room h = enabled_still s.settings.poll_limit enabled (Polls.Write c) (Writing c true) (λ e. refl)
phase_still s n (Polling c left) r room h = poll_still s c left r room
phase_still s n (Verifying c) r room h = verified_still c r room
phase_still s n (Resetting c) r room h = reset_still c
phase_still s n (Ended c a) r room h = no_false h

-- ---- what is told of a session that goes on
told_needs : (s : Session) (n : ℕ) → Still n s.phase → (t : Transaction) → (told s).event ≡ Send t → need_of (told s).session.phase ≡ n
unfolding told
told_needs s n g t h = g (told_rests s ∙ ap is_answer h)

pub ended_step : (s : Session) (failed : Bool) (reply room : List ℕ) → Idle s → step_of s failed reply room ≡ record { out = told s; room = room }
unfolding step_of
ended_step s failed reply room i = rw i

pub short_step : (s : Session) (failed : Bool) (reply room : List ℕ) → Runs s → length room < need_of s.phase
    → step_of s failed reply room ≡ stays s room (NoRoom (need_of s.phase)) (counted s)
unfolding step_of
short_step s failed reply room h l = rw (h, lt-ltb (length room) (need_of s.phase) l)

-- ---- a step: what it needs to go on, and that it repeats an answer
module _ (s : Session) (failed : Bool) (reply room : List ℕ) where
  abbrev full : Session
  full = advanced s (counted s) s.phase reply room

  abbrev failing : Session
  failing = ends s (counted s) (ends_as s.phase) Access

  -- of each of the four ways of a step
  abbrev each_way : (Taken → Type 0) → Type 0
  each_way P =
      (is_ended s.phase ≡ true → P (record { out = told s; room = room })) → (Runs s → P (stays s room (NoRoom (need_of s.phase)) (counted s)))
      → (Runs s → P (record { out = told full; room = room_after s.phase reply room })) → (Runs s → P (record { out = told failing; room = room }))
      → P (step_of s failed reply room)

  ways : (P : Taken → Type 0) → each_way P
  unfolding step_of
  ways P f g h k =
      by_cond P (is_ended s.phase) _ _ f
      (λ e. by_cond P (ltb (length room) (need_of s.phase)) _ _ (λ t. g e) (λ t. by_cond P (is_full s failed reply) _ _ (λ t. h e) (λ t. k e)))

  abbrev Keeps : Taken → Type 0
  Keeps x = (t : Transaction) → x.out.event ≡ Send t → need_of x.out.session.phase ≡ need_of s.phase

  pub step_needs : Runs s → Keeps (step_of s failed reply room)
  unfolding is_ended
  step_needs h =
      ways (λ (x : Taken). Keeps x) (λ e. no_true (sym h ∙ e)) (λ e t q. no_false (ap is_answer q))
      (λ e. told_needs full (need_of s.phase) (phase_still s (counted s) s.phase reply room h))
      (λ e. told_needs failing (need_of s.phase) (λ q. no_false q))

  module _ (failed' : Bool) (reply' room' : List ℕ) where
    abbrev Repeats : Taken → Type 0
    Repeats x = Idle x.out.session → step_of x.out.session failed' reply' room' ≡ record { out = x.out; room = room' }

    told_repeats : (y : Session) (w : List ℕ) → Repeats (record { out = told y; room = w })
    unfolding told
    told_repeats y w i = ended_step y failed' reply' room' i

    pub step_repeats : Repeats (step_of s failed reply room)
    step_repeats =
        ways (λ (x : Taken). Repeats x) (λ e. told_repeats s room) (λ e i. no_true (sym e ∙ i)) (λ e. told_repeats full (room_after s.phase reply room))
        (λ e. told_repeats failing room)
