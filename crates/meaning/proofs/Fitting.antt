-- What a step hands back: a session that fits, that needs no more room, and a room as long as before.
use Rattle.std.proofs.Common.{Some, None, Option, Result, Ok as Read, Err as Unread}
use mathlib.Core.Path.{◌≡◌, refl}
use mathlib.Core.Bool.{true, false, cond}
use mathlib.Core.List.{List}
use Prim.Native.Nat.{ℕ, ◌+◌, ◌-◌, ◌≤◌, ◌<◌}
use native.Mathlib.Omega.{arith}
use lib.Dec.{eqb, ltb, leb}
use lib.ListN.{length, take, drop, length-append, length-take, length-drop}
use borrow.Author.Tests.{ltb-true, leb-true}
use Rattle.sfdp.specs.declared.FlashParams.{FlashParams}
use Rattle.sfdp.specs.declared.SFDPParameterHeader.{SFDPParameterHeader}
use Rattle.sfdp.specs.declared.SFDPError.{SFDPError}
use Rattle.sfdp.specs.declared.SFDPError.TheVariants as Refusal
use Rattle.dwords.specs.Dwords.{byte_at}
use Rattle.sfdp.specs.Jesd216.{signed, basic, parameter_header, read_header, read_table}
use Rattle.settings.specs.Limits.{page_of}
use Rattle.erase_plan.specs.declared.NextEntry.{NextEntry}
use Rattle.erase_plan.proofs.Lists.{by_cond, no_false}
use Rattle.commands.specs.declared.Answer.{Answer}
use Rattle.commands.specs.declared.Answer.TheVariants.{Done, Busy}
use Rattle.commands.specs.Script.{over}
use Rattle.commands.specs.Transactions.{ready}
use Rattle.commands.specs.Commands.{blank, id_at}
use Rattle.room.specs.Room.{laid}
use Rattle.phases.specs.declared.Job.{Job}
use Rattle.phases.specs.declared.Mismatch.{Mismatch}
use Rattle.phases.specs.declared.ReadCommand.{ReadCommand}
use Rattle.phases.specs.declared.ReadCommand.TheVariants as Reads
use Rattle.phases.specs.declared.EraseCommand.{EraseCommand}
use Rattle.phases.specs.declared.EraseCommand.TheVariants as Erases
use Rattle.phases.specs.declared.WriteCommand.{WriteCommand}
use Rattle.phases.specs.declared.WriteCommand.TheVariants as Writes
use Rattle.phases.specs.declared.PollCommand.{PollCommand}
use Rattle.phases.specs.declared.PollCommand.TheVariants as Polls
use Rattle.phases.specs.declared.VerifyCommand.{VerifyCommand}
use Rattle.phases.specs.declared.VerifyCommand.TheVariants as Verifies
use Rattle.phases.specs.declared.ResetCommand.{ResetCommand}
use Rattle.phases.specs.declared.ResetCommand.TheVariants as Resets
use Rattle.phases.specs.declared.Command.{Command}
use Rattle.phases.specs.declared.Command.TheVariants as Ends
use Rattle.phases.specs.declared.Phase.{Phase}
use Rattle.phases.specs.declared.Phase.TheVariants.{Reading, Erasing, Writing, Polling, Verifying, Resetting, Ended}
use Rattle.flash.specs.declared.Session.{Session}
use Rattle.phases.specs.Waits.{part_last, read_need, erase_need, write_need, poll_need, verify_need, need_of}
use Rattle.flash.specs.Waits.{types_of, entry_for, flagged, told, in_phase}
use Rattle.phases.specs.Moves.{to_after, to_before, with_header, read_room, erase_ends, write_ends, poll_ends, to_polls, last_written, next_erase, next_write, to_verify, after_write, still_busy, first_differs, judged, verify_on, reset_on, room_after, is_ended, after_read}
use Rattle.flash.specs.Steps.{goes, with_table, read_on, after_erase, after_polls, poll_on, advanced, counted, is_full, Taken, step_of}
use Rattle.meaning.specs.Meaning.{is_failed, bytes_in, Bytes}
use Rattle.meaning.proofs.Rest.{Ordered, FitRead, FitErase, FitWrite, FitPoll, FitVerify, FitPhase, Fit, StepFits}

-- a session that fits and needs at most so much room
pub record Within (need : ℕ) (s : Session) : Type 0 where
  pub fits : Fit s
  pub most : need_of s.phase ≤ need

-- ---- phases that fit and need at most so much
record Ok (s : Session) (need : ℕ) (p : Phase) : Type 0 where
  fit : FitPhase s p
  most : need_of p ≤ need

ended : (s : Session) (need : ℕ) (c : Command) (a : Answer) → Ok s need (Ended c a)
unfolding need_of
ended s need c a = record { fit = tt; most = omega arith }

within : (s : Session) (n need : ℕ) (p : Phase) → Ok s need p → Within need (in_phase s p n)
within s n need p o = record { fits = fit_of p o.fit; most = o.most }
  where
    fit_read : (c : ReadCommand) → FitRead s c → FitRead (in_phase s p n) c
    fit_read (Reads.Read legacy a k) h = h
    fit_read Reads.Header h = h
    fit_read (Reads.Headers more) h = h
    fit_read (Reads.Table minor plen ptp) h = h
    fit_read (Reads.Before J) h = h
    fit_read (Reads.After J) h = h
    fit_read Reads.Id h = h
    fit_read Reads.IdAgain h = h
    fit_read Reads.Protected h = h

    fit_of : (q : Phase) → FitPhase s q → FitPhase (in_phase s p n) q
    fit_of (Reading c) h = fit_read c h
    fit_of (Erasing c enabled) h = h
    fit_of (Writing c enabled) h = h
    fit_of (Polling c left) h = h
    fit_of (Verifying c) h = h
    fit_of (Resetting c) h = h
    fit_of (Ended c a) h = h

-- ---- reads
to_after_lem : (s : Session) (J : Job) (need : ℕ) → Ordered J → 0 < length (types_of s) → J.top + 1 - J.base ≤ need → Ok s need (to_after J)
unfolding to_after need_of read_need erase_need
to_after_lem s J need o n h =
    by_cond (Ok s need) (ltb J.last J.top) (Reading (Reads.After J)) (Erasing (Erases.Program J J.from) false)
    (λ t. record { fit = (o, (ltb-true J.last J.top t, n)); most = h })
    (λ t. record { fit = o; most = h })

-- a program's first phase
pub program_begins : (s : Session) (J : Job) → Ordered J → 0 < length (types_of s) → Within (J.top + 1 - J.base) (goes s 0 (to_before J))
unfolding to_before need_of read_need
program_begins s J o n =
    within s 0 (J.top + 1 - J.base) (to_before J)
    (by_cond (Ok s (J.top + 1 - J.base)) (ltb J.base J.from) (Reading (Reads.Before J)) (to_after J)
    (λ t. record { fit = (o, n); most = omega arith })
    (λ t. to_after_lem s J (J.top + 1 - J.base) o n (omega arith)))

-- a header's table has fewer than 256 dwords
abbrev Small : Result SFDPParameterHeader SFDPError → Type 0
Small (Unread e) = Unit {0}
Small (Read h) = h.plen < 256

header_small : (r : List ℕ) → Bytes r → Small (read_header r)
unfolding read_header parameter_header
header_small r b =
    by_cond Small (signed r) (cond (basic (parameter_header r 8)) (Read (parameter_header r 8)) (Unread Refusal.InvalidSFDPHeader)) (Unread Refusal.NoSFDP)
    (λ t. by_cond Small (basic (parameter_header r 8)) (Read (parameter_header r 8)) (Unread Refusal.InvalidSFDPHeader) (λ u. b.below 11) (λ u. tt))
    (λ t. tt)

headed : (s : Session) (n : ℕ) (h : Result SFDPParameterHeader SFDPError) → Small h → Within 2056 (goes s n (with_header h))
unfolding with_header need_of read_need
headed s n (Unread e) o = record { fits = tt; most = omega arith }
headed s n (Read h) o = record { fits = o; most = omega arith }

tabled : (s : Session) (n : ℕ) (t : Result FlashParams SFDPError) → Within 2056 (with_table s n t)
unfolding with_table need_of
tabled s n (Unread e) = record { fits = tt; most = omega arith }
tabled s n (Read p) = record { fits = tt; most = omega arith }

read_on_lem : (s : Session) (n : ℕ) (c : ReadCommand) (r : List ℕ) → Bytes r → FitRead s c → Within (read_need c) (read_on s n c r)
unfolding read_on after_read read_need need_of erase_need
read_on_lem s n (Reads.Read legacy a k) r b o = record { fits = tt; most = omega arith }
read_on_lem s n Reads.Header r b o = record { fits = b.below 6; most = omega arith }
read_on_lem s n (Reads.Headers more) r b o = headed s n (read_header r) (header_small r b)
read_on_lem s n (Reads.Table minor plen ptp) r b o = tabled s n (read_table minor plen r)
read_on_lem s n (Reads.Before J) r b o = within s n (J.top + 1 - J.base) (to_after J) (to_after_lem s J (J.top + 1 - J.base) o.0 o.1 (omega arith))
read_on_lem s n (Reads.After J) r b o = record { fits = o.0; most = omega arith }
read_on_lem s n Reads.Id r b o =
    within s n 0 (cond (eqb (byte_at r 0) 0x7F) (Reading Reads.IdAgain) (Ended Ends.Other (id_at 0 r)))
    (by_cond (Ok s 0) (eqb (byte_at r 0) 0x7F) (Reading Reads.IdAgain) (Ended Ends.Other (id_at 0 r))
    (λ t. record { fit = tt; most = omega arith })
    (λ t. record { fit = tt; most = omega arith }))
read_on_lem s n Reads.IdAgain r b o = record { fits = tt; most = omega arith }
read_on_lem s n Reads.Protected r b o = record { fits = tt; most = omega arith }

-- ---- polls
polls_on_lem : (s : Session) (n : ℕ) (c : PollCommand) → FitPoll c → Within (poll_need c) (goes s n (to_polls s.settings.poll_limit c))
unfolding to_polls need_of
polls_on_lem s n c o =
    within s n (poll_need c) (to_polls s.settings.poll_limit c)
    (by_cond (Ok s (poll_need c)) (eqb s.settings.poll_limit 0) (Ended (poll_ends c) Busy) (Polling c (s.settings.poll_limit - 1))
    (λ t. record { fit = tt; most = omega arith })
    (λ t. record { fit = o; most = omega arith }))

last_written_lem : (J : Job) (room : List ℕ) → Ordered J → J.base + last_written J room ≤ J.top
unfolding last_written
last_written_lem J room o =
    by_cond (λ (x : ℕ). J.base + x ≤ J.top) (blank (take (J.top - J.last) (drop (J.last + 1 - J.base) room))) (J.last - J.base) (J.top - J.base)
    (λ t. omega arith) (λ t. omega arith)

next_erase_lem : (s : Session) (need : ℕ) (o : Option NextEntry) (last : ℕ) (on : ℕ → Phase) (over' : Phase)
    → ((q : ℕ) → Ok s need (on q)) → Ok s need over' → Ok s need (next_erase o last on over')
unfolding next_erase
next_erase_lem s need None last on over' f g = g
next_erase_lem s need (Some e) last on over' f g = by_cond (Ok s need) (ltb e.stop last) (on (e.stop + 1)) over' (λ t. f (e.stop + 1)) (λ t. g)

after_erase_lem : (s : Session) (c : EraseCommand) (room : List ℕ) → FitErase c → Ok s (erase_need c) (after_erase s c room)
unfolding after_erase erase_need need_of write_need
after_erase_lem s Erases.Chip room o = ended s 0 Ends.Other Done
after_erase_lem s (Erases.Sectors p last) room o =
    next_erase_lem s 0 (entry_for s p last) last (λ q. Erasing (Erases.Sectors q last) false) (Ended Ends.Other Done)
    (λ q. record { fit = tt; most = omega arith }) (ended s 0 Ends.Other Done)
after_erase_lem s (Erases.Program J p) room o =
    next_erase_lem s (J.top + 1 - J.base) (entry_for s p J.last) J.last (λ q. Erasing (Erases.Program J q) false) (Writing (Writes.Program J (last_written J room) 0) false)
    (λ q. record { fit = o; most = omega arith })
    (record { fit = (o, (last_written_lem J room o, omega arith)); most = omega arith })

to_verify_lem : (s : Session) (J : Job) (to : ℕ) → Ordered J → J.base + to ≤ J.top → Ok s (J.top + 1 - J.base) (to_verify J to)
unfolding to_verify need_of verify_need
to_verify_lem s J to o h =
    by_cond (Ok s (J.top + 1 - J.base)) J.verified (Verifying (Verifies.Compare J to)) (Ended (Ends.Program J true) Done)
    (λ t. record { fit = (o, h); most = omega arith })
    (λ t. record { fit = tt; most = omega arith })

after_write_lem : (s : Session) (c : WriteCommand) → FitWrite c → Ok s (write_need c) (after_write (page_of s.settings) c)
unfolding after_write next_write write_need need_of
after_write_lem s (Writes.Program J to off) o =
    let stop = part_last (page_of s.settings) J.base off to in
    by_cond (Ok s (J.top + 1 - J.base)) (ltb stop to) (Writing (Writes.Program J to (stop + 1)) false) (to_verify J to)
    (λ t. record { fit = (o.0, (o.1.0, omega (arith, ltb-true stop to t))); most = omega arith })
    (λ t. to_verify_lem s J to o.0 o.1.0)
after_write_lem s (Writes.Data a to off) o =
    let stop = part_last (page_of s.settings) a off to in
    by_cond (Ok s (to + 1)) (ltb stop to) (Writing (Writes.Data a to (stop + 1)) false) (Ended Ends.Other Done)
    (λ t. record { fit = (o.0, omega (arith, ltb-true stop to t)); most = omega arith })
    (λ t. ended s (to + 1) Ends.Other Done)

after_polls_lem : (s : Session) (c : PollCommand) (room : List ℕ) → FitPoll c → Ok s (poll_need c) (after_polls s c room)
unfolding after_polls poll_need
after_polls_lem s Polls.Once room o = ended s 0 Ends.Other _
after_polls_lem s (Polls.Erase c) room o = after_erase_lem s c room o
after_polls_lem s (Polls.Write c) room o = after_write_lem s c o

still_busy_lem : (s : Session) (c : PollCommand) (left : ℕ) → FitPoll c → Ok s (poll_need c) (still_busy c left)
unfolding still_busy poll_need need_of
still_busy_lem s Polls.Once left o = ended s 0 Ends.Other _
still_busy_lem s (Polls.Erase c) left o =
    by_cond (Ok s (erase_need c)) (eqb left 0) (Ended (erase_ends c) Busy) (Polling (Polls.Erase c) (left - 1)) (λ t. ended s (erase_need c) (erase_ends c) Busy)
    (λ t. record { fit = o; most = omega arith })
still_busy_lem s (Polls.Write c) left o =
    by_cond (Ok s (write_need c)) (eqb left 0) (Ended (write_ends c) Busy) (Polling (Polls.Write c) (left - 1)) (λ t. ended s (write_need c) (write_ends c) Busy)
    (λ t. record { fit = o; most = omega arith })

poll_on_lem : (s : Session) (c : PollCommand) (left : ℕ) (r room : List ℕ) → FitPoll c → Ok s (poll_need c) (poll_on s c left r room)
unfolding poll_on
poll_on_lem s c left r room o =
    by_cond (Ok s (poll_need c)) (ready (flagged s) (byte_at r 0)) (after_polls s c room) (still_busy c left) (λ t. after_polls_lem s c room o) (λ t. still_busy_lem s c left o)

-- ---- verify
judged_ok : (s : Session) (J : Job) (x : Option Mismatch) → Ordered J → Ok s (J.top + 1 - J.base) (judged J x)
unfolding judged need_of verify_need
judged_ok s J None o = record { fit = tt; most = omega arith }
judged_ok s J (Some m) o = record { fit = o; most = omega arith }

verify_on_lem : (s : Session) (c : VerifyCommand) (r room : List ℕ) → FitVerify c → Ok s (verify_need c) (verify_on c r room)
unfolding verify_on verify_need
verify_on_lem s (Verifies.Compare J to) r room o = judged_ok s J (first_differs J.base 0 (take (to + 1) room) r) o.0
verify_on_lem s (Verifies.Tell J m) r room o = ended s (J.top + 1 - J.base) (Ends.Program J true) _

reset_on_lem : (s : Session) (c : ResetCommand) → Ok s 0 (reset_on c)
unfolding reset_on need_of
reset_on_lem s Resets.Enable = record { fit = tt; most = omega arith }
reset_on_lem s Resets.Reset = ended s 0 Ends.Other Done
reset_on_lem s Resets.F0 = ended s 0 Ends.Other Done

polls_erase : (s : Session) (n : ℕ) (c : EraseCommand) → FitErase c → Within (erase_need c) (goes s n (to_polls s.settings.poll_limit (Polls.Erase c)))
unfolding poll_need
polls_erase s n c o = polls_on_lem s n (Polls.Erase c) o

polls_write : (s : Session) (n : ℕ) (c : WriteCommand) → FitWrite c → Within (write_need c) (goes s n (to_polls s.settings.poll_limit (Polls.Write c)))
unfolding poll_need
polls_write s n c o = polls_on_lem s n (Polls.Write c) o

-- ---- after a full reply
pub goes_on_lem : (p : Phase) (s : Session) (n : ℕ) (r room : List ℕ) → is_ended p ≡ false → Bytes r → FitPhase s p → Within (need_of p) (advanced s n p r room)
unfolding advanced need_of is_ended
goes_on_lem (Reading c) s n r room e b o = read_on_lem s n c r b o
goes_on_lem (Erasing c true) s n r room e b o = polls_erase s n c o
goes_on_lem (Erasing c false) s n r room e b o = record { fits = o; most = omega arith }
goes_on_lem (Writing c true) s n r room e b o = polls_write s n c o
goes_on_lem (Writing c false) s n r room e b o = record { fits = o; most = omega arith }
goes_on_lem (Polling c left) s n r room e b o = within s n (poll_need c) (poll_on s c left r room) (poll_on_lem s c left r room o)
goes_on_lem (Verifying c) s n r room e b o = within s n (verify_need c) (verify_on c r room) (verify_on_lem s c r room o)
goes_on_lem (Resetting c) s n r room e b o = within s n 0 (reset_on c) (reset_on_lem s c)
goes_on_lem (Ended c a) s n r room e b o = no_false e

-- ---- the room keeps its length
pub laid_length : (at : ℕ) (bytes room : List ℕ) → length (laid at bytes room) ≡ length room
unfolding laid over
laid_length at bytes room =
    by_cond (λ (l : List ℕ). length l ≡ length room) (leb (at + length bytes) (length room)) (over at bytes room) room
    (λ t. simp (length-append, length-take, length-drop) (omega (arith, leb-true (at + length bytes) (length room) t)))
    (λ t. refl)

read_room_lem : (c : ReadCommand) (r room : List ℕ) → length (read_room c r room) ≡ length room
unfolding read_room
read_room_lem (Reads.Read legacy a k) r room = laid_length 0 r room
read_room_lem Reads.Header r room = laid_length 0 r room
read_room_lem (Reads.Headers more) r room = laid_length 0 r room
read_room_lem (Reads.Table minor plen ptp) r room = laid_length 0 r room
read_room_lem (Reads.Before J) r room = laid_length 0 r room
read_room_lem (Reads.After J) r room = laid_length (J.last + 1 - J.base) r room
read_room_lem Reads.Id r room = refl
read_room_lem Reads.IdAgain r room = refl
read_room_lem Reads.Protected r room = refl

pub room_kept : (p : Phase) (r room : List ℕ) → length (room_after p r room) ≡ length room
unfolding room_after
room_kept (Reading c) r room = read_room_lem c r room
room_kept (Erasing c enabled) r room = refl
room_kept (Writing c enabled) r room = refl
room_kept (Polling c left) r room = refl
room_kept (Verifying c) r room = refl
room_kept (Resetting c) r room = refl
room_kept (Ended c a) r room = refl

-- ---- THE STEP hands back a session that fits
pub step_fits : StepFits
unfolding step_of told
step_fits s room r b o =
    by_cond Good (is_ended s.phase) (record { out = told s; room = room }) _ (λ t. o)
    (λ t. by_cond Good (ltb (length room) (need_of s.phase)) _ _ (λ u. o)
    (λ u. by_cond Good (is_full s (is_failed r) (bytes_in r)) _ _ (λ v. (goes_on_lem s.phase s (counted s) (bytes_in r) room t b o).fits) (λ v. tt)))
  where
    Good : Taken → Type 0
    Good x = Fit x.out.session
