-- A step looks at the first bytes of the room that its command needs, and changes no others; so does the transaction that it waits on.
use Rattle.std.proofs.Common.{Some, None, Option}
use mathlib.Core.Path.{◌≡◌, refl, sym, ap, ◌∙◌}
use mathlib.Core.Bool.{Bool, true, false, cond, not, ◌&&◌}
use mathlib.Core.List.{List, [], ◌∷◌, ◌++◌, append_assoc}
use Prim.Native.Nat.{ℕ, zero, suc, ◌+◌, ◌-◌, ◌%◌, ◌≤◌, ◌<◌}
use native.Mathlib.Omega.{arith}
use native.Mathlib.Nat.{min-le_right}
use lib.Dec.{eqb, ltb}
use lib.ListN.{length, take, drop, length-append, length-drop}
use lib.Seq.{take-append-le}
use borrow.Author.Tests.{le-ltb, le-leb, eqb-true}
use Rattle.dwords.specs.Dwords.{byte_at}
use Rattle.settings.specs.declared.Settings.{Settings}
use Rattle.settings.specs.Limits.{page_of}
use Rattle.erase_plan.proofs.Lists.{by_cond, no_true, no_false}
use Rattle.commands.specs.Script.{Sent, over}
use Rattle.commands.specs.Transactions.{ready}
use Rattle.commands.specs.Commands.{blank}
use Rattle.room.specs.Room.{laid, part_of}
use Rattle.room.proofs.Laws.{laid_fits}
use Rattle.erase_plan.specs.declared.NextEntry.{NextEntry}
use Rattle.phases.specs.declared.Job.{Job}
use Rattle.phases.specs.declared.Transaction.{Transaction}
use Rattle.phases.specs.declared.ReadCommand.{ReadCommand}
use Rattle.phases.specs.declared.ReadCommand.TheVariants as Reads
use Rattle.phases.specs.declared.EraseCommand.{EraseCommand}
use Rattle.phases.specs.declared.EraseCommand.TheVariants as Erases
use Rattle.phases.specs.declared.WriteCommand.{WriteCommand}
use Rattle.phases.specs.declared.WriteCommand.TheVariants as Writes
use Rattle.phases.specs.declared.PollCommand.{PollCommand}
use Rattle.phases.specs.declared.PollCommand.TheVariants as Polls
use Rattle.phases.specs.declared.VerifyCommand.{VerifyCommand}
use Rattle.phases.specs.declared.VerifyCommand.TheVariants as Verifies
use Rattle.phases.specs.declared.ResetCommand.{ResetCommand}
use Rattle.phases.specs.declared.ResetCommand.TheVariants as Resets
use Rattle.phases.specs.declared.Phase.{Phase}
use Rattle.phases.specs.declared.Phase.TheVariants.{Reading, Erasing, Writing, Polling, Verifying, Resetting, Ended}
use Rattle.phases.specs.Waits.{bare, read_tx, block_tx, part_last, page_tx, write_tx, verify_tx, reset_tx, span_of, read_need, erase_need, write_need, poll_need, verify_need, need_of}
use Rattle.phases.specs.Moves.{last_written, next_erase, still_busy, first_differs, judged, verify_on, read_room, room_after, is_ended}
use Rattle.flash.specs.declared.Session.{Session}
use Rattle.flash.specs.Waits.{entry_for, flagged, erase_tx, page_pause, poll_tx, waits_on, told}
use Rattle.flash.specs.Steps.{goes, after_erase, after_polls, poll_on, advanced, counted, is_full, Taken, step_of}
use Rattle.meaning.specs.Meaning.{sent_of}
use Rattle.meaning.proofs.Rest.{Ordered, FitRead, FitErase, FitWrite, FitPoll, FitVerify, FitPhase, Fit}
use Rattle.meaning.proofs.Stepping.{step_full, step_short}

-- ---- lists
pub drop_append_le : (n : ℕ) (a x : List ℕ) → n ≤ length a → drop n (a ++ x) ≡ drop n a ++ x
drop_append_le zero a x h = refl
drop_append_le (suc n) [] x h = absurd (omega arith)
drop_append_le (suc n) (y ∷ a) x h = drop_append_le n a x (omega arith)

-- a part of what comes first
part_first : (k m : ℕ) (a x : List ℕ) → k + m ≤ length a → take m (drop k (a ++ x)) ≡ take m (drop k a)
part_first k m a x h =
    ap (take m) (drop_append_le k a x (omega arith))
    ∙ take-append-le m (drop k a) x (omega (arith, length-drop k a))

-- ---- the room
laid_first : (at : ℕ) (bytes a x : List ℕ) → at + length bytes ≤ length a → laid at bytes (a ++ x) ≡ laid at bytes a ++ x
unfolding over
laid_first at bytes a x h =
    laid_fits at bytes (a ++ x) (omega (arith, length-append a x))
    ∙ ap (λ (l : List ℕ). l ++ (bytes ++ drop (at + length bytes) (a ++ x))) (take-append-le at a x (omega arith))
    ∙ ap (λ (l : List ℕ). take at a ++ (bytes ++ l)) (drop_append_le (at + length bytes) a x h)
    ∙ ap (λ (l : List ℕ). take at a ++ l) (sym (append_assoc bytes (drop (at + length bytes) a) x))
    ∙ sym (append_assoc (take at a) (bytes ++ drop (at + length bytes) a) x)
    ∙ ap (λ (l : List ℕ). l ++ x) (sym (laid_fits at bytes a h))

sent_first_lem : (t : Transaction) (a x : List ℕ) → t.from + t.len ≤ length a → sent_of t (a ++ x) ≡ sent_of t a
unfolding part_of
sent_first_lem t a x h =
    let more : t.from + t.len ≤ length (a ++ x) = omega (arith, length-append a x) in
    rw (le-leb (t.from + t.len) (length (a ++ x)) more, le-leb (t.from + t.len) (length a) h, part_first t.from t.len a x h)

-- ---- what a transaction takes of the room
record Takes (n : ℕ) (t : Transaction) : Type 0 where
  within : t.from + t.len ≤ n

page_takes : (s : Settings) (pause a to off n : ℕ) → off ≤ to → to + 1 ≤ n → Takes n (page_tx s pause a to off)
unfolding page_tx part_last
page_takes s pause a to off n h l =
    let m : part_last (page_of s) a off to ≤ to = min-le_right (off + (page_of s - (a + off) % page_of s) - 1) to in
    record { within = omega (arith, m) }

read_takes : (s : Settings) (c : ReadCommand) (n : ℕ) → Takes n (read_tx s c)
unfolding read_tx
read_takes s (Reads.Read legacy a k) n = by_cond (λ (t : Transaction). Takes n t) legacy _ _ (λ e. record { within = omega arith }) (λ e. record { within = omega arith })
read_takes s Reads.Header n = record { within = omega arith }
read_takes s (Reads.Headers more) n = record { within = omega arith }
read_takes s (Reads.Table minor plen ptp) n = record { within = omega arith }
read_takes s (Reads.Before J) n = record { within = omega arith }
read_takes s (Reads.After J) n = record { within = omega arith }
read_takes s Reads.Id n = record { within = omega arith }
read_takes s Reads.IdAgain n = record { within = omega arith }
read_takes s Reads.Protected n = record { within = omega arith }

block_takes : (bytes n : ℕ) (e : Option NextEntry) → Takes n (block_tx bytes e)
unfolding block_tx
block_takes bytes n None = record { within = omega arith }
block_takes bytes n (Some e) = record { within = omega arith }

erase_takes : (s : Session) (c : EraseCommand) (n : ℕ) → Takes n (erase_tx s c)
unfolding erase_tx
erase_takes s Erases.Chip n = record { within = omega arith }
erase_takes s (Erases.Sectors at last) n = block_takes _ n (entry_for s at last)
erase_takes s (Erases.Program J at) n = block_takes _ n (entry_for s at J.last)

write_takes : (s : Settings) (pause : ℕ) (c : WriteCommand) → FitWrite c → Takes (write_need c) (write_tx s pause c)
unfolding write_tx write_need
write_takes s pause (Writes.Program J to off) o = page_takes s pause J.base to off (span_of J) o.1.1 (omega (arith, o.1.0, o.0.first, o.0.span))
write_takes s pause (Writes.Data a to off) o = page_takes s pause a to off (to + 1) o.1 (omega arith)

verify_takes : (bytes n : ℕ) (c : VerifyCommand) → Takes n (verify_tx bytes c)
unfolding verify_tx
verify_takes bytes n (Verifies.Compare J to) = record { within = omega arith }
verify_takes bytes n (Verifies.Tell J m) = record { within = omega arith }

reset_takes : (n : ℕ) (c : ResetCommand) → Takes n (reset_tx c)
unfolding reset_tx
reset_takes n Resets.Enable = record { within = omega arith }
reset_takes n Resets.Reset = record { within = omega arith }
reset_takes n Resets.F0 = record { within = omega arith }

phase_takes : (s : Session) (p : Phase) → FitPhase s p → Takes (need_of p) (waits_on s p)
unfolding waits_on need_of poll_tx
phase_takes s (Reading c) o = read_takes s.settings c (read_need c)
phase_takes s (Erasing c enabled) o = by_cond (λ (t : Transaction). Takes (erase_need c) t) enabled _ _ (λ e. erase_takes s c (erase_need c)) (λ e. record { within = omega arith })
phase_takes s (Writing c enabled) o = by_cond (λ (t : Transaction). Takes (write_need c) t) enabled _ _ (λ e. write_takes s.settings (page_pause s) c o) (λ e. record { within = omega arith })
phase_takes s (Polling c left) o = record { within = omega arith }
phase_takes s (Verifying c) o = verify_takes _ (verify_need c) c
phase_takes s (Resetting c) o = reset_takes 0 c
phase_takes s (Ended c a) o = record { within = omega arith }

pub waits_within : (s : Session) → Fit s → (waits_on s s.phase).from + (waits_on s s.phase).len ≤ need_of s.phase
waits_within s o = (phase_takes s s.phase o).within

-- the transaction that a session waits on has its payload in the first bytes
pub sent_split : (s : Session) → Fit s → (a x : List ℕ) → length a ≡ need_of s.phase → sent_of (waits_on s s.phase) (a ++ x) ≡ sent_of (waits_on s s.phase) a
sent_split s o a x h = sent_first_lem (waits_on s s.phase) a x (omega (arith, h, (phase_takes s s.phase o).within))

-- ---- the phase that follows
last_first : (J : Job) (a x : List ℕ) → Ordered J → length a ≡ span_of J → last_written J (a ++ x) ≡ last_written J a
unfolding last_written
last_first J a x o h =
    ap (λ (l : List ℕ). cond (blank l) (J.last - J.base) (J.top - J.base))
    (part_first (J.last + 1 - J.base) (J.top - J.last) a x (omega (arith, h, o.first, o.data', o.span)))

erase_first : (s : Session) (c : EraseCommand) (a x : List ℕ) → FitErase c → length a ≡ erase_need c → after_erase s c (a ++ x) ≡ after_erase s c a
unfolding after_erase erase_need
erase_first s Erases.Chip a x o h = refl
erase_first s (Erases.Sectors at last) a x o h = refl
erase_first s (Erases.Program J at) a x o h =
    ap (λ (k : ℕ). next_erase (entry_for s at J.last) J.last (λ p. Erasing (Erases.Program J p) false) (Writing (Writes.Program J k 0) false)) (last_first J a x o h)

polls_first : (s : Session) (c : PollCommand) (a x : List ℕ) → FitPoll c → length a ≡ poll_need c → after_polls s c (a ++ x) ≡ after_polls s c a
unfolding after_polls poll_need
polls_first s Polls.Once a x o h = refl
polls_first s (Polls.Erase c) a x o h = erase_first s c a x o h
polls_first s (Polls.Write c) a x o h = refl

verify_first : (c : VerifyCommand) (r a x : List ℕ) → FitVerify c → length a ≡ verify_need c → verify_on c r (a ++ x) ≡ verify_on c r a
unfolding verify_on verify_need
verify_first (Verifies.Compare J to) r a x o h =
    ap (λ (l : List ℕ). judged J (first_differs J.base 0 l r)) (take-append-le (to + 1) a x (omega (arith, h, o.1, o.0.first)))
verify_first (Verifies.Tell J m) r a x o h = refl

phase_first : (p : Phase) (s : Session) (n : ℕ) (r a x : List ℕ) → FitPhase s p → length a ≡ need_of p → advanced s n p r (a ++ x) ≡ advanced s n p r a
unfolding advanced need_of poll_on
phase_first (Reading c) s n r a x o h = refl
phase_first (Erasing c enabled) s n r a x o h = refl
phase_first (Writing c enabled) s n r a x o h = refl
phase_first (Polling c left) s n r a x o h =
    ap (λ (q : Phase). goes s n (cond (ready (flagged s) (byte_at r 0)) q (still_busy c left))) (polls_first s c a x o h)
phase_first (Verifying c) s n r a x o h = ap (goes s n) (verify_first c r a x o h)
phase_first (Resetting c) s n r a x o h = refl
phase_first (Ended c b) s n r a x o h = refl

-- ---- the room that follows
read_first : (s : Session) (c : ReadCommand) (r a x : List ℕ) → FitRead s c → length r ≡ (read_tx s.settings c).reply → length a ≡ read_need c
    → read_room c r (a ++ x) ≡ read_room c r a ++ x
unfolding read_room read_need read_tx
read_first s (Reads.Read true b k) r a x o e h = laid_first 0 r a x (omega (arith, e, h))
read_first s (Reads.Read false b k) r a x o e h = laid_first 0 r a x (omega (arith, e, h))
read_first s Reads.Header r a x o e h = laid_first 0 r a x (omega (arith, e, h))
read_first s (Reads.Headers more) r a x o e h = laid_first 0 r a x (omega (arith, e, h, o))
read_first s (Reads.Table minor plen ptp) r a x o e h = laid_first 0 r a x (omega (arith, e, h, o))
read_first s (Reads.Before J) r a x o e h = laid_first 0 r a x (omega (arith, e, h, o.0.first, o.0.data', o.0.span))
read_first s (Reads.After J) r a x o e h =
    laid_first (J.last + 1 - J.base) r a x (omega (arith, e, h, o.0.first, o.0.data', o.0.span))
read_first s Reads.Id r a x o e h = refl
read_first s Reads.IdAgain r a x o e h = refl
read_first s Reads.Protected r a x o e h = refl

room_first : (p : Phase) (s : Session) (r a x : List ℕ) → FitPhase s p → length r ≡ (waits_on s p).reply → length a ≡ need_of p
    → room_after p r (a ++ x) ≡ room_after p r a ++ x
unfolding room_after need_of waits_on
room_first (Reading c) s r a x o e h = read_first s c r a x o e h
room_first (Erasing c enabled) s r a x o e h = refl
room_first (Writing c enabled) s r a x o e h = refl
room_first (Polling c left) s r a x o e h = refl
room_first (Verifying c) s r a x o e h = refl
room_first (Resetting c) s r a x o e h = refl
room_first (Ended c b) s r a x o e h = refl

-- ---- THE STEP
abbrev pub behind : List ℕ → Taken → Taken
behind x y = record { out = y.out; room = y.room ++ x }

full_long : (failed : Bool) (k n : ℕ) → (not failed && eqb k n) ≡ true → k ≡ n
full_long true k n e = no_true e
full_long false k n e = eqb-true k n e

module _ (s : Session) (runs : is_ended s.phase ≡ false) (o : Fit s) (failed : Bool) (r a x : List ℕ) (h : length a ≡ need_of s.phase) where
  enough : need_of s.phase ≤ length a
  enough = omega (arith, h)

  more : need_of s.phase ≤ length (a ++ x)
  more = omega (arith, h, length-append a x)

  long : is_full s failed r ≡ true → length r ≡ (waits_on s s.phase).reply
  unfolding is_full
  long e = full_long failed (length r) (waits_on s s.phase).reply e

  pub step_split : step_of s failed r (a ++ x) ≡ behind x (step_of s failed r a)
  step_split = by (is_full s failed r) refl
    where
      by : (t : Bool) → is_full s failed r ≡ t → step_of s failed r (a ++ x) ≡ behind x (step_of s failed r a)
      by true e =
          step_full s (a ++ x) runs more failed r e
          ∙ ap (λ (y : Session). record { out = told y; room = room_after s.phase r (a ++ x) }) (phase_first s.phase s (counted s) r a x o h)
          ∙ ap (λ (l : List ℕ). record { out = told (advanced s (counted s) s.phase r a); room = l }) (room_first s.phase s r a x o (long e) h)
          ∙ ap (behind x) (sym (step_full s a runs enough failed r e))
      by false e = step_short s (a ++ x) runs more failed r e ∙ ap (behind x) (sym (step_short s a runs enough failed r e))

-- a reported failure is one, whatever the bytes that come with it
pub failure_blind : (s : Session) (r room : List ℕ) → step_of s true r room ≡ step_of s true [] room
unfolding step_of is_full
failure_blind s r room = refl
