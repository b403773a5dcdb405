-- The steps of erases, page writes, polls, verifies and resets.
use Rattle.std.proofs.Common.{Some, None, Option}
use mathlib.Core.Path.{◌≡◌, refl, sym, ap, ◌∙◌}
use mathlib.Core.Bool.{Bool, true, false, cond, not}
use mathlib.Core.List.{List, [], ◌∷◌}
use mathlib.Core.Option.{some}
use Prim.Native.Nat.{ℕ, zero, suc, ◌+◌, ◌-◌, ◌%◌, ◌^◌, ◌≤◌, ◌<◌}
use native.Mathlib.Omega.{arith}
use native.Mathlib.Nat.{mod-eq_of_lt}
use lib.Dec.{eqb}
use lib.ListN.{length, take}
use lib.Seq.{length-take-le}
use borrow.Author.Tests.{ne_eqb}
use Rattle.dwords.specs.Dwords.{byte_at}
use Rattle.settings.specs.Limits.{page_of}
use Rattle.erase_plan.specs.declared.NextEntry.{NextEntry}
use Rattle.commands.specs.declared.Answer.{Answer}
use Rattle.commands.specs.declared.Answer.TheVariants.{Done, DoneBool, ReadbackError, Busy}
use Rattle.commands.specs.Script.{Kept, done, stop, Cmd, after, give}
use Rattle.commands.specs.Host.{tree}
use Rattle.commands.specs.Transactions.{at, fast_read, status_poll, page_delay, by_flag, ready, polls, to_page_end}
use Rattle.commands.specs.Commands.{mismatch, judge}
use Rattle.phases.specs.declared.Job.{Job}
use Rattle.phases.specs.declared.EraseCommand.{EraseCommand}
use Rattle.phases.specs.declared.EraseCommand.TheVariants as Erases
use Rattle.phases.specs.declared.WriteCommand.{WriteCommand}
use Rattle.phases.specs.declared.WriteCommand.TheVariants as Writes
use Rattle.phases.specs.declared.PollCommand.{PollCommand}
use Rattle.phases.specs.declared.PollCommand.TheVariants as Polls
use Rattle.phases.specs.declared.VerifyCommand.{VerifyCommand}
use Rattle.phases.specs.declared.VerifyCommand.TheVariants as Verifies
use Rattle.phases.specs.declared.ResetCommand.{ResetCommand}
use Rattle.phases.specs.declared.ResetCommand.TheVariants as Resets
use Rattle.phases.specs.declared.Command.{Command}
use Rattle.phases.specs.declared.Command.TheVariants as Ends
use Rattle.phases.specs.declared.Phase.{Phase}
use Rattle.phases.specs.declared.Phase.TheVariants.{Erasing, Writing, Polling, Verifying, Resetting, Ended}
use Rattle.flash.specs.declared.Session.{Session}
use Rattle.phases.specs.Waits.{block_tx, part_last, page_tx, write_tx, verify_tx, reset_tx, erase_need, write_need, poll_need, verify_need, need_of}
use Rattle.flash.specs.Waits.{entry_for, erase_tx, page_pause, flagged, poll_tx, waits_on, in_phase}
use Rattle.phases.specs.Moves.{erase_ends, write_ends, to_polls, after_write, still_busy, first_differs, judged, verify_on, reset_on, room_after, is_ended}
use Rattle.flash.specs.Steps.{goes, after_erase, after_polls, poll_on, advanced}
use Rattle.meaning.specs.Meaning.{kept_of, sent_of}
use Rattle.meaning.proofs.Rest.{block_sent, erase_sent, erase_then, page_sent, write_sent, write_then, from_start, polls_on, verifies_on, resets_on, rest, meaning, FitWrite, FitPoll, FitVerify}
use Rattle.meaning.proofs.Unroll.{page_some, part_past, part_within}
use Rattle.meaning.proofs.Stepping.{part_fits, part_none, sent_bare, sent_addressed, sim_by, Means}
use Rattle.meaning.proofs.Going.{erase_next, write_next}

-- ---- the transactions
block_sent_lem : (s : Session) (room : List ℕ) (o : Option NextEntry) → sent_of (block_tx s.settings.address_bytes o) room ≡ block_sent (kept_of s room) o
unfolding block_tx
block_sent_lem s room None = sent_addressed 0 s.settings.address_bytes 0 false 0 room
block_sent_lem s room (Some e) = rw (part_none room)

erase_sent_lem : (s : Session) (room : List ℕ) (c : EraseCommand) → sent_of (erase_tx s c) room ≡ erase_sent (kept_of s room) c
unfolding erase_tx erase_sent entry_for
erase_sent_lem s room Erases.Chip = sent_bare 0xC7 0 room
erase_sent_lem s room (Erases.Sectors p last) = block_sent_lem s room (entry_for s p last)
erase_sent_lem s room (Erases.Program J p) = block_sent_lem s room (entry_for s p J.last)

page_sent_lem : (s : Session) (room : List ℕ) (a to off : ℕ) → a + to < 2 ^ 32 → off ≤ to → to + 1 ≤ length room → sent_of (page_tx s.settings (page_pause s) a to off) room ≡ page_sent (kept_of s room) a to off
unfolding page_tx page_pause page_delay
page_sent_lem s room a to off h k l =
    let page = page_of s.settings in
    let len = to_page_end page a off (to + 1) in
    let past : part_last page a off to + 1 ≡ off + len = part_past page a off to (page_some s.settings) k in
    let e : part_last page a off to + 1 - off ≡ len = omega arith in
    let m : (a + off) % 2 ^ 32 ≡ a + off = mod-eq_of_lt (omega arith) in
    rw (e, m, part_fits room off len (omega (arith, part_within page a off (to + 1) (omega arith))))

write_sent_lem : (s : Session) (room : List ℕ) (c : WriteCommand) → FitWrite c → write_need c ≤ length room → sent_of (write_tx s.settings (page_pause s) c) room ≡ write_sent (kept_of s room) c
unfolding write_tx write_sent write_need
write_sent_lem s room (Writes.Program J to off) o h = page_sent_lem s room J.base to off (omega arith) o.1.1 (omega arith)
write_sent_lem s room (Writes.Data a to off) o h = page_sent_lem s room a to off o.0 o.1 h

-- ---- from an operation to its polls
polls_begin : (s : Session) (m : ℕ) (room : List ℕ) (c : PollCommand) (k : Cmd Answer) (limit : ℕ)
    → ((l : ℕ) → after (polls (suc l) (kept_of s room)) (λ u. k) ≡ rest (Polling c l) (kept_of s room))
    → tree m (after (polls limit (kept_of s room)) (λ u. k)) ≡ meaning (goes s m (to_polls limit c)) room
unfolding polls after meaning rest tree to_polls
polls_begin s m room c k zero h = refl
polls_begin s m room c k (suc l) h =
    let e : suc l - 1 ≡ l = omega arith in
    rw (ne_eqb (suc l) 0 (omega arith), e) (ap (tree m) (h l))

erase_polls : (w : Kept) (c : EraseCommand) (l : ℕ) → after (polls (suc l) w) (λ u. erase_then c) ≡ rest (Polling (Polls.Erase c) l) w
unfolding rest polls_on
erase_polls w c l = refl

write_polls : (w : Kept) (c : WriteCommand) (l : ℕ) → after (polls (suc l) w) (λ u. write_then c) ≡ rest (Polling (Polls.Write c) l) w
unfolding rest polls_on
write_polls w c l = refl

pub erasing : (c : EraseCommand) (enabled : Bool) (s : Session) (n : ℕ) (room : List ℕ) → erase_need c ≤ length room → n + 1 < 2 ^ 64 → Means s (Erasing c enabled) n room
unfolding meaning rest from_start after need_of is_ended waits_on advanced room_after
erasing c false s n room h b = sim_by (in_phase s (Erasing c false) n) room refl h _ _ b (sent_bare 0x06 0 room) (λ bs l. refl)
erasing c true s n room h b =
    let s' = in_phase s (Erasing c true) n in
    sim_by s' room refl h _ _ b (erase_sent_lem s' room c)
    (λ bs l. polls_begin s' _ room (Polls.Erase c) (erase_then c) s.settings.poll_limit (erase_polls (kept_of s room) c))

pub writing : (c : WriteCommand) (enabled : Bool) (s : Session) (n : ℕ) (room : List ℕ) → FitWrite c → write_need c ≤ length room → n + 1 < 2 ^ 64 → Means s (Writing c enabled) n room
unfolding meaning rest from_start after need_of is_ended waits_on advanced room_after
writing c false s n room o h b = sim_by (in_phase s (Writing c false) n) room refl h _ _ b (sent_bare 0x06 0 room) (λ bs l. refl)
writing c true s n room o h b =
    let s' = in_phase s (Writing c true) n in
    sim_by s' room refl h _ _ b (write_sent_lem s' room c o h)
    (λ bs l. polls_begin s' _ room (Polls.Write c) (write_then c) s.settings.poll_limit (write_polls (kept_of s room) c))

-- ---- polls
poll_sent : (s : Session) (room : List ℕ) → sent_of (poll_tx s) room ≡ status_poll (kept_of s room)
unfolding poll_tx flagged by_flag
poll_sent s room = rw (part_none room)

-- a poll that says busy: the next one, if one is left
polls_left_lem : (m : ℕ) (w : Kept) (k : Cmd Answer) (end : Command) (c : PollCommand) (left : ℕ)
    → ((l : ℕ) → after (polls (suc l) w) (λ u. k) ≡ rest (Polling c l) w)
    → tree m (after (polls left w) (λ u. k)) ≡ tree m (rest (cond (eqb left 0) (Ended end Busy) (Polling c (left - 1))) w)
unfolding polls after rest tree
polls_left_lem m w k end c zero h = refl
polls_left_lem m w k end c (suc l) h =
    let e : suc l - 1 ≡ l = omega arith in
    rw (ne_eqb (suc l) 0 (omega arith), e) (ap (tree m) (h l))

-- the reply to a poll: t is whether it says ready
poll_reply : (m : ℕ) (w : Kept) (k : Cmd Answer) (t : Bool) (left : ℕ) (on over' : Phase) → k w ≡ rest on w
    → tree m (after (polls left w) (λ u. k)) ≡ tree m (rest over' w)
    → tree m (after (cond t (done w tt) (polls left w)) (λ u. k)) ≡ tree m (rest (cond t on over') w)
unfolding after
poll_reply m w k true left on over' e h = ap (tree m) e
poll_reply m w k false left on over' e h = h

once_reply : (m : ℕ) (w : Kept) (t : Bool) → tree m (done w (DoneBool (not t))) ≡ tree m (rest (cond t (Ended Ends.Other (DoneBool false)) (Ended Ends.Other (DoneBool true))) w)
unfolding rest
once_reply m w true = refl
once_reply m w false = refl

pub polling : (c : PollCommand) (left : ℕ) (s : Session) (n : ℕ) (room : List ℕ) → FitPoll c → poll_need c ≤ length room → n + 1 < 2 ^ 64 → Means s (Polling c left) n room
unfolding meaning rest polls_on polls after need_of is_ended waits_on advanced room_after poll_on after_polls still_busy flagged by_flag
polling Polls.Once left s n room o h b =
    let s' = in_phase s (Polling Polls.Once left) n in
    sim_by s' room refl h _ _ b (poll_sent s' room) (λ bs l. once_reply _ (kept_of s room) (ready (flagged s') (byte_at bs 0)))
polling (Polls.Erase c) left s n room o h b =
    let s' = in_phase s (Polling (Polls.Erase c) left) n in
    let w = kept_of s room in
    sim_by s' room refl h _ _ b (poll_sent s' room)
    (λ bs l. poll_reply _ w (erase_then c) (ready (flagged s') (byte_at bs 0)) left (after_erase s' c room) (still_busy (Polls.Erase c) left) (erase_next s' c room o)
    (polls_left_lem _ w (erase_then c) (erase_ends c) (Polls.Erase c) left (erase_polls w c)))
polling (Polls.Write c) left s n room o h b =
    let s' = in_phase s (Polling (Polls.Write c) left) n in
    let w = kept_of s room in
    sim_by s' room refl h _ _ b (poll_sent s' room)
    (λ bs l. poll_reply _ w (write_then c) (ready (flagged s') (byte_at bs 0)) left (after_write (page_of s'.settings) c) (still_busy (Polls.Write c) left) (write_next s' c room o)
    (polls_left_lem _ w (write_then c) (write_ends c) (Polls.Write c) left (write_polls w c)))

-- ---- a script that stops is one that ended
stopped : (m : ℕ) (w : Kept) (c : Command) (a : Answer) → tree m (stop w a) ≡ tree m (rest (Ended c a) w)
unfolding rest tree
stopped m w c a = refl

-- ---- verify: addresses do not wrap
differs_means : (J : Job) (m : ℕ) (w : Kept) (i : ℕ) (l r : List ℕ) → J.base + i + length l ≤ 2 ^ 32
    → tree m (after (judge (mismatch (J.base + i) l r) w) (λ u. give Done)) ≡ tree m (rest (judged J (first_differs J.base i l r)) w)
unfolding mismatch first_differs judged rest verifies_on after
differs_means J m w i [] r h = refl
differs_means J m w i (x ∷ l) [] h = refl
differs_means J m w i (x ∷ l) (y ∷ r) h =
    let e : J.base + suc i ≡ suc (J.base + i) = omega arith in
    on (eqb x y)
    (rw e at (differs_means J m w (suc i) l r (omega arith)))
  where
    at_is : (J.base + i) % 2 ^ 32 ≡ J.base + i
    at_is = mod-eq_of_lt (omega arith)

    on : (t : Bool) → tree m (after (judge (mismatch (suc (J.base + i)) l r) w) (λ u. give Done)) ≡ tree m (rest (judged J (first_differs J.base (suc i) l r)) w)
        → tree m (after (judge (elim t [ true ↦ mismatch (suc (J.base + i)) l r | false ↦ some (ReadbackError (J.base + i) x y) ]) w) (λ u. give Done))
        ≡ tree m (rest (judged J (elim t [ true ↦ first_differs J.base (suc i) l r | false ↦ Some (record { address = (J.base + i) % 2 ^ 32; wrote = x; read = y }) ])) w)
    on true k = k
    on false k = rw at_is

compared : (J : Job) (m : ℕ) (w : Kept) (l r : List ℕ) → J.base + length l ≤ 2 ^ 32
    → tree m (after (judge (mismatch J.base l r) w) (λ u. give Done)) ≡ tree m (rest (judged J (first_differs J.base 0 l r)) w)
compared J m w l r h =
    let z : J.base + 0 ≡ J.base = omega arith in
    rw z at (differs_means J m w 0 l r (omega arith))

pub verifying : (c : VerifyCommand) (s : Session) (n : ℕ) (room : List ℕ) → FitVerify c → verify_need c ≤ length room → n + 1 < 2 ^ 64 → Means s (Verifying c) n room
unfolding meaning rest verifies_on after need_of verify_need is_ended waits_on verify_tx advanced room_after verify_on
verifying (Verifies.Compare J to) s n room o h b =
    let s' = in_phase s (Verifying (Verifies.Compare J to)) n in
    let k : length (take (to + 1) room) ≡ to + 1 = length-take-le (to + 1) room (omega arith) in
    sim_by s' room refl h _ _ b
    (sent_addressed 0x0B s.settings.address_bytes J.base true (to + 1) room ∙ ap (λ (x : ℕ). fast_read s.settings J.base x) (sym k))
    (λ bs l. compared J _ (kept_of s room) (take (to + 1) room) bs (omega arith))
verifying (Verifies.Tell J m) s n room o h b =
    sim_by (in_phase s (Verifying (Verifies.Tell J m)) n) room refl h _ _ b (sent_bare 0x05 1 room)
    (λ bs l. stopped _ (kept_of s room) (Ends.Program J true) (ReadbackError m.address m.wrote m.read))

-- ---- reset
pub resetting : (c : ResetCommand) (s : Session) (n : ℕ) (room : List ℕ) → n + 1 < 2 ^ 64 → Means s (Resetting c) n room
unfolding meaning rest resets_on after need_of is_ended waits_on reset_tx advanced room_after reset_on
resetting Resets.Enable s n room b =
    sim_by (in_phase s (Resetting Resets.Enable) n) room refl (omega arith) _ _ b (sent_bare 0x66 0 room) (λ bs l. refl)
resetting Resets.Reset s n room b =
    sim_by (in_phase s (Resetting Resets.Reset) n) room refl (omega arith) _ _ b (sent_bare 0x99 0 room) (λ bs l. refl)
resetting Resets.F0 s n room b =
    sim_by (in_phase s (Resetting Resets.F0) n) room refl (omega arith) _ _ b (sent_bare 0xF0 0 room) (λ bs l. refl)
