-- What a phase asks for is what its session's transaction asks for, and a transaction does not look at the session's phase and polls.
use Rattle.std.proofs.Common.{Some, None, Option}
use Prim.Native.Nat.{ℕ}
use mathlib.Core.Bool.{true, false}
use mathlib.Core.List.{[], ◌∷◌}
use mathlib.Core.Path.{◌≡◌, refl, sym, ap}
use denote.Enum.Declared.{tag_of}
use types.Run.{OneOf, miss}
use Rattle.settings.specs.declared.Settings.{Settings}
use Rattle.erase_plan.specs.declared.NextEntry.{NextEntry}
use Rattle.phases.specs.declared.ReadCommand.{ReadCommand}
use Rattle.phases.specs.declared.ReadCommand.TheVariants as Reads
use Rattle.phases.specs.declared.EraseCommand.{EraseCommand}
use Rattle.phases.specs.declared.EraseCommand.TheVariants as Erases
use Rattle.phases.specs.declared.WriteCommand.{WriteCommand}
use Rattle.phases.specs.declared.WriteCommand.TheVariants as Writes
use Rattle.phases.specs.declared.VerifyCommand.TheVariants as Verifies
use Rattle.phases.specs.declared.ResetCommand.TheVariants as Resets
use Rattle.phases.specs.declared.Phase.{Phase}
use Rattle.phases.specs.declared.Phase.TheVariants.{Reading, Erasing, Writing, Polling, Verifying, Resetting, Ended}
use Rattle.phases.specs.Waits.{read_tx, block_tx, page_tx, write_tx, verify_tx, reset_tx, is_poll, reply_of}
use Rattle.phases.specs.contracts.Phase as Phase-enum
use Rattle.flash.specs.declared.Session.{Session}
use Rattle.flash.specs.declared.Event.TheVariants.{Send}
use Rattle.flash.specs.Waits.{entry_for, erase_tx, page_pause, flagged, poll_tx, waits_on, event_of, in_phase}

-- ---- is it a poll
read_poll : (x : Settings) (c : ReadCommand) → (read_tx x c).poll ≡ false
unfolding read_tx
read_poll x (Reads.Read true a n) = refl
read_poll x (Reads.Read false a n) = refl
read_poll x Reads.Header = refl
read_poll x (Reads.Headers more) = refl
read_poll x (Reads.Table minor plen ptp) = refl
read_poll x (Reads.Before J) = refl
read_poll x (Reads.After J) = refl
read_poll x Reads.Id = refl
read_poll x Reads.IdAgain = refl
read_poll x Reads.Protected = refl

block_poll : (b : ℕ) (x : Option NextEntry) → (block_tx b x).poll ≡ false
unfolding block_tx
block_poll b None = refl
block_poll b (Some e) = refl

erase_poll : (s : Session) (c : EraseCommand) → (erase_tx s c).poll ≡ false
unfolding erase_tx
erase_poll s Erases.Chip = refl
erase_poll s (Erases.Sectors at last) = block_poll _ _
erase_poll s (Erases.Program J at) = block_poll _ _

write_poll : (x : Settings) (pause : ℕ) (c : WriteCommand) → (write_tx x pause c).poll ≡ false
unfolding write_tx page_tx
write_poll x pause (Writes.Program J to off) = refl
write_poll x pause (Writes.Data a to off) = refl

pub poll_same : (s : Session) (p : Phase) → is_poll p ≡ (waits_on s p).poll
unfolding is_poll waits_on poll_tx verify_tx reset_tx
poll_same s (Reading c) = sym (read_poll s.settings c)
poll_same s (Erasing c true) = sym (erase_poll s c)
poll_same s (Erasing c false) = refl
poll_same s (Writing c true) = sym (write_poll s.settings (page_pause s) c)
poll_same s (Writing c false) = refl
poll_same s (Polling c left) = refl
poll_same s (Verifying (Verifies.Compare J to)) = refl
poll_same s (Verifying (Verifies.Tell J m)) = refl
poll_same s (Resetting Resets.Enable) = refl
poll_same s (Resetting Resets.Reset) = refl
poll_same s (Resetting Resets.F0) = refl
poll_same s (Ended c a) = refl

-- ---- how many bytes it asks for
block_reply : (b : ℕ) (x : Option NextEntry) → (block_tx b x).reply ≡ 0
unfolding block_tx
block_reply b None = refl
block_reply b (Some e) = refl

erase_reply : (s : Session) (c : EraseCommand) → (erase_tx s c).reply ≡ 0
unfolding erase_tx
erase_reply s Erases.Chip = refl
erase_reply s (Erases.Sectors at last) = block_reply _ _
erase_reply s (Erases.Program J at) = block_reply _ _

write_reply : (x : Settings) (pause : ℕ) (c : WriteCommand) → (write_tx x pause c).reply ≡ 0
unfolding write_tx page_tx
write_reply x pause (Writes.Program J to off) = refl
write_reply x pause (Writes.Data a to off) = refl

pub reply_same : (s : Session) (p : Phase) → reply_of s.settings p ≡ (waits_on s p).reply
unfolding reply_of waits_on poll_tx reset_tx
reply_same s (Reading c) = refl
reply_same s (Erasing c true) = sym (erase_reply s c)
reply_same s (Erasing c false) = refl
reply_same s (Writing c true) = sym (write_reply s.settings (page_pause s) c)
reply_same s (Writing c false) = refl
reply_same s (Polling c left) = refl
reply_same s (Verifying c) = refl
reply_same s (Resetting Resets.Enable) = refl
reply_same s (Resetting Resets.Reset) = refl
reply_same s (Resetting Resets.F0) = refl
reply_same s (Ended c a) = refl

-- ---- the event of a phase that runs
pub waits_same : (s : Session) (q : Phase) (n : ℕ) (p : Phase) → waits_on (in_phase s q n) p ≡ waits_on s p
unfolding waits_on erase_tx write_tx page_tx page_pause entry_for poll_tx flagged verify_tx
waits_same s q n (Reading c) = refl
waits_same s q n (Erasing Erases.Chip e) = refl
waits_same s q n (Erasing (Erases.Sectors at last) e) = refl
waits_same s q n (Erasing (Erases.Program J at) e) = refl
waits_same s q n (Writing (Writes.Program J to off) e) = refl
waits_same s q n (Writing (Writes.Data a to off) e) = refl
waits_same s q n (Polling c left) = refl
waits_same s q n (Verifying (Verifies.Compare J to)) = refl
waits_same s q n (Verifying (Verifies.Tell J m)) = refl
waits_same s q n (Resetting c) = refl
waits_same s q n (Ended c a) = refl

pub event_runs : (s : Session) (n : ℕ) (p : Phase) → OneOf (0 ∷ 1 ∷ 2 ∷ 3 ∷ 4 ∷ 5 ∷ []) (tag_of Phase-enum.the_type p) → Send (waits_on s p) ≡ event_of (in_phase s p n) p
unfolding event_of
event_runs s n (Reading c) h = ap Send (sym (waits_same s (Reading c) n (Reading c)))
event_runs s n (Erasing c e) h = ap Send (sym (waits_same s (Erasing c e) n (Erasing c e)))
event_runs s n (Writing c e) h = ap Send (sym (waits_same s (Writing c e) n (Writing c e)))
event_runs s n (Polling c left) h = ap Send (sym (waits_same s (Polling c left) n (Polling c left)))
event_runs s n (Verifying c) h = ap Send (sym (waits_same s (Verifying c) n (Verifying c)))
event_runs s n (Resetting c) h = ap Send (sym (waits_same s (Resetting c) n (Resetting c)))
event_runs s n (Ended c a) h = absurd (miss (0 ∷ 1 ∷ 2 ∷ 3 ∷ 4 ∷ 5 ∷ []) 6 tt h)
