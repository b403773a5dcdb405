-- The reads' steps.
use Rattle.std.proofs.Common.{Result, Ok, Err}
use mathlib.Core.Path.{◌≡◌, refl, ap, ◌∙◌}
use mathlib.Core.Bool.{Bool, true, false, cond}
use mathlib.Core.List.{List}
use Prim.Native.Nat.{ℕ, ◌+◌, ◌-◌, ◌*◌, ◌%◌, ◌^◌, ◌≤◌, ◌<◌}
use native.Mathlib.Omega.{arith}
use native.Mathlib.Nat.{mod-eq_of_lt}
use lib.Dec.{eqb}
use lib.ListN.{length}
use Rattle.sfdp.specs.declared.FlashParams.{FlashParams}
use Rattle.sfdp.specs.declared.SFDPParameterHeader.{SFDPParameterHeader}
use Rattle.sfdp.specs.declared.SFDPError.{SFDPError}
use Rattle.dwords.specs.Dwords.{byte_at}
use Rattle.sfdp.specs.Jesd216.{read_header, read_table}
use Rattle.settings.specs.declared.Settings.{Settings}
use Rattle.commands.specs.Script.{done, after, give, ask, over}
use Rattle.commands.specs.Host.{tree}
use Rattle.commands.specs.Transactions.{plain, at, fast_read, read_data}
use Rattle.commands.specs.Commands.{with_header, with_table, id_at, first_id}
use Rattle.phases.specs.declared.ReadCommand.{ReadCommand}
use Rattle.phases.specs.declared.ReadCommand.TheVariants as Reads
use Rattle.phases.specs.declared.Command.TheVariants as Ends
use Rattle.phases.specs.declared.Phase.TheVariants.{Reading, Ended}
use Rattle.flash.specs.declared.Session.{Session}
use Rattle.phases.specs.Waits.{addressed, read_tx, read_need, need_of}
use Rattle.flash.specs.Waits.{waits_on, in_phase}
use Rattle.phases.specs.Moves.{with_header as headed, read_room, room_after, is_ended, after_read}
use Rattle.flash.specs.Steps.{goes, with_table as tabled, read_on, advanced}
use Rattle.meaning.specs.Meaning.{kept_of, sent_of}
use Rattle.meaning.proofs.Rest.{reads_on, rest, meaning, FitRead}
use Rattle.meaning.proofs.Stepping.{laid_over_lem, sent_bare, sent_addressed, sim_by, Means}
use Rattle.meaning.proofs.Going.{go_after, go_plan}

-- ---- a read's transaction, and the length of its reply
either_sent : (legacy : Bool) (s : Settings) (a k : ℕ) (room : List ℕ)
    → sent_of (cond legacy (addressed 0x03 s.address_bytes a false k) (addressed 0x0B s.address_bytes a true k)) room ≡ cond legacy (read_data s a k) (fast_read s a k)
either_sent true s a k room = sent_addressed 0x03 s.address_bytes a false k room
either_sent false s a k room = sent_addressed 0x0B s.address_bytes a true k room

either_reply : (legacy : Bool) (s : Settings) (a k : ℕ) → (cond legacy (addressed 0x03 s.address_bytes a false k) (addressed 0x0B s.address_bytes a true k)).reply ≡ k
either_reply true s a k = refl
either_reply false s a k = refl

-- ---- what a header, a table or an ID leads to
headed_means : (s : Session) (m : ℕ) (room : List ℕ) (h : Result SFDPParameterHeader SFDPError) → tree m (with_header h (kept_of s room)) ≡ meaning (goes s m (headed h)) room
unfolding headed meaning rest reads_on tree
headed_means s m room (Err e) = refl
headed_means s m room (Ok h) = refl

tabled_means : (s : Session) (m : ℕ) (room : List ℕ) (t : Result FlashParams SFDPError) → tree m (with_table t (kept_of s room)) ≡ meaning (tabled s m t) room
unfolding tabled meaning rest after tree
tabled_means s m room (Err e) = refl
tabled_means s m room (Ok p) = refl

again_means : (s : Session) (m : ℕ) (room : List ℕ) (r : List ℕ) (t : Bool)
    → tree m (cond t (after (ask (plain 0x9F 16) (kept_of s room)) (λ r'. give (first_id 13 1 r'))) (done (kept_of s room) (id_at 0 r)))
    ≡ meaning (goes s m (cond t (Reading Reads.IdAgain) (Ended Ends.Other (id_at 0 r)))) room
unfolding meaning rest reads_on after
again_means s m room r true = refl
again_means s m room r false = refl

-- ---- the step
pub reading : (c : ReadCommand) (s : Session) (n : ℕ) (room : List ℕ) → FitRead s c → read_need c ≤ length room → n + 1 < 2 ^ 64 → Means s (Reading c) n room
unfolding meaning rest reads_on after need_of read_need is_ended waits_on read_tx advanced read_on after_read room_after read_room
reading (Reads.Read legacy a k) s n room o h b =
    sim_by (in_phase s (Reading (Reads.Read legacy a k)) n) room refl h _ _ b (either_sent legacy s.settings a k room)
    (λ bs l. rw (laid_over_lem 0 bs room (omega (arith, l, either_reply legacy s.settings a k))))
reading Reads.Header s n room o h b =
    sim_by (in_phase s (Reading Reads.Header) n) room refl h _ _ b (sent_addressed 0x5A 3 0 true 8 room) (λ bs l. rw (laid_over_lem 0 bs room (omega arith)))
reading (Reads.Headers more) s n room o h b =
    let e : 16 + 8 * more ≡ 8 + 8 * (more + 1) = omega arith in
    sim_by (in_phase s (Reading (Reads.Headers more)) n) room refl h _ _ b
    (sent_addressed 0x5A 3 0 true (16 + 8 * more) room ∙ ap (λ (x : ℕ). at 0x5A 3 0 true x) e)
    (λ bs l. rw (laid_over_lem 0 bs room (omega arith)) (headed_means (in_phase s (Reading (Reads.Headers more)) n) _ (over 0 bs room) (read_header bs)))
reading (Reads.Table minor plen ptp) s n room o h b =
    sim_by (in_phase s (Reading (Reads.Table minor plen ptp)) n) room refl h _ _ b (sent_addressed 0x5A 3 ptp true (4 * plen) room)
    (λ bs l. rw (laid_over_lem 0 bs room (omega arith)) (tabled_means (in_phase s (Reading (Reads.Table minor plen ptp)) n) _ (over 0 bs room) (read_table minor plen bs)))
reading (Reads.Before J) s n room o h b =
    sim_by (in_phase s (Reading (Reads.Before J)) n) room refl h _ _ b (sent_addressed 0x0B s.settings.address_bytes J.base true (J.from - J.base) room)
    (λ bs l. rw (laid_over_lem 0 bs room (omega arith)) (ap (tree _) (go_after J (kept_of s (over 0 bs room)) o.0 o.1)))
reading (Reads.After J) s n room o h b =
    let e : (J.last + 1) % 2 ^ 32 ≡ J.last + 1 = mod-eq_of_lt (omega arith) in
    sim_by (in_phase s (Reading (Reads.After J)) n) room refl h _ _ b
    (sent_addressed 0x0B s.settings.address_bytes ((J.last + 1) % 2 ^ 32) true (J.top - J.last) room
    ∙ ap (λ (x : ℕ). at 0x0B s.settings.address_bytes x true (J.top - J.last)) e)
    (λ bs l. rw (laid_over_lem (J.last + 1 - J.base) bs room (omega arith))
    (ap (tree _) (go_plan J (kept_of s (over (J.last + 1 - J.base) bs room)) J.from o.0.data' o.1.1)))
reading Reads.Id s n room o h b =
    sim_by (in_phase s (Reading Reads.Id) n) room refl h _ _ b (sent_bare 0x9F 3 room)
    (λ bs l. again_means (in_phase s (Reading Reads.Id) n) _ room bs (eqb (byte_at bs 0) 0x7F))
reading Reads.IdAgain s n room o h b =
    sim_by (in_phase s (Reading Reads.IdAgain) n) room refl h _ _ b (sent_bare 0x9F 16 room) (λ bs l. refl)
reading Reads.Protected s n room o h b =
    sim_by (in_phase s (Reading Reads.Protected) n) room refl h _ _ b (sent_bare 0x05 1 room) (λ bs l. refl)
