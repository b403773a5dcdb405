-- The transaction that a whole session waits on has numbers of their widths.
use Rattle.std.proofs.Common.{Some, None, Option}
use mathlib.Core.Path.{◌≡◌, refl, sym, subst}
use mathlib.Core.Bool.{Bool, true, false, cond, not, ◌&&◌}
use mathlib.Core.List.{List, [], ◌∷◌, ◌++◌}
use Prim.Native.Nat.{ℕ, ◌+◌, ◌-◌, ◌*◌, ◌/◌, ◌%◌, ◌≤◌, ◌<◌, ◌^◌}
use native.Mathlib.Omega.{arith}
use native.Mathlib.Nat.{min-le_right}
use lib.Dec.{eqb, ltb}
use Rattle.sfdp.specs.declared.SFDPEraseInst.{SFDPEraseInst}
use Rattle.settings.specs.declared.Settings.{Settings}
use Rattle.settings.specs.Limits.{page_of}
use Rattle.settings.proofs.Laws.{accepted_32}
use Rattle.erase_plan.specs.declared.EraseType.{EraseType}
use Rattle.erase_plan.specs.declared.EraseTypes.{EraseTypes}
use Rattle.erase_plan.specs.declared.NextEntry.{NextEntry}
use Rattle.erase_plan.specs.Good.{Each}
use Rattle.erase_plan.specs.Types.{no_type, kept, present, four_of}
use Rattle.erase_plan.specs.Plan.{beats, chosen_from, chosen, entry_at, next_pos, next_of}
use Rattle.erase_plan.proofs.Lists.{by_cond, each_append}
use Rattle.erase_plan.proofs.Ordering.{sort_each}
use Rattle.erase_plan.proofs.Slots.{sorted_present}
use Rattle.plans.specs.Available.{type_of, single, of_params, no_insts, usable_4k, of_settings, available}
use Rattle.phases.specs.declared.Transaction.{Transaction}
use Rattle.phases.specs.declared.ReadCommand.{ReadCommand}
use Rattle.phases.specs.declared.ReadCommand.TheVariants as Reads
use Rattle.phases.specs.declared.EraseCommand.{EraseCommand}
use Rattle.phases.specs.declared.EraseCommand.TheVariants as Erases
use Rattle.phases.specs.declared.WriteCommand.{WriteCommand}
use Rattle.phases.specs.declared.WriteCommand.TheVariants as Writes
use Rattle.phases.specs.declared.VerifyCommand.{VerifyCommand}
use Rattle.phases.specs.declared.VerifyCommand.TheVariants as Verifies
use Rattle.phases.specs.declared.ResetCommand.{ResetCommand}
use Rattle.phases.specs.declared.ResetCommand.TheVariants as Resets
use Rattle.phases.specs.declared.Phase.{Phase}
use Rattle.phases.specs.declared.Phase.TheVariants.{Reading, Erasing, Writing, Polling, Verifying, Resetting, Ended}
use Rattle.phases.specs.Waits.{bare, read_tx, block_tx, part_last, page_tx, write_tx, verify_tx, reset_tx}
use Rattle.flash.specs.declared.Session.{Session}
use Rattle.flash.specs.Waits.{types_of, entry_for, erase_tx, page_pause, flagged, poll_tx, waits_on}
use Rattle.meaning.proofs.Rest.{FitRead, FitWrite, FitVerify, FitPhase}
use Rattle.packed.specs.Typed.{TypedInst}
use Rattle.rule.specs.Rule.{has_types, read_rule, phase_rule}
use Rattle.rule.specs.Kept.{Whole}
use Rattle.rule.proofs.Fits.{rule_fits, rule_meets}
use Rattle.rule.proofs.Steps.{rule_phase}

-- ---- the types
pub record Narrow (t : EraseType) : Type 0 where
  pub opcode : t.opcode < 256
  pub size : t.size < 2 ^ 32
  pub time : t.time < 2 ^ 32

kept_narrow : (t : EraseType) → Narrow t → Each Narrow (kept t)
unfolding kept
kept_narrow t h = by_cond (Each Narrow) (eqb t.size 0) [] (t ∷ []) (λ e. tt) (λ e. (h, tt))

four_narrow : (a b c d : EraseType) → Narrow a → Narrow b → Narrow c → Narrow d → Each Narrow (present (four_of a b c d))
unfolding present
four_narrow a b c d ha hb hc hd =
    each_append Narrow (kept a) (kept b ++ (kept c ++ (kept d ++ []))) (kept_narrow a ha)
    (each_append Narrow (kept b) (kept c ++ (kept d ++ [])) (kept_narrow b hb)
    (each_append Narrow (kept c) (kept d ++ []) (kept_narrow c hc) (each_append Narrow (kept d) [] (kept_narrow d hd) tt)))

no_narrow : Narrow no_type
no_narrow = record { opcode = omega arith; size = omega arith; time = omega arith }

single_narrow : (size opcode : ℕ) → size < 2 ^ 32 → opcode < 256 → Each Narrow (present (single size opcode))
single_narrow size opcode g h = four_narrow _ no_type no_type no_type (record { opcode = h; size = g; time = omega arith }) no_narrow no_narrow no_narrow

inst_narrow : (i : SFDPEraseInst) → TypedInst i → Narrow (type_of i)
inst_narrow i h = record { opcode = h.opcode; size = h.size; time = h.time_typ }

pub types_narrow : (s : Session) → Whole s → Each Narrow (types_of s)
unfolding available of_params of_settings
types_narrow s w =
    let p = w.typed.params.erase_insts in
    by_cond (λ (ts : EraseTypes). Each Narrow (present ts)) (s.known && not (no_insts s.params.erase_insts)) _ _
    (λ e. subst (Each Narrow) (sym (sorted_present _ _ _ _))
    (sort_each Narrow _ (four_narrow _ _ _ _ (inst_narrow _ p.inst1) (inst_narrow _ p.inst2) (inst_narrow _ p.inst3) (inst_narrow _ p.inst4))))
    (λ e. by_cond (λ (ts : EraseTypes). Each Narrow (present ts)) (s.known && usable_4k s.params) _ _
    (λ e. single_narrow 4096 s.params.legacy_4kb_erase_inst (omega arith) w.typed.params.legacy_4kb_erase_inst)
    (λ e. by_cond (λ (ts : EraseTypes). Each Narrow (present ts)) (eqb s.settings.erase_size 0) _ _
    (λ e. four_narrow no_type no_type no_type no_type no_narrow no_narrow no_narrow no_narrow)
    (λ e. single_narrow s.settings.erase_size s.settings.erase_opcode w.typed.settings.erase_size w.typed.settings.erase_opcode)))

from_narrow : (t : EraseType) (ts : List EraseType) (pos end : ℕ) → Narrow t → Each Narrow ts → Narrow (chosen_from t ts pos end)
unfolding chosen_from
from_narrow t [] pos end h g = h
from_narrow t (u ∷ us) pos end h g =
    from_narrow (cond (beats u t pos end) u t) us pos end (by_cond Narrow (beats u t pos end) u t (λ e. g.0) (λ e. h)) g.1

pub chosen_narrow : (ts : List EraseType) (pos end : ℕ) → Each Narrow ts → Narrow (chosen ts pos end)
unfolding chosen
chosen_narrow [] pos end g = no_narrow
chosen_narrow (t ∷ ts) pos end g = from_narrow t ts pos end g.0 g.1

-- ---- transactions
pub record Fine (t : Transaction) : Type 0 where
  pub opcode : t.opcode < 256
  pub addressed : t.addressed ≤ 4
  pub reply : t.reply < 2 ^ 64
  pub from : t.from < 2 ^ 64
  pub len : t.len < 2 ^ 64
  pub delay : t.delay < 2 ^ 32

next_fine : (bytes : ℕ) (ts : List EraseType) (pos end : ℕ) → bytes ≤ 4 → Each Narrow ts → Fine (block_tx bytes (next_of ts pos end))
unfolding next_of block_tx entry_at
next_fine bytes [] pos end h g = record { opcode = omega arith; addressed = h; reply = omega arith; from = omega arith; len = omega arith; delay = omega arith }
next_fine bytes (t ∷ ts) pos end h g =
    by_cond (λ (x : Option NextEntry). Fine (block_tx bytes x)) (ltb pos end) _ None (λ e. entry)
    (λ e. record { opcode = omega arith; addressed = h; reply = omega arith; from = omega arith; len = omega arith; delay = omega arith })
  where
    c : Narrow (chosen (t ∷ ts) pos end)
    c = chosen_narrow (t ∷ ts) pos end g

    delayed : (b : Bool) → cond (eqb (cond b 1 0) 1) ((chosen (t ∷ ts) pos end).time / 2) 0 < 2 ^ 32
    delayed true = omega (arith, c.time)
    delayed false = omega arith

    entry : Fine (block_tx bytes (Some (record { entry = entry_at (t ∷ ts) pos end; stop = next_pos (t ∷ ts) pos end - 1 })))
    entry = record { opcode = c.opcode; addressed = h; reply = omega arith; from = omega arith; len = omega arith; delay = delayed (chosen (t ∷ ts) pos end).timed }

bytes_most : (s : Session) → Whole s → s.settings.address_bytes ≤ 4
bytes_most s w = (rule_meets s w.ruled).limits.address.1

erase_fine : (s : Session) → Whole s → (c : EraseCommand) → Fine (erase_tx s c)
unfolding erase_tx entry_for
erase_fine s w Erases.Chip = record { opcode = omega arith; addressed = omega arith; reply = omega arith; from = omega arith; len = omega arith; delay = omega arith }
erase_fine s w (Erases.Sectors at last) = next_fine _ (types_of s) at (last + 1) (bytes_most s w) (types_narrow s w)
erase_fine s w (Erases.Program J at) = next_fine _ (types_of s) at (J.last + 1) (bytes_most s w) (types_narrow s w)

read_fine : (s : Session) → Whole s → (c : ReadCommand) → FitRead s c → read_rule s.settings (has_types s) c ≡ true → Fine (read_tx s.settings c)
unfolding read_tx read_rule
read_fine s w (Reads.Read true a n) o r =
    let l : a + n ≤ 2 ^ 32 = accepted_32 s.settings a n r in
    record { opcode = omega arith; addressed = bytes_most s w; reply = omega (arith, l); from = omega arith; len = omega arith; delay = omega arith }
read_fine s w (Reads.Read false a n) o r =
    let l : a + n ≤ 2 ^ 32 = accepted_32 s.settings a n r in
    record { opcode = omega arith; addressed = bytes_most s w; reply = omega (arith, l); from = omega arith; len = omega arith; delay = omega arith }
read_fine s w Reads.Header o r = record { opcode = omega arith; addressed = omega arith; reply = omega arith; from = omega arith; len = omega arith; delay = omega arith }
read_fine s w (Reads.Headers more) o r = record { opcode = omega arith; addressed = omega arith; reply = omega (arith, o); from = omega arith; len = omega arith; delay = omega arith }
read_fine s w (Reads.Table minor plen ptp) o r = record { opcode = omega arith; addressed = omega arith; reply = omega (arith, o); from = omega arith; len = omega arith; delay = omega arith }
read_fine s w (Reads.Before J) o r =
    record { opcode = omega arith; addressed = bytes_most s w; reply = omega (arith, o.0.data', o.0.span, o.0.top); from = omega arith; len = omega arith; delay = omega arith }
read_fine s w (Reads.After J) o r =
    record { opcode = omega arith; addressed = bytes_most s w; reply = omega (arith, o.0.top); from = omega arith; len = omega arith; delay = omega arith }
read_fine s w Reads.Id o r = record { opcode = omega arith; addressed = omega arith; reply = omega arith; from = omega arith; len = omega arith; delay = omega arith }
read_fine s w Reads.IdAgain o r = record { opcode = omega arith; addressed = omega arith; reply = omega arith; from = omega arith; len = omega arith; delay = omega arith }
read_fine s w Reads.Protected o r = record { opcode = omega arith; addressed = omega arith; reply = omega arith; from = omega arith; len = omega arith; delay = omega arith }

pause_short : (s : Session) → Whole s → page_pause s < 2 ^ 32
unfolding page_pause
pause_short s w =
    by_cond (λ (n : ℕ). n < 2 ^ 32) (s.known && s.params.jesd216a && ltb 1000 s.params.timing.page_prog_time_typ) _ 0
    (λ e. omega (arith, w.typed.params.timing.page_prog_time_typ)) (λ e. omega arith)

page_fine : (s : Session) → Whole s → (a to off : ℕ) → off ≤ to → to < 2 ^ 32 → Fine (page_tx s.settings (page_pause s) a to off)
unfolding page_tx part_last
page_fine s w a to off h l =
    let m : part_last (page_of s.settings) a off to ≤ to = min-le_right (off + (page_of s.settings - (a + off) % page_of s.settings) - 1) to in
    record { opcode = omega arith; addressed = bytes_most s w; reply = omega arith; from = omega arith; len = omega (arith, m); delay = pause_short s w }

write_fine : (s : Session) → Whole s → (c : WriteCommand) → FitWrite c → Fine (write_tx s.settings (page_pause s) c)
unfolding write_tx
write_fine s w (Writes.Program J to off) o = page_fine s w J.base to off o.1.1 (omega (arith, o.1.0, o.0.top))
write_fine s w (Writes.Data a to off) o = page_fine s w a to off o.1 (omega (arith, o.0))

verify_fine : (s : Session) → Whole s → (c : VerifyCommand) → FitVerify c → Fine (verify_tx s.settings.address_bytes c)
unfolding verify_tx
verify_fine s w (Verifies.Compare J to) o =
    record { opcode = omega arith; addressed = bytes_most s w; reply = omega (arith, o.1, o.0.top); from = omega arith; len = omega arith; delay = omega arith }
verify_fine s w (Verifies.Tell J m) o = record { opcode = omega arith; addressed = omega arith; reply = omega arith; from = omega arith; len = omega arith; delay = omega arith }

reset_fine : (c : ResetCommand) → Fine (reset_tx c)
unfolding reset_tx
reset_fine Resets.Enable = record { opcode = omega arith; addressed = omega arith; reply = omega arith; from = omega arith; len = omega arith; delay = omega arith }
reset_fine Resets.Reset = record { opcode = omega arith; addressed = omega arith; reply = omega arith; from = omega arith; len = omega arith; delay = omega arith }
reset_fine Resets.F0 = record { opcode = omega arith; addressed = omega arith; reply = omega arith; from = omega arith; len = omega arith; delay = omega arith }

poll_fine : (s : Session) → Fine (poll_tx s)
unfolding poll_tx
poll_fine s = by (flagged s)
  where
    by : (b : Bool) → Fine (record { opcode = cond b 0x70 0x05; addressed = 0; address = 0; dummy = false; from = 0; len = 0; reply = 1; poll = true; delay = 0 })
    by true = record { opcode = omega arith; addressed = omega arith; reply = omega arith; from = omega arith; len = omega arith; delay = omega arith }
    by false = record { opcode = omega arith; addressed = omega arith; reply = omega arith; from = omega arith; len = omega arith; delay = omega arith }

enable_fine : Fine (bare 0x06 0)
enable_fine = record { opcode = omega arith; addressed = omega arith; reply = omega arith; from = omega arith; len = omega arith; delay = omega arith }

phase_fine : (s : Session) → Whole s → (p : Phase) → FitPhase s p → phase_rule s p ≡ true → Fine (waits_on s p)
unfolding waits_on phase_rule
phase_fine s w (Reading c) o r = read_fine s w c o r
phase_fine s w (Erasing c enabled) o r = by_cond Fine enabled _ _ (λ e. erase_fine s w c) (λ e. enable_fine)
phase_fine s w (Writing c enabled) o r = by_cond Fine enabled _ _ (λ e. write_fine s w c o) (λ e. enable_fine)
phase_fine s w (Polling c left) o r = poll_fine s
phase_fine s w (Verifying c) o r = verify_fine s w c o
phase_fine s w (Resetting c) o r = reset_fine c
phase_fine s w (Ended c a) o r = record { opcode = omega arith; addressed = omega arith; reply = omega arith; from = omega arith; len = omega arith; delay = omega arith }

pub waits_fine : (s : Session) → Whole s → Fine (waits_on s s.phase)
waits_fine s w = phase_fine s w s.phase (rule_fits s w.ruled) (rule_phase s w.ruled)
