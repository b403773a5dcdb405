-- The widths of a session that meets the rule: those of a running phase follow from the rule, but for bytes that were read.
use Rattle.std.proofs.Common.{Option, Some, None, unwrap_or}
use Rattle.std.specs.Option.{option_or}
use Prim.Native.Nat.{ℕ, ◌+◌, ◌-◌, ◌^◌, ◌≤◌, ◌<◌}
use mathlib.Core.Path.{◌≡◌}
use mathlib.Core.Bool.{Bool, true, cond, not, ◌&&◌, ◌||◌}
use native.Mathlib.Omega.{arith}
use lib.Dec.{eqb}
use borrow.Author.Tests.{ltb-true, leb-true, eqb-true}
use Rattle.sfdp.specs.Chosen.{missing, below, lesser, smallest, sector_erase}
use Rattle.sfdp.specs.declared.FlashParams.{FlashParams}
use Rattle.sfdp.specs.declared.SFDPEraseInst.{SFDPEraseInst}
use Rattle.sfdp.specs.declared.SectorErase.{SectorErase}
use Rattle.settings.specs.declared.Settings.{Settings}
use Rattle.settings.specs.Limits.{Sound}
use Rattle.settings.specs.Updated.{legacy_erase, chosen_erase, opcode_or, updated}
use Rattle.settings.proofs.Laws.{accepted_nonempty, accepted_32}
use Rattle.erase_plan.proofs.Lists.{by_cond}
use Rattle.phases.specs.declared.Job.{Job}
use Rattle.phases.specs.declared.ReadCommand.{ReadCommand}
use Rattle.phases.specs.declared.ReadCommand.TheVariants as Reads
use Rattle.phases.specs.declared.EraseCommand.{EraseCommand}
use Rattle.phases.specs.declared.EraseCommand.TheVariants as Erases
use Rattle.phases.specs.declared.WriteCommand.{WriteCommand}
use Rattle.phases.specs.declared.WriteCommand.TheVariants as Writes
use Rattle.phases.specs.declared.PollCommand.{PollCommand}
use Rattle.phases.specs.declared.PollCommand.TheVariants as Polls
use Rattle.phases.specs.declared.VerifyCommand.{VerifyCommand}
use Rattle.phases.specs.declared.VerifyCommand.TheVariants as Verifies
use Rattle.phases.specs.declared.Phase.{Phase}
use Rattle.phases.specs.declared.Phase.TheVariants.{Reading, Erasing, Writing, Polling, Verifying, Resetting, Ended}
use Rattle.flash.specs.declared.Session.{Session}
use Rattle.rule.specs.Rule.{job_rule, plan_rule, differs_rule, table_rule, read_rule, erase_rule, write_rule, poll_rule, verify_rule, has_types, phase_rule}
use Rattle.packed.specs.Typed.{U8, U16, U64, TypedSettings, TypedParams, TypedJob, TypedRead, TypedErase, TypedWrite, TypedPoll, TypedVerify, TypedCommand, TypedAnswer, TypedPhase}
use Rattle.rule.proofs.Tests.{held, job_ordered_lem, plan_job, written}

-- ---- the settings: all but the capacity and the opcode
pub settings_typed : (s : Settings) → Sound s → U64 (unwrap_or s.capacity 0) → U8 s.erase_opcode → TypedSettings s
settings_typed s o c e = record {
  address_bytes = omega (arith, o.address.1);
  capacity = c;
  page_size = omega (arith, o.page);
  erase_size = omega (arith, o.erase);
  erase_opcode = e;
  poll_limit = omega (arith, o.polls.1);
}

-- what a table makes of the opcode
lesser_opcode : (a b : SFDPEraseInst) → U8 a.opcode → U8 b.opcode → U8 (lesser a b).opcode
unfolding lesser
lesser_opcode a b ha hb =
    by_cond (λ (i : SFDPEraseInst). U8 i.opcode) (missing b) a (cond (missing a || below b a) b a) (λ t. ha)
    (λ t. by_cond (λ (i : SFDPEraseInst). U8 i.opcode) (missing a || below b a) b a (λ u. hb) (λ u. ha))

abbrev Narrower : Option SectorErase → Type 0
Narrower (Some x) = U8 x.opcode
Narrower None = Unit {0}

module _ (p : FlashParams) (t : TypedParams p) where
  smallest_opcode : U8 (smallest p.erase_insts).opcode
  unfolding smallest
  smallest_opcode =
      let i = p.erase_insts in
      let w = t.erase_insts in
      lesser_opcode (lesser (lesser i.inst1 i.inst2) i.inst3) i.inst4
      (lesser_opcode (lesser i.inst1 i.inst2) i.inst3 (lesser_opcode i.inst1 i.inst2 w.inst1.opcode w.inst2.opcode) w.inst3.opcode)
      w.inst4.opcode

  sector_opcode : Narrower (sector_erase p.erase_insts)
  unfolding sector_erase
  sector_opcode = by_cond Narrower (missing (smallest p.erase_insts)) None _ (λ u. tt) (λ u. smallest_opcode)

  legacy_opcode : Narrower (legacy_erase p)
  unfolding legacy_erase
  legacy_opcode = by_cond Narrower (p.legacy_4kb_erase_supported && not (eqb p.legacy_4kb_erase_inst 0xFF)) _ None (λ u. t.legacy_4kb_erase_inst) (λ u. tt)

  either_opcode : (a b : Option SectorErase) → Narrower a → Narrower b → Narrower (option_or a b)
  either_opcode (Some x) b ha hb = ha
  either_opcode None b ha hb = hb

  opcode_or_lem : (old : ℕ) (a : Option SectorErase) → U8 old → Narrower a → U8 (opcode_or old a)
  opcode_or_lem old (Some x) ho ha = ha
  opcode_or_lem old None ho ha = ho

  pub updated_opcode : (s : Settings) → U8 s.erase_opcode → U8 (updated s p).erase_opcode
  unfolding updated chosen_erase
  updated_opcode s h =
      opcode_or_lem s.erase_opcode (option_or (sector_erase p.erase_insts) (legacy_erase p)) h
      (either_opcode (sector_erase p.erase_insts) (legacy_erase p) sector_opcode legacy_opcode)

  pub updated_capacity : (s : Settings) → U64 (unwrap_or (updated s p).capacity 0)
  unfolding updated
  updated_capacity s = omega (arith, t.density)

-- ---- phases: what the rule does not say
abbrev pub Narrow : Phase → Type 0
Narrow (Reading c) = Unit {0}
Narrow (Erasing c enabled) = Unit {0}
Narrow (Writing c enabled) = Unit {0}
Narrow (Polling c left) = Unit {0}
Narrow (Verifying (Verifies.Compare J to)) = Unit {0}
Narrow (Verifying (Verifies.Tell J m)) = U8 m.wrote × U8 m.read
Narrow (Resetting c) = Unit {0}
Narrow (Ended c a) = TypedCommand c × TypedAnswer a

pub job_typed : (s : Settings) (J : Job) → job_rule s J ≡ true → TypedJob J
job_typed s J h =
    let o = job_ordered_lem s J h in
    let a : J.base ≤ J.from = o.first in
    let b : J.from ≤ J.last = o.data' in
    let c : J.last ≤ J.top = o.span in
    let d : J.top < 2 ^ 32 = o.top in
    record { from = omega arith; last = omega arith; base = omega arith; top = omega arith }

module _ (s : Settings) (types : Bool) where
  plan_typed : (J : Job) → plan_rule s types J ≡ true → TypedJob J
  plan_typed J h = job_typed s J (plan_job s types J h)

  read_typed : (c : ReadCommand) → read_rule s types c ≡ true → TypedRead c
  unfolding read_rule table_rule
  read_typed (Reads.Read legacy a n) h =
      let m : 1 ≤ n = accepted_nonempty s a n h in
      let l : a + n ≤ 2 ^ 32 = accepted_32 s a n h in
      (omega arith, omega arith)
  read_typed Reads.Header h = tt
  read_typed (Reads.Headers more) h = ltb-true more 256 h
  read_typed (Reads.Table minor plen ptp) h =
      let t = held _ h in
      let p : ptp < 16777216 = ltb-true ptp 16777216 t.1.1.0 in
      (ltb-true minor 256 t.0, ltb-true plen 256 t.1.0, omega arith)
  read_typed (Reads.Before J) h = plan_typed J (held _ h).0
  read_typed (Reads.After J) h = plan_typed J (held _ h).0
  read_typed Reads.Id h = tt
  read_typed Reads.IdAgain h = tt
  read_typed Reads.Protected h = tt

  erase_typed : (c : EraseCommand) → erase_rule s types c ≡ true → TypedErase c
  unfolding erase_rule
  erase_typed Erases.Chip h = tt
  erase_typed (Erases.Sectors at last) h =
      let t = held _ h in
      let m : 1 ≤ last + 1 - at = accepted_nonempty s at (last + 1 - at) t.0 in
      let l : at + (last + 1 - at) ≤ 2 ^ 32 = accepted_32 s at (last + 1 - at) t.0 in
      (omega arith, omega arith)
  erase_typed (Erases.Program J at) h =
      let t = held _ h in
      let j : TypedJob J = plan_typed J t.0 in
      let l : at ≤ J.last = leb-true at J.last t.1.1.0 in
      let m : J.last < 2 ^ 32 = j.last in
      (j, omega arith)

  write_typed : (c : WriteCommand) → write_rule s c ≡ true → TypedWrite c
  unfolding write_rule
  write_typed (Writes.Program J to off) h =
      let t = held _ h in
      let w = written s J to t.0 in
      let j : TypedJob J = job_typed s J w.job in
      let l : J.base + to ≤ J.top = w.within in
      let m : J.top < 2 ^ 32 = j.top in
      let n : off ≤ to = leb-true off to t.1.0 in
      (j, omega arith, omega arith)
  write_typed (Writes.Data a to off) h =
      let t = held _ h in
      let l : a + (to + 1) ≤ 2 ^ 32 = accepted_32 s a (to + 1) t.0 in
      let n : off ≤ to = leb-true off to t.1.0 in
      (omega arith, omega arith, omega arith)

  poll_typed : (c : PollCommand) (left : ℕ) → s.poll_limit ≤ 65535 → poll_rule s types c left ≡ true → TypedPoll c × U16 left
  unfolding poll_rule
  poll_typed Polls.Once left l h = let z : left ≡ 0 = eqb-true left 0 h in (tt, omega arith)
  poll_typed (Polls.Erase c) left l h =
      let t = held _ h in
      let m : left < s.poll_limit = ltb-true left s.poll_limit t.1.0 in
      (erase_typed c t.0, omega arith)
  poll_typed (Polls.Write c) left l h =
      let t = held _ h in
      let m : left < s.poll_limit = ltb-true left s.poll_limit t.1.0 in
      (write_typed c t.0, omega arith)

  verify_typed : (c : VerifyCommand) → verify_rule s c ≡ true → Narrow (Verifying c) → TypedVerify c
  unfolding verify_rule differs_rule
  verify_typed (Verifies.Compare J to) h k =
      let w = written s J to (held _ h).1.0 in
      let j : TypedJob J = job_typed s J w.job in
      let l : J.base + to ≤ J.top = w.within in
      let m : J.top < 2 ^ 32 = j.top in
      (j, omega arith)
  verify_typed (Verifies.Tell J m) h k =
      let t = held _ h in
      let d = held _ t.1.0 in
      let j : TypedJob J = job_typed s J t.0 in
      let l : m.address ≤ J.top = leb-true m.address J.top d.1.1.1.0 in
      let n : J.top < 2 ^ 32 = j.top in
      (j, record { address = omega arith; wrote = k.0; read = k.1 })

pub phase_typed : (s : Session) → s.settings.poll_limit ≤ 65535 → (p : Phase) → phase_rule s p ≡ true → Narrow p → TypedPhase p
unfolding phase_rule
phase_typed s l (Reading c) h k = read_typed s.settings (has_types s) c h
phase_typed s l (Erasing c enabled) h k = erase_typed s.settings (has_types s) c h
phase_typed s l (Writing c enabled) h k = write_typed s.settings (has_types s) c h
phase_typed s l (Polling c left) h k = poll_typed s.settings (has_types s) c left l h
phase_typed s l (Verifying c) h k = verify_typed s.settings (has_types s) c h k
phase_typed s l (Resetting c) h k = tt
phase_typed s l (Ended c a) h k = k
