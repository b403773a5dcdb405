-- How a command ends on a part that fits, and what its pieces rest on.
use Rattle.std.proofs.Common.{Result, Ok, Err}
use mathlib.Core.Path.{◌≡◌, refl, sym, ◌∙◌}
use mathlib.Core.Bool.{Bool, true, false, cond}
use mathlib.Core.List.{List, [], ◌∷◌}
use mathlib.Core.Option.{Option, some, none}
use Prim.Native.Nat.{ℕ, ◌+◌, ◌^◌, ◌≤◌}
use native.Mathlib.Omega.{arith}
use native.Mathlib.Nat.{pow-le-pow_right, min-le_left, le_trans}
use lib.ListN.{take}
use Rattle.settings.specs.Ranges.{accepted_range}
use Rattle.settings.proofs.Laws.{accepted_nonempty, accepted_reach, accepted_capacity}
use Rattle.erase_plan.specs.declared.EraseType.{EraseType}
use Rattle.erase_plan.proofs.Lists.{no_true}
use Rattle.commands.specs.declared.Answer.{Answer}
use Rattle.commands.specs.declared.Answer.TheVariants.{NoEraseInstruction}
use Rattle.commands.specs.Answers.{number_of}
use Rattle.commands.specs.Script.{Sent, Kept, Script, done, stop, Cmd, after, need, roomed}
use Rattle.commands.specs.Transactions.{by_flag, status_poll}
use Rattle.commands.specs.Commands.{bad_range, types_of, have_types, span_fits}
use Rattle.commands.specs.Calls.{Call}
use Rattle.commands.specs.Bounds.{limit}
use Rattle.commands.specs.Leaves.{refused}
use Rattle.nor_model.specs.Device.{Part, State, bytes_from}
use Rattle.nor_model.specs.Fits.{other_command, Apart, Fits}
use Rattle.nor_model.specs.Replay.{effect}
use Rattle.nor_model.specs.Runs.{Times}
use Rattle.nor_model.specs.Demand3.{Possible, range, Erases}
use Rattle.nor_model.proofs.Memory.{Mem}
use Rattle.nor_model.proofs.Tables.{finishing, wanted}
use Rattle.nor_model.proofs.Does.{Pollable, Does}

-- ---- the end of a command that was started with the memory m
pub record Ended (c : Call) (m : Mem) (w : Kept) (a : Answer) (s : State) : Type 0 where
  pub memory : s.memory ≡ cond (refused a) m (effect c m)
  pub idle : s.busy ≡ 0
  pub finishes : refused a ≡ false → finishing c ≡ true → number_of a ≡ 0
  pub reads : refused a ≡ false → take (wanted c).1 w.room ≡ bytes_from m (wanted c).0 (wanted c).1
  pub possible : Possible w

-- what is to be shown of a command's script
abbrev pub Goal : Part → Times → State → Call → Script Answer → Type 0
Goal p times s c x = Does p times (Erases p (range c)) (Ended c s.memory) [] s x (λ a w past s'. Ended c s.memory w a s')

-- refused at the start
pub ended_refused : (c : Call) (w : Kept) (e : Answer) (s : State) → refused e ≡ true → s.busy ≡ 0 → Possible w → Ended c s.memory w e s
ended_refused c w e s h i k =
    record {
      memory = rw h;
      idle = i;
      finishes = λ n. no_true (sym n ∙ h);
      reads = λ n. no_true (sym n ∙ h);
      possible = k;
    }

-- ---- a part that fits
-- the other commands are none of its erases
pub record Barred (p : Part) : Type 0 where
  pub op02 : p.erases 0x02 ≡ none
  pub op03 : p.erases 0x03 ≡ none
  pub op05 : p.erases 0x05 ≡ none
  pub op06 : p.erases 0x06 ≡ none
  pub op_0b : p.erases 0x0B ≡ none
  pub op_5a : p.erases 0x5A ≡ none
  pub op66 : p.erases 0x66 ≡ none
  pub op70 : p.erases 0x70 ≡ none
  pub op99 : p.erases 0x99 ≡ none
  pub op_9f : p.erases 0x9F ≡ none
  pub op_c7 : p.erases 0xC7 ≡ none
  pub op_f0 : p.erases 0xF0 ≡ none

pub barred_of : (p : Part) → Apart p → Barred p
unfolding other_command
barred_of p f =
    record {
      op02 = f 0x02 refl;
      op03 = f 0x03 refl;
      op05 = f 0x05 refl;
      op06 = f 0x06 refl;
      op_0b = f 0x0B refl;
      op_5a = f 0x5A refl;
      op66 = f 0x66 refl;
      op70 = f 0x70 refl;
      op99 = f 0x99 refl;
      op_9f = f 0x9F refl;
      op_c7 = f 0xC7 refl;
      op_f0 = f 0xF0 refl;
    }

pub barred : (p : Part) (w : Kept) → Fits p w → Barred p
barred p w f = barred_of p f.apart

-- another room changes nothing of it
pub fits_roomed : (p : Part) (w : Kept) (room : List ℕ) → Fits p w → Fits p (roomed w room)
unfolding by_flag
fits_roomed p w room f =
    record { capacity = f.capacity; addressed = f.addressed; page = f.page; types = f.types; apart = f.apart; poll = f.poll }

pub possible_roomed : (w : Kept) (room : List ℕ) → Possible w → Possible (roomed w room)
possible_roomed w room k = record { sound = k.sound; read = k.read }

-- operations come to their end
pub pollable : (p : Part) (w : Kept) (times : Times) → Fits p w → Possible w → ((past : List (List ℕ)) → times past ≤ limit w) → Pollable p times w
pollable p w times f k h =
    let b = barred p w f in
    record { op06 = b.op06; op05 = b.op05; op70 = b.op70; offered = f.poll; some = k.sound.polls.0; short = h }

-- a transaction that is no erase
pub no_erase_lem : (p : Part) (r : ℕ × ℕ) (t : Sent) → p.erases t.opcode ≡ none → Erases p r t
no_erase_lem p r t h size e = let z : ◌≡◌ {A = ℕ} 0 1 = clash (sym h ∙ e) in absurd (omega arith)
  where
    clash : ◌≡◌ {A = Option ℕ} none (some size) → ◌≡◌ {A = ℕ} 0 1
    clash q = cc

pub no_erase_poll : (p : Part) (r : ℕ × ℕ) (w : Kept) → Barred p → Erases p r (status_poll w)
no_erase_poll p r w b = no_erase_lem p r (status_poll w) (go (by_flag w))
  where
    go : (flag : Bool) → p.erases (cond flag 0x70 0x05) ≡ none
    go true = b.op70
    go false = b.op05

-- an accepted range lies in the part, and its addresses in the address bytes
pub record Within (p : Part) (a n : ℕ) : Type 0 where
  pub some : 1 ≤ n
  pub fits : a + n ≤ p.capacity
  pub holds : a + n ≤ 256 ^ p.addressed

pub within_part : (p : Part) (w : Kept) → Fits p w → (a n : ℕ) → accepted_range w.settings a n ≡ true → Within p a n
within_part p w f a n h =
    record {
      some = accepted_nonempty w.settings a n h;
      fits = omega (arith, accepted_capacity w.settings a n h p.capacity f.capacity);
      holds = rw (← f.addressed) (le_trans (accepted_reach w.settings a n h)
          (pow-le-pow_right {n = 256} (omega arith) (min-le_left w.settings.address_bytes 4)));
    }

-- ---- one check of a command: it refuses, or the command goes on
module _ {B : Type 0} (P : Script B → Type 0) (w : Kept) (k : Unit {0} → Cmd B) where
  pub need_case : (t : Bool) (e : Answer) → P (stop w e) → (t ≡ true → P (k tt w)) → P (after (need t e w) k)
  unfolding after
  need_case true e p q = q refl
  need_case false e p q = p

  pub types_case : P (stop w NoEraseInstruction) → ((t : EraseType) (ts : List EraseType) → types_of w ≡ t ∷ ts → P (k tt w)) → P (after (have_types w) k)
  unfolding after
  types_case p q = go (types_of w) refl
    where
      go : (l : List EraseType) → types_of w ≡ l → P (after (elim l [ [] ↦ stop w NoEraseInstruction | (t ∷ ts) ↦ done w tt ]) k)
      go [] e = p
      go (t ∷ ts) e = q t ts e

  pub span_case : (s : Result (Unit {0}) ℕ) → ((a : ℕ) → P (stop w (bad_range a))) → (s ≡ Ok tt → P (k tt w)) → P (after (span_fits s w) k)
  unfolding after
  span_case (Ok _) p q = q refl
  span_case (Err a) p q = p a
