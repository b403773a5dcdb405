-- Reads, chip erase, erase_sectors and program_data on a part that fits.
use Rattle.std.proofs.Common.{Result, Ok, Err}
use mathlib.Core.Path.{◌≡◌, refl, sym, ap, ap₂, ◌∙◌, subst}
use mathlib.Core.Bool.{true}
use mathlib.Core.List.{List, [], ◌∷◌}
use mathlib.Core.Option.{Option, some}
use Prim.Native.Nat.{ℕ, ◌+◌, ◌-◌, ◌^◌, ◌≤◌, ◌<◌}
use native.Mathlib.Omega.{arith}
use lib.Dec.{leb}
use lib.ListN.{length, take, drop}
use lib.Seq.{take_at}
use Rattle.settings.specs.declared.Settings.{Settings}
use Rattle.settings.specs.Ranges.{accepted_range, last_address}
use Rattle.erase_plan.specs.declared.EraseType.{EraseType}
use Rattle.erase_plan.specs.declared.EraseEntry.{EraseEntry}
use Rattle.erase_plan.specs.Good.{Each, Present, Aligned, Meets, Inside, Good, Kinds}
use Rattle.erase_plan.specs.Plan.{entry_at, plan}
use Rattle.erase_plan.specs.Span.{span_start, span_end, span_check, sectors_check}
use Rattle.erase_plan.proofs.Lists.{each_map}
use Rattle.erase_plan.proofs.Choice.{chosen_each}
use Rattle.erase_plan.proofs.Planned.{plan_each, plan_good}
use Rattle.erase_plan.proofs.Spans.{sectors_exact}
use Rattle.plans.proofs.Types.{WasRead, available_kinds}
use Rattle.commands.specs.declared.Answer.{Answer}
use Rattle.commands.specs.declared.Answer.TheVariants.{Done, NoRoom}
use Rattle.commands.specs.Script.{Sent, Kept, stop, after, give, over, each}
use Rattle.commands.specs.Wire.{wire}
use Rattle.commands.specs.Transactions.{plain, fast_read, read_data, erase_block, write_enable, operation}
use Rattle.commands.specs.Commands.{bad_range, types_of, plan_of, erase_one, read_by, read, legacy_read, erase, erase_sectors}
use Rattle.commands.specs.Calls.{Call}
use Rattle.commands.specs.Calls as Call
use Rattle.commands.specs.Bounds.{limit}
use Rattle.commands.specs.Leaves.{refused}
use Rattle.commands.proofs.Checks.{types_present}
use Rattle.nor_model.specs.Device.{Part, State, address_in, bytes_from, respond}
use Rattle.nor_model.specs.Fits.{Fits}
use Rattle.nor_model.specs.Replay.{set_to_ff, effect}
use Rattle.nor_model.specs.Runs.{Times}
use Rattle.nor_model.specs.Demand3.{Possible, range, Erases}
use Rattle.nor_model.proofs.Memory.{Mem, length_from}
use Rattle.nor_model.proofs.Wires.{address_sent}
use Rattle.nor_model.proofs.Laws.{on_chip, on_erase, on_fast, on_data}
use Rattle.nor_model.proofs.Pages.{all}
use Rattle.nor_model.proofs.Blocks.{wiped, wiped_all}
use Rattle.nor_model.proofs.Does.{Idle, Pollable, Operates, does_after, does_operation, does_each}
use Rattle.nor_model.proofs.Tables.{wanted}
use Rattle.nor_model.proofs.Ended.{Ended, Goal, ended_refused, Barred, barred, no_erase_lem, no_erase_poll, Within, within_part, pollable, need_case, types_case, span_case}

-- the bytes laid over a room's start stand there
pub take_over : (bytes room : List ℕ) → take (length bytes) (over 0 bytes room) ≡ bytes
unfolding over
take_over bytes room = take_at bytes (drop (0 + length bytes) room) (length bytes) refl

-- a command that ends Done with the memory as it should be
pub ended_done : (c : Call) (m : Mem) (w : Kept) (s : State) → Idle (effect c m) s → Possible w
    → take (wanted c).1 w.room ≡ bytes_from m (wanted c).0 (wanted c).1 → Ended c m w Done s
unfolding refused
ended_done c m w s i k r = record { memory = i.same; idle = i.idle; finishes = λ _ _. refl; reads = λ _. r; possible = k }

-- what a command starts with
pub record Started (p : Part) (times : Times) (w : Kept) (s : State) : Type 0 where
  pub fits : Fits p w
  pub possible : Possible w
  pub short : (past : List (List ℕ)) → times past ≤ limit w
  pub idle : s.busy ≡ 0

module _ (p : Part) (times : Times) (w : Kept) (s : State) (S : Started p times w s) where
  abbrev bars : Barred p
  bars = barred p w S.fits

  -- a refusal
  pub refuses : (c : Call) (e : Answer) → refused e ≡ true → Goal p times s c (stop w e)
  refuses c e h = ended_refused c w e s h S.idle S.possible

  -- ---- reads
  read_goal : (c : Call) (by : Settings → ℕ → ℕ → Sent) (a n : ℕ) → effect c s.memory ≡ s.memory → wanted c ≡ (a, n)
      → Erases p (range c) (by w.settings a n)
      → ((wait : ℕ) → Within p a n → respond p wait s (wire (by w.settings a n)) (by w.settings a n).reply ≡ (s, bytes_from s.memory a n))
      → Goal p times s c (read_by by a n w)
  unfolding after refused
  read_goal c by a n e q o law =
      need_case (Goal p times s c) w _ (accepted_range w.settings a n) (bad_range (last_address a n)) (refuses c _ refl)
      (λ h. need_case (Goal p times s c) w _ (leb n (length w.room)) (NoRoom n) (refuses c _ refl)
      (λ _. (
        o,
        rw (law _ (within_part p w S.fits a n h))
            (ended_done c s.memory _ s (record { idle = S.idle; same = sym e }) (record { sound = S.possible.sound; read = S.possible.read }) (rw q (begins n))),
      )))
    where
      begins : (n : ℕ) → take n (over 0 (bytes_from s.memory a n) w.room) ≡ bytes_from s.memory a n
      begins n =
          ap (λ (k : ℕ). take k (over 0 (bytes_from s.memory a n) w.room)) (sym (length_from s.memory a n))
          ∙ take_over (bytes_from s.memory a n) w.room

  pub read_does : (a n : ℕ) → Goal p times s (Call.Read a n) (read a n w)
  unfolding read
  read_does a n =
      read_goal (Call.Read a n) fast_read a n refl refl (no_erase_lem p (0, 0) (fast_read w.settings a n) bars.op_0b)
      (λ wait h. on_fast p wait s S.idle w.settings a n S.fits.addressed bars.op_0b h.fits (omega (arith, h.some, h.holds)))

  pub legacy_does : (a n : ℕ) → Goal p times s (Call.LegacyRead a n) (legacy_read a n w)
  unfolding legacy_read
  legacy_does a n =
      read_goal (Call.LegacyRead a n) read_data a n refl refl (no_erase_lem p (0, 0) (read_data w.settings a n) bars.op03)
      (λ wait h. on_data p wait s S.idle w.settings a n S.fits.addressed bars.op03 h.fits (omega (arith, h.some, h.holds)))

  -- ---- operations
  pub polling : Pollable p times w
  polling = pollable p w times S.fits S.possible S.short

  pub erase_does : Goal p times s Call.Erase (erase w)
  unfolding erase bytes_from
  erase_does =
      does_after p times _ _ [] s (operation (plain 0xC7 0) w) (λ u. give Done) _
      (does_operation p times _ _ w polling (no_erase_poll p (0, 0) w bars) (no_erase_lem p (0, 0) write_enable bars.op06) (plain 0xC7 0) [] s (λ i. 255) _
      (no_erase_lem p (0, 0) (plain 0xC7 0) bars.op_c7) S.idle (λ wait. on_chip p wait _ S.idle bars.op_c7 refl)
      (λ past s' j. ended_done Call.Erase s.memory w s' j S.possible refl))

-- ---- the entries of a plan, as operations
each_both : {A : Type 0} (P Q : A → Type 0) (xs : List A) → Each P xs → Each Q xs → Each (λ (x : A). P x × Q x) xs
each_both P Q [] p q = tt
each_both P Q (x ∷ xs) p q = ((p.0, q.0), each_both P Q xs p.1 q.1)

-- an entry erases exactly its size
pub record Coded (p : Part) (e : EraseEntry) : Type 0 where
  pub code : p.erases e.opcode ≡ some e.size
  pub some : 0 < e.size

plan_coded : (p : Part) (t : EraseType) (ts : List EraseType) → Each Present (t ∷ ts) → Each (λ (t : EraseType). p.erases t.opcode ≡ some t.size) (t ∷ ts)
    → (pos end : ℕ) → Each (Coded p) (plan (t ∷ ts) pos end)
unfolding entry_at
plan_coded p t ts h c pos end =
    plan_each (Coded p) (t ∷ ts) pos end
    (λ q _ _. record {
      code = chosen_each q end (λ (t : EraseType). p.erases t.opcode ≡ some t.size) t ts c;
      some = chosen_each q end Present t ts h;
    })

module _ (p : Part) (st : Settings) (same : st.address_bytes ≡ p.addressed) (r : ℕ × ℕ) (e : EraseEntry) (c : Coded p e) (a : Aligned e)
    (holds : e.base < 256 ^ p.addressed) (meets : Meets r.0 (r.0 + r.1) e) where
  -- the address as the part takes it
  entry_address : address_in p.addressed (drop 1 (wire (erase_block st e))) ≡ e.base
  unfolding wire
  entry_address = rw same (address_sent p.addressed e.base [] holds)

  entry_erases : Erases p r (erase_block st e)
  entry_erases size z =
      let q : size ≡ e.size = same_size (sym z ∙ c.code) in
      record {
        aligned = rw (entry_address, q) a;
        before = rw entry_address meets.0;
        behind = rw (entry_address, q) meets.1;
      }
    where
      same_size : ◌≡◌ {A = Option ℕ} (some size) (some e.size) → size ≡ e.size
      same_size q = cc

  pub entry_operates : e.base < p.capacity → Operates p (Erases p r) (erase_block st e) (wiped e)
  entry_operates has =
      record { ok = entry_erases; law = λ wait s i l. on_erase p wait s i st e same c.code c.some a has holds l }

-- a plan whose span lies in the part
module _ (p : Part) (w : Kept) (f : Fits p w) (k : Possible w) (t : EraseType) (ts : List EraseType) (are : types_of w ≡ t ∷ ts) (a n : ℕ) (more : 0 < n) where
  pub kinds : (L : ℕ) × Kinds L (t ∷ ts)
  kinds = subst (λ (l : List EraseType). (L : ℕ) × Kinds L l) are (available_kinds w.settings w.known w.params from_table (rw are (omega arith)))
    where
      from_table : w.known ≡ true → WasRead w.params
      from_table e = let x = k.read e in record { minor = x.0; count = x.1; table = x.2; gives = x.3 }

  pub good : Good kinds.0 a (a + n) (plan_of w a (a + n))
  good = rw are (plan_good kinds.0 (t ∷ ts) kinds.1 a (a + n) (omega arith))

  coded : Each (Coded p) (plan_of w a (a + n))
  coded = rw are (plan_coded p t ts (subst (Each Present) are (types_present w)) (subst (Each (λ (t : EraseType). p.erases t.opcode ≡ some t.size)) are f.types) a (a + n))

  pub plan_operates : span_end (plan_of w a (a + n)) ≤ p.capacity → span_end (plan_of w a (a + n)) ≤ 256 ^ p.addressed
      → Each (λ (e : EraseEntry). Operates p (Erases p (a, n)) (erase_block w.settings e) (wiped e)) (plan_of w a (a + n))
  plan_operates h l =
      each_map (λ (e : EraseEntry). (Coded p e × Aligned e) × (Meets a (a + n) e × Inside (span_start es) (span_end es) e)) _
      (λ e x. entry_operates p w.settings f.addressed (a, n) e x.0.0 x.0.1 (omega (arith, x.0.0.some, x.1.1.1)) x.1.0
      (omega (arith, x.0.0.some, x.1.1.1))) es
      (each_both _ _ es (each_both (Coded p) Aligned es coded good.aligned) (each_both (Meets a (a + n)) (Inside (span_start es) (span_end es)) es good.meets good.inside))
    where
      es : List EraseEntry
      es = plan_of w a (a + n)

  -- a span that passes its check is the range
  pub exact : span_check a n (span_start (plan_of w a (a + n))) (span_end (plan_of w a (a + n))) ≡ Ok tt
      → (span_start (plan_of w a (a + n)) ≡ a) × (span_end (plan_of w a (a + n)) ≡ a + n)
  unfolding sectors_check
  exact q = rw are (sectors_exact kinds.0 (t ∷ ts) kinds.1 a n more (rw are at q))

  -- the blocks, one after another, are the span
  pub plan_wipes : (m : Mem) → all wiped (plan_of w a (a + n)) m
      ≡ set_to_ff (span_start (plan_of w a (a + n))) (span_end (plan_of w a (a + n)) - span_start (plan_of w a (a + n))) m
  plan_wipes m = wiped_all kinds.0 (a + n) a (plan_of w a (a + n)) m (omega arith) good.covers

-- ---- erase_sectors
module _ (p : Part) (times : Times) (w : Kept) (s : State) (S : Started p times w s) where
  pub sectors_does : (a n : ℕ) → Goal p times s (Call.EraseSectors a n) (erase_sectors a n w)
  unfolding after refused erase_sectors bytes_from
  sectors_does a n =
      need_case (Goal p times s c) w _ (accepted_range w.settings a n) (bad_range (last_address a n)) (refuses p times w s S c _ refl)
      (λ h. types_case (Goal p times s c) w _ (refuses p times w s S c _ refl)
      (λ t ts e. span_case (Goal p times s c) w _ (span_check a n (span_start es) (span_end es)) (λ b. refuses p times w s S c _ refl)
      (λ q. erases (within_part p w S.fits a n h) t ts e q)))
    where
      c : Call
      c = Call.EraseSectors a n

      es : List EraseEntry
      es = plan_of w a (a + n)

      b : Barred p
      b = barred p w S.fits

      erases : Within p a n → (t : EraseType) (ts : List EraseType) → types_of w ≡ t ∷ ts → span_check a n (span_start es) (span_end es) ≡ Ok tt
          → Goal p times s c (after (each erase_one es w) (λ u. give Done))
      erases h t ts e q =
          let x : (span_start es ≡ a) × (span_end es ≡ a + n) = exact p w S.fits S.possible t ts e a n h.some q in
          does_after p times (Erases p (a, n)) (Ended c s.memory) [] s (each erase_one es w) (λ u. give Done) _
          (does_each p times (Erases p (a, n)) (Ended c s.memory) w (polling p times w s S) (no_erase_poll p (a, n) w b) (no_erase_lem p (a, n) write_enable b.op06)
          erase_one (erase_block w.settings) wiped (λ e. refl) es [] s _
          (plan_operates p w S.fits S.possible t ts e a n h.some (omega (arith, x.1, h.fits)) (omega (arith, x.1, h.holds)))
          S.idle
          (λ past s' j. ended_done c s.memory w s'
          (record { idle = j.idle; same = j.same ∙ plan_wipes p w S.fits S.possible t ts e a n h.some s.memory ∙ span x }) S.possible refl))
        where
          span : (span_start es ≡ a) × (span_end es ≡ a + n) → set_to_ff (span_start es) (span_end es - span_start es) s.memory ≡ set_to_ff a n s.memory
          span x = let z : span_end es - span_start es ≡ n = omega (arith, x.0, x.1) in ap₂ (λ (i j : ℕ). set_to_ff i j s.memory) x.0 z
