-- The commands that leave the memory alone: reset, ID, is_busy, is_protected, read_params.
use Rattle.std.proofs.Common.{Result, Ok, Err}
use mathlib.Core.Path.{◌≡◌, refl, sym, ap, ◌∙◌}
use mathlib.Core.Bool.{Bool, true, false, cond, ◌&&◌, ◌||◌, not}
use mathlib.Core.List.{List, [], ◌∷◌}
use mathlib.Core.Option.{none}
use Prim.Native.Nat.{ℕ, ◌+◌, ◌*◌}
use lib.Dec.{eqb, leb}
use lib.ListN.{length}
use Rattle.sfdp.specs.declared.FlashParams.{FlashParams}
use Rattle.sfdp.specs.declared.SFDPParameterHeader.{SFDPParameterHeader}
use Rattle.sfdp.specs.declared.SFDPError.{SFDPError}
use Rattle.dwords.specs.Dwords.{byte_at}
use Rattle.sfdp.specs.Jesd216.{headers, read_header, read_table}
use Rattle.erase_plan.proofs.Lists.{no_true}
use Rattle.settings.proofs.Laws.{update_sound}
use Rattle.commands.specs.Answers.{refusal_of}
use Rattle.commands.specs.declared.Answer.{Answer}
use Rattle.commands.specs.declared.Answer.TheVariants.{Done, NoResetInstruction, InvalidSFDPParams, NoRoom}
use Rattle.commands.specs.Answers.{number_of}
use Rattle.commands.specs.Script.{Kept, Script, stop, done, after, ◌>>=◌, ◌>>◌, give, ask, roomed, over}
use Rattle.commands.specs.Wire.{wire, high_first}
use Rattle.commands.specs.Transactions.{plain, status1, read_sfdp}
use Rattle.commands.specs.Commands.{with_table, with_header, read_params, reset, id_at, first_id, read_jedec_id, is_busy, is_protected}
use Rattle.commands.specs.Calls.{Call}
use Rattle.commands.specs.Calls as Call
use Rattle.commands.specs.Leaves.{refused}
use Rattle.nor_model.specs.Device.{Part, State, bytes_from}
use Rattle.nor_model.specs.Runs.{Times, replied}
use Rattle.nor_model.specs.Demand3.{Possible, Erases}
use Rattle.nor_model.specs.Replay.{effect}
use Rattle.nor_model.proofs.Memory.{Mem}
use Rattle.nor_model.proofs.Laws.{Quiet, quiet_status, quiet_poll, quiet_id, quiet_sfdp, quiet_prepare, quiet_99, quiet_f0}
use Rattle.nor_model.proofs.Does.{Idle, Does}
use Rattle.nor_model.proofs.Tables.{finishing, wanted}
use Rattle.nor_model.proofs.Ended.{Ended, Goal, ended_refused, Barred, possible_roomed, no_erase_lem, no_erase_poll, need_case}

-- a quiet command: it changes no memory and is no read
record Still (c : Call) : Type 0 where
  effects : (m : Mem) → effect c m ≡ m
  none : wanted c ≡ (0, 0)

cond_same : {A : Type 0} (b : Bool) (x : A) → x ≡ cond b x x
cond_same true x = refl
cond_same false x = refl

ended_still : (c : Call) → Still c → (m : Mem) (w : Kept) (a : Answer) (s : State) → (finishing c ≡ true → number_of a ≡ 0) → Idle m s → Possible w → Ended c m w a s
unfolding bytes_from
ended_still c q m w a s f i k =
    record {
      memory = i.same ∙ cond_same (refused a) m ∙ ap (λ (f : Mem). cond (refused a) m f) (sym (q.effects m));
      idle = i.idle;
      finishes = λ _. f;
      reads = λ n. rw q.none;
      possible = k;
    }

-- a transaction that leaves the memory alone, after others
pub onward : (m : Mem) (s : State) (out : State × List ℕ) → Idle m s → Quiet s out → Idle m out.0
onward m s out i q = record { idle = q.idle; same = q.memory ∙ i.same }

module _ (p : Part) (b : Barred p) (times : Times) (w : Kept) (k : Possible w) (s : State) (i : s.busy ≡ 0) where
  abbrev start : Idle s.memory s
  start = record { idle = i; same = refl }

  pub reset_does : Goal p times s Call.Reset (reset w)
  unfolding after reset wire high_first refused
  reset_does = go (not (w.known && w.params.jesd216a) || w.params.reset_inst_66_99) w.params.reset_inst_f0
    where
      q : Still Call.Reset
      q = record { effects = λ m. refl; none = refl }

      go : (x y : Bool)
          → Goal p times s Call.Reset
          (cond x ((do
            ask (plain 0x66 0)
            ask (plain 0x99 0)
            give Done) w)
          (cond y ((do
            ask (plain 0xF0 0)
            give Done) w) (stop w NoResetInstruction)))
      go true y =
          let i₁ = onward s.memory s _ start (quiet_prepare p _ s i [] 0 b.op66) in
          let i₂ = onward s.memory _ _ i₁ (quiet_99 p _ _ i₁.idle [] 0 b.op99) in
          (no_erase_lem p (0, 0) (plain 0x66 0) b.op66, (no_erase_lem p (0, 0) (plain 0x99 0) b.op99, ended_still Call.Reset q s.memory w Done _ (λ _. refl) i₂ k))
      go false true =
          let i₁ = onward s.memory s _ start (quiet_f0 p _ s i [] 0 b.op_f0) in
          (no_erase_lem p (0, 0) (plain 0xF0 0) b.op_f0, ended_still Call.Reset q s.memory w Done _ (λ _. refl) i₁ k)
      go false false = ended_refused Call.Reset w NoResetInstruction s refl i k

  pub id_does : Goal p times s Call.ReadJedecId (read_jedec_id w)
  unfolding after read_jedec_id wire high_first
  id_does = (no_erase_lem p (0, 0) (plain 0x9F 3) b.op_9f, go (eqb (byte_at (replied p times [] s (plain 0x9F 3)).1 0) 0x7F))
    where
      q : Still Call.ReadJedecId
      q = record { effects = λ m. refl; none = refl }

      i₁ : Idle s.memory (replied p times [] s (plain 0x9F 3)).0
      i₁ = onward s.memory s _ start (quiet_id p _ s i [] 3 b.op_9f)

      go : (x : Bool)
          → Does p times (Erases p (0, 0)) (Ended Call.ReadJedecId s.memory) ((0x9F ∷ []) ∷ []) (replied p times [] s (plain 0x9F 3)).0
          (cond x ((do
            r' ← ask (plain 0x9F 16)
            give (first_id 13 1 r')) w) (done w (id_at 0 (replied p times [] s (plain 0x9F 3)).1))) (λ a w' past s'. Ended Call.ReadJedecId s.memory w' a s')
      go true = (
        no_erase_lem p (0, 0) (plain 0x9F 16) b.op_9f,
        ended_still Call.ReadJedecId q s.memory w _ _ (λ e. no_true e) (onward s.memory _ _ i₁ (quiet_id p _ _ i₁.idle [] 16 b.op_9f)) k,
      )
      go false = ended_still Call.ReadJedecId q s.memory w _ _ (λ e. no_true e) i₁ k

  pub busy_does : Goal p times s Call.IsBusy (is_busy w)
  unfolding after is_busy wire high_first
  busy_does = (
    no_erase_poll p (0, 0) w b,
    ended_still Call.IsBusy (record { effects = λ m. refl; none = refl }) s.memory w _ _ (λ _. refl)
        (onward s.memory s _ start (quiet_poll p _ s i [] 1 w b.op05 b.op70)) k,
  )

  pub protected_does : Goal p times s Call.IsProtected (is_protected w)
  unfolding after is_protected wire high_first
  protected_does = (
    no_erase_lem p (0, 0) status1 b.op05,
    ended_still Call.IsProtected (record { effects = λ m. refl; none = refl }) s.memory w _ _ (λ _. refl)
        (onward s.memory s _ start (quiet_status p _ s i [] 1 b.op05)) k,
  )

-- ---- read_params
module _ (p : Part) (b : Barred p) (times : Times) (w : Kept) (k : Possible w) (m : Mem) where
  abbrev Quietly : List (List ℕ) → State → Script Answer → Type 0
  Quietly past s x = Does p times (Erases p (0, 0)) (Ended Call.ReadParams m) past s x (λ a w' past s'. Ended Call.ReadParams m w' a s')

  still : Still Call.ReadParams
  still = record { effects = λ m. refl; none = refl }

  -- one 5A read
  sfdp_idle : (a n : ℕ) (past : List (List ℕ)) (s : State) → Idle m s → Idle m (replied p times past s (read_sfdp a n)).0
  unfolding wire
  sfdp_idle a n past s i = onward m s _ i (quiet_sfdp p _ s i.idle _ n b.op_5a)

  table_does : (minor count : ℕ) (table : List ℕ) (room : List ℕ) (past : List (List ℕ)) (s : State) → Idle m s
      → Quietly past s (with_table (read_table minor count table) (roomed w room))
  unfolding after
  table_does minor count table room past s i = go (read_table minor count table) refl
    where
      go : (x : Result FlashParams SFDPError) → read_table minor count table ≡ x → Quietly past s (with_table x (roomed w room))
      go (Err y) e = ended_still Call.ReadParams still m (roomed w room) (refusal_of y) s (λ e. no_true e) i (possible_roomed w room k)
      go (Ok x) e =
          ended_still Call.ReadParams still m _ Done s (λ e. no_true e) i
          (record {
            sound = update_sound w.settings k.sound minor count table x e;
            read = λ _. (minor, count, table, e);
          })

  header_does : (x : Result SFDPParameterHeader SFDPError) (room : List ℕ) (past : List (List ℕ)) (s : State) → Idle m s → Quietly past s (with_header x (roomed w room))
  unfolding after
  header_does (Err y) room past s i = ended_still Call.ReadParams still m _ _ s (λ e. no_true e) i (possible_roomed w room k)
  header_does (Ok h) room past s i = (
    no_erase_lem p (0, 0) (read_sfdp h.ptp (4 * h.plen)) b.op_5a,
    table_does h.minor h.plen _ _ _ _ (sfdp_idle h.ptp (4 * h.plen) past s i),
  )

pub params_does : (p : Part) (b : Barred p) (times : Times) (w : Kept) (k : Possible w) (s : State) (i : s.busy ≡ 0)
    → Goal p times s Call.ReadParams (read_params w)
unfolding after read_params refused
params_does p b times w k s i =
    need_case (Goal p times s Call.ReadParams) w _ (leb 2056 (length w.room)) (NoRoom 2056)
    (ended_refused Call.ReadParams w (NoRoom 2056) s refl i k)
    (λ _. (
      no_erase_lem p (0, 0) (read_sfdp 0 8) b.op_5a,
      (
        no_erase_lem p (0, 0) (read_sfdp 0 n) b.op_5a,
        header_does p b times w k s.memory (read_header q₂.1) (over 0 q₂.1 (over 0 q₁.1 w.room)) (wire (read_sfdp 0 n) ∷ past₁) q₂.0
            (sfdp_idle p b times w k s.memory 0 n past₁ q₁.0
            (sfdp_idle p b times w k s.memory 0 8 [] s (record { idle = i; same = refl }))),
      ),
    ))
  where
    past₁ : List (List ℕ)
    past₁ = wire (read_sfdp 0 8) ∷ []

    q₁ : State × List ℕ
    q₁ = replied p times [] s (read_sfdp 0 8)

    n : ℕ
    n = 8 + 8 * headers q₁.1

    q₂ : State × List ℕ
    q₂ = replied p times past₁ q₁.0 (read_sfdp 0 n)
