-- What a start hands back: refused, all is as it was; begun, it needs the command's room.
use Rattle.std.proofs.Common.{Result, Ok, Err}
use mathlib.Core.Path.{◌≡◌, refl, sym, ap, ◌∙◌}
use mathlib.Core.Bool.{Bool, true, false, not, ◌&&◌, ◌||◌}
use mathlib.Core.List.{List}
use Prim.Native.Nat.{ℕ, zero, suc, ◌+◌, ◌-◌, ◌≤◌, ◌<◌}
use native.Mathlib.Omega.{arith}
use lib.Dec.{eqb, ltb, leb}
use lib.ListN.{length}
use Rattle.settings.specs.Ranges.{accepted_range, last_address}
use Rattle.settings.proofs.Laws.{accepted_nonempty}
use Rattle.erase_plan.specs.Plan.{plan}
use Rattle.erase_plan.specs.Span.{span_start, span_end, survey_of, span_check}
use Rattle.erase_plan.proofs.Lists.{by_cond, no_true, no_false}
use Rattle.commands.specs.declared.Answer.{Answer}
use Rattle.commands.specs.declared.Answer.TheVariants.{Done, NoResetInstruction, NoEraseInstruction, NoRoom, BadSession}
use Rattle.commands.specs.Calls.{Call, Read, LegacyRead, ReadParams, Erase, EraseSectors, Program, ProgramData, Reset, ReadJedecId, IsBusy, IsProtected}
use Rattle.commands.specs.Leaves.{refused, room_need}
use Rattle.phases.specs.declared.Job.{Job}
use Rattle.phases.specs.declared.ReadCommand.TheVariants as Reads
use Rattle.phases.specs.declared.EraseCommand.TheVariants as Erases
use Rattle.phases.specs.declared.WriteCommand.TheVariants as Writes
use Rattle.phases.specs.declared.PollCommand.TheVariants as Polls
use Rattle.phases.specs.declared.ResetCommand.TheVariants as Resets
use Rattle.phases.specs.declared.Command.TheVariants as Ends
use Rattle.phases.specs.declared.Phase.{Phase}
use Rattle.phases.specs.declared.Phase.TheVariants.{Reading, Erasing, Writing, Polling, Resetting}
use Rattle.flash.specs.declared.Session.{Session}
use Rattle.phases.specs.declared.Transaction.{Transaction}
use Rattle.flash.specs.declared.Event.{Event}
use Rattle.flash.specs.declared.Event.TheVariants.{Send, Answered}
use Rattle.flash.specs.declared.Stepped.{Stepped}
use Rattle.flash.specs.Starts.{Start}
use Rattle.flash.specs.Waits.{types_of, event_of, told}
use Rattle.phases.specs.Waits.{span_of, read_need, erase_need, write_need, poll_need, need_of}
use Rattle.flash.specs.Steps.{goes, ends, Taken}
use Rattle.phases.specs.Moves.{to_after, to_before, is_ended}
use Rattle.flash.specs.Starts.{unless_runs, in_range, have_types, room_for, start_read, start_read_params, start_erase, survey_for, span_fits, start_erase_sectors, start_reset, start_read_jedec_id, start_is_busy, start_is_protected, start_out, start_room, checked, invalid, job_for, begin_program, start_program, begin_data, start_program_data}
use Rattle.meaning.specs.Meaning.{kept_of, Idle}
use Rattle.meaning.proofs.Unroll.{types_present}
use Rattle.meaning.proofs.Spanning.{Holds, span_holds}
use Rattle.on_part.specs.OnPart.{start_of}
use Rattle.on_part.specs.Between.{Runs, stays}
use Rattle.on_part.proofs.Resting.{is_answer, told_rests}

-- ---- while a command runs
check_runs : (s : Session) (d room : List ℕ) (ok : Bool) (b : Start) → ok ≡ false
    → ◌≡◌ {A = Taken} (record { out = start_out (checked ok s BadSession b); room = start_room (checked ok s BadSession b) d room }) (stays s room BadSession 0)
check_runs s d room true b e = no_false e
check_runs s d room false b e = refl

unless_runs_lem : (s : Session) (room : List ℕ) (x : Stepped) → Runs s → ◌≡◌ {A = Taken} (record { out = unless_runs s x; room = room }) (stays s room BadSession 0)
unfolding unless_runs
unless_runs_lem s room x h = rw h

pub start_runs : (c : Call) (s : Session) (room : List ℕ) → Runs s → start_of c s room ≡ stays s room BadSession 0
unfolding start_read start_read_params start_erase start_erase_sectors start_program begin_program start_program_data begin_data start_reset start_read_jedec_id start_is_busy start_is_protected
start_runs (Read a n) s room h = unless_runs_lem s room _ h
start_runs (LegacyRead a n) s room h = unless_runs_lem s room _ h
start_runs ReadParams s room h = unless_runs_lem s room _ h
start_runs Erase s room h = unless_runs_lem s room _ h
start_runs (EraseSectors a n) s room h = unless_runs_lem s room _ h
start_runs (Program a d v) s room h = check_runs s d room (is_ended s.phase) _ h
start_runs (ProgramData a d) s room h = check_runs s d room (is_ended s.phase) _ h
start_runs Reset s room h = unless_runs_lem s room _ h
start_runs ReadJedecId s room h = unless_runs_lem s room _ h
start_runs IsBusy s room h = unless_runs_lem s room _ h
start_runs IsProtected s room h = unless_runs_lem s room _ h

-- ---- else: of what a start hands back, where the command needs n bytes
pub record Given (s : Session) (room : List ℕ) (n : ℕ) (x : Taken) : Type 0 where
  pub stayed : (a : Answer) (m : ℕ) → x.out.event ≡ Answered a m → refused a ≡ true → x ≡ stays s room a 0
  pub ended : (a : Answer) (m : ℕ) → x.out.event ≡ Answered a m → refused a ≡ false → x.out ≡ told x.out.session
  pub needs : (t : Transaction) → x.out.event ≡ Send t → need_of x.out.session.phase ≡ n

abbrev answered : Event → Answer
answered (Send t) = Done
answered (Answered a n) = a

-- the first phase of a program
before_runs : (J : Job) → is_ended (to_before J) ≡ false
unfolding to_before to_after is_ended
before_runs J =
    by_cond (λ (p : Phase). is_ended p ≡ false) (ltb J.base J.from) _ _ (λ t. refl)
    (λ t. by_cond (λ (p : Phase). is_ended p ≡ false) (ltb J.last J.top) _ _ (λ t. refl) (λ t. refl))

before_needs : (J : Job) → need_of (to_before J) ≡ span_of J
unfolding to_before to_after need_of read_need erase_need
before_needs J =
    by_cond (λ (p : Phase). need_of p ≡ span_of J) (ltb J.base J.from) _ _ (λ t. refl)
    (λ t. by_cond (λ (p : Phase). need_of p ≡ span_of J) (ltb J.last J.top) _ _ (λ t. refl) (λ t. refl))

some_types : (k : ℕ) → not (eqb k 0) ≡ true → 0 < k
some_types zero e = no_true e
some_types (suc k) e = omega arith

module _ (s : Session) (idle : Idle s) (room : List ℕ) (n : ℕ) where
  refusal : (a : Answer) → refused a ≡ true → Given s room n (stays s room a 0)
  refusal a r =
      record {
        stayed = λ b m h q. ap (λ (z : Answer). stays s room z 0) (ap answered h);
        ended = λ b m h q. no_true (sym q ∙ ap refused (sym (ap answered h)) ∙ r);
        needs = λ t h. no_false (ap is_answer h);
      }

  -- a command that begins in a phase, with the room as it is then
  begun : (p : Phase) (w : List ℕ) → is_ended p ≡ false → need_of p ≡ n → Given s room n (record { out = told (goes s 0 p); room = w })
  unfolding told
  begun p w e k =
      record {
        stayed = λ a m h q. no_true (sym e ∙ told_rests (goes s 0 p) ∙ ap is_answer h);
        ended = λ a m h q. refl;
        needs = λ t h. k;
      }

  abbrev Gives : Stepped → Type 0
  Gives x = Given s room n (record { out = x; room = room })

  -- ---- the checks
  idle_gives : (x : Stepped) → Gives x → Gives (unless_runs s x)
  unfolding unless_runs
  idle_gives x h = rw idle h

  range_gives : (a k : ℕ) (x : Stepped) → Gives x → Gives (in_range s a k x)
  unfolding in_range refused
  range_gives a k x h = by_cond (λ (y : Stepped). Gives y) (accepted_range s.settings a k) x _ (λ t. h) (λ t. refusal (invalid (last_address a k)) refl)

  types_gives : (x : Stepped) → Gives x → Gives (have_types s x)
  unfolding have_types refused
  types_gives x h = by_cond (λ (y : Stepped). Gives y) (eqb (length (types_of s)) 0) _ x (λ t. refusal NoEraseInstruction refl) (λ t. h)

  room_gives : (k : ℕ) (x : Stepped) → Gives x → Gives (room_for s k (length room) x)
  unfolding room_for refused
  room_gives k x h = by_cond (λ (y : Stepped). Gives y) (ltb (length room) k) _ x (λ t. refusal (NoRoom k) refl) (λ t. h)

  span_gives : (o : Result (Unit {0}) ℕ) (x : Stepped) → Gives x → Gives (span_fits s o x)
  unfolding refused
  span_gives (Ok _) x h = h
  span_gives (Err a) x h = refusal (invalid a) refl

  -- ---- over the starts with data
  module _ (d : List ℕ) where
    abbrev Lays : Start → Type 0
    Lays b = Given s room n (record { out = start_out b; room = start_room b d room })

    check : (ok : Bool) (a : Answer) (b : Start) → refused a ≡ true → (ok ≡ true → Lays b) → Lays (checked ok s a b)
    check true a b r h = h refl
    check false a b r h = refusal a r

    idle_check : (b : Start) → Lays b → Lays (checked (is_ended s.phase) s BadSession b)
    idle_check b h = rw idle h

-- ---- the commands
module _ (s : Session) (idle : Idle s) (room : List ℕ) where
  read_given : (legacy : Bool) (a n : ℕ) → Given s room n (record { out = start_read s legacy a n (length room); room = room })
  unfolding start_read is_ended need_of read_need
  read_given legacy a n =
      idle_gives s idle room n _
      (range_gives s idle room n a n _ (room_gives s idle room n n _ (begun s idle room n (Reading (Reads.Read legacy a n)) room refl refl)))

  params_given : Given s room 2056 (record { out = start_read_params s (length room); room = room })
  unfolding start_read_params is_ended need_of read_need
  params_given = idle_gives s idle room 2056 _ (room_gives s idle room 2056 2056 _ (begun s idle room 2056 (Reading Reads.Header) room refl refl))

  sectors_given : (a n : ℕ) → Given s room 0 (record { out = start_erase_sectors s a n; room = room })
  unfolding start_erase_sectors is_ended need_of erase_need
  sectors_given a n =
      idle_gives s idle room 0 _
      (range_gives s idle room 0 a n _
      (types_gives s idle room 0 _
      (span_gives s idle room 0 (span_check a n (survey_for s a n).first (survey_for s a n).end) _
      (begun s idle room 0 (Erasing (Erases.Sectors a (a + n - 1)) false) room refl refl))))

  reset_given : Given s room 0 (record { out = start_reset s; room = room })
  unfolding start_reset is_ended need_of refused
  reset_given =
      idle_gives s idle room 0 _
      (by_cond (λ (x : Stepped). Gives s idle room 0 x) (not (s.known && s.params.jesd216a) || s.params.reset_inst_66_99) _ _
      (λ t. begun s idle room 0 (Resetting Resets.Enable) room refl refl)
      (λ t. by_cond (λ (x : Stepped). Gives s idle room 0 x) s.params.reset_inst_f0 _ _ (λ t. begun s idle room 0 (Resetting Resets.F0) room refl refl)
      (λ t. refusal s idle room 0 NoResetInstruction refl)))

  -- a program: the span of its plan reaches past its first address, so that the need is that of its job
  job_needs : (a n : ℕ) (v : Bool) → accepted_range s.settings a n ≡ true → not (eqb (length (types_of s)) 0) ≡ true
      → need_of (to_before (job_for a (a + n - 1) v (survey_for s a n))) ≡ span_end (plan (types_of s) a (a + n)) - span_start (plan (types_of s) a (a + n))
  unfolding survey_of
  job_needs a n v e f =
      let more : 1 ≤ n = accepted_nonempty s.settings a n e in
      let h : Holds (types_of s) a (a + n) =
      span_holds (types_of s) (types_present (kept_of s room)) a (a + n) (omega (arith, more)) (some_types (length (types_of s)) f) in
      let l : a + n ≤ span_end (plan (types_of s) a (a + n)) = h.reaches in
      before_needs (job_for a (a + n - 1) v (survey_for s a n)) ∙ omega (arith, more, l)

  program_given : (a : ℕ) (d : List ℕ) (v : Bool) → Given s room (room_need (Program a d v) (kept_of s room)) (start_program s a d v room)
  unfolding start_program begin_program survey_of refused
  program_given a d v =
      let n = length d in
      let first = span_start (plan (types_of s) a (a + n)) in
      let k = span_end (plan (types_of s) a (a + n)) - first in
      let j = job_for a (a + n - 1) v (survey_for s a n) in
      idle_check s idle room k d _
      (check s idle room k d (accepted_range s.settings a n) _ _ refl (λ e. check s idle room k d (not (eqb (length (types_of s)) 0)) _ _ refl
      (λ f. check s idle room k d (accepted_range s.settings first k) _ _ refl (λ g. check s idle room k d (leb k (length room)) _ _ refl
      (λ h. begun s idle room k (to_before j) _ (before_runs j) (job_needs a n v e f))))))

  -- program_data: without data done at once
  nothing_given : (n : ℕ) → Given s room n (record { out = told (ends s 0 Ends.Other Done); room = room })
  unfolding told event_of refused
  nothing_given n =
      record {
        stayed = λ a m h q. no_true (ap refused (ap answered h) ∙ q);
        ended = λ a m h q. refl;
        needs = λ t h. no_false (ap is_answer h);
      }

  data_given : (a : ℕ) (d : List ℕ) → Given s room (length d) (start_program_data s a d room)
  unfolding start_program_data begin_data is_ended need_of write_need refused
  data_given a d =
      let n = length d in
      idle_check s idle room n d _
      (by_cond (λ (b : Start). Lays s idle room n d b) (eqb n 0) _ _ (λ t. nothing_given n)
      (λ t. check s idle room n d (accepted_range s.settings a n) _ _ refl (λ e. check s idle room n d (leb n (length room)) _ _ refl
      (λ h. begun s idle room n (Writing (Writes.Data a (n - 1) 0) false) _ refl (omega (arith, accepted_nonempty s.settings a n e))))))

  pub start_given : (c : Call) → Given s room (room_need c (kept_of s room)) (start_of c s room)
  unfolding start_erase start_read_jedec_id start_is_busy start_is_protected is_ended need_of read_need erase_need poll_need
  start_given (Read a n) = read_given false a n
  start_given (LegacyRead a n) = read_given true a n
  start_given ReadParams = params_given
  start_given Erase = idle_gives s idle room 0 _ (begun s idle room 0 (Erasing Erases.Chip false) room refl refl)
  start_given (EraseSectors a n) = sectors_given a n
  start_given (Program a d v) = program_given a d v
  start_given (ProgramData a d) = data_given a d
  start_given Reset = reset_given
  start_given ReadJedecId = idle_gives s idle room 0 _ (begun s idle room 0 (Reading Reads.Id) room refl refl)
  start_given IsBusy = idle_gives s idle room 0 _ (begun s idle room 0 (Polling Polls.Once 0) room refl refl)
  start_given IsProtected = idle_gives s idle room 0 _ (begun s idle room 0 (Reading Reads.Protected) room refl refl)
