-- What a start hands back is an answer exactly if its session is idle.
use Rattle.std.proofs.Common.{Result, Ok, Err}
use mathlib.Core.Path.{◌≡◌, refl, sym}
use mathlib.Core.Bool.{Bool, true, false, not, ◌&&◌, ◌||◌}
use mathlib.Core.List.{List}
use Prim.Native.Nat.{ℕ, ◌+◌, ◌-◌}
use lib.Dec.{eqb, ltb, leb}
use lib.ListN.{length}
use Rattle.settings.specs.Ranges.{accepted_range, last_address}
use Rattle.erase_plan.specs.Span.{span_check}
use Rattle.erase_plan.proofs.Lists.{by_cond, no_true}
use Rattle.commands.specs.declared.Answer.{Answer}
use Rattle.commands.specs.declared.Answer.TheVariants.{NoResetInstruction, NoEraseInstruction, NoRoom, BadSession}
use Rattle.commands.specs.Calls.{Call, Read, LegacyRead, ReadParams, Erase, EraseSectors, Program, ProgramData, Reset, ReadJedecId, IsBusy, IsProtected}
use Rattle.phases.specs.declared.ReadCommand.TheVariants as Reads
use Rattle.phases.specs.declared.EraseCommand.TheVariants as Erases
use Rattle.phases.specs.declared.PollCommand.TheVariants as Polls
use Rattle.phases.specs.declared.ResetCommand.TheVariants as Resets
use Rattle.phases.specs.declared.Phase.{Phase}
use Rattle.phases.specs.declared.Phase.TheVariants.{Reading, Erasing, Writing, Polling, Verifying, Resetting, Ended}
use Rattle.flash.specs.declared.Session.{Session}
use Rattle.flash.specs.declared.Event.{Event}
use Rattle.flash.specs.declared.Event.TheVariants.{Send, Answered}
use Rattle.flash.specs.declared.Stepped.{Stepped}
use Rattle.flash.specs.Waits.{types_of, waits_on, event_of, told}
use Rattle.phases.specs.Moves.{is_ended}
use Rattle.flash.specs.Steps.{goes}
use Rattle.flash.specs.Starts.{refused, starts, unless_runs, in_range, have_types, room_for, start_read, start_read_params, start_erase, survey_for, span_fits, start_erase_sectors, start_reset, start_read_jedec_id, start_is_busy, start_is_protected, start_out, checked, invalid, begin_program, start_program, begin_data, start_program_data, Start}
use Rattle.meaning.specs.Meaning.{Idle}
use Rattle.on_part.specs.OnPart.{start_of}

abbrev pub is_answer : Event → Bool
is_answer (Send t) = false
is_answer (Answered a n) = true

abbrev pub Rests : Stepped → Type 0
Rests x = is_ended x.session.phase ≡ is_answer x.event

-- ---- what is told of a session
phase_rests : (s : Session) (p : Phase) → is_ended p ≡ is_answer (event_of s p)
unfolding is_ended event_of
phase_rests s (Reading c) = refl
phase_rests s (Erasing c enabled) = refl
phase_rests s (Writing c enabled) = refl
phase_rests s (Polling c left) = refl
phase_rests s (Verifying c) = refl
phase_rests s (Resetting c) = refl
phase_rests s (Ended c a) = refl

pub told_rests : (s : Session) → Rests (told s)
unfolding told
told_rests s = phase_rests s s.phase

event_runs : (s : Session) (p : Phase) → is_ended p ≡ false → event_of s p ≡ Send (waits_on s p)
unfolding event_of is_ended
event_runs s (Reading c) e = refl
event_runs s (Erasing c enabled) e = refl
event_runs s (Writing c enabled) e = refl
event_runs s (Polling c left) e = refl
event_runs s (Verifying c) e = refl
event_runs s (Resetting c) e = refl
event_runs s (Ended c a) e = no_true (sym e)

-- a running one tells its transaction, an ended one its answer
pub told_runs : (s : Session) → is_ended s.phase ≡ false → (told s).event ≡ Send (waits_on s s.phase)
unfolding told
told_runs s e = event_runs s s.phase e

event_ends : (s : Session) (p : Phase) → is_ended p ≡ true → (a : Answer) × (event_of s p ≡ Answered a s.polls)
unfolding event_of is_ended
event_ends s (Reading c) e = no_true e
event_ends s (Erasing c enabled) e = no_true e
event_ends s (Writing c enabled) e = no_true e
event_ends s (Polling c left) e = no_true e
event_ends s (Verifying c) e = no_true e
event_ends s (Resetting c) e = no_true e
event_ends s (Ended c a) e = (a, refl)

pub told_ends : (s : Session) → is_ended s.phase ≡ true → (a : Answer) × ((told s).event ≡ Answered a s.polls)
unfolding told
told_ends s e = event_ends s s.phase e

-- ---- a start is a refusal, or begins in a phase: what holds of all these holds of each start
module _ (s : Session) (P : Stepped → Type 0) (refusal : (a : Answer) → P (refused s a)) (begun : (p : Phase) → P (starts s p)) where
  unless_by : (x : Stepped) → P x → P (unless_runs s x)
  unfolding unless_runs
  unless_by x h = by_cond P (is_ended s.phase) x (refused s BadSession) (λ t. h) (λ t. refusal BadSession)

  range_by : (a n : ℕ) (x : Stepped) → P x → P (in_range s a n x)
  unfolding in_range
  range_by a n x h = by_cond P (accepted_range s.settings a n) x _ (λ t. h) (λ t. refusal (invalid (last_address a n)))

  types_by : (x : Stepped) → P x → P (have_types s x)
  unfolding have_types
  types_by x h = by_cond P (eqb (length (types_of s)) 0) _ x (λ t. refusal NoEraseInstruction) (λ t. h)

  room_by : (n room : ℕ) (x : Stepped) → P x → P (room_for s n room x)
  unfolding room_for
  room_by n room x h = by_cond P (ltb room n) _ x (λ t. refusal (NoRoom n)) (λ t. h)

  span_by : (o : Result (Unit {0}) ℕ) (x : Stepped) → P x → P (span_fits s o x)
  span_by (Ok _) x h = h
  span_by (Err a) x h = refusal (invalid a)

  -- over the starts with data
  check_by : (ok : Bool) (a : Answer) (b : Start) → P (start_out b) → P (start_out (checked ok s a b))
  check_by true a b h = h
  check_by false a b h = refusal a

  read_by : (legacy : Bool) (a n room : ℕ) → P (start_read s legacy a n room)
  unfolding start_read
  read_by legacy a n room = unless_by _ (range_by a n _ (room_by n room _ (begun (Reading (Reads.Read legacy a n)))))

  reset_by : P (start_reset s)
  unfolding start_reset
  reset_by =
      unless_by _
      (by_cond P (not (s.known && s.params.jesd216a) || s.params.reset_inst_66_99) _ _ (λ t. begun (Resetting Resets.Enable))
      (λ t. by_cond P s.params.reset_inst_f0 _ _ (λ t. begun (Resetting Resets.F0)) (λ t. refusal NoResetInstruction)))

  sectors_by : (a n : ℕ) → P (start_erase_sectors s a n)
  unfolding start_erase_sectors
  sectors_by a n =
      unless_by _
      (range_by a n _
      (types_by _ (span_by (span_check a n (survey_for s a n).first (survey_for s a n).end) _ (begun (Erasing (Erases.Sectors a (a + n - 1)) false)))))

  program_by_lem : (a : ℕ) (d : List ℕ) (v : Bool) (room : List ℕ) → P (start_program s a d v room).out
  unfolding start_program begin_program
  program_by_lem a d v room =
      check_by (is_ended s.phase) _ _
      (check_by (accepted_range s.settings a (length d)) _ _
      (check_by (not (eqb (length (types_of s)) 0)) _ _
      (check_by (accepted_range s.settings (survey_for s a (length d)).first ((survey_for s a (length d)).end - (survey_for s a (length d)).first)) _ _
      (check_by (leb ((survey_for s a (length d)).end - (survey_for s a (length d)).first) (length room)) _ _ (begun _)))))

  data_by : (a : ℕ) (d room : List ℕ) → P (start_program_data s a d room).out
  unfolding start_program_data begin_data
  data_by a d room =
      check_by (is_ended s.phase) _ _
      (by_cond (λ (b : Start). P (start_out b)) (eqb (length d) 0) _ _ (λ t. begun _)
      (λ t. check_by (accepted_range s.settings a (length d)) _ _ (check_by (leb (length d) (length room)) _ _ (begun _))))

  pub start_by : (c : Call) (room : List ℕ) → P (start_of c s room).out
  unfolding start_read_params start_erase start_read_jedec_id start_is_busy start_is_protected
  start_by (Read a n) room = read_by false a n (length room)
  start_by (LegacyRead a n) room = read_by true a n (length room)
  start_by ReadParams room = unless_by _ (room_by 2056 (length room) _ (begun (Reading Reads.Header)))
  start_by Erase room = unless_by _ (begun (Erasing Erases.Chip false))
  start_by (EraseSectors a n) room = sectors_by a n
  start_by (Program a d v) room = program_by_lem a d v room
  start_by (ProgramData a d) room = data_by a d room
  start_by Reset room = reset_by
  start_by ReadJedecId room = unless_by _ (begun (Reading Reads.Id))
  start_by IsBusy room = unless_by _ (begun (Polling Polls.Once 0))
  start_by IsProtected room = unless_by _ (begun (Reading Reads.Protected))

-- the starts of an idle session
pub start_rests : (s : Session) → Idle s → (c : Call) (room : List ℕ) → Rests (start_of c s room).out
start_rests s idle c room = start_by s Rests (λ a. idle) (λ p. told_rests (goes s 0 p)) c room
