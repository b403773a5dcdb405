-- The starts: each gives what its command's script begins with.
use Rattle.std.proofs.Common.{Result, Ok, Err}
use mathlib.Core.Path.{◌≡◌, refl, sym, ap, ◌∙◌}
use mathlib.Core.Bool.{Bool, true, false, cond, not, ◌&&◌, ◌||◌}
use mathlib.Core.List.{List, [], ◌∷◌}
use Prim.Native.Nat.{ℕ, suc, ◌+◌, ◌-◌, ◌≤◌, ◌<◌}
use native.Mathlib.Omega.{arith}
use lib.Dec.{eqb, ltb, leb}
use lib.ListN.{length}
use borrow.Author.Tests.{lt-ltb, le-ltb, leb-true, leb-false, ne_eqb}
use Rattle.settings.specs.Ranges.{accepted_range, last_address}
use Rattle.erase_plan.proofs.Lists.{no_true}
use Rattle.settings.proofs.Laws.{accepted_nonempty, accepted_32}
use Rattle.erase_plan.specs.declared.EraseType.{EraseType}
use Rattle.erase_plan.specs.declared.EraseEntry.{EraseEntry}
use Rattle.erase_plan.specs.Plan.{plan}
use Rattle.erase_plan.specs.Span.{span_start, span_end, survey_of, span_check}
use Rattle.commands.specs.declared.Answer.{Answer}
use Rattle.commands.specs.declared.Answer.TheVariants.{Done, NoResetInstruction, NoEraseInstruction, NoRoom, BadSession}
use Rattle.commands.specs.Script.{Kept, Script, done, stop, Cmd, after, ◌>>◌, need, give, ask, each, over}
use Rattle.commands.specs.Host.{tree}
use Rattle.commands.specs.Transactions.{plain}
use Rattle.commands.specs.Commands.{bad_range, in_range as ranges, room_for as rooms, have_types as has_types, plan_of, erase_one, span_fits as spans, job_of, read_before, read, legacy_read, read_params, erase, erase_sectors, program, program_data, reset, read_jedec_id, is_busy, is_protected}
use Rattle.room.specs.Room.{laid}
use Rattle.phases.specs.declared.Job.{Job}
use Rattle.phases.specs.declared.ReadCommand.TheVariants as Reads
use Rattle.phases.specs.declared.EraseCommand.TheVariants as Erases
use Rattle.phases.specs.declared.WriteCommand.TheVariants as Writes
use Rattle.phases.specs.declared.PollCommand.TheVariants as Polls
use Rattle.phases.specs.declared.ResetCommand.TheVariants as Resets
use Rattle.phases.specs.declared.Command.TheVariants as Ends
use Rattle.phases.specs.declared.Phase.{Phase}
use Rattle.phases.specs.declared.Phase.TheVariants.{Reading, Erasing, Writing, Polling, Verifying, Resetting, Ended}
use Rattle.flash.specs.declared.Session.{Session}
use Rattle.flash.specs.declared.Stepped.{Stepped}
use Rattle.phases.specs.Waits.{read_need, erase_need, write_need, poll_need, need_of}
use Rattle.flash.specs.Waits.{types_of, told}
use Rattle.phases.specs.Moves.{to_before, is_ended}
use Rattle.flash.specs.Steps.{goes, ends}
use Rattle.flash.specs.Starts.{refused, starts, unless_runs, in_range, have_types, room_for, start_read, start_read_params, start_erase, span_fits, start_erase_sectors, start_reset, start_read_jedec_id, start_is_busy, start_is_protected, start_out, start_room, checked, job_for, invalid, begin_program, start_program, begin_data, start_program_data, Start, stays, begins}
use Rattle.meaning.specs.Meaning.{kept_of, Idle}
use Rattle.meaning.proofs.Rest.{aim_of, reads_on, erase_sent, erase_then, from_start, polls_on, resets_on, rest, meaning, seen, Ordered, FitPhase, Fit}
use Rattle.meaning.proofs.Unroll.{types_present}
use Rattle.meaning.proofs.Stepping.{laid_over_lem, seen_told}
use Rattle.meaning.proofs.Going.{go_sectors, go_before, go_data}
use Rattle.meaning.proofs.Fitting.{Within, program_begins, laid_length}
use Rattle.meaning.proofs.Follows.{Given, answers, tells}
use Rattle.meaning.proofs.Spanning.{Holds, span_holds}

-- what a start gives, and that the host sees of it what the script begins with
pub record Begun (x : Stepped) (room : List ℕ) (c : Script Answer) : Type 0 where
  pub given : Given room x
  pub fits : Fit x.session
  pub means : seen x room ≡ tree 0 c

-- an idle session fits
ended_fits : (s : Session) (p : Phase) → is_ended p ≡ true → FitPhase s p
unfolding is_ended
ended_fits s (Reading c) e = no_true e
ended_fits s (Erasing c enabled) e = no_true e
ended_fits s (Writing c enabled) e = no_true e
ended_fits s (Polling c left) e = no_true e
ended_fits s (Verifying c) e = no_true e
ended_fits s (Resetting c) e = no_true e
ended_fits s (Ended c a) e = tt

pub idle_fits : (s : Session) → Idle s → Fit s
idle_fits s e = ended_fits s s.phase e

-- ---- a command that starts
begun : (s : Session) (p : Phase) (room : List ℕ) (c : Script Answer) → Fit (goes s 0 p) → need_of p ≤ length room → rest p (kept_of s room) ≡ c → Begun (starts s p) room c
unfolding meaning told
begun s p room c o h e = record { given = tells (goes s 0 p) o h refl; fits = o; means = seen_told (goes s 0 p) room ∙ ap (tree 0) e }

-- ---- a refusal, and the checks, as a start and as its script makes them
module _ (s : Session) (idle : Idle s) where
  refusal : (room : List ℕ) (a : Answer) → Begun (refused s a) room (stop (kept_of s room) a)
  unfolding seen tree
  refusal room a = record { given = answers a 0 refl; fits = idle_fits s idle; means = refl }

  unless_runs_lem : (x : Stepped) (room : List ℕ) (c : Script Answer) → Begun x room c → Begun (unless_runs s x) room c
  unfolding unless_runs
  unless_runs_lem x room c h = rw idle h

  in_range_lem : (a n : ℕ) (x : Stepped) (room : List ℕ) (k : Unit {0} → Cmd Answer)
      → (accepted_range s.settings a n ≡ true → Begun x room (k tt (kept_of s room)))
      → Begun (in_range s a n x) room (after (ranges a n (kept_of s room)) k)
  unfolding in_range after
  in_range_lem a n x room k h = on (accepted_range s.settings a n) refl
    where
      on : (t : Bool) → accepted_range s.settings a n ≡ t
          → Begun (cond t x (refused s (bad_range (last_address a n)))) room (after (need t (bad_range (last_address a n)) (kept_of s room)) k)
      on true e = h e
      on false e = refusal room (bad_range (last_address a n))

  room_for_lem : (n : ℕ) (x : Stepped) (room : List ℕ) (k : Unit {0} → Cmd Answer) → (n ≤ length room → Begun x room (k tt (kept_of s room)))
      → Begun (room_for s n (length room) x) room (after (rooms n (kept_of s room)) k)
  unfolding room_for after
  room_for_lem n x room k h = on (leb n (length room)) refl
    where
      on : (t : Bool) → leb n (length room) ≡ t → Begun (cond (ltb (length room) n) (refused s (NoRoom n)) x) room (after (need t (NoRoom n) (kept_of s room)) k)
      on true e = let l : n ≤ length room = leb-true n (length room) e in rw (le-ltb (length room) n l) (h l)
      on false e = rw (lt-ltb (length room) n (leb-false n (length room) e)) (refusal room (NoRoom n))

  have_types_lem : (x : Stepped) (room : List ℕ) (k : Unit {0} → Cmd Answer) → (0 < length (types_of s) → Begun x room (k tt (kept_of s room)))
      → Begun (have_types s x) room (after (has_types (kept_of s room)) k)
  unfolding have_types after
  have_types_lem x room k h = on (types_of s) h
    where
      on : (ts : List EraseType) → (0 < length ts → Begun x room (k tt (kept_of s room)))
          → Begun (cond (eqb (length ts) 0) (refused s NoEraseInstruction) x) room (after (elim ts [ [] ↦ stop (kept_of s room) NoEraseInstruction | (u ∷ us) ↦ done (kept_of s room) tt ]) k)
      on [] g = refusal room NoEraseInstruction
      on (u ∷ us) g = rw (ne_eqb (suc (length us)) 0 (omega arith)) (g (omega arith))

  span_fits_lem : (o : Result (Unit {0}) ℕ) (x : Stepped) (room : List ℕ) (k : Unit {0} → Cmd Answer) → Begun x room (k tt (kept_of s room))
      → Begun (span_fits s o x) room (after (spans o (kept_of s room)) k)
  unfolding after
  span_fits_lem (Ok _) x room k h = h
  span_fits_lem (Err a) x room k h = refusal room (bad_range a)

-- ---- the commands without data
module _ (s : Session) (room : List ℕ) (idle : Idle s) where
  pub read_begun : (a n : ℕ) → Begun (start_read s false a n (length room)) room (read a n (kept_of s room))
  unfolding start_read read after need_of read_need rest reads_on
  read_begun a n =
      unless_runs_lem s idle _ room _ (in_range_lem s idle a n _ room _ (λ e. room_for_lem s idle n _ room _ (λ h. begun s (Reading (Reads.Read false a n)) room _ tt h refl)))

  pub legacy_begun : (a n : ℕ) → Begun (start_read s true a n (length room)) room (legacy_read a n (kept_of s room))
  unfolding start_read legacy_read after need_of read_need rest reads_on
  legacy_begun a n =
      unless_runs_lem s idle _ room _ (in_range_lem s idle a n _ room _ (λ e. room_for_lem s idle n _ room _ (λ h. begun s (Reading (Reads.Read true a n)) room _ tt h refl)))

  pub params_begun : Begun (start_read_params s (length room)) room (read_params (kept_of s room))
  unfolding start_read_params read_params after need_of read_need rest reads_on
  params_begun = unless_runs_lem s idle _ room _ (room_for_lem s idle 2056 _ room _ (λ h. begun s (Reading Reads.Header) room _ tt h refl))

  pub erase_begun : Begun (start_erase s) room (erase (kept_of s room))
  unfolding start_erase erase need_of erase_need rest from_start erase_sent erase_then
  erase_begun = unless_runs_lem s idle _ room _ (begun s (Erasing Erases.Chip false) room _ tt (omega arith) refl)

  pub sectors_begun : (a n : ℕ) → Begun (start_erase_sectors s a n) room (erase_sectors a n (kept_of s room))
  unfolding start_erase_sectors erase_sectors survey_of after need_of erase_need
  sectors_begun a n =
      let es = plan_of (kept_of s room) a (a + n) in
      unless_runs_lem s idle _ room _
      (in_range_lem s idle a n _ room _ (λ e. have_types_lem s idle _ room _ (λ k. span_fits_lem s idle (span_check a n (span_start es) (span_end es)) _ room _
      (begun s (Erasing (Erases.Sectors a (a + n - 1)) false) room _ tt (omega arith) (whole e k)))))
    where
      whole : accepted_range s.settings a n ≡ true → 0 < length (types_of s)
          → rest (Erasing (Erases.Sectors a (a + n - 1)) false) (kept_of s room) ≡ after (each erase_one (plan_of (kept_of s room) a (a + n)) (kept_of s room)) (λ u. give Done)
      whole e k =
          let m : 1 ≤ n = accepted_nonempty s.settings a n e in
          let z : a + n - 1 + 1 ≡ a + n = omega arith in
          sym (rw z at (go_sectors (kept_of s room) a (a + n - 1) (omega arith) k))

  pub reset_begun : Begun (start_reset s) room (reset (kept_of s room))
  unfolding start_reset reset need_of rest resets_on
  reset_begun = unless_runs_lem s idle _ room _ (on (not (s.known && s.params.jesd216a) || s.params.reset_inst_66_99) s.params.reset_inst_f0)
    where
      w : Kept
      w = kept_of s room

      on : (t u : Bool) → Begun (cond t (starts s (Resetting Resets.Enable)) (cond u (starts s (Resetting Resets.F0)) (refused s NoResetInstruction))) room
          (cond t (after (ask (plain 0x66 0) w) (λ r. ask (plain 0x99 0) >> give Done)) (cond u (after (ask (plain 0xF0 0) w) (λ r. give Done)) (stop w NoResetInstruction)))
      on true u = begun s (Resetting Resets.Enable) room _ tt (omega arith) refl
      on false true = begun s (Resetting Resets.F0) room _ tt (omega arith) refl
      on false false = refusal s idle room NoResetInstruction

  pub id_begun : Begun (start_read_jedec_id s) room (read_jedec_id (kept_of s room))
  unfolding start_read_jedec_id read_jedec_id need_of read_need rest reads_on
  id_begun = unless_runs_lem s idle _ room _ (begun s (Reading Reads.Id) room _ tt (omega arith) refl)

  pub busy_begun : Begun (start_is_busy s) room (is_busy (kept_of s room))
  unfolding start_is_busy is_busy need_of poll_need rest polls_on
  busy_begun = unless_runs_lem s idle _ room _ (begun s (Polling Polls.Once 0) room _ tt (omega arith) refl)

  pub protected_begun : Begun (start_is_protected s) room (is_protected (kept_of s room))
  unfolding start_is_protected is_protected need_of read_need rest reads_on
  protected_begun = unless_runs_lem s idle _ room _ (begun s (Reading Reads.Protected) room _ tt (omega arith) refl)

-- ---- the commands with data
abbrev Starts : Start → List ℕ → List ℕ → Script Answer → Type 0
Starts b d room c = Begun (start_out b) (start_room b d room) c

module _ (s : Session) (idle : Idle s) (d room : List ℕ) where
  check : (t : Bool) (a : Answer) (next : Start) (k : Unit {0} → Cmd Answer) → (t ≡ true → Starts next d room (k tt (kept_of s room)))
      → Starts (checked t s a next) d room (after (need t a (kept_of s room)) k)
  unfolding after
  check true a next k h = h refl
  check false a next k h = refusal s idle room a

  check_types : (next : Start) (k : Unit {0} → Cmd Answer) → (0 < length (types_of s) → Starts next d room (k tt (kept_of s room)))
      → Starts (checked (not (eqb (length (types_of s)) 0)) s NoEraseInstruction next) d room (after (has_types (kept_of s room)) k)
  unfolding after
  check_types next k h = on (types_of s) h
    where
      on : (ts : List EraseType) → (0 < length ts → Starts next d room (k tt (kept_of s room)))
          → Starts (checked (not (eqb (length ts) 0)) s NoEraseInstruction next) d room (after (elim ts [ [] ↦ stop (kept_of s room) NoEraseInstruction | (u ∷ us) ↦ done (kept_of s room) tt ]) k)
      on [] g = refusal s idle room NoEraseInstruction
      on (u ∷ us) g = rw (ne_eqb (suc (length us)) 0 (omega arith)) (g (omega arith))

  idle_check : (next : Start) (c : Script Answer) → Starts next d room c → Starts (checked (is_ended s.phase) s BadSession next) d room c
  idle_check next c h = rw idle h

  -- the data are laid over the room, and the first phase has enough of it
  lays : (at : ℕ) (p : Phase) (c : Script Answer) → Fit (goes s 0 p) → need_of p ≤ length room → at + length d ≤ length room → rest p (kept_of s (over at d room)) ≡ c
      → Starts (begins at (goes s 0 p)) d room c
  lays at p c o h l e =
      begun s p (laid at d room) c o (omega (arith, laid_length at d room)) (ap (λ (z : List ℕ). rest p (kept_of s z)) (laid_over_lem at d room l) ∙ e)

-- ---- program_data: without data it is done at once
nothing_begun : (s : Session) (room : List ℕ) → Begun (told (ends s 0 Ends.Other Done)) room (done (kept_of s room) Done)
unfolding need_of rest
nothing_begun s room = begun s (Ended Ends.Other Done) room _ tt (omega arith) refl

-- else it is checked, and its data laid over the room
abbrev unless_empty : Session → ℕ → ℕ → ℕ → Start
unless_empty s a n room =
    cond (eqb n 0) (stays (told (ends s 0 Ends.Other Done)))
    (checked (accepted_range s.settings a n) s (invalid (last_address a n))
    (checked (leb n room) s (NoRoom n) (begins 0 (goes s 0 (Writing (Writes.Data a (n - 1) 0) false)))))

some_begun : (s : Session) (idle : Idle s) (room : List ℕ) (a x : ℕ) (d : List ℕ)
    → Starts (unless_empty s a (length (x ∷ d)) (length room)) (x ∷ d) room (program_data a (x ∷ d) (kept_of s room))
unfolding program_data after need_of write_need
some_begun s idle room a x d =
    let n = length (x ∷ d) in
    let w = kept_of s (over 0 (x ∷ d) room) in
    let z : n - 1 + 1 ≡ n = omega arith in
    rw (ne_eqb (suc (length d)) 0 (omega arith))
    (check s idle (x ∷ d) room (accepted_range s.settings a n) (bad_range (last_address a n)) _ _ (λ e. check s idle (x ∷ d) room (leb n (length room)) (NoRoom n) _ _
    (λ f. lays s idle (x ∷ d) room 0 (Writing (Writes.Data a (n - 1) 0) false) _ (omega (arith, accepted_32 s.settings a n e), omega arith)
    (omega (arith, leb-true n (length room) f)) (omega (arith, leb-true n (length room) f)) (sym (rw z at (go_data w a (n - 1) 0 (omega arith)))))))

-- ---- program: its job, once nothing is refused
module _ (s : Session) (idle : Idle s) (a n : ℕ) (v : Bool) (room : List ℕ) (wanted : accepted_range s.settings a n ≡ true) (kinds' : 0 < length (types_of s)) where
  job_plan : List EraseEntry
  job_plan = plan (types_of s) a (a + n)

  job : Job
  job = job_for a (a + n - 1) v (record { count = length job_plan; first = span_start job_plan; end = span_end job_plan })

  some_data : 1 ≤ n
  some_data = accepted_nonempty s.settings a n wanted

  span_of : Holds (types_of s) a (a + n)
  span_of = span_holds (types_of s) (types_present (kept_of s room)) a (a + n) (omega (arith, some_data)) kinds'

  job_ordered_lem : accepted_range s.settings (span_start job_plan) (span_end job_plan - span_start job_plan) ≡ true → Ordered job
  unfolding job job_plan
  job_ordered_lem e =
      record {
        first = span_of.starts;
        data' = omega (arith, some_data);
        span = omega (arith, some_data, span_of.reaches);
        top = omega (arith, some_data, span_of.starts, span_of.reaches, accepted_32 s.settings (span_start job_plan) (span_end job_plan - span_start job_plan) e);
      }

  -- it is the script's
  job_aim : aim_of job ≡ job_of (kept_of s room) a n v
  unfolding job job_plan
  job_aim =
      let d : a + n - 1 + 1 ≡ a + n = omega (arith, some_data) in
      let t : span_end (plan (types_of s) a (a + n)) - 1 + 1 ≡ span_end (plan (types_of s) a (a + n)) = omega (arith, some_data, span_of.reaches) in
      rw (d, t)

  job_begins : (d : List ℕ) → length d ≡ n → accepted_range s.settings (span_start job_plan) (span_end job_plan - span_start job_plan) ≡ true
      → span_end job_plan - span_start job_plan ≤ length room
      → Starts (begins (a - span_start job_plan) (goes s 0 (to_before job))) d room (read_before (job_of (kept_of s room) a n v) (kept_of s (over (a - span_start job_plan) d room)))
  unfolding job job_plan
  job_begins d l e f =
      let o : Ordered job = job_ordered_lem e in
      let w : Within (job.top + 1 - job.base) (goes s 0 (to_before job)) = program_begins s job o kinds' in
      lays s idle d room (a - span_start job_plan) (to_before job) _ w.fits (omega (arith, w.most, some_data, span_of.reaches))
      (omega (arith, some_data, span_of.starts, span_of.reaches))
      (sym (go_before job (kept_of s (over (a - span_start job_plan) d room)) o kinds') ∙ ap (λ z. read_before z (kept_of s (over (a - span_start job_plan) d room))) job_aim)

module _ (s : Session) (d room : List ℕ) (idle : Idle s) where
  pub program_begun : (a : ℕ) (v : Bool) → Begun (start_program s a d v room).out (start_program s a d v room).room (program a d v (kept_of s room))
  unfolding start_program begin_program program survey_of after job job_plan
  program_begun a v =
      let n = length d in
      let first = span_start (plan (types_of s) a (a + n)) in
      let len = span_end (plan (types_of s) a (a + n)) - first in
      idle_check s idle d room _ _
      (check s idle d room (accepted_range s.settings a n) (bad_range (last_address a n)) _ _ (λ e. check_types s idle d room _ _
      (λ k. check s idle d room (accepted_range s.settings first len) (bad_range (last_address first len)) _ _
      (λ f. check s idle d room (leb len (length room)) (NoRoom len) _ _ (λ g. job_begins s idle a n v room e k d refl f (leb-true len (length room) g))))))

  pub data_begun : (a : ℕ) → Begun (start_program_data s a d room).out (start_program_data s a d room).room (program_data a d (kept_of s room))
  unfolding start_program_data begin_data program_data after
  data_begun a = idle_check s idle d room _ _ (on d)
    where
      on : (d : List ℕ) → Starts (unless_empty s a (length d) (length room)) d room (program_data a d (kept_of s room))
      on [] = nothing_begun s room
      on (x ∷ d) = some_begun s idle room a x d
