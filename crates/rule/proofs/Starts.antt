-- The starts and the setters hand back sessions that meet the rule.
use Rattle.std.proofs.Common.{Result, Ok as Read, Err as Unread}
use Prim.Native.Nat.{ℕ, ◌+◌, ◌-◌, ◌≤◌, ◌<◌}
use mathlib.Core.Path.{◌≡◌, refl, ap, subst}
use mathlib.Core.Bool.{Bool, true, false, not, ◌&&◌, ◌||◌}
use mathlib.Core.List.{List}
use native.Mathlib.Omega.{arith}
use lib.Dec.{eqb, ltb, leb}
use lib.ListN.{length}
use borrow.Author.Tests.{ltb-true, eqb-false, le-leb, lt-ltb, not-true}
use Rattle.settings.specs.declared.Settings.{Settings}
use Rattle.settings.specs.declared.SettingError.{SettingError}
use Rattle.settings.specs.Limits.{Sound, set_address_bytes, set_page_size, set_erase_size, set_poll_limit, set_capacity, clear_capacity, set_erase_opcode}
use Rattle.settings.specs.Ranges.{accepted_range, last_address}
use Rattle.settings.proofs.Laws.{accepted_nonempty, new_sound, set_address_bytes_sound, set_page_size_sound, set_erase_size_sound, set_poll_limit_sound, set_capacity_sound, clear_capacity_sound, set_erase_opcode_sound}
use Rattle.erase_plan.specs.Plan.{plan}
use Rattle.erase_plan.specs.Span.{span_start, span_end, survey_of, span_check}
use Rattle.erase_plan.proofs.Lists.{by_cond, no_true}
use Rattle.erase_plan.proofs.Ordering.{present_present}
use Rattle.plans.specs.Available.{available}
use Rattle.commands.specs.declared.Answer.{Answer}
use Rattle.commands.specs.declared.Answer.TheVariants.{Done, NoEraseInstruction, NoRoom, BadSession}
use Rattle.phases.specs.declared.ReadCommand.TheVariants as Reads
use Rattle.phases.specs.declared.EraseCommand.TheVariants as Erases
use Rattle.phases.specs.declared.WriteCommand.TheVariants as Writes
use Rattle.phases.specs.declared.PollCommand.TheVariants as Polls
use Rattle.phases.specs.declared.ResetCommand.TheVariants as Resets
use Rattle.phases.specs.declared.Command.TheVariants as Ends
use Rattle.phases.specs.declared.Phase.{Phase}
use Rattle.phases.specs.declared.Phase.TheVariants.{Reading, Erasing, Writing, Polling, Verifying, Resetting, Ended}
use Rattle.flash.specs.declared.Session.{Session}
use Rattle.flash.specs.declared.Stepped.{Stepped}
use Rattle.flash.specs.Waits.{types_of, told}
use Rattle.phases.specs.Moves.{to_before, is_ended}
use Rattle.flash.specs.Steps.{goes}
use Rattle.flash.specs.Starts.{refused, starts, unless_runs, in_range, have_types, room_for, start_read, start_read_params, start_erase, survey_for, span_fits, start_erase_sectors, start_reset, start_read_jedec_id, start_is_busy, start_is_protected, start_out, checked, invalid, job_for, begin_span, begin_program, start_program, begin_data, start_program_data, fresh, with_settings, set_to, setting, Start, stays, begins}
use Rattle.meaning.proofs.Spanning.{Holds, span_holds}
use Rattle.rule.specs.Rule.{settings_rule, read_rule, erase_rule, write_rule, poll_rule, allows66, reset_rule, other_ends, end_rule, has_types, phase_rule, erases_behind, writes_behind, wait_rule, polls_rule, rule_of}
use Rattle.rule.specs.Kept.{Ruled, Kept}
use Rattle.rule.proofs.Tests.{hold, sound_settings, settings_sound, job_rule_lem, plan_rule_lem}
use Rattle.rule.proofs.Polls.{none_done}
use Rattle.rule.proofs.Goes.{Ok, in_phase_lem, other, to_before_lem}
use Rattle.rule.proofs.Steps.{rule_settings, rule_phase, rule_polls, step_rule}

-- ---- a fresh session
pub fresh_rule : Ruled fresh
unfolding rule_of phase_rule end_rule other_ends polls_rule
fresh_rule = hold _ (sound_settings _ new_sound, (refl, (refl, tt)))

-- ---- the checks
module _ (s : Session) (h : Ruled s) where
  abbrev Fine : Stepped → Type 0
  Fine x = Ruled x.session

  abbrev FineStart : Start → Type 0
  FineStart b = Ruled (start_out b).session

  sound : settings_rule s.settings ≡ true
  sound = rule_settings s h

  unless_runs_lem : (x : Stepped) → Fine x → Fine (unless_runs s x)
  unfolding unless_runs
  unless_runs_lem x f = by_cond Fine (is_ended s.phase) x (refused s BadSession) (λ t. f) (λ t. h)

  in_range_lem : (a n : ℕ) (x : Stepped) → (accepted_range s.settings a n ≡ true → Fine x) → Fine (in_range s a n x)
  unfolding in_range
  in_range_lem a n x f = by_cond Fine (accepted_range s.settings a n) x _ f (λ t. h)

  room_for_lem : (n room : ℕ) (x : Stepped) → Fine x → Fine (room_for s n room x)
  unfolding room_for
  room_for_lem n room x f = by_cond Fine (ltb room n) (refused s (NoRoom n)) x (λ t. h) (λ t. f)

  types_there : (n : ℕ) → eqb n 0 ≡ false → ltb 0 n ≡ true
  types_there n e = lt-ltb 0 n (positive (eqb-false n 0 e))
    where
      positive : (n ≡ 0 → ⊥) → 0 < n
      positive z = omega arith

  have_types_lem : (x : Stepped) → (has_types s ≡ true → Fine x) → Fine (have_types s x)
  unfolding have_types
  have_types_lem x f = by_cond Fine (eqb (length (types_of s)) 0) (refused s NoEraseInstruction) x (λ t. h) (λ t. f (types_there (length (types_of s)) t))

  span_fits_lem : (o : Result (Unit {0}) ℕ) (x : Stepped) → Fine x → Fine (span_fits s o x)
  span_fits_lem (Read _) x f = f
  span_fits_lem (Unread a) x f = h

  begun : (p : Phase) → Ok s 0 p → Fine (starts s p)
  unfolding told
  begun p o = in_phase_lem s sound 0 p o

  -- ---- the commands without data
  read_rule_lem : (legacy : Bool) (a n room : ℕ) → Fine (start_read s legacy a n room)
  unfolding start_read phase_rule read_rule polls_rule
  read_rule_lem legacy a n room =
      unless_runs_lem _ (in_range_lem a n _ (λ e. room_for_lem n room _ (begun (Reading (Reads.Read legacy a n)) (record { phase = e; polls = refl }))))

  params_rule : (room : ℕ) → Fine (start_read_params s room)
  unfolding start_read_params phase_rule read_rule polls_rule
  params_rule room = unless_runs_lem _ (room_for_lem 2056 room _ (begun (Reading Reads.Header) (record { phase = refl; polls = refl })))

  erase_rule_lem : Fine (start_erase s)
  unfolding start_erase phase_rule erase_rule polls_rule
  erase_rule_lem = unless_runs_lem _ (begun (Erasing Erases.Chip false) (record { phase = refl; polls = none_done s.settings.poll_limit (erases_behind Erases.Chip) }))

  sectors_rule : (a n : ℕ) → Fine (start_erase_sectors s a n)
  unfolding start_erase_sectors phase_rule erase_rule polls_rule
  sectors_rule a n =
      unless_runs_lem _
      (in_range_lem a n _ (λ e. have_types_lem _ (λ k. span_fits_lem (span_check a n (survey_for s a n).first (survey_for s a n).end) _
      (begun (Erasing (Erases.Sectors a (a + n - 1)) false) (record {
        phase = hold _ (whole e, (k, tt));
        polls = none_done s.settings.poll_limit (erases_behind (Erases.Sectors a (a + n - 1)));
      })))))
    where
      whole : accepted_range s.settings a n ≡ true → accepted_range s.settings a (a + n - 1 + 1 - a) ≡ true
      whole e =
          let m : 1 ≤ n = accepted_nonempty s.settings a n e in
          let z : a + n - 1 + 1 - a ≡ n = omega arith in
          rw z e

  reset_rule_lem : Fine (start_reset s)
  unfolding start_reset phase_rule reset_rule allows66 polls_rule
  reset_rule_lem =
      unless_runs_lem _
      (by_cond Fine (not (s.known && s.params.jesd216a) || s.params.reset_inst_66_99) _ _
      (λ t. begun (Resetting Resets.Enable) (record { phase = t; polls = refl }))
      (λ t. by_cond Fine s.params.reset_inst_f0 _ _
      (λ u. begun (Resetting Resets.F0) (record { phase = hold _ (ap not t, (u, tt)); polls = refl }))
      (λ u. h)))

  id_rule : Fine (start_read_jedec_id s)
  unfolding start_read_jedec_id phase_rule read_rule polls_rule
  id_rule = unless_runs_lem _ (begun (Reading Reads.Id) (record { phase = refl; polls = refl }))

  busy_rule : Fine (start_is_busy s)
  unfolding start_is_busy phase_rule poll_rule polls_rule wait_rule
  busy_rule = unless_runs_lem _ (begun (Polling Polls.Once 0) (record { phase = refl; polls = refl }))

  protected_rule : Fine (start_is_protected s)
  unfolding start_is_protected phase_rule read_rule polls_rule
  protected_rule = unless_runs_lem _ (begun (Reading Reads.Protected) (record { phase = refl; polls = refl }))

  -- ---- the commands with data
  check : (t : Bool) (a : Answer) (next : Start) → (t ≡ true → FineStart next) → FineStart (checked t s a next)
  check t a next f = by_cond FineStart t next (stays (refused s a)) f (λ e. h)

  begun_at : (at : ℕ) (p : Phase) → Ok s 0 p → FineStart (begins at (goes s 0 p))
  unfolding told
  begun_at at p o = in_phase_lem s sound 0 p o

  data_rule : (a n room : ℕ) → FineStart (begin_data s a n room)
  unfolding begin_data phase_rule write_rule polls_rule other_ends told
  data_rule a n room =
      check (is_ended s.phase) BadSession _
      (λ i. by_cond FineStart (eqb n 0) _ _ (λ t. in_phase_lem s sound 0 (Ended Ends.Other Done) (other s sound 0 Done refl (omega arith)))
      (λ t. check (accepted_range s.settings a n) (invalid (last_address a n)) _ (λ e. check (leb n room) (NoRoom n) _
      (λ f. begun_at 0 (Writing (Writes.Data a (n - 1) 0) false) (record {
        phase = hold _ (whole e, (le-leb 0 (n - 1) (omega arith), tt));
        polls = none_done s.settings.poll_limit (writes_behind (Writes.Data a (n - 1) 0));
      })))))
    where
      whole : accepted_range s.settings a n ≡ true → accepted_range s.settings a (n - 1 + 1) ≡ true
      whole e =
          let m : 1 ≤ n = accepted_nonempty s.settings a n e in
          let z : n - 1 + 1 ≡ n = omega arith in
          rw z e

  job_begins : (a n : ℕ) (v : Bool) (room : ℕ) → accepted_range s.settings a n ≡ true → has_types s ≡ true → FineStart (begin_span s a (a + n - 1) v (survey_for s a n) room)
  unfolding survey_of
  job_begins a n v room e k =
      let es = plan (types_of s) a (a + n) in
      let first = span_start es in
      let len = span_end es - first in
      let m : 1 ≤ n = accepted_nonempty s.settings a n e in
      let o : Holds (types_of s) a (a + n) =
      span_holds (types_of s) (present_present (available s.settings s.known s.params)) a (a + n) (omega arith) (ltb-true 0 (length (types_of s)) k)
      in
      let low : first ≤ a = o.starts in
      let high : a + n ≤ span_end es = o.reaches in
      let z : span_end es - 1 + 1 - first ≡ len = omega arith in
      check (accepted_range s.settings first len) (invalid (last_address first len)) _ (λ f. check (leb len room) (NoRoom len) _
      (λ g. begun_at (a - first) (to_before (job_for a (a + n - 1) v (survey_for s a n)))
      (to_before_lem s sound (job_for a (a + n - 1) v (survey_for s a n))
      (plan_rule_lem s.settings (has_types s) (job_for a (a + n - 1) v (survey_for s a n))
      (job_rule_lem s.settings (job_for a (a + n - 1) v (survey_for s a n)) (record { first = low; data' = omega arith; span = omega arith }) (rw z f)) k))))

  program_rule : (a n : ℕ) (v : Bool) (room : ℕ) → FineStart (begin_program s a n v room)
  unfolding begin_program
  program_rule a n v room =
      check (is_ended s.phase) BadSession _
      (λ i. check (accepted_range s.settings a n) (invalid (last_address a n)) _
      (λ e. check (not (eqb (length (types_of s)) 0)) NoEraseInstruction _
      (λ k. job_begins a n v room e (types_there (length (types_of s)) (not-true (eqb (length (types_of s)) 0) k)))))

  start_program_rule : (a : ℕ) (d : List ℕ) (v : Bool) (room : List ℕ) → Fine (start_program s a d v room).out
  unfolding start_program
  start_program_rule a d v room = program_rule a (length d) v (length room)

  start_data_rule : (a : ℕ) (d room : List ℕ) → Fine (start_program_data s a d room).out
  unfolding start_program_data
  start_data_rule a d room = data_rule a (length d) (length room)

  -- ---- the setters: the session is idle, and the new settings are within their limits
  idle_set : (x : Settings) (p : Phase) → is_ended p ≡ true → phase_rule s p ≡ true → polls_rule s.polls s.settings.poll_limit p ≡ true
      → (phase_rule (with_settings s x) p ≡ true) × (polls_rule s.polls x.poll_limit p ≡ true)
  unfolding is_ended phase_rule polls_rule
  idle_set x (Reading c) i f g = no_true i
  idle_set x (Erasing c enabled) i f g = no_true i
  idle_set x (Writing c enabled) i f g = no_true i
  idle_set x (Polling c left) i f g = no_true i
  idle_set x (Verifying c) i f g = no_true i
  idle_set x (Resetting c) i f g = no_true i
  idle_set x (Ended c a) i f g = (f, g)

  set_to_lem : (y : Result Settings SettingError) → is_ended s.phase ≡ true → ((x : Settings) → y ≡ Read x → Sound x) → Fine (set_to s y)
  unfolding rule_of
  set_to_lem (Read x) i f =
      let t = idle_set x s.phase i (rule_phase s h) (rule_polls s h) in
      hold _ (sound_settings x (f x refl), (t.0, (t.1, tt)))
  set_to_lem (Unread e) i f = h

  set_rule : (y : Result Settings SettingError) → ((x : Settings) → y ≡ Read x → Sound x) → Fine (setting s y)
  unfolding setting unless_runs
  set_rule y f = by_cond Fine (is_ended s.phase) (set_to s y) (refused s BadSession) (λ i. set_to_lem y i f) (λ i. h)

  limits_of : Sound s.settings
  limits_of = settings_sound s.settings sound

  set_is : (x y : Settings) → ◌≡◌ {A = Result Settings SettingError} (Read x) (Read y) → x ≡ y
  set_is x y e = cc

pub keeps_rule : Kept
keeps_rule = record {
  begins = fresh_rule;
  reads = λ s h. read_rule_lem s h;
  reads_params = λ s h. params_rule s h;
  erases = λ s h. erase_rule_lem s h;
  erases_sectors = λ s h. sectors_rule s h;
  programs = λ s h. start_program_rule s h;
  programs_data = λ s h. start_data_rule s h;
  resets = λ s h. reset_rule_lem s h;
  reads_id = λ s h. id_rule s h;
  tells_busy = λ s h. busy_rule s h;
  tells_protected = λ s h. protected_rule s h;
  sets_address_bytes = λ s h n. set_rule s h (set_address_bytes s.settings n) (λ x e. set_address_bytes_sound s.settings (limits_of s h) n x e);
  sets_page_size = λ s h n. set_rule s h (set_page_size s.settings n) (λ x e. set_page_size_sound s.settings (limits_of s h) n x e);
  sets_erase_size = λ s h n. set_rule s h (set_erase_size s.settings n) (λ x e. set_erase_size_sound s.settings (limits_of s h) n x e);
  sets_poll_limit = λ s h n. set_rule s h (set_poll_limit s.settings n) (λ x e. set_poll_limit_sound s.settings (limits_of s h) n x e);
  sets_capacity = λ s h n. set_rule s h (Read (set_capacity s.settings n)) (λ x e. subst Sound (set_is s h (set_capacity s.settings n) x e) (set_capacity_sound s.settings (limits_of s h) n));
  clears_capacity = λ s h. set_rule s h (Read (clear_capacity s.settings)) (λ x e. subst Sound (set_is s h (clear_capacity s.settings) x e) (clear_capacity_sound s.settings (limits_of s h)));
  sets_erase_opcode = λ s h n. set_rule s h (Read (set_erase_opcode s.settings n)) (λ x e. subst Sound (set_is s h (set_erase_opcode s.settings n) x e) (set_erase_opcode_sound s.settings (limits_of s h) n));
  steps = λ s h failed r room b. step_rule s failed r room b h;
}
