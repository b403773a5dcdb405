-- Starts, setters and steps keep the widths and the rule together.
use Rattle.std.proofs.Common.{Result, Ok, Err, unwrap_or}
use Prim.Native.Nat.{ℕ, ◌+◌, ◌-◌}
use mathlib.Core.Path.{◌≡◌, refl, subst}
use mathlib.Core.Bool.{Bool, false, not, ◌&&◌, ◌||◌}
use mathlib.Core.List.{List}
use native.Mathlib.Omega.{arith}
use lib.Dec.{eqb, ltb, leb}
use lib.ListN.{length}
use Rattle.settings.specs.declared.Settings.{Settings}
use Rattle.settings.specs.declared.SettingError.{SettingError}
use Rattle.settings.specs.Limits.{with_address_bytes, with_page_size, with_erase, with_poll_limit, set_capacity, clear_capacity, set_erase_opcode}
use Rattle.settings.specs.Ranges.{accepted_range, last_address}
use Rattle.settings.proofs.Laws.{set_within}
use Rattle.erase_plan.specs.Span.{span_check}
use Rattle.erase_plan.proofs.Lists.{by_cond}
use Rattle.commands.specs.declared.Answer.{Answer}
use Rattle.commands.specs.declared.Answer.TheVariants.{Done, NoEraseInstruction, NoRoom, BadSession}
use Rattle.phases.specs.declared.ReadCommand.TheVariants as Reads
use Rattle.phases.specs.declared.EraseCommand.TheVariants as Erases
use Rattle.phases.specs.declared.WriteCommand.TheVariants as Writes
use Rattle.phases.specs.declared.PollCommand.TheVariants as Polls
use Rattle.phases.specs.declared.ResetCommand.TheVariants as Resets
use Rattle.phases.specs.declared.Command.TheVariants as Ends
use Rattle.phases.specs.declared.Phase.{Phase}
use Rattle.phases.specs.declared.Phase.TheVariants.{Reading, Erasing, Writing, Polling, Resetting, Ended}
use Rattle.flash.specs.declared.Session.{Session}
use Rattle.flash.specs.declared.Stepped.{Stepped}
use Rattle.flash.specs.Waits.{types_of, told}
use Rattle.phases.specs.Moves.{to_before, is_ended}
use Rattle.flash.specs.Steps.{goes}
use Rattle.flash.specs.Starts.{refused, starts, unless_runs, in_range, have_types, room_for, start_read, start_read_params, start_erase, survey_for, span_fits, start_erase_sectors, start_reset, start_read_jedec_id, start_is_busy, start_is_protected, start_out, checked, invalid, job_for, begin_span, begin_program, start_program, begin_data, start_program_data, fresh, set_to, setting, Start, stays, begins}
use Rattle.rule.specs.Kept.{Whole, KeptWhole}
use Rattle.packed.specs.Typed.{U8, U64}
use Rattle.rule.proofs.Starts.{keeps_rule}
use Rattle.packed.proofs.Reading.{none_typed}
use Rattle.rule.proofs.Widths.{Narrow}
use Rattle.rule.proofs.Wide.{Wide, wide_of, whole_of, wide_in, to_before_lem, step_wide}
use Rattle.erase_plan.specs.declared.Surveyed.{Surveyed}
use Rattle.settings.specs.Limits.{limited}

-- ---- a fresh session
fresh_wide : Wide fresh
fresh_wide = record { capacity = omega arith; opcode = omega arith; params = none_typed; none = λ (k : false ≡ false). refl; narrow = (tt, tt) }

module _ (s : Session) (w : Wide s) where
  abbrev Fine : Stepped → Type 0
  Fine x = Wide x.session

  abbrev FineStart : Start → Type 0
  FineStart b = Wide (start_out b).session

  -- ---- the checks
  unless_runs_lem : (x : Stepped) → Fine x → Fine (unless_runs s x)
  unfolding unless_runs
  unless_runs_lem x f = by_cond Fine (is_ended s.phase) x (refused s BadSession) (λ t. f) (λ t. w)

  in_range_lem : (a n : ℕ) (x : Stepped) → Fine x → Fine (in_range s a n x)
  unfolding in_range
  in_range_lem a n x f = by_cond Fine (accepted_range s.settings a n) x _ (λ t. f) (λ t. w)

  room_for_lem : (n room : ℕ) (x : Stepped) → Fine x → Fine (room_for s n room x)
  unfolding room_for
  room_for_lem n room x f = by_cond Fine (ltb room n) (refused s (NoRoom n)) x (λ t. w) (λ t. f)

  have_types_lem : (x : Stepped) → Fine x → Fine (have_types s x)
  unfolding have_types
  have_types_lem x f = by_cond Fine (eqb (length (types_of s)) 0) (refused s NoEraseInstruction) x (λ t. w) (λ t. f)

  span_fits_lem : (o : Result (Unit {0}) ℕ) (x : Stepped) → Fine x → Fine (span_fits s o x)
  span_fits_lem (Ok _) x f = f
  span_fits_lem (Err a) x f = w

  begun : (p : Phase) → Narrow p → Fine (starts s p)
  unfolding told
  begun p k = wide_in s w p 0 k

  -- ---- the commands without data
  read_wide : (legacy : Bool) (a n room : ℕ) → Fine (start_read s legacy a n room)
  unfolding start_read
  read_wide legacy a n room = unless_runs_lem _ (in_range_lem a n _ (room_for_lem n room _ (begun (Reading (Reads.Read legacy a n)) tt)))

  params_wide : (room : ℕ) → Fine (start_read_params s room)
  unfolding start_read_params
  params_wide room = unless_runs_lem _ (room_for_lem 2056 room _ (begun (Reading Reads.Header) tt))

  erase_wide : Fine (start_erase s)
  unfolding start_erase
  erase_wide = unless_runs_lem _ (begun (Erasing Erases.Chip false) tt)

  sectors_wide : (a n : ℕ) → Fine (start_erase_sectors s a n)
  unfolding start_erase_sectors
  sectors_wide a n =
      unless_runs_lem _
      (in_range_lem a n _ (have_types_lem _ (span_fits_lem (span_check a n (survey_for s a n).first (survey_for s a n).end) _ (begun (Erasing (Erases.Sectors a (a + n - 1)) false) tt))))

  reset_wide : Fine (start_reset s)
  unfolding start_reset
  reset_wide =
      unless_runs_lem _
      (by_cond Fine (not (s.known && s.params.jesd216a) || s.params.reset_inst_66_99) _ _ (λ t. begun (Resetting Resets.Enable) tt)
      (λ t. by_cond Fine s.params.reset_inst_f0 _ _ (λ u. begun (Resetting Resets.F0) tt) (λ u. w)))

  id_wide : Fine (start_read_jedec_id s)
  unfolding start_read_jedec_id
  id_wide = unless_runs_lem _ (begun (Reading Reads.Id) tt)

  busy_wide : Fine (start_is_busy s)
  unfolding start_is_busy
  busy_wide = unless_runs_lem _ (begun (Polling Polls.Once 0) tt)

  protected_wide : Fine (start_is_protected s)
  unfolding start_is_protected
  protected_wide = unless_runs_lem _ (begun (Reading Reads.Protected) tt)

  -- ---- the commands with data
  check : (t : Bool) (a : Answer) (next : Start) → FineStart next → FineStart (checked t s a next)
  check t a next f = by_cond FineStart t next (stays (refused s a)) (λ e. f) (λ e. w)

  begun_at : (at : ℕ) (p : Phase) → Narrow p → FineStart (begins at (goes s 0 p))
  unfolding told
  begun_at at p k = wide_in s w p 0 k

  data_wide : (a : ℕ) (d room : List ℕ) → Fine (start_program_data s a d room).out
  unfolding start_program_data begin_data told
  data_wide a d room =
      let n = length d in
      check (is_ended s.phase) BadSession _
      (by_cond FineStart (eqb n 0) _ _ (λ t. wide_in s w (Ended Ends.Other Done) 0 (tt, tt))
      (λ t. check (accepted_range s.settings a n) (invalid (last_address a n)) _
      (check (leb n (length room)) (NoRoom n) _ (begun_at 0 (Writing (Writes.Data a (n - 1) 0) false) tt))))

  span_wide : (a last : ℕ) (v : Bool) (span : Surveyed) (room : ℕ) → FineStart (begin_span s a last v span room)
  span_wide a last v span room =
      let len = span.end - span.first in
      check (accepted_range s.settings span.first len) (invalid (last_address span.first len)) _
      (check (leb len room) (NoRoom len) _ (begun_at (a - span.first) (to_before (job_for a last v span)) (to_before_lem s w (job_for a last v span))))

  program_wide : (a : ℕ) (d : List ℕ) (v : Bool) (room : List ℕ) → Fine (start_program s a d v room).out
  unfolding start_program begin_program
  program_wide a d v room =
      let n = length d in
      check (is_ended s.phase) BadSession _
      (check (accepted_range s.settings a n) (invalid (last_address a n)) _
      (check (not (eqb (length (types_of s)) 0)) NoEraseInstruction _ (span_wide a (a + n - 1) v (survey_for s a n) (length room))))

  -- ---- the setters
  abbrev Fits : Settings → Type 0
  Fits x = U64 (unwrap_or x.capacity 0) × U8 x.erase_opcode

  set_to_lem : (y : Result Settings SettingError) → ((x : Settings) → y ≡ Ok x → Fits x) → Fine (set_to s y)
  set_to_lem (Ok x) f = record { capacity = (f x refl).0; opcode = (f x refl).1; params = w.params; none = w.none; narrow = w.narrow }
  set_to_lem (Err e) f = w

  set_wide : (y : Result Settings SettingError) → ((x : Settings) → y ≡ Ok x → Fits x) → Fine (setting s y)
  unfolding setting
  set_wide y f = unless_runs_lem (set_to s y) (set_to_lem y f)

  -- a setter with limits changes neither the capacity nor the opcode
  limited_wide : (low high n : ℕ) (changed : Settings) → Fits changed → Fine (setting s (limited low high n changed))
  limited_wide low high n changed k = set_wide (limited low high n changed) (λ x e. subst Fits (set_within low high n changed x e).1 k)

  one_wide : (changed : Settings) → Fits changed → Fine (setting s (Ok changed))
  one_wide changed k = set_wide (Ok changed) (λ x e. subst Fits (same changed x e) k)
    where
      same : (x y : Settings) → ◌≡◌ {A = Result Settings SettingError} (Ok x) (Ok y) → x ≡ y
      same x y e = cc

  same_fits : Fits s.settings
  same_fits = (w.capacity, w.opcode)

-- ---- all of it, with the rule
module _ (s : Session) (h : Whole s) where
  wide : Wide s
  wide = wide_of s h.typed

pub keeps_whole : KeptWhole
keeps_whole = record {
  begins = whole_of fresh fresh_wide keeps_rule.begins;
  reads = λ s h legacy a n room. whole_of _ (read_wide s (wide s h) legacy a n room) (keeps_rule.reads s h.ruled legacy a n room);
  reads_params = λ s h room. whole_of _ (params_wide s (wide s h) room) (keeps_rule.reads_params s h.ruled room);
  erases = λ s h. whole_of _ (erase_wide s (wide s h)) (keeps_rule.erases s h.ruled);
  erases_sectors = λ s h a n. whole_of _ (sectors_wide s (wide s h) a n) (keeps_rule.erases_sectors s h.ruled a n);
  programs = λ s h a d v room. whole_of _ (program_wide s (wide s h) a d v room) (keeps_rule.programs s h.ruled a d v room);
  programs_data = λ s h a d room. whole_of _ (data_wide s (wide s h) a d room) (keeps_rule.programs_data s h.ruled a d room);
  resets = λ s h. whole_of _ (reset_wide s (wide s h)) (keeps_rule.resets s h.ruled);
  reads_id = λ s h. whole_of _ (id_wide s (wide s h)) (keeps_rule.reads_id s h.ruled);
  tells_busy = λ s h. whole_of _ (busy_wide s (wide s h)) (keeps_rule.tells_busy s h.ruled);
  tells_protected = λ s h. whole_of _ (protected_wide s (wide s h)) (keeps_rule.tells_protected s h.ruled);
  sets_address_bytes = λ s h n. whole_of _ (limited_wide s (wide s h) 1 4 n (with_address_bytes n s.settings) (same_fits s (wide s h))) (keeps_rule.sets_address_bytes s h.ruled n);
  sets_page_size = λ s h n. whole_of _ (limited_wide s (wide s h) 1 32768 n (with_page_size n s.settings) (same_fits s (wide s h))) (keeps_rule.sets_page_size s h.ruled n);
  sets_erase_size =
      λ s h n. whole_of _ (limited_wide s (wide s h) 1 2147483648 n (with_erase n s.settings.erase_opcode s.settings) (same_fits s (wide s h))) (keeps_rule.sets_erase_size s h.ruled n);
  sets_poll_limit = λ s h n. whole_of _ (limited_wide s (wide s h) 1 65535 n (with_poll_limit n s.settings) (same_fits s (wide s h))) (keeps_rule.sets_poll_limit s h.ruled n);
  sets_capacity = λ s h n k. whole_of _ (one_wide s (wide s h) (set_capacity s.settings n) (k, (wide s h).opcode)) (keeps_rule.sets_capacity s h.ruled n);
  clears_capacity = λ s h. whole_of _ (one_wide s (wide s h) (clear_capacity s.settings) (nothing, (wide s h).opcode)) (keeps_rule.clears_capacity s h.ruled);
  sets_erase_opcode = λ s h n k. whole_of _ (one_wide s (wide s h) (set_erase_opcode s.settings n) ((wide s h).capacity, k)) (keeps_rule.sets_erase_opcode s h.ruled n);
  steps = λ s h failed r room b q. whole_of _ (step_wide s (wide s h) failed r room b q h.ruled) (keeps_rule.steps s h.ruled failed r room b);
}
  where
    nothing : U64 0
    nothing = omega arith
