-- The premises can be met: a fresh session, set to a part, that erases, writes, reads and programs on it.
use mathlib.Core.Path.{◌≡◌, refl, sym, ap, subst}
use mathlib.Core.Bool.{true}
use mathlib.Core.Logic.{inl}
use mathlib.Core.List.{List, [], ◌∷◌}
use mathlib.Core.Option.{Option, some, none}
use Prim.Native.Nat.{ℕ, ◌%◌}
use native.Mathlib.Omega.{arith}
use native.Mathlib.Nat.{mod-lt}
use lib.ListN.{length}
use Rattle.dwords.specs.Dwords.{byte_at}
use Rattle.settings.specs.Limits.{page_of, within}
use Rattle.settings.specs.Ranges.{accepted_range}
use Rattle.settings.proofs.Laws.{new_sound}
use Rattle.erase_plan.specs.Good.{Mult}
use Rattle.erase_plan.specs.Types.{kept, present}
use Rattle.erase_plan.specs.Plan.{block_base, block_end, cover, beats, chosen_from, chosen, entry_at, next_pos, next_of, plan_in, plan}
use Rattle.erase_plan.specs.Span.{span_start, span_end, survey_of, span_check}
use Rattle.erase_plan.proofs.Lists.{no_true}
use Rattle.plans.specs.Available.{of_settings, available}
use Rattle.commands.specs.declared.Answer.TheVariants.{Done}
use Rattle.commands.specs.Script.{over}
use Rattle.commands.specs.Wire.{high_first, wire}
use Rattle.commands.specs.Transactions.{by_flag, ready}
use Rattle.commands.specs.Commands.{blank}
use Rattle.commands.specs.Calls.{Call, ProgramData}
use Rattle.commands.specs.Bounds.{pages}
use Rattle.commands.specs.Leaves.{refused}
use Rattle.room.specs.Room.{laid, part_of}
use Rattle.phases.specs.Waits.{read_tx, block_tx, part_last, page_tx, write_tx, verify_tx, read_need, erase_need, write_need, poll_need, verify_need, need_of}
use Rattle.flash.specs.Waits.{entry_for, erase_tx, page_pause, flagged, poll_tx, waits_on, event_of, told}
use Rattle.phases.specs.Moves.{to_after, to_before, read_room, to_polls, last_written, next_erase, next_write, to_verify, after_write, still_busy, first_differs, judged, verify_on, room_after, is_ended, after_read}
use Rattle.flash.specs.Steps.{read_on, after_erase, after_polls, poll_on, advanced, counted, is_full, step_of}
use Rattle.flash.specs.Starts.{unless_runs, in_range, have_types, room_for, start_read, start_erase_sectors, begin_program, start_program, begin_data, start_program_data, fresh, setting}
use Rattle.meaning.specs.Meaning.{kept_of}
use Rattle.nor_model.specs.Device.{Part, bytes_from, joined, address_in, whole, write_enable, operate, erased, block_erase, onward, and_at, programmed, page_program, read_memory, status1, read_status, unless_busy, obeyed, respond}
use Rattle.nor_model.specs.Fits.{other_command}
use Rattle.nor_model.specs.Runs.{Times}
use Rattle.nor_model.specs.Demand3.{Act, Command, Setting, Assumed}
use Rattle.nor_model.proofs.Breaks.{one_apart}
use Rattle.nor_model.proofs.Tables.{bytes_data}
use Rattle.nor_model.proofs.Instances.{odd, odd_acts}
use Rattle.on_part.specs.OnPart.{Served, serve, served, Stand, after, set_in, Kept, Keeps}
use Rattle.on_part.proofs.Keeping.{demand3_by_value}

-- ---- the premises of a whole sequence, computed along it
-- what a run came to; if it came to nothing, where it began
abbrev pub came_to : Stand → Option Served → Served
came_to x (some r) = r
came_to x none = record { session = x.session; room = []; answer = Done; polls = 0; state = x.state; sent = [] }

abbrev pub next : Part → Stand → Call → List ℕ → Times → Stand
next p x c room times = after x c (came_to x (served p times x.state x.session c room))

abbrev pub Premises : Part → Stand → List Act → Type 0
Premises p x [] = Unit {0}
Premises p x (Command c room times ∷ acts) = Assumed p (kept_of x.session room) c times × Premises p (next p x c room times) acts
Premises p x (Setting a ∷ acts) = Premises p (set_in a x) acts

-- then all is kept
abbrev pub AllKept : Part → (ℕ → ℕ) → Stand → List Act → Type 0
AllKept p first x [] = Unit {0}
AllKept p first x (Command c room times ∷ acts) = Kept p first x c room times × AllKept p first (next p x c room times) acts
AllKept p first x (Setting a ∷ acts) = AllKept p first (set_in a x) acts

pub all_kept : (p : Part) (first : ℕ → ℕ) (acts : List Act) (x : Stand) → Keeps p first x acts → Premises p x acts → AllKept p first x acts
all_kept p first [] x k q = tt
all_kept p first (Command c room times ∷ acts) x k q =
    let y = k q.0 in
    let e : y.0.to ≡ came_to x (served p times x.state x.session c room) = ap (came_to x) (sym y.0.is) in
    (y.0, all_kept p first acts (next p x c room times) (subst (λ (r : Served). Keeps p first (after x c r) acts) e y.1) q.1)
all_kept p first (Setting a ∷ acts) x k q = all_kept p first acts (set_in a x) k q

-- ---- a fresh session, and a part of 300 bytes in blocks of 100
abbrev pub start : Stand
start = record { state = record { memory = λ i. i % 251; latch = true; busy = 0 }; session = fresh; accepted = [] }

odd_keeps : Keeps odd (λ i. i % 251) start odd_acts
unfolding is_ended
odd_keeps =
    demand3_by_value odd start.state fresh odd_acts refl
    (record { id = λ i. omega arith; sfdp = λ i. omega arith; memory = λ i. omega (arith, mod-lt i {m = 251} (omega arith)) }) refl
    (record { sound = new_sound; read = λ e. no_true e })

pub odd_premises : Premises odd start odd_acts
unfolding serve respond byte_at ready accepted_range available of_settings present kept plan plan_in next_pos next_of entry_at chosen chosen_from beats cover block_base block_end span_start span_end survey_of span_check by_flag page_of blank refused bytes_from joined address_in whole write_enable operate erased block_erase onward and_at programmed page_program read_memory status1 read_status unless_busy obeyed high_first wire within pages other_command laid over part_of read_tx entry_for block_tx erase_tx part_last page_pause page_tx write_tx flagged poll_tx verify_tx waits_on read_need erase_need write_need poll_need verify_need need_of event_of told to_after to_before read_on after_read read_room to_polls last_written next_erase after_erase next_write to_verify after_write after_polls still_busy poll_on first_differs judged verify_on advanced room_after is_ended counted is_full step_of unless_runs in_range have_types room_for start_read start_erase_sectors begin_program start_program begin_data start_program_data setting
odd_premises = (
  record { fits = inl (record { capacity = refl; addressed = refl; page = half; types = (refl, tt); apart = one_apart 0x20 100 refl; poll = λ e. no_true e }); ready = λ past. omega arith; bytes = bytes_data _ tt },
  (
    record { fits = inl (record { capacity = refl; addressed = refl; page = half; types = (refl, tt); apart = one_apart 0x20 100 refl; poll = λ e. no_true e }); ready = λ past. omega arith; bytes = bytes_data (ProgramData 250 (0x0F ∷ 0xF0 ∷ [])) tt },
    (
      record { fits = inl (record { capacity = refl; addressed = refl; page = half; types = (refl, tt); apart = one_apart 0x20 100 refl; poll = λ e. no_true e }); ready = λ past. omega arith; bytes = bytes_data _ tt },
      (
        record { fits = inl (record { capacity = refl; addressed = refl; page = half; types = (refl, tt); apart = one_apart 0x20 100 refl; poll = λ e. no_true e }); ready = λ past. omega arith; bytes = bytes_data _ (omega arith, (omega arith, (omega arith, (omega arith, (omega arith, (omega arith, (omega arith, (omega arith, (omega arith, (omega arith, tt)))))))))) },
        tt,
      ),
    ),
  ),
)
  where
    half : Mult 10 20
    half = record { q = 2; is = refl }

-- all four commands come to their answers, with the promises
pub odd_kept : AllKept odd (λ i. i % 251) start odd_acts
odd_kept = all_kept odd (λ i. i % 251) odd_acts start odd_keeps odd_premises

-- everything after some acts
unfoldable pub after_all : Part → List Act → Stand → Stand
after_all p [] x = x
after_all p (Command c room times ∷ acts) x = after_all p acts (next p x c room times)
after_all p (Setting a ∷ acts) x = after_all p acts (set_in a x)

-- computed: all four were accepted, and so stands the memory
pub odd_run : (length (after_all odd odd_acts start).accepted ≡ 4)
    × (bytes_from (after_all odd odd_acts start).state.memory 246 6 ≡ 255 ∷ 255 ∷ 255 ∷ 255 ∷ 0x0F ∷ 0xF0 ∷ [])
    × (bytes_from (after_all odd odd_acts start).state.memory 92 14 ≡ 92 ∷ 93 ∷ 94 ∷ 1 ∷ 2 ∷ 3 ∷ 4 ∷ 5 ∷ 6 ∷ 7 ∷ 8 ∷ 9 ∷ 10 ∷ 105 ∷ [])
unfolding after_all serve respond byte_at ready accepted_range available of_settings present kept plan plan_in next_pos next_of entry_at chosen chosen_from beats cover block_base block_end span_start span_end survey_of span_check by_flag page_of blank refused bytes_from joined address_in whole write_enable operate erased block_erase onward and_at programmed page_program read_memory status1 read_status unless_busy obeyed high_first wire within pages laid over part_of read_tx entry_for block_tx erase_tx part_last page_pause page_tx write_tx flagged poll_tx verify_tx waits_on read_need erase_need write_need poll_need verify_need need_of event_of told to_after to_before read_on after_read read_room to_polls last_written next_erase after_erase next_write to_verify after_write after_polls still_busy poll_on first_differs judged verify_on advanced room_after is_ended counted is_full step_of unless_runs in_range have_types room_for start_read start_erase_sectors begin_program start_program begin_data start_program_data setting
odd_run = (refl, refl, refl)
