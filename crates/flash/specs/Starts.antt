-- The starts: 13 while a command runs, the refusals in the order of docs/SCOPE.md, Answer numbers, else the command's first transaction.
use Rattle.std.specs.Prelude.{ℕ, ◌+◌, ◌-◌, Bool, false, cond, not, ◌&&◌, ◌||◌, List, eqb, ltb, leb, length, Result, Ok, Err}
use Rattle.sfdp.specs.Jesd216.{no_params}
use Rattle.settings.specs.declared.Settings.{Settings}
use Rattle.settings.specs.Ranges.{accepted_range, last_address}
use Rattle.settings.specs.declared.SettingError.{SettingError}
use Rattle.settings.specs.Limits.{defaults}
use Rattle.commands.specs.declared.Answer.{Answer}
use Rattle.commands.specs.declared.Answer.TheVariants.{Done, InvalidAddress, NoResetInstruction, NoEraseInstruction, BadSetting, NoRoom, BadSession}
use Rattle.phases.specs.declared.Job.{Job}
use Rattle.phases.specs.declared.ReadCommand.TheVariants as Reads
use Rattle.phases.specs.declared.EraseCommand.TheVariants as Erases
use Rattle.phases.specs.declared.WriteCommand.TheVariants as Writes
use Rattle.phases.specs.declared.PollCommand.TheVariants as Polls
use Rattle.phases.specs.declared.ResetCommand.TheVariants as Resets
use Rattle.phases.specs.declared.Command.TheVariants as Ends
use Rattle.phases.specs.declared.Phase.{Phase}
use Rattle.phases.specs.declared.Phase.TheVariants.{Reading, Erasing, Writing, Polling, Resetting, Ended}
use Rattle.flash.specs.declared.Session.{Session}
use Rattle.flash.specs.declared.Event.TheVariants.{Answered}
use Rattle.flash.specs.declared.Stepped.{Stepped}
use Rattle.flash.specs.declared.First.{First}
use Rattle.flash.specs.declared.First.TheVariants as Firsts
use Rattle.erase_plan.specs.declared.Surveyed.{Surveyed}
use Rattle.erase_plan.specs.Plan.{plan}
use Rattle.erase_plan.specs.Span.{survey_of, span_check}
use Rattle.flash.specs.Waits.{types_of, told}
use Rattle.phases.specs.Moves.{to_before, is_ended}
use Rattle.flash.specs.Steps.{goes, ends, Taken}
use Rattle.room.specs.Room.{laid}

-- a refused start: the answer, no poll, and the session as it was
abbrev pub refused : Session → Answer → Stepped
refused s a = record { session = s; event = Answered a 0 }

-- a command that starts in a phase
abbrev pub starts : Session → Phase → Stepped
starts s p = told (goes s 0 p)

-- 13 first
unfoldable pub unless_runs : Session → Stepped → Stepped
unless_runs s next = cond (is_ended s.phase) next (refused s BadSession)

-- 5, with the last address of the range
unfoldable pub in_range : Session → ℕ → ℕ → Stepped → Stepped
in_range s a n next = cond (accepted_range s.settings a n) next (refused s (InvalidAddress (record { last = last_address a n })))

-- 7
unfoldable pub have_types : Session → Stepped → Stepped
have_types s next = cond (eqb (length (types_of s)) 0) (refused s NoEraseInstruction) next

-- 11
unfoldable pub room_for : Session → ℕ → ℕ → Stepped → Stepped
room_for s n room next = cond (ltb room n) (refused s (NoRoom n)) next

-- ---- the commands without data: room is the length of what is lent
unfoldable pub start_read : Session → Bool → ℕ → ℕ → ℕ → Stepped
start_read s legacy a n room = unless_runs s (in_range s a n (room_for s n room (starts s (Reading (Reads.Read legacy a n)))))

unfoldable pub start_read_params : Session → ℕ → Stepped
start_read_params s room = unless_runs s (room_for s 2056 room (starts s (Reading Reads.Header)))

unfoldable pub start_erase : Session → Stepped
start_erase s = unless_runs s (starts s (Erasing Erases.Chip false))

-- the survey of a range's plan
abbrev pub survey_for : Session → ℕ → ℕ → Surveyed
survey_for s a n = survey_of (plan (types_of s) a (a + n))

abbrev pub span_fits : Session → Result (Unit {0}) ℕ → Stepped → Stepped
span_fits s (Ok _) next = next
span_fits s (Err a) next = refused s (InvalidAddress (record { last = a }))

-- of an accepted range: 7, 5 for the span, or the first entry of the plan
abbrev pub begin_sectors : Session → ℕ → ℕ → Stepped
begin_sectors s a n =
    have_types s
    (span_fits s (span_check a n (survey_for s a n).first (survey_for s a n).end) (starts s (Erasing (Erases.Sectors a (a + n - 1)) false)))

unfoldable pub start_erase_sectors : Session → ℕ → ℕ → Stepped
start_erase_sectors s a n = unless_runs s (in_range s a n (begin_sectors s a n))

unfoldable pub start_reset : Session → Stepped
start_reset s =
    unless_runs s
    (cond (not (s.known && s.params.jesd216a) || s.params.reset_inst_66_99) (starts s (Resetting Resets.Enable))
    (cond s.params.reset_inst_f0 (starts s (Resetting Resets.F0)) (refused s NoResetInstruction)))

unfoldable pub start_read_jedec_id : Session → Stepped
start_read_jedec_id s = unless_runs s (starts s (Reading Reads.Id))

unfoldable pub start_is_busy : Session → Stepped
start_is_busy s = unless_runs s (starts s (Polling Polls.Once 0))

unfoldable pub start_is_protected : Session → Stepped
start_is_protected s = unless_runs s (starts s (Reading Reads.Protected))

-- ---- the commands with data, which are copied into the lent room once nothing is refused
-- such a start stays refused, or begins, and then the data are laid over the room from a place on
pub data Start : Type 0 where
  stays : Stepped → Start
  begins : ℕ → Session → Start

abbrev pub start_out : Start → Stepped
start_out (stays x) = x
start_out (begins at s) = told s

abbrev pub start_room : Start → List ℕ → List ℕ → List ℕ
start_room (stays x) d room = room
start_room (begins at s) d room = laid at d room

-- the start that a session's beginning comes to
abbrev pub start_of : Session → Result First Answer → Start
start_of s (Err a) = stays (refused s a)
start_of s (Ok Firsts.Over) = stays (told (ends s 0 Ends.Other Done))
start_of s (Ok (Firsts.Goes at p)) = begins at (goes s 0 p)

-- the checks again, over such starts
abbrev pub checked : Bool → Session → Answer → Start → Start
checked ok s a next = cond ok next (stays (refused s a))

abbrev pub invalid : ℕ → Answer
invalid last = InvalidAddress (record { last = last })

-- a program of the addresses from a up to last, whose plan's span is known: 5 if that passes the limits, 11, or its first phase
abbrev pub job_for : ℕ → ℕ → Bool → Surveyed → Job
job_for a last v span = record { from = a; last = last; base = span.first; top = span.end - 1; verified = v }

abbrev pub begin_span : Session → ℕ → ℕ → Bool → Surveyed → ℕ → Start
begin_span s a last v span room =
    checked (accepted_range s.settings span.first (span.end - span.first)) s (invalid (last_address span.first (span.end - span.first)))
    (checked (leb (span.end - span.first) room) s (NoRoom (span.end - span.first))
    (begins (a - span.first) (goes s 0 (to_before (job_for a last v span)))))

unfoldable pub begin_program : Session → ℕ → ℕ → Bool → ℕ → Start
begin_program s a n v room =
    checked (is_ended s.phase) s BadSession
    (checked (accepted_range s.settings a n) s (invalid (last_address a n))
    (checked (not (eqb (length (types_of s)) 0)) s NoEraseInstruction
    (begin_span s a (a + n - 1) v (survey_for s a n) room)))

unfoldable pub start_program : Session → ℕ → List ℕ → Bool → List ℕ → Taken
start_program s a d v room =
    let b = begin_program s a (length d) v (length room) in
    record { out = start_out b; room = start_room b d room }

-- without data Done at any address
unfoldable pub begin_data : Session → ℕ → ℕ → ℕ → Start
begin_data s a n room =
    checked (is_ended s.phase) s BadSession
    (cond (eqb n 0) (stays (told (ends s 0 Ends.Other Done)))
    (checked (accepted_range s.settings a n) s (invalid (last_address a n))
    (checked (leb n room) s (NoRoom n)
    (begins 0 (goes s 0 (Writing (Writes.Data a (n - 1) 0) false))))))

unfoldable pub start_program_data : Session → ℕ → List ℕ → List ℕ → Taken
start_program_data s a d room =
    let b = begin_data s a (length d) (length room) in
    record { out = start_out b; room = start_room b d room }

-- ---- a fresh session: the defaults, no parameters; it counts as ended with Done and 0 polls
abbrev pub fresh : Session
fresh = record { settings = defaults; known = false; params = no_params; phase = Ended Ends.Other Done; polls = 0 }

-- ---- setters are refused while a command runs
abbrev pub with_settings : Session → Settings → Session
with_settings s x = record { settings = x; known = s.known; params = s.params; phase = s.phase; polls = s.polls }

-- a setter's answer: Done with the new settings, or 10, or 13; the session's own last answer stays
abbrev pub set_to : Session → Result Settings SettingError → Stepped
set_to s (Ok x) = record { session = with_settings s x; event = Answered Done 0 }
set_to s (Err e) = refused s BadSetting

unfoldable pub setting : Session → Result Settings SettingError → Stepped
setting s x = unless_runs s (set_to s x)
