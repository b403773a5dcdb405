-- The plan for C: the records of its entries, 16 bytes each, in a lent slice.
use Rattle.std.specs.Prelude.{ℕ, ◌*◌, ◌/◌, List, [], ◌∷◌, ◌++◌, length, drop, Result, Ok, Err}
use Rattle.erase_plan.specs.declared.EraseEntry.{EraseEntry}
use Rattle.plans.specs.declared.PlanQuery.{PlanQuery}
use Rattle.plans.specs.declared.PlanError.{PlanError}
use Rattle.plans.specs.declared.PlanError.TheVariants.{InvalidAddress, NoEraseInstruction, NoRoom}
use Rattle.plans.specs.Planned.{plan_for, error_number, planned_of}
use Rattle.packed.specs.Numbers.{bytes}
use Rattle.flash.specs.declared.Session.{Session}
use Rattle.moss_flash.specs.declared.Refusal.{Refusal}
use Rattle.moss_flash.specs.declared.records.EventWords.{EventWords}
use Rattle.moss_flash.specs.Records.{words_over}
use Rattle.moss_flash.specs.Calls.{Called, refusal_number}

abbrev pub query_of : Session → ℕ → ℕ → PlanQuery
query_of s a n = record { settings = s.settings; known = s.known; params = s.params; address = a; length = n }

-- an entry's record: opcode, timed, two bytes 0; size, base and time, four bytes each, the lowest first
unfoldable pub entry_bytes : EraseEntry → List ℕ
entry_bytes e = e.opcode ∷ e.timed ∷ 0 ∷ 0 ∷ bytes (e.size ∷ e.base ∷ e.time ∷ [])

-- the records of a plan, one after another
unfoldable pub records_of : List EraseEntry → List ℕ
records_of [] = []
records_of (e ∷ es) = entry_bytes e ++ records_of es

-- where there is a plan that fits its records, then the bytes that are left; else the bytes as they were
abbrev pub fitted : Result ℕ PlanError → (over as_were : List ℕ) → List ℕ
fitted (Ok n) over as_were = over
fitted (Err e) over as_were = as_were

unfoldable pub plan_over : PlanQuery → List ℕ → List ℕ
plan_over q l = fitted (planned_of q (length l / 16)) (records_of (plan_for q) ++ drop (16 * length (plan_for q)) l) l

-- what a refusal reports: of 5 the last address, of 11 how many entries the plan has
abbrev pub error_word : PlanError → ℕ
error_word (InvalidAddress r) = r.last
error_word NoEraseInstruction = 0
error_word (NoRoom n) = n

-- the answer's number, whatever is asked for
abbrev pub number_of : {A : Type 0} → Result A PlanError → ℕ
number_of (Ok x) = 0
number_of (Err e) = error_number e

abbrev pub plan_head : Result ℕ PlanError → ℕ
plan_head = number_of

-- number a of the event record: the count, or what a refusal reports
unfoldable pub plan_number : Result ℕ PlanError → ℕ
plan_number (Ok n) = n
plan_number (Err e) = error_word e

-- an answer's number and two more in the event record
abbrev pub number_words : (number a b : ℕ) → EventWords
number_words number a b = record { head = number; reply = 0; from = 0; len = 0; delay = 0; polls = 0; a = a; b = b }

abbrev pub plan_words : Result ℕ PlanError → EventWords
plan_words p = number_words (plan_head p) (plan_number p) 0

abbrev pub plan_called : Result Session Refusal → ℕ → ℕ → (entries event : List ℕ) → Called
plan_called (Err n) a size l e = record { number = refusal_number n; session = []; event = e; room = l }
plan_called (Ok s) a size l e = record {
  number = plan_head (planned_of (query_of s a size) (length l / 16));
  session = [];
  event = words_over (plan_words (planned_of (query_of s a size) (length l / 16))) e;
  room = plan_over (query_of s a size) l;
}
