-- How many transactions a command takes at most, whatever the replies; that it ends; and its polls: the statements.
use Rattle.std.specs.Prelude.{◌≡◌, Bool, cond, List, ℕ, ◌+◌, ◌-◌, ◌*◌, ◌/◌, ◌≤◌, eqb, length}
use Rattle.std.proofs.Math.Option.{some}
use Rattle.settings.specs.Limits.{page_of}
use Rattle.erase_plan.specs.Span.{span_start, span_end}
use Rattle.commands.specs.declared.Answer.{Answer}
use Rattle.commands.specs.Script.{Kept, Script, over}
use Rattle.commands.specs.Host.{Reply, Outcome, tree, play, polls_in}
use Rattle.commands.specs.Commands.{plan_of, written, Job, job_of}
use Rattle.commands.specs.Calls.{Call, Read, LegacyRead, ReadParams, Erase, EraseSectors, Program, ProgramData, Reset, ReadJedecId, IsBusy, IsProtected, script}
use Rattle.commands.specs.Leaves.{gathered}

-- ---- the numbers of docs/SCOPE.md, Commands as transactions
abbrev pub limit : Kept → ℕ
limit w = w.settings.poll_limit

-- E: the entries of the plan for n bytes from a on
abbrev pub entries : Kept → ℕ → ℕ → ℕ
entries w a n = length (plan_of w a (a + n))

-- the pages that n bytes from a on touch: from that of the first byte to that of the last
unfoldable pub pages : ℕ → ℕ → ℕ → ℕ
pages page a n = cond (eqb n 0) 0 ((a + n - 1) / page - a / page + 1)

-- W: by the page size of the settings
abbrev pub pages_of : Kept → ℕ → ℕ → ℕ
pages_of w a n = pages (page_of w.settings) a n

-- W of a program: the pages of its span
abbrev pub span_pages : Kept → ℕ → ℕ → ℕ
span_pages w a n =
    pages_of w (span_start (plan_of w a (a + n))) (span_end (plan_of w a (a + n)) - span_start (plan_of w a (a + n)))

-- the most that each command takes
abbrev pub most : Call → Kept → ℕ
most (Read a n) w = 1
most (LegacyRead a n) w = 1
most ReadParams w = 3
most Erase w = 2 + limit w
most (EraseSectors a n) w = entries w a n * (2 + limit w)
most (Program a d v) w = 4 + (entries w a (length d) + span_pages w a (length d)) * (2 + limit w)
most (ProgramData a d) w = pages_of w a (length d) * (2 + limit w)
most Reset w = 2
most ReadJedecId w = 2
most IsBusy w = 1
most IsProtected w = 1

-- ---- the statements
-- a host sends no more, whatever the replies
abbrev pub Bounded : Type 0
Bounded = (c : Call) (w : Kept) (rs : List Reply) → length (play (tree 0 (script c w)) rs).0 ≤ most c w

-- a host with as many replies comes to an outcome
abbrev pub ComesToEnd : Type 0
ComesToEnd = (c : Call) (w : Kept) (rs : List Reply) → most c w ≤ length rs → (o : Outcome) × ((play (tree 0 (script c w)) rs).1 ≡ some o)

-- a program closer, by the replies to its reads: W is the pages of the bytes that it writes, by what the room then holds
abbrev pub written_pages : Kept → Job → List ℕ → List Reply → ℕ
written_pages w J d rs =
    pages_of w J.base (written (J.end - J.base) (J.last - J.base) (gathered J rs (over (J.from - J.base) d w.room)).1)

abbrev pub BoundedProgram : Type 0
BoundedProgram =
    (a : ℕ) (d : List ℕ) (v : Bool) (w : Kept) (rs : List Reply)
    → length (play (tree 0 (script (Program a d v) w)) rs).0
    ≤ 4 + (entries w a (length d) + written_pages w (job_of w a (length d) v) d rs) * (2 + limit w)

-- every script: the answer's polls are those of the transaction list
abbrev pub PollsCounted : Type 0
PollsCounted =
    (c : Script Answer) (rs : List Reply) (o : Outcome) → (play (tree 0 c) rs).1 ≡ some o → o.polls ≡ polls_in (play (tree 0 c) rs).0
