-- What a command leaves, whatever the replies: the statements.
use Rattle.std.specs.Prelude.{◌≡◌, Bool, true, false, ◌||◌, List, [], ◌∷◌, ℕ, zero, suc, ◌+◌, ◌-◌, ◌<◌, eqb, length, take, drop}
use Rattle.std.proofs.Math.Option.{Option, some, none}
use Rattle.erase_plan.specs.Good.{Each}
use Rattle.erase_plan.specs.Span.{span_start, span_end}
use Rattle.commands.specs.declared.Answer.{Answer}
use Rattle.commands.specs.declared.Answer.TheVariants.{Done, Access}
use Rattle.commands.specs.Answers.{number_of}
use Rattle.commands.specs.Script.{Sent, Kept, roomed, over}
use Rattle.commands.specs.Host.{Reply, failed, got, full, Outcome, tree, play}
use Rattle.commands.specs.Commands.{plan_of, Job, job_of}
use Rattle.commands.specs.Calls.{Call, Read, LegacyRead, ReadParams, Erase, EraseSectors, Program, ProgramData, Reset, ReadJedecId, IsBusy, IsProtected, script}

-- the answers that refuse at the start: 5, 6, 7, 11
unfoldable pub refused : Answer → Bool
refused a = eqb (number_of a) 5 || (eqb (number_of a) 6 || (eqb (number_of a) 7 || eqb (number_of a) 11))

-- a reply of bytes
abbrev pub OfBytes : Reply → Type 0
OfBytes failed = Unit {0}
OfBytes (got bytes) = Each (λ (x : ℕ). x < 256) bytes

-- the room that each command needs. Where that is 0 the whole room is kept
abbrev pub room_need : Call → Kept → ℕ
room_need (Read a n) w = n
room_need (LegacyRead a n) w = n
room_need ReadParams w = 2056
room_need Erase w = 0
room_need (EraseSectors a n) w = 0
room_need (Program a d v) w = span_end (plan_of w a (a + length d)) - span_start (plan_of w a (a + length d))
room_need (ProgramData a d) w = length d
room_need Reset w = 0
room_need ReadJedecId w = 0
room_need IsBusy w = 0
room_need IsProtected w = 0

-- a room keeps its length, and all beyond its first n bytes
pub record Beyond (n : ℕ) (old new : List ℕ) : Type 0 where
  pub long : length new ≡ length old
  pub rest : drop n new ≡ drop n old

-- what a command started with w leaves in an outcome, by the replies
pub record Left (c : Call) (w : Kept) (rs : List Reply) (o : Outcome) : Type 0 where
  -- settings and parameters are kept, but by a read_params that is Done
  pub settled : ((c ≡ ReadParams) × (o.answer ≡ Done) → ⊥) → o.kept ≡ roomed w o.kept.room
  -- a refusal at the start has sent nothing, and all is as it was
  pub refusal : refused o.answer ≡ true → ((play (tree 0 (script c w)) rs).0 ≡ []) × (o.kept ≡ w)
  -- the room beyond the need is never changed. (A count of headers is a byte: 8 + 8 × 256 is 2,056)
  pub beyond : Each OfBytes rs → Beyond (room_need c w) w.room o.kept.room

abbrev pub Leaves : Type 0
Leaves = (c : Call) (w : Kept) (rs : List Reply) (o : Outcome) → (play (tree 0 (script c w)) rs).1 ≡ some o → Left c w rs o

-- ---- read, legacy_read
-- a read that is not Done leaves all as it was; else the room is the reply laid over its start
pub record LeftByRead (n : ℕ) (w : Kept) (rs : List Reply) (o : Outcome) : Type 0 where
  pub failing : (o.answer ≡ Done → ⊥) → o.kept ≡ w
  pub reading : o.answer ≡ Done
      → (bytes : List ℕ) × (rest : List Reply) × (rs ≡ got bytes ∷ rest) × (length bytes ≡ n) × (o.kept ≡ roomed w (over 0 bytes w.room))

abbrev pub ReadLeaves : Type 0
ReadLeaves =
    (a n : ℕ) (w : Kept) (rs : List Reply) (o : Outcome)
    → ((play (tree 0 (script (Read a n) w)) rs).1 ≡ some o → LeftByRead n w rs o)
    × ((play (tree 0 (script (LegacyRead a n) w)) rs).1 ≡ some o → LeftByRead n w rs o)

-- ---- program
-- a read of n bytes, by the replies: its bytes and the replies after it; nothing if it was not answered in full. 0 bytes are not read
unfoldable pub fetched : ℕ → List Reply → Option (List ℕ × List Reply)
fetched zero rs = some ([], rs)
fetched (suc n) [] = none
fetched (suc n) (r ∷ rs) = elim (full (suc n) r) [ some bytes ↦ some (bytes, rs) | none ↦ none ]

-- a program's two reads, by the replies: whether both were answered in full; and the room, with the bytes before the data and those after
-- them laid in as far as they came
unfoldable pub gathered : Job → List Reply → List ℕ → Bool × List ℕ
gathered J rs room =
    elim (fetched (J.from - J.base) rs) [
      | none ↦ (false, room)
      | some r ↦ elim (fetched (J.last - J.end) r.1) [
        | none ↦ (false, over 0 r.0 room)
        | some r' ↦ (true, over (J.end - J.base) r'.0 (over 0 r.0 room))
      ]
    ]

-- after any answer that is no refusal: the room is that of the data laid in and of the two reads. Where one of them was not answered in full
-- the answer is 8, and nothing but reads was sent. The data are in the room
pub record LeftByProgram (J : Job) (d old : List ℕ) (rs : List Reply) (sent : List Sent) (o : Outcome) : Type 0 where
  pub room : o.kept.room ≡ (gathered J rs (over (J.from - J.base) d old)).1
  pub broken : (gathered J rs (over (J.from - J.base) d old)).0 ≡ false → (o.answer ≡ Access) × Each (λ (s : Sent). s.opcode ≡ 0x0B) sent
  pub holds : take (length d) (drop (J.from - J.base) o.kept.room) ≡ d

abbrev pub ProgramLeaves : Type 0
ProgramLeaves =
    (a : ℕ) (d : List ℕ) (v : Bool) (w : Kept) (rs : List Reply) (o : Outcome)
    → (play (tree 0 (script (Program a d v) w)) rs).1 ≡ some o → refused o.answer ≡ false
    → LeftByProgram (job_of w a (length d) v) d w.room rs (play (tree 0 (script (Program a d v) w)) rs).0 o
