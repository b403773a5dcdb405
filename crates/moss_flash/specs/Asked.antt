-- What C may ask besides running a command: the version, the parameters' record, the span of a program.
use Rattle.std.specs.Prelude.{ℕ, ◌+◌, ◌*◌, cond, List, [], ◌∷◌, ltb, length, Option, Some, None, Result, Ok, Err}
use Rattle.room.specs.Room.{laid}
use Rattle.plans.specs.declared.PlanError.{PlanError}
use Rattle.plans.specs.Planned.{error_number}
use Rattle.questions.specs.declared.Span.{Span}
use Rattle.questions.specs.Shown.{shown_words}
use Rattle.questions.specs.Spans.{spanned_of}
use Rattle.flash.specs.declared.Session.{Session}
use Rattle.moss_flash.specs.declared.Refusal.{Refusal}
use Rattle.moss_flash.specs.declared.records.EventWords.{EventWords}
use Rattle.moss_flash.specs.Records.{le8, words_over}
use Rattle.moss_flash.specs.Calls.{Called, refusal_number}
use Rattle.moss_flash.specs.Plans.{query_of, number_of, error_word, number_words}

-- major, minor and patch, a byte each, the patch lowest
abbrev pub version : ℕ
version = 65536 * 0 + 256 * 2 + 0

-- ---- the parameters' record
-- numbers laid over lent bytes from a place on, eight bytes each
unfoldable pub laid_from : ℕ → List ℕ → List ℕ → List ℕ
laid_from at [] l = l
laid_from at (x ∷ xs) l = laid_from (at + 8) xs (laid at (le8 x) l)

-- 13, 11, 0
abbrev pub params_called : Option Session → List ℕ → Called
params_called None out = record { number = 13; session = []; event = out; room = [] }
params_called (Some s) out =
    cond (ltb (length out) 192) (record { number = 11; session = []; event = out; room = [] })
    (record { number = 0; session = []; event = laid_from 0 (shown_words s.known s.params) out; room = [] })

-- ---- the span of a program: its answer in the event record, with two numbers: its first address and its length; of a refusal what it reports, and 0
abbrev pub span_number : Result Span PlanError → ℕ
span_number = number_of

abbrev pub span_words : Result Span PlanError → EventWords
span_words (Ok x) = number_words 0 x.first x.len
span_words (Err e) = number_words (error_number e) (error_word e) 0

abbrev pub span_called : Result Session Refusal → ℕ → ℕ → List ℕ → Called
span_called (Err n) a size e = record { number = refusal_number n; session = []; event = e; room = [] }
span_called (Ok s) a size e = record {
  number = span_number (spanned_of (query_of s a size));
  session = [];
  event = words_over (span_words (spanned_of (query_of s a size))) e;
  room = [];
}
