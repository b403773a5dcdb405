-- The SFDP area of a session's parameters, as C asks for it.
use Rattle.std.specs.Prelude.{ℕ, cond, List, [], Option, Some, None}
use Rattle.flash.specs.declared.Session.{Session}
use Rattle.sfdp_write.specs.Written.{answer_to, written, answer_number}
use Rattle.moss_flash.specs.Calls.{Called}

-- a number, and the lent bytes after it
abbrev pub leaving : ℕ → List ℕ → Called
leaving n out = record { number = n; session = []; event = []; room = out }

-- what writing the table answers and leaves; 15 without parameters
unfoldable pub table_of : Session → List ℕ → Called
table_of s out = cond s.known (leaving (answer_number (answer_to s.params out)) (written s.params out)) (leaving 15 out)

-- 13 for bytes that hold no session
abbrev pub table_called : Option Session → List ℕ → Called
table_called None out = leaving 13 out
table_called (Some s) out = table_of s out
