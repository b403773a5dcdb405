-- The records that C reads: numbers of 64 bits, one after another, the lowest byte first.
use Rattle.std.specs.Prelude.{ℕ, ◌+◌, ◌*◌, ◌/◌, ◌%◌, Bool, true, false, cond, not, List, [], ◌∷◌, leb, is_some, unwrap_or}
use Rattle.commands.specs.declared.Answer.{Answer}
use Rattle.commands.specs.declared.Answer.TheVariants.{Done, DoneBool, DoneId, ReadbackError, InvalidManufacturer, InvalidSFDPHeader, InvalidSFDPParams, InvalidAddress, NoResetInstruction, NoEraseInstruction, Access, Busy, BadSetting, NoRoom, NoSFDP, BadSession}
use Rattle.commands.specs.Answers.{number_of}
use Rattle.commands.specs.Wire.{high_first}
use Rattle.room.specs.Room.{laid}
use Rattle.phases.specs.declared.Transaction.{Transaction}
use Rattle.flash.specs.declared.Event.{Event}
use Rattle.flash.specs.declared.Event.TheVariants.{Send, Answered}
use Rattle.flash.specs.declared.Session.{Session}
use Rattle.flash.specs.Waits.{flagged}
use Rattle.phases.specs.Moves.{is_ended}
use Rattle.moss_flash.specs.declared.records.EventWords.{EventWords}
use Rattle.moss_flash.specs.declared.records.SettingsRecord.{SettingsRecord}

abbrev pub bit : Bool → ℕ
bit true = 1
bit false = 0

-- a number's eight bytes, the lowest first
abbrev pub le8 : ℕ → List ℕ
le8 x =
    x % 256 ∷ x / 256 % 256 ∷ x / 256 / 256 % 256 ∷ x / 256 / 256 / 256 % 256 ∷ x / 256 / 256 / 256 / 256 % 256
    ∷ x / 256 / 256 / 256 / 256 / 256 % 256 ∷ x / 256 / 256 / 256 / 256 / 256 / 256 % 256
    ∷ x / 256 / 256 / 256 / 256 / 256 / 256 / 256 % 256 ∷ []

-- the number of some bytes, the lowest first
unfoldable pub low_first : List ℕ → ℕ
low_first [] = 0
low_first (x ∷ l) = x + 256 * low_first l

-- ---- the event record
-- the address bytes in their order; there are at most 4
unfoldable pub address_in : ℕ → ℕ → ℕ
address_in n a = cond (leb n 4) (low_first (high_first n a)) 0

-- byte 0 is 255; byte 1 the length of the head; then the head: command byte, address bytes, a dummy 00 where there is one
unfoldable pub head_of : Transaction → ℕ
head_of t = 255 + 256 * (1 + t.addressed + bit t.dummy) + 65536 * (t.opcode + 256 * address_in t.addressed t.address)

-- head; reply length; the payload's place and length; delay and poll; polls, numbers a and b of an answer
unfoldable pub sent_words : Transaction → EventWords
sent_words t = record { head = head_of t; reply = t.reply; from = t.from; len = t.len; delay = t.delay + 4294967296 * bit t.poll; polls = 0; a = 0; b = 0 }

-- what an answer tells beside its number
unfoldable pub number_a : Answer → ℕ
number_a Done = 0
number_a (DoneBool yes?) = bit yes?
number_a (DoneId bank manufacturer device) = bank
number_a (ReadbackError address wrote read) = address
number_a InvalidManufacturer = 0
number_a InvalidSFDPHeader = 0
number_a InvalidSFDPParams = 0
number_a (InvalidAddress report) = report.last
number_a NoResetInstruction = 0
number_a NoEraseInstruction = 0
number_a Access = 0
number_a Busy = 0
number_a BadSetting = 0
number_a (NoRoom need) = need
number_a NoSFDP = 0
number_a BadSession = 0

unfoldable pub number_b : Answer → ℕ
number_b Done = 0
number_b (DoneBool yes?) = 0
number_b (DoneId bank manufacturer device) = manufacturer + 256 * device
number_b (ReadbackError address wrote read) = wrote + 256 * read
number_b InvalidManufacturer = 0
number_b InvalidSFDPHeader = 0
number_b InvalidSFDPParams = 0
number_b (InvalidAddress report) = 0
number_b NoResetInstruction = 0
number_b NoEraseInstruction = 0
number_b Access = 0
number_b Busy = 0
number_b BadSetting = 0
number_b (NoRoom need) = 0
number_b NoSFDP = 0
number_b BadSession = 0

unfoldable pub answer_words : Answer → ℕ → EventWords
answer_words a polls = record { head = number_of a; reply = 0; from = 0; len = 0; delay = 0; polls = polls; a = number_a a; b = number_b a }

unfoldable pub event_words : Event → EventWords
event_words (Send t) = sent_words t
event_words (Answered a polls) = answer_words a polls

-- the eight numbers laid over lent bytes
unfoldable pub words_over : EventWords → List ℕ → List ℕ
words_over w l =
    laid 56 (le8 w.b) (laid 48 (le8 w.a) (laid 40 (le8 w.polls) (laid 32 (le8 w.delay)
    (laid 24 (le8 w.len) (laid 16 (le8 w.from) (laid 8 (le8 w.reply) (laid 0 (le8 w.head) l)))))))

abbrev pub event_over : Event → List ℕ → List ℕ
event_over e l = words_over (event_words e) l

-- ---- the settings' record
-- bytes 0 to 7: address bytes, capacity set, erase opcode, parameters known, poll limit (two bytes), polls by flag status, a command runs
unfoldable pub settings_head : Session → ℕ
settings_head s =
    low_first (s.settings.address_bytes ∷ bit (is_some s.settings.capacity) ∷ s.settings.erase_opcode ∷ bit s.known ∷ [])
    + 4294967296 * (s.settings.poll_limit + 65536 * (bit (flagged s) + 256 * bit (not (is_ended s.phase))))

-- then the capacity, 0 where there is none; page size and erase size, four bytes each; density, 0 where it is not known
unfoldable pub settings_words : Session → SettingsRecord
settings_words s = record {
  head = settings_head s;
  capacity = unwrap_or s.settings.capacity 0;
  sizes = s.settings.page_size + 4294967296 * s.settings.erase_size;
  density = cond s.known s.params.density 0;
}

unfoldable pub settings_over : SettingsRecord → List ℕ → List ℕ
settings_over w l = laid 24 (le8 w.density) (laid 16 (le8 w.sizes) (laid 8 (le8 w.capacity) (laid 0 (le8 w.head) l)))
