-- What writing answers, and what it leaves in the lent buffer.
use Rattle.std.specs.Prelude.{ℕ, List, [], ◌∷◌, ◌++◌, cond, ◌&&◌, leb, length, drop, Result, Ok, Err}
use Rattle.sfdp.specs.declared.FlashParams.{FlashParams}
use Rattle.sfdp_write.specs.Table.{table_of}
use Rattle.sfdp_write.specs.Form.{formed}
use Rattle.sfdp_write.specs.declared.WriteError.{WriteError}
use Rattle.sfdp_write.specs.declared.WriteError.TheVariants.{NoForm, NoRoom}

-- the signature, revision 1.6, one parameter header; FF00, revision 1.6, 16 dwords from byte 16 on
abbrev pub header : List ℕ
header =
    0x53 ∷ 0x46 ∷ 0x44 ∷ 0x50 ∷ 0x06 ∷ 0x01 ∷ 0x00 ∷ 0xFF ∷ 0x00 ∷ 0x06 ∷ 0x01 ∷ 0x10 ∷ 0x10 ∷ 0x00 ∷ 0x00 ∷ 0xFF ∷ []

-- the 80 bytes
abbrev pub area_of : FlashParams → List ℕ
area_of p = header ++ table_of p

-- 15 for parameters without a form, then 11 for less than 80 bytes
unfoldable pub answer_to : FlashParams → List ℕ → Result Unit WriteError
answer_to p room = cond (formed p) (cond (leb 80 (length room)) (Ok tt) (Err (NoRoom 80))) (Err NoForm)

-- the buffer: the 80 bytes and what was behind them, or as it was
unfoldable pub written : FlashParams → List ℕ → List ℕ
written p room = cond (formed p && leb 80 (length room)) (area_of p ++ drop 80 room) room

-- the answer numbers; 11 carries the need
abbrev pub answer_number : Result Unit WriteError → ℕ
answer_number (Ok done) = 0
answer_number (Err NoForm) = 15
answer_number (Err (NoRoom need)) = 11
