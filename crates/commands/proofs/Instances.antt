-- A read_params that is Done: its replies are bytes, as the law of the room beyond the need asks.
use mathlib.Core.Path.{◌≡◌, refl}
use mathlib.Core.Bool.{Bool, true, false, ◌&&◌}
use mathlib.Core.List.{List, [], ◌∷◌}
use mathlib.Core.Option.{Option, some, none}
use Prim.Native.Nat.{ℕ, ◌<◌}
use lib.Dec.{ltb}
use lib.ListN.{replicate}
use borrow.Author.Tests.{ltb-true}
use Rattle.dwords.specs.Dwords.{byte_at, le32}
use Rattle.sfdp.specs.declared.FlashParams.{FlashParams}
use Rattle.sfdp.specs.Jesd216.{signed, parameter_header, basic, read_header, size_fits, sizes_fit, density_fits, accepted, read_table}
use Rattle.settings.specs.Limits.{defaults}
use Rattle.erase_plan.specs.Good.{Each}
use Rattle.erase_plan.proofs.Lists.{no_true}
use Rattle.commands.specs.declared.Answer.{Answer}
use Rattle.commands.specs.declared.Answer.TheVariants.{Done}
use Rattle.commands.specs.Script.{Kept, after}
use Rattle.commands.specs.Host.{Reply, got, Outcome, full, tally, tree, play}
use Rattle.commands.specs.Transactions.{read_sfdp}
use Rattle.commands.specs.Commands.{read_params}
use Rattle.commands.specs.Calls.{ReadParams}
use Rattle.commands.specs.Leaves.{OfBytes, Beyond}
use Rattle.commands.proofs.Left.{leaves}

-- one header, a table of 9 dwords at 10: 4 KiB by 20, 2 MiB, types of 4,096, 32,768 and 65,536 bytes
abbrev pub first : List ℕ
first = 0x53 ∷ 0x46 ∷ 0x44 ∷ 0x50 ∷ 0x00 ∷ 0x01 ∷ 0x00 ∷ 0xFF ∷ []

abbrev pub second : List ℕ
second = 0x53 ∷ 0x46 ∷ 0x44 ∷ 0x50 ∷ 0x00 ∷ 0x01 ∷ 0x00 ∷ 0xFF ∷ 0x00 ∷ 0x00 ∷ 0x01 ∷ 0x09 ∷ 0x10 ∷ 0x00 ∷ 0x00 ∷ 0xFF ∷ []

abbrev pub table : List ℕ
table =
    0xE5 ∷ 0x20 ∷ 0xF1 ∷ 0xFF ∷ 0xFF ∷ 0xFF ∷ 0xFF ∷ 0x00
    ∷ 0 ∷ 0 ∷ 0 ∷ 0 ∷ 0 ∷ 0 ∷ 0 ∷ 0 ∷ 0 ∷ 0 ∷ 0 ∷ 0 ∷ 0 ∷ 0 ∷ 0 ∷ 0 ∷ 0 ∷ 0 ∷ 0 ∷ 0
    ∷ 0x0C ∷ 0x20 ∷ 0x0F ∷ 0x52 ∷ 0x10 ∷ 0xD8 ∷ 0x00 ∷ 0xFF ∷ []

abbrev pub replies : List Reply
replies = got first ∷ got second ∷ got table ∷ []

abbrev pub started : FlashParams → Kept
started p = record { settings = defaults; known = false; params = p; room = replicate 2056 0 }

abbrev pub answer_of : Option Outcome → Option Answer
answer_of none = none
answer_of (some o) = some o.answer

-- three 5A reads, then Done
pub run_list : (p : FlashParams) → (play (tree 0 (read_params (started p))) replies).0 ≡ read_sfdp 0 8 ∷ read_sfdp 0 16 ∷ read_sfdp 0x10 36 ∷ []
unfolding tree play full tally after read_params byte_at le32 signed parameter_header basic read_header size_fits sizes_fit density_fits accepted read_table
run_list p = refl

pub run_done : (p : FlashParams) → answer_of (play (tree 0 (read_params (started p))) replies).1 ≡ some Done
unfolding tree play full tally after read_params byte_at le32 signed parameter_header basic read_header size_fits sizes_fit density_fits accepted read_table
run_done p = refl

-- all numbers of a list are bytes, as a test
below : List ℕ → Bool
below [] = true
below (x ∷ l) = ltb x 256 && below l

below_each : (l : List ℕ) → below l ≡ true → Each (λ (x : ℕ). x < 256) l
unfolding below
below_each [] h = tt
below_each (x ∷ l) h = go (ltb x 256) refl h (below_each l)
  where
    go : (b : Bool) → ltb x 256 ≡ b → (b && below l) ≡ true → (below l ≡ true → Each (λ (x : ℕ). x < 256) l) → Each (λ (x : ℕ). x < 256) (x ∷ l)
    go true e h k = (ltb-true x 256 e, k h)
    go false e h k = no_true h

pub all_bytes : Each OfBytes replies
unfolding below
all_bytes = (below_each first refl, (below_each second refl, (below_each table refl, tt)))

-- with these replies the room beyond 2,056 bytes is kept
pub beyond_kept : (w : Kept) (o : Outcome) → (play (tree 0 (read_params w)) replies).1 ≡ some o → Beyond 2056 w.room o.kept.room
beyond_kept w o e = (leaves ReadParams w replies o e).beyond all_bytes
