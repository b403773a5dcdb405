-- A transaction's bytes as they go out.
use Rattle.std.specs.Prelude.{cond, List, [], ◌∷◌, ◌++◌, ℕ, zero, suc, ◌/◌, ◌%◌, ◌^◌}
use Rattle.commands.specs.Script.{Sent}

-- the low n bytes of a number, the highest first
unfoldable pub high_first : ℕ → ℕ → List ℕ
high_first zero a = []
high_first (suc n) a = a / 256 ^ n % 256 ∷ high_first n a

-- command byte, address bytes, a dummy 00 where there is one, payload
unfoldable pub wire : Sent → List ℕ
wire s = s.opcode ∷ (high_first s.addressed s.address ++ (cond s.dummy (0 ∷ []) [] ++ s.payload))
