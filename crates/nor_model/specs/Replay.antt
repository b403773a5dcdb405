-- What the accepted commands make of the contents: data laid over, ranges set to FF, raw writes clearing bits.
use Rattle.std.specs.Prelude.{Bool, cond, ◌&&◌, List, [], ◌∷◌, ℕ, ◌+◌, ◌-◌, leb, ltb, length, get_or}
use Rattle.std.specs.Int.Bits.{bit_and}
use Rattle.commands.specs.Calls.{Call, Read, LegacyRead, ReadParams, Erase, EraseSectors, Program, ProgramData, Reset, ReadJedecId, IsBusy, IsProtected}

-- i is one of the n addresses from a on
abbrev pub among : ℕ → ℕ → ℕ → Bool
among a n i = leb a i && ltb i (a + n)

-- data laid over
unfoldable pub laid_over : ℕ → List ℕ → (ℕ → ℕ) → ℕ → ℕ
laid_over a d m i = cond (among a (length d) i) (get_or d (i - a) 0xFF) (m i)

-- a range set to FF
unfoldable pub set_to_ff : ℕ → ℕ → (ℕ → ℕ) → ℕ → ℕ
set_to_ff a n m i = cond (among a n i) 0xFF (m i)

-- a raw write clears bits
unfoldable pub cleared : ℕ → List ℕ → (ℕ → ℕ) → ℕ → ℕ
cleared a d m i = cond (among a (length d) i) (bit_and (m i) (get_or d (i - a) 0xFF)) (m i)

-- what a command does to the contents
abbrev pub effect : Call → (ℕ → ℕ) → ℕ → ℕ
effect (Read a n) m = m
effect (LegacyRead a n) m = m
effect ReadParams m = m
effect Erase m = λ i. 0xFF
effect (EraseSectors a n) m = set_to_ff a n m
effect (Program a d v) m = laid_over a d m
effect (ProgramData a d) m = cleared a d m
effect Reset m = m
effect ReadJedecId m = m
effect IsBusy m = m
effect IsProtected m = m

-- commands one after another, the earliest first
unfoldable pub replay : List Call → (ℕ → ℕ) → ℕ → ℕ
replay [] m = m
replay (c ∷ cs) m = replay cs (effect c m)
