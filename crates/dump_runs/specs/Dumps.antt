-- What field service asks of two dumps: every differing run, as start and length.
use Rattle.std.specs.Prelude.{ℕ, suc, ◌+◌, ◌≤◌, ◌<◌, min, max, ◌≡◌, ◌⊎◌, List, [], ◌∷◌, length, get_or}
use Rattle.dump_runs.specs.declared.Run.{Run}

-- the dumps differ at a byte of their common part: both have it, and not with the same value
pub record Differ (a b : List ℕ) (i : ℕ) : Type 0 where
  pub first : i < length a
  pub second : i < length b
  pub unequal : get_or a i 0 ≡ get_or b i 0 → ⊥

-- where a run ends: one past its last byte
abbrev pub end_of : Run → ℕ
end_of r = r.start + r.len

-- a byte is in a run
pub record Within (r : Run) (i : ℕ) : Type 0 where
  pub low : r.start ≤ i
  pub high : i < end_of r

-- a run of the common part: it has a byte, all its bytes differ, and it is maximal: the byte before it does not differ, nor the one after it
pub record Common (a b : List ℕ) (r : Run) : Type 0 where
  pub some : 0 < r.len
  pub all : (i : ℕ) → Within r i → Differ a b i
  pub before : (i : ℕ) → suc i ≡ r.start → Differ a b i → ⊥
  pub after : Differ a b (end_of r) → ⊥

-- the tail: the bytes that the longer dump has past the common part
pub record Tail (a b : List ℕ) (r : Run) : Type 0 where
  pub some : 0 < r.len
  pub from : r.start ≡ min (length a) (length b)
  pub to : end_of r ≡ max (length a) (length b)

-- a run is in a list
abbrev pub In : Run → List Run → Type 0
In r [] = ⊥
In r (s ∷ l) = (r ≡ s) ⊎ In r l

-- ascending: each run ends before every later one starts, or where it starts
abbrev pub Ascending : List Run → Type 0
Ascending [] = Unit {0}
Ascending (r ∷ l) = ((s : Run) → In s l → end_of r ≤ s.start) × Ascending l

-- THE LIST: exactly the runs of the common part and the tail, ascending
pub record Listed (a b : List ℕ) (l : List Run) : Type 0 where
  pub each : (r : Run) → In r l → Common a b r ⊎ Tail a b r
  pub every : (r : Run) → Common a b r ⊎ Tail a b r → In r l
  pub ascending : Ascending l
