-- A host that hands in two dumps in parts, and what it is promised.
use Rattle.std.specs.Prelude.{ℕ, zero, suc, ◌*◌, ◌≤◌, ◌<◌, ◌≡◌, ◌⊎◌, List, [], ◌∷◌, ◌++◌, length, take, drop, Ok}
use Rattle.std.specs.Option.{option_to_list}
use Rattle.dump_runs.specs.declared.Run.{Run}
use Rattle.dump_runs.specs.declared.Comparison.{Comparison}
use Rattle.dump_runs.specs.declared.Next.TheVariants.{Found, More}
use Rattle.dump_runs.specs.Dumps.{Differ, Within, In, Listed}
use Rattle.dump_runs.specs.Steps.{most, begun, next_of, open_of, tail_of}

-- a part of each dump
pub record Parts : Type 0 where
  pub first : List ℕ
  pub second : List ℕ

-- the dumps that parts make up
abbrev pub firsts : List Parts → List ℕ
firsts [] = []
firsts (p ∷ ps) = p.first ++ firsts ps

abbrev pub seconds : List Parts → List ℕ
seconds [] = []
seconds (p ∷ ps) = p.second ++ seconds ps

-- the host asks, from an index of two parts on, until they are done: the runs that it is handed, and the comparison at the end
pub data Asks (p : Parts) : ℕ → Comparison → List Run → Comparison → Type 0 where
  found : {i j : ℕ} {c d e : Comparison} {r : Run} {l : List Run} → next_of c p.first p.second i ≡ Ok (Found r j d) → Asks p j d l e → Asks p i c (r ∷ l) e
  done : {i : ℕ} {c d : Comparison} → next_of c p.first p.second i ≡ Ok (More d) → Asks p i c [] d

-- the host hands in all the parts, and then takes the open run and the tail: all the runs, in the order in which they came
pub data Compares : Comparison → List Parts → List Run → Type 0 where
  closed : {c : Comparison} → Compares c [] (option_to_list (open_of c) ++ option_to_list (tail_of c))
  part : {c d : Comparison} {p : Parts} {ps : List Parts} {l m : List Run} → Asks p 0 c l d → Compares d ps m → Compares c (p ∷ ps) (l ++ m)

-- parts that may be handed in: two of the same length, until a dump ends, which has nothing after that
abbrev pub Level : List Parts → Type 0
Level [] = Unit {0}
Level (p ∷ ps) =
    ((length p.first ≡ length p.second) × Level ps)
    ⊎ (((length p.first < length p.second) × (firsts ps ≡ []))
    ⊎ ((length p.second < length p.first) × (seconds ps ≡ [])))

-- both dumps read in turn, n bytes at a time, k times
abbrev pub reads : ℕ → ℕ → List ℕ → List ℕ → List Parts
reads n zero a b = []
reads n (suc k) a b = record { first = take n a; second = take n b } ∷ reads n k (drop n a) (drop n b)

-- THE HOST IS PROMISED
pub record RunsPromised : Type 0 where
  -- whatever the parts are: what it is handed is the list of the two dumps
  pub right : (ps : List Parts) (l : List Run) → Compares begun ps l → Listed (firsts ps) (seconds ps) l
  -- parts that may be handed in are not refused, if both dumps are short enough
  pub taken : (ps : List Parts) → Level ps → length (firsts ps) < most → length (seconds ps) < most → (l : List Run) × Compares begun ps l
  -- so both dumps may be read in turn, n bytes at a time, often enough for both
  pub read : (n k : ℕ) (a b : List ℕ) → length a ≤ k * n → length b ≤ k * n → length a < most → length b < most
      → (l : List Run) × Compares begun (reads n k a b) l × Listed a b l
  -- there is no other list of the two dumps, and each byte that differs is in one of its runs
  pub only : (a b : List ℕ) (l m : List Run) → Listed a b l → Listed a b m → l ≡ m
  pub covers : (a b : List ℕ) (l : List Run) → Listed a b l → (i : ℕ) → Differ a b i → (r : Run) × In r l × Within r i
