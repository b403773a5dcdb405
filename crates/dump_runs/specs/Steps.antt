-- The comparison as a pure function: what one call does. Host.antt ties it to the list of Dumps.antt.
use Rattle.std.specs.Prelude.{ℕ, suc, ◌+◌, ◌-◌, min, max, Bool, true, false, cond, ◌&&◌, List, [], ◌∷◌, eqb, leb, ltb, length, drop, Option, None, Some, Result, Ok, Err}
use Rattle.dump_runs.specs.declared.Run.{Run}
use Rattle.dump_runs.specs.declared.Comparison.{Comparison}
use Rattle.dump_runs.specs.declared.Next.{Next}
use Rattle.dump_runs.specs.declared.Next.TheVariants.{Found, More}
use Rattle.dump_runs.specs.declared.DumpError.{DumpError}
use Rattle.dump_runs.specs.declared.DumpError.TheVariants.{PastEnd, TooLong}

-- 2^64 - 1: both dumps must be shorter
abbrev pub most : ℕ
most = 18446744073709551615

abbrev pub begun : Comparison
begun = record { start = 0; len = 0; first = 0; second = 0 }

-- a dump that the other passed before has bytes again
abbrev pub goes_on : ℕ → ℕ → Bool
goes_on passed rest = ltb 0 passed && ltb 0 rest

-- the longer dump, with p and q bytes more, is too long
abbrev pub too_long : Comparison → ℕ → ℕ → Bool
too_long c p q = leb most (c.start + c.len + max (c.first + p) (c.second + q))

-- along two lists: an open run grows by each byte that differs, and an equal byte ends it. Where one list ends, the rest of the other is past the common part
unfoldable pub scan_of : ℕ → ℕ → ℕ → ℕ → ℕ → List ℕ → List ℕ → Next
scan_of first second start len i [] q = More (record { start = start; len = len; first = first; second = second + length q })
scan_of first second start len i (x ∷ p) [] = More (record { start = start; len = len; first = first + suc (length p); second = second })
scan_of first second start len i (x ∷ p) (y ∷ q) =
    elim (eqb x y) [
      | true ↦ elim (ltb 0 len) [
        | true ↦ Found (record { start = start; len = len }) (suc i) (record { start = start + len + 1; len = 0; first = first; second = second })
        | false ↦ scan_of first second (suc start) len (suc i) p q
      ]
      | false ↦ scan_of first second start (suc len) (suc i) p q
    ]

-- a call
unfoldable pub next_of : Comparison → List ℕ → List ℕ → ℕ → Result Next DumpError
next_of c a b from =
    cond (goes_on c.first (length b - from)) (Err PastEnd)
    (cond (goes_on c.second (length a - from)) (Err PastEnd)
    (cond (too_long c (length a - from) (length b - from)) (Err TooLong)
    (Ok (scan_of c.first c.second c.start c.len from (drop from a) (drop from b)))))

-- the run of some bytes; nothing if there are none
abbrev pub stretch_of : ℕ → ℕ → Option Run
stretch_of start len = cond (eqb len 0) None (Some (record { start = start; len = len }))

-- what is left when both dumps have ended
abbrev pub open_of : Comparison → Option Run
open_of c = stretch_of c.start c.len

abbrev pub tail_of : Comparison → Option Run
tail_of c = stretch_of (min (c.start + c.len) most) (min (c.first + c.second) most)
