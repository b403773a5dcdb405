-- A call by its tests: which refusal, and when the parts are scanned.
use Prim.Native.Nat.{ℕ, ◌+◌, ◌-◌, ◌<◌, max}
use mathlib.Core.Path.{◌≡◌}
use mathlib.Core.Bool.{true, false}
use mathlib.Core.List.{List}
use native.Mathlib.Omega.{arith}
use borrow.Author.Tests.{leb-false}
use lib.ListN.{length, drop}
use Rattle.dump_runs.specs.declared.Comparison.{Comparison}
use Rattle.std.specs.Prelude.{Ok, Err}
use Rattle.dump_runs.specs.declared.DumpError.TheVariants.{PastEnd, TooLong}
use Rattle.dump_runs.specs.Steps.{most, goes_on, too_long, scan_of, next_of}

module _ (c : Comparison) (a b : List ℕ) (i : ℕ) where
  pub call_second : goes_on c.first (length b - i) ≡ true → next_of c a b i ≡ Err PastEnd
  unfolding next_of
  call_second h = rw h

  module _ (s : goes_on c.first (length b - i) ≡ false) where
    pub call_first : goes_on c.second (length a - i) ≡ true → next_of c a b i ≡ Err PastEnd
    unfolding next_of
    call_first h = rw (s, h)

    module _ (f : goes_on c.second (length a - i) ≡ false) where
      pub call_long : too_long c (length a - i) (length b - i) ≡ true → next_of c a b i ≡ Err TooLong
      unfolding next_of
      call_long h = rw (s, f, h)

      pub call_scans : too_long c (length a - i) (length b - i) ≡ false
          → next_of c a b i ≡ Ok (scan_of c.first c.second c.start c.len i (drop i a) (drop i b))
      unfolding next_of
      call_scans h = rw (s, f, h)

-- dumps that are not too long
pub short_first : (c : Comparison) (p q : ℕ) → too_long c p q ≡ false → c.start + c.len + c.first + p < most
short_first c p q h =
    let e : c.start + c.len + max (c.first + p) (c.second + q) < most = leb-false most (c.start + c.len + max (c.first + p) (c.second + q)) h in
    omega arith

pub short_second : (c : Comparison) (p q : ℕ) → too_long c p q ≡ false → c.start + c.len + c.second + q < most
short_second c p q h =
    let e : c.start + c.len + max (c.first + p) (c.second + q) < most = leb-false most (c.start + c.len + max (c.first + p) (c.second + q)) h in
    omega arith
