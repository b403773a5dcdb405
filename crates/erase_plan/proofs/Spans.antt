-- The check of a span before sectors are erased.
use Rattle.std.proofs.Common.{◌≡◌, ℕ, ◌+◌, ◌-◌, ◌%◌, ◌^◌, ◌<◌, ◌≤◌, Result, Ok, Err, List, refl, ◌∙◌, ⊎_elim, arith, le-ltb, lt-ltb}
use Rattle.erase_plan.specs.declared.EraseType.{EraseType}
use Rattle.erase_plan.specs.Plan.{plan}
use Rattle.erase_plan.specs.Span.{span_start, span_end, survey_of, span_check, sectors_check}
use Rattle.erase_plan.specs.Good.{Kinds, Good}
use Rattle.erase_plan.proofs.Lists.{lt_or_le}
use Rattle.erase_plan.proofs.Planned.{plan_good}

-- the end of a range modulo 2^32, from the length modulo 2^32
wraps : (a n : ℕ) → (a + n % 4294967296) % 4294967296 ≡ (a + n) % 4294967296
wraps a n = omega arith

-- a span that starts in the range and ends past it
pub ends_past : (address len from to r : ℕ) → address ≤ from → address < to → len < to - address → r ≡ (address + len % 4294967296) % 2 ^ 32
    → Err r ≡ span_check address len from to
unfolding span_check
ends_past address len from to r h k m e =
    let q : r ≡ (address + len) % 4294967296 = e ∙ wraps address len in
    rw (le-ltb from address h, lt-ltb (address + len) to (omega arith), q)

-- a span that starts below the address
pub starts_below : (address len from to : ℕ) → from < address → Err address ≡ span_check address len from to
unfolding span_check
starts_below address len from to h = rw (lt-ltb from address h)

-- a span that lies in the range
pub lies_inside : (address len from to : ℕ) → address ≤ from → to ≤ address + len → Ok tt ≡ span_check address len from to
unfolding span_check
lies_inside address len from to h k = rw (le-ltb from address h, le-ltb (address + len) to k)

clash : {A : Type 0} (n : ℕ) → ◌≡◌ {A = Result (Unit {0}) ℕ} (Err n) (Ok tt) → A
clash n e = cc

-- a span is accepted only where it lies in the range
pub fits_inside : (address len from to : ℕ) → span_check address len from to ≡ Ok tt → (address ≤ from) × (to ≤ address + len)
fits_inside address len from to h =
    ⊎_elim (λ (k : from < address). clash address (starts_below address len from to k ∙ h))
    (λ (k : address ≤ from). ⊎_elim
    (λ (m : address + len < to). clash ((address + len % 4294967296) % 2 ^ 32)
    (ends_past address len from to ((address + len % 4294967296) % 2 ^ 32) k (omega arith) (omega arith) refl ∙ h))
    (λ (m : to ≤ address + len). (k, m))
    (lt_or_le (address + len) to))
    (lt_or_le from address)

-- the check of `erase_sectors` is that of the plan's survey
pub sectors_survey : (ts : List EraseType) (address len last : ℕ) → last + 1 ≡ address + len
    → let s = survey_of (plan ts address (last + 1)) in span_check address len s.first s.end ≡ sectors_check ts address len
unfolding survey_of sectors_check
sectors_survey ts address len last e = rw e

-- where `erase_sectors` is not refused the span is the range
pub sectors_exact : (L : ℕ) (ts : List EraseType) → Kinds L ts → (address len : ℕ) → 0 < len → sectors_check ts address len ≡ Ok tt
    → (span_start (plan ts address (address + len)) ≡ address) × (span_end (plan ts address (address + len)) ≡ address + len)
unfolding sectors_check
sectors_exact L ts K address len h e =
    let es = plan ts address (address + len) in
    let g : Good L address (address + len) es = plan_good L ts K address (address + len) (omega arith) in
    let f : (address ≤ span_start es) × (span_end es ≤ address + len) = fits_inside address len (span_start es) (span_end es) e in
    (omega (arith, g.starts, f.0), omega (arith, g.reaches, f.1))
