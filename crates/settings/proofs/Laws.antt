-- Laws of the settings and of ranges.
use Rattle.std.proofs.Common.{◌≡◌, ℕ, ◌+◌, ◌-◌, ◌%◌, ◌^◌, ◌≤◌, Bool, true, false, cond, ◌&&◌, eqb, leb, ◌↔◌, List, sym, refl, ap, ◌∙◌, subst, le_trans, arith, le-leb, leb-false, leb-true, Option, Some, None, Result, Ok, Err}
use native.Mathlib.Nat.{min-eq_left, min-eq_right, min-le_right, pow-le-pow_right}
use borrow.Author.Tests.{lt-leb, eqb-false}
use Rattle.sfdp.specs.Jesd216.{params, accepted, read_table}
use Rattle.sfdp.specs.declared.FlashParams.{FlashParams}
use Rattle.sfdp.proofs.Laws.{left_of, right_of}
use Rattle.settings.specs.declared.Settings.{Settings}
use Rattle.settings.specs.declared.SettingError.TheVariants.{BadSetting}
use Rattle.settings.specs.declared.BadRange.{BadRange}
use Rattle.settings.specs.Limits.{Sound, within, limited, defaults, with_address_bytes, with_page_size, with_erase, with_poll_limit, set_address_bytes, set_page_size, set_erase_size, set_poll_limit, set_capacity, clear_capacity, set_erase_opcode, page_of}
use Rattle.settings.specs.Updated.{updated}
use Rattle.settings.specs.Ranges.{reach, within_capacity, capacity_allows, accepted_range, last_address, check_address_length}
use Rattle.settings.proofs.Table.{three_or_four, chosen_size, smallest_size, page_size, table_given}

-- ---- limits
pub within_both : (low high n : ℕ) → within low high n ≡ true → (low ≤ n) × (n ≤ high)
unfolding within
within_both low high n h = (leb-true low n (left_of (leb low n) (leb n high) h), leb-true n high (right_of (leb low n) (leb n high) h))

-- what a test of it that holds leaves of the upper one
pub within_high : (low high n : ℕ) (r : Bool) → r ≡ within low high n → r ≡ true → n ≤ high
within_high low high n r e h = (within_both low high n (sym e ∙ h)).1

-- a setter's answer by its test
pub set_when : (low high n : ℕ) (changed : Settings) {r : Bool} → r ≡ within low high n → r ≡ true → Ok changed ≡ limited low high n changed
set_when low high n changed e h = rw (← e, h)

pub set_unless : (low high n : ℕ) (changed : Settings) {r : Bool} → r ≡ within low high n → r ≡ false → Err BadSetting ≡ limited low high n changed
set_unless low high n changed e h = rw (← e, h)

-- a setter that gives settings was given a number within its limits
pub set_within : (low high n : ℕ) (changed t : Settings) → limited low high n changed ≡ Ok t → (within low high n ≡ true) × (changed ≡ t)
set_within low high n changed t h = by (within low high n) h
  where
    by : (b : Bool) → cond b (Ok changed) (Err BadSetting) ≡ Ok t → (b ≡ true) × (changed ≡ t)
    by true e = (refl, (cc))
    by false e = let z : ◌≡◌ {A = ℕ} 0 1 = cc in absurd (omega arith)

-- ---- settings within their limits stay so
module _ (s : Settings) (sound : Sound s) where
  pub set_address_bytes_sound : (n : ℕ) (t : Settings) → set_address_bytes s n ≡ Ok t → Sound t
  set_address_bytes_sound n t h =
      let k = set_within 1 4 n (with_address_bytes n s) t h in
      subst Sound k.1
      (record { address = within_both 1 4 n k.0; page = sound.page; erase = sound.erase; polls = sound.polls })

  pub set_page_size_sound : (n : ℕ) (t : Settings) → set_page_size s n ≡ Ok t → Sound t
  set_page_size_sound n t h =
      let k = set_within 1 32768 n (with_page_size n s) t h in
      subst Sound k.1
      (record { address = sound.address; page = (within_both 1 32768 n k.0).1; erase = sound.erase; polls = sound.polls })

  pub set_erase_size_sound : (n : ℕ) (t : Settings) → set_erase_size s n ≡ Ok t → Sound t
  set_erase_size_sound n t h =
      let k = set_within 1 2147483648 n (with_erase n s.erase_opcode s) t h in
      subst Sound k.1
      (record { address = sound.address; page = sound.page; erase = (within_both 1 2147483648 n k.0).1; polls = sound.polls })

  pub set_poll_limit_sound : (n : ℕ) (t : Settings) → set_poll_limit s n ≡ Ok t → Sound t
  set_poll_limit_sound n t h =
      let k = set_within 1 65535 n (with_poll_limit n s) t h in
      subst Sound k.1
      (record { address = sound.address; page = sound.page; erase = sound.erase; polls = within_both 1 65535 n k.0 })

  pub set_capacity_sound : (n : ℕ) → Sound (set_capacity s n)
  set_capacity_sound n =
      record { address = sound.address; page = sound.page; erase = sound.erase; polls = sound.polls }

  pub clear_capacity_sound : Sound (clear_capacity s)
  clear_capacity_sound =
      record { address = sound.address; page = sound.page; erase = sound.erase; polls = sound.polls }

  pub set_erase_opcode_sound : (n : ℕ) → Sound (set_erase_opcode s n)
  set_erase_opcode_sound n =
      record { address = sound.address; page = sound.page; erase = sound.erase; polls = sound.polls }

  module _ (minor n : ℕ) (t : List ℕ) where
    of_table_lem : accepted n t ≡ true → Sound (updated s (params minor n t))
    unfolding updated
    of_table_lem h =
        record {
          address = three_or_four (params minor n t).address_bytes;
          page = either_page (params minor n t).jesd216a;
          erase = chosen_size (params minor n t) s.erase_size sound.erase (smallest_size minor n t h);
          polls = sound.polls;
        }
      where
        either_page : (b : Bool) → cond b (params minor n t).page_size s.page_size ≤ 32768
        either_page true = page_size minor n t
        either_page false = sound.page

    -- of the parameters of an accepted table
    pub update_sound : (p : FlashParams) → read_table minor n t ≡ Ok p → Sound (updated s p)
    update_sound p h =
        let k = table_given minor n t p h in
        subst (λ (q : FlashParams). Sound (updated s q)) k.1 (of_table_lem k.0)

pub new_sound : Sound defaults
new_sound =
    record { address = (omega arith, omega arith); page = omega arith; erase = omega arith; polls = (omega arith, omega arith) }

-- the page size that is programmed by is within the limits, set or not
pub page_within : (s : Settings) → Sound s → (1 ≤ page_of s) × (page_of s ≤ 32768)
unfolding page_of
page_within s sound = by (eqb s.page_size 0) refl
  where
    one_le : (n : ℕ) → (n ≡ 0 → ⊥) → 1 ≤ n
    one_le n h = omega arith

    by : (b : Bool) → eqb s.page_size 0 ≡ b → (1 ≤ cond b 256 s.page_size) × (cond b 256 s.page_size ≤ 32768)
    by true e = (omega arith, omega arith)
    by false e = (one_le s.page_size (eqb-false s.page_size 0 e), sound.page)

-- ---- ranges
-- the test of a sum against a limit, without the sum
pub sum_free : (a n limit : ℕ) → a ≤ limit → leb n (limit - a) ≡ leb (a + n) limit
sum_free a n limit h = by (leb n (limit - a)) refl
  where
    by : (b : Bool) → leb n (limit - a) ≡ b → leb n (limit - a) ≡ leb (a + n) limit
    by true e = let f = leb-true n (limit - a) e in e ∙ sym (le-leb (a + n) limit (omega arith))
    by false e = let f = leb-false n (limit - a) e in e ∙ sym (lt-leb (a + n) limit (omega arith))

-- four address bytes, and more
pub reach_four : (bytes : ℕ) → 4 ≤ bytes → 4294967296 ≡ reach bytes
reach_four bytes h = sym (ap (λ (k : ℕ). 256 ^ k) (min-eq_right h))

-- within the limits it is 256 to the power of the address bytes, as docs/SCOPE.md says
pub reach_sound : (s : Settings) → Sound s → reach s.address_bytes ≡ 256 ^ s.address_bytes
reach_sound s sound = ap (λ (k : ℕ). 256 ^ k) (min-eq_left sound.address.1)

-- no range past 2^32 in any record
pub reach_most : (bytes : ℕ) → reach bytes ≤ 2 ^ 32
reach_most bytes = pow-le-pow_right {n = 256} (omega arith) (min-le_right bytes 4)

-- what an accepted range is
module _ (s : Settings) (a n : ℕ) (h : accepted_range s a n ≡ true) where
  abbrev later : Bool
  later = leb (a + n) (reach s.address_bytes) && capacity_allows s (a + n)

  after_length : later ≡ true
  unfolding accepted_range
  after_length = right_of (leb 1 n) later h

  pub accepted_nonempty : 1 ≤ n
  unfolding accepted_range
  accepted_nonempty = leb-true 1 n (left_of (leb 1 n) later h)

  pub accepted_reach : a + n ≤ reach s.address_bytes
  accepted_reach =
      leb-true (a + n) (reach s.address_bytes) (left_of (leb (a + n) (reach s.address_bytes)) (capacity_allows s (a + n)) after_length)

  pub accepted_32 : a + n ≤ 2 ^ 32
  accepted_32 = le_trans accepted_reach (reach_most s.address_bytes)

  pub accepted_capacity : (most : ℕ) → s.capacity ≡ Some most → a + n ≤ most
  accepted_capacity most c =
      leb-true (a + n) most
      (rw c at (right_of (leb (a + n) (reach s.address_bytes)) (capacity_allows s (a + n)) after_length))

-- and such a range is accepted
pub accepted_of : (s : Settings) (a n : ℕ) → 1 ≤ n → a + n ≤ reach s.address_bytes → ((most : ℕ) → s.capacity ≡ Some most → a + n ≤ most) → accepted_range s a n ≡ true
unfolding accepted_range
accepted_of s a n h r c = rw (le-leb 1 n h, le-leb (a + n) (reach s.address_bytes) r) (by s.capacity c)
  where
    by : (o : Option ℕ) → ((most : ℕ) → o ≡ Some most → a + n ≤ most) → within_capacity o (a + n) ≡ true
    by (Some most) k = le-leb (a + n) most (k most refl)
    by None k = refl

-- for settings within their limits this is docs/SCOPE.md's sentence
pub accepted_exactly : (s : Settings) (a n : ℕ) → Sound s → (accepted_range s a n ≡ true) ↔ ((1 ≤ n) × (a + n ≤ 256 ^ s.address_bytes) × ((most : ℕ) → s.capacity ≡ Some most → a + n ≤ most))
accepted_exactly s a n sound =
    (λ h. (accepted_nonempty s a n h, subst (λ (k : ℕ). a + n ≤ k) (reach_sound s sound) (accepted_reach s a n h), accepted_capacity s a n h), λ k. accepted_of s a n k.0 (subst (λ (m : ℕ). a + n ≤ m) (sym (reach_sound s sound)) k.1) k.2)

-- a range that ends no later than an accepted one, and so every range inside it, is accepted
pub accepted_inside : (s : Settings) (a n b m : ℕ) → accepted_range s a n ≡ true → 1 ≤ m → b + m ≤ a + n → accepted_range s b m ≡ true
accepted_inside s a n b m h one end =
    accepted_of s b m one (le_trans end (accepted_reach s a n h)) (λ most c. le_trans end (accepted_capacity s a n h most c))

-- the check gives Ok exactly for an accepted range, and reports the last address of any other
pub check_fits : (s : Settings) (a n : ℕ) → (check_address_length s a n ≡ Ok tt) ↔ (accepted_range s a n ≡ true)
unfolding check_address_length
check_fits s a n = (by (accepted_range s a n), λ h. rw h)
  where
    by : (b : Bool) → cond {A = Result (Unit {0}) BadRange} b (Ok tt) (Err (record { last = last_address a n })) ≡ Ok tt → b ≡ true
    by true e = refl
    by false e = let z : ◌≡◌ {A = ℕ} 0 1 = cc in absurd (omega arith)

pub check_reports : (s : Settings) (a n : ℕ) (report : BadRange) → check_address_length s a n ≡ Err report → (accepted_range s a n ≡ false) × (report.last ≡ last_address a n)
unfolding check_address_length
check_reports s a n report = by (accepted_range s a n)
  where
    by : (b : Bool) → cond {A = Result (Unit {0}) BadRange} b (Ok tt) (Err (record { last = last_address a n })) ≡ Err report → (b ≡ false) × (report.last ≡ last_address a n)
    by true e = let z : ◌≡◌ {A = ℕ} 0 1 = cc in absurd (omega arith)
    by false e = (refl, (cc))

-- the report is address + length - 1 modulo 2^32 (for length 0 at address 0, where there is none, see Examples)
pub last_is : (a n : ℕ) → 1 ≤ a + n → last_address a n ≡ (a + n - 1) % 2 ^ 32
unfolding last_address
last_is a n h = omega arith
