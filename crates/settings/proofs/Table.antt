-- The sizes in an accepted parameter table are within the limits of the settings, so read_params keeps them.
use Rattle.std.proofs.Common.{◌≡◌, ℕ, ◌%◌, ◌^◌, ◌<◌, ◌≤◌, Bool, true, false, cond, not, ◌&&◌, ◌||◌, eqb, List, refl, mod-lt, arith, pow_pos, Option, Some, None, Ok, Err}
use Rattle.std.specs.Option.{option_or}
use native.Mathlib.Nat.{pow-le-pow_right}
use borrow.Author.Tests.{eqb-false}
use Rattle.std.proofs.lemmas.Bool.{cond_both, or_parts}
use Rattle.sfdp.specs.Jesd216.{erase_type, erase_types, no_type, extended, fields, params, accepted, read_table, size_fits}
use Rattle.sfdp.specs.Chosen.{lesser, smallest, sector_erase, below, missing}
use Rattle.sfdp.specs.declared.FlashParams.{FlashParams}
use Rattle.sfdp.specs.declared.SFDPError.TheVariants.{InvalidSFDPParams}
use Rattle.sfdp.specs.declared.SFDPAddressBytes.{SFDPAddressBytes}
use Rattle.sfdp.specs.declared.SFDPAddressBytes.TheVariants as Address
use Rattle.sfdp.specs.declared.SFDPEraseInst.{SFDPEraseInst}
use Rattle.sfdp.specs.declared.SFDPEraseInsts.{SFDPEraseInsts}
use Rattle.sfdp.specs.declared.SectorErase.{SectorErase}
use Rattle.sfdp.proofs.Laws.{exponent_fits, first_fits, second_fits, sizes_8, sizes_9}
use Rattle.settings.specs.Updated.{address_bytes_of, legacy_erase, chosen_erase, size_or}

-- ---- the largest erase size
abbrev most : ℕ
most = 2147483648

-- either way of a choice is within a bound
either_size : (b : Bool) (x y : SFDPEraseInst) → (b ≡ true → x.size ≤ most) → (b ≡ false → y.size ≤ most) → (cond b x y).size ≤ most
either_size b x y hx hy = cond_both b x y (λ (i : SFDPEraseInst). i.size ≤ most) hx hy

pub type_size : (e o : ℕ) (known : Bool) (m time : ℕ) → size_fits e o ≡ true → (erase_type e o known m time).size ≤ most
unfolding erase_type
type_size e o known m time h =
    either_size (eqb e 0 || eqb o 0) no_type _ (λ b. omega arith)
    (λ b. shift (exponent_fits e o h (eqb-false o 0 (or_parts (eqb e 0) (eqb o 0) b).1)))
  where
    shift : e < 32 → 2 ^ e ≤ most
    shift k = pow-le-pow_right {n = 2} (omega arith) {j = 31} (omega arith)

lesser_size : (a b : SFDPEraseInst) → a.size ≤ most → b.size ≤ most → (lesser a b).size ≤ most
unfolding lesser
lesser_size a b ha hb =
    either_size (missing b) a _ (λ q. ha) (λ q. either_size (missing a || below b a) b a (λ r. hb) (λ r. ha))

pub smallest_size : (minor n : ℕ) (t : List ℕ) → accepted n t ≡ true → (smallest (params minor n t).erase_insts).size ≤ most
unfolding params fields smallest erase_types
smallest_size minor n t h =
    lesser_size _ _
    (lesser_size _ _
    (lesser_size _ _ (type_size _ _ _ _ _ (first_fits _ (sizes_8 n t h))) (type_size _ _ _ _ _ (second_fits _ (sizes_8 n t h))))
    (type_size _ _ _ _ _ (first_fits _ (sizes_9 n t h))))
    (type_size _ _ _ _ _ (second_fits _ (sizes_9 n t h)))

-- ---- the erase size that is taken
sector_size : (s : SFDPEraseInsts) (old : ℕ) → old ≤ most → (smallest s).size ≤ most → size_or old (sector_erase s) ≤ most
unfolding sector_erase
sector_size s old ho hs = by (missing (smallest s))
  where
    by : (b : Bool) → size_or old (cond b None (Some (record { size = (smallest s).size; opcode = (smallest s).opcode }))) ≤ most
    by true = ho
    by false = hs

legacy_size : (p : FlashParams) (old : ℕ) → old ≤ most → size_or old (legacy_erase p) ≤ most
unfolding legacy_erase
legacy_size p old ho = by (p.legacy_4kb_erase_supported && not (eqb p.legacy_4kb_erase_inst 0xFF))
  where
    by : (b : Bool) → size_or old (cond b (Some (record { size = 4096; opcode = p.legacy_4kb_erase_inst })) None) ≤ most
    by true = omega arith
    by false = ho

or_size : (old : ℕ) (a b : Option SectorErase) → size_or old a ≤ most → size_or old b ≤ most → size_or old (option_or a b) ≤ most
or_size old (Some erase) b ha hb = ha
or_size old None b ha hb = hb

pub chosen_size : (p : FlashParams) (old : ℕ) → old ≤ most → (smallest p.erase_insts).size ≤ most → size_or old (chosen_erase p) ≤ most
unfolding chosen_erase
chosen_size p old ho hs =
    or_size old (sector_erase p.erase_insts) (legacy_erase p) (sector_size p.erase_insts old ho hs) (legacy_size p old ho)

-- ---- the page size: 2 to the power of a field of 4 bits
power_of_field : (known : Bool) (d : ℕ) → cond known (2 ^ (d % 2 ^ 4)) 0 ≤ 32768
power_of_field true d = let h = mod-lt d (pow_pos 4) in pow-le-pow_right {n = 2} (omega arith) {j = 15} (omega arith)
power_of_field false d = omega arith

pub page_size : (minor n : ℕ) (t : List ℕ) → (params minor n t).page_size ≤ 32768
unfolding params fields
page_size minor n t = power_of_field (extended minor n) _

-- ---- the address bytes
pub three_or_four : (a : SFDPAddressBytes) → (1 ≤ address_bytes_of a) × (address_bytes_of a ≤ 4)
three_or_four Address.Three = (omega arith, omega arith)
three_or_four Address.ThreeOrFour = (omega arith, omega arith)
three_or_four Address.Four = (omega arith, omega arith)
three_or_four Address.Reserved = (omega arith, omega arith)

-- ---- a table that gives parameters is accepted, and they are its own
pub table_given : (minor n : ℕ) (t : List ℕ) (p : FlashParams) → read_table minor n t ≡ Ok p → (accepted n t ≡ true) × (params minor n t ≡ p)
unfolding read_table
table_given minor n t p = by (accepted n t)
  where
    by : (b : Bool) → cond b (Ok (params minor n t)) (Err InvalidSFDPParams) ≡ Ok p → (b ≡ true) × (params minor n t ≡ p)
    by true e = (refl, (cc))
    by false e = let z : ◌≡◌ {A = ℕ} 0 1 = cc in absurd (omega arith)
