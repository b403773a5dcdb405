-- The erase types of a query: sorted, and such that the laws of a plan hold.
use Rattle.std.proofs.Common.{Ok, false}
use Prim.Native.Nat.{ℕ, ◌≤◌, ◌<◌}
use mathlib.Core.Path.{◌≡◌, refl, sym, subst}
use mathlib.Core.Bool.{Bool, true, ◌&&◌, ◌||◌, not}
use mathlib.Core.Logic.{◌⊎◌, inl, inr, ⊎_elim}
use mathlib.Core.List.{List, [], ◌∷◌, ◌++◌}
use native.Mathlib.Omega.{arith}
use lib.Dec.{eqb}
use lib.ListN.{length}
use borrow.Author.Tests.{eqb-false}
use Rattle.sfdp.specs.declared.FlashParams.{FlashParams}
use Rattle.sfdp.specs.declared.SFDPEraseInst.{SFDPEraseInst}
use Rattle.sfdp.specs.declared.SFDPEraseInsts.{SFDPEraseInsts}
use Rattle.sfdp.specs.Jesd216.{erase_type, erase_types, fields, params, accepted, read_table}
use Rattle.sfdp.specs.Jesd216 as Jesd216
use Rattle.sfdp.proofs.Laws.{left_of, first_fits, second_fits, sizes_8, sizes_9}
use Rattle.settings.specs.declared.Settings.{Settings}
use Rattle.settings.specs.Limits.{Sound}
use Rattle.settings.proofs.Table.{table_given, type_size}
use Rattle.erase_plan.specs.declared.EraseType.{EraseType}
use Rattle.erase_plan.specs.declared.EraseTypes.{EraseTypes}
use Rattle.erase_plan.specs.Types.{no_type, kept, present, sort, four_of}
use Rattle.erase_plan.specs.Words.{Each}
use Rattle.erase_plan.specs.Good.{Sorted, Kinds}
use Rattle.erase_plan.specs.Later.{Power, Even}
use Rattle.erase_plan.proofs.Lists.{by_cond, each_append}
use Rattle.erase_plan.proofs.Ordering.{kept_none, kept_one, sort_each, sort_sorted}
use Rattle.erase_plan.proofs.Slots.{sorted_present}
use Rattle.erase_plan.proofs.Planned.{single_kinds, power_kinds}
use Rattle.plans.specs.Available.{type_of, single, of_params, no_insts, usable_4k, of_settings, available}

-- parameters that a table gave
pub record WasRead (p : FlashParams) : Type 0 where
  pub minor : ℕ
  pub count : ℕ
  pub table : List ℕ
  pub gives : read_table minor count table ≡ Ok p

-- ---- no type, and a single one
pub none_none : present (four_of no_type no_type no_type no_type) ≡ []
unfolding present
none_none = rw (kept_none no_type refl)

abbrev sole : ℕ → ℕ → EraseType
sole size opcode = record { size = size; opcode = opcode; timed = false; time = 0 }

pub single_one : (size opcode : ℕ) → (size ≡ 0 → ⊥) → present (single size opcode) ≡ sole size opcode ∷ []
unfolding present
single_one size opcode z = rw (kept_none no_type refl, kept_one (sole size opcode) z)

-- ---- the types of the parameters
kept_each : (P : EraseType → Type 0) (t : EraseType) → P t → Each P (kept t)
unfolding kept
kept_each P t p = by_cond (Each P) (eqb t.size 0) [] (t ∷ []) (λ _. tt) (λ _. (p, tt))

-- a place of a table, empty or with a size that is a power of two
record PowerInst (i : SFDPEraseInst) : Type 0 where
  power : Each Power (kept (type_of i))

inst_power : (exponent opcode : ℕ) (known : Bool) (multiplier time : ℕ) → PowerInst (erase_type exponent opcode known multiplier time)
unfolding erase_type
inst_power exponent opcode known multiplier time =
    by_cond PowerInst (eqb exponent 0 || eqb opcode 0) Jesd216.no_type _
    (λ _. record { power = subst (Each Power) (sym (kept_none (type_of Jesd216.no_type) refl)) tt })
    (λ _. record { power = kept_each Power _ (record { exponent = exponent; is = refl }) })

record PowerInsts (s : SFDPEraseInsts) : Type 0 where
  inst1 : PowerInst s.inst1
  inst2 : PowerInst s.inst2
  inst3 : PowerInst s.inst3
  inst4 : PowerInst s.inst4

table_powers : (minor n : ℕ) (t : List ℕ) → PowerInsts (params minor n t).erase_insts
unfolding params fields erase_types
table_powers minor n t =
    record { inst1 = inst_power _ _ _ _ _; inst2 = inst_power _ _ _ _ _; inst3 = inst_power _ _ _ _ _; inst4 = inst_power _ _ _ _ _ }

read_powers : (p : FlashParams) → WasRead p → PowerInsts p.erase_insts
read_powers p r =
    subst (λ (p : FlashParams). PowerInsts p.erase_insts) (table_given r.minor r.count r.table p r.gives).1
    (table_powers r.minor r.count r.table)

-- the types of four places
abbrev listed : SFDPEraseInsts → List EraseType
listed s = present (four_of (type_of s.inst1) (type_of s.inst2) (type_of s.inst3) (type_of s.inst4))

listed_each : (P : EraseType → Type 0) (s : SFDPEraseInsts) → Each P (kept (type_of s.inst1)) → Each P (kept (type_of s.inst2))
    → Each P (kept (type_of s.inst3)) → Each P (kept (type_of s.inst4)) → Each P (listed s)
unfolding present
listed_each P s p1 p2 p3 p4 = each_append P a (b ++ (c ++ (d ++ []))) p1 (each_append P b (c ++ (d ++ [])) p2 (each_append P c (d ++ []) p3 (each_append P d [] p4 tt)))
  where
    a : List EraseType
    a = kept (type_of s.inst1)

    b : List EraseType
    b = kept (type_of s.inst2)

    c : List EraseType
    c = kept (type_of s.inst3)

    d : List EraseType
    d = kept (type_of s.inst4)

listed_powers : (s : SFDPEraseInsts) → PowerInsts s → Each Power (listed s)
listed_powers s r = listed_each Power s r.inst1.power r.inst2.power r.inst3.power r.inst4.power

-- no size is above 2^31
abbrev pub Small : EraseType → Type 0
Small t = t.size ≤ 2147483648

table_small : (minor n : ℕ) (t : List ℕ) → accepted n t ≡ true → Each Small (listed (params minor n t).erase_insts)
unfolding params fields erase_types
table_small minor n t h =
    listed_each Small (params minor n t).erase_insts
    (kept_each Small _ (type_size _ _ _ _ _ (first_fits _ (sizes_8 n t h))))
    (kept_each Small _ (type_size _ _ _ _ _ (second_fits _ (sizes_8 n t h))))
    (kept_each Small _ (type_size _ _ _ _ _ (first_fits _ (sizes_9 n t h))))
    (kept_each Small _ (type_size _ _ _ _ _ (second_fits _ (sizes_9 n t h))))

read_small : (p : FlashParams) → WasRead p → Each Small (listed p.erase_insts)
read_small p r =
    let k = table_given r.minor r.count r.table p r.gives in
    subst (λ (p : FlashParams). Each Small (listed p.erase_insts)) k.1 (table_small r.minor r.count r.table k.0)

of_params_lem : (s : SFDPEraseInsts) → present (of_params s) ≡ sort (listed s)
unfolding of_params
of_params_lem s = sorted_present (type_of s.inst1) (type_of s.inst2) (type_of s.inst3) (type_of s.inst4)

-- ---- whichever types there are
-- what holds of the types of the parameters, of no type and of a single one holds of those available
module _ (P : List EraseType → Type 0) (s : Settings) (known : Bool) (p : FlashParams) (of_read : known ≡ true → P (sort (listed p.erase_insts)))
    (none : P []) (one : (t : EraseType) → 0 < t.size → (t.size ≡ 4096) ⊎ (t.size ≡ s.erase_size) → P (t ∷ [])) where
  by_single : (size opcode : ℕ) → (size ≡ 0 → ⊥) → (size ≡ 4096) ⊎ (size ≡ s.erase_size) → P (present (single size opcode))
  by_single size opcode z k = subst P (sym (single_one size opcode z)) (one (sole size opcode) (omega (arith, z)) k)

  by_settings : P (present (of_settings s))
  unfolding of_settings
  by_settings =
      by_cond (λ (ts : EraseTypes). P (present ts)) (eqb s.erase_size 0) _ _ (λ _. subst P (sym none_none) none)
      (λ e. by_single s.erase_size s.erase_opcode (eqb-false s.erase_size 0 e) (inr refl))

  pub available_by : P (present (available s known p))
  unfolding available
  available_by =
      by_cond (λ (ts : EraseTypes). P (present ts)) (known && not (no_insts p.erase_insts)) _ _
      (λ e. subst P (sym (of_params_lem p.erase_insts)) (of_read (left_of known _ e)))
      (λ _. by_cond (λ (ts : EraseTypes). P (present ts)) (known && usable_4k p) _ _
      (λ _. by_single 4096 p.legacy_4kb_erase_inst (λ z. omega arith) (inl refl)) (λ _. by_settings))

-- sorted by size, opcode, time, an absent time first
pub available_sorted : (s : Settings) (known : Bool) (p : FlashParams) → Sorted (present (available s known p))
available_sorted s known p = available_by Sorted s known p (λ _. sort_sorted (listed p.erase_insts)) tt (λ t _ _. (tt, tt))

-- each size divides the largest, which is one of them
pub available_kinds : (s : Settings) (known : Bool) (p : FlashParams) → (known ≡ true → WasRead p) → 0 < length (present (available s known p))
    → (L : ℕ) × Kinds L (present (available s known p))
available_kinds s known p read =
    available_by (λ (ts : List EraseType). 0 < length ts → (L : ℕ) × Kinds L ts) s known p
    (λ k h. power_kinds (sort (listed p.erase_insts)) h
    (sort_each Power (listed p.erase_insts) (listed_powers p.erase_insts (read_powers p (read k)))))
    (λ h. absurd (omega arith))
    (λ t h _ _. (t.size, single_kinds t h))

-- powers of two, or a single size
pub available_even : (s : Settings) (known : Bool) (p : FlashParams) → (known ≡ true → WasRead p) → Even (present (available s known p))
available_even s known p read =
    available_by Even s known p
    (λ k. inl (sort_each Power (listed p.erase_insts) (listed_powers p.erase_insts (read_powers p (read k)))))
    (inl tt)
    (λ t h _. inr h)

pub available_small : (s : Settings) → Sound s → (known : Bool) (p : FlashParams) → (known ≡ true → WasRead p) → Each Small (present (available s known p))
available_small s sound known p read =
    available_by (Each Small) s known p (λ k. sort_each Small (listed p.erase_insts) (read_small p (read k))) tt
    (λ t _ k. (⊎_elim (λ (e : t.size ≡ 4096). omega arith) (λ (e : t.size ≡ s.erase_size). omega (arith, sound.erase)) k, tt))
