-- Types and ranges that meet what the laws of a plan ask for.
use Rattle.std.proofs.Common.{◌≡◌, ℕ, ◌+◌, [], ◌∷◌, refl, inl, inr, arith, Ok}
use Rattle.erase_plan.specs.Plan.{block_base, block_end, cover, beats, chosen_from, chosen, entry_at, next_pos, plan_in, plan}
use Rattle.erase_plan.specs.Span.{span_start, span_end, span_check, sectors_check}
use Rattle.erase_plan.specs.Words.{Each}
use Rattle.erase_plan.specs.Good.{Kinds, Good}
use Rattle.erase_plan.specs.Later.{Power, InPlace, after_first}
use Rattle.erase_plan.specs.Direct.{direct}
use Rattle.erase_plan.proofs.Planned.{plan_good, single_kinds, power_kinds}
use Rattle.erase_plan.proofs.Places.{later_in_place}
use Rattle.erase_plan.proofs.Directly.{direct_is_plan}
use Rattle.erase_plan.proofs.Spans.{sectors_exact}
use Rattle.erase_plan.proofs.Examples.{untimed, small, sectors}

-- 4,096, 32,768 and 65,536 divide the last
pub sectors_kinds : Kinds 65536 sectors
sectors_kinds =
    record {
      each = (
        record { some = omega arith; part = record { q = 16; is = refl } },
        (record { some = omega arith; part = record { q = 2; is = refl } }, (record { some = omega arith; part = record { q = 1; is = refl } }, tt)),
      );
      has = inr (inr (inl refl));
    }

pub sectors_good : Good 65536 4096 65536 (plan sectors 4096 65536)
sectors_good = plan_good 65536 sectors sectors_kinds 4096 65536 (omega arith)

-- 4, 32 and 64 are powers of two
pub small_powers : Each Power small
small_powers = (record { exponent = 2; is = refl }, (record { exponent = 5; is = refl }, (record { exponent = 6; is = refl }, tt)))

pub small_kinds : (L : ℕ) × Kinds L small
small_kinds = power_kinds small (omega arith) small_powers

-- a single size that is no power of two
pub odd_good : Good 3 4 8 (plan (untimed 3 1 ∷ []) 4 8)
odd_good = plan_good 3 (untimed 3 1 ∷ []) (single_kinds (untimed 3 1) (omega arith)) 4 8 (omega arith)

-- the later entries of a plan of three powers of two, and of one of a single size
pub small_in_place : InPlace small (next_pos small 8 200) 200 (after_first (plan small 8 200))
small_in_place = later_in_place small (inl small_powers) 8 200

pub odd_in_place : let ts = untimed 3 1 ∷ [] in InPlace ts (next_pos ts 4 20) 20 (after_first (plan ts 4 20))
odd_in_place = later_in_place (untimed 3 1 ∷ []) (inr (omega arith)) 4 20

-- worked out directly: a first block, two largest ones, and a last one
pub small_direct : direct small 8 200 ≡ plan small 8 200
small_direct = direct_is_plan small (inl small_powers) 8 200

-- a whole block is accepted by `erase_sectors`
pub block_accepted : sectors_check sectors 0 65536 ≡ Ok tt
unfolding sectors_check span_check span_start span_end plan plan_in next_pos entry_at chosen chosen_from beats cover block_base block_end
block_accepted = refl

pub block_exact : (span_start (plan sectors 0 (0 + 65536)) ≡ 0) × (span_end (plan sectors 0 (0 + 65536)) ≡ 0 + 65536)
block_exact = sectors_exact 65536 sectors sectors_kinds 0 65536 (omega arith) block_accepted
