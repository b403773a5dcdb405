-- The search for a manufacturer: one turn at a byte that is 7F, and its end at one that is not, or past byte 13.
use Rattle.std.proofs.Common.{◌≡◌, ℕ, suc, ◌+◌, ◌-◌, ◌<◌, ◌≤◌, List, ap, ◌∙◌, arith, eq-eqb, ne_eqb}
use Rattle.dwords.specs.Dwords.{byte_at}
use Rattle.commands.specs.Commands.{first_id, id_at}
use Rattle.commands.specs.declared.Answer.TheVariants.{InvalidManufacturer}

turn : (k at : ℕ) (r : List ℕ) → byte_at r at ≡ 127 → first_id (suc k) at r ≡ first_id k (at + 1) r
unfolding first_id
turn k at r h = rw (first_id, eq-eqb (byte_at r at) 127 h)

stop : (k at : ℕ) (r : List ℕ) → (byte_at r at ≡ 127 → ⊥) → first_id (suc k) at r ≡ id_at at r
unfolding first_id
stop k at r h = rw (first_id, ne_eqb (byte_at r at) 127 h)

module _ (at : ℕ) (r : List ℕ) where
  pub more : at < 14 → byte_at r at ≡ 127 → first_id (14 - at) at r ≡ first_id (14 - (at + 1)) (at + 1) r
  more h e =
      let k : 14 - at ≡ suc (14 - (at + 1)) = omega arith in
      ap (λ (n : ℕ). first_id n at r) k ∙ turn (14 - (at + 1)) at r e

  pub found : at < 14 → (byte_at r at ≡ 127 → ⊥) → first_id (14 - at) at r ≡ id_at at r
  found h e =
      let k : 14 - at ≡ suc (14 - (at + 1)) = omega arith in
      ap (λ (n : ℕ). first_id n at r) k ∙ stop (14 - (at + 1)) at r e

  pub none : 14 ≤ at → first_id (14 - at) at r ≡ InvalidManufacturer
  unfolding first_id
  none h = let k : 14 - at ≡ 0 = omega arith in ap (λ (n : ℕ). first_id n at r) k
