-- Fields and dwords: a number placed by shifts, and a dword as the sum of its fields, from bit 0 up.
use Prim.Native.Nat.{ℕ, ◌+◌, ◌-◌, ◌*◌, ◌/◌, ◌%◌, ◌^◌, ◌≤◌, ◌<◌}
use native.Mathlib.Nat.{mod-mod, mod-lt, mul-one, div-one}
use native.Mathlib.Omega.{arith}
use mir.Val.{bool_byte}
use mathlib.Core.Bool.{Bool, true, false}
use mathlib.Core.Path.{◌≡◌, refl, ap, ◌∙◌}
use lib.Pow.{mod-pow-add, pow_pos, shl_exact}
use Rattle.std.proofs.lemmas.Nat.{one_shl}
use Rattle.sfdp_write.specs.Table.{placed, mark}

-- ---- placing by shifts
module _ (hi lo : ℕ) (down : lo ≤ hi) (dword : hi < 32) (narrow : hi - lo < 31) where
  mask : (1 * 2 ^ (hi - lo + 1)) % 2 ^ 32 ≡ 2 ^ (hi - lo + 1)
  mask = one_shl (hi - lo + 1) 32 (omega arith)

  pub shifted : (x : ℕ) → (x % ((1 * 2 ^ (hi - lo + 1)) % 2 ^ 32) * 2 ^ lo) % 2 ^ 32 ≡ placed hi lo x
  shifted x = rw mask (shl_exact (hi - lo + 1) lo 32 (mod-lt x (pow_pos (hi - lo + 1))) (omega arith))

-- ---- a dword from its fields: x is what stands below bit lo

-- with the j + 1 bits from lo on
wider : (d lo j : ℕ) → d % 2 ^ lo + d / 2 ^ lo % 2 ^ (j + 1) * 2 ^ lo ≡ d % 2 ^ (j + 1 + lo)
wider d lo j =
    let e : d % 2 ^ (j + 1 + lo) ≡ d / 2 ^ lo % 2 ^ (j + 1) * 2 ^ lo + d % 2 ^ lo = mod-pow-add d (j + 1) lo in
    omega arith

-- the lowest field
pub lowest : (d j v : ℕ) → v ≡ d / 1 % 2 ^ (j + 1) → v % 2 ^ (j + 1) * 1 ≡ d % 2 ^ (j + 1)
lowest d j v e =
    mul-one (v % 2 ^ (j + 1))
    ∙ ap (λ (y : ℕ). y % 2 ^ (j + 1)) e
    ∙ mod-mod (d / 1) (2 ^ (j + 1))
    ∙ ap (λ (y : ℕ). y % 2 ^ (j + 1)) (div-one d)

module _ (d lo j : ℕ) where
  -- a field more, of the value v
  pub grow : {x : ℕ} (v : ℕ) → v ≡ d / 2 ^ lo % 2 ^ (j + 1) → x ≡ d % 2 ^ lo → x + v % 2 ^ (j + 1) * 2 ^ lo ≡ d % 2 ^ (j + 1 + lo)
  grow {x} v e h =
      let m : v % 2 ^ (j + 1) ≡ d / 2 ^ lo % 2 ^ (j + 1) = ap (λ (y : ℕ). y % 2 ^ (j + 1)) e ∙ mod-mod (d / 2 ^ lo) (2 ^ (j + 1)) in
      rw (h, m) (wider d lo j)

  -- the first field that is not skipped
  pub start : (v : ℕ) → v ≡ d / 2 ^ lo % 2 ^ (j + 1) → 0 ≡ d % 2 ^ lo → v % 2 ^ (j + 1) * 2 ^ lo ≡ d % 2 ^ (j + 1 + lo)
  start v e h =
      let m : v % 2 ^ (j + 1) ≡ d / 2 ^ lo % 2 ^ (j + 1) = ap (λ (y : ℕ). y % 2 ^ (j + 1)) e ∙ mod-mod (d / 2 ^ lo) (2 ^ (j + 1)) in
      let w : 0 + d / 2 ^ lo % 2 ^ (j + 1) * 2 ^ lo ≡ d % 2 ^ (j + 1 + lo) = rw (← h) at (wider d lo j) in
      rw m (omega arith)

  -- a field more, which is 0
  pub skip : {x : ℕ} → d / 2 ^ lo % 2 ^ (j + 1) ≡ 0 → x ≡ d % 2 ^ lo → x ≡ d % 2 ^ (j + 1 + lo)
  skip {x} e h =
      let w : d % 2 ^ lo + 0 * 2 ^ lo ≡ d % 2 ^ (j + 1 + lo) = rw e at (wider d lo j) in
      omega arith

-- ---- a yes or no as a number
pub as_mark : (b : Bool) → bool_byte b ≡ mark b
as_mark true = refl
as_mark false = refl
