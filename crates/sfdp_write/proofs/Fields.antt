-- Each field of a dword that is written, read again.
use Prim.Native.Nat.{ℕ, ◌+◌, ◌%◌, ◌^◌, ◌<◌}
use native.Mathlib.Omega.{arith}
use mathlib.Core.Path.{◌≡◌}
use Rattle.dwords.specs.Dwords.{bits}
use Rattle.sfdp_write.specs.Table.{placed}

-- ---- dword 1
module _ (a b c d e f : ℕ) where
  abbrev one : ℕ
  one = placed 1 0 a + placed 2 2 b + placed 3 3 c + placed 4 4 d + placed 15 8 e + placed 18 17 f

  pub one_below : one < 2 ^ 32
  one_below = omega arith

  pub one_1_0 : bits one 1 0 ≡ a % 4
  one_1_0 = omega arith

  pub one_2 : bits one 2 2 ≡ b % 2
  one_2 = omega arith

  pub one_3 : bits one 3 3 ≡ c % 2
  one_3 = omega arith

  pub one_4 : bits one 4 4 ≡ d % 2
  one_4 = omega arith

  pub one_15_8 : bits one 15 8 ≡ e % 256
  one_15_8 = omega arith

  pub one_18_17 : bits one 18 17 ≡ f % 4
  one_18_17 = omega arith

  pub one_7_5 : bits one 7 5 ≡ 0
  one_7_5 = omega arith

  pub one_16 : bits one 16 16 ≡ 0
  one_16 = omega arith

  pub one_31_19 : bits one 31 19 ≡ 0
  one_31_19 = omega arith

-- ---- dword 2
module _ (a : ℕ) where
  pub small_below : placed 30 0 a < 2 ^ 32
  small_below = omega arith

  pub small_31 : bits (placed 30 0 a) 31 31 ≡ 0
  small_31 = omega arith

  abbrev large : ℕ
  large = placed 30 0 a + placed 31 31 1

  pub large_below : large < 2 ^ 32
  large_below = omega arith

  pub large_31 : bits large 31 31 ≡ 1
  large_31 = omega arith

  pub large_30_0 : bits large 30 0 ≡ a % 2147483648
  large_30_0 = omega arith

-- ---- dwords 8 and 9
module _ (a b c d : ℕ) where
  abbrev types : ℕ
  types = placed 7 0 a + placed 15 8 b + placed 23 16 c + placed 31 24 d

  pub types_below : types < 2 ^ 32
  types_below = omega arith

  pub types_7_0 : bits types 7 0 ≡ a % 256
  types_7_0 = omega arith

  pub types_15_8 : bits types 15 8 ≡ b % 256
  types_15_8 = omega arith

  pub types_23_16 : bits types 23 16 ≡ c % 256
  types_23_16 = omega arith

  pub types_31_24 : bits types 31 24 ≡ d % 256
  types_31_24 = omega arith

-- ---- dword 10
module _ (a b c d e : ℕ) where
  abbrev ten : ℕ
  ten = placed 3 0 a + placed 10 4 b + placed 17 11 c + placed 24 18 d + placed 31 25 e

  pub ten_below : ten < 2 ^ 32
  ten_below = omega arith

  pub ten_3_0 : bits ten 3 0 ≡ a % 16
  ten_3_0 = omega arith

  pub ten_10_4 : bits ten 10 4 ≡ b % 128
  ten_10_4 = omega arith

  pub ten_17_11 : bits ten 17 11 ≡ c % 128
  ten_17_11 = omega arith

  pub ten_24_18 : bits ten 24 18 ≡ d % 128
  ten_24_18 = omega arith

  pub ten_31_25 : bits ten 31 25 ≡ e % 128
  ten_31_25 = omega arith

-- ---- dword 11
module _ (a b c d e f : ℕ) where
  abbrev eleven : ℕ
  eleven = placed 3 0 a + placed 7 4 b + placed 13 8 c + placed 18 14 d + placed 23 19 e + placed 30 24 f

  pub eleven_below : eleven < 2 ^ 32
  eleven_below = omega arith

  pub eleven_3_0 : bits eleven 3 0 ≡ a % 16
  eleven_3_0 = omega arith

  pub eleven_7_4 : bits eleven 7 4 ≡ b % 16
  eleven_7_4 = omega arith

  pub eleven_13_8 : bits eleven 13 8 ≡ c % 64
  eleven_13_8 = omega arith

  pub eleven_18_14 : bits eleven 18 14 ≡ d % 32
  eleven_18_14 = omega arith

  pub eleven_23_19 : bits eleven 23 19 ≡ e % 32
  eleven_23_19 = omega arith

  pub eleven_30_24 : bits eleven 30 24 ≡ f % 128
  eleven_30_24 = omega arith

  pub eleven_31 : bits eleven 31 31 ≡ 0
  eleven_31 = omega arith

-- ---- dword 14
module _ (a b : ℕ) where
  abbrev fourteen : ℕ
  fourteen = placed 2 2 a + placed 3 3 b

  pub fourteen_below : fourteen < 2 ^ 32
  fourteen_below = omega arith

  pub fourteen_2 : bits fourteen 2 2 ≡ a % 2
  fourteen_2 = omega arith

  pub fourteen_3 : bits fourteen 3 3 ≡ b % 2
  fourteen_3 = omega arith

  pub fourteen_1_0 : bits fourteen 1 0 ≡ 0
  fourteen_1_0 = omega arith

  pub fourteen_31_4 : bits fourteen 31 4 ≡ 0
  fourteen_31_4 = omega arith

-- ---- dword 16
module _ (a b c d e : ℕ) where
  abbrev sixteen : ℕ
  sixteen = placed 4 0 a + placed 11 11 b + placed 12 12 c + placed 14 14 d + placed 24 24 e

  pub sixteen_below : sixteen < 2 ^ 32
  sixteen_below = omega arith

  pub sixteen_4_0 : bits sixteen 4 0 ≡ a % 32
  sixteen_4_0 = omega arith

  pub sixteen_11 : bits sixteen 11 11 ≡ b % 2
  sixteen_11 = omega arith

  pub sixteen_12 : bits sixteen 12 12 ≡ c % 2
  sixteen_12 = omega arith

  pub sixteen_14 : bits sixteen 14 14 ≡ d % 2
  sixteen_14 = omega arith

  pub sixteen_24 : bits sixteen 24 24 ≡ e % 2
  sixteen_24 = omega arith

  pub sixteen_10_5 : bits sixteen 10 5 ≡ 0
  sixteen_10_5 = omega arith

  pub sixteen_13 : bits sixteen 13 13 ≡ 0
  sixteen_13 = omega arith

  pub sixteen_23_15 : bits sixteen 23 15 ≡ 0
  sixteen_23_15 = omega arith

  pub sixteen_31_25 : bits sixteen 31 25 ≡ 0
  sixteen_31_25 = omega arith
