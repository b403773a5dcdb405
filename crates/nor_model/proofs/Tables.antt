-- What the promises ask of each command, as tables.
use mathlib.Core.Path.{◌≡◌, refl, ap, subst}
use mathlib.Core.Bool.{Bool, true, false}
use mathlib.Core.Logic.{◌⊎◌, inl, inr, ⊎_elim}
use mathlib.Core.List.{List, []}
use Prim.Native.Nat.{ℕ, ◌<◌}
use Rattle.erase_plan.specs.Good.{Each}
use Rattle.commands.specs.Calls.{Call, Read, LegacyRead, ReadParams, Erase, EraseSectors, Program, ProgramData, Reset, ReadJedecId, IsBusy, IsProtected}
use Rattle.nor_model.specs.Demand3.{Asking}

-- the data that must be bytes
abbrev pub data_of : Call → List ℕ
data_of (Read a n) = []
data_of (LegacyRead a n) = []
data_of ReadParams = []
data_of Erase = []
data_of (EraseSectors a n) = []
data_of (Program a d v) = d
data_of (ProgramData a d) = []
data_of Reset = []
data_of ReadJedecId = []
data_of IsBusy = []
data_of IsProtected = []

pub data_bytes : (c : Call) → ((a : ℕ) (d : List ℕ) (v : Bool) → c ≡ Program a d v → Each (λ (x : ℕ). x < 256) d) → Each (λ (x : ℕ). x < 256) (data_of c)
data_bytes (Read a n) h = tt
data_bytes (LegacyRead a n) h = tt
data_bytes ReadParams h = tt
data_bytes Erase h = tt
data_bytes (EraseSectors a n) h = tt
data_bytes (Program a d v) h = h a d v refl
data_bytes (ProgramData a d) h = tt
data_bytes Reset h = tt
data_bytes ReadJedecId h = tt
data_bytes IsBusy h = tt
data_bytes IsProtected h = tt

pub bytes_data : (c : Call) → Each (λ (x : ℕ). x < 256) (data_of c) → (a : ℕ) (d : List ℕ) (v : Bool) → c ≡ Program a d v → Each (λ (x : ℕ). x < 256) d
bytes_data c h a d v e = subst (Each (λ (x : ℕ). x < 256)) (ap data_of e) h

-- whether an accepted one ends Done
abbrev pub finishing : Call → Bool
finishing (Read a n) = true
finishing (LegacyRead a n) = true
finishing ReadParams = false
finishing Erase = true
finishing (EraseSectors a n) = true
finishing (Program a d v) = true
finishing (ProgramData a d) = true
finishing Reset = true
finishing ReadJedecId = false
finishing IsBusy = true
finishing IsProtected = true

pub all_but_two : (c : Call) → (Asking c → ⊥) → finishing c ≡ true
all_but_two (Read a n) h = refl
all_but_two (LegacyRead a n) h = refl
all_but_two ReadParams h = absurd (h (inl refl))
all_but_two Erase h = refl
all_but_two (EraseSectors a n) h = refl
all_but_two (Program a d v) h = refl
all_but_two (ProgramData a d) h = refl
all_but_two Reset h = refl
all_but_two ReadJedecId h = absurd (h (inr refl))
all_but_two IsBusy h = refl
all_but_two IsProtected h = refl

-- the bytes that it reads into its room: address and length
abbrev pub wanted : Call → ℕ × ℕ
wanted (Read a n) = (a, n)
wanted (LegacyRead a n) = (a, n)
wanted ReadParams = (0, 0)
wanted Erase = (0, 0)
wanted (EraseSectors a n) = (0, 0)
wanted (Program a d v) = (0, 0)
wanted (ProgramData a d) = (0, 0)
wanted Reset = (0, 0)
wanted ReadJedecId = (0, 0)
wanted IsBusy = (0, 0)
wanted IsProtected = (0, 0)

pub wanted_read : (c : Call) (a n : ℕ) → (c ≡ Read a n) ⊎ (c ≡ LegacyRead a n) → wanted c ≡ (a, n)
wanted_read c a n e = ⊎_elim (λ (k : c ≡ Read a n). ap wanted k) (λ (k : c ≡ LegacyRead a n). ap wanted k) e
