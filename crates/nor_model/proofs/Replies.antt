-- The part's replies, as a host meets them: as many as the transactions, and bytes.
use mathlib.Core.Path.{◌≡◌, refl, ap, subst}
use mathlib.Core.Bool.{Bool, true, false, cond, ◌&&◌}
use mathlib.Core.List.{List, [], ◌∷◌}
use mathlib.Core.Option.{Option, some, none}
use Prim.Native.Nat.{ℕ, zero, suc, ◌+◌, ◌*◌, ◌/◌, ◌≤◌, ◌<◌}
use native.Mathlib.Omega.{arith}
use lib.Bits.{bit_and, and_le_l}
use lib.Dec.{eqb, leb, ltb}
use lib.ListN.{length, replicate}
use Rattle.erase_plan.specs.Good.{Each}
use Rattle.erase_plan.proofs.Lists.{by_cond}
use Rattle.commands.specs.declared.Answer.{Answer}
use Rattle.commands.specs.Script.{Sent, Kept, Script, done, stop, send}
use Rattle.commands.specs.Wire.{wire}
use Rattle.commands.specs.Calls.{Call, script}
use Rattle.commands.specs.Bounds.{most}
use Rattle.commands.specs.Leaves.{OfBytes}
use Rattle.commands.proofs.Within.{bounded_host}
use Rattle.nor_model.specs.Device.{Part, State, cell, address_in, silent, whole, write_enable, operate, erased, block_erase, onward, and_at, programmed, page_program, chip_erase, read_memory, lowered, status1, read_status, read_flags, read_id, read_sfdp, clear_latch, unless_busy, obeyed, taken, respond}
use Rattle.nor_model.specs.Runs.{Times, replied, exec, replies}
use Rattle.nor_model.proofs.Memory.{Mem, Byte, Bytes, each_from}
use Rattle.nor_model.proofs.Plays.{exec_plays}

-- ---- as many as the transactions
pub replies_many : (p : Part) (times : Times) (past : List (List ℕ)) (s : State) (c : Script Answer)
    → length (replies p times past s c) ≡ length (exec p times past s c).sent
unfolding replies exec
replies_many p times past s (done w a) = refl
replies_many p times past s (stop w e) = refl
replies_many p times past s (send w t f) =
    ap suc (replies_many p times (wire t ∷ past) (replied p times past s t).0 (f (replied p times past s t).1))

-- a command sends no more on the part than anywhere
pub exec_most : (p : Part) (times : Times) (s : State) (c : Call) (w : Kept) → length (exec p times [] s (script c w)).sent ≤ most c w
exec_most p times s c w =
    subst (λ (l : List Sent). length l ≤ most c w) (ap (λ x. x.0) (exec_plays p times [] s (script c w)))
    (bounded_host c w (replies p times [] s (script c w)))

-- ---- bytes
-- a part whose fixed bytes are bytes
pub record OfPart (p : Part) : Type 0 where
  pub id : (i : ℕ) → p.id i < 256
  pub sfdp : (i : ℕ) → p.sfdp i < 256

-- the memory stays of bytes, and the reply is of bytes
abbrev Fine : State × List ℕ → Type 0
Fine out = Bytes out.0.memory × Each Byte out.1

replicate_bytes : (n x : ℕ) → x < 256 → Each Byte (replicate n x)
replicate_bytes zero x h = tt
replicate_bytes (suc n) x h = (h, replicate_bytes n x h)

silent_fine : (s : State) (n : ℕ) → Bytes s.memory → Fine (silent s n)
silent_fine s n b = (b, replicate_bytes n 255 (omega arith))

whole_fine : (k : ℕ) (rest : List ℕ) (s : State) (n : ℕ) (out : State × List ℕ) → Bytes s.memory → Fine out → Fine (whole k rest s n out)
unfolding whole
whole_fine k rest s n out b h = by_cond Fine (leb k (length rest)) out (silent s n) (λ _. h) (λ _. silent_fine s n b)

busy_fine : (s : State) (n : ℕ) (out : State × List ℕ) → Bytes s.memory → Fine out → Fine (unless_busy s n out)
unfolding unless_busy
busy_fine s n out b h = by_cond Fine (eqb s.busy 0) out (silent s n) (λ _. h) (λ _. silent_fine s n b)

operate_bytes : (wait : ℕ) (m : Mem) (s : State) → Bytes m → Bytes s.memory → Bytes (operate wait m s).memory
unfolding operate
operate_bytes wait m s h b = by_cond (λ (x : State). Bytes x.memory) s.latch _ s (λ _. h) (λ _. b)

erased_bytes : (size a : ℕ) (m : Mem) → Bytes m → Bytes (erased size a m)
unfolding erased
erased_bytes size a m b = record { below = λ i. by_cond Byte (leb (a / size * size) i && ltb i (a / size * size + size)) 255 (m i) (λ _. omega arith) (λ _. b.below i) }

and_bytes : (c x : ℕ) (m : Mem) → Bytes m → Bytes (and_at c x m)
unfolding and_at
and_bytes c x m b =
    record { below = λ i. by_cond Byte (eqb i c) (bit_and (m i) x) (m i) (λ _. omega (arith, b.below i, and_le_l (m i) x)) (λ _. b.below i) }

programmed_bytes : (p : Part) (a : ℕ) (l : List ℕ) (m : Mem) → Bytes m → Bytes (programmed p a l m)
unfolding programmed
programmed_bytes p a [] m b = b
programmed_bytes p a (x ∷ l) m b = programmed_bytes p (onward p.page a) l (and_at (cell p a) x m) (and_bytes (cell p a) x m b)

module _ (p : Part) (o : OfPart p) (wait : ℕ) (s : State) (b : Bytes s.memory) (rest : List ℕ) (n : ℕ) where
  operated : (m : Mem) → Bytes m → Fine (silent (operate wait m s) n)
  operated m h = silent_fine (operate wait m s) n (operate_bytes wait m s h b)

  read_fine : (dummies : ℕ) → Fine (read_memory p dummies s rest n)
  unfolding read_memory
  read_fine dummies =
      whole_fine (p.addressed + dummies) rest s n _ b (b, each_from (λ i. s.memory (cell p i)) (record { below = λ i. b.below (cell p i) }) (address_in p.addressed rest) n)

  obeyed_fine : (op : ℕ) → Fine (obeyed p wait s op rest n)
  unfolding obeyed write_enable page_program chip_erase read_id read_sfdp clear_latch
  obeyed_fine op =
      one 0x06 _ _ (b, replicate_bytes n 255 (omega arith))
      (one 0x02 _ _ (whole_fine p.addressed rest s n _ b (operated _ (programmed_bytes p _ _ s.memory b)))
      (one 0xC7 _ _ (operated (λ i. 255) (record { below = λ i. omega arith }))
      (one 0x03 _ _ (read_fine 0)
      (one 0x0B _ _ (read_fine 1)
      (one 0x9F _ _ (b, each_from p.id (record { below = o.id }) 0 n)
      (one 0x5A _ _ (whole_fine 4 rest s n _ b (b, each_from p.sfdp (record { below = o.sfdp }) (address_in 3 rest) n))
      (one 0x99 _ _ (b, replicate_bytes n 255 (omega arith))
      (one 0xF0 _ _ (b, replicate_bytes n 255 (omega arith)) (silent_fine s n b)))))))))
    where
      one : (x : ℕ) (yes' no' : State × List ℕ) → Fine yes' → Fine no' → Fine (cond (eqb op x) yes' no')
      one x yes' no' h k = by_cond Fine (eqb op x) yes' no' (λ _. h) (λ _. k)

  status_byte : status1 (lowered s) < 256
  unfolding status1
  status_byte = go (eqb (lowered s).busy 0) s.latch
    where
      go : (x y : Bool) → cond x 0 1 + cond y 2 0 < 256
      go true true = omega arith
      go true false = omega arith
      go false true = omega arith
      go false false = omega arith

  flags_byte : cond p.flagged (cond (eqb (lowered s).busy 0) 0x80 0) 0xFF < 256
  flags_byte = go p.flagged (eqb (lowered s).busy 0)
    where
      go : (x y : Bool) → cond x (cond y 0x80 0) 0xFF < 256
      go true true = omega arith
      go true false = omega arith
      go false true = omega arith
      go false false = omega arith

  taken_fine : (x : Option ℕ) (op : ℕ) → Fine (taken x p wait s op rest n)
  unfolding block_erase read_status read_flags
  taken_fine (some size) op =
      busy_fine s n _ b (whole_fine p.addressed rest s n _ b (operated _ (erased_bytes size (cell p (address_in p.addressed rest)) s.memory b)))
  taken_fine none op =
      by_cond Fine (eqb op 0x05) _ _ (λ _. (b, replicate_bytes n _ status_byte))
      (λ _. by_cond Fine (eqb op 0x70) _ _ (λ _. (b, replicate_bytes n _ flags_byte)) (λ _. busy_fine s n _ b (obeyed_fine op)))

respond_fine : (p : Part) → OfPart p → (wait : ℕ) (s : State) → Bytes s.memory → (sent : List ℕ) (n : ℕ) → Fine (respond p wait s sent n)
unfolding respond
respond_fine p o wait s b [] n = silent_fine s n b
respond_fine p o wait s b (op ∷ rest) n = taken_fine p o wait s b rest n (p.erases op) op

pub replies_bytes : (p : Part) → OfPart p → (times : Times) (past : List (List ℕ)) (s : State) → Bytes s.memory → (c : Script Answer) → Each OfBytes (replies p times past s c)
unfolding replies
replies_bytes p o times past s b (done w a) = tt
replies_bytes p o times past s b (stop w e) = tt
replies_bytes p o times past s b (send w t f) =
    let h : Fine (replied p times past s t) = respond_fine p o (times (wire t ∷ past)) s b (wire t) t.reply in
    (h.1, replies_bytes p o times (wire t ∷ past) (replied p times past s t).0 h.0 (f (replied p times past s t).1))
