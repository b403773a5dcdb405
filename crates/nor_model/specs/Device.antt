-- The modelled part, as it stands on the bus: bytes sent and a reply length go in, the reply comes out.
use Rattle.std.specs.Prelude.{Bool, true, false, cond, ◌&&◌, List, [], ◌∷◌, ℕ, zero, suc, ◌+◌, ◌-◌, ◌*◌, ◌/◌, ◌%◌, eqb, leb, ltb, length, take, drop, replicate}
use Rattle.std.proofs.Math.Option.{Option, some, none}
use Rattle.std.specs.Int.Bits.{bit_and}

-- what a part is, once and for all
pub record Part : Type 0 where
  -- its bytes of memory
  pub capacity : ℕ
  -- the address bytes of its commands, but for 5A, which takes 3
  pub addressed : ℕ
  -- the device page
  pub page : ℕ
  -- how many bytes an opcode erases; none: it is no erase
  pub erases : ℕ → Option ℕ
  -- whether 70 is offered; every part answers 05
  pub flagged : Bool
  -- the bytes that 9F and 5A return
  pub id : ℕ → ℕ
  pub sfdp : ℕ → ℕ

-- memory, write latch, busy polls left
pub record State : Type 0 where
  pub memory : ℕ → ℕ
  pub latch : Bool
  pub busy : ℕ

-- a part ignores the address bits that it does not have
abbrev pub cell : Part → ℕ → ℕ
cell p a = a % p.capacity

-- n bytes from a on
unfoldable pub bytes_from : (ℕ → ℕ) → ℕ → ℕ → List ℕ
bytes_from f a zero = []
bytes_from f a (suc n) = f a ∷ bytes_from f (suc a) n

-- the number of some bytes, the highest first, behind those of n
unfoldable pub joined : ℕ → List ℕ → ℕ
joined n [] = n
joined n (x ∷ l) = joined (256 * n + x) l

-- the address in the k bytes after the opcode
unfoldable pub address_in : ℕ → List ℕ → ℕ
address_in k rest = joined 0 (take k rest)

-- nothing happens, and nobody drives the bus: FF comes back
abbrev pub silent : State → ℕ → State × List ℕ
silent s n = (s, replicate n 0xFF)

-- a command that needs k bytes after its opcode is carried out if they were sent
unfoldable pub whole : ℕ → List ℕ → State → ℕ → State × List ℕ → State × List ℕ
whole k rest s n out = cond (leb k (length rest)) out (silent s n)

-- ---- the commands. n is the reply's length, rest what was sent after the opcode, wait how many polls an operation stays busy
-- 06 sets the latch
unfoldable pub write_enable : State → ℕ → State × List ℕ
write_enable s n = silent (record { memory = s.memory; latch = true; busy = s.busy }) n

-- an operation on the memory needs the latch and clears it; the part is busy then
unfoldable pub operate : ℕ → (ℕ → ℕ) → State → State
operate wait memory s = cond s.latch (record { memory = memory; latch = false; busy = wait }) s

-- an erase sets its block to FF: the aligned one that the address is in
unfoldable pub erased : ℕ → ℕ → (ℕ → ℕ) → ℕ → ℕ
erased size a m i = cond (leb (a / size * size) i && ltb i (a / size * size + size)) 0xFF (m i)

unfoldable pub block_erase : Part → ℕ → ℕ → State → List ℕ → ℕ → State × List ℕ
block_erase p wait size s rest n =
    whole p.addressed rest s n (silent (operate wait (erased size (cell p (address_in p.addressed rest)) s.memory) s) n)

-- 02 ANDs each byte, wrapping in the device page: after its last byte comes its first
unfoldable pub onward : ℕ → ℕ → ℕ
onward page a = cond (eqb (suc a % page) 0) (suc a - page) (suc a)

unfoldable pub and_at : ℕ → ℕ → (ℕ → ℕ) → ℕ → ℕ
and_at c x m i = cond (eqb i c) (bit_and (m i) x) (m i)

unfoldable pub programmed : Part → ℕ → List ℕ → (ℕ → ℕ) → ℕ → ℕ
programmed p a [] m = m
programmed p a (x ∷ l) m = programmed p (onward p.page a) l (and_at (cell p a) x m)

unfoldable pub page_program : Part → ℕ → State → List ℕ → ℕ → State × List ℕ
page_program p wait s rest n =
    whole p.addressed rest s n
    (silent (operate wait (programmed p (address_in p.addressed rest) (drop p.addressed rest) s.memory) s) n)

-- C7 sets all to FF
unfoldable pub chip_erase : ℕ → State → ℕ → State × List ℕ
chip_erase wait s n = silent (operate wait (λ i. 0xFF) s) n

-- 03 and 0B return memory, 0B after a dummy
unfoldable pub read_memory : Part → ℕ → State → List ℕ → ℕ → State × List ℕ
read_memory p dummies s rest n =
    whole (p.addressed + dummies) rest s n (s, bytes_from (λ i. s.memory (cell p i)) (address_in p.addressed rest) n)

-- each poll first lowers the busy polls left
abbrev pub lowered : State → State
lowered s = record { memory = s.memory; latch = s.latch; busy = s.busy - 1 }

-- 05 shows busy in bit 0 and the latch in bit 1
unfoldable pub status1 : State → ℕ
status1 s = cond (eqb s.busy 0) 0 1 + cond s.latch 2 0

unfoldable pub read_status : State → ℕ → State × List ℕ
read_status s n = (lowered s, replicate n (status1 (lowered s)))

-- 70 shows ready in bit 7, where it is offered; it is a poll everywhere
unfoldable pub read_flags : Part → State → ℕ → State × List ℕ
read_flags p s n = (lowered s, replicate n (cond p.flagged (cond (eqb (lowered s).busy 0) 0x80 0) 0xFF))

-- 9F and 5A return fixed bytes
unfoldable pub read_id : Part → State → ℕ → State × List ℕ
read_id p s n = (s, bytes_from p.id 0 n)

unfoldable pub read_sfdp : Part → State → List ℕ → ℕ → State × List ℕ
read_sfdp p s rest n = whole 4 rest s n (s, bytes_from p.sfdp (address_in 3 rest) n)

-- 66 does nothing; 99 and F0 clear the latch
unfoldable pub clear_latch : State → ℕ → State × List ℕ
clear_latch s n = silent (record { memory = s.memory; latch = false; busy = s.busy }) n

-- ---- what the part does with a transaction
-- while busy all but polls is ignored
unfoldable pub unless_busy : State → ℕ → State × List ℕ → State × List ℕ
unless_busy s n out = cond (eqb s.busy 0) out (silent s n)

unfoldable pub obeyed : Part → ℕ → State → ℕ → List ℕ → ℕ → State × List ℕ
obeyed p wait s op rest n =
    cond (eqb op 0x06) (write_enable s n)
    (cond (eqb op 0x02) (page_program p wait s rest n)
    (cond (eqb op 0xC7) (chip_erase wait s n)
    (cond (eqb op 0x03) (read_memory p 0 s rest n)
    (cond (eqb op 0x0B) (read_memory p 1 s rest n)
    (cond (eqb op 0x9F) (read_id p s n)
    (cond (eqb op 0x5A) (read_sfdp p s rest n)
    (cond (eqb op 0x99) (clear_latch s n)
    (cond (eqb op 0xF0) (clear_latch s n) (silent s n)))))))))

-- an erase opcode, whatever else it may be; a poll; any other command
abbrev pub taken : Option ℕ → Part → ℕ → State → ℕ → List ℕ → ℕ → State × List ℕ
taken (some size) p wait s op rest n = unless_busy s n (block_erase p wait size s rest n)
taken none p wait s op rest n =
    cond (eqb op 0x05) (read_status s n)
    (cond (eqb op 0x70) (read_flags p s n) (unless_busy s n (obeyed p wait s op rest n)))

unfoldable pub respond : Part → ℕ → State → List ℕ → ℕ → State × List ℕ
respond p wait s [] n = silent s n
respond p wait s (op ∷ rest) n = taken (p.erases op) p wait s op rest n
