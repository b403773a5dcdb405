-- What the part does with each transaction of the driver.
use mathlib.Core.Path.{◌≡◌, refl, sym, ap, ap₂, ◌∙◌, fun_ext, subst}
use mathlib.Core.Bool.{Bool, true, false, cond, ◌&&◌, not}
use mathlib.Core.List.{List, [], ◌∷◌, ◌++◌}
use mathlib.Core.Option.{Option, some, none}
use Prim.Native.Nat.{ℕ, ◌+◌, ◌-◌, ◌*◌, ◌/◌, ◌^◌, ◌≤◌, ◌<◌}
use native.Mathlib.Omega.{arith}
use native.Mathlib.Nat.{mod-eq_of_lt}
use lib.Dec.{eqb, leb, ltb}
use lib.ListN.{length, length-replicate}
use borrow.Author.Tests.{le-leb, eq-eqb}
use Rattle.dwords.specs.Dwords.{byte_at, bit}
use Rattle.settings.specs.declared.Settings.{Settings}
use Rattle.erase_plan.specs.declared.EraseEntry.{EraseEntry}
use Rattle.erase_plan.specs.Good.{Mult}
use Rattle.erase_plan.specs.Plan.{block_base}
use Rattle.erase_plan.proofs.Multiples.{base_self}
use Rattle.erase_plan.proofs.Lists.{by_cond}
use Rattle.commands.specs.Script.{Kept}
use Rattle.commands.specs.Wire.{high_first, wire}
use Rattle.commands.specs.Transactions.{plain, fast_read, read_data, erase_block, by_flag, status_poll, ready}
use Rattle.commands.specs.Transactions.{write_enable as enabling, page_program as programming}
use Rattle.nor_model.specs.Device.{Part, State, cell, bytes_from, silent, whole, write_enable, operate, erased, block_erase, programmed, page_program, chip_erase, read_memory, lowered, status1, read_status, read_flags, read_id, read_sfdp, clear_latch, unless_busy, obeyed, taken, respond}
use Rattle.nor_model.specs.Replay.{set_to_ff}
use Rattle.nor_model.proofs.Memory.{Mem, length_from, from_agree}
use Rattle.nor_model.proofs.Wires.{address_sent, behind_sent, length_sent}

-- ---- every reply has the length asked for
abbrev Sized : ℕ → State × List ℕ → Type 0
Sized n out = length out.1 ≡ n

silent_sized : (s : State) (n : ℕ) → Sized n (silent s n)
silent_sized s n = length-replicate n 255

whole_sized : (k : ℕ) (rest : List ℕ) (s : State) (n : ℕ) (out : State × List ℕ) → Sized n out → Sized n (whole k rest s n out)
unfolding whole
whole_sized k rest s n out h = by_cond (Sized n) (leb k (length rest)) out (silent s n) (λ e. h) (λ e. silent_sized s n)

busy_sized : (s : State) (n : ℕ) (out : State × List ℕ) → Sized n out → Sized n (unless_busy s n out)
unfolding unless_busy
busy_sized s n out h = by_cond (Sized n) (eqb s.busy 0) out (silent s n) (λ e. h) (λ e. silent_sized s n)

obeyed_sized : (p : Part) (wait : ℕ) (s : State) (op : ℕ) (rest : List ℕ) (n : ℕ) → Sized n (obeyed p wait s op rest n)
unfolding obeyed write_enable page_program chip_erase read_memory read_id read_sfdp clear_latch
obeyed_sized p wait s op rest n =
    one 0x06 _ _ (length-replicate n 255)
    (one 0x02 _ _ (whole_sized p.addressed rest s n _ (length-replicate n 255))
    (one 0xC7 _ _ (length-replicate n 255)
    (one 0x03 _ _ (whole_sized (p.addressed + 0) rest s n _ (length_from _ _ n))
    (one 0x0B _ _ (whole_sized (p.addressed + 1) rest s n _ (length_from _ _ n))
    (one 0x9F _ _ (length_from _ _ n)
    (one 0x5A _ _ (whole_sized 4 rest s n _ (length_from _ _ n))
    (one 0x99 _ _ (length-replicate n 255)
    (one 0xF0 _ _ (length-replicate n 255) (silent_sized s n)))))))))
  where
    one : (x : ℕ) (yes' no' : State × List ℕ) → Sized n yes' → Sized n no' → Sized n (cond (eqb op x) yes' no')
    one x yes' no' h k = by_cond (Sized n) (eqb op x) yes' no' (λ e. h) (λ e. k)

pub reply_sized : (p : Part) (wait : ℕ) (s : State) (sent : List ℕ) (n : ℕ) → length (respond p wait s sent n).1 ≡ n
unfolding respond block_erase read_status read_flags
reply_sized p wait s [] n = silent_sized s n
reply_sized p wait s (op ∷ rest) n = go (p.erases op)
  where
    go : (o : Option ℕ) → Sized n (taken o p wait s op rest n)
    go (some size) = busy_sized s n _ (whole_sized p.addressed rest s n _ (length-replicate n 255))
    go none =
        by_cond (Sized n) (eqb op 0x05) _ _ (λ e. length-replicate n _)
        (λ e. by_cond (Sized n) (eqb op 0x70) _ _ (λ e. length-replicate n _)
        (λ e. busy_sized s n _ (obeyed_sized p wait s op rest n)))

-- ---- the states that operations come to
abbrev pub enabled : State → State
enabled s = record { memory = s.memory; latch = true; busy = s.busy }

abbrev pub started : ℕ → Mem → State
started wait m = record { memory = m; latch = false; busy = wait }

whole_yes : (k : ℕ) (rest : List ℕ) (s : State) (n : ℕ) (out : State × List ℕ) → k ≤ length rest → whole k rest s n out ≡ out
unfolding whole
whole_yes k rest s n out h = rw (le-leb k (length rest) h)

idle_yes : (s : State) (n : ℕ) (out : State × List ℕ) → s.busy ≡ 0 → unless_busy s n out ≡ out
unfolding unless_busy
idle_yes s n out h = rw (eq-eqb s.busy 0 h)

operate_yes : (wait : ℕ) (m : Mem) (s : State) → s.latch ≡ true → operate wait m s ≡ started wait m
unfolding operate
operate_yes wait m s h = rw h

-- an aligned address is its block's first
pub erased_aligned : (size a : ℕ) (m : Mem) → 0 < size → Mult size a → erased size a m ≡ set_to_ff a size m
unfolding erased set_to_ff block_base
erased_aligned size a m h k =
    let e : a / size * size ≡ a = base_self h k in
    fun_ext (λ i. ap (λ (b : ℕ). cond (leb b i && ltb i (b + size)) 255 (m i)) e)

-- ---- what an idle part does with a command that is none of its erases
module _ (p : Part) (wait : ℕ) (s : State) (idle : s.busy ≡ 0) where
  pub on_enable : p.erases 0x06 ≡ none → respond p wait s (wire enabling) 0 ≡ (enabled s, [])
  unfolding respond wire high_first obeyed write_enable
  on_enable e = rw e (idle_yes s 0 (enabled s, []) idle)

  pub on_chip : p.erases 0xC7 ≡ none → s.latch ≡ true → respond p wait s (wire (plain 0xC7 0)) 0 ≡ (started wait (λ i. 255), [])
  unfolding respond wire high_first obeyed chip_erase
  on_chip e l = rw e (idle_yes s 0 _ idle ∙ ap (λ (x : State). silent x 0) (operate_yes wait (λ i. 255) s l))

  -- an erase, aligned, of a block whose base the part has
  pub on_erase : (st : Settings) (e : EraseEntry) → st.address_bytes ≡ p.addressed → p.erases e.opcode ≡ some e.size → 0 < e.size
      → Mult e.size e.base → e.base < p.capacity → e.base < 256 ^ p.addressed → s.latch ≡ true
      → respond p wait s (wire (erase_block st e)) 0 ≡ (started wait (set_to_ff e.base e.size s.memory), [])
  unfolding respond wire block_erase
  on_erase st e k o h a c b l =
      rw (k, o)
      (idle_yes s 0 _ idle ∙ whole_yes p.addressed rest s 0 _ (omega (arith, length_sent p.addressed e.base []))
      ∙ ap (λ (x : State). silent x 0) (operate_yes wait _ s l)
      ∙ ap (λ (m : Mem). (started wait m, []))
      (ap (λ (x : ℕ). erased e.size (cell p x) s.memory) (address_sent p.addressed e.base [] b)
      ∙ ap (λ (x : ℕ). erased e.size x s.memory) (mod-eq_of_lt c) ∙ erased_aligned e.size e.base s.memory h a))
    where
      rest : List ℕ
      rest = high_first p.addressed e.base ++ []

  pub on_program : (w : Kept) (a : ℕ) (bytes : List ℕ) → w.settings.address_bytes ≡ p.addressed → p.erases 0x02 ≡ none → a < 256 ^ p.addressed
      → s.latch ≡ true → respond p wait s (wire (programming w a bytes)) 0 ≡ (started wait (programmed p a bytes s.memory), [])
  unfolding respond wire obeyed page_program
  on_program w a bytes k o b l =
      rw (k, o)
      (idle_yes s 0 _ idle ∙ whole_yes p.addressed rest s 0 _ (omega (arith, length_sent p.addressed a bytes))
      ∙ ap (λ (x : State). silent x 0) (operate_yes wait _ s l)
      ∙ ap₂ (λ (x : ℕ) (y : List ℕ). (started wait (programmed p x y s.memory), [])) (address_sent p.addressed a bytes b)
      (behind_sent p.addressed a bytes))
    where
      rest : List ℕ
      rest = high_first p.addressed a ++ bytes

  -- reads within the capacity
  read_cells : (a n : ℕ) → a + n ≤ p.capacity → bytes_from (λ i. s.memory (cell p i)) a n ≡ bytes_from s.memory a n
  read_cells a n h = from_agree _ s.memory a n (λ i k l. ap s.memory (mod-eq_of_lt (omega arith)))

  read_sent : (dummies a n : ℕ) (l : List ℕ) → length l ≡ dummies → a + n ≤ p.capacity → a < 256 ^ p.addressed
      → unless_busy s n (read_memory p dummies s (high_first p.addressed a ++ l) n) ≡ (s, bytes_from s.memory a n)
  unfolding read_memory
  read_sent dummies a n l e h b =
      idle_yes s n _ idle ∙ whole_yes (p.addressed + dummies) (high_first p.addressed a ++ l) s n _ (omega (arith, e, length_sent p.addressed a l))
      ∙ ap (λ (x : ℕ). (s, bytes_from (λ i. s.memory (cell p i)) x n)) (address_sent p.addressed a l b)
      ∙ ap (λ (l : List ℕ). (s, l)) (read_cells a n h)

  pub on_fast : (st : Settings) (a n : ℕ) → st.address_bytes ≡ p.addressed → p.erases 0x0B ≡ none → a + n ≤ p.capacity → a < 256 ^ p.addressed
      → respond p wait s (wire (fast_read st a n)) n ≡ (s, bytes_from s.memory a n)
  unfolding respond wire obeyed
  on_fast st a n k o h b = rw (k, o) (read_sent 1 a n (0 ∷ []) refl h b)

  pub on_data : (st : Settings) (a n : ℕ) → st.address_bytes ≡ p.addressed → p.erases 0x03 ≡ none → a + n ≤ p.capacity → a < 256 ^ p.addressed
      → respond p wait s (wire (read_data st a n)) n ≡ (s, bytes_from s.memory a n)
  unfolding respond wire obeyed
  on_data st a n k o h b = rw (k, o) (read_sent 0 a n [] refl h b)

-- ---- the poll chosen, which the part offers: busy or not
ready_status : (n : ℕ) (latch : Bool) → ready false (cond (eqb n 0) 0 1 + cond latch 2 0) ≡ eqb n 0
unfolding ready
ready_status n latch = go (eqb n 0) latch
  where
    go : (b l : Bool) → not (bit (cond b 0 1 + cond l 2 0) 0) ≡ b
    go true true = refl
    go true false = refl
    go false true = refl
    go false false = refl

ready_flags : (n : ℕ) → ready true (cond (eqb n 0) 0x80 0) ≡ eqb n 0
unfolding ready
ready_flags n = go (eqb n 0)
  where
    go : (b : Bool) → bit (cond b 0x80 0) 7 ≡ b
    go true = refl
    go false = refl

-- it lowers the busy polls left, and says ready when none is left
pub record Polled (flag : Bool) (s : State) (out : State × List ℕ) : Type 0 where
  pub state : out.0 ≡ lowered s
  pub says : ready flag (byte_at out.1 0) ≡ eqb (s.busy - 1) 0

pub on_poll : (p : Part) (wait : ℕ) (s : State) (w : Kept) → p.erases 0x05 ≡ none → p.erases 0x70 ≡ none → (by_flag w ≡ true → p.flagged ≡ true)
    → Polled (by_flag w) s (respond p wait s (wire (status_poll w)) 1)
unfolding respond wire high_first read_status read_flags status1 byte_at
on_poll p wait s w e f o = go (by_flag w) o
  where
    go : (flag : Bool) → (flag ≡ true → p.flagged ≡ true) → Polled flag s (respond p wait s (cond flag 0x70 0x05 ∷ []) 1)
    go true o = rw (f, o refl) (record { state = refl; says = ready_flags (s.busy - 1) })
    go false o = rw e (record { state = refl; says = ready_status (s.busy - 1) s.latch })

-- ---- commands that leave the memory alone: the part, idle, stays so
pub record Quiet (s : State) (out : State × List ℕ) : Type 0 where
  pub memory : out.0.memory ≡ s.memory
  pub idle : out.0.busy ≡ 0

module _ (p : Part) (wait : ℕ) (s : State) (idle : s.busy ≡ 0) (rest : List ℕ) (n : ℕ) where
  stays : (out : State × List ℕ) → out.0 ≡ s → Quiet s out
  stays out e = record { memory = ap (λ (x : State). x.memory) e; idle = ap (λ (x : State). x.busy) e ∙ idle }

  pub quiet_status : p.erases 0x05 ≡ none → Quiet s (respond p wait s (0x05 ∷ rest) n)
  unfolding respond read_status
  quiet_status e = rw e (record { memory = refl; idle = omega arith })

  pub quiet_poll : (w : Kept) → p.erases 0x05 ≡ none → p.erases 0x70 ≡ none → Quiet s (respond p wait s (cond (by_flag w) 0x70 0x05 ∷ rest) n)
  unfolding respond read_status read_flags
  quiet_poll w e f = go (by_flag w)
    where
      go : (flag : Bool) → Quiet s (respond p wait s (cond flag 0x70 0x05 ∷ rest) n)
      go true = rw f (record { memory = refl; idle = omega arith })
      go false = rw e (record { memory = refl; idle = omega arith })

  pub quiet_id : p.erases 0x9F ≡ none → Quiet s (respond p wait s (0x9F ∷ rest) n)
  unfolding respond obeyed read_id
  quiet_id e = rw e (subst (Quiet s) (sym (idle_yes s n _ idle)) (stays _ refl))

  pub quiet_sfdp : p.erases 0x5A ≡ none → Quiet s (respond p wait s (0x5A ∷ rest) n)
  unfolding respond obeyed read_sfdp whole
  quiet_sfdp e = rw e (subst (Quiet s) (sym (idle_yes s n _ idle)) (by_cond (Quiet s) (leb 4 (length rest)) _ _ (λ _. stays _ refl) (λ _. stays _ refl)))

  pub quiet_prepare : p.erases 0x66 ≡ none → Quiet s (respond p wait s (0x66 ∷ rest) n)
  unfolding respond obeyed
  quiet_prepare e = rw e (subst (Quiet s) (sym (idle_yes s n _ idle)) (stays _ refl))

  pub quiet_99 : p.erases 0x99 ≡ none → Quiet s (respond p wait s (0x99 ∷ rest) n)
  unfolding respond obeyed clear_latch
  quiet_99 e = rw e (subst (Quiet s) (sym (idle_yes s n _ idle)) (record { memory = refl; idle = idle }))

  pub quiet_f0 : p.erases 0xF0 ≡ none → Quiet s (respond p wait s (0xF0 ∷ rest) n)
  unfolding respond obeyed clear_latch
  quiet_f0 e = rw e (subst (Quiet s) (sym (idle_yes s n _ idle)) (record { memory = refl; idle = idle }))
