-- The modelled part, sentence by sentence: one transaction for each, computed.
use mathlib.Core.Path.{◌≡◌, refl}
use mathlib.Core.Bool.{Bool, true, false, cond}
use mathlib.Core.List.{List, [], ◌∷◌}
use mathlib.Core.Option.{some, none}
use Prim.Native.Nat.{ℕ, ◌+◌}
use lib.Dec.{eqb}
use lib.ListN.{replicate}
use Rattle.nor_model.specs.Device.{Part, State, bytes_from, joined, address_in, whole, write_enable, operate, erased, block_erase, onward, and_at, programmed, page_program, chip_erase, read_memory, status1, read_status, read_flags, read_id, read_sfdp, clear_latch, unless_busy, obeyed, respond}

-- 8 bytes, 1 address byte, pages of 4, erases of 2 by 20; 70 offered or not; ID bytes from A0 on, SFDP bytes from 50 on
abbrev pub part : Bool → Part
part flagged = record {
  capacity = 8;
  addressed = 1;
  page = 4;
  erases = λ op. cond (eqb op 0x20) (some 2) none;
  flagged = flagged;
  id = λ i. 0xA0 + i;
  sfdp = λ i. 0x50 + i;
}

-- the memory 10 to 17, latch set or clear, so many busy polls left
abbrev pub state : Bool → ℕ → State
state latch busy = record { memory = λ i. 0x10 + i; latch = latch; busy = busy }

abbrev pub kept : List ℕ
kept = 0x10 ∷ 0x11 ∷ 0x12 ∷ 0x13 ∷ 0x14 ∷ 0x15 ∷ 0x16 ∷ 0x17 ∷ []

-- bytes sent to a part that offers 70, and how long a reply; then the memory, the latch, the busy polls left and the reply. An operation
-- stays busy for 3 polls
abbrev pub gives : State → List ℕ → ℕ → List ℕ × Bool × ℕ × List ℕ
gives s sent n =
    let out = respond (part true) 3 s sent n in
    (bytes_from out.0.memory 0 8, out.0.latch, out.0.busy, out.1)

pub memory : (gives (state false 0) (0x06 ∷ []) 0 ≡ (kept, true, 0, []))
    -- an erase sets its block to FF, needs the latch and clears it
    × (gives (state true 0) (0x20 ∷ 0x05 ∷ []) 0 ≡ (0x10 ∷ 0x11 ∷ 0x12 ∷ 0x13 ∷ 0xFF ∷ 0xFF ∷ 0x16 ∷ 0x17 ∷ [], false, 3, []))
    × (gives (state false 0) (0x20 ∷ 0x05 ∷ []) 0 ≡ (kept, false, 0, []))
    -- 02 ANDs each byte, wrapping in the device page, needs the latch and clears it
    × (gives (state true 0) (0x02 ∷ 0x06 ∷ 0x0F ∷ 0x07 ∷ 0xF0 ∷ []) 0 ≡ (0x10 ∷ 0x11 ∷ 0x12 ∷ 0x13 ∷ 0x10 ∷ 0x15 ∷ 0x06 ∷ 0x07 ∷ [], false, 3, []))
    × (gives (state false 0) (0x02 ∷ 0x06 ∷ 0x0F ∷ []) 0 ≡ (kept, false, 0, []))
    -- so does C7, which sets all to FF
    × (gives (state true 0) (0xC7 ∷ []) 0 ≡ (replicate 8 0xFF, false, 3, []))
    × (gives (state false 0) (0xC7 ∷ []) 0 ≡ (kept, false, 0, []))
    -- 03 and 0B return memory; beyond the capacity it begins again
    × (gives (state false 0) (0x03 ∷ 0x06 ∷ []) 3 ≡ (kept, false, 0, 0x16 ∷ 0x17 ∷ 0x10 ∷ []))
    × (gives (state false 0) (0x0B ∷ 0x0A ∷ 0x00 ∷ []) 2 ≡ (kept, false, 0, 0x12 ∷ 0x13 ∷ []))
unfolding bytes_from joined address_in whole write_enable operate erased block_erase onward and_at programmed page_program chip_erase read_memory unless_busy obeyed respond
memory = (refl, refl, refl, refl, refl, refl, refl, refl, refl)

-- 05 shows busy in bit 0 and the latch in bit 1; 70 shows ready in bit 7; each poll first lowers the busy polls left
pub polls : (gives (state true 2) (0x05 ∷ []) 1 ≡ (kept, true, 1, 0x03 ∷ []))
    × (gives (state true 1) (0x05 ∷ []) 1 ≡ (kept, true, 0, 0x02 ∷ []))
    × (gives (state false 0) (0x05 ∷ []) 1 ≡ (kept, false, 0, 0x00 ∷ []))
    × (gives (state true 2) (0x70 ∷ []) 1 ≡ (kept, true, 1, 0x00 ∷ []))
    × (gives (state true 1) (0x70 ∷ []) 1 ≡ (kept, true, 0, 0x80 ∷ []))
    × (respond (part false) 3 (state true 2) (0x70 ∷ []) 1 ≡ (state true 1, 0xFF ∷ []))
unfolding bytes_from status1 read_status read_flags respond
polls = (refl, refl, refl, refl, refl, refl)

pub others : (gives (state true 0) (0x9F ∷ []) 3 ≡ (kept, true, 0, 0xA0 ∷ 0xA1 ∷ 0xA2 ∷ []))
    -- 9F and 5A return fixed bytes
    × (gives (state true 0) (0x5A ∷ 0x00 ∷ 0x00 ∷ 0x04 ∷ 0x00 ∷ []) 2 ≡ (kept, true, 0, 0x54 ∷ 0x55 ∷ []))
    -- 66 does nothing; 99 and F0 clear the latch
    × (gives (state true 0) (0x66 ∷ []) 0 ≡ (kept, true, 0, []))
    × (gives (state true 0) (0x99 ∷ []) 0 ≡ (kept, false, 0, []))
    × (gives (state true 0) (0xF0 ∷ []) 0 ≡ (kept, false, 0, []))
    -- while busy all but polls is ignored
    × (gives (state false 2) (0x06 ∷ []) 0 ≡ (kept, false, 2, []))
    × (gives (state true 2) (0x20 ∷ 0x05 ∷ []) 0 ≡ (kept, true, 2, []))
    × (gives (state true 2) (0x03 ∷ 0x06 ∷ []) 2 ≡ (kept, true, 2, 0xFF ∷ 0xFF ∷ []))
    -- nothing sent, no command of the part, or not all of one: nothing
    × (gives (state true 0) [] 1 ≡ (kept, true, 0, 0xFF ∷ []))
    × (gives (state true 0) (0xAB ∷ []) 1 ≡ (kept, true, 0, 0xFF ∷ []))
    × (gives (state true 0) (0x20 ∷ []) 0 ≡ (kept, true, 0, []))
unfolding bytes_from joined address_in whole write_enable block_erase read_memory read_id read_sfdp clear_latch unless_busy obeyed respond
others = (refl, refl, refl, refl, refl, refl, refl, refl, refl, refl, refl)
