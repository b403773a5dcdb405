-- Each premise is needed: a run that meets the others, and after which the memory is not as replayed.
use Rattle.std.proofs.Common.{Option as Perhaps, Some, None}
use mathlib.Core.Path.{◌≡◌, refl, sym, ap, ◌∙◌}
use mathlib.Core.Bool.{Bool, true, false, cond}
use mathlib.Core.Logic.{inl}
use mathlib.Core.List.{List, [], ◌∷◌, ◌++◌}
use mathlib.Core.Option.{Option, some, none}
use Prim.Native.Nat.{ℕ, ◌<◌, ◌≤◌}
use native.Mathlib.Omega.{arith}
use lib.Dec.{eqb}
use lib.ListN.{replicate}
use borrow.Author.Tests.{eqb-true}
use Rattle.dwords.specs.Dwords.{byte_at, le32}
use Rattle.sfdp.specs.Jesd216.{no_params, fields, params, extended, erase_type, erase_types, size_fits, sizes_fit, density_fits, accepted, read_table}
use Rattle.settings.specs.declared.Settings.{Settings}
use Rattle.settings.specs.Limits.{Sound, page_of}
use Rattle.settings.specs.Ranges.{accepted_range}
use Rattle.erase_plan.specs.declared.EraseType.{EraseType}
use Rattle.erase_plan.specs.Good.{Each, Mult}
use Rattle.erase_plan.specs.Types.{kept, present}
use Rattle.erase_plan.specs.Plan.{block_base, block_end, cover, beats, chosen_from, chosen, entry_at, next_pos, plan_in, plan}
use Rattle.erase_plan.specs.Span.{span_start, span_end}
use Rattle.erase_plan.proofs.Lists.{no_true}
use Rattle.plans.specs.Available.{of_settings, available, all_zero, usable_4k}
use Rattle.commands.specs.Script.{Kept, after, over, each}
use Rattle.commands.specs.Wire.{high_first, wire}
use Rattle.commands.specs.Host.{tally}
use Rattle.commands.specs.Transactions.{page_delay, by_flag, ready, polls, to_page_end, parts_in, parts}
use Rattle.commands.specs.Commands.{types_of, blank, written, program}
use Rattle.commands.specs.Calls.{Program, script}
use Rattle.commands.specs.Bounds.{limit}
use Rattle.commands.specs.Leaves.{refused}
use Rattle.nor_model.specs.Device.{Part, bytes_from, joined, address_in, whole, write_enable, operate, erased, block_erase, onward, and_at, programmed, page_program, read_memory, status1, read_status, read_flags, unless_busy, obeyed, respond}
use Rattle.nor_model.specs.Fits.{other_command}
use Rattle.nor_model.specs.Replay.{laid_over, replay}
use Rattle.nor_model.specs.Runs.{exec}
use Rattle.nor_model.specs.Demand3.{Act, Command, Now, next, Possible, Promises}
use Rattle.nor_model.proofs.Tables.{bytes_data}
use Rattle.nor_model.proofs.Sequences.{demand3}

-- ---- a run: 01 programmed at an address of a part whose memory is 00 everywhere
pub record Run : Type 0 where
  pub part : Part
  pub busy : ℕ
  pub kept : Kept
  pub address : ℕ
  pub wait : ℕ

abbrev pub now : Run → Now
now x = record { state = record { memory = λ i. 0; latch = false; busy = x.busy }; kept = x.kept; accepted = [] }

abbrev pub act : Run → Act
act x = Command (Program x.address (1 ∷ []) false) (replicate 16 0) (λ past. x.wait)

abbrev pub later : Run → Now
later x = next script x.part (act x) (now x)

-- byte i after the run, and as replayed
abbrev pub found : Run → ℕ → ℕ × ℕ
found x i = ((later x).state.memory i, replay (later x).accepted (λ i. 0) i)

-- ---- the premises, but for number k of them
abbrev pub But : Bool → Type 0 → Type 0
But true A = Unit {0}
But false A = A

abbrev pub MeetsBut : ℕ → Run → Type 0
MeetsBut k x =
    Possible x.kept
    -- 1: idle at first
    × But (eqb k 1) (x.busy ≡ 0)
    -- 2: capacity set and equal
    × But (eqb k 2) (x.kept.settings.capacity ≡ Some x.part.capacity)
    -- 3: same address bytes
    × But (eqb k 3) (x.kept.settings.address_bytes ≡ x.part.addressed)
    -- 4: the driver's page divides the part's
    × But (eqb k 4) (Mult (page_of x.kept.settings) x.part.page)
    -- 5: every opcode of the driver's types erases exactly that size
    × But (eqb k 5) (Each (λ (t : EraseType). x.part.erases t.opcode ≡ some t.size) (types_of x.kept))
    -- 6: no erase opcode is one of the other commands
    × But (eqb k 6) ((op : ℕ) → other_command op ≡ true → x.part.erases op ≡ none)
    -- 7: the poll chosen is offered
    × But (eqb k 7) (by_flag x.kept ≡ true → x.part.flagged ≡ true)
    -- 8: ready within the poll limit
    × But (eqb k 8) (x.wait ≤ limit x.kept)

-- with none of them left out, they are those of demand 3
pub enough : (x : Run) → MeetsBut 0 x → Promises script x.part (λ i. 0) (now x) (act x ∷ [])
enough x h =
    demand3 x.part (now x).state x.kept (act x ∷ []) h.1 (λ i. omega arith) h.0 (
      record {
        fits = inl (record { capacity = h.2; addressed = h.3; page = h.4; types = h.5; apart = h.6; poll = h.7 });
        ready = λ past. h.8;
        bytes = bytes_data (Program x.address (1 ∷ []) false) (omega arith, tt);
      },
      tt,
    )

-- with one left out the memory is not as replayed
pub record Breaks (k : ℕ) (x : Run) : Type 0 where
  pub meets : MeetsBut k x
  pub breaks : Promises script x.part (λ i. 0) (now x) (act x ∷ []) → ⊥

differs : (x : Run) (i got wanted : ℕ) → i < x.part.capacity → found x i ≡ (got, wanted) → (got ≡ wanted → ⊥)
    → Promises script x.part (λ i. 0) (now x) (act x ∷ []) → ⊥
differs x i got wanted h e n q = n (sym (ap (λ (p : ℕ × ℕ). p.0) e) ∙ q.0.contents i h ∙ ap (λ (p : ℕ × ℕ). p.1) e)

-- ---- the runs
-- a part of so many bytes, with 1 address byte and pages of 4
abbrev pub part_of : ℕ → (ℕ → Option ℕ) → Part
part_of capacity erases =
    record { capacity = capacity; addressed = 1; page = 4; erases = erases; flagged = false; id = λ i. 255; sfdp = λ i. 255 }

-- one opcode erases so many bytes
abbrev pub one : ℕ → ℕ → ℕ → Option ℕ
one x size op = cond (eqb op x) (some size) none

-- settings: address bytes, the capacity if there is one, page size, erase size, erase opcode; 2 polls at most
abbrev pub settings_of : ℕ → Perhaps ℕ → ℕ → ℕ → ℕ → Settings
settings_of bytes capacity page size opcode = record {
  address_bytes = bytes;
  capacity = capacity;
  page_size = page;
  erase_size = size;
  erase_opcode = opcode;
  poll_limit = 2;
}

-- without parameters
abbrev pub bare : Settings → Kept
bare s = record { settings = s; known = false; params = no_params; room = [] }

abbrev pub plain : Kept
plain = bare (settings_of 1 (Some 16) 4 4 0x20)

-- the run that each of the others differs from in one thing
abbrev pub good : Run
good = record { part = part_of 16 (one 0x20 4); busy = 0; kept = plain; address = 5; wait = 2 }

-- 1: busy at first; the reads and the erase are ignored
abbrev pub not_idle : Run
not_idle = record { part = part_of 16 (one 0x20 4); busy = 1; kept = plain; address = 5; wait = 2 }

-- 2: no capacity, or another one; an address that the part does not have
abbrev pub not_set : Run
not_set = record { part = part_of 16 (one 0x20 4); busy = 0; kept = bare (settings_of 1 None 4 4 0x20); address = 21; wait = 2 }

abbrev pub other_capacity : Run
other_capacity = record { part = part_of 8 (one 0x20 4); busy = 0; kept = plain; address = 13; wait = 2 }

-- 3: other address bytes; the part takes the first of two for the address
abbrev pub other_address : Run
other_address = record { part = part_of 16 (one 0x20 4); busy = 0; kept = bare (settings_of 2 (Some 16) 4 4 0x20); address = 5; wait = 2 }

-- 4: a page of 8 does not divide one of 4; the write wraps
abbrev pub other_page : Run
other_page = record { part = part_of 16 (one 0x20 8); busy = 0; kept = bare (settings_of 1 (Some 16) 8 8 0x20); address = 5; wait = 2 }

-- 5: 20 erases 8 bytes, not 4; more than was read
abbrev pub other_size : Run
other_size = record { part = part_of 16 (one 0x20 8); busy = 0; kept = plain; address = 5; wait = 2 }

-- 6: an erase by 05, which is the poll, too; or the erase by 06, so that the latch is never set
abbrev pub poll_erases : Run
poll_erases = record { part = part_of 16 (λ op. cond (eqb op 0x05) (some 4) (one 0x20 4 op)); busy = 0; kept = plain; address = 5; wait = 2 }

abbrev pub enable_erases : Run
enable_erases = record { part = part_of 16 (one 0x06 4); busy = 0; kept = bare (settings_of 1 (Some 16) 4 4 0x06); address = 5; wait = 2 }

-- 7: parameters that ask for polls by 70, which is not offered; FF says ready while the part is busy
abbrev table : List ℕ
table = replicate 52 0 ++ (8 ∷ replicate 11 0)

abbrev pub other_poll : Run
other_poll = record {
  part = part_of 16 (one 0x20 4);
  busy = 0;
  kept = record { settings = settings_of 1 (Some 16) 4 4 0x20; known = true; params = params 5 16 table; room = [] };
  address = 5;
  wait = 2;
}

-- 8: busy for more polls than the limit; answer 9 after the erase
abbrev pub too_slow : Run
too_slow = record { part = part_of 16 (one 0x20 4); busy = 0; kept = plain; address = 5; wait = 3 }

-- ---- what they come to
computed : (found good 5 ≡ (1, 1)) × (found not_idle 5 ≡ (0, 1)) × (found not_set 5 ≡ (1, 0)) × (found other_capacity 5 ≡ (1, 0)) × (found other_address 5 ≡ (0, 1))
    × (found other_page 5 ≡ (255, 1)) × (found other_size 0 ≡ (255, 0)) × (found poll_erases 5 ≡ (255, 1)) × (found enable_erases 5 ≡ (0, 1))
    × (found other_poll 5 ≡ (255, 1)) × (found too_slow 5 ≡ (255, 1))
unfolding exec tally respond byte_at le32 ready polls after over each program accepted_range available all_zero usable_4k of_settings present kept plan plan_in next_pos entry_at chosen chosen_from beats cover block_base block_end span_start span_end by_flag page_delay page_of to_page_end parts_in parts blank written refused laid_over replay bytes_from joined address_in whole write_enable operate erased block_erase onward and_at programmed page_program read_memory status1 read_status read_flags unless_busy obeyed high_first wire params fields extended erase_type erase_types
computed = (refl, refl, refl, refl, refl, refl, refl, refl, refl, refl, refl)

-- ---- the other premises
-- settings within their limits, without parameters
bare_possible : (s : Settings) → Sound s → Possible (bare s)
bare_possible s h = record { sound = h; read = λ e. no_true e }

plain_sound : Sound (settings_of 1 (Some 16) 4 4 0x20)
plain_sound =
    record { address = (omega arith, omega arith); page = omega arith; erase = omega arith; polls = (omega arith, omega arith) }

-- an erase opcode that is none of the other commands
pub one_apart : (x size : ℕ) → other_command x ≡ false → (op : ℕ) → other_command op ≡ true → one x size op ≡ none
one_apart x size h op k = go (eqb op x) refl
  where
    go : (b : Bool) → eqb op x ≡ b → cond b (some size) none ≡ none
    go true e = no_true (sym h ∙ ap other_command (sym (eqb-true op x e)) ∙ k)
    go false e = refl

by_20 : (size op : ℕ) → other_command op ≡ true → one 0x20 size op ≡ none
unfolding other_command
by_20 size = one_apart 0x20 size refl

-- ---- the breaks
pub plainly : Possible plain
plainly = bare_possible plain.settings plain_sound

pub break_not_idle : Breaks 1 not_idle
unfolding available of_settings present kept page_of by_flag
break_not_idle = record {
  meets = (plainly, tt, refl, refl, record { q = 1; is = refl }, (refl, tt), by_20 4, λ e. no_true e, omega arith);
  breaks = differs not_idle 5 0 1 (omega arith) computed.1 (λ e. omega arith);
}

pub break_not_set : Breaks 2 not_set
unfolding available of_settings present kept page_of by_flag
break_not_set = record {
  meets = (bare_possible (settings_of 1 None 4 4 0x20) (record { address = (omega arith, omega arith); page = omega arith; erase = omega arith; polls = (omega arith, omega arith) }), refl, tt, refl, record { q = 1; is = refl }, (refl, tt), by_20 4, λ e. no_true e, omega arith);
  breaks = differs not_set 5 1 0 (omega arith) computed.2 (λ e. omega arith);
}

pub break_other_capacity : Breaks 2 other_capacity
unfolding available of_settings present kept page_of by_flag
break_other_capacity = record {
  meets = (plainly, refl, tt, refl, record { q = 1; is = refl }, (refl, tt), by_20 4, λ e. no_true e, omega arith);
  breaks = differs other_capacity 5 1 0 (omega arith) computed.3 (λ e. omega arith);
}

pub break_other_address : Breaks 3 other_address
unfolding available of_settings present kept page_of by_flag
break_other_address = record {
  meets = (bare_possible (settings_of 2 (Some 16) 4 4 0x20) (record { address = (omega arith, omega arith); page = omega arith; erase = omega arith; polls = (omega arith, omega arith) }), refl, refl, tt, record { q = 1; is = refl }, (refl, tt), by_20 4, λ e. no_true e, omega arith);
  breaks = differs other_address 5 0 1 (omega arith) computed.4 (λ e. omega arith);
}

pub break_other_page : Breaks 4 other_page
unfolding available of_settings present kept page_of by_flag
break_other_page = record {
  meets = (bare_possible (settings_of 1 (Some 16) 8 8 0x20) (record { address = (omega arith, omega arith); page = omega arith; erase = omega arith; polls = (omega arith, omega arith) }), refl, refl, refl, tt, (refl, tt), by_20 8, λ e. no_true e, omega arith);
  breaks = differs other_page 5 255 1 (omega arith) computed.5 (λ e. omega arith);
}

pub break_other_size : Breaks 5 other_size
unfolding available of_settings present kept page_of by_flag
break_other_size = record {
  meets = (plainly, refl, refl, refl, record { q = 1; is = refl }, tt, by_20 8, λ e. no_true e, omega arith);
  breaks = differs other_size 0 255 0 (omega arith) computed.6 (λ e. omega arith);
}

pub break_poll_erases : Breaks 6 poll_erases
unfolding available of_settings present kept page_of by_flag
break_poll_erases = record {
  meets = (plainly, refl, refl, refl, record { q = 1; is = refl }, (refl, tt), tt, λ e. no_true e, omega arith);
  breaks = differs poll_erases 5 255 1 (omega arith) computed.7 (λ e. omega arith);
}

pub break_enable_erases : Breaks 6 enable_erases
unfolding available of_settings present kept page_of by_flag
break_enable_erases = record {
  meets = (bare_possible (settings_of 1 (Some 16) 4 4 0x06) (record { address = (omega arith, omega arith); page = omega arith; erase = omega arith; polls = (omega arith, omega arith) }), refl, refl, refl, record { q = 1; is = refl }, (refl, tt), tt, λ e. no_true e, omega arith);
  breaks = differs enable_erases 5 0 1 (omega arith) computed.8 (λ e. omega arith);
}

pub break_other_poll : Breaks 7 other_poll
unfolding available of_settings present kept page_of by_flag all_zero usable_4k read_table accepted size_fits sizes_fit density_fits params fields extended erase_type erase_types byte_at le32
break_other_poll = record {
  meets = (record { sound = plain_sound; read = λ e. (5, 16, table, refl) }, refl, refl, refl, record { q = 1; is = refl }, (refl, tt), by_20 4, tt, omega arith);
  breaks = differs other_poll 5 255 1 (omega arith) computed.9 (λ e. omega arith);
}

pub break_too_slow : Breaks 8 too_slow
unfolding available of_settings present kept page_of by_flag
break_too_slow = record {
  meets = (plainly, refl, refl, refl, record { q = 1; is = refl }, (refl, tt), by_20 4, λ e. no_true e, tt);
  breaks = differs too_slow 5 255 1 (omega arith) computed.10 (λ e. omega arith);
}
