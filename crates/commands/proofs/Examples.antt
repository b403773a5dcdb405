-- Worked runs, computed by the definitions. The first is that of docs/SCOPE.md.
use Rattle.std.proofs.Common.{Some}
use mathlib.Core.Path.{◌≡◌, refl}
use mathlib.Core.Bool.{true, false}
use mathlib.Core.List.{List, [], ◌∷◌}
use mathlib.Core.Option.{Option, some, none}
use Prim.Native.Nat.{ℕ}
use lib.ListN.{replicate}
use Rattle.dwords.specs.Dwords.{byte_at}
use Rattle.sfdp.specs.declared.FlashParams.{FlashParams}
use Rattle.settings.specs.declared.Settings.{Settings}
use Rattle.settings.specs.Limits.{page_of}
use Rattle.settings.specs.Ranges.{accepted_range}
use Rattle.erase_plan.specs.Types.{kept, present}
use Rattle.erase_plan.specs.Plan.{block_base, block_end, cover, beats, chosen_from, chosen, entry_at, next_pos, plan_in, plan}
use Rattle.erase_plan.specs.Span.{span_start, span_end}
use Rattle.plans.specs.Available.{of_settings, available}
use Rattle.commands.specs.declared.Answer.{Answer}
use Rattle.commands.specs.declared.Answer.TheVariants.{Done, DoneBool, ReadbackError, NoRoom}
use Rattle.commands.specs.Script.{Sent, Kept, Script, after, roomed, over, each}
use Rattle.commands.specs.Host.{Reply, failed, got, Outcome, full, tally, tree, play, polls_in}
use Rattle.commands.specs.Transactions.{plain, at, fast_read, page_delay, by_flag, ready, polls, to_page_end, parts_in, parts}
use Rattle.commands.specs.Commands.{blank, mismatch, written, job_of, program, is_busy, is_protected}
use Rattle.commands.specs.Leaves.{fetched, gathered, LeftByProgram}
use Rattle.commands.specs.Wire.{high_first, wire}

-- erase size 256, opcode 20, page 256, capacity 1,024, 3 address bytes
abbrev pub settings : Settings
settings = record {
  address_bytes = 3;
  capacity = Some 1024;
  page_size = 256;
  erase_size = 256;
  erase_opcode = 0x20;
  poll_limit = 65535;
}

-- no parameters: what stands in their place is never looked at
abbrev pub started : FlashParams → Kept
started p = record { settings = settings; known = false; params = p; room = replicate 256 0 }

-- a poll by status 1; a page part
abbrev pub poll1 : Sent
poll1 = record { opcode = 0x05; addressed = 0; address = 0; dummy = false; payload = []; reply = 1; poll = true; delay = 0 }

abbrev pub part : ℕ → List ℕ → Sent
part a bytes = record { opcode = 0x02; addressed = 3; address = a; dummy = false; payload = bytes; reply = 0; poll = false; delay = 0 }

-- what a host with these replies sends, and its outcome
abbrev pub Ran : Script Answer → List Reply → List Sent → Outcome → Type 0
Ran c rs sent o = (polls_in (play (tree 0 c) rs).0 ≡ o.polls) × ((play (tree 0 c) rs).0 ≡ sent) × ((play (tree 0 c) rs).1 ≡ some o)

-- an outcome that leaves this room
abbrev pub outcome : Kept → Answer → ℕ → List ℕ → Outcome
outcome w a n room = record { answer = a; polls = n; kept = roomed w room }

-- the bytes and the reply length of each
abbrev pub on_wire : List Sent → List (List ℕ × ℕ)
on_wire [] = []
on_wire (s ∷ ss) = (wire s, s.reply) ∷ on_wire ss

-- ---- 01 02 programmed at 000100 without verify, all bytes FF, ready at once: Done, 2 polls
abbrev pub replies : List Reply
replies = got (replicate 254 0xFF) ∷ got [] ∷ got [] ∷ got (0 ∷ []) ∷ got [] ∷ got [] ∷ got (0 ∷ []) ∷ []

abbrev pub list : List Sent
list = fast_read settings 0x102 254 ∷ plain 0x06 0 ∷ at 0x20 3 0x100 false 0 ∷ poll1 ∷ plain 0x06 0 ∷ part 0x100 (1 ∷ 2 ∷ []) ∷ poll1 ∷ []

pub run : (p : FlashParams)
    → Ran (program 0x100 (1 ∷ 2 ∷ []) false (started p)) replies list (outcome (started p) Done 2 (1 ∷ 2 ∷ replicate 254 0xFF))
unfolding tree play full tally polls_in after over each program accepted_range available of_settings present kept plan plan_in next_pos entry_at chosen chosen_from beats cover block_base block_end span_start span_end by_flag ready polls byte_at page_delay page_of to_page_end parts_in parts blank written
run p = (refl, refl, refl)

-- the whole list as docs/SCOPE.md prints it
pub run_wire : on_wire list
    ≡ (0x0B ∷ 0x00 ∷ 0x01 ∷ 0x02 ∷ 0x00 ∷ [], 254)
    ∷ (0x06 ∷ [], 0)
    ∷ (0x20 ∷ 0x00 ∷ 0x01 ∷ 0x00 ∷ [], 0)
    ∷ (0x05 ∷ [], 1)
    ∷ (0x06 ∷ [], 0)
    ∷ (0x02 ∷ 0x00 ∷ 0x01 ∷ 0x00 ∷ 0x01 ∷ 0x02 ∷ [], 0)
    ∷ (0x05 ∷ [], 1)
    ∷ []
unfolding high_first wire
run_wire = refl

-- ---- 02 programmed at 000101 with verify, a 07 before it; the first poll says busy; 03 is read back. The 05 read after the mismatch
-- is no poll
abbrev pub replies' : List Reply
replies' =
    got (7 ∷ [])
    ∷ got (replicate 254 0xFF)
    ∷ got []
    ∷ got []
    ∷ got (1 ∷ [])
    ∷ got (0 ∷ [])
    ∷ got []
    ∷ got []
    ∷ got (0 ∷ [])
    ∷ got (7 ∷ 3 ∷ [])
    ∷ got (0 ∷ [])
    ∷ []

abbrev pub list' : List Sent
list' =
    fast_read settings 0x100 1
    ∷ fast_read settings 0x102 254
    ∷ plain 0x06 0
    ∷ at 0x20 3 0x100 false 0
    ∷ poll1
    ∷ poll1
    ∷ plain 0x06 0
    ∷ part 0x100 (7 ∷ 2 ∷ [])
    ∷ poll1
    ∷ fast_read settings 0x100 2
    ∷ plain 0x05 1
    ∷ []

pub run' : (p : FlashParams)
    → Ran (program 0x101 (2 ∷ []) true (started p)) replies' list' (outcome (started p) (ReadbackError 0x101 2 3) 3 (7 ∷ 2 ∷ replicate 254 0xFF))
unfolding tree play full tally polls_in after over each program accepted_range available of_settings present kept plan plan_in next_pos entry_at chosen chosen_from beats cover block_base block_end span_start span_end by_flag ready polls byte_at page_delay page_of to_page_end parts_in parts blank written mismatch
run' p = (refl, refl, refl)

-- ---- the same, but the read after the data fails: 8, and the 07 is in the room. `ProgramLeaves` at this run, computed
abbrev pub replies'' : List Reply
replies'' = got (7 ∷ []) ∷ failed ∷ []

abbrev pub came_to : Outcome → Option Outcome → Outcome
came_to o none = o
came_to o (some o') = o'

pub run'' : (p : FlashParams) (o : Outcome)
    → LeftByProgram (job_of (started p) 0x101 1 true) (2 ∷ []) (started p).room replies'' (play (tree 0 (program 0x101 (2 ∷ []) true (started p))) replies'').0
    (came_to o (play (tree 0 (program 0x101 (2 ∷ []) true (started p))) replies'').1)
unfolding tree play full tally after over each program accepted_range available of_settings present kept plan plan_in next_pos entry_at chosen chosen_from beats cover block_base block_end span_start span_end fetched gathered
run'' p o = record { room = refl; broken = λ _. (refl, (refl, (refl, tt))); holds = refl }

-- ---- room for 255 bytes: 11 with the need, nothing sent, the room as it was
abbrev pub short : FlashParams → Kept
short p = roomed (started p) (replicate 255 0)

pub run_short : (p : FlashParams) → Ran (program 0x100 (1 ∷ 2 ∷ []) false (short p)) [] [] (outcome (short p) (NoRoom 256) 0 (replicate 255 0))
unfolding tree play full tally polls_in after over each program accepted_range available of_settings present kept plan plan_in next_pos entry_at chosen chosen_from beats cover block_base block_end span_start span_end by_flag ready polls byte_at page_delay page_of to_page_end parts_in parts blank written
run_short p = (refl, refl, refl)

-- ---- is_busy is a poll, is_protected is none
pub run_busy : (p : FlashParams) → Ran (is_busy (started p)) (got (1 ∷ []) ∷ []) (poll1 ∷ []) (outcome (started p) (DoneBool true) 1 (replicate 256 0))
unfolding tree play full tally polls_in after by_flag ready byte_at is_busy
run_busy p = (refl, refl, refl)

pub run_protected : (p : FlashParams) → Ran (is_protected (started p)) (got (4 ∷ []) ∷ []) (plain 0x05 1 ∷ []) (outcome (started p) (DoneBool true) 0 (replicate 256 0))
unfolding tree play full tally polls_in after byte_at is_protected
run_protected p = (refl, refl, refl)
