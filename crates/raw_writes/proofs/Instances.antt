-- The premises of the rules can be met: a session set to a part of 300 bytes, writes that overlap and cross a page, a program, an erase.
use Rattle.std.proofs.Common.{Some}
use mathlib.Core.Path.{◌≡◌, refl}
use mathlib.Core.Bool.{true, false}
use mathlib.Core.Logic.{inl, inr}
use mathlib.Core.List.{List, [], ◌∷◌, Permᴰ}
use mathlib.Core.Option.{Option, some, none}
use Prim.Native.Nat.{ℕ, ◌%◌, ◌≤◌, ◌<◌}
use native.Mathlib.Omega.{arith}
use native.Mathlib.Nat.{mod-lt}
use lib.ListN.{replicate}
use Rattle.dwords.specs.Dwords.{byte_at}
use Rattle.settings.specs.Limits.{page_of, within}
use Rattle.settings.specs.Ranges.{accepted_range}
use Rattle.erase_plan.specs.Good.{Each}
use Rattle.erase_plan.specs.Types.{kept, present}
use Rattle.erase_plan.specs.Plan.{block_base, block_end, cover, beats, chosen_from, chosen, entry_at, next_pos, next_of, plan_in, plan}
use Rattle.erase_plan.specs.Span.{span_start, span_end, survey_of}
use Rattle.erase_plan.proofs.Lists.{no_true, no_false}
use Rattle.plans.specs.Available.{of_settings, available}
use Rattle.commands.specs.Script.{over}
use Rattle.commands.specs.Wire.{high_first, wire}
use Rattle.commands.specs.Transactions.{by_flag, ready}
use Rattle.commands.specs.Commands.{blank}
use Rattle.commands.specs.Calls.{Call, Erase, Program, ProgramData}
use Rattle.commands.specs.Bounds.{pages}
use Rattle.commands.specs.Leaves.{refused}
use Rattle.room.specs.Room.{laid, part_of}
use Rattle.flash.specs.declared.Session.{Session}
use Rattle.phases.specs.Waits.{read_tx, block_tx, part_last, page_tx, write_tx, verify_tx, read_need, erase_need, write_need, poll_need, verify_need, need_of}
use Rattle.flash.specs.Waits.{entry_for, erase_tx, page_pause, flagged, poll_tx, waits_on, event_of, told}
use Rattle.phases.specs.Moves.{to_after, to_before, read_room, to_polls, last_written, next_erase, next_write, to_verify, after_write, still_busy, first_differs, judged, verify_on, room_after, is_ended}
use Rattle.flash.specs.Steps.{read_on, after_erase, after_polls, poll_on, advanced, counted, is_full, step_of}
use Rattle.flash.specs.Starts.{unless_runs, start_erase, begin_program, start_program, begin_data, start_program_data, fresh, with_settings, setting}
use Rattle.meaning.specs.Meaning.{kept_of}
use Rattle.packed.specs.Layout.{bytes_of}
use Rattle.rule.specs.Kept.{Whole}
use Rattle.nor_model.specs.Device.{State, bytes_from, joined, address_in, whole, write_enable, operate, erased, block_erase, onward, and_at, programmed, page_program, chip_erase, read_memory, status1, read_status, unless_busy, obeyed, respond}
use Rattle.nor_model.specs.Fits.{Fits, other_command}
use Rattle.nor_model.specs.Demand3.{AddressBytes, PageSize, EraseSize, Capacity, Possible}
use Rattle.nor_model.proofs.Breaks.{one_apart}
use Rattle.nor_model.proofs.Tables.{data_of, bytes_data}
use Rattle.nor_model.proofs.Instances.{odd}
use Rattle.on_part.specs.OnPart.{start_of, serve, Stand}
use Rattle.over_bytes.proofs.Through.{set_whole}
use Rattle.over_bytes.proofs.Keeping.{fresh_whole}
use Rattle.raw_writes.specs.RawWrites.{Raw, calls, Begins, refusal, Issued, AllIssued, carried, carried_packed, AllTyped, Same, anded, raw, Writes}
use Rattle.raw_writes.proofs.Rules.{raw_writes}

-- ---- 2 address bytes, 300 bytes of memory, pages of 10, blocks of 100
abbrev pub session : Session
session = with_settings fresh (record {
  address_bytes = 2;
  capacity = Some 300;
  page_size = 10;
  erase_size = 100;
  erase_opcode = 0x20;
  poll_limit = 65535;
})

abbrev pub state : State
state = record { memory = λ i. i % 251; latch = true; busy = 0 }

possible : Possible (kept_of session [])
possible =
    record {
      sound = record { address = (omega arith, omega arith); page = omega arith; erase = omega arith; polls = (omega arith, omega arith) };
      read = λ e. no_true e;
    }

pub begins : Begins odd state session
unfolding is_ended
begins =
    record {
      idle = refl;
      bytes = record { id = λ i. omega arith; sfdp = λ i. omega arith; memory = λ i. omega (arith, mod-lt i {m = 251} (omega arith)) };
      rests = refl;
      possible = possible;
    }

fits : (room : List ℕ) → Fits odd (kept_of session room)
unfolding page_of available of_settings present kept by_flag other_command
fits room =
    record { capacity = refl; addressed = refl; page = record { q = 2; is = refl }; types = (refl, tt); apart = one_apart 0x20 100 refl; poll = λ e. no_true e }

-- a command that is accepted, with so much room, and as many busy polls after each operation
issue : (c : Call) (room : List ℕ) (n : ℕ) → n ≤ 65535 → Each (λ (x : ℕ). x < 256) (data_of c) → refusal (start_of c session room).out.event ≡ false → Issued odd session c
issue c room n l d h =
    record { room = room; times = λ past. n; assumed = record { fits = inl (fits room); ready = λ past. l; bytes = bytes_data c d }; accepted = h }

-- ---- three writes: two that overlap, across a page; one with the first's address and length
abbrev pub w1 : Raw
w1 = raw 98 (0x0F ∷ 0xF0 ∷ 0x3C ∷ [])

abbrev pub w2 : Raw
w2 = raw 99 (0xAA ∷ 0x55 ∷ 0xFF ∷ [])

abbrev pub w3 : Raw
w3 = raw 98 (0xAA ∷ 0x55 ∷ 0xFF ∷ [])

pub one : Issued odd session (ProgramData 98 (0x0F ∷ 0xF0 ∷ 0x3C ∷ []))
unfolding accepted_range refused is_ended event_of told begin_data start_program_data
one = issue (ProgramData 98 (0x0F ∷ 0xF0 ∷ 0x3C ∷ [])) (replicate 3 0) 1 (omega arith) tt refl

pub two : Issued odd session (ProgramData 99 (0xAA ∷ 0x55 ∷ 0xFF ∷ []))
unfolding accepted_range refused is_ended event_of told begin_data start_program_data
two = issue (ProgramData 99 (0xAA ∷ 0x55 ∷ 0xFF ∷ [])) (replicate 5 7) 2 (omega arith) tt refl

pub three : Issued odd session (ProgramData 98 (0xAA ∷ 0x55 ∷ 0xFF ∷ []))
unfolding accepted_range refused is_ended event_of told begin_data start_program_data
three = issue (ProgramData 98 (0xAA ∷ 0x55 ∷ 0xFF ∷ [])) (replicate 3 0) 0 (omega arith) tt refl

pub program : Issued odd session (Program 95 (1 ∷ 2 ∷ 3 ∷ []) true)
unfolding accepted_range available of_settings present kept plan plan_in next_pos next_of entry_at chosen chosen_from beats cover block_base block_end span_start span_end survey_of refused is_ended event_of told to_before begin_program start_program
program = issue (Program 95 (1 ∷ 2 ∷ 3 ∷ []) true) (replicate 100 0) 3 (omega arith) (omega arith, (omega arith, (omega arith, tt))) refl

pub chip : Issued odd session Erase
unfolding refused is_ended event_of told unless_runs start_erase
chip = issue Erase [] 2 (omega arith) tt refl

-- ---- an instance of each rule, with writes before or behind
-- the first write twice, the second behind
pub odd_twice : Same odd state session (calls (w1 ∷ w1 ∷ w2 ∷ [])) (calls (w1 ∷ w2 ∷ [])) (one, (one, (two, tt))) (one, (two, tt))
odd_twice = (raw_writes.twice [] (w2 ∷ []) w1).same odd state session begins (one, (one, (two, tt))) (one, (two, tt))

-- the two that overlap, in either order, after the third
pub odd_order : Same odd state session (calls (w3 ∷ w1 ∷ w2 ∷ [])) (calls (w3 ∷ w2 ∷ w1 ∷ [])) (three, (one, (two, tt))) (three, (two, (one, tt)))
odd_order = (raw_writes.either_order (w3 ∷ []) [] w1 w2).same odd state session begins (three, (one, (two, tt))) (three, (two, (one, tt)))

-- all three, the last first
pub odd_any : Same odd state session (calls (w1 ∷ w2 ∷ w3 ∷ [])) (calls (w3 ∷ w1 ∷ w2 ∷ [])) (one, (two, (three, tt))) (three, (one, (two, tt)))
odd_any =
    (raw_writes.any_order (w1 ∷ w2 ∷ w3 ∷ []) (w3 ∷ w1 ∷ w2 ∷ []) turned).same odd state session begins (one, (two, (three, tt))) (three, (one, (two, tt)))
  where
    turned : Permᴰ (w1 ∷ w2 ∷ w3 ∷ []) (w3 ∷ w1 ∷ w2 ∷ [])
    turned = Permᴰ.trans (Permᴰ.cons refl (Permᴰ.swap refl refl)) (Permᴰ.swap refl refl)

-- the first and the third merged: what may be issued as two writes may be issued as one
abbrev both : AllIssued odd session (calls (w1 ∷ w3 ∷ []))
both = (one, (three, tt))

abbrev single : AllIssued odd session (calls (raw 98 (anded w1.bytes w3.bytes) ∷ []))
single = (raw_writes.merged [] [] 98 w1.bytes w3.bytes refl).issued odd session both

pub odd_merged : Same odd state session (calls (w1 ∷ w3 ∷ [])) (calls (raw 98 (anded w1.bytes w3.bytes) ∷ [])) both single
odd_merged = (raw_writes.merged [] [] 98 w1.bytes w3.bytes refl).same odd state session begins both single

-- a raw write and a program, then the chip erase, and a write behind it
abbrev two_writes : List Call
two_writes = ProgramData 98 w1.bytes ∷ Program 95 (1 ∷ 2 ∷ 3 ∷ []) true ∷ []

two_writes_lem : Each Writes two_writes
two_writes_lem = (inl (98, w1.bytes, refl), (inr (95, 1 ∷ 2 ∷ 3 ∷ [], true, refl), tt))

pub odd_erased : Same odd state session (ProgramData 98 w1.bytes ∷ Program 95 (1 ∷ 2 ∷ 3 ∷ []) true ∷ Erase ∷ calls (w2 ∷ [])) (Erase ∷ calls (w2 ∷ []))
    (one, (program, (chip, (two, tt)))) (chip, (two, tt))
odd_erased =
    (raw_writes.erased_after two_writes (w2 ∷ []) two_writes_lem).same odd state session begins (one, (program, (chip, (two, tt)))) (chip, (two, tt))

-- ---- through bytes: the session is one that the driver hands back, and all that is lent are bytes
session_whole : Whole session
unfolding setting unless_runs is_ended within
session_whole =
    set_whole (EraseSize 100) _ tt (set_whole (PageSize 10) _ tt (set_whole (Capacity 300) _ (omega arith) (set_whole (AddressBytes 2) fresh tt fresh_whole)))

order_typed : AllTyped odd session (calls (w3 ∷ w1 ∷ w2 ∷ [])) (three, (one, (two, tt)))
unfolding one two three issue
order_typed = (omega arith, omega arith, (omega arith, omega arith, (omega arith, omega arith, tt)))

pub odd_packed : (to : Stand)
    × (carried_packed odd session (calls (w3 ∷ w1 ∷ w2 ∷ [])) (three, (one, (two, tt))) (record { state = state; bytes = bytes_of session; accepted = [] })
    ≡ some (record { state = to.state; bytes = bytes_of to.session; accepted = to.accepted }))
odd_packed = (odd_order.one.to, (odd_order.one.packed session_whole order_typed).0)

-- ---- computed: the bytes that some of these scripts leave
abbrev pub found : Option Stand → ℕ → ℕ → List ℕ
found (some x) a n = bytes_from x.state.memory a n
found none a n = []

abbrev pub start : Stand
start = record { state = state; session = session; accepted = [] }

pub odd_ran : (found (carried odd session (calls (w1 ∷ w2 ∷ [])) (one, (two, tt)) start) 97 6 ≡ 97 ∷ 2 ∷ 32 ∷ 4 ∷ 101 ∷ 102 ∷ [])
    × (found (carried odd session (calls (w2 ∷ w1 ∷ [])) (two, (one, tt)) start) 97 6 ≡ 97 ∷ 2 ∷ 32 ∷ 4 ∷ 101 ∷ 102 ∷ [])
    × (found (carried odd session (calls (w1 ∷ w3 ∷ [])) both start) 97 6 ≡ 97 ∷ 2 ∷ 64 ∷ 36 ∷ 101 ∷ 102 ∷ [])
    × (found (carried odd session (Erase ∷ calls (w2 ∷ [])) (chip, (two, tt)) start) 97 6 ≡ 255 ∷ 255 ∷ 0xAA ∷ 0x55 ∷ 255 ∷ 255 ∷ [])
unfolding one two three chip issue byte_at ready accepted_range available of_settings present kept plan plan_in next_pos next_of entry_at chosen chosen_from beats cover block_base block_end span_start span_end survey_of by_flag page_of blank refused high_first wire pages laid over part_of read_tx entry_for block_tx erase_tx part_last page_pause page_tx write_tx flagged poll_tx verify_tx waits_on read_need erase_need write_need poll_need verify_need need_of event_of told to_after to_before read_on read_room to_polls last_written next_erase after_erase next_write to_verify after_write after_polls still_busy poll_on first_differs judged verify_on advanced room_after is_ended counted is_full step_of unless_runs start_erase begin_program start_program begin_data start_program_data bytes_from joined address_in whole write_enable operate erased block_erase onward and_at programmed page_program chip_erase read_memory status1 read_status unless_busy obeyed respond serve carried anded
odd_ran = (refl, refl, refl, refl)
