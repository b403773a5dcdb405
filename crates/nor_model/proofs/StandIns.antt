-- Drivers that demand 3 rules out: Done with nothing sent; only the first erase, or only the first page; the bytes before the data
-- restored at a wrong place.
use mathlib.Core.Path.{◌≡◌, refl, sym, ap, ◌∙◌}
use mathlib.Core.Bool.{Bool, false}
use mathlib.Core.Logic.{inl}
use mathlib.Core.List.{List, [], ◌∷◌}
use Prim.Native.Nat.{ℕ, ◌+◌, ◌-◌, ◌<◌}
use native.Mathlib.Omega.{arith}
use lib.Dec.{ltb}
use lib.ListN.{length, take, replicate}
use Rattle.dwords.specs.Dwords.{byte_at}
use Rattle.sfdp.specs.Jesd216.{accepted}
use Rattle.settings.specs.Limits.{page_of}
use Rattle.settings.specs.Ranges.{accepted_range}
use Rattle.erase_plan.specs.Types.{kept, present}
use Rattle.erase_plan.specs.Plan.{block_base, block_end, cover, beats, chosen_from, chosen, entry_at, next_pos, plan_in, plan}
use Rattle.erase_plan.specs.Span.{span_start, span_end}
use Rattle.erase_plan.proofs.Lists.{no_true}
use Rattle.plans.specs.Available.{of_settings, available}
use Rattle.commands.specs.Script.{Cmd, after, ◌>>=◌, ◌>>◌, give, when, over, store, each}
use Rattle.commands.specs.Script as Script
use Rattle.commands.specs.Wire.{high_first, wire}
use Rattle.commands.specs.Host.{tally}
use Rattle.commands.specs.Transactions.{page_delay, by_flag, ready, polls, to_page_end, parts_in, parts, write_part}
use Rattle.commands.specs.Commands.{blank, written, in_range, room_for, have_types, plan_of, erase_one, fetch, job_of, verify}
use Rattle.commands.specs.Calls.{Call, Read, LegacyRead, ReadParams, Erase, EraseSectors, Program, ProgramData, Reset, ReadJedecId, IsBusy, IsProtected, script}
use Rattle.commands.specs.Leaves.{refused}
use Rattle.commands.specs.declared.Answer.{Answer}
use Rattle.commands.specs.declared.Answer.TheVariants.{Done}
use Rattle.nor_model.specs.Device.{bytes_from, joined, address_in, whole, write_enable, operate, erased, block_erase, onward, and_at, programmed, page_program, read_memory, status1, read_status, unless_busy, obeyed, respond}
use Rattle.nor_model.specs.Fits.{other_command}
use Rattle.nor_model.specs.Replay.{laid_over, replay}
use Rattle.nor_model.specs.Runs.{exec}
use Rattle.nor_model.specs.Demand3.{Act, Command, Now, Assumed, next, Meets}
use Rattle.nor_model.proofs.Breaks.{part_of, one, one_apart, plain, plainly}
use Rattle.nor_model.proofs.Tables.{bytes_data}

-- a driver as the scripts say, but for program
abbrev pub but : (ℕ → List ℕ → Bool → Cmd Answer) → Call → Cmd Answer
but f (Read a n) = script (Read a n)
but f (LegacyRead a n) = script (LegacyRead a n)
but f ReadParams = script ReadParams
but f Erase = script Erase
but f (EraseSectors a n) = script (EraseSectors a n)
but f (Program a d v) = f a d v
but f (ProgramData a d) = script (ProgramData a d)
but f Reset = script Reset
but f ReadJedecId = script ReadJedecId
but f IsBusy = script IsBusy
but f IsProtected = script IsProtected

-- how many of the erases and of the page writes are made, and where the bytes before the data are stored
pub record Ways : Type 0 where
  pub erases : ℕ
  pub pages : ℕ
  pub place : ℕ

abbrev pub program_by : Ways → ℕ → List ℕ → Bool → Cmd Answer
program_by x a d v = do
  in_range a (length d)
  have_types
  w ← Script.kept
  let J = job_of w a (length d) v
  in_range J.base (J.last - J.base)
  room_for (J.last - J.base)
  store (J.from - J.base) d
  when (ltb J.base J.from) (fetch x.place J.base (J.from - J.base))
  when (ltb J.end J.last) (fetch (J.end - J.base) J.end (J.last - J.end))
  each erase_one (take x.erases (plan_of w a (a + length d)))
  w' ← Script.kept
  each (write_part J.base w'.room) (take x.pages (parts (page_of w.settings) J.base 0 (written (J.end - J.base) (J.last - J.base) w'.room)))
  when v (verify J.base (take (written (J.end - J.base) (J.last - J.base) w'.room) w'.room))
  give Done

-- 01 02 03 programmed at 3, across two blocks of 4 bytes, which are pages, on a part whose memory is 00 everywhere
abbrev now : Now
now = record { state = record { memory = λ i. 0; latch = false; busy = 0 }; kept = plain; accepted = [] }

abbrev act : Act
act = Command (Program 3 (1 ∷ 2 ∷ 3 ∷ []) false) (replicate 16 0) (λ past. 2)

-- byte i after it, and as replayed
abbrev pub found : (Call → Cmd Answer) → ℕ → ℕ × ℕ
found d i = ((next d (part_of 16 (one 0x20 4)) act now).state.memory i, replay (next d (part_of 16 (one 0x20 4)) act now).accepted (λ i. 0) i)

-- ---- the drivers
-- all of it: as it should be
abbrev pub entire : Call → Cmd Answer
entire = but (program_by (record { erases = 16; pages = 16; place = 0 }))

-- Done with nothing sent
abbrev pub nothing : Call → Cmd Answer
nothing = but (λ a d v. give Done)

-- only the first entry of the plan
abbrev pub first_erase : Call → Cmd Answer
first_erase = but (program_by (record { erases = 1; pages = 16; place = 0 }))

-- only the first page
abbrev pub first_page : Call → Cmd Answer
first_page = but (program_by (record { erases = 16; pages = 1; place = 0 }))

-- the bytes before the data one place further on
abbrev pub misplaced : Call → Cmd Answer
misplaced = but (program_by (record { erases = 16; pages = 16; place = 1 }))

computed : (found entire 4 ≡ (2, 2)) × (found nothing 3 ≡ (0, 1)) × (found first_erase 4 ≡ (0, 2)) × (found first_page 4 ≡ (255, 2)) × (found misplaced 3 ≡ (0, 1))
unfolding exec tally respond byte_at ready polls after over each accepted_range available of_settings present kept plan plan_in next_pos entry_at chosen chosen_from beats cover block_base block_end span_start span_end by_flag page_delay page_of to_page_end parts_in parts blank written refused laid_over replay bytes_from joined address_in whole write_enable operate erased block_erase onward and_at programmed page_program read_memory status1 read_status unless_busy obeyed high_first wire
computed = (refl, refl, refl, refl, refl)

-- ---- they do not meet the demand: the premises hold, and a byte is not as replayed
assumed : Assumed (part_of 16 (one 0x20 4)) plain (Program 3 (1 ∷ 2 ∷ 3 ∷ []) false) (λ past. 2)
unfolding available of_settings present kept page_of by_flag other_command
assumed = record {
  fits = inl (record {
    capacity = refl;
    addressed = refl;
    page = record { q = 1; is = refl };
    types = (refl, tt);
    apart = one_apart 0x20 4 refl;
    poll = λ e. no_true e;
  });
  ready = λ past. omega arith;
  bytes = bytes_data (Program 3 (1 ∷ 2 ∷ 3 ∷ []) false) (omega arith, (omega arith, (omega arith, tt)));
}

ruled_out : (d : Call → Cmd Answer) (i got wanted : ℕ) → i < 16 → found d i ≡ (got, wanted) → (got ≡ wanted → ⊥) → Meets d → ⊥
ruled_out d i got wanted h e n q =
    n (sym (ap (λ (x : ℕ × ℕ). x.0) e)
    ∙ (q (part_of 16 (one 0x20 4)) now.state plain (act ∷ []) refl (λ i. omega arith) plainly (assumed, tt)).0.contents i h
    ∙ ap (λ (x : ℕ × ℕ). x.1) e)

pub not_nothing : Meets nothing → ⊥
not_nothing = ruled_out nothing 3 0 1 (omega arith) computed.1 (λ e. omega arith)

pub not_first_erase : Meets first_erase → ⊥
not_first_erase = ruled_out first_erase 4 0 2 (omega arith) computed.2 (λ e. omega arith)

pub not_first_page : Meets first_page → ⊥
not_first_page = ruled_out first_page 4 255 2 (omega arith) computed.3 (λ e. omega arith)

pub not_misplaced : Meets misplaced → ⊥
not_misplaced = ruled_out misplaced 3 0 1 (omega arith) computed.4 (λ e. omega arith)
