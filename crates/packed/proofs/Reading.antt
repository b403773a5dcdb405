-- Whatever bytes are read, the session has the widths of its types.
use Rattle.std.proofs.Common.{Some, None, unwrap_or, cond}
use Prim.Native.Nat.{ℕ, zero, suc, ◌+◌, ◌/◌, ◌%◌, ◌<◌}
use native.Mathlib.Omega.{arith}
use mathlib.Core.Path.{◌≡◌}
use mathlib.Core.Bool.{Bool, true, false, cond}
use mathlib.Core.List.{List, [], ◌∷◌}
use lib.ListN.{get_or, drop}
use lib.Seq.{get_or-drop}
use Rattle.sfdp.specs.Jesd216.{no_params, fields, density, erase_types, erase_type, timing, raw_times}
use Rattle.sfdp.specs.declared.FlashParams.{FlashParams}
use Rattle.erase_plan.specs.Good.{Each}
use Rattle.commands.specs.declared.Answer.TheVariants as Answers
use Rattle.phases.specs.declared.ReadCommand.TheVariants as Reads
use Rattle.phases.specs.declared.EraseCommand.TheVariants as Erases
use Rattle.phases.specs.declared.WriteCommand.TheVariants as Writes
use Rattle.phases.specs.declared.VerifyCommand.TheVariants as Verifies
use Rattle.phases.specs.declared.Command.TheVariants as Commands
use Rattle.phases.specs.declared.Phase.TheVariants.{Ended}
use Rattle.packed.specs.declared.Reported.{Reported}
use Rattle.packed.specs.declared.Slots.{Slots}
use Rattle.packed.specs.declared.Place.{Place}
use Rattle.packed.specs.Numbers.{byte0, high_half, wide_of, words}
use Rattle.packed.specs.Phases.{read_in, erase_in, write_in, verify_in, answer_in, command_in, numbers_in, phase_in, read_cases, erase_cases, write_cases, verify_cases, command_cases, answer_cases, phase_cases}
use Rattle.packed.specs.Layout.{settings_in, inst_in, insts_in, timing_in, raw_in, params_in, known_in, params_or_none, job_in, place_in, from_words, session_in}
use Rattle.packed.specs.Typed.{U8, U16, U32, U64, TypedSettings, TypedInst, TypedInsts, TypedTiming, TypedRaw, TypedParams, TypedRead, TypedErase, TypedWrite, TypedVerify, TypedCommand, TypedAnswer, TypedPhase, Typed}
use Rattle.packed.proofs.Places.{word_fits, none8, none32, none64, inst_none, FitsSlots, FitsPlace}

-- ---- numbers
is_byte : (x : ℕ) → U8 (x % 256)
is_byte x = omega arith

is_half : (x : ℕ) → U16 (x % 65536)
is_half x = omega arith

high_half_lem : (x : ℕ) → U32 x → U16 (high_half x)
high_half_lem x h = omega arith

is_wide : (l h : ℕ) → U32 l → U32 h → U64 (wide_of l h)
is_wide l h hl hh = omega arith

-- ---- what a list holds at a place, if all of it and the rest have it
chosen : {A : Type 0} (P : A → Type 0) (l : List A) (d : A) → Each P l → P d → (n : ℕ) → P (get_or l n d)
chosen P [] d t h n = h
chosen P (x ∷ l) d t h zero = t.0
chosen P (x ∷ l) d t h (suc n) = chosen P l d t.1 h n

-- ---- words
words_typed : (n : ℕ) (b : List ℕ) → ((i : ℕ) → get_or b i 0 < 256) → (i : ℕ) → U32 (get_or (words n b) i 0)
unfolding words
words_typed zero b f i = omega arith
words_typed (suc n) b f zero = word_fits (get_or b 0 0) (get_or b 1 0) (get_or b 2 0) (get_or b 3 0) (f 0) (f 1) (f 2) (f 3)
words_typed (suc n) b f (suc i) = words_typed n (drop 4 b) (λ k. rw (get_or-drop 4 b k 0) (f (4 + k))) i

-- ---- commands and answers
read_typed : (s : Slots) → FitsSlots s → TypedRead (read_in s)
unfolding read_in
read_typed s h =
    chosen TypedRead (read_cases s) Reads.Protected
    ((h.a, is_wide s.b s.c h.b h.c), (tt, (is_byte s.a, ((is_byte s.a, is_byte s.b, h.c), (h.job, (h.job, (tt, (tt, tt))))))))
    tt
    s.command

erase_typed : (s : Slots) → FitsSlots s → TypedErase (erase_in s)
unfolding erase_in
erase_typed s h = chosen TypedErase (erase_cases s) (Erases.Program s.job s.a) (tt, ((h.a, h.b), tt)) (h.job, h.a) s.command

write_typed : (s : Slots) → FitsSlots s → TypedWrite (write_in s)
unfolding write_in
write_typed s h = chosen TypedWrite (write_cases s) (Writes.Data s.a s.b s.c) ((h.job, h.a, h.b), tt) (h.a, h.b, h.c) s.command

verify_typed : (s : Slots) → FitsSlots s → TypedVerify (verify_in s)
unfolding verify_in
verify_typed s h =
    chosen TypedVerify (verify_cases s) (Verifies.Tell s.job (record { address = s.a; wrote = byte0 s.b; read = byte0 s.c })) ((h.job, h.a), tt) (h.job, record { address = h.a; wrote = is_byte s.b; read = is_byte s.c }) s.command

command_typed : (s : Slots) → FitsSlots s → TypedCommand (command_in s)
unfolding command_in
command_typed s h = chosen TypedCommand (command_cases s) (Commands.Program s.job s.flag) (tt, tt) h.job s.command

answer_typed : (n : Reported) → U32 n.a → U32 n.b → U32 n.c → TypedAnswer (answer_in n)
unfolding answer_in
answer_typed n ha hb hc =
    chosen TypedAnswer (answer_cases n) Answers.BadSession (
      tt,
      (
        tt,
        (
          (is_byte n.a, is_byte n.b, is_half n.c),
          (
            (ha, is_byte n.b, is_byte n.c),
            (tt, (tt, (tt, (ha, (tt, (tt, (tt, (tt, (tt, (is_wide n.a n.b ha hb, (tt, tt))))))))))),
          ),
        ),
      ),
    )
    tt
    n.answer

phase_typed : (p : Place) → FitsPlace p → TypedPhase (phase_in p)
unfolding phase_in
phase_typed p h =
    let s = p.slots in
    let e = erase_typed s h.slots in
    let w = write_typed s h.slots in
    chosen TypedPhase (phase_cases p) (Ended (command_in s) (answer_in (numbers_in p)))
    (read_typed s h.slots, (e, (w, ((tt, h.left), ((e, h.left), ((w, h.left), (verify_typed s h.slots, (tt, tt))))))))
    (command_typed s h.slots, answer_typed (numbers_in p) h.slots.a h.slots.b h.slots.c)
    p.phase

capacity_typed : (b : Bool) (n : ℕ) → U64 n → U64 (unwrap_or (cond b (Some n) None) 0)
capacity_typed true n h = h
capacity_typed false n h = omega arith

-- ---- the parts
module _ (w : List ℕ) (f : (i : ℕ) → U32 (get_or w i 0)) where
  settings_typed : TypedSettings (settings_in w)
  unfolding settings_in
  settings_typed = record {
    address_bytes = is_byte (get_or w 0 0 / 256 / 256);
    capacity = capacity_typed _ _ (is_wide (get_or w 1 0) (get_or w 2 0) (f 1) (f 2));
    page_size = f 3;
    erase_size = f 4;
    erase_opcode = is_byte (get_or w 5 0);
    poll_limit = high_half_lem (get_or w 5 0) (f 5);
  }

  inst_typed : (i : ℕ) → TypedInst (inst_in w i)
  unfolding inst_in
  inst_typed i = record {
    opcode = is_byte (get_or w i 0);
    size = f (i + 1);
    time_typ = f (i + 2);
    time_max = is_wide (get_or w (i + 3) 0) (get_or w (i + 4) 0) (f (i + 3)) (f (i + 4));
    time_raw = is_byte (get_or w i 0 / 256 / 256);
  }

  insts_typed : TypedInsts (insts_in w)
  unfolding insts_in
  insts_typed = record { inst1 = inst_typed 15; inst2 = inst_typed 20; inst3 = inst_typed 25; inst4 = inst_typed 30 }

  timing_typed : TypedTiming (timing_in w)
  unfolding timing_in
  timing_typed = record {
    chip_erase_time_typ = f 35;
    chip_erase_time_max = is_wide (get_or w 36 0) (get_or w 37 0) (f 36) (f 37);
    first_byte_prog_time_typ = f 38;
    first_byte_prog_time_max = is_wide (get_or w 39 0) (get_or w 40 0) (f 39) (f 40);
    succ_byte_prog_time_typ = f 41;
    succ_byte_prog_time_max = is_wide (get_or w 42 0) (get_or w 43 0) (f 42) (f 43);
    page_prog_time_typ = f 44;
    page_prog_time_max = is_wide (get_or w 45 0) (get_or w 46 0) (f 45) (f 46);
  }

  raw_typed : TypedRaw (raw_in w)
  unfolding raw_in
  raw_typed = record {
    erase_multiplier = is_byte (get_or w 13 0);
    prog_multiplier = is_byte (get_or w 13 0 / 256);
    chip_erase = is_byte (get_or w 13 0 / 256 / 256);
    first_byte_prog = is_byte (get_or w 13 0 / 256 / 256 / 256);
    succ_byte_prog = is_byte (get_or w 14 0);
    page_prog = is_byte (get_or w 14 0 / 256);
  }

  params_typed : TypedParams (params_in w)
  unfolding params_in
  params_typed = record {
    version_major = is_byte (get_or w 6 0);
    version_minor = is_byte (get_or w 6 0 / 256);
    density = is_wide (get_or w 7 0) (get_or w 8 0) (f 7) (f 8);
    legacy_4kb_erase_inst = is_byte (get_or w 9 0 / 256);
    legacy_volatile_write_en_inst = is_byte (get_or w 9 0 / 256 / 256);
    erase_insts = insts_typed;
    timing = timing_typed;
    raw = raw_typed;
    page_size = f 12;
  }

  place_typed : FitsPlace (place_in w)
  unfolding place_in job_in
  place_typed = record {
    phase = is_byte (get_or w 49 0);
    answer = is_byte (get_or w 49 0 / 256 / 256);
    left = is_half (get_or w 50 0);
    slots = record {
      command = is_byte (get_or w 49 0 / 256);
      job = record { from = f 51; last = f 52; base = f 53; top = f 54 };
      a = f 55;
      b = f 56;
      c = f 57;
    };
  }

-- ---- no parameters
pub none_typed : TypedParams no_params
unfolding fields density erase_types erase_type timing raw_times
none_typed = record {
  version_major = omega arith;
  version_minor = none8;
  density = omega arith;
  legacy_4kb_erase_inst = none8;
  legacy_volatile_write_en_inst = omega arith;
  erase_insts = record { inst1 = inst_none; inst2 = inst_none; inst3 = inst_none; inst4 = inst_none };
  timing = record {
    chip_erase_time_typ = none32;
    chip_erase_time_max = none64;
    first_byte_prog_time_typ = none32;
    first_byte_prog_time_max = none64;
    succ_byte_prog_time_typ = none32;
    succ_byte_prog_time_max = none64;
    page_prog_time_typ = none32;
    page_prog_time_max = none64;
  };
  raw = record {
    erase_multiplier = none8;
    prog_multiplier = none8;
    chip_erase = none8;
    first_byte_prog = none8;
    succ_byte_prog = none8;
    page_prog = none8;
  };
  page_size = none32;
}

or_none_typed : (k : Bool) (p : FlashParams) → TypedParams p → TypedParams (cond k p no_params)
or_none_typed true p t = t
or_none_typed false p t = none_typed

or_none_none : (k : Bool) (p : FlashParams) → k ≡ false → cond k p no_params ≡ no_params
or_none_none k p e = rw e

-- ---- the session
from_words_typed : (w : List ℕ) → ((i : ℕ) → U32 (get_or w i 0)) → Typed (from_words w)
unfolding from_words params_or_none
from_words_typed w f = record {
  settings = settings_typed w f;
  params = or_none_typed (known_in w) (params_in w) (params_typed w f);
  none = or_none_none (known_in w) (params_in w);
  phase = phase_typed (place_in w) (place_typed w f);
  polls = is_wide (get_or w 47 0) (get_or w 48 0) (f 47) (f 48);
}

pub session_typed : (b : List ℕ) → ((i : ℕ) → get_or b i 0 < 256) → Typed (session_in b)
session_typed b f = from_words_typed (words 64 b) (words_typed 64 b f)
