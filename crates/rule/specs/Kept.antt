-- That the rule is kept: by a fresh session, and by whatever a start, a setter or a step hands back.
use Rattle.std.specs.Prelude.{ℕ, ◌<◌, ◌^◌, ◌≡◌, Bool, true, false, ◌||◌, List, eqb, Ok}
use Rattle.settings.specs.Limits.{Sound, set_address_bytes, set_page_size, set_erase_size, set_poll_limit, set_capacity, clear_capacity, set_erase_opcode}
use Rattle.commands.specs.declared.Answer.{Answer}
use Rattle.commands.specs.Answers.{number_of}
use Rattle.phases.specs.declared.Command.{Command}
use Rattle.phases.specs.declared.Phase.TheVariants.{Ended}
use Rattle.flash.specs.declared.Session.{Session}
use Rattle.flash.specs.Steps.{step_of}
use Rattle.flash.specs.Starts.{start_read, start_read_params, start_erase, start_erase_sectors, start_program, start_program_data, start_reset, start_read_jedec_id, start_is_busy, start_is_protected, fresh, setting}
use Rattle.meaning.specs.Meaning.{Bytes}
use Rattle.rule.specs.Rule.{rule_of}
use Rattle.packed.specs.Typed.{U8, U64, Typed}

-- a session that meets the rule
abbrev pub Ruled : Session → Type 0
Ruled s = rule_of s ≡ true

-- ---- what such a session is, in other words
-- the answers that only a start or a setter gives: a call that is refused with one leaves the session as it was
unfoldable pub is_refusal : Answer → Bool
is_refusal a =
    let n = number_of a in
    eqb n 5 || eqb n 6 || eqb n 7 || eqb n 10 || eqb n 11 || eqb n 13

pub record Meets (s : Session) : Type 0 where
  -- its settings are within their limits: no poll limit of 0 among others
  pub limits : Sound s.settings
  -- no refusal is its answer
  pub answers : (c : Command) (a : Answer) → s.phase ≡ Ended c a → is_refusal a ≡ false
  -- its polls are far from wrapping
  pub few : s.polls < 2 ^ 50

pub record Kept : Type 0 where
  pub begins : Ruled fresh
  -- the starts, refused or not, for all arguments and every length of the lent room
  pub reads : (s : Session) → Ruled s → (legacy : Bool) (a n room : ℕ) → Ruled (start_read s legacy a n room).session
  pub reads_params : (s : Session) → Ruled s → (room : ℕ) → Ruled (start_read_params s room).session
  pub erases : (s : Session) → Ruled s → Ruled (start_erase s).session
  pub erases_sectors : (s : Session) → Ruled s → (a n : ℕ) → Ruled (start_erase_sectors s a n).session
  pub programs : (s : Session) → Ruled s → (a : ℕ) (d : List ℕ) (v : Bool) (room : List ℕ) → Ruled (start_program s a d v room).out.session
  pub programs_data : (s : Session) → Ruled s → (a : ℕ) (d room : List ℕ) → Ruled (start_program_data s a d room).out.session
  pub resets : (s : Session) → Ruled s → Ruled (start_reset s).session
  pub reads_id : (s : Session) → Ruled s → Ruled (start_read_jedec_id s).session
  pub tells_busy : (s : Session) → Ruled s → Ruled (start_is_busy s).session
  pub tells_protected : (s : Session) → Ruled s → Ruled (start_is_protected s).session
  -- the setters, refused or not
  pub sets_address_bytes : (s : Session) → Ruled s → (n : ℕ) → Ruled (setting s (set_address_bytes s.settings n)).session
  pub sets_page_size : (s : Session) → Ruled s → (n : ℕ) → Ruled (setting s (set_page_size s.settings n)).session
  pub sets_erase_size : (s : Session) → Ruled s → (n : ℕ) → Ruled (setting s (set_erase_size s.settings n)).session
  pub sets_poll_limit : (s : Session) → Ruled s → (n : ℕ) → Ruled (setting s (set_poll_limit s.settings n)).session
  pub sets_capacity : (s : Session) → Ruled s → (n : ℕ) → Ruled (setting s (Ok (set_capacity s.settings n))).session
  pub clears_capacity : (s : Session) → Ruled s → Ruled (setting s (Ok (clear_capacity s.settings))).session
  pub sets_erase_opcode : (s : Session) → Ruled s → (n : ℕ) → Ruled (setting s (Ok (set_erase_opcode s.settings n))).session
  -- the step, for every reply of bytes, reported as failed or not, and every room
  pub steps : (s : Session) → Ruled s → (failed : Bool) (r room : List ℕ) → Bytes r → Ruled (step_of s failed r room).out.session

-- ---- the same of sessions whose numbers are within their widths besides. What a start is given may be of any width: a number
-- that stays in the session is part of an accepted range
pub record Whole (s : Session) : Type 0 where
  pub typed : Typed s
  pub ruled : Ruled s

pub record KeptWhole : Type 0 where
  pub begins : Whole fresh
  pub reads : (s : Session) → Whole s → (legacy : Bool) (a n room : ℕ) → Whole (start_read s legacy a n room).session
  pub reads_params : (s : Session) → Whole s → (room : ℕ) → Whole (start_read_params s room).session
  pub erases : (s : Session) → Whole s → Whole (start_erase s).session
  pub erases_sectors : (s : Session) → Whole s → (a n : ℕ) → Whole (start_erase_sectors s a n).session
  pub programs : (s : Session) → Whole s → (a : ℕ) (d : List ℕ) (v : Bool) (room : List ℕ) → Whole (start_program s a d v room).out.session
  pub programs_data : (s : Session) → Whole s → (a : ℕ) (d room : List ℕ) → Whole (start_program_data s a d room).out.session
  pub resets : (s : Session) → Whole s → Whole (start_reset s).session
  pub reads_id : (s : Session) → Whole s → Whole (start_read_jedec_id s).session
  pub tells_busy : (s : Session) → Whole s → Whole (start_is_busy s).session
  pub tells_protected : (s : Session) → Whole s → Whole (start_is_protected s).session
  -- the setters: a capacity of 64 bits, an opcode that is a byte; the other arguments are tested
  pub sets_address_bytes : (s : Session) → Whole s → (n : ℕ) → Whole (setting s (set_address_bytes s.settings n)).session
  pub sets_page_size : (s : Session) → Whole s → (n : ℕ) → Whole (setting s (set_page_size s.settings n)).session
  pub sets_erase_size : (s : Session) → Whole s → (n : ℕ) → Whole (setting s (set_erase_size s.settings n)).session
  pub sets_poll_limit : (s : Session) → Whole s → (n : ℕ) → Whole (setting s (set_poll_limit s.settings n)).session
  pub sets_capacity : (s : Session) → Whole s → (n : ℕ) → U64 n → Whole (setting s (Ok (set_capacity s.settings n))).session
  pub clears_capacity : (s : Session) → Whole s → Whole (setting s (Ok (clear_capacity s.settings))).session
  pub sets_erase_opcode : (s : Session) → Whole s → (n : ℕ) → U8 n → Whole (setting s (Ok (set_erase_opcode s.settings n))).session
  -- the step, for every reply of bytes and every room of bytes
  pub steps : (s : Session) → Whole s → (failed : Bool) (r room : List ℕ) → Bytes r → Bytes room → Whole (step_of s failed r room).out.session
