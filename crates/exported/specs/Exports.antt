-- The exports for C as a driver: what is held are the 256 bytes of a session, and what a call tells is read from its result and its
-- event record as include/moss_flash.h says.
use Rattle.std.specs.Prelude.{cond, ◌&&◌, List, [], ◌++◌, ℕ, ◌%◌, ◌≤◌, ◌^◌, eqb, length, take, drop, replicate}
use Rattle.commands.specs.declared.Answer.{Answer}
use Rattle.commands.specs.Answers.{number_of}
use Rattle.flash.specs.Waits.{told}
use Rattle.flash.specs.Steps.{step_of}
use Rattle.meaning.specs.Meaning.{kept_of}
use Rattle.packed.specs.Layout.{session_in}
use Rattle.on_part.specs.OnPart.{start_of, setter_of}
use Rattle.moss_flash.specs.Records.{low_first, number_a, number_b}
use Rattle.moss_flash.specs.Calls.{Called, called, took, unpack_of, opened_of, opened_start, new_of, set_called}
use Rattle.driver.specs.Driver.{Carried, Told, sends, answers, Back, Driver, Followed}

-- ---- the event record
-- n of its bytes from a place on as a number, the lowest first
abbrev pub number_at : ℕ → ℕ → List ℕ → ℕ
number_at at n e = low_first (take n (drop at e))

-- a transaction: head length at 1, head from 2 on, reply length at 8, the payload's place and length in the buffer at 16 and 24, delay
-- at 32, poll at 36
abbrev pub carried_in : List ℕ → List ℕ → Carried
carried_in e room = record {
  bytes = take (number_at 1 1 e) (drop 2 e) ++ take (number_at 24 8 e) (drop (number_at 16 8 e) room);
  reply = number_at 8 8 e;
  poll = eqb (number_at 36 1 e) 1;
  delay = number_at 32 4 e;
}

-- an answer: the call's result, kind at 0, the numbers a at 48 and b at 56; its polls at 40
pub record Numbers : Type 0 where
  pub result : ℕ
  pub kind : ℕ
  pub a : ℕ
  pub b : ℕ

-- 255 in both is a transaction
abbrev pub told_in : Called → Told Numbers
told_in y =
    cond (eqb y.number 255 && eqb (number_at 0 1 y.event) 255) (sends (carried_in y.event y.room))
    (answers (record { result = y.number; kind = number_at 0 1 y.event; a = number_at 48 8 y.event; b = number_at 56 8 y.event }) (number_at 40 8 y.event))

-- ---- what is to stand there: the transaction itself; of an answer its numbers, as wide as the record has them
abbrev pub in_numbers : Told Answer → Told Numbers
in_numbers (sends t) = sends t
in_numbers (answers x n) = answers (record { result = number_of x; kind = number_of x; a = number_a x % 2 ^ 64; b = number_b x % 2 ^ 64 }) (n % 2 ^ 64)

-- ---- the exports, as their promises say (`called` and `set_called` with these arguments are what the promises name), with an event
-- record e. The commands without data are only told the length of the room
abbrev pub back_in : Called → Back (List ℕ) Numbers
back_in y = record { held = y.session; told = told_in y; room = y.room }

abbrev pub exports : List ℕ → Driver Numbers
exports e = record {
  Held = List ℕ;
  fresh = (new_of (replicate 256 0)).session;
  start = λ c b room. back_in (called (opened_start b (length e)) b e room (λ s. start_of c s room));
  step = λ failed r b room. back_in (called (opened_of b (length e)) b e room (λ s. step_of s failed r room));
  -- a setter has no event record
  set = λ x b. let y = set_called (unpack_of b) b (λ s. setter_of x s) in
      record { held = y.session; told = answers (record { result = y.number; kind = y.number; a = 0; b = 0 }) 0; room = [] };
  -- moss_flash_event does not write the session
  again = λ b room. record { held = b; told = told_in (called (opened_of b (length e)) b e room (λ s. took (told s) room)); room = room };
  keeps = λ b. kept_of (session_in b) [];
}

-- THE EXPORTS FOLLOW THE SCRIPTS
abbrev pub FollowedByExports : Type 0
FollowedByExports = (e : List ℕ) → 64 ≤ length e → Followed in_numbers (exports e)
