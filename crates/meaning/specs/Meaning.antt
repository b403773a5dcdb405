-- What the host is promised: that by starts and steps it carries out the scripts of the commands.
use Rattle.std.specs.Prelude.{ℕ, ◌-◌, ◌<◌, ◌^◌, ◌≡◌, Bool, true, false, List, [], ◌∷◌, length}
use Rattle.std.proofs.Math.Option.{Option, some, none}
use Rattle.dwords.specs.Dwords.{byte_at}
use Rattle.commands.specs.declared.Answer.{Answer}
use Rattle.commands.specs.Script.{Sent, Kept, Script, each}
use Rattle.commands.specs.Host.{Reply, failed, got, Outcome, tree, play}
use Rattle.commands.specs.Transactions.{polls}
use Rattle.commands.specs.Commands.{read, legacy_read, read_params, erase, erase_sectors, program, program_data, reset, read_jedec_id, is_busy, is_protected}
use Rattle.room.specs.Room.{part_of}
use Rattle.flash.specs.declared.Session.{Session}
use Rattle.phases.specs.declared.Transaction.{Transaction}
use Rattle.flash.specs.declared.Event.TheVariants.{Send, Answered}
use Rattle.flash.specs.declared.Stepped.{Stepped}
use Rattle.erase_plan.specs.Good.{Each}
use Rattle.phases.specs.Moves.{is_ended}
use Rattle.flash.specs.Steps.{Taken, step_of}
use Rattle.flash.specs.Starts.{start_read, start_read_params, start_erase, start_erase_sectors, start_program, start_program_data, start_reset, start_read_jedec_id, start_is_busy, start_is_protected}

-- a session and the lent room as what a script keeps
abbrev pub kept_of : Session → List ℕ → Kept
kept_of s room = record { settings = s.settings; known = s.known; params = s.params; room = room }

-- a transaction as the host carries it out: its payload is a part of the room
abbrev pub sent_of : Transaction → List ℕ → Sent
sent_of t room = record { opcode = t.opcode; addressed = t.addressed; address = t.address; dummy = t.dummy; payload = part_of room t.from t.len; reply = t.reply; poll = t.poll; delay = t.delay }

-- a reply as the step takes it: whether the host reports a failure, and the bytes
abbrev pub is_failed : Reply → Bool
is_failed failed = true
is_failed (got bytes) = false

abbrev pub bytes_in : Reply → List ℕ
bytes_in failed = []
bytes_in (got bytes) = bytes

abbrev pub takes : Session → Reply → List ℕ → Taken
takes s r room = step_of s (is_failed r) (bytes_in r) room

-- bytes are below 256
pub record Bytes (l : List ℕ) : Type 0 where
  pub below : (i : ℕ) → byte_at l i < 256

-- ---- a host that goes by the events: it sends each transaction, and gives each reply to the step
unfoldable pub follow : Stepped → List ℕ → List Reply → List Sent × Option Outcome
follow x room [] =
    elim x.event [ Answered a n ↦ ([], some (record { answer = a; polls = n; kept = kept_of x.session room })) | Send t ↦ (sent_of t room ∷ [], none) ]
follow x room (r ∷ rs) =
    elim x.event [
      | Answered a n ↦ ([], some (record { answer = a; polls = n; kept = kept_of x.session room }))
      | Send t ↦ (
        sent_of t room ∷ (follow (takes x.session r room).out (takes x.session r room).room rs).0,
        (follow (takes x.session r room).out (takes x.session r room).room rs).1,
      )
    ]

-- THE HOST, for every command: `c` is its script, x and room what its start gave. For all replies it sends the script's
-- transactions, and comes to the script's outcome
abbrev pub Follows : Stepped → List ℕ → Script Answer → Type 0
Follows x room c = (rs : List Reply) → Each (λ (r : Reply). Bytes (bytes_in r)) rs → length rs < 2 ^ 63 → follow x room rs ≡ play (tree 0 c) rs

-- a session between commands: it has an answer
abbrev pub Idle : Session → Type 0
Idle s = is_ended s.phase ≡ true

pub record Promised : Type 0 where
  pub reads : (s : Session) (a n : ℕ) (room : List ℕ) → Idle s → Follows (start_read s false a n (length room)) room (read a n (kept_of s room))
  pub legacy_reads : (s : Session) (a n : ℕ) (room : List ℕ) → Idle s → Follows (start_read s true a n (length room)) room (legacy_read a n (kept_of s room))
  pub reads_params : (s : Session) (room : List ℕ) → Idle s → Follows (start_read_params s (length room)) room (read_params (kept_of s room))
  pub erases : (s : Session) (room : List ℕ) → Idle s → Follows (start_erase s) room (erase (kept_of s room))
  pub erases_sectors : (s : Session) (a n : ℕ) (room : List ℕ) → Idle s → Follows (start_erase_sectors s a n) room (erase_sectors a n (kept_of s room))
  pub programs : (s : Session) (a : ℕ) (d : List ℕ) (v : Bool) (room : List ℕ) → Idle s
      → Follows (start_program s a d v room).out (start_program s a d v room).room (program a d v (kept_of s room))
  pub programs_data : (s : Session) (a : ℕ) (d room : List ℕ) → Idle s
      → Follows (start_program_data s a d room).out (start_program_data s a d room).room (program_data a d (kept_of s room))
  pub resets : (s : Session) (room : List ℕ) → Idle s → Follows (start_reset s) room (reset (kept_of s room))
  pub reads_id : (s : Session) (room : List ℕ) → Idle s → Follows (start_read_jedec_id s) room (read_jedec_id (kept_of s room))
  pub tells_busy : (s : Session) (room : List ℕ) → Idle s → Follows (start_is_busy s) room (is_busy (kept_of s room))
  pub tells_protected : (s : Session) (room : List ℕ) → Idle s → Follows (start_is_protected s) room (is_protected (kept_of s room))
