-- The transactions of docs/SCOPE.md, Commands as transactions, and the polls.
use Rattle.std.specs.Prelude.{Bool, true, false, cond, ◌&&◌, not, List, [], ◌∷◌, ℕ, zero, suc, ◌+◌, ◌-◌, ◌/◌, ◌%◌, min, eqb, ltb, take, drop}
use Rattle.dwords.specs.Dwords.{byte_at, bit}
use Rattle.settings.specs.declared.Settings.{Settings}
use Rattle.erase_plan.specs.declared.EraseEntry.{EraseEntry}
use Rattle.commands.specs.declared.Answer.TheVariants.{Busy}
use Rattle.commands.specs.Script.{Sent, Kept, done, stop, send, Cmd, ◌>>◌, ask}

-- no poll: command byte, address in so many bytes, dummy or not, payload, reply length, delay
abbrev pub issue : ℕ → ℕ → ℕ → Bool → List ℕ → ℕ → ℕ → Sent
issue op n a dummy l reply µs = record { opcode = op; addressed = n; address = a; dummy = dummy; payload = l; reply = reply; poll = false; delay = µs }

-- a bare command byte that asks for n bytes
abbrev pub plain : ℕ → ℕ → Sent
plain op n = issue op 0 0 false [] n 0

-- a command with an address of so many bytes, and a dummy or none
abbrev pub at : ℕ → ℕ → ℕ → Bool → ℕ → Sent
at op bytes a dummy n = issue op bytes a dummy [] n 0

-- n bytes from a on: 0B, with a dummy; 03; 5A, with 3 address bytes and a dummy
abbrev pub fast_read : Settings → ℕ → ℕ → Sent
fast_read s a n = at 0x0B s.address_bytes a true n

abbrev pub read_data : Settings → ℕ → ℕ → Sent
read_data s a n = at 0x03 s.address_bytes a false n

abbrev pub read_sfdp : ℕ → ℕ → Sent
read_sfdp a n = at 0x5A 3 a true n

abbrev pub write_enable : Sent
write_enable = plain 0x06 0

abbrev pub status1 : Sent
status1 = plain 0x05 1

-- an entry's opcode and address; then half the typical time, if that is known
abbrev pub erase_block : Settings → EraseEntry → Sent
erase_block s e = issue e.opcode s.address_bytes e.base false [] 0 (cond (eqb e.timed 1) (e.time / 2) 0)

-- half the page time, if that time is known and above 1,000 µs
unfoldable pub page_delay : Kept → ℕ
page_delay w =
    cond (w.known && w.params.jesd216a && ltb 1000 w.params.timing.page_prog_time_typ) (w.params.timing.page_prog_time_typ / 2) 0

abbrev pub page_program : Kept → ℕ → List ℕ → Sent
page_program w a bytes = issue 0x02 w.settings.address_bytes a false bytes 0 (page_delay w)

-- ---- a poll is 70, ready when bit 7 is 1, if flag polling is given; else 05, ready when bit 0 is 0
unfoldable pub by_flag : Kept → Bool
by_flag w = w.known && w.params.busy_poll_flag

abbrev pub status_poll : Kept → Sent
status_poll w = record { opcode = cond (by_flag w) 0x70 0x05; addressed = 0; address = 0; dummy = false; payload = []; reply = 1; poll = true; delay = 0 }

unfoldable pub ready : Bool → ℕ → Bool
ready flag status = cond flag (bit status 7) (not (bit status 0))

-- at most so many polls
unfoldable pub polls : ℕ → Cmd (Unit {0})
polls zero w = stop w Busy
polls (suc n) w = send w (status_poll w) (λ r. cond (ready (by_flag w) (byte_at r 0)) (done w tt) (polls n w))

-- 06; the operation; polls, at most the poll limit
abbrev pub operation : Sent → Cmd (Unit {0})
operation s = do
  ask write_enable
  ask s
  λ w. polls w.settings.poll_limit w

-- ---- bytes to write, cut at page ends: each part's place among them, and its length
pub record Part : Type 0 where
  pub off : ℕ
  pub len : ℕ

-- from byte off of n bytes for address a on: to the page's end, or to the last byte
unfoldable pub to_page_end : ℕ → ℕ → ℕ → ℕ → ℕ
to_page_end page a off n = min (page - (a + off) % page) (n - off)

unfoldable pub parts_in : ℕ → ℕ → ℕ → ℕ → ℕ → List Part
parts_in zero page a off n = []
parts_in (suc fuel) page a off n =
    elim (ltb off n) [
      | true ↦ record { off = off; len = to_page_end page a off n } ∷ parts_in fuel page a (off + to_page_end page a off n) n
      | false ↦ []
    ]

-- the parts of n bytes for address a, from byte off on; each takes a byte or more
unfoldable pub parts : ℕ → ℕ → ℕ → ℕ → List Part
parts page a off n = parts_in (n - off) page a off n

-- the bytes of a part
abbrev pub bytes_of : List ℕ → Part → List ℕ
bytes_of l p = take p.len (drop p.off l)

-- a part written: of the bytes l for address a
abbrev pub write_part : ℕ → List ℕ → Part → Cmd (Unit {0})
write_part a l p w = operation (page_program w (a + p.off) (bytes_of l p)) w
