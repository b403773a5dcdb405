-- A lent room of bytes stays one of bytes, by a start with data of bytes and by a step with a reply of bytes.
use mathlib.Core.Path.{◌≡◌, refl}
use mathlib.Core.Bool.{Bool}
use mathlib.Core.List.{List, [], ◌∷◌}
use Prim.Native.Nat.{ℕ, zero, suc, ◌+◌, ◌-◌, ◌<◌}
use lib.Dec.{leb, ltb}
use lib.ListN.{length, take, drop}
use Rattle.erase_plan.specs.Good.{Each}
use Rattle.erase_plan.proofs.Lists.{by_cond, each_append}
use Rattle.commands.specs.Script.{over}
use Rattle.commands.specs.Calls.{Call, Read, LegacyRead, ReadParams, Erase, EraseSectors, Program, ProgramData, Reset, ReadJedecId, IsBusy, IsProtected}
use Rattle.room.specs.Room.{laid}
use Rattle.phases.specs.declared.ReadCommand.{ReadCommand}
use Rattle.phases.specs.declared.ReadCommand.TheVariants as Reads
use Rattle.phases.specs.declared.Phase.{Phase}
use Rattle.phases.specs.declared.Phase.TheVariants.{Reading, Erasing, Writing, Polling, Verifying, Resetting, Ended}
use Rattle.flash.specs.declared.Session.{Session}
use Rattle.phases.specs.Waits.{need_of}
use Rattle.phases.specs.Moves.{read_room, room_after, is_ended}
use Rattle.flash.specs.Steps.{is_full, Taken, step_of}
use Rattle.flash.specs.Starts.{start_room, begin_program, start_program, begin_data, start_program_data, Start, stays, begins}
use Rattle.on_part.specs.OnPart.{start_of}
use Rattle.driver.specs.Driver.{OfBytes}

pub take_bytes : (n : ℕ) (l : List ℕ) → OfBytes l → OfBytes (take n l)
take_bytes zero l h = tt
take_bytes (suc n) [] h = tt
take_bytes (suc n) (x ∷ l) h = (h.0, take_bytes n l h.1)

pub drop_bytes : (n : ℕ) (l : List ℕ) → OfBytes l → OfBytes (drop n l)
drop_bytes zero l h = h
drop_bytes (suc n) [] h = tt
drop_bytes (suc n) (x ∷ l) h = drop_bytes n l h.1

laid_bytes : (at : ℕ) (bytes room : List ℕ) → OfBytes bytes → OfBytes room → OfBytes (laid at bytes room)
unfolding laid over
laid_bytes at bytes room b h =
    by_cond OfBytes (leb (at + length bytes) (length room)) _ room
    (λ t. each_append (λ (x : ℕ). x < 256) (take at room) _ (take_bytes at room h)
    (each_append (λ (x : ℕ). x < 256) bytes (drop (at + length bytes) room) b (drop_bytes (at + length bytes) room h)))
    (λ t. h)

-- ---- a step
read_room_lem : (c : ReadCommand) (r room : List ℕ) → OfBytes r → OfBytes room → OfBytes (read_room c r room)
unfolding read_room
read_room_lem (Reads.Read legacy a k) r room b h = laid_bytes 0 r room b h
read_room_lem Reads.Header r room b h = laid_bytes 0 r room b h
read_room_lem (Reads.Headers more) r room b h = laid_bytes 0 r room b h
read_room_lem (Reads.Table minor plen ptp) r room b h = laid_bytes 0 r room b h
read_room_lem (Reads.Before J) r room b h = laid_bytes 0 r room b h
read_room_lem (Reads.After J) r room b h = laid_bytes (J.last + 1 - J.base) r room b h
read_room_lem Reads.Id r room b h = h
read_room_lem Reads.IdAgain r room b h = h
read_room_lem Reads.Protected r room b h = h

phase_room : (p : Phase) (r room : List ℕ) → OfBytes r → OfBytes room → OfBytes (room_after p r room)
unfolding room_after
phase_room (Reading c) r room b h = read_room_lem c r room b h
phase_room (Erasing c enabled) r room b h = h
phase_room (Writing c enabled) r room b h = h
phase_room (Polling c left) r room b h = h
phase_room (Verifying c) r room b h = h
phase_room (Resetting c) r room b h = h
phase_room (Ended c a) r room b h = h

pub step_room : (s : Session) (failed : Bool) (r room : List ℕ) → OfBytes r → OfBytes room → OfBytes (step_of s failed r room).room
unfolding step_of
step_room s failed r room b h =
    by_cond (λ (x : Taken). OfBytes x.room) (is_ended s.phase) _ _ (λ t. h)
    (λ t. by_cond (λ (x : Taken). OfBytes x.room) (ltb (length room) (need_of s.phase)) _ _ (λ t. h)
    (λ t. by_cond (λ (x : Taken). OfBytes x.room) (is_full s failed r) _ _ (λ t. phase_room s.phase r room b h) (λ t. h)))

-- ---- a start
begun_room : (b : Start) (d room : List ℕ) → OfBytes d → OfBytes room → OfBytes (start_room b d room)
begun_room (stays x) d room g h = h
begun_room (begins at s) d room g h = laid_bytes at d room g h

pub start_room_lem : (c : Call) (s : Session) (room : List ℕ) → ((a : ℕ) (d : List ℕ) (v : Bool) → c ≡ Program a d v → OfBytes d)
    → ((a : ℕ) (d : List ℕ) → c ≡ ProgramData a d → OfBytes d) → OfBytes room → OfBytes (start_of c s room).room
unfolding start_program start_program_data
start_room_lem (Read a n) s room p w h = h
start_room_lem (LegacyRead a n) s room p w h = h
start_room_lem ReadParams s room p w h = h
start_room_lem Erase s room p w h = h
start_room_lem (EraseSectors a n) s room p w h = h
start_room_lem (Program a d v) s room p w h = begun_room (begin_program s a (length d) v (length room)) d room (p a d v refl) h
start_room_lem (ProgramData a d) s room p w h = begun_room (begin_data s a (length d) (length room)) d room (w a d refl) h
start_room_lem Reset s room p w h = h
start_room_lem ReadJedecId s room p w h = h
start_room_lem IsBusy s room p w h = h
start_room_lem IsProtected s room p w h = h
