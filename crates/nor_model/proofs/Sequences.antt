-- Demand 3: every command, and every sequence of them.
use Rattle.std.proofs.Common.{Result, Ok, Err}
use mathlib.Core.Path.{◌≡◌, refl, sym, ap, ◌∙◌, subst}
use mathlib.Core.Bool.{Bool, true, false, cond}
use mathlib.Core.Logic.{⊎_elim}
use mathlib.Core.List.{List, [], ◌∷◌, ◌++◌}
use Prim.Native.Nat.{ℕ}
use native.Mathlib.Omega.{arith}
use lib.ListN.{take}
use Rattle.settings.specs.declared.Settings.{Settings}
use Rattle.settings.specs.declared.SettingError.{SettingError}
use Rattle.settings.specs.Limits.{Sound, set_address_bytes, set_page_size, set_erase_size, set_poll_limit}
use Rattle.settings.proofs.Laws.{set_address_bytes_sound, set_page_size_sound, set_erase_size_sound, set_poll_limit_sound, set_capacity_sound, clear_capacity_sound, set_erase_opcode_sound}
use Rattle.erase_plan.specs.Good.{Each}
use Rattle.commands.specs.Script.{Kept, roomed}
use Rattle.commands.specs.Calls.{Call, Read, LegacyRead, ReadParams, Erase, EraseSectors, Program, ProgramData, Reset, ReadJedecId, IsBusy, IsProtected, script}
use Rattle.commands.specs.Leaves.{refused}
use Rattle.nor_model.specs.Device.{Part, State, bytes_from}
use Rattle.nor_model.specs.Fits.{Apart}
use Rattle.nor_model.specs.Replay.{effect, replay}
use Rattle.nor_model.specs.Runs.{Times, Ran, exec}
use Rattle.nor_model.specs.Demand3.{Setter, AddressBytes, PageSize, EraseSize, EraseOpcode, PollLimit, Capacity, NoCapacity, Act, Command, Setting, settled, set_by, Now, ran_on, next, Possible, Assumed, Premises, range, Erases, Promised, Promises, Demand3}
use Rattle.nor_model.proofs.Memory.{Mem, Byte, Bytes, ff_bytes, laid_bytes, cleared_bytes}
use Rattle.nor_model.proofs.Does.{does_exec}
use Rattle.nor_model.proofs.Tables.{data_of, data_bytes, all_but_two, wanted, wanted_read}
use Rattle.nor_model.proofs.Ended.{Ended, Goal, barred_of, barred, fits_roomed, possible_roomed}
use Rattle.nor_model.proofs.Quiet.{reset_does, id_does, busy_does, protected_does, params_does}
use Rattle.nor_model.proofs.Changes.{Started, read_does, legacy_does, erase_does, sectors_does}
use Rattle.nor_model.proofs.Writes.{data_does}
use Rattle.nor_model.proofs.Programs.{program_does}

-- ---- every command
module _ (p : Part) (times : Times) (w : Kept) (s : State) (S : Started p times w s) (b : Bytes s.memory) where
  command_does : (c : Call) → Each Byte (data_of c) → Goal p times s c (script c w)
  command_does (Read a n) d = read_does p times w s S a n
  command_does (LegacyRead a n) d = legacy_does p times w s S a n
  command_does ReadParams d = params_does p (barred p w S.fits) times w S.possible s S.idle
  command_does Erase d = erase_does p times w s S
  command_does (EraseSectors a n) d = sectors_does p times w s S a n
  command_does (Program a l v) d = program_does p times w s S b a l v d
  command_does (ProgramData a l) d = data_does p times w s S a l
  command_does Reset d = reset_does p (barred p w S.fits) times w S.possible s S.idle
  command_does ReadJedecId d = id_does p (barred p w S.fits) times w S.possible s S.idle
  command_does IsBusy d = busy_does p (barred p w S.fits) times w S.possible s S.idle
  command_does IsProtected d = protected_does p (barred p w S.fits) times w S.possible s S.idle

  -- so its run ends
  pub command_ends : (c : Call) → Each Byte (data_of c)
      → let r = exec p times [] s (script c w) in Ended c s.memory r.kept r.answer r.state × Each (Erases p (range c)) r.sent
  command_ends c d = does_exec p times (Erases p (range c)) (Ended c s.memory) [] s (script c w) (command_does c d)

-- ---- replay
replay_more : (cs : List Call) (c : Call) (m : Mem) → replay (cs ++ (c ∷ [])) m ≡ effect c (replay cs m)
unfolding replay
replay_more [] c m = refl
replay_more (x ∷ cs) c m = replay_more cs c (effect x m)

-- a command that is accepted is one more to replay
replay_next : (b : Bool) (cs : List Call) (c : Call) (m : Mem) → cond b (replay cs m) (effect c (replay cs m)) ≡ replay (cond b cs (cs ++ (c ∷ []))) m
replay_next true cs c m = refl
replay_next false cs c m = sym (replay_more cs c m)

effect_bytes : (c : Call) → Each Byte (data_of c) → (m : Mem) → Bytes m → Bytes (effect c m)
effect_bytes (Read a n) d m h = h
effect_bytes (LegacyRead a n) d m h = h
effect_bytes ReadParams d m h = h
effect_bytes Erase d m h = record { below = λ i. omega arith }
effect_bytes (EraseSectors a n) d m h = ff_bytes a n m h
effect_bytes (Program a l v) d m h = laid_bytes a l m d h
effect_bytes (ProgramData a l) d m h = cleared_bytes a l m h
effect_bytes Reset d m h = h
effect_bytes ReadJedecId d m h = h
effect_bytes IsBusy d m h = h
effect_bytes IsProtected d m h = h

-- ---- setters
settled_sound : (s : Settings) → Sound s → (a : Result Settings SettingError) → ((t : Settings) → a ≡ Ok t → Sound t) → Sound (settled s a)
settled_sound s k (Ok t) h = h t refl
settled_sound s k (Err e) h = k

set_sound : (x : Setter) (s : Settings) → Sound s → Sound (set_by x s)
set_sound (AddressBytes n) s k = settled_sound s k (set_address_bytes s n) (set_address_bytes_sound s k n)
set_sound (PageSize n) s k = settled_sound s k (set_page_size s n) (set_page_size_sound s k n)
set_sound (EraseSize n) s k = settled_sound s k (set_erase_size s n) (set_erase_size_sound s k n)
set_sound (EraseOpcode n) s k = set_erase_opcode_sound s k n
set_sound (PollLimit n) s k = settled_sound s k (set_poll_limit s n) (set_poll_limit_sound s k n)
set_sound (Capacity n) s k = set_capacity_sound s k n
set_sound NoCapacity s k = clear_capacity_sound s k

-- ---- what holds between two acts
pub record Stands (first : Mem) (now : Now) : Type 0 where
  pub idle : now.state.busy ≡ 0
  pub memory : now.state.memory ≡ replay now.accepted first
  pub bytes : Bytes now.state.memory
  pub possible : Possible now.kept

module _ (p : Part) (first : Mem) (now : Now) (h : Stands first now) (c : Call) (room : List ℕ) (times : Times) (q : Assumed p now.kept c times) where
  abbrev r : Ran
  r = ran_on script p now c room times

  abbrev lent : Kept
  lent = roomed now.kept room

  k : Possible lent
  k = possible_roomed now.kept room h.possible

  -- how it ends
  Ends : Call → Type 0
  Ends c =
      let r = ran_on script p now c room times in
      Ended c now.state.memory r.kept r.answer r.state × Each (Erases p (range c)) r.sent

  -- the two that ask the part what it is
  params : Apart p → Ends ReadParams
  unfolding Ends
  params a =
      does_exec p times (Erases p (0, 0)) (Ended ReadParams now.state.memory) [] now.state (script ReadParams lent) (params_does p (barred_of p a) times lent k now.state h.idle)

  id : Apart p → Ends ReadJedecId
  unfolding Ends
  id a =
      does_exec p times (Erases p (0, 0)) (Ended ReadJedecId now.state.memory) [] now.state (script ReadJedecId lent) (id_does p (barred_of p a) times lent k now.state h.idle)

  ends : Ended c now.state.memory r.kept r.answer r.state × Each (Erases p (range c)) r.sent
  unfolding Ends
  ends =
      ⊎_elim
      (λ f. command_ends p times lent now.state
      (record { fits = fits_roomed p now.kept room f; possible = k; short = q.ready; idle = h.idle })
      h.bytes c (data_bytes c q.bytes))
      (λ x. ⊎_elim (λ (e : c ≡ ReadParams). subst Ends (sym e) (params x.1)) (λ (e : c ≡ ReadJedecId). subst Ends (sym e) (id x.1)) x.0)
      q.fits

  -- the memory is the replay's
  after_memory : r.state.memory ≡ replay (next script p (Command c room times) now).accepted first
  after_memory =
      ends.0.memory ∙ ap (λ (m : Mem). cond (refused r.answer) m (effect c m)) h.memory ∙ replay_next (refused r.answer) now.accepted c first

  pub promised : Promised p first now c r
  promised =
      record {
        contents = λ i _. ap (λ (m : Mem). m i) after_memory;
        idle = ends.0.idle;
        finishes = λ x n. ends.0.finishes n (all_but_two c x);
        reads = λ a n e k. subst (λ (x : ℕ × ℕ). take x.1 r.kept.room ≡ bytes_from (replay now.accepted first) x.0 x.1) (wanted_read c a n e)
            (ends.0.reads k ∙ ap (λ (m : Mem). bytes_from m (wanted c).0 (wanted c).1) h.memory);
        erases = ends.1;
      }

  pub command_stands : Stands first (next script p (Command c room times) now)
  command_stands =
      record {
        idle = ends.0.idle;
        memory = after_memory;
        bytes = subst Bytes (sym ends.0.memory) (either (refused r.answer));
        possible = ends.0.possible;
      }
    where
      either : (b : Bool) → Bytes (cond b now.state.memory (effect c now.state.memory))
      either true = h.bytes
      either false = effect_bytes c (data_bytes c q.bytes) now.state.memory h.bytes

setting_stands : (p : Part) (first : Mem) (now : Now) → Stands first now → (x : Setter) → Stands first (next script p (Setting x) now)
setting_stands p first now h x =
    record {
      idle = h.idle;
      memory = h.memory;
      bytes = h.bytes;
      possible = record { sound = set_sound x now.kept.settings h.possible.sound; read = h.possible.read };
    }

-- ---- every sequence
promises : (p : Part) (first : Mem) (acts : List Act) (now : Now) → Stands first now → Premises script p now acts → Promises script p first now acts
promises p first [] now h q = tt
promises p first (Command c room times ∷ acts) now h q = (
  promised p first now h c room times q.0,
  promises p first acts (next script p (Command c room times) now) (command_stands p first now h c room times q.0) q.1,
)
promises p first (Setting x ∷ acts) now h q = promises p first acts (next script p (Setting x) now) (setting_stands p first now h x) q

-- everything after some acts
unfoldable pub after_all : Part → List Act → Now → Now
after_all p [] now = now
after_all p (x ∷ acts) now = after_all p acts (next script p x now)

-- so it stands at the end, too: idle, and the memory that of the replay
pub stands : (p : Part) (first : Mem) (acts : List Act) (now : Now) → Stands first now → Premises script p now acts → Stands first (after_all p acts now)
unfolding after_all
stands p first [] now h q = h
stands p first (Command c room times ∷ acts) now h q =
    stands p first acts (next script p (Command c room times) now) (command_stands p first now h c room times q.0) q.1
stands p first (Setting x ∷ acts) now h q = stands p first acts (next script p (Setting x) now) (setting_stands p first now h x) q

pub demand3 : Demand3
unfolding replay
demand3 p s w acts i b k q =
    promises p s.memory acts (record { state = s; kept = w; accepted = [] }) (record { idle = i; memory = refl; bytes = record { below = b }; possible = k }) q
