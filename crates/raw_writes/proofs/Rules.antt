-- The rules for raw writes hold.
use mathlib.Core.Path.{◌≡◌, sym, subst}
use mathlib.Core.Bool.{Bool, false}
use mathlib.Core.Logic.{inl, ⊎_elim}
use mathlib.Core.List.{List, [], ◌∷◌, ◌++◌, Permᴰ}
use Prim.Native.Nat.{ℕ}
use native.Mathlib.Omega.{arith}
use lib.ListN.{length}
use Rattle.erase_plan.specs.Good.{Each}
use Rattle.commands.specs.Calls.{Call, ReadParams, ReadJedecId, Erase, Program, ProgramData}
use Rattle.flash.specs.declared.Session.{Session}
use Rattle.flash.specs.Starts.{start_out, begin_data, start_program_data}
use Rattle.meaning.specs.Meaning.{kept_of}
use Rattle.nor_model.specs.Device.{Part}
use Rattle.nor_model.specs.Fits.{Fits}
use Rattle.nor_model.specs.Replay.{replay}
use Rattle.nor_model.proofs.Memory.{Mem}
use Rattle.nor_model.proofs.Tables.{bytes_data}
use Rattle.raw_writes.specs.RawWrites.{Raw, calls, refusal, Issued, AllIssued, Replaced, Twice, EitherOrder, AnyOrder, anded, raw, Merged, Writes, ErasedAfter, RawWrites}
use Rattle.raw_writes.proofs.Ands.{length_anded, replay_twice, replay_order, replay_any, replay_merged, replay_erased}
use Rattle.raw_writes.proofs.Answers.{Quiet, accepted_exactly}
use Rattle.raw_writes.proofs.Running.{same_replay}

-- ---- none of these commands is read_params
no_params_lem : (a : ℕ) (d : List ℕ) → Quiet (ProgramData a d)
no_params_lem a d h = let z : ◌≡◌ {A = ℕ} 0 1 = cc in omega arith

no_id : (a : ℕ) (d : List ℕ) → ProgramData a d ≡ ReadJedecId → ⊥
no_id a d h = let z : ◌≡◌ {A = ℕ} 0 1 = cc in omega arith

erase_quiet : Quiet Erase
erase_quiet h = let z : ◌≡◌ {A = ℕ} 0 1 = cc in omega arith

program_quiet : (a : ℕ) (d : List ℕ) (v : Bool) → Quiet (Program a d v)
program_quiet a d v h = let z : ◌≡◌ {A = ℕ} 0 1 = cc in omega arith

calls_quiet : (xs : List Raw) → Each Quiet (calls xs)
calls_quiet [] = tt
calls_quiet (x ∷ xs) = (no_params_lem x.at x.bytes, calls_quiet xs)

write_quiet : (c : Call) → Writes c → Quiet c
write_quiet c h =
    ⊎_elim (λ x. subst Quiet (sym x.2) (no_params_lem x.0 x.1)) (λ x. subst Quiet (sym x.3) (program_quiet x.0 x.1 x.2)) h

writes_quiet : (cs ds : List Call) → Each Writes cs → Each Quiet ds → Each Quiet (cs ++ ds)
writes_quiet [] ds h k = k
writes_quiet (c ∷ cs) ds h k = (write_quiet c h.0, writes_quiet cs ds h.1 k)

-- ---- what may be issued
module _ (p : Part) (s : Session) where
  abbrev Ready : Raw → Type 0
  Ready x = Issued p s (ProgramData x.at x.bytes)

  -- behind the same writes
  issued_behind : (before xs ys : List Raw) → (AllIssued p s (calls xs) → AllIssued p s (calls ys))
      → AllIssued p s (calls (before ++ xs)) → AllIssued p s (calls (before ++ ys))
  issued_behind [] xs ys f u = f u
  issued_behind (x ∷ before) xs ys f u = (u.0, issued_behind before xs ys f u.1)

  -- in another order
  issued_any : {xs ys : List Raw} → Permᴰ xs ys → AllIssued p s (calls xs) → AllIssued p s (calls ys)
  issued_any Permᴰ.nil u = u
  issued_any (Permᴰ.cons e q) u = (subst Ready e u.0, issued_any q u.1)
  issued_any (Permᴰ.swap e f) u = (subst Ready f u.1.0, (subst Ready e u.0, u.1.1))
  issued_any (Permᴰ.trans q r) u = issued_any r (issued_any q u)

  issued_last : (before ds : List Call) → AllIssued p s (before ++ ds) → AllIssued p s ds
  issued_last [] ds u = u
  issued_last (c ∷ before) ds u = issued_last before ds u.1

  -- other data of the same length at the same place
  issued_alike : (a : ℕ) (d e : List ℕ) → length e ≡ length d → Issued p s (ProgramData a d) → Issued p s (ProgramData a e)
  unfolding start_program_data
  issued_alike a d e h u =
      record {
        room = u.room;
        times = u.times;
        assumed = record { fits = inl fits; ready = u.assumed.ready; bytes = bytes_data (ProgramData a e) tt };
        accepted = subst (λ (n : ℕ). refusal (start_out (begin_data s a n (length u.room))).event ≡ false) (sym h) u.accepted;
      }
    where
      fits : Fits p (kept_of s u.room)
      fits =
          ⊎_elim (λ (f : Fits p (kept_of s u.room)). f)
          (λ x. ⊎_elim (λ (k : ProgramData a d ≡ ReadParams). absurd (no_params_lem a d k)) (λ (k : ProgramData a d ≡ ReadJedecId). absurd (no_id a d k)) x.0)
          u.assumed.fits

-- ---- the rules: replays that agree, of commands that keep the settings
replaced : (cs ds : List Call) → ((m : Mem) → replay cs m ≡ replay ds m) → Each Quiet cs → Each Quiet ds
    → ((p : Part) (s : Session) → AllIssued p s cs → AllIssued p s ds) → Replaced cs ds
replaced cs ds h n k f = record { issued = f; same = λ p state s b. same_replay p state s b cs ds n k (h state.memory) }

-- raw writes for raw writes
rewritten : (xs ys : List Raw) → ((m : Mem) → replay (calls xs) m ≡ replay (calls ys) m)
    → ((p : Part) (s : Session) → AllIssued p s (calls xs) → AllIssued p s (calls ys)) → Replaced (calls xs) (calls ys)
rewritten xs ys h f = replaced (calls xs) (calls ys) h (calls_quiet xs) (calls_quiet ys) f

twice : Twice
twice before behind x =
    rewritten (before ++ (x ∷ x ∷ behind)) (before ++ (x ∷ behind)) (replay_twice before behind x)
    (λ p s. issued_behind p s before (x ∷ x ∷ behind) (x ∷ behind) (λ u. u.1))

either_order_lem : EitherOrder
either_order_lem before behind x y =
    rewritten (before ++ (x ∷ y ∷ behind)) (before ++ (y ∷ x ∷ behind)) (replay_order before behind x y)
    (λ p s. issued_behind p s before (x ∷ y ∷ behind) (y ∷ x ∷ behind) (λ u. (u.1.0, (u.0, u.1.1))))

any_order_lem : AnyOrder
any_order_lem xs ys q = rewritten xs ys (replay_any q) (λ p s. issued_any p s q)

merged : Merged
merged before behind a d e h =
    rewritten (before ++ (raw a d ∷ raw a e ∷ behind)) (before ++ (raw a (anded d e) ∷ behind)) (replay_merged before behind a d e h)
    (λ p s. issued_behind p s before (raw a d ∷ raw a e ∷ behind) (raw a (anded d e) ∷ behind)
    (λ u. (issued_alike p s a d (anded d e) (length_anded d e h) u.0, u.1.1)))

erased_after : ErasedAfter
erased_after before behind h =
    let k : Each Quiet (Erase ∷ calls behind) = (erase_quiet, calls_quiet behind) in
    replaced _ _ (replay_erased before (calls behind)) (writes_quiet before (Erase ∷ calls behind) h k) k
    (λ p s. issued_last p s before (Erase ∷ calls behind))

pub raw_writes : RawWrites
raw_writes =
    record {
      accepted_exactly = accepted_exactly;
      twice = twice;
      either_order = either_order_lem;
      any_order = any_order_lem;
      merged = merged;
      erased_after = erased_after;
    }
