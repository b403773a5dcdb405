-- What each command leaves.
use mathlib.Core.Path.{◌≡◌, refl, sym, ap, ◌∙◌}
use mathlib.Core.Bool.{Bool, true, false, cond, ◌&&◌, ◌||◌, not}
use mathlib.Core.Logic.{⊎_elim}
use mathlib.Core.List.{List, [], ◌∷◌}
use mathlib.Core.Option.{some}
use Prim.Native.Nat.{ℕ, zero, suc, ◌+◌, ◌-◌}
use native.Mathlib.Omega.{arith}
use lib.Dec.{eqb}
use lib.ListN.{length}
use Rattle.dwords.specs.Dwords.{byte_at, bits}
use Rattle.settings.specs.declared.Settings.{Settings}
use Rattle.settings.specs.Limits.{page_of}
use Rattle.erase_plan.specs.Good.{Each}
use Rattle.erase_plan.proofs.Lists.{by_cond, no_true}
use Rattle.commands.specs.declared.Answer.{Answer}
use Rattle.commands.specs.declared.Answer.TheVariants.{Done, DoneBool, NoResetInstruction, Access, Busy}
use Rattle.commands.specs.Script.{Sent, Kept, Script, done, stop, after, ◌>>=◌, ◌>>◌, give, ask, roomed, over, each}
use Rattle.commands.specs.Host.{Reply, Outcome, tree, play}
use Rattle.commands.specs.Transactions.{plain, fast_read, read_data, erase_block, page_program, ready, by_flag, operation, parts, bytes_of, write_part}
use Rattle.commands.specs.Commands.{plan_of, erase_one, read_by, read, legacy_read, read_params, erase, erase_sectors, job_of, program, program_data, reset, id_at, first_id, read_jedec_id, is_busy, is_protected}
use Rattle.commands.specs.Calls.{Call, Read, LegacyRead, ReadParams, Erase, EraseSectors, Program, ProgramData, Reset, ReadJedecId, IsBusy, IsProtected, script}
use Rattle.commands.specs.Leaves.{refused, OfBytes, room_need, Beyond, Left, Leaves, LeftByRead, ReadLeaves, LeftByProgram, ProgramLeaves}
use Rattle.commands.proofs.Hosts.{one_sent, at_done, at_stop}
use Rattle.commands.proofs.Endings.{along, Ends, ends_then, ends_each, ends_operation, Sized, ends_host}
use Rattle.commands.proofs.Rooms.{beyond_same, beyond_over}
use Rattle.commands.proofs.Gathering.{before_case, gathered_beyond, gathered_data}
use Rattle.commands.proofs.Tables.{Learnt, params_learnt}
use Rattle.commands.proofs.Checks.{read_case, params_case, sectors_case, data_case, program_case}

-- ---- what is proved of a script: all but the room is kept; a refusal has sent nothing and kept all; the room beyond n is as it was
record Told (n : ℕ) (w : Kept) (s : Script Answer) (rs : List Reply) (o : Outcome) : Type 0 where
  settled : o.kept ≡ roomed w o.kept.room
  refusal : refused o.answer ≡ true → ((play (tree 0 s) rs).0 ≡ []) × (o.kept ≡ w)
  beyond : Beyond n w.room o.kept.room

abbrev Tells : ℕ → Kept → Script Answer → Type 0
Tells n w s = (rs : List Reply) (o : Outcome) → (play (tree 0 s) rs).1 ≡ some o → Told n w s rs o

-- a refusal at the start
tells_stop : (n : ℕ) (w : Kept) (e : Answer) → Tells n w (stop w e)
tells_stop n w e rs o h =
    let q = at_stop w e 0 rs o h in
    record {
      settled = along (λ (x : Kept). x ≡ roomed w x.room) q.0 refl;
      refusal = λ _. (q.2, q.0);
      beyond = along (λ (x : Kept). Beyond n w.room x.room) q.0 (beyond_same n w.room);
    }

-- what is no refusal, and leaves this room
record Later (n : ℕ) (w w' : Kept) (e : Answer) : Type 0 where
  answer : refused e ≡ false
  room : List ℕ
  kept : w' ≡ roomed w room
  beyond : Beyond n w.room room

later_told : (n : ℕ) (w : Kept) (s : Script Answer) (rs : List Reply) (o : Outcome) → Later n w o.kept o.answer → Told n w s rs o
later_told n w s rs o l =
    record {
      settled = along (λ (x : Kept). x ≡ roomed w x.room) l.kept refl;
      refusal = λ e. no_true (sym l.answer ∙ e);
      beyond = along (λ (x : Kept). Beyond n w.room x.room) l.kept l.beyond;
    }

tells_later : (n : ℕ) (w : Kept) (s : Script Answer) → Ends Sized (Later n w) (λ a w'. Later n w w' a) s → Tells n w s
tells_later n w s h rs o e = later_told n w s rs o (ends_host (Later n w) s h 0 rs o e)

-- ---- commands that leave all as it was
module _ (w : Kept) where
  as_was : (e : Answer) → refused e ≡ false → Later 0 w w e
  as_was e h = record { answer = h; room = w.room; kept = refl; beyond = beyond_same 0 w.room }

  quiet_operation : (s : Sent) → Ends Sized (Later 0 w) (λ a w'. w' ≡ w) (operation s w)
  unfolding refused
  quiet_operation s = ends_operation Sized (Later 0 w) w (as_was Access refl) (as_was Busy refl) s

  tells_erase : Tells 0 w (erase w)
  unfolding erase refused
  tells_erase = tells_later 0 w _ (ends_then Sized (Later 0 w) w (λ a w'. Later 0 w w' a) (operation (plain 0xC7 0) w) (λ u. give Done) (quiet_operation (plain 0xC7 0)) (λ u. as_was Done refl))

  tells_sectors : (a n : ℕ) → Tells 0 w (erase_sectors a n w)
  unfolding refused
  tells_sectors a n =
      sectors_case (Tells 0 w) w (λ e _. tells_stop 0 w e) a n
      (tells_later 0 w _
      (ends_then Sized (Later 0 w) w (λ a w'. Later 0 w w' a) (each erase_one (plan_of w a (a + n)) w) (λ u. give Done)
      (ends_each Sized (Later 0 w) erase_one w (λ e. quiet_operation (erase_block w.settings e)) (plan_of w a (a + n))) (λ u. as_was Done refl)))

  tells_reset : Tells 0 w (reset w)
  unfolding after reset refused
  tells_reset = go (not (w.known && w.params.jesd216a) || w.params.reset_inst_66_99) w.params.reset_inst_f0
    where
      go : (a b : Bool)
          → Tells 0 w
          (cond a ((do
            ask (plain 0x66 0)
            ask (plain 0x99 0)
            give Done) w)
          (cond b ((do
            ask (plain 0xF0 0)
            give Done) w) (stop w NoResetInstruction)))
      go true b = tells_later 0 w _ (as_was Access refl, λ r h. (as_was Access refl, λ r' h'. as_was Done refl))
      go false true = tells_later 0 w _ (as_was Access refl, λ r h. as_was Done refl)
      go false false = tells_stop 0 w NoResetInstruction

  first_refused : (more n : ℕ) (r : List ℕ) → refused (first_id more n r) ≡ false
  unfolding first_id refused
  first_refused zero n r = refl
  first_refused (suc more) n r =
      by_cond (λ (x : Answer). refused x ≡ false) (eqb (byte_at r n) 0x7F) (first_id more (n + 1) r) (id_at n r) (λ _. first_refused more (n + 1) r) (λ _. refl)

  tells_id : Tells 0 w (read_jedec_id w)
  unfolding after read_jedec_id refused
  tells_id = tells_later 0 w _ (as_was Access refl, λ r h. go r (eqb (byte_at r 0) 0x7F))
    where
      go : (r : List ℕ) (b : Bool)
          → Ends Sized (Later 0 w) (λ a w'. Later 0 w w' a)
          (cond b ((do
            r' ← ask (plain 0x9F 16)
            give (first_id 13 1 r')) w) (done w (id_at 0 r)))
      go r true = (as_was Access refl, λ r' h. as_was (first_id 13 1 r') (first_refused 13 1 r'))
      go r false = as_was (id_at 0 r) refl

  tells_busy : Tells 0 w (is_busy w)
  unfolding after is_busy refused
  tells_busy = tells_later 0 w _ (as_was Access refl, λ r h. as_was (DoneBool (not (ready (by_flag w) (byte_at r 0)))) refl)

  tells_protected : Tells 0 w (is_protected w)
  unfolding after is_protected refused
  tells_protected = tells_later 0 w _ (as_was Access refl, λ r h. as_was (DoneBool (not (eqb (bits (byte_at r 0) 4 2) 0))) refl)

-- ---- reads
tells_read : (by : Settings → ℕ → ℕ → Sent) → ((s : Settings) (a n : ℕ) → (by s a n).reply ≡ n) → (a n : ℕ) (w : Kept) → Tells n w (read_by by a n w)
unfolding refused
tells_read by f a n w =
    read_case (Tells n w) w (λ e _. tells_stop n w e) by a n
    (λ l. tells_later n w _ (
      record { answer = refl; room = w.room; kept = refl; beyond = beyond_same n w.room },
      λ r h. record {
        answer = refl;
        room = over 0 r w.room;
        kept = refl;
        beyond = beyond_over n 0 r w.room (omega (arith, h, f w.settings a n)) l;
      },
    ))

-- ---- program_data
tells_data : (a : ℕ) (d : List ℕ) (w : Kept) → Tells (length d) w (program_data a d w)
unfolding program_data refused
tells_data a [] w = tells_later 0 w (done w Done) (as_was w Done refl)
tells_data a (x ∷ d) w =
    data_case (Tells n w) w (λ e _. tells_stop n w e) a x d
    (λ l. let so : (e : Answer) → refused e ≡ false → Later n w w' e =
    λ e h. record { answer = h; room = over 0 (x ∷ d) w.room; kept = refl; beyond = beyond_over n 0 (x ∷ d) w.room (omega arith) l } in
    tells_later n w _
    (ends_then Sized (Later n w) w' (λ a w''. Later n w w'' a) (each (write_part a w'.room) (parts (page_of w.settings) a 0 n) w') (λ u. give Done)
    (ends_each Sized (Later n w) (write_part a w'.room) w'
    (λ p. ends_operation Sized (Later n w) w' (so Access refl) (so Busy refl) (page_program w' (a + p.off) (bytes_of w'.room p)))
    (parts (page_of w.settings) a 0 n)) (λ u. so Done refl)))
  where
    n : ℕ
    n = length (x ∷ d)

    w' : Kept
    w' = roomed w (over 0 (x ∷ d) w.room)

-- ---- program
tells_program : (a : ℕ) (d : List ℕ) (v : Bool) (w : Kept) → Tells (room_need (Program a d v) w) w (program a d v w)
tells_program a d v w =
    let J = job_of w a (length d) v in
    program_case (Tells (J.last - J.base) w) w (λ e _. tells_stop (J.last - J.base) w e) a d v
    (λ p rs o e. let q = before_case J d w rs o e in
    record {
      settled = q.kept;
      refusal = λ h. no_true (sym q.answer ∙ h);
      beyond = gathered_beyond J d w.room o.kept.room p q.bytes;
    })

pub program_leaves : ProgramLeaves
program_leaves a d v w rs o e h =
    let J = job_of w a (length d) v in
    program_case
    (λ (s : Script Answer). (play (tree 0 s) rs).1 ≡ some o → LeftByProgram J d w.room rs (play (tree 0 s) rs).0 o) w
    (λ x r y. let q = at_stop w x 0 rs o y in no_true (sym h ∙ ap refused q.1 ∙ r)) a d v
    (λ p y. let q = before_case J d w rs o y in
    record { room = q.room; broken = q.broken; holds = gathered_data J d w.room o.kept.room p q.bytes })
    e

-- ---- reads, by their reply
module _ (by : Settings → ℕ → ℕ → Sent) (reply : (s : Settings) (a n : ℕ) → (by s a n).reply ≡ n) (a n : ℕ) (w : Kept) (rs : List Reply) (o : Outcome) where
  not_done : (e : Answer) → o.answer ≡ e → o.kept ≡ w → (e ≡ Done → ⊥) → LeftByRead n w rs o
  not_done e q k f = record { failing = λ _. k; reading = λ h. absurd (f (sym q ∙ h)) }

  read_left : (play (tree 0 (read_by by a n w)) rs).1 ≡ some o → LeftByRead n w rs o
  unfolding refused
  read_left e =
      read_case (λ (s : Script Answer). (play (tree 0 s) rs).1 ≡ some o → LeftByRead n w rs o) w
      (λ x r y. let q = at_stop w x 0 rs o y in not_done x q.1 q.0 (λ z. no_true (sym (ap refused z) ∙ r))) by a n
      (λ _ y. ⊎_elim
      (λ f. not_done Access f.1 f.0 (λ (z : Access ≡ Done). let c : ◌≡◌ {A = ℕ} 0 1 = cc in omega arith))
      (λ g. let q = at_done (roomed w (over 0 g.bytes w.room)) Done g.behind g.rest o g.goes in
      record {
        failing = λ f. absurd (f q.1);
        reading = λ _. (g.bytes, g.rest, g.are, g.sized ∙ reply w.settings a n, q.0);
      })
      (one_sent w (by w.settings a n) (λ r. done (roomed w (over 0 r w.room)) Done) 0 rs o y))
      e

pub read_leaves : ReadLeaves
unfolding read legacy_read
read_leaves a n w rs o =
    ((λ e. read_left fast_read (λ s a n. refl) a n w rs o e), (λ e. read_left read_data (λ s a n. refl) a n w rs o e))

-- ---- all of them
told_left : (c : Call) (w : Kept) (rs : List Reply) (o : Outcome) → Told (room_need c w) w (script c w) rs o → Left c w rs o
told_left c w rs o t = record { settled = λ _. t.settled; refusal = t.refusal; beyond = λ _. t.beyond }

-- read_params: the same, but settings and parameters are kept unless it is Done
record Read' (w : Kept) (s : Script Answer) (rs : List Reply) (o : Outcome) : Type 0 where
  settled : (o.answer ≡ Done → ⊥) → o.kept ≡ roomed w o.kept.room
  refusal : refused o.answer ≡ true → ((play (tree 0 s) rs).0 ≡ []) × (o.kept ≡ w)
  beyond : Each OfBytes rs → Beyond 2056 w.room o.kept.room

params_left : (w : Kept) (rs : List Reply) (o : Outcome) → (play (tree 0 (read_params w)) rs).1 ≡ some o → Read' w (read_params w) rs o
params_left w rs o =
    params_case (λ (s : Script Answer). (play (tree 0 s) rs).1 ≡ some o → Read' w s rs o) w
    (λ x _ e. let t = tells_stop 2056 w x rs o e in record { settled = λ _. t.settled; refusal = t.refusal; beyond = λ _. t.beyond })
    (λ l e. let k : Learnt (Each OfBytes rs) w o = params_learnt w l rs o e in
    record { settled = k.settled; refusal = λ h. no_true (sym k.answer ∙ h); beyond = k.beyond })

pub leaves : Leaves
unfolding read legacy_read
leaves (Read a n) w rs o e = told_left (Read a n) w rs o (tells_read fast_read (λ s a n. refl) a n w rs o e)
leaves (LegacyRead a n) w rs o e = told_left (LegacyRead a n) w rs o (tells_read read_data (λ s a n. refl) a n w rs o e)
leaves ReadParams w rs o e =
    let k : Read' w (read_params w) rs o = params_left w rs o e in
    record { settled = λ f. k.settled (λ q. f (refl, q)); refusal = k.refusal; beyond = k.beyond }
leaves Erase w rs o e = told_left Erase w rs o (tells_erase w rs o e)
leaves (EraseSectors a n) w rs o e = told_left (EraseSectors a n) w rs o (tells_sectors w a n rs o e)
leaves (Program a d v) w rs o e = told_left (Program a d v) w rs o (tells_program a d v w rs o e)
leaves (ProgramData a d) w rs o e = told_left (ProgramData a d) w rs o (tells_data a d w rs o e)
leaves Reset w rs o e = told_left Reset w rs o (tells_reset w rs o e)
leaves ReadJedecId w rs o e = told_left ReadJedecId w rs o (tells_id w rs o e)
leaves IsBusy w rs o e = told_left IsBusy w rs o (tells_busy w rs o e)
leaves IsProtected w rs o e = told_left IsProtected w rs o (tells_protected w rs o e)
