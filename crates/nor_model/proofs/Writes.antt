-- program_data and program on a part that fits.
use mathlib.Core.Path.{◌≡◌, refl, sym, ap, ◌∙◌}
use mathlib.Core.Logic.{⊎_elim}
use mathlib.Core.List.{List, [], ◌∷◌}
use mathlib.Core.Option.{some}
use Prim.Native.Nat.{ℕ, zero, suc, ◌+◌, ◌-◌, ◌^◌, ◌≤◌, ◌<◌}
use native.Mathlib.Omega.{arith}
use lib.Dec.{leb}
use lib.ListN.{length, take, drop, length-append}
use Rattle.settings.specs.Limits.{page_of}
use Rattle.settings.specs.Ranges.{accepted_range, last_address}
use Rattle.erase_plan.specs.Good.{Each}
use Rattle.erase_plan.proofs.Lists.{lt_or_le, each_map}
use Rattle.commands.specs.declared.Answer.{Answer}
use Rattle.commands.specs.declared.Answer.TheVariants.{Done, NoRoom}
use Rattle.commands.specs.Script.{Kept, after, give, roomed, over, each}
use Rattle.commands.specs.Transactions.{page_program, write_enable, to_page_end, parts_in, parts, bytes_of, write_part, by_flag}
use Rattle.commands.specs.Transactions as Cut
use Rattle.commands.specs.Commands.{bad_range, written, program_data}
use Rattle.commands.specs.Calls.{Call}
use Rattle.commands.specs.Calls as Call
use Rattle.commands.specs.Leaves.{refused}
use Rattle.commands.proofs.Parts.{in_more, in_done, page_some}
use Rattle.nor_model.specs.Device.{Part, State, bytes_from}
use Rattle.nor_model.specs.Fits.{Fits}
use Rattle.nor_model.specs.Replay.{cleared}
use Rattle.nor_model.specs.Runs.{Times}
use Rattle.nor_model.specs.Demand3.{Erases}
use Rattle.nor_model.proofs.Memory.{cleared_nil}
use Rattle.nor_model.proofs.Laws.{on_program}
use Rattle.nor_model.proofs.Pages.{parts_written}
use Rattle.nor_model.proofs.Pages as Page
use Rattle.nor_model.proofs.Does.{Idle, Pollable, Does, does_after, does_each}
use Rattle.nor_model.proofs.Ended.{Ended, Goal, Barred, barred, fits_roomed, possible_roomed, no_erase_lem, no_erase_poll, Within, within_part, need_case}
use Rattle.nor_model.proofs.Changes.{take_over, ended_done, Started, refuses, polling}

-- ---- the parts begin below the last byte
in_below : (f page a off n : ℕ) → Each (λ (x : Cut.Part). x.off < n) (parts_in f page a off n)
unfolding parts_in
in_below zero page a off n = tt
in_below (suc f) page a off n =
    ⊎_elim (λ (h : off < n). rw (in_more f page a off n h) (h, in_below f page a (off + to_page_end page a off n) n))
    (λ (h : n ≤ off). rw (in_done (suc f) page a off n h) tt) (lt_or_le off n)

-- ---- rooms
over_long : (bytes room : List ℕ) → length bytes ≤ length (over 0 bytes room)
unfolding over
over_long bytes room = omega (arith, length-append bytes (drop (0 + length bytes) room))

pub roomed_polls : (p : Part) (times : Times) (w : Kept) (room : List ℕ) → Pollable p times w → Pollable p times (roomed w room)
unfolding by_flag
roomed_polls p times w room h =
    record { op06 = h.op06; op05 = h.op05; op70 = h.op70; offered = h.offered; some = h.some; short = h.short }

-- ---- the first n bytes of l written from address a on, in parts
module _ (p : Part) (times : Times) (w : Kept) (f : Fits p w) (pl : Pollable p times w) (r : ℕ × ℕ) (Ends : Kept → Answer → State → Type 0) where
  pub does_parts : (a : ℕ) (l : List ℕ) (n : ℕ) (past : List (List ℕ)) (s : State) (Q : Unit {0} → Kept → List (List ℕ) → State → Type 0)
      → n ≤ length l → a + n ≤ p.capacity → a + n ≤ 256 ^ p.addressed → s.busy ≡ 0
      → ((past' : List (List ℕ)) (s' : State) → Idle (cleared a (take n l) s.memory) s' → Q tt w past' s')
      → Does p times (Erases p r) Ends past s (each (write_part a l) (parts (page_of w.settings) a 0 n) w) Q
  unfolding parts
  does_parts a l n past s Q long fits holds i q =
      does_each p times (Erases p r) Ends w pl (no_erase_poll p r w b) (no_erase_lem p r write_enable b.op06) (write_part a l)
      (λ x. page_program w (a + x.off) (bytes_of l x)) (Page.written p a l) (λ x. refl) (parts (page_of w.settings) a 0 n) past s Q
      (each_map (λ (x : Cut.Part). x.off < n) _
      (λ x h. record {
        ok = no_erase_lem p r (page_program w (a + x.off) (bytes_of l x)) b.op02;
        law = λ wait s i l'. on_program p wait s i w (a + x.off) (bytes_of l x) f.addressed b.op02 (omega arith) l';
      })
      (parts (page_of w.settings) a 0 n) (in_below (n - 0) (page_of w.settings) a 0 n))
      i
      (λ past' s' j. q past' s'
      (record { idle = j.idle; same = j.same ∙ parts_written p (page_of w.settings) (page_some w.settings) f.page a l n long fits s.memory }))
    where
      b : Barred p
      b = barred p w f

-- ---- program_data
module _ (p : Part) (times : Times) (w : Kept) (s : State) (S : Started p times w s) where
  pub data_does : (a : ℕ) (d : List ℕ) → Goal p times s (Call.ProgramData a d) (program_data a d w)
  unfolding after refused program_data bytes_from
  data_does a [] = ended_done (Call.ProgramData a []) s.memory w s (record { idle = S.idle; same = sym (cleared_nil a s.memory) }) S.possible refl
  data_does a (x ∷ d) =
      need_case (Goal p times s c) w _ (accepted_range w.settings a n) (bad_range (last_address a n)) (refuses p times w s S c _ refl)
      (λ h. need_case (Goal p times s c) w _ (leb n (length w.room)) (NoRoom n) (refuses p times w s S c _ refl)
      (λ _. let k : Within p a n = within_part p w S.fits a n h in
      does_after p times (Erases p (0, 0)) (Ended c s.memory) [] s (each (write_part a w'.room) (parts (page_of w.settings) a 0 n) w') (λ u. give Done) _
      (does_parts p times w' (fits_roomed p w w'.room S.fits) (roomed_polls p times w w'.room (polling p times w s S)) (0, 0) (Ended c s.memory) a w'.room n [] s _
      long k.fits k.holds S.idle
      (λ past s' j. ended_done c s.memory w' s'
      (record { idle = j.idle; same = j.same ∙ ap (λ (l : List ℕ). cleared a l s.memory) (take_over (x ∷ d) w.room) })
      (possible_roomed w w'.room S.possible) refl))))
    where
      c : Call
      c = Call.ProgramData a (x ∷ d)

      n : ℕ
      n = length (x ∷ d)

      w' : Kept
      w' = roomed w (over 0 (x ∷ d) w.room)

      long : n ≤ length w'.room
      long = over_long (x ∷ d) w.room
