-- No command sends 2^63 transactions: what the host's theorem asks of a list of replies.
use mathlib.Core.Path.{◌≡◌, refl, sym, ◌∙◌}
use mathlib.Core.Bool.{Bool, true, false}
use mathlib.Core.Logic.{⊎_elim}
use mathlib.Core.List.{List, [], ◌∷◌}
use Prim.Native.Nat.{ℕ, zero, suc, ◌+◌, ◌-◌, ◌*◌, ◌^◌, ◌≤◌, ◌<◌}
use native.Mathlib.Omega.{arith}
use native.Mathlib.Nat.{mul-le-mul}
use lib.ListN.{length}
use Rattle.settings.specs.Limits.{Sound, page_of}
use Rattle.settings.specs.Ranges.{accepted_range, last_address}
use Rattle.settings.proofs.Laws.{accepted_32}
use Rattle.erase_plan.specs.Span.{span_start, span_end}
use Rattle.erase_plan.proofs.Lists.{lt_or_le, no_true}
use Rattle.erase_plan.proofs.Planned.{plan_few}
use Rattle.commands.specs.declared.Answer.{Answer}
use Rattle.commands.specs.Script.{Kept, Script, stop, after}
use Rattle.commands.specs.Transactions.{to_page_end, parts_in, parts}
use Rattle.commands.specs.Commands.{bad_range, types_of, plan_of, erase_sectors, program, program_data}
use Rattle.commands.specs.Calls.{Call, Read, LegacyRead, ReadParams, Erase, EraseSectors, Program, ProgramData, Reset, ReadJedecId, IsBusy, IsProtected, script}
use Rattle.commands.specs.Bounds.{limit, entries, pages_of}
use Rattle.commands.proofs.Parts.{in_more, in_done, parts_pages, page_some}
use Rattle.nor_model.specs.Device.{Part, State}
use Rattle.nor_model.specs.Runs.{Times, exec}
use Rattle.nor_model.proofs.Ended.{need_case, types_case}
use Rattle.nor_model.proofs.Replies.{exec_most}

-- ---- no more pages than bytes
in_few : (f page a off n : ℕ) → length (parts_in f page a off n) ≤ f
unfolding parts_in
in_few zero page a off n = omega arith
in_few (suc f) page a off n =
    ⊎_elim (λ (h : off < n). rw (in_more f page a off n h) (omega (arith, in_few f page a (off + to_page_end page a off n) n)))
    (λ (h : n ≤ off). rw (in_done (suc f) page a off n h) (omega arith)) (lt_or_le off n)

pages_few : (w : Kept) (a n : ℕ) → pages_of w a n ≤ n
unfolding parts
pages_few w a n = omega (arith, parts_pages (page_of w.settings) a n (page_some w.settings), in_few (n - 0) (page_of w.settings) a 0 n)

entries_few : (w : Kept) (a n : ℕ) → entries w a n ≤ n
entries_few w a n = omega (arith, plan_few (types_of w) a (a + n))

module _ (p : Part) (times : Times) (s : State) (w : Kept) (sound : Sound w.settings) where
  abbrev Short : Script Answer → Type 0
  Short x = length (exec p times [] s x).sent < 2 ^ 63

  stopped : (e : Answer) → Short (stop w e)
  unfolding exec
  stopped e = omega arith

  -- so many operations
  operations : (k : ℕ) → k ≤ 2 ^ 33 → 4 + k * (2 + limit w) < 2 ^ 63
  operations k h =
      let l : 2 + limit w ≤ 65537 = omega (arith, sound.polls) in
      let m : k * (2 + limit w) ≤ 2 ^ 33 * 65537 = mul-le-mul h l in
      omega arith

  sectors_short : (a n : ℕ) → Short (erase_sectors a n w)
  unfolding after erase_sectors
  sectors_short a n = go (accepted_range w.settings a n) refl
    where
      go : (x : Bool) → accepted_range w.settings a n ≡ x → Short (erase_sectors a n w)
      go true e =
          let h : a + n ≤ 2 ^ 32 = accepted_32 w.settings a n e in
          omega (arith, exec_most p times s (EraseSectors a n) w, operations (entries w a n) (omega (arith, entries_few w a n)))
      go false e = need_case Short w _ (accepted_range w.settings a n) (bad_range (last_address a n)) (stopped _) (λ h. no_true (sym e ∙ h))

  data_short : (a : ℕ) (d : List ℕ) → Short (program_data a d w)
  unfolding after program_data exec
  data_short a [] = omega arith
  data_short a (x ∷ d) = go (accepted_range w.settings a (length (x ∷ d))) refl
    where
      n : ℕ
      n = length (x ∷ d)

      go : (y : Bool) → accepted_range w.settings a n ≡ y → Short (program_data a (x ∷ d) w)
      go true e =
          let h : a + n ≤ 2 ^ 32 = accepted_32 w.settings a n e in
          omega (arith, exec_most p times s (ProgramData a (x ∷ d)) w, operations (pages_of w a n) (omega (arith, pages_few w a n)))
      go false e = need_case Short w _ (accepted_range w.settings a n) (bad_range (last_address a n)) (stopped (bad_range (last_address a n))) (λ h. no_true (sym e ∙ h))

  program_short : (a : ℕ) (d : List ℕ) (v : Bool) → Short (program a d v w)
  unfolding after program
  program_short a d v = go (accepted_range w.settings a (length d)) refl (accepted_range w.settings b (l - b)) refl
    where
      b : ℕ
      b = span_start (plan_of w a (a + length d))

      l : ℕ
      l = span_end (plan_of w a (a + length d))

      go : (x : Bool) → accepted_range w.settings a (length d) ≡ x → (y : Bool) → accepted_range w.settings b (l - b) ≡ y → Short (program a d v w)
      go true e true f =
          let h : a + length d ≤ 2 ^ 32 = accepted_32 w.settings a (length d) e in
          let k : b + (l - b) ≤ 2 ^ 32 = accepted_32 w.settings b (l - b) f in
          omega (
            arith,
            exec_most p times s (Program a d v) w,
            operations (entries w a (length d) + pages_of w b (l - b)) (omega (arith, entries_few w a (length d), pages_few w b (l - b))),
          )
      go true e false f =
          need_case Short w _ (accepted_range w.settings a (length d)) (bad_range (last_address a (length d))) (stopped _)
          (λ _. types_case Short w _ (stopped _)
          (λ t ts q. need_case Short w _ (accepted_range w.settings b (l - b)) (bad_range (last_address b (l - b))) (stopped _) (λ h. no_true (sym f ∙ h))))
      go false e y f =
          need_case Short w _ (accepted_range w.settings a (length d)) (bad_range (last_address a (length d))) (stopped _) (λ h. no_true (sym e ∙ h))

  pub exec_short : (c : Call) → length (exec p times [] s (script c w)).sent < 2 ^ 63
  exec_short (Read a n) = omega (arith, exec_most p times s (Read a n) w)
  exec_short (LegacyRead a n) = omega (arith, exec_most p times s (LegacyRead a n) w)
  exec_short ReadParams = omega (arith, exec_most p times s ReadParams w)
  exec_short Erase = omega (arith, exec_most p times s Erase w, sound.polls)
  exec_short (EraseSectors a n) = sectors_short a n
  exec_short (Program a d v) = program_short a d v
  exec_short (ProgramData a d) = data_short a d
  exec_short Reset = omega (arith, exec_most p times s Reset w)
  exec_short ReadJedecId = omega (arith, exec_most p times s ReadJedecId w)
  exec_short IsBusy = omega (arith, exec_most p times s IsBusy w)
  exec_short IsProtected = omega (arith, exec_most p times s IsProtected w)
