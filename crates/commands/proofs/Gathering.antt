-- The room of a program: its data, and what it has read around them.
use mathlib.Core.Path.{◌≡◌, refl, sym, ap, ◌∙◌}
use mathlib.Core.Bool.{Bool, true, false}
use mathlib.Core.Logic.{⊎_elim}
use mathlib.Core.List.{List, [], ◌∷◌}
use mathlib.Core.Option.{Option, some, none}
use Prim.Native.Nat.{ℕ, suc, ◌+◌, ◌-◌, ◌≤◌}
use native.Mathlib.Omega.{arith}
use lib.Dec.{eqb, ltb}
use lib.ListN.{length, take, drop}
use lib.Seq.{take-append_seam}
use borrow.Author.Tests.{ltb-true, ltb-false}
use Rattle.settings.specs.Limits.{page_of}
use Rattle.erase_plan.specs.declared.EraseEntry.{EraseEntry}
use Rattle.erase_plan.specs.Good.{Each}
use Rattle.erase_plan.proofs.Lists.{no_true}
use Rattle.commands.specs.declared.Answer.{Answer}
use Rattle.commands.specs.declared.Answer.TheVariants.{Done, ReadbackError, Access}
use Rattle.commands.specs.Script.{Sent, Kept, after, give, when, roomed, over, each}
use Rattle.commands.specs.Host.{Reply, Outcome, tree, play}
use Rattle.commands.specs.Transactions.{erase_block, page_program, operation, parts, bytes_of, write_part}
use Rattle.commands.specs.Commands.{plan_of, erase_one, mismatch, judge, verify, written, Job, writing, erasing, read_after, read_before}
use Rattle.commands.specs.Leaves.{refused, Beyond, fetched, gathered}
use Rattle.commands.proofs.Hosts.{Fails}
use Rattle.commands.proofs.Endings.{along, Ends, ends_then, ends_each, ends_operation, Sized, ends_host}
use Rattle.commands.proofs.Rooms.{over_nil, over_here, over_rest, over_before, beyond_over, beyond_more}
use Rattle.commands.proofs.Checks.{Placed}
use Rattle.commands.proofs.Fetching.{Reads, fetch_case, gathered_none, gathered_before, gathered_both}

-- ---- once the reads are done nothing is stored, and no answer is a refusal
abbrev Stayed : Kept → Kept → Answer → Type 0
Stayed w w' e = (refused e ≡ false) × (w' ≡ w)

-- the first differing byte is answer 1
mismatch_refused : (a : ℕ) (l r : List ℕ) (e : Answer) → mismatch a l r ≡ some e → refused e ≡ false
unfolding mismatch refused
mismatch_refused a [] r e h = let z : ◌≡◌ {A = ℕ} 0 1 = cc in absurd (omega arith)
mismatch_refused a (x ∷ l) [] e h = let z : ◌≡◌ {A = ℕ} 0 1 = cc in absurd (omega arith)
mismatch_refused a (x ∷ l) (y ∷ r) e h = go (eqb x y) (mismatch_refused (suc a) l r e) h
  where
    go : (b : Bool) → (mismatch (suc a) l r ≡ some e → refused e ≡ false)
        → ◌≡◌ {A = Option Answer} (elim b [ true ↦ mismatch (suc a) l r | false ↦ some (ReadbackError a x y) ]) (some e) → refused e ≡ false
    go true k h = k h
    go false k h = let q : e ≡ ReadbackError a x y = cc in rw q

module _ (w : Kept) where
  stays_operation : (s : Sent) → Ends Sized (Stayed w) (λ a w'. w' ≡ w) (operation s w)
  unfolding refused
  stays_operation s = ends_operation Sized (Stayed w) w (refl, refl) (refl, refl) s

  stays_verify : (t : Bool) (a : ℕ) (l : List ℕ) → Ends Sized (Stayed w) (λ u w'. w' ≡ w) (when t (verify a l) w)
  unfolding after refused
  stays_verify true a l = ((refl, refl), λ r h. go (mismatch a l r) (mismatch_refused a l r))
    where
      go : (x : Option Answer) → ((e : Answer) → x ≡ some e → refused e ≡ false) → Ends Sized (Stayed w) (λ u w'. w' ≡ w) (judge x w)
      go none k = refl
      go (some e) k = ((refl, refl), λ r h. (k e refl, refl))
  stays_verify false a l = refl

  stays_writing : (J : Job) (n : ℕ) → Ends Sized (Stayed w) (λ a w'. Stayed w w' a) (writing J n 0 w)
  unfolding refused
  stays_writing J n =
      ends_then Sized (Stayed w) w (λ a w'. Stayed w w' a) (each (write_part J.base w.room) (parts (page_of w.settings) J.base 0 n) w) _
      (ends_each Sized (Stayed w) (write_part J.base w.room) w (λ p. stays_operation (page_program w (J.base + p.off) (bytes_of w.room p)))
      (parts (page_of w.settings) J.base 0 n))
      (λ u. ends_then Sized (Stayed w) w (λ a w'. Stayed w w' a) (when J.verified (verify J.base (take n w.room)) w) (λ u. give Done)
      (stays_verify J.verified J.base (take n w.room)) (λ u. (refl, refl)))

  stays_erasing : (J : Job) (es : List EraseEntry) → Ends Sized (Stayed w) (λ a w'. Stayed w w' a) (erasing J es w)
  stays_erasing J es =
      ends_then Sized (Stayed w) w (λ a w'. Stayed w w' a) (each erase_one es w) _
      (ends_each Sized (Stayed w) erase_one w (λ e. stays_operation (erase_block w.settings e)) es)
      (λ u. stays_writing J (written (J.end - J.base) (J.last - J.base) w.room))

failing : (o : Outcome) → o.answer ≡ Access → refused o.answer ≡ false
unfolding refused
failing o e = rw e

-- ---- the two reads
-- what a program leaves, with the data laid in: the bytes that came
pub record Gathered (J : Job) (laid : List ℕ) (new : List ℕ) : Type 0 where
  pub before : List ℕ
  pub behind : List ℕ
  pub short_before : length before ≤ J.from - J.base
  pub short_behind : length behind ≤ J.last - J.end
  pub room : new ≡ over (J.end - J.base) behind (over 0 before laid)

pub record Programmed (J : Job) (d : List ℕ) (w : Kept) (rs : List Reply) (sent : List Sent) (o : Outcome) : Type 0 where
  pub answer : refused o.answer ≡ false
  pub kept : o.kept ≡ roomed w o.kept.room
  pub bytes : Gathered J (over (J.from - J.base) d w.room) o.kept.room
  pub room : o.kept.room ≡ (gathered J rs (over (J.from - J.base) d w.room)).1
  pub broken : (gathered J rs (over (J.from - J.base) d w.room)).0 ≡ false → (o.answer ≡ Access) × Each (λ (s : Sent). s.opcode ≡ 0x0B) sent

module _ (J : Job) (d : List ℕ) (w : Kept) where
  abbrev laid : Kept
  laid = roomed w (over (J.from - J.base) d w.room)

  room_of : (w' : Kept) (o : Outcome) → o.kept ≡ w' → o.kept.room ≡ w'.room
  room_of w' o e = ap (λ (x : Kept). x.room) e

  after_case : (before : List ℕ) (rest : List Reply) (m : ℕ) (rs : List Reply) (sent : List Sent) (o : Outcome)
      → length before ≤ J.from - J.base → fetched (J.from - J.base) rs ≡ some (before, rest)
      → (play (tree m (read_after J (roomed laid (over 0 before laid.room)))) rest).1 ≡ some o
      → (Reads (play (tree m (read_after J (roomed laid (over 0 before laid.room)))) rest).0 → Reads sent) → Programmed J d w rs sent o
  after_case before rest m rs sent o l c e f =
      ⊎_elim
      (λ g. let f' : Fails w' o = g.fails o e in
      record {
        answer = failing o f'.1;
        kept = along (λ (x : Kept). x ≡ roomed w x.room) f'.0 refl;
        bytes = record {
          before = before;
          behind = [];
          short_before = l;
          short_behind = omega arith;
          room = room_of w' o f'.0 ∙ sym (over_nil (J.end - J.base) w'.room);
        };
        room = room_of w' o f'.0 ∙ sym (ap (λ (x : Bool × List ℕ). x.1) (gathered_before J rs laid.room before rest c g.missing));
        broken = λ _. (f'.1, f g.reads);
      })
      (λ g. let w'' : Kept = roomed w' (over (J.end - J.base) g.bytes w'.room) in
      let s : Stayed w'' o.kept o.answer =
      ends_host (Stayed w'') (erasing J (plan_of w'' J.from J.end) w'') (stays_erasing w'' J (plan_of w'' J.from J.end)) g.behind g.rest o (sym g.goes ∙ e) in
      record {
        answer = s.0;
        kept = along (λ (x : Kept). x ≡ roomed w x.room) s.1 refl;
        bytes = record { before = before; behind = g.bytes; short_before = l; short_behind = g.short; room = room_of w'' o s.1 };
        room = room_of w'' o s.1 ∙ sym (ap (λ (x : Bool × List ℕ). x.1) (gathered_both J rs laid.room before g.bytes rest g.rest c g.came));
        broken = λ h. no_true (sym h ∙ ap (λ (x : Bool × List ℕ). x.0) (gathered_both J rs laid.room before g.bytes rest g.rest c g.came));
      })
      (fetch_case (ltb J.end J.last) (J.end - J.base) J.end (J.last - J.end) w' _ (λ t. omega (arith, ltb-true J.end J.last t))
      (λ t. omega (arith, ltb-false J.end J.last t)) m rest)
    where
      w' : Kept
      w' = roomed laid (over 0 before laid.room)

  pub before_case : (rs : List Reply) (o : Outcome) → (play (tree 0 (read_before J laid)) rs).1 ≡ some o → Programmed J d w rs (play (tree 0 (read_before J laid)) rs).0 o
  before_case rs o e =
      ⊎_elim
      (λ f. let f' : Fails laid o = f.fails o e in
      record {
        answer = failing o f'.1;
        kept = along (λ (x : Kept). x ≡ roomed w x.room) f'.0 refl;
        bytes = record {
          before = [];
          behind = [];
          short_before = omega arith;
          short_behind = omega arith;
          room = room_of laid o f'.0 ∙ sym (over_nil 0 laid.room) ∙ sym (over_nil (J.end - J.base) (over 0 [] laid.room));
        };
        room = room_of laid o f'.0 ∙ sym (ap (λ (x : Bool × List ℕ). x.1) (gathered_none J rs laid.room f.missing));
        broken = λ _. (f'.1, f.reads);
      })
      (λ g. after_case g.bytes g.rest g.behind rs _ o g.short g.came (sym g.goes ∙ e) g.reads)
      (fetch_case (ltb J.base J.from) 0 J.base (J.from - J.base) laid _ (λ t. omega (arith, ltb-true J.base J.from t))
      (λ t. omega (arith, ltb-false J.base J.from t)) 0 rs)

-- ---- the room so gathered
module _ (J : Job) (d old new : List ℕ) (p : Placed J (length d) (length old)) (g : Gathered J (over (J.from - J.base) d old) new) where
  ahead : List ℕ
  ahead = over (J.from - J.base) d old

  both : List ℕ
  both = over 0 g.before (over (J.from - J.base) d old)

  beyond_ahead : Beyond (J.last - J.base) old ahead
  unfolding ahead
  beyond_ahead = beyond_over (J.last - J.base) (J.from - J.base) d old (omega arith) p.fits

  beyond_both : Beyond (J.last - J.base) old both
  unfolding both ahead
  beyond_both = beyond_more (J.last - J.base) 0 g.before old ahead (omega (arith, g.short_before)) p.fits beyond_ahead

  pub gathered_beyond : Beyond (J.last - J.base) old new
  unfolding both
  gathered_beyond =
      rw g.room (beyond_more (J.last - J.base) (J.end - J.base) g.behind old both (omega (arith, g.short_behind)) p.fits beyond_both)

  -- the data stand where they were laid
  pub gathered_data : take (length d) (drop (J.from - J.base) new) ≡ d
  unfolding both ahead
  gathered_data =
      let at : ℕ = J.from - J.base in
      let e : J.end - J.base ≡ at + length d = omega arith in
      ap (λ (x : List ℕ). take (length d) (drop at x)) g.room
      ∙ ap (λ (n : ℕ). take (length d) (drop at (over n g.behind both))) e
      ∙ over_before at (length d) g.behind both (omega (arith, beyond_both.long))
      ∙ ap (take (length d)) (over_rest at 0 g.before ahead (omega arith) (omega (arith, g.short_before)))
      ∙ ap (take (length d)) (over_here at d old (omega arith))
      ∙ take-append_seam d (drop (at + length d) old)
