-- What read_params leaves.
use Rattle.std.proofs.Common.{Result, Ok, Err}
use mathlib.Core.Path.{◌≡◌, refl, ap, subst}
use mathlib.Core.Bool.{Bool, true, false, cond}
use mathlib.Core.Logic.{⊎_elim}
use mathlib.Core.List.{List, [], ◌∷◌}
use mathlib.Core.Option.{some}
use Prim.Native.Nat.{ℕ, zero, suc, ◌+◌, ◌*◌, ◌≤◌, ◌<◌}
use native.Mathlib.Omega.{arith}
use lib.ListN.{length}
use Rattle.sfdp.specs.declared.FlashParams.{FlashParams}
use Rattle.sfdp.specs.declared.SFDPError.{SFDPError}
use Rattle.sfdp.specs.declared.SFDPError.TheVariants as Refusal
use Rattle.dwords.specs.Dwords.{byte_at}
use Rattle.sfdp.specs.Jesd216.{headers, signed, basic, parameter_header, read_header, read_table}
use Rattle.sfdp.specs.declared.SFDPParameterHeader.{SFDPParameterHeader}
use Rattle.settings.specs.Updated.{updated}
use Rattle.erase_plan.specs.Good.{Each}
use Rattle.commands.specs.declared.Answer.{Answer}
use Rattle.commands.specs.Answers.{refusal_of}
use Rattle.commands.specs.declared.Answer.TheVariants.{Done, Access}
use Rattle.commands.specs.Script.{Kept, send, after, ◌>>=◌, roomed, over}
use Rattle.commands.specs.Host.{Reply, got, Outcome, tree, play}
use Rattle.commands.specs.Transactions.{read_sfdp}
use Rattle.commands.specs.Commands.{fetch_sfdp, with_table, with_header}
use Rattle.commands.specs.Leaves.{refused, OfBytes, Beyond}
use Rattle.commands.proofs.Hosts.{one_sent, at_done, at_stop}
use Rattle.commands.proofs.Endings.{along}
use Rattle.commands.proofs.Rooms.{beyond_same, beyond_more}

-- ---- bytes
byte_below : (l : List ℕ) (i : ℕ) → Each (λ (x : ℕ). x < 256) l → byte_at l i < 256
unfolding byte_at
byte_below [] zero h = omega arith
byte_below [] (suc i) h = omega arith
byte_below (x ∷ l) zero h = h.0
byte_below (x ∷ l) (suc i) h = byte_below l i h.1

-- the header that is found has a count of dwords that is a byte of the reply
header_count : (l : List ℕ) (h : SFDPParameterHeader) → read_header l ≡ Ok h → h.plen ≡ byte_at l (8 + 3)
unfolding read_header parameter_header
header_count l h e = go (signed l) (basic (parameter_header l 8)) e
  where
    go : (a b : Bool) → ◌≡◌ {A = Result SFDPParameterHeader SFDPError} (cond a (cond b (Ok (parameter_header l 8)) (Err Refusal.InvalidSFDPHeader)) (Err Refusal.NoSFDP)) (Ok h)
        → h.plen ≡ byte_at l (8 + 3)
    go true true e = let q : h ≡ parameter_header l 8 = cc in ap (λ (x : SFDPParameterHeader). x.plen) q
    go true false e = let z : ◌≡◌ {A = ℕ} 0 1 = cc in absurd (omega arith)
    go false true e = let z : ◌≡◌ {A = ℕ} 0 1 = cc in absurd (omega arith)
    go false false e = let z : ◌≡◌ {A = ℕ} 0 1 = cc in absurd (omega arith)

-- an area that is refused ends the command, which was not refused
reported : (x : SFDPError) → refused (refusal_of x) ≡ false
unfolding refused
reported Refusal.NoSFDP = refl
reported Refusal.InvalidSFDPHeader = refl
reported Refusal.InvalidSFDPParams = refl

-- ---- what is left: no refusal; settings and parameters as they were unless Done; and, where B holds, the room beyond 2,056 bytes
pub record Learnt (B : Type 0) (w : Kept) (o : Outcome) : Type 0 where
  pub answer : refused o.answer ≡ false
  pub settled : (o.answer ≡ Done → ⊥) → o.kept ≡ roomed w o.kept.room
  pub beyond : B → Beyond 2056 w.room o.kept.room

module _ (B : Type 0) (w : Kept) (long : 2056 ≤ length w.room) where
  -- the command ends with this room
  ending : (l : List ℕ) (o : Outcome) (e : Answer) → refused e ≡ false → (B → Beyond 2056 w.room l) → o.kept ≡ roomed w l → o.answer ≡ e → Learnt B w o
  ending l o e a b k q =
      record {
        answer = rw q a;
        settled = λ _. along (λ (x : Kept). x ≡ roomed w x.room) k refl;
        beyond = λ h. along (λ (x : Kept). Beyond 2056 w.room x.room) k (b h);
      }

  -- a reply laid over it
  more : (r l : List ℕ) → (B → length r ≤ 2056) → (B → Beyond 2056 w.room l) → B → Beyond 2056 w.room (over 0 r l)
  more r l s b h = beyond_more 2056 0 r w.room l (omega (arith, s h)) long (b h)

  table_case : (p : Result FlashParams SFDPError) (l : List ℕ) → (B → Beyond 2056 w.room l) → (m : ℕ) (rs : List Reply) (o : Outcome)
      → (play (tree m (with_table p (roomed w l))) rs).1 ≡ some o → Learnt B w o
  unfolding after refused
  table_case (Err x) l b m rs o e =
      let q = at_stop (roomed w l) (refusal_of x) m rs o e in
      ending l o (refusal_of x) (reported x) b q.0 q.1
  table_case (Ok p) l b m rs o e =
      let q = at_done (record { settings = updated w.settings p; known = true; params = p; room = l }) Done m rs o e in
      record {
        answer = rw q.1;
        settled = λ n. absurd (n q.1);
        beyond = λ h. along (λ (x : Kept). Beyond 2056 w.room x.room) q.0 (b h);
      }

  header_case : (p : Result SFDPParameterHeader SFDPError) (l : List ℕ) → ((h : SFDPParameterHeader) → p ≡ Ok h → B → h.plen < 256) → (B → Beyond 2056 w.room l)
      → (m : ℕ) (rs : List Reply) (o : Outcome) → (play (tree m (with_header p (roomed w l))) rs).1 ≡ some o → Learnt B w o
  unfolding after refused
  header_case (Err x) l c b m rs o e =
      let q = at_stop (roomed w l) (refusal_of x) m rs o e in
      ending l o (refusal_of x) (reported x) b q.0 q.1
  header_case (Ok h) l c b m rs o e =
      ⊎_elim (λ f. ending l o Access refl b f.0 f.1)
      (λ g. table_case (read_table h.minor h.plen g.bytes) (over 0 g.bytes l) (more g.bytes l (λ x. omega (arith, g.sized, c h refl x)) b) g.behind g.rest o g.goes)
      (one_sent (roomed w l) (read_sfdp h.ptp (4 * h.plen)) (λ r. with_table (read_table h.minor h.plen r) (roomed w (over 0 r l))) m rs o e)

  -- the second reply, of 8 + 8 × count bytes
  second_case : (n : ℕ) (l : List ℕ) → (B → n ≤ 256) → (B → Beyond 2056 w.room l) → (m : ℕ) (rs : List Reply) (o : Outcome) → (B → Each OfBytes rs)
      → (play (tree m (send (roomed w l) (read_sfdp 0 (8 + 8 * n)) (λ r. with_header (read_header r) (roomed w (over 0 r l))))) rs).1 ≡ some o → Learnt B w o
  unfolding refused
  second_case n l c b m rs o y e =
      ⊎_elim (λ f. ending l o Access refl b f.0 f.1)
      (λ g. header_case (read_header g.bytes) (over 0 g.bytes l)
      (λ h q x. omega (arith, header_count g.bytes h q, byte_below g.bytes (8 + 3) (subst (Each OfBytes) g.are (y x)).0))
      (more g.bytes l (λ x. omega (arith, g.sized, c x)) b) g.behind g.rest o g.goes)
      (one_sent (roomed w l) (read_sfdp 0 (8 + 8 * n)) (λ r. with_header (read_header r) (roomed w (over 0 r l))) m rs o e)

-- all three reads
pub params_learnt : (w : Kept) → 2056 ≤ length w.room → (rs : List Reply) (o : Outcome)
    → (play (tree 0 ((do
      r ← fetch_sfdp 0 8
      r' ← fetch_sfdp 0 (8 + 8 * headers r)
      with_header (read_header r')) w)) rs).1 ≡ some o → Learnt (Each OfBytes rs) w o
unfolding after refused
params_learnt w long rs o e =
    ⊎_elim (λ f. ending (Each OfBytes rs) w long w.room o Access refl (λ _. beyond_same 2056 w.room) f.0 f.1)
    (λ g. let bytes : Each OfBytes rs → Each OfBytes (got g.bytes ∷ g.rest) = subst (Each OfBytes) g.are in
    second_case (Each OfBytes rs) w long (headers g.bytes) (over 0 g.bytes w.room) (λ x. omega (arith, byte_below g.bytes 6 (bytes x).0))
    (more (Each OfBytes rs) w long g.bytes w.room (λ x. omega (arith, g.sized)) (λ _. beyond_same 2056 w.room)) g.behind g.rest o
    (λ x. (bytes x).1) g.goes)
    (one_sent w (read_sfdp 0 8)
    (λ r. send (roomed w (over 0 r w.room)) (read_sfdp 0 (8 + 8 * headers r)) (λ r'. with_header (read_header r') (roomed w (over 0 r' (over 0 r w.room))))) 0 rs o e)
