-- A transaction of a script is a step: what all phases share.
use mathlib.Core.Path.{◌≡◌, refl, sym, ap, ◌∙◌, fun_ext}
use mathlib.Core.Bool.{Bool, true, false, cond}
use mathlib.Core.List.{List, []}
use mathlib.Core.Option.{Option, some, none}
use Prim.Native.Nat.{ℕ, ◌+◌, ◌^◌, ◌≤◌, ◌<◌}
use native.Mathlib.Omega.{arith}
use native.Mathlib.Nat.{mod-eq_of_lt}
use lib.Dec.{eqb}
use lib.ListN.{length, take, drop}
use borrow.Author.Tests.{le-ltb, le-leb, eqb-true}
use Rattle.commands.specs.declared.Answer.{Answer}
use Rattle.commands.specs.declared.Answer.TheVariants.{Access}
use Rattle.commands.specs.Script.{Sent, Script, send, over}
use Rattle.commands.specs.Host.{Reply, failed, got, Tree, ends as finished, asks, full, tally, tree}
use Rattle.commands.specs.Transactions.{plain, at}
use Rattle.room.specs.Room.{part_of, laid}
use Rattle.phases.specs.declared.Phase.{Phase}
use Rattle.phases.specs.declared.Phase.TheVariants.{Reading, Erasing, Writing, Polling, Verifying, Resetting, Ended}
use Rattle.flash.specs.declared.Session.{Session}
use Rattle.phases.specs.Waits.{bare, addressed, need_of}
use Rattle.flash.specs.Waits.{waits_on, event_of, told, in_phase}
use Rattle.phases.specs.Moves.{ends_as, room_after, is_ended}
use Rattle.flash.specs.Steps.{ends, advanced, counted, is_full, Taken, step_of}
use Rattle.meaning.specs.Meaning.{kept_of, sent_of, is_failed, bytes_in, takes}
use Rattle.meaning.proofs.Rest.{rest, meaning, seen}

-- ---- the room
-- what fits is laid over it
pub laid_over_lem : (at : ℕ) (bytes room : List ℕ) → at + length bytes ≤ length room → laid at bytes room ≡ over at bytes room
unfolding laid
laid_over_lem at bytes room h = rw (le-leb (at + length bytes) (length room) h)

-- a part of it that fits is sent; no part is no payload
pub part_fits : (room : List ℕ) (from len : ℕ) → from + len ≤ length room → part_of room from len ≡ take len (drop from room)
unfolding part_of
part_fits room from len h = rw (le-leb (from + len) (length room) h)

pub part_none : (room : List ℕ) → part_of room 0 0 ≡ []
part_none room = part_fits room 0 0 (omega arith)

-- ---- transactions without a payload
pub sent_bare : (op n : ℕ) (room : List ℕ) → sent_of (bare op n) room ≡ plain op n
sent_bare op n room = rw (part_none room)

pub sent_addressed : (op bytes a : ℕ) (dummy : Bool) (n : ℕ) (room : List ℕ) → sent_of (addressed op bytes a dummy n) room ≡ at op bytes a dummy n
sent_addressed op bytes a dummy n room = rw (part_none room)

-- ---- what is told of a session is its meaning
seen_phase : (s : Session) (p : Phase) (n : ℕ) (room : List ℕ) → seen (told (in_phase s p n)) room ≡ meaning (in_phase s p n) room
unfolding seen told event_of meaning rest tree
seen_phase s (Reading c) n room = refl
seen_phase s (Erasing c enabled) n room = refl
seen_phase s (Writing c enabled) n room = refl
seen_phase s (Polling c left) n room = refl
seen_phase s (Verifying c) n room = refl
seen_phase s (Resetting c) n room = refl
seen_phase s (Ended c a) n room = refl

pub seen_told : (s : Session) (room : List ℕ) → seen (told s) room ≡ meaning s room
seen_told s room = seen_phase s s.phase s.polls room

-- ---- polls do not wrap
pub counted_is : (s : Session) → s.polls + 1 < 2 ^ 64 → counted s ≡ s.polls + cond (waits_on s s.phase).poll 1 0
unfolding counted
counted_is s h = mod-eq_of_lt (on (waits_on s s.phase).poll)
  where
    on : (t : Bool) → s.polls + cond t 1 0 < 2 ^ 64
    on true = omega arith
    on false = omega arith

-- ---- a step with a full reply, and with any other
module _ (s : Session) (room : List ℕ) (runs : is_ended s.phase ≡ false) (fits : need_of s.phase ≤ length room) where
  pub step_full : (failed' : Bool) (r : List ℕ) → is_full s failed' r ≡ true
      → step_of s failed' r room ≡ record { out = told (advanced s (counted s) s.phase r room); room = room_after s.phase r room }
  unfolding step_of
  step_full failed' r e = rw (runs, le-ltb (length room) (need_of s.phase) fits, e)

  pub step_short : (failed' : Bool) (r : List ℕ) → is_full s failed' r ≡ false
      → step_of s failed' r room ≡ record { out = told (ends s (counted s) (ends_as s.phase) Access); room = room }
  unfolding step_of
  step_short failed' r e = rw (runs, le-ltb (length room) (need_of s.phase) fits, e)

  abbrev after_step : Reply → Tree
  after_step r = seen (takes s r room).out (takes s r room).room

  short_seen : (r : Reply) → is_full s (is_failed r) (bytes_in r) ≡ false → after_step r ≡ finished (record { answer = Access; polls = counted s; kept = kept_of s room })
  unfolding told event_of seen
  short_seen r e = ap (λ (x : Taken). seen x.out x.room) (step_short (is_failed r) (bytes_in r) e)

  full_seen : (r : Reply) → is_full s (is_failed r) (bytes_in r) ≡ true
      → after_step r ≡ meaning (advanced s (counted s) s.phase (bytes_in r) room) (room_after s.phase (bytes_in r) room)
  full_seen r e =
      ap (λ (x : Taken). seen x.out x.room) (step_full (is_failed r) (bytes_in r) e)
      ∙ seen_told (advanced s (counted s) s.phase (bytes_in r) room) (room_after s.phase (bytes_in r) room)

  -- a script that sends the session's transaction, and goes on as the step does
  pub sim_by : (x : Sent) (f : List ℕ → Script Answer) → s.polls + 1 < 2 ^ 64 → sent_of (waits_on s s.phase) room ≡ x
      → ((bs : List ℕ) → length bs ≡ (waits_on s s.phase).reply → tree (counted s) (f bs) ≡ meaning (advanced s (counted s) s.phase bs room) (room_after s.phase bs room))
      → tree s.polls (send (kept_of s room) x f) ≡ asks (sent_of (waits_on s s.phase) room) (λ r. seen (takes s r room).out (takes s r room).room)
  unfolding tree full tally is_full
  sim_by x f b e h = ap (λ (y : Sent). tree s.polls (send (kept_of s room) y f)) (sym e) ∙ ap (asks t) (fun_ext on)
    where
      t : Sent
      t = sent_of (waits_on s s.phase) room

      on_reply : Option (List ℕ) → Tree
      on_reply q = elim q [ some bytes ↦ tree (s.polls + tally t) (f bytes) | none ↦ finished (record { answer = Access; polls = s.polls + tally t; kept = kept_of s room }) ]

      short : (r : Reply) → is_full s (is_failed r) (bytes_in r) ≡ false
          → finished (record { answer = Access; polls = s.polls + tally t; kept = kept_of s room }) ≡ after_step r
      short r e = ap (λ (n : ℕ). finished (record { answer = Access; polls = n; kept = kept_of s room })) (sym (counted_is s b)) ∙ sym (short_seen r e)

      by : (bs : List ℕ) (q : Bool) → eqb (length bs) t.reply ≡ q
          → on_reply (cond q (some bs) none) ≡ after_step (got bs)
      by bs true e =
          ap (λ (n : ℕ). tree n (f bs)) (sym (counted_is s b)) ∙ h bs (eqb-true (length bs) t.reply e) ∙ sym (full_seen (got bs) e)
      by bs false e = short (got bs) e

      on : (r : Reply) → on_reply (full t.reply r) ≡ after_step r
      on failed = short failed refl
      on (got bs) = by bs (eqb (length bs) t.reply) refl

-- the step of a phase, as it is to be proved
abbrev pub Means : Session → Phase → ℕ → List ℕ → Type 0
Means s p n room =
    let s' = in_phase s p n in
    meaning s' room ≡ asks (sent_of (waits_on s' p) room) (λ r. seen (takes s' r room).out (takes s' r room).room)
