-- The step of every running session, and the host that goes by the events.
use Rattle.std.proofs.Common.{Result, Ok, Err}
use mathlib.Core.Path.{◌≡◌, refl, sym, ap, ◌∙◌}
use mathlib.Core.Bool.{Bool, true, false, cond}
use mathlib.Core.List.{List, [], ◌∷◌}
use mathlib.Core.Option.{Option, none}
use Prim.Native.Nat.{ℕ, ◌+◌, ◌^◌, ◌≤◌, ◌<◌}
use native.Mathlib.Omega.{arith}
use lib.ListN.{length}
use Rattle.sfdp.specs.declared.FlashParams.{FlashParams}
use Rattle.sfdp.specs.declared.SFDPError.{SFDPError}
use Rattle.sfdp.specs.Jesd216.{read_table}
use Rattle.erase_plan.specs.Good.{Each}
use Rattle.erase_plan.proofs.Lists.{no_true, no_false}
use Rattle.commands.specs.declared.Answer.{Answer}
use Rattle.commands.specs.declared.Answer.TheVariants.{Access}
use Rattle.commands.specs.Script.{Sent}
use Rattle.commands.specs.Host.{Reply, Outcome, Tree, play}
use Rattle.phases.specs.declared.ReadCommand.{ReadCommand}
use Rattle.phases.specs.declared.ReadCommand.TheVariants as Reads
use Rattle.phases.specs.declared.Phase.{Phase}
use Rattle.phases.specs.declared.Phase.TheVariants.{Reading, Erasing, Writing, Polling, Verifying, Resetting, Ended}
use Rattle.flash.specs.declared.Session.{Session}
use Rattle.phases.specs.declared.Transaction.{Transaction}
use Rattle.flash.specs.declared.Event.TheVariants.{Send, Answered}
use Rattle.flash.specs.declared.Stepped.{Stepped}
use Rattle.phases.specs.Waits.{need_of}
use Rattle.flash.specs.Waits.{waits_on, event_of, told}
use Rattle.phases.specs.Moves.{ends_as, room_after, is_ended}
use Rattle.flash.specs.Steps.{ends, with_table, read_on, advanced, counted, is_full, Taken}
use Rattle.meaning.specs.Meaning.{sent_of, is_failed, bytes_in, takes, Bytes, follow}
use Rattle.meaning.proofs.Rest.{seen, Fit, FitPhase, StepMeans}
use Rattle.meaning.proofs.Stepping.{seen_told, counted_is, step_full, step_short, Means}
use Rattle.meaning.proofs.Reading.{reading}
use Rattle.meaning.proofs.Working.{erasing, writing, polling, verifying, resetting}
use Rattle.meaning.proofs.Fitting.{Within, goes_on_lem, room_kept}

phase_means : (p : Phase) (s : Session) (n : ℕ) (room : List ℕ) → FitPhase s p → is_ended p ≡ false → need_of p ≤ length room → n + 1 < 2 ^ 64 → Means s p n room
unfolding need_of is_ended
phase_means (Reading c) s n room o e h b = reading c s n room o h b
phase_means (Erasing c enabled) s n room o e h b = erasing c enabled s n room h b
phase_means (Writing c enabled) s n room o e h b = writing c enabled s n room o h b
phase_means (Polling c left) s n room o e h b = polling c left s n room o h b
phase_means (Verifying c) s n room o e h b = verifying c s n room o h b
phase_means (Resetting c) s n room o e h b = resetting c s n room b
phase_means (Ended c a) s n room o e h b = no_false e

-- THE STEP: the meaning of a running session asks for its transaction, and goes on as the step does
pub step_means : StepMeans
step_means s room o e h b = phase_means s.phase s s.polls room o e h b

-- ---- polls: the next session has those that were counted
tabled_polls : (s : Session) (n : ℕ) (t : Result FlashParams SFDPError) → (with_table s n t).polls ≡ n
unfolding with_table
tabled_polls s n (Err e) = refl
tabled_polls s n (Ok p) = refl

read_polls : (s : Session) (n : ℕ) (c : ReadCommand) (r : List ℕ) → (read_on s n c r).polls ≡ n
unfolding read_on
read_polls s n (Reads.Read legacy a k) r = refl
read_polls s n Reads.Header r = refl
read_polls s n (Reads.Headers more) r = refl
read_polls s n (Reads.Table minor plen ptp) r = tabled_polls s n (read_table minor plen r)
read_polls s n (Reads.Before J) r = refl
read_polls s n (Reads.After J) r = refl
read_polls s n Reads.Id r = refl
read_polls s n Reads.IdAgain r = refl
read_polls s n Reads.Protected r = refl

next_polls : (p : Phase) (s : Session) (n : ℕ) (r room : List ℕ) → is_ended p ≡ false → (advanced s n p r room).polls ≡ n
unfolding advanced is_ended
next_polls (Reading c) s n r room e = read_polls s n c r
next_polls (Erasing c true) s n r room e = refl
next_polls (Erasing c false) s n r room e = refl
next_polls (Writing c true) s n r room e = refl
next_polls (Writing c false) s n r room e = refl
next_polls (Polling c left) s n r room e = refl
next_polls (Verifying c) s n r room e = refl
next_polls (Resetting c) s n r room e = refl
next_polls (Ended c a) s n r room e = no_false e

-- ---- what a step of a running session with enough room hands back
pub record Onward (s : Session) (room : List ℕ) (r : Reply) : Type 0 where
  pub session : Session
  pub lent : List ℕ
  pub is : takes s r room ≡ record { out = told session; room = lent }
  pub fits : Fit session
  pub enough : need_of session.phase ≤ length lent
  pub few : session.polls ≤ s.polls + 1

pub onward : (s : Session) (room : List ℕ) (r : Reply) → Bytes (bytes_in r) → Fit s → is_ended s.phase ≡ false → need_of s.phase ≤ length room
    → s.polls + 1 < 2 ^ 64 → Onward s room r
unfolding need_of
onward s room r b o e h l = on (is_full s (is_failed r) (bytes_in r)) refl
  where
    few : counted s ≤ s.polls + 1
    few = rw (counted_is s l) (at_most (waits_on s s.phase).poll)
      where
        at_most : (t : Bool) → s.polls + cond t 1 0 ≤ s.polls + 1
        at_most true = omega arith
        at_most false = omega arith

    on : (t : Bool) → is_full s (is_failed r) (bytes_in r) ≡ t → Onward s room r
    on true t =
        let w : Within (need_of s.phase) (advanced s (counted s) s.phase (bytes_in r) room) = goes_on_lem s.phase s (counted s) (bytes_in r) room e b o in
        record {
          session = advanced s (counted s) s.phase (bytes_in r) room;
          lent = room_after s.phase (bytes_in r) room;
          is = step_full s room e h (is_failed r) (bytes_in r) t;
          fits = w.fits;
          enough = omega (arith, w.most, room_kept s.phase (bytes_in r) room);
          few = omega (arith, few, next_polls s.phase s (counted s) (bytes_in r) room e);
        }
    on false t =
        record {
          session = ends s (counted s) (ends_as s.phase) Access;
          lent = room;
          is = step_short s room e h (is_failed r) (bytes_in r) t;
          fits = tt;
          enough = omega arith;
          few = few;
        }

-- ---- events
event_runs : (s : Session) (p : Phase) → is_ended p ≡ false → event_of s p ≡ Send (waits_on s p)
unfolding event_of is_ended
event_runs s (Reading c) e = refl
event_runs s (Erasing c enabled) e = refl
event_runs s (Writing c enabled) e = refl
event_runs s (Polling c left) e = refl
event_runs s (Verifying c) e = refl
event_runs s (Resetting c) e = refl
event_runs s (Ended c a) e = no_false e

told_runs : (s : Session) → is_ended s.phase ≡ false → (told s).event ≡ Send (waits_on s s.phase)
unfolding told
told_runs s e = event_runs s s.phase e

-- an answer is the end, whatever the replies
pub answer_follows : (x : Stepped) (room : List ℕ) (rs : List Reply) (a : Answer) (n : ℕ) → x.event ≡ Answered a n → follow x room rs ≡ play (seen x room) rs
unfolding follow play seen
answer_follows x room [] a n e = rw e
answer_follows x room (r ∷ rs) a n e = rw e

event_ends : (p : Phase) (s : Session) → is_ended p ≡ true → (a : Answer) × (event_of s p ≡ Answered a s.polls)
unfolding event_of is_ended
event_ends (Reading c) s e = no_true e
event_ends (Erasing c enabled) s e = no_true e
event_ends (Writing c enabled) s e = no_true e
event_ends (Polling c left) s e = no_true e
event_ends (Verifying c) s e = no_true e
event_ends (Resetting c) s e = no_true e
event_ends (Ended c a) s e = (a, refl)

ended_follows : (s : Session) (room : List ℕ) (rs : List Reply) → is_ended s.phase ≡ true → follow (told s) room rs ≡ play (seen (told s) room) rs
unfolding told
ended_follows s room rs e = let x = event_ends s.phase s e in answer_follows (told s) room rs x.0 s.polls x.1

-- a transaction goes out, and its reply to the step
sends_last : (x : Stepped) (room : List ℕ) (t : Transaction) → x.event ≡ Send t → follow x room [] ≡ (sent_of t room ∷ [], none)
unfolding follow
sends_last x room t e = rw e

sends_on : (x : Stepped) (room : List ℕ) (t : Transaction) (r : Reply) (rs : List Reply) → x.event ≡ Send t
    → follow x room (r ∷ rs) ≡ (
      sent_of t room ∷ (follow (takes x.session r room).out (takes x.session r room).room rs).0,
      (follow (takes x.session r room).out (takes x.session r room).room rs).1,
    )
unfolding follow
sends_on x room t r rs e = rw e

-- ---- THE HOST, from any session on: a running one with enough room, or an ended one
last_sent : (s : Session) (room : List ℕ) → Fit s → is_ended s.phase ≡ false → need_of s.phase ≤ length room → s.polls + 1 < 2 ^ 64
    → follow (told s) room [] ≡ play (seen (told s) room) []
unfolding play
last_sent s room o e h l =
    sends_last (told s) room (waits_on s s.phase) (told_runs s e)
    ∙ ap (λ (t : Tree). play t []) (sym (seen_told s room ∙ step_means s room o e h l))

next_sent : (s : Session) (room : List ℕ) (r : Reply) (rs : List Reply) → Fit s → is_ended s.phase ≡ false → need_of s.phase ≤ length room → s.polls + 1 < 2 ^ 64
    → (x : Onward s room r) → follow (told x.session) x.lent rs ≡ play (seen (told x.session) x.lent) rs
    → follow (told s) room (r ∷ rs) ≡ play (seen (told s) room) (r ∷ rs)
unfolding play told
next_sent s room r rs o e h l x i =
    sends_on (told s) room (waits_on s s.phase) r rs (told_runs s e)
    ∙ ap (λ (q : List Sent × Option Outcome). (sent_of (waits_on s s.phase) room ∷ q.0, q.1)) same
    ∙ ap (λ (t : Tree). play t (r ∷ rs)) (sym (seen_told s room ∙ step_means s room o e h l))
  where
    same : follow (takes s r room).out (takes s r room).room rs ≡ play (seen (takes s r room).out (takes s r room).room) rs
    same =
        ap (λ (y : Taken). follow y.out y.room rs) x.is
        ∙ i
        ∙ ap (λ (y : Taken). play (seen y.out y.room) rs) (sym x.is)

pub follows_told : (rs : List Reply) (s : Session) (room : List ℕ) → Each (λ (r : Reply). Bytes (bytes_in r)) rs → Fit s → need_of s.phase ≤ length room
    → s.polls + length rs + 1 < 2 ^ 64 → follow (told s) room rs ≡ play (seen (told s) room) rs
follows_told [] s room b o h l = on (is_ended s.phase) refl
  where
    on : (t : Bool) → is_ended s.phase ≡ t → follow (told s) room [] ≡ play (seen (told s) room) []
    on true e = ended_follows s room [] e
    on false e = last_sent s room o e h (omega arith)
follows_told (r ∷ rs) s room b o h l =
    on (is_ended s.phase) refl (λ x. follows_told rs x.session x.lent b.1 x.fits x.enough (omega (arith, x.few)))
  where
    on : (t : Bool) → is_ended s.phase ≡ t
        → ((x : Onward s room r) → follow (told x.session) x.lent rs ≡ play (seen (told x.session) x.lent) rs)
        → follow (told s) room (r ∷ rs) ≡ play (seen (told s) room) (r ∷ rs)
    on true e i = ended_follows s room (r ∷ rs) e
    on false e i =
        let k : s.polls + 1 < 2 ^ 64 = omega arith in
        let x : Onward s room r = onward s room r b.0 o e h k in
        next_sent s room r rs o e h k x (i x)

-- what a start may give: an answer, or what is told of a session that fits, has enough room and no polls yet
pub data Given (room : List ℕ) : Stepped → Type 0 where
  answers : {x : Stepped} (a : Answer) (n : ℕ) → x.event ≡ Answered a n → Given room x
  tells : (s : Session) → Fit s → need_of s.phase ≤ length room → s.polls ≡ 0 → Given room (told s)

pub follows : (x : Stepped) (room : List ℕ) → Given room x → (rs : List Reply) → Each (λ (r : Reply). Bytes (bytes_in r)) rs → length rs + 1 < 2 ^ 64
    → follow x room rs ≡ play (seen x room) rs
follows x room (answers a n e) rs b l = answer_follows x room rs a n e
follows x room (tells s o h z) rs b l = follows_told rs s room b o h (omega (arith, z))
