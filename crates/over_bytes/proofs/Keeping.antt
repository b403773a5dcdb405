-- Demand 3 through packed bytes: every sequence of commands and setters.
use mathlib.Core.Path.{◌≡◌, refl, sym, ap, ◌∙◌, subst}
use mathlib.Core.List.{List, [], ◌∷◌}
use Prim.Native.Nat.{ℕ, ◌<◌}
use Rattle.erase_plan.specs.Good.{Each}
use Rattle.commands.specs.Calls.{Call}
use Rattle.flash.specs.declared.Session.{Session}
use Rattle.flash.specs.Starts.{fresh}
use Rattle.meaning.specs.Meaning.{kept_of, Idle}
use Rattle.packed.specs.Layout.{bytes_of}
use Rattle.rule.specs.Kept.{Whole}
use Rattle.rule.proofs.Whole.{keeps_whole}
use Rattle.nor_model.specs.Device.{Part}
use Rattle.nor_model.specs.Replay.{replay}
use Rattle.nor_model.specs.Runs.{Times}
use Rattle.nor_model.specs.Demand3.{Setter, Act, Command, Setting, Assumed, Promised}
use Rattle.nor_model.proofs.Sequences.{Stands}
use Rattle.on_part.specs.OnPart as Value
use Rattle.on_part.proofs.Serving.{served_bytes}
use Rattle.on_part.proofs.Instances.{came_to, Premises}
use Rattle.on_part.proofs.Keeping.{relent, command_kept, command_then, setter_then, setter_idle}
use Rattle.over_bytes.specs.OverBytes.{Back, Served, served, ran_of, Stand, now_of, after, set_in, Kept, Keeps, TypedCall, TypedAct, Demand3OverBytes}
use Rattle.driver.specs.Driver.{OfBytes}
use Rattle.over_bytes.proofs.Through.{back, set_is, set_whole, packs, packs_some, WholeSome, served_through}

-- where a sequence stands by value, packed
abbrev pub packed : Value.Stand → Stand
packed x = record { state = x.state; bytes = bytes_of x.session; accepted = x.accepted }

-- every command of a sequence is kept
abbrev pub AllKept : Part → (ℕ → ℕ) → Stand → List Act → Type 0
AllKept p first x [] = Unit {0}
AllKept p first x (Command c room times ∷ acts) = (k : Kept p first x c room times) × AllKept p first (after x c k.to) acts
AllKept p first x (Setting a ∷ acts) = AllKept p first (set_in a x) acts

module _ (p : Part) (id : (i : ℕ) → p.id i < 256) (sfdp : (i : ℕ) → p.sfdp i < 256) (first : ℕ → ℕ) where
  -- ---- a command
  module _ (x : Value.Stand) (c : Call) (room : List ℕ) (times : Times) (h : Stands first (Value.now_of x room)) (i : Idle x.session) (w : Whole x.session) (t : TypedCall c) (b : OfBytes room) (q : Assumed p (kept_of x.session room) c times) where
    by_value_lem : Value.Kept p first x c room times
    by_value_lem = command_kept p id sfdp first x c room times h i q

    both : (served p times x.state (bytes_of x.session) c room ≡ packs_some (Value.served p times x.state x.session c room))
        × WholeSome (Value.served p times x.state x.session c room)
    both =
        served_through p times x.state x.session c room w t b
        (served_bytes p times x.state x.session c room (record { id = id; sfdp = sfdp; memory = h.bytes.below }) i h.possible)

    to_whole : Whole by_value_lem.to.session
    to_whole = subst WholeSome by_value_lem.is both.1

    -- the promises are of the sessions, and these are in the bytes
    over_bytes : Promised p first (now_of (packed x) room) c (ran_of (packs by_value_lem.to))
    over_bytes =
        subst (λ (s : Session). Promised p first (record { state = x.state; kept = kept_of s room; accepted = x.accepted }) c (ran_of (packs by_value_lem.to))) (sym (back x.session w))
        (subst (λ (s : Session). Promised p first (Value.now_of x room) c (record {
          answer = by_value_lem.to.answer;
          polls = by_value_lem.to.polls;
          kept = kept_of s by_value_lem.to.room;
          state = by_value_lem.to.state;
          sent = by_value_lem.to.sent;
        })) (sym (back by_value_lem.to.session to_whole)) by_value_lem.promised)

    command_over : Kept p first (packed x) c room times
    command_over =
        record {
          to = packs by_value_lem.to;
          is = both.0 ∙ ap packs_some by_value_lem.is;
          promised = over_bytes;
          idle = subst Idle (sym (back by_value_lem.to.session to_whole)) by_value_lem.idle;
        }

  -- ---- a setter
  set_over : (a : Setter) (x : Value.Stand) → Whole x.session → set_in a (packed x) ≡ packed (Value.set_in a x)
  set_over a x w = ap (λ (y : Back). record { state = x.state; bytes = y.bytes; accepted = x.accepted }) (set_is a x.session w)

  keeps : (acts : List Act) (x : Value.Stand) (room : List ℕ) → Stands first (Value.now_of x room) → Idle x.session → Whole x.session → Each TypedAct acts
      → Keeps p first (packed x) acts
  unfolding by_value_lem command_over
  keeps [] x room h i w t = tt
  keeps (Command c lent times ∷ acts) x room h i w t =
      let g : Stands first (Value.now_of x lent) = relent first x room lent h in
      λ r.
      let q : Assumed p (kept_of x.session lent) c times = subst (λ (s : Session). Assumed p (kept_of s lent) c times) (back x.session w) r in
      let k : Value.Kept p first x c lent times = command_kept p id sfdp first x c lent times g i q in (
        command_over x c lent times g i w t.0.0 t.0.1 q,
        keeps acts (Value.after x c k.to) k.to.room (command_then p id sfdp first x c lent times g i q) k.idle
            (to_whole x c lent times g i w t.0.0 t.0.1 q) t.1,
      )
  keeps (Setting a ∷ acts) x room h i w t =
      subst (λ (y : Stand). Keeps p first y acts) (sym (set_over a x w))
      (keeps acts (Value.set_in a x) room (setter_then p id sfdp first a x room h i) (setter_idle p id sfdp first a x.session i) (set_whole a x.session t.0 w) t.1)

  -- ---- with the premises of the whole sequence, computed along it by value
  pub all_kept : (acts : List Act) (x : Value.Stand) (room : List ℕ) → Stands first (Value.now_of x room) → Idle x.session → Whole x.session → Each TypedAct acts
      → Premises p x acts → AllKept p first (packed x) acts
  unfolding by_value_lem command_over
  all_kept [] x room h i w t q = tt
  all_kept (Command c lent times ∷ acts) x room h i w t q =
      let g : Stands first (Value.now_of x lent) = relent first x room lent h in
      let k : Value.Kept p first x c lent times = command_kept p id sfdp first x c lent times g i q.0 in
      let same : came_to x (Value.served p times x.state x.session c lent) ≡ k.to = ap (came_to x) k.is in (
        command_over x c lent times g i w t.0.0 t.0.1 q.0,
        all_kept acts (Value.after x c k.to) k.to.room (command_then p id sfdp first x c lent times g i q.0) k.idle
            (to_whole x c lent times g i w t.0.0 t.0.1 q.0) t.1 (subst (λ (r : Value.Served). Premises p (Value.after x c r) acts) same q.1),
      )
  all_kept (Setting a ∷ acts) x room h i w t q =
      subst (λ (y : Stand). AllKept p first y acts) (sym (set_over a x w))
      (all_kept acts (Value.set_in a x) room (setter_then p id sfdp first a x room h i) (setter_idle p id sfdp first a x.session i) (set_whole a x.session t.0 w) t.1 q)

pub demand3_over_bytes : Demand3OverBytes
unfolding replay
demand3_over_bytes p state s acts busy b i k w t =
    keeps p b.id b.sfdp state.memory acts (record { state = state; session = s; accepted = [] }) []
    (record { idle = busy; memory = refl; bytes = record { below = b.memory }; possible = k }) i w t

-- a fresh session is one of these
pub fresh_whole : Whole fresh
fresh_whole = keeps_whole.begins
