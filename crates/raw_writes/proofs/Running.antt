-- A script of commands that keep the settings: each comes to its answer and is accepted, and the memory is that of the replay.
use mathlib.Core.Path.{◌≡◌, refl, sym, ap, ◌∙◌, subst}
use mathlib.Core.Bool.{false}
use mathlib.Core.List.{List, [], ◌∷◌, ◌++◌, append-nil, append_assoc}
use mathlib.Core.Option.{Option, some}
use Prim.Native.Nat.{ℕ, ◌<◌}
use Rattle.erase_plan.specs.Good.{Each}
use Rattle.commands.specs.Script.{Kept, roomed}
use Rattle.commands.specs.Calls.{Call, script}
use Rattle.commands.specs.Leaves.{refused}
use Rattle.flash.specs.declared.Session.{Session}
use Rattle.meaning.specs.Meaning.{kept_of, Idle}
use Rattle.packed.specs.Layout.{bytes_of}
use Rattle.rule.specs.Kept.{Whole}
use Rattle.nor_model.specs.Device.{Part, State}
use Rattle.nor_model.specs.Replay.{replay}
use Rattle.nor_model.specs.Runs.{Ran, exec}
use Rattle.nor_model.specs.Demand3.{Assumed}
use Rattle.nor_model.proofs.Sequences.{Stands}
use Rattle.nor_model.proofs.Ended.{possible_roomed}
use Rattle.on_part.specs.OnPart.{Served, served, ran_of, Bytes, ServedAs, Stand, now_of, after, Kept as KeptBy}
use Rattle.on_part.proofs.Serving.{serves, served_bytes}
use Rattle.on_part.proofs.Keeping.{relent, command_kept, command_then}
use Rattle.over_bytes.specs.OverBytes as Packed
use Rattle.over_bytes.specs.OverBytes.{TypedCall}
use Rattle.over_bytes.proofs.Through.{packs, packs_some, WholeSome, served_through}
use Rattle.over_bytes.proofs.Keeping.{packed}
use Rattle.raw_writes.specs.RawWrites.{Begins, Issued, AllIssued, onward, carried, carried_packed, AllTyped, Comes, Same}
use Rattle.raw_writes.proofs.Answers.{Quiet, exec_kept, accepted_anywhere, start_accepted}

same_to : (o : Option Served) (a b : Served) → o ≡ some a → o ≡ some b → a ≡ b
same_to o a b h k = cc

module _ (p : Part) (state : State) (s : Session) (b : Begins p state s) where
  -- where a script stands: the replay so far, an idle session, and what it keeps as at the beginning
  record At (x : Stand) : Type 0 where
    stands : Stands state.memory (now_of x [])
    rests : Idle x.session
    kept : kept_of x.session [] ≡ kept_of s []

  -- ---- one command
  module _ (x : Stand) (c : Call) (n : Quiet c) (u : Issued p s c) (h : At x) where
    lent : kept_of x.session u.room ≡ kept_of s u.room
    lent = ap (λ (w : Kept). roomed w u.room) h.kept

    here : Stands state.memory (now_of x u.room)
    here = relent state.memory x [] u.room h.stands

    assumed : Assumed p (kept_of x.session u.room) c u.times
    assumed = subst (λ (w : Kept). Assumed p w c u.times) (sym lent) u.assumed

    by_demand3 : KeptBy p state.memory x c u.room u.times
    by_demand3 = command_kept p b.bytes.id b.bytes.sfdp state.memory x c u.room u.times here h.rests assumed

    to : Served
    to = by_demand3.to

    -- it is the script's run
    run : Ran
    run = exec p u.times [] x.state (script c (kept_of x.session u.room))

    bytes : Bytes p x.state
    bytes = record { id = b.bytes.id; sfdp = b.bytes.sfdp; memory = here.bytes.below }

    same_run : ran_of to ≡ run
    unfolding to run
    same_run =
        let v : ServedAs p u.times x.state x.session c u.room =
        serves p u.times x.state x.session c u.room bytes h.rests here.possible in
        ap ran_of (same_to _ by_demand3.to v.to by_demand3.is v.is) ∙ v.same

    -- accepted, as at the beginning
    accepted : refused to.answer ≡ false
    unfolding run
    accepted =
        let w = kept_of s u.room in
        let first : ServedAs p u.times state s c u.room =
        serves p u.times state s c u.room b.bytes b.rests (possible_roomed (kept_of s []) u.room b.possible) in
        ap (λ (r : Ran). refused r.answer) same_run
        ∙ ap (λ (w : Kept). refused (exec p u.times [] x.state (script c w)).answer) lent
        ∙ accepted_anywhere p u.times u.times state x.state c w (start_accepted p u.times state s c u.room first u.accepted)

    -- settings and parameters are kept
    kept : kept_of to.session [] ≡ kept_of s []
    unfolding run
    kept =
        ap (λ (r : Ran). roomed r.kept []) same_run
        ∙ ap (λ (w : Kept). roomed w []) (exec_kept p u.times x.state c (kept_of x.session u.room) n)
        ∙ h.kept

    next : At (after x c to)
    unfolding by_demand3 to
    next =
        record {
          stands = relent state.memory (after x c to) to.room []
              (command_then p b.bytes.id b.bytes.sfdp state.memory x c u.room u.times here h.rests assumed);
          rests = by_demand3.idle;
          kept = kept;
        }

    counted : (after x c to).accepted ≡ x.accepted ++ (c ∷ [])
    counted = rw accepted

    is : served p u.times x.state x.session c u.room ≡ some to
    unfolding to
    is = by_demand3.is

    -- through bytes
    through : Whole x.session → TypedCall c → Each (λ (x : ℕ). x < 256) u.room
        → (Packed.served p u.times x.state (bytes_of x.session) c u.room ≡ some (packs to)) × Whole to.session
    through w t r =
        let g = served_through p u.times x.state x.session c u.room w t r
        (served_bytes p u.times x.state x.session c u.room bytes h.rests here.possible) in
        (g.0 ∙ ap packs_some is, subst WholeSome is g.1)

  -- ---- all of them
  record Carried (cs : List Call) (u : AllIssued p s cs) (x : Stand) : Type 0 where
    to : Stand
    is : carried p s cs u x ≡ some to
    accepted : to.accepted ≡ x.accepted ++ cs
    at : At to
    through : Whole x.session → AllTyped p s cs u → (carried_packed p s cs u (packed x) ≡ some (packed to)) × Whole to.session

  carries : (cs : List Call) → Each Quiet cs → (u : AllIssued p s cs) (x : Stand) → At x → Carried cs u x
  unfolding carried carried_packed
  carries [] n u x h = record { to = x; is = refl; accepted = sym (append-nil x.accepted); at = h; through = λ w t. (refl, w) }
  carries (c ∷ cs) n u x h =
      let r : Served = to x c n.0 u.0 h in
      let y : Carried cs u.1 (after x c r) = carries cs n.1 u.1 (after x c r) (next x c n.0 u.0 h) in
      record {
        to = y.to;
        is = ap (onward (λ (r : Served). carried p s cs u.1 (after x c r))) (is x c n.0 u.0 h) ∙ y.is;
        accepted = y.accepted ∙ ap (λ (l : List Call). l ++ cs) (counted x c n.0 u.0 h) ∙ append_assoc x.accepted (c ∷ []) cs;
        at = y.at;
        through = λ w t.
            let k = through x c n.0 u.0 h w t.0 t.1 in
            let g = y.through k.1 t.2 in
            (ap (onward (λ (r : Packed.Served). carried_packed p s cs u.1 (Packed.after (packed x) c r))) k.0 ∙ g.0, g.1);
      }

  abbrev first : Stand
  first = record { state = state; session = s; accepted = [] }

  begins : At first
  unfolding replay
  begins = record { stands = record { idle = b.idle; memory = refl; bytes = record { below = b.bytes.memory }; possible = b.possible }; rests = b.rests; kept = refl }

  comes : (cs : List Call) → Each Quiet cs → (u : AllIssued p s cs) → (y : Comes p state s cs u) × (y.to.state.memory ≡ replay cs state.memory)
  comes cs n u =
      let y : Carried cs u first = carries cs n u first begins in (
        record {
          to = y.to;
          is = y.is;
          accepted = y.accepted;
          kept = y.at.kept;
          again = record {
            idle = y.at.stands.idle;
            bytes = record { id = b.bytes.id; sfdp = b.bytes.sfdp; memory = y.at.stands.bytes.below };
            rests = y.at.rests;
            possible = y.at.stands.possible;
          };
          packed = y.through;
        },
        y.at.stands.memory ∙ ap (λ (l : List Call). replay l state.memory) y.accepted,
      )

  -- ---- two scripts whose replays agree
  pub same_replay : (cs ds : List Call) → Each Quiet cs → Each Quiet ds → replay cs state.memory ≡ replay ds state.memory
      → (u : AllIssued p s cs) (v : AllIssued p s ds) → Same p state s cs ds u v
  same_replay cs ds n k h u v =
      let y = comes cs n u in
      let z = comes ds k v in
      record { one = y.0; other = z.0; memory = y.1 ∙ h ∙ sym z.1 }
