-- The exports are the driver over bytes.
use Rattle.std.proofs.Common.{Some, None}
use Prim.Native.Nat.{ℕ, ◌≤◌}
use mathlib.Core.Path.{◌≡◌, refl, sym, ◌∙◌, ap}
use mathlib.Core.Bool.{Bool, true, false, cond, ◌&&◌}
use mathlib.Core.List.{List}
use mathlib.Core.Option.{Option, some, none}
use lib.Dec.{eqb, ltb}
use lib.ListN.{length}
use borrow.Author.Tests.{le-ltb, eq-eqb}
use Rattle.commands.specs.Calls.{Call}
use Rattle.flash.specs.declared.Session.{Session}
use Rattle.phases.specs.Moves.{is_ended}
use Rattle.flash.specs.Steps.{Taken, step_of}
use Rattle.on_part.specs.OnPart.{start_of}
use Rattle.packed.specs.Numbers.{same_list}
use Rattle.packed.specs.Layout.{bytes_of, session_in, put_over}
use Rattle.packed.proofs.Laws.{sized, same_is_packed}
use Rattle.rule.specs.Rule.{rule_of}
use Rattle.over_bytes.specs.OverBytes.{Back, packed_of, bad_bytes, unpack_of, start_bytes, step_bytes}
use Rattle.moss_flash.specs.Calls.{opening, starting, opened_of, opened_start, called, Called, number_in}
use Rattle.moss_flash.specs.Calls as C
use Rattle.exported.specs.Exported.{As, Exported}

-- what is handed back for what the bytes hold
abbrev backed : Option Session → (Session → Taken) → List ℕ → List ℕ → Back
backed (some s) f b room = packed_of (f s)
backed none f b room = bad_bytes b room

-- the test of both
abbrev held : List ℕ → Bool
held b = rule_of (session_in b) && same_list b (bytes_of (session_in b))

and_right : (p q : Bool) → (p && q) ≡ true → q ≡ true
and_right true q h = h
and_right false true h = refl
and_right false false h = h

held_size : (b : List ℕ) → held b ≡ true → length b ≡ 256
held_size b h = ap length (same_is_packed b (and_right (rule_of (session_in b)) _ h)) ∙ sized (session_in b)

put_packs : (s : Session) (b : List ℕ) → length b ≡ 256 → put_over s b ≡ bytes_of s
put_packs s b h = rw (eq-eqb _ _ h) refl

opened : (t : Bool) (s : Session) (b e room : List ℕ) (f : Session → Taken) → (t ≡ true → length b ≡ 256) → 64 ≤ length e
    → As (called (opening (cond t (Some s) None) (length e)) b e room f) (backed (cond t (some s) none) f b room)
unfolding number_in
opened true s b e room f h l = rw (le-ltb _ _ l) (record { number = refl; session = put_packs (f s).out.session b (h refl); room = refl })
opened false s b e room f h l = record { number = refl; session = refl; room = refl }

started : (t : Bool) (s : Session) (b e room : List ℕ) (f : Session → Taken) → (t ≡ true → length b ≡ 256) → 64 ≤ length e
    → As (called (starting (cond t (Some s) None) (length e)) b e room f) (backed (cond t (some s) none) f b room)
unfolding number_in
started true s b e room f h l = rw (le-ltb _ _ l) (record { number = refl; session = put_packs (f s).out.session b (h refl); room = refl })
started false s b e room f h l = record { number = refl; session = refl; room = refl }

step_backed : (u : Option Session) (b r room : List ℕ) (failed : Bool) → unpack_of b ≡ u
    → step_bytes b failed r room ≡ backed u (λ s. step_of s failed r room) b room
unfolding step_bytes
step_backed (some s) b r room failed e = rw (e, step_bytes) refl
step_backed none b r room failed e = rw (e, step_bytes) refl

start_backed : (u : Option Session) (c : Call) (b room : List ℕ) → unpack_of b ≡ u → start_bytes c b room ≡ backed u (λ s. start_of c s room) b room
unfolding start_bytes
start_backed (some s) c b room e = rw (e, start_bytes) refl
start_backed none c b room e = rw (e, start_bytes) refl

held_there : (b : List ℕ) → unpack_of b ≡ cond (held b) (some (session_in b)) none
unfolding unpack_of
held_there b = refl

as_step : (b e r room : List ℕ) (failed : Bool) → 64 ≤ length e
    → As (called (opened_of b (length e)) b e room (λ s. step_of s failed r room)) (step_bytes b failed r room)
unfolding opened_of C.unpack_of
as_step b e r room failed l =
    rw (step_backed _ b r room failed (held_there b)) (opened (held b) (session_in b) b e room (λ s. step_of s failed r room) (held_size b) l)

as_start : (c : Call) (b e room : List ℕ) → 64 ≤ length e
    → As (called (opened_start b (length e)) b e room (λ s. start_of c s room)) (start_bytes c b room)
unfolding opened_start C.unpack_of
as_start c b e room l =
    rw (start_backed _ c b room (held_there b)) (started (held b) (session_in b) b e room (λ s. start_of c s room) (held_size b) l)

pub exported : Exported
exported = record { steps = as_step; starts = as_start }
