-- The four ways of a step, each with what it hands back and what it leaves in the room.
use Prim.Native.Nat.{ℕ, ◌+◌, ◌%◌, ◌^◌, ◌≤◌, ◌<◌}
use mathlib.Core.Path.{◌≡◌, refl, sym}
use mathlib.Core.Bool.{Bool, true, false, cond, not, ◌&&◌}
use mathlib.Core.List.{List}
use borrow.Author.Tests.{lt-ltb, le-ltb}
use lib.Dec.{eqb}
use lib.ListN.{length}
use Rattle.settings.specs.declared.Settings.{Settings}
use Rattle.commands.specs.declared.Answer.TheVariants.{Access, NoRoom}
use Rattle.phases.specs.Waits.{is_poll, reply_of, need_of}
use Rattle.phases.specs.Moves.{ends_as, room_after, is_ended}
use Rattle.flash.specs.declared.Session.{Session}
use Rattle.flash.specs.declared.Event.TheVariants.{Answered}
use Rattle.flash.specs.declared.Stepped.{Stepped}
use Rattle.flash.specs.Waits.{told}
use Rattle.flash.specs.Steps.{ends, advanced, counted, is_full, step_of}
use Rattle.flash.proofs.Phases.{poll_same, reply_same}

module _ (s : Session) (failed : Bool) (r room : List ℕ) where
  abbrev pub Steps : Stepped → List ℕ → Type 0
  Steps x l = (x ≡ (step_of s failed r room).out) × (l ≡ (step_of s failed r room).room)

  pub way_ended : (x : Stepped) → x ≡ told s → is_ended s.phase ≡ true → Steps x room
  unfolding step_of
  way_ended x e h = rw (e, h) (refl, refl)

  module _ (runs : is_ended s.phase ≡ false) (need : ℕ) (is : need ≡ need_of s.phase) where
    -- the polls that the code counts
    module _ (n : ℕ) (polls : n ≡ (s.polls + cond (is_poll s.phase) 1 0) % 2 ^ 64) where
      count_is : counted s ≡ n
      unfolding counted
      count_is = rw (← poll_same s s.phase) (sym polls)

      pub way_short : length room < need → Steps (record { session = s; event = Answered (NoRoom need) n }) room
      unfolding step_of
      way_short h = rw (runs, ← is, lt-ltb _ _ h, count_is) (refl, refl)

      -- and whether it takes the reply for full
      module _ (fits : need ≤ length room) (full : Bool) (asked : (x : Settings) → full ≡ (not failed && eqb (length r) (reply_of x s.phase))) where
        full_is : is_full s failed r ≡ full
        unfolding is_full
        full_is = rw (← reply_same s s.phase) (sym (asked s.settings))

        pub way_access : (x : Stepped) → x ≡ told (ends s n (ends_as s.phase) Access) → full ≡ false → Steps x room
        unfolding step_of
        way_access x e h = rw (e, runs, ← is, le-ltb _ _ fits, full_is, h, count_is) (refl, refl)

        pub way_on : (x : Stepped) (l : List ℕ) → full ≡ true → (x ≡ told (advanced s n s.phase r room)) × (l ≡ room_after s.phase r room) → Steps x l
        unfolding step_of
        way_on x l h e = rw (runs, ← is, le-ltb _ _ fits, full_is, h, count_is) e
