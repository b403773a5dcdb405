-- The driver by value: a session, its starts, its setters and its step, as the promises of crate flash name them.
use Rattle.std.specs.Prelude.{Bool, List, [], ℕ}
use Rattle.commands.specs.declared.Answer.{Answer}
use Rattle.flash.specs.declared.Session.{Session}
use Rattle.flash.specs.declared.Event.{Event}
use Rattle.flash.specs.declared.Event.TheVariants.{Send, Answered}
use Rattle.flash.specs.Waits.{told}
use Rattle.flash.specs.Steps.{Taken, step_of}
use Rattle.flash.specs.Starts.{fresh}
use Rattle.meaning.specs.Meaning.{kept_of, sent_of}
use Rattle.on_part.specs.OnPart.{start_of, setter_of}
use Rattle.driver.specs.Driver.{carried, Told, sends, answers, Back, Driver, Followed}

abbrev pub told_by : Event → List ℕ → Told Answer
told_by (Send t) room = sends (carried (sent_of t room))
told_by (Answered a n) room = answers a n

abbrev pub back_of : Taken → Back Session Answer
back_of x = record { held = x.out.session; told = told_by x.out.event x.room; room = x.room }

abbrev pub by_value : Driver Answer
by_value = record {
  Held = Session;
  fresh = fresh;
  start = λ c s room. back_of (start_of c s room);
  step = λ (failed : Bool) r s room. back_of (step_of s failed r room);
  set = λ x s. back_of (record { out = setter_of x s; room = [] });
  again = λ s room. back_of (record { out = told s; room = room });
  keeps = λ s. kept_of s [];
}

abbrev pub FollowedByValue : Type 0
FollowedByValue = Followed (λ x. x) by_value
