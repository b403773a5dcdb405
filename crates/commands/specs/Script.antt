-- A command's meaning as a script: transactions in the order in which they happen, each going on with its reply.
use Rattle.std.specs.Prelude.{Bool, true, false, List, [], ◌∷◌, ◌++◌, ℕ, ◌+◌, length, take, drop}
use Rattle.sfdp.specs.declared.FlashParams.{FlashParams}
use Rattle.settings.specs.declared.Settings.{Settings}
use Rattle.commands.specs.declared.Answer.{Answer}

-- a transaction: command byte, address in so many bytes (0: none), dummy or not, payload, reply length; whether the answer
-- counts it as a poll; and, listed apart, the delay after it in µs
pub record Sent : Type 0 where
  pub opcode : ℕ
  pub addressed : ℕ
  pub address : ℕ
  pub dummy : Bool
  pub payload : List ℕ
  pub reply : ℕ
  pub poll : Bool
  pub delay : ℕ

-- what outlives a command: the settings, the parameters (known: whether there are any), and the lent room
pub record Kept : Type 0 where
  pub settings : Settings
  pub known : Bool
  pub params : FlashParams
  pub room : List ℕ

-- `done w a`: goes on with a. `stop w e`: the command ends with answer e. `send w s f`: s is sent, and a full reply goes on as
-- f says; a failure or a reply of another length is answer 8, and w is kept
pub data Script (A : Type 0) : Type 0 where
  done : Kept → A → Script A
  stop : Kept → Answer → Script A
  send : Kept → Sent → (List ℕ → Script A) → Script A

-- a piece of a command: what is kept goes in, and comes out with the result
abbrev pub Cmd : Type 0 → Type 0
Cmd A = Kept → Script A

unfoldable pub after : {A B : Type 0} → Script A → (A → Cmd B) → Script B
after (done w a) k = k a w
after (stop w e) k = stop w e
after (send w s f) k = send w s (λ r. after (f r) k)

infixr 30 ◌>>=◌ ◌>>◌
abbrev pub ◌>>=◌ : {A B : Type 0} → Cmd A → (A → Cmd B) → Cmd B
◌>>=◌ c k w = after (c w) k

abbrev pub ◌>>◌ : {A B : Type 0} → Cmd A → Cmd B → Cmd B
◌>>◌ c k w = after (c w) (λ a. k)

-- ---- the words of the scripts
abbrev pub give : {A : Type 0} → A → Cmd A
give a w = done w a

abbrev pub fail : {A : Type 0} → Answer → Cmd A
fail e w = stop w e

-- the command goes on if the test holds, else it ends with the answer
abbrev pub need : Bool → Answer → Cmd (Unit {0})
need true e w = done w tt
need false e w = stop w e

abbrev pub when : Bool → Cmd (Unit {0}) → Cmd (Unit {0})
when true c w = c w
when false c w = done w tt

abbrev pub ask : Sent → Cmd (List ℕ)
ask s w = send w s (λ r. done w r)

abbrev pub kept : Cmd Kept
kept w = done w w

-- bytes laid over others from a place on
unfoldable pub over : ℕ → List ℕ → List ℕ → List ℕ
over at bytes l = take at l ++ (bytes ++ drop (at + length bytes) l)

-- the same with another room
abbrev pub roomed : Kept → List ℕ → Kept
roomed w room = record { settings = w.settings; known = w.known; params = w.params; room = room }

-- bytes stored in the lent room
abbrev pub store : ℕ → List ℕ → Cmd (Unit {0})
store at bytes w = done (roomed w (over at bytes w.room)) tt

-- new parameters, and settings by them
abbrev pub adopt : Settings → FlashParams → Cmd (Unit {0})
adopt s p w = done (record { settings = s; known = true; params = p; room = w.room }) tt

unfoldable pub each : {X : Type 0} → (X → Cmd (Unit {0})) → List X → Cmd (Unit {0})
each c [] w = done w tt
each c (x ∷ xs) w = after (c x w) (λ u. each c xs)
