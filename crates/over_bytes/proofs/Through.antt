-- A run through bytes is the run by value, packed.
use mathlib.Core.Path.{◌≡◌, refl, sym, ap, ◌∙◌, subst}
use mathlib.Core.Bool.{Bool, true, false, cond, ◌&&◌}
use mathlib.Core.List.{List, [], ◌∷◌}
use mathlib.Core.Option.{Option, some, none}
use Prim.Native.Nat.{ℕ, zero, suc}
use Rattle.commands.specs.Script.{Sent}
use Rattle.commands.specs.Wire.{wire}
use Rattle.commands.specs.Calls.{Call, Read, LegacyRead, ReadParams, Erase, EraseSectors, Program, ProgramData, Reset, ReadJedecId, IsBusy, IsProtected}
use Rattle.commands.specs.Bounds.{most}
use Rattle.flash.specs.declared.Session.{Session}
use Rattle.phases.specs.declared.Transaction.{Transaction}
use Rattle.flash.specs.declared.Event.{Event}
use Rattle.flash.specs.declared.Event.TheVariants.{Send, Answered}
use Rattle.flash.specs.Steps.{Taken, step_of}
use Rattle.meaning.specs.Meaning.{kept_of, sent_of}
use Rattle.packed.specs.Numbers.{same_list}
use Rattle.packed.specs.Layout.{bytes_of, session_in}
use Rattle.packed.proofs.Laws.{way_back, packed_is_same}
use Rattle.rule.specs.Rule.{rule_of}
use Rattle.rule.specs.Kept.{Whole}
use Rattle.rule.proofs.Whole.{keeps_whole}
use Rattle.nor_model.specs.Device.{Part, State}
use Rattle.nor_model.specs.Runs.{Times, replied}
use Rattle.nor_model.specs.Demand3.{Setter, AddressBytes, PageSize, EraseSize, EraseOpcode, PollLimit, Capacity, NoCapacity}
use Rattle.on_part.specs.OnPart as Value
use Rattle.on_part.specs.OnPart.{start_of, setter_of}
use Rattle.on_part.proofs.Serving.{each_below, Replied}
use Rattle.over_bytes.specs.OverBytes.{unpack_of, Back, packed_of, start_bytes, set_bytes, step_bytes, Served, behind, serve, served, TypedCall, TypedSetter}
use Rattle.driver.specs.Driver.{OfBytes}
use Rattle.driver.proofs.Rooms.{step_room, start_room_lem}
use Rattle.driver.proofs.Agreeing.{start_whole}

-- ---- the bytes of a session that the driver hands back unpack to it
pub back : (s : Session) → Whole s → session_in (bytes_of s) ≡ s
back s h = way_back s h.typed

unpacks : (s : Session) → Whole s → unpack_of (bytes_of s) ≡ some s
unfolding unpack_of
unpacks s h =
    let same : same_list (bytes_of s) (bytes_of s) ≡ true =
    subst (λ (z : Session). same_list (bytes_of s) (bytes_of z) ≡ true) (back s h) (packed_is_same s h.typed) in
    ap (λ (z : Session). cond (rule_of z && same_list (bytes_of s) (bytes_of z)) (some z) none) (back s h) ∙ rw (h.ruled, same)

start_is : (c : Call) (s : Session) (room : List ℕ) → Whole s → start_bytes c (bytes_of s) room ≡ packed_of (start_of c s room)
unfolding start_bytes
start_is c s room h = rw (unpacks s h, start_bytes)

step_is : (s : Session) (failed : Bool) (r room : List ℕ) → Whole s → step_bytes (bytes_of s) failed r room ≡ packed_of (step_of s failed r room)
unfolding step_bytes
step_is s failed r room h = rw (unpacks s h, step_bytes)

pub set_is : (a : Setter) (s : Session) → Whole s → set_bytes a (bytes_of s) ≡ packed_of (record { out = setter_of a s; room = [] })
unfolding set_bytes
set_is a s h = rw (unpacks s h, set_bytes)

-- ---- what is handed back can be packed again
pub set_whole : (a : Setter) (s : Session) → TypedSetter a → Whole s → Whole (setter_of a s).session
set_whole (AddressBytes n) s t h = keeps_whole.sets_address_bytes s h n
set_whole (PageSize n) s t h = keeps_whole.sets_page_size s h n
set_whole (EraseSize n) s t h = keeps_whole.sets_erase_size s h n
set_whole (EraseOpcode n) s t h = keeps_whole.sets_erase_opcode s h n t
set_whole (PollLimit n) s t h = keeps_whole.sets_poll_limit s h n
set_whole (Capacity n) s t h = keeps_whole.sets_capacity s h n t
set_whole NoCapacity s t h = keeps_whole.clears_capacity s h

-- ---- what a run comes to, packed
abbrev pub packs : Value.Served → Served
packs r = record { bytes = bytes_of r.session; room = r.room; answer = r.answer; polls = r.polls; state = r.state; sent = r.sent }

abbrev pub packs_some : Option Value.Served → Option Served
packs_some (some r) = some (packs r)
packs_some none = none

abbrev pub WholeSome : Option Value.Served → Type 0
WholeSome (some r) = Whole r.session
WholeSome none = Unit {0}

behind_packs : (t : Sent) (o : Option Value.Served) → behind t (packs_some o) ≡ packs_some (Value.behind t o)
behind_packs t (some r) = refl
behind_packs t none = refl

behind_whole : (t : Sent) (o : Option Value.Served) → WholeSome o → WholeSome (Value.behind t o)
behind_whole t (some r) h = h
behind_whole t none h = h

module _ (p : Part) (times : Times) where
  -- what a run through bytes and the run by value come to
  Agree : ℕ → List (List ℕ) → State → Taken → Type 0
  Agree k past state x =
      (serve p times k past state (packed_of x) ≡ packs_some (Value.serve p times k past state x.out x.room))
      × WholeSome (Value.serve p times k past state x.out x.room)

  module _ (past : List (List ℕ)) (state : State) (x : Taken) where
    at_answer : (k : ℕ) (a : _) (n : ℕ) → x.out.event ≡ Answered a n → Whole x.out.session → Agree k past state x
    unfolding Agree serve Value.serve
    at_answer zero a n e w = rw e (refl, w)
    at_answer (suc k) a n e w = rw e (refl, w)

    at_end : (t : Transaction) → x.out.event ≡ Send t → Agree zero past state x
    unfolding Agree serve Value.serve
    at_end t e = rw e (refl, tt)

    abbrev reply : Transaction → State × List ℕ
    reply t = replied p times past state (sent_of t x.room)

    abbrev stepped : Transaction → Taken
    stepped t = step_of x.out.session false (reply t).1 x.room

    replied_send : (k : ℕ) (t : Transaction) → x.out.event ≡ Send t → Replied p times (suc k) past state x.out x.room
        → OfBytes (reply t).1 × Replied p times k (wire (sent_of t x.room) ∷ past) (reply t).0 (stepped t).out (stepped t).room
    unfolding Replied
    replied_send k t e h = rw e at h

    value_send : (k : ℕ) (t : Transaction) → x.out.event ≡ Send t
        → Value.serve p times (suc k) past state x.out x.room
        ≡ Value.behind (sent_of t x.room) (Value.serve p times k (wire (sent_of t x.room) ∷ past) (reply t).0 (stepped t).out (stepped t).room)
    unfolding Value.serve
    value_send k t e = rw e

    bytes_send : (k : ℕ) (t : Transaction) → x.out.event ≡ Send t → Whole x.out.session
        → serve p times (suc k) past state (packed_of x)
        ≡ behind (sent_of t x.room) (serve p times k (wire (sent_of t x.room) ∷ past) (reply t).0 (packed_of (stepped t)))
    unfolding serve
    bytes_send k t e w =
        let there : serve p times (suc k) past state (packed_of x)
        ≡ behind (sent_of t x.room) (serve p times k (wire (sent_of t x.room) ∷ past) (reply t).0 (step_bytes (bytes_of x.out.session) false (reply t).1 x.room)) = rw e in
        there
        ∙ ap (λ (y : Back). behind (sent_of t x.room) (serve p times k (wire (sent_of t x.room) ∷ past) (reply t).0 y))
        (step_is x.out.session false (reply t).1 x.room w)

    at_send : (k : ℕ) (t : Transaction) → x.out.event ≡ Send t → Whole x.out.session
        → Agree k (wire (sent_of t x.room) ∷ past) (reply t).0 (stepped t) → Agree (suc k) past state x
    unfolding Agree
    at_send k t e w h = (
      bytes_send k t e w
          ∙ ap (behind (sent_of t x.room)) h.0
          ∙ behind_packs (sent_of t x.room) (Value.serve p times k (wire (sent_of t x.room) ∷ past) (reply t).0 (stepped t).out (stepped t).room)
          ∙ ap packs_some (sym (value_send k t e)),
      subst WholeSome (sym (value_send k t e)) (behind_whole (sent_of t x.room) (Value.serve p times k (wire (sent_of t x.room) ∷ past) (reply t).0 (stepped t).out (stepped t).room) h.1),
    )

  through : (k : ℕ) (past : List (List ℕ)) (state : State) (x : Taken) → Whole x.out.session → OfBytes x.room
      → Replied p times k past state x.out x.room → Agree k past state x
  through zero past state x w b h = by x.out.event refl
    where
      by : (e : Event) → x.out.event ≡ e → Agree zero past state x
      by (Answered a n) e = at_answer past state x zero a n e w
      by (Send t) e = at_end past state x t e
  through (suc k) past state x w b h = by x.out.event refl (λ past state x. through k past state x)
    where
      by : (e : Event) → x.out.event ≡ e
          → ((past : List (List ℕ)) (state : State) (x : Taken) → Whole x.out.session → OfBytes x.room → Replied p times k past state x.out x.room → Agree k past state x)
          → Agree (suc k) past state x
      by (Answered a n) e next = at_answer past state x (suc k) a n e w
      by (Send t) e next =
          let g = replied_send past state x k t e h in
          at_send past state x k t e w
          (next (wire (sent_of t x.room) ∷ past) (reply past state x t).0 (stepped past state x t)
          (keeps_whole.steps x.out.session w false (reply past state x t).1 x.room
          (record { below = λ i. each_below (reply past state x t).1 i g.0 }) (record { below = λ i. each_below x.room i b }))
          (step_room x.out.session false (reply past state x t).1 x.room g.0 b) g.1)

  -- ---- a command
  pub served_through : (state : State) (s : Session) (c : Call) (room : List ℕ) → Whole s → TypedCall c → OfBytes room
      → Replied p times (most c (kept_of s room)) [] state (start_of c s room).out (start_of c s room).room
      → (served p times state (bytes_of s) c room ≡ packs_some (Value.served p times state s c room)) × WholeSome (Value.served p times state s c room)
  unfolding Agree
  served_through state s c room w t b h =
      let g : Agree (most c (kept_of s room)) [] state (start_of c s room) =
      through (most c (kept_of s room)) [] state (start_of c s room) (start_whole c s room w) (start_room_lem c s room (λ a d v e. subst TypedCall e t) (λ a d e. subst TypedCall e t) b) h in (
        ap (λ (z : Session). serve p times (most c (kept_of z room)) [] state (start_bytes c (bytes_of s) room)) (back s w)
            ∙ ap (serve p times (most c (kept_of s room)) [] state) (start_is c s room w)
            ∙ g.0,
        g.1,
      )
