-- program on a part that fits: the data laid over, and nothing else.
use mathlib.Core.Path.{◌≡◌, refl, sym, ap, ap₂, ◌∙◌}
use mathlib.Core.Bool.{Bool, true, false, cond, ◌&&◌}
use mathlib.Core.Logic.{⊎_elim}
use mathlib.Core.List.{List, [], ◌∷◌, ◌++◌, append_assoc, append-nil}
use mathlib.Core.Option.{none}
use Prim.Native.Nat.{ℕ, zero, suc, ◌+◌, ◌-◌, ◌^◌, ◌≤◌, ◌<◌}
use native.Mathlib.Omega.{arith}
use lib.Dec.{leb, ltb, eqb}
use lib.ListN.{length, take, drop, length-append, length-drop, take-append-drop}
use lib.Seq.{take_at, drop_at, drop-drop, length-take-le}
use borrow.Author.Tests.{leb-true, ltb-true, ltb-false, eq-eqb, eqb-true}
use Rattle.settings.specs.Limits.{page_of}
use Rattle.settings.specs.Ranges.{accepted_range, last_address}
use Rattle.erase_plan.specs.declared.EraseType.{EraseType}
use Rattle.erase_plan.specs.declared.EraseEntry.{EraseEntry}
use Rattle.erase_plan.specs.Good.{Each}
use Rattle.erase_plan.proofs.Lists.{lt_or_le, each_append, no_true}
use Rattle.commands.specs.declared.Answer.{Answer}
use Rattle.commands.specs.declared.Answer.TheVariants.{Done, NoRoom}
use Rattle.commands.specs.Script.{Kept, Script, after, give, when, roomed, over, each}
use Rattle.commands.specs.Transactions.{fast_read, erase_block, write_enable, parts, write_part}
use Rattle.commands.specs.Commands.{bad_range, types_of, plan_of, erase_one, blank, mismatch, fetch, verify, written, Job, job_of, writing, erasing, read_after, read_before, program}
use Rattle.commands.specs.Calls.{Call}
use Rattle.commands.specs.Calls as Call
use Rattle.commands.specs.Leaves.{refused}
use Rattle.commands.proofs.Rooms.{over_nil}
use Rattle.nor_model.specs.Device.{Part, State, bytes_from}
use Rattle.nor_model.specs.Fits.{Fits}
use Rattle.nor_model.specs.Replay.{laid_over, cleared}
use Rattle.nor_model.specs.Runs.{Times}
use Rattle.nor_model.specs.Demand3.{Erases}
use Rattle.nor_model.proofs.Memory.{Mem, Byte, Bytes, length_from, from_laid, each_from, rewritten, restored}
use Rattle.nor_model.proofs.Laws.{on_fast}
use Rattle.nor_model.proofs.Pages.{all}
use Rattle.nor_model.proofs.Blocks.{wiped}
use Rattle.nor_model.proofs.Does.{Idle, Pollable, Does, does_after, does_each}
use Rattle.nor_model.proofs.Ended.{Ended, Goal, Barred, barred, fits_roomed, possible_roomed, no_erase_lem, no_erase_poll, Within, within_part, need_case, types_case}
use Rattle.nor_model.proofs.Changes.{ended_done, Started, refuses, polling, plan_operates, plan_wipes, good}
use Rattle.nor_model.proofs.Writes.{roomed_polls, does_parts}

-- ---- the working room
over_at : (x y r bytes : List ℕ) (off : ℕ) → length x ≡ off → length y ≡ length bytes → over off bytes (x ++ (y ++ r)) ≡ x ++ (bytes ++ r)
unfolding over
over_at x y r bytes off e l =
    rw (take_at x (y ++ r) off e, ← drop-drop (length bytes) off (x ++ (y ++ r)), drop_at x (y ++ r) off e, drop_at y r (length bytes) l)

gather : (x y z r pre d post : List ℕ) → length x ≡ length pre → length y ≡ length d → length z ≡ length post
    → over (length pre + length d) post (over 0 pre (over (length pre) d (x ++ (y ++ (z ++ r))))) ≡ pre ++ (d ++ (post ++ r))
gather x y z r pre d post a b c =
    rw (over_at x y (z ++ r) d (length pre) a, over_at [] x (d ++ (z ++ r)) pre 0 refl a)
    (ap (over (length pre + length d) post) (sym (append_assoc pre d (z ++ r)))
    ∙ over_at (pre ++ d) z r post (length pre + length d) (length-append pre d) c ∙ append_assoc pre d (post ++ r))

-- after the reads: what stood before, the data, what stood after, and the room beyond as it was
gathered : (pre d post room : List ℕ) → length pre + (length d + length post) ≤ length room
    → over (length pre + length d) post (over 0 pre (over (length pre) d room)) ≡ pre ++ (d ++ (post ++ drop (length pre + (length d + length post)) room))
gathered pre d post room h =
    ap (λ (l : List ℕ). over (length pre + length d) post (over 0 pre (over (length pre) d l))) split
    ∙ gather (take p room) (take n (drop p room)) (take q (drop n (drop p room))) (drop (p + (n + q)) room) pre d post
    (length-take-le p room (omega arith)) (length-take-le n (drop p room) (simp length-drop (omega arith)))
    (length-take-le q (drop n (drop p room)) (simp length-drop (omega arith)))
  where
    p : ℕ
    p = length pre

    n : ℕ
    n = length d

    q : ℕ
    q = length post

    split : room ≡ take p room ++ (take n (drop p room) ++ (take q (drop n (drop p room)) ++ drop (p + (n + q)) room))
    split =
        sym (take-append-drop p room)
        ∙ ap (λ (l : List ℕ). take p room ++ l) (sym (take-append-drop n (drop p room))
        ∙ ap (λ (l : List ℕ). take n (drop p room) ++ l) (sym (take-append-drop q (drop n (drop p room)))
        ∙ ap (λ (l : List ℕ). take q (drop n (drop p room)) ++ l) (drop-drop q n (drop p room) ∙ drop-drop (n + q) p room)))

-- ---- what is not written: bytes after the data that are all FF
blank_all : (m : Mem) (a n : ℕ) → blank (bytes_from m a n) ≡ true → (i : ℕ) → a ≤ i → i < a + n → m i ≡ 255
unfolding blank bytes_from
blank_all m a zero e i h k = absurd (omega arith)
blank_all m a (suc n) e i h k = go (eqb (m a) 255) refl e (λ f. blank_all m (suc a) n f i)
  where
    go : (t : Bool) → eqb (m a) 255 ≡ t → (t && blank (bytes_from m (suc a) n)) ≡ true
        → (blank (bytes_from m (suc a) n) ≡ true → suc a ≤ i → i < suc a + n → m i ≡ 255) → m i ≡ 255
    go true x f ih =
        ⊎_elim (λ (l : a < i). ih f l (omega arith)) (λ (l : i ≤ a). let z : i ≡ a = omega arith in rw z (eqb-true (m a) 255 x)) (lt_or_le a i)
    go false x f ih = no_true f

mismatch_same : (a : ℕ) (l : List ℕ) → mismatch a l l ≡ none
unfolding mismatch
mismatch_same a [] = refl
mismatch_same a (x ∷ l) = rw (eq-eqb x x refl, mismatch) (mismatch_same (suc a) l)

-- ---- the reads of a program
module _ (p : Part) (times : Times) (w : Kept) (f : Fits p w) (r : ℕ × ℕ) (Ends : Kept → Answer → State → Type 0) where
  -- n bytes read at a into the room, where there are any
  does_fetch : (t : Bool) (off a n : ℕ) (past : List (List ℕ)) (s : State) (Q : Unit {0} → Kept → List (List ℕ) → State → Type 0) → s.busy ≡ 0 → (t ≡ false → n ≡ 0)
      → a + n ≤ p.capacity → (t ≡ true → a < 256 ^ p.addressed)
      → ((past' : List (List ℕ)) → Q tt (roomed w (over off (bytes_from s.memory a n) w.room)) past' s)
      → Does p times (Erases p r) Ends past s (when t (fetch off a n) w) Q
  unfolding after bytes_from
  does_fetch true off a n past s Q i z h k q = (
    no_erase_lem p r (fast_read w.settings a n) (barred p w f).op_0b,
    rw (on_fast p (times _) s i w.settings a n f.addressed (barred p w f).op_0b h (k refl)) (q _),
  )
  does_fetch false off a n past s Q i z h k q =
      let e : over off (bytes_from s.memory a n) w.room ≡ w.room = ap (λ (x : ℕ). over off (bytes_from s.memory a x) w.room) (z refl) ∙ over_nil off w.room in
      rw e at (q past)

  -- one read of what was written, if that is asked for
  does_verify : (v : Bool) (a : ℕ) (l : List ℕ) (past : List (List ℕ)) (s : State) (Q : Unit {0} → Kept → List (List ℕ) → State → Type 0) → s.busy ≡ 0
      → a + length l ≤ p.capacity → a < 256 ^ p.addressed → bytes_from s.memory a (length l) ≡ l → ((past' : List (List ℕ)) → Q tt w past' s)
      → Does p times (Erases p r) Ends past s (when v (verify a l) w) Q
  unfolding after
  does_verify true a l past s Q i h k e q = (
    no_erase_lem p r (fast_read w.settings a (length l)) (barred p w f).op_0b,
    rw (on_fast p (times _) s i w.settings a (length l) f.addressed (barred p w f).op_0b h k, e, mismatch_same a l) (q _),
  )
  does_verify false a l past s Q i h k e q = q past

-- ---- a program that has passed its checks
abbrev job : Kept → ℕ → List ℕ → Bool → Job
job w a d v = job_of w a (length d) v

module _ (p : Part) (times : Times) (w : Kept) (s : State) (S : Started p times w s) (bm : Bytes s.memory) (a : ℕ) (d : List ℕ) (v : Bool) (bd : Each Byte d)
    (t : EraseType) (ts : List EraseType) (are : types_of w ≡ t ∷ ts) (here : Within p a (length d))
    (span : Within p (job w a d v).base ((job w a d v).last - (job w a d v).base)) (room : (job w a d v).last - (job w a d v).base ≤ length w.room) where
  abbrev J : Job
  J = job w a d v

  abbrev m : Mem
  m = s.memory

  abbrev es : List EraseEntry
  es = plan_of w a (a + length d)

  starts : J.base ≤ a
  starts = (good p w S.fits S.possible t ts are a (length d) here.some).starts

  reaches : a + length d ≤ J.last
  reaches = (good p w S.fits S.possible t ts are a (length d) here.some).reaches

  -- how many bytes before the data, and how many after them
  abbrev before : ℕ
  before = a - J.base

  abbrev behind : ℕ
  behind = J.last - J.end

  abbrev pre : List ℕ
  pre = bytes_from m J.base before

  abbrev post : List ℕ
  post = bytes_from m J.end behind

  abbrev beyond : List ℕ
  beyond = drop (length pre + (length d + length post)) w.room

  -- the room when the reads are done
  abbrev full : List ℕ
  full = pre ++ (d ++ (post ++ beyond))

  abbrev W : Kept
  W = roomed w full

  reads : over (J.end - J.base) post (over 0 pre (over (J.from - J.base) d w.room)) ≡ full
  reads =
      let e : J.end - J.base ≡ length pre + length d = rw (length_from m J.base before) (omega (arith, starts)) in
      let f : J.from - J.base ≡ length pre = sym (length_from m J.base before) in
      ap₂ (λ (x y : ℕ). over x post (over 0 pre (over y d w.room))) e f
      ∙ gathered pre d post w.room (rw (length_from m J.base before, length_from m J.end behind) (omega (arith, starts, reaches, room)))

  -- ---- what is written of it
  record Chosen (n : ℕ) : Type 0 where
    more : ℕ
    less : J.end + more ≤ J.last
    ff : (i : ℕ) → J.end + more ≤ i → i < J.last → m i ≡ 255
    is : take n full ≡ pre ++ (d ++ bytes_from m J.end more)
    fits : n ≤ length full

  front : length (pre ++ d) ≡ J.end - J.base
  front = simp (length-append, length_from) (omega (arith, starts))

  at_post : take (J.last - J.base - (J.end - J.base)) (drop (J.end - J.base) full) ≡ post
  at_post =
      let e : J.last - J.base - (J.end - J.base) ≡ behind = omega (arith, starts, reaches) in
      ap₂ (λ (k : ℕ) (l : List ℕ). take k (drop (J.end - J.base) l)) e (sym (append_assoc pre d (post ++ beyond)))
      ∙ ap (take behind) (drop_at (pre ++ d) (post ++ beyond) (J.end - J.base) front) ∙ take_at post beyond behind (length_from m J.end behind)

  length_full : J.last - J.base ≤ length full
  length_full = simp (length-append, length_from) (omega (arith, starts, reaches))

  short : take (J.end - J.base) full ≡ pre ++ (d ++ bytes_from m J.end 0)
  unfolding bytes_from
  short =
      ap (take (J.end - J.base)) (sym (append_assoc pre d (post ++ beyond))) ∙ take_at (pre ++ d) (post ++ beyond) (J.end - J.base) front
      ∙ ap (λ (l : List ℕ). pre ++ l) (sym (append-nil d))

  whole : take (J.last - J.base) full ≡ pre ++ (d ++ post)
  whole =
      let e : length (pre ++ (d ++ post)) ≡ J.last - J.base = simp (length-append, length_from) (omega (arith, starts, reaches)) in
      ap (take (J.last - J.base)) (ap (λ (l : List ℕ). pre ++ l) (sym (append_assoc d post beyond)) ∙ sym (append_assoc pre (d ++ post) beyond))
      ∙ take_at (pre ++ (d ++ post)) beyond (J.last - J.base) e

  -- how many bytes are written
  abbrev n : ℕ
  n = written (J.end - J.base) (J.last - J.base) full

  which : Chosen n
  unfolding written
  which = rw at_post (go (blank post) refl)
    where
      go : (b : Bool) → blank post ≡ b → Chosen (cond b (J.end - J.base) (J.last - J.base))
      go true e =
          record {
            more = 0;
            less = omega (arith, reaches);
            ff = λ i h k. blank_all m J.end behind e i (omega arith) (omega arith);
            is = short;
            fits = omega (arith, length_full, reaches);
          }
      go false e =
          record { more = behind; less = omega (arith, reaches); ff = λ i h k. absurd (omega (arith, reaches)); is = whole; fits = length_full }

  -- the written bytes
  abbrev T : List ℕ
  T = take n full

  T-bytes : Each Byte T
  T-bytes = rw which.is (each_append Byte pre (d ++ rest) (each_from m bm J.base before) (each_append Byte d rest bd (each_from m bm J.end which.more)))
    where
      rest : List ℕ
      rest = bytes_from m J.end which.more

  T-end : J.base + length T ≡ J.end + which.more
  T-end = rw which.is (simp (length-append, length_from) (omega (arith, starts)))

  -- written over themselves they are the data alone
  T-data : laid_over J.base T m ≡ laid_over a d m
  T-data =
      let x : J.base + before ≡ a = omega (arith, starts) in
      let y : J.end ≡ J.base + before + length d = omega (arith, starts) in
      ap (λ (l : List ℕ). laid_over J.base l m) (which.is ∙ ap (λ (e : ℕ). pre ++ (d ++ bytes_from m e which.more)) y)
      ∙ restored J.base before which.more d m ∙ ap (λ (b : ℕ). laid_over b d m) x

  -- the span erased and the bytes written: the data laid over
  flash : cleared J.base T (all wiped es m) ≡ laid_over a d m
  flash =
      ap (cleared J.base T) (plan_wipes p w S.fits S.possible t ts are a (length d) here.some m)
      ∙ rewritten J.base (J.last - J.base) T m T-bytes (omega (arith, T-end, which.less, starts, reaches))
      (λ i h k. which.ff i (omega (arith, T-end)) (omega (arith, starts, reaches))) ∙ T-data

  reads_back : bytes_from (laid_over a d m) J.base (length T) ≡ T
  reads_back = ap (λ (f : Mem). bytes_from f J.base (length T)) (sym T-data) ∙ from_laid J.base T m

  -- ---- the pieces, from the last to the first
  abbrev c : Call
  c = Call.Program a d v

  abbrev Good' : List (List ℕ) → State → Script Answer → Type 0
  Good' past s' x = Does p times (Erases p (a, length d)) (Ended c m) past s' x (λ e w' past' s''. Ended c m w' e s'')

  fits_w : Fits p W
  fits_w = fits_roomed p w full S.fits

  polls_w : Pollable p times W
  polls_w = roomed_polls p times w full (polling p times w s S)

  verified : (past : List (List ℕ)) (s' : State) → Idle (laid_over a d m) s' → Good' past s' (after (when v (verify J.base T) W) (λ u. give Done))
  unfolding bytes_from
  verified past s' i =
      does_after p times (Erases p (a, length d)) (Ended c m) past s' (when v (verify J.base T) W) (λ u. give Done) _
      (does_verify p times W fits_w (a, length d) (Ended c m) v J.base T past s' _ i.idle
      (omega (arith, T-end, which.less, starts, reaches, span.fits)) (omega (arith, span.some, span.holds)) (rw i.same reads_back)
      (λ past'. ended_done c m W s' i (possible_roomed w full S.possible) refl))

  -- the written bytes lie in the span
  n_end : J.base + n ≤ J.last
  n_end = omega (arith, T-end, which.less, length-take-le n full which.fits)

  writes : (past : List (List ℕ)) (s' : State) → Idle (all wiped es m) s' → Good' past s' (writing J n 0 W)
  unfolding after
  writes past s' i =
      does_after p times (Erases p (a, length d)) (Ended c m) past s' (each (write_part J.base full) (parts (page_of w.settings) J.base 0 n) W) _ _
      (does_parts p times W fits_w polls_w (a, length d) (Ended c m) J.base full n past s' _ which.fits
      (omega (arith, n_end, starts, reaches, span.fits)) (omega (arith, n_end, starts, reaches, span.holds)) i.idle
      (λ past' s'' j. verified past' s'' (record { idle = j.idle; same = j.same ∙ ap (cleared J.base T) i.same ∙ flash })))

  erases : (past : List (List ℕ)) → Good' past s (erasing J es W)
  erases past =
      let b : Barred p = barred p w S.fits in
      does_after p times (Erases p (a, length d)) (Ended c m) past s (each erase_one es W) _ _
      (does_each p times (Erases p (a, length d)) (Ended c m) W polls_w (no_erase_poll p (a, length d) W b) (no_erase_lem p (a, length d) write_enable b.op06)
      erase_one (erase_block w.settings) wiped (λ e. refl) es past s _
      (plan_operates p w S.fits S.possible t ts are a (length d) here.some (omega (arith, starts, reaches, span.fits)) (omega (arith, starts, reaches, span.holds)))
      S.idle (λ past' s' j. writes past' s' j))

  abbrev w₁ : Kept
  w₁ = roomed w (over (J.from - J.base) d w.room)

  abbrev w₂ : Kept
  w₂ = roomed w₁ (over 0 pre w₁.room)

  pub begins : Good' [] s (read_before J w₁)
  begins =
      does_after p times (Erases p (a, length d)) (Ended c m) [] s (when (ltb J.base J.from) (fetch 0 J.base before) w₁) (λ u. read_after J) _
      (does_fetch p times w₁ (fits_roomed p w w₁.room S.fits) (a, length d) (Ended c m) (ltb J.base J.from) 0 J.base before [] s _ S.idle
      (λ e. omega (arith, ltb-false J.base J.from e)) (omega (arith, starts, here.fits)) (λ _. omega (arith, span.some, span.holds))
      (λ past. does_after p times (Erases p (a, length d)) (Ended c m) past s (when (ltb J.end J.last) (fetch (J.end - J.base) J.end behind) w₂) _ _
      (does_fetch p times w₂ (fits_roomed p w w₂.room S.fits) (a, length d) (Ended c m) (ltb J.end J.last) (J.end - J.base) J.end behind past s _ S.idle
      (λ e. omega (arith, ltb-false J.end J.last e)) (omega (arith, starts, reaches, span.fits))
      (λ e. omega (arith, ltb-true J.end J.last e, starts, span.holds))
      (λ past'. rw reads (erases past')))))

-- ---- program, with its checks
pub program_does : (p : Part) (times : Times) (w : Kept) (s : State) (S : Started p times w s) → Bytes s.memory → (a : ℕ) (d : List ℕ) (v : Bool) → Each Byte d
    → Goal p times s (Call.Program a d v) (program a d v w)
unfolding after refused program
program_does p times w s S bm a d v bd =
    need_case (Goal p times s c) w _ (accepted_range w.settings a (length d)) (bad_range (last_address a (length d))) (refuses p times w s S c _ refl)
    (λ h. types_case (Goal p times s c) w _ (refuses p times w s S c _ refl)
    (λ t ts e. need_case (Goal p times s c) w _ (accepted_range w.settings J.base (J.last - J.base)) (bad_range (last_address J.base (J.last - J.base)))
    (refuses p times w s S c _ refl)
    (λ k. need_case (Goal p times s c) w _ (leb (J.last - J.base) (length w.room)) (NoRoom (J.last - J.base)) (refuses p times w s S c _ refl)
    (λ l. begins p times w s S bm a d v bd t ts e (within_part p w S.fits a (length d) h) (within_part p w S.fits J.base (J.last - J.base) k)
    (leb-true (J.last - J.base) (length w.room) l)))))
  where
    c : Call
    c = Call.Program a d v

    J : Job
    J = job w a d v
