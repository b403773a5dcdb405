-- Raw writes on a memory: they clear bits, so they may be repeated, reordered and merged.
use mathlib.Core.Path.{◌≡◌, refl, sym, ap, ap₂, ◌∙◌, fun_ext}
use mathlib.Core.Bool.{Bool, true, false, cond}
use mathlib.Core.List.{List, [], ◌∷◌, ◌++◌, Permᴰ}
use Prim.Native.Nat.{ℕ, zero, suc, ◌+◌, ◌-◌, ◌*◌, ◌/◌, ◌%◌, min}
use native.Mathlib.Omega.{arith}
use lib.Arith.{bin_ind}
use lib.Bits.{bit_and, and_step, and_comm, and_self}
use lib.ListN.{length, get_or}
use Rattle.commands.specs.Calls.{Call, Erase}
use Rattle.nor_model.specs.Replay.{among, cleared, effect, replay}
use Rattle.nor_model.proofs.Memory.{Mem}
use Rattle.raw_writes.specs.RawWrites.{Raw, calls, anded, raw}

-- ---- AND, bit by bit
and_half : (a b : ℕ) → bit_and a b / 2 ≡ bit_and (a / 2) (b / 2)
and_half a b = rw (and_step a b) (omega arith)

and_bit : (a b : ℕ) → bit_and a b % 2 ≡ min (a % 2) (b % 2)
and_bit a b = rw (and_step a b) (omega arith)

min3 : (x y z : ℕ) → min (min x y) z ≡ min x (min y z)
min3 x y z = omega arith

and_assoc : (a b c : ℕ) → bit_and (bit_and a b) c ≡ bit_and a (bit_and b c)
and_assoc a =
    bin_ind (λ (n : ℕ). (b c : ℕ) → bit_and (bit_and n b) c ≡ bit_and n (bit_and b c)) (λ b c. refl)
    (λ n ih b c. and_step (bit_and n b) c
    ∙ ap₂ (λ (x y : ℕ). bit_and x (c / 2) * 2 + min y (c % 2)) (and_half n b) (and_bit n b)
    ∙ ap₂ (λ (x y : ℕ). x * 2 + y) (ih (b / 2) (c / 2)) (min3 (n % 2) (b % 2) (c % 2))
    ∙ sym (ap₂ (λ (x y : ℕ). bit_and (n / 2) x * 2 + min (n % 2) y) (and_half b c) (and_bit b c))
    ∙ sym (and_step n (bit_and b c))) a

and_twice : (a d : ℕ) → bit_and (bit_and a d) d ≡ bit_and a d
and_twice a d = and_assoc a d d ∙ ap (bit_and a) (and_self d)

and_swap : (a d e : ℕ) → bit_and (bit_and a d) e ≡ bit_and (bit_and a e) d
and_swap a d e = and_assoc a d e ∙ ap (bit_and a) (and_comm d e) ∙ sym (and_assoc a e d)

-- ---- at one address: whether each write reaches it, what stands there, what is written
at_twice : (t : Bool) (v x : ℕ) → cond t (bit_and (cond t (bit_and v x) v) x) (cond t (bit_and v x) v) ≡ cond t (bit_and v x) v
at_twice true v x = and_twice v x
at_twice false v x = refl

at_order : (t u : Bool) (v x y : ℕ)
    → cond u (bit_and (cond t (bit_and v x) v) y) (cond t (bit_and v x) v) ≡ cond t (bit_and (cond u (bit_and v y) v) x) (cond u (bit_and v y) v)
at_order true true v x y = and_swap v x y
at_order true false v x y = refl
at_order false true v x y = refl
at_order false false v x y = refl

at_merged : (t : Bool) (v x y : ℕ) → cond t (bit_and (cond t (bit_and v x) v) y) (cond t (bit_and v x) v) ≡ cond t (bit_and v (bit_and x y)) v
at_merged true v x y = and_assoc v x y
at_merged false v x y = refl

-- ---- data ANDed
pub length_anded : (d e : List ℕ) → length d ≡ length e → length (anded d e) ≡ length d
unfolding anded
length_anded [] e h = refl
length_anded (x ∷ d) [] h = absurd (omega arith)
length_anded (x ∷ d) (y ∷ e) h = ap suc (length_anded d e (omega arith))

get_or_anded : (d e : List ℕ) (k : ℕ) → length d ≡ length e → get_or (anded d e) k 255 ≡ bit_and (get_or d k 255) (get_or e k 255)
unfolding anded
get_or_anded [] [] k h = refl
get_or_anded [] (y ∷ e) k h = absurd (omega arith)
get_or_anded (x ∷ d) [] k h = absurd (omega arith)
get_or_anded (x ∷ d) (y ∷ e) zero h = refl
get_or_anded (x ∷ d) (y ∷ e) (suc k) h = get_or_anded d e k (omega arith)

-- ---- memories
cleared_twice : (a : ℕ) (d : List ℕ) (m : Mem) → cleared a d (cleared a d m) ≡ cleared a d m
unfolding cleared
cleared_twice a d m = fun_ext (λ i. at_twice (among a (length d) i) (m i) (get_or d (i - a) 255))

cleared_order : (a b : ℕ) (d e : List ℕ) (m : Mem) → cleared b e (cleared a d m) ≡ cleared a d (cleared b e m)
unfolding cleared
cleared_order a b d e m =
    fun_ext (λ i. at_order (among a (length d) i) (among b (length e) i) (m i) (get_or d (i - a) 255) (get_or e (i - b) 255))

cleared_merged : (a : ℕ) (d e : List ℕ) (m : Mem) → length d ≡ length e → cleared a e (cleared a d m) ≡ cleared a (anded d e) m
unfolding cleared
cleared_merged a d e m h = fun_ext (λ i. go i)
  where
    go : (i : ℕ) → cleared a e (cleared a d m) i ≡ cleared a (anded d e) m i
    go i =
        rw (length_anded d e h, get_or_anded d e (i - a) h, ← h)
        (at_merged (among a (length d) i) (m i) (get_or d (i - a) 255) (get_or e (i - a) 255))

-- ---- replays
replay_append : (cs ds : List Call) (m : Mem) → replay (cs ++ ds) m ≡ replay ds (replay cs m)
unfolding replay
replay_append [] ds m = refl
replay_append (c ∷ cs) ds m = replay_append cs ds (effect c m)

calls_append : (xs ys : List Raw) → calls (xs ++ ys) ≡ calls xs ++ calls ys
calls_append [] ys = refl
calls_append (x ∷ xs) ys = ap (λ (cs : List Call). calls (x ∷ []) ++ cs) (calls_append xs ys)

-- two writings that agree on every memory agree behind the same writes
behind_same : (before xs ys : List Raw) → ((m : Mem) → replay (calls xs) m ≡ replay (calls ys) m)
    → (m : Mem) → replay (calls (before ++ xs)) m ≡ replay (calls (before ++ ys)) m
behind_same before xs ys h m =
    ap (λ (cs : List Call). replay cs m) (calls_append before xs)
    ∙ replay_append (calls before) (calls xs) m
    ∙ h (replay (calls before) m)
    ∙ sym (replay_append (calls before) (calls ys) m)
    ∙ sym (ap (λ (cs : List Call). replay cs m) (calls_append before ys))

pub replay_twice : (before behind : List Raw) (x : Raw) (m : Mem) → replay (calls (before ++ (x ∷ x ∷ behind))) m ≡ replay (calls (before ++ (x ∷ behind))) m
unfolding replay
replay_twice before behind x =
    behind_same before (x ∷ x ∷ behind) (x ∷ behind) (λ m. ap (replay (calls behind)) (cleared_twice x.at x.bytes m))

pub replay_order : (before behind : List Raw) (x y : Raw) (m : Mem)
    → replay (calls (before ++ (x ∷ y ∷ behind))) m ≡ replay (calls (before ++ (y ∷ x ∷ behind))) m
unfolding replay
replay_order before behind x y =
    behind_same before (x ∷ y ∷ behind) (y ∷ x ∷ behind)
    (λ m. ap (replay (calls behind)) (cleared_order x.at y.at x.bytes y.bytes m))

pub replay_any : {xs ys : List Raw} → Permᴰ xs ys → (m : Mem) → replay (calls xs) m ≡ replay (calls ys) m
unfolding replay
replay_any Permᴰ.nil m = refl
replay_any (Permᴰ.cons {a = x} {l₁ = xs} e q) m =
    ap (λ (y : Raw). replay (calls xs) (cleared y.at y.bytes m)) e ∙ replay_any q _
replay_any (Permᴰ.swap {a = x} {b = y} {l = l} e f) m =
    ap (replay (calls l)) (cleared_order x.at y.at x.bytes y.bytes m)
    ∙ ap₂ (λ (u v : Raw). replay (calls l) (cleared u.at u.bytes (cleared v.at v.bytes m))) e f
replay_any (Permᴰ.trans q r) m = replay_any q m ∙ replay_any r m

pub replay_merged : (before behind : List Raw) (a : ℕ) (d e : List ℕ) → length d ≡ length e → (m : Mem)
    → replay (calls (before ++ (raw a d ∷ raw a e ∷ behind))) m ≡ replay (calls (before ++ (raw a (anded d e) ∷ behind))) m
unfolding replay
replay_merged before behind a d e h =
    behind_same before (raw a d ∷ raw a e ∷ behind) (raw a (anded d e) ∷ behind)
    (λ m. ap (replay (calls behind)) (cleared_merged a d e m h))

-- a chip erase forgets what was
pub replay_erased : (before ds : List Call) (m : Mem) → replay (before ++ (Erase ∷ ds)) m ≡ replay (Erase ∷ ds) m
unfolding replay
replay_erased before ds m = replay_append before (Erase ∷ ds) m
