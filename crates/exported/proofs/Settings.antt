-- What C reads from the settings' record is what the session keeps.
use Rattle.std.proofs.Common.{Option, Some, None, is_some, unwrap_or, cond}
use mathlib.Core.Path.{◌≡◌, refl, sym, ap, ◌∙◌, subst}
use mathlib.Core.Bool.{Bool, true, false, cond, not, ◌&&◌}
use mathlib.Core.List.{List, [], ◌∷◌, ◌++◌}
use Prim.Native.Nat.{ℕ, ◌+◌, ◌*◌, ◌/◌, ◌%◌, ◌≤◌, ◌<◌, ◌^◌}
use native.Mathlib.Omega.{arith}
use native.Mathlib.Nat.{mod-eq_of_lt}
use lib.Dec.{eqb, ltb}
use lib.ListN.{length, take, drop}
use borrow.Author.Tests.{le-ltb}
use Rattle.settings.specs.declared.Settings.{Settings}
use Rattle.commands.specs.Transactions.{by_flag}
use Rattle.room.specs.Room.{laid}
use Rattle.phases.specs.Moves.{is_ended}
use Rattle.flash.specs.declared.Session.{Session}
use Rattle.flash.specs.Waits.{flagged}
use Rattle.flash.specs.Starts.{fresh}
use Rattle.meaning.specs.Meaning.{kept_of}
use Rattle.packed.specs.Layout.{bytes_of}
use Rattle.rule.specs.Kept.{Whole}
use Rattle.moss_flash.specs.declared.records.SettingsRecord.{SettingsRecord}
use Rattle.moss_flash.specs.Records.{bit, le8, low_first, settings_head, settings_words, settings_over}
use Rattle.moss_flash.specs.Calls.{Called, unpack_of, settings_called}
use Rattle.driver.specs.Demand3.{after}
use Rattle.exported.specs.Exports.{number_at, exports}
use Rattle.exported.specs.Settings.{Told, told_in, told_of, SettingsShown}
use Rattle.exported.proofs.Decoding.{laid_next, shorter, digits, low_four, exact_8}
use Rattle.exported.proofs.Exports.{unpacks, reaches, new_packs}

abbrev words : SettingsRecord → List ℕ → List ℕ
words w l = le8 w.head ++ (le8 w.capacity ++ (le8 w.sizes ++ (le8 w.density ++ l)))

record Written (w : SettingsRecord) (l : List ℕ) : Type 0 where
  rest : List ℕ
  is : settings_over w l ≡ words w rest

written : (w : SettingsRecord) (l : List ℕ) → 32 ≤ length l → Written w l
unfolding settings_over
written w l h =
    let l1 = drop 8 l in
    let l2 = drop 8 l1 in
    let l3 = drop 8 l2 in
    let h1 : 24 ≤ length l1 = shorter 8 24 l h in
    let h2 : 16 ≤ length l2 = shorter 8 16 l1 h1 in
    let h3 : 8 ≤ length l3 = shorter 8 8 l2 h2 in
    let a = le8 w.head in
    let b = le8 w.capacity in
    let c = le8 w.sizes in
    let d = le8 w.density in
    record {
      rest = drop 8 l3;
      is = ap (λ (x : List ℕ). laid 24 d (laid 16 c (laid 8 b x))) (laid_next 0 [] a l refl (omega (arith, h)))
          ∙ ap (λ (x : List ℕ). laid 24 d (laid 16 c x)) (laid_next 8 a b l1 refl (omega (arith, h1)))
          ∙ ap (λ (x : List ℕ). laid 24 d x) (laid_next 16 (a ++ b) c l2 refl (omega (arith, h2)))
          ∙ laid_next 24 (a ++ (b ++ c)) d l3 refl (omega (arith, h3));
    }

-- ---- the numbers
low_4 : (x : ℕ) → low_first (take 4 (le8 x)) ≡ x % 2 ^ 32
unfolding low_first
low_4 x = low_four x

page_in : (p q : ℕ) → p < 2 ^ 32 → low_first (take 4 (le8 (p + 4294967296 * q))) ≡ p
page_in p q h = let e : (p + 4294967296 * q) % 2 ^ 32 ≡ p = omega (arith, h) in low_4 (p + 4294967296 * q) ∙ e

size_in : (p q : ℕ) → p < 2 ^ 32 → q < 2 ^ 32 → low_first (take 4 (drop 4 (le8 (p + 4294967296 * q)))) ≡ q
size_in p q h g =
    let e : (p + 4294967296 * q) / 256 / 256 / 256 / 256 ≡ q = omega (arith, h) in
    low_4 ((p + 4294967296 * q) / 256 / 256 / 256 / 256) ∙ ap (λ (z : ℕ). z % 2 ^ 32) e ∙ mod-eq_of_lt g

bit_small : (b : Bool) → bit b < 256
bit_small true = omega arith
bit_small false = omega arith

bit_read : (b : Bool) → eqb (bit b + 256 * 0) 1 ≡ b
bit_read true = refl
bit_read false = refl

-- a capacity from its mark and its number
capacity_read : (o : Option ℕ) {b : Bool} {n : ℕ} → b ≡ is_some o → n ≡ unwrap_or o 0 → cond b (Some n) None ≡ o
capacity_read (Some x) e h = rw (e, h)
capacity_read None e h = rw e

one_byte : (x : ℕ) → x + 256 * 0 ≡ x
one_byte x = omega arith

two_bytes : (x : ℕ) → x % 256 + 256 * (x / 256 + 256 * 0) ≡ x
two_bytes x = omega arith

head_digits : (s : Session) → Whole s
    → le8 (settings_head s)
    ≡ s.settings.address_bytes ∷ bit (is_some s.settings.capacity) ∷ s.settings.erase_opcode ∷ bit s.known
    ∷ s.settings.poll_limit % 256 ∷ s.settings.poll_limit / 256 ∷ bit (flagged s) ∷ bit (not (is_ended s.phase)) ∷ []
unfolding settings_head low_first
head_digits s w =
    let p = s.settings.poll_limit in
    let t = w.typed.settings in
    let e : settings_head s
    ≡ s.settings.address_bytes + 256 * (bit (is_some s.settings.capacity) + 256 * (s.settings.erase_opcode + 256 * (bit s.known
    + 256 * (p % 256 + 256 * (p / 256 + 256 * (bit (flagged s) + 256 * bit (not (is_ended s.phase)))))))) = omega arith in
    ap le8 e
    ∙ digits s.settings.address_bytes (bit (is_some s.settings.capacity)) s.settings.erase_opcode (bit s.known) (p % 256) (p / 256) (bit (flagged s)) (bit (not (is_ended s.phase)))
    t.address_bytes (bit_small (is_some s.settings.capacity)) t.erase_opcode (bit_small s.known) (omega arith) (omega (arith, t.poll_limit)) (bit_small (flagged s))
    (bit_small (not (is_ended s.phase)))

-- ---- the record
-- from what the eight bytes of its head are, and its other numbers
reads : (s : Session) → Whole s → (rest : List ℕ) → told_in (words (settings_words s) rest) ≡ told_of (kept_of s []) (not (is_ended s.phase))
unfolding settings_words low_first flagged by_flag
reads s w rest =
    let x = s.settings in
    let d = cond s.known s.params.density 0 in
    let back : List ℕ = le8 (unwrap_or x.capacity 0) ++ (le8 (x.page_size + 4294967296 * x.erase_size) ++ (le8 d ++ rest)) in
    let runs = not (is_ended s.phase) in
    let t = w.typed in
    ap (λ (l : List ℕ). told_in (l ++ back)) (head_digits s w)
    ∙ same (one_byte x.address_bytes) (capacity_read x.capacity (bit_read (is_some x.capacity)) (exact_8 (unwrap_or x.capacity 0) t.settings.capacity)) (exact_8 (unwrap_or x.capacity 0) t.settings.capacity)
    (page_in x.page_size x.erase_size t.settings.page_size) (size_in x.page_size x.erase_size t.settings.page_size t.settings.erase_size)
    (one_byte x.erase_opcode) (two_bytes x.poll_limit) (bit_read s.known) (bit_read (s.known && s.params.busy_poll_flag)) (bit_read runs)
    (exact_8 d (dense s.known))
  where
    dense : (b : Bool) → cond b s.params.density 0 < 2 ^ 64
    dense true = w.typed.params.density
    dense false = omega arith

    same : {a a' c c' p p' z z' o o' l l' d d' : ℕ} {m m' : Option ℕ} {k k' f f' r r' : Bool} → a ≡ a' → m ≡ m' → c ≡ c' → p ≡ p' → z ≡ z' → o ≡ o' → l ≡ l' → k ≡ k' → f ≡ f' → r ≡ r' → d ≡ d'
        → ◌≡◌ {A = Told}
        (record { settings = record { address_bytes = a; capacity = m; page_size = p; erase_size = z; erase_opcode = o; poll_limit = l }; capacity = c; known = k; by_flags = f; runs = r; density = d })
        (record { settings = record { address_bytes = a'; capacity = m'; page_size = p'; erase_size = z'; erase_opcode = o'; poll_limit = l' }; capacity = c'; known = k'; by_flags = f'; runs = r'; density = d' })
    same e1 e2 e3 e4 e5 e6 e7 e8 e9 e10 e11 = cc

pub settings_shown : SettingsShown
settings_shown e long ts h out fits =
    let s : Session = after ts in
    let g = reaches e long ts h (exports e).fresh fresh [] (new_packs e long) in
    let w = written (settings_words s) out fits in
    ap (λ (b : List ℕ). told_in (settings_called (unpack_of b) out).event) g.0
    ∙ ap (λ (u : Option Session). told_in (settings_called u out).event) (unpacks s g.1)
    ∙ ap (λ (b : Bool). told_in (cond {A = Called} b (record { number = 11; session = []; event = out; room = [] }) (record { number = 0; session = []; event = settings_over (settings_words s) out; room = [] })).event)
    (le-ltb (length out) 32 fits)
    ∙ ap told_in w.is
    ∙ reads s g.1 w.rest
