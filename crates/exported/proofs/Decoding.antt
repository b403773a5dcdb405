-- What C reads from an event record is what was written there.
use mathlib.Core.Path.{◌≡◌, refl, sym, ap, ◌∙◌}
use mathlib.Core.Bool.{Bool, true, false, cond, ◌&&◌}
use mathlib.Core.List.{List, [], ◌∷◌, ◌++◌, append_assoc}
use Prim.Native.Nat.{ℕ, zero, suc, ◌+◌, ◌*◌, ◌/◌, ◌%◌, ◌≤◌, ◌<◌, ◌^◌}
use native.Mathlib.Omega.{arith}
use native.Mathlib.Nat.{mod-eq_of_lt, mod-lt}
use lib.Arith.{mod-mul}
use lib.Dec.{eqb, leb}
use lib.ListN.{length, take, drop, length-append, length-drop}
use borrow.Author.Tests.{eq-eqb, ne_eqb, le-leb}
use Rattle.commands.specs.declared.Answer.{Answer}
use Rattle.commands.specs.declared.Answer.TheVariants.{Done, DoneBool, DoneId, ReadbackError, InvalidManufacturer, InvalidSFDPHeader, InvalidSFDPParams, InvalidAddress, NoResetInstruction, NoEraseInstruction, Access, Busy, BadSetting, NoRoom, NoSFDP, BadSession}
use Rattle.commands.specs.Answers.{number_of}
use Rattle.commands.specs.Wire.{high_first, wire}
use Rattle.commands.specs.Script.{over}
use Rattle.room.specs.Room.{laid, part_of}
use Rattle.phases.specs.declared.Transaction.{Transaction}
use Rattle.flash.specs.declared.Event.{Event}
use Rattle.flash.specs.declared.Event.TheVariants.{Send, Answered}
use Rattle.meaning.specs.Meaning.{sent_of}
use Rattle.moss_flash.specs.declared.records.EventWords.{EventWords}
use Rattle.moss_flash.specs.Records.{bit, le8, low_first, address_in, head_of, sent_words, number_a, number_b, answer_words, event_words, words_over, event_over}
use Rattle.moss_flash.specs.Calls.{Called, number_in}
use Rattle.driver.specs.Driver.{Told, sends, answers, carried}
use Rattle.driver.specs.ByValue.{told_by}
use Rattle.exported.specs.Exports.{number_at, carried_in, told_in, in_numbers}
use Rattle.exported.proofs.Widths.{Fine}

-- ---- the record is its eight numbers, and then what was there
over_next : (k : ℕ) (front new l : List ℕ) → length front ≡ k → take k (front ++ l) ++ (new ++ drop (k + length new) (front ++ l)) ≡ front ++ (new ++ drop (length new) l)
over_next zero [] new l h = let e : 0 + length new ≡ length new = omega arith in ap (λ (n : ℕ). new ++ drop n l) e
over_next zero (x ∷ front) new l h = absurd (omega (arith, h))
over_next (suc k) [] new l h = absurd (omega (arith, h))
over_next (suc k) (x ∷ front) new l h =
    let e : suc k + length new ≡ suc (k + length new) = omega arith in
    ap (λ (n : ℕ). x ∷ (take k (front ++ l) ++ (new ++ drop n (x ∷ (front ++ l))))) e
    ∙ ap (λ (m : List ℕ). x ∷ m) (over_next k front new l (omega (arith, h)))

pub laid_next : (k : ℕ) (front new l : List ℕ) → length front ≡ k → length new ≤ length l → laid k new (front ++ l) ≡ front ++ (new ++ drop (length new) l)
unfolding laid over
laid_next k front new l h g =
    let fits : k + length new ≤ length (front ++ l) = omega (arith, h, g, length-append front l) in
    rw (le-leb (k + length new) (length (front ++ l)) fits) (over_next k front new l h)

pub shorter : (k n : ℕ) (l : List ℕ) → k + n ≤ length l → n ≤ length (drop k l)
shorter k n l h = omega (arith, h, length-drop k l)

-- the numbers, before any bytes
abbrev words : EventWords → List ℕ → List ℕ
words w l = le8 w.head ++ (le8 w.reply ++ (le8 w.from ++ (le8 w.len ++ (le8 w.delay ++ (le8 w.polls ++ (le8 w.a ++ (le8 w.b ++ l)))))))

record Written (w : EventWords) (l : List ℕ) : Type 0 where
  rest : List ℕ
  is : words_over w l ≡ words w rest

written : (w : EventWords) (l : List ℕ) → 64 ≤ length l → Written w l
unfolding words_over
written w l h =
    let l1 = drop 8 l in
    let l2 = drop 8 l1 in
    let l3 = drop 8 l2 in
    let l4 = drop 8 l3 in
    let l5 = drop 8 l4 in
    let l6 = drop 8 l5 in
    let l7 = drop 8 l6 in
    let h1 : 56 ≤ length l1 = shorter 8 56 l h in
    let h2 : 48 ≤ length l2 = shorter 8 48 l1 h1 in
    let h3 : 40 ≤ length l3 = shorter 8 40 l2 h2 in
    let h4 : 32 ≤ length l4 = shorter 8 32 l3 h3 in
    let h5 : 24 ≤ length l5 = shorter 8 24 l4 h4 in
    let h6 : 16 ≤ length l6 = shorter 8 16 l5 h5 in
    let h7 : 8 ≤ length l7 = shorter 8 8 l6 h6 in
    let a = le8 w.head in
    let b = le8 w.reply in
    let c = le8 w.from in
    let d = le8 w.len in
    let e = le8 w.delay in
    let f = le8 w.polls in
    let g = le8 w.a in
    let i = le8 w.b in
    record {
      rest = drop 8 l7;
      is = ap (λ (x : List ℕ). laid 56 i (laid 48 g (laid 40 f (laid 32 e (laid 24 d (laid 16 c (laid 8 b x))))))) (laid_next 0 [] a l refl (omega (arith, h)))
          ∙ ap (λ (x : List ℕ). laid 56 i (laid 48 g (laid 40 f (laid 32 e (laid 24 d (laid 16 c x)))))) (laid_next 8 a b l1 refl (omega (arith, h1)))
          ∙ ap (λ (x : List ℕ). laid 56 i (laid 48 g (laid 40 f (laid 32 e (laid 24 d x))))) (laid_next 16 (a ++ b) c l2 refl (omega (arith, h2)))
          ∙ ap (λ (x : List ℕ). laid 56 i (laid 48 g (laid 40 f (laid 32 e x)))) (laid_next 24 (a ++ (b ++ c)) d l3 refl (omega (arith, h3)))
          ∙ ap (λ (x : List ℕ). laid 56 i (laid 48 g (laid 40 f x))) (laid_next 32 (a ++ (b ++ (c ++ d))) e l4 refl (omega (arith, h4)))
          ∙ ap (λ (x : List ℕ). laid 56 i (laid 48 g x)) (laid_next 40 (a ++ (b ++ (c ++ (d ++ e)))) f l5 refl (omega (arith, h5)))
          ∙ ap (λ (x : List ℕ). laid 56 i x) (laid_next 48 (a ++ (b ++ (c ++ (d ++ (e ++ f))))) g l6 refl (omega (arith, h6)))
          ∙ laid_next 56 (a ++ (b ++ (c ++ (d ++ (e ++ (f ++ g)))))) i l7 refl (omega (arith, h7));
    }

-- ---- numbers of bytes
low_of : (x y : ℕ) → x < 256 → (x + 256 * y) % 256 ≡ x
low_of x y h = omega arith

high_of_lem : (x y : ℕ) → x < 256 → (x + 256 * y) / 256 ≡ y
high_of_lem x y h = omega arith

-- eight bytes from the number that they make
pub digits : (a b c d e f g i : ℕ) → a < 256 → b < 256 → c < 256 → d < 256 → e < 256 → f < 256 → g < 256 → i < 256
    → le8 (a + 256 * (b + 256 * (c + 256 * (d + 256 * (e + 256 * (f + 256 * (g + 256 * i))))))) ≡ a ∷ b ∷ c ∷ d ∷ e ∷ f ∷ g ∷ i ∷ []
digits a b c d e f g i ha hb hc hd he hf hg hi =
    let r6 = g + 256 * i in
    let r5 = f + 256 * r6 in
    let r4 = e + 256 * r5 in
    let r3 = d + 256 * r4 in
    let r2 = c + 256 * r3 in
    let r1 = b + 256 * r2 in
    rw (
      high_of_lem a r1 ha,
      high_of_lem b r2 hb,
      high_of_lem c r3 hc,
      high_of_lem d r4 hd,
      high_of_lem e r5 he,
      high_of_lem f r6 hf,
      high_of_lem g i hg,
      low_of a r1 ha,
      low_of b r2 hb,
      low_of c r3 hc,
      low_of d r4 hd,
      low_of e r5 he,
      low_of f r6 hf,
      low_of g i hg,
      mod-eq_of_lt hi,
    )

-- a number from its eight bytes
pub fold : (x m : ℕ) → 0 < m → x % 256 + 256 * (x / 256 % m) ≡ x % (m * 256)
fold x m h = let e : x % (m * 256) ≡ (x / 256 % m) * 256 + x % 256 = mod-mul x h (omega arith) in omega (arith, e)

-- from its lowest four
pub low_four : (x : ℕ) → x % 256 + 256 * (x / 256 % 256 + 256 * (x / 256 / 256 % 256 + 256 * (x / 256 / 256 / 256 % 256 + 256 * 0))) ≡ x % 2 ^ 32
low_four x =
    let x1 = x / 256 in
    let x2 = x1 / 256 in
    let x3 = x2 / 256 in
    let e3 : x3 % 256 + 256 * 0 ≡ x3 % 256 = omega arith in
    let e2 : x2 % 256 + 256 * (x3 % 256) ≡ x2 % 2 ^ 16 = fold x2 256 (omega arith) in
    let e1 : x1 % 256 + 256 * (x2 % 2 ^ 16) ≡ x1 % 2 ^ 24 = fold x1 (2 ^ 16) (omega arith) in
    ap (λ (z : ℕ). x % 256 + 256 * (x1 % 256 + 256 * (x2 % 256 + 256 * z))) e3
    ∙ ap (λ (z : ℕ). x % 256 + 256 * (x1 % 256 + 256 * z)) e2
    ∙ ap (λ (z : ℕ). x % 256 + 256 * z) e1
    ∙ fold x (2 ^ 24) (omega arith)

pub low_8 : (x : ℕ) → low_first (le8 x) ≡ x % 2 ^ 64
unfolding low_first
low_8 x =
    let x1 = x / 256 in
    let x2 = x1 / 256 in
    let x3 = x2 / 256 in
    let x4 = x3 / 256 in
    let x5 = x4 / 256 in
    let x6 = x5 / 256 in
    let x7 = x6 / 256 in
    let e7 : x7 % 256 + 256 * 0 ≡ x7 % 256 = omega arith in
    let e6 : x6 % 256 + 256 * (x7 % 256) ≡ x6 % 2 ^ 16 = fold x6 256 (omega arith) in
    let e5 : x5 % 256 + 256 * (x6 % 2 ^ 16) ≡ x5 % 2 ^ 24 = fold x5 (2 ^ 16) (omega arith) in
    let e4 : x4 % 256 + 256 * (x5 % 2 ^ 24) ≡ x4 % 2 ^ 32 = fold x4 (2 ^ 24) (omega arith) in
    let e3 : x3 % 256 + 256 * (x4 % 2 ^ 32) ≡ x3 % 2 ^ 40 = fold x3 (2 ^ 32) (omega arith) in
    let e2 : x2 % 256 + 256 * (x3 % 2 ^ 40) ≡ x2 % 2 ^ 48 = fold x2 (2 ^ 40) (omega arith) in
    let e1 : x1 % 256 + 256 * (x2 % 2 ^ 48) ≡ x1 % 2 ^ 56 = fold x1 (2 ^ 48) (omega arith) in
    ap (λ (z : ℕ). x % 256 + 256 * (x1 % 256 + 256 * (x2 % 256 + 256 * (x3 % 256 + 256 * (x4 % 256 + 256 * (x5 % 256 + 256 * (x6 % 256 + 256 * z))))))) e7
    ∙ ap (λ (z : ℕ). x % 256 + 256 * (x1 % 256 + 256 * (x2 % 256 + 256 * (x3 % 256 + 256 * (x4 % 256 + 256 * (x5 % 256 + 256 * z)))))) e6
    ∙ ap (λ (z : ℕ). x % 256 + 256 * (x1 % 256 + 256 * (x2 % 256 + 256 * (x3 % 256 + 256 * (x4 % 256 + 256 * z))))) e5
    ∙ ap (λ (z : ℕ). x % 256 + 256 * (x1 % 256 + 256 * (x2 % 256 + 256 * (x3 % 256 + 256 * z)))) e4
    ∙ ap (λ (z : ℕ). x % 256 + 256 * (x1 % 256 + 256 * (x2 % 256 + 256 * z))) e3
    ∙ ap (λ (z : ℕ). x % 256 + 256 * (x1 % 256 + 256 * z)) e2
    ∙ ap (λ (z : ℕ). x % 256 + 256 * z) e1
    ∙ fold x (2 ^ 56) (omega arith)

pub exact_8 : (x : ℕ) → x < 2 ^ 64 → low_first (le8 x) ≡ x
exact_8 x h = low_8 x ∙ mod-eq_of_lt h

-- ---- an answer
number_small : (a : Answer) → number_of a < 16
number_small Done = omega arith
number_small (DoneBool y) = omega arith
number_small (DoneId x y z) = omega arith
number_small (ReadbackError x y z) = omega arith
number_small InvalidManufacturer = omega arith
number_small InvalidSFDPHeader = omega arith
number_small InvalidSFDPParams = omega arith
number_small (InvalidAddress r) = omega arith
number_small NoResetInstruction = omega arith
number_small NoEraseInstruction = omega arith
number_small Access = omega arith
number_small Busy = omega arith
number_small BadSetting = omega arith
number_small (NoRoom n) = omega arith
number_small NoSFDP = omega arith
number_small BadSession = omega arith

module _ (b room : List ℕ) where
  answer_decodes : (a : Answer) (n : ℕ) (l : List ℕ) → 64 ≤ length l
      → told_in (record { number = number_of a; session = b; event = event_over (Answered a n) l; room = room }) ≡ in_numbers (answers a n)
  unfolding event_words answer_words low_first
  answer_decodes a n l h =
      let w = written (answer_words a n) l h in
      let not255 : eqb (number_of a) 255 ≡ false = ne_eqb (number_of a) 255 (λ e. omega (arith, e, number_small a)) in
      let kind : number_of a % 256 + 256 * 0 ≡ number_of a = omega (arith, number_small a) in
      ap (λ (e : List ℕ). told_in (record { number = number_of a; session = b; event = e; room = room })) w.is
      ∙ ap (λ (t : Bool). cond (t && eqb (number_at 0 1 (words (answer_words a n) w.rest)) 255) (sends (carried_in (words (answer_words a n) w.rest) room))
      (answers (record { result = number_of a; kind = number_of a % 256 + 256 * 0; a = low_first (le8 (number_a a)); b = low_first (le8 (number_b a)) }) (low_first (le8 n)))) not255
      ∙ ap (λ (k : ℕ). answers (record { result = number_of a; kind = k; a = low_first (le8 (number_a a)); b = low_first (le8 (number_b a)) }) (low_first (le8 n))) kind
      ∙ ap (λ (k : ℕ). answers (record { result = number_of a; kind = number_of a; a = k; b = low_first (le8 (number_b a)) }) (low_first (le8 n))) (low_8 (number_a a))
      ∙ ap (λ (k : ℕ). answers (record { result = number_of a; kind = number_of a; a = number_a a % 2 ^ 64; b = k }) (low_first (le8 n))) (low_8 (number_b a))
      ∙ ap (λ (k : ℕ). answers (record { result = number_of a; kind = number_of a; a = number_a a % 2 ^ 64; b = number_b a % 2 ^ 64 }) k) (low_8 n)

-- ---- a transaction
-- its head: command byte, address bytes, a dummy
abbrev head : ℕ → ℕ → Bool → ℕ → ℕ
head op n dummy a = 255 + 256 * (1 + n + bit dummy) + 65536 * (op + 256 * address_in n a)

record Headed (op n : ℕ) (dummy : Bool) (a : ℕ) (rest : List ℕ) : Type 0 where
  kind : number_at 0 1 (le8 (head op n dummy a) ++ rest) ≡ 255
  bytes : take (number_at 1 1 (le8 (head op n dummy a) ++ rest)) (drop 2 (le8 (head op n dummy a) ++ rest)) ≡ op ∷ (high_first n a ++ cond dummy (0 ∷ []) [])

headed_by : (op n : ℕ) (dummy : Bool) (a : ℕ) (rest : List ℕ) (c x0 x1 x2 x3 : ℕ) → op < 256 → c < 256 → x0 < 256 → x1 < 256 → x2 < 256 → x3 < 256
    → head op n dummy a ≡ 255 + 256 * (c + 256 * (op + 256 * (x0 + 256 * (x1 + 256 * (x2 + 256 * (x3 + 256 * 0))))))
    → take c (op ∷ x0 ∷ x1 ∷ x2 ∷ x3 ∷ 0 ∷ rest) ≡ op ∷ (high_first n a ++ cond dummy (0 ∷ []) []) → Headed op n dummy a rest
unfolding low_first
headed_by op n dummy a rest c x0 x1 x2 x3 ho hc h0 h1 h2 h3 e t =
    let is : le8 (head op n dummy a) ≡ 255 ∷ c ∷ op ∷ x0 ∷ x1 ∷ x2 ∷ x3 ∷ 0 ∷ [] = ap le8 e ∙ digits 255 c op x0 x1 x2 x3 0 (omega arith) hc ho h0 h1 h2 h3 (omega arith) in
    let count : c + 256 * 0 ≡ c = omega arith in
    record {
      kind = ap (λ (l : List ℕ). number_at 0 1 (l ++ rest)) is;
      bytes = ap (λ (l : List ℕ). take (number_at 1 1 (l ++ rest)) (drop 2 (l ++ rest))) is
          ∙ ap (λ (k : ℕ). take k (op ∷ x0 ∷ x1 ∷ x2 ∷ x3 ∷ 0 ∷ rest)) count ∙ t;
    }

low_byte : (x : ℕ) → x % 256 < 256
low_byte x = omega arith

headed : (op n : ℕ) (dummy : Bool) (a : ℕ) (rest : List ℕ) → op < 256 → n ≤ 4 → Headed op n dummy a rest
unfolding high_first address_in low_first
headed op zero true a rest ho hn = headed_by op 0 true a rest 2 0 0 0 0 ho (omega arith) (omega arith) (omega arith) (omega arith) (omega arith) (omega arith) refl
headed op zero false a rest ho hn = headed_by op 0 false a rest 1 0 0 0 0 ho (omega arith) (omega arith) (omega arith) (omega arith) (omega arith) (omega arith) refl
headed op (suc zero) true a rest ho hn = headed_by op 1 true a rest 3 (a / 256 ^ 0 % 256) 0 0 0 ho (omega arith) (low_byte _) (omega arith) (omega arith) (omega arith) (omega arith) refl
headed op (suc zero) false a rest ho hn = headed_by op 1 false a rest 2 (a / 256 ^ 0 % 256) 0 0 0 ho (omega arith) (low_byte _) (omega arith) (omega arith) (omega arith) (omega arith) refl
headed op (suc (suc zero)) true a rest ho hn =
    headed_by op 2 true a rest 4 (a / 256 ^ 1 % 256) (a / 256 ^ 0 % 256) 0 0 ho (omega arith) (low_byte _) (low_byte _) (omega arith) (omega arith) (omega arith) refl
headed op (suc (suc zero)) false a rest ho hn =
    headed_by op 2 false a rest 3 (a / 256 ^ 1 % 256) (a / 256 ^ 0 % 256) 0 0 ho (omega arith) (low_byte _) (low_byte _) (omega arith) (omega arith) (omega arith) refl
headed op (suc (suc (suc zero))) true a rest ho hn =
    headed_by op 3 true a rest 5 (a / 256 ^ 2 % 256) (a / 256 ^ 1 % 256) (a / 256 ^ 0 % 256) 0 ho (omega arith) (low_byte _) (low_byte _) (low_byte _) (omega arith) (omega arith) refl
headed op (suc (suc (suc zero))) false a rest ho hn =
    headed_by op 3 false a rest 4 (a / 256 ^ 2 % 256) (a / 256 ^ 1 % 256) (a / 256 ^ 0 % 256) 0 ho (omega arith) (low_byte _) (low_byte _) (low_byte _) (omega arith) (omega arith) refl
headed op (suc (suc (suc (suc zero)))) true a rest ho hn =
    headed_by op 4 true a rest 6 (a / 256 ^ 3 % 256) (a / 256 ^ 2 % 256) (a / 256 ^ 1 % 256) (a / 256 ^ 0 % 256) ho (omega arith) (low_byte _) (low_byte _) (low_byte _) (low_byte _) (omega arith) refl
headed op (suc (suc (suc (suc zero)))) false a rest ho hn =
    headed_by op 4 false a rest 5 (a / 256 ^ 3 % 256) (a / 256 ^ 2 % 256) (a / 256 ^ 1 % 256) (a / 256 ^ 0 % 256) ho (omega arith) (low_byte _) (low_byte _) (low_byte _) (low_byte _) (omega arith) refl
headed op (suc (suc (suc (suc (suc n))))) dummy a rest ho hn = absurd (omega (arith, hn))

-- delay and poll share eight bytes
delay_low : (d : ℕ) (poll : Bool) → d < 2 ^ 32 → low_first (take 4 (le8 (d + 4294967296 * bit poll))) ≡ d
unfolding low_first
delay_low d true h = omega (arith, h)
delay_low d false h = omega (arith, h)

poll_high : (d : ℕ) (poll : Bool) → d < 2 ^ 32 → eqb (low_first (take 1 (drop 4 (le8 (d + 4294967296 * bit poll))))) 1 ≡ poll
unfolding low_first
poll_high d true h = let z : (d + 4294967296 * 1) / 256 / 256 / 256 / 256 % 256 + 256 * 0 ≡ 1 = omega (arith, h) in ap (λ (x : ℕ). eqb x 1) z
poll_high d false h = let z : (d + 4294967296 * 0) / 256 / 256 / 256 / 256 % 256 + 256 * 0 ≡ 0 = omega (arith, h) in ap (λ (x : ℕ). eqb x 1) z

module _ (b room : List ℕ) where
  send_decodes : (t : Transaction) (l : List ℕ) → 64 ≤ length l → Fine t → t.from + t.len ≤ length room
      → told_in (record { number = 255; session = b; event = event_over (Send t) l; room = room }) ≡ sends (carried (sent_of t room))
  unfolding event_words sent_words head_of part_of wire
  send_decodes t l h f fits =
      let w = written (sent_words t) l h in
      let R = le8 t.reply ++ (le8 t.from ++ (le8 t.len ++ (le8 (t.delay + 4294967296 * bit t.poll) ++ (le8 0 ++ (le8 0 ++ (le8 0 ++ w.rest)))))) in
      let E = words (sent_words t) w.rest in
      let g : Headed t.opcode t.addressed t.dummy t.address R = headed t.opcode t.addressed t.dummy t.address R f.opcode f.addressed in
      let front : List ℕ = t.opcode ∷ (high_first t.addressed t.address ++ cond t.dummy (0 ∷ []) []) in
      let place : take (low_first (le8 t.len)) (drop (low_first (le8 t.from)) room) ≡ part_of room t.from t.len =
      ap (λ (k : ℕ). take k (drop (low_first (le8 t.from)) room)) (exact_8 t.len f.len)
      ∙ ap (λ (k : ℕ). take t.len (drop k room)) (exact_8 t.from f.from)
      ∙ sym (ap (λ (q : Bool). cond q (take t.len (drop t.from room)) []) (le-leb (t.from + t.len) (length room) fits)) in
      let bytes : take (number_at 1 1 E) (drop 2 E) ++ take (low_first (le8 t.len)) (drop (low_first (le8 t.from)) room) ≡ wire (sent_of t room) =
      ap (λ (x : List ℕ). x ++ take (low_first (le8 t.len)) (drop (low_first (le8 t.from)) room)) g.bytes
      ∙ ap (λ (x : List ℕ). front ++ x) place
      ∙ ap (λ (x : List ℕ). t.opcode ∷ x) (append_assoc (high_first t.addressed t.address) (cond t.dummy (0 ∷ []) []) (part_of room t.from t.len)) in
      let D = t.delay + 4294967296 * bit t.poll in
      ap (λ (e : List ℕ). told_in (record { number = 255; session = b; event = e; room = room })) w.is
      ∙ ap (λ (k : ℕ). cond (eqb 255 255 && eqb k 255) (sends (carried_in E room))
      (answers (record { result = 255; kind = number_at 0 1 E; a = number_at 48 8 E; b = number_at 56 8 E }) (number_at 40 8 E))) g.kind
      ∙ ap (λ (x : List ℕ). sends (record { bytes = x; reply = low_first (le8 t.reply); poll = eqb (low_first (take 1 (drop 4 (le8 D)))) 1; delay = low_first (take 4 (le8 D)) })) bytes
      ∙ ap (λ (k : ℕ). sends (record { bytes = wire (sent_of t room); reply = k; poll = eqb (low_first (take 1 (drop 4 (le8 D)))) 1; delay = low_first (take 4 (le8 D)) })) (exact_8 t.reply f.reply)
      ∙ ap (λ (q : Bool). sends (record { bytes = wire (sent_of t room); reply = t.reply; poll = q; delay = low_first (take 4 (le8 D)) })) (poll_high t.delay t.poll f.delay)
      ∙ ap (λ (k : ℕ). sends (record { bytes = wire (sent_of t room); reply = t.reply; poll = t.poll; delay = k })) (delay_low t.delay t.poll f.delay)

  -- what an event is in the record is what is told of it
  pub decodes : (ev : Event) (l : List ℕ) → 64 ≤ length l → ((t : Transaction) → ev ≡ Send t → Fine t × (t.from + t.len ≤ length room))
      → told_in (record { number = number_in ev; session = b; event = event_over ev l; room = room }) ≡ in_numbers (told_by ev room)
  unfolding number_in
  decodes (Answered a n) l h f = answer_decodes b room a n l h
  decodes (Send t) l h f = let g = f t refl in send_decodes t l h g.0 g.1
