use Rattle.std.proofs.Common.{ℕ, ◌*◌, ◌<◌, length, arith, rules, refl, sym, ◌∙◌}
use borrow.Author.Tests.{tests}
use lib.Seq.{ext_get_or}
use Rattle.packed.specs.Numbers.{word_at, words}
use Rattle.packed.proofs.Bytes.{length_words, words_at, made_at}
use Rattle.packed.proofs.load.Goals as goal

pub returns : goal.returns
returns c =
    let w = c.from_fn.result in
    let b = c.args.b.now in
    let made = c.from_fn.ensures.items in
    ext_get_or 0 w (words 64 b) (omega (arith, made.long, length_words 64 b))
    (λ (k : ℕ) (h : k < length w).
    let i : k < 64 = omega (arith, made.long) in
    made_at (λ (i : ℕ). word_at b (4 * i)) (λ x y q e. search (rules, tests)) w 0 64 _ refl made.each k (omega arith) i
    ∙ sym (words_at 64 b k i))
