use Rattle.std.proofs.Common.{ℕ, List, ◌<◌, ◌^◌, get_or, rules, arith, sym, ap, ◌∙◌, length, ne_eqb}
use Rattle.std.specs.Cmp.Lexicographic.{told_text}
use Rattle.packed.specs.Numbers.{bytes, same_list}
use Rattle.packed.specs.Layout.{bytes_of}
use Rattle.packed.proofs.Bytes.{same_differs, words_same}
use Rattle.packed.proofs.Rows.{length_bytes_of}
use Rattle.packed.proofs.same.Goals as goal

pub returns-then-b-eq256 : goal.returns-then-b-eq256
returns-then-b-eq256 c =
    let b = c.args.b.now in
    let w = c.to_words.result in
    let below : (k : ℕ) → get_or w k 0 < 2 ^ 32 = λ k. search (rules, arith) in
    words_same c.load.result b w _ c.load.ensures c.if-b-eq256.true (search rules) (λ k. omega (arith, c.type_inv.b k)) below (told_text c.load.result w _ c.eq.ensures)
    ∙ ap (λ (l : List ℕ). same_list b (bytes l)) c.to_words.ensures

pub returns-else-b-eq256 : goal.returns-else-b-eq256
returns-else-b-eq256 c =
    let a = c.args in
    ne_eqb _ _ c.if-b-eq256.false
    ∙ sym (same_differs a.b.now (bytes_of a.s) (λ e. c.if-b-eq256.false (ap length e ∙ length_bytes_of a.s)))
