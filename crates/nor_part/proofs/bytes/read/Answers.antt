use Rattle.std.proofs.Common.{ℕ, ◌≡◌, ◌∙◌, ◌+◌, ◌%◌, ap, length, get_or, set, arith, mod-lt}
use Rattle.std.proofs.lemmas.List.{get_or-set_same, get_or-set_other, get_or_default}
use borrow.Author.Count.{below_more}
use Rattle.nor_part.specs.Responds.{mem_of}
use Rattle.nor_part.proofs.Replies.{reply_by_place, no_cells, next_cell}
use borrow.Author.Rules.{rules}
use Rattle.nor_part.proofs.bytes.read.Goals as goal

pub loop-byte-preserved : goal.loop-byte-preserved
loop-byte-preserved c =
    let a = c.args in
    let l = c.loop-byte in
    let m = a.memory.now in
    let here : get_or (set l.reply l.byte-index (get_or m l.cell 0)) l.byte-index 0 ≡ mem_of m ((a.at + l.byte-index) % length m) =
    get_or-set_same l.reply l.byte-index _ 0 (omega arith) ∙ get_or_default m l.cell 0 0xFF l.invariant.1 ∙ ap (mem_of m) l.invariant.0 in
    let n : c.next_cell-cell.result ≡ (a.at + (l.byte-index + 1)) % length m =
    c.next_cell-cell.ensures ∙ ap (λ (k : ℕ). (k + 1) % length m) l.invariant.0 ∙ next_cell a.at l.byte-index (length m) in (
      n,
      rw n (mod-lt (a.at + (l.byte-index + 1)) (omega arith)),
      below_more _ l.byte-index (λ k h. get_or-set_other l.reply l.byte-index k _ 0 (omega arith) ∙ l.invariant.2 k h) here,
    )

pub returns-then-is_empty : goal.returns-then-is_empty
returns-then-is_empty c =
    let a = c.args in
    c.fill.ensures.after (search rules) ∙ no_cells a.memory.now a.at (length a.reply.now) (search rules)

pub returns : goal.returns
returns c =
    let m = c.args.memory.now in
    reply_by_place (λ i. mem_of m (i % length m)) c.args.at _ c.loop-byte.reply (omega arith) (λ k h. c.loop-byte.invariant.2 k (omega arith))
