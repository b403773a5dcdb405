use Rattle.nor_part.specs.Responds.{mem_of}
use Rattle.nor_part.proofs.Replies.{reply_by_place, past_end}
use Rattle.std.proofs.Common.{◌∙◌, length, arith}
use borrow.Author.Rules.{rules}
use Rattle.nor_part.proofs.bytes.copy.Goals as goal

pub returns-then-source-at : goal.returns-then-source-at
returns-then-source-at c =
    let a = c.args in
    c.fill.ensures.after (search rules) ∙ past_end a.source.now a.at (length a.reply.now) (search rules)

pub returns : goal.returns
returns c = reply_by_place (mem_of c.args.source.now) c.args.at _ c.loop-i.reply (omega arith) (λ k h. c.loop-i.invariant k (omega arith))
