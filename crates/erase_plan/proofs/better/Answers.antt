-- `erase_plan::better` meets its contract: each return cites the law of its case.
use Rattle.std.proofs.Common.{sym, ◌∙◌, ⊎_elim, arith}
use Rattle.erase_plan.proofs.Entries.{left_none, right_none, better_further, better_shorter, better_smaller, better_first}
use Rattle.erase_plan.proofs.better.Goals as goal

pub returns-in_default : goal.returns-in_default
returns-in_default c ts u pos end p a b = b ∙ left_none ts u pos end (sym a ∙ c.in_default.is)

pub returns-in_default-b : goal.returns-in_default-b
returns-in_default-b c ts u pos end p a b = sym c.in-Some.is ∙ a ∙ right_none ts u pos end (sym b ∙ c.in_default-b.is)

pub returns-then-y-x : goal.returns-then-y-x
returns-then-y-x c ts u pos end p a b =
    let x = sym a ∙ c.in-Some.is in
    let y = sym b ∙ c.in-Some-b.is in
    ⊎_elim (λ h. better_further ts u pos end _ _ p x y h) (λ h. better_smaller ts u pos end _ _ p x y h.1 h.2) c.if-y-x.either

pub returns-else-y-x : goal.returns-else-y-x
returns-else-y-x c ts u pos end p a b =
    let x = sym a ∙ c.in-Some.is in
    let y = sym b ∙ c.in-Some-b.is in
    ⊎_elim (λ h. better_first ts u pos end _ _ p x y h.1 h.2) (λ h. better_shorter ts u pos end _ _ p x y (omega (arith, h.0, h.1))) c.if-y-x.either
