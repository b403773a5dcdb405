use Rattle.std.proofs.Common.{◌∙◌, ◌-◌, ◌%◌, ◌+◌, ap, ℕ, length}
use Rattle.nor_part.specs.Responds.{mem_of, set_between}
use Rattle.nor_part.proofs.Contents.{set_clipped, erased_between, base_of}
use Rattle.nor_part.proofs.memory.erase_block.Goals as goal

pub returns : goal.returns
returns c = λ h.
    let a = c.args in
    let m = a.memory.now in
    let k = a.a % length m in
    let base = k - k % a.size in
    c.set_ff.ensures ∙ ap (λ (t : ℕ). set_between base t (mem_of m)) c.min.ensures ∙ set_clipped base (base + a.size) m
    ∙ erased_between a.size k base (mem_of m) (base_of k a.size)
