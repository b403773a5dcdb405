use Rattle.std.proofs.Common.{◌≡◌, true, sym, ◌∙◌, arith}
use Rattle.phases.specs.Moves.{is_ended}
use Rattle.flash.specs.Starts.{begin_program}
use Rattle.flash.proofs.Accepted.{accepted, handed_on, one_at_least, program_begins}
use Rattle.flash.proofs.starts.begin_program.Goals as goal

pub returns-in_err-check_address_length : goal.returns-in_err-check_address_length
unfolding begin_program
returns-in_err-check_address_length c =
    let k = handed_on _ _ _ _ c.check_address_length.ensures _ _ c.in_err-check_address_length.was c.from_residual.ensures.1 in
    let i : is_ended c.args.s.phase ≡ true = grind arith in
    rw (k.1, i, k.0)

pub returns : goal.returns
returns c =
    let e = c.check_address_length.ensures in
    let ok = c.in_ok-check_address_length.was in
    let i : is_ended c.args.s.phase ≡ true = grind arith in
    rw c.begin_span.ensures
    (program_begins _ _ c.types_of-types.ensures _ _ _ (sym c.is_empty.ensures ∙ c.if-is_empty.false) (omega (arith, one_at_least _ _ _ _ e ok)) _ c.survey.ensures _ _
    i (accepted _ _ _ _ e ok))
