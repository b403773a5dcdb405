use Rattle.std.proofs.Common.{◌≡◌, true, arith, ne_eqb}
use Rattle.phases.specs.Moves.{is_ended}
use Rattle.flash.specs.Starts.{begin_data}
use Rattle.flash.proofs.Accepted.{handed_on}
use Rattle.flash.proofs.starts.begin_data.Goals as goal

pub returns-in_err-check_address_length : goal.returns-in_err-check_address_length
unfolding begin_data
returns-in_err-check_address_length c =
    let k = handed_on _ _ _ _ c.check_address_length.ensures _ _ c.in_err-check_address_length.was c.from_residual.ensures.1 in
    let i : is_ended c.args.s.phase ≡ true = grind arith in
    rw (k.1, i, ne_eqb _ _ c.if-n-eq0.false, k.0)
