use Rattle.std.proofs.Common.{ap, arith}
use Rattle.flash.specs.Starts.{unless_runs, in_range, start_erase_sectors}
use Rattle.flash.proofs.Accepted.{accepted, handed_on, one_at_least}
use Rattle.flash.proofs.starts.begin_sectors.Goals as goal

pub returns-in_err-check_address_length : goal.returns-in_err-check_address_length
unfolding start_erase_sectors in_range
returns-in_err-check_address_length c =
    let k = handed_on _ _ _ _ c.check_address_length.ensures _ _ c.in_err-check_address_length.was c.from_residual.ensures.1 in
    rw (k.1, k.0)

pub returns : goal.returns
unfolding start_erase_sectors in_range
returns c =
    let e = c.check_address_length.ensures in
    let ok = c.in_ok-check_address_length.was in
    rw (accepted _ _ _ _ e ok)
    (ap (unless_runs c.args.s) (c.plan_sectors.ensures (omega (arith, one_at_least _ _ _ _ e ok))))
