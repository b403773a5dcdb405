use Rattle.flash.specs.Starts.{in_range, start_read}
use Rattle.flash.proofs.Accepted.{handed_on}
use Rattle.flash.proofs.starts.begin_read.Goals as goal

pub returns-in_err-check_address_length : goal.returns-in_err-check_address_length
unfolding start_read in_range
returns-in_err-check_address_length c =
    let k = handed_on _ _ _ _ c.check_address_length.ensures _ _ c.in_err-check_address_length.was c.from_residual.ensures.1 in
    rw (k.1, k.0)
