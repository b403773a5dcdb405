use Rattle.flash.proofs.Accepted.{handed_on}
use Rattle.flash.proofs.starts.begin_span.Goals as goal

pub returns-in_err-check_address_length : goal.returns-in_err-check_address_length
returns-in_err-check_address_length c =
    let k = handed_on _ _ _ _ c.check_address_length.ensures _ _ c.in_err-check_address_length.was c.from_residual.ensures.1 in
    rw (k.1, ← c.saturating_sub-size.ensures, k.0)
