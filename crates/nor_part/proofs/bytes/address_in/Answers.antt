use Rattle.std.proofs.Common.{arith}
use Rattle.nor_model.specs.Device.{address_in}
use Rattle.nor_part.proofs.Replies.{joined_none, joined_1, joined_2, joined_3, joined_4}
use Rattle.nor_part.proofs.bytes.address_in.Goals as goal

pub returns-in-len1 : goal.returns-in-len1
unfolding address_in
returns-in-len1 c = omega (arith, c.from_be_bytes.ensures, joined_1 _ c.in-len1.len_at_least c.in-len1.len_below)

pub returns-in-len2 : goal.returns-in-len2
unfolding address_in
returns-in-len2 c = omega (arith, c.from_be_bytes-in-len2.ensures, joined_2 _ c.in-len2.len_at_least c.in-len2.len_below)

pub returns-in-len3 : goal.returns-in-len3
unfolding address_in
returns-in-len3 c = omega (arith, c.from_be_bytes-in-len3.ensures, joined_3 _ c.in-len3.len_at_least c.in-len3.len_below)

pub returns-in-len4 : goal.returns-in-len4
unfolding address_in
returns-in-len4 c = omega (arith, c.from_be_bytes-in-len4.ensures, joined_4 _ c.in-len4.len_at_least (omega (arith, c.requires)))

pub returns-in_default : goal.returns-in_default
unfolding address_in
returns-in_default c = joined_none _ (omega arith)
