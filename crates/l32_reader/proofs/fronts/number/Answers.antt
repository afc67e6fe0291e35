use Rattle.vax_reader.proofs.FrontLaws.{front_digits}
use Rattle.l32_reader.proofs.fronts.number.Goals as goal

pub value-n-requires : goal.value-n-requires
value-n-requires c = rw (c.split_at.ensures.front, c.digits_len-len.ensures.len) (front_digits c.args.bytes.now)
