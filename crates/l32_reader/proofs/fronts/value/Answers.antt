use Rattle.std.proofs.Common.{arith}
use Rattle.std.proofs.lemmas.Str.{digit_value_digit}
use Rattle.std.proofs.lemmas.Str.Parse.{digit_at}
use Rattle.std.proofs.lemmas.Int.Digits.{digits_value_more}
use Rattle.l32_reader.proofs.fronts.value.Goals as goal

pub overflow_sub-b : goal.overflow_sub-b
overflow_sub-b c = (digit_at c.args.digits.now c.loop-b.b-index c.requires c.loop-b-test.true).0

pub loop-b-preserved : goal.loop-b-preserved
loop-b-preserved c =
    let r = digit_at c.args.digits.now c.loop-b.b-index c.requires c.loop-b-test.true in
    let d = digit_value_digit _ r in
    let m = digits_value_more 10 c.args.digits.now c.loop-b.b-index c.loop-b-test.true in
    omega (arith, d, m)
