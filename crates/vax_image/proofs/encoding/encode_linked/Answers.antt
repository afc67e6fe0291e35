use Rattle.std.proofs.Common.{arith}
use Rattle.vax_image.proofs.EncodingLaws.{many_marks}
use Rattle.vax_image.proofs.encoding.encode_linked.Goals as goal

pub returns-then-marks-gt-COUNT_LIMIT : goal.returns-then-marks-gt-COUNT_LIMIT
returns-then-marks-gt-COUNT_LIMIT c =
    (c.requires.loads, many_marks c.args.code.now c.args.labels.now.items.now c.marks_in-marks.result c.requires.items c.marks_in-marks.ensures (omega arith))
