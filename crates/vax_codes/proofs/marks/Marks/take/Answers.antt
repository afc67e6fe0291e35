use Rattle.std.proofs.Common.{refl}
use Rattle.vax_codes.proofs.Marking.{take_by}
use Rattle.vax_codes.proofs.marks.Marks.take.Goals as goal

pub returns : goal.returns
returns c = take_by c.args.self.now _ c.pop.result c.pop.ensures.items c.pop.ensures.cases refl
