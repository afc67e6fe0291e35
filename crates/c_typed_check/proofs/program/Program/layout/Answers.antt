use Rattle.std.proofs.Common.{subst, sym}
use Rattle.std.proofs.Math.Logic.{∥∥₁_map}
use Rattle.c_program.specs.Programs.{program}
use Rattle.c_typed_check.specs.Laid.{AreLaid}
use Rattle.c_typed_check.proofs.Laying.{typed_are_laid}
use Rattle.c_typed_check.proofs.program.Program.layout.Goals as goal

pub returns-clause-laid : goal.returns-clause-laid
returns-clause-laid c = ∥∥₁_map c.args.self.now.is_typed (λ h. subst AreLaid (sym c.as_slice.ensures) (typed_are_laid (program c.args.self.now.held) h))
