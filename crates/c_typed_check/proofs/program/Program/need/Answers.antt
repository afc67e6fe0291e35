use Rattle.std.proofs.Common.{◌∙◌, ap}
use Rattle.std.proofs.Math.Logic.{∥∥₁_elim}
use Rattle.std.specs.Coded.{Coded-set, coded_ℕ}
use Rattle.c_program.specs.Programs.{program}
use Rattle.c_program.specs.declared.program.Routine.{Routine}
use Rattle.c_typed_check.proofs.Needs.{typed_keeps, kept_need}
use Rattle.c_typed_check.proofs.program.Program.need.Goals as goal

pub returns : goal.returns
returns c =
    ∥∥₁_elim c.args.self.now.is_typed (Coded-set coded_ℕ _ _) (λ h.
    ap (λ (r : Routine). r.need) c.index.ensures ∙ kept_need c.args.self.now.held.routines.items c.args.function c.index.result.now (typed_keeps (program c.args.self.now.held) h) c.requires)
