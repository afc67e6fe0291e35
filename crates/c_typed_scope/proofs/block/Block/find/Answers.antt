use Rattle.std.proofs.Common.{ap, ◌∙◌}
use Rattle.c_typed_scope.specs.Scopes.{find}
use Rattle.c_typed_scope.proofs.Entries.{find_is}
use Rattle.c_typed_scope.proofs.block.Block.find.Goals as goal

pub returns : goal.returns
returns c = c.copied.ensures ∙ c.get.ensures.value ∙ find_is c.args.name.now c.self.inside.held.entries ∙ ap (λ l. find l c.args.name.now) c.self.view_is
