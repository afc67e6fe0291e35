use Rattle.std.proofs.Common.{◌≡◌, ◌++◌, ◌∷◌, [], ap, ◌∙◌, None}
use Rattle.c_typed_scope.specs.Scopes.{find, named_entries}
use Rattle.c_typed_scope.proofs.Entries.{added}
use Rattle.c_typed_scope.proofs.block.Block.add.Goals as goal

pub returns : goal.returns
returns c =
    let none : find (named_entries c.self.inside.held.entries) c.args.name.items ≡ None = ap (λ l. find l c.args.name.items) c.self.view_is ∙ c.requires in
    ap named_entries c.in_ok-insert.ensures.entries ∙ added c.args.name c.args.entry c.self.inside.held.entries none ∙ ap (λ l. l ++ (c.args.name.items, c.args.entry) ∷ []) c.self.view_is
