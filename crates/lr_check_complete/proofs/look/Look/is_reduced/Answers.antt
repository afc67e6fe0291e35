use Rattle.std.proofs.Common.{[], ◌∷◌, subst}
use Rattle.md_reader.specs.declared.types.Sym.TheVariants as grammar_symbol
use Rattle.lr_check_found.specs.Lists.{ListsView, IsPushed}
use Rattle.lr_check_complete.specs.Looks.{automaton}
use Rattle.lr_check_complete.proofs.look.Look.is_reduced.Goals as goal

pub returns-in-Some : goal.returns-in-Some
returns-in-Some c = λ t. c.settles.ensures.there (automaton c.args.self.now) c.requires t (grammar_symbol.Class c.args.class ∷ [])
    (subst (λ (v : ListsView). IsPushed v (grammar_symbol.Class c.args.class) 0 c.in-Some.list) c.lists.ensures c.in-Some.ensures [] c.requires.lists.first)
