use Rattle.std.proofs.Common.{◌∷◌, ◌++◌, [], subst}
use Rattle.md_reader.specs.declared.types.Sym.TheVariants as grammar_symbol
use Rattle.lr_check_found.specs.Lists.{ListsView, IsBehindToken}
use Rattle.lr_check_complete.specs.Looks.{automaton}
use Rattle.lr_check_complete.proofs.look.Look.is_settled.Goals as goal

pub returns-in-Some : goal.returns-in-Some
returns-in-Some c = λ t u l at bt. c.settles.ensures.there (automaton c.args.self.now) c.requires t (u ++ (l ++ (grammar_symbol.Tok c.args.token ∷ [])))
    (subst (λ (v : ListsView). IsBehindToken v c.args.token c.args.upper c.args.lower c.in-Some.list) c.lists.ensures c.in-Some.ensures u l at bt)
