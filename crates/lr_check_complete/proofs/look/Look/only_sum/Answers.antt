use Rattle.std.proofs.Common.{ℕ, List, [], ◌∷◌, ◌++◌, subst}
use Rattle.md_reader.specs.declared.types.Sym.{Sym}
use Rattle.md_reader.specs.declared.types.Sym.TheVariants as grammar_symbol
use Rattle.lr_check_found.specs.Lists.{IsList}
use Rattle.lr_check_found.specs.Found.{Settles}
use Rattle.lr_check_found.proofs.Added.{on_ok}
use Rattle.lr_check_complete.specs.Looks.{automaton}
use Rattle.lr_check_complete.proofs.Turns.{looks_map}
use Rattle.lr_check_complete.proofs.Kids_found.{one_in}
use Rattle.lr_check_complete.proofs.look.Look.only_sum.Goals as goal

pub returns : goal.returns
returns c = λ m. on_ok _ _ _
    (looks_map c.args.self.now _ _ _ _
    (λ g. one_in (automaton c.args.self.now) c.args.self.now.found.now c.args.number c.args.sum c.args.token c.requires
    (subst (λ (r : ℕ). (u l : List Sym) → IsList c.args.self.now.found.now.lists r u → IsList c.args.self.now.found.now.lists 0 l
    → Settles c.args.self.now.found.now c.args.number (u ++ (l ++ (grammar_symbol.Tok c.args.token ∷ []))))
    c.list_number-list.ensures g)))
    (c.settle.ensures m)
