use Rattle.std.proofs.Common.{ℕ, List, [], ◌∷◌, ◌++◌, subst}
use Rattle.md_reader.specs.declared.types.Sym.{Sym}
use Rattle.md_reader.specs.declared.types.Sym.TheVariants as grammar_symbol
use Rattle.lr_check_found.specs.Lists.{IsList}
use Rattle.lr_check_found.specs.Found.{Settles}
use Rattle.lr_check_found.specs.Adding.{list_number}
use Rattle.lr_check_found.proofs.Added.{on_ok}
use Rattle.lr_check_complete.proofs.Turns.{looks_map}
use Rattle.lr_check_complete.proofs.Both.{two_in}
use Rattle.lr_check_complete.proofs.look.Look.second_sum.Goals as goal

pub returns : goal.returns
returns c = λ m. on_ok _ _ _
    (looks_map c.args.self.now _ _ _ _
    (λ g. two_in c.args.self.now.found.now c.args.number c.args.first c.args.sum c.args.token
    (subst (λ (b : ℕ). (u l : List Sym) → IsList c.args.self.now.found.now.lists b u → IsList c.args.self.now.found.now.lists (list_number c.args.self.now.found.now c.args.first) l
    → Settles c.args.self.now.found.now c.args.number (u ++ (l ++ (grammar_symbol.Tok c.args.token ∷ []))))
    c.list_number-upper.ensures
    (subst (λ (b : ℕ). (u l : List Sym) → IsList c.args.self.now.found.now.lists c.list_number-upper.result u → IsList c.args.self.now.found.now.lists b l
    → Settles c.args.self.now.found.now c.args.number (u ++ (l ++ (grammar_symbol.Tok c.args.token ∷ []))))
    c.list_number-lower.ensures g))))
    (c.settle.ensures m)
