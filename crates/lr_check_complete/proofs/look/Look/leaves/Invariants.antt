use Rattle.std.proofs.Common.{◌≡◌, ℕ, [], ◌∷◌}
use Rattle.tree_core.specs.Grammar.{kids}
use Rattle.md_reader.specs.declared.types.Sym.TheVariants as grammar_symbol
use Rattle.lr_check_found.specs.Found.{Settles}
use Rattle.lr_check_found.proofs.Below.{Below}
use Rattle.lr_check_complete.specs.Looks.{automaton, Looks}
use Rattle.lr_check_complete.specs.Kids.{IsFrame}
use Rattle.lr_check_complete.proofs.look.Look.leaves.Given as goal

abbrev pub invariant-loop-number : goal.invariant-loop-number
invariant-loop-number l =
    (q p : ℕ) → IsFrame (automaton l.self) l.self.found.now q l.token p l.numbers → kids l.token ≡ [] →
    Looks l.self l.fn.into.items l.into.items (Below l.numbers l.number-index (λ n. Settles l.self.found.now n (grammar_symbol.Tok l.token ∷ [])))
