use Rattle.std.proofs.Common.{List, ◌++◌, map, reverse}
use Rattle.md_reader.specs.declared.types.Sym.{Sym}
use Rattle.lr_check_found.specs.Lists.{IsList}
use Rattle.lr_check_found.proofs.lists.Lists.find_joined.Given as goal

-- the symbols so far are on top of the lower list
abbrev pub invariant-loop-symbol : goal.invariant-loop-symbol
invariant-loop-symbol l = (s : List Sym) → IsList l.self l.lower s → IsList l.self l.number (reverse (map (λ y. y.now) l.yielded) ++ s)
