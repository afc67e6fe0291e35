use Rattle.std.proofs.Common.{◌≡◌, ◌≤◌, ◌+◌, ◌++◌, List, length}
use Rattle.std.specs.Option.{option_map}
use Rattle.md_reader_text.specs.Words.{words}
use Rattle.md_reader.specs.declared.types.Sym.{Sym}
use Rattle.md_reader.specs.Symbols.{symbols_of}
use Rattle.md_reader.proofs.symbols.symbols_of.Given as goal

abbrev pub invariant-loop-word : goal.invariant-loop-word
invariant-loop-word l =
    (option_map (λ (ss : List Sym). l.read.items ++ ss) (symbols_of l.classes (words l.rest)) ≡ symbols_of l.classes (words l.fn.line))
    × (length l.read.items + length (words l.rest) ≤ 16)

abbrev pub decreases-loop-word : goal.decreases-loop-word
decreases-loop-word l = length (words l.rest)
