-- What the lines of a description say, in their order.
use Rattle.std.specs.Prelude.{ℕ, zero, suc, ◌+◌, List, [], ◌∷◌, ◌++◌, map}
use Rattle.std.specs.List.{flat_map}
use Rattle.md_reader_pieces.specs.declared.piece.Line.{Line}
use Rattle.tree_core.specs.Names.{name_of}
use Rattle.md_reader.specs.declared.types.Class.{Class}
use Rattle.md_reader.specs.declared.types.Sym.{Sym}
use Rattle.md_reader.specs.declared.types.Sym.TheVariants as grammar_symbol
use Rattle.md_reader.specs.declared.types.Restriction.{Restriction}
use Rattle.md_reader.specs.declared.types.Give.{Give}
use Rattle.md_reader.specs.declared.types.Rule.{Rule}
use Rattle.md_reader.specs.State.{Content}

-- what one line says
pub data Form : Type 0 where
  Version : Form
  Target : Form
  Pool : ℕ → Form
  Declares : Class → Form
  Saves : ℕ → Line → Form
  Head : List ℕ → List (List ℕ) → Form
  Restricts : Restriction → Form
  Writes : Line → Form
  Gives : Give → Form

-- the name of the class with this number
abbrev pub name_at : List Class → ℕ → List ℕ
name_at [] i = []
name_at (c ∷ cs) zero = c.name
name_at (c ∷ cs) (suc i) = name_at cs i

abbrev pub symbol_word : List Class → Sym → List ℕ
symbol_word classes (grammar_symbol.Tok t) = name_of t
symbol_word classes (grammar_symbol.Class c) = name_at classes c

-- the eight lines, from one on
abbrev pub saving : ℕ → List Line → List Form
saving i [] = []
saving i (l ∷ ls) = Saves i l ∷ saving (i + 1) ls

-- a rule: its head, its restrictions, its template's lines, and what it gives
abbrev pub ruling : List Class → Rule → List Form
ruling classes r =
    Head (name_at classes r.left) (map (symbol_word classes) r.right)
    ∷ (map Restricts r.restrictions ++ (map Writes r.lines ++ Gives r.give ∷ []))

-- what the lines of a description say, in their order
abbrev pub telling : Content → List Form
telling d = Version ∷ Target ∷ Pool d.pool ∷ (map Declares d.classes ++ (saving 0 d.spills ++ flat_map (ruling d.classes) d.rules))
