-- What the words of a rule's head name.
use Rattle.std.specs.Prelude.{ℕ, ◌+◌, List, [], ◌∷◌, take, Option, Some, None, if◌then◌else◌}
use Rattle.std.specs.Option.{option_map, option_and_then}
use Rattle.md_reader_text.specs.Words.{same}
use Rattle.tree_core.specs.declared.token.Tok.{Tok}
use Rattle.tree_core.specs.declared.token.TheConstants.{TOKENS}
use Rattle.tree_core.specs.Names.{name_of}
use Rattle.md_reader.specs.declared.types.Class.{Class}
use Rattle.md_reader.specs.declared.types.Sym.{Sym}
use Rattle.md_reader.specs.declared.types.Sym.TheVariants as grammar_symbol

-- the first of these tokens with this name
abbrev pub token_among : List Tok → List ℕ → Option Tok
token_among [] w = None
token_among (t ∷ ts) w = if same w (name_of t) then Some t else token_among ts w

-- the tokens that may stand in a tree: all but `End`, the last
abbrev pub tree_tokens : List Tok
tree_tokens = take 39 TOKENS

-- a token that may stand in a tree
abbrev pub token_of : List ℕ → Option Tok
token_of w = token_among tree_tokens w

-- the number of the first class with this name, counted on from a number
abbrev pub class_from : ℕ → List Class → List ℕ → Option ℕ
class_from i [] w = None
class_from i (c ∷ cs) w = if same c.name w then Some i else class_from (i + 1) cs w

abbrev pub class_of : List Class → List ℕ → Option ℕ
class_of classes w = class_from 0 classes w

abbrev pub token_or_class : Option Tok → Option ℕ → Option Sym
token_or_class (Some t) c = Some (grammar_symbol.Tok t)
token_or_class None c = option_map grammar_symbol.Class c

abbrev pub symbol_of : List Class → List ℕ → Option Sym
symbol_of classes w = token_or_class (token_of w) (class_of classes w)

-- the symbols that these words name, if each names one
abbrev pub symbols_of : List Class → List (List ℕ) → Option (List Sym)
symbols_of classes [] = Some []
symbols_of classes (w ∷ ws) = option_and_then (λ (s : Sym). option_map (λ (ss : List Sym). s ∷ ss) (symbols_of classes ws))
    (symbol_of classes w)
