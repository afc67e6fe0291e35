use Rattle.std.proofs.Common.{rules, ◌≡◌, ◌∙◌, ℕ, List, [], ◌∷◌, Option, Some, refl, ap}
use Rattle.std.specs.Prelude.{if◌then◌else◌}
use Rattle.std.specs.List.{find}
use Rattle.std.proofs.lemmas.Iterator.{YieldsList-from_slice}
use Rattle.std.proofs.lemmas.Iterator.Search.{find_from_yields_List}
use borrow.Author.Tests.{tests}
use Rattle.tree_core.specs.declared.token.Tok.{Tok}
use Rattle.tree_core.specs.Names.{name_of}
use Rattle.md_reader_text.specs.Words.{same}
use Rattle.md_reader.specs.Symbols.{token_among}
use Rattle.md_reader.proofs.symbols.token_among.Goals as goal

first_named : (word : List ℕ) (tokens : List Tok) → find (λ t. same word (name_of t)) tokens ≡ token_among tokens word
first_named word [] = refl
first_named word (t ∷ rest) = ap (λ (o : Option Tok). if same word (name_of t) then Some t else o) (first_named word rest)

pub returns : goal.returns
returns c =
    let word = c.args.word.now in
    c.copied.ensures
    ∙ (find_from_yields_List (λ t. same word (name_of t)) _ _ c.find.result c.find.ensures.ran (YieldsList-from_slice c.args.tokens.now cc) (λ x b q k. search (rules, tests))
    ∙ first_named word c.args.tokens.now)
