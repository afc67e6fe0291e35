use Rattle.std.proofs.Common.{rules, ◌≡◌, ◌∙◌, ◌+◌, ℕ, List, [], ◌∷◌, Option, Some, refl, sym, ap}
use Rattle.std.specs.Prelude.{if◌then◌else◌}
use Rattle.std.specs.List.{position_from}
use Rattle.std.proofs.lemmas.Iterator.{YieldsList-from_slice}
use Rattle.std.proofs.lemmas.Iterator.Adapters.{position_from-zero}
use Rattle.std.proofs.lemmas.Iterator.Search.{position_from_yields_List}
use borrow.Author.Tests.{tests}
use Rattle.md_reader_text.specs.Words.{same}
use Rattle.md_reader.specs.declared.types.Class.{Class}
use Rattle.md_reader.specs.Symbols.{class_from}
use Rattle.md_reader.proofs.symbols.class_of.Goals as goal

first_named : (word : List ℕ) (i : ℕ) (classes : List Class) → position_from (λ c. same c.name word) i classes ≡ class_from i classes word
first_named word i [] = refl
first_named word i (c ∷ rest) = ap (λ (o : Option ℕ). if same c.name word then Some i else o) (first_named word (i + 1) rest)

pub returns-in-Some : goal.returns-in-Some
returns-in-Some c =
    let named = λ (k : Class). same k.name c.args.word.now in
    let classes = c.args.classes.now in
    sym c.in-Some.is
    ∙ (position_from_yields_List named _ _ c.position.result c.position.ensures.ran (YieldsList-from_slice classes cc) (λ x b q k. search (rules, tests))
    ∙ (position_from-zero named classes ∙ first_named c.args.word.now 0 classes))

pub returns-in-None : goal.returns-in-None
returns-in-None c =
    let named = λ (k : Class). same k.name c.args.word.now in
    let classes = c.args.classes.now in
    sym c.in-None.is
    ∙ (position_from_yields_List named _ _ c.position.result c.position.ensures.ran (YieldsList-from_slice classes cc) (λ x b q k. search (rules, tests))
    ∙ (position_from-zero named classes ∙ first_named c.args.word.now 0 classes))
