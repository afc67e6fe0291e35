use Rattle.std.proofs.Common.{rules, ◌≡◌, ◌∙◌, ◌+◌, ℕ, List, [], ◌∷◌, Bool, true, false, Some, refl, sym, ap}
use Rattle.std.specs.Prelude.{codes, unwrap_or, if◌then◌else◌}
use Rattle.std.specs.List.{position_from}
use Rattle.std.specs.Str.{bytes_eq}
use Rattle.std.proofs.lemmas.Iterator.{YieldsList-from_slice}
use Rattle.std.proofs.lemmas.Iterator.Adapters.{position_from-zero}
use Rattle.std.proofs.lemmas.Iterator.Search.{position_from_yields_List}
use borrow.Author.Tests.{tests}
use Rattle.md_reader.specs.declared.types.Class.{Class}
use Rattle.lr_tables.specs.Statements.{stmt_from}
use Rattle.lr_tables.proofs.building.statements.Goals as goal

abbrev is_stmt : Class → Bool
is_stmt c = bytes_eq c.name (codes "stmt")

first_stmt : (n : ℕ) (classes : List Class) → unwrap_or (position_from is_stmt n classes) 0 ≡ stmt_from n classes
first_stmt n [] = refl
first_stmt n (c ∷ rest) = by (is_stmt c) (first_stmt (n + 1) rest)
  where
    by : (b : Bool) → unwrap_or (position_from is_stmt (n + 1) rest) 0 ≡ stmt_from (n + 1) rest
        → unwrap_or (if b then Some n else position_from is_stmt (n + 1) rest) 0 ≡ (if b then n else stmt_from (n + 1) rest)
    by true e = refl
    by false e = e

pub returns-in-Some : goal.returns-in-Some
returns-in-Some c =
    let classes = c.args.classes.now in
    let found = position_from_yields_List is_stmt _ _ c.position.result c.position.ensures.ran (YieldsList-from_slice classes cc) (λ x b q k. search (rules, tests)) in
    ap (λ o. unwrap_or o 0) (sym c.in-Some.is ∙ (found ∙ position_from-zero is_stmt classes)) ∙ first_stmt 0 classes

pub returns-in-None : goal.returns-in-None
returns-in-None c =
    let classes = c.args.classes.now in
    let found = position_from_yields_List is_stmt _ _ c.position.result c.position.ensures.ran (YieldsList-from_slice classes cc) (λ x b q k. search (rules, tests)) in
    ap (λ o. unwrap_or o 0) (sym c.in-None.is ∙ (found ∙ position_from-zero is_stmt classes)) ∙ first_stmt 0 classes
