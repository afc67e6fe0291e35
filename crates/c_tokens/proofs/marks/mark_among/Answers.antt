use Rattle.std.proofs.Common.{rules, ◌≡◌, ◌∙◌, ℕ, List, [], ◌∷◌, Option, Some, nat_eq, refl, ap}
use Rattle.std.specs.Prelude.{if◌then◌else◌}
use Rattle.std.specs.List.{find, starts_with}
use Rattle.std.proofs.lemmas.Iterator.{YieldsList-from_slice}
use Rattle.std.proofs.lemmas.Iterator.Search.{find_from_yields_List}
use borrow.Author.Tests.{tests}
use Rattle.c_tokens.specs.declared.marks.Mark.{Mark}
use Rattle.c_tokens.specs.Marks.{mark_text, mark_among}
use Rattle.c_tokens.proofs.marks.mark_among.Goals as goal

first_mark : (text : List ℕ) (marks : List Mark) → find (λ m. starts_with nat_eq text (mark_text m)) marks ≡ mark_among marks text
first_mark text [] = refl
first_mark text (m ∷ rest) = ap (λ (o : Option Mark). if starts_with nat_eq text (mark_text m) then Some m else o) (first_mark text rest)

pub returns-clause-is : goal.returns-clause-is
returns-clause-is c =
    let text = c.args.text.now in
    c.copied.ensures
    ∙ (find_from_yields_List (λ m. starts_with nat_eq text (mark_text m)) _ _ c.find.result c.find.ensures.ran (YieldsList-from_slice c.args.marks.now cc) (λ x b q k. search (rules, tests))
    ∙ first_mark text c.args.marks.now)
