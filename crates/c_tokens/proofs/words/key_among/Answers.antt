use Rattle.std.proofs.Common.{rules, ◌≡◌, ◌∙◌, ℕ, List, [], ◌∷◌, Option, Some, nat_eq, refl, ap}
use Rattle.std.specs.Prelude.{if◌then◌else◌}
use Rattle.std.specs.Cmp.Lexicographic.{pointwise}
use Rattle.std.specs.List.{find}
use Rattle.std.proofs.lemmas.Iterator.{YieldsList-from_slice}
use Rattle.std.proofs.lemmas.Iterator.Search.{find_from_yields_List}
use borrow.Author.Tests.{tests}
use Rattle.c_tokens.specs.declared.words.Key.{Key}
use Rattle.c_tokens.specs.Words.{key_text, key_among}
use Rattle.c_tokens.proofs.words.key_among.Goals as goal

first_key : (word : List ℕ) (keys : List Key) → find (λ k. pointwise nat_eq word (key_text k)) keys ≡ key_among keys word
first_key word [] = refl
first_key word (k ∷ rest) = ap (λ (o : Option Key). if pointwise nat_eq word (key_text k) then Some k else o) (first_key word rest)

pub returns : goal.returns
returns c =
    let word = c.args.word.now in
    c.copied.ensures
    ∙ (find_from_yields_List (λ k. pointwise nat_eq word (key_text k)) _ _ c.find.result c.find.ensures.ran (YieldsList-from_slice c.args.keys.now cc) (λ x b q k. search (rules, tests))
    ∙ first_key word c.args.keys.now)
