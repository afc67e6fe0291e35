-- Letters of a word may stand in a name.
use Rattle.std.proofs.Common.{◌≡◌, ℕ, List, [], ◌∷◌, true, refl, arith}
use Rattle.std.proofs.lemmas.Bool.{and_from}
use Rattle.std.proofs.lemmas.Bool.Decides.{nat_tests}
use Rattle.std.specs.List.{list_all}
use Rattle.gg_base.specs.Names.{is_name_part}
use Rattle.c_tokens.specs.Letters.{in_word}
use Rattle.c_tokens.specs.Grammar.{Pass}

letter_part : (b : ℕ) → in_word b ≡ true → is_name_part b ≡ true
letter_part b h = grind (arith, nat_tests)

pub letters_are_parts : (n : List ℕ) → Pass in_word n → list_all is_name_part n ≡ true
letters_are_parts [] h = refl
letters_are_parts (b ∷ n) h = and_from (is_name_part b) (list_all is_name_part n) (letter_part b h.0) (letters_are_parts n h.1)
