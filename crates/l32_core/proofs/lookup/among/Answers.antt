use Rattle.std.proofs.Common.{◌≡◌, ℕ, List, [], ◌∷◌, Option, Some, Bool, refl, ap, sym, ◌∙◌, rules, tests}
use Rattle.std.specs.Prelude.{if◌then◌else◌, nat_eq}
use Rattle.std.specs.List.{find}
use Rattle.std.specs.Cmp.Lexicographic.{pointwise}
use Rattle.std.proofs.lemmas.Iterator.{YieldsList-from_slice}
use Rattle.std.proofs.lemmas.Iterator.Search.{find_from_yields_List}
use Rattle.l32_core.specs.declared.op.Op32.{Op32}
use Rattle.l32_core.specs.Mnemonics.{among}
use Rattle.l32_core.specs.Ops.{shape}
use Rattle.l32_core.proofs.lookup.among.Goals as goal

abbrev is_written : List ℕ → Op32 → Bool
is_written word op = pointwise nat_eq word (shape op).mnemonic

first_written : (word : List ℕ) (ops : List Op32) → find (is_written word) ops ≡ among ops word
first_written word [] = refl
first_written word (op ∷ ops) = ap (λ (o : Option Op32). if is_written word op then Some op else o) (first_written word ops)

pub returns : goal.returns
returns c =
    let word = c.args.word.now in
    let ops = c.args.ops.now in
    sym (c.copied.ensures
    ∙ (find_from_yields_List (is_written word) c.find.new.self _ c.find.result c.find.ensures.ran (YieldsList-from_slice ops cc) (λ x b q k. search (rules, tests)) ∙ first_written word ops))
