use Rattle.std.proofs.Common.{ℕ, ◌<◌, List, Option, length, rules, subst}
use Rattle.std.specs.List.{AllWithin, HoldsAt}
use Rattle.std.specs.Option.{MatchOption}
use Rattle.std.proofs.lemmas.Iterator.{YieldsList-from_slice, IsFirst-from_position}
use borrow.Author.Tests.{tests}
use Rattle.md_reader.specs.declared.types.Rule.{Rule}
use Rattle.lr_tables.specs.declared.types.Choice.{Choice}
use Rattle.lr_check_found.proofs.Choosing.{Passes, Stops, free_to_first, free_where_all_pass}
use Rattle.lr_check_found.proofs.choices.free_choices.Goals as goal

-- what `position` answers
abbrev Answers : List Rule → List Choice → Option ℕ → Type 0
Answers rules cs o = MatchOption o (AllWithin (Passes rules) cs 0 (length cs)) (λ i. (i < length cs) × HoldsAt (Stops rules) cs i × AllWithin (Passes rules) cs 0 i)

pub returns-in-Some : goal.returns-in-Some
returns-in-Some c =
    free_to_first c.args.rules.now c.args.choices.now c.in-Some.at
    (subst (Answers c.args.rules.now c.args.choices.now) c.in-Some.is
    (IsFirst-from_position _ _ c.position.result (Stops c.args.rules.now) (Passes c.args.rules.now) c.position.ensures.ran (YieldsList-from_slice c.args.choices.now cc)
    (λ x q k. search (rules, tests)) (λ x q k. search (rules, tests))))

pub returns-in-None : goal.returns-in-None
returns-in-None c =
    free_where_all_pass c.args.rules.now c.args.choices.now
    (subst (Answers c.args.rules.now c.args.choices.now) c.in-None.is
    (IsFirst-from_position _ _ c.position.result (Stops c.args.rules.now) (Passes c.args.rules.now) c.position.ensures.ran (YieldsList-from_slice c.args.choices.now cc)
    (λ x q k. search (rules, tests)) (λ x q k. search (rules, tests))))
