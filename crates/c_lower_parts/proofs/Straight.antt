-- A block in a straight run is looked into.
use Rattle.std.proofs.Common.{◌≡◌, ℕ, suc, List, [], Bool, ap, sym, ◌∙◌}
use Rattle.c_program.specs.Statements.{ADeclaration, AnAction, SomeActions, MoreActions, BlockOf}
use Rattle.c_lower_scheme.specs.Zeros.{is_overwritten}

pub block_goes : (k j n : ℕ) (ds : List ADeclaration) (rest others inner : SomeActions) (first : AnAction) (r : Bool) → k ≡ suc j → ds ≡ [] → rest ≡ MoreActions first others
    → first ≡ BlockOf inner → r ≡ is_overwritten j n [] inner → r ≡ is_overwritten k n ds rest
block_goes k j n ds rest others inner first r count none one block h =
    h ∙ sym (ap (λ x. is_overwritten x n ds rest) count ∙ ap (λ x. is_overwritten (suc j) n x rest) none ∙ ap (λ x. is_overwritten (suc j) n [] x) one
    ∙ ap (λ x. is_overwritten (suc j) n [] (MoreActions x others)) block)
