use Rattle.std.proofs.Common.{◌||◌, ℕ, List, ap, ◌∙◌}
use Rattle.std.specs.List.{list_any}
use Rattle.std.specs.Str.{bytes_eq}
use Rattle.std.specs.Global.{Vec}
use Rattle.vax_passes.specs.Fronts.{has_label}
use Rattle.vax_passes.proofs.Fronting.{added}
use Rattle.vax_passes.proofs.front.Front.add.Goals as goal

pub returns-clause-labels : goal.returns-clause-labels
returns-clause-labels c = λ other.
    ap (λ (ks : List (Vec ℕ)). list_any (λ (j : Vec ℕ). bytes_eq other j.items) ks) c.in_ok-insert.ensures.keys
    ∙ added c.in_ok-name.name c.args.self.now.labels.keys other
    ∙ ap (λ (xs : List ℕ). bytes_eq xs other || has_label c.args.self.now other) c.in_ok-name.ensures.items
