use Rattle.std.proofs.Common.{◌∙◌, sym, subst, refl}
use Rattle.std.specs.List.{All}
use Rattle.std.proofs.lemmas.Bool.{iff_false}
use Rattle.tree_core.specs.Labels.{TargetsStand}
use Rattle.tree_core.specs.Valid.{WantedStand}
use Rattle.tree_core.proofs.Validity.{valid_so}
use Rattle.tree_core.proofs.program.TreeProgram.valid.Goals as goal

pub returns-then-not-wanted_stand : goal.returns-then-not-wanted_stand
returns-then-not-wanted_stand c =
    ((λ t. absurd cc), (λ h. absurd (iff_false c.wanted_stand.ensures c.if-not-wanted_stand.true (subst (All WantedStand) (sym c.as_slice-functions.ensures) h.wanted))))

pub returns-then-not-targets_stand : goal.returns-then-not-targets_stand
returns-then-not-targets_stand c =
    ((λ t. absurd cc), (λ h. absurd (iff_false c.targets_stand.ensures c.if-not-targets_stand.true (subst (All TargetsStand) (sym c.as_slice-functions.ensures) h.targets))))

pub returns : goal.returns
returns c =
    valid_so c.args.self.now c.as_slice-functions.result.now c.as_slice-objects.result.now _ c.links_lie.result c.as_slice-functions.ensures c.as_slice-objects.ensures refl
    (c.names_are_right.ensures.0 c.if-not-names_are_right.false) (c.roots_stand.ensures.0 c.if-not-roots_stand.false) (c.wanted_stand.ensures.0 c.if-not-wanted_stand.false)
    (c.labels_stand_once.ensures.0 c.if-not-labels_stand_once.false) (c.targets_stand.ensures.0 c.if-not-targets_stand.false) (c.pushes_stand.ensures.0 c.if-not-pushes_stand.false)
    (sym c.objects_lie.ensures ∙ c.if-not-objects_lie.false) c.links_lie.ensures
