use Rattle.std.proofs.Math.Logic.{∥∥₁_map}
use Rattle.tree_core.specs.Valid.{IsValid}
use Rattle.c_program.specs.Programs.{program}
use Rattle.c_lower_follows.proofs.Law.{lowering_follows}
use Rattle.c_lower_valid.proofs.Law.{lowered_is_valid}
use Rattle.c_lower_bounds.proofs.Law.{functions_stay}
use Rattle.c_lower_calm.specs.Claim.{TreesAreCalm, PlainStatementsStand}
use Rattle.c_lower_calm.proofs.Law.{each_tree_is_calm}
use Rattle.c_lower_calm.proofs.Standing.{plain_statements_are_one_tree}
use Rattle.c_lower.specs.Claims.{FollowsAlways, HasParts}
use Rattle.c_lower.proofs.Sound.{sound, lowered_has, few_args, fits_handed, labels_handed}
use Rattle.c_lower.proofs.lower.Goals as goal

pub returns-clause-follows : goal.returns-clause-follows
returns-clause-follows c =
    let p = program c.args.source.now.held in
    lowered_has c.args.source.now c.plain.result.now c.plain.ensures c.lower.result (λ q. ∥ FollowsAlways p q ∥₁) c.lower.ensures.trees
    (∥∥₁_map (sound c.args.source.now) (λ s. lowering_follows p s))

pub returns-clause-valid : goal.returns-clause-valid
returns-clause-valid c =
    lowered_has c.args.source.now c.plain.result.now c.plain.ensures c.lower.result (λ q. ∥ IsValid q ∥₁) c.lower.ensures.trees
    (∥∥₁_map (sound c.args.source.now) (λ s. lowered_is_valid (program c.args.source.now.held) s))

pub returns-clause-calm : goal.returns-clause-calm
returns-clause-calm c =
    lowered_has c.args.source.now c.plain.result.now c.plain.ensures c.lower.result TreesAreCalm c.lower.ensures.trees
    (each_tree_is_calm (program c.args.source.now.held))

pub returns-clause-parts : goal.returns-clause-parts
returns-clause-parts c =
    let p = program c.args.source.now.held in
    let stay = functions_stay p in
    let safe = sound c.args.source.now in
    lowered_has c.args.source.now c.plain.result.now c.plain.ensures c.lower.result (HasParts p) c.lower.ensures.trees
    (record {
      count = stay.count;
      functions = λ n g f e d. record { same = stay.functions n g f e d; fits = fits_handed p safe n g f e d };
      objects = stay.objects;
      few = few_args p safe;
      labels = labels_handed p safe;
    })

pub returns-clause-plain : goal.returns-clause-plain
returns-clause-plain c =
    lowered_has c.args.source.now c.plain.result.now c.plain.ensures c.lower.result (PlainStatementsStand (program c.args.source.now.held))
    c.lower.ensures.trees (plain_statements_are_one_tree (program c.args.source.now.held))
