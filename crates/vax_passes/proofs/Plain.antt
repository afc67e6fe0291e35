-- Where C may always be read, and nothing is asked of a state; targets that are kept.
use Rattle.std.proofs.Common.{◌≡◌, ℕ, true, false, List, Option, Some, None, refl}
use Rattle.std.specs.Prelude.{◌+◌}
use Rattle.gg_base.proofs.Facts.{false_true}
use Rattle.vax_core.specs.declared.op.Op.{Op}
use Rattle.vax_core.specs.declared.op.Op.TheVariants as ops
use Rattle.vax_core.specs.declared.code.Instr.{Instr}
use Rattle.vax_core.specs.declared.code.CodeItem.{CodeItem}
use Rattle.vax_machine.specs.declared.function.Action.{Action}
use Rattle.vax_machine.specs.declared.function.Action.TheVariants.{Compute, Push, Branch, Call, Return}
use Rattle.vax_machine.specs.State.{State}
use Rattle.vax_machine.specs.Functions.{action_of}
use Rattle.vax_machine.specs.Labels.{has_label, label_place, is_call, next_item, undefined_target}
use Rattle.vax_machine.specs.Step.{Next, Goes, Writes, Stops}
use Rattle.vax_alike.specs.vax_machine_lists.specs.Sound.{Behind}
use Rattle.vax_alike.specs.Corresponding.{Standing, Somewhere, falls, Targets, Carries, DoTheSame}
use Rattle.vax_passes.specs.Jumps.{leaves}
use Rattle.vax_passes.proofs.Thinning.{target_there}

abbrev pub Always : ℕ → Type 0
Always p = Unit {0}

abbrev pub Any : State → Type 0
Any m = Unit {0}

pub any_behind : (x : Next) → Behind Any x
any_behind (Goes n) = tt
any_behind (Writes b n) = tt
any_behind (Stops e) = tt

-- no run comes behind a jump or a return
pub falls_not_leaves : (op : Op) → falls (action_of op) ≡ true → leaves op ≡ false
falls_not_leaves ops.Jbr e = false_true e
falls_not_leaves ops.Ret e = false_true e
falls_not_leaves _ e = refl

module _ (cs ds : List CodeItem) (At : Standing) where
  pub all_carried : (a : Action) (t : Option (List ℕ)) (p behind : ℕ) → Carries cs ds At Always Any a t p behind
  all_carried (Compute f) t p behind = λ k r. tt
  all_carried Push t p behind = λ r. tt
  all_carried (Branch x) None p behind = tt
  all_carried (Branch x) (Some l) p behind = (λ e. tt, λ e r. tt, λ r. tt)
  all_carried Call t p behind = tt
  all_carried Return t p behind = tt

  module _ (labels : (l : List ℕ) → has_label cs l ≡ true → Somewhere At (label_place cs l) (label_place ds l)) where
    pub same_targets : (a : Action) (t : Option (List ℕ)) → undefined_target cs (is_call a) t ≡ None → Targets cs ds At Always Any a t t
    same_targets (Compute f) t e = tt
    same_targets Push t e = tt
    same_targets (Branch x) None e = refl
    same_targets (Branch x) (Some l) e = (l, refl, labels l (target_there cs false l e))
    same_targets Call None e = (refl, tt)
    same_targets Call (Some f) e = (refl, target_there cs true f e)
    same_targets Return t e = tt

    -- an instruction that is kept as it is
    pub kept_same : (i : Instr) (p q : ℕ) → undefined_target cs (is_call (action_of i.op)) i.target ≡ None
        → (falls (action_of i.op) ≡ true → Somewhere At (next_item cs p + 1) (next_item ds q + 1)) → DoTheSame cs ds At Always Any i i p q
    kept_same i p q e behind = record {
      op = refl;
      operands = refl;
      targets = same_targets (action_of i.op) i.target e;
      carries = all_carried (action_of i.op) i.target p (next_item cs p + 1);
      behind = behind;
    }
