use Rattle.std.proofs.Common.{◌-◌, List, subst, sym, ◌∙◌}
use Rattle.std.specs.Prelude.{vec_len}
use Rattle.vax_machine_live.specs.declared.frame.Frame.{Frame}
use Rattle.vax_machine_live.specs.Owners.{AreOwned}
use Rattle.vax_machine_live.proofs.OwnerLaws.{one_less}
use Rattle.vax_machine_live.proofs.frames.Frames.pop.Goals as goal

pub invariant_of-self : goal.invariant_of-self
invariant_of-self c =
    let owners = c.self.inside.owners.items in
    record {
      room = c.pop.ensures.capacity ∙ c.self.invariant.room;
      whole = c.self.invariant.whole;
      owned = subst (λ (frames : List Frame). AreOwned frames owners) (sym c.pop.ensures.rest)
          (one_less c.self.inside.held.items owners (vec_len c.self.inside.held - 1) c.self.invariant.owned);
    }
