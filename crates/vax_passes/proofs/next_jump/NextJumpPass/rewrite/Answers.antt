use Rattle.std.proofs.Common.{rules, ◌≡◌, ◌∙◌, [], refl}
use Rattle.std.proofs.lemmas.Grind.{common_steps}
use Rattle.vax_passes.proofs.NextJumps.{skips_alike}
use Rattle.vax_passes.proofs.Thinning.{thinned_valid, same_code}
use Rattle.vax_passes.proofs.Jumping.{taken_off, at_end, drops_next_jumps, skips_of}
use Rattle.vax_passes.proofs.next_jump.NextJumpPass.rewrite.Goals as goal

pub loop-item-preserved : goal.loop-item-preserved
loop-item-preserved c = record {
  front = c.in_ok-keep.ensures.front;
  same = taken_off c.loop-item.left.items c.pop.new.self.items c.loop-item.kept.items c.keep.new.kept.items c.in-Some.item c.loop-item.self.made c.keep.new.self.made _
      (search (rules, common_steps)) c.in_ok-keep.ensures.kept c.loop-item.invariant.same;
  rises = search rules;
}

pub returns-clause-wrote : goal.returns-clause-wrote
returns-clause-wrote c =
    let empty : c.loop-item.left.items ≡ [] = search (rules, common_steps) in
    drops_next_jumps _ _ _ _ refl (at_end c.loop-item.left.items c.loop-item.kept.items _ c.loop-item.self.made _ empty (c.from_vec.ensures ∙ c.reverse.ensures.items) c.loop-item.invariant.same)

pub returns-clause-valid : goal.returns-clause-valid
returns-clause-valid c = let w = returns-clause-wrote c in thinned_valid w.thinned.number _ _ w.thinned.area w.thinned.items c.requires

pub returns-clause-alike : goal.returns-clause-alike
returns-clause-alike c =
    let empty : c.loop-item.left.items ≡ [] = search (rules, common_steps) in
    let t = skips_of _ _ c.args.code (record { area = c.args.code.area; items = c.from_vec.result })
    (at_end c.loop-item.left.items c.loop-item.kept.items c.from_vec.result c.loop-item.self.made _ empty (c.from_vec.ensures ∙ c.reverse.ensures.items) c.loop-item.invariant.same) in
    skips_alike t.0 _ _ refl t.1

pub returns-clause-same : goal.returns-clause-same
returns-clause-same c = λ e. same_code _ _ _ _ (returns-clause-wrote c).thinned e
