use Rattle.std.proofs.Common.{◌-◌, Some, refl, sym, ap, ◌∙◌, arith}
use Rattle.vax_pairs_walk.specs.declared.tree.Step.{Step}
use Rattle.vax_pairs_walk.specs.Stepping.{On, Halt, is_marked}
use Rattle.vax_pairs_walk.specs.Views.{front_of}
use Rattle.vax_pairs_walk.specs.Pieces.{stop_of, step_of}
use Rattle.vax_pairs_walk.proofs.Straight.{front_cut, front_after}
use Rattle.vax_pairs_walk.proofs.code.Walk.straight.Goals as goal

pub returns-then-stops-clause-tree : goal.returns-then-stops-clause-tree
returns-then-stops-clause-tree c =
    let w = c.args.self in
    let l = c.loop-left in
    front_cut w.items.now w.layout.now (is_marked w.cuts.now) _ l.left (l.left - 1) l.moved l.place (front_of l.front) l.invariant.tree
    (omega arith) refl (sym c.stops.ensures ∙ c.if-stops.true)

pub loop-left-preserved : goal.loop-left-preserved
loop-left-preserved c =
    let w = c.args.self in
    let l = c.loop-left in
    record {
      tree = front_after w.items.now w.layout.now (is_marked w.cuts.now) _ l.left (l.left - 1) l.moved l.place (front_of l.front) l.invariant.tree
          (omega arith) refl (sym c.stops.ensures ∙ c.if-stops.false) (On c.in-Ok-On.next, front_of c.step.new.front)
          (c.in-Ok-On.ensures ∙ ap (λ (x : Step). Some (step_of x, front_of c.step.new.front)) c.in-Ok-On.field-0-is);
      fewer = omega arith;
    }

pub returns-in-Ok-Halt-clause-tree : goal.returns-in-Ok-Halt-clause-tree
returns-in-Ok-Halt-clause-tree c =
    let w = c.args.self in
    let l = c.loop-left in
    front_after w.items.now w.layout.now (is_marked w.cuts.now) _ l.left (l.left - 1) l.moved l.place (front_of l.front) l.invariant.tree
    (omega arith) refl (sym c.stops.ensures ∙ c.if-stops.false) (Halt (stop_of c.in-Ok-Halt.stop), front_of c.step.new.front)
    (c.in-Ok-Halt.ensures ∙ ap (λ (x : Step). Some (step_of x, front_of c.step.new.front)) c.in-Ok-Halt.field-0-is)
