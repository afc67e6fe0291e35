use Rattle.std.proofs.Common.{rules, List, subst, ◌≡◌, ◌∙◌, ◌+◌, ◌++◌, ◌∷◌, [], length, length-append, refl, sym, ap, arith}
use Rattle.std.proofs.lemmas.Grind.{common_steps}
use Rattle.vax_core.specs.declared.code.CodeItem.{CodeItem}
use Rattle.vax_codes.specs.Hops.{AreLast}
use Rattle.vax_codes.proofs.Pushing.{popped}
use Rattle.vax_codes.proofs.Turning.{turned_is_alike}
use Rattle.vax_codes.proofs.Labelling.{taken_off, at_end, turns_chains, turned_valid, same_code}
use Rattle.vax_codes.proofs.jump_chain.JumpChainPass.rewrite.Goals as goal

pub loop-item-preserved : goal.loop-item-preserved
loop-item-preserved c =
    let left : c.loop-item.left.items ≡ c.pop.new.self.items ++ c.in-Some.item ∷ [] = search (rules, common_steps) in
    let one : length c.loop-item.left.items ≡ length c.pop.new.self.items + 1 = ap length left ∙ length-append c.pop.new.self.items (c.in-Some.item ∷ []) in
    let each : length c.loop-item.names.items ≡ length c.pop.new.self.items + 1 = c.loop-item.invariant.each ∙ one in
    let name =
    popped c.loop-item.names.items c.pop-in-Some.new.self.items c.pop-in-Some.result (length c.pop.new.self.items) c.pop-in-Some.ensures.items (c.pop-in-Some.ensures.variant.1 (omega (arith, each))) each in
    record {
      each = name.each;
      same = taken_off c.loop-item.left.items c.pop.new.self.items c.loop-item.kept.items c.keep.new.kept.items c.loop-item.names.items c.pop-in-Some.new.self.items
          c.in-Some.item c.flatten-name.result
          c.loop-item.self.made c.keep.new.self.made _ left (name.items ∙ ap (λ o. c.pop-in-Some.new.self.items ++ o ∷ []) (sym c.flatten-name.ensures)) name.each c.in_ok-keep.ensures.kept
          c.loop-item.invariant.same;
      rises = search rules;
    }

pub returns-clause-wrote : goal.returns-clause-wrote
returns-clause-wrote c =
    let empty : c.loop-item.left.items ≡ [] = search (rules, common_steps) in
    turns_chains c.args.self.now.made c.loop-item.self.made c.args.code (record { area = c.args.code.area; items = c.from_vec.result }) refl c.in_ok-names.names.items
    (subst (λ (cs : List CodeItem). AreLast cs c.in_ok-names.names.items) c.as_slice.ensures c.in_ok-names.ensures)
    (at_end c.loop-item.left.items c.loop-item.kept.items _ c.loop-item.names.items c.loop-item.self.made _ empty (c.from_vec.ensures ∙ c.reverse.ensures.items) c.loop-item.invariant.same)

pub returns-clause-valid : goal.returns-clause-valid
returns-clause-valid c = turned_valid _ _ (returns-clause-wrote c).turns c.requires

pub returns-clause-alike : goal.returns-clause-alike
returns-clause-alike c = turned_is_alike _ _ (returns-clause-wrote c).turns

pub returns-clause-same : goal.returns-clause-same
returns-clause-same c = λ e. same_code _ _ _ _ (returns-clause-wrote c) e
