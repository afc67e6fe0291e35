use Rattle.std.proofs.Common.{rules, ◌≡◌, List, [], ◌∷◌, ◌++◌, length, sym, subst}
use Rattle.tree_core.specs.Grammar.{kids}
use Rattle.lr_check.specs.Tree.{Node}
use Rattle.lr_check.specs.Statement.{KidsFit}
use Rattle.lr_check_nodes.specs.Growing.{HasLast}
use Rattle.lr_check_nodes.proofs.Wholes.{whole_more, last_more}
use Rattle.lr_check_nodes.proofs.growing.Growing.add.Goals as goal

pub invariant_of-self-2 : goal.invariant_of-self-2
invariant_of-self-2 c =
    let nodes = c.self.inside.nodes.items in
    let fit = subst (λ (l : List Node). KidsFit l c.args.numbers.now (kids c.args.token)) (sym c.self.view_is) c.requires in
    let pushed : c.push.new.self.items ≡ nodes ++ record { tok = c.args.token; kids = c.args.numbers.now; answers = c.args.answers.now } ∷ [] = search rules in
    whole_more nodes c.push.new.self.items c.args.token c.args.numbers.now c.args.answers.now c.self.invariant fit pushed

pub returns : goal.returns
returns c =
    let nodes = c.self.inside.nodes.items in
    let fit = subst (λ (l : List Node). KidsFit l c.args.numbers.now (kids c.args.token)) (sym c.self.view_is) c.requires in
    let pushed : c.push.new.self.items ≡ nodes ++ record { tok = c.args.token; kids = c.args.numbers.now; answers = c.args.answers.now } ∷ [] = search rules in
    let at : c.in_ok-number.number ≡ length nodes = search rules in
    subst (λ (l : List Node). HasLast l c.push.new.self.items c.args.token c.args.numbers.now c.args.answers.now c.in_ok-number.number) c.self.view_is
    (last_more nodes c.push.new.self.items c.args.token c.args.numbers.now c.args.answers.now c.in_ok-number.number c.self.invariant fit pushed at)
