use Rattle.std.proofs.Common.{ℕ, List, Contains, subst}
use Rattle.lr_check_found.specs.declared.settlings.Item.TheVariants as item
use Rattle.lr_check_found.specs.declared.places.Origin.TheVariants as origin
use Rattle.lr_check_found.proofs.Added.{on_ok}
use Rattle.lr_check_complete.specs.Looks.{automaton}
use Rattle.lr_check_complete.proofs.Turns.{looks_map, looks_pushed}
use Rattle.lr_check_complete.proofs.Kids_found.{held_sum}
use Rattle.lr_check_complete.proofs.Both.{two_made, second_found, second_begun}
use Rattle.lr_check_complete.proofs.look.Look.second_at.Goals as goal

pub returns-in-Some : goal.returns-in-Some
returns-in-Some c = λ x kid. on_ok _ _ _
    (looks_map c.args.self.now _ _ _ _
    (second_found (automaton c.args.self.now) c.args.self.now.found.now c.args.number c.in-Some.place c.args.first c.args.token c.args.kid _ c.requires c.in-Some.ensures.there
    c.sums.ensures))
    (c.second_sums.ensures (λ i m. two_made (automaton c.args.self.now) c.args.self.now.found.now c.args.number c.args.first i x c.args.kid kid
    (held_sum (automaton c.args.self.now) c.args.self.now.found.now c.in-Some.place i c.args.kid c.requires c.in-Some.ensures.there
    (subst (λ (l : List ℕ). Contains l i) c.sums.ensures m))))

pub returns-in_ok-push-in-None : goal.returns-in_ok-push-in-None
returns-in_ok-push-in-None c = λ x kid. looks_pushed c.args.self.now _ _ (item.Place c.args.kid (origin.Second c.args.number c.args.first)) _
    (second_begun (automaton c.args.self.now) c.args.self.now.found.now c.args.number c.args.first x c.args.kid kid) c.in_ok-push-in-None.ensures.items
