use Rattle.std.proofs.Common.{sym, ◌∙◌}
use Rattle.lr_check_found.specs.declared.settlings.Item.TheVariants as item
use Rattle.lr_check_found.specs.declared.places.Origin.TheVariants as origin
use Rattle.lr_check_found.proofs.Added.{on_ok}
use Rattle.lr_check_complete.specs.Looks.{automaton}
use Rattle.lr_check_complete.proofs.Turns.{looks_there, looks_pushed}
use Rattle.lr_check_complete.proofs.Gaining.{first_at, sums_only, first_begun}
use Rattle.lr_check_complete.proofs.look.Look.add_first.Goals as goal

pub returns-in-Some-clause-looks : goal.returns-in-Some-clause-looks
returns-in-Some-clause-looks c = λ x kid. on_ok _ _ _
    (λ h. looks_there c.args.self.now _ _ (λ m.
    first_at (automaton c.args.self.now) c.args.self.now.found.now c.in-Some.place c.args.kid _ _ _ c.requires c.in-Some.ensures.there c.sums.ensures h)) c.add_lists.ensures

pub returns-in-Some-clause-only : goal.returns-in-Some-clause-only
returns-in-Some-clause-only c = on_ok _ _ _
    (λ h. sums_only (automaton c.args.self.now) c.args.self.now.found.now c.in-Some.place c.args.kid c.args.wanted _ _ _ c.requires c.in-Some.ensures.there c.sums.ensures
    (sym c.may.ensures ∙ c.if-not-may.false) h)
    c.add_lists.ensures

pub returns-in_ok-push-in-None-clause-looks : goal.returns-in_ok-push-in-None-clause-looks
returns-in_ok-push-in-None-clause-looks c = λ x kid. looks_pushed c.args.self.now _ _ (item.Place c.args.kid (origin.First c.args.parent)) _
    (first_begun (automaton c.args.self.now) c.args.self.now.found.now c.args.parent x c.args.kid (kid (sym c.may.ensures ∙ c.if-not-may.false))) c.in_ok-push-in-None.ensures.items
