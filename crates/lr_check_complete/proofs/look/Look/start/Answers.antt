use Rattle.std.proofs.Common.{refl, sym, ◌∙◌, true≢false}
use Rattle.tree_core.specs.declared.token.Tok.TheVariants as tok
use Rattle.lr_check_found.specs.declared.settlings.Item.TheVariants as item
use Rattle.lr_check_found.specs.declared.places.Origin.TheVariants as origin
use Rattle.lr_check_found.specs.Found.{place_of}
use Rattle.lr_check_found.specs.Items.{Begun}
use Rattle.lr_check_complete.proofs.Turns.{looks_there, looks_pushed}
use Rattle.lr_check_complete.proofs.look.Look.start.Goals as goal

pub returns-then-not-may : goal.returns-then-not-may
returns-then-not-may c = looks_there c.args.self.now _ _ (λ m. absurd (true≢false (sym m ∙ (sym c.may.ensures ∙ c.if-not-may.true))))

pub returns-in-Some : goal.returns-in-Some
returns-in-Some c = looks_there c.args.self.now _ _ (λ m. record { number = c.in-Some.field-0; at = c.in-Some.ensures.there })

pub returns-in_ok-push-in-None : goal.returns-in_ok-push-in-None
returns-in_ok-push-in-None c = looks_pushed c.args.self.now _ _ (item.Place (place_of 0 c.args.token tok.End) origin.Root) _
    (Begun.root (record { state = refl; may = sym c.may.ensures ∙ c.if-not-may.false; behind = refl })) c.in_ok-push-in-None.ensures.items
