use Rattle.std.proofs.Common.{sym, ◌∙◌, true≢false}
use Rattle.lr_check_found.proofs.Added.{on_ok}
use Rattle.lr_check_complete.proofs.Turns.{looks_map, looks_there}
use Rattle.lr_check_complete.proofs.look.Look.only_from.Goals as goal

pub returns-then-not-may : goal.returns-then-not-may
returns-then-not-may c = λ x kid. looks_there c.args.self.now _ _ (λ m. absurd (true≢false (sym m ∙ (sym c.may.ensures ∙ c.if-not-may.true))))

pub returns : goal.returns
returns c = λ x kid. on_ok _ _ _ (looks_map c.args.self.now _ _ _ _ (λ g m. g)) (c.only_at.ensures x (kid (sym c.may.ensures ∙ c.if-not-may.false)))
