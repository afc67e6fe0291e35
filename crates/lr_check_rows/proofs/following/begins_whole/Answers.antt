use Rattle.std.proofs.Common.{sym, ◌∙◌}
use Rattle.lr_check_rows.proofs.Beginning.{whole_places}
use Rattle.lr_check_rows.proofs.following.begins_whole.Goals as goal

pub returns : goal.returns
returns c = λ u. whole_places _ c.args.state c.args.token c.args.set (sym c.number.ensures ∙ c.if-number-ne0.false) (sym c.may.ensures ∙ c.if-not-may.false)
    (λ b is. c.is_end.ensures u b (c.tokens.ensures b) is)
