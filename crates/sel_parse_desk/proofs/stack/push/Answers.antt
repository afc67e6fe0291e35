use Rattle.std.proofs.Common.{◌≡◌, List, get_or, ap, ◌∙◌, subst}
use Rattle.sel_target.specs.declared.attr.Attr.{Attr}
use Rattle.sel_parse_desk.specs.Tallied.{HaveRisen, registers_of, words_of}
use Rattle.sel_parse_desk.proofs.Tallies.{pushed_tallied, pushed_there}
use Rattle.sel_parse_desk.proofs.stack.push.Goals as goal

pub returns-clause-tallied : goal.returns-clause-tallied
returns-clause-tallied g c =
    let there : c.index-attrs-at.result ≡ c.args.attr =
    pushed_there g.T.Templates.meaning c.args.stack.now.entries c.push.new.self (record { kind = c.args.kind; attr = c.args.attr }) c.len-at.result c.index-attrs-at.result
    c.in_ok-push.ensures c.len-at.ensures (c.index-attrs-at.is ∙ ap (λ (hs : List (Attr g.row.T-Operand.Denot)). get_or hs c.len-at.result c.index-attrs-at.result) c.attrs.ensures.attrs) in
    pushed_tallied g.T.Templates.meaning c.args.stack.now.entries c.push.new.self (record { kind = c.args.kind; attr = c.args.attr })
    c.args.stack.now.tally.registers.items c.args.stack.now.tally.words.items c.raise.new.self.registers.items c.raise.new.self.words.items c.args.stack.now.settled
    c.in_ok-push.ensures c.requires.tallied
    (subst (λ (a : Attr g.row.T-Operand.Denot). HaveRisen 12 c.args.stack.now.tally.registers.items c.raise.new.self.registers.items (registers_of g.T.Templates.meaning a))
    there c.raise.ensures.registers)
    (subst (λ (a : Attr g.row.T-Operand.Denot). HaveRisen 1024 c.args.stack.now.tally.words.items c.raise.new.self.words.items (words_of g.T.Templates.meaning a))
    there c.raise.ensures.words)
