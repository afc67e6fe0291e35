use Rattle.std.proofs.Common.{List, get_or, ap, ◌∙◌, arith}
use Rattle.std.specs.Prelude.{slice_index, slice_get}
use Rattle.sel_target.specs.declared.attr.Attr.{Attr}
use Rattle.sel_parse_desk.specs.Entries.{in_register, in_word}
use Rattle.sel_parse_desk.specs.Entries.{kind_in}
use Rattle.sel_parse_desk.proofs.Tallies.{put_tallied, put_room, put_some}
use Rattle.sel_parse_desk.proofs.stack.put.Goals as goal

pub lower-requires-clause-in_registers : goal.lower-requires-clause-in_registers
lower-requires-clause-in_registers g c = λ r small.
    put_some g.T.Templates.meaning (in_register g.T.Templates.meaning r) c.args.stack.now.entries c.args.at c.index-attrs-at.result
    (slice_index c.args.stack.now.tally.registers.items r) c.requires.within
    (c.index-attrs-at.is ∙ ap (λ (hs : List (Attr g.row.T-Operand.Denot)). get_or hs c.args.at c.index-attrs-at.result) c.attrs.ensures.attrs) (c.requires.tallied.each_register r small)

pub lower-requires-clause-in_words : goal.lower-requires-clause-in_words
lower-requires-clause-in_words g c = λ w small.
    put_some g.T.Templates.meaning (in_word g.T.Templates.meaning w) c.args.stack.now.entries c.args.at c.index-attrs-at.result
    (slice_index c.args.stack.now.tally.words.items w) c.requires.within
    (c.index-attrs-at.is ∙ ap (λ (hs : List (Attr g.row.T-Operand.Denot)). get_or hs c.args.at c.index-attrs-at.result) c.attrs.ensures.attrs) (c.requires.tallied.each_word w small)

pub raise-requires-clause-register_room : goal.raise-requires-clause-register_room
raise-requires-clause-register_room g c = λ r small.
    put_room g.T.Templates.meaning (in_register g.T.Templates.meaning r) c.args.stack.now.entries c.args.at c.args.attr c.index-attrs-at.result (slice_index c.lower.new.self.registers.items r)
    (slice_index c.args.stack.now.tally.registers.items r) c.requires.within (c.index-attrs-at.is
    ∙ ap (λ (hs : List (Attr g.row.T-Operand.Denot)). get_or hs c.args.at c.index-attrs-at.result) c.attrs.ensures.attrs)
    (let l = c.len-long.ensures in let f = c.len-long.type_inv in omega (arith, l, f)) (c.requires.tallied.each_register r small) (c.lower.ensures.registers r small)

pub raise-requires-clause-word_room : goal.raise-requires-clause-word_room
raise-requires-clause-word_room g c = λ w small.
    put_room g.T.Templates.meaning (in_word g.T.Templates.meaning w) c.args.stack.now.entries c.args.at c.args.attr c.index-attrs-at.result (slice_index c.lower.new.self.words.items w)
    (slice_index c.args.stack.now.tally.words.items w) c.requires.within (c.index-attrs-at.is
    ∙ ap (λ (hs : List (Attr g.row.T-Operand.Denot)). get_or hs c.args.at c.index-attrs-at.result) c.attrs.ensures.attrs)
    (let l = c.len-long.ensures in let f = c.len-long.type_inv in omega (arith, l, f)) (c.requires.tallied.each_word w small) (c.lower.ensures.words w small)

pub returns-clause-tallied : goal.returns-clause-tallied
returns-clause-tallied g c =
    put_tallied g.T.Templates.meaning c.args.stack.now.entries c.put.new.self c.args.at (kind_in (slice_get c.args.stack.now.entries c.args.at)) c.args.attr c.index-attrs-at.result
    c.args.stack.now.tally.registers.items c.args.stack.now.tally.words.items c.lower.new.self.registers.items c.lower.new.self.words.items
    c.raise.new.self.registers.items c.raise.new.self.words.items
    c.args.stack.now.settled c.put.ensures c.requires.within c.requires.unsettled
    (c.index-attrs-at.is ∙ ap (λ (hs : List (Attr g.row.T-Operand.Denot)). get_or hs c.args.at c.index-attrs-at.result) c.attrs.ensures.attrs)
    c.requires.tallied c.lower.ensures.registers c.lower.ensures.words c.raise.ensures.registers c.raise.ensures.words
