use Rattle.std.proofs.Common.{◌≤◌, List, sym, subst, arith}
use Rattle.std.specs.Prelude.{slice_index, count_by}
use Rattle.sel_target.specs.declared.attr.Attr.{Attr}
use Rattle.sel_parse_desk.specs.Entries.{in_register, in_word}
use Rattle.sel_parse_desk.specs.Tallied.{HaveFallen, registers_among, words_among}
use Rattle.sel_parse_desk.proofs.Tallies.{part_tallied, part_some}
use Rattle.sel_parse_desk.proofs.stack.part.Goals as goal

pub lower_all-requires-clause-in_registers : goal.lower_all-requires-clause-in_registers
lower_all-requires-clause-in_registers g c = λ r small.
    subst (λ (hs : List (Attr g.row.T-Operand.Denot)). count_by (in_register g.T.Templates.meaning r) hs ≤ slice_index c.args.stack.now.tally.registers.items r) (sym c.attrs.ensures.attrs)
    (part_some g.T.Templates.meaning (in_register g.T.Templates.meaning r) c.args.stack.now.entries c.in_ok-taken.taken c.saturating_sub-base.result
    (slice_index c.args.stack.now.tally.registers.items r)
    c.in_ok-taken.ensures.behind (c.requires.tallied.each_register r small))

pub lower_all-requires-clause-in_words : goal.lower_all-requires-clause-in_words
lower_all-requires-clause-in_words g c = λ w small.
    subst (λ (hs : List (Attr g.row.T-Operand.Denot)). count_by (in_word g.T.Templates.meaning w) hs ≤ slice_index c.args.stack.now.tally.words.items w) (sym c.attrs.ensures.attrs)
    (part_some g.T.Templates.meaning (in_word g.T.Templates.meaning w) c.args.stack.now.entries c.in_ok-taken.taken c.saturating_sub-base.result
    (slice_index c.args.stack.now.tally.words.items w)
    c.in_ok-taken.ensures.behind (c.requires.tallied.each_word w small))

pub returns-clause-tallied : goal.returns-clause-tallied
returns-clause-tallied g c =
    part_tallied g.T.Templates.meaning c.args.stack.now.entries c.split_off.new.self c.in_ok-taken.taken c.saturating_sub-base.result
    c.args.stack.now.tally.registers.items c.args.stack.now.tally.words.items c.lower_all.new.self.registers.items c.lower_all.new.self.words.items c.args.stack.now.settled c.min-stack.result
    c.in_ok-taken.ensures.before c.in_ok-taken.ensures.behind (let m = c.min-stack.ensures in omega (arith, m)) (let m = c.min-stack.ensures in omega (arith, m))
    (let s = c.saturating_sub-base.ensures in let l = c.len-long.ensures in omega (arith, s, l))
    c.requires.tallied
    (subst (λ (hs : List (Attr g.row.T-Operand.Denot)). HaveFallen 12 c.args.stack.now.tally.registers.items c.lower_all.new.self.registers.items (registers_among g.T.Templates.meaning hs))
    c.attrs.ensures.attrs c.lower_all.ensures.registers)
    (subst (λ (hs : List (Attr g.row.T-Operand.Denot)). HaveFallen 1024 c.args.stack.now.tally.words.items c.lower_all.new.self.words.items (words_among g.T.Templates.meaning hs))
    c.attrs.ensures.attrs c.lower_all.ensures.words)
