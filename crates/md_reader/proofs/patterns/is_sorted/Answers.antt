use Rattle.std.proofs.Common.{arith, sym, ◌∙◌, ap, eqb, ℕ, List, ◌++◌, reverse}
use Rattle.tree_core.specs.declared.token.Sort.{Sort}
use Rattle.md_reader.specs.Patterns.{sorted_test}
use Rattle.md_reader.proofs.PatternLaws.{emptied, misfits, goes, ended, told}
use Rattle.md_reader.proofs.patterns.is_sorted.Goals as goal

pub returns-in_default : goal.returns-in_default
returns-in_default c =
    emptied (sorted_test c.args.classes.now) c.loop-sym.stack.items c.loop-sym.sym-index c.args.right.now _ (sym c.loop-sym.stack.ok.0 ∙ c.in_default.ensures.cases.0) c.loop-sym-test.true
    c.loop-sym.invariant

pub returns-then-not-sort_fits : goal.returns-then-not-sort_fits
returns-then-not-sort_fits c =
    misfits (sorted_test c.args.classes.now) c.loop-sym.stack.items c.pop.new.self.items c.in-Some.wanted c.loop-sym.sym-index c.args.right.now _ _ c.in-Some.ensures.items
    c.loop-sym-test.true (told c.args.classes.now _ c.in-Some.wanted _ _ _ c.sort_of_symbol.ensures c.sort_fits.ensures c.if-not-sort_fits.true) c.loop-sym.invariant

pub loop-sym-preserved : goal.loop-sym-preserved
loop-sym-preserved c =
    goes (sorted_test c.args.classes.now) c.loop-sym.stack.items c.pop.new.self.items c.put_kids.new.stack.items c.in-Some.wanted c.loop-sym.sym-index c.args.right.now _ _
    c.in-Some.ensures.items c.loop-sym-test.true (told c.args.classes.now _ c.in-Some.wanted _ _ _ c.sort_of_symbol.ensures c.sort_fits.ensures c.if-not-sort_fits.false)
    (c.in_ok-put_kids.ensures ∙ ap (λ (t : List Sort). t ++ reverse c.pop.new.self.items) c.kids_of.ensures.are) c.loop-sym.invariant

pub returns : goal.returns
returns c =
    ended (sorted_test c.args.classes.now) c.loop-sym.stack.items c.loop-sym.sym-index c.args.right.now _ _ (omega (arith, c.loop-sym-test.false))
    (c.is_empty.ensures ∙ ap (λ (k : ℕ). eqb k 0) c.loop-sym.stack.ok.0) c.loop-sym.invariant
