use Rattle.std.proofs.Common.{List, Contains, subst}
use Rattle.lr_check_found.specs.Lists.{ListsView, IsBehindToken}
use Rattle.lr_check_complete.specs.declared.sheet.Line.{Line}
use Rattle.lr_check_complete.specs.Looks.{automaton}
use Rattle.lr_check_complete.proofs.Showing.{leaf_shown}
use Rattle.lr_check_complete.proofs.look.Look.has_leaves.Goals as goal

pub returns-in-Some-find_behind : goal.returns-in-Some-find_behind
returns-in-Some-find_behind c = λ u n m x there.
    let h = c.has_all_line.ensures u in
    leaf_shown (automaton c.args.self.now) c.args.self.now.found.now c.args.sheet.now c.requires.found c.requires.sheet
    c.in-Some-row.row.now _ c.in-Some-find_behind.list c.args.token c.in-Some-row.ensures
    (subst (λ (v : ListsView). IsBehindToken v c.args.token 0 0 c.in-Some-find_behind.list) c.lists.ensures c.in-Some-find_behind.ensures)
    h.0 (subst (λ (ls : List Line). Contains ls h.0) c.deref.ensures.value h.1.0) h.1.1 n x there
    ((c.all_stand.ensures c.if-not-all_stand.false n m).each x there)
