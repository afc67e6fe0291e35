use Rattle.std.proofs.Common.{List, ◌+◌, sym, refl, subst}
use Rattle.md_reader.specs.declared.types.Sym.{Sym}
use Rattle.lr_check_found.specs.declared.lists.Cell.{Cell}
use Rattle.lr_check_found.specs.Lists.{ListsView, IsList, AreLists}
use Rattle.lr_check_found.proofs.Pushing.{Pushed, pushed_is_old, pushed_is_new}
use Rattle.lr_check_found.proofs.lists.Lists.push.Goals as goal

pub returns-then-not-is_new : goal.returns-then-not-is_new
returns-then-not-is_new c =
    let v : ListsView = record { cells = c.self.inside.cells.keys; all = c.self.inside.all.items } in
    let w : ListsView = record { cells = c.insert_cell.new.cells.keys; all = c.self.inside.all.items } in
    let cell : Cell = record { symbol = c.symbol_number.result; rest = c.args.rest } in
    let p : Pushed v w c.args.symbol c.args.rest (c.in_ok-number.number + 1) =
    pushed_is_old v w c.args.symbol c.args.rest c.in_ok-number.number cell (subst AreLists (sym c.self.view_is) c.requires.lists)
    (subst (λ (z : ListsView). (s : List Sym) × IsList z c.args.rest s) (sym c.self.view_is) c.requires.there) (c.in_ok-number.ensures.old c.if-not-is_new.true) refl
    c.in_ok-number.ensures.there c.symbol_number.ensures refl in
    let q = subst (λ (z : ListsView). Pushed z w c.args.symbol c.args.rest (c.in_ok-number.number + 1)) c.self.view_is p in
    record { lists = q.lists; kept = q.kept; number = q.number; there = q.there }

pub returns : goal.returns
returns c =
    let v : ListsView = record { cells = c.self.inside.cells.keys; all = c.self.inside.all.items } in
    let w : ListsView = record { cells = c.insert_cell.new.cells.keys; all = c.push.new.self.items } in
    let cell : Cell = record { symbol = c.symbol_number.result; rest = c.args.rest } in
    let p : Pushed v w c.args.symbol c.args.rest (c.in_ok-number.number + 1) =
    pushed_is_new v w c.args.symbol c.args.rest c.in_ok-number.number cell c.in_ok-list.list (subst AreLists (sym c.self.view_is) c.requires.lists)
    (subst (λ (z : ListsView). (s : List Sym) × IsList z c.args.rest s) (sym c.self.view_is) c.requires.there) (c.in_ok-number.ensures.new c.if-not-is_new.false) c.in_ok-push.ensures.items
    c.in_ok-list.ensures (c.in_ok-number.ensures.absent c.if-not-is_new.false) c.in_ok-number.ensures.there c.symbol_number.ensures refl in
    let q = subst (λ (z : ListsView). Pushed z w c.args.symbol c.args.rest (c.in_ok-number.number + 1)) c.self.view_is p in
    record { lists = q.lists; kept = q.kept; number = q.number; there = q.there }
