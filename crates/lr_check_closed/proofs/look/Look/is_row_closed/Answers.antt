use Rattle.std.proofs.Common.{◌≡◌, ℕ, List, Contains, Bool, true, sym, subst, ◌∙◌}
use Rattle.std.proofs.lemmas.Option.{same_Some}
use Rattle.gg_base.proofs.Facts.{if_ok}
use Rattle.tree_core.specs.Grammar.{kids}
use Rattle.lr_check_rows.specs.declared.rows.Line.{Line}
use Rattle.lr_check_closed.specs.Looks.{automaton}
use Rattle.lr_check_closed.specs.Kids.{KidsIn}
use Rattle.lr_check_closed.specs.Closing.{IsRowClosed}
use Rattle.lr_check_closed.proofs.Ending.{none_in}
use Rattle.lr_check_closed.proofs.look.Look.is_row_closed.Goals as goal

pub returns-then-row-eq0 : goal.returns-then-row-eq0
returns-then-row-eq0 c = λ u. record {
  kids = λ b p is go. absurd (none_in c.args.row.now.places b c.if-row-eq0.true is);
  lines = λ l there. c.are_lines_closed.ensures c.if-not-are_lines_closed.false l (subst (λ (ls : List Line). Contains ls l) (sym c.deref.ensures.value) there);
}

pub returns-in-Some : goal.returns-in-Some
returns-in-Some c =
    let A = automaton c.args.self.now in
    let v = c.args.self.now.lists.now in
    let rows = c.args.self.now.rows.now in
    let row = c.args.row.now in
    if_ok _ (λ (b : Bool). b ≡ true → KidsIn v rows row c.in-Some.over (kids row.token)) (λ (b : Bool). b ≡ true → IsRowClosed A v rows row)
    (λ b h u. record {
      kids = λ t p is go. subst (λ (j : ℕ). KidsIn v rows row j (kids row.token)) (same_Some c.in-Some.over p (sym (sym c.over.ensures ∙ c.in-Some.is) ∙ go)) (h u);
      lines = λ l there. c.are_lines_closed.ensures c.if-not-are_lines_closed.false l (subst (λ (ls : List Line). Contains ls l) (sym c.deref.ensures.value) there);
    })
    c.has_kids.ensures
