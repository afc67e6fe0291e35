use Rattle.std.proofs.Common.{List, Contains, subst}
use Rattle.lr_check_rows.specs.declared.rows.Line.{Line}
use Rattle.lr_check_closed.proofs.look.Look.has_leaf.Goals as goal

pub returns-in-Some : goal.returns-in-Some
returns-in-Some c = λ u.
    let h = c.has_all_line.ensures u in
    record {
      list = c.in-Some.list;
      joined = c.in-Some.ensures;
      line = h.0;
      there = subst (λ (ls : List Line). Contains ls h.0) c.deref.ensures.value h.1.0;
      all = h.1.1;
    }
