use Rattle.std.proofs.Common.{ℕ, take, ap, subst}
use Rattle.std.specs.Prelude.{Err, reverse}
use Rattle.sel_parse_desk.specs.Selected.{tree_of, Blocked}
use Rattle.sel_parse_desk.specs.Mirror.{stack_of}
use Rattle.sel_parse.specs.Steps.{Ends}
use Rattle.sel_parse.specs.declared.selection.ParseFault.{ParseFault}
use Rattle.sel_parse.proofs.selection.select.Goals as goal

pub unreachable-requires : goal.unreachable-requires
unreachable-requires g c =
    c.requires.goes
    (subst (λ (n : ℕ). Blocked g.T.Templates.meaning c.args.program.now c.args.generator.now.tables.content n (tree_of c.args.leaves.now)) c.first.ensures.first
    (subst (λ (k : ℕ). Blocked g.T.Templates.meaning c.args.program.now c.args.generator.now.tables.content c.first.result (take k c.args.leaves.now)) c.saturating_sub.ensures
    (c.in-Err-Blocked.ensures.blocked (ap (λ (f : ParseFault). Err f) c.in-Err-Blocked.field-0-is))))

pub returns-clause-code : goal.returns-clause-code
returns-clause-code g c =
    let p = subst (λ (n : ℕ). Ends g.T.Templates.meaning c.args.program.now c.args.generator.now.tables.content n (tree_of c.args.leaves.now) (stack_of c.in-Ok.desk)) c.first.ensures.first
    (subst (λ (k : ℕ). Ends g.T.Templates.meaning c.args.program.now c.args.generator.now.tables.content c.first.result (take k c.args.leaves.now) (stack_of c.in-Ok.desk)) c.saturating_sub.ensures
    c.in-Ok.ensures.code) in
    record {
      most = c.in-Ok.desk.most;
      selected = record { log = p.0; entries = reverse c.in-Ok.desk.stack.entries; parsed = p.1 };
      used = c.use_up_to.ensures.used;
    }
