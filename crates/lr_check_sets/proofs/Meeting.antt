-- Tables meet what the laws ask of an automaton.
use Rattle.std.proofs.Common.{◌≡◌, ℕ, ◌<◌, Some, Contains, length, slice_get, reverse, sym, subst}
use Rattle.tree_core.specs.declared.token.Tok.TheVariants as tok
use Rattle.md_reader.specs.declared.types.Rule.{Rule}
use Rattle.md_reader.specs.declared.types.Sym.TheVariants as grammar_symbol
use Rattle.md_reader.specs.Valid.{IsRule, IsValid}
use Rattle.lr_tables.specs.Statements.{stmt_of}
use Rattle.lr_tables.specs.Grammar.{IsGrammar}
use Rattle.lr_tables.specs.View.{TableView}
use Rattle.lr_tables.specs.Leads.{actions_at}
use Rattle.lr_tables.specs.Promises.{IsNumbered}
use Rattle.lr_tables.proofs.Law.{candidates, leads_on, stands_from}
use Rattle.lr_tables.proofs.Validity.{is_grammar, rule_at}
use Rattle.lr_check_sets.specs.Automaton.{Production}
use Rattle.lr_check_sets.specs.Items.{IsAutomatonOf, HasNoEnd, HasNoEmpty}
use Rattle.lr_check_sets.specs.Shapes.{IsTree, HasTrees}
use Rattle.lr_check_sets.specs.Bound.{HasClasses}
use Rattle.lr_check_sets.specs.Exact.{TablesMeetLaws}
use Rattle.lr_check_sets.specs.Table.{production, productions, candidates_at, automaton_of}
use Rattle.lr_check_sets.proofs.Links.{of_productions}
use Rattle.lr_check_sets.proofs.Patterned.{tree_of}
use Rattle.lr_check_sets.proofs.Rows.{item_before, stands, are_candidates, leads, slice_at}

module _ (t : TableView) (v : IsValid t.content) (b : IsNumbered t) where
  grammar : IsGrammar t.content.rules (stmt_of t.content.classes) (length t.content.classes)
  grammar = is_grammar t.content v

  pub exact : IsAutomatonOf (productions t.content.rules) (automaton_of t)
  unfolding candidates_at
  exact = record {
    goes_where = λ a p X r after at i. leads_on t.content.rules (stmt_of t.content.classes) (length t.content.classes) grammar t.content t.rows b a p X (leads t a p at)
        (stands t.content.rules (stmt_of t.content.classes) (length t.content.classes) grammar t.content t.rows b i);
    goes_only = λ a p X n at e. item_before t.content.rules (stmt_of t.content.classes) (length t.content.classes) grammar t.content t.rows b
        (stands_from t.content.rules (stmt_of t.content.classes) (length t.content.classes) grammar t.content t.rows b a p n X (leads t a p at) e);
    candidates = λ a p k at. are_candidates t.content.rules (stmt_of t.content.classes) (length t.content.classes) grammar t.content t.rows b a p k (actions_at t p k)
        (candidates t.content.rules (stmt_of t.content.classes) (length t.content.classes) grammar t.content t.rows b a p k (leads t a p at));
  }

  pub no_end : HasNoEnd (productions t.content.rules)
  no_end r m c =
      let o : (n : ℕ) × ((q : Rule) × ((slice_get t.content.rules n ≡ Some q) × (r ≡ production q))) = of_productions t.content.rules (stmt_of t.content.classes) r m in
      let in_right : Contains o.1.0.right (grammar_symbol.Tok tok.End) = subst (λ (p : Production). Contains p.right (grammar_symbol.Tok tok.End)) o.1.1.1 c in
      grammar.no_end o.0 in_right.0 o.1.0 o.1.1.0 (slice_at o.1.0.right (grammar_symbol.Tok tok.End) in_right)

  pub no_empty : HasNoEmpty (productions t.content.rules)
  no_empty r m =
      let o : (n : ℕ) × ((q : Rule) × ((slice_get t.content.rules n ≡ Some q) × (r ≡ production q))) = of_productions t.content.rules (stmt_of t.content.classes) r m in
      subst (λ (p : Production). 0 < length p.right) (sym o.1.1.1) (grammar.some o.0 o.1.0 o.1.1.0)

  pub trees : HasTrees (productions t.content.rules)
  trees r m =
      let o : (n : ℕ) × ((q : Rule) × ((slice_get t.content.rules n ≡ Some q) × (r ≡ production q))) = of_productions t.content.rules (stmt_of t.content.classes) r m in
      let q : IsRule t.content.classes o.1.0 = rule_at t.content.classes t.content.rules o.0 o.1.0 v.rules o.1.1.0 in
      subst (λ (p : Production). IsTree (reverse p.right)) (sym o.1.1.1) (tree_of q.sides.sorted.tree o.1.0.right q.sides.sorted.spelled)

  pub classes : HasClasses (productions t.content.rules) (length t.content.classes)
  classes r m =
      let o : (n : ℕ) × ((q : Rule) × ((slice_get t.content.rules n ≡ Some q) × (r ≡ production q))) = of_productions t.content.rules (stmt_of t.content.classes) r m in
      subst (λ (p : Production). p.left < length t.content.classes) (sym o.1.1.1) (grammar.lefts o.0 o.1.0 o.1.1.0)

pub tables_meet_laws : TablesMeetLaws
tables_meet_laws t v b = record { no_end = no_end t v b; no_empty = no_empty t v b; trees = trees t v b; classes = classes t v b; exact = exact t v b }
