-- No class of statements stands in a rule's right side.
use Rattle.std.proofs.Common.{◌≡◌, List, [], ◌∷◌, Option, Some, false, ap, ◌∙◌, subst}
use Rattle.std.specs.List.{AllByRecursion as All}
use Rattle.gg_base.proofs.Facts.{true_or_false}
use Rattle.tree_core.specs.declared.token.Sort.{Sort}
use Rattle.sel_parse_lines.specs.tree_meaning_tame.proofs.Strict.{kids_no_stmt}
use Rattle.md_reader.specs.declared.types.Kind.{Kind}
use Rattle.md_reader.specs.declared.types.Kind.TheVariants as kind
use Rattle.md_reader.specs.declared.types.Class.{Class}
use Rattle.md_reader.specs.declared.types.Rule.{Rule}
use Rattle.md_reader.specs.declared.types.Sym.TheVariants as grammar_symbol
use Rattle.md_reader.specs.Patterns.{kind_at, Trees, no_tree, node, onto, sorted_test}
use Rattle.md_reader.specs.Restrictions.{is_nothing}
use Rattle.md_reader.specs.Rows.{is_bare}
use Rattle.md_reader.specs.Valid.{IsRule}
use Rattle.sel_parse_law.specs.sel_parse_slots.proofs.Finishing.{IsNoStatement, none_onto}

no_nothing : (k : Option Kind) → is_nothing k ≡ false → k ≡ Some kind.Nothing → ⊥
no_nothing k e is = true_or_false (is_nothing k) (ap is_nothing is) e

-- of a pattern that isn't a class of statements alone
none_in : (classes : List Class) {x : Sort} (tree : Trees (sorted_test classes) (x ∷ [])) → is_bare classes (onto tree []) ≡ false → All (IsNoStatement classes) (onto tree [])
none_in classes (node (grammar_symbol.Tok t) passes below beside) h = (tt, none_onto classes below (onto beside []) (kids_no_stmt t) (none_onto classes beside [] tt tt))
none_in classes (node (grammar_symbol.Class c) passes no_tree no_tree) h = (no_nothing (kind_at classes c) h, tt)

pub right_none : (classes : List Class) (r : Rule) → IsRule classes r → All (IsNoStatement classes) r.right
right_none classes r is_rule =
    let s = is_rule.sides.sorted in
    subst (All (IsNoStatement classes)) s.spelled (none_in classes s.tree (ap (is_bare classes) s.spelled ∙ is_rule.sides.not_bare))
