-- A valid description's rules are a grammar.
use Rattle.std.proofs.Common.{◌≡◌, ◌⊎◌, ℕ, zero, suc, ◌+◌, ◌<◌, List, [], ◌∷◌, Some, Bool, true, false, cond, length, slice_get, sym, ap, ◌∙◌, subst, inl, inr, ⊎_elim, arith}
use Rattle.std.specs.Prelude.{◌&&◌, ◌||◌, codes}
use Rattle.std.specs.List.{AllByRecursion, list_any}
use Rattle.std.proofs.lemmas.Option.{none-some}
use Rattle.tree_core.specs.declared.token.Sort.{Sort}
use Rattle.tree_core.specs.declared.token.Tok.TheVariants as tok
use Rattle.std.specs.Str.{bytes_eq}
use Rattle.md_reader.specs.declared.types.Class.{Class}
use Rattle.md_reader.specs.declared.types.Rule.{Rule}
use Rattle.md_reader.specs.declared.types.Sym.{Sym}
use Rattle.md_reader.specs.declared.types.Sym.TheVariants as grammar_symbol
use Rattle.md_reader.specs.State.{Content}
use Rattle.md_reader.specs.Restrictions.{is_nothing}
use Rattle.md_reader.specs.Patterns.{sort_of_symbol, sorted_test, Trees, no_tree, node, onto}
use Rattle.md_reader.specs.HeadSteps.{is_stmt}
use Rattle.md_reader.specs.Valid.{IsRule, IsValid}
use Rattle.md_reader.proofs.AgainLaws.{declared, has_sort}
use Rattle.lr_tables.specs.Grammar.{IsGrammar}
use Rattle.lr_tables.specs.Statements.{stmt_from, stmt_of}
use Rattle.lr_tables.proofs.Members.{In, slice_get-In}

pub rule_at : (classes : List Class) (rs : List Rule) (n : ℕ) (r : Rule) → AllByRecursion (IsRule classes) rs → slice_get rs n ≡ Some r → IsRule classes r
rule_at classes [] zero r h e = absurd (none-some r e)
rule_at classes [] (suc n) r h e = absurd (none-some r e)
rule_at classes (q ∷ rs) zero r h e = let s : q ≡ r = cc in subst (IsRule classes) s h.0
rule_at classes (q ∷ rs) (suc n) r h e = rule_at classes rs n r h.1 e

-- each symbol of a sorted tree has a sort
symbols_sorted : (classes : List Class) {xs : List Sort} (t : Trees (sorted_test classes) xs) (w : List Sym) (s : Sym) → In s (onto t w) → ((x : Sort) × (sort_of_symbol classes s ≡ Some x)) ⊎ In s w
symbols_sorted classes no_tree w s h = inr h
symbols_sorted classes (node {x = x} q passes below beside) w s h =
    ⊎_elim
    (λ e. inl (let y : (z : Sort) × (sort_of_symbol classes q ≡ Some z) = has_sort (sort_of_symbol classes q) x passes in (y.0, ap (sort_of_symbol classes) (sym e) ∙ y.1)))
    (λ a. ⊎_elim (λ y. inl y) (λ b. symbols_sorted classes beside w s b) (symbols_sorted classes below (onto beside w) s a))
    h

tree_some : (classes : List Class) {x : Sort} (t : Trees (sorted_test classes) (x ∷ [])) → 0 < length (onto t [])
tree_some classes (node q passes below beside) = omega arith

stmt_within : (n : ℕ) (cs : List Class) → list_any is_stmt cs ≡ true → stmt_from n cs < n + length cs
stmt_within n [] e = cc
stmt_within n (c ∷ cs) e = by (bytes_eq c.name (codes "stmt")) (λ h. stmt_within (n + 1) cs h) e
  where
    by : (b : Bool) → (list_any is_stmt cs ≡ true → stmt_from (n + 1) cs < n + 1 + length cs) → ((b && is_nothing (Some c.kind)) || list_any is_stmt cs) ≡ true
        → cond b n (stmt_from (n + 1) cs) < n + length (c ∷ cs)
    by true ih h = omega arith
    by false ih h = let lt = ih h in omega (arith, lt)

pub is_grammar : (d : Content) → IsValid d → IsGrammar d.rules (stmt_of d.classes) (length d.classes)
is_grammar d v = record {
  few = v.few;
  short = record { each = λ n r e. (rule_at d.classes d.rules n r v.rules e).sides.short };
  few_classes = v.classes.few;
  start = (let lt = stmt_within 0 d.classes v.stmt in omega (arith, lt));
  lefts = λ n r e. (let q : IsRule d.classes r = rule_at d.classes d.rules n r v.rules e in declared d.classes r.left q.sides.sort q.sides.declared);
  some = λ n r e. (let q : IsRule d.classes r = rule_at d.classes d.rules n r v.rules e in subst (λ (w : List Sym). 0 < length w) q.sides.sorted.spelled (tree_some d.classes q.sides.sorted.tree));
  within = λ n k c r e f. (let s : (x : Sort) × (sort_of_symbol d.classes (grammar_symbol.Class c) ≡ Some x) = sorted_at r (rule_at d.classes d.rules n r v.rules e) (grammar_symbol.Class c) k f in
      declared d.classes c s.0 s.1);
  no_end = λ n k r e f. (let s : (x : Sort) × (sort_of_symbol d.classes (grammar_symbol.Tok tok.End) ≡ Some x) =
      sorted_at r (rule_at d.classes d.rules n r v.rules e) (grammar_symbol.Tok tok.End) k f in none-some s.0 s.1);
}
  where
    sorted_at : (r : Rule) → IsRule d.classes r → (s : Sym) (k : ℕ) → slice_get r.right k ≡ Some s → (x : Sort) × (sort_of_symbol d.classes s ≡ Some x)
    sorted_at r q s k e =
        ⊎_elim
        (λ a. a)
        (λ a. absurd a)
        (symbols_sorted d.classes q.sides.sorted.tree [] s (subst (In s) (sym q.sides.sorted.spelled) (slice_get-In s r.right k e)))
