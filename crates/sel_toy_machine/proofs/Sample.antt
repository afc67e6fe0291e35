-- The rule is ready, and leaves the sum.
use Rattle.std.proofs.Common.{◌≡◌, ℕ, zero, suc, ◌+◌, ◌*◌, ◌^◌, ◌<◌, ◌≤◌, List, [], ◌∷◌, Some, None, Bool, true, false, refl, ap, ◌∙◌, subst, arith, cond}
use Rattle.std.specs.Prelude.{IsSome, codes, nat_lt}
use Rattle.std.specs.Str.{bytes_eq}
use Rattle.std.proofs.lemmas.List.Elements.{All-nil, All-from_recursion}
use Rattle.std.proofs.lemmas.Option.{none-some, same_Some}
use Rattle.std.proofs.lemmas.Bool.{false≢true}
use Rattle.gg_base.specs.Sizes.{bytes_of}
use Rattle.tree_core.specs.declared.token.Tok.TheVariants as tok
use Rattle.tree_core.specs.declared.token.Sort.TheVariants as sort
use Rattle.tree_core.specs.declared.tree.Att.TheVariants as att
use Rattle.tree_core.specs.declared.tree.Leaf.{Leaf}
use Rattle.tree_core.specs.declared.program.TreeItem.{TreeItem}
use Rattle.tree_core.specs.declared.program.TreeItem.TheVariants as tree_item
use Rattle.tree_core.specs.Attributes.{end_leaf}
use Rattle.tree_core.specs.Trees.{none, tree}
use Rattle.tree_core.specs.Items.{nothing, other}
use Rattle.tree_core.specs.Labels.{TargetsStand}
use Rattle.tree_core.specs.Valid.{PushesStand, main_takes_nothing, leaf_names, ItemStands, ItemsStand, WantedStand, LinksLie, IsValid}
use Rattle.md_reader.specs.declared.types.Sym.TheVariants as grammar_symbol
use Rattle.md_reader.specs.Patterns.{no_tree, node}
use Rattle.md_reader.specs.Valid.{IsRule}
use Rattle.sel_target.specs.sel_terms.specs.RuleFacts.{size_at}
use Rattle.sel_target.specs.declared.attr.Attr.{Attr}
use Rattle.sel_target.specs.Values.{worth, own_operand}
use Rattle.sel_target.specs.Instances.{hole, IsWhole}
use Rattle.sel_toy_machine.specs.declared.operand.Operand.{Operand}
use Rattle.sel_toy_machine.specs.Machine.{Stands}
use Rattle.sel_toy_machine.specs.Templates.{sum}
use Rattle.sel_toy_machine.specs.Toy.{toy}
use Rattle.sel_toy_machine.specs.Sample.{main, program, classes, rule, holes, numbers, view, machine, frame, SumIsReady, SumIsSet}
use Rattle.sel_toy_machine.proofs.Results.{toy_templates}

abbrev stands : TreeItem → Type 0
stands i = ItemStands (main ∷ []) 0 main i

abbrev names : Leaf → Type 0
names l = leaf_names (main ∷ []) 0 main l ≡ true

ret_stands : stands (tree_item.Root (record { tok = tok.Ret; att = att.Nothing } ∷ (record { tok = tok.Zero; att = att.Number 0 } ∷ (end_leaf ∷ []))))
ret_stands = (
  record {
    trees = tree (record { tok = tok.Ret; att = att.Nothing }) (tree (record { tok = tok.Zero; att = att.Number 0 }) none none) none;
    typed = (refl, (refl, tt, tt), tt);
    spelled = refl;
  },
  All-from_recursion names (record { tok = tok.Ret; att = att.Nothing } ∷ (record { tok = tok.Zero; att = att.Number 0 } ∷ (end_leaf ∷ []))) (refl, (refl, (refl, tt))),
)

program_valid : IsValid program
program_valid = record {
  names = record {
    one_main = refl;
    main_args = All-from_recursion (λ f. main_takes_nothing f ≡ true) (main ∷ []) (refl, tt);
    no_putchar = refl;
    no_getchar = refl;
    differ = λ name. once name (bytes_eq (codes "main") name);
  };
  roots = All-from_recursion (ItemsStand (main ∷ []) 0) (main ∷ []) (All-from_recursion stands main.items (ret_stands, tt), tt);
  wanted = All-from_recursion WantedStand (main ∷ []) ((All-nil (λ n. nat_lt n 0 ≡ true), λ n. omega arith), tt);
  labels_once = λ n. omega arith;
  targets = All-from_recursion TargetsStand (main ∷ []) ((λ n lt. lt), tt);
  calls = All-from_recursion PushesStand (main ∷ []) (other _ _ refl nothing, tt);
  objects = refl;
  links = All-from_recursion (LinksLie 0) [] tt;
}
  where
    once : (name : List ℕ) (b : Bool) → cond b 1 0 + 0 ≤ 1
    once name true = omega arith
    once name false = omega arith

rule_is : IsRule classes rule
rule_is = record {
  sides = record {
    sort = sort.Long;
    declared = refl;
    short = omega arith;
    tree = record { tree = node (grammar_symbol.Tok tok.Plus) refl (node (grammar_symbol.Class 1) refl no_tree (node (grammar_symbol.Class 1) refl no_tree no_tree)) no_tree; spelled = refl };
    sorted = record { tree = node (grammar_symbol.Tok tok.Plus) refl (node (grammar_symbol.Class 1) refl no_tree (node (grammar_symbol.Class 1) refl no_tree no_tree)) no_tree; spelled = refl };
    not_bare = refl;
  };
  template = record { few_restrictions = omega arith; restricted = tt; few_lines = omega arith; written = (refl, tt) };
  gives = refl;
}

values_are : (i x : ℕ) (h : Attr Operand) → hole holes i ≡ Some h → numbers i ≡ Some x → worth toy program (size_at classes rule.right i) h machine ≡ Some x
values_are zero x h at e = absurd (none-some x e)
values_are (suc zero) x h at e = absurd (none-some x e)
values_are (suc (suc zero)) x h at e = subst (λ g. worth toy program (size_at classes rule.right 2) g machine ≡ Some x) (same_Some _ h at) e
values_are (suc (suc (suc zero))) x h at e = subst (λ g. worth toy program (size_at classes rule.right 3) g machine ≡ Some x) (same_Some _ h at) e
values_are (suc (suc (suc (suc i)))) x h at e = absurd (none-some x e)

small_are : (i x : ℕ) → numbers i ≡ Some x → x < 2 ^ (8 * bytes_of (size_at classes rule.right i))
small_are zero x e = absurd (none-some x e)
small_are (suc zero) x e = absurd (none-some x e)
small_are (suc (suc zero)) x e = subst (λ n. n < 2 ^ 32) (same_Some 5 x e) (omega arith)
small_are (suc (suc (suc zero))) x e = subst (λ n. n < 2 ^ 32) (same_Some 7 x e) (omega arith)
small_are (suc (suc (suc (suc i)))) x e = absurd (none-some x e)

whole_are : (i : ℕ) (h : Attr Operand) → hole holes i ≡ Some h → IsWhole h (numbers i)
whole_are zero h at = absurd (none-some h at)
whole_are (suc zero) h at = subst (λ g. IsWhole g None) (same_Some _ h at) tt
whole_are (suc (suc zero)) h at = subst (λ g. IsWhole g (Some 5)) (same_Some _ h at) refl
whole_are (suc (suc (suc zero))) h at = subst (λ g. IsWhole g (Some 7)) (same_Some _ h at) refl
whole_are (suc (suc (suc (suc i)))) h at = absurd (none-some h at)

-- no symbol is a place
homes_are : (i : ℕ) (h : Attr Operand) (o : Operand) → hole holes i ≡ Some h → own_operand toy h ≡ Some o → IsSome (toy.names o (size_at classes rule.right i) machine)
homes_are zero h o at e = absurd (none-some h at)
homes_are (suc (suc (suc (suc i)))) h o at e = absurd (none-some h at)
homes_are _ h o at e = absurd (none-some o (ap (own_operand toy) (same_Some _ h at) ∙ e))

agrees : Stands program frame [] view.state machine
agrees = record {
  area = refl;
  input = refl;
  arguments = refl;
  pushed = refl;
  callers = refl;
  functions = refl;
  locals = λ k n e. absurd (none-some n e);
  bytes = tt;
  inputs = tt;
  longwords = tt;
}

pub sum_is_ready : SumIsReady
sum_is_ready = record {
  instance_of = record {
    program = program_valid;
    rule_fits = rule_is;
    taken = refl;
    holes_fit = ((refl, refl, tt), (refl, (refl, tt)));
    restricted = tt;
    values = values_are;
    small = small_are;
    whole = whole_are;
    homes = homes_are;
    agrees = agrees;
    room = tt;
    read = ((refl, refl), tt);
    answered = λ e. absurd (false≢true e);
  };
  result = (omega arith, (refl, (refl, (refl, tt))));
  divides = tt;
}

pub sum_is_set : SumIsSet
sum_is_set = toy_templates.result program frame [] classes rule (sum 2 3) _ holes 0 view machine sum_is_ready refl
