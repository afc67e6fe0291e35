use Rattle.std.proofs.Common.{◌≡◌, ℕ, List, [], ◌∷◌, Option, Some, None, Bool, true, false, refl, ◌∙◌, rules, tests}
use Rattle.std.specs.Prelude.{◌&&◌}
use Rattle.std.specs.List.{list_all, cons_option}
use Rattle.std.proofs.lemmas.Iterator.{YieldsList-from_slice}
use Rattle.std.proofs.lemmas.Iterator.Search.{all_from_yields_List}
use Rattle.tree_core.specs.declared.items.Mention.TheVariants as mention
use Rattle.tree_core.specs.declared.program.TreeItem.{TreeItem}
use Rattle.tree_core.specs.Items.{label_in, labels}
use Rattle.tree_core.specs.Window.{has, all_met}
use Rattle.tree_core.proofs.labels.all_met.Goals as goal

-- all labels are met where those of each item are
abbrev is_met : ℕ → (ℕ → Bool) → TreeItem → Bool
is_met base h item = all_met base h (labels mention.Target (item ∷ []))

one_more : (b p q : Bool) → p ≡ q → ((b && true) && p) ≡ (b && q)
one_more true p q e = e
one_more false p q e = refl

each_met : (base : ℕ) (h : ℕ → Bool) (items : List TreeItem) → list_all (is_met base h) items ≡ all_met base h (labels mention.Target items)
each_met base h [] = refl
each_met base h (item ∷ items) = by (label_in mention.Target item) (each_met base h items)
  where
    by : (o : Option ℕ) → list_all (is_met base h) items ≡ all_met base h (labels mention.Target items)
        → (all_met base h (cons_option o []) && list_all (is_met base h) items) ≡ all_met base h (cons_option o (labels mention.Target items))
    by None e = e
    by (Some n) e = one_more _ _ _ e

pub returns : goal.returns
returns c =
    let window = c.args.window.now in
    all_from_yields_List (is_met window.base (has window)) _ _ c.all.result c.all.ensures.ran (YieldsList-from_slice c.args.items.now cc) (λ x b q k. search (rules, tests))
    ∙ each_met window.base (has window) c.args.items.now
