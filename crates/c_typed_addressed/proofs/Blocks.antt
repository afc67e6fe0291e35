-- The items of a block as code holds them, one after another.
use Rattle.std.proofs.Common.{◌≡◌, ℕ, ◌+◌, ◌<◌, ◌≤◌, List, ◌∷◌, length, drop, get_or, refl, ap, sym, ◌∙◌, OnOk, Result, Ok, Err}
use Rattle.std.proofs.lemmas.List.{drop_more, drop_all}
use Rattle.std.specs.Global.{Vec}
use Rattle.c_phrases.specs.declared.tree.Item.{Item}
use Rattle.c_phrases.specs.declared.tree.Item.TheVariants as item
use Rattle.c_phrases.specs.declared.tree.Item.TheBlock.{hidden-the_row-Item-0, items_hidden-the_row-Item-0}
use Rattle.c_phrases.specs.declared.tree.Statement.{Statement}
use Rattle.c_phrases.specs.declared.tree.Statement.TheVariants as statement
use Rattle.c_phrases.specs.Units.{block, no_items}
use Rattle.c_phrases.specs.UnitShapes.{statement_of, item_onto, items_of}
use Rattle.c_phrases.proofs.Rows.{items_row_is}
use Rattle.c_typed_addressed.specs.Statements.{Search, in_item, in_items, in_statement, entered, scoped}

pub block_is : (s : Statement) (row : Vec Item) (list : List Item) → s ≡ statement.Block row → list ≡ row.items → statement_of s ≡ block (items_of list)
block_is s row list is same = ap statement_of is ∙ ap block (items_row_is _ (hidden-the_row-Item-0 row) ∙ ap items_of (items_hidden-the_row-Item-0 row ∙ sym same))

-- the first item, and then the others
pub first_then : (i : Item) (rest : List Item) (s : Search) → in_items (items_of (i ∷ rest)) s ≡ in_items (items_of rest) (in_item (item_onto i no_items) s)
first_then (item.Local l) rest s = refl
first_then (item.Statement t) rest s = refl

pub in_block : {T E : Type 0} (r : Result T E) (s : Statement) (row : Vec Item) (list : List Item) (a b : Search) → s ≡ statement.Block row → list ≡ row.items
    → OnOk r (b ≡ scoped (in_items (items_of list) (entered a))) → OnOk r (b ≡ in_statement (statement_of s) a)
in_block (Err e) s row list a b is same found = tt
in_block (Ok u) s row list a b is same found = found ∙ sym (ap (λ x. in_statement x a) (block_is s row list is same))

pub item_step : (is : List Item) (n : ℕ) (i d : Item) (s t : Search) → n < length is → i ≡ get_or is n d → t ≡ in_item (item_onto i no_items) s
    → in_items (items_of (drop (n + 1) is)) t ≡ in_items (items_of (drop n is)) s
item_step is n i d s t lt at found = rw (drop_more is n d lt, ← at, first_then i (drop (n + 1) is) s, found) refl

pub items_end : (is : List Item) (n : ℕ) (s : Search) → length is ≤ n → in_items (items_of (drop n is)) s ≡ s
items_end is n s le = rw (drop_all n is le) refl
