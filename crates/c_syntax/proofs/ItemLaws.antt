-- What stands in a block, one more at the end.
use Rattle.std.proofs.Common.{◌≡◌, ◌<◌, ◌≤◌, ℕ, ◌+◌, List, [], ◌∷◌, ◌++◌, length, refl, sym, ◌∙◌, ap, subst, arith, inl}
use Rattle.std.specs.declared.vec.Vec.{Vec}
use Rattle.std.specs.declared.alloc.Global.{Global}
use Rattle.c_syntax_goals.proofs.PhraseLaws.{limit_low}
use Rattle.c_tokens.specs.declared.words.Key.TheVariants as keys
use Rattle.c_tokens.specs.declared.marks.Mark.TheVariants as marks
use Rattle.c_phrases.specs.declared.operator.Spec.{Spec}
use Rattle.c_phrases.specs.declared.operator.Spec.TheVariants as specs
use Rattle.c_phrases.specs.declared.operator.Storage.{Storage}
use Rattle.c_phrases.specs.declared.operator.Storage.TheVariants as storages
use Rattle.c_phrases.specs.declared.tree.Item.{Item}
use Rattle.c_phrases.specs.declared.tree.Item.TheVariants.{Local, Statement}
use Rattle.c_phrases.specs.declared.tree.Item.TheBlock.{hidden-the_row-Item-0, items_hidden-the_row-Item-0}
use Rattle.c_phrases.specs.declared.tree.Statement.TheVariants.{Block}
use Rattle.c_phrases.specs.Classes.{Placed, word, sign}
use Rattle.c_phrases.specs.Spelling.{onto_spec}
use Rattle.c_phrases.specs.Levels.{limit}
use Rattle.c_phrases.specs.Units.{AStatement, block, empty, expression, break_off, continue_on, give_back, if_then}
use Rattle.c_phrases.specs.Units.{if_else, while_loop, do_loop, for_loop, SomeItems, no_items, local_item}
use Rattle.c_phrases.specs.Units.{statement_item, ADeclarator, ALocal}
use Rattle.c_phrases.specs.UnitSpelling.{onto_part, onto_condition, onto_statement, onto_items, onto_local}
use Rattle.c_phrases.specs.UnitSpelling.{onto_storage, onto_declarators, onto_more_declarators}
use Rattle.c_phrases.specs.Fits.{ItemsFit}
use Rattle.c_phrases.specs.UnitLevels.{LowItems}
use Rattle.c_phrases.specs.UnitShapes.{local_of, statement_of, item_onto, items_of}
use Rattle.c_phrases.proofs.Rows.{items_row_is}
use Rattle.c_syntax.specs.Stands.{ReadsItems, ReadsStatement}
use Rattle.c_syntax.proofs.ExpressionLaws.{longer_exp, longer_int}
use Rattle.c_syntax.proofs.ListLaws.{longer_declarator, longer_part}

pub block_is : (body : Vec Item Global) → statement_of (Block body) ≡ block (items_of body.items)
block_is body = ap block (items_row_is _ (hidden-the_row-Item-0 body) ∙ ap items_of (items_hidden-the_row-Item-0 body))

pub block_read : (n m : ℕ) (ts inner rest : List Placed) (body : Vec Item Global) → ts ≡ sign marks.OpenBrace 0 ∷ inner → (m ≡ n + 1) × (n + 1 ≤ 200)
    → ReadsItems m inner (items_of body.items) (sign marks.CloseBrace 0 ∷ rest) → ReadsStatement n ts (statement_of (Block body)) rest
block_read n m ts inner rest body e up r = subst (λ (s : AStatement). ReadsStatement n ts s rest) (sym (block_is body)) (record {
  text = e ∙ ap (λ (l : List Placed). sign marks.OpenBrace 0 ∷ l) r.text;
  fits = r.fits;
  low = (limit_low (n + 1) up.1, subst (LowItems limit (items_of body.items)) up.0 r.low);
  stands = inl tt;
})

-- one list behind another
abbrev pub items_join : SomeItems → SomeItems → SomeItems
items_join no_items b = b
items_join (local_item l is) b = local_item l (items_join is b)
items_join (statement_item s is) b = statement_item s (items_join is b)

onto_join : (a b : SomeItems) (w : List Placed) → onto_items (items_join a b) w ≡ onto_items a (onto_items b w)
onto_join no_items b w = refl
onto_join (local_item l is) b w = ap (onto_local l) (onto_join is b w)
onto_join (statement_item s is) b w = ap (onto_statement s) (onto_join is b w)

fits_join : (a b : SomeItems) → ItemsFit a → ItemsFit b → ItemsFit (items_join a b)
fits_join no_items b h i = i
fits_join (local_item l is) b h i = (h.0, fits_join is b h.1 i)
fits_join (statement_item s is) b h i = (h.0, fits_join is b h.1 i)

low_join : (a b : SomeItems) (n : ℕ) → LowItems limit a n → LowItems limit b n → LowItems limit (items_join a b) n
low_join no_items b n h i = i
low_join (local_item l is) b n h i = (h.0, low_join is b n h.1 i)
low_join (statement_item s is) b n h i = (h.0, low_join is b n h.1 i)

item_join : (i : Item) (a b : SomeItems) → items_join (item_onto i a) b ≡ item_onto i (items_join a b)
item_join (Local l) a b = refl
item_join (Statement s) a b = refl

pub items_push : (is : List Item) (i : Item) → items_of (is ++ i ∷ []) ≡ items_join (items_of is) (item_onto i no_items)
items_push [] i = refl
items_push (x ∷ xs) i = ap (item_onto x) (items_push xs i) ∙ sym (item_join x (items_of xs) (item_onto i no_items))

pub items_more : (n : ℕ) (ts rest behind : List Placed) (a b : SomeItems) → ReadsItems n ts a rest → ReadsItems n rest b behind → ReadsItems n ts (items_join a b) behind
items_more n ts rest behind a b r s = record {
  text = r.text ∙ (ap (onto_items a) s.text ∙ sym (onto_join a b behind));
  fits = fits_join a b r.fits s.fits;
  low = low_join a b n r.low s.low;
}

-- an item has a token

pub longer_spec : (s : Spec) (w : List Placed) → length w < length (onto_spec s w)
longer_spec (specs.Int at) w = omega arith
longer_spec (specs.Char at) w = omega arith
longer_spec (specs.Short at i) w = omega (arith, longer_int i w)
longer_spec (specs.UnsignedChar at b) w = omega arith
longer_spec (specs.UnsignedShort at b i) w = omega (arith, longer_int i w)
longer_spec (specs.Void at) w = omega arith

longer_more : (ds : List ADeclarator) (w : List Placed) → length w ≤ length (onto_more_declarators ds w)
longer_more [] w = omega arith
longer_more (d ∷ ds) w = omega (arith, longer_declarator d (onto_more_declarators ds w), longer_more ds w)

pub longer_declarators : (ds : List ADeclarator) (w : List Placed) → length w ≤ length (onto_declarators ds w)
longer_declarators [] w = omega arith
longer_declarators (d ∷ ds) w = omega (arith, longer_declarator d (onto_more_declarators ds w), longer_more ds w)

pub longer_storage : (s : Storage) (w : List Placed) → length w ≤ length (onto_storage s w)
longer_storage storages.Automatic w = omega arith
longer_storage (storages.Static at) w = omega arith
longer_storage (storages.Register at) w = omega arith

longer_local : (l : ALocal) (w : List Placed) → length w < length (onto_local l w)
longer_local l w = omega (
  arith,
  longer_storage l.storage (onto_spec l.spec (onto_declarators l.declarators (sign marks.Semicolon 0 ∷ w))),
  longer_spec l.spec (onto_declarators l.declarators (sign marks.Semicolon 0 ∷ w)),
  longer_declarators l.declarators (sign marks.Semicolon 0 ∷ w),
)

mutual
  longer_statement : (s : AStatement) (w : List Placed) → length w < length (onto_statement s w)
  longer_statement (block is) w = omega (arith, longer_items is (sign marks.CloseBrace 0 ∷ w))
  longer_statement empty w = omega arith
  longer_statement (expression e) w = omega (arith, longer_exp e (sign marks.Semicolon 0 ∷ w))
  longer_statement (break_off at) w = omega arith
  longer_statement (continue_on at) w = omega arith
  longer_statement (give_back at e) w = omega (arith, longer_part e (sign marks.Semicolon 0 ∷ w))
  longer_statement (if_then at o e s) w = omega (arith, longer_exp e (sign marks.CloseParenthesis 0 ∷ onto_statement s w), longer_statement s w)
  longer_statement (if_else at o e s other t) w = omega (
    arith,
    longer_exp e (sign marks.CloseParenthesis 0 ∷ onto_statement s (word keys.Else other ∷ onto_statement t w)),
    longer_statement s (word keys.Else other ∷ onto_statement t w),
    longer_statement t w,
  )
  longer_statement (while_loop at o e s) w = omega (arith, longer_exp e (sign marks.CloseParenthesis 0 ∷ onto_statement s w), longer_statement s w)
  longer_statement (do_loop at s again o e) w = omega (
    arith,
    longer_statement s (word keys.While again ∷ onto_condition o e (sign marks.Semicolon 0 ∷ w)),
    longer_exp e (sign marks.CloseParenthesis 0 ∷ sign marks.Semicolon 0 ∷ w),
  )
  longer_statement (for_loop at o a b c s) w = omega (
    arith,
    longer_part a
        (sign marks.Semicolon 0 ∷ onto_part b (sign marks.Semicolon 0 ∷ onto_part c (sign marks.CloseParenthesis 0 ∷ onto_statement s w))),
    longer_part b (sign marks.Semicolon 0 ∷ onto_part c (sign marks.CloseParenthesis 0 ∷ onto_statement s w)),
    longer_part c (sign marks.CloseParenthesis 0 ∷ onto_statement s w),
    longer_statement s w,
  )

  pub longer_items : (is : SomeItems) (w : List Placed) → length w ≤ length (onto_items is w)
  longer_items no_items w = omega arith
  longer_items (local_item l is) w = omega (arith, longer_local l (onto_items is w), longer_items is w)
  longer_items (statement_item s is) w = omega (arith, longer_statement s (onto_items is w), longer_items is w)

longer_item : (i : Item) (w : List Placed) → length w < length (onto_items (item_onto i no_items) w)
longer_item (Local l) w = longer_local (local_of l) w
longer_item (Statement s) w = longer_statement (statement_of s) w

pub items_shorter : (n : ℕ) (rest behind : List Placed) (i : Item) → ReadsItems n rest (item_onto i no_items) behind → length behind < length rest
items_shorter n rest behind i r = omega (arith, ap length r.text, longer_item i behind)
