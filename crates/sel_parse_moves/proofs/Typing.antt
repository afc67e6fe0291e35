-- Covered trees are well typed, and the class of statements is one of kind Nothing.
use Rattle.std.proofs.Common.{◌≡◌, ℕ, suc, ◌+◌, List, [], ◌∷◌, Option, Some, None, Bool, true, false, cond, refl, sym, ap, ◌∙◌, subst, arith}
use Rattle.std.specs.Prelude.{◌&&◌, ◌||◌, codes}
use Rattle.std.specs.List.{list_any}
use Rattle.std.proofs.lemmas.Bool.{and_from, and_parts}
use Rattle.md_reader_text.specs.Words.{same}
use Rattle.tree_core.specs.declared.token.Tok.{Tok}
use Rattle.tree_core.specs.declared.token.Tok.TheVariants as tok
use Rattle.tree_core.specs.declared.token.Sort.{Sort}
use Rattle.tree_core.specs.declared.token.Sort.TheVariants as sort
use Rattle.tree_core.specs.declared.tree.Leaf.{Leaf}
use Rattle.tree_core.specs.Grammar.{kids, sort_of, fits}
use Rattle.tree_core.specs.Attributes.{leaf_fits}
use Rattle.tree_core.specs.Trees.{Forest, none, tree, leaves_onto, Typed, stands_for, sort_fits}
use Rattle.md_reader.specs.declared.types.Kind.{Kind}
use Rattle.md_reader.specs.declared.types.Kind.TheVariants as kind
use Rattle.md_reader.specs.declared.types.Class.{Class}
use Rattle.md_reader.specs.declared.types.Rule.{Rule}
use Rattle.md_reader.specs.declared.types.Sym.TheVariants as grammar_symbol
use Rattle.md_reader.specs.Patterns.{sort_of_symbol, kind_at, sorted_test}
use Rattle.md_reader.specs.Restrictions.{is_nothing}
use Rattle.md_reader.specs.HeadSteps.{is_stmt, has_stmt}
use Rattle.md_reader.specs.Valid.{Away, Apart}
use Rattle.md_reader.proofs.Inversion.{same_true}
use Rattle.lr_check_parse.specs.lr_tables.specs.Statements.{stmt_from, stmt_of}
use Rattle.lr_check_parse.specs.Moves.{Move}
use Rattle.sel_parse_moves.specs.Covers.{Covers, Fills}
use Rattle.sel_parse_moves.specs.Covers as cover

as_byte : (z : Sort) → fits z sort.PlaceB ≡ true → fits z sort.Byte ≡ true
as_byte sort.PlaceB e = refl
as_byte _ e = absurd (cc)

as_word : (z : Sort) → fits z sort.PlaceW ≡ true → fits z sort.Word ≡ true
as_word sort.PlaceW e = refl
as_word _ e = absurd (cc)

as_long : (z : Sort) → fits z sort.PlaceL ≡ true → fits z sort.Long ≡ true
as_long sort.PlaceL e = refl
as_long _ e = absurd (cc)

fits_on : (z y x : Sort) → fits z y ≡ true → fits y x ≡ true → fits z x ≡ true
fits_on z sort.Stmt sort.Stmt e f = e
fits_on z sort.Long sort.Long e f = e
fits_on z sort.Byte sort.Byte e f = e
fits_on z sort.Word sort.Word e f = e
fits_on z sort.PlaceB sort.Byte e f = as_byte z e
fits_on z sort.PlaceB sort.PlaceB e f = e
fits_on z sort.PlaceW sort.Word e f = as_word z e
fits_on z sort.PlaceW sort.PlaceW e f = e
fits_on z sort.PlaceL sort.Long e f = as_long z e
fits_on z sort.PlaceL sort.PlaceL e f = e
fits_on z _ _ e f = absurd (cc)

some_fits : (o : Option Sort) (y x : Sort) → sort_fits o y ≡ true → fits y x ≡ true → sort_fits o x ≡ true
some_fits None y x e f = absurd (cc)
some_fits (Some z) y x e f = fits_on z y x e f

stands_on : (l : Leaf) (y x : Sort) → stands_for l y ≡ true → fits y x ≡ true → stands_for l x ≡ true
stands_on l y x e f = let h = and_parts (sort_fits (sort_of l.tok) y) (leaf_fits l) e in and_from (sort_fits (sort_of l.tok) x) (leaf_fits l) (some_fits (sort_of l.tok) y x h.0 f) h.1

class_fits : (o : Option Sort) (y x : Sort) → o ≡ Some y → sort_fits o x ≡ true → fits y x ≡ true
class_fits o y x e f = subst (λ (t : Option Sort). sort_fits t x ≡ true) e f

module _ (classes : List Class) (rules : List Rule) where
  -- a covered tree stands where the class does
  pub record Stands (c : ℕ) (l : Leaf) (f : Forest) : Type 0 where
    pub sort : Sort
    pub of_class : sort_of_symbol classes (grammar_symbol.Class c) ≡ Some sort
    pub stands : stands_for l sort ≡ true
    pub below : Typed (kids l.tok) f

  mutual
    pub covers_typed : {c : ℕ} {l : Leaf} {f : Forest} {ms : List (Move Leaf)} → Covers classes rules c l f ms → Stands c l f
    covers_typed (cover.by_rule {x = x} n r pattern there sorted spelled fills) = (let h = fills_typed fills in record { sort = x; of_class = sorted; stands = h.0; below = h.1 })

    pub fills_typed : {xs : List Sort} {pattern : Rattle.md_reader.specs.Patterns.Trees (sorted_test classes) xs} {f : Forest} {ms : List (Move Leaf)} → Fills classes rules xs pattern f ms
        → Typed xs f
    fills_typed cover.nothing = tt
    fills_typed (cover.token {x = x} l passes below beside fit p q) =
        (and_from (sort_fits (sort_of l.tok) x) (leaf_fits l) passes fit, fills_typed p, fills_typed q)
    fills_typed (cover.class {x = x} {l = l} c passes below beside p q) =
        (let h = covers_typed p in (stands_on l h.sort x h.stands (class_fits (sort_of_symbol classes (grammar_symbol.Class c)) h.sort x h.of_class passes), h.below, fills_typed q))

-- leaves of typed trees
pub typed_leaves : (xs : List Sort) (f : Forest) (w : List Leaf) → Typed xs f → Rattle.sel_parse_moves.proofs.Covering.AreLeaves w
    → Rattle.sel_parse_moves.proofs.Covering.AreLeaves (leaves_onto f w)
typed_leaves [] none w h k = k
typed_leaves [] (tree l below behind) w h k = absurd h
typed_leaves (x ∷ xs) none w h k = absurd h
typed_leaves (x ∷ xs) (tree l below behind) w h k =
    let s = and_parts (sort_fits (sort_of l.tok) x) (leaf_fits l) h.0 in
    (s.1, no_end l.tok x s.0, typed_leaves (kids l.tok) below (leaves_onto behind w) h.1 (typed_leaves xs behind w h.2 k))
  where
    no_end : (t : Tok) (x : Sort) → sort_fits (sort_of t) x ≡ true → t ≡ tok.End → ⊥
    no_end t x e f = (let h = subst (λ (u : Tok). sort_fits (sort_of u) x ≡ true) f e in cc)

-- no class of another name is named so
named_away : (cs : List Class) (w : List ℕ) → Away w cs → list_any is_stmt cs ≡ true → w ≡ codes "stmt" → ⊥
named_away [] w h e f = cc
named_away (c ∷ cs) w h e f = by (same c.name (codes "stmt")) (is_nothing (Some c.kind)) refl e (λ k. named_away cs w h.1 k f)
  where
    by : (b d : Bool) → same c.name (codes "stmt") ≡ b → ((b && d) || list_any is_stmt cs) ≡ true → (list_any is_stmt cs ≡ true → ⊥) → ⊥
    by true d g k go = h.0 (same_true c.name (codes "stmt") g ∙ sym f)
    by false d g k go = go k

-- `stmt` is of kind Nothing
stmt_nothing : (n : ℕ) (cs : List Class) → Apart cs → list_any is_stmt cs ≡ true → (k : ℕ) × (stmt_from n cs ≡ n + k) × (kind_at cs k ≡ Some kind.Nothing)
stmt_nothing n [] h e = cc
stmt_nothing n (c ∷ cs) h e = by (same c.name (codes "stmt")) refl e (λ g. stmt_nothing (n + 1) cs h.1 g)
  where
    is : (k : Kind) → is_nothing (Some k) ≡ true → k ≡ kind.Nothing
    is kind.Nothing e = refl
    is kind.Reg e = cc
    is (kind.Value z) e = cc
    is (kind.Place z) e = cc
    is kind.Con e = cc
    is kind.Ea e = cc

    here : (d : Bool) → is_nothing (Some c.kind) ≡ d → same c.name (codes "stmt") ≡ true → (d || list_any is_stmt cs) ≡ true → kind_at (c ∷ cs) 0 ≡ Some kind.Nothing
    here true f g e = ap (λ (k : Kind). Some k) (is c.kind f)
    here false f g e = absurd (named_away cs c.name h.0 e (same_true c.name (codes "stmt") g))

    by : (b : Bool) → same c.name (codes "stmt") ≡ b → ((b && is_nothing (Some c.kind)) || list_any is_stmt cs) ≡ true
        → (list_any is_stmt cs ≡ true → (k : ℕ) × (stmt_from (n + 1) cs ≡ n + 1 + k) × (kind_at cs k ≡ Some kind.Nothing))
        → (k : ℕ) × (cond b n (stmt_from (n + 1) cs) ≡ n + k) × (kind_at (c ∷ cs) k ≡ Some kind.Nothing)
    by true f e go = (0, omega arith, here (is_nothing (Some c.kind)) refl f e)
    by false f e go = (let r = go e in (suc r.0, (let q = r.1 in omega (arith, q)), r.2))

pub stmt_kind : (cs : List Class) → Apart cs → has_stmt cs ≡ true → kind_at cs (stmt_of cs) ≡ Some kind.Nothing
stmt_kind cs h e = let r = stmt_nothing 0 cs h e in let q : r.0 ≡ stmt_of cs = (let f = r.1 in omega (arith, f)) in subst (λ (n : ℕ). kind_at cs n ≡ Some kind.Nothing) q r.2
