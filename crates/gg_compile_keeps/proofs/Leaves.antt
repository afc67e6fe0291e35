-- What a valid program says of the leaves of its trees.
use Rattle.std.proofs.Common.{◌≡◌, ℕ, ◌<◌, ◌≤◌, List, [], ◌∷◌, length, Some, true, refl, sym, ap, ◌∙◌, subst, arith}
use Rattle.std.specs.Prelude.{nat_lt, nat_le}
use Rattle.std.specs.List.{AllPass, AllByRecursion as All}
use Rattle.std.proofs.lemmas.Bool.{leb-true, and_parts, ltb-true}
use Rattle.tree_core.specs.declared.token.Tok.{Tok}
use Rattle.tree_core.specs.declared.token.Tok.TheVariants as tok
use Rattle.tree_core.specs.declared.token.Sort.TheVariants as sort
use Rattle.tree_core.specs.declared.tree.Att.{Att}
use Rattle.tree_core.specs.declared.tree.Att.TheVariants as att
use Rattle.tree_core.specs.declared.tree.Leaf.{Leaf}
use Rattle.tree_core.specs.declared.program.TreeFn.{TreeFn}
use Rattle.tree_core.specs.declared.program.TreeProgram.{TreeProgram}
use Rattle.tree_core.specs.Attributes.{is_of_kind, attribute_of, leaf_fits}
use Rattle.tree_core.specs.Grammar.{sort_of}
use Rattle.tree_core.specs.Trees.{IsTyped}
use Rattle.tree_core.specs.Valid.{names, leaf_names}
use Rattle.tree_core.specs.Names.{label_name}
use Rattle.sel_parse_joined.specs.sel_target.specs.Instances.{InFrame}
use Rattle.sel_parse_joined.specs.sel_target.specs.Spelled.{IsSpelled}
use Rattle.gg_compile_effect.specs.sel_parse_moves.specs.Claims.{root}
use Rattle.gg_compile_effect.specs.sel_parse_moves.proofs.Covering.{AreLeaves}
use Rattle.gg_compile_effect.specs.sel_parse_moves.proofs.Moves.{leaves_of}
use Rattle.sel_parse_joined.specs.sel_parse_desk.specs.Selected.{tree_of}
use Rattle.sel_parse_joined.specs.sel_parse_slots.specs.Claims.{IsOwn}
use Rattle.vax_core.specs.declared.code.CodeItem.{CodeItem}
use Rattle.vax_machine.specs.Labels.{has_label}
use Rattle.gg_compile_names.specs.vax_templates.specs.FilledLines.{label_of_att}
use Rattle.gg_compile_effect.specs.gg_compile_law.specs.Roles.{target_by, target_of}
use Rattle.gg_compile_effect.proofs.Trees.{IsLow, Headed, headed}
pub use Rattle.gg_compile_effect.proofs.Trees.{root_is}
use Rattle.gg_compile_effect.proofs.Naming.{of_tree, passes}
use Rattle.gg_compile_names.specs.Claims.{GoesInside}

abbrev pub Fits : Leaf → Type 0
Fits l = leaf_fits l ≡ true

fit_leaves : (ws : List Leaf) → AreLeaves ws → All Fits ws
fit_leaves [] h = tt
fit_leaves (l ∷ ws) h = (h.0, fit_leaves ws h.2)

pub tree_fits : (w : List Leaf) → IsTyped w sort.Stmt → All Fits (tree_of w)
tree_fits w h = fit_leaves (tree_of w) (leaves_of (tree_of w) (subst (λ (x : List Leaf). IsTyped x sort.Stmt) (sym (root_is w h)) h))

-- ---- locals and arguments

module _ (q : TreeProgram) (g : TreeFn) (few : g.locals ≤ 1024) where
  local_low : (k : ℕ) → nat_lt k g.locals ≡ true → k < 1024
  local_low k e = let lt = ltb-true k g.locals e in omega (arith, lt, few)

  argument_low : (k : ℕ) → is_of_kind (attribute_of tok.Arg) (att.Slot k) ≡ true → k < 1024
  argument_low k e = let le = leb-true k 255 (and_parts (nat_le 1 k) (nat_le k 255) e).1 in omega (arith, le)

  slot_low : (x : Tok) (k : ℕ) → is_of_kind (attribute_of x) (att.Slot k) ≡ true → names q.functions (length q.objects) g (attribute_of x) (att.Slot k) ≡ true → k < 1024
  slot_low tok.Loc k fit is = local_low k is
  slot_low tok.Save k fit is = local_low k is
  slot_low tok.Arg k fit is = argument_low k fit
  slot_low x k fit is = absurd (cc)

  in_frame : (x : Tok) (a : Att) → is_of_kind (attribute_of x) a ≡ true → names q.functions (length q.objects) g (attribute_of x) a ≡ true → InFrame a
  in_frame x att.Nothing fit is = tt
  in_frame x (att.Number n) fit is = tt
  in_frame x (att.Object object offset) fit is = tt
  in_frame x (att.Slot k) fit is = slot_low x k fit is
  in_frame x (att.Branch rel label) fit is = tt
  in_frame x (att.Label label) fit is = tt
  in_frame x (att.Callee function count) fit is = tt

  own_low : (x : Tok) (a : Att) → names q.functions (length q.objects) g (attribute_of x) a ≡ true → (k : ℕ) → x ≡ tok.Loc → a ≡ att.Slot k → k < g.locals
  own_low x a is k e f = ltb-true k g.locals (sym (λ i. names q.functions (length q.objects) g (attribute_of (e i)) (f i)) ∙ is)

  all_own : (ws : List Leaf) → All Fits ws → All (λ (l : Leaf). leaf_names q.functions (length q.objects) g l ≡ true) ws → All (λ (l : Leaf). IsSpelled q l.att) ws
      → All (λ (l : Leaf). IsOwn q g.locals l.tok l.att) ws
  all_own [] a b c = tt
  all_own (l ∷ ws) a b c = (
    record { in_frame = in_frame l.tok l.att a.0 b.0; own_local = own_low l.tok l.att b.0; spelled = c.0 },
    all_own ws a.1 b.1 c.1,
  )

  pub tree_own : (w : List Leaf) → IsTyped w sort.Stmt → AllPass (leaf_names q.functions (length q.objects) g) w → All (λ (l : Leaf). IsSpelled q l.att) w
      → All (λ (l : Leaf). IsOwn q g.locals l.tok l.att) (tree_of w)
  tree_own w h is spelled = all_own (tree_of w) (tree_fits w h) (passes (leaf_names q.functions (length q.objects) g) w is) (of_tree (λ (l : Leaf). IsSpelled q l.att) w spelled)

-- ---- labels

-- a leaf that goes to a label is a statement's, and its label is that of its root
branch_or_jump : (x : Tok) (a : Att) (n : ℕ) → is_of_kind (attribute_of x) a ≡ true → label_of_att a ≡ Some n → (sort_of x ≡ Some sort.Stmt) × (target_by x a ≡ Some n)
branch_or_jump tok.Cbr (att.Branch rel label) n fit e = (refl, e)
branch_or_jump tok.Jump (att.Label label) n fit e = (refl, e)
branch_or_jump x (att.Branch rel label) n fit e = absurd (cc)
branch_or_jump x (att.Label label) n fit e = absurd (cc)
branch_or_jump x a n fit e = absurd (cc)

module _ (code : List CodeItem) where
  low_inside : (ws : List Leaf) → All Fits ws → All IsLow ws → All (GoesInside code) ws
  low_inside [] a b = tt
  low_inside (l ∷ ws) a b = ((λ n e. absurd (b.0 (branch_or_jump l.tok l.att n a.0 e).0)), low_inside ws a.1 b.1)

  headed_inside : (v : List Leaf) → Headed v → All Fits v → ((n : ℕ) → target_of v ≡ Some n → has_label code (label_name n) ≡ true) → All (GoesInside code) v
  headed_inside v h a t =
      subst (All (GoesInside code)) (sym h.is) (first h.first h.rest h.low (subst (All Fits) h.is a) (λ n e. t n (ap target_of h.is ∙ e)))
    where
      first : (l : Leaf) (ws : List Leaf) → All IsLow ws → All Fits (l ∷ ws) → ((n : ℕ) → target_of (l ∷ ws) ≡ Some n → has_label code (label_name n) ≡ true)
          → All (GoesInside code) (l ∷ ws)
      first l ws low fit go = ((λ n e. go n (branch_or_jump l.tok l.att n fit.0 e).1), low_inside ws fit.1 low)

  -- a root's target is its first leaf's, which stands first in the tree
  same_target : (w v : List Leaf) → Headed v → root v ≡ w → target_of v ≡ target_of w
  same_target w v k e = ap target_of k.is ∙ (sym (ap (λ (x : List Leaf). target_of (root x)) k.is) ∙ ap target_of e)

  pub tree_inside : (w : List Leaf) → IsTyped w sort.Stmt → ((n : ℕ) → target_of w ≡ Some n → has_label code (label_name n) ≡ true) → All (GoesInside code) (tree_of w)
  tree_inside w h t =
      let k = headed w h in
      headed_inside (tree_of w) k (tree_fits w h) (λ n e. t n (sym (same_target w (tree_of w) k (root_is w h)) ∙ e))
