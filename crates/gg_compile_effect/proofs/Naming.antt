-- What the leaves of a tree name is there, in a state in which the tree is done.
use Rattle.std.proofs.Common.{◌≡◌, ℕ, zero, suc, ◌<◌, List, [], ◌∷◌, length, Some, Bool, true, refl, sym, ap, ◌∙◌, subst, arith}
use Rattle.std.specs.Prelude.{IsSome, nat_lt, nat_le, slice_get}
use Rattle.std.specs.List.{list_all, AllPass, AllByRecursion as All}
use Rattle.std.proofs.lemmas.Bool.{leb-true, and_parts, ltb-true}
use Rattle.std.proofs.lemmas.List.Sums.{list_all-from_AllPass}
use Rattle.sel_parse_lines.proofs.Each.{all_take}
use Rattle.tree_core.specs.declared.token.Tok.{Tok}
use Rattle.tree_core.specs.declared.token.Tok.TheVariants as tok
use Rattle.tree_core.specs.declared.token.Sort.TheVariants as sort
use Rattle.tree_core.specs.declared.tree.Att.{Att}
use Rattle.tree_core.specs.declared.tree.Att.TheVariants as att
use Rattle.tree_core.specs.declared.tree.Leaf.{Leaf}
use Rattle.tree_core.specs.declared.program.Object.{Object}
use Rattle.tree_core.specs.declared.program.TreeFn.{TreeFn}
use Rattle.tree_core.specs.declared.program.TreeProgram.{TreeProgram}
use Rattle.tree_core.specs.Attributes.{is_of_kind, attribute_of, leaf_fits}
use Rattle.tree_core.specs.Grammar.{sort_of}
use Rattle.tree_core.specs.Trees.{IsTyped}
use Rattle.tree_core.specs.Valid.{names, leaf_names}
use Rattle.tree_meaning.specs.State.{State as Trees, Extent}
use Rattle.tree_meaning.specs.Values.{Sight}
use Rattle.md_reader.specs.State.{Content}
use Rattle.sel_parse_lines.specs.sel_target.specs.Spelled.{IsSpelled}
use Rattle.sel_parse_lines.specs.sel_target.specs.Values.{address_of}
use Rattle.sel_parse_lines.specs.sel_parse_moves.specs.Claims.{root}
use Rattle.sel_parse_lines.specs.sel_parse_moves.proofs.Covering.{AreLeaves}
use Rattle.sel_parse_lines.specs.sel_parse_moves.proofs.Moves.{leaves_of}
use Rattle.vax_target_places.specs.sel_parse_desk.specs.Selected.{tree_of}
use Rattle.vax_target_places.specs.sel_parse_stands.specs.Stands.{NamedBy, Names}
use Rattle.vax_core.specs.declared.register.Reg.TheVariants.{R0}
use Rattle.vax_machine.specs.State.{State, reg}
use Rattle.vax_target_laws.specs.vax_target_meaning.specs.Vax.{vax}
use Rattle.gg_compile_law.specs.Roles.{Calls, Saves, role_of}
use Rattle.gg_compile_effect.proofs.Trees.{IsLow, Headed, headed, root_is}

-- ---- what holds of each leaf of a root holds of each of its tree's

all_pass : {X : Type 0} (p : X → Bool) (xs : List X) → list_all p xs ≡ true → All (λ (x : X). p x ≡ true) xs
all_pass p [] h = tt
all_pass p (x ∷ xs) h = let k = and_parts (p x) (list_all p xs) h in (k.0, all_pass p xs k.1)

pub of_tree : (P : Leaf → Type 0) (w : List Leaf) → All P w → All P (tree_of w)
of_tree P w h = all_take P _ w h

pub passes : (p : Leaf → Bool) (w : List Leaf) → AllPass p w → All (λ (l : Leaf). p l ≡ true) (tree_of w)
passes p w h = of_tree (λ (l : Leaf). p l ≡ true) w (all_pass p w (list_all-from_AllPass p w h))

-- an object of the program has an address
there : (os : List Object) (n offset : ℕ) → n < length os → IsSome (address_of (slice_get os n) offset)
there [] n offset lt = absurd (omega (arith, lt))
there (o ∷ os) zero offset lt = refl
there (o ∷ os) (suc n) offset lt = there os n offset (omega (arith, lt))

module _ (q : TreeProgram) (d : Content) (g : TreeFn) (f : Extent) (fs : List Extent) (t : Trees) (s : Sight) (m : State)
    (own : f.locals ≡ g.locals) (given : length t.running.arguments ≡ g.args) where
  abbrev Fits : Leaf → Type 0
  Fits l = leaf_fits l ≡ true

  abbrev Named : Leaf → Type 0
  Named l = leaf_names q.functions (length q.objects) g l ≡ true

  abbrev Spelled : Leaf → Type 0
  Spelled l = IsSpelled q l.att

  local_there : (k : ℕ) → nat_lt k g.locals ≡ true → k < f.locals
  local_there k e = let lt = ltb-true k g.locals e in omega (arith, lt, own)

  -- what a leaf names: a result is saved where it is left, and a call takes what is pushed
  named : (x : Tok) (a : Att) → is_of_kind (attribute_of x) a ≡ true → names q.functions (length q.objects) g (attribute_of x) a ≡ true → IsSpelled q a
      → (x ≡ tok.Save → reg m R0 ≡ t.running.result) → ((function count : ℕ) → x ≡ tok.Call → a ≡ att.Callee function count → length t.running.pushed ≡ count)
      → NamedBy vax q d g.locals f fs t s m x a
  named tok.Loc (att.Slot k) fit is spelled saves calls = local_there k is
  named tok.Arg (att.Slot k) fit is spelled saves calls =
      (leb-true 1 k (and_parts (nat_le 1 k) (nat_le k 255) fit).0, (let le = leb-true k g.args is in omega (arith, le, given)))
  named tok.Save (att.Slot k) fit is spelled saves calls = (local_there k is, saves refl)
  named tok.Call (att.Callee function count) fit is spelled saves calls = (is, calls function count refl refl)
  named x (att.Number n) fit is spelled saves calls = spelled
  named x (att.Object object offset) fit is spelled saves calls = there q.objects object offset spelled.0
  named x a fit is spelled saves calls = tt

  statement_save : (x : Tok) → x ≡ tok.Save → sort_of x ≡ Some sort.Stmt
  statement_save x e = ap sort_of e

  statement_call : (x : Tok) → x ≡ tok.Call → sort_of x ≡ Some sort.Stmt
  statement_call x e = ap sort_of e

  -- the leaves behind the first neither save nor call
  low_named : (ws : List Leaf) → All Fits ws → All Named ws → All Spelled ws → All IsLow ws → All (Names vax q d g.locals f fs t s m) ws
  low_named [] a b c e = tt
  low_named (l ∷ ws) a b c e = (
    (named l.tok l.att a.0 b.0 c.0 (λ h. absurd (e.0 (statement_save l.tok h))) (λ function count h k. absurd (e.0 (statement_call l.tok h))), c.0),
    low_named ws a.1 b.1 c.1 e.1,
  )

  saves_of : (l : Leaf) (ws : List Leaf) → l.tok ≡ tok.Save → role_of (l ∷ ws) ≡ Saves
  saves_of l ws e = ap (λ (x : Tok). role_of (record { tok = x; att = l.att } ∷ ws)) e

  calls_of : (l : Leaf) (ws : List Leaf) (function count : ℕ) → l.tok ≡ tok.Call → l.att ≡ att.Callee function count → role_of (l ∷ ws) ≡ Calls function count
  calls_of l ws function count e h = λ i. role_of (record { tok = e i; att = h i } ∷ ws)

  first_named : (l : Leaf) (ws : List Leaf) → All Fits (l ∷ ws) → All Named (l ∷ ws) → All Spelled (l ∷ ws) → All IsLow ws
      → (role_of (l ∷ ws) ≡ Saves → reg m R0 ≡ t.running.result)
      → ((function count : ℕ) → role_of (l ∷ ws) ≡ Calls function count → length t.running.pushed ≡ count) → All (Names vax q d g.locals f fs t s m) (l ∷ ws)
  first_named l ws a b c e saves calls = (
    (named l.tok l.att a.0 b.0 c.0 (λ h. saves (saves_of l ws h)) (λ function count h k. calls function count (calls_of l ws function count h k)), c.0),
    low_named ws a.1 b.1 c.1 e,
  )

  fit_leaves : (ws : List Leaf) → AreLeaves ws → All Fits ws
  fit_leaves [] h = tt
  fit_leaves (l ∷ ws) h = (h.0, fit_leaves ws h.2)

  -- a role is the first leaf's, which stands first in the tree
  same_role : (w : List Leaf) → IsTyped w sort.Stmt → role_of (tree_of w) ≡ role_of w
  same_role w h = by (tree_of w) (headed w h) (root_is w h)
    where
      by : (v : List Leaf) → Headed v → root v ≡ w → role_of v ≡ role_of w
      by v k e = ap role_of k.is ∙ (sym (ap (λ (x : List Leaf). role_of (root x)) k.is) ∙ ap role_of e)

  pub tree_names : (w : List Leaf) → IsTyped w sort.Stmt → AllPass (leaf_names q.functions (length q.objects) g) w → All Spelled w
      → (role_of w ≡ Saves → reg m R0 ≡ t.running.result) → ((function count : ℕ) → role_of w ≡ Calls function count → length t.running.pushed ≡ count)
      → All (Names vax q d g.locals f fs t s m) (tree_of w)
  tree_names w h stand spelled saves calls =
      by (tree_of w) (headed w h) (fit_leaves (tree_of w) (leaves_of (tree_of w) (subst (λ (x : List Leaf). IsTyped x sort.Stmt) (sym (root_is w h)) h)))
      (passes (leaf_names q.functions (length q.objects) g) w stand) (of_tree Spelled w spelled)
      (λ e. saves (sym (same_role w h) ∙ e)) (λ function count e. calls function count (sym (same_role w h) ∙ e))
    where
      by : (v : List Leaf) → Headed v → All Fits v → All Named v → All Spelled v → (role_of v ≡ Saves → reg m R0 ≡ t.running.result)
          → ((function count : ℕ) → role_of v ≡ Calls function count → length t.running.pushed ≡ count) → All (Names vax q d g.locals f fs t s m) v
      by [] k a b c e u = tt
      by (l ∷ ws) k a b c e u = first_named l ws a b c (subst (All IsLow) (sym (behind l ws k)) k.low) e u
        where
          behind : (l : Leaf) (ws : List Leaf) (k : Headed (l ∷ ws)) → ws ≡ k.rest
          behind l ws k = let e : l ∷ ws ≡ k.first ∷ k.rest = k.is in cc
