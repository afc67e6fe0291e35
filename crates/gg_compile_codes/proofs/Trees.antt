-- The selections of a program's trees, one tree at a time.
use Rattle.std.proofs.Common.{◌≡◌, ℕ, suc, ◌+◌, ◌≤◌, max, List, ◌∷◌, length, Some, refl, sym, subst, arith}
use Rattle.std.specs.Prelude.{slice_get}
use Rattle.tree_core.specs.declared.token.Sort.TheVariants as sort
use Rattle.tree_core.specs.declared.tree.Leaf.{Leaf}
use Rattle.tree_core.specs.declared.program.TreeItem.{TreeItem}
use Rattle.tree_core.specs.declared.program.TreeItem.TheVariants as tree_item
use Rattle.tree_core.specs.declared.program.TreeFn.{TreeFn}
use Rattle.tree_core.specs.declared.program.TreeProgram.{TreeProgram}
use Rattle.tree_core.specs.Trees.{IsTyped}
use Rattle.tree_core.specs.Valid.{ItemStands, ItemsStand}
use Rattle.md_reader.specs.State.{Content}
use Rattle.lr_tables.specs.View.{TableView}
use Rattle.lr_tables.specs.Promises.{IsNumbered}
use Rattle.gg_compile_laws.specs.lr_checked.specs.Accepted.{NeverStops}
use Rattle.sel_parse_desk.specs.Selected.{tree_of}
use Rattle.sel_parse_desk.specs.Selected as desk
use Rattle.sel_parse_selected.specs.Selected.{Selected}
use Rattle.sel_parse_selected.proofs.Making.{has_one_code}
use Rattle.gg_compile_laws.specs.sel_parse_effect.specs.Claims.{IsFit}
use Rattle.gg_compile_laws.specs.sel_parse_joined.proofs.Law.{same_code}
use Rattle.vax_core.specs.declared.code.Instr.{Instr}
use Rattle.vax_core.specs.declared.code.CodeItem.{CodeItem}
use Rattle.vax_target_meaning.specs.Vax.{vax}
use Rattle.gg_compile_laws.specs.vax_target_laws.proofs.Law.{vax_is_lawful}
use Rattle.gg_compile_laws.specs.gg_compile_effect.proofs.Trees.{root_is}
use Rattle.gg_compile_laws.specs.gg_compile_effect.proofs.Law.{all_taken}
use Rattle.gg_compile_law.proofs.Validity.{all_at, IsIn}
use Rattle.gg_compile_laws.specs.gg_compile_code.specs.Selecting as computed
use Rattle.gg_compile_laws.specs.gg_compile_keeps.proofs.Leaves.{tree_own}
use Rattle.gg_compile_laws.specs.Ready.{HasReadyTrees}
use Rattle.gg_compile_laws.proofs.Ready.{each_tree_has_code}
use Rattle.gg_compile_codes.specs.Selecting.{AreSelected, nothing, label, tree}

module _ (q : TreeProgram) (ok : HasReadyTrees q) (n : ℕ) (g : TreeFn) (there : slice_get q.functions n ≡ Some g) where
  stands : (k : ℕ) (w : List Leaf) → slice_get g.items k ≡ Some (tree_item.Root w) → ItemStands q.functions (length q.objects) g (tree_item.Root w)
  stands k w at =
      all_at (ItemStands q.functions (length q.objects) g) g.items k (tree_item.Root w)
      (all_at (ItemsStand q.functions (length q.objects)) q.functions n g ok.valid.roots there) at

  -- locals lie among the words that operands name, where the function has a tree
  low : (k : ℕ) (w : List Leaf) → slice_get g.items k ≡ Some (tree_item.Root w) → g.locals ≤ 1024
  low k w at = let room = ok.rooms n k g w there at in omega (arith, room)

  -- ---- a tree

  module _ (d : Content) (fit : IsFit vax d) where
    pub selected : (w : List Leaf) → IsIn (tree_item.Root w) g.items → (instrs : List Instr) (most : ℕ) → desk.Selected vax q d g.locals (tree_of w) instrs most
        → Selected vax q d g.locals (tree_of w) instrs most
    selected w (k, at) instrs most s =
        let t = stands k w at in
        same_code vax vax_is_lawful q d g.locals (tree_of w) instrs most
        (record {
          spelled = ok.names;
          taken = record { valid = fit.valid; taken = all_taken d.classes _ d.rules fit.rules };
          typed = subst (λ (x : List Leaf). IsTyped x sort.Stmt) (sym (root_is w t.0)) t.0;
          own = tree_own q g (low k w at) w t.0 t.1 (ok.longwords n k g w there at);
        })
        s

  -- a tree has one code, and it is computed
  module _ (t : TableView) (fit : IsFit vax t.content) (numbered : IsNumbered t) (never : NeverStops t.content) where
    pub computed_one : (w : List Leaf) → IsIn (tree_item.Root w) g.items → (instrs : List Instr) (most : ℕ) → Selected vax q t.content g.locals (tree_of w) instrs most
        → desk.Selected vax q t.content g.locals (tree_of w) instrs most
    computed_one w (k, at) instrs most s =
        let has = each_tree_has_code q t ok fit numbered never n k g w there at in
        let same = has_one_code vax q t.content g.locals (tree_of w) has.code instrs has.most most (selected t.content fit w (k, at) has.code has.most has.selected) s in
        subst (λ (m : ℕ). desk.Selected vax q t.content g.locals (tree_of w) instrs m) same.1
        (subst (λ (c : List Instr). desk.Selected vax q t.content g.locals (tree_of w) c has.most) same.0 has.selected)

  -- ---- all items

  abbrev Among : List TreeItem → Type 0
  Among is = (w : List Leaf) → IsIn (tree_item.Root w) is → IsIn (tree_item.Root w) g.items

  behind : (i : TreeItem) (is : List TreeItem) → Among (i ∷ is) → Among is
  behind i is sub w (k, at) = sub w (suc k, at)

  module _ (d : Content) (fit : IsFit vax d) where
    items_selected : (used most : ℕ) (is : List TreeItem) (code : List CodeItem) → Among is → computed.AreSelected vax d q g.locals used is code most
        → AreSelected vax d q g.locals used is code most
    items_selected used most is code sub (computed.nothing u) = nothing u
    items_selected used most is code sub (computed.label u m l js rest h) =
        label u m l js rest (items_selected u m js rest (behind (tree_item.Label l) js sub) h)
    items_selected used most is code sub (computed.tree u k m w js instrs rest one h) =
        tree u k m w js instrs rest (selected d fit w (sub w (0, refl)) instrs k one)
        (items_selected (max u k) m js rest (behind (tree_item.Root w) js sub) h)

    pub body_selected : (most : ℕ) (code : List CodeItem) → computed.AreSelected vax d q g.locals g.locals g.items code most
        → AreSelected vax d q g.locals g.locals g.items code most
    body_selected most code h = items_selected g.locals most g.items code (λ w at. at) h

  module _ (t : TableView) (fit : IsFit vax t.content) (numbered : IsNumbered t) (never : NeverStops t.content) where
    items_computed : (used most : ℕ) (is : List TreeItem) (code : List CodeItem) → Among is → AreSelected vax t.content q g.locals used is code most
        → computed.AreSelected vax t.content q g.locals used is code most
    items_computed used most is code sub (nothing u) = computed.nothing u
    items_computed used most is code sub (label u m l js rest h) =
        computed.label u m l js rest (items_computed u m js rest (behind (tree_item.Label l) js sub) h)
    items_computed used most is code sub (tree u k m w js instrs rest one h) =
        computed.tree u k m w js instrs rest (computed_one t fit numbered never w (sub w (0, refl)) instrs k one)
        (items_computed (max u k) m js rest (behind (tree_item.Root w) js sub) h)

    pub body_computed : (most : ℕ) (code : List CodeItem) → AreSelected vax t.content q g.locals g.locals g.items code most
        → computed.AreSelected vax t.content q g.locals g.locals g.items code most
    body_computed most code h = items_computed g.locals most g.items code (λ w at. at) h
