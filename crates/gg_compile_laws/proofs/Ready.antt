-- The trees of a program that is ready are ready for selection.
use Rattle.std.proofs.Common.{◌≡◌, ℕ, zero, suc, ◌+◌, ◌≤◌, List, [], ◌∷◌, length, Some, sym, subst, arith}
use Rattle.std.specs.Prelude.{take, slice_get}
use Rattle.tree_core.specs.declared.token.Sort.TheVariants as sort
use Rattle.tree_core.specs.declared.tree.Leaf.{Leaf}
use Rattle.tree_core.specs.declared.program.TreeItem.TheVariants as tree_item
use Rattle.tree_core.specs.declared.program.TreeFn.{TreeFn}
use Rattle.tree_core.specs.declared.program.TreeProgram.{TreeProgram}
use Rattle.tree_core.specs.Trees.{IsTyped}
use Rattle.tree_core.specs.Valid.{ItemStands, ItemsStand}
use Rattle.tree_core_forks.specs.Forks.{forks}
use Rattle.md_reader.specs.State.{Content}
use Rattle.sel_parse_written.specs.lr_tables.specs.View.{TableView}
use Rattle.sel_parse_written.specs.lr_tables.specs.Promises.{IsNumbered}
use Rattle.sel_parse_written.specs.lr_checked.specs.Accepted.{NeverStops}
use Rattle.sel_parse_written.specs.sel_parse_desk.specs.Selected.{tree_of, FrameFull, Blocked}
use Rattle.sel_parse_written.specs.sel_parse_effect.specs.Claims.{IsFit}
use Rattle.sel_parse_written.specs.sel_parse_law.specs.Claims.{IsReady, HasCode}
use Rattle.sel_parse_written.specs.sel_parse_law.proofs.Law.{has_room, never_blocks, trees_have_code}
use Rattle.gg_compile_keeps.specs.vax_target_meaning.specs.Vax.{vax}
use Rattle.gg_compile_keeps.specs.vax_target_laws.proofs.Law.{vax_is_lawful}
use Rattle.gg_compile_counts.specs.gg_compile_law.proofs.Validity.{all_at}
use Rattle.gg_compile_keeps.proofs.Leaves.{root_is, tree_own}
use Rattle.gg_compile_laws.specs.Ready.{HasReadyTrees, EachTreeHasCode}

-- a tree has no more forks than its root
forks_before : (n : ℕ) (w : List Leaf) → forks (take n w) ≤ forks w
forks_before zero w = omega arith
forks_before (suc n) [] = omega arith
forks_before (suc n) (l ∷ w) = let le = forks_before n w in omega (arith, le)

-- a tree of a function of the program
module _ (q : TreeProgram) (ok : HasReadyTrees q) (f n : ℕ) (g : TreeFn) (w : List Leaf) (there : slice_get q.functions f ≡ Some g) (at : slice_get g.items n ≡ Some (tree_item.Root w)) where
  stands : ItemStands q.functions (length q.objects) g (tree_item.Root w)
  stands = all_at (ItemStands q.functions (length q.objects) g) g.items n (tree_item.Root w) (all_at (ItemsStand q.functions (length q.objects)) q.functions f g ok.valid.roots there) at

  low : g.locals ≤ 1024
  low = let room = ok.rooms f n g w there at in omega (arith, room)

  room : g.locals + (forks (tree_of w) + 1) ≤ 1024
  room =
      let whole = ok.rooms f n g w there at in
      let less : forks (tree_of w) ≤ forks w = forks_before _ w in
      omega (arith, whole, less)

  module _ (d : Content) (fit : IsFit vax d) where
    ready : IsReady vax q d g.locals (tree_of w)
    ready = record {
      spelled = ok.names;
      fit = fit;
      typed = subst (λ (x : List Leaf). IsTyped x sort.Stmt) (sym (root_is w stands.0)) stands.0;
      own = tree_own q g low w stands.0 stands.1 (ok.longwords f n g w there at);
    }

    pub not_full : FrameFull vax q d g.locals (tree_of w) → ⊥
    not_full = has_room vax vax_is_lawful q d g.locals (tree_of w) ready room

    pub not_blocked : NeverStops d → Blocked vax q d g.locals (tree_of w) → ⊥
    not_blocked never = never_blocks vax vax_is_lawful q d g.locals (tree_of w) ready never

  pub has_code : (t : TableView) → IsFit vax t.content → IsNumbered t → NeverStops t.content → HasCode vax q t.content g.locals (tree_of w)
  has_code t fit numbered never = trees_have_code vax vax_is_lawful q t g.locals (tree_of w) (ready t.content fit) numbered never room

pub each_tree_has_code : EachTreeHasCode
each_tree_has_code q t ok fit numbered never f n g w there at = has_code q ok f n g w there at t fit numbered never
