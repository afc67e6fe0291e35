-- What the code of a program's trees asks stays where its functions want other locals.
use Rattle.std.proofs.Common.{◌≡◌, ℕ, ◌≤◌, ◌<◌, true, List, length, Some, sym, ap, subst, ◌∙◌, [], ◌∷◌, arith}
use Rattle.std.specs.Prelude.{slice_get}
use Rattle.std.specs.List.{All, AllByRecursion}
use Rattle.std.proofs.lemmas.List.Elements.{All-weaker, recursion_from_All}
use Rattle.gg_base.specs.declared.limits.TheConstants.{NEED_LIMIT}
use Rattle.tree_core.specs.declared.tree.Att.{Att}
use Rattle.tree_core.specs.declared.tree.Att.TheVariants as att
use Rattle.tree_core.specs.declared.tree.Leaf.{Leaf}
use Rattle.tree_core.specs.declared.program.Object.{Object}
use Rattle.tree_core.specs.declared.program.TreeItem.{TreeItem}
use Rattle.tree_core.specs.declared.program.TreeItem.TheVariants as tree_item
use Rattle.tree_core.specs.declared.program.TreeFn.{TreeFn}
use Rattle.tree_core.specs.declared.program.TreeProgram.{TreeProgram}
use Rattle.tree_core.specs.Calm.{Calm}
use Rattle.tree_core.specs.Names.{function_label}
use Rattle.tree_homes.specs.Rehoming.{IsRehomed, anything}
use Rattle.tree_homes.proofs.Pairs.{over, first_at, each_moved}
use Rattle.tree_homes.proofs.Validity.{rehomed_is_valid}
use Rattle.vax_core.specs.Valid.{is_name}
use Rattle.gg_compile_laws.specs.gg_compile_effect.specs.gg_compile_law.specs.vax_machine_lists.specs.Sound.{AllBelow}
use Rattle.gg_compile_laws.specs.sel_parse_joined.specs.sel_target.specs.Spelled.{IsSpelled, EachTree, TreesAreSpelled}
use Rattle.gg_compile_laws.specs.gg_compile_effect.specs.gg_compile_law.specs.Names.{AreSmall, HaveSmall}
use Rattle.gg_compile_laws.specs.gg_compile_effect.specs.gg_compile_law.specs.Loaded.{AreApart}
use Rattle.gg_compile_laws.specs.gg_compile_effect.specs.gg_compile_law.specs.Spelling.{HoldsNumbers}
use Rattle.gg_compile_laws.specs.vax_target_meaning.specs.Fitting.{CanWrite}
use Rattle.gg_compile_laws.specs.gg_compile_keeps.specs.Programs.{IsSelectable}
use Rattle.gg_compile_laws.specs.Keeping.{IsWithinLimits}
use Rattle.gg_compile_laws.specs.Ready.{HasReadyTrees}
use Rattle.gg_compile_laws.specs.Rooms.{HasRooms}
use Rattle.gg_compile_laws.specs.Written.{HasPlainObjects}

module _ (p q : TreeProgram) (r : IsRehomed anything p q) where
  -- ---- trees

  -- the function of the first program at a place, which has the same name, number of locals and items
  record IsThere (n : ℕ) (g : TreeFn) : Type 0 where
    function : TreeFn
    stands : slice_get p.functions n ≡ Some function
    name : function.name ≡ g.name
    locals : function.locals ≡ g.locals
    items : function.items ≡ g.items

  there : (n : ℕ) (g : TreeFn) → slice_get q.functions n ≡ Some g → IsThere n g
  there n g e =
      let at = first_at anything p.functions q.functions r.functions n g e in
      record {
        function = at.first;
        stands = at.is;
        name = ap (λ (f : TreeFn). f.name) (sym at.rehomed.is);
        locals = ap (λ (f : TreeFn). f.locals) (sym at.rehomed.is);
        items = ap (λ (f : TreeFn). f.items) (sym at.rehomed.is);
      }

  tree_there : (n k : ℕ) (g : TreeFn) (w : List Leaf) (t : IsThere n g) → slice_get g.items k ≡ Some (tree_item.Root w) → slice_get t.function.items k ≡ Some (tree_item.Root w)
  tree_there n k g w t e = ap (λ (is : List TreeItem). slice_get is k) t.items ∙ e

  each_tree : (P : List Leaf → Type 0) → EachTree P p → EachTree P q
  each_tree P h n k g w here at = let t = there n g here in h n k t.function w t.stands (tree_there n k g w t at)

  -- an attribute names objects by the number of objects alone
  att_spelled : (a : Att) → IsSpelled p a → IsSpelled q a
  att_spelled (att.Object object offset) h = (subst (λ (os : List Object). object < length os) (sym r.objects) h.0, h.1)
  att_spelled att.Nothing h = h
  att_spelled (att.Number n) h = h
  att_spelled (att.Slot k) h = h
  att_spelled (att.Branch rel label) h = h
  att_spelled (att.Label label) h = h
  att_spelled (att.Callee function count) h = h

  leaves_spelled : (w : List Leaf) → AllByRecursion (λ (l : Leaf). IsSpelled p l.att) w → AllByRecursion (λ (l : Leaf). IsSpelled q l.att) w
  leaves_spelled [] h = tt
  leaves_spelled (l ∷ w) h = (att_spelled l.att h.0, leaves_spelled w h.1)

  trees_spelled : TreesAreSpelled p → TreesAreSpelled q
  trees_spelled h n k g w here at = leaves_spelled w (each_tree (λ (t : List Leaf). AllByRecursion (λ (l : Leaf). IsSpelled p l.att) t) h n k g w here at)

  -- ---- functions and objects

  names_spelled : AllByRecursion (λ (f : TreeFn). is_name (function_label f.name) ≡ true) p.functions → AllByRecursion (λ (f : TreeFn). is_name (function_label f.name) ≡ true) q.functions
  names_spelled h =
      each_moved anything (λ (f : TreeFn). is_name (function_label f.name) ≡ true) (λ (f : TreeFn). is_name (function_label f.name) ≡ true)
      (over anything (λ (f g : TreeFn). is_name (function_label f.name) ≡ true → is_name (function_label g.name) ≡ true) (λ f w e. e)) p.functions q.functions r.functions h

  labels_small : HaveSmall p.functions → HaveSmall q.functions
  labels_small h =
      each_moved anything (λ (f : TreeFn). AreSmall f.items) (λ (f : TreeFn). AreSmall f.items)
      (over anything (λ (f g : TreeFn). AreSmall f.items → AreSmall g.items) (λ f w k. k)) p.functions q.functions r.functions h

  few_locals : ((n : ℕ) (g : TreeFn) → slice_get p.functions n ≡ Some g → g.locals ≤ NEED_LIMIT) → (n : ℕ) (g : TreeFn) → slice_get q.functions n ≡ Some g → g.locals ≤ NEED_LIMIT
  few_locals h n g here = let t = there n g here in subst (λ (k : ℕ). k ≤ NEED_LIMIT) t.locals (h n t.function t.stands)

  can_write : CanWrite p → CanWrite q
  can_write h = record {
    objects = subst (λ (os : List Object). AllByRecursion (λ (o : Object). is_name o.label ≡ true) os) (sym r.objects) h.objects;
    functions = names_spelled h.functions;
  }

  still_apart : AreApart p.objects p.functions → AreApart q.objects q.functions
  still_apart h = subst (λ (os : List Object). AreApart os q.functions) (sym r.objects) (record {
    differ = h.differ;
    functions = λ i k o g here at e. let t = there k g at in h.functions i k o t.function here t.stands (ap function_label t.name ∙ e);
    trees = h.trees;
    services = h.services;
  })

  still_rooms : HasRooms p → HasRooms q
  still_rooms h n k g w here at =
      let t = there n g here in
      let locals = t.locals in
      let room = h n k t.function w t.stands (tree_there n k g w t at) in
      omega (arith, room, locals)

  -- ---- all of it

  pub within_limits : IsWithinLimits p → IsWithinLimits q
  within_limits h = record {
    names = names_spelled h.names;
    longwords = trees_spelled h.longwords;
    small = labels_small h.small;
    locals = few_locals h.locals;
  }

  pub ready : HasReadyTrees p → HasReadyTrees q
  ready h = record {
    valid = rehomed_is_valid p q r h.valid;
    rooms = still_rooms h.rooms;
    names = can_write h.names;
    longwords = trees_spelled h.longwords;
  }

  pub selectable : IsSelectable p → IsSelectable q
  selectable h = record {
    valid = rehomed_is_valid p q r h.valid;
    calm = each_tree Calm h.calm;
    locals = few_locals h.locals;
    apart = still_apart h.apart;
    numbers = subst (λ (os : List Object). All (HoldsNumbers os) os) (sym r.objects) h.numbers;
    names = can_write h.names;
    longwords = trees_spelled h.longwords;
    small = labels_small h.small;
  }

-- the objects of such a program
pub plain_objects : (q : TreeProgram) → IsSelectable q → HasPlainObjects q
plain_objects q h = record {
  labels = h.names.objects;
  bytes =
      recursion_from_All (λ (o : Object). AllBelow 256 o.bytes) q.objects
      (All-weaker (HoldsNumbers q.objects) (λ (o : Object). AllBelow 256 o.bytes) (λ o k. k.1) q.objects h.numbers);
}
