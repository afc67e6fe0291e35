-- A program whose functions want other locals is valid.
use Rattle.std.proofs.Common.{◌≡◌, ℕ, ◌+◌, ◌≤◌, true, cond, List, [], ◌∷◌, ◌++◌, length, Option, Some, None, refl, sym, ap, subst, ◌∙◌}
use Rattle.std.specs.Prelude.{◌-◌, codes, slice_get}
use Rattle.std.specs.List.{All, flat_map}
use Rattle.std.specs.Str.{bytes_eq}
use Rattle.std.proofs.lemmas.List.Elements.{All-weaker}
use Rattle.tree_core.specs.declared.token.AttKind.{AttKind}
use Rattle.tree_core.specs.declared.token.AttKind.TheVariants as att_kind
use Rattle.tree_core.specs.declared.tree.Att.{Att}
use Rattle.tree_core.specs.declared.tree.Att.TheVariants as att
use Rattle.tree_core.specs.declared.tree.Leaf.{Leaf}
use Rattle.tree_core.specs.declared.program.Object.{Object}
use Rattle.tree_core.specs.declared.program.TreeItem.{TreeItem}
use Rattle.tree_core.specs.declared.program.TreeItem.TheVariants as tree_item
use Rattle.tree_core.specs.declared.program.TreeFn.{TreeFn}
use Rattle.tree_core.specs.declared.program.TreeProgram.{TreeProgram}
use Rattle.tree_core.specs.Attributes.{attribute_of}
use Rattle.tree_core.specs.Items.{times, all_labels}
use Rattle.tree_core.specs.Labels.{TargetsStand}
use Rattle.tree_core.specs.Valid.{named, main_takes_nothing, service_args, args_or, args_of, takes, names, leaf_names}
use Rattle.tree_core.specs.Valid.{ItemStands, ItemsStand, WantedStand, PushesStand, objects_lie, LinksLie, IsValid}
use Rattle.tree_homes.specs.Rehoming.{Choosing, IsRehomedFunction, AreRehomed, IsRehomed, anything}
use Rattle.tree_homes.specs.Claims.{RehomedIsValid}
use Rattle.tree_homes.proofs.Standing.{standing_stands}
use Rattle.tree_homes.proofs.Pairs.{over, lengths_same, all_moved, AreBoth, both_at}

-- ---- what a leaf names

names_same : (fs gs : List TreeFn) → ((k : ℕ) → args_of gs k ≡ args_of fs k) → (n : ℕ) (f : TreeFn) (w : List ℕ) (k : AttKind) (a : Att)
    → names gs n (record f { wanted = w }) k a ≡ names fs n f k a
names_same fs gs same n f w att_kind.Callee (att.Callee function count) = ap (λ (o : Option ℕ). takes o count) (same function)
names_same fs gs same n f w k a = refl

item_stands : (fs gs : List TreeFn) → ((k : ℕ) → args_of gs k ≡ args_of fs k) → (n : ℕ) (f : TreeFn) (w : List ℕ) (i : TreeItem) → ItemStands fs n f i
    → ItemStands gs n (record f { wanted = w }) i
item_stands fs gs same n f w (tree_item.Label label) h = tt
item_stands fs gs same n f w (tree_item.Root t) h = (
  h.0,
  All-weaker (λ (l : Leaf). leaf_names fs n f l ≡ true) (λ (l : Leaf). leaf_names gs n (record f { wanted = w }) l ≡ true)
      (λ l e. names_same fs gs same n f w (attribute_of l.tok) l.att ∙ e) t h.1,
)

module _ (chooses : Choosing) (fs gs : List TreeFn) (h : AreRehomed chooses fs gs) where
  args_both : (o r : Option TreeFn) (s t : Option ℕ) → AreBoth chooses o r → t ≡ s → args_or r t ≡ args_or o s
  args_both None None s t b e = e
  args_both None (Some g) s t b e = absurd b
  args_both (Some f) None s t b e = absurd b
  args_both (Some f) (Some g) s t b e = over chooses (λ (x y : TreeFn). Some y.args ≡ Some x.args) (λ x w. refl) f g b

  args_same : (k : ℕ) → args_of gs k ≡ args_of fs k
  args_same k =
      args_both (slice_get fs k) (slice_get gs k) (service_args (k - length fs)) (service_args (k - length gs)) (both_at chooses fs gs h k)
      (ap (λ (n : ℕ). service_args (k - n)) (lengths_same chooses fs gs h))

  pub roots_stand : (n : ℕ) → All (ItemsStand fs n) fs → All (ItemsStand gs n) gs
  roots_stand n k =
      all_moved chooses (ItemsStand fs n) (ItemsStand gs n)
      (over chooses (λ (f g : TreeFn). ItemsStand fs n f → ItemsStand gs n g)
      (λ f w r. All-weaker (ItemStands fs n f) (ItemStands gs n (record f { wanted = w })) (item_stands fs gs args_same n f w) f.items r))
      fs gs h k

-- ---- names, labels and wanted locals

module _ (chooses : Choosing) where
  named_same : (name : List ℕ) (fs gs : List TreeFn) → AreRehomed chooses fs gs → named name gs ≡ named name fs
  named_same name [] [] h = refl
  named_same name [] (g ∷ gs) h = absurd h
  named_same name (f ∷ fs) [] h = absurd h
  named_same name (f ∷ fs) (g ∷ gs) h =
      let here : bytes_eq g.name name ≡ bytes_eq f.name name =
      over chooses (λ (x y : TreeFn). bytes_eq y.name name ≡ bytes_eq x.name name) (λ x w. refl) f g h.0 in
      let rest = named_same name fs gs h.1 in
      λ i. cond (here i) 1 0 + rest i

  joined_same : (part : TreeFn → List ℕ) → ((f : TreeFn) (w : List ℕ) → part (record f { wanted = w }) ≡ part f) → (fs gs : List TreeFn)
      → AreRehomed chooses fs gs → flat_map part gs ≡ flat_map part fs
  joined_same part same [] [] h = refl
  joined_same part same [] (g ∷ gs) h = absurd h
  joined_same part same (f ∷ fs) [] h = absurd h
  joined_same part same (f ∷ fs) (g ∷ gs) h =
      let here = over chooses (λ (x y : TreeFn). part y ≡ part x) same f g h.0 in
      let rest = joined_same part same fs gs h.1 in
      λ i. here i ++ rest i

  labels_same : (fs gs : List TreeFn) → AreRehomed chooses fs gs → all_labels gs ≡ all_labels fs
  labels_same fs gs h = joined_same _ (λ f w. refl) fs gs h

  wanted_stands : (f g : TreeFn) → IsRehomedFunction chooses f g → WantedStand g
  wanted_stands f g h = subst WantedStand (sym h.is) (standing_stands f.locals h.chosen)

  all_wanted : (fs gs : List TreeFn) → AreRehomed chooses fs gs → All WantedStand fs → All WantedStand gs
  all_wanted fs gs h k = all_moved chooses WantedStand WantedStand (λ f g r _. wanted_stands f g r) fs gs h k

  pub valid_by : (p q : TreeProgram) → IsRehomed chooses p q → IsValid p → IsValid q
  valid_by p q r v =
      let fs = p.functions in
      let gs = q.functions in
      let h = r.functions in
      record {
        names = record {
          one_main = named_same (codes "main") fs gs h ∙ v.names.one_main;
          main_args =
              all_moved chooses (λ (f : TreeFn). main_takes_nothing f ≡ true) (λ (f : TreeFn). main_takes_nothing f ≡ true)
              (over chooses (λ (f g : TreeFn). main_takes_nothing f ≡ true → main_takes_nothing g ≡ true) (λ f w e. e)) fs gs h v.names.main_args;
          no_putchar = named_same (codes "putchar") fs gs h ∙ v.names.no_putchar;
          no_getchar = named_same (codes "getchar") fs gs h ∙ v.names.no_getchar;
          differ = λ name. subst (λ (k : ℕ). k ≤ 1) (sym (named_same name fs gs h)) (v.names.differ name);
        };
        roots = subst (λ (os : List Object). All (ItemsStand gs (length os)) gs) (sym r.objects) (roots_stand chooses fs gs h (length p.objects) v.roots);
        wanted = all_wanted fs gs h v.wanted;
        labels_once = λ n. subst (λ (ls : List ℕ). times n ls ≤ 1) (sym (labels_same fs gs h)) (v.labels_once n);
        targets = all_moved chooses TargetsStand TargetsStand (over chooses (λ (f g : TreeFn). TargetsStand f → TargetsStand g) (λ f w k. k)) fs gs h v.targets;
        calls = all_moved chooses PushesStand PushesStand (over chooses (λ (f g : TreeFn). PushesStand f → PushesStand g) (λ f w k. k)) fs gs h v.calls;
        objects = subst (λ (os : List Object). objects_lie 65536 os ≡ true) (sym r.objects) v.objects;
        links = subst (λ (os : List Object). All (LinksLie (length os)) os) (sym r.objects) v.links;
      }

pub rehomed_is_valid : RehomedIsValid
rehomed_is_valid = valid_by anything
