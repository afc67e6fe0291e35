-- What a valid tree program says of its functions' items, in the words that are used here.
use Rattle.std.proofs.Common.{◌≡◌, ℕ, zero, suc, ◌+◌, ◌<◌, ◌≤◌, Bool, true, false, cond, List, [], ◌∷◌, length, Option, Some, None, refl, sym, ap, subst, ◌∙◌, arith}
use Rattle.std.specs.Prelude.{◌-◌, slice_get, ◌==◌, ◌||◌}
use Rattle.std.specs.List.{All, AllPass, filter_map, cons_option}
use Rattle.std.proofs.lemmas.Bool.{eqb-true, eq-eqb, leb-true, and_parts}
use Rattle.std.proofs.lemmas.Option.{same_Some, slice_get_within}
use Rattle.gg_base.proofs.Facts.{index_of, head_same}
use Rattle.tree_core.specs.declared.token.Tok.{Tok}
use Rattle.tree_core.specs.declared.token.Tok.TheVariants as tok
use Rattle.tree_core.specs.declared.token.Sort.TheVariants as sort
use Rattle.tree_core.specs.declared.tree.Att.{Att}
use Rattle.tree_core.specs.declared.tree.Att.TheVariants as att
use Rattle.tree_core.specs.declared.tree.Leaf.{Leaf}
use Rattle.tree_core.specs.declared.program.TreeItem.{TreeItem}
use Rattle.tree_core.specs.declared.program.TreeItem.TheVariants as tree_item
use Rattle.tree_core.specs.declared.program.TreeFn.{TreeFn}
use Rattle.tree_core.specs.declared.program.TreeProgram.{TreeProgram}
use Rattle.tree_core.specs.Attributes.{leaf_fits, is_of_kind, attribute_of, end_leaf}
use Rattle.tree_core.specs.Grammar.{sort_of}
use Rattle.tree_core.specs.Trees.{Forest, none, tree, leaves_onto, sort_fits, Typed, IsTyped}
use Rattle.tree_core.specs.Labels.{TargetsStandIn, TargetsStand}
use Rattle.tree_core.specs.Items.{times, target_of_leaves, role_of_token, after_item, goes_on, in_order, CallsInOrder}
use Rattle.tree_core.specs.Items.{target_of as target_in}
use Rattle.tree_core.specs.Valid.{service_args, args_or, args_of, takes, leaf_names, ItemStands, ItemsStand, IsValid}
use Rattle.tree_core.proofs.Ordering_of_calls.{decides}
use Rattle.gg_compile_law.specs.Roles.{Role, Pushes, Calls, Saves, Plain, calls_by, role_by, role_of, target_by, target_of}
use Rattle.gg_compile_law.specs.Programs.{InOrderBy, InOrder, stands_in}

-- ---- the order of pushes and calls

plain_if : (p : ℕ) (rest : ℕ → Bool → Bool) → goes_on (cond (p == 0) (Some (p, false)) None) rest ≡ true → (p ≡ 0) × (rest 0 false ≡ true)
plain_if p rest e = by (p == 0) refl e
  where
    by : (b : Bool) → (p == 0) ≡ b → goes_on (cond b (Some (p, false)) None) rest ≡ true → (p ≡ 0) × (rest 0 false ≡ true)
    by true q h = let z : p ≡ 0 = eqb-true p 0 q in (z, subst (λ (n : ℕ). rest n false ≡ true) z h)
    by false q h = absurd cc

call_if : (p count : ℕ) (rest : ℕ → Bool → Bool) → count ≤ 255 → goes_on (cond (p == count) (Some (0, true)) None) rest ≡ true → (p ≡ count) × (count ≤ 255) × (rest 0 true ≡ true)
call_if p count rest le e = by (p == count) refl e
  where
    by : (b : Bool) → (p == count) ≡ b → goes_on (cond b (Some (0, true)) None) rest ≡ true → (p ≡ count) × (count ≤ 255) × (rest 0 true ≡ true)
    by true q h = (eqb-true p count q, le, h)
    by false q h = absurd cc

save_if : (p : ℕ) (b : Bool) (rest : ℕ → Bool → Bool) → goes_on (cond b (Some (p, false)) None) rest ≡ true → (b ≡ true) × (rest p false ≡ true)
save_if p true rest h = (refl, h)
save_if p false rest h = absurd cc

call_bridge : (a : Att) (p : ℕ) (b : Bool) (rest : ℕ → Bool → Bool) → ((f c : ℕ) → calls_by a ≡ Calls f c → c ≤ 255) → goes_on (after_item (role_of_token tok.Call a) p b) rest ≡ true
    → InOrderBy (calls_by a) p b (λ q c. rest q c ≡ true)
call_bridge att.Nothing p b rest few h = plain_if p rest h
call_bridge (att.Number n) p b rest few h = plain_if p rest h
call_bridge (att.Object object offset) p b rest few h = plain_if p rest h
call_bridge (att.Slot n) p b rest few h = plain_if p rest h
call_bridge (att.Branch rel label) p b rest few h = plain_if p rest h
call_bridge (att.Label label) p b rest few h = plain_if p rest h
call_bridge (att.Callee function count) p b rest few h = call_if p count rest (few function count refl) h

bridge : (k : Tok) (a : Att) (p : ℕ) (b : Bool) (rest : ℕ → Bool → Bool) → ((f c : ℕ) → role_by k a ≡ Calls f c → c ≤ 255) → goes_on (after_item (role_of_token k a) p b) rest ≡ true
    → InOrderBy (role_by k a) p b (λ q c. rest q c ≡ true)
bridge tok.Zero a p b rest few h = plain_if p rest h
bridge tok.One a p b rest few h = plain_if p rest h
bridge tok.Two a p b rest few h = plain_if p rest h
bridge tok.Four a p b rest few h = plain_if p rest h
bridge tok.Eight a p b rest few h = plain_if p rest h
bridge tok.Const a p b rest few h = plain_if p rest h
bridge tok.Gaddr a p b rest few h = plain_if p rest h
bridge tok.Loc a p b rest few h = plain_if p rest h
bridge tok.Arg a p b rest few h = plain_if p rest h
bridge tok.IndirB a p b rest few h = plain_if p rest h
bridge tok.IndirW a p b rest few h = plain_if p rest h
bridge tok.IndirL a p b rest few h = plain_if p rest h
bridge tok.Plus a p b rest few h = plain_if p rest h
bridge tok.Minus a p b rest few h = plain_if p rest h
bridge tok.Mul a p b rest few h = plain_if p rest h
bridge tok.Div a p b rest few h = plain_if p rest h
bridge tok.Mod a p b rest few h = plain_if p rest h
bridge tok.And a p b rest few h = plain_if p rest h
bridge tok.Or a p b rest few h = plain_if p rest h
bridge tok.Xor a p b rest few h = plain_if p rest h
bridge tok.Lsh a p b rest few h = plain_if p rest h
bridge tok.Rsh a p b rest few h = plain_if p rest h
bridge tok.Neg a p b rest few h = plain_if p rest h
bridge tok.Com a p b rest few h = plain_if p rest h
bridge tok.Sxb a p b rest few h = plain_if p rest h
bridge tok.Zxb a p b rest few h = plain_if p rest h
bridge tok.Sxw a p b rest few h = plain_if p rest h
bridge tok.Zxw a p b rest few h = plain_if p rest h
bridge tok.Ncb a p b rest few h = plain_if p rest h
bridge tok.Ncw a p b rest few h = plain_if p rest h
bridge tok.AssignB a p b rest few h = plain_if p rest h
bridge tok.AssignW a p b rest few h = plain_if p rest h
bridge tok.AssignL a p b rest few h = plain_if p rest h
bridge tok.Cbr a p b rest few h = plain_if p rest h
bridge tok.Push a p b rest few h = h
bridge tok.Ret a p b rest few h = plain_if p rest h
bridge tok.Call a p b rest few h = call_bridge a p b rest few h
bridge tok.Save a p b rest few h = save_if p b rest h
bridge tok.Jump a p b rest few h = plain_if p rest h
bridge tok.End a p b rest few h = plain_if p rest h

order_map : (r : Role) (p : ℕ) (b : Bool) (P Q : ℕ → Bool → Type 0) → ((q : ℕ) (c : Bool) → P q c → Q q c) → InOrderBy r p b P → InOrderBy r p b Q
order_map Pushes p b P Q f h = f (p + 1) false h
order_map (Calls function count) p b P Q f h = (h.0, h.1, f 0 true h.2)
order_map Saves p b P Q f h = (h.0, f p false h.1)
order_map Plain p b P Q f h = (h.0, f 0 false h.1)

-- an item is among others
abbrev pub IsIn : TreeItem → List TreeItem → Type 0
IsIn i is = (k : ℕ) × (slice_get is k ≡ Some i)

-- no root calls with more than 255 arguments
abbrev pub FewIn : List TreeItem → Type 0
FewIn is = (w : List Leaf) → IsIn (tree_item.Root w) is → (f c : ℕ) → role_of w ≡ Calls f c → c ≤ 255

few_behind : (i : TreeItem) (is : List TreeItem) → FewIn (i ∷ is) → FewIn is
few_behind i is h w at f c e = h w (suc at.0, at.1) f c e

pub in_order_is : (is : List TreeItem) (p : ℕ) (b : Bool) → FewIn is → in_order p b is ≡ true → InOrder p b is
in_order_is [] p b few h = eqb-true p 0 h
in_order_is (tree_item.Label l ∷ is) p b few h = let s = plain_if p (λ q c. in_order q c is) h in (s.0, in_order_is is 0 false (few_behind (tree_item.Label l) is few) s.1)
in_order_is (tree_item.Root [] ∷ is) p b few h = let s = plain_if p (λ q c. in_order q c is) h in (s.0, in_order_is is 0 false (few_behind (tree_item.Root []) is few) s.1)
in_order_is (tree_item.Root (l ∷ w) ∷ is) p b few h =
    order_map (role_by l.tok l.att) p b (λ q c. in_order q c is ≡ true) (λ q c. InOrder q c is) (λ q c g. in_order_is is q c (few_behind (tree_item.Root (l ∷ w)) is few) g)
    (bridge l.tok l.att p b (λ q c. in_order q c is) (λ f c e. few (l ∷ w) (0, refl) f c e) h)

-- ---- what a root's first leaf says

call_att : (a : Att) (f c : ℕ) → calls_by a ≡ Calls f c → a ≡ att.Callee f c
call_att (att.Callee function count) f c e = same function count f c e
  where
    same : (a b f c : ℕ) → Calls a b ≡ Calls f c → att.Callee a b ≡ att.Callee f c
    same a b f c e = cc
call_att _ f c e = absurd cc

-- a root that calls is a Call
call_tok : (k : Tok) (a : Att) (f c : ℕ) → role_by k a ≡ Calls f c → (k ≡ tok.Call) × (a ≡ att.Callee f c)
call_tok tok.Call a f c e = (refl, call_att a f c e)
call_tok _ a f c e = absurd cc

-- a root's target is its first leaf's
target_tok : (k : Tok) (a : Att) (l : ℕ) → target_by k a ≡ Some l → target_in a ≡ Some l
target_tok tok.Cbr a l e = e
target_tok tok.Jump a l e = e
target_tok _ a l e = absurd cc

target_leaves : (w : List Leaf) (l : ℕ) → target_of w ≡ Some l → target_of_leaves w ≡ Some l
target_leaves [] l e = absurd cc
target_leaves (x ∷ w) l e = target_tok x.tok x.att l e

-- ---- labels that are found

found_by : (f : TreeItem → Option ℕ) (is : List TreeItem) (i : TreeItem) (l : ℕ) → IsIn i is → f i ≡ Some l → 0 < times l (filter_map f is)
found_by f [] i l (zero, e) h = absurd cc
found_by f [] i l (suc k, e) h = absurd cc
found_by f (x ∷ is) i l (zero, e) h = at (f x) (ap f (same_Some x i e) ∙ h)
  where
    at : (o : Option ℕ) → o ≡ Some l → 0 < times l (cons_option o (filter_map f is))
    at None e = absurd cc
    at (Some n) e =
        let s : n ≡ l = same_Some n l e in
        let t : ◌≡◌ {A = ℕ} (cond (n == l) 1 0) 1 = ap (λ (b : Bool). cond {A = ℕ} b 1 0) (eq-eqb n l s) in
        omega (arith, t)
found_by f (x ∷ is) i l (suc k, e) h = behind (f x) (found_by f is i l (k, e) h)
  where
    behind : (o : Option ℕ) → 0 < times l (filter_map f is) → 0 < times l (cons_option o (filter_map f is))
    behind None lt = lt
    behind (Some n) lt = omega (arith, lt)

stands_by : (f : TreeItem → Option ℕ) → ((n : ℕ) → f (tree_item.Label n) ≡ Some n) → ((w : List Leaf) → f (tree_item.Root w) ≡ None) → (is : List TreeItem) (l : ℕ) → 0 < times l (filter_map f is)
    → stands_in is l ≡ true
stands_by f label root [] l lt = absurd (omega (arith, lt))
stands_by f label root (tree_item.Root w ∷ is) l lt = stands_by f label root is l (subst (λ (o : Option ℕ). 0 < times l (cons_option o (filter_map f is))) (root w) lt)
stands_by f label root (tree_item.Label n ∷ is) l lt = at (n == l) (subst (λ (o : Option ℕ). 0 < times l (cons_option o (filter_map f is))) (label n) lt) (λ h. stands_by f label root is l h)
  where
    at : (b : Bool) → 0 < cond b 1 0 + times l (filter_map f is) → (0 < times l (filter_map f is) → stands_in is l ≡ true) → (b || stands_in is l) ≡ true
    at true lt rest = refl
    at false lt rest = rest (omega (arith, lt))

target_stands : (is : List TreeItem) → TargetsStandIn is → (w : List Leaf) → IsIn (tree_item.Root w) is → (l : ℕ) → target_of w ≡ Some l → stands_in is l ≡ true
target_stands is h w at l e = stands_by _ (λ n. refl) (λ w. refl) is l (h l (found_by _ is (tree_item.Root w) l at (target_leaves w l e)))

-- ---- what is said of each function, and of each root

pub all_at : {A : Type 0} (P : A → Type 0) (xs : List A) (k : ℕ) (x : A) → All P xs → slice_get xs k ≡ Some x → P x
all_at P xs k x h e = subst P (index_of xs k x x e) (h k x (slice_get_within xs k x e))

-- what a valid program says of a root of a function
pub record RootFacts (program : TreeProgram) (g : TreeFn) (w : List Leaf) : Type 0 where
  pub few : (f c : ℕ) → role_of w ≡ Calls f c → c ≤ 255
  pub call : (f c : ℕ) (h : TreeFn) → role_of w ≡ Calls f c → slice_get program.functions f ≡ Some h → c ≡ h.args
  pub target : (l : ℕ) → target_of w ≡ Some l → stands_in g.items l ≡ true

first_fits : (f : Forest) (l : Leaf) (w : List Leaf) → Typed (sort.Stmt ∷ []) f → leaves_onto f (end_leaf ∷ []) ≡ l ∷ w → leaf_fits l ≡ true
first_fits none l w h e = absurd h
first_fits (tree x below behind) l w h e =
    let fit = and_parts (sort_fits (sort_of x.tok) sort.Stmt) (leaf_fits x) h.0 in
    ap leaf_fits (sym (head_same x l _ w e)) ∙ fit.1

few_by : (k : Tok) (a : Att) (f c : ℕ) → is_of_kind (attribute_of k) a ≡ true → k ≡ tok.Call → a ≡ att.Callee f c → c ≤ 255
few_by k a f c fit p q = leb-true c 255 (sym (λ i. is_of_kind (attribute_of (p i)) (q i)) ∙ fit)

module _ (program : TreeProgram) (v : IsValid program) (n : ℕ) (g : TreeFn) (there : slice_get program.functions n ≡ Some g) where
  stand : ItemsStand program.functions (length program.objects) g
  stand = all_at (ItemsStand program.functions (length program.objects)) program.functions n g v.roots there

  root_of : (w : List Leaf) → IsIn (tree_item.Root w) g.items → IsTyped w sort.Stmt × AllPass (leaf_names program.functions (length program.objects) g) w
  root_of w at = all_at (ItemStands program.functions (length program.objects) g) g.items at.0 (tree_item.Root w) stand at.1

  few_in : (w : List Leaf) → IsTyped w sort.Stmt → (f c : ℕ) → role_of w ≡ Calls f c → c ≤ 255
  few_in [] t f c e = absurd cc
  few_in (l ∷ w) t f c e = let k = call_tok l.tok l.att f c e in few_by l.tok l.att f c (first_fits t.trees l w t.typed t.spelled) k.0 k.1

  call_in : (w : List Leaf) → AllPass (leaf_names program.functions (length program.objects) g) w → (f c : ℕ) (h : TreeFn) → role_of w ≡ Calls f c → slice_get program.functions f ≡ Some h → c ≡ h.args
  call_in [] a f c h e is = absurd cc
  call_in (l ∷ w) a f c h e is =
      let k = call_tok l.tok l.att f c e in
      let passes : leaf_names program.functions (length program.objects) g l ≡ true = a 0 l (omega arith) in
      let l_is : l ≡ record { tok = tok.Call; att = att.Callee f c } = λ i. record { tok = k.0 i; att = k.1 i } in
      let taken : takes (args_of program.functions f) c ≡ true = sym (ap (leaf_names program.functions (length program.objects) g) l_is) ∙ passes in
      let known : takes (Some h.args) c ≡ true = sym (ap (λ (o : Option TreeFn). takes (args_or o (service_args (f - length program.functions))) c) is) ∙ taken in
      sym (eqb-true h.args c known)

  pub root_facts : (w : List Leaf) → IsIn (tree_item.Root w) g.items → RootFacts program g w
  root_facts w at = record {
    few = few_in w (root_of w at).0;
    call = call_in w (root_of w at).1;
    target = target_stands g.items (all_at TargetsStand program.functions n g v.targets there) w at;
  }

  pub items_in_order : InOrder 0 false g.items
  items_in_order =
      let calls : CallsInOrder g.items = all_at (λ (f : TreeFn). CallsInOrder f.items) program.functions n g v.calls there in
      in_order_is g.items 0 false (λ w at f c e. (root_facts w at).few f c e) ((decides g.items (in_order 0 false g.items) refl).1 calls)
