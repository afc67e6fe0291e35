-- The steps of a tree program, item by item, and which of them are counted.
use Rattle.std.proofs.Common.{◌≡◌, ℕ, zero, suc, ◌-◌, List, [], ◌∷◌, ◌++◌, length, Option, Some, None, refl, ap, arith, sym, ◌∙◌, subst}
use Rattle.std.specs.Prelude.{Bool, true, false, not, cond, slice_set}
use Rattle.gg_base.specs.declared.size.Size.{Size}
use Rattle.gg_base.specs.declared.size.Size.TheVariants as sizes
use Rattle.gg_base.specs.declared.relation.Rel.{Rel}
use Rattle.gg_base.specs.declared.run.End.TheVariants as ends
use Rattle.gg_base.specs.Runs.{Outcome, Runs, stop}
use Rattle.gg_base.specs.Relations.{holds}
use Rattle.gg_base.specs.Arithmetic.{zext8, zext16}
use Rattle.tree_core.specs.declared.token.Tok.{Tok}
use Rattle.tree_core.specs.declared.token.Tok.TheVariants as tok
use Rattle.tree_core.specs.declared.tree.Att.TheVariants as att
use Rattle.tree_core.specs.declared.tree.Leaf.{Leaf}
use Rattle.tree_core.specs.declared.program.TreeItem.{TreeItem}
use Rattle.tree_core.specs.declared.program.TreeItem.TheVariants as tree_item
use Rattle.tree_core.specs.declared.program.TreeProgram.{TreeProgram}
use Rattle.tree_core.specs.Attributes.{end_leaf}
use Rattle.tree_core.specs.Grammar.{kids}
use Rattle.tree_core.specs.Trees.{Forest, none, tree, firsts, others, grown}
use Rattle.tree_core.specs.Area.{stored}
use Rattle.tree_meaning.specs.declared.value.Value.{Value}
use Rattle.tree_meaning.specs.declared.value.Value.TheVariants.{Number, ZeroDivisor, Wild}
use Rattle.tree_meaning.specs.declared.value.Meaning.TheVariants as meaning
use Rattle.tree_meaning.specs.Values.{bind, read, at as in_memory}
use Rattle.tree_meaning.specs.State.{Activation, State, with_local, behind, Next, tree_at, ahead, coming, returned, arrived}
use Rattle.tree_meaning.specs.Deeds.{Pushes, Returns, Puts}
use Rattle.tree_meaning.specs.Steps.{deed_step, put_in}
use Rattle.tree_counts.specs.Counted.{is_ahead, tallied, tally, tallies}
use Rattle.c_types.specs.declared.types.Integer.{Integer}
use Rattle.c_types.specs.declared.types.Integer.TheVariants as ints
use Rattle.c_meaning.specs.State.{integer_access}
use Rattle.c_lower_scheme.specs.Trees.{Tree, Item, Label, AssignLoc, AssignArg, AssignMem, Cbr, Jump, Push, Call, Save, Ret}
use Rattle.c_lower_scheme.specs.Spelling.{leaf, plain, leaves_onto, spelled_all}
use Rattle.c_lower_follows.proofs.Values.{SmallTree, Ranged, planted, grown_one, grown_two, grown_tree, worth, stands, stands_is}
use Rattle.c_lower_counts.proofs.Leads.{Leads, one_tree, jumped, leads_quiet, leads_wild, leads_trapped, leads_less, Depth}
use Rattle.c_lower_follows.proofs.Carried.{given}
use Rattle.c_lower_counts.proofs.Carried.{done, assigned, called, given_is, branched_is}
use Rattle.c_lower_counts.proofs.Ahead.{IsAhead, ahead_behind}
use Rattle.c_lower_follows.proofs.Steps.{Desk, desk_sight, on}

module _ (program : TreeProgram) (code : List TreeItem) (callers : List Activation) where
  abbrev pub activation : List TreeItem → Desk → Activation
  activation is d = record { code = code; items = is; locals = d.locals; arguments = d.arguments; pushed = d.pushed; result = d.result }

  abbrev pub state : List TreeItem → Desk → State
  state is d = record { running = activation is d; callers = callers; area = d.area; input = d.input }

  -- the run from a place, which is given by the items to come
  abbrev pub at_items : List TreeItem → Desk → Runs
  at_items is d = tallies program (arrived (state is d))

  abbrev pub at : List Item → Desk → Runs
  at is d = at_items (spelled_all is) d

  pub moves : (k : Depth) (is js : List TreeItem) (d : Desk) (r : Runs) → is ≡ js → Leads k r (at_items js d) → Leads k r (at_items is d)
  moves k is js d r e h = subst (λ x. Leads k r (at_items x d)) (sym e) h

  -- a root that comes next is done
  root_at : (w : List Leaf) (f : Forest) (is : List TreeItem) (d : Desk) (q : ℕ → Outcome) → grown w ≡ f → ((n : ℕ) → done program (tally program n) (state is d) f ≡ q n) → (n : ℕ)
      → one_tree q n ≡ tally program n (tree_at w (state is d))
  root_at w f is d q e same zero = refl
  root_at w f is d q e same (suc n) = sym (ap (done program (tally program n) (state is d)) e ∙ same n)

  pub quiet : (k : Depth) (w : List Leaf) (f : Forest) (is : List TreeItem) (d : Desk) (r q : Runs) → grown w ≡ f → ((n : ℕ) → done program (tally program n) (state is d) f ≡ q n) → Leads k r q
      → Leads k r (at_items (tree_item.Root w ∷ is) d)
  quiet k w f is d r q e same h = subst (Leads k r) (λ j n. root_at w f is d q e same n j) (leads_quiet k r q h)

  -- the same root, still to be done
  pub counts : (k : Depth) (w : List Leaf) (f : Forest) (is : List TreeItem) (d : Desk) (r q : Runs) → grown w ≡ f → ((n : ℕ) → done program (tally program n) (state is d) f ≡ q n)
      → Leads k r (one_tree q) → Leads k r (at_items (tree_item.Root w ∷ is) d)
  counts k w f is d r q e same h = subst (Leads k r) (λ j n. root_at w f is d q e same n j) h

  -- a tree's value is what goes on, or both sides break
  pub on_step : (k : Depth) (o : Value) (κ f : ℕ → Runs) → ((v : ℕ) → o ≡ Number v → Leads k (κ v) (f v)) → Leads k (on o κ) (λ n. given o (λ v. f v n))
  on_step k (Number v) κ f h = h v refl
  on_step k ZeroDivisor κ f h = leads_trapped k
  on_step k Wild κ f h = leads_wild k _

  pub lost : (k : Depth) (is : List TreeItem) (d : Desk) → Leads k (stop ends.Wild) (at_items is d)
  lost k is d = leads_wild k (at_items is d)

  abbrev value : Tree → Desk → Value
  value w d = worth program.objects (desk_sight d) w

  abbrev seen : Tree → Desk → Value
  seen w d = read (desk_sight d) (stands program.objects (desk_sight d) w)

  -- what a tree's leaf over its kids reads
  reads : (w : Tree) (d : Desk) → SmallTree w → Ranged (desk_sight d) → seen w d ≡ value w d
  reads w d small r = stands_is program.objects (desk_sight d) r w small

  abbrev rest_of : Forest
  rest_of = grown (end_leaf ∷ [])

  pub assign_loc_step : (k : Depth) (n : ℕ) (w : Tree) (is : List Item) (κ : ℕ → Runs) (d : Desk) → SmallTree w → Ranged (desk_sight d)
      → ((v : ℕ) → value w d ≡ Number v → Leads k (κ v) (at is (record d { locals = with_local d.locals n v }))) → Leads k (on (value w d) κ) (at (AssignLoc n w ∷ is) d)
  assign_loc_step k n w is κ d small r h =
      quiet k _ (tree (plain tok.AssignL) (tree (leaf tok.Loc (att.Slot n)) none (planted w none)) rest_of) (spelled_all is) d _
      (λ m. given (value w d) (λ v. at is (record d { locals = with_local d.locals n v }) m))
      (ap (λ h. tree (plain tok.AssignL) (firsts 2 (tree (leaf tok.Loc (att.Slot n)) none h)) (others 2 (tree (leaf tok.Loc (att.Slot n)) none h))) (grown_tree w (end_leaf ∷ [])))
      (λ m. given_is program m (state (spelled_all is) d) (seen w d) (Puts (meaning.Local n))
      ∙ ap (λ o. given o (λ v. tallied (tally program m) (deed_step program (state (spelled_all is) d) (Puts (meaning.Local n) v)))) (reads w d small r))
      (on_step k (value w d) κ (λ v. at is (record d { locals = with_local d.locals n v })) h)

  pub assign_arg_step : (k : Depth) (n : ℕ) (w : Tree) (is : List Item) (κ : ℕ → Runs) (d : Desk) → SmallTree w → Ranged (desk_sight d)
      → ((v : ℕ) → value w d ≡ Number v → Leads k (κ v) (at is (record d { arguments = slice_set d.arguments n v }))) → Leads k (on (value w d) κ) (at (AssignArg n w ∷ is) d)
  assign_arg_step k n w is κ d small r h =
      let e : suc n - 1 ≡ n = omega arith in
      quiet k _ (tree (plain tok.AssignL) (tree (leaf tok.Arg (att.Slot (suc n))) none (planted w none)) rest_of) (spelled_all is) d _
      (λ m. given (value w d) (λ v. at is (record d { arguments = slice_set d.arguments n v }) m))
      (ap (λ h. tree (plain tok.AssignL) (firsts 2 (tree (leaf tok.Arg (att.Slot (suc n))) none h)) (others 2 (tree (leaf tok.Arg (att.Slot (suc n))) none h))) (grown_tree w (end_leaf ∷ [])))
      (λ m. given_is program m (state (spelled_all is) d) (seen w d) (Puts (meaning.Argument (suc n)))
      ∙ ap (λ o. given o (λ v. tallied (tally program m) (deed_step program (state (spelled_all is) d) (Puts (meaning.Argument (suc n)) v)))) (reads w d small r)
      ∙ ap (λ j. given (value w d) (λ v. at is (record d { arguments = slice_set d.arguments j v }) m)) e)
      (on_step k (value w d) κ (λ v. at is (record d { arguments = slice_set d.arguments n v })) h)

  -- a number's low bits
  abbrev pub narrowed : Integer → ℕ → ℕ
  narrowed ints.Char v = zext8 v
  narrowed ints.UnsignedChar v = zext8 v
  narrowed ints.Short v = zext16 v
  narrowed ints.UnsignedShort v = zext16 v
  narrowed ints.Int v = v

  -- the run behind a write
  abbrev pub written_at : List Item → Desk → Option (List ℕ) → Runs
  written_at is d None = stop ends.Wild
  written_at is d (Some area) = at is (record d { area = area })

  put_is : (is : List Item) (d : Desk) (o : Option (List ℕ)) (m : ℕ) → tallied (tally program m) (put_in (state (spelled_all is) d) o) ≡ written_at is d o m
  put_is is d None m = refl
  put_is is d (Some area) m = refl

  assigned_at : (is : List Item) (d : Desk) (z : Size) (u v : Value) (m : ℕ) → assigned program (tally program m) (state (spelled_all is) d) (Some (in_memory z u)) v
      ≡ given u (λ x. given v (λ y. written_at is d (stored z d.area x y) m))
  assigned_at is d z (Number x) (Number y) m = put_is is d (stored z d.area x y) m
  assigned_at is d z (Number x) ZeroDivisor m = refl
  assigned_at is d z (Number x) Wild m = refl
  assigned_at is d z ZeroDivisor v m = refl
  assigned_at is d z Wild v m = refl

  given_bind : (o : Value) (g : ℕ → ℕ) (f : ℕ → Outcome) → given (bind o (λ x. Number (g x))) f ≡ given o (λ x. f (g x))
  given_bind (Number x) g f = refl
  given_bind ZeroDivisor g f = refl
  given_bind Wild g f = refl

  on_two : (k : Depth) (o p : Value) (κ f : ℕ → ℕ → Runs) → ((x y : ℕ) → o ≡ Number x → p ≡ Number y → Leads k (κ x y) (f x y))
      → Leads k (on o (λ x. on p (κ x))) (λ n. given o (λ x. given p (λ y. f x y n)))
  on_two k o p κ f h = on_step k o (λ x. on p (κ x)) (λ x n. given p (λ y. f x y n)) (λ x e. on_step k p (κ x) (f x) (λ y e'. h x y e e'))

  narrow_step : (k : Depth) (z : Size) (root place low : Tok) (g : ℕ → ℕ) (a w : Tree) (is : List Item) (κ : ℕ → ℕ → Runs) (d : Desk) → SmallTree a → SmallTree w → Ranged (desk_sight d)
      → grown (plain root ∷ plain place ∷ leaves_onto a (plain low ∷ leaves_onto w (end_leaf ∷ [])))
      ≡ tree (plain root) (tree (plain place) (planted a none) (tree (plain low) (planted w none) none)) rest_of
      → ((m : ℕ) → done program (tally program m) (state (spelled_all is) d) (tree (plain root) (tree (plain place) (planted a none) (tree (plain low) (planted w none) none)) rest_of)
      ≡ assigned program (tally program m) (state (spelled_all is) d) (Some (in_memory z (seen a d))) (bind (seen w d) (λ x. Number (g x))))
      → ((x v : ℕ) → value a d ≡ Number x → value w d ≡ Number v → Leads k (κ x v) (written_at is d (stored z d.area x (g v))))
      → Leads k (on (value a d) (λ x. on (value w d) (κ x))) (at_items (tree_item.Root (plain root ∷ plain place ∷ leaves_onto a (plain low ∷ leaves_onto w (end_leaf ∷ []))) ∷ spelled_all is) d)
  narrow_step k z root place low g a w is κ d small small' r grow same h =
      quiet k _ _ (spelled_all is) d _ (λ m. given (value a d) (λ x. given (value w d) (λ y. written_at is d (stored z d.area x (g y)) m))) grow
      (λ m. same m ∙ assigned_at is d z (seen a d) (bind (seen w d) (λ x. Number (g x))) m
      ∙ ap (λ o. given o (λ x. given (bind (seen w d) (λ x. Number (g x))) (λ y. written_at is d (stored z d.area x y) m))) (reads a d small r)
      ∙ ap (λ o. given (value a d) (λ x. given (bind o (λ x. Number (g x))) (λ y. written_at is d (stored z d.area x y) m))) (reads w d small' r)
      ∙ (λ j. given (value a d) (λ x. given_bind (value w d) g (λ y. written_at is d (stored z d.area x y) m) j)))
      (on_two k (value a d) (value w d) κ (λ x y. written_at is d (stored z d.area x (g y))) h)

  grown_narrow : (root place low : Tok) (a w : Tree) → length (kids root) ≡ 2 → length (kids place) ≡ 1 → length (kids low) ≡ 1
      → grown (plain root ∷ plain place ∷ leaves_onto a (plain low ∷ leaves_onto w (end_leaf ∷ [])))
      ≡ tree (plain root) (tree (plain place) (planted a none) (tree (plain low) (planted w none) none)) rest_of
  grown_narrow root place low a w er ep el =
      grown_two (plain root) (plain place ∷ leaves_onto a (plain low ∷ leaves_onto w (end_leaf ∷ []))) _ _ _ _ _ er
      (grown_one (plain place) (leaves_onto a (plain low ∷ leaves_onto w (end_leaf ∷ []))) _ _ _ ep
      (grown_tree a (plain low ∷ leaves_onto w (end_leaf ∷ [])) ∙ ap (planted a) (grown_one (plain low) (leaves_onto w (end_leaf ∷ [])) _ _ _ el (grown_tree w (end_leaf ∷ [])))))

  pub assign_mem_step : (k : Depth) (i : Integer) (a w : Tree) (is : List Item) (κ : ℕ → ℕ → Runs) (d : Desk) → SmallTree a → SmallTree w → Ranged (desk_sight d)
      → ((x v : ℕ) → value a d ≡ Number x → value w d ≡ Number v → Leads k (κ x v) (written_at is d (stored (integer_access i) d.area x (narrowed i v))))
      → Leads k (on (value a d) (λ x. on (value w d) (κ x))) (at (AssignMem i a w ∷ is) d)
  assign_mem_step k ints.Char a w is κ d small small' r h = narrow_step k sizes.Byte tok.AssignB tok.IndirB tok.Ncb zext8 a w is κ d small small' r
      (grown_narrow tok.AssignB tok.IndirB tok.Ncb a w refl refl refl) (λ m. refl) h
  assign_mem_step k ints.UnsignedChar a w is κ d small small' r h = narrow_step k sizes.Byte tok.AssignB tok.IndirB tok.Ncb zext8 a w is κ d small small' r
      (grown_narrow tok.AssignB tok.IndirB tok.Ncb a w refl refl refl) (λ m. refl) h
  assign_mem_step k ints.Short a w is κ d small small' r h = narrow_step k sizes.Word tok.AssignW tok.IndirW tok.Ncw zext16 a w is κ d small small' r
      (grown_narrow tok.AssignW tok.IndirW tok.Ncw a w refl refl refl) (λ m. refl) h
  assign_mem_step k ints.UnsignedShort a w is κ d small small' r h = narrow_step k sizes.Word tok.AssignW tok.IndirW tok.Ncw zext16 a w is κ d small small' r
      (grown_narrow tok.AssignW tok.IndirW tok.Ncw a w refl refl refl) (λ m. refl) h
  assign_mem_step k ints.Int a w is κ d small small' r h =
      quiet k _ (tree (plain tok.AssignL) (tree (plain tok.IndirL) (planted a none) (planted w none)) rest_of) (spelled_all is) d _
      (λ m. given (value a d) (λ x. given (value w d) (λ y. written_at is d (stored sizes.Long d.area x y) m)))
      (grown_two (plain tok.AssignL) (plain tok.IndirL ∷ leaves_onto a (leaves_onto w (end_leaf ∷ []))) _ _ _ _ _ refl
      (grown_one (plain tok.IndirL) (leaves_onto a (leaves_onto w (end_leaf ∷ []))) _ _ _ refl (grown_tree a (leaves_onto w (end_leaf ∷ [])) ∙ ap (planted a) (grown_tree w (end_leaf ∷ [])))))
      (λ m. assigned_at is d sizes.Long (seen a d) (seen w d) m
      ∙ ap (λ o. given o (λ x. given (seen w d) (λ y. written_at is d (stored sizes.Long d.area x y) m))) (reads a d small r)
      ∙ ap (λ o. given (value a d) (λ x. given o (λ y. written_at is d (stored sizes.Long d.area x y) m))) (reads w d small' r))
      (on_two k (value a d) (value w d) κ (λ x y. written_at is d (stored sizes.Long d.area x y)) h)

  -- a jump from before some items to a label, and whether it is counted
  abbrev pub is_back : List Item → ℕ → Bool
  is_back is l = not (is_ahead (spelled_all is) l)

  abbrev pub to_label : ℕ → List Item → Desk → Runs
  to_label l is d = jumped (is_back is l) (at_items (behind code l) d)

  -- it is not counted where the label stands ahead
  pub goes_ahead : (k : Depth) (l : ℕ) (is : List Item) (d : Desk) (r : Runs) → IsAhead is l → Leads k r (one_tree (at_items (behind code l) d)) → Leads k r (one_tree (to_label l is d))
  goes_ahead k l is d r ahead h = subst (λ (b : Bool). Leads k r (one_tree (jumped b (at_items (behind code l) d)))) (sym (ap not ahead)) h

  pub goes_on : (k : Depth) (l : ℕ) (is : List Item) (d : Desk) (r : Runs) → IsAhead is l → Leads k r (at_items (behind code l) d) → Leads k r (one_tree (to_label l is d))
  goes_on k l is d r ahead h = goes_ahead k l is d r ahead (leads_quiet k r (at_items (behind code l) d) h)

  is_there : (b : Bool) → not b ≡ false → b ≡ true
  is_there true e = refl
  is_there false e = absurd (cc)

  -- nor is it then from before further items
  pub from_before : (k : Depth) (l : ℕ) (a is : List Item) (d : Desk) (r : Runs) → Leads k r (one_tree (to_label l is d)) → Leads k r (one_tree (to_label l (a ++ is) d))
  from_before k l a is d r h =
      leads_less k r (at_items (behind code l) d) (is_back is l) (is_back (a ++ is) l) (λ e. ap not (ahead_behind l a is (is_there (is_ahead (spelled_all is) l) e))) h

  -- a branch, whose tree is still to be done on both ways
  chosen_step : (k : Depth) (l : ℕ) (b : Bool) (is : List Item) (d : Desk) (r : Runs) → (b ≡ true → Leads k r (one_tree (to_label l is d))) → (b ≡ false → Leads k r (one_tree (at is d)))
      → Leads k r (one_tree (λ m. cond b (to_label l is d m) (at is d m)))
  chosen_step k l true is d r h g = h refl
  chosen_step k l false is d r h g = g refl

  branched_step : (k : Depth) (l : ℕ) (rel : Rel) (o p : Value) (is : List Item) (κ : ℕ → ℕ → Runs) (d : Desk)
      → ((x y : ℕ) → o ≡ Number x → p ≡ Number y → holds rel x y ≡ true → Leads k (κ x y) (one_tree (to_label l is d)))
      → ((x y : ℕ) → o ≡ Number x → p ≡ Number y → holds rel x y ≡ false → Leads k (κ x y) (one_tree (at is d)))
      → Leads k (on o (λ x. on p (κ x))) (one_tree (λ m. given o (λ x. given p (λ y. cond (holds rel x y) (to_label l is d m) (at is d m)))))
  branched_step k l rel (Number x) (Number y) is κ d h g = chosen_step k l (holds rel x y) is d (κ x y) (h x y refl refl) (g x y refl refl)
  branched_step k l rel (Number x) ZeroDivisor is κ d h g = leads_quiet k _ _ (leads_trapped k)
  branched_step k l rel (Number x) Wild is κ d h g = leads_wild k _
  branched_step k l rel ZeroDivisor p is κ d h g = leads_quiet k _ _ (leads_trapped k)
  branched_step k l rel Wild p is κ d h g = leads_wild k _

  pub cbr_step : (k : Depth) (l : ℕ) (rel : Rel) (a b : Tree) (is : List Item) (κ : ℕ → ℕ → Runs) (d : Desk) → SmallTree a → SmallTree b → Ranged (desk_sight d)
      → ((x y : ℕ) → value a d ≡ Number x → value b d ≡ Number y → holds rel x y ≡ true → Leads k (κ x y) (one_tree (to_label l is d)))
      → ((x y : ℕ) → value a d ≡ Number x → value b d ≡ Number y → holds rel x y ≡ false → Leads k (κ x y) (one_tree (at is d)))
      → Leads k (on (value a d) (λ x. on (value b d) (κ x))) (at (Cbr rel l a b ∷ is) d)
  cbr_step k l rel a b is κ d small small' r h g =
      counts k _ (tree (leaf tok.Cbr (att.Branch rel l)) (planted a (planted b none)) rest_of) (spelled_all is) d _
      (λ m. given (value a d) (λ x. given (value b d) (λ y. cond (holds rel x y) (to_label l is d m) (at is d m))))
      (grown_two (leaf tok.Cbr (att.Branch rel l)) (leaves_onto a (leaves_onto b (end_leaf ∷ []))) _ _ _ _ _ refl
      (grown_tree a (leaves_onto b (end_leaf ∷ [])) ∙ ap (planted a) (grown_tree b (end_leaf ∷ []))))
      (λ m. branched_is program m (state (spelled_all is) d) rel l (seen a d) (seen b d)
      ∙ ap (λ o. given o (λ x. given (seen b d) (λ y. cond (holds rel x y) (to_label l is d m) (at is d m)))) (reads a d small r)
      ∙ ap (λ o. given (value a d) (λ x. given o (λ y. cond (holds rel x y) (to_label l is d m) (at is d m)))) (reads b d small' r))
      (branched_step k l rel (value a d) (value b d) is κ d h g)

  pub jump_counts : (k : Depth) (l : ℕ) (is : List Item) (r : Runs) (d : Desk) → Leads k r (one_tree (to_label l is d)) → Leads k r (at (Jump l ∷ is) d)
  jump_counts k l is r d h = counts k _ (tree (leaf tok.Jump (att.Label l)) none rest_of) (spelled_all is) d r (to_label l is d) refl (λ m. refl) h

  pub jump_step : (k : Depth) (l : ℕ) (is : List Item) (r : Runs) (d : Desk) → IsAhead is l → Leads k r (at_items (behind code l) d) → Leads k r (at (Jump l ∷ is) d)
  jump_step k l is r d ahead h = jump_counts k l is r d (goes_on k l is d r ahead h)

  pub push_step : (k : Depth) (w : Tree) (is : List Item) (κ : ℕ → Runs) (d : Desk) → SmallTree w → Ranged (desk_sight d)
      → ((v : ℕ) → value w d ≡ Number v → Leads k (κ v) (at is (record d { pushed = v ∷ d.pushed }))) → Leads k (on (value w d) κ) (at (Push w ∷ is) d)
  push_step k w is κ d small r h =
      quiet k _ (tree (plain tok.Push) (planted w none) rest_of) (spelled_all is) d _ (λ m. given (value w d) (λ v. at is (record d { pushed = v ∷ d.pushed }) m))
      (grown_one (plain tok.Push) (leaves_onto w (end_leaf ∷ [])) _ _ _ refl (grown_tree w (end_leaf ∷ [])))
      (λ m. given_is program m (state (spelled_all is) d) (seen w d) Pushes ∙ ap (λ o. given o (λ v. at is (record d { pushed = v ∷ d.pushed }) m)) (reads w d small r))
      (on_step k (value w d) κ (λ v. at is (record d { pushed = v ∷ d.pushed })) h)

  pub save_step : (k : Depth) (n : ℕ) (is : List Item) (r : Runs) (d : Desk) → Leads k r (at is (record d { locals = with_local d.locals n d.result })) → Leads k r (at (Save n ∷ is) d)
  save_step k n is r d h = quiet k _ (tree (leaf tok.Save (att.Slot n)) none rest_of) (spelled_all is) d r (at is (record d { locals = with_local d.locals n d.result })) refl (λ m. refl) h

  -- a caller goes on with a value
  abbrev pub back : ℕ → List ℕ → List ℕ → Runs
  back v area input = tallies program (returned v callers area input)

  pub ret_step : (k : Depth) (w : Tree) (is : List Item) (κ : ℕ → Runs) (d : Desk) → SmallTree w → Ranged (desk_sight d)
      → ((v : ℕ) → value w d ≡ Number v → Leads k (κ v) (back v d.area d.input)) → Leads k (on (value w d) κ) (at (Ret w ∷ is) d)
  ret_step k w is κ d small r h =
      quiet k _ (tree (plain tok.Ret) (planted w none) rest_of) (spelled_all is) d _ (λ m. given (value w d) (λ v. back v d.area d.input m))
      (grown_one (plain tok.Ret) (leaves_onto w (end_leaf ∷ [])) _ _ _ refl (grown_tree w (end_leaf ∷ [])))
      (λ m. given_is program m (state (spelled_all is) d) (seen w d) Returns ∙ ap (λ o. given o (λ v. back v d.area d.input m)) (reads w d small r))
      (on_step k (value w d) κ (λ v. back v d.area d.input) h)

  -- a call, still to be done
  pub call_counts : (k : Depth) (f n : ℕ) (is : List Item) (r q : Runs) (d : Desk) → ((m : ℕ) → called program (tally program m) (state (spelled_all is) d) f n ≡ q m) → Leads k r (one_tree q)
      → Leads k r (at (Call f n ∷ is) d)
  call_counts k f n is r q d same h = counts k _ (tree (leaf tok.Call (att.Callee f n)) none rest_of) (spelled_all is) d r q refl same h

  -- labels are passed
  coming_same : (o : Option (List Leaf × List TreeItem)) (is js : List TreeItem) (d : Desk) (x : Next) → coming o (activation is d) callers d.area d.input x
      ≡ coming o (activation js d) callers d.area d.input x
  coming_same None is js d x = refl
  coming_same (Some r) is js d x = refl

  pub label_step : (k : Depth) (l : ℕ) (is : List Item) (d : Desk) (r : Runs) → Leads k r (at is d) → Leads k r (at (Label l ∷ is) d)
  label_step k l is d r h =
      subst (λ x. Leads k r (tallies program x))
      (coming_same (ahead (spelled_all is)) (spelled_all is) (tree_item.Label l ∷ spelled_all is) d (returned 0 callers d.area d.input)) h

  pub label_counts : (k : Depth) (l : ℕ) (is : List Item) (d : Desk) (r : Runs) → Leads k r (one_tree (at is d)) → Leads k r (one_tree (at (Label l ∷ is) d))
  label_counts k l is d r h = subst (λ x. Leads k r (one_tree (tallies program x)))
      (coming_same (ahead (spelled_all is)) (spelled_all is) (tree_item.Label l ∷ spelled_all is) d (returned 0 callers d.area d.input)) h
