-- What calm leaves tell of the tree that they spell.
use Rattle.std.proofs.Common.{◌≡◌, ℕ, suc, List, [], ◌∷◌, length, refl, ap, ◌∙◌, subst}
use Rattle.std.specs.Prelude.{Bool, true, false, ◌||◌}
use Rattle.std.specs.List.{list_any}
use Rattle.std.proofs.lemmas.Bool.{or_from}
use Rattle.gg_base.proofs.Facts.{first_false, second_false}
use Rattle.c_types.specs.declared.types.Integer.{Integer}
use Rattle.c_types.specs.declared.types.Integer.TheVariants as ints
use Rattle.tree_core.specs.declared.token.Tok.{Tok}
use Rattle.tree_core.specs.declared.token.Tok.TheVariants as tok
use Rattle.tree_core.specs.declared.tree.Att.TheVariants as att
use Rattle.tree_core.specs.declared.tree.Leaf.{Leaf}
use Rattle.tree_core.specs.Attributes.{end_leaf}
use Rattle.tree_core.specs.Grammar.{kids}
use Rattle.tree_core.specs.Trees.{Forest, none, tree, leaves_onto, firsts, others, grown}
use Rattle.tree_core.specs.Calm.{divides as token_divides, reads_memory, ReadsNothing, CalmBefore, Calm}
use Rattle.c_lower_scheme.specs.Trees.{Tree, Num, Gaddr, Loc, Arg, Indir, Conv, Neg, Com, Bin, Item, Label, AssignLoc, AssignArg, AssignMem, Cbr, Jump, Push, Call, Save, Ret}
use Rattle.c_lower_scheme.specs.Trees.{divides_by, divides, reads}
use Rattle.c_lower_scheme.specs.Spelling.{leaf, plain, constant_token, operator_token, indir_onto, conv_onto, leaves_onto as spelled_onto, assign_onto, spelled}
use Rattle.c_lower_calm.proofs.Trees.{Apart, IsCalm, IsCalmItem, RootIsCalm, constant_leaf, operator_two}

-- Leaves in front of others that are one tree, where calm leaves tell C. Where d is true it divides, and r tells whether it reads.
record Back (s : List Leaf → List Leaf) (d r : Bool) (C : Type 0) : Type 0 where
  forest : Forest → Forest
  grows : (w : List Leaf) → grown (s w) ≡ forest (grown w)
  first : (n : ℕ) (g : Forest) → firsts (suc n) (forest g) ≡ forest (firsts n g)
  other : (n : ℕ) (g : Forest) → others (suc n) (forest g) ≡ others n g
  leaves : (g : Forest) (w : List Leaf) → leaves_onto (forest g) w ≡ s (leaves_onto g w)
  loud : (w : List Leaf) → ReadsNothing (s w) → r ≡ false
  tail : (w : List Leaf) → ReadsNothing (s w) → ReadsNothing w
  deep : d ≡ true → (g : Forest) (w : List Leaf) → CalmBefore (forest g) w → ReadsNothing (leaves_onto g w)
  rest : (g : Forest) (w : List Leaf) → CalmBefore (forest g) w → CalmBefore g w
  back : (g : Forest) (w : List Leaf) → CalmBefore (forest g) w → C

silent_here : (l : Leaf) (w : List Leaf) → ReadsNothing (l ∷ w) → reads_memory l.tok ≡ false
silent_here l w h = first_false (reads_memory l.tok) (list_any (λ (x : Leaf). reads_memory x.tok) w) h

silent_behind : (l : Leaf) (w : List Leaf) → ReadsNothing (l ∷ w) → ReadsNothing w
silent_behind l w h = second_false (reads_memory l.tok) (list_any (λ (x : Leaf). reads_memory x.tok) w) h

leaf_back : (l : Leaf) → kids l.tok ≡ [] → Back (λ w. l ∷ w) false false (Unit {0})
leaf_back l alone = record {
  forest = λ g. tree l none g;
  grows = λ w. ap (λ k. tree l (firsts (length k) (grown w)) (others (length k) (grown w))) alone;
  first = λ n g. refl;
  other = λ n g. refl;
  leaves = λ g w. refl;
  loud = λ w h. refl;
  tail = λ w h. silent_behind l w h;
  deep = λ e. absurd (cc);
  rest = λ g w h. h.2;
  back = λ g w h. tt;
}

-- a token of one kid, which reads memory where q is true
one_back : (l : Leaf) {s : List Leaf → List Leaf} {d r : Bool} {C : Type 0} (q : Bool) → length (kids l.tok) ≡ 1
    → (reads_memory l.tok ≡ false → r ≡ false → q ≡ false) → Back s d r C → Back (λ w. l ∷ s w) d q C
one_back l {s = s} q one reading p = record {
  forest = λ g. tree l (p.forest none) g;
  grows = λ w.
      ap (λ k. tree l (firsts k (grown (s w))) (others k (grown (s w)))) one
      ∙ ap (λ f. tree l (firsts 1 f) (others 1 f)) (p.grows w)
      ∙ ap (λ f. tree l f (others 1 (p.forest (grown w)))) (p.first 0 (grown w))
      ∙ ap (λ f. tree l (p.forest none) f) (p.other 0 (grown w));
  first = λ n g. refl;
  other = λ n g. refl;
  leaves = λ g w. ap (λ v. l ∷ v) (p.leaves none (leaves_onto g w));
  loud = λ w h. reading (silent_here l (s w) h) (p.loud w (silent_behind l (s w) h));
  tail = λ w h. p.tail w (silent_behind l (s w) h);
  deep = λ e g w h. p.deep e none (leaves_onto g w) h.1;
  rest = λ g w h. h.2;
  back = λ g w h. p.back none (leaves_onto g w) h.1;
}

or_cases : {A : Type 0} (a b : Bool) → (a ≡ true → A) → (b ≡ true → A) → a || b ≡ true → A
or_cases true b f g e = f refl
or_cases false b f g e = g e

two_back : (l : Leaf) {s t : List Leaf → List Leaf} {d e r q : Bool} {C D : Type 0} (own : Bool) → length (kids l.tok) ≡ 2
    → (own ≡ true → token_divides l.tok ≡ true) → Back s d r C → Back t e q D
    → Back (λ w. l ∷ s (t w)) (own || (d || e)) (r || q) (C × D × (d ≡ true → q ≡ false))
two_back l {s = s} {t = t} {d = d} {e = e} {r = r} {q = q} own two divide p k = record {
  forest = λ g. tree l (p.forest (k.forest none)) g;
  grows = λ w.
      ap (λ m. tree l (firsts m (grown (s (t w)))) (others m (grown (s (t w))))) two
      ∙ ap (λ f. tree l (firsts 2 f) (others 2 f)) (p.grows (t w) ∙ ap p.forest (k.grows w))
      ∙ ap (λ f. tree l f (others 2 (p.forest (k.forest (grown w))))) (p.first 1 (k.forest (grown w)) ∙ ap p.forest (k.first 0 (grown w)))
      ∙ ap (λ f. tree l (p.forest (k.forest none)) f) (p.other 1 (k.forest (grown w)) ∙ k.other 0 (grown w));
  first = λ n g. refl;
  other = λ n g. refl;
  leaves = λ g w. ap (λ v. l ∷ v) (p.leaves (k.forest none) (leaves_onto g w) ∙ ap s (k.leaves none (leaves_onto g w)));
  loud = λ w h.
      or_from r q (p.loud (t w) (silent_behind l (s (t w)) h)) (k.loud w (p.tail (t w) (silent_behind l (s (t w)) h)));
  tail = λ w h. k.tail w (p.tail (t w) (silent_behind l (s (t w)) h));
  deep = λ x g w h. or_cases own (d || e)
      (λ y. h.0 (divide y))
      (λ y. or_cases d e
      (λ z. k.tail (leaves_onto g w) (subst ReadsNothing (k.leaves none (leaves_onto g w)) (p.deep z (k.forest none) (leaves_onto g w) h.1)))
      (λ z. k.deep z none (leaves_onto g w) (p.rest (k.forest none) (leaves_onto g w) h.1)) y) x;
  rest = λ g w h. h.2;
  back = λ g w h. (
    p.back (k.forest none) (leaves_onto g w) h.1,
    k.back none (leaves_onto g w) (p.rest (k.forest none) (leaves_onto g w) h.1),
    λ z. k.loud (leaves_onto g w) (subst ReadsNothing (k.leaves none (leaves_onto g w)) (p.deep z (k.forest none) (leaves_onto g w) h.1)),
  );
}

pure_back : (t : Tok) {s : List Leaf → List Leaf} {d r : Bool} {C : Type 0} → length (kids t) ≡ 1 → Back s d r C → Back (λ w. plain t ∷ s w) d r C
pure_back t {r = r} one p = one_back (plain t) r one (λ h e. e) p

read_back : (t : Tok) {s : List Leaf → List Leaf} {d r : Bool} {C : Type 0} → length (kids t) ≡ 1 → reads_memory t ≡ true → Back s d r C → Back (λ w. plain t ∷ s w) d true C
read_back t one reading p = one_back (plain t) true one (λ h e. absurd (cc)) p

indir_back : (i : Integer) {s : List Leaf → List Leaf} {d r : Bool} {C : Type 0} → Back s d r C → Back (λ w. indir_onto i (s w)) d true C
indir_back ints.Char p = pure_back tok.Sxb refl (read_back tok.IndirB refl refl p)
indir_back ints.UnsignedChar p = pure_back tok.Zxb refl (read_back tok.IndirB refl refl p)
indir_back ints.Short p = pure_back tok.Sxw refl (read_back tok.IndirW refl refl p)
indir_back ints.UnsignedShort p = pure_back tok.Zxw refl (read_back tok.IndirW refl refl p)
indir_back ints.Int p = read_back tok.IndirL refl refl p

conv_back : (i : Integer) {s : List Leaf → List Leaf} {d r : Bool} {C : Type 0} → Back s d r C → Back (λ w. conv_onto i (s w)) d r C
conv_back ints.Char p = pure_back tok.Sxb refl (pure_back tok.Ncb refl p)
conv_back ints.UnsignedChar p = pure_back tok.Zxb refl (pure_back tok.Ncb refl p)
conv_back ints.Short p = pure_back tok.Sxw refl (pure_back tok.Ncw refl p)
conv_back ints.UnsignedShort p = pure_back tok.Zxw refl (pure_back tok.Ncw refl p)
conv_back ints.Int p = p

tree_back : (w : Tree) → Back (spelled_onto w) (divides w) (reads w) (IsCalm w)
tree_back (Num n) = leaf_back (leaf (constant_token n) (att.Number n)) (constant_leaf n).alone
tree_back (Gaddr n) = leaf_back (leaf tok.Gaddr (att.Object n 0)) refl
tree_back (Loc n) = leaf_back (leaf tok.Loc (att.Slot n)) refl
tree_back (Arg n) = leaf_back (leaf tok.Arg (att.Slot (suc n))) refl
tree_back (Indir i a) = indir_back i (tree_back a)
tree_back (Conv i w) = conv_back i (tree_back w)
tree_back (Neg w) = pure_back tok.Neg refl (tree_back w)
tree_back (Com w) = pure_back tok.Com refl (tree_back w)
tree_back (Bin op a b) =
    let o = operator_two op in
    two_back (plain (operator_token op)) (divides_by op) o.two (λ e. o.own ∙ e) (tree_back a) (tree_back b)

-- what a calm root tells
whole_back : {s : List Leaf → List Leaf} {d r : Bool} {C : Type 0} → Back s d r C → Calm (s (end_leaf ∷ [])) → C
whole_back p h = p.back (tree end_leaf none none) [] (subst (λ f. CalmBefore f []) (p.grows (end_leaf ∷ [])) h)

root_back : (l : Leaf) {s t : List Leaf → List Leaf} {d e r q : Bool} {C D : Type 0} → length (kids l.tok) ≡ 2 → Back s d r C → Back t e q D
    → Back (λ w. l ∷ s (t w)) (false || (d || e)) (r || q) (C × D × (d ≡ true → q ≡ false))
root_back l two p k = two_back l false two (λ e. absurd (cc)) p k

assign_back : (i : Integer) (a w : Tree) → Calm (assign_onto i a w (end_leaf ∷ [])) → IsCalm a × IsCalm w × Apart a w
assign_back ints.Char a w h = whole_back (root_back (plain tok.AssignB) refl (read_back tok.IndirB refl refl (tree_back a)) (pure_back tok.Ncb refl (tree_back w))) h
assign_back ints.UnsignedChar a w h = whole_back (root_back (plain tok.AssignB) refl (read_back tok.IndirB refl refl (tree_back a)) (pure_back tok.Ncb refl (tree_back w))) h
assign_back ints.Short a w h = whole_back (root_back (plain tok.AssignW) refl (read_back tok.IndirW refl refl (tree_back a)) (pure_back tok.Ncw refl (tree_back w))) h
assign_back ints.UnsignedShort a w h = whole_back (root_back (plain tok.AssignW) refl (read_back tok.IndirW refl refl (tree_back a)) (pure_back tok.Ncw refl (tree_back w))) h
assign_back ints.Int a w h = whole_back (root_back (plain tok.AssignL) refl (read_back tok.IndirL refl refl (tree_back a)) (tree_back w)) h

-- an item is calm where its root is
pub item_back : (i : Item) → RootIsCalm (spelled i) → IsCalmItem i
item_back (Label l) h = tt
item_back (AssignLoc n w) h = (whole_back (root_back (plain tok.AssignL) refl (leaf_back (leaf tok.Loc (att.Slot n)) refl) (tree_back w)) h).1
item_back (AssignArg n w) h = (whole_back (root_back (plain tok.AssignL) refl (leaf_back (leaf tok.Arg (att.Slot (suc n))) refl) (tree_back w)) h).1
item_back (AssignMem i a w) h = assign_back i a w h
item_back (Cbr rel l a b) h = whole_back (root_back (leaf tok.Cbr (att.Branch rel l)) refl (tree_back a) (tree_back b)) h
item_back (Jump l) h = tt
item_back (Push w) h = whole_back (pure_back tok.Push refl (tree_back w)) h
item_back (Call f count) h = tt
item_back (Save n) h = tt
item_back (Ret w) h = whole_back (pure_back tok.Ret refl (tree_back w)) h
