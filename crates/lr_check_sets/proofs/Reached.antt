-- Each place and each sum is met in the parse of a real tree, under some answers.
use Rattle.std.proofs.Common.{◌≡◌, ℕ, suc, ◌≤◌, ◌<◌, List, [], ◌∷◌, ◌++◌, Some, Bool, length, take, drop, refl, ap, sym, ◌∙◌, subst, arith, append_assoc}
use Rattle.std.proofs.Common.{length-append, drop_at, take-append-drop, length-take, ap₂}
use Rattle.std.proofs.lemmas.Option.{none-some}
use Rattle.std.proofs.lemmas.Bool.{false≢true}
use Rattle.tree_core.specs.declared.token.Tok.{Tok}
use Rattle.tree_core.specs.declared.token.Tok.TheVariants as tok
use Rattle.tree_core.specs.declared.token.Sort.{Sort}
use Rattle.tree_core.specs.declared.token.Sort.TheVariants as sort
use Rattle.md_reader.specs.declared.types.Sym.{Sym}
use Rattle.md_reader.specs.declared.types.Sym.TheVariants as grammar_symbol
use Rattle.tree_core.specs.Grammar.{kids}
use Rattle.lr_check.specs.Tree.{Token}
use Rattle.lr_check.specs.Parse.{Part, symbols}
use Rattle.lr_check_sets.specs.Trees.{May, Begins, Tree, Trees, node, no_trees, more_trees, root, first}
use Rattle.lr_check_sets.specs.Automaton.{Automaton, Production, shift, reduce, walk, size_of, Free, reduced, IsTable}
use Rattle.lr_check_sets.specs.Loose.{LoosePlace, LoosePartly, LooseSettling, LooseSum, loose_start, loose_kid, loose_opened, loose_with_kid, loose_whole, loose_settled, loose_sum}
use Rattle.lr_check_sets.specs.Answers.{next_token, the_end, leaves, leaves_all, owner, pick, held_reduced, Step, shifts, reduces, Runs, here, then_step}
use Rattle.lr_check_sets.proofs.Walks.{walk-append}
use Rattle.lr_check_sets.proofs.Asks.{Source, reduce_source}

-- trees that begin as asked

a_long : Tree sort.Long
a_long = node tok.Zero refl [] no_trees

a_byte : Tree sort.Byte
a_byte = node tok.Ncb refl [] (more_trees a_long no_trees)

a_word : Tree sort.Word
a_word = node tok.Ncw refl [] (more_trees a_long no_trees)

a_byte_place : Tree sort.PlaceB
a_byte_place = node tok.IndirB refl [] (more_trees a_long no_trees)

a_word_place : Tree sort.PlaceW
a_word_place = node tok.IndirW refl [] (more_trees a_long no_trees)

a_long_place : Tree sort.PlaceL
a_long_place = node tok.Loc refl [] no_trees

tree_from : {x : Sort} (m : Tok) → May m x → Tree x
tree_from tok.Zero h = node tok.Zero h [] no_trees
tree_from tok.One h = node tok.One h [] no_trees
tree_from tok.Two h = node tok.Two h [] no_trees
tree_from tok.Four h = node tok.Four h [] no_trees
tree_from tok.Eight h = node tok.Eight h [] no_trees
tree_from tok.Const h = node tok.Const h [] no_trees
tree_from tok.Gaddr h = node tok.Gaddr h [] no_trees
tree_from tok.Loc h = node tok.Loc h [] no_trees
tree_from tok.Arg h = node tok.Arg h [] no_trees
tree_from tok.IndirB h = node tok.IndirB h [] (more_trees a_long no_trees)
tree_from tok.IndirW h = node tok.IndirW h [] (more_trees a_long no_trees)
tree_from tok.IndirL h = node tok.IndirL h [] (more_trees a_long no_trees)
tree_from tok.Plus h = node tok.Plus h [] (more_trees a_long (more_trees a_long no_trees))
tree_from tok.Minus h = node tok.Minus h [] (more_trees a_long (more_trees a_long no_trees))
tree_from tok.Mul h = node tok.Mul h [] (more_trees a_long (more_trees a_long no_trees))
tree_from tok.Div h = node tok.Div h [] (more_trees a_long (more_trees a_long no_trees))
tree_from tok.Mod h = node tok.Mod h [] (more_trees a_long (more_trees a_long no_trees))
tree_from tok.And h = node tok.And h [] (more_trees a_long (more_trees a_long no_trees))
tree_from tok.Or h = node tok.Or h [] (more_trees a_long (more_trees a_long no_trees))
tree_from tok.Xor h = node tok.Xor h [] (more_trees a_long (more_trees a_long no_trees))
tree_from tok.Lsh h = node tok.Lsh h [] (more_trees a_long (more_trees a_long no_trees))
tree_from tok.Rsh h = node tok.Rsh h [] (more_trees a_long (more_trees a_long no_trees))
tree_from tok.Neg h = node tok.Neg h [] (more_trees a_long no_trees)
tree_from tok.Com h = node tok.Com h [] (more_trees a_long no_trees)
tree_from tok.Sxb h = node tok.Sxb h [] (more_trees a_byte no_trees)
tree_from tok.Zxb h = node tok.Zxb h [] (more_trees a_byte no_trees)
tree_from tok.Sxw h = node tok.Sxw h [] (more_trees a_word no_trees)
tree_from tok.Zxw h = node tok.Zxw h [] (more_trees a_word no_trees)
tree_from tok.Ncb h = node tok.Ncb h [] (more_trees a_long no_trees)
tree_from tok.Ncw h = node tok.Ncw h [] (more_trees a_long no_trees)
tree_from tok.AssignB h = node tok.AssignB h [] (more_trees a_byte_place (more_trees a_byte no_trees))
tree_from tok.AssignW h = node tok.AssignW h [] (more_trees a_word_place (more_trees a_word no_trees))
tree_from tok.AssignL h = node tok.AssignL h [] (more_trees a_long_place (more_trees a_long no_trees))
tree_from tok.Cbr h = node tok.Cbr h [] (more_trees a_long (more_trees a_long no_trees))
tree_from tok.Push h = node tok.Push h [] (more_trees a_long no_trees)
tree_from tok.Ret h = node tok.Ret h [] (more_trees a_long no_trees)
tree_from tok.Call h = node tok.Call h [] no_trees
tree_from tok.Save h = node tok.Save h [] no_trees
tree_from tok.Jump h = node tok.Jump h [] no_trees
tree_from tok.End h = absurd (false≢true h)

root-tree_from : (x : Sort) (m : Tok) (h : May m x) → root (tree_from m h) ≡ m
unfolding tree_from
root-tree_from x tok.Zero h = refl
root-tree_from x tok.One h = refl
root-tree_from x tok.Two h = refl
root-tree_from x tok.Four h = refl
root-tree_from x tok.Eight h = refl
root-tree_from x tok.Const h = refl
root-tree_from x tok.Gaddr h = refl
root-tree_from x tok.Loc h = refl
root-tree_from x tok.Arg h = refl
root-tree_from x tok.IndirB h = refl
root-tree_from x tok.IndirW h = refl
root-tree_from x tok.IndirL h = refl
root-tree_from x tok.Plus h = refl
root-tree_from x tok.Minus h = refl
root-tree_from x tok.Mul h = refl
root-tree_from x tok.Div h = refl
root-tree_from x tok.Mod h = refl
root-tree_from x tok.And h = refl
root-tree_from x tok.Or h = refl
root-tree_from x tok.Xor h = refl
root-tree_from x tok.Lsh h = refl
root-tree_from x tok.Rsh h = refl
root-tree_from x tok.Neg h = refl
root-tree_from x tok.Com h = refl
root-tree_from x tok.Sxb h = refl
root-tree_from x tok.Zxb h = refl
root-tree_from x tok.Sxw h = refl
root-tree_from x tok.Zxw h = refl
root-tree_from x tok.Ncb h = refl
root-tree_from x tok.Ncw h = refl
root-tree_from x tok.AssignB h = refl
root-tree_from x tok.AssignW h = refl
root-tree_from x tok.AssignL h = refl
root-tree_from x tok.Cbr h = refl
root-tree_from x tok.Push h = refl
root-tree_from x tok.Ret h = refl
root-tree_from x tok.Call h = refl
root-tree_from x tok.Save h = refl
root-tree_from x tok.Jump h = refl
root-tree_from x tok.End h = absurd (false≢true h)

some_tree : (x : Sort) → Tree x
some_tree sort.Stmt = node tok.Jump refl [] no_trees
some_tree sort.Long = a_long
some_tree sort.Byte = a_byte
some_tree sort.Word = a_word
some_tree sort.PlaceB = a_byte_place
some_tree sort.PlaceW = a_word_place
some_tree sort.PlaceL = a_long_place

pub some_trees : (xs : List Sort) → Trees xs
some_trees [] = no_trees
some_trees (x ∷ xs) = more_trees (some_tree x) (some_trees xs)

fill : (xs : List Sort) (t m : Tok) → Begins xs t m → Trees xs
fill [] t m h = no_trees
fill (x ∷ xs) t m h = more_trees (tree_from m h) (some_trees xs)

first-fill : (xs : List Sort) (t m : Tok) (h : Begins xs t m) → first (fill xs t m h) t ≡ m
unfolding fill
first-fill [] t m h = sym h
first-fill (x ∷ xs) t m h = root-tree_from x m h

pub next-leaves : {xs : List Sort} (vs : Trees xs) (w : List Token) (t : Tok) → next_token w ≡ Some t → next_token (leaves_all vs w) ≡ Some (first vs t)
next-leaves no_trees w t e = e
next-leaves (more_trees (node k may b ws) vs) w t e = refl

part_begins : {A : Automaton} {q : ℕ} {k t : Tok} {s : List Sym} {xs : List Sort} {n : Tok} → LoosePartly A q k t s xs n → Begins xs t n
part_begins (loose_opened place g b) = b
part_begins (loose_with_kid part ws b s) = b

-- runs one after another
pub runs-append : {A : Automaton} {a b c : List Part} {u v w : List Token} → Runs A a u b v → Runs A b v c w → Runs A a u c w
runs-append r here = r
runs-append r (then_step s x) = then_step (runs-append r s) x

-- the symbols of a right side, whose answers the deepest has
abbrev pub hold : List Sym → List Bool → List Part
hold [] b = []
hold (X ∷ []) b = record { symbol = X; answers = b } ∷ []
hold (X ∷ Y ∷ s) b = record { symbol = X; answers = [] } ∷ hold (Y ∷ s) b

pub symbols-hold : (s : List Sym) (b : List Bool) → symbols (hold s b) ≡ s
symbols-hold [] b = refl
symbols-hold (X ∷ []) b = refl
symbols-hold (X ∷ Y ∷ s) b = ap (λ l. X ∷ l) (symbols-hold (Y ∷ s) b)

pub length-hold : (s : List Sym) (b : List Bool) → length (hold s b) ≡ length s
length-hold [] b = refl
length-hold (X ∷ []) b = refl
length-hold (X ∷ Y ∷ s) b = ap suc (length-hold (Y ∷ s) b)

pub owner-hold : (right s : List Sym) (b : List Bool) (y : List Part) → length right ≡ length s → 0 < length right → owner right (hold s b ++ y) ≡ b
owner-hold [] s b y e lt = absurd (omega arith)
owner-hold (Z ∷ right) [] b y e lt = absurd (omega arith)
owner-hold (Z ∷ []) (X ∷ []) b y e lt = refl
owner-hold (Z ∷ []) (X ∷ Y ∷ s) b y e lt = absurd (omega arith)
owner-hold (Z ∷ V ∷ right) (X ∷ []) b y e lt = absurd (omega arith)
owner-hold (Z ∷ V ∷ right) (X ∷ Y ∷ s) b y e lt = owner-hold (V ∷ right) (Y ∷ s) b y (omega arith) (omega arith)

pub symbols-append : (a b : List Part) → symbols (a ++ b) ≡ symbols a ++ symbols b
symbols-append [] b = refl
symbols-append (h ∷ a) b = ap (λ l. h.symbol ∷ l) (symbols-append a b)

-- A subtree with some kids to come: its parse leads from some answers of the stack below to the answers that are wished.
pub record PartRuns (A : Automaton) (k t : Tok) (xs : List Sort) (n : Tok) (y : List Part) (a : List Sym) : Type 0 where
  pub all_kids : Trees xs → Trees (kids k)
  pub answers : List Bool
  pub source : List Part
  pub same : symbols source ≡ a
  pub runs : (vs : Trees xs) (w : List Token) → first vs t ≡ n → next_token w ≡ Some t → Runs A source (record { tok = k; answers = answers } ∷ leaves_all (all_kids vs) w) y (leaves_all vs w)

-- the same for a whole subtree
pub record TreeRuns (A : Automaton) (k t : Tok) (y : List Part) (a : List Sym) : Type 0 where
  pub its_kids : Trees (kids k)
  pub answers : List Bool
  pub source : List Part
  pub same : symbols source ≡ a
  pub runs : (w : List Token) → next_token w ≡ Some t → Runs A source (record { tok = k; answers = answers } ∷ leaves_all its_kids w) y w

-- a whole tree round a subtree that begins with k
pub record PlaceRuns (A : Automaton) (k t : Tok) (y : List Part) : Type 0 where
  pub rest : List Token
  pub next : next_token rest ≡ Some t
  pub round : List Bool → Trees (kids k) → Tree sort.Stmt
  pub runs : (b : List Bool) (vs : Trees (kids k)) → Runs A [] (leaves (round b vs) the_end) y (record { tok = k; answers = b } ∷ leaves_all vs rest)

pub record MetPlace (A : Automaton) (q : ℕ) (k t : Tok) : Type 0 where
  pub below : List Sym
  pub at : walk A 0 below ≡ Some q
  pub reached : (y : List Part) → symbols y ≡ below → PlaceRuns A k t y

abbrev pub MetPart : Automaton → ℕ → Tok → Tok → List Sym → List Sort → Tok → Type 0
MetPart A q k t s xs n = (a : List Sym) (y : List Part) → walk A 0 a ≡ Some q → symbols y ≡ s ++ a → PartRuns A k t xs n y a

abbrev pub MetTree : Automaton → ℕ → Tok → Tok → List Sym → Type 0
MetTree A q k t s = (a : List Sym) (y : List Part) → walk A 0 a ≡ Some q → symbols y ≡ s ++ a → TreeRuns A k t y a

-- one shift, alone
pub shift_runs : {A : Automaton} {k : Tok} {a : List Sym} {q : ℕ} (h : Part) (x : List Part) (w : List Token) → walk A 0 a ≡ Some q → A.candidates q k ≡ shift ∷ [] → h.symbol ≡ grammar_symbol.Tok k →
    symbols x ≡ a → Runs A x (record { tok = k; answers = h.answers } ∷ w) (h ∷ x) w
shift_runs {A = A} {k = k} {a = a} {q = q} h x w at alone hd tl =
    let step : Step A x (record { tok = k; answers = h.answers } ∷ w) (record { symbol = grammar_symbol.Tok k; answers = h.answers } ∷ x) w =
    shifts (ap (walk A 0) tl ∙ at) (ap (λ cs. pick cs x) alone) in
    then_step here (subst (λ z. Step A x (record { tok = k; answers = h.answers } ∷ w) (record { symbol = z; answers = h.answers } ∷ x) w) (sym hd) step)

module _ (A : Automaton) (table : IsTable A) where
  opened_runs : (q : ℕ) (k t : Tok) (p : ℕ) (n : Tok) → A.go q (grammar_symbol.Tok k) ≡ Some p → MetPart A q k t (grammar_symbol.Tok k ∷ []) (kids k) n
  opened_runs q k t p n go a [] at e = absurd (unlike e)
    where
      unlike : [] ≡ grammar_symbol.Tok k ∷ a → ⊥
      unlike e = cc
  opened_runs q k t p n go a (h ∷ x) at e = record {
    all_kids = λ vs. vs;
    answers = h.answers;
    source = x;
    same = tail e;
    runs = λ vs w f g. shift_runs h x (leaves_all vs w) at (table.shift_alone a q k p at go) (head e) (tail e);
  }
    where
      head : h.symbol ∷ symbols x ≡ grammar_symbol.Tok k ∷ a → h.symbol ≡ grammar_symbol.Tok k
      head e = cc

      tail : h.symbol ∷ symbols x ≡ grammar_symbol.Tok k ∷ a → symbols x ≡ a
      tail e = cc

  kid_place : (q : ℕ) (k t : Tok) (s : List Sym) (x : Sort) (xs : List Sort) (n : Tok) (p : ℕ) (m : Tok) → May n x → walk A q s ≡ Some p → Begins xs t m → MetPlace A q k t →
      MetPart A q k t s (x ∷ xs) n → MetPlace A p n m
  kid_place q k t s x xs n p m may ws bg place part = record {
    below = s ++ place.below;
    at = walk-append A 0 q s place.below place.at ∙ ws;
    reached = λ y e.
        let pr : PartRuns A k t (x ∷ xs) n y place.below = part place.below y place.at e in
        let cr : PlaceRuns A k t pr.source = place.reached pr.source pr.same in
        let others : Trees xs = fill xs t m bg in
        record {
          rest = leaves_all others cr.rest;
          next = next-leaves others cr.rest t cr.next ∙ ap Some (first-fill xs t m bg);
          round = λ b vs. cr.round pr.answers (pr.all_kids (more_trees (node n may b vs) others));
          runs = λ b vs. runs-append (cr.runs pr.answers (pr.all_kids (more_trees (node n may b vs) others))) (pr.runs (more_trees (node n may b vs) others) cr.rest refl cr.next);
        };
  }

  kid_part : (q : ℕ) (k t : Tok) (s : List Sym) (x : Sort) (xs : List Sort) (n : Tok) (p : ℕ) (m : Tok) (s' : List Sym) → May n x → walk A q s ≡ Some p → MetPart A q k t s (x ∷ xs) n →
      MetTree A p n m s' → MetPart A q k t (s' ++ s) xs m
  kid_part q k t s x xs n p m s' may ws part kid a y at e =
      let tr : TreeRuns A n m y (s ++ a) = kid (s ++ a) y (walk-append A 0 q s a at ∙ ws) (e ∙ append_assoc s' s a) in
      let pr : PartRuns A k t (x ∷ xs) n tr.source a = part a tr.source at tr.same in
      record {
        all_kids = λ vs. pr.all_kids (more_trees (node n may tr.answers tr.its_kids) vs);
        answers = pr.answers;
        source = pr.source;
        same = pr.same;
        runs = λ vs w f g. runs-append (pr.runs (more_trees (node n may tr.answers tr.its_kids) vs) w refl g) (tr.runs (leaves_all vs w) (next-leaves vs w t g ∙ ap Some f));
      }

  -- the stack before a reduction, with the answers that make it and those that are wished behind it
  pub record Back (t : Tok) (y : List Part) (a : List Sym) : Type 0 where
    pub source : List Part
    pub same : symbols source ≡ a
    pub step : (w : List Token) → next_token w ≡ Some t → Step A source w y w

  pub reduce_back : (t : Tok) (s : List Sym) (a : List Sym) (p : ℕ) (r : Production) (y : List Part) → walk A 0 (s ++ a) ≡ Some p → Free (A.candidates p t) (reduce r) → size_of r ≤ length s →
      symbols y ≡ reduced r s ++ a → Back t y (s ++ a)
  reduce_back t s a p r [] at f le e = absurd (unlike e)
    where
      unlike : [] ≡ grammar_symbol.Class r.left ∷ (drop (size_of r) s ++ a) → ⊥
      unlike e = cc
  reduce_back t s a p r (h ∷ y) at f le e =
      let top : List Part = hold (take (size_of r) s) h.answers in
      let size : length (take (size_of r) s) ≡ size_of r = omega (arith, length-take (size_of r) s) in
      let some : 0 < size_of r = table.nonempty (s ++ a) p t r at f in
      let both : symbols (top ++ y) ≡ s ++ a =
      symbols-append top y ∙ (ap₂ (λ u v. u ++ v) (symbols-hold (take (size_of r) s) h.answers) (tail e)
      ∙ (sym (append_assoc (take (size_of r) s) (drop (size_of r) s) a) ∙ ap (λ l. l ++ a) (take-append-drop (size_of r) s))) in
      let long : size_of r ≤ length (top ++ y) = omega (arith, size, length-append top y, length-hold (take (size_of r) s) h.answers) in
      let src : Source (A.candidates p t) (Some (reduce r)) (top ++ y) = reduce_source (A.candidates p t) r (top ++ y) f some long in
      let it : held_reduced r (top ++ y) ≡ h ∷ y =
      ap₂ (λ u v. u ∷ v)
      (ap₂ (λ u v. record { symbol = u; answers = v }) (sym (head e)) (owner-hold r.right (take (size_of r) s) h.answers y (sym size) some))
      (drop_at top y (size_of r) (length-hold (take (size_of r) s) h.answers ∙ size)) in
      record {
        source = src.stack;
        same = src.same ∙ both;
        step = λ w g. by_step src.stack (top ++ y) w g (ap (walk A 0) (src.same ∙ both) ∙ at) src.picks it;
      }
    where
      head : h.symbol ∷ symbols y ≡ grammar_symbol.Class r.left ∷ (drop (size_of r) s ++ a) → h.symbol ≡ grammar_symbol.Class r.left
      head e = cc

      tail : h.symbol ∷ symbols y ≡ grammar_symbol.Class r.left ∷ (drop (size_of r) s ++ a) → symbols y ≡ drop (size_of r) s ++ a
      tail e = cc

      by_step : (u z : List Part) (w : List Token) → next_token w ≡ Some t → walk A 0 (symbols u) ≡ Some p → pick (A.candidates p t) u ≡ record { taken = Some (reduce r); stack = z } →
          held_reduced r z ≡ h ∷ y → Step A u w (h ∷ y) w
      by_step u z [] g at pk it = absurd (none-some t g)
      by_step u z (d ∷ w) g at pk it =
          let same : d.tok ≡ t = cc in
          subst (λ l. Step A u (d ∷ w) l (d ∷ w)) it (reduces at (subst (λ m. pick (A.candidates p m) u ≡ record { taken = Some (reduce r); stack = z }) (sym same) pk))

  settled_tree : (q : ℕ) (k t : Tok) (s : List Sym) (p : ℕ) (r : Production) → walk A q s ≡ Some p → Free (A.candidates p t) (reduce r) → size_of r ≤ length s → MetTree A q k t s →
      MetTree A q k t (reduced r s)
  settled_tree q k t s p r ws f le tree a y at e =
      let back : Back t y (s ++ a) = reduce_back t s a p r y (walk-append A 0 q s a at ∙ ws) f le e in
      let tr : TreeRuns A k t back.source a = tree a back.source at back.same in
      record {
        its_kids = tr.its_kids;
        answers = tr.answers;
        source = tr.source;
        same = tr.same;
        runs = λ w g. then_step (tr.runs w g) (back.step w g);
      }

  whole_tree : (q : ℕ) (k t : Tok) (s : List Sym) → MetPart A q k t s [] t → MetTree A q k t s
  whole_tree q k t s part a y at e =
      let pr : PartRuns A k t [] t y a = part a y at e in
      record {
        its_kids = pr.all_kids no_trees;
        answers = pr.answers;
        source = pr.source;
        same = pr.same;
        runs = λ w g. pr.runs no_trees w refl g;
      }

  start_place : (k : Tok) → May k sort.Stmt → MetPlace A 0 k tok.End
  start_place k may = record {
    below = [];
    at = refl;
    reached = start_reached;
  }
    where
      start_reached : (y : List Part) → symbols y ≡ [] → PlaceRuns A k tok.End y
      start_reached [] e = record {
        rest = the_end;
        next = refl;
        round = λ b vs. node k may b vs;
        runs = λ b vs. here;
      }
      start_reached (h ∷ y) e = absurd (unlike e)
        where
          unlike : h.symbol ∷ symbols y ≡ [] → ⊥
          unlike e = cc

  -- the four sets, each by its own derivations
  mutual
    pub met_place : {q : ℕ} {k t : Tok} → LoosePlace A q k t → MetPlace A q k t
    met_place (loose_start {k = k} may) = start_place k may
    met_place (loose_kid {q = q} {k = k} {t = t} {s = s} {x = x} {xs = xs} {n = n} {p = p} {m = m} part ws bg) =
        let both : MetPlace A q k t × MetPart A q k t s (x ∷ xs) n = met_part part in
        kid_place q k t s x xs n p m (part_begins part) ws bg both.0 both.1

    pub met_part : {q : ℕ} {k t : Tok} {s : List Sym} {xs : List Sort} {n : Tok} → LoosePartly A q k t s xs n → MetPlace A q k t × MetPart A q k t s xs n
    met_part (loose_opened {q = q} {k = k} {t = t} {p = p} {n = n} place go bg) = (met_place place, opened_runs q k t p n go)
    met_part (loose_with_kid {q = q} {k = k} {t = t} {s = s} {x = x} {xs = xs} {n = n} {p = p} {m = m} {s' = s'} part ws bg kid) =
        let both : MetPlace A q k t × MetPart A q k t s (x ∷ xs) n = met_part part in
        let ks : MetPlace A p n m × MetTree A p n m s' = met_sum kid in
        (both.0, kid_part q k t s x xs n p m s' (part_begins part) ws both.1 ks.1)

    pub met_settling : {q : ℕ} {k t : Tok} {s : List Sym} → LooseSettling A q k t s → MetPlace A q k t × MetTree A q k t s
    met_settling (loose_whole {q = q} {k = k} {t = t} {s = s} part) =
        let both : MetPlace A q k t × MetPart A q k t s [] t = met_part part in
        (both.0, whole_tree q k t s both.1)
    met_settling (loose_settled {q = q} {k = k} {t = t} {s = s} {p = p} r set ws f le) =
        let both : MetPlace A q k t × MetTree A q k t s = met_settling set in
        (both.0, settled_tree q k t s p r ws f le both.1)

    pub met_sum : {q : ℕ} {k t : Tok} {s : List Sym} → LooseSum A q k t s → MetPlace A q k t × MetTree A q k t s
    met_sum (loose_sum c set ws f o) = met_settling set
