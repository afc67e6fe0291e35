-- With reductions of whole lists alone, each sum has a tree with answers of its own, whatever stands below it.
use Rattle.std.proofs.Common.{◌≡◌, ℕ, zero, suc, ◌+◌, ◌-◌, ◌≤◌, ◌<◌, List, [], ◌∷◌, ◌++◌, Option, Some, None, Bool, true, false, length, take, drop, refl, ap, sym, ◌∙◌, inl, inr}
use Rattle.std.proofs.Common.{⊎_elim, subst, arith, append_assoc, length-append, take_at, one-add}
use Rattle.std.proofs.lemmas.Bool.{cases_lt}
use Rattle.std.proofs.lemmas.Option.{none-some, same_Some}
use Rattle.std.proofs.lemmas.List.{append_cancel_left}
use Rattle.md_reader.specs.declared.types.Sym.{Sym}
use Rattle.lr_check.specs.Parse.{Part, symbols}
use Rattle.lr_check_sets.specs.Automaton.{Automaton, Production, Candidate, shift, reduce, walk, size_of, Free}
use Rattle.lr_check_sets.specs.Answers.{pick}
use Rattle.lr_check_sets.proofs.Asks.{push, pick_free, pick_yes, pick_no}
use Rattle.lr_check_sets.specs.Shapes.{wanted, IsTree}
use Rattle.lr_check_sets.proofs.Shapes.{wanted-append, wanted-none, wanted-more, wanted-zero, tree_some, cut}
use Rattle.lr_check_sets.proofs.Reached.{hold, length-hold}
use Rattle.lr_check_sets.proofs.Tables.{reduce_same, shift_reduce}

-- a no more for the symbol at a depth
abbrev pub push_at : ℕ → List Part → List Part
push_at d [] = []
push_at zero (h ∷ a) = record { symbol = h.symbol; answers = false ∷ h.answers } ∷ a
push_at (suc d) (h ∷ a) = h ∷ push_at d a

abbrev pub pushes : List ℕ → List Part → List Part
pushes [] z = z
pushes (d ∷ ds) z = push_at d (pushes ds z)

symbols-push_at : (d : ℕ) (z : List Part) → symbols (push_at d z) ≡ symbols z
symbols-push_at d [] = refl
symbols-push_at zero (h ∷ a) = refl
symbols-push_at (suc d) (h ∷ a) = ap (λ l. h.symbol ∷ l) (symbols-push_at d a)

pub symbols-pushes : (ds : List ℕ) (z : List Part) → symbols (pushes ds z) ≡ symbols z
symbols-pushes [] z = refl
symbols-pushes (d ∷ ds) z = symbols-push_at d (pushes ds z) ∙ symbols-pushes ds z

pub pushes-append : (ds es : List ℕ) (z : List Part) → pushes (ds ++ es) z ≡ pushes ds (pushes es z)
pushes-append [] es z = refl
pushes-append (d ∷ ds) es z = ap (push_at d) (pushes-append ds es z)

-- a push by a right side is a push at a depth
pub push_is : (right : List Sym) (d : ℕ) (z : List Part) → length right ≡ suc d → push right false z ≡ push_at d z
push_is right d [] e = refl
push_is [] d (h ∷ a) e = absurd (omega arith)
push_is (X ∷ []) zero (h ∷ a) e = refl
push_is (X ∷ []) (suc d) (h ∷ a) e = absurd (omega arith)
push_is (X ∷ Y ∷ right) zero (h ∷ a) e = absurd (omega arith)
push_is (X ∷ Y ∷ right) (suc d) (h ∷ a) e = ap (λ l. h ∷ l) (push_is (Y ∷ right) d a (omega arith))

-- at the root of a list, and below it
pub push-root : (right s : List Sym) (x : Bool) (b : List Bool) (z : List Part) → length right ≡ length s → 0 < length s → push right x (hold s b ++ z) ≡ hold s (x ∷ b) ++ z
push-root right [] x b z e lt = absurd (omega arith)
push-root [] (X ∷ s) x b z e lt = absurd (omega arith)
push-root (Y ∷ []) (X ∷ []) x b z e lt = refl
push-root (Y ∷ V ∷ right) (X ∷ []) x b z e lt = absurd (omega arith)
push-root (Y ∷ []) (X ∷ W ∷ s) x b z e lt = absurd (omega arith)
push-root (Y ∷ V ∷ right) (X ∷ W ∷ s) x b z e lt = ap (λ l. record { symbol = X; answers = [] } ∷ l) (push-root (V ∷ right) (W ∷ s) x b z (omega arith) (omega arith))

pub push-below : (right s : List Sym) (d : ℕ) (b : List Bool) (z : List Part) → length right ≡ length s + suc d → 0 < length s → push right false (hold s b ++ z) ≡ hold s b ++ push_at d z
push-below right [] d b z e lt = absurd (omega arith)
push-below [] (X ∷ s) d b z e lt = absurd (omega arith)
push-below (Y ∷ []) (X ∷ s) d b z e lt = absurd (omega arith)
push-below (Y ∷ V ∷ right) (X ∷ []) d b z e lt = ap (λ l. record { symbol = X; answers = b } ∷ l) (push_is (V ∷ right) d z (omega arith))
push-below (Y ∷ V ∷ right) (X ∷ W ∷ s) d b z e lt = ap (λ l. record { symbol = X; answers = [] } ∷ l) (push-below (V ∷ right) (W ∷ s) d b z (omega arith) (omega arith))

pub push_at-root : (s : List Sym) (d : ℕ) (b : List Bool) (z : List Part) → length s ≡ suc d → push_at d (hold s b ++ z) ≡ hold s (false ∷ b) ++ z
push_at-root [] d b z e = absurd (omega arith)
push_at-root (X ∷ []) zero b z e = refl
push_at-root (X ∷ []) (suc d) b z e = absurd (omega arith)
push_at-root (X ∷ W ∷ s) zero b z e = absurd (omega arith)
push_at-root (X ∷ W ∷ s) (suc d) b z e = ap (λ l. record { symbol = X; answers = [] } ∷ l) (push_at-root (W ∷ s) d b z (omega arith))

pub push_at-below : (s : List Sym) (d e : ℕ) (b : List Bool) (z : List Part) → d ≡ length s + e → push_at d (hold s b ++ z) ≡ hold s b ++ push_at e z
push_at-below [] d e b z h = let same : d ≡ e = omega arith in ap (λ n. push_at n z) same
push_at-below (X ∷ s) zero e b z h = absurd (omega arith)
push_at-below (X ∷ []) (suc d) e b z h = let same : d ≡ e = omega arith in ap (λ n. record { symbol = X; answers = b } ∷ push_at n z) same
push_at-below (X ∷ W ∷ s) (suc d) e b z h = ap (λ l. record { symbol = X; answers = [] } ∷ l) (push_at-below (W ∷ s) d e b z (omega arith))

pub hold-append : (s' s : List Sym) (b : List Bool) → 0 < length s → hold (s' ++ s) b ≡ hold s' [] ++ hold s b
hold-append [] s b lt = refl
hold-append (X ∷ []) [] b lt = absurd (omega arith)
hold-append (X ∷ []) (W ∷ s) b lt = refl
hold-append (X ∷ Y ∷ s') s b lt = ap (λ l. record { symbol = X; answers = [] } ∷ l) (hold-append (Y ∷ s') s b lt)

-- the candidates go from long to short, as far as answers reach
abbrev pub GoesDown : List Candidate → Type 0
GoesDown [] = Unit {0}
GoesDown (shift ∷ cs) = Unit {0}
GoesDown (reduce x ∷ cs) = ((y : Production) → Free cs (reduce y) → size_of y ≤ size_of x) × GoesDown cs

-- each depth is that of a right side that reaches down to there
abbrev pub DeepIn : List Sym → List ℕ → Type 0
DeepIn a [] = Unit {0}
DeepIn a (d ∷ ds) = ((d < length a) × (wanted 1 (take (d + 1) a) ≡ Some 1)) × DeepIn a ds

pub deep-append : (a : List Sym) (ds es : List ℕ) → DeepIn a ds → DeepIn a es → DeepIn a (ds ++ es)
deep-append a [] es h g = g
deep-append a (d ∷ ds) es h g = (h.0, deep-append a ds es h.1 g)

-- below a tree, one more is wanted before it
pub one_more : (s u : List Sym) → IsTree s → wanted 1 (s ++ u) ≡ Some 0 → wanted 1 u ≡ Some 1
one_more s u tree h = go (wanted 1 u) refl
  where
    go : (w : Option ℕ) → wanted 1 u ≡ w → wanted 1 u ≡ Some 1
    go None f = absurd (none-some 0 (sym (wanted-none 1 s u f) ∙ h))
    go (Some zero) f = absurd (none-some 0 (sym (wanted-zero s (tree_some s tree)) ∙ (sym (wanted-append 1 0 s u f) ∙ h)))
    go (Some (suc j)) f =
        let more : wanted (1 + j) s ≡ Some (0 + j) = wanted-more 1 0 j s tree in
        let all : wanted (suc j) s ≡ Some 0 = sym (wanted-append 1 (suc j) s u f) ∙ h in
        let none : 0 + j ≡ 0 = same_Some (0 + j) 0 (sym more ∙ (ap (λ n. wanted n s) (one-add j) ∙ all)) in
        f ∙ ap Some (omega arith)

-- below an unfinished list that wants one, one is wanted
pub one_still : (s u : List Sym) (l : ℕ) → wanted 1 s ≡ Some (suc l) → 0 < length s → wanted 1 (s ++ u) ≡ Some 1 → wanted 1 u ≡ Some 1
one_still s u l still some h = go (wanted 1 u) refl
  where
    go : (w : Option ℕ) → wanted 1 u ≡ w → wanted 1 u ≡ Some 1
    go None f = absurd (none-some 1 (sym (wanted-none 1 s u f) ∙ h))
    go (Some zero) f = absurd (none-some 1 (sym (wanted-zero s some) ∙ (sym (wanted-append 1 0 s u f) ∙ h)))
    go (Some (suc j)) f =
        let more : wanted (1 + j) s ≡ Some (suc l + j) = wanted-more 1 (suc l) j s still in
        let all : wanted (suc j) s ≡ Some 1 = sym (wanted-append 1 (suc j) s u f) ∙ h in
        let one : suc l + j ≡ 1 = same_Some (suc l + j) 1 (sym more ∙ (ap (λ n. wanted n s) (one-add j) ∙ all)) in
        f ∙ ap Some (omega arith)

-- what a parse inside a list asks of the list's root and of what stands below
pub record Asked (A : Automaton) (q : ℕ) (s : List Sym) (cs : List Candidate) (r : Production) : Type 0 where
  pub root : List Bool
  pub depths : List ℕ
  pub deep : (a : List Sym) → walk A 0 a ≡ Some q → DeepIn a depths
  pub picks : (b : List Bool) (z : List Part) → pick cs (hold s (root ++ b) ++ pushes depths z) ≡ record { taken = Some (reduce r); stack = hold s b ++ z }

-- a right side on a stack: the list and some symbols below it
pub reaches : (s a top below : List Sym) (d : ℕ) → s ++ a ≡ top ++ below → length top ≡ length s + suc d → (d < length a) × (top ≡ s ++ take (d + 1) a)
reaches s a top below d e size =
    let rest : List Sym = drop (length s) top in
    let split : top ≡ s ++ rest = cut top below s a (sym e) (omega arith) in
    let long : length rest ≡ d + 1 = omega (arith, ap length split, length-append s rest) in
    let lower : a ≡ rest ++ below = append_cancel_left s a (rest ++ below) (e ∙ (ap (λ l. l ++ below) split ∙ append_assoc s rest below)) in
    (omega (arith, ap length lower, length-append rest below), split ∙ ap (λ l. s ++ l) (sym (ap (take (d + 1)) lower ∙ take_at rest below (d + 1) long)))

module _ (A : Automaton) (q : ℕ) (s : List Sym) (tree : IsTree s) (r : Production) (loose_whole : size_of r ≡ length s) where
  pub asked_of : (cs : List Candidate) → ((x : Production) → Free cs (reduce x) → (a : List Sym) → walk A 0 a ≡ Some q →
      (top below : List Sym) × ((s ++ a ≡ top ++ below) × (length top ≡ size_of x) × IsTree top)) → GoesDown cs → Free cs (reduce r) → Asked A q s cs r
  asked_of [] on down f = absurd f
  asked_of (shift ∷ cs) on down f = absurd (shift_reduce r f)
  asked_of (reduce x ∷ cs) on down f =
      ⊎_elim
      (λ e. let same : r ≡ x = reduce_same r x e in here x cs same x.asks refl)
      (λ h. declined x cs h.0 (down.0 r h.1) (λ a at. on x (inl refl) a at) (asked_of cs (λ y g a at. on y (inr (h.0, g)) a at) down.1 h.1))
      f
    where
      here : (x : Production) (cs : List Candidate) → r ≡ x → (b : Bool) → x.asks ≡ b → Asked A q s (reduce x ∷ cs) r
      here x cs same false e = record {
        root = [];
        depths = [];
        deep = λ a at. tt;
        picks = λ b z. subst (λ y. pick (reduce x ∷ cs) (hold s b ++ z) ≡ record { taken = Some (reduce y); stack = hold s b ++ z }) (sym same) (pick_free x cs (hold s b ++ z) e);
      }
      here x cs same true e =
          let size : size_of x ≡ length s = ap size_of (sym same) ∙ loose_whole in
          record {
            root = true ∷ [];
            depths = [];
            deep = λ a at. tt;
            picks = λ b z.
                ap (pick (reduce x ∷ cs)) (sym (push-root x.right s true b z size (tree_some s tree)))
                ∙ subst (λ y. pick (reduce x ∷ cs) (push x.right true (hold s b ++ z)) ≡ record { taken = Some (reduce y); stack = hold s b ++ z }) (sym same)
                (pick_yes x cs (hold s b ++ z) e (omega (arith, tree_some s tree)) (omega (arith, length-append (hold s b) z, length-hold s b)));
          }

      declined : (x : Production) (cs : List Candidate) → x.asks ≡ true → size_of r ≤ size_of x →
          ((a : List Sym) → walk A 0 a ≡ Some q → (top below : List Sym) × ((s ++ a ≡ top ++ below) × (length top ≡ size_of x) × IsTree top)) → Asked A q s cs r → Asked A q s (reduce x ∷ cs) r
      declined x cs e le on k = ⊎_elim longer equal (cases_lt (length s) (size_of x))
        where
          equal : size_of x ≤ length s → Asked A q s (reduce x ∷ cs) r
          equal ge = record {
            root = false ∷ k.root;
            depths = k.depths;
            deep = k.deep;
            picks = λ b z.
                ap (pick (reduce x ∷ cs)) (sym (push-root x.right s false (k.root ++ b) (pushes k.depths z) (omega arith) (tree_some s tree)))
                ∙ pick_no x cs (hold s (k.root ++ b) ++ pushes k.depths z) (record { taken = Some (reduce r); stack = hold s b ++ z }) e (k.picks b z);
          }

          longer : length s < size_of x → Asked A q s (reduce x ∷ cs) r
          longer lt =
              let d : ℕ = size_of x - length s - 1 in
              let size : size_of x ≡ length s + suc d = omega arith in
              record {
                root = k.root;
                depths = d ∷ k.depths;
                deep = λ a at.
                    let o : (top below : List Sym) × ((s ++ a ≡ top ++ below) × (length top ≡ size_of x) × IsTree top) = on a at in
                    let g : (d < length a) × (o.0 ≡ s ++ take (d + 1) a) = reaches s a o.0 o.1 d o.2.0 (o.2.1 ∙ size) in
                    ((g.0, one_more s (take (d + 1) a) tree (ap (wanted 1) (sym g.1) ∙ o.2.2)), k.deep a at);
                picks = λ b z.
                    ap (pick (reduce x ∷ cs)) (sym (push-below x.right s d (k.root ++ b) (pushes k.depths z) size (tree_some s tree)))
                    ∙ pick_no x cs (hold s (k.root ++ b) ++ pushes k.depths z) (record { taken = Some (reduce r); stack = hold s b ++ z }) e (k.picks b z);
              }
