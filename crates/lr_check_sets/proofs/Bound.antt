-- The parse of a tree ends within its tokens times the classes and one.
use Rattle.std.proofs.Common.{◌≡◌, ◌⊎◌, ℕ, zero, suc, ◌+◌, ◌-◌, ◌*◌, ◌≤◌, ◌<◌, List, [], ◌∷◌, ◌++◌, Option, Some, None, Bool, true, false, ◌||◌, eqb-true, length, drop, refl, ap}
use Rattle.std.proofs.Common.{ap₂, sym, ◌∙◌, inl, inr, ⊎_elim, subst, arith, drop_at, true≢false}
use Rattle.std.specs.List.{IsDistinct, list_any, AllByRecursion}
use Rattle.std.proofs.lemmas.Map.Steps.{length-le_from_distinct_below}
use lib.Dec.{eqb}
use Rattle.std.proofs.lemmas.Option.{same_Some, none-some}
use Rattle.tree_core.specs.declared.token.Tok.{Tok}
use Rattle.tree_core.specs.declared.token.Tok.TheVariants as tok
use Rattle.md_reader.specs.declared.types.Sym.{Sym}
use Rattle.md_reader.specs.declared.types.Sym.TheVariants as grammar_symbol
use Rattle.lr_check_sets.specs.Automaton.{Automaton, Production, Candidate, shift, reduce, walk, size_of, Free, reduced, Ends, accepts, goes, stack_after, rest_after}
use Rattle.lr_check_sets.specs.Shapes.{wanted_behind, wanted, IsTree}
use Rattle.lr_check_sets.specs.Bound.{Within, accepted, steps}
use Rattle.lr_check_sets.proofs.Tables.{shift_reduce}

-- reductions from one stack to another, with the same tokens to come
pub data Path (A : Automaton) (t : Tok) : List Sym → List Sym → Type 0 where
  done : {x : List Sym} → Path A t x x
  next : {x y : List Sym} {p : ℕ} (r : Production) → walk A 0 x ≡ Some p → Free (A.candidates p t) (reduce r) → Path A t (reduced r x) y → Path A t x y

path-append : {A : Automaton} {t : Tok} {x y z : List Sym} → Path A t x y → Path A t y z → Path A t x z
path-append done g = g
path-append (next r at f h) g = next r at f (path-append h g)

-- a stack that comes again
pub data Circle (A : Automaton) (t : Tok) (x : List Sym) : Type 0 where
  circle : (y : List Sym) (p : ℕ) (r : Production) → walk A 0 x ≡ Some p → Free (A.candidates p t) (reduce r) → y ≡ reduced r x → Path A t y x → Circle A t x

rotate : {A : Automaton} {t : Tok} {x y : List Sym} → Path A t y x → (p : ℕ) (r : Production) → walk A 0 x ≡ Some p → Free (A.candidates p t) (reduce r) → y ≡ reduced r x → Circle A t y
rotate {x = x} done p r at f e = circle x p r at f e done
rotate {A = A} {t = t} {x = x} {y = y} (next {p = q} s at' f' h) p r at f e =
    circle (reduced s y) q s at' f' refl (path-append h (subst (λ z. Path A t x z) (sym e) (next r at f done)))

pub ends_some : {A : Automaton} {a : List Sym} {v : List Tok} → Ends A a v → (t : Tok) × ((u : List Tok) × (v ≡ t ∷ u))
ends_some accepts = (tok.End, ([], refl))
ends_some (goes {t = t} {w = w} at nb h) = (t, (w, refl))

-- how many tokens the stack holds
abbrev pub tokens : List Sym → ℕ
tokens [] = 0
tokens (grammar_symbol.Tok k ∷ s) = suc (tokens s)
tokens (grammar_symbol.Class c ∷ s) = tokens s

tokens-append : (s a : List Sym) → tokens (s ++ a) ≡ tokens s + tokens a
tokens-append [] a = omega arith
tokens-append (grammar_symbol.Tok k ∷ s) a = ap suc (tokens-append s a) ∙ omega arith
tokens-append (grammar_symbol.Class c ∷ s) a = tokens-append s a

-- a tree without tokens is one class
behind_class : (c : ℕ) (w : Option ℕ) (n : ℕ) → wanted_behind (grammar_symbol.Class c) w ≡ Some n → w ≡ Some (suc n)
behind_class c None n e = cc
behind_class c (Some zero) n e = absurd (none-some n e)
behind_class c (Some (suc j)) n e = let same : 0 + j ≡ n = cc in ap Some (omega arith)

classes_only : (s : List Sym) (n : ℕ) → tokens s ≡ 0 → wanted 1 s ≡ Some (suc (suc n)) → ⊥
classes_only [] n z e = let same : 1 ≡ suc (suc n) = same_Some 1 (suc (suc n)) e in omega arith
classes_only (grammar_symbol.Tok k ∷ s) n z e = omega arith
classes_only (grammar_symbol.Class c ∷ s) n z e = classes_only s (suc n) z (behind_class c (wanted 1 s) (suc (suc n)) e)

one_class : (s : List Sym) → IsTree s → tokens s ≡ 0 → (c : ℕ) × (s ≡ grammar_symbol.Class c ∷ [])
one_class [] h e = absurd (omega (arith, same_Some 1 0 h))
one_class (grammar_symbol.Tok k ∷ s) h e = absurd (omega arith)
one_class (grammar_symbol.Class c ∷ []) h e = (c, refl)
one_class (grammar_symbol.Class c ∷ grammar_symbol.Tok k ∷ s) h e = absurd (omega arith)
one_class (grammar_symbol.Class c ∷ grammar_symbol.Class d ∷ s) h e = absurd
    (classes_only s 0 e (behind_class d (wanted 1 s) 1 (behind_class c (wanted_behind (grammar_symbol.Class d) (wanted 1 s)) 0 h)))

abbrev pub Has : List ℕ → ℕ → Type 0
Has vis q = list_any (eqb q) vis ≡ true

-- what is at the top, and the reductions that are left for it
pub data Top (A : Automaton) (k : ℕ) (t : Tok) : List Sym → ℕ → Type 0 where
  bare : Top A k t [] 0
  token : {x : Tok} {a : List Sym} → Top A k t (grammar_symbol.Tok x ∷ a) 0
  seen : {c : ℕ} {a : List Sym} {left : ℕ} (vis : List ℕ) → IsDistinct eqb vis → ((q : ℕ) → Has vis q → q < k)
      → ((q : ℕ) → Has vis q → Path A t (grammar_symbol.Class q ∷ a) (grammar_symbol.Class c ∷ a)) →
      length vis + left ≡ k → Top A k t (grammar_symbol.Class c ∷ a) left

one_distinct : (c : ℕ) → IsDistinct eqb (c ∷ [])
unfolding IsDistinct
one_distinct c = (tt, tt)

none_equal : (d : ℕ) (vis : List ℕ) → list_any (eqb d) vis ≡ false → AllByRecursion (λ y. eqb d y ≡ false) vis
none_equal d [] h = tt
none_equal d (x ∷ vis) h = go (λ g. none_equal d vis g) (eqb d x) refl h
  where
    go : (list_any (eqb d) vis ≡ false → AllByRecursion (λ y. eqb d y ≡ false) vis) → (b : Bool) → eqb d x ≡ b → (b || list_any (eqb d) vis) ≡ false →
        AllByRecursion (λ y. eqb d y ≡ false) (x ∷ vis)
    go ih true e g = absurd (true≢false g)
    go ih false e g = (e, ih g)

more_distinct : (d : ℕ) (vis : List ℕ) → list_any (eqb d) vis ≡ false → IsDistinct eqb vis → IsDistinct eqb (d ∷ vis)
unfolding IsDistinct
more_distinct d vis h dist = (none_equal d vis h, dist)

module _ (A : Automaton) (k : ℕ) (final : (p : ℕ) → walk A 0 (grammar_symbol.Class A.stmt ∷ []) ≡ Some p → A.candidates p tok.End ≡ shift ∷ [])
    (tops : (a : List Sym) (p : ℕ) (t : Tok) (r : Production) → walk A 0 a ≡ Some p → Free (A.candidates p t) (reduce r) →
    (b below : List Sym) × ((a ≡ b ++ below) × (length b ≡ size_of r) × IsTree b × (r.left < k))) where
  -- no stack comes again
  pub no_circle : {a : List Sym} {v : List Tok} → Ends A a v → (t : Tok) (w : List Tok) → v ≡ t ∷ w → Circle A t a → ⊥
  no_circle accepts t w e (circle y p r at f g path) =
      let s : tok.End ≡ t = cc in
      shift_reduce r (subst (λ cs. Free cs (reduce r)) (final p at) (subst (λ z. Free (A.candidates p z) (reduce r)) (sym s) f))
  no_circle (goes {a = a} {t = t'} {w = w'} {p = p'} at' nb h) t w e (circle y p r at f g path) =
      let s : t' ≡ t = cc in
      let u : w' ≡ w = cc in
      let q : p ≡ p' = same_Some p p' (sym at ∙ at') in
      let f' : Free (A.candidates p' t') (reduce r) = subst (λ z. Free (A.candidates z t') (reduce r)) q (subst (λ z. Free (A.candidates p z) (reduce r)) (sym s) f) in
      no_circle (h (reduce r) f') t w (ap₂ (λ x z. x ∷ z) s u) (subst (Circle A t) g (rotate path p r at f g))

  abbrev pub cost : List Sym → List Tok → ℕ → ℕ
  cost a v left = (k + 1) * length v + (k * tokens a + left)

  -- what is left once a step is made
  abbrev pub Later : List Sym → List Tok → Type 0
  Later a v = (t : Tok) (u : List Tok) → v ≡ t ∷ u → (left : ℕ) → Top A k t a left → (n : ℕ) → cost a v left ≤ n → Within A n a v

  one_has : (q c : ℕ) → Has (c ∷ []) q → q ≡ c
  one_has q c h = go (eqb q c) refl h
    where
      go : (b : Bool) → eqb q c ≡ b → (b || false) ≡ true → q ≡ c
      go true e h = eqb-true q c e
      go false e h = absurd (true≢false (sym h))

  more_has : (q c : ℕ) (vis : List ℕ) → Has (c ∷ vis) q → (q ≡ c) ⊎ Has vis q
  more_has q c vis h = go (eqb q c) refl h
    where
      go : (b : Bool) → eqb q c ≡ b → (b || list_any (eqb q) vis) ≡ true → (q ≡ c) ⊎ Has vis q
      go true e h = inl (eqb-true q c e)
      go false e h = inr h

  -- a reduction that takes a token away
  takes_token : (t : Tok) (w : List Tok) (a below : List Sym) (c left m j tok : ℕ) → Later (grammar_symbol.Class c ∷ below) (t ∷ w) → c < k → tok ≡ suc j + tokens below →
      (k + 1) * length (t ∷ w) + (k * tok + left) ≤ suc m → Within A m (grammar_symbol.Class c ∷ below) (t ∷ w)
  takes_token t w a below c left m j tok later lt e le =
      later t w refl (k - 1)
      (seen (c ∷ []) (one_distinct c) (λ q h. subst (λ z. z < k) (sym (one_has q c h)) lt)
      (λ q h. subst (λ z. Path A t (grammar_symbol.Class z ∷ below) (grammar_symbol.Class c ∷ below)) (sym (one_has q c h)) done) (omega arith))
      m (smaller tok e le)
    where
      smaller : (tok : ℕ) → tok ≡ suc j + tokens below → (k + 1) * length (t ∷ w) + (k * tok + left) ≤ suc m → cost (grammar_symbol.Class c ∷ below) (t ∷ w) (k - 1) ≤ m
      smaller tok e le = let more : k * tok ≡ k * (suc j + tokens below) = ap (λ z. k * z) e in omega arith

  -- a reduction of one class to another
  takes_class : (t : Tok) (w : List Tok) (below : List Sym) (c d p left m : ℕ) (r : Production) → Later (grammar_symbol.Class d ∷ below) (t ∷ w) → (Circle A t (grammar_symbol.Class d ∷ below) → ⊥) →
      r.left ≡ d → d < k → walk A 0 (grammar_symbol.Class c ∷ below) ≡ Some p → Free (A.candidates p t) (reduce r) → reduced r (grammar_symbol.Class c ∷ below) ≡ grammar_symbol.Class d ∷ below →
      Top A k t (grammar_symbol.Class c ∷ below) left → cost (grammar_symbol.Class c ∷ below) (t ∷ w) left ≤ suc m → Within A m (grammar_symbol.Class d ∷ below) (t ∷ w)
  takes_class t w below c d p left m r later fine e lt at f g (seen vis dist small paths loose_sum) le = go (list_any (eqb d) vis) refl
    where
      go : (b : Bool) → list_any (eqb d) vis ≡ b → Within A m (grammar_symbol.Class d ∷ below) (t ∷ w)
      go true h = absurd (fine (rotate (paths d h) p r at f (sym g)))
      go false h =
          let few : length (d ∷ vis) ≤ k = length-le_from_distinct_below (d ∷ vis) k (more_distinct d vis h dist)
          (λ q u. ⊎_elim (λ z. subst (λ y. y < k) (sym z) lt) (λ z. small q z) (more_has q d vis u)) in
          later t w refl (left - 1)
          (seen (d ∷ vis) (more_distinct d vis h dist) (λ q u. ⊎_elim (λ z. subst (λ y. y < k) (sym z) lt) (λ z. small q z) (more_has q d vis u))
          (λ q u. ⊎_elim
          (λ z. subst (λ y. Path A t (grammar_symbol.Class y ∷ below) (grammar_symbol.Class d ∷ below)) (sym z) done)
          (λ z. path-append (paths q z) (subst (λ y. Path A t (grammar_symbol.Class c ∷ below) y) g (next r at f done)))
          (more_has q d vis u))
          (omega arith))
          m (omega arith)

  step : (t : Tok) (a : List Sym) (w : List Tok) (p left m : ℕ) → walk A 0 a ≡ Some p → Top A k t a left → cost a (t ∷ w) left ≤ suc m → (c : Candidate) → Free (A.candidates p t) c →
      Ends A (stack_after c t a) (rest_after c t w) → Later (stack_after c t a) (rest_after c t w) → Within A m (stack_after c t a) (rest_after c t w)
  step t a w p left m at top le shift f ends later =
      let s : (t' : Tok) × ((u : List Tok) × (w ≡ t' ∷ u)) = ends_some ends in
      later s.0 s.1.0 s.1.1 0 token m (omega arith)
  step t a w p left m at top le (reduce r) f ends later =
      let o : (b below : List Sym) × ((a ≡ b ++ below) × (length b ≡ size_of r) × IsTree b × (r.left < k)) = tops a p t r at f in
      let eq : reduced r a ≡ grammar_symbol.Class r.left ∷ o.1 = ap (λ l. grammar_symbol.Class r.left ∷ l) (ap (drop (size_of r)) o.2.0 ∙ drop_at o.0 o.1 (size_of r) o.2.1) in
      subst (λ z. Within A m z (t ∷ w)) (sym eq)
      (by_tokens o.0 o.1 o.2.0 o.2.2 o.2.3 eq (subst (λ z. Later z (t ∷ w)) eq later) (no_circle (subst (λ z. Ends A z (t ∷ w)) eq ends) t w refl) (tokens o.0) refl)
    where
      by_tokens : (b below : List Sym) → a ≡ b ++ below → IsTree b → r.left < k → reduced r a ≡ grammar_symbol.Class r.left ∷ below → Later (grammar_symbol.Class r.left ∷ below) (t ∷ w) →
          (Circle A t (grammar_symbol.Class r.left ∷ below) → ⊥) → (j : ℕ) → tokens b ≡ j → Within A m (grammar_symbol.Class r.left ∷ below) (t ∷ w)
      by_tokens b below e tree lt eq later fine (suc j) z =
          takes_token t w a below r.left left m j (tokens a) later lt (ap tokens e ∙ (tokens-append b below ∙ ap (λ x. x + tokens below) z)) le
      by_tokens b below e tree lt eq later fine zero z =
          let c : (c : ℕ) × (b ≡ grammar_symbol.Class c ∷ []) = one_class b tree z in
          let ea : a ≡ grammar_symbol.Class c.0 ∷ below = e ∙ ap (λ l. l ++ below) c.1 in
          takes_class t w below c.0 r.left p left m r later fine refl lt (subst (λ l. walk A 0 l ≡ Some p) ea at) f
          (subst (λ l. reduced r l ≡ grammar_symbol.Class r.left ∷ below) ea eq) (subst (λ l. Top A k t l left) ea top) (subst (λ l. cost l (t ∷ w) left ≤ suc m) ea le)

  pub bounded : {a : List Sym} {v : List Tok} → Ends A a v → Later a v
  bounded accepts t u e left top n le = accepted
  bounded (goes {a = a} {t = t'} {w = w} {p = p} at nb h) t u e left top zero le = absurd (omega arith)
  bounded (goes {a = a} {t = t'} {w = w} {p = p} at nb h) t u e left top (suc m) le =
      let s : t' ≡ t = cc in
      let top' : Top A k t' a left = subst (λ z. Top A k z a left) (sym s) top in
      steps at nb (λ c f. step t' a w p left m at top' le c f (h c f) (λ t u e left top n le. bounded (h c f) t u e left top n le))
