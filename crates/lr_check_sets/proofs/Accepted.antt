-- With any answers the parse follows free choices, so it ends where all free choices do.
use Rattle.std.proofs.Common.{◌≡◌, ℕ, List, [], ◌∷◌, Some, None, Bool, true, false, drop, map, refl, ap, sym, ◌∙◌, inl, inr, subst, ap₂}
use Rattle.std.proofs.lemmas.List.{drop-map}
use Rattle.gg_base.proofs.Facts.{nil_cons, head_same}
use Rattle.tree_core.specs.declared.token.Tok.{Tok}
use Rattle.tree_core.specs.declared.token.Tok.TheVariants as tok
use Rattle.tree_core.specs.declared.token.Sort.{Sort}
use Rattle.tree_core.specs.declared.token.Sort.TheVariants as sort
use Rattle.md_reader.specs.declared.types.Sym.{Sym}
use Rattle.md_reader.specs.declared.types.Sym.TheVariants as grammar_symbol
use Rattle.lr_check.specs.Tree.{Token}
use Rattle.lr_check.specs.Parse.{Part, symbols, answer}
use Rattle.lr_check_sets.specs.Trees.{Tree, Trees, node, no_trees, more_trees, onto, onto_all}
use Rattle.lr_check_sets.specs.Automaton.{Automaton, Production, Candidate, shift, reduce, walk, size_of, Free, CanBlock, Ends, accepts, goes, stack_after, rest_after}
use Rattle.lr_check_sets.specs.Answers.{leaves, leaves_all, the_end, owner, asked, Picked, pick_by, pick, held_reduced, shifts, reduces, Accepts, accept, by_step}
use Rattle.lr_check_sets.specs.Claims.{EveryTreeAccepts}
use Rattle.lr_check_sets.proofs.Whole_ends.{whole_trees_end}

symbols-asked : (right : List Sym) (a : List Part) → symbols (asked right a) ≡ symbols a
symbols-asked right [] = refl
symbols-asked [] (h ∷ a) = refl
symbols-asked (X ∷ []) (h ∷ a) = refl
symbols-asked (X ∷ Y ∷ right) (h ∷ a) = ap (λ l. h.symbol ∷ l) (symbols-asked (Y ∷ right) a)

-- what the parse picks
data Says (cs : List Candidate) (a : List Part) : Picked → Type 0 where
  none : {b : List Part} → CanBlock cs → Says cs a (record { taken = None; stack = b })
  takes : {b : List Part} (c : Candidate) → Free cs c → symbols b ≡ symbols a → Says cs a (record { taken = Some c; stack = b })

says_more : (r : Production) (cs : List Candidate) (a a' : List Part) (p : Picked) → r.asks ≡ true → symbols a' ≡ symbols a → Says cs a' p → Says (reduce r ∷ cs) a p
says_more r cs a a' p e same (none h) = none (e, h)
says_more r cs a a' p e same (takes c f g) = takes c (inr (e, f)) (g ∙ same)

says_by : (r : Production) (cs : List Candidate) (a b : List Part) (rest : Picked) (asks said : Bool) → r.asks ≡ asks → symbols b ≡ symbols a → Says cs b rest →
    Says (reduce r ∷ cs) a (pick_by asks said r a b rest)
says_by r cs a b rest false said e same h = takes (reduce r) (inl refl) refl
says_by r cs a b rest true true e same h = takes (reduce r) (inl refl) same
says_by r cs a b rest true false e same h = says_more r cs a b rest e same h

says : (cs : List Candidate) (a : List Part) → Says cs a (pick cs a)
says [] a = none tt
says (shift ∷ cs) a = takes shift refl refl
says (reduce r ∷ cs) a = says_by r cs a (asked r.right a) (pick cs (asked r.right a)) r.asks (answer (owner r.right a)) refl (symbols-asked r.right a) (says cs (asked r.right a))

abbrev tokens : List Token → List Tok
tokens w = map (λ f. f.tok) w

mutual
  tokens-leaves : {x : Sort} (v : Tree x) (w : List Token) → tokens (leaves v w) ≡ onto v (tokens w)
  tokens-leaves (node k may b vs) w = ap (λ l. k ∷ l) (tokens-leaves_all vs w)

  tokens-leaves_all : {xs : List Sort} (vs : Trees xs) (w : List Token) → tokens (leaves_all vs w) ≡ onto_all vs (tokens w)
  tokens-leaves_all no_trees w = refl
  tokens-leaves_all (more_trees v vs) w = tokens-leaves v (leaves_all vs w) ∙ ap (onto v) (tokens-leaves_all vs w)

module _ (A : Automaton) where
  -- behind a pick
  behind_pick : (a : List Part) (f : Token) (w : List Token) (p : ℕ) (k : Picked) → walk A 0 (symbols a) ≡ Some p → (CanBlock (A.candidates p f.tok) → ⊥) → pick (A.candidates p f.tok) a ≡ k →
      Says (A.candidates p f.tok) a k
      → ((c : Candidate) → Free (A.candidates p f.tok) c → (b : List Part) (v : List Token) → symbols b ≡ stack_after c f.tok (symbols a) → tokens v ≡ rest_after c f.tok (tokens w) →
      Accepts A b v)
      → Accepts A a (f ∷ w)
  behind_pick a f w p k at nb e (none h) ih = absurd (nb h)
  behind_pick a f w p k at nb e (takes {b = b} shift fr same) ih =
      by_step (shifts at e) (ih shift fr (record { symbol = grammar_symbol.Tok f.tok; answers = f.answers } ∷ b) w (ap (λ l. grammar_symbol.Tok f.tok ∷ l) same) refl)
  behind_pick a f w p k at nb e (takes {b = b} (reduce r) fr same) ih =
      by_step (reduces at e) (ih (reduce r) fr (held_reduced r b) (f ∷ w) (ap (λ l. grammar_symbol.Class r.left ∷ l) (sym (drop-map (λ h. h.symbol) (size_of r) b) ∙ ap (drop (size_of r)) same)) refl)

  ends_accepts : {a : List Sym} {w : List Tok} → Ends A a w → (b : List Part) (v : List Token) → symbols b ≡ a → tokens v ≡ w → Accepts A b v
  ends_accepts accepts b v e g = at_accept b v e g
    where
      at_accept : (b : List Part) (v : List Token) → symbols b ≡ grammar_symbol.Class A.stmt ∷ [] → tokens v ≡ tok.End ∷ [] → Accepts A b v
      at_accept b [] e g = absurd (nil_cons tok.End [] g)
      at_accept b (f ∷ []) e g = accept e (head_same f.tok tok.End [] [] g)
      at_accept b (f ∷ d ∷ v) e g = absurd (unlike g)
        where
          unlike : f.tok ∷ d.tok ∷ tokens v ≡ tok.End ∷ [] → ⊥
          unlike g = cc
  ends_accepts (goes {a = a} {t = t} {w = w} {p = p} at nb h) b v e g =
      in_front (λ c f b' v' e' g'. ends_accepts (h c f) b' v' e' g') v g
    where
      in_front : ((c : Candidate) → Free (A.candidates p t) c → (b' : List Part) (v' : List Token) → symbols b' ≡ stack_after c t a → tokens v' ≡ rest_after c t w → Accepts A b' v') →
          (v : List Token) → tokens v ≡ t ∷ w → Accepts A b v
      in_front ih [] g = absurd (nil_cons t w g)
      in_front ih (f ∷ u) g =
          let st : f.tok ≡ t = cc in
          let sw : tokens u ≡ w = cc in
          behind_pick b f u p (pick (A.candidates p f.tok) b) (ap (walk A 0) e ∙ at) (λ h. nb (subst (λ m. CanBlock (A.candidates p m)) st h)) refl (says (A.candidates p f.tok) b)
          (λ c fr b' v' e' g'. ih c (subst (λ m. Free (A.candidates p m) c) st fr) b' v' (e' ∙ ap₂ (stack_after c) st e) (g' ∙ ap₂ (rest_after c) st sw))

  accepts_all : (v : Tree sort.Stmt) → Ends A [] (onto v (tok.End ∷ [])) → Accepts A [] (leaves v the_end)
  accepts_all v h = ends_accepts h [] (leaves v the_end) refl (tokens-leaves v the_end)

pub every_tree_accepts : EveryTreeAccepts
every_tree_accepts G A no_end no_empty trees exact fine v = accepts_all A v (whole_trees_end G A no_end no_empty trees exact fine v)
