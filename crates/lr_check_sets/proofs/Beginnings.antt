-- Steps of the parse from the first token of a tree, and inside a list.
use Rattle.std.proofs.Common.{◌≡◌, ℕ, ◌≤◌, List, [], ◌∷◌, ◌++◌, Some, length, refl, ap, sym, ◌∙◌, subst, arith, append_assoc}
use Rattle.tree_core.specs.declared.token.Tok.{Tok}
use Rattle.tree_core.specs.declared.token.Tok.TheVariants as tok
use Rattle.tree_core.specs.declared.token.Sort.{Sort}
use Rattle.tree_core.specs.declared.token.Sort.TheVariants as sort
use Rattle.md_reader.specs.declared.types.Sym.{Sym}
use Rattle.md_reader.specs.declared.types.Sym.TheVariants as grammar_symbol
use Rattle.lr_check_sets.specs.Trees.{Begins, Tree, Trees, node, no_trees, more_trees, onto, onto_all, root, first}
use Rattle.lr_check_sets.specs.Automaton.{Automaton, Production, Candidate, shift, reduce, walk, size_of, Free, CanBlock, reduced, Inside, Ends, accepts, goes, stack_after, rest_after, IsTable}
use Rattle.lr_check_sets.proofs.Walks.{walk-append, reduced-append, Split, out, all_in, split}

pub begins_first : {xs : List Sort} (vs : Trees xs) (t : Tok) → Begins xs t (first vs t)
begins_first no_trees t = refl
begins_first (more_trees (node k may b ws) vs) t = may

-- what is left behind the first token
pub behind : {xs : List Sort} → Trees xs → List Tok → List Tok → List Tok
behind no_trees u w = u
behind (more_trees (node k may b ws) vs) u w = onto_all ws (onto_all vs w)

pub onto-first : {xs : List Sort} (vs : Trees xs) (t : Tok) (u w : List Tok) → w ≡ t ∷ u → onto_all vs w ≡ first vs t ∷ behind vs u w
unfolding behind
onto-first no_trees t u w e = e
onto-first (more_trees (node k may b ws) vs) t u w e = refl

-- each step inside the list
pub step_in : {A : Automaton} (q : ℕ) (t : Tok) (s a : List Sym) (u : List Tok) (p : ℕ) →
    ((r : Production) → Free (A.candidates p t) (reduce r) → size_of r ≤ length s → Ends A (reduced r s ++ a) (t ∷ u)) → ((c : Candidate) → Free (A.candidates p t) c → Inside c s) →
    (c : Candidate) → Free (A.candidates p t) c → Ends A (stack_after c t (s ++ a)) (rest_after c t u)
step_in q t s a u p ih g shift f = absurd (g shift f)
step_in q t s a u p ih g (reduce r) f = rw (reduced-append r s a (g (reduce r) f)) (ih r f (g (reduce r) f))

-- behind the shift
pub shifted : (A : Automaton) (k : Tok) (c : Candidate) (a : List Sym) (w : List Tok) → Free (shift ∷ []) c → Ends A (grammar_symbol.Tok k ∷ a) w → Ends A (stack_after c k a) (rest_after c k w)
shifted A k c a w f h = subst (λ d. Ends A (stack_after d k a) (rest_after d k w)) (sym f) h
