-- The trees that show a fault of what was found, by their leaves: whose parse blocks, and whose parse turns.
use Rattle.std.specs.Prelude.{◌≡◌, ℕ, List, [], ◌∷◌, ◌++◌, Some, Bool, length}
use Rattle.tree_core.specs.declared.token.Tok.{Tok}
use Rattle.tree_core.specs.Grammar.{kids}
use Rattle.md_reader.specs.declared.types.Sym.{Sym}
use Rattle.md_reader.specs.declared.types.Sym.TheVariants as grammar_symbol
use Rattle.lr_check.specs.Tree.{Token}
use Rattle.lr_check_sets.specs.Automaton.{Automaton, Production, reduce, walk, size_of, Free, CanBlock}
use Rattle.lr_check_parse.specs.Typed.{AreTyped}
use Rattle.lr_check_found.specs.declared.places.Place.{Place}
use Rattle.lr_check_found.specs.Found.{FoundView, IsPlaceAt, SettlesAt}
use Rattle.lr_check_samples.specs.Answering.{answers_to, depths_to}
use Rattle.lr_check_samples.specs.Fixed.{leaf, Fixed, Context}
use Rattle.lr_check_samples.specs.Stops.{tokens}

pub data BlockingSample (A : Automaton) (f : FoundView) : List Token → Type 0 where
  -- the token of a place is not shifted: its kids are any trees
  of_gap : {n : ℕ} {x : Place} {before behind : List Token} (vs : List Token) →
      IsPlaceAt f n x → ((p : ℕ) → A.go x.state (grammar_symbol.Tok x.token) ≡ Some p → ⊥) → Context A f n before behind →
      AreTyped (kids x.token) (tokens vs) →
      BlockingSample A f (before ++ (leaf x.token [] ∷ (vs ++ behind)))
  -- behind a settling some answers take nothing
  of_dead : {i p : ℕ} {x : Place} {s : List Sym} {before behind ws : List Token} {own : List Bool} {ds : List ℕ} →
      (at : SettlesAt f i x s p) → CanBlock (A.candidates p x.behind) → Context A f at.entry.place before behind → Fixed A f i ws own ds →
      BlockingSample A f (before ++ (leaf x.token own ∷ (ws ++ behind)))

-- reductions of the whole list, at least one, from a list to a list: what the list's root is answered, and the depths at which they ask
-- below it
pub data Turning (A : Automaton) (q : ℕ) (t : Tok) : List Sym → List Sym → List Bool → List ℕ → Type 0 where
  turn : {s : List Sym} {p : ℕ} (r : Production) →
      walk A q s ≡ Some p → Free (A.candidates p t) (reduce r) → size_of r ≡ length s →
      Turning A q t s (grammar_symbol.Class r.left ∷ []) (answers_to (A.candidates p t) (length s) r.left)
      (depths_to (A.candidates p t) (length s) r.left)
  turn_on : {s s' : List Sym} {p : ℕ} {own : List Bool} {ds : List ℕ} (r : Production) →
      Turning A q t s s' own ds → walk A q s' ≡ Some p → Free (A.candidates p t) (reduce r) → size_of r ≡ length s' →
      Turning A q t s (grammar_symbol.Class r.left ∷ []) (own ++ answers_to (A.candidates p t) (length s') r.left)
      (ds ++ depths_to (A.candidates p t) (length s') r.left)

-- such reductions lead from a settling's list back to it
pub data LoopingSample (A : Automaton) (f : FoundView) : List Token → Type 0 where
  of_circle : {i p : ℕ} {x : Place} {s : List Sym} {before behind ws : List Token} {own own' : List Bool} {ds ds' : List ℕ} →
      (at : SettlesAt f i x s p) → Context A f at.entry.place before behind → Fixed A f i ws own ds →
      Turning A x.state x.behind s s own' ds' →
      LoopingSample A f (before ++ (leaf x.token (own ++ own') ∷ (ws ++ behind)))
