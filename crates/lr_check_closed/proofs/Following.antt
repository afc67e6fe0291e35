-- What follows from a line's list, by the ways of the state behind it.
use Rattle.std.proofs.Common.{◌≡◌, ℕ, List, [], ◌∷◌, Some, None, Contains, length, sym, ap, ◌∙◌, subst, arith}
use Rattle.std.proofs.lemmas.Option.{same_Some, none-some}
use Rattle.tree_core.specs.declared.token.Tok.{Tok}
use Rattle.md_reader.specs.declared.types.Sym.{Sym}
use Rattle.md_reader.specs.declared.types.Sym.TheVariants as grammar_symbol
use Rattle.lr_check_found.specs.lr_check_sets.specs.Automaton.{Automaton, Production, Candidate, shift, reduce, size_of, Free, reduced, Outside}
use Rattle.lr_check_found.specs.Lists.{ListsView, IsList}
use Rattle.lr_check_found.proofs.Deriving.{whole_left}
use Rattle.lr_check_ways.specs.Sets.{In}
use Rattle.lr_check_ways.specs.declared.ways.Reduction.{Reduction}
use Rattle.lr_check_ways.specs.declared.ways.Ways.{Ways}
use Rattle.lr_check_ways.specs.Ways.{IsBy, AreWays}
use Rattle.lr_check_rows.specs.declared.rows.Line.{Line}
use Rattle.lr_check_rows.specs.declared.rows.Row.{Row}
use Rattle.lr_check_closed.specs.Sets.{HasLine}
use Rattle.lr_check_closed.specs.Closing.{IsFollowed, IsLineClosed}

-- a list by whose class alone something is said
pub reduced_as : (P : List Sym → Type 0) (x : Production) (y : Reduction) (s : List Sym) → IsBy y x → size_of x ≡ length s → P (grammar_symbol.Class y.class ∷ []) → P (reduced x s)
reduced_as P x y s by long h = subst P (ap (λ (c : ℕ). grammar_symbol.Class c ∷ []) (sym by.class) ∙ sym (whole_left x s long)) h

-- a line that leads nowhere
pub nowhere_closed : (A : Automaton) (v : ListsView) (r : Row) (l : Line) → l.behind ≡ None → IsLineClosed A v r l
nowhere_closed A v r l none = record {
  settles = λ p b s x behind settled list free long. absurd (none-some p (sym none ∙ behind));
  sums = λ p b s c behind settled list free out. absurd (none-some p (sym none ∙ behind));
}

module _ (A : Automaton) (v : ListsView) (r : Row) (l : Line) (p size : ℕ) (w : Ways) (ways : AreWays A p w) (behind : l.behind ≡ Some p) (long : (s : List Sym) → IsList v l.list s → size ≡ length s)
    (shifts : (b : Tok) → In l.settled b → In w.shifts b → In l.sums b) (all : (x : Reduction) → Contains w.reductions.items x → IsFollowed v r l size x) where
  free_here : (j : ℕ) (b : Tok) (c : Candidate) → l.behind ≡ Some j → Free (A.candidates j b) c → Free (A.candidates p b) c
  free_here j b c at free = subst (λ (i : ℕ). Free (A.candidates i b) c) (same_Some j p (sym at ∙ behind)) free

  class_settles : (j : ℕ) (b : Tok) (s : List Sym) (x : Production) → l.behind ≡ Some j → In l.settled b → IsList v l.list s → Free (A.candidates j b) (reduce x) → size_of x ≡ length s
      → HasLine v r b (reduced x s)
  class_settles j b s x at settled list free whole =
      let h = ways.all b (reduce x) (free_here j b (reduce x) at free) in
      let by : IsBy h.0 x = h.1.1.0 in
      let f : IsFollowed v r l size h.0 = all h.0 h.1.0 in
      reduced_as (HasLine v r b) x h.0 s by whole (f.whole (sym by.long ∙ (whole ∙ sym (long s list))) b settled h.1.1.1)

  leads_out : (j : ℕ) (b : Tok) (s : List Sym) (c : Candidate) → l.behind ≡ Some j → In l.settled b → IsList v l.list s → Free (A.candidates j b) c → Outside c s → In l.sums b
  leads_out j b s shift at settled list free out = shifts b settled (ways.all b shift (free_here j b shift at free))
  leads_out j b s (reduce x) at settled list free out =
      let h = ways.all b (reduce x) (free_here j b (reduce x) at free) in
      let by : IsBy h.0 x = h.1.1.0 in
      let f : IsFollowed v r l size h.0 = all h.0 h.1.0 in
      let same = by.long in
      let is = long s list in
      f.out (omega (arith, out, same, is)) b settled h.1.1.1

  pub line_closed : IsLineClosed A v r l
  line_closed = record { settles = class_settles; sums = leads_out }
