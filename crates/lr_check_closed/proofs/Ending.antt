-- Reductions that come to an end, and rows without a fault.
use Rattle.std.proofs.Common.{◌≡◌, ℕ, zero, suc, ◌+◌, ◌*◌, ◌<◌, List, [], ◌∷◌, Some, None, Contains, length, slice_get, replicate, refl, ⊎_elim, get_or-set_same, get_or-set_other, sym, ap, ◌∙◌, subst, arith}
use Rattle.std.specs.Prelude.{slice_index_or, set}
use Rattle.std.proofs.lemmas.Bool.{cases_eq}
use Rattle.std.proofs.lemmas.Nat.Bits.{bit_at-zero}
use Rattle.std.specs.Int.{bit_at}
use Rattle.std.proofs.lemmas.Option.{same_Some, none-some, slice_get_within}
use Rattle.tree_core.specs.declared.token.Tok.{Tok}
use Rattle.md_reader.specs.declared.types.Sym.{Sym}
use Rattle.md_reader.specs.declared.types.Sym.TheVariants as grammar_symbol
use Rattle.lr_tables.specs.Symbols.{number}
use Rattle.lr_check_found.specs.lr_check_sets.specs.Automaton.{Automaton, reduce, walk, Free, CanBlock}
use Rattle.lr_check_found.specs.lr_check_sets.specs.Faults.{Calms, calms}
use Rattle.lr_check_found.specs.lr_check_sets.specs.Closed.{IsFine}
use Rattle.lr_check_found.specs.Lists.{ListsView, IsList}
use Rattle.lr_check_ways.specs.Sets.{In}
use Rattle.lr_check_ways.specs.declared.ways.Reduction.{Reduction}
use Rattle.lr_check_ways.specs.declared.ways.Ways.{Ways}
use Rattle.lr_check_ways.specs.Ways.{IsBy, AreWays}
use Rattle.lr_check_rows.specs.declared.rows.Line.{Line}
use Rattle.lr_check_rows.specs.declared.rows.Row.{Row}
use Rattle.lr_check_rows.specs.Rows.{IsRow}
use Rattle.lr_check_closed.specs.Sets.{IsRowAt, HasPlace, HasSettling}
use Rattle.lr_check_closed.specs.Closing.{StandsAt}
use Rattle.lr_check_closed.specs.Fine.{AreCalm, Settles, IsLineFine, IsShifted, IsFineAt}
use Rattle.lr_check_closed.proofs.Placed.{state_is, token_is, behind_is}
use Rattle.lr_check_closed.proofs.Following.{reduced_as}

-- nothing is in the empty set
pub none_in : (set : ℕ) (b : Tok) → set ≡ 0 → In set b → ⊥
none_in set b e is =
    let z = bit_at-zero (number b) in
    let one : bit_at 0 (number b) ≡ 1 = subst (λ n. bit_at n (number b) ≡ 1) e is in
    omega (arith, z, one)

-- a list that leads nowhere
pub calms_nowhere : (A : Automaton) (q : ℕ) (b : Tok) (s : List Sym) → walk A q s ≡ None → Calms A q b s
calms_nowhere A q b s none = calms (λ r p walks free size. absurd (none-some p (sym none ∙ walks)))

-- reductions of the list come to an end, where those of the classes that it becomes do
pub calms_by : (A : Automaton) (q p : ℕ) (b : Tok) (s : List Sym) (w : Ways) → AreWays A p w → walk A q s ≡ Some p
    → ((x : Reduction) → Contains w.reductions.items x → x.long ≡ length s → In x.tokens b → Calms A q b (grammar_symbol.Class x.class ∷ [])) → Calms A q b s
calms_by A q p b s w ways walks each = calms (λ r j walks' free size.
    let h = ways.all b (reduce r) (subst (λ (i : ℕ). Free (A.candidates i b) (reduce r)) (same_Some j p (sym walks' ∙ walks)) free) in
    let by : IsBy h.0 r = h.1.1.0 in
    reduced_as (Calms A q b) r h.0 s by size (each h.0 h.1.0 (sym by.long ∙ size) h.1.1.1))

-- the class alone
pub class_calms : (A : Automaton) (q p c new : ℕ) (calm : List ℕ) (w : Ways) → AreWays A p w → A.go q (grammar_symbol.Class c) ≡ Some p → AreCalm A q calm
    → ((x : Reduction) → Contains w.reductions.items x → Settles calm 1 new x) → (b : Tok) → In new b → Calms A q b (grammar_symbol.Class c ∷ [])
class_calms A q p c new calm w ways go are all b is =
    calms_by A q p b (grammar_symbol.Class c ∷ []) w ways go (λ x there long token. are.each x.class b (all x there long b is token))

-- the set of a class is that of calm ones
pub calm_put : (A : Automaton) (q : ℕ) (calm : List ℕ) (c new : ℕ) → c < length calm → AreCalm A q calm → ((b : Tok) → In new b → Calms A q b (grammar_symbol.Class c ∷ []))
    → AreCalm A q (set calm c new)
calm_put A q calm c new lt h each = record {
  each = λ k b is. ⊎_elim
      (λ same. subst (λ j. Calms A q b (grammar_symbol.Class j ∷ [])) (sym same)
      (each b (subst (λ n. In n b) (ap (λ j. slice_index_or (set calm c new) j 0) same ∙ get_or-set_same calm c new 0 lt) is)))
      (λ other. h.each k b (subst (λ n. In n b) (get_or-set_other calm c k new 0 other) is))
      (cases_eq k c);
}

empty_at : (n k : ℕ) → let xs : List ℕ = replicate n 0 in slice_index_or xs k 0 ≡ 0
empty_at zero k = refl
empty_at (suc n) zero = refl
empty_at (suc n) (suc k) = empty_at n k

-- of empty sets
pub none_calm : (A : Automaton) (q n : ℕ) (calm : List ℕ) → calm ≡ replicate n 0 → AreCalm A q calm
none_calm A q n calm e =
    record { each = λ c b is. absurd (none_in (slice_index_or calm c 0) b (ap (λ (l : List ℕ). slice_index_or l c 0) e ∙ empty_at n c) is) }

-- ---- lines

pub nowhere_fine : (A : Automaton) (v : ListsView) (q : ℕ) (l : Line) → l.behind ≡ None → IsLineFine A v q l
nowhere_fine A v q l none = record {
  takes = λ p b behind settled can. absurd (none-some p (sym none ∙ behind));
  ends = λ b s settled list behind. calms_nowhere A q b s (sym behind ∙ none);
}

pub line_fine : (A : Automaton) (v : ListsView) (q p size : ℕ) (l : Line) (w : Ways) (calm : List ℕ) → AreWays A p w → l.behind ≡ Some p → ((s : List Sym) → IsList v l.list s → size ≡ length s)
    → ((b : Tok) → In l.settled b → In w.blocked b → ⊥) → AreCalm A q calm → ((x : Reduction) → Contains w.reductions.items x → Settles calm size l.settled x) → IsLineFine A v q l
line_fine A v q p size l w calm ways behind long free are all = record {
  takes = λ j b at settled can. free b settled (ways.blocks b (subst (λ (i : ℕ). CanBlock (A.candidates i b)) (same_Some j p (sym at ∙ behind)) can));
  ends = λ b s settled list walks.
      calms_by A q p b s w ways (sym walks ∙ behind) (λ x there whole token. are.each x.class b (all x there (whole ∙ sym (long s list)) b settled token));
}

-- ---- rows

pub fine_at : (A : Automaton) (v : ListsView) (rows : List Row) (n : ℕ) (r : Row) → slice_get rows n ≡ Some r → StandsAt n r → IsShifted A r
    → ((l : Line) → Contains r.lines.items l → IsLineFine A v r.state l) → IsFineAt A v rows n
fine_at A v rows n r at stands shifts lines = record {
  stands = λ t at'. subst (StandsAt n) (same_Some r t (sym at ∙ at')) stands;
  shifts = λ t at'. subst (IsShifted A) (same_Some r t (sym at ∙ at')) shifts;
  lines = λ t at'. subst (λ (z : Row). (l : Line) → Contains z.lines.items l → IsLineFine A v z.state l) (same_Some r t (sym at ∙ at')) lines;
}

pub all_fine : (A : Automaton) (v : ListsView) (rows : List Row) → ((n : ℕ) → n < length rows → IsFineAt A v rows n) → (n : ℕ) → IsFineAt A v rows n
all_fine A v rows h n = record {
  stands = λ r at. (h n (slice_get_within rows n r at)).stands r at;
  shifts = λ r at. (h n (slice_get_within rows n r at)).shifts r at;
  lines = λ r at. (h n (slice_get_within rows n r at)).lines r at;
}

module _ (A : Automaton) (v : ListsView) (rows : List Row) (sound : (r : Row) → Contains rows r → IsRow A v r) (fine : (n : ℕ) → IsFineAt A v rows n) where
  stands : (q : ℕ) (k : Tok) (r : Row) → IsRowAt rows q k r → StandsAt (q * 40 + number k) r
  stands q k r at = (fine (q * 40 + number k)).stands r at

  line_of : (q : ℕ) (k b : Tok) (s : List Sym) (h : HasSettling v rows q k b s) → IsLineFine A v q h.line.line
  line_of q k b s h =
      subst (λ (j : ℕ). IsLineFine A v j h.line.line) (sym (state_is q k h.row (stands q k h.row h.at))) ((fine (q * 40 + number k)).lines h.row h.at h.line.line h.line.there)

  behind_of : (q : ℕ) (k b : Tok) (s : List Sym) (h : HasSettling v rows q k b s) → h.line.line.behind ≡ walk A q s
  behind_of q k b s h = behind_is A v rows sound q k h.row h.line.line s h.at (stands q k h.row h.at) h.line.there h.line.list

  shifted : (q : ℕ) (k b : Tok) → HasPlace rows q k b → (p : ℕ) × (A.go q (grammar_symbol.Tok k) ≡ Some p)
  shifted q k b h =
      let state : q ≡ h.row.state = state_is q k h.row (stands q k h.row h.at) in
      let token : k ≡ h.row.token = token_is q k h.row (stands q k h.row h.at) in
      let g = (fine (q * 40 + number k)).shifts h.row h.at b h.behind in
      (g.0, subst (λ (t : Tok). A.go q (grammar_symbol.Tok t) ≡ Some g.0) (sym token) (subst (λ (j : ℕ). A.go j (grammar_symbol.Tok h.row.token) ≡ Some g.0) (sym state) g.1))

  pub rows_fine : IsFine A (HasPlace rows) (HasSettling v rows)
  rows_fine = record {
    shifts = shifted;
    takes = λ q p k b s h walks can. (line_of q k b s h).takes p b (behind_of q k b s h ∙ walks) h.line.settled can;
    ends = λ q k b s h. (line_of q k b s h).ends b s h.line.settled h.line.list (behind_of q k b s h);
  }
