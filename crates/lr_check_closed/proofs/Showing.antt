-- Rows that hold what follows from them are closed under the rules of the sets.
use Rattle.std.proofs.Common.{◌≡◌, ℕ, ◌+◌, ◌*◌, ◌<◌, List, [], ◌∷◌, ◌++◌, Some, Contains, length, slice_get, sym, ap, ◌∙◌, subst}
use Rattle.std.proofs.lemmas.Option.{same_Some, slice_get_within}
use Rattle.tree_core.specs.declared.token.Tok.{Tok}
use Rattle.tree_core.specs.declared.token.Tok.TheVariants as tok
use Rattle.tree_core.specs.declared.token.Sort.{Sort}
use Rattle.tree_core.specs.declared.token.Sort.TheVariants as sort
use Rattle.tree_core.specs.Grammar.{kids}
use Rattle.md_reader.specs.declared.types.Sym.{Sym}
use Rattle.md_reader.specs.declared.types.Sym.TheVariants as grammar_symbol
use Rattle.lr_tables.specs.Symbols.{number}
use Rattle.lr_check_found.specs.lr_check_sets.specs.Trees.{May}
use Rattle.lr_check_found.specs.lr_check_sets.specs.Automaton.{Automaton, walk}
use Rattle.lr_check_found.specs.lr_check_sets.specs.Closed.{IsClosed}
use Rattle.lr_check_found.specs.Lists.{ListsView, IsList, AreLists}
use Rattle.lr_check_found.proofs.Deriving.{walk_from}
use Rattle.lr_check_ways.specs.Sets.{In}
use Rattle.lr_check_rows.specs.declared.rows.Line.{Line}
use Rattle.lr_check_rows.specs.declared.rows.Row.{Row}
use Rattle.lr_check_rows.specs.Rows.{IsRow}
use Rattle.lr_check_closed.specs.Sets.{IsRowAt, HasPlace, HasSettling, HasSum}
use Rattle.lr_check_closed.specs.Kids.{IsJoinedAt, HasKid, HasLeaf, IsWider, HasFirst, HasSecond, ArePaired, KidsIn}
use Rattle.lr_check_closed.specs.Closing.{IsRowClosed, IsClosedAt, IsLineClosed, StandsAt}
use Rattle.lr_check_closed.proofs.Placed.{state_is, token_is, behind_is}

pub closed_at : (A : Automaton) (v : ListsView) (rows : List Row) (n : ℕ) (r : Row) → slice_get rows n ≡ Some r → StandsAt n r → IsRowClosed A v rows r → IsClosedAt A v rows n
closed_at A v rows n r at stands closed = record {
  stands = λ t at'. subst (StandsAt n) (same_Some r t (sym at ∙ at')) stands;
  closed = λ t at'. subst (IsRowClosed A v rows) (same_Some r t (sym at ∙ at')) closed;
}

-- what is so of each row is so at each number
pub all_closed : (A : Automaton) (v : ListsView) (rows : List Row) → ((n : ℕ) → n < length rows → IsClosedAt A v rows n) → (n : ℕ) → IsClosedAt A v rows n
all_closed A v rows h n = record {
  stands = λ r at. (h n (slice_get_within rows n r at)).stands r at;
  closed = λ r at. (h n (slice_get_within rows n r at)).closed r at;
}

-- the list of a second kid's state, below which it stands
record Second (v : ListsView) (rows : List Row) (r : Row) (j : ℕ) (m : Tok) (s : List Sym) : Type 0 where
  list : ℕ
  below : IsList v list s
  kid : HasKid v rows r j m list

module _ (A : Automaton) (v : ListsView) (rows : List Row) (lists : AreLists v) (sound : (r : Row) → Contains rows r → IsRow A v r)
    (starts : (k : Tok) → May k sort.Stmt → HasPlace rows 0 k tok.End) (closed : (n : ℕ) → IsClosedAt A v rows n) where
  stands : (q : ℕ) (k : Tok) (r : Row) → IsRowAt rows q k r → StandsAt (q * 40 + number k) r
  stands q k r at = (closed (q * 40 + number k)).stands r at

  row_closed : (q : ℕ) (k : Tok) (r : Row) → IsRowAt rows q k r → IsRowClosed A v rows r
  row_closed q k r at = (closed (q * 40 + number k)).closed r at

  -- what follows from a place by its token's kids
  kids_at : (q p : ℕ) (k b : Tok) (xs : List Sort) (h : HasPlace rows q k b) → kids k ≡ xs → A.go q (grammar_symbol.Tok k) ≡ Some p → KidsIn v rows h.row p xs
  kids_at q p k b xs h e go =
      let state : q ≡ h.row.state = state_is q k h.row (stands q k h.row h.at) in
      let token : k ≡ h.row.token = token_is q k h.row (stands q k h.row h.at) in
      let go' : A.go h.row.state (grammar_symbol.Tok h.row.token) ≡ Some p =
      subst (λ (t : Tok). A.go h.row.state (grammar_symbol.Tok t) ≡ Some p) token (subst (λ (j : ℕ). A.go j (grammar_symbol.Tok k) ≡ Some p) state go) in
      subst (KidsIn v rows h.row p) (ap kids (sym token) ∙ e) ((row_closed q k h.row h.at).kids b p h.behind go')

  -- a line of the list settles
  settles_by : (q : ℕ) (k b : Tok) (r : Row) (l : Line) (list : ℕ) (s : List Sym) → IsRowAt rows q k r → Contains r.lines.items l → l.list ≡ list → In l.settled b → IsList v list s
      → HasSettling v rows q k b s
  settles_by q k b r l list s at there same settled whole = record {
    row = r;
    at = at;
    line = record { line = l; there = there; list = subst (λ i. IsList v i s) (sym same) whole; settled = settled };
  }

  -- a kid's sum on the list below and the token
  settles_joined : (q p lower : ℕ) (k b n : Tok) (w u : List Sym) (place : HasPlace rows q k b) → HasKid v rows place.row p n lower → IsList v lower w → HasSum v rows p n b u
      → HasSettling v rows q k b (u ++ (w ++ (grammar_symbol.Tok k ∷ [])))
  settles_joined q p lower k b n w u place h below sum =
      let same : sum.row ≡ h.kid = same_Some sum.row h.kid (sym sum.at ∙ h.at) in
      let there : Contains h.kid.lines.items sum.line = subst (λ (z : Row). Contains z.lines.items sum.line) same sum.there in
      let d : IsJoinedAt v place.row lower sum.line b = h.joined sum.line there b sum.sum place.behind in
      let whole : IsList v d.list (u ++ (w ++ (grammar_symbol.Tok place.row.token ∷ []))) = d.joined u w sum.list below in
      let token : k ≡ place.row.token = token_is q k place.row (stands q k place.row place.at) in
      subst (λ (t : Tok). HasSettling v rows q k b (u ++ (w ++ (grammar_symbol.Tok t ∷ [])))) (sym token)
      (settles_by q k b place.row d.line d.list (u ++ (w ++ (grammar_symbol.Tok place.row.token ∷ []))) place.at d.there d.same d.settled whole)

  leaf_settles : (q p : ℕ) (k b : Tok) → HasPlace rows q k b → kids k ≡ [] → A.go q (grammar_symbol.Tok k) ≡ Some p → HasSettling v rows q k b (grammar_symbol.Tok k ∷ [])
  leaf_settles q p k b place e go =
      let h : HasLeaf v place.row = kids_at q p k b [] place e go in
      let token : k ≡ place.row.token = token_is q k place.row (stands q k place.row place.at) in
      subst (λ (t : Tok). HasSettling v rows q k b (grammar_symbol.Tok t ∷ [])) (sym token)
      (settles_by q k b place.row h.line h.list (grammar_symbol.Tok place.row.token ∷ []) place.at h.there h.all.same (h.all.all b place.behind) (h.joined [] [] lists.first lists.first))

  only_kid : (q p : ℕ) (k b n : Tok) (x : Sort) (place : HasPlace rows q k b) → kids k ≡ x ∷ [] → A.go q (grammar_symbol.Tok k) ≡ Some p → May n x → HasKid v rows place.row p n 0
  only_kid q p k b n x place e go may = kids_at q p k b (x ∷ []) place e go n may

  paired : (q p : ℕ) (k b : Tok) (x y : Sort) (place : HasPlace rows q k b) → kids k ≡ x ∷ y ∷ [] → A.go q (grammar_symbol.Tok k) ≡ Some p → ArePaired v rows place.row p x y
  paired q p k b x y place e go = kids_at q p k b (x ∷ y ∷ []) place e go

  first_kid : (q p : ℕ) (k b n m : Tok) (x y : Sort) → HasPlace rows q k b → kids k ≡ x ∷ y ∷ [] → A.go q (grammar_symbol.Tok k) ≡ Some p → May n x → May m y → HasPlace rows p n m
  first_kid q p k b n m x y place e go may may' =
      let d : ArePaired v rows place.row p x y = paired q p k b x y place e go in
      let f : HasFirst rows d.set d.firsts p n = d.first n may in
      record { row = f.kid; at = f.at; behind = f.places m (d.begins m may') }

  second_kid : (q p j : ℕ) (k b n m : Tok) (x y : Sort) (s : List Sym) (place : HasPlace rows q k b) → kids k ≡ x ∷ y ∷ [] → A.go q (grammar_symbol.Tok k) ≡ Some p → May n x → May m y
      → HasSum v rows p n m s → walk A q (s ++ (grammar_symbol.Tok k ∷ [])) ≡ Some j → Second v rows place.row j m s
  second_kid q p j k b n m x y s place e go may may' sum walks =
      let d : ArePaired v rows place.row p x y = paired q p k b x y place e go in
      let f : HasFirst rows d.set d.firsts p n = d.first n may in
      let same : sum.row ≡ f.kid = same_Some sum.row f.kid (sym sum.at ∙ f.at) in
      let c = f.lines sum.line (subst (λ (z : Row). Contains z.lines.items sum.line) same sum.there) in
      let wide : IsWider sum.line c.0 = c.1.1 in
      let g : HasSecond v rows place.row c.0 m = d.second c.0 c.1.0 m may' (wide.sums m sum.sum) in
      let behind : sum.line.behind ≡ walk A p s = behind_is A v rows sound p n sum.row sum.line s sum.at (stands p n sum.row sum.at) sum.there sum.list in
      let on : walk A p s ≡ Some j = sym (walk_from A q p (grammar_symbol.Tok k) s go) ∙ walks in
      let state : g.state ≡ j = same_Some g.state j (sym g.behind ∙ (wide.state ∙ (behind ∙ on))) in
      record {
        list = c.0.list;
        below = subst (λ (i : ℕ). IsList v i s) (sym wide.list) sum.list;
        kid = subst (λ (i : ℕ). HasKid v rows place.row i m c.0.list) state g.kid;
      }

  line_of : (q : ℕ) (k b : Tok) (s : List Sym) (h : HasSettling v rows q k b s) → IsLineClosed A v h.row h.line.line
  line_of q k b s h = (row_closed q k h.row h.at).lines h.line.line h.line.there

  behind_of : (q p : ℕ) (k b : Tok) (s : List Sym) (h : HasSettling v rows q k b s) → walk A q s ≡ Some p → h.line.line.behind ≡ Some p
  behind_of q p k b s h walks = behind_is A v rows sound q k h.row h.line.line s h.at (stands q k h.row h.at) h.line.there h.line.list ∙ walks

  pub rows_closed : IsClosed A (HasPlace rows) (HasSettling v rows) (HasSum v rows)
  rows_closed = record {
    starts = starts;
    alone = leaf_settles;
    only = λ q p k b n x place e go may. let h = only_kid q p k b n x place e go may in record { row = h.kid; at = h.at; behind = h.within b place.behind };
    only_in = λ q p k b n x s place e go may sum. settles_joined q p 0 k b n [] s place (only_kid q p k b n x place e go may) lists.first sum;
    first = first_kid;
    second = λ q p j k b n m x y s place e go may may' sum walks.
        let h = second_kid q p j k b n m x y s place e go may may' sum walks in record { row = h.kid.kid; at = h.kid.at; behind = h.kid.within b place.behind };
    both_in = λ q p j k b n m x y s z place e go may may' sum walks other.
        let h = second_kid q p j k b n m x y s place e go may may' sum walks in settles_joined q j h.list k b m s z place h.kid h.below other;
    settles = λ q p k b s r h walks free size.
        record { row = h.row; at = h.at; line = (line_of q k b s h).settles p b s r (behind_of q p k b s h walks) h.line.settled h.line.list free size };
    sums = λ q p k b s c h walks free out. record {
      row = h.row;
      at = h.at;
      line = h.line.line;
      there = h.line.there;
      list = h.line.list;
      sum = (line_of q k b s h).sums p b s c (behind_of q p k b s h walks) h.line.settled h.line.list free out;
    };
  }
