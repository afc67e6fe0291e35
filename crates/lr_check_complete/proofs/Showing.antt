-- What the rows of a sheet show.
use Rattle.std.proofs.Common.{◌≡◌, ℕ, List, [], ◌∷◌, ◌++◌, Some, Contains, sym, ap, ◌∙◌, subst}
use Rattle.std.proofs.lemmas.Option.{same_Some}
use Rattle.tree_core.specs.declared.token.Tok.{Tok}
use Rattle.tree_core.specs.declared.token.Sort.{Sort}
use Rattle.md_reader.specs.declared.types.Sym.{Sym}
use Rattle.md_reader.specs.declared.types.Sym.TheVariants as grammar_symbol
use Rattle.lr_check_found.specs.lr_check_sets.specs.Trees.{May}
use Rattle.lr_check_found.specs.lr_check_sets.specs.Automaton.{Automaton, walk}
use Rattle.lr_check_found.specs.lr_check_sets.proofs.Rows.{at_contains}
use Rattle.lr_check_found.specs.declared.places.Place.{Place}
use Rattle.lr_check_found.specs.declared.settlings.Settling.{Settling}
use Rattle.lr_check_found.specs.Lists.{IsList, IsBehindToken}
use Rattle.lr_check_found.specs.Found.{FoundView, place_of, IsPlaceAt, IsSettlingAt, Settles}
use Rattle.lr_check_found.specs.Sound.{IsFound}
use Rattle.lr_check_found.specs.Adding.{list_number}
use Rattle.lr_check_found.proofs.Deriving.{IsSum, sum_of}
use Rattle.lr_check_found.proofs.Added.{list_is}
use Rattle.lr_check_complete.specs.declared.sheet.Line.{Line}
use Rattle.lr_check_complete.specs.declared.sheet.Row.{Row}
use Rattle.lr_check_complete.specs.declared.sheet.Sheet.{Sheet}
use Rattle.lr_check_complete.specs.Sets.{HasPlace, HasSettling, HasSum}
use Rattle.lr_check_complete.specs.Kids.{OnlyIn, SecondIn, SecondAt, BothIn}
use Rattle.lr_check_complete.specs.Sheets.{In, IsRow, IsSumLine, IsAllLine, IsSheet, IsJoinedAt, IsJoinedLine, HasKid, StandsIn}
use Rattle.lr_check_complete.specs.Pairs.{IsWider, ArePaired}
use Rattle.lr_check_complete.proofs.Kids_found.{one_place}
use Rattle.lr_check_complete.proofs.Both.{same_behind}

-- a list of one of the row's lines settles at a place of the row
settles_shown : (A : Automaton) (f : FoundView) (s : Sheet) → IsFound A f → IsSheet s f → (row : Row) → Contains s.rows.items row → (list : ℕ) (l : Line) (n : ℕ) (x : Place) (w : List Sym) →
    IsPlaceAt f n x → x.state ≡ row.state → x.token ≡ row.token → Contains row.lines.items l → l.list ≡ list → In l.settled x.behind → IsList f.lists list w → Settles f n w
settles_shown A f s found right row of list l n x w there state token line same settled whole =
    let h : HasSettling f row.state row.token x.behind w = right.lines row of l line x.behind w settled (subst (λ i. IsList f.lists i w) (sym same) whole) in
    let place : place_of row.state row.token x.behind ≡ x =
    ap (λ i. place_of i row.token x.behind) (sym state) ∙ ap (λ t. place_of x.state t x.behind) (sym token) in
    let number : h.number ≡ n = one_place A f h.number n x found (subst (IsPlaceAt f h.number) place h.at) there in
    subst (λ i. Settles f i w) number h.settles

module _ (A : Automaton) (f : FoundView) (s : Sheet) (found : IsFound A f) (right : IsSheet s f) (row kid : Row) (q p lower : ℕ) (k m : Tok) (is : IsRow s q k row) (other : IsRow s p m kid)
    (within : (b : Tok) → In row.places b → In kid.places b) (joined : (l : Line) → Contains kid.lines.items l → IsJoinedLine f row lower l) where
  place_there : (x : Place) → StandsIn row x → HasPlace f p m x.behind
  place_there x stands =
      subst (λ t. HasPlace f p t x.behind) other.token (subst (λ j. HasPlace f j kid.token x.behind) other.state (right.places kid other.there x.behind (within x.behind stands.behind)))

  settles_at : (n : ℕ) (x : Place) (v u : List Sym) → IsPlaceAt f n x → StandsIn row x → IsList f.lists lower v → HasSum f p m x.behind u
      → Settles f n (u ++ (v ++ (grammar_symbol.Tok x.token ∷ [])))
  settles_at n x v u there stands below h =
      let r = (right.sums h.sum.entry (at_contains f.settlings h.number h.sum.entry h.sum.there)).each (place_of p m x.behind) h.sum.place h.sum.is_sum in
      let same : r.0 ≡ kid = same_Some r.0 kid (sym r.1.0 ∙ other.at) in
      let l = r.1.1.0 in
      let line : IsSumLine h.sum.entry x.behind l = r.1.1.1.1 in
      let in_kid : Contains kid.lines.items l = subst (λ (z : Row). Contains z.lines.items l) same r.1.1.1.0 in
      let d : IsJoinedAt f row lower l x.behind = joined l in_kid x.behind line.behind stands.behind in
      let upper : IsList f.lists l.list u = subst (λ i. IsList f.lists i u) (sym line.same) h.sum.list in
      let whole : IsList f.lists d.list (u ++ (v ++ (grammar_symbol.Tok row.token ∷ []))) = d.joined u v upper below in
      subst (λ t. Settles f n (u ++ (v ++ (grammar_symbol.Tok t ∷ [])))) (sym stands.token)
      (settles_shown A f s found right row is.there d.list d.line n x (u ++ (v ++ (grammar_symbol.Tok row.token ∷ []))) there stands.state stands.token d.there d.same d.settled whole)

pub second_shown : (A : Automaton) (f : FoundView) (s : Sheet) → IsFound A f → IsSheet s f → (row kid : Row) (q p first : ℕ) (k m : Tok) → IsRow s q k row → IsRow s p m kid →
    ((b : Tok) → In row.places b → In kid.places b) → ((l : Line) → Contains kid.lines.items l → IsJoinedLine f row (list_number f first) l) →
    (n : ℕ) (x : Place) (e : Settling) → IsSettlingAt f first e → e.behind ≡ Some p → IsPlaceAt f n x → StandsIn row x → SecondAt f n x m first
second_shown A f s found right row kid q p first k m is other within joined n x e at behind there stands = record {
  each = λ y v j sum.
      let same : p ≡ j = sym (same_behind f first j p y v e at behind sum) in
      subst (SecondIn f n x m v) same (record {
        place = place_there A f s found right row kid q p (list_number f first) k m is other within joined x stands;
        sums = λ u h. settles_at A f s found right row kid q p (list_number f first) k m is other within joined n x v u there stands (list_is f first y v j sum) h;
      });
}

-- the only kid of a place of the row
pub only_shown : (A : Automaton) (f : FoundView) (s : Sheet) → IsFound A f → IsSheet s f → (row : Row) (q p : ℕ) (k : Tok) (w : Sort) → IsRow s q k row →
    ((t : Tok) → May t w → HasKid s f row p t 0) → (n : ℕ) (x : Place) → IsPlaceAt f n x → StandsIn row x → OnlyIn f n x p w
only_shown A f s found right row q p k w is onlys n x there stands = record {
  each = λ t may.
      let h = onlys t may in
      record {
        place = place_there A f s found right row h.kid q p 0 k t is h.is h.within h.joined x stands;
        sums = λ u sum. settles_at A f s found right row h.kid q p 0 k t is h.is h.within h.joined n x [] u there stands found.lists.first sum;
      };
}

-- a token without kids at a place of the row
pub leaf_shown : (A : Automaton) (f : FoundView) (s : Sheet) → IsFound A f → IsSheet s f → (row : Row) (q list : ℕ) (k : Tok) → IsRow s q k row → IsBehindToken f.lists k 0 0 list →
    (l : Line) → Contains row.lines.items l → IsAllLine list row.places l → (n : ℕ) (x : Place) → IsPlaceAt f n x → StandsIn row x → Settles f n (grammar_symbol.Tok k ∷ [])
leaf_shown A f s found right row q list k is joined l there all n x at stands =
    settles_shown A f s found right row is.there list l n x (grammar_symbol.Tok k ∷ []) at stands.state stands.token there all.same (all.all x.behind stands.behind)
    (joined [] [] found.lists.first found.lists.first)

-- the two kids of a place of the row
pub both_shown : (A : Automaton) (f : FoundView) (s : Sheet) → IsFound A f → IsSheet s f → (row : Row) (q p set : ℕ) (k : Tok) (w v : Sort) (firsts : List Line) → IsRow s q k row →
    ArePaired s f row set firsts p w v → (n : ℕ) (x : Place) → IsPlaceAt f n x → StandsIn row x → BothIn A f n x p w v
both_shown A f s found right row q p set k w v firsts is paired n x there stands =
    record { each = λ m may. record { places = λ t fit. place m may t fit; second = λ t u j fit sum ws. second m may t u j fit sum ws } }
  where
    place : (m : Tok) → May m v → (t : Tok) → May t w → HasPlace f p t m
    place m may t fit =
        let h = paired.first t fit in
        subst (λ z. HasPlace f p z m) h.is.token (subst (λ j. HasPlace f j h.kid.token m) h.is.state (right.places h.kid h.is.there m (h.places m (paired.begins m may))))

    second : (m : Tok) → May m v → (t : Tok) (u : List Sym) (j : ℕ) → May t w → HasSum f p t m u → walk A p u ≡ Some j → SecondIn f n x m u j
    second m may t u j fit sum ws =
        let h = paired.first t fit in
        let r = (right.sums sum.sum.entry (at_contains f.settlings sum.number sum.sum.entry sum.sum.there)).each (place_of p t m) sum.sum.place sum.sum.is_sum in
        let same : r.0 ≡ h.kid = same_Some r.0 h.kid (sym r.1.0 ∙ h.is.at) in
        let l = r.1.1.0 in
        let line : IsSumLine sum.sum.entry m l = r.1.1.1.1 in
        let c = h.lines l (subst (λ (z : Row). Contains z.lines.items l) same r.1.1.1.0) in
        let wide : IsWider l c.0 = c.1.1 in
        let d = paired.second c.0 c.1.0 m may (wide.sums m line.behind) in
        let sound : IsSum A (place_of p t m) u sum.behind = sum_of A f sum.number (place_of p t m) u sum.behind found sum.sum in
        let state : d.state ≡ sum.behind = same_Some d.state sum.behind (sym d.behind ∙ (wide.state ∙ (line.state ∙ sum.sum.behind))) in
        let on : sum.behind ≡ j = same_Some sum.behind j (sym sound.walks ∙ ws) in
        let below : IsList f.lists c.0.list u = subst (λ i. IsList f.lists i u) (sym (wide.list ∙ line.same)) sum.sum.list in
        subst (SecondIn f n x m u) (state ∙ on) (record {
          place = place_there A f s found right row d.kid.kid q d.state c.0.list k m is d.kid.is d.kid.within d.kid.joined x stands;
          sums = λ z g. settles_at A f s found right row d.kid.kid q d.state c.0.list k m is d.kid.is d.kid.within d.kid.joined n x u z there stands below g;
        })
