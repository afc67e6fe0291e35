-- Where nothing is lacking, what was found is closed under the rules of the sets.
use Rattle.std.proofs.Common.{◌≡◌, ℕ, ◌<◌, List, [], ◌∷◌, ◌++◌, Option, Some, None, length, slice_get, refl, sym, ap, ◌∙◌, subst}
use Rattle.std.proofs.lemmas.Option.{slice_get_within, same_Some, none-some}
use Rattle.tree_core.specs.declared.token.Tok.{Tok}
use Rattle.tree_core.specs.declared.token.Tok.TheVariants as tok
use Rattle.tree_core.specs.declared.token.Sort.{Sort}
use Rattle.tree_core.specs.declared.token.Sort.TheVariants as sort
use Rattle.tree_core.specs.Grammar.{kids}
use Rattle.md_reader.specs.declared.types.Sym.{Sym}
use Rattle.md_reader.specs.declared.types.Sym.TheVariants as grammar_symbol
use Rattle.lr_tables.specs.View.{RowView, TableView}
use Rattle.lr_tables.specs.Leads.{target_in, target_at}
use Rattle.lr_tables.specs.Symbols.{symbol_number}
use Rattle.lr_check_found.specs.lr_check_sets.specs.Trees.{May}
use Rattle.lr_check_found.specs.lr_check_sets.specs.Automaton.{Automaton, walk, reduced, Free, Outside}
use Rattle.lr_check_found.specs.lr_check_sets.specs.Table.{automaton_of}
use Rattle.lr_check_found.specs.lr_check_sets.specs.Closed.{IsClosed}
use Rattle.lr_check_found.specs.declared.places.Place.{Place}
use Rattle.lr_check_found.specs.Found.{FoundView, place_of, IsPlaceAt, Settles}
use Rattle.lr_check_found.specs.Sound.{IsSoundSettling, IsFound}
use Rattle.lr_check_found.specs.Count.{Tuple, HasMore}
use Rattle.lr_check_found.proofs.Deriving.{walk_from, whole_left}
use Rattle.lr_check_found.proofs.Counting.{IsSumOf, no_more}
use Rattle.lr_check_found.specs.lr_check_sets.proofs.Closing.{sum_in}
use Rattle.lr_check_complete.specs.Sets.{HasPlace, HasSettling, HasSum, IsComplete}
use Rattle.lr_check_complete.specs.Kids.{KidsIn, FrameIn, ReducesIn}

-- a state that leads on has a row
row_within : (t : TableView) (q p : ℕ) (X : Sym) → target_at t q X ≡ Some p → q < length t.rows
row_within t q p X e = by (slice_get t.rows q) refl
  where
    by : (o : Option RowView) → slice_get t.rows q ≡ o → q < length t.rows
    by None f = absurd (none-some p (sym (ap (λ (o : Option RowView). target_in o (symbol_number X)) f) ∙ e))
    by (Some r) f = slice_get_within t.rows q r f

pub place_is : (f : FoundView) (q : ℕ) (k b : Tok) (s : List Sym) (h : HasSettling f q k b s) → IsPlaceAt f h.settles.entry.place (place_of q k b)
place_is f q k b s h = subst (λ n. IsPlaceAt f n (place_of q k b)) (sym h.settles.place) h.at

module _ (t : TableView) (f : FoundView) (found : IsFound (automaton_of t) f) (starts : (k : Tok) → May k sort.Stmt → HasPlace f 0 k tok.End)
    (frames : (q : ℕ) → q < length t.rows → (k : Tok) → FrameIn (automaton_of t) f q k) (reductions : (i : ℕ) → i < length f.settlings → ReducesIn (automaton_of t) f i) where
  kids_at : (q p : ℕ) (k b : Tok) (xs : List Sort) (place : HasPlace f q k b) → kids k ≡ xs → (automaton_of t).go q (grammar_symbol.Tok k) ≡ Some p
      → KidsIn (automaton_of t) f place.number (place_of q k b) p xs
  kids_at q p k b xs place e go =
      subst (KidsIn (automaton_of t) f place.number (place_of q k b) p) e ((frames q (row_within t q p (grammar_symbol.Tok k) go) k).each p place.number b go place.at)

  settling : (q : ℕ) (k b : Tok) (s : List Sym) (place : HasPlace f q k b) → Settles f place.number s → HasSettling f q k b s
  settling q k b s place h = record { number = place.number; at = place.at; settles = h }

  -- what settles there leads where the list leads
  sound_at : (q : ℕ) (k b : Tok) (s : List Sym) (h : HasSettling f q k b s) → IsSoundSettling (automaton_of t) f h.settles.number h.settles.entry
  sound_at q k b s h = found.settlings h.settles.number h.settles.entry h.settles.there

  same_place : (q : ℕ) (k b : Tok) (s : List Sym) (h : HasSettling f q k b s) → (sound_at q k b s h).place ≡ place_of q k b
  same_place q k b s h = same_Some (sound_at q k b s h).place (place_of q k b) (sym (sound_at q k b s h).there ∙ place_is f q k b s h)

  same_list : (q : ℕ) (k b : Tok) (s : List Sym) (h : HasSettling f q k b s) → (sound_at q k b s h).list ≡ s
  same_list q k b s h = same_Some (sound_at q k b s h).list s (sym (sound_at q k b s h).symbols ∙ h.settles.list)

  behind_is : (q p : ℕ) (k b : Tok) (s : List Sym) (h : HasSettling f q k b s) → walk (automaton_of t) q s ≡ Some p → h.settles.entry.behind ≡ Some p
  behind_is q p k b s h ws =
      (sound_at q k b s h).behind ∙ (ap (λ (x : Place). walk (automaton_of t) x.state (sound_at q k b s h).list) (same_place q k b s h) ∙ (ap (walk (automaton_of t) q) (same_list q k b s h) ∙ ws))

  pub closed : IsClosed (automaton_of t) (HasPlace f) (HasSettling f) (HasSum f)
  closed = record {
    starts = starts;
    alone = λ q p k b place e go. settling q k b (grammar_symbol.Tok k ∷ []) place (kids_at q p k b [] place e go);
    only = λ q p k b n x place e go may. ((kids_at q p k b (x ∷ []) place e go).each n may).place;
    only_in = λ q p k b n x s place e go may sum. settling q k b (s ++ (grammar_symbol.Tok k ∷ [])) place (((kids_at q p k b (x ∷ []) place e go).each n may).sums s sum);
    first = λ q p k b n m x y place e go may may'. ((kids_at q p k b (x ∷ y ∷ []) place e go).each m may').places n may;
    second = λ q p j k b n m x y s place e go may may' sum ws.
        (((kids_at q p k b (x ∷ y ∷ []) place e go).each m may').second n s j may sum (sym (walk_from (automaton_of t) q p (grammar_symbol.Tok k) s go) ∙ ws)).place;
    both_in = λ q p j k b n m x y s z place e go may may' sum ws sum'.
        settling q k b (z ++ (s ++ (grammar_symbol.Tok k ∷ []))) place
        ((((kids_at q p k b (x ∷ y ∷ []) place e go).each m may').second n s j may sum (sym (walk_from (automaton_of t) q p (grammar_symbol.Tok k) s go) ∙ ws)).sums z sum');
    settles = λ q p k b s r h ws free size. record {
      number = h.number;
      at = h.at;
      settles = subst (λ n. Settles f n (reduced r s)) h.settles.place
          (subst (Settles f h.settles.entry.place) (sym (whole_left r s size))
          ((reductions h.settles.number (slice_get_within f.settlings h.settles.number h.settles.entry h.settles.there)).each h.settles.entry (place_of q k b) s p r h.settles.there
          (place_is f q k b s h)
          h.settles.list (behind_is q p k b s h ws) free size));
    };
    sums = λ q p k b s c h ws free out.
        let e = sound_at q k b s h in
        record {
          number = h.settles.number;
          behind = p;
          sum = record {
            entry = h.settles.entry;
            there = h.settles.there;
            place = place_is f q k b s h;
            list = h.settles.list;
            behind = behind_is q p k b s h ws;
            is_sum = e.sums p c (sym e.behind ∙ behind_is q p k b s h ws) (subst (λ (x : Place). Free ((automaton_of t).candidates p x.behind) c) (sym (same_place q k b s h)) free)
                (subst (Outside c) (sym (same_list q k b s h)) out);
          };
        };
  }

-- what is found is as many as the sums
pub no_more_sums : (A : Automaton) (f : FoundView) → IsComplete A f → HasMore A f.tuples → ⊥
no_more_sums A f c = no_more A f c.found (λ u sum. of_sum u (sum_in A (HasPlace f) (HasSettling f) (HasSum f) c.closed sum))
  where
    of_sum : (u : Tuple) → HasSum f u.place.state u.place.token u.place.behind u.list → IsSumOf f u
    of_sum u h = record { number = h.number; behind = h.behind; sum = h.sum }
