-- Reductions of whole lists, as items.
use Rattle.std.proofs.Common.{◌≡◌, ℕ, ◌-◌, List, [], ◌∷◌, Option, Some, None, Contains, Bool, true, false, length, slice_get, refl, sym, ap, ◌∙◌, subst, arith}
use Rattle.std.specs.Prelude.{nat_lt, ◌==◌, slice_index_or, if◌then◌else◌}
use Rattle.std.proofs.lemmas.Bool.{eqb-true}
use Rattle.std.proofs.lemmas.Option.{get_or_from_slice_get, same_Some, none-some}
use Rattle.md_reader.specs.State.{Content}
use Rattle.md_reader.specs.declared.types.Rule.{Rule}
use Rattle.md_reader.specs.declared.types.Sym.{Sym}
use Rattle.md_reader.specs.declared.types.Sym.TheVariants as grammar_symbol
use Rattle.lr_tables.specs.declared.types.Choice.{Choice}
use Rattle.lr_tables.specs.declared.types.Choice.TheVariants as choice
use Rattle.lr_tables.specs.View.{TableView}
use Rattle.lr_tables.specs.Leads.{actions_at}
use Rattle.lr_check_found.specs.lr_check_sets.specs.Automaton.{Automaton, Production, Candidate, reduce, size_of, Free}
use Rattle.lr_check_found.specs.lr_check_sets.specs.Table.{production, candidates_of, automaton_of}
use Rattle.lr_check_found.specs.lr_check_sets.proofs.Tables.{reduce_same, shift_reduce}
use Rattle.lr_check_found.specs.declared.choices.Leads.{Leads}
use Rattle.lr_check_found.specs.declared.choices.Leads.TheVariants.{Out, Whole, Inside}
use Rattle.lr_check_found.specs.declared.places.Place.{Place}
use Rattle.lr_check_found.specs.declared.settlings.How.{How}
use Rattle.lr_check_found.specs.declared.settlings.How.TheVariants as how
use Rattle.lr_check_found.specs.declared.settlings.Settling.{Settling}
use Rattle.lr_check_found.specs.Choices.{leads_by, seen_rule, seen, CandidateOf, HasFree}
use Rattle.lr_check_found.specs.Lists.{IsList}
use Rattle.lr_check_found.specs.Found.{FoundView, IsPlaceAt, IsSettlingAt, Settles}
use Rattle.lr_check_found.specs.Items.{Made, HasMade}
use Rattle.lr_check_found.specs.Sound.{IsSoundSettling, IsFound}
use Rattle.lr_check_found.proofs.Leading.{candidates_here, candidates_there}
use Rattle.lr_check_complete.specs.Kids.{LeadsIn, ReducesIn}

-- a reduction of the whole list
whole_leads : (long left size : ℕ) → long ≡ size → leads_by long left size ≡ Whole left
whole_leads long left size e = grind (arith, e)

-- and it alone leads so
record IsWhole (long left size k : ℕ) : Type 0 where
  same_size : long ≡ size
  same_left : left ≡ k

out_whole : {X : Type 0} (n k : ℕ) → Out n ≡ Whole k → X
out_whole n k e = cc

inside_whole : {X : Type 0} (k : ℕ) → Inside ≡ Whole k → X
inside_whole k e = cc

pub whole_same : (j k : ℕ) → Whole j ≡ Whole k → j ≡ k
whole_same j k e = cc

if_out : (b : Bool) (x y : Leads) → b ≡ true → (if b then x else y) ≡ x
if_out true x y e = refl
if_out false x y e = cc

if_else : (b : Bool) (x y : Leads) → b ≡ false → (if b then x else y) ≡ y
if_else true x y e = cc
if_else false x y e = refl

is_whole : (long left size k : ℕ) → leads_by long left size ≡ Whole k → IsWhole long left size k
is_whole long left size k e = by (nat_lt size long) (long == size) refl refl
  where
    by : (b d : Bool) → nat_lt size long ≡ b → (long == size) ≡ d → IsWhole long left size k
    by true d f g = out_whole (long - size) k (sym (if_out (nat_lt size long) (Out (long - size)) (if long == size then Whole left else Inside) f) ∙ e)
    by false true f g = record {
      same_size = eqb-true long size g;
      same_left = whole_same left k (sym (if_else (nat_lt size long) (Out (long - size)) (if long == size then Whole left else Inside) f ∙ if_out (long == size) (Whole left) Inside g) ∙ e);
    }
    by false false f g = inside_whole k (sym (if_else (nat_lt size long) (Out (long - size)) (if long == size then Whole left else Inside) f ∙ if_else (long == size) (Whole left) Inside g) ∙ e)

-- the choice of a free reduction of the whole list leads to its class
pub whole_choice : (rules : List Rule) (d : Choice) (r : Production) (size : ℕ) → CandidateOf rules d (reduce r) → size_of r ≡ size → (seen rules size d).leads ≡ Whole r.left
whole_choice rules (choice.Shift q) r size is e = absurd (shift_reduce r is)
whole_choice rules choice.Accept r size is e = absurd (shift_reduce r is)
whole_choice rules (choice.Reduce n) r size (q, (there, is)) e =
    let same : r ≡ production q = reduce_same r (production q) is in
    let long : length q.right ≡ size = ap size_of (sym same) ∙ e in
    ap (λ (o : Option Rule). (seen_rule size o).leads) there ∙ (whole_leads (length q.right) q.left size long ∙ ap (λ (x : Production). Whole x.left) (sym same))

-- a choice that leads to a class is a reduction of the whole list
pub record WholeChoice (rules : List Rule) (size : ℕ) (d : Choice) (k : ℕ) : Type 0 where
  pub rule : Production
  pub is : CandidateOf rules d (reduce rule)
  pub long : size_of rule ≡ size
  pub left : rule.left ≡ k

pub choice_whole : (rules : List Rule) (size : ℕ) (d : Choice) (k : ℕ) → (seen rules size d).leads ≡ Whole k → WholeChoice rules size d k
choice_whole rules size (choice.Shift q) k e = out_whole 0 k e
choice_whole rules size choice.Accept k e = out_whole 0 k e
choice_whole rules size (choice.Reduce n) k e = by (slice_get rules n) refl
  where
    by : (o : Option Rule) → slice_get rules n ≡ o → WholeChoice rules size (choice.Reduce n) k
    by None f = inside_whole k (sym (ap (λ (o : Option Rule). (seen_rule size o).leads) f) ∙ e)
    by (Some r) f =
        let w : IsWhole (length r.right) r.left size k = is_whole (length r.right) r.left size k (sym (ap (λ (o : Option Rule). (seen_rule size o).leads) f) ∙ e) in
        record { rule = production r; is = (r, (f, refl)); long = w.same_size; left = w.same_left }

module _ (t : TableView) (f : FoundView) (i : ℕ) (e : Settling) (x : Place) (p : ℕ) (found : IsFound (automaton_of t) f) (at : IsSettlingAt f i e) (behind : e.behind ≡ Some p)
    (place : IsPlaceAt f e.place x)
    (d : Content) (rules : List Rule) (choices free : List Choice) (content : d ≡ t.content) (are : rules ≡ d.rules) (actions : choices ≡ actions_at t p x.behind) (has : HasFree rules choices free)
    (list : List Sym) (size : ℕ) (lists : list ≡ slice_index_or f.lists.all e.list []) (long : size ≡ length list) where
  here : candidates_of rules choices ≡ candidates_of t.content.rules (actions_at t p x.behind)
  here = ap (λ (rs : List Rule). candidates_of rs choices) (are ∙ ap (λ (c : Content). c.rules) content) ∙ ap (candidates_of t.content.rules) actions

  sound : IsSoundSettling (automaton_of t) f i e
  sound = found.settlings i e at

  -- the list of the settling
  list_is : (s : List Sym) → IsList f.lists e.list s → length s ≡ size
  list_is s is = ap length (sym (get_or_from_slice_get f.lists.all e.list s [] is)) ∙ sym (long ∙ ap length lists)

  pub reduced_made : (c : Choice) → Contains free c → (k : ℕ) → (seen rules size c).leads ≡ Whole k → HasMade (automaton_of t) f e.place (how.Reduced i k)
  reduced_made c m k lead =
      let w : WholeChoice rules size c k = choice_whole rules size c k lead in
      let fr : Free ((automaton_of t).candidates p x.behind) (reduce w.rule) =
      candidates_there t p x.behind (reduce w.rule) (subst (λ (cs : List Candidate). Free cs (reduce w.rule)) here (has.only c (reduce w.rule) m w.is)) in
      subst (λ (h : How). HasMade (automaton_of t) f e.place h) (ap (how.Reduced i) w.left) (record {
        place = x;
        list = grammar_symbol.Class w.rule.left ∷ [];
        there = place;
        made = Made.made_by_reduction e w.rule at refl sound.symbols behind fr (w.long ∙ sym (list_is sound.list sound.symbols));
      })

  pub reduces_in : ((c : Choice) → Contains free c → LeadsIn f e.place (seen rules size c).leads) → ReducesIn (automaton_of t) f i
  reduces_in each = record { each = λ b y s q r ab py ls bq fr many. all b y s q r ab py ls bq fr many }
    where
      all : (b : Settling) (y : Place) (s : List Sym) (q : ℕ) (r : Production) → IsSettlingAt f i b → IsPlaceAt f b.place y → IsList f.lists b.list s → b.behind ≡ Some q →
          Free ((automaton_of t).candidates q y.behind) (reduce r) → size_of r ≡ length s → Settles f b.place (grammar_symbol.Class r.left ∷ [])
      all b y s q r ab py ls bq fr many =
          let same : b ≡ e = same_Some b e (sym ab ∙ at) in
          let state : q ≡ p = same_Some q p (sym bq ∙ (ap (λ (z : Settling). z.behind) same ∙ behind)) in
          let beside : y ≡ x = same_Some y x (sym py ∙ (ap (λ (z : Settling). slice_get f.places z.place) same ∙ place)) in
          let fr' : Free (candidates_of rules choices) (reduce r) = subst (λ (cs : List Candidate). Free cs (reduce r)) (sym here) (candidates_here t p x.behind (reduce r)
          (subst (λ (j : ℕ). Free ((automaton_of t).candidates j x.behind) (reduce r)) state (subst (λ (z : Place). Free ((automaton_of t).candidates q z.behind) (reduce r)) beside fr))) in
          let c = has.each (reduce r) fr' in
          let size' : size_of r ≡ size = many ∙ list_is s (subst (λ (z : Settling). IsList f.lists z.list s) same ls) in
          subst (λ (z : Settling). Settles f z.place (grammar_symbol.Class r.left ∷ [])) (sym same)
          (subst (λ (l : Leads). LeadsIn f e.place l) (whole_choice rules c.0 r size c.1.1 size') (each c.0 c.1.0))

-- a settling that leads nowhere
pub reduces_nowhere : (A : Automaton) (f : FoundView) (i : ℕ) (e : Settling) → IsSettlingAt f i e → e.behind ≡ None → ReducesIn A f i
reduces_nowhere A f i e at none = record {
  each = λ b y s q r ab py ls bq fr many. absurd (none-some q (sym (ap (λ (z : Settling). z.behind) (same_Some b e (sym ab ∙ at)) ∙ none) ∙ bq));
}

-- a place that isn't found
pub reduces_lost : (A : Automaton) (f : FoundView) (i : ℕ) (e : Settling) → IsSettlingAt f i e → ((x : Place) → IsPlaceAt f e.place x → ⊥) → ReducesIn A f i
reduces_lost A f i e at lost = record {
  each = λ b y s q r ab py ls bq fr many. absurd (lost y (ap (λ (z : Settling). slice_get f.places z.place) (sym (same_Some b e (sym ab ∙ at))) ∙ py));
}
