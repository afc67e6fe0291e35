-- What is asked of the next settling's node, by how it was found.
use Rattle.std.proofs.Common.{◌≡◌, ℕ, ◌+◌, ◌<◌, List, [], ◌∷◌, ◌++◌, Some, Bool, length, slice_get, refl, sym, ap, ap₂, ◌∙◌, subst, ⊎_elim, arith}
use Rattle.std.specs.Prelude.{slice_index_or, OnOk, Result, Ok, Err}
use Rattle.std.proofs.lemmas.Option.{same_Some}
use Rattle.gg_base.proofs.Facts.{index_of, index_there}
use Rattle.tree_core.specs.declared.token.Tok.{Tok}
use Rattle.md_reader.specs.State.{Content}
use Rattle.md_reader.specs.declared.types.Rule.{Rule}
use Rattle.lr_tables.specs.declared.types.Choice.{Choice}
use Rattle.lr_tables.specs.View.{TableView}
use Rattle.lr_tables.proofs.Members.{In-Contains, Contains-In}
use Rattle.lr_tables.specs.Leads.{actions_at}
use Rattle.lr_check_found.specs.lr_check_sets.specs.Table.{automaton_of, candidates_at}
use Rattle.md_reader.specs.declared.types.Sym.{Sym}
use Rattle.lr_check_found.specs.lr_check_sets.specs.Automaton.{Automaton}
use Rattle.lr_check_found.specs.declared.places.Place.{Place}
use Rattle.lr_check_found.specs.declared.settlings.How.{How}
use Rattle.lr_check_found.specs.declared.settlings.How.TheVariants as how
use Rattle.lr_check_found.specs.declared.settlings.Settling.{Settling}
use Rattle.lr_check_found.specs.Found.{FoundView, SettlesAt}
use Rattle.lr_check_found.specs.Items.{Made, IsLater}
use Rattle.lr_check_found.specs.Adding.{number_in, list_number}
use Rattle.lr_check_found.specs.Sound.{IsSoundSettling, IsFound}
use Rattle.lr_check_samples.specs.Answering.{answers_to, depths_to}
use Rattle.lr_check_samples.specs.Fixed.{IsMadeBy}
use Rattle.lr_check_samples.specs.Nodes.{IsNode, DrawnKids, kids_leaf, kids_one, kids_two, kids_reduced}
use Rattle.lr_check_samples.proofs.Making.{settles_of, MadeOne, MadeTwo, MadeReduced, made_one, made_two, made_reduced}
use Rattle.lr_check.specs.Questions.{answers_of}
use Rattle.lr_check_drawn.specs.Asked.{AskedView, with_kid, with_taken}
use Rattle.lr_check_drawn.specs.Drawing.{DrawingView, KidsView, none_asked, kids_in, choices_at, choices_behind, AreBelow, AreDrawn, IsAsked}

-- the list of what settles with a number
listed : (f : FoundView) (j : ℕ) (y : Place) (s : List Sym) (p : ℕ) → SettlesAt f j y s p → slice_index_or f.lists.all (list_number f j) [] ≡ s
listed f j y s p at = ap (λ n. slice_index_or f.lists.all (number_in n) []) at.there ∙ index_of f.lists.all at.entry.list s [] at.list

none_below : (i : ℕ) → AreBelow i []
none_below i = record { each = λ k h. absurd (Contains-In k [] h) }

more_below : (i j : ℕ) (ks : List ℕ) → j < i → AreBelow i ks → AreBelow i (j ∷ ks)
more_below i j ks lt b = record {
  each = λ k h. ⊎_elim (λ e. omega (arith, lt, e)) (λ m. b.each k (In-Contains k ks m)) (Contains-In k (j ∷ ks) h);
}

below_lower : (i j : ℕ) (ks : List ℕ) → j < i → AreBelow j ks → AreBelow i ks
below_lower i j ks lt b = record { each = λ k h. let less = b.each k h in omega (arith, lt, less) }

-- the node of an earlier settling
record Earlier (A : Automaton) (f : FoundView) (d : DrawingView) (j : ℕ) (y : Place) : Type 0 where
  numbers : List ℕ
  own : List Bool
  node : IsNode d.nodes j y.token numbers own
  drawn : DrawnKids A f d.nodes j numbers own (slice_index_or d.depths j [])
  lower : AreBelow j numbers

earlier : {A : Automaton} {f : FoundView} {d : DrawingView} {i j p : ℕ} {y : Place} {s : List Sym} → AreDrawn A f d → i ≡ length d.depths → j < i → SettlesAt f j y s p → Earlier A f d j y
earlier {f = f} {d = d} {j = j} {y = y} drawn next lt at =
    let k = drawn.each j (slice_index_or d.depths j []) (index_there d.depths j [] (omega (arith, next, lt))) in
    let same : k.entry ≡ at.entry = same_Some k.entry at.entry (sym k.there ∙ at.there) in
    let place : k.place ≡ y = same_Some k.place y (sym k.at ∙ (ap (λ (e : Settling). slice_get f.places e.place) same ∙ at.place)) in
    record { numbers = k.numbers; own = k.answers; node = subst (λ (c : Place). IsNode d.nodes j c.token k.numbers k.answers) place k.node; drawn = k.drawn; lower = k.lower }

-- how the next settling was made
record Next (A : Automaton) (f : FoundView) (i : ℕ) (h : How) : Type 0 where
  number : ℕ
  place : Place
  list : List Sym
  there : slice_get f.places number ≡ Some place
  made : Made A f number place h list
  later : IsLater i h

next_of : {A : Automaton} {f : FoundView} {i : ℕ} {h : How} → IsFound A f → IsMadeBy f i h → Next A f i h
next_of {A = A} {f = f} {i = i} {h = h} found m =
    let k : IsSoundSettling A f i m.entry = found.settlings i m.entry m.there in
    record {
      number = m.entry.place;
      place = k.place;
      list = k.list;
      there = k.there;
      made = subst (λ g. Made A f m.entry.place k.place g k.list) m.how k.made;
      later = subst (IsLater i) m.how k.later;
    }

asked_as : {A : Automaton} {f : FoundView} {d : DrawingView} {i : ℕ} {k l : KidsView} → k ≡ l → IsAsked A f d i l → IsAsked A f d i k
asked_as {A = A} {f = f} {d = d} {i = i} e h = subst (IsAsked A f d i) (sym e) h

pub asked_leaf : (A : Automaton) (f : FoundView) (d : DrawingView) (i : ℕ) (k : KidsView) → IsMadeBy f i how.Leaf → k ≡ record { numbers = []; asked = none_asked } → IsAsked A f d i k
asked_leaf A f d i k m e = asked_as e (record { drawn = kids_leaf m; lower = none_below i })

pub asked_one : (A : Automaton) (f : FoundView) (d : DrawingView) (i j : ℕ) (k : KidsView) → IsFound A f → AreDrawn A f d → i ≡ length d.depths → IsMadeBy f i (how.One j) →
    k ≡ record { numbers = j ∷ []; asked = with_kid none_asked 1 (slice_index_or d.depths j []) } → IsAsked A f d i k
asked_one A f d i j k found drawn next m e =
    let n : Next A f i (how.One j) = next_of found m in
    let g : MadeOne A f j n.place n.list = made_one n.made j refl in
    let l : Earlier A f d j g.kid = earlier drawn next n.later (settles_of g.sum) in
    asked_as e (record { drawn = kids_one m (settles_of g.sum) l.node l.drawn; lower = more_below i j [] n.later (none_below i) })

pub asked_two : (A : Automaton) (f : FoundView) (d : DrawingView) (i j l size : ℕ) (k : KidsView) → IsFound A f → AreDrawn A f d → i ≡ length d.depths → IsMadeBy f i (how.Two j l) →
    size ≡ length (slice_index_or f.lists.all (list_number f j) []) + 1 →
    k ≡ record { numbers = j ∷ l ∷ []; asked = with_kid (with_kid none_asked 1 (slice_index_or d.depths j [])) size (slice_index_or d.depths l []) } → IsAsked A f d i k
asked_two A f d i j l size k found drawn next m long e =
    let n : Next A f i (how.Two j l) = next_of found m in
    let g : MadeTwo A f j l n.place n.list = made_two n.made j l refl in
    let a : Earlier A f d j g.kid = earlier drawn next n.later.0 (settles_of g.sum) in
    let b : Earlier A f d l g.second = earlier drawn next n.later.1 (settles_of g.second_sum) in
    let list : slice_index_or f.lists.all (list_number f j) [] ≡ g.kid_list = listed f j g.kid g.kid_list g.behind (settles_of g.sum) in
    let same : size ≡ length g.kid_list + 1 = long ∙ ap (λ u. length u + 1) list in
    asked_as (e ∙ ap (λ z. record { numbers = j ∷ l ∷ []; asked = with_kid (with_kid none_asked 1 (slice_index_or d.depths j [])) z (slice_index_or d.depths l []) }) same)
    (record { drawn = kids_two m (settles_of g.sum) a.node a.drawn (settles_of g.second_sum) b.node b.drawn; lower = more_below i j (l ∷ []) n.later.0 (more_below i l [] n.later.1 (none_below i)) })

taken_at : (t : TableView) (a : AskedView) (p : ℕ) (b : Tok) (size c : ℕ) →
    with_taken a t.content.rules (actions_at t p b) size c
    ≡ record { own = a.own ++ answers_to ((automaton_of t).candidates p b) size c; depths = a.depths ++ depths_to ((automaton_of t).candidates p b) size c }
unfolding candidates_at
taken_at t a p b size c = refl

pub asked_again : (t : TableView) (f : FoundView) (d : DrawingView) (i j c : ℕ) (k : KidsView) → IsFound (automaton_of t) f → AreDrawn (automaton_of t) f d → i ≡ length d.depths →
    IsMadeBy f i (how.Reduced j c) →
    k ≡ record {
      numbers = kids_in (slice_get d.nodes j);
      asked = with_taken (record { own = answers_of (slice_get d.nodes j); depths = slice_index_or d.depths j [] }) t.content.rules (choices_behind t f (slice_get f.settlings j))
          (length (slice_index_or f.lists.all (list_number f j) [])) c;
    } → IsAsked (automaton_of t) f d i k
asked_again t f d i j c k found drawn next m e =
    let n : Next (automaton_of t) f i (how.Reduced j c) = next_of found m in
    let g : MadeReduced (automaton_of t) f n.number j c n.place n.list = made_reduced n.made j c refl in
    let at : SettlesAt f j n.place g.whole g.state = record { entry = g.entry; there = g.there; place = ap (slice_get f.places) g.place ∙ n.there; list = g.symbols; behind = g.behind } in
    let l : Earlier (automaton_of t) f d j n.place = earlier drawn next n.later at in
    let a : AskedView = record { own = l.own; depths = slice_index_or d.depths j [] } in
    let node : kids_in (slice_get d.nodes j) ≡ l.numbers = ap kids_in l.node in
    let own : answers_of (slice_get d.nodes j) ≡ l.own = ap answers_of l.node in
    let choices : choices_behind t f (slice_get f.settlings j) ≡ actions_at t g.state n.place.behind = ap (choices_behind t f) g.there ∙ ap₂ (choices_at t) g.behind at.place in
    let list : slice_index_or f.lists.all (list_number f j) [] ≡ g.whole = listed f j n.place g.whole g.state at in
    let first : k ≡ record { numbers = l.numbers; asked = with_taken a t.content.rules (choices_behind t f (slice_get f.settlings j)) (length (slice_index_or f.lists.all (list_number f j) [])) c } =
    e ∙ ap₂ (λ (x : List ℕ) (y : List Bool). record {
      numbers = x;
      asked = with_taken (record { own = y; depths = slice_index_or d.depths j [] }) t.content.rules
          (choices_behind t f (slice_get f.settlings j)) (length (slice_index_or f.lists.all (list_number f j) [])) c;
    }) node own in
    let second : k ≡ record { numbers = l.numbers; asked = with_taken a t.content.rules (actions_at t g.state n.place.behind) (length g.whole) c } =
    first ∙ ap₂ (λ (x : List Choice) (y : List Sym). record { numbers = l.numbers; asked = with_taken a t.content.rules x (length y) c }) choices list in
    asked_as (second ∙ ap (λ z. record { numbers = l.numbers; asked = z }) (taken_at t a g.state n.place.behind (length g.whole) c))
    (record { drawn = kids_reduced m at l.drawn; lower = below_lower i j l.numbers n.later l.lower })

pub made_as : {f : FoundView} {i : ℕ} {h g : How} → h ≡ g → IsMadeBy f i h → IsMadeBy f i g
made_as {f = f} {i = i} e m = subst (IsMadeBy f i) e m

-- what is asked until a class alone is reduced, as the code finds it
pub turn_asked : {E : Type 0} (r : Result (Unit {0}) E) (t : TableView) (a b : AskedView) (p q to : ℕ) (k : Tok) (rules : List Rule) (choices : List Choice) (d : Content) →
    d ≡ t.content → rules ≡ d.rules → choices ≡ actions_at t q k → q ≡ p → OnOk r (b ≡ with_taken a rules choices 1 to) →
    OnOk r (b ≡ record { own = a.own ++ answers_to ((automaton_of t).candidates p k) 1 to; depths = a.depths ++ depths_to ((automaton_of t).candidates p k) 1 to })
turn_asked (Err u) t a b p q to k rules choices d content are actions same e = tt
turn_asked (Ok u) t a b p q to k rules choices d content are actions same e =
    e ∙ (ap₂ (λ (x : List Rule) (y : List Choice). with_taken a x y 1 to) (are ∙ ap (λ (c : Content). c.rules) content) (actions ∙ ap (λ (z : ℕ). actions_at t z k) same)
    ∙ taken_at t a p k 1 to)
