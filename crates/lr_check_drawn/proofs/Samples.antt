-- The samples, from what is drawn.
use Rattle.std.proofs.Common.{◌≡◌, ℕ, ◌+◌, ◌-◌, List, [], ◌∷◌, ◌++◌, Bool, true, length, slice_get, sym, ap, ◌∙◌, subst, arith, append-nil}
use Rattle.std.specs.Prelude.{Result, Ok, Err, IfOk}
use Rattle.tree_core.specs.declared.token.Tok.{Tok}
use Rattle.tree_core.specs.declared.token.Sort.TheVariants as sort
use Rattle.tree_core.specs.Grammar.{kids}
use Rattle.md_reader.specs.declared.types.Sym.{Sym}
use Rattle.md_reader.specs.declared.types.Sym.TheVariants as grammar_symbol
use Rattle.md_reader.specs.Valid.{IsValid}
use Rattle.lr_tables.specs.View.{TableView}
use Rattle.lr_tables.specs.Promises.{IsNumbered}
use Rattle.lr_check_found.specs.lr_check_sets.specs.Automaton.{Automaton}
use Rattle.lr_check_found.specs.lr_check_sets.specs.Table.{automaton_of}
use Rattle.lr_check.specs.Tree.{Node}
use Rattle.lr_check.specs.Statement.{fits_at, KidsFit, IsStatement}
use Rattle.lr_check.specs.Questions.{answers_of}
use Rattle.lr_check_found.specs.declared.places.Place.{Place}
use Rattle.lr_check_found.specs.declared.settlings.Settling.{Settling}
use Rattle.lr_check_found.specs.Found.{FoundView, IsPlaceAt, IsSettlingAt, SettlesAt}
use Rattle.lr_check_found.specs.Sound.{IsFound}
use Rattle.lr_check_samples.specs.Nodes.{IsNode, DrawnKids, DrawnRound, round_root}
use Rattle.lr_check_samples.specs.Drawn.{DrawnBlocking, drawn_gap, drawn_dead, drawn_circle, BlockingNodes, LoopingNodes}
use Rattle.lr_check_samples.proofs.Lasting.{kids_last}
use Rattle.lr_check_samples.proofs.Drawn_samples.{drawn_samples_stop}
use Rattle.lr_check_flaws.specs.Flaws.{IsGapAt, IsDeadAt, IsCircleAt}
use Rattle.lr_check_nodes.specs.Growing.{AreWhole, Grows, HasLast, HasTreeFrom}
use Rattle.lr_check_nodes.specs.Pruned.{IsPruned}
use Rattle.lr_check_nodes.proofs.Wholes.{node_grows, grows_both}
use Rattle.lr_check_drawn.specs.Drawing.{kids_in}
use Rattle.lr_check_drawn.specs.Rising.{HasToken, HaveNodes, StandsAt, HasRisen}
use Rattle.lr_check_drawn.specs.Sampled.{IsBlockingSample, IsLoopingSample, Draws, AreSettled, HasPlaceOf, HasAbove, HasRound}
use Rattle.lr_check_drawn.proofs.Leaves.{HaveLeaves, kids_leaves}
use Rattle.lr_check_drawn.proofs.Begun.{round_up}

-- all that stands above a place's node makes a statement of it
pub statement_of : {f : FoundView} {old new : List Node} {n top : ℕ} → HasRisen f old new n top → IsStatement new
statement_of {new = new} h =
    let last : h.root + 1 ≡ length new = h.last in
    let at : h.root ≡ length new - 1 = omega (arith, last) in
    record {
      sample = record { some = omega (arith, last); lower = h.whole.lower };
      root = subst (λ n. fits_at (slice_get new n) sort.Stmt ≡ true) at h.statement;
      typed = h.whole.typed;
    }

module _ (A : Automaton) (f : FoundView) where
  kids_grow : {a b : List Node} → Grows a b → (i : ℕ) (ks : List ℕ) (own : List Bool) (ds : List ℕ) → DrawnKids A f a i ks own ds → DrawnKids A f b i ks own ds
  kids_grow g i ks own ds h = subst (λ l. DrawnKids A f l i ks own ds) (sym g.grown) (kids_last g.more h)

  draws_grow : {a b : List Node} → Grows a b → (i : ℕ) (x : Place) → Draws A f a i x → Draws A f b i x
  draws_grow g i x d = record {
    kids = d.kids;
    own = d.own;
    depths = d.depths;
    node = node_grows g i (record { tok = x.token; kids = d.kids; answers = d.own }) d.node;
    drawn = kids_grow g i d.kids d.own d.depths d.drawn;
  }

  round_of : (first old new : List Node) (n top : ℕ) → AreSettled A f first → Grows first old → (h : HasRisen f old new n top) → DrawnRound A f new n top h.root
  round_of first old new n top s g h =
      round_up A f new h.whole (λ i p x l at. draws_grow (grows_both g h.grows) i x (s.draws i p x l at)) h.up (round_root h.is_root)

  gap_drawn : (first old new : List Node) (n top : ℕ) (token : Tok) → AreSettled A f first → (g : IsGapAt A f n) → ((x : Place) → IsPlaceAt f n x → token ≡ x.token) →
      HasTreeFrom first old token top → HasRisen f old new n top → DrawnBlocking A f new
  gap_drawn first old new n top token s g tok t h =
      let x : Place = g.place in
      let node : IsNode new top x.token t.kids [] = subst (λ (k : Tok). IsNode new top k t.kids []) (tok x g.there)
      (node_grows h.grows top (record { tok = token; kids = t.kids; answers = [] }) t.has.node) in
      let l : HaveLeaves new t.kids (kids x.token) = kids_leaves new h.whole t.kids (kids x.token)
      (h.whole.typed.each top (record { tok = x.token; kids = t.kids; answers = [] }) node) in
      drawn_gap g.there g.unshifted l.stands l.typed node (round_of first old new n top s t.has.grows h) h.last

  -- a settling's node is among those of all, and one with more answers stands above
  record IsAbove (first new : List Node) (i p : ℕ) (x : Place) (s : List Sym) (at : SettlesAt f i x s p) (answers : List Bool) : Type 0 where
    numbers : List ℕ
    own : List Bool
    depths : List ℕ
    top : ℕ
    root : ℕ
    drawn : DrawnKids A f new i numbers own depths
    first_answers : answers_of (slice_get first i) ≡ own
    node : IsNode new top x.token numbers answers
    round : DrawnRound A f new at.entry.place top root
    last : root + 1 ≡ length new
    statement : IsStatement new

  above : (first new : List Node) (i p : ℕ) (x : Place) (s : List Sym) (at : SettlesAt f i x s p) (answers : List Bool) → AreSettled A f first → HasAbove f first new i answers →
      IsAbove first new i p x s at answers
  above first new i p x s at answers settled h =
      let d : Draws A f first i x = settled.draws i p x s at in
      let k = h.above x s p at d.kids d.own d.node in
      let r : HasRisen f first new at.entry.place h.top = k.1 in
      record {
        numbers = d.kids;
        own = d.own;
        depths = d.depths;
        top = h.top;
        root = r.root;
        drawn = kids_grow r.grows i d.kids d.own d.depths d.drawn;
        first_answers = ap answers_of d.node;
        node = k.0;
        round = round_of first first new at.entry.place h.top settled (record { more = []; grown = sym (append-nil first) }) r;
        last = r.last;
        statement = statement_of r;
      }

  pub dead_statement : (first new : List Node) (i : ℕ) (answers : List Bool) → AreSettled A f first → IsDeadAt A f i → HasAbove f first new i answers → IsStatement new
  dead_statement first new i answers s g h = (above first new i g.behind g.place g.list g.settles answers s h).statement

  pub circle_statement : (first new : List Node) (i : ℕ) (classes : List ℕ) (answers : List Bool) → AreSettled A f first → IsCircleAt A f i classes → HasAbove f first new i answers →
      IsStatement new
  circle_statement first new i classes answers s g h = (above first new i g.behind g.place (grammar_symbol.Class g.class ∷ []) g.settles answers s h).statement

module _ (t : TableView) (v : IsValid t.content) (b : IsNumbered t) (f : FoundView) (found : IsFound (automaton_of t) f) where
  pub gap_sample : (first old new pruned : List Node) (n top : ℕ) (token : Tok) → AreSettled (automaton_of t) f first → IsGapAt (automaton_of t) f n →
      ((x : Place) → IsPlaceAt f n x → token ≡ x.token) → HasTreeFrom first old token top → HasRisen f old new n top → (nodes : List Node) → nodes ≡ new → IsPruned nodes pruned
      → IsBlockingSample t.content pruned
  gap_sample first old new pruned n top token s g tok tree h nodes same q =
      let p : IsPruned new pruned = subst (λ (l : List Node). IsPruned l pruned) same q in
      let k : BlockingNodes t.content new = (drawn_samples_stop t v b f found new).0 (gap_drawn (automaton_of t) f first old new n top token s g tok tree h) in
      record { statement = p.statement; blocking = record { tokens = k.tokens; tree = p.trees k.tokens k.tree; blocking = k.blocking }; used = p.used }

  pub dead_sample : (first new pruned : List Node) (i : ℕ) (answers : List Bool) → AreSettled (automaton_of t) f first → IsDeadAt (automaton_of t) f i → answers ≡ answers_of (slice_get first i) →
      HasAbove f first new i answers → (nodes : List Node) → nodes ≡ new → IsPruned nodes pruned → IsBlockingSample t.content pruned
  dead_sample first new pruned i answers s g is h nodes same q =
      let p : IsPruned new pruned = subst (λ (l : List Node). IsPruned l pruned) same q in
      let a = above (automaton_of t) f first new i g.behind g.place g.list g.settles answers s h in
      let node : IsNode new a.top g.place.token a.numbers a.own = subst (λ (l : List Bool). IsNode new a.top g.place.token a.numbers l) (is ∙ a.first_answers) a.node in
      let k : BlockingNodes t.content new = (drawn_samples_stop t v b f found new).0 (drawn_dead g.settles g.nothing a.drawn node a.round a.last) in
      record { statement = p.statement; blocking = record { tokens = k.tokens; tree = p.trees k.tokens k.tree; blocking = k.blocking }; used = p.used }

  pub circle_sample : (first new pruned : List Node) (i : ℕ) (classes : List ℕ) (own more answers : List Bool) → AreSettled (automaton_of t) f first → IsCircleAt (automaton_of t) f i classes →
      own ≡ answers_of (slice_get first i) → HasRound (automaton_of t) f i classes more → answers ≡ own ++ more → HasAbove f first new i answers → (nodes : List Node) → nodes ≡ new →
      IsPruned nodes pruned → IsLoopingSample t.content pruned
  circle_sample first new pruned i classes own more answers s g is turns e h nodes same q =
      let p : IsPruned new pruned = subst (λ (l : List Node). IsPruned l pruned) same q in
      let a = above (automaton_of t) f first new i g.behind g.place (grammar_symbol.Class g.class ∷ []) g.settles answers s h in
      let r = turns.turns g.place g.class g.behind g.settles g.along in
      let node : IsNode new a.top g.place.token a.numbers (a.own ++ more) =
      subst (λ (l : List Bool). IsNode new a.top g.place.token a.numbers l) (e ∙ ap (λ (l : List Bool). l ++ more) (is ∙ a.first_answers)) a.node in
      let k : LoopingNodes t.content new = (drawn_samples_stop t v b f found new).1 (drawn_circle g.settles r.1 a.drawn node a.round a.last) in
      record { statement = p.statement; looping = record { tokens = k.tokens; tree = p.trees k.tokens k.tree; looping = k.looping }; used = p.used }

-- the node above
pub place_settled : (f : FoundView) (i : ℕ) (h : HasPlaceOf f i) (n : ℕ) → ((e : Settling) → IsSettlingAt f i e → n ≡ e.place) → IsPlaceAt f n h.place
place_settled f i h n is = ap (slice_get f.places) (is h.settles.entry h.settles.there) ∙ h.settles.place

pub above_fits : (f : FoundView) (nodes : List Node) (i : ℕ) (h : HasPlaceOf f i) (n : ℕ) (token : Tok) (ks : List ℕ) → AreWhole nodes → HaveNodes f nodes
    → ((e : Settling) → IsSettlingAt f i e → n ≡ e.place) →
    ((x : Place) → IsPlaceAt f n x → token ≡ x.token) → ks ≡ kids_in (slice_get nodes i) → KidsFit nodes ks (kids token)
above_fits f nodes i h n token ks w s is tok e =
    let t : HasToken nodes i h.place.token = s.each i h.behind h.place h.list h.settles in
    let same : ks ≡ t.kids = e ∙ ap kids_in t.node in
    let k : KidsFit nodes t.kids (kids h.place.token) = w.typed.each i (record { tok = h.place.token; kids = t.kids; answers = t.answers }) t.node in
    subst (λ (l : List ℕ). KidsFit nodes l (kids token)) (sym same) (subst (λ (q : Tok). KidsFit nodes t.kids (kids q)) (sym (tok h.place (place_settled f i h n is))) k)

pub above_stands : (f : FoundView) (old new : List Node) (i : ℕ) (h : HasPlaceOf f i) (n top : ℕ) (token : Tok) (ks : List ℕ) (answers : List Bool)
    → ((e : Settling) → IsSettlingAt f i e → n ≡ e.place) →
    ((x : Place) → IsPlaceAt f n x → token ≡ x.token) → HasLast old new token ks answers top → StandsAt f new n top
above_stands f old new i h n top token ks answers is tok l = record {
  place = h.place;
  there = place_settled f i h n is;
  token = record { kids = ks; answers = answers; node = subst (λ (q : Tok). IsNode new top q ks answers) (tok h.place (place_settled f i h n is)) l.node };
  last = l.last;
}

pub above_if : {E : Type 0} (r : Result (Unit {0}) E) (f : FoundView) (old now new : List Node) (i n top : ℕ) (token : Tok) (ks : List ℕ) (answers : List Bool) →
    ((e : Settling) → IsSettlingAt f i e → n ≡ e.place) → ((x : Place) → IsPlaceAt f n x → token ≡ x.token) → ks ≡ kids_in (slice_get old i) → HasLast old now token ks answers top →
    IfOk r (λ _. HasRisen f now new n top) → IfOk r (λ _. HasAbove f old new i answers)
above_if (Err u) f old now new i n top token ks answers is tok e l h = tt
above_if (Ok u) f old now new i n top token ks answers is tok e l h = record { top = top; above = by }
  where
    risen : (m : ℕ) → n ≡ m → HasRisen f old new m top
    risen m same = subst (λ z. HasRisen f old new z top) same (record {
      grows = grows_both l.grows h.grows;
      whole = h.whole;
      place = h.place;
      root = h.root;
      up = h.up;
      is_root = h.is_root;
      last = h.last;
      statement = h.statement;
    })

    by : (x : Place) (s : List Sym) (p : ℕ) (at : SettlesAt f i x s p) (qs : List ℕ) (own : List Bool) → IsNode old i x.token qs own →
        IsNode new top x.token qs answers × HasRisen f old new at.entry.place top
    by x s p at qs own node =
        let same : n ≡ at.entry.place = is at.entry at.there in
        let token_is : token ≡ x.token = tok x (ap (slice_get f.places) same ∙ at.place) in
        let kids_are : ks ≡ qs = e ∙ ap kids_in node in
        let here : IsNode new top token ks answers = node_grows h.grows top (record { tok = token; kids = ks; answers = answers }) l.node in
        (subst (λ (q : Tok). IsNode new top q qs answers) token_is (subst (λ (z : List ℕ). IsNode new top token z answers) kids_are here), risen at.entry.place same)
