-- The moves of a covered tree, made one after another.
use Rattle.std.proofs.Common.{◌≡◌, ◌⊎◌, inl, inr, ℕ, ◌+◌, List, [], ◌∷◌, ◌++◌, length, Option, Some, None, Bool, true, refl, sym, ap, ◌∙◌, subst, slice_get, append_assoc, length-append}
use Rattle.std.proofs.Common.{arith}
use Rattle.std.specs.Option.{option_map}
use Rattle.std.proofs.lemmas.Option.{same_Some}
use Rattle.std.proofs.lemmas.Bool.{both_ways}
use Rattle.gg_base.specs.declared.size.Size.TheVariants as sizes
use Rattle.tree_core.specs.declared.token.Sort.{Sort}
use Rattle.tree_core.specs.declared.token.Sort.TheVariants as sort
use Rattle.tree_core.specs.declared.tree.Leaf.{Leaf}
use Rattle.tree_core.specs.declared.program.Object.{Object}
use Rattle.tree_core.specs.Attributes.{leaf_fits}
use Rattle.tree_core.specs.Grammar.{kids, sort_of, fits}
use Rattle.tree_core.specs.Trees.{Forest, none, tree, leaves_onto, sort_fits}
use Rattle.tree_core.proofs.Sorts.{fits_stmt}
use Rattle.sel_terms_trees.specs.tree_meaning.specs.declared.value.Meaning.{Meaning}
use Rattle.sel_terms_trees.specs.tree_meaning.specs.Values.{Sight, meanings}
use Rattle.md_reader.specs.declared.types.Kind.{Kind}
use Rattle.md_reader.specs.declared.types.Kind.TheVariants as kind
use Rattle.md_reader.specs.declared.types.Class.{Class}
use Rattle.md_reader.specs.declared.types.Rule.{Rule}
use Rattle.md_reader.specs.declared.types.Sym.{Sym}
use Rattle.md_reader.specs.declared.types.Sym.TheVariants as grammar_symbol
use Rattle.md_reader.specs.Patterns.{sort_of_kind, kind_at, kids_of, Trees, no_tree, node, onto, sorted_test}
use Rattle.md_reader.specs.Rows.{is_bare}
use Rattle.md_reader.specs.Restrictions.{is_nothing}
use Rattle.md_reader.specs.Valid.{IsRule}
use Rattle.term_core.specs.Value.{State}
use Rattle.sel_terms_trees.specs.sel_terms.specs.Effects.{EffectShape}
use Rattle.sel_terms_trees.specs.sel_terms.specs.Wanted.{first_part}
use Rattle.sel_terms_trees.specs.sel_terms.specs.Reading.{stack_from}
use Rattle.lr_check_parse.specs.Moves.{Move, Shift, Reduce}
use Rattle.lr_check_parse.specs.Attributes.{Selecting, answered}
use Rattle.sel_parse_moves.specs.Made.{Made}
use Rattle.sel_parse_moves.specs.Made as moved
use Rattle.sel_parse_moves.specs.Covers.{Covers, Fills}
use Rattle.sel_parse_moves.specs.Covers as cover
use Rattle.sel_terms_trees.specs.tree_meaning.specs.Deeds.{Deed, Puts, Branches, Pushes, Returns, Calls, Saves, Jumps, Traps, Strays, deed_of}
use Rattle.sel_parse_moves.specs.Possible.{IsPossible}
use Rattle.sel_terms_trees.specs.Senses.{Sense, OfLeaf, IsSense, piled, Sensed, StandsFor}
use Rattle.sel_terms_trees.specs.tree_meaning_tame.specs.Tame.{tree_means}
use Rattle.sel_terms_trees.specs.Senses as sense
use Rattle.sel_terms_trees.specs.tree_meaning_tame.specs.Tame.{Tame, Undivided}
use Rattle.sel_terms_trees.specs.Effects.{GivesBy, DoesBy, TrapsBy}
use Rattle.sel_parse_moves.specs.Interprets.{SenseFits, Interprets, Ran}
use Rattle.sel_terms_trees.specs.tree_meaning_tame.proofs.Strict.{NoStmt, kids_no_stmt}
use Rattle.sel_terms_trees.specs.tree_meaning_tame.proofs.Sorts.{sort_tame}
use Rattle.sel_terms_trees.proofs.Patterns.{numbered, pattern_law}
use Rattle.sel_terms_trees.proofs.Rules.{effect_by, zero_there, sort_undivided, Comes, Fails, IsZeroAt, decided}
use Rattle.sel_terms_trees.proofs.Statements.{ActIs, act_law}
use Rattle.sel_terms_trees.proofs.Law.{effect_is}

piled_both : {Y : Type 0} (us vs b : List Y) → piled (us ++ vs) b ≡ piled vs (piled us b)
piled_both [] vs b = refl
piled_both (u ∷ us) vs b = piled_both us vs (u ∷ b)

-- the symbols of patterns, piled on a stack
abbrev pub pushed : {ok : Sym → Sort → Bool} {xs : List Sort} → Trees ok xs → List Sym → List Sym
pushed no_tree a = a
pushed (node s passes below beside) a = pushed beside (pushed below (s ∷ a))

pushed_is : {ok : Sym → Sort → Bool} {xs : List Sort} (p : Trees ok xs) (w a : List Sym) → piled (onto p w) a ≡ piled w (pushed p a)
pushed_is no_tree w a = refl
pushed_is (node s passes below beside) w a = pushed_is below (onto beside w) (s ∷ a) ∙ pushed_is beside w (pushed below (s ∷ a))

nothing_there : (o : Option Kind) → sort_fits (option_map sort_of_kind o) sort.Stmt ≡ true → is_nothing o ≡ true
nothing_there None e = absurd (cc)
nothing_there (Some kind.Reg) e = absurd (cc)
nothing_there (Some kind.Con) e = absurd (cc)
nothing_there (Some kind.Ea) e = absurd (cc)
nothing_there (Some kind.Nothing) e = refl
nothing_there (Some (kind.Value sizes.Byte)) e = absurd (cc)
nothing_there (Some (kind.Value sizes.Word)) e = absurd (cc)
nothing_there (Some (kind.Value sizes.Long)) e = absurd (cc)
nothing_there (Some (kind.Place sizes.Byte)) e = absurd (cc)
nothing_there (Some (kind.Place sizes.Word)) e = absurd (cc)
nothing_there (Some (kind.Place sizes.Long)) e = absurd (cc)

kind_there : (o : Option Kind) (y : Sort) → option_map sort_of_kind o ≡ Some y → (k : Kind) × (o ≡ Some k) × (y ≡ sort_of_kind k)
kind_there None y e = absurd (cc)
kind_there (Some k) y e = (k, refl, sym (same_Some (sort_of_kind k) y e))

module _ (objects : List Object) (s : Sight) (classes : List Class) where
  -- as many symbols as the pattern has
  sensed_length : {xs : List Sort} {pattern : Trees (sorted_test classes) xs} {f : Forest} {us : List Sense} → Sensed objects s classes xs pattern f us → (w : List Sym)
      → length (onto pattern w) ≡ length us + length w
  sensed_length sense.nothing w = omega arith
  sensed_length (sense.token {us = us} {vs = vs} l passes below beside fit p q) w =
      let a = sensed_length p (onto beside w) in
      let b = sensed_length q w in
      let c = length-append us vs in
      omega (arith, a, b, c)
  sensed_length (sense.class c v passes no_tree beside is q) w = (let b = sensed_length q w in omega (arith, b))

-- a class can stand for what it stands for
sense_fits : (objects : List Object) (s : Sight) (g : Meaning) (v : Sense) (o : Option Kind) → IsSense objects s o g v → SenseFits o v
sense_fits objects s g v None h = absurd h
sense_fits objects s g v (Some kind.Nothing) h = absurd h
sense_fits objects s g v (Some (kind.Place z)) h = subst (SenseFits (Some (kind.Place z))) (sym h.0) h.1
sense_fits objects s g v (Some kind.Reg) h = subst (SenseFits (Some kind.Reg)) (sym h.is) tt
sense_fits objects s g v (Some (kind.Value z)) h = subst (SenseFits (Some (kind.Value z))) (sym h.is) tt
sense_fits objects s g v (Some kind.Con) h = subst (SenseFits (Some kind.Con)) (sym h.is) tt
sense_fits objects s g v (Some kind.Ea) h = subst (SenseFits (Some kind.Ea)) (sym h.is) tt

module _ {X A : Type 0} (of : Selecting X A) (classes : List Class) (rules : List Rule) (objects : List Object) (s : Sight) (I : Interprets of classes rules objects s) where
  abbrev Makes : X → List (Move Leaf) → X → Type 0
  Makes x ms y = Made of rules x ms y

  trapped_on : {x y : X} {ms : List (Move Leaf)} → Makes x ms y → I.Trapped x → I.Trapped y
  trapped_on moved.none t = t
  trapped_on (moved.shift {x = x} l h) t = trapped_on h (I.shifts_trapped x l t)
  trapped_on (moved.reduce {x = x} {x' = x'} {n = n} r there holds red h) t = trapped_on h (I.reduces_trapped x x' n t red)

  after_shift : {x y : X} {ms : List (Move Leaf)} {l : Leaf} → Makes x (Shift l ∷ ms) y → Makes (of.shifted l x) ms y
  after_shift (moved.shift l h) = h

  -- what is known of a reduction that was made
  pub record Reduced (x : X) (n : ℕ) (ms : List (Move Leaf)) (y : X) : Type 0 where
    pub rule : Rule
    pub there : slice_get rules n ≡ Some rule
    pub holds : answered of rule x ≡ true
    pub state : X
    pub red : of.reduced n x ≡ Some state
    pub made : Makes state ms y

  after_reduce : {x y : X} {ms : List (Move Leaf)} {n : ℕ} → Makes x (Reduce n ∷ ms) y → Reduced x n ms y
  after_reduce (moved.reduce {x' = x'} r there holds red h) = record { rule = r; there = there; holds = holds; state = x'; red = red; made = h }

  after_all : {x y : X} → Makes x [] y → x ≡ y
  after_all moved.none = refl

  -- the moves of patterns were made: a divisor was zero, or the stack has their symbols, which stand for the trees
  pub record Lost (xs : List Sort) (f : Forest) (y : X) : Type 0 where
    pub trapped : I.Trapped y
    pub zero : Undivided objects s xs f → ⊥

  pub record Went (xs : List Sort) (pattern : Trees (sorted_test classes) xs) (f : Forest) (a : List Sym) (us : List Sense) (rest : List (Move Leaf)) (y : X) : Type 0 where
    pub state : X
    pub senses : List Sense
    pub sensed : Sensed objects s classes xs pattern f senses
    pub made : Makes state rest y
    pub stands : I.Stands state (pushed pattern a) (piled senses us)

  abbrev pub Performed : (xs : List Sort) → Trees (sorted_test classes) xs → Forest → List Sym → List Sense → List (Move Leaf) → X → Type 0
  Performed xs pattern f a us rest y = Went xs pattern f a us rest y ⊎ Lost xs f y

  -- the same of one class
  pub record Got (c : ℕ) (l : Leaf) (f : Forest) (a : List Sym) (us : List Sense) (rest : List (Move Leaf)) (y : X) : Type 0 where
    pub state : X
    pub sense : Sense
    pub is : IsSense objects s (kind_at classes c) (tree_means objects s l f) sense
    pub made : Makes state rest y
    pub stands : I.Stands state (grammar_symbol.Class c ∷ a) (sense ∷ us)

  abbrev pub ClassDone : ℕ → Sort → Leaf → Forest → List Sym → List Sense → List (Move Leaf) → X → Type 0
  ClassDone c x l f a us rest y = Got c l f a us rest y ⊎ Lost (x ∷ []) (tree l f none) y

  lost_class : (x : Sort) (xs : List Sort) (l : Leaf) (f g : Forest) (y : X) → Lost (x ∷ []) (tree l f none) y → Lost (x ∷ xs) (tree l f g) y
  lost_class x xs l f g y h = record { trapped = h.trapped; zero = λ u. h.zero (u.0, u.1, tt) }

  -- a token, and what stands below and beside it
  token_done : (x : Sort) (xs : List Sort) (l : Leaf) (passes : sorted_test classes (grammar_symbol.Tok l.tok) x ≡ true) (below : Trees (sorted_test classes) (kids_of (grammar_symbol.Tok l.tok)))
      (beside : Trees (sorted_test classes) xs) (fit : leaf_fits l ≡ true) (f g : Forest) (a : List Sym) (us : List Sense) (ns rest : List (Move Leaf)) (y : X) →
      Performed (kids l.tok) below f (grammar_symbol.Tok l.tok ∷ a) (OfLeaf l ∷ us) (ns ++ rest) y →
      ((z : X) (b : List Sym) (vs : List Sense) → Makes z (ns ++ rest) y → I.Stands z b vs → Performed xs beside g b vs rest y) →
      Performed (x ∷ xs) (node (grammar_symbol.Tok l.tok) passes below beside) (tree l f g) a us rest y
  token_done x xs l passes below beside fit f g a us ns rest y (inr h) go = inr (record { trapped = h.trapped; zero = λ u. h.zero u.1 })
  token_done x xs l passes below beside fit f g a us ns rest y (inl r) go = by (go r.state (pushed below (grammar_symbol.Tok l.tok ∷ a)) (piled r.senses (OfLeaf l ∷ us)) r.made r.stands)
    where
      by : Performed xs beside g (pushed below (grammar_symbol.Tok l.tok ∷ a)) (piled r.senses (OfLeaf l ∷ us)) rest y
          → Performed (x ∷ xs) (node (grammar_symbol.Tok l.tok) passes below beside) (tree l f g) a us rest y
      by (inr h) = inr (record { trapped = h.trapped; zero = λ u. h.zero u.2 })
      by (inl q) = inl (record {
        state = q.state;
        senses = OfLeaf l ∷ (r.senses ++ q.senses);
        sensed = sense.token l passes below beside fit r.sensed q.sensed;
        made = q.made;
        stands = subst (I.Stands q.state (pushed beside (pushed below (grammar_symbol.Tok l.tok ∷ a)))) (sym (piled_both r.senses q.senses (OfLeaf l ∷ us))) q.stands;
      })

  class_done : (x : Sort) (xs : List Sort) (c : ℕ) (l : Leaf) (passes : sorted_test classes (grammar_symbol.Class c) x ≡ true) (beside : Trees (sorted_test classes) xs) (f g : Forest) (a : List Sym)
      (us : List Sense) (ns rest : List (Move Leaf)) (y : X) →
      ClassDone c x l f a us (ns ++ rest) y →
      ((z : X) (b : List Sym) (vs : List Sense) → Makes z (ns ++ rest) y → I.Stands z b vs → Performed xs beside g b vs rest y) →
      Performed (x ∷ xs) (node (grammar_symbol.Class c) passes no_tree beside) (tree l f g) a us rest y
  class_done x xs c l passes beside f g a us ns rest y (inr h) go = inr (lost_class x xs l f g y h)
  class_done x xs c l passes beside f g a us ns rest y (inl r) go = by (go r.state (grammar_symbol.Class c ∷ a) (r.sense ∷ us) r.made r.stands)
    where
      by : Performed xs beside g (grammar_symbol.Class c ∷ a) (r.sense ∷ us) rest y → Performed (x ∷ xs) (node (grammar_symbol.Class c) passes no_tree beside) (tree l f g) a us rest y
      by (inr h) = inr (record { trapped = h.trapped; zero = λ u. h.zero u.2 })
      by (inl q) = inl (record { state = q.state; senses = r.sense ∷ q.senses; sensed = sense.class c r.sense passes no_tree beside r.is q.sensed; made = q.made; stands = q.stands })

  -- a reduction
  rule_done : (n : ℕ) (r : Rule) (k : Kind) (x0 y0 : Sort) (pattern : Trees (sorted_test classes) (y0 ∷ [])) (l : Leaf) (f : Forest) (a : List Sym) (us : List Sense) (rest : List (Move Leaf))
      (y : X) →
      slice_get rules n ≡ Some r → kind_at classes r.left ≡ Some k → y0 ≡ sort_of_kind k → (k ≡ kind.Nothing → ⊥) → fits y0 x0 ≡ true → onto pattern [] ≡ r.right
      → Tame objects s (x0 ∷ []) (tree l f none) →
      Performed (y0 ∷ []) pattern (tree l f none) a us (Reduce n ∷ rest) y → ClassDone r.left x0 l f a us rest y
  rule_done n r k x0 y0 pattern l f a us rest y there kind same some fit spelled tame (inr h) =
      inr (record { trapped = h.trapped; zero = λ u. h.zero (sort_undivided objects s y0 x0 (tree_means objects s l f) fit u.0, u.1, tt) })
  rule_done n r k x0 y0 pattern l f a us rest y there kind same some fit spelled tame (inl w) = by (after_reduce w.made)
    where
      size : length w.senses ≡ length r.right
      size = (let e = sensed_length objects s classes w.sensed [] in let g = ap (λ (t : List Sym). length t) spelled in omega (arith, e, g))

      stands : I.Stands w.state (piled r.right a) (piled w.senses us)
      stands = subst (λ (t : List Sym). I.Stands w.state t (piled w.senses us)) (sym (pushed_is pattern [] a) ∙ ap (λ (t : List Sym). piled t a) spelled) w.stands

      by : Reduced w.state n rest y → ClassDone r.left x0 l f a us rest y
      by q = cases (decided objects s classes k r.right same w.sensed spelled (sort_tame objects s y0 x0 (tree_means objects s l f) fit tame.0, tame.1, tt) some)
        where
          holds : answered of r w.state ≡ true
          holds = subst (λ (t : Rule). answered of t w.state ≡ true) (same_Some q.rule r (sym q.there ∙ there)) q.holds

          cases : Comes objects s w.senses k (first_part (stack_from classes 1 r.right)) (tree_means objects s l f)
              ⊎ Fails objects s w.senses k (first_part (stack_from classes 1 r.right)) (tree_means objects s l f) → ClassDone r.left x0 l f a us rest y
          cases (inl c) = inl (record {
            state = q.state;
            sense = c.sense;
            is = subst (λ (o : Option Kind). IsSense objects s o (tree_means objects s l f) c.sense) (sym kind) c.is;
            made = q.made;
            stands = I.gives w.state q.state n r a us w.senses c.sense there size holds stands
                (sense_fits objects s (tree_means objects s l f) c.sense (kind_at classes r.left) (subst (λ (o : Option Kind). IsSense objects s o (tree_means objects s l f) c.sense) (sym kind) c.is))
                (λ m st. subst (λ (e : EffectShape). GivesBy objects s w.senses e c.sense m) (sym (effect_is classes r k kind)) (c.gives m st)) q.red;
          })
          cases (inr c) = inr (record {
            trapped = trapped_on q.made
                (I.traps w.state q.state n r a us w.senses there size holds stands
                (λ m st. subst (λ (e : EffectShape). TrapsBy objects s w.senses e m) (sym (effect_is classes r k kind)) (c.traps m st)) q.red);
            zero = λ u. zero_there objects s y0 x0 (tree_means objects s l f) fit (subst (λ (t : Sort). IsZeroAt objects s t (tree_means objects s l f)) (sym same) c.zero) u.0;
          })

  -- its leaves are taken
  abbrev pub Named : Forest → Type 0
  Named none = Unit {0}
  Named (tree l below behind) = I.Names l × Named below × Named behind

  fits_of : (o : Option Sort) (x y : Sort) → o ≡ Some y → sort_fits o x ≡ true → fits y x ≡ true
  fits_of o x y e f = subst (λ (t : Option Sort). sort_fits t x ≡ true) e f

  nothing_stmt : (k : Kind) (y : Sort) → y ≡ sort_of_kind k → (y ≡ sort.Stmt → ⊥) → k ≡ kind.Nothing → ⊥
  nothing_stmt k y e h f = h (e ∙ ap sort_of_kind f)

  mutual
    perform : {xs : List Sort} {pattern : Trees (sorted_test classes) xs} {f : Forest} {ms : List (Move Leaf)} → Fills classes rules xs pattern f ms → Tame objects s xs f → Named f → NoStmt xs
        → (x y : X) (a : List Sym) (us : List Sense) (rest : List (Move Leaf)) → Makes x (ms ++ rest) y → I.Stands x a us → Performed xs pattern f a us rest y
    perform cover.nothing tame names some x y a us rest made stands = inl (record { state = x; senses = []; sensed = sense.nothing; made = made; stands = stands })
    perform (cover.token {x = z} {xs = xs} {f = f} {g = g} {ms = ms} {ns = ns} l passes below beside fit p q) tame names some x y a us rest made stands =
        token_done z xs l passes below beside fit f g a us ns rest y
        (perform p tame.1 names.1 (kids_no_stmt l.tok) (of.shifted l x) y (grammar_symbol.Tok l.tok ∷ a) (OfLeaf l ∷ us) (ns ++ rest)
        (subst (λ (t : List (Move Leaf)). Makes (of.shifted l x) t y) (append_assoc ms ns rest) (after_shift made)) (I.shifts x l a us fit names.0 stands))
        (λ v b vs. perform q tame.2 names.2 some.1 v y b vs rest)
    perform (cover.class {x = z} {xs = xs} {f = f} {g = g} {ms = ms} {ns = ns} {l = l} c passes no_tree beside p q) tame names some x y a us rest made stands =
        class_done z xs c l passes beside f g a us ns rest y
        (perform_class p z some.0 passes (tame.0, tame.1, tt) (names.0, names.1, tt) x y a us (ns ++ rest) (subst (λ (t : List (Move Leaf)). Makes x t y) (append_assoc ms ns rest) made) stands)
        (λ v b vs. perform q tame.2 names.2 some.1 v y b vs rest)

    perform_class : {c : ℕ} {l : Leaf} {f : Forest} {ms : List (Move Leaf)} → Covers classes rules c l f ms → (x0 : Sort) → (x0 ≡ sort.Stmt → ⊥)
        → sorted_test classes (grammar_symbol.Class c) x0 ≡ true
        → Tame objects s (x0 ∷ []) (tree l f none) → Named (tree l f none) → (x y : X) (a : List Sym) (us : List Sense) (rest : List (Move Leaf)) → Makes x (ms ++ rest) y → I.Stands x a us
        → ClassDone c x0 l f a us rest y
    perform_class (cover.by_rule {l = l} {below = f} {ms = ms} {x = y0} n r pattern there sorted spelled fills) x0 some passes tame names x y a us rest made stands =
        let k = kind_there (kind_at classes r.left) y0 sorted in
        let fit : fits y0 x0 ≡ true = fits_of (option_map sort_of_kind (kind_at classes r.left)) x0 y0 sorted passes in
        let other : y0 ≡ sort.Stmt → ⊥ = λ e. some (fits_stmt x0 (subst (λ (t : Sort). fits t x0 ≡ true) e fit)) in
        rule_done n r k.0 x0 y0 pattern l f a us rest y there k.1 k.2 (nothing_stmt k.0 y0 k.2 other) fit spelled tame
        (perform fills (sort_tame objects s y0 x0 (tree_means objects s l f) fit tame.0, tame.1, tt) names (other, tt) x y a us (Reduce n ∷ rest)
        (subst (λ (t : List (Move Leaf)). Makes x t y) (append_assoc ms (Reduce n ∷ []) rest) made) stands)

  -- the statement's own rule
  abbrev pub deed_here : Leaf → Forest → Deed
  deed_here l f = deed_of s l.tok l.att (slice_get (meanings objects s f) 0) (slice_get (meanings objects s f) 1)

  abbrev Acts : List Sense → Rule → Deed → Type 0
  Acts all r d = (m : State) → StandsFor objects s all m → ActIs objects s all m (first_part (stack_from classes 1 r.right)) d

  -- the last reduction
  last_done : (n : ℕ) (r : Rule) (x z y : X) (all : List Sense) → slice_get rules n ≡ Some r → kind_at classes r.left ≡ Some kind.Nothing → length all ≡ length r.right → answered of r x ≡ true
      → I.Stands x (piled r.right []) (piled all []) → of.reduced n x ≡ Some z → z ≡ y →
      (d : Deed) → Acts all r d → IsPossible s.area d → Ran I y d
  last_done n r x z y all there none_kind size holds stands red end d acts possible = by d acts possible
    where
      does : (d : Deed) → ((m : State) → StandsFor objects s all m → DoesBy objects s all (effect_by (Some kind.Nothing) (first_part (stack_from classes 1 r.right))) d m) → IsPossible s.area d
          → I.Did y d
      does d h p =
          subst (λ (t : X). I.Did t d) end
          (I.does x z n r all d there size holds stands none_kind (λ m st. subst (λ (e : EffectShape). DoesBy objects s all e d m) (sym (effect_is classes r kind.Nothing none_kind)) (h m st)) p red)

      traps : ((m : State) → StandsFor objects s all m → TrapsBy objects s all (effect_by (Some kind.Nothing) (first_part (stack_from classes 1 r.right))) m) → I.Trapped y
      traps h = subst (λ (t : X). I.Trapped t) end
          (I.traps x z n r [] [] all there size holds stands (λ m st. subst (λ (e : EffectShape). TrapsBy objects s all e m) (sym (effect_is classes r kind.Nothing none_kind)) (h m st)) red)

      by : (d : Deed) → Acts all r d → IsPossible s.area d → Ran I y d
      by (Puts g k) h p = does (Puts g k) h p
      by (Branches rel label v w) h p = does (Branches rel label v w) h p
      by (Pushes k) h p = does (Pushes k) h p
      by (Returns k) h p = does (Returns k) h p
      by (Calls g k) h p = does (Calls g k) h p
      by (Saves k) h p = does (Saves k) h p
      by (Jumps k) h p = does (Jumps k) h p
      by Traps h p = traps h
      by Strays h p = absurd p

  lost_so : (d : Deed) (y : X) → I.Trapped y → ((d ≡ Traps → ⊥) → ⊥) → Ran I y d
  lost_so Traps y t f = t
  lost_so _ y t f = absurd (f (λ e. cc))

  statement_done : (n : ℕ) (r : Rule) (l : Leaf) (below : Trees (sorted_test classes) (kids_of (grammar_symbol.Tok l.tok))) (fit : leaf_fits l ≡ true) (f : Forest) (y : X) →
      slice_get rules n ≡ Some r → kind_at classes r.left ≡ Some kind.Nothing → sort_fits (sort_of l.tok) sort.Stmt ≡ true → grammar_symbol.Tok l.tok ∷ onto below [] ≡ r.right
      → Tame objects s (kids l.tok) f →
      IsPossible s.area (deed_here l f) → ((deed_here l f ≡ Traps → ⊥) → Undivided objects s (kids l.tok) f) →
      Performed (kids l.tok) below f (grammar_symbol.Tok l.tok ∷ []) (OfLeaf l ∷ []) (Reduce n ∷ []) y → Ran I y (deed_here l f)
  statement_done n r l below fit f y there none_kind stmt spelled tame possible undivided (inr h) = lost_so (deed_here l f) y h.trapped (λ e. h.zero (undivided e))
  statement_done n r l below fit f y there none_kind stmt spelled tame possible undivided (inl w) = by (after_reduce w.made)
    where
      all : List Sense
      all = OfLeaf l ∷ w.senses

      size : length (OfLeaf l ∷ w.senses) ≡ length r.right
      size = (let e = sensed_length objects s classes w.sensed [] in let g = ap (λ (t : List Sym). length t) spelled in omega (arith, e, g))

      stands : I.Stands w.state (piled r.right []) (piled (OfLeaf l ∷ w.senses) [])
      stands = subst (λ (t : List Sym). I.Stands w.state t (piled w.senses (OfLeaf l ∷ [])))
          (sym (pushed_is below [] (grammar_symbol.Tok l.tok ∷ [])) ∙ ap (λ (t : List Sym). piled t []) spelled) w.stands

      acts : (m : State) → StandsFor objects s (OfLeaf l ∷ w.senses) m → ActIs objects s (OfLeaf l ∷ w.senses) m (first_part (stack_from classes 1 r.right)) (deed_here l f)
      acts m st =
          let n = numbered (OfLeaf l ∷ w.senses) in
          let e = pattern_law objects s (OfLeaf l ∷ w.senses) m st classes w.sensed 2 [] n.1 tame in
          subst (λ (t : List Sym). ActIs objects s (OfLeaf l ∷ w.senses) m (first_part (stack_from classes 1 t)) (deed_here l f)) spelled
          (act_law objects s (OfLeaf l ∷ w.senses) m l.tok l.att (stack_from classes 2 (onto below [])) (stack_from classes (2 + length w.senses) []) (meanings objects s f) stmt fit n.0 e)

      by : Reduced w.state n [] y → Ran I y (deed_here l f)
      by q = last_done n r w.state q.state y (OfLeaf l ∷ w.senses) there none_kind size
          (subst (λ (t : Rule). answered of t w.state ≡ true) (same_Some q.rule r (sym q.there ∙ there)) q.holds) stands q.red (after_all q.made) (deed_here l f) acts possible

  stmt_sort : (o : Option Kind) (y : Sort) → o ≡ Some kind.Nothing → option_map sort_of_kind o ≡ Some y → y ≡ sort.Stmt
  stmt_sort o y e f = sym (same_Some sort.Stmt y (sym (ap (option_map sort_of_kind) e) ∙ f))

  -- the moves that make the class of statements cover a tree do what the tree does
  filled_statement : (n : ℕ) (r : Rule) → slice_get rules n ≡ Some r → IsRule classes r → kind_at classes r.left ≡ Some kind.Nothing
      → {y0 : Sort} {pattern : Trees (sorted_test classes) (y0 ∷ [])} {l : Leaf} {f : Forest} {ms : List (Move Leaf)} → y0 ≡ sort.Stmt → onto pattern [] ≡ r.right
      → Fills classes rules (y0 ∷ []) pattern (tree l f none) ms →
      Tame objects s (kids l.tok) f → Named (tree l f none) → (x y : X) → Makes x (ms ++ Reduce n ∷ []) y → I.Stands x [] [] → IsPossible s.area (deed_here l f)
      → ((deed_here l f ≡ Traps → ⊥) → Undivided objects s (kids l.tok) f) → Ran I y (deed_here l f)
  filled_statement n r there valid none_kind same spelled (cover.token {f = f} {ms = ms} l passes below no_tree fit p cover.nothing) tame names x y made stands possible undivided =
      statement_done n r l below fit f y there none_kind
      (subst (λ (t : Sort). sort_fits (sort_of l.tok) t ≡ true) same passes) spelled tame possible undivided
      (perform p tame names.1 (kids_no_stmt l.tok) (of.shifted l x) y (grammar_symbol.Tok l.tok ∷ []) (OfLeaf l ∷ []) (Reduce n ∷ [])
      (subst (λ (t : List (Move Leaf)). Makes (of.shifted l x) t y) (append_assoc ms [] (Reduce n ∷ [])) (after_shift made)) (I.shifts x l [] [] fit names.0 stands))
  filled_statement n r there valid none_kind same spelled (cover.class c passes no_tree no_tree p cover.nothing) tame names x y made stands possible undivided =
      absurd (both_ways (is_bare classes r.right) valid.sides.not_bare
      (ap (is_bare classes) (sym spelled) ∙ nothing_there (kind_at classes c) (subst (λ (t : Sort). sort_fits (option_map sort_of_kind (kind_at classes c)) t ≡ true) same passes)))

  pub statement : ((n : ℕ) (r : Rule) → slice_get rules n ≡ Some r → IsRule classes r) → {c : ℕ} {l : Leaf} {f : Forest} {ms : List (Move Leaf)} → Covers classes rules c l f ms
      → kind_at classes c ≡ Some kind.Nothing →
      Tame objects s (kids l.tok) f → Named (tree l f none) → (x y : X) → Makes x ms y → I.Stands x [] [] → IsPossible s.area (deed_here l f)
      → ((deed_here l f ≡ Traps → ⊥) → Undivided objects s (kids l.tok) f) → Ran I y (deed_here l f)
  statement valid (cover.by_rule {x = y0} n r pattern there sorted spelled fills) none_kind tame names x y made stands possible undivided =
      filled_statement n r there (valid n r there) none_kind (stmt_sort (kind_at classes r.left) y0 none_kind sorted) spelled fills tame names x y made stands possible undivided

  -- the leaves of a list, and of trees
  pub named : (f : Forest) (w : List Leaf) → Rattle.std.specs.List.AllByRecursion I.Names (leaves_onto f w) → Named f × Rattle.std.specs.List.AllByRecursion I.Names w
  named none w h = (tt, h)
  named (tree l below behind) w h =
      let low = named below (leaves_onto behind w) h.1 in
      let high = named behind w low.1 in
      ((h.0, low.0, high.0), high.1)
