-- What a rule with a result leaves.
use Rattle.std.proofs.Common.{◌≡◌, ℕ, ◌≤◌, ◌==◌, List, [], ◌∷◌, length, Option, Some, None, Bool, true, false, refl, sym, ap, ◌∙◌, subst, arith}
use Rattle.std.specs.Prelude.{is_some, option_map, ◌||◌, count_ones}
use Rattle.std.proofs.lemmas.Bool.{eqb-true}
use Rattle.gg_base.specs.declared.size.Size.{Size}
use Rattle.gg_base.specs.declared.size.Size.TheVariants.{Long}
use Rattle.tree_meaning.specs.declared.value.Meaning.{Meaning as Place}
use Rattle.tree_meaning.specs.declared.value.Meaning.TheVariants as meaning
use Rattle.md_reader_pieces.specs.declared.piece.Line.{Line}
use Rattle.md_reader.specs.declared.types.Give.{Give}
use Rattle.md_reader.specs.declared.types.Give.TheVariants as give
use Rattle.tree_core.specs.declared.token.Tok.TheVariants as tok
use Rattle.tree_core.specs.declared.token.Sort.{Sort}
use Rattle.tree_core.specs.declared.token.Sort.TheVariants as sort
use Rattle.tree_core.specs.declared.program.TreeProgram.{TreeProgram}
use Rattle.tree_core.specs.Valid.{IsValid}
use Rattle.tree_core.specs.Trees.{sort_fits}
use Rattle.tree_meaning.specs.State.{State, Extent}
use Rattle.tree_meaning.specs.Values.{Sight}
use Rattle.md_reader.specs.declared.types.Class.{Class}
use Rattle.md_reader.specs.declared.types.Kind.{Kind}
use Rattle.md_reader.specs.declared.types.Kind.TheVariants as kind
use Rattle.md_reader.specs.declared.types.Rule.{Rule}
use Rattle.md_reader.specs.declared.types.Sym.{Sym}
use Rattle.md_reader.specs.declared.types.Sym.TheVariants as grammar_symbol
use Rattle.md_reader.specs.Patterns.{kind_at, sort_of_kind, sorted_test, Trees, node, onto, IsSorted}
use Rattle.md_reader.specs.State.{Content}
use Rattle.md_reader.specs.Valid.{IsRule}
use Rattle.term_core.specs.Shape.{Shape}
use Rattle.term_core.specs.Value as term
use Rattle.sel_target.specs.sel_terms.specs.Effects.{ActShape, EffectShape, Value, Number, Address, PlaceHome, PlaceAt, StoreHome, StoreAt, Branch, Push, Call, Save, Return, Jump}
use Rattle.sel_target.specs.sel_terms.specs.Parts.{value_of}
use Rattle.sel_target.specs.sel_terms.specs.Wanted.{whole, first_part}
use Rattle.sel_target.specs.sel_terms.specs.Reading.{effect_read, stack_from}
use Rattle.sel_target.specs.sel_terms.specs.RuleFacts.{facts_of}
use Rattle.sel_target.specs.declared.attr.Attr.{Attr}
use Rattle.sel_target.specs.declared.attr.Attr.TheVariants as attr
use Rattle.sel_target.specs.Meaning.{Meaning, RegAt}
use Rattle.sel_target.specs.Values.{View, term_state, value}
use Rattle.sel_target.specs.Laws.{IsLawful}
use Rattle.sel_target.specs.Spelled.{AreSpelled}
use Rattle.sel_target.specs.Instances.{IsResult, Instance, lines_of}
use Rattle.sel_target.specs.Outcomes.{Sets, Keeps}
use Rattle.sel_target.specs.EffectTerms.{begins_with_save, DividesByNone}
use Rattle.sel_target.specs.Courses.{traps, comes}
use Rattle.sel_parse_moves.specs.sel_terms_trees.specs.Senses.{Sense, OfLeaf, OfNumber, OfPlace, StandsFor}
use Rattle.sel_parse_moves.specs.lr_check_parse.specs.Attributes.{all_hold}
use Rattle.sel_target.specs.sel_terms_meaning.specs.Meaning.{divides_by_zero, AllSafe, SafeAct}
use Rattle.sel_parse_moves.specs.sel_terms_trees.specs.Effects.{GivesBy, TrapsBy, Gives, IsKnown}
use Rattle.sel_target.specs.sel_terms_meaning.specs.Alike.{EffectsAlike, ActsAlike}
use Rattle.sel_parse_stands.specs.sel_parse_selected.specs.Entries.{Entry, attrs}
use Rattle.sel_parse_stands.specs.sel_parse_selected.specs.Selected.{selecting}
use Rattle.sel_parse_stands.specs.sel_parse_selected.proofs.Restricting.{restricted}
use Rattle.sel_parse_stands.specs.Stands.{Sees, IsFrame, Holds, ClassIs, value as value_is, address as address_is, place as place_is}
use Rattle.sel_target.specs.Values.{memory as memory_is}
use Rattle.sel_parse.specs.Shown.{IsShown}
use Rattle.sel_parse_stands.proofs.Loaded.{AllLoaded}
use Rattle.sel_parse_stands.proofs.Carrying.{AllCarried}
use Rattle.sel_parse_stands.proofs.Instances.{Hold, view, stands_for, known, instance, spelled_now}
use Rattle.sel_parse_effect.proofs.Effects.{safe_map, alike_effects, effect_reads, divides_none, value_alike, address_alike, place_alike}

head_save : (s : Sym) (w : List Sym) → begins_with_save (s ∷ w) ≡ true → s ≡ grammar_symbol.Tok tok.Save
head_save (grammar_symbol.Tok tok.Save) w e = refl
head_save _ w e = absurd (cc)

-- a rule of another sort than a statement's doesn't begin with Save
no_save : (classes : List Class) (x : Sort) (right : List Sym) → IsSorted classes x right → (sort_fits (Some sort.Stmt) x ≡ true → ⊥) → begins_with_save right ≡ true → ⊥
no_save classes x right sorted apart e = by sorted.tree (subst (λ w. begins_with_save w ≡ true) (sym sorted.spelled) e) where
  by : (tree : Trees (sorted_test classes) (x ∷ [])) → begins_with_save (onto tree []) ≡ true → ⊥
  by (node s passes below beside) h = apart (subst (λ y. sorted_test classes y x ≡ true) (head_save s (onto below (onto beside [])) h) passes)

no_long : sort_fits (Some sort.Stmt) sort.Long ≡ true → ⊥
no_long e = cc

pub no_save_reg : (classes : List Class) (rule : Rule) → IsRule classes rule → kind_at classes rule.left ≡ Some kind.Reg → begins_with_save rule.right ≡ true → ⊥
no_save_reg classes rule is_rule is =
    let a = is_rule.sides in
    let same_sort : Some a.sort ≡ Some sort.Long = sym a.declared ∙ ap (option_map sort_of_kind) is in
    no_save classes sort.Long rule.right (subst (λ x. IsSorted classes x rule.right) (let h : a.sort ≡ sort.Long = cc in h) a.sorted) no_long

pub no_save_kind : (classes : List Class) (rule : Rule) (k : Kind) → IsRule classes rule → kind_at classes rule.left ≡ Some k → (sort_fits (Some sort.Stmt) (sort_of_kind k) ≡ true → ⊥)
    → begins_with_save rule.right ≡ true → ⊥
no_save_kind classes rule k is_rule is apart =
    let a = is_rule.sides in
    let same_sort : Some a.sort ≡ Some (sort_of_kind k) = sym a.declared ∙ ap (option_map sort_of_kind) is in
    no_save classes (sort_of_kind k) rule.right (subst (λ x. IsSorted classes x rule.right) (let h : a.sort ≡ sort_of_kind k = cc in h) a.sorted) apart

map_each : (every : Bool) (P Q : ℕ → Type 0) (area : List ℕ) (m : term.State) (a : ActShape) → ((i : ℕ) → P i → Q i) → SafeAct every P area m a → SafeAct every Q area m a
map_each every P Q area m (Value x) go h = safe_map every P Q area m x go h
map_each every P Q area m (Number x) go h = safe_map every P Q area m x go h
map_each every P Q area m (Address x) go h = safe_map every P Q area m x go h
map_each every P Q area m (PlaceHome z i) go h = tt
map_each every P Q area m (PlaceAt z x) go h = safe_map every P Q area m x go h
map_each every P Q area m (StoreHome z i x) go h = safe_map every P Q area m x go h
map_each every P Q area m (StoreAt z x y) go h = (safe_map every P Q area m x go h.0, safe_map every P Q area m y go h.1)
map_each every P Q area m (Branch i x y) go h = (safe_map every P Q area m x go h.0, safe_map every P Q area m y go h.1)
map_each every P Q area m (Push x) go h = safe_map every P Q area m x go h
map_each every P Q area m Call go h = tt
map_each every P Q area m (Save i) go h = tt
map_each every P Q area m (Return x) go h = safe_map every P Q area m x go h
map_each every P Q area m Jump go h = tt

map_all : (every : Bool) (P Q : ℕ → Type 0) (area : List ℕ) (m : term.State) (ts : List Shape) → ((i : ℕ) → P i → Q i) → AllSafe every P area m ts → AllSafe every Q area m ts
map_all every P Q area m [] go h = tt
map_all every P Q area m (u ∷ us) go h = (safe_map every P Q area m u go h.0, map_all every P Q area m us go h.1)

some_is : (o : Option ℕ) (n : ℕ) → o ≡ Some n → is_some o ≡ true
some_is None n e = absurd (cc)
some_is (Some x) n e = refl

-- of at most one divisor, some is zero: it is the only one
record OneZero (v : View) (ds : List Shape) : Type 0 where
  divisor : Shape
  only : ds ≡ divisor ∷ []
  zero_is : value v divisor ≡ 0

one_zero : (v : View) (ds : List Shape) → length ds ≤ 1 → divides_by_zero (term_state v) ds ≡ true → OneZero v ds
one_zero v [] few e = absurd (cc)
one_zero v (x ∷ y ∷ ds) few e = absurd (omega (arith, few))
one_zero v (x ∷ []) few e = record { divisor = x; only = refl; zero_is = eqb-true (value v x) 0 (or_none (value v x == 0) e) } where
  or_none : (b : Bool) → (b || false) ≡ true → b ≡ true
  or_none true h = refl
  or_none false h = h

module _ {O I S F : Type 0} (of : Meaning O I S F) (law : IsLawful of) (q : TreeProgram) (valid : IsValid q) (d : Content) (first : ℕ) (f : Extent) (fs : List Extent) (t : State) (s : Sight)
    (m0 : S) (frame : IsFrame of q d first f fs t s m0) where
  abbrev pub wanted_term : Rule → Shape
  wanted_term rule = value_of (first_part (stack_from d.classes 1 rule.right)).part

  pub gives_number : (m : term.State) (vs : List Sense) (u : Shape) (v : Sense) → Gives q.objects s m vs (Value u) v → v ≡ OfNumber (term.value m u)
  gives_number m vs u (OfLeaf l) h = absurd h
  gives_number m vs u (OfNumber n) h = ap OfNumber (sym h)
  gives_number m vs u (OfPlace g) h = absurd h

  pub gives_constant : (m : term.State) (vs : List Sense) (u : Shape) (v : Sense) → Gives q.objects s m vs (Number u) v → v ≡ OfNumber (term.value m u)
  gives_constant m vs u (OfLeaf l) h = absurd h
  gives_constant m vs u (OfNumber n) h = ap OfNumber (sym h)
  gives_constant m vs u (OfPlace g) h = absurd h

  pub gives_address : (m : term.State) (vs : List Sense) (u : Shape) (v : Sense) → Gives q.objects s m vs (Address u) v → v ≡ OfNumber (term.value m u)
  gives_address m vs u (OfLeaf l) h = absurd h
  gives_address m vs u (OfNumber n) h = ap OfNumber (sym h)
  gives_address m vs u (OfPlace g) h = absurd h

  -- At the choice of a rule, in the state m: its symbols' entries stand for senses, and its restrictions hold.
  module _ (m : S) (sees : Sees of q d first f fs t s m0 m) (rule : Rule) (is_rule : IsRule d.classes rule) (shown : IsShown of.effect (count_ones d.pool) d.classes rule)
      (es : List (Entry O)) (vs : List Sense) (holds : Hold of law q d first f fs t s m0 frame m sees es rule.right vs)
      (hold : all_hold (selecting of q d first) es rule.restrictions ≡ true) where
    abbrev pub V : View
    V = view of law q d first f fs t s m0 frame m sees es rule.right

    abbrev pub found : EffectShape
    found = shown.found

    abbrev pub wanted : EffectShape
    wanted = effect_read d.classes rule

    abbrev pub Alike : Type 0
    Alike = EffectsAlike (facts_of d.classes rule) (λ i. is_some (V.symbol i)) s.area (term_state V) found wanted

    pub alike : Alike
    alike = alike_effects of law q d first f fs t s m0 frame m sees es rule vs holds found hold shown.found_is shown.alike

    know : (i : ℕ) → IsKnown q.objects s vs i → is_some (V.symbol i) ≡ true
    know i k = some_is (V.symbol i) k.0 (known of law q d first f fs t s m0 frame m sees es rule.right vs i k.0 holds k.1)

    -- A later state, to which the symbols are carried on.
    pub record Later (m' : S) (es' : List (Entry O)) : Type 0 where
      pub seen : Sees of q d first f fs t s m0 m'
      pub now : Holds of q d first f fs t s m0 m' es' rule.right vs
      pub carried : AllCarried of q d f t m m' rule.right es es'
      pub loaded : AllLoaded es'
      pub answered : begins_with_save rule.right ≡ true → of.answer m' ≡ t.running.result

    -- the rule's own effect in that state, and what its pattern's gives or does
    pub record Set (m' : S) (es' : List (Entry O)) : Type 0 where
      pub inst : Instance of true q f fs d.classes rule found (attrs es') V m'
      pub divides : DividesByNone V found

    pub set : (m' : S) (es' : List (Entry O)) → Later m' es' → divides_by_zero (term_state V) wanted.divisors ≡ false
        → SafeAct true (IsKnown q.objects s vs) s.area (term_state V) wanted.act → AllSafe true (IsKnown q.objects s vs) s.area (term_state V) wanted.divisors
        → Set m' es'
    set m' es' later none act ds =
        let safe = map_each true (IsKnown q.objects s vs) (λ i. is_some (V.symbol i) ≡ true) s.area (term_state V) wanted.act know act in
        let divisors = map_all true (IsKnown q.objects s vs) (λ i. is_some (V.symbol i) ≡ true) s.area (term_state V) wanted.divisors know ds in
        let reads = effect_reads true V (λ i. is_some (V.symbol i)) (λ i. refl) (facts_of d.classes rule) s.area frame.area found wanted alike safe divisors in
        record {
          inst = instance of law q d first f fs t s m0 frame m sees m' later.seen true es es' rule vs found (restricted of q d first rule.restrictions es hold) valid is_rule
              shown.found_is later.loaded holds later.now later.carried reads later.answered;
          divides = divides_none V found (alike.divides ∙ none);
        }

    -- what is said of the senses is said of the view
    pub at_view : {A : term.State → Type 0} → ((n : term.State) → StandsFor q.objects s vs n → A n) → A (term_state V)
    at_view h = h (term_state V) (stands_for of law q d first f fs t s m0 frame m sees es rule.right vs holds)

    -- where a divisor is zero, the lines trap, whatever the rule gives
    pub lines_trap : (m' : S) (es' : List (Entry O)) (res : Attr O) → Later m' es' → IsResult of rule.give (attrs es') res
        → ((n : term.State) → StandsFor q.objects s vs n → TrapsBy q.objects s vs wanted n) → of.run (lines_of of q rule (attrs es') res) m' ≡ traps
    lines_trap m' es' res later result trapping =
        let by = trapping (term_state V) (stands_for of law q d first f fs t s m0 frame m sees es rule.right vs holds) in
        let safe = map_each false (IsKnown q.objects s vs) (λ i. is_some (V.symbol i) ≡ true) s.area (term_state V) wanted.act know by.safe in
        let divisors = map_all false (IsKnown q.objects s vs) (λ i. is_some (V.symbol i) ≡ true) s.area (term_state V) wanted.divisors know by.divisors in
        let reads = effect_reads false V (λ i. is_some (V.symbol i)) (λ i. refl) (facts_of d.classes rule) s.area frame.area found wanted alike safe divisors in
        let inst = instance of law q d first f fs t s m0 frame m sees m' later.seen false es es' rule vs found (restricted of q d first rule.restrictions es hold) valid is_rule
        shown.found_is later.loaded holds later.now later.carried reads later.answered in
        let one = one_zero V found.divisors (law.templates.one_divisor d.classes rule found shown.found_is) (alike.divides ∙ by.divides) in
        law.templates.trap q f fs d.classes rule found one.divisor (attrs es') res V m' inst result one.only one.zero_is

    -- ---- what a rule gives, in that state

    module _ (m' : S) (es' : List (Entry O)) (later : Later m' es') (v : Sense) (by : GivesBy q.objects s vs wanted v (term_state V)) where
      pub given : Set m' es'
      given = set m' es' later by.divides by.safe by.divisors

      pub record Leaves (r : ℕ) : Type 0 where
        pub number : ℕ
        pub sense_is : v ≡ OfNumber number
        pub sets : Sets of (lines_of of q rule (attrs es') (attr.Reg r)) (RegAt r) q Long (attr.Reg r) number m'

      spelled : AreSpelled q (attrs es')
      spelled = spelled_now of law q d first f fs t s m0 frame m sees m' later.seen es' rule.right vs later.now

      -- the lines of a rule with a result leave what its pattern gives
      pub leaves : (r : ℕ) → kind_at d.classes rule.left ≡ Some kind.Reg → IsResult of rule.give (attrs es') (attr.Reg r) → Leaves r
      leaves r is result =
          let act_is : wanted.act ≡ Value (wanted_term rule) = ap (λ k. whole k (first_part (stack_from d.classes 1 rule.right)).part) is in
          let val = value_alike true V (λ i. is_some (V.symbol i)) (λ i. refl) (facts_of d.classes rule) s.area frame.area found.act (wanted_term rule)
          (subst (ActsAlike (facts_of d.classes rule) (λ i. is_some (V.symbol i)) s.area (term_state V) found.act) act_is alike.act) in
          let sets = law.templates.result q f fs d.classes rule found val.term (attrs es') r V m' (record { instance_of = given.inst; result = result; divides = given.divides }) val.is in
          record {
            number = value V (wanted_term rule);
            sense_is = gives_number (term_state V) vs (wanted_term rule) v (subst (λ a. Gives q.objects s (term_state V) vs a v) act_is by.gives);
            sets = subst (λ n. Sets of (lines_of of q rule (attrs es') (attr.Reg r)) (RegAt r) q Long (attr.Reg r) n m') val.alike.worth sets;
          }

      -- a shape's operand stands for what its rule gives, behind the lines of the rule
      pub record Shaped (k : Kind) (a : Attr O) : Type 0 where
        pub state : S
        pub ran : of.run (lines_of of q rule (attrs es') attr.Nothing) m' ≡ comes state
        pub is : ClassIs of q d first f fs t s m0 state (Some k) a v
        pub keeps : Keeps of [] m' state

      nothing_result : (g : Give) (l : Line) → g ≡ give.Shape l → IsResult of g (attrs es') attr.Nothing
      nothing_result g l e = subst (λ x. IsResult of x (attrs es') attr.Nothing) (sym e) tt

      pub quiet : (l : Line) → rule.give ≡ give.Shape l → (n : S) × (of.run (lines_of of q rule (attrs es') attr.Nothing) m' ≡ comes n) × Keeps of [] m' n
      quiet l mode =
          law.shapes.quiet q f fs d.classes rule found l (attrs es') V m' (record { instance_of = given.inst; result = nothing_result rule.give l mode; divides = given.divides }) mode

      pub value_shaped : (l : Line) (z : Size) → of.can_write q → rule.give ≡ give.Shape l → kind_at d.classes rule.left ≡ Some (kind.Value z)
          → Shaped (kind.Value z) (attr.Value (of.operand q l (attrs es')))
      value_shaped l z can mode is =
          let act_is : wanted.act ≡ Value (wanted_term rule) = ap (λ k. whole k (first_part (stack_from d.classes 1 rule.right)).part) is in
          let val = value_alike true V (λ i. is_some (V.symbol i)) (λ i. refl) (facts_of d.classes rule) s.area frame.area found.act (wanted_term rule)
          (subst (ActsAlike (facts_of d.classes rule) (λ i. is_some (V.symbol i)) s.area (term_state V) found.act) act_is alike.act) in
          let behind = quiet l mode in
          let reads = law.shapes.value_shape q f fs d.classes rule found val.term z l (attrs es') V m' given.inst mode is val.is in
          let fits = law.spells.shape_fits q d.classes rule found (kind.Value z) l (attrs es') can is_rule shown.found_is mode is given.inst.holes_fit given.inst.restricted spelled in
          let number = gives_number (term_state V) vs (wanted_term rule) v (subst (λ a. Gives q.objects s (term_state V) vs a v) act_is by.gives) in
          record {
            state = behind.0;
            ran = behind.1;
            is = subst (λ w. ClassIs of q d first f fs t s m0 behind.0 (Some (kind.Value z)) (attr.Value (of.operand q l (attrs es'))) w) (sym number)
                (value_is z (of.operand q l (attrs es')) (value V (wanted_term rule)) fits
                (behind.2.reads (of.operand q l (attrs es')) z (value V (wanted_term rule)) tt (reads ∙ ap Some val.alike.worth)));
            keeps = behind.2;
          }

      pub address_shaped : (l : Line) → of.can_write q → rule.give ≡ give.Shape l → kind_at d.classes rule.left ≡ Some kind.Ea
          → Shaped kind.Ea (attr.Ea (of.operand q l (attrs es')))
      address_shaped l can mode is =
          let act_is : wanted.act ≡ Address (wanted_term rule) = ap (λ k. whole k (first_part (stack_from d.classes 1 rule.right)).part) is in
          let val = address_alike true V (λ i. is_some (V.symbol i)) (λ i. refl) (facts_of d.classes rule) s.area frame.area found.act (wanted_term rule)
          (subst (ActsAlike (facts_of d.classes rule) (λ i. is_some (V.symbol i)) s.area (term_state V) found.act) act_is alike.act) in
          let behind = quiet l mode in
          let names = law.shapes.address_shape q f fs d.classes rule found val.term Long l (attrs es') V m' given.inst mode is val.is in
          let fits = law.spells.shape_fits q d.classes rule found kind.Ea l (attrs es') can is_rule shown.found_is mode is given.inst.holes_fit given.inst.restricted spelled in
          let number = gives_address (term_state V) vs (wanted_term rule) v (subst (λ a. Gives q.objects s (term_state V) vs a v) act_is by.gives) in
          record {
            state = behind.0;
            ran = behind.1;
            is = subst (λ w. ClassIs of q d first f fs t s m0 behind.0 (Some kind.Ea) (attr.Ea (of.operand q l (attrs es'))) w) (sym number)
                (address_is (of.operand q l (attrs es')) (value V (wanted_term rule)) fits
                (behind.2.names (of.operand q l (attrs es')) Long (value V (wanted_term rule)) tt (names ∙ ap Some val.alike.worth)));
            keeps = behind.2;
          }

      -- a place in memory
      pub place_shaped : (l : Line) (z : Size) (a : Shape) (g : Place) → of.can_write q → rule.give ≡ give.Shape l → kind_at d.classes rule.left ≡ Some (kind.Place z)
          → wanted.act ≡ PlaceAt z a → v ≡ OfPlace g → g ≡ meaning.Memory z (value V a) → Shaped (kind.Place z) (attr.Place (of.operand q l (attrs es')))
      place_shaped l z a g can mode is act_is sense at =
          let val = place_alike true V (λ i. is_some (V.symbol i)) (λ i. refl) (facts_of d.classes rule) s.area frame.area found.act z a
          (subst (ActsAlike (facts_of d.classes rule) (λ i. is_some (V.symbol i)) s.area (term_state V) found.act) act_is alike.act) in
          let behind = quiet l mode in
          let names = law.shapes.place_shape q f fs d.classes rule found val.term z l (attrs es') V m' given.inst mode is val.is in
          let fits = law.spells.shape_fits q d.classes rule found (kind.Place z) l (attrs es') can is_rule shown.found_is mode is given.inst.holes_fit given.inst.restricted spelled in
          record {
            state = behind.0;
            ran = behind.1;
            is = subst (λ w. ClassIs of q d first f fs t s m0 behind.0 (Some (kind.Place z)) (attr.Place (of.operand q l (attrs es'))) w) (sym (sense ∙ ap OfPlace at))
                (place_is z (of.operand q l (attrs es')) (meaning.Memory z (value V a)) fits
                (memory_is (value V a) (behind.2.names (of.operand q l (attrs es')) z (value V a) tt (names ∙ ap Some val.alike.worth))));
            keeps = behind.2;
          }
