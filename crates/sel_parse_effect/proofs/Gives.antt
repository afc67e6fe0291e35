-- The fields of an interpretation: what each reduction gives, and that a zero divisor traps.
use Rattle.std.proofs.Common.{◌≡◌, ℕ, ◌≤◌, List, [], ◌∷◌, length, Option, Some, None, Bool, true, false, refl, sym, ap, ◌∙◌, subst}
use Rattle.std.specs.Prelude.{count_ones}
use Rattle.std.proofs.lemmas.Bool.{false≢true}
use Rattle.gg_base.specs.declared.size.Size.{Size}
use Rattle.gg_base.specs.declared.size.Size.TheVariants.{Byte, Word, Long}
use Rattle.tree_core.specs.declared.token.Tok.TheVariants as tok
use Rattle.tree_core.specs.declared.token.Sort.{Sort}
use Rattle.tree_core.specs.declared.token.Sort.TheVariants as sort
use Rattle.tree_core.specs.declared.program.Object.{Object}
use Rattle.tree_core.specs.declared.program.TreeProgram.{TreeProgram}
use Rattle.tree_core.specs.Valid.{IsValid}
use Rattle.tree_core.specs.Trees.{sort_fits}
use Rattle.tree_meaning.specs.State.{State, Extent}
use Rattle.tree_meaning.specs.declared.value.Meaning.{Meaning as Place}
use Rattle.tree_meaning.specs.Values.{Sight}
use Rattle.md_reader_pieces.specs.declared.piece.Line.{Line}
use Rattle.md_reader.specs.declared.types.Kind.{Kind}
use Rattle.md_reader.specs.declared.types.Kind.TheVariants as kind
use Rattle.md_reader.specs.declared.types.Class.{Class}
use Rattle.md_reader.specs.declared.types.Give.{Give}
use Rattle.md_reader.specs.declared.types.Give.TheVariants as give
use Rattle.md_reader.specs.declared.types.Rule.{Rule}
use Rattle.md_reader.specs.declared.types.Sym.{Sym}
use Rattle.md_reader.specs.declared.types.Sym.TheVariants as grammar_symbol
use Rattle.md_reader.specs.Patterns.{kind_at, sort_of_kind, Trees, no_tree, node, onto}
use Rattle.md_reader.specs.Rows.{shape_fits}
use Rattle.md_reader.specs.State.{Content}
use Rattle.md_reader.specs.Valid.{IsRule, MayGive}
use Rattle.term_core.specs.Value as term
use Rattle.sel_target.specs.sel_terms.specs.Effects.{EffectShape}
use Rattle.sel_target.specs.sel_terms.specs.Reading.{effect_read, stack_from}
use Rattle.sel_target.specs.sel_terms.specs.Wanted.{first_part}
use Rattle.sel_target.specs.sel_terms_meaning.specs.Meaning.{divides_by_zero}
use Rattle.sel_parse_moves.specs.sel_terms_trees.specs.Senses.{Sense, OfLeaf, OfNumber, OfPlace, IsPlace, piled, StandsFor}
use Rattle.sel_parse_moves.specs.sel_terms_trees.specs.Effects.{GivesBy, TrapsBy}
use Rattle.sel_target.specs.declared.attr.Attr.{Attr}
use Rattle.sel_target.specs.declared.attr.Attr.TheVariants as attr
use Rattle.sel_target.specs.Meaning.{Meaning}
use Rattle.sel_target.specs.Values.{term_state}
use Rattle.sel_target.specs.Courses.{traps}
use Rattle.sel_target.specs.Laws.{IsLawful}
use Rattle.sel_target.specs.Instances.{IsResult}
use Rattle.sel_target.specs.EffectTerms.{begins_with_save}
use Rattle.sel_parse_moves.specs.lr_check_parse.specs.Attributes.{all_hold}
use Rattle.sel_parse.specs.Shown.{IsShown}
use Rattle.sel_parse_moves.specs.Interprets.{SenseFits}
use Rattle.sel_parse_stands.specs.sel_parse_selected.specs.Entries.{attrs}
use Rattle.sel_parse_stands.specs.sel_parse_selected.specs.Desk.{Stack, Desk, desk_of, Done}
use Rattle.sel_parse_stands.specs.sel_parse_selected.specs.Spills.{due}
use Rattle.sel_parse_stands.specs.sel_parse_selected.specs.Reductions.{reloaded, shaped, with_result, with_scratch, given_by, reduced}
use Rattle.sel_parse_stands.specs.sel_parse_selected.specs.Selected.{selecting}
use Rattle.sel_parse_stands.specs.Stands.{IsFrame}
use Rattle.sel_parse_stands.specs.Lines.{LinesSave}
use Rattle.sel_parse_stands.proofs.Desks.{done_same}
use Rattle.sel_parse_effect.specs.Standing.{Standing}
use Rattle.sel_parse_effect.proofs.Giving as giving
use Rattle.sel_parse_effect.proofs.Giving.{no_save_kind}
use Rattle.sel_parse_effect.proofs.Reducing as red
use Rattle.sel_parse_effect.proofs.Reducing.{reg_is, nothing_is, bound, tops, Ready, Brought, brought, Taken, taken}
use Rattle.sel_parse_effect.proofs.Shapes as shapes

-- a rule that begins with Save is that token alone
save_alone : {ok : Sym → Sort → Bool} {x : Sort} (tree : Trees ok (x ∷ [])) → begins_with_save (onto tree []) ≡ true → onto tree [] ≡ grammar_symbol.Tok tok.Save ∷ []
save_alone (node (grammar_symbol.Tok tok.Save) passes no_tree no_tree) e = refl
save_alone _ e = absurd (cc)

pub saves_alone : (classes : List Class) (r : Rule) → IsRule classes r → begins_with_save r.right ≡ true → r.right ≡ grammar_symbol.Tok tok.Save ∷ []
saves_alone classes r is_rule e =
    let sorted = is_rule.sides.sorted in
    sym sorted.spelled ∙ save_alone sorted.tree (subst (λ w. begins_with_save w ≡ true) (sym sorted.spelled) e)

-- its effect divides by nothing
no_divisors : (classes : List Class) (r : Rule) → IsRule classes r → begins_with_save r.right ≡ true → (effect_read classes r).divisors ≡ []
no_divisors classes r is_rule e = ap (λ w. (first_part (stack_from classes 1 w)).divisors) (saves_alone classes r is_rule e)

no_trap : (objects : List Object) (s : Sight) (vs : List Sense) (e : EffectShape) (m : term.State) → e.divisors ≡ [] → TrapsBy objects s vs e m → ⊥
no_trap objects s vs e m g h = false≢true (subst (λ w. divides_by_zero m w ≡ true) g h.divides)

-- a class that stands for something is no statement's
stands_not : (k : Kind) (v : Sense) → SenseFits (Some k) v → sort_fits (Some sort.Stmt) (sort_of_kind k) ≡ true → ⊥
stands_not kind.Reg v h e = cc
stands_not (kind.Value Byte) v h e = cc
stands_not (kind.Value Word) v h e = cc
stands_not (kind.Value Long) v h e = cc
stands_not (kind.Place Byte) v h e = cc
stands_not (kind.Place Word) v h e = cc
stands_not (kind.Place Long) v h e = cc
stands_not kind.Con v h e = cc
stands_not kind.Ea v h e = cc
stands_not kind.Nothing v h e = h

nothing_stands : (k : Option Kind) (v : Sense) → k ≡ Some kind.Nothing → SenseFits k v → ⊥
nothing_stands k v e h = subst (λ w. SenseFits w v) e h

place_sense : (z : Size) (v : Sense) → SenseFits (Some (kind.Place z)) v → (g : Place) × (v ≡ OfPlace g) × IsPlace z g
place_sense z (OfLeaf l) h = absurd h
place_sense z (OfNumber n) h = absurd h
place_sense z (OfPlace g) h = (g, refl, h)

module _ {O I S F : Type 0} (of : Meaning O I S F) (law : IsLawful of) (q : TreeProgram) (valid : IsValid q) (can : of.can_write q) (d : Content) (first : ℕ) (f : Extent) (fs : List Extent)
    (t : State) (s : Sight) (m0 : S) (frame : IsFrame of q d first f fs t s m0) (lines : LinesSave of d) where
  abbrev Stood : Stack O I → List Sym → List Sense → Type 0
  Stood x a us = Standing of q d first f fs t s m0 x a us

  module _ (rule : Rule) (is_rule : IsRule d.classes rule) (shown : IsShown of.effect (count_ones d.pool) d.classes rule) (x x' : Stack O I) (a : List Sym) (us vs : List Sense)
      (size : length vs ≡ length rule.right) (hold : all_hold (selecting of q d first) (desk_of (length rule.right) x).symbols rule.restrictions ≡ true)
      (before : Stood x (piled rule.right a) (piled vs us)) where
    abbrev Brings : Desk O I → Type 0
    Brings y = Brought of law q valid d first f fs t s m0 frame lines rule is_rule shown x a us vs size hold before y

    abbrev IsReady : Desk O I → Type 0
    IsReady y = Ready of law q valid d first f fs t s m0 frame lines rule is_rule shown x a us vs size hold before y

    ready_of : (y : Desk O I) → Brings y → y.most ≤ f.words → IsReady y
    ready_of y b within = red.ready of law q valid d first f fs t s m0 frame lines rule is_rule shown x a us vs size hold before y (b.works within) b.loaded

    abbrev Takes : Bool → Desk O I → Desk O I → ℕ → Type 0
    Takes given y new r = Taken of law q valid d first f fs t s m0 frame lines rule is_rule shown x a us vs size hold before given y new r

    took : (given : Bool) (y new : Desk O I) (r : ℕ) → Brings y → due of q d first given y ≡ Done (r, new) → Takes given y new r
    took given y new r b e = taken of law q valid d first f fs t s m0 frame lines rule is_rule shown x a us vs size hold before given y new r b e

    abbrev behind : Attr O → Attr O → Desk O I → Stack O I
    behind result given y = red.behind of law q valid d first f fs t s m0 frame lines rule is_rule shown x a us vs size hold before result given y

    at_view : {A : term.State → Type 0} → ((n : term.State) → StandsFor q.objects s vs n → A n)
        → A (term_state
        (giving.V of law q valid d first f fs t s m0 frame before.state before.sees rule is_rule shown (desk_of (length rule.right) x).symbols vs
        (tops of law q valid d first f fs t s m0 frame lines rule is_rule shown x a us vs size hold before) hold))
    at_view {A = A} h =
        giving.at_view of law q valid d first f fs t s m0 frame before.state before.sees rule is_rule shown (desk_of (length rule.right) x).symbols vs
        (tops of law q valid d first f fs t s m0 frame lines rule is_rule shown x a us vs size hold before) hold {A = A} h

    -- ---- `gives`

    module _ (v : Sense) (fits : SenseFits (kind_at d.classes rule.left) v) (gives : (n : term.State) → StandsFor q.objects s vs n → GivesBy q.objects s vs (effect_read d.classes rule) v n) where
      abbrev Goal : Stack O I → Type 0
      Goal y = y.most ≤ f.words → Stood y (grammar_symbol.Class rule.left ∷ a) (v ∷ us)

      fresh_gives : (y new : Desk O I) (r : ℕ) → Brings y → rule.give ≡ give.Fresh → MayGive d.classes rule.left rule.right give.Fresh → due of q d first false y ≡ Done (r, new)
          → Goal (behind (attr.Reg r) (attr.Reg r) new)
      fresh_gives y new r b mode may e within =
          let h = took false y new r b e in
          red.leads of law q valid d first f fs t s m0 frame lines rule is_rule shown x a us vs size hold before new r v (h.ready_is within)
          (reg_is (kind_at d.classes rule.left) may) h.due_is.small h.due_is.below
          (red.fresh_result of law q valid d first f fs t s m0 frame lines rule is_rule shown x a us vs size hold before new r mode h.due_is.small (h.due_is.symbols refl)) gives

      reuse_gives : (y new : Desk O I) (r : ℕ) → Brings y → rule.give ≡ give.Reuse → MayGive d.classes rule.left rule.right give.Reuse → due of q d first true y ≡ Done (r, new)
          → Goal (behind (attr.Reg r) (attr.Reg r) new)
      reuse_gives y new r b mode may e within =
          let h = took true y new r b e in
          red.leads of law q valid d first f fs t s m0 frame lines rule is_rule shown x a us vs size hold before new r v (h.ready_is within)
          (reg_is (kind_at d.classes rule.left) may) h.due_is.small h.due_is.below
          (red.reuse_result of law q valid d first f fs t s m0 frame lines rule is_rule shown x a us vs size hold before new r mode h.due_is.small) gives

      shape_gives : (y : Desk O I) (l : Line) → Brings y → rule.give ≡ give.Shape l → (k : Option Kind) → kind_at d.classes rule.left ≡ k → SenseFits k v
          → shape_fits d.classes rule.right k l.pieces ≡ true
          → Goal (behind attr.Nothing (shaped of q d first k l (attrs y.symbols)) y)
      shape_gives y l b mode None is no_fit shape within = absurd no_fit
      shape_gives y l b mode (Some k) is fit shape within = given k is fit shape
        where
          ok : IsReady y
          ok = ready_of y b within

          answered : (k : Kind) → kind_at d.classes rule.left ≡ Some k → SenseFits (Some k) v → begins_with_save rule.right ≡ true → of.answer ok.works.state ≡ t.running.result
          answered k is fit h = absurd (no_save_kind d.classes rule k is_rule is (λ e. stands_not k v fit e) h)

          later : (k : Kind) (is : kind_at d.classes rule.left ≡ Some k) (fit : SenseFits (Some k) v)
              → giving.Later of law q valid d first f fs t s m0 frame before.state before.sees rule is_rule shown (desk_of (length rule.right) x).symbols vs
              (tops of law q valid d first f fs t s m0 frame lines rule is_rule shown x a us vs size hold before) hold ok.works.state y.symbols
          later k is fit = red.later of law q valid d first f fs t s m0 frame lines rule is_rule shown x a us vs size hold before y ok (answered k is fit)

          by : GivesBy q.objects s vs (effect_read d.classes rule) v
              (term_state
              (giving.V of law q valid d first f fs t s m0 frame before.state before.sees rule is_rule shown (desk_of (length rule.right) x).symbols vs
              (tops of law q valid d first f fs t s m0 frame lines rule is_rule shown x a us vs size hold before) hold))
          by = at_view {A = GivesBy q.objects s vs (effect_read d.classes rule) v} gives

          done : (k : Kind) (o : Attr O) (is : kind_at d.classes rule.left ≡ Some k) (fit : SenseFits (Some k) v)
              → giving.Shaped of law q valid d first f fs t s m0 frame before.state before.sees rule is_rule shown (desk_of (length rule.right) x).symbols vs
              (tops of law q valid d first f fs t s m0 frame lines rule is_rule shown x a us vs size hold before) hold ok.works.state y.symbols (later k is fit) v by k o
              → Stood (behind attr.Nothing o y) (grammar_symbol.Class rule.left ∷ a) (v ∷ us)
          done k o is fit it = red.shape_leads of law q valid d first f fs t s m0 frame lines rule is_rule shown x a us vs size hold before y v k o ok (answered k is fit) by is it

          given : (k : Kind) → kind_at d.classes rule.left ≡ Some k → SenseFits (Some k) v → shape_fits d.classes rule.right (Some k) l.pieces ≡ true
              → Stood (behind attr.Nothing (shaped of q d first (Some k) l (attrs y.symbols)) y) (grammar_symbol.Class rule.left ∷ a) (v ∷ us)
          given kind.Reg is fit shape =
              done kind.Reg _ is fit
              (shapes.register_given of law q valid d first f fs t s m0 frame before.state before.sees rule is_rule shown (desk_of (length rule.right) x).symbols vs
              (tops of law q valid d first f fs t s m0 frame lines rule is_rule shown x a us vs size hold before) hold ok.works.state y.symbols (later kind.Reg is fit) v by l mode can is shape)
          given (kind.Value z) is fit shape =
              done (kind.Value z) _ is fit
              (giving.value_shaped of law q valid d first f fs t s m0 frame before.state before.sees rule is_rule shown (desk_of (length rule.right) x).symbols vs
              (tops of law q valid d first f fs t s m0 frame lines rule is_rule shown x a us vs size hold before) hold ok.works.state y.symbols (later (kind.Value z) is fit) v by l z can mode is)
          given (kind.Place z) is fit shape =
              let p = place_sense z v fit in
              done (kind.Place z) _ is fit
              (shapes.place_given of law q valid d first f fs t s m0 frame before.state before.sees rule is_rule shown (desk_of (length rule.right) x).symbols vs
              (tops of law q valid d first f fs t s m0 frame lines rule is_rule shown x a us vs size hold before) hold ok.works.state y.symbols
              (later (kind.Place z) is fit) v by l mode can z p.0 is p.1 p.2)
          given kind.Con is fit shape =
              done kind.Con _ is fit
              (shapes.number_given of law q valid d first f fs t s m0 frame before.state before.sees rule is_rule shown (desk_of (length rule.right) x).symbols vs
              (tops of law q valid d first f fs t s m0 frame lines rule is_rule shown x a us vs size hold before) hold ok.works.state y.symbols (later kind.Con is fit) v by l mode can is shape)
          given kind.Ea is fit shape =
              done kind.Ea _ is fit
              (giving.address_shaped of law q valid d first f fs t s m0 frame before.state before.sees rule is_rule shown (desk_of (length rule.right) x).symbols vs
              (tops of law q valid d first f fs t s m0 frame lines rule is_rule shown x a us vs size hold before) hold ok.works.state y.symbols (later kind.Ea is fit) v by l can mode is)
          given kind.Nothing is fit shape = absurd fit

      by_give : (g : Give) (y : Desk O I) → Brings y → rule.give ≡ g → MayGive d.classes rule.left rule.right g → given_by of q d first rule g y ≡ Done x' → Goal x'
      by_give give.Fresh y b mode may e =
          let h = bound (due of q d first false y) (with_result of q d first rule) x' e in
          subst Goal (done_same _ x' h.2) (fresh_gives y h.0.1 h.0.0 b mode may h.1)
      by_give give.Reuse y b mode may e =
          let h = bound (due of q d first true y) (with_result of q d first rule) x' e in
          subst Goal (done_same _ x' h.2) (reuse_gives y h.0.1 h.0.0 b mode may h.1)
      by_give give.Scratch y b mode may e = λ within. absurd (nothing_stands (kind_at d.classes rule.left) v (nothing_is (kind_at d.classes rule.left) may) fits)
      by_give give.Nothing y b mode may e = λ within. absurd (nothing_stands (kind_at d.classes rule.left) v (nothing_is (kind_at d.classes rule.left) may) fits)
      by_give (give.Shape l) y b mode may e = subst Goal (done_same _ x' e) (shape_gives y l b mode (kind_at d.classes rule.left) refl fits may.1)

      pub reduction_gives : reduced of q d first rule x ≡ Done x' → Goal x'
      reduction_gives e =
          let h = bound (reloaded of q d first (length rule.right) 0 (desk_of (length rule.right) x)) (given_by of q d first rule rule.give) x' e in
          by_give rule.give h.0 (brought of law q valid d first f fs t s m0 frame lines rule is_rule shown x a us vs size hold before h.0 h.1) refl is_rule.gives h.2

    -- ---- `traps`

    module _ (trapping : (n : term.State) → StandsFor q.objects s vs n → TrapsBy q.objects s vs (effect_read d.classes rule) n) where
      abbrev Trap : Stack O I → Type 0
      Trap y = y.most ≤ f.words → of.run y.code m0 ≡ traps

      some_divisor : (effect_read d.classes rule).divisors ≡ [] → ⊥
      some_divisor e = no_trap q.objects s vs (effect_read d.classes rule) _ e (at_view {A = TrapsBy q.objects s vs (effect_read d.classes rule)} trapping)

      lines_trap : (y : Desk O I) (result given : Attr O) → IsReady y → IsResult of rule.give (attrs y.symbols) result → of.run (behind result given y).code m0 ≡ traps
      lines_trap y result given ok is =
          red.lines_trap of law q valid d first f fs t s m0 frame lines rule is_rule shown x a us vs size hold before y result given ok
          (λ h. absurd (some_divisor (no_divisors d.classes rule is_rule h))) is trapping

      none_result : (g : Give) (hs : List (Attr O)) → g ≡ give.Nothing → IsResult of g hs attr.Nothing
      none_result g hs e = subst (λ w. IsResult of w hs attr.Nothing) (sym e) tt

      shape_result : (g : Give) (l : Line) (hs : List (Attr O)) → g ≡ give.Shape l → IsResult of g hs attr.Nothing
      shape_result g l hs e = subst (λ w. IsResult of w hs attr.Nothing) (sym e) tt

      traps_give : (g : Give) (y : Desk O I) → Brings y → rule.give ≡ g → given_by of q d first rule g y ≡ Done x' → Trap x'
      traps_give give.Fresh y b mode e =
          let h = bound (due of q d first false y) (with_result of q d first rule) x' e in
          let k = took false y h.0.1 h.0.0 b h.1 in
          subst Trap (done_same _ x' h.2) (λ within. lines_trap h.0.1 (attr.Reg h.0.0) (attr.Reg h.0.0) (k.ready_is within)
          (red.fresh_result of law q valid d first f fs t s m0 frame lines rule is_rule shown x a us vs size hold before h.0.1 h.0.0 mode k.due_is.small (k.due_is.symbols refl)))
      traps_give give.Reuse y b mode e =
          let h = bound (due of q d first true y) (with_result of q d first rule) x' e in
          let k = took true y h.0.1 h.0.0 b h.1 in
          subst Trap (done_same _ x' h.2) (λ within. lines_trap h.0.1 (attr.Reg h.0.0) (attr.Reg h.0.0) (k.ready_is within)
          (red.reuse_result of law q valid d first f fs t s m0 frame lines rule is_rule shown x a us vs size hold before h.0.1 h.0.0 mode k.due_is.small))
      traps_give give.Scratch y b mode e =
          let h = bound (due of q d first false y) (with_scratch of q d first rule) x' e in
          let k = took false y h.0.1 h.0.0 b h.1 in
          subst Trap (done_same _ x' h.2) (λ within. lines_trap h.0.1 (attr.Reg h.0.0) attr.Nothing (k.ready_is within)
          (red.scratch_result of law q valid d first f fs t s m0 frame lines rule is_rule shown x a us vs size hold before h.0.1 h.0.0 mode k.due_is.small (k.due_is.symbols refl)))
      traps_give give.Nothing y b mode e =
          subst Trap (done_same _ x' e) (λ within. lines_trap y attr.Nothing attr.Nothing (ready_of y b within) (none_result rule.give (attrs y.symbols) mode))
      traps_give (give.Shape l) y b mode e =
          subst Trap (done_same _ x' e)
          (λ within. lines_trap y attr.Nothing (shaped of q d first (kind_at d.classes rule.left) l (attrs y.symbols)) (ready_of y b within) (shape_result rule.give l (attrs y.symbols) mode))

      pub reduction_traps : reduced of q d first rule x ≡ Done x' → Trap x'
      reduction_traps e =
          let h = bound (reloaded of q d first (length rule.right) 0 (desk_of (length rule.right) x)) (given_by of q d first rule rule.give) x' e in
          traps_give rule.give h.0 (brought of law q valid d first f fs t s m0 frame lines rule is_rule shown x a us vs size hold before h.0 h.1) refl h.2
