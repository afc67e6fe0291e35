-- The desk of selection as an interpretation of a parse's moves.
use Rattle.std.proofs.Common.{◌≡◌, ◌⊎◌, inl, inr, ℕ, zero, suc, ◌+◌, ◌≤◌, List, [], ◌∷◌, ◌++◌, length, Option, Some, None, true, false, refl, sym, ap, ◌∙◌, subst, arith, slice_get}
use Rattle.std.specs.Prelude.{count_ones}
use Rattle.std.specs.List.{AllByRecursion as All}
use Rattle.std.proofs.lemmas.Option.{same_Some, none-some}
use Rattle.std.proofs.lemmas.Bool.{false≢true}
use Rattle.gg_base.proofs.Facts.{all_get}
use Rattle.tree_core.specs.declared.token.Tok.TheVariants as tok
use Rattle.tree_core.specs.declared.tree.Att.{Att}
use Rattle.tree_core.specs.declared.tree.Att.TheVariants as att
use Rattle.tree_core.specs.declared.tree.Leaf.{Leaf}
use Rattle.tree_core.specs.declared.program.TreeProgram.{TreeProgram}
use Rattle.tree_core.specs.Attributes.{attribute_of, is_of_kind, leaf_fits}
use Rattle.tree_core.specs.Valid.{IsValid}
use Rattle.tree_meaning.specs.State.{State, Extent}
use Rattle.tree_meaning.specs.Deeds.{Deed}
use Rattle.tree_meaning.specs.Steps.{deed_step}
use Rattle.tree_meaning.specs.Values.{Sight}
use Rattle.md_reader_pieces.specs.declared.piece.Line.{Line}
use Rattle.md_reader.specs.declared.types.Kind.{Kind}
use Rattle.md_reader.specs.declared.types.Kind.TheVariants as kind
use Rattle.md_reader.specs.declared.types.Class.{Class}
use Rattle.md_reader.specs.declared.types.Give.{Give}
use Rattle.md_reader.specs.declared.types.Give.TheVariants as give
use Rattle.md_reader.specs.declared.types.Rule.{Rule}
use Rattle.md_reader.specs.declared.types.Sym.{Sym}
use Rattle.md_reader.specs.declared.types.Sym.TheVariants as grammar_symbol
use Rattle.md_reader.specs.Patterns.{kind_at}
use Rattle.md_reader.specs.Restrictions.{is_reg}
use Rattle.md_reader.specs.Rows.{shape_fits}
use Rattle.md_reader.specs.State.{Content}
use Rattle.md_reader.specs.Valid.{IsRule, MayGive}
use Rattle.term_core.specs.Value as term
use Rattle.sel_target.specs.sel_terms.specs.Reading.{effect_read}
use Rattle.sel_parse_moves.specs.sel_terms_trees.specs.Senses.{Sense, OfLeaf, piled, StandsFor}
use Rattle.sel_parse_moves.specs.sel_terms_trees.specs.Effects.{GivesBy, DoesBy, TrapsBy}
use Rattle.sel_target.specs.declared.attr.Attr.{Attr}
use Rattle.sel_target.specs.declared.attr.Attr.TheVariants as attr
use Rattle.sel_target.specs.Meaning.{Meaning}
use Rattle.sel_target.specs.Courses.{Course, Ending, Comes, comes, followed}
use Rattle.sel_target.specs.Laws.{IsLawful}
use Rattle.sel_target.specs.EffectTerms.{begins_with_save}
use Rattle.sel_target.specs.Instances.{IsResult, InFrame, lines_of}
use Rattle.sel_target.specs.StatementLaws.{IsStep}
use Rattle.sel_parse_moves.specs.lr_check_parse.specs.Attributes.{Selecting, all_hold, answered}
use Rattle.sel_parse.specs.Shown.{IsShown, AreShown}
use Rattle.sel_parse_moves.specs.Interprets.{SenseFits, Interprets}
use Rattle.sel_parse_stands.specs.sel_parse_selected.specs.Entries.{Entry, attrs}
use Rattle.sel_parse_stands.specs.sel_parse_selected.specs.Desk.{Stack, Desk, desk_of, Outcome, Full, Stuck, Done, bind}
use Rattle.sel_parse_stands.specs.sel_parse_selected.specs.Spills.{Where, holds_register, due}
use Rattle.sel_parse_stands.specs.sel_parse_selected.specs.Reductions.{reloaded_by, reloaded_at, reloaded, with_scratch, given_by, reduced}
use Rattle.sel_parse_stands.specs.sel_parse_selected.specs.Selected.{Kept, kept_of, shifted, reduced_by, selecting}
use Rattle.sel_parse_stands.specs.Stands as stands
use Rattle.sel_parse_stands.specs.Stands.{NamedBy, Names, SymbolIs, IsFrame, Holds}
use Rattle.sel_parse_stands.specs.Lines.{LinesSave}
use Rattle.sel_parse_stands.proofs.Loaded.{IsLoaded, AllLoaded}
use Rattle.sel_parse_stands.proofs.Parting.{parted_at}
use Rattle.sel_parse_stands.proofs.Saving.{token_holds_none}
use Rattle.sel_parse_stands.proofs.Desks.{MayMove, below, among, due_unmoved, done_same}
use Rattle.sel_parse_effect.specs.Standing.{OnlyTokens, Standing, Stands, Trapped, Did}
use Rattle.sel_parse_effect.specs.Places.{StoresToPlaces}
use Rattle.sel_parse_effect.proofs.Giving as giving
use Rattle.sel_parse_effect.proofs.Reducing as red
use Rattle.sel_parse_effect.proofs.Reducing.{bound, tops, Ready, Brought, brought, taken}
use Rattle.sel_parse_effect.proofs.Gives.{saves_alone, reduction_gives, reduction_traps}
use Rattle.sel_parse_effect.proofs.Doing as doing
use Rattle.sel_parse_effect.proofs.Growing.{reduction_grows, traps_still}

ending_same : {I S : Type 0} (m n : S) → ◌≡◌ {A = Ending I S} (Comes m) (Comes n) → m ≡ n
ending_same m n e = cc

comes_same : {I S : Type 0} (m n : S) → ◌≡◌ {A = Course I S} (comes m) (comes n) → m ≡ n
comes_same m n e = ending_same m n (ap (λ (c : Course _ _). c.ending) e)

not_reg : (k : Option Kind) → k ≡ Some kind.Nothing → is_reg k ≡ true → ⊥
not_reg k e h = false≢true (subst (λ w. is_reg w ≡ true) e h)

not_shape : (classes : List Class) (right : List Sym) (k : Option Kind) (l : Line) → k ≡ Some kind.Nothing → shape_fits classes right k l.pieces ≡ true → ⊥
not_shape classes right k l e h = false≢true (subst (λ w. shape_fits classes right w l.pieces ≡ true) e h)

module _ {O I S F : Type 0} (of : Meaning O I S F) (law : IsLawful of) (stores : StoresToPlaces of) (q : TreeProgram) (valid : IsValid q) (can : of.can_write q) (d : Content) (first : ℕ)
    (f : Extent) (fs : List Extent) (t : State) (s : Sight) (m0 : S) (frame : IsFrame of q d first f fs t s m0) (lines : LinesSave of d) where
  -- ---- a rule that begins with Save looks at the last call's result: nothing has been run before it

  slot_att : (a : Att) → is_of_kind (attribute_of tok.Save) a ≡ true → NamedBy of q d first f fs t s m0 tok.Save a → of.answer m0 ≡ t.running.result
  slot_att (att.Slot k) e h = h.1
  slot_att _ e h = absurd (cc)

  slot_low : (a : Att) → is_of_kind (attribute_of tok.Save) a ≡ true → NamedBy of q d first f fs t s m0 tok.Save a → InFrame a
  slot_low (att.Slot k) e h =
      let lt = h.0 in
      let few = frame.few in
      let within = frame.within in
      omega (arith, lt, few, within)
  slot_low _ e h = absurd (cc)

  -- the one entry of such a rule
  record SaveEntry (a : Attr O) : Type 0 where
    leaf : Leaf
    is : a ≡ attr.Token leaf
    fits : leaf_fits leaf ≡ true
    low : InFrame leaf.att
    answered_is : of.answer m0 ≡ t.running.result

  save_symbol : (m : S) (x : Sym) (k : Option Kind) (a : Attr O) (v : Sense) → SymbolIs of q d first f fs t s m0 m x k a v → x ≡ grammar_symbol.Tok tok.Save → SaveEntry a
  save_symbol m x k a v (stands.token l fit named) e =
      let same : l.tok ≡ tok.Save = cc in
      let local_fits = subst (λ w. is_of_kind (attribute_of w) l.att ≡ true) same fit in
      let local_named = subst (λ w. NamedBy of q d first f fs t s m0 w l.att) same named.0 in
      record {
        leaf = l;
        is = refl;
        fits = fit;
        low = slot_low l.att local_fits local_named;
        answered_is = slot_att l.att local_fits local_named;
      }
  save_symbol m x k a v (stands.class c a' v' is) e = absurd (cc)

  record OneEntry (es : List (Entry O)) : Type 0 where
    entry : Entry O
    is : es ≡ entry ∷ []
    save : SaveEntry entry.attr

  one_entry : (m : S) (es : List (Entry O)) (right : List Sym) (vs : List Sense) → Holds of q d first f fs t s m0 m es right vs → right ≡ grammar_symbol.Tok tok.Save ∷ [] → OneEntry es
  one_entry m [] (x ∷ xs) vs h e = absurd h
  one_entry m (b ∷ es) (x ∷ xs) [] h e = absurd h
  one_entry m (b ∷ c ∷ es) (x ∷ []) (v ∷ []) h e = absurd h.1
  one_entry m (b ∷ c ∷ es) (x ∷ []) (v ∷ w ∷ vs) h e = absurd h.1
  one_entry m (b ∷ []) (x ∷ []) (v ∷ vs) h e = record { entry = b; is = refl; save = save_symbol m x b.kind b.attr v h.0 (let g : x ≡ grammar_symbol.Tok tok.Save = cc in g) }
  one_entry m _ _ _ h e = absurd (cc)

  none_below : (m : S) (es : List (Entry O)) → Holds of q d first f fs t s m0 m es [] [] → es ≡ []
  none_below m [] h = refl
  none_below m (b ∷ es) h = absurd h

  -- nothing is reloaded where nothing stands in a slot
  not_reloaded : (i : ℕ) (desk : Desk O I) (e : Entry O) (a : Attr O) → IsLoaded a → reloaded_by of q d first i desk e a ≡ Done desk
  not_reloaded i desk e (attr.Reg r) h = refl
  not_reloaded i desk e (attr.InSlot w) h = absurd h
  not_reloaded i desk e (attr.Value o) h = refl
  not_reloaded i desk e (attr.Place o) h = refl
  not_reloaded i desk e (attr.Con n) h = refl
  not_reloaded i desk e (attr.Ea o) h = refl
  not_reloaded i desk e (attr.Token l) h = refl
  not_reloaded i desk e attr.Nothing h = refl

  none_reloaded : (n i : ℕ) (desk : Desk O I) → AllLoaded desk.symbols → reloaded of q d first n i desk ≡ Done desk
  none_reloaded zero i desk h = refl
  none_reloaded (suc n) i desk h =
      ap (λ o. bind o (reloaded of q d first n (i + 1))) (one (slice_get desk.symbols i) refl) ∙ none_reloaded n (i + 1) desk h
    where
      one : (o : Option (Entry O)) → slice_get desk.symbols i ≡ o → reloaded_at of q d first i desk o ≡ Done desk
      one None at = refl
      one (Some e) at = not_reloaded i desk e e.attr (all_get (λ (x : Entry O). IsLoaded x.attr) desk.symbols i e h at)

  -- One reduction of a statement.
  module _ (rule : Rule) (is_rule : IsRule d.classes rule) (shown : IsShown of.effect (count_ones d.pool) d.classes rule) (x x' : Stack O I) (vs : List Sense)
      (size : length vs ≡ length rule.right) (hold : all_hold (selecting of q d first) (desk_of (length rule.right) x).symbols rule.restrictions ≡ true)
      (before : Standing of q d first f fs t s m0 x (piled rule.right []) (piled vs [])) where
    abbrev Begin : Desk O I
    Begin = desk_of (length rule.right) x

    abbrev IsReady : Desk O I → Type 0
    IsReady y = Ready of law q valid d first f fs t s m0 frame lines rule is_rule shown x [] [] vs size hold before y

    -- where nothing has been moved, nothing has been run
    untouched_state : (y : Desk O I) (ok : IsReady y) → Begin ≡ y → rule.right ≡ grammar_symbol.Tok tok.Save ∷ [] → ok.works.state ≡ m0
    untouched_state y ok e alone =
        comes_same ok.works.state before.state (sym ok.works.ran ∙ ap (λ (z : Desk O I). of.run z.code m0) (sym e) ∙ before.ran)
        ∙ before.first_run (subst (λ w. OnlyTokens (piled w [])) (sym alone) tt)

    save_entry : rule.right ≡ grammar_symbol.Tok tok.Save ∷ [] → OneEntry Begin.symbols
    save_entry alone = one_entry before.state Begin.symbols rule.right vs (tops of law q valid d first f fs t s m0 frame lines rule is_rule shown x [] [] vs size hold before) alone

    start_loaded : rule.right ≡ grammar_symbol.Tok tok.Save ∷ [] → AllLoaded Begin.symbols
    start_loaded alone =
        let o = save_entry alone in
        subst (λ (w : List (Entry O)). AllLoaded w) (sym o.is) (subst (λ (a : Attr O). IsLoaded a) (sym o.save.is) tt, tt)

    unmoved : (y : Desk O I) → reloaded of q d first (length rule.right) 0 Begin ≡ Done y → rule.right ≡ grammar_symbol.Tok tok.Save ∷ [] → Begin ≡ y
    unmoved y e alone = done_same Begin y (sym (none_reloaded (length rule.right) 0 Begin (start_loaded alone)) ∙ e)

    may_not : rule.right ≡ grammar_symbol.Tok tok.Save ∷ [] → (p : Where) (e : Entry O) → MayMove of Begin p e → ⊥
    may_not alone p e (below i b at holding) =
        none-some e
        (ap (λ (w : List (Entry O)). slice_get w i)
        (sym (none_below before.state Begin.below (parted_at of q d first f fs t s m0 before.state rule.right [] vs [] x.entries size before.holds).rest)) ∙ at)
    may_not alone p e (among i b at holding apart) =
        let o = save_entry alone in
        only i (ap (λ (w : List (Entry O)). slice_get w i) (sym o.is) ∙ at)
      where
        o : OneEntry Begin.symbols
        o = save_entry alone

        holds_none : (b : Entry O) → b.attr ≡ attr.Token o.save.leaf → holds_register of b ≡ true → ⊥
        holds_none b g h =
            token_holds_none of law q d first f fs t s m0 frame lines b.kind o.save.leaf o.save.fits o.save.low
            (subst (λ (w : Attr O). holds_register of (record { kind = b.kind; attr = w }) ≡ true) g h)

        only : (i : ℕ) → slice_get (o.entry ∷ []) i ≡ Some e → ⊥
        only zero g = holds_none e (ap (λ (w : Entry O). w.attr) (sym (same_Some o.entry e g)) ∙ o.save.is) holding
        only (suc i) g = none-some e g

    due_still : (y new : Desk O I) (r : ℕ) → due of q d first false y ≡ Done (r, new) → Begin ≡ y → rule.right ≡ grammar_symbol.Tok tok.Save ∷ [] → Begin ≡ new
    due_still y new r e same alone =
        due_unmoved of law q d first f fs t s m0 frame lines before.state rule.right Begin.symbols vs [] [] false Begin new r
        (ap (due of q d first false) same ∙ e) (may_not alone)

    answered_by : (y : Desk O I) (ok : IsReady y) → (rule.right ≡ grammar_symbol.Tok tok.Save ∷ [] → Begin ≡ y) → begins_with_save rule.right ≡ true → of.answer ok.works.state ≡ t.running.result
    answered_by y ok same h =
        let alone = saves_alone d.classes rule is_rule h in
        ap of.answer (untouched_state y ok (same alone) alone) ∙ (save_entry alone).save.answered_is

    module _ (is : kind_at d.classes rule.left ≡ Some kind.Nothing) (deed : Deed)
        (does : (n : term.State) → StandsFor q.objects s vs n → DoesBy q.objects s vs (effect_read d.classes rule) deed n) where
      abbrev Goal : Stack O I → Type 0
      Goal y = y.most ≤ f.words → IsStep of q f fs t m0 (of.run y.code m0) (deed_step q t deed)

      finish : (y : Desk O I) (ok : IsReady y) (res : Attr O) → (begins_with_save rule.right ≡ true → of.answer ok.works.state ≡ t.running.result) → IsResult of rule.give (attrs y.symbols) res
          → IsStep of q f fs t m0 (of.run (y.code ++ lines_of of q rule (attrs y.symbols) res) m0) (deed_step q t deed)
      finish y ok res answered result =
          let m' = ok.works.state in
          let later = red.later of law q valid d first f fs t s m0 frame lines rule is_rule shown x [] [] vs size hold before y ok answered in
          let top = tops of law q valid d first f fs t s m0 frame lines rule is_rule shown x [] [] vs size hold before in
          let by = giving.at_view of law q valid d first f fs t s m0 frame before.state before.sees rule is_rule shown Begin.symbols vs top hold
          {A = DoesBy q.objects s vs (effect_read d.classes rule) deed} does in
          doing.step_from of q f fs t m0 m' (of.run (lines_of of q rule (attrs y.symbols) res) m') (of.run (y.code ++ lines_of of q rule (attrs y.symbols) res) m0) (deed_step q t deed)
          (sym (law.runs.run_on y.code (lines_of of q rule (attrs y.symbols) res) m0
          ∙ ap (λ c. followed c (lines_of of q rule (attrs y.symbols) res) (of.run (lines_of of q rule (attrs y.symbols) res))) ok.works.ran
          ∙ refl))
          ok.works.live
          (doing.lines_do of law stores q valid d first f fs t s m0 frame before.state before.sees rule is_rule shown Begin.symbols vs top hold m' y.symbols later is deed by res result)

      none_result : (g : Give) (hs : List (Attr O)) → g ≡ give.Nothing → IsResult of g hs attr.Nothing
      none_result g hs e = subst (λ w. IsResult of w hs attr.Nothing) (sym e) tt

      brings : (y : Desk O I) → reloaded of q d first (length rule.right) 0 Begin ≡ Done y → Brought of law q valid d first f fs t s m0 frame lines rule is_rule shown x [] [] vs size hold before y
      brings y e = brought of law q valid d first f fs t s m0 frame lines rule is_rule shown x [] [] vs size hold before y e

      by_give : (g : Give) (y : Desk O I) → reloaded of q d first (length rule.right) 0 Begin ≡ Done y → rule.give ≡ g → MayGive d.classes rule.left rule.right g
          → given_by of q d first rule g y ≡ Done x' → Goal x'
      by_give give.Fresh y b mode may e = λ within. absurd (not_reg (kind_at d.classes rule.left) is may)
      by_give give.Reuse y b mode may e = λ within. absurd (not_reg (kind_at d.classes rule.left) is may)
      by_give give.Scratch y b mode may e =
          let h = bound (due of q d first false y) (with_scratch of q d first rule) x' e in
          let k = taken of law q valid d first f fs t s m0 frame lines rule is_rule shown x [] [] vs size hold before false y h.0.1 h.0.0 (brings y b) h.1 in
          subst Goal (done_same _ x' h.2) (λ within. (
          let ok = k.ready_is within in
          finish h.0.1 ok (attr.Reg h.0.0) (λ save. answered_by h.0.1 ok (λ alone. due_still y h.0.1 h.0.0 h.1 (unmoved y b alone) alone) save)
          (red.scratch_result of law q valid d first f fs t s m0 frame lines rule is_rule shown x [] [] vs size hold before h.0.1 h.0.0 mode k.due_is.small (k.due_is.symbols refl))))
      by_give give.Nothing y b mode may e =
          subst Goal (done_same _ x' e) (λ within. (
          let ok = red.ready of law q valid d first f fs t s m0 frame lines rule is_rule shown x [] [] vs size hold before y ((brings y b).works within) (brings y b).loaded in
          finish y ok attr.Nothing (λ save. answered_by y ok (λ alone. unmoved y b alone) save) (none_result rule.give (attrs y.symbols) mode)))
      by_give (give.Shape l) y b mode may e = λ within. absurd (not_shape d.classes rule.right (kind_at d.classes rule.left) l is may.1)

      pub reduction_does : reduced of q d first rule x ≡ Done x' → Goal x'
      reduction_does e =
          let h = bound (reloaded of q d first (length rule.right) 0 Begin) (given_by of q d first rule rule.give) x' e in
          by_give rule.give h.0 h.1 refl is_rule.gives h.2

  -- ---- the interpretation

  abbrev Select : Selecting (Kept O I) (Entry O)
  Select = selecting of q d first

  abbrev St : Kept O I → List Sym → List Sense → Type 0
  St x a us = Stands of q d first f fs t s m0 x a us

  pub shift_stands : (x : Kept O I) (l : Leaf) (a : List Sym) (us : List Sense) → leaf_fits l ≡ true → Names of q d first f fs t s m0 l → St x a us
      → St (shifted l x) (grammar_symbol.Tok l.tok ∷ a) (OfLeaf l ∷ us)
  shift_stands None l a us fit named h = tt
  shift_stands (Some x) l a us fit named h = λ within. (
      let b = h within in
      record { state = b.state; ran = b.ran; sees = b.sees; live = b.live; holds = (stands.token l fit named, b.holds); first_run = λ k. b.first_run k })

  -- what comes of a reduction
  came_of : (o : Outcome (Stack O I)) (x' : Kept O I) → kept_of o ≡ Some x' → (x' ≡ None) ⊎ ((y : Stack O I) × (x' ≡ Some y) × (o ≡ Done y))
  came_of Full x' e = absurd (none-some x' e)
  came_of Stuck x' e = inl (sym (same_Some None x' e))
  came_of (Done y) x' e = inr (y, sym (same_Some (Some y) x' e), refl)

  came : (n : ℕ) (rule : Rule) (x : Stack O I) (x' : Kept O I) → slice_get d.rules n ≡ Some rule → Select.reduced n (Some x) ≡ Some x'
      → (x' ≡ None) ⊎ ((y : Stack O I) × (x' ≡ Some y) × (reduced of q d first rule x ≡ Done y))
  came n rule x x' there e = came_of (reduced of q d first rule x) x' (ap (λ o. reduced_by of q d first o (Some x)) (sym there) ∙ e)

  none_kept : (o : Option Rule) (x' : Kept O I) → reduced_by of q d first o None ≡ Some x' → x' ≡ None
  none_kept None x' e = sym (same_Some None x' e)
  none_kept (Some r) x' e = sym (same_Some None x' e)

  module _ (rules_valid : All (IsRule d.classes) d.rules) (rules_shown : AreShown of.effect d) where
    pub gives_at : (x x' : Kept O I) (n : ℕ) (r : Rule) (a : List Sym) (us vs : List Sense) (v : Sense) → slice_get d.rules n ≡ Some r → length vs ≡ length r.right → answered Select r x ≡ true
        → St x (piled r.right a) (piled vs us) → SenseFits (kind_at d.classes r.left) v → ((m : term.State) → StandsFor q.objects s vs m → GivesBy q.objects s vs (effect_read d.classes r) v m)
        → Select.reduced n x ≡ Some x' → St x' (grammar_symbol.Class r.left ∷ a) (v ∷ us)
    gives_at None x' n r a us vs v there size hold before fits gives e = subst (λ w. St w (grammar_symbol.Class r.left ∷ a) (v ∷ us)) (sym (none_kept (slice_get d.rules n) x' e)) tt
    gives_at (Some x) x' n r a us vs v there size hold before fits gives e = by (came n r x x' there e)
      where
        by : (x' ≡ None) ⊎ ((y : Stack O I) × (x' ≡ Some y) × (reduced of q d first r x ≡ Done y)) → St x' (grammar_symbol.Class r.left ∷ a) (v ∷ us)
        by (inl g) = subst (λ w. St w (grammar_symbol.Class r.left ∷ a) (v ∷ us)) (sym g) tt
        by (inr g) = subst (λ w. St w (grammar_symbol.Class r.left ∷ a) (v ∷ us)) (sym g.1) (λ within. (
            let less = (reduction_grows of q d first r x g.0 g.2).grows in
            reduction_gives of law q valid can d first f fs t s m0 frame lines r (all_get (IsRule d.classes) d.rules n r rules_valid there)
            (all_get (IsShown of.effect (count_ones d.pool) d.classes) d.rules n r rules_shown there) x g.0 a us vs size hold (before (omega (arith, less, within))) v fits gives g.2 within))

    pub does_at : (x x' : Kept O I) (n : ℕ) (r : Rule) (vs : List Sense) (e0 : Deed) → slice_get d.rules n ≡ Some r → length vs ≡ length r.right → answered Select r x ≡ true
        → St x (piled r.right []) (piled vs []) → kind_at d.classes r.left ≡ Some kind.Nothing
        → ((m : term.State) → StandsFor q.objects s vs m → DoesBy q.objects s vs (effect_read d.classes r) e0 m)
        → Select.reduced n x ≡ Some x' → Did of q d first f fs t s m0 x' e0
    does_at None x' n r vs e0 there size hold before is does e = subst (λ w. Did of q d first f fs t s m0 w e0) (sym (none_kept (slice_get d.rules n) x' e)) tt
    does_at (Some x) x' n r vs e0 there size hold before is does e = by (came n r x x' there e)
      where
        by : (x' ≡ None) ⊎ ((y : Stack O I) × (x' ≡ Some y) × (reduced of q d first r x ≡ Done y)) → Did of q d first f fs t s m0 x' e0
        by (inl g) = subst (λ w. Did of q d first f fs t s m0 w e0) (sym g) tt
        by (inr g) = subst (λ w. Did of q d first f fs t s m0 w e0) (sym g.1) (λ within. (
            let less = (reduction_grows of q d first r x g.0 g.2).grows in
            reduction_does r (all_get (IsRule d.classes) d.rules n r rules_valid there)
            (all_get (IsShown of.effect (count_ones d.pool) d.classes) d.rules n r rules_shown there) x g.0 vs size hold (before (omega (arith, less, within))) is e0 does g.2 within))

    pub traps_at : (x x' : Kept O I) (n : ℕ) (r : Rule) (a : List Sym) (us vs : List Sense) → slice_get d.rules n ≡ Some r → length vs ≡ length r.right → answered Select r x ≡ true
        → St x (piled r.right a) (piled vs us) → ((m : term.State) → StandsFor q.objects s vs m → TrapsBy q.objects s vs (effect_read d.classes r) m)
        → Select.reduced n x ≡ Some x' → Trapped of q d first f fs t s m0 x'
    traps_at None x' n r a us vs there size hold before trapping e = subst (λ w. Trapped of q d first f fs t s m0 w) (sym (none_kept (slice_get d.rules n) x' e)) tt
    traps_at (Some x) x' n r a us vs there size hold before trapping e = by (came n r x x' there e)
      where
        by : (x' ≡ None) ⊎ ((y : Stack O I) × (x' ≡ Some y) × (reduced of q d first r x ≡ Done y)) → Trapped of q d first f fs t s m0 x'
        by (inl g) = subst (λ w. Trapped of q d first f fs t s m0 w) (sym g) tt
        by (inr g) = subst (λ w. Trapped of q d first f fs t s m0 w) (sym g.1) (λ within. (
            let less = (reduction_grows of q d first r x g.0 g.2).grows in
            reduction_traps of law q valid can d first f fs t s m0 frame lines r (all_get (IsRule d.classes) d.rules n r rules_valid there)
            (all_get (IsShown of.effect (count_ones d.pool) d.classes) d.rules n r rules_shown there) x g.0 a us vs size hold (before (omega (arith, less, within))) trapping g.2 within))

    pub shift_trapped : (x : Kept O I) (l : Leaf) → Trapped of q d first f fs t s m0 x → Trapped of q d first f fs t s m0 (shifted l x)
    shift_trapped None l h = tt
    shift_trapped (Some x) l h = h

    pub still_trapped : (x x' : Kept O I) (n : ℕ) → Trapped of q d first f fs t s m0 x → Select.reduced n x ≡ Some x' → Trapped of q d first f fs t s m0 x'
    still_trapped None x' n h e = subst (λ w. Trapped of q d first f fs t s m0 w) (sym (none_kept (slice_get d.rules n) x' e)) tt
    still_trapped (Some x) x' n h e = at (slice_get d.rules n) refl
      where
        by : (r : Rule) → (x' ≡ None) ⊎ ((y : Stack O I) × (x' ≡ Some y) × (reduced of q d first r x ≡ Done y)) → Trapped of q d first f fs t s m0 x'
        by r (inl g) = subst (λ w. Trapped of q d first f fs t s m0 w) (sym g) tt
        by r (inr g) = subst (λ w. Trapped of q d first f fs t s m0 w) (sym g.1) (λ within. (
            let more = reduction_grows of q d first r x g.0 g.2 in
            let less = more.grows in
            ap (λ c. of.run c m0) more.is ∙ traps_still of law x.code more.more m0 (h (omega (arith, less, within)))))

        at : (o : Option Rule) → slice_get d.rules n ≡ o → Trapped of q d first f fs t s m0 x'
        at None there = subst (λ w. Trapped of q d first f fs t s m0 w) (same_Some None x' (ap (λ o. reduced_by of q d first o (Some x)) (sym there) ∙ e)) tt
        at (Some r) there = by r (came n r x x' there e)

    abbrev pub interprets : Interprets (selecting of q d first) d.classes d.rules q.objects s
    interprets = record {
      Names = Names of q d first f fs t s m0;
      Stands = Stands of q d first f fs t s m0;
      Trapped = Trapped of q d first f fs t s m0;
      Did = Did of q d first f fs t s m0;
      shifts = λ x l a us fit named h. shift_stands x l a us fit named h;
      gives = λ x x' n r a us vs v there size hold before fits gives e. gives_at x x' n r a us vs v there size hold before fits gives e;
      does = λ x x' n r vs e0 there size hold before is does possible e. does_at x x' n r vs e0 there size hold before is does e;
      traps = λ x x' n r a us vs there size hold before trapping e. traps_at x x' n r a us vs there size hold before trapping e;
      shifts_trapped = λ x l h. shift_trapped x l h;
      reduces_trapped = λ x x' n h e. still_trapped x x' n h e;
    }
