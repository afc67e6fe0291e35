-- What the lines of a statement's rule do: the step of its deed.
use Rattle.std.proofs.Common.{◌≡◌, ℕ, zero, suc, List, [], ◌∷◌, Option, Some, None, true, refl, sym, ap, ◌∙◌, subst, slice_get, arith}
use Rattle.std.specs.Prelude.{count_ones, is_some, slice_index_or}
use Rattle.std.specs.List.{AllByRecursion as All}
use Rattle.std.proofs.lemmas.Bool.{and_parts}
use Rattle.gg_base.specs.declared.relation.Rel.{Rel}
use Rattle.gg_base.specs.declared.size.Size.{Size}
use Rattle.gg_base.specs.Relations.{compares_signed}
use Rattle.tree_core.specs.declared.token.Tok.{Tok}
use Rattle.tree_core.specs.declared.token.Tok.TheVariants as tok
use Rattle.tree_core.specs.declared.tree.Att.{Att}
use Rattle.tree_core.specs.declared.tree.Att.TheVariants as att
use Rattle.tree_core.specs.declared.tree.Leaf.{Leaf}
use Rattle.tree_core.specs.declared.program.TreeProgram.{TreeProgram}
use Rattle.tree_core.specs.Attributes.{attribute_of, is_of_kind, leaf_fits}
use Rattle.tree_core.specs.Valid.{IsValid}
use Rattle.tree_meaning.specs.State.{State, Extent}
use Rattle.tree_meaning.specs.Deeds.{Deed, Puts, Branches, Pushes, Returns, Calls, Saves, Jumps, Traps, Strays}
use Rattle.tree_meaning.specs.Steps.{Step, deed_step}
use Rattle.tree_meaning.specs.Steps as steps
use Rattle.tree_meaning.specs.declared.value.Meaning.{Meaning as Place}
use Rattle.tree_meaning.specs.declared.value.Meaning.TheVariants as meaning
use Rattle.tree_meaning.specs.Values.{Sight}
use Rattle.md_reader.specs.declared.types.Kind.{Kind}
use Rattle.md_reader.specs.declared.types.Kind.TheVariants as kind
use Rattle.md_reader.specs.declared.types.Class.{Class}
use Rattle.md_reader.specs.declared.types.Restriction.{Restriction}
use Rattle.md_reader.specs.declared.types.Restriction.TheVariants as restriction
use Rattle.md_reader.specs.declared.types.Rule.{Rule}
use Rattle.md_reader.specs.declared.types.Sym.{Sym}
use Rattle.md_reader.specs.declared.types.Sym.TheVariants as grammar_symbol
use Rattle.md_reader.specs.Patterns.{kind_at}
use Rattle.md_reader.specs.State.{Content}
use Rattle.md_reader.specs.Valid.{IsRule}
use Rattle.term_core.specs.Shape.{Shape}
use Rattle.sel_target.specs.sel_terms.specs.Effects.{ActShape, Value, Number, Address, PlaceHome, PlaceAt, StoreHome, StoreAt, Branch, Push, Call, Save, Return, Jump}
use Rattle.sel_target.specs.sel_terms.specs.Parts.{PartShape, SubtreeShape, Worth, Home, At, Does as Acts, role_of, store, value_of}
use Rattle.sel_target.specs.sel_terms.specs.Wanted.{whole, first_part}
use Rattle.sel_target.specs.sel_terms.specs.Reading.{below, step, stack_from, effect_read}
use Rattle.sel_target.specs.sel_terms.specs.RuleFacts.{facts_of}
use Rattle.sel_target.specs.sel_terms_meaning.specs.Alike.{ActsAlike}
use Rattle.sel_parse_moves.specs.sel_terms_trees.specs.Senses.{Sense, OfLeaf, OfNumber, OfPlace, IsPlace, unknown, sense_at, means_at, att_of as att_in}
use Rattle.sel_parse_moves.specs.sel_terms_trees.specs.Effects.{Does, DoesBy}
use Rattle.sel_target.specs.declared.attr.Attr.{Attr}
use Rattle.sel_target.specs.declared.attr.Attr.TheVariants as attr
use Rattle.sel_target.specs.Meaning.{Meaning}
use Rattle.sel_target.specs.Courses.{Course}
use Rattle.sel_target.specs.Values.{View, term_state, value}
use Rattle.sel_target.specs.Laws.{IsLawful}
use Rattle.sel_target.specs.EffectTerms.{IsSignedBy}
use Rattle.sel_target.specs.Instances.{hole, IsResult, lines_of}
use Rattle.sel_target.specs.StatementLaws.{att_of, IsStep, DoesAct}
use Rattle.sel_target.specs.Symbols.{branch_relation, relation_of}
use Rattle.sel_parse_moves.specs.lr_check_parse.specs.Attributes.{attribute_at, relation_at, is_signed, holds, all_hold}
use Rattle.sel_parse.specs.Shown.{IsShown}
use Rattle.sel_parse_stands.specs.sel_parse_selected.specs.Entries.{Entry, attrs}
use Rattle.sel_parse_stands.specs.sel_parse_selected.specs.Selected.{selecting}
use Rattle.sel_parse_stands.specs.Stands as stands
use Rattle.sel_parse_stands.specs.Stands.{NamedBy, Names, SymbolIs, Sees, IsFrame, Holds}
use Rattle.sel_parse_stands.proofs.Carrying.{AllCarried}
use Rattle.sel_parse_stands.proofs.Instances.{Hold}
use Rattle.sel_parse_effect.specs.Places.{StoresToPlaces}
use Rattle.sel_parse_stands.specs.sel_parse_selected.proofs.Restricting.{attribute_suc}
use Rattle.sel_parse_effect.proofs.Effects.{store_home_alike, store_at_alike, branch_alike, push_alike, call_alike, save_alike, return_alike, jump_alike}
use Rattle.sel_parse_effect.proofs.Giving as giving
use Rattle.sel_parse_effect.proofs.Giving.{V, Later}
use Rattle.sel_parse_effect.proofs.Homes.{home_found, home_later, forward}

-- ---- which tokens do what

store_no_save : (p : PartShape) (u : Shape) (i : ℕ) → Acts (store p u) ≡ Acts (Save i) → ⊥
store_no_save (Worth t) u i e = cc
store_no_save (Home z j) u i e = cc
store_no_save (At z a) u i e = cc
store_no_save (Acts a) u i e = cc

class_no_save : (k : Option Kind) (i : ℕ) → Rattle.sel_target.specs.sel_terms.specs.Parts.leaf_part 1 (Rattle.sel_target.specs.sel_terms.specs.Parts.role_of_kind k) ≡ Acts (Save i) → ⊥
class_no_save None i e = cc
class_no_save (Some kind.Reg) i e = cc
class_no_save (Some (kind.Value z)) i e = cc
class_no_save (Some (kind.Place z)) i e = cc
class_no_save (Some kind.Con) i e = cc
class_no_save (Some kind.Ea) i e = cc
class_no_save (Some kind.Nothing) i e = cc

-- a pattern that saves begins with Save
save_head : (classes : List Class) (st : List SubtreeShape) (s : Sym) (i : ℕ) → (first_part (step 1 (role_of classes s) st)).part ≡ Acts (Save i) → s ≡ grammar_symbol.Tok tok.Save
save_head classes st (grammar_symbol.Tok tok.AssignB) i e = absurd (store_no_save (first_part st).part (value_of (first_part (below st)).part) i e)
save_head classes st (grammar_symbol.Tok tok.AssignW) i e = absurd (store_no_save (first_part st).part (value_of (first_part (below st)).part) i e)
save_head classes st (grammar_symbol.Tok tok.AssignL) i e = absurd (store_no_save (first_part st).part (value_of (first_part (below st)).part) i e)
save_head classes st (grammar_symbol.Tok tok.Save) i e = refl
save_head classes st (grammar_symbol.Class c) i e = absurd (class_no_save (kind_at classes c) i e)
save_head classes st _ i e = absurd (cc)

whole_save : (p : PartShape) (i : ℕ) → whole (Some kind.Nothing) p ≡ Save i → p ≡ Acts (Save i)
whole_save (Acts a) i e = ap Acts e
whole_save _ i e = absurd (cc)

begins_so : (classes : List Class) (right : List Sym) (i : ℕ) → (first_part (stack_from classes 1 right)).part ≡ Acts (Save i) → slice_get right 0 ≡ Some (grammar_symbol.Tok tok.Save)
begins_so classes [] i e = absurd (cc)
begins_so classes (s ∷ w) i e = ap Some (save_head classes (stack_from classes 2 w) s i e)

-- a call's attribute is a call's
callee_tok : (x : Tok) (function count : ℕ) → is_of_kind (attribute_of x) (att.Callee function count) ≡ true → x ≡ tok.Call
callee_tok tok.Call function count e = refl
callee_tok _ function count e = absurd (cc)

-- a sense with an attribute is a leaf's
sense_leaf : (v : Sense) (a : Att) → att_in v ≡ a → (att.Nothing ≡ a → ⊥) → (l : Leaf) × (v ≡ OfLeaf l) × (l.att ≡ a)
sense_leaf (OfLeaf l) a e no_att = (l, refl, e)
sense_leaf (OfNumber n) a e no_att = absurd (no_att e)
sense_leaf (OfPlace g) a e no_att = absurd (no_att e)

module _ {O I S F : Type 0} (of : Meaning O I S F) (law : IsLawful of) (stores : StoresToPlaces of) (q : TreeProgram) (valid : IsValid q) (d : Content) (first : ℕ) (f : Extent) (fs : List Extent)
    (t : State) (s : Sight) (m0 : S) (frame : IsFrame of q d first f fs t s m0)
    (m : S) (sees : Sees of q d first f fs t s m0 m) (rule : Rule) (is_rule : IsRule d.classes rule) (shown : IsShown of.effect (count_ones d.pool) d.classes rule)
    (es : List (Entry O)) (vs : List Sense) (standing : Hold of law q d first f fs t s m0 frame m sees es rule.right vs)
    (hold : all_hold (selecting of q d first) es rule.restrictions ≡ true) where
  abbrev View0 : View
  View0 = V of law q valid d first f fs t s m0 frame m sees rule is_rule shown es vs standing hold

  abbrev IsLater : S → List (Entry O) → Type 0
  IsLater m' es' = Later of law q valid d first f fs t s m0 frame m sees rule is_rule shown es vs standing hold m' es'

  -- ---- a symbol that is a leaf

  pub record LeafAt (j : ℕ) (l : Leaf) : Type 0 where
    pub entry : Entry O
    pub at : slice_get es j ≡ Some entry
    pub attr_is : entry.attr ≡ attr.Token l
    pub fits : leaf_fits l ≡ true
    pub named : Names of q d first f fs t s m0 l
    pub there : slice_get rule.right j ≡ Some (grammar_symbol.Tok l.tok)

  symbol_leaf : (x : Sym) (k : Option Kind) (a : Attr O) (v : Sense) (l : Leaf) → SymbolIs of q d first f fs t s m0 m x k a v → v ≡ OfLeaf l
      → (a ≡ attr.Token l) × (leaf_fits l ≡ true) × Names of q d first f fs t s m0 l × (x ≡ grammar_symbol.Tok l.tok)
  symbol_leaf x k a v l (stands.token w fit named) e =
      let same : w ≡ l = leaf_same w l e in
      (ap attr.Token same, subst (λ z. leaf_fits z ≡ true) same fit, subst (Names of q d first f fs t s m0) same named, ap (λ (z : Leaf). grammar_symbol.Tok z.tok) same)
    where
      leaf_same : (w l : Leaf) → OfLeaf w ≡ OfLeaf l → w ≡ l
      leaf_same w l e = cc
  symbol_leaf x k a v l (stands.class c a' v' is) e = absurd (class_leaf (kind_at d.classes c) a v is e)
    where
      class_leaf : (k : Option Kind) (a : Attr O) (v : Sense) → stands.ClassIs of q d first f fs t s m0 m k a v → v ≡ OfLeaf l → ⊥
      class_leaf k a v (stands.register r n lt is) e = cc
      class_leaf k a v (stands.in_slot w n le lt is) e = cc
      class_leaf k a v (stands.value z o n fits is) e = cc
      class_leaf k a v (stands.place z o g fits is) e = cc
      class_leaf k a v (stands.number n lt) e = cc
      class_leaf k a v (stands.address o n fits is) e = cc

  leaf_in : (bs : List (Entry O)) (right : List Sym) (ws : List Sense) (j : ℕ) (l : Leaf) → Holds of q d first f fs t s m0 m bs right ws → slice_index_or ws j unknown ≡ OfLeaf l
      → (e : Entry O) × (slice_get bs j ≡ Some e) × (e.attr ≡ attr.Token l) × (leaf_fits l ≡ true) × Names of q d first f fs t s m0 l × (slice_get right j ≡ Some (grammar_symbol.Tok l.tok))
  leaf_in [] [] [] j l h e = absurd (cc)
  leaf_in [] [] (w ∷ ws) j l h e = absurd h
  leaf_in [] (x ∷ xs) ws j l h e = absurd h
  leaf_in (b ∷ bs) [] [] j l h e = absurd h
  leaf_in (b ∷ bs) [] (w ∷ ws) j l h e = absurd h
  leaf_in (b ∷ bs) (x ∷ xs) [] j l h e = absurd h
  leaf_in (b ∷ bs) (x ∷ xs) (w ∷ ws) zero l h e = (let r = symbol_leaf x b.kind b.attr w l h.0 e in (b, refl, r.0, r.1, r.2, ap Some r.3))
  leaf_in (b ∷ bs) (x ∷ xs) (w ∷ ws) (suc j) l h e = leaf_in bs xs ws j l h.1 e

  leaf_at : (j : ℕ) (l : Leaf) → slice_index_or vs j unknown ≡ OfLeaf l → LeafAt j l
  leaf_at j l e = (let r = leaf_in es rule.right vs j l standing e in record { entry = r.0; at = r.1; attr_is = r.2; fits = r.3; named = r.4; there = r.5 })

  pub record AttAt (i : ℕ) (a : Att) : Type 0 where
    pub index : ℕ
    pub is : i ≡ suc index
    pub leaf : Leaf
    pub att_is : leaf.att ≡ a
    pub found : LeafAt index leaf

  att_at : (i : ℕ) (a : Att) → att_in (sense_at vs i) ≡ a → (att.Nothing ≡ a → ⊥) → AttAt i a
  att_at zero a e no_att = absurd (no_att e)
  att_at (suc j) a e no_att =
      let r = sense_leaf (slice_index_or vs j unknown) a e no_att in
      record { index = j; is = refl; leaf = r.0; att_is = r.2; found = leaf_at j r.0 r.1 }

  -- its hole in a later state has the attribute
  att_later : (m' : S) (es' : List (Entry O)) (i : ℕ) (a : Att) → AllCarried of q d f t m m' rule.right es es' → AttAt i a → att_of (hole (attrs es') i) ≡ Some a
  att_later m' es' i a carried h =
      let w = forward of law q d first f t s m0 fs frame m m' rule.right es es' h.index h.found.entry carried h.found.at in
      ap (λ k. att_of (hole (attrs es') k)) h.is ∙ ap att_of w.1 ∙ w.2.att ∙ ap (λ (b : Attr O). att_of (Some b)) h.found.attr_is ∙ ap Some h.att_is

  -- what the restrictions say of a branch's relation
  signed_all : (rs : List Restriction) (i : ℕ) (rel : Rel) (label : ℕ) → all_hold (selecting of q d first) es rs ≡ true → AttAt i (att.Branch rel label) → All (IsSignedBy i rel) rs
  signed_all [] i rel label h w = tt
  signed_all (restriction.Same a b ∷ rs) i rel label h w =
      (tt, signed_all rs i rel label (and_parts (holds (selecting of q d first) es (restriction.Same a b)) (all_hold (selecting of q d first) es rs) h).1 w)
  signed_all (restriction.Range j low high ∷ rs) i rel label h w =
      (tt, signed_all rs i rel label (and_parts (holds (selecting of q d first) es (restriction.Range j low high)) (all_hold (selecting of q d first) es rs) h).1 w)
  signed_all (restriction.Signed j ∷ rs) i rel label h w =
      (λ e. signed j e k.0, signed_all rs i rel label k.1 w)
    where
      k : (holds (selecting of q d first) es (restriction.Signed j) ≡ true) × (all_hold (selecting of q d first) es rs ≡ true)
      k = and_parts (holds (selecting of q d first) es (restriction.Signed j)) (all_hold (selecting of q d first) es rs) h

      signed : (j : ℕ) → j ≡ i → is_signed (relation_at (selecting of q d first) (attribute_at es j)) ≡ true → compares_signed rel ≡ true
      signed j e g =
          let at : attribute_at es j ≡ Some w.found.entry = ap (attribute_at es) (e ∙ w.is) ∙ attribute_suc es w.index ∙ w.found.at in
          let rel_is : relation_of w.found.entry.attr ≡ Some rel = ap relation_of w.found.attr_is ∙ ap branch_relation w.att_is in
          subst (λ o. is_signed o ≡ true) (ap (relation_at (selecting of q d first)) at ∙ rel_is) g

  -- ---- the act of the rule's own effect is the deed

  module _ (m' : S) (es' : List (Entry O)) (later : IsLater m' es') (is : kind_at d.classes rule.left ≡ Some kind.Nothing) (deed : Deed)
      (by : DoesBy q.objects s vs (effect_read d.classes rule) deed (term_state View0)) where
    abbrev Act : ActShape → Deed → Type 0
    Act a e = DoesAct of q f rule.restrictions (attrs es') View0 m' a e

    abbrev Alike0 : ActShape → Type 0
    Alike0 w = ActsAlike (facts_of d.classes rule) (λ i. is_some (View0.symbol i)) s.area (term_state View0) shown.found.act w

    alike_to : (w : ActShape) → (effect_read d.classes rule).act ≡ w → Alike0 w
    alike_to w e = subst Alike0 e (giving.alike of law q valid d first f fs t s m0 frame m sees rule is_rule shown es vs standing hold).act

    set : giving.Set of law q valid d first f fs t s m0 frame m sees rule is_rule shown es vs standing hold m' es'
    set = giving.set of law q valid d first f fs t s m0 frame m sees rule is_rule shown es vs standing hold m' es' later by.divides by.safe by.divisors

    stores_home : (z : Size) (j : ℕ) (u : Shape) (g : Place) (n : ℕ) → (effect_read d.classes rule).act ≡ StoreHome z j u → means_at q.objects s vs j ≡ g → IsPlace z g → value View0 u ≡ n
        → Act shown.found.act (Puts g n)
    stores_home z j u g n e stood fits worth =
        let h = store_home_alike true View0 (λ i. is_some (View0.symbol i)) (λ i. refl) (facts_of d.classes rule) s.area frame.area shown.found.act z j u (alike_to (StoreHome z j u) e) in
        let found = home_found of law q d first f t s m0 fs frame m rule es vs h.symbol j z g standing hold h.same stood fits in
        let there = home_later of law q d first f t s m0 fs frame m m' rule.right es es' vs h.symbol z g standing later.carried found in
        let own = stores d.classes rule shown.found z h.symbol h.term (attrs es') there.attribute shown.found_is h.is set.inst.holes_fit there.at in
        subst (λ a. Act a (Puts g n)) (sym h.is)
        (record { attribute = there.attribute; operand_is = own.0; at = there.at; own = own.1; place = there.place own.0 own.1 }, h.alike.worth ∙ worth)

    stores_at : (z : Size) (b u : Shape) (g : Place) (n : ℕ) → (effect_read d.classes rule).act ≡ StoreAt z b u → g ≡ meaning.Memory z (value View0 b) → value View0 u ≡ n
        → Act shown.found.act (Puts g n)
    stores_at z b u g n e at worth =
        let h = store_at_alike true View0 (λ i. is_some (View0.symbol i)) (λ i. refl) (facts_of d.classes rule) s.area frame.area shown.found.act z b u (alike_to (StoreAt z b u) e) in
        subst (λ a. Act a (Puts g n)) (sym h.is) (at ∙ ap (meaning.Memory z) (sym h.at_alike.worth), h.alike.worth ∙ worth)

    branches : (i : ℕ) (b u : Shape) (rel : Rel) (label x1 y1 : ℕ) → (effect_read d.classes rule).act ≡ Branch i b u → att_in (sense_at vs i) ≡ att.Branch rel label → value View0 b ≡ x1
        → value View0 u ≡ y1
        → Act shown.found.act (Branches rel label x1 y1)
    branches i b u rel label x1 y1 e has left right =
        let h = branch_alike true View0 (λ i. is_some (View0.symbol i)) (λ i. refl) (facts_of d.classes rule) s.area frame.area shown.found.act i b u (alike_to (Branch i b u) e) in
        let w = att_at i (att.Branch rel label) has (λ k. cc) in
        subst (λ a. Act a (Branches rel label x1 y1)) (sym h.is)
        (att_later m' es' i (att.Branch rel label) later.carried w, signed_all rule.restrictions i rel label hold w, h.left_alike.worth ∙ left, h.right_alike.worth ∙ right)

    pushes : (u : Shape) (n : ℕ) → (effect_read d.classes rule).act ≡ Push u → value View0 u ≡ n → Act shown.found.act (Pushes n)
    pushes u n e worth =
        let h = push_alike true View0 (λ i. is_some (View0.symbol i)) (λ i. refl) (facts_of d.classes rule) s.area frame.area shown.found.act u (alike_to (Push u) e) in
        subst (λ a. Act a (Pushes n)) (sym h.is) (h.alike.worth ∙ worth)

    returns : (u : Shape) (n : ℕ) → (effect_read d.classes rule).act ≡ Return u → value View0 u ≡ n → Act shown.found.act (Returns n)
    returns u n e worth =
        let h = return_alike true View0 (λ i. is_some (View0.symbol i)) (λ i. refl) (facts_of d.classes rule) s.area frame.area shown.found.act u (alike_to (Return u) e) in
        subst (λ a. Act a (Returns n)) (sym h.is) (h.alike.worth ∙ worth)

    calls : (function count : ℕ) → (effect_read d.classes rule).act ≡ Call → att_in (sense_at vs 1) ≡ att.Callee function count → Act shown.found.act (Calls function count)
    calls function count e has =
        let h = call_alike true View0 (λ i. is_some (View0.symbol i)) (λ i. refl) (facts_of d.classes rule) s.area frame.area shown.found.act (alike_to Call e) in
        let w = att_at 1 (att.Callee function count) has (λ k. cc) in
        let tok_is = callee_tok w.leaf.tok function count (subst (λ a. is_of_kind (attribute_of w.leaf.tok) a ≡ true) w.att_is w.found.fits) in
        let named : NamedBy of q d first f fs t s m0 tok.Call (att.Callee function count) =
        subst (λ x. NamedBy of q d first f fs t s m0 x (att.Callee function count)) tok_is (subst (NamedBy of q d first f fs t s m0 w.leaf.tok) w.att_is w.found.named.0) in
        subst (λ a. Act a (Calls function count)) (sym h) (att_later m' es' 1 (att.Callee function count) later.carried w, named.0, named.1)

    -- the symbol that a rule saves to is its Save
    saved_first : (i : ℕ) → (effect_read d.classes rule).act ≡ Save i → slice_get rule.right 0 ≡ Some (grammar_symbol.Tok tok.Save)
    saved_first i e =
        begins_so d.classes rule.right i (whole_save (first_part (stack_from d.classes 1 rule.right)).part i
        (ap (λ k. whole k (first_part (stack_from d.classes 1 rule.right)).part) (sym is) ∙ e))

    save_one : (s : Sym) (w : List Sym) (i : ℕ) → s ≡ grammar_symbol.Tok tok.Save → (first_part (step 1 (role_of d.classes s) (stack_from d.classes 2 w))).part ≡ Acts (Save i) → i ≡ 1
    save_one s w i e g = one (subst (λ z. (first_part (step 1 (role_of d.classes z) (stack_from d.classes 2 w))).part ≡ Acts (Save i)) e g)
      where
        one : Acts (Save 1) ≡ Acts (Save i) → i ≡ 1
        one k = cc

    first_saved : (right : List Sym) (i : ℕ) → (first_part (stack_from d.classes 1 right)).part ≡ Acts (Save i) → i ≡ 1
    first_saved [] i e = absurd (cc)
    first_saved (s ∷ w) i e = save_one s w i (save_head d.classes (stack_from d.classes 2 w) s i e) e

    saves : (i k : ℕ) → (effect_read d.classes rule).act ≡ Save i → att_in (sense_at vs i) ≡ att.Slot k → Act shown.found.act (Saves k)
    saves i k e has =
        let h = save_alike true View0 (λ i. is_some (View0.symbol i)) (λ i. refl) (facts_of d.classes rule) s.area frame.area shown.found.act i (alike_to (Save i) e) in
        let w = att_at i (att.Slot k) has (λ k. cc) in
        let part_is = whole_save (first_part (stack_from d.classes 1 rule.right)).part i (ap (λ k. whole k (first_part (stack_from d.classes 1 rule.right)).part) (sym is) ∙ e) in
        let one : i ≡ 1 = first_saved rule.right i part_is in
        let index : w.index ≡ 0 = (let g = w.is in omega (arith, one, g)) in
        let tok_is : w.leaf.tok ≡ tok.Save = same_tok w.leaf.tok (sym w.found.there ∙ ap (slice_get rule.right) index ∙ saved_first i e) in
        let named : NamedBy of q d first f fs t s m0 tok.Save (att.Slot k) =
        subst (λ x. NamedBy of q d first f fs t s m0 x (att.Slot k)) tok_is (subst (NamedBy of q d first f fs t s m0 w.leaf.tok) w.att_is w.found.named.0) in
        subst (λ a. Act a (Saves k)) (sym h) (att_later m' es' i (att.Slot k) later.carried w, named.0)
      where
        same_tok : (x : Tok) → Some (grammar_symbol.Tok x) ≡ Some (grammar_symbol.Tok tok.Save) → x ≡ tok.Save
        same_tok x e = cc

    jumps : (label : ℕ) → (effect_read d.classes rule).act ≡ Jump → att_in (sense_at vs 1) ≡ att.Label label → Act shown.found.act (Jumps label)
    jumps label e has =
        let h = jump_alike true View0 (λ i. is_some (View0.symbol i)) (λ i. refl) (facts_of d.classes rule) s.area frame.area shown.found.act (alike_to Jump e) in
        let w = att_at 1 (att.Label label) has (λ k. cc) in
        subst (λ a. Act a (Jumps label)) (sym h) (att_later m' es' 1 (att.Label label) later.carried w)

    act : Act shown.found.act deed
    act = acts (effect_read d.classes rule).act deed refl by.does
      where
        acts : (w : ActShape) (e : Deed) → (effect_read d.classes rule).act ≡ w → Does q.objects s (term_state View0) vs w e → Act shown.found.act e
        acts (Value u) (Puts g n) e h = absurd h
        acts (Value u) (Branches rel label x1 y1) e h = absurd h
        acts (Value u) (Pushes n) e h = absurd h
        acts (Value u) (Returns n) e h = absurd h
        acts (Value u) (Calls function count) e h = absurd h
        acts (Value u) (Saves k) e h = absurd h
        acts (Value u) (Jumps label) e h = absurd h
        acts (Value u) Traps e h = absurd h
        acts (Value u) Strays e h = absurd h
        acts (Number u) (Puts g n) e h = absurd h
        acts (Number u) (Branches rel label x1 y1) e h = absurd h
        acts (Number u) (Pushes n) e h = absurd h
        acts (Number u) (Returns n) e h = absurd h
        acts (Number u) (Calls function count) e h = absurd h
        acts (Number u) (Saves k) e h = absurd h
        acts (Number u) (Jumps label) e h = absurd h
        acts (Number u) Traps e h = absurd h
        acts (Number u) Strays e h = absurd h
        acts (Address u) (Puts g n) e h = absurd h
        acts (Address u) (Branches rel label x1 y1) e h = absurd h
        acts (Address u) (Pushes n) e h = absurd h
        acts (Address u) (Returns n) e h = absurd h
        acts (Address u) (Calls function count) e h = absurd h
        acts (Address u) (Saves k) e h = absurd h
        acts (Address u) (Jumps label) e h = absurd h
        acts (Address u) Traps e h = absurd h
        acts (Address u) Strays e h = absurd h
        acts (PlaceHome z j) (Puts g n) e h = absurd h
        acts (PlaceHome z j) (Branches rel label x1 y1) e h = absurd h
        acts (PlaceHome z j) (Pushes n) e h = absurd h
        acts (PlaceHome z j) (Returns n) e h = absurd h
        acts (PlaceHome z j) (Calls function count) e h = absurd h
        acts (PlaceHome z j) (Saves k) e h = absurd h
        acts (PlaceHome z j) (Jumps label) e h = absurd h
        acts (PlaceHome z j) Traps e h = absurd h
        acts (PlaceHome z j) Strays e h = absurd h
        acts (PlaceAt z b) (Puts g n) e h = absurd h
        acts (PlaceAt z b) (Branches rel label x1 y1) e h = absurd h
        acts (PlaceAt z b) (Pushes n) e h = absurd h
        acts (PlaceAt z b) (Returns n) e h = absurd h
        acts (PlaceAt z b) (Calls function count) e h = absurd h
        acts (PlaceAt z b) (Saves k) e h = absurd h
        acts (PlaceAt z b) (Jumps label) e h = absurd h
        acts (PlaceAt z b) Traps e h = absurd h
        acts (PlaceAt z b) Strays e h = absurd h
        acts (StoreHome z j u) (Puts g n) e h = stores_home z j u g n e h.0 h.1 h.2
        acts (StoreHome z j u) (Branches rel label x1 y1) e h = absurd h
        acts (StoreHome z j u) (Pushes n) e h = absurd h
        acts (StoreHome z j u) (Returns n) e h = absurd h
        acts (StoreHome z j u) (Calls function count) e h = absurd h
        acts (StoreHome z j u) (Saves k) e h = absurd h
        acts (StoreHome z j u) (Jumps label) e h = absurd h
        acts (StoreHome z j u) Traps e h = absurd h
        acts (StoreHome z j u) Strays e h = absurd h
        acts (StoreAt z b u) (Puts g n) e h = stores_at z b u g n e h.0 h.1
        acts (StoreAt z b u) (Branches rel label x1 y1) e h = absurd h
        acts (StoreAt z b u) (Pushes n) e h = absurd h
        acts (StoreAt z b u) (Returns n) e h = absurd h
        acts (StoreAt z b u) (Calls function count) e h = absurd h
        acts (StoreAt z b u) (Saves k) e h = absurd h
        acts (StoreAt z b u) (Jumps label) e h = absurd h
        acts (StoreAt z b u) Traps e h = absurd h
        acts (StoreAt z b u) Strays e h = absurd h
        acts (Branch i b u) (Puts g n) e h = absurd h
        acts (Branch i b u) (Branches rel label x1 y1) e h = branches i b u rel label x1 y1 e h.0 h.1 h.2
        acts (Branch i b u) (Pushes n) e h = absurd h
        acts (Branch i b u) (Returns n) e h = absurd h
        acts (Branch i b u) (Calls function count) e h = absurd h
        acts (Branch i b u) (Saves k) e h = absurd h
        acts (Branch i b u) (Jumps label) e h = absurd h
        acts (Branch i b u) Traps e h = absurd h
        acts (Branch i b u) Strays e h = absurd h
        acts (Push u) (Puts g n) e h = absurd h
        acts (Push u) (Branches rel label x1 y1) e h = absurd h
        acts (Push u) (Pushes n) e h = pushes u n e h
        acts (Push u) (Returns n) e h = absurd h
        acts (Push u) (Calls function count) e h = absurd h
        acts (Push u) (Saves k) e h = absurd h
        acts (Push u) (Jumps label) e h = absurd h
        acts (Push u) Traps e h = absurd h
        acts (Push u) Strays e h = absurd h
        acts Call (Puts g n) e h = absurd h
        acts Call (Branches rel label x1 y1) e h = absurd h
        acts Call (Pushes n) e h = absurd h
        acts Call (Returns n) e h = absurd h
        acts Call (Calls function count) e h = calls function count e h
        acts Call (Saves k) e h = absurd h
        acts Call (Jumps label) e h = absurd h
        acts Call Traps e h = absurd h
        acts Call Strays e h = absurd h
        acts (Save i) (Puts g n) e h = absurd h
        acts (Save i) (Branches rel label x1 y1) e h = absurd h
        acts (Save i) (Pushes n) e h = absurd h
        acts (Save i) (Returns n) e h = absurd h
        acts (Save i) (Calls function count) e h = absurd h
        acts (Save i) (Saves k) e h = saves i k e h
        acts (Save i) (Jumps label) e h = absurd h
        acts (Save i) Traps e h = absurd h
        acts (Save i) Strays e h = absurd h
        acts (Return u) (Puts g n) e h = absurd h
        acts (Return u) (Branches rel label x1 y1) e h = absurd h
        acts (Return u) (Pushes n) e h = absurd h
        acts (Return u) (Returns n) e h = returns u n e h
        acts (Return u) (Calls function count) e h = absurd h
        acts (Return u) (Saves k) e h = absurd h
        acts (Return u) (Jumps label) e h = absurd h
        acts (Return u) Traps e h = absurd h
        acts (Return u) Strays e h = absurd h
        acts Jump (Puts g n) e h = absurd h
        acts Jump (Branches rel label x1 y1) e h = absurd h
        acts Jump (Pushes n) e h = absurd h
        acts Jump (Returns n) e h = absurd h
        acts Jump (Calls function count) e h = absurd h
        acts Jump (Saves k) e h = absurd h
        acts Jump (Jumps label) e h = jumps label e h
        acts Jump Traps e h = absurd h
        acts Jump Strays e h = absurd h

    -- so the lines do its step
    pub lines_do : (res : Attr O) → IsResult of rule.give (attrs es') res → IsStep of q f fs t m' (of.run (lines_of of q rule (attrs es') res) m') (deed_step q t deed)
    lines_do res result =
        law.statements.does q f fs d.classes rule shown.found deed (attrs es') res View0 m' (record { instance_of = set.inst; result = result; divides = set.divides }) act

-- a step that code does from a state is one from the state before, if nothing but steps of its own came between
pub step_from : {O I S F : Type 0} (of : Meaning O I S F) (q : TreeProgram) (f : Extent) (fs : List Extent) (t : State) (m m' : S) (c c' : Course I S) (st : Step) → c ≡ c' → of.live m' ≡ of.live m
    → IsStep of q f fs t m' c st → IsStep of q f fs t m c' st
step_from of q f fs t m m' c c' (steps.Goes w) e live h = (h.0, sym e ∙ h.1, record { agrees = h.2.agrees; live = h.2.live ∙ live })
step_from of q f fs t m m' c c' (steps.Serves b w) e live h = (h.0, sym e ∙ h.1, record { agrees = h.2.agrees; live = h.2.live ∙ live }, h.3)
step_from of q f fs t m m' c c' (steps.GoesTo label w) e live h = (h.0, sym e ∙ h.1, record { agrees = h.2.agrees; live = h.2.live ∙ live })
step_from of q f fs t m m' c c' (steps.Enters g arguments w) e live h = (h.0, sym e ∙ h.1, record { agrees = h.2.agrees; live = h.2.live ∙ live }, h.3)
step_from of q f fs t m m' c c' (steps.GoesBack x w) e live h = (h.0, sym e ∙ h.1, record { agrees = h.2.agrees; live = h.2.live ∙ live }, h.3, h.4)
step_from of q f fs t m m' c c' (steps.Ends x) e live h = tt
