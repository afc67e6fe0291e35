-- What a shape gives, by the kind of its rule's class.
use Rattle.std.proofs.Common.{◌≡◌, ℕ, zero, suc, ◌-◌, ◌^◌, ◌%◌, ◌<◌, ◌==◌, List, [], ◌∷◌, Option, Some, None, Bool, true, false, cond, refl, sym, ap, ◌∙◌, subst}
use Rattle.std.proofs.Common.{arith, slice_get}
use Rattle.std.specs.Prelude.{◌||◌, slice_index_or, count_ones, unwrap_or}
use Rattle.std.proofs.lemmas.Option.{same_Some, none-some}
use Rattle.std.proofs.lemmas.Bool.{eqb-true}
use Rattle.gg_base.specs.declared.size.Size.{Size}
use Rattle.gg_base.specs.declared.size.Size.TheVariants.{Long}
use Rattle.tree_core.specs.declared.token.Tok.{Tok}
use Rattle.tree_core.specs.declared.token.Tok.TheVariants as tok
use Rattle.tree_core.specs.declared.tree.Att.{Att}
use Rattle.tree_core.specs.declared.tree.Att.TheVariants as att
use Rattle.tree_core.specs.declared.program.TreeProgram.{TreeProgram}
use Rattle.tree_core.specs.Attributes.{attribute_of, is_of_kind}
use Rattle.tree_core.specs.Valid.{IsValid}
use Rattle.tree_meaning.specs.State.{State, Extent}
use Rattle.tree_meaning.specs.declared.value.Meaning.{Meaning as Place}
use Rattle.tree_meaning.specs.declared.value.Meaning.TheVariants as meaning
use Rattle.tree_meaning.specs.Values.{Sight, read}
use Rattle.md_reader_pieces.specs.declared.piece.Line.{Line}
use Rattle.md_reader_pieces.specs.declared.piece.Piece.{Piece}
use Rattle.md_reader_pieces.specs.declared.piece.Piece.TheVariants as piece
use Rattle.md_reader.specs.declared.types.Kind.{Kind}
use Rattle.md_reader.specs.declared.types.Kind.TheVariants as kind
use Rattle.md_reader.specs.declared.types.Class.{Class}
use Rattle.md_reader.specs.declared.types.Give.TheVariants as give
use Rattle.md_reader.specs.declared.types.Rule.{Rule}
use Rattle.md_reader.specs.declared.types.Sym.{Sym}
use Rattle.md_reader.specs.declared.types.Sym.TheVariants as grammar_symbol
use Rattle.md_reader.specs.Patterns.{kind_at}
use Rattle.md_reader.specs.Restrictions.{is_reg, is_con, kind_of_symbol, symbol_at}
use Rattle.md_reader.specs.Rows.{is_constant, only_symbol, shape_fits}
use Rattle.md_reader.specs.State.{Content}
use Rattle.md_reader.specs.Valid.{IsRule}
use Rattle.term_core.specs.Shape.{Shape, Symbol}
use Rattle.term_core.proofs.Values.{low_same}
use Rattle.sel_target.specs.sel_terms.specs.Effects.{ActShape, Value, Number, Address, PlaceHome, PlaceAt, StoreHome, StoreAt, Branch, Push, Call, Save, Return, Jump}
use Rattle.sel_target.specs.sel_terms.specs.Reading.{effect_read, stack_from}
use Rattle.sel_target.specs.sel_terms.specs.Wanted.{whole, first_part}
use Rattle.sel_target.specs.sel_terms.specs.RuleFacts.{facts_of}
use Rattle.sel_target.specs.sel_terms.proofs.Facts.{same_Value}
use Rattle.sel_target.specs.sel_terms_meaning.specs.Alike.{ActsAlike}
use Rattle.sel_parse_moves.specs.sel_terms_trees.specs.Senses.{Sense, OfNumber, OfPlace, IsPlace, unknown, means_at}
use Rattle.sel_parse_moves.specs.sel_terms_trees.specs.Effects.{Gives, GivesBy}
use Rattle.sel_target.specs.declared.attr.Attr.{Attr}
use Rattle.sel_target.specs.declared.attr.Attr.TheVariants as attr
use Rattle.sel_target.specs.Meaning.{Meaning}
use Rattle.sel_target.specs.Values.{term_state, value, worth}
use Rattle.sel_target.specs.Laws.{IsLawful}
use Rattle.sel_target.specs.Instances.{hole}
use Rattle.sel_target.specs.Symbols.{first_hole}
use Rattle.sel_parse_moves.specs.lr_check_parse.specs.Attributes.{all_hold}
use Rattle.sel_parse.specs.Shown.{IsShown}
use Rattle.sel_parse_stands.specs.sel_parse_selected.specs.Entries.{Entry, attrs}
use Rattle.sel_parse_stands.specs.sel_parse_selected.specs.Reductions.{own_register, own_number}
use Rattle.sel_parse_stands.specs.sel_parse_selected.specs.Selected.{selecting}
use Rattle.sel_parse_stands.specs.Stands as stands
use Rattle.sel_parse_stands.specs.Stands.{NamedBy, ClassIs, SymbolIs, Sees, IsFrame, Holds}
use Rattle.sel_parse_stands.proofs.Loaded.{IsLoaded, AllLoaded}
use Rattle.sel_parse_stands.proofs.Carrying.{place_kept}
use Rattle.sel_parse_stands.proofs.Instances.{Hold, known, spelled_now}
use Rattle.sel_parse_effect.proofs.Effects.{home_alike, value_alike, number_alike}
use Rattle.sel_parse_effect.proofs.Giving as giving
use Rattle.sel_parse_effect.proofs.Giving.{V, Later, Shaped}
use Rattle.sel_parse_effect.proofs.Homes.{home_found, home_later}
use Rattle.sel_parse_effect.proofs.Reducing.{reg_is}

-- a place has one size
one_size : (z y : Size) (g : Place) → IsPlace z g → IsPlace y g → z ≡ y
one_size z y (meaning.Of v) h k = absurd h
one_size z y (meaning.Local n) h k = h ∙ sym k
one_size z y (meaning.Argument n) h k = h ∙ sym k
one_size z y (meaning.Memory w a) h k = h ∙ sym k

-- ---- a shape of one hole

pub record OneHole (right : List Sym) (ps : List Piece) (s : Option Sym) : Type 0 where
  pub index : ℕ
  pub is : ps ≡ piece.Hole (suc index) ∷ []
  pub there : slice_get right index ≡ s

at_suc : (right : List Sym) (j : ℕ) → symbol_at right (suc j) ≡ slice_get right j
at_suc right j = by (suc j == 0) refl
  where
    by : (b : Bool) → (suc j == 0) ≡ b → symbol_at right (suc j) ≡ slice_get right j
    by true e = absurd (let h = eqb-true (suc j) 0 e in omega (arith, h))
    by false e = ap (λ b. cond b None (slice_get right (suc j - 1))) e ∙ ap (slice_get right) (let back : suc j - 1 ≡ j = omega arith in back)

pub one_hole : (right : List Sym) (ps : List Piece) (x : Sym) → only_symbol right ps ≡ Some x → OneHole right ps (Some x)
one_hole right [] x e = absurd (none-some x e)
one_hole right (piece.Hole zero ∷ []) x e = absurd (none-some x e)
one_hole right (piece.Hole (suc j) ∷ []) x e = record { index = j; is = refl; there = sym (at_suc right j) ∙ e }
one_hole right (piece.Hole i ∷ p ∷ ps) x e = absurd (none-some x e)
one_hole right (piece.Bytes w ∷ ps) x e = absurd (none-some x e)
one_hole right (piece.Label ∷ ps) x e = absurd (none-some x e)
one_hole right (piece.Callee ∷ ps) x e = absurd (none-some x e)
one_hole right (piece.Count ∷ ps) x e = absurd (none-some x e)

pub reg_symbol : (classes : List Class) (o : Option Sym) → is_reg (kind_of_symbol classes o) ≡ true → (c : ℕ) × (o ≡ Some (grammar_symbol.Class c)) × (kind_at classes c ≡ Some kind.Reg)
reg_symbol classes None e = absurd (cc)
reg_symbol classes (Some (grammar_symbol.Tok x)) e = absurd (cc)
reg_symbol classes (Some (grammar_symbol.Class c)) e = (c, refl, reg_is (kind_at classes c) e)

pub data IsNumeric (classes : List Class) : (x : Sym) → Type 0 where
  constant : (x : Tok) → is_constant (Some (grammar_symbol.Tok x)) ≡ true → IsNumeric classes (grammar_symbol.Tok x)
  class : (c : ℕ) → kind_at classes c ≡ Some kind.Con → IsNumeric classes (grammar_symbol.Class c)

pub con_symbol : (classes : List Class) (o : Option Sym) → (is_con (kind_of_symbol classes o) || is_constant o) ≡ true → (x : Sym) × (o ≡ Some x) × IsNumeric classes x
con_symbol classes None e = absurd (cc)
con_symbol classes (Some (grammar_symbol.Tok x)) e = (grammar_symbol.Tok x, refl, constant x e)
con_symbol classes (Some (grammar_symbol.Class c)) e = (grammar_symbol.Class c, refl, class c (is_kind (kind_at classes c) e))
  where
    is_kind : (k : Option Kind) → (is_con k || false) ≡ true → k ≡ Some kind.Con
    is_kind None e = absurd (cc)
    is_kind (Some kind.Reg) e = absurd (cc)
    is_kind (Some (kind.Value z)) e = absurd (cc)
    is_kind (Some (kind.Place z)) e = absurd (cc)
    is_kind (Some kind.Con) e = refl
    is_kind (Some kind.Ea) e = absurd (cc)
    is_kind (Some kind.Nothing) e = absurd (cc)

pub const_number : (x : Tok) (a : Att) → is_constant (Some (grammar_symbol.Tok x)) ≡ true → is_of_kind (attribute_of x) a ≡ true → (n : ℕ) × (a ≡ att.Number n)
const_number tok.Zero (att.Number n) c e = (n, refl)
const_number tok.One (att.Number n) c e = (n, refl)
const_number tok.Two (att.Number n) c e = (n, refl)
const_number tok.Four (att.Number n) c e = (n, refl)
const_number tok.Eight (att.Number n) c e = (n, refl)
const_number tok.Const (att.Number n) c e = (n, refl)
const_number _ _ c e = absurd (cc)

number_term : (t u : Shape) → Number t ≡ Number u → t ≡ u
number_term t u e = cc

module _ {O I S F : Type 0} (of : Meaning O I S F) (law : IsLawful of) (q : TreeProgram) (valid : IsValid q) (d : Content) (first : ℕ) (f : Extent) (fs : List Extent) (t : State) (s : Sight)
    (m0 : S) (frame : IsFrame of q d first f fs t s m0)
    (m : S) (sees : Sees of q d first f fs t s m0 m) (rule : Rule) (is_rule : IsRule d.classes rule) (shown : IsShown of.effect (count_ones d.pool) d.classes rule)
    (es : List (Entry O)) (vs : List Sense) (holds : Hold of law q d first f fs t s m0 frame m sees es rule.right vs) (hold : all_hold (selecting of q d first) es rule.restrictions ≡ true)
    (m' : S) (es' : List (Entry O)) (later : Later of law q valid d first f fs t s m0 frame m sees rule is_rule shown es vs holds hold m' es') (v : Sense)
    (by : GivesBy q.objects s vs (effect_read d.classes rule) v (term_state (V of law q valid d first f fs t s m0 frame m sees rule is_rule shown es vs holds hold)))
    (l : Line) (mode : rule.give ≡ give.Shape l) (can : of.can_write q) where
  abbrev View0 : Rattle.sel_target.specs.Values.View
  View0 = V of law q valid d first f fs t s m0 frame m sees rule is_rule shown es vs holds hold

  abbrev Result : Kind → Attr O → Type 0
  Result k a = Shaped of law q valid d first f fs t s m0 frame m sees rule is_rule shown es vs holds hold m' es' later v by k a

  quiet_end : (n : S) × (of.run (Rattle.sel_target.specs.Instances.lines_of of q rule (attrs es') attr.Nothing) m' ≡ Rattle.sel_target.specs.Courses.comes n)
      × Rattle.sel_target.specs.Outcomes.Keeps of [] m' n
  quiet_end = giving.quiet of law q valid d first f fs t s m0 frame m sees rule is_rule shown es vs holds hold m' es' later v by l mode

  -- a symbol's own place keeps its operand
  home_shaped : (z : Size) (j : ℕ) (g : Place) → kind_at d.classes rule.left ≡ Some (kind.Place z) → (effect_read d.classes rule).act ≡ PlaceHome z j → v ≡ OfPlace g
      → means_at q.objects s vs j ≡ g → IsPlace z g → Result (kind.Place z) (attr.Place (of.operand q l (attrs es')))
  home_shaped z j g is act_is sense stood fits =
      let al = giving.alike of law q valid d first f fs t s m0 frame m sees rule is_rule shown es vs holds hold in
      let h = home_alike true View0 (λ i. Rattle.std.specs.Prelude.is_some (View0.symbol i)) (λ i. refl) (facts_of d.classes rule) s.area frame.area shown.found.act z j
      (subst (ActsAlike (facts_of d.classes rule) (λ i. Rattle.std.specs.Prelude.is_some (View0.symbol i)) s.area (term_state View0) shown.found.act) act_is al.act) in
      let found = home_found of law q d first f t s m0 fs frame m rule es vs h.symbol j z g holds hold h.alike stood fits in
      let there = home_later of law q d first f t s m0 fs frame m m' rule.right es es' vs h.symbol z g holds later.carried found in
      let inst = (giving.given of law q valid d first f fs t s m0 frame m sees rule is_rule shown es vs holds hold m' es' later v by).inst in
      let own = law.shapes.home_shape q d.classes rule shown.found z h.symbol l (attrs es') there.attribute shown.found_is mode h.is inst.holes_fit there.at in
      let place = there.place (of.operand q l (attrs es')) own in
      record {
        state = quiet_end.0;
        ran = quiet_end.1;
        is = subst (λ w. ClassIs of q d first f fs t s m0 quiet_end.0 (Some (kind.Place z)) (attr.Place (of.operand q l (attrs es'))) w) (sym sense)
            (stands.place z (of.operand q l (attrs es')) g (law.spells.shape_fits q d.classes rule shown.found (kind.Place z) l (attrs es') can is_rule shown.found_is mode is inst.holes_fit
            inst.restricted
            (spelled_now of law q d first f fs t s m0 frame m sees m' later.seen es' rule.right vs later.now))
            (place_kept of q d f t [] m' quiet_end.0 z (of.operand q l (attrs es')) g quiet_end.2 tt place));
        keeps = quiet_end.2;
      }

  pub place_given : (z : Size) (g : Place) → kind_at d.classes rule.left ≡ Some (kind.Place z) → v ≡ OfPlace g → IsPlace z g → Result (kind.Place z) (attr.Place (of.operand q l (attrs es')))
  place_given z g is sense fits = go (effect_read d.classes rule).act refl (subst (Gives q.objects s (term_state View0) vs (effect_read d.classes rule).act) sense by.gives)
    where
      go : (a : ActShape) → (effect_read d.classes rule).act ≡ a → Gives q.objects s (term_state View0) vs a (OfPlace g) → Result (kind.Place z) (attr.Place (of.operand q l (attrs es')))
      go (Value u) e h = absurd h
      go (Number u) e h = absurd h
      go (Address u) e h = absurd h
      go (PlaceHome y j) e h =
          let same : y ≡ z = one_size y z g h.1 fits in
          home_shaped z j g is (e ∙ ap (λ w. PlaceHome w j) same) sense h.0 fits
      go (PlaceAt y u) e h =
          let same : z ≡ y = subst (IsPlace z) h fits in
          giving.place_shaped of law q valid d first f fs t s m0 frame m sees rule is_rule shown es vs holds hold m' es' later v by l z u g can mode is (e ∙ ap (λ w. PlaceAt w u) (sym same)) sense
          (h ∙ ap (λ w. meaning.Memory w (value View0 u)) (sym same))
      go (StoreHome y j u) e h = absurd h
      go (StoreAt y u w) e h = absurd h
      go (Branch i u w) e h = absurd h
      go (Push u) e h = absurd h
      go Call e h = absurd h
      go (Save i) e h = absurd h
      go (Return u) e h = absurd h
      go Jump e h = absurd h

  -- ---- a symbol's own register, or number

  pub record At (j : ℕ) (x : Sym) : Type 0 where
    pub entry : Entry O
    pub at : slice_get (attrs es') j ≡ Some entry.attr
    pub sense : Sense
    pub sensed : slice_index_or vs j unknown ≡ sense
    pub is : SymbolIs of q d first f fs t s m0 m' x entry.kind entry.attr sense
    pub loaded : IsLoaded entry.attr

  at_right : (bs : List (Entry O)) (right : List Sym) (ws : List Sense) (j : ℕ) (x : Sym) → Holds of q d first f fs t s m0 m' bs right ws → AllLoaded bs → slice_get right j ≡ Some x
      → (e : Entry O) × (slice_get (attrs bs) j ≡ Some e.attr) × (u : Sense) × (slice_index_or ws j unknown ≡ u) × SymbolIs of q d first f fs t s m0 m' x e.kind e.attr u × IsLoaded e.attr
  at_right [] [] ws j x h k e = absurd (none-some x e)
  at_right [] (y ∷ ys) ws j x h k e = absurd h
  at_right (b ∷ bs) [] [] j x h k e = absurd h
  at_right (b ∷ bs) [] (w ∷ ws) j x h k e = absurd h
  at_right (b ∷ bs) (y ∷ ys) [] j x h k e = absurd h
  at_right (b ∷ bs) (y ∷ ys) (w ∷ ws) zero x h k e =
      (b, refl, w, refl, subst (λ z. SymbolIs of q d first f fs t s m0 m' z b.kind b.attr w) (same_Some y x e) h.0, k.0)
  at_right (b ∷ bs) (y ∷ ys) (w ∷ ws) (suc j) x h k e = at_right bs ys ws j x h.1 k.1 e

  found_at : (j : ℕ) (x : Sym) → slice_get rule.right j ≡ Some x → At j x
  found_at j x e =
      let r = at_right es' rule.right vs j x later.now later.loaded e in
      record { entry = r.0; at = r.1; sense = r.2; sensed = r.3; is = r.4; loaded = r.5 }

  register_class : (k : Option Kind) (a : Attr O) (u : Sense) → ClassIs of q d first f fs t s m0 m' k a u → k ≡ Some kind.Reg → IsLoaded a
      → (r : ℕ) × (n : ℕ) × (a ≡ attr.Reg r) × (u ≡ OfNumber n) × (r < 12) × (of.reads (of.register r) Long m' ≡ Some n)
  register_class k a u (stands.register r n lt is) e h = (r, n, refl, refl, lt, is)
  register_class k a u (stands.in_slot w n le lt is) e h = absurd h
  register_class k a u _ e h = absurd (cc)

  register_symbol : (c : ℕ) (k : Option Kind) (a : Attr O) (u : Sense) (x : Sym) → x ≡ grammar_symbol.Class c → kind_at d.classes c ≡ Some kind.Reg → SymbolIs of q d first f fs t s m0 m' x k a u
      → IsLoaded a
      → (r : ℕ) × (n : ℕ) × (a ≡ attr.Reg r) × (u ≡ OfNumber n) × (r < 12) × (of.reads (of.register r) Long m' ≡ Some n)
  register_symbol c k a u x e g (stands.token w fit named) h = absurd (cc)
  register_symbol c k a u x e g (stands.class c' a' u' is) h =
      register_class (kind_at d.classes c') a u is (ap (kind_at d.classes) (let same : c' ≡ c = cc in same) ∙ g) h

  -- what symbol j's number is in the view
  seen_as : (j n : ℕ) (u : Sense) → slice_index_or vs j unknown ≡ u → u ≡ OfNumber n → View0.symbol (suc j) ≡ Some n
  seen_as j n u e g =
      known of law q d first f fs t s m0 frame m sees es rule.right vs (suc j) n holds
      (ap (λ w. read s (Rattle.sel_parse_moves.specs.sel_terms_trees.specs.Senses.means q.objects s w)) (e ∙ g))

  pub register_given : kind_at d.classes rule.left ≡ Some kind.Reg → shape_fits d.classes rule.right (Some kind.Reg) l.pieces ≡ true
      → Result kind.Reg (own_register of q d first (hole (attrs es') (first_hole l.pieces)))
  register_given is fits =
      let sy = reg_symbol d.classes (only_symbol rule.right l.pieces) fits in
      let one = one_hole rule.right l.pieces (grammar_symbol.Class sy.0) sy.1 in
      let w = found_at one.index (grammar_symbol.Class sy.0) one.there in
      let r = register_symbol sy.0 w.entry.kind w.entry.attr w.sense (grammar_symbol.Class sy.0) refl sy.2 w.is w.loaded in
      done one.index r.0 r.1 one.is (w.at ∙ ap Some r.2) (seen_as one.index r.1 w.sense w.sensed r.3) r.4 r.5
    where
      done : (j r n : ℕ) → l.pieces ≡ piece.Hole (suc j) ∷ [] → slice_get (attrs es') j ≡ Some (attr.Reg r) → View0.symbol (suc j) ≡ Some n → r < 12 → of.reads (of.register r) Long m' ≡ Some n
          → Result kind.Reg (own_register of q d first (hole (attrs es') (first_hole l.pieces)))
      done j r n pieces at symbol_is lt reads =
          let act_is : (effect_read d.classes rule).act ≡ Value (giving.wanted_term of law q valid d first f fs t s m0 frame rule) = ap
          (λ k. whole k (first_part (stack_from d.classes 1 rule.right)).part) is in
          let al = giving.alike of law q valid d first f fs t s m0 frame m sees rule is_rule shown es vs holds hold in
          let val = value_alike true View0 (λ i. Rattle.std.specs.Prelude.is_some (View0.symbol i)) (λ i. refl) (facts_of d.classes rule) s.area frame.area shown.found.act
          (giving.wanted_term of law q valid d first f fs t s m0 frame rule)
          (subst (ActsAlike (facts_of d.classes rule) (λ i. Rattle.std.specs.Prelude.is_some (View0.symbol i)) s.area (term_state View0) shown.found.act) act_is al.act) in
          let term_is : val.term ≡ Symbol (suc j) = same_Value val.term (Symbol (suc j))
          (sym val.is ∙ law.shapes.register_shape d.classes rule shown.found (suc j) l shown.found_is mode is pieces) in
          let small = law.reads.reads_small q f fs t (of.register r) Long n m' later.seen.agrees reads in
          let number : value View0 (giving.wanted_term of law q valid d first f fs t s m0 frame rule) ≡ n =
          sym val.alike.worth ∙ ap (value View0) term_is ∙ ap (λ o. unwrap_or o 0 % 2 ^ 32) symbol_is ∙ low_same n small in
          let sense : v ≡ OfNumber n =
          giving.gives_number of law q valid d first f fs t s m0 frame (term_state View0) vs (giving.wanted_term of law q valid d first f fs t s m0 frame rule) v
          (subst (λ a. Gives q.objects s (term_state View0) vs a v) act_is by.gives) ∙ ap OfNumber number in
          let result : own_register of q d first (hole (attrs es') (first_hole l.pieces)) ≡ attr.Reg r =
          ap (λ p. own_register of q d first (hole (attrs es') (first_hole p))) pieces ∙ ap (own_register of q d first) at in
          record {
            state = quiet_end.0;
            ran = quiet_end.1;
            is = subst (λ a. ClassIs of q d first f fs t s m0 quiet_end.0 (Some kind.Reg) a v) (sym result)
                (subst (λ w. ClassIs of q d first f fs t s m0 quiet_end.0 (Some kind.Reg) (attr.Reg r) w) (sym sense)
                (stands.register r n lt (quiet_end.2.reads (of.register r) Long n tt reads)));
            keeps = quiet_end.2;
          }

  number_class : (k : Option Kind) (a : Attr O) (u : Sense) → ClassIs of q d first f fs t s m0 m' k a u → k ≡ Some kind.Con → (n : ℕ) × (a ≡ attr.Con n) × (n < 2 ^ 32)
  number_class k a u (stands.number n lt) e = (n, refl, lt)
  number_class k a u _ e = absurd (cc)

  -- an attribute that is a constant's: its number
  pub record IsConstant (a : Attr O) : Type 0 where
    pub number : ℕ
    pub small : number < 2 ^ 32
    pub own_is : own_number of q d first (Some a) ≡ attr.Con number
    pub worth_is : worth of q Long a m' ≡ Some number

  named_small : (x : Tok) (n : ℕ) → NamedBy of q d first f fs t s m0 x (att.Number n) → is_constant (Some (grammar_symbol.Tok x)) ≡ true → n < 2 ^ 32
  named_small tok.Zero n h e = h
  named_small tok.One n h e = h
  named_small tok.Two n h e = h
  named_small tok.Four n h e = h
  named_small tok.Eight n h e = h
  named_small tok.Const n h e = h
  named_small _ n h e = absurd (cc)

  constant_token : (x : Tok) (a : Att) → NamedBy of q d first f fs t s m0 x a → is_constant (Some (grammar_symbol.Tok x)) ≡ true → is_of_kind (attribute_of x) a ≡ true
      → IsConstant (attr.Token (record { tok = x; att = a }))
  constant_token x a named c fit =
      let r = const_number x a c fit in
      subst (λ b. IsConstant (attr.Token (record { tok = x; att = b }))) (sym r.1)
      (record { number = r.0; small = named_small x r.0 (subst (NamedBy of q d first f fs t s m0 x) r.1 named) c; own_is = refl; worth_is = refl })

  constant_symbol : (x : Sym) (k : Option Kind) (a : Attr O) (u : Sense) (y : Sym) → IsNumeric d.classes y → x ≡ y → SymbolIs of q d first f fs t s m0 m' x k a u → IsConstant a
  constant_symbol x k a u y (constant w c) e (stands.token b fit named) =
      let same : b.tok ≡ w = cc in
      constant_token b.tok b.att named.0 (subst (λ z. is_constant (Some (grammar_symbol.Tok z)) ≡ true) (sym same) c) fit
  constant_symbol x k a u y (class c g) e (stands.token b fit named) = absurd (cc)
  constant_symbol x k a u y (constant w c) e (stands.class c' a' u' is) = absurd (cc)
  constant_symbol x k a u y (class c g) e (stands.class c' a' u' is) =
      let r = number_class (kind_at d.classes c') a u is (ap (kind_at d.classes) (let same : c' ≡ c = cc in same) ∙ g) in
      subst IsConstant (sym r.1) (record { number = r.0; small = r.2; own_is = refl; worth_is = refl })

  pub number_given : kind_at d.classes rule.left ≡ Some kind.Con → shape_fits d.classes rule.right (Some kind.Con) l.pieces ≡ true
      → Result kind.Con (own_number of q d first (hole (attrs es') (first_hole l.pieces)))
  number_given is fits =
      let sy = con_symbol d.classes (only_symbol rule.right l.pieces) fits in
      let one = one_hole rule.right l.pieces sy.0 sy.1 in
      let w = found_at one.index sy.0 one.there in
      let k = constant_symbol sy.0 w.entry.kind w.entry.attr w.sense sy.0 sy.2 refl w.is in
      done one.index one.is w.entry.attr w.at k
    where
      done : (j : ℕ) → l.pieces ≡ piece.Hole (suc j) ∷ [] → (a : Attr O) → slice_get (attrs es') j ≡ Some a → IsConstant a
          → Result kind.Con (own_number of q d first (hole (attrs es') (first_hole l.pieces)))
      done j pieces a at k =
          let act_is : (effect_read d.classes rule).act ≡ Number (giving.wanted_term of law q valid d first f fs t s m0 frame rule) = ap
          (λ k. whole k (first_part (stack_from d.classes 1 rule.right)).part) is in
          let al = giving.alike of law q valid d first f fs t s m0 frame m sees rule is_rule shown es vs holds hold in
          let val = number_alike true View0 (λ i. Rattle.std.specs.Prelude.is_some (View0.symbol i)) (λ i. refl) (facts_of d.classes rule) s.area frame.area shown.found.act
          (giving.wanted_term of law q valid d first f fs t s m0 frame rule)
          (subst (ActsAlike (facts_of d.classes rule) (λ i. Rattle.std.specs.Prelude.is_some (View0.symbol i)) s.area (term_state View0) shown.found.act) act_is al.act) in
          let inst = (giving.given of law q valid d first f fs t s m0 frame m sees rule is_rule shown es vs holds hold m' es' later v by).inst in
          let own = law.shapes.number_shape q f fs d.classes rule shown.found (suc j) k.number l (attrs es') a View0 m' inst mode is pieces at k.worth_is in
          let term_is : val.term ≡ own.0 = number_term val.term own.0 (sym val.is ∙ own.1) in
          let number : value View0 (giving.wanted_term of law q valid d first f fs t s m0 frame rule) ≡ k.number = sym val.alike.worth ∙ ap (value View0) term_is ∙ own.2 in
          let sense : v ≡ OfNumber k.number =
          giving.gives_constant of law q valid d first f fs t s m0 frame (term_state View0) vs (giving.wanted_term of law q valid d first f fs t s m0 frame rule) v
          (subst (λ w. Gives q.objects s (term_state View0) vs w v) act_is by.gives) ∙ ap OfNumber number in
          let result : own_number of q d first (hole (attrs es') (first_hole l.pieces)) ≡ attr.Con k.number =
          ap (λ p. own_number of q d first (hole (attrs es') (first_hole p))) pieces ∙ ap (own_number of q d first) at ∙ k.own_is in
          record {
            state = quiet_end.0;
            ran = quiet_end.1;
            is = subst (λ w. ClassIs of q d first f fs t s m0 quiet_end.0 (Some kind.Con) w v) (sym result)
                (subst (λ w. ClassIs of q d first f fs t s m0 quiet_end.0 (Some kind.Con) (attr.Con k.number) w) (sym sense) (stands.number k.number k.small));
            keeps = quiet_end.2;
          }
