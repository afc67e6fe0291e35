-- The toy machine's shapes stand for what their rules give.
use Rattle.std.proofs.Common.{◌≡◌, ℕ, zero, suc, ◌*◌, ◌^◌, ◌<◌, List, [], ◌∷◌, map, Option, Some, None, Bool, true, false, refl, sym, ap, ◌∙◌, subst, slice_get}
use Rattle.std.specs.Prelude.{IsSome, is_some, Ok}
use Rattle.std.proofs.lemmas.Bool.{and_parts, false≢true}
use Rattle.std.proofs.lemmas.Option.{none-some, same_Some}
use Rattle.gg_base.specs.declared.size.Size.{Size}
use Rattle.gg_base.specs.declared.size.Size.TheVariants.{Long}
use Rattle.gg_base.specs.Sizes.{bytes_of}
use Rattle.gg_base.proofs.Facts.{the_number}
use Rattle.tree_core.specs.declared.token.Tok.{Tok}
use Rattle.tree_core.specs.declared.token.Tok.TheVariants as tok
use Rattle.tree_core.specs.declared.tree.Att.{Att}
use Rattle.tree_core.specs.declared.tree.Att.TheVariants as att
use Rattle.tree_core.specs.declared.program.TreeProgram.{TreeProgram}
use Rattle.tree_core.specs.Area.{fetched}
use Rattle.tree_core.specs.Attributes.{attribute_of, is_of_kind}
use Rattle.sel_target.specs.tree_meaning.specs.State.{Extent}
use Rattle.md_reader_pieces.specs.declared.piece.Line.{Line}
use Rattle.md_reader.specs.declared.types.Kind.{Kind}
use Rattle.md_reader.specs.declared.types.Kind.TheVariants as kind
use Rattle.md_reader.specs.declared.types.Class.{Class}
use Rattle.md_reader.specs.declared.types.Sym.{Sym}
use Rattle.md_reader.specs.declared.types.Sym.TheVariants as grammar_symbol
use Rattle.md_reader.specs.declared.types.Give.TheVariants as give
use Rattle.md_reader.specs.declared.types.Rule.{Rule}
use Rattle.md_reader.specs.Patterns.{kind_at}
use Rattle.md_reader.specs.Restrictions.{is_reg}
use Rattle.term_core.specs.Shape.{Shape, Symbol, Memory, Binary}
use Rattle.term_core.specs.declared.operator.BinaryOp.TheVariants as binary_op
use Rattle.sel_target.specs.sel_terms.specs.Effects.{ActShape, EffectShape, Value, Number, Address, PlaceHome, PlaceAt, StoreHome, StoreAt, Branch, Push, Call, Save, Return, Jump}
use Rattle.sel_target.specs.sel_terms.specs.RuleFacts.{size_of_some, size_at}
use Rattle.sel_target.specs.sel_terms.proofs.Facts.{same_Value, size_behind}
use Rattle.sel_target.specs.declared.attr.Attr.{Attr}
use Rattle.sel_target.specs.declared.attr.Attr.TheVariants as attr
use Rattle.sel_target.specs.Values.{View, value, worth, own_operand}
use Rattle.sel_target.specs.Instances.{hole, KindFits, SymFits, Fit, Instance}
use Rattle.sel_target.specs.TemplateLaws.{GivesShapes}
use Rattle.sel_toy_machine.specs.declared.operand.Operand.{Operand}
use Rattle.sel_toy_machine.specs.declared.operand.Operand.TheVariants as operand
use Rattle.sel_toy_machine.specs.declared.form.Form.{Form}
use Rattle.sel_toy_machine.specs.declared.form.Form.TheVariants as form
use Rattle.sel_toy_machine.specs.declared.form.ShapeForm.{ShapeForm}
use Rattle.sel_toy_machine.specs.declared.form.ShapeForm.TheVariants as shape_form
use Rattle.sel_toy_machine.specs.Machine.{Machine, in_register, long, reads, names, fits, is_place}
use Rattle.sel_toy_machine.specs.Forms.{shape_of, is_sized}
use Rattle.sel_toy_machine.specs.Templates.{undivided, gives_register, gives_nothing, found_form, found_shape, is_place_of, is_slot, holds_register, is_home}
use Rattle.sel_toy_machine.specs.Filling.{some_operand, based, shaped, operand_filled}
use Rattle.sel_toy_machine.specs.Running.{run}
use Rattle.sel_toy_machine.proofs.Spelled.{own_is}
use Rattle.sel_target.proofs.AreaBytes.{fetched_is}
use Rattle.sel_toy_machine.proofs.Sources.{symbol_value, filled_at, numbered}
use Rattle.sel_toy_machine.proofs.Kept.{unchanged}
use Rattle.sel_toy_machine.proofs.Taken.{Taken, by_line, by_shape, where_is, taken_by, shape_gives_none, shape_gives_register}
use Rattle.sel_toy_machine.specs.Toy.{toy}

-- what a rule with a shape looks like
pub record TakenShape (classes : List Class) (rule : Rule) (e : EffectShape) (l : Line) : Type 0 where
  pub lines : rule.lines ≡ []
  pub found : found_shape classes rule.right (kind_at classes rule.left) (shape_of l.pieces) ≡ Some e

shape_same : (a b : Line) → give.Shape a ≡ give.Shape b → a ≡ b
shape_same a b e = cc

form_gives : (classes : List Class) (rule : Rule) (g : Form) (e : EffectShape) (l : Line) → found_form classes rule g ≡ Some e → rule.give ≡ give.Shape l → ⊥
form_gives classes rule (form.Move size i) e l h is = shape_gives_none rule.give l is (and_parts (gives_register rule.give) _ (where_is _ (undivided (Value (Symbol i))) e h).0).0
form_gives classes rule (form.Address i) e l h is = none-some e h
form_gives classes rule (form.Add i j) e l h is =
    shape_gives_none rule.give l is (and_parts (gives_register rule.give) _ (where_is _ (undivided (Value (Binary binary_op.Add (Symbol i) (Symbol j)))) e h).0).0
form_gives classes rule (form.Divide i j) e l h is =
    shape_gives_none rule.give l is (and_parts (gives_register rule.give) _ (where_is _ (record { act = Value (Binary binary_op.Div (Symbol i) (Symbol j)); divisors = Symbol j ∷ [] }) e h).0).0
form_gives classes rule (form.Store size i j) e l h is = shape_gives_register rule.give l is (and_parts (gives_nothing rule.give) _ (where_is _ (undivided (StoreHome size i (Symbol j))) e h).0).0
form_gives classes rule (form.StoreAt size i j) e l h is =
    shape_gives_register rule.give l is (and_parts (gives_nothing rule.give) _ (where_is _ (undivided (StoreAt size (Symbol i) (Symbol j))) e h).0).0
form_gives classes rule (form.Push i) e l h is = shape_gives_register rule.give l is (and_parts (gives_nothing rule.give) _ (where_is _ (undivided (Push (Symbol i))) e h).0).0
form_gives classes rule (form.Branch i j k) e l h is =
    shape_gives_register rule.give l is (and_parts (gives_nothing rule.give) _ (where_is _ (undivided (Branch i (Symbol j) (Symbol k))) e h).0).0
form_gives classes rule (form.Jump i) e l h is = shape_gives_register rule.give l is (and_parts (gives_nothing rule.give) _ (where_is _ (undivided Jump) e h).0).0
form_gives classes rule (form.Call i) e l h is = shape_gives_register rule.give l is (and_parts (gives_nothing rule.give) _ (where_is _ (undivided Call) e h).0).0
form_gives classes rule (form.Return i) e l h is = shape_gives_register rule.give l is (and_parts (gives_nothing rule.give) _ (where_is _ (undivided (Return (Symbol i))) e h).0).0
form_gives classes rule (form.Save i) e l h is = shape_gives_register rule.give l is (and_parts (gives_nothing rule.give) _ (where_is _ (undivided (Save i)) e h).0).0

shape_taken : (classes : List Class) (rule : Rule) (e : EffectShape) (l : Line) → Taken classes rule e → rule.give ≡ give.Shape l → TakenShape classes rule e l
shape_taken classes rule e l (by_line k g lines is found) gives = absurd (form_gives classes rule g e l found gives)
shape_taken classes rule e l (by_shape k lines is found) gives =
    record { lines = lines; found = subst (λ (x : Line). found_shape classes rule.right (kind_at classes rule.left) (shape_of x.pieces) ≡ Some e) (shape_same k l (sym is ∙ gives)) found }

pub taken_shape : (classes : List Class) (rule : Rule) (e : EffectShape) (l : Line) → toy.effect classes rule ≡ Ok e → rule.give ≡ give.Shape l → TakenShape classes rule e l
taken_shape classes rule e l h gives = shape_taken classes rule e l (taken_by classes rule e h) gives

-- a class of registers has a register
register_fits : (k : Option Kind) (h : Attr Operand) → is_reg k ≡ true → KindFits toy k h → (r : ℕ) × (h ≡ attr.Reg r)
register_fits (Some kind.Reg) (attr.Reg r) e fit = (r, refl)
register_fits (Some (kind.Value size)) h e fit = absurd (false≢true e)
register_fits (Some (kind.Place size)) h e fit = absurd (false≢true e)
register_fits (Some kind.Con) h e fit = absurd (false≢true e)
register_fits (Some kind.Ea) h e fit = absurd (false≢true e)
register_fits (Some kind.Nothing) h e fit = absurd (false≢true e)
register_fits None h e fit = absurd (false≢true e)
register_fits _ _ e fit = absurd fit

symbol_register : (classes : List Class) (s : Sym) (h : Attr Operand) → holds_register classes (Some s) ≡ true → SymFits toy classes s h → (r : ℕ) × (h ≡ attr.Reg r)
symbol_register classes (grammar_symbol.Tok x) h e fit = absurd (false≢true e)
symbol_register classes (grammar_symbol.Class c) h e fit = register_fits (kind_at classes c) h e fit

some_there : {X : Type 0} (o : Option X) (test : Option X → Bool) → test None ≡ false → test o ≡ true → is_some o ≡ true
some_there None test none e = absurd (false≢true (sym none ∙ e))
some_there (Some x) test none e = refl

module _ (classes : List Class) (right : List Sym) (hs : List (Attr Operand)) (fit : Fit toy classes right hs) where
  -- the_number hole of a register's symbol
  pub register_hole : (i : ℕ) → holds_register classes (hole right i) ≡ true → (r : ℕ) × (hole hs i ≡ Some (attr.Reg r))
  register_hole zero e = absurd (false≢true e)
  register_hole (suc j) e =
      let n = filled_at classes right hs j fit (some_there (slice_get right j) (holds_register classes) refl e) in
      let s = symbol_register classes n.symbol n.attribute (subst (λ o. holds_register classes o ≡ true) n.there e) n.fits in
      (s.0, n.at ∙ ap Some s.1)

  -- the_number hole of a symbol that is a place has an operand that is one
  pub record Home (i : ℕ) : Type 0 where
    pub attribute : Attr Operand
    pub operand_is : Operand
    pub at : hole hs i ≡ Some attribute
    pub own : own_operand toy attribute ≡ Some operand_is
    pub place : is_place operand_is ≡ true

  record OwnPlace (h : Attr Operand) : Type 0 where
    operand_is : Operand
    own : own_operand toy h ≡ Some operand_is
    place : is_place operand_is ≡ true

  place_fits : (size : Size) (k : Option Kind) (h : Attr Operand) → is_place_of size k ≡ true → KindFits toy k h → OwnPlace h
  place_fits size (Some (kind.Place z)) (attr.Place o) e fit = record { operand_is = o; own = refl; place = fit }
  place_fits size (Some (kind.Value z)) h e fit = absurd (false≢true e)
  place_fits size (Some kind.Reg) h e fit = absurd (false≢true e)
  place_fits size (Some kind.Con) h e fit = absurd (false≢true e)
  place_fits size (Some kind.Ea) h e fit = absurd (false≢true e)
  place_fits size (Some kind.Nothing) h e fit = absurd (false≢true e)
  place_fits size None h e fit = absurd (false≢true e)
  place_fits size _ _ e fit = absurd fit

  local_place : (a : Att) → is_of_kind (attribute_of tok.Loc) a ≡ true → OwnPlace (attr.Token (record { tok = tok.Loc; att = a }))
  local_place (att.Slot k) e = record { operand_is = operand.Word k; own = refl; place = refl }
  local_place _ e = absurd (false≢true e)

  argument_place : (a : Att) → is_of_kind (attribute_of tok.Arg) a ≡ true → OwnPlace (attr.Token (record { tok = tok.Arg; att = a }))
  argument_place (att.Slot k) e = record { operand_is = operand.Argument k; own = refl; place = refl }
  argument_place _ e = absurd (false≢true e)

  slot_place : (x : Tok) (a : Att) → is_slot x ≡ true → is_of_kind (attribute_of x) a ≡ true → OwnPlace (attr.Token (record { tok = x; att = a }))
  slot_place tok.Loc a e fit = local_place a fit
  slot_place tok.Arg a e fit = argument_place a fit
  slot_place _ a e fit = absurd (false≢true e)

  home_place : (size : Size) (s : Sym) (h : Attr Operand) → is_home classes size (Some s) ≡ true → SymFits toy classes s h → OwnPlace h
  home_place size (grammar_symbol.Tok x) (attr.Token l) e fit = slot_place l.tok l.att (subst (λ y. is_slot y ≡ true) (sym fit.0) (and_parts (is_slot x) _ e).0) fit.1
  home_place size (grammar_symbol.Class c) h e fit = place_fits size (kind_at classes c) h e fit
  home_place size _ _ e fit = absurd fit

  pub home_hole : (size : Size) (i : ℕ) → is_home classes size (hole right i) ≡ true → Home i
  home_hole size zero e = absurd (false≢true e)
  home_hole size (suc j) e =
      let n = filled_at classes right hs j fit (some_there (slice_get right j) (is_home classes size) refl e) in
      let p = home_place size n.symbol n.attribute (subst (λ o. is_home classes size o ≡ true) n.there e) n.fits in
      record { attribute = n.attribute; operand_is = p.operand_is; at = n.at; own = p.own; place = p.place }

  -- the_number operand of a shape over a register, and of one that is a place
  pub based_is : (q : TreeProgram) (i : ℕ) → (e : holds_register classes (hole right i) ≡ true) → shaped q (shape_form.Based i) hs ≡ operand.Based (register_hole i e).0
  based_is q i e = ap (λ o. based (some_operand q o)) (register_hole i e).1

  pub alone_is : (q : TreeProgram) (size : Size) (i : ℕ) → (e : is_home classes size (hole right i) ≡ true) → shaped q (shape_form.Alone i) hs ≡ (home_hole size i e).operand_is
  alone_is q size i e = (let h = home_hole size i e in ap (some_operand q) h.at ∙ own_is q h.attribute h.operand_is h.own)

  -- a place's shape is a place
  pub place_shaped : (q : TreeProgram) (size : Size) (g : ShapeForm) (e : EffectShape) → found_shape classes right (Some (kind.Place size)) g ≡ Some e → is_place (shaped q g hs) ≡ true
  place_shaped q size (shape_form.Alone i) e h =
      let w = (where_is (is_home classes size (hole right i)) (undivided (PlaceHome size i)) e h).0 in
      subst (λ o. is_place o ≡ true) (sym (alone_is q size i w)) (home_hole size i w).place
  place_shaped q size (shape_form.Based i) e h =
      let w = (where_is (holds_register classes (hole right i)) (undivided (PlaceAt size (Symbol i))) e h).0 in
      subst (λ o. is_place o ≡ true) (sym (based_is q i w)) refl

pub shape_fits : (q : TreeProgram) (classes : List Class) (rule : Rule) (e : EffectShape) (k : Kind) (l : Line) (hs : List (Attr Operand)) →
    toy.effect classes rule ≡ Ok e → rule.give ≡ give.Shape l → kind_at classes rule.left ≡ Some k → Fit toy classes rule.right hs → fits k (operand_filled q l hs) ≡ true
shape_fits q classes rule e (kind.Place size) l hs taken gives is fit =
    place_shaped classes rule.right hs fit q size (shape_of l.pieces) e (subst (λ o. found_shape classes rule.right o (shape_of l.pieces) ≡ Some e) is (taken_shape classes rule e l taken gives).found)
shape_fits q classes rule e (kind.Value size) l hs taken gives is fit = refl
shape_fits q classes rule e kind.Reg l hs taken gives is fit = refl
shape_fits q classes rule e kind.Con l hs taken gives is fit = refl
shape_fits q classes rule e kind.Ea l hs taken gives is fit = refl
shape_fits q classes rule e kind.Nothing l hs taken gives is fit = refl

-- which act a shape has

act_place : (y z : Size) (a b : Shape) → PlaceAt y a ≡ PlaceAt z b → a ≡ b
act_place y z a b e = cc

act_address : (a b : Shape) → Address a ≡ Address b → a ≡ b
act_address a b e = cc

act_home : (y z : Size) (i j : ℕ) → PlaceHome y i ≡ PlaceHome z j → i ≡ j
act_home y z i j e = cc

home_not_at : (y z : Size) (a : Shape) (j : ℕ) → PlaceHome z j ≡ PlaceAt y a → ⊥
home_not_at y z a j e = cc

pub act_of : (x y : EffectShape) → x ≡ y → x.act ≡ y.act
act_of x y e = ap (λ (w : EffectShape). w.act) e

module _ (q : TreeProgram) (f : Extent) (fs : List Extent) (classes : List Class) (rule : Rule) (e : EffectShape) (hs : List (Attr Operand)) (v : View) (m : Machine)
    (inst : Instance toy true q f fs classes rule e hs v m) where
  -- the_number register of a symbol that has a number holds it
  pub register_holds : (i r : ℕ) → IsSome (v.symbol i) → hole hs i ≡ Some (attr.Reg r) → size_at classes rule.right i ≡ Long → long (in_register m r) ≡ value v (Symbol i)
  register_holds i r some at size =
      let n = the_number (v.symbol i) some in
      let small = subst (λ z. n.0 < 2 ^ (8 * bytes_of z)) size (inst.small i n.0 n.1) in
      let is = subst (λ z. worth toy q z (attr.Reg r) m ≡ Some n.0) size (inst.values i n.0 (attr.Reg r) at n.1) in
      same_Some (long (in_register m r)) n.0 is ∙ sym (symbol_value v i n.0 Long n.1 small)

-- a register's symbol is a longword
register_size : (classes : List Class) (o : Option Sym) → holds_register classes o ≡ true → size_of_some classes o ≡ Long
register_size classes None e = refl
register_size classes (Some (grammar_symbol.Tok x)) e = refl
register_size classes (Some (grammar_symbol.Class c)) e = by (kind_at classes c) e where
  by : (k : Option Kind) → is_reg k ≡ true → Rattle.sel_target.specs.sel_terms.specs.RuleFacts.size_of_kind k ≡ Long
  by None h = refl
  by (Some kind.Reg) h = refl
  by (Some (kind.Value size)) h = absurd (false≢true h)
  by (Some (kind.Place size)) h = absurd (false≢true h)
  by (Some kind.Con) h = refl
  by (Some kind.Ea) h = refl
  by (Some kind.Nothing) h = refl

pub register_sized : (classes : List Class) (right : List Sym) (i : ℕ) → holds_register classes (hole right i) ≡ true → size_at classes right i ≡ Long
register_sized classes right zero e = absurd (false≢true e)
register_sized classes right (suc j) e = size_behind classes right j ∙ register_size classes (slice_get right j) e

module _ (q : TreeProgram) (f : Extent) (fs : List Extent) (classes : List Class) (rule : Rule) (hs : List (Attr Operand)) (v : View) (m : Machine) where
  abbrev I : EffectShape → Type 0
  I e = Instance toy true q f fs classes rule e hs v m

  pub value_shaped : (e : EffectShape) (t : Shape) (size : Size) (g : ShapeForm) → I e → found_shape classes rule.right (Some (kind.Value size)) g ≡ Some e → e.act ≡ Value t →
      reads (shaped q g hs) size m ≡ Some (value v t)
  value_shaped e t size (shape_form.Alone i) inst found act = absurd (none-some e found)
  value_shaped e t size (shape_form.Based i) inst found act =
      let u = undivided (Value (Memory size (Symbol i))) in
      let w = where_is (holds_register classes (hole rule.right i)) u e found in
      let is = same_Value (Memory size (Symbol i)) t (act_of u e w.1 ∙ act) in
      let inst' = subst I (sym w.1) inst in
      let r = register_hole classes rule.right hs inst'.holes_fit i w.0 in
      let holds = register_holds q f fs classes rule u hs v m inst' i r.0 inst'.read.0.0 r.1 (register_sized classes rule.right i w.0) in
      ap (λ o. reads o size m) (based_is classes rule.right hs inst'.holes_fit q i w.0)
      ∙ ap (λ n. fetched size m.area n) holds ∙ ap (λ bytes. fetched size bytes (value v (Symbol i))) inst'.agrees.area
      ∙ fetched_is v size (value v (Symbol i)) inst'.agrees.bytes (inst'.read.0.1 refl) ∙ ap (λ x. Some (value v x)) is

  pub place_named : (e : EffectShape) (a : Shape) (size : Size) (g : ShapeForm) → I e → found_shape classes rule.right (Some (kind.Place size)) g ≡ Some e → e.act ≡ PlaceAt size a →
      names (shaped q g hs) size m ≡ Some (value v a)
  place_named e a size (shape_form.Alone i) inst found act =
      let u = undivided (PlaceHome size i) in
      let w = where_is (is_home classes size (hole rule.right i)) u e found in
      absurd (home_not_at size size a i (act_of u e w.1 ∙ act))
  place_named e a size (shape_form.Based i) inst found act =
      let u = undivided (PlaceAt size (Symbol i)) in
      let w = where_is (holds_register classes (hole rule.right i)) u e found in
      let is = act_place size size (Symbol i) a (act_of u e w.1 ∙ act) in
      let inst' = subst I (sym w.1) inst in
      let r = register_hole classes rule.right hs inst'.holes_fit i w.0 in
      let holds = register_holds q f fs classes rule u hs v m inst' i r.0 inst'.read.0 r.1 (register_sized classes rule.right i w.0) in
      ap (λ o. names o size m) (based_is classes rule.right hs inst'.holes_fit q i w.0) ∙ ap Some holds ∙ ap (λ x. Some (value v x)) is

  pub address_named : (e : EffectShape) (t : Shape) (size : Size) (g : ShapeForm) → I e → found_shape classes rule.right (Some kind.Ea) g ≡ Some e → e.act ≡ Address t →
      names (shaped q g hs) size m ≡ Some (value v t)
  address_named e t size (shape_form.Alone i) inst found act = absurd (none-some e found)
  address_named e t size (shape_form.Based i) inst found act =
      let u = undivided (Address (Symbol i)) in
      let w = where_is (holds_register classes (hole rule.right i)) u e found in
      let is = act_address (Symbol i) t (act_of u e w.1 ∙ act) in
      let inst' = subst I (sym w.1) inst in
      let r = register_hole classes rule.right hs inst'.holes_fit i w.0 in
      let holds = register_holds q f fs classes rule u hs v m inst' i r.0 inst'.read.0 r.1 (register_sized classes rule.right i w.0) in
      ap (λ o. names o size m) (based_is classes rule.right hs inst'.holes_fit q i w.0) ∙ ap Some holds ∙ ap (λ x. Some (value v x)) is

  pub number_is : (e : EffectShape) (i n : ℕ) (h : Attr Operand) → I e → found_shape classes rule.right (Some kind.Con) (shape_form.Alone i) ≡ Some e →
      hole hs i ≡ Some h → worth toy q Long h m ≡ Some n →
      (t : Shape) × (e.act ≡ Number t) × (value v t ≡ n)
  number_is e i n h inst found at is =
      let u = undivided (Number (Symbol i)) in
      let w = where_is (is_sized classes rule.right Long i) u e found in
      let inst' = subst I (sym w.1) inst in
      let x = numbered true q f fs classes rule u hs v m inst' Long i w.0 inst'.read.0 in
      let known = subst (λ z. worth toy q z h m ≡ Some x.number) x.sized (inst'.values i x.number h at x.known) in
      (Symbol i, sym (act_of u e w.1), symbol_value v i x.number Long x.known x.below ∙ same_Some x.number n (sym known ∙ is))

found_at : (classes : List Class) (rule : Rule) (e : EffectShape) (l : Line) (k : Kind) → toy.effect classes rule ≡ Ok e → rule.give ≡ give.Shape l → kind_at classes rule.left ≡ Some k →
    found_shape classes rule.right (Some k) (shape_of l.pieces) ≡ Some e
found_at classes rule e l k taken gives is = subst (λ o. found_shape classes rule.right o (shape_of l.pieces) ≡ Some e) is (taken_shape classes rule e l taken gives).found

-- an act that is no symbol's place
abbrev NoHome : ActShape → Type 0
NoHome (PlaceHome size i) = ⊥
NoHome a = Unit {0}

no_home : (a : ActShape) (size : Size) (i : ℕ) → a ≡ PlaceHome size i → NoHome a → ⊥
no_home a size i e h = subst NoHome e h

other : (a : ActShape) (size : Size) (i : ℕ) (e : EffectShape) → undivided a ≡ e → e.act ≡ PlaceHome size i → NoHome a → ⊥
other a size i e is act h = no_home a size i (act_of (undivided a) e is ∙ act) h

home_own : (q : TreeProgram) (classes : List Class) (rule : Rule) (e : EffectShape) (size : Size) (i : ℕ) (hs : List (Attr Operand)) (h : Attr Operand) (k : Option Kind) (g : ShapeForm) →
    found_shape classes rule.right k g ≡ Some e → e.act ≡ PlaceHome size i → Fit toy classes rule.right hs → hole hs i ≡ Some h → own_operand toy h ≡ Some (shaped q g hs)
home_own q classes rule e size i hs h None (shape_form.Alone j) found act fit at = absurd (none-some e found)
home_own q classes rule e size i hs h None (shape_form.Based j) found act fit at = absurd (none-some e found)
home_own q classes rule e size i hs h (Some kind.Reg) (shape_form.Alone j) found act fit at =
    absurd (other (Value (Symbol j)) size i e (where_is _ (undivided (Value (Symbol j))) e found).1 act tt)
home_own q classes rule e size i hs h (Some kind.Reg) (shape_form.Based j) found act fit at = absurd (none-some e found)
home_own q classes rule e size i hs h (Some kind.Con) (shape_form.Alone j) found act fit at =
    absurd (other (Number (Symbol j)) size i e (where_is _ (undivided (Number (Symbol j))) e found).1 act tt)
home_own q classes rule e size i hs h (Some kind.Con) (shape_form.Based j) found act fit at = absurd (none-some e found)
home_own q classes rule e size i hs h (Some kind.Ea) (shape_form.Alone j) found act fit at = absurd (none-some e found)
home_own q classes rule e size i hs h (Some kind.Ea) (shape_form.Based j) found act fit at =
    absurd (other (Address (Symbol j)) size i e (where_is _ (undivided (Address (Symbol j))) e found).1 act tt)
home_own q classes rule e size i hs h (Some kind.Nothing) (shape_form.Alone j) found act fit at = absurd (none-some e found)
home_own q classes rule e size i hs h (Some kind.Nothing) (shape_form.Based j) found act fit at = absurd (none-some e found)
home_own q classes rule e size i hs h (Some (kind.Value z)) (shape_form.Alone j) found act fit at = absurd (none-some e found)
home_own q classes rule e size i hs h (Some (kind.Value z)) (shape_form.Based j) found act fit at =
    absurd (other (Value (Memory z (Symbol j))) size i e (where_is _ (undivided (Value (Memory z (Symbol j)))) e found).1 act tt)
home_own q classes rule e size i hs h (Some (kind.Place z)) (shape_form.Alone j) found act fit at =
    let w = where_is (is_home classes z (hole rule.right j)) (undivided (PlaceHome z j)) e found in
    let same = act_home z size j i (act_of (undivided (PlaceHome z j)) e w.1 ∙ act) in
    let p = home_hole classes rule.right hs fit z j w.0 in
    let h_is = same_Some p.attribute h (sym p.at ∙ (ap (hole hs) same ∙ at)) in
    subst (λ x. own_operand toy x ≡ Some (shaped q (shape_form.Alone j) hs)) h_is (p.own ∙ ap Some (sym (alone_is classes rule.right hs fit q z j w.0)))
home_own q classes rule e size i hs h (Some (kind.Place z)) (shape_form.Based j) found act fit at =
    absurd (other (PlaceAt z (Symbol j)) size i e (where_is _ (undivided (PlaceAt z (Symbol j))) e found).1 act tt)

register_own : (classes : List Class) (rule : Rule) (e : EffectShape) (i : ℕ) → found_shape classes rule.right (Some kind.Reg) (shape_form.Alone i) ≡ Some e → e.act ≡ Value (Symbol i)
register_own classes rule e i found = sym (act_of (undivided (Value (Symbol i))) e (where_is (holds_register classes (hole rule.right i)) (undivided (Value (Symbol i))) e found).1)

pub toy_shapes : GivesShapes toy
toy_shapes = record {
  quiet = λ q f fs classes rule e l hs v m ready gives.
      (m, ap (λ ls. run (map (λ (k : Line). toy.instr q k hs attr.Nothing) ls) m) (taken_shape classes rule e l ready.instance_of.taken gives).lines, unchanged m);
  value_shape = λ q f fs classes rule e t size l hs v m inst gives is act.
      value_shaped q f fs classes rule hs v m e t size (shape_of l.pieces) inst (found_at classes rule e l (kind.Value size) inst.taken gives is) act;
  place_shape = λ q f fs classes rule e a size l hs v m inst gives is act.
      place_named q f fs classes rule hs v m e a size (shape_of l.pieces) inst (found_at classes rule e l (kind.Place size) inst.taken gives is) act;
  address_shape = λ q f fs classes rule e t size l hs v m inst gives is act.
      address_named q f fs classes rule hs v m e t size (shape_of l.pieces) inst (found_at classes rule e l kind.Ea inst.taken gives is) act;
  home_shape = λ q classes rule e size i l hs h taken gives act fit at.
      home_own q classes rule e size i hs h (kind_at classes rule.left) (shape_of l.pieces) (taken_shape classes rule e l taken gives).found act fit at;
  register_shape = λ classes rule e i l taken gives is pieces.
      register_own classes rule e i (ap (λ ps. found_shape classes rule.right (Some kind.Reg) (shape_of ps)) (sym pieces) ∙ found_at classes rule e l kind.Reg taken gives is);
  number_shape = λ q f fs classes rule e i n l hs h v m inst gives is pieces at worth_is.
      number_is q f fs classes rule hs v m e i n h inst (ap (λ ps. found_shape classes rule.right (Some kind.Con) (shape_of ps))
      (sym pieces) ∙ found_at classes rule e l kind.Con inst.taken gives is) at worth_is;
}
