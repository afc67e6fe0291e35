-- The toy machine's templates do what their effects say.
use Rattle.std.proofs.Common.{◌≡◌, ℕ, ◌^◌, ◌<◌, ◌≤◌, List, [], ◌∷◌, length, map, Option, Some, None, Bool, true, false, refl, sym, ap, ◌∙◌, subst, arith}
use Rattle.std.specs.Prelude.{IsSome, ◌&&◌}
use Rattle.std.specs.List.{AllByRecursion}
use Rattle.std.proofs.lemmas.Bool.{and_parts}
use Rattle.std.proofs.lemmas.Option.{none-some}
use Rattle.gg_base.specs.declared.size.Size.{Size}
use Rattle.gg_base.specs.declared.size.Size.TheVariants.{Long}
use Rattle.gg_base.specs.Arithmetic.{add32, div32}
use Rattle.gg_base.proofs.Words.{some_quotient}
use Rattle.gg_base.proofs.Facts.{head_same, nil_cons}
use Rattle.tree_core.specs.declared.program.TreeProgram.{TreeProgram}
use Rattle.sel_target.specs.tree_meaning.specs.State.{Extent}
use Rattle.md_reader_pieces.specs.declared.piece.Line.{Line}
use Rattle.md_reader.specs.declared.types.Kind.{Kind}
use Rattle.md_reader.specs.declared.types.Kind.TheVariants as kind
use Rattle.md_reader.specs.declared.types.Class.{Class}
use Rattle.md_reader.specs.declared.types.Give.{Give}
use Rattle.md_reader.specs.declared.types.Give.TheVariants as give
use Rattle.md_reader.specs.declared.types.Rule.{Rule}
use Rattle.md_reader.specs.Patterns.{kind_at}
use Rattle.term_core.specs.declared.operator.BinaryOp.TheVariants as binary_op
use Rattle.term_core.specs.Shape.{Shape, Symbol, Memory, Binary}
use Rattle.term_core.proofs.Values.{small as term_small}
use Rattle.sel_target.specs.sel_terms.specs.Effects.{ActShape, EffectShape, Value, Number, Address, PlaceHome, PlaceAt, StoreHome, StoreAt, Branch, Push, Call, Save, Return, Jump}
use Rattle.sel_target.specs.sel_terms.proofs.Facts.{same_Value}
use Rattle.sel_target.specs.sel_terms_meaning.specs.Alike.{IsNarrowEffect}
use Rattle.sel_target.specs.declared.attr.Attr.{Attr}
use Rattle.sel_target.specs.declared.attr.Attr.TheVariants as attr
use Rattle.sel_target.specs.Courses.{comes, traps, followed}
use Rattle.sel_target.specs.Meaning.{RegAt}
use Rattle.sel_target.specs.Values.{View, term_state, value}
use Rattle.sel_target.specs.EffectTerms.{DividesByNone}
use Rattle.sel_target.specs.Instances.{IsResult, lines_of, Instance, Ready}
use Rattle.sel_target.specs.Outcomes.{Sets}
use Rattle.sel_target.specs.TemplateLaws.{DoesTemplates}
use Rattle.sel_toy_machine.specs.declared.operand.Operand.{Operand}
use Rattle.sel_toy_machine.specs.declared.operand.Source.{Source}
use Rattle.sel_toy_machine.specs.declared.operand.Destination.{Destination}
use Rattle.sel_toy_machine.specs.declared.operand.Destination.TheVariants as destination
use Rattle.sel_toy_machine.specs.declared.operand.Instr.{Instr}
use Rattle.sel_toy_machine.specs.declared.operand.Instr.TheVariants as instruction
use Rattle.sel_toy_machine.specs.declared.form.Form.{Form}
use Rattle.sel_toy_machine.specs.declared.form.Form.TheVariants as form
use Rattle.sel_toy_machine.specs.declared.form.ShapeForm.{ShapeForm}
use Rattle.sel_toy_machine.specs.declared.form.ShapeForm.TheVariants as shape_form
use Rattle.sel_toy_machine.specs.Machine.{Machine}
use Rattle.sel_toy_machine.specs.Forms.{shape_of, is_sized}
use Rattle.sel_toy_machine.specs.Templates.{undivided, sum, quotient, gives_register, found_form, found_shape}
use Rattle.sel_toy_machine.specs.Filling.{source_at, destination_of, filled}
use Rattle.sel_toy_machine.specs.Running.{taken, put_in, read_then, divided, run}
use Rattle.sel_toy_machine.proofs.Sources.{source_taken}
use Rattle.sel_toy_machine.proofs.Kept.{sets_register}
use Rattle.sel_toy_machine.proofs.Taken.{Taken, by_line, by_shape, where_is, taken_by}
use Rattle.sel_toy_machine.specs.Toy.{toy}

-- an act that gives no value
abbrev NoValue : ActShape → Type 0
NoValue (Value t) = ⊥
NoValue a = Unit {0}

no_value : (a : ActShape) (t : Shape) → a ≡ Value t → NoValue a → ⊥
no_value a t e h = subst NoValue e h

not_value : (a : ActShape) (e : EffectShape) (t : Shape) → undivided a ≡ e → e.act ≡ Value t → NoValue a → ⊥
not_value a e t is act h = no_value a t (ap (λ (x : EffectShape). x.act) is ∙ act) h

pub value_small : (v : View) (t : Shape) → value v t < 2 ^ 32
value_small v t = term_small (term_state v) t

-- what one instruction does alone
pub move_runs : (size : Size) (s : Source) (d : Destination) (m : Machine) (x : ℕ) → taken s size m ≡ Some x → run (instruction.Move size s d ∷ []) m ≡ comes (put_in d x m)
move_runs size s d m x e = ap (λ o. followed (read_then o (λ y. comes (put_in d y m))) [] (run [])) e

add_runs : (a b : Source) (d : Destination) (m : Machine) (x y : ℕ) → taken a Long m ≡ Some x → taken b Long m ≡ Some y →
    run (instruction.Add a b d ∷ []) m ≡ comes (put_in d (add32 x y) m)
add_runs a b d m x y e g =
    ap (λ o. followed (read_then o (λ k. read_then (taken b Long m) (λ n. comes (put_in d (add32 k n) m)))) [] (run [])) e
    ∙ ap (λ o. followed (read_then o (λ n. comes (put_in d (add32 x n) m))) [] (run [])) g

divide_runs : (a b : Source) (d : Destination) (m : Machine) (x y : ℕ) → taken a Long m ≡ Some x → taken b Long m ≡ Some y →
    run (instruction.Divide a b d ∷ []) m ≡ followed (divided (div32 x y) (λ z. comes (put_in d z m))) [] (run [])
divide_runs a b d m x y e g =
    ap (λ o. followed (read_then o (λ k. read_then (taken b Long m) (λ n. divided (div32 k n) (λ z. comes (put_in d z m))))) [] (run [])) e
    ∙ ap (λ o. followed (read_then o (λ n. divided (div32 x n) (λ z. comes (put_in d z m)))) [] (run [])) g

no_quotient : (x y : ℕ) → y ≡ 0 → div32 x y ≡ None
no_quotient x y e = ap (div32 x) e

-- a shape divides by nothing
undivided_shape : (classes : List Class) (rule : Rule) (k : Option Kind) (g : ShapeForm) (e : EffectShape) → found_shape classes rule.right k g ≡ Some e → e.divisors ≡ []
undivided_shape classes rule None (shape_form.Alone i) e h = absurd (none-some e h)
undivided_shape classes rule None (shape_form.Based i) e h = absurd (none-some e h)
undivided_shape classes rule (Some kind.Reg) (shape_form.Alone i) e h = sym (ap (λ (x : EffectShape). x.divisors) (where_is _ _ e h).1)
undivided_shape classes rule (Some kind.Reg) (shape_form.Based i) e h = absurd (none-some e h)
undivided_shape classes rule (Some kind.Con) (shape_form.Alone i) e h = sym (ap (λ (x : EffectShape). x.divisors) (where_is _ _ e h).1)
undivided_shape classes rule (Some kind.Con) (shape_form.Based i) e h = absurd (none-some e h)
undivided_shape classes rule (Some kind.Ea) (shape_form.Alone i) e h = absurd (none-some e h)
undivided_shape classes rule (Some kind.Ea) (shape_form.Based i) e h = sym (ap (λ (x : EffectShape). x.divisors) (where_is _ _ e h).1)
undivided_shape classes rule (Some kind.Nothing) (shape_form.Alone i) e h = absurd (none-some e h)
undivided_shape classes rule (Some kind.Nothing) (shape_form.Based i) e h = absurd (none-some e h)
undivided_shape classes rule (Some (kind.Value size)) (shape_form.Alone i) e h = absurd (none-some e h)
undivided_shape classes rule (Some (kind.Value size)) (shape_form.Based i) e h = sym (ap (λ (x : EffectShape). x.divisors) (where_is _ _ e h).1)
undivided_shape classes rule (Some (kind.Place size)) (shape_form.Alone i) e h = sym (ap (λ (x : EffectShape). x.divisors) (where_is _ _ e h).1)
undivided_shape classes rule (Some (kind.Place size)) (shape_form.Based i) e h = sym (ap (λ (x : EffectShape). x.divisors) (where_is _ _ e h).1)

module _ (q : TreeProgram) (f : Extent) (fs : List Extent) (classes : List Class) (rule : Rule) (hs : List (Attr Operand)) (v : View) (m : Machine) where
  abbrev I : Bool → EffectShape → Type 0
  I every e = Instance toy every q f fs classes rule e hs v m

  known : (every : Bool) (e : EffectShape) → I every e → (size : Size) (i : ℕ) → is_sized classes rule.right size i ≡ true → IsSome (v.symbol i) →
      taken (source_at q hs i) size m ≡ Some (value v (Symbol i))
  known every e inst size i sized some = source_taken every q f fs classes rule e hs v m inst size i sized some

  sized_both : (i j : ℕ) → (gives_register rule.give && (is_sized classes rule.right Long i && is_sized classes rule.right Long j)) ≡ true →
      (is_sized classes rule.right Long i ≡ true) × (is_sized classes rule.right Long j ≡ true)
  sized_both i j e =
      and_parts (is_sized classes rule.right Long i) (is_sized classes rule.right Long j)
      (and_parts (gives_register rule.give) (is_sized classes rule.right Long i && is_sized classes rule.right Long j) e).1

  abbrev Setting : Form → ℕ → Shape → Type 0
  Setting g r t = Sets toy (filled q (Some g) hs (attr.Reg r) ∷ []) (RegAt r) q Long (attr.Reg r) (value v t) m

  form_sets : (g : Form) (r : ℕ) (e : EffectShape) (t : Shape) → found_form classes rule g ≡ Some e → e.act ≡ Value t → I true e → DividesByNone v e → r < 12 → Setting g r t
  form_sets (form.Move size i) r e t found act inst divides lt =
      let w = where_is (gives_register rule.give && is_sized classes rule.right size i) (undivided (Value (Symbol i))) e found in
      let is = same_Value (Symbol i) t (ap (λ (x : EffectShape). x.act) w.1 ∙ act) in
      let inst' = subst (I true) (sym w.1) inst in
      let x = known true (undivided (Value (Symbol i))) inst' size i (and_parts (gives_register rule.give) (is_sized classes rule.right size i) w.0).1 inst'.read.0 in
      subst (Setting (form.Move size i) r) is
      (sets_register q _ r (value v (Symbol i)) m lt (value_small v (Symbol i)) (move_runs size (source_at q hs i) (destination.Register r) m (value v (Symbol i)) x))
  form_sets (form.Address i) r e t found act inst divides lt = absurd (none-some e found)
  form_sets (form.Add i j) r e t found act inst divides lt =
      let u = undivided (Value (Binary binary_op.Add (Symbol i) (Symbol j))) in
      let w = where_is (gives_register rule.give && (is_sized classes rule.right Long i && is_sized classes rule.right Long j)) u e found in
      let is = same_Value (Binary binary_op.Add (Symbol i) (Symbol j)) t (ap (λ (x : EffectShape). x.act) w.1 ∙ act) in
      let inst' = subst (I true) (sym w.1) inst in
      let s = sized_both i j w.0 in
      let x = known true u inst' Long i s.0 inst'.read.0.0 in
      let y = known true u inst' Long j s.1 inst'.read.0.1 in
      subst (Setting (form.Add i j) r) is
      (sets_register q _ r (value v (Binary binary_op.Add (Symbol i) (Symbol j))) m lt (value_small v (Binary binary_op.Add (Symbol i) (Symbol j)))
      (add_runs (source_at q hs i) (source_at q hs j) (destination.Register r) m (value v (Symbol i)) (value v (Symbol j)) x y))
  form_sets (form.Divide i j) r e t found act inst divides lt =
      let u : EffectShape = record { act = Value (Binary binary_op.Div (Symbol i) (Symbol j)); divisors = Symbol j ∷ [] } in
      let w = where_is (gives_register rule.give && (is_sized classes rule.right Long i && is_sized classes rule.right Long j)) u e found in
      let is = same_Value (Binary binary_op.Div (Symbol i) (Symbol j)) t (ap (λ (x : EffectShape). x.act) w.1 ∙ act) in
      let inst' = subst (I true) (sym w.1) inst in
      let divides' = subst (DividesByNone v) (sym w.1) divides in
      let s = sized_both i j w.0 in
      let x = known true u inst' Long i s.0 inst'.read.0.0 in
      let y = known true u inst' Long j s.1 inst'.read.0.1 in
      subst (Setting (form.Divide i j) r) is
      (sets_register q _ r (value v (Binary binary_op.Div (Symbol i) (Symbol j))) m lt (value_small v (Binary binary_op.Div (Symbol i) (Symbol j)))
      (divide_runs (source_at q hs i) (source_at q hs j) (destination.Register r) m (value v (Symbol i)) (value v (Symbol j)) x y
      ∙ ap (λ o. followed (divided o (λ z. comes (put_in (destination.Register r) z m))) [] (run [])) (some_quotient (value v (Symbol i)) (value v (Symbol j)) divides'.0)))
  form_sets (form.Store size i j) r e t found act inst divides lt =
      absurd (not_value (StoreHome size i (Symbol j)) e t (where_is _ (undivided (StoreHome size i (Symbol j))) e found).1 act tt)
  form_sets (form.StoreAt size i j) r e t found act inst divides lt =
      absurd (not_value (StoreAt size (Symbol i) (Symbol j)) e t (where_is _ (undivided (StoreAt size (Symbol i) (Symbol j))) e found).1 act tt)
  form_sets (form.Push i) r e t found act inst divides lt = absurd (not_value (Push (Symbol i)) e t (where_is _ (undivided (Push (Symbol i))) e found).1 act tt)
  form_sets (form.Branch i j k) r e t found act inst divides lt =
      absurd (not_value (Branch i (Symbol j) (Symbol k)) e t (where_is _ (undivided (Branch i (Symbol j) (Symbol k))) e found).1 act tt)
  form_sets (form.Jump i) r e t found act inst divides lt = absurd (not_value Jump e t (where_is _ (undivided Jump) e found).1 act tt)
  form_sets (form.Call i) r e t found act inst divides lt = absurd (not_value Call e t (where_is _ (undivided Call) e found).1 act tt)
  form_sets (form.Return i) r e t found act inst divides lt = absurd (not_value (Return (Symbol i)) e t (where_is _ (undivided (Return (Symbol i))) e found).1 act tt)
  form_sets (form.Save i) r e t found act inst divides lt = absurd (not_value (Save i) e t (where_is _ (undivided (Save i)) e found).1 act tt)

  -- a register is no result of a shape
  register_below : (g : Give) (r : ℕ) → IsResult toy g hs (attr.Reg r) → r < 12
  register_below give.Fresh r h = h.0
  register_below give.Reuse r h = h
  register_below give.Scratch r h = h.0
  register_below give.Nothing r h = absurd h
  register_below (give.Shape l) r h = absurd h

  no_register : (g : Give) (l : Line) (r : ℕ) → g ≡ give.Shape l → IsResult toy g hs (attr.Reg r) → ⊥
  no_register g l r e h = subst (λ x. IsResult toy x hs (attr.Reg r)) e h

  pub result_by : (e : EffectShape) (t : Shape) (r : ℕ) → Taken classes rule e → Ready toy q f fs classes rule e hs (attr.Reg r) v m → e.act ≡ Value t →
      Sets toy (lines_of toy q rule hs (attr.Reg r)) (RegAt r) q Long (attr.Reg r) (value v t) m
  result_by e t r (by_line l g lines is found) ready act =
      subst (λ ls. Sets toy (map (λ (k : Line). toy.instr q k hs (attr.Reg r)) ls) (RegAt r) q Long (attr.Reg r) (value v t) m) (sym lines)
      (subst (λ o. Sets toy (filled q o hs (attr.Reg r) ∷ []) (RegAt r) q Long (attr.Reg r) (value v t) m) (sym is)
      (form_sets g r e t found act ready.instance_of ready.divides (register_below rule.give r ready.result)))
  result_by e t r (by_shape l lines gives found) ready act = absurd (no_register rule.give l r gives ready.result)

  trap_ends : (g : Form) (e : EffectShape) (d : Shape) (res : Attr Operand) → found_form classes rule g ≡ Some e → e.divisors ≡ d ∷ [] → I false e → value v d ≡ 0 →
      run (filled q (Some g) hs res ∷ []) m ≡ traps
  trap_ends (form.Move size i) e d res found is inst zero_is =
      let w = where_is (gives_register rule.give && is_sized classes rule.right size i) (undivided (Value (Symbol i))) e found in
      absurd (nil_cons d [] (ap (λ (x : EffectShape). x.divisors) w.1 ∙ is))
  trap_ends (form.Address i) e d res found is inst zero_is = absurd (none-some e found)
  trap_ends (form.Add i j) e d res found is inst zero_is =
      let w = where_is (gives_register rule.give && (is_sized classes rule.right Long i && is_sized classes rule.right Long j))
      (undivided (Value (Binary binary_op.Add (Symbol i) (Symbol j)))) e found in
      absurd (nil_cons d [] (ap (λ (x : EffectShape). x.divisors) w.1 ∙ is))
  trap_ends (form.Divide i j) e d res found is inst zero_is =
      let u : EffectShape = record { act = Value (Binary binary_op.Div (Symbol i) (Symbol j)); divisors = Symbol j ∷ [] } in
      let w = where_is (gives_register rule.give && (is_sized classes rule.right Long i && is_sized classes rule.right Long j)) u e found in
      let inst' = subst (I false) (sym w.1) inst in
      let same : Symbol j ≡ d = head_same (Symbol j) d [] [] (ap (λ (x : EffectShape). x.divisors) w.1 ∙ is) in
      let s = sized_both i j w.0 in
      let x = known false u inst' Long i s.0 inst'.read.0.0 in
      let y = known false u inst' Long j s.1 inst'.read.0.1 in
      divide_runs (source_at q hs i) (source_at q hs j) (destination_of res) m (value v (Symbol i)) (value v (Symbol j)) x y
      ∙ ap (λ o. followed (divided o (λ z. comes (put_in (destination_of res) z m))) [] (run [])) (no_quotient (value v (Symbol i)) (value v (Symbol j)) (ap (value v) same ∙ zero_is))
  trap_ends (form.Store size i j) e d res found is inst zero_is =
      absurd (nil_cons d [] (ap (λ (x : EffectShape). x.divisors) (where_is _ (undivided (StoreHome size i (Symbol j))) e found).1 ∙ is))
  trap_ends (form.StoreAt size i j) e d res found is inst zero_is =
      absurd (nil_cons d [] (ap (λ (x : EffectShape). x.divisors) (where_is _ (undivided (StoreAt size (Symbol i) (Symbol j))) e found).1 ∙ is))
  trap_ends (form.Push i) e d res found is inst zero_is = absurd (nil_cons d [] (ap (λ (x : EffectShape). x.divisors) (where_is _ (undivided (Push (Symbol i))) e found).1 ∙ is))
  trap_ends (form.Branch i j k) e d res found is inst zero_is =
      absurd (nil_cons d [] (ap (λ (x : EffectShape). x.divisors) (where_is _ (undivided (Branch i (Symbol j) (Symbol k))) e found).1 ∙ is))
  trap_ends (form.Jump i) e d res found is inst zero_is = absurd (nil_cons d [] (ap (λ (x : EffectShape). x.divisors) (where_is _ (undivided Jump) e found).1 ∙ is))
  trap_ends (form.Call i) e d res found is inst zero_is = absurd (nil_cons d [] (ap (λ (x : EffectShape). x.divisors) (where_is _ (undivided Call) e found).1 ∙ is))
  trap_ends (form.Return i) e d res found is inst zero_is = absurd (nil_cons d [] (ap (λ (x : EffectShape). x.divisors) (where_is _ (undivided (Return (Symbol i))) e found).1 ∙ is))
  trap_ends (form.Save i) e d res found is inst zero_is = absurd (nil_cons d [] (ap (λ (x : EffectShape). x.divisors) (where_is _ (undivided (Save i)) e found).1 ∙ is))

  pub trap_by : (e : EffectShape) (d : Shape) (res : Attr Operand) → Taken classes rule e → I false e → e.divisors ≡ d ∷ [] → value v d ≡ 0 → run (lines_of toy q rule hs res) m ≡ traps
  trap_by e d res (by_line l g lines is found) inst divisors zero_is =
      subst (λ ls. run (map (λ (k : Line). toy.instr q k hs res) ls) m ≡ traps) (sym lines)
      (subst (λ o. run (filled q o hs res ∷ []) m ≡ traps) (sym is) (trap_ends g e d res found divisors inst zero_is))
  trap_by e d res (by_shape l lines gives found) inst divisors zero_is =
      absurd (nil_cons d [] (sym (undivided_shape classes rule (kind_at classes rule.left) (shape_of l.pieces) e found) ∙ divisors))

form_divisors : (classes : List Class) (rule : Rule) (g : Form) (e : EffectShape) → found_form classes rule g ≡ Some e → length e.divisors ≤ 1
form_divisors classes rule (form.Move size i) e h = subst (λ (x : EffectShape). length x.divisors ≤ 1) (where_is _ _ e h).1 (omega arith)
form_divisors classes rule (form.Address i) e h = absurd (none-some e h)
form_divisors classes rule (form.Add i j) e h = subst (λ (x : EffectShape). length x.divisors ≤ 1) (where_is _ _ e h).1 (omega arith)
form_divisors classes rule (form.Divide i j) e h = subst (λ (x : EffectShape). length x.divisors ≤ 1) (where_is _ _ e h).1 (omega arith)
form_divisors classes rule (form.Store size i j) e h = subst (λ (x : EffectShape). length x.divisors ≤ 1) (where_is _ (undivided (StoreHome size i (Symbol j))) e h).1 (omega arith)
form_divisors classes rule (form.StoreAt size i j) e h = subst (λ (x : EffectShape). length x.divisors ≤ 1) (where_is _ (undivided (StoreAt size (Symbol i) (Symbol j))) e h).1 (omega arith)
form_divisors classes rule (form.Push i) e h = subst (λ (x : EffectShape). length x.divisors ≤ 1) (where_is _ (undivided (Push (Symbol i))) e h).1 (omega arith)
form_divisors classes rule (form.Branch i j k) e h = subst (λ (x : EffectShape). length x.divisors ≤ 1) (where_is _ (undivided (Branch i (Symbol j) (Symbol k))) e h).1 (omega arith)
form_divisors classes rule (form.Jump i) e h = subst (λ (x : EffectShape). length x.divisors ≤ 1) (where_is _ (undivided Jump) e h).1 (omega arith)
form_divisors classes rule (form.Call i) e h = subst (λ (x : EffectShape). length x.divisors ≤ 1) (where_is _ (undivided Call) e h).1 (omega arith)
form_divisors classes rule (form.Return i) e h = subst (λ (x : EffectShape). length x.divisors ≤ 1) (where_is _ (undivided (Return (Symbol i))) e h).1 (omega arith)
form_divisors classes rule (form.Save i) e h = subst (λ (x : EffectShape). length x.divisors ≤ 1) (where_is _ (undivided (Save i)) e h).1 (omega arith)

few_divisors : (classes : List Class) (rule : Rule) (e : EffectShape) → Taken classes rule e → length e.divisors ≤ 1
few_divisors classes rule e (by_line l g lines is found) = form_divisors classes rule g e found
few_divisors classes rule e (by_shape l lines gives found) =
    subst (λ (ds : List Shape). length ds ≤ 1) (sym (undivided_shape classes rule (kind_at classes rule.left) (shape_of l.pieces) e found)) (omega arith)

has_line : (classes : List Class) (rule : Rule) (e : EffectShape) → Taken classes rule e → kind_at classes rule.left ≡ Some kind.Nothing → 1 ≤ length rule.lines
has_line classes rule e (by_line l g lines is found) k = subst (λ ls. 1 ≤ length ls) (sym lines) (omega arith)
has_line classes rule e (by_shape l lines gives found) k = absurd (no_shape (shape_of l.pieces) (subst (λ o. found_shape classes rule.right o (shape_of l.pieces) ≡ Some e) k found)) where
  no_shape : (g : ShapeForm) → found_shape classes rule.right (Some kind.Nothing) g ≡ Some e → ⊥
  no_shape (shape_form.Alone i) h = none-some e h
  no_shape (shape_form.Based i) h = none-some e h

form_narrow : (classes : List Class) (rule : Rule) (g : Form) (e : EffectShape) → found_form classes rule g ≡ Some e → IsNarrowEffect e
form_narrow classes rule (form.Move size i) e h = subst IsNarrowEffect (where_is _ (undivided (Value (Symbol i))) e h).1 (tt, tt)
form_narrow classes rule (form.Address i) e h = absurd (none-some e h)
form_narrow classes rule (form.Add i j) e h = subst IsNarrowEffect (where_is _ (sum i j) e h).1 ((tt, tt), tt)
form_narrow classes rule (form.Divide i j) e h = subst IsNarrowEffect (where_is _ (quotient i j) e h).1 ((tt, tt), (tt, tt))
form_narrow classes rule (form.Store size i j) e h = subst IsNarrowEffect (where_is _ (undivided (StoreHome size i (Symbol j))) e h).1 (tt, tt)
form_narrow classes rule (form.StoreAt size i j) e h = subst IsNarrowEffect (where_is _ (undivided (StoreAt size (Symbol i) (Symbol j))) e h).1 ((tt, tt), tt)
form_narrow classes rule (form.Push i) e h = subst IsNarrowEffect (where_is _ (undivided (Push (Symbol i))) e h).1 (tt, tt)
form_narrow classes rule (form.Branch i j k) e h = subst IsNarrowEffect (where_is _ (undivided (Branch i (Symbol j) (Symbol k))) e h).1 ((tt, tt), tt)
form_narrow classes rule (form.Jump i) e h = subst IsNarrowEffect (where_is _ (undivided Jump) e h).1 (tt, tt)
form_narrow classes rule (form.Call i) e h = subst IsNarrowEffect (where_is _ (undivided Call) e h).1 (tt, tt)
form_narrow classes rule (form.Return i) e h = subst IsNarrowEffect (where_is _ (undivided (Return (Symbol i))) e h).1 (tt, tt)
form_narrow classes rule (form.Save i) e h = subst IsNarrowEffect (where_is _ (undivided (Save i)) e h).1 (tt, tt)

shape_narrow : (classes : List Class) (rule : Rule) (k : Option Kind) (g : ShapeForm) (e : EffectShape) → found_shape classes rule.right k g ≡ Some e → IsNarrowEffect e
shape_narrow classes rule None (shape_form.Alone i) e h = absurd (none-some e h)
shape_narrow classes rule None (shape_form.Based i) e h = absurd (none-some e h)
shape_narrow classes rule (Some kind.Reg) (shape_form.Alone i) e h = subst IsNarrowEffect (where_is _ (undivided (Value (Symbol i))) e h).1 (tt, tt)
shape_narrow classes rule (Some kind.Reg) (shape_form.Based i) e h = absurd (none-some e h)
shape_narrow classes rule (Some kind.Con) (shape_form.Alone i) e h = subst IsNarrowEffect (where_is _ (undivided (Number (Symbol i))) e h).1 (tt, tt)
shape_narrow classes rule (Some kind.Con) (shape_form.Based i) e h = absurd (none-some e h)
shape_narrow classes rule (Some kind.Ea) (shape_form.Alone i) e h = absurd (none-some e h)
shape_narrow classes rule (Some kind.Ea) (shape_form.Based i) e h = subst IsNarrowEffect (where_is _ (undivided (Address (Symbol i))) e h).1 (tt, tt)
shape_narrow classes rule (Some kind.Nothing) (shape_form.Alone i) e h = absurd (none-some e h)
shape_narrow classes rule (Some kind.Nothing) (shape_form.Based i) e h = absurd (none-some e h)
shape_narrow classes rule (Some (kind.Value size)) (shape_form.Alone i) e h = absurd (none-some e h)
shape_narrow classes rule (Some (kind.Value size)) (shape_form.Based i) e h = subst IsNarrowEffect (where_is _ (undivided (Value (Memory size (Symbol i)))) e h).1 (tt, tt)
shape_narrow classes rule (Some (kind.Place size)) (shape_form.Alone i) e h = subst IsNarrowEffect (where_is _ (undivided (PlaceHome size i)) e h).1 (tt, tt)
shape_narrow classes rule (Some (kind.Place size)) (shape_form.Based i) e h = subst IsNarrowEffect (where_is _ (undivided (PlaceAt size (Symbol i))) e h).1 (tt, tt)

is_narrow : (classes : List Class) (rule : Rule) (e : EffectShape) → Taken classes rule e → IsNarrowEffect e
is_narrow classes rule e (by_line l g lines is found) = form_narrow classes rule g e found
is_narrow classes rule e (by_shape l lines gives found) = shape_narrow classes rule (kind_at classes rule.left) (shape_of l.pieces) e found

all_valid : (is : List Instr) → AllByRecursion (λ i. toy.is_instr i ≡ true) is
all_valid [] = tt
all_valid (i ∷ is) = (refl, all_valid is)

pub toy_templates : DoesTemplates toy
toy_templates = record {
  result = λ q f fs classes rule e t hs r v m ready act. result_by q f fs classes rule hs v m e t r (taken_by classes rule e ready.instance_of.taken) ready act;
  trap = λ q f fs classes rule e d hs res v m inst result divisors zero_is. trap_by q f fs classes rule hs v m e d res (taken_by classes rule e inst.taken) inst divisors zero_is;
  narrow = λ classes rule e h. is_narrow classes rule e (taken_by classes rule e h);
  one_divisor = λ classes rule e h. few_divisors classes rule e (taken_by classes rule e h);
  some_line = λ classes rule e h k. has_line classes rule e (taken_by classes rule e h) k;
  lines_written = λ q classes rule e hs res can fits taken fit restricted spelled result. all_valid (lines_of toy q rule hs res);
}
