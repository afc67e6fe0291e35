-- The numbers that a line spells are longwords.
use Rattle.std.proofs.Common.{◌≡◌, ℕ, ◌-◌, ◌^◌, ◌<◌, ◌⊎◌, inl, inr, ◌++◌, Bool, true, false, cond, List, [], ◌∷◌, Option, Some, None, refl, ap, subst, arith}
use Rattle.std.specs.Prelude.{nat_le, ◌&&◌}
use Rattle.std.specs.Option.{option_and_then, option_map, option_map_or}
use Rattle.std.specs.List.{AllByRecursion}
use Rattle.std.proofs.lemmas.Bool.{leb-true}
use Rattle.std.proofs.lemmas.Option.{none-some, same_Some, cond_some}
use Rattle.gg_base.proofs.Facts.{first_true}
use Rattle.vax_target_operands.specs.md_reader_pieces.specs.declared.piece.Piece.{Piece}
use Rattle.vax_core.specs.declared.op.Op.{Op}
use Rattle.vax_core.specs.declared.op.OperandKind.{OperandKind}
use Rattle.vax_core.specs.Ops.{shape}
use Rattle.vax_core.specs.Mnemonics.{op_of}
use Rattle.vax_machine.specs.declared.function.Action.{Action}
use Rattle.vax_machine.specs.declared.function.Action.TheVariants as action
use Rattle.vax_machine.specs.declared.function.Test.{Test}
use Rattle.vax_machine.specs.declared.function.Test.TheVariants as test
use Rattle.vax_machine.specs.Functions.{action_of}
use Rattle.vax_target_operands.specs.vax_templates.specs.declared.form.Mark.{Mark}
use Rattle.vax_target_operands.specs.vax_templates.specs.declared.form.Number.{Number}
use Rattle.vax_target_operands.specs.vax_templates.specs.declared.form.Number.TheVariants as number
use Rattle.vax_target_operands.specs.vax_templates.specs.declared.form.Base.{Base}
use Rattle.vax_target_operands.specs.vax_templates.specs.declared.form.Base.TheVariants as base
use Rattle.vax_target_operands.specs.vax_templates.specs.declared.form.Form.{Form}
use Rattle.vax_target_operands.specs.vax_templates.specs.Marks.{marks_of, strip, hole_front, number_front, positive, negative, below_zero, signed_front, at_front}
use Rattle.vax_target_operands.specs.vax_templates.specs.Forms.{of_symbol, itself, number_spelled, of_number, of_hole, alone, near, far, deferred_front, negative_hole, immediate_front, named_front}
use Rattle.vax_target_operands.specs.vax_templates.specs.Forms.{base_front, index_front, with_index, indexed, form_front}
use Rattle.vax_target_operands.specs.vax_templates.specs.Instructions.{Instruction, Relation, Jump, Calls, Ret, Operates, forms_from, only, behind_blank, is_label, is_call, is_empty, jumps, operates}
use Rattle.vax_target_operands.specs.vax_templates.specs.Instructions.{behind, relation_behind, relation, with_op, word_of, marks_behind, instruction_of, whole, shape_of_pieces}
use Rattle.vax_target_operands.specs.Places.{IsShort, BaseIsShort}
use Rattle.vax_target_operands.specs.vax_target_confined.proofs.Reading.{mapped, then_some}

-- ---- readings

pub map_or_some : {A B : Type 0} (o : Option A) (f : A → Option B) (other : Option B) (y : B) → option_map_or f o other ≡ Some y → ((x : A) × (o ≡ Some x) × (f x ≡ Some y)) ⊎ (other ≡ Some y)
map_or_some (Some x) f other y e = inl (x, refl, e)
map_or_some None f other y e = inr e

positive_short : (x y : ℕ × List Mark) → positive x ≡ Some y → y.0 < 2 ^ 32
positive_short x y e =
    let r = cond_some (nat_le x.0 2147483647) x y e in
    let le = leb-true x.0 2147483647 r.0 in
    let same = ap (λ (z : ℕ × List Mark). z.0) r.1 in
    omega (arith, le, same)

negative_short : (x y : ℕ × List Mark) → negative x ≡ Some y → y.0 < 2 ^ 32
negative_short x y e =
    let r = cond_some (nat_le 1 x.0 && nat_le x.0 2147483648) (2 ^ 32 - x.0, x.1) y e in
    let le = leb-true 1 x.0 (first_true (nat_le 1 x.0) (nat_le x.0 2147483648) r.0) in
    let same = ap (λ (z : ℕ × List Mark). z.0) r.1 in
    omega (arith, le, same)

signed_short : (ms : List Mark) (y : ℕ × List Mark) → signed_front ms ≡ Some y → y.0 < 2 ^ 32
unfolding signed_front
signed_short ms y e = by (map_or_some (number_front ms) positive (option_and_then below_zero (strip 45 ms)) y e) where
  by : ((x : ℕ × List Mark) × (number_front ms ≡ Some x) × (positive x ≡ Some y)) ⊎ (option_and_then below_zero (strip 45 ms) ≡ Some y) → y.0 < 2 ^ 32
  by (inl p) = positive_short p.0 y p.2
  by (inr q) =
      let r = then_some below_zero (strip 45 ms) y q in
      let n = then_some negative (number_front r.0) y r.2 in
      negative_short n.0 y n.2

number_short : (ms : List Mark) (y : Number × List Mark) → number_spelled ms ≡ Some y → IsShort y.0
unfolding number_spelled
number_short ms y e = by (map_or_some (hole_front ms) of_symbol (option_map itself (signed_front ms)) y e) where
  by : ((x : ℕ × List Mark) × (hole_front ms ≡ Some x) × (of_symbol x ≡ Some y)) ⊎ (option_map itself (signed_front ms) ≡ Some y) → IsShort y.0
  by (inl p) = subst (λ (z : Number × List Mark). IsShort z.0) (same_Some (number.Symbol p.0.0, p.0.1) y p.2) tt
  by (inr q) =
      let r = mapped itself (signed_front ms) y q in
      subst (λ (z : Number × List Mark). IsShort z.0) r.2 (signed_short ms r.0 r.1)

-- ---- operands

abbrev Short : Base × List Mark → Type 0
Short y = BaseIsShort y.0

hole_short : (made : ℕ → Base) (x : ℕ × List Mark) (y : Base × List Mark) → BaseIsShort (made x.0) → of_hole made x ≡ Some y → Short y
hole_short made x y h e = subst Short (same_Some (made x.0, x.1) y e) h

alone_short : (made : ℕ → Base) (n : Number) (rest : List Mark) (y : Base × List Mark) → ((i : ℕ) → BaseIsShort (made i)) → alone made n rest ≡ Some y → Short y
alone_short made (number.Itself n) rest y h e = absurd (none-some y e)
alone_short made (number.Symbol i) rest y h e = subst Short (same_Some (made i, rest) y e) (h i)

near_short : (x : Number × List Mark) (y : Base × List Mark) → IsShort x.0 → near x ≡ Some y → Short y
near_short x y h e = by (map_or_some (at_front x.1) (of_hole (base.Displacement x.0)) (alone base.Hole x.0 x.1) y e) where
  by : ((z : ℕ × List Mark) × (at_front x.1 ≡ Some z) × (of_hole (base.Displacement x.0) z ≡ Some y)) ⊎ (alone base.Hole x.0 x.1 ≡ Some y) → Short y
  by (inl p) = hole_short (base.Displacement x.0) p.0 y h p.2
  by (inr q) = alone_short base.Hole x.0 x.1 y (λ i. tt) q

far_short : (x : Number × List Mark) (y : Base × List Mark) → IsShort x.0 → far x ≡ Some y → Short y
far_short x y h e = by (map_or_some (at_front x.1) (of_hole (base.DisplacementDeferred x.0)) (alone base.Deferred x.0 x.1) y e) where
  by : ((z : ℕ × List Mark) × (at_front x.1 ≡ Some z) × (of_hole (base.DisplacementDeferred x.0) z ≡ Some y)) ⊎ (alone base.Deferred x.0 x.1 ≡ Some y) → Short y
  by (inl p) = hole_short (base.DisplacementDeferred x.0) p.0 y h p.2
  by (inr q) = alone_short base.Deferred x.0 x.1 y (λ i. tt) q

of_number_short : (made : Number → Base) (ms : List Mark) (y : Base × List Mark) → ((n : Number) → IsShort n → BaseIsShort (made n)) → option_and_then (of_number made) (number_spelled ms)
    ≡ Some y → Short y
of_number_short made ms y h e =
    let r = then_some (of_number made) (number_spelled ms) y e in
    subst Short (same_Some (made r.0.0, r.0.1) y r.2) (h r.0.0 (number_short ms r.0 r.1))

deferred_short : (ms : List Mark) (y : Base × List Mark) → deferred_front ms ≡ Some y → Short y
unfolding deferred_front
deferred_short ms y e = by (map_or_some (strip 36 ms) (λ (rest : List Mark). option_and_then (of_number base.Absolute) (number_spelled rest)) (option_and_then far (number_spelled ms)) y e) where
  by : ((z : List Mark) × (strip 36 ms ≡ Some z) × (option_and_then (of_number base.Absolute) (number_spelled z) ≡ Some y)) ⊎ (option_and_then far (number_spelled ms) ≡ Some y) → Short y
  by (inl p) = of_number_short base.Absolute p.0 y (λ n h. h) p.2
  by (inr q) = let r = then_some far (number_spelled ms) y q in far_short r.0 y (number_short ms r.0 r.1) r.2

immediate_short : (ms : List Mark) (y : Base × List Mark) → immediate_front ms ≡ Some y → Short y
unfolding immediate_front
immediate_short ms y e = by (map_or_some (negative_hole ms) (of_hole base.Negative) (option_and_then (of_number base.Immediate) (number_spelled ms)) y e) where
  by : ((z : ℕ × List Mark) × (negative_hole ms ≡ Some z) × (of_hole base.Negative z ≡ Some y)) ⊎ (option_and_then (of_number base.Immediate) (number_spelled ms) ≡ Some y) → Short y
  by (inl p) = hole_short base.Negative p.0 y tt p.2
  by (inr q) = of_number_short base.Immediate ms y (λ n h. h) q

named_short : (ms : List Mark) (y : Base × List Mark) → named_front ms ≡ Some y → Short y
named_short ms y e = let r = then_some (λ (rest : List Mark). Some (base.RegisterZero, rest)) (strip 48 ms) y e in subst Short (same_Some (base.RegisterZero, r.0) y r.2) tt

abbrev behind_named : List Mark → Option (Base × List Mark)
behind_named ms = option_map_or (of_hole base.RegisterDeferred) (at_front ms) (option_and_then near (number_spelled ms))

abbrev behind_immediate : List Mark → Option (Base × List Mark)
behind_immediate ms = option_map_or named_front (strip 114 ms) (behind_named ms)

abbrev behind_star : List Mark → Option (Base × List Mark)
behind_star ms = option_map_or immediate_front (strip 36 ms) (behind_immediate ms)

base_short : (ms : List Mark) (y : Base × List Mark) → base_front ms ≡ Some y → Short y
unfolding base_front
base_short ms y e = first (map_or_some (strip 42 ms) deferred_front (behind_star ms) y e) where
  fourth : ((z : ℕ × List Mark) × (at_front ms ≡ Some z) × (of_hole base.RegisterDeferred z ≡ Some y)) ⊎ (option_and_then near (number_spelled ms) ≡ Some y) → Short y
  fourth (inl p) = hole_short base.RegisterDeferred p.0 y tt p.2
  fourth (inr q) = let r = then_some near (number_spelled ms) y q in near_short r.0 y (number_short ms r.0 r.1) r.2

  third : ((z : List Mark) × (strip 114 ms ≡ Some z) × (named_front z ≡ Some y)) ⊎ (behind_named ms ≡ Some y) → Short y
  third (inl p) = named_short p.0 y p.2
  third (inr q) = fourth (map_or_some (at_front ms) (of_hole base.RegisterDeferred) (option_and_then near (number_spelled ms)) y q)

  second : ((z : List Mark) × (strip 36 ms ≡ Some z) × (immediate_front z ≡ Some y)) ⊎ (behind_immediate ms ≡ Some y) → Short y
  second (inl p) = immediate_short p.0 y p.2
  second (inr q) = third (map_or_some (strip 114 ms) named_front (behind_named ms) y q)

  first : ((z : List Mark) × (strip 42 ms ≡ Some z) × (deferred_front z ≡ Some y)) ⊎ (behind_star ms ≡ Some y) → Short y
  first (inl p) = deferred_short p.0 y p.2
  first (inr q) = second (map_or_some (strip 36 ms) immediate_front (behind_immediate ms) y q)

pub form_short : (ms : List Mark) (y : Form × List Mark) → form_front ms ≡ Some y → BaseIsShort y.0.base
unfolding form_front
form_short ms y e =
    let r = then_some indexed (base_front ms) y e in
    let x = mapped (with_index r.0.0) (index_front r.0.1) y r.2 in
    subst (λ (z : Form × List Mark). BaseIsShort z.0.base) x.2 (base_short ms r.0 r.1)

abbrev pub AreShort : List Form → Type 0
AreShort fs = AllByRecursion (λ (f : Form). BaseIsShort f.base) fs

one_more : (fs : List Form) (f : Form) → AreShort fs → BaseIsShort f.base → AreShort (fs ++ f ∷ [])
one_more [] f h x = (x, tt)
one_more (g ∷ fs) f h x = (h.0, one_more fs f h.1 x)

forms_short : (before : ℕ) (read : List Form) (ks : List OperandKind) (ms : List Mark) (fs : List Form) → AreShort read → forms_from before read ks ms ≡ Some fs → AreShort fs
forms_short before read [] [] fs h e = subst AreShort (same_Some read fs e) h
forms_short before read [] (m ∷ ms) fs h e = absurd (none-some fs e)
forms_short before read (k ∷ ks) ms fs h e =
    let r = then_some (λ (x : Form × List Mark). forms_from 44 (read ++ x.0 ∷ []) ks x.1) (option_and_then form_front (strip before ms)) fs e in
    let f = then_some form_front (strip before ms) r.0 r.1 in
    forms_short 44 (read ++ r.0.0 ∷ []) ks r.0.1 fs (one_more read r.0.0 h (form_short f.0 r.0 f.2)) r.2

-- ---- instructions

abbrev pub IsShortLine : Instruction → Type 0
IsShortLine (Operates op fs) = AreShort fs
IsShortLine i = Unit {0}

only_short : (b : Bool) (i j : Instruction) → IsShortLine i → only b i ≡ Some j → IsShortLine j
only_short b i j h e = subst IsShortLine (cond_some b i j e).1 h

operates_short : (op : Op) (ms : List Mark) (j : Instruction) → operates op ms ≡ Some j → IsShortLine j
operates_short op ms j e =
    let r = mapped (Operates op) (forms_from 32 [] (shape op).operands ms) j e in
    subst IsShortLine r.2 (forms_short 32 [] (shape op).operands ms r.0 tt r.1)

jumps_short : (t : Test) (ms : List Mark) (j : Instruction) → jumps t ms ≡ Some j → IsShortLine j
jumps_short test.Always ms j e = only_short (behind_blank is_label (strip 32 ms)) Jump j tt e
jumps_short _ ms j e = absurd (none-some j e)

behind_short : (a : Action) (op : Op) (ms : List Mark) (j : Instruction) → behind a op ms ≡ Some j → IsShortLine j
behind_short (action.Compute f) op ms j e = operates_short op ms j e
behind_short action.Push op ms j e = operates_short op ms j e
behind_short (action.Branch t) op ms j e = jumps_short t ms j e
behind_short action.Call op ms j e = only_short (behind_blank is_call (strip 32 ms)) Calls j tt e
behind_short action.Return op ms j e = only_short (is_empty ms) Ret j tt e

relation_by : (b : Bool) (ms : List Mark) (j : Instruction) → cond b (option_and_then relation_behind (hole_front ms)) None ≡ Some j → IsShortLine j
relation_by true ms j e = let r = then_some relation_behind (hole_front ms) j e in only_short (behind_blank is_label (strip 32 r.0.1)) (Relation r.0.0) j tt r.2
relation_by false ms j e = absurd (none-some j e)

pub instruction_short : (ps : List Piece) (j : Instruction) → instruction_of ps ≡ Some j → IsShortLine j
instruction_short ps j e = by (map_or_some (op_of (word_of ps)) (with_op (marks_behind ps)) (relation (word_of ps) (marks_behind ps)) j e) where
  by : ((x : Op) × (op_of (word_of ps) ≡ Some x) × (with_op (marks_behind ps) x ≡ Some j)) ⊎ (relation (word_of ps) (marks_behind ps) ≡ Some j) → IsShortLine j
  by (inl p) = behind_short (action_of p.0) p.0 (marks_behind ps) j p.2
  by (inr q) = relation_by _ (marks_behind ps) j q

pub shape_short : (ps : List Piece) (f : Form) → shape_of_pieces ps ≡ Some f → BaseIsShort f.base
shape_short ps f e =
    let r = then_some whole (form_front (marks_of ps)) f e in
    subst (λ (x : Form). BaseIsShort x.base) (cond_some (is_empty r.0.1) r.0.0 f r.2).1 (form_short (marks_of ps) r.0 r.1)
