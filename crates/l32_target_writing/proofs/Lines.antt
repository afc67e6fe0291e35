-- A line that does something is, with its holes filled, an instruction that can be written.
use Rattle.std.proofs.Common.{◌≡◌, ℕ, suc, ◌+◌, ◌≤◌, Bool, true, false, cond, ◌&&◌, Option, Some, None, Ok, Err, List, [], ◌∷◌, ◌++◌, map, take, length, refl, sym, ap, subst, ◌∙◌, arith, length-append}
use Rattle.std.specs.Prelude.{codes, nat_le}
use Rattle.std.specs.Option.{option_and_then, option_map}
use Rattle.std.specs.List.{list_any}
use Rattle.std.proofs.lemmas.Bool.{and_from, or_right, le-leb}
use Rattle.std.proofs.lemmas.List.{take_all}
use Rattle.gg_base.specs.declared.relation.Rel.{Rel}
use Rattle.gg_base.proofs.Facts.{err_ok}
use Rattle.l32_target_fits.specs.l32_target_operands.specs.vax_target_meaning.specs.tree_core.specs.declared.program.TreeProgram.{TreeProgram}
use Rattle.l32_target_fits.specs.l32_target_operands.specs.vax_target_meaning.specs.tree_core.specs.Names.{label_name}
use Rattle.l32_target_fits.specs.l32_target_operands.specs.vax_target_meaning.specs.Fitting.{goes_to_label}
use Rattle.l32_target_fits.specs.l32_target_operands.specs.judging_laws.specs.md_reader_pieces.specs.declared.piece.Piece.{Piece}
use Rattle.l32_target_fits.specs.l32_target_operands.specs.judging_laws.specs.term_core.specs.Shape.{Shape}
use Rattle.l32_target_fits.specs.l32_target_operands.specs.judging_laws.specs.sel_terms.specs.Effects as act
use Rattle.l32_target_fits.specs.l32_target_operands.specs.judging_laws.specs.sel_target.specs.declared.attr.Attr.{Attr}
use Rattle.l32_target_fits.specs.l32_target_operands.specs.judging_laws.specs.sel_target.specs.declared.fault.TemplateKind.TheVariants.{NotInstr}
use Rattle.l32_target_fits.specs.l32_target_operands.specs.judging_laws.specs.vax_templates.specs.declared.form.Mark.{Mark}
use Rattle.l32_target_fits.specs.l32_target_operands.specs.judging_laws.specs.vax_templates.specs.declared.form.Mark.TheVariants as mark
use Rattle.l32_target_fits.specs.l32_target_operands.specs.judging_laws.specs.vax_templates.specs.declared.setting.Hole.{Hole}
use Rattle.l32_target_fits.specs.l32_target_operands.specs.judging_laws.specs.vax_templates.specs.declared.setting.Setting.{Setting}
use Rattle.l32_target_fits.specs.l32_target_operands.specs.judging_laws.specs.vax_templates.specs.Settings.{hole_at}
use Rattle.l32_target_fits.specs.l32_target_operands.specs.judging_laws.specs.vax_templates.specs.Marks.{strip, is_byte, hole_front}
use Rattle.l32_target_fits.specs.l32_target_operands.specs.judging_laws.specs.vax_templates.specs.md_reader_text.specs.Words.{same}
use Rattle.l32_target_fits.specs.l32_target_operands.specs.judging_laws.specs.vax_templates.specs.Instructions.{behind_blank, word_of, marks_behind}
use Rattle.l32_target_fits.specs.l32_target_operands.specs.judging_laws.specs.vax_templates.specs.Standing.{◌>>=◌}
use Rattle.l32_target_fits.specs.l32_target_operands.specs.judging_laws.specs.vax_templates.specs.Taking.{Taken, Arguments}
use Rattle.l32_target_fits.specs.l32_target_operands.specs.judging_laws.specs.vax_templates.specs.Deeds as deeds
use Rattle.l32_target_fits.specs.l32_target_operands.specs.judging_laws.specs.vax_templates.specs.Deeds.{Last, Plain, Compared, Tested, Returning, Ended, Deed, is_relation}
use Rattle.l32_target_fits.specs.l32_target_operands.specs.judging_laws.specs.vax_templates.specs.FilledLines.{callee_name}
use Rattle.l32_target_fits.specs.l32_target_operands.specs.judging_laws.specs.vax_templates.specs.vax_core.specs.Valid.{is_name}
use Rattle.l32_target_fits.specs.l32_target_operands.specs.judging_laws.specs.Each.{Each}
use Rattle.l32_target_fits.specs.l32_target_operands.specs.judging_laws.proofs.Binds.{chained}
use Rattle.l32_target_fits.specs.l32_target_operands.specs.judging_laws.proofs.Parts.{map_or_each, and_then_each, map_each, always, if_each}
use Rattle.line_names.specs.Laws.{CanGo, CanCall, Names}
use Rattle.line_names.proofs.Pieces.{is_label_mark, is_count_mark, labels_behind, counts_behind}
use Rattle.l32_target_fits.specs.l32_target_operands.specs.l32_templates.specs.l32_core.specs.declared.op.Op32.{Op32}
use Rattle.l32_target_fits.specs.l32_target_operands.specs.l32_templates.specs.l32_core.specs.declared.op.Op32.TheVariants as ops
use Rattle.l32_target_fits.specs.l32_target_operands.specs.l32_templates.specs.l32_core.specs.declared.op.Part.{Part}
use Rattle.l32_target_fits.specs.l32_target_operands.specs.l32_templates.specs.l32_core.specs.declared.op.Part.TheVariants as parts
use Rattle.l32_target_fits.specs.l32_target_operands.specs.l32_templates.specs.l32_core.specs.Ops.{shape}
use Rattle.l32_target_fits.specs.l32_target_operands.specs.l32_templates.specs.l32_core.specs.Mnemonics.{op_of}
use Rattle.l32_target_fits.specs.l32_target_operands.specs.l32_templates.specs.l32_core.specs.declared.operand.Operand32.{Operand32}
use Rattle.l32_target_fits.specs.l32_target_operands.specs.l32_templates.specs.l32_core.specs.declared.operand.Operand32.TheVariants as operands
use Rattle.l32_target_fits.specs.l32_target_operands.specs.l32_templates.specs.l32_core.specs.Valid as valid
use Rattle.l32_target_fits.specs.l32_target_operands.specs.l32_templates.specs.l32_core.proofs.ShapeLaws.{few_parts}
use Rattle.l32_target_fits.specs.l32_target_operands.specs.l32_templates.specs.l32_machine.specs.declared.function.Action.{Action}
use Rattle.l32_target_fits.specs.l32_target_operands.specs.l32_templates.specs.l32_machine.specs.declared.function.Action.TheVariants as action
use Rattle.l32_target_fits.specs.l32_target_operands.specs.l32_templates.specs.l32_machine.specs.Functions.{action_of}
use Rattle.l32_target_fits.specs.l32_target_operands.specs.l32_templates.specs.declared.form.Form.{Form}
use Rattle.l32_target_fits.specs.l32_target_operands.specs.l32_templates.specs.Forms.{form_front}
use Rattle.l32_target_fits.specs.l32_target_operands.specs.l32_templates.specs.Instructions.{Instruction, Relation, Calls, Operates, label_front, forms_from, is_count, is_call, operates, is_call_op, calls, with_op, relation_behind, relation, instruction_of}
use Rattle.l32_target_fits.specs.l32_target_operands.specs.l32_templates.specs.Standing.{form_where}
use Rattle.l32_target_fits.specs.l32_target_operands.specs.l32_templates.specs.Taking.{evaluated, taken, all_evaluated, put_in_front}
use Rattle.l32_target_fits.specs.l32_target_operands.specs.l32_templates.specs.Deeds.{acted}
use Rattle.l32_target_fits.specs.l32_target_operands.specs.l32_templates.specs.Judging as judging
use Rattle.l32_target_fits.specs.l32_target_operands.specs.l32_templates.specs.Judging.{checked, operated, branches, instruction_did, is_ret, returned, did_behind, line_did}
use Rattle.l32_target_fits.specs.l32_target_operands.specs.l32_templates.specs.Filled.{attr_at, filled}
use Rattle.l32_target_fits.specs.l32_target_operands.specs.l32_templates.specs.FilledLines.{op_of_relation, op_in, label_among, call_of, is_label, label_behind, with_operands, filled_instruction, filled_line}
use Rattle.l32_target_fits.specs.l32_target_operands.specs.l32_target_meaning.specs.Fitting.{some_label, is_instr}
use Rattle.l32_target_fits.specs.l32_target_operands.proofs.Short.{AreShort, IsShortLine, line_short}
use Rattle.l32_target_lines.proofs.Table.{ret_is, relation_parts, goes}
use Rattle.l32_target_lines.proofs.Performing.{read_is}
use Rattle.l32_target_fits.proofs.Holes.{Spells}
use Rattle.l32_target_writing.proofs.Operands.{OwnSpells, operand_suits}

-- ---- what is read of a line

abbrev operands_in : List Part → ℕ
operands_in [] = 0
operands_in (parts.Label ∷ ps) = operands_in ps
operands_in (parts.Operand role ∷ ps) = suc (operands_in ps)

operands_few : (ps : List Part) → operands_in ps ≤ length ps
operands_few [] = omega arith
operands_few (parts.Label ∷ ps) = let h = operands_few ps in omega (arith, h)
operands_few (parts.Operand role ∷ ps) = let h = operands_few ps in omega (arith, h)

forms_many : (before : ℕ) (read : List Form) (ps : List Part) (ms : List Mark) (n : ℕ) → length read + operands_in ps ≡ n → Each (λ (fs : List Form). length fs ≡ n) (forms_from before read ps ms)
forms_many before read [] [] n e = omega (arith, e)
forms_many before read [] (m ∷ ms) n e = tt
forms_many before read (parts.Operand role ∷ ps) ms n e =
    and_then_each (λ x. Unit {0}) (λ (fs : List Form). length fs ≡ n) (option_and_then form_front (strip before ms)) (λ (x : Form × List Mark). forms_from 44 (read ++ x.0 ∷ []) ps x.1)
    (λ x u. forms_many 44 (read ++ x.0 ∷ []) ps x.1 n (omega (arith, e, length-append read (x.0 ∷ [])))) (always (option_and_then form_front (strip before ms)) tt)
forms_many before read (parts.Label ∷ ps) ms n e =
    and_then_each (λ x. Unit {0}) (λ (fs : List Form). length fs ≡ n) (option_and_then label_front (strip before ms)) (λ (rest : List Mark). forms_from 44 read ps rest)
    (λ rest u. forms_many 44 read ps rest n e) (always (option_and_then label_front (strip before ms)) tt)

-- behind one byte
in_rest : (byte : ℕ) (p : Mark → Bool) (passes : List Mark → Bool) (ms : List Mark) → ((rest : List Mark) → passes rest ≡ true → list_any p rest ≡ true) →
    behind_blank passes (strip byte ms) ≡ true → list_any p ms ≡ true
in_rest byte p passes [] h e = absurd (cc)
in_rest byte p passes (m ∷ ms) h e = by (is_byte byte m) e where
  by : (b : Bool) → behind_blank passes (cond b (Some ms) None) ≡ true → list_any p (m ∷ ms) ≡ true
  by true f = or_right (p m) (list_any p ms) (h ms f)
  by false f = absurd (cc)

count_alone : (ms : List Mark) → is_count ms ≡ true → list_any is_count_mark ms ≡ true
count_alone (mark.Count ∷ ms) e = refl
count_alone _ e = absurd (cc)

call_counts : (ms : List Mark) → is_call ms ≡ true → list_any is_count_mark ms ≡ true
call_counts (mark.Callee ∷ ms) e = in_rest 44 is_count_mark is_count ms count_alone e
call_counts _ e = absurd (cc)

label_next : (m : Mark) (ms : List Mark) → Each (λ (rest : List Mark). list_any is_label_mark (m ∷ ms) ≡ true) (label_front ms)
label_next m (mark.Label ∷ ms) = or_right (is_label_mark m) true refl
label_next m _ = tt

label_there : (ms : List Mark) → Each (λ (rest : List Mark). list_any is_label_mark ms ≡ true) (option_and_then label_front (strip 32 ms))
label_there [] = tt
label_there (m ∷ ms) = by (is_byte 32 m) where
  by : (b : Bool) → Each (λ (rest : List Mark). list_any is_label_mark (m ∷ ms) ≡ true) (option_and_then label_front (cond b (Some ms) None))
  by true = label_next m ms
  by false = tt

jump_labels : (ms : List Mark) → Each (λ (fs : List Form). list_any is_label_mark ms ≡ true) (forms_from 32 [] (parts.Label ∷ []) ms)
jump_labels ms =
    and_then_each (λ (rest : List Mark). list_any is_label_mark ms ≡ true) (λ (fs : List Form). list_any is_label_mark ms ≡ true) (option_and_then label_front (strip 32 ms))
    (λ (rest : List Mark). forms_from 44 [] [] rest) (λ rest k. always (forms_from 44 [] [] rest) k) (label_there ms)

abbrev jumps : Action → Bool
jumps action.Jump = true
jumps a = false

jump_parts : (op : Op32) → jumps (action_of op) ≡ true → (shape op).parts ≡ parts.Label ∷ []
jump_parts ops.B e = refl
jump_parts _ e = absurd cc

-- as many operands as its parts have, and the marks that name a label or a call
abbrev IsWell : List Mark → Instruction → Type 0
IsWell ms (Relation i fs) = length fs ≡ 2
IsWell ms Calls = list_any is_count_mark ms ≡ true
IsWell ms (Operates op fs) = (length fs ≡ operands_in (shape op).parts) × (jumps (action_of op) ≡ true → list_any is_label_mark ms ≡ true)

operates_well : (op : Op32) (ms : List Mark) → Each (IsWell ms) (operates op ms)
operates_well op ms = map_each (IsWell ms) (forms_from 32 [] (shape op).parts ms) (Operates op) (both (forms_from 32 [] (shape op).parts ms) refl) where
  both : (o : Option (List Form)) → forms_from 32 [] (shape op).parts ms ≡ o → Each (λ (fs : List Form). IsWell ms (Operates op fs)) o
  both None is = tt
  both (Some fs) is = (
    subst (Each (λ (fs : List Form). length fs ≡ operands_in (shape op).parts)) is (forms_many 32 [] (shape op).parts ms (operands_in (shape op).parts) (omega arith)),
    λ j. subst (Each (λ (fs : List Form). list_any is_label_mark ms ≡ true)) is
        (subst (λ (ps : List Part). Each (λ (fs : List Form). list_any is_label_mark ms ≡ true) (forms_from 32 [] ps ms)) (sym (jump_parts op j)) (jump_labels ms)),
  )

with_op_well : (ms : List Mark) (op : Op32) → Each (IsWell ms) (with_op ms op)
with_op_well ms op =
    if_each (IsWell ms) (is_call_op op) (calls ms) (operates op ms)
    (λ e. if_each (IsWell ms) (behind_blank is_call (strip 32 ms)) (Some Calls) None (λ f. in_rest 32 is_count_mark is_call ms call_counts f) (λ f. tt))
    (λ e. operates_well op ms)

relation_well : (word : List ℕ) (ms : List Mark) → Each (IsWell ms) (relation word ms)
relation_well word ms =
    if_each (IsWell ms) (same word (codes "j")) (option_and_then relation_behind (hole_front ms)) None
    (λ e. and_then_each (λ x. Unit {0}) (IsWell ms) (hole_front ms) relation_behind
    (λ x u. map_each (IsWell ms) (forms_from 32 [] (shape ops.Beq).parts x.1) (Relation x.0) (forms_many 32 [] (shape ops.Beq).parts x.1 2 refl))
    (always (hole_front ms) tt))
    (λ e. tt)

line_well : (ps : List Piece) → Each (IsWell (marks_behind ps)) (instruction_of ps)
line_well ps =
    let ms = marks_behind ps in
    map_or_each (IsWell ms) (op_of (word_of ps)) (with_op ms) (relation (word_of ps) ms) (λ op e. with_op_well ms op) (relation_well (word_of ps) ms)

-- ---- labels

-- the label that the parts of an instruction ask for
abbrev GoodTarget : List Part → Option (List ℕ) → Type 0
GoodTarget [] t = t ≡ None
GoodTarget (parts.Label ∷ ps) t = (name : List ℕ) × (t ≡ Some name) × (is_name name ≡ true) × GoodTarget ps None
GoodTarget (parts.Operand role ∷ ps) t = GoodTarget ps t

there : (hs : List (Attr Operand32)) → CanGo hs → GoodTarget (parts.Label ∷ []) (some_label (option_map label_name (label_among hs)))
there hs go = by (goes_to_label (Some (label_name go.label))) refl where
  first : some_label (option_map label_name (label_among hs)) ≡ some_label (Some (label_name go.label))
  first = ap (λ l. some_label (option_map label_name l)) go.found

  by : (b : Bool) → goes_to_label (Some (label_name go.label)) ≡ b → GoodTarget (parts.Label ∷ []) (some_label (option_map label_name (label_among hs)))
  by true is = (codes "L0", first ∙ ap (λ (b : Bool). cond b (Some (codes "L0")) (Some (label_name go.label))) is, refl, refl)
  by false is = (label_name go.label, first ∙ ap (λ (b : Bool). cond b (Some (codes "L0")) (Some (label_name go.label))) is, go.spelled, refl)

good_target : (hs : List (Attr Operand32)) (op : Op32) → (goes (action_of op) ≡ true → CanGo hs) → GoodTarget (shape op).parts (some_label (label_behind op hs))
good_target hs ops.Li go = refl
good_target hs ops.La go = refl
good_target hs ops.Lb go = refl
good_target hs ops.Lbu go = refl
good_target hs ops.Lh go = refl
good_target hs ops.Lhu go = refl
good_target hs ops.Lw go = refl
good_target hs ops.Sb go = refl
good_target hs ops.Sh go = refl
good_target hs ops.Sw go = refl
good_target hs ops.Sta go = refl
good_target hs ops.Neg go = refl
good_target hs ops.Not go = refl
good_target hs ops.Add go = refl
good_target hs ops.Sub go = refl
good_target hs ops.Mul go = refl
good_target hs ops.Div go = refl
good_target hs ops.And go = refl
good_target hs ops.Or go = refl
good_target hs ops.Xor go = refl
good_target hs ops.Sll go = refl
good_target hs ops.Sra go = refl
good_target hs ops.Beq go = there hs (go refl)
good_target hs ops.Bne go = there hs (go refl)
good_target hs ops.Blt go = there hs (go refl)
good_target hs ops.Ble go = there hs (go refl)
good_target hs ops.Bgt go = there hs (go refl)
good_target hs ops.Bge go = there hs (go refl)
good_target hs ops.Bltu go = there hs (go refl)
good_target hs ops.Bleu go = there hs (go refl)
good_target hs ops.Bgtu go = there hs (go refl)
good_target hs ops.Bgeu go = there hs (go refl)
good_target hs ops.B go = there hs (go refl)
good_target hs ops.Push go = refl
good_target hs ops.Enter go = refl
good_target hs ops.Call go = there hs (go refl)
good_target hs ops.Ret go = refl

-- a callee that can be spelled, whatever its name
named_call : (name : List ℕ) (count : ℕ) → is_name name ≡ true → count ≤ 255 → valid.fits (shape ops.Call).parts (operands.Num count ∷ []) (some_label (Some name)) ≡ true
named_call name count spelled few = by (goes_to_label (Some name)) where
  by : (b : Bool) → valid.fits (shape ops.Call).parts (operands.Num count ∷ []) (cond b (Some (codes "L0")) (Some name)) ≡ true
  by true = and_from (nat_le count 255) true (le-leb count 255 few) refl
  by false = and_from (is_name name) (valid.is_number 255 (operands.Num count) && true) spelled (and_from (nat_le count 255) true (le-leb count 255 few) refl)

-- ---- a line

module _ (q : TreeProgram) (s : Setting) (roles : List Hole) (hs : List (Attr Operand32)) (res : Attr Operand32) (spells : (j : ℕ) → Spells q (hole_at roles (suc j)) (attr_at hs res (suc j)))
    (owns : OwnSpells q s.own res) (relate : (i : ℕ) → is_relation (hole_at roles i) ≡ true → ((r : Rel) × (op_in (attr_at hs res i) ≡ op_of_relation r)) × CanGo hs) where
  all_fit : (held : Option Shape) (ps : List Part) (fs : List Form) (x : Arguments) (t : Option (List ℕ)) → GoodTarget ps t → length fs ≡ operands_in ps → AreShort fs
      → all_evaluated s roles held ps fs ≡ Ok x → valid.fits ps (map (filled q hs res) fs) t ≡ true
  unfolding evaluated
  all_fit held [] [] x t good many short e = ap (λ y. valid.fits [] [] y) good
  all_fit held [] (f ∷ fs) x t good many short e = absurd (omega (arith, many))
  all_fit held (parts.Label ∷ ps) fs x t good many short e =
      ap (λ y. valid.fits (parts.Label ∷ ps) (map (filled q hs res) fs) y) good.1
      ∙ and_from (is_name good.0) (valid.fits ps (map (filled q hs res) fs) None) good.2 (all_fit held ps fs x None good.3 many short e)
  all_fit held (parts.Operand role ∷ ps) [] x t good many short e = absurd (err_ok _ x e)
  all_fit held (parts.Operand role ∷ ps) (f ∷ fs) x t good many short e =
      let d = chained (evaluated s roles held role f) (λ (y : Taken). all_evaluated s roles held ps fs >>= put_in_front y) x e in
      let w = chained (form_where s roles held f) (taken s held role) d.first d.is in
      let r = chained (all_evaluated s roles held ps fs) (put_in_front d.first) x d.then_so in
      and_from (valid.suits role (filled q hs res f)) (valid.fits ps (map (filled q hs res) fs) t)
      (operand_suits q s roles hs res spells owns held role f w.first d.first short.0 w.is w.then_so)
      (all_fit held ps fs r.first t good (omega (arith, many)) short.1 r.is)

  operates_valid : (held : Option Shape) (op : Op32) (fs : List Form) (x : Arguments) → length fs ≡ operands_in (shape op).parts → AreShort fs → all_evaluated s roles held (shape op).parts fs ≡ Ok x
      → (goes (action_of op) ≡ true → CanGo hs) → is_instr (with_operands q hs res op fs) ≡ true
  operates_valid held op fs x many short e go =
      let few = operands_few (shape op).parts in
      let three = few_parts op in
      ap (λ ys. valid.fits (shape op).parts (map (filled q hs res) ys) (some_label (label_behind op hs))) (take_all 3 fs (omega (arith, many, few, three)))
      ∙ all_fit held (shape op).parts fs x (some_label (label_behind op hs)) (good_target hs op go) many short e

  module _ (ps : List Piece) (names : Names q hs ps) where
    abbrev written : Instruction → Type 0
    written i = is_instr (filled_instruction q hs res (Some i)) ≡ true

    acted_goes : (a : Action) (op : Op32) (x : Arguments) (d : Deed) → acted s a op x ≡ Ok d → (jumps a ≡ true → CanGo hs) → goes a ≡ true → CanGo hs
    acted_goes action.Jump op x d e go g = go refl
    acted_goes (action.Branch r) op x d e go g = absurd (err_ok _ d e)
    acted_goes action.Call op x d e go g = absurd (err_ok _ d e)
    acted_goes _ op x d e go g = absurd cc

    operated_valid : (is_first : Bool) (held : Option Shape) (op : Op32) (fs : List Form) (d : Deed) → IsWell (marks_behind ps) (Operates op fs) → AreShort fs
        → operated s roles is_first held op fs ≡ Ok d → written (Operates op fs)
    unfolding operated
    operated_valid is_first held op fs d well short e =
        let x = chained (all_evaluated s roles held (shape op).parts fs) (λ (x : Arguments). acted s (action_of op) op x >>= checked s roles is_first held fs x) d e in
        let a = chained (acted s (action_of op) op x.first) (checked s roles is_first held fs x.first) d x.then_so in
        operates_valid held op fs x.first well.0 short x.is (acted_goes (action_of op) op x.first a.first a.is (λ j. names.label (labels_behind ps (well.1 j))))

    branch_valid : (held : Option Shape) (i : ℕ) (fs : List Form) (d : Deed) → length fs ≡ 2 → AreShort fs → ((r : Rel) × (op_in (attr_at hs res i) ≡ op_of_relation r)) × CanGo hs
        → branches s roles held i fs ≡ Ok d → written (Relation i fs)
    unfolding branches
    branch_valid held i fs d many short r e =
        let x = chained (all_evaluated s roles held (shape ops.Beq).parts fs) (λ (x : Arguments). deeds.ends_statement s (act.Branch i x.first x.second)) d e in
        let rel = r.0.0 in
        let same = sym (relation_parts rel) in
        subst (λ (op : Op32). is_instr (with_operands q hs res op fs) ≡ true) (sym r.0.1)
        (operates_valid held (op_of_relation rel) fs x.first (many ∙ ap operands_in same) short
        (subst (λ (ys : List Part). all_evaluated s roles held ys fs ≡ Ok x.first) same x.is) (λ g. r.1))

    relation_valid : (b : Bool) (held : Option Shape) (i : ℕ) (fs : List Form) (d : Deed) → is_relation (hole_at roles i) ≡ b → length fs ≡ 2 → AreShort fs
        → cond b (branches s roles held i fs) (Err NotInstr) ≡ Ok d → written (Relation i fs)
    relation_valid true held i fs d is many short e = branch_valid held i fs d many short (relate i is) e
    relation_valid false held i fs d is many short e = absurd (err_ok _ d e)

    call_valid : CanCall q hs → written Calls
    call_valid c = ap (λ x. is_instr (call_of q x)) c.found ∙ named_call (callee_name q c.function) c.count c.spelled c.few

    instruction_valid : (is_first : Bool) (held : Option Shape) (i : Instruction) (d : Deed) → IsWell (marks_behind ps) i → IsShortLine i → instruction_did s roles is_first held i ≡ Ok d → written i
    instruction_valid is_first held (Relation i fs) d well short e = relation_valid (is_relation (hole_at roles i)) held i fs d refl well short e
    instruction_valid is_first held Calls d well short e = call_valid (names.callee (counts_behind ps well))
    instruction_valid is_first held (Operates op fs) d well short e = operated_valid is_first held op fs d well short e

    return_valid : (fs : List Form) → length fs ≡ 0 → is_instr (with_operands q hs res ops.Ret fs) ≡ true
    return_valid [] many = refl
    return_valid (f ∷ fs) many = absurd (omega (arith, many))

    returned_valid : (t : Shape) (i : Instruction) (d : Deed) → IsWell (marks_behind ps) i → returned t i ≡ Ok d → written i
    returned_valid t (Operates op fs) d well e = by (is_ret op) refl e where
      by : (b : Bool) → is_ret op ≡ b → cond b (deeds.ends (act.Return t)) (Err NotInstr) ≡ Ok d → written (Operates op fs)
      by true is e =
          subst (λ (o : Op32). is_instr (with_operands q hs res o fs) ≡ true) (sym (ret_is op is))
          (return_valid fs (well.0 ∙ ap (λ (o : Op32). operands_in (shape o).parts) (ret_is op is)))
      by false is e = absurd (err_ok _ d e)
    returned_valid t _ d well e = absurd (err_ok _ d e)

    behind_valid : (is_first : Bool) (held : Option Shape) (before : Last) (i : Instruction) (d : Deed) → IsWell (marks_behind ps) i → IsShortLine i
        → did_behind s roles is_first held before i ≡ Ok d → written i
    behind_valid is_first held Plain i d well short e = instruction_valid is_first held i d well short e
    behind_valid is_first held (Compared a b) i d well short e = instruction_valid is_first held i d well short e
    behind_valid is_first held (Tested t) i d well short e = instruction_valid is_first held i d well short e
    behind_valid is_first held (Returning t) i d well short e = returned_valid t i d well e
    behind_valid is_first held (Ended deed) i d well short e = absurd (err_ok _ d e)

    pub line_valid : (is_first : Bool) (held : Option Shape) (before : Last) (d : Deed) → line_did s roles is_first held before ps ≡ Ok d → is_instr (filled_line q ps hs res) ≡ true
    unfolding line_did
    line_valid is_first held before d e =
        let i = chained (judging.read (instruction_of ps)) (did_behind s roles is_first held before) d e in
        let is = read_is (instruction_of ps) i.first i.is in
        subst (λ o. is_instr (filled_instruction q hs res o) ≡ true) (sym is)
        (behind_valid is_first held before i.first d (subst (Each (IsWell (marks_behind ps))) is (line_well ps)) (subst (Each IsShortLine) is (line_short ps)) i.then_so)
