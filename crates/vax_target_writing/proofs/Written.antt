-- A line that does something is, with its holes filled, an instruction that can be written.
use Rattle.std.proofs.Common.{◌≡◌, ℕ, ◌≤◌, Bool, true, false, ◌&&◌, Option, Some, None, Result, Ok, Err, List, [], ◌∷◌, map, length, take, refl, ap, ◌∙◌, arith, option_map}
use Rattle.std.specs.Prelude.{nat_le}
use Rattle.std.specs.List.{AllByRecursion, list_any}
use Rattle.std.proofs.lemmas.Bool.Decides.{nat_tests}
use Rattle.std.proofs.lemmas.Bool.{le-leb, leb-true, and_from}
use Rattle.std.proofs.lemmas.List.{take_all}
use Rattle.gg_base.specs.declared.relation.Rel.{Rel}
use Rattle.gg_base.specs.declared.relation.Rel.TheVariants as relations
use Rattle.tree_core.specs.declared.tree.Att.{Att}
use Rattle.tree_core.specs.declared.tree.Att.TheVariants as att
use Rattle.tree_core.specs.declared.program.TreeProgram.{TreeProgram}
use Rattle.tree_core.specs.Names.{label_name}
use Rattle.vax_target_meaning.specs.md_reader_pieces.specs.declared.piece.Piece.{Piece}
use Rattle.vax_target_meaning.specs.md_reader_pieces.specs.declared.piece.Line.{Line}
use Rattle.vax_target_meaning.specs.md_reader.specs.declared.types.Kind.{Kind}
use Rattle.vax_target_meaning.specs.md_reader.specs.declared.types.Give.{Give}
use Rattle.vax_target_meaning.specs.term_core.specs.Shape.{Shape}
use Rattle.vax_target_meaning.specs.sel_terms.specs.Effects.{EffectShape}
use Rattle.vax_target_meaning.specs.sel_target.specs.declared.attr.Attr.{Attr}
use Rattle.vax_target_meaning.specs.sel_target.specs.declared.attr.Attr.TheVariants as attr
use Rattle.vax_target_meaning.specs.sel_target.specs.declared.fault.TemplateKind.{TemplateKind}
use Rattle.vax_target_meaning.specs.sel_target.specs.Meaning.{Fault}
use Rattle.vax_core.specs.declared.operand.Operand.{Operand}
use Rattle.vax_core.specs.declared.op.Op.{Op}
use Rattle.vax_core.specs.Ops.{shape}
use Rattle.vax_core.specs.Valid.{is_name, is_long, is_target, is_instr, are_operands}
use Rattle.vax_target_meaning.specs.vax_machine.specs.declared.function.Action.{Action}
use Rattle.vax_target_meaning.specs.vax_machine.specs.declared.function.Action.TheVariants.{Compute, Push, Branch, Call, Return}
use Rattle.vax_target_meaning.specs.vax_machine.specs.Functions.{action_of}
use Rattle.vax_target_meaning.specs.vax_templates.specs.declared.form.Form.{Form}
use Rattle.vax_target_meaning.specs.vax_templates.specs.declared.setting.Hole.{Hole}
use Rattle.vax_target_meaning.specs.vax_templates.specs.declared.setting.Setting.{Setting}
use Rattle.vax_target_meaning.specs.vax_templates.specs.Instructions.{Instruction, Relation, Jump, Calls, Ret, Operates, marks_behind, instruction_of}
use Rattle.vax_target_meaning.specs.vax_templates.specs.Standing.{◌>>=◌}
use Rattle.vax_target_meaning.specs.vax_templates.specs.Taking.{Arguments, all_evaluated}
use Rattle.vax_target_meaning.specs.vax_templates.specs.Giving.{given}
use Rattle.vax_target_meaning.specs.vax_templates.specs.Deeds.{Last, Plain, Compared, Tested, Returning, Ended, Deed, ends_statement, computed}
use Rattle.vax_target_meaning.specs.vax_templates.specs.Deeds.{acted}
use Rattle.vax_target_meaning.specs.vax_templates.specs.Judging.{checked, operated, instruction_did, returned, did_behind, read, line_did}
use Rattle.vax_target_meaning.specs.sel_terms.specs.Effects as effects
use Rattle.vax_core.specs.declared.op.Op.TheVariants as ops
use Rattle.vax_target_meaning.specs.vax_templates.specs.Progress.{Progress, start, at_line, kept, judged, lines_judged}
use Rattle.vax_target_meaning.specs.vax_templates.specs.GiveLines.{given_line}
use Rattle.vax_target_meaning.specs.vax_templates.specs.Found.{ended, template_found}
use Rattle.vax_target_meaning.specs.vax_templates.specs.Filled.{attr_at, filled}
use Rattle.vax_target_meaning.specs.vax_templates.specs.FilledLines.{op_of_relation, op_of_att, op_in, label_among, branch_to, callee_among, callee_name, call_of, filled_instruction, filled_line}
use Rattle.vax_target_writing.proofs.Each.{Each, EachOk, bind_each, always_ok, still_ok, of_ok}
use Rattle.vax_target_writing.proofs.Table.{goes, target_is, at_most_three}
use Rattle.vax_target_writing.proofs.Lines.{AreRead, IsWell, is_label_piece, is_count_piece, labels_behind, counts_behind, read_well}
use Rattle.vax_target_writing.proofs.Operands.{AllSpell, OwnSpells, all_stand}

-- a label to go to, and a function to call
pub record CanGo (hs : List (Attr Operand)) : Type 0 where
  pub label : ℕ
  pub found : label_among hs ≡ Some label
  pub spelled : is_name (label_name label) ≡ true

pub record CanCall (q : TreeProgram) (hs : List (Attr Operand)) : Type 0 where
  pub function : ℕ
  pub count : ℕ
  pub found : callee_among hs ≡ Some (function, count)
  pub few : count ≤ 255
  pub spelled : is_name (callee_name q function) ≡ true

-- what names a label or a call has one
pub record Names (q : TreeProgram) (hs : List (Attr Operand)) (ps : List Piece) : Type 0 where
  pub label : list_any is_label_piece ps ≡ true → CanGo hs
  pub callee : list_any is_count_piece ps ≡ true → CanCall q hs

relation_branches : (r : Rel) → ((shape (op_of_relation r)).operands ≡ []) × ((shape (op_of_relation r)).target ≡ true)
relation_branches relations.Eq = (refl, refl)
relation_branches relations.Ne = (refl, refl)
relation_branches relations.Lt = (refl, refl)
relation_branches relations.Le = (refl, refl)
relation_branches relations.Gt = (refl, refl)
relation_branches relations.Ge = (refl, refl)
relation_branches relations.Ltu = (refl, refl)
relation_branches relations.Leu = (refl, refl)
relation_branches relations.Gtu = (refl, refl)
relation_branches relations.Geu = (refl, refl)

att_branches : (a : Att) → ((shape (op_of_att a)).operands ≡ []) × ((shape (op_of_att a)).target ≡ true)
att_branches (att.Branch r label) = relation_branches r
att_branches att.Nothing = (refl, refl)
att_branches (att.Number n) = (refl, refl)
att_branches (att.Object object offset) = (refl, refl)
att_branches (att.Slot k) = (refl, refl)
att_branches (att.Label label) = (refl, refl)
att_branches (att.Callee function count) = (refl, refl)

attr_branches : (a : Attr Operand) → ((shape (op_in a)).operands ≡ []) × ((shape (op_in a)).target ≡ true)
attr_branches (attr.Token l) = att_branches l.att
attr_branches (attr.Reg r) = (refl, refl)
attr_branches (attr.InSlot w) = (refl, refl)
attr_branches (attr.Value o) = (refl, refl)
attr_branches (attr.Place o) = (refl, refl)
attr_branches (attr.Con n) = (refl, refl)
attr_branches (attr.Ea o) = (refl, refl)
attr_branches attr.Nothing = (refl, refl)

branch_written : (op : Op) (hs : List (Attr Operand)) → ((shape op).operands ≡ []) × ((shape op).target ≡ true) → CanGo hs → is_instr (branch_to op hs) ≡ true
branch_written op hs e go =
    and_from (are_operands (shape op).operands []) (is_target (shape op).target (option_map label_name (label_among hs)))
    (ap (λ ks. are_operands ks []) e.0)
    (ap (λ b. is_target b (option_map label_name (label_among hs))) e.1 ∙ (ap (λ l. is_target true (option_map label_name l)) go.found ∙ go.spelled))

is_byte_long : (n : ℕ) → n ≤ 255 → is_long n ≡ true
is_byte_long n le = grind (arith, nat_tests)

call_written : (q : TreeProgram) (hs : List (Attr Operand)) → CanCall q hs → is_instr (call_of q (callee_among hs)) ≡ true
call_written q hs c =
    ap (λ x. is_instr (call_of q x)) c.found
    ∙ and_from (nat_le c.count 255 && (is_long c.count && true) && true) (is_name (callee_name q c.function))
    (and_from (nat_le c.count 255 && (is_long c.count && true)) true
    (and_from (nat_le c.count 255) (is_long c.count && true) (le-leb c.count 255 c.few) (and_from (is_long c.count) true (is_byte_long c.count c.few) refl)) refl)
    c.spelled

module _ (q : TreeProgram) (s : Setting) (holes : List Hole) (hs : List (Attr Operand)) (res : Attr Operand) where
  abbrev Filling : Type 0
  Filling = AllSpell q holes hs × OwnSpells q s.own res

  abbrev written : Instruction → Bool
  written i = is_instr (filled_instruction q hs res (Some i))

  -- only what computes or pushes is done with operands alone
  acted_goes : (a : Action) (op : Op) (x : Arguments) → EachOk (λ (d : Deed). goes a ≡ false) (acted s a op x)
  acted_goes (Compute f) op x = always_ok (computed op x.target (given f x.first x.second)) refl
  acted_goes Push op x = always_ok (ends_statement s (effects.Push x.first)) refl
  acted_goes (Branch t) op x = tt
  acted_goes Call op x = tt
  acted_goes Return op x = tt

  operates_written : (op : Op) (fs : List Form) → AreRead (length (shape op).operands) fs → are_operands (shape op).operands (map (filled q hs res) fs) ≡ true →
      goes (action_of op) ≡ false → written (Operates op fs) ≡ true
  operates_written op fs r a g =
      and_from (are_operands (shape op).operands (map (filled q hs res) (take 3 fs))) (is_target (shape op).target None)
      (ap (λ ys. are_operands (shape op).operands (map (filled q hs res) ys)) (take_all 3 fs (omega (arith, r.many, leb-true _ _ (at_most_three op)))) ∙ a)
      (ap (λ b. is_target b None) (target_is op ∙ g))

  operated_written : (is_first : Bool) (zero' : Option Shape) (op : Op) (fs : List Form) → AreRead (length (shape op).operands) fs → Filling →
      EachOk (λ (d : Deed). written (Operates op fs) ≡ true) (operated s holes is_first zero' op fs)
  unfolding operated
  operated_written is_first zero' op fs r h =
      bind_each (λ (x : Arguments). are_operands (shape op).operands (map (filled q hs res) fs) ≡ true) (λ (d : Deed). written (Operates op fs) ≡ true)
      (all_evaluated s holes zero' (shape op).operands fs) (λ (x : Arguments). acted s (action_of op) op x >>= checked s holes is_first zero' fs x)
      (λ x a. still_ok _ (acted s (action_of op) op x) (checked s holes is_first zero' fs x)
      (goes_not x (acted s (action_of op) op x) a (acted_goes (action_of op) op x)))
      (all_stand q s holes zero' hs res (shape op).operands fs r.many r.longs h) where
        goes_not : (x : Arguments) (d : Result Deed TemplateKind) → are_operands (shape op).operands (map (filled q hs res) fs) ≡ true →
            EachOk (λ (d : Deed). goes (action_of op) ≡ false) d → EachOk (λ (d : Deed). written (Operates op fs) ≡ true) d
        goes_not x (Ok d) a g = operates_written op fs r a g
        goes_not x (Err e) a g = tt

  module _ (ps : List Piece) (names : Names q hs ps) (h : Filling) where
    abbrev Marked : Instruction → Type 0
    Marked i = IsWell (marks_behind ps) i

    instruction_written : (is_first : Bool) (zero' : Option Shape) (l : Last) (i : Instruction) → Marked i →
        EachOk (λ (d : Deed). written i ≡ true) (instruction_did s holes is_first zero' l i)
    instruction_written is_first zero' l (Relation i) m =
        always_ok (instruction_did s holes is_first zero' l (Relation i))
        (branch_written (op_in (attr_at hs res i)) hs (attr_branches (attr_at hs res i)) (names.label (labels_behind ps m)))
    instruction_written is_first zero' l Jump m =
        always_ok (instruction_did s holes is_first zero' l Jump) (branch_written ops.Jbr hs (refl, refl) (names.label (labels_behind ps m)))
    instruction_written is_first zero' l Calls m =
        always_ok (instruction_did s holes is_first zero' l Calls) (call_written q hs (names.callee (counts_behind ps m)))
    instruction_written is_first zero' l Ret m = tt
    instruction_written is_first zero' l (Operates op fs) m = operated_written is_first zero' op fs m h

    behind_written : (is_first : Bool) (zero' : Option Shape) (l : Last) (i : Instruction) → Marked i →
        EachOk (λ (d : Deed). written i ≡ true) (did_behind s holes is_first zero' l i)
    behind_written is_first zero' Plain i m = instruction_written is_first zero' Plain i m
    behind_written is_first zero' (Compared a b) i m = instruction_written is_first zero' (Compared a b) i m
    behind_written is_first zero' (Tested t) i m = instruction_written is_first zero' (Tested t) i m
    behind_written is_first zero' (Returning t) i m = return_written i where
      return_written : (i : Instruction) → EachOk (λ (d : Deed). written i ≡ true) (returned t i)
      return_written (Relation i) = tt
      return_written Jump = tt
      return_written Calls = tt
      return_written Ret = refl
      return_written (Operates op fs) = tt
    behind_written is_first zero' (Ended deed) i m = tt

    -- a line
    line_written : (is_first : Bool) (zero' : Option Shape) (l : Last) → EachOk (λ (d : Deed). is_instr (filled_line q ps hs res) ≡ true) (line_did s holes is_first zero' l ps)
    unfolding line_did
    line_written is_first zero' l = by (instruction_of ps) (read_well ps) where
      by : (o : Option Instruction) → Each Marked o → EachOk (λ (d : Deed). is_instr (filled_instruction q hs res o) ≡ true) (read o >>= did_behind s holes is_first zero' l)
      by None m = tt
      by (Some i) m = behind_written is_first zero' l i m

  abbrev LineNames : Line → Type 0
  LineNames l = Names q hs l.pieces

  abbrev LineIsWritten : Line → Type 0
  LineIsWritten l = is_instr (filled_line q l.pieces hs res) ≡ true

  at_its_line : (P : Type 0) (line : ℕ) (p : Progress) (r : Result Deed TemplateKind) → EachOk (λ (d : Deed). P) r → EachOk (λ (x : Progress). P) (at_line line r >>= kept line p)
  at_its_line P line p (Ok d) h = h
  at_its_line P line p (Err e) h = tt

  lines_written : (ls : List Line) (is_first : Bool) (p : Progress) → AllByRecursion LineNames ls → Filling →
      EachOk (λ (x : Progress). AllByRecursion LineIsWritten ls) (lines_judged s holes is_first p ls)
  lines_written [] is_first p n h = tt
  lines_written (l ∷ ls) is_first p n h =
      bind_each (λ (x : Progress). LineIsWritten l) (λ (x : Progress). AllByRecursion LineIsWritten (l ∷ ls)) (judged s holes is_first l p)
      (λ (x : Progress). lines_judged s holes false x ls) (λ x w. more w (lines_judged s holes false x ls) (lines_written ls false x n.1 h))
      (at_its_line _ l.line p (line_did s holes is_first p.own p.last l.pieces) (line_written l.pieces n.0 h is_first p.own p.last)) where
        more : LineIsWritten l → (r : Result Progress Fault) → EachOk (λ (x : Progress). AllByRecursion LineIsWritten ls) r →
            EachOk (λ (x : Progress). AllByRecursion LineIsWritten (l ∷ ls)) r
        more w (Ok x) a = (w, a)
        more w (Err e) a = tt

  -- the lines of a template that has an effect
  pub template_written : (k : Option Kind) (ls : List Line) (g : Give) (e : EffectShape) → AllByRecursion LineNames ls → Filling →
      template_found s holes k ls g ≡ Ok e → AllByRecursion LineIsWritten ls
  unfolding template_found
  template_written k ls g e n h is =
      of_ok (λ (x : EffectShape). AllByRecursion LineIsWritten ls) (lines_judged s holes true start ls >>= ended s holes k (given_line ls g) g) e is
      (still_ok _ (lines_judged s holes true start ls) (ended s holes k (given_line ls g) g) (lines_written ls true start n h))
