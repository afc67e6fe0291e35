-- The lines of rules, and those that save and reload.
use Rattle.std.proofs.Common.{◌≡◌, ℕ, zero, suc, ◌-◌, ◌==◌, Bool, true, false, cond, Option, Some, None, Ok, List, [], ◌∷◌, refl, sym, ap, subst, ◌∙◌, slice_get}
use Rattle.std.specs.Prelude.{unwrap_or}
use Rattle.std.specs.List.{AllByRecursion}
use Rattle.std.proofs.lemmas.Bool.{lt-ltb, or_left, or_right}
use Rattle.gg_base.specs.declared.relation.Rel.{Rel}
use Rattle.gg_base.specs.declared.size.Size.{Size}
use Rattle.gg_base.proofs.Facts.{not_zero, one_less}
use Rattle.l32_target_fits.specs.l32_target_operands.specs.vax_target_meaning.specs.tree_core.specs.declared.token.Tok.{Tok}
use Rattle.l32_target_fits.specs.l32_target_operands.specs.vax_target_meaning.specs.tree_core.specs.declared.token.Tok.TheVariants as tok
use Rattle.l32_target_fits.specs.l32_target_operands.specs.vax_target_meaning.specs.tree_core.specs.declared.token.AttKind.TheVariants as att_kind
use Rattle.l32_target_fits.specs.l32_target_operands.specs.vax_target_meaning.specs.tree_core.specs.declared.tree.Att.{Att}
use Rattle.l32_target_fits.specs.l32_target_operands.specs.vax_target_meaning.specs.tree_core.specs.declared.tree.Att.TheVariants as att
use Rattle.l32_target_fits.specs.l32_target_operands.specs.vax_target_meaning.specs.tree_core.specs.declared.program.TreeProgram.{TreeProgram}
use Rattle.l32_target_fits.specs.l32_target_operands.specs.vax_target_meaning.specs.tree_core.specs.Attributes.{attribute_of, is_of_kind}
use Rattle.l32_target_fits.specs.l32_target_operands.specs.judging_laws.specs.md_reader_pieces.specs.declared.piece.Line.{Line}
use Rattle.l32_target_fits.specs.l32_target_operands.specs.judging_laws.specs.md_reader.specs.declared.types.Class.{Class}
use Rattle.l32_target_fits.specs.l32_target_operands.specs.judging_laws.specs.md_reader.specs.declared.types.Sym.{Sym}
use Rattle.l32_target_fits.specs.l32_target_operands.specs.judging_laws.specs.md_reader.specs.declared.types.Sym.TheVariants as grammar_symbol
use Rattle.l32_target_fits.specs.l32_target_operands.specs.judging_laws.specs.md_reader.specs.declared.types.Kind.{Kind}
use Rattle.l32_target_fits.specs.l32_target_operands.specs.judging_laws.specs.md_reader.specs.declared.types.Kind.TheVariants as kind
use Rattle.l32_target_fits.specs.l32_target_operands.specs.judging_laws.specs.md_reader.specs.declared.types.Give.{Give}
use Rattle.l32_target_fits.specs.l32_target_operands.specs.judging_laws.specs.md_reader.specs.declared.types.Give.TheVariants as give
use Rattle.l32_target_fits.specs.l32_target_operands.specs.judging_laws.specs.md_reader.specs.declared.types.Rule.{Rule}
use Rattle.l32_target_fits.specs.l32_target_operands.specs.judging_laws.specs.md_reader.specs.Patterns.{kind_at}
use Rattle.l32_target_fits.specs.l32_target_operands.specs.judging_laws.specs.md_reader.specs.Restrictions.{is_branch}
use Rattle.l32_target_fits.specs.l32_target_operands.specs.judging_laws.specs.md_reader.specs.Rows.{any_symbol}
use Rattle.l32_target_fits.specs.l32_target_operands.specs.judging_laws.specs.md_reader.specs.Valid.{IsSpill}
use Rattle.l32_target_fits.specs.l32_target_operands.specs.judging_laws.specs.sel_terms.specs.Effects.{EffectShape}
use Rattle.l32_target_fits.specs.l32_target_operands.specs.judging_laws.specs.sel_target.specs.declared.attr.Attr.{Attr}
use Rattle.l32_target_fits.specs.l32_target_operands.specs.judging_laws.specs.sel_target.specs.declared.attr.Attr.TheVariants as attr
use Rattle.l32_target_fits.specs.l32_target_operands.specs.judging_laws.specs.sel_target.specs.Instances.{SymFits, Fit, IsResult}
use Rattle.l32_target_fits.specs.l32_target_operands.specs.judging_laws.specs.sel_target.specs.Spelled.{AreSpelled}
use Rattle.l32_target_fits.specs.l32_target_operands.specs.judging_laws.specs.sel_target.specs.SavingLaws.{IsValue, operand, register}
use Rattle.l32_target_fits.specs.l32_target_operands.specs.judging_laws.specs.vax_templates.specs.declared.setting.Hole.{Hole}
use Rattle.l32_target_fits.specs.l32_target_operands.specs.judging_laws.specs.vax_templates.specs.declared.setting.Hole.TheVariants as hole_kind
use Rattle.l32_target_fits.specs.l32_target_operands.specs.judging_laws.specs.vax_templates.specs.declared.setting.Own.TheVariants as own
use Rattle.l32_target_fits.specs.l32_target_operands.specs.judging_laws.specs.vax_templates.specs.declared.setting.Setting.{Setting}
use Rattle.l32_target_fits.specs.l32_target_operands.specs.judging_laws.specs.vax_templates.specs.Settings.{hole_of_token, hole_of_kind, hole_of, holes_of, hole_or_other, hole_at, saved_hole, own_of, saved_own, setting_of, saved_setting}
use Rattle.l32_target_fits.specs.l32_target_operands.specs.judging_laws.specs.vax_templates.specs.Deeds.{is_relation}
use Rattle.l32_target_fits.specs.l32_target_operands.specs.judging_laws.specs.vax_templates.specs.Progress.{Progress, start, progressed}
use Rattle.l32_target_fits.specs.l32_target_operands.specs.judging_laws.specs.vax_templates.specs.Found.{saved_give}
use Rattle.l32_target_fits.specs.l32_target_operands.specs.judging_laws.specs.md_reader.specs.RuleForms.{has_register}
use Rattle.l32_target_fits.specs.l32_target_operands.specs.judging_laws.specs.template_judging.specs.Found as any
use Rattle.l32_target_fits.specs.l32_target_operands.specs.judging_laws.specs.template_judging.specs.Lines.{lines_judged}
use Rattle.l32_target_fits.specs.judging_effects.specs.Laws.{IsFound}
use Rattle.l32_target_fits.specs.judging_effects.proofs.Lines.{judged_is}
use Rattle.l32_target_fits.specs.judging_effects.proofs.Founds.{template_is}
use Rattle.l32_target_fits.specs.l32_target_operands.specs.judging_laws.proofs.Parts.{all_of_map}
use Rattle.line_names.specs.Laws.{CanGo, Names}
use Rattle.line_names.proofs.Naming.{all_names, can_go, branch_has, spill_names}
use Rattle.l32_target_fits.specs.l32_target_operands.specs.l32_templates.specs.l32_core.specs.declared.operand.Operand32.{Operand32}
use Rattle.l32_target_fits.specs.l32_target_operands.specs.l32_templates.specs.l32_core.specs.Valid.{is_reg, is_register, is_memory}
use Rattle.l32_target_fits.specs.l32_target_operands.specs.l32_templates.specs.Homes.{home}
use Rattle.l32_target_fits.specs.l32_target_operands.specs.l32_templates.specs.Judging.{line_did}
use Rattle.l32_target_fits.specs.l32_target_operands.specs.l32_templates.specs.Filled.{attr_at}
use Rattle.l32_target_fits.specs.l32_target_operands.specs.l32_templates.specs.FilledLines.{op_of_relation, op_of_att, op_in, filled_line}
use Rattle.l32_target_fits.specs.l32_target_operands.specs.l32_templates.specs.Found.{l32_lines}
use Rattle.l32_target_fits.specs.l32_target_operands.specs.l32_target_meaning.specs.Fitting.{is_instr}
use Rattle.l32_target_fits.specs.l32_target_operands.specs.l32_target_meaning.specs.L32.{l32}
use Rattle.l32_target_fits.proofs.Holes.{Spells, home_memory, hole_spells}
use Rattle.l32_target_writing.specs.Laws.{LinesAreWritten}
use Rattle.l32_target_writing.proofs.Operands.{OwnSpells}
use Rattle.l32_target_writing.proofs.Lines.{line_valid}

-- ---- the relation of a branch

cbr_token : (x : Tok) → is_relation (hole_of_token x) ≡ true → x ≡ tok.Cbr
cbr_token tok.Cbr e = refl
cbr_token _ e = absurd (cc)

no_relation : (k : Option Kind) → is_relation (hole_of_kind k) ≡ true → ⊥
no_relation None e = cc
no_relation (Some kind.Reg) e = cc
no_relation (Some (kind.Value z)) e = cc
no_relation (Some (kind.Place z)) e = cc
no_relation (Some kind.Con) e = cc
no_relation (Some kind.Ea) e = cc
no_relation (Some kind.Nothing) e = cc

cbr_is : (classes : List Class) (s : Sym) → is_relation (hole_of classes s) ≡ true → s ≡ grammar_symbol.Tok tok.Cbr
cbr_is classes (grammar_symbol.Tok x) e = ap grammar_symbol.Tok (cbr_token x e)
cbr_is classes (grammar_symbol.Class c) e = absurd (no_relation (kind_at classes c) e)

-- the branch that an operand's hole names
abbrev IsBranchOf : Attr Operand32 → Type 0
IsBranchOf h = (r : Rel) × (op_in h ≡ op_of_relation r)

att_branch : (a : Att) → is_of_kind att_kind.Branch a ≡ true → (r : Rel) × (op_of_att a ≡ op_of_relation r)
att_branch (att.Branch r label) e = (r, refl)
att_branch _ e = absurd (cc)

branch_filling : (classes : List Class) (h : Attr Operand32) → SymFits l32 classes (grammar_symbol.Tok tok.Cbr) h → IsBranchOf h
branch_filling classes (attr.Token l) f = att_branch l.att (subst (λ x. is_of_kind (attribute_of x) l.att ≡ true) f.0 f.1)
branch_filling classes _ f = absurd f

relation_nth : (classes : List Class) (right : List Sym) (hs : List (Attr Operand32)) (res : Attr Operand32) (j : ℕ) → Fit l32 classes right hs
    → is_relation (hole_or_other (slice_get (holes_of classes right) j)) ≡ true → IsBranchOf (unwrap_or (slice_get hs j) res) × (any_symbol is_branch right ≡ true)
relation_nth classes [] [] res j f e = absurd (cc)
relation_nth classes [] (h ∷ hs) res j f e = absurd f
relation_nth classes (s ∷ right) [] res j f e = absurd f
relation_nth classes (s ∷ right) (h ∷ hs) res zero f e =
    let is = cbr_is classes s e in (
      branch_filling classes h (subst (λ y. SymFits l32 classes y h) is f.0),
      or_left (is_branch (Some s)) (any_symbol is_branch right) (ap (λ y. is_branch (Some y)) is),
    )
relation_nth classes (s ∷ right) (h ∷ hs) res (suc j) f e =
    let r = relation_nth classes right hs res j f.1 e in (r.0, or_right (is_branch (Some s)) (any_symbol is_branch right) r.1)

relate : (q : TreeProgram) (classes : List Class) (right : List Sym) (hs : List (Attr Operand32)) (res : Attr Operand32) → Fit l32 classes right hs → AreSpelled q hs → (i : ℕ)
    → is_relation (hole_at (holes_of classes right) i) ≡ true → IsBranchOf (attr_at hs res i) × CanGo hs
relate q classes right hs res f sp i e = by (i == 0) e where
  by : (b : Bool) → is_relation (cond b hole_kind.Other (hole_or_other (slice_get (holes_of classes right) (i - 1)))) ≡ true → IsBranchOf (cond b res (unwrap_or (slice_get hs (i - 1)) res)) × CanGo hs
  by true e = absurd (cc)
  by false e = let r = relation_nth classes right hs res (i - 1) f e in (r.0, can_go l32 q classes is_branch (branch_has l32 classes) right hs f sp r.1)

-- ---- the lines of a template

module _ (q : TreeProgram) (s : Setting) (roles : List Hole) (hs : List (Attr Operand32)) (res : Attr Operand32) (spells : (j : ℕ) → Spells q (hole_at roles (suc j)) (attr_at hs res (suc j)))
    (owns : OwnSpells q s.own res) (related : (i : ℕ) → is_relation (hole_at roles i) ≡ true → IsBranchOf (attr_at hs res i) × CanGo hs) where
  lines_valid : (ls : List Line) (is_first : Bool) (p pr : Progress) → AllByRecursion (λ (l : Line). Names q hs l.pieces) ls → lines_judged (line_did s roles) is_first p ls ≡ Ok pr
      → AllByRecursion (λ (l : Line). is_instr (filled_line q l.pieces hs res) ≡ true) ls
  lines_valid [] is_first p pr n e = tt
  lines_valid (l ∷ ls) is_first p pr n e =
      let j = judged_is (line_did s roles) is_first l ls p pr e in (
        line_valid q s roles hs res spells owns related l.pieces n.0 is_first p.own p.last j.deed j.does,
        lines_valid ls false (progressed l.line p j.deed) pr n.1 j.then_so,
      )

own_spells : (q : TreeProgram) (g : Give) (hs : List (Attr Operand32)) (res : Attr Operand32) → IsResult l32 g hs res → OwnSpells q (own_of g) res
own_spells q give.Nothing hs a r = tt
own_spells q (give.Shape l) hs a r = tt
own_spells q give.Fresh hs (attr.Reg n) r = (n, refl, lt-ltb n 12 r.0)
own_spells q give.Reuse hs (attr.Reg n) r = (n, refl, lt-ltb n 12 r)
own_spells q give.Scratch hs (attr.Reg n) r = (n, refl, lt-ltb n 12 r.0)
own_spells q _ hs _ r = absurd r

rule_is : (classes : List Class) (rule : Rule) (e : EffectShape) → l32.effect classes rule ≡ Ok e
    → IsFound l32_lines (setting_of classes rule) (holes_of classes rule.right) (kind_at classes rule.left) rule.lines rule.give e
unfolding any.found
rule_is classes rule e h = template_is l32_lines (setting_of classes rule) (holes_of classes rule.right) (kind_at classes rule.left) rule.lines rule.give e h

-- ---- lines that save and reload

saved_is : (k : Kind) (l : Line) (e : EffectShape) → l32.spill_effect k l ≡ Ok e → IsFound l32_lines (saved_setting k) (saved_hole k ∷ []) None (l ∷ []) (saved_give k) e
unfolding any.saved_found
saved_is k l e h = template_is l32_lines (saved_setting k) (saved_hole k ∷ []) None (l ∷ []) (saved_give k) e h

role_is : (roles : List Hole) (j : ℕ) → hole_at roles (suc j) ≡ hole_or_other (slice_get roles j)
role_is roles j = ap (λ b. cond b hole_kind.Other (hole_or_other (slice_get roles (suc j - 1)))) (not_zero j) ∙ ap (λ n. hole_or_other (slice_get roles n)) (one_less j)

only_spells : (q : TreeProgram) (r : Hole) (a res : Attr Operand32) → Spells q r a → (j : ℕ) → Spells q (hole_at (r ∷ []) (suc j)) (attr_at (a ∷ []) res (suc j))
only_spells q r a res h zero = h
only_spells q r a res h (suc j) = subst (λ x. Spells q x (attr_at (a ∷ []) res (suc (suc j)))) (sym (role_is (r ∷ []) (suc j))) tt

saved_none : (k : Kind) → is_relation (saved_hole k) ≡ true → ⊥
saved_none kind.Reg e = cc
saved_none (kind.Value z) e = cc
saved_none (kind.Place z) e = cc
saved_none kind.Con e = cc
saved_none kind.Ea e = cc
saved_none kind.Nothing e = cc

none_nth : (k : Kind) (j : ℕ) → is_relation (hole_or_other (slice_get (saved_hole k ∷ []) j)) ≡ true → ⊥
none_nth k zero e = saved_none k e
none_nth k (suc j) e = cc

none_related : (k : Kind) (i : ℕ) → is_relation (hole_at (saved_hole k ∷ []) i) ≡ true → ⊥
none_related k i e = by (i == 0) e where
  by : (b : Bool) → is_relation (cond b hole_kind.Other (hole_or_other (slice_get (saved_hole k ∷ []) (i - 1)))) ≡ true → ⊥
  by true e = cc
  by false e = none_nth k (i - 1) e

spill : (q : TreeProgram) (k : Kind) (l : Line) (e : EffectShape) (a res : Attr Operand32) → IsSpill l → l32.spill_effect k l ≡ Ok e → Spells q (saved_hole k) a → OwnSpells q (saved_own k) res
    → is_instr (filled_line q l.pieces (a ∷ []) res) ≡ true
spill q k l e a res fits taken hole own =
    let F = saved_is k l e taken in
    (lines_valid q (saved_setting k) (saved_hole k ∷ []) (a ∷ []) res (only_spells q (saved_hole k) a res hole) own (λ i is. absurd (none_related k i is)) (l ∷ []) true start F.progress
    (spill_names l32 q (a ∷ []) l.pieces fits, tt) F.judged).0

value_spells : (q : TreeProgram) (size : Size) (a : Attr Operand32) → IsValue l32 size a → Spells q (saved_hole (kind.Value size)) a
value_spells q size a (operand o fit) = fit
value_spells q size a (register r long lt) = or_left (is_reg r) false (lt-ltb r 12 lt)

pub lines_are_written : LinesAreWritten
lines_are_written = record {
  rules = λ q classes rule e hs res can is taken fit restricted spelled result.
      (let F = rule_is classes rule e taken in
      all_of_map (λ i. l32.is_instr i ≡ true) (λ (l : Line). l32.instr q l hs res) rule.lines
      (lines_valid q (setting_of classes rule) (holes_of classes rule.right) hs res (λ j. hole_spells q can classes rule.right hs res j fit spelled) (own_spells q rule.give hs res result)
      (relate q classes rule.right hs res fit spelled) rule.lines true start F.progress
      (all_names l32 q classes rule.right hs (has_register (Some rule.give)) rule.lines can.functions fit spelled is.template.written) F.judged));
  value = λ q size l a w can s is lt. spill q (kind.Value size) l s.effect a (attr.Place (home w)) s.fits s.taken (value_spells q size a is) (home_memory w);
  place = λ q size l o w can s fit lt. spill q (kind.Place size) l s.effect (attr.Place o) (attr.Place (home w)) s.fits s.taken fit (home_memory w);
  address = λ q l o w can s fit lt. spill q kind.Ea l s.effect (attr.Ea o) (attr.Place (home w)) s.fits s.taken fit (home_memory w);
  reload = λ q l w r can s lt below.
      spill q kind.Reg l s.effect (attr.Value (home w)) (attr.Reg r) s.fits s.taken (or_right (is_register (home w)) (is_memory (home w)) (home_memory w)) (r, refl, lt-ltb r 12 lt);
}
