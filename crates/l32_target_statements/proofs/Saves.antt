-- A statement that saves the last call's result begins with the token that says in which local.
use Rattle.std.proofs.Common.{◌≡◌, ℕ, zero, suc, ◌<◌, ◌%◌, ◌^◌, true, List, [], ◌∷◌, Option, Some, None, refl, sym, ap, subst, ◌∙◌, arith}
use Rattle.std.specs.Prelude.{slice_get}
use Rattle.std.specs.Option.{option_map}
use Rattle.std.proofs.lemmas.Option.{same_Some, none-some}
use Rattle.l32_target_rules.specs.vax_target_meaning.specs.tree_core.specs.declared.token.Tok.{Tok}
use Rattle.l32_target_rules.specs.vax_target_meaning.specs.tree_core.specs.declared.token.Tok.TheVariants as tok
use Rattle.l32_target_rules.specs.vax_target_meaning.specs.tree_core.specs.declared.tree.Att.TheVariants as att
use Rattle.l32_target_rules.specs.vax_target_meaning.specs.tree_core.specs.declared.program.TreeProgram.{TreeProgram}
use Rattle.l32_target_rules.specs.vax_target_meaning.specs.tree_meaning.specs.State.{Extent}
use Rattle.l32_target_rules.specs.judging_laws.specs.md_reader.specs.declared.types.Kind.{Kind}
use Rattle.l32_target_rules.specs.judging_laws.specs.md_reader.specs.declared.types.Kind.TheVariants as kind
use Rattle.l32_target_rules.specs.judging_laws.specs.md_reader.specs.declared.types.Class.{Class}
use Rattle.l32_target_rules.specs.judging_laws.specs.md_reader.specs.declared.types.Rule.{Rule}
use Rattle.l32_target_rules.specs.judging_laws.specs.md_reader.specs.declared.types.Sym.{Sym}
use Rattle.l32_target_rules.specs.judging_laws.specs.md_reader.specs.declared.types.Sym.TheVariants as grammar_symbol
use Rattle.l32_target_rules.specs.judging_laws.specs.md_reader.specs.Patterns.{kind_at}
use Rattle.l32_target_rules.specs.judging_laws.specs.term_core.specs.Shape.{LastResult}
use Rattle.l32_target_rules.specs.judging_laws.specs.sel_terms.specs.Effects.{EffectShape}
use Rattle.l32_target_rules.specs.judging_laws.specs.sel_target.specs.declared.attr.Attr.{Attr}
use Rattle.l32_target_rules.specs.judging_laws.specs.sel_target.specs.declared.attr.Attr.TheVariants as attr
use Rattle.l32_target_rules.specs.judging_laws.specs.sel_target.specs.Values.{View}
use Rattle.l32_target_rules.specs.judging_laws.specs.sel_target.specs.EffectTerms.{begins_with_save}
use Rattle.l32_target_rules.specs.judging_laws.specs.sel_target.specs.Instances.{InFrame, SymFits, hole, Ready}
use Rattle.l32_target_rules.specs.judging_laws.specs.sel_target.specs.StatementLaws.{att_of}
use Rattle.l32_target_rules.specs.judging_laws.specs.vax_templates.specs.declared.setting.Hole.TheVariants as hole_kind
use Rattle.l32_target_rules.specs.judging_laws.specs.vax_templates.specs.Settings.{hole_of_token, hole_of_kind, hole_of, hole_or_other}
use Rattle.rule_heads.proofs.Firsts.{heads_are_first}
use Rattle.l32_target_rules.specs.l32_states.proofs.Sound.{reg_small}
use Rattle.l32_target_rules.specs.l32_templates.specs.l32_core.specs.declared.operand.Operand32.{Operand32}
use Rattle.l32_target_rules.specs.l32_templates.specs.l32_machine.specs.State.{State, reg}
use Rattle.l32_target_rules.specs.l32_templates.specs.Filled.{operand_in, word_operand, leaf_operand}
use Rattle.l32_target_rules.specs.l32_target_meaning.specs.L32.{l32}
use Rattle.l32_target_rules.specs.l32_target_operands.specs.Scenes.{Scene, worth, role_at, filling_at}
use Rattle.l32_target_rules.specs.Scene.{scene_of}
use Rattle.l32_target_rules.proofs.Instances.{filled_at, mapped_at, role_is}
use Rattle.l32_target_statements.specs.Laws.{IsDeed}
use Rattle.l32_target_statements.proofs.Ended.{filled_hole}

-- the symbol that saves is a token that does

token_saves : (t : Tok) → hole_of_token t ≡ hole_kind.Saved → t ≡ tok.Save
token_saves tok.Save e = refl
token_saves _ e = absurd cc

class_saves : (k : Option Kind) → hole_of_kind k ≡ hole_kind.Saved → ⊥
class_saves (Some kind.Reg) e = cc
class_saves _ e = cc

symbol_saves : (classes : List Class) (o : Option Sym) → hole_or_other (option_map (hole_of classes) o) ≡ hole_kind.Saved → o ≡ Some (grammar_symbol.Tok tok.Save)
symbol_saves classes None e = absurd cc
symbol_saves classes (Some (grammar_symbol.Tok t)) e = ap (λ (x : Tok). Some (grammar_symbol.Tok x)) (token_saves t e)
symbol_saves classes (Some (grammar_symbol.Class x)) e = absurd (class_saves (kind_at classes x) e)

begins : (right : List Sym) → slice_get right 0 ≡ Some (grammar_symbol.Tok tok.Save) → begins_with_save right ≡ true
begins [] e = absurd (none-some _ e)
begins (s ∷ right) e = subst (λ x. begins_with_save (x ∷ right) ≡ true) (sym (same_Some s (grammar_symbol.Tok tok.Save) e)) refl

-- its hole is that of a local
word_at : (q : TreeProgram) (classes : List Class) (h : Attr Operand32) (k : ℕ) → SymFits l32 classes (grammar_symbol.Tok tok.Save) h → att_of (Some h) ≡ Some (att.Slot k)
    → (operand_in q h ≡ word_operand k) × (k < 1024)
word_at q classes (attr.Token l) k fits e =
    let slot = same_Some l.att (att.Slot k) e in
    (ap (λ t. leaf_operand q t l.att) fits.0 ∙ ap (leaf_operand q tok.Save) slot, subst InFrame slot fits.2)
word_at q classes _ k fits e = absurd fits

module _ (q : TreeProgram) (f : Extent) (fs : List Extent) (classes : List Class) (rule : Rule) (e : EffectShape) (hs : List (Attr Operand32)) (res : Attr Operand32) (v : View) (m : State)
    (ready : Ready l32 q f fs classes rule e hs res v m) (deed : IsDeed e.act) where
  abbrev pub S : Scene
  S = scene_of q classes rule hs res v

  pub record SavesIn (i k : ℕ) : Type 0 where
    pub place : operand_in q (filling_at S i) ≡ word_operand k
    pub low : k < 1024
    pub result : worth S LastResult ≡ v.state.running.result

  result_is : begins_with_save rule.right ≡ true → worth S LastResult ≡ v.state.running.result
  result_is h =
      let is : reg m 0 ≡ v.state.running.result = ready.instance_of.answered h in
      let lt = reg_small m 0 ready.instance_of.agrees.sound in
      let low : reg m 0 % 2 ^ 32 ≡ reg m 0 = omega (arith, lt) in
      ap (λ x. x % 2 ^ 32) (sym is) ∙ low ∙ is

  pub saves_in : (i k : ℕ) → role_at S i ≡ hole_kind.Saved → att_of (hole hs i) ≡ Some (att.Slot k) → SavesIn i k
  saves_in zero k role at = absurd (none-some _ at)
  saves_in (suc j) k role at =
      let there = symbol_saves classes (slice_get rule.right j) (sym (role_is S j ∙ ap hole_or_other (mapped_at classes rule.right j)) ∙ role) in
      let x = filled_at classes rule.right hs j (grammar_symbol.Tok tok.Save) ready.instance_of.holes_fit there in
      let w = word_at q classes x.attribute k x.fits (ap att_of (sym x.at) ∙ at) in
      let first = heads_are_first.root classes _ rule.right j (grammar_symbol.Tok tok.Save) ready.instance_of.rule_fits.sides.sorted there refl in
      record {
        place = ap (operand_in q) (filled_hole q f fs classes rule e hs res v m ready deed (suc j) x.attribute x.at) ∙ w.0;
        low = w.1;
        result = result_is (begins rule.right (subst (λ y. slice_get rule.right y ≡ Some (grammar_symbol.Tok tok.Save)) first there));
      }
