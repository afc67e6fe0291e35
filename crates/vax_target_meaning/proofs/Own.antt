-- A hole alone is its symbol's place.
use Rattle.std.proofs.Common.{◌≡◌, ℕ, Some}
use Rattle.vax_states.specs.tree_core.specs.declared.token.Tok.{Tok}
use Rattle.vax_states.specs.tree_core.specs.declared.tree.Att.{Att}
use Rattle.vax_states.specs.tree_core.specs.declared.program.TreeProgram.{TreeProgram}
use Rattle.vax_states.specs.tree_core.specs.declared.token.Tok.TheVariants as tok
use Rattle.vax_states.specs.tree_core.specs.declared.tree.Att.TheVariants as att
use Rattle.vax_templates.specs.sel_target.specs.declared.attr.Attr.{Attr}
use Rattle.vax_templates.specs.sel_target.specs.declared.attr.Attr.TheVariants as attr
use Rattle.vax_templates.specs.sel_target.specs.Values.{own_operand, token_operand, slot_place}
use Rattle.vax_templates.specs.vax_core.specs.declared.operand.Operand.{Operand}
use Rattle.vax_templates.specs.Filled.{word_operand, slot_operand, leaf_operand, operand_in}
use Rattle.vax_target_meaning.specs.Vax.{vax}

slot_alone : (x : Tok) (k : ℕ) (o : Operand) → slot_place word_operand (slot_operand tok.Arg) x k ≡ Some o → slot_operand x k ≡ o
slot_alone tok.Loc k o e = cc
slot_alone tok.Arg k o e = cc
slot_alone x k o e = absurd (cc)

token_alone : (q : TreeProgram) (x : Tok) (a : Att) (o : Operand) → token_operand vax x a ≡ Some o → leaf_operand q x a ≡ o
token_alone q x (att.Slot k) o e = slot_alone x k o e
token_alone q x _ o e = absurd (cc)

pub attr_alone : (q : TreeProgram) (h : Attr Operand) (o : Operand) → own_operand vax h ≡ Some o → operand_in q h ≡ o
attr_alone q (attr.Place p) o e = cc
attr_alone q (attr.Token l) o e = token_alone q l.tok l.att o e
attr_alone q _ o e = absurd (cc)
