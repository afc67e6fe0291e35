-- The laws: lines of rules, lines that save and reload, and slots.
use Rattle.std.proofs.Common.{◌≡◌, [], ◌∷◌, Some, None, Ok, refl}
use Rattle.gg_base.specs.declared.size.Size.{Size}
use Rattle.tree_core.specs.declared.program.TreeProgram.{TreeProgram}
use Rattle.vax_target_meaning.specs.md_reader_pieces.specs.declared.piece.Line.{Line}
use Rattle.vax_target_meaning.specs.md_reader.specs.declared.types.Kind.{Kind}
use Rattle.vax_target_meaning.specs.md_reader.specs.declared.types.Kind.TheVariants as kind
use Rattle.vax_target_meaning.specs.md_reader.specs.Patterns.{kind_at}
use Rattle.vax_target_meaning.specs.md_reader.specs.RuleForms.{has_register}
use Rattle.vax_target_meaning.specs.md_reader.specs.Valid.{IsSpill}
use Rattle.vax_target_meaning.specs.sel_terms.specs.Effects.{EffectShape}
use Rattle.vax_target_meaning.specs.sel_target.specs.declared.attr.Attr.{Attr}
use Rattle.vax_target_meaning.specs.sel_target.specs.declared.attr.Attr.TheVariants as attr
use Rattle.vax_target_meaning.specs.sel_target.specs.SavingLaws.{IsValue, operand, register}
use Rattle.vax_core.specs.declared.operand.Operand.{Operand}
use Rattle.vax_core.specs.Homes.{home, at_home}
use Rattle.vax_target_meaning.specs.vax_templates.specs.Settings.{holes_of, setting_of, saved_hole, saved_own, saved_setting}
use Rattle.vax_target_meaning.specs.vax_templates.specs.Found.{found, saved_found, saved_give}
use Rattle.vax_target_meaning.specs.Vax.{vax}
use Rattle.vax_target_writing.specs.Laws.{LinesAreWritten, SlotsFit, SpillsAreWritten, IsValid}
use Rattle.vax_target_writing.proofs.Each.{all_of_map}
use Rattle.vax_target_writing.proofs.Operands.{Spells, OwnSpells, readable_memory, writable_memory}
use Rattle.vax_target_writing.proofs.Fitting.{home_memory, at_home_plain, memory, plain, all_spell, own_spells}
use Rattle.vax_target_writing.proofs.Naming.{all_names, spill_names}
use Rattle.vax_target_writing.proofs.Written.{template_written}
use Rattle.vax_target_writing.proofs.Given.{place_fits}

pub lines_are_written : LinesAreWritten
unfolding found
lines_are_written q classes rule e hs res can is taken fit sp result =
    all_of_map IsValid (λ (l : Line). vax.instr q l hs res) rule.lines
    (template_written q (setting_of classes rule) (holes_of classes rule.right) hs res (kind_at classes rule.left) rule.lines rule.give e
    (all_names q classes rule.right hs (has_register (Some rule.give)) rule.lines can fit sp is.template.written)
    (all_spell q can classes rule.right hs fit sp, own_spells q can rule.give hs res result) taken)

pub slots_fit : SlotsFit
slots_fit = record {
  value = λ size w lt. readable_memory (home w) (home_memory w);
  place = λ size w lt. place_fits (at_home w) (at_home_plain w).memory;
  address = λ w lt. place_fits (at_home w) (at_home_plain w).memory;
}

-- a line that saves or reloads
spill : (q : TreeProgram) (k : Kind) (l : Line) (e : EffectShape) (a res : Attr Operand) → IsSpill l → saved_found k l ≡ Ok e →
    Spells q (saved_hole k) a → OwnSpells q (saved_own k) res → IsValid (vax.instr q l (a ∷ []) res)
unfolding saved_found
spill q k l e a res is taken holes own =
    (template_written q (saved_setting k) (saved_hole k ∷ []) (a ∷ []) res None (l ∷ []) (saved_give k) e (spill_names q (a ∷ []) l.pieces is, tt)
    ((holes, tt), own) taken).0

value_spells : (q : TreeProgram) (size : Size) (a : Attr Operand) → IsValue vax size a → Spells q (saved_hole (kind.Value size)) a
value_spells q size a (operand o fit) = fit
value_spells q size a (register r long lt) = refl

pub spills_are_written : SpillsAreWritten
spills_are_written = record {
  value = λ q size l a w can s is lt.
      spill q (kind.Value size) l s.effect a (attr.Place (home w)) s.fits s.taken (value_spells q size a is) (writable_memory (home w) (home_memory w));
  place = λ q size l o w can s fit lt.
      spill q (kind.Place size) l s.effect (attr.Place o) (attr.Place (home w)) s.fits s.taken (memory o fit) (writable_memory (home w) (home_memory w));
  address = λ q l o w can s fit lt.
      spill q kind.Ea l s.effect (attr.Ea o) (attr.Place (home w)) s.fits s.taken (plain o fit) (writable_memory (home w) (home_memory w));
  reload = λ q l w r can s lt below.
      spill q kind.Reg l s.effect (attr.Value (home w)) (attr.Reg r) s.fits s.taken (readable_memory (home w) (home_memory w)) (record { place = refl; readable = refl });
}
