-- The law of lines that save.
use Rattle.std.proofs.Common.{◌≡◌, ℕ, ◌+◌, ◌*◌, ◌<◌, Option, Some, None, List, refl, ap, ◌∙◌, option_map}
use Rattle.std.specs.Prelude.{is_some}
use Rattle.gg_base.specs.declared.size.Size.{Size}
use Rattle.gg_base.specs.declared.size.Size.TheVariants.{Long}
use Rattle.gg_base.specs.Arithmetic.{add32, neg32}
use Rattle.gg_base.specs.Sizes.{low}
use Rattle.tree_core.specs.declared.program.TreeProgram.{TreeProgram}
use Rattle.vax_target_spelling.specs.tree_meaning.specs.State.{Extent}
use Rattle.vax_target_spelling.specs.md_reader.specs.declared.types.Kind.TheVariants as kind
use Rattle.term_core.specs.Shape.{Shape}
use Rattle.term_core.proofs.Values.{small}
use Rattle.vax_target_spelling.specs.sel_target.specs.declared.attr.Attr.{Attr}
use Rattle.vax_target_spelling.specs.sel_target.specs.declared.attr.Attr.TheVariants as attr
use Rattle.vax_target_spelling.specs.sel_target.specs.Meaning.{WordAt}
use Rattle.vax_target_spelling.specs.sel_target.specs.Values.{View, value, term_state}
use Rattle.vax_target_spelling.specs.sel_target.specs.Outcomes.{Sets, SetsName}
use Rattle.vax_target_spelling.specs.sel_target.specs.SavingLaws.{IsSet, IsSlot, saving}
use Rattle.md_reader_pieces.specs.declared.piece.Line.{Line}
use Rattle.vax_core.specs.declared.register.Reg.TheVariants.{Fp}
use Rattle.vax_core.specs.declared.operand.Operand.{Operand}
use Rattle.vax_core.specs.Homes.{at_home}
use Rattle.vax_machine.specs.State.{State, reg}
use Rattle.vax_machine.specs.Memory.{read}
use Rattle.vax_target_spelling.specs.vax_states.specs.Stack.{word_of}
use Rattle.vax_target_spelling.specs.vax_target_meaning.specs.Reading.{number_of, number_at, named, moved, names}
use Rattle.vax_target_spelling.specs.vax_target_meaning.specs.Vax.{vax}
use Rattle.vax_target_spelling.proofs.Own.{home_word}
use Rattle.vax_target_saving.specs.Laws.{with_word, LinesSave}
use Rattle.vax_target_saving.proofs.Words.{IsFrameWord, frame_word, read_there}
use Rattle.vax_target_saving.proofs.Storing.{slot_address, free_words_store}
use Rattle.vax_target_saving.proofs.Scene.{sees, value_means, place_means, address_means}
use Rattle.vax_target_saving.proofs.Lines.{Stored, line_stores}

unmoved : (m : State) (size : Size) (x : Option ℕ) → option_map (moved m None size) x ≡ x
unmoved m size None = refl
unmoved m size (Some a) = refl

-- the place whose address a slot holds
deferred_names : (m : State) (w : ℕ) (size : Size) → w < 1024 → add32 (neg32 (4 * (w + 1))) (reg m Fp) ≡ word_of (reg m Fp) w →
    names (at_home w) size m ≡ number_of (read m (word_of (reg m Fp) w) Long)
deferred_names m w size lt e =
    unmoved m size (named m (at_home w).base)
    ∙ ap (λ b. number_at b m (add32 (neg32 (4 * (w + 1))) (reg m Fp)) Long) (ap (λ (o : Option ℕ). is_some o) (home_word w lt))
    ∙ ap (λ a. number_of (read m a Long)) e

module _ (q : TreeProgram) (f : Extent) (fs : List Extent) (v : View) (n : ℕ) (t : Shape) (m : State) (set : IsSet vax q f fs v n t m) (w : ℕ) (slot : IsSlot vax f w) where
  frame : IsFrameWord m w
  frame = frame_word q.objects f fs v.state m set.agrees w slot.free.1

  sets : (size : Size) (l : Line) (a : Attr Operand) → Stored q l a w size (value v t) m →
      Sets vax (saving vax q l a w) (WordAt w) q size (attr.Value (vax.slot w)) (low size (value v t)) m
  sets size l a s =
      let g = free_words_store q f fs v.state m w size (value v t) s.conditions set.agrees slot.free (small (term_state v) t) in
      record { state = with_word m w size (value v t) s.conditions; ran = s.ran; gets = g.reads slot.low; keeps = g.keeps }

  sets_name : (l : Line) (a : Attr Operand) → Stored q l a w Long (value v t) m →
      SetsName vax (saving vax q l a w) (WordAt w) (vax.slot_deferred w) (value v t) m
  sets_name l a s =
      let g = free_words_store q f fs v.state m w Long (value v t) s.conditions set.agrees slot.free (small (term_state v) t) in
      record {
        state = with_word m w Long (value v t) s.conditions;
        ran = s.ran;
        gets = λ size. deferred_names (with_word m w Long (value v t) s.conditions) w size slot.low (slot_address m w frame)
            ∙ ap number_of (read_there m w frame Long (value v t) s.conditions (small (term_state v) t));
        keeps = g.keeps;
      }

pub lines_save : LinesSave
lines_save = record {
  values = λ q f fs size l s a w n v m is set slot e lt.
      sets q f fs v n s.term m set w slot size l a
      (line_stores q (kind.Value size) a w v m (frame q f fs v n s.term m set w slot) slot.low refl l s.effect size s.term
      (sees q (kind.Value size) a (attr.Place (vax.slot w)) v m (value_means q size a (attr.Place (vax.slot w)) n v m is set.symbol e lt) f fs set.agrees
      (record { word = w; low = slot.low; is = refl }))
      s.taken s.act s.undivided set.read);
  places = λ q f fs size l s o w n v m fit set slot e lt.
      sets_name q f fs v n s.term m set w slot l (attr.Place o)
      (line_stores q (kind.Place size) (attr.Place o) w v m (frame q f fs v n s.term m set w slot) slot.low refl l s.effect Long s.term
      (sees q (kind.Place size) (attr.Place o) (attr.Place (vax.slot w)) v m (place_means q size o (attr.Place (vax.slot w)) n v m set.symbol e lt) f fs set.agrees
      (record { word = w; low = slot.low; is = refl }))
      s.taken s.act s.undivided set.read);
  addresses = λ q f fs l s o w n v m fit set slot e lt.
      sets_name q f fs v n s.term m set w slot l (attr.Ea o)
      (line_stores q kind.Ea (attr.Ea o) w v m (frame q f fs v n s.term m set w slot) slot.low refl l s.effect Long s.term
      (sees q kind.Ea (attr.Ea o) (attr.Place (vax.slot w)) v m (address_means q o (attr.Place (vax.slot w)) n v m fit set.symbol e lt) f fs set.agrees
      (record { word = w; low = slot.low; is = refl }))
      s.taken s.act s.undivided set.read);
}
