-- The laws, in the words of the claims.
use Rattle.std.proofs.Common.{◌≡◌, ℕ, ◌<◌, List, Option, Some, refl, subst}
use Rattle.gg_base.specs.declared.size.Size.TheVariants.{Long}
use Rattle.tree_core.specs.declared.program.TreeProgram.{TreeProgram}
use Rattle.tree_meaning.specs.State.{State, Extent}
use Rattle.tree_meaning.specs.Values.{Sight}
use Rattle.md_reader.specs.declared.types.Kind.{Kind}
use Rattle.md_reader.specs.declared.types.Kind.TheVariants as kind
use Rattle.md_reader.specs.State.{Content}
use Rattle.sel_terms_trees.specs.Senses.{Sense, OfNumber}
use Rattle.sel_target.specs.declared.attr.Attr.{Attr}
use Rattle.sel_target.specs.declared.attr.Attr.TheVariants as attr
use Rattle.sel_target.specs.Meaning.{Meaning}
use Rattle.sel_target.specs.Laws.{IsLawful}
use Rattle.sel_target.specs.Symbols.{reload_line}
use Rattle.sel_parse_stands.specs.Stands as stands
use Rattle.sel_parse_stands.specs.Stands.{ClassIs}
use Rattle.sel_parse_stands.specs.Claims.{EntriesAreSaved, RegistersAreReloaded}
use Rattle.sel_parse_stands.proofs.Saving.{entry_saved, register_loaded}

pub entries_are_saved : {O I S F : Type 0} (of : Meaning O I S F) → IsLawful of → EntriesAreSaved of
entries_are_saved of law q d first f fs t s m0 m frame lines sees x k a v w from below is holding =
    let r = entry_saved of law q d first f fs t s m0 frame lines m sees w from below x k a v is holding in
    record { state = r.state; ran = r.ran; keeps = r.keeps; is = r.is }

record Slot {O I S F : Type 0} (of : Meaning O I S F) (w n : ℕ) (m : S) : Type 0 where
  low : w < 1024
  reads : of.reads (of.slot w) Long m ≡ Some n

slot_of : {O I S F : Type 0} (of : Meaning O I S F) (q : TreeProgram) (d : Content) (first : ℕ) (f : Extent) (fs : List Extent) (t : State) (s : Sight) (m0 m : S)
    (k : Option Kind) (a : Attr O) (v : Sense) (w n : ℕ) → ClassIs of q d first f fs t s m0 m k a v → a ≡ attr.InSlot w → v ≡ OfNumber n → Slot of w n m
slot_of of q d first f fs t s m0 m k a v w n (stands.in_slot u x le lt is) e g =
    let same_word : u ≡ w = cc in
    let same_number : x ≡ n = cc in
    record {
      low = subst (λ j. j < 1024) same_word lt;
      reads = subst (λ j. of.reads (of.slot j) Long m ≡ Some n) same_word (subst (λ j. of.reads (of.slot u) Long m ≡ Some j) same_number is);
    }
slot_of of q d first f fs t s m0 m k a v w n _ e g = absurd (cc)

pub registers_are_reloaded : {O I S F : Type 0} (of : Meaning O I S F) → IsLawful of → RegistersAreReloaded of
registers_are_reloaded of law q d first f fs t s m0 m frame lines sees w r n lt is =
    let at = slot_of of q d first f fs t s m0 m (Some kind.Reg) (attr.InSlot w) (OfNumber n) w n is refl refl in
    let it = register_loaded of law q d first f fs t s m0 frame m sees (reload_line d) (lines.reloads) r n w lt at.reads at.low in
    record { state = it.state; ran = it.ran; keeps = it.keeps; is = it.is }
