-- A program has one text by a description: its selected code is one, so is the one that passes lead to, and so are that code's bytes.
use Rattle.std.proofs.Common.{◌≡◌, ℕ, List, [], ◌∷◌, sym, ap, ◌∙◌, subst}
use Rattle.c_lower_scheme.specs.Programs.{lowered}
use Rattle.c_lowered.proofs.Lowered.{sources_are_lowered}
use Rattle.vax_core.specs.declared.code.Code.{Code}
use Rattle.vax_core.specs.Text.{asm_text}
use Rattle.vax_passes.specs.Leads.{Leads}
use Rattle.gg_compile_codes.proofs.OneCode.{selected_codes_are_one}
use Rattle.gg_headline.specs.Texts.{EachMakesOne, TextsAreOne, TextsAreOfTrees}

module _ {P : Type 0} (wrote : P → ℕ → Code → Code → Type 0) (made : P → ℕ) where
  one_way : (before behind : List P) (c d e : Code) → EachMakesOne wrote made before behind → Leads wrote made before behind c d
      → Leads wrote made before behind c e → d ≡ e
  one_way [] [] c d e one h k = h ∙ sym k
  one_way [] (q ∷ qs) c d e one h k = absurd h
  one_way (p ∷ ps) [] c d e one h k = absurd h
  one_way (p ∷ ps) (q ∷ qs) c d e one (x, w, h) (y, v, k) =
      let same : x ≡ y = one.0 c x y w.says v.says in
      one_way ps qs y d e one.1 (subst (λ (z : Code). Leads wrote made ps qs z d) same h) k

  pub texts_are_one : (before behind : List P) → TextsAreOne wrote made before behind
  texts_are_one before behind one d p text other is also =
      let first : is.is_text.first ≡ also.is_text.first =
      selected_codes_are_one (lowered p) d is.is_text.first also.is_text.first is.is_text.selected also.is_text.selected in
      let led = subst (λ (c : Code). Leads wrote made before behind c is.is_text.code) first is.led in
      let same : is.is_text.code ≡ also.is_text.code =
      one_way before behind also.is_text.first is.is_text.code also.is_text.code one led also.led in
      is.is_text.read.reads.text ∙ ap asm_text same ∙ sym also.is_text.read.reads.text

pub texts_are_of_trees : TextsAreOfTrees
texts_are_of_trees d p text source is are reads =
    record { trees = lowered p; lowered = sources_are_lowered source p are reads; selected = is.selected }
