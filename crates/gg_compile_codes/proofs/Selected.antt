-- The selections of a program's functions, and of the whole.
use Rattle.std.proofs.Common.{◌≡◌, ℕ, suc, List, Some, refl}
use Rattle.std.specs.Prelude.{slice_get}
use Rattle.tree_core.specs.declared.program.TreeFn.{TreeFn}
use Rattle.tree_core.specs.declared.program.TreeProgram.{TreeProgram}
use Rattle.md_reader.specs.State.{Content}
use Rattle.lr_tables.specs.View.{TableView}
use Rattle.lr_tables.specs.Promises.{IsNumbered}
use Rattle.c_lower_scheme.specs.Programs.{lowered}
use Rattle.gg_compile_laws.specs.lr_checked.specs.Accepted.{NeverStops}
use Rattle.gg_compile_laws.specs.sel_parse_effect.specs.Claims.{IsFit}
use Rattle.vax_core.specs.declared.code.CodeItem.{CodeItem}
use Rattle.vax_target_meaning.specs.Vax.{vax}
use Rattle.gg_compile_laws.specs.gg_compile_code.specs.Selecting as computed
use Rattle.gg_compile_laws.specs.Ready.{HasReadyTrees}
use Rattle.gg_compile_laws.proofs.Typed.{typed_programs_are_ready}
use Rattle.gg_compile_codes.specs.Selecting.{AreSelectedFunctions, none, more}
use Rattle.gg_compile_codes.specs.Selected.{ComputedCodesAreSelected, SelectedCodesAreComputed, TypedCodesAreSelected, TypedCodesAreComputed}
use Rattle.gg_compile_codes.proofs.Trees.{body_selected, body_computed}

module _ (q : TreeProgram) (ok : HasReadyTrees q) where
  -- functions of the program
  abbrev AreOf : List TreeFn → Type 0
  AreOf gs = (k : ℕ) (g : TreeFn) → slice_get gs k ≡ Some g → (n : ℕ) × (slice_get q.functions n ≡ Some g)

  module _ (d : Content) (fit : IsFit vax d) where
    functions_selected : (gs : List TreeFn) (code : List CodeItem) → AreOf gs → computed.AreSelectedFunctions vax d q gs code
        → AreSelectedFunctions vax d q gs code
    functions_selected gs code of computed.none = none
    functions_selected gs code of (computed.more g hs part rest one others) =
        let at = of 0 g refl in
        more g hs part rest
        (record { words = one.words; body = one.body; selected = body_selected q ok at.0 g at.1 d fit one.words one.body one.selected; framed = one.framed })
        (functions_selected hs rest (λ k h e. of (suc k) h e) others)

  module _ (t : TableView) (fit : IsFit vax t.content) (numbered : IsNumbered t) (never : NeverStops t.content) where
    functions_computed : (gs : List TreeFn) (code : List CodeItem) → AreOf gs → AreSelectedFunctions vax t.content q gs code
        → computed.AreSelectedFunctions vax t.content q gs code
    functions_computed gs code of none = computed.none
    functions_computed gs code of (more g hs part rest one others) =
        let at = of 0 g refl in
        computed.more g hs part rest
        (record {
          words = one.words;
          body = one.body;
          selected = body_computed q ok at.0 g at.1 t fit numbered never one.words one.body one.selected;
          framed = one.framed;
        })
        (functions_computed hs rest (λ k h e. of (suc k) h e) others)

pub computed_codes_are_selected : ComputedCodesAreSelected
computed_codes_are_selected q d c ok fit s =
    record { functions = functions_selected q ok d fit q.functions c.items (λ k g e. (k, e)) s.functions; area = s.area }

pub selected_codes_are_computed : SelectedCodesAreComputed
selected_codes_are_computed q t c ok fit numbered never s =
    record { functions = functions_computed q ok t fit numbered never q.functions c.items (λ k g e. (k, e)) s.functions; area = s.area }

pub typed_codes_are_selected : TypedCodesAreSelected
typed_codes_are_selected p d c t few fit s = computed_codes_are_selected (lowered p) d c (typed_programs_are_ready p t few) fit s

pub typed_codes_are_computed : TypedCodesAreComputed
typed_codes_are_computed p t c typed few fit numbered never s =
    selected_codes_are_computed (lowered p) t c (typed_programs_are_ready p typed few) fit numbered never s
