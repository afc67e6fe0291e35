-- Codes of which each cut is shown are accepted.
use Rattle.std.proofs.Common.{◌≡◌, ℕ, List, Some, subst, ap, ◌∙◌}
use Rattle.std.specs.Prelude.{slice_get}
use Rattle.vax_core.specs.declared.code.AreaItem.{AreaItem}
use Rattle.vax_core.specs.declared.code.Code.{Code}
use Rattle.vax_core.specs.declared.code.CodeItem.{CodeItem}
use Rattle.vax_core.specs.First.{main_name}
use Rattle.vax_machine.specs.Labels.{label_place}
use Rattle.vax_machine.specs.Loading.{blank}
use Rattle.vax_pairs_checked.specs.Masks.{KeepsMasks}
use Rattle.vax_pairs_checked.specs.Accepted.{Cut, IsCut, IsShown, AreAccepted}
use Rattle.vax_pairs_same.specs.Parts.{BothEnter}
use Rattle.vax_pairs_same.proofs.Facts.{enters_by}

abbrev code : List AreaItem → List CodeItem → Code
code area items = record { area = area; items = items }

code_is : (c : Code) (area : List AreaItem) (items : List CodeItem) → area ≡ c.area → items ≡ c.items → code area items ≡ c
code_is c area items e f = ap (λ (xs : List AreaItem). code xs items) e ∙ ap (λ (xs : List CodeItem). code c.area xs) f

accepted_of : (cuts : List Cut) (c d : Code) → d.area ≡ c.area → KeepsMasks c.items → KeepsMasks d.items
    → BothEnter cuts c.items d.items (label_place c.items main_name) (label_place d.items main_name)
    → ((i : ℕ) (cut : Cut) → slice_get cuts i ≡ Some cut → IsShown cuts c d cut) → AreAccepted cuts c d
accepted_of cuts c d same keeps others_keep enter shown = record {
  area = same;
  masks = keeps;
  others_masks = others_keep;
  main = λ input. enters_by (IsCut cuts) c.items d.items cuts (label_place c.items main_name) (label_place d.items main_name)
      (blank c input).registers (blank d input).registers enter;
  shown = shown;
}

-- parts of the codes as they were walked
pub accepted_by : (cuts : List Cut) (c d : Code) (area others_area : List AreaItem) (items others : List CodeItem) → area ≡ c.area
    → others_area ≡ d.area → items ≡ c.items → others ≡ d.items → d.area ≡ c.area → KeepsMasks c.items → KeepsMasks d.items
    → BothEnter cuts items others (label_place items main_name) (label_place others main_name)
    → ((i : ℕ) (cut : Cut) → slice_get cuts i ≡ Some cut → IsShown cuts (code area items) (code others_area others) cut) → AreAccepted cuts c d
accepted_by cuts c d area others_area items others a b e f same keeps others_keep enter shown =
    let first = code_is c area items a e in
    let second = code_is d others_area others b f in
    accepted_of cuts c d same keeps others_keep
    (subst (λ (ys : List CodeItem). BothEnter cuts c.items ys (label_place c.items main_name) (label_place ys main_name)) f
    (subst (λ (xs : List CodeItem). BothEnter cuts xs others (label_place xs main_name) (label_place others main_name)) e enter))
    (λ i cut at. subst (λ (y : Code). IsShown cuts c y cut) second
    (subst (λ (x : Code). IsShown cuts x (code others_area others) cut) first (shown i cut at)))
