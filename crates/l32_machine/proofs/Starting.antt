-- A code without fault, and the state that its run begins in.
use Rattle.std.proofs.Common.{◌≡◌, ℕ, ◌≤◌, true, false, cond, List, [], ◌∷◌, Option, Some, None, sym, ap, ◌∙◌, arith}
use Rattle.std.specs.Prelude.{nat_lt}
use Rattle.std.proofs.lemmas.Bool.{le-ltb}
use Rattle.std.specs.Option.{option_or}
use Rattle.vax_core.specs.declared.code.AreaItem.{AreaItem}
use Rattle.vax_core.specs.First.{main_name}
use Rattle.vax_machine.specs.declared.area.Layout.{Layout}
use Rattle.vax_machine.specs.Area.{zeros, area_size, area_bytes}
use Rattle.vax_machine.specs.LaidOut.{IsLaidOut}
use Rattle.vax_machine.specs.Labels.{undefined_area_label}
use Rattle.l32_core.specs.declared.code.Item32.{Item32}
use Rattle.l32_core.specs.declared.code.Code32.{Code32}
use Rattle.l32_machine.specs.declared.frame.Frame32.{Frame32}
use Rattle.l32_machine.specs.declared.loading.Load32Fault.TheVariants as loading_fault
use Rattle.l32_machine.specs.Labels.{has_label, label_place, undefined_label}
use Rattle.l32_machine.specs.Loading.{too_large, or_undefined, or_double, undefined_name_of, double_label_of, Loads, first_frame, start}

pub loads_by : (c : Code32) (layout : List AreaItem) (items : List Item32) (l : Layout) → layout ≡ c.area → items ≡ c.items → double_label_of c ≡ None
    → None ≡ undefined_area_label layout layout → None ≡ undefined_label items layout items → true ≡ has_label items main_name → IsLaidOut layout l → Loads c
loads_by c layout items l e f double area code main laid =
    let area_is : undefined_area_label c.area c.area ≡ None = sym (area ∙ ap (λ (x : List AreaItem). undefined_area_label x x) e) in
    let code_is : undefined_label c.items c.area c.items ≡ None = sym (code ∙ ap (λ (x : List Item32). undefined_label x layout x) f
    ∙ ap (λ (x : List AreaItem). undefined_label c.items x c.items) e) in
    let names : undefined_name_of c ≡ None = ap (λ (o : Option (List ℕ)). option_or o (undefined_label c.items c.area c.items)) area_is ∙ code_is in
    let main_is : has_label c.items main_name ≡ true = sym (main ∙ ap (λ (x : List Item32). has_label x main_name) f) in
    let size : area_size layout ≤ 1048576 = omega (arith, laid.end, laid.small) in
    let fits : nat_lt 1048576 (area_size c.area) ≡ false = ap (λ (x : List AreaItem). nat_lt 1048576 (area_size x)) (sym e) ∙ le-ltb 1048576 (area_size layout) size in
    ap (λ (o : Option (List ℕ)). or_double o c) double
    ∙ ap (λ (o : Option (List ℕ)). or_undefined o c) names
    ∙ ap (λ b. cond b (too_large c) (Some loading_fault.NoMain)) main_is
    ∙ ap (λ b. cond b (Some loading_fault.TooLarge) None) fits

-- the state behind the call of `_main`
pub started : (c : Code32) (input : List ℕ) (layout : List AreaItem) (items : List Item32) (place : ℕ) (area stack : List ℕ) (frames : List Frame32) → layout ≡ c.area → items ≡ c.items
    → place ≡ label_place c.items main_name → area ≡ area_bytes c.area → stack ≡ zeros 8388608 → frames ≡ first_frame ∷ []
    → (record (start c input) { layout = layout; items = items; place = place; area = area; stack = stack; frames = frames }) ≡ start c input
started c input layout items place area stack frames e f p a s r =
    λ i. record (start c input) { layout = e i; items = f i; place = p i; area = a i; stack = s i; frames = r i }
