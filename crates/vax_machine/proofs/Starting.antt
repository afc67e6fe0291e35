-- A code without fault, and the state that its run begins in.
use Rattle.std.proofs.Common.{◌≡◌, ℕ, ◌≤◌, true, false, cond, List, [], Option, Some, None, Result, Ok, Err, refl, sym, ap, subst, ◌∙◌, arith}
use Rattle.std.specs.Prelude.{nat_lt}
use Rattle.std.proofs.lemmas.Bool.{le-ltb}
use Rattle.std.specs.Option.{option_or}
use Rattle.vax_core.specs.declared.code.AreaItem.{AreaItem}
use Rattle.vax_core.specs.declared.code.CodeItem.{CodeItem}
use Rattle.vax_core.specs.declared.code.Code.{Code}
use Rattle.vax_core.specs.First.{main_name}
use Rattle.vax_machine.specs.declared.turn.Stop.{Stop}
use Rattle.vax_machine_live.specs.declared.frame.Frame.{Frame}
use Rattle.vax_machine.specs.declared.area.Layout.{Layout}
use Rattle.vax_machine.specs.declared.loading.LoadFault.TheVariants as loading_fault
use Rattle.vax_machine.specs.State.{State}
use Rattle.vax_machine.specs.Area.{zeros, area_size, area_bytes}
use Rattle.vax_machine.specs.LaidOut.{IsLaidOut}
use Rattle.vax_machine.specs.Labels.{has_label, label_place, undefined_label, undefined_area_label}
use Rattle.vax_machine.specs.Calls.{called}
use Rattle.vax_machine.specs.Loading.{too_large, or_undefined, or_double, undefined_name_of, double_label_of, Loads, blank, begun, start, SameFrom, Stands}

same_from : (o : Option Stop) (m : State) → m.over ≡ o → SameFrom o m m
same_from None m e = refl
same_from (Some x) m e = e

pub began : (old new : State) (did : Result State Stop) → did ≡ Ok new → Stands new (begun old did)
began old new did e = subst (λ (r : Result State Stop). Stands new (begun old r)) (sym e) (same_from new.over new refl)

pub broke : (old new : State) (stop : Stop) (did : Result State Stop) → did ≡ Err stop → new.over ≡ Some stop → Stands new (begun old did)
broke old new stop did e h = subst (λ (r : Result State Stop). Stands new (begun old r)) (sym e) h

pub loads_by : (c : Code) (layout : List AreaItem) (items : List CodeItem) (l : Layout) → layout ≡ c.area → items ≡ c.items → double_label_of c ≡ None
    → None ≡ undefined_area_label layout layout → None ≡ undefined_label items layout items → true ≡ has_label items main_name → IsLaidOut layout l → Loads c
loads_by c layout items l e f double area code main laid =
    let area_is : undefined_area_label c.area c.area ≡ None = sym (area ∙ ap (λ (x : List AreaItem). undefined_area_label x x) e) in
    let code_is : undefined_label c.items c.area c.items ≡ None = sym (code ∙ ap (λ (x : List CodeItem). undefined_label x layout x) f
    ∙ ap (λ (x : List AreaItem). undefined_label c.items x c.items) e) in
    let names : undefined_name_of c ≡ None = ap (λ (o : Option (List ℕ)). option_or o (undefined_label c.items c.area c.items)) area_is ∙ code_is in
    let main_is : has_label c.items main_name ≡ true = sym (main ∙ ap (λ (x : List CodeItem). has_label x main_name) f) in
    let size : area_size layout ≤ 1048576 = omega (arith, laid.end, laid.small) in
    let fits : nat_lt 1048576 (area_size c.area) ≡ false = ap (λ (x : List AreaItem). nat_lt 1048576 (area_size x)) (sym e) ∙ le-ltb 1048576 (area_size layout) size in
    ap (λ (o : Option (List ℕ)). or_double o c) double
    ∙ ap (λ (o : Option (List ℕ)). or_undefined o c) names
    ∙ ap (λ b. cond b (too_large c) (Some loading_fault.NoMain)) main_is
    ∙ ap (λ b. cond b (Some loading_fault.TooLarge) None) fits

-- the state before the call of `_main`
pub blank_is : (c : Code) (input : List ℕ) (layout : List AreaItem) (items : List CodeItem) (area stack : List ℕ) (frames : List Frame) → layout ≡ c.area → items ≡ c.items → area
    ≡ area_bytes c.area → stack ≡ zeros 8388608 → frames ≡ []
    → (record (blank c input) { layout = layout; items = items; area = area; stack = stack; frames = frames }) ≡ blank c input
blank_is c input layout items area stack frames e f a s r =
    λ i. record (blank c input) { layout = e i; items = f i; area = a i; stack = s i; frames = r i }

pub started : (c : Code) (input : List ℕ) (items : List CodeItem) (m new : State) (main : ℕ) → m ≡ blank c input → items ≡ c.items → main ≡ label_place items main_name
    → Stands new (begun m (called m 0 main None)) → Stands new (start c input)
started c input items m new main e f g h =
    let main_is : main ≡ label_place c.items main_name = g ∙ ap (λ (x : List CodeItem). label_place x main_name) f in
    subst (λ (x : State). Stands new (begun x (called x 0 (label_place c.items main_name) None))) e (subst (λ (p : ℕ). Stands new (begun m (called m 0 p None))) main_is h)
