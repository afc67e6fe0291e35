-- What it says of a template that it has an effect: how its lines were judged, and that what they read stands in the effect.
use Rattle.std.proofs.Common.{◌≡◌, ℕ, ◌++◌, Bool, true, false, cond, List, [], ◌∷◌, Option, Some, None, Ok, refl, sym, subst}
use Rattle.std.specs.Prelude.{◌||◌}
use Rattle.std.specs.List.{AllByRecursion, list_any, list_all}
use Rattle.std.proofs.lemmas.Bool.{and_parts}
use Rattle.gg_base.proofs.Facts.{err_ok, ok_same, either_is}
use Rattle.vax_target_runs.specs.md_reader_pieces.specs.declared.piece.Line.{Line}
use Rattle.vax_target_runs.specs.md_reader.specs.declared.types.Kind.{Kind}
use Rattle.vax_target_runs.specs.md_reader.specs.declared.types.Class.{Class}
use Rattle.vax_target_runs.specs.md_reader.specs.declared.types.Give.{Give}
use Rattle.vax_target_runs.specs.md_reader.specs.declared.types.Rule.{Rule}
use Rattle.vax_target_runs.specs.md_reader.specs.Patterns.{kind_at}
use Rattle.vax_target_runs.specs.term_core.specs.Shape.{Shape, Constant, Symbol, LastResult, Memory, Unary, Binary}
use Rattle.vax_target_runs.specs.term_core.specs.Order.{same_term}
use Rattle.vax_target_runs.specs.term_core.proofs.Alike.{term_same}
use Rattle.vax_target_runs.specs.sel_terms.specs.Effects.{ActShape, EffectShape}
use Rattle.vax_target_runs.specs.sel_terms.specs.Effects as act
use Rattle.vax_target_runs.specs.sel_terms_meaning.specs.Meaning.{terms_of_act}
use Rattle.vax_target_runs.specs.sel_target.specs.Values.{View, IsReadWhere}
use Rattle.vax_target_runs.specs.sel_target.specs.EffectTerms.{terms_of}
use Rattle.vax_target_runs.specs.vax_templates.specs.declared.setting.Hole.{Hole}
use Rattle.vax_target_runs.specs.vax_templates.specs.declared.setting.Setting.{Setting}
use Rattle.vax_target_runs.specs.vax_templates.specs.Settings.{holes_of, setting_of}
use Rattle.vax_target_runs.specs.vax_templates.specs.Progress.{Progress, start, at_line, lines_judged}
use Rattle.vax_target_runs.specs.vax_templates.specs.GiveLines.{given_by, given_line}
use Rattle.vax_target_runs.specs.vax_templates.specs.Dropped.{contains, act_contains, effect_contains, first_dropped, none_dropped}
use Rattle.vax_target_runs.specs.vax_templates.specs.Found.{with_divisors, checked, ended, template_found, found}
use Rattle.vax_target_runs.specs.vax_target_operands.proofs.Binds.{chained}
use Rattle.vax_target_runs.proofs.Law.{at_line_is}

-- how a template was judged
pub record IsFound (s : Setting) (roles : List Hole) (k : Option Kind) (ls : List Line) (g : Give) (e : EffectShape) : Type 0 where
  pub progress : Progress
  pub judged : lines_judged s roles true start ls ≡ Ok progress
  pub deed : ActShape
  pub given : given_by s roles k progress.own progress.last g ≡ Ok deed
  pub is : with_divisors progress deed ≡ e
  pub none_dropped_so : first_dropped e progress.reads ≡ None

none_is : (e x : EffectShape) (o : Option ℕ) → none_dropped e o ≡ Ok x → (o ≡ None) × (e ≡ x)
none_is e x None h = (refl, ok_same e x h)
none_is e x (Some line) h = absurd (err_ok _ x h)

pub template_is : (s : Setting) (roles : List Hole) (k : Option Kind) (ls : List Line) (g : Give) (e : EffectShape) → template_found s roles k ls g ≡ Ok e → IsFound s roles k ls g e
unfolding template_found ended
template_is s roles k ls g e h =
    let p = chained (lines_judged s roles true start ls) (ended s roles k (given_line ls g) g) e h in
    let d = chained (at_line (given_line ls g) (given_by s roles k p.first.own p.first.last g)) (λ (deed : ActShape). checked p.first (with_divisors p.first deed)) e p.then_so in
    let n = none_is (with_divisors p.first d.first) e (first_dropped (with_divisors p.first d.first) p.first.reads) d.then_so in
    record {
      progress = p.first;
      judged = p.is;
      deed = d.first;
      given = at_line_is (given_line ls g) (given_by s roles k p.first.own p.first.last g) d.first d.is;
      is = n.1;
      none_dropped_so = subst (λ x. first_dropped x p.first.reads ≡ None) n.1 n.0;
    }

pub rule_is : (classes : List Class) (rule : Rule) (e : EffectShape) → found classes rule ≡ Ok e
    → IsFound (setting_of classes rule) (holes_of classes rule.right) (kind_at classes rule.left) rule.lines rule.give e
unfolding found
rule_is classes rule e h = template_is (setting_of classes rule) (holes_of classes rule.right) (kind_at classes rule.left) rule.lines rule.give e h

-- ---- what stands in a term that can be read can be read

module _ (every : Bool) (v : View) where
  abbrev Safe : Shape → Type 0
  Safe t = IsReadWhere every v t

  itself : (part t : Shape) → Safe t → same_term part t ≡ true → Safe part
  itself part t h e = subst Safe (sym (term_same part t e)) h

  pub contained : (part t : Shape) → contains part t ≡ true → Safe t → Safe part
  contained part (Constant n) e h = itself part (Constant n) h e
  contained part (Symbol i) e h = itself part (Symbol i) h e
  contained part LastResult e h = itself part LastResult h e
  contained part (Memory z a) e h = either_is (same_term part (Memory z a)) (contains part a) e (itself part (Memory z a) h) (λ x. contained part a x h.0)
  contained part (Unary op t) e h = either_is (same_term part (Unary op t)) (contains part t) e (itself part (Unary op t) h) (λ x. contained part t x h)
  contained part (Binary op a b) e h =
      either_is (same_term part (Binary op a b)) (contains part a || contains part b) e (itself part (Binary op a b) h)
      (λ y. either_is (contains part a) (contains part b) y (λ x. contained part a x h.0) (λ x. contained part b x h.1))

  abbrev AllSafe : List Shape → Type 0
  AllSafe ts = AllByRecursion (λ (t : Shape). Safe t) ts

  act_contained : (a : ActShape) (part : Shape) → act_contains a part ≡ true → AllSafe (terms_of_act a) → Safe part
  act_contained (act.Value t) part e h = contained part t e h.0
  act_contained (act.Number t) part e h = contained part t e h.0
  act_contained (act.Address t) part e h = contained part t e h.0
  act_contained (act.PlaceHome z i) part e h = cc
  act_contained (act.PlaceAt z a) part e h = contained part a e h.0
  act_contained (act.StoreHome z i t) part e h = contained part t e h.0
  act_contained (act.StoreAt z a t) part e h = either_is (contains part a) (contains part t) e (λ x. contained part a x h.0) (λ x. contained part t x h.1.0)
  act_contained (act.Branch i a b) part e h = either_is (contains part a) (contains part b) e (λ x. contained part a x h.0) (λ x. contained part b x h.1.0)
  act_contained (act.Push t) part e h = contained part t e h.0
  act_contained act.Call part e h = cc
  act_contained (act.Save i) part e h = cc
  act_contained (act.Return t) part e h = contained part t e h.0
  act_contained act.Jump part e h = cc

  any_contained : (ts : List Shape) (part : Shape) → list_any (contains part) ts ≡ true → AllSafe ts → Safe part
  any_contained [] part e h = cc
  any_contained (t ∷ ts) part e h = either_is (contains part t) (list_any (contains part) ts) e (λ x. contained part t x h.0) (λ x. any_contained ts part x h.1)

  pub front_safe : (xs ys : List Shape) → AllSafe (xs ++ ys) → AllSafe xs
  front_safe [] ys h = tt
  front_safe (x ∷ xs) ys h = (h.0, front_safe xs ys h.1)

  pub back_safe : (xs ys : List Shape) → AllSafe (xs ++ ys) → AllSafe ys
  back_safe [] ys h = h
  back_safe (x ∷ xs) ys h = back_safe xs ys h.1

  effect_contained : (e : EffectShape) (part : Shape) → effect_contains e part ≡ true → AllSafe (terms_of e) → Safe part
  effect_contained e part is h =
      either_is (act_contains e.act part) (list_any (contains part) e.divisors) is
      (λ x. act_contained e.act part x (front_safe (terms_of_act e.act) e.divisors h)) (λ x. any_contained e.divisors part x (back_safe (terms_of_act e.act) e.divisors h))

  all_contained : (e : EffectShape) (ts : List Shape) → list_all (effect_contains e) ts ≡ true → AllSafe (terms_of e) → AllSafe ts
  all_contained e [] is h = tt
  all_contained e (t ∷ ts) is h =
      let b = and_parts (effect_contains e t) (list_all (effect_contains e) ts) is in (effect_contained e t b.0 h, all_contained e ts b.1 h)

  abbrev EachSafe : List (ℕ × List Shape) → Type 0
  EachSafe rs = AllByRecursion (λ (r : ℕ × List Shape). AllSafe r.1) rs

  pub reads_safe : (e : EffectShape) (rs : List (ℕ × List Shape)) → first_dropped e rs ≡ None → AllSafe (terms_of e) → EachSafe rs
  reads_safe e [] is h = tt
  reads_safe e (r ∷ rs) is h = by (list_all (effect_contains e) r.1) refl (λ more. reads_safe e rs more h) is where
    by : (b : Bool) → list_all (effect_contains e) r.1 ≡ b → (first_dropped e rs ≡ None → EachSafe rs) → cond b (first_dropped e rs) (Some r.0) ≡ None → EachSafe (r ∷ rs)
    by true kept others more = (all_contained e r.1 kept h, others more)
    by false kept others more = cc
