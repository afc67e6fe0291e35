-- How a template was judged that has an effect, and that what its lines read stands in the effect.
use Rattle.std.proofs.Common.{◌≡◌, ℕ, ◌++◌, Bool, true, false, cond, List, [], ◌∷◌, Option, Some, None, Result, Ok, Err, refl, sym, ap, subst}
use Rattle.std.specs.Prelude.{◌||◌}
use Rattle.std.specs.List.{list_any, list_all}
use Rattle.std.proofs.lemmas.Bool.{and_parts}
use Rattle.judging_laws.specs.vax_templates.specs.gg_base.proofs.Facts.{err_ok, ok_same, either_is}
use Rattle.judging_laws.specs.md_reader_pieces.specs.declared.piece.Line.{Line}
use Rattle.judging_laws.specs.md_reader.specs.declared.types.Kind.{Kind}
use Rattle.judging_laws.specs.md_reader.specs.declared.types.Give.{Give}
use Rattle.judging_laws.specs.term_core.specs.Shape.{Shape, Constant, Symbol, LastResult, Memory, Unary, Binary}
use Rattle.judging_laws.specs.term_core.specs.Order.{same_term}
use Rattle.judging_laws.specs.term_core.proofs.Alike.{term_same}
use Rattle.judging_laws.specs.sel_terms.specs.Effects.{ActShape, EffectShape}
use Rattle.judging_laws.specs.sel_terms.specs.Effects as act
use Rattle.judging_laws.specs.sel_target.specs.sel_terms_meaning.specs.Meaning.{terms_of_act}
use Rattle.judging_laws.specs.sel_target.specs.declared.fault.TemplateKind.{TemplateKind}
use Rattle.judging_laws.specs.sel_target.specs.Values.{View, IsReadWhere}
use Rattle.judging_laws.specs.sel_target.specs.EffectTerms.{terms_of}
use Rattle.judging_laws.specs.vax_templates.specs.declared.setting.Hole.{Hole}
use Rattle.judging_laws.specs.vax_templates.specs.declared.setting.Setting.{Setting}
use Rattle.judging_laws.specs.vax_templates.specs.Progress.{start, at_line}
use Rattle.judging_laws.specs.vax_templates.specs.GiveLines.{given_line}
use Rattle.judging_laws.specs.vax_templates.specs.Dropped.{contains, act_contains, effect_contains, first_dropped, none_dropped}
use Rattle.judging_laws.specs.vax_templates.specs.Found.{with_divisors, checked}
use Rattle.judging_laws.specs.template_judging.specs.Meaning.{LineMeaning}
use Rattle.judging_laws.specs.template_judging.specs.Lines.{lines_judged, given_by}
use Rattle.judging_laws.specs.template_judging.specs.Found.{ended, template_found}
use Rattle.judging_laws.proofs.Binds.{chained}
use Rattle.judging_effects.specs.Laws.{IsFound, AllSafe, EachSafe, EffectsHoldReads}

pub at_line_is : {A : Type 0} (line : ℕ) (r : Result A TemplateKind) (x : A) → at_line line r ≡ Ok x → r ≡ Ok x
at_line_is line (Ok y) x e = ap (λ z. Ok z) (ok_same y x e)
at_line_is line (Err k) x e = absurd (err_ok _ x e)

none_is : (e x : EffectShape) (o : Option ℕ) → none_dropped e o ≡ Ok x → (o ≡ None) × (e ≡ x)
none_is e x None h = (refl, ok_same e x h)
none_is e x (Some line) h = absurd (err_ok _ x h)

pub template_is : (of : LineMeaning) (s : Setting) (roles : List Hole) (k : Option Kind) (ls : List Line) (g : Give) (e : EffectShape) → template_found of s roles k ls g ≡ Ok e
    → IsFound of s roles k ls g e
unfolding template_found ended
template_is of s roles k ls g e h =
    let p = chained (lines_judged (of.did s roles) true start ls) (ended (of.gives s roles k) (given_line ls g) g) e h in
    let d = chained (at_line (given_line ls g) (given_by (of.gives s roles k) p.first.own p.first.last g)) (λ (deed : ActShape). checked p.first (with_divisors p.first deed)) e p.then_so in
    let n = none_is (with_divisors p.first d.first) e (first_dropped (with_divisors p.first d.first) p.first.reads) d.then_so in
    record {
      progress = p.first;
      judged = p.is;
      deed = d.first;
      given = at_line_is (given_line ls g) (given_by (of.gives s roles k) p.first.own p.first.last g) d.first d.is;
      is = n.1;
      none_dropped_so = subst (λ x. first_dropped x p.first.reads ≡ None) n.1 n.0;
    }

-- ---- what stands in a term that can be read can be read

module _ (every : Bool) (v : View) where
  abbrev Safe : Shape → Type 0
  Safe t = IsReadWhere every v t

  itself : (part t : Shape) → Safe t → same_term part t ≡ true → Safe part
  itself part t h e = subst Safe (sym (term_same part t e)) h

  pub contained : (part t : Shape) → contains part t ≡ true → Safe t → Safe part
  contained part (Constant n) e h = itself part (Constant n) h e
  contained part (Symbol i) e h = itself part (Symbol i) h e
  contained part LastResult e h = itself part LastResult h e
  contained part (Memory z a) e h = either_is (same_term part (Memory z a)) (contains part a) e (itself part (Memory z a) h) (λ x. contained part a x h.0)
  contained part (Unary op t) e h = either_is (same_term part (Unary op t)) (contains part t) e (itself part (Unary op t) h) (λ x. contained part t x h)
  contained part (Binary op a b) e h =
      either_is (same_term part (Binary op a b)) (contains part a || contains part b) e (itself part (Binary op a b) h)
      (λ y. either_is (contains part a) (contains part b) y (λ x. contained part a x h.0) (λ x. contained part b x h.1))

  act_contained : (a : ActShape) (part : Shape) → act_contains a part ≡ true → AllSafe every v (terms_of_act a) → Safe part
  act_contained (act.Value t) part e h = contained part t e h.0
  act_contained (act.Number t) part e h = contained part t e h.0
  act_contained (act.Address t) part e h = contained part t e h.0
  act_contained (act.PlaceHome z i) part e h = cc
  act_contained (act.PlaceAt z a) part e h = contained part a e h.0
  act_contained (act.StoreHome z i t) part e h = contained part t e h.0
  act_contained (act.StoreAt z a t) part e h = either_is (contains part a) (contains part t) e (λ x. contained part a x h.0) (λ x. contained part t x h.1.0)
  act_contained (act.Branch i a b) part e h = either_is (contains part a) (contains part b) e (λ x. contained part a x h.0) (λ x. contained part b x h.1.0)
  act_contained (act.Push t) part e h = contained part t e h.0
  act_contained act.Call part e h = cc
  act_contained (act.Save i) part e h = cc
  act_contained (act.Return t) part e h = contained part t e h.0
  act_contained act.Jump part e h = cc

  any_contained : (ts : List Shape) (part : Shape) → list_any (contains part) ts ≡ true → AllSafe every v ts → Safe part
  any_contained [] part e h = cc
  any_contained (t ∷ ts) part e h = either_is (contains part t) (list_any (contains part) ts) e (λ x. contained part t x h.0) (λ x. any_contained ts part x h.1)

  pub front_safe : (xs ys : List Shape) → AllSafe every v (xs ++ ys) → AllSafe every v xs
  front_safe [] ys h = tt
  front_safe (x ∷ xs) ys h = (h.0, front_safe xs ys h.1)

  pub back_safe : (xs ys : List Shape) → AllSafe every v (xs ++ ys) → AllSafe every v ys
  back_safe [] ys h = h
  back_safe (x ∷ xs) ys h = back_safe xs ys h.1

  effect_contained : (e : EffectShape) (part : Shape) → effect_contains e part ≡ true → AllSafe every v (terms_of e) → Safe part
  effect_contained e part is h =
      either_is (act_contains e.act part) (list_any (contains part) e.divisors) is
      (λ x. act_contained e.act part x (front_safe (terms_of_act e.act) e.divisors h)) (λ x. any_contained e.divisors part x (back_safe (terms_of_act e.act) e.divisors h))

  all_contained : (e : EffectShape) (ts : List Shape) → list_all (effect_contains e) ts ≡ true → AllSafe every v (terms_of e) → AllSafe every v ts
  all_contained e [] is h = tt
  all_contained e (t ∷ ts) is h =
      let b = and_parts (effect_contains e t) (list_all (effect_contains e) ts) is in (effect_contained e t b.0 h, all_contained e ts b.1 h)

  pub reads_safe : (e : EffectShape) (rs : List (ℕ × List Shape)) → first_dropped e rs ≡ None → AllSafe every v (terms_of e) → EachSafe every v rs
  reads_safe e [] is h = tt
  reads_safe e (r ∷ rs) is h = by (list_all (effect_contains e) r.1) refl (λ more. reads_safe e rs more h) is where
    by : (b : Bool) → list_all (effect_contains e) r.1 ≡ b → (first_dropped e rs ≡ None → EachSafe every v rs) → cond b (first_dropped e rs) (Some r.0) ≡ None → EachSafe every v (r ∷ rs)
    by true kept others more = (all_contained e r.1 kept h, others more)
    by false kept others more = cc

pub effects_hold_reads : EffectsHoldReads
effects_hold_reads = record { found = template_is; reads = reads_safe }
