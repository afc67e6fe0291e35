-- The lines of a reduction pass.
use Rattle.std.proofs.Common.{◌≡◌, ℕ, ◌+◌, ◌==◌, List, [], ◌∷◌, length, Bool, true, false, refl, sym, subst, arith}
use Rattle.std.specs.Prelude.{not, ◌&&◌, Ok}
use Rattle.std.specs.Int.{bit_at}
use Rattle.std.proofs.lemmas.Bool.{not-true, or_parts}
use Rattle.gg_base.proofs.Facts.{second_true, all_append}
use Rattle.tree_core.specs.declared.program.TreeProgram.{TreeProgram}
use Rattle.md_reader.specs.declared.types.Give.{Give}
use Rattle.md_reader.specs.declared.types.Give.TheVariants as give
use Rattle.md_reader.specs.declared.types.Rule.{Rule}
use Rattle.md_reader.specs.declared.types.Sym.{Sym}
use Rattle.md_reader.specs.declared.types.Sym.TheVariants as grammar_symbol
use Rattle.md_reader.specs.Patterns.{kind_at}
use Rattle.md_reader.specs.State.{Content}
use Rattle.md_reader.specs.Valid.{IsRule}
use Rattle.sel_target.specs.sel_terms.specs.Effects.{EffectShape}
use Rattle.sel_target.specs.declared.attr.Attr.{Attr}
use Rattle.sel_target.specs.declared.attr.Attr.TheVariants as attr
use Rattle.sel_target.specs.Meaning.{Meaning, Spot, RegAt}
use Rattle.sel_target.specs.Laws.{IsLawful}
use Rattle.sel_target.specs.Instances.{attr_touches, Avoids, IsResult, lines_of}
use Rattle.sel_parse_lines.specs.sel_parse_selected.specs.Entries.{Entry, attrs}
use Rattle.sel_parse_lines.specs.sel_parse_selected.specs.Desk.{Stack, Desk, desk_of, Outcome, Full, Stuck, Done, held, is_free_register}
use Rattle.sel_parse_lines.specs.sel_parse_selected.specs.Spills.{due}
use Rattle.sel_parse_lines.specs.sel_parse_selected.specs.Reductions.{reloaded, finished, shaped, with_result, with_scratch, given_by, reduced}
use Rattle.sel_parse_lines.specs.sel_parse_selected.proofs.Restricting.{Restricted, still_restricted, due_asked, reloaded_asked}
use Rattle.sel_parse_law.specs.sel_parse_stands.specs.Lines.{LinesSave}
use Rattle.sel_parse_law.specs.sel_parse_stands.proofs.Loaded.{all_loaded}
use Rattle.sel_parse_lines.proofs.Each.{Each, each_bind}
use Rattle.sel_parse_law.specs.sel_parse_slots.proofs.Counting.{Counted, fine_length}
use Rattle.sel_parse_law.specs.sel_parse_slots.proofs.Finishing.{all_fit, all_spelled}
use Rattle.sel_parse_written.specs.Claims.{LinesPass}
use Rattle.sel_parse_written.proofs.Rights.{right_none}
use Rattle.sel_parse_written.proofs.Classes.{AllKinds}
use Rattle.sel_parse_written.proofs.Spilling.{Passes, Written, IsTaken, due_taken, Brought, reloaded_written}

-- what holds of what is done, and what holds of it by an equation
each_more : {X : Type 0} (o : Outcome X) (P Q : X → Type 0) → Each P o → ((x : X) → o ≡ Done x → Q x) → Each (λ (x : X). P x × Q x) o
each_more Full P Q h k = tt
each_more Stuck P Q h k = tt
each_more (Done x) P Q h k = (h, k x refl)

module _ {O I S F : Type 0} (of : Meaning O I S F) (law : IsLawful of) (q : TreeProgram) (can : of.can_write q) (d : Content) (first : ℕ) (good : I → Bool)
    (pass : LinesPass of q d good) (lines : LinesSave of d) where
  -- ---- a register that is free is apart from the symbols

  held_avoids : (s : Spot) (es : List (Entry O)) → held of es s ≡ false → Avoids of s (attrs es)
  held_avoids s [] h = tt
  held_avoids s (e ∷ es) h = let k = or_parts (attr_touches of e.attr s) (held of es s) h in (k.0, held_avoids s es k.1)

  free_avoids : (desk : Desk O I) (r : ℕ) → is_free_register of d false desk r ≡ true → Avoids of (RegAt r) (attrs desk.symbols)
  free_avoids desk r h =
      held_avoids (RegAt r) desk.symbols
      (not-true (held of desk.symbols (RegAt r))
      (second_true (not (held of desk.below (RegAt r))) (not (held of desk.symbols (RegAt r)))
      (second_true (bit_at d.pool r == 1) (not (held of desk.below (RegAt r)) && not (held of desk.symbols (RegAt r))) h)))

  -- entries with their classes' kinds, and a code that passes
  pub record IsStacked (a : List Sym) (x : Stack O I) : Type 0 where
    pub kinds : AllKinds d a x.entries
    pub code : Passes of law q d first good pass lines x.code

  -- ---- one rule
  module _ (rule : Rule) (is_rule : IsRule d.classes rule) (effect : EffectShape) (taken : of.effect d.classes rule ≡ Ok effect) (a : List Sym) (c : ℕ) (gb gs : List ℕ) where
    abbrev Count : ℕ → Desk O I → Type 0
    Count i y = Counted of law q d first rule.right a c gb gs i y

    abbrev Wrote : Desk O I → Type 0
    Wrote y = Written of law q d first good pass lines rule.right a c gb gs y

    abbrev Taken : Bool → Desk O I → ℕ × Desk O I → Type 0
    Taken given y p = IsTaken of law q d first good pass lines rule.right a c gb gs (0 + length rule.right) given y p

    abbrev Stacked : Stack O I → Type 0
    Stacked x = IsStacked (grammar_symbol.Class rule.left ∷ a) x

    abbrev HoldsNow : Desk O I → Type 0
    HoldsNow y = Restricted of q d first rule.restrictions y.symbols

    finished_passes : (y : Desk O I) (result given : Attr O) → Count (0 + length rule.right) y → Wrote y → HoldsNow y → IsResult of rule.give (attrs y.symbols) result
        → Each Stacked (finished of q d first rule result given y)
    finished_passes y result given h g restricted is =
        let size = fine_length of law q d first rule.right y.symbols h.symbols_fine in
        let loaded = all_loaded y.symbols (0 + length rule.right) (omega (arith, size)) h.loaded_to in
        let fits = all_fit of law q can d first rule.right y.symbols h.symbols_fine loaded (right_none d.classes rule is_rule) in
        record {
          kinds = (refl, g.below);
          code = all_append (λ (i : I). good i ≡ true) y.code (lines_of of q rule (attrs y.symbols) result) g.code
              (pass.rules rule effect (attrs y.symbols) result is_rule taken fits restricted (all_spelled of law q can d first rule.right y.symbols h.symbols_fine) is);
        }

    -- a register is taken, and the restrictions still hold
    abbrev Got : Bool → Desk O I → ℕ × Desk O I → Type 0
    Got given y p = Taken given y p × HoldsNow p.1

    register_due : (given : Bool) (y : Desk O I) → Count (0 + length rule.right) y → Wrote y → HoldsNow y → Each (Got given y) (due of q d first given y)
    register_due given y h g restricted =
        each_more (due of q d first given y) (Taken given y) (λ (p : ℕ × Desk O I). HoldsNow p.1)
        (due_taken of law q d first good pass lines rule.right a c gb gs (0 + length rule.right) given y h g)
        (λ p e. still_restricted of q d first rule.restrictions y.symbols p.1.symbols (due_asked of q d first given y p e) restricted)

    -- the result, as the rule takes it
    as_given : (gv : Give) (hs : List (Attr O)) (result : Attr O) → rule.give ≡ gv → IsResult of gv hs result → IsResult of rule.give hs result
    as_given gv hs result mode is = subst (λ (x : Give). IsResult of x hs result) (sym mode) is

    given_passes : (gv : Give) (y : Desk O I) → Count (0 + length rule.right) y → Wrote y → HoldsNow y → rule.give ≡ gv → Each Stacked (given_by of q d first rule gv y)
    given_passes give.Fresh y h g restricted mode =
        each_bind (Got false y) Stacked (due of q d first false y) (with_result of q d first rule) (register_due false y h g restricted)
        (λ p k. finished_passes p.1 (attr.Reg p.0) (attr.Reg p.0) k.0.0.after.counted k.0.1.written k.1
        (as_given give.Fresh (attrs p.1.symbols) (attr.Reg p.0) mode (k.0.0.small, free_avoids p.1 p.0 k.0.1.free)))
    given_passes give.Reuse y h g restricted mode =
        each_bind (Got true y) Stacked (due of q d first true y) (with_result of q d first rule) (register_due true y h g restricted)
        (λ p k. finished_passes p.1 (attr.Reg p.0) (attr.Reg p.0) k.0.0.after.counted k.0.1.written k.1
        (as_given give.Reuse (attrs p.1.symbols) (attr.Reg p.0) mode k.0.0.small))
    given_passes give.Scratch y h g restricted mode =
        each_bind (Got false y) Stacked (due of q d first false y) (with_scratch of q d first rule) (register_due false y h g restricted)
        (λ p k. finished_passes p.1 (attr.Reg p.0) attr.Nothing k.0.0.after.counted k.0.1.written k.1
        (as_given give.Scratch (attrs p.1.symbols) (attr.Reg p.0) mode (k.0.0.small, free_avoids p.1 p.0 k.0.1.free)))
    given_passes give.Nothing y h g restricted mode = finished_passes y attr.Nothing attr.Nothing h g restricted (as_given give.Nothing (attrs y.symbols) attr.Nothing mode tt)
    given_passes (give.Shape l) y h g restricted mode =
        finished_passes y attr.Nothing (shaped of q d first (kind_at d.classes rule.left) l (attrs y.symbols)) h g restricted
        (as_given (give.Shape l) (attrs y.symbols) attr.Nothing mode tt)

    abbrev Loads : Desk O I → Type 0
    Loads y = Brought of law q d first good pass lines rule.right a c gb gs (0 + length rule.right) y

    pub reduced_passes : (x : Stack O I) → Count 0 (desk_of (length rule.right) x) → Wrote (desk_of (length rule.right) x) → HoldsNow (desk_of (length rule.right) x)
        → Each Stacked (reduced of q d first rule x)
    reduced_passes x h g restricted =
        let start = desk_of (length rule.right) x in
        let loads = reloaded of q d first (length rule.right) 0 start in
        each_bind (λ (y : Desk O I). Loads y × HoldsNow y) Stacked loads (given_by of q d first rule rule.give)
        (each_more loads Loads HoldsNow (reloaded_written of law q d first good pass lines rule.right a c gb gs (length rule.right) 0 start h g)
        (λ y e. still_restricted of q d first rule.restrictions start.symbols y.symbols (reloaded_asked of q d first (length rule.right) 0 start y e) restricted))
        (λ y k. given_passes rule.give y k.0.0 k.0.1 k.1 refl)
