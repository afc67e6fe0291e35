-- A reduction adds lines to the code, and uses no fewer frame words.
use Rattle.std.proofs.Common.{◌≡◌, ℕ, zero, suc, ◌+◌, ◌≤◌, max, List, [], ◌++◌, length, Option, Some, None, Bool, true, false, refl, sym, ap, ◌∙◌, subst, arith, append_assoc, slice_get}
use mathlib.Core.List.{append-nil}
use Rattle.sel_parse_stands.proofs.Desks.{full_done, stuck_done, done_same}
use Rattle.tree_core.specs.declared.program.TreeProgram.{TreeProgram}
use Rattle.md_reader.specs.declared.types.Give.{Give}
use Rattle.md_reader.specs.declared.types.Give.TheVariants as give
use Rattle.md_reader.specs.declared.types.Rule.{Rule}
use Rattle.md_reader.specs.Patterns.{kind_at}
use Rattle.md_reader.specs.State.{Content}
use Rattle.sel_target.specs.declared.attr.Attr.{Attr}
use Rattle.sel_target.specs.declared.attr.Attr.TheVariants as attr
use Rattle.sel_target.specs.Meaning.{Meaning}
use Rattle.sel_target.specs.Courses.{traps, followed}
use Rattle.sel_target.specs.Laws.{IsLawful}
use Rattle.sel_target.specs.Instances.{lines_of}
use Rattle.sel_target.specs.SavingLaws.{saving, reloading}
use Rattle.sel_target.specs.Symbols.{saving_line, reload_line}
use Rattle.sel_parse_stands.specs.sel_parse_selected.specs.Entries.{Entry, attrs}
use Rattle.sel_parse_stands.specs.sel_parse_selected.specs.Desk.{Stack, Desk, desk_of, Done, bind, free_register, free_slot}
use Rattle.sel_parse_stands.specs.sel_parse_selected.specs.Spills.{Where, victim, entry_at, saved, saved_in, spilled, with_free, due_by, due}
use Rattle.sel_parse_stands.specs.sel_parse_selected.specs.Reductions.{loaded, reloaded_by, reloaded_at, reloaded, finished, shaped, given_by, reduced}
use Rattle.sel_parse_effect.proofs.Reducing.{bound}

-- more code, and no fewer words
pub record Grows {I : Type 0} (code : List I) (most : ℕ) (code' : List I) (most' : ℕ) : Type 0 where
  pub more : List I
  pub is : code' ≡ code ++ more
  pub grows : most ≤ most'

same : {I : Type 0} (code : List I) (most : ℕ) → Grows code most code most
same code most = record { more = []; is = sym (append-nil code); grows = omega arith }

added : {I : Type 0} (code more : List I) (most : ℕ) → Grows code most (code ++ more) most
added code more most = record { more = more; is = refl; grows = omega arith }

on : {I : Type 0} (a b c : List I) (k m n : ℕ) → Grows a k b m → Grows b m c n → Grows a k c n
on a b c k m n g h = record {
  more = g.more ++ h.more;
  is = h.is ∙ ap (λ x. x ++ h.more) g.is ∙ append_assoc a g.more h.more;
  grows = (let x = g.grows in let y = h.grows in omega (arith, x, y));
}

larger : (n k : ℕ) → n ≤ max n k
larger n k = omega arith

module _ {O I S F : Type 0} (of : Meaning O I S F) (q : TreeProgram) (d : Content) (first : ℕ) where
  abbrev DeskGrows : Desk O I → Desk O I → Type 0
  DeskGrows x y = Grows x.code x.most y.code y.most

  saved_grows : (desk : Desk O I) (p : Where) (e : Entry O) (w : ℕ) → DeskGrows desk (saved of q d first desk p e w)
  saved_grows desk p e w = record { more = saving of q (saving_line d e.kind) e.attr w; is = refl; grows = larger desk.most (w + 1) }

  saved_in_grows : (desk new : Desk O I) (p : Where) (e : Option (Entry O)) (o : Option ℕ) → saved_in of q d first desk p e o ≡ Done new → DeskGrows desk new
  saved_in_grows desk new p None o h = absurd (stuck_done new h)
  saved_in_grows desk new p (Some e) None h = absurd (full_done new h)
  saved_in_grows desk new p (Some e) (Some w) h = subst (DeskGrows desk) (done_same (saved of q d first desk p e w) new h) (saved_grows desk p e w)

  spilled_grows : (desk new : Desk O I) (o : Option Where) → spilled of q d first desk o ≡ Done new → DeskGrows desk new
  spilled_grows desk new None h = absurd (stuck_done new h)
  spilled_grows desk new (Some p) h = saved_in_grows desk new p (entry_at of desk p) (free_slot of first desk) h

  free_grows : (desk x new : Desk O I) (r : ℕ) (o : Option ℕ) → DeskGrows desk x → with_free of q d first x o ≡ Done (r, new) → DeskGrows desk new
  free_grows desk x new r None g h = absurd (stuck_done (r, new) h)
  free_grows desk x new r (Some k) g h = subst (DeskGrows desk) (ap (λ p. p.1) (done_same (k, x) (r, new) h)) g

  pub due_grows : (given : Bool) (desk new : Desk O I) (r : ℕ) → due of q d first given desk ≡ Done (r, new) → DeskGrows desk new
  due_grows given desk new r h = by (free_register of d given desk) h
    where
      by : (o : Option ℕ) → due_by of q d first given desk o ≡ Done (r, new) → DeskGrows desk new
      by (Some k) h = subst (DeskGrows desk) (ap (λ p. p.1) (done_same (k, desk) (r, new) h)) (same desk.code desk.most)
      by None h =
          let b = bound (spilled of q d first desk (victim of given desk)) (λ x. with_free of q d first x (free_register of d given x)) (r, new) h in
          free_grows desk b.0 new r (free_register of d given b.0) (spilled_grows desk b.0 (victim of given desk) b.1) b.2

  loaded_grows : (i : ℕ) (e : Entry O) (w : ℕ) (p : ℕ × Desk O I) (new : Desk O I) → loaded of q d first i e w p ≡ Done new → DeskGrows p.1 new
  loaded_grows i e w p new h = subst (DeskGrows p.1) (done_same _ new h) (added p.1.code (reloading of q (reload_line d) w p.0) p.1.most)

  one_grows : (i : ℕ) (desk new : Desk O I) (e : Entry O) (a : Attr O) → reloaded_by of q d first i desk e a ≡ Done new → DeskGrows desk new
  one_grows i desk new e (attr.Reg r) h = subst (DeskGrows desk) (done_same desk new h) (same desk.code desk.most)
  one_grows i desk new e (attr.InSlot w) h =
      let b = bound (due of q d first false desk) (loaded of q d first i e w) new h in
      on desk.code b.0.1.code new.code desk.most b.0.1.most new.most (due_grows false desk b.0.1 b.0.0 b.1) (loaded_grows i e w b.0 new b.2)
  one_grows i desk new e (attr.Value o) h = subst (DeskGrows desk) (done_same desk new h) (same desk.code desk.most)
  one_grows i desk new e (attr.Place o) h = subst (DeskGrows desk) (done_same desk new h) (same desk.code desk.most)
  one_grows i desk new e (attr.Con n) h = subst (DeskGrows desk) (done_same desk new h) (same desk.code desk.most)
  one_grows i desk new e (attr.Ea o) h = subst (DeskGrows desk) (done_same desk new h) (same desk.code desk.most)
  one_grows i desk new e (attr.Token l) h = subst (DeskGrows desk) (done_same desk new h) (same desk.code desk.most)
  one_grows i desk new e attr.Nothing h = subst (DeskGrows desk) (done_same desk new h) (same desk.code desk.most)

  at_grows : (i : ℕ) (desk new : Desk O I) (o : Option (Entry O)) → reloaded_at of q d first i desk o ≡ Done new → DeskGrows desk new
  at_grows i desk new None h = subst (DeskGrows desk) (done_same desk new h) (same desk.code desk.most)
  at_grows i desk new (Some e) h = one_grows i desk new e e.attr h

  reloaded_grows : (n i : ℕ) (desk new : Desk O I) → reloaded of q d first n i desk ≡ Done new → DeskGrows desk new
  reloaded_grows zero i desk new h = subst (DeskGrows desk) (done_same desk new h) (same desk.code desk.most)
  reloaded_grows (suc n) i desk new h =
      let b = bound (reloaded_at of q d first i desk (slice_get desk.symbols i)) (reloaded of q d first n (i + 1)) new h in
      on desk.code b.0.code new.code desk.most b.0.most new.most (at_grows i desk b.0 (slice_get desk.symbols i) b.1) (reloaded_grows n (i + 1) b.0 new b.2)

  abbrev Ends : Desk O I → Stack O I → Type 0
  Ends y x' = Grows y.code y.most x'.code x'.most

  finished_grows : (rule : Rule) (result given : Attr O) (y : Desk O I) (x' : Stack O I) → finished of q d first rule result given y ≡ Done x' → Ends y x'
  finished_grows rule result given y x' h = subst (Ends y) (done_same _ x' h) (added y.code (lines_of of q rule (attrs y.symbols) result) y.most)

  due_finished : (rule : Rule) (given : Bool) (y : Desk O I) (x' : Stack O I) (result out : ℕ → Attr O)
      → bind (due of q d first given y) (λ p. finished of q d first rule (result p.0) (out p.0) p.1) ≡ Done x' → Ends y x'
  due_finished rule given y x' result out h =
      let b = bound (due of q d first given y) (λ p. finished of q d first rule (result p.0) (out p.0) p.1) x' h in
      on y.code b.0.1.code x'.code y.most b.0.1.most x'.most (due_grows given y b.0.1 b.0.0 b.1) (finished_grows rule (result b.0.0) (out b.0.0) b.0.1 x' b.2)

  given_grows : (rule : Rule) (g : Give) (y : Desk O I) (x' : Stack O I) → given_by of q d first rule g y ≡ Done x' → Ends y x'
  given_grows rule give.Fresh y x' h = due_finished rule false y x' (λ r. attr.Reg r) (λ r. attr.Reg r) h
  given_grows rule give.Reuse y x' h = due_finished rule true y x' (λ r. attr.Reg r) (λ r. attr.Reg r) h
  given_grows rule give.Scratch y x' h = due_finished rule false y x' (λ r. attr.Reg r) (λ r. attr.Nothing) h
  given_grows rule give.Nothing y x' h = finished_grows rule attr.Nothing attr.Nothing y x' h
  given_grows rule (give.Shape l) y x' h = finished_grows rule attr.Nothing (shaped of q d first (kind_at d.classes rule.left) l (attrs y.symbols)) y x' h

  pub reduction_grows : (rule : Rule) (x x' : Stack O I) → reduced of q d first rule x ≡ Done x' → Grows x.code x.most x'.code x'.most
  reduction_grows rule x x' h =
      let b = bound (reloaded of q d first (length rule.right) 0 (desk_of (length rule.right) x)) (given_by of q d first rule rule.give) x' h in
      on x.code b.0.code x'.code x.most b.0.most x'.most (reloaded_grows (length rule.right) 0 (desk_of (length rule.right) x) b.0 b.1) (given_grows rule rule.give b.0 x' b.2)

-- code behind code that traps isn't reached
pub traps_still : {O I S F : Type 0} (of : Meaning O I S F) → IsLawful of → (code more : List I) (m : S) → of.run code m ≡ traps → of.run (code ++ more) m ≡ traps
traps_still of law code more m e = law.runs.run_on code more m ∙ ap (λ c. followed c more (of.run more)) e
