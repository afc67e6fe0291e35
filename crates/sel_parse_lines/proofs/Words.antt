-- A selection uses words below 1,024 alone.
use Rattle.std.proofs.Common.{◌≡◌, ℕ, zero, suc, ◌+◌, ◌-◌, ◌<◌, ◌≤◌, max, cond, List, [], length, Option, Some, None, Bool, false, true, refl, ap, ◌∙◌, subst, arith}
use Rattle.std.specs.Prelude.{slice_get}
use Rattle.std.proofs.lemmas.Option.{same_Some, none-some}
use Rattle.tree_core.specs.declared.tree.Leaf.{Leaf}
use Rattle.tree_core.specs.declared.program.TreeProgram.{TreeProgram}
use Rattle.md_reader.specs.declared.types.Rule.{Rule}
use Rattle.md_reader.specs.declared.types.Give.{Give}
use Rattle.md_reader.specs.declared.types.Give.TheVariants as give
use Rattle.md_reader.specs.declared.types.Sym.{Sym}
use Rattle.md_reader.specs.State.{Content}
use Rattle.sel_parse_moves.specs.lr_tables.specs.Statements.{stmt_of}
use Rattle.sel_parse_moves.specs.lr_check_parse.specs.Moves.{Move, Ending, Accepts, Blocks, Loops, Refuses, Parses}
use Rattle.sel_parse_moves.specs.lr_check_parse.specs.Moves as parse
use Rattle.sel_parse_moves.specs.lr_check_parse.specs.Attributes.{by_attributes}
use Rattle.sel_target.specs.declared.attr.Attr.{Attr}
use Rattle.sel_target.specs.declared.attr.Attr.TheVariants as attr
use Rattle.sel_target.specs.Meaning.{Meaning}
use Rattle.sel_target.specs.Symbols.{lowest}
use Rattle.sel_parse_selected.specs.Entries.{Entry}
use Rattle.sel_parse_selected.specs.Desk.{Stack, Desk, desk_of, Outcome, Full, Stuck, Done, is_free_word, free_register, free_slot}
use Rattle.sel_parse_selected.specs.Spills.{Where, victim, entry_at, saved_in, spilled, with_free, due_by, due}
use Rattle.sel_parse_selected.specs.Reductions.{loaded, reloaded_by, reloaded_at, reloaded}
use Rattle.sel_parse_selected.specs.Reductions.{with_result, with_scratch, given_by, reduced}
use Rattle.sel_parse_selected.specs.Selected.{Kept, kept_of, reduced_by, selecting, shifted, start}
use Rattle.sel_parse_moves.proofs.Covering.{known}
use Rattle.sel_parse_lines.specs.Claims.{SelectionsUseFewWords}
use Rattle.sel_parse_lines.proofs.Each.{Each, each_bind}

-- the lowest number that passes is one of those that were tried
lowest_below : (passes : ℕ → Bool) (k n w : ℕ) → lowest passes k n ≡ Some w → w < k + n
lowest_below passes k zero w e = absurd (none-some w e)
lowest_below passes k (suc n) w e = by (passes k) e (λ f. lowest_below passes (k + 1) n w f)
  where
    by : (b : Bool) → cond b (Some k) (lowest passes (k + 1) n) ≡ Some w → (lowest passes (k + 1) n ≡ Some w → w < k + 1 + n) → w < k + suc n
    by true f more = let same = same_Some k w f in omega (arith, same)
    by false f more = let lt = more f in omega (arith, lt)

module _ {O I S F : Type 0} (of : Meaning O I S F) (q : TreeProgram) (d : Content) (first : ℕ) (low : first ≤ 1024) where
  abbrev Few : Desk O I → Type 0
  Few desk = desk.most ≤ 1024

  abbrev FewWords : Stack O I → Type 0
  FewWords x = x.most ≤ 1024

  abbrev OnDesk : ℕ × Desk O I → Type 0
  OnDesk p = Few p.1

  saved_few : (desk : Desk O I) (p : Where) (e : Option (Entry O)) (w : Option ℕ) → Few desk → free_slot of first desk ≡ w → Each Few (saved_in of q d first desk p e w)
  saved_few desk p None w h free = tt
  saved_few desk p (Some e) None h free = tt
  saved_few desk p (Some e) (Some w) h free =
      let b = lowest_below (is_free_word of desk) first (1024 - first) w free in
      let now : desk.most ≤ 1024 = h in
      let most : max desk.most (w + 1) ≤ 1024 = omega (arith, b, low, now) in
      most

  spilled_few : (desk : Desk O I) (p : Option Where) → Few desk → Each Few (spilled of q d first desk p)
  spilled_few desk None h = tt
  spilled_few desk (Some p) h = saved_few desk p (entry_at of desk p) (free_slot of first desk) h refl

  free_few : (desk : Desk O I) (r : Option ℕ) → Few desk → Each OnDesk (with_free of q d first desk r)
  free_few desk None h = tt
  free_few desk (Some r) h = h

  due_by_few : (given : Bool) (desk : Desk O I) (r : Option ℕ) → Few desk → Each OnDesk (due_by of q d first given desk r)
  due_by_few given desk None h =
      each_bind Few OnDesk (spilled of q d first desk (victim of given desk)) (λ x. with_free of q d first x (free_register of d given x)) (spilled_few desk (victim of given desk) h)
      (λ x k. free_few x (free_register of d given x) k)
  due_by_few given desk (Some r) h = h

  due_few : (given : Bool) (desk : Desk O I) → Few desk → Each OnDesk (due of q d first given desk)
  due_few given desk h = due_by_few given desk (free_register of d given desk) h

  reload_few : (i : ℕ) (desk : Desk O I) (e : Entry O) (a : Attr O) → Few desk → Each Few (reloaded_by of q d first i desk e a)
  reload_few i desk e (attr.Reg r) h = h
  reload_few i desk e (attr.InSlot w) h = each_bind OnDesk Few (due of q d first false desk) (loaded of q d first i e w) (due_few false desk h) (λ p k. k)
  reload_few i desk e (attr.Value o) h = h
  reload_few i desk e (attr.Place o) h = h
  reload_few i desk e (attr.Con n) h = h
  reload_few i desk e (attr.Ea o) h = h
  reload_few i desk e (attr.Token l) h = h
  reload_few i desk e attr.Nothing h = h

  reloaded_at_few : (i : ℕ) (desk : Desk O I) (e : Option (Entry O)) → Few desk → Each Few (reloaded_at of q d first i desk e)
  reloaded_at_few i desk None h = h
  reloaded_at_few i desk (Some e) h = reload_few i desk e e.attr h

  reloaded_few : (n i : ℕ) (desk : Desk O I) → Few desk → Each Few (reloaded of q d first n i desk)
  reloaded_few zero i desk h = h
  reloaded_few (suc n) i desk h =
      each_bind Few Few (reloaded_at of q d first i desk (slice_get desk.symbols i)) (reloaded of q d first n (i + 1)) (reloaded_at_few i desk (slice_get desk.symbols i) h)
      (λ x k. reloaded_few n (i + 1) x k)

  given_few : (rule : Rule) (g : Give) (desk : Desk O I) → Few desk → Each FewWords (given_by of q d first rule g desk)
  given_few rule give.Fresh desk h = each_bind OnDesk FewWords (due of q d first false desk) (with_result of q d first rule) (due_few false desk h) (λ p k. k)
  given_few rule give.Reuse desk h = each_bind OnDesk FewWords (due of q d first true desk) (with_result of q d first rule) (due_few true desk h) (λ p k. k)
  given_few rule give.Scratch desk h = each_bind OnDesk FewWords (due of q d first false desk) (with_scratch of q d first rule) (due_few false desk h) (λ p k. k)
  given_few rule give.Nothing desk h = h
  given_few rule (give.Shape l) desk h = h

  reduced_few : (rule : Rule) (x : Stack O I) → FewWords x → Each FewWords (reduced of q d first rule x)
  reduced_few rule x h =
      each_bind Few FewWords (reloaded of q d first (length rule.right) 0 (desk_of (length rule.right) x)) (given_by of q d first rule rule.give)
      (reloaded_few (length rule.right) 0 (desk_of (length rule.right) x) h) (λ y k. given_few rule rule.give y k)

  abbrev Before : Kept O I → Type 0
  Before None = Unit {0}
  Before (Some x) = FewWords x

  abbrev Behind : Ending (Kept O I) → Type 0
  Behind (Accepts x) = Before x
  Behind Refuses = Unit {0}
  Behind (Blocks at) = Unit {0}
  Behind (Loops at) = Unit {0}

  shift : (l : Leaf) (x : Kept O I) → Before x → Before (shifted l x)
  shift l None h = tt
  shift l (Some x) h = h

  kept : (o : Outcome (Stack O I)) (z : Kept O I) → Each FewWords o → kept_of o ≡ Some z → Before z
  kept Full z h e = absurd (none-some z e)
  kept Stuck z h e = subst Before (same_Some None z e) tt
  kept (Done y) z h e = subst Before (same_Some (Some y) z e) h

  reduce : (r : Option Rule) (x z : Kept O I) → Before x → reduced_by of q d first r x ≡ Some z → Before z
  reduce None x z h e = subst Before (same_Some None z e) tt
  reduce (Some r) None z h e = subst Before (same_Some None z e) tt
  reduce (Some r) (Some x) z h e = kept (reduced of q d first r x) z (reduced_few r x h) e

  iterate : {at : ℕ} {before : List (List Sym)} {ws : List Leaf} {a : List Sym} {x : Kept O I} {log : List (Move Leaf)} {e : Ending (Kept O I)}
      → Parses (by_attributes (selecting of q d first)) d.rules (stmt_of d.classes) at before ws a x log e → Before x → Behind e
  iterate (parse.loops h) b = tt
  iterate (parse.accepts h s f) b = b
  iterate (parse.shifts {l = l} {x = x} h f s more) b = iterate more (shift l x b)
  iterate (parse.reduces {n = n} {ws = ws} {a = a} {x = x} {y = y} {z = z} r h c there red more) b =
      let m = known (selecting of q d first) d.classes d.rules (stmt_of d.classes) ws a x n r y c there in
      iterate more (reduce (slice_get d.rules n) x z b (ap (λ u. reduced_by of q d first (slice_get d.rules n) u) m.same ∙ red))
  iterate (parse.refuses r h c there red) b = tt
  iterate (parse.blocks h c) b = tt

  pub few : (w : List Leaf) (log : List (Move Leaf)) (x : Stack O I)
      → Parses (by_attributes (selecting of q d first)) d.rules (stmt_of d.classes) 0 [] w [] (start of q d first) log (Accepts (Some x)) → FewWords x
  few w log x p = iterate p low

pub selections_use_few_words : {O I S F : Type 0} (of : Meaning O I S F) → SelectionsUseFewWords of
selections_use_few_words of q d first w code most low s =
    few of q d first low w s.log (record { entries = s.entries; code = code; most = most }) s.parsed
