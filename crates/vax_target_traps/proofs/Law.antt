-- Where a divisor is zero, the first line of a rule traps.
use Rattle.std.proofs.Common.{◌≡◌, ℕ, ◌++◌, Bool, true, false, List, [], ◌∷◌, map, Option, Some, None, Ok, refl, sym, ap, subst, ◌∙◌}
use Rattle.std.specs.List.{AllByRecursion}
use Rattle.gg_base.proofs.Facts.{ok_same}
use Rattle.vax_target_rules.specs.tree_core.specs.declared.program.TreeProgram.{TreeProgram}
use Rattle.vax_target_rules.specs.tree_meaning.specs.State.{Extent}
use Rattle.md_reader_pieces.specs.declared.piece.Line.{Line}
use Rattle.vax_target_rules.specs.md_reader.specs.declared.types.Kind.{Kind}
use Rattle.vax_target_rules.specs.md_reader.specs.declared.types.Kind.TheVariants as kind
use Rattle.vax_target_rules.specs.md_reader.specs.declared.types.Class.{Class}
use Rattle.vax_target_rules.specs.md_reader.specs.declared.types.Sym.{Sym}
use Rattle.vax_target_rules.specs.md_reader.specs.declared.types.Give.{Give}
use Rattle.vax_target_rules.specs.md_reader.specs.declared.types.Give.TheVariants as give
use Rattle.vax_target_rules.specs.md_reader.specs.declared.types.Rule.{Rule}
use Rattle.vax_target_rules.specs.md_reader.specs.Patterns.{kind_at}
use Rattle.vax_target_rules.specs.md_reader.specs.Restrictions.{is_nothing}
use Rattle.vax_target_rules.specs.md_reader.specs.Rows.{plain_fits, shape_fits}
use Rattle.vax_target_rules.specs.md_reader.specs.Valid.{MayGive}
use Rattle.term_core.specs.Shape.{Shape}
use Rattle.vax_target_rules.specs.sel_terms.specs.Effects.{ActShape, EffectShape}
use Rattle.vax_target_rules.specs.sel_terms_meaning.specs.Meaning.{terms_of_act}
use Rattle.vax_target_rules.specs.sel_target.specs.declared.attr.Attr.{Attr}
use Rattle.vax_target_rules.specs.sel_target.specs.Courses.{traps}
use Rattle.vax_target_rules.specs.sel_target.specs.Values.{View, IsReadWhere, value}
use Rattle.vax_target_rules.specs.sel_target.specs.Instances.{IsResult, Instance}
use Rattle.vax_core.specs.declared.operand.Operand.{Operand}
use Rattle.vax_machine.specs.State.{State}
use Rattle.vax_target_rules.specs.vax_machine_lists.specs.Instructions.{Course, followed}
use Rattle.vax_target_rules.specs.vax_confined.specs.Confined.{exec}
use Rattle.vax_target_rules.specs.vax_templates.specs.declared.setting.Hole.{Hole}
use Rattle.vax_target_rules.specs.vax_templates.specs.declared.setting.Setting.{Setting}
use Rattle.vax_target_rules.specs.vax_templates.specs.Settings.{holes_of, setting_of}
use Rattle.vax_target_rules.specs.vax_templates.specs.Deeds.{Last, Plain, Compared, Tested, Returning, Ended}
use Rattle.vax_target_rules.specs.vax_templates.specs.Progress.{Progress, start, judged, lines_judged}
use Rattle.vax_target_rules.specs.vax_templates.specs.GiveLines.{last_deed, given_by}
use Rattle.vax_target_rules.specs.vax_target_meaning.specs.Running.{course_of, run}
use Rattle.vax_target_rules.specs.vax_target_meaning.specs.Vax.{vax}
use Rattle.vax_target_rules.specs.vax_target_operands.specs.Scenes.{Scene}
use Rattle.vax_target_rules.specs.vax_target_operands.proofs.Binds.{chained}
use Rattle.vax_target_rules.specs.vax_target_lines.specs.Lines.{terms_of_last}
use Rattle.vax_target_rules.specs.vax_target_lines.proofs.Performing.{lines_trap}
use Rattle.vax_target_rules.specs.vax_target_runs.specs.Runs.{line_of}
use Rattle.vax_target_rules.specs.vax_target_runs.proofs.Law.{judged_is, closed}
use Rattle.vax_target_rules.specs.Scene.{scene_of}
use Rattle.vax_target_rules.proofs.Founds.{IsFound, rule_is, reads_safe, front_safe}
use Rattle.vax_target_rules.proofs.Instances.{instance_seen}
use Rattle.vax_target_rules.proofs.Counts.{later}
use Rattle.vax_target_traps.specs.Laws.{ZeroDivisorsTrap}
use Rattle.vax_target_traps.proofs.Plain.{list_made, first_line_plain}

-- a property of what each line reads
abbrev Each : (List Shape → Type 0) → List (ℕ × List Shape) → Type 0
Each P rs = AllByRecursion (λ (r : ℕ × List Shape). P r.1) rs

each_front : (P : List Shape → Type 0) (xs ys : List (ℕ × List Shape)) → Each P (xs ++ ys) → Each P xs
each_front P [] ys h = tt
each_front P (x ∷ xs) ys h = (h.0, each_front P xs ys h.1)

each_before : (P : List Shape → Type 0) (s : Setting) (roles : List Hole) (ls : List Line) (is_first : Bool) (p q : Progress) → lines_judged s roles is_first p ls ≡ Ok q → Each P q.reads
    → Each P p.reads
each_before P s roles [] is_first p q e h = subst (λ (x : Progress). Each P x.reads) (sym (ok_same p q e)) h
each_before P s roles (l ∷ ls) is_first p q e h =
    let d = chained (judged s roles is_first l p) (λ (x : Progress). lines_judged s roles false x ls) q e in
    let j = judged_is s roles is_first l p d.first d.is in
    each_front P p.reads ((l.line, j.deed.reads) ∷ []) (subst (λ (x : Progress). Each P x.reads) (sym j.is) (each_before P s roles ls false d.first q d.then_so h))

-- a statement's template ends in its last line
statement_given : (s : Setting) (roles : List Hole) (classes : List Class) (left : ℕ) (right : List Sym) (o : Option Shape) (l : Last) (g : Give) (a : ActShape) →
    MayGive classes left right g → is_nothing (kind_at classes left) ≡ true → given_by s roles (kind_at classes left) o l g ≡ Ok a → last_deed l ≡ Ok a
statement_given s roles classes left right o l give.Fresh a may is e = absurd (by (kind_at classes left) may is) where
  by : (k : Option Kind) → plain_fits k give.Fresh ≡ true → is_nothing k ≡ true → ⊥
  by None f n = cc
  by (Some kind.Reg) f n = cc
  by (Some (kind.Value z)) f n = cc
  by (Some (kind.Place z)) f n = cc
  by (Some kind.Con) f n = cc
  by (Some kind.Ea) f n = cc
  by (Some kind.Nothing) f n = cc
statement_given s roles classes left right o l give.Reuse a may is e = absurd (by (kind_at classes left) may is) where
  by : (k : Option Kind) → plain_fits k give.Reuse ≡ true → is_nothing k ≡ true → ⊥
  by None f n = cc
  by (Some kind.Reg) f n = cc
  by (Some (kind.Value z)) f n = cc
  by (Some (kind.Place z)) f n = cc
  by (Some kind.Con) f n = cc
  by (Some kind.Ea) f n = cc
  by (Some kind.Nothing) f n = cc
statement_given s roles classes left right o l give.Scratch a may is e = e
statement_given s roles classes left right o l give.Nothing a may is e = e
statement_given s roles classes left right o l (give.Shape x) a may is e = absurd (by (kind_at classes left) may.1 is) where
  by : (k : Option Kind) → shape_fits classes right k x.pieces ≡ true → is_nothing k ≡ true → ⊥
  by None f n = cc
  by (Some kind.Reg) f n = cc
  by (Some (kind.Value z)) f n = cc
  by (Some (kind.Place z)) f n = cc
  by (Some kind.Con) f n = cc
  by (Some kind.Ea) f n = cc
  by (Some kind.Nothing) f n = cc

module _ (q : TreeProgram) (f : Extent) (fs : List Extent) (classes : List Class) (rule : Rule) (e : EffectShape) (d : Shape) (hs : List (Attr Operand)) (res : Attr Operand) (v : View) (m : State)
    (inst : Instance vax false q f fs classes rule e hs v m) (result : IsResult vax rule.give hs res) (ds : e.divisors ≡ d ∷ []) (zero_is : value v d ≡ 0) where
  abbrev S : Scene
  S = scene_of q classes rule hs res v

  abbrev s : Setting
  s = setting_of classes rule

  abbrev roles : List Hole
  roles = holes_of classes rule.right

  found_so : IsFound s roles (kind_at classes rule.left) rule.lines rule.give e
  found_so = rule_is classes rule e inst.taken

  abbrev p : Progress
  p = found_so.progress

  abbrev Safe : List Shape → Type 0
  Safe ts = AllByRecursion (λ (t : Shape). IsReadWhere false v t) ts

  each : Each Safe p.reads
  each = reads_safe false v e p.reads found_so.none_dropped_so inst.read

  -- the deed of a last line is the rule's act
  end_safe : (l : Last) → ((a : ActShape) → l ≡ Ended a → p.last ≡ Ended a) → s.is_statement ≡ true → Safe (terms_of_last l)
  end_safe Plain same is = tt
  end_safe (Compared a b) same is = tt
  end_safe (Tested t) same is = tt
  end_safe (Returning t) same is = tt
  end_safe (Ended a) same is =
      let given = statement_given s roles classes rule.left rule.right p.own p.last rule.give found_so.deed inst.rule_fits.gives is found_so.given in
      let act : a ≡ e.act = ok_same a found_so.deed (sym (ap last_deed (same a refl)) ∙ given) ∙ ap (λ (x : EffectShape). x.act) found_so.is in
      subst (λ x. Safe (terms_of_act x)) (sym act) (front_safe false v (terms_of_act e.act) e.divisors inst.read)

  empty : (ls : List Shape) → [] ≡ ls → ls ≡ d ∷ [] → ⊥
  empty ls a b = let x : [] ≡ d ∷ [] = a ∙ b in cc

  lines : (ls : List Line) → lines_judged s roles true start ls ≡ Ok p → run (map (line_of S) ls) m ≡ traps
  lines [] h = absurd (empty p.divisors (ap (λ (x : Progress). x.divisors) (ok_same start p h)) (ap (λ (x : EffectShape). x.divisors) found_so.is ∙ ds))
  lines (l ∷ ls) h =
      let c = chained (judged s roles true l start) (λ (x : Progress). lines_judged s roles false x ls) p h in
      let j = judged_is s roles true l start c.first c.is in
      let divides : j.deed.divisors ≡ d ∷ [] =
      ap (λ (x : Progress). x.divisors) j.is ∙ sym (later s roles ls c.first p c.then_so) ∙ ap (λ (x : EffectShape). x.divisors) found_so.is ∙ ds in
      let reads = (subst (λ (x : Progress). Each Safe x.reads) (sym j.is) (each_before Safe s roles ls false c.first p c.then_so each)).0 in
      let plain = first_line_plain s roles l.pieces j.deed j.did in
      let same = λ (a : ActShape) (is : j.deed.last ≡ Ended a). (closed S ls false c.first p a (ap (λ (x : Progress). x.last) (sym j.is) ∙ is) c.then_so).1 in
      let trap =
      lines_trap S None m true Plain l.pieces j.deed d (instance_seen false q f fs classes rule e hs res v m inst result) j.did (list_made v j.deed.reads plain.reads_so reads)
      (λ is. list_made v (terms_of_last j.deed.last) plain.ends_so (end_safe j.deed.last same is)) divides zero_is in
      ap (λ (x : Course). course_of (followed x (map (line_of S) ls) (exec (map (line_of S) ls)))) trap

  pub rule_traps : run (map (line_of S) rule.lines) m ≡ traps
  rule_traps = lines rule.lines found_so.judged

pub zero_divisors_trap : ZeroDivisorsTrap
zero_divisors_trap q f fs classes rule e d hs res v m inst result ds zero_is = rule_traps q f fs classes rule e d hs res v m inst result ds zero_is
