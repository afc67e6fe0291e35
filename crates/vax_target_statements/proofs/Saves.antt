-- A statement that saves the last call's result.
use Rattle.std.proofs.Common.{◌≡◌, ℕ, zero, suc, ◌+◌, ◌*◌, ◌^◌, ◌%◌, ◌<◌, Bool, true, false, cond, List, [], ◌∷◌, Option, Some, None, Ok, refl, sym, ap, subst, ◌∙◌, arith}
use Rattle.std.specs.Prelude.{slice_get, nat_le}
use Rattle.std.specs.Option.{option_map}
use Rattle.std.proofs.lemmas.Bool.{lt-ltb}
use Rattle.std.proofs.lemmas.Option.{same_Some}
use Rattle.gg_base.specs.declared.size.Size.TheVariants.{Long}
use Rattle.gg_base.specs.Arithmetic.{neg32}
use Rattle.gg_base.proofs.Facts.{err_ok, ok_same}
use Rattle.tree_core.specs.declared.program.TreeProgram.{TreeProgram}
use Rattle.tree_core.specs.declared.token.Tok.{Tok}
use Rattle.tree_core.specs.declared.token.Tok.TheVariants as tok
use Rattle.tree_core.specs.declared.tree.Att.TheVariants as att
use Rattle.tree_core.specs.declared.tree.Leaf.{Leaf}
use Rattle.tree_meaning.specs.State.{Extent}
use Rattle.tree_meaning.specs.Steps as steps
use Rattle.tree_meaning.specs.Steps.{Step, deed_step}
use Rattle.tree_meaning.specs.Deeds.{Saves}
use Rattle.md_reader.specs.declared.types.Class.{Class}
use Rattle.md_reader.specs.declared.types.Sym.{Sym}
use Rattle.md_reader.specs.declared.types.Sym.TheVariants as grammar_symbol
use Rattle.md_reader.specs.declared.types.Rule.{Rule}
use Rattle.md_reader.specs.Patterns.{kind_at}
use Rattle.term_core.specs.Shape.{LastResult}
use Rattle.vax_target_rules.specs.sel_terms.specs.Effects.{ActShape, EffectShape, Save}
use Rattle.vax_target_rules.specs.sel_target.specs.declared.attr.Attr.{Attr}
use Rattle.vax_target_rules.specs.sel_target.specs.declared.attr.Attr.TheVariants as attr
use Rattle.vax_target_rules.specs.sel_target.specs.Values.{View, term_state}
use Rattle.term_core.proofs.Values.{small}
use Rattle.vax_target_rules.specs.sel_target.specs.EffectTerms.{begins_with_save}
use Rattle.vax_target_rules.specs.sel_target.specs.Instances.{hole, InFrame, SymFits, Ready}
use Rattle.vax_target_rules.specs.sel_target.specs.StatementLaws.{att_of}
use Rattle.vax_target_rules.specs.sel_target.proofs.Facts.{no_token}
use Rattle.vax_core.specs.declared.register.Reg.TheVariants.{R0, Ap, Fp}
use Rattle.vax_core.specs.declared.operand.Base.{Base}
use Rattle.vax_core.specs.declared.operand.Base.TheVariants as bases
use Rattle.vax_core.specs.Same.{offset_in}
use Rattle.vax_core.specs.declared.operand.Operand.{Operand}
use Rattle.vax_core.specs.Homes.{home, argument_home, word_addr}
use Rattle.vax_machine.specs.declared.operands.Location.TheVariants as locations
use Rattle.vax_machine.specs.State.{State, reg}
use Rattle.vax_target_rules.specs.vax_machine_lists.specs.Instructions.{Course}
use Rattle.vax_target_rules.specs.vax_states.specs.Stack.{word_of}
use Rattle.vax_target_rules.specs.vax_states.proofs.Standing.{local_written}
use Rattle.vax_target_rules.specs.vax_states.proofs.Keeping.{reg_small}
use Rattle.vax_target_rules.specs.vax_states.proofs.Law.{word_address}
use Rattle.vax_target_rules.specs.vax_templates.specs.declared.setting.Hole.{Hole}
use Rattle.vax_target_rules.specs.vax_templates.specs.declared.setting.Hole.TheVariants as hole_kind
use Rattle.vax_target_rules.specs.vax_templates.specs.declared.setting.Setting.{Setting}
use Rattle.vax_target_rules.specs.vax_templates.specs.Settings.{hole_of_token, hole_of, holes_of, hole_or_other, hole_at, setting_of}
use Rattle.vax_target_rules.specs.vax_templates.specs.Deeds.{Last, Ended}
use Rattle.vax_target_rules.specs.vax_templates.specs.GiveLines.{last_deed, given_by}
use Rattle.vax_target_rules.specs.vax_templates.specs.Progress.{start}
use Rattle.vax_target_rules.proofs.Founds.{IsFound}
use Rattle.vax_target_rules.proofs.Instances.{mapped_at, role_is}
use Rattle.vax_target_rules.proofs.Results.{found_so}
use Rattle.vax_target_rules.specs.vax_templates.specs.Filled.{spare, word_operand, slot_operand, leaf_operand, operand_in}
use Rattle.vax_target_rules.specs.vax_target_meaning.specs.Reading.{displaced}
use Rattle.vax_target_rules.specs.vax_target_meaning.specs.Vax.{vax, stands}
use Rattle.vax_target_rules.specs.vax_target_operands.specs.Scenes.{Scene, worth, filling_at, IsSavedLocal}
use Rattle.vax_target_rules.specs.vax_confined.specs.Confined.{is_own_place}
use Rattle.vax_target_rules.specs.vax_target_confined.specs.Claims.{StandsAt}
use Rattle.vax_target_rules.specs.vax_target_confined.proofs.Reading.{names_stand, home_is_own, own_touched}
use Rattle.vax_target_rules.specs.vax_target_operands.specs.Places.{own_at}
use Rattle.vax_target_rules.specs.vax_target_operands.proofs.Holes.{stands_same}
use Rattle.vax_target_rules.specs.vax_target_lines.specs.Lines.{putting, Puts}
use Rattle.vax_target_rules.specs.vax_target_runs.specs.Runs.{EndsIn}
use Rattle.vax_target_statements.proofs.LastLines.{c, did, last_given, agrees_there, live_there}
use Rattle.vax_target_statements.proofs.Deeds.{filled_hole, Steps, goes}
use Rattle.vax_target_statements.proofs.Firsts.{rest_of, is_root, root_first, symbol_of}
use Rattle.vax_target_statements.proofs.Saving.{LastIs, lines_save}
use Rattle.vax_target_statements.proofs.Controls.{token_is}

-- ---- words of the frame

home_one : (k j : ℕ) → k < 1024 → j < 1024 → home k ≡ home j → k ≡ j
home_one k j lk lj e = let same : neg32 (4 * (k + 1)) ≡ neg32 (4 * (j + 1)) = ap (λ (o : Operand). offset_in o.base) e in omega (arith, same, lk, lj)

abbrev is_ap_base : Base → Bool
is_ap_base (bases.Disp a Ap) = true
is_ap_base b = false

abbrev is_imm_base : Base → Bool
is_imm_base (bases.Imm a) = true
is_imm_base b = false

argument_no_home : (b : Bool) (k j : ℕ) → cond b (argument_home k) spare ≡ home j → ⊥
argument_no_home true k j e = let same : true ≡ false = ap (λ (o : Operand). is_ap_base o.base) e in cc
argument_no_home false k j e = let same : true ≡ false = ap (λ (o : Operand). is_imm_base o.base) e in cc

word_one : (k j : ℕ) → k < 1024 → j < 1024 → word_operand k ≡ home j → k ≡ j
word_one k j lk lj e = home_one k j lk lj (ap (λ b. cond b (home k) spare) (sym (lt-ltb k 1024 lk)) ∙ e)

saved_word : (t : Tok) (k j : ℕ) → k < 1024 → j < 1024 → slot_operand t k ≡ home j → k ≡ j
saved_word tok.Zero k j lk lj e = word_one k j lk lj e
saved_word tok.One k j lk lj e = word_one k j lk lj e
saved_word tok.Two k j lk lj e = word_one k j lk lj e
saved_word tok.Four k j lk lj e = word_one k j lk lj e
saved_word tok.Eight k j lk lj e = word_one k j lk lj e
saved_word tok.Const k j lk lj e = word_one k j lk lj e
saved_word tok.Gaddr k j lk lj e = word_one k j lk lj e
saved_word tok.Loc k j lk lj e = word_one k j lk lj e
saved_word tok.Arg k j lk lj e = absurd (argument_no_home (nat_le k 255) k j e)
saved_word tok.IndirB k j lk lj e = word_one k j lk lj e
saved_word tok.IndirW k j lk lj e = word_one k j lk lj e
saved_word tok.IndirL k j lk lj e = word_one k j lk lj e
saved_word tok.Plus k j lk lj e = word_one k j lk lj e
saved_word tok.Minus k j lk lj e = word_one k j lk lj e
saved_word tok.Mul k j lk lj e = word_one k j lk lj e
saved_word tok.Div k j lk lj e = word_one k j lk lj e
saved_word tok.Mod k j lk lj e = word_one k j lk lj e
saved_word tok.And k j lk lj e = word_one k j lk lj e
saved_word tok.Or k j lk lj e = word_one k j lk lj e
saved_word tok.Xor k j lk lj e = word_one k j lk lj e
saved_word tok.Lsh k j lk lj e = word_one k j lk lj e
saved_word tok.Rsh k j lk lj e = word_one k j lk lj e
saved_word tok.Neg k j lk lj e = word_one k j lk lj e
saved_word tok.Com k j lk lj e = word_one k j lk lj e
saved_word tok.Sxb k j lk lj e = word_one k j lk lj e
saved_word tok.Zxb k j lk lj e = word_one k j lk lj e
saved_word tok.Sxw k j lk lj e = word_one k j lk lj e
saved_word tok.Zxw k j lk lj e = word_one k j lk lj e
saved_word tok.Ncb k j lk lj e = word_one k j lk lj e
saved_word tok.Ncw k j lk lj e = word_one k j lk lj e
saved_word tok.AssignB k j lk lj e = word_one k j lk lj e
saved_word tok.AssignW k j lk lj e = word_one k j lk lj e
saved_word tok.AssignL k j lk lj e = word_one k j lk lj e
saved_word tok.Cbr k j lk lj e = word_one k j lk lj e
saved_word tok.Push k j lk lj e = word_one k j lk lj e
saved_word tok.Ret k j lk lj e = word_one k j lk lj e
saved_word tok.Call k j lk lj e = word_one k j lk lj e
saved_word tok.Save k j lk lj e = word_one k j lk lj e
saved_word tok.Jump k j lk lj e = word_one k j lk lj e
saved_word tok.End k j lk lj e = word_one k j lk lj e

-- ---- the token that saves

hole_is_save : (t : Tok) → hole_of_token t ≡ hole_kind.Saved → t ≡ tok.Save
hole_is_save tok.Zero e = cc
hole_is_save tok.One e = cc
hole_is_save tok.Two e = cc
hole_is_save tok.Four e = cc
hole_is_save tok.Eight e = cc
hole_is_save tok.Const e = cc
hole_is_save tok.Gaddr e = cc
hole_is_save tok.Loc e = cc
hole_is_save tok.Arg e = cc
hole_is_save tok.IndirB e = cc
hole_is_save tok.IndirW e = cc
hole_is_save tok.IndirL e = cc
hole_is_save tok.Plus e = cc
hole_is_save tok.Minus e = cc
hole_is_save tok.Mul e = cc
hole_is_save tok.Div e = cc
hole_is_save tok.Mod e = cc
hole_is_save tok.And e = cc
hole_is_save tok.Or e = cc
hole_is_save tok.Xor e = cc
hole_is_save tok.Lsh e = cc
hole_is_save tok.Rsh e = cc
hole_is_save tok.Neg e = cc
hole_is_save tok.Com e = cc
hole_is_save tok.Sxb e = cc
hole_is_save tok.Zxb e = cc
hole_is_save tok.Sxw e = cc
hole_is_save tok.Zxw e = cc
hole_is_save tok.Ncb e = cc
hole_is_save tok.Ncw e = cc
hole_is_save tok.AssignB e = cc
hole_is_save tok.AssignW e = cc
hole_is_save tok.AssignL e = cc
hole_is_save tok.Cbr e = cc
hole_is_save tok.Push e = cc
hole_is_save tok.Ret e = cc
hole_is_save tok.Call e = cc
hole_is_save tok.Save e = refl
hole_is_save tok.Jump e = cc
hole_is_save tok.End e = cc

begins : (right : List Sym) (t : Tok) → slice_get right 0 ≡ Some (grammar_symbol.Tok t) → t ≡ tok.Save → begins_with_save right ≡ true
begins [] t e is = cc
begins (s ∷ right) t e is = subst (λ x. begins_with_save (x ∷ right) ≡ true) (sym (same_Some s (grammar_symbol.Tok t) e ∙ ap grammar_symbol.Tok is)) refl

-- the last line saves in that token's place
last_saves : (s : Setting) (roles : List Hole) (l : Last) (i : ℕ) → last_deed l ≡ Ok (Save i) → LastIs s roles None l → hole_at roles i ≡ hole_kind.Saved
last_saves s roles (Ended d) i e h = subst (λ (x : ActShape). LastIs s roles None (Ended x)) (ok_same d (Save i) e) h
last_saves s roles _ i e h = absurd (err_ok _ _ e)

module _ (q : TreeProgram) (f : Extent) (fs : List Extent) (classes : List Class) (rule : Rule) (e : EffectShape) (hs : List (Attr Operand)) (res : Attr Operand) (v : View) (m : State)
    (ready : Ready vax q f fs classes rule e hs res v m) (x : EndsIn (c q f fs classes rule e hs res v m ready) m e.act (did q f fs classes rule e hs res v m ready)) where
  abbrev S : Scene
  S = c q f fs classes rule e hs res v m ready

  abbrev D : Course
  D = did q f fs classes rule e hs res v m ready

  abbrev n : State
  n = x.state

  agrees : stands q f fs v.state n
  agrees = agrees_there q f fs classes rule e hs res v m ready e.act x

  frames : n.frames ≡ m.frames
  frames = live_there q f fs classes rule e hs res v m ready e.act x

  abbrev G : Step → Type 0
  G s = Steps q f fs classes rule e hs res v m ready D s

  abbrev F : IsFound (setting_of classes rule) (holes_of classes rule.right) (kind_at classes rule.left) rule.lines rule.give e
  F = found_so q f fs classes rule e hs res v m ready

  -- the place in which the last line saves is that of a token that saves
  saved_role : (i : ℕ) → e.act ≡ Save i → hole_at (holes_of classes rule.right) i ≡ hole_kind.Saved
  saved_role i is =
      let deed : F.deed ≡ Save i = ap (λ (y : EffectShape). y.act) F.is ∙ is in
      last_saves (setting_of classes rule) (holes_of classes rule.right) F.progress.last i
      (last_given (setting_of classes rule) (holes_of classes rule.right) (kind_at classes rule.left) F.progress.own F.progress.last rule.give (Save i)
      (subst (λ (y : ActShape). given_by (setting_of classes rule) (holes_of classes rule.right) (kind_at classes rule.left) F.progress.own F.progress.last rule.give ≡ Ok y) deed F.given) tt)
      (lines_save (setting_of classes rule) (holes_of classes rule.right) rule.lines true start F.progress tt F.judged)

  saves_by : (i k : ℕ) → Puts S n (own_at S i) Long (worth S LastResult) (λ l. StandsAt n (operand_in q (filling_at S i)) Long l × IsSavedLocal S (filling_at S i)) D → k < f.locals →
      (l : Leaf) → hole hs i ≡ Some (attr.Token l) → l.att ≡ att.Slot k → k < 1024 → G (steps.Goes (steps.with_local_set v.state k (worth S LastResult)))
  saves_by i k p lt l there slot below =
      let filling : filling_at S i ≡ attr.Token l = filled_hole S i (attr.Token l) there in
      let word : slot_operand l.tok k ≡ home p.there.1.local = ap (λ a. leaf_operand q l.tok a) (sym slot) ∙ ap (operand_in q) (sym filling) ∙ p.there.1.is in
      let same : k ≡ p.there.1.local = saved_word l.tok k p.there.1.local below p.there.1.low word in
      let address = word_address (reg n Fp) k (let a = agrees.fp in let b = agrees.running.words in let d = agrees.bottom in let w = agrees.running.locals in omega (arith, a, b, d, w, lt))
      (reg_small n Fp agrees.sound) in
      let location : p.place ≡ locations.Memory (word_of (reg n Fp) k) =
      stands_same n (operand_in q (filling_at S i)) Long p.place (locations.Memory (word_of (reg n Fp) k)) p.there.0
      (subst (λ o. StandsAt n o Long (locations.Memory (word_of (reg n Fp) k))) (sym (p.there.1.is ∙ ap home (sym same)))
      (subst (λ a. StandsAt n (home k) Long (locations.Memory a)) address (names_stand (home k) Long n (displaced n Fp (word_addr k)) refl))) in
      let w = local_written q.objects _ _ v.state n agrees k (worth S LastResult) lt (small (term_state v) LastResult) in
      goes q f fs classes rule e hs res v m ready n _ (locations.Memory (word_of (reg n Fp) k)) Long (worth S LastResult) p.conditions D (steps.with_local_set v.state k (worth S LastResult))
      (p.is (own_touched n (own_at S i) p.place Long (ap is_own_place p.there.1.is ∙ home_is_own p.there.1.local p.there.1.low))
      ∙ ap (λ y. putting n y Long (worth S LastResult) p.conditions) location) w.0 w.1 frames

  -- the last call's result is what is saved
  result_is : begins_with_save rule.right ≡ true → worth S LastResult ≡ v.state.running.result
  result_is h =
      let is = ready.instance_of.answered h in
      let lt = reg_small m R0 ready.instance_of.agrees.sound in
      let low : reg m R0 % 2 ^ 32 ≡ reg m R0 = omega (arith, lt) in
      ap (λ y. y % 2 ^ 32) (sym is) ∙ low ∙ is

  abbrev SavesIn : ℕ → ℕ → Type 0
  SavesIn i k = Puts S n (own_at S i) Long (worth S LastResult) (λ l. StandsAt n (operand_in q (filling_at S i)) Long l × IsSavedLocal S (filling_at S i)) D → G (deed_step q v.state (Saves k))

  pub saves : (i k : ℕ) → e.act ≡ Save i → att_of (hole hs i) ≡ Some (att.Slot k) → k < f.locals → SavesIn i k
  saves zero k is at lt = cc
  saves (suc j) k is at lt = some (slice_get hs j) refl at where
    by : (l : Leaf) → slice_get hs j ≡ Some (attr.Token l) → l.att ≡ att.Slot k → (y : Sym) → slice_get rule.right j ≡ Some y → SymFits vax classes y (attr.Token l) → SavesIn (suc j) k
    by l there slot (grammar_symbol.Class z) stands_there fit p = absurd (no_token vax (kind_at classes z) l fit)
    by l there slot (grammar_symbol.Tok t) stands_there fit p =
        let role : hole_of_token t ≡ hole_kind.Saved =
        sym (ap hole_or_other (ap (λ (o : Option Sym). option_map (hole_of classes) o) stands_there)) ∙ sym (ap hole_or_other (mapped_at classes rule.right j)) ∙ sym (role_is S j)
        ∙ saved_role (suc j) is in
        let saving : t ≡ tok.Save = hole_is_save t role in
        let first : j ≡ 0 = root_first rule.right j (grammar_symbol.Tok t) (rest_of classes _ rule.right ready.instance_of.rule_fits.sides.sorted) stands_there
        (subst (λ y. is_root (Some (grammar_symbol.Tok y)) ≡ true) (sym saving) refl) in
        let begins_so = begins rule.right t (subst (λ y. slice_get rule.right y ≡ Some (grammar_symbol.Tok t)) first stands_there) saving in
        subst (λ y. G (steps.Goes (steps.with_local_set v.state k y))) (result_is begins_so)
        (saves_by (suc j) k p lt l there slot (subst InFrame slot fit.2))

    some : (o : Option (Attr Operand)) → slice_get hs j ≡ o → att_of o ≡ Some (att.Slot k) → SavesIn (suc j) k
    some None there h = cc
    some (Some a) there h =
        let t = token_is a (att.Slot k) h in
        let there' = there ∙ ap Some t.1 in
        let r = symbol_of classes rule.right hs j (attr.Token t.0) ready.instance_of.holes_fit there' in
        by t.0 there' t.2 r.symbol r.at r.fits_so
