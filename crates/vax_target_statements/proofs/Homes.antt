-- A statement that stores in a symbol's own place.
use Rattle.std.proofs.Common.{◌≡◌, ℕ, zero, suc, ◌+◌, ◌-◌, ◌*◌, ◌<◌, ◌==◌, ◌⊎◌, inl, inr, Bool, true, false, cond, List, length, Option, Some, None, Ok, refl, sym, ap, subst, ◌∙◌, arith}
use Rattle.std.specs.Prelude.{slice_get, slice_set}
use Rattle.std.specs.Int.{bit_at}
use Rattle.std.proofs.lemmas.Bool.{lt-ltb, le-leb}
use Rattle.std.proofs.lemmas.Option.{same_Some}
use Rattle.gg_base.specs.declared.size.Size.{Size}
use Rattle.gg_base.specs.declared.size.Size.TheVariants.{Long}
use Rattle.gg_base.specs.Arithmetic.{add32}
use Rattle.gg_base.specs.LittleEndian.{with_number}
use Rattle.tree_core.specs.declared.program.TreeProgram.{TreeProgram}
use Rattle.tree_core.specs.declared.token.Tok.TheVariants as tok
use Rattle.tree_core.specs.Area.{stored}
use Rattle.tree_meaning.specs.State.{Extent}
use Rattle.tree_meaning.specs.Steps as steps
use Rattle.tree_meaning.specs.Steps.{Step, deed_step}
use Rattle.tree_meaning.specs.Deeds.{Puts as PutsDeed}
use Rattle.tree_meaning.specs.declared.value.Meaning.{Meaning as Place}
use Rattle.md_reader.specs.declared.types.Class.{Class}
use Rattle.md_reader.specs.declared.types.Give.{Give}
use Rattle.md_reader.specs.declared.types.Give.TheVariants as give
use Rattle.md_reader.specs.declared.types.Rule.{Rule}
use Rattle.md_reader.specs.Patterns.{kind_at}
use Rattle.term_core.specs.Shape.{Shape}
use Rattle.term_core.proofs.Values.{small}
use Rattle.vax_target_rules.specs.sel_terms.specs.Effects.{EffectShape}
use Rattle.vax_target_rules.specs.sel_target.specs.declared.attr.Attr.{Attr}
use Rattle.vax_target_rules.specs.sel_target.specs.declared.attr.Attr.TheVariants as attr
use Rattle.vax_target_rules.specs.sel_target.specs.Meaning.{Spot, RegAt, touches}
use Rattle.vax_target_rules.specs.sel_target.specs.Values.{View, term_state, value, own_operand, PlaceIs, local as is_local, argument as is_argument, memory as is_memory}
use Rattle.vax_target_rules.specs.sel_target.specs.Instances.{hole, some_touches, attr_touches, IsResult, Ready}
use Rattle.vax_target_rules.specs.sel_target.specs.StatementLaws.{HomeIs}
use Rattle.vax_core.specs.declared.register.Reg.TheVariants.{Ap, Fp}
use Rattle.vax_core.specs.declared.operand.Operand.{Operand}
use Rattle.vax_core.specs.Homes.{home, argument_home, word_addr}
use Rattle.vax_core.specs.Registers.{reg_number, operand_bits}
use Rattle.vax_machine.specs.declared.operands.Location.TheVariants as locations
use Rattle.vax_machine.specs.State.{State, reg}
use Rattle.vax_target_rules.specs.vax_machine_lists.specs.Instructions.{Course}
use Rattle.vax_target_rules.specs.vax_confined.specs.Confined.{is_own_place, may_touch, in_area}
use Rattle.vax_target_rules.specs.vax_states.specs.Stack.{word_of, argument_of}
use Rattle.vax_target_rules.specs.vax_states.proofs.Standing.{local_written, argument_written, high_top}
use Rattle.vax_target_rules.specs.vax_states.proofs.Keeping.{reg_small}
use Rattle.vax_target_rules.specs.vax_states.proofs.Law.{word_address}
use Rattle.vax_target_rules.specs.vax_templates.specs.declared.setting.Own.TheVariants as own
use Rattle.vax_target_rules.specs.vax_templates.specs.Settings.{holes_of, setting_of, own_of, is_reuse}
use Rattle.vax_target_rules.specs.vax_templates.specs.GiveLines.{given_by}
use Rattle.vax_target_rules.specs.vax_templates.specs.Filled.{spare, word_operand, slot_operand, operand_in, register_in}
use Rattle.vax_target_rules.specs.vax_target_meaning.specs.Reading.{names, displaced}
use Rattle.vax_target_rules.specs.vax_target_meaning.specs.Vax.{vax, stands}
use Rattle.vax_target_rules.specs.vax_target_meaning.proofs.Own.{attr_alone}
use Rattle.vax_target_rules.specs.vax_target_confined.proofs.Reading.{home_is_own, argument_is_own, own_touched}
use Rattle.vax_target_rules.specs.vax_target_operands.specs.Scenes.{Scene, worth, filling_at}
use Rattle.vax_target_rules.specs.vax_target_operands.proofs.Holes.{may_or}
use Rattle.vax_target_rules.specs.vax_target_operands.specs.Places.{own_at}
use Rattle.vax_target_rules.specs.vax_target_lines.specs.Lines.{MayHold, IsStored, putting, Puts}
use Rattle.vax_target_rules.specs.vax_target_lines.proofs.Performing.{number_is}
use Rattle.vax_target_rules.specs.vax_target_runs.specs.Runs.{OwnChanged, ZeroChanged, Changed, IsReturn, EndsIn}
use Rattle.vax_target_rules.specs.vax_target_runs.proofs.Kept.{base_untouched, index_untouched, names_same}
use Rattle.vax_target_rules.proofs.Founds.{IsFound}
use Rattle.vax_target_rules.proofs.Instances.{register_result}
use Rattle.vax_target_rules.proofs.Results.{found_so, low, avoids_at, avoided}
use Rattle.vax_target_statements.proofs.LastLines.{c, did, IsDeed, left_plain, agrees_there, live_there}
use Rattle.vax_target_statements.proofs.Deeds.{filled_hole, Steps, goes, area_goes}

-- what a symbol's own place spells, its hole touches
own_touches : (h : Attr Operand) (o : Operand) (s : Spot) → own_operand vax h ≡ Some o → attr_touches vax h s ≡ touches vax o s
own_touches (attr.Reg r) o s e = cc
own_touches (attr.InSlot w) o s e = cc
own_touches (attr.Value p) o s e = cc
own_touches (attr.Place p) o s e = ap (λ x. some_touches vax x s) e
own_touches (attr.Con n) o s e = cc
own_touches (attr.Ea p) o s e = cc
own_touches (attr.Token l) o s e = ap (λ x. some_touches vax x s) e
own_touches attr.Nothing o s e = cc

no_slot : (g : Give) (y : Size) → own_of g ≡ own.Slot y → ⊥
no_slot give.Fresh y e = cc
no_slot give.Reuse y e = cc
no_slot give.Scratch y e = cc
no_slot give.Nothing y e = cc
no_slot (give.Shape l) y e = cc

module _ (q : TreeProgram) (f : Extent) (fs : List Extent) (classes : List Class) (rule : Rule) (e : EffectShape) (hs : List (Attr Operand)) (res : Attr Operand) (v : View) (m : State)
    (ready : Ready vax q f fs classes rule e hs res v m) (deed : IsDeed e.act) (x : EndsIn (c q f fs classes rule e hs res v m ready) m e.act (did q f fs classes rule e hs res v m ready))
    (goes_on : IsReturn e.act → ⊥) where
  abbrev S : Scene
  S = c q f fs classes rule e hs res v m ready

  abbrev D : Course
  D = did q f fs classes rule e hs res v m ready

  abbrev n : State
  n = x.state

  agrees : stands q f fs v.state n
  agrees = agrees_there q f fs classes rule e hs res v m ready e.act x

  frames : n.frames ≡ m.frames
  frames = live_there q f fs classes rule e hs res v m ready e.act x

  not_reused : is_reuse rule.give ≡ false
  not_reused = by rule.give found.given where
    found : IsFound (setting_of classes rule) (holes_of classes rule.right) (kind_at classes rule.left) rule.lines rule.give e
    found = found_so q f fs classes rule e hs res v m ready

    is_deed : IsDeed found.deed
    is_deed = subst IsDeed (sym (ap (λ (y : EffectShape). y.act) found.is)) deed

    by : (g : Give) → given_by (setting_of classes rule) (holes_of classes rule.right) (kind_at classes rule.left) found.progress.own found.progress.last g ≡ Ok found.deed → is_reuse g ≡ false
    by give.Fresh h = refl
    by give.Reuse h = absurd (left_plain found.progress.own found.deed h is_deed)
    by give.Scratch h = refl
    by give.Nothing h = refl
    by (give.Shape l) h = refl

  own_off : (o : Option Shape) (j : ℕ) (h : Attr Operand) (y : ℕ) → MayHold S o → OwnChanged S o y → slice_get hs j ≡ Some h → attr_touches vax h (RegAt y) ≡ false
  own_off None j h y may ch at = absurd ch
  own_off (Some t) j h y may ch at =
      let r = register_result rule.give hs res may ready.result in
      let number_so : reg_number (register_in res) ≡ r.0 = ap (λ a. reg_number (register_in a)) r.1 ∙ number_is r.0 r.2 in
      ap (λ k. attr_touches vax h (RegAt k)) (ch ∙ number_so) ∙ avoids_at (RegAt r.0) hs j h (avoided rule.give hs r.0 not_reused (subst (IsResult vax rule.give hs) r.1 ready.result)) at

  zero_off : (y : ℕ) → IsReturn e.act ⊎ ((r : ℕ) → ZeroChanged x.last r → ⊥) → ZeroChanged x.last y → ⊥
  zero_off y (inl r) ch = goes_on r
  zero_off y (inr quiet) ch = quiet y ch

  own_low : (o : Option Shape) (y : ℕ) → OwnChanged S o y → y < 12
  own_low None y ch = absurd ch
  own_low (Some t) y ch = subst (λ k. k < 12) (sym ch) (low q f fs classes rule e hs res v m ready)

  off : (j : ℕ) (h : Attr Operand) (o : Operand) (y : ℕ) → slice_get hs j ≡ Some h → own_operand vax h ≡ Some o → Changed S x.own_is x.last y → (bit_at (operand_bits o) y == 1) ≡ false
  off j h o y at is (inl ch) = sym (own_touches h o (RegAt y) is) ∙ own_off x.own_is j h y x.reaches.may ch at
  off j h o y at is (inr ch) = absurd (zero_off y x.settled ch)

  below : (y : ℕ) → Changed S x.own_is x.last y → y < 12
  below y (inl ch) = own_low x.own_is y ch
  below y (inr ch) = absurd (zero_off y x.settled ch)

  -- the place is named as before
  same_names : (i : ℕ) (h : Attr Operand) (o : Operand) (size : Size) → hole hs i ≡ Some h → own_operand vax h ≡ Some o → names o size n ≡ names o size m
  same_names zero h o size at is = cc
  same_names (suc j) h o size at is =
      names_same (Changed S x.own_is x.last) m n x.reaches.differs o size
      (record {
        base = λ r named ch. base_untouched o (reg_number r) r (below (reg_number r) ch) (off j h o (reg_number r) at is ch) named refl;
        index = λ r named ch. index_untouched o (reg_number r) r (below (reg_number r) ch) (off j h o (reg_number r) at is ch) named refl;
      })

  -- ---- the three places

  abbrev G : Step → Type 0
  G s = Steps q f fs classes rule e hs res v m ready D s

  home_address : (k address : ℕ) → k < 1024 → names (word_operand k) Long n ≡ Some address → address ≡ word_of (reg n Fp) k
  home_address k address lt e' =
      let is : Some (displaced n Fp (word_addr k)) ≡ Some address = ap (λ b. names (cond b (home k) spare) Long n) (sym (lt-ltb k 1024 lt)) ∙ e' in
      sym (same_Some (displaced n Fp (word_addr k)) address is)
      ∙ word_address (reg n Fp) k (let a = agrees.fp in let b = agrees.running.words in let d = agrees.bottom in omega (arith, a, b, d, lt)) (reg_small n Fp agrees.sound)

  argument_address : (k address : ℕ) → k < length v.state.running.arguments → names (slot_operand tok.Arg (k + 1)) Long n ≡ Some address → address ≡ argument_of (reg n Ap) (k + 1)
  argument_address k address lt e' =
      let few = agrees.running.few in
      let is : Some (add32 (4 * (k + 1)) (reg n Ap)) ≡ Some address = ap (λ b. names (cond b (argument_home (k + 1)) spare) Long n) (sym (le-leb (k + 1) 255 (omega (arith, few, lt)))) ∙ e' in
      let end = high_top q.objects _ _ v.state n agrees in
      let a = agrees.ap in
      let b = agrees.running.end in
      sym (same_Some (add32 (4 * (k + 1)) (reg n Ap)) address is) ∙ (let same : add32 (4 * (k + 1)) (reg n Ap) ≡ argument_of (reg n Ap) (k + 1) = omega (arith, a, b, end, lt) in same)

  local_goes : (mine : Bool) (k address : ℕ) (t : Shape) (p : Puts S n mine Long (worth S t) (λ l. l ≡ locations.Memory address) D) → mine ≡ true → k < f.locals → address ≡ word_of (reg n Fp) k →
      G (steps.Goes (steps.with_local_set v.state k (worth S t)))
  local_goes mine k address t p owned lt is =
      let w = local_written q.objects _ _ v.state n agrees k (worth S t) lt (small (term_state v) t) in
      goes q f fs classes rule e hs res v m ready n _ (locations.Memory (word_of (reg n Fp) k)) Long (worth S t) p.conditions D (steps.with_local_set v.state k (worth S t))
      (p.is (own_touched n mine p.place Long owned) ∙ ap (λ l. putting n l Long (worth S t) p.conditions) (p.there ∙ ap locations.Memory is)) w.0 w.1 frames

  argument_goes : (mine : Bool) (k address : ℕ) (t : Shape) (p : Puts S n mine Long (worth S t) (λ l. l ≡ locations.Memory address) D) → mine ≡ true → k < length v.state.running.arguments →
      address ≡ argument_of (reg n Ap) (k + 1) → G (steps.Goes (steps.with_argument_set v.state (k + 1) (worth S t)))
  argument_goes mine k address t p owned lt is =
      let w = argument_written q.objects _ _ v.state n agrees k (worth S t) lt (small (term_state v) t) in
      let back : k ≡ k + 1 - 1 = omega arith in
      let stacked : State = record n { stack = with_number Long n.stack (argument_of agrees.innermost.ap (k + 1) - 2139095040) (worth S t) } in
      goes q f fs classes rule e hs res v m ready n stacked (locations.Memory (argument_of (reg n Ap) (k + 1))) Long (worth S t) p.conditions D (steps.with_argument_set v.state (k + 1) (worth S t))
      (p.is (own_touched n mine p.place Long owned) ∙ ap (λ l. putting n l Long (worth S t) p.conditions) (p.there ∙ ap locations.Memory is)) w.0
      (subst (λ j. stands q f fs (record v.state { running = record v.state.running { arguments = slice_set v.state.running.arguments j (worth S t) } }) stacked) back w.1) frames

  local_owned : (k : ℕ) → k < 1024 → is_own_place (word_operand k) ≡ true
  local_owned k lt = ap (λ b. is_own_place (cond b (home k) spare)) (lt-ltb k 1024 lt) ∙ home_is_own k lt

  argument_owned : (k : ℕ) → k < length v.state.running.arguments → is_own_place (slot_operand tok.Arg (k + 1)) ≡ true
  argument_owned k lt =
      let few = agrees.running.few in
      ap (λ b. is_own_place (cond b (argument_home (k + 1)) spare)) (le-leb (k + 1) 255 (omega (arith, few, lt))) ∙ argument_is_own k (omega (arith, few, lt))

  place_goes : (i : ℕ) (size : Size) (t : Shape) (h : Attr Operand) (o : Operand) (g : Place) (address : ℕ)
      (p : Puts S n (is_own_place o) size (worth S t) (λ l. l ≡ locations.Memory address) D) →
      hole hs i ≡ Some h → own_operand vax h ≡ Some o → names o size n ≡ Some address → PlaceIs vax f v.state m size o g → G (deed_step q v.state (PutsDeed g (worth S t)))
  place_goes i size t h o g address p at is named (is_local k long same lt below_) =
      local_goes (is_own_place o) k address t (subst (λ z. Puts S n (is_own_place o) z (worth S t) (λ l. l ≡ locations.Memory address) D) long p)
      (ap is_own_place same ∙ local_owned k below_) lt
      (home_address k address below_ (subst (λ z. names (word_operand k) z n ≡ Some address) long (subst (λ y. names y size n ≡ Some address) same named)))
  place_goes i size t h o g address p at is named (is_argument k long same lt numbered) =
      argument_goes (is_own_place o) k address t (subst (λ z. Puts S n (is_own_place o) z (worth S t) (λ l. l ≡ locations.Memory address) D) long p)
      (ap is_own_place same ∙ argument_owned k lt) lt
      (argument_address k address lt (subst (λ z. names (slot_operand tok.Arg (k + 1)) z n ≡ Some address) long (subst (λ y. names y size n ≡ Some address) same named)))
  place_goes i size t h o g address p at is named (is_memory a there) =
      let same = same_Some address a (sym named ∙ same_names i h o size at is ∙ there) in
      let place = p.there ∙ ap locations.Memory same in
      area_goes q f fs classes rule e hs res v m ready n a size (worth S t) p.conditions D agrees frames
      (λ inside. p.is (ap (λ l. may_touch n (is_own_place o) l size) place ∙ may_or (is_own_place o) (in_area n a size) inside)
      ∙ ap (λ l. putting n l size (worth S t) p.conditions) place)
      (stored size v.state.area a (worth S t)) refl

  pub home_goes : (size : Size) (i : ℕ) (t : Shape) (g : Place) (y : ℕ) → Puts S n (own_at S i) size (worth S t) (IsStored S n size i) D → HomeIs vax f v.state m hs i size g → value v t ≡ y →
      G (deed_step q v.state (PutsDeed g y))
  home_goes size i t g y p home_is worth_so = subst (λ z. G (deed_step q v.state (PutsDeed g z))) worth_so (by p.there) where
    by : IsStored S n size i p.place → G (deed_step q v.state (PutsDeed g (worth S t)))
    by (inl s) = absurd (no_slot rule.give s.0.0 s.0.1)
    by (inr h) =
        let o : operand_in q (filling_at S i) ≡ home_is.operand_is = ap (operand_in q) (filled_hole S i home_is.attribute home_is.at) ∙ attr_alone q home_is.attribute home_is.operand_is home_is.own in
        place_goes i size t home_is.attribute home_is.operand_is g h.address
        (subst (λ b. Puts S n b size (worth S t) (λ l. l ≡ locations.Memory h.address) D) (ap is_own_place o)
        (record { place = p.place; conditions = p.conditions; there = h.is; is = p.is }))
        home_is.at home_is.own (subst (λ z. names z size n ≡ Some h.address) o h.named_so) home_is.place
