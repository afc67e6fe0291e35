-- The lines of a statement that stores, pushes, saves or returns do its deed.
use Rattle.std.proofs.Common.{◌≡◌, ℕ, zero, suc, ◌+◌, ◌-◌, ◌*◌, ◌<◌, ◌^◌, inl, inr, false, Option, Some, None, Result, Ok}
use Rattle.std.proofs.Common.{List, map, length, refl, sym, ap, subst, ◌∙◌, arith}
use Rattle.std.specs.Prelude.{slice_set}
use Rattle.std.proofs.lemmas.Option.{same_Some}
use Rattle.gg_base.specs.declared.size.Size.{Size}
use Rattle.gg_base.specs.declared.size.Size.TheVariants.{Long}
use Rattle.l32_target_rules.specs.vax_target_meaning.specs.tree_core.specs.declared.program.TreeProgram.{TreeProgram}
use Rattle.l32_target_rules.specs.vax_target_meaning.specs.tree_core.specs.declared.token.Tok.TheVariants as tok
use Rattle.l32_target_rules.specs.vax_target_meaning.specs.tree_core.specs.declared.tree.Att.TheVariants as att
use Rattle.l32_target_rules.specs.vax_target_meaning.specs.tree_core.specs.Area.{stored}
use Rattle.l32_target_rules.specs.vax_target_meaning.specs.tree_meaning.specs.declared.value.Meaning.{Meaning as Place}
use Rattle.l32_target_rules.specs.vax_target_meaning.specs.tree_meaning.specs.declared.value.Meaning.TheVariants as places
use Rattle.l32_target_rules.specs.vax_target_meaning.specs.tree_meaning.specs.State.{State as Trees, Extent}
use Rattle.l32_target_rules.specs.vax_target_meaning.specs.tree_meaning.specs.Deeds.{Deed, Puts as PutsDeed, Pushes, Saves, Returns as Leaves}
use Rattle.l32_target_rules.specs.vax_target_meaning.specs.tree_meaning.specs.Steps as steps
use Rattle.l32_target_rules.specs.vax_target_meaning.specs.tree_meaning.specs.Steps.{Step, deed_step, with_local_set, with_pushed}
use Rattle.l32_target_rules.specs.judging_laws.specs.md_reader.specs.declared.types.Class.{Class}
use Rattle.l32_target_rules.specs.judging_laws.specs.md_reader.specs.declared.types.Rule.{Rule}
use Rattle.l32_target_rules.specs.judging_laws.specs.term_core.specs.Shape.{Shape, LastResult}
use Rattle.l32_target_rules.specs.judging_laws.specs.sel_terms.specs.Effects.{ActShape, EffectShape, StoreHome, StoreAt, Push, Save, Return}
use Rattle.l32_target_rules.specs.judging_laws.specs.sel_target.specs.declared.attr.Attr.{Attr}
use Rattle.l32_target_rules.specs.judging_laws.specs.sel_target.specs.declared.attr.Attr.TheVariants as attr
use Rattle.l32_target_rules.specs.judging_laws.specs.sel_target.specs.Courses.{Course}
use Rattle.l32_target_rules.specs.judging_laws.specs.sel_target.specs.Meaning.{Spot, RegAt, touches}
use Rattle.l32_target_rules.specs.judging_laws.specs.sel_target.specs.Values.{View, value, own_operand, PlaceIs, local as is_local, argument as is_argument, memory as is_memory}
use Rattle.l32_target_rules.specs.judging_laws.specs.sel_target.specs.Instances.{hole, some_touches, attr_touches, IsResult, Ready}
use Rattle.l32_target_rules.specs.judging_laws.specs.sel_target.specs.Outcomes.{Untouched}
use Rattle.l32_target_rules.specs.judging_laws.specs.sel_target.specs.StatementLaws.{att_of, IsStep, DoesAct, HomeIs}
use Rattle.l32_target_rules.specs.judging_laws.specs.vax_templates.specs.declared.setting.Own.TheVariants as own
use Rattle.l32_target_rules.specs.judging_laws.specs.vax_templates.specs.Settings.{own_of, is_reuse}
use Rattle.l32_target_rules.specs.l32_states.specs.call_pieces.specs.Piece.{word_of}
use Rattle.l32_target_rules.specs.l32_states.specs.call_pieces.specs.Laws.{with_long}
use Rattle.l32_target_rules.specs.l32_states.specs.Sentences.{with_argument}
use Rattle.l32_target_rules.specs.l32_states.proofs.Standing.{local_written, argument_written, area_written_so, push_written, register_kept}
use Rattle.l32_target_rules.specs.l32_states.proofs.Sound.{reg_same}
use Rattle.l32_target_rules.specs.l32_templates.specs.l32_core.specs.declared.operand.Operand32.{Operand32}
use Rattle.l32_target_rules.specs.l32_templates.specs.l32_core.specs.declared.code.Instr32.{Instr32}
use Rattle.l32_target_rules.specs.l32_templates.specs.l32_machine.specs.declared.turn.Stop32.{Stop32}
use Rattle.l32_target_rules.specs.l32_templates.specs.l32_machine.specs.State.{State, with_reg}
use Rattle.l32_target_rules.specs.l32_templates.specs.l32_machine.specs.Memory.{written}
use Rattle.l32_target_rules.specs.l32_templates.specs.l32_machine.specs.Calls.{silent}
use Rattle.l32_target_rules.specs.l32_templates.specs.Filled.{register_in, operand_in, word_operand, slot_operand}
use Rattle.l32_target_rules.specs.l32_target_meaning.specs.Stack.{argument_of}
use Rattle.l32_target_rules.specs.l32_target_meaning.specs.Reading.{named}
use Rattle.l32_target_rules.specs.l32_target_meaning.specs.Running.{course_of, run}
use Rattle.l32_target_rules.specs.l32_target_meaning.specs.Agreeing.{Agrees}
use Rattle.l32_target_rules.specs.l32_target_meaning.specs.L32.{l32}
use Rattle.l32_target_rules.specs.l32_target_spelling.proofs.Own.{local_is}
use Rattle.l32_target_rules.specs.l32_target_spelling.proofs.Shapes.{attr_alone}
use Rattle.l32_target_reading.proofs.Places.{home_address, argument_address, argument_is}
use Rattle.l32_target_rules.specs.l32_target_operands.specs.Scenes.{Scene, worth, filling_at}
use Rattle.l32_target_rules.specs.l32_target_operands.proofs.Worths.{worth_small}
use Rattle.l32_target_rules.specs.l32_target_lines.specs.Lines.{IsStored, Puts, MayHold}
use Rattle.l32_target_rules.specs.l32_target_runs.specs.Runs.{EndsIn, IsDone, line_of, spots_of}
use Rattle.l32_target_rules.specs.Scene.{scene_of}
use Rattle.l32_target_rules.proofs.Instances.{register_result}
use Rattle.l32_target_rules.proofs.Results.{settled, avoided, avoids_at}
use Rattle.l32_target_statements.specs.Laws.{IsDeed, IsStoring, StatementsStore}
use Rattle.l32_target_statements.proofs.Saves.{saves_in}
use Rattle.l32_target_statements.proofs.Ended.{no_slot, ended, agrees as agrees_there, room, live, goes as goes_there, statement_of, filled_hole, done}

-- what a symbol's own place touches, its hole does
own_touches : (h : Attr Operand32) (o : Operand32) (s : Spot) → own_operand l32 h ≡ Some o → attr_touches l32 h s ≡ touches l32 o s
own_touches (attr.Place p) o s e = ap (λ x. some_touches l32 x s) e
own_touches (attr.Token l) o s e = ap (λ x. some_touches l32 x s) e
own_touches _ o s e = absurd cc

deed_of : (a : ActShape) → IsStoring a → IsDeed a
deed_of (StoreHome z i t) s = tt
deed_of (StoreAt z a t) s = tt
deed_of (Push t) s = tt
deed_of (Save i) s = tt
deed_of (Return t) s = tt
deed_of _ s = absurd s

module _ (q : TreeProgram) (f : Extent) (fs : List Extent) (classes : List Class) (rule : Rule) (e : EffectShape) (hs : List (Attr Operand32)) (res : Attr Operand32) (v : View) (m : State)
    (ready : Ready l32 q f fs classes rule e hs res v m) (deed : IsDeed e.act) where
  abbrev S : Scene
  S = scene_of q classes rule hs res v

  abbrev D : Course Instr32 State
  D = run (map (line_of S) rule.lines) m

  abbrev E : EndsIn S m e.act D
  E = ended q f fs classes rule e hs res v m ready deed

  abbrev n : State
  n = E.state

  agrees : Agrees q.objects f fs v.state n
  agrees = agrees_there q f fs classes rule e hs res v m ready deed

  abbrev G : Step → Type 0
  G s = IsStep l32 q f fs v.state m D s

  goes : (k : State) (s : Trees) → D ≡ course_of (silent (Ok k)) → Agrees q.objects f fs s k → k.frames ≡ n.frames → G (steps.Goes s)
  goes k s is stands same = goes_there q f fs classes rule e hs res v m ready deed k s is stands same

  -- a number is put into the data area
  area_goes : (a : ℕ) (size : Size) (y : ℕ) → D ≡ course_of (silent (written n a size y)) → G (steps.put_in v.state (stored size v.state.area a y))
  area_goes a size y is = by (stored size v.state.area a y) refl where
    by : (o : Option (List ℕ)) → stored size v.state.area a y ≡ o → G (steps.put_in v.state o)
    by None missing = tt
    by (Some area) there =
        let w = area_written_so q.objects f fs v.state n agrees size a y area there in
        goes (record n { area = area }) (record v.state { area = area }) (is ∙ ap (λ (r : Result State Stop32). course_of (silent r)) w.0) w.1 refl

  -- ---- a place that is a symbol's

  off : (i : ℕ) (h : Attr Operand32) (o : Operand32) → hole hs i ≡ Some h → own_operand l32 h ≡ Some o → is_reuse rule.give ≡ false → own_of rule.give ≡ own.Register
      → touches l32 o (RegAt (register_in res)) ≡ false
  off zero h o at is fresh may = cc
  off (suc j) h o at is fresh may =
      let r = register_result rule.give hs res may ready.result in
      let apart = avoided rule.give hs r.0 fresh (subst (IsResult l32 rule.give hs) r.1 ready.result) in
      sym (own_touches h o (RegAt (register_in res)) is)
      ∙ ap (λ (a : Attr Operand32). attr_touches l32 h (RegAt (register_in a))) r.1
      ∙ avoids_at (RegAt r.0) hs j h apart at

  untouched : (i : ℕ) (h : Attr Operand32) (o : Operand32) → hole hs i ≡ Some h → own_operand l32 h ≡ Some o → is_reuse rule.give ≡ false → (z : Option Shape) → MayHold S z
      → Untouched l32 (spots_of S z) o
  untouched i h o at is fresh None may = tt
  untouched i h o at is fresh (Some t) may = (off i h o at is fresh may, tt)

  local_goes : (k a : ℕ) (y : ℕ) → k < f.locals → k < 1024 → y < 2 ^ 32 → named n (word_operand k) ≡ Some a → D ≡ course_of (silent (written n a Long y)) → G (steps.Goes (with_local_set v.state k y))
  local_goes k a y lt low fits there is =
      let w = local_written q.objects f fs v.state n agrees k y lt fits in
      let words : k < f.words = omega (arith, lt, agrees.running.locals) in
      let at : a ≡ word_of n.fp k = sym (same_Some _ a (ap (named n) (sym (local_is k low)) ∙ there)) ∙ home_address q.objects f fs v.state n agrees k words in
      goes (record n { stack = with_long n.stack (word_of n.fp k) y }) (with_local_set v.state k y)
      (is ∙ ap (λ (x : ℕ). course_of (silent (written n x Long y))) at ∙ ap (λ (r : Result State Stop32). course_of (silent r)) w.0) w.1 refl

  argument_goes : (k a : ℕ) (y : ℕ) → k < length v.state.running.arguments → y < 2 ^ 32 → named n (slot_operand tok.Arg (k + 1)) ≡ Some a → D ≡ course_of (silent (written n a Long y))
      → G (steps.Goes (steps.with_argument_set v.state (k + 1) y))
  argument_goes k a y lt fits there is =
      let w = argument_written q.objects f fs v.state n agrees k y lt fits in
      let few : k < 255 = omega (arith, lt, agrees.running.few) in
      let at : a ≡ argument_of n.fp (k + 1) =
      sym (same_Some _ a (ap (named n) (sym (argument_is k few)) ∙ there)) ∙ argument_address q.objects f fs v.state n agrees k lt in
      let back : k ≡ k + 1 - 1 = omega arith in
      subst (λ (j : ℕ). G (steps.Goes (record v.state { running = record v.state.running { arguments = slice_set v.state.running.arguments j y } }))) back
      (goes (record n { stack = with_long n.stack (n.fp + 4 * k) y }) (with_argument v.state k y)
      (is ∙ ap (λ (x : ℕ). course_of (silent (written n x Long y))) at ∙ ap (λ (r : Result State Stop32). course_of (silent r)) w.0) w.1 refl)

  place_goes : (i : ℕ) (size : Size) (t : Shape) (h : Attr Operand32) (o : Operand32) (g : Place) (a : ℕ) → hole hs i ≡ Some h → own_operand l32 h ≡ Some o → is_reuse rule.give ≡ false →
      named n o ≡ Some a → D ≡ course_of (silent (written n a size (worth S t))) → PlaceIs l32 f v.state m size o g → G (deed_step q v.state (PutsDeed g (worth S t)))
  place_goes i size t h o g a at mine fresh there is (is_local k long same lt low) =
      local_goes k a (worth S t) lt low (worth_small S t) (subst (λ x. named n x ≡ Some a) same there) (subst (λ z. D ≡ course_of (silent (written n a z (worth S t)))) long is)
  place_goes i size t h o g a at mine fresh there is (is_argument k long same lt numbered) =
      argument_goes k a (worth S t) lt (worth_small S t) (subst (λ x. named n x ≡ Some a) same there) (subst (λ z. D ≡ course_of (silent (written n a z (worth S t)))) long is)
  place_goes i size t h o g a at mine fresh there is (is_memory b before) =
      let kept = E.reaches.keeps.names o size b (untouched i h o at mine fresh E.own_is E.reaches.may) before in
      let same : a ≡ b = same_Some a b (sym there ∙ kept) in
      area_goes b size (worth S t) (is ∙ ap (λ (x : ℕ). course_of (silent (written n x size (worth S t)))) same)

  home_goes : (size : Size) (i : ℕ) (t : Shape) (g : Place) (y : ℕ) → IsDone S n (StoreHome size i t) D → HomeIs l32 f v.state m hs i size g → value v t ≡ y
      → G (deed_step q v.state (PutsDeed g y))
  home_goes size i t g y (inl x) home_is same = subst (λ (z : ℕ). G (deed_step q v.state (PutsDeed g z))) same (by x.1 x.1.there) where
    o : operand_in q (filling_at S i) ≡ home_is.operand_is
    o = ap (operand_in q) (filled_hole q f fs classes rule e hs res v m ready deed i home_is.attribute home_is.at) ∙ attr_alone q home_is.attribute home_is.operand_is home_is.own

    by : (p : Puts n size (worth S t) (IsStored S n i) D) → IsStored S n i p.address → G (deed_step q v.state (PutsDeed g (worth S t)))
    by p (inl s) = absurd (no_slot rule.give s.0.0 s.0.1)
    by p (inr s) =
        place_goes i size t home_is.attribute home_is.operand_is g p.address home_is.at home_is.own
        (settled q f fs classes rule e hs res v m ready (statement_of q f fs classes rule e hs res v m ready deed x.0)) (subst (λ z. named n z ≡ Some p.address) o s) p.is home_is.place
  home_goes size i t g y (inr x) home_is same = absurd (let z = x.1 in cc)

  at_goes : (size : Size) (a t : Shape) (g : Place) (y : ℕ) → IsDone S n (StoreAt size a t) D → g ≡ places.Memory size (value v a) → value v t ≡ y → G (deed_step q v.state (PutsDeed g y))
  at_goes size a t g y (inl x) place same =
      subst (λ (z : ℕ). G (deed_step q v.state (PutsDeed g z))) same
      (subst (λ (z : Place). G (deed_step q v.state (PutsDeed z (worth S t)))) (sym place)
      (area_goes (worth S a) size (worth S t) (x.1.is ∙ ap (λ (z : ℕ). course_of (silent (written n z size (worth S t)))) x.1.there)))
  at_goes size a t g y (inr x) place same = absurd (let z = x.1 in cc)

  push_goes : (t : Shape) (y : ℕ) → IsDone S n (Push t) D → value v t ≡ y → G (deed_step q v.state (Pushes y))
  push_goes t y (inl x) same =
      let w = push_written q.objects f fs v.state n agrees (worth S t) (room q f fs classes rule e hs res v m ready deed) (worth_small S t) in
      subst (λ (z : ℕ). G (deed_step q v.state (Pushes z))) same
      (goes _ (with_pushed v.state (worth S t)) (x.1 ∙ ap (λ (r : Result State Stop32). course_of (silent r)) w.0) w.1 refl)
  push_goes t y (inr x) same = absurd (let z = x.1 in cc)

  save_goes : (i k : ℕ) → IsDone S n (Save i) D → att_of (hole hs i) ≡ Some (att.Slot k) → k < f.locals → G (deed_step q v.state (Saves k))
  save_goes i k (inl x) at lt =
      let s = saves_in q f fs classes rule e hs res v m ready deed i k x.1.1 at in
      subst (λ y. G (steps.Goes (with_local_set v.state k y))) s.result
      (local_goes k x.1.0.address (worth S LastResult) lt s.low (worth_small S LastResult) (ap (named n) (sym s.place) ∙ x.1.0.there) x.1.0.is)
  save_goes i k (inr x) at lt = absurd (let z = x.1 in cc)

  return_same : (a b : Shape) → Return a ≡ Return b → a ≡ b
  return_same a b e' = cc

  return_goes : (t : Shape) (y : ℕ) → IsDone S n (Return t) D → value v t ≡ y → G (deed_step q v.state (Leaves y))
  return_goes t y (inl x) same =
      (n, x.1.0, record { agrees = agrees; live = live q f fs classes rule e hs res v m ready deed }, x.1.1 ∙ same, room q f fs classes rule e hs res v m ready deed)
  return_goes t y (inr x) same =
      let term = return_same t x.0 x.1 in
      let k = with_reg n 0 (worth S x.0) in (
        k,
        x.2,
        record {
          agrees = register_kept q.objects f fs v.state n agrees 0 (worth S x.0) (worth_small S x.0);
          live = live q f fs classes rule e hs res v m ready deed;
        },
        reg_same n 0 (worth S x.0) agrees.sound (omega arith) ∙ ap (worth S) (sym term) ∙ same,
        record { space = (room q f fs classes rule e hs res v m ready deed).space; frame = (room q f fs classes rule e hs res v m ready deed).frame },
      )

  abbrev done_so : (a : ActShape) → e.act ≡ a → IsDone S n a D
  done_so a is = done q f fs classes rule e hs res v m ready deed a is

  pub does : (a : ActShape) (d : Deed) → e.act ≡ a → IsStoring a → DoesAct l32 q f rule.restrictions hs v m a d → G (deed_step q v.state d)
  does (StoreHome z i t) (PutsDeed g y) is s h = home_goes z i t g y (done_so (StoreHome z i t) is) h.0 h.1
  does (StoreHome z i t) _ is s h = absurd h
  does (StoreAt z a t) (PutsDeed g y) is s h = at_goes z a t g y (done_so (StoreAt z a t) is) h.0 h.1
  does (StoreAt z a t) _ is s h = absurd h
  does (Push t) (Pushes y) is s h = push_goes t y (done_so (Push t) is) h
  does (Push t) _ is s h = absurd h
  does (Save i) (Saves k) is s h = save_goes i k (done_so (Save i) is) h.0 h.1
  does (Save i) _ is s h = absurd h
  does (Return t) (Leaves y) is s h = return_goes t y (done_so (Return t) is) h
  does (Return t) _ is s h = absurd h
  does _ d is s h = absurd s

pub statements_store : StatementsStore
statements_store q f fs classes rule e d hs res v m ready s h = does q f fs classes rule e hs res v m ready (deed_of e.act s) e.act d refl s h
