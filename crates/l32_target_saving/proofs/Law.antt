-- The law: lines that save, and lines that reload.
use Rattle.std.proofs.Common.{◌≡◌, ℕ, zero, suc, inl, inr, ◌<◌, ◌++◌, true, false, Option, Some, None, Ok, List, [], ◌∷◌, map, refl, sym, ap, subst, ◌∙◌, arith}
use Rattle.std.specs.List.{AllByRecursion}
use Rattle.gg_base.specs.declared.size.Size.{Size}
use Rattle.gg_base.specs.declared.size.Size.TheVariants.{Long}
use Rattle.gg_base.specs.Sizes.{low}
use Rattle.gg_base.proofs.Facts.{err_ok, ok_same}
use Rattle.l32_target_rules.specs.vax_target_meaning.specs.tree_core.specs.declared.program.TreeProgram.{TreeProgram}
use Rattle.l32_target_rules.specs.vax_target_meaning.specs.tree_meaning.specs.State.{Extent}
use Rattle.l32_target_rules.specs.judging_laws.specs.md_reader_pieces.specs.declared.piece.Line.{Line}
use Rattle.l32_target_rules.specs.judging_laws.specs.md_reader.specs.declared.types.Kind.{Kind}
use Rattle.l32_target_rules.specs.judging_laws.specs.md_reader.specs.declared.types.Kind.TheVariants as kind
use Rattle.l32_target_rules.specs.judging_laws.specs.term_core.specs.Shape.{Shape}
use Rattle.l32_target_rules.specs.judging_laws.specs.sel_terms.specs.Effects.{ActShape, EffectShape, Value, StoreHome}
use Rattle.l32_target_rules.specs.judging_laws.specs.sel_target.specs.sel_terms_meaning.specs.Meaning.{terms_of_act}
use Rattle.l32_target_rules.specs.judging_laws.specs.sel_target.specs.declared.attr.Attr.{Attr}
use Rattle.l32_target_rules.specs.judging_laws.specs.sel_target.specs.declared.attr.Attr.TheVariants as attr
use Rattle.l32_target_rules.specs.judging_laws.specs.sel_target.specs.Courses.{Course}
use Rattle.l32_target_rules.specs.judging_laws.specs.sel_target.specs.Meaning.{RegAt, WordAt}
use Rattle.l32_target_rules.specs.judging_laws.specs.sel_target.specs.Values.{View, value, IsRead}
use Rattle.l32_target_rules.specs.judging_laws.specs.sel_target.specs.Instances.{attr_touches}
use Rattle.l32_target_rules.specs.judging_laws.specs.sel_target.specs.EffectTerms.{terms_of}
use Rattle.l32_target_rules.specs.judging_laws.specs.sel_target.specs.Outcomes.{Sets, SetsName}
use Rattle.l32_target_rules.specs.judging_laws.specs.sel_target.specs.SavingLaws.{IsSet, IsSlot, saving}
use Rattle.l32_target_rules.specs.judging_laws.specs.vax_templates.specs.declared.setting.Own.{Own}
use Rattle.l32_target_rules.specs.judging_laws.specs.vax_templates.specs.declared.setting.Own.TheVariants as own
use Rattle.l32_target_rules.specs.judging_laws.specs.vax_templates.specs.Settings.{saved_setting, saved_hole}
use Rattle.l32_target_rules.specs.judging_laws.specs.vax_templates.specs.Judging.{is_operand}
use Rattle.l32_target_rules.specs.judging_laws.specs.vax_templates.specs.Deeds.{Last, Plain, Compared, Tested, Returning, Ended}
use Rattle.l32_target_rules.specs.judging_laws.specs.vax_templates.specs.GiveLines.{left_value, last_deed}
use Rattle.l32_target_rules.specs.judging_laws.specs.vax_templates.specs.Found.{saved_give}
use Rattle.l32_target_rules.specs.judging_laws.specs.template_judging.specs.Lines.{given_by}
use Rattle.l32_target_rules.specs.l32_templates.specs.l32_core.specs.declared.operand.Operand32.{Operand32}
use Rattle.l32_target_rules.specs.l32_templates.specs.l32_core.specs.declared.code.Instr32.{Instr32}
use Rattle.l32_target_rules.specs.l32_templates.specs.l32_machine.specs.State.{State}
use Rattle.l32_target_rules.specs.l32_templates.specs.Homes.{home}
use Rattle.l32_target_rules.specs.l32_templates.specs.Found.{l32_lines}
use Rattle.l32_target_rules.specs.l32_target_meaning.specs.Running.{run}
use Rattle.l32_target_rules.specs.l32_target_meaning.specs.L32.{l32}
use Rattle.l32_target_rules.specs.l32_target_operands.specs.Scenes.{Scene, Means, OwnIs, Sees}
use Rattle.l32_target_rules.specs.l32_target_operands.proofs.Worths.{worth_small}
use Rattle.l32_target_rules.specs.l32_target_lines.specs.Lines.{MayEnd, EndIsRead}
use Rattle.l32_target_rules.specs.l32_target_spelling.proofs.Own.{none_at}
use Rattle.l32_target_rules.specs.judging_effects.specs.Laws.{IsFound}
use Rattle.l32_target_rules.specs.l32_target_runs.specs.Runs.{EndsIn, ComesTo, RunsTo, IsDone, IsApart, line_of}
use Rattle.l32_target_saving.specs.Laws.{LinesSave}
use Rattle.l32_target_saving.proofs.Words.{with_word, slot_reads, slot_names}
use Rattle.l32_target_saving.proofs.Scene.{scene, role_is, filling_is, sees, value_means, name_means}
use Rattle.l32_target_saving.proofs.Storing.{F, ran, ends_in, Stored, stores}

-- the terms of an effect can be read where its only one can
store_calm : (v : View) (e : EffectShape) (z : Size) (t : Shape) → e.act ≡ StoreHome z 0 t → e.divisors ≡ [] → IsRead v t → AllByRecursion (λ (x : Shape). IsRead v x) (terms_of e)
store_calm v e z t act ds read =
    subst (λ (l : List Shape). AllByRecursion (λ (x : Shape). IsRead v x) (terms_of_act e.act ++ l)) (sym ds)
    (subst (λ (a : ActShape). AllByRecursion (λ (x : Shape). IsRead v x) (terms_of_act a ++ [])) (sym act) (read, tt))

value_calm : (v : View) (e : EffectShape) (t : Shape) → e.act ≡ Value t → e.divisors ≡ [] → IsRead v t → AllByRecursion (λ (x : Shape). IsRead v x) (terms_of e)
value_calm v e t act ds read =
    subst (λ (l : List Shape). AllByRecursion (λ (x : Shape). IsRead v x) (terms_of_act e.act ++ l)) (sym ds)
    (subst (λ (a : ActShape). AllByRecursion (λ (x : Shape). IsRead v x) (terms_of_act a ++ [])) (sym act) (read, tt))

-- ---- saving

module _ (q : TreeProgram) (f : Extent) (fs : List Extent) (k : Kind) (a : Attr Operand32) (w : ℕ) (v : View) (m : State) (slot : IsSlot l32 f w) (agrees : l32.agrees q f fs v.state m)
    (z : Size) (slotted : (saved_setting k).own ≡ own.Slot z) (size : Size) (l : Line) (e : EffectShape) (t : Shape)
    (seen : Sees (scene q k a (attr.Place (home w)) v) None m) (taken : l32.spill_effect k l ≡ Ok e) (act : e.act ≡ StoreHome size 0 t) (undivided : e.divisors ≡ []) (read : IsRead v t) where
  abbrev T : Scene
  T = scene q k a (attr.Place (home w)) v

  apart : IsApart T
  apart is fresh i op = absurd (let y : own.Slot z ≡ own.Register = sym slotted ∙ is in cc)

  zero_low : 0 < 12
  zero_low = omega arith

  abbrev H : IsFound l32_lines (saved_setting k) (saved_hole k ∷ []) None (l ∷ []) (saved_give k) e
  H = F q k a (attr.Place (home w)) v m seen zero_low apart l e taken undivided (store_calm v e size t act undivided read)

  -- where the kind is no register's, the last deed is the effect's
  abbrev Given : Type 0
  Given = given_by (l32_lines.gives (saved_setting k) (saved_hole k ∷ []) None) H.progress.own H.progress.last (saved_give k) ≡ Ok H.deed
      → last_deed H.progress.last ≡ Ok H.deed

  saved_so : Given → Stored q f fs k a w v m slot agrees z slotted size t (run (map (line_of T) (l ∷ [])) m)
  saved_so given =
      stores q f fs k a w v m slot agrees z slotted size t (run (map (line_of T) (l ∷ [])) m)
      (subst (λ (x : ActShape). EndsIn T m x (run (map (line_of T) (l ∷ [])) m)) act
      (ends_in q k a (attr.Place (home w)) v m seen zero_low apart l e taken undivided (store_calm v e size t act undivided read) (given H.given)
      (subst (λ (x : ActShape). EndIsRead T (Ended x)) (sym act) (λ is. (read, tt)))))

-- ---- reloading

module _ (q : TreeProgram) (f : Extent) (fs : List Extent) (w r : ℕ) (v : View) (m : State) (low : r < 12) (agrees : l32.agrees q f fs v.state m) (l : Line) (e : EffectShape) (t : Shape)
    (seen : Sees (scene q kind.Reg (attr.Value (home w)) (attr.Reg r) v) None m) (taken : l32.spill_effect kind.Reg l ≡ Ok e) (act : e.act ≡ Value t) (undivided : e.divisors ≡ [])
    (read : IsRead v t) where
  abbrev U : Scene
  U = scene q kind.Reg (attr.Value (home w)) (attr.Reg r) v

  reload_apart : IsApart U
  reload_apart is fresh zero op = absurd (let y : false ≡ true = op in cc)
  reload_apart is fresh (suc zero) op = ap (λ x. attr_touches l32 x (RegAt r)) (filling_is (attr.Value (home w)) (attr.Reg r) 0) ∙ none_at r
  reload_apart is fresh (suc (suc j)) op = absurd (let y : false ≡ true = sym (ap is_operand (role_is kind.Reg (suc j))) ∙ op in cc)

  abbrev run_it : Course Instr32 State
  run_it = run (map (line_of U) (l ∷ [])) m

  no_end : MayEnd U → ⊥
  no_end (inl is) = let y : false ≡ true = is in cc
  no_end (inr is) = let y : own.Register ≡ own.Slot is.0 = is.1 in cc

  never : (n : State) (deed : ActShape) (did : Course Instr32 State) → IsDone U n deed did → ⊥
  never n deed did (inl x) = no_end x.0
  never n deed did (inr x) = let y : false ≡ true = x.3 in cc

  plainly : (x : Last) (o : Option Shape) (did : Course Instr32 State) → RunsTo U o m did x → ComesTo U o m did
  plainly Plain o did r = r
  plainly (Compared a b) o did r = r
  plainly (Tested y) o did r = r
  plainly (Returning y) o did r = absurd (let z : false ≡ true = r.may in cc)
  plainly (Ended deed) o did r = absurd (never r.state deed did r.does)

  abbrev G : IsFound l32_lines (saved_setting kind.Reg) (saved_hole kind.Reg ∷ []) None (l ∷ []) (saved_give kind.Reg) e
  G = F q kind.Reg (attr.Value (home w)) (attr.Reg r) v m seen low reload_apart l e taken undivided (value_calm v e t act undivided read)

  same : (x y : Shape) → Value x ≡ Value y → x ≡ y
  same x y e = cc

  by_left : (o : Option Shape) → left_value o ≡ Ok G.deed → o ≡ Some t
  by_left None h = absurd (err_ok _ G.deed h)
  by_left (Some x) h = ap Some (same x t (ok_same (Value x) G.deed h ∙ (ap (λ (y : EffectShape). y.act) G.is ∙ act)))

  own_left : G.progress.own ≡ Some t
  own_left = by_left G.progress.own G.given

  no_deed : EndIsRead U G.progress.last
  no_deed is = absurd (let y : false ≡ true = is in cc)

  reloaded_so : ComesTo U (Some t) m run_it
  reloaded_so =
      plainly G.progress.last (Some t) run_it
      (subst (λ (o : Option Shape). RunsTo U o m run_it G.progress.last) own_left
      (ran q kind.Reg (attr.Value (home w)) (attr.Reg r) v m seen low reload_apart l e taken undivided (value_calm v e t act undivided read) no_deed))

-- ---- the law

value_saved : (q : TreeProgram) (f : Extent) (fs : List Extent) (k : Kind) (a : Attr Operand32) (w : ℕ) (v : View) (m : State) (slot : IsSlot l32 f w)
    (agrees : l32.agrees q f fs v.state m) (z : Size) (slotted : (saved_setting k).own ≡ own.Slot z) (size : Size) (l : Line) (t : Shape)
    → Stored q f fs k a w v m slot agrees z slotted size t (l32.run (saving l32 q l a w) m)
    → Sets l32 (saving l32 q l a w) (WordAt w) q size (attr.Value (l32.slot w)) (low size (value v t)) m
value_saved q f fs k a w v m slot agrees z slotted size l t s =
    record {
      state = with_word s.before w s.word size (value v t);
      ran = s.is;
      gets = slot_reads s.before w s.word size (value v t) (worth_small (scene q k a (attr.Place (home w)) v) t);
      keeps = s.keeps;
    }

name_saved : (q : TreeProgram) (f : Extent) (fs : List Extent) (k : Kind) (a : Attr Operand32) (w : ℕ) (v : View) (m : State) (slot : IsSlot l32 f w)
    (agrees : l32.agrees q f fs v.state m) (z : Size) (slotted : (saved_setting k).own ≡ own.Slot z) (l : Line) (t : Shape)
    → Stored q f fs k a w v m slot agrees z slotted Long t (l32.run (saving l32 q l a w) m)
    → SetsName l32 (saving l32 q l a w) (WordAt w) (l32.slot_deferred w) (value v t) m
name_saved q f fs k a w v m slot agrees z slotted l t s =
    record {
      state = with_word s.before w s.word Long (value v t);
      ran = s.is;
      gets = λ size. slot_names s.before w s.word Long (value v t) refl (worth_small (scene q k a (attr.Place (home w)) v) t);
      keeps = s.keeps;
    }

-- what is saved, and reads as what is saved
module _ (q : TreeProgram) (f : Extent) (fs : List Extent) (v : View) (n : ℕ) (t : Shape) (m : State) (set : IsSet l32 q f fs v n t m) (w : ℕ) (slot : IsSlot l32 f w)
    (k : Kind) (a : Attr Operand32) (z : Size) (slotted : (saved_setting k).own ≡ own.Slot z) (holds : Means (scene q k a (attr.Place (home w)) v) m (saved_hole k) 1 a) where
  own_so : (o : Own) → o ≡ own.Slot z → OwnIs (scene q k a (attr.Place (home w)) v) o
  own_so o e = subst (λ (x : Own). OwnIs (scene q k a (attr.Place (home w)) v) x) (sym e) (record { word = w; low = slot.low; is = refl })

  seen_so : Sees (scene q k a (attr.Place (home w)) v) None m
  seen_so = sees q k a (attr.Place (home w)) v m holds f fs set.agrees (own_so (saved_setting k).own slotted)

pub lines_save : LinesSave
lines_save = record {
  values = λ q f fs size l s a w n v m is set slot e lt.
      value_saved q f fs (kind.Value size) a w v m slot set.agrees size refl size l s.term
      (saved_so q f fs (kind.Value size) a w v m slot set.agrees size refl size l s.effect s.term
      (seen_so q f fs v n s.term m set w slot (kind.Value size) a size refl (value_means q size a (attr.Place (home w)) n v m is set.symbol e lt))
      s.taken s.act s.undivided set.read (λ x. x));
  places = λ q f fs size l s o w n v m fit set slot e lt.
      name_saved q f fs (kind.Place size) (attr.Place o) w v m slot set.agrees Long refl l s.term
      (saved_so q f fs (kind.Place size) (attr.Place o) w v m slot set.agrees Long refl Long l s.effect s.term
      (seen_so q f fs v n s.term m set w slot (kind.Place size) (attr.Place o) Long refl (name_means v (l32.names o size m) n set.symbol e lt))
      s.taken s.act s.undivided set.read (λ x. x));
  addresses = λ q f fs l s o w n v m fit set slot e lt.
      name_saved q f fs kind.Ea (attr.Ea o) w v m slot set.agrees Long refl l s.term
      (saved_so q f fs kind.Ea (attr.Ea o) w v m slot set.agrees Long refl Long l s.effect s.term
      (seen_so q f fs v n s.term m set w slot kind.Ea (attr.Ea o) Long refl (name_means v (l32.names o Long m) n set.symbol e lt))
      s.taken s.act s.undivided set.read (λ x. x));
  reloads = λ q f fs l s w r n v m low small set e lt.
      let seen =
      sees q kind.Reg (attr.Value (home w)) (attr.Reg r) v m (name_means v (l32.reads (l32.slot w) Long m) n set.symbol e lt) f fs set.agrees
      (record { number = r; is = refl; low = low }) in
      let done = reloaded_so q f fs w r v m low set.agrees l s.effect s.term seen s.taken s.act s.undivided set.read in
      record { state = done.state; ran = done.is; gets = ap Some done.reaches.sees.holds; keeps = done.reaches.keeps };
}
