-- In an instance of a rule each hole means what it stands for.
use Rattle.std.proofs.Common.{◌≡◌, ℕ, zero, suc, ◌-◌, ◌%◌, ◌^◌, ◌<◌, Bool, true, cond, List, [], ◌∷◌, map, Option, Some, None, refl, sym, ap, subst, ◌∙◌, arith}
use Rattle.std.specs.Prelude.{IsSome, unwrap_or, nat_lt, slice_get}
use Rattle.std.specs.Option.{option_map}
use Rattle.std.proofs.lemmas.Bool.{eqb-true, lt-ltb}
use Rattle.std.proofs.lemmas.Option.{none-some, same_Some}
use Rattle.gg_base.proofs.Facts.{not_zero, one_less, the_number}
use Rattle.gg_base.specs.declared.size.Size.{Size}
use Rattle.gg_base.specs.declared.size.Size.TheVariants.{Long}
use Rattle.gg_base.specs.Arithmetic.{add32}
use Rattle.gg_base.proofs.Words.{low_long}
use Rattle.l32_target_runs.specs.vax_target_meaning.specs.tree_core.specs.declared.token.Tok.{Tok}
use Rattle.l32_target_runs.specs.vax_target_meaning.specs.tree_core.specs.declared.token.Tok.TheVariants as tok
use Rattle.l32_target_runs.specs.vax_target_meaning.specs.tree_core.specs.declared.token.AttKind.TheVariants as att_kind
use Rattle.l32_target_runs.specs.vax_target_meaning.specs.tree_core.specs.declared.tree.Att.{Att}
use Rattle.l32_target_runs.specs.vax_target_meaning.specs.tree_core.specs.declared.tree.Att.TheVariants as att
use Rattle.l32_target_runs.specs.vax_target_meaning.specs.tree_core.specs.declared.program.Object.{Object}
use Rattle.l32_target_runs.specs.vax_target_meaning.specs.tree_core.specs.declared.program.TreeProgram.{TreeProgram}
use Rattle.l32_target_runs.specs.vax_target_meaning.specs.tree_core.specs.Attributes.{attribute_of, is_of_kind, leaf_fits}
use Rattle.l32_target_runs.specs.vax_target_meaning.specs.tree_meaning.specs.State.{Extent}
use Rattle.l32_target_runs.specs.vax_target_meaning.specs.vax_machine.specs.Area.{resolved, resolved_of}
use Rattle.l32_target_runs.specs.vax_target_meaning.specs.Reading.{longword}
use Rattle.l32_target_runs.specs.judging_laws.specs.md_reader.specs.declared.types.Kind.{Kind}
use Rattle.l32_target_runs.specs.judging_laws.specs.md_reader.specs.declared.types.Kind.TheVariants as kind
use Rattle.l32_target_runs.specs.judging_laws.specs.md_reader.specs.declared.types.Class.{Class}
use Rattle.l32_target_runs.specs.judging_laws.specs.md_reader.specs.declared.types.Sym.{Sym}
use Rattle.l32_target_runs.specs.judging_laws.specs.md_reader.specs.declared.types.Sym.TheVariants as grammar_symbol
use Rattle.l32_target_runs.specs.judging_laws.specs.md_reader.specs.declared.types.Give.{Give}
use Rattle.l32_target_runs.specs.judging_laws.specs.md_reader.specs.declared.types.Give.TheVariants as give
use Rattle.l32_target_runs.specs.judging_laws.specs.md_reader.specs.declared.types.Rule.{Rule}
use Rattle.l32_target_runs.specs.judging_laws.specs.md_reader.specs.Patterns.{kind_at}
use Rattle.l32_target_runs.specs.judging_laws.specs.term_core.specs.Shape.{Symbol}
use Rattle.l32_target_runs.specs.judging_laws.specs.sel_terms.specs.Effects.{EffectShape}
use Rattle.l32_target_runs.specs.judging_laws.specs.sel_terms.specs.RuleFacts.{size_of_kind, size_of_symbol, size_of_some, size_at}
use Rattle.l32_target_runs.specs.judging_laws.specs.sel_terms.proofs.Facts.{size_behind}
use Rattle.l32_target_runs.specs.judging_laws.specs.sel_target.specs.declared.attr.Attr.{Attr}
use Rattle.l32_target_runs.specs.judging_laws.specs.sel_target.specs.declared.attr.Attr.TheVariants as attr
use Rattle.l32_target_runs.specs.judging_laws.specs.sel_target.specs.Values.{View, address_of, own_operand, token_operand, token_worth}
use Rattle.l32_target_runs.specs.judging_laws.specs.sel_target.specs.Values as target
use Rattle.l32_target_runs.specs.judging_laws.specs.sel_target.specs.EffectTerms.{begins_with_save}
use Rattle.l32_target_runs.specs.judging_laws.specs.sel_target.specs.Instances.{hole, InFrame, TokenIsWhole, IsWhole, KindFits, SymFits, Fit, IsResult, Instance}
use Rattle.l32_target_runs.specs.judging_laws.specs.vax_templates.specs.declared.setting.Hole.TheVariants as hole_kind
use Rattle.l32_target_runs.specs.judging_laws.specs.vax_templates.specs.declared.setting.Own.TheVariants as own
use Rattle.l32_target_runs.specs.judging_laws.specs.vax_templates.specs.declared.setting.Opening.TheVariants as opening
use Rattle.l32_target_runs.specs.judging_laws.specs.vax_templates.specs.Settings.{hole_of_token, hole_of_kind, hole_of, hole_or_other, own_of, opening_of, opening_by}
use Rattle.l32_target_runs.specs.judging_laws.specs.vax_templates.specs.Filled.{label_of, object_addr}
use Rattle.l32_target_runs.specs.l32_templates.specs.l32_core.specs.declared.operand.Operand32.{Operand32}
use Rattle.l32_target_runs.specs.l32_templates.specs.l32_machine.specs.State.{State, reg}
use Rattle.l32_target_runs.specs.l32_templates.specs.Homes.{home, at_home, argument_home}
use Rattle.l32_target_runs.specs.l32_templates.specs.Filled.{spare, word_operand, is_argument, slot_operand, argument_deferred}
use Rattle.l32_target_runs.specs.l32_target_meaning.specs.Reading.{named, names, reads}
use Rattle.l32_target_runs.specs.l32_target_meaning.specs.Agreeing.{AreLabelled}
use Rattle.l32_target_runs.specs.l32_target_meaning.specs.L32.{l32}
use Rattle.l32_target_runs.specs.l32_target_operands.specs.Scenes.{Scene, worth, role_at, filling_at, IsLocal, IsNumber, IsObject, IsSavedLocal, Means, OwnIs, Sees}
use Rattle.l32_target_runs.specs.l32_target_operands.proofs.Worths.{worth_small}
use Rattle.l32_target_runs.specs.l32_states.proofs.Sound.{reg_small}
use Rattle.l32_target_rules.specs.Scene.{scene_of, InstancesAreSeen}

longword_of : (n : ℕ) → n < 2 ^ 32 → longword n ≡ Some n
longword_of n lt = ap (λ (b : Bool). cond b (Some n) None) (lt-ltb n (2 ^ 32) lt)

-- ---- a symbol and what fills it

module _ (c : Scene) (m : State) (i : ℕ) (labelled : AreLabelled c.program.objects m) where
  abbrev token : Tok → Att → Attr Operand32
  token t a = attr.Token (record { tok = t; att = a })

  -- what fills the hole is worth the symbol, where that has a number
  abbrev Knows : Size → Attr Operand32 → Type 0
  Knows size h = IsSome (c.view.symbol i) → target.worth l32 c.program size h m ≡ Some (worth c (Symbol i))

  abbrev KnowsToken : Tok → Att → Type 0
  KnowsToken t a = IsSome (c.view.symbol i) → token_worth l32 c.program t a m ≡ Some (worth c (Symbol i))

  abbrev HasHome : Size → Attr Operand32 → Type 0
  HasHome size h = (o : Operand32) → own_operand l32 h ≡ Some o → IsSome (names o size m)

  abbrev HasTokenHome : Tok → Att → Type 0
  HasTokenHome t a = (o : Operand32) → token_operand l32 t a ≡ Some o → IsSome (names o Long m)

  object_by : (o : Option Object) (object offset : ℕ) → slice_get c.program.objects object ≡ o → address_of o offset ≡ Some (worth c (Symbol i))
      → IsObject c m i (token tok.Gaddr (att.Object object offset))
  object_by None object offset is e = absurd (none-some (worth c (Symbol i)) e)
  object_by (Some o) object offset is e =
      let there : resolved m.layout (object_addr c.program object offset) ≡ worth c (Symbol i) =
      ap (λ x. resolved_of m.layout (label_of x) offset) is ∙ ap (λ x. add32 x offset) (labelled object o is) ∙ same_Some (add32 o.address offset) (worth c (Symbol i)) e in
      record { named_so = ap longword there ∙ longword_of (worth c (Symbol i)) (worth_small c (Symbol i)); bare = refl }

  local_by : (k : ℕ) → nat_lt k 1024 ≡ true → reads (word_operand k) Long m ≡ Some (worth c (Symbol i)) → IsSome (names (word_operand k) Long m)
      → IsLocal c m i (token tok.Loc (att.Slot k))
  local_by k is e some =
      let a = the_number (names (word_operand k) Long m) some in
      let h : reads (home k) Long m ≡ Some (worth c (Symbol i)) = ap (λ x. reads (cond x (home k) spare) Long m) (sym is) ∙ e in
      record { address = a.0; named_so = a.1; holds = e; deferred = ap (λ x. named m (cond x (at_home k) spare)) is ∙ h }

  argument_by : (k : ℕ) → is_argument k ≡ true → reads (slot_operand tok.Arg k) Long m ≡ Some (worth c (Symbol i)) → IsSome (names (slot_operand tok.Arg k) Long m) →
      IsLocal c m i (token tok.Arg (att.Slot k))
  argument_by k is e some =
      let a = the_number (names (slot_operand tok.Arg k) Long m) some in
      let h : reads (argument_home k) Long m ≡ Some (worth c (Symbol i)) = ap (λ x. reads (cond x (argument_home k) spare) Long m) (sym is) ∙ e in
      record { address = a.0; named_so = a.1; holds = e; deferred = ap (λ x. named m (cond x (argument_deferred k) spare)) is ∙ h }

  literal_means : (t : Tok) (k : ℕ) → k < 2 ^ 32 → (a : Att) → is_of_kind (att_kind.Own k) a ≡ true → IsNumber (token t a) k
  literal_means t k lt (att.Number n) fits = record { is = eqb-true n k fits; low = lt }
  literal_means t k lt _ fits = absurd cc

  constant_means : (a : Att) → is_of_kind att_kind.Other a ≡ true → KnowsToken tok.Const a → TokenIsWhole tok.Const a (c.view.symbol i) → IsNumber (token tok.Const a) (worth c (Symbol i))
  constant_means (att.Number n) fits known whole = record { is = same_Some n (worth c (Symbol i)) (known whole); low = worth_small c (Symbol i) }
  constant_means _ fits known whole = absurd cc

  object_means : (a : Att) → is_of_kind att_kind.Object a ≡ true → KnowsToken tok.Gaddr a → TokenIsWhole tok.Gaddr a (c.view.symbol i) → IsObject c m i (token tok.Gaddr a)
  object_means (att.Object object offset) fits known whole = object_by (slice_get c.program.objects object) object offset refl (known whole)
  object_means _ fits known whole = absurd cc

  local_means : (a : Att) → is_of_kind att_kind.Local a ≡ true → InFrame a → KnowsToken tok.Loc a → TokenIsWhole tok.Loc a (c.view.symbol i) → HasTokenHome tok.Loc a → IsLocal c m i (token tok.Loc a)
  local_means (att.Slot k) fits low known whole homes = local_by k (lt-ltb k 1024 low) (known whole) (homes (word_operand k) refl)
  local_means _ fits low known whole homes = absurd cc

  argument_means : (a : Att) → is_of_kind att_kind.Argument a ≡ true → KnowsToken tok.Arg a → TokenIsWhole tok.Arg a (c.view.symbol i) → HasTokenHome tok.Arg a → IsLocal c m i (token tok.Arg a)
  argument_means (att.Slot k) fits known whole homes = argument_by k fits (known whole) (homes (slot_operand tok.Arg k) refl)
  argument_means _ fits known whole homes = absurd cc

  saved_means : (a : Att) → is_of_kind att_kind.Local a ≡ true → InFrame a → IsSavedLocal c (token tok.Save a)
  saved_means (att.Slot k) fits low = record { local = k; low = low; is = ap (λ b. cond b (home k) spare) (lt-ltb k 1024 low) }
  saved_means _ fits low = absurd cc

  class_means : (k : Option Kind) (h : Attr Operand32) → KindFits l32 k h → Knows (size_of_kind k) h → IsWhole h (c.view.symbol i) → HasHome (size_of_kind k) h → Means c m (hole_of_kind k) i h
  class_means None h fits known whole homes = tt
  class_means (Some kind.Reg) (attr.Reg r) fits known whole homes =
      record { number = r; is = refl; low = fits; holds = same_Some (reg m r) (worth c (Symbol i)) (known whole) }
  class_means (Some (kind.Value z)) (attr.Value o) fits known whole homes = known whole
  class_means (Some (kind.Place z)) (attr.Place o) fits known whole homes = (let x = the_number (names o z m) (homes o refl) in record { address = x.0; named_so = x.1; holds = known })
  class_means (Some kind.Con) (attr.Con n) fits known whole homes = record { is = same_Some n (worth c (Symbol i)) (known whole); low = worth_small c (Symbol i) }
  class_means (Some kind.Ea) (attr.Ea o) fits known whole homes = known whole
  class_means (Some kind.Nothing) h fits known whole homes = tt
  class_means _ _ fits known whole homes = absurd fits

  token_means : (t : Tok) (a : Att) → is_of_kind (attribute_of t) a ≡ true → InFrame a → KnowsToken t a → TokenIsWhole t a (c.view.symbol i) → HasTokenHome t a →
      Means c m (hole_of_token t) i (token t a)
  token_means tok.Zero a fits low known whole homes = literal_means tok.Zero 0 (omega arith) a fits
  token_means tok.One a fits low known whole homes = literal_means tok.One 1 (omega arith) a fits
  token_means tok.Two a fits low known whole homes = literal_means tok.Two 2 (omega arith) a fits
  token_means tok.Four a fits low known whole homes = literal_means tok.Four 4 (omega arith) a fits
  token_means tok.Eight a fits low known whole homes = literal_means tok.Eight 8 (omega arith) a fits
  token_means tok.Const a fits low known whole homes = constant_means a fits known whole
  token_means tok.Gaddr a fits low known whole homes = object_means a fits known whole
  token_means tok.Loc a fits low known whole homes = local_means a fits low known whole homes
  token_means tok.Arg a fits low known whole homes = argument_means a fits known whole homes
  token_means tok.Save a fits low known whole homes = saved_means a fits low
  token_means _ a fits low known whole homes = tt

  symbol_means : (classes : List Class) (s : Sym) (h : Attr Operand32) → SymFits l32 classes s h → Knows (size_of_symbol classes s) h → IsWhole h (c.view.symbol i) →
      HasHome (size_of_symbol classes s) h → Means c m (hole_of classes s) i h
  symbol_means classes (grammar_symbol.Class x) h fits known whole homes = class_means (kind_at classes x) h fits known whole homes
  symbol_means classes (grammar_symbol.Tok t) (attr.Token l) fits known whole homes =
      by l.tok l.att fits.0 fits.1 fits.2 known whole homes
    where
      by : (x : Tok) (a : Att) → x ≡ t → leaf_fits (record { tok = x; att = a }) ≡ true → InFrame a → KnowsToken x a → TokenIsWhole x a (c.view.symbol i) → HasTokenHome x a
          → Means c m (hole_of_token t) i (token x a)
      by x a same fits low known whole homes = subst (λ y. Means c m (hole_of_token y) i (token x a)) same (token_means x a fits low known whole homes)
  symbol_means classes _ _ fits known whole homes = absurd fits

-- ---- the holes of a rule

-- a symbol with what fills it
pub record IsFilled (classes : List Class) (right : List Sym) (hs : List (Attr Operand32)) (j : ℕ) (s : Sym) : Type 0 where
  pub attribute : Attr Operand32
  pub at : slice_get hs j ≡ Some attribute
  pub fits : SymFits l32 classes s attribute

pub filled_at : (classes : List Class) (right : List Sym) (hs : List (Attr Operand32)) (j : ℕ) (s : Sym) → Fit l32 classes right hs → slice_get right j ≡ Some s → IsFilled classes right hs j s
filled_at classes [] hs j s fit e = absurd (none-some s e)
filled_at classes (x ∷ right) [] j s fit e = absurd fit
filled_at classes (x ∷ right) (h ∷ hs) zero s fit e = record { attribute = h; at = refl; fits = subst (λ y. SymFits l32 classes y h) (same_Some x s e) fit.0 }
filled_at classes (x ∷ right) (h ∷ hs) (suc j) s fit e = let r = filled_at classes right hs j s fit.1 e in record { attribute = r.attribute; at = r.at; fits = r.fits }

pub mapped_at : (classes : List Class) (right : List Sym) (j : ℕ) → slice_get (map (hole_of classes) right) j ≡ option_map (hole_of classes) (slice_get right j)
mapped_at classes [] j = refl
mapped_at classes (s ∷ right) zero = refl
mapped_at classes (s ∷ right) (suc j) = mapped_at classes right j

pub role_is : (c : Scene) (j : ℕ) → role_at c (suc j) ≡ hole_or_other (slice_get c.roles j)
role_is c j = ap (λ b. cond b hole_kind.Other (hole_or_other (slice_get c.roles (suc j - 1)))) (not_zero j) ∙ ap (λ k. hole_or_other (slice_get c.roles k)) (one_less j)

pub filling_is : (c : Scene) (j : ℕ) → filling_at c (suc j) ≡ unwrap_or (slice_get c.holes j) c.own
filling_is c j = ap (λ b. cond b c.own (unwrap_or (slice_get c.holes (suc j - 1)) c.own)) (not_zero j) ∙ ap (λ k. unwrap_or (slice_get c.holes k) c.own) (one_less j)

-- what stands for `%0` is a register where it has a value
pub register_result : (g : Give) (hs : List (Attr Operand32)) (a : Attr Operand32) → own_of g ≡ own.Register → IsResult l32 g hs a → (n : ℕ) × (a ≡ attr.Reg n) × (n < 12)
register_result give.Fresh hs (attr.Reg n) is r = (n, refl, r.0)
register_result give.Reuse hs (attr.Reg n) is r = (n, refl, r)
register_result give.Scratch hs (attr.Reg n) is r = (n, refl, r.0)
register_result give.Nothing hs a is r = cc
register_result (give.Shape l) hs a is r = cc
register_result _ hs _ is r = absurd r

module _ (every : Bool) (q : TreeProgram) (f : Extent) (fs : List Extent) (classes : List Class) (rule : Rule) (e : EffectShape) (hs : List (Attr Operand32)) (res : Attr Operand32) (v : View) (m : State)
    (inst : Instance l32 every q f fs classes rule e hs v m) where
  abbrev scene : Scene
  scene = scene_of q classes rule hs res v

  -- a symbol's number is what the symbol is worth
  pub symbol_worth : (i x : ℕ) → v.symbol i ≡ Some x → worth scene (Symbol i) ≡ x
  symbol_worth i x is = ap (λ o. unwrap_or o 0 % 2 ^ 32) is ∙ low_long (size_at classes rule.right i) x (inst.small i x is)

  hole_known : (i : ℕ) (h : Attr Operand32) (size : Size) → hole hs i ≡ Some h → size_at classes rule.right i ≡ size → IsSome (v.symbol i) → target.worth l32 q size h m ≡ Some (worth scene (Symbol i))
  hole_known i h size at sized some =
      let x = the_number (v.symbol i) some in
      subst (λ z. target.worth l32 q z h m ≡ Some (worth scene (Symbol i))) sized (inst.values i x.0 h at x.1 ∙ ap (λ (y : ℕ). Some y) (sym (symbol_worth i x.0 x.1)))

  means_by : (j : ℕ) (o : Option Sym) → slice_get rule.right j ≡ o → Means scene m (role_at scene (suc j)) (suc j) (filling_at scene (suc j))
  means_by j None is =
      subst (λ r. Means scene m r (suc j) (filling_at scene (suc j)))
      (sym (role_is scene j ∙ ap hole_or_other (mapped_at classes rule.right j ∙ ap (option_map (hole_of classes)) is))) tt
  means_by j (Some s) is =
      let x = filled_at classes rule.right hs j s inst.holes_fit is in
      let sized : size_at classes rule.right (suc j) ≡ size_of_symbol classes s = size_behind classes rule.right j ∙ ap (size_of_some classes) is in
      subst (λ r. Means scene m r (suc j) (filling_at scene (suc j)))
      (sym (role_is scene j ∙ ap hole_or_other (mapped_at classes rule.right j ∙ ap (option_map (hole_of classes)) is)))
      (subst (λ a. Means scene m (hole_of classes s) (suc j) a) (sym (filling_is scene j ∙ ap (λ (o : Option (Attr Operand32)). unwrap_or o res) x.at))
      (symbol_means scene m (suc j) inst.agrees.labelled classes s x.attribute x.fits
      (hole_known (suc j) x.attribute (size_of_symbol classes s) x.at sized)
      (inst.whole (suc j) x.attribute x.at)
      (λ o is. subst (λ z. IsSome (names o z m)) sized (inst.homes (suc j) x.attribute o x.at is))))

  means_all : (i : ℕ) → Means scene m (role_at scene i) i (filling_at scene i)
  means_all zero = tt
  means_all (suc j) = means_by j (slice_get rule.right j) refl

  own_by : (g : Give) → IsResult l32 g hs res → OwnIs scene (own_of g)
  own_by give.Fresh r = let x = register_result give.Fresh hs res refl r in record { number = x.0; is = x.1; low = x.2 }
  own_by give.Reuse r = let x = register_result give.Reuse hs res refl r in record { number = x.0; is = x.1; low = x.2 }
  own_by give.Scratch r = let x = register_result give.Scratch hs res refl r in record { number = x.0; is = x.1; low = x.2 }
  own_by give.Nothing r = tt
  own_by (give.Shape l) r = tt

  save_token : (t : Tok) (right : List Sym) → opening_of (grammar_symbol.Tok t ∷ right) ≡ opening.Save → begins_with_save (grammar_symbol.Tok t ∷ right) ≡ true
  save_token tok.Save right o = refl
  save_token _ right o = absurd cc

  save_begins : (right : List Sym) → opening_of right ≡ opening.Save → begins_with_save right ≡ true
  save_begins [] o = absurd cc
  save_begins (grammar_symbol.Class x ∷ right) o = absurd cc
  save_begins (grammar_symbol.Tok t ∷ right) o = save_token t right o

  save_by : (g : Give) → opening_by g rule.right ≡ opening.Save → begins_with_save rule.right ≡ true
  save_by give.Fresh o = save_begins rule.right o
  save_by give.Reuse o = save_begins rule.right o
  save_by give.Scratch o = save_begins rule.right o
  save_by give.Nothing o = save_begins rule.right o
  save_by (give.Shape l) o = cc

  pub instance_seen : IsResult l32 rule.give hs res → Sees scene None m
  instance_seen r = record {
    sound = inst.agrees.sound;
    area = inst.agrees.area;
    means = λ i free. means_all i;
    own_is = own_by rule.give r;
    holds = tt;
    answered = λ o none. (let is = inst.answered (save_by rule.give o) in let lt = reg_small m 0 inst.agrees.sound in
        (let same : reg m 0 ≡ reg m 0 % 2 ^ 32 = omega (arith, lt) in same) ∙ ap (λ x. x % 2 ^ 32) is);
  }

pub instances_are_seen : InstancesAreSeen
instances_are_seen every q f fs classes rule e hs res v m inst r = instance_seen every q f fs classes rule e hs res v m inst r
