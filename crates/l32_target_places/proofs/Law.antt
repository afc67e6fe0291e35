-- L32's templates store only to symbols that are places.
use Rattle.std.proofs.Common.{◌≡◌, ◌⊎◌, inl, inr, ℕ, zero, suc, ◌-◌, true, cond, List, Option, Some, Ok, refl, sym, ap, subst, ◌∙◌, arith}
use Rattle.std.specs.Prelude.{slice_get}
use Rattle.std.specs.Option.{option_map}
use Rattle.std.proofs.lemmas.Option.{none-some}
use Rattle.gg_base.proofs.Facts.{err_ok, ok_same, not_zero, one_less}
use Rattle.l32_target_statements.specs.l32_target_rules.specs.vax_target_meaning.specs.tree_core.specs.declared.token.Tok.{Tok}
use Rattle.l32_target_statements.specs.l32_target_rules.specs.vax_target_meaning.specs.tree_core.specs.declared.token.Tok.TheVariants as tok
use Rattle.l32_target_statements.specs.l32_target_rules.specs.vax_target_meaning.specs.tree_core.specs.declared.token.AttKind.TheVariants as att_kind
use Rattle.l32_target_statements.specs.l32_target_rules.specs.vax_target_meaning.specs.tree_core.specs.declared.tree.Att.{Att}
use Rattle.l32_target_statements.specs.l32_target_rules.specs.vax_target_meaning.specs.tree_core.specs.declared.tree.Att.TheVariants as att
use Rattle.l32_target_statements.specs.l32_target_rules.specs.vax_target_meaning.specs.tree_core.specs.Attributes.{attribute_of, is_of_kind}
use Rattle.l32_target_statements.specs.l32_target_rules.specs.judging_laws.specs.md_reader.specs.declared.types.Kind.{Kind}
use Rattle.l32_target_statements.specs.l32_target_rules.specs.judging_laws.specs.md_reader.specs.declared.types.Kind.TheVariants as kind
use Rattle.l32_target_statements.specs.l32_target_rules.specs.judging_laws.specs.md_reader.specs.declared.types.Class.{Class}
use Rattle.l32_target_statements.specs.l32_target_rules.specs.judging_laws.specs.md_reader.specs.declared.types.Sym.{Sym}
use Rattle.l32_target_statements.specs.l32_target_rules.specs.judging_laws.specs.md_reader.specs.declared.types.Sym.TheVariants as grammar_symbol
use Rattle.l32_target_statements.specs.l32_target_rules.specs.judging_laws.specs.md_reader.specs.Patterns.{kind_at}
use Rattle.l32_target_statements.specs.l32_target_rules.specs.judging_laws.specs.sel_terms.specs.Effects.{ActShape, EffectShape, StoreHome}
use Rattle.l32_target_statements.specs.l32_target_rules.specs.judging_laws.specs.sel_target.specs.declared.attr.Attr.{Attr}
use Rattle.l32_target_statements.specs.l32_target_rules.specs.judging_laws.specs.sel_target.specs.declared.attr.Attr.TheVariants as attr
use Rattle.l32_target_statements.specs.l32_target_rules.specs.judging_laws.specs.sel_target.specs.Values.{own_operand}
use Rattle.l32_target_statements.specs.l32_target_rules.specs.judging_laws.specs.sel_target.specs.Instances.{hole, KindFits, SymFits, Fit}
use Rattle.l32_target_statements.specs.l32_target_rules.specs.judging_laws.specs.vax_templates.specs.declared.setting.Hole.{Hole}
use Rattle.l32_target_statements.specs.l32_target_rules.specs.judging_laws.specs.vax_templates.specs.declared.setting.Hole.TheVariants as hole_kind
use Rattle.l32_target_statements.specs.l32_target_rules.specs.judging_laws.specs.vax_templates.specs.declared.setting.Setting.{Setting}
use Rattle.l32_target_statements.specs.l32_target_rules.specs.judging_laws.specs.vax_templates.specs.Settings.{hole_of_token, hole_of_kind, hole_of, holes_of, hole_or_other, hole_at, setting_of}
use Rattle.l32_target_statements.specs.l32_target_rules.specs.judging_laws.specs.vax_templates.specs.Deeds.{Last, Ended}
use Rattle.l32_target_statements.specs.l32_target_rules.specs.judging_laws.specs.vax_templates.specs.Progress.{start}
use Rattle.l32_target_statements.specs.l32_target_rules.specs.judging_laws.specs.vax_templates.specs.GiveLines.{last_deed}
use Rattle.l32_target_statements.specs.rule_heads.proofs.Firsts.{symbol_of}
use Rattle.l32_target_statements.specs.l32_target_rules.specs.l32_templates.specs.l32_core.specs.declared.operand.Operand32.{Operand32}
use Rattle.l32_target_statements.specs.l32_target_meaning.specs.L32.{l32}
use Rattle.l32_target_statements.specs.l32_target_rules.proofs.Instances.{mapped_at}
use Rattle.l32_target_statements.specs.l32_target_rules.proofs.Results.{rule_is}
use Rattle.l32_target_statements.specs.Laws.{IsDeed}
use Rattle.l32_target_statements.proofs.Given.{last_given}
use Rattle.sel_parse_effect.specs.Places.{StoresToPlaces}
use Rattle.l32_target_places.proofs.Homes.{IsPlace, Act, Left, lines_leave}

-- ---- what fills a place

abbrev Owned : Attr Operand32 → Type 0
Owned h = (o : Operand32) × (own_operand l32 h ≡ Some o)

local_owned : (a : Att) → is_of_kind att_kind.Local a ≡ true → Owned (attr.Token (record { tok = tok.Loc; att = a }))
local_owned (att.Slot k) f = (l32.local k, refl)
local_owned _ f = absurd cc

argument_owned : (a : Att) → is_of_kind att_kind.Argument a ≡ true → Owned (attr.Token (record { tok = tok.Arg; att = a }))
argument_owned (att.Slot k) f = (l32.argument k, refl)
argument_owned _ f = absurd cc

token_owned : (x : Tok) (a : Att) → is_of_kind (attribute_of x) a ≡ true → IsPlace (hole_of_token x) → Owned (attr.Token (record { tok = x; att = a }))
token_owned tok.Loc a f p = local_owned a f
token_owned tok.Arg a f p = argument_owned a f
token_owned x a f p = absurd p

class_owned : (k : Option Kind) (h : Attr Operand32) → KindFits l32 k h → IsPlace (hole_of_kind k) → Owned h
class_owned (Some (kind.Place z)) (attr.Place o) f p = (o, refl)
class_owned (Some (kind.Place z)) h f p = absurd f
class_owned k h f p = absurd p

symbol_owned : (classes : List Class) (x : Sym) (h : Attr Operand32) → SymFits l32 classes x h → IsPlace (hole_of classes x) → Owned h
symbol_owned classes (grammar_symbol.Class c) h f p = class_owned (kind_at classes c) h f p
symbol_owned classes (grammar_symbol.Tok x) (attr.Token l) f p = token_owned l.tok l.att f.1 (subst (λ y. IsPlace (hole_of_token y)) (sym f.0) p)
symbol_owned classes (grammar_symbol.Tok x) h f p = absurd f

role_is : (hs : List Hole) (k : ℕ) → hole_at hs (suc k) ≡ hole_or_other (slice_get hs k)
role_is hs k = ap (λ b. cond b hole_kind.Other (hole_or_other (slice_get hs (suc k - 1)))) (not_zero k) ∙ ap (λ n. hole_or_other (slice_get hs n)) (one_less k)

place_owned : (classes : List Class) (right : List Sym) (hs : List (Attr Operand32)) (i : ℕ) (h : Attr Operand32) → Fit l32 classes right hs → hole hs i ≡ Some h
    → (i ≡ 0) ⊎ IsPlace (hole_at (holes_of classes right) i) → Owned h
place_owned classes right hs zero h f e p = absurd (none-some h e)
place_owned classes right hs (suc k) h f e (inl z) = absurd (omega (arith, z))
place_owned classes right hs (suc k) h f e (inr p) =
    let s = symbol_of l32 classes right hs k h f e in
    let role : hole_at (holes_of classes right) (suc k) ≡ hole_of classes s.symbol =
    role_is (holes_of classes right) k ∙ ap hole_or_other (mapped_at classes right k) ∙ ap (λ (o : Option Sym). hole_or_other (option_map (hole_of classes) o)) s.at in
    symbol_owned classes s.symbol h s.fits_so (subst IsPlace role p)

-- ---- the law

last_act : (s : Setting) (hs : List Hole) (l : Last) (deed : ActShape) → last_deed l ≡ Ok deed → Left s hs l → Act s hs deed
last_act s hs (Ended x) deed e h = subst (Act s hs) (ok_same x deed e) h
last_act s hs _ deed e h = absurd (err_ok _ deed e)

pub stores_go_to_places : StoresToPlaces l32
stores_go_to_places classes rule e size i t hs h taken stores fit there =
    let s = setting_of classes rule in
    let holes = holes_of classes rule.right in
    let x = rule_is classes rule e taken in
    let deed : x.deed ≡ StoreHome size i t = ap (λ (y : EffectShape). y.act) x.is ∙ stores in
    let last = last_given s holes (kind_at classes rule.left) x.progress.own x.progress.last rule.give x.deed x.given (subst IsDeed (sym deed) tt) in
    let left = lines_leave s holes rule.lines true start x.progress tt x.judged in
    place_owned classes rule.right hs i h fit there (subst (Act s holes) deed (last_act s holes x.progress.last x.deed last left))
