-- The VAX's templates store only to symbols that are places.
use Rattle.std.proofs.Common.{◌≡◌, ◌⊎◌, inl, inr, ℕ, zero, suc, ◌-◌, true, cond, Option, Some, List, [], ◌∷◌, refl, sym, ap, subst, ◌∙◌, arith, slice_get}
use Rattle.std.proofs.lemmas.Option.{same_Some, none-some}
use Rattle.gg_base.proofs.Facts.{not_zero, one_less}
use Rattle.tree_core.specs.declared.token.Tok.{Tok}
use Rattle.tree_core.specs.declared.token.Tok.TheVariants as tok
use Rattle.tree_core.specs.declared.token.AttKind.TheVariants as att_kind
use Rattle.tree_core.specs.declared.tree.Att.{Att}
use Rattle.tree_core.specs.declared.tree.Att.TheVariants as att
use Rattle.tree_core.specs.Attributes.{attribute_of, is_of_kind}
use Rattle.md_reader.specs.declared.types.Kind.{Kind}
use Rattle.md_reader.specs.declared.types.Kind.TheVariants as kind
use Rattle.md_reader.specs.declared.types.Class.{Class}
use Rattle.md_reader.specs.declared.types.Sym.{Sym}
use Rattle.md_reader.specs.declared.types.Sym.TheVariants as grammar_symbol
use Rattle.md_reader.specs.Patterns.{kind_at}
use Rattle.vax_templates.specs.sel_terms.specs.Effects.{EffectShape}
use Rattle.vax_templates.specs.sel_target.specs.declared.attr.Attr.{Attr}
use Rattle.vax_templates.specs.sel_target.specs.declared.attr.Attr.TheVariants as attr
use Rattle.vax_templates.specs.sel_target.specs.Values.{own_operand}
use Rattle.vax_templates.specs.sel_target.specs.Instances.{hole, KindFits, SymFits, Fit}
use Rattle.vax_core.specs.declared.operand.Operand.{Operand}
use Rattle.vax_templates.specs.declared.setting.Hole.{Hole}
use Rattle.vax_templates.specs.declared.setting.Hole.TheVariants as hole_kind
use Rattle.vax_templates.specs.Settings.{hole_of_token, hole_of_kind, hole_of, holes_of, hole_or_other, hole_at, setting_of}
use Rattle.vax_templates.specs.Progress.{Progress, start, lines_judged}
use Rattle.vax_templates.specs.GiveLines.{given_by}
use Rattle.vax_target_writing.specs.vax_target_meaning.specs.Vax.{vax}
use Rattle.vax_target_writing.proofs.Each.{of_ok}
use Rattle.vax_target_rules.proofs.Founds.{rule_is}
use Rattle.sel_parse_effect.specs.Places.{StoresToPlaces}
use Rattle.vax_target_places.proofs.Homes.{IsPlace}
use Rattle.vax_target_places.proofs.Lines.{Act, Left, lines_leave, given_act}

-- ---- what fills a place

abbrev Owned : Attr Operand → Type 0
Owned h = (o : Operand) × (own_operand vax h ≡ Some o)

local_owned : (a : Att) → is_of_kind att_kind.Local a ≡ true → Owned (attr.Token (record { tok = tok.Loc; att = a }))
local_owned (att.Slot k) f = (vax.local k, refl)
local_owned _ f = absurd (cc)

argument_owned : (a : Att) → is_of_kind att_kind.Argument a ≡ true → Owned (attr.Token (record { tok = tok.Arg; att = a }))
argument_owned (att.Slot k) f = (vax.argument k, refl)
argument_owned _ f = absurd (cc)

token_owned : (x : Tok) (a : Att) → is_of_kind (attribute_of x) a ≡ true → IsPlace (hole_of_token x) → Owned (attr.Token (record { tok = x; att = a }))
token_owned tok.Loc a f p = local_owned a f
token_owned tok.Arg a f p = argument_owned a f
token_owned x a f p = absurd p

class_owned : (k : Option Kind) (h : Attr Operand) → KindFits vax k h → IsPlace (hole_of_kind k) → Owned h
class_owned (Some (kind.Place z)) (attr.Place o) f p = (o, refl)
class_owned (Some (kind.Place z)) h f p = absurd f
class_owned k h f p = absurd p

symbol_owned : (classes : List Class) (x : Sym) (h : Attr Operand) → SymFits vax classes x h → IsPlace (hole_of classes x) → Owned h
symbol_owned classes (grammar_symbol.Class c) h f p = class_owned (kind_at classes c) h f p
symbol_owned classes (grammar_symbol.Tok x) (attr.Token l) f p = token_owned l.tok l.att f.1 (subst (λ y. IsPlace (hole_of_token y)) (sym f.0) p)
symbol_owned classes (grammar_symbol.Tok x) h f p = absurd f

nth_owned : (classes : List Class) (right : List Sym) (hs : List (Attr Operand)) (k : ℕ) (h : Attr Operand) → Fit vax classes right hs → slice_get hs k ≡ Some h
    → IsPlace (hole_or_other (slice_get (holes_of classes right) k)) → Owned h
nth_owned classes right [] k h f e p = absurd (none-some h e)
nth_owned classes [] (x ∷ hs) k h f e p = absurd f
nth_owned classes (y ∷ right) (x ∷ hs) zero h f e p = subst Owned (same_Some x h e) (symbol_owned classes y x f.0 p)
nth_owned classes (y ∷ right) (x ∷ hs) (suc k) h f e p = nth_owned classes right hs k h f.1 e p

role_is : (roles : List Hole) (k : ℕ) → hole_at roles (suc k) ≡ hole_or_other (slice_get roles k)
role_is roles k =
    ap (λ b. cond b hole_kind.Other (hole_or_other (slice_get roles (suc k - 1)))) (not_zero k) ∙ ap (λ n. hole_or_other (slice_get roles n)) (one_less k)

place_owned : (classes : List Class) (right : List Sym) (hs : List (Attr Operand)) (i : ℕ) (h : Attr Operand) → Fit vax classes right hs → hole hs i ≡ Some h
    → (i ≡ 0) ⊎ IsPlace (hole_at (holes_of classes right) i) → Owned h
place_owned classes right hs zero h f e p = absurd (none-some h e)
place_owned classes right hs (suc k) h f e (inl z) = absurd (omega (arith, z))
place_owned classes right hs (suc k) h f e (inr p) = nth_owned classes right hs k h f e (subst IsPlace (role_is (holes_of classes right) k) p)

pub stores_go_to_places : StoresToPlaces vax
stores_go_to_places classes rule e size i t hs h taken stores fit there =
    let s = setting_of classes rule in
    let roles = holes_of classes rule.right in
    let x = rule_is classes rule e taken in
    let left = of_ok (λ (y : Progress). Left s roles y.last) (lines_judged s roles true start rule.lines) x.progress x.judged (lines_leave s roles true start rule.lines tt) in
    let gives = of_ok (Act s roles) (given_by s roles (kind_at classes rule.left) x.progress.own x.progress.last rule.give) x.deed x.given
    (given_act s roles (kind_at classes rule.left) x.progress.own x.progress.last rule.give left) in
    place_owned classes rule.right hs i h fit there (subst (Act s roles) (ap (λ (y : EffectShape). y.act) x.is ∙ stores) gives)
