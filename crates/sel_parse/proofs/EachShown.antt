-- Where nothing is refused, each rule is shown.
use Rattle.std.proofs.Common.{◌≡◌, ◌≤◌, ℕ, ◌+◌, Bool, true, false, cond, List, [], ◌∷◌, refl, sym, Option, Some, None}
use Rattle.std.specs.Prelude.{Result, Ok, Err, nat_lt, count_ones}
use Rattle.std.specs.List.{AllByRecursion}
use Rattle.std.proofs.lemmas.Option.{none-some}
use Rattle.std.proofs.lemmas.Bool.{ltb-false}
use Rattle.std.specs.Option.{option_or}
use Rattle.gg_base.proofs.Facts.{none_is}
use Rattle.sel_target.specs.md_reader_pieces.specs.declared.piece.Line.{Line}
use Rattle.md_reader.specs.declared.types.Kind.{Kind}
use Rattle.md_reader.specs.declared.types.Class.{Class}
use Rattle.md_reader.specs.declared.types.Rule.{Rule}
use Rattle.md_reader.specs.State.{Content}
use Rattle.sel_terms.specs.Effects.{EffectShape, norm_effect}
use Rattle.sel_terms.specs.Same.{same_effect}
use Rattle.sel_terms.specs.RuleFacts.{facts_of, saved_facts}
use Rattle.sel_terms.specs.Reading.{effect_read}
use Rattle.sel_terms.proofs.Alike.{same_effect_tells}
use Rattle.sel_target.specs.Meaning.{Fault}
use Rattle.sel_regs.specs.Need.{need}
use Rattle.sel_parse.specs.Shown.{Refusal, Unshown, Template, PoolSmall, compared, small, pools_refused, lines_refused, rules_refused, saved_kinds}
use Rattle.sel_parse.specs.Shown.{first_refusal, is_shown, saved_wanted, IsShown, IsLineShown, AreLinesShown}

first_is_none : (a b : Option Refusal) → option_or a b ≡ None → (a ≡ None) × (b ≡ None)
first_is_none None b e = (refl, e)
first_is_none (Some r) b e = absurd (none-some r (sym e))

not_less : (b : Bool) (registers wanted n : ℕ) → nat_lt registers wanted ≡ b → cond b (Some (PoolSmall n wanted)) None ≡ None → wanted ≤ registers
not_less true registers wanted n e h = absurd (none-some (PoolSmall n wanted) (sym h))
not_less false registers wanted n e h = ltb-false registers wanted e

fits : (registers wanted n : ℕ) → small registers n wanted ≡ None → wanted ≤ registers
fits registers wanted n h = not_less (nat_lt registers wanted) registers wanted n refl h

same_of : (b : Bool) (w f : EffectShape) (n : ℕ) → same_effect w f ≡ b → cond b None (Some (Unshown n w f)) ≡ None → w ≡ f
same_of true w f n e h = (same_effect_tells w f).0 e
same_of false w f n e h = absurd (none-some (Unshown n w f) (sym h))

abbrev Effects : Type 0
Effects = List Class → Rule → Result EffectShape Fault

abbrev Saving : Type 0
Saving = Kind → Line → Result EffectShape Fault

abbrev verdict : List Class → Rule → ℕ → Result EffectShape Fault → Option Refusal
verdict classes r n o = compared n (facts_of classes r) (effect_read classes r) o

rule_shown : (effect : Effects) (registers n : ℕ) (classes : List Class) (r : Rule) → need classes r ≤ registers → (o : Result EffectShape Fault)
    → effect classes r ≡ o → verdict classes r n o ≡ None → IsShown effect registers classes r
rule_shown effect registers n classes r le (Ok found) e h = record {
  fits = le;
  found = found;
  found_is = e;
  alike = same_of (same_effect (norm_effect (facts_of classes r) (effect_read classes r)) (norm_effect (facts_of classes r) found)) _ _ n refl h;
}
rule_shown effect registers n classes r le (Err f) e h = absurd (none-some (Template n f.line f.kind) (sym h))

pub each_shown : (effect : Effects) (registers n : ℕ) (classes : List Class) (rules : List Rule) → pools_refused registers classes n rules ≡ None
    → rules_refused effect classes n rules ≡ None → AllByRecursion (IsShown effect registers classes) rules
each_shown effect registers n classes [] p q = tt
each_shown effect registers n classes (r ∷ rs) p q =
    let small_or_later = first_is_none (small registers n (need classes r)) (pools_refused registers classes (n + 1) rs) p in
    let now_or_later = first_is_none (verdict classes r n (effect classes r)) (rules_refused effect classes (n + 1) rs) q in (
      rule_shown effect registers n classes r (fits registers (need classes r) n small_or_later.0) (effect classes r) refl now_or_later.0,
      each_shown effect registers (n + 1) classes rs small_or_later.1 now_or_later.1,
    )

pub all_shown : (effect : Effects) (saved : Saving) (d : Content) → first_refusal effect saved d ≡ None
    → AllByRecursion (IsShown effect (count_ones d.pool) d.classes) d.rules
all_shown effect saved d h =
    let pools = pools_refused (count_ones d.pool) d.classes 1 d.rules in
    let rules = rules_refused effect d.classes 1 d.rules in
    let later = first_is_none pools (option_or (lines_refused saved saved_kinds d.spills) rules) h in
    each_shown effect (count_ones d.pool) 1 d.classes d.rules later.0 (first_is_none (lines_refused saved saved_kinds d.spills) rules later.1).1

line_shown : (saved : Saving) (k : Kind) (l : Line) (o : Result EffectShape Fault) → saved k l ≡ o
    → compared 0 (saved_facts k) (saved_wanted k) o ≡ None → IsLineShown saved k l
line_shown saved k l (Ok found) e h = record {
  found = found;
  found_is = e;
  alike = same_of (same_effect (norm_effect (saved_facts k) (saved_wanted k)) (norm_effect (saved_facts k) found)) _ _ 0 refl h;
}
line_shown saved k l (Err f) e h = absurd (none-some (Template 0 f.line f.kind) (sym h))

each_line_shown : (saved : Saving) (ks : List Kind) (ls : List Line) → lines_refused saved ks ls ≡ None → AreLinesShown saved ks ls
each_line_shown saved [] ls h = tt
each_line_shown saved (k ∷ ks) [] h = tt
each_line_shown saved (k ∷ ks) (l ∷ ls) h =
    let parts = first_is_none (compared 0 (saved_facts k) (saved_wanted k) (saved k l)) (lines_refused saved ks ls) h in
    (line_shown saved k l (saved k l) refl parts.0, each_line_shown saved ks ls parts.1)

all_lines_shown : (effect : Effects) (saved : Saving) (d : Content) → first_refusal effect saved d ≡ None
    → AreLinesShown saved saved_kinds d.spills
all_lines_shown effect saved d h =
    let pools = pools_refused (count_ones d.pool) d.classes 1 d.rules in
    let lines = lines_refused saved saved_kinds d.spills in
    let rules = rules_refused effect d.classes 1 d.rules in
    each_line_shown saved saved_kinds d.spills (first_is_none lines rules (first_is_none pools (option_or lines rules) h).1).0

pub rules_shown : (effect : Effects) (saved : Saving) (d : Content) → is_shown effect saved d ≡ true
    → AllByRecursion (IsShown effect (count_ones d.pool) d.classes) d.rules
rules_shown effect saved d h = all_shown effect saved d (none_is (first_refusal effect saved d) h)

pub lines_shown : (effect : Effects) (saved : Saving) (d : Content) → is_shown effect saved d ≡ true → AreLinesShown saved saved_kinds d.spills
lines_shown effect saved d h = all_lines_shown effect saved d (none_is (first_refusal effect saved d) h)
