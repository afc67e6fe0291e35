-- The effects of a valid description, and their normal forms.
use Rattle.std.proofs.Common.{◌≤◌, ℕ, ◌+◌, ◌*◌, List, [], ◌∷◌, length, map, Result, Ok, Err, arith}
use Rattle.std.specs.Prelude.{max}
use Rattle.std.specs.List.{AllByRecursion}
use Rattle.md_reader.specs.declared.types.Class.{Class}
use Rattle.md_reader.specs.declared.types.Rule.{Rule}
use Rattle.md_reader.specs.Valid.{IsRule}
use Rattle.term_core.specs.declared.facts.Fact.{Fact}
use Rattle.term_core.specs.Shape.{Shape}
use Rattle.term_core.specs.Norm.{norm}
use Rattle.sel_terms.specs.Effects.{ActShape, EffectShape, Value, Number, Address, PlaceHome, PlaceAt, StoreHome, norm_act}
use Rattle.sel_terms.specs.Effects.{StoreAt, Branch, Push, Call, Save, Return, Jump}
use Rattle.sel_terms_depth.specs.Depth.{act_depth, AreWithin, IsWithin}
use Rattle.sel_terms_depth.proofs.Norming.{norm_depth}
use Rattle.sel_terms_depth.proofs.Patterns.{patterns_are_shallow, more_divisors}
use Rattle.sel_target.specs.Meaning.{Fault}
use Rattle.vax_templates.specs.Found.{found}
use Rattle.vax_templates_depth.specs.Laws.{FoundWithin, IsShallow, NormalEffectsAreShallow, DescriptionsAreShallow}
use Rattle.vax_templates_depth.proofs.Templates.{templates_are_shallow}

act_normal : (facts : List Fact) (n : ℕ) (a : ActShape) → act_depth a ≤ n → act_depth (norm_act facts a) ≤ 2 * n
act_normal facts n (Value t) h = omega (arith, h, norm_depth facts t)
act_normal facts n (Number t) h = omega (arith, h, norm_depth facts t)
act_normal facts n (Address t) h = omega (arith, h, norm_depth facts t)
act_normal facts n (PlaceHome size i) h = omega arith
act_normal facts n (PlaceAt size a) h = omega (arith, h, norm_depth facts a)
act_normal facts n (StoreHome size i t) h = omega (arith, h, norm_depth facts t)
act_normal facts n (StoreAt size a t) h = omega (arith, h, norm_depth facts a, norm_depth facts t)
act_normal facts n (Branch i a b) h = omega (arith, h, norm_depth facts a, norm_depth facts b)
act_normal facts n (Push t) h = omega (arith, h, norm_depth facts t)
act_normal facts n Call h = omega arith
act_normal facts n (Save i) h = omega arith
act_normal facts n (Return t) h = omega (arith, h, norm_depth facts t)
act_normal facts n Jump h = omega arith

divisors_normal : (facts : List Fact) (n : ℕ) (ts : List Shape) → AreWithin n ts → AreWithin (2 * n) (map (norm facts) ts)
divisors_normal facts n [] h = tt
divisors_normal facts n (t ∷ ts) h = (omega (arith, h.0, norm_depth facts t), divisors_normal facts n ts h.1)

pub normal_effects_are_shallow : NormalEffectsAreShallow
normal_effects_are_shallow facts n e h =
    record { act = act_normal facts n e.act h.act; divisors = divisors_normal facts n e.divisors h.divisors }

more : (m n : ℕ) → m ≤ n → (e : EffectShape) → IsWithin m e → IsWithin n e
more m n l e h = record { act = omega (arith, l, h.act); divisors = more_divisors m n l e.divisors h.divisors }

more_found : (m n : ℕ) → m ≤ n → (r : Result EffectShape Fault) → FoundWithin m r → FoundWithin n r
more_found m n l (Ok e) h = more m n l e h
more_found m n l (Err f) h = tt

short : (k : ℕ) → k ≤ 16 → 3 * k + 1 ≤ 49
short k h = omega (arith, h)

few : (k : ℕ) → k ≤ 8 → max 5 (6 * k + 1) ≤ 49
few k h = omega (arith, h)

rule_is_shallow : (classes : List Class) (rule : Rule) → IsRule classes rule → IsShallow classes rule
rule_is_shallow classes rule v = record {
  wanted = more (3 * length rule.right + 1) 49 (short (length rule.right) v.sides.short) _ (patterns_are_shallow classes rule);
  found = more_found (max 5 (6 * length rule.lines + 1)) 49 (few (length rule.lines) v.template.few_lines) (found classes rule) (templates_are_shallow classes rule);
}

rules_are_shallow : (classes : List Class) (rules : List Rule) → AllByRecursion (IsRule classes) rules → AllByRecursion (IsShallow classes) rules
rules_are_shallow classes [] v = tt
rules_are_shallow classes (r ∷ rs) v = (rule_is_shallow classes r v.0, rules_are_shallow classes rs v.1)

pub descriptions_are_shallow : DescriptionsAreShallow
descriptions_are_shallow d v = rules_are_shallow d.classes d.rules v.rules
