-- How lines are written out, step by step.
use Rattle.std.proofs.Common.{◌≡◌, ◌≤◌, ◌∙◌, ℕ, zero, suc, ◌-◌, true, false, List, [], ◌∷◌, ◌++◌, length, take, drop, Option, Some, None}
use Rattle.std.proofs.Common.{refl, sym, ap, arith, append_assoc}
use Rattle.std.specs.Option.{option_map}
use Rattle.std.proofs.lemmas.List.{append-nil, length-drop}
use Rattle.std.proofs.lemmas.Option.{none-some, same_Some}
use Rattle.gg_base.specs.declared.size.Size.{Size}
use Rattle.md_reader_text.specs.Words.{words}
use Rattle.md_types.specs.declared.types.ExpandedLine.{ExpandedLine}
use Rattle.md_types.specs.declared.types.Expanded.{Expanded}
use Rattle.md_types.specs.Forms.{is_skipped, is_each, is_rule, each_sizes}
use Rattle.md_types.specs.Copies.{copies}
use Rattle.md_types.specs.Expand.{template_len, rule_behind, cut_behind, replicated, in_front, going_on, expand_from}

-- the rule behind an `each` line is found behind the lines that are skipped
pub skip_cut : (l : ExpandedLine) (ls : List ExpandedLine) → is_skipped (words l.bytes) ≡ true
    → option_map (cut_behind (l ∷ ls)) (rule_behind (l ∷ ls)) ≡ option_map (cut_behind ls) (rule_behind ls)
skip_cut l ls e = rw e (at (rule_behind ls))
  where
    at : (o : Option (List ExpandedLine × ℕ)) → option_map (cut_behind (l ∷ ls)) (option_map (λ (x : List ExpandedLine × ℕ). (x.0, suc x.1)) o) ≡ option_map (cut_behind ls) o
    at None = refl
    at (Some x) = refl

pub rule_cut : (l : ExpandedLine) (ls : List ExpandedLine) (m n : ℕ) → is_skipped (words l.bytes) ≡ false → is_rule (words l.bytes) ≡ true → n ≡ template_len ls → n ≤ length ls
    → m ≡ suc (length ls) - length (drop n ls) → Some (take m (l ∷ ls), drop n ls) ≡ option_map (cut_behind (l ∷ ls)) (rule_behind (l ∷ ls))
rule_cut l ls m n e f g le h =
    let len = length-drop n ls in
    let one : m ≡ suc (template_len ls) = omega (arith, g, le, h, len) in
    rw (e, f, one, g) refl

pub no_cut : (l : ExpandedLine) (ls : List ExpandedLine) → is_skipped (words l.bytes) ≡ false → is_rule (words l.bytes) ≡ false
    → None ≡ option_map (cut_behind (l ∷ ls)) (rule_behind (l ∷ ls))
no_cut l ls e f = rw (e, f) refl

-- lines that are left out may be taken away before
from_drop : (k : ℕ) (ls : List ExpandedLine) → expand_from k ls ≡ expand_from 0 (drop k ls)
from_drop zero ls = refl
from_drop (suc k) [] = refl
from_drop (suc k) (l ∷ ls) = from_drop k ls

front_twice : (xs ys : List ExpandedLine) (e : Expanded) → in_front xs (in_front ys e) ≡ in_front (xs ++ ys) e
front_twice xs ys e = ap (λ (ls : List ExpandedLine). record { lines = ls; bad = e.bad }) (sym (append_assoc xs ys e.lines))

-- a line under no `each` stays as it is
pub line_stays : (out : List ExpandedLine) (l : ExpandedLine) (ls : List ExpandedLine) → is_each (words l.bytes) ≡ false
    → in_front (out ++ l ∷ []) (expand_from 0 ls) ≡ in_front out (expand_from 0 (l ∷ ls))
line_stays out l ls e = rw e (sym (front_twice out (l ∷ []) (expand_from 0 ls)))

-- a good `each` line gives its copies, and the lines behind its rule come next
pub each_gives : (out new : List ExpandedLine) (l : ExpandedLine) (ls rule behind : List ExpandedLine) (zs : List Size) → is_each (words l.bytes) ≡ true
    → Some (rule, behind) ≡ option_map (cut_behind ls) (rule_behind ls) → Some zs ≡ each_sizes (words l.bytes) → new ≡ out ++ copies zs rule
    → in_front new (expand_from 0 behind) ≡ in_front out (expand_from 0 (l ∷ ls))
each_gives out new l ls rule behind zs e f g h = rw (e, ← g) (at (rule_behind ls) f)
  where
    at : (o : Option (List ExpandedLine × ℕ)) → Some (rule, behind) ≡ option_map (cut_behind ls) o
        → in_front new (expand_from 0 behind) ≡ in_front out (going_on l.from (replicated (Some zs) o) (λ (k : ℕ). expand_from k ls))
    at None f = absurd (none-some (rule, behind) (sym f))
    at (Some x) f =
        let p = same_Some (rule, behind) (x.0, drop x.1 ls) f in
        ap (λ (ns : List ExpandedLine). in_front ns (expand_from 0 behind)) h
        ∙ ap (λ (y : List ExpandedLine × List ExpandedLine). in_front (out ++ copies zs y.0) (expand_from 0 y.1)) p
        ∙ ap (λ (z : Expanded). in_front (out ++ copies zs x.0) z) (sym (from_drop x.1 ls))
        ∙ sym (front_twice out (copies zs x.0) (expand_from x.1 ls))

-- a bad one ends the lines
pub no_rule : (out : List ExpandedLine) (l : ExpandedLine) (ls : List ExpandedLine) → is_each (words l.bytes) ≡ true
    → None ≡ option_map (cut_behind ls) (rule_behind ls) → record { lines = out; bad = Some l.from } ≡ in_front out (expand_from 0 (l ∷ ls))
no_rule out l ls e f = rw e (at (rule_behind ls) f)
  where
    sized : (o : Option (List Size)) → record { lines = out; bad = Some l.from } ≡ in_front out (going_on l.from (replicated o None) (λ (k : ℕ). expand_from k ls))
    sized None = ap (λ (ns : List ExpandedLine). record { lines = ns; bad = Some l.from }) (sym (append-nil out))
    sized (Some zs) = ap (λ (ns : List ExpandedLine). record { lines = ns; bad = Some l.from }) (sym (append-nil out))

    at : (o : Option (List ExpandedLine × ℕ)) → None ≡ option_map (cut_behind ls) o
        → record { lines = out; bad = Some l.from } ≡ in_front out (going_on l.from (replicated (each_sizes (words l.bytes)) o) (λ (k : ℕ). expand_from k ls))
    at None f = sized (each_sizes (words l.bytes))
    at (Some x) f = absurd (none-some (cut_behind ls x) f)

pub no_sizes : (out : List ExpandedLine) (l : ExpandedLine) (ls : List ExpandedLine) → is_each (words l.bytes) ≡ true
    → None ≡ each_sizes (words l.bytes) → record { lines = out; bad = Some l.from } ≡ in_front out (expand_from 0 (l ∷ ls))
no_sizes out l ls e f = rw (e, ← f) (ap (λ (ns : List ExpandedLine). record { lines = ns; bad = Some l.from }) (sym (append-nil out)))
