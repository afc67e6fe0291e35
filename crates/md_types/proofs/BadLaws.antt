-- Which `each` line is told to be bad, and what stays as it is.
use Rattle.std.proofs.Common.{◌≡◌, ◌∙◌, ℕ, zero, suc, Bool, true, false, cond, List, [], ◌∷◌, take, Option, Some, None, refl, sym, ap}
use Rattle.std.specs.Prelude.{not, ◌&&◌, ◌||◌, is_some, codes, Result, Ok, Err, IfOk}
use Rattle.std.specs.List.{list_any}
use Rattle.std.proofs.lemmas.Bool.{eqb-true}
use Rattle.std.proofs.lemmas.Option.{none-some, same_Some}
use Rattle.std.proofs.lemmas.Slice.Eq.{bytes_eq-Decides}
use Rattle.std.specs.Option.{option_map}
use Rattle.gg_base.specs.declared.size.Size.{Size}
use Rattle.gg_base.proofs.Facts.{second_false, true_or_false}
use Rattle.md_reader_text.specs.Lines.{lines}
use Rattle.md_reader_text.specs.Words.{words, same}
use Rattle.md_types.specs.declared.types.ExpandedLine.{ExpandedLine}
use Rattle.md_types.specs.declared.types.Expanded.{Expanded}
use Rattle.md_types.specs.Forms.{is_skipped, is_each, is_rule, each_sizes}
use Rattle.md_types.specs.Expand.{numbered, ends_rule, template_len, rule_behind, replicated, under_each, in_front, going_on, expand_from, is_second, expand}
use Rattle.md_types.specs.Bad.{rule_follows, first_bad, starts_each, IsPlain, StaysAlike, TellsFirstBad}

-- a rule that begins with this line
abbrev from_here : ExpandedLine → List ExpandedLine → List ExpandedLine × ℕ
from_here l ls = (l ∷ take (template_len ls) ls, suc (template_len ls))

abbrev later : List ExpandedLine × ℕ → List ExpandedLine × ℕ
later x = (x.0, suc x.1)

-- a rule is found exactly where the next line that isn't skipped begins with `rule`
rule_found : (ls : List ExpandedLine) → is_some (rule_behind ls) ≡ rule_follows ls
rule_found [] = refl
rule_found (l ∷ ls) = at (is_skipped (words l.bytes)) (rule_found ls)
  where
    skipped : (o : Option (List ExpandedLine × ℕ)) → is_some (option_map later o) ≡ is_some o
    skipped None = refl
    skipped (Some x) = refl

    rule : (c : Bool) (x : List ExpandedLine × ℕ) → is_some (cond c (Some x) None) ≡ c
    rule true x = refl
    rule false x = refl

    at : (b : Bool) → is_some (rule_behind ls) ≡ rule_follows ls
        → is_some (cond b (option_map later (rule_behind ls)) (cond (is_rule (words l.bytes)) (Some (from_here l ls)) None))
        ≡ cond b (rule_follows ls) (is_rule (words l.bytes))
    at true h = skipped (rule_behind ls) ∙ h
    at false h = rule (is_rule (words l.bytes)) _

-- a line that is skipped, or a rule's first, is no `each` line
skipped_not_each : (ws : List (List ℕ)) → is_skipped ws ≡ true → is_each ws ≡ false
skipped_not_each [] e = refl
skipped_not_each ([] ∷ ws) e = refl
skipped_not_each ((b ∷ bs) ∷ ws) e = rw (eqb-true b 35 e) refl

rule_not_each : (ws : List (List ℕ)) → is_rule ws ≡ true → is_each ws ≡ false
rule_not_each [] e = refl
rule_not_each (a ∷ ws) e = ap (λ (w : List ℕ). same w (codes "each")) ((bytes_eq-Decides a (codes "rule")).0 e)

-- the lines up to a rule's end have no `each` line
template_free : (ls : List ExpandedLine) → list_any starts_each (take (template_len ls) ls) ≡ false
template_free [] = refl
template_free (l ∷ ls) = at (ends_rule l) refl (template_free ls)
  where
    at : (b : Bool) → ends_rule l ≡ b → list_any starts_each (take (template_len ls) ls) ≡ false → list_any starts_each (take (cond b 0 (suc (template_len ls))) (l ∷ ls)) ≡ false
    at true e h = refl
    at false e h = rw (second_false (is_rule (words l.bytes)) (is_each (words l.bytes)) e) h

rule_free : (ls : List ExpandedLine) (x : List ExpandedLine × ℕ) → rule_behind ls ≡ Some x → list_any starts_each (take x.1 ls) ≡ false
rule_free [] x e = absurd (none-some x e)
rule_free (l ∷ ls) x e = at (is_skipped (words l.bytes)) refl e (λ y q. rule_free ls y q)
  where
    skipped : (o : Option (List ExpandedLine × ℕ)) → rule_behind ls ≡ o → is_skipped (words l.bytes) ≡ true
        → option_map later o ≡ Some x → ((y : List ExpandedLine × ℕ) → rule_behind ls ≡ Some y → list_any starts_each (take y.1 ls) ≡ false)
        → list_any starts_each (take x.1 (l ∷ ls)) ≡ false
    skipped None q f e go = absurd (none-some x e)
    skipped (Some y) q f e go = rw (← same_Some (y.0, suc y.1) x e, skipped_not_each (words l.bytes) f) (go y q)

    rule : (c : Bool) → is_rule (words l.bytes) ≡ c → cond c (Some (from_here l ls)) None ≡ Some x → list_any starts_each (take x.1 (l ∷ ls)) ≡ false
    rule false f e = absurd (none-some x e)
    rule true f e = rw (← same_Some (from_here l ls) x e, rule_not_each (words l.bytes) f) (template_free ls)

    at : (b : Bool) → is_skipped (words l.bytes) ≡ b
        → cond b (option_map later (rule_behind ls)) (cond (is_rule (words l.bytes)) (Some (from_here l ls)) None) ≡ Some x
        → ((y : List ExpandedLine × ℕ) → rule_behind ls ≡ Some y → list_any starts_each (take y.1 ls) ≡ false) → list_any starts_each (take x.1 (l ∷ ls)) ≡ false
    at true f e go = skipped (rule_behind ls) refl f e go
    at false f e go = rule (is_rule (words l.bytes)) refl e

-- lines that are left out without an `each` line hide no bad one
left_out : (k : ℕ) (ls : List ExpandedLine) → list_any starts_each (take k ls) ≡ false → (expand_from k ls).bad ≡ (expand_from 0 ls).bad
left_out zero ls e = refl
left_out (suc k) [] e = refl
left_out (suc k) (l ∷ ls) e = at (is_each (words l.bytes)) e (left_out k ls)
  where
    at : (b : Bool) → (b || list_any starts_each (take k ls)) ≡ false → (list_any starts_each (take k ls) ≡ false → (expand_from k ls).bad ≡ (expand_from 0 ls).bad)
        → (expand_from k ls).bad ≡ (cond b (going_on l.from (under_each l ls) (λ (j : ℕ). expand_from j ls)) (in_front (l ∷ []) (expand_from 0 ls))).bad
    at true e go = absurd (true_or_false true refl e)
    at false e go = go e

bad_told : (ls : List ExpandedLine) → (expand_from 0 ls).bad ≡ first_bad ls
bad_told [] = refl
bad_told (l ∷ ls) = at (is_each (words l.bytes)) (bad_told ls)
  where
    under : (zs : Option (List Size)) (o : Option (List ExpandedLine × ℕ)) → rule_behind ls ≡ o → rule_follows ls ≡ is_some o → (expand_from 0 ls).bad ≡ first_bad ls
        → (going_on l.from (replicated zs o) (λ (j : ℕ). expand_from j ls)).bad ≡ cond (not (is_some zs && rule_follows ls)) (Some l.from) (first_bad ls)
    under None None q f h = refl
    under None (Some x) q f h = refl
    under (Some zs) None q f h = rw f refl
    under (Some zs) (Some x) q f h = rw f (left_out x.1 ls (rule_free ls x q) ∙ h)

    at : (b : Bool) → (expand_from 0 ls).bad ≡ first_bad ls
        → (cond b (going_on l.from (under_each l ls) (λ (j : ℕ). expand_from j ls)) (in_front (l ∷ []) (expand_from 0 ls))).bad
        ≡ cond (b && not (is_some (each_sizes (words l.bytes)) && rule_follows ls)) (Some l.from) (first_bad ls)
    at true h = under (each_sizes (words l.bytes)) (rule_behind ls) refl (sym (rule_found ls)) h
    at false h = h

-- lines of which none begins with `each` stay as they are
all_stay : (ls : List ExpandedLine) → list_any starts_each ls ≡ false → expand_from 0 ls ≡ record { lines = ls; bad = None }
all_stay [] e = refl
all_stay (l ∷ ls) e = at (is_each (words l.bytes)) e (all_stay ls)
  where
    at : (b : Bool) → (b || list_any starts_each ls) ≡ false → (list_any starts_each ls ≡ false → expand_from 0 ls ≡ record { lines = ls; bad = None })
        → cond b (going_on l.from (under_each l ls) (λ (j : ℕ). expand_from j ls)) (in_front (l ∷ []) (expand_from 0 ls)) ≡ record { lines = l ∷ ls; bad = None }
    at true e go = absurd (true_or_false true refl e)
    at false e go = ap (λ (x : Expanded). in_front (l ∷ []) x) (go e)

either_stays : (ls : List ExpandedLine) (b : Bool) → list_any starts_each ls ≡ false → cond b (expand_from 0 ls) (record { lines = ls; bad = None }) ≡ record { lines = ls; bad = None }
either_stays ls true e = all_stay ls e
either_stays ls false e = refl

pub plain : {E : Type 0} (r : Result Expanded E) (text : List ℕ) → IfOk r (λ e. e ≡ expand text) → IfOk r (IsPlain text)
plain (Err x) text h = tt
plain (Ok e) text h = λ f. h ∙ ap (λ (b : Bool). cond b (expand_from 0 (numbered 1 (lines text))) (record { lines = numbered 1 (lines text); bad = None })) f

pub alike : {E : Type 0} (r : Result Expanded E) (text : List ℕ) → IfOk r (λ e. e ≡ expand text) → IfOk r (StaysAlike text)
alike (Err x) text h = tt
alike (Ok e) text h = λ f. h ∙ either_stays (numbered 1 (lines text)) (is_second (numbered 1 (lines text))) f

pub tells : {E : Type 0} (r : Result Expanded E) (text : List ℕ) → IfOk r (λ e. e ≡ expand text) → IfOk r (TellsFirstBad text)
tells (Err x) text h = tt
tells (Ok e) text h = λ f.
    ap (λ (x : Expanded). x.bad) (h ∙ ap (λ (b : Bool). cond b (expand_from 0 (numbered 1 (lines text))) (record { lines = numbered 1 (lines text); bad = None })) f)
    ∙ bad_told (numbered 1 (lines text))
