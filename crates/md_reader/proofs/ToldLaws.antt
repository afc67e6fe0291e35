-- What is read is what the lines say.
use Rattle.std.proofs.Common.{◌≡◌, ℕ, suc, ◌+◌, Bool, true, false, cond, eqb, List, [], ◌∷◌, ◌++◌, length, Option, Some, None, Result, Ok, Err, nat_le, refl, sym, ap, subst, ◌∙◌, arith, append_assoc}
use Rattle.std.specs.Prelude.{codes, map}
use Rattle.std.specs.Result.{IfOk}
use Rattle.std.specs.List.{flat_map}
use Rattle.std.specs.Option.{option_map}
use Rattle.std.proofs.lemmas.Option.{none-some, same_Some, option_and_then_some}
use Rattle.std.proofs.lemmas.Bool.{eqb-true, leb-true}
use Rattle.std.proofs.lemmas.List.{append-nil}
use Rattle.gg_base.proofs.Facts.{err_ok}
use Rattle.md_reader_text.specs.Words.{same, words}
use Rattle.md_reader_pieces.specs.declared.piece.Piece.{Piece}
use Rattle.md_reader_pieces.specs.declared.piece.Line.{Line}
use Rattle.md_reader_pieces.specs.Pieces.{text_of, pieces}
use Rattle.tree_core.specs.declared.token.Tok.{Tok}
use Rattle.tree_core.specs.declared.token.Sort.{Sort}
use Rattle.tree_core.specs.Names.{name_of}
use Rattle.md_reader.specs.declared.types.Kind.{Kind}
use Rattle.md_reader.specs.declared.types.Class.{Class}
use Rattle.md_reader.specs.declared.types.Sym.{Sym}
use Rattle.md_reader.specs.declared.types.Sym.TheVariants as grammar_symbol
use Rattle.md_reader.specs.declared.types.Restriction.{Restriction}
use Rattle.md_reader.specs.declared.types.Give.{Give}
use Rattle.md_reader.specs.declared.types.Give.TheVariants as give
use Rattle.md_reader.specs.declared.types.Rule.{Rule}
use Rattle.md_reader.specs.declared.faults.DescKind.{DescKind}
use Rattle.md_reader.specs.declared.faults.DescKind.TheVariants as kinds
use Rattle.md_reader.specs.declared.faults.DescFault.{DescFault}
use Rattle.md_reader.specs.declared.forms.Saved.{Saved}
use Rattle.md_reader.specs.declared.reading.Stage.{Stage}
use Rattle.md_reader.specs.declared.reading.Stage.TheVariants as stage
use Rattle.md_reader.specs.Patterns.{kind_at, sorted_test, walk, count}
use Rattle.md_reader.specs.Symbols.{token_among, tree_tokens, token_of, token_or_class, class_from, class_of, symbol_of, symbols_of}
use Rattle.md_types.specs.declared.types.ExpandedLine.{ExpandedLine}
use Rattle.md_types.specs.Forms.{is_skipped}
use Rattle.md_types.specs.Expand.{expand}
use Rattle.md_reader.specs.Forms.{is_version, is_target, pool_form, class_form, spill_form, saved_number}
use Rattle.md_reader.specs.RuleForms.{rule_form, if_form, do_form, give_form, plain_give, register_behind}
use Rattle.md_reader.specs.Restrictions.{restriction_fits}
use Rattle.md_reader.specs.Rows.{line_fits, pieces_fit, shape_fits, plain_fits, is_bare}
use Rattle.md_reader.specs.State.{State, Content}
use Rattle.md_reader.specs.HeadSteps.{line_at, has_stmt, pool_step, new_class, spill_pieces, spill_text, spill_line}
use Rattle.md_reader.specs.HeadSteps.{class_line}
use Rattle.md_reader.specs.RuleSteps.{sort_step, right_step, left_step, rule_line, if_step, do_pieces, do_text}
use Rattle.md_reader.specs.RuleSteps.{ended_rule, shape_step, give_step, give_line, do_line, if_line}
use Rattle.md_reader.specs.Steps.{step_at, line_step}
use Rattle.md_reader.specs.Reads.{start, content_of, ended_at, taken, read_from, line_behind, read_for, Answers}
use Rattle.md_reader.specs.Valid.{IsValid}
use Rattle.md_reader.specs.Fine.{IsBlank, IsDeclaring, StageFact, IsFine}
use Rattle.md_reader.specs.Telling.{Form, Version, Target, Pool, Declares, Saves, Head, Restricts, Writes, Gives, name_at, symbol_word, saving, ruling, telling}
use Rattle.md_reader.specs.Desc.{kind_words, saved_words, GiveWord, Says, not_skipped, Tell, DescFor}
use Rattle.md_reader.proofs.Inversion.{when, unless, ok_same, same_true}
use Rattle.md_reader.proofs.FormLaws.{both_words, class_line_is, spill_line_is, rule_line_is, if_line_is, do_line_is, give_line_is, plain_word}
use Rattle.md_reader.proofs.ValidLaws.{skip_kept, line_kept, is_valid, begins}

token_named : (ts : List Tok) (w : List ℕ) (t : Tok) → token_among ts w ≡ Some t → name_of t ≡ w
token_named [] w t e = absurd (none-some t e)
token_named (x ∷ ts) w t e = at (same w (name_of x)) refl e (token_named ts w t)
  where
    at : (b : Bool) → same w (name_of x) ≡ b → cond b (Some x) (token_among ts w) ≡ Some t → (token_among ts w ≡ Some t → name_of t ≡ w) → name_of t ≡ w
    at true f e k = rw (← same_Some x t e) (sym (same_true w (name_of x) f))
    at false f e k = k e

-- a class that was found by its name, counted on from a number
record IsFound (i : ℕ) (cs : List Class) (w : List ℕ) (j : ℕ) : Type 0 where
  place : ℕ
  number : j ≡ i + place
  named : name_at cs place ≡ w

class_found : (i : ℕ) (cs : List Class) (w : List ℕ) (j : ℕ) → class_from i cs w ≡ Some j → IsFound i cs w j
class_found i [] w j e = absurd (none-some j e)
class_found i (c ∷ cs) w j e = at (same c.name w) refl e (class_found (i + 1) cs w j)
  where
    later : IsFound (i + 1) cs w j → IsFound i (c ∷ cs) w j
    later k = record { place = suc k.place; number = let n = k.number in omega (arith, n); named = k.named }

    at : (b : Bool) → same c.name w ≡ b → cond b (Some i) (class_from (i + 1) cs w) ≡ Some j → (class_from (i + 1) cs w ≡ Some j → IsFound (i + 1) cs w j) → IsFound i (c ∷ cs) w j
    at true f e k = let g = same_Some i j e in record { place = 0; number = omega (arith, g); named = same_true c.name w f }
    at false f e k = later (k e)

class_named : (cs : List Class) (w : List ℕ) (j : ℕ) → class_of cs w ≡ Some j → name_at cs j ≡ w
class_named cs w j e =
    let k = class_found 0 cs w j e in
    let n = k.number in
    let same_number : j ≡ k.place = omega (arith, n) in
    ap (name_at cs) same_number ∙ k.named

symbol_named : (cs : List Class) (w : List ℕ) (s : Sym) → symbol_of cs w ≡ Some s → symbol_word cs s ≡ w
symbol_named cs w s e = at (token_of w) refl e
  where
    class : (o : Option ℕ) → class_of cs w ≡ o → option_map grammar_symbol.Class o ≡ Some s → symbol_word cs s ≡ w
    class None f e = absurd (none-some s e)
    class (Some j) f e = rw (← same_Some (grammar_symbol.Class j) s e) (class_named cs w j f)

    at : (o : Option Tok) → token_of w ≡ o → token_or_class o (class_of cs w) ≡ Some s → symbol_word cs s ≡ w
    at (Some t) f e = rw (← same_Some (grammar_symbol.Tok t) s e) (token_named tree_tokens w t f)
    at None f e = class _ refl e

symbols_named : (cs : List Class) (ws : List (List ℕ)) (right : List Sym) → symbols_of cs ws ≡ Some right → map (symbol_word cs) right ≡ ws
symbols_named cs [] right e = ap (map (symbol_word cs)) (sym (same_Some [] right e))
symbols_named cs (w ∷ ws) right e =
    option_and_then_some _ _ _ e (λ s es more. one_more s (symbol_named cs w s es) (symbols_of cs ws) more (symbols_named cs ws))
  where
    one_more : (s : Sym) → symbol_word cs s ≡ w → (o : Option (List Sym)) → option_map (λ (ss : List Sym). s ∷ ss) o ≡ Some right
        → ((r : List Sym) → o ≡ Some r → map (symbol_word cs) r ≡ ws) → map (symbol_word cs) right ≡ w ∷ ws
    one_more s f None e k = absurd (none-some right e)
    one_more s f (Some ss) e k = rw (← same_Some (s ∷ ss) right e, f, k ss refl) refl

map-push : {A : Type 0} (f : A → Form) (xs : List A) (x : A) → map f (xs ++ x ∷ []) ≡ map f xs ++ f x ∷ []
map-push f [] x = refl
map-push f (y ∷ xs) x = ap (λ (t : List Form). f y ∷ t) (map-push f xs x)

saving-push : (i : ℕ) (ls : List Line) (l : Line) → saving i (ls ++ l ∷ []) ≡ saving i ls ++ Saves (i + length ls) l ∷ []
saving-push i [] l = let z : i ≡ i + 0 = omega arith in ap (λ (n : ℕ). Saves n l ∷ []) z
saving-push i (m ∷ ls) l =
    let z : i + 1 + length ls ≡ i + suc (length ls) = omega arith in
    ap (λ (t : List Form). Saves i m ∷ t) (saving-push (i + 1) ls l ∙ ap (λ (n : ℕ). saving (i + 1) ls ++ Saves n l ∷ []) z)

flat-push : (f : Rule → List Form) (xs : List Rule) (x : Rule) → flat_map f (xs ++ x ∷ []) ≡ flat_map f xs ++ f x
flat-push f [] x = append-nil (f x)
flat-push f (y ∷ xs) x = ap (λ (t : List Form). f y ++ t) (flat-push f xs x) ∙ sym (append_assoc (f y) (flat_map f xs) (f x))

-- what the lines so far said
abbrev in_rule : State → List Form
in_rule s = Head (name_at s.classes s.left) (map (symbol_word s.classes) s.right) ∷ (map Restricts s.restrictions ++ map Writes s.lines)

abbrev told_at : Stage → State → List Form
told_at stage.Version s = []
told_at stage.Target s = Version ∷ []
told_at stage.Pool s = Version ∷ Target ∷ []
told_at stage.Classes s = telling (content_of s)
told_at stage.Spills s = telling (content_of s)
told_at stage.Rules s = telling (content_of s)
told_at stage.Template s = telling (content_of s) ++ in_rule s

-- one line more says one thing more
record OneMore (target : List ℕ) (before : List Form) (t : State) (n : ℕ) (ws : List (List ℕ)) : Type 0 where
  form : Form
  says : Says target n ws form
  more : told_at t.stage t ≡ before ++ form ∷ []

blank_told : (m : ℕ) (classes : List Class) (spills : List Line) (rules : List Rule) → classes ≡ [] → spills ≡ [] → rules ≡ []
    → telling (record { pool = m; classes = classes; spills = spills; rules = rules }) ≡ Version ∷ Target ∷ Pool m ∷ []
blank_told m classes spills rules a b c = rw (a, b, c) refl

pool_told : (target : List ℕ) (s t : State) (n : ℕ) (ws : List (List ℕ)) (o : Option ℕ) → pool_form ws ≡ o → IsBlank s → pool_step s o ≡ Ok t → OneMore target (Version ∷ Target ∷ []) t n ws
pool_told target s t n ws None v f e = absurd (err_ok _ _ e)
pool_told target s t n ws (Some m) v f e =
    rw (← ok_same _ _ _ _ refl refl e) (record { form = Pool m; says = v; more = blank_told m s.classes s.spills s.rules f.classes f.spills f.rules })

class_pushed : (m : ℕ) (classes : List Class) (c : Class) (spills : List Line) (rules : List Rule) → spills ≡ [] → rules ≡ []
    → telling (record { pool = m; classes = classes ++ c ∷ []; spills = spills; rules = rules }) ≡ telling (record { pool = m; classes = classes; spills = spills; rules = rules }) ++ Declares c ∷ []
class_pushed m classes c spills rules a b =
    rw (a, b) (ap (λ (x : List Form). Version ∷ Target ∷ Pool m ∷ x) (append-nil (map Declares (classes ++ c ∷ [])) ∙ map-push Declares classes c
    ∙ ap (λ (x : List Form). x ++ Declares c ∷ []) (sym (append-nil (map Declares classes)))))

class_told : (target : List ℕ) (s t : State) (n : ℕ) (ws : List (List ℕ)) (name : List ℕ) (k : Kind) (o : Option ℕ) → ws ≡ codes "class" ∷ name ∷ kind_words k → IsDeclaring s
    → s.stage ≡ stage.Classes
    → new_class s name k o ≡ Ok t → OneMore target (telling (content_of s)) t n ws
class_told target s t n ws name k (Some i) w d g e = absurd (err_ok _ _ e)
class_told target s t n ws name k None w d g e =
    let c : Class = record { name = name; kind = k } in
    rw (← ok_same _ _ _ _ refl refl e) (record { form = Declares c; says = w; more = rw g (class_pushed s.pool s.classes c s.spills s.rules d.spills d.rules) })

spill_pushed : (m : ℕ) (classes : List Class) (spills : List Line) (l : Line) (rules : List Rule) → rules ≡ []
    → telling (record { pool = m; classes = classes; spills = spills ++ l ∷ []; rules = rules }) ≡ telling (record { pool = m; classes = classes; spills = spills; rules = rules })
    ++ Saves (length spills) l ∷ []
spill_pushed m classes spills l rules a =
    let z : 0 + length spills ≡ length spills = omega arith in
    let p : saving 0 (spills ++ l ∷ []) ≡ saving 0 spills ++ Saves (length spills) l ∷ [] = saving-push 0 spills l ∙ ap (λ (n : ℕ). saving 0 spills ++ Saves n l ∷ []) z in
    rw a (ap (λ (x : List Form). Version ∷ Target ∷ Pool m ∷ x) (ap (λ (x : List Form). map Declares classes ++ x)
    (append-nil (saving 0 (spills ++ l ∷ [])) ∙ p ∙ ap (λ (x : List Form). x ++ Saves (length spills) l ∷ []) (sym (append-nil (saving 0 spills))))
    ∙ sym (append_assoc (map Declares classes) (saving 0 spills ++ []) (Saves (length spills) l ∷ []))))

spill_told : (target : List ℕ) (s t : State) (n : ℕ) (ws : List (List ℕ)) (x : Saved × List (List ℕ)) (w : List ℕ) (ps : List Piece) → ws ≡ saved_words x.0 ++ x.1 → saved_number x.0 ≡ length s.spills
    → text_of x.1 ≡ Some w → pieces w ≡ Some ps → s.rules ≡ [] → spill_pieces s n (Some ps) ≡ Ok t → OneMore target (telling (content_of s)) t n ws
spill_told target s t n ws x w ps a b c d r e =
    let q = unless (line_fits true (grammar_symbol.Class 0 ∷ []) ps) _ _ t e in
    let l : Line = line_at n ps in
    rw (← ok_same _ _ _ _ refl refl q.1) (record {
      form = Saves (length s.spills) l;
      says = record { saved = x.0; place = b; instruction = record { words = x.1; stands = a; text = w; joined = c; pieces = d; number = refl } };
      more = at (eqb (length s.spills) 7);
    })
  where
    at : (b : Bool) → told_at (cond b stage.Rules stage.Spills) (record s { stage = cond b stage.Rules stage.Spills; spills = s.spills ++ line_at n ps ∷ [] }) ≡ telling (content_of s)
        ++ Saves (length s.spills) (line_at n ps) ∷ []
    at true = spill_pushed s.pool s.classes s.spills (line_at n ps) s.rules r
    at false = spill_pushed s.pool s.classes s.spills (line_at n ps) s.rules r

spill_pieces_told : (target : List ℕ) (s t : State) (n : ℕ) (ws : List (List ℕ)) (x : Saved × List (List ℕ)) (w : List ℕ) (o : Option (List Piece)) → ws ≡ saved_words x.0 ++ x.1 → saved_number x.0
    ≡ length s.spills → text_of x.1 ≡ Some w → pieces w ≡ o → s.rules ≡ [] → spill_pieces s n o ≡ Ok t → OneMore target (telling (content_of s)) t n ws
spill_pieces_told target s t n ws x w None a b c d r e = absurd (err_ok _ _ e)
spill_pieces_told target s t n ws x w (Some ps) a b c d r e = spill_told target s t n ws x w ps a b c d r e

spill_text_told : (target : List ℕ) (s t : State) (n : ℕ) (ws : List (List ℕ)) (x : Saved × List (List ℕ)) (o : Option (List ℕ)) → ws ≡ saved_words x.0 ++ x.1 → saved_number x.0 ≡ length s.spills
    → text_of x.1 ≡ o → s.rules ≡ [] → spill_text s n o ≡ Ok t → OneMore target (telling (content_of s)) t n ws
spill_text_told target s t n ws x None a b c r e = absurd (err_ok _ _ e)
spill_text_told target s t n ws x (Some w) a b c r e = spill_pieces_told target s t n ws x w _ a b c refl r e

spill_line_told : (target : List ℕ) (s t : State) (n : ℕ) (ws : List (List ℕ)) (o : Option (Saved × List (List ℕ))) → spill_form ws ≡ o → s.rules ≡ []
    → spill_line s n o ≡ Ok t → OneMore target (telling (content_of s)) t n ws
spill_line_told target s t n ws None v r e = absurd (err_ok _ _ e)
spill_line_told target s t n ws (Some x) v r e =
    let a = unless (eqb (saved_number x.0) (length s.spills)) _ _ t e in
    let b = unless (has_stmt s.classes) _ _ t a.1 in
    spill_text_told target s t n ws x _ (spill_line_is ws x v) (eqb-true (saved_number x.0) (length s.spills) a.0) refl r b.1

class_line_told : (target : List ℕ) (s t : State) (n : ℕ) (ws : List (List ℕ)) (o : Option (List ℕ × Kind)) → class_form ws ≡ o → IsDeclaring s → s.stage ≡ stage.Classes → class_line s n o ws ≡ Ok t
    → OneMore target (telling (content_of s)) t n ws
class_line_told target s t n ws None v d g e = spill_line_told target s t n ws _ refl d.rules e
class_line_told target s t n ws (Some x) v d g e =
    let a = when (nat_le 64 (length s.classes)) _ _ t e in
    class_told target s t n ws x.0 x.1 _ (class_line_is ws x v).stands d g a.1

-- a rule's head
sort_told : (target : List ℕ) (s t : State) (n : ℕ) (ws : List (List ℕ)) (left : ℕ) (right : List Sym) (z : Bool) (o : Option Sort) → ws
    ≡ codes "rule" ∷ name_at s.classes left ∷ codes ":" ∷ map (symbol_word s.classes) right → sort_step s left right z o ≡ Ok t → OneMore target (telling (content_of s)) t n ws
sort_told target s t n ws left right z None w e = absurd (err_ok _ _ e)
sort_told target s t n ws left right z (Some sort) w e =
    let a = when (is_bare s.classes right) _ _ t e in
    let b = unless (walk (sorted_test s.classes) (sort ∷ []) right) _ _ t a.1 in
    rw (← ok_same _ _ _ _ refl refl b.1) (record { form = Head (name_at s.classes left) (map (symbol_word s.classes) right); says = w; more = refl })

right_told : (target : List ℕ) (s t : State) (n : ℕ) (ws ss : List (List ℕ)) (left : ℕ) (z : Bool) (o : Option (List Sym)) → ws ≡ codes "rule" ∷ name_at s.classes left ∷ codes ":" ∷ ss
    → symbols_of s.classes ss ≡ o → right_step s left z o ≡ Ok t → OneMore target (telling (content_of s)) t n ws
right_told target s t n ws ss left z None w f e = absurd (err_ok _ _ e)
right_told target s t n ws ss left z (Some right) w f e =
    let a = unless (count 1 right) _ _ t e in
    let k = ap (λ (x : List (List ℕ)). codes "rule" ∷ name_at s.classes left ∷ codes ":" ∷ x) (sym (symbols_named s.classes ss right f)) in
    sort_told target s t n ws left right z _ (w ∙ k) a.1

left_told : (target : List ℕ) (s t : State) (n : ℕ) (ws ss : List (List ℕ)) (class : List ℕ) (z : Bool) (o : Option ℕ) → ws ≡ codes "rule" ∷ class ∷ codes ":" ∷ ss → class_of s.classes class ≡ o
    → left_step s z ss o ≡ Ok t → OneMore target (telling (content_of s)) t n ws
left_told target s t n ws ss class z None w f e = absurd (err_ok _ _ e)
left_told target s t n ws ss class z (Some left) w f e =
    let k = ap (λ (x : List ℕ). codes "rule" ∷ x ∷ codes ":" ∷ ss) (sym (class_named s.classes class left f)) in
    right_told target s t n ws ss left z _ (w ∙ k) refl e

rule_told : (target : List ℕ) (s t : State) (n : ℕ) (ws : List (List ℕ)) (z : Bool) (o : Option (List ℕ × List (List ℕ))) → rule_form ws ≡ o → rule_line s z o ≡ Ok t
    → OneMore target (telling (content_of s)) t n ws
rule_told target s t n ws z None v e = absurd (err_ok _ _ e)
rule_told target s t n ws z (Some x) v e =
    let a = when (nat_le 1000 (length s.rules)) _ _ t e in
    let b = unless (nat_le (length x.1) 16) _ _ t a.1 in
    left_told target s t n ws x.1 x.0 z _ (rule_line_is ws x v) refl b.1

-- the other lines of a rule
none_written : (ls : List Line) → eqb (length ls) 0 ≡ true → ls ≡ []
none_written [] e = refl
none_written (l ∷ ls) e = let k = eqb-true (length (l ∷ ls)) 0 e in absurd (omega (arith, k))

if_pushed : (p : List Form) (h : Form) (rs : List Restriction) (r : Restriction) (ls : List Line) → ls ≡ [] → p ++ (h ∷ (map Restricts (rs ++ r ∷ []) ++ map Writes ls))
    ≡ (p ++ (h ∷ (map Restricts rs ++ map Writes ls))) ++ Restricts r ∷ []
if_pushed p h rs r ls a =
    rw a (ap (λ (x : List Form). p ++ h ∷ x) (append-nil (map Restricts (rs ++ r ∷ [])) ∙ map-push Restricts rs r
    ∙ ap (λ (x : List Form). x ++ Restricts r ∷ []) (sym (append-nil (map Restricts rs)))) ∙ sym (append_assoc p (h ∷ (map Restricts rs ++ [])) (Restricts r ∷ [])))

do_pushed : (p : List Form) (h : Form) (rs : List Form) (ls : List Line) (l : Line) → p ++ (h ∷ (rs ++ map Writes (ls ++ l ∷ []))) ≡ (p ++ (h ∷ (rs ++ map Writes ls))) ++ Writes l ∷ []
do_pushed p h rs ls l =
    ap (λ (x : List Form). p ++ h ∷ x) (ap (λ (x : List Form). rs ++ x) (map-push Writes ls l) ∙ sym (append_assoc rs (map Writes ls) (Writes l ∷ [])))
    ∙ sym (append_assoc p (h ∷ (rs ++ map Writes ls)) (Writes l ∷ []))

if_told : (target : List ℕ) (s t : State) (n : ℕ) (ws : List (List ℕ)) (r : Restriction) → if_form ws ≡ Some r → s.stage ≡ stage.Template → if_step s r ≡ Ok t
    → OneMore target (told_at stage.Template s) t n ws
if_told target s t n ws r v g e =
    let a = unless (eqb (length s.lines) 0) _ _ t e in
    let b = when (nat_le 4 (length s.restrictions)) _ _ t a.1 in
    let c = unless (restriction_fits s.classes s.right r) _ _ t b.1 in
    rw (← ok_same _ _ _ _ refl refl c.1) (record {
      form = Restricts r;
      says = if_line_is ws r v;
      more = rw g (if_pushed (telling (content_of s)) (Head (name_at s.classes s.left) (map (symbol_word s.classes) s.right)) s.restrictions r s.lines (none_written s.lines a.0));
    })

do_pieces_told : (target : List ℕ) (s t : State) (n : ℕ) (ws rest : List (List ℕ)) (w : List ℕ) (o : Option (List Piece)) → ws ≡ codes "do" ∷ rest → text_of rest ≡ Some w → pieces w ≡ o → s.stage
    ≡ stage.Template → do_pieces s n o ≡ Ok t → OneMore target (told_at stage.Template s) t n ws
do_pieces_told target s t n ws rest w None a b c g e = absurd (err_ok _ _ e)
do_pieces_told target s t n ws rest w (Some ps) a b c g e =
    let q = unless (line_fits s.register s.right ps) _ _ t e in
    rw (← ok_same _ _ _ _ refl refl q.1) (record {
      form = Writes (line_at n ps);
      says = record { words = rest; stands = a; text = w; joined = b; pieces = c; number = refl };
      more = rw g (do_pushed (telling (content_of s)) (Head (name_at s.classes s.left) (map (symbol_word s.classes) s.right)) (map Restricts s.restrictions) s.lines (line_at n ps));
    })

do_told : (target : List ℕ) (s t : State) (n : ℕ) (ws rest : List (List ℕ)) (o : Option (List ℕ)) → ws ≡ codes "do" ∷ rest → text_of rest ≡ o → s.stage ≡ stage.Template → do_text s n o ≡ Ok t
    → OneMore target (told_at stage.Template s) t n ws
do_told target s t n ws rest None a b g e = absurd (err_ok _ _ e)
do_told target s t n ws rest (Some w) a b g e =
    let q = when (nat_le 8 (length s.lines)) _ _ t e in
    do_pieces_told target s t n ws rest w _ a b refl g q.1

rule_pushed : (h : List Form) (d s q : List Form) (x : Form) (r w : List Form) (g : Form) → h ++ (d ++ (s ++ (q ++ (x ∷ (r ++ (w ++ g ∷ [])))))) ≡ ((h ++ (d ++ (s ++ q))) ++ (x ∷ (r ++ w))) ++ g ∷ []
rule_pushed h d s q x r w g = simp append_assoc

given_told : (target : List ℕ) (s : State) (n : ℕ) (ws : List (List ℕ)) (w : List ℕ) (g : Give) → ws ≡ codes "give" ∷ w ∷ [] → GiveWord n w g
    → OneMore target (told_at stage.Template s) (ended_rule s g) n ws
given_told target s n ws w g a b =
    let r : Rule = record { left = s.left; right = s.right; restrictions = s.restrictions; lines = s.lines; give = g } in
    record {
      form = Gives g;
      says = record { word = w; stands = a; says = b };
      more =
          ap (λ (x : List Form). Version ∷ Target ∷ Pool s.pool ∷ (map Declares s.classes ++ (saving 0 s.spills ++ x))) (flat-push (ruling s.classes) s.rules r)
          ∙ rule_pushed (Version ∷ Target ∷ Pool s.pool ∷ []) (map Declares s.classes) (saving 0 s.spills) (flat_map (ruling s.classes) s.rules)
          (Head (name_at s.classes s.left) (map (symbol_word s.classes) s.right)) (map Restricts s.restrictions) (map Writes s.lines) (Gives g);
    }

shape_told : (target : List ℕ) (s t : State) (n : ℕ) (ws : List (List ℕ)) (w : List ℕ) (o : Option (List Piece)) → ws ≡ codes "give" ∷ w ∷ [] → plain_give w ≡ None
    → pieces w ≡ o → shape_step s n o ≡ Ok t
    → OneMore target (told_at stage.Template s) t n ws
shape_told target s t n ws w None a b c e = absurd (err_ok _ _ e)
shape_told target s t n ws w (Some ps) a b c e =
    let p = unless (pieces_fit false s.right ps) _ _ t e in
    let q = unless (shape_fits s.classes s.right (kind_at s.classes s.left) ps) _ _ t p.1 in
    rw (← ok_same _ _ _ _ refl refl q.1) (given_told target s n ws w (give.Shape (line_at n ps)) a (b, c, refl))

give_told : (target : List ℕ) (s t : State) (n : ℕ) (ws : List (List ℕ)) (w : List ℕ) (o : Option Give) → ws ≡ codes "give" ∷ w ∷ [] → plain_give w ≡ o → give_step s n w o ≡ Ok t
    → OneMore target (told_at stage.Template s) t n ws
give_told target s t n ws w None a b e = shape_told target s t n ws w _ a b refl e
give_told target s t n ws w (Some g) a b e =
    let p = unless (plain_fits (kind_at s.classes s.left) g) _ _ t e in
    rw (← ok_same _ _ _ _ refl refl p.1) (given_told target s n ws w g a (plain_word n w g b))

give_line_told : (target : List ℕ) (s t : State) (n : ℕ) (ws : List (List ℕ)) (o : Option (List ℕ)) → give_form ws ≡ o → give_line s n o ≡ Ok t → OneMore target (told_at stage.Template s) t n ws
give_line_told target s t n ws None v e = absurd (err_ok _ _ e)
give_line_told target s t n ws (Some w) v e = give_told target s t n ws w _ (give_line_is ws w v) refl e

do_line_told : (target : List ℕ) (s t : State) (n : ℕ) (ws : List (List ℕ)) (o : Option (List (List ℕ))) → do_form ws ≡ o → s.stage ≡ stage.Template → do_line s n o ws ≡ Ok t
    → OneMore target (told_at stage.Template s) t n ws
do_line_told target s t n ws None v g e = give_line_told target s t n ws _ refl e
do_line_told target s t n ws (Some rest) v g e = do_told target s t n ws rest _ (do_line_is ws rest v) refl g e

if_line_told : (target : List ℕ) (s t : State) (n : ℕ) (ws : List (List ℕ)) (o : Option Restriction) → if_form ws ≡ o → s.stage ≡ stage.Template → if_line s n o ws ≡ Ok t
    → OneMore target (told_at stage.Template s) t n ws
if_line_told target s t n ws None v g e = do_line_told target s t n ws _ refl g e
if_line_told target s t n ws (Some r) v g e = if_told target s t n ws r v g e

step_told : (target : List ℕ) (g : Stage) (s t : State) (n : ℕ) (ws : List (List ℕ)) (xs : List ExpandedLine) (z : Bool) → s.stage ≡ g → StageFact g s xs
    → step_at target g s n ws z ≡ Ok t → OneMore target (told_at g s) t n ws
step_told target stage.Version s t n ws xs z g f e =
    let a = unless (is_version ws) _ _ t e in
    rw (← ok_same _ _ _ _ refl refl a.1) (record { form = Version; says = a.0; more = refl })
step_told target stage.Target s t n ws xs z g f e =
    let a = unless (is_target target ws) _ _ t e in
    rw (← ok_same _ _ _ _ refl refl a.1) (record { form = Target; says = both_words ws _ _ a.0; more = refl })
step_told target stage.Pool s t n ws xs z g f e = pool_told target s t n ws _ refl f e
step_told target stage.Classes s t n ws xs z g f e = class_line_told target s t n ws _ refl f g e
step_told target stage.Spills s t n ws xs z g f e = spill_line_told target s t n ws _ refl f.rules e
step_told target stage.Rules s t n ws xs z g f e = rule_told target s t n ws z _ refl e
step_told target stage.Template s t n ws xs z g f e = if_line_told target s t n ws _ refl g e

-- the lines that are left say the rest
record TheRest (target : List ℕ) (before : List Form) (xs : List (ℕ × List (List ℕ))) (d : Content) : Type 0 where
  forms : List Form
  tell : Tell target xs forms
  whole : before ++ forms ≡ telling d
  valid : IsValid d

neither : (b : Bool) (x y : ℕ × DescKind) (d : Content) → cond b (Err x) (Err y) ≡ Ok d → ⊥
neither true x y d e = err_ok x d e
neither false x y d e = err_ok y d e

end_told : (target : List ℕ) (g : Stage) (n : ℕ) (s : State) (d : Content) → s.stage ≡ g → IsFine s [] → ended_at g n s ≡ Ok d → TheRest target (told_at g s) [] d
end_told target stage.Classes n s d g h e = absurd (neither (has_stmt s.classes) _ _ d e)
end_told target stage.Spills n s d g h e = absurd (neither (nat_le (length s.spills) 6) _ _ d e)
end_told target stage.Rules n s d g h e = at (nat_le 1 (length s.rules)) refl e
  where
    at : (b : Bool) → nat_le 1 (length s.rules) ≡ b → cond {A = Result Content (ℕ × DescKind)} b (Ok (content_of s)) (Err (n, kinds.MissingRule)) ≡ Ok d → TheRest target (told_at stage.Rules s) [] d
    at true f e = rw (← ok_same _ _ _ _ refl refl e) (record { forms = []; tell = tt; whole = append-nil (telling (content_of s)); valid = is_valid s g (leb-true 1 (length s.rules) f) h })
    at false f e = absurd (err_ok _ _ e)
end_told target _ n s d g h e = absurd (err_ok _ _ e)

from_told : (target : List ℕ) (n : ℕ) (s : State) (ls : List ExpandedLine) (d : Content) → IsFine s ls → read_from target None n s ls ≡ Ok d → TheRest target (told_at s.stage s) (not_skipped ls) d
from_told target n s [] d h e = end_told target s.stage n s d refl h e
from_told target n s (l ∷ ls) d h e = at (is_skipped (words l.bytes)) refl e (λ t k f. from_told target n t ls d k f)
  where
    longer : (t : State) → OneMore target (told_at s.stage s) t l.from (words l.bytes) → TheRest target (told_at t.stage t) (not_skipped ls) d
        → TheRest target (told_at s.stage s) ((l.from, words l.bytes) ∷ not_skipped ls) d
    longer t o r = record {
      forms = o.form ∷ r.forms;
      tell = (o.says, r.tell);
      whole = sym (append_assoc (told_at s.stage s) (o.form ∷ []) r.forms)
          ∙ ap (λ (x : List Form). x ++ r.forms) (sym o.more) ∙ r.whole;
      valid = r.valid;
    }

    took : (r : Result State DescKind) → ((t : State) → r ≡ Ok t → IsFine t ls) → ((t : State) → r ≡ Ok t → OneMore target (told_at s.stage s) t l.from (words l.bytes))
        → ((t : State) → IsFine t ls → read_from target None n t ls ≡ Ok d → TheRest target (told_at t.stage t) (not_skipped ls) d)
        → taken l.from r (λ (t : State). read_from target None n t ls) ≡ Ok d
        → TheRest target (told_at s.stage s) ((l.from, words l.bytes) ∷ not_skipped ls) d
    took (Err x) fine told go e = absurd (err_ok _ _ e)
    took (Ok t) fine told go e = longer t (told t refl) (go t (fine t refl) e)

    at : (b : Bool) → is_skipped (words l.bytes) ≡ b
        → taken l.from (cond b (Ok s) (step_at target s.stage s l.from (words l.bytes) (register_behind ls))) (λ (t : State). read_from target None n t ls) ≡ Ok d
        → ((t : State) → IsFine t ls → read_from target None n t ls ≡ Ok d → TheRest target (told_at t.stage t) (not_skipped ls) d)
        → TheRest target (told_at s.stage s) (cond b (not_skipped ls) ((l.from, words l.bytes) ∷ not_skipped ls)) d
    at true f e go = go s (skip_kept s l ls f h) e
    at false f e go = took _ (λ t g. line_kept target s t l ls l.from h (rw f g)) (λ t g. step_told target s.stage s t l.from (words l.bytes) (l ∷ ls) (register_behind ls) refl h.stage g) go e

-- nothing is read where an `each` line is bad
none_bad : (target : List ℕ) (bad : Option ℕ) (n : ℕ) (s : State) (ls : List ExpandedLine) (d : Content) → read_from target bad n s ls ≡ Ok d → bad ≡ None
none_bad target None n s ls d e = refl
none_bad target (Some b) n s [] d e = absurd (err_ok _ _ e)
none_bad target (Some b) n s (l ∷ ls) d e = at (line_step target s l.from (words l.bytes) (register_behind ls)) e (λ t f. none_bad target (Some b) n t ls d f)
  where
    at : (r : Result State DescKind) → taken l.from r (λ (t : State). read_from target (Some b) n t ls) ≡ Ok d
        → ((t : State) → read_from target (Some b) n t ls ≡ Ok d → Some b ≡ None) → Some b ≡ None
    at (Err x) e go = absurd (err_ok _ _ e)
    at (Ok t) e go = go t e

pub desc_read : (target : List ℕ) (bytes : List ℕ) (d : Content) → read_for target bytes ≡ Ok d → DescFor target bytes d
desc_read target bytes d e =
    let ls = (expand bytes).lines in
    let good : (expand bytes).bad ≡ None = none_bad target (expand bytes).bad _ start ls d e in
    let r = from_told target (line_behind bytes) start ls d (begins [] [] [] [] [] [] ls refl refl refl) (ap (λ (b : Option ℕ). read_from target b (line_behind bytes) start ls) (sym good) ∙ e) in
    let P : List Form → Type 0 = Tell target (not_skipped ls) in
    record { valid = r.valid; good = good; text = subst P r.whole r.tell }

pub found : (target : List ℕ) (r : Result Content DescFault) (bytes : List ℕ) → Answers r (read_for target bytes) → IfOk r (λ d. DescFor target bytes d)
found target (Ok d) bytes e = desc_read target bytes d e
found target (Err x) bytes e = tt
