-- What is read breaks no row.
use Rattle.std.proofs.Common.{◌≢◌, ◌≡◌, ℕ, suc, ◌+◌, ◌≤◌, Bool, true, false, cond, eqb, List, [], ◌∷◌, ◌++◌, length, Option, Some, None, Result, Ok, Err, nat_le, refl, sym, ap}
use Rattle.std.proofs.Common.{subst, ◌∙◌, arith, length-append}
use Rattle.std.specs.Prelude.{codes}
use Rattle.std.specs.Result.{OnOk}
use Rattle.std.specs.Option.{option_map}
use Rattle.std.proofs.lemmas.Option.{none-some, same_Some, option_and_then_some}
use Rattle.std.proofs.lemmas.Bool.{eqb-true, eqb-false, leb-true, leb-false, false≢true}
use Rattle.gg_base.proofs.Facts.{err_ok}
use Rattle.md_reader_text.specs.Words.{same, words}
use Rattle.md_reader_pieces.specs.declared.piece.Piece.{Piece}
use Rattle.md_reader_pieces.specs.declared.piece.Line.{Line}
use Rattle.md_reader_pieces.specs.Pieces.{text_of, pieces}
use Rattle.tree_core.specs.declared.token.Sort.{Sort}
use Rattle.md_reader.specs.declared.types.Kind.{Kind}
use Rattle.md_reader.specs.declared.types.Class.{Class}
use Rattle.md_reader.specs.declared.types.Sym.{Sym}
use Rattle.md_reader.specs.declared.types.Sym.TheVariants as grammar_symbol
use Rattle.md_reader.specs.declared.types.Restriction.{Restriction}
use Rattle.md_reader.specs.declared.types.Give.{Give}
use Rattle.md_reader.specs.declared.types.Give.TheVariants as give
use Rattle.md_reader.specs.declared.types.Rule.{Rule}
use Rattle.md_reader.specs.declared.faults.LineFault.{LineFault}
use Rattle.md_reader.specs.declared.forms.Saved.{Saved}
use Rattle.md_reader.specs.declared.reading.Stage.{Stage}
use Rattle.md_reader.specs.declared.reading.Stage.TheVariants as stage
use Rattle.md_reader.specs.Patterns.{kind_at, sort_of_symbol, sorted_test, walk, count}
use Rattle.md_reader.specs.Symbols.{class_from, class_of, symbols_of}
use Rattle.md_types.specs.declared.types.ExpandedLine.{ExpandedLine}
use Rattle.md_types.specs.Forms.{is_skipped}
use Rattle.md_reader.specs.Forms.{is_version, is_target, is_name, pool_form, class_form, spill_form, saved_number}
use Rattle.md_reader.specs.RuleForms.{rule_form, if_form, do_form, give_form, plain_give, has_register, is_passed}
use Rattle.md_reader.specs.RuleForms.{register_behind}
use Rattle.md_reader.specs.Restrictions.{restriction_fits}
use Rattle.md_reader.specs.Rows.{line_fits, pieces_fit, shape_fits, plain_fits, is_bare}
use Rattle.md_reader.specs.State.{State}
use Rattle.md_reader.specs.HeadSteps.{line_at, has_stmt, pool_step, new_class, spill_pieces, spill_text, spill_line}
use Rattle.md_reader.specs.HeadSteps.{class_line}
use Rattle.md_reader.specs.RuleSteps.{sort_step, right_step, left_step, rule_line, if_step, do_pieces, do_text}
use Rattle.md_reader.specs.RuleSteps.{ended_rule, shape_step, give_step, give_line, do_line, if_line}
use Rattle.md_reader.specs.Steps.{step_at, line_step}
use Rattle.md_reader.specs.View.{Stepped}
use Rattle.md_reader.specs.Valid.{Away, Apart, IsNamed, IsPool, IsSpill, AreSides, MayRestrict, MayWrite, IsTemplate, MayGive, IsRule, IsValid}
use Rattle.md_reader.specs.Fine.{IsBlank, IsDeclaring, IsWhole, IsInRule, StageFact, IsFine}
use Rattle.md_reader.proofs.PatternLaws.{tree_exactly, sorted_there}
use Rattle.md_reader.proofs.Inversion.{when, unless, ok_same, same_refl, All-push}
use Rattle.md_reader.proofs.FormLaws.{class_line_is, if_line_is, do_line_is, give_line_is, pool_is}

away : (i : ℕ) (cs : List Class) (w : List ℕ) → class_from i cs w ≡ None → Away w cs
away i [] w e = tt
away i (c ∷ cs) w e = step (same c.name w) refl e (away (i + 1) cs w)
  where
    step : (b : Bool) → same c.name w ≡ b → cond b (Some i) (class_from (i + 1) cs w) ≡ None → (class_from (i + 1) cs w ≡ None → Away w cs) → Away w (c ∷ cs)
    step true f e k = absurd (none-some i (sym e))
    step false f e k = ((λ g. false≢true (sym f ∙ ap (λ (x : List ℕ). same x w) g ∙ same_refl w)), k e)

Apart-push : (cs : List Class) (c : Class) → Apart cs → Away c.name cs → Apart (cs ++ c ∷ [])
Apart-push [] c h a = (tt, tt)
Apart-push (b ∷ cs) c h a = (Away-push b.name cs c h.0 a.0, Apart-push cs c h.1 a.1)
  where
    Away-push : (n : List ℕ) (cs : List Class) (c : Class) → Away n cs → (n ≡ c.name → ⊥) → Away n (cs ++ c ∷ [])
    Away-push n [] c h a = ((λ e. a (sym e)), tt)
    Away-push n (b ∷ cs) c h a = (h.0, Away-push n cs c h.1 a)

-- a class that is not declared yet
class_kept : (s t : State) (xs ls : List ExpandedLine) (name : List ℕ) (k : Kind) (o : Option ℕ) → is_name name ≡ true → IsDeclaring s → s.stage ≡ stage.Classes → IsFine s xs
    → nat_le 64 (length s.classes) ≡ false → class_of s.classes name ≡ o → new_class s name k o ≡ Ok t → IsFine t ls
class_kept s t xs ls name k (Some i) n d g h le f e = absurd (err_ok _ _ e)
class_kept s t xs ls name k None n d g h le f e =
    let c : Class = record { name = name; kind = k } in
    let lt = leb-false 64 (length s.classes) le in
    let len = length-append s.classes (c ∷ []) in
    rw (← ok_same _ _ _ _ refl refl e) (record {
      classes = record {
        few = omega (arith, len, lt);
        apart = Apart-push s.classes c h.classes.apart (away 0 s.classes name f);
        named = All-push IsNamed s.classes c h.classes.named n;
      };
      spills = h.spills;
      few = h.few;
      rules = rw d.rules tt;
      stage = rw g (record { pool = d.pool; spills = d.spills; rules = d.rules });
    })

-- one of the eight lines; what holds before it
record MaySave (s : State) : Type 0 where
  pool : IsPool s.pool
  few : length s.spills ≤ 7
  rules : s.rules ≡ []

saved_kept : (s t : State) (xs ls : List ExpandedLine) (n : ℕ) (ps : List Piece) → MaySave s → has_stmt s.classes ≡ true → IsFine s xs → spill_pieces s n (Some ps) ≡ Ok t → IsFine t ls
saved_kept s t xs ls n ps m st h e =
    let a = unless (line_fits true (grammar_symbol.Class 0 ∷ []) ps) _ _ t e in
    rw (← ok_same _ _ _ _ refl refl a.1) (record {
      classes = h.classes;
      spills = All-push IsSpill s.spills (line_at n ps) h.spills a.0;
      few = h.few;
      rules = rw m.rules tt;
      stage = at (eqb (length s.spills) 7) refl;
    })
  where
    at : (b : Bool) → eqb (length s.spills) 7 ≡ b → StageFact (cond b stage.Rules stage.Spills) (record s { stage = cond b stage.Rules stage.Spills; spills = s.spills ++ line_at n ps ∷ [] }) ls
    at true f = let l = length-append s.spills (line_at n ps ∷ []) in let k = eqb-true (length s.spills) 7 f in record { pool = m.pool; stmt = st; eight = omega (arith, l, k) }
    at false f =
        let l = length-append s.spills (line_at n ps ∷ []) in
        let ne : length s.spills ≢ 7 = eqb-false (length s.spills) 7 f in
        let k : length s.spills ≤ 6 = omega (arith, m.few, ne) in
        record { pool = m.pool; stmt = st; some = omega (arith, l); few = omega (arith, l, k); rules = m.rules }

spill_pieces_kept : (s t : State) (xs ls : List ExpandedLine) (n : ℕ) (o : Option (List Piece)) → MaySave s → has_stmt s.classes ≡ true → IsFine s xs → spill_pieces s n o ≡ Ok t → IsFine t ls
spill_pieces_kept s t xs ls n None m st h e = absurd (err_ok _ _ e)
spill_pieces_kept s t xs ls n (Some ps) m st h e = saved_kept s t xs ls n ps m st h e

spill_text_kept : (s t : State) (xs ls : List ExpandedLine) (n : ℕ) (o : Option (List ℕ)) → MaySave s → has_stmt s.classes ≡ true → IsFine s xs → spill_text s n o ≡ Ok t → IsFine t ls
spill_text_kept s t xs ls n None m st h e = absurd (err_ok _ _ e)
spill_text_kept s t xs ls n (Some w) m st h e = spill_pieces_kept s t xs ls n (pieces w) m st h e

spill_kept : (s t : State) (xs ls : List ExpandedLine) (n : ℕ) (o : Option (Saved × List (List ℕ))) → MaySave s → IsFine s xs → spill_line s n o ≡ Ok t → IsFine t ls
spill_kept s t xs ls n None m h e = absurd (err_ok _ _ e)
spill_kept s t xs ls n (Some x) m h e =
    let a = unless (eqb (saved_number x.0) (length s.spills)) _ _ t e in
    let b = unless (has_stmt s.classes) _ _ t a.1 in
    spill_text_kept s t xs ls n (text_of x.1) m b.0 h b.1

declaring_saves : (s : State) → IsDeclaring s → MaySave s
declaring_saves s d = record { pool = d.pool; few = let l = ap (λ (x : List Line). length x) d.spills in omega (arith, l); rules = d.rules }

class_line_kept : (s t : State) (xs ls : List ExpandedLine) (n : ℕ) (ws : List (List ℕ)) (o : Option (List ℕ × Kind)) → class_form ws ≡ o → IsDeclaring s → s.stage ≡ stage.Classes
    → IsFine s xs → class_line s n o ws ≡ Ok t → IsFine t ls
class_line_kept s t xs ls n ws None f d g h e = spill_kept s t xs ls n (spill_form ws) (declaring_saves s d) h e
class_line_kept s t xs ls n ws (Some x) f d g h e =
    let a = when (nat_le 64 (length s.classes)) _ _ t e in
    class_kept s t xs ls x.0 x.1 _ (class_line_is ws x f).named d g h a.0 refl a.1

-- a rule's head
as_many : (classes : List Class) (ws : List (List ℕ)) (right : List Sym) → symbols_of classes ws ≡ Some right → length right ≡ length ws
as_many classes [] right e = ap (λ (x : List Sym). length x) (sym (same_Some [] right e))
as_many classes (w ∷ ws) right e =
    option_and_then_some _ _ _ e (λ s es more. one_more s (symbols_of classes ws) right more (as_many classes ws))
  where
    one_more : (s : Sym) (o : Option (List Sym)) (right : List Sym) → option_map (λ (ss : List Sym). s ∷ ss) o ≡ Some right → ((r : List Sym) → o ≡ Some r → length r ≡ length ws)
        → length right ≡ suc (length ws)
    one_more s None right e k = absurd (none-some right e)
    one_more s (Some ss) right e k = rw (← same_Some (s ∷ ss) right e) (ap suc (k ss refl))

sides_kept : (s t : State) (xs ls : List ExpandedLine) (left : ℕ) (right : List Sym) (o : Option Sort) → sort_of_symbol s.classes (grammar_symbol.Class left) ≡ o → length right ≤ 16 → count 1 right
    ≡ true → length s.rules ≤ 999 → IsWhole s → IsFine s xs → sort_step s left right (register_behind ls) o ≡ Ok t → IsFine t ls
sides_kept s t xs ls left right None f le c few w h e = absurd (err_ok _ _ e)
sides_kept s t xs ls left right (Some sort) f le c few w h e =
    let a = when (is_bare s.classes right) _ _ t e in
    let b = unless (walk (sorted_test s.classes) (sort ∷ []) right) _ _ t a.1 in
    let sides : AreSides s.classes left right = record {
      sort = sort;
      declared = f;
      short = le;
      tree = (tree_exactly right (count 1 right) refl).0 c;
      sorted = sorted_there s.classes sort right _ refl b.0;
      not_bare = a.0;
    } in
    rw (← ok_same _ _ _ _ refl refl b.1) (record {
      classes = h.classes;
      spills = h.spills;
      few = h.few;
      rules = h.rules;
      stage = record {
        whole = record { pool = w.pool; stmt = w.stmt; eight = w.eight };
        few = few;
        sides = sides;
        template = record { few_restrictions = omega arith; restricted = tt; few_lines = omega arith; written = tt };
        register = refl;
      };
    })

right_kept : (s t : State) (xs ls : List ExpandedLine) (left : ℕ) (ws : List (List ℕ)) (o : Option (List Sym)) → symbols_of s.classes ws ≡ o → length ws ≤ 16 → length s.rules ≤ 999 → IsWhole s
    → IsFine s xs → right_step s left (register_behind ls) o ≡ Ok t → IsFine t ls
right_kept s t xs ls left ws None f le few w h e = absurd (err_ok _ _ e)
right_kept s t xs ls left ws (Some right) f le few w h e =
    let a = unless (count 1 right) _ _ t e in
    sides_kept s t xs ls left right _ refl (rw (as_many s.classes ws right f) le) a.0 few w h a.1

left_kept : (s t : State) (xs ls : List ExpandedLine) (ws : List (List ℕ)) (o : Option ℕ) → length ws ≤ 16 → length s.rules ≤ 999 → IsWhole s → IsFine s xs
    → left_step s (register_behind ls) ws o ≡ Ok t → IsFine t ls
left_kept s t xs ls ws None le few w h e = absurd (err_ok _ _ e)
left_kept s t xs ls ws (Some left) le few w h e = right_kept s t xs ls left ws _ refl le few w h e

rule_kept : (s t : State) (xs ls : List ExpandedLine) (o : Option (List ℕ × List (List ℕ))) → IsWhole s → IsFine s xs → rule_line s (register_behind ls) o ≡ Ok t → IsFine t ls
rule_kept s t xs ls None w h e = absurd (err_ok _ _ e)
rule_kept s t xs ls (Some x) w h e =
    let a = when (nat_le 1000 (length s.rules)) _ _ t e in
    let b = unless (nat_le (length x.1) 16) _ _ t a.1 in
    left_kept s t xs ls x.1 _ (leb-true _ _ b.0) (let k = leb-false 1000 (length s.rules) a.0 in omega (arith, k)) w h b.1

-- the other lines of a rule
passed_behind : (l : ExpandedLine) (ls : List ExpandedLine) → is_passed (words l.bytes) ≡ true → register_behind (l ∷ ls) ≡ register_behind ls
passed_behind l ls e = rw e refl

if_kept : (s t : State) (l : ExpandedLine) (ls : List ExpandedLine) (r : Restriction) → is_passed (words l.bytes) ≡ true → IsInRule s (l ∷ ls) → s.stage ≡ stage.Template → IsFine s (l ∷ ls)
    → if_step s r ≡ Ok t → IsFine t ls
if_kept s t l ls r p f g h e =
    let a = unless (eqb (length s.lines) 0) _ _ t e in
    let b = when (nat_le 4 (length s.restrictions)) _ _ t a.1 in
    let c = unless (restriction_fits s.classes s.right r) _ _ t b.1 in
    let lt = leb-false 4 (length s.restrictions) b.0 in
    let len = length-append s.restrictions (r ∷ []) in
    rw (← ok_same _ _ _ _ refl refl c.1) (record {
      classes = h.classes;
      spills = h.spills;
      few = h.few;
      rules = h.rules;
      stage = rw g (record {
        whole = record { pool = f.whole.pool; stmt = f.whole.stmt; eight = f.whole.eight };
        few = f.few;
        sides = f.sides;
        template = record {
          few_restrictions = omega (arith, lt, len);
          restricted = All-push (MayRestrict s.classes s.right) s.restrictions r f.template.restricted c.0;
          few_lines = f.template.few_lines;
          written = f.template.written;
        };
        register = f.register ∙ passed_behind l ls p;
      });
    })

do_pieces_kept : (s t : State) (l : ExpandedLine) (ls : List ExpandedLine) (n : ℕ) (o : Option (List Piece)) → nat_le 8 (length s.lines) ≡ false → is_passed (words l.bytes) ≡ true
    → IsInRule s (l ∷ ls) → s.stage ≡ stage.Template → IsFine s (l ∷ ls) → do_pieces s n o ≡ Ok t → IsFine t ls
do_pieces_kept s t l ls n None le p f g h e = absurd (err_ok _ _ e)
do_pieces_kept s t l ls n (Some ps) le p f g h e =
    let a = unless (line_fits s.register s.right ps) _ _ t e in
    let lt = leb-false 8 (length s.lines) le in
    let len = length-append s.lines (line_at n ps ∷ []) in
    rw (← ok_same _ _ _ _ refl refl a.1) (record {
      classes = h.classes;
      spills = h.spills;
      few = h.few;
      rules = h.rules;
      stage = rw g (record {
        whole = record { pool = f.whole.pool; stmt = f.whole.stmt; eight = f.whole.eight };
        few = f.few;
        sides = f.sides;
        template = record {
          few_restrictions = f.template.few_restrictions;
          restricted = f.template.restricted;
          few_lines = omega (arith, lt, len);
          written = All-push (MayWrite s.register s.right) s.lines (line_at n ps) f.template.written a.0;
        };
        register = f.register ∙ passed_behind l ls p;
      });
    })

do_kept : (s t : State) (l : ExpandedLine) (ls : List ExpandedLine) (n : ℕ) (o : Option (List ℕ)) → is_passed (words l.bytes) ≡ true → IsInRule s (l ∷ ls) → s.stage ≡ stage.Template
    → IsFine s (l ∷ ls) → do_text s n o ≡ Ok t → IsFine t ls
do_kept s t l ls n None p f g h e = absurd (err_ok _ _ e)
do_kept s t l ls n (Some w) p f g h e =
    let a = when (nat_le 8 (length s.lines)) _ _ t e in
    do_pieces_kept s t l ls n (pieces w) a.0 p f g h a.1

may_give : (classes : List Class) (left : ℕ) (right : List Sym) (g : Give) → plain_fits (kind_at classes left) g ≡ true → MayGive classes left right g
may_give classes left right give.Fresh e = e
may_give classes left right give.Reuse e = e
may_give classes left right give.Scratch e = e
may_give classes left right give.Nothing e = e
may_give classes left right (give.Shape l) e = absurd (false≢true e)

given_kept : (s : State) (xs ls : List ExpandedLine) (g : Give) → MayGive s.classes s.left s.right g → s.register ≡ has_register (Some g) → IsInRule s xs → IsFine s xs → IsFine (ended_rule s g) ls
given_kept s xs ls g m q f h =
    let P : Bool → Type 0 = λ b. IsTemplate s.classes s.right b s.restrictions s.lines in
    let r : Rule = record { left = s.left; right = s.right; restrictions = s.restrictions; lines = s.lines; give = g } in
    let len = length-append s.rules (r ∷ []) in
    let k = f.few in
    record {
      classes = h.classes;
      spills = h.spills;
      few = omega (arith, len, k);
      rules = All-push (IsRule s.classes) s.rules r h.rules (record { sides = f.sides; template = subst P q f.template; gives = m });
      stage = record { pool = f.whole.pool; stmt = f.whole.stmt; eight = f.whole.eight };
    }

-- a `give` line says whether the rule has a register
register_given : (l : ExpandedLine) (ls : List ExpandedLine) (w : List ℕ) → give_form (words l.bytes) ≡ Some w → register_behind (l ∷ ls) ≡ has_register (plain_give w)
register_given l ls w e = rw (not_passed (words l.bytes) w (give_line_is (words l.bytes) w e), e) refl
  where
    not_passed : (ws : List (List ℕ)) (w : List ℕ) → ws ≡ codes "give" ∷ w ∷ [] → is_passed ws ≡ false
    not_passed ws w f = rw f refl

shape_kept : (s t : State) (xs ls : List ExpandedLine) (n : ℕ) (o : Option (List Piece)) → s.register ≡ false → IsInRule s xs → IsFine s xs → shape_step s n o ≡ Ok t → IsFine t ls
shape_kept s t xs ls n None q f h e = absurd (err_ok _ _ e)
shape_kept s t xs ls n (Some ps) q f h e =
    let a = unless (pieces_fit false s.right ps) _ _ t e in
    let b = unless (shape_fits s.classes s.right (kind_at s.classes s.left) ps) _ _ t a.1 in
    rw (← ok_same _ _ _ _ refl refl b.1) (given_kept s xs ls (give.Shape (line_at n ps)) (a.0, b.0) q f h)

give_kept : (s t : State) (l : ExpandedLine) (ls : List ExpandedLine) (n : ℕ) (w : List ℕ) (o : Option Give) → plain_give w ≡ o → give_form (words l.bytes) ≡ Some w → IsInRule s (l ∷ ls)
    → IsFine s (l ∷ ls) → give_step s n w o ≡ Ok t → IsFine t ls
give_kept s t l ls n w None k v f h e =
    shape_kept s t (l ∷ ls) ls n (pieces w) (f.register ∙ register_given l ls w v ∙ ap has_register k) f h e
give_kept s t l ls n w (Some g) k v f h e =
    let a = unless (plain_fits (kind_at s.classes s.left) g) _ _ t e in
    rw (← ok_same _ _ _ _ refl refl a.1) (given_kept s (l ∷ ls) ls g (may_give s.classes s.left s.right g a.0) (f.register ∙ register_given l ls w v ∙ ap has_register k) f h)

give_line_kept : (s t : State) (l : ExpandedLine) (ls : List ExpandedLine) (n : ℕ) (o : Option (List ℕ)) → give_form (words l.bytes) ≡ o → IsInRule s (l ∷ ls) → IsFine s (l ∷ ls)
    → give_line s n o ≡ Ok t → IsFine t ls
give_line_kept s t l ls n None v f h e = absurd (err_ok _ _ e)
give_line_kept s t l ls n (Some w) v f h e = give_kept s t l ls n w _ refl v f h e

do_passed : (ws rest : List (List ℕ)) → do_form ws ≡ Some rest → is_passed ws ≡ true
do_passed ws rest e = rw (do_line_is ws rest e) refl

if_passed : (ws : List (List ℕ)) (r : Restriction) → if_form ws ≡ Some r → is_passed ws ≡ true
if_passed ws r e = let k = if_line_is ws r e in rw k.stands refl

do_line_kept : (s t : State) (l : ExpandedLine) (ls : List ExpandedLine) (n : ℕ) (o : Option (List (List ℕ))) → do_form (words l.bytes) ≡ o → IsInRule s (l ∷ ls) → s.stage ≡ stage.Template
    → IsFine s (l ∷ ls) → do_line s n o (words l.bytes) ≡ Ok t → IsFine t ls
do_line_kept s t l ls n None v f g h e = give_line_kept s t l ls n _ refl f h e
do_line_kept s t l ls n (Some ws) v f g h e = do_kept s t l ls n (text_of ws) (do_passed (words l.bytes) ws v) f g h e

if_line_kept : (s t : State) (l : ExpandedLine) (ls : List ExpandedLine) (n : ℕ) (o : Option Restriction) → if_form (words l.bytes) ≡ o → IsInRule s (l ∷ ls) → s.stage ≡ stage.Template
    → IsFine s (l ∷ ls) → if_line s n o (words l.bytes) ≡ Ok t → IsFine t ls
if_line_kept s t l ls n None v f g h e = do_line_kept s t l ls n _ refl f g h e
if_line_kept s t l ls n (Some r) v f g h e = if_kept s t l ls r (if_passed (words l.bytes) r v) f g h e

blank_after : (s : State) (xs ls : List ExpandedLine) (g : Stage) → IsBlank s → IsFine s xs → StageFact g (record s { stage = g }) ls → IsFine (record s { stage = g }) ls
blank_after s xs ls g b h f = record { classes = h.classes; spills = h.spills; few = h.few; rules = h.rules; stage = f }

pool_kept : (s t : State) (xs ls : List ExpandedLine) (ws : List (List ℕ)) (o : Option ℕ) → pool_form ws ≡ o → IsBlank s → IsFine s xs → pool_step s o ≡ Ok t → IsFine t ls
pool_kept s t xs ls ws None v f h e = absurd (err_ok _ _ e)
pool_kept s t xs ls ws (Some m) v f h e =
    rw (← ok_same _ _ _ _ refl refl e) (record { classes = h.classes; spills = h.spills; few = h.few; rules = h.rules; stage = record { pool = pool_is ws m v; spills = f.spills; rules = f.rules } })

step_kept : (target : List ℕ) (g : Stage) (s t : State) (l : ExpandedLine) (ls : List ExpandedLine) (n : ℕ) → s.stage ≡ g → StageFact g s (l ∷ ls) → IsFine s (l ∷ ls)
    → step_at target g s n (words l.bytes) (register_behind ls) ≡ Ok t → IsFine t ls
step_kept target stage.Version s t l ls n g f h e =
    let a = unless (is_version (words l.bytes)) _ _ t e in
    rw (← ok_same _ _ _ _ refl refl a.1) (blank_after s (l ∷ ls) ls stage.Target f h (record { classes = f.classes; spills = f.spills; rules = f.rules }))
step_kept target stage.Target s t l ls n g f h e =
    let a = unless (is_target target (words l.bytes)) _ _ t e in
    rw (← ok_same _ _ _ _ refl refl a.1) (blank_after s (l ∷ ls) ls stage.Pool f h (record { classes = f.classes; spills = f.spills; rules = f.rules }))
step_kept target stage.Pool s t l ls n g f h e = pool_kept s t (l ∷ ls) ls (words l.bytes) _ refl f h e
step_kept target stage.Classes s t l ls n g f h e = class_line_kept s t (l ∷ ls) ls n (words l.bytes) _ refl f g h e
step_kept target stage.Spills s t l ls n g f h e = spill_kept s t (l ∷ ls) ls n (spill_form (words l.bytes)) (record { pool = f.pool; few = f.few; rules = f.rules }) h e
step_kept target stage.Rules s t l ls n g f h e = rule_kept s t (l ∷ ls) ls (rule_form (words l.bytes)) f h e
step_kept target stage.Template s t l ls n g f h e = if_line_kept s t l ls n _ refl f g h e

-- a line that says nothing
skipped_passed : (ws : List (List ℕ)) → is_skipped ws ≡ true → is_passed ws ≡ true
skipped_passed [] e = refl
skipped_passed (a ∷ ws) e = rw e refl

stage_after : (g : Stage) (s : State) (l : ExpandedLine) (ls : List ExpandedLine) → is_skipped (words l.bytes) ≡ true → StageFact g s (l ∷ ls) → StageFact g s ls
stage_after stage.Version s l ls e f = f
stage_after stage.Target s l ls e f = f
stage_after stage.Pool s l ls e f = f
stage_after stage.Classes s l ls e f = f
stage_after stage.Spills s l ls e f = f
stage_after stage.Rules s l ls e f = f
stage_after stage.Template s l ls e f = record { whole = f.whole; few = f.few; sides = f.sides; template = f.template; register = f.register ∙ passed_behind l ls (skipped_passed (words l.bytes) e) }

pub skip_kept : (s : State) (l : ExpandedLine) (ls : List ExpandedLine) → is_skipped (words l.bytes) ≡ true → IsFine s (l ∷ ls) → IsFine s ls
skip_kept s l ls e h = record { classes = h.classes; spills = h.spills; few = h.few; rules = h.rules; stage = stage_after s.stage s l ls e h.stage }

pub line_kept : (target : List ℕ) (s t : State) (l : ExpandedLine) (ls : List ExpandedLine) (n : ℕ) → IsFine s (l ∷ ls)
    → line_step target s n (words l.bytes) (register_behind ls) ≡ Ok t → IsFine t ls
line_kept target s t l ls n h e = at (is_skipped (words l.bytes)) refl e
  where
    at : (b : Bool) → is_skipped (words l.bytes) ≡ b → cond b (Ok s) (step_at target s.stage s n (words l.bytes) (register_behind ls)) ≡ Ok t → IsFine t ls
    at true f e = rw (← ok_same _ _ _ _ refl refl e) (skip_kept s l ls f h)
    at false f e = step_kept target s.stage s t l ls n refl h.stage h e

-- what is left at the end is valid
pub is_valid : (s : State) → s.stage ≡ stage.Rules → 1 ≤ length s.rules → IsFine s [] → IsValid (record { pool = s.pool; classes = s.classes; spills = s.spills; rules = s.rules })
is_valid s g some h =
    let P : Stage → Type 0 = λ x. StageFact x s [] in
    let w : IsWhole s = subst P g h.stage in
    record { pool = w.pool; classes = h.classes; stmt = w.stmt; eight = w.eight; spills = h.spills; some = some; few = h.few; rules = h.rules }

pub begins : (classes : List Class) (spills : List Line) (rules : List Rule) (right : List Sym) (restrictions : List Restriction) (written : List Line) (left : List ExpandedLine) → classes
    ≡ [] → spills ≡ [] → rules ≡ [] → IsFine (record {
      stage = stage.Version;
      pool = 0;
      classes = classes;
      spills = spills;
      rules = rules;
      left = 0;
      right = right;
      restrictions =
          restrictions;
      lines = written;
      register = false;
    }) left
begins classes spills rules right restrictions written left e f g = rw (e, f, g) (record {
  classes = record { few = omega arith; apart = tt; named = tt };
  spills = tt;
  few = omega arith;
  rules = tt;
  stage = record { classes = refl; spills = refl; rules = refl };
})

-- a line that is taken keeps what was read fine
pub line_fine : {X : Type 0} (target : List ℕ) (r : Result X LineFault) (s t : State) (l : ExpandedLine) (ls : List ExpandedLine) (n : ℕ)
    → Stepped r t (line_step target s n (words l.bytes) (register_behind ls))
    → OnOk r (IsFine s (l ∷ ls) → IsFine t ls)
line_fine target (Ok x) s t l ls n e = λ h. line_kept target s t l ls n h e
line_fine target (Err x) s t l ls n e = tt
