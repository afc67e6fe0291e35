-- What the lines say is read.
use Rattle.std.proofs.Common.{eq-eqb, nat_lt, ◌≡◌, ℕ, zero, suc, ◌+◌, ◌≤◌, ◌<◌, Bool, true, false, cond, eqb, List, [], ◌∷◌, ◌++◌, length, Option, Some, None, Result, Ok, Err}
use Rattle.std.proofs.Common.{nat_le, refl, sym, ap, ◌∙◌, arith, append_assoc, length-append}
use Rattle.std.specs.Prelude.{codes, map, slice_get}
use Rattle.std.specs.Char.{is_ascii_lowercase}
use Rattle.std.specs.Result.{IfOk, IfErr}
use Rattle.std.specs.List.{flat_map, AllByRecursion}
use Rattle.std.specs.Option.{option_map}
use Rattle.std.proofs.lemmas.Option.{none-some, slice_get_within}
use Rattle.std.proofs.lemmas.Bool.{ne_eqb, le-leb, lt-leb, leb-true, and_parts, false≢true}
use Rattle.std.proofs.lemmas.List.{append-nil, length-map}
use Rattle.md_reader_text.specs.Words.{same, words}
use Rattle.md_reader_pieces.specs.declared.piece.Line.{Line}
use Rattle.gg_base.specs.declared.size.Size.{Size}
use Rattle.gg_base.specs.declared.size.Size.TheVariants as sizes
use Rattle.gg_base.proofs.Facts.{err_ok}
use Rattle.tree_core.specs.declared.token.Tok.{Tok}
use Rattle.tree_core.specs.declared.token.Tok.TheVariants as tok
use Rattle.tree_core.specs.declared.token.Sort.{Sort}
use Rattle.tree_core.specs.Grammar.{sort_of}
use Rattle.tree_core.specs.Names.{name_of}
use Rattle.tree_core.specs.Trees.{sort_fits}
use Rattle.md_reader.specs.declared.types.Kind.{Kind}
use Rattle.md_reader.specs.declared.types.Kind.TheVariants as kind
use Rattle.md_reader.specs.declared.types.Class.{Class}
use Rattle.md_reader.specs.declared.types.Sym.{Sym}
use Rattle.md_reader.specs.declared.types.Sym.TheVariants as grammar_symbol
use Rattle.md_reader.specs.declared.types.Restriction.{Restriction}
use Rattle.md_reader.specs.declared.types.Give.{Give}
use Rattle.md_reader.specs.declared.types.Give.TheVariants as give
use Rattle.md_reader.specs.declared.types.Rule.{Rule}
use Rattle.md_reader.specs.declared.faults.DescFault.{DescFault}
use Rattle.md_reader.specs.declared.faults.DescFault.TheVariants as desc_fault
use Rattle.md_reader.specs.declared.forms.Saved.{Saved}
use Rattle.md_reader.specs.declared.forms.Saved.TheVariants as saved
use Rattle.md_reader.specs.declared.reading.Stage.{Stage}
use Rattle.md_reader.specs.declared.reading.Stage.TheVariants as stage
use Rattle.md_reader.specs.Patterns.{kids_of, sort_of_kind, sort_of_symbol, sorted_test, walk, count}
use Rattle.md_reader.specs.Symbols.{token_among, tree_tokens, token_of, class_from, class_of, symbol_of, symbols_of}
use Rattle.md_types.specs.declared.types.ExpandedLine.{ExpandedLine}
use Rattle.md_types.specs.Copies.{letter}
use Rattle.md_types.specs.Forms.{is_skipped}
use Rattle.md_types.specs.Expand.{expand}
use Rattle.md_reader.specs.Forms.{is_name, kind_form, class_form, spill_form, saved_number}
use Rattle.md_reader.specs.RuleForms.{rule_form, give_form, plain_give, has_register, gives_register, is_passed}
use Rattle.md_reader.specs.RuleForms.{register_behind}
use Rattle.md_reader.specs.State.{State, Content}
use Rattle.md_reader.specs.HeadSteps.{line_at, has_stmt, stage_behind, spill_line}
use Rattle.md_reader.specs.RuleSteps.{rule_step, ended_rule, give_line}
use Rattle.md_reader.specs.Steps.{step_at, step}
use Rattle.md_reader.specs.Reads.{start, content_of, taken, read_from, line_behind, read_for, Answers}
use Rattle.md_reader.specs.Valid.{Away, Apart, IsNamed, AreClasses, IsSpill, AreSides, MayRestrict, MayWrite, MayGive, IsRule, IsValid}
use Rattle.md_reader.specs.Telling.{Form, Version, Target, Pool, Declares, Saves, Head, Restricts, Writes, Gives, name_at, symbol_word, saving, ruling, telling}
use Rattle.md_reader.specs.Desc.{kind_words, saved_words, IsSaved, GiveWord, IsGive, Says, not_skipped, Tell, DescFor, RefusedFor}
use Rattle.md_reader.proofs.PatternLaws.{tree_exactly, sorted_back}
use Rattle.md_reader.proofs.Inversion.{ok_same, same_refl, not_same}

-- whatever lines say these forms, the content is read
Runs : (target : List ℕ) → State → List Form → Content → Type 0
Runs target s fs d = (n : ℕ) (ls : List ExpandedLine) → Tell target (not_skipped ls) fs → read_from target None n s ls ≡ Ok d

runs_nil : (target : List ℕ) (s : State) (d : Content) → s.stage ≡ stage.Rules → 1 ≤ length s.rules → content_of s ≡ d → Runs target s [] d
unfolding Runs
runs_nil target s d g some e = λ n ls c. go n ls c
  where
    go : (n : ℕ) (ls : List ExpandedLine) → Tell target (not_skipped ls) [] → read_from target None n s ls ≡ Ok d
    go n [] c = let k = le-leb 1 (length s.rules) some in rw (g, k, ← e) refl
    go n (l ∷ ls) c = at (is_skipped (words l.bytes)) c (go n ls)
      where
        at : (b : Bool) → Tell target (cond b (not_skipped ls) ((l.from, words l.bytes) ∷ not_skipped ls)) [] → (Tell target (not_skipped ls) [] → read_from target None n s ls ≡ Ok d)
            → taken l.from (cond b (Ok s) (step_at target s.stage s l.from (words l.bytes) (register_behind ls))) (λ (t : State). read_from target None n t ls) ≡ Ok d
        at true c k = k c
        at false c k = absurd c

-- what a line comes to that says this, in front of lines that say those
abbrev Steps : (target : List ℕ) → State → Form → List Form → State → Type 0
Steps target s f fs t = (n : ℕ) (ws : List (List ℕ)) (ls : List ExpandedLine) → Tell target (not_skipped ls) fs → Says target n ws f → step target s n ws (register_behind ls) ≡ Ok t

runs_cons : (target : List ℕ) (s t : State) (f : Form) (fs : List Form) (d : Content) → Steps target s f fs t → Runs target t fs d → Runs target s (f ∷ fs) d
unfolding Runs
runs_cons target s t f fs d e h = λ n ls c. go n ls c
  where
    go : (n : ℕ) (ls : List ExpandedLine) → Tell target (not_skipped ls) (f ∷ fs) → read_from target None n s ls ≡ Ok d
    go n [] c = absurd c
    go n (l ∷ ls) c = at (is_skipped (words l.bytes)) c (go n ls)
      where
        at : (b : Bool) → Tell target (cond b (not_skipped ls) ((l.from, words l.bytes) ∷ not_skipped ls)) (f ∷ fs) → (Tell target (not_skipped ls) (f ∷ fs) → read_from target None n s ls ≡ Ok d)
            → taken l.from (cond b (Ok s) (step_at target s.stage s l.from (words l.bytes) (register_behind ls))) (λ (t : State). read_from target None n t ls) ≡ Ok d
        at true c k = k c
        at false c k = rw (e l.from (words l.bytes) ls c.1 c.0) (h n ls c.1)

-- the words of classes
size_again : (z : Size) → kind_form (codes "Value" ∷ letter z ∷ []) ≡ Some (kind.Value z)
size_again sizes.Byte = refl
size_again sizes.Word = refl
size_again sizes.Long = refl

place_again : (z : Size) → kind_form (codes "Place" ∷ letter z ∷ []) ≡ Some (kind.Place z)
place_again sizes.Byte = refl
place_again sizes.Word = refl
place_again sizes.Long = refl

kind_again : (k : Kind) → kind_form (kind_words k) ≡ Some k
kind_again kind.Reg = refl
kind_again (kind.Value z) = size_again z
kind_again (kind.Place z) = place_again z
kind_again kind.Con = refl
kind_again kind.Ea = refl
kind_again kind.Nothing = refl

away_in : (w : List ℕ) (c : Class) (pre post : List Class) → Away w (pre ++ c ∷ post) → c.name ≡ w → ⊥
away_in w c [] post h = h.0
away_in w c (p ∷ pre) post h = away_in w c pre post h.1

not_found : (i : ℕ) (pre : List Class) (c : Class) (post : List Class) → Apart (pre ++ c ∷ post) → class_from i pre c.name ≡ None
not_found i [] c post h = refl
not_found i (p ∷ pre) c post h = rw (not_same p.name c.name (λ e. away_in p.name c pre post h.0 (sym e))) (not_found (i + 1) pre c post h.1)

All-mid : (pre : List Class) (c : Class) (post : List Class) → AllByRecursion IsNamed (pre ++ c ∷ post) → IsNamed c
All-mid [] c post h = h.0
All-mid (p ∷ pre) c post h = All-mid pre c post h.1

abbrev declaring : ℕ → List Class → State
declaring m cs = record { stage = stage.Classes; pool = m; classes = cs; spills = []; rules = []; left = 0; right = []; restrictions = []; lines = []; register = false }

class_again : (target : List ℕ) (m : ℕ) (pre : List Class) (c : Class) (post : List Class) (fs : List Form) → AreClasses (pre ++ c ∷ post)
    → Steps target (declaring m pre) (Declares c) fs (declaring m (pre ++ c ∷ []))
class_again target m pre c post fs h n ws ls r e =
    let a = All-mid pre c post h.named in
    let few = h.few in
    let b = lt-leb 64 (length pre) (omega (arith, few, length-append pre (c ∷ post))) in
    let f = not_found 0 pre c post h.apart in
    rw (e, a, kind_again c.kind, b, f) refl

classes_run : (target : List ℕ) (m : ℕ) (pre post : List Class) (fs : List Form) (d : Content) → AreClasses (pre ++ post) → Runs target (declaring m (pre ++ post)) fs d
    → Runs target (declaring m pre) (map Declares post ++ fs) d
classes_run target m pre [] fs d h runs = rw (append-nil pre) at runs
classes_run target m pre (c ∷ post) fs d h runs =
    let a = append_assoc pre (c ∷ []) post in
    runs_cons target (declaring m pre) (declaring m (pre ++ c ∷ [])) (Declares c) _ d (class_again target m pre c post _ h) (classes_run target m (pre ++ c ∷ []) post fs d (rw a h) (rw a runs))

-- the eight lines
spill_again : (x : Saved) (ws : List (List ℕ)) → spill_form (saved_words x ++ ws) ≡ Some (x, ws)
spill_again (saved.Value sizes.Byte) ws = refl
spill_again (saved.Value sizes.Word) ws = refl
spill_again (saved.Value sizes.Long) ws = refl
spill_again (saved.Place sizes.Byte) ws = refl
spill_again (saved.Place sizes.Word) ws = refl
spill_again (saved.Place sizes.Long) ws = refl
spill_again saved.Ea [] = refl
spill_again saved.Ea (w ∷ ws) = refl
spill_again saved.Reload ws = refl

no_class : (x : Saved) (ws : List (List ℕ)) → class_form (saved_words x ++ ws) ≡ None
no_class (saved.Value z) ws = refl
no_class (saved.Place z) ws = refl
no_class saved.Ea ws = refl
no_class saved.Reload [] = refl
no_class saved.Reload (w ∷ ws) = refl

-- the state behind some of the eight lines
abbrev saves : Stage → ℕ → List Class → List Line → State
saves g m cs ls = record { stage = g; pool = m; classes = cs; spills = ls; rules = []; left = 0; right = []; restrictions = []; lines = []; register = false }

line_again : (n : ℕ) (l : Line) → l.line ≡ n → line_at n l.pieces ≡ l
line_again n l e = ap (λ (x : ℕ). line_at x l.pieces) (sym e)

eqb_same : (a b : ℕ) → a ≡ b → eqb a b ≡ true
eqb_same a b e = eq-eqb a b e

instruction_again : (g : Stage) (m : ℕ) (cs : List Class) (pre : List Line) (l : Line) (n : ℕ) (ws : List (List ℕ)) → has_stmt cs ≡ true → IsSpill l → (i : IsSaved (length pre) n ws l)
    → spill_line (saves g m cs pre) n (spill_form ws) ≡ Ok (saves (stage_behind pre) m cs (pre ++ l ∷ []))
instruction_again g m cs pre l n ws st fit i =
    let k = i.instruction in
    let p = eqb_same (saved_number i.saved) (length pre) i.place in
    rw (k.stands, spill_again i.saved k.words, p, st, k.joined, k.pieces, fit, line_again n l k.number) refl

saved_again : (target : List ℕ) (m : ℕ) (cs : List Class) (pre : List Line) (l : Line) (fs : List Form) → has_stmt cs ≡ true → IsSpill l → 1 ≤ length pre
    → Steps target (saves stage.Spills m cs pre) (Saves (length pre) l) fs (saves (stage_behind pre) m cs (pre ++ l ∷ []))
saved_again target m cs pre l fs st fit some n ws ls r e = instruction_again stage.Spills m cs pre l n ws st fit e

first_again : (target : List ℕ) (m : ℕ) (cs : List Class) (l : Line) (fs : List Form) → has_stmt cs ≡ true → IsSpill l
    → Steps target (declaring m cs) (Saves 0 l) fs (saves stage.Spills m cs (l ∷ []))
first_again target m cs l fs st fit n ws ls r e =
    let k = e.instruction in
    rw (k.stands, no_class e.saved k.words) (instruction_again stage.Classes m cs [] l n (saved_words e.saved ++ k.words) st fit (rw k.stands at e))

saves_run : (target : List ℕ) (m : ℕ) (cs : List Class) (pre post : List Line) (fs : List Form) (d : Content) → has_stmt cs ≡ true → AllByRecursion IsSpill post → 1 ≤ length pre → 1 ≤ length post
    → length pre + length post ≡ 8 → Runs target (saves stage.Rules m cs (pre ++ post)) fs d → Runs target (saves stage.Spills m cs pre) (saving (length pre) post ++ fs) d
saves_run target m cs pre [] fs d st h some more eight runs = absurd (omega (arith, more))
saves_run target m cs pre (l ∷ []) fs d st h some more eight runs =
    let k : length pre ≡ 7 = omega (arith, eight) in
    let q : stage_behind pre ≡ stage.Rules = rw (eqb_same (length pre) 7 k) refl in
    runs_cons target (saves stage.Spills m cs pre) (saves (stage_behind pre) m cs (pre ++ l ∷ [])) (Saves (length pre) l) fs d (saved_again target m cs pre l fs st h.0 some) (rw q runs)
saves_run target m cs pre (l ∷ p ∷ post) fs d st h some more eight runs =
    let k = ne_eqb (length pre) 7 (λ e. absurd (omega (arith, eight, e))) in
    let q : stage_behind pre ≡ stage.Spills = rw k refl in
    let len = length-append pre (l ∷ []) in
    let z : length (pre ++ l ∷ []) ≡ length pre + 1 = omega (arith, len) in
    let a = append_assoc pre (l ∷ []) (p ∷ post) in
    let rest : Runs target (saves stage.Spills m cs (pre ++ l ∷ [])) (saving (length (pre ++ l ∷ [])) (p ∷ post) ++ fs) d =
    saves_run target m cs (pre ++ l ∷ []) (p ∷ post) fs d st h.1 (omega (arith, len)) (omega arith) (omega (arith, eight, len)) (rw a runs) in
    runs_cons target (saves stage.Spills m cs pre) (saves (stage_behind pre) m cs (pre ++ l ∷ [])) (Saves (length pre) l) _ d (saved_again target m cs pre l _ st h.0 some) (rw q (rw z at rest))

spills_run : (target : List ℕ) (m : ℕ) (cs : List Class) (spills : List Line) (fs : List Form) (d : Content) → has_stmt cs ≡ true → AllByRecursion IsSpill spills → length spills ≡ 8
    → Runs target (saves stage.Rules m cs spills) fs d → Runs target (declaring m cs) (saving 0 spills ++ fs) d
spills_run target m cs [] fs d st h eight runs = absurd (omega (arith, eight))
spills_run target m cs (l ∷ ls) fs d st h eight runs =
    runs_cons target (declaring m cs) (saves stage.Spills m cs (l ∷ [])) (Saves 0 l) _ d (first_again target m cs l _ st h.0)
    (saves_run target m cs (l ∷ []) ls fs d st h.1 (omega arith) (omega (arith, eight)) (omega (arith, eight)) runs)

-- the words of a rule's head
starts_capital : List ℕ → Bool
starts_capital [] = false
starts_capital (b ∷ bs) = nat_lt b 97

capital : (t : Tok) → starts_capital (name_of t) ≡ true
unfolding starts_capital
capital tok.Zero = refl
capital tok.One = refl
capital tok.Two = refl
capital tok.Four = refl
capital tok.Eight = refl
capital tok.Const = refl
capital tok.Gaddr = refl
capital tok.Loc = refl
capital tok.Arg = refl
capital tok.IndirB = refl
capital tok.IndirW = refl
capital tok.IndirL = refl
capital tok.Plus = refl
capital tok.Minus = refl
capital tok.Mul = refl
capital tok.Div = refl
capital tok.Mod = refl
capital tok.And = refl
capital tok.Or = refl
capital tok.Xor = refl
capital tok.Lsh = refl
capital tok.Rsh = refl
capital tok.Neg = refl
capital tok.Com = refl
capital tok.Sxb = refl
capital tok.Zxb = refl
capital tok.Sxw = refl
capital tok.Zxw = refl
capital tok.Ncb = refl
capital tok.Ncw = refl
capital tok.AssignB = refl
capital tok.AssignW = refl
capital tok.AssignL = refl
capital tok.Cbr = refl
capital tok.Push = refl
capital tok.Ret = refl
capital tok.Call = refl
capital tok.Save = refl
capital tok.Jump = refl
capital tok.End = refl

small : (w : List ℕ) → is_name w ≡ true → starts_capital w ≡ false
unfolding starts_capital
small [] n = refl
small (b ∷ bs) n =
    let p = and_parts (is_ascii_lowercase b) _ n in
    let q = and_parts (nat_le 97 b) (nat_le b 122) p.0 in
    let h = leb-true 97 b q.0 in
    lt-leb (suc b) 97 (omega (arith, h))

no_token : (w : List ℕ) (t : Tok) → is_name w ≡ true → same w (name_of t) ≡ false
no_token w t n = not_same w (name_of t) (λ e. false≢true (sym (small w n) ∙ ap starts_capital e ∙ capital t))

token_free : (ts : List Tok) (w : List ℕ) → is_name w ≡ true → token_among ts w ≡ None
token_free [] w n = refl
token_free (t ∷ ts) w n = rw (no_token w t n) (token_free ts w n)

token_again : (t : Tok) (y : Sort) → sort_of t ≡ Some y → token_of (name_of t) ≡ Some t
token_again tok.Zero y e = refl
token_again tok.One y e = refl
token_again tok.Two y e = refl
token_again tok.Four y e = refl
token_again tok.Eight y e = refl
token_again tok.Const y e = refl
token_again tok.Gaddr y e = refl
token_again tok.Loc y e = refl
token_again tok.Arg y e = refl
token_again tok.IndirB y e = refl
token_again tok.IndirW y e = refl
token_again tok.IndirL y e = refl
token_again tok.Plus y e = refl
token_again tok.Minus y e = refl
token_again tok.Mul y e = refl
token_again tok.Div y e = refl
token_again tok.Mod y e = refl
token_again tok.And y e = refl
token_again tok.Or y e = refl
token_again tok.Xor y e = refl
token_again tok.Lsh y e = refl
token_again tok.Rsh y e = refl
token_again tok.Neg y e = refl
token_again tok.Com y e = refl
token_again tok.Sxb y e = refl
token_again tok.Zxb y e = refl
token_again tok.Sxw y e = refl
token_again tok.Zxw y e = refl
token_again tok.Ncb y e = refl
token_again tok.Ncw y e = refl
token_again tok.AssignB y e = refl
token_again tok.AssignW y e = refl
token_again tok.AssignL y e = refl
token_again tok.Cbr y e = refl
token_again tok.Push y e = refl
token_again tok.Ret y e = refl
token_again tok.Call y e = refl
token_again tok.Save y e = refl
token_again tok.Jump y e = refl
token_again tok.End y e = absurd (none-some y e)

away_at : (w : List ℕ) (cs : List Class) (i : ℕ) → Away w cs → i < length cs → name_at cs i ≡ w → ⊥
away_at w [] i h lt = absurd (omega arith)
away_at w (c ∷ cs) zero h lt = h.0
away_at w (c ∷ cs) (suc i) h lt = away_at w cs i h.1 (omega arith)

class_from_again : (i : ℕ) (cs : List Class) (c : ℕ) → c < length cs → Apart cs → class_from i cs (name_at cs c) ≡ Some (i + c)
class_from_again i [] c lt h = absurd (omega arith)
class_from_again i (k ∷ cs) zero lt h = let z : i ≡ i + 0 = omega arith in rw (same_refl k.name) (ap (λ (x : ℕ). Some x) z)
class_from_again i (k ∷ cs) (suc c) lt h =
    let z : i + 1 + c ≡ i + suc c = omega arith in
    rw (not_same k.name (name_at cs c) (λ e. away_at k.name cs c h.0 (omega arith) (sym e))) (class_from_again (i + 1) cs c (omega arith) h.1 ∙ ap (λ (x : ℕ). Some x) z)

class_of_again : (cs : List Class) (c : ℕ) → c < length cs → Apart cs → class_of cs (name_at cs c) ≡ Some c
class_of_again cs c lt h = let z : 0 + c ≡ c = omega arith in class_from_again 0 cs c lt h ∙ ap (λ (x : ℕ). Some x) z

named_at : (cs : List Class) (c : ℕ) → AllByRecursion IsNamed cs → c < length cs → is_name (name_at cs c) ≡ true
named_at [] c h lt = absurd (omega arith)
named_at (k ∷ cs) zero h lt = h.0
named_at (k ∷ cs) (suc c) h lt = named_at cs c h.1 (omega arith)

pub declared : (cs : List Class) (c : ℕ) (y : Sort) → sort_of_symbol cs (grammar_symbol.Class c) ≡ Some y → c < length cs
declared cs c y e = at (slice_get cs c) refl e
  where
    at : (o : Option Class) → slice_get cs c ≡ o → option_map sort_of_kind (option_map (λ (x : Class). x.kind) o) ≡ Some y → c < length cs
    at None f e = absurd (none-some y e)
    at (Some k) f e = slice_get_within cs c k f

symbol_again : (cs : List Class) (s : Sym) (y : Sort) → AreClasses cs → sort_of_symbol cs s ≡ Some y → symbol_of cs (symbol_word cs s) ≡ Some s
symbol_again cs (grammar_symbol.Tok t) y h e = rw (token_again t y e) refl
symbol_again cs (grammar_symbol.Class c) y h e =
    let lt = declared cs c y e in
    rw (token_free tree_tokens _ (named_at cs c h.named lt), class_of_again cs c lt h.apart) refl

pub has_sort : (o : Option Sort) (x : Sort) → sort_fits o x ≡ true → (y : Sort) × (o ≡ Some y)
has_sort None x e = absurd (false≢true e)
has_sort (Some y) x e = (y, refl)

symbols_again : (cs : List Class) (xs : List Sort) (w : List Sym) → AreClasses cs → walk (sorted_test cs) xs w ≡ true → symbols_of cs (map (symbol_word cs) w) ≡ Some w
symbols_again cs xs [] h e = refl
symbols_again cs [] (s ∷ w) h e = absurd (false≢true e)
symbols_again cs (x ∷ xs) (s ∷ w) h e = at (sort_fits (sort_of_symbol cs s) x) refl e (symbols_again cs (kids_of s ++ xs) w h)
  where
    at : (b : Bool) → sort_fits (sort_of_symbol cs s) x ≡ b → cond b (walk (sorted_test cs) (kids_of s ++ xs) w) false ≡ true
        → (walk (sorted_test cs) (kids_of s ++ xs) w ≡ true → symbols_of cs (map (symbol_word cs) w) ≡ Some w) → symbols_of cs (map (symbol_word cs) (s ∷ w)) ≡ Some (s ∷ w)
    at true f e k = let y = has_sort (sort_of_symbol cs s) x f in rw (symbol_again cs s y.0 h y.1, k e) refl
    at false f e k = absurd (false≢true e)

-- the lines behind a head tell whether its rule has a register
has_register_word : (n : ℕ) (w : List ℕ) (g : Give) → GiveWord n w g → has_register (plain_give w) ≡ has_register (Some g)
has_register_word n w give.Fresh e = rw e refl
has_register_word n w give.Reuse e = rw e refl
has_register_word n w give.Scratch e = rw e refl
has_register_word n w give.Nothing e = rw e refl
has_register_word n w (give.Shape l) e = ap has_register e.0

passed_if : (ws rest : List (List ℕ)) (x y : Bool) → ws ≡ codes "if" ∷ rest → cond (is_passed ws) x y ≡ x
passed_if ws rest x y e = rw e refl

passed_do : (ws rest : List (List ℕ)) (x y : Bool) → ws ≡ codes "do" ∷ rest → cond (is_passed ws) x y ≡ x
passed_do ws rest x y e = rw e refl

passed_skip : (ws : List (List ℕ)) (x y : Bool) → is_skipped ws ≡ true → cond (is_passed ws) x y ≡ x
passed_skip [] x y e = refl
passed_skip (a ∷ ws) x y e = rw e refl

given_here : (n : ℕ) (ws : List (List ℕ)) (g : Give) (x : Bool) → IsGive n ws g → cond (is_passed ws) x (gives_register (give_form ws)) ≡ has_register (Some g)
given_here n ws g x k = rw k.stands (has_register_word n k.word g k.says)

flagged : (target : List ℕ) (ls : List ExpandedLine) (rs : List Restriction) (ws : List Line) (g : Give) (fs : List Form)
    → Tell target (not_skipped ls) (map Restricts rs ++ (map Writes ws ++ Gives g ∷ fs))
    → register_behind ls ≡ has_register (Some g)
flagged target [] [] [] g fs c = absurd c
flagged target [] [] (w ∷ ws) g fs c = absurd c
flagged target [] (r ∷ rs) ws g fs c = absurd c
flagged target (l ∷ ls) rs ws g fs c = at (is_skipped (words l.bytes)) refl c (λ rs ws k. flagged target ls rs ws g fs k)
  where
    here : (rs : List Restriction) (ws : List Line) → Tell target ((l.from, words l.bytes) ∷ not_skipped ls) (map Restricts rs ++ (map Writes ws ++ Gives g ∷ fs))
        → ((rs : List Restriction) (ws : List Line) → Tell target (not_skipped ls) (map Restricts rs ++ (map Writes ws ++ Gives g ∷ fs)) → register_behind ls ≡ has_register (Some g))
        → register_behind (l ∷ ls) ≡ has_register (Some g)
    here [] [] c k = given_here l.from (words l.bytes) g (register_behind ls) c.0
    here [] (w ∷ ws) c k = passed_do (words l.bytes) c.0.words _ _ c.0.stands ∙ k [] ws c.1
    here (r ∷ rs) ws c k = passed_if (words l.bytes) c.0.words _ _ c.0.stands ∙ k rs ws c.1

    at : (b : Bool) → is_skipped (words l.bytes) ≡ b → Tell target (cond b (not_skipped ls) ((l.from, words l.bytes) ∷ not_skipped ls)) (map Restricts rs ++ (map Writes ws ++ Gives g ∷ fs))
        → ((rs : List Restriction) (ws : List Line) → Tell target (not_skipped ls) (map Restricts rs ++ (map Writes ws ++ Gives g ∷ fs)) → register_behind ls ≡ has_register (Some g))
        → register_behind (l ∷ ls) ≡ has_register (Some g)
    at true f c k = passed_skip (words l.bytes) _ _ f ∙ k rs ws c
    at false f c k = here rs ws c k

-- the states in a rule, and behind it
abbrev inside : State → Rule → List Restriction → List Line → State
inside s r rs ws = record {
  stage = stage.Template;
  pool = s.pool;
  classes = s.classes;
  spills = s.spills;
  rules = s.rules;
  left = r.left;
  right = r.right;
  restrictions = rs;
  lines = ws;
  register = has_register (Some r.give);
}

abbrev behind : State → Rule → State
behind s r = record {
  stage = stage.Rules;
  pool = s.pool;
  classes = s.classes;
  spills = s.spills;
  rules = s.rules
      ++ r ∷ [];
  left = r.left;
  right = [];
  restrictions = [];
  lines = [];
  register = has_register (Some r.give);
}

head_taken : (s : State) (r : Rule) (z : Bool) → AreClasses s.classes → AreSides s.classes r.left r.right → length s.rules ≤ 999 → z ≡ has_register (Some r.give)
    → rule_step s z (name_at s.classes r.left) (map (symbol_word s.classes) r.right) ≡ Ok (inside s r [] [])
head_taken s r z h k few e =
    let a = lt-leb 1000 (length s.rules) (omega (arith, few)) in
    let b : nat_le (length (map (symbol_word s.classes) r.right)) 16 ≡ true = le-leb _ 16 (rw (length-map r.right (symbol_word s.classes)) k.short) in
    let w = sorted_back s.classes k.sort r.right _ refl k.sorted in
    let c = (tree_exactly r.right (count 1 r.right) refl).1 k.tree in
    let f = class_of_again s.classes r.left (declared s.classes r.left k.sort k.declared) h.apart in
    let y = symbols_again s.classes (k.sort ∷ []) r.right h w in
    rw (e, a, b, f, y, c, k.declared, k.not_bare, w) refl

head_form : (class : List ℕ) (ss : List (List ℕ)) (cs : List Class) (right : List Sym) → ss ≡ map (symbol_word cs) right → count 1 right ≡ true
    → rule_form (codes "rule" ∷ class ∷ codes ":" ∷ ss) ≡ Some (class, ss)
head_form class ss cs [] e c = absurd (false≢true c)
head_form class ss cs (x ∷ xs) e c = rw e refl

head_again : (target : List ℕ) (s : State) (r : Rule) (fs : List Form) → s.stage ≡ stage.Rules → AreClasses s.classes → AreSides s.classes r.left r.right → length s.rules ≤ 999
    → Steps target s (Head (name_at s.classes r.left) (map (symbol_word s.classes) r.right)) (map Restricts r.restrictions ++ (map Writes r.lines ++ Gives r.give ∷ fs)) (inside s r [] [])
head_again target s r fs g h k few n ws ls c e =
    let q = flagged target ls r.restrictions r.lines r.give fs c in
    let t = (tree_exactly r.right (count 1 r.right) refl).1 k.tree in
    rw (g, e, head_form (name_at s.classes r.left) (map (symbol_word s.classes) r.right) s.classes r.right refl t) (head_taken s r (register_behind ls) h k few q)

if_again : (target : List ℕ) (s : State) (r : Rule) (pre : List Restriction) (p : Restriction) (fs : List Form) → MayRestrict s.classes r.right p → length pre ≤ 3
    → Steps target (inside s r pre []) (Restricts p) fs (inside s r (pre ++ p ∷ []) [])
if_again target s r pre p fs h few n ws ls c e =
    let b = lt-leb 4 (length pre) (omega (arith, few)) in
    rw (e.stands, e.says, b, h) refl

ifs_run : (target : List ℕ) (s : State) (r : Rule) (pre post : List Restriction) (fs : List Form) (d : Content) → AllByRecursion (MayRestrict s.classes r.right) post → length pre + length post ≤ 4
    → Runs target (inside s r (pre ++ post) []) fs d → Runs target (inside s r pre []) (map Restricts post ++ fs) d
ifs_run target s r pre [] fs d h few runs = rw (append-nil pre) at runs
ifs_run target s r pre (p ∷ post) fs d h few runs =
    let a = append_assoc pre (p ∷ []) post in
    let len = length-append pre (p ∷ []) in
    runs_cons target (inside s r pre []) (inside s r (pre ++ p ∷ []) []) (Restricts p) _ d (if_again target s r pre p _ h.0 (omega (arith, few)))
    (ifs_run target s r (pre ++ p ∷ []) post fs d h.1 (omega (arith, few, len)) (rw a runs))

do_again : (target : List ℕ) (s : State) (r : Rule) (rs : List Restriction) (pre : List Line) (l : Line) (fs : List Form) → MayWrite (has_register (Some r.give)) r.right l → length pre ≤ 7
    → Steps target (inside s r rs pre) (Writes l) fs (inside s r rs (pre ++ l ∷ []))
do_again target s r rs pre l fs h few n ws ls c e =
    let b = lt-leb 8 (length pre) (omega (arith, few)) in
    rw (e.stands, e.joined, b, e.pieces, h, line_again n l e.number) refl

dos_run : (target : List ℕ) (s : State) (r : Rule) (rs : List Restriction) (pre post : List Line) (fs : List Form) (d : Content) → AllByRecursion (MayWrite (has_register (Some r.give)) r.right) post
    → length pre + length post ≤ 8 → Runs target (inside s r rs (pre ++ post)) fs d → Runs target (inside s r rs pre) (map Writes post ++ fs) d
dos_run target s r rs pre [] fs d h few runs = rw (append-nil pre) at runs
dos_run target s r rs pre (l ∷ post) fs d h few runs =
    let a = append_assoc pre (l ∷ []) post in
    let len = length-append pre (l ∷ []) in
    runs_cons target (inside s r rs pre) (inside s r rs (pre ++ l ∷ [])) (Writes l) _ d (do_again target s r rs pre l _ h.0 (omega (arith, few)))
    (dos_run target s r rs (pre ++ l ∷ []) post fs d h.1 (omega (arith, few, len)) (rw a runs))

-- what a rule gives
give_taken : (s : State) (r : Rule) (n : ℕ) (w : List ℕ) (g : Give) → r.give ≡ g → GiveWord n w g → MayGive s.classes r.left r.right g
    → give_line (inside s r r.restrictions r.lines) n (Some w) ≡ Ok (ended_rule (inside s r r.restrictions r.lines) g)
give_taken s r n w give.Fresh v e m = rw (e, m) refl
give_taken s r n w give.Reuse v e m = rw (e, m) refl
give_taken s r n w give.Scratch v e m = rw (e, m) refl
give_taken s r n w give.Nothing v e m = rw (e, m) refl
give_taken s r n w (give.Shape l) v e m = rw (e.0, e.1, m.0, m.1, line_again n l e.2) refl

give_again : (target : List ℕ) (s : State) (r : Rule) (fs : List Form) → MayGive s.classes r.left r.right r.give → Steps target (inside s r r.restrictions r.lines) (Gives r.give) fs (behind s r)
give_again target s r fs m n ws ls c e = rw e.stands (give_taken s r n e.word r.give refl e.says m)

rule_run : (target : List ℕ) (s : State) (r : Rule) (fs : List Form) (d : Content) → s.stage ≡ stage.Rules → AreClasses s.classes → IsRule s.classes r → length s.rules ≤ 999
    → Runs target (behind s r) fs d
    → Runs target s (ruling s.classes r ++ fs) d
rule_run target s r fs d g h k few runs =
    let t = k.template in
    let p : Runs target (inside s r r.restrictions []) (map Writes r.lines ++ Gives r.give ∷ fs) d =
    dos_run target s r r.restrictions [] r.lines (Gives r.give ∷ fs) d t.written (let z = t.few_lines in omega (arith, z))
    (runs_cons target (inside s r r.restrictions r.lines) (behind s r) (Gives r.give) fs d (give_again target s r fs k.gives) runs) in
    let q : Runs target (inside s r [] []) (map Restricts r.restrictions ++ (map Writes r.lines ++ Gives r.give ∷ fs)) d =
    ifs_run target s r [] r.restrictions _ d t.restricted (let z = t.few_restrictions in omega (arith, z)) p in
    let whole : Runs target s (Head (name_at s.classes r.left) (map (symbol_word s.classes) r.right) ∷ (map Restricts r.restrictions ++ (map Writes r.lines ++ Gives r.give ∷ fs))) d =
    runs_cons target s (inside s r [] []) _ _ d (head_again target s r fs g h k.sides few) q in
    let a = append_assoc (map Restricts r.restrictions) (map Writes r.lines ++ Gives r.give ∷ []) fs in
    let b = append_assoc (map Writes r.lines) (Gives r.give ∷ []) fs in
    rw (a, b) whole

rules_run : (target : List ℕ) (s : State) (post : List Rule) (d : Content) → s.stage ≡ stage.Rules → AreClasses s.classes → AllByRecursion (IsRule s.classes) post → 1 ≤ length s.rules + length post
    → length s.rules + length post ≤ 1000 → record { pool = s.pool; classes = s.classes; spills = s.spills; rules = s.rules ++ post } ≡ d → Runs target s (flat_map (ruling s.classes) post) d
rules_run target s [] d g h k some few e = runs_nil target s d g (omega (arith, some))
    (ap (λ (x : List Rule). record { pool = s.pool; classes = s.classes; spills = s.spills; rules = x }) (sym (append-nil s.rules)) ∙ e)
rules_run target s (r ∷ post) d g h k some few e =
    let len = length-append s.rules (r ∷ []) in
    rule_run target s r _ d g h k.0 (omega (arith, few)) (rules_run target (behind s r) post d refl h k.1 (omega (arith, len)) (omega (arith, few, len))
    (ap (λ (x : List Rule). record { pool = s.pool; classes = s.classes; spills = s.spills; rules = x }) (append_assoc s.rules (r ∷ []) post) ∙ e))

-- all of it
abbrev at_target : State
at_target = record start { stage = stage.Target }

abbrev at_pool : State
at_pool = record start { stage = stage.Pool }

version_again : (target : List ℕ) (fs : List Form) → Steps target start Version fs at_target
version_again target fs n ws ls c e = rw e refl

target_again : (target : List ℕ) (fs : List Form) → Steps target at_target Target fs at_pool
target_again target fs n ws ls c e = rw (e, same_refl target) refl

pool_again : (target : List ℕ) (m : ℕ) (fs : List Form) → Steps target at_pool (Pool m) fs (declaring m [])
pool_again target m fs n ws ls c e = rw e refl

all_run : (target : List ℕ) (d : Content) → IsValid d → Runs target start (telling d) d
all_run target d v =
    let rules : Runs target (saves stage.Rules d.pool d.classes d.spills) (flat_map (ruling d.classes) d.rules) d =
    rules_run target (saves stage.Rules d.pool d.classes d.spills) d.rules d refl v.classes v.rules (let z = v.some in omega (arith, z)) (let z = v.few in omega (arith, z)) refl in
    let spills = spills_run target d.pool d.classes d.spills _ d v.stmt v.spills v.eight rules in
    let classes = classes_run target d.pool [] d.classes _ d v.classes spills in
    runs_cons target start at_target Version _ d (version_again target _) (runs_cons target at_target at_pool Target _ d (target_again target _)
    (runs_cons target at_pool (declaring d.pool []) (Pool d.pool) _ d (pool_again target d.pool _) classes))

apply : (target : List ℕ) (s : State) (fs : List Form) (d : Content) → Runs target s fs d → (n : ℕ) (ls : List ExpandedLine) → Tell target (not_skipped ls) fs → read_from target None n s ls ≡ Ok d
unfolding Runs
apply target s fs d h n ls e = h n ls e

pub desc_reads : (target : List ℕ) (bytes : List ℕ) (d : Content) → DescFor target bytes d → read_for target bytes ≡ Ok d
desc_reads target bytes d h =
    ap (λ (b : Option ℕ). read_from target b (line_behind bytes) start (expand bytes).lines) h.good
    ∙ apply target start (telling d) d (all_run target d h.valid) (line_behind bytes) (expand bytes).lines h.text

pub refusal : (target : List ℕ) (r : Result Content DescFault) (bytes : List ℕ) → Answers r (read_for target bytes) → IfErr r (RefusedFor target bytes)
refusal target (Ok d) bytes e = tt
refusal target (Err desc_fault.NoMemory) bytes e = tt
refusal target (Err (desc_fault.Line n k)) bytes e = λ d h. err_ok _ _ (sym e ∙ desc_reads target bytes d h)

pub only : (target : List ℕ) (r : Result Content DescFault) (bytes : List ℕ) → Answers r (read_for target bytes) → IfOk r (λ d. (c : Content) → DescFor target bytes c → d ≡ c)
only target (Ok d) bytes e = λ c h. ok_same _ _ _ _ refl refl (sym e ∙ desc_reads target bytes c h)
only target (Err x) bytes e = tt
