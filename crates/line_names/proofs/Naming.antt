-- A line of a rule names a label or a function only where the rule has one, and its name can be spelled.
use Rattle.std.proofs.Common.{◌≡◌, ℕ, zero, suc, ◌-◌, ◌^◌, ◌<◌, ◌≤◌, ◌==◌, Bool, true, false, cond, ◌||◌, Option, Some, None, List, [], ◌∷◌, length, refl, sym, ap}
use Rattle.std.proofs.Common.{subst, ◌∙◌, arith, slice_get}
use Rattle.std.specs.Prelude.{nat_le, codes}
use Rattle.std.specs.Fmt.{decimal}
use Rattle.std.specs.List.{AllByRecursion, list_any, list_all}
use Rattle.std.proofs.lemmas.Bool.Decides.{nat_tests}
use Rattle.std.proofs.lemmas.Bool.{le-leb, and_from, false≢true}
use Rattle.std.proofs.lemmas.Fmt.{length-decimal-le}
use Rattle.std.proofs.lemmas.Option.{none-some, same_Some}
use Rattle.std.specs.Option.{option_or}
use Rattle.gg_base.proofs.Facts.{second_true, first_true, either_is}
use Rattle.gg_base.specs.Names.{is_name_part}
use Rattle.gg_base.proofs.Names.{digits_are_parts}
use Rattle.judging_laws.specs.sel_target.specs.tree_core.specs.declared.token.Tok.{Tok}
use Rattle.judging_laws.specs.sel_target.specs.tree_core.specs.declared.token.Tok.TheVariants as tok
use Rattle.judging_laws.specs.sel_target.specs.tree_core.specs.declared.token.AttKind.{AttKind}
use Rattle.judging_laws.specs.sel_target.specs.tree_core.specs.declared.token.AttKind.TheVariants as att_kind
use Rattle.judging_laws.specs.sel_target.specs.tree_core.specs.declared.tree.Att.{Att}
use Rattle.judging_laws.specs.sel_target.specs.tree_core.specs.declared.tree.Att.TheVariants as att
use Rattle.judging_laws.specs.sel_target.specs.tree_core.specs.declared.tree.Leaf.{Leaf}
use Rattle.judging_laws.specs.sel_target.specs.tree_core.specs.declared.program.TreeFn.{TreeFn}
use Rattle.judging_laws.specs.sel_target.specs.tree_core.specs.declared.program.TreeProgram.{TreeProgram}
use Rattle.judging_laws.specs.sel_target.specs.tree_core.specs.Attributes.{attribute_of, is_of_kind}
use Rattle.judging_laws.specs.sel_target.specs.tree_core.specs.Names.{label_name, function_label}
use Rattle.judging_laws.specs.md_reader_pieces.specs.declared.piece.Piece.{Piece}
use Rattle.judging_laws.specs.md_reader_pieces.specs.declared.piece.Piece.TheVariants as piece
use Rattle.judging_laws.specs.md_reader_pieces.specs.declared.piece.Line.{Line}
use Rattle.judging_laws.specs.md_reader.specs.declared.types.Class.{Class}
use Rattle.judging_laws.specs.md_reader.specs.declared.types.Sym.{Sym}
use Rattle.judging_laws.specs.md_reader.specs.declared.types.Sym.TheVariants as grammar_symbol
use Rattle.judging_laws.specs.md_reader.specs.Patterns.{kind_at}
use Rattle.judging_laws.specs.md_reader.specs.Restrictions.{is_branch, is_jump, is_call}
use Rattle.judging_laws.specs.md_reader.specs.Rows.{any_symbol, behind_j, hole_behind, relation_fits, piece_fits, pieces_fit, line_fits}
use Rattle.judging_laws.specs.md_reader.specs.Valid.{MayWrite}
use Rattle.judging_laws.specs.sel_target.specs.declared.attr.Attr.{Attr}
use Rattle.judging_laws.specs.sel_target.specs.declared.attr.Attr.TheVariants as attr
use Rattle.judging_laws.specs.sel_target.specs.Meaning.{Meaning}
use Rattle.judging_laws.specs.sel_target.specs.Instances.{SymFits, Fit}
use Rattle.judging_laws.specs.sel_target.specs.Spelled.{IsSpelled, TokenIsSpelled, AreSpelled}
use Rattle.judging_laws.specs.sel_target.proofs.Facts.{no_token}
use Rattle.judging_laws.specs.vax_templates.specs.vax_core.specs.Valid.{is_name}
use Rattle.judging_laws.specs.vax_templates.specs.FilledLines.{label_of_att, callee_of_att, function_name}
use Rattle.line_names.specs.Laws.{label_in, label_among, callee_in, callee_among, CanGo, CanCall, is_label_piece, is_count_piece, Names, FunctionsAreSpelled}

-- ---- names

pub label_spelled : (n : ℕ) → n < 2 ^ 32 → is_name (label_name n) ≡ true
label_spelled n lt =
    let short = length-decimal-le 10 n (omega arith) (omega arith) (omega arith) in
    and_from (nat_le (length (decimal n)) 63) (list_all is_name_part (decimal n)) (le-leb _ _ (omega arith)) (digits_are_parts n (omega arith))

pub function_spelled : (fs : List TreeFn) (n m : ℕ) → AllByRecursion (λ (f : TreeFn). is_name (function_label f.name) ≡ true) fs →
    is_name (function_name (slice_get fs n) m) ≡ true
function_spelled [] n m all = by (m == 0) where
  by : (b : Bool) → is_name (cond b (codes "_putchar") (codes "_getchar")) ≡ true
  by true = refl
  by false = refl
function_spelled (f ∷ fs) zero m all = all.0
function_spelled (f ∷ fs) (suc n) m all = function_spelled fs n m all.1

-- ---- what a line may name

pub label_allowed : (register : Bool) (right : List Sym) (ps : List Piece) → pieces_fit register right ps ≡ true → list_any is_label_piece ps ≡ true →
    (any_symbol is_branch right || any_symbol is_jump right) ≡ true
label_allowed register right [] fit e = absurd (cc)
label_allowed register right (piece.Label ∷ ps) fit e = first_true (any_symbol is_branch right || any_symbol is_jump right) (pieces_fit register right ps) fit
label_allowed register right (piece.Bytes w ∷ ps) fit e = label_allowed register right ps fit e
label_allowed register right (piece.Hole i ∷ ps) fit e = label_allowed register right ps (second_true (piece_fits register right (piece.Hole i)) (pieces_fit register right ps) fit) e
label_allowed register right (piece.Callee ∷ ps) fit e = label_allowed register right ps (second_true (any_symbol is_call right) (pieces_fit register right ps) fit) e
label_allowed register right (piece.Count ∷ ps) fit e = label_allowed register right ps (second_true (any_symbol is_call right) (pieces_fit register right ps) fit) e

pub callee_allowed : (register : Bool) (right : List Sym) (ps : List Piece) → pieces_fit register right ps ≡ true → list_any is_count_piece ps ≡ true →
    any_symbol is_call right ≡ true
callee_allowed register right [] fit e = absurd (cc)
callee_allowed register right (piece.Count ∷ ps) fit e = first_true (any_symbol is_call right) (pieces_fit register right ps) fit
callee_allowed register right (piece.Bytes w ∷ ps) fit e = callee_allowed register right ps fit e
callee_allowed register right (piece.Hole i ∷ ps) fit e = callee_allowed register right ps (second_true (piece_fits register right (piece.Hole i)) (pieces_fit register right ps) fit) e
callee_allowed register right (piece.Callee ∷ ps) fit e = callee_allowed register right ps (second_true (any_symbol is_call right) (pieces_fit register right ps) fit) e
callee_allowed register right (piece.Label ∷ ps) fit e =
    callee_allowed register right ps (second_true (any_symbol is_branch right || any_symbol is_jump right) (pieces_fit register right ps) fit) e

pub pieces_of_line : (register : Bool) (right : List Sym) (ps : List Piece) → line_fits register right ps ≡ true → pieces_fit register right ps ≡ true
pieces_of_line register right ps e = second_true (relation_fits register right (hole_behind (behind_j ps))) (pieces_fit register right ps) e

module _ {O I S F : Type 0} (of : Meaning O I S F) where
  -- ---- holes that name them

  abbrev HasLabel : Attr O → Type 0
  HasLabel h = (n : ℕ) × (label_in h ≡ Some n)

  abbrev HasCallee : Attr O → Type 0
  HasCallee h = (c : ℕ × ℕ) × (callee_in h ≡ Some c)

  branch_label : (a : Att) → is_of_kind att_kind.Branch a ≡ true → (n : ℕ) × (label_of_att a ≡ Some n)
  branch_label (att.Branch rel label) e = (label, refl)
  branch_label _ e = absurd (cc)

  jump_label : (a : Att) → is_of_kind att_kind.Label a ≡ true → (n : ℕ) × (label_of_att a ≡ Some n)
  jump_label (att.Label label) e = (label, refl)
  jump_label _ e = absurd (cc)

  call_callee : (a : Att) → is_of_kind att_kind.Callee a ≡ true → (c : ℕ × ℕ) × (callee_of_att a ≡ Some c)
  call_callee (att.Callee function count) e = ((function, count), refl)
  call_callee _ e = absurd (cc)

  -- what fits a token is a token with an attribute of its kind
  pub record IsToken (x : Tok) (h : Attr O) : Type 0 where
    pub leaf : Leaf
    pub is : h ≡ attr.Token leaf
    pub fits : is_of_kind (attribute_of x) leaf.att ≡ true

  token_is : (classes : List Class) (x : Tok) (h : Attr O) → SymFits of classes (grammar_symbol.Tok x) h → IsToken x h
  token_is classes x (attr.Token l) f = record { leaf = l; is = refl; fits = subst (λ y. is_of_kind (attribute_of y) l.att ≡ true) f.0 f.1 }
  token_is classes x _ f = absurd f

  label_of_token : (x : Tok) (h : Attr O) (t : IsToken x h) → (n : ℕ) × (label_of_att t.leaf.att ≡ Some n) → HasLabel h
  label_of_token x h t l = (l.0, ap label_in t.is ∙ l.1)

  pub branch_has : (classes : List Class) (s : Sym) (h : Attr O) → SymFits of classes s h → is_branch (Some s) ≡ true → HasLabel h
  branch_has classes (grammar_symbol.Tok tok.Cbr) h f e = let t = token_is classes tok.Cbr h f in label_of_token tok.Cbr h t (branch_label t.leaf.att t.fits)
  branch_has classes s h f e = absurd (cc)

  jump_has : (classes : List Class) (s : Sym) (h : Attr O) → SymFits of classes s h → is_jump (Some s) ≡ true → HasLabel h
  jump_has classes (grammar_symbol.Tok tok.Jump) h f e = let t = token_is classes tok.Jump h f in label_of_token tok.Jump h t (jump_label t.leaf.att t.fits)
  jump_has classes s h f e = absurd (cc)

  call_has : (classes : List Class) (s : Sym) (h : Attr O) → SymFits of classes s h → is_call (Some s) ≡ true → HasCallee h
  call_has classes (grammar_symbol.Tok tok.Call) h f e =
      let t = token_is classes tok.Call h f in
      let c = call_callee t.leaf.att t.fits in
      (c.0, ap callee_in t.is ∙ c.1)
  call_has classes s h f e = absurd (cc)

  att_small : (q : TreeProgram) (a : Att) (n : ℕ) → label_of_att a ≡ Some n → IsSpelled q a → n < 2 ^ 32
  att_small q (att.Branch rel label) n e sp = subst (λ k. k < 2 ^ 32) (same_Some label n e) sp
  att_small q (att.Label label) n e sp = subst (λ k. k < 2 ^ 32) (same_Some label n e) sp
  att_small q _ n e sp = absurd (none-some n e)

  attr_small : (q : TreeProgram) (h : Attr O) (n : ℕ) → label_in h ≡ Some n → TokenIsSpelled q h → n < 2 ^ 32
  attr_small q (attr.Token l) n e sp = att_small q l.att n e sp
  attr_small q _ n e sp = absurd (none-some n e)

  count_few : (k : AttKind) (function count : ℕ) → is_of_kind k (att.Callee function count) ≡ true → count ≤ 255
  count_few att_kind.Callee function count e = grind (arith, nat_tests)
  count_few _ function count e = absurd (cc)

  att_few : (k : AttKind) (a : Att) (c : ℕ × ℕ) → callee_of_att a ≡ Some c → is_of_kind k a ≡ true → c.1 ≤ 255
  att_few k (att.Callee function count) c e f = subst (λ (d : ℕ × ℕ). d.1 ≤ 255) (same_Some (function, count) c e) (count_few k function count f)
  att_few k _ c e f = absurd (none-some c e)

  symbol_few : (classes : List Class) (s : Sym) (h : Attr O) (c : ℕ × ℕ) → SymFits of classes s h → callee_in h ≡ Some c → c.1 ≤ 255
  symbol_few classes (grammar_symbol.Tok x) (attr.Token l) c f e = att_few (attribute_of l.tok) l.att c e f.1
  symbol_few classes (grammar_symbol.Class k) h c f e = class_few h f e where
    class_few : (h : Attr O) → SymFits of classes (grammar_symbol.Class k) h → callee_in h ≡ Some c → c.1 ≤ 255
    class_few (attr.Token l) f e = absurd (no_token of (kind_at classes k) l f)
    class_few (attr.Reg r) f e = absurd (none-some c e)
    class_few (attr.InSlot w) f e = absurd (none-some c e)
    class_few (attr.Value o) f e = absurd (none-some c e)
    class_few (attr.Place o) f e = absurd (none-some c e)
    class_few (attr.Con n) f e = absurd (none-some c e)
    class_few (attr.Ea o) f e = absurd (none-some c e)
    class_few attr.Nothing f e = absurd (none-some c e)
  symbol_few classes _ _ c f e = absurd f

  module _ (q : TreeProgram) (classes : List Class) where
    pub can_go : (p : Option Sym → Bool) → ((s : Sym) (h : Attr O) → SymFits of classes s h → p (Some s) ≡ true → HasLabel h) →
        (right : List Sym) (hs : List (Attr O)) → Fit of classes right hs → AreSpelled q hs → any_symbol p right ≡ true → CanGo hs
    can_go p has [] [] f sp e = absurd (cc)
    can_go p has [] (h ∷ hs) f sp e = absurd f
    can_go p has (s ∷ right) [] f sp e = absurd f
    can_go p has (s ∷ right) (h ∷ hs) f sp e = by (label_in h) refl (λ e. can_go p has right hs f.1 sp.1 e) where
      further : (b : Bool) → p (Some s) ≡ b → label_in h ≡ None → (b || any_symbol p right) ≡ true → any_symbol p right ≡ true
      further false is none e = e
      further true is none e = let l = has s h f.0 is in absurd (none-some l.0 (sym none ∙ l.1))

      by : (o : Option ℕ) → label_in h ≡ o → (any_symbol p right ≡ true → CanGo hs) → CanGo (h ∷ hs)
      by (Some n) at rest = record { label = n; found = ap (λ x. option_or x (label_among hs)) at; spelled = label_spelled n (attr_small q h n at sp.0) }
      by None at rest =
          let g = rest (further (p (Some s)) refl at e) in
          record { label = g.label; found = ap (λ x. option_or x (label_among hs)) at ∙ g.found; spelled = g.spelled }

    can_call : FunctionsAreSpelled q → (right : List Sym) (hs : List (Attr O)) → Fit of classes right hs → any_symbol is_call right ≡ true → CanCall q hs
    can_call can [] [] f e = absurd (cc)
    can_call can [] (h ∷ hs) f e = absurd f
    can_call can (s ∷ right) [] f e = absurd f
    can_call can (s ∷ right) (h ∷ hs) f e = by (callee_in h) refl (λ e. can_call can right hs f.1 e) where
      further : (b : Bool) → is_call (Some s) ≡ b → callee_in h ≡ None → (b || any_symbol is_call right) ≡ true → any_symbol is_call right ≡ true
      further false is none e = e
      further true is none e = let c = call_has classes s h f.0 is in absurd (none-some c.0 (sym none ∙ c.1))

      by : (o : Option (ℕ × ℕ)) → callee_in h ≡ o → (any_symbol is_call right ≡ true → CanCall q hs) → CanCall q (h ∷ hs)
      by (Some c) at rest = record {
        function = c.0;
        count = c.1;
        found = ap (λ x. option_or x (callee_among hs)) at;
        few = symbol_few classes s h c f.0 at;
        spelled = function_spelled q.functions c.0 _ can;
      }
      by None at rest =
          let g = rest (further (is_call (Some s)) refl at e) in
          record { function = g.function; count = g.count; found = ap (λ x. option_or x (callee_among hs)) at ∙ g.found; few = g.few; spelled = g.spelled }

  -- ---- the names of lines

  pub line_names : (q : TreeProgram) (classes : List Class) (right : List Sym) (hs : List (Attr O)) (register : Bool) (ps : List Piece) →
      FunctionsAreSpelled q → Fit of classes right hs → AreSpelled q hs → line_fits register right ps ≡ true → Names q hs ps
  line_names q classes right hs register ps can f sp e =
      let fit = pieces_of_line register right ps e in
      record {
        label = λ named. either_is (any_symbol is_branch right) (any_symbol is_jump right) (label_allowed register right ps fit named)
            (can_go q classes is_branch (branch_has classes) right hs f sp) (can_go q classes is_jump (jump_has classes) right hs f sp);
        callee = λ named. can_call q classes can right hs f (callee_allowed register right ps fit named);
      }

  pub all_names : (q : TreeProgram) (classes : List Class) (right : List Sym) (hs : List (Attr O)) (register : Bool) (ls : List Line) →
      FunctionsAreSpelled q → Fit of classes right hs → AreSpelled q hs → AllByRecursion (MayWrite register right) ls → AllByRecursion (λ (l : Line). Names q hs l.pieces) ls
  all_names q classes right hs register [] can f sp h = tt
  all_names q classes right hs register (l ∷ ls) can f sp h =
      (line_names q classes right hs register l.pieces can f sp h.0, all_names q classes right hs register ls can f sp h.1)

  -- a line that saves or reloads names none
  pub spill_names : (q : TreeProgram) (hs : List (Attr O)) (ps : List Piece) → line_fits true (grammar_symbol.Class 0 ∷ []) ps ≡ true → Names q hs ps
  spill_names q hs ps e =
      let fit = pieces_of_line true (grammar_symbol.Class 0 ∷ []) ps e in
      record {
        label = λ named. absurd (false≢true (label_allowed true (grammar_symbol.Class 0 ∷ []) ps fit named));
        callee = λ named. absurd (false≢true (callee_allowed true (grammar_symbol.Class 0 ∷ []) ps fit named));
      }
