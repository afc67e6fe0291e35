-- The last rule of a statement's parse has a line.
use Rattle.std.proofs.Common.{◌≡◌, ℕ, ◌≤◌, List, [], ◌∷◌, length, map, Some, None, Ok, true, false, sym, ap, ◌∙◌, subst, arith}
use Rattle.std.specs.Prelude.{drop, slice_get}
use Rattle.std.proofs.lemmas.List.{length-append, length-map}
use Rattle.std.specs.List.{AllByRecursion as All}
use Rattle.std.proofs.lemmas.Option.{same_Some, none-some}
use Rattle.gg_base.proofs.Facts.{all_get, nil_cons}
use Rattle.tree_core.specs.declared.tree.Leaf.{Leaf}
use Rattle.tree_core.specs.declared.token.Tok.{Tok}
use Rattle.tree_core.specs.declared.program.TreeProgram.{TreeProgram}
use Rattle.md_reader_pieces.specs.declared.piece.Line.{Line}
use Rattle.md_reader.specs.declared.types.Rule.{Rule}
use Rattle.md_reader.specs.declared.types.Give.{Give}
use Rattle.md_reader.specs.declared.types.Give.TheVariants as give
use Rattle.md_reader.specs.declared.types.Sym.{Sym}
use Rattle.md_reader.specs.declared.types.Sym.TheVariants as grammar_symbol
use Rattle.md_reader.specs.Patterns.{kind_at}
use Rattle.md_reader.specs.State.{Content}
use Rattle.md_reader.specs.Valid.{IsValid}
use Rattle.sel_parse_moves.specs.lr_tables.specs.Statements.{stmt_of}
use Rattle.sel_parse_moves.specs.lr_check_parse.specs.Moves.{Move, Ending, Accepts, Blocks, Loops, Refuses, Parses}
use Rattle.sel_parse_moves.specs.lr_check_parse.specs.Moves as parse
use Rattle.sel_parse_moves.specs.lr_check_parse.specs.Attributes.{by_attributes}
use Rattle.sel_target.specs.sel_terms.specs.Effects.{EffectShape}
use Rattle.sel_target.specs.declared.attr.Attr.{Attr}
use Rattle.sel_target.specs.declared.attr.Attr.TheVariants as attr
use Rattle.sel_target.specs.Meaning.{Meaning}
use Rattle.sel_target.specs.Laws.{IsLawful}
use Rattle.sel_parse_selected.specs.Entries.{attrs}
use Rattle.sel_parse_selected.specs.Desk.{Stack, Desk, desk_of, Outcome, Full, Stuck, Done}
use Rattle.sel_parse_selected.specs.Spills.{due}
use Rattle.sel_parse_selected.specs.Reductions.{reloaded, finished, shaped, with_result, with_scratch, given_by, reduced}
use Rattle.sel_parse_selected.specs.Selected.{Kept, kept_of, reduced_by, selecting, shifted, start}
use Rattle.sel_parse_moves.proofs.Typing.{stmt_kind}
use Rattle.sel_parse_lines.specs.Claims.{StatementsHaveCode}
use Rattle.sel_parse_lines.proofs.Each.{Each, each_bind, each_any}

class_same : (c k : ℕ) (a : List Sym) → grammar_symbol.Class c ∷ a ≡ grammar_symbol.Class k ∷ [] → c ≡ k
class_same c k a e = cc

no_token : (t : Tok) (k : ℕ) (a : List Sym) → grammar_symbol.Tok t ∷ a ≡ grammar_symbol.Class k ∷ [] → ⊥
no_token t k a e = cc

module _ {O I S F : Type 0} (of : Meaning O I S F) (law : IsLawful of) (q : TreeProgram) (d : Content) (first : ℕ) (valid : IsValid d)
    (all_taken : All (λ (r : Rule). (e : EffectShape) × (of.effect d.classes r ≡ Ok e)) d.rules) where
  abbrev IsLong : Stack O I → Type 0
  IsLong x = 1 ≤ length x.code

  module _ (rule : Rule) (some : 1 ≤ length rule.lines) where
    finished_long : (result given : Attr O) (desk : Desk O I) → Each IsLong (finished of q d first rule result given desk)
    finished_long result given desk =
        let a = length-append desk.code (map (λ (l : Line). of.instr q l (attrs desk.symbols) result) rule.lines) in
        let b = length-map rule.lines (λ (l : Line). of.instr q l (attrs desk.symbols) result) in
        omega (arith, a, b)

    given_long : (g : Give) (desk : Desk O I) → Each IsLong (given_by of q d first rule g desk)
    given_long give.Fresh desk =
        each_bind (λ (p : ℕ × Desk O I). Unit {0}) IsLong (due of q d first false desk) (with_result of q d first rule) (each_any (due of q d first false desk))
        (λ p k. finished_long (attr.Reg p.0) (attr.Reg p.0) p.1)
    given_long give.Reuse desk =
        each_bind (λ (p : ℕ × Desk O I). Unit {0}) IsLong (due of q d first true desk) (with_result of q d first rule) (each_any (due of q d first true desk))
        (λ p k. finished_long (attr.Reg p.0) (attr.Reg p.0) p.1)
    given_long give.Scratch desk =
        each_bind (λ (p : ℕ × Desk O I). Unit {0}) IsLong (due of q d first false desk) (with_scratch of q d first rule) (each_any (due of q d first false desk))
        (λ p k. finished_long (attr.Reg p.0) attr.Nothing p.1)
    given_long give.Nothing desk = finished_long attr.Nothing attr.Nothing desk
    given_long (give.Shape l) desk = finished_long attr.Nothing (shaped of q d first (kind_at d.classes rule.left) l (attrs desk.symbols)) desk

    reduced_long : (x : Stack O I) → Each IsLong (reduced of q d first rule x)
    reduced_long x =
        let start = reloaded of q d first (length rule.right) 0 (desk_of (length rule.right) x) in
        each_bind (λ (desk : Desk O I). Unit {0}) IsLong start (given_by of q d first rule rule.give) (each_any start) (λ desk k. given_long rule.give desk)

  -- a statement's rule has a line
  has_line : (n : ℕ) (r : Rule) → slice_get d.rules n ≡ Some r → r.left ≡ stmt_of d.classes → 1 ≤ length r.lines
  has_line n r there left =
      let taken = all_get (λ (r : Rule). (e : EffectShape) × (of.effect d.classes r ≡ Ok e)) d.rules n r all_taken there in
      law.templates.some_line d.classes r taken.0 taken.1 (ap (kind_at d.classes) left ∙ stmt_kind d.classes valid.classes.apart valid.stmt)

  -- behind a statement there is an instruction
  abbrev Has : List Sym → Kept O I → Type 0
  Has a None = Unit {0}
  Has a (Some x) = a ≡ grammar_symbol.Class (stmt_of d.classes) ∷ [] → IsLong x

  abbrev Behind : Ending (Kept O I) → Type 0
  Behind (Accepts None) = Unit {0}
  Behind (Accepts (Some x)) = IsLong x
  Behind Refuses = Unit {0}
  Behind (Blocks at) = Unit {0}
  Behind (Loops at) = Unit {0}

  accepted : (a : List Sym) (x : Kept O I) → Has a x → a ≡ grammar_symbol.Class (stmt_of d.classes) ∷ [] → Behind (Accepts x)
  accepted a None h e = tt
  accepted a (Some x) h e = h e

  shift : (l : Leaf) (a : List Sym) (x : Kept O I) → Has (grammar_symbol.Tok l.tok ∷ a) (shifted l x)
  shift l a None = tt
  shift l a (Some x) = λ e. absurd (no_token l.tok (stmt_of d.classes) a e)

  kept : (a : List Sym) (o : Outcome (Stack O I)) (z : Kept O I) → (a ≡ grammar_symbol.Class (stmt_of d.classes) ∷ [] → Each IsLong o) → kept_of o ≡ Some z → Has a z
  kept a Full z h e = absurd (none-some z e)
  kept a Stuck z h e = subst (Has a) (same_Some None z e) tt
  kept a (Done y) z h e = subst (Has a) (same_Some (Some y) z e) h

  reduce : (n : ℕ) (r : Rule) → slice_get d.rules n ≡ Some r → (a : List Sym) (x z : Kept O I) → reduced_by of q d first (Some r) x ≡ Some z → Has (grammar_symbol.Class r.left ∷ a) z
  reduce n r there a None z e = subst (Has (grammar_symbol.Class r.left ∷ a)) (same_Some None z e) tt
  reduce n r there a (Some x) z e =
      kept (grammar_symbol.Class r.left ∷ a) (reduced of q d first r x) z (λ f. reduced_long r (has_line n r there (class_same r.left (stmt_of d.classes) a f)) x) e

  iterate : {at : ℕ} {before : List (List Sym)} {ws : List Leaf} {a : List Sym} {x : Kept O I} {log : List (Move Leaf)} {e : Ending (Kept O I)}
      → Parses (by_attributes (selecting of q d first)) d.rules (stmt_of d.classes) at before ws a x log e → Has a x → Behind e
  iterate (parse.loops h) b = tt
  iterate (parse.accepts {a = a} {x = x} h s f) b = accepted a x b s
  iterate (parse.shifts {l = l} {a = a} {x = x} h f s more) b = iterate more (shift l a x)
  iterate (parse.reduces {n = n} {a = a} {y = y} {z = z} r h c there red more) b =
      iterate more (reduce n r there (drop (length r.right) a) y z (ap (λ o. reduced_by of q d first o y) (sym there) ∙ red))
  iterate (parse.refuses r h c there red) b = tt
  iterate (parse.blocks h c) b = tt

  pub has_code : (w : List Leaf) (log : List (Move Leaf)) (x : Stack O I)
      → Parses (by_attributes (selecting of q d first)) d.rules (stmt_of d.classes) 0 [] w [] (start of q d first) log (Accepts (Some x)) → IsLong x
  has_code w log x p = iterate p (λ e. absurd (nil_cons (grammar_symbol.Class (stmt_of d.classes)) [] e))

pub statements_have_code : {O I S F : Type 0} (of : Meaning O I S F) → IsLawful of → StatementsHaveCode of
statements_have_code of law q d first w code most valid taken s =
    has_code of law q d first valid taken w s.log (record { entries = s.entries; code = code; most = most }) s.parsed
