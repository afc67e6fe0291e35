-- What a parse keeps is what its moves make.
use Rattle.std.proofs.Common.{◌≡◌, ℕ, List, [], ◌∷◌, Option, Some, None, Bool, true, false, slice_get, refl, sym, ap, ◌∙◌}
use Rattle.std.specs.Prelude.{option_and_then}
use Rattle.std.proofs.lemmas.Bool.{true≢false}
use Rattle.gg_base.proofs.Facts.{some_none}
use Rattle.tree_core.specs.declared.tree.Leaf.{Leaf}
use Rattle.tree_core.specs.declared.program.TreeProgram.{TreeProgram}
use Rattle.sel_target.specs.md_reader.specs.declared.types.Rule.{Rule}
use Rattle.sel_target.specs.md_reader.specs.declared.types.Sym.{Sym}
use Rattle.sel_target.specs.md_reader.specs.State.{Content}
use Rattle.lr_check_parse.specs.lr_tables.specs.Statements.{stmt_of}
use Rattle.lr_check_parse.specs.Moves.{Move, Shift, Reduce, Ending, Accepts, Blocks, Loops, Refuses, Parses, loops, accepts, shifts, reduces, refuses, blocks}
use Rattle.lr_check_parse.specs.Attributes.{by_attributes}
use Rattle.lr_check_parse.proofs.Asked.{kept_so}
use Rattle.lr_check_parse.proofs.OneWay.{parse_one_way}
use Rattle.sel_target.specs.Meaning.{Meaning}
use Rattle.sel_parse_selected.specs.Desk.{Stack, Outcome, Full, Stuck, Done}
use Rattle.sel_parse_selected.specs.Reductions.{reduced}
use Rattle.sel_parse_selected.specs.Selected.{Kept, kept_of, shifted, reduced_by, reduced_at, selecting, start, made}
use Rattle.sel_parse_selected.specs.Claims.{IsFullBehind, HasOneCode, IsOneEnd, IsMade, IsFull}

module _ {O I S F : Type 0} (of : Meaning O I S F) (q : TreeProgram) (d : Content) (first : ℕ) where
  -- a reduction that is refused found the frame full
  refused_full : (n : ℕ) (r : Rule) (x : Kept O I) → slice_get d.rules n ≡ Some r → reduced_by of q d first (Some r) x ≡ None
      → IsFullBehind of q d first [] x
  refused_full n r None there e = absurd (some_none {A = Kept O I} None e)
  refused_full n r (Some x) there e = by (reduced of q d first r x) refl e
    where
      by : (o : Outcome (Stack O I)) → reduced of q d first r x ≡ o → kept_of o ≡ None → IsFullBehind of q d first [] (Some x)
      by Full same f = record { number = n; rule = r; stack = x; behind = refl; there = there; full = same }
      by Stuck same f = absurd (some_none {A = Kept O I} None f)
      by (Done y) same f = absurd (some_none {A = Kept O I} (Some y) f)

  -- how a parse with these moves ends
  abbrev pub Behind : List (Move Leaf) → Kept O I → Ending (Kept O I) → Type 0
  Behind log x (Accepts y) = made of q d first log x ≡ Some y
  Behind log x Refuses = IsFullBehind of q d first log x
  Behind log x (Blocks at) = Unit {0}
  Behind log x (Loops at) = Unit {0}

  shifted_behind : (l : Leaf) (log : List (Move Leaf)) (x : Kept O I) (e : Ending (Kept O I)) → Behind log (shifted l x) e → Behind (Shift l ∷ log) x e
  shifted_behind l log x (Accepts y) h = h
  shifted_behind l log x Refuses h =
      record { number = h.number; rule = h.rule; stack = h.stack; behind = h.behind; there = h.there; full = h.full }
  shifted_behind l log x (Blocks at) h = tt
  shifted_behind l log x (Loops at) h = tt

  reduced_behind : (n : ℕ) (log : List (Move Leaf)) (x z : Kept O I) (e : Ending (Kept O I)) → reduced_at of q d first n x ≡ Some z
      → Behind log z e → Behind (Reduce n ∷ log) x e
  reduced_behind n log x z (Accepts y) red h = ap (option_and_then (made of q d first log)) red ∙ h
  reduced_behind n log x z Refuses red h = record {
    number = h.number;
    rule = h.rule;
    stack = h.stack;
    behind = ap (option_and_then (made of q d first log)) red ∙ h.behind;
    there = h.there;
    full = h.full;
  }
  reduced_behind n log x z (Blocks at) red h = tt
  reduced_behind n log x z (Loops at) red h = tt

  pub making : {at : ℕ} {before : List (List Sym)} {ws : List Leaf} {a : List Sym} {x : Kept O I} {log : List (Move Leaf)} {e : Ending (Kept O I)}
      → Parses (by_attributes (selecting of q d first)) d.rules (stmt_of d.classes) at before ws a x log e → Behind log x e
  making (loops h) = tt
  making (accepts n s f) = refl
  making (shifts {l = l} {x = x} {log = log} {e = e} n s b g) = shifted_behind l log x e (making g)
  making (reduces {n = n} {ws = ws} {a = a} {x = x} {y = y} {z = z} {log = log} {e = e} r m c there red g) =
      reduced_behind n log x z e (ap (reduced_at of q d first n) (kept_so (selecting of q d first) d.rules (stmt_of d.classes) ws a x y (Some n) c) ∙ red) (making g)
  making (refuses {n = n} {ws = ws} {a = a} {x = x} {y = y} r m c there red) =
      refused_full n r x there
      (ap (λ (o : Option Rule). reduced_by of q d first o x) (sym there)
      ∙ ap (reduced_at of q d first n) (kept_so (selecting of q d first) d.rules (stmt_of d.classes) ws a x y (Some n) c) ∙ red)
  making (blocks n c) = tt

module _ {O I S F : Type 0} (of : Meaning O I S F) where
  pub is_made : IsMade of
  is_made q d first w log x p = making of q d first p

  pub is_full : IsFull of
  is_full q d first w f = making of q d first f.parsed

  abbrev pub code_in : List I → Ending (Kept O I) → List I
  code_in c (Accepts (Some x)) = x.code
  code_in c e = c

  abbrev pub most_in : ℕ → Ending (Kept O I) → ℕ
  most_in c (Accepts (Some x)) = x.most
  most_in c e = c

  abbrev pub accepting : Ending (Kept O I) → Bool
  accepting (Accepts x) = true
  accepting e = false

  pub has_one_code : HasOneCode of
  has_one_code q d first w code code' most most' s t =
      let e = (parse_one_way (by_attributes (selecting of q d first)) d.rules (stmt_of d.classes) 0 [] w [] (start of q d first) _ _ _ _ s.parsed t.parsed).1 in
      (ap (code_in []) e, ap (most_in 0) e)

  pub is_one_end : IsOneEnd of
  is_one_end q d first w code most s f =
      let e = (parse_one_way (by_attributes (selecting of q d first)) d.rules (stmt_of d.classes) 0 [] w [] (start of q d first) _ _ _ _ s.parsed f.parsed).1 in
      true≢false (ap accepting e)
