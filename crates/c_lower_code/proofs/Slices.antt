-- A declaration or statement of a slice, and those behind it.
use Rattle.std.proofs.Common.{◌≡◌, ◌<◌, ◌≤◌, ◌+◌, ◌-◌, ℕ, List, ◌∷◌, length, take, drop, get_or, map, arith, ap, sym, ◌∙◌, length-drop}
use Rattle.std.proofs.Math.Seq.{take-length}
use Rattle.gg_base.proofs.Facts.{front_is}
use Rattle.c_program.specs.declared.statement.Declaration.{Declaration}
use Rattle.c_program.specs.declared.statement.Action.{Action}
use Rattle.c_program.specs.Statements.{declaration, act, acts, SomeActions}
use Rattle.c_lower_scheme.specs.Parts.{Emitted, Destination}
use Rattle.c_lower_scheme.specs.Flow.{two_done}
use Rattle.c_lower_scheme.specs.Statements.{declare, lower, lower_row}
use Rattle.c_lower_code.specs.Declarations.{one_declared}
use Rattle.c_lower_code.proofs.Rows.{declare_goes, two_assoc}

slice_is : {A : Type 0} (n : ℕ) (xs : List A) → take (length xs - n) (drop n xs) ≡ drop n xs
slice_is n xs = ap (λ k. take k (drop n xs)) (sym (length-drop n xs)) ∙ take-length (drop n xs)

module _ (size count first : ℕ) (out : Destination) where
  pub declare_on : (w one next whole : Emitted) (xs : List Declaration) (i : ℕ) (d : Declaration) (rest : SomeActions) → i < length xs → d ≡ get_or xs i d
      → two_done w (declare size count first out (map declaration (drop i xs)) rest w.labels) ≡ whole
      → one ≡ one_declared size count first (declaration d) (map declaration (take (length xs - (i + 1)) (drop (i + 1) xs))) rest w.labels → next ≡ two_done w one
      → two_done next (declare size count first out (map declaration (drop (i + 1) xs)) rest next.labels) ≡ whole
  declare_on w one next whole xs i d rest lt at so is put =
      let split = front_is xs i d lt at in
      let back = slice_is (i + 1) xs in
      declare_goes size count first out w one next whole (declaration d) (map declaration (drop (i + 1) xs)) rest
      (sym (ap (λ x. two_done w (declare size count first out (map declaration x) rest w.labels)) split) ∙ so)
      (is ∙ ap (λ x. one_declared size count first (declaration d) (map declaration x) rest w.labels) back) put

  row_on : (w one next whole : Emitted) (xs : List Action) (a : Action) (lb lc : ℕ)
      → two_done w (lower_row size count first out (acts (a ∷ xs)) lb lc w.labels) ≡ whole → one ≡ lower size count first out (act a) (acts xs) lb lc w.labels → next ≡ two_done w one
      → two_done next (lower_row size count first out (acts xs) lb lc next.labels) ≡ whole
  row_on w one next whole xs a lb lc so is put =
      let one' = lower size count first out (act a) (acts xs) lb lc w.labels in
      ap (λ p. two_done p (lower_row size count first out (acts xs) lb lc p.labels)) (put ∙ ap (two_done w) is)
      ∙ sym (two_assoc w one' (lower_row size count first out (acts xs) lb lc one'.labels)) ∙ so

  pub row_goes : (w one next whole : Emitted) (xs : List Action) (i : ℕ) (a : Action) (lb lc : ℕ) → i < length xs → a ≡ get_or xs i a
      → two_done w (lower_row size count first out (acts (drop i xs)) lb lc w.labels) ≡ whole
      → one ≡ lower size count first out (act a) (acts (take (length xs - (i + 1)) (drop (i + 1) xs))) lb lc w.labels → next ≡ two_done w one
      → two_done next (lower_row size count first out (acts (drop (i + 1) xs)) lb lc next.labels) ≡ whole
  row_goes w one next whole xs i a lb lc lt at so is put =
      let split = front_is xs i a lt at in
      let back = slice_is (i + 1) xs in
      row_on w one next whole (drop (i + 1) xs) a lb lc
      (sym (ap (λ x. two_done w (lower_row size count first out (acts x) lb lc w.labels)) split) ∙ so)
      (is ∙ ap (λ x. lower size count first out (act a) (acts x) lb lc w.labels) back) put

pub room_kept : (size : ℕ) (w one next : Emitted) → size ≤ w.temps → next ≡ two_done w one → size ≤ next.temps
room_kept size w one next le put = let temps = ap (λ p. p.temps) put in omega arith
