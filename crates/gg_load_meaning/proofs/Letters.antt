-- The loop of a generated source shifts zeros into a longword, and so ends.
use Rattle.std.proofs.Common.{◌≡◌, ◌<◌, ◌≤◌, ℕ, zero, suc, List, [], ◌∷◌, length, refl, sym, ap, subst, ◌∙◌, arith}
use Rattle.std.proofs.lemmas.Nat.{and_le_r}
use Rattle.tree_core.specs.declared.program.Link.{Link}
use Rattle.gg_base.specs.Arithmetic.{neg32, ash32}
use Rattle.gg_base.specs.Runs.{Outcome, Runs, emit, counted}
use Rattle.c_types.specs.Types.{kept}
use Rattle.c_types.specs.Constants.{converted, apply}
use Rattle.c_types.specs.Typed.{ReadOf}
use Rattle.c_program.specs.Statements.{BlockOf, EvaluateOf, NoActions, MoreActions}
use Rattle.c_program.specs.Programs.{ARoutine, AProgram}
use Rattle.c_meaning.specs.declared.flow.Flow.TheVariants.{Onward}
use Rattle.c_meaning.specs.Values.{Behind, Look, ALoop, plain_loop}
use Rattle.c_meaning.specs.Meaning.{look_at}
use Rattle.c_meaning.specs.Programs.{means}
use Rattle.gg_load_program.specs.Program.{s, put_letter, shift}
use Rattle.gg_load_meaning.specs.Run.{ComesTo, letter, shifted, letters}
use Rattle.gg_load_meaning.proofs.Outcomes.{comes_same, comes_emit, comes_counted, in_front, in_front-none, in_front-byte}
use Rattle.gg_load_meaning.proofs.Shifts.{most, shifted_small}
use Rattle.gg_load_meaning.proofs.Calls.{program_of, main_state, Meant}

abbrev pub loop : ALoop
loop = plain_loop (ReadOf s) (BlockOf (MoreActions (EvaluateOf put_letter) (MoreActions (EvaluateOf shift) NoActions)))

module _ (label bytes : List ℕ) (links : List Link) (routines : List ARoutine) (main : ℕ)
    (meant : Meant (program_of label bytes links routines main))
    (a input : List ℕ) (κ : Behind) (o : Outcome) (ended : ComesTo (κ Onward (main_state a 0 input)) o) where
  abbrev pub p : AProgram
  p = program_of label bytes links routines main

  abbrev pub looks : ℕ → Runs
  looks v = look_at p (means p) loop κ (main_state a v input)

  turn : (v : ℕ) → looks (suc v) ≡ counted (emit (letter (suc v)) (means p (Look loop) κ (main_state a (shifted (suc v)) input)))
  unfolding converted kept apply
  turn v = refl

  none : (v : ℕ) → v ≡ 0 → ComesTo (looks v) (in_front [] 0 o)
  none v e = subst (λ (w : ℕ). ComesTo (looks w) (in_front [] 0 o)) (sym e) (subst (λ (q : Outcome). ComesTo (κ Onward (main_state a 0 input)) q) (sym (in_front-none o)) ended)

  one_more : (v : ℕ) (bs : List ℕ) → ComesTo (looks (shifted (suc v))) (in_front bs (length bs) o) → ComesTo (looks (suc v)) (in_front (letter (suc v) ∷ bs) (suc (length bs)) o)
  one_more v bs h =
      comes_same (looks (suc v)) (counted (emit (letter (suc v)) (looks (shifted (suc v))))) (in_front (letter (suc v) ∷ bs) (suc (length bs)) o)
      (turn v ∙ ap (λ (r : Runs). counted (emit (letter (suc v)) r)) (meant (Look loop) κ (main_state a (shifted (suc v)) input)))
      (subst (λ (q : Outcome). ComesTo (counted (emit (letter (suc v)) (looks (shifted (suc v))))) q) (in_front-byte (letter (suc v)) bs (length bs) o)
      (comes_counted _ _ (comes_emit (letter (suc v)) (looks (shifted (suc v))) (in_front bs (length bs) o) h)))

  few_letters : (j v : ℕ) → v < most j → most j ≤ 268435456 → ComesTo (looks v) (in_front (letters j v) (length (letters j v)) o)
  few_letters zero v low bound = none v (omega arith)
  few_letters (suc j) zero low bound = none 0 refl
  few_letters (suc j) (suc v) low bound =
      one_more v (letters j (shifted (suc v))) (few_letters j (shifted (suc v)) (shifted_small (suc v) (most j) low bound) (omega arith))

  pub all_letters : (v : ℕ) → ComesTo (looks v) (in_front (letters 8 v) (length (letters 8 v)) o)
  all_letters zero = none 0 refl
  all_letters (suc v) =
      let h : shifted (suc v) ≤ 268435455 = and_le_r (ash32 (neg32 4) (suc v)) 268435455 in
      one_more v (letters 7 (shifted (suc v))) (few_letters 7 (shifted (suc v)) (omega arith) (omega arith))
