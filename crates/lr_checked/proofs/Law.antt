-- Where the sets have no fault, no typed statement stops the parse.
use Rattle.std.proofs.Common.{◌≡◌, ◌⊎◌, ℕ, suc, ◌+◌, ◌*◌, ◌≤◌, List, [], ◌∷◌, Bool, length, map, refl, sym, ap, ◌∙◌, subst, inl, inr, arith}
use Rattle.tree_core.specs.declared.token.Tok.{Tok}
use Rattle.tree_core.specs.declared.token.Tok.TheVariants as tok
use Rattle.lr_tables.specs.Statements.{stmt_of}
use Rattle.lr_check_found.specs.lr_check_sets.specs.Trees.{onto}
use Rattle.lr_check_found.specs.lr_check_sets.specs.Exact.{MeetsLaws}
use Rattle.lr_check_found.specs.lr_check_sets.specs.Table.{productions, automaton_of}
use Rattle.lr_check_found.specs.lr_check_sets.proofs.Meeting.{tables_meet_laws}
use Rattle.lr_check_found.specs.lr_check_sets.proofs.Ends_within.{every_tree_ends_within}
use Rattle.lr_check.specs.declared.sample.Outcome.{Outcome}
use Rattle.lr_check.specs.declared.sample.Outcome.TheVariants as outcome
use Rattle.lr_check.specs.Tree.{Token}
use Rattle.lr_check.specs.Parse.{Ends}
use Rattle.lr_check.proofs.Only.{ends_same}
use Rattle.lr_check_law.proofs.Law.{toks, toks-tree, every_tree_is_accepted}
use Rattle.lr_check_parse.specs.Moves.{Answering, Ending, Accepts, Blocks, Loops, Refuses}
use Rattle.lr_check_parse.specs.Lists.{EndsSo}
use Rattle.lr_check_parse.specs.Claims.{questioned}
use Rattle.lr_check_parse.specs.Typed.{IsStatement}
use Rattle.lr_check_parse.proofs.Sources.{parse_answered}
use Rattle.lr_check_drawn.specs.lr_check_samples.specs.Stops.{tokens}
use Rattle.lr_checked.specs.Accepted.{moves}
use Rattle.lr_checked.specs.Claims.{NoFaultIsEnough, ParsesAccept}
use Rattle.lr_checked.proofs.Trees.{statement_tree}
use Rattle.lr_checked.proofs.Counting.{counted}
use Rattle.lr_checked.proofs.Drawn.{block_done, loop_done}

toks_length : (w : List Token) → length (toks w) ≡ length w + 1
toks_length [] = refl
toks_length (f ∷ w) = ap suc (toks_length w) ∙ omega arith

at_most : (m n k c : ℕ) → m ≤ n * (c + 1) → n ≡ k → m ≤ k * (c + 2)
at_most m n k c le e = let up : n * (c + 2) ≡ n * (c + 1) + n = omega arith in subst (λ (x : ℕ). m ≤ x * (c + 2)) e (omega (arith, le, up))

pub no_fault_is_enough : NoFaultIsEnough
no_fault_is_enough t valid numbered fine = record {
  accepts = accepts;
  only = λ w o h e. ends_same t.content.rules (stmt_of t.content.classes) (accepts w h) e;
  within = λ w o h e. within w o h e;
}
  where
    accepts : (w : List Token) → IsStatement (tokens w) → Ends t.content.rules (stmt_of t.content.classes) 0 [] w [] outcome.Done
    accepts w h =
        let v = statement_tree w h in
        subst (λ (u : List Token). Ends t.content.rules (stmt_of t.content.classes) 0 [] u [] outcome.Done) v.1 (every_tree_is_accepted t valid numbered fine v.0)

    within : (w : List Token) (o : Outcome) → IsStatement (tokens w) → (e : Ends t.content.rules (stmt_of t.content.classes) 0 [] w [] o) →
        moves e ≤ (length w + 1) * (length t.content.classes + 2)
    within w o h e =
        let m : MeetsLaws t = tables_meet_laws t valid numbered in
        let v = statement_tree w h in
        let bound = every_tree_ends_within (productions t.content.rules) (automaton_of t) (length t.content.classes) m.no_end m.no_empty m.trees m.classes m.exact fine v.0 in
        let same : toks w ≡ onto v.0 (tok.End ∷ []) = ap toks (sym v.1) ∙ toks-tree v.0 [] in
        let le : moves e ≤ length (onto v.0 (tok.End ∷ [])) * (length t.content.classes + 1) =
        counted t valid numbered e (length (onto v.0 (tok.End ∷ [])) * (length t.content.classes + 1)) [] (onto v.0 (tok.End ∷ [])) bound same refl in
        let many : length (onto v.0 (tok.End ∷ [])) ≡ length w + 1 = ap length (sym same) ∙ toks_length w in
        at_most (moves e) (length (onto v.0 (tok.End ∷ []))) (length w + 1) (length t.content.classes) le many

pub tokens_questioned : {L X : Type 0} (of : Answering L X) (w : List L) (f : ℕ → List Bool) → tokens (questioned of w f) ≡ map of.token w
tokens_questioned of [] f = refl
tokens_questioned of (l ∷ w) f = ap (λ (u : List Tok). of.token l ∷ u) (tokens_questioned of w (λ i. f (suc i)))

pub parses_accept : {L X : Type 0} (of : Answering L X) → ParsesAccept of
parses_accept {L = L} {X = X} of d valid never w x log e typed p = by e refl
  where
    ends : (o : Outcome) → EndsSo e o → o ≡ outcome.Done
    ends o h =
        let a = parse_answered of d valid 0 [] w [] x log e o p h in
        never.only (questioned of w a.to_come) o (subst IsStatement (sym (tokens_questioned of w a.to_come)) typed) a.ends

    by : (q : Ending X) → e ≡ q → ((y : X) × (e ≡ Accepts y)) ⊎ (e ≡ Refuses)
    by (Accepts y) f = inl (y, f)
    by (Blocks at) f = absurd (block_done at (ends (outcome.Blocks at) (subst (λ (q : Ending X). EndsSo q (outcome.Blocks at)) (sym f) refl)))
    by (Loops at) f = absurd (loop_done at (ends (outcome.Loops at) (subst (λ (q : Ending X). EndsSo q (outcome.Loops at)) (sym f) refl)))
    by Refuses f = inr f
