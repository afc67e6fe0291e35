-- What the automaton's parse of a sample comes to, the parse over the rules comes to.
use Rattle.std.proofs.Common.{◌≡◌, ℕ, suc, List, [], ◌∷◌, ◌++◌, Some, length, refl, sym, ap, ◌∙◌, subst, arith}
use Rattle.gg_base.proofs.Facts.{nil_cons, head_same, tail_same}
use Rattle.tree_core.specs.declared.token.Tok.TheVariants as tok
use Rattle.tree_core.specs.declared.token.Sort.{Sort}
use Rattle.md_reader.specs.declared.types.Sym.TheVariants as grammar_symbol
use Rattle.md_reader.specs.Valid.{IsValid}
use Rattle.lr_tables.specs.View.{TableView}
use Rattle.lr_tables.specs.Statements.{stmt_of}
use Rattle.lr_tables.specs.Promises.{IsNumbered}
use Rattle.lr_check_sets.specs.Automaton.{shift, reduce, walk}
use Rattle.lr_check_sets.specs.Table.{candidates_at, automaton_of}
use Rattle.lr_check_sets.specs.Exact.{MeetsLaws}
use Rattle.lr_check_sets.specs.Answers.{pick, held_reduced, Step, shifts, reduces, Runs, here, then_step, IsBlocked, blocked, Reductions, one_reduction, more_reductions, the_end}
use Rattle.lr_check_sets.proofs.Endless.{NoEnds, not_end}
use Rattle.lr_check.specs.Tree.{Token}
use Rattle.lr_check.specs.Parse.{Part, symbols, coming}
use Rattle.lr_check_parse.specs.Typed.{AreTyped, begins}
use Rattle.lr_check_samples.specs.Stops.{tokens, Moves, Comes, at_once, by_move, Turns, one_turn, more_turns, Blocks, Loops}
use Rattle.lr_check_samples.proofs.Ruling.{shift_moves, reduce_moves, blocks_so}
use Rattle.lr_check_samples.proofs.Stopping.{BlocksBy, LoopsBy}

pub typed_no_ends : {xs : List Sort} (w : List Token) → AreTyped xs (tokens w) → NoEnds w
typed_no_ends [] h = tt
typed_no_ends (l ∷ w) (begins {x = x} k fits h) = (not_end k x fits, typed_no_ends w h)

comes-append : {rules : _} {stmt : ℕ} {ws us vs : List Token} {s a b : List Part} → Comes rules stmt ws s us a → Comes rules stmt us a vs b → Comes rules stmt ws s vs b
comes-append at_once d = d
comes-append (by_move m c) d = by_move m (comes-append c d)

turns-more : {rules : _} {stmt : ℕ} {ws : List Token} {s a b : List Part} → Turns rules stmt ws s a → Moves rules stmt ws a ws b → Turns rules stmt ws s b
turns-more (one_turn n) m = more_turns n (one_turn m)
turns-more (more_turns n r) m = more_turns n (turns-more r m)

-- what is to come begins so
next_is : (f : Token) (w rest : List Token) → f ∷ w ≡ rest ++ the_end → coming rest ≡ f.tok
next_is f w [] e = ap (λ (l : Token). l.tok) (sym (head_same f (record { tok = tok.End; answers = [] }) w [] e))
next_is f w (l ∷ rest) e = ap (λ (x : Token). x.tok) (sym (head_same f l w (rest ++ the_end) e))

module _ (t : TableView) (v : IsValid t.content) (b : IsNumbered t) (m : MeetsLaws t) where
  pub record Follows (ws : List Token) (s c : List Part) (w : List Token) : Type 0 where
    pub rest : List Token
    pub same : w ≡ rest ++ the_end
    pub no_ends : NoEnds rest
    pub comes : Comes t.content.rules (stmt_of t.content.classes) ws s rest c

  shift_follows : {ws : List Token} {s a c : List Part} {f : Token} {w : List Token} {p : ℕ} (x : Token) (w' : List Token) → w ≡ x ∷ w' → Follows ws s a (f ∷ w) →
      walk (automaton_of t) 0 (symbols a) ≡ Some p → pick (candidates_at t p f.tok) a ≡ record { taken = Some shift; stack = c } →
      Follows ws s (record { symbol = grammar_symbol.Tok f.tok; answers = f.answers } ∷ c) w
  shift_follows {ws = ws} {s = s} {a = a} {c = c} {f = f} {w = w} {p = p} x w' some k at pk = by k.rest k.same k.no_ends k.comes
    where
      by : (rest : List Token) → f ∷ w ≡ rest ++ the_end → NoEnds rest → Comes t.content.rules (stmt_of t.content.classes) ws s rest a →
          Follows ws s (record { symbol = grammar_symbol.Tok f.tok; answers = f.answers } ∷ c) w
      by [] e free comes = absurd (nil_cons x w' (sym (tail_same f (record { tok = tok.End; answers = [] }) w [] e) ∙ some))
      by (l ∷ rest) e free comes =
          let same : f ≡ l = head_same f l w (rest ++ the_end) e in
          record {
            rest = rest;
            same = tail_same f l w (rest ++ the_end) e;
            no_ends = free.1;
            comes = comes-append comes
                (by_move
                (subst (λ (z : Token). Moves t.content.rules (stmt_of t.content.classes) (z ∷ rest) a rest
                (record { symbol = grammar_symbol.Tok f.tok; answers = f.answers } ∷ c)) same
                (shift_moves t v b m a c p f rest (λ g. free.0 (ap (λ (z : Token). z.tok) (sym same) ∙ g)) at pk)) at_once);
          }

  reduce_follows : {ws : List Token} {s a c : List Part} {f : Token} {w : List Token} {p : ℕ} (r : _) → Follows ws s a (f ∷ w) →
      walk (automaton_of t) 0 (symbols a) ≡ Some p → pick (candidates_at t p f.tok) a ≡ record { taken = Some (reduce r); stack = c } → Follows ws s (held_reduced r c) (f ∷ w)
  reduce_follows {a = a} {c = c} {f = f} {w = w} {p = p} r k at pk = record {
    rest = k.rest;
    same = k.same;
    no_ends = k.no_ends;
    comes = comes-append k.comes (by_move (reduce_moves t v b m a c p f.tok k.rest r (next_is f w k.rest k.same) at pk) at_once);
  }

  pub follows : {a c : List Part} {u w : List Token} → Runs (automaton_of t) a u c w → (u' : List Token) → u ≡ u' ++ the_end → NoEnds u' → (x : Token) (w' : List Token) → w ≡ x ∷ w' →
      Follows u' a c w
  follows here u' e free x w' some = record { rest = u'; same = e; no_ends = free; comes = at_once }
  follows (then_step r (shifts {f = f} {w = w} at pk)) u' e free x w' some = shift_follows x w' some (follows r u' e free f w refl) at pk
  follows (then_step r (reduces {f = f} {w = w} {r = q} at pk)) u' e free x w' some = reduce_follows q (follows r u' e free f w refl) at pk

  -- a step that shifts nothing
  turn_of : {a c : List Part} {u w : List Token} → Step (automaton_of t) a u c w → u ≡ w → (rest : List Token) → u ≡ rest ++ the_end →
      Moves t.content.rules (stmt_of t.content.classes) rest a rest c
  turn_of (shifts {f = f} {w = w} at pk) same rest e = absurd (let longer : suc (length w) ≡ length w = ap length same in omega (arith, longer))
  turn_of (reduces {a = a} {b = c} {f = f} {w = w} {p = p} {r = r} at pk) same rest e = reduce_moves t v b m a c p f.tok rest r (next_is f w rest e) at pk

  turns_of : {w : List Token} {a c : List Part} → Reductions (automaton_of t) w a c → (rest : List Token) → w ≡ rest ++ the_end →
      Turns t.content.rules (stmt_of t.content.classes) rest a c
  turns_of (one_reduction s) rest e = one_turn (turn_of s refl rest e)
  turns_of (more_reductions r s) rest e = turns-more (turns_of r rest e) (turn_of s refl rest e)

  first_of : {w : List Token} {a c : List Part} → Reductions (automaton_of t) w a c → (x : Token) × ((w' : List Token) × (w ≡ x ∷ w'))
  first_of (one_reduction s) = by s
    where
      by : {a c : List Part} {u w : List Token} → Step (automaton_of t) a u c w → (x : Token) × ((w' : List Token) × (u ≡ x ∷ w'))
      by (shifts {f = f} {w = w} at pk) = (f, (w, refl))
      by (reduces {f = f} {w = w} at pk) = (f, (w, refl))
  first_of (more_reductions r s) = first_of r

  pub blocks_of : (w : List Token) → NoEnds w → BlocksBy (automaton_of t) w → Blocks t.content w
  blocks_of w free k = by k.stack k.rest k.runs k.blocks
    where
      by : (c : List Part) (u : List Token) → Runs (automaton_of t) [] (w ++ the_end) c u → IsBlocked (automaton_of t) c u → Blocks t.content w
      by c u runs (blocked {b = d} {f = f} {w = w'} {p = p} at pk) =
          let g : Follows w [] c (f ∷ w') = follows runs w refl free f w' refl in
          record {
            rest = g.rest;
            stack = c;
            behind = d;
            comes = g.comes;
            nothing = blocks_so t v b m c d p f.tok g.rest (next_is f w' g.rest g.same) at pk;
          }

  pub loops_of : (w : List Token) → NoEnds w → LoopsBy (automaton_of t) w → Loops t.content w
  loops_of w free k =
      let h : (x : Token) × ((w' : List Token) × (k.rest ≡ x ∷ w')) = first_of k.turns in
      let g : Follows w [] k.first k.rest = follows k.runs w refl free h.0 h.1.0 h.1.1 in
      record {
        rest = g.rest;
        first = k.first;
        second = k.second;
        comes = g.comes;
        turns = turns_of k.turns g.rest g.same;
        same = k.same;
      }
