-- How the parse that stops at the first stack that comes twice ends, where the parse step by step stops.
use Rattle.std.proofs.Common.{◌≡◌, ℕ, suc, List, [], ◌∷◌, Some, None, Contains, length, slice_get, refl, sym, ap, ◌∙◌, subst, arith}
use Rattle.std.proofs.lemmas.List.Elements.{Contains-append_right}
use Rattle.std.proofs.lemmas.Option.{same_Some}
use Rattle.gg_base.proofs.Facts.{some_none}
use Rattle.md_reader.specs.declared.types.Rule.{Rule}
use Rattle.md_reader.specs.declared.types.Sym.{Sym}
use Rattle.md_reader.specs.Valid.{IsValid}
use Rattle.lr_tables.specs.View.{TableView}
use Rattle.lr_tables.specs.Statements.{stmt_of}
use Rattle.lr_tables.specs.Promises.{IsNumbered}
use Rattle.lr_check.specs.declared.sample.Outcome.{Outcome}
use Rattle.lr_check.specs.declared.sample.Outcome.TheVariants as outcome
use Rattle.lr_check.specs.Tree.{Token}
use Rattle.lr_check.specs.Parse.{Part, symbols, reduced, nothing, Reduction, Ends, loops}
use Rattle.lr_check.specs.Parse.{accepts, shifts, reduces, blocks}
use Rattle.lr_check.proofs.Only.{not_shifted, reduction_same}
use Rattle.lr_check_parse.specs.Moves as moves
use Rattle.lr_check_parse.specs.Moves.{Move, Ending, Parses}
use Rattle.lr_check_parse.specs.Lists.{Lists, by_lists, EndsSo}
use Rattle.lr_check_parse.proofs.Existence.{parse_has_end}
use Rattle.lr_check_parse.proofs.Listing.{is_by_lists}
use Rattle.lr_check_samples.specs.Stops.{Moves, by_shift, by_rule, Comes, at_once, by_move, Turns, one_turn, more_turns, Blocks, Loops, EndsAt, ends_blocked, ends_turning, EndsTurning}
use Rattle.lr_check_samples.specs.Claims.{StopsEnd}
use Rattle.lr_check.proofs.Contained.{here}

module _ (rules : List Rule) (stmt : ℕ) where
  stacks_same : (ws : List Token) (s u v : List Part) (i j : ℕ) (r q : Rule) → Reduction rules stmt ws s (Some i) u → Reduction rules stmt ws s (Some j) v → slice_get rules i ≡ Some r →
      slice_get rules j ≡ Some q →
      reduced v q ≡ reduced u r
  stacks_same ws s u v i j r q d c e f =
      let same : (Some i ≡ Some j) × (u ≡ v) = reduction_same rules stmt ws s u v (Some i) (Some j) d c in
      let number : i ≡ j = same_Some i j same.0 in
      let rule : q ≡ r = same_Some q r (sym f ∙ (ap (slice_get rules) (sym number) ∙ e)) in
      (λ k. reduced (sym same.1 k) (rule k))

  -- a move that shifts nothing
  record ByRule (ws : List Token) (s a : List Part) : Type 0 where
    number : ℕ
    rule : Rule
    behind : List Part
    reduction : Reduction rules stmt ws s (Some number) behind
    there : slice_get rules number ≡ Some rule
    same : a ≡ reduced behind rule

  rule_of : {ws us : List Token} {s a : List Part} → Moves rules stmt ws s us a → ws ≡ us → ByRule ws s a
  rule_of (by_shift {w = w} {ws = ws} ne sb) e = absurd (let longer : suc (length ws) ≡ length ws = ap length e in omega (arith, longer))
  rule_of (by_rule {n = n} {s' = u} r red there) e = record { number = n; rule = r; behind = u; reduction = red; there = there; same = refl }

  -- a stack that came before
  came : {at : ℕ} {before : List (List Sym)} {ws : List Token} {s : List Part} {o : Outcome} → Ends rules stmt at before ws s o → Contains before (symbols s) → o ≡ outcome.Loops at
  came (loops h) c = refl
  came (accepts n e f) c = absurd (n c)
  came (shifts n e b x) c = absurd (n c)
  came (reduces r n d e x) c = absurd (n c)
  came (blocks n d) c = absurd (n c)

  -- reductions back to a stack that came before
  turned : {at : ℕ} {before : List (List Sym)} {ws : List Token} {s : List Part} {o : Outcome} → Ends rules stmt at before ws s o → (b : List Part) → Turns rules stmt ws s b →
      Contains (symbols s ∷ before) (symbols b) → o ≡ outcome.Loops at
  turned (loops h) b r c = refl
  turned (accepts {ws = ws} {s = s} n e f) b (one_turn m) c = let k = rule_of m refl in absurd (not_shifted rules stmt k.reduction e f)
  turned (accepts n e f) b (more_turns m r) c = let k = rule_of m refl in absurd (not_shifted rules stmt k.reduction e f)
  turned (shifts n e sb x) b (one_turn m) c = let k = rule_of m refl in absurd (k.reduction.no_shift sb)
  turned (shifts n e sb x) b (more_turns m r) c = let k = rule_of m refl in absurd (k.reduction.no_shift sb)
  turned (blocks {ws = ws} {s = s} {s' = u} n d) b (one_turn m) c =
      let k = rule_of m refl in absurd (some_none k.number (reduction_same rules stmt ws s k.behind u (Some k.number) None k.reduction d).0)
  turned (blocks {ws = ws} {s = s} {s' = u} n d) b (more_turns m r) c =
      let k = rule_of m refl in absurd (some_none k.number (reduction_same rules stmt ws s k.behind u (Some k.number) None k.reduction d).0)
  turned (reduces {at = at} {n = i} {before = before} {ws = ws} {s = s} {s' = u} {o = o} r n d e x) b (one_turn {a = a} m) c =
      let k = rule_of m refl in
      let stack : a ≡ reduced u r = k.same ∙ stacks_same ws s u k.behind i k.number r k.rule d k.reduction e k.there in
      came x (subst (λ l. Contains (symbols s ∷ before) (symbols l)) stack c)
  turned (reduces {at = at} {n = i} {before = before} {ws = ws} {s = s} {s' = u} {o = o} r n d e x) b (more_turns {a = a} m t) c =
      let k = rule_of m refl in
      let stack : a ≡ reduced u r = k.same ∙ stacks_same ws s u k.behind i k.number r k.rule d k.reduction e k.there in
      turned x b (subst (λ l. Turns rules stmt ws l b) stack t) (Contains-append_right (symbols (reduced u r) ∷ []) (symbols s ∷ before) (symbols b) c)

  record Turned (o : Outcome) : Type 0 where
    at : ℕ
    same : o ≡ outcome.Loops at

  ends_turned : {at : ℕ} {before : List (List Sym)} {ws rest : List Token} {s a b : List Part} {o : Outcome} → Ends rules stmt at before ws s o → Comes rules stmt ws s rest a →
      Turns rules stmt rest a b →
      symbols a ≡ symbols b → Turned o
  ends_turned {at = at} {before = before} {b = b} x (at_once {s = s}) t same = record { at = at; same = turned x b t (subst (Contains (symbols s ∷ before)) same (here (symbols s) before)) }
  ends_turned {at = at} (loops h) (by_move m c) t same = record { at = at; same = refl }
  ends_turned (accepts n e f) (by_move (by_shift ne sb) c) t same = absurd (ne f)
  ends_turned (accepts n e f) (by_move (by_rule r red there) c) t same = absurd (not_shifted rules stmt red e f)
  ends_turned (shifts n e sb x) (by_move (by_shift ne sb') c) t same = ends_turned x c t same
  ends_turned (shifts n e sb x) (by_move (by_rule r red there) c) t same = absurd (red.no_shift sb)
  ends_turned (reduces r n d e x) (by_move (by_shift ne sb) c) t same = absurd (d.no_shift sb)
  ends_turned (reduces {n = i} {ws = ws} {s = s} {s' = u} r n d e x) (by_move {vs = rest} {b = a} (by_rule {n = j} {s' = v} q red there) c) t same =
      ends_turned x (subst (λ l. Comes rules stmt ws l rest a) (stacks_same ws s u v i j r q d red e there) c) t same
  ends_turned (blocks n d) (by_move (by_shift ne sb) c) t same = absurd (d.no_shift sb)
  ends_turned (blocks {ws = ws} {s = s} {s' = u} n d) (by_move (by_rule {n = j} {s' = v} q red there) c) t same = absurd (some_none j (reduction_same rules stmt ws s v u (Some j) None red d).0)

  -- where nothing is taken
  data Stopped (o : Outcome) : Type 0 where
    stops_blocked : (at : ℕ) → o ≡ outcome.Blocks at → Stopped o
    stops_turning : (at : ℕ) → o ≡ outcome.Loops at → Stopped o

  ends_stopped : {at : ℕ} {before : List (List Sym)} {ws rest : List Token} {s a b : List Part} {o : Outcome} → Ends rules stmt at before ws s o → Comes rules stmt ws s rest a →
      Reduction rules stmt rest a None b → Stopped o
  ends_stopped {at = at} (loops h) c stop = stops_turning at refl
  ends_stopped {at = at} (blocks n d) c stop = stops_blocked at refl
  ends_stopped (accepts n e f) at_once stop = absurd (not_shifted rules stmt stop e f)
  ends_stopped (accepts n e f) (by_move (by_shift ne sb) c) stop = absurd (ne f)
  ends_stopped (accepts n e f) (by_move (by_rule r red there) c) stop = absurd (not_shifted rules stmt red e f)
  ends_stopped (shifts n e sb x) at_once stop = absurd (stop.no_shift sb)
  ends_stopped (shifts n e sb x) (by_move (by_shift ne sb') c) stop = ends_stopped x c stop
  ends_stopped (shifts n e sb x) (by_move (by_rule r red there) c) stop = absurd (red.no_shift sb)
  ends_stopped {b = b} (reduces {n = i} {ws = ws} {s = s} {s' = u} r n d e x) at_once stop = absurd (some_none i (reduction_same rules stmt ws s u b (Some i) None d stop).0)
  ends_stopped (reduces r n d e x) (by_move (by_shift ne sb) c) stop = absurd (d.no_shift sb)
  ends_stopped (reduces {n = i} {ws = ws} {s = s} {s' = u} r n d e x) (by_move {vs = rest} {b = a} (by_rule {n = j} {s' = v} q red there) c) stop =
      ends_stopped x (subst (λ l. Comes rules stmt ws l rest a) (stacks_same ws s u v i j r q d red e there) c) stop

  -- the parse by lists is not refused
  record HasEnd (end : Ending Lists) : Type 0 where
    outcome : Outcome
    so : EndsSo end outcome

  has_end : {at : ℕ} {before : List (List Sym)} {ws : List Token} {a : List Sym} {x : Lists} {log : List (Move Token)} {e : Ending Lists} → Parses by_lists rules stmt at before ws a x log e →
      HasEnd e
  has_end {at = at} (moves.loops h) = record { outcome = outcome.Loops at; so = refl }
  has_end (moves.accepts n e f) = record { outcome = outcome.Done; so = refl }
  has_end (moves.shifts n e b p) = has_end p
  has_end (moves.reduces r n c t red p) = has_end p
  has_end (moves.refuses r n c t red) = absurd (some_none _ red)
  has_end {at = at} (moves.blocks n c) = record { outcome = outcome.Blocks at; so = refl }

module _ (t : TableView) (v : IsValid t.content) (b : IsNumbered t) (w : List Token) where
  record Ended : Type 0 where
    outcome : Outcome
    ends : Ends t.content.rules (stmt_of t.content.classes) 0 [] w [] outcome

  ended : Ended
  ended =
      let k = parse_has_end by_lists t v b w [] in
      let h = has_end t.content.rules (stmt_of t.content.classes) k.2 in
      record {
        outcome = h.outcome;
        ends = (is_by_lists t.content.rules (stmt_of t.content.classes) 0 [] w [] h.outcome).1
            (record { log = k.0; end = k.1; same = h.so; parses = k.2 });
      }

  blocks_end : Blocks t.content w → EndsAt t.content w
  blocks_end k = by (ends_stopped t.content.rules (stmt_of t.content.classes) ended.ends k.comes k.nothing)
    where
      by : Stopped t.content.rules (stmt_of t.content.classes) ended.outcome → EndsAt t.content w
      by (stops_blocked at e) = ends_blocked at (subst (Ends t.content.rules (stmt_of t.content.classes) 0 [] w []) e ended.ends)
      by (stops_turning at e) = ends_turning at (subst (Ends t.content.rules (stmt_of t.content.classes) 0 [] w []) e ended.ends)

  loops_end : Loops t.content w → EndsTurning t.content w
  loops_end k =
      let h = ends_turned t.content.rules (stmt_of t.content.classes) ended.ends k.comes k.turns k.same in
      record { at = h.at; ends = subst (Ends t.content.rules (stmt_of t.content.classes) 0 [] w []) h.same ended.ends }

pub stops_end : StopsEnd
stops_end t v b w = (blocks_end t v b w, loops_end t v b w)
