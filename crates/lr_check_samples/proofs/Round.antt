-- The parse of the tree round a place comes to the place, with a stack that answers no to all.
use Rattle.std.proofs.Common.{◌≡◌, ℕ, zero, suc, List, [], ◌∷◌, ◌++◌, Some, Bool, false, refl, ap, sym, ◌∙◌, subst, append_assoc, append-nil}
use Rattle.std.proofs.lemmas.Option.{same_Some}
use Rattle.gg_base.proofs.Facts.{tail_same}
use Rattle.tree_core.specs.declared.token.Tok.{Tok}
use Rattle.tree_core.specs.declared.token.Sort.{Sort}
use Rattle.md_reader.specs.declared.types.Sym.{Sym}
use Rattle.md_reader.specs.declared.types.Sym.TheVariants as grammar_symbol
use Rattle.lr_tables.specs.View.{TableView}
use Rattle.lr_check.specs.Tree.{Token}
use Rattle.lr_check.specs.Parse.{Part}
use Rattle.lr_check_sets.specs.Automaton.{Automaton, walk, go_from, IsTable}
use Rattle.lr_check_sets.specs.Exact.{MeetsLaws}
use Rattle.lr_check_sets.specs.Table.{automaton_of}
use Rattle.lr_check_sets.specs.Answers.{next_token, the_end, pick, shifts, Runs, here, then_step}
use Rattle.lr_check_sets.proofs.Walks.{walk-append}
use Rattle.lr_check_sets.proofs.Reached.{hold, runs-append}
use Rattle.lr_check_sets.proofs.Fixed.{push_at, pushes}
use Rattle.lr_check_found.specs.declared.places.Place.{Place}
use Rattle.lr_check_found.specs.declared.places.Origin.TheVariants as origin
use Rattle.lr_check_found.specs.Found.{FoundView, IsPlaceAt, SettlesAt}
use Rattle.lr_check_found.specs.Sound.{IsFound}
use Rattle.lr_check_found.proofs.Deriving.{IsSum, sum_of}
use Rattle.lr_check_samples.specs.Quiet.{answer_at, AreAlike, bare, IsQuiet}
use Rattle.lr_check_samples.specs.Fixed.{leaf, Fixed, BeginsWith, Context, at_root, at_only, at_first, at_second}
use Rattle.lr_check_samples.proofs.Alike.{alike-trans, symbols-quiet, symbols-bare, RunsSo, runs_so}
use Rattle.lr_check_samples.proofs.Leading.{Leads}
use Rattle.lr_check_samples.proofs.Making.{AreSame, same_settling, settles_of}
use Rattle.lr_check_samples.proofs.Beginning.{BegunFirst, BegunSecond, begun_root, begun_first, begun_second, begun_so}
use Rattle.lr_check_samples.proofs.Found_trees.{table, leads}

-- no at some depths is as nothing
push-quiet : (d : ℕ) (s : List Sym) (z : List Part) → AreAlike z (bare s) → AreAlike (push_at d z) (bare s)
push-quiet d [] [] h = tt
push-quiet d (X ∷ s) [] h = absurd h
push-quiet d [] (g ∷ z) h = absurd h
push-quiet zero (X ∷ s) (g ∷ z) h = (h.0, no, h.2)
  where
    no : (n : ℕ) → answer_at (false ∷ g.answers) n ≡ answer_at [] n
    no zero = refl
    no (suc n) = h.1 n
push-quiet (suc d) (X ∷ s) (g ∷ z) h = (h.0, h.1, push-quiet d s z h.2)

alike-bare : (s : List Sym) → AreAlike (bare s) (bare s)
alike-bare [] = tt
alike-bare (X ∷ s) = (refl, (λ n. refl), alike-bare s)

pub pushes-quiet : (ds : List ℕ) (s : List Sym) → AreAlike (pushes ds (bare s)) (bare s)
pushes-quiet [] s = alike-bare s
pushes-quiet (d ∷ ds) s = push-quiet d s (pushes ds (bare s)) (pushes-quiet ds s)

hold-bare : (s a : List Sym) → hold s [] ++ bare a ≡ bare (s ++ a)
hold-bare [] a = refl
hold-bare (X ∷ []) a = refl
hold-bare (X ∷ Y ∷ s) a = ap (λ l. record { symbol = X; answers = [] } ∷ l) (hold-bare (Y ∷ s) a)

-- some steps to a stack of these symbols that answers no to all
pub record Comes (A : Automaton) (z : List Part) (w : List Token) (a : List Sym) (v : List Token) : Type 0 where
  pub stack : List Part
  pub quiet : IsQuiet a stack
  pub runs : Runs A z w stack v

pub comes-append : {A : Automaton} {z : List Part} {u v w : List Token} {a b : List Sym} → (c : Comes A z u a v) → Comes A c.stack v b w → Comes A z u b w
comes-append c d = record { stack = d.stack; quiet = d.quiet; runs = runs-append c.runs d.runs }

comes_as : {A : Automaton} {z : List Part} {u u' v : List Token} {a a' : List Sym} → u ≡ u' → a ≡ a' → Comes A z u a v → Comes A z u' a' v
comes_as {A = A} {z = z} {u = u} {u' = u'} {v = v} {a = a} {a' = a'} e g c = subst (λ x. Comes A z x a' v) e (subst (λ x. Comes A z u x v) g c)

-- a tree that leads to a list, on a stack that answers no to all
pub comes_to_list : {A : Automaton} {q : ℕ} {k n : Tok} {s : List Sym} {ws : List Token} {own : List Bool} {ds : List ℕ} → Leads A q k n s ws own ds →
    (b : List Bool) (a : List Sym) (z : List Part) (w : List Token) →
    IsQuiet a z → walk A 0 a ≡ Some q → next_token w ≡ Some n → RunsSo A z (leaf k (own ++ b) ∷ (ws ++ w)) (hold s b ++ bare a) w
comes_to_list {ds = ds} l b a z w quiet at next = runs_so z (l.runs b a (bare a) w at (symbols-bare a) next) (alike-trans (pushes ds (bare a)) (bare a) z (pushes-quiet ds a) quiet)

pub comes_to_quiet : {A : Automaton} {q : ℕ} {k n : Tok} {s : List Sym} {ws : List Token} {own : List Bool} {ds : List ℕ} → Leads A q k n s ws own ds →
    (a : List Sym) (z : List Part) (w : List Token) →
    IsQuiet a z → walk A 0 a ≡ Some q → next_token w ≡ Some n → Comes A z (leaf k own ∷ (ws ++ w)) (s ++ a) w
comes_to_quiet {A = A} {k = k} {s = s} {ws = ws} {own = own} l a z w quiet at next =
    let r : RunsSo A z (leaf k (own ++ []) ∷ (ws ++ w)) (hold s [] ++ bare a) w = comes_to_list l [] a z w quiet at next in
    record {
      stack = r.stack;
      quiet = subst (λ x. AreAlike x r.stack) (hold-bare s a) r.alike;
      runs = subst (λ (c : List Bool). Runs A z (leaf k c ∷ (ws ++ w)) r.stack w) (append-nil own) r.runs;
    }

-- the place, with what is before it and behind it
pub record Reaches (A : Automaton) (x : Place) (before behind : List Token) : Type 0 where
  pub below : List Sym
  pub at : walk A 0 below ≡ Some x.state
  pub next : next_token (behind ++ the_end) ≡ Some x.behind
  pub comes : (w : List Token) → next_token w ≡ Some x.token → Comes A [] (before ++ w) below w

-- an ancestor's token is shifted
shifted : (A : Automaton) (table : IsTable A) (y : Place) (p : ℕ) (a : List Sym) (z : List Part) (w : List Token) → A.go y.state (grammar_symbol.Tok y.token) ≡ Some p → walk A 0 a ≡ Some y.state →
    IsQuiet a z →
    Comes A z (leaf y.token [] ∷ w) (grammar_symbol.Tok y.token ∷ a) w
shifted A table y p a z w go at quiet = record {
  stack = record { symbol = grammar_symbol.Tok y.token; answers = [] } ∷ z;
  quiet = (refl, (λ n. refl), quiet);
  runs = then_step here (shifts (ap (walk A 0) (symbols-quiet a z quiet) ∙ at) (ap (λ cs. pick cs z) (table.shift_alone a y.state y.token p at go)));
}

walk_one : (A : Automaton) (y : Place) (p : ℕ) (a : List Sym) → A.go y.state (grammar_symbol.Tok y.token) ≡ Some p → walk A 0 a ≡ Some y.state → walk A 0 (grammar_symbol.Tok y.token ∷ a) ≡ Some p
walk_one A y p a go at = ap (λ o. go_from A o (grammar_symbol.Tok y.token)) at ∙ go

below_first : (A : Automaton) (table : IsTable A) (x y : Place) (before behind us : List Token) → Reaches A y before behind → BegunFirst A x y →
    next_token (us ++ (behind ++ the_end)) ≡ Some x.behind →
    Reaches A x (before ++ leaf y.token [] ∷ []) (us ++ behind)
below_first A table x y before behind us r g next = record {
  below = grammar_symbol.Tok y.token ∷ r.below;
  at = walk_one A y g.state r.below g.go r.at ∙ ap Some (sym g.at);
  next = ap next_token (append_assoc us behind the_end) ∙ next;
  comes = λ w e.
      let c : Comes A [] (before ++ (leaf y.token [] ∷ w)) r.below (leaf y.token [] ∷ w) = r.comes (leaf y.token [] ∷ w) refl in
      comes_as (sym (append_assoc before (leaf y.token [] ∷ []) w)) refl (comes-append c (shifted A table y g.state r.below c.stack w g.go r.at c.quiet));
}

begins_so : {v : Sort} {k : Tok} {us : List Token} (w : List Token) → BeginsWith v k us → next_token (us ++ w) ≡ Some k
begins_so w b = ap (λ l. next_token (l ++ w)) b.first

module _ (t : TableView) (m : MeetsLaws t) (f : FoundView) (found : IsFound (automaton_of t) f) where
  below_second : (x y z : Place) (j p : ℕ) (s : List Sym) (before behind ws : List Token) (own : List Bool) (ds : List ℕ) → Reaches (automaton_of t) y before behind →
      BegunSecond (automaton_of t) f j x y → SettlesAt f j z s p →
      Fixed (automaton_of t) f j ws own ds → Reaches (automaton_of t) x (before ++ leaf y.token [] ∷ leaf z.token own ∷ ws) behind
  below_second x y z j p s before behind ws own ds r g at kid =
      let same : AreSame z g.kid s g.list p g.last = same_settling at (settles_of g.sum) in
      let l : Leads (automaton_of t) g.state z.token x.token s ws own ds =
      subst (λ n. Leads (automaton_of t) g.state z.token n s ws own ds) (ap (λ (c : Place). c.behind) same.places ∙ g.fits.behind)
      (subst (λ q. Leads (automaton_of t) q z.token z.behind s ws own ds) (ap (λ (c : Place). c.state) same.places ∙ g.fits.state) (leads t m f found kid z s p at)) in
      let sum : IsSum (automaton_of t) g.kid g.list g.last = sum_of (automaton_of t) f j g.kid g.list g.last found g.sum in
      let walks : walk (automaton_of t) g.state s ≡ Some g.last =
      subst (λ u. walk (automaton_of t) g.state u ≡ Some g.last) (sym same.lists) (subst (λ q. walk (automaton_of t) q g.list ≡ Some g.last) g.fits.state sum.walks) in
      let one : walk (automaton_of t) 0 (grammar_symbol.Tok y.token ∷ r.below) ≡ Some g.state = walk_one (automaton_of t) y g.state r.below g.has.go r.at in
      record {
        below = s ++ (grammar_symbol.Tok y.token ∷ r.below);
        at = walk-append (automaton_of t) 0 g.state s (grammar_symbol.Tok y.token ∷ r.below) one ∙ (walks ∙ ap Some (sym g.second_fits.state));
        next = r.next ∙ ap Some (sym g.second_fits.behind);
        comes = λ w e.
            let u : List Token = leaf z.token own ∷ (ws ++ w) in
            let c : Comes (automaton_of t) [] (before ++ (leaf y.token [] ∷ u)) r.below (leaf y.token [] ∷ u) = r.comes (leaf y.token [] ∷ u) refl in
            let d : Comes (automaton_of t) [] (before ++ (leaf y.token [] ∷ u)) (grammar_symbol.Tok y.token ∷ r.below) u =
            comes-append c (shifted (automaton_of t) (table t m) y g.state r.below c.stack u g.has.go r.at c.quiet) in
            comes_as (sym (append_assoc before (leaf y.token [] ∷ leaf z.token own ∷ ws) w)) refl
            (comes-append d (comes_to_quiet l (grammar_symbol.Tok y.token ∷ r.below) d.stack w d.quiet one e));
      }

  pub reaches : {n : ℕ} {before behind : List Token} → Context (automaton_of t) f n before behind → (x : Place) → IsPlaceAt f n x → Reaches (automaton_of t) x before behind
  reaches {n = n} (at_root is) x at =
      let g = begun_root (begun_so (automaton_of t) f found n x origin.Root at is) refl in
      record { below = []; at = ap Some (sym g.state); next = ap Some (sym g.behind); comes = λ w e. record { stack = []; quiet = tt; runs = here } }
  reaches {n = n} (at_only {i = i} {y = y} {before = before} {behind = behind} is there kid c) x at =
      let g : BegunFirst (automaton_of t) x y = begun_first (begun_so (automaton_of t) f found n x (origin.First i) at is) i y refl there in
      let r : Reaches (automaton_of t) y before behind = reaches c y there in
      below_first (automaton_of t) (table t m) x y before behind [] r g (r.next ∙ ap Some (sym (g.behind (tail_same _ _ _ _ (sym g.kid ∙ kid)))))
  reaches {n = n} (at_first {i = i} {y = y} {z = z} {before = before} {behind = behind} {us = us} is there kid there' begins c) x at =
      let g : BegunFirst (automaton_of t) x y = begun_first (begun_so (automaton_of t) f found n x (origin.First i) at is) i y refl there in
      let r : Reaches (automaton_of t) y before behind = reaches c y there in
      below_first (automaton_of t) (table t m) x y before behind us r g (begins_so (behind ++ the_end) begins ∙ ap (λ (c : Place). Some c.behind) (same_Some z x (sym there' ∙ at)))
  reaches {n = n} (at_second {i = i} {j = j} {p = p} {y = y} {z = z} {s = s} {before = before} {behind = behind} {ws = ws} {own = own} {ds = ds} is there at' kid c) x at =
      let g : BegunSecond (automaton_of t) f j x y = begun_second (begun_so (automaton_of t) f found n x (origin.Second i j) at is) i j y refl there in
      let r : Reaches (automaton_of t) y before behind = reaches c y there in
      below_second x y z j p s before behind ws own ds r g at' kid
