-- A rule's symbols on a stack cover the tree of its pattern.
use Rattle.std.proofs.Common.{◌≡◌, List, [], ◌∷◌, ◌++◌, refl, sym, ap, ◌∙◌, append_assoc}
use mathlib.Core.List.{append-nil}
use Rattle.tree_core.specs.declared.token.Sort.{Sort}
use Rattle.tree_core.specs.declared.tree.Leaf.{Leaf}
use Rattle.tree_core.specs.Trees.{Forest, none, tree, leaves_onto}
use Rattle.md_reader.specs.declared.types.Class.{Class}
use Rattle.md_reader.specs.declared.types.Rule.{Rule}
use Rattle.md_reader.specs.declared.types.Sym.{Sym}
use Rattle.md_reader.specs.declared.types.Sym.TheVariants as grammar_symbol
use Rattle.md_reader.specs.Patterns.{Trees, no_tree, node, onto, sorted_test}
use Rattle.lr_check_parse.specs.Moves.{Move, Shift}
use Rattle.sel_parse_moves.specs.Covers.{Fills, Parts, Pile}
use Rattle.sel_parse_moves.specs.Covers as cover
use Rattle.sel_terms_trees.specs.Senses.{piled}

pub leaves_before : (f : Forest) (v w : List Leaf) → leaves_onto f v ++ w ≡ leaves_onto f (v ++ w)
leaves_before none v w = refl
leaves_before (tree l below behind) v w = ap (λ (t : List Leaf). l ∷ t) (leaves_before below (leaves_onto behind v) w ∙ ap (leaves_onto below) (leaves_before behind v w))

module _ (classes : List Class) (rules : List Rule) where
  -- what the symbols cover, and what lies below them
  pub record Peeled (right b : List Sym) (w : List Leaf) (ms : List (Move Leaf)) : Type 0 where
    pub low : List Leaf
    pub high : List Leaf
    pub first : List (Move Leaf)
    pub last : List (Move Leaf)
    pub below : Pile classes rules b low first
    pub parts : Parts classes rules right high last
    pub leaves : w ≡ low ++ high
    pub moves : ms ≡ first ++ last

  one_more : (s : Sym) (right b : List Sym) {w high : List Leaf} {ms last : List (Move Leaf)} → Pile classes rules (s ∷ b) w ms → Parts classes rules right high last
      → Peeled (s ∷ right) b (w ++ high) (ms ++ last)
  one_more s right b {high = high} {last = last} (cover.token {w = w} {ms = ms} l fits p) q = record {
    low = w;
    high = l ∷ high;
    first = ms;
    last = Shift l ∷ last;
    below = p;
    parts = cover.token l fits q;
    leaves = append_assoc w (l ∷ []) high;
    moves = append_assoc ms (Shift l ∷ []) last;
  }
  one_more s right b {high = high} {last = last} (cover.class {l = l} {f = f} {w = w} {ms = ms} {ns = ns} p c) q = record {
    low = w;
    high = l ∷ leaves_onto f high;
    first = ms;
    last = ns ++ last;
    below = p;
    parts = cover.class c q;
    leaves = append_assoc w (l ∷ leaves_onto f []) high ∙ ap (λ (t : List Leaf). w ++ (l ∷ t)) (leaves_before f [] high);
    moves = append_assoc ms ns last;
  }

  pub peeled : (right b : List Sym) (w : List Leaf) (ms : List (Move Leaf)) → Pile classes rules (piled right b) w ms → Peeled right b w ms
  peeled [] b w ms p = record {
    low = w;
    high = [];
    first = ms;
    last = [];
    below = p;
    parts = cover.empty;
    leaves = sym (append-nil w);
    moves = sym (append-nil ms);
  }
  peeled (s ∷ right) b w ms p = by (peeled right (s ∷ b) w ms p)
    where
      again : {v : List Leaf} {ns : List (Move Leaf)} → Peeled (s ∷ right) b v ns → w ≡ v → ms ≡ ns → Peeled (s ∷ right) b w ms
      again q e f = record {
        low = q.low;
        high = q.high;
        first = q.first;
        last = q.last;
        below = q.below;
        parts = q.parts;
        leaves = e ∙ q.leaves;
        moves = f ∙ q.moves;
      }

      by : Peeled right (s ∷ b) w ms → Peeled (s ∷ right) b w ms
      by q = again (one_more s right b q.below q.parts) q.leaves q.moves

  -- the trees of a pattern, and the parts behind them
  pub record Filled {xs : List Sort} (pattern : Trees (sorted_test classes) xs) (rest : List Sym) (w : List Leaf) (ms : List (Move Leaf)) : Type 0 where
    pub forest : Forest
    pub left : List Leaf
    pub moves : List (Move Leaf)
    pub others : List (Move Leaf)
    pub fills : Fills classes rules xs pattern forest moves
    pub parts : Parts classes rules rest left others
    pub spelled : leaves_onto forest left ≡ w
    pub logged : ms ≡ moves ++ others

  pub filled : {xs : List Sort} (pattern : Trees (sorted_test classes) xs) (rest : List Sym) (w : List Leaf) (ms : List (Move Leaf)) → Parts classes rules (onto pattern rest) w ms
      → Filled pattern rest w ms
  filled no_tree rest w ms p = record { forest = none; left = w; moves = []; others = ms; fills = cover.nothing; parts = p; spelled = refl; logged = refl }
  filled (node (grammar_symbol.Tok t) passes below beside) rest w ms (cover.token {w = v} {ms = ns} l fits p) = by (filled below (onto beside rest) v ns p) (λ u ks q. filled beside rest u ks q)
    where
      then : (f : Filled below (onto beside rest) v ns) → Filled beside rest f.left f.others → Filled (node (grammar_symbol.Tok l.tok) passes below beside) rest (l ∷ v) (Shift l ∷ ns)
      then f g = record {
        forest = tree l f.forest g.forest;
        left = g.left;
        moves = Shift l ∷ (f.moves ++ g.moves);
        others = g.others;
        fills = cover.token l passes below beside fits f.fills g.fills;
        parts = g.parts;
        spelled = ap (λ (x : List Leaf). l ∷ x) (ap (leaves_onto f.forest) g.spelled ∙ f.spelled);
        logged = ap (λ (x : List (Move Leaf)). Shift l ∷ x) (f.logged ∙ ap (λ (x : List (Move Leaf)). f.moves ++ x) g.logged ∙ sym (append_assoc f.moves g.moves g.others));
      }

      by : Filled below (onto beside rest) v ns → ((u : List Leaf) (ks : List (Move Leaf)) → Parts classes rules (onto beside rest) u ks → Filled beside rest u ks)
          → Filled (node (grammar_symbol.Tok l.tok) passes below beside) rest (l ∷ v) (Shift l ∷ ns)
      by f go = then f (go f.left f.others f.parts)
  filled (node (grammar_symbol.Class c) passes no_tree beside) rest w ms (cover.class {l = l} {f = f} {w = v} {ms = ms'} {ns = ns} covers p) = by (filled beside rest v ns p)
    where
      by : Filled beside rest v ns → Filled (node (grammar_symbol.Class c) passes no_tree beside) rest (l ∷ leaves_onto f v) (ms' ++ ns)
      by g = record {
        forest = tree l f g.forest;
        left = g.left;
        moves = ms' ++ g.moves;
        others = g.others;
        fills = cover.class c passes no_tree beside covers g.fills;
        parts = g.parts;
        spelled = ap (λ (x : List Leaf). l ∷ leaves_onto f x) g.spelled;
        logged = ap (λ (x : List (Move Leaf)). ms' ++ x) g.logged ∙ sym (append_assoc ms' g.moves g.others);
      }
