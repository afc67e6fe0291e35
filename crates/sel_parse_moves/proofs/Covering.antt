-- Where an attributed parse accepts, the class of statements covers the whole tree.
use Rattle.std.proofs.Common.{◌≡◌, ℕ, zero, suc, ◌+◌, List, [], ◌∷◌, ◌++◌, Option, Some, None, Bool, true, false, Contains, length, take, drop, slice_get, refl, sym, ap, ◌∙◌, subst, arith}
use Rattle.std.proofs.Common.{append_assoc, add-one, ◌==◌}
use Rattle.std.specs.Prelude.{if◌then◌else◌}
use Rattle.std.proofs.lemmas.List.Elements.{Contains-append_right}
use Rattle.std.proofs.lemmas.Option.{same_Some}
use Rattle.gg_base.proofs.Facts.{some_none}
use mathlib.Core.List.{append-nil}
use Rattle.tree_core.specs.declared.token.Tok.TheVariants as tok
use Rattle.tree_core.specs.declared.token.Sort.{Sort}
use Rattle.tree_core.specs.declared.tree.Leaf.{Leaf}
use Rattle.tree_core.specs.Attributes.{leaf_fits}
use Rattle.tree_core.specs.Trees.{Forest, none, tree, leaves_onto}
use Rattle.md_reader.specs.declared.types.Class.{Class}
use Rattle.md_reader.specs.declared.types.Restriction.{Restriction}
use Rattle.md_reader.specs.declared.types.Rule.{Rule}
use Rattle.md_reader.specs.declared.types.Sym.{Sym}
use Rattle.md_reader.specs.declared.types.Sym.TheVariants as grammar_symbol
use Rattle.md_reader.specs.Patterns.{Trees, no_tree, sorted_test}
use Rattle.md_reader.specs.Valid.{IsRule}
use Rattle.lr_check_parse.specs.lr_tables.specs.declared.item.Item.{Item}
use Rattle.lr_check_parse.specs.lr_tables.specs.Items.{right_of, right_at, next, advanced, Items, starts, opens, moves}
use Rattle.lr_check_parse.specs.lr_tables.specs.Candidates.{MayReduce}
use Rattle.lr_check_parse.specs.lr_check.proofs.Contained.{here}
use Rattle.sel_parse_moves.specs.Made.{Made}
use Rattle.lr_check_parse.specs.Moves.{Move, Shift, Reduce, Ending, Accepts, coming, Taken as TakenRule, decided_at, taken, Choice, Parses}
use Rattle.lr_check_parse.specs.Moves as parse
use Rattle.lr_check_parse.specs.Attributes.{Selecting, all_hold, symbols_of, answered, by_attributes}
use Rattle.lr_check_parse.proofs.Choosing as choosing
use Rattle.sel_parse_moves.specs.Made as made
use Rattle.sel_parse_moves.specs.Covers.{Covers, Fills, Parts, Pile, CoversAll}
use Rattle.sel_parse_moves.specs.Covers as cover
use Rattle.sel_terms_trees.specs.Senses.{piled}
use Rattle.sel_parse_moves.proofs.Piles.{Peeled, peeled, Filled, filled}

piled_more : {Y : Type 0} (ys : List Y) (y : Y) (b : List Y) → piled (ys ++ y ∷ []) b ≡ y ∷ piled ys b
piled_more [] y b = refl
piled_more (z ∷ ys) y b = piled_more ys y (z ∷ b)

take_next : {Y : Type 0} (d : ℕ) (ys : List Y) (y : Y) → slice_get ys d ≡ Some y → take (suc d) ys ≡ take d ys ++ y ∷ []
take_next zero [] y e = absurd (some_none y (sym e))
take_next (suc d) [] y e = absurd (some_none y (sym e))
take_next zero (z ∷ ys) y e = ap (λ (t : _). t ∷ []) (same_Some z y e)
take_next (suc d) (z ∷ ys) y e = ap (λ (t : List _). z ∷ t) (take_next d ys y e)

take_whole : {Y : Type 0} (ys : List Y) → take (length ys) ys ≡ ys
take_whole [] = refl
take_whole (y ∷ ys) = ap (λ (t : List _). y ∷ t) (take_whole ys)

module _ (rules : List Rule) (stmt : ℕ) where
  -- the symbols before an item's dot stand on top of the stack
  abbrev On : List Sym → Item → Type 0
  On a i = piled (take i.dot (right_of rules stmt i.rule)) (drop i.dot a) ≡ a

  on_more : (a : List Sym) (i : Item) (X : Sym) → On a i → next rules stmt i ≡ Some X → On (X ∷ a) (advanced i)
  on_more a i X h e =
      let one : i.dot + 1 ≡ suc i.dot = add-one i.dot in
      ap (λ (n : ℕ). piled (take n (right_of rules stmt i.rule)) (drop n (X ∷ a))) one
      ∙ ap (λ (t : List Sym). piled t (drop i.dot a)) (take_next i.dot (right_of rules stmt i.rule) X e)
      ∙ piled_more (take i.dot (right_of rules stmt i.rule)) X (drop i.dot a)
      ∙ ap (λ (t : List Sym). X ∷ t) h

  pub stands_on : {a : List Sym} {i : Item} → Items rules stmt a i → On a i
  stands_on starts = refl
  stands_on (opens h e f) = refl
  stands_on (moves {a = a} {i = i} {X = X} h before e) = subst (On (X ∷ a)) (sym e) (on_more a i X (stands_on h) before)

  -- a complete right side stands on top of the stack
  pub right_on : (a : List Sym) (n : ℕ) (r : Rule) → slice_get rules n ≡ Some r → Items rules stmt a (record { rule = Some n; dot = length r.right }) → piled r.right (drop (length r.right) a) ≡ a
  right_on a n r e h =
      let whole : take (length r.right) (right_of rules stmt (Some n)) ≡ r.right = ap (λ (o : Option Rule). take (length r.right) (right_at o)) e ∙ take_whole r.right in
      ap (λ (t : List Sym). piled t (drop (length r.right) a)) (sym whole) ∙ stands_on h

-- leaves of trees: each fits its token, and none is `End`
abbrev pub AreLeaves : List Leaf → Type 0
AreLeaves [] = Unit {0}
AreLeaves (l ∷ w) = (leaf_fits l ≡ true) × (l.tok ≡ tok.End → ⊥) × AreLeaves w

module _ (classes : List Class) (rules : List Rule) where
  -- one tree fills a pattern for one place
  pub record Single {x : Sort} (pattern : Trees (sorted_test classes) (x ∷ [])) (forest : Forest) (ms : List (Move Leaf)) : Type 0 where
    pub leaf : Leaf
    pub below : Forest
    pub fills : Fills classes rules (x ∷ []) pattern (tree leaf below none) ms
    pub is : forest ≡ tree leaf below none

  pub single : {x : Sort} (pattern : Trees (sorted_test classes) (x ∷ [])) (forest : Forest) (ms : List (Move Leaf)) → Fills classes rules (x ∷ []) pattern forest ms → Single pattern forest ms
  single pattern forest ms (cover.token {f = f} l passes below no_tree fits p cover.nothing) =
      record { leaf = l; below = f; fills = cover.token l passes below no_tree fits p cover.nothing; is = refl }
  single pattern forest ms (cover.class {f = f} {l = l} c passes below no_tree p cover.nothing) =
      record { leaf = l; below = f; fills = cover.class c passes below no_tree p cover.nothing; is = refl }

  nothing_left : {w : List Leaf} {ms : List (Move Leaf)} → Parts classes rules [] w ms → (w ≡ []) × (ms ≡ [])
  nothing_left cover.empty = (refl, refl)

  nothing_below : {w : List Leaf} {ms : List (Move Leaf)} → Pile classes rules [] w ms → (w ≡ []) × (ms ≡ [])
  nothing_below cover.empty = (refl, refl)

  -- a rule's right side covers one tree
  pub whole_tree : (n : ℕ) (r : Rule) (w : List Leaf) (ms : List (Move Leaf)) → slice_get rules n ≡ Some r → IsRule classes r → Parts classes rules r.right w ms
      → CoversAll classes rules r.left w (ms ++ Reduce n ∷ [])
  whole_tree n r w ms there valid p =
      by (filled classes rules valid.sides.sorted.tree [] w ms (subst (λ (t : List Sym). Parts classes rules t w ms) (sym valid.sides.sorted.spelled) p))
    where
      done : (f : Filled classes rules valid.sides.sorted.tree [] w ms) → Single valid.sides.sorted.tree f.forest f.moves → CoversAll classes rules r.left w (ms ++ Reduce n ∷ [])
      done f s =
          let e = nothing_left f.parts in
          let logged : f.moves ≡ ms = sym (append-nil f.moves) ∙ ap (λ (t : List (Move Leaf)). f.moves ++ t) (sym e.1) ∙ sym f.logged in
          record {
            leaf = s.leaf;
            below = s.below;
            covers = subst (λ (t : List (Move Leaf)). Covers classes rules r.left s.leaf s.below (t ++ Reduce n ∷ [])) logged
                (cover.by_rule n r valid.sides.sorted.tree there valid.sides.declared valid.sides.sorted.spelled s.fills);
            spelled = ap (λ (t : Forest). leaves_onto t []) (sym s.is) ∙ ap (leaves_onto f.forest) (sym e.0) ∙ f.spelled;
          }

      by : Filled classes rules valid.sides.sorted.tree [] w ms → CoversAll classes rules r.left w (ms ++ Reduce n ∷ [])
      by f = done f (single valid.sides.sorted.tree f.forest f.moves f.fills)

  -- the one entry of a stack
  alone : {c : ℕ} {w : List Leaf} {ms : List (Move Leaf)} → Pile classes rules (grammar_symbol.Class c ∷ []) w ms → CoversAll classes rules c w ms
  alone (cover.class {c = d} {l = l} {f = f} {ns = ns} p c) = (let e = nothing_below p in
      record {
        leaf = l;
        below = f;
        covers = subst (λ (t : List (Move Leaf)). Covers classes rules d l f (t ++ ns)) (sym e.1) c;
        spelled = ap (λ (t : List Leaf). t ++ (l ∷ leaves_onto f [])) (sym e.0);
      })

  pub same_covers : (c : ℕ) (w v : List Leaf) (ms ns : List (Move Leaf)) → w ≡ v → ms ≡ ns → CoversAll classes rules c w ms → CoversAll classes rules c v ns
  same_covers c w v ms ns e f h = record { leaf = h.leaf; below = h.below; covers = subst (Covers classes rules c h.leaf h.below) f h.covers; spelled = h.spelled ∙ e }

  -- a rule is taken: its class lies on the stack in the place of its right side
  pub record Taken (left : ℕ) (n : ℕ) (b : List Sym) (w : List Leaf) (ms : List (Move Leaf)) : Type 0 where
    pub pile : Pile classes rules (grammar_symbol.Class left ∷ b) w (ms ++ Reduce n ∷ [])

  pub taken_on : (n : ℕ) (r : Rule) (a b : List Sym) (w : List Leaf) (ms : List (Move Leaf)) → slice_get rules n ≡ Some r → IsRule classes r → piled r.right b ≡ a → Pile classes rules a w ms
      → Taken r.left n b w ms
  taken_on n r a b w ms there valid e p = by (peeled classes rules r.right b w ms (subst (λ (t : List Sym). Pile classes rules t w ms) (sym e) p))
    where
      done : (q : Peeled classes rules r.right b w ms) → CoversAll classes rules r.left q.high (q.last ++ Reduce n ∷ []) → Taken r.left n b w ms
      done q c =
          let f : q.low ++ (c.leaf ∷ leaves_onto c.below []) ≡ w = ap (λ (t : List Leaf). q.low ++ t) c.spelled ∙ sym q.leaves in
          let g : q.first ++ (q.last ++ Reduce n ∷ []) ≡ ms ++ Reduce n ∷ [] = sym (append_assoc q.first q.last (Reduce n ∷ []))
          ∙ ap (λ (t : List (Move Leaf)). t ++ Reduce n ∷ []) (sym q.moves) in
          record {
            pile = subst (λ (t : List Leaf). Pile classes rules (grammar_symbol.Class r.left ∷ b) t (ms ++ Reduce n ∷ [])) f
                (subst (λ (t : List (Move Leaf)). Pile classes rules (grammar_symbol.Class r.left ∷ b) (q.low ++ (c.leaf ∷ leaves_onto c.below [])) t) g (cover.class q.below c.covers));
          }

      by : Peeled classes rules r.right b w ms → Taken r.left n b w ms
      by q = done q (whole_tree n r q.high q.last there valid q.parts)

module _ {X A : Type 0} (of : Selecting X A) (classes : List Class) (rules : List Rule) (stmt : ℕ) where
  abbrev Result : Option ℕ → X → TakenRule X
  Result o y = record { rule = o; kept = y }

  -- what is known of a candidate that is taken: its restrictions hold, and the questions changed nothing
  pub record Picked (ns : List ℕ) (x : X) (n : ℕ) (y : X) : Type 0 where
    pub rule : Rule
    pub there : slice_get rules n ≡ Some rule
    pub holds : answered of rule x ≡ true
    pub same : x ≡ y
    pub among : Contains ns n

  -- where there are no restrictions, they hold
  unrestricted : (hs : List A) (rs : List Restriction) → (length rs == 0) ≡ true → all_hold of hs rs ≡ true
  unrestricted hs [] e = refl
  unrestricted hs (r ∷ rs) e = absurd (let h = choosing.no_more (length (r ∷ rs)) e in omega (arith, h))

  picked : (ns : List ℕ) (x : X) (n : ℕ) (y : X) → taken (by_attributes of) rules ns x ≡ Result (Some n) y → Picked ns x n y
  picked [] x n y e = absurd (some_none n (sym (ap (λ (t : TakenRule X). t.rule) e)))
  picked (m ∷ ns) x n y e = by (slice_get rules m) refl e (λ f. picked ns x n y f)
    where
      later : Picked ns x n y → Picked (m ∷ ns) x n y
      later p = record { rule = p.rule; there = p.there; holds = p.holds; same = p.same; among = Contains-append_right (m ∷ []) ns n p.among }

      first : (r : Rule) → slice_get rules m ≡ Some r → answered of r x ≡ true → Result (Some m) x ≡ Result (Some n) y → Picked (m ∷ ns) x n y
      first r there holds f =
          let s : m ≡ n = same_Some m n (ap (λ (t : TakenRule X). t.rule) f) in
          record {
            rule = r;
            there = subst (λ (k : ℕ). slice_get rules k ≡ Some r) s there;
            holds = holds;
            same = ap (λ (t : TakenRule X). t.kept) f;
            among = subst (Contains (m ∷ ns)) s (here m ns);
          }

      tests : (r : Rule) → slice_get rules m ≡ Some r → (b c : Bool) → (length r.restrictions == 0) ≡ b → answered of r x ≡ c
          → (if b then Result (Some m) x else if c then Result (Some m) x else taken (by_attributes of) rules ns x) ≡ Result (Some n) y
          → (taken (by_attributes of) rules ns x ≡ Result (Some n) y → Picked ns x n y) → Picked (m ∷ ns) x n y
      tests r there true c e g f go = first r there (unrestricted (symbols_of of (length r.right) x) r.restrictions e) f
      tests r there false true e g f go = first r there g f
      tests r there false false e g f go = later (go f)

      by : (o : Option Rule) → slice_get rules m ≡ o → decided_at (by_attributes of) m o x (λ z. taken (by_attributes of) rules ns z) ≡ Result (Some n) y
          → (taken (by_attributes of) rules ns x ≡ Result (Some n) y → Picked ns x n y) → Picked (m ∷ ns) x n y
      by None there f go = later (go f)
      by (Some r) there f go = tests r there (length r.restrictions == 0) (answered of r x) refl refl f go

  -- what is known of a rule that is taken
  pub record Known (a : List Sym) (x : X) (n : ℕ) (r : Rule) (y : X) : Type 0 where
    pub on : piled r.right (drop (length r.right) a) ≡ a
    pub holds : answered of r x ≡ true
    pub same : x ≡ y

  pub known : (ws : List Leaf) (a : List Sym) (x : X) (n : ℕ) (r : Rule) (y : X) → Choice (by_attributes of) rules stmt ws a x (Some n) y
      → slice_get rules n ≡ Some r → Known a x n r y
  known ws a x n r y c there =
      let h = picked c.candidates x n y c.takes in
      by ((c.in_order.exactly n).0 h.among) h
    where
      by : MayReduce rules stmt a (coming (by_attributes of) ws) n → Picked c.candidates x n y → Known a x n r y
      by m h =
          let same : m.rule ≡ r = same_Some m.rule r (sym m.there ∙ there) in
          record {
            on = right_on rules stmt a n r there
                (subst (λ (q : Rule). Items rules stmt a (record { rule = Some n; dot = length q.right })) same m.complete);
            holds = subst (λ (q : Rule). answered of q x ≡ true) (same_Some h.rule r (sym h.there ∙ there)) h.holds;
            same = h.same;
          }

  no_more : (ws : List Leaf) → AreLeaves ws → coming (by_attributes of) ws ≡ tok.End → ws ≡ []
  no_more [] h e = refl
  no_more (l ∷ ws) h e = absurd (h.1 e)

  -- the parse accepts: the moves so far and those to come make the class of statements cover all leaves, and they are made in order
  pub record Whole (w : List Leaf) (ms : List (Move Leaf)) (x : X) (log : List (Move Leaf)) (y : X) : Type 0 where
    pub covers : CoversAll classes rules stmt w (ms ++ log)
    pub made : Made of rules x log y

  accepted : (ws : List Leaf) (a : List Sym) (x y : X) (w : List Leaf) (ms : List (Move Leaf)) → AreLeaves ws → a ≡ grammar_symbol.Class stmt ∷ [] → coming (by_attributes of) ws ≡ tok.End
      → Accepts x ≡ Accepts y → Pile classes rules a w ms → Whole (w ++ ws) ms x [] y
  accepted ws a x y w ms leaves e f g p =
      let h = alone classes rules (subst (λ (t : List Sym). Pile classes rules t w ms) e p) in
      let last : x ≡ y = cc in
      record {
        covers = same_covers classes rules stmt w (w ++ ws) ms (ms ++ []) (sym (append-nil w) ∙ ap (λ (t : List Leaf). w ++ t) (sym (no_more ws leaves f))) (sym (append-nil ms)) h;
        made = subst (Made of rules x []) last made.none;
      }

  shifted : (l : Leaf) (ws : List Leaf) (x y : X) (w : List Leaf) (ms log : List (Move Leaf)) → Whole ((w ++ l ∷ []) ++ ws) (ms ++ Shift l ∷ []) (of.shifted l x) log y
      → Whole (w ++ (l ∷ ws)) ms x (Shift l ∷ log) y
  shifted l ws x y w ms log h = record {
    covers = same_covers classes rules stmt ((w ++ l ∷ []) ++ ws) (w ++ (l ∷ ws)) ((ms ++ Shift l ∷ []) ++ log) (ms ++ (Shift l ∷ log)) (append_assoc w (l ∷ []) ws)
        (append_assoc ms (Shift l ∷ []) log) h.covers;
    made = made.shift l h.made;
  }

  reduced : (n : ℕ) (r : Rule) (x x' y : X) (w : List Leaf) (ms log : List (Move Leaf)) → slice_get rules n ≡ Some r → answered of r x ≡ true → of.reduced n x ≡ Some x'
      → Whole w (ms ++ Reduce n ∷ []) x' log y → Whole w ms x (Reduce n ∷ log) y
  reduced n r x x' y w ms log there holds red h = record {
    covers = same_covers classes rules stmt w w ((ms ++ Reduce n ∷ []) ++ log) (ms ++ (Reduce n ∷ log)) refl (append_assoc ms (Reduce n ∷ []) log) h.covers;
    made = made.reduce r there holds red h.made;
  }

  not_accepted : (at : ℕ) (y : X) → parse.Blocks at ≡ Accepts y → ⊥
  not_accepted at y e = cc

  no_circle : (at : ℕ) (y : X) → parse.Loops at ≡ Accepts y → ⊥
  no_circle at y e = cc

  not_refused : (y : X) → parse.Refuses ≡ Accepts y → ⊥
  not_refused y e = cc

  pub covers_whole : ((n : ℕ) (r : Rule) → slice_get rules n ≡ Some r → IsRule classes r)
      → {at : ℕ} {before : List (List Sym)} {ws : List Leaf} {a : List Sym} {x : X} {log : List (Move Leaf)} {e : Ending X}
      → Parses (by_attributes of) rules stmt at before ws a x log e
      → (y : X) (w : List Leaf) (ms : List (Move Leaf)) → e ≡ Accepts y → AreLeaves ws → Pile classes rules a w ms → Whole (w ++ ws) ms x log y
  covers_whole valid (parse.loops {at = at} h) y w ms e leaves p = absurd (no_circle at y e)
  covers_whole valid (parse.accepts {ws = ws} {a = a} {x = x} h s f) y w ms e leaves p = accepted ws a x y w ms leaves s f e p
  covers_whole valid (parse.shifts {l = l} {ws = ws} {a = a} {x = x} {log = log} h q s more) y w ms e leaves p =
      shifted l ws x y w ms log (covers_whole valid more y (w ++ l ∷ []) (ms ++ Shift l ∷ []) e leaves.2 (cover.token l leaves.0 p))
  covers_whole valid (parse.reduces {n = n} {ws = ws} {a = a} {x = x} {y = y'} {z = z} {log = log} r h c there red more) y w ms e leaves p =
      let k = known ws a x n r y' c there in
      let t = taken_on classes rules n r a (drop (length r.right) a) w ms there (valid n r there) k.on p in
      reduced n r x z y (w ++ ws) ms log there k.holds (ap (of.reduced n) k.same ∙ red) (covers_whole valid more y w (ms ++ Reduce n ∷ []) e leaves t.pile)
  covers_whole valid (parse.refuses r h c there f) y w ms e leaves p = absurd (not_refused y e)
  covers_whole valid (parse.blocks {at = at} h c) y w ms e leaves p = absurd (not_accepted at y e)
