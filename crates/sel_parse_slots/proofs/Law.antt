-- A parse uses no more words than the tree has tokens with two kids, and one.
use Rattle.std.proofs.Common.{◌≡◌, ℕ, suc, ◌+◌, ◌≤◌, ◌<◌, List, [], ◌∷◌, ◌++◌, length, map, Some, None, true, refl, sym, ap, ◌∙◌, subst, arith, slice_get, take, drop}
use Rattle.std.proofs.Common.{length-append}
use Rattle.std.specs.Prelude.{reverse, Ok}
use Rattle.std.specs.List.{AllByRecursion}
use Rattle.std.proofs.lemmas.Option.{same_Some, none-some}
use Rattle.gg_base.proofs.Facts.{all_get}
use Rattle.tree_core.specs.declared.token.Tok.{Tok}
use Rattle.tree_core.specs.declared.token.Sort.{Sort}
use Rattle.tree_core.specs.declared.token.Sort.TheVariants as sort
use Rattle.tree_core.specs.declared.tree.Leaf.{Leaf}
use Rattle.tree_core.specs.declared.program.TreeProgram.{TreeProgram}
use Rattle.tree_core.specs.Grammar.{kids}
use Rattle.tree_core.specs.Trees.{IsTyped}
use Rattle.tree_core_forks.specs.Forks.{forks}
use Rattle.md_reader_pieces.specs.declared.piece.Line.{Line}
use Rattle.md_reader.specs.declared.types.Kind.TheVariants as kind
use Rattle.md_reader.specs.declared.types.Rule.{Rule}
use Rattle.md_reader.specs.declared.types.Sym.{Sym}
use Rattle.md_reader.specs.declared.types.Sym.TheVariants as grammar_symbol
use Rattle.md_reader.specs.Rows.{shape_fits}
use Rattle.md_reader.specs.State.{Content}
use Rattle.md_reader.specs.Valid.{IsRule}
use Rattle.sel_parse_effect.specs.lr_tables.specs.Statements.{stmt_of}
use Rattle.sel_parse_effect.specs.lr_tables.proofs.Validity.{rule_at}
use Rattle.sel_parse_effect.specs.lr_check_parse.specs.Moves.{Move, Ending, Accepts, Blocks, Loops, Refuses, Parses}
use Rattle.sel_parse_effect.specs.lr_check_parse.specs.Moves as parse
use Rattle.sel_parse_effect.specs.lr_check_parse.specs.Attributes.{by_attributes, answered}
use Rattle.sel_parse_effect.specs.lr_check_parse.specs.Typed.{AreTyped, begins}
use Rattle.sel_parse_effect.specs.lr_check_parse.proofs.Typing.{leaves_are_tokens}
use Rattle.sel_target.specs.sel_terms.specs.Effects.{EffectShape}
use Rattle.sel_parse_effect.specs.sel_terms_trees.specs.Senses.{piled}
use Rattle.sel_target.specs.declared.attr.Attr.TheVariants as attr
use Rattle.sel_target.specs.Meaning.{Meaning}
use Rattle.sel_target.specs.Instances.{hole}
use Rattle.sel_target.specs.Laws.{IsLawful}
use Rattle.sel_target.specs.Symbols.{first_hole}
use Rattle.sel_parse_effect.specs.sel_parse_moves.specs.Claims.{root}
use Rattle.sel_parse_effect.specs.sel_parse_moves.proofs.Covering.{AreLeaves, known}
use Rattle.sel_parse_effect.specs.sel_parse_moves.proofs.Moves.{leaves_of}
use Rattle.sel_parse_effect.specs.sel_parse_selected.specs.Entries.{Entry, attrs}
use Rattle.sel_parse_effect.specs.sel_parse_selected.specs.Desk.{Stack, Desk, desk_of, Outcome, Full, Stuck, Done}
use Rattle.sel_parse_effect.specs.sel_parse_selected.specs.Reductions.{reduced}
use Rattle.sel_parse_effect.specs.sel_parse_selected.proofs.Restricting.{Restricted, restricted}
use Rattle.sel_parse_effect.specs.sel_parse_stands.proofs.Parting.{taken_off, left_below}
use Rattle.sel_parse_effect.specs.sel_parse_selected.specs.Selected.{Kept, shifted, kept_of, reduced_by, selecting}
use Rattle.sel_parse_slots.specs.Claims.{IsOwn, IsTaken, UsesFewSlots, HasRoom}
use Rattle.sel_parse_slots.proofs.Counts.{total}
use Rattle.sel_parse_slots.proofs.Fine as fine
use Rattle.sel_parse_slots.proofs.Counting.{Good, sum, charge_of, Fine, AllFine, Within, Counted}
use Rattle.sel_parse_slots.proofs.Finishing.{Reduced, started, register_named, reduction_good}
use Rattle.sel_parse_slots.proofs.Prefixes.{Part, Whole, gamma, opens, twos, ends, held_in_all, part_of, Marks, ends_of, opens_of, marks_ends, marks_opens, part_twos, arity, whole_ends}
use Rattle.sel_parse_slots.proofs.Prefixes.{total_piled, sum_gamma}

abbrev tokens : List Leaf → List Tok
tokens w = map (λ (l : Leaf). l.tok) w

-- a token that comes next stands for the first of the trees that are due
record Begun (t : Tok) (n : ℕ) (w : List Tok) : Type 0 where
  others : List Sort
  one_more : n ≡ suc (length others)
  typed : AreTyped (kids t ++ others) w

begun : (xs : List Sort) (t : Tok) (w : List Tok) → AreTyped xs (t ∷ w) → Begun t (length xs) w
begun ys t w (begins {xs = xs} t' fit h) = record { others = xs; one_more = refl; typed = h }

module _ {O I S F : Type 0} (of : Meaning O I S F) (law : IsLawful of) (q : TreeProgram) (can : of.can_write q) (d : Content) (fit : IsTaken of d) (first : ℕ) where
  -- symbols, their entries, and what they are parts of
  abbrev pub Held : List Sym → List (Entry O) → List Part → Type 0
  Held [] [] [] = Unit {0}
  Held (s ∷ ss) (e ∷ es) (p ∷ ps) = (Fine of law q d first s e.attr × (charge_of of law q d first e ≤ gamma p) × Marks s p) × Held ss es ps
  Held ss es ps = ⊥

  pub held_fine : (ss : List Sym) (es : List (Entry O)) (ps : List Part) → Held ss es ps → AllFine of law q d first ss es
  held_fine [] [] [] h = tt
  held_fine (s ∷ ss) (e ∷ es) (p ∷ ps) h = (h.0.0, held_fine ss es ps h.1)
  held_fine _ _ _ h = absurd h

  held_within : (ss : List Sym) (es : List (Entry O)) (ps : List Part) → Held ss es ps → Within of law q d first es (map gamma ps)
  held_within [] [] [] h = tt
  held_within (s ∷ ss) (e ∷ es) (p ∷ ps) h = (h.0.1, held_within ss es ps h.1)
  held_within _ _ _ h = absurd h

  held_ends : (ss : List Sym) (es : List (Entry O)) (ps : List Part) → Held ss es ps → (total ends ps ≡ total ends_of ss) × (total opens ps ≡ total opens_of ss)
  held_ends [] [] [] h = (refl, refl)
  held_ends (s ∷ ss) (e ∷ es) (p ∷ ps) h =
      let a = marks_ends s p h.0.2 in
      let b = marks_opens s p h.0.2 in
      let k = held_ends ss es ps h.1 in
      let m = k.0 in
      let n = k.1 in
      (omega (arith, a, m), omega (arith, b, n))
  held_ends _ _ _ h = absurd h

  -- the entries below may have changed
  joined : (ss : List Sym) (old new : List (Entry O)) (ps : List Part) → Held ss old ps → AllFine of law q d first ss new → Within of law q d first new (map gamma ps) → Held ss new ps
  joined [] [] [] [] h f w = tt
  joined [] [] (e ∷ new) [] h f w = absurd f
  joined (s ∷ ss) (e ∷ old) [] (p ∷ ps) h f w = absurd f
  joined (s ∷ ss) (e ∷ old) (b ∷ new) (p ∷ ps) h f w = ((f.0, w.0, h.0.2), joined ss old new ps h.1 f.1 w.1)
  joined _ _ new _ h f w = absurd h

  pub record Split (right b : List Sym) (es : List (Entry O)) (ps : List Part) : Type 0 where
    pub symbols : List (Entry O)
    pub below : List (Entry O)
    pub high : List Part
    pub low : List Part
    pub entries_are : es ≡ piled symbols below
    pub parts_are : ps ≡ piled high low
    pub top : Held right symbols high
    pub rest : Held b below low
    pub size : length symbols ≡ length right

  pub split : (right b : List Sym) (es : List (Entry O)) (ps : List Part) → Held (piled right b) es ps → Split right b es ps
  split [] b es ps h = record { symbols = []; below = es; high = []; low = ps; entries_are = refl; parts_are = refl; top = tt; rest = h; size = refl }
  split (y ∷ right) b es ps h = by (split right (y ∷ b) es ps h)
    where
      more : (symbols below : List (Entry O)) (high low : List Part) → es ≡ piled symbols below → ps ≡ piled high low → Held right symbols high → Held (y ∷ b) below low
          → length symbols ≡ length right → Split (y ∷ right) b es ps
      more symbols [] high low e f g k n = absurd k
      more symbols (x ∷ below) high [] e f g k n = absurd k
      more symbols (x ∷ below) high (p ∷ low) e f g k n =
          record { symbols = x ∷ symbols; below = below; high = p ∷ high; low = low; entries_are = e; parts_are = f; top = (k.0, g); rest = k.1; size = ap suc n }

      by : Split right (y ∷ b) es ps → Split (y ∷ right) b es ps
      by s = more s.symbols s.below s.high s.low s.entries_are s.parts_are s.top s.rest s.size

  -- ---- between two moves of the parse of a tree with so many tokens of two kids
  module _ (k : ℕ) where
    pub record At (ws : List Leaf) (a : List Sym) (x : Stack O I) : Type 0 where
      pub parts : List Part
      pub held : Held a x.entries parts
      pub most_within : x.most ≤ first + (k + 1)
      pub twos_in : total twos parts + forks ws ≤ k
      pub sorts : List Sort
      pub typed : AreTyped sorts (tokens ws)
      pub ends_are : total ends parts + length sorts ≡ 1 + total opens parts
      pub leaves : AreLeaves ws
      pub own : AllByRecursion (λ (l : Leaf). IsOwn q first l.tok l.att) ws

    abbrev pub Before : List Leaf → List Sym → Kept O I → Type 0
    Before ws a None = Unit {0}
    Before ws a (Some x) = At ws a x

    abbrev Behind : Ending (Kept O I) → Type 0
    Behind (Accepts None) = Unit {0}
    Behind (Accepts (Some x)) = x.most ≤ first + (k + 1)
    Behind Refuses = 1024 < first + (k + 1)
    Behind (Blocks at) = Unit {0}
    Behind (Loops at) = Unit {0}

    accepted : (ws : List Leaf) (a : List Sym) (x : Kept O I) → Before ws a x → Behind (Accepts x)
    accepted ws a None h = tt
    accepted ws a (Some x) h = h.most_within

    pub shift : (l : Leaf) (ws : List Leaf) (a : List Sym) (x : Kept O I) → Before (l ∷ ws) a x → Before ws (grammar_symbol.Tok l.tok ∷ a) (shifted l x)
    shift l ws a None h = tt
    shift l ws a (Some x) h =
        let b = begun h.sorts l.tok (tokens ws) h.typed in
        let n = b.one_more in
        let r = arity l.tok in
        let t = part_twos (kids l.tok) in
        let e = h.ends_are in
        let u = h.twos_in in
        let s = length-append (kids l.tok) b.others in
        record {
          parts = part_of (kids l.tok) ∷ h.parts;
          held = ((fine.token l h.leaves.0 h.own.0, omega arith, refl), h.held);
          most_within = h.most_within;
          twos_in = omega (arith, t, u);
          sorts = kids l.tok ++ b.others;
          typed = b.typed;
          ends_are = omega (arith, n, r, e, s);
          leaves = h.leaves.2;
          own = h.own.1;
        }

    -- what a rule's right side holds
    right_ends : (r : Rule) → IsRule d.classes r → (es : List (Entry O)) (ps : List Part) → Held r.right es ps → total ends ps ≡ 1 + total opens ps
    right_ends r valid es ps h =
        let a = held_ends r.right es ps h in
        let b = a.0 in
        let c = a.1 in
        let e = whole_ends valid.sides.tree.tree r.right valid.sides.tree.spelled in
        omega (arith, b, c, e)

    module _ (r : Rule) (valid : IsRule d.classes r) (effect : EffectShape) (has : of.effect d.classes r ≡ Ok effect) (ws : List Leaf) (b : List Sym) (x : Stack O I)
        (h : At ws (piled r.right b) x)
        (s : Split r.right b x.entries h.parts) where
      abbrev g : ℕ
      g = total twos s.high + 1

      some : 1 ≤ g
      some = omega arith

      high_ends : total ends s.high ≡ 1 + total opens s.high
      high_ends = right_ends r valid s.symbols s.high s.top

      low_sum : sum (map gamma s.high) ≤ g
      low_sum =
          let e = high_ends in
          let a = held_in_all s.high (omega (arith, e)) in
          let c = sum_gamma s.high in
          omega (arith, a, c)

      all_sum : sum (map gamma s.low) + sum (map gamma s.high) ≤ k + 1
      all_sum =
          let e = h.ends_are in
          let a = held_in_all h.parts (omega (arith, e)) in
          let t = h.twos_in in
          let c = sum_gamma s.high in
          let f = sum_gamma s.low in
          let m = ap (total gamma) s.parts_are ∙ total_piled gamma s.high s.low in
          omega (arith, a, t, c, f, m)

      below_is : (desk_of (length r.right) x).below ≡ s.below
      below_is = ap (drop (length r.right)) s.entries_are ∙ left_below (length r.right) s.symbols s.below s.size

      symbols_are : (desk_of (length r.right) x).symbols ≡ s.symbols
      symbols_are = ap (λ l. reverse (take (length r.right) l)) s.entries_are ∙ taken_off (length r.right) s.symbols s.below s.size

      abbrev Done_well : Stack O I → Type 0
      Done_well y = Reduced of law q can d first r valid effect has g some b (k + 1) (map gamma s.low) (map gamma s.high) low_sum y

      -- before the reloads
      pub begun_in : Counted of law q d first r.right b (k + 1) (map gamma s.low) (map gamma s.high) 0 (desk_of (length r.right) x)
      begun_in =
          started of law q can d first r valid effect has g some b (k + 1) (map gamma s.low) (map gamma s.high) low_sum x h.most_within all_sum
          (subst (AllFine of law q d first b) (sym below_is) (held_fine b s.below s.low s.rest))
          (subst (AllFine of law q d first r.right) (sym symbols_are) (held_fine r.right s.symbols s.high s.top))
          (subst (λ l. Within of law q d first l (map gamma s.low)) (sym below_is) (held_within b s.below s.low s.rest))
          (subst (λ l. Within of law q d first l (map gamma s.high)) (sym symbols_are) (held_within r.right s.symbols s.high s.top))

      -- behind them the symbol that a register's shape names is a register
      pub named : (y : Desk O I) → Counted of law q d first r.right b (k + 1) (map gamma s.low) (map gamma s.high) (0 + length r.right) y
          → (l : Line) → shape_fits d.classes r.right (Some kind.Reg) l.pieces ≡ true
          → (n : ℕ) × (n < 12) × (hole (attrs y.symbols) (first_hole l.pieces) ≡ Some (attr.Reg n))
      named = register_named of law q can d first r valid effect has g some b (k + 1) (map gamma s.low) (map gamma s.high) low_sum

      good : Restricted of q d first r.restrictions (desk_of (length r.right) x).symbols → Good (first + (k + 1)) (reduced of q d first r x) Done_well
      good restricted = reduction_good of law q can d first r valid effect has g some b (k + 1) (map gamma s.low) (map gamma s.high) low_sum x begun_in restricted

      next : (y : Stack O I) → Done_well y → At ws (grammar_symbol.Class r.left ∷ b) y
      next y w = by y.entries refl
        where
          by : (es : List (Entry O)) → y.entries ≡ es → At ws (grammar_symbol.Class r.left ∷ b) y
          by [] e = absurd (subst (λ l. Within of law q d first l (g ∷ map gamma s.low)) e w.within)
          by (c ∷ es) e =
              let win = subst (λ l. Within of law q d first l (g ∷ map gamma s.low)) e w.within in
              let fin = subst (AllFine of law q d first (grammar_symbol.Class r.left ∷ b)) e w.all_fine in
              let a0 = ap (total twos) s.parts_are ∙ total_piled twos s.high s.low in
              let a1 = ap (total ends) s.parts_are ∙ total_piled ends s.high s.low in
              let a2 = ap (total opens) s.parts_are ∙ total_piled opens s.high s.low in
              let t = h.twos_in in
              let m = h.ends_are in
              let n = high_ends in
              record {
                parts = Whole (total twos s.high) ∷ s.low;
                held = subst (λ l. Held (grammar_symbol.Class r.left ∷ b) l (Whole (total twos s.high) ∷ s.low)) (sym e)
                    ((fin.0, win.0, tt), joined b s.below es s.low s.rest fin.1 win.1);
                most_within = w.most_within;
                twos_in = omega (arith, a0, t);
                sorts = h.sorts;
                typed = h.typed;
                ends_are = omega (arith, a1, a2, m, n);
                leaves = h.leaves;
                own = h.own;
              }

      went : (o : Outcome (Stack O I)) → Good (first + (k + 1)) o Done_well → (z : Kept O I) → kept_of o ≡ Some z → Before ws (grammar_symbol.Class r.left ∷ b) z
      went Full w z e = absurd (none-some z e)
      went Stuck w z e = subst (Before ws (grammar_symbol.Class r.left ∷ b)) (same_Some None z e) tt
      went (Done y) w z e = subst (Before ws (grammar_symbol.Class r.left ∷ b)) (same_Some (Some y) z e) (next y w)

      full : (o : Outcome (Stack O I)) → Good (first + (k + 1)) o Done_well → kept_of o ≡ None → 1024 < first + (k + 1)
      full Full w e = w
      full Stuck w e = absurd (none-some None (sym e))
      full (Done y) w e = absurd (none-some (Some y) (sym e))

    module _ (n : ℕ) (r : Rule) (there : slice_get d.rules n ≡ Some r) (ws : List Leaf) (a : List Sym) (on : piled r.right (drop (length r.right) a) ≡ a) where
      pub is_valid : IsRule d.classes r
      is_valid = rule_at d.classes d.rules n r fit.valid.rules there

      pub has_effect : (e : EffectShape) × (of.effect d.classes r ≡ Ok e)
      has_effect = all_get (λ (r : Rule). (e : EffectShape) × (of.effect d.classes r ≡ Ok e)) d.rules n r fit.taken there

      good_at : (x : Stack O I) → answered (selecting of q d first) r (Some x) ≡ true → (h : At ws (piled r.right (drop (length r.right) a)) x)
          (s : Split r.right (drop (length r.right) a) x.entries h.parts)
          → Good (first + (k + 1)) (reduced of q d first r x) (Done_well r is_valid has_effect.0 has_effect.1 ws (drop (length r.right) a) x h s)
      good_at x holds h s =
          good r is_valid has_effect.0 has_effect.1 ws (drop (length r.right) a) x h s (restricted of q d first r.restrictions (desk_of (length r.right) x).symbols holds)

      pub reduce : (x z : Kept O I) → Before ws a x → answered (selecting of q d first) r x ≡ true → reduced_by of q d first (Some r) x ≡ Some z
          → Before ws (grammar_symbol.Class r.left ∷ drop (length r.right) a) z
      reduce None z h holds e = subst (Before ws (grammar_symbol.Class r.left ∷ drop (length r.right) a)) (same_Some None z e) tt
      reduce (Some x) z h holds e =
          let b = drop (length r.right) a in
          let h' : At ws (piled r.right b) x = subst (λ l. At ws l x) (sym on) h in
          let s = split r.right b x.entries h'.parts h'.held in
          went r is_valid has_effect.0 has_effect.1 ws b x h' s (reduced of q d first r x) (good_at x holds h' s) z e

      refuse : (x : Kept O I) → Before ws a x → answered (selecting of q d first) r x ≡ true → reduced_by of q d first (Some r) x ≡ None → 1024 < first + (k + 1)
      refuse None h holds e = absurd (none-some None (sym e))
      refuse (Some x) h holds e =
          let b = drop (length r.right) a in
          let h' : At ws (piled r.right b) x = subst (λ l. At ws l x) (sym on) h in
          let s = split r.right b x.entries h'.parts h'.held in
          full r is_valid has_effect.0 has_effect.1 ws b x h' s (reduced of q d first r x) (good_at x holds h' s) e

    iterate : {at : ℕ} {before : List (List Sym)} {ws : List Leaf} {a : List Sym} {x : Kept O I} {log : List (Move Leaf)} {e : Ending (Kept O I)}
        → Parses (by_attributes (selecting of q d first)) d.rules (stmt_of d.classes) at before ws a x log e → Before ws a x → Behind e
    iterate (parse.loops h) b = tt
    iterate (parse.accepts {ws = ws} {a = a} {x = x} h s f) b = accepted ws a x b
    iterate (parse.shifts {l = l} {ws = ws} {a = a} {x = x} h f s more) b = iterate more (shift l ws a x b)
    iterate (parse.reduces {n = n} {ws = ws} {a = a} {x = x} {y = y} {z = z} r h c there red more) b =
        let m = known (selecting of q d first) d.classes d.rules (stmt_of d.classes) ws a x n r y c there in
        iterate more (reduce n r there ws a m.on x z b m.holds (ap (λ o. reduced_by of q d first o x) (sym there) ∙ ap (λ u. reduced_by of q d first (slice_get d.rules n) u) m.same ∙ red))
    iterate (parse.refuses {n = n} {ws = ws} {a = a} {x = x} {y = y} r h c there red) b =
        let m = known (selecting of q d first) d.classes d.rules (stmt_of d.classes) ws a x n r y c there in
        refuse n r there ws a m.on x b m.holds (ap (λ o. reduced_by of q d first o x) (sym there) ∙ ap (λ u. reduced_by of q d first (slice_get d.rules n) u) m.same ∙ red)
    iterate (parse.blocks h c) b = tt

  pub begin : (w : List Leaf) → IsTyped (root w) sort.Stmt → AllByRecursion (λ (l : Leaf). IsOwn q first l.tok l.att) w → At (forks w) w [] (record { entries = []; code = []; most = first })
  begin w h own = record {
    parts = [];
    held = tt;
    most_within = omega arith;
    twos_in = omega arith;
    sorts = sort.Stmt ∷ [];
    typed = leaves_are_tokens w h;
    ends_are = refl;
    leaves = leaves_of w h;
    own = own;
  }

pub uses_few_slots : {O I S F : Type 0} (of : Meaning O I S F) → IsLawful of → UsesFewSlots of
uses_few_slots of law q d first w code most can fit typed own s = iterate of law q can d fit first (forks w) s.parsed (begin of law q can d fit first w typed own)

pub has_room : {O I S F : Type 0} (of : Meaning O I S F) → IsLawful of → HasRoom of
has_room of law q d first w can fit typed own le s =
    let a = iterate of law q can d fit first (forks w) s.parsed (begin of law q can d fit first w typed own) in
    omega (arith, a, le)
