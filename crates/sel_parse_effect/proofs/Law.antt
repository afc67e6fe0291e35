-- The law: selected code has the tree's effect.
use Rattle.std.proofs.Common.{◌≡◌, ℕ, zero, suc, ◌-◌, ◌<◌, ◌≤◌, List, [], ◌∷◌, length, Option, Some, None, Bool, true, false, cond, refl, sym, ap, ◌∙◌, subst}
use Rattle.std.proofs.Common.{arith, slice_get}
use Rattle.std.specs.Prelude.{IsSome, nat_lt, map}
use Rattle.std.specs.List.{AllByRecursion as All}
use Rattle.std.proofs.lemmas.Option.{same_Some, none-some}
use Rattle.std.proofs.lemmas.Bool.{and_parts, ltb-true, lt-ltb}
use Rattle.gg_base.specs.declared.size.Size.{Size}
use Rattle.gg_base.specs.declared.size.Size.TheVariants.{Byte, Word, Long}
use Rattle.tree_core.specs.declared.token.Tok.{Tok}
use Rattle.tree_core.specs.declared.token.Tok.TheVariants as tok
use Rattle.tree_core.specs.declared.token.Sort.{Sort}
use Rattle.tree_core.specs.declared.token.Sort.TheVariants as sort
use Rattle.tree_core.specs.declared.tree.Att.{Att}
use Rattle.tree_core.specs.declared.tree.Att.TheVariants as att
use Rattle.tree_core.specs.declared.tree.Leaf.{Leaf}
use Rattle.tree_core.specs.declared.program.Object.{Object}
use Rattle.tree_core.specs.declared.program.TreeProgram.{TreeProgram}
use Rattle.tree_core.specs.Grammar.{kids, sort_of}
use Rattle.tree_core.specs.Attributes.{attribute_of, is_of_kind, leaf_fits, end_leaf}
use Rattle.tree_core.specs.Trees.{Forest, none, tree, leaves_onto, Typed, IsTyped, grown}
use Rattle.tree_core.specs.Trees as grammar
use Rattle.tree_core.proofs.Law.{grows_back}
use Rattle.tree_meaning.specs.State.{State, sight, Extent}
use Rattle.tree_meaning.specs.Deeds.{Deed, Puts, Branches, Pushes, Returns, Calls, Saves as SavesTo, Jumps, Traps, Strays}
use Rattle.tree_meaning.specs.declared.value.Value.TheVariants as values
use Rattle.tree_meaning.specs.Values.{Sight, there}
use Rattle.tree_meaning.specs.Values as meant
use Rattle.sel_parse_moves.specs.tree_meaning_tame.specs.Tame.{IsThere, AllThere}
use Rattle.sel_parse_moves.specs.tree_meaning_tame.specs.Sights.{Completes}
use Rattle.md_reader_pieces.specs.declared.piece.Line.{Line}
use Rattle.md_reader.specs.declared.types.Kind.{Kind}
use Rattle.md_reader.specs.declared.types.Kind.TheVariants as kind
use Rattle.md_reader.specs.State.{Content}
use Rattle.md_reader.specs.Valid.{IsSpill}
use Rattle.term_core.specs.Shape.{Shape, Symbol}
use Rattle.term_core.specs.Facts.{same_as}
use Rattle.term_core.specs.Norm.{norm}
use Rattle.term_core.specs.declared.facts.Fact.{Fact}
use Rattle.sel_target.specs.sel_terms.specs.Effects.{ActShape, EffectShape, Value, Number, Address, PlaceHome, PlaceAt, StoreHome, StoreAt, Branch, Push, Call, Save, Return, Jump, norm_act, norm_effect}
use Rattle.sel_target.specs.sel_terms.specs.RuleFacts.{saved_facts, size_of_saved}
use Rattle.sel_target.specs.Meaning.{Meaning}
use Rattle.sel_target.specs.Values.{address_of}
use Rattle.sel_target.specs.Laws.{IsLawful}
use Rattle.sel_target.specs.SavingLaws.{Saves, Reloads}
use Rattle.sel_target.specs.Symbols.{line_of, saving_line, reload_line}
use Rattle.sel_parse.specs.Shown.{IsLineShown, AreLinesShown, saved_kinds, saved_wanted}
use Rattle.sel_parse_moves.specs.Claims.{root, deed, IsParsed}
use Rattle.sel_parse_moves.specs.Interprets.{Ran}
use Rattle.sel_parse_moves.proofs.Moves.{moves_mean_tree}
use Rattle.sel_parse_stands.specs.sel_parse_selected.specs.Selected.{selecting, start}
use Rattle.sel_parse_stands.specs.Stands.{NamedBy, Names, IsFrame}
use Rattle.sel_parse_stands.specs.Lines.{LinesSave}
use Rattle.sel_parse_effect.specs.Standing.{Standing}
use Rattle.sel_parse_effect.specs.Claims.{frame_sight, IsFit, Begins, HasEffect, SelectedHasEffect}
use Rattle.sel_parse_effect.proofs.Interpreting.{interprets}

-- ---- lines that were shown save and reload

map_none : (f : Shape → Shape) (ds : List Shape) → map f ds ≡ [] → ds ≡ []
map_none f [] e = refl
map_none f (d ∷ ds) e = absurd (cc)

pub record StoresSlot (facts : List Fact) (size : Size) (a : ActShape) : Type 0 where
  pub index : ℕ
  pub term : Shape
  pub is : a ≡ StoreHome size index term
  pub first : same_as facts index ≡ 0
  pub alike : norm facts term ≡ norm facts (Symbol 1)

stores_slot : (facts : List Fact) (size : Size) (a : ActShape) → StoreHome size 0 (norm facts (Symbol 1)) ≡ norm_act facts a → StoresSlot facts size a
stores_slot facts size (Value t) e = absurd (cc)
stores_slot facts size (Number t) e = absurd (cc)
stores_slot facts size (Address t) e = absurd (cc)
stores_slot facts size (PlaceHome z i) e = absurd (cc)
stores_slot facts size (PlaceAt z a) e = absurd (cc)
stores_slot facts size (StoreHome z i t) e =
    record {
      index = i;
      term = t;
      is = ap (λ y. StoreHome y i t) (home_size size z 0 (same_as facts i) (norm facts (Symbol 1)) (norm facts t) e);
      first = sym
          (home_index size z 0 (same_as facts i) (norm facts (Symbol 1)) (norm facts t) e);
      alike = sym (home_term size z 0 (same_as facts i) (norm facts (Symbol 1)) (norm facts t) e);
    }
  where
    home_size : (x y : Size) (i j : ℕ) (t u : Shape) → StoreHome x i t ≡ StoreHome y j u → y ≡ x
    home_size x y i j t u e = cc

    home_index : (x y : Size) (i j : ℕ) (t u : Shape) → StoreHome x i t ≡ StoreHome y j u → i ≡ j
    home_index x y i j t u e = cc

    home_term : (x y : Size) (i j : ℕ) (t u : Shape) → StoreHome x i t ≡ StoreHome y j u → t ≡ u
    home_term x y i j t u e = cc
stores_slot facts size (StoreAt z a t) e = absurd (cc)
stores_slot facts size (Branch i a b) e = absurd (cc)
stores_slot facts size (Push t) e = absurd (cc)
stores_slot facts size Call e = absurd (cc)
stores_slot facts size (Save i) e = absurd (cc)
stores_slot facts size (Return t) e = absurd (cc)
stores_slot facts size Jump e = absurd (cc)

pub record GivesValue (facts : List Fact) (a : ActShape) : Type 0 where
  pub term : Shape
  pub is : a ≡ Value term
  pub alike : norm facts term ≡ norm facts (Symbol 1)

gives_value : (facts : List Fact) (a : ActShape) → Value (norm facts (Symbol 1)) ≡ norm_act facts a → GivesValue facts a
gives_value facts (Value t) e = record { term = t; is = refl; alike = sym (one (norm facts (Symbol 1)) (norm facts t) e) }
  where
    one : (t u : Shape) → Value t ≡ Value u → t ≡ u
    one t u e = cc
gives_value facts _ e = absurd (cc)

-- the slot is the only symbol that is spelled as the slot
slot_first : (k : Kind) (i : ℕ) → same_as (saved_facts k) i ≡ 0 → i ≡ 0
slot_first k zero e = refl
slot_first k (suc zero) e = absurd (cc)
slot_first k (suc (suc i)) e = e

module _ {O I S F : Type 0} (of : Meaning O I S F) (d : Content) (fit : IsFit of d) where
  record ShownAt (i : ℕ) (k : Kind) : Type 0 where
    shown : IsLineShown of.spill_effect k (line_of (slice_get d.spills i))
    fits : IsSpill (line_of (slice_get d.spills i))

  shown_at : (ks : List Kind) (ls : List Line) (i : ℕ) (k : Kind) → AreLinesShown of.spill_effect ks ls → All IsSpill ls → slice_get ks i ≡ Some k → i < length ls
      → IsLineShown of.spill_effect k (line_of (slice_get ls i)) × IsSpill (line_of (slice_get ls i))
  shown_at [] ls i k h s e lt = absurd (none-some k e)
  shown_at (y ∷ ks) [] i k h s e lt = absurd (omega (arith, lt))
  shown_at (y ∷ ks) (l ∷ ls) zero k h s e lt = (subst (λ w. IsLineShown of.spill_effect w l) (same_Some y k e) h.0, s.0)
  shown_at (y ∷ ks) (l ∷ ls) (suc i) k h s e lt = shown_at ks ls i k h.1 s.1 e (omega (arith, lt))

  at : (i : ℕ) (k : Kind) → slice_get saved_kinds i ≡ Some k → i < 8 → ShownAt i k
  at i k e lt =
      let n = fit.valid.eight in
      let r = shown_at saved_kinds d.spills i k fit.lines fit.valid.spills e (omega (arith, n, lt)) in
      record { shown = r.0; fits = r.1 }

  saves_by : (k : Kind) (l : Line) → IsLineShown of.spill_effect k l → IsSpill l → saved_wanted k ≡ record { act = StoreHome (size_of_saved k) 0 (Symbol 1); divisors = [] } → Saves of k l
  saves_by k l s fits is =
      let e = sym (ap (norm_effect (saved_facts k)) is) ∙ s.alike in
      let w = stores_slot (saved_facts k) (size_of_saved k) s.found.act (ap (λ (x : EffectShape). x.act) e) in
      record {
        effect = s.found;
        term = w.term;
        fits = fits;
        taken = s.found_is;
        act = w.is ∙ ap (λ i. StoreHome (size_of_saved k) i w.term) (slot_first k w.index w.first);
        undivided = map_none (norm (saved_facts k)) s.found.divisors (sym (ap (λ (x : EffectShape). x.divisors) e));
        alike = w.alike;
      }

  reloads_by : (l : Line) → IsLineShown of.spill_effect kind.Reg l → IsSpill l → Reloads of l
  reloads_by l s fits =
      let w = gives_value (saved_facts kind.Reg) s.found.act (ap (λ (x : EffectShape). x.act) s.alike) in
      record {
        effect = s.found;
        term = w.term;
        fits = fits;
        taken = s.found_is;
        act = w.is;
        undivided = map_none (norm (saved_facts kind.Reg)) s.found.divisors (sym (ap (λ (x : EffectShape). x.divisors) s.alike));
        alike = w.alike;
      }

  value_line : (z : Size) → Saves of (kind.Value z) (saving_line d (Some (kind.Value z)))
  value_line Byte = (let r = at 0 (kind.Value Byte) refl (omega arith) in saves_by (kind.Value Byte) _ r.shown r.fits refl)
  value_line Word = (let r = at 1 (kind.Value Word) refl (omega arith) in saves_by (kind.Value Word) _ r.shown r.fits refl)
  value_line Long = (let r = at 2 (kind.Value Long) refl (omega arith) in saves_by (kind.Value Long) _ r.shown r.fits refl)

  place_line : (z : Size) → Saves of (kind.Place z) (saving_line d (Some (kind.Place z)))
  place_line Byte = (let r = at 3 (kind.Place Byte) refl (omega arith) in saves_by (kind.Place Byte) _ r.shown r.fits refl)
  place_line Word = (let r = at 4 (kind.Place Word) refl (omega arith) in saves_by (kind.Place Word) _ r.shown r.fits refl)
  place_line Long = (let r = at 5 (kind.Place Long) refl (omega arith) in saves_by (kind.Place Long) _ r.shown r.fits refl)

  address_line : Saves of kind.Ea (saving_line d (Some kind.Ea))
  address_line = (let r = at 6 kind.Ea refl (omega arith) in saves_by kind.Ea _ r.shown r.fits refl)

  reloading_line : Reloads of (reload_line d)
  reloading_line = (let r = at 7 kind.Reg refl (omega arith) in reloads_by _ r.shown r.fits)

  pub lines_save : LinesSave of d
  lines_save = record { values = value_line; places = place_line; addresses = address_line; reloads = reloading_line }

-- ---- what the leaves name is there in the frame

some_there : (o : Option ℕ) → IsSome o → there o ≡ values.Wild → ⊥
some_there None h e = absurd (cc)
some_there (Some n) h e = cc

module _ {O I S F : Type 0} (of : Meaning O I S F) (law : IsLawful of) (q : TreeProgram) (d : Content) (first : ℕ) (f : Extent) (fs : List Extent) (t : State) (m : S)
    (begins : Begins of q first f fs t m) where
  local_is : (k : ℕ) → k < f.locals → (frame_sight of f t m).locals k ≡ of.reads (of.local k) Long m
  local_is k lt = ap (λ b. cond b (of.reads (of.local k) Long m) None) (lt-ltb k f.locals lt)

  local_seen : (k : ℕ) → k < f.locals → IsSome ((frame_sight of f t m).locals k)
  local_seen k lt =
      let a = begins.within in
      let b = begins.few in
      subst IsSome (sym (local_is k lt)) (law.reads.local_there q f fs t k m begins.agrees (omega (arith, lt, a)) (omega (arith, lt, a, b)))

  argument_in : (xs : List ℕ) (j : ℕ) → j < length xs → IsSome (slice_get xs j)
  argument_in [] j lt = absurd (omega (arith, lt))
  argument_in (x ∷ xs) zero lt = refl
  argument_in (x ∷ xs) (suc j) lt = argument_in xs j (omega (arith, lt))

  argument_seen : (k : ℕ) → 1 ≤ k → k ≤ length t.running.arguments → IsSome (slice_get t.running.arguments (k - 1))
  argument_seen k one le = argument_in t.running.arguments (k - 1) (omega (arith, one, le))

  address_there : (o : Option Object) (offset : ℕ) → IsSome (address_of o offset) → meant.address_of o offset ≡ values.Wild → ⊥
  address_there None offset h e = absurd (cc)
  address_there (Some o) offset h e = cc

  is_there : (x : Tok) (a : Att) → is_of_kind (attribute_of x) a ≡ true → NamedBy of q d first f fs t (frame_sight of f t m) m x a → IsThere q.objects (frame_sight of f t m) x a
  is_there tok.Zero a fit named = tt
  is_there tok.One a fit named = tt
  is_there tok.Two a fit named = tt
  is_there tok.Four a fit named = tt
  is_there tok.Eight a fit named = tt
  is_there tok.Const (att.Number n) fit named = λ e. cc
  is_there tok.Gaddr (att.Object object offset) fit named = λ e. address_there (slice_get q.objects object) offset named e
  is_there tok.Loc (att.Slot k) fit named = λ e. some_there ((frame_sight of f t m).locals k) (local_seen k named) e
  is_there tok.Arg (att.Slot k) fit named = λ e. some_there (slice_get t.running.arguments (k - 1)) (argument_seen k named.0 named.1) e
  is_there tok.IndirB a fit named = tt
  is_there tok.IndirW a fit named = tt
  is_there tok.IndirL a fit named = tt
  is_there tok.Plus a fit named = tt
  is_there tok.Minus a fit named = tt
  is_there tok.Mul a fit named = tt
  is_there tok.Div a fit named = tt
  is_there tok.Mod a fit named = tt
  is_there tok.And a fit named = tt
  is_there tok.Or a fit named = tt
  is_there tok.Xor a fit named = tt
  is_there tok.Lsh a fit named = tt
  is_there tok.Rsh a fit named = tt
  is_there tok.Neg a fit named = tt
  is_there tok.Com a fit named = tt
  is_there tok.Sxb a fit named = tt
  is_there tok.Zxb a fit named = tt
  is_there tok.Sxw a fit named = tt
  is_there tok.Zxw a fit named = tt
  is_there tok.Ncb a fit named = tt
  is_there tok.Ncw a fit named = tt
  is_there tok.AssignB a fit named = tt
  is_there tok.AssignW a fit named = tt
  is_there tok.AssignL a fit named = tt
  is_there tok.Cbr a fit named = tt
  is_there tok.Push a fit named = tt
  is_there tok.Ret a fit named = tt
  is_there tok.Call a fit named = tt
  is_there tok.Save a fit named = tt
  is_there tok.Jump a fit named = tt
  is_there tok.End a fit named = tt
  is_there _ _ fit named = absurd (cc)

  abbrev IsGood : Leaf → Type 0
  IsGood l = (leaf_fits l ≡ true) × Names of q d first f fs t (frame_sight of f t m) m l

  all_there : (g : Forest) (w : List Leaf) → All IsGood (leaves_onto g w) → AllThere q.objects (frame_sight of f t m) g × All IsGood w
  all_there none w h = (tt, h)
  all_there (tree l below behind) w h =
      let a = all_there below (leaves_onto behind w) h.1 in
      let b = all_there behind w a.1 in
      ((is_there l.tok l.att h.0.0 h.0.1.0, a.0, b.0), b.1)

  fits_all : (xs : List Sort) (g : Forest) (w : List Leaf) → Typed xs g → All (λ l. leaf_fits l ≡ true) w → All (λ l. leaf_fits l ≡ true) (leaves_onto g w)
  fits_all [] none w h k = k
  fits_all [] (tree l below behind) w h k = absurd h
  fits_all (x ∷ xs) none w h k = absurd h
  fits_all (x ∷ xs) (tree l below behind) w h k =
      ((and_parts (grammar.sort_fits (sort_of l.tok) x) (leaf_fits l) h.0).1, fits_all (kids l.tok) below (leaves_onto behind w) h.1 (fits_all xs behind w h.2 k))

  both_all : (w : List Leaf) → All (λ l. leaf_fits l ≡ true) w → All (Names of q d first f fs t (frame_sight of f t m) m) w → All IsGood w
  both_all [] h k = tt
  both_all (l ∷ w) h k = ((h.0, k.0), both_all w h.1 k.1)

  with_end : (w : List Leaf) → All (Names of q d first f fs t (frame_sight of f t m) m) w → All (Names of q d first f fs t (frame_sight of f t m) m) (root w)
  with_end [] h = ((tt, tt), tt)
  with_end (l ∷ w) h = (h.0, with_end w h.1)

  there_grown : (w : List Leaf) → IsTyped (root w) sort.Stmt → All (Names of q d first f fs t (frame_sight of f t m) m) w → AllThere q.objects (frame_sight of f t m) (grown (root w))
  there_grown w typed names = by typed.trees typed.typed typed.spelled
    where
      by : (g : Forest) → Typed (sort.Stmt ∷ []) g → leaves_onto g (end_leaf ∷ []) ≡ root w → AllThere q.objects (frame_sight of f t m) (grown (root w))
      by none h e = absurd h
      by (tree l below (tree l' b' c')) h e = absurd h.2
      by (tree l below none) h e =
          let fits = fits_all (sort.Stmt ∷ []) (tree l below none) (end_leaf ∷ []) h (refl, tt) in
          let good = both_all (leaves_onto (tree l below none) (end_leaf ∷ [])) fits (subst (All (Names of q d first f fs t (frame_sight of f t m) m)) (sym e) (with_end w names)) in
          let there = (all_there (tree l below none) (end_leaf ∷ []) good).0 in
          let grows : grown (root w) ≡ tree l below (grown (end_leaf ∷ [])) = ap grown (sym e) ∙ grows_back (sort.Stmt ∷ []) (tree l below none) (end_leaf ∷ []) h in
          subst (AllThere q.objects (frame_sight of f t m)) (sym grows) (there.0, there.1, (tt, tt, tt))

  completes : Completes (sight t) (frame_sight of f t m)
  completes = record { locals = λ k n e. written k n e; arguments = refl; area = refl }
    where
      written : (k n : ℕ) → t.running.locals k ≡ Some n → (frame_sight of f t m).locals k ≡ Some n
      written k n e =
          let lt = begins.written k n e in
          let a = begins.within in
          let b = begins.few in
          local_is k lt ∙ law.reads.local_read q f fs t k n m begins.agrees (omega (arith, lt, a, b)) e

  pub frame : IsFrame of q d first f fs t (frame_sight of f t m) m
  frame = record {
    few = begins.few;
    own = begins.own;
    within = begins.within;
    bounded = λ k n e. bounded k n e;
    arguments = refl;
    area = refl;
  }
    where
      bounded : (k n : ℕ) → (frame_sight of f t m).locals k ≡ Some n → k < f.locals
      bounded k n e = by (nat_lt k f.locals) refl e
        where
          by : (b : Bool) → nat_lt k f.locals ≡ b → cond b (of.reads (of.local k) Long m) None ≡ Some n → k < f.locals
          by true h g = ltb-true k f.locals h
          by false h g = absurd (none-some n g)

  local_sees : (k n : ℕ) → (frame_sight of f t m).locals k ≡ Some n → of.reads (of.local k) Long m ≡ Some n
  local_sees k n e = by (nat_lt k f.locals) e
    where
      by : (b : Bool) → cond b (of.reads (of.local k) Long m) None ≡ Some n → of.reads (of.local k) Long m ≡ Some n
      by true g = g
      by false g = absurd (none-some n g)

  begin_stands : Standing of q d first f fs t (frame_sight of f t m) m (record { entries = []; code = []; most = first }) [] []
  begin_stands = record {
    state = m;
    ran = law.runs.run_none m;
    sees = record { agrees = begins.agrees; room = begins.room; locals = λ k n e. local_sees k n e };
    live = refl;
    holds = tt;
    first_run = λ h. refl;
  }

module _ {O I S F : Type 0} (of : Meaning O I S F) (law : IsLawful of) where
  pub selected_has_effect : SelectedHasEffect of
  selected_has_effect q d first f fs t m w code most stores fit begins selected within typed names possible calm =
      finish (deed q.objects (sight t) w) ran
    where
      s : Sight
      s = frame_sight of f t m

      parsed : IsParsed (selecting of q d first) d w (start of q d first) (Some (record { entries = selected.entries; code = code; most = most }))
      parsed = record { valid = fit.valid; typed = typed; log = selected.log; parse = selected.parsed }

      ran : Ran
          (interprets of law stores q begins.program begins.spelled d first f fs t (frame_sight of f t m) m (frame of law q d first f fs t m begins)
          (lines_save of d fit) fit.valid.rules fit.rules)
          (Some (record { entries = selected.entries; code = code; most = most })) (deed q.objects (sight t) w)
      ran = moves_mean_tree d q.objects (selecting of q d first) (sight t) (frame_sight of f t m) (completes of law q d first f fs t m begins)
          (interprets of law stores q begins.program begins.spelled d first f fs t (frame_sight of f t m) m (frame of law q d first f fs t m begins)
          (lines_save of d fit) fit.valid.rules fit.rules)
          w (start of q d first) (Some (record { entries = selected.entries; code = code; most = most })) parsed names (λ h. begin_stands of law q d first f fs t m begins) possible
          (λ e. (calm e, there_grown of law q d first f fs t m begins w typed names))

      finish : (e : Deed)
          → Ran (interprets of law stores q begins.program begins.spelled d first f fs t (frame_sight of f t m) m (frame of law q d first f fs t m begins)
          (lines_save of d fit) fit.valid.rules fit.rules)
          (Some (record { entries = selected.entries; code = code; most = most })) e → HasEffect of q f fs t m (of.run code m) e
      finish (Puts g n) h = h within
      finish (Branches rel label x y) h = h within
      finish (Pushes n) h = h within
      finish (Returns n) h = h within
      finish (Calls g n) h = h within
      finish (SavesTo n) h = h within
      finish (Jumps label) h = h within
      finish Traps h = h within
      finish Strays h = h within
