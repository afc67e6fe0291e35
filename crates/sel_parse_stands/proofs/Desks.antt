-- Spills and reloads of a reduction: the code comes to a state where the entries stand for what they stood for.
use Rattle.std.proofs.Common.{◌≡◌, ◌⊎◌, inl, inr, ℕ, zero, suc, ◌+◌, ◌-◌, ◌<◌, ◌≤◌, ◌==◌, List, [], ◌∷◌, ◌++◌, length, Option, Some, None, Bool, true, false, refl, sym, ap, ◌∙◌, subst, slice_get}
use Rattle.std.proofs.Common.{eq-or-lt_of_le, le_of_suc-le-suc}
use Rattle.std.proofs.Common.{arith}
use Rattle.std.specs.Prelude.{max, not, ◌&&◌, ◌||◌, if◌then◌else◌, slice_set}
use Rattle.std.specs.Int.{bit_at}
use Rattle.std.proofs.lemmas.Option.{same_Some, none-some, slice_get_within}
use Rattle.std.proofs.lemmas.Bool.{not-true, cases_eq}
use Rattle.gg_base.proofs.Facts.{first_true, second_true, true_or_false, slice_set_other, slice_set_same}
use Rattle.gg_base.specs.declared.size.Size.TheVariants.{Long}
use Rattle.tree_core.specs.declared.program.TreeProgram.{TreeProgram}
use Rattle.tree_meaning.specs.State.{State, Extent}
use Rattle.tree_meaning.specs.Values.{Sight}
use Rattle.md_reader.specs.declared.types.Kind.{Kind}
use Rattle.md_reader.specs.declared.types.Sym.{Sym}
use Rattle.md_reader.specs.declared.types.Sym.TheVariants as grammar_symbol
use Rattle.md_reader.specs.Patterns.{kind_at}
use Rattle.md_reader.specs.State.{Content}
use Rattle.sel_target.specs.sel_terms.specs.RuleFacts.{size_of_kind, size_of_symbol}
use Rattle.sel_terms_trees.specs.Senses.{Sense, OfNumber}
use Rattle.sel_target.specs.declared.attr.Attr.{Attr}
use Rattle.sel_target.specs.declared.attr.Attr.TheVariants as attr
use Rattle.sel_target.specs.Meaning.{Meaning, Spot, RegAt, WordAt, IsFree}
use Rattle.sel_target.specs.Courses.{comes}
use Rattle.sel_target.specs.Laws.{IsLawful}
use Rattle.sel_target.specs.Outcomes.{Keeps}
use Rattle.sel_target.specs.SavingLaws.{saving, reloading}
use Rattle.sel_target.specs.Symbols.{behind_one, first_that, saving_line, is_register, reload_line}
use Rattle.sel_parse_selected.specs.Entries.{Entry}
use Rattle.sel_parse_selected.specs.Desk.{Desk, Outcome, Full, Stuck, Done, bind, held, is_free_register, free_register, is_free_word, free_slot}
use Rattle.sel_parse_selected.specs.Spills.{Where, Below, Among, last_that, later_of, holds_register, may_go, deepest, victim, entry_at, in_slot}
use Rattle.sel_parse_selected.specs.Spills.{entry_in_slot, saved, saved_in, spilled, with_free, due_by, due}
use Rattle.sel_parse_selected.specs.Reductions.{loaded, reloaded_by, reloaded_at, reloaded}
use Rattle.sel_parse_stands.specs.Stands as stands
use Rattle.sel_parse_stands.specs.Stands.{ClassIs, SymbolIs, Sees, IsFrame, Holds}
use Rattle.sel_parse_stands.specs.Lines.{LinesSave}
use Rattle.sel_parse_stands.proofs.Loaded.{IsLoaded, in_slot_loaded}
use Rattle.sel_parse_stands.proofs.Carrying.{AllUntouched, Carried, on, stays, AllCarried, all_carried_on}
use Rattle.sel_parse_stands.proofs.Keeping.{holds_kept, sees_kept, not_held, comes_on}
use Rattle.sel_parse_stands.proofs.Saving.{lowest_found, entry_saved, slot_holds_none, register_loaded}

-- ---- elements that pass

pub done_same : {X : Type 0} (x y : X) → Done x ≡ Done y → x ≡ y
done_same x y e = cc

pub full_done : {X : Type 0} (x : X) → Full ≡ Done x → ⊥
full_done x e = cc

pub stuck_done : {X : Type 0} (x : X) → Stuck ≡ Done x → ⊥
stuck_done x e = cc

module _ {X : Type 0} (passes : X → Bool) where
  pub record Passes (xs : List X) (i : ℕ) : Type 0 where
    pub element : X
    pub there : slice_get xs i ≡ Some element
    pub is : passes element ≡ true

  behind_some : (o : Option ℕ) (i : ℕ) → behind_one o ≡ Some i → (j : ℕ) × (o ≡ Some j) × (i ≡ suc j)
  behind_some None i e = absurd (none-some i e)
  behind_some (Some j) i e = (j, refl, (let h = same_Some (j + 1) i e in omega (arith, h)))

  on_more : (x : X) (xs : List X) (i j : ℕ) → i ≡ suc j → Passes xs j → Passes (x ∷ xs) i
  on_more x xs i j e p = subst (Passes (x ∷ xs)) (sym e) (record { element = p.element; there = p.there; is = p.is })

  pub first_passes : (xs : List X) (i : ℕ) → first_that passes xs ≡ Some i → Passes xs i
  first_passes [] i e = absurd (none-some i e)
  first_passes (x ∷ xs) i e = by (passes x) refl e (λ j f. first_passes xs j f)
    where
      by : (b : Bool) → passes x ≡ b → (if b then Some 0 else behind_one (first_that passes xs)) ≡ Some i
          → ((j : ℕ) → first_that passes xs ≡ Some j → Passes xs j) → Passes (x ∷ xs) i
      by true is f go = subst (Passes (x ∷ xs)) (same_Some 0 i f) (record { element = x; there = refl; is = is })
      by false is f go = (let r = behind_some (first_that passes xs) i f in on_more x xs i r.0 r.2 (go r.0 r.1))

  pub last_passes : (xs : List X) (i : ℕ) → last_that passes xs ≡ Some i → Passes xs i
  last_passes [] i e = absurd (none-some i e)
  last_passes (x ∷ xs) i e = by (last_that passes xs) refl e (λ j f. last_passes xs j f)
    where
      here : (b : Bool) → passes x ≡ b → (if b then Some 0 else None) ≡ Some i → Passes (x ∷ xs) i
      here true is f = subst (Passes (x ∷ xs)) (same_Some 0 i f) (record { element = x; there = refl; is = is })
      here false is f = absurd (none-some i f)

      by : (o : Option ℕ) → last_that passes xs ≡ o → later_of o (if passes x then Some 0 else None) ≡ Some i
          → ((j : ℕ) → last_that passes xs ≡ Some j → Passes xs j) → Passes (x ∷ xs) i
      by None at f go = here (passes x) refl f
      by (Some j) at f go = on_more x xs i j (let h = same_Some (j + 1) i f in let k : i ≡ suc j = omega (arith, h) in k) (go j at)

-- ---- one element is put

pub set_is : {X : Type 0} (xs : List X) (i : ℕ) (y x : X) → slice_get (slice_set xs i y) i ≡ Some x → y ≡ x
set_is [] i y x e = absurd (none-some x e)
set_is (z ∷ xs) zero y x e = same_Some y x e
set_is (z ∷ xs) (suc i) y x e = set_is xs i y x e

set_length : {X : Type 0} (xs : List X) (i : ℕ) (y : X) → length (slice_set xs i y) ≡ length xs
set_length [] i y = refl
set_length (x ∷ xs) zero y = refl
set_length (x ∷ xs) (suc i) y = ap suc (set_length xs i y)

-- ---- which entry may go to a slot

module _ {O I S F : Type 0} (of : Meaning O I S F) where
  -- what may be moved: an entry that holds a register, and of the symbols one that is no register
  pub data MayMove (desk : Desk O I) : (p : Where) (e : Entry O) → Type 0 where
    below : (i : ℕ) (e : Entry O) → slice_get desk.below i ≡ Some e → holds_register of e ≡ true → MayMove desk (Below i) e
    among : (i : ℕ) (e : Entry O) → slice_get desk.symbols i ≡ Some e → holds_register of e ≡ true → (is_register e.attr ≡ true → ⊥) → MayMove desk (Among i) e

  may_below : (desk : Desk O I) (i : ℕ) → last_that (holds_register of) desk.below ≡ Some i → (e : Entry O) × (entry_at of desk (Below i) ≡ Some e) × MayMove desk (Below i) e
  may_below desk i h = (let r = last_passes (holds_register of) desk.below i h in (r.element, r.there, below i r.element r.there r.is))

  may_among : (desk : Desk O I) (i : ℕ) → first_that (may_go of) desk.symbols ≡ Some i → (e : Entry O) × (entry_at of desk (Among i) ≡ Some e) × MayMove desk (Among i) e
  may_among desk i h =
      let r = first_passes (may_go of) desk.symbols i h in (
        r.element,
        r.there,
        among i r.element r.there (second_true (not (is_register r.element.attr)) (holds_register of r.element) r.is)
            (λ g. true_or_false (is_register r.element.attr) g (not-true (is_register r.element.attr) (first_true (not (is_register r.element.attr)) (holds_register of r.element) r.is))),
      )

  pub may_victim : (given : Bool) (desk : Desk O I) (p : Where) → victim of given desk ≡ Some p → (e : Entry O) × (entry_at of desk p ≡ Some e) × MayMove desk p e
  may_victim given desk p h = by (last_that (holds_register of) desk.below) refl h
    where
      Goal : Where → Type 0
      Goal p = (e : Entry O) × (entry_at of desk p ≡ Some e) × MayMove desk p e

      second : (g : Bool) (o : Option ℕ) → (if g then None else first_that (may_go of) desk.symbols) ≡ o → deepest of None o ≡ Some p → Goal p
      second g None at k = absurd (none-some p k)
      second true (Some i) at k = absurd (none-some i at)
      second false (Some i) at k = subst Goal (same_Some (Among i) p k) (may_among desk i at)

      by : (o : Option ℕ) → last_that (holds_register of) desk.below ≡ o
          → deepest of o (if given then None else first_that (may_go of) desk.symbols) ≡ Some p → Goal p
      by None at k = second given (if given then None else first_that (may_go of) desk.symbols) refl k
      by (Some i) at k = subst Goal (same_Some (Below i) p k) (may_below desk i at)

module _ {O I S F : Type 0} (of : Meaning O I S F) (law : IsLawful of) (q : TreeProgram) (d : Content) (first : ℕ) (f : Extent) (fs : List Extent) (t : State) (s : Sight) (m0 : S)
    (frame : IsFrame of q d first f fs t s m0) (lines : LinesSave of d) where
  abbrev IsSymbol : S → Sym → Option Kind → Attr O → Sense → Type 0
  IsSymbol m x k a v = SymbolIs of q d first f fs t s m0 m x k a v

  abbrev Hold : S → List (Entry O) → List Sym → List Sense → Type 0
  Hold m es xs vs = Holds of q d first f fs t s m0 m es xs vs

  abbrev Free : List Spot → List (Entry O) → Type 0
  Free spots es = AllUntouched of q d f t spots es

  free_parts : (spots : List Spot) (es bs : List (Entry O)) → Free spots (es ++ bs) → Free spots es × Free spots bs
  free_parts spots [] bs h = (tt, h)
  free_parts spots (e ∷ es) bs h = (let r = free_parts spots es bs h.1 in ((h.0, r.0), r.1))

  -- an entry of a stack, and the stack with another one in its place
  record Picked (m : S) (es : List (Entry O)) (xs : List Sym) (vs : List Sense) (i : ℕ) (e : Entry O) : Type 0 where
    symbol : Sym
    sense : Sense
    there : slice_get xs i ≡ Some symbol
    is : IsSymbol m symbol e.kind e.attr sense
    put : (m' : S) (a : Attr O) (spots : List Spot) → Keeps of spots m m' → Free spots es → IsSymbol m' symbol e.kind a sense
        → Hold m' (slice_set es i (record { kind = e.kind; attr = a })) xs vs

  picked : (m : S) (es : List (Entry O)) (xs : List Sym) (vs : List Sense) (i : ℕ) (e : Entry O) → Hold m es xs vs → slice_get es i ≡ Some e → Picked m es xs vs i e
  picked m [] xs vs i e holds at = absurd (none-some e at)
  picked m (b ∷ es) [] [] i e holds at = absurd holds
  picked m (b ∷ es) [] (v ∷ vs) i e holds at = absurd holds
  picked m (b ∷ es) (x ∷ xs) [] i e holds at = absurd holds
  picked m (b ∷ es) (x ∷ xs) (v ∷ vs) zero e holds at = subst (Picked m (b ∷ es) (x ∷ xs) (v ∷ vs) zero) (same_Some b e at) (record {
    symbol = x;
    sense = v;
    there = refl;
    is = holds.0;
    put = λ m' a spots keeps free is. (is, holds_kept of law q d first f fs t s m0 spots m m' es xs vs keeps free.1 holds.1);
  })
  picked m (b ∷ es) (x ∷ xs) (v ∷ vs) (suc i) e holds at =
      let r = picked m es xs vs i e holds.1 at in
      record {
        symbol = r.symbol;
        sense = r.sense;
        there = r.there;
        is = r.is;
        put = λ m' a spots keeps free is. (first_kept m' spots keeps free, r.put m' a spots keeps free.1 is);
      }
    where
      first_kept : (m' : S) (spots : List Spot) → Keeps of spots m m' → Free spots (b ∷ es) → IsSymbol m' x b.kind b.attr v
      first_kept m' spots keeps free = (holds_kept of law q d first f fs t s m0 spots m m' (b ∷ []) (x ∷ []) (v ∷ []) keeps (free.0, tt) (holds.0, tt)).0

  -- the same of what is carried on
  put_carried : (m m' m'' : S) (right : List Sym) (as_ es : List (Entry O)) (i : ℕ) (e : Entry O) (a : Attr O) (x : Sym) (spots : List Spot)
      → Keeps of spots m' m'' → Free spots es → slice_get es i ≡ Some e → slice_get right i ≡ Some x
      → Carried of q d f t m' m'' (size_of_symbol d.classes x) e.attr a
      → AllCarried of q d f t m m' right as_ es → AllCarried of q d f t m m'' right as_ (slice_set es i (record { kind = e.kind; attr = a }))
  put_carried m m' m'' right as_ [] i e a x spots keeps free at there new h = absurd (none-some e at)
  put_carried m m' m'' [] [] (b ∷ es) i e a x spots keeps free at there new h = absurd h
  put_carried m m' m'' [] (c ∷ as_) (b ∷ es) i e a x spots keeps free at there new h = absurd h
  put_carried m m' m'' (y ∷ ys) [] (b ∷ es) i e a x spots keeps free at there new h = absurd h
  put_carried m m' m'' (y ∷ ys) (c ∷ as_) (b ∷ es) zero e a x spots keeps free at there new h = (
    on of q d f t m m' m'' (size_of_symbol d.classes y) c.attr b.attr a h.0
        (subst (λ (z : Entry O). Carried of q d f t m' m'' (size_of_symbol d.classes y) z.attr a) (sym (same_Some b e at))
        (subst (λ z. Carried of q d f t m' m'' (size_of_symbol d.classes z) e.attr a) (sym (same_Some y x there)) new)),
    all_carried_on of q d f t spots m m' m'' ys as_ es keeps free.1 h.1,
  )
  put_carried m m' m'' (y ∷ ys) (c ∷ as_) (b ∷ es) (suc i) e a x spots keeps free at there new h = (
    on of q d f t m m' m'' (size_of_symbol d.classes y) c.attr b.attr b.attr h.0 (stays of q d f t spots m' m'' (size_of_symbol d.classes y) b.attr keeps free.0),
    put_carried m m' m'' ys as_ es i e a x spots keeps free.1 at there new h.1,
  )

  -- a frame word that no entry touches
  record Word (desk : Desk O I) (w : ℕ) : Type 0 where
    from : first ≤ w
    low : w < 1024
    symbols : Free (WordAt w ∷ []) desk.symbols
    below : Free (WordAt w ∷ []) desk.below

  word_found : (desk : Desk O I) (w : ℕ) → free_slot of first desk ≡ Some w → Word desk w
  word_found desk w e =
      let h = lowest_found (is_free_word of desk) first (1024 - first) w e in
      let free = not_held of law q d first f fs t s m0 (WordAt w) (desk.former ++ (desk.symbols ++ desk.below))
      (not-true (held of (desk.former ++ (desk.symbols ++ desk.below)) (WordAt w)) h.is) in
      let parts = free_parts (WordAt w ∷ []) desk.former (desk.symbols ++ desk.below) free in
      let two = free_parts (WordAt w ∷ []) desk.symbols desk.below parts.1 in
      let from = h.from in
      let upto = h.below in
      record { from = from; low = omega (arith, from, upto); symbols = two.0; below = two.1 }

  -- a register of the pool that no entry below touches, and none of the symbols unless theirs were given back
  pub record IsDue (given : Bool) (desk : Desk O I) (r : ℕ) : Type 0 where
    pub small : r < 12
    pub below : Free (RegAt r ∷ []) desk.below
    pub symbols : given ≡ false → Free (RegAt r ∷ []) desk.symbols

  pub due_found : (given : Bool) (desk : Desk O I) (r : ℕ) → free_register of d given desk ≡ Some r → IsDue given desk r
  due_found given desk r e =
      let found = lowest_found (is_free_register of d given desk) 0 12 r e in
      let two = second_true (bit_at d.pool r == 1) (not (held of desk.below (RegAt r)) && (given || not (held of desk.symbols (RegAt r)))) found.is in
      record {
        small = (let b = found.below in omega (arith, b));
        below = not_held of law q d first f fs t s m0 (RegAt r) desk.below
            (not-true (held of desk.below (RegAt r)) (first_true (not (held of desk.below (RegAt r))) (given || not (held of desk.symbols (RegAt r))) two));
        symbols = λ g. not_held of law q d first f fs t s m0 (RegAt r) desk.symbols
            (not-true (held of desk.symbols (RegAt r))
            (subst (λ b. (b || not (held of desk.symbols (RegAt r))) ≡ true) g
            (second_true (not (held of desk.below (RegAt r))) (given || not (held of desk.symbols (RegAt r))) two)));
      }

  -- The rule's symbols at the choice, in the state m, and what stands below them.
  module _ (m : S) (right : List Sym) (es : List (Entry O)) (vs : List Sense) (a : List Sym) (us : List Sense) where
    -- the code so far comes to a state where all entries stand for what they stood for
    pub record Works (desk : Desk O I) : Type 0 where
      pub state : S
      pub ran : of.run desk.code m0 ≡ comes state
      pub sees : Sees of q d first f fs t s m0 state
      pub live : of.live state ≡ of.live m0
      pub symbols : Hold state desk.symbols right vs
      pub below : Hold state desk.below a us
      pub carried : AllCarried of q d f t m state right es desk.symbols

    -- the first so many symbols don't stand in slots as registers
    abbrev pub LoadedTo : ℕ → List (Entry O) → Type 0
    LoadedTo i bs = (j : ℕ) (e : Entry O) → j < i → slice_get bs j ≡ Some e → IsLoaded e.attr

    -- what a spill leaves of the symbols: registers and words stay where they are, and what is loaded stays so
    pub record Stays (old new : List (Entry O)) : Type 0 where
      pub slots : (j w : ℕ) (k : Option Kind) → w < 1024 → slice_get old j ≡ Some (record { kind = k; attr = attr.InSlot w })
          → slice_get new j ≡ Some (record { kind = k; attr = attr.InSlot w })
      pub loaded : (i : ℕ) → LoadedTo i old → LoadedTo i new
      pub size : length new ≡ length old

    unchanged : (bs : List (Entry O)) → Stays bs bs
    unchanged bs = record { slots = λ j w k lt e. e; loaded = λ i h. h; size = refl }

    moved_works : (desk : Desk O I) (p : Where) (e : Entry O) (w : ℕ) → MayMove of desk p e → Word desk w → w < f.words → Works desk → Works (saved of q d first desk p e w)
    moved_works desk p e w (below i e' at holding) word lt works =
        let b = picked works.state desk.below a us i e works.below at in
        let it = entry_saved of law q d first f fs t s m0 frame lines works.state works.sees w word.from lt b.symbol e.kind e.attr b.sense b.is holding in
        record {
          state = it.state;
          ran = comes_on of law q d first f fs t s m0 desk.code (saving of q (saving_line d e.kind) e.attr w) works.state it.state works.ran it.ran;
          sees = sees_kept of law q d first f fs t s m0 frame (WordAt w ∷ []) works.state it.state it.keeps (is_free w word lt, tt) works.sees;
          live = it.keeps.live ∙ works.live;
          symbols = holds_kept of law q d first f fs t s m0 (WordAt w ∷ []) works.state it.state desk.symbols right vs it.keeps word.symbols works.symbols;
          below = b.put it.state (in_slot of e.attr w) (WordAt w ∷ []) it.keeps word.below it.is;
          carried = all_carried_on of q d f t (WordAt w ∷ []) m works.state it.state right es desk.symbols it.keeps word.symbols works.carried;
        }
      where
        is_free : (w : ℕ) → Word desk w → w < f.words → IsFree f (WordAt w)
        is_free w word lt = (let own = frame.own in let from = word.from in (omega (arith, own, from), lt))
    moved_works desk p e w (among i e' at holding apart) word lt works =
        let b = picked works.state desk.symbols right vs i e works.symbols at in
        let it = entry_saved of law q d first f fs t s m0 frame lines works.state works.sees w word.from lt b.symbol e.kind e.attr b.sense b.is holding in
        record {
          state = it.state;
          ran = comes_on of law q d first f fs t s m0 desk.code (saving of q (saving_line d e.kind) e.attr w) works.state it.state works.ran it.ran;
          sees = sees_kept of law q d first f fs t s m0 frame (WordAt w ∷ []) works.state it.state it.keeps (is_free w word lt, tt) works.sees;
          live = it.keeps.live ∙ works.live;
          symbols = b.put it.state (in_slot of e.attr w) (WordAt w ∷ []) it.keeps word.symbols it.is;
          below = holds_kept of law q d first f fs t s m0 (WordAt w ∷ []) works.state it.state desk.below a us it.keeps word.below works.below;
          carried = put_carried m works.state it.state right es desk.symbols i e (in_slot of e.attr w) b.symbol (WordAt w ∷ []) it.keeps word.symbols at b.there it.carried works.carried;
        }
      where
        is_free : (w : ℕ) → Word desk w → w < f.words → IsFree f (WordAt w)
        is_free w word lt = (let own = frame.own in let from = word.from in (omega (arith, own, from), lt))

    moved_stays : (desk : Desk O I) (p : Where) (e : Entry O) (w : ℕ) → MayMove of desk p e → Stays desk.symbols (saved of q d first desk p e w).symbols
    moved_stays desk p e w (below i e' at holding) = unchanged desk.symbols
    moved_stays desk p e w (among i e' at holding apart) = record {
      slots = slots;
      loaded = loaded_still;
      size = set_length desk.symbols i (entry_in_slot of e w);
    } where
      slots : (j u : ℕ) (k : Option Kind) → u < 1024 → slice_get desk.symbols j ≡ Some (record { kind = k; attr = attr.InSlot u })
          → slice_get (slice_set desk.symbols i (entry_in_slot of e w)) j ≡ Some (record { kind = k; attr = attr.InSlot u })
      slots j u k lt there = by (cases_eq i j)
        where
          same_entry : i ≡ j → e ≡ record { kind = k; attr = attr.InSlot u }
          same_entry g = same_Some e (record { kind = k; attr = attr.InSlot u }) (sym at ∙ ap (slice_get desk.symbols) g ∙ there)

          by : (i ≡ j) ⊎ (i ≡ j → ⊥) → slice_get (slice_set desk.symbols i (entry_in_slot of e w)) j ≡ Some (record { kind = k; attr = attr.InSlot u })
          by (inl g) =
              absurd (slot_holds_none of law k u lt (subst (λ (x : Entry O). holds_register of x ≡ true) (same_entry g) holding))
          by (inr g) = slice_set_other desk.symbols i (entry_in_slot of e w) j (λ z. g (sym z)) ∙ there

      loaded_still : (n : ℕ) → LoadedTo n desk.symbols → LoadedTo n (slice_set desk.symbols i (entry_in_slot of e w))
      loaded_still n h j b lt there = by (cases_eq i j)
        where
          by : (i ≡ j) ⊎ (i ≡ j → ⊥) → IsLoaded b.attr
          by (inl g) =
              subst (λ (x : Entry O). IsLoaded x.attr)
              (same_Some (entry_in_slot of e w) b (sym (slice_set_same desk.symbols i (entry_in_slot of e w) (slice_get_within desk.symbols i e at))
              ∙ ap (slice_get (slice_set desk.symbols i (entry_in_slot of e w))) g ∙ there))
              (in_slot_loaded of e.attr w apart (h i e (subst (λ k. k < n) (sym g) lt) at))
          by (inr g) = h j b lt (sym (slice_set_other desk.symbols i (entry_in_slot of e w) j (λ z. g (sym z))) ∙ there)

    -- ---- a register is due

    pub record Behind (given : Bool) (desk : Desk O I) (r : ℕ) (new : Desk O I) : Type 0 where
      pub due : IsDue given new r
      pub stays : Stays desk.symbols new.symbols
      pub grows : desk.most ≤ new.most
      pub works : new.most ≤ f.words → Works desk → Works new

    grown : (n k : ℕ) → n ≤ max n k
    grown n k = omega arith

    spilled_by : (given : Bool) (desk new : Desk O I) (p : Where) (e : Entry O) (r : ℕ) → MayMove of desk p e
        → saved_in of q d first desk p (Some e) (free_slot of first desk) ≡ Done new → free_register of d given new ≡ Some r → Behind given desk r new
    spilled_by given desk new p e r may is due = by (free_slot of first desk) refl is
      where
        done : (w : ℕ) → free_slot of first desk ≡ Some w → saved of q d first desk p e w ≡ new → Behind given desk r new
        done w at same = record {
          due = due_found given new r due;
          stays = subst (λ (x : Desk O I). Stays desk.symbols x.symbols) same (moved_stays desk p e w may);
          grows = subst (λ (x : Desk O I). desk.most ≤ x.most) same (grown desk.most (w + 1));
          works = λ within old. subst Works same (moved_works desk p e w may (word_found desk w at) (below_words w (subst (λ (x : Desk O I). x.most ≤ f.words) (sym same) within)) old);
        } where
          below_words : (w : ℕ) → max desk.most (w + 1) ≤ f.words → w < f.words
          below_words w h = omega (arith, h)

        by : (o : Option ℕ) → free_slot of first desk ≡ o → saved_in of q d first desk p (Some e) o ≡ Done new → Behind given desk r new
        by None at h = absurd (full_done new h)
        by (Some w) at h = done w at (done_same (saved of q d first desk p e w) new h)

    pub due_works : (given : Bool) (desk new : Desk O I) (r : ℕ) → due of q d first given desk ≡ Done (r, new) → Behind given desk r new
    due_works given desk new r h = by (free_register of d given desk) refl h
      where
        free_behind : (x : Desk O I) (o : Option ℕ) → free_register of d given x ≡ o → with_free of q d first x o ≡ Done (r, new) → (x ≡ new) × (free_register of d given new ≡ Some r)
        free_behind x None at k = absurd (stuck_done (r, new) k)
        free_behind x (Some r') at k =
            let same = done_same (r', x) (r, new) k in
            let e : x ≡ new = ap (λ p. p.1) same in
            let g : r' ≡ r = ap (λ p. p.0) same in
            (e, subst (λ y. free_register of d given y ≡ Some r) e (at ∙ ap Some g))

        at_victim : (o : Option Where) → victim of given desk ≡ o
            → bind (spilled of q d first desk o) (λ x. with_free of q d first x (free_register of d given x)) ≡ Done (r, new) → Behind given desk r new
        at_victim None at k = absurd (stuck_done (r, new) k)
        at_victim (Some p) at k =
            let v = may_victim of given desk p at in
            spilt p v.0 v.1 v.2 (saved_in of q d first desk p (Some v.0) (free_slot of first desk)) refl
            (ap (λ o. bind (saved_in of q d first desk p o (free_slot of first desk)) (λ x. with_free of q d first x (free_register of d given x))) (sym v.1) ∙ k)
          where
            spilt : (p : Where) (e : Entry O) → entry_at of desk p ≡ Some e → MayMove of desk p e → (o : Outcome (Desk O I)) → saved_in of q d first desk p (Some e) (free_slot of first desk) ≡ o
                → bind (saved_in of q d first desk p (Some e) (free_slot of first desk)) (λ x. with_free of q d first x (free_register of d given x)) ≡ Done (r, new) → Behind given desk r new
            spilt p e there may Full is k = absurd (full_done (r, new) (ap (λ o. bind o (λ x. with_free of q d first x (free_register of d given x))) (sym is) ∙ k))
            spilt p e there may Stuck is k = absurd (stuck_done (r, new) (ap (λ o. bind o (λ x. with_free of q d first x (free_register of d given x))) (sym is) ∙ k))
            spilt p e there may (Done x) is k =
                let g = free_behind x (free_register of d given x) refl (ap (λ o. bind o (λ x. with_free of q d first x (free_register of d given x))) (sym is) ∙ k) in
                spilled_by given desk new p e r may (is ∙ ap Done g.0) g.1

        by : (o : Option ℕ) → free_register of d given desk ≡ o → due_by of q d first given desk o ≡ Done (r, new) → Behind given desk r new
        by (Some r') at k =
            let same = done_same (r', desk) (r, new) k in
            let e : desk ≡ new = ap (λ p. p.1) same in
            let g : r' ≡ r = ap (λ p. p.0) same in
            subst (Behind given desk r) e (record {
              due = due_found given desk r (at ∙ ap Some g);
              stays = unchanged desk.symbols;
              grows = omega arith;
              works = λ within old. old;
            })
        by None at k = at_victim (victim of given desk) refl k

    -- where nothing may be moved, nothing is
    pub due_unmoved : (given : Bool) (desk new : Desk O I) (r : ℕ) → due of q d first given desk ≡ Done (r, new)
        → ((p : Where) (e : Entry O) → MayMove of desk p e → ⊥) → desk ≡ new
    due_unmoved given desk new r h stuck = by (free_register of d given desk) h
      where
        at_victim : (o : Option Where) → victim of given desk ≡ o
            → bind (spilled of q d first desk o) (λ x. with_free of q d first x (free_register of d given x)) ≡ Done (r, new) → desk ≡ new
        at_victim None at k = absurd (stuck_done (r, new) k)
        at_victim (Some p) at k = absurd (let v = may_victim of given desk p at in stuck p v.0 v.2)

        by : (o : Option ℕ) → due_by of q d first given desk o ≡ Done (r, new) → desk ≡ new
        by (Some r') k = ap (λ p. p.1) (done_same (r', desk) (r, new) k)
        by None k = at_victim (victim of given desk) refl k

    -- ---- a register's symbol is reloaded

    record Brought (m' : S) (x : Sym) (k : Option Kind) (w r : ℕ) (v : Sense) : Type 0 where
      state : S
      ran : of.run (reloading of q (reload_line d) w r) m' ≡ comes state
      keeps : Keeps of (RegAt r ∷ []) m' state
      is : IsSymbol state x k (attr.Reg r) v
      carried : Carried of q d f t m' state (size_of_symbol d.classes x) (attr.InSlot w) (attr.Reg r)

    slot_same : (u w : ℕ) → ◌≡◌ {A = Attr O} (attr.InSlot u) (attr.InSlot w) → u ≡ w
    slot_same u w e = cc

    class_brought : (m' : S) → Sees of q d first f fs t s m0 m' → (k : Option Kind) (b : Attr O) (v : Sense) (w r : ℕ) → r < 12
        → ClassIs of q d first f fs t s m0 m' k b v → b ≡ attr.InSlot w
        → (c : ℕ) → kind_at d.classes c ≡ k → (w < 1024) × Brought m' (grammar_symbol.Class c) k w r v
    class_brought m' sees k b v w r lt (stands.in_slot u n le low is) e c g =
        let same = slot_same u w e in
        let low' : w < 1024 = subst (λ j. j < 1024) same low in
        let it = register_loaded of law q d first f fs t s m0 frame m' sees (reload_line d) (lines.reloads) r n w lt
        (subst (λ j. of.reads (of.slot j) Long m' ≡ Some n) same is) low' in (
          low',
          record {
            state = it.state;
            ran = it.ran;
            keeps = it.keeps;
            is = subst (λ j. IsSymbol it.state (grammar_symbol.Class c) j (attr.Reg r) (OfNumber n)) g
                (stands.class c (attr.Reg r) (OfNumber n) (subst (λ j. ClassIs of q d first f fs t s m0 it.state j (attr.Reg r) (OfNumber n)) (sym g) it.is));
            carried = subst (λ j. Carried of q d f t m' it.state (size_of_kind j) (attr.InSlot w) (attr.Reg r)) (sym g) it.carried;
          },
        )
    class_brought m' sees k b v w r lt _ e c g = absurd (cc)

    brought : (m' : S) → Sees of q d first f fs t s m0 m' → (x : Sym) (k : Option Kind) (b : Attr O) (v : Sense) (w r : ℕ) → r < 12
        → IsSymbol m' x k b v → b ≡ attr.InSlot w → (w < 1024) × Brought m' x k w r v
    brought m' sees x k b v w r lt (stands.token l fit named) e = absurd (cc)
    brought m' sees x k b v w r lt (stands.class c b' v' is) e = class_brought m' sees (kind_at d.classes c) b v w r lt is e c refl

    -- what is known behind the reload of some symbols
    pub record Reloaded (i : ℕ) (desk new : Desk O I) : Type 0 where
      pub loaded : LoadedTo i new.symbols
      pub grows : desk.most ≤ new.most
      pub works : new.most ≤ f.words → Works desk → Works new

    -- one symbol in a slot
    slot_reloaded : (i : ℕ) (desk new y : Desk O I) (k : Option Kind) (w r : ℕ) → slice_get desk.symbols i ≡ Some (record { kind = k; attr = attr.InSlot w })
        → Behind false desk r y → LoadedTo i desk.symbols
        → record {
          below = y.below;
          symbols = slice_set y.symbols i (record { kind = k; attr = attr.Reg r });
          former = y.former ++ record { kind = k; attr = attr.InSlot w } ∷ [];
          code = y.code ++ reloading of q (reload_line d) w r;
          most = y.most;
        } ≡ new
        → Reloaded (suc i) desk new
    slot_reloaded i desk new y k w r at b before same = subst (Reloaded (suc i) desk) same (record {
      loaded = loaded_now;
      grows = b.grows;
      works = λ within old. works_now old (b.works within old);
    }) where
      loaded_now : LoadedTo (suc i) (slice_set y.symbols i (record { kind = k; attr = attr.Reg r }))
      loaded_now j e lt there = by (eq-or-lt_of_le (le_of_suc-le-suc lt))
        where
          here : slice_get (slice_set y.symbols i (record { kind = k; attr = attr.Reg r })) i ≡ Some e → IsLoaded e.attr
          here h = subst (λ (x : Entry O). IsLoaded x.attr) (set_is y.symbols i (record { kind = k; attr = attr.Reg r }) e h) tt

          apart : j < i → i ≡ j → ⊥
          apart lt g = omega (arith, lt, g)

          by : (j ≡ i) ⊎ (j < i) → IsLoaded e.attr
          by (inl g) = here (ap (slice_get (slice_set y.symbols i (record { kind = k; attr = attr.Reg r }))) (sym g) ∙ there)
          by (inr lt) = b.stays.loaded i before j e lt (sym (slice_set_other y.symbols i (record { kind = k; attr = attr.Reg r }) j (λ z. apart lt (sym z))) ∙ there)

      works_now : Works desk → Works y → Works (record {
        below = y.below;
        symbols = slice_set y.symbols i (record { kind = k; attr = attr.Reg r });
        former = y.former ++ record { kind = k; attr = attr.InSlot w } ∷ [];
        code = y.code ++ reloading of q (reload_line d) w r;
        most = y.most;
      })
      works_now old now =
          let p = picked old.state desk.symbols right vs i (record { kind = k; attr = attr.InSlot w }) old.symbols at in
          let low = (brought old.state old.sees p.symbol k (attr.InSlot w) p.sense w r b.due.small p.is refl).0 in
          let there = b.stays.slots i w k low at in
          let n = picked now.state y.symbols right vs i (record { kind = k; attr = attr.InSlot w }) now.symbols there in
          let it = (brought now.state now.sees n.symbol k (attr.InSlot w) n.sense w r b.due.small n.is refl).1 in
          record {
            state = it.state;
            ran = comes_on of law q d first f fs t s m0 y.code (reloading of q (reload_line d) w r) now.state it.state now.ran it.ran;
            sees = sees_kept of law q d first f fs t s m0 frame (RegAt r ∷ []) now.state it.state it.keeps (tt, tt) now.sees;
            live = it.keeps.live ∙ now.live;
            symbols = n.put it.state (attr.Reg r) (RegAt r ∷ []) it.keeps (b.due.symbols refl) it.is;
            below = holds_kept of law q d first f fs t s m0 (RegAt r ∷ []) now.state it.state y.below a us it.keeps b.due.below now.below;
            carried = put_carried m now.state it.state right es y.symbols i (record { kind = k; attr = attr.InSlot w }) (attr.Reg r) n.symbol (RegAt r ∷ []) it.keeps
                (b.due.symbols refl) there n.there it.carried now.carried;
          }

    not_reloaded : (i : ℕ) (desk new : Desk O I) → ((e : Entry O) → slice_get desk.symbols i ≡ Some e → IsLoaded e.attr) → LoadedTo i desk.symbols → desk ≡ new → Reloaded (suc i) desk new
    not_reloaded i desk new here before same = subst (Reloaded (suc i) desk) same (record {
      loaded = λ j e lt there. by j e there (eq-or-lt_of_le (le_of_suc-le-suc lt));
      grows = omega arith;
      works = λ within old. old;
    }) where
      by : (j : ℕ) (e : Entry O) → slice_get desk.symbols j ≡ Some e → (j ≡ i) ⊎ (j < i) → IsLoaded e.attr
      by j e there (inl g) = here e (ap (slice_get desk.symbols) (sym g) ∙ there)
      by j e there (inr lt) = before j e lt there

    one_reloaded : (i : ℕ) (desk new : Desk O I) → LoadedTo i desk.symbols → reloaded_at of q d first i desk (slice_get desk.symbols i) ≡ Done new → Reloaded (suc i) desk new
    one_reloaded i desk new before h = at (slice_get desk.symbols i) refl h
      where
        plain : (k : Option Kind) (b : Attr O) → slice_get desk.symbols i ≡ Some (record { kind = k; attr = b }) → IsLoaded b → desk ≡ new → Reloaded (suc i) desk new
        plain k b there fine same = not_reloaded i desk new
            (λ e g. subst (λ (x : Entry O). IsLoaded x.attr) (same_Some (record { kind = k; attr = b }) e (sym there ∙ g)) fine) before same

        due_then : (k : Option Kind) (w : ℕ) → slice_get desk.symbols i ≡ Some (record { kind = k; attr = attr.InSlot w })
            → (o : Outcome (ℕ × Desk O I)) → due of q d first false desk ≡ o
            → bind o (loaded of q d first i (record { kind = k; attr = attr.InSlot w }) w) ≡ Done new → Reloaded (suc i) desk new
        due_then k w there Full is g = absurd (full_done new g)
        due_then k w there Stuck is g = absurd (stuck_done new g)
        due_then k w there (Done p) is g =
            slot_reloaded i desk new p.1 k w p.0 there (due_works false desk p.1 p.0 is) before (done_same _ new g)

        by : (k : Option Kind) (b : Attr O) → slice_get desk.symbols i ≡ Some (record { kind = k; attr = b })
            → reloaded_by of q d first i desk (record { kind = k; attr = b }) b ≡ Done new → Reloaded (suc i) desk new
        by k (attr.Reg r) there g = plain k (attr.Reg r) there tt (done_same desk new g)
        by k (attr.InSlot w) there g = due_then k w there (due of q d first false desk) refl g
        by k (attr.Value o) there g = plain k (attr.Value o) there tt (done_same desk new g)
        by k (attr.Place o) there g = plain k (attr.Place o) there tt (done_same desk new g)
        by k (attr.Con n) there g = plain k (attr.Con n) there tt (done_same desk new g)
        by k (attr.Ea o) there g = plain k (attr.Ea o) there tt (done_same desk new g)
        by k (attr.Token l) there g = plain k (attr.Token l) there tt (done_same desk new g)
        by k attr.Nothing there g = plain k attr.Nothing there tt (done_same desk new g)

        at : (o : Option (Entry O)) → slice_get desk.symbols i ≡ o → reloaded_at of q d first i desk o ≡ Done new → Reloaded (suc i) desk new
        at None there g = not_reloaded i desk new (λ e h. absurd (none-some e (sym there ∙ h))) before (done_same desk new g)
        at (Some e) there g = by e.kind e.attr there g

    pub reloaded_works : (n i : ℕ) (desk new : Desk O I) → LoadedTo i desk.symbols → reloaded of q d first n i desk ≡ Done new → Reloaded (i + n) desk new
    reloaded_works zero i desk new before h =
        let e : desk ≡ new = done_same desk new h in
        let g : i ≡ i + 0 = omega arith in
        subst (λ k. Reloaded k desk new) g (subst (Reloaded i desk) e (record { loaded = before; grows = omega arith; works = λ within old. old }))
    reloaded_works (suc n) i desk new before h =
        by (reloaded_at of q d first i desk (slice_get desk.symbols i)) refl h (λ x k g. reloaded_works n (i + 1) x new k g)
      where
        chained : (x : Desk O I) → Reloaded (suc i) desk x → Reloaded (i + 1 + n) x new → Reloaded (i + suc n) desk new
        chained x p r =
            let g : i + 1 + n ≡ i + suc n = omega arith in
            subst (λ k. Reloaded k desk new) g (record {
              loaded = r.loaded;
              grows = (let a = p.grows in let b = r.grows in omega (arith, a, b));
              works = λ within old. r.works within (p.works (let b = r.grows in omega (arith, b, within)) old);
            })

        by : (o : Outcome (Desk O I)) → reloaded_at of q d first i desk (slice_get desk.symbols i) ≡ o → bind o (reloaded of q d first n (i + 1)) ≡ Done new
            → ((x : Desk O I) → LoadedTo (i + 1) x.symbols → reloaded of q d first n (i + 1) x ≡ Done new → Reloaded (i + 1 + n) x new) → Reloaded (i + suc n) desk new
        by Full is g go = absurd (full_done new g)
        by Stuck is g go = absurd (stuck_done new g)
        by (Done x) is g go =
            let p = one_reloaded i desk x before is in
            chained x p (go x (let e : suc i ≡ i + 1 = omega arith in subst (λ k. LoadedTo k x.symbols) e p.loaded) g)

    -- all symbols are loaded behind it

    pub holds_length : (m' : S) (bs : List (Entry O)) (xs : List Sym) (ws : List Sense) → Hold m' bs xs ws → length bs ≡ length xs
    holds_length m' [] [] [] h = refl
    holds_length m' [] [] (w ∷ ws) h = absurd h
    holds_length m' [] (x ∷ xs) ws h = absurd h
    holds_length m' (b ∷ bs) [] [] h = absurd h
    holds_length m' (b ∷ bs) [] (w ∷ ws) h = absurd h
    holds_length m' (b ∷ bs) (x ∷ xs) [] h = absurd h
    holds_length m' (b ∷ bs) (x ∷ xs) (w ∷ ws) h = ap suc (holds_length m' bs xs ws h.1)
