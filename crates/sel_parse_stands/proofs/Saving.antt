-- An entry is saved in a word, and brought back.
use Rattle.std.proofs.Common.{◌≡◌, ℕ, zero, suc, ◌+◌, ◌*◌, ◌^◌, ◌<◌, ◌≤◌, ◌==◌, List, [], ◌∷◌, Option, Some, None, Bool, true, false, refl, sym, ap, ◌∙◌, subst, arith}
use Rattle.std.specs.Prelude.{if◌then◌else◌}
use Rattle.std.specs.Int.{bit_at}
use Rattle.std.proofs.lemmas.Nat.Bits.{bit_at-zero}
use Rattle.std.proofs.lemmas.Bool.{eqb-true, both_ways}
use Rattle.std.proofs.lemmas.Option.{same_Some, none-some}
use Rattle.gg_base.specs.declared.size.Size.{Size}
use Rattle.gg_base.specs.declared.size.Size.TheVariants.{Byte, Word, Long}
use Rattle.gg_base.specs.Sizes.{bytes_of, low}
use Rattle.gg_base.proofs.Words.{low_long}
use Rattle.tree_core.specs.declared.token.Tok.{Tok}
use Rattle.tree_core.specs.declared.token.Tok.TheVariants as tok
use Rattle.tree_core.specs.declared.tree.Att.{Att}
use Rattle.tree_core.specs.declared.tree.Att.TheVariants as att
use Rattle.tree_core.specs.declared.tree.Leaf.{Leaf}
use Rattle.tree_core.specs.declared.program.TreeProgram.{TreeProgram}
use Rattle.tree_core.specs.Attributes.{leaf_fits, is_of_kind, attribute_of}
use Rattle.tree_core.proofs.Windows.{some_of}
use Rattle.tree_meaning.specs.declared.value.Meaning.TheVariants as meaning
use Rattle.tree_meaning.specs.State.{State, Extent}
use Rattle.tree_meaning.specs.declared.value.Meaning.{Meaning as Place}
use Rattle.tree_meaning.specs.Values.{Sight}
use Rattle.sel_target.specs.md_reader_pieces.specs.declared.piece.Line.{Line}
use Rattle.md_reader.specs.declared.types.Kind.{Kind}
use Rattle.md_reader.specs.declared.types.Kind.TheVariants as kind
use Rattle.md_reader.specs.declared.types.Sym.{Sym}
use Rattle.md_reader.specs.declared.types.Sym.TheVariants as grammar_symbol
use Rattle.md_reader.specs.Patterns.{kind_at}
use Rattle.md_reader.specs.State.{Content}
use Rattle.term_core.specs.Shape.{Shape, Symbol}
use Rattle.term_core.specs.Norm.{norm}
use Rattle.term_core.specs.Value.{Respects}
use Rattle.term_core.specs.Facts.{has_size, is_count, same_as}
use Rattle.sel_target.specs.sel_terms.specs.Effects.{Value}
use Rattle.sel_target.specs.sel_terms.specs.RuleFacts.{saved_facts, size_of_saved, size_of_kind, size_of_symbol}
use Rattle.sel_target.specs.declared.attr.Attr.{Attr}
use Rattle.sel_target.specs.declared.attr.Attr.TheVariants as attr
use Rattle.sel_target.specs.Meaning.{Meaning, Spot, RegAt, WordAt, touches}
use Rattle.sel_target.specs.Values.{View, term_state, value, IsRead}
use Rattle.sel_target.specs.Values.{worth, token_operand, own_operand, PlaceIs, local, argument, memory}
use Rattle.sel_target.specs.Instances.{some_touches, attr_touches, IsWhole, InFrame}
use Rattle.sel_target.specs.StatementLaws.{att_of}
use Rattle.sel_target.specs.Laws.{IsLawful}
use Rattle.sel_target.specs.SavingLaws.{Saves, Reloads, operand as is_operand, register as a_register, IsSet, IsSlot, saving, reloading}
use Rattle.sel_terms_trees.specs.sel_terms_meaning.specs.Alike.{IsNarrowAct}
use Rattle.sel_target.specs.Outcomes.{Keeps}
use Rattle.sel_target.specs.Courses.{comes}
use Rattle.sel_target.proofs.Facts.{low_is, argument_number}
use Rattle.sel_target.specs.Symbols.{lowest, saving_line, is_register}
use Rattle.sel_terms_trees.specs.Senses.{Sense, OfNumber, OfPlace}
use Rattle.sel_target.specs.term_core_accesses.specs.Keeping.{IsNarrow}
use Rattle.sel_terms_trees.specs.sel_terms_meaning.proofs.Alike.{shown_is_alike}
use Rattle.sel_parse_stands.specs.Stands as stands
use Rattle.sel_parse_stands.specs.Lines.{LinesSave}
use Rattle.sel_parse_stands.specs.Stands.{ClassIs, SymbolIs, Sees, IsFrame}
use Rattle.sel_parse_selected.specs.Entries.{Entry}
use Rattle.sel_parse_selected.specs.Spills.{holds_register, in_slot}
use Rattle.sel_parse_stands.proofs.Loaded.{IsLoaded}
use Rattle.sel_parse_stands.proofs.Symbols.{in_frame}
use Rattle.sel_parse_stands.proofs.Carrying.{Homed, Carried}

-- the view of a line that saves: symbol 1 alone counts
abbrev pub numbers : ℕ → ℕ → ℕ
numbers x zero = 0
numbers x (suc zero) = x
numbers x (suc (suc i)) = 0

abbrev pub saved_view : ℕ → State → View
saved_view x t = record { symbol = λ i. Some (numbers x i); state = t }

small_size : (z y : Size) (x : ℕ) → x < 2 ^ (8 * bytes_of z) → (bytes_of z == bytes_of y) ≡ true → x < 2 ^ (8 * bytes_of y)
small_size z y x lt e = subst (λ b. x < 2 ^ (8 * b)) (eqb-true (bytes_of z) (bytes_of y) e) lt

saved_respects : (k : Kind) (x : ℕ) (t : State) → x < 2 ^ (8 * bytes_of (size_of_saved k)) → Respects (saved_facts k) (term_state (saved_view x t))
saved_respects k x t lt = record { bytes = bytes; words = words; counts = counts; alike = alike } where
  bytes : (i : ℕ) → has_size (saved_facts k) i Byte ≡ true → numbers x i < 2 ^ 8
  bytes zero e = omega arith
  bytes (suc zero) e = small_size (size_of_saved k) Byte x lt e
  bytes (suc (suc i)) e = omega arith

  words : (i : ℕ) → has_size (saved_facts k) i Word ≡ true → numbers x i < 2 ^ 16
  words zero e = omega arith
  words (suc zero) e = small_size (size_of_saved k) Word x lt e
  words (suc (suc i)) e = omega arith

  counts : (i : ℕ) → is_count (saved_facts k) i ≡ true → numbers x i < 32
  counts zero e = absurd (cc)
  counts (suc zero) e = absurd (cc)
  counts (suc (suc i)) e = absurd (cc)

  alike : (i : ℕ) → numbers x (same_as (saved_facts k) i) ≡ numbers x i
  alike zero = refl
  alike (suc zero) = refl
  alike (suc (suc i)) = refl

record SavedTerm (y : Shape) (x : ℕ) (t : State) : Type 0 where
  worth : value (saved_view x t) y ≡ x
  reads : IsRead (saved_view x t) y

saved_term : (k : Kind) (y : Shape) (x : ℕ) (t : State) → x < 2 ^ (8 * bytes_of (size_of_saved k)) → IsNarrow y → norm (saved_facts k) y ≡ norm (saved_facts k) (Symbol 1) → SavedTerm y x t
saved_term k y x t lt narrow e =
    let same = shown_is_alike (saved_facts k) (λ i. true) t.area (term_state (saved_view x t)) (record { act = Value y; divisors = [] }) (record { act = Value (Symbol 1); divisors = [] })
    (saved_respects k x t lt) (λ i. refl) (narrow, tt) (tt, tt) (ap (λ (u : Shape). record { act = Value u; divisors = [] }) e) in
    record { worth = same.act.worth ∙ low_long (size_of_saved k) x lt; reads = (same.act.safe true).1 refl }

module _ {O I S F : Type 0} (of : Meaning O I S F) (law : IsLawful of) (q : TreeProgram) (d : Content) (first : ℕ) (f : Extent) (fs : List Extent) (t : State) (s : Sight) (m0 : S)
    (frame : IsFrame of q d first f fs t s m0) where
  narrow_saved : (k : Kind) (l : Line) (x : Saves of k l) → IsNarrow x.term
  narrow_saved k l x = subst IsNarrowAct x.act (law.saves.saved_narrow k l x.effect x.taken).0

  narrow_reloaded : (l : Line) (x : Reloads of l) → IsNarrow x.term
  narrow_reloaded l x = subst IsNarrowAct x.act (law.saves.saved_narrow kind.Reg l x.effect x.taken).0

  -- the code comes to a state where the entry, moved, stands for the same, and is carried on
  pub record Moves (code : List I) (spot : Spot) (k : Option Kind) (b a : Attr O) (v : Sense) (m : S) : Type 0 where
    pub state : S
    pub ran : of.run code m ≡ comes state
    pub is : ClassIs of q d first f fs t s m0 state k a v
    pub keeps : Keeps of (spot ∷ []) m state
    pub carried : Carried of q d f t m state (size_of_kind k) b a

  module _ (m : S) (sees : Sees of q d first f fs t s m0 m) where
    slot_is : (w : ℕ) → first ≤ w → w < f.words → IsSlot of f w
    slot_is w from below = (let own = frame.own in let few = frame.few in record { free = (omega (arith, own, from), below); low = omega (arith, few, below) })

    set_is : (n : ℕ) (y : Shape) → IsRead (saved_view n t) y → IsSet of q f fs (saved_view n t) n y m
    set_is n y reads = record { agrees = sees.agrees; room = sees.room; symbol = refl; read = reads }

    -- a number that is read before and behind
    number_carried : (m' : S) (z : Size) (b a : Attr O) (n : ℕ) → worth of q z b m ≡ Some n → worth of q z a m' ≡ Some n
        → ((o : Option ℕ) → IsWhole b o → IsWhole a o) → own_operand of a ≡ None → att_of (Some a) ≡ att_of (Some b) → Carried of q d f t m m' z b a
    number_carried m' z b a n before behind whole no_home att = record {
      worth_is = λ x e. behind ∙ sym before ∙ e;
      whole = whole;
      home = λ o e. absurd (none-some o (sym no_home ∙ e));
      att = att;
    }

    pub register_saved : (line : Line) (x : Saves of (kind.Value Long) line) (r n w : ℕ) → r < 12 → of.reads (of.register r) Long m ≡ Some n
        → first ≤ w → w < f.words → Moves (saving of q line (attr.Reg r) w) (WordAt w) (Some kind.Reg) (attr.Reg r) (attr.InSlot w) (OfNumber n) m
    register_saved line x r n w lt reads from below =
        let small = law.reads.reads_small q f fs t (of.register r) Long n m sees.agrees reads in
        let y = saved_term (kind.Value Long) x.term n t small (narrow_saved (kind.Value Long) line x) x.alike in
        let sets = law.saves.value_spilled q f fs Long line x (attr.Reg r) w n (saved_view n t) m (a_register r refl lt)
        (set_is n x.term y.reads) (slot_is w from below) reads small in
        let gets = sets.gets ∙ ap Some y.worth in
        record {
          state = sets.state;
          ran = sets.ran;
          is = stands.in_slot w n from (slot_is w from below).low gets;
          keeps = sets.keeps;
          carried = number_carried sets.state Long (attr.Reg r) (attr.InSlot w) n reads gets (λ o h. h) refl refl;
        }

    pub value_saved : (line : Line) (z : Size) (x : Saves of (kind.Value z) line) (o : O) (n w : ℕ) → of.fits (kind.Value z) o ≡ true
        → of.reads o z m ≡ Some n → first ≤ w → w < f.words
        → Moves (saving of q line (attr.Value o) w) (WordAt w) (Some (kind.Value z)) (attr.Value o) (attr.Value (of.slot w)) (OfNumber n) m
    value_saved line z x o n w fits reads from below =
        let small = law.reads.reads_small q f fs t o z n m sees.agrees reads in
        let y = saved_term (kind.Value z) x.term n t small (narrow_saved (kind.Value z) line x) x.alike in
        let sets = law.saves.value_spilled q f fs z line x (attr.Value o) w n (saved_view n t) m (is_operand o fits)
        (set_is n x.term y.reads) (slot_is w from below) reads small in
        let gets = sets.gets ∙ ap Some (ap (low z) y.worth ∙ low_is z n small) in
        record {
          state = sets.state;
          ran = sets.ran;
          is = stands.value z (of.slot w) n (law.spells.slot_fits z w (slot_is w from below).low) gets;
          keeps = sets.keeps;
          carried = number_carried sets.state z (attr.Value o) (attr.Value (of.slot w)) n reads gets (λ p h. h) refl refl;
        }

    -- A place that spells a register is one in memory: in its slot it is that place, and reads what it read.
    pub place_saved : (line : Line) (z : Size) (x : Saves of (kind.Place z) line) (o : O) (n w : ℕ) → of.fits (kind.Place z) o ≡ true
        → (of.registers o ≡ 0 → ⊥) → of.names o z m ≡ Some n → first ≤ w → w < f.words
        → Moves (saving of q line (attr.Place o) w) (WordAt w) (Some (kind.Place z)) (attr.Place o) (attr.Place (of.slot_deferred w)) (OfPlace (meaning.Memory z n)) m
    place_saved line z x o n w fits spells names from below =
        let small = law.reads.names_small q f fs t o z n m sees.agrees names in
        let y = saved_term (kind.Place z) x.term n t small (narrow_saved (kind.Place z) line x) x.alike in
        let slot = slot_is w from below in
        let sets = law.saves.place_spilled q f fs z line x o w n (saved_view n t) m fits (set_is n x.term y.reads) slot names small in
        let gets = sets.gets z ∙ ap Some y.worth in
        let fits' = law.spells.deferred_fits z w slot.low in
        record {
          state = sets.state;
          ran = sets.ran;
          is = stands.place z (of.slot_deferred w) _ fits' (memory n gets);
          keeps = sets.keeps;
          carried = record {
            worth_is = λ k e. law.reads.memory_read q f fs t (of.slot_deferred w) z n k sets.state (sets.keeps.agrees q f fs t (slot.free, tt) sees.agrees)
                fits' gets (law.reads.place_read q f fs t o z n k m sees.agrees fits spells names e);
            whole = λ p h. h;
            home = λ o' e. homed sets.state gets o' e;
            att = refl;
          };
        }
      where
        the_place : (m' : S) → of.names (of.slot_deferred w) z m' ≡ Some n → (g : Place) → PlaceIs of f t m z o g → PlaceIs of f t m' z (of.slot_deferred w) g
        the_place m' gets g (local k long is lt low) = absurd (spells (ap of.registers is ∙ law.spells.local_bits k low))
        the_place m' gets g (argument k long is lt numbered) = absurd (spells (ap of.registers is ∙ law.spells.argument_bits (k + 1) numbered))
        the_place m' gets g (memory a named) = memory a (gets ∙ sym names ∙ named)

        homed : (m' : S) → of.names (of.slot_deferred w) z m' ≡ Some n → (o' : O) → Some (of.slot_deferred w) ≡ Some o'
            → Homed of q d f t m m' (size_of_kind (Some (kind.Place z))) (attr.Place o) o'
        homed m' gets o' e = record {
          operand = o;
          own = refl;
          same = λ g is. subst (λ p. PlaceIs of f t m' z p g) (same_Some (of.slot_deferred w) o' e) (the_place m' gets g is);
        }

    pub address_saved : (line : Line) (x : Saves of kind.Ea line) (o : O) (n w : ℕ) → of.fits kind.Ea o ≡ true
        → of.names o Long m ≡ Some n → first ≤ w → w < f.words
        → Moves (saving of q line (attr.Ea o) w) (WordAt w) (Some kind.Ea) (attr.Ea o) (attr.Ea (of.slot_deferred w)) (OfNumber n) m
    address_saved line x o n w fits names from below =
        let small = law.reads.names_small q f fs t o Long n m sees.agrees names in
        let y = saved_term kind.Ea x.term n t small (narrow_saved kind.Ea line x) x.alike in
        let sets = law.saves.address_spilled q f fs line x o w n (saved_view n t) m fits
        (set_is n x.term y.reads) (slot_is w from below) names small in
        let gets = sets.gets Long ∙ ap Some y.worth in
        record {
          state = sets.state;
          ran = sets.ran;
          is = stands.address (of.slot_deferred w) n (law.spells.deferred_fits_address w (slot_is w from below).low) gets;
          keeps = sets.keeps;
          carried = number_carried sets.state Long (attr.Ea o) (attr.Ea (of.slot_deferred w)) n names gets (λ p h. h) refl refl;
        }

    pub register_loaded : (line : Line) (x : Reloads of line) (r n w : ℕ) → r < 12 → of.reads (of.slot w) Long m ≡ Some n → w < 1024
        → Moves (reloading of q line w r) (RegAt r) (Some kind.Reg) (attr.InSlot w) (attr.Reg r) (OfNumber n) m
    register_loaded line x r n w lt reads below =
        let small = law.reads.reads_small q f fs t (of.slot w) Long n m sees.agrees reads in
        let y = saved_term kind.Reg x.term n t small (narrow_reloaded line x) x.alike in
        let sets = law.saves.reloaded q f fs line x w r n (saved_view n t) m lt below (set_is n x.term y.reads) reads small in
        let gets = sets.gets ∙ ap Some y.worth in
        record {
          state = sets.state;
          ran = sets.ran;
          is = stands.register r n lt gets;
          keeps = sets.keeps;
          carried = number_carried sets.state Long (attr.InSlot w) (attr.Reg r) n reads gets (λ o h. h) refl refl;
        }

-- a number that passes, if one is found
pub record IsFound (passes : ℕ → Bool) (k n r : ℕ) : Type 0 where
  pub is : passes r ≡ true
  pub from : k ≤ r
  pub below : r < k + n

pub lowest_found : (passes : ℕ → Bool) (k n r : ℕ) → lowest passes k n ≡ Some r → IsFound passes k n r
lowest_found passes k zero r e = absurd (cc)
lowest_found passes k (suc n) r e = by (λ e'. lowest_found passes (k + 1) n r e') (passes k) refl e where
  by : (lowest passes (k + 1) n ≡ Some r → IsFound passes (k + 1) n r) → (b : Bool) → passes k ≡ b → (if b then Some k else lowest passes (k + 1) n) ≡ Some r
      → IsFound passes k (suc n) r
  by ih true is e' = let same : k ≡ r = cc in record { is = subst (λ x. passes x ≡ true) same is; from = omega arith; below = omega arith }
  by ih false is e' = let rest = ih e' in record { is = rest.is; from = omega (arith, rest.from); below = omega (arith, rest.below) }

module _ {O I S F : Type 0} (of : Meaning O I S F) (law : IsLawful of) where
  pub bits_none : (o : O) (r : ℕ) → of.registers o ≡ 0 → touches of o (RegAt r) ≡ false
  bits_none o r e = ap (λ k. bit_at k r == 1) e ∙ ap (λ b. b == 1) (bit_at-zero r)

  -- a token with an attribute that fits, and a number of the frame
  pub token_none : (x : Tok) (a : Att) (r : ℕ) → is_of_kind (attribute_of x) a ≡ true → InFrame a → some_touches of (token_operand of x a) (RegAt r) ≡ false
  token_none x att.Nothing r fit low = refl
  token_none x (att.Number n) r fit low = refl
  token_none x (att.Object object offset) r fit low = refl
  token_none x (att.Slot k) r fit low = by x fit
    where
      by : (x : Tok) → is_of_kind (attribute_of x) (att.Slot k) ≡ true → some_touches of (token_operand of x (att.Slot k)) (RegAt r) ≡ false
      by tok.Loc fit = bits_none (of.local k) r (law.spells.local_bits k low)
      by tok.Arg fit = bits_none (of.argument k) r (law.spells.argument_bits k (argument_number k fit))
      by x fit = refl
  token_none x (att.Branch rel label) r fit low = refl
  token_none x (att.Label label) r fit low = refl
  token_none x (att.Callee function count) r fit low = refl

  -- an entry that holds a register: one that it touches
  holding : (e : Entry O) → holds_register of e ≡ true → (r : ℕ) × (attr_touches of e.attr (RegAt r) ≡ true)
  holding e h =
      let o = some_of (lowest (λ r. attr_touches of e.attr (RegAt r)) 0 12) h in
      (o.0, (lowest_found (λ r. attr_touches of e.attr (RegAt r)) 0 12 o.0 o.1).is)

  pub slot_holds_none : (k : Option Kind) (w : ℕ) → w < 1024 → holds_register of (record { kind = k; attr = attr.InSlot w }) ≡ true → ⊥
  slot_holds_none k w lt h =
      let r = holding (record { kind = k; attr = attr.InSlot w }) h in
      both_ways (touches of (of.slot w) (RegAt r.0)) (bits_none (of.slot w) r.0 (law.spells.slot_bits w lt)) r.1

module _ {O I S F : Type 0} (of : Meaning O I S F) (law : IsLawful of) (q : TreeProgram) (d : Content) (first : ℕ) (f : Extent) (fs : List Extent) (t : State) (s : Sight) (m0 : S)
    (frame : IsFrame of q d first f fs t s m0) (lines : LinesSave of d) where
  pub token_holds_none : (k : Option Kind) (l : Leaf) → leaf_fits l ≡ true → InFrame l.att → holds_register of (record { kind = k; attr = attr.Token l }) ≡ true → ⊥
  token_holds_none k l fit low h =
      let r = holding of law (record { kind = k; attr = attr.Token l }) h in
      both_ways (some_touches of (token_operand of l.tok l.att) (RegAt r.0)) (token_none of law l.tok l.att r.0 fit low) r.1

  -- an entry that holds a register is saved by the line for its kind
  pub record Saved (m : S) (x : Sym) (e : Entry O) (v : Sense) (w : ℕ) : Type 0 where
    pub state : S
    pub ran : of.run (saving of q (saving_line d e.kind) e.attr w) m ≡ comes state
    pub keeps : Keeps of (WordAt w ∷ []) m state
    pub is : SymbolIs of q d first f fs t s m0 state x e.kind (in_slot of e.attr w) v
    pub carried : Carried of q d f t m state (size_of_symbol d.classes x) e.attr (in_slot of e.attr w)
    pub loaded : (is_register e.attr ≡ true → ⊥) → IsLoaded (in_slot of e.attr w)

  module _ (m : S) (sees : Sees of q d first f fs t s m0 m) (w : ℕ) (from : first ≤ w) (below : w < f.words) where
    of_moves : (c : ℕ) (a : Attr O) (v : Sense)
        → ((is_register a ≡ true → ⊥) → IsLoaded (in_slot of a w))
        → Moves of law q d first f fs t s m0 frame (saving of q (saving_line d (kind_at d.classes c)) a w) (WordAt w) (kind_at d.classes c) a (in_slot of a w) v m
        → Saved m (grammar_symbol.Class c) (record { kind = kind_at d.classes c; attr = a }) v w
    of_moves c a v loaded p = record {
      state = p.state;
      ran = p.ran;
      keeps = p.keeps;
      is = stands.class c (in_slot of a w) v p.is;
      carried = p.carried;
      loaded = loaded;
    }

    abbrev Moved : Option Kind → Attr O → Sense → Type 0
    Moved k a v = Moves of law q d first f fs t s m0 frame (saving of q (saving_line d k) a w) (WordAt w) k a (in_slot of a w) v m

    class_moved : (k : Option Kind) (a : Attr O) (v : Sense) → ClassIs of q d first f fs t s m0 m k a v
        → holds_register of (record { kind = k; attr = a }) ≡ true → Moved k a v × ((is_register a ≡ true → ⊥) → IsLoaded (in_slot of a w))
    class_moved k a v (stands.register r n lt is) h =
        (register_saved of law q d first f fs t s m0 frame m sees (saving_line d (Some (kind.Value Long))) (lines.values Long) r n w lt is from below, λ no. absurd (no refl))
    class_moved k a v (stands.in_slot u n le lt is) h = absurd (slot_holds_none of law k u lt h)
    class_moved k a v (stands.value z o n fits is) h =
        (value_saved of law q d first f fs t s m0 frame m sees (saving_line d (Some (kind.Value z))) z (lines.values z) o n w fits is from below, λ no. tt)
    class_moved k a v (stands.place z o g fits is) h = (by g is, λ no. tt)
      where
        spells : of.registers o ≡ 0 → ⊥
        spells e =
            let r = holding of law (record { kind = Some (kind.Place z); attr = attr.Place o }) h in
            both_ways (touches of o (RegAt r.0)) (bits_none of law o r.0 e) r.1

        by : (g : Place) → PlaceIs of f t m z o g → Moved (Some (kind.Place z)) (attr.Place o) (OfPlace g)
        by g (local k' long is' lt low) = absurd (spells (ap of.registers is' ∙ law.spells.local_bits k' low))
        by g (argument k' long is' lt numbered) = absurd (spells (ap of.registers is' ∙ law.spells.argument_bits (k' + 1) numbered))
        by g (memory n names) =
            place_saved of law q d first f fs t s m0 frame m sees (saving_line d (Some (kind.Place z))) z (lines.places z) o n w fits spells names from below
    class_moved k a v (stands.number n lt) h = absurd (let r = holding of law (record { kind = k; attr = attr.Con n }) h in both_ways false refl r.1)
    class_moved k a v (stands.address o n fits is) h =
        (address_saved of law q d first f fs t s m0 frame m sees (saving_line d (Some kind.Ea)) (lines.addresses) o n w fits is from below, λ no. tt)

    pub entry_saved : (x : Sym) (k : Option Kind) (a : Attr O) (v : Sense) → SymbolIs of q d first f fs t s m0 m x k a v
        → holds_register of (record { kind = k; attr = a }) ≡ true → Saved m x (record { kind = k; attr = a }) v w
    entry_saved x k a v (stands.token l fit named) h =
        absurd (token_holds_none None l fit (in_frame of law q d first f fs t s m0 frame m sees l.tok l.att fit named.0) h)
    entry_saved x k a v (stands.class c a' v' is) h =
        let p = class_moved (kind_at d.classes c) a v is h in
        of_moves c a v p.1 p.0
