-- What is spelled at a rule's places, and which places stand there.
use Rattle.std.proofs.Common.{◌≡◌, ℕ, zero, suc, ◌+◌, ◌<◌, ◌≤◌, List, [], ◌∷◌, length, Option, Some, None, true, refl, sym, ap, ◌∙◌, subst, slice_get, arith}
use Rattle.std.specs.Prelude.{slice_index_or, option_map}
use Rattle.std.proofs.lemmas.Option.{same_Some, none-some}
use Rattle.std.proofs.lemmas.Bool.{and_parts}
use Rattle.gg_base.specs.declared.size.Size.{Size}
use Rattle.gg_base.specs.declared.size.Size.TheVariants.{Long}
use Rattle.tree_core.specs.declared.token.Tok.{Tok}
use Rattle.tree_core.specs.declared.token.Tok.TheVariants as tok
use Rattle.tree_core.specs.declared.tree.Att.{Att}
use Rattle.tree_core.specs.declared.tree.Att.TheVariants as att
use Rattle.tree_core.specs.declared.program.TreeProgram.{TreeProgram}
use Rattle.tree_meaning.specs.State.{State, Extent}
use Rattle.tree_meaning.specs.declared.value.Value.{Value}
use Rattle.tree_meaning.specs.declared.value.Value.TheVariants as values
use Rattle.tree_meaning.specs.declared.value.Meaning.{Meaning as Place}
use Rattle.tree_meaning.specs.declared.value.Meaning.TheVariants as meaning
use Rattle.tree_meaning.specs.Values.{Sight, token_means}
use Rattle.tree_meaning.specs.Values as trees
use Rattle.md_reader.specs.declared.types.Kind.{Kind}
use Rattle.md_reader.specs.declared.types.Rule.{Rule}
use Rattle.md_reader.specs.declared.types.Sym.{Sym}
use Rattle.md_reader.specs.Patterns.{kind_at}
use Rattle.md_reader.specs.Restrictions.{same_size}
use Rattle.md_reader.specs.State.{Content}
use Rattle.term_core.specs.Facts.{same_as}
use Rattle.sel_target.specs.sel_terms.specs.RuleFacts.{size_of_symbol, size_of_some, facts_of}
use Rattle.sel_parse_moves.specs.sel_terms_trees.specs.Senses.{Sense, IsPlace, unknown, means, means_at}
use Rattle.sel_target.specs.declared.attr.Attr.{Attr}
use Rattle.sel_target.specs.declared.attr.Attr.TheVariants as attr
use Rattle.sel_target.specs.Meaning.{Meaning}
use Rattle.sel_target.specs.Values.{IsArgument, PlaceIs, local, argument, memory, token_operand, own_operand}
use Rattle.sel_target.proofs.Facts.{argument_number}
use Rattle.sel_target.specs.Instances.{hole}
use Rattle.tree_core.specs.Attributes.{attribute_of, is_of_kind}
use Rattle.sel_target.specs.Laws.{IsLawful}
use Rattle.sel_target.specs.Symbols.{size_of_entry}
use Rattle.sel_parse_moves.specs.lr_check_parse.specs.Attributes.{attribute_at, all_hold}
use Rattle.sel_parse_moves.specs.Told.{SameForAlike}
use Rattle.sel_parse_moves.proofs.Told.{facts_join}
use Rattle.sel_parse_stands.specs.sel_parse_selected.specs.Entries.{Entry, attrs, spelled, same_operands}
use Rattle.sel_parse_stands.specs.sel_parse_selected.specs.Selected.{selecting}
use Rattle.sel_parse_stands.specs.Stands as stands
use Rattle.sel_parse_stands.specs.Stands.{NamedBy, ClassIs, SymbolIs, IsFrame, Holds}
use Rattle.sel_parse_stands.proofs.Carrying.{Carried, AllCarried}
use Rattle.sel_parse_stands.specs.sel_parse_selected.proofs.Restricting.{attribute_suc}
use Rattle.sel_parse_effect.proofs.Effects.{sizes_same}

-- a value is no place
pub no_place : (v : Value) (z : Size) (g : Place) → meaning.Of v ≡ g → IsPlace z g → ⊥
no_place v z g e h = subst (IsPlace z) (sym e) h

-- what an entry spells, with its size
pub record Spelling (O : Type 0) : Type 0 where
  pub size : Option Size
  pub operand : Option O

module _ {O I S F : Type 0} (of : Meaning O I S F) (law : IsLawful of) (q : TreeProgram) (d : Content) (first : ℕ) (f : Extent) (t : State) (s : Sight) (m0 : S) (fs : List Extent)
    (frame : IsFrame of q d first f fs t s m0) where
  abbrev IsSymbol : S → Sym → Option Kind → Attr O → Sense → Type 0
  IsSymbol m x k a v = SymbolIs of q d first f fs t s m0 m x k a v

  -- an operand that stands for a place
  pub record Stood (m : S) (z : Size) (o : Option O) (g : Place) : Type 0 where
    pub operand : O
    pub is : o ≡ Some operand
    pub place : PlaceIs of f t m z operand g

  local_place : (m : S) (k : ℕ) (z : Size) (g : Place) → k < f.locals → meaning.Local k ≡ g → IsPlace z g → Stood m z (Some (of.local k)) g × (Some Long ≡ Some z)
  local_place m k z g lt e is =
      let long : z ≡ Long = subst (IsPlace z) (sym e) is in
      let few = frame.few in
      let within = frame.within in (
        record { operand = of.local k; is = refl; place = subst (PlaceIs of f t m z (of.local k)) e (local k long refl lt (omega (arith, lt, few, within))) },
        ap Some (sym long),
      )

  argument_place : (m : S) (k : ℕ) (z : Size) (g : Place) → IsArgument k → k ≤ length t.running.arguments → meaning.Argument k ≡ g → IsPlace z g
      → Stood m z (Some (of.argument k)) g × (Some Long ≡ Some z)
  argument_place m zero z g numbered le e is = absurd (let one = numbered.0 in omega (arith, one))
  argument_place m (suc j) z g numbered le e is =
      let long : z ≡ Long = subst (IsPlace z) (sym e) is in
      let next : j + 1 ≡ suc j = omega arith in (
        record {
          operand = of.argument (suc j);
          is = refl;
          place = subst (PlaceIs of f t m z (of.argument (suc j))) (ap meaning.Argument next ∙ e)
              (argument j long (ap of.argument (sym next)) (omega (arith, le)) (subst IsArgument (sym next) numbered));
        },
        ap Some (sym long),
      )

  token_place : (m : S) (x : Tok) (a : Att) (z : Size) (g : Place) → is_of_kind (attribute_of x) a ≡ true → NamedBy of q d first f fs t s m0 x a
      → token_means q.objects s x a values.Wild values.Wild ≡ g → IsPlace z g → Stood m z (token_operand of x a) g × (Some Long ≡ Some z)
  token_place m tok.Zero a z g fit named e is = absurd (no_place (values.Number 0) z g e is)
  token_place m tok.One a z g fit named e is = absurd (no_place (values.Number 1) z g e is)
  token_place m tok.Two a z g fit named e is = absurd (no_place (values.Number 2) z g e is)
  token_place m tok.Four a z g fit named e is = absurd (no_place (values.Number 4) z g e is)
  token_place m tok.Eight a z g fit named e is = absurd (no_place (values.Number 8) z g e is)
  token_place m tok.Const (att.Number n) z g fit named e is = absurd (no_place (values.Number n) z g e is)
  token_place m tok.Gaddr (att.Object object offset) z g fit named e is = absurd (no_place (trees.address_of (slice_get q.objects object) offset) z g e is)
  token_place m tok.Loc (att.Slot k) z g fit named e is = local_place m k z g named e is
  token_place m tok.Arg (att.Slot k) z g fit named e is = argument_place m k z g (argument_number k fit) named.1 e is
  token_place m _ _ z g fit named e is = absurd (no_place values.Wild z g e is)

  size_of_place : (m : S) (z y : Size) (o : O) (g : Place) → PlaceIs of f t m y o g → IsPlace z g → z ≡ y
  size_of_place m z y o g (local k long is lt low) h = h ∙ sym long
  size_of_place m z y o g (argument k long is lt numbered) h = h ∙ sym long
  size_of_place m z y o g (memory a names) h = h

  class_place : (m : S) (k : Option Kind) (a : Attr O) (v : Sense) (z : Size) (g : Place) → ClassIs of q d first f fs t s m0 m k a v
      → means q.objects s v ≡ g → IsPlace z g → Stood m z (own_operand of a) g × (size_of_entry k ≡ Some z)
  class_place m k a v z g (stands.register r n lt is) e h = absurd (no_place (values.Number n) z g e h)
  class_place m k a v z g (stands.in_slot w n le lt is) e h = absurd (no_place (values.Number n) z g e h)
  class_place m k a v z g (stands.value y o n fits is) e h = absurd (no_place (values.Number n) z g e h)
  class_place m k a v z g (stands.place y o p fits is) e h =
      let place = subst (PlaceIs of f t m y o) e is in
      let same = size_of_place m z y o g place h in
      (record { operand = o; is = refl; place = subst (λ w. PlaceIs of f t m w o g) (sym same) place }, ap Some (sym same))
  class_place m k a v z g (stands.number n lt) e h = absurd (no_place (values.Number n) z g e h)
  class_place m k a v z g (stands.address o n fits is) e h = absurd (no_place (values.Number n) z g e h)

  -- a symbol that stands for a place has an operand that does
  symbol_place : (m : S) (x : Sym) (k : Option Kind) (a : Attr O) (v : Sense) (z : Size) (g : Place) → IsSymbol m x k a v
      → means q.objects s v ≡ g → IsPlace z g → Stood m z (own_operand of a) g × (size_of_entry k ≡ Some z)
  symbol_place m x k a v z g (stands.token l fit named) e h = token_place m l.tok l.att z g fit named.0 e h
  symbol_place m x k a v z g (stands.class c a' v' is) e h = class_place m (kind_at d.classes c) a v z g is e h

  class_sized : (m : S) (c : ℕ) (k : Option Kind) (a : Attr O) (v : Sense) (z : Size) → ClassIs of q d first f fs t s m0 m k a v → size_of_entry k ≡ Some z
      → Rattle.sel_target.specs.sel_terms.specs.RuleFacts.size_of_kind k ≡ z
  class_sized m c k a v z (stands.value y o n fits is) e = same_Some y z e
  class_sized m c k a v z (stands.place y o p fits is) e = same_Some y z e
  class_sized m c k a v z _ e = absurd (none-some z e)

  symbol_sized : (m : S) (x : Sym) (k : Option Kind) (a : Attr O) (v : Sense) (z : Size) → IsSymbol m x k a v → size_of_entry k ≡ Some z → size_of_symbol d.classes x ≡ z
  symbol_sized m x k a v z (stands.token l fit named) e = same_Some Long z e
  symbol_sized m x k a v z (stands.class c a' v' is) e = class_sized m c (kind_at d.classes c) a v z is e

  spelled_own : (a : Attr O) (o p : O) → spelled of a ≡ Some o → own_operand of a ≡ Some p → o ≡ p
  spelled_own (attr.Place x) o p e g = same_Some o p (sym e ∙ g)
  spelled_own (attr.Token l) o p e g = same_Some o p (sym e ∙ g)
  spelled_own _ o p e g = absurd (none-some p g)

  own_spelled : (a : Attr O) (o : O) → own_operand of a ≡ Some o → spelled of a ≡ Some o
  own_spelled (attr.Place x) o e = e
  own_spelled (attr.Token l) o e = e
  own_spelled _ o e = absurd (none-some o e)

  abbrev spelling : Entry O → Spelling O
  spelling e = record { size = size_of_entry e.kind; operand = spelled of e.attr }

  abbrev spelled_at : List (Entry O) → ℕ → Option (Spelling O)
  spelled_at es i = option_map spelling (attribute_at es i)

  -- entries that are spelled alike have one spelling
  alike_sizes : (x y : Option Size) → same_size x y ≡ true → x ≡ y
  alike_sizes None y e = absurd (cc)
  alike_sizes (Some z) y e = sym (sizes_same (Some z) y z e refl)

  alike_operands : (x y : Option O) → same_operands of x y ≡ true → x ≡ y
  alike_operands None y e = absurd (cc)
  alike_operands (Some x) None e = absurd (cc)
  alike_operands (Some x) (Some y) e = ap Some ((law.spells.same_is x y).0 e)

  one_spelling : (x y : Option Size) (o p : Option O) → x ≡ y → o ≡ p → ◌≡◌ {A = Spelling O} (record { size = x; operand = o }) (record { size = y; operand = p })
  one_spelling x y o p e g =
      let first : Option Size → Spelling O = λ w. record { size = w; operand = o } in
      let second : Option O → Spelling O = λ w. record { size = y; operand = w } in
      ap first e ∙ ap second g

  same_spelled : (es : List (Entry O)) → SameForAlike (selecting of q d first) es (spelled_at es)
  same_spelled es i j a b p r e =
      let h = and_parts (same_size (size_of_entry a.kind) (size_of_entry b.kind)) (same_operands of (spelled of a.attr) (spelled of b.attr)) e in
      ap (option_map spelling) p
      ∙ ap Some (one_spelling (size_of_entry a.kind) (size_of_entry b.kind) (spelled of a.attr) (spelled of b.attr) (alike_sizes (size_of_entry a.kind) (size_of_entry b.kind) h.0)
      (alike_operands (spelled of a.attr) (spelled of b.attr) h.1))
      ∙ sym (ap (option_map spelling) r)

  -- ---- the symbol that a template's own effect stores to, or gives

  record AtPlace (m : S) (right : List Sym) (vs : List Sense) (j : ℕ) (e : Entry O) : Type 0 where
    symbol : Sym
    sense : Sense
    there : slice_get right j ≡ Some symbol
    sensed : slice_index_or vs j unknown ≡ sense
    is : IsSymbol m symbol e.kind e.attr sense

  at_place : (m : S) (es : List (Entry O)) (right : List Sym) (vs : List Sense) (j : ℕ) (e : Entry O) → Holds of q d first f fs t s m0 m es right vs
      → slice_get es j ≡ Some e → AtPlace m right vs j e
  at_place m [] right vs j e holds at = absurd (none-some e at)
  at_place m (b ∷ es) [] [] j e holds at = absurd holds
  at_place m (b ∷ es) [] (v ∷ vs) j e holds at = absurd holds
  at_place m (b ∷ es) (x ∷ xs) [] j e holds at = absurd holds
  at_place m (b ∷ es) (x ∷ xs) (v ∷ vs) zero e holds at =
      subst (AtPlace m (x ∷ xs) (v ∷ vs) zero) (same_Some b e at) (record { symbol = x; sense = v; there = refl; sensed = refl; is = holds.0 })
  at_place m (b ∷ es) (x ∷ xs) (v ∷ vs) (suc j) e holds at =
      let r = at_place m es xs vs j e holds.1 at in
      record { symbol = r.symbol; sense = r.sense; there = r.there; sensed = r.sensed; is = r.is }

  none_place : (m : S) (es : List (Entry O)) (right : List Sym) (vs : List Sense) (j : ℕ) → Holds of q d first f fs t s m0 m es right vs → slice_get es j ≡ None
      → slice_index_or vs j unknown ≡ unknown
  none_place m [] [] [] j holds at = refl
  none_place m [] [] (v ∷ vs) j holds at = absurd holds
  none_place m [] (x ∷ xs) vs j holds at = absurd holds
  none_place m (b ∷ es) [] [] j holds at = absurd holds
  none_place m (b ∷ es) [] (v ∷ vs) j holds at = absurd holds
  none_place m (b ∷ es) (x ∷ xs) [] j holds at = absurd holds
  none_place m (b ∷ es) (x ∷ xs) (v ∷ vs) zero holds at = absurd (cc)
  none_place m (b ∷ es) (x ∷ xs) (v ∷ vs) (suc j) holds at = none_place m es xs vs j holds.1 at

  -- at the choice, a symbol spells an operand that stands for the place
  pub record HomeFound (m : S) (es : List (Entry O)) (i : ℕ) (z : Size) (g : Place) : Type 0 where
    pub index : ℕ
    pub is : i ≡ suc index
    pub entry : Entry O
    pub at : slice_get es index ≡ Some entry
    pub operand : O
    pub spells : spelled of entry.attr ≡ Some operand
    pub sized : size_of_entry entry.kind ≡ Some z
    pub place : PlaceIs of f t m z operand g

  record Inverted (es : List (Entry O)) (i : ℕ) (z : Size) (o : O) : Type 0 where
    index : ℕ
    is : i ≡ suc index
    entry : Entry O
    at : slice_get es index ≡ Some entry
    spells : spelled of entry.attr ≡ Some o
    sized : size_of_entry entry.kind ≡ Some z

  inverted : (es : List (Entry O)) (i : ℕ) (z : Size) (o : O) → spelled_at es i ≡ Some (record { size = Some z; operand = Some o }) → Inverted es i z o
  inverted es zero z o e = absurd (none-some (record { size = Some z; operand = Some o }) e)
  inverted es (suc i) z o e = by (slice_get es i) refl (ap (option_map spelling) (sym (attribute_suc es i)) ∙ e)
    where
      by : (w : Option (Entry O)) → slice_get es i ≡ w → option_map spelling w ≡ Some (record { size = Some z; operand = Some o }) → Inverted es (suc i) z o
      by None at g = absurd (none-some (record { size = Some z; operand = Some o }) g)
      by (Some b) at g =
          let same : spelling b ≡ record { size = Some z; operand = Some o } = same_Some (spelling b) (record { size = Some z; operand = Some o }) g in
          record { index = i; is = refl; entry = b; at = at; spells = ap (λ (x : Spelling O). x.operand) same; sized = ap (λ (x : Spelling O). x.size) same }

  pub home_found : (m : S) (rule : Rule) (es : List (Entry O)) (vs : List Sense) (i j : ℕ) (z : Size) (g : Place)
      → Holds of q d first f fs t s m0 m es rule.right vs → all_hold (selecting of q d first) es rule.restrictions ≡ true
      → same_as (facts_of d.classes rule) i ≡ same_as (facts_of d.classes rule) j → means_at q.objects s vs j ≡ g → IsPlace z g → HomeFound m es i z g
  home_found m rule es vs i zero z g holds hold same e h = absurd (no_place values.Wild z g e h)
  home_found m rule es vs i (suc j) z g holds hold same e h = by (slice_get es j) refl
    where
      joined : (k : ℕ) → spelled_at es (same_as (facts_of d.classes rule) k) ≡ spelled_at es k
      joined k = facts_join (selecting of q d first) (Option (Spelling O)) d.classes rule es (spelled_at es) hold (same_spelled es) k

      done : (b : Entry O) → slice_get es j ≡ Some b → (p : AtPlace m rule.right vs j b) → Stood m z (own_operand of b.attr) g × (size_of_entry b.kind ≡ Some z) → HomeFound m es i z g
      done b at p st =
          let o = st.0.operand in
          let there : spelled_at es (suc j) ≡ Some (record { size = Some z; operand = Some o }) =
          ap (option_map spelling) (attribute_suc es j ∙ at) ∙ ap Some (one_spelling (size_of_entry b.kind) (Some z) (spelled of b.attr) (Some o) st.1 (own_spelled b.attr o st.0.is)) in
          let r = inverted es i z o (sym (joined i) ∙ ap (spelled_at es) same ∙ joined (suc j) ∙ there) in
          record { index = r.index; is = r.is; entry = r.entry; at = r.at; operand = o; spells = r.spells; sized = r.sized; place = st.0.place }

      by : (w : Option (Entry O)) → slice_get es j ≡ w → HomeFound m es i z g
      by None at = absurd (no_place values.Wild z g (ap (means q.objects s) (sym (none_place m es rule.right vs j holds at)) ∙ e) h)
      by (Some b) at =
          let p = at_place m es rule.right vs j b holds at in
          done b at p (symbol_place m p.symbol b.kind b.attr p.sense z g p.is (ap (means q.objects s) (sym p.sensed) ∙ e) h)

  -- in a later state it is a hole that, if it is a place's, stands for the place
  pub record HomeLater (m' : S) (es' : List (Entry O)) (i : ℕ) (z : Size) (g : Place) : Type 0 where
    pub attribute : Attr O
    pub at : hole (attrs es') i ≡ Some attribute
    pub place : (o : O) → own_operand of attribute ≡ Some o → PlaceIs of f t m' z o g

  pub forward : (m m' : S) (right : List Sym) (es es' : List (Entry O)) (j : ℕ) (e : Entry O) → AllCarried of q d f t m m' right es es' → slice_get es j ≡ Some e
      → (b : Attr O) × (slice_get (attrs es') j ≡ Some b) × Carried of q d f t m m' (size_of_some d.classes (slice_get right j)) e.attr b
  forward m m' right [] es' j e h at = absurd (none-some e at)
  forward m m' [] (a ∷ es) es' j e h at = absurd h
  forward m m' (x ∷ xs) (a ∷ es) [] j e h at = absurd h
  forward m m' (x ∷ xs) (a ∷ es) (b ∷ es') zero e h at =
      (b.attr, refl, subst (λ (w : Entry O). Carried of q d f t m m' (size_of_symbol d.classes x) w.attr b.attr) (same_Some a e at) h.0)
  forward m m' (x ∷ xs) (a ∷ es) (b ∷ es') (suc j) e h at = forward m m' xs es es' j e h.1 at

  pub home_later : (m m' : S) (right : List Sym) (es es' : List (Entry O)) (vs : List Sense) (i : ℕ) (z : Size) (g : Place)
      → Holds of q d first f fs t s m0 m es right vs → AllCarried of q d f t m m' right es es' → HomeFound m es i z g → HomeLater m' es' i z g
  home_later m m' right es es' vs i z g holds carried h = record {
    attribute = w.0;
    at = ap (hole (attrs es')) h.is ∙ w.1;
    place = λ o e. (
        let r = w.2.home o e in
        let same = spelled_own h.entry.attr h.operand r.operand h.spells r.own in
        let sized : size_of_some d.classes (slice_get right h.index) ≡ z =
        ap (size_of_some d.classes) p.there ∙ symbol_sized m p.symbol h.entry.kind h.entry.attr p.sense z p.is h.sized in
        subst (λ y. PlaceIs of f t m' y o g) sized
        (r.same g (subst (λ y. PlaceIs of f t m y r.operand g) (sym sized) (subst (λ x. PlaceIs of f t m z x g) same h.place))));
  } where
    p : AtPlace m right vs h.index h.entry
    p = at_place m es right vs h.index h.entry holds h.at

    w : (b : Attr O) × (slice_get (attrs es') h.index ≡ Some b) × Carried of q d f t m m' (size_of_some d.classes (slice_get right h.index)) h.entry.attr b
    w = forward m m' right es es' h.index h.entry carried h.at
