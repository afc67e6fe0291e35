-- What a template's own effect reads and gives, from its pattern's effect.
use Rattle.std.proofs.Common.{◌≡◌, ℕ, zero, suc, ◌*◌, ◌^◌, ◌<◌, ◌==◌, List, [], ◌∷◌, Option, Some, None, Bool, true, false, refl, sym, ap, ◌∙◌, subst, arith, slice_get}
use Rattle.std.specs.Prelude.{is_some, unwrap_or, ◌||◌, Ok}
use Rattle.std.specs.List.{AllByRecursion as All}
use Rattle.std.proofs.lemmas.Bool.{and_parts}
use Rattle.std.proofs.lemmas.Option.{none-some, same_Some}
use Rattle.gg_base.specs.declared.size.Size.{Size}
use Rattle.gg_base.specs.declared.size.Size.TheVariants.{Byte, Word, Long}
use Rattle.gg_base.specs.Sizes.{bytes_of}
use Rattle.gg_base.proofs.Facts.{all_append, second_false}
use Rattle.tree_core.specs.declared.tree.Att.{Att}
use Rattle.tree_core.specs.declared.tree.Att.TheVariants as att
use Rattle.tree_core.specs.declared.token.Tok.{Tok}
use Rattle.tree_core.specs.declared.program.TreeProgram.{TreeProgram}
use Rattle.tree_meaning.specs.State.{State, Extent}
use Rattle.tree_meaning.specs.Values.{Sight}
use Rattle.md_reader.specs.declared.types.Kind.{Kind}
use Rattle.md_reader.specs.declared.types.Rule.{Rule}
use Rattle.md_reader.specs.declared.types.Sym.{Sym}
use Rattle.md_reader.specs.State.{Content}
use Rattle.md_reader.specs.Restrictions.{same_size}
use Rattle.term_core.specs.Shape.{Shape, Constant, Symbol, LastResult, Memory, Unary, Binary}
use Rattle.term_core.specs.Value as term
use Rattle.term_core.specs.Facts.{same_as}
use Rattle.sel_target.specs.sel_terms.specs.Effects.{ActShape, EffectShape, Value, Number, Address, PlaceHome, PlaceAt, StoreHome, StoreAt, Branch, Push, Call, Save, Return, Jump, norm_effect}
use Rattle.sel_target.specs.sel_terms.specs.Reading.{effect_read}
use Rattle.sel_target.specs.sel_terms.specs.RuleFacts.{size_of_some, size_of_kind, size_of_symbol, size_at, facts_of}
use Rattle.sel_target.specs.sel_terms.proofs.Facts.{size_behind}
use Rattle.sel_target.specs.declared.attr.Attr.{Attr}
use Rattle.sel_target.specs.declared.attr.Attr.TheVariants as attr
use Rattle.sel_target.specs.Meaning.{Meaning}
use Rattle.sel_target.specs.Values.{View, term_state, value, IsReadWhere, worth, token_worth, token_operand, read_of}
use Rattle.sel_target.specs.Laws.{IsLawful}
use Rattle.sel_target.specs.sel_terms_meaning.specs.Meaning.{terms_of_act}
use Rattle.sel_target.specs.EffectTerms.{terms_of, DividesByNone}
use Rattle.sel_target.specs.Symbols.{token_number, constant_of, size_of_entry}
use Rattle.sel_parse_moves.specs.sel_terms_trees.specs.Senses.{Sense}
use Rattle.sel_parse_moves.specs.lr_check_parse.specs.Attributes.{attribute_at, all_hold}
use Rattle.sel_target.specs.term_core_accesses.specs.Accesses.{Safe}
use Rattle.sel_target.specs.sel_terms_meaning.specs.Meaning.{AllSafe, SafeAct, divides_by_zero}
use Rattle.sel_target.specs.sel_terms_meaning.specs.Alike.{TermsAlike, AllAlike, ActsAlike, EffectsAlike}
use Rattle.sel_parse_moves.specs.Told.{SameForAlike, Tells}
use Rattle.sel_parse_moves.proofs.Told.{restrictions_tell, facts_join}
use Rattle.sel_target.specs.sel_terms_meaning.proofs.Alike.{shown_is_alike}
use Rattle.sel_target.specs.sel_terms_meaning.proofs.Narrow.{wanted_is_narrow}
use Rattle.sel_parse_stands.specs.sel_parse_selected.specs.Entries.{Entry}
use Rattle.sel_parse_stands.specs.sel_parse_selected.specs.Selected.{selecting}
use Rattle.sel_parse_stands.specs.sel_parse_selected.proofs.Restricting.{attribute_suc}
use Rattle.sel_parse_stands.specs.sel_parse_selected.specs.Entries.{spelled, same_operands}
use Rattle.sel_parse_stands.specs.Stands.{Sees, IsFrame, SymbolIs, ClassIs}
use Rattle.sel_parse_stands.proofs.Instances.{Hold, hs_of, symbol_by, view, symbol_at_small}
use Rattle.sel_parse_stands.specs.Stands as stands
use Rattle.md_reader.specs.Patterns.{kind_at}

pub safe_map : (every : Bool) (P Q : ℕ → Type 0) (area : List ℕ) (m : term.State) (t : Shape) → ((i : ℕ) → P i → Q i) → Safe every P area m t → Safe every Q area m t
safe_map every P Q area m (Constant n) go h = tt
safe_map every P Q area m (Symbol i) go h = go i h
safe_map every P Q area m LastResult go h = tt
safe_map every P Q area m (Memory size a) go h = (safe_map every P Q area m a go h.0, h.1)
safe_map every P Q area m (Unary op t) go h = safe_map every P Q area m t go h
safe_map every P Q area m (Binary op a b) go h = (safe_map every P Q area m a go h.0, safe_map every P Q area m b go h.1)

-- what is safe can be read
pub safe_reads : (every : Bool) (v : View) (area : List ℕ) (t : Shape) → area ≡ v.state.area → Safe every (λ i. is_some (v.symbol i) ≡ true) area (term_state v) t → IsReadWhere every v t
safe_reads every v area t e h = subst (λ bytes. Safe every (λ i. is_some (v.symbol i) ≡ true) bytes (term_state v) t) e h

pub sizes_same : (x y : Option Size) (z : Size) → same_size x y ≡ true → x ≡ Some z → y ≡ Some z
sizes_same (Some Byte) (Some Byte) z e f = f
sizes_same (Some Word) (Some Word) z e f = f
sizes_same (Some Long) (Some Long) z e f = f
sizes_same _ _ z e f = absurd (cc)

module _ (every : Bool) (v : View) (known : ℕ → Bool) (is_known : (i : ℕ) → known i ≡ is_some (v.symbol i)) (facts : List Rattle.term_core.specs.declared.facts.Fact.Fact) (area : List ℕ)
    (same_area : area ≡ v.state.area) where
  abbrev m : term.State
  m = term_state v

  term_reads : (x y : Shape) → TermsAlike facts known area m x y → Safe every (λ i. known i ≡ true) area m y → IsReadWhere every v x
  term_reads x y h safe =
      safe_reads every v area x same_area (safe_map every (λ i. known i ≡ true) (λ i. is_some (v.symbol i) ≡ true) area m x (λ i k. sym (is_known i) ∙ k) ((h.safe every).1 safe))

  act_reads : (a b : ActShape) → ActsAlike facts known area m a b → SafeAct every (λ i. known i ≡ true) area m b → All (IsReadWhere every v) (terms_of_act a)
  act_reads (Value x) (Value y) h safe = (term_reads x y h safe, tt)
  act_reads (Number x) (Number y) h safe = (term_reads x y h safe, tt)
  act_reads (Address x) (Address y) h safe = (term_reads x y h safe, tt)
  act_reads (PlaceHome xz xi) (PlaceHome yz yi) h safe = tt
  act_reads (PlaceAt xz x) (PlaceAt yz y) h safe = (term_reads x y h.1 safe, tt)
  act_reads (StoreHome xz xi x) (StoreHome yz yi y) h safe = (term_reads x y h.2 safe, tt)
  act_reads (StoreAt xz xa x) (StoreAt yz ya y) h safe = (term_reads xa ya h.1 safe.0, (term_reads x y h.2 safe.1, tt))
  act_reads (Branch xi xa x) (Branch yi ya y) h safe = (term_reads xa ya h.1 safe.0, (term_reads x y h.2 safe.1, tt))
  act_reads (Push x) (Push y) h safe = (term_reads x y h safe, tt)
  act_reads Call Call h safe = tt
  act_reads (Save xi) (Save yi) h safe = tt
  act_reads (Return x) (Return y) h safe = (term_reads x y h safe, tt)
  act_reads Jump Jump h safe = tt
  act_reads _ _ h safe = absurd h

  all_read : (xs ys : List Shape) → AllAlike facts known area m xs ys → AllSafe every (λ i. known i ≡ true) area m ys → All (IsReadWhere every v) xs
  all_read [] [] h safe = tt
  all_read [] (y ∷ ys) h safe = absurd h
  all_read (x ∷ xs) [] h safe = absurd h
  all_read (x ∷ xs) (y ∷ ys) h safe = (term_reads x y h.0 safe.0, all_read xs ys h.1 safe.1)

  pub effect_reads : (e w : EffectShape) → EffectsAlike facts known area m e w → SafeAct every (λ i. known i ≡ true) area m w.act → AllSafe every (λ i. known i ≡ true) area m w.divisors
      → All (IsReadWhere every v) (terms_of e)
  effect_reads e w h safe divisors = all_append (IsReadWhere every v) (terms_of_act e.act) e.divisors (act_reads e.act w.act h.act safe) (all_read e.divisors w.divisors h.divisors divisors)

  -- an act that is alike to a value is a value
  pub record IsValue (a : ActShape) (u : Shape) : Type 0 where
    pub term : Shape
    pub is : a ≡ Value term
    pub alike : TermsAlike facts known area m term u

  pub value_alike : (a : ActShape) (u : Shape) → ActsAlike facts known area m a (Value u) → IsValue a u
  value_alike (Value x) u h = record { term = x; is = refl; alike = h }
  value_alike _ u h = absurd h

  pub record IsAddress (a : ActShape) (u : Shape) : Type 0 where
    pub term : Shape
    pub is : a ≡ Address term
    pub alike : TermsAlike facts known area m term u

  pub address_alike : (a : ActShape) (u : Shape) → ActsAlike facts known area m a (Address u) → IsAddress a u
  address_alike (Address x) u h = record { term = x; is = refl; alike = h }
  address_alike _ u h = absurd h

  pub record IsPlaceAt (a : ActShape) (z : Size) (u : Shape) : Type 0 where
    pub term : Shape
    pub is : a ≡ PlaceAt z term
    pub alike : TermsAlike facts known area m term u

  pub place_alike : (a : ActShape) (z : Size) (u : Shape) → ActsAlike facts known area m a (PlaceAt z u) → IsPlaceAt a z u
  place_alike (PlaceAt xz x) z u h = record { term = x; is = ap (λ y. PlaceAt y x) h.0; alike = h.1 }
  place_alike _ z u h = absurd h

  pub record IsHome (a : ActShape) (z : Size) (j : ℕ) : Type 0 where
    pub symbol : ℕ
    pub is : a ≡ PlaceHome z symbol
    pub alike : same_as facts symbol ≡ same_as facts j

  pub home_alike : (a : ActShape) (z : Size) (j : ℕ) → ActsAlike facts known area m a (PlaceHome z j) → IsHome a z j
  home_alike (PlaceHome xz xi) z j h = record { symbol = xi; is = ap (λ y. PlaceHome y xi) h.0; alike = h.1 }
  home_alike _ z j h = absurd h

  pub record IsNumberOf (a : ActShape) (u : Shape) : Type 0 where
    pub term : Shape
    pub is : a ≡ Number term
    pub alike : TermsAlike facts known area m term u

  pub number_alike : (a : ActShape) (u : Shape) → ActsAlike facts known area m a (Number u) → IsNumberOf a u
  number_alike (Number x) u h = record { term = x; is = refl; alike = h }
  number_alike _ u h = absurd h

  pub record IsStoreHome (a : ActShape) (z : Size) (j : ℕ) (u : Shape) : Type 0 where
    pub symbol : ℕ
    pub term : Shape
    pub is : a ≡ StoreHome z symbol term
    pub same : same_as facts symbol ≡ same_as facts j
    pub alike : TermsAlike facts known area m term u

  pub store_home_alike : (a : ActShape) (z : Size) (j : ℕ) (u : Shape) → ActsAlike facts known area m a (StoreHome z j u) → IsStoreHome a z j u
  store_home_alike (StoreHome xz xi x) z j u h = record { symbol = xi; term = x; is = ap (λ y. StoreHome y xi x) h.0; same = h.1; alike = h.2 }
  store_home_alike _ z j u h = absurd h

  pub record IsStoreAt (a : ActShape) (z : Size) (b u : Shape) : Type 0 where
    pub address : Shape
    pub term : Shape
    pub is : a ≡ StoreAt z address term
    pub at_alike : TermsAlike facts known area m address b
    pub alike : TermsAlike facts known area m term u

  pub store_at_alike : (a : ActShape) (z : Size) (b u : Shape) → ActsAlike facts known area m a (StoreAt z b u) → IsStoreAt a z b u
  store_at_alike (StoreAt xz xa x) z b u h = record { address = xa; term = x; is = ap (λ y. StoreAt y xa x) h.0; at_alike = h.1; alike = h.2 }
  store_at_alike _ z b u h = absurd h

  pub record IsBranch (a : ActShape) (i : ℕ) (b u : Shape) : Type 0 where
    pub left : Shape
    pub right : Shape
    pub is : a ≡ Branch i left right
    pub left_alike : TermsAlike facts known area m left b
    pub right_alike : TermsAlike facts known area m right u

  pub branch_alike : (a : ActShape) (i : ℕ) (b u : Shape) → ActsAlike facts known area m a (Branch i b u) → IsBranch a i b u
  branch_alike (Branch xi xa x) i b u h = record { left = xa; right = x; is = ap (λ y. Branch y xa x) h.0; left_alike = h.1; right_alike = h.2 }
  branch_alike _ i b u h = absurd h

  pub record IsPush (a : ActShape) (u : Shape) : Type 0 where
    pub term : Shape
    pub is : a ≡ Push term
    pub alike : TermsAlike facts known area m term u

  pub push_alike : (a : ActShape) (u : Shape) → ActsAlike facts known area m a (Push u) → IsPush a u
  push_alike (Push x) u h = record { term = x; is = refl; alike = h }
  push_alike _ u h = absurd h

  pub record IsReturn (a : ActShape) (u : Shape) : Type 0 where
    pub term : Shape
    pub is : a ≡ Return term
    pub alike : TermsAlike facts known area m term u

  pub return_alike : (a : ActShape) (u : Shape) → ActsAlike facts known area m a (Return u) → IsReturn a u
  return_alike (Return x) u h = record { term = x; is = refl; alike = h }
  return_alike _ u h = absurd h

  pub call_alike : (a : ActShape) → ActsAlike facts known area m a Call → a ≡ Call
  call_alike Call h = refl
  call_alike _ h = absurd h

  pub jump_alike : (a : ActShape) → ActsAlike facts known area m a Jump → a ≡ Jump
  jump_alike Jump h = refl
  jump_alike _ h = absurd h

  pub save_alike : (a : ActShape) (i : ℕ) → ActsAlike facts known area m a (Save i) → a ≡ Save i
  save_alike (Save xi) i h = ap Save h
  save_alike _ i h = absurd h

-- no divisor is zero
no_zero : (v : View) (ds : List Shape) → divides_by_zero (term_state v) ds ≡ false → All (λ (x : Shape). value v x ≡ 0 → ⊥) ds
no_zero v [] e = tt
no_zero v (x ∷ xs) e = ((λ z. first (value v x == 0) refl z e), no_zero v xs (second_false (value v x == 0) (divides_by_zero (term_state v) xs) e)) where
  first : (b : Bool) → (value v x == 0) ≡ b → value v x ≡ 0 → (b || divides_by_zero (term_state v) xs) ≡ false → ⊥
  first true is z h = (cc)
  first false is z h = absurd (let g : (value v x == 0) ≡ (0 == 0) = ap (λ n. n == 0) z in let w : false ≡ true = sym is ∙ g in (cc))

pub divides_none : (v : View) (e : EffectShape) → divides_by_zero (term_state v) e.divisors ≡ false → DividesByNone v e
divides_none v e h = no_zero v e.divisors h

att_spelled : {O I S F : Type 0} (of : Meaning O I S F) (q : TreeProgram) (x : Tok) (a : Att) (o : O) (m : S) → token_operand of x a ≡ Some o → token_worth of q x a m ≡ of.reads o Long m
att_spelled of q x (att.Slot k) o m e = ap (λ w. read_of of w Long m) e
att_spelled of q x _ o m e = absurd (none-some o e)

att_constant : {O I S F : Type 0} (of : Meaning O I S F) (q : TreeProgram) (d : Content) (first : ℕ) (x : Tok) (a : Att) (n : ℕ) (m : S) → token_number q a ≡ Some n
    → token_worth of q x a m ≡ Some n
att_constant of q d first x (att.Number k) n m e = e
att_constant of q d first x (att.Object object offset) n m e = e
att_constant of q d first x _ n m e = absurd (none-some n e)

module _ {O I S F : Type 0} (of : Meaning O I S F) (law : IsLawful of) (q : TreeProgram) (d : Content) (first : ℕ) (f : Extent) (fs : List Extent) (t : State) (s : Sight) (m0 : S)
    (frame : IsFrame of q d first f fs t s m0) (m : S) (sees : Sees of q d first f fs t s m0 m) where
  -- what is spelled is what is read
  class_spelled : (k : Option Kind) (a : Attr O) (v : Sense) (o : O) (z : Size) → ClassIs of q d first f fs t s m0 m k a v → spelled of a ≡ Some o → size_of_entry k ≡ Some z
      → worth of q (size_of_kind k) a m ≡ of.reads o z m
  class_spelled k a v o z (stands.value z' o' x fits is) e g = ap (λ p. of.reads p z' m) (same_Some o' o e) ∙ ap (λ y. of.reads o y m) (same_Some z' z g)
  class_spelled k a v o z (stands.place z' o' g' fits is) e g = ap (λ p. of.reads p z' m) (same_Some o' o e) ∙ ap (λ y. of.reads o y m) (same_Some z' z g)
  class_spelled k a v o z (stands.address o' x fits is) e g = absurd (none-some z g)
  class_spelled k a v o z _ e g = absurd (none-some o e)

  symbol_spelled : (x : Sym) (k : Option Kind) (a : Attr O) (v : Sense) (o : O) (z : Size) → SymbolIs of q d first f fs t s m0 m x k a v → spelled of a ≡ Some o → size_of_entry k ≡ Some z
      → worth of q (size_of_symbol d.classes x) a m ≡ of.reads o z m
  symbol_spelled x k a v o z (stands.token l fit named) e g = att_spelled of q l.tok l.att o m e ∙ ap (λ y. of.reads o y m) (same_Some Long z g)
  symbol_spelled x k a v o z (stands.class c a' v' is) e g = class_spelled (kind_at d.classes c) a v o z is e g

  constant_worth : (z : Size) (a : Attr O) (n : ℕ) → constant_of q a ≡ Some n → worth of q z a m ≡ Some n
  constant_worth z (attr.Con x) n e = e
  constant_worth z (attr.Token l) n e = att_constant of q d first l.tok l.att n m e
  constant_worth z _ n e = absurd (none-some n e)

  -- an entry at its place
  record Entered (es : List (Entry O)) (right : List Sym) (j : ℕ) (e : Entry O) : Type 0 where
    symbol : Sym
    sense : Sense
    is : SymbolIs of q d first f fs t s m0 m symbol e.kind e.attr sense
    worth_is : symbol_by of law q d first f fs t s m0 frame m sees es right j ≡ worth of q (size_of_symbol d.classes symbol) e.attr m

  entered : (es : List (Entry O)) (right : List Sym) (vs : List Sense) (j : ℕ) (e : Entry O) → Hold of law q d first f fs t s m0 frame m sees es right vs → slice_get es j ≡ Some e
      → Entered es right j e
  entered [] right vs j e holds at = absurd (none-some e at)
  entered (e' ∷ es) [] [] j e holds at = absurd holds
  entered (e' ∷ es) [] (v ∷ vs) j e holds at = absurd holds
  entered (e' ∷ es) (x ∷ xs) [] j e holds at = absurd holds
  entered (e' ∷ es) (x ∷ xs) (v ∷ vs) zero e holds at = subst (λ w. Entered (e' ∷ es) (x ∷ xs) zero w) (same_Some e' e at) (record { symbol = x; sense = v; is = holds.0; worth_is = refl })
  entered (e' ∷ es) (x ∷ xs) (v ∷ vs) (suc j) e holds at = (let r = entered es xs vs j e holds.1 at in record { symbol = r.symbol; sense = r.sense; is = r.is; worth_is = r.worth_is })

  record SpelledSame (a b : Option O) : Type 0 where
    operand : O
    first_is : a ≡ Some operand
    second_is : b ≡ Some operand

  spelled_same : (a b : Option O) → same_operands of a b ≡ true → SpelledSame a b
  spelled_same None b e = absurd (cc)
  spelled_same (Some o) None e = absurd (cc)
  spelled_same (Some o) (Some p) e = record { operand = o; first_is = refl; second_is = ap Some (sym ((law.spells.same_is o p).0 e)) }

  module _ (es : List (Entry O)) (rule : Rule) (vs : List Sense) (holds : Hold of law q d first f fs t s m0 frame m sees es rule.right vs) where
    abbrev pub by_index : ℕ → Option ℕ
    by_index = symbol_by of law q d first f fs t s m0 frame m sees es rule.right

    abbrev pub V : View
    V = view of law q d first f fs t s m0 frame m sees es rule.right

    enter : (i : ℕ) (a : Entry O) → attribute_at es (suc i) ≡ Some a → Entered es rule.right i a
    enter i a at = entered es rule.right vs i a holds (sym (attribute_suc es i) ∙ at)

    sized : (x y : Option Size) → same_size x y ≡ true → (z : Size) × (x ≡ Some z) × (y ≡ Some z)
    sized None y e = absurd (cc)
    sized (Some z) y e = (z, refl, sizes_same (Some z) y z e refl)

    spelled_alike : (i j : ℕ) (a b : Entry O) → Entered es rule.right i a → Entered es rule.right j b → (selecting of q d first).alike a b ≡ true → by_index i ≡ by_index j
    spelled_alike i j a b x y e =
        let h = and_parts (same_size (size_of_entry a.kind) (size_of_entry b.kind)) (same_operands of (spelled of a.attr) (spelled of b.attr)) e in
        let z = sized (size_of_entry a.kind) (size_of_entry b.kind) h.0 in
        let o = spelled_same (spelled of a.attr) (spelled of b.attr) h.1 in
        x.worth_is ∙ symbol_spelled x.symbol a.kind a.attr x.sense o.operand z.0 x.is o.first_is z.1
        ∙ sym (y.worth_is ∙ symbol_spelled y.symbol b.kind b.attr y.sense o.operand z.0 y.is o.second_is z.2)

    -- symbols that are spelled alike have one number, if any
    same_symbols : SameForAlike (selecting of q d first) es V.symbol
    same_symbols zero j a b p r e = absurd (none-some a p)
    same_symbols (suc i) zero a b p r e = absurd (none-some b r)
    same_symbols (suc i) (suc j) a b p r e = spelled_alike i j a b (enter i a p) (enter j b r) e

    tells_constants : (i n : ℕ) (a : Entry O) → attribute_at es i ≡ Some a → constant_of q a.attr ≡ Some n → (term_state V).symbol i ≡ n
    tells_constants zero n a p e = absurd (none-some a p)
    tells_constants (suc i) n a p e =
        let x = enter i a p in
        ap (λ o. unwrap_or o 0) (x.worth_is ∙ constant_worth (size_of_symbol d.classes x.symbol) a.attr n e)

    small_or : (i : ℕ) (z : Size) (o : Option ℕ) → by_index i ≡ o → size_of_some d.classes (slice_get rule.right i) ≡ z → 0 < 2 ^ (8 * bytes_of z) → unwrap_or o 0 < 2 ^ (8 * bytes_of z)
    small_or i z None e g lt = lt
    small_or i z (Some x) e g lt =
        subst (λ y. x < 2 ^ (8 * bytes_of y)) g
        (symbol_at_small of law q d first f fs t s m0 frame m sees es rule.right vs i x (slice_get (hs_of of law q d first f fs t s m0 frame m sees es) i) refl holds e)

    tells_small : (z : Size) (i : ℕ) → (z ≡ Long → ⊥) → 0 < 2 ^ (8 * bytes_of z) → size_at d.classes rule.right i ≡ z → (term_state V).symbol i < 2 ^ (8 * bytes_of z)
    tells_small z zero short lt e = absurd (short (sym e))
    tells_small z (suc i) short lt e = small_or i z (by_index i) refl (sym (size_behind d.classes rule.right i) ∙ e) lt

    tells : Tells (selecting of q d first) d.classes rule es (term_state V)
    tells = record {
      alike = λ i j a b p r e. ap (λ o. unwrap_or o 0) (same_symbols i j a b p r e);
      constants = λ i n a p e. tells_constants i n a p e;
      bytes = λ i e. tells_small Byte i (λ w. byte_long w) (omega arith) e;
      words = λ i e. tells_small Word i (λ w. word_long w) (omega arith) e;
    } where
      byte_long : Byte ≡ Long → ⊥
      byte_long e = cc

      word_long : Word ≡ Long → ⊥
      word_long e = cc

    abbrev pub known_by : ℕ → Bool
    known_by i = is_some (V.symbol i)

    -- what a pattern's effect reads and gives, a shown template's own does
    pub alike_effects : (e : EffectShape) → all_hold (selecting of q d first) es rule.restrictions ≡ true → of.effect d.classes rule ≡ Ok e
        → norm_effect (facts_of d.classes rule) (effect_read d.classes rule) ≡ norm_effect (facts_of d.classes rule) e
        → EffectsAlike (facts_of d.classes rule) known_by s.area (term_state V) e (effect_read d.classes rule)
    alike_effects e hold taken shown =
        shown_is_alike (facts_of d.classes rule) known_by s.area (term_state V) e (effect_read d.classes rule)
        (restrictions_tell (selecting of q d first) d.classes rule es (term_state V) hold tells)
        (λ i. ap is_some (facts_join (selecting of q d first) (Option ℕ) d.classes rule es V.symbol hold same_symbols i))
        (law.templates.narrow d.classes rule e taken) (wanted_is_narrow d.classes rule) (sym shown)
