-- A rule with entries that stand for senses is an instance of the target's.
use Rattle.std.proofs.Common.{◌≡◌, ℕ, zero, suc, ◌*◌, ◌%◌, ◌^◌, ◌<◌, List, [], ◌∷◌, map, Option, Some, None, Bool, true, refl, sym, ap, ◌∙◌, subst, slice_get}
use Rattle.std.specs.Prelude.{IsSome, option_and_then, unwrap_or, slice_index_or, Ok}
use Rattle.std.specs.List.{AllByRecursion as All}
use Rattle.std.proofs.lemmas.Option.{none-some, same_Some}
use Rattle.gg_base.specs.declared.relation.Rel.{Rel}
use Rattle.gg_base.specs.Sizes.{bytes_of}
use Rattle.gg_base.proofs.Words.{low_long}
use Rattle.tree_core.specs.declared.program.TreeProgram.{TreeProgram}
use Rattle.tree_core.specs.Valid.{IsValid}
use Rattle.tree_core.specs.Area.{fetched}
use Rattle.tree_meaning.specs.State.{State, Extent}
use Rattle.tree_meaning.specs.declared.value.Value.TheVariants as values
use Rattle.tree_meaning.specs.Values.{Sight, read}
use Rattle.md_reader.specs.declared.types.Kind.{Kind}
use Rattle.md_reader.specs.declared.types.Kind.TheVariants as kind
use Rattle.md_reader.specs.declared.types.Rule.{Rule}
use Rattle.md_reader.specs.declared.types.Sym.{Sym}
use Rattle.md_reader.specs.declared.types.Sym.TheVariants as grammar_symbol
use Rattle.md_reader.specs.Patterns.{kind_at}
use Rattle.md_reader.specs.State.{Content}
use Rattle.md_reader.specs.Valid.{IsRule}
use Rattle.sel_target.specs.sel_terms.specs.Effects.{EffectShape}
use Rattle.sel_target.specs.sel_terms.specs.RuleFacts.{size_of_some, size_at}
use Rattle.sel_target.specs.sel_terms.proofs.Facts.{size_behind}
use Rattle.sel_target.specs.declared.attr.Attr.{Attr}
use Rattle.sel_target.specs.Meaning.{Meaning}
use Rattle.sel_target.specs.Values.{View, term_state, IsReadWhere, worth, own_operand}
use Rattle.sel_target.specs.Laws.{IsLawful}
use Rattle.sel_target.specs.Spelled.{AreSpelled}
use Rattle.sel_target.specs.Instances.{Fit, IsWhole, hole, Instance}
use Rattle.sel_target.specs.EffectTerms.{terms_of, begins_with_save}
use Rattle.sel_target.specs.Symbols.{token_number, branch_relation, constant_of, relation_of}
use Rattle.sel_target.proofs.AreaBytes.{area_read}
use Rattle.sel_terms_trees.specs.Senses.{Sense, OfLeaf, OfNumber, unknown, means, means_at, StandsFor}
use Rattle.sel_parse_selected.specs.Entries.{Entry, attrs}
use Rattle.sel_parse_selected.proofs.Restricting.{asked, Restricted, still_restricted}
use Rattle.sel_parse_stands.specs.Stands.{ClassIs, SymbolIs, Sees, IsFrame, Holds}
use Rattle.sel_parse_stands.specs.Stands as stands
use Rattle.sel_parse_stands.proofs.Loaded.{AllLoaded}
use Rattle.sel_parse_stands.proofs.Carrying.{AllCarried, carried_at}
use Rattle.sel_parse_stands.proofs.Symbols.{symbol_reads, symbol_small, symbol_fits, symbol_spells, symbol_whole, symbol_homes}

-- numbers count from 1
abbrev pub numbered : (ℕ → Option ℕ) → ℕ → Option ℕ
numbered f zero = None
numbered f (suc j) = f j

module _ {O I S F : Type 0} (of : Meaning O I S F) (law : IsLawful of) (q : TreeProgram) (d : Content) (first : ℕ) (f : Extent) (fs : List Extent) (t : State) (s : Sight) (m0 : S)
    (frame : IsFrame of q d first f fs t s m0) (m : S) (sees : Sees of q d first f fs t s m0 m) where
  abbrev pub Hold : List (Entry O) → List Sym → List Sense → Type 0
  Hold es right vs = Holds of q d first f fs t s m0 m es right vs

  abbrev pub hs_of : List (Entry O) → List (Attr O)
  hs_of es = attrs es

  -- what stands at a place
  pub record At (es : List (Entry O)) (right : List Sym) (vs : List Sense) (j : ℕ) (h : Attr O) : Type 0 where
    pub symbol : Sym
    pub kind : Option Kind
    pub sense : Sense
    pub there : slice_get right j ≡ Some symbol
    pub sensed : slice_index_or vs j unknown ≡ sense
    pub is : SymbolIs of q d first f fs t s m0 m symbol kind h sense

  pub found : (es : List (Entry O)) (right : List Sym) (vs : List Sense) (j : ℕ) (h : Attr O) → Hold es right vs → slice_get (hs_of es) j ≡ Some h → At es right vs j h
  found [] right vs j h holds at = absurd (cc)
  found (e ∷ es) [] [] j h holds at = absurd holds
  found (e ∷ es) [] (v ∷ vs) j h holds at = absurd holds
  found (e ∷ es) (x ∷ xs) [] j h holds at = absurd holds
  found (e ∷ es) (x ∷ xs) (v ∷ vs) zero h holds at =
      record { symbol = x; kind = e.kind; sense = v; there = refl; sensed = refl; is = subst (λ a. SymbolIs of q d first f fs t s m0 m x e.kind a v) (same_Some e.attr h at) holds.0 }
  found (e ∷ es) (x ∷ xs) (v ∷ vs) (suc j) h holds at =
      (let r = found es xs vs j h holds.1 at in record { symbol = r.symbol; kind = r.kind; sense = r.sense; there = r.there; sensed = r.sensed; is = r.is })

  missing : (es : List (Entry O)) (right : List Sym) (vs : List Sense) (j : ℕ) → Hold es right vs → slice_get (hs_of es) j ≡ None → slice_index_or vs j unknown ≡ unknown
  missing [] [] [] j holds at = refl
  missing [] [] (v ∷ vs) j holds at = absurd holds
  missing [] (x ∷ xs) vs j holds at = absurd holds
  missing (e ∷ es) [] [] j holds at = absurd holds
  missing (e ∷ es) [] (v ∷ vs) j holds at = absurd holds
  missing (e ∷ es) (x ∷ xs) [] j holds at = absurd holds
  missing (e ∷ es) (x ∷ xs) (v ∷ vs) zero holds at = absurd (cc)
  missing (e ∷ es) (x ∷ xs) (v ∷ vs) (suc j) holds at = missing es xs vs j holds.1 at

  -- the value of the symbol at index j
  abbrev pub symbol_by : List (Entry O) → List Sym → ℕ → Option ℕ
  symbol_by es right j = option_and_then (λ h. worth of q (size_of_some d.classes (slice_get right j)) h m) (slice_get (hs_of es) j)

  abbrev pub view : List (Entry O) → List Sym → View
  view es right = record { symbol = numbered (symbol_by es right); state = t }

  worth_at : (es : List (Entry O)) (right : List Sym) (j : ℕ) (h : Attr O) → slice_get (hs_of es) j ≡ Some h → symbol_by es right j ≡ worth of q (size_of_some d.classes (slice_get right j)) h m
  worth_at es right j h at = ap (λ o. option_and_then (λ h. worth of q (size_of_some d.classes (slice_get right j)) h m) o) at

  pub symbol_at_small : (es : List (Entry O)) (right : List Sym) (vs : List Sense) (j x : ℕ) (o : Option (Attr O)) → slice_get (hs_of es) j ≡ o → Hold es right vs → symbol_by es right j ≡ Some x
      → x < 2 ^ (8 * bytes_of (size_of_some d.classes (slice_get right j)))
  symbol_at_small es right vs j x None at holds e = absurd (none-some x (sym (ap (λ o. option_and_then (λ h. worth of q (size_of_some d.classes (slice_get right j)) h m) o) at) ∙ e))
  symbol_at_small es right vs j x (Some h) at holds e =
      let r = found es right vs j h holds at in
      let is = sym (worth_at es right j h at) ∙ e in
      subst (λ w. x < 2 ^ (8 * bytes_of (size_of_some d.classes w))) (sym r.there)
      (symbol_small of law q d first f fs t s m0 frame m sees r.symbol r.kind h r.sense x r.is (subst (λ w. worth of q (size_of_some d.classes w) h m ≡ Some x) r.there is))

  stands_at : (es : List (Entry O)) (right : List Sym) (vs : List Sense) (j n : ℕ) (o : Option (Attr O)) → slice_get (hs_of es) j ≡ o → Hold es right vs
      → read s (means q.objects s (slice_index_or vs j unknown)) ≡ values.Number n → symbol_by es right j ≡ Some n
  stands_at es right vs j n None at holds e = absurd (let w = missing es right vs j holds at in wild n (subst (λ v. read s (means q.objects s v) ≡ values.Number n) w e)) where
    wild : (n : ℕ) → values.Wild ≡ values.Number n → ⊥
    wild n e = cc
  stands_at es right vs j n (Some h) at holds e =
      let r = found es right vs j h holds at in
      worth_at es right j h at ∙ subst (λ w. worth of q (size_of_some d.classes w) h m ≡ Some n) (sym r.there)
      (symbol_reads of law q d first f fs t s m0 frame m sees r.symbol r.kind h r.sense n r.is (subst (λ v. read s (means q.objects s v) ≡ values.Number n) r.sensed e))

  not_wild : (n : ℕ) → values.Wild ≡ values.Number n → ⊥
  not_wild n e = cc

  stands_by : (es : List (Entry O)) (right : List Sym) (vs : List Sense) (i n : ℕ) → Hold es right vs → read s (means_at q.objects s vs i) ≡ values.Number n
      → unwrap_or (numbered (symbol_by es right) i) 0 % 2 ^ 32 ≡ n
  stands_by es right vs zero n holds e = absurd (not_wild n e)
  stands_by es right vs (suc j) n holds e =
      let is = stands_at es right vs j n (slice_get (hs_of es) j) refl holds e in
      ap (λ o. unwrap_or o 0 % 2 ^ 32) is
      ∙ low_long (size_of_some d.classes (slice_get right j)) n (symbol_at_small es right vs j n (slice_get (hs_of es) j) refl holds is)

  -- the state of terms of the view stands for the senses
  pub stands_for : (es : List (Entry O)) (right : List Sym) (vs : List Sense) → Hold es right vs → StandsFor q.objects s vs (term_state (view es right))
  stands_for es right vs holds = record {
    symbols = λ i n e. stands_by es right vs i n holds e;
    memory = λ size a n e. area_read (view es right) size a n (law.reads.area_bytes q f fs t m sees.agrees) (subst (λ bytes. fetched size bytes a ≡ Some n) frame.area e);
  }

  pub known : (es : List (Entry O)) (right : List Sym) (vs : List Sense) (i n : ℕ) → Hold es right vs → read s (means_at q.objects s vs i) ≡ values.Number n → (view es right).symbol i ≡ Some n
  known es right vs zero n holds e = absurd (not_wild n e)
  known es right vs (suc j) n holds e = stands_at es right vs j n (slice_get (hs_of es) j) refl holds e

  -- ---- what restrictions ask of an entry, by the sense that it stands for

  abbrev class_asked : Option Kind → Sense → Option ℕ × Option Rel
  class_asked (Some kind.Con) (OfNumber n) = (Some n, None)
  class_asked k v = (None, None)

  abbrev symbol_asked : Sym → Sense → Option ℕ × Option Rel
  symbol_asked (grammar_symbol.Tok x) (OfLeaf l) = (token_number q l.att, branch_relation l.att)
  symbol_asked (grammar_symbol.Class c) v = class_asked (kind_at d.classes c) v
  symbol_asked x v = (None, None)

  class_is : (n : S) (k : Option Kind) (a : Attr O) (v : Sense) → ClassIs of q d first f fs t s m0 n k a v → (constant_of q a, relation_of a) ≡ class_asked k v
  class_is n k a v (stands.register r x lt is) = refl
  class_is n k a v (stands.in_slot w x le lt is) = refl
  class_is n k a v (stands.value z o x fits is) = refl
  class_is n k a v (stands.place z o g fits is) = refl
  class_is n k a v (stands.number x lt) = refl
  class_is n k a v (stands.address o x fits is) = refl

  symbol_is : (n : S) (x : Sym) (k : Option Kind) (a : Attr O) (v : Sense) → SymbolIs of q d first f fs t s m0 n x k a v → (constant_of q a, relation_of a) ≡ symbol_asked x v
  symbol_is n x k a v (stands.token l fit named) = refl
  symbol_is n x k a v (stands.class c a' v' is) = class_is n (kind_at d.classes c) a v is

  -- The instance in a later state, to which the symbols are carried on: the view stays that of the choice.
  module _ (m' : S) (sees' : Sees of q d first f fs t s m0 m') where
    abbrev pub HoldNow : List (Entry O) → List Sym → List Sense → Type 0
    HoldNow es right vs = Holds of q d first f fs t s m0 m' es right vs

    pub spelled_now : (es : List (Entry O)) (right : List Sym) (vs : List Sense) → HoldNow es right vs → AreSpelled q (attrs es)
    spelled_now [] [] [] holds = tt
    spelled_now [] [] (v ∷ vs) holds = absurd holds
    spelled_now [] (x ∷ xs) vs holds = absurd holds
    spelled_now (e ∷ es) [] [] holds = absurd holds
    spelled_now (e ∷ es) [] (v ∷ vs) holds = absurd holds
    spelled_now (e ∷ es) (x ∷ xs) [] holds = absurd holds
    spelled_now (e ∷ es) (x ∷ xs) (v ∷ vs) holds =
        (symbol_spells of law q d first f fs t s m0 frame m' sees' x e.kind e.attr v holds.0, spelled_now es xs vs holds.1)

    -- entries that stand for the same are asked for the same
    asked_now : (es es' : List (Entry O)) (right : List Sym) (vs : List Sense) → Hold es right vs → HoldNow es' right vs
        → map (asked of q d first) es' ≡ map (asked of q d first) es
    asked_now [] [] [] [] holds now = refl
    asked_now (e ∷ es) (b ∷ es') (x ∷ xs) (v ∷ vs) holds now =
        ap (λ p. p ∷ map (asked of q d first) es') (symbol_is m' x b.kind b.attr v now.0 ∙ sym (symbol_is m x e.kind e.attr v holds.0))
        ∙ ap (λ l. asked of q d first e ∷ l) (asked_now es es' xs vs holds.1 now.1)
    asked_now [] (b ∷ es') [] [] holds now = absurd now
    asked_now (e ∷ es) [] (x ∷ xs) (v ∷ vs) holds now = absurd now
    asked_now _ _ _ _ holds now = absurd holds

    pub instance : (every : Bool) (es es' : List (Entry O)) (rule : Rule) (vs : List Sense) (e : EffectShape)
        → Restricted of q d first rule.restrictions es → IsValid q → IsRule d.classes rule → of.effect d.classes rule ≡ Ok e → AllLoaded es' → Hold es rule.right vs → HoldNow es' rule.right vs
        → AllCarried of q d f t m m' rule.right es es'
        → All (IsReadWhere every (view es rule.right)) (terms_of e) → (begins_with_save rule.right ≡ true → of.answer m' ≡ t.running.result)
        → Instance of every q f fs d.classes rule e (attrs es') (view es rule.right) m'
    instance every es es' rule vs e restricted valid is_rule taken loaded holds now carried reads answered = record {
      program = valid;
      rule_fits = is_rule;
      taken = taken;
      holes_fit = fits_now es' rule.right vs loaded now;
      restricted = still_restricted of q d first rule.restrictions es es' (asked_now es es' rule.right vs holds now) restricted;
      values = values_at;
      small = small_at;
      whole = whole_at;
      homes = homes_at;
      agrees = sees'.agrees;
      room = sees'.room;
      read = reads;
      answered = answered;
    } where
      fits_now : (es : List (Entry O)) (right : List Sym) (vs : List Sense) → AllLoaded es → HoldNow es right vs → Fit of d.classes right (attrs es)
      fits_now [] [] [] loaded holds = tt
      fits_now [] [] (v ∷ vs) loaded holds = absurd holds
      fits_now [] (x ∷ xs) vs loaded holds = absurd holds
      fits_now (e ∷ es) [] [] loaded holds = absurd holds
      fits_now (e ∷ es) [] (v ∷ vs) loaded holds = absurd holds
      fits_now (e ∷ es) (x ∷ xs) [] loaded holds = absurd holds
      fits_now (e ∷ es) (x ∷ xs) (v ∷ vs) loaded holds =
          (symbol_fits of law q d first f fs t s m0 frame m' sees' x e.kind e.attr v loaded.0 holds.0, fits_now es xs vs loaded.1 holds.1)

      values_at : (i x : ℕ) (h : Attr O) → hole (attrs es') i ≡ Some h → (view es rule.right).symbol i ≡ Some x → worth of q (size_at d.classes rule.right i) h m' ≡ Some x
      values_at zero x h at e' = absurd (none-some h at)
      values_at (suc j) x h at e' =
          let r = carried_at of q d f t m m' rule.right es es' j h carried at in
          subst (λ z. worth of q z h m' ≡ Some x) (sym (size_behind d.classes rule.right j)) (r.carried.worth_is x (sym (worth_at es rule.right j r.before r.there) ∙ e'))

      small_at : (i x : ℕ) → (view es rule.right).symbol i ≡ Some x → x < 2 ^ (8 * bytes_of (size_at d.classes rule.right i))
      small_at zero x e' = absurd (none-some x e')
      small_at (suc j) x e' =
          subst (λ z. x < 2 ^ (8 * bytes_of z)) (sym (size_behind d.classes rule.right j)) (symbol_at_small es rule.right vs j x (slice_get (hs_of es) j) refl holds e')

      whole_at : (i : ℕ) (h : Attr O) → hole (attrs es') i ≡ Some h → IsWhole h ((view es rule.right).symbol i)
      whole_at zero h at = absurd (none-some h at)
      whole_at (suc j) h at =
          let c = carried_at of q d f t m m' rule.right es es' j h carried at in
          let r = found es rule.right vs j c.before holds c.there in
          c.carried.whole ((view es rule.right).symbol (suc j)) (subst (λ o. IsWhole c.before o) (sym (worth_at es rule.right j c.before c.there))
          (subst (λ w. IsWhole c.before (worth of q (size_of_some d.classes w) c.before m)) (sym r.there)
          (symbol_whole of law q d first f fs t s m0 frame m sees r.symbol r.kind c.before r.sense r.is)))

      found_now : (es : List (Entry O)) (right : List Sym) (vs : List Sense) (j : ℕ) (h : Attr O) → HoldNow es right vs → slice_get (attrs es) j ≡ Some h
          → (x : Sym) × (k : Option Kind) × (v : Sense) × (slice_get right j ≡ Some x) × SymbolIs of q d first f fs t s m0 m' x k h v
      found_now [] right vs j h holds at = absurd (cc)
      found_now (e ∷ es) [] [] j h holds at = absurd holds
      found_now (e ∷ es) [] (v ∷ vs) j h holds at = absurd holds
      found_now (e ∷ es) (x ∷ xs) [] j h holds at = absurd holds
      found_now (e ∷ es) (x ∷ xs) (v ∷ vs) zero h holds at =
          (x, e.kind, v, refl, subst (λ a. SymbolIs of q d first f fs t s m0 m' x e.kind a v) (same_Some e.attr h at) holds.0)
      found_now (e ∷ es) (x ∷ xs) (v ∷ vs) (suc j) h holds at = found_now es xs vs j h holds.1 at

      homes_at : (i : ℕ) (h : Attr O) (o : O) → hole (attrs es') i ≡ Some h → own_operand of h ≡ Some o → IsSome (of.names o (size_at d.classes rule.right i) m')
      homes_at zero h o at e' = absurd (none-some h at)
      homes_at (suc j) h o at e' =
          let r = found_now es' rule.right vs j h now at in
          subst (λ z. IsSome (of.names o z m')) (sym (size_behind d.classes rule.right j))
          (subst (λ w. IsSome (of.names o (size_of_some d.classes w) m')) (sym r.3) (symbol_homes of law q d first f fs t s m0 frame m' sees' r.0 r.1 h r.2 o r.4 e'))
