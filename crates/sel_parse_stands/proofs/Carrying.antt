-- Entries that are carried on from a state to a later one: each is worth what it was, and a place stays the place that it was.
use Rattle.std.proofs.Common.{◌≡◌, ℕ, zero, suc, List, [], ◌∷◌, Option, Some, None, false, refl, ◌∙◌, subst, slice_get}
use Rattle.std.specs.List.{AllByRecursion as All}
use Rattle.std.proofs.lemmas.Option.{none-some, same_Some}
use Rattle.gg_base.specs.declared.size.Size.{Size}
use Rattle.gg_base.specs.declared.size.Size.TheVariants.{Long}
use Rattle.tree_core.specs.declared.token.Tok.{Tok}
use Rattle.tree_core.specs.declared.tree.Att.{Att}
use Rattle.tree_core.specs.declared.tree.Att.TheVariants as att
use Rattle.tree_core.specs.declared.program.TreeProgram.{TreeProgram}
use Rattle.tree_meaning.specs.State.{State, Extent}
use Rattle.tree_meaning.specs.declared.value.Meaning.{Meaning as Place}
use Rattle.md_reader.specs.declared.types.Sym.{Sym}
use Rattle.md_reader.specs.State.{Content}
use Rattle.sel_target.specs.sel_terms.specs.RuleFacts.{size_of_symbol, size_of_some}
use Rattle.sel_target.specs.declared.attr.Attr.{Attr}
use Rattle.sel_target.specs.declared.attr.Attr.TheVariants as attr
use Rattle.sel_target.specs.Meaning.{Meaning, Spot, touches}
use Rattle.sel_target.specs.Values.{PlaceIs, local, argument, memory, read_of, worth, token_worth, token_operand, own_operand}
use Rattle.sel_target.specs.Instances.{some_touches, attr_touches, IsWhole}
use Rattle.sel_target.specs.Outcomes.{Keeps}
use Rattle.sel_target.specs.StatementLaws.{att_of}
use Rattle.sel_parse_selected.specs.Entries.{Entry, attrs}

module _ {O I S F : Type 0} (of : Meaning O I S F) (q : TreeProgram) (d : Content) (f : Extent) (t : State) where
  abbrev pub Untouched : List Spot → Attr O → Type 0
  Untouched spots a = All (λ x. attr_touches of a x ≡ false) spots

  pub place_kept : (spots : List Spot) (m m' : S) (z : Size) (o : O) (g : Place) → Keeps of spots m m' → All (λ x. touches of o x ≡ false) spots
      → PlaceIs of f t m z o g → PlaceIs of f t m' z o g
  place_kept spots m m' z o g keeps free (local k long is lt low) = local k long is lt low
  place_kept spots m m' z o g keeps free (argument k long is lt numbered) = argument k long is lt numbered
  place_kept spots m m' z o g keeps free (memory a names) = memory a (keeps.names o z a free names)

  -- an operand that was a place's, and stands for each place that it stood for
  pub record Homed (m m' : S) (z : Size) (a : Attr O) (o' : O) : Type 0 where
    pub operand : O
    pub own : own_operand of a ≡ Some operand
    pub same : (g : Place) → PlaceIs of f t m z operand g → PlaceIs of f t m' z o' g

  pub record Carried (m m' : S) (z : Size) (a b : Attr O) : Type 0 where
    pub worth_is : (x : ℕ) → worth of q z a m ≡ Some x → worth of q z b m' ≡ Some x
    pub whole : (o : Option ℕ) → IsWhole a o → IsWhole b o
    pub home : (o' : O) → own_operand of b ≡ Some o' → Homed m m' z a o'
    pub att : att_of (Some b) ≡ att_of (Some a)

  pub on : (m m' m'' : S) (z : Size) (a b c : Attr O) → Carried m m' z a b → Carried m' m'' z b c → Carried m m'' z a c
  on m m' m'' z a b c h k = record {
    worth_is = λ x e. k.worth_is x (h.worth_is x e);
    whole = λ o e. k.whole o (h.whole o e);
    home = λ o e. (
        let r = k.home o e in
        let p = h.home r.operand r.own in
        record { operand = p.operand; own = p.own; same = λ g is. r.same g (p.same g is) });
    att = k.att ∙ h.att;
  }

  -- what is no spot of theirs
  token_kept : (spots : List Spot) (m m' : S) (x : Tok) (a : Att) (n : ℕ) → Keeps of spots m m'
      → All (λ (w : Spot). some_touches of (token_operand of x a) w ≡ false) spots → token_worth of q x a m ≡ Some n → token_worth of q x a m' ≡ Some n
  token_kept spots m m' x att.Nothing n keeps free e = e
  token_kept spots m m' x (att.Number k) n keeps free e = e
  token_kept spots m m' x (att.Object object offset) n keeps free e = e
  token_kept spots m m' x (att.Slot k) n keeps free e = by (token_operand of x (att.Slot k)) free e
    where
      by : (o : Option O) → All (λ (w : Spot). some_touches of o w ≡ false) spots → read_of of o Long m ≡ Some n → read_of of o Long m' ≡ Some n
      by None g h = absurd (none-some n h)
      by (Some o) g h = keeps.reads o Long n g h
  token_kept spots m m' x (att.Branch rel label) n keeps free e = e
  token_kept spots m m' x (att.Label label) n keeps free e = e
  token_kept spots m m' x (att.Callee function count) n keeps free e = e

  worth_kept : (spots : List Spot) (m m' : S) (z : Size) (a : Attr O) (n : ℕ) → Keeps of spots m m' → Untouched spots a
      → worth of q z a m ≡ Some n → worth of q z a m' ≡ Some n
  worth_kept spots m m' z (attr.Reg r) n keeps free e = keeps.reads (of.register r) z n free e
  worth_kept spots m m' z (attr.InSlot w) n keeps free e = keeps.reads (of.slot w) z n free e
  worth_kept spots m m' z (attr.Value o) n keeps free e = keeps.reads o z n free e
  worth_kept spots m m' z (attr.Place o) n keeps free e = keeps.reads o z n free e
  worth_kept spots m m' z (attr.Con k) n keeps free e = e
  worth_kept spots m m' z (attr.Ea o) n keeps free e = keeps.names o z n free e
  worth_kept spots m m' z (attr.Token l) n keeps free e = token_kept spots m m' l.tok l.att n keeps free e
  worth_kept spots m m' z attr.Nothing n keeps free e = e

  own_untouched : (spots : List Spot) (a : Attr O) (o : O) → Untouched spots a → own_operand of a ≡ Some o → All (λ x. touches of o x ≡ false) spots
  own_untouched spots (attr.Place p) o free e = subst (λ w. All (λ x. touches of w x ≡ false) spots) (same_Some p o e) free
  own_untouched spots (attr.Token l) o free e = subst (λ w. All (λ (x : Spot). some_touches of w x ≡ false) spots) e free
  own_untouched spots _ o free e = absurd (none-some o e)

  pub stays : (spots : List Spot) (m m' : S) (z : Size) (a : Attr O) → Keeps of spots m m' → Untouched spots a → Carried m m' z a a
  stays spots m m' z a keeps free = record {
    worth_is = λ x e. worth_kept spots m m' z a x keeps free e;
    whole = λ o h. h;
    home = λ o e. record { operand = o; own = e; same = λ g is. place_kept spots m m' z o g keeps (own_untouched spots a o free e) is };
    att = refl;
  }

  pub same_state : (m : S) (z : Size) (a : Attr O) → Carried m m z a a
  same_state m z a = record {
    worth_is = λ x e. e;
    whole = λ o h. h;
    home = λ o e. record { operand = o; own = e; same = λ g is. is };
    att = refl;
  }

  -- the symbols of a rule, one after another
  abbrev pub AllCarried : S → S → List Sym → List (Entry O) → List (Entry O) → Type 0
  AllCarried m m' [] [] [] = Unit {0}
  AllCarried m m' (x ∷ xs) (a ∷ as_) (b ∷ bs) = Carried m m' (size_of_symbol d.classes x) a.attr b.attr × AllCarried m m' xs as_ bs
  AllCarried m m' xs as_ bs = ⊥

  pub record CarriedAt (m m' : S) (right : List Sym) (as_ : List (Entry O)) (j : ℕ) (b : Attr O) : Type 0 where
    pub before : Attr O
    pub there : slice_get (attrs as_) j ≡ Some before
    pub carried : Carried m m' (size_of_some d.classes (slice_get right j)) before b

  pub carried_at : (m m' : S) (right : List Sym) (as_ bs : List (Entry O)) (j : ℕ) (b : Attr O) → AllCarried m m' right as_ bs → slice_get (attrs bs) j ≡ Some b
      → CarriedAt m m' right as_ j b
  carried_at m m' [] [] [] j b h at = absurd (cc)
  carried_at m m' (x ∷ xs) (a ∷ as_) (e ∷ bs) zero b h at = record {
    before = a.attr;
    there = refl;
    carried = subst (Carried m m' (size_of_symbol d.classes x) a.attr) (same_Some e.attr b at) h.0;
  }
  carried_at m m' (x ∷ xs) (a ∷ as_) (e ∷ bs) (suc j) b h at =
      let r = carried_at m m' xs as_ bs j b h.1 at in
      record { before = r.before; there = r.there; carried = r.carried }
  carried_at m m' _ _ _ j b h at = absurd h

  abbrev pub AllUntouched : List Spot → List (Entry O) → Type 0
  AllUntouched spots es = All (λ (e : Entry O). Untouched spots e.attr) es

  -- code runs on that touches none of them
  pub all_carried_on : (spots : List Spot) (m m' m'' : S) (right : List Sym) (as_ bs : List (Entry O)) → Keeps of spots m' m'' → AllUntouched spots bs
      → AllCarried m m' right as_ bs → AllCarried m m'' right as_ bs
  all_carried_on spots m m' m'' [] [] [] keeps free h = tt
  all_carried_on spots m m' m'' (x ∷ xs) (a ∷ as_) (b ∷ bs) keeps free h = (
    on m m' m'' (size_of_symbol d.classes x) a.attr b.attr b.attr h.0 (stays spots m' m'' (size_of_symbol d.classes x) b.attr keeps free.0),
    all_carried_on spots m m' m'' xs as_ bs keeps free.1 h.1,
  )
  all_carried_on spots m m' m'' _ _ _ keeps free h = absurd h
