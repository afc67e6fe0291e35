-- A source has one first fault at most, and none where it has a program: what each step answers decides.
use Rattle.std.proofs.Common.{◌≡◌, ◌⊎◌, inl, inr, ℕ, List, refl, sym, ap, subst, ◌∙◌, Err}
use Rattle.gg_base.specs.declared.place.Place.{Place}
use Rattle.c_tokens.specs.declared.token.Spanned.{Spanned}
use Rattle.c_tokens.specs.declared.token.TokenKind.{TokenKind}
use Rattle.c_tokens.specs.Grammar.{Tokens, IsEnded}
use Rattle.c_tokens.specs.Wrong.{FirstFault}
use Rattle.c_phrases.specs.declared.tree.Ast.{Ast}
use Rattle.c_phrases.specs.Classes.{seen}
use Rattle.c_phrases.specs.Units.{AUnit}
use Rattle.c_phrases.specs.UnitShapes.{unit_of}
use Rattle.c_phrases.specs.Grammar.{IsUnit}
use Rattle.c_syntax.specs.Ends.{body_ends}
use Rattle.c_syntax_goals.specs.Refusals.{NotHereAt, TooDeepAt}
use Rattle.c_syntax.specs.declared.fault.SyntaxFault.{SyntaxFault}
use Rattle.c_syntax.specs.declared.fault.SyntaxFault.TheVariants as syntax
use Rattle.c_syntax.specs.Answers as parsed
use Rattle.c_syntax.specs.Answers.{IsThat, HasFault}
use Rattle.c_types.specs.declared.fault.TypeKind.{TypeKind}
use Rattle.c_types.specs.declared.fault.TypeFault.{TypeFault}
use Rattle.c_types.specs.declared.fault.TypeFault.TheVariants as type_fault
use Rattle.c_types.specs.Answers.{Fault}
use Rattle.c_typed_check.specs.c_typed_operators.specs.Table.{OnlyFault}
use Rattle.c_typed_check.specs.c_typed_law.specs.Texts.{TextFault}
use Rattle.c_typed.specs.declared.source.SourceKind.{SourceKind}
use Rattle.c_typed.specs.declared.source.SourceKind.TheVariants as kinds
use Rattle.c_typed.specs.Sources.{place_at, IsFaultAt}

-- where this place and kind are answered
abbrev Same : ℕ → SourceKind → List ℕ → Place → SourceKind → Type 0
Same offset k bytes place kind = (place_at bytes offset ≡ place) × (k ≡ kind)

places : (bytes : List ℕ) (a b : ℕ) (place : Place) → a ≡ b → place ≡ place_at bytes b → place_at bytes a ≡ place
places bytes a b place same is = ap (place_at bytes) same ∙ sym is

module _ (bytes : List ℕ) (place : Place) (kind : SourceKind) where
  -- the tokens have none, but the phrases have: by what the parser says of each fault
  abbrev PhraseFaultAt : List Spanned → ℕ → Type 0
  PhraseFaultAt list offset = ((kind ≡ kinds.NotHere) × NotHereAt list offset) ⊎ ((kind ≡ kinds.TooDeep) × TooDeepAt list offset)

  phrase_first : (list : List Spanned) (p : ℕ) (k : SourceKind) → ((q : ℕ) (j : TokenKind) → FirstFault 0 bytes q j → ⊥) →
      ((ts : List Spanned) → Tokens 0 bytes ts → list ≡ ts) → ((u : AUnit) → IsUnit (seen list) u → ⊥) →
      ((q : ℕ) → NotHereAt list q → (p ≡ q) × (k ≡ kinds.NotHere)) → ((q : ℕ) → TooDeepAt list q → (p ≡ q) × (k ≡ kinds.TooDeep)) →
      IsFaultAt bytes place kind → Same p k bytes place kind
  phrase_first list p k fine only no_unit here deep (inl h) = absurd (fine h.offset h.fault h.first)
  phrase_first list p k fine only no_unit here deep (inr (inl h)) = by h.first
    where
      same : list ≡ h.list
      same = only h.list h.tokens

      by : PhraseFaultAt h.list h.offset → Same p k bytes place kind
      by (inl n) = let e = here h.offset (subst (λ (ts : List Spanned). NotHereAt ts h.offset) (sym same) n.1) in
          (places bytes p h.offset place e.0 h.place_is, e.1 ∙ sym n.0)
      by (inr n) = let e = deep h.offset (subst (λ (ts : List Spanned). TooDeepAt ts h.offset) (sym same) n.1) in
          (places bytes p h.offset place e.0 h.place_is, e.1 ∙ sym n.0)
  phrase_first list p k fine only no_unit here deep (inr (inr h)) =
      absurd (no_unit h.unit (subst (λ (ts : List Spanned). IsUnit (seen ts) h.unit) (sym (only h.spells.list h.spells.tokens)) h.spells.phrases))

  -- what is left is a fault of the types
  type_first : (list : List Spanned) (u : AUnit) (ends : List ℕ) (R : Type 0) → ((q : ℕ) (j : TokenKind) → FirstFault 0 bytes q j → ⊥) →
      ((ts : List Spanned) → Tokens 0 bytes ts → list ≡ ts) → ((v : AUnit) → IsUnit (seen list) v → u ≡ v) → ends ≡ body_ends list →
      ((q : ℕ) → NotHereAt list q → ⊥) → ((q : ℕ) → TooDeepAt list q → ⊥) →
      ((q : ℕ) (j : TypeKind) → TextFault u.externals ends u.end (record { place = q; kind = j }) → place ≡ place_at bytes q → kind ≡ kinds.Types j → R) →
      IsFaultAt bytes place kind → R
  type_first list u ends R fine only unit bodies here deep types (inl h) = absurd (fine h.offset h.fault h.first)
  type_first list u ends R fine only unit bodies here deep types (inr (inl h)) = by h.first
    where
      same : list ≡ h.list
      same = only h.list h.tokens

      by : PhraseFaultAt h.list h.offset → R
      by (inl n) = absurd (here h.offset (subst (λ (ts : List Spanned). NotHereAt ts h.offset) (sym same) n.1))
      by (inr n) = absurd (deep h.offset (subst (λ (ts : List Spanned). TooDeepAt ts h.offset) (sym same) n.1))
  type_first list u ends R fine only unit bodies here deep types (inr (inr h)) =
      let is : IsUnit (seen list) h.unit =
      subst (λ (ts : List Spanned). IsUnit (seen ts) h.unit) (sym (only h.spells.list h.spells.tokens)) h.spells.phrases in
      let same : h.ends ≡ ends = h.spells.bodies ∙ (ap body_ends (sym (only h.spells.list h.spells.tokens)) ∙ sym bodies) in
      types h.offset h.fault
      (subst (λ (v : AUnit). TextFault v.externals ends v.end (record { place = h.offset; kind = h.fault })) (sym (unit h.unit is))
      (subst (λ (es : List ℕ). TextFault h.unit.externals es h.unit.end (record { place = h.offset; kind = h.fault })) same h.first))
      h.place_is h.kind_is

-- by the answers of the three steps, where `ts` are the tokens that were found
module _ (bytes : List ℕ) (items ts : List Spanned) (same : ts ≡ items) (only : (xs : List Spanned) → Tokens 0 bytes xs → items ≡ xs)
    (fine : (q : ℕ) (j : TokenKind) → FirstFault 0 bytes q j → ⊥) (ended : IsEnded ts) where
  only_these : (xs : List Spanned) → Tokens 0 bytes xs → ts ≡ xs
  only_these xs t = same ∙ only xs t

  here_refused : (q p : ℕ) → syntax.NotHere q ≡ syntax.NotHere p → q ≡ p
  here_refused q p e = cc

  deep_refused : (q p : ℕ) → syntax.TooDeep q ≡ syntax.TooDeep p → q ≡ p
  deep_refused q p e = cc

  not_both : {A : Type 0} (q p : ℕ) → syntax.NotHere q ≡ syntax.TooDeep p → A
  not_both q p e = absurd (cc)

  pub not_here_first : (f : SyntaxFault) (p : ℕ) (at : Place) → f ≡ syntax.NotHere p → at ≡ place_at bytes p →
      ((u : AUnit) → IsUnit (seen ts) u → IsThat (Err f) u) →
      (IsEnded ts → (g : SyntaxFault) → HasFault ts g → parsed.IsOnlyFault (Err f) g) →
      (place : Place) (kind : SourceKind) → IsFaultAt bytes place kind → (at ≡ place) × (kinds.NotHere ≡ kind)
  not_here_first f p at e is unit first place kind h =
      let answered = subst (λ (z : SyntaxFault). (IsEnded ts → (g : SyntaxFault) → HasFault ts g → parsed.IsOnlyFault (Err z) g)) e first in
      let none = subst (λ (z : SyntaxFault). ((u : AUnit) → IsUnit (seen ts) u → IsThat (Err z) u)) e unit in
      let r = phrase_first bytes place kind ts p kinds.NotHere fine only_these none
      (λ o n. (here_refused p o (answered ended (syntax.NotHere o) n), refl))
      (λ o n. not_both p o (answered ended (syntax.TooDeep o) n)) h in
      (is ∙ r.0, r.1)

  pub too_deep_first : (f : SyntaxFault) (p : ℕ) (at : Place) → f ≡ syntax.TooDeep p → at ≡ place_at bytes p →
      ((u : AUnit) → IsUnit (seen ts) u → IsThat (Err f) u) →
      (IsEnded ts → (g : SyntaxFault) → HasFault ts g → parsed.IsOnlyFault (Err f) g) →
      (place : Place) (kind : SourceKind) → IsFaultAt bytes place kind → (at ≡ place) × (kinds.TooDeep ≡ kind)
  too_deep_first f p at e is unit first place kind h =
      let answered = subst (λ (z : SyntaxFault). (IsEnded ts → (g : SyntaxFault) → HasFault ts g → parsed.IsOnlyFault (Err z) g)) e first in
      let none = subst (λ (z : SyntaxFault). ((u : AUnit) → IsUnit (seen ts) u → IsThat (Err z) u)) e unit in
      let r = phrase_first bytes place kind ts p kinds.TooDeep fine only_these none
      (λ o n. not_both o p (sym (answered ended (syntax.NotHere o) n)))
      (λ o n. (deep_refused p o (answered ended (syntax.TooDeep o) n), refl)) h in
      (is ∙ r.0, r.1)

  module _ (ast : Ast) (unit : (u : AUnit) → IsUnit (seen ts) u → unit_of ast ≡ u) (bodies : ast.body_ends ≡ body_ends ts)
      (first : IsEnded ts → (g : SyntaxFault) → HasFault ts g → ⊥) where
    pub types_first : (e : TypeFault) (p : ℕ) (k : TypeKind) (at : Place) → e ≡ type_fault.At p k → at ≡ place_at bytes p →
        ((f : Fault) → TextFault (unit_of ast).externals ast.body_ends (unit_of ast).end f → OnlyFault {X = Unit {0}} (Err e) f) →
        (place : Place) (kind : SourceKind) → IsFaultAt bytes place kind → (at ≡ place) × (kinds.Types k ≡ kind)
    types_first e p k at fault is types place kind h =
        type_first bytes place kind ts (unit_of ast) ast.body_ends ((at ≡ place) × (kinds.Types k ≡ kind)) fine only_these unit bodies
        (λ o n. first ended (syntax.NotHere o) n) (λ o n. first ended (syntax.TooDeep o) n)
        (λ q j refused here there.
        let one : record { place = q; kind = j } ≡ record { place = p; kind = k } =
        subst (λ (z : TypeFault). OnlyFault {X = Unit {0}} (Err z) (record { place = q; kind = j })) fault (types (record { place = q; kind = j }) refused) in
        let offset : p ≡ q = ap (λ (f : Fault). f.place) (sym one) in
        let same_kind : k ≡ j = ap (λ (f : Fault). f.kind) (sym one) in
        (is ∙ (ap (place_at bytes) offset ∙ sym here), ap kinds.Types same_kind ∙ sym there)) h

    pub no_fault : ((f : Fault) → TextFault (unit_of ast).externals ast.body_ends (unit_of ast).end f → ⊥) → (place : Place) (kind : SourceKind) →
        IsFaultAt bytes place kind → ⊥
    no_fault types place kind h =
        type_first bytes place kind ts (unit_of ast) ast.body_ends ⊥ fine only_these unit bodies
        (λ o n. first ended (syntax.NotHere o) n) (λ o n. first ended (syntax.TooDeep o) n)
        (λ q j refused here there. types (record { place = q; kind = j }) refused) h
