-- What code leaves that writes no spot that an entry touches.
use Rattle.std.proofs.Common.{◌≡◌, ℕ, ◌<◌, ◌==◌, List, [], ◌∷◌, ◌++◌, Option, Bool, true, false, refl, ap, ◌∙◌, arith}
use Rattle.std.specs.List.{AllByRecursion as All}
use Rattle.std.specs.Int.{bit_at}
use Rattle.std.proofs.lemmas.Nat.Bits.{bit_at-zero}
use Rattle.std.proofs.lemmas.Bool.{eqb-true}
use Rattle.gg_base.specs.declared.size.Size.TheVariants.{Long}
use Rattle.gg_base.proofs.Facts.{first_false, second_false}
use Rattle.tree_core.specs.declared.program.TreeProgram.{TreeProgram}
use Rattle.tree_meaning.specs.State.{State, Extent}
use Rattle.tree_meaning.specs.Values.{Sight}
use Rattle.md_reader.specs.declared.types.Kind.{Kind}
use Rattle.md_reader.specs.declared.types.Sym.{Sym}
use Rattle.md_reader.specs.Patterns.{kind_at}
use Rattle.md_reader.specs.State.{Content}
use Rattle.sel_target.specs.declared.attr.Attr.{Attr}
use Rattle.sel_target.specs.Meaning.{Meaning, Spot, RegAt, WordAt, touches, is_word}
use Rattle.sel_target.specs.Courses.{Course}
use Rattle.sel_target.specs.Laws.{IsLawful}
use Rattle.sel_target.specs.Meaning.{IsFree}
use Rattle.sel_target.specs.Outcomes.{Keeps}
use Rattle.sel_target.specs.Instances.{attr_touches, Avoids}
use Rattle.sel_target.specs.Courses.{comes, followed}
use Rattle.sel_terms_trees.specs.Senses.{Sense}
use Rattle.sel_parse_selected.specs.Entries.{Entry, attrs}
use Rattle.sel_target.specs.Instances.{attr_touches}
use Rattle.sel_parse_selected.specs.Desk.{held}
use Rattle.sel_parse_stands.specs.Stands as stands
use Rattle.sel_parse_stands.specs.Stands.{ClassIs, SymbolIs, Sees, IsFrame, Holds}
use Rattle.sel_parse_stands.proofs.Carrying.{Untouched, AllUntouched, place_kept}

module _ {O I S F : Type 0} (of : Meaning O I S F) (law : IsLawful of) (q : TreeProgram) (d : Content) (first : ℕ) (f : Extent) (fs : List Extent) (t : State) (s : Sight) (m0 : S) where
  pub class_kept : (spots : List Spot) (m m' : S) (k : Option Kind) (a : Attr O) (v : Sense) → Keeps of spots m m' → Untouched of q d f t spots a → ClassIs of q d first f fs t s m0 m k a v
      → ClassIs of q d first f fs t s m0 m' k a v
  class_kept spots m m' k a v keeps free (stands.register r x lt is) = stands.register r x lt (keeps.reads (of.register r) Long x free is)
  class_kept spots m m' k a v keeps free (stands.in_slot w x le lt is) = stands.in_slot w x le lt (keeps.reads (of.slot w) Long x free is)
  class_kept spots m m' k a v keeps free (stands.value z o x fits is) = stands.value z o x fits (keeps.reads o z x free is)
  class_kept spots m m' k a v keeps free (stands.place z o g fits is) = stands.place z o g fits (place_kept of q d f t spots m m' z o g keeps free is)
  class_kept spots m m' k a v keeps free (stands.number x lt) = stands.number x lt
  class_kept spots m m' k a v keeps free (stands.address o x fits is) = stands.address o x fits (keeps.names o Long x free is)

  pub symbol_kept : (spots : List Spot) (m m' : S) (x : Sym) (k : Option Kind) (a : Attr O) (v : Sense) → Keeps of spots m m' → Untouched of q d f t spots a
      → SymbolIs of q d first f fs t s m0 m x k a v → SymbolIs of q d first f fs t s m0 m' x k a v
  symbol_kept spots m m' x k a v keeps free (stands.token l fit named) = stands.token l fit named
  symbol_kept spots m m' x k a v keeps free (stands.class c a' v' is) = stands.class c a v (class_kept spots m m' (kind_at d.classes c) a v keeps free is)

  pub holds_kept : (spots : List Spot) (m m' : S) (es : List (Entry O)) (a : List Sym) (us : List Sense) → Keeps of spots m m' → AllUntouched of q d f t spots es
      → Holds of q d first f fs t s m0 m es a us → Holds of q d first f fs t s m0 m' es a us
  holds_kept spots m m' [] [] [] keeps free h = tt
  holds_kept spots m m' [] [] (v ∷ vs) keeps free h = absurd h
  holds_kept spots m m' [] (x ∷ xs) vs keeps free h = absurd h
  holds_kept spots m m' (e ∷ es) [] [] keeps free h = absurd h
  holds_kept spots m m' (e ∷ es) [] (v ∷ vs) keeps free h = absurd h
  holds_kept spots m m' (e ∷ es) (x ∷ xs) [] keeps free h = absurd h
  holds_kept spots m m' (e ∷ es) (x ∷ xs) (v ∷ vs) keeps free h = (symbol_kept spots m m' x e.kind e.attr v keeps free.0 h.0, holds_kept spots m m' es xs vs keeps free.1 h.1)

  -- nothing touches no spot
  pub none_touched : (es : List (Entry O)) → AllUntouched of q d f t [] es
  none_touched [] = tt
  none_touched (e ∷ es) = (tt, none_touched es)

  -- what no entry holds
  pub not_held : (x : Spot) (es : List (Entry O)) → held of es x ≡ false → AllUntouched of q d f t (x ∷ []) es
  not_held x [] e = tt
  not_held x (y ∷ ys) e = ((first_false (attr_touches of y.attr x) (held of ys x) e, tt), not_held x ys (second_false (attr_touches of y.attr x) (held of ys x) e))

  pub avoided : (x : Spot) (es : List (Entry O)) → AllUntouched of q d f t (x ∷ []) es → Avoids of x (attrs es)
  avoided x [] h = tt
  avoided x (e ∷ es) h = (h.0.0, avoided x es h.1)

  bit_none : (n r : ℕ) → n ≡ 0 → (bit_at n r == 1) ≡ false
  bit_none n r e = ap (λ k. bit_at k r == 1) e ∙ ap (λ b. b == 1) (bit_at-zero r)

  module _ (frame : IsFrame of q d first f fs t s m0) where
    -- a local is touched by no spot that is free
    local_untouched : (k : ℕ) (x : Spot) → k < f.locals → IsFree f x → touches of (of.local k) x ≡ false
    local_untouched k (RegAt r) lt free = bit_none (of.registers (of.local k)) r (law.spells.local_bits k low)
      where
        low : k < 1024
        low = (let a = frame.within in let b = frame.few in omega (arith, a, b, lt))
    local_untouched k (WordAt w) lt free =
        let a = frame.within in
        let b = frame.few in
        ap (λ o. is_word o w) (law.spells.local_word k (omega (arith, lt))) ∙ by (k == w) refl
      where
        by : (b : Bool) → (k == w) ≡ b → (k == w) ≡ false
        by true e = absurd (let h = eqb-true k w e in let le = free.0 in omega (arith, h, lt, le))
        by false e = e

    all_untouched : (k : ℕ) (spots : List Spot) → k < f.locals → All (IsFree f) spots → All (λ x. touches of (of.local k) x ≡ false) spots
    all_untouched k [] lt free = tt
    all_untouched k (x ∷ xs) lt free = (local_untouched k x lt free.0, all_untouched k xs lt free.1)

    pub sees_kept : (spots : List Spot) (m m' : S) → Keeps of spots m m' → All (IsFree f) spots → Sees of q d first f fs t s m0 m → Sees of q d first f fs t s m0 m'
    sees_kept spots m m' keeps free sees = record {
      agrees = keeps.agrees q f fs t free sees.agrees;
      room = keeps.room sees.room;
      locals = λ k n e. keeps.reads (of.local k) Long n (all_untouched k spots (frame.bounded k n e) free) (sees.locals k n e);
    }

  -- more code behind code that comes to a state
  pub comes_on : (p r : List I) (m m' : S) → of.run p m0 ≡ comes m → of.run r m ≡ comes m' → of.run (p ++ r) m0 ≡ comes m'
  comes_on p r m m' e g = law.runs.run_on p r m0 ∙ ap (λ c. followed c r (of.run r)) e ∙ ap (λ (c : Course I S). record { written = c.written; ending = c.ending }) g
