-- A stack is parted at a rule's symbols.
use Rattle.std.proofs.Common.{◌≡◌, ℕ, suc, List, [], ◌∷◌, ◌++◌, length, refl, sym, ap, ◌∙◌, subst, arith, take, drop}
use Rattle.std.specs.Prelude.{reverse}
use Rattle.std.proofs.lemmas.List.{reverse-reverse, length-reverse}
use Rattle.std.proofs.lemmas.Grind.{reverse_onto}
use Rattle.std.proofs.Math.Seq.{take-append_seam, drop-append_seam}
use Rattle.tree_core.specs.declared.program.TreeProgram.{TreeProgram}
use Rattle.tree_meaning.specs.State.{State, Extent}
use Rattle.tree_meaning.specs.Values.{Sight}
use Rattle.md_reader.specs.declared.types.Sym.{Sym}
use Rattle.md_reader.specs.State.{Content}
use Rattle.sel_target.specs.Meaning.{Meaning}
use Rattle.sel_terms_trees.specs.Senses.{Sense, piled}
use Rattle.sel_parse_selected.specs.Entries.{Entry}
use Rattle.sel_parse_stands.specs.Stands.{Holds}

assoc : {X : Type 0} (a b c : List X) → a ++ (b ++ c) ≡ (a ++ b) ++ c
assoc [] b c = refl
assoc (x ∷ a) b c = ap (λ l. x ∷ l) (assoc a b c)

piled_is : {X : Type 0} (ys below : List X) → piled ys below ≡ reverse ys ++ below
piled_is [] below = refl
piled_is (y ∷ ys) below = piled_is ys (y ∷ below) ∙ assoc (reverse ys) (y ∷ []) below ∙ ap (λ l. l ++ below) (sym (reverse_onto ys y []))

pub taken_off : {X : Type 0} (n : ℕ) (ys below : List X) → length ys ≡ n → reverse (take n (piled ys below)) ≡ ys
taken_off n ys below e =
    ap (λ k. reverse (take k (piled ys below))) (sym (length-reverse ys ∙ e)) ∙ ap (λ l. reverse (take (length (reverse ys)) l)) (piled_is ys below)
    ∙ ap reverse (take-append_seam (reverse ys) below) ∙ reverse-reverse ys

pub left_below : {X : Type 0} (n : ℕ) (ys below : List X) → length ys ≡ n → drop n (piled ys below) ≡ below
left_below n ys below e =
    ap (λ k. drop k (piled ys below)) (sym (length-reverse ys ∙ e)) ∙ ap (λ l. drop (length (reverse ys)) l) (piled_is ys below) ∙ drop-append_seam (reverse ys) below

module _ {O I S F : Type 0} (of : Meaning O I S F) (q : TreeProgram) (d : Content) (first : ℕ) (f : Extent) (fs : List Extent) (t : State) (s : Sight) (m0 m : S) where
  record Parts (es : List (Entry O)) (right a : List Sym) (vs us : List Sense) : Type 0 where
    symbols : List (Entry O)
    below : List (Entry O)
    whole : es ≡ piled symbols below
    size : length symbols ≡ length right
    tops : Holds of q d first f fs t s m0 m symbols right vs
    rest : Holds of q d first f fs t s m0 m below a us

  parts : (right a : List Sym) (vs us : List Sense) (es : List (Entry O)) → length vs ≡ length right → Holds of q d first f fs t s m0 m es (piled right a) (piled vs us) → Parts es right a vs us
  parts [] a [] us es e h = record { symbols = []; below = es; whole = refl; size = refl; tops = tt; rest = h }
  parts [] a (v ∷ vs) us es e h = absurd (let g : length (v ∷ vs) ≡ 0 = e in omega (arith, g))
  parts (x ∷ xs) a [] us es e h = absurd (let g : 0 ≡ length (x ∷ xs) = e in omega (arith, g))
  parts (x ∷ xs) a (v ∷ vs) us es e h =
      (let r = parts xs (x ∷ a) vs (v ∷ us) es (let g : length (v ∷ vs) ≡ length (x ∷ xs) = e in omega (arith, g)) h in by r.below r.rest r.symbols r.whole r.size r.tops) where
        by : (bs : List (Entry O)) → Holds of q d first f fs t s m0 m bs (x ∷ a) (v ∷ us) → (ss : List (Entry O)) → es ≡ piled ss bs → length ss ≡ length xs
            → Holds of q d first f fs t s m0 m ss xs vs → Parts es (x ∷ xs) a (v ∷ vs) us
        by [] rest ss whole size tops = absurd rest
        by (b ∷ bs) rest ss whole size tops = record { symbols = b ∷ ss; below = bs; whole = whole; size = ap suc size; tops = (rest.0, tops); rest = rest.1 }

  -- the symbols of a rule, and those below
  pub record Parted (es : List (Entry O)) (right a : List Sym) (vs us : List Sense) : Type 0 where
    pub tops : Holds of q d first f fs t s m0 m (reverse (take (length right) es)) right vs
    pub rest : Holds of q d first f fs t s m0 m (drop (length right) es) a us

  pub parted_at : (right a : List Sym) (vs us : List Sense) (es : List (Entry O)) → length vs ≡ length right → Holds of q d first f fs t s m0 m es (piled right a) (piled vs us)
      → Parted es right a vs us
  parted_at right a vs us es e h =
      let r = parts right a vs us es e h in
      record {
        tops = subst (λ l. Holds of q d first f fs t s m0 m l right vs) (sym (ap (λ l. reverse (take (length right) l)) r.whole ∙ taken_off (length right) r.symbols r.below r.size)) r.tops;
        rest = subst (λ l. Holds of q d first f fs t s m0 m l a us) (sym (ap (drop (length right)) r.whole ∙ left_below (length right) r.symbols r.below r.size)) r.rest;
      }
