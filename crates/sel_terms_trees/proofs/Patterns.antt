-- A pattern whose symbols stand for parts of a tree is worth the tree.
use Rattle.std.proofs.Common.{◌≡◌, ℕ, ◌+◌, List, [], ◌∷◌, ◌++◌, length, Option, Some, None, true, refl, sym, ap, ◌∙◌, subst, arith, length-append, append_assoc, add-one}
use Rattle.std.specs.Prelude.{slice_index_or}
use Rattle.std.specs.Option.{option_map}
use Rattle.gg_base.specs.declared.size.Size.{Size}
use Rattle.gg_base.specs.declared.size.Size.TheVariants as sizes
use Rattle.tree_core.specs.declared.token.Sort.{Sort}
use Rattle.tree_core.specs.declared.token.Sort.TheVariants as sort
use Rattle.tree_core.specs.declared.program.Object.{Object}
use Rattle.tree_core.specs.Grammar.{kids, sort_of, fits}
use Rattle.tree_core.specs.Trees.{Forest, tree, sort_fits}
use Rattle.tree_meaning.specs.declared.value.Meaning.{Meaning}
use Rattle.tree_meaning.specs.declared.value.Meaning.TheVariants.{Of, Local, Argument, Memory}
use Rattle.tree_meaning.specs.Values.{Sight, read, meanings}
use Rattle.sel_terms_meaning.specs.md_reader.specs.declared.types.Kind.{Kind}
use Rattle.sel_terms_meaning.specs.md_reader.specs.declared.types.Kind.TheVariants as kind
use Rattle.sel_terms_meaning.specs.md_reader.specs.declared.types.Class.{Class}
use Rattle.sel_terms_meaning.specs.md_reader.specs.declared.types.Sym.{Sym}
use Rattle.sel_terms_meaning.specs.md_reader.specs.declared.types.Sym.TheVariants as grammar_symbol
use Rattle.sel_terms_meaning.specs.md_reader.specs.Patterns.{sort_of_kind, kind_at, Trees, no_tree, onto, sorted_test}
use Rattle.term_core.specs.Shape.{Symbol}
use Rattle.term_core.specs.Value.{State}
use Rattle.sel_terms_meaning.specs.sel_terms.specs.Parts.{SubtreeShape, Worth, Home, role_of_kind, leaf_part}
use Rattle.sel_terms_meaning.specs.sel_terms.specs.Reading.{below, stack_from}
use Rattle.sel_terms_trees.specs.Senses.{Sense, OfLeaf, OfPlace, IsPlace, IsNumber, IsSense, sense_at, means, Sensed, StandsFor}
use Rattle.tree_meaning_tame.specs.Tame.{tree_means}
use Rattle.sel_terms_trees.specs.Senses as sense
use Rattle.tree_meaning_tame.specs.Tame.{IsTame, Tame}
use Rattle.sel_terms_trees.proofs.Tokens.{IsOf, IsAtSome, StandsAt, Each, each_on, token_law, tame_own, fitting, fitting_own}

-- the symbols from number i on stand for these
abbrev pub Numbered : List Sense → ℕ → List Sense → Type 0
Numbered all i [] = Unit {0}
Numbered all i (v ∷ vs) = (sense_at all i ≡ v) × Numbered all (i + 1) vs

numbered_first : (all : List Sense) (i : ℕ) (us vs : List Sense) → Numbered all i (us ++ vs) → Numbered all i us
numbered_first all i [] vs h = tt
numbered_first all i (u ∷ us) vs h = (h.0, numbered_first all (i + 1) us vs h.1)

numbered_last : (all : List Sense) (i : ℕ) (us vs : List Sense) → Numbered all i (us ++ vs) → Numbered all (i + length us) vs
numbered_last all i [] vs h = let e : i ≡ i + 0 = omega arith in subst (λ (n : ℕ). Numbered all n vs) e h
numbered_last all i (u ∷ us) vs h = let e : i + 1 + length us ≡ i + length (u ∷ us) = omega arith in subst (λ (n : ℕ). Numbered all n vs) e (numbered_last all (i + 1) us vs h.1)

seam : (pre : List Sense) (u : Sense) (us : List Sense) → slice_index_or (pre ++ u ∷ us) (length pre) sense.unknown ≡ u
seam [] u us = refl
seam (p ∷ pre) u us = seam pre u us

numbered_behind : (pre us : List Sense) → Numbered (pre ++ us) (length pre + 1) us
numbered_behind pre [] = tt
numbered_behind pre (u ∷ us) =
    let f : length (pre ++ u ∷ []) + 1 ≡ length pre + 1 + 1 = omega (arith, length-append pre (u ∷ [])) in (
      ap (sense_at (pre ++ u ∷ us)) (add-one (length pre)) ∙ seam pre u us,
      subst (λ (n : ℕ). Numbered (pre ++ u ∷ us) n us) f
          (subst (λ (t : List Sense). Numbered t (length (pre ++ u ∷ []) + 1) us) (append_assoc pre (u ∷ []) us) (numbered_behind (pre ++ u ∷ []) us)),
    )

-- the symbols of a pattern, from the first on
pub numbered : (us : List Sense) → Numbered us 1 us
numbered us = numbered_behind [] us

module _ (objects : List Object) (s : Sight) (all : List Sense) (m : State) (stands : StandsFor objects s all m) where
  -- a class stands for its tree where the tree stands
  number_law : (i : ℕ) (g : Meaning) (v : Sense) → IsNumber objects s g v → sense_at all i ≡ v → IsOf objects s all m (record { part = Worth (Symbol i); divisors = [] }) (read s g)
  number_law i g v h e = subst (IsOf objects s all m (record { part = Worth (Symbol i); divisors = [] })) (sym h.reads)
      (record {
        divides = refl;
        worth = stands.symbols i h.number (ap (λ (x : Sense). read s (means objects s x)) (e ∙ h.is));
        safe =
            (h.number, ap (λ (x : Sense). read s (means objects s x)) (e ∙ h.is));
        divisors = tt;
      })

  place_law : (i : ℕ) (z : Size) (g : Meaning) (v : Sense) → v ≡ OfPlace g → IsPlace z g → sense_at all i ≡ v → IsAtSome objects s all m z (record { part = Home z i; divisors = [] }) (Some g)
  place_law i z (Of w) v e h is = absurd h
  place_law i z (Local k) v e h is = (record { divides = refl; place = (ap (means objects s) (is ∙ e), h); divisors = tt }, h)
  place_law i z (Argument k) v e h is = (record { divides = refl; place = (ap (means objects s) (is ∙ e), h); divisors = tt }, h)
  place_law i z (Memory y a) v e h is = (record { divides = refl; place = (ap (means objects s) (is ∙ e), h); divisors = tt }, h)

  own_class : (k : Option Kind) (i : ℕ) (g : Meaning) (v : Sense) → IsSense objects s k g v → sense_at all i ≡ v → (y : Sort) → option_map sort_of_kind k ≡ Some y
      → StandsAt objects s all m y (record { part = leaf_part i (role_of_kind k); divisors = [] }) (Some g)
  own_class None i g v h is y e = absurd h
  own_class (Some kind.Nothing) i g v h is y e = absurd h
  own_class (Some kind.Reg) i g v h is y e =
      subst (λ (x : Sort). StandsAt objects s all m x (record { part = Worth (Symbol i); divisors = [] }) (Some g)) (let f : sort.Long ≡ y = cc in f) (number_law i g v h is)
  own_class (Some kind.Con) i g v h is y e =
      subst (λ (x : Sort). StandsAt objects s all m x (record { part = Worth (Symbol i); divisors = [] }) (Some g)) (let f : sort.Long ≡ y = cc in f) (number_law i g v h is)
  own_class (Some kind.Ea) i g v h is y e =
      subst (λ (x : Sort). StandsAt objects s all m x (record { part = Worth (Symbol i); divisors = [] }) (Some g)) (let f : sort.Long ≡ y = cc in f) (number_law i g v h is)
  own_class (Some (kind.Value sizes.Byte)) i g v h is y e =
      subst (λ (x : Sort). StandsAt objects s all m x (record { part = Worth (Symbol i); divisors = [] }) (Some g)) (let f : sort.Byte ≡ y = cc in f) (number_law i g v h is)
  own_class (Some (kind.Value sizes.Word)) i g v h is y e =
      subst (λ (x : Sort). StandsAt objects s all m x (record { part = Worth (Symbol i); divisors = [] }) (Some g)) (let f : sort.Word ≡ y = cc in f) (number_law i g v h is)
  own_class (Some (kind.Value sizes.Long)) i g v h is y e =
      subst (λ (x : Sort). StandsAt objects s all m x (record { part = Worth (Symbol i); divisors = [] }) (Some g)) (let f : sort.Long ≡ y = cc in f) (number_law i g v h is)
  own_class (Some (kind.Place sizes.Byte)) i g v h is y e =
      subst (λ (x : Sort). StandsAt objects s all m x (record { part = Home sizes.Byte i; divisors = [] }) (Some g)) (let f : sort.PlaceB ≡ y = cc in f) (place_law i sizes.Byte g v h.0 h.1 is)
  own_class (Some (kind.Place sizes.Word)) i g v h is y e =
      subst (λ (x : Sort). StandsAt objects s all m x (record { part = Home sizes.Word i; divisors = [] }) (Some g)) (let f : sort.PlaceW ≡ y = cc in f) (place_law i sizes.Word g v h.0 h.1 is)
  own_class (Some (kind.Place sizes.Long)) i g v h is y e =
      subst (λ (x : Sort). StandsAt objects s all m x (record { part = Home sizes.Long i; divisors = [] }) (Some g)) (let f : sort.PlaceL ≡ y = cc in f) (place_law i sizes.Long g v h.0 h.1 is)

  class_law : (k : Option Kind) (x : Sort) (i : ℕ) (g : Meaning) (v : Sense) → IsSense objects s k g v → sense_at all i ≡ v → sort_fits (option_map sort_of_kind k) x ≡ true → IsTame objects s x g
      → StandsAt objects s all m x (record { part = leaf_part i (role_of_kind k); divisors = [] }) (Some g)
  class_law k x i g v h is e tame = by (option_map sort_of_kind k) refl e
    where
      by : (o : Option Sort) → option_map sort_of_kind k ≡ o → sort_fits o x ≡ true → StandsAt objects s all m x (record { part = leaf_part i (role_of_kind k); divisors = [] }) (Some g)
      by None f e = absurd (cc)
      by (Some y) f e = fitting objects s all m stands y x (record { part = leaf_part i (role_of_kind k); divisors = [] }) g e (own_class k i g v h is y f) tame

  pub pattern_law : (classes : List Class) {xs : List Sort} {pattern : Trees (sorted_test classes) xs} {f : Forest} {us : List Sense} → Sensed objects s classes xs pattern f us →
      (i : ℕ) (w : List Sym) → Numbered all i us → Tame objects s xs f →
      Each objects s all m xs (stack_from classes i (onto pattern w)) (meanings objects s f) 0 (stack_from classes (i + length us) w)
  pattern_law classes sense.nothing i w n tame = (let e : i ≡ i + 0 = omega arith in ap (λ (k : ℕ). stack_from classes k w) e)
  pattern_law classes (sense.token {x = x} {xs = xs} {f = f} {g = g} {us = us} {vs = vs} l passes below beside fits p q) i w n tame =
      let high : Each objects s all m (kids l.tok) (stack_from classes (i + 1) (onto below (onto beside w))) (meanings objects s f) 0
      (stack_from classes (i + 1 + length us) (onto beside w)) = pattern_law classes p (i + 1) (onto beside w) (numbered_first all (i + 1) us vs n.1) tame.1 in
      let low = pattern_law classes q (i + 1 + length us) w (numbered_last all (i + 1) us vs n.1) tame.2 in
      joined high low
    where
      st : List SubtreeShape
      st = stack_from classes (i + 1) (onto below (onto beside w))

      rest : List SubtreeShape
      rest = stack_from classes (i + 1 + length us) (onto beside w)

      last : i + 1 + length us + length vs ≡ i + length (OfLeaf l ∷ (us ++ vs))
      last = omega (arith, length-append us vs)

      joined : Each objects s all m (kids l.tok) (stack_from classes (i + 1) (onto below (onto beside w))) (meanings objects s f) 0 (stack_from classes (i + 1 + length us) (onto beside w)) →
          Each objects s all m xs (stack_from classes (i + 1 + length us) (onto beside w)) (meanings objects s g) 0 (stack_from classes (i + 1 + length us + length vs) w) →
          Each objects s all m (x ∷ xs) (stack_from classes i (grammar_symbol.Tok l.tok ∷ onto below (onto beside w))) (meanings objects s (tree l f g)) 0
          (stack_from classes (i + length (OfLeaf l ∷ (us ++ vs))) w)
      joined high low =
          let own = token_law objects s all m stands l.tok l.att i (stack_from classes (i + 1) (onto below (onto beside w))) (stack_from classes (i + 1 + length us) (onto beside w))
          (meanings objects s f) fits n.0 high
          (tame_own objects s all m stands (sort_of l.tok) x (tree_means objects s l f) passes tame.0) in (
            fitting_own objects s all m stands (sort_of l.tok) x _ (tree_means objects s l f) passes own.0 tame.0,
            each_on objects s all m xs _ (tree_means objects s l f) (meanings objects s g) 0 _
                (subst (λ (t : List SubtreeShape). Each objects s all m xs t (meanings objects s g) 0 (stack_from classes (i + length (OfLeaf l ∷ (us ++ vs))) w)) (sym own.1)
                (subst (λ (k : ℕ). Each objects s all m xs (stack_from classes (i + 1 + length us) (onto beside w)) (meanings objects s g) 0 (stack_from classes k w)) last low)),
          )
  pattern_law classes (sense.class {x = x} {xs = xs} {f = f} {g = g} {vs = vs} {l = l} c v passes no_tree beside is q) i w n tame =
      let low = pattern_law classes q (i + 1) w n.1 tame.2 in
      joined low
    where
      last : i + 1 + length vs ≡ i + length (v ∷ vs)
      last = omega arith

      joined : Each objects s all m xs (stack_from classes (i + 1) (onto beside w)) (meanings objects s g) 0 (stack_from classes (i + 1 + length vs) w) →
          Each objects s all m (x ∷ xs) (stack_from classes i (grammar_symbol.Class c ∷ onto beside w)) (meanings objects s (tree l f g)) 0 (stack_from classes (i + length (v ∷ vs)) w)
      joined low = (
        class_law (kind_at classes c) x i (tree_means objects s l f) v is n.0 passes tame.0,
        each_on objects s all m xs _ (tree_means objects s l f) (meanings objects s g) 0 _
            (subst (λ (k : ℕ). Each objects s all m xs (stack_from classes (i + 1) (onto beside w)) (meanings objects s g) 0 (stack_from classes k w)) last low),
      )
