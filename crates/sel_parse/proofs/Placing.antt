-- A class comes on top in the place of a right side.
use Rattle.std.proofs.Common.{◌≡◌, ◌⊎◌, inl, inr, ℕ, ◌+◌, ◌-◌, ◌<◌, ◌≤◌, List, ◌∷◌, Bool, true, false, Contains, length, get_or, set, drop, replicate, sym, ap, ◌∙◌, subst, arith, length-set}
use Rattle.std.specs.Prelude.{nat_lt, if◌then◌else◌}
use Rattle.std.proofs.lemmas.Bool.{lt-ltb}
use Rattle.std.proofs.lemmas.List.{length-replicate}
use Rattle.gg_base.proofs.Facts.{true_or_false}
use Rattle.md_reader.specs.declared.types.Rule.{Rule}
use Rattle.md_reader.specs.declared.types.Sym.{Sym}
use Rattle.md_reader.specs.declared.types.Sym.TheVariants as grammar_symbol
use Rattle.lr_tables.specs.Grammar.{IsGrammar}
use Rattle.lr_check.proofs.Seen.{seen_unit, seen_long, none_marked}
use Rattle.lr_check.proofs.Falling.{mark_count}
use Rattle.sel_parse_desk.specs.lr_check_parse.specs.Moves.{Answering}
use Rattle.sel_parse_desk.specs.lr_check_parse.proofs.Bounds.{left, Marks, one_or_more, length-drop}
use Rattle.sel_parse_desk.specs.lr_check_parse.proofs.Existence.{unit_falls, long_falls}
use Rattle.sel_parse.specs.Steps.{seen_before}

more_than_one : (k : ℕ) → 2 ≤ k → nat_lt 1 k ≡ true
more_than_one k le = lt-ltb 1 k (omega (arith, le))

pub before_more : (seen : List Bool) (k : ℕ) → 2 ≤ k → seen_before seen k ≡ replicate (length seen) false
before_more seen k le = ap (λ (b : Bool). if b then replicate (length seen) false else seen) (more_than_one k le)

module _ {L X : Type 0} (of : Answering L X) (rules : List Rule) (stmt classes : ℕ) (g : IsGrammar rules stmt classes) (before : List (List Sym)) (a : List Sym)
    (seen : List Bool) (marks : Marks of rules stmt classes g before a seen) (n : ℕ) (declared : n < classes) where
  -- the same stack comes again exactly where the class is marked
  abbrev pub Again : ℕ → Type 0
  Again k = get_or (seen_before seen k) n false ≡ true → Contains (a ∷ before) (grammar_symbol.Class n ∷ drop k a)

  -- where it isn't, there is less left to do
  pub record Fresh (k : ℕ) : Type 0 where
    pub marked : Marks of rules stmt classes g (a ∷ before) (grammar_symbol.Class n ∷ drop k a) (set (seen_before seen k) n true)
    pub new : Contains (a ∷ before) (grammar_symbol.Class n ∷ drop k a) → ⊥
    pub falls : (w : ℕ) → left w (length (drop k a) + 1) (set (seen_before seen k) n true) + 1 ≤ left w (length a) seen

  within : n < length seen
  within = let s = marks.size in omega (arith, s, declared)

  again_unit : Again 1
  again_unit f = marks.seen_is.there n f

  fresh_unit : 1 ≤ length a → get_or seen n false ≡ false → Fresh 1
  fresh_unit some f =
      let next = set seen n true in
      let size : length next ≡ length seen = length-set seen n true in
      let d = length-drop 1 a some in
      record {
        marked = record { seen_is = seen_unit seen a (a ∷ before) n marks.seen_is (omega (arith, some)) within; size = size ∙ marks.size };
        new = λ h. true_or_false (get_or seen n false) (marks.seen_is.back n h) f;
        falls = λ w. subst (λ j. left w (length (drop 1 a) + 1) next + 1 ≤ left w j seen) d (unit_falls w (length (drop 1 a)) seen next size (mark_count seen n within f));
      }

  again_long : (k : ℕ) → 2 ≤ k → Again k
  again_long k two f = absurd (none_marked (length seen) n (ap (λ (m : List Bool). get_or m n false) (sym (before_more seen k two)) ∙ f))

  fresh_long : (k : ℕ) → 2 ≤ k → k ≤ length a → Fresh k
  fresh_long k two le =
      let next = set (replicate (length seen) false) n true in
      let is : set (seen_before seen k) n true ≡ next = ap (λ (m : List Bool). set m n true) (before_more seen k two) in
      let size : length next ≡ length seen = length-set (replicate (length seen) false) n true ∙ length-replicate (length seen) false in
      let d = length-drop k a le in
      let shorter : length (drop k a) + 1 < length a = omega (arith, d, two) in
      let whole : length (drop k a) + 2 + (k - 2) ≡ length a = omega (arith, d, two) in
      record {
        marked = record {
          seen_is = subst (λ (m : List Bool). Rattle.lr_check.proofs.Seen.Seen m (grammar_symbol.Class n ∷ drop k a) ((grammar_symbol.Class n ∷ drop k a) ∷ a ∷ before)) (sym is)
              (seen_long seen a (drop k a) (a ∷ before) n (length seen) marks.seen_is shorter within);
          size = ap (λ (m : List Bool). length m) is ∙ (size ∙ marks.size);
        };
        new = λ h. (let low = marks.seen_is.lower (grammar_symbol.Class n ∷ drop k a) h in omega (arith, low, shorter));
        falls = λ w. subst (λ (m : List Bool). left w (length (drop k a) + 1) m + 1 ≤ left w (length a) seen) (sym is)
            (subst (λ j. left w (length (drop k a) + 1) next + 1 ≤ left w j seen) whole (long_falls w (length (drop k a)) (k - 2) seen next size));
      }

  pub again : (k : ℕ) → 0 < k → Again k
  again k some = by (one_or_more k some)
    where
      by : (k ≡ 1) ⊎ (2 ≤ k) → Again k
      by (inl e) = subst Again (sym e) again_unit
      by (inr two) = again_long k two

  pub fresh : (k : ℕ) → 0 < k → k ≤ length a → get_or (seen_before seen k) n false ≡ false → Fresh k
  fresh k some le = by (one_or_more k some)
    where
      by : (k ≡ 1) ⊎ (2 ≤ k) → get_or (seen_before seen k) n false ≡ false → Fresh k
      by (inl e) = subst (λ j. get_or (seen_before seen j) n false ≡ false → Fresh j) (sym e) (fresh_unit (omega (arith, some, le)))
      by (inr two) = λ f. fresh_long k two le
