-- The equations of terms drop no access and make none.
use Rattle.std.proofs.Common.{◌≡◌, ◌↔◌, ℕ, ◌%◌, ◌<◌, ◌^◌, ◌==◌, List, Bool, true, false, refl, sym, ap, ◌∙◌, subst}
use Rattle.std.specs.Prelude.{◌&&◌, ◌||◌, not}
use Rattle.gg_base.specs.declared.size.Size.{Size}
use Rattle.term_core.specs.declared.facts.Fact.{Fact}
use Rattle.term_core.specs.Facts.{same_as}
use Rattle.term_core.specs.declared.operator.UnaryOp.TheVariants.{Neg}
use Rattle.term_core.specs.declared.operator.BinaryOp.{BinaryOp}
use Rattle.term_core.specs.declared.operator.BinaryOp.TheVariants.{Add, Sub, Mul, Div, And, Or, Xor, Ash}
use Rattle.term_core.specs.Shape.{Shape, Constant, Symbol, Memory, Unary, Binary}
use Rattle.term_core.specs.NormUnary.{unary_constant}
use Rattle.term_core.specs.NormBinary.{binary_constant}
use Rattle.term_core.specs.Norm.{norm}
use Rattle.term_core.specs.Value.{State, value, Respects}
use Rattle.term_core.specs.Equations.{Equation, is_commutative, is_quotient_by_zero, constant, constants, difference, exchanged, neg_twice, com_twice, add_zero, or_zero, xor_zero}
use Rattle.term_core.specs.Equations.{mul_one, and_ones, add_constants, zx8_of_zx8, zx8_of_sx8, zx16_of_zx16, zx16_of_sx16, sx8_of_sx8, sx8_of_zx8, sx16_of_sx16, sx16_of_zx16}
use Rattle.term_core.specs.Equations.{zx8_of_byte, zx8_of_memory, zx16_of_word, zx16_of_memory, shift_by_constant, shift_by_zx8, shift_by_sx8, count_of_count, spelled_alike}
use Rattle.term_core.specs.Equations.{Reaches, stays, by, chain, in_memory, in_unary, in_binary}
use Rattle.term_core.proofs.Values
use Rattle.gg_base.proofs.Words
use Rattle.term_core.proofs.Reaching.{norm_reached}
use Rattle.term_core.proofs.Values.{low_same}
use Rattle.term_core_accesses.specs.Accesses.{Access, is_division, divides_well, accesses, IsOneOf, Knows}
use Rattle.term_core_accesses.specs.Keeping.{IsNarrow, NormKeepsAccesses}
use Rattle.term_core_accesses.proofs.Accesses.{in_front, in_back, by_part, own}

and_true : (b : Bool) → (b && true) ≡ b
and_true true = refl
and_true false = refl

and_turned : (b c : Bool) → (b && (c && true)) ≡ (c && (b && true))
and_turned true true = refl
and_turned true false = refl
and_turned false true = refl
and_turned false false = refl

module _ (facts : List Fact) (every : Bool) (known : ℕ → Type 0) (m : State) (respects : Respects facts m) (alike : (i : ℕ) → known (same_as facts i) ↔ known i) where
  -- the second term makes the accesses of the first, and no others
  pub record Kept (s t : Shape) : Type 0 where
    pub narrow : IsNarrow t
    pub divides : divides_well m t ≡ divides_well m s
    pub there : (x : Access) → IsOneOf x (accesses every m s) → IsOneOf x (accesses every m t)
    pub back : (x : Access) → IsOneOf x (accesses every m t) → IsOneOf x (accesses every m s)
    pub knows : Knows known s → Knows known t
    pub knew : Knows known t → Knows known s

  -- an equation that leaves the accesses where they are
  same : (s t : Shape) → accesses every m s ≡ accesses every m t → IsNarrow t → divides_well m t ≡ divides_well m s → (Knows known s → Knows known t) → (Knows known t → Knows known s) → Kept s t
  same s t e n d f g = record { narrow = n; divides = d; there = λ x q. subst (IsOneOf x) e q; back = λ x q. subst (IsOneOf x) (sym e) q; knows = f; knew = g }

  folded : (op : BinaryOp) (b : ℕ) → b < 2 ^ 32 → is_quotient_by_zero op b ≡ false → true ≡ (true && (true && not (is_division op && (b % 2 ^ 32 == 0))))
  folded Div b h e = ap (λ (c : Bool). not c) (sym e ∙ ap (λ (n : ℕ). n == 0) (sym (low_same b h)))
  folded Add b h e = refl
  folded Sub b h e = refl
  folded Mul b h e = refl
  folded And b h e = refl
  folded Or b h e = refl
  folded Xor b h e = refl
  folded Ash b h e = refl

  turned : (op : BinaryOp) (a b : Shape) → is_commutative op ≡ true → divides_well m (Binary op b a) ≡ divides_well m (Binary op a b)
  turned Add a b e = and_turned (divides_well m b) (divides_well m a)
  turned Mul a b e = and_turned (divides_well m b) (divides_well m a)
  turned And a b e = and_turned (divides_well m b) (divides_well m a)
  turned Or a b e = and_turned (divides_well m b) (divides_well m a)
  turned Xor a b e = and_turned (divides_well m b) (divides_well m a)
  turned Sub a b e = cc
  turned Div a b e = cc
  turned Ash a b e = cc

  swapped : (a b : Shape) (x : Access) → IsOneOf x (accesses every m (Binary Add a b)) → IsOneOf x (accesses every m (Binary Add b a))
  swapped a b x q =
      by_part x (accesses every m a) (accesses every m b) (λ h. in_back x (accesses every m b) (accesses every m a) h) (λ h. in_front x (accesses every m b) (accesses every m a) h) q

  equation_kept : {s t : Shape} → Equation facts s t → IsNarrow s → Kept s t
  equation_kept (constant op n) h = same (Unary op (Constant n)) (unary_constant op n) refl (Values.small m (Unary op (Constant n))) refl (λ q. tt) (λ q. tt)
  equation_kept (constants op a b e) h =
      same (Binary op (Constant a) (Constant b)) (binary_constant op a b) refl
      (Values.small m (Binary op (Constant a) (Constant b))) (folded op b h.1 e) (λ q. tt) (λ q. (tt, tt))
  equation_kept (difference a b) h = same (Binary Sub a b) (Binary Add a (Unary Neg b)) refl h refl (λ q. q) (λ q. q)
  equation_kept (exchanged op a b c e) h = record { narrow = (h.1, h.0); divides = turned op a b c; there = swapped a b; back = swapped b a; knows = λ q. (q.1, q.0); knew = λ q. (q.1, q.0) }
  equation_kept (neg_twice t) h = same _ t refl h refl (λ q. q) (λ q. q)
  equation_kept (com_twice t) h = same _ t refl h refl (λ q. q) (λ q. q)
  equation_kept (add_zero t) h = same _ t refl h.1 (sym (and_true (divides_well m t))) (λ q. q.1) (λ q. (tt, q))
  equation_kept (or_zero t) h = same _ t refl h.1 (sym (and_true (divides_well m t))) (λ q. q.1) (λ q. (tt, q))
  equation_kept (xor_zero t) h = same _ t refl h.1 (sym (and_true (divides_well m t))) (λ q. q.1) (λ q. (tt, q))
  equation_kept (mul_one t) h = same _ t refl h.1 (sym (and_true (divides_well m t))) (λ q. q.1) (λ q. (tt, q))
  equation_kept (and_ones t) h = same _ t refl h.1 (sym (and_true (divides_well m t))) (λ q. q.1) (λ q. (tt, q))
  equation_kept (add_constants c d t) h =
      same _ (Binary Add (binary_constant Add c d) t) refl (Values.small m (Binary Add (Constant c) (Constant d)), h.1.1)
      (sym (and_true (divides_well m t && true))) (λ q. (tt, q.1.1)) (λ q. (tt, (tt, q.1)))
  equation_kept (zx8_of_zx8 t) h = same _ _ refl h refl (λ q. q) (λ q. q)
  equation_kept (zx8_of_sx8 t) h = same _ _ refl h refl (λ q. q) (λ q. q)
  equation_kept (zx16_of_zx16 t) h = same _ _ refl h refl (λ q. q) (λ q. q)
  equation_kept (zx16_of_sx16 t) h = same _ _ refl h refl (λ q. q) (λ q. q)
  equation_kept (sx8_of_sx8 t) h = same _ _ refl h refl (λ q. q) (λ q. q)
  equation_kept (sx8_of_zx8 t) h = same _ _ refl h refl (λ q. q) (λ q. q)
  equation_kept (sx16_of_sx16 t) h = same _ _ refl h refl (λ q. q) (λ q. q)
  equation_kept (sx16_of_zx16 t) h = same _ _ refl h refl (λ q. q) (λ q. q)
  equation_kept (zx8_of_byte i e) h = same _ (Symbol i) refl tt refl (λ q. q) (λ q. q)
  equation_kept (zx16_of_word i e) h = same _ (Symbol i) refl tt refl (λ q. q) (λ q. q)
  equation_kept (count_of_count i e) h = same _ (Symbol i) refl tt refl (λ q. q.1) (λ q. (tt, q))
  equation_kept (zx8_of_memory a) h = same _ _ refl h refl (λ q. q) (λ q. q)
  equation_kept (zx16_of_memory a) h = same _ _ refl h refl (λ q. q) (λ q. q)
  equation_kept (shift_by_constant k t lt) h = same _ (Binary Mul (Constant (2 ^ k)) t) refl (Words.power_small k lt, h.1) refl (λ q. q) (λ q. q)
  equation_kept (shift_by_zx8 c t) h = same _ (Binary Ash c t) refl h refl (λ q. q) (λ q. q)
  equation_kept (shift_by_sx8 c t) h = same _ (Binary Ash c t) refl h refl (λ q. q) (λ q. q)
  equation_kept (spelled_alike i) h = same (Symbol i) (Symbol (same_as facts i)) refl tt refl (λ q. (alike i).1 q) (λ q. (alike i).0 q)

  in_place : (z : Size) (a b : Shape) → value m a ≡ value m b → Kept a b → Kept (Memory z a) (Memory z b)
  in_place z a b e k =
      let own_same : own (every || divides_well m a) z (value m a) ≡ own (every || divides_well m b) z (value m b) =
      ap (λ (d : Bool). own (every || d) z (value m a)) (sym k.divides) ∙ ap (λ (n : ℕ). own (every || divides_well m b) z n) e in
      record {
        narrow = k.narrow;
        divides = k.divides;
        there = λ x q.
            by_part x (accesses every m a) (own (every || divides_well m a) z (value m a))
            (λ h. in_front x (accesses every m b) (own (every || divides_well m b) z (value m b)) (k.there x h))
            (λ h. in_back x (accesses every m b) (own (every || divides_well m b) z (value m b)) (subst (IsOneOf x) own_same h)) q;
        back = λ x q.
            by_part x (accesses every m b) (own (every || divides_well m b) z (value m b))
            (λ h. in_front x (accesses every m a) (own (every || divides_well m a) z (value m a)) (k.back x h))
            (λ h. in_back x (accesses every m a) (own (every || divides_well m a) z (value m a)) (subst (IsOneOf x) (sym own_same) h)) q;
        knows = k.knows;
        knew = k.knew;
      }

  in_two : (op : BinaryOp) (a b c d : Shape) → value m b ≡ value m d → Kept a c → Kept b d → Kept (Binary op a b) (Binary op c d)
  in_two op a b c d e k l = record {
    narrow = (k.narrow, l.narrow);
    divides = ap (λ (x : Bool). x && (divides_well m d && not (is_division op && (value m d == 0)))) k.divides
        ∙ ap (λ (x : Bool). divides_well m a && (x && not (is_division op && (value m d == 0)))) l.divides
        ∙ ap (λ (n : ℕ). divides_well m a && (divides_well m b && not (is_division op && (n == 0)))) (sym e);
    there = λ x q.
        by_part x (accesses every m a) (accesses every m b) (λ h. in_front x (accesses every m c) (accesses every m d) (k.there x h))
        (λ h. in_back x (accesses every m c) (accesses every m d) (l.there x h)) q;
    back = λ x q.
        by_part x (accesses every m c) (accesses every m d) (λ h. in_front x (accesses every m a) (accesses every m b) (k.back x h))
        (λ h. in_back x (accesses every m a) (accesses every m b) (l.back x h)) q;
    knows = λ q. (k.knows q.0, l.knows q.1);
    knew = λ q. (k.knew q.0, l.knew q.1);
  }

  then : {s t u : Shape} → Kept s t → (IsNarrow t → Kept t u) → Kept s u
  then k go =
      let l = go k.narrow in
      record {
        narrow = l.narrow;
        divides = l.divides ∙ k.divides;
        there = λ x q. l.there x (k.there x q);
        back = λ x q. k.back x (l.back x q);
        knows = λ q. l.knows (k.knows q);
        knew = λ q. k.knew (l.knew q);
      }

  reaching_kept : {s t : Shape} → Reaches facts s t → IsNarrow s → Kept s t
  reaching_kept (stays s) h = same s s refl h refl (λ q. q) (λ q. q)
  reaching_kept (by e) h = equation_kept e h
  reaching_kept (chain e f) h = then (reaching_kept e h) (λ n. reaching_kept f n)
  reaching_kept (in_memory z {a = a} {b = b} e) h = in_place z a b (Values.reaching_keeps m facts respects e) (reaching_kept e h)
  reaching_kept (in_unary op e) h = (let k = reaching_kept e h in record { narrow = k.narrow; divides = k.divides; there = k.there; back = k.back; knows = k.knows; knew = k.knew })
  reaching_kept (in_binary op {a = a} {b = b} {c = c} {d = d} e f) h = in_two op a b c d (Values.reaching_keeps m facts respects f) (reaching_kept e h.0) (reaching_kept f h.1)

  pub norm_kept : (s : Shape) → IsNarrow s → Kept s (norm facts s)
  norm_kept s narrow = reaching_kept (norm_reached facts s) narrow

pub norm_keeps_accesses : NormKeepsAccesses
norm_keeps_accesses facts every m s respects narrow =
    let k = norm_kept facts every (λ i. Unit {0}) m respects (λ i. (λ h. h, λ h. h)) s narrow in
    record { divides = k.divides; same = λ x. (k.back x, k.there x) }
