-- Normal forms are normal.
use Rattle.std.proofs.Common.{◌≡◌, ℕ, ◌%◌, ◌^◌, ◌==◌, Bool, true, false, List, [], ap, ◌∙◌, refl}
use Rattle.std.specs.Prelude.{nat_lt, if◌then◌else◌}
use Rattle.std.specs.Ordering.{ordering_reverse}
use Rattle.std.specs.declared.cmp.Ordering.{Ordering}
use Rattle.std.specs.declared.cmp.Ordering.TheVariants.{Less, Equal, Greater}
use Rattle.gg_base.specs.declared.size.Size.TheVariants.{Byte, Word}
use Rattle.gg_base.proofs.Facts.{if_false, if_true}
use Rattle.term_core.specs.declared.facts.Fact.{Fact}
use Rattle.term_core.specs.Facts.{has_size}
use Rattle.term_core.specs.declared.operator.UnaryOp.{UnaryOp}
use Rattle.term_core.specs.declared.operator.UnaryOp.TheVariants.{Neg, Com, Zx8, Zx16, Sx8, Sx16}
use Rattle.term_core.specs.declared.operator.BinaryOp.{BinaryOp}
use Rattle.term_core.specs.declared.operator.BinaryOp.TheVariants.{Add, Sub, Mul, Div, And, Or, Xor, Ash}
use Rattle.term_core.specs.Operators.{binary}
use Rattle.term_core.specs.Shape.{Shape, Constant, Symbol, LastResult, Memory, Unary, Binary}
use Rattle.term_core.specs.Order.{order}
use Rattle.term_core.specs.NormBinary.{in_order, add_constant, add_ordered, make_add, make_sub, mul_ordered, make_mul}
use Rattle.term_core.specs.NormBinary.{make_div, masks_nothing, and_ordered, or_ordered, xor_ordered, make_ash}
use Rattle.term_core.specs.NormBinary.{make_binary}
use Rattle.term_core.specs.NormUnary.{make_neg, make_com, make_zx8, make_zx16, make_sx8, make_sx16, make_unary}
use Rattle.term_core.specs.Norm.{norm}
use Rattle.term_core.specs.Normal.{IsNormal, AreSettled}
use Rattle.term_core.proofs.Ordered.{order_turned}

module _ (facts : List Fact) where
  -- what is a choice is normal where each side is normal that may be taken
  chosen : (b : Bool) (s t : Shape) → (b ≡ true → IsNormal facts s) → (b ≡ false → IsNormal facts t) → IsNormal facts (if b then s else t)
  chosen true s t h k = h refl
  chosen false s t h k = k refl

  neg_normal : (t : Shape) → IsNormal facts t → IsNormal facts (make_neg t)
  neg_normal (Constant n) h = tt
  neg_normal (Unary Neg t) h = h.0
  neg_normal t h = (h, refl)

  com_normal : (t : Shape) → IsNormal facts t → IsNormal facts (make_com t)
  com_normal (Constant n) h = tt
  com_normal (Unary Com t) h = h.0
  com_normal t h = (h, refl)

  zx8_normal : (t : Shape) → IsNormal facts t → IsNormal facts (make_zx8 facts t)
  zx8_normal (Constant n) h = tt
  zx8_normal (Unary Zx8 t) h = zx8_normal t h.0
  zx8_normal (Unary Sx8 t) h = zx8_normal t h.0
  zx8_normal (Symbol i) h = chosen (has_size facts i Byte) _ _ (λ e. h) (λ e. (h, if_false (has_size facts i Byte) _ _ e))
  zx8_normal (Memory Byte a) h = h
  zx8_normal t h = (h, refl)

  zx16_normal : (t : Shape) → IsNormal facts t → IsNormal facts (make_zx16 facts t)
  zx16_normal (Constant n) h = tt
  zx16_normal (Unary Zx16 t) h = zx16_normal t h.0
  zx16_normal (Unary Sx16 t) h = zx16_normal t h.0
  zx16_normal (Symbol i) h = chosen (has_size facts i Word) _ _ (λ e. h) (λ e. (h, if_false (has_size facts i Word) _ _ e))
  zx16_normal (Memory Word a) h = h
  zx16_normal t h = (h, refl)

  sx8_normal : (t : Shape) → IsNormal facts t → IsNormal facts (make_sx8 t)
  sx8_normal (Constant n) h = tt
  sx8_normal (Unary Sx8 t) h = sx8_normal t h.0
  sx8_normal (Unary Zx8 t) h = sx8_normal t h.0
  sx8_normal t h = (h, refl)

  sx16_normal : (t : Shape) → IsNormal facts t → IsNormal facts (make_sx16 t)
  sx16_normal (Constant n) h = tt
  sx16_normal (Unary Sx16 t) h = sx16_normal t h.0
  sx16_normal (Unary Zx16 t) h = sx16_normal t h.0
  sx16_normal t h = (h, refl)

  unary_normal : (op : UnaryOp) (t : Shape) → IsNormal facts t → IsNormal facts (make_unary facts op t)
  unary_normal Neg t h = neg_normal t h
  unary_normal Com t h = com_normal t h
  unary_normal Zx8 t h = zx8_normal t h
  unary_normal Zx16 t h = zx16_normal t h
  unary_normal Sx8 t h = sx8_normal t h
  unary_normal Sx16 t h = sx16_normal t h

  add_constant_normal : (t : Shape) (c : ℕ) → IsNormal facts t → IsNormal facts (add_constant c t)
  add_constant_normal (Constant d) c h = tt
  add_constant_normal (Binary Add (Constant d) t) c h = chosen (c == 0) _ _ (λ e. h) (λ e. add_constant_normal t (binary Add (c % 2 ^ 32) (d % 2 ^ 32)) h.1)
  add_constant_normal t c h = chosen (c == 0) _ _ (λ e. h) (λ e. (tt, h, if_false (c == 0) _ _ e))

  -- where a constant stands in front, or a part that isn't greater
  add_ordered_normal : (a b : Shape) → IsNormal facts a → IsNormal facts b → in_order add_ordered (order a b) a b ≡ add_ordered a b → IsNormal facts (add_ordered a b)
  add_ordered_normal (Constant c) b ha hb e = add_constant_normal b c hb
  add_ordered_normal a b ha hb e = (ha, hb, e)

  mul_ordered_normal : (a b : Shape) → IsNormal facts a → IsNormal facts b → in_order mul_ordered (order a b) a b ≡ mul_ordered a b → IsNormal facts (mul_ordered a b)
  mul_ordered_normal (Constant c) (Constant d) ha hb e = tt
  mul_ordered_normal (Constant c) t ha hb e = chosen (c == 1) _ _ (λ f. hb) (λ f. (tt, hb, if_false (c == 1) _ _ f))
  mul_ordered_normal a b ha hb e = (ha, hb, e)

  and_ordered_normal : (a b : Shape) → IsNormal facts a → IsNormal facts b → in_order (and_ordered facts) (order a b) a b ≡ and_ordered facts a b → IsNormal facts (and_ordered facts a b)
  and_ordered_normal (Constant c) (Constant d) ha hb e = tt
  and_ordered_normal (Constant c) t ha hb e = chosen (masks_nothing facts c t) _ _ (λ f. hb) (λ f. (tt, hb, if_false (masks_nothing facts c t) _ _ f))
  and_ordered_normal a b ha hb e = (ha, hb, e)

  or_ordered_normal : (a b : Shape) → IsNormal facts a → IsNormal facts b → in_order or_ordered (order a b) a b ≡ or_ordered a b → IsNormal facts (or_ordered a b)
  or_ordered_normal (Constant c) (Constant d) ha hb e = tt
  or_ordered_normal (Constant c) t ha hb e = chosen (c == 0) _ _ (λ f. hb) (λ f. (tt, hb, if_false (c == 0) _ _ f))
  or_ordered_normal a b ha hb e = (ha, hb, e)

  xor_ordered_normal : (a b : Shape) → IsNormal facts a → IsNormal facts b → in_order xor_ordered (order a b) a b ≡ xor_ordered a b → IsNormal facts (xor_ordered a b)
  xor_ordered_normal (Constant c) (Constant d) ha hb e = tt
  xor_ordered_normal (Constant c) t ha hb e = chosen (c == 0) _ _ (λ f. hb) (λ f. (tt, hb, if_false (c == 0) _ _ f))
  xor_ordered_normal a b ha hb e = (ha, hb, e)

  -- parts that were put in order stay so
  stays_in_order : (f : Shape → Shape → Shape) (o : Ordering) (a b : Shape) → order a b ≡ o → o ≡ Greater → in_order f (order b a) b a ≡ f b a
  stays_in_order f o a b e g = ap (λ x. in_order f x b a) (order_turned b a ∙ ap ordering_reverse (e ∙ g))

  in_order_normal : (f : Shape → Shape → Shape) → ((a b : Shape) → IsNormal facts a → IsNormal facts b → in_order f (order a b) a b ≡ f a b → IsNormal facts (f a b))
      → (o : Ordering) (a b : Shape) → order a b ≡ o → IsNormal facts a → IsNormal facts b → IsNormal facts (in_order f o a b)
  in_order_normal f law Less a b e ha hb = law a b ha hb (ap (λ x. in_order f x a b) e)
  in_order_normal f law Equal a b e ha hb = law a b ha hb (ap (λ x. in_order f x a b) e)
  in_order_normal f law Greater a b e ha hb = law b a hb ha (stays_in_order f Greater a b e refl)

  add_normal : (a b : Shape) → IsNormal facts a → IsNormal facts b → IsNormal facts (make_add a b)
  add_normal a b ha hb = in_order_normal add_ordered add_ordered_normal (order a b) a b refl ha hb

  mul_normal : (a b : Shape) → IsNormal facts a → IsNormal facts b → IsNormal facts (make_mul a b)
  mul_normal a b ha hb = in_order_normal mul_ordered mul_ordered_normal (order a b) a b refl ha hb

  sub_normal : (a b : Shape) → IsNormal facts a → IsNormal facts b → IsNormal facts (make_sub a b)
  sub_normal (Constant c) (Constant d) ha hb = tt
  sub_normal a b ha hb = add_normal a (make_neg b) ha (neg_normal b hb)

  div_normal : (a b : Shape) → IsNormal facts a → IsNormal facts b → IsNormal facts (make_div a b)
  div_normal (Constant c) (Constant d) ha hb = chosen (d == 0) _ _ (λ e. (tt, tt, if_true (d == 0) _ _ e)) (λ e. tt)
  div_normal a b ha hb = (ha, hb, refl)

  shift_normal : (k : ℕ) (t : Shape) → IsNormal facts t → (nat_lt k 32 ≡ false → make_ash (Constant k) t ≡ Binary Ash (Constant k) t)
      → IsNormal facts (if nat_lt k 32 then make_mul (Constant (2 ^ k)) t else Binary Ash (Constant k) t)
  shift_normal k t h stays = chosen (nat_lt k 32) _ _ (λ e. mul_normal (Constant (2 ^ k)) t tt h) (λ e. (tt, h, stays e))

  ash_normal : (c t : Shape) → IsNormal facts c → IsNormal facts t → IsNormal facts (make_ash c t)
  ash_normal (Constant k) (Constant d) hc ht = tt
  ash_normal (Constant k) t hc ht = shift_normal k t ht (λ e. if_false (nat_lt k 32) _ _ e)
  ash_normal (Unary Zx8 c) t hc ht = ash_normal c t hc.0 ht
  ash_normal (Unary Sx8 c) t hc ht = ash_normal c t hc.0 ht
  ash_normal c t hc ht = (hc, ht, refl)

  binary_normal : (op : BinaryOp) (a b : Shape) → IsNormal facts a → IsNormal facts b → IsNormal facts (make_binary facts op a b)
  binary_normal Add a b ha hb = add_normal a b ha hb
  binary_normal Sub a b ha hb = sub_normal a b ha hb
  binary_normal Mul a b ha hb = mul_normal a b ha hb
  binary_normal Div a b ha hb = div_normal a b ha hb
  binary_normal And a b ha hb = in_order_normal (and_ordered facts) and_ordered_normal (order a b) a b refl ha hb
  binary_normal Or a b ha hb = in_order_normal or_ordered or_ordered_normal (order a b) a b refl ha hb
  binary_normal Xor a b ha hb = in_order_normal xor_ordered xor_ordered_normal (order a b) a b refl ha hb
  binary_normal Ash a b ha hb = ash_normal a b ha hb

  pub norm_normal : AreSettled facts → (s : Shape) → IsNormal facts (norm facts s)
  norm_normal settled (Constant n) = tt
  norm_normal settled (Symbol i) = settled i
  norm_normal settled LastResult = tt
  norm_normal settled (Memory size a) = norm_normal settled a
  norm_normal settled (Unary op t) = unary_normal op (norm facts t) (norm_normal settled t)
  norm_normal settled (Binary op a b) = binary_normal op (norm facts a) (norm facts b) (norm_normal settled a) (norm_normal settled b)

  pub normal_stays : (s : Shape) → IsNormal facts s → norm facts s ≡ s
  normal_stays (Constant n) h = refl
  normal_stays (Symbol i) h = ap Symbol h
  normal_stays LastResult h = refl
  normal_stays (Memory size a) h = ap (Memory size) (normal_stays a h)
  normal_stays (Unary op t) h = ap (make_unary facts op) (normal_stays t h.0) ∙ h.1
  normal_stays (Binary op a b) h = ap (λ x. make_binary facts op x (norm facts b)) (normal_stays a h.0) ∙ ap (make_binary facts op a) (normal_stays b h.1) ∙ h.2

pub norm_twice : (facts : List Fact) (s : Shape) → AreSettled facts → norm facts (norm facts s) ≡ norm facts s
norm_twice facts s settled = normal_stays facts (norm facts s) (norm_normal facts settled s)

pub norm_alone_twice : (s : Shape) → norm [] (norm [] s) ≡ norm [] s
norm_alone_twice s = norm_twice [] s (λ i. refl)
