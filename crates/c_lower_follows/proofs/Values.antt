-- The value of a tree, and that its leaves have it.
use Rattle.std.proofs.Common.{◌≡◌, ℕ, zero, suc, ◌-◌, ◌%◌, ◌^◌, ◌<◌, ◌≤◌, ◌==◌, List, [], ◌∷◌, length, Option, Some, None, refl, ap, arith, sym, ◌∙◌}
use Rattle.std.specs.Prelude.{Bool, true, false, nat_lt, if◌then◌else◌, slice_get, take, drop, slice_index, cond}
use Rattle.std.specs.Int.{w16, w32, from_le_bytes}
use Rattle.std.proofs.lemmas.Bool.{eqb-true, cond-false, le-ltb}
use Rattle.std.proofs.lemmas.Bool.Decides.{nat_tests}
use Rattle.std.proofs.lemmas.Nat.{or_of_32, xor_of_32}
use Rattle.gg_base.specs.declared.size.Size.{Size}
use Rattle.gg_base.specs.declared.size.Size.TheVariants as sizes
use Rattle.gg_base.specs.Arithmetic.{and32, neg32, com32, div32, sext8, sext16, zext8, zext16, shifted_left, shifted_right, ash32}
use Rattle.gg_base.specs.LittleEndian.{number_in}
use Rattle.gg_base.proofs.Words.{ash_small, low_count, sext8_small, sext16_small, and_small, sext8_zext8, sext16_zext16}
use Rattle.c_lower_follows.proofs.Longwords.{SmallOption, div_small}
use Rattle.tree_core.specs.declared.token.Tok.TheVariants as tok
use Rattle.tree_core.specs.declared.tree.Att.TheVariants as att
use Rattle.tree_core.specs.declared.tree.Leaf.{Leaf}
use Rattle.tree_core.specs.declared.program.Object.{Object}
use Rattle.tree_core.specs.Grammar.{kids}
use Rattle.tree_core.specs.Trees.{Forest, none, tree, firsts, others, grown}
use Rattle.tree_core.specs.Area.{fetched, is_inside}
use Rattle.tree_meaning.specs.declared.value.Value.{Value}
use Rattle.tree_meaning.specs.declared.value.Value.TheVariants.{Number, ZeroDivisor, Wild}
use Rattle.tree_meaning.specs.declared.value.Meaning.{Meaning}
use Rattle.tree_meaning.specs.declared.value.Meaning.TheVariants as meaning
use Rattle.tree_meaning.specs.Operators.{quotient, remainder, operated}
use Rattle.tree_meaning.specs.Values.{Sight, there, read, kid, bind, two, at, address_of, token_means, leaf_means, meanings}
use Rattle.c_types.specs.declared.types.Integer.{Integer}
use Rattle.c_types.specs.declared.types.Integer.TheVariants as ints
use Rattle.c_types.specs.declared.typed.ArithmeticOperator.{ArithmeticOperator}
use Rattle.c_types.specs.declared.typed.ArithmeticOperator.TheVariants as ariths
use Rattle.c_types.specs.Types.{kept}
use Rattle.c_types.specs.Constants.{apply, remainder_by}
use Rattle.c_meaning.specs.State.{integer_access}
use Rattle.c_sound.specs.Fits.{AreBytes}
use Rattle.c_sound.proofs.Bytes.{bytes_drop}
use Rattle.c_lower_scheme.specs.Trees.{Tree, Num, Gaddr, Loc, Arg, Indir, Conv, Neg, Com, Bin}
use Rattle.c_lower_scheme.specs.Spelling.{leaf, plain, constant_token, operator_token, leaves_onto}

-- a number, or a zero divisor
abbrev pub or_zero : Option ℕ → Value
or_zero None = ZeroDivisor
or_zero (Some v) = Number v

-- the numbers that stand in a tree are longwords
abbrev pub SmallTree : Tree → Type 0
SmallTree (Num n) = n < 2 ^ 32
SmallTree (Gaddr n) = Unit {0}
SmallTree (Loc n) = Unit {0}
SmallTree (Arg n) = Unit {0}
SmallTree (Indir i a) = SmallTree a
SmallTree (Conv i w) = SmallTree w
SmallTree (Neg w) = SmallTree w
SmallTree (Com w) = SmallTree w
SmallTree (Bin op a b) = SmallTree a × SmallTree b

-- what trees read are longwords
pub record Ranged (s : Sight) : Type 0 where
  pub local : (n v : ℕ) → s.locals n ≡ Some v → v < 2 ^ 32
  pub argument : (n v : ℕ) → slice_get s.arguments n ≡ Some v → v < 2 ^ 32
  pub area : AreBytes s.area

abbrev pub Small : Value → Type 0
Small (Number v) = v < 2 ^ 32
Small ZeroDivisor = Unit {0}
Small Wild = Unit {0}

pub bind_small : (v : Value) (f : ℕ → Value) → Small v → ((x : ℕ) → x < 2 ^ 32 → Small (f x)) → Small (bind v f)
bind_small (Number x) f s h = h x s
bind_small ZeroDivisor f s h = tt
bind_small Wild f s h = tt

pub there_small : (o : Option ℕ) → ((v : ℕ) → o ≡ Some v → v < 2 ^ 32) → Small (there o)
there_small None h = tt
there_small (Some v) h = h v refl

or_small : (o : Option ℕ) → SmallOption o → Small (or_zero o)
or_small None h = tt
or_small (Some v) h = h

remainder_small : (o : Option ℕ) (x y : ℕ) → Small (or_zero (remainder_by o x y))
remainder_small None x y = tt
remainder_small (Some q) x y = omega arith

-- an operator with longwords has one
pub apply_small : (op : ArithmeticOperator) (x y : ℕ) → x < 2 ^ 32 → y < 2 ^ 32 → Small (or_zero (apply op x y))
unfolding apply
apply_small ariths.Add x y h g = omega arith
apply_small ariths.Subtract x y h g = omega arith
apply_small ariths.Multiply x y h g = omega arith
apply_small ariths.Divide x y h g = or_small (div32 x y) (div_small x y h)
apply_small ariths.Remainder x y h g = remainder_small (div32 x y) x y
apply_small ariths.And x y h g = and_small x y h
apply_small ariths.Xor x y h g = xor_of_32 x y h g
apply_small ariths.Or x y h g = or_of_32 x y h g
apply_small ariths.ShiftLeft x y h g = ash_small (and32 y 31) x h
apply_small ariths.ShiftRight x y h g = ash_small (neg32 (and32 y 31)) x h

pub kept_small : (i : Integer) (v : ℕ) → v < 2 ^ 32 → kept i v < 2 ^ 32
unfolding kept
kept_small ints.Char v h = sext8_small v
kept_small ints.UnsignedChar v h = omega arith
kept_small ints.Short v h = sext16_small v
kept_small ints.UnsignedShort v h = omega arith
kept_small ints.Int v h = h

pub bytes_take : (n : ℕ) (xs : List ℕ) → AreBytes xs → AreBytes (take n xs)
bytes_take zero xs h = tt
bytes_take (suc n) [] h = tt
bytes_take (suc n) (x ∷ xs) h = (h.0, bytes_take n xs h.1)

bytes_index : (xs : List ℕ) (i : ℕ) → AreBytes xs → slice_index xs i < 256
bytes_index [] i h = omega arith
bytes_index (x ∷ xs) zero h = h.0
bytes_index (x ∷ xs) (suc i) h = bytes_index xs i h.1

word_small : (xs : List ℕ) → AreBytes xs → from_le_bytes w16 xs < 2 ^ 32
word_small xs h = omega (arith, bytes_index xs 0 h, bytes_index xs 1 h)

long_small : (xs : List ℕ) → AreBytes xs → from_le_bytes w32 xs < 2 ^ 32
long_small xs h = omega (arith, bytes_index xs 0 h, bytes_index xs 1 h, bytes_index xs 2 h, bytes_index xs 3 h)

number_small : (z : Size) (area : List ℕ) (x : ℕ) → AreBytes area → number_in z area x < 2 ^ 32
number_small sizes.Byte area x h = omega (arith, bytes_index area x h)
number_small sizes.Word area x h = word_small (take 2 (drop x area)) (bytes_take 2 (drop x area) (bytes_drop x area h))
number_small sizes.Long area x h = long_small (take 4 (drop x area)) (bytes_take 4 (drop x area) (bytes_drop x area h))

fetched_by : (b : Bool) (n : ℕ) → n < 2 ^ 32 → Small (there (cond b (Some n) None))
fetched_by true n h = h
fetched_by false n h = tt

pub fetched_small : (z : Size) (area : List ℕ) (x : ℕ) → AreBytes area → Small (there (fetched z area x))
fetched_small z area x h = fetched_by (is_inside z area x) (number_in z area (x - 65536)) (number_small z area (x - 65536) h)

shift_left_by : (c x : ℕ) → c < 32 → shifted_left c x ≡ ash32 c x
shift_left_by c x h = grind (arith, nat_tests)

shift_left : (x y : ℕ) → shifted_left (y % 32) x ≡ ash32 (and32 y 31) x
shift_left x y = shift_left_by (y % 32) x (omega arith) ∙ ap (λ c. ash32 c x) (sym (low_count y))

shift_right_zero : (x : ℕ) → x < 2 ^ 32 → shifted_right 0 x ≡ ash32 (neg32 0) x
shift_right_zero x h = grind (arith, nat_tests)

ash_above : (m x : ℕ) → 128 ≤ m → (if nat_lt m (2 ^ 7) then shifted_left m x else shifted_right (2 ^ 8 - m) x) ≡ shifted_right (256 - m) x
ash_above m x h = cond-false (nat_lt m 128) _ _ (le-ltb m 128 h)

shift_right_more : (c x : ℕ) → c < 31 → shifted_right (suc c) x ≡ ash32 (neg32 (suc c)) x
shift_right_more c x h =
    let z : zext8 (neg32 (suc c)) ≡ 255 - c = omega arith in
    let b : 256 - (255 - c) ≡ suc c = omega arith in
    sym (ap (λ m. if nat_lt m (2 ^ 7) then shifted_left m x else shifted_right (2 ^ 8 - m) x) z ∙ ash_above (255 - c) x (omega arith) ∙ ap (λ m. shifted_right m x) b)

shift_right_by : (c x : ℕ) → c < 32 → x < 2 ^ 32 → shifted_right c x ≡ ash32 (neg32 c) x
shift_right_by zero x lt h = shift_right_zero x h
shift_right_by (suc c) x lt h = shift_right_more c x (omega arith)

shift_right : (x y : ℕ) → x < 2 ^ 32 → shifted_right (y % 32) x ≡ ash32 (neg32 (and32 y 31)) x
shift_right x y h = shift_right_by (y % 32) x (omega arith) h ∙ ap (λ c. ash32 (neg32 c) x) (sym (low_count y))

quotient_is : (o : Option ℕ) → quotient o ≡ or_zero o
quotient_is None = refl
quotient_is (Some q) = refl

remainder_is : (o : Option ℕ) (x y : ℕ) → remainder x y o ≡ or_zero (remainder_by o x y)
remainder_is None x y = refl
remainder_is (Some q) x y = refl

-- an operator's token does what the operator does
operated_is : (op : ArithmeticOperator) (x y : ℕ) → x < 2 ^ 32 → operated (operator_token op) x y ≡ or_zero (apply op x y)
unfolding apply
operated_is ariths.Add x y h = refl
operated_is ariths.Subtract x y h = refl
operated_is ariths.Multiply x y h = refl
operated_is ariths.Divide x y h = quotient_is (div32 x y)
operated_is ariths.Remainder x y h = remainder_is (div32 x y) x y
operated_is ariths.And x y h = refl
operated_is ariths.Xor x y h = refl
operated_is ariths.Or x y h = refl
operated_is ariths.ShiftLeft x y h = ap Number (shift_left x y)
operated_is ariths.ShiftRight x y h = ap Number (shift_right x y h)

-- the trees whose leaves these are
constant_kids : (a b c d e : Bool) → length (kids (if a then tok.Zero else if b then tok.One else if c then tok.Two else if d then tok.Four else if e then tok.Eight else tok.Const)) ≡ 0
constant_kids true b c d e = refl
constant_kids false true c d e = refl
constant_kids false false true d e = refl
constant_kids false false false true e = refl
constant_kids false false false false true = refl
constant_kids false false false false false = refl

operator_kids : (op : ArithmeticOperator) → length (kids (operator_token op)) ≡ 2
operator_kids ariths.Add = refl
operator_kids ariths.Subtract = refl
operator_kids ariths.Multiply = refl
operator_kids ariths.Divide = refl
operator_kids ariths.Remainder = refl
operator_kids ariths.And = refl
operator_kids ariths.Xor = refl
operator_kids ariths.Or = refl
operator_kids ariths.ShiftLeft = refl
operator_kids ariths.ShiftRight = refl

abbrev mutual
  pub top : Tree → Leaf
  top (Num n) = leaf (constant_token n) (att.Number n)
  top (Gaddr n) = leaf tok.Gaddr (att.Object n 0)
  top (Loc n) = leaf tok.Loc (att.Slot n)
  top (Arg n) = leaf tok.Arg (att.Slot (suc n))
  top (Indir ints.Char a) = plain tok.Sxb
  top (Indir ints.UnsignedChar a) = plain tok.Zxb
  top (Indir ints.Short a) = plain tok.Sxw
  top (Indir ints.UnsignedShort a) = plain tok.Zxw
  top (Indir ints.Int a) = plain tok.IndirL
  top (Conv ints.Char a) = plain tok.Sxb
  top (Conv ints.UnsignedChar a) = plain tok.Zxb
  top (Conv ints.Short a) = plain tok.Sxw
  top (Conv ints.UnsignedShort a) = plain tok.Zxw
  top (Conv ints.Int a) = top a
  top (Neg a) = plain tok.Neg
  top (Com a) = plain tok.Com
  top (Bin op a b) = plain (operator_token op)

  pub under : Tree → Forest
  under (Num n) = none
  under (Gaddr n) = none
  under (Loc n) = none
  under (Arg n) = none
  under (Indir ints.Char a) = tree (plain tok.IndirB) (tree (top a) (under a) none) none
  under (Indir ints.UnsignedChar a) = tree (plain tok.IndirB) (tree (top a) (under a) none) none
  under (Indir ints.Short a) = tree (plain tok.IndirW) (tree (top a) (under a) none) none
  under (Indir ints.UnsignedShort a) = tree (plain tok.IndirW) (tree (top a) (under a) none) none
  under (Indir ints.Int a) = tree (top a) (under a) none
  under (Conv ints.Char a) = tree (plain tok.Ncb) (tree (top a) (under a) none) none
  under (Conv ints.UnsignedChar a) = tree (plain tok.Ncb) (tree (top a) (under a) none) none
  under (Conv ints.Short a) = tree (plain tok.Ncw) (tree (top a) (under a) none) none
  under (Conv ints.UnsignedShort a) = tree (plain tok.Ncw) (tree (top a) (under a) none) none
  under (Conv ints.Int a) = under a
  under (Neg a) = tree (top a) (under a) none
  under (Com a) = tree (top a) (under a) none
  under (Bin op a b) = tree (top a) (under a) (tree (top b) (under b) none)

-- a tree in front of others
abbrev pub planted : Tree → Forest → Forest
planted w f = tree (top w) (under w) f

-- a token with one kid, and with two, over leaves that grow to known trees
pub grown_one : (l : Leaf) (w : List Leaf) (k : Leaf) (f g : Forest) → length (kids l.tok) ≡ 1 → grown w ≡ tree k f g → grown (l ∷ w) ≡ tree l (tree k f none) g
grown_one l w k f g n e = ap (λ m. tree l (firsts m (grown w)) (others m (grown w))) n ∙ ap (λ h. tree l (firsts 1 h) (others 1 h)) e

pub grown_two : (l : Leaf) (w : List Leaf) (k k' : Leaf) (f f' g : Forest) → length (kids l.tok) ≡ 2 → grown w ≡ tree k f (tree k' f' g) → grown (l ∷ w) ≡ tree l (tree k f (tree k' f' none)) g
grown_two l w k k' f f' g n e = ap (λ m. tree l (firsts m (grown w)) (others m (grown w))) n ∙ ap (λ h. tree l (firsts 2 h) (others 2 h)) e

pub grown_tree : (a : Tree) (w : List Leaf) → grown (leaves_onto a w) ≡ planted a (grown w)
grown_tree (Num n) w = ap (λ m. tree (leaf (constant_token n) (att.Number n)) (firsts m (grown w)) (others m (grown w))) (constant_kids (n == 0) (n == 1) (n == 2) (n == 4) (n == 8))
grown_tree (Gaddr n) w = refl
grown_tree (Loc n) w = refl
grown_tree (Arg n) w = refl
grown_tree (Indir ints.Char a) w = grown_one _ (plain tok.IndirB ∷ leaves_onto a w) _ _ _ refl (grown_one (plain tok.IndirB) (leaves_onto a w) _ _ _ refl (grown_tree a w))
grown_tree (Indir ints.UnsignedChar a) w = grown_one _ (plain tok.IndirB ∷ leaves_onto a w) _ _ _ refl (grown_one (plain tok.IndirB) (leaves_onto a w) _ _ _ refl (grown_tree a w))
grown_tree (Indir ints.Short a) w = grown_one _ (plain tok.IndirW ∷ leaves_onto a w) _ _ _ refl (grown_one (plain tok.IndirW) (leaves_onto a w) _ _ _ refl (grown_tree a w))
grown_tree (Indir ints.UnsignedShort a) w = grown_one _ (plain tok.IndirW ∷ leaves_onto a w) _ _ _ refl (grown_one (plain tok.IndirW) (leaves_onto a w) _ _ _ refl (grown_tree a w))
grown_tree (Indir ints.Int a) w = grown_one _ _ _ _ _ refl (grown_tree a w)
grown_tree (Conv ints.Char a) w = grown_one _ (plain tok.Ncb ∷ leaves_onto a w) _ _ _ refl (grown_one (plain tok.Ncb) (leaves_onto a w) _ _ _ refl (grown_tree a w))
grown_tree (Conv ints.UnsignedChar a) w = grown_one _ (plain tok.Ncb ∷ leaves_onto a w) _ _ _ refl (grown_one (plain tok.Ncb) (leaves_onto a w) _ _ _ refl (grown_tree a w))
grown_tree (Conv ints.Short a) w = grown_one _ (plain tok.Ncw ∷ leaves_onto a w) _ _ _ refl (grown_one (plain tok.Ncw) (leaves_onto a w) _ _ _ refl (grown_tree a w))
grown_tree (Conv ints.UnsignedShort a) w = grown_one _ (plain tok.Ncw ∷ leaves_onto a w) _ _ _ refl (grown_one (plain tok.Ncw) (leaves_onto a w) _ _ _ refl (grown_tree a w))
grown_tree (Conv ints.Int a) w = grown_tree a w
grown_tree (Neg a) w = grown_one _ _ _ _ _ refl (grown_tree a w)
grown_tree (Com a) w = grown_one _ _ _ _ _ refl (grown_tree a w)
grown_tree (Bin op a b) w = grown_two _ _ _ _ _ _ _ (operator_kids op) (grown_tree a (leaves_onto b w) ∙ ap (planted a) (grown_tree b w))

module _ (objects : List Object) (s : Sight) where
  -- the value of a tree, in the words of the source
  abbrev pub worth : Tree → Value
  worth (Num n) = Number n
  worth (Gaddr n) = address_of (slice_get objects n) 0
  worth (Loc n) = there (s.locals n)
  worth (Arg n) = there (slice_get s.arguments n)
  worth (Indir i a) = bind (worth a) (λ x. bind (there (fetched (integer_access i) s.area x)) (λ v. Number (kept i v)))
  worth (Conv i w) = bind (worth w) (λ v. Number (kept i v))
  worth (Neg w) = bind (worth w) (λ v. Number (neg32 v))
  worth (Com w) = bind (worth w) (λ v. Number (com32 v))
  worth (Bin op a b) = bind (worth a) (λ x. bind (worth b) (λ y. or_zero (apply op x y)))

  address_small : (o : Option Object) → Small (address_of o 0)
  address_small None = tt
  address_small (Some o) = omega arith

  pub worth_small : Ranged s → (w : Tree) → SmallTree w → Small (worth w)
  worth_small r (Num n) h = h
  worth_small r (Gaddr n) h = address_small (slice_get objects n)
  worth_small r (Loc n) h = there_small (s.locals n) (r.local n)
  worth_small r (Arg n) h = there_small (slice_get s.arguments n) (r.argument n)
  worth_small r (Indir i a) h = bind_small (worth a) _ (worth_small r a h)
      (λ x lt. bind_small (there (fetched (integer_access i) s.area x)) _ (fetched_small (integer_access i) s.area x r.area) (λ v lt. kept_small i v lt))
  worth_small r (Conv i w) h = bind_small (worth w) _ (worth_small r w h) (λ v lt. kept_small i v lt)
  worth_small r (Neg w) h = bind_small (worth w) _ (worth_small r w h) (λ v lt. omega arith)
  worth_small r (Com w) h = bind_small (worth w) _ (worth_small r w h) (λ v lt. omega arith)
  worth_small r (Bin op a b) h = bind_small (worth a) _ (worth_small r a h.0) (λ x lt. bind_small (worth b) _ (worth_small r b h.1) (λ y lt'. apply_small op x y lt lt'))

  -- what a tree's token stands for
  abbrev pub stands : Tree → Meaning
  stands w = leaf_means objects s (top w) (slice_get (meanings objects s (under w)) 0) (slice_get (meanings objects s (under w)) 1)

  num_by : (n : ℕ) (v w : Value) (a b c d e : Bool) → (n == 0) ≡ a → (n == 1) ≡ b → (n == 2) ≡ c → (n == 4) ≡ d → (n == 8) ≡ e
      → token_means objects s (if a then tok.Zero else if b then tok.One else if c then tok.Two else if d then tok.Four else if e then tok.Eight else tok.Const) (att.Number n) v w
      ≡ meaning.Of (Number n)
  num_by n v w true b c d e ea eb ec ed ee = ap (λ x. meaning.Of (Number x)) (sym (eqb-true n 0 ea))
  num_by n v w false true c d e ea eb ec ed ee = ap (λ x. meaning.Of (Number x)) (sym (eqb-true n 1 eb))
  num_by n v w false false true d e ea eb ec ed ee = ap (λ x. meaning.Of (Number x)) (sym (eqb-true n 2 ec))
  num_by n v w false false false true e ea eb ec ed ee = ap (λ x. meaning.Of (Number x)) (sym (eqb-true n 4 ed))
  num_by n v w false false false false true ea eb ec ed ee = ap (λ x. meaning.Of (Number x)) (sym (eqb-true n 8 ee))
  num_by n v w false false false false false ea eb ec ed ee = refl

  operator_means : (op : ArithmeticOperator) (v w : Value) → token_means objects s (operator_token op) att.Nothing v w ≡ two v w (operated (operator_token op))
  operator_means ariths.Add v w = refl
  operator_means ariths.Subtract v w = refl
  operator_means ariths.Multiply v w = refl
  operator_means ariths.Divide v w = refl
  operator_means ariths.Remainder v w = refl
  operator_means ariths.And v w = refl
  operator_means ariths.Xor v w = refl
  operator_means ariths.Or v w = refl
  operator_means ariths.ShiftLeft v w = refl
  operator_means ariths.ShiftRight v w = refl

  at_is : (z : Size) (v : Value) → read s (at z v) ≡ bind v (λ x. there (fetched z s.area x))
  at_is z (Number x) = refl
  at_is z ZeroDivisor = refl
  at_is z Wild = refl

  bind_bind : (v : Value) (f g : ℕ → Value) → bind (bind v f) g ≡ bind v (λ x. bind (f x) g)
  bind_bind (Number x) f g = refl
  bind_bind ZeroDivisor f g = refl
  bind_bind Wild f g = refl

  bind_number : (v : Value) → v ≡ bind v (λ x. Number x)
  bind_number (Number x) = refl
  bind_number ZeroDivisor = refl
  bind_number Wild = refl

  bind_two : (op : ArithmeticOperator) (v w : Value) → Small v → bind v (λ x. bind w (λ y. operated (operator_token op) x y)) ≡ bind v (λ x. bind w (λ y. or_zero (apply op x y)))
  bind_two op (Number x) (Number y) h = operated_is op x y h
  bind_two op (Number x) ZeroDivisor h = refl
  bind_two op (Number x) Wild h = refl
  bind_two op ZeroDivisor w h = refl
  bind_two op Wild w h = refl

  sext8_twice : (v : Value) → bind (bind v (λ x. Number (zext8 x))) (λ x. Number (sext8 x)) ≡ bind v (λ x. Number (sext8 x))
  sext8_twice (Number x) = ap Number (sext8_zext8 x)
  sext8_twice ZeroDivisor = refl
  sext8_twice Wild = refl

  sext16_twice : (v : Value) → bind (bind v (λ x. Number (zext16 x))) (λ x. Number (sext16 x)) ≡ bind v (λ x. Number (sext16 x))
  sext16_twice (Number x) = ap Number (sext16_zext16 x)
  sext16_twice ZeroDivisor = refl
  sext16_twice Wild = refl

  zext8_twice : (v : Value) → bind (bind v (λ x. Number (zext8 x))) (λ x. Number (zext8 x)) ≡ bind v (λ x. Number (zext8 x))
  zext8_twice (Number x) = let e : zext8 (zext8 x) ≡ zext8 x = omega arith in ap Number e
  zext8_twice ZeroDivisor = refl
  zext8_twice Wild = refl

  zext16_twice : (v : Value) → bind (bind v (λ x. Number (zext16 x))) (λ x. Number (zext16 x)) ≡ bind v (λ x. Number (zext16 x))
  zext16_twice (Number x) = let e : zext16 (zext16 x) ≡ zext16 x = omega arith in ap Number e
  zext16_twice ZeroDivisor = refl
  zext16_twice Wild = refl

  pub stands_is : Ranged s → (w : Tree) → SmallTree w → read s (stands w) ≡ worth w
  unfolding kept
  stands_is r (Num n) h = ap (read s) (num_by n (kid s None) (kid s None) (n == 0) (n == 1) (n == 2) (n == 4) (n == 8) refl refl refl refl refl)
  stands_is r (Gaddr n) h = refl
  stands_is r (Loc n) h = refl
  stands_is r (Arg n) h = let e : suc n - 1 ≡ n = omega arith in ap (λ i. there (slice_get s.arguments i)) e
  stands_is r (Indir ints.Char a) h = ap (λ v. bind v (λ x. Number (sext8 x))) (at_is sizes.Byte (read s (stands a))) ∙ bind_bind (read s (stands a)) _ _
      ∙ ap (λ v. bind v (λ x. bind (there (fetched sizes.Byte s.area x)) (λ v. Number (sext8 v)))) (stands_is r a h)
  stands_is r (Indir ints.UnsignedChar a) h = ap (λ v. bind v (λ x. Number (zext8 x))) (at_is sizes.Byte (read s (stands a))) ∙ bind_bind (read s (stands a)) _ _
      ∙ ap (λ v. bind v (λ x. bind (there (fetched sizes.Byte s.area x)) (λ v. Number (zext8 v)))) (stands_is r a h)
  stands_is r (Indir ints.Short a) h = ap (λ v. bind v (λ x. Number (sext16 x))) (at_is sizes.Word (read s (stands a))) ∙ bind_bind (read s (stands a)) _ _
      ∙ ap (λ v. bind v (λ x. bind (there (fetched sizes.Word s.area x)) (λ v. Number (sext16 v)))) (stands_is r a h)
  stands_is r (Indir ints.UnsignedShort a) h = ap (λ v. bind v (λ x. Number (zext16 x))) (at_is sizes.Word (read s (stands a))) ∙ bind_bind (read s (stands a)) _ _
      ∙ ap (λ v. bind v (λ x. bind (there (fetched sizes.Word s.area x)) (λ v. Number (zext16 v)))) (stands_is r a h)
  stands_is r (Indir ints.Int a) h = at_is sizes.Long (read s (stands a)) ∙ ap (λ v. bind v (λ x. there (fetched sizes.Long s.area x))) (stands_is r a h) ∙ long_is (worth a)
    where
      long_is : (v : Value) → bind v (λ x. there (fetched sizes.Long s.area x)) ≡ bind v (λ x. bind (there (fetched sizes.Long s.area x)) (λ v. Number v))
      long_is (Number x) = bind_number (there (fetched sizes.Long s.area x))
      long_is ZeroDivisor = refl
      long_is Wild = refl
  stands_is r (Conv ints.Char w) h = sext8_twice (read s (stands w)) ∙ ap (λ v. bind v (λ x. Number (sext8 x))) (stands_is r w h)
  stands_is r (Conv ints.UnsignedChar w) h = zext8_twice (read s (stands w)) ∙ ap (λ v. bind v (λ x. Number (zext8 x))) (stands_is r w h)
  stands_is r (Conv ints.Short w) h = sext16_twice (read s (stands w)) ∙ ap (λ v. bind v (λ x. Number (sext16 x))) (stands_is r w h)
  stands_is r (Conv ints.UnsignedShort w) h = zext16_twice (read s (stands w)) ∙ ap (λ v. bind v (λ x. Number (zext16 x))) (stands_is r w h)
  stands_is r (Conv ints.Int w) h = stands_is r w h ∙ bind_number (worth w)
  stands_is r (Neg w) h = ap (λ v. bind v (λ x. Number (neg32 x))) (stands_is r w h)
  stands_is r (Com w) h = ap (λ v. bind v (λ x. Number (com32 x))) (stands_is r w h)
  stands_is r (Bin op a b) h =
      ap (read s) (operator_means op (read s (stands a)) (read s (stands b)))
      ∙ ap (λ v. bind v (λ x. bind (read s (stands b)) (λ y. operated (operator_token op) x y))) (stands_is r a h.0)
      ∙ ap (λ w. bind (worth a) (λ x. bind w (λ y. operated (operator_token op) x y))) (stands_is r b h.1)
      ∙ bind_two op (worth a) (worth b) (worth_small r a h.0)
