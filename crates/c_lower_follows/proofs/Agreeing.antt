-- When the source's state and the trees' state agree, and what changes leave of that.
use Rattle.std.proofs.Common.{◌≡◌, ℕ, suc, ◌≤◌, ◌<◌, ◌^◌, List, [], ◌∷◌, ◌++◌, length, Option, Some, None, refl, ap, arith, sym, ◌∙◌, subst, ◌⊎◌, ⊎_elim}
use Rattle.std.specs.Prelude.{true, false, not, ◌&&◌, ◌||◌, cond, slice_get, slice_set}
use Rattle.std.proofs.lemmas.Bool.{cases_eq, eq-eqb, ne_eqb, and_parts, leb-true, or_parts}
use Rattle.tree_meaning.specs.declared.value.Value.{Value}
use Rattle.tree_meaning.specs.declared.value.Value.TheVariants.{Number, ZeroDivisor, Wild}
use Rattle.tree_meaning.specs.State.{with_local}
use Rattle.tree_meaning.specs.Values.{bind, there, address_of}
use Rattle.tree_meaning.proofs.Values.{there_pure}
use Rattle.tree_core.specs.declared.program.Object.{Object}
use Rattle.tree_core.specs.Area.{fetched, opening}
use Rattle.gg_base.specs.Arithmetic.{neg32, com32}
use Rattle.gg_base.proofs.Facts.{slice_set_same, slice_set_other}
use Rattle.c_types.specs.declared.types.Integer.{Integer}
use Rattle.c_types.specs.Types.{kept}
use Rattle.tree_core.specs.declared.program.TreeProgram.{TreeProgram}
use Rattle.c_meaning.specs.State.{State, integer_access}
use Rattle.c_types.specs.declared.typed.ArithmeticOperator.{ArithmeticOperator}
use Rattle.c_types.specs.declared.typed.ArithmeticOperator.TheVariants as ariths
use Rattle.c_types.specs.Constants.{apply}
use Rattle.c_lower_scheme.specs.Trees.{Tree, Num, Gaddr, Loc, Arg, Indir, Conv, Neg, Com, Bin, Item, divides_by, divides, reads, stable}
use Rattle.c_sound.specs.Fits.{AreBytes}
use Rattle.c_lower_follows.proofs.Values.{Ranged, worth, or_zero}
use Rattle.c_lower_follows.proofs.Steps.{Desk, desk_sight}

pub set_same : (f : ℕ → Option ℕ) (n v : ℕ) → with_local f n v n ≡ Some v
set_same f n v = ap (λ b. cond b (Some v) (f n)) (eq-eqb n n refl)

pub set_other : (f : ℕ → Option ℕ) (n v m : ℕ) → (m ≡ n → ⊥) → with_local f n v m ≡ f m
set_other f n v m ne = ap (λ b. cond b (Some v) (f m)) (ne_eqb m n ne)

-- writing a local on both sides
pub set_both : (xs : List ℕ) (f : ℕ → Option ℕ) (n v x : ℕ) → n < length xs → f x ≡ slice_get xs x → with_local f n v x ≡ slice_get (slice_set xs n v) x
set_both xs f n v x lt e =
    ⊎_elim
    (λ eq. subst (λ i. with_local f n v i ≡ slice_get (slice_set xs n v) i) (sym eq) (set_same f n v ∙ sym (slice_set_same xs n v lt)))
    (λ ne. set_other f n v x ne ∙ e ∙ sym (slice_set_other xs n v x ne))
    (cases_eq x n)

pub not_nil : {A : Type 0} (xs : List A) (y : A) (ys : List A) → xs ++ (y ∷ ys) ≡ [] → ⊥
not_nil [] y ys e = cc
not_nil (x ∷ xs) y ys e = cc

pub front_nil : {A : Type 0} (xs ys : List A) → xs ++ ys ≡ [] → xs ≡ []
front_nil [] ys e = refl
front_nil (x ∷ xs) ys e = absurd (cc)

pub back_nil : {A : Type 0} (xs ys : List A) → xs ++ ys ≡ [] → ys ≡ []
back_nil [] ys e = e
back_nil (x ∷ xs) ys e = absurd (cc)

-- the locals of a tree are below a number
abbrev pub Below : ℕ → Tree → Type 0
Below u (Num n) = Unit {0}
Below u (Gaddr n) = Unit {0}
Below u (Loc n) = n < u
Below u (Arg n) = Unit {0}
Below u (Indir i a) = Below u a
Below u (Conv i w) = Below u w
Below u (Neg w) = Below u w
Below u (Com w) = Below u w
Below u (Bin op a b) = Below u a × Below u b

pub below_more : (u v : ℕ) (w : Tree) → u ≤ v → Below u w → Below v w
below_more u v (Num n) le h = tt
below_more u v (Gaddr n) le h = tt
below_more u v (Loc n) le h = omega arith
below_more u v (Arg n) le h = tt
below_more u v (Indir i a) le h = below_more u v a le h
below_more u v (Conv i w) le h = below_more u v w le h
below_more u v (Neg w) le h = below_more u v w le h
below_more u v (Com w) le h = below_more u v w le h
below_more u v (Bin op a b) le h = (below_more u v a le h.0, below_more u v b le h.1)

-- what a tree reads is the same, but for locals from a number on
pub record Alike (u : ℕ) (d d' : Desk) : Type 0 where
  pub locals : (j : ℕ) → j < u → d'.locals j ≡ d.locals j
  pub arguments : d'.arguments ≡ d.arguments
  pub area : d'.area ≡ d.area

pub alike_set : (u n v : ℕ) (d : Desk) → u ≤ n → Alike u d (record d { locals = with_local d.locals n v })
alike_set u n v d le = record { locals = λ j lt. set_other d.locals n v j (λ e. omega arith); arguments = refl; area = refl }

-- an inert tree has no zero divisor
apply_pure : (op : ArithmeticOperator) (x y : ℕ) → divides_by op ≡ false → or_zero (apply op x y) ≡ ZeroDivisor → ⊥
unfolding apply
apply_pure ariths.Add x y e h = cc
apply_pure ariths.Subtract x y e h = cc
apply_pure ariths.Multiply x y e h = cc
apply_pure ariths.Divide x y e h = absurd (cc)
apply_pure ariths.Remainder x y e h = absurd (cc)
apply_pure ariths.And x y e h = cc
apply_pure ariths.Xor x y e h = cc
apply_pure ariths.Or x y e h = cc
apply_pure ariths.ShiftLeft x y e h = cc
apply_pure ariths.ShiftRight x y e h = cc

bind_pure : (v : Value) (f : ℕ → Value) → (v ≡ ZeroDivisor → ⊥) → ((x : ℕ) → f x ≡ ZeroDivisor → ⊥) → bind v f ≡ ZeroDivisor → ⊥
bind_pure (Number x) f n h e = h x e
bind_pure ZeroDivisor f n h e = n refl
bind_pure Wild f n h e = cc

fetched_pure : (i : Integer) (o : Option ℕ) → bind (there o) (λ v. Number (kept i v)) ≡ ZeroDivisor → ⊥
fetched_pure i None e = cc
fetched_pure i (Some v) e = cc

address_pure : (o : Option Object) → address_of o 0 ≡ ZeroDivisor → ⊥
address_pure None e = cc
address_pure (Some o) e = cc

module _ (program : TreeProgram) where
  abbrev pub value : Tree → Desk → Value
  value w d = worth program.objects (desk_sight d) w

  pub value_alike : (u : ℕ) (w : Tree) (d d' : Desk) → Below u w → Alike u d d' → value w d' ≡ value w d
  value_alike u (Num n) d d' b h = refl
  value_alike u (Gaddr n) d d' b h = refl
  value_alike u (Loc n) d d' b h = ap there (h.locals n b)
  value_alike u (Arg n) d d' b h = ap (λ xs. there (slice_get xs n)) h.arguments
  value_alike u (Indir i a) d d' b h = ap (λ v. bind v (λ x. bind (there (fetched (integer_access i) d'.area x)) (λ v. Number (kept i v)))) (value_alike u a d d' b h)
      ∙ ap (λ z. bind (value a d) (λ x. bind (there (fetched (integer_access i) z x)) (λ v. Number (kept i v)))) h.area
  value_alike u (Conv i w) d d' b h = ap (λ v. bind v (λ x. Number (kept i x))) (value_alike u w d d' b h)
  value_alike u (Neg w) d d' b h = ap (λ v. bind v (λ x. Number (neg32 x))) (value_alike u w d d' b h)
  value_alike u (Com w) d d' b h = ap (λ v. bind v (λ x. Number (com32 x))) (value_alike u w d d' b h)
  value_alike u (Bin op a b) d d' c h = ap (λ v. bind v (λ x. bind (value b d') (λ y. or_zero (apply op x y)))) (value_alike u a d d' c.0 h)
      ∙ ap (λ v. bind (value a d) (λ x. bind v (λ y. or_zero (apply op x y)))) (value_alike u b d d' c.1 h)

  pub value_stable : (size u : ℕ) (w : Tree) (d d' : Desk) → stable size w ≡ true → Below u w → ((j : ℕ) → size ≤ j → j < u → d'.locals j ≡ d.locals j) → value w d' ≡ value w d
  value_stable size u (Num n) d d' s b h = refl
  value_stable size u (Gaddr n) d d' s b h = refl
  value_stable size u (Loc n) d d' s b h = ap there (h n (leb-true size n s) b)
  value_stable size u (Arg n) d d' s b h = absurd (cc)
  value_stable size u (Indir i a) d d' s b h = absurd (cc)
  value_stable size u (Conv i w) d d' s b h = ap (λ v. bind v (λ x. Number (kept i x))) (value_stable size u w d d' s b h)
  value_stable size u (Neg w) d d' s b h = ap (λ v. bind v (λ x. Number (neg32 x))) (value_stable size u w d d' s b h)
  value_stable size u (Com w) d d' s b h = ap (λ v. bind v (λ x. Number (com32 x))) (value_stable size u w d d' s b h)
  value_stable size u (Bin op a b) d d' s c h =
      let parts = and_parts (stable size a) (stable size b) (and_parts (not (divides_by op)) (stable size a && stable size b) s).1 in
      ap (λ v. bind v (λ x. bind (value b d') (λ y. or_zero (apply op x y)))) (value_stable size u a d d' parts.0 c.0 h)
      ∙ ap (λ v. bind (value a d) (λ x. bind v (λ y. or_zero (apply op x y)))) (value_stable size u b d d' parts.1 c.1 h)

  -- a tree that reads no memory
  pub value_unread : (w : Tree) (d : Desk) (area : List ℕ) → reads w ≡ false → value w (record d { area = area }) ≡ value w d
  value_unread (Num n) d area e = refl
  value_unread (Gaddr n) d area e = refl
  value_unread (Loc n) d area e = refl
  value_unread (Arg n) d area e = refl
  value_unread (Indir i a) d area e = absurd (cc)
  value_unread (Conv i w) d area e = ap (λ v. bind v (λ x. Number (kept i x))) (value_unread w d area e)
  value_unread (Neg w) d area e = ap (λ v. bind v (λ x. Number (neg32 x))) (value_unread w d area e)
  value_unread (Com w) d area e = ap (λ v. bind v (λ x. Number (com32 x))) (value_unread w d area e)
  value_unread (Bin op a b) d area e =
      let parts = or_parts (reads a) (reads b) e in
      ap (λ v. bind v (λ x. bind (value b (record d { area = area })) (λ y. or_zero (apply op x y)))) (value_unread a d area parts.0)
      ∙ ap (λ v. bind (value a d) (λ x. bind v (λ y. or_zero (apply op x y)))) (value_unread b d area parts.1)

  pub value_pure : (w : Tree) (d : Desk) → divides w ≡ false → value w d ≡ ZeroDivisor → ⊥
  value_pure (Num n) d e h = cc
  value_pure (Gaddr n) d e h = address_pure (slice_get program.objects n) h
  value_pure (Loc n) d e h = there_pure (d.locals n) h
  value_pure (Arg n) d e h = there_pure (slice_get d.arguments n) h
  value_pure (Indir i a) d e h = bind_pure (value a d) _ (value_pure a d e) (λ x. fetched_pure i (fetched (integer_access i) d.area x)) h
  value_pure (Conv i w) d e h = bind_pure (value w d) _ (value_pure w d e) (λ x e. cc) h
  value_pure (Neg w) d e h = bind_pure (value w d) _ (value_pure w d e) (λ x e. cc) h
  value_pure (Com w) d e h = bind_pure (value w d) _ (value_pure w d e) (λ x e. cc) h
  value_pure (Bin op a b) d e h =
      let whole = or_parts (divides_by op) (divides a || divides b) e in
      let parts = or_parts (divides a) (divides b) whole.1 in
      bind_pure (value a d) _ (value_pure a d parts.0) (λ x. bind_pure (value b d) _ (value_pure b d parts.1) (λ y. apply_pure op x y whole.0)) h

-- the data area holds bytes, and is as long as at the begin of the run
pub record IsArea (extent : ℕ) (area : List ℕ) : Type 0 where
  pub bytes : AreBytes area
  pub long : length area ≡ extent

abbrev pub extent_of : TreeProgram → ℕ
extent_of program = length (opening program.objects)

-- The states agree on the locals in scope, on the parameters, the data area and the input; nothing waits to be passed. In a function that has
-- a block the local behind the function's own holds its address.
pub record Agree (extent size first : ℕ) (scope : ℕ → Type 0) (depth : ℕ) (st : State) (d : Desk) : Type 0 where
  pub local : (x : ℕ) → scope x → d.locals x ≡ slice_get st.call.locals x
  pub count : length st.call.locals ≡ size
  pub arguments : d.arguments ≡ st.call.parameters
  pub area : d.area ≡ st.area
  pub input : d.input ≡ st.input
  pub pushed : d.pushed ≡ []
  pub active : st.active ≡ suc depth
  pub ranged : Ranged (desk_sight d)
  pub bytes : AreBytes d.input
  pub whole : IsArea extent d.area
  pub pointer : size < first → (b : ℕ) × (st.call.block ≡ Some b) × (d.locals size ≡ Some b)

-- what items that own the temporaries from t up to u leave
pub record Since (size t u : ℕ) (is : List Item) (st : State) (d : Desk) (st' : State) (d' : Desk) : Type 0 where
  pub keeps : (j : ℕ) → size ≤ j → (j < t) ⊎ (u ≤ j) → d'.locals j ≡ d.locals j
  pub same : is ≡ [] → (st' ≡ st) × (d' ≡ d)

pub since_start : (size t u : ℕ) (is : List Item) (st : State) (d : Desk) → Since size t u is st d st d
since_start size t u is st d = record { keeps = λ j le o. refl; same = λ e. (refl, refl) }

pub ranged_set : (d : Desk) (n v : ℕ) → v < 2 ^ 32 → Ranged (desk_sight d) → Ranged (desk_sight (record d { locals = with_local d.locals n v }))
ranged_set d n v lt r = record {
  local = λ m x e. ⊎_elim
      (λ eq. let one : Some x ≡ Some v = sym e ∙ subst (λ i. with_local d.locals n v i ≡ Some v) (sym eq) (set_same d.locals n v) in let same : x ≡ v = cc in omega arith)
      (λ ne. r.local m x (sym (set_other d.locals n v m ne) ∙ e))
      (cases_eq m n);
  argument = r.argument;
  area = r.area;
}

-- a temporary is written
pub agree_temp : (extent size first : ℕ) (scope : ℕ → Type 0) (depth : ℕ) → ((x : ℕ) → scope x → x < size) → size ≤ first → (n v : ℕ) (st : State) (d : Desk) → first ≤ n → v < 2 ^ 32
    → Agree extent size first scope depth st d → Agree extent size first scope depth st (record d { locals = with_local d.locals n v })
agree_temp extent size first scope depth within own n v st d le lt h = record {
  local = λ x sc. set_other d.locals n v x (λ e. let lt' = within x sc in omega arith) ∙ h.local x sc;
  count = h.count;
  arguments = h.arguments;
  area = h.area;
  input = h.input;
  pushed = h.pushed;
  active = h.active;
  ranged = ranged_set d n v lt h.ranged;
  bytes = h.bytes;
  whole = h.whole;
  pointer = λ s. let k = h.pointer s in (k.0, k.1, set_other d.locals n v size (λ q. omega arith) ∙ k.2);
}
