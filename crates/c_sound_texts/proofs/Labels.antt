-- Labels of literals and static locals: each is numbered with the next number of its kind, so all differ.
use Rattle.std.proofs.Common.{◌≡◌, ◌≢◌, ℕ, zero, suc, ◌+◌, ◌*◌, ◌^◌, ◌<◌, ◌≤◌, Bool, true, false, List, [], ◌∷◌, ◌++◌, length, map, Option, Some, None, Result, Ok, Err, refl, sym}
use Rattle.std.proofs.Common.{ap, subst, ◌∙◌, append-nil, append_assoc, length-append, arith}
use Rattle.std.proofs.lemmas.Fmt.{decimal_injective}
use Rattle.std.proofs.lemmas.List.{map-append}
use Rattle.std.specs.Fmt.{decimal}
use Rattle.std.specs.Prelude.{if◌then◌else◌}
use Rattle.gg_base.proofs.Facts.{tail_same, head_same}
use Rattle.tree_core.specs.declared.program.Object.{Object}
use Rattle.c_tokens.specs.declared.token.Token.TheVariants as token
use Rattle.c_phrases.specs.declared.operator.Spec.{Spec}
use Rattle.c_phrases.specs.Phrases.{AnExp}
use Rattle.c_phrases.specs.Units.{ADeclarator}
use Rattle.c_types.specs.declared.types.CType.{CType}
use Rattle.c_types.specs.Answers.{Fault, ◌>>=◌}
use Rattle.c_types.specs.Types.{size_of, pointer_to}
use Rattle.c_types.specs.Typed.{AnExpression, LiteralAt}
use Rattle.c_typed_scope.specs.declared.entry.Entry.{Entry}
use Rattle.c_typed_scope.specs.declared.entry.Entry.TheVariants as entries
use Rattle.c_typed_scope.specs.declared.entry.Signature.{Signature}
use Rattle.c_typed_scope.specs.Scopes.{with_name}
use Rattle.c_typed_scope.specs.Layout.{Area, with_object, one_more_literal, literal}
use Rattle.c_typed_scope.specs.Contents.{Filled, filled_to, with_contents, filled}
use Rattle.c_typed_scope.proofs.Written.{held_length}
use Rattle.c_typed_expressions.specs.Phrases.{init_in, brackets_in}
use Rattle.c_typed_expressions.specs.Expressions.{written}
use Rattle.c_sound_bodies.specs.c_typed_definition.specs.State.{State, with_area, label_of, variable_of, counted_static, array_entry, laid}
use Rattle.c_sound_bodies.specs.c_typed_law.specs.Objects.{IsFilled, IsPlainObject, IsCountedArray, IsArrayObject, IsObjectBy}
use Rattle.c_sound_bodies.specs.c_typed_law.specs.Objects.{IsObject}
use Rattle.c_sound_bodies.specs.c_typed_words.proofs.Any.{AnyToken, any_init, any_part}
use Rattle.c_sound_bodies.proofs.Growth.{Laying}
use Rattle.c_sound_bodies.proofs.Lengths.{count_stays}
use Rattle.c_sound_bodies.proofs.Adding.{contents_lay, literals_lay}
use Rattle.c_sound_texts.proofs.Areas.{Placed, placed_is}

-- of each, and of each two
abbrev pub Each : (List ℕ → Type 0) → List (List ℕ) → Type 0
Each P [] = Unit {0}
Each P (x ∷ xs) = P x × Each P xs

abbrev pub Differ : List (List ℕ) → Type 0
Differ [] = Unit {0}
Differ (x ∷ xs) = Each (λ y. x ≢ y) xs × Differ xs

pub each_weaker : (P Q : List ℕ → Type 0) → ((x : List ℕ) → P x → Q x) → (xs : List (List ℕ)) → Each P xs → Each Q xs
each_weaker P Q f [] all = tt
each_weaker P Q f (x ∷ xs) all = (f x all.0, each_weaker P Q f xs all.1)

pub each_joined : (P : List ℕ → Type 0) (xs ys : List (List ℕ)) → Each P xs → Each P ys → Each P (xs ++ ys)
each_joined P [] ys h k = k
each_joined P (x ∷ xs) ys h k = (h.0, each_joined P xs ys h.1 k)

pub differ_joined : (P Q : List ℕ → Type 0) → ((x y : List ℕ) → P x → Q y → x ≢ y) → (xs ys : List (List ℕ)) → Each P xs → Each Q ys →
    Differ xs → Differ ys → Differ (xs ++ ys)
differ_joined P Q apart [] ys h k d e = e
differ_joined P Q apart (x ∷ xs) ys h k d e =
    (each_joined (λ y. x ≢ y) xs ys d.0 (each_weaker Q (λ y. x ≢ y) (λ y q. apart x y h.0 q) ys k), differ_joined P Q apart xs ys h.1 k d.1 e)

abbrev pub labels : List Object → List (List ℕ)
labels os = map (λ (o : Object). o.label) os

pub labels_joined : (os ps : List Object) → labels (os ++ ps) ≡ labels os ++ labels ps
labels_joined os ps = map-append (λ (o : Object). o.label) os ps

pub labels_held : (n : ℕ) (f : Filled) (os : List Object) → labels (with_contents n f os) ≡ labels os
labels_held n f [] = refl
labels_held zero f (o ∷ os) = refl
labels_held (suc n) f (o ∷ os) = ap (λ (z : List (List ℕ)). o.label ∷ z) (labels_held n f os)

-- the label of a static local or a literal with a number from one count up to another
pub data IsNew (a b : Area) (label : List ℕ) : Type 0 where
  OfStatic : (k : ℕ) (least : a.statics ≤ k) (below : k < b.statics) (is : label ≡ 84 ∷ decimal k) → IsNew a b label
  OfLiteral : (k : ℕ) (least : a.literals ≤ k) (below : k < b.literals) (is : label ≡ 83 ∷ decimal k) → IsNew a b label

pub record HasFew (a : Area) : Type 0 where
  pub statics : a.statics < 2 ^ 32
  pub literals : a.literals < 2 ^ 32

-- what is laid behind has such labels, which differ
pub record Numbers (a b : Area) : Type 0 where
  pub statics : a.statics ≤ b.statics
  pub literals : a.literals ≤ b.literals
  pub counted : b.statics + b.literals + length a.objects ≤ a.statics + a.literals + length b.objects
  pub more : List (List ℕ)
  pub is : labels b.objects ≡ labels a.objects ++ more
  pub each : Each (IsNew a b) more
  pub differ : HasFew b → Differ more

pub numbers_same : (a : Area) → Numbers a a
numbers_same a = record {
  statics = omega arith;
  literals = omega arith;
  counted = omega arith;
  more = [];
  is = sym (append-nil (labels a.objects));
  each = tt;
  differ = λ few. tt;
}

pub new_more : (a b c d : Area) → c.statics ≤ a.statics → c.literals ≤ a.literals → b.statics ≤ d.statics → b.literals ≤ d.literals →
    (x : List ℕ) → IsNew a b x → IsNew c d x
new_more a b c d s l t m x (OfStatic k least below is) = OfStatic k (omega arith) (omega arith) is
new_more a b c d s l t m x (OfLiteral k least below is) = OfLiteral k (omega arith) (omega arith) is

same_number : (k j : ℕ) → k < 2 ^ 32 → j < 2 ^ 32 → decimal k ≡ decimal j → k ≡ j
same_number k j p q e = decimal_injective k j (omega arith) (omega arith) e

-- later numbers are others
pub new_apart : (a b c : Area) → HasFew c → b.statics ≤ c.statics → b.literals ≤ c.literals → (x y : List ℕ) → IsNew a b x → IsNew b c y → x ≢ y
new_apart a b c few s l x y (OfStatic k least below is) (OfStatic j from under same) e =
    let small : c.statics < 2 ^ 32 = few.statics in
    let equal = same_number k j (omega arith) (omega arith) (tail_same 84 84 (decimal k) (decimal j) (sym is ∙ e ∙ same)) in
    omega arith
new_apart a b c few s l x y (OfLiteral k least below is) (OfLiteral j from under same) e =
    let small : c.literals < 2 ^ 32 = few.literals in
    let equal = same_number k j (omega arith) (omega arith) (tail_same 83 83 (decimal k) (decimal j) (sym is ∙ e ∙ same)) in
    omega arith
new_apart a b c few s l x y (OfStatic k least below is) (OfLiteral j from under same) e =
    let equal = head_same 84 83 (decimal k) (decimal j) (sym is ∙ e ∙ same) in omega arith
new_apart a b c few s l x y (OfLiteral k least below is) (OfStatic j from under same) e =
    let equal = head_same 83 84 (decimal k) (decimal j) (sym is ∙ e ∙ same) in omega arith

pub few_before : (a b : Area) → a.statics ≤ b.statics → a.literals ≤ b.literals → HasFew b → HasFew a
few_before a b s l few =
    let statics : b.statics < 2 ^ 32 = few.statics in
    let literals : b.literals < 2 ^ 32 = few.literals in
    record { statics = omega arith; literals = omega arith }

pub numbers_further : (a b c : Area) → Numbers a b → Numbers b c → Numbers a c
numbers_further a b c h k =
    let s : a.statics ≤ b.statics = h.statics in
    let l : a.literals ≤ b.literals = h.literals in
    let t : b.statics ≤ c.statics = k.statics in
    let m : b.literals ≤ c.literals = k.literals in
    record {
      statics = omega arith;
      literals = omega arith;
      counted = let one : b.statics + b.literals + length a.objects ≤ a.statics + a.literals + length b.objects = h.counted in
          let two : c.statics + c.literals + length b.objects ≤ b.statics + b.literals + length c.objects = k.counted in
          omega arith;
      more = h.more ++ k.more;
      is = k.is ∙ (ap (λ (z : List (List ℕ)). z ++ k.more) h.is ∙ append_assoc (labels a.objects) h.more k.more);
      each = each_joined (IsNew a c) h.more k.more
          (each_weaker (IsNew a b) (IsNew a c) (new_more a b a c (omega arith) (omega arith) t m) h.more h.each)
          (each_weaker (IsNew b c) (IsNew a c) (new_more b c a c s l (omega arith) (omega arith)) k.more k.each);
      differ = λ few. differ_joined (IsNew a b) (IsNew b c) (new_apart a b c few t m) h.more k.more h.each k.each
          (h.differ (few_before b c t m few)) (k.differ few);
    }

-- one more object, whose label is new
numbers_one : (a b : Area) (o : Object) → b.objects ≡ a.objects ++ o ∷ [] → a.statics ≤ b.statics → a.literals ≤ b.literals →
    b.statics + b.literals ≤ a.statics + a.literals + 1 → IsNew a b o.label → Numbers a b
numbers_one a b o is s l one new = record {
  counted = let many : length b.objects ≡ length a.objects + 1 = ap length is ∙ length-append a.objects (o ∷ []) in omega arith;
  statics = s;
  literals = l;
  more = o.label ∷ [];
  is = ap labels is ∙ labels_joined a.objects (o ∷ []);
  each = (new, tt);
  differ = λ few. (tt, tt);
}

literal_by : (bytes : List ℕ) (measures : Bool) (a : Area) (m : Result (ℕ × Area) Fault) (t : AnExpression × Area) →
    ((r : ℕ × Area) → m ≡ Ok r → Placed (83 ∷ decimal a.literals) 1 (length bytes + 1) (bytes ++ 0 ∷ []) a r) →
    (if measures then Ok (LiteralAt 0 (length bytes + 1), a)
    else (m >>= λ r. Ok (LiteralAt r.0 (length bytes + 1), one_more_literal r.1))) ≡ Ok t → Numbers a t.1
literal_by bytes true a m t h e = let same : t ≡ (LiteralAt 0 (length bytes + 1), a) = cc in rw same (numbers_same a)
literal_by bytes false a (Err f) t h e = absurd (cc)
literal_by bytes false a (Ok r) t h e =
    let p = h r refl in
    let same : t ≡ (LiteralAt r.0 (length bytes + 1), one_more_literal r.1) = cc in
    let area : r.1 ≡ with_object (83 ∷ decimal a.literals) 1 (length bytes + 1) (bytes ++ 0 ∷ []) a = ap (λ (x : ℕ × Area). x.1) p.is in
    rw (same, area) (numbers_one a _ _ refl (omega arith) (omega arith) (omega arith) (OfLiteral a.literals (omega arith) (omega arith) refl))

literal_numbers : (at : ℕ) (bytes : List ℕ) (a : Area) (t : AnExpression × Area) → AnyToken (token.Str bytes) → literal at bytes a ≡ Ok t → Numbers a t.1
unfolding literal
literal_numbers at bytes a t w e = literal_by bytes a.measuring a _ t (λ r is. placed_is _ _ _ _ _ a r is) e

pub numbering : Laying AnyToken Numbers
numbering = record { same = numbers_same; further = numbers_further; literal = literal_numbers }

-- what an object holds at first leaves its label
pub filled_numbers : (n : ℕ) (f : Filled) (a b : Area) → Numbers a b → Numbers a (filled n f b)
unfolding filled
filled_numbers n f a b h = record {
  statics = h.statics;
  literals = h.literals;
  counted = let same : length (with_contents n f b.objects) ≡ length b.objects = held_length n f b.objects in
      let one : b.statics + b.literals + length a.objects ≤ a.statics + a.literals + length b.objects = h.counted in
      omega arith;
  more = h.more;
  is = labels_held n f b.objects ∙ h.is;
  each = each_weaker (IsNew a b) _ (new_more a b a _ (omega arith) (omega arith) (omega arith) (omega arith)) h.more h.each;
  differ = λ few. h.differ (record { statics = few.statics; literals = few.literals });
}

-- an object that is laid for a variable
pub record LaidFor (is_static : Bool) (name : List ℕ) (a b : Area) : Type 0 where
  pub object : Object
  pub objects : b.objects ≡ a.objects ++ object ∷ []
  pub label : object.label ≡ label_of is_static name a
  pub literals : b.literals ≡ a.literals
  pub statics : b.statics ≡ (if is_static then a.statics + 1 else a.statics)
  pub measuring : b.measuring ≡ a.measuring

counted_for : (is_static : Bool) (name : List ℕ) (align size : ℕ) (a : Area) (r l : ℕ × Area) → Placed (label_of is_static name a) align size [] a r →
    l ≡ (r.0, counted_static is_static r.1) → LaidFor is_static name a l.1
counted_for true name align size a r l p is = rw (is, p.is)
    (record { object = _; objects = refl; label = refl; literals = refl; statics = refl; measuring = refl })
counted_for false name align size a r l p is = rw (is, p.is)
    (record { object = _; objects = refl; label = refl; literals = refl; statics = refl; measuring = refl })

laid_by : (is_static : Bool) (name : List ℕ) (align size : ℕ) (m : Result (ℕ × Area) Fault) (a : Area) (l : ℕ × Area) →
    (m >>= λ r. Ok (r.0, counted_static is_static r.1)) ≡ Ok l → ((r : ℕ × Area) → m ≡ Ok r → Placed (label_of is_static name a) align size [] a r) →
    LaidFor is_static name a l.1
laid_by is_static name align size (Ok r) a l e h = counted_for is_static name align size a r l (h r refl) (cc)
laid_by is_static name align size (Err f) a l e h = absurd (cc)

pub laid_for : (is_static : Bool) (at : ℕ) (name : List ℕ) (align size : ℕ) (a : Area) (l : ℕ × Area) →
    laid is_static at name align size a ≡ Ok l → LaidFor is_static name a l.1
unfolding laid
laid_for is_static at name align size a l e =
    laid_by is_static name align size _ a l e (λ r is. placed_is at (label_of is_static name a) align size [] a r is)

-- what the declaration of an object lays: the object, and literals behind it
pub record Declared (is_static : Bool) (name : List ℕ) (a b : Area) : Type 0 where
  pub middle : Area
  pub first : LaidFor is_static name a middle
  pub rest : Numbers middle b

module _ (names : List (List ℕ × Entry)) (signatures : List Signature) where
  filled_declared : (is_static : Bool) (a m : Area) (n size : ℕ) (t : CType) (is_array : Bool) (d : ADeclarator) (e : Entry) (s : State) (r : ℕ × State) →
      LaidFor is_static d.name a m → Numbers m s.area → IsFilled names signatures n size t is_array d e s r → Declared is_static d.name a r.1.area
  filled_declared is_static a m n size t is_array d e s r h k j =
      let i = j.typed in
      let held = contents_lay names signatures AnyToken Numbers numbering t is_array (init_in d.init) (any_init (init_in d.init))
      (with_name d.name e s.scope) s.area i.part i.typed in
      let is : r.1.area ≡ j.part = ap (λ (z : ℕ × State). z.1.area) (j.whole) in
      rw (is, i.whole) (record {
        middle = m;
        first = h;
        rest = filled_numbers n (filled_to size i.part.0) m i.part.1 (numbers_further m s.area i.part.1 k held);
      })

  plain_declared : (is_static : Bool) (t : CType) (d : ADeclarator) (s : State) (r : ℕ × State) →
      IsPlainObject names signatures is_static t d s r → Declared is_static d.name s.area r.1.area
  plain_declared is_static t d s r j =
      filled_declared is_static s.area j.part.1 j.part.0 (size_of t) t false d (entries.Variable t (variable_of is_static j.part.0))
      (with_area j.part.1 s) r (laid_for is_static d.at d.name (size_of t) (size_of t) s.area j.part j.typed) (numbers_same j.part.1) j.whole

  counted_declared : (is_static : Bool) (t : CType) (d : ADeclarator) (e : Option AnExp) (n : ℕ) (s : State) (r : ℕ × State) →
      IsCountedArray names signatures is_static t d e n s r → Declared is_static d.name s.area r.1.area
  counted_declared is_static t d e n s r j =
      let k = j.whole in
      filled_declared is_static s.area j.part.1 j.part.0 (n * size_of t) t true d
      (array_entry (pointer_to t) (variable_of is_static j.part.0) (n * size_of t)) (with_area k.part s) r
      (laid_for is_static d.at d.name (size_of t) (n * size_of t) s.area j.part j.typed)
      (literals_lay names signatures AnyToken Numbers numbering e (any_part e) s.scope j.part.1 k.part k.typed) k.whole

  array_declared : (is_static : Bool) (t : CType) (d : ADeclarator) (e : Option AnExp) (s : State) (r : ℕ × State) →
      s.area.measuring ≡ false → IsArrayObject names signatures is_static t d e s r → Declared is_static d.name s.area r.1.area
  array_declared is_static t d e s r free j =
      let k = j.whole in
      let same : j.part.1 ≡ s.area = count_stays names signatures e (init_in d.init) s.scope s.area j.part free j.typed in
      subst (λ (a : Area). Declared is_static d.name a r.1.area) same (counted_declared is_static t d e k.part (with_area j.part.1 s) r k.whole)

  object_by_declared : (is_static : Bool) (t : CType) (d : ADeclarator) (l : Option (Option AnExp)) (s : State) (r : ℕ × State) →
      s.area.measuring ≡ false → IsObjectBy names signatures is_static t d l s r → Declared is_static d.name s.area r.1.area
  object_by_declared is_static t d None s r free j = plain_declared is_static t d s r j
  object_by_declared is_static t d (Some e) s r free j = array_declared is_static t d e s r free j

  -- a global variable or a static local
  pub object_declared : (is_static : Bool) (spec : Spec) (d : ADeclarator) (s : State) (r : ℕ × State) → s.area.measuring ≡ false →
      IsObject names signatures is_static spec d s r → Declared is_static d.name s.area r.1.area
  object_declared is_static spec d s r free j =
      object_by_declared is_static (written spec d.stars) d (brackets_in d.length) s r free j.whole

-- a static local has the next number
pub static_numbers : (name : List ℕ) (a b : Area) → Declared true name a b → Numbers a b
static_numbers name a b h =
    let first = h.first in
    let statics : h.middle.statics ≡ a.statics + 1 = first.statics in
    let literals : h.middle.literals ≡ a.literals = first.literals in
    numbers_further a h.middle b
    (numbers_one a h.middle first.object first.objects (omega arith) (omega arith) (omega arith)
    (OfStatic a.statics (omega arith) (omega arith) first.label)) h.rest
