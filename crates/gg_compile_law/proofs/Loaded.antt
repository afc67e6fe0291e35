-- The code of a program loads.
use Rattle.std.proofs.Common.{◌≡◌, ◌⊎◌, inl, inr, ℕ, zero, suc, ◌+◌, ◌^◌, ◌<◌, ◌≤◌, Bool, true, false, cond, List, [], ◌∷◌, ◌++◌, length, Option, Some, None, refl, sym, ap, subst, ◌∙◌, arith}
use Rattle.std.specs.Prelude.{slice_get, ◌||◌, ◌==◌, nat_lt, nat_le}
use Rattle.std.specs.List.{AllByRecursion}
use Rattle.std.specs.Str.{bytes_eq}
use Rattle.std.proofs.lemmas.Bool.{and_parts, le-ltb, ltb-true, true≢false, false_from_ne_true}
use Rattle.std.proofs.lemmas.List.Elements.{recursion_from_All}
use Rattle.std.proofs.lemmas.Slice.Eq.{bytes_eq-Decides}
use Rattle.std.proofs.lemmas.Option.{same_Some}
use Rattle.std.specs.Option.{option_or}
use Rattle.gg_base.proofs.Facts.{slice_some, or_true}
use Rattle.vax_core.specs.declared.code.Code.{Code}
use Rattle.vax_core.specs.declared.code.CodeItem.{CodeItem}
use Rattle.vax_core.specs.declared.code.AreaItem.{AreaItem}
use Rattle.vax_core.specs.declared.code.AreaItem.TheVariants as areas
use Rattle.vax_machine.specs.declared.loading.LoadFault.TheVariants as loading_fault
use Rattle.vax_machine.specs.Area.{end_from, area_size, is_area_label, has_area_label}
use Rattle.vax_machine.specs.Labels.{is_service, has_label, double_label, double_area_label, undefined_name, undefined_area_label, undefined_label}
use Rattle.vax_machine.specs.Loading.{too_large, or_undefined, or_double, undefined_name_of, double_label_of}
use Rattle.tree_core.specs.declared.program.Link.{Link}
use Rattle.tree_core.specs.declared.program.Object.{Object}
use Rattle.tree_core.specs.declared.program.TreeFn.{TreeFn}
use Rattle.tree_core.specs.declared.program.TreeProgram.{TreeProgram}
use Rattle.tree_core.specs.Valid.{object_lies, objects_lie, link_lies, LinksLie}
use Rattle.tree_core.specs.Names.{label_name, function_label}
use Rattle.gg_compile_law.specs.Areas.{HasNoLabel}
use Rattle.gg_compile_law.specs.Spelling.{power_of, after_zeros, by_byte, label_of, link_addr, spelled, block_of, blocks_of, area_of}
use Rattle.gg_compile_law.specs.Loaded.{AreApart, AssembledLoads}
use Rattle.gg_compile_law.proofs.Areas.{lies, end_behind}
use Rattle.gg_compile_law.proofs.Names.{count, all_count, fun_count, trees_count, from_function_at, from_trees, stands_once, code_labels_differ, main_stands}
use Rattle.gg_compile_law.proofs.Spelling.{choose, plain, aligned_so, block_end, links_fit}

-- ---- labels in an area

only : (x : AreaItem) (xs : List AreaItem) (code : List CodeItem) → ((name : List ℕ) → is_area_label x name ≡ false) → double_area_label (x ∷ xs) code ≡ double_area_label xs code
only (areas.Label n) xs code h = absurd (true≢false (sym ((bytes_eq-Decides n n).1 refl) ∙ h n))
only (areas.Globl n) xs code h = refl
only (areas.Align n) xs code h = refl
only (areas.Byte n) xs code h = refl
only (areas.Word n) xs code h = refl
only (areas.Long n) xs code h = refl
only (areas.Space n) xs code h = refl

plain_double : (xs ys : List AreaItem) (code : List CodeItem) → HasNoLabel xs → double_area_label (xs ++ ys) code ≡ double_area_label ys code
plain_double [] ys code h = refl
plain_double (x ∷ xs) ys code h = only x (xs ++ ys) code h.0 ∙ plain_double xs ys code h.1

plain_has : (xs ys : List AreaItem) (name : List ℕ) → HasNoLabel xs → has_area_label (xs ++ ys) name ≡ has_area_label ys name
plain_has [] ys name h = refl
plain_has (x ∷ xs) ys name h = ap (λ (b : Bool). b || has_area_label (xs ++ ys) name) (h.0 name) ∙ plain_has xs ys name h.1

module _ (all : List Object) where
  block_has : (o : Object) (ys : List AreaItem) (name : List ℕ) → has_area_label (block_of all o ++ ys) name ≡ (bytes_eq o.label name || has_area_label ys name)
  block_has o ys name = ap (λ (b : Bool). bytes_eq o.label name || b) (plain_has (spelled all 0 0 o.links 0 o.bytes) ys name (plain all 0 0 o.links 0 o.bytes))

  -- a label of an area is an object's
  from_object : (os : List Object) (name : List ℕ) → has_area_label (blocks_of all os) name ≡ true → (k : ℕ) × (o : Object) × (slice_get os k ≡ Some o) × (o.label ≡ name)
  from_object [] name h = absurd (true≢false (sym h))
  from_object (o ∷ os) name h = by (bytes_eq o.label name) refl (sym (block_has o (blocks_of all os) name) ∙ h) (λ g. from_object os name g)
    where
      by : (b : Bool) → bytes_eq o.label name ≡ b → (b || has_area_label (blocks_of all os) name) ≡ true
          → (has_area_label (blocks_of all os) name ≡ true → (k : ℕ) × (p : Object) × (slice_get os k ≡ Some p) × (p.label ≡ name))
          → (k : ℕ) × (p : Object) × (slice_get (o ∷ os) k ≡ Some p) × (p.label ≡ name)
      by true e g more = (0, o, refl, (bytes_eq-Decides o.label name).0 e)
      by false e g more = let m = more g in (suc m.0, m.1, m.2, m.3)

  -- each object's label is there
  pub has_object : (os : List Object) (k : ℕ) (o : Object) → slice_get os k ≡ Some o → has_area_label (blocks_of all os) o.label ≡ true
  has_object [] zero o is = absurd cc
  has_object [] (suc k) o is = absurd cc
  has_object (x ∷ os) zero o is =
      let same : x ≡ o = same_Some x o is in
      block_has x (blocks_of all os) o.label ∙ ap (λ (b : Bool). b || has_area_label (blocks_of all os) o.label) ((bytes_eq-Decides x.label o.label).1 (ap (λ (y : Object). y.label) same))
  has_object (x ∷ os) (suc k) o is = block_has x (blocks_of all os) o.label ∙ ap (λ (b : Bool). bytes_eq x.label o.label || b) (has_object os k o is) ∙ or_true (bytes_eq x.label o.label)

  -- ---- no label stands twice

  module _ (code : List CodeItem) where
    no_double : (os : List Object) → ((i j : ℕ) (o p : Object) → slice_get os i ≡ Some o → slice_get os j ≡ Some p → o.label ≡ p.label → i ≡ j)
        → ((i : ℕ) (o : Object) → slice_get os i ≡ Some o → is_service o.label ≡ false) → ((i : ℕ) (o : Object) → slice_get os i ≡ Some o → has_label code o.label ≡ false)
        → double_area_label (blocks_of all os) code ≡ None
    no_double [] differ services others = refl
    no_double (o ∷ os) differ services others =
        let content = spelled all 0 0 o.links 0 o.bytes in
        let no_label = plain all 0 0 o.links 0 o.bytes in
        let again : has_area_label (content ++ blocks_of all os) o.label ≡ false =
        plain_has content (blocks_of all os) o.label no_label
        ∙ false_from_ne_true (has_area_label (blocks_of all os) o.label) (λ e. let m = from_object os o.label e in twice (differ 0 (suc m.0) o m.1 refl m.2 (sym m.3))) in
        ap (λ (b : Bool). cond (b || (has_area_label (content ++ blocks_of all os) o.label || has_label code o.label)) (Some o.label) (double_area_label (content ++ blocks_of all os) code))
        (services 0 o refl)
        ∙ ap (λ (b : Bool). cond (b || has_label code o.label) (Some o.label) (double_area_label (content ++ blocks_of all os) code)) again
        ∙ ap (λ (b : Bool). cond b (Some o.label) (double_area_label (content ++ blocks_of all os) code)) (others 0 o refl)
        ∙ plain_double content (blocks_of all os) code no_label
        ∙ no_double os (λ i j x y a b e. back i j (differ (suc i) (suc j) x y a b e)) (λ i x e. services (suc i) x e) (λ i x e. others (suc i) x e)
      where
        twice : {n : ℕ} → 0 ≡ suc n → ⊥
        twice e = omega (arith, e)

        back : (i j : ℕ) → suc i ≡ suc j → i ≡ j
        back i j e = omega (arith, e)

  -- ---- each `.long` names a label

  module _ (whole : List AreaItem) (there : (k : ℕ) (o : Object) → slice_get all k ≡ Some o → has_area_label whole o.label ≡ true) where
    Named : List AreaItem → Type 0
    Named xs = undefined_area_label xs whole ≡ None

    named_end : Named []
    unfolding Named
    named_end = refl

    named_zeros : (z : ℕ) (xs : List AreaItem) → Named xs → Named (after_zeros z xs)
    unfolding Named
    named_zeros zero xs h = h
    named_zeros (suc n) xs h = h

    named_byte : (z : ℕ) (go : ℕ → List AreaItem) (b : ℕ) → ((k : ℕ) → Named (go k)) → Named (by_byte z go b)
    unfolding Named
    named_byte z go zero h = h (suc z)
    named_byte z go (suc c) h = named_zeros z (areas.Byte (suc c) ∷ go 0) (h 0)

    defined : (l : Link) → l.object < length all → undefined_name whole (Some (label_of (slice_get all l.object))) ≡ None
    defined l lt =
        let x = slice_some all l.object lt in
        ap (λ (o : Option Object). undefined_name whole (Some (label_of o))) x.1 ∙ ap (λ (b : Bool). cond b None (Some x.0.label)) (there l.object x.0 x.1)

    named_link : (l : Link) (xs : List AreaItem) → l.object < length all → Named xs → Named (areas.Long (link_addr all l) ∷ xs)
    unfolding Named
    named_link l xs lt h = ap (λ (o : Option (List ℕ)). option_or o (undefined_area_label xs whole)) (defined l lt) ∙ h

    abbrev LinksName : List Link → Type 0
    LinksName [] = Unit {0}
    LinksName (l ∷ ls) = (l.object < length all) × LinksName ls

    named_all : (passed zeros : ℕ) (ls : List Link) (at : ℕ) (bs : List ℕ) → LinksName ls → Named (spelled all passed zeros ls at bs)
    named_all passed zeros ls at [] h = named_zeros zeros [] named_end
    named_all (suc p) zeros ls at (b ∷ bs) h = named_all p zeros ls (at + 1) bs h
    named_all zero zeros [] at (b ∷ bs) h = named_byte zeros (λ (z : ℕ). spelled all zero z [] (at + 1) bs) b (λ z. named_all zero z [] (at + 1) bs h)
    named_all zero zeros (l ∷ ls) at (b ∷ bs) h =
        choose Named (l.at == at) _ _
        (λ t. named_zeros zeros (areas.Long (link_addr all l) ∷ spelled all 3 0 ls (at + 1) bs) (named_link l (spelled all 3 0 ls (at + 1) bs) h.0 (named_all 3 0 ls (at + 1) bs h.1)))
        (λ f. named_byte zeros (λ (z : ℕ). spelled all zero z (l ∷ ls) (at + 1) bs) b (λ z. named_all zero z (l ∷ ls) (at + 1) bs h))

    named_behind : (xs ys : List AreaItem) → Named xs → Named ys → Named (xs ++ ys)
    unfolding Named
    named_behind [] ys h g = g
    named_behind (areas.Label n ∷ xs) ys h g = named_behind xs ys h g
    named_behind (areas.Globl n ∷ xs) ys h g = named_behind xs ys h g
    named_behind (areas.Align n ∷ xs) ys h g = named_behind xs ys h g
    named_behind (areas.Byte n ∷ xs) ys h g = named_behind xs ys h g
    named_behind (areas.Word n ∷ xs) ys h g = named_behind xs ys h g
    named_behind (areas.Space n ∷ xs) ys h g = named_behind xs ys h g
    named_behind (areas.Long a ∷ xs) ys h g = by (undefined_name whole a.name) h (λ k. named_behind xs ys k g)
      where
        by : (o : Option (List ℕ)) → option_or o (undefined_area_label xs whole) ≡ None → (undefined_area_label xs whole ≡ None → undefined_area_label (xs ++ ys) whole ≡ None)
            → option_or o (undefined_area_label (xs ++ ys) whole) ≡ None
        by None k more = more k
        by (Some n) k more = absurd (cc)

    links_name : (size : ℕ) (ls : List Link) → AllByRecursion (λ l. link_lies (length all) size l ≡ true) ls → LinksName ls
    links_name size [] h = tt
    links_name size (l ∷ ls) h = (ltb-true l.object (length all) (and_parts (nat_le (l.at + 4) size) (nat_lt l.object (length all)) h.0).1, links_name size ls h.1)

    named_blocks : (os : List Object) → AllByRecursion (LinksLie (length all)) os → Named (blocks_of all os)
    unfolding Named
    named_blocks [] h = refl
    named_blocks (o ∷ os) h =
        named_behind (block_of all o) (blocks_of all os)
        (named_all 0 0 o.links 0 o.bytes (links_name o.size o.links (recursion_from_All (λ k. link_lies (length all) o.size k ≡ true) o.links h.0.0)))
        (named_blocks os h.1)

  -- ---- the size

  size_low : (os : List Object) (at : ℕ) → objects_lie at os ≡ true → AllByRecursion (LinksLie (length all)) os → at ≤ 1114112 → end_from (blocks_of all os) at ≤ 1114112
  size_low [] at h links low = low
  size_low (o ∷ os) at h links low =
      let a = and_parts (object_lies at o) (objects_lie (o.address + o.size) os) h in
      let l = lies o at (power_of o.align) (aligned_so o at a.0) a.0 in
      let fits = links_fit all (length all) (o ∷ os) links in
      let rest = size_low os (o.address + o.size) a.1 links.1 l.high in
      subst (λ (n : ℕ). n ≤ 1114112) (sym (end_behind (block_of all o) (blocks_of all os) at ∙ ap (λ (k : ℕ). end_from (blocks_of all os) k) (block_end all o at l fits.0))) rest

-- ---- the whole

-- no label of the code is an object's
no_code_label : (program : TreeProgram) (c : Code) → AreApart program.objects program.functions → (i : ℕ) (o : Object) → slice_get program.objects i ≡ Some o
    → count o.label c.items ≡ fun_count o.label program.functions + trees_count o.label program.functions
    → (fun_count o.label program.functions ≡ 0) ⊎ ((k : ℕ) × (f : TreeFn) × (slice_get program.functions k ≡ Some f) × (function_label f.name ≡ o.label))
    → (trees_count o.label program.functions ≡ 0) ⊎ ((l : ℕ) × (l < 2 ^ 64) × (label_name l ≡ o.label)) → has_label c.items o.label ≡ false
no_code_label program c apart i o is e (inr x) t = absurd (apart.functions i x.0 o x.1 is x.2 x.3)
no_code_label program c apart i o is e (inl z) (inr t) = absurd (apart.trees i t.0 o is t.2)
no_code_label program c apart i o is e (inl z) (inl y) = false_from_ne_true (has_label c.items o.label) (λ h. let lt = stands_once o.label c.items h in omega (arith, e, z, y, lt))

area_named : (program : TreeProgram) (c : Code) → ((k : ℕ) (o : Object) → slice_get program.objects k ≡ Some o → has_area_label c.area o.label ≡ true)
    → AllByRecursion (LinksLie (length program.objects)) program.objects → undefined_area_label (area_of program.objects) c.area ≡ None
unfolding Named
area_named program c labels links = named_blocks program.objects c.area labels program.objects links

pub assembled_loads : AssembledLoads
assembled_loads program c valid small apart functions area names =
    let os = program.objects in
    let links = recursion_from_All (LinksLie (length os)) os valid.links in
    let none_there : (i : ℕ) (o : Object) → slice_get os i ≡ Some o → has_label c.items o.label ≡ false =
    λ i o is. no_code_label program c apart i o is (all_count program o.label program.functions c.items functions) (from_function_at o.label program.functions)
    (from_trees o.label program.functions small) in
    let double_area : double_area_label c.area c.items ≡ None = ap (λ (x : List AreaItem). double_area_label x c.items) area ∙ no_double os c.items os apart.differ apart.services none_there in
    let double_code = code_labels_differ program c.items valid small functions in
    let double : double_label_of c ≡ None = ap (λ (o : Option (List ℕ)). option_or o (double_label c.items)) double_area ∙ double_code in
    let labels : (k : ℕ) (o : Object) → slice_get os k ≡ Some o → has_area_label c.area o.label ≡ true =
    λ k o is. ap (λ (x : List AreaItem). has_area_label x o.label) area ∙ has_object os os k o is in
    let named_area : undefined_area_label c.area c.area ≡ None = ap (λ (x : List AreaItem). undefined_area_label x c.area) area ∙ area_named program c labels links in
    let named : undefined_name_of c ≡ None = ap (λ (o : Option (List ℕ)). option_or o (undefined_label c.items c.area c.items)) named_area ∙ names in
    let main = main_stands program c.items valid functions in
    let low : end_from (area_of os) 65536 ≤ 1114112 = size_low os os 65536 valid.objects links (omega arith) in
    let small_area : nat_lt 1048576 (area_size c.area) ≡ false = ap (λ (x : List AreaItem). nat_lt 1048576 (area_size x)) area ∙ le-ltb 1048576 (area_size (area_of os)) (omega (arith, low)) in
    ap (λ (o : Option (List ℕ)). or_double o c) double
    ∙ ap (λ (o : Option (List ℕ)). or_undefined o c) named
    ∙ ap (λ (b : Bool). cond b (too_large c) (Some loading_fault.NoMain)) main
    ∙ ap (λ (b : Bool). cond b (Some loading_fault.TooLarge) None) small_area
