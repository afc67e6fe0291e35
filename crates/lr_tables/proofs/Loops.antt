-- One turn of each loop that computes a definition.
use Rattle.std.proofs.Common.{◌≡◌, ℕ, zero, suc, ⊎_elim, ◌+◌, ◌≤◌, ◌<◌, List, [], ◌∷◌, ◌++◌, Option, Some, None, Result, Err, Bool, true, false, cond, length}
use Rattle.std.proofs.Common.{slice_get, refl, sym, ap, ap₂, ◌∙◌, subst, arith, length-append}
use Rattle.std.specs.Prelude.{Vec, ◌==◌, ◌||◌, not, nat_lt, position}
use Rattle.std.specs.declared.alloc.Global.{Global}
use Rattle.std.specs.List.{list_any, prefix_len, position_or_len}
use Rattle.std.specs.Option.{option_map, option_map_or}
use Rattle.std.specs.Cmp.Lexicographic.{pointwise}
use Rattle.std.proofs.lemmas.List.{map_push, length-map}
use Rattle.std.proofs.lemmas.Option.{slice_get_within, slice_get-map}
use Rattle.std.proofs.lemmas.Bool.{cases_lt, eqb-false}
use Rattle.indexmap.specs.IndexSet.{insert_key}
use Rattle.md_reader.specs.declared.types.Rule.{Rule}
use Rattle.md_reader.specs.declared.types.Sym.{Sym}
use Rattle.lr_tables.specs.declared.item.Item.{Item}
use Rattle.lr_tables.specs.declared.numbering.BuildFault.{BuildFault}
use Rattle.lr_tables.specs.Symbols.{symbol_number}
use Rattle.lr_tables.specs.Items.{right_of, right_at, next, start}
use Rattle.lr_tables.specs.Grammar.{IsShort}
use Rattle.lr_tables.specs.Sets.{chains, item_set, moved}
use Rattle.lr_tables.specs.Numbering.{same_item, same_kernel, kernels, entered, row_entered, followed, found, IsOver}
use Rattle.lr_tables.specs.Rows.{target_of}

pub stands_some : (o : Option Sym) (X : Sym) (s : ℕ) → Some X ≡ o → (symbol_number X == s) ≡ option_map_or (λ (Y : Sym). symbol_number Y == s) o false
stands_some o X s e = ap (λ (p : Option Sym). option_map_or (λ (Y : Sym). symbol_number Y == s) p false) e

pub stands_none : (o : Option Sym) (s : ℕ) → None ≡ o → false ≡ option_map_or (λ (Y : Sym). symbol_number Y == s) o false
stands_none o s e = ap (λ (p : Option Sym). option_map_or (λ (Y : Sym). symbol_number Y == s) p false) e

-- the dot of an item before a symbol
pub short_dot : (rules : List Rule) (stmt : ℕ) (i : Item) (X : Sym) → IsShort rules → next rules stmt i ≡ Some X → i.dot < 16
short_dot rules stmt i X s e = by i.rule refl
  where
    at : (o : Option Rule) → ((r : Rule) → o ≡ Some r → length r.right ≤ 16) → slice_get (right_at o) i.dot ≡ Some X → i.dot < 16
    at None h g = let lt : i.dot < 0 = slice_get_within [] i.dot X g in omega arith
    at (Some r) h g = let lt : i.dot < length r.right = slice_get_within r.right i.dot X g in let le : length r.right ≤ 16 = h r refl in omega arith

    by : (o : Option ℕ) → i.rule ≡ o → i.dot < 16
    by None f = let lt : i.dot < length (right_of rules stmt i.rule) = slice_get_within (right_of rules stmt i.rule) i.dot X e in
        let two : length (right_of rules stmt i.rule) ≡ 2 = ap (λ o. length (right_of rules stmt o)) f in omega (arith, lt, two)
    by (Some n) f = at (slice_get rules n) (λ r g. s.each n r g) (subst (λ o. slice_get (right_of rules stmt o) i.dot ≡ Some X) f e)

-- a test that holds has its symbol
pub stands_next : (o : Option Sym) (s : ℕ) → option_map_or (λ (Y : Sym). symbol_number Y == s) o false ≡ true → (X : Sym) × (o ≡ Some X)
stands_next None s e = cc
stands_next (Some X) s e = (X, refl)

-- keys with their vectors' items
abbrev VecSame : Vec Item Global → Vec Item Global → Bool
VecSame v w = pointwise same_item v.items w.items

any_kernels : (v : Vec Item Global) (ks : List (Vec Item Global)) → list_any (VecSame v) ks ≡ list_any (same_kernel v.items) (kernels ks)
any_kernels v [] = refl
any_kernels v (k ∷ ks) = ap (λ b. VecSame v k || b) (any_kernels v ks)

pub kernels_insert : (ks : List (Vec Item Global)) (v : Vec Item Global) → kernels (insert_key VecSame ks v) ≡ insert_key same_kernel (kernels ks) v.items
kernels_insert ks v = by (list_any (VecSame v) ks) refl
  where
    by : (b : Bool) → list_any (VecSame v) ks ≡ b → kernels (cond b ks (ks ++ v ∷ [])) ≡ cond (list_any (same_kernel v.items) (kernels ks)) (kernels ks) (kernels ks ++ v.items ∷ [])
    by true e = ap (λ b. cond b (kernels ks) (kernels ks ++ v.items ∷ [])) (sym e ∙ any_kernels v ks)
    by false e = map_push (λ (w : Vec Item Global). w.items) ks v ∙ ap (λ b. cond b (kernels ks) (kernels ks ++ v.items ∷ [])) (sym e ∙ any_kernels v ks)

pub entered_some : (ks : List (List Item)) (k : List Item) → 0 < length k → entered ks k ≡ insert_key same_kernel ks k
entered_some ks [] lt = absurd (omega arith)
entered_some ks (i ∷ k) lt = refl

-- kernels that are known stay
pub length-entered : (ks : List (List Item)) (k : List Item) → length ks ≤ length (entered ks k)
length-entered ks [] = omega arith
length-entered ks (i ∷ k) = by (list_any (same_kernel (i ∷ k)) ks)
  where
    by : (b : Bool) → length ks ≤ length (cond b ks (ks ++ (i ∷ k) ∷ []))
    by true = omega arith
    by false = let l = length-append ks ((i ∷ k) ∷ []) in omega (arith, l)

row_more : (rules : List Rule) (stmt : ℕ) (items : List Item) (ks : List (List Item)) (n : ℕ) → length (row_entered rules stmt items ks n) ≤ length (row_entered rules stmt items ks (suc n))
row_more rules stmt items ks n = length-entered (row_entered rules stmt items ks n) (moved rules stmt n items)

-- so a row that is too long stays so
pub row_over : (rules : List Rule) (stmt : ℕ) (items : List Item) (ks : List (List Item)) (most n m : ℕ) → n ≤ m → most < length (row_entered rules stmt items ks n)
    → most < length (row_entered rules stmt items ks m)
row_over rules stmt items ks most n zero le h = subst (λ x. most < length (row_entered rules stmt items ks x)) (let e : n ≡ 0 = omega arith in e) h
row_over rules stmt items ks most n (suc m) le h =
    ⊎_elim
    (λ lt. let u : most < length (row_entered rules stmt items ks m) = row_over rules stmt items ks most n m (omega arith) h in let g = row_more rules stmt items ks m in omega (arith, u, g))
    (λ ge. subst (λ x. most < length (row_entered rules stmt items ks x)) (let e : n ≡ suc m = omega arith in e) h)
    (cases_lt n (suc m))

-- what was entered behind one more symbol
pub row_turn : (rules : List Rule) (stmt : ℕ) (items : List Item) (ks : List (List Item)) (n : ℕ) (old new : List (List Item)) (kernel : List Item) → old
    ≡ row_entered rules stmt items ks n → kernel ≡ moved rules stmt n items → new ≡ entered old kernel → new ≡ row_entered rules stmt items ks (n + 1)
row_turn rules stmt items ks n old new kernel e f g = g ∙ ap (λ (x : List (List Item)). entered x kernel) e ∙ ap (entered (row_entered rules stmt items ks n)) f
    ∙ ap (row_entered rules stmt items ks) (let z : suc n ≡ n + 1 = omega arith in z)

pub row_full : (rules : List Rule) (stmt : ℕ) (items : List Item) (ks : List (List Item)) (n m most : ℕ) (keys : List (Vec Item Global)) → kernels keys
    ≡ row_entered rules stmt items ks (n + 1) → most < length keys → n < m → most < length (row_entered rules stmt items ks m)
row_full rules stmt items ks n m most keys e h lt =
    row_over rules stmt items ks most (n + 1) m (omega (arith, lt)) (subst (λ x. most < x) (sym (length-map keys (λ (v : Vec Item Global). v.items)) ∙ ap (λ (x : List (List Item)). length x) e) h)

-- a kernel that is not empty
pub not_empty : {X : Type 0} (l : List X) (n : ℕ) → n ≡ length l → (n == 0) ≡ false → 0 < length l
not_empty l n e h = let u : n ≡ 0 → ⊥ = eqb-false n 0 h in omega (arith, u, e)

-- the first kernel
pub found_first : (rules : List Rule) (stmt classes : ℕ) (old new : List (List Item)) (k : List Item) → old ≡ [] → k ≡ start ∷ [] → new ≡ entered old k → new ≡ found rules stmt classes 0
unfolding found
found_first rules stmt classes old new k e f g = g ∙ ap (λ (x : List (List Item)). entered x k) e ∙ ap (entered []) f

pub first_many : (rules : List Rule) (stmt classes : ℕ) (keys : List (Vec Item Global)) → kernels keys ≡ found rules stmt classes 0 → length keys ≡ 1
unfolding found
first_many rules stmt classes keys e = sym (length-map keys (λ (v : Vec Item Global). v.items)) ∙ ap (λ (x : List (List Item)). length x) e

-- one more kernel is followed
pub found_turn : (rules : List Rule) (stmt classes at : ℕ) (old new : List (List Item)) (k items : List Item) → old ≡ found rules stmt classes at → slice_get old at ≡ Some k → items
    ≡ item_set rules stmt classes (chains rules) k → new ≡ row_entered rules stmt items old (40 + classes) → new ≡ found rules stmt classes (at + 1)
unfolding found
found_turn rules stmt classes at old new k items e f g h =
    let u : slice_get (found rules stmt classes at) at ≡ Some k = subst (λ (x : List (List Item)). slice_get x at ≡ Some k) e f in
    h ∙ ap (λ (x : List Item). row_entered rules stmt x old (40 + classes)) g ∙ ap (λ (x : List (List Item)). row_entered rules stmt (item_set rules stmt classes (chains rules) k) x (40 + classes)) e
    ∙ ap (followed rules stmt classes (found rules stmt classes at)) (sym u) ∙ ap (found rules stmt classes) (let z : suc at ≡ at + 1 = omega arith in z)

pub kernel_read : (keys : List (Vec Item Global)) (at : ℕ) (v : Vec Item Global) (k : List Item) → Some v ≡ slice_get keys at → k ≡ v.items → slice_get (kernels keys) at ≡ Some k
kernel_read keys at v k e f = slice_get-map (λ (w : Vec Item Global). w.items) keys at ∙ ap (option_map (λ (w : Vec Item Global). w.items)) (sym e) ∙ ap Some (sym f)

length-row : (rules : List Rule) (stmt : ℕ) (items : List Item) (ks : List (List Item)) (n : ℕ) → length ks ≤ length (row_entered rules stmt items ks n)
length-row rules stmt items ks zero = omega arith
length-row rules stmt items ks (suc n) = let a = length-row rules stmt items ks n in let b = row_more rules stmt items ks n in omega (arith, a, b)

pub keys_grow : (rules : List Rule) (stmt : ℕ) (items : List Item) (n at : ℕ) (old new : List (Vec Item Global)) (v : Vec Item Global) → Some v ≡ slice_get old at → kernels new
    ≡ row_entered rules stmt items (kernels old) n → at + 1 ≤ length new
keys_grow rules stmt items n at old new v e h =
    let lt : at < length old = slice_get_within old at v (sym e) in
    let a = length-row rules stmt items (kernels old) n in
    let b : length (kernels new) ≡ length (row_entered rules stmt items (kernels old) n) = ap (λ (x : List (List Item)). length x) h in
    let c = length-map old (λ (w : Vec Item Global). w.items) in
    let d = length-map new (λ (w : Vec Item Global). w.items) in
    omega (arith, lt, a, b, c, d)

pub found_over : (rules : List Rule) (stmt classes at : ℕ) (old : List (List Item)) (k items : List Item) → old ≡ found rules stmt classes at → slice_get old at ≡ Some k → items
    ≡ item_set rules stmt classes (chains rules) k → 4096 < length (row_entered rules stmt items old (40 + classes)) → IsOver rules stmt classes
found_over rules stmt classes at old k items e f g h = record {
  at = at
      + 1;
  over = subst (λ (x : List (List Item)). 4096 < length x) (found_turn rules stmt classes at old (row_entered rules stmt items old (40 + classes)) k items e f g refl) h;
}

-- the place of a kernel among the keys
prefix-kernels : (p : List Item → Bool) (ks : List (Vec Item Global)) → prefix_len p (kernels ks) ≡ prefix_len (λ (v : Vec Item Global). p v.items) ks
prefix-kernels p [] = refl
prefix-kernels p (v ∷ ks) = ap (λ n. cond (p v.items) (1 + n) 0) (prefix-kernels p ks)

pub position-kernels : (p : List Item → Bool) (ks : List (Vec Item Global)) → position (λ (v : Vec Item Global). p v.items) ks ≡ position p (kernels ks)
position-kernels p ks =
    let a : position_or_len p (kernels ks) ≡ position_or_len (λ (v : Vec Item Global). p v.items) ks = prefix-kernels (λ x. not (p x)) ks in
    ap₂ (λ (m n : ℕ). cond (nat_lt m n) (Some m) None) (sym a) (sym (length-map ks (λ (v : Vec Item Global). v.items)))

pub target_some : (ks : List (List Item)) (k : List Item) → 0 < length k → target_of ks k ≡ position (same_kernel k) ks
target_some ks [] lt = absurd (omega arith)
target_some ks (i ∷ k) lt = refl

pub target_read : (keys : List (Vec Item Global)) (k : List Item) (o : Option ℕ) → 0 < length k → o ≡ position (λ (v : Vec Item Global). same_kernel k v.items) keys → o ≡ target_of (kernels keys) k
target_read keys k o lt e = e ∙ position-kernels (same_kernel k) keys ∙ sym (target_some (kernels keys) k lt)

pub err_same : {X : Type 0} (x y : BuildFault) → ◌≡◌ {A = Result X BuildFault} (Err x) (Err y) → x ≡ y
err_same x y e = cc
