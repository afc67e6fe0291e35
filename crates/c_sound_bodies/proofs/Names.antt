-- What names in scope stand for.
use Rattle.std.proofs.Common.{◌≡◌, ℕ, ◌-◌, ◌<◌, ◌≤◌, Bool, true, false, List, [], ◌∷◌, ◌++◌, length, take, Option, Some, None, refl, length-append, arith}
use Rattle.std.proofs.Math.Seq.{get_or-append_seam}
use Rattle.std.specs.Prelude.{if◌then◌else◌, slice_index_or}
use Rattle.std.specs.Str.{bytes_eq}
use Rattle.gg_base.proofs.Facts.{take_front}
use Rattle.c_types.specs.declared.typed.Variable.{Variable}
use Rattle.c_types.specs.declared.typed.Variable.TheVariants as variables
use Rattle.c_typed_scope.specs.declared.entry.Entry.{Entry}
use Rattle.c_typed_scope.specs.declared.entry.Entry.TheVariants as entries
use Rattle.c_typed_scope.specs.Scopes.{Scope, find, later, find_outer, lookup, with_name, enter, leave}
use Rattle.c_sound_bodies.specs.States.{IsKnown, OfVariable, NamesOf, BlocksOf, ScopeOf}

found_by : (Q : Entry → Type 0) (test : Bool) (x e : Entry) (o : Option Entry) → (if test then Some x else o) ≡ Some e → Q x →
    (o ≡ Some e → Q e) → Q e
found_by Q true x e o is here rest = let same : e ≡ x = cc in rw same here
found_by Q false x e o is here rest = rest is

found_in : (known : Variable → ℕ → Type 0) (es : List (List ℕ × Entry)) (n : List ℕ) (e : Entry) → NamesOf known es → find es n ≡ Some e →
    OfVariable known e
found_in known [] n e all is = absurd (cc)
found_in known (x ∷ es) n e all is = found_by (OfVariable known) (bytes_eq n x.0) x.1 e (find es n) is (all.0)
    (λ rest. found_in known es n e all.1 rest)

later_by : (Q : Entry → Type 0) (o p : Option Entry) (e : Entry) → later o p ≡ Some e → (o ≡ Some e → Q e) → (p ≡ Some e → Q e) → Q e
later_by Q None p e is first second = second is
later_by Q (Some x) p e is first second = first is

found_outside : (known : Variable → ℕ → Type 0) (bs : List (List (List ℕ × Entry))) (n : List ℕ) (e : Entry) → BlocksOf known bs →
    find_outer bs n ≡ Some e → OfVariable known e
found_outside known [] n e all is = absurd (cc)
found_outside known (b ∷ bs) n e all is = later_by (OfVariable known) (find_outer bs n) (find b n) e is
    (λ h. found_outside known bs n e all.1 h) (λ h. found_in known b n e all.0 h)

-- what a name in scope stands for is known
pub found : (known : Variable → ℕ → Type 0) (s : Scope) (n : List ℕ) (e : Entry) → ScopeOf known s → lookup s n ≡ Some e → OfVariable known e
unfolding lookup
found known s n e all is = later_by (OfVariable known) (find s.here n) (find_outer s.outer n) e is
    (λ h. found_in known s.here n e all.here h) (λ h. found_outside known s.outer n e all.outer h)

pub variable_more : (k l : Variable → ℕ → Type 0) → ((v : Variable) (n : ℕ) → k v n → l v n) → (e : Entry) → OfVariable k e → OfVariable l e
variable_more k l f (entries.Variable t v) h = f v 0 h
variable_more k l f (entries.Array t v size) h = f v size h
variable_more k l f (entries.Function n) h = tt

names_more : (k l : Variable → ℕ → Type 0) → ((v : Variable) (n : ℕ) → k v n → l v n) → (es : List (List ℕ × Entry)) → NamesOf k es → NamesOf l es
names_more k l f [] all = tt
names_more k l f (e ∷ es) all = (variable_more k l f e.1 all.0, names_more k l f es all.1)

blocks_more : (k l : Variable → ℕ → Type 0) → ((v : Variable) (n : ℕ) → k v n → l v n) → (bs : List (List (List ℕ × Entry))) → BlocksOf k bs → BlocksOf l bs
blocks_more k l f [] all = tt
blocks_more k l f (b ∷ bs) all = (names_more k l f b all.0, blocks_more k l f bs all.1)

-- where more is known
pub scope_more : (k l : Variable → ℕ → Type 0) (s : Scope) → ((v : Variable) (n : ℕ) → k v n → l v n) → ScopeOf k s → ScopeOf l s
scope_more k l s f all = record { here = names_more k l f s.here all.here; outer = blocks_more k l f s.outer all.outer }

names_add : (known : Variable → ℕ → Type 0) (es : List (List ℕ × Entry)) (n : List ℕ) (e : Entry) → NamesOf known es → OfVariable known e →
    NamesOf known (es ++ (n, e) ∷ [])
names_add known [] n e all h = (h, tt)
names_add known (x ∷ es) n e all h = (all.0, names_add known es n e all.1 h)

blocks_add : (known : Variable → ℕ → Type 0) (bs : List (List (List ℕ × Entry))) (b : List (List ℕ × Entry)) → BlocksOf known bs →
    NamesOf known b → BlocksOf known (bs ++ b ∷ [])
blocks_add known [] b all h = (h, tt)
blocks_add known (x ∷ bs) b all h = (all.0, blocks_add known bs b all.1 h)

-- one more name
pub scope_named : (known : Variable → ℕ → Type 0) (s : Scope) (n : List ℕ) (e : Entry) → ScopeOf known s → OfVariable known e →
    ScopeOf known (with_name n e s)
unfolding with_name
scope_named known s n e all h = record { here = names_add known s.here n e all.here h; outer = all.outer }

pub named_outer : (n : List ℕ) (e : Entry) (s : Scope) → (with_name n e s).outer ≡ s.outer
unfolding with_name
named_outer n e s = refl

-- one more block
pub scope_entered : (known : Variable → ℕ → Type 0) (s : Scope) → ScopeOf known s → ScopeOf known (enter s)
unfolding enter
scope_entered known s all = record { here = tt; outer = blocks_add known s.outer s.here all.outer all.here }

end_of : {A : Type 0} (xs : List A) (x : A) → length (xs ++ x ∷ []) - 1 ≡ length xs
end_of xs x = omega (arith, length-append xs (x ∷ []))

index_at : {A : Type 0} (xs : List A) (x y : A) → slice_index_or (xs ++ x ∷ []) (length xs) y ≡ x
index_at xs x y = get_or-append_seam xs x [] y

index_behind : {A : Type 0} (xs : List A) (x y : A) → slice_index_or (xs ++ x ∷ []) (length (xs ++ x ∷ []) - 1) y ≡ x
index_behind xs x y = rw (end_of xs x) (index_at xs x y)

-- a block that ends leaves what was in scope where it began
pub left_scope : (s r : Scope) → r.outer ≡ (enter s).outer → leave r ≡ s
unfolding enter leave
left_scope s r is =
    let first : take (length r.outer - 1) r.outer ≡ s.outer = rw is (take_front s.outer s.here) in
    let last : slice_index_or r.outer (length r.outer - 1) r.here ≡ s.here = rw is (index_behind s.outer s.here r.here) in
    rw (first, last) refl

-- with more locals, objects and bytes of memory locals, and another local in scope
pub known_more : (scope other : ℕ → Type 0) (locals parameters objects block many_locals many room : ℕ) → ((n : ℕ) → scope n → other n) →
    locals ≤ many_locals → objects ≤ many → block ≤ room → (v : Variable) (size : ℕ) → IsKnown scope locals parameters objects block v size →
    IsKnown other many_locals parameters many room v size
known_more scope other locals parameters objects block many_locals many room f l o k (variables.Automatic n) size h =
    let below : n < locals = h.1 in (f n h.0, omega arith, h.2)
known_more scope other locals parameters objects block many_locals many room f l o k (variables.Parameter n) size h = h
known_more scope other locals parameters objects block many_locals many room f l o k (variables.Global n) size h =
    let below : n < objects = h.0 in (omega arith, h.1)
known_more scope other locals parameters objects block many_locals many room f l o k (variables.Static n) size h =
    let below : n < objects = h.0 in (omega arith, h.1)
known_more scope other locals parameters objects block many_locals many room f l o k (variables.InBlock x) size h =
    let below : x < block = h.0 in
    let within : size ≤ block = h.1 in
    (omega arith, omega arith)
