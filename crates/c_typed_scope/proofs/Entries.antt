-- The entries of a map as a list of names.
use Rattle.std.proofs.Common.{◌≡◌, ℕ, Bool, true, false, cond, List, [], ◌∷◌, ◌++◌, Option, Some, None, refl, ap}
use Rattle.std.specs.Global.{Vec}
use Rattle.std.specs.Str.{bytes_eq}
use Rattle.std.specs.Map.{lookup}
use Rattle.indexmap.specs.IndexMap.{insert_entry}
use Rattle.c_typed_scope.specs.declared.entry.Entry.{Entry}
use Rattle.c_typed_scope.specs.Scopes.{named_entries, find}

pub find_is : (q : List ℕ) (es : List (Vec ℕ × Entry)) → lookup (λ (k : Vec ℕ). bytes_eq q k.items) es ≡ find (named_entries es) q
find_is q [] = refl
find_is q (e ∷ es) = ap (λ o. cond (bytes_eq q e.0.items) (Some e.1) o) (find_is q es)

not_here : (b : Bool) (x : Entry) (o : Option Entry) → cond b (Some x) o ≡ None → (b ≡ false) × (o ≡ None)
not_here true x o e = absurd (cc)
not_here false x o e = (refl, e)

pub added : (k : Vec ℕ) (v : Entry) (es : List (Vec ℕ × Entry)) → find (named_entries es) k.items ≡ None → named_entries (insert_entry (λ (a b : Vec ℕ). bytes_eq a.items b.items) es k v)
    ≡ named_entries es ++ (k.items, v) ∷ []
added k v [] none = refl
added k v (e ∷ es) none =
    let p = not_here (bytes_eq k.items e.0.items) e.1 (find (named_entries es) k.items) none in
    rw (p.0) (ap (λ l. (e.0.items, e.1) ∷ l) (added k v es p.1))
