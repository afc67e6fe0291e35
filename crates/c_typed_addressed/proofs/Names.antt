-- A name that its block doesn't declare yet.
use Rattle.std.proofs.Common.{◌≡◌, ℕ, Bool, false, List, Option, Some, None, refl, sym, ◌∙◌}
use Rattle.std.specs.Prelude.{is_some}
use Rattle.c_typed_scope.specs.declared.entry.Entry.{Entry}
use Rattle.c_typed_scope.specs.Scopes.{Scope, find, is_taken}

none_by : (o : Option Entry) → is_some o ≡ false → o ≡ None
none_by None h = refl
none_by (Some e) h = absurd (cc)

is_free : (s : Scope) (n : List ℕ) → is_taken s n ≡ false → find s.here n ≡ None
unfolding is_taken
is_free s n h = none_by (find s.here n) h

-- the name as code holds it: what was tested, and a copy of it
pub copy_is_free : (s : Scope) (b : Bool) (tested held copy name : List ℕ) → b ≡ is_taken s tested → b ≡ false → tested ≡ name → held ≡ name → copy ≡ held → find s.here copy ≡ None
copy_is_free s b tested held copy name test unheld one two three = rw (three ∙ (two ∙ sym one)) (is_free s tested (sym test ∙ unheld))
