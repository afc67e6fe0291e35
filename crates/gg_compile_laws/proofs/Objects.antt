-- What typing says of a program's objects, as the code of its trees asks it.
use Rattle.std.proofs.Common.{◌≡◌, ℕ, zero, suc, List, [], ◌∷◌, length, map, Some, Bool, true, false, refl, sym, ap, ◌∙◌, subst}
use Rattle.std.specs.Prelude.{◌&&◌, ◌||◌, ◌==◌, nat_le, slice_get, slice_index_or}
use Rattle.std.specs.List.{All, AllByRecursion, list_all}
use Rattle.std.specs.Str.{bytes_eq}
use Rattle.std.proofs.lemmas.Slice.Eq.{bytes_eq-Decides}
use Rattle.std.proofs.lemmas.Option.{same_Some}
use Rattle.gg_base.proofs.Facts.{index_there}
use Rattle.gg_base.specs.Names.{is_name_part}
use Rattle.tree_core.specs.declared.program.Object.{Object}
use Rattle.tree_core.specs.declared.program.TreeFn.{TreeFn}
use Rattle.tree_core.specs.Names.{label_name}
use Rattle.c_sound.specs.Fits.{AreBytes}
use Rattle.c_sound.specs.Labels.{is_label_start, is_label, AreLabelled}
use Rattle.c_sound.specs.Sound.{HoldBytes}
use Rattle.vax_core.specs.Valid.{is_name_start, is_name}
use Rattle.vax_core.specs.First.{putchar_name}
use Rattle.vax_machine.specs.Labels.{getchar_name, is_service}
use Rattle.vax_machine_lists.specs.Sound.{AllBelow}
use Rattle.gg_compile_counts.specs.gg_compile_law.specs.Spelling.{HoldsNumbers}
use Rattle.gg_compile_counts.specs.gg_compile_law.specs.Loaded.{AreApart}

-- ---- bytes

pub all_below : (bs : List ℕ) → AreBytes bs → AllBelow 256 bs
all_below [] h = tt
all_below (b ∷ bs) h = (h.0, all_below bs h.1)

-- links hold addresses, and objects bytes
pub hold_numbers : (os : List Object) (names : List (List ℕ)) → AreLabelled os names → HoldBytes os → All (HoldsNumbers os) os
hold_numbers os names labels bytes = λ i d lt. (labels.addresses i d lt, all_below _ (bytes i (slice_index_or os i d) (index_there os i d lt)))

-- ---- labels

get_map : {X Y : Type 0} (f : X → Y) (xs : List X) (i : ℕ) (x : X) → slice_get xs i ≡ Some x → slice_get (map f xs) i ≡ Some (f x)
get_map f [] i x e = absurd (cc)
get_map f (y ∷ xs) zero x e = ap (λ (z : _). Some (f z)) (same_Some y x e)
get_map f (y ∷ xs) (suc i) x e = get_map f xs i x e

either_false : (a b : Bool) → (a ≡ true → ⊥) → (b ≡ true → ⊥) → (a || b) ≡ false
either_false true b h k = absurd (h refl)
either_false false true h k = absurd (k refl)
either_false false false h k = refl

no_service : (o : List ℕ) → (o ≡ putchar_name → ⊥) → (o ≡ getchar_name → ⊥) → is_service o ≡ false
no_service o h k =
    either_false (bytes_eq o putchar_name) (bytes_eq o getchar_name) (λ e. h ((bytes_eq-Decides o putchar_name).0 e)) (λ e. k ((bytes_eq-Decides o getchar_name).0 e))

no_tree_label : (l : ℕ) → is_label (label_name l) ≡ true → ⊥
no_tree_label l e = cc

pub are_apart : (os : List Object) (fs : List TreeFn) → AreLabelled os (map (λ (f : TreeFn). f.name) fs) → AreApart os fs
are_apart os fs h = record {
  differ = h.differ;
  functions = λ i k o f here there e. h.functions i k o f.name here (get_map (λ (f : TreeFn). f.name) fs k f there) (sym e);
  trees = λ i l o here e. no_tree_label l (ap is_label e ∙ h.spelled i o here);
  services = λ i o here. no_service o.label (h.putchar i o here) (h.getchar i o here);
}

-- ---- names

wider_start : (a b c e : Bool) → (a || (b || c)) ≡ true → (a || (e || (b || c))) ≡ true
wider_start true b c e h = refl
wider_start false b c true h = refl
wider_start false b c false h = h

both_wider : (a b c : Bool) → (a ≡ true → b ≡ true) → (a && c) ≡ true → (b && c) ≡ true
both_wider true b c f h = subst (λ (x : Bool). (x && c) ≡ true) (sym (f refl)) h
both_wider false b c f h = absurd (cc)

label_is_name : (s : List ℕ) → is_label s ≡ true → is_name s ≡ true
label_is_name [] h = absurd (cc)
label_is_name (c ∷ cs) h =
    both_wider (is_label_start c) (is_name_start c) (nat_le (length cs) 63 && list_all is_name_part cs) (λ e. wider_start (c == 95) (c == 83) (c == 84) (c == 76) e) h

pub objects_named : (os : List Object) → ((i : ℕ) (o : Object) → slice_get os i ≡ Some o → is_label o.label ≡ true) → AllByRecursion (λ (o : Object). is_name o.label ≡ true) os
objects_named [] h = tt
objects_named (o ∷ os) h = (label_is_name o.label (h 0 o refl), objects_named os (λ i x e. h (suc i) x e))
