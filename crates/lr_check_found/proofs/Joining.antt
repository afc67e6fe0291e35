-- One list comes on top of another, symbol by symbol.
use Rattle.std.proofs.Common.{◌≡◌, ℕ, ◌+◌, ◌-◌, ◌<◌, ◌≤◌, List, [], ◌∷◌, ◌++◌, Some, length, get_or, drop, sym, ap, ◌∙◌, arith}
use Rattle.std.specs.Prelude.{slice_index_or}
use Rattle.std.proofs.lemmas.List.{drop_all, drop_more}
use Rattle.std.proofs.lemmas.Option.{get_or_from_slice_get, same_Some}
use Rattle.md_reader.specs.declared.types.Sym.{Sym}
use Rattle.lr_check_found.specs.Lists.{ListsView, IsList, AreLists, KeepsLists, IsPushed, IsJoined}
use Rattle.lr_check_found.proofs.Pushing.{keeps_same, keeps_both}

pub read : (v : ListsView) (upper : ℕ) (u : List Sym) → IsList v upper u → slice_index_or v.all upper [] ≡ u
read v upper u a = get_or_from_slice_get v.all upper u [] a

-- the symbols of the upper list from a place on are on top of the lower one, and the lists that were there stay
pub record Joins (v w : ListsView) (upper lower at n : ℕ) : Type 0 where
  pub lists : AreLists w
  pub kept : KeepsLists v w
  pub on : (u l : List Sym) → IsList v upper u → IsList v lower l → IsList w n (drop at u ++ l)
  pub there : (s : List Sym) × IsList w n s

pub joins_none : (v : ListsView) (upper lower : ℕ) (list : List Sym) → list ≡ slice_index_or v.all upper [] → AreLists v
    → (s : List Sym) × IsList v lower s → Joins v v upper lower (length list) lower
joins_none v upper lower list is lists there = record {
  lists = lists;
  kept = keeps_same v;
  on = λ u l a b. b ∙ ap (λ k. Some (k ++ l)) (sym (drop_all (length list) u (let size : length list ≡ length u = ap length (is ∙ read v upper u a) in omega (arith, size))));
  there = there;
}

one_more : (u : List Sym) (at : ℕ) (d : Sym) → 0 < at → at ≤ length u → get_or u (at - 1) d ∷ drop at u ≡ drop (at - 1) u
one_more u at d pos le =
    let next : at ≡ at - 1 + 1 = omega (arith, pos) in
    ap (λ k. get_or u (at - 1) d ∷ drop k u) next ∙ sym (drop_more u (at - 1) d (omega (arith, pos, le)))

module _ (v w : ListsView) (upper lower at n : ℕ) (first list : List Sym) (up : (s : List Sym) × IsList v upper s) (was : first ≡ slice_index_or v.all upper [])
    (is : list ≡ slice_index_or w.all upper []) (pos : 0 < at) (le : at ≤ length first) (j : Joins v w upper lower at n) where
  list_is : (u : List Sym) → IsList v upper u → list ≡ u
  list_is u a = is ∙ read w upper u (j.kept.kept upper u a)

  long : (u : List Sym) → IsList v upper u → at ≤ length u
  long u a = let size : length first ≡ length u = ap length (was ∙ read v upper u a) in omega (arith, le, size)

  pub joins_within : at - 1 < length list
  joins_within =
      let size : length list ≡ length up.0 = ap length (list_is up.0 up.1) in
      omega (arith, pos, long up.0 up.1, size)

  pub joins_more : (x : ListsView) (m : ℕ) (d : Sym) → AreLists x → KeepsLists w x → IsPushed x (get_or list (at - 1) d) n m
      → (s : List Sym) × IsList x m s → Joins v x upper lower (at - 1) m
  joins_more x m d lists kept push there = record {
    lists = lists;
    kept = keeps_both v w x j.kept kept;
    on = λ u l a b. push (drop at u ++ l) (kept.kept n (drop at u ++ l) (j.on u l a b))
        ∙ ap (λ k. Some (k ++ l)) (ap (λ (k : List Sym). get_or k (at - 1) d ∷ drop at u) (list_is u a) ∙ one_more u at d pos (long u a));
    there = there;
  }

pub joins_all : (v w : ListsView) (upper lower at n : ℕ) → (s : List Sym) × IsList v upper s → (s : List Sym) × IsList v lower s → at ≤ 0 → Joins v w upper lower at n
    → IsJoined w upper lower n
joins_all v w upper lower at n up low none j u l a b =
    let same : up.0 ≡ u = same_Some up.0 u (sym (j.kept.kept upper up.0 up.1) ∙ a) in
    let same' : low.0 ≡ l = same_Some low.0 l (sym (j.kept.kept lower low.0 low.1) ∙ b) in
    let zero : at ≡ 0 = omega (arith, none) in
    j.on up.0 low.0 up.1 low.1 ∙ (ap (λ k. Some (drop k up.0 ++ low.0)) zero ∙ (ap (λ k. Some (k ++ low.0)) same ∙ ap (λ k. Some (u ++ k)) same'))
