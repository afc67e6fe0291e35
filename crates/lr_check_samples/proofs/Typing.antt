-- The samples are typed statements.
use Rattle.std.proofs.Common.{◌≡◌, ℕ, List, [], ◌∷◌, ◌++◌, Bool, slice_get, refl, ap, sym, ◌∙◌, subst, append_assoc}
use Rattle.std.specs.Prelude.{IsTrue}
use Rattle.tree_core.specs.declared.token.Tok.{Tok}
use Rattle.tree_core.specs.declared.token.Sort.{Sort}
use Rattle.tree_core.specs.declared.token.Sort.TheVariants as sort
use Rattle.tree_core.specs.Grammar.{kids, sort_of}
use Rattle.tree_core.specs.Trees.{sort_fits}
use Rattle.md_reader.specs.declared.types.Sym.{Sym}
use Rattle.lr_check.specs.Tree.{Token}
use Rattle.lr_check_sets.specs.Automaton.{Automaton}
use Rattle.lr_check_sets.specs.Trees.{May}
use Rattle.lr_check_parse.specs.Typed.{AreTyped, ends, begins, IsStatement}
use Rattle.lr_check_found.specs.declared.places.Place.{Place}
use Rattle.lr_check_found.specs.declared.places.Origin.TheVariants as origin
use Rattle.lr_check_found.specs.Found.{FoundView, IsPlaceAt, SettlesAt}
use Rattle.lr_check_found.specs.Sound.{IsFound}
use Rattle.lr_check_samples.specs.Fixed.{leaf, Fixed, fixed_leaf, fixed_one, fixed_two, fixed_reduced, Context, at_root, at_only, at_first, at_second}
use Rattle.lr_check_samples.specs.Samples.{BlockingSample, of_gap, of_dead, LoopingSample, of_circle}
use Rattle.lr_check_samples.specs.Stops.{tokens}
use Rattle.lr_check_samples.proofs.Making.{AreSame, same_settling, settles_of, settled_so, MadeLeaf, MadeOne, MadeTwo, MadeReduced, made_leaf, made_one, made_two, made_reduced}
use Rattle.lr_check_samples.proofs.Beginning.{BegunFirst, BegunSecond, begun_root, begun_first, begun_second, begun_so}

-- tokens of trees that are wanted first, and what is wanted behind them
data Reads : List Sort → List Tok → List Sort → Type 0 where
  reads_none : {xs : List Sort} → Reads xs [] xs
  reads_more : {x : Sort} {xs ys : List Sort} {u : List Tok} (k : Tok) → IsTrue (sort_fits (sort_of k) x) → Reads (kids k ++ xs) u ys → Reads (x ∷ xs) (k ∷ u) ys

reads-append : {xs ys zs : List Sort} {u v : List Tok} → Reads xs u ys → Reads ys v zs → Reads xs (u ++ v) zs
reads-append reads_none s = s
reads-append (reads_more k fits r) s = reads_more k fits (reads-append r s)

typed_of : {xs ys : List Sort} {u v : List Tok} → Reads xs u ys → AreTyped ys v → AreTyped xs (u ++ v)
typed_of reads_none h = h
typed_of (reads_more k fits r) h = begins k fits (typed_of r h)

reads_of : {xs : List Sort} {u : List Tok} → AreTyped xs u → (ys : List Sort) → Reads (xs ++ ys) u ys
reads_of ends ys = reads_none
reads_of (begins {xs = xs} {w = w} k fits h) ys = reads_more k fits (subst (λ l. Reads l w ys) (append_assoc (kids k) xs ys) (reads_of h ys))

pub tokens-append : (u v : List Token) → tokens (u ++ v) ≡ tokens u ++ tokens v
tokens-append [] v = refl
tokens-append (l ∷ u) v = ap (λ w. l.tok ∷ w) (tokens-append u v)

kids_of : (x y : Place) → x ≡ y → kids x.token ≡ kids y.token
kids_of x y e = ap (λ (c : Place). kids c.token) e

module _ (A : Automaton) (f : FoundView) (found : IsFound A f) where
  fixed_reads : {i : ℕ} {ws : List Token} {own : List Bool} {ds : List ℕ} → Fixed A f i ws own ds → (x : Place) (s : List Sym) (p : ℕ) → SettlesAt f i x s p → (ys : List Sort) →
      Reads (kids x.token ++ ys) (tokens ws) ys
  fixed_reads (fixed_leaf by) x s p at ys =
      let k = settled_so A f found by at in
      let g : MadeLeaf A x s = made_leaf k.made refl in
      subst (λ l. Reads (l ++ ys) [] ys) (sym g.none) reads_none
  fixed_reads (fixed_one {j = j} {p = h} {y = y} {s = v} {ws = ws} by kid_at kid) x s p at ys =
      let k = settled_so A f found by at in
      let g : MadeOne A f j x s = made_one k.made j refl in
      let same : AreSame y g.kid v g.kid_list h g.behind = same_settling kid_at (settles_of g.sum) in
      let may : May y.token g.sort = subst (λ (c : Place). May c.token g.sort) (sym same.places) g.fits.may in
      subst (λ l. Reads (l ++ ys) (y.token ∷ tokens ws) ys) (sym g.has.kid) (reads_more y.token may (fixed_reads kid y v h kid_at ys))
  fixed_reads (fixed_two {j = j} {k = l} {p = h} {h = o} {y = y} {z = z} {s = v} {u = u} {ws = ws} {ws' = ws'} {own' = own'} by kid_at kid second_at second) x s p at ys =
      let k = settled_so A f found by at in
      let g : MadeTwo A f j l x s = made_two k.made j l refl in
      let same : AreSame y g.kid v g.kid_list h g.behind = same_settling kid_at (settles_of g.sum) in
      let same' : AreSame z g.second u g.second_list o g.last = same_settling second_at (settles_of g.second_sum) in
      let may : May y.token g.sort = subst (λ (c : Place). May c.token g.sort) (sym same.places) g.fits.may in
      let may' : May z.token g.second_sort = subst (λ (c : Place). May c.token g.second_sort) (sym same'.places) g.second_fits.may in
      let last : Reads (g.second_sort ∷ ys) (z.token ∷ tokens ws') ys = reads_more z.token may' (fixed_reads second z u o second_at ys) in
      let first : Reads (g.sort ∷ g.second_sort ∷ ys) (y.token ∷ tokens ws) (g.second_sort ∷ ys) =
      reads_more y.token may (fixed_reads kid y v h kid_at (g.second_sort ∷ ys)) in
      subst (λ l. Reads (l ++ ys) (y.token ∷ tokens (ws ++ leaf z.token own' ∷ ws')) ys) (sym g.has.kid)
      (subst (λ w. Reads (g.sort ∷ g.second_sort ∷ ys) (y.token ∷ w) ys) (sym (tokens-append ws (leaf z.token own' ∷ ws'))) (reads-append first last))
  fixed_reads (fixed_reduced {j = j} {c = c} {p = h} {x = y} {s = v} {ws = ws} by set_at set) x s p at ys =
      let k = settled_so A f found by at in
      let g : MadeReduced A f k.place j c x s = made_reduced k.made j c refl in
      let whole_at : SettlesAt f j x g.whole g.state = record { entry = g.entry; there = g.there; place = ap (slice_get f.places) g.place ∙ k.there; list = g.symbols; behind = g.behind } in
      let same : AreSame y x v g.whole h g.state = same_settling set_at whole_at in
      subst (λ l. Reads (l ++ ys) (tokens ws) ys) (kids_of y x same.places) (fixed_reads set y v h set_at ys)

  -- a place, with what is wanted behind it
  record Wants (x : Place) (before behind : List Token) : Type 0 where
    wanted : Sort
    others : List Sort
    may : May x.token wanted
    reads : Reads (sort.Stmt ∷ []) (tokens before) (wanted ∷ others)
    typed : AreTyped others (tokens behind)

  wants : {n : ℕ} {before behind : List Token} → Context A f n before behind → (x : Place) → IsPlaceAt f n x → Wants x before behind
  wants {n = n} (at_root is) x at =
      let g = begun_root (begun_so A f found n x origin.Root at is) refl in
      record { wanted = sort.Stmt; others = []; may = g.may; reads = reads_none; typed = ends }
  wants {n = n} (at_only {i = i} {y = y} {x = v} {before = before} is there kid c) x at =
      let g : BegunFirst A x y = begun_first (begun_so A f found n x (origin.First i) at is) i y refl there in
      let r = wants c y there in
      let same : g.sort ∷ g.others ≡ v ∷ [] = sym g.kid ∙ kid in
      let one : g.sort ≡ v = cc in
      record {
        wanted = v;
        others = r.others;
        may = subst (May x.token) one g.may;
        reads = subst (λ w. Reads (sort.Stmt ∷ []) w (v ∷ r.others)) (sym (tokens-append before (leaf y.token [] ∷ [])))
            (reads-append r.reads (reads_more y.token r.may (subst (λ l. Reads (l ++ r.others) [] (v ∷ r.others)) (sym kid) reads_none)));
        typed = r.typed;
      }
  wants {n = n} (at_first {i = i} {y = y} {z = z} {x = v} {v = o} {before = before} {behind = behind} {us = us} is there kid there' begin c) x at =
      let g : BegunFirst A x y = begun_first (begun_so A f found n x (origin.First i) at is) i y refl there in
      let r = wants c y there in
      let same : g.sort ∷ g.others ≡ v ∷ o ∷ [] = sym g.kid ∙ kid in
      let one : g.sort ≡ v = cc in
      record {
        wanted = v;
        others = o ∷ r.others;
        may = subst (May x.token) one g.may;
        reads = subst (λ w. Reads (sort.Stmt ∷ []) w (v ∷ o ∷ r.others)) (sym (tokens-append before (leaf y.token [] ∷ [])))
            (reads-append r.reads (reads_more y.token r.may (subst (λ l. Reads (l ++ r.others) [] (v ∷ o ∷ r.others)) (sym kid) reads_none)));
        typed = subst (AreTyped (o ∷ r.others)) (sym (tokens-append us behind)) (typed_of (reads_of begin.typed r.others) r.typed);
      }
  wants {n = n} (at_second {i = i} {j = j} {p = p} {y = y} {z = z} {s = s} {before = before} {behind = behind} {ws = ws} {own = own} {ds = ds} is there at' kid c) x at =
      let g : BegunSecond A f j x y = begun_second (begun_so A f found n x (origin.Second i j) at is) i j y refl there in
      let r = wants c y there in
      let same : AreSame z g.kid s g.list p g.last = same_settling at' (settles_of g.sum) in
      let may : May z.token g.sort = subst (λ (c : Place). May c.token g.sort) (sym same.places) g.fits.may in
      record {
        wanted = g.second_sort;
        others = r.others;
        may = g.second_fits.may;
        reads = subst (λ w. Reads (sort.Stmt ∷ []) w (g.second_sort ∷ r.others)) (sym (tokens-append before (leaf y.token [] ∷ leaf z.token own ∷ ws)))
            (reads-append r.reads (reads_more y.token r.may
            (subst (λ l. Reads (l ++ r.others) (z.token ∷ tokens ws) (g.second_sort ∷ r.others)) (sym g.has.kid)
            (reads_more z.token may (fixed_reads kid z s p at' (g.second_sort ∷ r.others))))));
        typed = r.typed;
      }

  -- a place's token with its kids' trees, in what is round it
  whole : (x : Place) (before behind ws : List Token) (own : List Bool) → Wants x before behind → ((ys : List Sort) → Reads (kids x.token ++ ys) (tokens ws) ys) →
      IsStatement (tokens (before ++ (leaf x.token own ∷ (ws ++ behind))))
  whole x before behind ws own r kid =
      subst (AreTyped (sort.Stmt ∷ [])) (sym (tokens-append before (leaf x.token own ∷ (ws ++ behind))))
      (typed_of r.reads (begins x.token r.may
      (subst (AreTyped (kids x.token ++ r.others)) (sym (tokens-append ws behind)) (typed_of (kid r.others) r.typed))))

  pub blocking_typed : {w : List Token} → BlockingSample A f w → IsStatement (tokens w)
  blocking_typed (of_gap {x = x} {before = before} {behind = behind} vs at none c typed) = whole x before behind vs [] (wants c x at) (reads_of typed)
  blocking_typed (of_dead {p = p} {x = x} {s = s} {before = before} {behind = behind} {ws = ws} {own = own} at can c fixed) =
      whole x before behind ws own (wants c x at.place) (fixed_reads fixed x s p at)

  pub looping_typed : {w : List Token} → LoopingSample A f w → IsStatement (tokens w)
  looping_typed (of_circle {p = p} {x = x} {s = s} {before = before} {behind = behind} {ws = ws} {own = own} {own' = own'} at c fixed round) =
      whole x before behind ws (own ++ own') (wants c x at.place) (fixed_reads fixed x s p at)
