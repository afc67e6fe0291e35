-- A list that replaces a subtree is a tree, so no right side ends inside an unfinished subtree.
use Rattle.std.proofs.Common.{◌≡◌, ℕ, zero, suc, ◌+◌, ◌≤◌, ◌<◌, List, [], ◌∷◌, ◌++◌, Option, Some, None, Contains, length, take, drop, reverse, refl, ap, sym, ◌∙◌, inl, ⊎_elim}
use Rattle.std.proofs.Common.{subst, arith, append_assoc, append-nil, length-append, take-append-drop, take_at, suc-add, one-add}
use Rattle.std.proofs.lemmas.List.{reverse-reverse, length-reverse, take-append-le, append_cancel_left}
use Rattle.std.proofs.lemmas.Bool.{cases_lt}
use Rattle.std.proofs.lemmas.Option.{none-some, same_Some}
use Rattle.tree_core.specs.declared.token.Tok.{Tok}
use Rattle.tree_core.specs.declared.token.Sort.{Sort}
use Rattle.md_reader.specs.declared.types.Sym.{Sym}
use Rattle.md_reader.specs.declared.types.Sym.TheVariants as grammar_symbol
use Rattle.tree_core.specs.Grammar.{kids}
use Rattle.lr_check_sets.specs.Automaton.{Automaton, Production, Candidate, shift, reduce, walk, size_of, Free, CanBlock, reduced, Outside, IsTable}
use Rattle.lr_check_sets.specs.Items.{Item, IsAutomatonOf, HasNoEnd, HasNoEmpty}
use Rattle.lr_check_sets.specs.Loose.{LoosePlace, LoosePartly, LooseSettling, LooseSum, loose_start, loose_kid, loose_opened, loose_with_kid, loose_whole, loose_settled, loose_sum}
use Rattle.lr_check_sets.specs.Shapes.{arity, wanted_behind, wanted, IsTree, HasTrees}
use Rattle.lr_check_sets.proofs.Walks.{walk-append}
use Rattle.lr_check_sets.proofs.Tables.{Stands, stands, item_stands, shift_item, reduce_item, table_of_items}
use Rattle.lr_check_sets.proofs.Reached.{MetPlace, met_part, met_settling}

pub wanted-append : (n m : ℕ) (s' s : List Sym) → wanted n s ≡ Some m → wanted n (s' ++ s) ≡ wanted m s'
wanted-append n m [] s e = e
wanted-append n m (X ∷ s') s e = ap (wanted_behind X) (wanted-append n m s' s e)

pub wanted-none : (n : ℕ) (s' s : List Sym) → wanted n s ≡ None → wanted n (s' ++ s) ≡ None
wanted-none n [] s e = e
wanted-none n (X ∷ s') s e = ap (wanted_behind X) (wanted-none n s' s e)

-- with more wanted before the list, as many more are wanted behind it
behind-more : (X : Sym) (o : Option ℕ) (p : Option ℕ) (m d : ℕ) → ((j : ℕ) → o ≡ Some j → p ≡ Some (j + d)) → wanted_behind X o ≡ Some m → wanted_behind X p ≡ Some (m + d)
behind-more X None p m d h e = absurd (none-some m e)
behind-more X (Some zero) p m d h e = absurd (none-some m e)
behind-more X (Some (suc j)) p m d h e =
    let was : arity X + j ≡ m = cc in
    let it : p ≡ Some (suc (j + d)) = h (suc j) refl ∙ ap Some (suc-add j d) in
    ap (wanted_behind X) it ∙ ap Some (omega arith)

pub wanted-more : (n m d : ℕ) (s : List Sym) → wanted n s ≡ Some m → wanted (n + d) s ≡ Some (m + d)
wanted-more n m d [] e = let same : n ≡ m = cc in ap (λ x. Some (x + d)) same
wanted-more n m d (X ∷ s) e = behind-more X (wanted n s) (wanted (n + d) s) m d (λ j f. wanted-more n j d s f) e

-- where none is wanted nothing can come
pub wanted-zero : (s : List Sym) → 0 < length s → wanted 0 s ≡ None
wanted-zero [] h = absurd (omega arith)
wanted-zero (X ∷ []) h = refl
wanted-zero (X ∷ Y ∷ s) h = ap (wanted_behind X) (wanted-zero (Y ∷ s) (omega arith))

pub tree_some : (s : List Sym) → IsTree s → 0 < length s
tree_some [] e = absurd (omega (arith, same_Some 1 0 e))
tree_some (X ∷ s) e = omega arith

-- a top of a tree wants nothing more
tree_tops : (s b d : List Sym) (m : ℕ) → IsTree s → s ≡ b ++ d → 0 < length b → wanted 1 b ≡ Some (suc m) → ⊥
tree_tops s b d m tree e some h = by_lower (wanted 1 d) refl
  where
    whole_list : wanted 1 (b ++ d) ≡ Some 0
    whole_list = ap (wanted 1) (sym e) ∙ tree

    by_lower : (o : Option ℕ) → wanted 1 d ≡ o → ⊥
    by_lower None f = none-some 0 (sym (wanted-none 1 b d f) ∙ whole_list)
    by_lower (Some zero) f = none-some 0 (sym (wanted-zero b some) ∙ (sym (wanted-append 1 0 b d f) ∙ whole_list))
    by_lower (Some (suc j)) f =
        let more : wanted (1 + j) b ≡ Some (suc m + j) = wanted-more 1 (suc m) j b h in
        let same : wanted (suc j) b ≡ Some 0 = sym (wanted-append 1 (suc j) b d f) ∙ whole_list in
        let both : suc m + j ≡ 0 = same_Some (suc m + j) 0 (sym more ∙ (ap (λ n. wanted n b) (one-add j) ∙ same)) in
        omega arith

-- two ways to cut one list
pub cut : {X : Type 0} (s a b d : List X) → s ++ a ≡ b ++ d → length b ≤ length s → s ≡ b ++ drop (length b) s
cut s a b d e h =
    let front : take (length b) s ≡ b = sym (take-append-le (length b) s a h) ∙ (ap (take (length b)) e ∙ take_at b d (length b) refl) in
    sym (take-append-drop (length b) s) ∙ ap (λ l. l ++ drop (length b) s) front

-- what a subtree with kids to come looks like
pub record PartShape (s : List Sym) (n : ℕ) : Type 0 where
  pub still : wanted 1 s ≡ Some n
  pub tops : (b d : List Sym) (m : ℕ) → s ≡ b ++ d → 0 < length b → 0 < length d → wanted 1 b ≡ Some (suc m) → ⊥

pub kid_shape : (s' s : List Sym) (n : ℕ) → IsTree s' → PartShape s (suc n) → PartShape (s' ++ s) n
kid_shape s' s n tree part = record {
  still =
      let more : wanted (1 + n) s' ≡ Some (0 + n) = wanted-more 1 0 n s' tree in
      wanted-append 1 (suc n) s' s part.still ∙ (ap (λ m. wanted m s') (sym (one-add n)) ∙ (more ∙ ap Some (omega arith)));
  tops = λ b d m e some rest h. ⊎_elim
      (λ lt. beyond b d m e rest h lt)
      (λ le. tree_tops s' b (drop (length b) s') m tree (cut s' s b d e le) some h)
      (cases_lt (length s') (length b));
}
  where
    beyond : (b d : List Sym) (m : ℕ) → s' ++ s ≡ b ++ d → 0 < length d → wanted 1 b ≡ Some (suc m) → length s' < length b → ⊥
    beyond b d m e rest h lt =
        let b1 : List Sym = drop (length s') b in
        let split : b ≡ s' ++ b1 = cut b d s' s (sym e) (omega arith) in
        let long : length b ≡ length s' + length b1 = ap length split ∙ length-append s' b1 in
        let lower : s ≡ b1 ++ d = append_cancel_left s' s (b1 ++ d) (e ∙ (ap (λ l. l ++ d) split ∙ append_assoc s' b1 d)) in
        by_lower b1 d lower (omega arith) rest (wanted 1 b1) refl (ap (wanted 1) (sym split) ∙ h)
      where
        by_lower : (b1 d : List Sym) → s ≡ b1 ++ d → 0 < length b1 → 0 < length d → (o : Option ℕ) → wanted 1 b1 ≡ o → wanted 1 (s' ++ b1) ≡ Some (suc m) → ⊥
        by_lower b1 d e some rest None f h = none-some (suc m) (sym (wanted-none 1 s' b1 f) ∙ h)
        by_lower b1 d e some rest (Some zero) f h = none-some (suc m) (sym (wanted-zero s' (tree_some s' tree)) ∙ (sym (wanted-append 1 0 s' b1 f) ∙ h))
        by_lower b1 d e some rest (Some (suc j)) f h = part.tops b1 d j e some rest f

module _ (G : List Production) (A : Automaton) (no_end : HasNoEnd G) (no_empty : HasNoEmpty G) (trees : HasTrees G) (exact : IsAutomatonOf G A) where
  -- the right side of a reduction stands on the stack, and is a tree
  pub record OnTop (r : Production) (a : List Sym) : Type 0 where
    pub top : List Sym
    pub below : List Sym
    pub there : a ≡ top ++ below
    pub size : length top ≡ size_of r
    pub tree : IsTree top

  pub on_top : (a : List Sym) (r : Production) → Item G A.stmt a r [] → Contains G r → OnTop r a
  on_top a r i m = go (item_stands i)
    where
      go : Stands G A.stmt a r [] → OnTop r a
      go (stands b below e f j) =
          let same : reverse r.right ≡ b = ap reverse (f ∙ append-nil (reverse b)) ∙ reverse-reverse b in
          record {
            top = b;
            below = below;
            there = e;
            size = sym (length-reverse b) ∙ sym (ap length (f ∙ append-nil (reverse b)));
            tree = subst IsTree same (trees r m);
          }

  reduced_tree : (r : Production) (s a : List Sym) → IsTree s → OnTop r (s ++ a) → size_of r ≤ length s → IsTree (reduced r s)
  reduced_tree r s a tree o le =
      let split : s ≡ o.top ++ drop (length o.top) s = cut s a o.top o.below o.there (omega (arith, o.size)) in
      let rest : List Sym = drop (length o.top) s in
      subst (λ n. IsTree (grammar_symbol.Class r.left ∷ drop n s)) o.size (one_left rest (wanted 1 rest) refl (ap (wanted 1) (sym split) ∙ tree))
    where
      one_left : (rest : List Sym) (w : Option ℕ) → wanted 1 rest ≡ w → wanted 1 (o.top ++ rest) ≡ Some 0 → IsTree (grammar_symbol.Class r.left ∷ rest)
      one_left rest None f h = absurd (none-some 0 (sym (wanted-none 1 o.top rest f) ∙ h))
      one_left rest (Some zero) f h = absurd (none-some 0 (sym (wanted-zero o.top (tree_some o.top o.tree)) ∙ (sym (wanted-append 1 0 o.top rest f) ∙ h)))
      one_left rest (Some (suc j)) f h =
          let more : wanted (1 + j) o.top ≡ Some (0 + j) = wanted-more 1 0 j o.top o.tree in
          let all : wanted (suc j) o.top ≡ Some 0 = sym (wanted-append 1 (suc j) o.top rest f) ∙ h in
          let none : 0 + j ≡ 0 = same_Some (0 + j) 0 (sym more ∙ (ap (λ n. wanted n o.top) (one-add j) ∙ all)) in
          ap (wanted_behind (grammar_symbol.Class r.left)) f ∙ ap Some (omega arith)

  table : IsTable A
  table = table_of_items G A no_end no_empty exact

  pub top_of_free : (a : List Sym) (p : ℕ) (t : Tok) (r : Production) → walk A 0 a ≡ Some p → Free (A.candidates p t) (reduce r) → OnTop r a
  top_of_free a p t r at f = let item : Item G A.stmt a r [] × Contains G r = reduce_item r (exact.candidates a p t at) f in on_top a r item.0 item.1

  mutual
    pub part_shape : {q : ℕ} {k t : Tok} {s : List Sym} {xs : List Sort} {n : Tok} → LoosePartly A q k t s xs n → PartShape s (length xs)
    part_shape (loose_opened {k = k} place go bg) = token_shape k
      where
        token_shape : (k : Tok) → PartShape (grammar_symbol.Tok k ∷ []) (length (kids k))
        token_shape k = record {
          still = ap Some (omega arith);
          tops = λ b d m e some rest h. let loose_sum : 1 ≡ length b + length d = ap length e ∙ length-append b d in absurd (omega arith);
        }
    part_shape (loose_with_kid {s = s} {xs = xs} {s' = s'} part ws bg kid) = kid_shape s' s (length xs) (sum_tree kid) (part_shape part)

    pub settling_tree : {q : ℕ} {k t : Tok} {s : List Sym} → LooseSettling A q k t s → IsTree s
    settling_tree (loose_whole part) = (part_shape part).still
    settling_tree (loose_settled {q = q} {k = k} {t = t} {s = s} {p = p} r set ws f le) =
        let place : MetPlace A q k t = (met_settling A table set).0 in
        reduced_tree r s place.below (settling_tree set) (top_of_free (s ++ place.below) p t r (walk-append A 0 q s place.below place.at ∙ ws) f) le

    pub sum_tree : {q : ℕ} {k t : Tok} {s : List Sym} → LooseSum A q k t s → IsTree s
    sum_tree (loose_sum c set ws f o) = settling_tree set

  -- no right side ends behind a token whose kids are to come
  token_top : (k : Tok) (n : ℕ) (r : Production) (a : List Sym) → length (kids k) ≡ suc n → OnTop r (grammar_symbol.Tok k ∷ a) → 0 < size_of r → ⊥
  token_top k n r a e o some = by_top o.top o.below o.there o.tree (omega (arith, o.size))
    where
      by_wanted : (b : List Sym) (w : Option ℕ) → wanted 1 b ≡ w → wanted_behind (grammar_symbol.Tok k) w ≡ Some 0 → ⊥
      by_wanted b None f h = none-some 0 h
      by_wanted b (Some zero) f h = none-some 0 h
      by_wanted b (Some (suc j)) f h = omega (arith, e, same_Some (length (kids k) + j) 0 h)

      by_top : (b below : List Sym) → grammar_symbol.Tok k ∷ a ≡ b ++ below → IsTree b → 0 < length b → ⊥
      by_top [] below h tree lt = omega arith
      by_top (X ∷ b) below h tree lt =
          let same : grammar_symbol.Tok k ≡ X = cc in
          by_wanted b (wanted 1 b) refl (subst (λ z. wanted_behind z (wanted 1 b) ≡ Some 0) (sym same) tree)

  -- and none reaches below the last kid while others are to come
  kid_top : (s' s a : List Sym) (n : ℕ) (r : Production) → IsTree s' → PartShape s (suc (suc n)) → OnTop r ((s' ++ s) ++ a) → length s' < size_of r → ⊥
  kid_top s' s a n r tree part o lt = ⊎_elim long short (cases_lt (length (s' ++ s)) (length o.top))
    where
      all : PartShape (s' ++ s) (suc n)
      all = kid_shape s' s (suc n) tree part

      whole_top : wanted 1 (s' ++ s) ≡ Some 0 → ⊥
      whole_top h = omega (arith, same_Some (suc n) 0 (sym all.still ∙ h))

      inside : (b1 d : List Sym) → s ≡ b1 ++ d → 0 < length b1 → wanted 1 (s' ++ b1) ≡ Some 0 → ⊥
      inside b1 [] e some h = whole_top (ap (λ l. wanted 1 (s' ++ l)) (e ∙ append-nil b1) ∙ h)
      inside b1 (X ∷ d) e some h = by_lower (wanted 1 b1) refl
        where
          by_lower : (w : Option ℕ) → wanted 1 b1 ≡ w → ⊥
          by_lower None f = none-some 0 (sym (wanted-none 1 s' b1 f) ∙ h)
          by_lower (Some zero) f = none-some 0 (sym (wanted-zero s' (tree_some s' tree)) ∙ (sym (wanted-append 1 0 s' b1 f) ∙ h))
          by_lower (Some (suc j)) f = part.tops b1 (X ∷ d) j e some (omega arith) f

      short : length o.top ≤ length (s' ++ s) → ⊥
      short le =
          let d : List Sym = drop (length o.top) (s' ++ s) in
          let e : s' ++ s ≡ o.top ++ d = cut (s' ++ s) a o.top o.below o.there le in
          let b1 : List Sym = drop (length s') o.top in
          let split : o.top ≡ s' ++ b1 = cut o.top d s' s (sym e) (omega (arith, o.size)) in
          let lower : s ≡ b1 ++ d = append_cancel_left s' s (b1 ++ d) (e ∙ (ap (λ l. l ++ d) split ∙ append_assoc s' b1 d)) in
          inside b1 d lower (omega (arith, ap length split, length-append s' b1, o.size)) (ap (wanted 1) (sym split) ∙ o.tree)

      long : length (s' ++ s) < length o.top → ⊥
      long h =
          let b2 : List Sym = drop (length (s' ++ s)) o.top in
          let split : o.top ≡ (s' ++ s) ++ b2 = cut o.top o.below (s' ++ s) a (sym o.there) (omega arith) in
          by_lower b2 (wanted 1 b2) refl (ap (wanted 1) (sym split) ∙ o.tree)
        where
          by_lower : (b2 : List Sym) (w : Option ℕ) → wanted 1 b2 ≡ w → wanted 1 ((s' ++ s) ++ b2) ≡ Some 0 → ⊥
          by_lower b2 None f h = none-some 0 (sym (wanted-none 1 (s' ++ s) b2 f) ∙ h)
          by_lower b2 (Some zero) f h = none-some 0 (sym (wanted-zero (s' ++ s) (omega (arith, length-append s' s, tree_some s' tree))) ∙ (sym (wanted-append 1 0 (s' ++ s) b2 f) ∙ h))
          by_lower b2 (Some (suc j)) f h =
              let more : wanted (1 + j) (s' ++ s) ≡ Some (suc n + j) = wanted-more 1 (suc n) j (s' ++ s) all.still in
              let it : wanted (suc j) (s' ++ s) ≡ Some 0 = sym (wanted-append 1 (suc j) (s' ++ s) b2 f) ∙ h in
              omega (arith, same_Some (suc n + j) 0 (sym more ∙ (ap (λ z. wanted z (s' ++ s)) (one-add j) ∙ it)))

  -- a right side that ends inside the last kid's parent is the whole of it
  pub last_top : (s' s a : List Sym) (r : Production) → IsTree s' → PartShape s 1 → OnTop r ((s' ++ s) ++ a) → length s' < size_of r → size_of r < length (s' ++ s) → ⊥
  last_top s' s a r tree part o lt below =
      let d : List Sym = drop (length o.top) (s' ++ s) in
      let e : s' ++ s ≡ o.top ++ d = cut (s' ++ s) a o.top o.below o.there (omega (arith, o.size)) in
      let b1 : List Sym = drop (length s') o.top in
      let split : o.top ≡ s' ++ b1 = cut o.top d s' s (sym e) (omega (arith, o.size)) in
      let lower : s ≡ b1 ++ d = append_cancel_left s' s (b1 ++ d) (e ∙ (ap (λ l. l ++ d) split ∙ append_assoc s' b1 d)) in
      inside b1 d lower (omega (arith, ap length split, length-append s' b1, o.size)) (omega (arith, ap length e, length-append o.top d, o.size)) (ap (wanted 1) (sym split) ∙ o.tree)
    where
      inside : (b1 d : List Sym) → s ≡ b1 ++ d → 0 < length b1 → 0 < length d → wanted 1 (s' ++ b1) ≡ Some 0 → ⊥
      inside b1 d e some rest h = by_lower (wanted 1 b1) refl
        where
          by_lower : (w : Option ℕ) → wanted 1 b1 ≡ w → ⊥
          by_lower None f = none-some 0 (sym (wanted-none 1 s' b1 f) ∙ h)
          by_lower (Some zero) f = none-some 0 (sym (wanted-zero s' (tree_some s' tree)) ∙ (sym (wanted-append 1 0 s' b1 f) ∙ h))
          by_lower (Some (suc j)) f = part.tops b1 d j e some rest f

  -- a place without a shift has no candidate
  none_free : (cs : List Candidate) → ((c : Candidate) → Free cs c → ⊥) → CanBlock cs
  none_free [] u = tt
  none_free (shift ∷ cs) u = absurd (u shift refl)
  none_free (reduce r ∷ cs) u = absurd (u (reduce r) (inl refl))

  no_free : (a : List Sym) (p : ℕ) (t : Tok) → walk A 0 a ≡ Some p → ((p' : ℕ) → A.go p (grammar_symbol.Tok t) ≡ Some p' → ⊥) → ((r : Production) → OnTop r a → 0 < size_of r → ⊥) →
      CanBlock (A.candidates p t)
  no_free a p t at u v = none_free (A.candidates p t) by
    where
      by : (c : Candidate) → Free (A.candidates p t) c → ⊥
      by shift f =
          let found : (r : Production) × ((after : List Sym) × Item G A.stmt a r (grammar_symbol.Tok t ∷ after)) = shift_item (exact.candidates a p t at) f in
          let gone : (p' : ℕ) × (A.go p (grammar_symbol.Tok t) ≡ Some p') = exact.goes_where a p (grammar_symbol.Tok t) found.0 found.1.0 at found.1.1 in
          u gone.0 gone.1
      by (reduce r) f = v r (top_of_free a p t r at f) (table.nonempty a p t r at f)

  start_top : (r : Production) → OnTop r [] → 0 < size_of r → ⊥
  start_top r o some = omega (arith, ap length o.there, length-append o.top o.below, o.size)

  -- the choice that ended the kid before is a shift
  by_choice : (s' s a : List Sym) (n : ℕ) (p : ℕ) (t : Tok) (c : Candidate) → IsTree s' → PartShape s (suc (suc n)) → walk A 0 ((s' ++ s) ++ a) ≡ Some p → Free (A.candidates p t) c →
      Outside c s' → ((p' : ℕ) → A.go p (grammar_symbol.Tok t) ≡ Some p' → ⊥) → ⊥
  by_choice s' s a n p t shift tree part at f o u =
      let found : (r : Production) × ((after : List Sym) × Item G A.stmt ((s' ++ s) ++ a) r (grammar_symbol.Tok t ∷ after)) = shift_item (exact.candidates ((s' ++ s) ++ a) p t at) f in
      let gone : (p' : ℕ) × (A.go p (grammar_symbol.Tok t) ≡ Some p') = exact.goes_where ((s' ++ s) ++ a) p (grammar_symbol.Tok t) found.0 found.1.0 at found.1.1 in
      u gone.0 gone.1
  by_choice s' s a n p t (reduce r) tree part at f o u = kid_top s' s a n r tree part (top_of_free ((s' ++ s) ++ a) p t r at f) o

  by_sum : {p0 : ℕ} {n0 m : Tok} {s' : List Sym} → LooseSum A p0 n0 m s' → (s a : List Sym) (n p : ℕ) → PartShape s (suc (suc n)) → walk A p0 s' ≡ Some p → walk A 0 ((s' ++ s) ++ a) ≡ Some p →
      ((p' : ℕ) → A.go p (grammar_symbol.Tok m) ≡ Some p' → ⊥) → ⊥
  by_sum (loose_sum {t = m} {s = s'} {p = p1} c set ws f o) s a n p part ws' at u =
      let same : p1 ≡ p = same_Some p1 p (sym ws ∙ ws') in
      by_choice s' s a n p m c (settling_tree set) part at (subst (λ z. Free (A.candidates z m) c) same f) o u

  kid_blocks : {q : ℕ} {k t : Tok} {s : List Sym} {ys : List Sort} {n : Tok} → LoosePartly A q k t s ys n → (x : Sort) (xs : List Sort) → ys ≡ x ∷ xs → (a : List Sym) → walk A 0 a ≡ Some q →
      (p : ℕ) → walk A q s ≡ Some p → ((p' : ℕ) → A.go p (grammar_symbol.Tok n) ≡ Some p' → ⊥) → CanBlock (A.candidates p n)
  kid_blocks (loose_opened {q = q} {k = k} {n = n} place go bg) x xs e a at p ws u =
      no_free (grammar_symbol.Tok k ∷ a) p n (walk-append A 0 q (grammar_symbol.Tok k ∷ []) a at ∙ ws) u (λ r o some. token_top k (length xs) r a (ap length e) o some)
  kid_blocks (loose_with_kid {q = q} {s = s} {x = y} {xs = ys} {p = p0} {m = m} {s' = s'} part ws0 bg kid) x xs e a at p ws u =
      absurd (by_sum kid s a (length xs) p (subst (λ z. PartShape s (suc (length z))) e (part_shape part)) (sym (walk-append A q p0 s' s ws0) ∙ ws) (walk-append A 0 q (s' ++ s) a at ∙ ws) u)

  pub place_blocks : {q : ℕ} {k t : Tok} → LoosePlace A q k t → ((p : ℕ) → A.go q (grammar_symbol.Tok k) ≡ Some p → ⊥) → CanBlock (A.candidates q k)
  place_blocks (loose_start {k = k} may) u = no_free [] 0 k refl u start_top
  place_blocks (loose_kid {q = q} {k = k} {t = t} {s = s} {x = x} {xs = xs} {n = n} {p = p} {m = m} part ws bg) u =
      let place : MetPlace A q k t = (met_part A table part).0 in
      kid_blocks part x xs refl place.below place.at p ws u
