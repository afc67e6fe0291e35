-- The classes that were on top since a token was shifted or the stack became shorter tell which stacks
-- stood before.
use Rattle.std.proofs.Common.{◌≡◌, ◌⊎◌, ℕ, ◌+◌, ◌≤◌, ◌<◌, List, [], ◌∷◌, Bool, true, false, Contains, length, get_or, set, drop, replicate, sym, ap, ◌∙◌, subst}
use Rattle.std.proofs.Common.{inl, inr, ⊎_elim, arith}
use Rattle.std.proofs.lemmas.List.{get_or-replicate, get_or_past, get_or-set_same, get_or-set_other, length-replicate}
use Rattle.std.proofs.lemmas.List.Elements.{Contains-append_right}
use Rattle.std.proofs.lemmas.Bool.{cases_lt, cases_eq, both_ways}
use Rattle.gg_base.proofs.Facts.{nil_cons}
use Rattle.md_reader.specs.declared.types.Sym.{Sym}
use Rattle.md_reader.specs.declared.types.Sym.TheVariants as grammar_symbol
use Rattle.tree_core.specs.declared.token.Tok.{Tok}
use Rattle.lr_check.proofs.Contained.{here, one_cases, cons_cases}

-- of the stacks that stood, the present one among them, none is shorter than it, and the marks are of
-- those that differ from it in a class on top
pub record Seen (seen : List Bool) (a : List Sym) (stood : List (List Sym)) : Type 0 where
  pub there : (c : ℕ) → get_or seen c false ≡ true → Contains stood (grammar_symbol.Class c ∷ drop 1 a)
  pub back : (c : ℕ) → Contains stood (grammar_symbol.Class c ∷ drop 1 a) → get_or seen c false ≡ true
  pub lower : (b : List Sym) → Contains stood b → length a ≤ length b

there_too : {X : Type 0} (y : X) (ys : List X) (x : X) → Contains ys x → Contains (y ∷ ys) x
there_too y ys x h = Contains-append_right (y ∷ []) ys x h

pub none_marked : (n c : ℕ) → get_or (replicate n false) c false ≡ true → ⊥
none_marked n c e =
    ⊎_elim
    (λ lt. both_ways (get_or (replicate n false) c false) (get_or-replicate n c false false lt) e)
    (λ le. both_ways (get_or (replicate n false) c false) (get_or_past (replicate n false) c false (let l : length (replicate n false) ≡ n = length-replicate n false in omega (arith, l, le))) e)
    (cases_lt c n)

unlike_tops : (t : Tok) (c : ℕ) (a b : List Sym) → grammar_symbol.Tok t ∷ a ≡ grammar_symbol.Class c ∷ b → ⊥
unlike_tops t c a b e = cc

same_class : (c d : ℕ) (a b : List Sym) → grammar_symbol.Class c ∷ a ≡ grammar_symbol.Class d ∷ b → c ≡ d
same_class c d a b e = cc

length_same : (a b : List Sym) → a ≡ b → length a ≡ length b
length_same a b e = ap (λ (x : List Sym). length x) e

pub seen_start : (n : ℕ) → Seen (replicate n false) [] ([] ∷ [])
seen_start n = record {
  there = λ c e. absurd (none_marked n c e);
  back = λ c h. absurd (nil_cons (grammar_symbol.Class c) [] (one_cases [] (grammar_symbol.Class c ∷ []) h));
  lower = λ b h. omega arith;
}

-- a token is shifted
pub seen_shift : (n : ℕ) (t : Tok) (a : List Sym) → Seen (replicate n false) (grammar_symbol.Tok t ∷ a) ((grammar_symbol.Tok t ∷ a) ∷ [])
seen_shift n t a = record {
  there = λ c e. absurd (none_marked n c e);
  back = λ c h. absurd (unlike_tops t c a a (one_cases (grammar_symbol.Tok t ∷ a) (grammar_symbol.Class c ∷ a) h));
  lower = λ b h. (let l = length_same (grammar_symbol.Tok t ∷ a) b (one_cases (grammar_symbol.Tok t ∷ a) b h) in omega (arith, l));
}

marked_there : (seen : List Bool) (n c : ℕ) → get_or (set seen n true) c false ≡ true → (c ≡ n) ⊎ (get_or seen c false ≡ true)
marked_there seen n c e = ⊎_elim (λ f. inl f) (λ ne. inr (sym (get_or-set_other seen n c true false ne) ∙ e)) (cases_eq c n)

marked_back : (seen : List Bool) (n c : ℕ) → n < length seen → get_or seen c false ≡ true → get_or (set seen n true) c false ≡ true
marked_back seen n c lt e =
    ⊎_elim
    (λ f. ap (λ (x : ℕ). get_or (set seen n true) x false) f ∙ get_or-set_same seen n true false lt)
    (λ ne. get_or-set_other seen n c true false ne ∙ e)
    (cases_eq c n)

marked_at : (seen : List Bool) (n c : ℕ) → n < length seen → n ≡ c → get_or (set seen n true) c false ≡ true
marked_at seen n c lt e = subst (λ (x : ℕ). get_or (set seen n true) x false ≡ true) e (get_or-set_same seen n true false lt)

-- the class of a rule of one symbol comes on top
pub seen_unit : (seen : List Bool) (a : List Sym) (stood : List (List Sym)) (n : ℕ) → Seen seen a stood → 0 < length a → n < length seen
    → Seen (set seen n true) (grammar_symbol.Class n ∷ drop 1 a) ((grammar_symbol.Class n ∷ drop 1 a) ∷ stood)
seen_unit seen a stood n s some lt = record {
  there = λ c e. ⊎_elim
      (λ f. subst (λ (x : ℕ). Contains ((grammar_symbol.Class n ∷ drop 1 a) ∷ stood) (grammar_symbol.Class x ∷ drop 1 a)) (sym f) (here (grammar_symbol.Class n ∷ drop 1 a) stood))
      (λ f. there_too (grammar_symbol.Class n ∷ drop 1 a) stood (grammar_symbol.Class c ∷ drop 1 a) (s.there c f))
      (marked_there seen n c e);
  back = λ c h. ⊎_elim
      (λ f. marked_at seen n c lt (same_class n c (drop 1 a) (drop 1 a) f))
      (λ f. marked_back seen n c lt (s.back c f))
      (cons_cases (grammar_symbol.Class n ∷ drop 1 a) stood (grammar_symbol.Class c ∷ drop 1 a) h);
  lower = λ b h. ⊎_elim
      (λ f. let l = length_same (grammar_symbol.Class n ∷ drop 1 a) b f in omega (arith, l))
      (λ f. let l = s.lower b f in let m = one_less a some in omega (arith, l, m))
      (cons_cases (grammar_symbol.Class n ∷ drop 1 a) stood b h);
}
  where
    one_less : (b : List Sym) → 0 < length b → length (drop 1 b) + 1 ≡ length b
    one_less [] lt = absurd (omega (arith, lt))
    one_less (x ∷ b) lt = omega arith

-- the class of a longer rule comes on top
pub seen_long : (seen : List Bool) (a b : List Sym) (stood : List (List Sym)) (n : ℕ) (m : ℕ) → Seen seen a stood → length b + 1 < length a → n < m
    → Seen (set (replicate m false) n true) (grammar_symbol.Class n ∷ b) ((grammar_symbol.Class n ∷ b) ∷ stood)
seen_long seen a b stood n m s less lt = record {
  there = λ c e. ⊎_elim
      (λ f. subst (λ (x : ℕ). Contains ((grammar_symbol.Class n ∷ b) ∷ stood) (grammar_symbol.Class x ∷ b)) (sym f) (here (grammar_symbol.Class n ∷ b) stood))
      (λ f. absurd (none_marked m c f))
      (marked_there (replicate m false) n c e);
  back = λ c h. ⊎_elim
      (λ f. marked_at (replicate m false) n c (let l : length (replicate m false) ≡ m = length-replicate m false in omega (arith, l, lt)) (same_class n c b b f))
      (λ f. absurd (let l = s.lower (grammar_symbol.Class c ∷ b) f in omega (arith, l, less)))
      (cons_cases (grammar_symbol.Class n ∷ b) stood (grammar_symbol.Class c ∷ b) h);
  lower = λ x h. ⊎_elim
      (λ f. let l = length_same (grammar_symbol.Class n ∷ b) x f in omega (arith, l))
      (λ f. let l = s.lower x f in omega (arith, l, less))
      (cons_cases (grammar_symbol.Class n ∷ b) stood x h);
}
