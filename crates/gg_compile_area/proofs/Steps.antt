-- What is spelled of one byte, and of what is behind it.
use Rattle.std.proofs.Common.{◌≡◌, ℕ, zero, suc, ◌+◌, ◌-◌, Bool, true, false, cond, List, [], ◌∷◌, ◌++◌, refl, sym, ap, ◌∙◌, arith, append_assoc, append-nil}
use Rattle.std.specs.Prelude.{◌≢◌, eqb}
use Rattle.std.proofs.lemmas.Bool.{eqb-true, eq-eqb}
use Rattle.vax_core.specs.declared.code.AreaItem.{AreaItem}
use Rattle.vax_core.specs.declared.code.AreaItem.TheVariants as areas
use Rattle.tree_core.specs.declared.program.Link.{Link}
use Rattle.tree_core.specs.declared.program.Object.{Object}
use Rattle.gg_compile_law.specs.Spelling.{after_zeros, by_byte, link_addr, spelled, block_of, blocks_of}

pub no_zeros : (items : List AreaItem) (z : ℕ) → z ≡ 0 → items ≡ items ++ after_zeros z []
no_zeros items z e = sym (append-nil items) ∙ ap (λ (k : ℕ). items ++ after_zeros k []) (sym e)

pub some_zeros : (items : List AreaItem) (z : ℕ) → z ≢ 0 → items ++ areas.Space z ∷ [] ≡ items ++ after_zeros z []
some_zeros items zero ne = absurd (ne refl)
some_zeros items (suc n) ne = refl

-- zeros, and items behind them
zeros_then : (z : ℕ) (xs : List AreaItem) → after_zeros z [] ++ xs ≡ after_zeros z xs
zeros_then zero xs = refl
zeros_then (suc n) xs = refl

pub zero_joins : (items : List AreaItem) (zeros b : ℕ) (go : ℕ → List AreaItem) → b ≡ 0 → items ++ go (zeros + 1) ≡ items ++ by_byte zeros go b
zero_joins items zeros b go e =
    let one : zeros + 1 ≡ suc zeros = omega arith in
    ap (λ (z : ℕ). items ++ go z) one ∙ ap (λ (x : ℕ). items ++ by_byte zeros go x) (sym e)

pub byte_ends : (old mid new : List AreaItem) (zeros b : ℕ) (go : ℕ → List AreaItem) → b ≢ 0 → mid ≡ old ++ after_zeros zeros [] → new ≡ mid ++ areas.Byte b ∷ []
    → new ++ go 0 ≡ old ++ by_byte zeros go b
byte_ends old mid new zeros zero go ne e f = absurd (ne refl)
byte_ends old mid new zeros (suc b) go ne e f =
    ap (λ (l : List AreaItem). l ++ go 0) (f ∙ ap (λ (l : List AreaItem). l ++ areas.Byte (suc b) ∷ []) e)
    ∙ append_assoc (old ++ after_zeros zeros []) (areas.Byte (suc b) ∷ []) (go 0)
    ∙ append_assoc old (after_zeros zeros []) (areas.Byte (suc b) ∷ go 0)
    ∙ ap (λ (l : List AreaItem). old ++ l) (zeros_then zeros (areas.Byte (suc b) ∷ go 0))

module _ (all : List Object) where
  pub passes : (items : List AreaItem) (p z : ℕ) (ls : List Link) (at b : ℕ) (bs : List ℕ) → p ≢ 0
      → items ++ spelled all (p - 1) z ls (at + 1) bs ≡ items ++ spelled all p z ls at (b ∷ bs)
  passes items zero z ls at b bs ne = absurd (ne refl)
  passes items (suc p) z ls at b bs ne = let e : suc p - 1 ≡ p = omega arith in ap (λ (k : ℕ). items ++ spelled all k z ls (at + 1) bs) e

  linked : (old : List AreaItem) (z : ℕ) (l : Link) (ls : List Link) (at b : ℕ) (bs : List ℕ) (t : Bool) → eqb l.at at ≡ t → t ≡ true
      → (old ++ after_zeros z []) ++ areas.Long (link_addr all l) ∷ spelled all 3 0 ls (at + 1) bs ≡ old ++ spelled all 0 z (l ∷ ls) at (b ∷ bs)
  linked old z l ls at b bs true e f =
      let item = areas.Long (link_addr all l) ∷ spelled all 3 0 ls (at + 1) bs in
      append_assoc old (after_zeros z []) item ∙ ap (λ (x : List AreaItem). old ++ x) (zeros_then z item)
      ∙ ap (λ (t : Bool). old ++ cond t (after_zeros z item) (by_byte z (λ (k : ℕ). spelled all zero k (l ∷ ls) (at + 1) bs) b)) (sym e)
  linked old z l ls at b bs false e f = absurd (cc)

  pub links : (old mid new : List AreaItem) (p z : ℕ) (l : Link) (ls : List Link) (at b : ℕ) (bs : List ℕ) → p ≡ 0 → l.at ≡ at → mid ≡ old ++ after_zeros z []
      → new ≡ mid ++ areas.Long (link_addr all l) ∷ []
      → new ++ spelled all 3 0 ls (at + 1) bs ≡ old ++ spelled all p z (l ∷ ls) at (b ∷ bs)
  links old mid new p z l ls at b bs none here e f =
      ap (λ (x : List AreaItem). x ++ spelled all 3 0 ls (at + 1) bs) (f ∙ ap (λ (x : List AreaItem). x ++ areas.Long (link_addr all l) ∷ []) e)
      ∙ append_assoc (old ++ after_zeros z []) (areas.Long (link_addr all l) ∷ []) (spelled all 3 0 ls (at + 1) bs)
      ∙ linked old z l ls at b bs (eqb l.at at) refl (eq-eqb l.at at here)
      ∙ ap (λ (k : ℕ). old ++ spelled all k z (l ∷ ls) at (b ∷ bs)) (sym none)

  other : (t : Bool) (z : ℕ) (l : Link) (ls : List Link) (at b : ℕ) (bs : List ℕ) → eqb l.at at ≡ t → (l.at ≡ at → ⊥)
      → by_byte z (λ (k : ℕ). spelled all zero k (l ∷ ls) (at + 1) bs) b ≡ spelled all 0 z (l ∷ ls) at (b ∷ bs)
  other true z l ls at b bs e ne = absurd (ne (eqb-true l.at at e))
  other false z l ls at b bs e ne =
      ap (λ (t : Bool). cond t (after_zeros z (areas.Long (link_addr all l) ∷ spelled all 3 0 ls (at + 1) bs)) (by_byte z (λ (k : ℕ). spelled all zero k (l ∷ ls) (at + 1) bs) b)) (sym e)

  -- no link begins there
  abbrev pub IsNone : List Link → ℕ → Type 0
  IsNone [] at = Unit {0}
  IsNone (l ∷ ls) at = l.at ≡ at → ⊥

  plainly : (ls : List Link) (z at b : ℕ) (bs : List ℕ) → IsNone ls at → by_byte z (λ (k : ℕ). spelled all zero k ls (at + 1) bs) b ≡ spelled all 0 z ls at (b ∷ bs)
  plainly [] z at b bs ne = refl
  plainly (l ∷ ls) z at b bs ne = other (eqb l.at at) z l ls at b bs refl ne

  pub goes_by : (old new : List AreaItem) (p z r : ℕ) (ls : List Link) (at b : ℕ) (bs : List ℕ) → p ≡ 0 → IsNone ls at → ((go : ℕ → List AreaItem) → new ++ go r ≡ old ++ by_byte z go b)
      → new ++ spelled all 0 r ls (at + 1) bs ≡ old ++ spelled all p z ls at (b ∷ bs)
  goes_by old new p z r ls at b bs none ne h =
      h (λ (k : ℕ). spelled all zero k ls (at + 1) bs) ∙ ap (λ (x : List AreaItem). old ++ x) (plainly ls z at b bs ne) ∙ ap (λ (k : ℕ). old ++ spelled all k z ls at (b ∷ bs)) (sym none)

-- ---- blocks

pub block_is : (old one two new : List AreaItem) (align : AreaItem) (label : AreaItem) (rest : List AreaItem) → one ≡ old ++ align ∷ [] → two ≡ one ++ label ∷ [] → new ≡ two ++ rest
    → new ≡ old ++ (align ∷ (label ∷ rest))
block_is old one two new align label rest e f g =
    g ∙ ap (λ (x : List AreaItem). x ++ rest) (f ∙ ap (λ (x : List AreaItem). x ++ label ∷ []) e)
    ∙ append_assoc (old ++ align ∷ []) (label ∷ []) rest ∙ append_assoc old (align ∷ []) (label ∷ rest)

pub blocks_more : (all xs : List Object) (o : Object) → blocks_of all (xs ++ o ∷ []) ≡ blocks_of all xs ++ block_of all o
blocks_more all [] o = append-nil (block_of all o)
blocks_more all (x ∷ xs) o =
    ap (λ (l : List AreaItem). block_of all x ++ l) (blocks_more all xs o) ∙ sym (append_assoc (block_of all x) (blocks_of all xs) (block_of all o))
