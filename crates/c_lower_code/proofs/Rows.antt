-- Declarations and statements one behind another, and the list of statements behind the row of a block.
use Rattle.std.proofs.Common.{◌≡◌, ◌≤◌, ℕ, suc, List, Bool, [], ◌∷◌, arith, refl, ap, sym, ◌∙◌, append_assoc}
use Rattle.std.proofs.lemmas.List.{append-nil}
use Rattle.c_program.specs.Statements.{ADeclaration, KeepOf, ClearOf, BeginOf, StoreOf, ZerosOf, SomeActions, NoActions, MoreActions}
use Rattle.c_lower_scheme.specs.Trees.{Item}
use Rattle.c_lower_scheme.specs.Parts.{Emitted, Destination, nothing}
use Rattle.c_lower_scheme.specs.Zeros.{is_zeroed}
use Rattle.c_lower_scheme.specs.Flow.{two_done, clearing}
use Rattle.c_lower_scheme.specs.Statements.{declare, lower, lower_row}
use Rattle.c_lower_code.specs.Declarations.{one_declared}

abbrev Same : Emitted → Emitted → Type 0
Same p q = p ≡ q

done_is : (is js : List Item) (t u l m : ℕ) → is ≡ js → t ≡ u → l ≡ m → Same (record { items = is; temps = t; labels = l }) (record { items = js; temps = u; labels = m })
done_is is js t u l m a b c = cc

-- nothing in front of what has at least its temporaries
pub nothing_before : (size l : ℕ) (p : Emitted) → size ≤ p.temps → two_done (nothing size l) p ≡ p
nothing_before size l p le = done_is _ _ _ _ _ _ refl (omega arith) refl

-- and behind it
pub nothing_behind : (size : ℕ) (p : Emitted) → size ≤ p.temps → two_done p (nothing size p.labels) ≡ p
nothing_behind size p le = done_is _ _ _ _ _ _ (append-nil p.items) (omega arith) refl

pub two_assoc : (a b c : Emitted) → two_done a (two_done b c) ≡ two_done (two_done a b) c
two_assoc a b c = done_is _ _ _ _ _ _ (sym (append_assoc a.items b.items c.items)) (omega arith) refl

module _ (size count first : ℕ) (out : Destination) where
  pub declare_temps : (ds : List ADeclaration) (rest : SomeActions) (l : ℕ) → first ≤ (declare size count first out ds rest l).temps
  declare_temps [] rest l = omega arith
  declare_temps (KeepOf object ∷ ds) rest l = declare_temps ds rest l
  declare_temps (ClearOf n ∷ ds) rest l = let h = declare_temps ds rest l in omega arith
  declare_temps (BeginOf n e ∷ ds) rest l = let h = declare_temps ds rest (one_declared size count first (BeginOf n e) ds rest l).labels in omega arith
  declare_temps (StoreOf t o e ∷ ds) rest l = let h = declare_temps ds rest (one_declared size count first (StoreOf t o e) ds rest l).labels in omega arith
  declare_temps (ZerosOf t o n ∷ ds) rest l = let h = declare_temps ds rest (suc l) in omega arith

  pub declare_more : (d : ADeclaration) (ds : List ADeclaration) (rest : SomeActions) (l : ℕ) → declare size count first out (d ∷ ds) rest l
      ≡ two_done (one_declared size count first d ds rest l) (declare size count first out ds rest (one_declared size count first d ds rest l).labels)
  declare_more (KeepOf object) ds rest l = sym (nothing_before first l (declare size count first out ds rest l) (declare_temps ds rest l))
  declare_more (ClearOf n) ds rest l = refl
  declare_more (BeginOf n e) ds rest l = refl
  declare_more (StoreOf t o e) ds rest l = refl
  declare_more (ZerosOf t o n) ds rest l = refl

  pub row_temps : (row : SomeActions) (lb lc l : ℕ) → first ≤ (lower_row size count first out row lb lc l).temps
  row_temps NoActions lb lc l = omega arith
  row_temps (MoreActions a row) lb lc l = let h = row_temps row lb lc (lower size count first out a row lb lc l).labels in omega arith

  pub row_begins : (w : Emitted) (row : SomeActions) (lb lc l : ℕ) → w ≡ nothing first l
      → (two_done w (lower_row size count first out row lb lc w.labels) ≡ lower_row size count first out row lb lc l) × (first ≤ w.temps)
  row_begins w row lb lc l is =
      let h = row_temps row lb lc l in
      let same = nothing_before first l (lower_row size count first out row lb lc l) h in
      let temps : w.temps ≡ first = ap (λ p. p.temps) is in
      (ap (λ p. two_done p (lower_row size count first out row lb lc p.labels)) is ∙ same, omega arith)

  pub declare_begins : (w : Emitted) (ds : List ADeclaration) (rest : SomeActions) (l : ℕ) → w ≡ nothing first l
      → (two_done w (declare size count first out ds rest w.labels) ≡ declare size count first out ds rest l) × (first ≤ w.temps)
  declare_begins w ds rest l is =
      let h = declare_temps ds rest l in
      let same = nothing_before first l (declare size count first out ds rest l) h in
      let temps : w.temps ≡ first = ap (λ p. p.temps) is in
      (ap (λ p. two_done p (declare size count first out ds rest p.labels)) is ∙ same, omega arith)

  -- one declaration more behind others
  pub declare_goes : (w one next whole : Emitted) (d : ADeclaration) (ds : List ADeclaration) (rest : SomeActions)
      → two_done w (declare size count first out (d ∷ ds) rest w.labels) ≡ whole → one ≡ one_declared size count first d ds rest w.labels → next ≡ two_done w one
      → two_done next (declare size count first out ds rest next.labels) ≡ whole
  declare_goes w one next whole d ds rest so is put =
      let more = declare_more d ds rest w.labels in
      let one' = one_declared size count first d ds rest w.labels in
      let split = two_assoc w one' (declare size count first out ds rest one'.labels) in
      ap (λ p. two_done p (declare size count first out ds rest p.labels)) (put ∙ ap (two_done w) is) ∙ sym split ∙ ap (two_done w) (sym more) ∙ so

  pub clear_is : (n : ℕ) (d : ADeclaration) (ds : List ADeclaration) (rest : SomeActions) (l : ℕ) (b : Bool) → d ≡ ClearOf n → b ≡ is_zeroed n ds rest
      → one_declared size count first d ds rest l ≡ record { items = clearing b n; temps = first; labels = l }
  clear_is n d ds rest l b is zeroed = ap (λ x. one_declared size count first x ds rest l) is ∙ sym (ap (λ x. record { items = clearing x n; temps = first; labels = l }) zeroed)
