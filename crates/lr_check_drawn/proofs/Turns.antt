-- Reductions of a class alone, one by one.
use Rattle.std.proofs.Common.{◌≡◌, ℕ, zero, suc, ◌+◌, ◌-◌, ◌<◌, ◌≤◌, List, [], ◌∷◌, ◌++◌, Some, length, get_or, slice_get, refl, sym, ap, ◌∙◌, subst}
use Rattle.std.proofs.Common.{⊎_elim, arith, length-append}
use Rattle.std.specs.Prelude.{Result, Ok, Err, IfOk}
use Rattle.std.proofs.lemmas.Option.{slice_get_within, slice_get-get_or, get_or_from_slice_get, same_Some, none-some}
use Rattle.std.proofs.lemmas.List.{get_or_default}
use Rattle.gg_base.proofs.Facts.{slice_last, slice_cases}
use Rattle.tree_core.specs.declared.token.Tok.{Tok}
use Rattle.md_reader.specs.declared.types.Sym.TheVariants as grammar_symbol
use Rattle.lr_check_found.specs.lr_check_sets.specs.Automaton.{Automaton}
use Rattle.lr_check_found.specs.declared.places.Place.{Place}
use Rattle.lr_check_samples.specs.Answering.{answers_to, depths_to}
use Rattle.lr_check_samples.specs.Samples.{Turning, turn, turn_on}
use Rattle.lr_check_flaws.specs.Flaws.{StepsTo, Along, along_one, along_on}
use Rattle.lr_check_drawn.specs.Asked.{AskedView}
use Rattle.lr_check_drawn.specs.Turning.{HasTurned, LeadsOn, class_before, Turned, turned_not, turned_so, Turns}

module _ (A : Automaton) (q : ℕ) (t : Tok) where
  -- the last class, and that there is one
  pub record Lasts (c : ℕ) (ds : List ℕ) (d : ℕ) : Type 0 where
    pub before : ℕ
    pub long : length ds ≡ suc before
    pub last : slice_get ds before ≡ Some d

  pub lasts : {c d : ℕ} {ds : List ℕ} → Along A q t c ds d → Lasts c ds d
  lasts (along_one s) = record { before = 0; long = refl; last = refl }
  lasts (along_on {e = e} {ds = ds} h s) = record { before = length ds; long = length-append ds (e ∷ []) ∙ (let more : length ds + 1 ≡ suc (length ds) = omega arith in more); last = slice_last ds e }

  -- the step to the class with a number: from the first class, or from the one before it
  pub first_step : {c d : ℕ} {ds : List ℕ} → Along A q t c ds d → (e : ℕ) → slice_get ds 0 ≡ Some e → StepsTo A q t c e
  first_step {c = c} (along_one {d = d} s) e at = subst (StepsTo A q t c) (same_Some d e at) s
  first_step (along_on {e = g} {ds = []} h s) e at = absurd (let l = lasts h in none-some l.before (absurd (let long : 0 ≡ suc l.before = l.long in omega (arith, long))))
  first_step (along_on {e = g} {ds = b ∷ ds} h s) e at = first_step h e at

  pub next_step : {c d : ℕ} {ds : List ℕ} → Along A q t c ds d → (n a e : ℕ) → slice_get ds n ≡ Some a → slice_get ds (suc n) ≡ Some e → StepsTo A q t a e
  next_step (along_one s) n a e at next = absurd (none-some e next)
  next_step (along_on {d = d} {e = g} {ds = ds} h s) n a e at next = ⊎_elim
      (λ old. next_step h n a e (before n a at (let lt = slice_get_within ds (suc n) e old in omega (arith, lt))) old)
      (λ here. let l = lasts h in
      let long : length ds ≡ suc l.before = l.long in
      let same : n ≡ l.before = (let is : suc n ≡ length ds = here.0 in omega (arith, is, long)) in
      let a_is : d ≡ a = same_Some d a (sym (ap (λ m. slice_get ds m) same ∙ l.last) ∙ before n a at (omega (arith, same, long))) in
      subst (λ z. StepsTo A q t z e) a_is (subst (StepsTo A q t d) (sym here.1) s))
      (slice_cases ds g (suc n) e next)
    where
      before : (m b : ℕ) → slice_get (ds ++ g ∷ []) m ≡ Some b → m < length ds → slice_get ds m ≡ Some b
      before m b got lt = ⊎_elim (λ h. h) (λ h. absurd (let is = h.0 in omega (arith, lt, is))) (slice_cases ds g m b got)

  pub step_at : {c d : ℕ} {ds : List ℕ} → Along A q t c ds d → (n e f : ℕ) → f ≡ class_before c ds n → slice_get ds n ≡ Some e → StepsTo A q t f e
  step_at h zero e f is at = subst (λ z. StepsTo A q t z e) (sym is) (first_step h e at)
  step_at {c = c} {ds = ds} h (suc n) e f is at = subst (λ z. StepsTo A q t z e) (sym is)
      (next_step h n (get_or ds n c) e (slice_get-get_or ds n c (let lt = slice_get_within ds (suc n) e at in omega (arith, lt))) at)

module _ (A : Automaton) (x : Place) where
  step_turns : (c d e n : ℕ) (a b : AskedView) → Turned A x c d a n → (s : StepsTo A x.state x.behind d e) → b ≡ record {
    own = a.own ++ answers_to (A.candidates s.at x.behind) 1 e;
    depths = a.depths ++ depths_to (A.candidates s.at x.behind) 1 e;
  } → HasTurned A x c e b
  step_turns c d e n a b (turned_not same none) s is =
      let g : Turning A x.state x.behind (grammar_symbol.Class d ∷ []) (grammar_symbol.Class s.rule.left ∷ []) (answers_to (A.candidates s.at x.behind) 1 s.rule.left)
      (depths_to (A.candidates s.at x.behind) 1 s.rule.left) =
      turn s.rule s.go s.free s.one in
      let h = subst (λ z. Turning A x.state x.behind (grammar_symbol.Class d ∷ []) (grammar_symbol.Class z ∷ []) (answers_to (A.candidates s.at x.behind) 1 z)
      (depths_to (A.candidates s.at x.behind) 1 z)) s.left g in
      let k = subst (λ z. Turning A x.state x.behind (grammar_symbol.Class z ∷ []) (grammar_symbol.Class e ∷ []) (answers_to (A.candidates s.at x.behind) 1 e)
      (depths_to (A.candidates s.at x.behind) 1 e))
      (sym same) h in
      let full : b ≡ record { own = answers_to (A.candidates s.at x.behind) 1 e; depths = depths_to (A.candidates s.at x.behind) 1 e } =
      is ∙ ap (λ (z : AskedView). record { own = z.own ++ answers_to (A.candidates s.at x.behind) 1 e; depths = z.depths ++ depths_to (A.candidates s.at x.behind) 1 e }) none in
      subst (λ (z : AskedView). HasTurned A x c e z) (sym full) k
  step_turns c d e n a b (turned_so m turned) s is =
      let g : Turning A x.state x.behind (grammar_symbol.Class c ∷ []) (grammar_symbol.Class s.rule.left ∷ []) (a.own ++ answers_to (A.candidates s.at x.behind) 1 s.rule.left)
      (a.depths ++ depths_to (A.candidates s.at x.behind) 1 s.rule.left) = turn_on s.rule turned s.go s.free s.one in
      let h = subst (λ z. Turning A x.state x.behind (grammar_symbol.Class c ∷ []) (grammar_symbol.Class z ∷ []) (a.own ++ answers_to (A.candidates s.at x.behind) 1 z)
      (a.depths ++ depths_to (A.candidates s.at x.behind) 1 z)) s.left g in
      subst (λ (z : AskedView). HasTurned A x c e z) (sym is) h

  pub turns_none : (c : ℕ) (ds : List ℕ) (a : AskedView) → a ≡ record { own = []; depths = [] } → Turns A x c ds c a 0
  turns_none c ds a e = record { within = omega arith; from_before = refl; turned = turned_not refl e }

  pub turns_more : (c i y from : ℕ) (ds : List ℕ) (a b : AskedView) → LeadsOn A x c ds → Turns A x c ds from a i → i < length ds →
      ((p : ℕ) → A.go x.state (grammar_symbol.Class from) ≡ Some p → b ≡ record {
        own = a.own ++ answers_to (A.candidates p x.behind) 1 (get_or ds i y);
        depths = a.depths ++ depths_to (A.candidates p x.behind) 1 (get_or ds i y);
      }) → Turns A x c ds (get_or ds i y) b (i + 1)
  turns_more c i y from ds a b h k lt is =
      let s : StepsTo A x.state x.behind from (get_or ds i y) = step_at A x.state x.behind h.along i (get_or ds i y) from k.from_before (slice_get-get_or ds i y lt) in
      let more : suc i ≡ i + 1 = omega arith in
      subst (Turns A x c ds (get_or ds i y) b) more (record {
        within = omega (arith, lt);
        from_before = get_or_default ds i y c lt;
        turned = turned_so i (step_turns c from (get_or ds i y) i a b k.turned s (is s.at s.go));
      })

  turned_last : (c from n : ℕ) (a : AskedView) → Turned A x c from a n → (m : ℕ) → n ≡ suc m → HasTurned A x c from a
  turned_last c from n a (turned_not same none) m e = absurd (omega (arith, e))
  turned_last c from n a (turned_so k h) m e = h

  pub turns_all : (c d i from : ℕ) (ds : List ℕ) (a : AskedView) → Turns A x c ds from a i → length ds ≤ i → Along A x.state x.behind c ds d → HasTurned A x c d a
  turns_all c d i from ds a k le h =
      let l = lasts A x.state x.behind h in
      let long : length ds ≡ suc l.before = l.long in
      let within : i ≤ length ds = k.within in
      let same : i ≡ suc l.before = omega (arith, long, within, le) in
      let is : from ≡ d = k.from_before ∙ (ap (class_before c ds) same ∙ get_or_from_slice_get ds l.before d c l.last) in
      subst (λ z. HasTurned A x c z a) is (turned_last c from i a k.turned l.before same)

  last_is : (c d : ℕ) (ds : List ℕ) → Along A x.state x.behind c ds d → get_or ds (length ds - 1) 0 ≡ d
  last_is c d ds h =
      let l = lasts A x.state x.behind h in
      let long : length ds ≡ suc l.before = l.long in
      let at : length ds - 1 ≡ l.before = omega (arith, long) in
      ap (λ n. get_or ds n 0) at ∙ get_or_from_slice_get ds l.before d 0 l.last

  pub round_turned : {E : Type 0} (r : Result AskedView E) (n : ℕ) (ds : List ℕ) → n ≡ get_or ds (length ds - 1) 0 →
      IfOk r (λ a. (d : ℕ) → Along A x.state x.behind n ds d → HasTurned A x n d a) → IfOk r (λ a. (c : ℕ) → Along A x.state x.behind c ds c → HasTurned A x c c a)
  round_turned (Ok a) n ds e h = λ c along.
      let same : n ≡ c = e ∙ last_is c c ds along in
      subst (λ z. HasTurned A x z c a) same (h c (subst (λ z. Along A x.state x.behind z ds c) (sym same) along))
  round_turned (Err u) n ds e h = tt
