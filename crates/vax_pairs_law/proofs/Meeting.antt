-- Pieces that do what trees say that are the same meet.
use Rattle.std.proofs.Common.{◌≡◌, get_or, ◌⊎◌, inl, inr, ℕ, ◌<◌, Bool, true, false, cond, List, [], ◌∷◌, ◌++◌, length, Some, Result, Ok, Err, refl, sym, ap, subst, ◌∙◌}
use Rattle.std.proofs.Math.ListN.{get_or-map}
use Rattle.std.proofs.lemmas.List.{length-map}
use Rattle.std.specs.Prelude.{slice_index, ◌^◌, ◌==◌, nat_lt}
use Rattle.vax_pairs.specs.gg_base.specs.declared.size.Size.{Size}
use Rattle.vax_pairs.specs.term_core.specs.Shape.{Constant}
use Rattle.vax_pairs.specs.vax_core.specs.declared.code.CodeItem.{CodeItem}
use Rattle.vax_pairs.specs.vax_machine.specs.declared.turn.Stop.{Stop}
use Rattle.vax_pairs.specs.vax_machine.specs.declared.turn.Stop.TheVariants.{Trapped}
use Rattle.vax_pairs.specs.vax_machine.specs.State.{State, stack_full, ◌>>=◌}
use Rattle.vax_pairs.specs.vax_machine.specs.Memory.{read, written}
use Rattle.vax_pairs.specs.vax_machine.specs.Functions.{passes}
use Rattle.vax_pairs.specs.vax_machine.specs.Labels.{label_place}
use Rattle.vax_pairs.specs.vax_machine.specs.Calls.{called, silent}
use Rattle.vax_pairs.specs.vax_machine.specs.Step.{step_of}
use Rattle.vax_pairs.specs.vax_machine_lists.specs.Sound.{AllBelow}
use Rattle.vax_pairs.specs.vax_machine_lists.specs.Sound.{Behind as StepBehind}
use Rattle.vax_pairs.specs.Ways.{Nearer, Forward, Lower}
use Rattle.vax_pairs.specs.Standing.{Seen, Bare, Even, IsSteady}
use Rattle.vax_pairs.specs.Piecewise.{Meets, Onward, Ending, Calling, Returning}
use Rattle.vax_pairs.specs.Events.{worth, Event, Reads, Stores, Lowers, Divides, Gets, Puts, next_byte, bytes_behind, occurs, wrote}
use Rattle.vax_pairs.specs.TermStates.{TermState, coded, valued_registers, dressed}
use Rattle.vax_pairs.specs.Trees.{Tree, Emits, Asks, Arrives, CallsHere, ReturnsHere, Choose, Behind, DoesTree}
use Rattle.vax_pairs.specs.SameTrees.{Agree, SameEvent, SameTree}
use Rattle.vax_pairs_law.proofs.Nearing.{along, Both, Near, near_along, read_same, write_both}
use Rattle.vax_pairs_law.proofs.Calling.{near_of}
use Rattle.vax_pairs_law.proofs.Beginning.{along_way}

-- what register r is worth
at_term : (env : List ℕ) (s : TermState) (r : ℕ) → slice_index (valued_registers env s) r ≡ worth env (get_or s.registers r (Constant 0))
at_term env s r = get_or-map (worth env) s.registers r (Constant 0)

-- one number more below a bound
one_below : (bound v : ℕ) (xs : List ℕ) → AllBelow bound xs → v < bound → AllBelow bound (xs ++ v ∷ [])
one_below bound v [] h lt = (lt, tt)
one_below bound v (x ∷ xs) h lt = (h.0, one_below bound v xs h.1 lt)

-- a byte of such an input is read
abbrev getting : List ℕ → State → List ℕ → Result (List ℕ × State) Stop
getting env n i = Ok (env ++ next_byte i ∷ [], record n { input = bytes_behind i })

-- Fine: what holds of the first machine's states as long as a piece lasts, so that what is read is a longword
module _ (Rel : Type 0) (Holds : Rel → Seen → Seen → Type 0) (At : ℕ → ℕ → ℕ → Rel → Type 0) (cs ds : List CodeItem) (Fine : State → Type 0)
    (fine_reads : (m : State) → Fine m → (a : ℕ) (s : Size) (v : ℕ) → read m a s ≡ Ok v → v < 2 ^ 32)
    (fine_writes : (m : State) → Fine m → (a : ℕ) (s : Size) (v : ℕ) (n : State) → written m a s v ≡ Ok n → Fine n)
    (fine_gets : (m : State) → Fine m → next_byte m.input < 2 ^ 32) (fine_got : (m : State) → Fine m → Fine (record m { input = bytes_behind m.input })) where
  pub record Base (m n : State) : Type 0 where
    pub even : Even Rel Holds At m n
    pub items : m.items ≡ cs
    pub others_items : n.items ≡ ds
    pub fine : Fine m

  -- what the one event does, the other does
  abbrev Occurs : Result (List ℕ × State) Stop → Result (List ℕ × State) Stop → Type 0
  Occurs (Ok z) s = (n : State) × ((s ≡ Ok (z.0, n)) × (Base z.1 n × AllBelow (2 ^ 32) z.0))
  Occurs (Err e) s = s ≡ Err e

  module _ (env : List ℕ) (small : AllBelow (2 ^ 32) env) (m n : State) (base : Base m n) where
    near : Near m n
    near = near_of Rel Holds At m n base.even

    reads_by : (r s : Result ℕ Stop) → s ≡ r → ((v : ℕ) → r ≡ Ok v → v < 2 ^ 32) → Occurs (r >>= λ (v : ℕ). Ok (env ++ v ∷ [], m)) (s >>= λ (v : ℕ). Ok (env ++ v ∷ [], n))
    reads_by (Ok v) s e lt = (n, (ap (λ (t : Result ℕ Stop). t >>= λ (v : ℕ). Ok (env ++ v ∷ [], n)) e, (base, one_below (2 ^ 32) v env small (lt v refl))))
    reads_by (Err x) s e lt = ap (λ (t : Result ℕ Stop). t >>= λ (v : ℕ). Ok (env ++ v ∷ [], n)) e

    base_along : (sp : ℕ) (a b : List ℕ) → Fine (along m sp a b) → Base (along m sp a b) (along n sp a b)
    base_along sp a b fine =
        let k = near_along m n near sp a b in record {
          even = record { going = base.even.going; others_going = base.even.others_going; long = k.long; others_long = k.others_long; bare = k.bare; frames = base.even.frames };
          items = base.items;
          others_items = base.others_items;
          fine = fine;
        }

    stores_by : (r s : Result State Stop) → Both m n r s → ((x : State) → r ≡ Ok x → Fine x) → Occurs (r >>= λ (x : State). Ok (env, x)) (s >>= λ (x : State). Ok (env, x))
    stores_by (Ok x) s (sp, (a, (b, (e, f)))) fine = (
      along n sp a b,
      (
        ap (λ (t : Result State Stop). t >>= λ (x : State). Ok (env, x)) f,
        (subst (λ (y : State). Base y (along n sp a b)) (sym e) (base_along sp a b (subst Fine e (fine x refl))), small),
      ),
    )
    stores_by (Err q) s h fine = ap (λ (t : Result State Stop). t >>= λ (x : State). Ok (env, x)) h

    choose_by : (b : Bool) (q : Stop) → Occurs (cond b (Err q) (Ok (env, m))) (cond b (Err q) (Ok (env, n)))
    choose_by true q = refl
    choose_by false q = (n, (refl, (base, small)))

    event_same : (e f : Event) → SameEvent e f → Occurs (occurs e env m) (occurs f env n)
    event_same (Reads z a) (Reads y b) h =
        reads_by (read m (worth env a) z) (read n (worth env b) y)
        (ap (λ (s : Size). read n (worth env b) s) (sym h.0) ∙ ap (λ (x : ℕ). read n x z) (sym (h.1 env small)) ∙ read_same m n near (worth env a) z)
        (λ v k. fine_reads m base.fine (worth env a) z v k)
    event_same (Stores z a v) (Stores y b w) h =
        stores_by (written m (worth env a) z (worth env v)) (written n (worth env b) y (worth env w))
        (subst (λ (s : Size). Both m n (written m (worth env a) z (worth env v)) (written n (worth env b) s (worth env w))) h.0
        (subst (λ (x : ℕ). Both m n (written m (worth env a) z (worth env v)) (written n x z (worth env w))) (h.1.0 env small)
        (subst (λ (x : ℕ). Both m n (written m (worth env a) z (worth env v)) (written n (worth env a) z x)) (h.1.1 env small)
        (write_both m n near (worth env a) z (worth env v)))))
        (λ x k. fine_writes m base.fine (worth env a) z (worth env v) x k)
    event_same (Lowers a) (Lowers b) h =
        subst (λ (x : ℕ). Occurs (occurs (Lowers a) env m) (cond (nat_lt x 2139095040) (Err stack_full) (Ok (env, n)))) (h env small) (choose_by (nat_lt (worth env a) 2139095040) stack_full)
    event_same (Divides a) (Divides b) h =
        subst (λ (x : ℕ). Occurs (occurs (Divides a) env m) (cond (x == 0) (Err Trapped) (Ok (env, n)))) (h env small) (choose_by (worth env a == 0) Trapped)
    event_same Gets Gets h =
        let i : List ℕ = m.input in (
          record n { input = bytes_behind i },
          (
            ap (getting env n) (ap (λ (b : Bare). b.input) base.even.bare),
            (
              record {
                even = record {
                  going = base.even.going;
                  others_going = base.even.others_going;
                  long = base.even.long;
                  others_long = base.even.others_long;
                  bare = ap (λ (b : Bare). record b { input = bytes_behind i }) base.even.bare;
                  frames = base.even.frames;
                };
                items = base.items;
                others_items = base.others_items;
                fine = fine_got m base.fine;
              },
              one_below (2 ^ 32) (next_byte i) env small (fine_gets m base.fine),
            ),
          ),
        )
    event_same (Puts a) (Puts b) h = (n, (refl, (base, small)))
    event_same e f h = absurd h

    wrote_same : (e f : Event) → SameEvent e f → (w : List ℕ) → wrote f env w ≡ wrote e env w
    wrote_same (Reads z a) (Reads y b) h w = refl
    wrote_same (Stores z a v) (Stores y b u) h w = refl
    wrote_same (Lowers a) (Lowers b) h w = refl
    wrote_same (Divides a) (Divides b) h w = refl
    wrote_same Gets Gets h w = refl
    wrote_same (Puts a) (Puts b) h w = ap (λ (v : ℕ). w ++ v ∷ []) (sym (h env small))
    wrote_same e f h w = absurd h

    -- states in which two pieces end
    dressed_even : (p q : ℕ) (s t : TermState) → length s.registers ≡ 15 → length t.registers ≡ 15 → Agree (get_or t.registers 12 (Constant 0)) (get_or s.registers 12 (Constant 0))
        → Agree (get_or t.registers 13 (Constant 0)) (get_or s.registers 13 (Constant 0)) → Agree (get_or t.registers 14 (Constant 0)) (get_or s.registers 14 (Constant 0))
        → Even Rel Holds At (dressed env m p s) (dressed env n q t)
    dressed_even p q s t long others_long a f g = record {
      going = base.even.going;
      others_going = base.even.others_going;
      long = length-map s.registers (worth env) ∙ long;
      others_long = length-map t.registers (worth env) ∙ others_long;
      bare = λ i. record {
        layout = (base.even.bare i).layout;
        area = (base.even.bare i).area;
        stack = (base.even.bare i).stack;
        input = (base.even.bare i).input;
        ap = (at_term env t 12 ∙ a env small ∙ sym (at_term env s 12)) i;
        fp = (at_term env t 13 ∙ f env small ∙ sym (at_term env s 13)) i;
        sp = (at_term env t 14 ∙ g env small ∙ sym (at_term env s 14)) i;
      };
      frames = base.even.frames;
    }

  steady_placed : (m : State) (p : ℕ) → IsSteady m → IsSteady (record m { place = p })
  steady_placed m p h f e = record { result = (h f e).result; others = (h f e).others }

  module _ (Ready OthersReady : State → Type 0) (goes_on : (m : State) → Ready m → StepBehind Ready (step_of m)) (others_go_on : (m : State) → OthersReady m → StepBehind OthersReady (step_of m))
      (steady : (m : State) → Ready m → IsSteady m) (others_steady : (m : State) → OthersReady m → IsSteady m) (x y : State) (ready : Ready x) (others : OthersReady y) (k : ℕ) where
    abbrev M : Type 0
    M = Meets Rel Holds At cs ds k x y

    emits_meet : (w : List ℕ) (P Q : List ℕ → State → Type 0) (r s : Result (List ℕ × State) Stop) → Occurs r s → Behind x w P r → Behind y w Q s
        → ((env : List ℕ) (m n : State) → AllBelow (2 ^ 32) env → Base m n → P env m → Q env n → M) → M
    emits_meet w P Q (Ok z) s (n, (e, (base, small))) h g go = go z.0 z.1 n small base h (subst (Behind y w Q) e g)
    emits_meet w P Q (Err q) s e h g go =
        let k = subst (Behind y w Q) e g in
        Ending h.1.0 k.1.0 w h.0 k.0 q h.1.1.0 k.1.1.0 h.1.1.1 k.1.1.1

    nearer_by : (i j l : ℕ) (v w : Bool) → ((v ≡ true) × (w ≡ true)) ⊎ (l < k) → (v ≡ true → 0 < i) → (w ≡ true → 0 < j) → Nearer i j l k
    nearer_by i j l v w (inl h) f g = Forward (f h.0) (g h.1)
    nearer_by i j l v w (inr h) f g = Lower h

    asks_meet : (a b : Bool) → b ≡ a → (A B C D : Type 0) → Choose a A B → Choose b C D → (A → C → M) → (B → D → M) → M
    asks_meet true b e A B C D h g f or = f h (subst (λ (c : Bool). Choose c C D) e g)
    asks_meet false b e A B C D h g f or = or h (subst (λ (c : Bool). Choose c C D) e g)

    pub trees_meet : (s t : Tree) → SameTree Rel Holds At cs ds k s t → (env : List ℕ) (m n : State) → AllBelow (2 ^ 32) env → Base m n → (said : List ℕ)
        → DoesTree cs s env m x said → DoesTree ds t env n y said → M
    trees_meet (Emits e s) (Emits f t) h env m n small base said v w =
        emits_meet said (λ more z. DoesTree cs s more z x (wrote e env said)) (λ more z. DoesTree ds t more z y (wrote f env said)) (occurs e env m) (occurs f env n)
        (event_same env small m n base e f h.0) v w
        (λ more i j low near k l. trees_meet s t h.1 more i j low near (wrote e env said) k
        (subst (λ (u : List ℕ). DoesTree ds t more j y u) (wrote_same env small m n base e f h.0 said) l))
    trees_meet (Asks u s a b) (Asks r t c d) h env m n small base said v w =
        asks_meet (passes u (coded env m.conditions s)) (passes r (coded env n.conditions t)) (h.0 env m.conditions n.conditions small)
        (DoesTree cs a env m x said) (DoesTree cs b env m x said) (DoesTree ds c env n y said) (DoesTree ds d env n y said) v w
        (λ v w. trees_meet a c h.1.0 env m n small base said v w) (λ v w. trees_meet b d h.1.1 env m n small base said v w)
    trees_meet (Arrives u p s) (Arrives r q t) h env m n small base said v w =
        Onward v.0 w.0 h.nearer said (dressed env m p s) (dressed env n q t) h.relation v.1.0 w.1.0 (nearer_by v.0 w.0 h.nearer u r h.lower v.1.1 w.1.1) (record {
          at = h.at;
          even = dressed_even env small m n base p q s t h.long h.others_long h.ap h.fp h.sp;
          holds = h.holds env m.conditions n.conditions small;
        })
    trees_meet (CallsHere i f p s) (CallsHere j g q t) h env m n small base said v w =
        let c = h.1.1 in
        Calling v.1.0 w.1.0 said (dressed env m v.0 s) (dressed env n w.0 t) v.1.1.0 w.1.1.0 base.even.going base.even.others_going (record {
          count = i;
          name = f;
          from = dressed env m p s;
          other = dressed env n q t;
          does = v.1.1.1;
          others_does = w.1.1.1
              ∙ ap (λ (l : List ℕ). silent (called (dressed env n q t) j (label_place ds l) (Some q))) (sym h.1.0)
              ∙ ap (λ (z : ℕ). silent (called (dressed env n q t) z (label_place ds f) (Some q))) (sym h.0);
          items = base.items;
          others_items = base.others_items;
          even = dressed_even env small m n base p q s t c.long c.others_long c.ap c.fp c.sp;
          enters = c.enters env small;
          behind = (c.nearer, (c.relation, (c.at, c.later env small)));
        })
    trees_meet (ReturnsHere p s) (ReturnsHere q t) h env m n small base said v w =
        Returning v.1.0 w.1.0 said (dressed env m v.0 s) (dressed env n w.0 t) v.1.1.0 w.1.1.0 base.even.going base.even.others_going (record {
          from = dressed env m p s;
          other = dressed env n q t;
          does = v.1.1.1;
          others_does = w.1.1.1;
          even = dressed_even env small m n base p q s t h.long h.others_long h.ap h.fp h.sp;
          result = at_term env t 0 ∙ h.result env small ∙ sym (at_term env s 0);
          steady = steady_placed (dressed env m v.0 s) p (steady _ (along_way Ready goes_on _ x said v.1.0 v.1.1.0 ready));
          others_steady = steady_placed (dressed env n w.0 t) q (others_steady _ (along_way OthersReady others_go_on _ y said w.1.0 w.1.1.0 others));
        })
    trees_meet s t h env m n small base said v w = absurd h
