-- Where the places of two codes correspond, their machines move in step, or the first one alone.
use Rattle.std.proofs.Common.{◌≡◌, ℕ, ◌+◌, Bool, true, false, cond, List, Option, Some, None, Result, Ok, Err, refl, sym, ap, subst, ◌∙◌}
use Rattle.std.specs.Prelude.{slice_get, ◌||◌}
use Rattle.std.specs.Str.{bytes_eq}
use Rattle.vax_core.specs.declared.op.Op.{Op}
use Rattle.vax_core.specs.declared.operand.Operand.{Operand}
use Rattle.vax_core.specs.declared.code.Code.{Code}
use Rattle.vax_core.specs.declared.code.Instr.{Instr}
use Rattle.vax_core.specs.declared.code.CodeItem.{CodeItem}
use Rattle.vax_core.specs.declared.code.CodeItem.TheVariants as item_kind
use Rattle.vax_core.specs.First.{putchar_name}
use Rattle.vax_core.specs.Ops.{shape}
use Rattle.vax_machine_live.specs.declared.frame.Frame.{Frame}
use Rattle.vax_machine.specs.declared.turn.Stop.{Stop}
use Rattle.vax_machine.specs.declared.operands.Arguments.{Arguments}
use Rattle.vax_machine.specs.declared.function.Conditions.{Conditions}
use Rattle.vax_machine.specs.declared.function.Test.{Test}
use Rattle.vax_machine.specs.declared.function.Test.TheVariants as test
use Rattle.vax_machine.specs.declared.function.Action.{Action}
use Rattle.vax_machine.specs.declared.function.Action.TheVariants.{Compute, Push, Branch, Call, Return}
use Rattle.vax_machine.specs.State.{State, bad_code, ◌>>=◌}
use Rattle.vax_machine.specs.Functions.{action_of, passes}
use Rattle.vax_machine.specs.Labels.{next_item, label_place, has_label, is_service, getchar_name}
use Rattle.vax_machine.specs.Calls.{Acts, called, silent, putchar, getchar, called_by_name}
use Rattle.vax_machine.specs.Step.{Next, Goes, Writes, act, at_item, instruction, acted, branched, next_of, next_where, step_of}
use Rattle.vax_machine_lists.specs.Sound.{Behind}
use Rattle.vax_alike.specs.Corresponding.{Standing, Somewhere, falls, is_instr, IsDefined, Targets, Carries, DoTheSame, Meets, Neither, Both, Alone, Correspond}
use Rattle.vax_alike.proofs.Placing.{Where, there, where_of, Carried, all_there}
use Rattle.vax_alike.proofs.Frames.{AreFramesAlike, same_control}
use Rattle.vax_alike.proofs.Acting.{AreCodesAlike, codes_less, passes_alike, Stands, Done, stand_with, stand_here, pushing_done, finished_done, applied_alike, putchar_done, getchar_done}
use Rattle.vax_alike.proofs.Acting.{v as one_place, w as other_place}
use Rattle.vax_alike.proofs.Calling.{silent_done, called_done, returned_done}
use Rattle.vax_alike.proofs.Simulating.{Moves, Going, Writing, Over, First}

-- a branch that isn't taken comes behind itself
not_taken : (t : Test) (c : Conditions) → passes t c ≡ false → falls (Branch t) ≡ true
not_taken test.Always c e = sym e
not_taken test.Equal c e = refl
not_taken test.NotEqual c e = refl
not_taken test.Less c e = refl
not_taken test.LessOrEqual c e = refl
not_taken test.Greater c e = refl
not_taken test.GreaterOrEqual c e = refl
not_taken test.LessUnsigned c e = refl
not_taken test.LessOrEqualUnsigned c e = refl
not_taken test.GreaterUnsigned c e = refl
not_taken test.GreaterOrEqualUnsigned c e = refl

nothing_next : (o : Option CodeItem) (place : ℕ) (m : State) → is_instr o ≡ false → at_item o place m ≡ Err bad_code
nothing_next None place m e = refl
nothing_next (Some (item_kind.Label n)) place m e = refl
nothing_next (Some (item_kind.Globl n)) place m e = refl
nothing_next (Some (item_kind.Mask k)) place m e = refl
nothing_next (Some (item_kind.Instr i)) place m e = absurd cc

module _ (c d : Code) (At : Standing) (Reads : ℕ → Type 0) (Ready : State → Type 0) (corr : Correspond c d At Reads Ready) where
  abbrev cs : List CodeItem
  cs = c.items

  abbrev ds : List CodeItem
  ds = d.items

  -- ---- one instruction, at the places behind it

  module _ (before p q : ℕ) (fs gs : List Frame) (a b : Conditions) (alike : AreFramesAlike At fs gs) (codes : AreCodesAlike (Reads before) a b) where
    abbrev v : Where
    v = one_place cs ds At Reads p q fs gs a b alike

    abbrev w : Where
    w = other_place cs ds At Reads p q fs gs a b alike

    abbrev D : {X : Type 0} → Result (X × State) Stop → Result (X × State) Stop → Type 0
    D r s = Done cs ds At Reads r s

    codes_of : (m : State) → where_of m ≡ v → AreCodesAlike (Reads before) m.conditions b
    codes_of m h = subst (λ (x : Where). AreCodesAlike (Reads before) x.conditions b) (sym h) codes

    module _ (m : State) (h : where_of m ≡ v) where
      branch_by : (taken : Bool) (l n : List ℕ) → (taken ≡ false → Somewhere At p q × (Reads p → Reads before)) → Somewhere At (label_place cs l) (label_place ds n)
          → (Reads (label_place cs l) → Reads before) → D (branched m taken (Some l)) (branched (there m w) taken (Some n))
      branch_by true l n near to reads =
          subst (λ (xs : List CodeItem). D {X = Option ℕ} (Ok (None, record m { place = label_place xs l })) (Ok (None, record (there m w) { place = label_place ds n })))
          (sym (ap (λ (x : Where). x.items) h)) (
            record (there m w) { place = label_place ds n },
            refl,
            (to.0, stand_with cs ds At Reads p q fs gs a b alike to.0 (label_place cs l) (label_place ds n) m h to.1 m.conditions b (codes_less _ _ m.conditions b reads (codes_of m h))),
          )
      branch_by false l n near to reads =
          let k = near refl in
          (there m w, refl, (k.0.0, stand_here cs ds At Reads p q fs gs a b alike k.0.0 m h k.0.1 m.conditions b (codes_less _ _ m.conditions b k.1 (codes_of m h))))

      branch_done : (t : Test) (x u : Option (List ℕ)) → (falls (Branch t) ≡ true → Somewhere At p q) → Targets cs ds At Reads Ready (Branch t) x u → Carries cs ds At Reads Ready (Branch t) x before p
          → D (branched m (passes t m.conditions) x) (branched (there m w) (passes t b) u)
      branch_done t None u near to carries = ap (branched (there m w) (passes t b)) to
      branch_done t (Some l) u near to carries =
          subst (λ (y : Option (List ℕ)). D (branched m (passes t m.conditions) (Some l)) (branched (there m w) (passes t b) y)) (sym to.1)
          (subst (λ (y : Bool). D (branched m (passes t m.conditions) (Some l)) (branched (there m w) y (Some to.0))) (sym (passes_alike (Reads before) t m.conditions b carries.0 (codes_of m h)))
          (branch_by (passes t m.conditions) l to.0 (λ e. (near (not_taken t m.conditions e), carries.1 (not_taken t m.conditions e))) to.2 carries.2))

      call_by : (name : List ℕ) (count : ℕ) → Somewhere At p q → (x y : Bool) → ((x || y) ≡ false → has_label cs name ≡ true)
          → D (cond x (putchar m count) (cond y (getchar m count) (silent (called m count (label_place m.items name) (Some m.place)))))
          (cond x (putchar (there m w) count) (cond y (getchar (there m w) count) (silent (called (there m w) count (label_place ds name) (Some q)))))
      call_by name count near true y has = putchar_done cs ds At Reads p q fs gs a b alike near m h count
      call_by name count near false true has = getchar_done cs ds At Reads p q fs gs a b alike near m h count
      call_by name count near false false has =
          subst (λ (z : Where). D (silent (called m count (label_place z.items name) (Some z.place))) (silent (called (there m w) count (label_place ds name) (Some q)))) (sym h)
          (silent_done cs ds At Reads _ _ (called_done cs ds At Reads p q fs gs a b alike (label_place cs name) (label_place ds name) (corr.enters name (has refl)) (Some p) (Some q) near m h count))

      service_or : (name : List ℕ) → IsDefined cs (Some name) → is_service name ≡ false → has_label cs name ≡ true
      service_or name e f = sym (ap (λ (x : Bool). x || has_label cs name) f) ∙ e

      call_done : (x u : Option (List ℕ)) (count : ℕ) → Somewhere At p q → (u ≡ x) × IsDefined cs x → D (called_by_name m count x) (called_by_name (there m w) count u)
      unfolding called_by_name
      call_done None u count near to = ap (called_by_name (there m w) count) to.0
      call_done (Some name) u count near to =
          subst (λ (y : Option (List ℕ)). D (called_by_name m count (Some name)) (called_by_name (there m w) count y)) (sym to.0)
          (call_by name count near (bytes_eq name putchar_name) (bytes_eq name getchar_name) (service_or name to.1))

      acted_done : (action : Action) (x : Arguments) (t u : Option (List ℕ)) → Targets cs ds At Reads Ready action t u → Carries cs ds At Reads Ready action t before p
          → (falls action ≡ true → Somewhere At p q) → D (acted action x t m) (acted action x u (there m w))
      acted_done (Compute f) x t u to carries near =
          finished_done cs ds At Reads p q fs gs a b alike (near refl) m h x.destination _ _
          (applied_alike cs ds At Reads p q fs gs a b alike (near refl) f x.first x.second m.conditions.carry b.carry (λ k r. (codes_of m h).carry (carries k r)))
      acted_done Push x t u to carries near =
          pushing_done cs ds At Reads p q fs gs a b alike (near refl) m h x.first (record { negative = refl; zero = refl; carry = λ r. (codes_of m h).carry (carries r) })
      acted_done (Branch y) x t u to carries near = branch_done y t u near to carries
      acted_done Call x t u to carries near = call_done t u x.first (near refl) to
      acted_done Return x t u to carries near = returned_done cs ds At Reads p q fs gs a b alike m h

    pair_done : {X : Type 0} (f g : X × State → Acts) → ((x : X) (n : State) → where_of n ≡ v → D (f (x, n)) (g (x, there n w)))
        → (r s : Result (X × State) Stop) → Carried v w r s → D (r >>= f) (s >>= g)
    pair_done {X = X} f g h (Ok x) s k = subst (λ (t : Result (X × State) Stop). D (f x) (t >>= g)) (sym k.0) (h x.0 x.1 k.1)
    pair_done {X = X} f g h (Err e) s k = ap (λ (t : Result (X × State) Stop). t >>= g) k

    instruction_done : (m : State) → where_of m ≡ v → (op : Op) (os : List Operand) (t u : Option (List ℕ)) → Targets cs ds At Reads Ready (action_of op) t u
        → Carries cs ds At Reads Ready (action_of op) t before p → (falls (action_of op) ≡ true → Somewhere At p q) → D (instruction m op os t) (instruction (there m w) op os u)
    unfolding instruction
    instruction_done m h op os t u to carries near =
        pair_done (λ (x : Arguments × State). acted (action_of op) x.0 t x.1) (λ (x : Arguments × State). acted (action_of op) x.0 u x.1)
        (λ x n k. acted_done n k (action_of op) x t u to carries near)
        _ _ (all_there v w (same_control At fs gs alike) (shape op).operands os m h)

  -- ---- one step

  abbrev pub S : ℕ → State → State → Type 0
  S k m n = Stands cs ds At Reads k m n × Ready m

  going_is : (m : State) → m.over ≡ None → step_of m ≡ next_of (act m)
  going_is m e = ap (λ (o : Option Stop). next_where o m) e

  ready_of : (x : Next) → Behind Ready x → (m : State) → x ≡ Goes m → Ready m
  ready_of x h m e = subst (Behind Ready) e h

  ready_written : (x : Next) → Behind Ready x → (b : ℕ) (m : State) → x ≡ Writes b m → Ready m
  ready_written x h b m e = subst (Behind Ready) e h

  acts_at : (m : State) (items : List CodeItem) (o : Option CodeItem) → m.items ≡ items → slice_get items (next_item items m.place) ≡ o → act m ≡ at_item o (next_item items m.place) m
  unfolding act
  acts_at m items o e f =
      ap (λ (xs : List CodeItem). at_item (slice_get xs (next_item xs m.place)) (next_item xs m.place) m) e ∙ ap (λ (x : Option CodeItem). at_item x (next_item items m.place) m) f

  module _ (k : ℕ) (m n : State) (s : Stands cs ds At Reads k m n) (ready : Ready m) where
    n_items : n.items ≡ ds
    n_items = ap (λ (x : State). x.items) s.same

    n_going : n.over ≡ None
    n_going = ap (λ (x : State). x.over) s.same

    m_behind : Behind Ready (step_of m)
    m_behind = corr.goes_on m s.items s.going ready

    both_by : (x y : Acts) → act m ≡ x → act n ≡ y → Done cs ds At Reads x y → Moves S k m n
    both_by (Ok (None, x)) y e f (z, is, (j, t)) =
        let g : step_of m ≡ Goes x = going_is m s.going ∙ ap next_of e in
        Going j x z g (going_is n n_going ∙ ap next_of (f ∙ is)) (t, ready_of _ m_behind x g)
    both_by (Ok (Some b, x)) y e f (z, is, (j, t)) =
        let g : step_of m ≡ Writes b x = going_is m s.going ∙ ap next_of e in
        Writing j b x z g (going_is n n_going ∙ ap next_of (f ∙ is)) (t, ready_written _ m_behind b x g)
    both_by (Err x) y e f h = Over x (going_is m s.going ∙ ap next_of e) (going_is n n_going ∙ ap next_of (f ∙ h))

    -- where the first code stands behind its next item, and where the second does
    abbrev before : ℕ
    before = m.place

    abbrev p : ℕ
    p = next_item cs m.place + 1

    abbrev q : ℕ
    q = next_item ds n.place + 1

    same_done : (i j : Instr) → DoTheSame cs ds At Reads Ready i j m.place n.place
        → Done cs ds At Reads (instruction (record m { place = p }) i.op i.operands i.target) (instruction (record n { place = q }) j.op j.operands j.target)
    same_done i j x =
        subst (λ (op : Op). Done cs ds At Reads (instruction (record m { place = p }) i.op i.operands i.target) (instruction (record n { place = q }) op j.operands j.target)) (sym x.op)
        (subst (λ (os : List Operand). Done cs ds At Reads (instruction (record m { place = p }) i.op i.operands i.target) (instruction (record n { place = q }) i.op os j.target)) (sym x.operands)
        (subst (λ (y : State). Done cs ds At Reads (instruction (record m { place = p }) i.op i.operands i.target) (instruction (record y { place = q }) i.op i.operands j.target)) (sym s.same)
        (instruction_done m.place p q m.frames n.frames m.conditions n.conditions s.frames s.codes (record m { place = p })
        (λ t. record { place = p; items = s.items t; frames = m.frames; conditions = m.conditions; over = s.going t })
        i.op i.operands i.target j.target x.targets x.carries x.behind)))

    move_by : Meets cs ds At Reads Ready k m.place n.place → Moves S k m n
    move_by (Neither x y) =
        Over bad_code (going_is m s.going ∙ ap next_of (acts_at m cs _ s.items refl ∙ nothing_next _ _ m x))
        (going_is n n_going ∙ ap next_of (acts_at n ds _ n_items refl ∙ nothing_next _ _ n y))
    move_by (Both i j x y same) = both_by _ _ (acts_at m cs _ s.items x) (acts_at n ds _ n_items y) (same_done i j same)
    move_by (Alone to j less at stays) =
        let t = stays m s.items refl s.going ready in
        let g : step_of m ≡ Goes (record m { place = to; conditions = t.conditions }) = going_is m s.going ∙ ap next_of t.acts in
        First j (record m { place = to; conditions = t.conditions }) g less (
          record {
            at = at;
            items = s.items;
            going = s.going;
            codes = record { negative = s.codes.negative ∙ sym t.negative; zero = s.codes.zero ∙ sym t.zero; carry = λ r. (let u = t.carry r in s.codes.carry u.0 ∙ sym u.1) };
            frames = s.frames;
            same = s.same;
          },
          ready_of _ m_behind _ g,
        )

  pub moves : (k : ℕ) (m n : State) → S k m n → Moves S k m n
  moves k m n s = move_by k m n s.0 s.1 (corr.meets k m.place n.place s.0.at)
