-- Values and zeros are stored in the block.
use Rattle.std.proofs.Common.{◌≡◌, ℕ, zero, suc, ◌+◌, ◌*◌, ◌≤◌, ◌<◌, ◌^◌, List, ◌∷◌, ◌++◌, Option, Some, None, refl, ap, arith, sym, ◌∙◌, subst}
use Rattle.std.specs.Prelude.{◌==◌}
use Rattle.std.proofs.lemmas.Bool.{not-false, not-true, eqb-true, eqb-false}
use Rattle.gg_base.specs.declared.relation.Rel.TheVariants as relations
use Rattle.gg_base.specs.Arithmetic.{add32}
use Rattle.gg_base.specs.Runs.{Runs}
use Rattle.tree_core.specs.Area.{stored}
use Rattle.tree_core.specs.declared.program.TreeItem.{TreeItem}
use Rattle.tree_core.specs.declared.program.TreeProgram.{TreeProgram}
use Rattle.tree_meaning.specs.declared.value.Value.TheVariants.{Number}
use Rattle.tree_meaning.specs.State.{Activation, with_local, behind}
use Rattle.tree_meaning.specs.Values.{bind, there}
use Rattle.c_types.specs.declared.types.CType.{CType}
use Rattle.c_types.specs.declared.types.CType.TheVariants as types
use Rattle.c_types.specs.declared.types.Integer.TheVariants as ints
use Rattle.c_types.specs.declared.typed.ArithmeticOperator.TheVariants as ariths
use Rattle.c_types.specs.Types.{size_of, integer_size, is_scalar}
use Rattle.c_types.specs.Constants.{apply}
use Rattle.c_types.proofs.Sizes.{size_small}
use Rattle.c_meaning.specs.declared.store.Spot.TheVariants.{Memory}
use Rattle.c_meaning.specs.State.{State, integer_access, with_area, put, put_zeros}
use Rattle.c_meaning.specs.Values.{written}
use Rattle.c_meaning.specs.Blocks.{block_set, zeros_set}
use Rattle.c_sound.specs.Fits.{HasSize}
use Rattle.c_lower_scheme.specs.Trees.{Tree, Num, Loc, Bin, Item, Label, AssignLoc, AssignMem, Cbr}
use Rattle.c_lower_scheme.specs.Spelling.{spelled_all}
use Rattle.c_lower_scheme.specs.Places.{integer_of, in_block}
use Rattle.c_lower_scheme.specs.Flow.{zeros_in_block}
use Rattle.c_lower_follows.proofs.Values.{SmallTree, or_zero}
use Rattle.c_lower_counts.proofs.Leads.{Leads, leads_quiet, Depth, with_spare, leads_more, leads_back}
use Rattle.c_lower_follows.proofs.Steps.{Desk, on, Resolves}
use Rattle.c_lower_counts.proofs.Steps.{narrowed, written_at, moves, assign_mem_step, cbr_step, label_step}
use Rattle.c_lower_follows.proofs.Agreeing.{value, set_same, set_other}
use Rattle.c_lower_counts.proofs.Doing.{Agrees, here, save_temp}
use Rattle.c_lower_follows.proofs.Placing.{stored_narrowed}
use Rattle.c_lower_counts.proofs.Placing.{put_memory_step}
use Rattle.c_lower_follows.proofs.Blocks.{block_put, block_put_is}
use Rattle.c_lower_follows.proofs.Held.{held_small, held_value, sum_of}

-- what is stored has bytes
size_some : (t : CType) → HasSize t → 1 ≤ size_of t
unfolding is_scalar size_of integer_size
size_some types.Void h = absurd (cc)
size_some (types.Integer ints.Char) h = omega arith
size_some (types.Integer ints.UnsignedChar) h = omega arith
size_some (types.Integer ints.Short) h = omega arith
size_some (types.Integer ints.UnsignedShort) h = omega arith
size_some (types.Integer ints.Int) h = omega arith
size_some (types.Pointer i n) h = omega arith

-- the address behind the last element is that of the end, and no other is
last_at : (b x s last : ℕ) → x + s ≡ last → add32 (add32 b x) s ≡ add32 b last
last_at b x s last e = omega arith

apart_by : (b y m : ℕ) → 1 ≤ m → m < 2 ^ 32 → add32 b y ≡ add32 b (y + m) → ⊥
apart_by b y m some lt e = omega arith

not_last : (b x s c last : ℕ) → x + suc (suc c) * s ≡ last → 1 ≤ s → last < 2 ^ 32 → add32 (add32 b x) s ≡ add32 b last → ⊥
not_last b x s c last e some lt h =
    let sum : last ≡ x + s + (s + c * s) = omega arith in
    let one : add32 (add32 b x) s ≡ add32 b (x + s) = omega arith in
    apart_by b (x + s) (s + c * s) (omega arith) (omega arith) (sym one ∙ h ∙ ap (add32 b) sum)

-- zeros are put element by element
put_first : (t : CType) (z c : ℕ) (o : Option State) (κ : State → Runs) → written o 0 (λ v st. written (put_zeros t z c (Some st)) 0 (λ v. κ)) ≡ written (put_zeros t z c o) 0 (λ v. κ)
put_first t z zero None κ = refl
put_first t z (suc c) None κ = refl
put_first t z c (Some st) κ = refl

-- so many zeros more are spare
abbrev extra : Depth → ℕ → Depth
extra k c = with_spare k (k.spare + c)

module _ (program : TreeProgram) (code : List TreeItem) (callers : List Activation) (size count first : ℕ) (scope : ℕ → Type 0) (level : Depth) (within : (x : ℕ) → scope x → x < size)
    (own : size ≤ first) where
  abbrev fine : State → Desk → Type 0
  fine st d = Agrees program code callers size count first scope level st d

  abbrev from : List Item → Desk → Runs
  from is d = here program code callers size count first scope level is d

  -- a value is stored at an offset
  pub stored_does : (t : CType) (o : ℕ) (w : Tree) (k : Depth) (is : List Item) (κ : State → Runs) (st : State) (d : Desk) → size < first → o < 2 ^ 32 → SmallTree w → fine st d
      → ((st' : State) (d' : Desk) → fine st' d' → Leads k (κ st') (from is d'))
      → Leads k (on (value program w d) (λ v. block_set t o v κ st)) (from (AssignMem (integer_of t) (in_block size o) w ∷ is) d)
  stored_does t o w k is κ st d blocked lt small ag h =
      let block = ag.pointer blocked in
      let b : ℕ = block.0 in
      let at_value = held_value program size o b d block.2 (ag.ranged.local size b block.2) in
      let run : Runs = from (AssignMem (integer_of t) (in_block size o) w ∷ is) d in
      let whole = assign_mem_step program code callers k (integer_of t) (in_block size o) w is (λ x v. block_set t o v κ st) d (held_small program size o lt) small ag.ranged
      (λ x v ex ev.
      let found : Number (add32 b o) ≡ Number x = sym at_value ∙ ex in
      let same : add32 b o ≡ x = cc in
      let target : Runs = written_at program code callers is d (stored (integer_access (integer_of t)) d.area x (narrowed program code callers (integer_of t) v)) in
      let memory = put_memory_step program code callers size count first scope level within own t x v v k is (λ y. κ) st d (stored_narrowed program code callers (integer_of t) d.area x v) ag
      (λ area ag'. h (with_area st area) (record d { area = area }) ag') in
      subst (λ r. Leads k r target) (block_put b o st block.1 t v v (λ y. κ)) (subst (λ a. Leads k (written (put t (Memory a) v st) v (λ y. κ)) target) (sym same) memory)) in
      subst (λ z. Leads k (on z (λ x. on (value program w d) (λ v. block_set t o v κ st))) run) at_value whole

  -- a turn of the loop that stores zeros
  abbrev turn : CType → ℕ → ℕ → List Item → List Item
  turn t l last is = AssignMem (integer_of t) (Loc first) (Num 0) ∷ AssignLoc first (Bin ariths.Add (Loc first) (Num (size_of t))) ∷ Cbr relations.Ne l (Loc first) (in_block size last) ∷ is

  -- what the turns behind this one do, if there are some
  abbrev Again : CType → ℕ → ℕ → ℕ → List Item → (State → Runs) → Depth → ℕ → ℕ → Type 0
  Again t l last b is κ k x zero = Unit {0}
  Again t l last b is κ k x (suc c) = (st : State) (d : Desk) → fine st d → st.call.block ≡ Some b → d.locals size ≡ Some b → d.locals first ≡ Some (add32 b x)
      → Leads (extra k c) (written (put_zeros t x (suc c) (Some st)) 0 (λ v. κ)) (from (turn t l last is) d)

  zeros_test : (t : CType) (l last b : ℕ) (is : List Item) (κ : State → Runs) (k : Depth) → size < first → b < 2 ^ 32 → HasSize t → last < 2 ^ 32 → behind code l ≡ spelled_all (turn t l last is)
      → ((st' : State) (d' : Desk) → fine st' d' → Leads k (κ st') (from is d')) → (c x : ℕ) → x + suc c * size_of t ≡ last → Again t l last b is κ k (x + size_of t) c → (st : State) (d : Desk)
      → fine st d
      → st.call.block ≡ Some b → d.locals size ≡ Some b → d.locals first ≡ Some (add32 (add32 b x) (size_of t))
      → Leads (extra k c) (written (put_zeros t (x + size_of t) c (Some st)) 0 (λ v. κ)) (from (Cbr relations.Ne l (Loc first) (in_block size last) ∷ is) d)
  zeros_test t l last b is κ k blocked bl sized lt top h zero x left again st d ag is_b at_b at_x =
      let end_value = held_value program size last b d at_b bl in
      let run : Runs = from (Cbr relations.Ne l (Loc first) (in_block size last) ∷ is) d in
      let here_is : add32 (add32 b x) (size_of t) ≡ add32 b last = last_at b x (size_of t) last (omega arith) in
      let whole = cbr_step program code callers (extra k 0) l relations.Ne (Loc first) (in_block size last) is (λ y z. κ st) d tt (held_small program size last lt) ag.ranged
      (λ y z ey ez taken.
      let one : Number (add32 (add32 b x) (size_of t)) ≡ Number y = sym (ap there at_x) ∙ ey in
      let two : Number (add32 b last) ≡ Number z = sym end_value ∙ ez in
      let same : y ≡ z = cc in
      absurd (eqb-false y z (not-true (y == z) taken) same))
      (λ y z ey ez falls. leads_quiet (extra k 0) _ _ (leads_more (extra k 0) k.spare _ _ (omega arith) (h st d ag))) in
      subst (λ o. Leads (extra k 0) (on o (λ z. κ st)) run) end_value (subst (λ o. Leads (extra k 0) (on o (λ y. on (value program (in_block size last) d) (λ z. κ st))) run) (ap there at_x) whole)
  zeros_test t l last b is κ k blocked bl sized lt top h (suc c) x left again st d ag is_b at_b at_x =
      let end_value = held_value program size last b d at_b bl in
      let run : Runs = from (Cbr relations.Ne l (Loc first) (in_block size last) ∷ is) d in
      let goal : Runs = written (put_zeros t (x + size_of t) (suc c) (Some st)) 0 (λ v. κ) in
      let next_at : add32 (add32 b x) (size_of t) ≡ add32 b (x + size_of t) = omega arith in
      let whole = cbr_step program code callers (extra k (suc c)) l relations.Ne (Loc first) (in_block size last) is (λ y z. goal) d tt (held_small program size last lt) ag.ranged
      (λ y z ey ez taken. leads_back (extra k (suc c)) (k.spare + c) goal _ _ (omega arith)
      (moves program code callers (extra k c) (behind code l) (spelled_all (turn t l last is)) d goal top (again st d ag is_b at_b (at_x ∙ ap Some next_at))))
      (λ y z ey ez falls.
      let one : Number (add32 (add32 b x) (size_of t)) ≡ Number y = sym (ap there at_x) ∙ ey in
      let two : Number (add32 b last) ≡ Number z = sym end_value ∙ ez in
      let same : y ≡ z = eqb-true y z (not-false (y == z) falls) in
      let met : add32 (add32 b x) (size_of t) ≡ add32 b last = cc in
      absurd (not_last b x (size_of t) c last left (size_some t sized) lt met)) in
      subst (λ o. Leads (extra k (suc c)) (on o (λ z. goal)) run) end_value
      (subst (λ o. Leads (extra k (suc c)) (on o (λ y. on (value program (in_block size last) d) (λ z. goal))) run) (ap there at_x) whole)

  zeros_next : (t : CType) (l last b : ℕ) (is : List Item) (κ : State → Runs) (k : Depth) → size < first → b < 2 ^ 32 → HasSize t → last < 2 ^ 32 → behind code l ≡ spelled_all (turn t l last is)
      → ((st' : State) (d' : Desk) → fine st' d' → Leads k (κ st') (from is d')) → (c x : ℕ) → x + suc c * size_of t ≡ last → Again t l last b is κ k (x + size_of t) c → (st : State) (d : Desk)
      → fine st d
      → st.call.block ≡ Some b → d.locals size ≡ Some b → d.locals first ≡ Some (add32 b x) → Leads (extra k c) (written (put_zeros t (x + size_of t) c (Some st)) 0 (λ v. κ))
      (from (AssignLoc first (Bin ariths.Add (Loc first) (Num (size_of t))) ∷ Cbr relations.Ne l (Loc first) (in_block size last) ∷ is) d)
  zeros_next t l last b is κ k blocked bl sized lt top h c x left again st d ag is_b at_b at_x =
      let s : ℕ = size_of t in
      let w : Tree = Bin ariths.Add (Loc first) (Num s) in
      let js : List Item = Cbr relations.Ne l (Loc first) (in_block size last) ∷ is in
      let goal : Runs = written (put_zeros t (x + s) c (Some st)) 0 (λ v. κ) in
      let sum : value program w d ≡ Number (add32 (add32 b x) s) = ap (λ m. bind (there m) (λ y. or_zero (apply ariths.Add y s))) at_x ∙ sum_of program size (add32 b x) s in
      let whole = save_temp program code callers size count first scope level within own (extra k c) first w js (λ v. goal) st d (omega arith) (tt, size_small t) ag
      (λ v small e ag'.
      let found : Number (add32 (add32 b x) s) ≡ Number v = sym sum ∙ e in
      let same : v ≡ add32 (add32 b x) s = cc in
      zeros_test t l last b is κ k blocked bl sized lt top h c x left again st (record d { locals = with_local d.locals first v }) ag' is_b
      (set_other d.locals first v size (λ q. omega arith) ∙ at_b) (set_same d.locals first v ∙ ap Some same)) in
      subst (λ o. Leads (extra k c) (on o (λ v. goal)) (from (AssignLoc first w ∷ js) d)) sum whole

  -- zeros are put one after another, and the address goes on
  zeros_first : (t : CType) (l last b : ℕ) (is : List Item) (κ : State → Runs) (k : Depth) → size < first → b < 2 ^ 32 → HasSize t → last < 2 ^ 32 → behind code l ≡ spelled_all (turn t l last is)
      → ((st' : State) (d' : Desk) → fine st' d' → Leads k (κ st') (from is d')) → (c x : ℕ) → x + suc c * size_of t ≡ last → Again t l last b is κ k (x + size_of t) c → (st : State) (d : Desk)
      → fine st d
      → st.call.block ≡ Some b → d.locals size ≡ Some b → d.locals first ≡ Some (add32 b x) → Leads (extra k c) (written (put_zeros t x (suc c) (Some st)) 0 (λ v. κ)) (from (turn t l last is) d)
  zeros_first t l last b is κ k blocked bl sized lt top h c x left again st d ag is_b at_b at_x =
      let s : ℕ = size_of t in
      let js : List Item = AssignLoc first (Bin ariths.Add (Loc first) (Num s)) ∷ Cbr relations.Ne l (Loc first) (in_block size last) ∷ is in
      let run : Runs = from (turn t l last is) d in
      let goal : Runs = written (put_zeros t x (suc c) (Some st)) 0 (λ v. κ) in
      let whole = assign_mem_step program code callers (extra k c) (integer_of t) (Loc first) (Num 0) js (λ y v. goal) d tt (omega arith) ag.ranged
      (λ y v ey ev.
      let found : Number (add32 b x) ≡ Number y = sym (ap there at_x) ∙ ey in
      let same : add32 b x ≡ y = cc in
      let none : 0 ≡ v = cc in
      let target : Runs = written_at program code callers js d (stored (integer_access (integer_of t)) d.area y (narrowed program code callers (integer_of t) v)) in
      let memory = put_memory_step program code callers size count first scope level within own t y 0 v (extra k c) js (λ v st'. written (put_zeros t (x + s) c (Some st')) 0 (λ v. κ)) st d
      (stored_narrowed program code callers (integer_of t) d.area y v ∙ ap (stored (integer_access (integer_of t)) d.area y) (sym none)) ag
      (λ area ag'. zeros_next t l last b is κ k blocked bl sized lt top h c x left again (with_area st area) (record d { area = area }) ag' is_b at_b at_x) in
      subst (λ r. Leads (extra k c) r target) (put_first t (x + s) c (put t (Memory y) 0 st) κ
      ∙ ap (λ o. written (put_zeros t (x + s) c o) 0 (λ v. κ)) (ap (λ z. put t (Memory z) 0 st) (sym same) ∙ block_put_is b x st is_b t 0)) memory) in
      subst (λ z. Leads (extra k c) (on z (λ y. on (value program (Num 0) d) (λ v. goal))) run) (ap there at_x) whole

  zeros_turn : (t : CType) (l last b : ℕ) (is : List Item) (κ : State → Runs) (k : Depth) → size < first → b < 2 ^ 32 → HasSize t → last < 2 ^ 32 → behind code l ≡ spelled_all (turn t l last is)
      → ((st' : State) (d' : Desk) → fine st' d' → Leads k (κ st') (from is d')) → (c x : ℕ) → x + suc c * size_of t ≡ last → (st : State) (d : Desk) → fine st d → st.call.block ≡ Some b
      → d.locals size ≡ Some b → d.locals first ≡ Some (add32 b x) → Leads (extra k c) (written (put_zeros t x (suc c) (Some st)) 0 (λ v. κ)) (from (turn t l last is) d)
  zeros_turn t l last b is κ k blocked bl sized lt top h zero x left st d ag is_b at_b at_x = zeros_first t l last b is κ k blocked bl sized lt top h zero x left tt st d ag is_b at_b at_x
  zeros_turn t l last b is κ k blocked bl sized lt top h (suc c) x left st d ag is_b at_b at_x =
      zeros_first t l last b is κ k blocked bl sized lt top h (suc c) x left
      (λ st' d' ag' is_b' at_b' at_x'. zeros_turn t l last b is κ k blocked bl sized lt top h c (x + size_of t) (omega arith) st' d' ag' is_b' at_b' at_x') st d ag is_b at_b at_x

  pub zeros_does : (t : CType) (o n l : ℕ) (k : Depth) (s : ℕ) → s + n ≤ k.spare → (is : List Item) (κ : State → Runs) (st : State) (d : Desk) → size < first → HasSize t → 1 ≤ n
      → o + n * size_of t < 2 ^ 32
      → Resolves code ((zeros_in_block size first t o n l).items ++ is) → fine st d → ((st' : State) (d' : Desk) → fine st' d' → Leads (with_spare k s) (κ st') (from is d'))
      → Leads k (zeros_set t o n κ st) (from ((zeros_in_block size first t o n l).items ++ is) d)
  zeros_does t o zero l k s room is κ st d blocked sized some lt res ag h = absurd (omega arith)
  zeros_does t o (suc c) l k s room is κ st d blocked sized some lt res ag h =
      let low : Depth = with_spare k (s + c) in
      let block = ag.pointer blocked in
      let b : ℕ = block.0 in
      let bl = ag.ranged.local size b block.2 in
      let last : ℕ = o + suc c * size_of t in
      let goal : Runs = zeros_set t o (suc c) κ st in
      let first_value = held_value program size o b d block.2 bl in
      let whole = save_temp program code callers size count first scope level within own low first (in_block size o) (Label l ∷ turn t l last is) (λ v. goal) st d (omega arith)
      (held_small program size o (omega arith)) ag
      (λ v small e ag'.
      let found : Number (add32 b o) ≡ Number v = sym first_value ∙ e in
      let same : v ≡ add32 b o = cc in
      let d' : Desk = record d { locals = with_local d.locals first v } in
      label_step program code callers low l (turn t l last is) d' goal
      (zeros_turn t l last b is κ (with_spare k s) blocked bl sized lt res.1.0 h c o refl st d' ag' block.1 (set_other d.locals first v size (λ q. omega arith) ∙ block.2) (set_same d.locals first v
      ∙ ap Some same))) in
      leads_more k (s + c) _ _ (omega arith) (subst (λ z. Leads low (on z (λ v. goal)) (from (AssignLoc first (in_block size o) ∷ Label l ∷ turn t l last is) d)) first_value whole)
