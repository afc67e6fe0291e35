-- Where a confined run doesn't break, the machine's is the same.
use Rattle.std.proofs.Common.{◌≡◌, ◌⊎◌, inl, inr, ℕ, Bool, true, false, cond, List, [], ◌∷◌, Option, Some, None, Result, Ok, Err, refl, sym, ap, subst, ◌∙◌}
use Rattle.gg_base.specs.declared.size.Size.{Size}
use Rattle.vax_machine_lists.specs.vax_core.specs.declared.code.Instr.{Instr}
use Rattle.vax_machine_lists.specs.vax_core.specs.declared.op.Access.{Access}
use Rattle.vax_machine_lists.specs.vax_core.specs.declared.op.Access.TheVariants as accesses
use Rattle.vax_machine_lists.specs.vax_core.specs.declared.op.OperandKind.{OperandKind}
use Rattle.vax_machine_lists.specs.vax_core.specs.declared.operand.Operand.{Operand}
use Rattle.vax_machine_lists.specs.vax_core.specs.Ops.{shape}
use Rattle.vax_machine_lists.specs.vax_machine.specs.declared.turn.Stop.{Stop}
use Rattle.vax_machine_lists.specs.vax_machine.specs.declared.turn.Stop.TheVariants as stops
use Rattle.vax_machine_lists.specs.vax_machine.specs.declared.operands.Location.{Location}
use Rattle.vax_machine_lists.specs.vax_machine.specs.declared.operands.Location.TheVariants as locations
use Rattle.vax_machine_lists.specs.vax_machine.specs.declared.operands.Destination.{Destination}
use Rattle.vax_machine_lists.specs.vax_machine.specs.declared.operands.Evaluated.{Evaluated}
use Rattle.vax_machine_lists.specs.vax_machine.specs.declared.operands.Arguments.{Arguments}
use Rattle.vax_machine_lists.specs.vax_machine.specs.declared.function.Action.{Action}
use Rattle.vax_machine_lists.specs.vax_machine.specs.declared.function.Action.TheVariants.{Compute, Push, Branch, Call, Return}
use Rattle.vax_machine_lists.specs.vax_machine.specs.declared.function.Computed.{Computed}
use Rattle.vax_machine_lists.specs.vax_machine.specs.State.{State, access, with_conditions, ◌>>=◌}
use Rattle.vax_machine_lists.specs.vax_machine.specs.Operands.{located, indexed, taken, with_destination, in_front, last_of, no_arguments, stored}
use Rattle.vax_machine_lists.specs.vax_machine.specs.Operands as machine
use Rattle.vax_machine_lists.specs.vax_machine.specs.Functions.{action_of, applied}
use Rattle.vax_machine_lists.specs.vax_machine.specs.Step.{finished}
use Rattle.vax_machine_lists.specs.Instructions.{Course, Ending, Comes, Goes, Calls, Returns, Stops, bytes_first, followed, course_of, alone, evaluated_then}
use Rattle.vax_machine_lists.specs.Instructions as lists
use Rattle.vax_confined.specs.Confined.{may_find, may_touch, is_own_place, got, evaluated, all_evaluated, performed, exec}
use Rattle.vax_confined.specs.Laws.{SameUnless, IsCourseOf, ConfinedRunsAreRuns}

-- the same error, unless it is a break
abbrev SameError : (X : Type 0) → Stop → Result X Stop → Type 0
SameError X (stops.Broken kind) other = Unit {0}
SameError X e other = other ≡ Err e

same_error : (X : Type 0) (e : Stop) → SameError X e (Err e)
same_error X (stops.Ended v) = refl
same_error X stops.Trapped = refl
same_error X (stops.Broken kind) = tt

error_behind : (X Y : Type 0) (f : X → Result Y Stop) (e : Stop) (other : Result X Stop) → SameError X e other → SameError Y e (other >>= f)
error_behind X Y f (stops.Ended v) other h = ap (λ (t : Result X Stop). t >>= f) h
error_behind X Y f stops.Trapped other h = ap (λ (t : Result X Stop). t >>= f) h
error_behind X Y f (stops.Broken kind) other h = tt

-- ---- one operand

-- The same destination, or one to which nothing can be put.
abbrev IsAim : Option Destination → Option Destination → Type 0
IsAim None other = other ≡ None
IsAim (Some d) other = (other ≡ Some d) ⊎ ((n : ℕ) × (d.location ≡ locations.Number n))

record Gives (e : Evaluated) (n : State) (other : Result (Evaluated × State) Stop) : Type 0 where
  given : Evaluated
  is : other ≡ Ok (given, n)
  number : given.number ≡ e.number
  aim : IsAim e.destination given.destination

abbrev Evaluates : Result (Evaluated × State) Stop → Result (Evaluated × State) Stop → Type 0
Evaluates (Ok x) other = Gives x.0 x.1 other
Evaluates (Err e) other = SameError (Evaluated × State) e other

same_aim : (d : Option Destination) → IsAim d d
same_aim None = refl
same_aim (Some d) = inl refl

same : (t : Result (Evaluated × State) Stop) → Evaluates t t
same (Ok x) = record { given = x.0; is = refl; number = refl; aim = same_aim x.0.destination }
same (Err e) = same_error (Evaluated × State) e

got_as : (m : State) (a : Access) (b : Bool) (l : Location) (s : Size)
    → Evaluates (got m a b l s >>= λ (e : Evaluated). Ok (e, m)) (taken m a l s >>= λ (e : Evaluated). Ok (e, m))
unfolding taken
got_as m accesses.Write true l s = same (taken m accesses.Write l s >>= λ (e : Evaluated). Ok (e, m))
got_as m accesses.Write false l s = record { given = with_destination 0 l s; is = refl; number = refl; aim = inr (0, refl) }
got_as m accesses.Address b l s = same (taken m accesses.Address l s >>= λ (e : Evaluated). Ok (e, m))
got_as m accesses.Read true l s = same (taken m accesses.Read l s >>= λ (e : Evaluated). Ok (e, m))
got_as m accesses.Read false l s = tt
got_as m accesses.Modify true l s = same (taken m accesses.Modify l s >>= λ (e : Evaluated). Ok (e, m))
got_as m accesses.Modify false l s = tt
got_as m accesses.Count true l s = same (taken m accesses.Count l s >>= λ (e : Evaluated). Ok (e, m))
got_as m accesses.Count false l s = tt

abbrev Then : (State → Location → Result Evaluated Stop) → Location × State → Result (Evaluated × State) Stop
Then f x = f x.1 x.0 >>= λ (e : Evaluated). Ok (e, x.1)

found_by : (p : Bool) (t : Result (Location × State) Stop) (f g : State → Location → Result Evaluated Stop)
    → ((n : State) (l : Location) → Evaluates (Then f (l, n)) (Then g (l, n))) → Evaluates (cond p t (Err access) >>= Then f) (t >>= Then g)
found_by false t f g h = tt
found_by true (Err e) f g h = same_error (Evaluated × State) e
found_by true (Ok x) f g h = h x.1 x.0

evaluated_as : (m : State) (k : OperandKind) (o : Operand) → Evaluates (evaluated m k o) (machine.evaluated m k o)
unfolding evaluated machine.evaluated
evaluated_as m k o =
    found_by (may_find m o.base) (located m o.base k.size)
    (λ n l. got n k.access (may_touch n (is_own_place o) (indexed n l o.index k.size) k.size) (indexed n l o.index k.size) k.size)
    (λ n l. taken n k.access (indexed n l o.index k.size) k.size)
    (λ n l. got_as n k.access (may_touch n (is_own_place o) (indexed n l o.index k.size) k.size) (indexed n l o.index k.size) k.size)

-- ---- all operands

record GivesAll (x : Arguments) (n : State) (other : Result (Arguments × State) Stop) : Type 0 where
  given : Arguments
  is : other ≡ Ok (given, n)
  first : given.first ≡ x.first
  second : given.second ≡ x.second
  aim : IsAim x.destination given.destination

abbrev EvaluatesAll : Result (Arguments × State) Stop → Result (Arguments × State) Stop → Type 0
EvaluatesAll (Ok x) other = GivesAll x.0 x.1 other
EvaluatesAll (Err e) other = SameError (Arguments × State) e other

last_aim : (a b c d : Option Destination) → IsAim a b → IsAim c d → IsAim (last_of a c) (last_of b d)
last_aim a b None d h g = subst (λ (x : Option Destination). IsAim a (last_of b x)) (sym g) h
last_aim a b (Some c) (Some d) h g = g
last_aim a b (Some c) None h (inl e) = absurd cc
last_aim a b (Some c) None h (inr z) = inr z

abbrev Front : Evaluated → Arguments × State → Result (Arguments × State) Stop
Front e y = Ok (in_front e y.0, y.1)

front_by : (e given : Evaluated) → given.number ≡ e.number → IsAim e.destination given.destination → (t u : Result (Arguments × State) Stop) → EvaluatesAll t u
    → EvaluatesAll (t >>= Front e) (u >>= Front given)
front_by e given number aim (Ok y) u g = record {
  given = in_front given g.given;
  is = ap (λ (t : Result (Arguments × State) Stop). t >>= Front given) g.is;
  first = number;
  second = g.first;
  aim = last_aim e.destination given.destination y.0.destination g.given.destination aim g.aim;
}
front_by e given number aim (Err z) u g = error_behind (Arguments × State) (Arguments × State) (Front given) z u g

abbrev Rest : (State → Result (Arguments × State) Stop) → Evaluated × State → Result (Arguments × State) Stop
Rest f x = f x.1 >>= Front x.0

rest_by : (f g : State → Result (Arguments × State) Stop) → ((n : State) → EvaluatesAll (f n) (g n)) → (t u : Result (Evaluated × State) Stop) → Evaluates t u
    → EvaluatesAll (t >>= Rest f) (u >>= Rest g)
rest_by f g h (Ok x) u e =
    subst (λ (w : Result (Evaluated × State) Stop). EvaluatesAll (Rest f x) (w >>= Rest g)) (sym e.is) (front_by x.0 e.given e.number e.aim (f x.1) (g x.1) (h x.1))
rest_by f g h (Err z) u e = error_behind (Evaluated × State) (Arguments × State) (Rest g) z u e

all_as : (ks : List OperandKind) (os : List Operand) (m : State) → EvaluatesAll (all_evaluated ks os m) (machine.all_evaluated ks os m)
all_as [] os m = record { given = no_arguments; is = refl; first = refl; second = refl; aim = refl }
all_as (k ∷ ks) [] m = tt
all_as (k ∷ ks) (o ∷ os) m =
    rest_by (all_evaluated ks os) (machine.all_evaluated ks os) (λ n. all_as ks os n) (evaluated m k o) (machine.evaluated m k o) (evaluated_as m k o)

-- ---- what is done with them

same_course : (c : Course) → IsCourseOf c c
same_course c = by c.ending
  where
    by : (e : Ending) → SameUnless e c c
    by (Comes n) = refl
    by (Goes label n) = refl
    by (Calls name count n rest) = refl
    by (Returns n) = refl
    by (Stops (stops.Ended v)) = refl
    by (Stops stops.Trapped) = refl
    by (Stops (stops.Broken kind)) = tt

course_by : (c other : Course) → other ≡ c → IsCourseOf c other
course_by c other e = subst (λ (x : Course). IsCourseOf c x) (sym e) (same_course c)

-- to a number nothing can be put
nothing_put : (m : State) (d : Destination) (c : Option Destination) (x : Computed) (n : ℕ) (l : Location) → l ≡ locations.Number n
    → IsCourseOf (course_of (stored m (Some (record d { location = l })) x.value >>= λ (k : State). Ok (None, with_conditions k x.conditions)))
    (course_of (finished m c (Some x)))
unfolding stored
nothing_put m d c x n (locations.Number k) e = tt
nothing_put m d c x n (locations.Register r) e = absurd cc
nothing_put m d c x n (locations.Memory a) e = absurd cc

finished_as : (m : State) (d c : Option Destination) (x : Option Computed) → IsAim d c → IsCourseOf (course_of (finished m d x)) (course_of (finished m c x))
finished_as m d c None h = refl
finished_as m None c (Some x) h = course_by _ _ (ap (λ (z : Option Destination). course_of (finished m z (Some x))) h)
finished_as m (Some d) c (Some x) (inl e) = course_by _ _ (ap (λ (z : Option Destination). course_of (finished m z (Some x))) e)
finished_as m (Some d) c (Some x) (inr z) = nothing_put m d c x z.0 d.location z.1

alone_as : (a : Action) (x y : Arguments) (target : Option (List ℕ)) (m : State) → y.first ≡ x.first → y.second ≡ x.second → IsAim x.destination y.destination
    → IsCourseOf (alone a x target m) (alone a y target m)
alone_as (Compute f) x y target m first second aim =
    let e : applied f y.first y.second m.conditions.carry ≡ applied f x.first x.second m.conditions.carry =
    ap (λ (p : ℕ). applied f p y.second m.conditions.carry) first ∙ ap (λ (q : ℕ). applied f x.first q m.conditions.carry) second in
    subst (λ (z : Option Computed). IsCourseOf (alone (Compute f) x target m) (course_of (finished m y.destination z))) (sym e)
    (finished_as m x.destination y.destination (applied f x.first x.second m.conditions.carry) aim)
alone_as Push x y target m first second aim = course_by _ _ (ap (λ (p : ℕ). alone Push (record y { first = p }) target m) first)
alone_as (Branch t) x y target m first second aim = same_course (alone (Branch t) x target m)
alone_as Call x y target m first second aim = course_by _ _ (ap (λ (p : ℕ). alone Call (record y { first = p }) target m) first)
alone_as Return x y target m first second aim = refl

then_as : (i : Instr) (t u : Result (Arguments × State) Stop) → EvaluatesAll t u → IsCourseOf (evaluated_then i t) (evaluated_then i u)
then_as i (Ok x) u g =
    subst (λ (w : Result (Arguments × State) Stop). IsCourseOf (evaluated_then i (Ok x)) (evaluated_then i w)) (sym g.is)
    (alone_as (action_of i.op) x.0 g.given i.target x.1 g.first g.second g.aim)
then_as i (Err (stops.Ended v)) u g = ap (evaluated_then i) g
then_as i (Err stops.Trapped) u g = ap (evaluated_then i) g
then_as i (Err (stops.Broken kind)) u g = tt

performed_as : (i : Instr) (m : State) → IsCourseOf (performed i m) (lists.performed i m)
unfolding performed lists.performed
performed_as i m = then_as i (all_evaluated (shape i.op).operands i.operands m) (machine.all_evaluated (shape i.op).operands i.operands m)
    (all_as (shape i.op).operands i.operands m)

-- ---- one after another

bytes_as : (w : List ℕ) (e : Ending) (c other : Course) → SameUnless e c other → SameUnless e (bytes_first w c) (bytes_first w other)
bytes_as w (Comes n) c other h = ap (bytes_first w) h
bytes_as w (Goes label n) c other h = ap (bytes_first w) h
bytes_as w (Calls name count n rest) c other h = ap (bytes_first w) h
bytes_as w (Returns n) c other h = ap (bytes_first w) h
bytes_as w (Stops (stops.Ended v)) c other h = ap (bytes_first w) h
bytes_as w (Stops stops.Trapped) c other h = ap (bytes_first w) h
bytes_as w (Stops (stops.Broken kind)) c other h = tt

module _ (is : List Instr) (rest : (n : State) → IsCourseOf (exec is n) (lists.exec is n)) where
  followed_as : (w : List ℕ) (e : Ending) (other : Course) → SameUnless e (record { written = w; ending = e }) other
      → IsCourseOf (followed (record { written = w; ending = e }) is (exec is)) (followed other is (lists.exec is))
  followed_as w (Comes n) other h =
      subst (λ (c : Course). IsCourseOf (bytes_first w (exec is n)) (followed c is (lists.exec is))) (sym h)
      (bytes_as w (exec is n).ending (exec is n) (lists.exec is n) (rest n))
  followed_as w (Goes label n) other h = ap (λ (c : Course). followed c is (lists.exec is)) h
  followed_as w (Calls name count n more) other h = ap (λ (c : Course). followed c is (lists.exec is)) h
  followed_as w (Returns n) other h = ap (λ (c : Course). followed c is (lists.exec is)) h
  followed_as w (Stops (stops.Ended v)) other h = ap (λ (c : Course). followed c is (lists.exec is)) h
  followed_as w (Stops stops.Trapped) other h = ap (λ (c : Course). followed c is (lists.exec is)) h
  followed_as w (Stops (stops.Broken kind)) other h = tt

pub confined_runs_are_runs : ConfinedRunsAreRuns
confined_runs_are_runs [] m = refl
confined_runs_are_runs (i ∷ is) m =
    followed_as is (λ n. confined_runs_are_runs is n) (performed i m).written (performed i m).ending (lists.performed i m) (performed_as i m)
