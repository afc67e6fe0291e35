-- The tree of an instruction that computes says what the machine does.
use Rattle.std.proofs.Common.{◌≡◌, ℕ, ◌≤◌, Bool, true, false, cond, List, [], ◌∷◌, ◌++◌, map, length, Option, Some, None, Result, Ok, Err, refl, sym, ap, ◌∙◌, arith, append-nil, append_assoc}
use Rattle.std.proofs.Math.ListN.{get_or-append}
use Rattle.std.proofs.lemmas.List.{length-append}
use Rattle.std.specs.Prelude.{◌==◌, nat_lt}
use Rattle.vax_pairs.specs.gg_base.specs.declared.size.Size.{Size}
use Rattle.vax_pairs.specs.gg_base.specs.declared.relation.Rel.TheVariants as relations
use Rattle.vax_pairs.specs.gg_base.specs.Relations.{holds}
use Rattle.vax_pairs.specs.term_core.specs.Shape.{Shape, Constant, Symbol, LastResult, Memory, Unary, Binary}
use Rattle.vax_pairs.specs.term_core.specs.Operators.{unary, binary}
use Rattle.vax_pairs.specs.vax_core.specs.declared.code.CodeItem.{CodeItem}
use Rattle.vax_pairs.specs.vax_machine.specs.declared.turn.Stop.{Stop}
use Rattle.vax_pairs.specs.vax_machine.specs.declared.turn.Stop.TheVariants.{Trapped}
use Rattle.vax_pairs.specs.vax_machine.specs.declared.function.Conditions.{Conditions}
use Rattle.vax_pairs.specs.vax_machine.specs.State.{State, stack_full, ◌>>=◌}
use Rattle.vax_pairs.specs.vax_machine.specs.Memory.{read, written}
use Rattle.vax_pairs.specs.vax_machine.specs.Functions.{extended, is_negative_at, applied}
use Rattle.vax_pairs.specs.vax_machine.specs.Calls.{Acts}
use Rattle.vax_pairs.specs.vax_machine.specs.Step.{next_of, act}
use Rattle.vax_pairs.specs.Ways.{Way}
use Rattle.vax_pairs.specs.Events.{worth, Reads, Stores, Lowers, Divides, Gets, Puts, next_byte, bytes_behind}
use Rattle.vax_pairs.specs.TermStates.{Signs, SignsBefore, Tests, Compares, Carry, CarryBefore, Off, Below, Made, carry_in, signed, carried, TermState, coded, valued_registers, dressed}
use Rattle.vax_pairs.specs.Trees.{Tree, Halts, Behind, DoesTree}
use Rattle.vax_pairs.specs.Scopes.{Under, AllUnder, SignsUnder, CarryUnder, Scoped}
use Rattle.vax_pairs.specs.TermOperands.{before}
use Rattle.vax_pairs_law.proofs.Beginning.{going_is}

-- further symbols
pub Extends : List ℕ → List ℕ → Type 0
Extends env more = (vs : List ℕ) × (more ≡ env ++ vs)

pub extends_same : (env : List ℕ) → Extends env env
unfolding Extends
extends_same env = ([], sym (append-nil env))

pub extends_one : (env : List ℕ) (v : ℕ) → Extends env (env ++ v ∷ [])
unfolding Extends
extends_one env v = (v ∷ [], refl)

pub extends_on : (a b c : List ℕ) → Extends a b → Extends b c → Extends a c
unfolding Extends
extends_on a b c (vs, e) (ws, f) = (vs ++ ws, f ∙ ap (λ (x : List ℕ). x ++ ws) e ∙ append_assoc a vs ws)

pub extends_long : (a b : List ℕ) → Extends a b → length a ≤ length b
unfolding Extends
extends_long a b (vs, e) = (let h = ap length e ∙ length-append a vs in omega (arith, h))

worth_on : (env vs : List ℕ) (t : Shape) → Under (length env) t → worth (env ++ vs) t ≡ worth env t
worth_on env vs (Constant k) h = refl
worth_on env vs (Symbol i) h = get_or-append env vs 0 i h
worth_on env vs LastResult h = refl
worth_on env vs (Memory size a) h = refl
worth_on env vs (Unary op t) h = ap (unary op) (worth_on env vs t h)
worth_on env vs (Binary op a b) h = ap (λ (x : ℕ). binary op x (worth (env ++ vs) b)) (worth_on env vs a h.0) ∙ ap (λ (x : ℕ). binary op (worth env a) x) (worth_on env vs b h.1)

pub worth_more : (env more : List ℕ) (t : Shape) → Extends env more → Under (length env) t → worth more t ≡ worth env t
unfolding Extends
worth_more env more t (vs, e) h = ap (λ (x : List ℕ). worth x t) e ∙ worth_on env vs t h

pub under_more : (n k : ℕ) (t : Shape) → n ≤ k → Under n t → Under k t
under_more n k (Constant x) le h = tt
under_more n k (Symbol i) le h = omega (arith, le, h)
under_more n k LastResult le h = tt
under_more n k (Memory size a) le h = tt
under_more n k (Unary op t) le h = under_more n k t le h
under_more n k (Binary op a b) le h = (under_more n k a le h.0, under_more n k b le h.1)

all_more : (n k : ℕ) (ts : List Shape) → n ≤ k → AllUnder n ts → AllUnder k ts
all_more n k [] le h = tt
all_more n k (t ∷ ts) le h = (under_more n k t le h.0, all_more n k ts le h.1)

signs_more : (n k : ℕ) (s : Signs) → n ≤ k → SignsUnder n s → SignsUnder k s
signs_more n k SignsBefore le h = tt
signs_more n k (Tests size t) le h = under_more n k t le h
signs_more n k (Compares size a b) le h = (under_more n k a le h.0, under_more n k b le h.1)

carry_more : (n k : ℕ) (s : Carry) → n ≤ k → CarryUnder n s → CarryUnder k s
carry_more n k CarryBefore le h = tt
carry_more n k Off le h = tt
carry_more n k (Below a b) le h = (under_more n k a le h.0, under_more n k b le h.1)
carry_more n k (Made f a b) le h = (under_more n k a le h.0, under_more n k b le h.1)

pub scoped_more : (env more : List ℕ) (s : TermState) → Extends env more → Scoped (length env) s → Scoped (length more) s
scoped_more env more s x h =
    let le = extends_long env more x in
    record { registers = all_more _ _ s.registers le h.registers; signs = signs_more _ _ s.signs le h.signs; carry = carry_more _ _ s.carry le h.carry }

-- ---- a state stays what it is with further symbols

map_more : (env more : List ℕ) (ts : List Shape) → Extends env more → AllUnder (length env) ts → map (worth more) ts ≡ map (worth env) ts
map_more env more [] x h = refl
map_more env more (t ∷ ts) x h =
    ap (λ (v : ℕ). v ∷ map (worth more) ts) (worth_more env more t x h.0) ∙ ap (λ (vs : List ℕ). worth env t ∷ vs) (map_more env more ts x h.1)

abbrev tested : Conditions → Size → ℕ → Conditions
tested k size v = record k { negative = is_negative_at size v; is_zero = v == 0 }

abbrev compared : Conditions → Size → ℕ → ℕ → Conditions
compared k size v w = record k { negative = holds relations.Lt (extended size v) (extended size w); is_zero = v == w }

signed_more : (env more : List ℕ) (k : Conditions) (s : Signs) → Extends env more → SignsUnder (length env) s → signed more k s ≡ signed env k s
signed_more env more k SignsBefore x h = refl
signed_more env more k (Tests size t) x h = ap (λ (v : ℕ). tested k size v) (worth_more env more t x h)
signed_more env more k (Compares size a b) x h =
    ap (λ (v : ℕ). compared k size v (worth more b)) (worth_more env more a x h.0) ∙ ap (λ (v : ℕ). compared k size (worth env a) v) (worth_more env more b x h.1)

carried_more : (env more : List ℕ) (k : Conditions) (s : Carry) → Extends env more → CarryUnder (length env) s → carried more k s ≡ carried env k s
carried_more env more k CarryBefore x h = refl
carried_more env more k Off x h = refl
carried_more env more k (Below a b) x h =
    ap (λ (v : ℕ). record k { carry = nat_lt v (worth more b) }) (worth_more env more a x h.0) ∙ ap (λ (v : ℕ). record k { carry = nat_lt (worth env a) v }) (worth_more env more b x h.1)
carried_more env more k (Made f a b) x h =
    ap (λ (v : ℕ). record k { carry = carry_in (applied f v (worth more b) false) }) (worth_more env more a x h.0)
    ∙ ap (λ (v : ℕ). record k { carry = carry_in (applied f (worth env a) v false) }) (worth_more env more b x h.1)

coded_more : (env more : List ℕ) (k : Conditions) (s : TermState) → Extends env more → Scoped (length env) s → coded more k s ≡ coded env k s
coded_more env more k s x h = carried_more env more (signed more k s.signs) s.carry x h.carry ∙ ap (λ (c : Conditions). carried env c s.carry) (signed_more env more k s.signs x h.signs)

pub dressed_more : (env more : List ℕ) (m : State) (p : ℕ) (s : TermState) → Extends env more → Scoped (length env) s → dressed more m p s ≡ dressed env m p s
dressed_more env more m p s x h =
    ap (λ (rs : List ℕ). record m { registers = rs; conditions = coded more m.conditions s; place = p }) (map_more env more s.registers x h.registers)
    ∙ ap (λ (c : Conditions). record m { registers = valued_registers env s; conditions = c; place = p }) (coded_more env more m.conditions s x h)

abbrev known : List ℕ → State → ℕ → Result (List ℕ × State) Stop
known env m v = Ok (env ++ v ∷ [], m)

abbrev kept : List ℕ → State → Result (List ℕ × State) Stop
kept env n = Ok (env, n)

-- ---- what a tree says of an act

-- what a tree says is done, where there is one
abbrev pub Does : List CodeItem → State → Option Tree → List ℕ → State → List ℕ → Type 0
Does items x None env m w = Unit {0}
Does items x (Some t) env m w = DoesTree items t env m x w

-- x0: the state before the instruction, to which a way leads from x that writes `said`
module _ (items : List CodeItem) (x x0 : State) (said : List ℕ) (k0 : ℕ) (way : Way x0 x said k0) (going : x0.over ≡ None) where
  abbrev pub Says : Option Tree → List ℕ → State → Acts → Type 0
  Says None env m r = Unit {0}
  Says (Some t) env m r = act x0 ≡ r → DoesTree items t env m x said

  pub halts_by : (r : Acts) (q : Stop) → r ≡ Err q → act x0 ≡ r → Halts x said q
  halts_by r q e is = (x0, (k0, (way, going_is x0 going ∙ ap next_of (is ∙ e))))

  abbrev On : Tree → List ℕ → State → Type 0
  On t env m = DoesTree items t env m x said

  reads_by : (t : Tree) (env : List ℕ) (m : State) (o : Result ℕ Stop) (r : Acts) → ((v : ℕ) → o ≡ Ok v → On t (env ++ v ∷ []) m) → ((q : Stop) → o ≡ Err q → r ≡ Err q)
      → act x0 ≡ r → Behind x said (λ env m. On t env m) (o >>= known env m)
  reads_by t env m (Ok v) r go over is = go v refl
  reads_by t env m (Err q) r go over is = halts_by r q (over q refl) is

  pub reads_says : (size : Size) (a : Shape) (rest : Option Tree) (env : List ℕ) (m : State) (r : Acts) → ((v : ℕ) → read m (worth env a) size ≡ Ok v → Says rest (env ++ v ∷ []) m r)
      → ((q : Stop) → read m (worth env a) size ≡ Err q → r ≡ Err q) → Says (before (Reads size a) rest) env m r
  reads_says size a None env m r go over = tt
  reads_says size a (Some t) env m r go over = λ is. reads_by t env m (read m (worth env a) size) r (λ v e. go v e is) over is

  stores_by : (t : Tree) (env : List ℕ) (o : Result State Stop) (r : Acts) → ((n : State) → o ≡ Ok n → On t env n) → ((q : Stop) → o ≡ Err q → r ≡ Err q)
      → act x0 ≡ r → Behind x said (λ env m. On t env m) (o >>= kept env)
  stores_by t env (Ok n) r go over is = go n refl
  stores_by t env (Err q) r go over is = halts_by r q (over q refl) is

  pub stores_says : (size : Size) (a v : Shape) (rest : Option Tree) (env : List ℕ) (m : State) (r : Acts) → ((n : State) → written m (worth env a) size (worth env v) ≡ Ok n → Says rest env n r)
      → ((q : Stop) → written m (worth env a) size (worth env v) ≡ Err q → r ≡ Err q) → Says (before (Stores size a v) rest) env m r
  stores_says size a v None env m r go over = tt
  stores_says size a v (Some t) env m r go over = λ is. stores_by t env (written m (worth env a) size (worth env v)) r (λ n e. go n e is) over is

  stops_by : (t : Tree) (env : List ℕ) (m : State) (q : Stop) (b : Bool) (r : Acts) → (b ≡ false → On t env m) → (b ≡ true → r ≡ Err q)
      → act x0 ≡ r → Behind x said (λ env m. On t env m) (cond b (Err q) (Ok (env, m)))
  stops_by t env m q true r go over is = halts_by r q (over refl) is
  stops_by t env m q false r go over is = go refl

  pub lowers_says : (a : Shape) (rest : Option Tree) (env : List ℕ) (m : State) (r : Acts) → (nat_lt (worth env a) 2139095040 ≡ false → Says rest env m r)
      → (nat_lt (worth env a) 2139095040 ≡ true → r ≡ Err stack_full) → Says (before (Lowers a) rest) env m r
  lowers_says a None env m r go over = tt
  lowers_says a (Some t) env m r go over = λ is. stops_by t env m stack_full (nat_lt (worth env a) 2139095040) r (λ e. go e is) over is

  pub divides_says : (a : Shape) (rest : Option Tree) (env : List ℕ) (m : State) (r : Acts) → ((worth env a == 0) ≡ false → Says rest env m r)
      → ((worth env a == 0) ≡ true → r ≡ Err Trapped) → Says (before (Divides a) rest) env m r
  divides_says a None env m r go over = tt
  divides_says a (Some t) env m r go over = λ is. stops_by t env m Trapped (worth env a == 0) r (λ e. go e is) over is

  pub gets_says : (rest : Option Tree) (env : List ℕ) (m : State) (r : Acts)
      → Says rest (env ++ next_byte m.input ∷ []) (record m { input = bytes_behind m.input }) r → Says (before Gets rest) env m r
  gets_says None env m r go = tt
  gets_says (Some t) env m r go = λ is. go is

  pub puts_says : (b : Shape) (rest : Option Tree) (env : List ℕ) (m : State) (r : Acts) → (act x0 ≡ r → Does items x rest env m (said ++ worth env b ∷ []))
      → Says (before (Puts b) rest) env m r
  puts_says b None env m r go = tt
  puts_says b (Some t) env m r go = λ is. go is
