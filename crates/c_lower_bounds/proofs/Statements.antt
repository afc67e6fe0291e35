-- How many temporaries and forks each statement has, by the nodes of its largest full expression.
use Rattle.std.proofs.Common.{ℕ, suc, ◌+◌, ◌*◌, ◌≤◌, List, [], ◌∷◌, arith}
use Rattle.std.specs.Prelude.{Bool, true, false, Option, Some, None}
use Rattle.c_types.specs.Types.{size_of}
use Rattle.c_types.specs.declared.types.CType.{CType}
use Rattle.c_types.specs.declared.typed.Callee.{Callee}
use Rattle.c_types.specs.declared.typed.Variable.{Variable}
use Rattle.c_types.specs.declared.typed.Variable.TheVariants as variables
use Rattle.c_types.specs.Constants.{constant_of}
use Rattle.c_types.specs.Typed.{AnExpression}
use Rattle.c_program.specs.Statements.{ADeclaration, KeepOf, ClearOf, BeginOf, StoreOf, ZerosOf, AnAction, SomeActions, NoActions, MoreActions, DeclareOf, BlockOf}
use Rattle.c_program.specs.Statements.{EvaluateOf, BreakOf, ContinueOf, ReturnOf, IfOf, IfElseOf, WhileOf, DoOf, ForOf}
use Rattle.c_program.specs.Need.{nodes, maybe_nodes, returned_nodes, declared_nodes, largest, largest_of}
use Rattle.c_sound.specs.Stands.{Stands, StandsMaybe, StandsDeclared, StandsAct, StandsActs}
use Rattle.c_lower_scheme.specs.Trees.{Num, Item, Jump}
use Rattle.c_lower_scheme.specs.Parts.{Lowered, Emitted, Destination, InLocal, nothing, due, delivered}
use Rattle.c_lower_scheme.specs.Places.{where_of}
use Rattle.c_lower_scheme.specs.Expressions.{way}
use Rattle.c_lower_scheme.specs.Mentions.{mentions}
use Rattle.c_lower_scheme.specs.Zeros.{is_zeroed}
use Rattle.c_lower_scheme.specs.Flow.{two_done, clearing, begin_of, stored_in_block, zeros_in_block, if_done, if_else_done, loop_done, while_done, turns_done, for_done, ever_done}
use Rattle.c_lower_scheme.specs.Statements.{unless, when, effect, returning, declare, while_by, for_tested, for_of, lower, lower_row, going, if_by}
use Rattle.c_lower_bounds.proofs.Trees.{item_forks, Narrow, none, next, behind}
use Rattle.c_lower_bounds.proofs.Values.{Within, Ends, Bounded, spare_of, due_within, delivered_ends}
use Rattle.c_lower_bounds.proofs.Places.{place_forks, in_block_forks}
use Rattle.c_lower_bounds.proofs.Phrases.{Widens, way_bounded}

-- at most three temporaries for two of m nodes, from the temporary t on, and items with at most f forks
pub record Holds (t m f : ℕ) (p : Emitted) : Type 0 where
  pub temps : 2 * p.temps ≤ 2 * t + 3 * m
  pub items : Narrow f p.items

pub ends_hold : (spare : ℕ) {t n m f g : ℕ} {p : Emitted} → n ≤ m → g ≤ f → Ends spare t n g p → Holds t m f p
ends_hold spare {f = f} le less h = record { temps = omega (arith, h.temps); items = h.items f less }

pub two_hold : {t m f : ℕ} {a b : Emitted} → Holds t m f a → Holds t m f b → Holds t m f (two_done a b)
two_hold h g = record { temps = omega (arith, h.temps, g.temps); items = behind h.items g.items }

narrow_clearing : (b : Bool) (n f : ℕ) → 1 ≤ f → Narrow f (clearing b n)
narrow_clearing true n f one = next (omega arith) none
narrow_clearing false n f one = none

begin_holds : (b : Bool) (x spare : ℕ) {t n m f g : ℕ} {p : Emitted} → 1 ≤ f → n ≤ m → g ≤ f → Ends spare t n g p → Holds t m f (begin_of b x p)
begin_holds b x spare {f = f} one le less h = record { temps = omega (arith, h.temps); items = behind (narrow_clearing b x f one) (h.items f less) }

-- in a block: a value that is stored, and zeros
stored_holds : (size : ℕ) (ty : CType) (o : ℕ) {t n m f g : ℕ} {p : Lowered} → n ≤ m → suc g ≤ f → Within t n g p → Holds t m f (stored_in_block size ty o p)
stored_holds size ty o {f = f} le less h =
    let few = in_block_forks size o in
    record { temps = omega (arith, h.temps); items = behind (h.items f (omega arith)) (next (omega (arith, h.tree)) none) }

zeros_hold : (size t : ℕ) (ty : CType) (o count l : ℕ) {m f : ℕ} → 1 ≤ m → 2 ≤ f → Holds t m f (zeros_in_block size t ty o count l)
zeros_hold size t ty o count l one two =
    let few = in_block_forks size o in
    let few' = in_block_forks size (o + count * size_of ty) in
    record {
      temps = omega arith;
      items = next (omega arith) (next (omega arith) (next (omega arith) (next (omega arith) (next (omega arith) none))));
    }

if_holds : (l : ℕ) {t m f : ℕ} {p a : Emitted} → Holds t m f p → Holds t m f a → Holds t m f (if_done l p a)
if_holds l h g = record {
  temps = omega (arith, h.temps, g.temps);
  items = behind h.items (behind g.items (next (omega arith) none));
}

if_else_holds : (l : ℕ) {t m f : ℕ} {p a b : Emitted} → Holds t m f p → Holds t m f a → Holds t m f b → Holds t m f (if_else_done l p a b)
if_else_holds l h g d = record {
  temps = omega (arith, h.temps, g.temps, d.temps);
  items = behind h.items (behind g.items (next (omega arith) (next (omega arith) (behind d.items (next (omega arith) none)))));
}

while_holds : (l : ℕ) {t m f : ℕ} {p a : Emitted} → Holds t m f p → Holds t m f a → Holds t m f (while_done l p a)
while_holds l h g = record {
  temps = omega (arith, h.temps, g.temps);
  items = next (omega arith) (behind h.items (behind g.items (next (omega arith) (next (omega arith) none))));
}

loop_holds : (to l : ℕ) {t m f : ℕ} {a p : Emitted} → Holds t m f a → Holds t m f p → Holds t m f (loop_done to l a p)
loop_holds to l g h = record {
  temps = omega (arith, h.temps, g.temps);
  items = next (omega arith) (next (omega arith) (behind g.items (next (omega arith) (behind h.items (next (omega arith) none)))));
}

turns_hold : (l : ℕ) {t m f : ℕ} {a s p : Emitted} → Holds t m f a → Holds t m f s → Holds t m f p → Holds t m f (turns_done l a s p)
turns_hold l g d h = record {
  temps = omega (arith, h.temps, g.temps, d.temps);
  items =
      let last = behind d.items (next (omega arith) (behind h.items (next (omega arith) none))) in
      next (omega arith) (next (omega arith) (behind g.items (next (omega arith) last)));
}

for_holds : (l : ℕ) {t m f : ℕ} {p a s : Emitted} → Holds t m f p → Holds t m f a → Holds t m f s → Holds t m f (for_done l p a s)
for_holds l h g d = record {
  temps = omega (arith, h.temps, g.temps, d.temps);
  items =
      let last = behind d.items (next (omega arith) (next (omega arith) none)) in
      next (omega arith) (behind h.items (behind g.items (next (omega arith) last)));
}

ever_holds : (l : ℕ) {t m f : ℕ} {a s : Emitted} → Holds t m f a → Holds t m f s → Holds t m f (ever_done l a s)
ever_holds l g d = record {
  temps = omega (arith, g.temps, d.temps);
  items =
      let last = behind d.items (next (omega arith) (next (omega arith) none)) in
      next (omega arith) (next (omega arith) (behind g.items (next (omega arith) last)));
}

-- In a function whose full expressions have at most m nodes: f bounds the forks of its items, and has room for those of a store in the block
-- where something is there.
module _ (size count first : ℕ) (out : Destination) (there : Variable → Type 0) (takes : Callee → ℕ → Type 0) (literals : ℕ)
    (β : ℕ → ℕ) (wider : Widens β) (names : (v : Variable) → there v → suc (place_forks (where_of size v)) ≤ β 1)
    (m f : ℕ) (one : 1 ≤ m) (some : 1 ≤ f) (wide : (n : ℕ) → n ≤ m → β n ≤ f)
    (roomy : (o : ℕ) → there (variables.InBlock o) → (2 ≤ f) × ((n : ℕ) → n ≤ m → suc (β n) ≤ f)) where
  bounded : (e : AnExpression) → Stands there takes literals e → Bounded (nodes e) (β (nodes e)) (way size count e)
  bounded e s = way_bounded size count there takes literals β wider names e s

  nothing_holds : (l : ℕ) → Holds first m f (nothing first l)
  nothing_holds l = record { temps = omega arith; items = none }

  one_holds : (i : Item) → item_forks i ≤ f → (l : ℕ) → Holds first m f (record { items = i ∷ []; temps = first; labels = l })
  one_holds i h l = record { temps = omega arith; items = next h none }

  unless_holds : (c : AnExpression) → Stands there takes literals c → nodes c ≤ m → (to l : ℕ) → Holds first m f (unless size count first out c to l)
  unless_holds c s le to l = ends_hold 2 le (wide (nodes c) le) ((bounded c s).branch false to first l)

  when_holds : (c : AnExpression) → Stands there takes literals c → nodes c ≤ m → (to l : ℕ) → Holds first m f (when size count first out c to l)
  when_holds c s le to l = ends_hold 2 le (wide (nodes c) le) ((bounded c s).branch true to first l)

  drop_holds : (e : AnExpression) → Stands there takes literals e → nodes e ≤ m → (l : ℕ) → Holds first m f ((way size count e).drop first l)
  drop_holds e s le l = ends_hold 0 le (wide (nodes e) le) ((bounded e s).drop first l)

  effect_holds : (e : Option AnExpression) → StandsMaybe there takes literals e → maybe_nodes e ≤ m → (l : ℕ) → Holds first m f (effect size count first out e l)
  effect_holds None s le l = nothing_holds l
  effect_holds (Some e) s le l = drop_holds e s le l

  pub zero_holds : (l : ℕ) → Holds first m f (delivered out (due (Num 0) first l))
  zero_holds l = ends_hold (spare_of out) one some (delivered_ends out (due_within (Num 0) 1 1 (omega arith) (omega arith) first l))

  returning_holds : (e : Option AnExpression) → StandsMaybe there takes literals e → returned_nodes e ≤ m → (l : ℕ)
      → Holds first m f (returning size count first out e l)
  returning_holds None s le l = zero_holds l
  returning_holds (Some e) s le l = ends_hold (spare_of out) le (wide (nodes e) le) ((bounded e s).deliver out first l)

  clearing_holds : (c : Bool) (n l : ℕ) → Holds first m f (record { items = clearing c n; temps = first; labels = l })
  clearing_holds c n l = record { temps = omega arith; items = narrow_clearing c n f some }

  declare_holds : (ds : List ADeclaration) (rest : SomeActions) → StandsDeclared there takes literals ds → declared_nodes ds ≤ m → (l : ℕ)
      → Holds first m f (declare size count first out ds rest l)
  declare_holds [] rest s le l = nothing_holds l
  declare_holds (KeepOf object ∷ ds) rest s le l = declare_holds ds rest s (omega arith) l
  declare_holds (ClearOf n ∷ ds) rest s le l = two_hold (clearing_holds (is_zeroed n ds rest) n l) (declare_holds ds rest s (omega arith) l)
  declare_holds (BeginOf n e ∷ ds) rest s le l =
      let p : Emitted = (way size count e).deliver (InLocal n) first l in
      let few : nodes e ≤ m = omega arith in
      let start = begin_holds (mentions n e) n 2 some few (wide (nodes e) few) ((bounded e s.0).deliver (InLocal n) first l) in
      two_hold start (declare_holds ds rest s.1 (omega arith) p.labels)
  declare_holds (StoreOf t o e ∷ ds) rest s le l =
      let p : Lowered = (way size count e).low first l in
      let few : nodes e ≤ m = omega arith in
      let start = stored_holds size t o few ((roomy o s.0).1 (nodes e) few) ((bounded e s.1).low first l) in
      two_hold start (declare_holds ds rest s.2 (omega arith) p.labels)
  declare_holds (ZerosOf t o n ∷ ds) rest s le l =
      two_hold (zeros_hold size first t o n l one (roomy o s.0).0) (declare_holds ds rest s.2 (omega arith) (suc l))

  if_by_holds : (o : Option ℕ) (l : ℕ) (c : AnExpression) (q : ℕ → Emitted) → Stands there takes literals c → nodes c ≤ m
      → ((k : ℕ) → Holds first m f (q k)) → Holds first m f (if_by size count first out o c q l)
  if_by_holds (Some to) l c q s le h = when_holds c s le to l
  if_by_holds None l c q s le h =
      let p : Emitted = unless size count first out c l (suc l) in
      if_holds l (unless_holds c s le l (suc l)) (h p.labels)

  while_by_holds : (o : Option ℕ) (l : ℕ) (c : AnExpression) (q : ℕ → ℕ → ℕ → Emitted) → Stands there takes literals c → nodes c ≤ m
      → ((lb lc k : ℕ) → Holds first m f (q lb lc k)) → Holds first m f (while_by size count first out o c q l)
  while_by_holds (Some v) l c q s le h =
      let p : Emitted = unless size count first out c (suc l) (suc (suc l)) in
      while_holds l (unless_holds c s le (suc l) (suc (suc l))) (h (suc l) l p.labels)
  while_by_holds None l c q s le h =
      let a : Emitted = q (suc (suc l)) (suc l) (suc (suc (suc l))) in
      loop_holds (suc l) l (h (suc (suc l)) (suc l) (suc (suc (suc l)))) (when_holds c s le l a.labels)

  tested_holds : (o : Option ℕ) (l : ℕ) (c : AnExpression) (e : Option AnExpression) (q : ℕ → Emitted)
      → Stands there takes literals c → StandsMaybe there takes literals e → nodes c ≤ m → maybe_nodes e ≤ m
      → ((k : ℕ) → Holds first m f (q k)) → Holds first m f (for_tested size count first out o l c e q)
  tested_holds (Some v) l c e q s r lc le h =
      let p : Emitted = unless size count first out c (suc (suc l)) (suc (suc (suc l))) in
      let a : Emitted = q p.labels in
      for_holds l (unless_holds c s lc (suc (suc l)) (suc (suc (suc l)))) (h p.labels) (effect_holds e r le a.labels)
  tested_holds None l c e q s r lc le h =
      let a : Emitted = q (suc (suc (suc (suc l)))) in
      let x : Emitted = effect size count first out e a.labels in
      turns_hold l (h (suc (suc (suc (suc l))))) (effect_holds e r le a.labels) (when_holds c s lc l x.labels)

  -- the parts of a `for` behind its first
  rest_holds : (l : ℕ) (c e : Option AnExpression) (q : ℕ → Emitted)
      → StandsMaybe there takes literals c → StandsMaybe there takes literals e → maybe_nodes c ≤ m → maybe_nodes e ≤ m
      → ((k : ℕ) → Holds first m f (q k)) → Holds first m f (for_of size count first out l c e q)
  rest_holds l None e q s r lc le h =
      let a : Emitted = q (suc (suc (suc l))) in
      ever_holds l (h (suc (suc (suc l)))) (effect_holds e r le a.labels)
  rest_holds l (Some c) e q s r lc le h = tested_holds (constant_of c) l c e q s r lc le h

  mutual
    pub lower_holds : (a : AnAction) (rest : SomeActions) → StandsAct there takes literals a → largest a ≤ m → (lb lc l : ℕ)
        → Holds first m f (lower size count first out a rest lb lc l)
    lower_holds (DeclareOf ds) rest s le lb lc l = declare_holds ds rest s le l
    lower_holds (BlockOf row) rest s le lb lc l = row_holds row s le lb lc l
    lower_holds (EvaluateOf e) rest s le lb lc l = drop_holds e s le l
    lower_holds BreakOf rest s le lb lc l = one_holds (Jump lb) (omega arith) l
    lower_holds ContinueOf rest s le lb lc l = one_holds (Jump lc) (omega arith) l
    lower_holds (ReturnOf e) rest s le lb lc l = returning_holds e s le l
    lower_holds (IfOf c a) rest s le lb lc l =
        let part : (k : ℕ) → Holds first m f (lower size count first out a NoActions lb lc k) = lower_holds a NoActions s.1 (omega arith) lb lc in
        if_by_holds (going a lb lc) l c (lower size count first out a NoActions lb lc) s.0 (omega arith) part
    lower_holds (IfElseOf c x y) rest s le lb lc l =
        let p : Emitted = unless size count first out c l (suc (suc l)) in
        let q : Emitted = lower size count first out x NoActions lb lc p.labels in
        let test = unless_holds c s.0 (omega arith) l (suc (suc l)) in
        if_else_holds l test (lower_holds x NoActions s.1 (omega arith) lb lc p.labels) (lower_holds y NoActions s.2 (omega arith) lb lc q.labels)
    lower_holds (WhileOf c a) rest s le lb lc l =
        let turns : (x y k : ℕ) → Holds first m f (lower size count first out a NoActions x y k) = lower_holds a NoActions s.1 (omega arith) in
        while_by_holds (constant_of c) l c (lower size count first out a NoActions) s.0 (omega arith) turns
    lower_holds (DoOf a c) rest s le lb lc l =
        let q : Emitted = lower size count first out a NoActions (suc (suc l)) (suc l) (suc (suc (suc l))) in
        loop_holds l l (lower_holds a NoActions s.0 (omega arith) (suc (suc l)) (suc l) (suc (suc (suc l)))) (when_holds c s.1 (omega arith) l q.labels)
    lower_holds (ForOf i c e a) rest s le lb lc l =
        let p : Emitted = effect size count first out i l in
        let k : ℕ = p.labels in
        let body : ℕ → Emitted = lower size count first out a NoActions (suc (suc k)) (suc k) in
        let turns : (n : ℕ) → Holds first m f (body n) = lower_holds a NoActions s.3 (omega arith) (suc (suc k)) (suc k) in
        two_hold (effect_holds i s.0 (omega arith) l) (rest_holds k c e body s.1 s.2 (omega arith) (omega arith) turns)

    pub row_holds : (row : SomeActions) → StandsActs there takes literals row → largest_of row ≤ m → (lb lc l : ℕ)
        → Holds first m f (lower_row size count first out row lb lc l)
    row_holds NoActions s le lb lc l = nothing_holds l
    row_holds (MoreActions a row) s le lb lc l =
        let p : Emitted = lower size count first out a row lb lc l in
        two_hold (lower_holds a row s.0 (omega arith) lb lc l) (row_holds row s.1 (omega arith) lb lc p.labels)
