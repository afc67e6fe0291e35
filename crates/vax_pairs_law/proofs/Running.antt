-- The tree of a run on terms says what the machine does.
use Rattle.std.proofs.Common.{◌≡◌, ℕ, zero, suc, ◌+◌, ◌<◌, Bool, true, false, cond, List, [], ◌∷◌, ◌++◌, length, Option, Some, None, Ok, Err, refl, sym, ap, subst, ◌∙◌}
use Rattle.std.specs.Prelude.{slice_get, ◌&&◌, ◌==◌}
use Rattle.std.specs.Str.{bytes_eq}
use Rattle.vax_pairs.specs.gg_base.specs.Arithmetic.{add32}
use Rattle.vax_pairs.specs.vax_core.specs.declared.register.Reg.{Reg}
use Rattle.vax_pairs.specs.vax_core.specs.declared.register.Reg.TheVariants.{Sp}
use Rattle.vax_pairs.specs.vax_core.specs.declared.operand.Base.{Base}
use Rattle.vax_pairs.specs.vax_core.specs.declared.operand.Base.TheVariants as bases
use Rattle.vax_pairs.specs.vax_core.specs.declared.operand.Operand.{Operand}
use Rattle.vax_pairs.specs.gg_base.specs.declared.size.Size.{Size}
use Rattle.vax_pairs.specs.gg_base.specs.declared.size.Size.TheVariants.{Long}
use Rattle.vax_pairs.specs.vax_core.specs.declared.op.Access.{Access}
use Rattle.vax_pairs.specs.vax_core.specs.declared.op.Access.TheVariants as accesses
use Rattle.vax_pairs.specs.vax_core.specs.declared.op.OperandKind.{OperandKind}
use Rattle.vax_pairs.specs.vax_core.specs.declared.code.AreaItem.{AreaItem}
use Rattle.vax_pairs.specs.vax_core.specs.declared.code.CodeItem.{CodeItem}
use Rattle.vax_pairs.specs.vax_core.specs.declared.code.CodeItem.TheVariants as item_kind
use Rattle.vax_pairs.specs.vax_core.specs.Ops.{shape}
use Rattle.vax_pairs.specs.vax_core.specs.First.{putchar_name}
use Rattle.vax_pairs.specs.vax_machine.specs.declared.operands.Arguments.{Arguments}
use Rattle.vax_pairs.specs.vax_machine.specs.declared.function.Action.{Action}
use Rattle.vax_pairs.specs.vax_machine.specs.declared.function.Action.TheVariants.{Compute, Push, Branch, Call, Return}
use Rattle.vax_pairs.specs.vax_machine.specs.declared.function.Test.{Test}
use Rattle.vax_pairs.specs.vax_machine.specs.declared.function.Test.TheVariants as test
use Rattle.vax_pairs.specs.vax_machine.specs.State.{State, reg, bad_code, ◌>>=◌}
use Rattle.vax_pairs.specs.vax_machine.specs.Memory.{read, register_set}
use Rattle.vax_pairs.specs.vax_machine.specs.Operands.{all_evaluated, evaluated, located, taken}
use Rattle.vax_pairs.specs.vax_machine.specs.Functions.{action_of, passes}
use Rattle.vax_pairs.specs.vax_machine.specs.Labels.{next_item, label_place, getchar_name}
use Rattle.vax_pairs.specs.vax_machine.specs.Calls.{Acts, putchar, got, getchar, called_by_name, called, silent}
use Rattle.vax_pairs.specs.vax_machine.specs.Step.{next_of, act, at_item, instruction, acted, branched}
use Rattle.vax_pairs.specs.Ways.{Way}
use Rattle.vax_pairs.specs.TermStates.{TermState, coded, dressed}
use Rattle.vax_pairs.specs.Trees.{Tree, Arrives, CallsHere, Choose, DoesTree}
use Rattle.vax_pairs.specs.TermRuns.{Onwards, asked, put_tree, get_tree, call_named, call_based, call_tree, counts, branch_tree, action_tree, item_tree, run_tree}
use Rattle.vax_pairs_law.proofs.Beginning.{going_is, way_goes, way_writes}
use Rattle.vax_pairs.specs.Scopes.{Scoped}
use Rattle.vax_pairs_law.proofs.Telling.{Does}
use Rattle.vax_pairs_law.proofs.Telling.{Says as TreeSays}
use Rattle.vax_pairs_law.proofs.Operating.{register_is}
use Rattle.vax_pairs_law.proofs.Serving.{putting, put_says, get_says}
use Rattle.vax_pairs_law.proofs.Computing.{Home, compute_says, push_says}

module _ (items : List CodeItem) (layout : List AreaItem) (is_cut : ℕ → Bool) (x : State) where
  abbrev Done : Option Tree → List ℕ → State → List ℕ → Type 0
  Done t env m w = Does items x t env m w

  -- what comes behind at a place
  abbrev RunsOn : Onwards → Type 0
  RunsOn on = (place n : ℕ) (env : List ℕ) (m : State) (s : TermState) (w : List ℕ) (k : ℕ) → length env ≡ n → Home items layout m → Scoped n s → 0 < k → Way (dressed env m place s) x w k
      → Done (on place n s) env m w

  module _ (on : Onwards) (runs : RunsOn on) (x0 : State) (said : List ℕ) (k0 : ℕ) (way : Way x0 x said k0) (going : x0.over ≡ None) where
    -- the machine comes to a place
    come : (env : List ℕ) (m : State) (s : TermState) (place n : ℕ) → length env ≡ n → Home items layout m → Scoped n s → act x0 ≡ Ok (None, dressed env m place s)
        → Done (on place n s) env m said
    come env m s place n long home scoped e =
        let h = way_goes x0 x (dressed env m place s) said k0 way (going_is x0 going ∙ ap next_of e) in
        runs place n env m s said h.0 long home scoped h.1.0 h.1.1

    -- the same where a byte is written
    come_writing : (env : List ℕ) (m : State) (s : TermState) (place n b : ℕ) → length env ≡ n → Home items layout m → Scoped n s → act x0 ≡ Ok (Some b, dressed env m place s)
        → Done (on place n s) env m (said ++ b ∷ [])
    come_writing env m s place n b long home scoped e =
        let h = way_writes x0 x (dressed env m place s) b said k0 way (going_is x0 going ∙ ap next_of e) in
        runs place n env m s (said ++ b ∷ []) h.0 long home scoped h.1.0 h.1.1

    says_it : (t : Option Tree) (env : List ℕ) (m : State) (r : Acts) → (act x0 ≡ r → Done t env m said) → TreeSays items x x0 said k0 way going t env m r
    says_it None env m r h = tt
    says_it (Some t) env m r h = h

    does_it : (t : Option Tree) (env : List ℕ) (m : State) (r : Acts) → TreeSays items x x0 said k0 way going t env m r → act x0 ≡ r → Done t env m said
    does_it None env m r h e = tt
    does_it (Some t) env m r h e = h e

    asked_does : (t : Test) (s : TermState) (env : List ℕ) (m : State) (a b : Option Tree) → (passes t (coded env m.conditions s) ≡ true → Done a env m said)
        → (passes t (coded env m.conditions s) ≡ false → Done b env m said)
        → Done (asked t s a b) env m said
    asked_does t s env m None b f g = tt
    asked_does t s env m (Some a) None f g = tt
    asked_does t s env m (Some a) (Some b) f g = by (passes t (coded env m.conditions s)) refl where
      by : (c : Bool) → passes t (coded env m.conditions s) ≡ c → Choose c (DoesTree items a env m x said) (DoesTree items b env m x said)
      by true e = f e
      by false e = g e

    module _ (env : List ℕ) (m : State) (home : Home items layout m) (s : TermState) (h : Scoped (length env) s) (behind : ℕ) where
      taken_to : (t : Test) (l : List ℕ) (c : Bool) → passes t (coded env m.conditions s) ≡ c → act x0 ≡ branched (dressed env m behind s) (passes t (coded env m.conditions s)) (Some l)
          → act x0 ≡ Ok (None, dressed env m (cond c (label_place items l) behind) s)
      taken_to t l true e is =
          is ∙ ap (λ (b : Bool). branched (dressed env m behind s) b (Some l)) e ∙ ap (λ (xs : List CodeItem). Ok (None, dressed env m (label_place xs l) s)) home.items_are
      taken_to t l false e is = is ∙ ap (λ (b : Bool). branched (dressed env m behind s) b (Some l)) e

      fork_does : (t : Test) (l : List ℕ) → act x0 ≡ branched (dressed env m behind s) (passes t (coded env m.conditions s)) (Some l)
          → Done (asked t s (on (label_place items l) (length env) s) (on behind (length env) s)) env m said
      fork_does t l is =
          asked_does t s env m _ _ (λ e. come env m s (label_place items l) (length env) refl home h (taken_to t l true e is))
          (λ e. come env m s behind (length env) refl home h (taken_to t l false e is))

      branch_does : (t : Test) (target : Option (List ℕ)) → act x0 ≡ branched (dressed env m behind s) (passes t (coded env m.conditions s)) target
          → Done (branch_tree items layout is_cut t target behind (length env) s on) env m said
      branch_does t None is = tt
      branch_does test.Always (Some l) is = come env m s (label_place items l) (length env) refl home h (taken_to test.Always l true refl is)
      branch_does t (Some l) is = fork_does t l is

      -- what comes behind a call
      abbrev on_behind : ℕ → TermState → Option Tree
      on_behind k t = on behind k t

      put_does : (count : ℕ) (c : Bool) → act x0 ≡ cond c (read (dressed env m behind s) (reg (dressed env m behind s) Sp) Long
          >>= λ (v : ℕ). register_set (dressed env m behind s) Sp (add32 (reg (dressed env m behind s) Sp) 4) >>= putting v) (Err bad_code)
          → Done (cond c (put_tree (length env) s on_behind) None) env m said
      put_does count true is =
          does_it (put_tree (length env) s on_behind) env m _
          (put_says items layout x x0 said k0 way going behind on_behind env m home s h (reg (dressed env m behind s) Sp) (register_is env m behind s Sp)
          (λ more n k t b long hm sc e. come_writing more k t behind n b long hm sc e)) is
      put_does count false is = tt

      get_does : (c : Bool) → act x0 ≡ cond c (Ok (None, got (dressed env m behind s) m.input)) (Err bad_code)
          → Done (cond c (get_tree (length env) s on_behind) None) env m said
      get_does true is =
          does_it (get_tree (length env) s on_behind) env m _
          (get_says items layout x x0 said k0 way going behind on_behind env m home s h
          (λ more n k t long hm sc. says_it (on behind n t) more k _ (λ e. come more k t behind n long hm sc e))) is
      get_does false is = tt

      served_does : (f : List ℕ) (n : ℕ) (a b : Bool) → (p : ℕ) → x0 ≡ dressed env m p s
          → act x0 ≡ cond a (putchar (dressed env m behind s) n) (cond b (getchar (dressed env m behind s) n)
          (silent (called (dressed env m behind s) n (label_place m.items f) (Some behind))))
          → Done (cond a (cond (n == 1) (put_tree (length env) s on_behind) None) (cond b (cond (n == 0) (get_tree (length env) s on_behind) None) (Some (CallsHere n f behind s)))) env m said
      unfolding putchar getchar
      served_does f n true b p at is = put_does n (n == 1) is
      served_does f n false true p at is = get_does (n == 0) is
      served_does f n false false p at is = (
        p,
        (
          k0,
          (
            subst (λ (z : State). Way z x said k0) at way,
            ap act (sym at) ∙ is ∙ ap (λ (xs : List CodeItem). silent (called (dressed env m behind s) n (label_place xs f) (Some behind))) home.items_are,
          ),
        ),
      )

      named_does : (f : List ℕ) (n : ℕ) (p : ℕ) → x0 ≡ dressed env m p s → act x0 ≡ called_by_name (dressed env m behind s) n (Some f)
          → Done (call_named None n f behind (length env) s on) env m said
      unfolding called_by_name
      named_does f n p at is = served_does f n (bytes_eq f putchar_name) (bytes_eq f getchar_name) p at is

      counted_does : (name : Option (List ℕ)) (n : ℕ) (f : List ℕ) → (p : ℕ) → x0 ≡ dressed env m p s
          → act x0 ≡ (all_evaluated (record { access = accesses.Count; size = Long } ∷ []) (record { base = bases.Imm (record { name = name; offset = n }); index = None } ∷ [])
          (dressed env m behind s)
          >>= λ (y : Arguments × State). acted Call y.0 (Some f) y.1) → Done (call_named name n f behind (length env) s on) env m said
      unfolding evaluated located taken
      counted_does None n f p at is = named_does f n p at is
      counted_does (Some l) n f p at is = tt

      based_does : (b : Base) (index : Option Reg) (target : Option (List ℕ)) → (p : ℕ) → x0 ≡ dressed env m p s
          → act x0 ≡ (all_evaluated (record { access = accesses.Count; size = Long } ∷ []) (record { base = b; index = index } ∷ []) (dressed env m behind s)
          >>= λ (y : Arguments × State). acted Call y.0 target y.1) → Done (call_based b index target behind (length env) s on) env m said
      based_does (bases.Imm a) None (Some f) p at is = counted_does a.name a.offset f p at is
      based_does (bases.Imm a) None None p at is = tt
      based_does (bases.Imm a) (Some r) target p at is = tt
      based_does b index target p at is = tt

      operand_does : (os : List Operand) (target : Option (List ℕ)) → (p : ℕ) → x0 ≡ dressed env m p s
          → act x0 ≡ (all_evaluated (record { access = accesses.Count; size = Long } ∷ []) os (dressed env m behind s)
          >>= λ (y : Arguments × State). acted Call y.0 target y.1) → Done (call_tree os target behind (length env) s on) env m said
      operand_does [] target p at is = tt
      operand_does (o ∷ []) target p at is = based_does o.base o.index target p at is
      operand_does (o ∷ (q ∷ os)) target p at is = tt

      call_does : (a : Access) (z : Size) (os : List Operand) (target : Option (List ℕ)) → (p : ℕ) → x0 ≡ dressed env m p s
          → act x0 ≡ (all_evaluated (record { access = a; size = z } ∷ []) os (dressed env m behind s)
          >>= λ (y : Arguments × State). acted Call y.0 target y.1) → Done (counts a z (call_tree os target behind (length env) s on)) env m said
      call_does accesses.Count Long os target p at is = operand_does os target p at is
      call_does a z os target p at is = tt

      action_does : (a : Action) (ks : List OperandKind) (os : List Operand) (target : Option (List ℕ)) → (p : ℕ) → x0 ≡ dressed env m p s
          → act x0 ≡ (all_evaluated ks os (dressed env m behind s) >>= λ (y : Arguments × State). acted a y.0 target y.1)
          → Done (action_tree items layout is_cut a ks os target behind (length env) s on) env m said
      action_does (Compute f) ks os target p at is =
          does_it _ env m _
          (compute_says items layout x x0 said k0 way going behind f (λ k t. on behind k t)
          (λ more n k t long hm sc. says_it (on behind n t) more k _ (λ e. come more k t behind n long hm sc e)) env m home s h ks os) is
      action_does Push ks os target p at is =
          does_it _ env m _
          (push_says items layout x x0 said k0 way going behind (λ k t. on behind k t)
          (λ more n k t long hm sc. says_it (on behind n t) more k _ (λ e. come more k t behind n long hm sc e)) env m home s h ks os) is
      action_does (Branch t) [] os target p at is = branch_does t target is
      action_does (Branch t) (k ∷ ks) os target p at is = tt
      action_does Call [] os target p at is = tt
      action_does Call (k ∷ []) os target p at is = call_does k.access k.size os target p at is
      action_does Call (k ∷ (j ∷ ks)) os target p at is = tt
      action_does Return [] os target p at is = (p, (k0, (subst (λ (z : State). Way z x said k0) at way, ap act (sym at) ∙ is)))
      action_does Return (k ∷ ks) os target p at is = tt

    item_does : (env : List ℕ) (m : State) (home : Home items layout m) (s : TermState) (h : Scoped (length env) s) (p : ℕ) → x0 ≡ dressed env m p s → (o : Option CodeItem) (place : ℕ)
        → act x0 ≡ at_item o place (dressed env m p s) → Done (item_tree items layout is_cut o place (length env) s on) env m said
    unfolding instruction
    item_does env m home s h p at None place is = tt
    item_does env m home s h p at (Some (item_kind.Label n)) place is = tt
    item_does env m home s h p at (Some (item_kind.Globl n)) place is = tt
    item_does env m home s h p at (Some (item_kind.Mask n)) place is = tt
    item_does env m home s h p at (Some (item_kind.Instr i)) place is = action_does env m home s h (place + 1) (action_of i.op) (shape i.op).operands i.operands i.target p at is

  acts_so : (env : List ℕ) (m : State) (s : TermState) (p : ℕ) → m.items ≡ items
      → act (dressed env m p s) ≡ at_item (slice_get items (next_item items p)) (next_item items p) (dressed env m p s)
  unfolding act
  acts_so env m s p e = ap (λ (xs : List CodeItem). at_item (slice_get xs (next_item xs p)) (next_item xs p) (dressed env m p s)) e

  -- a cut, or the next item
  module _ (fuel : ℕ) (moved : Bool) (p : ℕ) (env : List ℕ) (m : State) (s : TermState) (w : List ℕ) (k : ℕ) (home : Home items layout m) (h : Scoped (length env) s)
      (way : Way (dressed env m p s) x w k) (pos : moved ≡ true → 0 < k)
      (runs : RunsOn (λ q i t. run_tree items layout is_cut fuel true q i t)) where
    cut_or : (b : Bool) → Done (cond b (Some (Arrives moved p s)) (item_tree items layout is_cut (slice_get items (next_item items p)) (next_item items p) (length env) s
        (λ q i t. run_tree items layout is_cut fuel true q i t))) env m w
    cut_or true = (k, (way, pos))
    cut_or false =
        item_does (λ q i t. run_tree items layout is_cut fuel true q i t) runs
        (dressed env m p s) w k way home.going env m home s h p refl _ _ (acts_so env m s p home.items_are)

  -- The tree of a run says what the machine does from there.
  pub run_does : (fuel : ℕ) (moved : Bool) (p : ℕ) (env : List ℕ) (m : State) (s : TermState) (w : List ℕ) (k : ℕ) → Home items layout m → Scoped (length env) s
      → Way (dressed env m p s) x w k → (moved ≡ true → 0 < k)
      → Does items x (run_tree items layout is_cut fuel moved p (length env) s) env m w
  run_does zero moved p env m s w k home h way pos = tt
  run_does (suc fuel) moved p env m s w k home h way pos =
      cut_or fuel moved p env m s w k home h way pos
      (λ place n more z t u j long hm sc lt v. subst (λ (i : ℕ). Done (run_tree items layout is_cut fuel true place i t) more z u) long
      (run_does fuel true place more z t u j hm (subst (λ (i : ℕ). Scoped i t) (sym long) sc) v (λ e. lt))) (moved && is_cut p)
