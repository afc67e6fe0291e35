-- The last label of a chain of jumps, found by hops from item to item.
use Rattle.std.proofs.Common.{◌≡◌, ℕ, zero, suc, ◌<◌, Bool, true, false, cond, List, [], ◌∷◌, length, map, Option, Some, None, is_some, is_none, refl, sym, ap, subst, ◌∙◌, arith}
use Rattle.std.specs.Prelude.{◌&&◌, slice_get, slice_index_or}
use Rattle.gg_base.proofs.Facts.{false_true, none_or_some, first_true, second_true, guarded, none_is}
use Rattle.vax_core.specs.declared.op.Op.{Op}
use Rattle.vax_core.specs.declared.op.Op.TheVariants.{Jbr}
use Rattle.vax_core.specs.declared.code.Instr.{Instr}
use Rattle.vax_core.specs.declared.code.CodeItem.{CodeItem}
use Rattle.vax_core.specs.declared.code.CodeItem.TheVariants as item_kind
use Rattle.vax_machine.specs.declared.function.Action.{Action}
use Rattle.vax_machine.specs.declared.function.Action.TheVariants.{Compute, Push, Branch, Call, Return}
use Rattle.vax_machine.specs.declared.function.Test.{Test}
use Rattle.vax_machine.specs.Functions.{action_of}
use Rattle.vax_machine.specs.Labels.{next_item, label_place}
use Rattle.vax_passes.specs.Dropping.{is_jump}
use Rattle.vax_passes.proofs.Jumping.{jump_is}
use Rattle.vax_passes.proofs.Suffixes.{get_inside}
use Rattle.vax_codes.specs.Chains.{Leads, here, on, Ends}
use Rattle.vax_codes.specs.Nexts.{place_of}
use Rattle.vax_codes.specs.Hops.{is_jump_at, hop_from, hop_of, hops_of, step, times, AreInside, AreFar, target_of, last_of}
use Rattle.vax_codes.proofs.Hopping.{Hops, there, one, end_none, few, ended, reached}

-- a value by index of a list in which each element has one
mapped_at : {A B : Type 0} (f : A → Option B) (xs : List A) (p : ℕ) (g : Option A → Option B) → g None ≡ None → ((x : A) → g (Some x) ≡ f x) → slice_index_or (map f xs) p None ≡ g (slice_get xs p)
mapped_at f [] zero g e h = sym e
mapped_at f [] (suc p) g e h = sym e
mapped_at f (x ∷ xs) zero g e h = sym (h x)
mapped_at f (x ∷ xs) (suc p) g e h = mapped_at f xs p g e h

pub mapped_length : {A B : Type 0} (f : A → B) (xs : List A) → length (map f xs) ≡ length xs
mapped_length f [] = refl
mapped_length f (x ∷ xs) = ap suc (mapped_length f xs)

pub hops_length : (cs : List CodeItem) → length (hops_of cs) ≡ length cs
hops_length cs = mapped_length (λ (x : CodeItem). hop_of cs (Some x)) cs

module _ (cs : List CodeItem) where
  abbrev hops : List (Option ℕ)
  hops = hops_of cs

  pub hop_at : (p : ℕ) → slice_index_or hops p None ≡ hop_of cs (slice_get cs p)
  hop_at p = mapped_at (λ (x : CodeItem). hop_of cs (Some x)) cs p (hop_of cs) refl (λ x. refl)

  -- a branch with its label
  pub record IsBranchAt (p : ℕ) (l : List ℕ) : Type 0 where
    pub instr : Instr
    pub test : Test
    pub at : slice_get cs p ≡ Some (item_kind.Instr instr)
    pub action : action_of instr.op ≡ Branch test
    pub target : instr.target ≡ Some l

  abbrev pub behind : List ℕ → ℕ
  behind l = next_item cs (label_place cs l)

  hop_branch : (p : ℕ) (l : List ℕ) → IsBranchAt p l → slice_index_or hops p None ≡ hop_from cs (Some (behind l))
  hop_branch p l b =
      hop_at p
      ∙ ap (hop_of cs) b.at
      ∙ ap (λ (a : Action). hop_from cs (place_of cs a b.instr.target)) b.action
      ∙ ap (λ (t : Option (List ℕ)). hop_from cs (place_of cs (Branch b.test) t)) b.target

  -- a jump behind a label is a branch
  some_target : (t : Option (List ℕ)) → is_some t ≡ true → (k : List ℕ) × (t ≡ Some k)
  some_target None e = false_true e
  some_target (Some k) e = (k, refl)

  jump_at : (q : ℕ) (o : Option CodeItem) → slice_get cs q ≡ o → is_jump_at o ≡ true → (k : List ℕ) × ((i : Instr) × (slice_get cs q ≡ Some (item_kind.Instr i)) × (i.op ≡ Jbr) × (i.target ≡ Some k))
  jump_at q None at e = false_true e
  jump_at q (Some (item_kind.Label n)) at e = false_true e
  jump_at q (Some (item_kind.Globl n)) at e = false_true e
  jump_at q (Some (item_kind.Mask m)) at e = false_true e
  jump_at q (Some (item_kind.Instr i)) at e =
      let t = some_target i.target (second_true (is_jump i.op) _ e) in
      (t.0, (i, at, jump_is i.op (first_true (is_jump i.op) _ e), t.1))

  jump_is_there : (i : Instr) (k : List ℕ) → i.op ≡ Jbr → i.target ≡ Some k → is_jump_at (Some (item_kind.Instr i)) ≡ true
  jump_is_there i k op target = ap (λ (o : Op). is_jump o && is_some i.target) op ∙ ap (λ (t : Option (List ℕ)). is_some t) target

  jump_branch : (q : ℕ) (k : List ℕ) (i : Instr) → slice_get cs q ≡ Some (item_kind.Instr i) → i.op ≡ Jbr → i.target ≡ Some k → IsBranchAt q k
  jump_branch q k i at op target = record { instr = i; test = _; at = at; action = ap action_of op; target = target }

  -- ---- hops are links of a chain

  ends_by : (l : List ℕ) → hop_from cs (Some (behind l)) ≡ None → Ends cs l
  ends_by l e = record {
    none = λ i k at op target. (
        let yes : is_jump_at (slice_get cs (behind l)) ≡ true = ap is_jump_at at ∙ jump_is_there i k op target in
        none_or_some _ (behind l) e (ap (λ (b : Bool). cond b (Some (behind l)) None) yes));
  }

  ended_by : (l : List ℕ) → Ends cs l → (b : Bool) → is_jump_at (slice_get cs (behind l)) ≡ b → cond b (Some (behind l)) None ≡ None
  ended_by l h true e = absurd (let j = jump_at (behind l) _ refl e in h.none j.1.0 j.0 j.1.1 j.1.2 j.1.3)
  ended_by l h false e = refl

  -- the last label of the chain that begins with a label
  record IsLastOf (m e : ℕ) (l : List ℕ) : Type 0 where
    last : List ℕ
    target : target_of (slice_get cs e) ≡ Some last
    leads : Leads cs m l last
    ends : Ends cs last

  target_at : (p : ℕ) (l : List ℕ) → IsBranchAt p l → target_of (slice_get cs p) ≡ Some l
  target_at p l b = ap target_of b.at ∙ b.target

  lead_on : (m e : ℕ) (l : List ℕ) (q : ℕ) (b : Bool) → is_jump_at (slice_get cs (behind l)) ≡ b → cond b (Some (behind l)) None ≡ Some q → ((k : List ℕ) → IsBranchAt q k → IsLastOf m e k)
      → IsLastOf (suc m) e l
  lead_on m e l q false is h go = absurd cc
  lead_on m e l q true is h go =
      let j = jump_at (behind l) _ refl is in
      let same : behind l ≡ q = cc in
      let r = go j.0 (subst (λ (z : ℕ). IsBranchAt z j.0) same (jump_branch (behind l) j.0 j.1.0 j.1.1 j.1.2 j.1.3)) in
      record { last = r.last; target = r.target; leads = on j.1.0 j.1.1 j.1.2 j.1.3 r.leads; ends = r.ends }

  chain_of : (m p e : ℕ) (l : List ℕ) → Hops hops m p e → IsBranchAt p l → IsLastOf m e l
  chain_of m p e l (there x) b = record { last = l; target = target_at p l b; leads = here; ends = ends_by l (sym (hop_branch p l b) ∙ x) }
  chain_of m p e l (one {m = n} q x h) b = lead_on n e l q (is_jump_at (slice_get cs (behind l))) refl (sym (hop_branch p l b) ∙ x) (λ k c. chain_of n q e k h c)

  hops_along : (n p : ℕ) (l m : List ℕ) → Leads cs n l m → Ends cs m → IsBranchAt p l → (e : ℕ) × Hops hops n p e
  hops_along n p l m here ends b = (p, there (hop_branch p l b ∙ ended_by l ends (is_jump_at (slice_get cs (behind l))) refl))
  hops_along n p l m (on {n = j} {k = k} i at op target leads) ends b =
      let yes : is_jump_at (slice_get cs (behind l)) ≡ true = ap is_jump_at at ∙ jump_is_there i k op target in
      let r = hops_along j (behind l) k m leads ends (jump_branch (behind l) k i at op target) in
      (r.0, one (behind l) (hop_branch p l b ∙ ap (λ (y : Bool). cond y (Some (behind l)) None) yes) r.1)

  -- ---- what the names are

  -- the label to be put in place of a branch's own
  pub record IsTurnedTo (x : CodeItem) (m : List ℕ) : Type 0 where
    pub instr : Instr
    pub test : Test
    pub label : List ℕ
    pub number : ℕ
    pub is : x ≡ item_kind.Instr instr
    pub action : action_of instr.op ≡ Branch test
    pub target : instr.target ≡ Some label
    pub leads : Leads cs (suc number) label m
    pub ends : Ends cs m

  -- where no label is put in place, the chain is at its end or has none
  pub record IsSettled (x : CodeItem) : Type 0 where
    pub each : (i : Instr) (t : Test) (n : ℕ) (l m : List ℕ) → x ≡ item_kind.Instr i → action_of i.op ≡ Branch t → i.target ≡ Some l → Leads cs n l m → Ends cs m → m ≡ l

  -- the branch at a place from which a hop leads
  branch_by : (i : Instr) (a : Action) (t : Option (List ℕ)) (q : ℕ) → action_of i.op ≡ a → i.target ≡ t → hop_from cs (place_of cs a t) ≡ Some q
      → (l : List ℕ) × ((x : Test) × (action_of i.op ≡ Branch x) × (i.target ≡ Some l))
  branch_by i (Compute f) t q e g h = absurd cc
  branch_by i Push t q e g h = absurd cc
  branch_by i Call t q e g h = absurd cc
  branch_by i Return t q e g h = absurd cc
  branch_by i (Branch x) None q e g h = absurd cc
  branch_by i (Branch x) (Some l) q e g h = (l, (x, e, g))

  branch_at : (p : ℕ) (o : Option CodeItem) (q : ℕ) → slice_get cs p ≡ o → hop_of cs o ≡ Some q → (l : List ℕ) × IsBranchAt p l
  branch_at p None q at h = absurd cc
  branch_at p (Some (item_kind.Label n)) q at h = absurd cc
  branch_at p (Some (item_kind.Globl n)) q at h = absurd cc
  branch_at p (Some (item_kind.Mask m)) q at h = absurd cc
  branch_at p (Some (item_kind.Instr i)) q at h =
      let b = branch_by i (action_of i.op) i.target q refl refl h in
      (b.0, record { instr = i; test = b.1.0; at = at; action = b.1.1; target = b.1.2 })

  some_hop : (o : Option ℕ) → is_some o ≡ true → (q : ℕ) × (o ≡ Some q)
  some_hop None e = false_true e
  some_hop (Some q) e = (q, refl)

  pub each_inside : AreInside hops
  each_inside = record { inside = λ p q e. by (slice_get cs p) q (sym (hop_at p) ∙ e) }
    where
      within : (l : List ℕ) (q : ℕ) (b : Bool) → is_jump_at (slice_get cs (behind l)) ≡ b → cond b (Some (behind l)) None ≡ Some q → q < length hops
      within l q false is h = absurd cc
      within l q true is h =
          let j = jump_at (behind l) _ refl is in
          let same : behind l ≡ q = cc in
          let lt = get_inside cs (behind l) _ j.1.1 in
          let long = mapped_length (λ (x : CodeItem). hop_of cs (Some x)) cs in
          omega (arith, lt, long, same)

      target_in : (a : Action) (t : Option (List ℕ)) (q : ℕ) → hop_from cs (place_of cs a t) ≡ Some q → q < length hops
      target_in (Compute f) t q h = absurd cc
      target_in Push t q h = absurd cc
      target_in Call t q h = absurd cc
      target_in Return t q h = absurd cc
      target_in (Branch x) None q h = absurd cc
      target_in (Branch x) (Some l) q h = within l q (is_jump_at (slice_get cs (behind l))) refl h

      by : (o : Option CodeItem) (q : ℕ) → hop_of cs o ≡ Some q → q < length hops
      by None q h = absurd cc
      by (Some (item_kind.Label n)) q h = absurd cc
      by (Some (item_kind.Globl n)) q h = absurd cc
      by (Some (item_kind.Mask m)) q h = absurd cc
      by (Some (item_kind.Instr i)) q h = target_in (action_of i.op) i.target q h

  module _ (places : List ℕ) (far : AreFar hops places) (p : ℕ) (lt : p < length cs) where
    lt_hops : p < length hops
    lt_hops = let long = mapped_length (λ (x : CodeItem). hop_of cs (Some x)) cs in omega (arith, lt, long)

    place_is : slice_index_or places p 0 ≡ times far.number (step hops) p
    place_is = far.steps.place p lt_hops

    settled_by : (i : Instr) (t : Test) (n : ℕ) (l m : List ℕ) → slice_get cs p ≡ Some (item_kind.Instr i) → action_of i.op ≡ Branch t → i.target ≡ Some l → Leads cs n l m → Ends cs m
        → last_of cs hops places p ≡ None → m ≡ l
    settled_by i t zero l m at action target here ends e = refl
    settled_by i t (suc n) l m at action target leads ends e =
        let b : IsBranchAt p l = record { instr = i; test = t; at = at; action = action; target = target } in
        let h = hops_along (suc n) p l m leads ends b in
        let less = few hops each_inside h.1 lt_hops in
        let many = far.many in
        let is : slice_index_or places p 0 ≡ h.0 = place_is ∙ ended hops h.1 far.number (omega (arith, less, many)) in
        let last = chain_of (suc n) p h.0 l h.1 b in
        absurd (none_or_some _ last.last e (named h.1 is last.target))
      where
        named : {q r : ℕ} {k : List ℕ} → Hops hops (suc r) p q → slice_index_or places p 0 ≡ q → target_of (slice_get cs q) ≡ Some k → last_of cs hops places p ≡ Some k
        named {q = q} (one z x h) is target =
            ap (λ (o : Option ℕ). cond (is_some o && is_none (slice_index_or hops (slice_index_or places p 0) None)) (target_of (slice_get cs (slice_index_or places p 0))) None) x
            ∙ ap (λ (y : ℕ). cond (is_none (slice_index_or hops y None)) (target_of (slice_get cs y)) None) is
            ∙ ap (λ (o : Option ℕ). cond (is_none o) (target_of (slice_get cs q)) None) (end_none hops h)
            ∙ target

    pub settled_at : (x : CodeItem) → slice_get cs p ≡ Some x → last_of cs hops places p ≡ None → IsSettled x
    settled_at x at e = record { each = λ i t n l m is action target leads ends. settled_by i t n l m (at ∙ ap (λ (y : CodeItem). Some y) is) action target leads ends e }

    turned_by : (r e : ℕ) (l m : List ℕ) (q : ℕ) → Hops hops r p e → slice_index_or hops p None ≡ Some q → IsBranchAt p l → target_of (slice_get cs e) ≡ Some m → (x : CodeItem)
        → slice_get cs p ≡ Some x → IsTurnedTo x m
    turned_by zero e l m q (there none) some b target x at = absurd (none_or_some _ q none some)
    turned_by (suc r) e l m q (one z y h) some b target x at =
        let last = chain_of (suc r) p e l (one z y h) b in
        let same : last.last ≡ m = let f = sym last.target ∙ target in cc in
        let whole : x ≡ item_kind.Instr b.instr = let f = sym at ∙ b.at in cc in
        record {
          instr = b.instr;
          test = b.test;
          label = l;
          number = r;
          is = whole;
          action = b.action;
          target = b.target;
          leads = subst (λ (k : List ℕ). Leads cs (suc r) l k) same last.leads;
          ends = subst (λ (k : List ℕ). Ends cs k) same last.ends;
        }

    pub turned_at : (x : CodeItem) (m : List ℕ) → slice_get cs p ≡ Some x → last_of cs hops places p ≡ Some m → IsTurnedTo x m
    turned_at x m at e =
        let g = guarded (is_some (slice_index_or hops p None) && is_none (slice_index_or hops (slice_index_or places p 0) None)) _ m e in
        let hop = some_hop _ (first_true (is_some (slice_index_or hops p None)) _ g.0) in
        let none = none_is _ (second_true (is_some (slice_index_or hops p None)) _ g.0) in
        let r = reached hops far.number p (sym (ap (λ (y : ℕ). slice_index_or hops y None) place_is) ∙ none) in
        let b = branch_at p (slice_get cs p) hop.0 refl (sym (hop_at p) ∙ hop.1) in
        turned_by r.0 _ b.0 m hop.0 r.1 hop.1 b.1 (sym (ap (λ (y : ℕ). target_of (slice_get cs y)) place_is) ∙ g.1) x at
