-- Steps keep chains.
use Rattle.std.proofs.Common.{◌≡◌, ℕ, ◌-◌, ◌<◌, ◌≤◌, Bool, true, false, cond, List, [], ◌∷◌, Option, Some, None, Result, Ok, Err, refl, sym, ap, subst, arith}
use Rattle.std.specs.Prelude.{◌==◌, ◌%◌, ◌^◌}
use Rattle.vax_pairs.specs.gg_base.specs.declared.size.Size.TheVariants.{Long}
use Rattle.vax_pairs.specs.gg_base.specs.Arithmetic.{add32}
use Rattle.vax_pairs.specs.vax_core.specs.declared.register.Reg.TheVariants.{R0, Sp}
use Rattle.vax_pairs.specs.vax_core.specs.Registers.{operands_name}
use Rattle.vax_pairs.specs.vax_machine_live.specs.declared.frame.Frame.{Frame}
use Rattle.vax_pairs.specs.vax_machine.specs.declared.turn.Stop.{Stop}
use Rattle.vax_pairs.specs.vax_machine.specs.declared.operands.Destination.{Destination}
use Rattle.vax_pairs.specs.vax_machine.specs.declared.function.Computed.{Computed}
use Rattle.vax_pairs.specs.vax_machine.specs.State.{State, reg, with_reg, with_conditions, cleared, bad_code, ◌>>=◌}
use Rattle.vax_pairs.specs.vax_machine.specs.Memory.{read}
use Rattle.vax_pairs.specs.vax_machine.specs.Functions.{valued}
use Rattle.vax_pairs.specs.vax_machine.specs.Calls.{Acts, putchar, getchar, got}
use Rattle.vax_pairs.specs.vax_machine.specs.Step.{finished, pushing}
use Rattle.vax_pairs.specs.vax_machine_lists.specs.Kept.{Same, KeptAt}
use Rattle.vax_pairs.specs.vax_machine_lists.specs.Instructions.{course_of}
use Rattle.vax_pairs_law.specs.vax_alike.proofs.Placing.{Where, where_of, Moved, set, stored_there, pushed_there}
use Rattle.vax_pairs.specs.Functions.{has, Chain}
use Rattle.vax_pairs_checked.proofs.Chains.{chain_goes}

-- what is done stays at v, but for the condition codes
pub record Stays (v : Where) (n : State) : Type 0 where
  pub place : n.place ≡ v.place
  pub items : n.items ≡ v.items
  pub frames : n.frames ≡ v.frames

pub stays_of : (v : Where) (n : State) → where_of n ≡ v → Stays v n
stays_of v n h = record { place = ap (λ (x : Where). x.place) h; items = ap (λ (x : Where). x.items) h; frames = ap (λ (x : Where). x.frames) h }

abbrev pub AllStays : Where → Acts → Type 0
AllStays v (Ok x) = Stays v x.1
AllStays v (Err e) = Unit {0}

module _ (v : Where) where
  left_by : (o : Option ℕ) (f : State → State) → ((n : State) → where_of n ≡ v → Stays v (f n)) → (r s : Result State Stop) → Moved v v r s → AllStays v (r >>= λ (n : State). Ok (o, f n))
  left_by o f g (Ok n) s h = g n h.1
  left_by o f g (Err e) s h = tt

  coded : (n : State) (c : _) → where_of n ≡ v → Stays v (with_conditions n c)
  coded n c h = (let k = stays_of v n h in record { place = k.place; items = k.items; frames = k.frames })

  pub finished_stays : (n : State) → where_of n ≡ v → (d : Option Destination) (c : Option Computed) → AllStays v (finished n d c)
  finished_stays n h d None = tt
  finished_stays n h d (Some c) = left_by None (λ k. with_conditions k c.conditions) (λ k g. coded k c.conditions g) _ _ (stored_there v v (λ a k. refl) n h d c.value)

  pub pushing_stays : (n : State) → where_of n ≡ v → (x : ℕ) → AllStays v (pushing n x)
  pushing_stays n h x = left_by None (λ k. with_conditions k (valued Long x n.conditions.carry).conditions) (λ k g. coded k _ g) _ _ (pushed_there v v (λ a k. refl) n h x)

  read_then : (r : Result ℕ Stop) (f : ℕ → Acts) → ((x : ℕ) → AllStays v (f x)) → AllStays v (r >>= f)
  read_then (Ok x) f h = h x
  read_then (Err e) f h = tt

  choose_stays : (b : Bool) (r : Acts) → AllStays v r → AllStays v (cond b r (Err bad_code))
  choose_stays true r h = h
  choose_stays false r h = tt

  pub putchar_stays : (n : State) → where_of n ≡ v → (count : ℕ) → AllStays v (putchar n count)
  unfolding putchar
  putchar_stays n h count =
      choose_stays (count == 1) _ (read_then (read n (reg n Sp) Long) _
      (λ x. left_by (Some (x % 2 ^ 8)) (λ k. with_conditions (with_reg k R0 (x % 2 ^ 8)) cleared) (λ k g. coded (with_reg k R0 (x % 2 ^ 8)) cleared g) _ _
      (set v v (λ a k. refl) n h Sp (add32 (reg n Sp) 4))))

  got_stays : (n : State) → where_of n ≡ v → (input : List ℕ) → Stays v (got n input)
  got_stays n h [] = coded (with_reg n R0 (2 ^ 32 - 1)) cleared h
  got_stays n h (b ∷ rest) = coded (with_reg (record n { input = rest }) R0 b) cleared h

  pub getchar_stays : (n : State) → where_of n ≡ v → (count : ℕ) → AllStays v (getchar n count)
  unfolding getchar
  getchar_stays n h count = choose_stays (count == 0) _ (got_stays n h n.input)

-- ---- what is left by an act of one function

module _ (In : (mask place : ℕ) → Type 0) where
  pub record Post (m n : State) : Type 0 where
    pub items : n.items ≡ m.items
    pub chain : Chain In n.frames n.registers n.place

  abbrev pub ActsKeep : State → Acts → Type 0
  ActsKeep m (Ok x) = Post m x.1
  ActsKeep m (Err e) = Unit {0}

  module _ (m : State) (p : ℕ) (chain : Chain In m.frames m.registers m.place) (os : List _)
      (names : (mask : ℕ) → In mask m.place → (r : ℕ) → 2 ≤ r → r < 12 → has mask r ≡ false → operands_name os r ≡ false)
      (behind : (mask : ℕ) → In mask m.place → In mask p) where
    abbrev m1 : State
    m1 = record m { place = p }

    abbrev Keeps : (ℕ → Type 0) → Type 0
    Keeps K = (r : ℕ) → 1 ≤ r → r < 12 → operands_name os r ≡ false → K r

    pub gone : (n : State) → Stays (where_of m1) n → Keeps (λ r. Same r m1 n) → Post m n
    gone n h k = record {
      items = h.items;
      chain = subst (λ (fs : List Frame). Chain In fs n.registers n.place) (sym h.frames) (subst (λ (q : ℕ). Chain In m.frames n.registers q) (sym h.place)
          (chain_goes In m.frames m.registers n.registers m.place p chain (λ mask i. ((λ r low high e. (k r (omega (arith, low)) high (names mask i r low high e)).register), behind mask i))));
    }

    pub acts_gone : (r : Acts) → AllStays (where_of m1) r → Keeps (λ q. KeptAt q m1 (course_of r).ending) → ActsKeep m r
    acts_gone (Ok x) h k = gone x.1 h k
    acts_gone (Err e) h k = tt
