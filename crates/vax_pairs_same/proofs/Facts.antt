-- Facts that hold of states on terms hold of what they stand for.
use Rattle.std.proofs.Common.{◌≡◌, ◌⊎◌, inl, inr, ℕ, zero, suc, ◌<◌, Bool, true, List, [], ◌∷◌, map, Option, Some, None, refl, sym, ap, ◌∙◌, subst, ◌+◌, arith}
use Rattle.std.specs.Prelude.{◌^◌, slice_index, slice_get, slice_index_or}
use Rattle.term_core.specs.Shape.{Shape, Constant}
use Rattle.vax_core.specs.declared.code.CodeItem.{CodeItem}
use Rattle.vax_machine.specs.declared.function.Conditions.{Conditions}
use Rattle.vax_machine.specs.State.{cleared}
use Rattle.vax_machine.specs.Labels.{next_item, label_place}
use Rattle.vax_machine_lists.specs.Sound.{AllBelow}
use Rattle.vax_pairs.specs.Events.{worth}
use Rattle.vax_pairs.specs.Piecewise.{Enters}
use Rattle.vax_pairs.specs.Standing.{Seen, Resumed, Later}
use Rattle.vax_pairs.specs.SameTrees.{Agree, SameArrival, SameCall, SameReturn}
use Rattle.vax_pairs.specs.TermStates.{TermState, term_at, valued_registers, sight}
use Rattle.vax_pairs.specs.Facts.{Fact, Equal, First, Second, IsSo, AreSo}
use Rattle.vax_pairs_checked.specs.Accepted as accepted
use Rattle.vax_pairs_checked.specs.Accepted.{IsCut}
use Rattle.vax_pairs_checked.proofs.Facts.{facts_later}
use Rattle.vax_pairs_same.specs.Parts.{IsEntry, SameControl, HoldsOn, AllHold, Lasts, AllLast, BothEnter}
use Rattle.vax_pairs_cuts.specs.Views.{fact_of, cut_of}
use Rattle.vax_pairs_cuts.specs.declared.cut.Cut.{Cut}

index_worth : (env : List ℕ) (ts : List Shape) (q : ℕ) → slice_index (map (worth env) ts) q ≡ worth env (slice_index_or ts q (Constant 0))
index_worth env [] q = refl
index_worth env (t ∷ ts) zero = refl
index_worth env (t ∷ ts) (suc q) = index_worth env ts q

module _ (s t : TermState) (env : List ℕ) (k l : Conditions) (small : AllBelow (2 ^ 32) env) where
  fact_is_so : (f : Fact) → HoldsOn f s t → IsSo f (sight env k s) (sight env l t)
  fact_is_so (Equal q r) h = (h.0, (h.1.0, index_worth env t.registers q ∙ h.1.1 env small ∙ sym (index_worth env s.registers r)))
  fact_is_so (First r v) h = (h.0, index_worth env s.registers r ∙ h.1 env small)
  fact_is_so (Second r v) h = (h.0, index_worth env t.registers r ∙ h.1 env small)

  pub facts_are_so : (fs : List Fact) → AllHold fs s t → AreSo fs (sight env k s) (sight env l t)
  facts_are_so [] h = tt
  facts_are_so (f ∷ fs) h = (fact_is_so f h.0, facts_are_so fs h.1)

-- a fact speaks of no condition codes
any_codes : (s t : TermState) (env : List ℕ) → AllBelow (2 ^ 32) env → (fs : List Fact) → AllHold fs s t
    → AreSo fs (record { registers = valued_registers env s; conditions = cleared }) (record { registers = valued_registers env t; conditions = cleared })
any_codes s t env small [] h = tt
any_codes s t env small (f ∷ fs) h = (one f h.0, any_codes s t env small fs h.1) where
  one : (f : Fact) → HoldsOn f s t
      → IsSo f (record { registers = valued_registers env s; conditions = cleared }) (record { registers = valued_registers env t; conditions = cleared })
  one (Equal q r) h = (h.0, (h.1.0, index_worth env t.registers q ∙ h.1.1 env small ∙ sym (index_worth env s.registers r)))
  one (First r v) h = (h.0, index_worth env s.registers r ∙ h.1 env small)
  one (Second r v) h = (h.0, index_worth env t.registers r ∙ h.1 env small)

low : {r : ℕ} → r ≡ 0 → r < 12
low z = omega (arith, z)

-- facts that hold behind a call
module _ (At : ℕ → ℕ → ℕ → List Fact → Type 0) (s t : TermState) (env : List ℕ) (small : AllBelow (2 ^ 32) env) where
  one_later : (f : Fact) (a b : Seen) → Lasts f s t → Resumed (valued_registers env s) a → Resumed (valued_registers env t) b
      → slice_index b.registers 0 ≡ slice_index a.registers 0 → IsSo f a b
  one_later (Equal q r) a b (inl o) g k e = (low o.0, (low o.1, ap (λ (x : ℕ). slice_index b.registers x) o.0 ∙ e ∙ sym (ap (λ (x : ℕ). slice_index a.registers x) o.1)))
  one_later (First r v) a b (inl o) g k e = absurd o
  one_later (Second r v) a b (inl o) g k e = absurd o
  one_later f a b (inr h) g k e = (facts_later At (f ∷ []) (valued_registers env s) (valued_registers env t) cleared cleared (h.0, tt)
      (any_codes s t env small (f ∷ []) (h.1, tt)) a b g k e).0

  later_is : (fs : List Fact) → AllLast fs s t → Later (List Fact) AreSo At fs (valued_registers env s) (valued_registers env t)
  later_is [] h a b g k e = tt
  later_is (f ∷ fs) h a b g k e = (one_later f a b h.0 g k e, later_is fs h.1 a b g k e)

abbrev seen_cut : Option Cut → Option accepted.Cut
seen_cut None = None
seen_cut (Some x) = Some (cut_of x)

get_map : (cuts : List Cut) (i : ℕ) (c : Cut) → slice_get cuts i ≡ Some c → slice_get (map cut_of cuts) i ≡ Some (cut_of c)
get_map [] zero c e = absurd (cc)
get_map [] (suc i) c e = absurd (cc)
get_map (d ∷ cuts) zero c e = ap seen_cut e
get_map (d ∷ cuts) (suc i) c e = get_map cuts i c e

abbrev with_places : ℕ → List Fact → ℕ → ℕ → Option accepted.Cut
with_places k fs p q = Some (record { rank = k; first = p; second = q; facts = fs })

-- a cut among the others
pub cut_there : (cuts : List Cut) (i : ℕ) (c : Cut) (p q : ℕ) → slice_get cuts i ≡ Some c → c.first ≡ p → c.second ≡ q
    → IsCut (map cut_of cuts) c.rank p q (map fact_of c.facts.items)
cut_there cuts i c p q e f g = (
  i,
  get_map cuts i c e ∙ ap (λ (x : ℕ). with_places c.rank (map fact_of c.facts.items) x c.second) f
      ∙ ap (λ (x : ℕ). with_places c.rank (map fact_of c.facts.items) p x) g,
)

module _ (At : ℕ → ℕ → ℕ → List Fact → Type 0) (cs ds : List CodeItem) where
  pub arrival_is : (k : ℕ) (moved others_moved : Bool) (p q near : ℕ) (fs : List Fact) (s t : TermState) → At near p q fs
      → ((moved ≡ true) × (others_moved ≡ true)) ⊎ (near < k) → SameControl s t → AllHold fs s t
      → SameArrival (List Fact) AreSo At cs ds k moved others_moved p q s t
  arrival_is k moved others_moved p q near fs s t at lower same holds = record {
    nearer = near;
    relation = fs;
    at = at;
    lower = lower;
    long = same.long;
    others_long = same.others_long;
    ap = same.ap;
    fp = same.fp;
    sp = same.sp;
    holds = λ env k l small. facts_are_so s t env k l small fs holds;
  }

  -- nothing is known where a function is entered
  pub enters_by : (cuts : List accepted.Cut) (place other : ℕ) (us vs : List ℕ) → BothEnter cuts cs ds place other → Enters (List Fact) AreSo (IsCut cuts) cs ds place other us vs
  enters_by cuts place other us vs h = record {
    mask = h.mask;
    into = λ mask e. (h.rank, ([], (h.into, λ s t f g. tt)));
  }

  pub entered_by : (cuts : List accepted.Cut) (a b p q m n near : ℕ) (fs : List Fact) → IsEntry cs a p m → IsEntry ds b q n → m ≡ n
      → IsCut cuts near p q fs → fs ≡ [] → BothEnter cuts cs ds a b
  entered_by cuts a b p q m n near fs mine others same cut none = record {
    mask = others.1 ∙ ap (λ (x : ℕ). Some x) (sym same) ∙ sym mine.1;
    rank = near;
    into = subst (λ (x : ℕ). IsCut cuts near x (next_item ds b + 1) []) mine.0
        (subst (λ (x : ℕ). IsCut cuts near p x []) others.0 (subst (λ (x : List Fact). IsCut cuts near p q x) none cut));
  }

  pub call_is : (cuts : List accepted.Cut) (name : List ℕ) (p q near : ℕ) (fs : List Fact) (s t : TermState)
      → BothEnter cuts cs ds (label_place cs name) (label_place ds name) → IsCut cuts near p q fs → SameControl s t → AllLast fs s t
      → SameCall (List Fact) AreSo (IsCut cuts) cs ds name p q s t
  call_is cuts name p q near fs s t into at same last = record {
    long = same.long;
    others_long = same.others_long;
    ap = same.ap;
    fp = same.fp;
    sp = same.sp;
    enters = λ env small. enters_by cuts (label_place cs name) (label_place ds name) (valued_registers env s) (valued_registers env t) into;
    nearer = near;
    relation = fs;
    at = at;
    later = λ env small. later_is (IsCut cuts) s t env small fs last;
  }

  pub return_is : (s t : TermState) → SameControl s t → Agree (term_at t 0) (term_at s 0) → SameReturn (List Fact) AreSo At cs ds s t
  return_is s t same result = record {
    long = same.long;
    others_long = same.others_long;
    ap = same.ap;
    fp = same.fp;
    sp = same.sp;
    result = result;
  }
