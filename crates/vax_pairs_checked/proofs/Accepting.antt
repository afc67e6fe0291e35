-- Codes that are accepted as a pair behave alike.
use Rattle.std.proofs.Common.{◌≡◌, ℕ, zero, suc, ◌+◌, ◌<◌, ◌≤◌, Bool, true, false, cond, List, [], ◌∷◌, ◌++◌, map, Result, Ok, subst, arith}
use Rattle.std.specs.Prelude.{◌^◌, ◌==◌}
use Rattle.vax_pairs.specs.term_core.specs.Shape.{Shape, Constant, Symbol}
use Rattle.vax_pairs.specs.vax_core.specs.declared.code.Code.{Code}
use Rattle.vax_pairs.specs.vax_core.specs.Valid.{is_code}
use Rattle.vax_pairs.specs.vax_machine.specs.declared.turn.Stop.{Stop}
use Rattle.vax_pairs.specs.vax_machine.specs.State.{State}
use Rattle.vax_pairs.specs.vax_machine.specs.Memory.{read, written}
use Rattle.vax_pairs.specs.vax_machine.specs.Running.{run}
use Rattle.vax_pairs.specs.vax_machine.specs.Loading.{Loads}
use Rattle.vax_pairs.specs.vax_machine_lists.specs.Sound.{AllBelow, IsRunning}
use Rattle.vax_pairs.specs.vax_machine_lists.proofs.Soundness.{After, Small, read_small, written_running}
use Rattle.vax_pairs_law.specs.vax_alike.specs.Alike.{AlikeRuns}
use Rattle.vax_pairs.specs.Events.{next_byte, bytes_behind}
use Rattle.vax_pairs.specs.Scopes.{Under, AllUnder, Scoped}
use Rattle.vax_pairs.specs.Shown.{Reading, Shown, Certified}
use Rattle.vax_pairs.specs.Facts.{Fact, Equal, First, Second, AreSo, first_term, second_term, first_begins, second_begins}
use Rattle.vax_pairs_checked.specs.Accepted.{Cut, AreNamed, IsCut, is_first, is_second, IsShown, AreAccepted}
use Rattle.vax_pairs_checked.specs.Masks.{InFunction}
use Rattle.vax_pairs_checked.specs.Laws.{AcceptedCodesAreAlike}
use Rattle.vax_pairs_checked.proofs.Masking.{kept_masks}
use Rattle.vax_pairs_checked.proofs.Knowing.{IsReady, functions_invariant, functions_know}
use Rattle.vax_pairs_checked.proofs.Facts.{facts_begin}
use Rattle.vax_pairs_checked.proofs.Certifying.{certified_runs_are_alike}

-- ---- what a machine that goes on reads is a longword

small_of : (r : Result ℕ Stop) (v : ℕ) → Small r → r ≡ Ok v → v < 2 ^ 32
small_of r v h e = subst Small e h

after_of : (r : Result State Stop) (n : State) → After r → r ≡ Ok n → IsRunning n
after_of r n h e = subst After e h

-- a byte of the input, or -1, is a longword
next_small : (bytes : List ℕ) → AllBelow 256 bytes → next_byte bytes < 2 ^ 32
next_small [] h = omega arith
next_small (b ∷ bytes) h = (let lt = h.0 in omega (arith, lt))

behind_bytes : (bytes : List ℕ) → AllBelow 256 bytes → AllBelow 256 (bytes_behind bytes)
behind_bytes [] h = tt
behind_bytes (b ∷ bytes) h = h.1

got_running : (m : State) → IsRunning m → IsRunning (record m { input = bytes_behind m.input })
got_running m h =
    let s = h.sound in record {
      sound = record {
        going = s.going;
        registers = s.registers;
        longwords = s.longwords;
        stack = s.stack;
        stack_bytes = s.stack_bytes;
        area = s.area;
        area_bytes = s.area_bytes;
        input_bytes = behind_bytes m.input s.input_bytes;
      };
      saved = h.saved;
      valid = h.valid;
    }

running_reads : Reading IsRunning
running_reads = record {
  reads = λ m h a s v e. small_of (read m a s) v (read_small m a s h) e;
  writes = λ m h a s v n e. after_of (written m a s v) n (written_running m a s v h) e;
  gets = λ m h. next_small m.input h.sound.input_bytes;
  got = λ m h. got_running m h;
}

-- ---- the symbols of the states with which pieces begin

under_by : (n : ℕ) (b : Bool) (s t : Shape) → Under n s → Under n t → Under n (cond b s t)
under_by n true s t h g = h
under_by n false s t h g = g

first_under : (fs : List Fact) (r : ℕ) → r < 30 → Under 30 (first_term fs r)
first_under [] r lt = lt
first_under (First q v ∷ fs) r lt = under_by 30 (q == r) (Constant v) (first_term fs r) tt (first_under fs r lt)
first_under (Equal q p ∷ fs) r lt = first_under fs r lt
first_under (Second q v ∷ fs) r lt = first_under fs r lt

second_under : (fs : List Fact) → AreNamed fs → (r : ℕ) → r < 15 → Under 30 (second_term fs r)
second_under [] h r lt = omega (arith, lt)
second_under (First q v ∷ fs) h r lt = second_under fs h.1 r lt
second_under (Equal q p ∷ fs) h r lt =
    under_by 30 (q == r) (Symbol p) (second_term fs r) (let low = h.0.1 in omega (arith, low)) (second_under fs h.1 r lt)
second_under (Second q v ∷ fs) h r lt = under_by 30 (q == r) (Constant v) (second_term fs r) tt (second_under fs h.1 r lt)

-- the numbers from r on
abbrev numbers : (k r : ℕ) → List ℕ
numbers zero r = []
numbers (suc k) r = r ∷ numbers k (r + 1)

all_under : (n : ℕ) (t : ℕ → Shape) (ts : List Shape) → AllUnder n ts → ((r : ℕ) → r < 12 → Under n (t r)) → (k r : ℕ) → r + k ≤ 12
    → AllUnder n (map t (numbers k r) ++ ts)
all_under n t ts h u zero r le = h
all_under n t ts h u (suc k) r le = (u r (omega (arith, le)), all_under n t ts h u k (r + 1) (omega (arith, le)))

last_three : List Shape
last_three = Symbol 12 ∷ (Symbol 13 ∷ (Symbol 14 ∷ []))

three_under : AllUnder 30 last_three
unfolding last_three
three_under = (omega arith, (omega arith, (omega arith, tt)))

first_scoped : (fs : List Fact) → Scoped 30 (first_begins fs)
unfolding last_three
first_scoped fs = record {
  registers = all_under 30 (first_term fs) last_three three_under (λ r lt. first_under fs r (omega (arith, lt))) 12 0 (omega arith);
  signs = tt;
  carry = tt;
}

second_scoped : (fs : List Fact) → AreNamed fs → Scoped 30 (second_begins fs)
unfolding last_three
second_scoped fs h = record {
  registers = all_under 30 (second_term fs) last_three three_under (λ r lt. second_under fs h r (omega (arith, lt))) 12 0 (omega arith);
  signs = tt;
  carry = tt;
}

-- ---- the certificate

module _ (cuts : List Cut) (c d : Code) (valid : is_code c ≡ true) (others_valid : is_code d ≡ true) (loads : Loads c) (others_load : Loads d) (accepted : AreAccepted cuts c d) where
  shown_by : (cut : Cut) → IsShown cuts c d cut → Shown (List Fact) AreSo (IsCut cuts) c d (is_first cuts) (is_second cuts) cut.rank cut.first cut.second cut.facts
  shown_by cut h = record {
    first = first_begins cut.facts;
    second = second_begins cut.facts;
    scoped = first_scoped cut.facts;
    others_scoped = second_scoped cut.facts h.named;
    stands = λ m n s. facts_begin cut.facts m n s.even.long s.even.others_long s.even.bare s.holds;
    fuel = h.fuel;
    tree = h.tree;
    others_tree = h.others_tree;
    runs = h.runs;
    others_run = h.others_run;
    same = h.same;
  }

  certified : Certified (List Fact) AreSo (IsCut cuts) (IsReady (InFunction c.items) c) (IsReady (InFunction d.items) d) IsRunning (is_first cuts) (is_second cuts) c d
  certified = record {
    area = accepted.area;
    invariant = functions_invariant (InFunction c.items) c (kept_masks c.items accepted.masks) valid loads;
    others_invariant = functions_invariant (InFunction d.items) d (kept_masks d.items accepted.others_masks) others_valid others_load;
    knows = functions_know (InFunction c.items) c (kept_masks c.items accepted.masks) valid loads;
    others_know = functions_know (InFunction d.items) d (kept_masks d.items accepted.others_masks) others_valid others_load;
    reading = running_reads;
    main = accepted.main;
    shown = λ k p q fs at. shown_by (record { rank = k; first = p; second = q; facts = fs }) (accepted.shown at.0 _ at.1);
  }

  runs_alike : (input : List ℕ) → AllBelow 256 input → AlikeRuns (run c input) (run d input)
  runs_alike input bytes =
      certified_runs_are_alike (List Fact) AreSo (IsCut cuts) (IsReady (InFunction c.items) c) (IsReady (InFunction d.items) d) IsRunning (is_first cuts) (is_second cuts) c d certified input bytes

pub accepted_codes_are_alike : AcceptedCodesAreAlike
accepted_codes_are_alike cuts c d valid others_valid shown = record {
  loads = λ h. (shown h).0;
  runs = λ h input bytes. runs_alike cuts c d valid others_valid h (shown h).0 (shown h).1 input bytes;
}
