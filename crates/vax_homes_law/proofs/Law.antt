-- Instructions, one after another.
use Rattle.std.proofs.Common.{◌≡◌, ℕ, ◌+◌, ◌*◌, ◌≤◌, true, List, [], ◌∷◌, ◌++◌, length, map, refl, sym, ap, subst, ◌∙◌, arith, length-append}
use Rattle.std.proofs.lemmas.List.{map-append}
use Rattle.vax_confined.specs.vax_core.specs.declared.register.Reg.TheVariants.{Ap, Fp, Sp}
use Rattle.vax_confined.specs.vax_core.specs.declared.code.Instr.{Instr}
use Rattle.vax_confined.specs.vax_machine.specs.declared.turn.Stop.TheVariants as stops
use Rattle.vax_confined.specs.vax_machine.specs.State.{State, reg}
use Rattle.vax_confined.specs.vax_machine_lists.specs.Instructions.{Course, Ending, Comes, Goes, Calls, Returns, Stops, bytes_first, behind, followed}
use Rattle.vax_confined.specs.vax_machine_lists.specs.Instructions as lists
use Rattle.vax_homes.specs.declared.choose.Home.{Home}
use Rattle.vax_homes.specs.Homing.{homed_instr}
use Rattle.vax_confined.specs.Confined as confined
use Rattle.vax_homes_law.specs.Alike.{IsPaired, beside, AreReady, AreLaid, Alike}
use Rattle.vax_homes_law.specs.Claims.{Ends, Follows, HomedCodesFollow}
use Rattle.vax_homes_law.proofs.Acting.{performed_alike}

abbrev no_bytes : List ℕ
no_bytes = []

module _ (hs : List Home) (paired : IsPaired hs) (hidden : ℕ → Type 0) (args low : ℕ) where
  -- what comes behind the first instruction
  abbrev Rest : List Instr → Type 0
  Rest is = (m : State) (rs st : List ℕ) → Alike hs hidden m rs st → AreLaid hs hidden (reg m Fp) (reg m Ap) args low → 2139095040 ≤ reg m Sp
      → reg m Sp + 4 * length (confined.exec is m).written ≤ low → Follows hs hidden m (confined.exec is m) (lists.exec (map (homed_instr hs) is) (beside m rs st))

  -- a course from a state behind some bytes, as one from the state before
  further : (m n : State) (w v : List ℕ) (e : Ending) (other : Course) → reg n Fp ≡ reg m Fp → reg n Ap ≡ reg m Ap → reg n Sp ≤ reg m Sp + 4 * length w
      → Ends hs hidden n v e other → Ends hs hidden m (w ++ v) e (bytes_first w other)
  further m n w v (Comes k) other p q le g = record {
    rs = g.rs;
    st = g.st;
    is = ap (bytes_first w) g.is;
    alike = g.alike;
    fp = g.fp ∙ p;
    ap_same = g.ap_same ∙ q;
    bottom = g.bottom;
    sp = omega (arith, g.sp, le, length-append w v);
  }
  further m n w v (Goes label k) other p q le g = record {
    rs = g.rs;
    st = g.st;
    is = ap (bytes_first w) g.is;
    alike = g.alike;
    fp = g.fp ∙ p;
    ap_same = g.ap_same ∙ q;
    bottom = g.bottom;
    sp = omega (arith, g.sp, le, length-append w v);
  }
  further m n w v (Calls name count k rest) other p q le g = record {
    rs = g.rs;
    st = g.st;
    is = ap (bytes_first w) g.is;
    alike = g.alike;
    fp = g.fp ∙ p;
    ap_same = g.ap_same ∙ q;
    bottom = g.bottom;
    sp = omega (arith, g.sp, le, length-append w v);
  }
  further m n w v (Returns k) other p q le g = record {
    rs = g.rs;
    st = g.st;
    is = ap (bytes_first w) g.is;
    alike = g.alike;
    fp = g.fp ∙ p;
    ap_same = g.ap_same ∙ q;
    bottom = g.bottom;
    sp = omega (arith, g.sp, le, length-append w v);
  }
  further m n w v (Stops (stops.Ended x)) other p q le g = tt
  further m n w v (Stops stops.Trapped) other p q le g = ap (bytes_first w) g
  further m n w v (Stops (stops.Broken k)) other p q le g = tt

  followed_by : (is : List Instr) → Rest is → (m : State) (w : List ℕ) (e : Ending) (other : Course) → AreLaid hs hidden (reg m Fp) (reg m Ap) args low → Ends hs hidden m w e other
      → reg m Sp + 4 * length (w ++ (behind e is (confined.exec is)).written) ≤ low
      → Ends hs hidden m (w ++ (behind e is (confined.exec is)).written) (behind e is (confined.exec is)).ending (followed other (map (homed_instr hs) is) (lists.exec (map (homed_instr hs) is)))
  followed_by is rest m w (Comes n) other laid g f =
      let there = lists.exec (map (homed_instr hs) is) (beside n g.rs g.st) in
      let size = length-append w (confined.exec is n).written in
      subst (λ (c : Course). Ends hs hidden m (w ++ (confined.exec is n).written) (confined.exec is n).ending (followed c (map (homed_instr hs) is) (lists.exec (map (homed_instr hs) is)))) (sym g.is)
      (further m n w (confined.exec is n).written (confined.exec is n).ending there g.fp g.ap_same g.sp
      (rest n g.rs g.st g.alike (subst (λ (x : ℕ). AreLaid hs hidden x (reg n Ap) args low) (sym g.fp) (subst (λ (x : ℕ). AreLaid hs hidden (reg m Fp) x args low) (sym g.ap_same) laid)) g.bottom
      (omega (arith, f, size, g.sp))))
  followed_by is rest m w (Goes label n) other laid g f = record {
    rs = g.rs;
    st = g.st;
    is = ap (λ (c : Course). followed c (map (homed_instr hs) is) (lists.exec (map (homed_instr hs) is))) g.is;
    alike = g.alike;
    fp = g.fp;
    ap_same = g.ap_same;
    bottom = g.bottom;
    sp = omega (arith, g.sp, length-append w no_bytes);
  }
  followed_by is rest m w (Calls name count n more) other laid g f = record {
    rs = g.rs;
    st = g.st;
    is = ap (λ (c : Course). followed c (map (homed_instr hs) is) (lists.exec (map (homed_instr hs) is))) g.is
        ∙ ap (λ (x : List Instr). record { written = w ++ []; ending = Calls name count (beside n g.rs g.st) x }) (sym (map-append (homed_instr hs) more is));
    alike = g.alike;
    fp = g.fp;
    ap_same = g.ap_same;
    bottom = g.bottom;
    sp = omega (arith, g.sp, length-append w no_bytes);
  }
  followed_by is rest m w (Returns n) other laid g f = record {
    rs = g.rs;
    st = g.st;
    is = ap (λ (c : Course). followed c (map (homed_instr hs) is) (lists.exec (map (homed_instr hs) is))) g.is;
    alike = g.alike;
    fp = g.fp;
    ap_same = g.ap_same;
    bottom = g.bottom;
    sp = omega (arith, g.sp, length-append w no_bytes);
  }
  followed_by is rest m w (Stops (stops.Ended x)) other laid g f = tt
  followed_by is rest m w (Stops stops.Trapped) other laid g f = ap (λ (c : Course). followed c (map (homed_instr hs) is) (lists.exec (map (homed_instr hs) is))) g
  followed_by is rest m w (Stops (stops.Broken k)) other laid g f = tt

  pub instructions_follow : (is : List Instr) → AreReady hs args is → Rest is
  instructions_follow [] ready m rs st h laid bottom f = record { rs = rs; st = st; is = refl; alike = h; fp = refl; ap_same = refl; bottom = bottom; sp = omega arith }
  instructions_follow (i ∷ is) ready m rs st h laid bottom f =
      let first = confined.performed i m in
      followed_by is (instructions_follow is ready.1) m first.written first.ending (lists.performed (homed_instr hs i) (beside m rs st)) laid
      (performed_alike hs paired hidden args low m rs st h laid bottom i ready.0 (omega (arith, f, length-append first.written (behind first.ending is (confined.exec is)).written))) f

pub homed_codes_follow : HomedCodesFollow
homed_codes_follow hs hidden args low is m rs st paired ready h laid bottom f = instructions_follow hs paired (λ i. hidden i ≡ true) args low is ready m rs st h laid bottom f
