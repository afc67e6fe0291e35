-- The end of a text: its objects, with those of the second stack where a function has memory locals.
use Rattle.std.proofs.Common.{◌≡◌, ◌≢◌, ◌⊎◌, ℕ, zero, suc, ◌^◌, ◌+◌, ◌%◌, ◌<◌, ◌≤◌, Bool, true, false, List, [], ◌∷◌, ◌++◌, length, Some, Ok, inl, inr, refl, sym, subst, ◌∙◌, arith}
use Rattle.std.proofs.lemmas.Bool.Decides.{nat_tests}
use Rattle.std.proofs.lemmas.Fmt.{decimal_by_steps}
use Rattle.std.specs.Fmt.{decimal}
use Rattle.std.specs.Prelude.{codes, nat_lt, ◌||◌, slice_get}
use Rattle.gg_base.proofs.Facts.{tail_same, head_same}
use Rattle.c_typed_scope.specs.Layout.{Area}
use Rattle.c_program.specs.Programs.{ARoutine}
use Rattle.c_sound_bodies.specs.c_typed_definition.specs.State.{State}
use Rattle.c_sound_bodies.specs.c_typed_definition.specs.Texts.{any_block, stacked_if}
use Rattle.c_sound_texts.proofs.Areas.{Lays, lays_same}
use Rattle.c_sound_texts.proofs.Labels.{Each, Differ, each_weaker, each_joined, differ_joined, labels, OfStatic, OfLiteral, HasFew}
use Rattle.c_sound_texts.proofs.Named.{IsLabel, Numbered, Variable, IsNamed}
use Rattle.c_sound_texts.proofs.Stack.{Stacked, stack_is}

-- the labels of the stack's objects
abbrev pub IsStackLabel : List ℕ → Type 0
IsStackLabel x = (x ≡ codes "T_sp") ⊎ (x ≡ codes "T_area")

-- the label of an object of the whole text
pub data IsLabelled (s : State) (label : List ℕ) : Type 0 where
  Plain : (plain : IsLabel s label) → IsLabelled s label
  OfStack : (stack : IsStackLabel label) → IsLabelled s label

-- the decimal digits of a number begin with a digit
abbrev Begins : List ℕ → Type 0
Begins [] = Unit {0}
Begins (d ∷ ds) = d < 58

begins_further : (n : ℕ) (ds : List ℕ) → Begins ds → Begins (ds ++ (48 + n % 10) ∷ [])
begins_further n [] h = omega arith
begins_further n (d ∷ ds) h = h

decimal_begins : (n : ℕ) → n < 2 ^ 64 → Begins (decimal n)
decimal_begins = decimal_by_steps (λ m ds. Begins ds) (λ m l. omega arith) (λ m ds l h. begins_further m ds h)

no_digit : (k : ℕ) (ds : List ℕ) → k < 2 ^ 32 → decimal k ≡ 95 ∷ ds → ⊥
no_digit k ds small e = let first : 95 < 58 = subst Begins e (decimal_begins k (omega arith)) in omega arith

static_apart : (k : ℕ) (x y : List ℕ) → k < 2 ^ 32 → x ≡ 84 ∷ decimal k → IsStackLabel y → x ≢ y
static_apart k x y small is (inl q) e = no_digit k (115 ∷ 112 ∷ []) small (tail_same 84 84 (decimal k) (95 ∷ 115 ∷ 112 ∷ []) (sym is ∙ (e ∙ q)))
static_apart k x y small is (inr q) e =
    no_digit k (97 ∷ 114 ∷ 101 ∷ 97 ∷ []) small (tail_same 84 84 (decimal k) (95 ∷ 97 ∷ 114 ∷ 101 ∷ 97 ∷ []) (sym is ∙ (e ∙ q)))

-- what begins otherwise
other_apart : (c : ℕ) (cs x y : List ℕ) → c ≢ 84 → x ≡ c ∷ cs → IsStackLabel y → x ≢ y
other_apart c cs x y other is (inl q) e = other (head_same c 84 cs (95 ∷ 115 ∷ 112 ∷ []) (sym is ∙ (e ∙ q)))
other_apart c cs x y other is (inr q) e = other (head_same c 84 cs (95 ∷ 97 ∷ 114 ∷ 101 ∷ 97 ∷ []) (sym is ∙ (e ∙ q)))

stack_apart : (s : State) → HasFew s.area → (x y : List ℕ) → IsLabel s x → IsStackLabel y → x ≢ y
stack_apart s few x y (Numbered (OfStatic k least below is)) h =
    let small : s.area.statics < 2 ^ 32 = few.statics in static_apart k x y (omega arith) is h
stack_apart s few x y (Numbered (OfLiteral k least below is)) h = other_apart 83 (decimal k) x y (λ e. omega arith) is h
stack_apart s few x y (Variable n e is_name found variable is) h = other_apart 95 n x y (λ e. omega arith) is h

two_apart : codes "T_sp" ≢ codes "T_area"
two_apart e =
    let inner = tail_same 84 84 (95 ∷ 115 ∷ 112 ∷ []) (95 ∷ 97 ∷ 114 ∷ 101 ∷ 97 ∷ []) e in
    let third = tail_same 95 95 (115 ∷ 112 ∷ []) (97 ∷ 114 ∷ 101 ∷ 97 ∷ []) inner in
    let same = head_same 115 97 (112 ∷ []) (114 ∷ 101 ∷ 97 ∷ []) third in
    omega arith

-- no function has memory locals
none_by : (test rest : Bool) (n : ℕ) → test ≡ nat_lt 0 n → (test || rest) ≡ false → (n ≡ 0) × (rest ≡ false)
none_by true rest n is e = absurd (cc)
none_by false rest n is e = (grind (arith, nat_tests), e)

no_block : (bodies : List ARoutine) (i : ℕ) (g : ARoutine) → any_block bodies ≡ false → slice_get bodies i ≡ Some g → g.block ≡ 0
no_block [] i g none here = absurd (cc)
no_block (b ∷ bodies) zero g none here =
    let same : g ≡ b = cc in
    rw same ((none_by (nat_lt 0 b.block) (any_block bodies) b.block refl none).0)
no_block (b ∷ bodies) (suc i) g none here =
    no_block bodies i g (none_by (nat_lt 0 b.block) (any_block bodies) b.block refl none).1 here

-- the objects of a whole text
pub record Finished (s : State) (bodies : List ARoutine) (a : Area) : Type 0 where
  pub lays : Lays s.area a
  pub each : Each (IsLabelled s) (labels a.objects)
  pub differ : HasFew s.area → Differ (labels a.objects)
  pub stacked : (i : ℕ) (g : ARoutine) → slice_get bodies i ≡ Some g → 1 ≤ g.block → 2 ≤ length a.objects

plain_labels : (s : State) (bodies : List ARoutine) → IsNamed s bodies → Each (IsLabelled s) (labels s.area.objects)
plain_labels s bodies h = each_weaker (IsLabel s) (IsLabelled s) (λ x p. Plain p) (labels s.area.objects) h.each

stack_finished : (s : State) (bodies : List ARoutine) (a : Area) → IsNamed s bodies → Stacked s.area a → Finished s bodies a
stack_finished s bodies a h k =
    record {
      lays = k.lays;
      each = subst (Each (IsLabelled s)) (sym k.labels)
          (each_joined (IsLabelled s) (labels s.area.objects) (codes "T_sp" ∷ codes "T_area" ∷ []) (plain_labels s bodies h)
          (OfStack (inl refl), (OfStack (inr refl), tt)));
      differ = λ few. subst Differ (sym k.labels)
          (differ_joined (IsLabel s) IsStackLabel (stack_apart s few) (labels s.area.objects) (codes "T_sp" ∷ codes "T_area" ∷ []) h.each
          (inl refl, (inr refl, tt)) (h.differ few) ((two_apart, tt), (tt, tt)));
      stacked = λ i g here some. let many : length a.objects ≡ length s.area.objects + 2 = k.two in omega arith;
    }

finished_by : (test : Bool) (at : ℕ) (s : State) (bodies : List ARoutine) (a : Area) → test ≡ any_block bodies → IsNamed s bodies →
    stacked_if test at s.area ≡ Ok a → Finished s bodies a
finished_by true at s bodies a is h e = stack_finished s bodies a h (stack_is at s.area a e)
finished_by false at s bodies a is h e =
    let same : a ≡ s.area = cc in
    rw same (record {
      lays = lays_same s.area;
      each = plain_labels s bodies h;
      differ = h.differ;
      stacked = λ i g here some. let none = no_block bodies i g (sym is) here in absurd (omega arith);
    })

pub finished : (at : ℕ) (s : State) (bodies : List ARoutine) (a : Area) → IsNamed s bodies → stacked_if (any_block bodies) at s.area ≡ Ok a →
    Finished s bodies a
finished at s bodies a h e = finished_by (any_block bodies) at s bodies a refl h e
