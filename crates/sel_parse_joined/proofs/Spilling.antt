-- A register that is due is the same by both definitions.
use Rattle.std.proofs.Common.{◌≡◌, ℕ, suc, ◌+◌, ◌-◌, ◌<◌, ◌≤◌, ◌==◌, List, [], ◌∷◌, ◌++◌, length, map, slice_get, Option, Some, None, Bool, true, false, refl, sym, ap, ◌∙◌, subst, arith}
use Rattle.std.specs.Prelude.{max, reverse, slice_set, option_map, option_to_list, is_some, not, ◌&&◌, ◌||◌, if◌then◌else◌}
use Rattle.std.specs.List.{AllByRecursion as All, list_any}
use Rattle.std.specs.Int.{bit_at}
use Rattle.std.proofs.lemmas.List.{length-map}
use Rattle.std.proofs.lemmas.List.Folds.{list_any-append}
use Rattle.std.proofs.lemmas.Option.{none-some, same_Some, slice_get-map}
use Rattle.std.proofs.ByRecursion.{All-push}
use Rattle.gg_base.proofs.Facts.{all_get}
use Rattle.tree_core.specs.declared.program.TreeProgram.{TreeProgram}
use Rattle.md_reader.specs.State.{Content}
use Rattle.sel_target.specs.declared.attr.Attr.{Attr}
use Rattle.sel_target.specs.declared.attr.Attr.TheVariants as attr
use Rattle.sel_target.specs.Meaning.{Meaning, RegAt, WordAt, is_word}
use Rattle.sel_target.specs.Laws.{IsLawful}
use Rattle.sel_target.specs.Instances.{attr_touches}
use Rattle.sel_target.specs.SavingLaws.{saving}
use Rattle.sel_target.specs.Symbols.{behind_one, first_that, saving_line, is_register}
use Rattle.sel_parse_slots.specs.sel_parse_selected.specs.Entries as selected_entries
use Rattle.sel_parse_slots.specs.sel_parse_selected.specs.Desk as selected_desks
use Rattle.sel_parse_slots.specs.sel_parse_selected.specs.Spills as selected_spills
use Rattle.sel_parse_slots.specs.sel_parse_desk.specs.Entries as computed_entries
use Rattle.sel_parse_slots.specs.sel_parse_desk.specs.Desk as computed_desks
use Rattle.sel_parse_slots.specs.sel_parse_desk.specs.Spills as computed_spills
use Rattle.sel_parse_joined.proofs.Turning.{turned_get, turned_set, any_turned, map_turned, map_set, map_any, map_first}
use Rattle.sel_parse_joined.proofs.Turning.{attributes_any, counted_back, last_turned, last_in, lowest_same}
use Rattle.sel_parse_joined.proofs.Holding.{entry, Agrees, AllAgree}
use mathlib.Core.Bool.{or-false}

-- ---- outcomes

abbrev pub outcome : {X Y : Type 0} → (X → Y) → selected_desks.Outcome X → computed_desks.Outcome Y
outcome f selected_desks.Full = computed_desks.Full
outcome f selected_desks.Stuck = computed_desks.Stuck
outcome f (selected_desks.Done x) = computed_desks.Done (f x)

-- what is true of what is done
abbrev pub If : {X : Type 0} → (X → Type 0) → selected_desks.Outcome X → Type 0
If P selected_desks.Full = Unit {0}
If P selected_desks.Stuck = Unit {0}
If P (selected_desks.Done x) = P x

pub bind_same : {X Y X' Y' : Type 0} (f : X → X') (g : Y → Y') (o : selected_desks.Outcome X) (o' : computed_desks.Outcome X') (go : X → selected_desks.Outcome Y)
    (go' : X' → computed_desks.Outcome Y')
    → o' ≡ outcome f o → If (λ x. go' (f x) ≡ outcome g (go x)) o → computed_desks.bind o' go' ≡ outcome g (selected_desks.bind o go)
bind_same f g selected_desks.Full o' go go' e h = ap (λ p. computed_desks.bind p go') e
bind_same f g selected_desks.Stuck o' go go' e h = ap (λ p. computed_desks.bind p go') e
bind_same f g (selected_desks.Done x) o' go go' e h = ap (λ p. computed_desks.bind p go') e ∙ h

pub if_bind : {X Y : Type 0} (P : X → Type 0) (Q : Y → Type 0) (o : selected_desks.Outcome X) (go : X → selected_desks.Outcome Y) → If P o → ((x : X) → P x → If Q (go x))
    → If Q (selected_desks.bind o go)
if_bind P Q selected_desks.Full go h k = tt
if_bind P Q selected_desks.Stuck go h k = tt
if_bind P Q (selected_desks.Done x) go h k = k x h

module _ {O I S F : Type 0} (of : Meaning O I S F) (law : IsLawful of) (q : TreeProgram) (d : Content) (first : ℕ) where
  abbrev AreHeld : List (selected_entries.Entry O) → Type 0
  AreHeld es = AllAgree of law q d first es

  -- the words that were let go
  abbrev pub let_go : List (selected_entries.Entry O) → List ℕ
  let_go [] = []
  let_go (e ∷ es) = option_to_list (computed_entries.word_of of e.attr) ++ let_go es

  -- the desk as the other definition has it
  abbrev pub desk : selected_desks.Desk O I → computed_desks.Desk O I
  desk x = record { below = reverse (map entry x.below); symbols = map entry x.symbols; late = let_go x.former; code = x.code; most = x.most }

  pub desk_is : (b b' s s' : List (computed_entries.Entry O)) (l l' : List ℕ) (c c' : List I) (m m' : ℕ) → b ≡ b' → s ≡ s' → l ≡ l' → c ≡ c' → m ≡ m'
      → (let x : computed_desks.Desk O I = record { below = b; symbols = s; late = l; code = c; most = m } in x) ≡ record { below = b'; symbols = s'; late = l'; code = c'; most = m' }
  desk_is b b' s s' l l' c c' m m' eb es el ec em = cc

  pub let_go_more : (es : List (selected_entries.Entry O)) (e : selected_entries.Entry O) → let_go (es ++ e ∷ []) ≡ let_go es ++ option_to_list (computed_entries.word_of of e.attr)
  let_go_more [] e = by (computed_entries.word_of of e.attr)
    where
      by : (o : Option ℕ) → option_to_list o ++ [] ≡ option_to_list o
      by None = refl
      by (Some w) = refl
  let_go_more (x ∷ es) e = ap (λ l. option_to_list (computed_entries.word_of of x.attr) ++ l) (let_go_more es e) ∙ by (computed_entries.word_of of x.attr)
    where
      by : (o : Option ℕ) → option_to_list o ++ (let_go es ++ option_to_list (computed_entries.word_of of e.attr)) ≡
          (option_to_list o ++ let_go es) ++ option_to_list (computed_entries.word_of of e.attr)
      by None = refl
      by (Some w) = refl

  -- ---- what is held

  all_registers : (r : ℕ) → r < 12 → (es : List (selected_entries.Entry O)) → AreHeld es
      → All (λ (e : selected_entries.Entry O). computed_entries.in_register of r e.attr ≡ attr_touches of e.attr (RegAt r)) es
  all_registers r lt [] h = tt
  all_registers r lt (e ∷ es) h = (h.0.register r lt, all_registers r lt es h.1)

  all_words : (w : ℕ) → first ≤ w → (es : List (selected_entries.Entry O)) → AreHeld es
      → All (λ (e : selected_entries.Entry O). computed_entries.in_word of w e.attr ≡ attr_touches of e.attr (WordAt w)) es
  all_words w le [] h = tt
  all_words w le (e ∷ es) h = (h.0.word w le, all_words w le es h.1)

  abbrev attr_of : computed_entries.Entry O → Attr O
  attr_of e = e.attr

  registers_held : (r : ℕ) → r < 12 → (es : List (selected_entries.Entry O)) → AreHeld es
      → computed_desks.register_held of (computed_entries.attrs (map entry es)) r ≡ selected_desks.held of es (RegAt r)
  registers_held r lt es h =
      attributes_any attr_of (computed_entries.in_register of r) (map entry es)
      ∙ map_any entry (λ (e : computed_entries.Entry O). computed_entries.in_register of r e.attr) (λ (e : selected_entries.Entry O). attr_touches of e.attr (RegAt r)) es (all_registers r lt es h)

  registers_turned : (r : ℕ) → r < 12 → (es : List (selected_entries.Entry O)) → AreHeld es
      → computed_desks.register_held of (computed_entries.attrs (reverse (map entry es))) r ≡ selected_desks.held of es (RegAt r)
  registers_turned r lt es h =
      ap (list_any (computed_entries.in_register of r)) (map_turned attr_of (map entry es)) ∙ any_turned (computed_entries.in_register of r) (map attr_of (map entry es))
      ∙ registers_held r lt es h

  words_held : (w : ℕ) → first ≤ w → (es : List (selected_entries.Entry O)) → AreHeld es
      → computed_desks.word_held of (computed_entries.attrs (map entry es)) w ≡ selected_desks.held of es (WordAt w)
  words_held w le es h =
      attributes_any attr_of (computed_entries.in_word of w) (map entry es)
      ∙ map_any entry (λ (e : computed_entries.Entry O). computed_entries.in_word of w e.attr) (λ (e : selected_entries.Entry O). attr_touches of e.attr (WordAt w)) es (all_words w le es h)

  words_turned : (w : ℕ) → first ≤ w → (es : List (selected_entries.Entry O)) → AreHeld es
      → computed_desks.word_held of (computed_entries.attrs (reverse (map entry es))) w ≡ selected_desks.held of es (WordAt w)
  words_turned w le es h =
      ap (list_any (computed_entries.in_word of w)) (map_turned attr_of (map entry es)) ∙ any_turned (computed_entries.in_word of w) (map attr_of (map entry es))
      ∙ words_held w le es h

  words_gone : (w : ℕ) → first ≤ w → (es : List (selected_entries.Entry O)) → AreHeld es → list_any (λ v. v == w) (let_go es) ≡ selected_desks.held of es (WordAt w)
  words_gone w le [] h = refl
  words_gone w le (e ∷ es) h =
      list_any-append (λ v. v == w) (option_to_list (computed_entries.word_of of e.attr)) (let_go es)
      ∙ ap (λ b. b || list_any (λ v. v == w) (let_go es)) (one (computed_entries.word_of of e.attr) ∙ h.0.word w le)
      ∙ ap (λ b. attr_touches of e.attr (WordAt w) || b) (words_gone w le es h.1)
    where
      one : (o : Option ℕ) → list_any (λ v. v == w) (option_to_list o) ≡ is_word o w
      one None = refl
      one (Some k) = or-false (k == w)

  -- ---- what is free

  -- the entries at work agree; so do those that were saved or reloaded
  pub record Fair (x : selected_desks.Desk O I) : Type 0 where
    pub below : AreHeld x.below
    pub symbols : AreHeld x.symbols
    pub former : AreHeld x.former

  register_free : (given : Bool) (x : selected_desks.Desk O I) → Fair x → (r : ℕ) → r < 12
      → computed_desks.is_free_register of d given (desk x) r ≡ selected_desks.is_free_register of d given x r
  register_free given x h r lt =
      ap (λ b. (bit_at d.pool r == 1) && (not b && (given || not (computed_desks.register_held of (computed_entries.attrs (map entry x.symbols)) r)))) (registers_turned r lt x.below h.below)
      ∙ ap (λ b. (bit_at d.pool r == 1) && (not (selected_desks.held of x.below (RegAt r)) && (given || not b))) (registers_held r lt x.symbols h.symbols)

  pub free_register_same : (given : Bool) (x : selected_desks.Desk O I) → Fair x → computed_desks.free_register of d given (desk x) ≡ selected_desks.free_register of d given x
  free_register_same given x h =
      lowest_same (computed_desks.is_free_register of d given (desk x)) (selected_desks.is_free_register of d given x) 0 12 (λ r from below. register_free given x h r below)

  word_free : (x : selected_desks.Desk O I) → Fair x → (w : ℕ) → first ≤ w → computed_desks.is_free_word of (desk x) w ≡ selected_desks.is_free_word of x w
  word_free x h w le =
      ap (λ b. not b && (not (computed_desks.word_held of (computed_entries.attrs (reverse (map entry x.below))) w) && not
      (computed_desks.word_held of (computed_entries.attrs (map entry x.symbols)) w)))
      (words_gone w le x.former h.former)
      ∙ ap (λ b. not (selected_desks.held of x.former (WordAt w)) && (not b && not (computed_desks.word_held of (computed_entries.attrs (map entry x.symbols)) w))) (words_turned w le x.below h.below)
      ∙ ap (λ b. not (selected_desks.held of x.former (WordAt w)) && (not (selected_desks.held of x.below (WordAt w)) && not b)) (words_held w le x.symbols h.symbols)
      ∙ turn (selected_desks.held of x.former (WordAt w)) (selected_desks.held of x.below (WordAt w)) (selected_desks.held of x.symbols (WordAt w))
      ∙ sym (ap not parts)
    where
      turn : (a b c : Bool) → (not a && (not b && not c)) ≡ not (a || (c || b))
      turn true b c = refl
      turn false true true = refl
      turn false true false = refl
      turn false false true = refl
      turn false false false = refl

      parts : selected_desks.held of (x.former ++ (x.symbols ++ x.below)) (WordAt w)
          ≡ (selected_desks.held of x.former (WordAt w) || (selected_desks.held of x.symbols (WordAt w) || selected_desks.held of x.below (WordAt w)))
      parts =
          list_any-append (λ (e : selected_entries.Entry O). attr_touches of e.attr (WordAt w)) x.former (x.symbols ++ x.below)
          ∙ ap (λ b. selected_desks.held of x.former (WordAt w) || b) (list_any-append (λ (e : selected_entries.Entry O). attr_touches of e.attr (WordAt w)) x.symbols x.below)

  free_slot_same : (x : selected_desks.Desk O I) → Fair x → computed_desks.free_slot of first (desk x) ≡ selected_desks.free_slot of first x
  free_slot_same x h = lowest_same (computed_desks.is_free_word of (desk x)) (selected_desks.is_free_word of x) first (1024 - first) (λ w from below. word_free x h w from)

  -- ---- which entry goes

  holds_same : (e : selected_entries.Entry O) → Agrees of law q d first e.attr → computed_spills.holds_some of e.attr ≡ selected_spills.holds_register of e
  holds_same e h =
      ap is_some (lowest_same (λ r. computed_entries.in_register of r e.attr) (λ r. attr_touches of e.attr (RegAt r)) 0 12 (λ r from below. h.register r below))

  goes_same : (e : selected_entries.Entry O) → Agrees of law q d first e.attr → computed_spills.may_go of e.attr ≡ selected_spills.may_go of e
  goes_same e h = ap (λ b. not (is_register e.attr) && b) (holds_same e h)

  all_hold : (es : List (selected_entries.Entry O)) → AreHeld es → All (λ (e : selected_entries.Entry O). computed_spills.holds_some of e.attr ≡ selected_spills.holds_register of e) es
  all_hold [] h = tt
  all_hold (e ∷ es) h = (holds_same e h.0, all_hold es h.1)

  all_go : (es : List (selected_entries.Entry O)) → AreHeld es → All (λ (e : selected_entries.Entry O). computed_spills.may_go of e.attr ≡ selected_spills.may_go of e) es
  all_go [] h = tt
  all_go (e ∷ es) h = (goes_same e h.0, all_go es h.1)

  abbrev attr_in : selected_entries.Entry O → Attr O
  attr_in e = e.attr

  fused : (es : List (selected_entries.Entry O)) → computed_entries.attrs (map entry es) ≡ map attr_in es
  fused [] = refl
  fused (e ∷ es) = ap (λ l. e.attr ∷ l) (fused es)

  symbol_goes : (es : List (selected_entries.Entry O)) → AreHeld es
      → first_that (computed_spills.may_go of) (computed_entries.attrs (map entry es)) ≡ first_that (selected_spills.may_go of) es
  symbol_goes es h = ap (first_that (computed_spills.may_go of)) (fused es) ∙ map_first attr_in (computed_spills.may_go of) (selected_spills.may_go of) es (all_go es h)

  any_last : (p p' : selected_entries.Entry O → Bool) (es : List (selected_entries.Entry O)) → All (λ (e : selected_entries.Entry O). p e ≡ p' e) es
      → selected_spills.last_that p es ≡ selected_spills.last_that p' es
  any_last p p' [] h = refl
  any_last p p' (e ∷ es) h =
      ap (λ o. selected_spills.later_of o (if p e then Some 0 else None)) (any_last p p' es h.1) ∙ ap
      (λ b. selected_spills.later_of (selected_spills.last_that p' es) (if b then Some 0 else None)) h.0

  mapped_first : (p : Attr O → Bool) (es : List (selected_entries.Entry O))
      → first_that p (map attr_in es) ≡ first_that (λ (e : selected_entries.Entry O). p e.attr) es
  mapped_first p [] = refl
  mapped_first p (e ∷ es) = ap (λ o. if p e.attr then Some 0 else behind_one o) (mapped_first p es)

  below_goes : (es : List (selected_entries.Entry O)) → AreHeld es
      → first_that (computed_spills.holds_some of) (computed_entries.attrs (reverse (map entry es))) ≡ counted_back (length es)
      (selected_spills.last_that (selected_spills.holds_register of) es)
  below_goes es h =
      ap (λ l. first_that (computed_spills.holds_some of) (computed_entries.attrs l)) (sym (map_turned entry es))
      ∙ ap (first_that (computed_spills.holds_some of)) (fused (reverse es))
      ∙ mapped_first (computed_spills.holds_some of) (reverse es)
      ∙ last_turned (λ (e : selected_entries.Entry O). computed_spills.holds_some of e.attr) es
      ∙ ap (counted_back (length es)) (any_last (λ (e : selected_entries.Entry O). computed_spills.holds_some of e.attr) (selected_spills.holds_register of) es (all_hold es h))

  -- the place of an entry, where below is turned round
  abbrev place : ℕ → selected_spills.Where → computed_spills.Where
  place n (selected_spills.Below j) = computed_spills.Below (n - suc j)
  place n (selected_spills.Among i) = computed_spills.Among i

  victim_same : (given : Bool) (x : selected_desks.Desk O I) → Fair x → computed_spills.victim of given (desk x) ≡ option_map (place (length x.below)) (selected_spills.victim of given x)
  victim_same given x h =
      ap (λ o. computed_spills.deepest of o (if given then None else first_that (computed_spills.may_go of) (computed_entries.attrs (map entry x.symbols))))
      (below_goes x.below h.below)
      ∙ ap (λ o. computed_spills.deepest of (counted_back (length x.below) (selected_spills.last_that (selected_spills.holds_register of) x.below)) (if given then None else o))
      (symbol_goes x.symbols h.symbols)
      ∙ by (selected_spills.last_that (selected_spills.holds_register of) x.below) (if given then None else first_that (selected_spills.may_go of) x.symbols)
    where
      by : (o o' : Option ℕ) → computed_spills.deepest of (counted_back (length x.below) o) o' ≡ option_map (place (length x.below)) (selected_spills.deepest of o o')
      by (Some j) o' = refl
      by None (Some i) = refl
      by None None = refl

  abbrev IsIn : selected_desks.Desk O I → selected_spills.Where → Type 0
  IsIn x (selected_spills.Below j) = j < length x.below
  IsIn x (selected_spills.Among i) = Unit {0}

  victim_in : (given : Bool) (x : selected_desks.Desk O I) (p : selected_spills.Where) → selected_spills.victim of given x ≡ Some p → IsIn x p
  victim_in given x p e =
      by (selected_spills.last_that (selected_spills.holds_register of) x.below) (if given then None else first_that (selected_spills.may_go of) x.symbols)
      (λ j f. last_in (selected_spills.holds_register of) x.below j f) e
    where
      by : (o o' : Option ℕ) → ((j : ℕ) → o ≡ Some j → j < length x.below) → selected_spills.deepest of o o' ≡ Some p → IsIn x p
      by (Some j) o' h f = subst (IsIn x) (same_Some (selected_spills.Below j) p f) (h j refl)
      by None (Some i) h f = subst (IsIn x) (same_Some (selected_spills.Among i) p f) tt
      by None None h f = absurd (none-some p f)

  -- ---- it goes to a slot

  entry_same : (x : selected_desks.Desk O I) (p : selected_spills.Where) → IsIn x p
      → computed_spills.entry_at of (desk x) (place (length x.below) p) ≡ option_map entry (selected_spills.entry_at of x p)
  entry_same x (selected_spills.Below j) h =
      let n = length-map x.below entry in
      ap (λ k. slice_get (reverse (map entry x.below)) (k - suc j)) (sym n) ∙ turned_get (map entry x.below) j (omega (arith, n, h)) ∙ slice_get-map entry x.below j
  entry_same x (selected_spills.Among i) h = slice_get-map entry x.symbols i

  in_slot_same : (a : Attr O) (w : ℕ) → computed_spills.in_slot of a w ≡ selected_spills.in_slot of a w
  in_slot_same (attr.Reg r) w = refl
  in_slot_same (attr.InSlot u) w = refl
  in_slot_same (attr.Value o) w = refl
  in_slot_same (attr.Place o) w = refl
  in_slot_same (attr.Con n) w = refl
  in_slot_same (attr.Ea o) w = refl
  in_slot_same (attr.Token l) w = refl
  in_slot_same attr.Nothing w = refl

  slot_entry : (e : selected_entries.Entry O) (w : ℕ) → computed_spills.entry_in_slot of (entry e) w ≡ entry (selected_spills.entry_in_slot of e w)
  slot_entry e w = ap (λ (a : Attr O). (let z : computed_entries.Entry O = record { kind = e.kind; attr = a } in z)) (in_slot_same e.attr w)

  below_put : (x : selected_desks.Desk O I) (p : selected_spills.Where) (e : selected_entries.Entry O) → IsIn x p
      → computed_spills.put_below of (reverse (map entry x.below)) (place (length x.below) p) (entry e) ≡ reverse (map entry (selected_spills.put_below of x.below p e))
  below_put x (selected_spills.Below j) e h =
      let n = length-map x.below entry in
      ap (λ k. slice_set (reverse (map entry x.below)) (k - suc j) (entry e)) (sym n) ∙ turned_set (map entry x.below) j (entry e) (omega (arith, n, h))
      ∙ ap reverse (map_set entry x.below j e)
  below_put x (selected_spills.Among i) e h = refl

  among_put : (x : selected_desks.Desk O I) (p : selected_spills.Where) (e : selected_entries.Entry O)
      → computed_spills.put_among of (map entry x.symbols) (place (length x.below) p) (entry e) ≡ map entry (selected_spills.put_among of x.symbols p e)
  among_put x (selected_spills.Below j) e = refl
  among_put x (selected_spills.Among i) e = map_set entry x.symbols i e

  saved_same : (x : selected_desks.Desk O I) (p : selected_spills.Where) (e : selected_entries.Entry O) (w : ℕ) → IsIn x p
      → computed_spills.saved of q d first (desk x) (place (length x.below) p) (entry e) w ≡ desk (selected_spills.saved of q d first x p e w)
  saved_same x p e w h =
      desk_is (computed_spills.put_below of (reverse (map entry x.below)) (place (length x.below) p) (computed_spills.entry_in_slot of (entry e) w))
      (reverse (map entry (selected_spills.put_below of x.below p (selected_spills.entry_in_slot of e w))))
      (computed_spills.put_among of (map entry x.symbols) (place (length x.below) p) (computed_spills.entry_in_slot of (entry e) w))
      (map entry (selected_spills.put_among of x.symbols p (selected_spills.entry_in_slot of e w)))
      (let_go x.former ++ option_to_list (computed_entries.word_of of e.attr)) (let_go (x.former ++ e ∷ [])) (x.code ++ saving of q (saving_line d e.kind) e.attr w)
      (x.code ++ saving of q (saving_line d e.kind) e.attr w) (max x.most (w + 1)) (max x.most (w + 1))
      (ap (computed_spills.put_below of (reverse (map entry x.below)) (place (length x.below) p)) (slot_entry e w) ∙ below_put x p (selected_spills.entry_in_slot of e w) h)
      (ap (computed_spills.put_among of (map entry x.symbols) (place (length x.below) p)) (slot_entry e w) ∙ among_put x p (selected_spills.entry_in_slot of e w))
      (sym (let_go_more x.former e))
      refl refl

  pub spilled_same : (given : Bool) (x : selected_desks.Desk O I) → Fair x
      → computed_spills.spilled of q d first (desk x) (computed_spills.victim of given (desk x)) ≡ outcome desk (selected_spills.spilled of q d first x (selected_spills.victim of given x))
  spilled_same given x h = ap (computed_spills.spilled of q d first (desk x)) (victim_same given x h) ∙ by (selected_spills.victim of given x) refl
    where
      saved_by : (p : selected_spills.Where) → IsIn x p → (o : Option (selected_entries.Entry O)) (s : Option ℕ)
          → computed_spills.saved_in of q d first (desk x) (place (length x.below) p) (option_map entry o) s ≡ outcome desk (selected_spills.saved_in of q d first x p o s)
      saved_by p k None s = refl
      saved_by p k (Some e) None = refl
      saved_by p k (Some e) (Some w) = ap computed_desks.Done (saved_same x p e w k)

      by : (o : Option selected_spills.Where) → selected_spills.victim of given x ≡ o
          → computed_spills.spilled of q d first (desk x) (option_map (place (length x.below)) o) ≡ outcome desk (selected_spills.spilled of q d first x o)
      by None e = refl
      by (Some p) e =
          let k = victim_in given x p e in
          ap (λ z. computed_spills.saved_in of q d first (desk x) (place (length x.below) p) z (computed_desks.free_slot of first (desk x))) (entry_same x p k)
          ∙ ap (computed_spills.saved_in of q d first (desk x) (place (length x.below) p) (option_map entry (selected_spills.entry_at of x p))) (free_slot_same x h)
          ∙ saved_by p k (selected_spills.entry_at of x p) (selected_desks.free_slot of first x)

  -- those that were saved agree
  pub spilled_former : (x : selected_desks.Desk O I) (o : Option selected_spills.Where) → Fair x → If (λ (y : selected_desks.Desk O I). AreHeld y.former) (selected_spills.spilled of q d first x o)
  spilled_former x None h = tt
  spilled_former x (Some p) h = by (selected_spills.entry_at of x p) (selected_desks.free_slot of first x) (at p)
    where
      at : (p : selected_spills.Where) (e : selected_entries.Entry O) → selected_spills.entry_at of x p ≡ Some e → Agrees of law q d first e.attr
      at (selected_spills.Below j) e f = all_get (λ (b : selected_entries.Entry O). Agrees of law q d first b.attr) x.below j e h.below f
      at (selected_spills.Among i) e f = all_get (λ (b : selected_entries.Entry O). Agrees of law q d first b.attr) x.symbols i e h.symbols f

      by : (o : Option (selected_entries.Entry O)) (s : Option ℕ) → ((e : selected_entries.Entry O) → o ≡ Some e → Agrees of law q d first e.attr)
          → If (λ (y : selected_desks.Desk O I). AreHeld y.former) (selected_spills.saved_in of q d first x p o s)
      by None s k = tt
      by (Some e) None k = tt
      by (Some e) (Some w) k = All-push (λ (b : selected_entries.Entry O). Agrees of law q d first b.attr) x.former e h.former (k e refl)

  -- ---- a register is due, with the desk

  abbrev pub taken : ℕ × selected_desks.Desk O I → ℕ × computed_desks.Desk O I
  taken p = (p.0, desk p.1)

  pub due_same : (given : Bool) (x : selected_desks.Desk O I) → Fair x → If Fair (selected_spills.spilled of q d first x (selected_spills.victim of given x))
      → computed_spills.due of q d first given (desk x) ≡ outcome taken (selected_spills.due of q d first given x)
  due_same given x h fair = ap (computed_spills.due_by of q d first given (desk x)) (free_register_same given x h) ∙ by (selected_desks.free_register of d given x)
    where
      with_same : (y : selected_desks.Desk O I) (o : Option ℕ) → computed_spills.with_free of q d first (desk y) o ≡ outcome taken (selected_spills.with_free of q d first y o)
      with_same y None = refl
      with_same y (Some r) = refl

      free : (o : selected_desks.Outcome (selected_desks.Desk O I)) → If Fair o
          → If (λ (y : selected_desks.Desk O I). computed_spills.with_free of q d first (desk y) (computed_desks.free_register of d given (desk y))
          ≡ outcome taken (selected_spills.with_free of q d first y (selected_desks.free_register of d given y))) o
      free selected_desks.Full k = tt
      free selected_desks.Stuck k = tt
      free (selected_desks.Done y) k = ap (computed_spills.with_free of q d first (desk y)) (free_register_same given y k) ∙ with_same y (selected_desks.free_register of d given y)

      by : (o : Option ℕ) → computed_spills.due_by of q d first given (desk x) o ≡ outcome taken (selected_spills.due_by of q d first given x o)
      by (Some r) = refl
      by None =
          bind_same desk taken (selected_spills.spilled of q d first x (selected_spills.victim of given x)) (computed_spills.spilled of q d first (desk x) (computed_spills.victim of given (desk x)))
          (λ y. selected_spills.with_free of q d first y (selected_desks.free_register of d given y)) (λ y. computed_spills.with_free of q d first y (computed_desks.free_register of d given y))
          (spilled_same given x h) (free (selected_spills.spilled of q d first x (selected_spills.victim of given x)) fair)

  -- behind it those that were saved agree
  pub due_former : (given : Bool) (x : selected_desks.Desk O I) → Fair x → If (λ (p : ℕ × selected_desks.Desk O I). AreHeld p.1.former) (selected_spills.due of q d first given x)
  due_former given x h = by (selected_desks.free_register of d given x)
    where
      free : (y : selected_desks.Desk O I) → AreHeld y.former → (o : Option ℕ) → If (λ (p : ℕ × selected_desks.Desk O I). AreHeld p.1.former) (selected_spills.with_free of q d first y o)
      free y k None = tt
      free y k (Some r) = k

      by : (o : Option ℕ) → If (λ (p : ℕ × selected_desks.Desk O I). AreHeld p.1.former) (selected_spills.due_by of q d first given x o)
      by (Some r) = h.former
      by None =
          if_bind (λ (y : selected_desks.Desk O I). AreHeld y.former) (λ (p : ℕ × selected_desks.Desk O I). AreHeld p.1.former)
          (selected_spills.spilled of q d first x (selected_spills.victim of given x))
          (λ y. selected_spills.with_free of q d first y (selected_desks.free_register of d given y)) (spilled_former x (selected_spills.victim of given x) h)
          (λ y k. free y k (selected_desks.free_register of d given y))
