-- What a reduction gives is fine, and holds no more than it may.
use Rattle.std.proofs.Common.{◌≡◌, ℕ, zero, suc, ◌+◌, ◌-◌, ◌^◌, ◌<◌, ◌≤◌, List, [], ◌∷◌, length, Option, Some, None, true, false, refl, sym, ap, ◌∙◌, subst}
use Rattle.std.proofs.Common.{arith, slice_get}
use Rattle.std.specs.Prelude.{Ok, option_map}
use Rattle.std.specs.List.{AllByRecursion as All, list_any}
use Rattle.std.proofs.lemmas.Option.{same_Some, none-some}
use Rattle.gg_base.specs.declared.size.Size.TheVariants.{Byte, Word, Long}
use Rattle.tree_core.specs.declared.token.Tok.{Tok}
use Rattle.tree_core.specs.declared.token.Sort.{Sort}
use Rattle.tree_core.specs.declared.token.Sort.TheVariants as sort
use Rattle.tree_core.specs.declared.tree.Att.{Att}
use Rattle.tree_core.specs.declared.program.TreeProgram.{TreeProgram}
use Rattle.tree_core.specs.Attributes.{attribute_of, is_of_kind}
use Rattle.tree_core.specs.Grammar.{fits}
use Rattle.tree_core.specs.Trees.{sort_fits}
use Rattle.tree_core.proofs.Sorts.{fits_stmt}
use Rattle.sel_parse_effect.specs.tree_meaning_tame.proofs.Strict.{NoStmt, kids_no_stmt}
use Rattle.md_reader_pieces.specs.declared.piece.Line.{Line}
use Rattle.md_reader.specs.declared.types.Kind.{Kind}
use Rattle.md_reader.specs.declared.types.Kind.TheVariants as kind
use Rattle.md_reader.specs.declared.types.Class.{Class}
use Rattle.md_reader.specs.declared.types.Give.{Give}
use Rattle.md_reader.specs.declared.types.Give.TheVariants as give
use Rattle.md_reader.specs.declared.types.Rule.{Rule}
use Rattle.md_reader.specs.declared.types.Sym.{Sym}
use Rattle.md_reader.specs.declared.types.Sym.TheVariants as grammar_symbol
use Rattle.md_reader.specs.Patterns.{kind_at, sort_of_kind, kids_of, Trees, no_tree, node, onto, sorted_test}
use Rattle.md_reader.specs.Rows.{shape_fits}
use Rattle.md_reader.specs.State.{Content}
use Rattle.md_reader.specs.Valid.{IsRule, MayGive}
use Rattle.sel_target.specs.sel_terms.specs.Effects.{EffectShape}
use Rattle.sel_target.specs.declared.attr.Attr.{Attr}
use Rattle.sel_target.specs.declared.attr.Attr.TheVariants as attr
use Rattle.sel_target.specs.Meaning.{Meaning, Spot, RegAt, WordAt, touches}
use Rattle.sel_target.specs.Laws.{IsLawful}
use Rattle.sel_target.specs.Instances.{hole, attr_touches, KindFits, SymFits, Fit}
use Rattle.sel_parse_effect.specs.sel_parse_selected.specs.Entries.{Entry, attrs}
use Rattle.sel_parse_effect.specs.sel_parse_selected.specs.Desk.{Stack, Desk, desk_of}
use Rattle.sel_parse_effect.specs.sel_parse_selected.specs.Spills.{due}
use Rattle.sel_parse_effect.specs.sel_parse_selected.specs.Reductions.{own_register, own_number, shaped, finished, with_result, with_scratch, given_by, reloaded, reduced}
use Rattle.sel_parse_effect.specs.sel_parse_selected.proofs.Restricting.{Restricted, still_restricted, reloaded_asked}
use Rattle.sel_parse_effect.specs.sel_parse_stands.proofs.Loaded.{IsLoaded, AllLoaded, all_loaded}
use Rattle.sel_parse_effect.proofs.Reducing.{reg_is, nothing_is}
use Rattle.sel_parse_effect.proofs.Shapes.{one_hole, reg_symbol, con_symbol, IsNumeric, const_number}
use Rattle.sel_parse_effect.proofs.Shapes as shapes
use Rattle.sel_target.specs.Spelled.{IsSpelled, TokenIsSpelled, AreSpelled}
use Rattle.sel_target.specs.Symbols.{first_hole}
use Rattle.sel_parse_slots.specs.Claims.{IsOwn}
use Rattle.sel_parse_slots.proofs.Counts.{count, count_less, count_any, total, tick_implied}
use Rattle.sel_parse_slots.proofs.Fine as fine
use Rattle.sel_parse_slots.proofs.Fine.{registers, words, charge, IsFine, register_one}
use Rattle.sel_parse_slots.proofs.Counting.{Good, good_bind, good_more, sum, charge_of, AllFine, Within, within_total, weights, Counted, IsDue, due_good, reloaded_good, fine_length}

-- ---- no class of statements stands in a right side

abbrev pub IsNoStatement : List Class → Sym → Type 0
IsNoStatement classes (grammar_symbol.Tok t) = Unit {0}
IsNoStatement classes (grammar_symbol.Class c) = kind_at classes c ≡ Some kind.Nothing → ⊥

no_statement : (classes : List Class) (s : Sym) (x : Sort) → sorted_test classes s x ≡ true → (x ≡ sort.Stmt → ⊥) → IsNoStatement classes s
no_statement classes (grammar_symbol.Tok t) x e apart = tt
no_statement classes (grammar_symbol.Class c) x e apart = λ is. apart (fits_stmt x (subst (λ (o : Option Kind). sort_fits (option_map sort_of_kind o) x ≡ true) is e))

kids_none : (s : Sym) → NoStmt (kids_of s)
kids_none (grammar_symbol.Tok t) = kids_no_stmt t
kids_none (grammar_symbol.Class c) = tt

pub none_onto : (classes : List Class) {xs : List Sort} (tree : Trees (sorted_test classes) xs) (w : List Sym) → NoStmt xs → All (IsNoStatement classes) w
    → All (IsNoStatement classes) (onto tree w)
none_onto classes no_tree w h k = k
none_onto classes (node {x} {xs} s passes below beside) w h k =
    (no_statement classes s x passes h.0, none_onto classes below (onto beside w) (kids_none s) (none_onto classes beside w h.1 k))

-- a class of values or places is of no statement's sort
value_sort : (k : Kind) → (k ≡ kind.Nothing → ⊥) → sort_of_kind k ≡ sort.Stmt → ⊥
value_sort kind.Reg h e = cc
value_sort (kind.Value Byte) h e = cc
value_sort (kind.Value Word) h e = cc
value_sort (kind.Value Long) h e = cc
value_sort (kind.Place Byte) h e = cc
value_sort (kind.Place Word) h e = cc
value_sort (kind.Place Long) h e = cc
value_sort kind.Con h e = cc
value_sort kind.Ea h e = cc
value_sort kind.Nothing h e = h refl

pub right_none : (classes : List Class) (r : Rule) (k : Kind) → IsRule classes r → kind_at classes r.left ≡ Some k → (k ≡ kind.Nothing → ⊥) → All (IsNoStatement classes) r.right
right_none classes r k is_rule is apart =
    let a = is_rule.sides in
    let same : a.sort ≡ sort_of_kind k = same_Some a.sort (sort_of_kind k) (sym a.declared ∙ ap (option_map sort_of_kind) is) in
    subst (All (IsNoStatement classes)) a.sorted.spelled (none_onto classes a.sorted.tree [] ((λ e. value_sort k apart (sym same ∙ e)), tt) tt)

module _ {O I S F : Type 0} (of : Meaning O I S F) (law : IsLawful of) (q : TreeProgram) (can : of.can_write q) (d : Content) (first : ℕ) where
  -- ---- symbols in place are holes that fit

  sym_fits : (s : Sym) (a : Attr O) → IsFine of law q d first s a → IsLoaded a → IsNoStatement d.classes s → SymFits of d.classes s a
  sym_fits s a (fine.token l fit own) h n = (refl, fit, own.in_frame)
  sym_fits s a (fine.class c a' fit) h n = fit
  sym_fits s a (fine.slot c w e lt) h n = absurd h
  sym_fits s a (fine.statement c e) h n = absurd (n e)

  pub all_fit : (ss : List Sym) (es : List (Entry O)) → AllFine of law q d first ss es → AllLoaded es → All (IsNoStatement d.classes) ss → Fit of d.classes ss (attrs es)
  all_fit [] [] h k n = tt
  all_fit [] (e ∷ es) h k n = absurd h
  all_fit (s ∷ ss) [] h k n = absurd h
  all_fit (s ∷ ss) (e ∷ es) h k n = (sym_fits s e.attr h.0 k.0 n.0, all_fit ss es h.1 k.1 n.1)

  class_spelled : (k : Option Kind) (a : Attr O) → KindFits of k a → TokenIsSpelled q a
  class_spelled (Some kind.Reg) (attr.Reg r) h = tt
  class_spelled (Some (kind.Value z)) (attr.Value o) h = tt
  class_spelled (Some (kind.Place z)) (attr.Place o) h = tt
  class_spelled (Some kind.Con) (attr.Con n) h = tt
  class_spelled (Some kind.Ea) (attr.Ea o) h = tt
  class_spelled k a h = absurd h

  sym_spelled : (s : Sym) (a : Attr O) → IsFine of law q d first s a → TokenIsSpelled q a
  sym_spelled s a (fine.token l fit own) = own.spelled
  sym_spelled s a (fine.class c a' fit) = class_spelled (kind_at d.classes c) a fit
  sym_spelled s a (fine.slot c w e lt) = tt
  sym_spelled s a (fine.statement c e) = tt

  pub all_spelled : (ss : List Sym) (es : List (Entry O)) → AllFine of law q d first ss es → AreSpelled q (attrs es)
  all_spelled [] [] h = tt
  all_spelled [] (e ∷ es) h = absurd h
  all_spelled (s ∷ ss) [] h = absurd h
  all_spelled (s ∷ ss) (e ∷ es) h = (sym_spelled s e.attr h.0, all_spelled ss es h.1)

  -- ---- a shape holds no more than its symbols

  class_held : (k : Option Kind) (a : Attr O) → KindFits of k a → registers of law q d first a + words of law q d first a ≤ charge of law q d first a
  class_held (Some kind.Reg) (attr.Reg r) h = (let x = register_one of law q d first r h in let y = fine.register_words of law q d first r h in omega (arith, x, y))
  class_held (Some (kind.Value z)) (attr.Value o) h = omega arith
  class_held (Some (kind.Place z)) (attr.Place o) h = omega arith
  class_held (Some kind.Con) (attr.Con n) h = (let y = fine.no_words of law q d first in omega (arith, y))
  class_held (Some kind.Ea) (attr.Ea o) h = omega arith
  class_held k a h = absurd h

  held_fine : (s : Sym) (a : Attr O) → IsFine of law q d first s a → IsLoaded a → registers of law q d first a + words of law q d first a ≤ charge of law q d first a
  held_fine s a (fine.token l fit own) h =
      let x = fine.token_registers of law q d first l.tok l.att fit own.in_frame in
      let y = fine.token_words of law q d first l.tok l.att fit own in
      omega (arith, x, y)
  held_fine s a (fine.class c a' fit) h = class_held (kind_at d.classes c) a fit
  held_fine s a (fine.slot c w e lt) h = absurd h
  held_fine s a (fine.statement c e) h = (let y = fine.no_words of law q d first in omega (arith, y))

  held_all : (ss : List Sym) (es : List (Entry O)) → AllFine of law q d first ss es → AllLoaded es
      → total (λ (a : Attr O). registers of law q d first a) (attrs es) + total (λ (a : Attr O). words of law q d first a) (attrs es) ≤ total (charge_of of law q d first) es
  held_all [] [] h k = omega arith
  held_all [] (e ∷ es) h k = absurd h
  held_all (s ∷ ss) [] h k = absurd h
  held_all (s ∷ ss) (e ∷ es) h k = (let x = held_fine s e.attr h.0 k.0 in let y = held_all ss es h.1 k.1 in omega (arith, x, y))

  -- the operand of a shape
  operand_held : (ss : List Sym) (es : List (Entry O)) (o : O) → AllFine of law q d first ss es → AllLoaded es
      → ((s : Spot) → touches of o s ≡ true → list_any (λ h. attr_touches of h s) (attrs es) ≡ true)
      → count (λ r. touches of o (RegAt r)) 0 12 + count (λ w. touches of o (WordAt w)) first (1024 - first) ≤ total (charge_of of law q d first) es
  operand_held ss es o h k t =
      let a = count_less (λ r. touches of o (RegAt r)) (λ r. list_any (λ h. attr_touches of h (RegAt r)) (attrs es)) (λ r. tick_implied (touches of o (RegAt r)) _ (λ e. t (RegAt r) e)) 0 12 in
      let b = count_any (λ (h : Attr O) r. attr_touches of h (RegAt r)) (attrs es) 0 12 in
      let c = count_less (λ w. touches of o (WordAt w)) (λ w. list_any (λ h. attr_touches of h (WordAt w)) (attrs es)) (λ w. tick_implied (touches of o (WordAt w)) _ (λ e. t (WordAt w) e)) first
      (1024 - first) in
      let e = count_any (λ (h : Attr O) w. attr_touches of h (WordAt w)) (attrs es) first (1024 - first) in
      let f = held_all ss es h k in
      omega (arith, a, b, c, e, f)

  -- ---- what a rule gives

  pub record Given (left g : ℕ) (a : Attr O) : Type 0 where
    pub fine_is : IsFine of law q d first (grammar_symbol.Class left) a
    pub charge_is : charge of law q d first a ≤ g

  module _ (rule : Rule) (is_rule : IsRule d.classes rule) (effect : EffectShape) (taken : of.effect d.classes rule ≡ Ok effect) (g : ℕ) (some : 1 ≤ g) where
    register_given : (r : ℕ) → r < 12 → kind_at d.classes rule.left ≡ Some kind.Reg → Given rule.left g (attr.Reg r)
    register_given r lt is = record { fine_is = fine.class rule.left (attr.Reg r) (subst (λ k. KindFits of k (attr.Reg r)) (sym is) lt); charge_is = some }

    nothing_given : kind_at d.classes rule.left ≡ Some kind.Nothing → Given rule.left g attr.Nothing
    nothing_given is = record { fine_is = fine.statement rule.left is; charge_is = omega arith }

    module _ (es : List (Entry O)) (h : AllFine of law q d first rule.right es) (loaded : AllLoaded es) (within : total (charge_of of law q d first) es ≤ g) where
      holes : (k : Kind) → kind_at d.classes rule.left ≡ Some k → (k ≡ kind.Nothing → ⊥) → Fit of d.classes rule.right (attrs es)
      holes k is apart = all_fit rule.right es h loaded (right_none d.classes rule k is_rule is apart)

      operand_small : (k : Kind) (l : Line) → kind_at d.classes rule.left ≡ Some k → (k ≡ kind.Nothing → ⊥) → rule.give ≡ give.Shape l
          → count (λ r. touches of (of.operand q l (attrs es)) (RegAt r)) 0 12 + count (λ w. touches of (of.operand q l (attrs es)) (WordAt w)) first (1024 - first) ≤ g
      operand_small k l is apart mode =
          let x = operand_held rule.right es (of.operand q l (attrs es)) h loaded (λ s e. law.spells.shape_touches q d.classes rule effect l (attrs es) s taken mode (holes k is apart) e) in
          omega (arith, x, within)

      abbrev HoldNow : Type 0
      HoldNow = Restricted of q d first rule.restrictions es

      fits_shape : HoldNow → (k : Kind) (l : Line) → kind_at d.classes rule.left ≡ Some k → (k ≡ kind.Nothing → ⊥) → rule.give ≡ give.Shape l → of.fits k (of.operand q l (attrs es)) ≡ true
      fits_shape restricted k l is apart mode =
          law.spells.shape_fits q d.classes rule effect k l (attrs es) can is_rule taken mode is (holes k is apart) restricted (all_spelled rule.right es h)

      at_symbol : (ss : List Sym) (bs : List (Entry O)) (j : ℕ) (s : Sym) → AllFine of law q d first ss bs → AllLoaded bs → slice_get ss j ≡ Some s
          → (a : Attr O) × (slice_get (attrs bs) j ≡ Some a) × IsFine of law q d first s a × IsLoaded a
      at_symbol [] [] j s h k e = absurd (none-some s e)
      at_symbol [] (b ∷ bs) j s h k e = absurd h
      at_symbol (x ∷ ss) [] j s h k e = absurd h
      at_symbol (x ∷ ss) (b ∷ bs) zero s h k e = (b.attr, refl, subst (λ w. IsFine of law q d first w b.attr) (same_Some x s e) h.0, k.0)
      at_symbol (x ∷ ss) (b ∷ bs) (suc j) s h k e = at_symbol ss bs j s h.1 k.1 e

      own_reg : (s : Sym) (c : ℕ) (a : Attr O) → IsFine of law q d first s a → IsLoaded a → s ≡ grammar_symbol.Class c → kind_at d.classes c ≡ Some kind.Reg → (r : ℕ) × (a ≡ attr.Reg r) × (r < 12)
      own_reg s c a (fine.token l fit own) k e is = absurd (cc)
      own_reg s c a (fine.class c' a' fit) k e is = by (kind_at d.classes c') a fit (ap (kind_at d.classes) (let same : c' ≡ c = cc in same) ∙ is)
        where
          by : (k : Option Kind) (a : Attr O) → KindFits of k a → k ≡ Some kind.Reg → (r : ℕ) × (a ≡ attr.Reg r) × (r < 12)
          by (Some kind.Reg) (attr.Reg r) h e = (r, refl, h)
          by (Some (kind.Value z)) (attr.Value o) h e = absurd (cc)
          by (Some (kind.Place z)) (attr.Place o) h e = absurd (cc)
          by (Some kind.Con) (attr.Con n) h e = absurd (cc)
          by (Some kind.Ea) (attr.Ea o) h e = absurd (cc)
          by k a h e = absurd h
      own_reg s c a (fine.slot c' w e' lt) k e is = absurd k
      own_reg s c a (fine.statement c' e') k e is = absurd (apart (sym is ∙ ap (kind_at d.classes) (sym (let same : c' ≡ c = cc in same)) ∙ e'))
        where
          apart : Some kind.Reg ≡ Some kind.Nothing → ⊥
          apart e = cc

      -- a symbol that is a constant's
      record IsNumber (a : Attr O) : Type 0 where
        number : ℕ
        small : number < 2 ^ 32
        own : own_number of q d first (Some a) ≡ attr.Con number

      number_token : (x : Tok) (a : Att) → IsOwn q first x a → Rattle.md_reader.specs.Rows.is_constant (Some (grammar_symbol.Tok x)) ≡ true → is_of_kind (attribute_of x) a ≡ true
          → IsNumber (attr.Token (record { tok = x; att = a }))
      number_token x a own c fit =
          let r = const_number x a c fit in
          let low : r.0 < 2 ^ 32 = subst (IsSpelled q) r.1 own.spelled in
          subst (λ b. IsNumber (attr.Token (record { tok = x; att = b }))) (sym r.1) (record { number = r.0; small = low; own = refl })

      number_class : (k : Option Kind) (a : Attr O) → KindFits of k a → k ≡ Some kind.Con → IsNumber a
      number_class (Some kind.Reg) (attr.Reg r) h e = absurd (cc)
      number_class (Some (kind.Value z)) (attr.Value o) h e = absurd (cc)
      number_class (Some (kind.Place z)) (attr.Place o) h e = absurd (cc)
      number_class (Some kind.Con) (attr.Con n) h e = record { number = n; small = h; own = refl }
      number_class (Some kind.Ea) (attr.Ea o) h e = absurd (cc)
      number_class k a h e = absurd h

      number_symbol : (s : Sym) (a : Attr O) → IsFine of law q d first s a → IsLoaded a → (y : Sym) → IsNumeric d.classes y → s ≡ y → IsNumber a
      number_symbol s a (fine.token l fit own) k y (shapes.constant w c) e =
          let same : l.tok ≡ w = cc in
          number_token l.tok l.att own (subst (λ z. Rattle.md_reader.specs.Rows.is_constant (Some (grammar_symbol.Tok z)) ≡ true) (sym same) c) fit
      number_symbol s a (fine.class c' a' fit) k y (shapes.class c g) e = number_class (kind_at d.classes c') a fit (ap (kind_at d.classes) (let same : c' ≡ c = cc in same) ∙ g)
      number_symbol s a (fine.slot c' w e' lt) k y n e = absurd k
      number_symbol s a (fine.statement c' e') k y (shapes.class c g) e = absurd (apart (sym g ∙ ap (kind_at d.classes) (sym (let same : c' ≡ c = cc in same)) ∙ e'))
        where
          apart : Some kind.Con ≡ Some kind.Nothing → ⊥
          apart e = cc
      number_symbol s a _ k y _ e = absurd (cc)

      -- the symbol that a register's shape names is a register
      pub shape_register : (l : Line) → shape_fits d.classes rule.right (Some kind.Reg) l.pieces ≡ true
          → (r : ℕ) × (r < 12) × (hole (attrs es) (first_hole l.pieces) ≡ Some (attr.Reg r))
      shape_register l fits =
          let sy = reg_symbol d.classes _ fits in
          let one = one_hole rule.right l.pieces (grammar_symbol.Class sy.0) sy.1 in
          let w = at_symbol rule.right es one.index (grammar_symbol.Class sy.0) h loaded one.there in
          let r = own_reg (grammar_symbol.Class sy.0) sy.0 w.0 w.2 w.3 refl sy.2 in
          (r.0, r.2, ap (λ p. hole (attrs es) (first_hole p)) one.is ∙ w.1 ∙ ap Some r.1)

      pub shape_given : HoldNow → (l : Line) → rule.give ≡ give.Shape l → (k : Option Kind) → kind_at d.classes rule.left ≡ k → shape_fits d.classes rule.right k l.pieces ≡ true
          → Given rule.left g (shaped of q d first k l (attrs es))
      shape_given restricted l mode None is fits = absurd (cc)
      shape_given restricted l mode (Some kind.Reg) is fits =
          let r = shape_register l fits in
          subst (Given rule.left g) (sym (ap (own_register of q d first) r.2)) (register_given r.0 r.1 is)
      shape_given restricted l mode (Some (kind.Value z)) is fits =
          let apart : kind.Value z ≡ kind.Nothing → ⊥ = λ e. cc in
          record {
            fine_is = fine.class rule.left (attr.Value (of.operand q l (attrs es)))
                (subst (λ k. KindFits of k (attr.Value (of.operand q l (attrs es)))) (sym is) (fits_shape restricted (kind.Value z) l is apart mode));
            charge_is = operand_small (kind.Value z) l is apart mode;
          }
      shape_given restricted l mode (Some (kind.Place z)) is fits =
          let apart : kind.Place z ≡ kind.Nothing → ⊥ = λ e. cc in
          record {
            fine_is = fine.class rule.left (attr.Place (of.operand q l (attrs es)))
                (subst (λ k. KindFits of k (attr.Place (of.operand q l (attrs es)))) (sym is) (fits_shape restricted (kind.Place z) l is apart mode));
            charge_is = operand_small (kind.Place z) l is apart mode;
          }
      shape_given restricted l mode (Some kind.Con) is fits =
          let sy = con_symbol d.classes _ fits in
          let one = one_hole rule.right l.pieces sy.0 sy.1 in
          let w = at_symbol rule.right es one.index sy.0 h loaded one.there in
          let n = number_symbol sy.0 w.0 w.2 w.3 sy.0 sy.2 refl in
          let result : own_number of q d first (hole (attrs es) (first_hole l.pieces)) ≡ attr.Con n.number =
          ap (λ p. own_number of q d first (hole (attrs es) (first_hole p))) one.is ∙ ap (own_number of q d first) w.1 ∙ n.own in
          subst (Given rule.left g) (sym result)
          (record { fine_is = fine.class rule.left (attr.Con n.number) (subst (λ k. KindFits of k (attr.Con n.number)) (sym is) n.small); charge_is = omega arith })
      shape_given restricted l mode (Some kind.Ea) is fits =
          let apart : kind.Ea ≡ kind.Nothing → ⊥ = λ e. cc in
          record {
            fine_is = fine.class rule.left (attr.Ea (of.operand q l (attrs es)))
                (subst (λ k. KindFits of k (attr.Ea (of.operand q l (attrs es)))) (sym is) (fits_shape restricted kind.Ea l is apart mode));
            charge_is = operand_small kind.Ea l is apart mode;
          }
      shape_given restricted l mode (Some kind.Nothing) is fits = absurd (cc)

    -- ---- the whole reduction

    module _ (a : List Sym) (c : ℕ) (gb gs : List ℕ) (low : sum gs ≤ g) where
      pub record Reduced (x' : Stack O I) : Type 0 where
        pub most_within : x'.most ≤ first + c
        pub within : Within of law q d first x'.entries (g ∷ gb)
        pub all_fine : AllFine of law q d first (grammar_symbol.Class rule.left ∷ a) x'.entries

      abbrev In : ℕ → Desk O I → Type 0
      In i desk = Counted of law q d first rule.right a c gb gs i desk

      done : (i : ℕ) (y : Desk O I) (result out : Attr O) → In i y → Given rule.left g out → Good (first + c) (finished of q d first rule result out y) Reduced
      done i y result out h k = record { most_within = h.most_within; within = (k.charge_is, h.below_within); all_fine = (k.fine_is, h.below_fine) }

      desk_loaded : (y : Desk O I) → In (0 + length rule.right) y → AllLoaded y.symbols
      desk_loaded y h = (let size = fine_length of law q d first rule.right y.symbols h.symbols_fine in all_loaded y.symbols (0 + length rule.right) (omega (arith, size)) h.loaded_to)

      all_low : (y : Desk O I) → In (0 + length rule.right) y → total (charge_of of law q d first) y.symbols ≤ g
      all_low y h = (let in_all = within_total of law q d first y.symbols gs h.symbols_within in omega (arith, in_all, low))

      -- behind the reloads the symbol that a register's shape names is a register
      pub register_named : (y : Desk O I) → In (0 + length rule.right) y → (l : Line) → shape_fits d.classes rule.right (Some kind.Reg) l.pieces ≡ true
          → (r : ℕ) × (r < 12) × (hole (attrs y.symbols) (first_hole l.pieces) ≡ Some (attr.Reg r))
      register_named y h l fits = shape_register y.symbols h.symbols_fine (desk_loaded y h) (all_low y h) l fits

      given_good : (gv : Give) (y : Desk O I) → In (0 + length rule.right) y → Restricted of q d first rule.restrictions y.symbols → rule.give ≡ gv → MayGive d.classes rule.left rule.right gv
          → Good (first + c) (given_by of q d first rule gv y) Reduced
      given_good give.Fresh y h restricted mode may =
          good_bind (first + c) (due of q d first false y) (with_result of q d first rule) (IsDue of law q d first rule.right a c gb gs (0 + length rule.right) y) Reduced
          (due_good of law q d first rule.right a c gb gs (0 + length rule.right) false y h)
          (λ p k. done (0 + length rule.right) p.1 (attr.Reg p.0) (attr.Reg p.0) k.after.counted (register_given p.0 k.small (reg_is (kind_at d.classes rule.left) may)))
      given_good give.Reuse y h restricted mode may =
          good_bind (first + c) (due of q d first true y) (with_result of q d first rule) (IsDue of law q d first rule.right a c gb gs (0 + length rule.right) y) Reduced
          (due_good of law q d first rule.right a c gb gs (0 + length rule.right) true y h)
          (λ p k. done (0 + length rule.right) p.1 (attr.Reg p.0) (attr.Reg p.0) k.after.counted (register_given p.0 k.small (reg_is (kind_at d.classes rule.left) may)))
      given_good give.Scratch y h restricted mode may =
          good_bind (first + c) (due of q d first false y) (with_scratch of q d first rule) (IsDue of law q d first rule.right a c gb gs (0 + length rule.right) y) Reduced
          (due_good of law q d first rule.right a c gb gs (0 + length rule.right) false y h)
          (λ p k. done (0 + length rule.right) p.1 (attr.Reg p.0) attr.Nothing k.after.counted (nothing_given (nothing_is (kind_at d.classes rule.left) may)))
      given_good give.Nothing y h restricted mode may = done (0 + length rule.right) y attr.Nothing attr.Nothing h (nothing_given (nothing_is (kind_at d.classes rule.left) may))
      given_good (give.Shape l) y h restricted mode may =
          done (0 + length rule.right) y attr.Nothing (shaped of q d first (kind_at d.classes rule.left) l (attrs y.symbols)) h
          (shape_given y.symbols h.symbols_fine (desk_loaded y h) (all_low y h) restricted l mode (kind_at d.classes rule.left) refl may.1)

      -- before the reloads
      pub started : (x : Stack O I) → x.most ≤ first + c → sum gb + sum gs ≤ c
          → AllFine of law q d first a (desk_of (length rule.right) x).below → AllFine of law q d first rule.right (desk_of (length rule.right) x).symbols
          → Within of law q d first (desk_of (length rule.right) x).below gb → Within of law q d first (desk_of (length rule.right) x).symbols gs
          → In 0 (desk_of (length rule.right) x)
      started x most bound fb fs wb ws =
          let start = desk_of (length rule.right) x in
          let u = within_total of law q d first start.below gb wb in
          let v = within_total of law q d first start.symbols gs ws in
          let w = weights of law q d first start.symbols in
          record {
            held_in_all = omega (arith, u, v, w, bound);
            most_within = most;
            below_within = wb;
            symbols_within = ws;
            below_fine = fb;
            symbols_fine = fs;
            loaded_to = λ j e lt there. absurd (omega (arith, lt));
          }

      -- where its restrictions hold
      pub reduction_good : (x : Stack O I) → In 0 (desk_of (length rule.right) x) → Restricted of q d first rule.restrictions (desk_of (length rule.right) x).symbols
          → Good (first + c) (reduced of q d first rule x) Reduced
      reduction_good x h restricted =
          let start = desk_of (length rule.right) x in
          let loads = reloaded of q d first (length rule.right) 0 start in
          good_bind (first + c) loads (given_by of q d first rule rule.give) (λ (y : Desk O I). In (0 + length rule.right) y × Restricted of q d first rule.restrictions y.symbols) Reduced
          (good_more (first + c) loads (In (0 + length rule.right)) (λ (y : Desk O I). Restricted of q d first rule.restrictions y.symbols)
          (reloaded_good of law q d first rule.right a c gb gs (length rule.right) 0 start h)
          (λ y e. still_restricted of q d first rule.restrictions start.symbols y.symbols (reloaded_asked of q d first (length rule.right) 0 start y e) restricted))
          (λ y k. given_good rule.give y k.0 k.1 refl is_rule.gives)
