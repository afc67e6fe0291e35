-- The items over productions are the items over rules.
use Rattle.std.proofs.Common.{◌≡◌, ℕ, zero, suc, ◌+◌, List, [], ◌∷◌, Option, Some, None, Contains, length, drop, map, slice_get, refl, sym, ap, ◌∙◌, subst, arith}
use Rattle.std.specs.Option.{option_map}
use Rattle.std.proofs.lemmas.Option.{same_Some, none-some}
use Rattle.gg_base.proofs.Facts.{nil_cons}
use Rattle.tree_core.specs.declared.token.Tok.TheVariants as tok
use Rattle.md_reader.specs.declared.types.Rule.{Rule}
use Rattle.md_reader.specs.declared.types.Sym.{Sym}
use Rattle.md_reader.specs.declared.types.Sym.TheVariants as grammar_symbol
use Rattle.lr_tables.specs.declared.item.Item.{Item}
use Rattle.lr_tables.specs.Items as valid
use Rattle.lr_tables.specs.Items.{Items, next, left_of, right_at, fresh, advanced, start}
use Rattle.lr_tables.proofs.Members.{In, In-Contains, Contains-In, slice_get-In, In-slice_get, In-map, map-In}
use Rattle.lr_check_sets.specs.Automaton.{Production}
use Rattle.lr_check_sets.specs.Items as model
use Rattle.lr_check_sets.specs.Items.{start_of}
use Rattle.lr_check_sets.specs.Table.{production, productions}

-- what stands behind a dot
pub drop_head : {X : Type 0} (w : List X) (k : ℕ) (x : X) (after : List X) → drop k w ≡ x ∷ after → (slice_get w k ≡ Some x) × (drop (suc k) w ≡ after)
drop_head w zero x after e = (ap (λ l. slice_get l 0) e, ap (drop 1) e)
drop_head [] (suc k) x after e = absurd (nil_cons x after e)
drop_head (y ∷ w) (suc k) x after e = drop_head w k x after e

pub slice_head : {X : Type 0} (w : List X) (k : ℕ) (x : X) → slice_get w k ≡ Some x → drop k w ≡ x ∷ drop (suc k) w
slice_head [] zero x e = absurd (none-some x e)
slice_head (y ∷ w) zero x e = ap (λ z. z ∷ w) (same_Some y x e)
slice_head [] (suc k) x e = absurd (none-some x e)
slice_head (y ∷ w) (suc k) x e = slice_head w k x e

pub drop_whole : {X : Type 0} (w : List X) → drop (length w) w ≡ []
drop_whole [] = refl
drop_whole (x ∷ w) = drop_whole w

-- the item is the production with its dot before the rest
pub data Is (rules : List Rule) (stmt : ℕ) : Item → Production → List Sym → Type 0 where
  is_start : {dot : ℕ} {rest : List Sym} → drop dot (grammar_symbol.Class stmt ∷ grammar_symbol.Tok tok.End ∷ []) ≡ rest → Is rules stmt (record { rule = None; dot = dot }) (start_of stmt) rest
  is_rule : {n dot : ℕ} {rest : List Sym} (r : Rule) → slice_get rules n ≡ Some r → drop dot r.right ≡ rest →
      Is rules stmt (record { rule = Some n; dot = dot }) (production r) rest

module _ (rules : List Rule) (stmt : ℕ) where
  pub is_next : {i : Item} {r : Production} {X : Sym} {after : List Sym} → Is rules stmt i r (X ∷ after) → next rules stmt i ≡ Some X
  is_next {X = X} {after = after} (is_start {dot = dot} e) = (drop_head (grammar_symbol.Class stmt ∷ grammar_symbol.Tok tok.End ∷ []) dot X after e).0
  is_next {X = X} {after = after} (is_rule {dot = dot} q there e) = ap (λ (o : Option Rule). slice_get (right_at o) dot) there ∙ (drop_head q.right dot X after e).0

  pub is_moved : {i : Item} {r : Production} {X : Sym} {after : List Sym} → Is rules stmt i r (X ∷ after) → Is rules stmt (advanced i) r after
  is_moved {X = X} {after = after} (is_start {dot = dot} e) =
      let w = grammar_symbol.Class stmt ∷ grammar_symbol.Tok tok.End ∷ [] in
      let more : dot + 1 ≡ suc dot = omega arith in
      is_start (ap (λ k. drop k w) more ∙ (drop_head w dot X after e).1)
  is_moved {X = X} {after = after} (is_rule {dot = dot} q there e) =
      let more : dot + 1 ≡ suc dot = omega arith in
      is_rule q there (ap (λ k. drop k q.right) more ∙ (drop_head q.right dot X after e).1)

  pub is_rest : {i : Item} {r : Production} {rest : List Sym} (X : Sym) → Is rules stmt i r rest → next rules stmt i ≡ Some X → (after : List Sym) × (rest ≡ X ∷ after)
  is_rest X (is_start {dot = dot} e) h =
      let w = grammar_symbol.Class stmt ∷ grammar_symbol.Tok tok.End ∷ [] in (drop (suc dot) w, sym e ∙ slice_head w dot X h)
  is_rest X (is_rule {dot = dot} q there e) h =
      let here : slice_get q.right dot ≡ Some X = sym (ap (λ (o : Option Rule). slice_get (right_at o) dot) there) ∙ h in
      (drop (suc dot) q.right, sym e ∙ slice_head q.right dot X here)

  pub is_of : {i : Item} {r : Production} {rest : List Sym} (n : ℕ) (q : Rule) → Is rules stmt i r rest → i.rule ≡ Some n → slice_get rules n ≡ Some q →
      (r ≡ production q) × (rest ≡ drop i.dot q.right)
  is_of n q (is_start e) f there = absurd (none-some n f)
  is_of n q (is_rule {n = m} {dot = dot} p here e) f there =
      let same : p ≡ q = same_Some p q (sym here ∙ (ap (slice_get rules) (same_Some m n f) ∙ there)) in
      (ap production same, sym e ∙ ap (λ (x : Rule). drop dot x.right) same)

  left_is : (n c : ℕ) (o : Option Rule) → option_map (λ (r : Rule). r.left) o ≡ Some c → (r : Rule) × ((o ≡ Some r) × (r.left ≡ c))
  left_is n c None e = absurd (none-some c e)
  left_is n c (Some r) e = (r, (refl, same_Some r.left c e))

  pub in_productions : (n : ℕ) (r : Rule) → slice_get rules n ≡ Some r → Contains (productions rules) (production r)
  in_productions n r e = In-Contains (production r) (map production rules) (In-map production r rules (slice_get-In r rules n e))

  pub of_productions : (r : Production) → Contains (productions rules) r → (n : ℕ) × ((q : Rule) × ((slice_get rules n ≡ Some q) × (r ≡ production q)))
  of_productions r m =
      let found : (q : Rule) × In q rules × (r ≡ production q) = map-In production r rules (Contains-In r (map production rules) m) in
      let at : (k : ℕ) × (slice_get rules k ≡ Some found.0) = In-slice_get found.0 rules found.1 in
      (at.0, (found.0, (at.1, found.2)))

  pub record To (a : List Sym) (r : Production) (rest : List Sym) : Type 0 where
    pub item : Item
    pub there : Items rules stmt a item
    pub is : Is rules stmt item r rest

  pub to : {a : List Sym} {r : Production} {rest : List Sym} → model.Item (productions rules) stmt a r rest → To a r rest
  to {rest = rest} (model.starts {r = r} e f) = record {
    item = start;
    there = valid.starts;
    is = subst (λ (p : Production). Is rules stmt start p rest) (sym e) (is_start (sym (ap (λ (p : Production). p.right) e) ∙ f));
  }
  to {rest = rest} (model.opens {c = c} {r = r} it m l e) =
      let j = to it in
      let o : (n : ℕ) × ((q : Rule) × ((slice_get rules n ≡ Some q) × (r ≡ production q))) = of_productions r m in
      let left : left_of rules o.0 ≡ Some c = ap (option_map (λ (x : Rule). x.left)) o.1.1.0 ∙ ap Some (sym (ap (λ (p : Production). p.left) o.1.1.1) ∙ l) in
      record {
        item = fresh o.0;
        there = valid.opens j.there (is_next j.is) left;
        is = subst (λ (p : Production). Is rules stmt (fresh o.0) p rest) (sym o.1.1.1) (is_rule o.1.0 o.1.1.0 (sym (ap (λ (p : Production). p.right) o.1.1.1) ∙ e));
      }
  to (model.moves it) = let j = to it in record { item = advanced j.item; there = valid.moves j.there (is_next j.is) refl; is = is_moved j.is }

  pub record From (a : List Sym) (i : Item) : Type 0 where
    pub rule : Production
    pub rest : List Sym
    pub item : model.Item (productions rules) stmt a rule rest
    pub is : Is rules stmt i rule rest

  pub from : {a : List Sym} {i : Item} → Items rules stmt a i → From a i
  from valid.starts = record { rule = start_of stmt; rest = (start_of stmt).right; item = model.starts refl refl; is = is_start refl }
  from {a = a} (valid.opens {c = c} {n = n} it nx lf) =
      let f = from it in
      let w : (after : List Sym) × (f.rest ≡ grammar_symbol.Class c ∷ after) = is_rest (grammar_symbol.Class c) f.is nx in
      let o : (r : Rule) × ((slice_get rules n ≡ Some r) × (r.left ≡ c)) = left_is n c (slice_get rules n) lf in
      record {
        rule = production o.0;
        rest = o.0.right;
        item = model.opens (subst (model.Item (productions rules) stmt a f.rule) w.1 f.item) (in_productions n o.0 o.1.0) o.1.1 refl;
        is = is_rule o.0 o.1.0 refl;
      }
  from (valid.moves {a = a} {i = i} {j = j} {X = X} it nx e) =
      let f = from it in
      let w : (after : List Sym) × (f.rest ≡ X ∷ after) = is_rest X f.is nx in
      record {
        rule = f.rule;
        rest = w.0;
        item = model.moves (subst (model.Item (productions rules) stmt a f.rule) w.1 f.item);
        is = subst (λ (k : Item). Is rules stmt k f.rule w.0) (sym e) (is_moved (subst (Is rules stmt i f.rule) w.1 f.is));
      }
