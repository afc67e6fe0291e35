-- The tree of a settling that was found leads to its list.
use Rattle.std.proofs.Common.{◌≡◌, ℕ, suc, ◌+◌, List, [], ◌∷◌, ◌++◌, Some, Bool, length, slice_get, refl, ap, ap₂, sym, ◌∙◌, subst, arith, length-append}
use Rattle.std.proofs.lemmas.Option.{same_Some}
use Rattle.tree_core.specs.declared.token.Tok.{Tok}
use Rattle.tree_core.specs.declared.token.Sort.{Sort}
use Rattle.tree_core.specs.Grammar.{kids}
use Rattle.md_reader.specs.declared.types.Sym.{Sym}
use Rattle.md_reader.specs.declared.types.Sym.TheVariants as grammar_symbol
use Rattle.lr_tables.specs.View.{TableView}
use Rattle.lr_check.specs.Tree.{Token}
use Rattle.lr_check_sets.specs.Automaton.{Automaton, Production, reduce, walk, size_of, Free, IsTable}
use Rattle.lr_check_sets.specs.Shapes.{IsTree}
use Rattle.lr_check_sets.specs.Exact.{MeetsLaws}
use Rattle.lr_check_sets.specs.Table.{automaton_of, productions}
use Rattle.lr_check_sets.specs.Sums as sets
use Rattle.lr_check_sets.proofs.Walks.{walk-append}
use Rattle.lr_check_sets.proofs.Tables.{table_of_items}
use Rattle.lr_check_sets.proofs.Reached.{MetPlace, met_place}
use Rattle.lr_check_sets.proofs.Shapes.{PartShape, OnTop, kid_shape, settling_tree, top_of_free}
use Rattle.lr_check_sets.proofs.Whole_sets.{place_back, settling_back}
use Rattle.lr_check_sets.proofs.Fixed_sums.{goes_down}
use Rattle.lr_check_found.specs.declared.places.Place.{Place}
use Rattle.lr_check_found.specs.Found.{FoundView, SettlesAt}
use Rattle.lr_check_found.specs.Items.{Fits}
use Rattle.lr_check_found.specs.Sound.{IsFound}
use Rattle.lr_check_found.proofs.Deriving.{sum_of}
use Rattle.lr_check_samples.specs.Answering.{root_no, further, answers_to, depths_to}
use Rattle.lr_check_samples.specs.Fixed.{leaf, Fixed, fixed_leaf, fixed_one, fixed_two, fixed_reduced}
use Rattle.lr_check_samples.proofs.Asking.{Taking, taking}
use Rattle.lr_check_samples.proofs.Leading.{Leads, opened, with_kid, reduced_whole}
use Rattle.lr_check_samples.proofs.Making.{settles_of, AreSame, same_settling, settled_so, MadeLeaf, MadeOne, MadeTwo, MadeReduced, made_leaf, made_one, made_two, made_reduced}

-- a token with kids to come
token_shape : (k : Tok) (n : ℕ) → length (kids k) ≡ n → PartShape (grammar_symbol.Tok k ∷ []) n
token_shape k n many = record {
  still = ap Some (omega (arith, many));
  tops = λ b d m e some rest h. let sum : 1 ≡ length b + length d = ap length e ∙ length-append b d in absurd (omega (arith, sum));
}

sum_settles : {A : Automaton} {q : ℕ} {k b : Tok} {s : List Sym} → sets.Sum A q k b s → sets.Settling A q k b s
sum_settles (sets.sum c set ws f o) = set

leads_as : {A : Automaton} {q : ℕ} {k n : Tok} {s s' : List Sym} {ws : List Token} {own own' : List Bool} {ds ds' : List ℕ} → s ≡ s' → own ≡ own' → ds ≡ ds' →
    Leads A q k n s ws own ds → Leads A q k n s' ws own' ds'
leads_as {A = A} {q = q} {k = k} {n = n} {s = s} {s' = s'} {ws = ws} {own = own} {own' = own'} {ds = ds} {ds' = ds'} e f g l =
    subst (λ u. Leads A q k n u ws own' ds') e (subst (λ u. Leads A q k n s ws u ds') f (subst (λ u. Leads A q k n s ws own u) g l))

module _ (t : TableView) (m : MeetsLaws t) where
  pub table : IsTable (automaton_of t)
  table = table_of_items (productions t.content.rules) (automaton_of t) m.no_end m.no_empty m.exact

  pub met : {q : ℕ} {k b : Tok} → sets.Place (automaton_of t) q k b → MetPlace (automaton_of t) q k b
  met place = met_place (automaton_of t) table (place_back place)

  pub is_tree : {q : ℕ} {k b : Tok} {s : List Sym} → sets.Settling (automaton_of t) q k b s → IsTree s
  is_tree set = settling_tree (productions t.content.rules) (automaton_of t) m.no_end m.no_empty m.trees m.exact (settling_back set)

  -- a free reduction of the whole list is taken by the answers to it
  pub takes : (q : ℕ) (k b : Tok) (s : List Sym) (p : ℕ) (r : Production) (c : ℕ) → sets.Place (automaton_of t) q k b → IsTree s → walk (automaton_of t) q s ≡ Some p →
      Free ((automaton_of t).candidates p b) (reduce r) → size_of r ≡ length s → r.left ≡ c →
      Taking (automaton_of t) q s ((automaton_of t).candidates p b) (answers_to ((automaton_of t).candidates p b) (length s) c) (depths_to ((automaton_of t).candidates p b) (length s) c) c
  takes q k b s p r c place tree walks free size left =
      let here : MetPlace (automaton_of t) q k b = met place in
      taking (automaton_of t) q s tree c ((automaton_of t).candidates p b) r
      (λ x g a at. let o : OnTop (productions t.content.rules) (automaton_of t) m.no_end m.no_empty m.trees m.exact x (s ++ a) =
      top_of_free (productions t.content.rules) (automaton_of t) m.no_end m.no_empty m.trees m.exact (s ++ a) p b x (walk-append (automaton_of t) 0 q s a at ∙ walks) g in
      (o.top, o.below, (o.there, o.size, o.tree)))
      (goes_down (m.exact.candidates (s ++ here.below) p b (walk-append (automaton_of t) 0 q s here.below here.at ∙ walks)))
      free size left

  module _ (f : FoundView) (found : IsFound (automaton_of t) f) where
    -- a kid's tree, where it is wanted
    kid_leads : {p q : ℕ} {y z : Place} {s u : List Sym} {w : Sort} {b : Tok} {ws : List Token} {own : List Bool} {ds : List ℕ} {h : ℕ} →
        AreSame y z s u p h → Fits z w q b → Leads (automaton_of t) y.state y.token y.behind s ws own ds → Leads (automaton_of t) q y.token b u ws own ds
    kid_leads {q = q} {y = y} {z = z} {s = s} {u = u} {b = b} {ws = ws} {own = own} {ds = ds} same fits l =
        subst (λ v. Leads (automaton_of t) q y.token b v ws own ds) same.lists
        (subst (λ c. Leads (automaton_of t) q y.token c s ws own ds) (ap (λ (x : Place). x.behind) same.places ∙ fits.behind)
        (subst (λ j. Leads (automaton_of t) j y.token y.behind s ws own ds) (ap (λ (x : Place). x.state) same.places ∙ fits.state) l))

    first_kid : (x : Place) (q : ℕ) (k n : Tok) (s : List Sym) (l : ℕ) (ws : List Token) (own : List Bool) (ds : List ℕ) → sets.Place (automaton_of t) x.state x.token x.behind →
        (automaton_of t).go x.state (grammar_symbol.Tok x.token) ≡ Some q → length (kids x.token) ≡ suc l → Leads (automaton_of t) q k n s ws own ds →
        Leads (automaton_of t) x.state x.token n (s ++ (grammar_symbol.Tok x.token ∷ [])) (leaf k own ∷ ws) (root_no 1 ds) (further 1 ds)
    first_kid x q k n s l ws own ds place go many kid =
        let here : MetPlace (automaton_of t) x.state x.token x.behind = met place in
        with_kid (automaton_of t) x.state q x.token k n (grammar_symbol.Tok x.token ∷ []) s [] ws [] own [] ds l here.below here.at go (token_shape x.token (suc l) many) (omega arith)
        (opened (automaton_of t) table x.state q x.token k go) kid

    second_kid : (x : Place) (q p : ℕ) (k k' n : Tok) (s u : List Sym) (ws ws' : List Token) (own own' : List Bool) (ds ds' : List ℕ) → sets.Place (automaton_of t) x.state x.token x.behind →
        (automaton_of t).go x.state (grammar_symbol.Tok x.token) ≡ Some q → length (kids x.token) ≡ 2 → IsTree s → walk (automaton_of t) q s ≡ Some p →
        Leads (automaton_of t) q k k' s ws own ds → Leads (automaton_of t) p k' n u ws' own' ds' →
        Leads (automaton_of t) x.state x.token n (u ++ (s ++ (grammar_symbol.Tok x.token ∷ []))) (leaf k own ∷ (ws ++ (leaf k' own' ∷ ws')))
        (root_no 1 ds ++ root_no (length s + 1) ds') (further 1 ds ++ further (length s + 1) ds')
    second_kid x q p k k' n s u ws ws' own own' ds ds' place go many tree walks kid second =
        let here : MetPlace (automaton_of t) x.state x.token x.behind = met place in
        let part : List Sym = s ++ (grammar_symbol.Tok x.token ∷ []) in
        let size : length part ≡ length s + 1 = length-append s (grammar_symbol.Tok x.token ∷ []) in
        leads_as refl (ap (λ n. root_no 1 ds ++ root_no n ds') size) (ap (λ n. further 1 ds ++ further n ds') size)
        (with_kid (automaton_of t) x.state p x.token k' n part u (leaf k own ∷ ws) ws' (root_no 1 ds) own' (further 1 ds) ds' 0 here.below here.at
        (walk-append (automaton_of t) x.state q s (grammar_symbol.Tok x.token ∷ []) go ∙ walks) (kid_shape s (grammar_symbol.Tok x.token ∷ []) 1 tree (token_shape x.token 2 many))
        (omega (arith, size))
        (first_kid x q k k' s 1 ws own ds place go many kid) second)

    pub leads : {i : ℕ} {ws : List Token} {own : List Bool} {ds : List ℕ} → Fixed (automaton_of t) f i ws own ds → (x : Place) (s : List Sym) (p : ℕ) → SettlesAt f i x s p →
        Leads (automaton_of t) x.state x.token x.behind s ws own ds
    leads (fixed_leaf by) x s p at =
        let k = settled_so (automaton_of t) f found by at in
        let g : MadeLeaf (automaton_of t) x s = made_leaf k.made refl in
        leads_as (sym g.list) refl refl (opened (automaton_of t) table x.state g.state x.token x.behind g.go)
    leads (fixed_one {i = i} {j = j} {p = h} {y = y} {s = v} {ws = ws} {own = own} {ds = ds} by kid_at kid) x s p at =
        let k = settled_so (automaton_of t) f found by at in
        let g : MadeOne (automaton_of t) f j x s = made_one k.made j refl in
        let same : AreSame y g.kid v g.kid_list h g.behind = same_settling kid_at (settles_of g.sum) in
        leads_as (sym g.list) refl refl
        (first_kid x g.state y.token x.behind g.kid_list 0 ws own ds k.is_place g.has.go (ap length g.has.kid) (kid_leads same g.fits (leads kid y v h kid_at)))
    leads (fixed_two {i = i} {j = j} {k = l} {p = h} {h = o} {y = y} {z = z} {s = v} {u = u} {ws = ws} {ws' = ws'} {own = own} {own' = own'} {ds = ds} {ds' = ds'}
        by kid_at kid second_at second) x s p at =
        let k = settled_so (automaton_of t) f found by at in
        let g : MadeTwo (automaton_of t) f j l x s = made_two k.made j l refl in
        let same : AreSame y g.kid v g.kid_list h g.behind = same_settling kid_at (settles_of g.sum) in
        let same' : AreSame z g.second u g.second_list o g.last = same_settling second_at (settles_of g.second_sum) in
        let sum = sum_of (automaton_of t) f j g.kid g.kid_list g.behind found g.sum in
        let first : Leads (automaton_of t) g.state y.token z.token g.kid_list ws own ds =
        subst (λ b. Leads (automaton_of t) g.state y.token b g.kid_list ws own ds) (ap (λ (x : Place). x.token) (sym same'.places)) (kid_leads same g.fits (leads kid y v h kid_at)) in
        let last : Leads (automaton_of t) g.behind z.token x.behind g.second_list ws' own' ds' = kid_leads same' g.second_fits (leads second z u o second_at) in
        let size : length g.kid_list ≡ length v = ap length (sym same.lists) in
        leads_as (sym g.list) (ap (λ n. root_no 1 ds ++ root_no (n + 1) ds') size) (ap (λ n. further 1 ds ++ further (n + 1) ds') size)
        (second_kid x g.state g.behind y.token z.token x.behind g.kid_list g.second_list ws ws' own own' ds ds' k.is_place g.has.go (ap length g.has.kid)
        (is_tree (sum_settles sum.is_sum)) (subst (λ q. walk (automaton_of t) q g.kid_list ≡ Some g.behind) g.fits.state sum.walks) first last)
    leads (fixed_reduced {i = i} {j = j} {c = c} {p = h} {x = y} {s = v} {ws = ws} {own = own} {ds = ds} by set_at set) x s p at =
        let k = settled_so (automaton_of t) f found by at in
        let g : MadeReduced (automaton_of t) f k.place j c x s = made_reduced k.made j c refl in
        let whole_at : SettlesAt f j x g.whole g.state = record { entry = g.entry; there = g.there; place = ap (slice_get f.places) g.place ∙ k.there; list = g.symbols; behind = g.behind } in
        let same : AreSame y x v g.whole h g.state = same_settling set_at whole_at in
        let l = found.settlings j g.entry g.there in
        let old : Leads (automaton_of t) x.state x.token x.behind g.whole ws own ds =
        subst (λ (z : Place). Leads (automaton_of t) z.state z.token z.behind g.whole ws own ds) same.places
        (subst (λ u. Leads (automaton_of t) y.state y.token y.behind u ws own ds) same.lists (leads set y v h set_at)) in
        let place : l.place ≡ x = same_Some l.place x (sym l.there ∙ (ap (slice_get f.places) g.place ∙ k.there)) in
        let list : l.list ≡ g.whole = same_Some l.list g.whole (sym l.symbols ∙ g.symbols) in
        let settles : sets.Settling (automaton_of t) x.state x.token x.behind g.whole =
        subst (λ (z : Place). sets.Settling (automaton_of t) z.state z.token z.behind g.whole) place
        (subst (sets.Settling (automaton_of t) l.place.state l.place.token l.place.behind) list l.settles) in
        let walks : walk (automaton_of t) x.state g.whole ≡ Some g.state =
        subst (λ (z : Place). walk (automaton_of t) z.state g.whole ≡ Some g.state) place (subst (λ u. walk (automaton_of t) l.place.state u ≡ Some g.state) list (sym l.behind ∙ g.behind)) in
        let tree : IsTree g.whole = is_tree settles in
        let take = takes x.state x.token x.behind g.whole g.state g.rule c k.is_place tree walks g.free g.size g.left in
        let goal = reduced_whole (automaton_of t) x.state g.state x.token x.behind g.whole c ws own
        (answers_to ((automaton_of t).candidates g.state x.behind) (length g.whole) c) ds (depths_to ((automaton_of t).candidates g.state x.behind) (length g.whole) c) tree walks take old in
        leads_as (sym g.list)
        (ap₂ (λ (u : ℕ) (z : Place). own ++ answers_to ((automaton_of t).candidates u z.behind) (length g.whole) c) (sym same.states) (sym same.places)
        ∙ ap (λ (u : List Sym). own ++ answers_to ((automaton_of t).candidates h y.behind) (length u) c) (sym same.lists))
        (ap₂ (λ (u : ℕ) (z : Place). ds ++ depths_to ((automaton_of t).candidates u z.behind) (length g.whole) c) (sym same.states) (sym same.places)
        ∙ ap (λ (u : List Sym). ds ++ depths_to ((automaton_of t).candidates h y.behind) (length u) c) (sym same.lists)) goal
