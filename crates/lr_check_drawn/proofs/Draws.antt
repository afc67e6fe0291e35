-- One node more.
use Rattle.std.proofs.Common.{◌≡◌, ◌⊎◌, ℕ, zero, suc, ◌+◌, List, [], ◌∷◌, ◌++◌, Some, length, slice_get, refl, sym, ap, ◌∙◌, subst, inl, inr, ⊎_elim, length-append}
use Rattle.gg_base.proofs.Facts.{slice_last}
use Rattle.tree_core.specs.declared.token.Tok.{Tok}
use Rattle.lr_check_found.specs.lr_check_sets.specs.Automaton.{Automaton}
use Rattle.lr_check.specs.Tree.{Node}
use Rattle.lr_check_found.specs.declared.settlings.How.{How}
use Rattle.lr_check_found.specs.Found.{FoundView}
use Rattle.lr_check_found.specs.Sound.{IsSoundSettling, IsFound}
use Rattle.lr_check_samples.proofs.Lasting.{node_lasts, kids_last}
use Rattle.lr_check_drawn.specs.Drawing.{DrawingView, KidsView, held, IsNext, IsDrawnAt, AreDrawn, IsAsked}

last_or : {X : Type 0} (xs : List X) (x y : X) (i : ℕ) → slice_get (xs ++ x ∷ []) i ≡ Some y → (slice_get xs i ≡ Some y) ⊎ ((i ≡ length xs) × (x ≡ y))
last_or [] x y zero e = inr (refl, cc)
last_or [] x y (suc zero) e = absurd (cc)
last_or [] x y (suc (suc i)) e = absurd (cc)
last_or (z ∷ xs) x y zero e = inl e
last_or (z ∷ xs) x y (suc i) e = ⊎_elim (λ h. inl h) (λ h. inr (ap suc h.0, h.1)) (last_or xs x y i e)

module _ (A : Automaton) (f : FoundView) where
  stays : (d : DrawingView) (token : Tok) (k : KidsView) (i : ℕ) (ds : List ℕ) → IsDrawnAt A f d i ds → IsDrawnAt A f (held d token k) i ds
  stays d token k i ds h = record {
    entry = h.entry;
    place = h.place;
    numbers = h.numbers;
    answers = h.answers;
    there = h.there;
    at = h.at;
    node = node_lasts d.nodes (record { tok = token; kids = k.numbers; answers = k.asked.own } ∷ []) i h.place.token h.numbers h.answers h.node;
    drawn = kids_last (record { tok = token; kids = k.numbers; answers = k.asked.own } ∷ []) h.drawn;
    lower = h.lower;
  }

  comes : (d : DrawingView) (token : Tok) (k : KidsView) (i : ℕ) (g : How) → IsFound A f → AreDrawn A f d → i ≡ length d.depths → IsNext f i g token → IsAsked A f d i k →
      IsDrawnAt A f (held d token k) i k.asked.depths
  comes d token k i g found drawn next n a =
      let e : IsSoundSettling A f i n.entry = found.settlings i n.entry n.there in
      let node : Node = record { tok = token; kids = k.numbers; answers = k.asked.own } in
      let tok : token ≡ e.place.token = n.has_token e.place e.there in
      let there : slice_get (d.nodes ++ node ∷ []) i ≡ Some node = ap (slice_get (d.nodes ++ node ∷ [])) (next ∙ sym drawn.many) ∙ slice_last d.nodes node in
      record {
        entry = n.entry;
        place = e.place;
        numbers = k.numbers;
        answers = k.asked.own;
        there = n.there;
        at = e.there;
        node = there ∙ ap (λ (z : Tok). Some (record { tok = z; kids = k.numbers; answers = k.asked.own })) tok;
        drawn = kids_last (node ∷ []) a.drawn;
        lower = a.lower;
      }

  pub draws : (d d' : DrawingView) (token : Tok) (k : KidsView) (i : ℕ) (g : How) → IsFound A f → AreDrawn A f d → i ≡ length d.depths → IsNext f i g token → IsAsked A f d i k →
      d' ≡ held d token k → AreDrawn A f d'
  draws d d' token k i g found drawn next n a same = subst (AreDrawn A f) (sym same) (record {
    many = length-append d.nodes (record { tok = token; kids = k.numbers; answers = k.asked.own } ∷ []) ∙ (ap (λ z. z + 1) drawn.many ∙ sym (length-append d.depths (k.asked.depths ∷ [])));
    each = λ j ds e. ⊎_elim (λ h. stays d token k j ds (drawn.each j ds h)) (λ h. here j ds h.0 h.1) (last_or d.depths k.asked.depths ds j e);
  })
    where
      here : (j : ℕ) (ds : List ℕ) → j ≡ length d.depths → k.asked.depths ≡ ds → IsDrawnAt A f (held d token k) j ds
      here j ds e h = subst (λ l. IsDrawnAt A f (held d token k) l ds) (next ∙ sym e) (subst (IsDrawnAt A f (held d token k) i) h (comes d token k i g found drawn next n a))
