-- Codes with a certificate run alike.
use Rattle.std.proofs.Common.{◌≡◌, ℕ, Bool, false, List, [], ◌∷◌, ◌++◌, length, Option, sym, subst, ◌∙◌, arith}
use Rattle.std.proofs.lemmas.List.{length-append}
use Rattle.std.specs.Prelude.{◌^◌}
use Rattle.vax_pairs.specs.vax_core.specs.declared.code.Code.{Code}
use Rattle.vax_pairs.specs.vax_machine.specs.State.{State}
use Rattle.vax_pairs.specs.vax_machine_lists.specs.Sound.{AllBelow}
use Rattle.vax_pairs.specs.Standing.{Seen, Stands}
use Rattle.vax_pairs.specs.Piecewise.{Piecewise, Meets}
use Rattle.vax_pairs.specs.Trees.{Tree, DoesTree}
use Rattle.vax_pairs.specs.TermRuns.{run_tree}
use Rattle.vax_pairs.specs.Scopes.{Scoped}
use Rattle.vax_pairs.specs.Shown.{Shown, StandsFor, Certified}
use Rattle.vax_pairs_law.specs.Laws.{CertifiedRunsAreAlike}
use Rattle.vax_pairs_law.proofs.Beginning.{piecewise_runs_are_alike}
use Rattle.vax_pairs_law.proofs.Meeting.{trees_meet}
use Rattle.vax_pairs_law.proofs.Telling.{Does}
use Rattle.vax_pairs_law.proofs.Running.{run_does}
use Rattle.vax_pairs_law.proofs.Doing.{way_from}

both_below : (bound : ℕ) (xs ys : List ℕ) → AllBelow bound xs → AllBelow bound ys → AllBelow bound (xs ++ ys)
both_below bound [] ys h g = g
both_below bound (x ∷ xs) ys h g = (h.0, both_below bound xs ys h.1 g)

module _ (Rel : Type 0) (Holds : Rel → Seen → Seen → Type 0) (At : ℕ → ℕ → ℕ → Rel → Type 0) (Ready OthersReady Fine : State → Type 0) (is_cut others_cut : ℕ → Bool) (c d : Code)
    (cert : Certified Rel Holds At Ready OthersReady Fine is_cut others_cut c d) where
  module _ (k : ℕ) (r : Rel) (m n : State) (stands : Stands Rel Holds At k r m n) (ready : Ready m) (others : OthersReady n)
      (shown : Shown Rel Holds At c d is_cut others_cut k m.place n.place r) where
    env : List ℕ
    env = m.registers ++ n.registers

    many : length env ≡ 30
    unfolding env
    many = (let a = stands.even.long in let b = stands.even.others_long in length-append m.registers n.registers ∙ omega (arith, a, b))

    both : StandsFor env shown.first m × StandsFor env shown.second n
    unfolding env
    both = shown.stands m n stands

    does : DoesTree c.items shown.tree env m m []
    does =
        subst (λ (t : Option Tree). Does c.items m t env m []) shown.runs
        (subst (λ (i : ℕ). Does c.items m (run_tree c.items c.area is_cut shown.fuel false m.place i shown.first) env m []) many
        (run_does c.items c.area is_cut m shown.fuel false m.place env m shown.first [] 0
        (record { items_are = (cert.knows.home m ready).items_are; layout_is = (cert.knows.home m ready).layout_is; going = stands.even.going })
        (subst (λ (i : ℕ). Scoped i shown.first) (sym many) shown.scoped) (way_from env m shown.first both.0) (λ e. absurd (cc))))

    others_do : DoesTree d.items shown.others_tree env n n []
    others_do =
        subst (λ (t : Option Tree). Does d.items n t env n []) shown.others_run
        (subst (λ (i : ℕ). Does d.items n (run_tree d.items d.area others_cut shown.fuel false n.place i shown.second) env n []) many
        (run_does d.items d.area others_cut n shown.fuel false n.place env n shown.second [] 0
        (record { items_are = (cert.others_know.home n others).items_are; layout_is = (cert.others_know.home n others).layout_is; going = stands.even.others_going })
        (subst (λ (i : ℕ). Scoped i shown.second) (sym many) shown.others_scoped) (way_from env n shown.second both.1) (λ e. absurd (cc))))

    small : AllBelow (2 ^ 32) env
    unfolding env
    small = both_below (2 ^ 32) m.registers n.registers (cert.knows.longwords m ready) (cert.others_know.longwords n others)

    meets : Meets Rel Holds At c.items d.items k m n
    meets =
        trees_meet Rel Holds At c.items d.items Fine cert.reading.reads cert.reading.writes cert.reading.gets cert.reading.got Ready OthersReady
        cert.invariant.goes_on cert.others_invariant.goes_on cert.knows.steady cert.others_know.steady
        m n ready others k shown.tree shown.others_tree shown.same env m n small
        (record { even = stands.even; items = (cert.knows.home m ready).items_are; others_items = (cert.others_know.home n others).items_are; fine = cert.knows.fine m ready }) [] does others_do

  piecewise : Piecewise Rel Holds At Ready OthersReady c d
  piecewise = record {
    area = cert.area;
    invariant = cert.invariant;
    others_invariant = cert.others_invariant;
    main = cert.main;
    meets = λ k r m n stands ready others. meets k r m n stands ready others (cert.shown k m.place n.place r stands.at);
  }

pub certified_runs_are_alike : CertifiedRunsAreAlike
certified_runs_are_alike Rel Holds At Ready OthersReady Fine is_cut others_cut c d cert input bytes =
    piecewise_runs_are_alike Rel Holds At Ready OthersReady c d (piecewise Rel Holds At Ready OthersReady Fine is_cut others_cut c d cert) input bytes
