use Rattle.std.proofs.Common.{ℕ, List, [], ◌∷◌, ◌++◌, replicate, sym, ◌∙◌, ap}
use Rattle.vax_codes.proofs.Gathering.{replicate_more}
use Rattle.vax_codes.proofs.sources.Sources.none.Goals as goal

pub loop-preserved : goal.loop-preserved
loop-preserved c =
    c.in_ok-push.ensures.items
    ∙ ap (λ (xs : List (List ℕ)). xs ++ c.new.result ∷ []) c.loop.invariant
    ∙ ap (λ (x : List ℕ). replicate c.loop.counter [] ++ x ∷ []) c.new.ensures
    ∙ sym (replicate_more c.loop.counter [])
