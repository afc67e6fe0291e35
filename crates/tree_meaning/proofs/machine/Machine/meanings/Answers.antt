use Rattle.std.proofs.Common.{rules, ◌≡◌, [], ◌∷◌, ◌++◌, map, reverse, ap, ◌∙◌}
use Rattle.std.proofs.lemmas.List.{map-append, reverse-append}
use Rattle.tree_meaning.proofs.machine.Machine.meanings.Goals as goal

pub loop-leaf-preserved : goal.loop-leaf-preserved
loop-leaf-preserved c =
    let read = c.loop-leaf.yielded in
    let leaf = c.in-Some.leaf in
    let more : reverse (map (λ y. y.now) (read ++ leaf ∷ [])) ≡ leaf.now ∷ reverse (map (λ y. y.now) read) =
    ap reverse (map-append (λ y. y.now) read (leaf ∷ [])) ∙ reverse-append (map (λ y. y.now) read) (leaf.now ∷ []) in
    rw more (search rules)
