-- Arguments that are pushed one at a time, the last first.
use Rattle.std.proofs.Common.{◌≡◌, ℕ, suc, Bool, List, [], ◌∷◌, ◌++◌, length, refl, ap, sym, ◌∙◌, append_assoc}
use Rattle.c_lower_scheme.specs.Trees.{Tree, Item, Loc, Push, Call, Save}
use Rattle.c_lower_scheme.specs.Parts.{InLocal}
use Rattle.c_lower_scheme.specs.Calls.{pushes, called_low, called_drop, called_deliver}
use Rattle.c_lower_scheme.proofs.Facts.{pushes_append}

pub pushes_behind : (ws : List Tree) (is : List Item) → pushes ws is ≡ pushes ws [] ++ is
pushes_behind ws is = pushes_append ws [] is

pub pushes_last : (ws : List Tree) (w : Tree) (is : List Item) → pushes (ws ++ (w ∷ [])) is ≡ Push w ∷ pushes ws is
pushes_last [] w is = refl
pushes_last (v ∷ ws) w is = pushes_last ws w (Push v ∷ is)

-- one more is pushed
pub pushed : (start now next : List Item) (all ws : List Tree) (w : Tree)
    → now ++ pushes (ws ++ (w ∷ [])) [] ≡ start ++ pushes all []
    → next ≡ now ++ (Push w ∷ [])
    → next ++ pushes ws [] ≡ start ++ pushes all []
pushed start now next all ws w so is =
    ap (λ l. l ++ pushes ws []) is ∙ append_assoc now (Push w ∷ []) (pushes ws []) ∙ ap (λ l. now ++ l) (sym (pushes_last ws w [])) ∙ so

pub called : (a b c : List Item) (ws : List Tree) (f n t l : ℕ) (quiet : Bool) → n ≡ length ws → b ≡ a ++ pushes ws [] → c ≡ b ++ (Call f n ∷ [])
    → record { items = c; temps = t; labels = l } ≡ called_drop f (record { items = a; trees = ws; quiet = quiet; temps = t; labels = l })
called a b c ws f n t l quiet count one two =
    let three = append_assoc a (pushes ws []) (Call f n ∷ []) in
    let four = pushes_behind ws (Call f n ∷ []) in
    cc

pub called_saved : (a b c d : List Item) (ws : List Tree) (w : Tree) (f n t u l : ℕ) (quiet : Bool) → u ≡ suc t → n ≡ length ws → b ≡ a ++ pushes ws [] → c ≡ b ++ (Call f n ∷ []) → d ≡ c
    ++ (Save t ∷ []) → w ≡ Loc t → record { items = d; tree = w; temps = u; labels = l } ≡ called_low f (record { items = a; trees = ws; quiet = quiet; temps = t; labels = l })
called_saved a b c d ws w f n t u l quiet next count one two three saved =
    let four = append_assoc b (Call f n ∷ []) (Save t ∷ []) in
    let five = append_assoc a (pushes ws []) (Call f n ∷ Save t ∷ []) in
    let six = pushes_behind ws (Call f n ∷ Save t ∷ []) in
    cc

pub called_filled : (a b c d : List Item) (ws : List Tree) (x f n t l : ℕ) (quiet : Bool) → n ≡ length ws → b ≡ a ++ pushes ws [] → c ≡ b ++ (Call f n ∷ []) → d ≡ c ++ (Save x ∷ [])
    → record { items = d; temps = t; labels = l } ≡ called_deliver (InLocal x) f (record { items = a; trees = ws; quiet = quiet; temps = t; labels = l })
called_filled a b c d ws x f n t l quiet count one two three =
    let four = append_assoc b (Call f n ∷ []) (Save x ∷ []) in
    let five = append_assoc a (pushes ws []) (Call f n ∷ Save x ∷ []) in
    let six = pushes_behind ws (Call f n ∷ Save x ∷ []) in
    cc
