-- No two answers stand for one tree.
use Rattle.std.proofs.Common.{◌≡◌, ℕ, List, [], Some, None, ap, arith}
use Rattle.tree_core.specs.declared.tree.Leaf.{Leaf}
use Rattle.tree_core.specs.declared.program.TreeProgram.{TreeProgram}
use Rattle.md_reader.specs.State.{Content}
use Rattle.lr_tables.specs.Statements.{stmt_of}
use Rattle.sel_parse_desk.specs.lr_check_parse.specs.Moves.{Move, Ending, Accepts, Blocks, Loops, Refuses}
use Rattle.sel_parse_desk.specs.lr_check_parse.specs.Attributes.{by_attributes}
use Rattle.sel_parse_desk.specs.lr_check_parse.proofs.OneWay.{parse_one_way}
use Rattle.sel_target.specs.Meaning.{Meaning}
use Rattle.sel_parse_desk.specs.Selected.{Kept, selecting, start, Parsed, Selected, FrameFull, Blocked, blocks, circles, lacks}
use Rattle.sel_parse.specs.Exclusive.{HasOneCode, IsNotFull, IsNotBlocked, IsOneRefusal}

module _ {O I S F : Type 0} (of : Meaning O I S F) where
  -- which end it is
  abbrev number_of : Ending (Kept O I) → ℕ
  number_of (Accepts (Some x)) = 0
  number_of (Accepts None) = 1
  number_of Refuses = 2
  number_of (Blocks at) = 3
  number_of (Loops at) = 4

  abbrev code_in : List I → Ending (Kept O I) → List I
  code_in c (Accepts (Some x)) = x.code
  code_in c e = c

  abbrev most_in : ℕ → Ending (Kept O I) → ℕ
  most_in n (Accepts (Some x)) = x.most
  most_in n e = n

  one_end : (q : TreeProgram) (d : Content) (first : ℕ) (w : List Leaf) (log log' : List (Move Leaf)) (e e' : Ending (Kept O I))
      → Parsed of q d first w log e → Parsed of q d first w log' e' → e ≡ e'
  one_end q d first w log log' e e' p p' =
      (parse_one_way (by_attributes (selecting of q d first)) d.rules (stmt_of d.classes) 0 [] w [] (start of q d first) log log' e e' p p').1

  pub has_one_code : HasOneCode of
  has_one_code q d first w code code' most most' s t =
      let e = one_end q d first w _ _ _ _ s.parsed t.parsed in
      (ap (code_in []) e, ap (most_in 0) e)

  pub is_not_full : IsNotFull of
  is_not_full q d first w code most s f =
      let e : 0 ≡ 2 = ap number_of (one_end q d first w _ _ _ _ s.parsed f.parsed) in
      omega (arith, e)

  pub is_not_blocked : IsNotBlocked of
  is_not_blocked q d first w code most s (blocks log at p) = let e : 0 ≡ 3 = ap number_of (one_end q d first w _ _ _ _ s.parsed p) in omega (arith, e)
  is_not_blocked q d first w code most s (circles log at p) = let e : 0 ≡ 4 = ap number_of (one_end q d first w _ _ _ _ s.parsed p) in omega (arith, e)
  is_not_blocked q d first w code most s (lacks log p) = let e : 0 ≡ 1 = ap number_of (one_end q d first w _ _ _ _ s.parsed p) in omega (arith, e)

  pub is_one_refusal : IsOneRefusal of
  is_one_refusal q d first w f (blocks log at p) = let e : 2 ≡ 3 = ap number_of (one_end q d first w _ _ _ _ f.parsed p) in omega (arith, e)
  is_one_refusal q d first w f (circles log at p) = let e : 2 ≡ 4 = ap number_of (one_end q d first w _ _ _ _ f.parsed p) in omega (arith, e)
  is_one_refusal q d first w f (lacks log p) = let e : 2 ≡ 1 = ap number_of (one_end q d first w _ _ _ _ f.parsed p) in omega (arith, e)
