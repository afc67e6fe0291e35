-- The stack holds what the trees stand for.
use Rattle.std.proofs.Common.{◌≡◌, ℕ, suc, ◌+◌, List, [], ◌∷◌, ◌++◌, length, Bool, sym, ap, ◌∙◌, refl, subst, arith}
use Rattle.std.specs.Prelude.{IfOk, Result, Ok, Err}
use mathlib.Core.List.{append-nil}
use Rattle.tree_core.specs.declared.token.Sort.{Sort}
use Rattle.tree_core.specs.declared.token.Tok.{Tok}
use Rattle.tree_core.specs.declared.token.Tok.TheVariants as tok
use Rattle.tree_core.specs.Grammar.{kids}
use Rattle.md_reader.specs.declared.types.Class.{Class}
use Rattle.md_reader.specs.declared.types.Rule.{Rule}
use Rattle.md_reader.specs.declared.types.Sym.{Sym}
use Rattle.md_reader.specs.declared.types.Sym.TheVariants as grammar_symbol
use Rattle.md_reader.specs.Patterns.{kind_at, kids_of, Trees, no_tree, node, onto, any_test}
use Rattle.sel_terms.specs.declared.effect.Effect.{Effect}
use Rattle.sel_terms.specs.declared.role.Role.{Role}
use Rattle.sel_terms.specs.declared.role.Role.TheVariants as role
use Rattle.sel_terms.specs.Effects.{EffectShape, effect_of}
use Rattle.sel_terms.specs.Parts.{SubtreeShape, role_of_token, role_of}
use Rattle.sel_terms.specs.Wanted.{made, symbols_in, parts, first_part, whole, IsWanted}
use Rattle.sel_terms.specs.Reading.{step, stack_from, effect_read}

abbrev arity : Role → ℕ
arity (role.Leaf r) = 0
arity (role.One r) = 1
arity (role.Two r) = 2

-- a symbol has as many kids as its role takes
arity_of_token : (t : Tok) → length (kids t) ≡ arity (role_of_token t)
arity_of_token tok.Zero = refl
arity_of_token tok.One = refl
arity_of_token tok.Two = refl
arity_of_token tok.Four = refl
arity_of_token tok.Eight = refl
arity_of_token tok.Const = refl
arity_of_token tok.Gaddr = refl
arity_of_token tok.Loc = refl
arity_of_token tok.Arg = refl
arity_of_token tok.IndirB = refl
arity_of_token tok.IndirW = refl
arity_of_token tok.IndirL = refl
arity_of_token tok.Plus = refl
arity_of_token tok.Minus = refl
arity_of_token tok.Mul = refl
arity_of_token tok.Div = refl
arity_of_token tok.Mod = refl
arity_of_token tok.And = refl
arity_of_token tok.Or = refl
arity_of_token tok.Xor = refl
arity_of_token tok.Lsh = refl
arity_of_token tok.Rsh = refl
arity_of_token tok.Neg = refl
arity_of_token tok.Com = refl
arity_of_token tok.Sxb = refl
arity_of_token tok.Zxb = refl
arity_of_token tok.Sxw = refl
arity_of_token tok.Zxw = refl
arity_of_token tok.Ncb = refl
arity_of_token tok.Ncw = refl
arity_of_token tok.AssignB = refl
arity_of_token tok.AssignW = refl
arity_of_token tok.AssignL = refl
arity_of_token tok.Cbr = refl
arity_of_token tok.Push = refl
arity_of_token tok.Ret = refl
arity_of_token tok.Call = refl
arity_of_token tok.Save = refl
arity_of_token tok.Jump = refl
arity_of_token tok.End = refl

arity_of : (classes : List Class) (s : Sym) → length (kids_of s) ≡ arity (role_of classes s)
arity_of classes (grammar_symbol.Tok t) = arity_of_token t
arity_of classes (grammar_symbol.Class c) = refl

-- a symbol takes its kids from the stack and leaves what it makes of them
step_made : (i : ℕ) (r : Role) (kids rest : List SubtreeShape) → length kids ≡ arity r → step i r (kids ++ rest) ≡ made i r kids ∷ rest
step_made i (role.Leaf r) [] rest e = refl
step_made i (role.One r) (k ∷ []) rest e = refl
step_made i (role.Two r) (k ∷ l ∷ []) rest e = refl
step_made i _ _ rest e = absurd (omega arith)

module _ (classes : List Class) (ok : Sym → Sort → Bool) where
  parts_count : {xs : List Sort} (f : Trees ok xs) (i : ℕ) → length (parts classes f i) ≡ length xs
  parts_count no_tree i = refl
  parts_count (node s passes below beside) i = ap (λ n. suc n) (parts_count beside (i + 1 + symbols_in below))

  stack_parts : {xs : List Sort} (f : Trees ok xs) (i : ℕ) (w : List Sym) → stack_from classes i (onto f w) ≡ parts classes f i ++ stack_from classes (i + symbols_in f) w
  stack_parts no_tree i w = let e : i ≡ i + 0 = omega arith in ap (λ n. stack_from classes n w) e
  stack_parts (node s passes below beside) i w =
      let behind : ℕ = i + 1 + symbols_in below in
      let last : behind + symbols_in beside ≡ i + (1 + symbols_in below + symbols_in beside) = omega arith in
      let made_here = made i (role_of classes s) (parts classes below (i + 1)) in
      ap (step i (role_of classes s)) (stack_parts below (i + 1) (onto beside w))
      ∙ step_made i (role_of classes s) (parts classes below (i + 1)) (stack_from classes behind (onto beside w)) (parts_count below (i + 1) ∙ arity_of classes s)
      ∙ ap (λ x. made_here ∷ x) (stack_parts beside behind w ∙ ap (λ n. parts classes beside behind ++ stack_from classes n w) last)

abbrev effect_from : List Class → ℕ → SubtreeShape → EffectShape
effect_from classes left s = record { act = whole (kind_at classes left) s.part; divisors = s.divisors }

pub read_is_wanted : (classes : List Class) (rule : Rule) → IsWanted classes rule (effect_read classes rule)
read_is_wanted classes rule tree e =
    ap (λ w. effect_from classes rule.left (first_part (stack_from classes 1 w))) (sym e)
    ∙ ap (λ x. effect_from classes rule.left (first_part x)) (stack_parts classes any_test tree 1 [] ∙ append-nil (parts classes tree 1))

-- an answer that is what is read off is what is wanted
pub answer_wanted : {E : Type 0} (classes : List Class) (rule : Rule) (r : Result Effect E) → IfOk r (λ e. effect_of e ≡ effect_read classes rule) → IfOk r (λ e. IsWanted classes rule (effect_of e))
answer_wanted classes rule (Ok x) h = subst (λ (e : EffectShape). IsWanted classes rule e) (sym h) (read_is_wanted classes rule)
answer_wanted classes rule (Err f) h = tt
