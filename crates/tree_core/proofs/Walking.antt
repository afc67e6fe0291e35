-- The walk over a list of leaves succeeds exactly where they are the leaves of a typed tree and one End.
use Rattle.std.proofs.Common.{◌≡◌, ◌↔◌, ◌+◌, ◌<◌, ◌^◌, List, [], ◌∷◌, ◌++◌, length, Bool, true, false, cond, ◌&&◌, IsTrue, refl, sym, ap, ◌∙◌, Some, None, arith}
use Rattle.tree_core.specs.declared.token.Tok.{Tok}
use Rattle.tree_core.specs.declared.token.Tok.TheVariants as tok
use Rattle.tree_core.specs.declared.token.Sort.{Sort}
use Rattle.tree_core.specs.declared.token.Sort.TheVariants as sort
use Rattle.tree_core.specs.declared.tree.Att.{Att}
use Rattle.tree_core.specs.declared.tree.Att.TheVariants as att
use Rattle.tree_core.specs.declared.tree.Leaf.{Leaf}
use Rattle.tree_core.specs.declared.typing.Wanted.{Wanted}
use Rattle.tree_core.specs.Grammar.{kids}
use Rattle.tree_core.specs.Attributes.{attribute_of, is_of_kind, end_leaf, is_end}
use Rattle.tree_core.specs.Trees.{Forest, none, tree, leaves_onto, stands_for, sort_fits, Typed, IsTyped, walk}
use Rattle.tree_core.specs.Wanted.{IsLast, CanPush}

pub both_true : (b c : Bool) → cond b c false ≡ true → (b ≡ true) × (c ≡ true)
both_true true c e = (refl, e)
both_true false c e = absurd cc

no_attribute : (a : Att) → is_of_kind (attribute_of tok.End) a ≡ true → a ≡ att.Nothing
no_attribute att.Nothing e = refl
no_attribute _ e = absurd cc

end_is : (t : Tok) (a : Att) → is_end (record { tok = t; att = a }) ≡ true → (let l : Leaf = record { tok = t; att = a } in l) ≡ end_leaf
end_is tok.End a e = ap (λ (b : Att). let l : Leaf = record { tok = tok.End; att = b } in l) (no_attribute a e)
end_is _ a e = absurd cc

-- trees for two lists of sorts, from those for the lists together
pub record Cut (fs bs : List Sort) (f : Forest) : Type 0 where
  pub front : Forest
  pub back : Forest
  pub front_typed : Typed fs front
  pub back_typed : Typed bs back
  pub spelled : (w : List Leaf) → leaves_onto front (leaves_onto back w) ≡ leaves_onto f w

pub cut : (fs bs : List Sort) (f : Forest) → Typed (fs ++ bs) f → Cut fs bs f
cut [] bs f h = record { front = none; back = f; front_typed = tt; back_typed = h; spelled = λ w. refl }
cut (a ∷ fs) bs none h = absurd h
cut (a ∷ fs) bs (tree l below behind) h = cut_step (cut fs bs behind h.2)
  where
    cut_step : Cut fs bs behind → Cut (a ∷ fs) bs (tree l below behind)
    cut_step c = record {
      front = tree l below c.front;
      back = c.back;
      front_typed = (h.0, h.1, c.front_typed);
      back_typed = c.back_typed;
      spelled = λ w. ap (λ (t : List Leaf). l ∷ leaves_onto below t) (c.spelled w);
    }

pub record Found (xs : List Sort) (w : List Leaf) : Type 0 where
  pub trees : Forest
  pub typed : Typed xs trees
  pub spelled : leaves_onto trees (end_leaf ∷ []) ≡ w

pub found : (xs : List Sort) (w : List Leaf) → walk xs w ≡ true → Found xs w
found [] [] e = absurd cc
found [] (l ∷ []) e = record { trees = none; typed = tt; spelled = ap (λ (m : Leaf). m ∷ []) (sym (end_is l.tok l.att e)) }
found [] (l ∷ m ∷ w) e = absurd cc
found (x ∷ xs) [] e = absurd cc
found (x ∷ xs) (l ∷ w) e =
    let g = both_true (stands_for l x) (walk (kids l.tok ++ xs) w) e in
    joined (found (kids l.tok ++ xs) w g.1) g.0
  where
    joined_cut : (f : Found (kids l.tok ++ xs) w) → Cut (kids l.tok) xs f.trees → stands_for l x ≡ true → Found (x ∷ xs) (l ∷ w)
    joined_cut f c p = record {
      trees = tree l c.front c.back;
      typed = (p, c.front_typed, c.back_typed);
      spelled = ap (λ (t : List Leaf). l ∷ t) (c.spelled (end_leaf ∷ []) ∙ f.spelled);
    }

    joined : Found (kids l.tok ++ xs) w → stands_for l x ≡ true → Found (x ∷ xs) (l ∷ w)
    joined f p = joined_cut f (cut (kids l.tok) xs f.trees f.typed) p

pub walked : (xs ys : List Sort) (f : Forest) (w : List Leaf) → Typed xs f → walk (xs ++ ys) (leaves_onto f w) ≡ walk ys w
walked [] ys none w h = refl
walked [] ys (tree l below behind) w h = absurd h
walked (x ∷ xs) ys none w h = absurd h
walked (x ∷ xs) ys (tree l below behind) w h =
    ap (λ (b : Bool). cond b (walk (kids l.tok ++ (xs ++ ys)) (leaves_onto below (leaves_onto behind w))) false) h.0
    ∙ walked (kids l.tok) (xs ++ ys) below (leaves_onto behind w) h.1
    ∙ walked xs ys behind w h.2

typed_there : (w : List Leaf) (x : Sort) (b : Bool) → b ≡ walk (x ∷ []) w → IsTrue b → IsTyped w x
typed_there w x b e t = let f = found (x ∷ []) w (sym e ∙ t) in record { trees = f.trees; typed = f.typed; spelled = f.spelled }

typed_back : (w : List Leaf) (x : Sort) (b : Bool) → b ≡ walk (x ∷ []) w → IsTyped w x → IsTrue b
typed_back w x b e h = e ∙ ap (walk (x ∷ [])) (sym h.spelled) ∙ walked (x ∷ []) [] h.trees (end_leaf ∷ []) h.typed

pub typed_exactly : (w : List Leaf) (x : Sort) (b : Bool) → b ≡ walk (x ∷ []) w → IsTrue b ↔ IsTyped w x
typed_exactly w x b e = (typed_there w x b e, typed_back w x b e)

-- where a statement stands, a statement is wanted
stmt_wanted : (x : Sort) (b : Bool) → (sort_fits (Some sort.Stmt) x && b) ≡ true → x ≡ sort.Stmt
stmt_wanted sort.Stmt b e = refl
stmt_wanted _ b e = absurd cc

-- the kids of a leaf that may stand can be kept
can_push : (t : Tok) (a : Att) (x : Sort) (w : Wanted) → stands_for (record { tok = t; att = a }) x ≡ true → w.first ≡ None → (x ≡ sort.Stmt → IsLast w) → w.longs + 1 < 2 ^ 64 → CanPush (kids t) w
can_push tok.Zero a x w e f g lt = f
can_push tok.One a x w e f g lt = f
can_push tok.Two a x w e f g lt = f
can_push tok.Four a x w e f g lt = f
can_push tok.Eight a x w e f g lt = f
can_push tok.Const a x w e f g lt = f
can_push tok.Gaddr a x w e f g lt = f
can_push tok.Loc a x w e f g lt = f
can_push tok.Arg a x w e f g lt = f
can_push tok.IndirB a x w e f g lt = (f, λ q. cc)
can_push tok.IndirW a x w e f g lt = (f, λ q. cc)
can_push tok.IndirL a x w e f g lt = (f, λ q. cc)
can_push tok.Plus a x w e f g lt = (f, (λ q. cc), lt)
can_push tok.Minus a x w e f g lt = (f, (λ q. cc), lt)
can_push tok.Mul a x w e f g lt = (f, (λ q. cc), lt)
can_push tok.Div a x w e f g lt = (f, (λ q. cc), lt)
can_push tok.Mod a x w e f g lt = (f, (λ q. cc), lt)
can_push tok.And a x w e f g lt = (f, (λ q. cc), lt)
can_push tok.Or a x w e f g lt = (f, (λ q. cc), lt)
can_push tok.Xor a x w e f g lt = (f, (λ q. cc), lt)
can_push tok.Lsh a x w e f g lt = (f, (λ q. cc), lt)
can_push tok.Rsh a x w e f g lt = (f, (λ q. cc), lt)
can_push tok.Neg a x w e f g lt = (f, λ q. cc)
can_push tok.Com a x w e f g lt = (f, λ q. cc)
can_push tok.Sxb a x w e f g lt = (f, λ q. cc)
can_push tok.Zxb a x w e f g lt = (f, λ q. cc)
can_push tok.Sxw a x w e f g lt = (f, λ q. cc)
can_push tok.Zxw a x w e f g lt = (f, λ q. cc)
can_push tok.Ncb a x w e f g lt = (f, λ q. cc)
can_push tok.Ncw a x w e f g lt = (f, λ q. cc)
can_push tok.AssignB a x w e f g lt = (f, (λ q. cc), g (stmt_wanted x (is_of_kind (attribute_of tok.AssignB) a) e))
can_push tok.AssignW a x w e f g lt = (f, (λ q. cc), g (stmt_wanted x (is_of_kind (attribute_of tok.AssignW) a) e))
can_push tok.AssignL a x w e f g lt = (f, (λ q. cc), lt)
can_push tok.Cbr a x w e f g lt = (f, (λ q. cc), lt)
can_push tok.Push a x w e f g lt = (f, λ q. cc)
can_push tok.Ret a x w e f g lt = (f, λ q. cc)
can_push tok.Call a x w e f g lt = f
can_push tok.Save a x w e f g lt = f
can_push tok.Jump a x w e f g lt = f
can_push tok.End a x w e f g lt = f

pub leaf_can_push : (l : Leaf) (x : Sort) (w : Wanted) → stands_for l x ≡ true → w.first ≡ None → (x ≡ sort.Stmt → IsLast w) → w.longs + 1 < 2 ^ 64 → CanPush (kids l.tok) w
leaf_can_push l x w = can_push l.tok l.att x w

pub no_leaf : (xs ys : List Sort) (x : Sort) (w : List Leaf) (b : Bool) → xs ≡ x ∷ ys → length w ≡ 0 → walk xs w ≡ b → false ≡ b
no_leaf xs ys x [] b e z h = ap (λ (t : List Sort). walk t []) (sym e) ∙ h
no_leaf xs ys x (l ∷ w) b e z h = absurd (omega (arith, z))

met : (xs ys : List Sort) (x : Sort) (w v : List Leaf) (l : Leaf) → xs ≡ x ∷ ys → w ≡ l ∷ v → walk xs w ≡ cond (stands_for l x) (walk (kids l.tok ++ ys) v) false
met xs ys x w v l e f = ap (λ (t : List Sort). walk t w) e ∙ ap (walk (x ∷ ys)) f

pub misfits : (xs ys : List Sort) (x : Sort) (w v : List Leaf) (l : Leaf) (b : Bool) → xs ≡ x ∷ ys → w ≡ l ∷ v → stands_for l x ≡ false → walk xs w ≡ b → false ≡ b
misfits xs ys x w v l b e f s h =
    ap (λ (t : Bool). cond t (walk (kids l.tok ++ ys) v) false) (sym s) ∙ sym (met xs ys x w v l e f) ∙ h

pub goes : (xs ys zs : List Sort) (x : Sort) (w v : List Leaf) (l : Leaf) (b : Bool) → xs ≡ x ∷ ys → w ≡ l ∷ v → stands_for l x ≡ true → zs ≡ kids l.tok ++ ys → walk xs w ≡ b → walk zs v ≡ b
goes xs ys zs x w v l b e f s z h =
    ap (λ (t : List Sort). walk t v) z
    ∙ ap (λ (t : Bool). cond t (walk (kids l.tok ++ ys) v) false) (sym s)
    ∙ sym (met xs ys x w v l e f)
    ∙ h

pub ended : (xs : List Sort) (w : List Leaf) (r b : Bool) → xs ≡ [] → r ≡ walk [] w → walk xs w ≡ b → r ≡ b
ended xs w r b e f h = f ∙ ap (λ (t : List Sort). walk t w) (sym e) ∙ h
