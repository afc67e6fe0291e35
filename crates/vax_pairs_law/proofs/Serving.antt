-- The tree of a call of a service says what the machine does.
use Rattle.std.proofs.Common.{◌≡◌, ℕ, ◌+◌, List, [], ◌∷◌, ◌++◌, length, Option, None, Some, Result, Ok, refl, sym, ap, subst, ◌∙◌, arith}
use Rattle.std.proofs.Math.Seq.{get_or-append_seam}
use Rattle.std.proofs.lemmas.List.{length-append}
use Rattle.std.specs.Prelude.{◌%◌, ◌^◌}
use Rattle.vax_pairs.specs.gg_base.specs.Arithmetic.{add32}
use Rattle.vax_pairs.specs.gg_base.specs.declared.size.Size.TheVariants.{Long}
use Rattle.vax_pairs.specs.term_core.specs.declared.operator.UnaryOp.TheVariants.{Zx8}
use Rattle.vax_pairs.specs.term_core.specs.declared.operator.BinaryOp.TheVariants.{Add}
use Rattle.vax_pairs.specs.term_core.specs.Shape.{Shape, Constant, Symbol, Unary, Binary}
use Rattle.vax_pairs.specs.vax_core.specs.declared.register.Reg.TheVariants.{R0, Sp}
use Rattle.vax_pairs.specs.vax_core.specs.declared.code.AreaItem.{AreaItem}
use Rattle.vax_pairs.specs.vax_core.specs.declared.code.CodeItem.{CodeItem}
use Rattle.vax_pairs.specs.vax_machine.specs.declared.turn.Stop.{Stop}
use Rattle.vax_pairs.specs.vax_machine.specs.State.{State, with_reg, cleared, with_conditions, ◌>>=◌}
use Rattle.vax_pairs.specs.vax_machine.specs.Memory.{read, register_set}
use Rattle.vax_pairs.specs.vax_machine.specs.Calls.{Acts, got}
use Rattle.vax_pairs.specs.vax_machine.specs.Step.{act}
use Rattle.vax_pairs.specs.Ways.{Way}
use Rattle.vax_pairs.specs.Events.{worth, Puts, next_byte, bytes_behind}
use Rattle.vax_pairs.specs.TermStates.{TermState, dressed}
use Rattle.vax_pairs.specs.Trees.{Tree}
use Rattle.vax_pairs.specs.Scopes.{Under, Scoped}
use Rattle.vax_pairs.specs.TermOperands.{in_register, before, holding, set_register}
use Rattle.vax_pairs.specs.TermRuns.{uncoded, put_tree, get_tree}
use Rattle.vax_pairs_law.proofs.Telling.{extends_one, worth_more, scoped_more, dressed_more, Does, reads_says, gets_says, puts_says}
use Rattle.vax_pairs_law.proofs.Telling.{Says as TreeSays}
use Rattle.vax_pairs_law.proofs.Operating.{register_under, read_dressed, holding_scoped, holding_is, held_says}
use Rattle.vax_pairs_law.proofs.Computing.{Home}

uncoded_scoped : (n : ℕ) (s : TermState) → Scoped n s → Scoped n (uncoded s)
uncoded_scoped n s h = record { registers = h.registers; signs = tt; carry = (tt, tt) }

-- a byte is written, and r0 is that byte
abbrev pub putting : ℕ → State → Acts
putting v n = Ok (Some (v % 2 ^ 8), with_conditions (with_reg n R0 (v % 2 ^ 8)) cleared)

got_is : (m : State) (i : List ℕ) → with_conditions (with_reg (record m { input = bytes_behind i }) R0 (next_byte i)) cleared ≡ got (record m { input = i }) i
got_is m [] = refl
got_is m (b ∷ bytes) = refl

module _ (items : List CodeItem) (layout : List AreaItem) (x x0 : State) (said : List ℕ) (k0 : ℕ) (way : Way x0 x said k0) (going : x0.over ≡ None) (p : ℕ)
    (rest : ℕ → TermState → Option Tree) where
  abbrev Says : Option Tree → List ℕ → State → Acts → Type 0
  Says t env m r = TreeSays items x x0 said k0 way going t env m r

  -- the rest says what comes behind
  abbrev pub Next : Type 0
  Next = (env : List ℕ) (n : ℕ) (m : State) (s : TermState) → length env ≡ n → Home items layout m → Scoped n s → Says (rest n s) env m (Ok (None, dressed env m p s))

  -- the rest says what comes behind where a byte is written
  abbrev pub NextWrote : Type 0
  NextWrote = (env : List ℕ) (n : ℕ) (m : State) (s : TermState) (b : ℕ) → length env ≡ n → Home items layout m → Scoped n s → act x0 ≡ Ok (Some b, dressed env m p s)
      → Does items x (rest n s) env m (said ++ b ∷ [])

  module _ (env : List ℕ) (m : State) (home : Home items layout m) (s : TermState) (h : Scoped (length env) s) where
    more_long : (v : ℕ) → length (env ++ v ∷ []) ≡ length env + 1
    more_long v = length-append env (v ∷ [])

    more_scoped : (v : ℕ) (z : TermState) → Scoped (length env) z → Scoped (length env + 1) z
    more_scoped v z g = subst (λ (i : ℕ). Scoped i z) (more_long v) (scoped_more env (env ++ v ∷ []) z (extends_one env v) g)

    there : (v : ℕ) → worth (env ++ v ∷ []) (Symbol (length env)) ≡ v
    there v = get_or-append_seam env v [] 0

    -- ---- getchar

    input_behind : State
    input_behind = record m { input = bytes_behind m.input }

    abbrev got_state : TermState
    got_state = uncoded (holding s 0 (Symbol (length env)))

    got_so : dressed (env ++ next_byte m.input ∷ []) input_behind p got_state ≡ got (dressed env m p s) m.input
    unfolding input_behind
    got_so =
        let v : ℕ = next_byte m.input in
        let more : List ℕ = env ++ v ∷ [] in
        ap (λ (z : State). with_conditions z cleared) (holding_is more input_behind p s R0 (Symbol (length env)))
        ∙ ap (λ (b : ℕ). with_conditions (with_reg (dressed more input_behind p s) R0 b) cleared) (there v)
        ∙ ap (λ (z : State). with_conditions (with_reg z R0 v) cleared) (dressed_more env more input_behind p s (extends_one env v) h)
        ∙ got_is (dressed env m p s) m.input

    pub get_says : Next → Says (get_tree (length env) s rest) env m (Ok (None, got (dressed env m p s) m.input))
    unfolding input_behind
    get_says next =
        gets_says items x x0 said k0 way going (rest (length env + 1) got_state) env m _
        (subst (λ (z : State). Says (rest (length env + 1) got_state) (env ++ next_byte m.input ∷ []) input_behind (Ok (None, z))) got_so
        (next (env ++ next_byte m.input ∷ []) (length env + 1) input_behind got_state (more_long (next_byte m.input))
        (record { items_are = home.items_are; layout_is = home.layout_is; going = home.going })
        (uncoded_scoped (length env + 1) (holding s 0 (Symbol (length env)))
        (holding_scoped (length env + 1) s 0 (Symbol (length env)) (more_scoped (next_byte m.input) s h) (omega arith)))))

    -- ---- putchar

    abbrev top : Shape
    top = in_register s Sp

    abbrev popped : Shape
    popped = Binary Add (in_register s Sp) (Constant 4)

    abbrev byte : Shape
    byte = Unary Zx8 (Symbol (length env))

    abbrev put_state : TermState
    put_state = uncoded (holding (holding s 14 popped) 0 byte)

    put_so : (v : ℕ) → putting v (dressed (env ++ v ∷ []) m p (holding s 14 popped)) ≡ Ok (Some (worth (env ++ v ∷ []) byte), dressed (env ++ v ∷ []) m p put_state)
    put_so v =
        let more : List ℕ = env ++ v ∷ [] in
        ap (λ (i : ℕ). putting i (dressed more m p (holding s 14 popped))) (sym (there v))
        ∙ ap (λ (z : State). Ok (Some (worth more byte), with_conditions z cleared)) (sym (holding_is more m p (holding s 14 popped) R0 byte))

    popped_under : Under (length env) popped
    popped_under = (register_under (length env) s Sp h, tt)

    put_behind : (v : ℕ) → NextWrote
        → Says (set_register s Sp popped (λ z. before (Puts byte) (rest (length env + 1) (uncoded (holding z 0 byte))))) (env ++ v ∷ []) m
        (register_set (dressed env m p s) Sp (add32 (worth env top) 4) >>= putting v)
    put_behind v next =
        let more : List ℕ = env ++ v ∷ [] in
        let tree : Option Tree = set_register s Sp popped (λ z. before (Puts byte) (rest (length env + 1) (uncoded (holding z 0 byte)))) in
        subst (λ (z : State). Says tree more m (register_set z Sp (add32 (worth env top) 4) >>= putting v)) (dressed_more env more m p s (extends_one env v) h)
        (subst (λ (i : ℕ). Says tree more m (register_set (dressed more m p s) Sp i >>= putting v)) (worth_more env more popped (extends_one env v) popped_under)
        (held_says items x x0 said k0 way going p more m s Sp popped (λ z. before (Puts byte) (rest (length env + 1) (uncoded (holding z 0 byte)))) (putting v)
        (puts_says items x x0 said k0 way going byte (rest (length env + 1) put_state) more m _
        (λ is. next more (length env + 1) m put_state (worth more byte) (more_long v) home
        (uncoded_scoped (length env + 1) (holding (holding s 14 popped) 0 byte)
        (holding_scoped (length env + 1) (holding s 14 popped) 0 byte
        (more_scoped v (holding s 14 popped) (holding_scoped (length env) s 14 popped h popped_under)) (omega arith)))
        (is ∙ put_so v)))))

    pub put_says : (v : ℕ) → v ≡ worth env top → NextWrote → Says (put_tree (length env) s rest) env m
        (read (dressed env m p s) v Long >>= λ (b : ℕ). register_set (dressed env m p s) Sp (add32 v 4) >>= putting b)
    put_says v same next =
        subst (λ (i : ℕ). Says (put_tree (length env) s rest) env m (read (dressed env m p s) i Long >>= λ (b : ℕ). register_set (dressed env m p s) Sp (add32 i 4) >>= putting b)) (sym same)
        (reads_says items x x0 said k0 way going Long top (set_register s Sp popped (λ z. before (Puts byte) (rest (length env + 1) (uncoded (holding z 0 byte))))) env m _
        (λ b e. subst (λ (r : Acts). Says (set_register s Sp popped (λ z. before (Puts byte) (rest (length env + 1) (uncoded (holding z 0 byte))))) (env ++ b ∷ []) m r)
        (sym (ap (λ (r : Result ℕ Stop). r >>= λ (b : ℕ). register_set (dressed env m p s) Sp (add32 (worth env top) 4) >>= putting b) (read_dressed env m p s (worth env top) Long ∙ e)))
        (put_behind b next))
        (λ q e. ap (λ (r : Result ℕ Stop). r >>= λ (b : ℕ). register_set (dressed env m p s) Sp (add32 (worth env top) 4) >>= putting b) (read_dressed env m p s (worth env top) Long ∙ e)))
