-- Strings are read exactly as they are written.
use Rattle.std.proofs.Common.{◌≡◌, ◌≢◌, ◌≤◌, ℕ, zero, suc, pred, ◌+◌, ◌-◌, Bool, true, false, cond, eqb, List, [], ◌∷◌, length, drop, Option, Some, None, Result, Ok, Err, refl, sym, ◌∙◌}
use Rattle.std.proofs.Common.{ap, arith, subst, length-drop}
use Rattle.std.proofs.lemmas.Bool.{eqb-true, eqb-false}
use Rattle.std.proofs.lemmas.List.{drop-drop}
use Rattle.c_tokens.specs.declared.token.TokenFault.{TokenFault}
use Rattle.c_tokens.specs.declared.token.TokenFault.TheVariants.{NoMemory, At}
use Rattle.c_tokens.specs.declared.token.TokenKind.{TokenKind}
use Rattle.c_tokens.specs.declared.token.TokenKind.TheVariants.{BadEscape, Unclosed}
use Rattle.c_tokens.specs.Escapes.{element_of}
use Rattle.c_tokens.specs.Pieces.{string_from, put_value, element_then, wrong}
use Rattle.c_tokens.specs.Grammar.{IsElement, Elements, none, more}
use Rattle.c_tokens.specs.Wrong.{NoEscape, AtLineEnd}
use Rattle.c_tokens.proofs.EscapeLaws.{element_is, element_none, ElementRead, element_reads}
use Rattle.c_tokens.proofs.Strings.{so_far, string_skip, element_step}

pub record StringOk (text : List ℕ) (x : List ℕ × ℕ) : Type 0 where
  pub is : Elements 34 text x.0 (34 ∷ drop x.1 text)
  pub some : 1 ≤ x.1
  pub within : x.1 ≤ length text

pub data StringBad (o at : ℕ) : List ℕ → ℕ → TokenKind → Type 0 where
  unclosed : (text vs rest : List ℕ) → Elements 34 text vs rest → AtLineEnd rest → StringBad o at text o Unclosed
  slash : (text vs rest : List ℕ) (n : ℕ) → Elements 34 text vs (92 ∷ rest) → NoEscape rest → n + length (92 ∷ rest) ≡ length text → StringBad o at text (at + n) BadEscape

abbrev pub StringSays : ℕ → ℕ → List ℕ → Result (List ℕ × ℕ) TokenFault → Type 0
StringSays o at text (Ok x) = StringOk text x
StringSays o at text (Err NoMemory) = ⊥
StringSays o at text (Err (At place kind)) = StringBad o at text place kind

extend_bad : (o at b k v : ℕ) (bs : List ℕ) (a : ℕ) (middle : List ℕ) (place : ℕ) (kind : TokenKind) → IsElement 34 (b ∷ bs) v (drop k bs) → k ≤ length bs → a ≡ at + suc k → middle
    ≡ drop k bs → StringBad o a middle place kind → StringBad o at (b ∷ bs) place kind
extend_bad o at b k v bs a _ _ _ e low ea em (unclosed text vs rest s l) = unclosed (b ∷ bs) (v ∷ vs) rest (more (b ∷ bs) v text vs rest (rw em e) s) l
extend_bad o at b k v bs a _ _ _ e low ea em (slash text vs rest n s l f) =
    let len : length text ≡ length bs - k = ap length em ∙ length-drop k bs in
    let whole : n + length (92 ∷ rest) ≡ length text = f in
    let place : a + n ≡ at + (suc k + n) = omega arith in
    rw place (slash (b ∷ bs) (v ∷ vs) rest (suc k + n) (more (b ∷ bs) v text vs (92 ∷ rest) (rw em e) s) l (omega arith))

extend : (o at b k v : ℕ) (bs : List ℕ) → IsElement 34 (b ∷ bs) v (drop k bs) → k ≤ length bs → (r : Result (List ℕ × ℕ) TokenFault) → StringSays o (at + suc k) (drop k bs) r
    → StringSays o at (b ∷ bs) (put_value v (so_far [] k r))
extend o at b k v bs e low (Ok x) s =
    let len : length (drop k bs) ≡ length bs - k = length-drop k bs in
    let within : x.1 ≤ length (drop k bs) = s.within in
    record {
      is = more (b ∷ bs) v (drop k bs) x.0 (34 ∷ drop (k + x.1) bs) e (rw (← drop-drop x.1 k bs) s.is);
      some = omega arith;
      within = omega arith;
    }
extend o at b k v bs e low (Err NoMemory) s = s
extend o at b k v bs e low (Err (At place kind)) s = extend_bad o at b k v bs (at + suc k) (drop k bs) place kind e low refl refl s

-- what is read is so written, or wrong
pub string_says : (n o at : ℕ) (text : List ℕ) → length text ≤ n → StringSays o at text (string_from o at 0 text)
string_says n o at [] low = unclosed [] [] [] (none []) tt
string_says zero o at (b ∷ bs) low = absurd (omega arith)
string_says (suc n) o at (b ∷ bs) low = step (eqb b 34) (eqb b 10) refl refl (λ (k : ℕ) (l : k ≤ length bs). string_says n o (at + suc k) (drop k bs) (omega (arith, length-drop k bs)))
  where
    element : b ≢ 34 → b ≢ 10 → (x : Option (ℕ × ℕ)) → element_of (b ∷ bs) ≡ x
        → ((k : ℕ) → k ≤ length bs → StringSays o (at + suc k) (drop k bs) (string_from o (at + suc k) 0 (drop k bs)))
        → StringSays o at (b ∷ bs) (element_then at x (λ (k : ℕ). string_from o (suc at) k bs))
    element other line None e behind =
        let h = element_none b bs e in
        let place : at + 0 ≡ at = omega arith in
        subst (λ (p : ℕ). StringBad o at (b ∷ bs) p BadEscape) place (slash (b ∷ bs) [] bs 0 (rw h.0 (none (92 ∷ bs))) h.1 (omega arith))
    element other line (Some x) e behind = taken x.1 refl
      where
        taken : (m : ℕ) → x.1 ≡ m → StringSays o at (b ∷ bs) (put_value x.0 (string_from o (suc at) (pred m) bs))
        taken zero f = let r = element_is 34 b bs x line other e in let some : 1 ≤ x.1 = r.some in absurd (omega arith)
        taken (suc k) f =
            let r = element_is 34 b bs x line other e in
            let within : x.1 ≤ suc (length bs) = r.within in
            let low : k ≤ length bs = omega arith in
            let here : suc at + k ≡ at + suc k = omega arith in
            let is : IsElement 34 (b ∷ bs) x.0 (drop k bs) = rw f at r.is in
            rw (string_skip o (suc at) k bs low, here) (extend o at b k x.0 bs is low (string_from o (at + suc k) 0 (drop k bs)) (behind k low))

    step : (t u : Bool) → eqb b 34 ≡ t → eqb b 10 ≡ u → ((k : ℕ) → k ≤ length bs → StringSays o (at + suc k) (drop k bs) (string_from o (at + suc k) 0 (drop k bs)))
        → StringSays o at (b ∷ bs) (cond t (Ok ([], 1)) (cond u (wrong o Unclosed) (element_then at (element_of (b ∷ bs)) (λ (k : ℕ). string_from o (suc at) k bs))))
    step true u e f behind = record { is = rw (eqb-true b 34 e) (none (34 ∷ bs)); some = omega arith; within = omega arith }
    step false true e f behind = unclosed (b ∷ bs) [] (b ∷ bs) (none (b ∷ bs)) (eqb-true b 10 f)
    step false false e f behind = element (eqb-false b 34 e) (eqb-false b 10 f) (element_of (b ∷ bs)) refl behind

-- what is so written is read
pub record ElementsRead (text vs rest : List ℕ) : Type 0 where
  pub taken : ℕ
  pub rest_is : drop taken text ≡ rest
  pub within : taken ≤ length text
  pub read : (o at : ℕ) → string_from o at 0 text ≡ so_far vs taken (string_from o (at + taken) 0 rest)

pub as_is : (r : Result (List ℕ × ℕ) TokenFault) → so_far [] 0 r ≡ r
as_is (Ok x) = let e : 0 + x.1 ≡ x.1 = omega arith in rw e refl
as_is (Err e) = refl

after : (v k n : ℕ) (vs : List ℕ) (r : Result (List ℕ × ℕ) TokenFault) → so_far (v ∷ []) (suc k) (so_far vs n r) ≡ so_far (v ∷ vs) (suc k + n) r
after v k n vs (Ok x) = let e : suc k + (n + x.1) ≡ suc k + n + x.1 = omega arith in rw e refl
after v k n vs (Err e) = refl

pub elements_read : (text vs rest : List ℕ) → Elements 34 text vs rest → ElementsRead text vs rest
elements_read _ _ _ (none rest) = record { taken = 0; rest_is = refl; within = omega arith; read = λ o at. string_skip o at 0 rest (omega arith) }
elements_read _ _ _ (more text v middle vs rest e s) =
    let r = element_reads 34 text v middle refl e in
    let i = elements_read middle vs rest s in
    let len : length middle ≡ length r.others - r.behind = ap length (sym r.rest_is) ∙ length-drop r.behind r.others in
    let low : i.taken ≤ length middle = i.within in
    let within : r.behind ≤ length r.others = r.within in
    subst (λ (t : List ℕ). ElementsRead t (v ∷ vs) rest) (sym r.text_is) (record {
      taken = suc r.behind + i.taken;
      rest_is = let sums : suc r.behind + i.taken ≡ suc (r.behind + i.taken) = omega arith in rw (sums, ← drop-drop i.taken r.behind r.others, r.rest_is) i.rest_is;
      within = omega arith;
      read = λ o at. first o at r i;
    })
  where
    first : (o at : ℕ) → (r : ElementRead 34 text v middle) (i : ElementsRead middle vs rest) → string_from o at 0 (r.first ∷ r.others)
        ≡ so_far (v ∷ vs) (suc r.behind + i.taken) (string_from o (at + (suc r.behind + i.taken)) 0 rest)
    first o at r i =
        let sums : at + (suc r.behind + i.taken) ≡ at + suc r.behind + i.taken = omega arith in
        let none_yet : 0 + suc r.behind ≡ suc r.behind = omega arith in
        let step : so_far (v ∷ []) (0 + suc r.behind) (string_from o (at + suc r.behind) 0 (drop r.behind r.others))
        ≡ so_far [] 0 (string_from o at 0 (r.first ∷ r.others)) = element_step o at 0 [] r.first v r.behind r.others r.no_mark r.no_line r.read r.within in
        sym (as_is (string_from o at 0 (r.first ∷ r.others))) ∙ (sym step ∙ rw (none_yet, r.rest_is, i.read o (at + suc r.behind), after, sums) refl)
