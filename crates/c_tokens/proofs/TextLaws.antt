-- A text has the tokens that are read, and the first fault that is answered; and no others.
use Rattle.std.proofs.Common.{◌≡◌, ◌≤◌, ℕ, zero, suc, ◌+◌, ◌-◌, List, [], ◌∷◌, length, drop, Option, Result, Ok, Err, refl, sym, ◌∙◌, ap, arith, subst, length-drop}
use Rattle.std.specs.Prelude.{IfOk, IfErr}
use Rattle.std.specs.Global.{Vec}
use Rattle.c_tokens.specs.declared.pieces.Piece.{Piece}
use Rattle.c_tokens.specs.declared.token.Token.{Token}
use Rattle.c_tokens.specs.declared.token.Spanned.{Spanned}
use Rattle.c_tokens.specs.declared.token.TokenFault.{TokenFault}
use Rattle.c_tokens.specs.declared.token.TokenFault.TheVariants.{NoMemory, At}
use Rattle.c_tokens.specs.declared.token.TokenKind.{TokenKind}
use Rattle.c_tokens.specs.Pieces.{piece_of}
use Rattle.c_tokens.specs.Reading.{spanned, in_front, read_from, read, Answers}
use Rattle.c_tokens.specs.Grammar.{IsPiece, Tokens, ended, piece}
use Rattle.c_tokens.specs.Wrong.{IsWrong, FirstFault, here, behind}
use Rattle.c_tokens.specs.Answer.{IsFirstFault, AreTokens, IsFault}
use Rattle.c_tokens.proofs.PieceLaws.{PieceOk, PieceSays, piece_says}
use Rattle.c_tokens.proofs.AgainLaws.{piece_reads, wrong_reads}
use Rattle.c_tokens.proofs.Passing.{piece_then}

abbrev TextSays : ℕ → List ℕ → Result (List Spanned) TokenFault → Type 0
TextSays at text (Ok ts) = Tokens at text ts
TextSays at text (Err NoMemory) = ⊥
TextSays at text (Err (At place kind)) = FirstFault at text place kind

goes_on : (at : ℕ) (text : List ℕ) (p : Piece) → PieceOk text p → (r : Result (List Spanned) TokenFault) → TextSays (at + p.length) (drop p.length text) r
    → TextSays at text (in_front (spanned p.token at (at + p.length)) r)
goes_on at text p ok (Ok ts) s =
    let low : p.length ≤ length text = ok.within in
    piece at text p.token (drop p.length text) p.length ts ok.is (omega (arith, length-drop p.length text)) s
goes_on at text p ok (Err NoMemory) s = s
goes_on at text p ok (Err (At place kind)) s =
    let low : p.length ≤ length text = ok.within in
    behind at text p.token (drop p.length text) p.length place kind ok.is (omega (arith, length-drop p.length text)) s

text_says : (n at : ℕ) (text : List ℕ) → length text ≤ n → TextSays at text (read_from 0 at text)
text_says n at [] low = ended at
text_says zero at (b ∷ bs) low = absurd (omega arith)
text_says (suc n) at (b ∷ bs) low = step (piece_of at (b ∷ bs)) refl (piece_says at b bs)
    (λ (k : ℕ) (one : 1 ≤ k). text_says n (at + k) (drop k (b ∷ bs)) (let len : length (drop k (b ∷ bs)) ≡ suc (length bs) - k = length-drop k (b ∷ bs) in omega arith))
  where
    step : (r : Result Piece TokenFault) → piece_of at (b ∷ bs) ≡ r → PieceSays at (b ∷ bs) r
        → ((k : ℕ) → 1 ≤ k → TextSays (at + k) (drop k (b ∷ bs)) (read_from 0 (at + k) (drop k (b ∷ bs)))) → TextSays at (b ∷ bs) (read_from 0 at (b ∷ bs))
    step (Ok p) e s more = rw (piece_then at b bs p e s.some s.within) (goes_on at (b ∷ bs) p s (read_from 0 (at + p.length) (drop p.length (b ∷ bs))) (more p.length s.some))
    step (Err NoMemory) e s more = absurd s
    step (Err (At place kind)) e s more = rw e (subst (λ (p : ℕ). FirstFault at (b ∷ bs) p kind) (sym s.place_is) (here at (b ∷ bs) s.ahead kind s.is))

read_behind : (at : ℕ) (text : List ℕ) (t : Option Token) (rest : List ℕ) (n : ℕ) → IsPiece text t rest → n + length rest ≡ length text → read_from 0 at text
    ≡ in_front (spanned t at (at + n)) (read_from 0 (at + n) rest)
read_behind at [] t rest n h e = let r = piece_reads [] t rest h in let one : 1 ≤ r.taken = r.some in let low : r.taken ≤ 0 = r.within in absurd (omega arith)
read_behind at (b ∷ bs) t rest n h e =
    let r = piece_reads (b ∷ bs) t rest h in
    let len : length rest ≡ length (b ∷ bs) - r.taken = ap length (sym r.rest_is) ∙ length-drop r.taken (b ∷ bs) in
    let low : r.taken ≤ length (b ∷ bs) = r.within in
    let same : r.taken ≡ n = omega arith in
    piece_then at b bs (record { token = t; length = r.taken }) (r.read at) r.some r.within ∙ rw (r.rest_is, same) refl

tokens_read : (at : ℕ) (text : List ℕ) (ts : List Spanned) → Tokens at text ts → read_from 0 at text ≡ Ok ts
tokens_read _ _ _ (ended at) = refl
tokens_read _ _ _ (piece at text t rest n ts h e s) = rw (read_behind at text t rest n h e, tokens_read (at + n) rest ts s) refl

wrong_some : (text : List ℕ) (n : ℕ) (kind : TokenKind) (at : ℕ) → IsWrong text n kind → piece_of at text ≡ Err (At (at + n) kind) → read_from 0 at text ≡ Err (At (at + n) kind)
wrong_some [] n kind at h e = absurd (nothing n kind h)
  where
    nothing : (n : ℕ) (kind : TokenKind) → IsWrong [] n kind → ⊥
    nothing n kind h = elim h [ ]
wrong_some (b ∷ bs) n kind at h e = rw e refl

fault_read : (at : ℕ) (text : List ℕ) (place : ℕ) (kind : TokenKind) → FirstFault at text place kind → read_from 0 at text ≡ Err (At place kind)
fault_read _ _ _ _ (here at text n kind h) = wrong_some text n kind at h (wrong_reads at text n kind h)
fault_read _ _ _ _ (behind at text t rest n place kind h e s) = rw (read_behind at text t rest n h e, fault_read (at + n) rest place kind s) refl

says_all : (bytes : List ℕ) → TextSays 0 bytes (read bytes)
unfolding read
says_all bytes = text_says (length bytes) 0 bytes (omega arith)

pub found_tokens : (r : Result (Vec Spanned) TokenFault) (bytes : List ℕ) → Answers r (read bytes) → IfOk r (λ v. Tokens 0 bytes v.items)
found_tokens (Ok v) bytes a = rw a at (says_all bytes)
found_tokens (Err e) bytes a = tt

pub first_fault : (r : Result (Vec Spanned) TokenFault) (bytes : List ℕ) → Answers r (read bytes) → IfErr r (IsFirstFault bytes)
first_fault (Ok v) bytes a = tt
first_fault (Err NoMemory) bytes a = tt
first_fault (Err (At place kind)) bytes a = rw a at (says_all bytes)

same_tokens : (x y : List Spanned) (r : Result (List Spanned) TokenFault) → r ≡ Ok x → r ≡ Ok y → x ≡ y
same_tokens x y r e f = cc

other_answer : (x : List Spanned) (fault : TokenFault) (r : Result (List Spanned) TokenFault) → r ≡ Ok x → r ≡ Err fault → ⊥
other_answer x fault r e f = cc

same_fault : (p q : ℕ) (k l : TokenKind) (r : Result (List Spanned) TokenFault) → r ≡ Err (At p k) → r ≡ Err (At q l) → (p ≡ q) × (k ≡ l)
same_fault p q k l r e f = (cc, cc)

tokens_are_read : (bytes : List ℕ) (ts : List Spanned) → Tokens 0 bytes ts → read bytes ≡ Ok ts
unfolding read
tokens_are_read bytes ts h = tokens_read 0 bytes ts h

fault_is_read : (bytes : List ℕ) (place : ℕ) (kind : TokenKind) → FirstFault 0 bytes place kind → read bytes ≡ Err (At place kind)
unfolding read
fault_is_read bytes place kind h = fault_read 0 bytes place kind h

pub only_tokens : (r : Result (Vec Spanned) TokenFault) (bytes : List ℕ) → Answers r (read bytes) → (ts : List Spanned) → Tokens 0 bytes ts → AreTokens r ts
only_tokens (Ok v) bytes a ts h = same_tokens v.items ts (read bytes) a (tokens_are_read bytes ts h)
only_tokens (Err NoMemory) bytes a ts h = tt
only_tokens (Err (At place kind)) bytes a ts h = other_answer ts (At place kind) (read bytes) (tokens_are_read bytes ts h) a

pub only_fault : (r : Result (Vec Spanned) TokenFault) (bytes : List ℕ) → Answers r (read bytes) → (place : ℕ) (kind : TokenKind) → FirstFault 0 bytes place kind → IsFault r place kind
only_fault (Ok v) bytes a place kind h = other_answer v.items (At place kind) (read bytes) a (fault_is_read bytes place kind h)
only_fault (Err NoMemory) bytes a place kind h = tt
only_fault (Err (At p k)) bytes a place kind h = same_fault p place k kind (read bytes) a (fault_is_read bytes place kind h)

pub ruleset text_laws = (found_tokens, only_tokens, first_fault, only_fault)
