-- A generated source is the text of its words, and has their tokens.
use Rattle.std.proofs.Common.{◌≡◌, ◌≤◌, ℕ, zero, suc, ◌+◌, ◌*◌, List, [], ◌++◌, refl, sym, subst, ap, ◌∙◌, arith, append_assoc, codes}
use Rattle.std.specs.Fmt.{decimal}
use Rattle.c_tokens.specs.Grammar.{Tokens}
use Rattle.gg_load.specs.Source.{up_to, function_line, call_line, source_text}
use Rattle.gg_load_tokens.specs.Words.{Word, spelled}
use Rattle.gg_load_tokens.specs.Lines.{first_words, function_words, main_words, call_words, letter_words, last_words, words_up_to, source_words, source_tokens}
use Rattle.gg_load_tokens.proofs.Reading.{AreRead, spelled-append, are_read-append, lines_are_read, tokens_of_words}
use Rattle.gg_load_tokens.proofs.Lines.{first_read, function_read, main_read, call_read, letter_read, last_read}

-- texts one behind another, grouped to the right and to the left
six_texts : (a b c d e f : List ℕ) → a ++ (b ++ (c ++ (d ++ (e ++ f)))) ≡ a ++ b ++ c ++ d ++ e ++ f
six_texts a b c d e f = simp append_assoc refl

eight_texts : (a b c d e f g h : List ℕ) → a ++ (b ++ (c ++ (d ++ (e ++ (f ++ (g ++ h)))))) ≡ (a ++ b ++ c ++ d ++ e ++ f ++ g) ++ h
eight_texts a b c d e f g h = simp append_assoc refl

function_spelled : (i : ℕ) (rest : List ℕ) → spelled (function_words i) rest ≡ function_line i ++ rest
function_spelled i rest =
    eight_texts (codes "int f") (decimal i) (codes "(int x){int y;y=x*") (decimal (2 * i + 1)) (codes "+") (decimal i)
    (codes ";t[x&63]=t[y&63]+y;return y^(y>>3);}\n") rest

call_spelled : (i : ℕ) (rest : List ℕ) → spelled (call_words i) rest ≡ call_line i ++ rest
call_spelled i rest = six_texts (codes "s=f") (decimal i) (codes "(s+") (decimal i) (codes ");\n") rest

lines_spelled : (words : ℕ → List Word) (line : ℕ → List ℕ) → ((i : ℕ) (rest : List ℕ) → spelled (words i) rest ≡ line i ++ rest) →
    (n : ℕ) (rest : List ℕ) → spelled (words_up_to words n) rest ≡ up_to line n ++ rest
lines_spelled words line each zero rest = refl
lines_spelled words line each (suc n) rest =
    spelled-append (words_up_to words n) (words n) rest ∙ (lines_spelled words line each n (spelled (words n) rest)
    ∙ (ap (λ (l : List ℕ). up_to line n ++ l) (each n rest) ∙ sym (append_assoc (up_to line n) (line n) rest)))

source_spelled : (k : ℕ) → spelled (source_words k) [] ≡ source_text k
source_spelled k =
    let end : List Word = letter_words ++ last_words in
    let calls : spelled (words_up_to call_words k ++ end) [] ≡ up_to call_line k ++ spelled end [] =
    spelled-append (words_up_to call_words k) end [] ∙ lines_spelled call_words call_line call_spelled k (spelled end []) in
    let functions : spelled (words_up_to function_words k ++ (main_words ++ (words_up_to call_words k ++ end))) []
    ≡ up_to function_line k ++ spelled (main_words ++ (words_up_to call_words k ++ end)) [] =
    spelled-append (words_up_to function_words k) (main_words ++ (words_up_to call_words k ++ end)) []
    ∙ lines_spelled function_words function_line function_spelled k (spelled (main_words ++ (words_up_to call_words k ++ end)) []) in
    ap (λ (l : List ℕ). codes "int t[64];\n" ++ l)
    (functions ∙ ap (λ (l : List ℕ). up_to function_line k ++ l) (ap (λ (l : List ℕ). codes "int main(){int s;s=1;\n" ++ l) calls))
    ∙ six_texts (codes "int t[64];\n") (up_to function_line k) (codes "int main(){int s;s=1;\n") (up_to call_line k)
    (codes "while(s){putchar(65+(s&15));s=(s>>4)&268435455;}\n") (codes "putchar(10);return 0;}\n")

source_read : (k : ℕ) → k ≤ 1000 → AreRead (source_words k) []
source_read k low =
    let end : List Word = letter_words ++ last_words in
    let ends : AreRead end [] = are_read-append letter_words last_words [] (letter_read (spelled last_words [])) (last_read []) in
    let calls : AreRead (words_up_to call_words k ++ end) [] =
    are_read-append (words_up_to call_words k) end [] (lines_are_read call_words k (λ i below. call_read i (omega arith)) (spelled end [])) ends in
    let main : AreRead (main_words ++ (words_up_to call_words k ++ end)) [] =
    are_read-append main_words (words_up_to call_words k ++ end) [] (main_read (spelled (words_up_to call_words k ++ end) [])) calls in
    are_read-append first_words (words_up_to function_words k ++ (main_words ++ (words_up_to call_words k ++ end))) []
    (first_read (spelled (words_up_to function_words k ++ (main_words ++ (words_up_to call_words k ++ end))) []))
    (are_read-append (words_up_to function_words k) (main_words ++ (words_up_to call_words k ++ end)) []
    (lines_are_read function_words k (λ i below. function_read i (omega arith)) (spelled (main_words ++ (words_up_to call_words k ++ end)) [])) main)

pub tokens_of_source : (k : ℕ) → k ≤ 1000 → Tokens 0 (source_text k) (source_tokens k)
tokens_of_source k low =
    subst (λ (text : List ℕ). Tokens 0 text (source_tokens k)) (source_spelled k) (tokens_of_words 0 (source_words k) (source_read k low))
