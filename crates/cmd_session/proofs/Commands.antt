-- Words of two and of three parts, and numbers in their one spelling.
use Rattle.std.proofs.Common.{◌≡◌, ℕ, ◌<◌, ◌≤◌, ◌^◌, true, false, not, List, [], ◌∷◌, length, get_or, codes, Result, Ok, Err, refl, sym, ap, ◌∙◌, arith}
use Rattle.std.specs.Fmt.{decimal}
use Rattle.std.specs.Str.{bytes_eq}
use Rattle.std.specs.Str.Parse.{ParsesUnsigned}
use Rattle.std.specs.declared.string.String.{String}
use Rattle.std.specs.declared.alloc.Global.{Global}
use Rattle.std.specs.String.{string_bytes}
use Rattle.std.proofs.lemmas.Fmt.{parse-decimal, decimal_injective}
use Rattle.std.proofs.lemmas.Slice.Eq.{bytes_eq-Decides}
use Rattle.cmd_session.specs.Words.{spelled, SaysNamed, SaysPaired, SaysCounted}
use Rattle.cmd_session.specs.Choice.{NoNamed, OnlyNamed, NoPaired, OnlyPaired, NoCounted, OnlyCounted}

two : {A : Type 0} (xs : List A) (a b : A) → 2 ≤ length xs → length xs < 3 → a ≡ get_or xs 0 a → b ≡ get_or xs 1 b → xs ≡ a ∷ (b ∷ [])
two (x ∷ (y ∷ [])) a b low high first second = cc
two _ a b low high first second = absurd (omega arith)

three : {A : Type 0} (xs : List A) (a b c : A) → 3 ≤ length xs → length xs < 4 → a ≡ get_or xs 0 a → b ≡ get_or xs 1 b → c ≡ get_or xs 2 c → xs ≡ a ∷ (b ∷ (c ∷ []))
three (x ∷ (y ∷ (z ∷ []))) a b c low high first second third = cc
three _ a b c low high first second third = absurd (omega arith)

same : (a b : List ℕ) → true ≡ bytes_eq a b → a ≡ b
same a b e = (bytes_eq-Decides a b).0 (sym e)

-- two words: the first is this one
pub two_words : (words : List (String Global)) (a b : String Global) (first wanted second : List ℕ) → 2 ≤ length words → length words < 3 → a ≡ get_or words 0 a →
    b ≡ get_or words 1 b → first ≡ string_bytes a → true ≡ bytes_eq first wanted → second ≡ string_bytes b → spelled words ≡ wanted ∷ (second ∷ [])
two_words words a b first wanted second low high a_is b_is first_is said second_is =
    ap spelled (two words a b low high a_is b_is)
    ∙ ap (λ (x : List ℕ). x ∷ (string_bytes b ∷ [])) (sym first_is ∙ same first wanted said)
    ∙ ap (λ (x : List ℕ). wanted ∷ (x ∷ [])) (sym second_is)

-- three words: the first is this one
pub three_words : (words : List (String Global)) (a b c : String Global) (first wanted second third number : List ℕ) → 3 ≤ length words → length words < 4 →
    a ≡ get_or words 0 a → b ≡ get_or words 1 b → c ≡ get_or words 2 c → first ≡ string_bytes a → true ≡ bytes_eq first wanted → second ≡ string_bytes b →
    third ≡ string_bytes c → third ≡ number → spelled words ≡ wanted ∷ (second ∷ (number ∷ []))
three_words words a b c first wanted second third number low high a_is b_is c_is first_is said second_is third_is number_is =
    ap spelled (three words a b c low high a_is b_is c_is)
    ∙ ap (λ (x : List ℕ). x ∷ (string_bytes b ∷ (string_bytes c ∷ []))) (sym first_is ∙ same first wanted said)
    ∙ ap (λ (x : List ℕ). wanted ∷ (x ∷ (string_bytes c ∷ []))) (sym second_is)
    ∙ ap (λ (x : List ℕ). wanted ∷ (second ∷ (x ∷ []))) (sym third_is ∙ number_is)

-- a number's spelling is parsed as the number
parsed : {E : Type 0} (n : ℕ) (word : List ℕ) (r : Result ℕ E) → n < 2 ^ 64 → word ≡ decimal n → ParsesUnsigned 64 10 word r → r ≡ Ok n
parsed n word r fits is h = parse-decimal 64 n word r (omega (arith, fits)) (omega (arith, fits)) is h

pub no_number : {E : Type 0} (e : E) (n : ℕ) (word : List ℕ) (r : Result ℕ E) → r ≡ Err e → ParsesUnsigned 64 10 word r → n < 2 ^ 64 → word ≡ decimal n → ⊥
no_number e n word r is_error h fits is = let same_as : Err e ≡ Ok n = sym is_error ∙ parsed n word r fits is h in cc

pub other_number : {E : Type 0} (m n : ℕ) (word : List ℕ) (r : Result ℕ E) → r ≡ Ok m → ParsesUnsigned 64 10 word r → n < 2 ^ 64 → word ≡ decimal n → m ≡ n
other_number m n word r is_number h fits is = let same_as = sym is_number ∙ parsed n word r fits is h in cc

-- a word that is not the number's spelling
pub other_spelling : {E : Type 0} (m n : ℕ) (word text : List ℕ) (r : Result ℕ E) → r ≡ Ok m → ParsesUnsigned 64 10 word r → text ≡ decimal m →
    true ≡ not (bytes_eq text word) → n < 2 ^ 64 → word ≡ decimal n → ⊥
other_spelling m n word text r is_number h text_is differs fits is =
    let e : m ≡ n = other_number m n word r is_number h fits is in
    let equal : bytes_eq text word ≡ true = (bytes_eq-Decides text word).1 (text_is ∙ ap decimal e ∙ sym is) in
    let wrong : true ≡ false = differs ∙ ap not equal in
    cc

-- words say one command
pub only_named : (word : List ℕ) (words : List (List ℕ)) (name : List ℕ) → SaysNamed word words name → OnlyNamed word words name
only_named word words name h other k = let same_as = sym k.words_are ∙ h.words_are in cc

pub named_not_other : (word other : List ℕ) (words : List (List ℕ)) (name : List ℕ) → SaysNamed word words name → (word ≡ other → ⊥) → NoNamed other words
named_not_other word other words name h differs another k =
    let same_as = sym h.words_are ∙ k.words_are in
    let equal : word ≡ other = cc in
    differs equal

pub named_not_paired : (word other : List ℕ) (words : List (List ℕ)) (name : List ℕ) → SaysNamed word words name → NoPaired other words
named_not_paired word other words name h one another k = let same_as = sym k.words_are ∙ h.words_are in cc

pub named_not_counted : (word other : List ℕ) (greatest : ℕ) (words : List (List ℕ)) (name : List ℕ) → SaysNamed word words name → NoCounted other greatest words
named_not_counted word other greatest words name h another count k = let same_as = sym k.words_are ∙ h.words_are in cc

pub paired_not_named : (word other : List ℕ) (words : List (List ℕ)) (one name : List ℕ) → SaysPaired word words one name → NoNamed other words
paired_not_named word other words one name h another k = let same_as = sym k.words_are ∙ h.words_are in cc

pub counted_not_named : (word other : List ℕ) (greatest : ℕ) (words : List (List ℕ)) (name : List ℕ) (count : ℕ) → SaysCounted word greatest words name count → NoNamed other words
counted_not_named word other greatest words name count h another k = let same_as = sym k.words_are ∙ h.words_are in cc

pub only_paired : (word : List ℕ) (words : List (List ℕ)) (one other : List ℕ) → SaysPaired word words one other → OnlyPaired word words one other
only_paired word words one other h first second k = let same_as = sym k.words_are ∙ h.words_are in (cc, cc)

pub paired_not_counted : (word other : List ℕ) (greatest : ℕ) (words : List (List ℕ)) (one name : List ℕ) → SaysPaired word words one name → (word ≡ other → ⊥) →
    NoCounted other greatest words
paired_not_counted word other greatest words one name h differs another n k =
    let same_as = sym h.words_are ∙ k.words_are in
    let equal : word ≡ other = cc in
    differs equal

pub only_counted : (word : List ℕ) (greatest : ℕ) (words : List (List ℕ)) (name : List ℕ) (count : ℕ) → greatest ≤ 1000000000 →
    SaysCounted word greatest words name count → OnlyCounted word greatest words name count
only_counted word greatest words name count small h other n k =
    let same_as = sym k.words_are ∙ h.words_are in
    let number : decimal n ≡ decimal count = cc in
    (cc, decimal_injective n count (omega (arith, small, k.counts.1)) (omega (arith, small, h.counts.1)) number)

pub counted_not_other : (word other : List ℕ) (greatest most : ℕ) (words : List (List ℕ)) (name : List ℕ) (count : ℕ) → SaysCounted word greatest words name count →
    (word ≡ other → ⊥) → NoCounted other most words
counted_not_other word other greatest most words name count h differs another n k =
    let same_as = sym h.words_are ∙ k.words_are in
    let equal : word ≡ other = cc in
    differs equal

-- the words that come first
pub compile_is_not_run : codes "compile" ≡ codes "run" → ⊥
compile_is_not_run h = let first = ap (λ (l : List ℕ). get_or l 0 0) h in omega (arith, first)

pub compile_is_not_meaning : codes "compile" ≡ codes "meaning" → ⊥
compile_is_not_meaning h = let first = ap (λ (l : List ℕ). get_or l 0 0) h in omega (arith, first)

pub compile_is_not_load : codes "compile" ≡ codes "load" → ⊥
compile_is_not_load h = let first = ap (λ (l : List ℕ). get_or l 0 0) h in omega (arith, first)

pub run_is_not_meaning : codes "run" ≡ codes "meaning" → ⊥
run_is_not_meaning h = let first = ap (λ (l : List ℕ). get_or l 0 0) h in omega (arith, first)

pub run_is_not_load : codes "run" ≡ codes "load" → ⊥
run_is_not_load h = let first = ap (λ (l : List ℕ). get_or l 0 0) h in omega (arith, first)

pub meaning_is_not_load : codes "meaning" ≡ codes "load" → ⊥
meaning_is_not_load h = let first = ap (λ (l : List ℕ). get_or l 0 0) h in omega (arith, first)

pub check_is_not_image : codes "check" ≡ codes "image" → ⊥
check_is_not_image h = let first = ap (λ (l : List ℕ). get_or l 0 0) h in omega (arith, first)

pub check_is_not_text : codes "check" ≡ codes "text" → ⊥
check_is_not_text h = let first = ap (λ (l : List ℕ). get_or l 0 0) h in omega (arith, first)

pub image_is_not_text : codes "image" ≡ codes "text" → ⊥
image_is_not_text h = let first = ap (λ (l : List ℕ). get_or l 0 0) h in omega (arith, first)

pub compile_is_not_run32 : codes "compile" ≡ codes "run32" → ⊥
compile_is_not_run32 h = let first = ap (λ (l : List ℕ). get_or l 0 0) h in omega (arith, first)

pub meaning_is_not_run32 : codes "meaning" ≡ codes "run32" → ⊥
meaning_is_not_run32 h = let first = ap (λ (l : List ℕ). get_or l 0 0) h in omega (arith, first)

pub load_is_not_run32 : codes "load" ≡ codes "run32" → ⊥
load_is_not_run32 h = let first = ap (λ (l : List ℕ). get_or l 0 0) h in omega (arith, first)

pub image_is_not_check32 : codes "image" ≡ codes "check32" → ⊥
image_is_not_check32 h = let first = ap (λ (l : List ℕ). get_or l 0 0) h in omega (arith, first)

pub text_is_not_check32 : codes "text" ≡ codes "check32" → ⊥
text_is_not_check32 h = let first = ap (λ (l : List ℕ). get_or l 0 0) h in omega (arith, first)

-- a word that goes on behind the other
pub check_is_not_check32 : codes "check" ≡ codes "check32" → ⊥
check_is_not_check32 h = let long = ap (λ (l : List ℕ). length l) h in omega (arith, long)

pub run_is_not_run32 : codes "run" ≡ codes "run32" → ⊥
run_is_not_run32 h = let long = ap (λ (l : List ℕ). length l) h in omega (arith, long)

-- words that say a name are two, and the first is the word before it
pub named_length : (words : List (String Global)) (word name : List ℕ) → SaysNamed word (spelled words) name → length words ≡ 2
named_length [] word name h = let e = h.words_are in cc
named_length (a ∷ []) word name h = let e = h.words_are in cc
named_length (a ∷ (b ∷ [])) word name h = refl
named_length (a ∷ (b ∷ (c ∷ rest))) word name h = let e = h.words_are in cc

pub named_parts : (words : List (String Global)) (a b : String Global) (word name : List ℕ) → 2 ≤ length words → length words < 3 → a ≡ get_or words 0 a →
    b ≡ get_or words 1 b → SaysNamed word (spelled words) name → (string_bytes a ≡ word) × (string_bytes b ≡ name)
named_parts words a b word name low high a_is b_is h =
    let e : string_bytes a ∷ (string_bytes b ∷ []) ≡ word ∷ (name ∷ []) = sym (ap spelled (two words a b low high a_is b_is)) ∙ h.words_are in
    (cc, cc)

-- words that say two names are three
pub paired_length : (words : List (String Global)) (word one other : List ℕ) → SaysPaired word (spelled words) one other → length words ≡ 3
paired_length [] word one other h = let e = h.words_are in cc
paired_length (a ∷ []) word one other h = let e = h.words_are in cc
paired_length (a ∷ (b ∷ [])) word one other h = let e = h.words_are in cc
paired_length (a ∷ (b ∷ (c ∷ []))) word one other h = refl
paired_length (a ∷ (b ∷ (c ∷ (d ∷ rest)))) word one other h = let e = h.words_are in cc

pub paired_parts : (words : List (String Global)) (a b c : String Global) (word one other : List ℕ) → 3 ≤ length words → length words < 4 →
    a ≡ get_or words 0 a → b ≡ get_or words 1 b → c ≡ get_or words 2 c → SaysPaired word (spelled words) one other →
    (string_bytes a ≡ word) × (string_bytes b ≡ one) × (string_bytes c ≡ other)
paired_parts words a b c word one other low high a_is b_is c_is h =
    let e : string_bytes a ∷ (string_bytes b ∷ (string_bytes c ∷ [])) ≡ word ∷ (one ∷ (other ∷ [])) = sym (ap spelled (three words a b c low high a_is b_is c_is)) ∙ h.words_are in
    (cc, cc, cc)

-- words that say a name and a number are three, and the first is the word before them
pub counted_length : (words : List (String Global)) (word : List ℕ) (greatest : ℕ) (name : List ℕ) (count : ℕ) → SaysCounted word greatest (spelled words) name count →
    length words ≡ 3
counted_length [] word greatest name count h = let e = h.words_are in cc
counted_length (a ∷ []) word greatest name count h = let e = h.words_are in cc
counted_length (a ∷ (b ∷ [])) word greatest name count h = let e = h.words_are in cc
counted_length (a ∷ (b ∷ (c ∷ []))) word greatest name count h = refl
counted_length (a ∷ (b ∷ (c ∷ (d ∷ rest)))) word greatest name count h = let e = h.words_are in cc

pub counted_parts : (words : List (String Global)) (a b c : String Global) (word : List ℕ) (greatest : ℕ) (name : List ℕ) (count : ℕ) → 3 ≤ length words → length words < 4 →
    a ≡ get_or words 0 a → b ≡ get_or words 1 b → c ≡ get_or words 2 c → SaysCounted word greatest (spelled words) name count →
    (string_bytes a ≡ word) × (string_bytes b ≡ name) × (string_bytes c ≡ decimal count)
counted_parts words a b c word greatest name count low high a_is b_is c_is h =
    let e : string_bytes a ∷ (string_bytes b ∷ (string_bytes c ∷ [])) ≡ word ∷ (name ∷ (decimal count ∷ [])) = sym (ap spelled (three words a b c low high a_is b_is c_is)) ∙ h.words_are in
    (cc, cc, cc)

-- a word that is another one than was wanted
pub differs : (a b : List ℕ) → false ≡ bytes_eq a b → a ≡ b → ⊥
differs a b h e = let both : false ≡ true = h ∙ (bytes_eq-Decides a b).1 e in cc
