-- The generated source of k functions. Each works on its argument, its own number and a table; `main` calls them in
-- order, each with what the one before answered, and writes the last answer as letters, four bits a letter.
use Rattle.std.specs.Prelude.{ℕ, zero, suc, ◌+◌, ◌*◌, List, [], ◌++◌, codes}
use Rattle.std.specs.Fmt.{decimal}

-- the lines for the numbers 0, 1, .. n - 1, one behind another
abbrev pub up_to : (ℕ → List ℕ) → ℕ → List ℕ
up_to line zero = []
up_to line (suc n) = up_to line n ++ line n

abbrev pub function_line : ℕ → List ℕ
function_line i =
    codes "int f" ++ decimal i ++ codes "(int x){int y;y=x*" ++ decimal (2 * i + 1) ++ codes "+" ++ decimal i
    ++ codes ";t[x&63]=t[y&63]+y;return y^(y>>3);}\n"

abbrev pub call_line : ℕ → List ℕ
call_line i = codes "s=f" ++ decimal i ++ codes "(s+" ++ decimal i ++ codes ");\n"

abbrev pub source_text : ℕ → List ℕ
source_text k =
    codes "int t[64];\n" ++ up_to function_line k ++ codes "int main(){int s;s=1;\n" ++ up_to call_line k
    ++ codes "while(s){putchar(65+(s&15));s=(s>>4)&268435455;}\n" ++ codes "putchar(10);return 0;}\n"
