-- The lines of a description's check.
use Rattle.std.specs.Prelude.{ℕ, List, ◌++◌, length, codes}
use Rattle.std.specs.Fmt.{decimal}
use Rattle.md_reader.specs.declared.faults.DescKind.{DescKind}
use Rattle.md_reader.specs.declared.faults.DescKind.TheVariants as kinds
use Rattle.lr_tables.specs.View.{TableView}

abbrev pub kind_name : DescKind → List ℕ
kind_name kinds.BadEach = codes "BadEach"
kind_name kinds.BadWord = codes "BadWord"
kind_name kinds.Limit = codes "Limit"
kind_name kinds.Twice = codes "Twice"
kind_name kinds.UnknownClass = codes "UnknownClass"
kind_name kinds.UnknownToken = codes "UnknownToken"
kind_name kinds.NotATree = codes "NotATree"
kind_name kinds.WrongSort = codes "WrongSort"
kind_name kinds.BadIf = codes "BadIf"
kind_name kinds.BadHole = codes "BadHole"
kind_name kinds.BadGive = codes "BadGive"
kind_name kinds.MissingVersion = codes "MissingVersion"
kind_name kinds.MissingTarget = codes "MissingTarget"
kind_name kinds.MissingPool = codes "MissingPool"
kind_name kinds.MissingStmt = codes "MissingStmt"
kind_name kinds.MissingSpill = codes "MissingSpill"
kind_name kinds.MissingReload = codes "MissingReload"
kind_name kinds.MissingRule = codes "MissingRule"
kind_name kinds.MissingGive = codes "MissingGive"

-- the first wrong line of a description, and what is wrong there
abbrev pub wrong_line : ℕ → DescKind → List ℕ
wrong_line line kind = codes "ggvax: description line " ++ (decimal line ++ (codes ": " ++ (kind_name kind ++ codes "\n")))

-- a description has too many item sets
abbrev pub full_line : List ℕ
full_line = codes "ggvax: more than 4096 item sets\n"

-- an accepted description: the numbers of its rules and of its tables' states
abbrev pub ok_line : ℕ → ℕ → List ℕ
ok_line rules states = codes "ok: " ++ (decimal rules ++ (codes " rules, " ++ (decimal states ++ codes " states\n")))

abbrev pub tables_line : TableView → List ℕ
tables_line t = ok_line (length t.content.rules) (length t.rows)
