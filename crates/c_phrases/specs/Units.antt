-- Declarations, statements and units as plain data.
use Rattle.std.specs.Prelude.{ℕ, List, Option, Bool}
use Rattle.c_phrases.specs.declared.operator.Spec.{Spec}
use Rattle.c_phrases.specs.declared.operator.Storage.{Storage}
use Rattle.c_phrases.specs.declared.tree.Named.{Named}
use Rattle.c_phrases.specs.Phrases.{AnExp, SomeExps}

-- "[" [cond] "]"
pub record ALength : Type 0 where
  pub opened : ℕ
  pub value : Option AnExp

-- init
pub data AnInit : Type 0 where
  value : (e : AnExp) → AnInit
  elements : (es : SomeExps) (trailing : Bool) → AnInit

pub record AnInitialised : Type 0 where
  pub at : ℕ
  pub with_init : AnInit

-- decl
pub record ADeclarator : Type 0 where
  pub stars : List ℕ
  pub name : List ℕ
  pub at : ℕ
  pub length : Option ALength
  pub init : Option AnInitialised

-- local
pub record ALocal : Type 0 where
  pub storage : Storage
  pub spec : Spec
  pub declarators : List ADeclarator

mutual
  pub data AStatement : Type 0 where
    block : (is : SomeItems) → AStatement
    empty : AStatement
    expression : (e : AnExp) → AStatement
    break_off : (at : ℕ) → AStatement
    continue_on : (at : ℕ) → AStatement
    give_back : (at : ℕ) (e : Option AnExp) → AStatement
    if_then : (at opened : ℕ) (e : AnExp) (s : AStatement) → AStatement
    if_else : (at opened : ℕ) (e : AnExp) (s : AStatement) (other : ℕ) (t : AStatement) → AStatement
    while_loop : (at opened : ℕ) (e : AnExp) (s : AStatement) → AStatement
    do_loop : (at : ℕ) (s : AStatement) (again opened : ℕ) (e : AnExp) → AStatement
    for_loop : (at opened : ℕ) (a b c : Option AnExp) (s : AStatement) → AStatement

  pub data SomeItems : Type 0 where
    no_items : SomeItems
    local_item : (l : ALocal) (is : SomeItems) → SomeItems
    statement_item : (s : AStatement) (is : SomeItems) → SomeItems

-- param
pub record AParam : Type 0 where
  pub spec : Spec
  pub stars : List ℕ
  pub name : Option Named
  pub length : Option ALength

pub data SomeParams : Type 0 where
  no_params : SomeParams
  void_word : (at : ℕ) → SomeParams
  params : (ps : List AParam) → SomeParams

pub record AFunction : Type 0 where
  pub stars : List ℕ
  pub name : List ℕ
  pub at : ℕ
  pub opened : ℕ
  pub params : SomeParams
  pub body : Option SomeItems

pub data ADeclared : Type 0 where
  function : (f : AFunction) → ADeclared
  globals : (ds : List ADeclarator) → ADeclared

-- external
pub record AnExternal : Type 0 where
  pub static_at : Option ℕ
  pub spec : Spec
  pub declared : ADeclared

-- unit
pub record AUnit : Type 0 where
  pub externals : List AnExternal
  pub end : ℕ
