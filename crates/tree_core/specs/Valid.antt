-- Which tree programs are valid.
use Rattle.std.specs.Prelude.{◌⊎◌, ◌≡◌, ℕ, ◌+◌, ◌-◌, ◌*◌, ◌/◌, ◌≤◌, ◌==◌, ◌&&◌, ◌||◌, nat_lt, nat_le, not, List, []}
use Rattle.std.specs.Prelude.{◌∷◌, Option, Some, None, Bool, true, false, cond, length, codes, slice_get, IsTrue}
use Rattle.std.specs.List.{All, AllPass, AllPairs, flat_map}
use Rattle.std.specs.Str.{bytes_eq}
use Rattle.gg_base.specs.declared.limits.TheConstants.{AREA_LIMIT, AREA_START}
use Rattle.tree_core.specs.declared.token.AttKind.{AttKind}
use Rattle.tree_core.specs.declared.token.AttKind.TheVariants as att_kind
use Rattle.tree_core.specs.declared.token.Sort.TheVariants as sort
use Rattle.tree_core.specs.declared.tree.Att.{Att}
use Rattle.tree_core.specs.declared.tree.Att.TheVariants as att
use Rattle.tree_core.specs.declared.tree.Leaf.{Leaf}
use Rattle.tree_core.specs.declared.program.Link.{Link}
use Rattle.tree_core.specs.declared.program.Object.{Object}
use Rattle.tree_core.specs.declared.program.TreeItem.{TreeItem}
use Rattle.tree_core.specs.declared.program.TreeItem.TheVariants as tree_item
use Rattle.tree_core.specs.declared.program.TreeFn.{TreeFn}
use Rattle.tree_core.specs.declared.program.TreeProgram.{TreeProgram}
use Rattle.tree_core.specs.Attributes.{attribute_of}
use Rattle.tree_core.specs.Trees.{IsTyped}
use Rattle.tree_core.specs.Items.{times, CallsInOrder}
use Rattle.tree_core.specs.Labels.{LabelsOnce, TargetsStand}
use Rattle.tree_core.specs.Locals.{LocalsStand}

-- how many functions have a name
abbrev pub named : List ℕ → List TreeFn → ℕ
named name [] = 0
named name (f ∷ fs) = cond (bytes_eq f.name name) 1 0 + named name fs

-- a function that is called main has no argument
abbrev pub main_takes_nothing : TreeFn → Bool
main_takes_nothing f = not (bytes_eq f.name (codes "main")) || (f.args == 0)

-- how many arguments a call of the function with a number takes: behind the program's functions come putchar with one,
-- and getchar with none
abbrev pub service_args : ℕ → Option ℕ
service_args n = cond (n == 0) (Some 1) (cond (n == 1) (Some 0) None)

abbrev pub args_or : Option TreeFn → Option ℕ → Option ℕ
args_or None o = o
args_or (Some f) o = Some f.args

abbrev pub args_of : List TreeFn → ℕ → Option ℕ
args_of fs n = args_or (slice_get fs n) (service_args (n - length fs))

abbrev pub takes : Option ℕ → ℕ → Bool
takes None count = false
takes (Some args) count = args == count

-- a leaf names a local or an argument of its function, an object of the program, or a function or service with its number of arguments
abbrev pub names : List TreeFn → ℕ → TreeFn → AttKind → Att → Bool
names fs objects f att_kind.Local (att.Slot n) = nat_lt n f.locals
names fs objects f att_kind.Argument (att.Slot n) = nat_le n f.args
names fs objects f att_kind.Object (att.Object object offset) = nat_lt object objects
names fs objects f att_kind.Callee (att.Callee function count) = takes (args_of fs function) count
names fs objects f k a = true

abbrev pub leaf_names : List TreeFn → ℕ → TreeFn → Leaf → Bool
leaf_names fs objects f l = names fs objects f (attribute_of l.tok) l.att

-- a root is a typed statement, whose leaves name what is there
abbrev pub ItemStands : List TreeFn → ℕ → TreeFn → TreeItem → Type 0
ItemStands fs objects f (tree_item.Label label) = Unit {0}
ItemStands fs objects f (tree_item.Root w) = IsTyped w sort.Stmt × AllPass (leaf_names fs objects f) w

abbrev pub ItemsStand : List TreeFn → ℕ → TreeFn → Type 0
ItemsStand fs objects f = All (ItemStands fs objects f) f.items

abbrev pub WantedStand : TreeFn → Type 0
WantedStand f = LocalsStand f.locals f.wanted

abbrev pub PushesStand : TreeFn → Type 0
PushesStand f = CallsInOrder f.items

-- the least multiple of an alignment that is not below an address
abbrev pub rounded : ℕ → ℕ → ℕ
rounded align at = (at + (align - 1)) / align * align

abbrev pub is_aligned : Object → Bool
is_aligned o = (o.align == 1) || ((o.align == 2) || (o.align == 4))

-- it has as many bytes as its size
abbrev pub is_whole : Object → Bool
is_whole o = length o.bytes == o.size

-- it lies at the next address of its alignment, and ends within the longest data area
abbrev pub is_placed : ℕ → Object → Bool
is_placed at o = (o.address == rounded o.align at) && nat_le (o.address + o.size) (AREA_START + AREA_LIMIT)

abbrev pub object_lies : ℕ → Object → Bool
object_lies at o = is_aligned o && (is_whole o && is_placed at o)

-- the objects lie one behind another, from an address on
abbrev pub objects_lie : ℕ → List Object → Bool
objects_lie at [] = true
objects_lie at (o ∷ os) = object_lies at o && objects_lie (o.address + o.size) os

-- a link lies in its object and names an object
abbrev pub link_lies : ℕ → ℕ → Link → Bool
link_lies objects size l = nat_le (l.at + 4) size && nat_lt l.object objects

-- the bytes that links take, four each
abbrev pub four : ℕ → List ℕ
four at = at ∷ (at + 1) ∷ (at + 2) ∷ (at + 3) ∷ []

abbrev pub bytes_linked : List Link → List ℕ
bytes_linked links = flat_map (λ l. four l.at) links

-- no byte belongs to two links
abbrev pub BytesApart : List Link → Type 0
BytesApart links = (n : ℕ) → times n (bytes_linked links) ≤ 1

-- two links of an object begin at least four bytes apart
abbrev pub Apart : ℕ → ℕ → Type 0
Apart a b = (a + 4 ≤ b) ⊎ (b + 4 ≤ a)

abbrev pub LinksApart : List Link → Type 0
LinksApart links = AllPairs (λ k l. Apart k.at l.at) links

abbrev pub LinksLie : ℕ → Object → Type 0
LinksLie objects o = AllPass (link_lies objects o.size) o.links × LinksApart o.links

-- no two functions have one name
abbrev pub NamesDiffer : List TreeFn → Type 0
NamesDiffer fs = (name : List ℕ) → named name fs ≤ 1

pub record NamesRight (fs : List TreeFn) : Type 0 where
  -- just one function is called main, and it has no argument
  pub one_main : named (codes "main") fs ≡ 1
  pub main_args : AllPass main_takes_nothing fs
  -- none has the name of a service
  pub no_putchar : named (codes "putchar") fs ≡ 0
  pub no_getchar : named (codes "getchar") fs ≡ 0
  pub differ : NamesDiffer fs

pub record IsValid (p : TreeProgram) : Type 0 where
  pub names : NamesRight p.functions
  -- each root is a typed statement, and its leaves name what is there
  pub roots : All (ItemsStand p.functions (length p.objects)) p.functions
  -- the numbers of the locals that a function wants in registers differ, and are below its locals
  pub wanted : All WantedStand p.functions
  -- each label stands once in the whole program, and that of a branch or jump in the same function
  pub labels_once : LabelsOnce p.functions
  pub targets : All TargetsStand p.functions
  -- as many pushes as its count stand directly before each call, and no push elsewhere; each save stands directly behind a call
  pub calls : All PushesStand p.functions
  -- the objects lie in the data area as they are laid out, and their links in them
  pub objects : IsTrue (objects_lie AREA_START p.objects)
  pub links : All (LinksLie (length p.objects)) p.objects
