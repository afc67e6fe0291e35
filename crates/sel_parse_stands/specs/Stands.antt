-- When the entries of a stack stand, in a state of the machine, for what the stack's symbols stand for.
use Rattle.std.specs.Prelude.{◌≡◌, ℕ, ◌≤◌, ◌<◌, ◌^◌, List, [], ◌∷◌, length, Option, Some, None, IsSome, true, slice_get}
use Rattle.gg_base.specs.declared.limits.TheConstants.{NEED_LIMIT}
use Rattle.gg_base.specs.declared.size.Size.{Size}
use Rattle.gg_base.specs.declared.size.Size.TheVariants.{Long}
use Rattle.tree_core.specs.declared.token.Tok.{Tok}
use Rattle.tree_core.specs.declared.token.Tok.TheVariants as tok
use Rattle.tree_core.specs.declared.tree.Att.{Att}
use Rattle.tree_core.specs.declared.tree.Att.TheVariants as att
use Rattle.tree_core.specs.declared.tree.Leaf.{Leaf}
use Rattle.tree_core.specs.declared.program.TreeProgram.{TreeProgram}
use Rattle.tree_core.specs.Attributes.{leaf_fits}
use Rattle.tree_core.specs.Valid.{args_of, takes}
use Rattle.tree_meaning.specs.State.{State, Extent}
use Rattle.tree_meaning.specs.Values.{Sight}
use Rattle.tree_meaning.specs.declared.value.Meaning.{Meaning as Place}
use Rattle.md_reader.specs.declared.types.Kind.{Kind}
use Rattle.md_reader.specs.declared.types.Kind.TheVariants as kind
use Rattle.md_reader.specs.declared.types.Sym.{Sym}
use Rattle.md_reader.specs.declared.types.Sym.TheVariants as grammar_symbol
use Rattle.md_reader.specs.Patterns.{kind_at}
use Rattle.md_reader.specs.State.{Content}
use Rattle.sel_terms_trees.specs.Senses.{Sense, OfLeaf, OfNumber, OfPlace}
use Rattle.sel_target.specs.declared.attr.Attr.{Attr}
use Rattle.sel_target.specs.declared.attr.Attr.TheVariants as attr
use Rattle.sel_target.specs.Meaning.{Meaning}
use Rattle.sel_target.specs.Values.{PlaceIs, address_of}
use Rattle.sel_target.specs.Spelled.{IsSpelled}
use Rattle.sel_parse_selected.specs.Entries.{Entry}

-- A tree of the program q is selected by the description d for a call whose frame has the extent f, with slots from the first on. The
-- call's state of the program is t; s is what the frame shows of it. The code of the tree begins in the state m0 of the machine.
module _ {O I S F : Type 0} (of : Meaning O I S F) (q : TreeProgram) (d : Content) (first : ℕ) (f : Extent) (fs : List Extent)
    (t : State) (s : Sight) (m0 : S) where
  -- What a leaf names is there. A result is saved where it is left; a call takes the arguments that are pushed.
  abbrev pub NamedBy : Tok → Att → Type 0
  NamedBy tok.Loc (att.Slot k) = k < f.locals
  NamedBy tok.Arg (att.Slot k) = (1 ≤ k) × (k ≤ length t.running.arguments)
  NamedBy tok.Save (att.Slot k) = (k < f.locals) × (of.answer m0 ≡ t.running.result)
  NamedBy tok.Call (att.Callee function count) = (takes (args_of q.functions function) count ≡ true) × (length t.running.pushed ≡ count)
  NamedBy x (att.Number n) = n < 2 ^ 32
  NamedBy x (att.Object object offset) = IsSome (address_of (slice_get q.objects object) offset)
  NamedBy x a = Unit {0}

  -- and its numbers, offset and label are longwords
  abbrev pub Names : Leaf → Type 0
  Names l = NamedBy l.tok l.att × IsSpelled q l.att

  -- the entry of a class of a kind stands for a sense
  pub data ClassIs (m : S) : (k : Option Kind) (a : Attr O) (v : Sense) → Type 0 where
    register : (r n : ℕ) → r < 12 → of.reads (of.register r) Long m ≡ Some n → ClassIs m (Some kind.Reg) (attr.Reg r) (OfNumber n)
    in_slot : (w n : ℕ) → first ≤ w → w < NEED_LIMIT → of.reads (of.slot w) Long m ≡ Some n
        → ClassIs m (Some kind.Reg) (attr.InSlot w) (OfNumber n)
    value : (z : Size) (o : O) (n : ℕ) →
        of.fits (kind.Value z) o ≡ true → of.reads o z m ≡ Some n → ClassIs m (Some (kind.Value z)) (attr.Value o) (OfNumber n)
    place : (z : Size) (o : O) (g : Place) →
        of.fits (kind.Place z) o ≡ true → PlaceIs of f t m z o g → ClassIs m (Some (kind.Place z)) (attr.Place o) (OfPlace g)
    number : (n : ℕ) → n < 2 ^ 32 → ClassIs m (Some kind.Con) (attr.Con n) (OfNumber n)
    address : (o : O) (n : ℕ) → of.fits kind.Ea o ≡ true → of.names o Long m ≡ Some n → ClassIs m (Some kind.Ea) (attr.Ea o) (OfNumber n)

  -- the entry of a symbol stands for a sense
  pub data SymbolIs (m : S) : (x : Sym) (k : Option Kind) (a : Attr O) (v : Sense) → Type 0 where
    token : (l : Leaf) → leaf_fits l ≡ true → Names l → SymbolIs m (grammar_symbol.Tok l.tok) None (attr.Token l) (OfLeaf l)
    class : (c : ℕ) (a : Attr O) (v : Sense) → ClassIs m (kind_at d.classes c) a v
        → SymbolIs m (grammar_symbol.Class c) (kind_at d.classes c) a v

  -- entries stand so for symbols, one after another
  abbrev pub Holds : S → List (Entry O) → List Sym → List Sense → Type 0
  Holds m [] [] [] = Unit {0}
  Holds m (e ∷ es) (x ∷ xs) (v ∷ vs) = SymbolIs m x e.kind e.attr v × Holds m es xs vs
  Holds m es xs vs = ⊥

  -- the state stands for the call's, and its frame shows the sight
  pub record Sees (m : S) : Type 0 where
    pub agrees : of.agrees q f fs t m
    pub room : of.has_room m
    pub locals : (k n : ℕ) → s.locals k ≡ Some n → of.reads (of.local k) Long m ≡ Some n

  -- What holds of the frame throughout: its words are ones that operands name, and slots lie behind the locals.
  pub record IsFrame : Type 0 where
    pub few : f.words ≤ NEED_LIMIT
    pub own : f.locals ≤ first
    pub within : f.locals ≤ f.words
    pub bounded : (k n : ℕ) → s.locals k ≡ Some n → k < f.locals
    pub arguments : s.arguments ≡ t.running.arguments
    pub area : s.area ≡ t.area
