-- Declarations in a row are sound where each is.
use Rattle.std.proofs.Common.{◌≡◌, ℕ, List, [], ◌∷◌, ◌++◌, sym, ap, ◌∙◌, append_assoc, append-nil}
use Rattle.c_typed_scope.specs.declared.entry.Signature.{Signature}
use Rattle.c_program.specs.Statements.{ADeclaration, KeepOf, ClearOf, BeginOf, StoreOf, ZerosOf}
use Rattle.c_program.specs.Programs.{ARoutine}
use Rattle.c_sound.specs.Fits.{more, declaring, FitsDeclared}
use Rattle.c_sound.specs.Stands.{IsThere, Takes, StandsDeclared}
use Rattle.c_typed_law.specs.c_typed_definition.specs.State.{State}
use Rattle.c_sound_bodies.specs.States.{InOrder, Grows, HasRoom, HasPlaces}
use Rattle.c_sound_bodies.specs.Claim.{AreDefined}
use Rattle.c_sound_bodies.proofs.Steps.{grows_same, grows_further, room_before, places_before}

-- declarations in a row, which fit where something holds of their phrases
pub record LocalsAreSound (W : Type 0) (signatures : List Signature) (scope : ℕ → Type 0) (parameters : ℕ) (s : State) (ds : List ADeclaration)
    (r : State) : Type 0 where
  pub fits : (size : ℕ) → HasRoom size r → W → FitsDeclared size scope ds
  pub stands : (gs : List ARoutine) (objects block : ℕ) → HasPlaces objects block r → AreDefined signatures gs →
      StandsDeclared (IsThere objects parameters block) (Takes gs) objects ds
  pub order : InOrder (declaring scope ds) parameters r
  pub grows : Grows s r

-- declarations in front of others
fits_with : (size : ℕ) (scope : ℕ → Type 0) (ds es : List ADeclaration) → FitsDeclared size scope ds →
    FitsDeclared size (declaring scope ds) es → FitsDeclared size scope (ds ++ es)
fits_with size scope [] es h k = k
fits_with size scope (KeepOf n ∷ ds) es h k = fits_with size scope ds es h k
fits_with size scope (ClearOf n ∷ ds) es h k = (h.0, fits_with size (more scope n) ds es h.1 k)
fits_with size scope (BeginOf n e ∷ ds) es h k = (h.0, h.1, fits_with size (more scope n) ds es h.2 k)
fits_with size scope (StoreOf t o e ∷ ds) es h k = (h.0, h.1, fits_with size scope ds es h.2 k)
fits_with size scope (ZerosOf t o n ∷ ds) es h k = (h.0, h.1, fits_with size scope ds es h.2 k)

stands_with : (objects parameters block : ℕ) (gs : List ARoutine) (ds es : List ADeclaration) →
    StandsDeclared (IsThere objects parameters block) (Takes gs) objects ds →
    StandsDeclared (IsThere objects parameters block) (Takes gs) objects es →
    StandsDeclared (IsThere objects parameters block) (Takes gs) objects (ds ++ es)
stands_with objects parameters block gs [] es h k = k
stands_with objects parameters block gs (KeepOf n ∷ ds) es h k = stands_with objects parameters block gs ds es h k
stands_with objects parameters block gs (ClearOf n ∷ ds) es h k = stands_with objects parameters block gs ds es h k
stands_with objects parameters block gs (BeginOf n e ∷ ds) es h k = (h.0, stands_with objects parameters block gs ds es h.1 k)
stands_with objects parameters block gs (StoreOf t o e ∷ ds) es h k = (h.0, h.1, stands_with objects parameters block gs ds es h.2 k)
stands_with objects parameters block gs (ZerosOf t o n ∷ ds) es h k = (h.0, h.1, stands_with objects parameters block gs ds es h.2 k)

order_with : (scope : ℕ → Type 0) (parameters : ℕ) (ds es : List ADeclaration) (r : State) →
    InOrder (declaring (declaring scope ds) es) parameters r → InOrder (declaring scope (ds ++ es)) parameters r
order_with scope parameters [] es r o = o
order_with scope parameters (KeepOf n ∷ ds) es r o = order_with scope parameters ds es r o
order_with scope parameters (ClearOf n ∷ ds) es r o = order_with (more scope n) parameters ds es r o
order_with scope parameters (BeginOf n e ∷ ds) es r o = order_with (more scope n) parameters ds es r o
order_with scope parameters (StoreOf t o e ∷ ds) es r q = order_with scope parameters ds es r q
order_with scope parameters (ZerosOf t o n ∷ ds) es r q = order_with scope parameters ds es r q

-- what is behind the declarations that are done
pub record Behind (W : Type 0) (signatures : List Signature) (scope : ℕ → Type 0) (parameters : ℕ) (s : State) (done : List ADeclaration)
    (r : List ADeclaration × State) : Type 0 where
  pub rest : List ADeclaration
  pub is : r.0 ≡ done ++ rest
  pub sound : LocalsAreSound W signatures scope parameters s rest r.1

module _ (signatures : List Signature) (scope : ℕ → Type 0) (parameters : ℕ) where
  locals_with : {W V : Type 0} (s m r : State) (ds es : List ADeclaration) → LocalsAreSound W signatures scope parameters s ds m →
      LocalsAreSound V signatures (declaring scope ds) parameters m es r → LocalsAreSound (W × V) signatures scope parameters s (ds ++ es) r
  locals_with s m r ds es h k = record {
    fits = λ size l w. fits_with size scope ds es (h.fits size (room_before size m r k.grows l) w.0) (k.fits size l w.1);
    stands = λ gs objects block l defined. stands_with objects parameters block gs ds es
        (h.stands gs objects block (places_before objects block m r k.grows l) defined) (k.stands gs objects block l defined);
    order = order_with scope parameters ds es r k.order;
    grows = grows_further s m r h.grows k.grows;
  }

  -- nothing is done, and what is in scope stays in order
  pub none_declared : (s : State) (done : List ADeclaration) (r : State) → InOrder scope parameters r → Grows s r → Behind (Unit {0}) signatures scope parameters s done (done, r)
  none_declared s done r o h = record {
    rest = [];
    is = sym (append-nil done);
    sound = record { fits = λ size l w. tt; stands = λ gs objects block l defined. tt; order = o; grows = h };
  }

  pub none_behind : (s : State) (done : List ADeclaration) (r : List ADeclaration × State) → InOrder scope parameters s → r ≡ (done, s) →
      Behind (Unit {0}) signatures scope parameters s done r
  none_behind s done r o is = rw is (none_declared s done s o (grows_same s))

  pub behind_given : {W V : Type 0} (s : State) (done : List ADeclaration) (r : List ADeclaration × State) →
      Behind W signatures scope parameters s done r → (V → W) → Behind V signatures scope parameters s done r
  behind_given s done r h f = record {
    rest = h.rest;
    is = h.is;
    sound = record {
      fits = λ size l v. h.sound.fits size l (f v);
      stands = h.sound.stands;
      order = h.sound.order;
      grows = h.sound.grows;
    };
  }

-- one after another
pub behind_further : {W V : Type 0} (signatures : List Signature) (scope : ℕ → Type 0) (parameters : ℕ) (s : State) (done : List ADeclaration)
    (m r : List ADeclaration × State) (h : Behind W signatures scope parameters s done m) →
    Behind V signatures (declaring scope h.rest) parameters m.1 m.0 r → Behind (W × V) signatures scope parameters s done r
behind_further signatures scope parameters s done m r h k = record {
  rest = h.rest ++ k.rest;
  is = k.is ∙ (ap (λ (z : List ADeclaration). z ++ k.rest) h.is ∙ append_assoc done h.rest k.rest);
  sound = locals_with signatures scope parameters s m.1 r.1 h.rest k.rest h.sound k.sound;
}
