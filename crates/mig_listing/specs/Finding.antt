-- What the least key gives of all that give something.
use Rattle.std.specs.Prelude.{◌≡◌, List, [], ◌∷◌, Option, Some, None}
use Rattle.mig_listing.specs.Listing.{IsIn, Rises}

-- the first of two that is there
abbrev pub or_else : {V : Type 0} → Option V → Option V → Option V
or_else (Some v) o = Some v
or_else None o = o

-- what the first of a list that gives something gives
abbrev pub first_some : {K V : Type 0} → (K → Option V) → List K → Option V
first_some f [] = None
first_some f (k ∷ ks) = or_else (f k) (first_some f ks)

-- a key gives v, and no key before it gives anything
pub record IsLeast {K V : Type 0} (R : K → K → Type 0) (gives : K → Option V) (v : V) : Type 0 where
  pub key : K
  pub gives_it : gives key ≡ Some v
  pub least : (k : K) → R k key → gives k ≡ None

-- what the least key that gives something gives; nothing, where no key gives anything
abbrev pub Finds : {K V : Type 0} → (K → K → Type 0) → (K → Option V) → Option V → Type 0
Finds {K} R gives None = (k : K) → gives k ≡ None
Finds R gives (Some v) = IsLeast R gives v

-- a rising list in which each key stands that gives something
pub record Offers {K V : Type 0} (R : K → K → Type 0) (gives : K → Option V) (ks : List K) : Type 0 where
  pub rises : Rises R ks
  pub has : (k : K) (v : V) → gives k ≡ Some v → IsIn k ks
