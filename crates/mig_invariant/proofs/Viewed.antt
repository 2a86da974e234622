-- The views that the rest of two lists of joins adds.
use Rattle.std.proofs.Common.{◌≡◌, ◌⊎◌, List, [], ◌∷◌, ◌++◌, refl, ap, sym, ◌∙◌, append-nil, inl, inr}
use Rattle.mig_schema.specs.declared.tables.ColId.{ColId}
use Rattle.mig_schema.specs.declared.programs.Join.{Join}
use Rattle.mig_meaning.specs.declared.relating.Invariant.{Invariant}
use Rattle.mig_invariant.specs.declared.corresp.Corr.{Corr}
use Rattle.mig_invariant.specs.Candidates.{views}

-- none where either list has ended
pub none_left : (sources targets : List ColId) (corr : Corr) (olds news : List Join) → (olds ≡ []) ⊎ (news ≡ []) → views sources targets corr olds news ≡ []
none_left sources targets corr [] news ended = refl
none_left sources targets corr (j ∷ js) [] ended = refl
none_left sources targets corr (j ∷ js) (k ∷ ks) (inl ended) = cc
none_left sources targets corr (j ∷ js) (k ∷ ks) (inr ended) = cc

-- so what is listed then is the whole
pub all_listed : (list whole : List Invariant) (sources targets : List ColId) (corr : Corr) (olds news : List Join) → (olds ≡ []) ⊎ (news ≡ []) → list ++ views sources targets corr olds news ≡ whole → list ≡ whole
all_listed list whole sources targets corr olds news ended is = sym (ap (λ rest. list ++ rest) (none_left sources targets corr olds news ended) ∙ append-nil list) ∙ is
