-- A step of a loop over grants that this server read.
use Rattle.std.proofs.Common.{◌≡◌, ℕ, ◌+◌, ◌<◌, List, [], ◌∷◌, ◌++◌, length, map, take, get_or, sym, ap, ◌∙◌}
use Rattle.std.proofs.lemmas.List.{map-append, take_more}
use Rattle.capspec.specs.declared.grant.Grant.{Grant as OwnGrant}
use Rattle.release_grants.specs.declared.grant.Grant.{Grant}
use Rattle.release_grants.specs.Written.{as_there}

pub one_more_there : (grants : List OwnGrant) (i : ℕ) (g : OwnGrant) (owned : Grant) (before after : List Grant) → i < length grants → g ≡ get_or grants i g → owned ≡ as_there g
    → before ≡ map as_there (take i grants) → after ≡ before ++ owned ∷ [] → after ≡ map as_there (take (i + 1) grants)
one_more_there grants i g owned before after within is there so_far more =
    more ∙ ap (λ (gs : List Grant). gs ++ owned ∷ []) so_far ∙ ap (λ (k : Grant). map as_there (take i grants) ++ k ∷ []) there
    ∙ sym (map-append as_there (take i grants) (g ∷ []))
    ∙ sym (ap (map as_there) (take_more grants i g within ∙ ap (λ (x : OwnGrant). take i grants ++ x ∷ []) (sym is)))
