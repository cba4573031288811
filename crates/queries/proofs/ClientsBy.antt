-- What a release says of a client.
use Rattle.std.proofs.Common.{◌≡◌, ℕ, Bool, true, false, Option, Some, List, ◌++◌, refl, ap, subst, ◌∙◌}
use Rattle.std.specs.Prelude.{Err, Ok, Result}
use Rattle.policy_analysis.specs.MdsStanding.{MdsWanted, standing_by, switches}
use Rattle.release_grants.specs.declared.grant.Grant.{Grant}
use Rattle.release_grants.specs.declared.reading.Unread.{Unread}
use Rattle.release_grants.specs.Reading.{read_of}
use Rattle.queries.specs.declared.clients.Telling.{Telling}
use Rattle.queries.specs.ClientsBy.{SaysBy, SaysOf, mds_standing_in, mds_unread_in}

-- what was appended says this of the client
abbrev pub Appends : Telling → MdsWanted → List ℕ → Option (List ℕ) → Bool → List ℕ → List ℕ → Type 0
Appends telling w name caps judged before after = (line : List ℕ) × (after ≡ before ++ line) × SaysBy telling w name caps judged line

module _ (telling : Telling) (w : MdsWanted) (name : List ℕ) (caps : Option (List ℕ)) (text before after : List ℕ) (has_text : Some text ≡ caps) where
  -- the release reads these grants
  pub judged_by : (given : List ℕ) (grants asked : List Grant) → given ≡ name → asked ≡ grants → Ok grants ≡ read_of (switches w) text → after ≡ before ++ mds_standing_in telling given w (standing_by w asked) → Appends telling w name caps true before after
  judged_by given grants asked named same reads more = (
    mds_standing_in telling name w (standing_by w grants),
    more ∙ ap (λ (n : List ℕ). before ++ mds_standing_in telling n w (standing_by w asked)) named ∙ ap (λ (gs : List Grant). before ++ mds_standing_in telling name w (standing_by w gs)) same,
    subst (λ (c : Option (List ℕ)). SaysBy telling w name c true (mds_standing_in telling name w (standing_by w grants))) has_text
        (subst (λ (r : Result (List Grant) Unread). SaysOf telling name w r true (mds_standing_in telling name w (standing_by w grants))) reads (refl, refl)),
  )

  -- the release reads the text up to here
  pub unread_by : (given : List ℕ) (unread : Unread) → given ≡ name → Err unread ≡ read_of (switches w) text → after ≡ before ++ mds_unread_in telling given w unread.at → Appends telling w name caps false before after
  unread_by given unread named reads more = (
    mds_unread_in telling name w unread.at,
    more ∙ ap (λ (n : List ℕ). before ++ mds_unread_in telling n w unread.at) named,
    subst (λ (c : Option (List ℕ)). SaysBy telling w name c false (mds_unread_in telling name w unread.at)) has_text
        (subst (λ (r : Result (List Grant) Unread). SaysOf telling name w r false (mds_unread_in telling name w unread.at)) reads (refl, refl)),
  )
