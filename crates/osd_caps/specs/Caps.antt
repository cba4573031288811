-- Whole texts: the grants that one means, or where it is first wrong.
use Rattle.std.specs.Prelude.{ℕ, zero, suc, ◌+◌, ◌-◌, List, [], ◌∷◌, ◌++◌, length, codes, Option, Some, None, Result, Ok, Err, unwrap_or, option_map}
use Rattle.std.specs.Prelude.{if◌then◌else◌}
use Rattle.byte_sets.specs.Sets.{is_in, is_mark}
use Rattle.capspec.specs.Words.{rest_while}
use Rattle.byte_sets.specs.declared.sets.ByteSet.TheVariants.{AnyWhite, Blank, Network}
use Rattle.osd_caps.specs.declared.access.Access.{Access}
use Rattle.osd_caps.specs.declared.access.Access.TheVariants.{Allow, OfProfile}
use Rattle.osd_caps.specs.declared.access.Rights.{Rights}
use Rattle.osd_caps.specs.declared.fault.OsdFault.{OsdFault}
use Rattle.osd_caps.specs.declared.fault.OsdFaultKind.{OsdFaultKind}
use Rattle.osd_caps.specs.declared.fault.OsdFaultKind.TheVariants.{LeftOver, NoAccess, NoMemory, NoProfile, NotGrant}
use Rattle.osd_caps.specs.declared.fault.Refusal.{Refusal}
use Rattle.osd_caps.specs.declared.grant.OsdGrant.{OsdGrant}
use Rattle.osd_caps.specs.declared.scope.NamespaceRule.{NamespaceRule}
use Rattle.osd_caps.specs.declared.scope.Scope.{Scope}
use Rattle.osd_caps.specs.Words.{◌>>=◌, behind, behind_spaced, behind_sign, run_at, word_at}
use Rattle.osd_caps.specs.Scopes.{place_at, scope_at}
use Rattle.osd_caps.specs.Accesses.{profile_of, rights_at}

-- the text behind its spaces, and behind its blanks
abbrev pub past_spaces : List ℕ → List ℕ
past_spaces text = rest_while (is_in AnyWhite) text

abbrev pub past_blanks : List ℕ → List ℕ
past_blanks text = rest_while (is_in Blank) text

-- what is wrong at the front of this text
abbrev pub refused : OsdFaultKind → List ℕ → Refusal
refused kind text = record { left = length text; kind = kind }

abbrev pub grant : Access → Scope → OsdGrant
grant access scope = record { access = access; scope = scope }

-- `network ADDRESSES`: from where the client may come is not looked at
unfoldable pub network_at : List ℕ → Option (List ℕ × List ℕ)
network_at text = do
  text ← behind_spaced (codes "network") text
  run_at Network text

-- the text behind a network, if one stands there, and behind blanks: here a grant ends
unfoldable pub grant_end : List ℕ → List ℕ
grant_end text = past_blanks (unwrap_or (option_map (λ found. found.1) (network_at text)) text)

-- what a grant allows stands behind its scope
abbrev pub allow_behind : Scope → List ℕ → Option (Rights × List ℕ) → Result (OsdGrant × List ℕ) Refusal
allow_behind scope text None = Err (refused NoAccess (past_spaces text))
allow_behind scope text (Some found) = Ok (grant (Allow found.0) scope, grant_end found.1)

-- or before it, which is tried first
abbrev pub allow_by : List ℕ → Option (Rights × List ℕ) → Result (OsdGrant × List ℕ) Refusal
allow_by text None = let found = scope_at text in allow_behind found.0 found.1 (rights_at found.1)
allow_by text (Some before) = let found = scope_at before.1 in Ok (grant (Allow before.0) found.0, grant_end found.1)

-- the text behind `allow`
unfoldable pub allow_at : List ℕ → Result (OsdGrant × List ℕ) Refusal
allow_at text = allow_by text (rights_at text)

-- the scope of a profile: it has a pool and a namespace alone
abbrev pub place_scope : Option (List ℕ) → Option NamespaceRule → Scope
place_scope pool namespace = record { pool = pool; namespace = namespace; tag = None; prefix = None }

abbrev pub profile_named : List ℕ → Option (List ℕ × List ℕ) → Result (OsdGrant × List ℕ) Refusal
profile_named text None = Err (refused NoProfile text)
profile_named text (Some found) =
    let place = place_at found.1 in
    Ok (grant (OfProfile (profile_of found.0)) (place_scope place.0 place.1), grant_end place.2)

abbrev pub profile_by : List ℕ → Option (List ℕ) → Result (OsdGrant × List ℕ) Refusal
profile_by text None = Err (refused NoProfile text)
profile_by text (Some name) = profile_named name (word_at name)

-- the text behind `profile`
unfoldable pub profile_at : List ℕ → Result (OsdGrant × List ℕ) Refusal
profile_at text = profile_by text (behind_sign text)

abbrev pub grant_by : List ℕ → Option (List ℕ) → Option (List ℕ) → Result (OsdGrant × List ℕ) Refusal
grant_by text (Some rest) profile = allow_at rest
grant_by text None (Some rest) = profile_at rest
grant_by text None None = Err (refused NotGrant text)

-- one grant
unfoldable pub grant_at : List ℕ → Result (OsdGrant × List ℕ) Refusal
grant_at text = let first = past_blanks text in grant_by first (behind (codes "allow") first) (behind (codes "profile") first)

-- behind the last grant nothing but spaces may stand
abbrev pub end_at : List ℕ → Result (Option (List ℕ)) Refusal
end_at [] = Ok None
end_at (b ∷ text) = Err (refused LeftOver (b ∷ text))

-- the text of the next grant, behind `,` or `;`, or that there is none
unfoldable pub next_at : List ℕ → Result (Option (List ℕ)) Refusal
next_at [] = Ok None
next_at (b ∷ text) = if is_mark b then Ok (Some text) else end_at (past_spaces (b ∷ text))

abbrev pub with_next : OsdGrant → Result (Option (List ℕ)) Refusal → Result (OsdGrant × Option (List ℕ)) Refusal
with_next grant (Ok next) = Ok (grant, next)
with_next grant (Err refusal) = Err refusal

abbrev pub step_by : Result (OsdGrant × List ℕ) Refusal → Result (OsdGrant × Option (List ℕ)) Refusal
step_by (Ok found) = with_next found.0 (next_at found.1)
step_by (Err refusal) = Err refusal

-- one grant, and the text of the next one if there is one
unfoldable pub step_at : List ℕ → Result (OsdGrant × Option (List ℕ)) Refusal
step_at text = step_by (grant_at text)

abbrev pub gathered : (List OsdGrant → List ℕ → Result (List OsdGrant) Refusal) → List OsdGrant → Result (OsdGrant × Option (List ℕ)) Refusal → Result (List OsdGrant) Refusal
gathered go_on grants (Err refusal) = Err refusal
gathered go_on grants (Ok (grant, None)) = Ok (grants ++ grant ∷ [])
gathered go_on grants (Ok (grant, Some text)) = go_on (grants ++ grant ∷ []) text

-- These grants, and those of the text. The number is a bound that is not come to: it is above the length of what is left.
abbrev pub grants_from : ℕ → List OsdGrant → List ℕ → Result (List OsdGrant) Refusal
grants_from zero grants text = Err (refused LeftOver text)
grants_from (suc most) grants text = gathered (grants_from most) grants (step_at text)

-- the grants that a whole text means, or the first thing that is wrong with it
unfoldable pub caps_of : List ℕ → Result (List OsdGrant) Refusal
caps_of text = grants_from (length text + 1) [] (past_spaces text)

-- the same fault, by its place in the whole text
abbrev pub fault_in : List ℕ → Refusal → OsdFault
fault_in text refusal = record { at = length text - refusal.left; kind = refusal.kind }

-- want of memory: no fault of the text
abbrev pub no_memory : OsdFault
no_memory = record { at = 0; kind = NoMemory }
