-- What is told of who holds something, where releases judge otherwise.
use Rattle.std.proofs.Common.{◌≡◌, ◌⊎◌, ℕ, Bool, Some, None, List, [], ◌++◌, inl, inr, refl, subst, ap, ◌∙◌, append_assoc}
use Rattle.capbits.specs.Caps.{Caps}
use Rattle.capspec.specs.declared.fault.SpecFault.{SpecFault}
use Rattle.capspec.specs.declared.fault.SpecFaultKind.TheVariants.{NoMemory}
use Rattle.capspec.specs.declared.grant.Grant.{Grant}
use Rattle.capspec.specs.Faults.{IsFault, IsNoMemory}
use Rattle.capspec.specs.Grants.{Reads}
use Rattle.capgrant.specs.declared.access.Access.{Access}
use Rattle.capgrant.specs.declared.access.Access.TheVariants.{Read, Write}
use Rattle.capgrant.specs.declared.access.Attr.{Attr}
use Rattle.capgrant.specs.Permitted.{for_readers, for_writers}
use Rattle.ceph_input.specs.Auth.{Named}
use Rattle.ceph_input.specs.Dump.{Held, Listed, PathMap}
use Rattle.locktable.specs.Targets.{has_any}
use Rattle.policy_analysis.specs.declared.standing.Standing.{Standing}
use Rattle.policy_analysis.specs.Standing.{AnswersOf}
use Rattle.release_rules.specs.declared.beside.Others.{Others}
use Rattle.texts.specs.Mds.{others_lines}
use Rattle.cluster_audit.specs.declared.notes.Detail.{Detail}
use Rattle.cluster_audit.specs.Callers.{Inode, wanted_of}
use Rattle.cluster_audit.specs.Audited.{AddsTo, Clients, Give, entity_of, path_of}
use Rattle.cluster_audit.specs.Otherwise.{TellsIf, TellsOfAccess, TellsOfCaps, TellsOfHolder, TellsOfInode, TellsOfText, access_front, others_to}

module _ (detail : Detail) (known : Clients) (i : Inode) (h : Held) where
  pub unlisted : entity_of known.entities known.sessions h.client ≡ None → TellsOfHolder detail known i h []
  unlisted none = rw none refl

  pub no_grants : (e : Named) → entity_of known.entities known.sessions h.client ≡ Some e → e.caps ≡ None → TellsOfHolder detail known i h []
  no_grants e is none = rw (is, none) refl

  pub granted : (e : Named) → entity_of known.entities known.sessions h.client ≡ Some e → (text lines : List ℕ) → e.caps ≡ Some text → TellsOfText detail i e.name h text lines → TellsOfHolder detail known i h lines
  granted e is text lines has tells = rw (is, has) tells

-- an inode by its names and by the path that they are
abbrev pub seen : List ℕ → List (List ℕ) → List (List ℕ) → Attr → Inode
seen fs names path attr = record { fs = fs; path = names; place = path; attr = attr }

module _ (fs : List ℕ) (known : Clients) (paths : PathMap) (it : Listed) where
  pub without_path : path_of paths it ≡ None → TellsOfInode fs known paths it []
  without_path none = rw none refl

  pub at_path : (path names : List (List ℕ)) (attr : Attr) (holders : List Held) → path_of paths it ≡ Some path → names ≡ path → attr ≡ it.attr → holders ≡ it.holders
      → (lines : List ℕ) → Give (TellsOfHolder known.manner.detail known (seen fs names path attr)) holders lines → TellsOfInode fs known paths it lines
  at_path path names attr holders leads are_names is_attr are_holders lines given =
      rw leads (
      subst (λ (p : List (List ℕ)). Give (TellsOfHolder known.manner.detail known (seen fs p path it.attr)) it.holders lines) are_names
      (subst (λ (a : Attr). Give (TellsOfHolder known.manner.detail known (seen fs names path a)) it.holders lines) is_attr
      (subst (λ (hs : List Held). Give (TellsOfHolder known.manner.detail known (seen fs names path attr)) hs lines) are_holders given)))

-- the fault of a text that means nothing, where memory is not what is missed
pub is_fault : (text : List ℕ) (fault : SpecFault) → (fault.kind ≡ NoMemory → ⊥) → IsFault text fault ⊎ (IsNoMemory fault × (grants : List Grant) × Reads text grants) → IsFault text fault
is_fault text fault other (inl is) = is
is_fault text fault other (inr none) = absurd (other (ap (λ (f : SpecFault). f.kind) none.0))

module _ (detail : Detail) (i : Inode) (client : List ℕ) (session : ℕ) (text : List ℕ) (grants : List Grant) where
  pub of_caps : (caps : Caps) (reads writes : Bool) (old middle new : List ℕ) → reads ≡ has_any caps for_readers → writes ≡ has_any caps for_writers
      → AddsTo (TellsIf reads (TellsOfAccess detail i client session text grants Read)) old middle → AddsTo (TellsIf writes (TellsOfAccess detail i client session text grants Write)) middle new
      → AddsTo (TellsOfCaps detail i client session text grants caps) old new
  of_caps caps reads writes old middle new are_reads are_writes first second = (
    first.0 ++ second.0,
    second.1 ∙ ap (λ (t : List ℕ). t ++ second.0) first.1 ∙ append_assoc old first.0 second.0,
    (
      first.0,
      second.0,
      subst (λ (b : Bool). TellsIf b (TellsOfAccess detail i client session text grants Read) first.0) are_reads first.2,
      subst (λ (b : Bool). TellsIf b (TellsOfAccess detail i client session text grants Write) second.0) are_writes second.2,
      refl,
    ),
  )

  pub of_access : (access : Access) (standing : Standing) (others : Others) (front old new : List ℕ) → AnswersOf (wanted_of i access) i.attr grants standing → others ≡ others_to i access text standing
      → front ≡ access_front detail i.path client session access → new ≡ old ++ others_lines front others → AddsTo (TellsOfAccess detail i client session text grants access) old new
  of_access access standing others front old new answers are_others is_front more = (
    others_lines front others,
    more,
    (
      standing,
      answers,
      ap (λ (f : List ℕ). others_lines f others) is_front ∙ ap (λ (o : Others). others_lines (access_front detail i.path client session access) o) are_others,
    ),
  )
