-- What a client with these caps may read, or write: plain reads and plain writes of one object, which the operation names. Calls of object
-- classes, and operations that reach a second object beside the one that they name, are not judged. From where the client comes is not
-- looked at either: a grant with a network counts as if the client had an address there.
use Rattle.std.specs.Prelude.{ℕ, Bool, true, false, ◌&&◌, ◌||◌, List, [], codes, nat_eq, bytes_eq, Option, Some, None, IsTrue}
use Rattle.std.specs.List.{list_any, starts_with}
use Rattle.osd_caps.specs.declared.access.Access.{Access}
use Rattle.osd_caps.specs.declared.access.Access.TheVariants.{Allow, OfProfile}
use Rattle.osd_caps.specs.declared.access.Profile.{Profile}
use Rattle.osd_caps.specs.declared.access.Profile.TheVariants.{Other, Rbd, RbdReadOnly, ReadOnly, ReadWrite}
use Rattle.osd_caps.specs.declared.access.Right.{Right}
use Rattle.osd_caps.specs.declared.access.Right.TheVariants.{Read, Write}
use Rattle.osd_caps.specs.declared.access.Rights.{Rights}
use Rattle.osd_caps.specs.declared.grant.OsdGrant.{OsdGrant}
use Rattle.osd_caps.specs.declared.scope.NamespaceRule.{NamespaceRule}
use Rattle.osd_caps.specs.declared.scope.NamespaceRule.TheVariants.{Exact, Prefix}
use Rattle.osd_caps.specs.declared.scope.Scope.{Scope}
use Rattle.osd_caps.specs.declared.scope.Tag.{Tag}
use Rattle.osd_caps.specs.declared.scope.TagPart.{TagPart}
use Rattle.osd_caps.specs.declared.scope.TagPart.TheVariants as parts
use Rattle.osd_caps.specs.declared.tags.Application.{Application}
use Rattle.osd_caps.specs.declared.tags.Pair.{Pair}
use Rattle.osd_caps.specs.Accesses.{rights}

-- ---- which rights a grant gives

-- whether a right is one of these
abbrev pub includes : Rights → Right → Bool
includes given Read = given.reads
includes given Write = given.writes

-- what a profile gives in its pool and namespace
abbrev pub profile_rights : Profile → Rights
profile_rights ReadOnly = rights true false
profile_rights ReadWrite = rights true true
profile_rights Rbd = rights true true
profile_rights RbdReadOnly = rights true false
profile_rights Other = rights false false

abbrev pub rights_of : Access → Rights
rights_of (Allow given) = given
rights_of (OfProfile profile) = profile_rights profile

-- `profile rbd` reads some objects more, of every pool and namespace: those whose names begin with `rbd_info`
abbrev pub is_rbd : Access → Bool
is_rbd (OfProfile Rbd) = true
is_rbd access = false

abbrev pub reads_rbd_info : Access → Right → Bool
reads_rbd_info access Read = is_rbd access
reads_rbd_info access Write = false

-- ---- of which objects it speaks

-- no pool is every pool
abbrev pub is_of_pool : Option (List ℕ) → List ℕ → Bool
is_of_pool None pool = true
is_of_pool (Some own) pool = bytes_eq own pool

-- no namespace is every namespace
abbrev pub is_of_namespace : Option NamespaceRule → List ℕ → Bool
is_of_namespace None namespace = true
is_of_namespace (Some (Exact own)) namespace = bytes_eq own namespace
is_of_namespace (Some (Prefix start)) namespace = starts_with nat_eq namespace start

-- whether a key or a value of a tag is this one
abbrev pub fits : TagPart → List ℕ → Bool
fits parts.Any word = true
fits (parts.Exact own) word = bytes_eq own word

abbrev pub is_any : TagPart → Bool
is_any parts.Any = true
is_any (parts.Exact own) = false

unfoldable pub fits_pair : Tag → Pair → Bool
fits_pair tag pair = fits tag.key pair.key.now && fits tag.value pair.value.now

-- whether one of the pairs fits; `*=*` asks for none
unfoldable pub fits_pairs : Tag → List Pair → Bool
fits_pairs tag pairs = is_any tag.key && is_any tag.value || list_any (fits_pair tag) pairs

-- whether an application of the pool is the one that the tag names, with pairs that fit
unfoldable pub fits_application : Tag → Application → Bool
fits_application tag application = bytes_eq tag.application application.name.now && fits_pairs tag application.pairs.now

-- no tag is every pool
abbrev pub is_tagged : Option Tag → List Application → Bool
is_tagged None tags = true
is_tagged (Some tag) tags = list_any (fits_application tag) tags

-- no beginning is every name
abbrev pub begins_name : Option (List ℕ) → List ℕ → Bool
begins_name None name = true
begins_name (Some start) name = starts_with nat_eq name start

-- whether a scope has this pool, which has these tags, and this namespace
abbrev pub is_in_scope : Scope → List ℕ → List ℕ → List Application → Bool
is_in_scope scope pool namespace tags = is_of_pool scope.pool pool && is_of_namespace scope.namespace namespace && is_tagged scope.tag tags

-- ---- what is opened

-- whether a grant gives the right in the pool and the namespace, to the names that it speaks of
unfoldable pub gives : OsdGrant → List ℕ → List ℕ → List Application → Right → Bool
gives grant pool namespace tags right = includes (rights_of grant.access) right && is_in_scope grant.scope pool namespace tags

-- whether a grant opens the object of this name
unfoldable pub opens_by : OsdGrant → List ℕ → List ℕ → List Application → List ℕ → Right → Bool
opens_by grant pool namespace tags name right =
    gives grant pool namespace tags right && begins_name grant.scope.prefix name
    || reads_rbd_info grant.access right && starts_with nat_eq name (codes "rbd_info")

-- whether one of the grants opens the object: the order of grants means nothing, and no two of them are taken together
abbrev pub opens_object : List OsdGrant → List ℕ → List ℕ → List Application → List ℕ → Right → Bool
opens_object caps pool namespace tags name right = list_any (λ grant. opens_by grant pool namespace tags name right) caps

-- whether one of the grants opens an object of the pool and the namespace, whichever its name
unfoldable pub opens_some : OsdGrant → List ℕ → List ℕ → List Application → Right → Bool
opens_some grant pool namespace tags right = gives grant pool namespace tags right || reads_rbd_info grant.access right

abbrev pub opens : List OsdGrant → List ℕ → List ℕ → List Application → Right → Bool
opens caps pool namespace tags right = list_any (λ grant. opens_some grant pool namespace tags right) caps

-- there is a name of which it is so
abbrev pub OpensSome : List OsdGrant → List ℕ → List ℕ → List Application → Right → Type 0
OpensSome caps pool namespace tags right = (name : List ℕ) × IsTrue (opens_object caps pool namespace tags name right)

-- what opens the object without a name opens every object of the pool and the namespace
abbrev pub NoNameIsEveryName : Type 0
NoNameIsEveryName = (caps : List OsdGrant) (pool namespace : List ℕ) (tags : List Application) (right : Right)
    → IsTrue (opens_object caps pool namespace tags [] right) → (name : List ℕ) → IsTrue (opens_object caps pool namespace tags name right)
