-- Of which objects a grant speaks, as its text says it: by pool, namespace, tag of the pool and beginning of the name.
use Rattle.std.specs.Prelude.{ℕ, ◌-◌, List, length, take, codes, nat_eq, bytes_eq, Option, Some, None, if◌then◌else◌}
use Rattle.std.specs.List.{ends_with}
use Rattle.capspec.specs.Words.{rest_while}
use Rattle.byte_sets.specs.Sets.{is_in}
use Rattle.byte_sets.specs.declared.sets.ByteSet.TheVariants.{AnyWhite}
use Rattle.osd_caps.specs.declared.scope.NamespaceRule.{NamespaceRule}
use Rattle.osd_caps.specs.declared.scope.NamespaceRule.TheVariants.{Exact, Prefix}
use Rattle.osd_caps.specs.declared.scope.Scope.{Scope}
use Rattle.osd_caps.specs.declared.scope.Tag.{Tag}
use Rattle.osd_caps.specs.declared.scope.TagPart.{TagPart}
use Rattle.osd_caps.specs.declared.scope.TagPart.TheVariants as parts
use Rattle.osd_caps.specs.Words.{◌>>=◌, behind, behind_spaces, behind_spaced, behind_key, behind_star, string_at, word_at}

-- what is read, if it stands there, and what follows: else the whole text
abbrev pub optional : {A : Type 0} → List ℕ → Option (A × List ℕ) → Option A × List ℕ
optional text None = (None, text)
optional text (Some found) = (Some found.0, found.1)

-- `pool=NAME`
unfoldable pub pool_at : List ℕ → Option (List ℕ × List ℕ)
pool_at text = do
  text ← behind_key (codes "pool") text
  word_at text

-- `object_prefix NAME`
unfoldable pub prefix_at : List ℕ → Option (List ℕ × List ℕ)
prefix_at text = do
  text ← behind_spaced (codes "object_prefix") text
  word_at text

-- the namespace of that name; where the name ends in a star, all that begin with what stands before it
unfoldable pub namespace_of : List ℕ → NamespaceRule
namespace_of name = if ends_with nat_eq name (codes "*") then Prefix (take (length name - 1) name) else Exact name

-- a name, and a star if it follows: then all namespaces that begin with the name
abbrev pub starred : List ℕ → List ℕ → Option (List ℕ) → NamespaceRule × List ℕ
starred name rest None = (namespace_of name, rest)
starred name rest (Some behind_star) = (Prefix name, behind_star)

-- `namespace=NAME` or `namespace=NAME*`
unfoldable pub namespace_at : List ℕ → Option (NamespaceRule × List ℕ)
namespace_at text = do
  text ← behind_key (codes "namespace") text
  found ← string_at text
  Some (starred found.0 found.1 (behind (codes "*") found.1))

-- a key or a value of that name; a star in quotes is a star too
unfoldable pub tag_part_of : List ℕ → TagPart
tag_part_of word = if bytes_eq word (codes "*") then parts.Any else parts.Exact word

-- `*` or `all`, which is tried first, or a name
abbrev pub tag_part_by : List ℕ → Option (List ℕ) → Option (TagPart × List ℕ)
tag_part_by text (Some rest) = Some (parts.Any, rest)
tag_part_by text None = do
  found ← word_at text
  Some (tag_part_of found.0, found.1)

unfoldable pub tag_part_at : List ℕ → Option (TagPart × List ℕ)
tag_part_at text = tag_part_by text (behind_star text)

-- the text behind `=`, which may have spaces round it
unfoldable pub behind_equals : List ℕ → Option (List ℕ)
behind_equals text = do
  text ← behind (codes "=") (rest_while (is_in AnyWhite) text)
  Some (rest_while (is_in AnyWhite) text)

-- `KEY=VALUE`
unfoldable pub pair_at : List ℕ → Option (TagPart × TagPart × List ℕ)
pair_at text = do
  key ← tag_part_at text
  text ← behind_equals key.1
  value ← tag_part_at text
  Some (key.0, value.0, value.1)

-- `tag APPLICATION KEY=VALUE`
unfoldable pub tag_at : List ℕ → Option (Tag × List ℕ)
tag_at text = do
  text ← behind_spaced (codes "tag") text
  application ← word_at text
  text ← behind_spaces application.1
  pair ← pair_at text
  Some (record { application = application.0; key = pair.0; value = pair.1 }, pair.2)

-- a tag, where there is no pool before it
abbrev pub tag_without : Option (List ℕ) → List ℕ → Option (Tag × List ℕ)
tag_without None text = tag_at text
tag_without (Some pool) text = None

-- the whole scope: behind the pool and the namespace a tag, or else a beginning of names
abbrev pub scope_with : Option (List ℕ) → Option NamespaceRule → List ℕ → Option (Tag × List ℕ) → Scope × List ℕ
scope_with pool namespace text (Some found) = (record { pool = pool; namespace = namespace; tag = Some found.0; prefix = None }, found.1)
scope_with pool namespace text None =
    let found = optional text (prefix_at text) in
    (record { pool = pool; namespace = namespace; tag = None; prefix = found.0 }, found.1)

-- a pool and a namespace, each if it stands there
unfoldable pub place_at : List ℕ → Option (List ℕ) × Option NamespaceRule × List ℕ
place_at text =
    let pool = optional text (pool_at text) in
    let namespace = optional pool.1 (namespace_at pool.1) in
    (pool.0, namespace.0, namespace.1)

-- `[pool=NAME] [namespace=NAME] [object_prefix NAME]`, or `[namespace=NAME] tag APPLICATION KEY=VALUE`
unfoldable pub scope_at : List ℕ → Scope × List ℕ
scope_at text = let place = place_at text in scope_with place.0 place.1 place.2 (tag_without place.0 place.2)
