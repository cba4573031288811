-- What a line of an audit tells.
use Rattle.std.specs.Prelude.{◌≡◌, ℕ, ◌<◌, ◌^◌, Bool, codes, if◌then◌else◌, Option, Some, None, List, [], ◌∷◌, All, map}
use Rattle.std.specs.List.{flat_map}
use Rattle.capbits.specs.Caps.{Caps}
use Rattle.capbits.specs.Sets.{minus}
use Rattle.capgrant.specs.declared.access.Access.{Access}
use Rattle.capgrant.specs.declared.access.Access.TheVariants.{Read, Write}
use Rattle.capgrant.specs.declared.rule.Rule.{Rule as OwnRule}
use Rattle.capgrant.specs.declared.rule.Rule.TheVariants as own_rule
use Rattle.release_rules.specs.declared.beside.Otherwise.{Otherwise}
use Rattle.release_rules.specs.declared.rule.Rule.{Rule}
use Rattle.release_rules.specs.declared.rule.Rule.TheVariants as rule
use Rattle.cluster_audit.specs.declared.findings.Denial.{Denial}
use Rattle.cluster_audit.specs.declared.findings.Denial.TheVariants.{Own, There}
use Rattle.cluster_audit.specs.declared.findings.Finding.{Finding}
use Rattle.cluster_audit.specs.declared.grants_by.Unreadable.{Unreadable}
use Rattle.cluster_audit.specs.declared.grants_by.Unreadable.TheVariants as unreadable
use Rattle.cluster_audit.specs.declared.unjudged.Unknown.{Unknown}
use Rattle.cluster_audit.specs.declared.conflict.Conflict.{Conflict}
use Rattle.texts.specs.Explaining.{path_text}
use Rattle.texts.specs.Mds.{said, said_line}
use Rattle.texts.specs.declared.shape.Shape.TheVariants.{Lines}
use Rattle.texts.specs.Shapes.{nothing_in}
use Rattle.cluster_audit.specs.declared.notes.Detail.TheVariants.{Each, Groups}
use Rattle.cluster_audit.specs.declared.summary.Counts.{Counts}
use Rattle.cluster_audit.specs.Findings.{rules_there}
use Rattle.cluster_audit.specs.Lines.{alias_line, conflict_line, conflict_text, counts_line, group_text, held_line, pathless_line, unknown_line, unlinked_line, unlisted_line}
use Rattle.cluster_audit.specs.Lines.{unnamed_line, unreadable_line}
use Rattle.cluster_audit.specs.Otherwise.{access_front}
use Rattle.cluster_audit.specs.Shaped.{counted_in}

-- the releases that a line names
pub data Releases : Type 0 where
  all_three : Releases
  first_two : Releases
  last_two : Releases
  sixteen : Releases
  eighteen : Releases
  twenty : Releases

abbrev pub releases_text : Releases → List ℕ
releases_text all_three = codes "16, 18 and 20"
releases_text first_two = codes "16 and 18"
releases_text last_two = codes "18 and 20"
releases_text sixteen = codes "16"
releases_text eighteen = codes "18"
releases_text twenty = codes "20"

-- to write, or to read
abbrev pub access_of : Bool → Access
access_of writes = if writes then Write else Read

-- a line of an audit, by what its text is made of
pub data Line : Type 0 where
  -- of this inode, at this path, this client in this session was issued and is left to hold; what of it nobody is permitted, and whether
  -- nobody judges what is written back by that
  held : ℕ → List (List ℕ) → List ℕ → ℕ → Caps → Caps → Finding → Bool → Line
  -- how many lines of a client are so
  group : List ℕ → Finding → ℕ → Line
  -- of this inode, to which a path may lead, two sessions, each with the name that it may tell, hold what no two may hold
  conflict : ℕ → Option (List (List ℕ)) → Option (List ℕ) → Option (List ℕ) → Conflict → Line
  -- how many of two clients do so
  conflict_group : Option (List ℕ) → Option (List ℕ) → Conflict → ℕ → Line
  -- in this session this client calls itself so
  renamed : ℕ → List ℕ → List ℕ → Line
  -- this inode was unlinked at this path
  unlinked : ℕ → List (List ℕ) → Line
  unnamed : ℕ → Line
  unlisted : List ℕ → Line
  unread : List ℕ → Unreadable → Line
  unknown : Unknown → ℕ → List (List ℕ) → List ℕ → ℕ → Line
  pathless : ℕ → List ℕ → ℕ → List ℕ → Line
  -- of what is at this path, to this client in this session, whether to write it or to read it, the MDS of these releases says otherwise
  otherwise : List (List ℕ) → List ℕ → ℕ → Bool → Releases → Otherwise → Line
  -- the same of a client alone
  otherwise_group : List ℕ → Bool → Releases → Otherwise → Line
  nothing : Line
  summary : Counts → Line

abbrev pub line_text : Line → List ℕ
line_text (held number path client session issued pending found unjudged) = held_line path client session issued pending found unjudged
line_text (group client found count) = counted_in Lines (group_text client found) count
line_text (conflict number path one other c) = conflict_line Each number path one other c
line_text (conflict_group one other c count) = counted_in Lines (conflict_text Groups one other c) count
line_text (renamed session client alias) = alias_line session client alias
line_text (unlinked number path) = unlinked_line number path
line_text (unnamed number) = unnamed_line number
line_text (unlisted client) = unlisted_line client
line_text (unread client what) = unreadable_line client what
line_text (unknown what number path client session) = unknown_line what path client session
line_text (pathless number client session issued) = pathless_line number client session issued
line_text (otherwise path client session writes releases o) = said_line (access_front Each path client session (access_of writes)) (releases_text releases) (said (Some o))
line_text (otherwise_group client writes releases o) = said_line (access_front Groups [] client 0 (access_of writes)) (releases_text releases) (said (Some o))
line_text nothing = nothing_in Lines
line_text (summary n) = counts_line n

-- ---- its numbers have 64 bits, as each of an audit has

pub record AreCounts (n : Counts) : Type 0 where
  pub inodes : n.inodes < 2 ^ 64
  pub entries : n.entries < 2 ^ 64
  pub sessions : n.sessions < 2 ^ 64
  pub held_beyond : n.held_beyond < 2 ^ 64
  pub conflicts : n.conflicts < 2 ^ 64
  pub not_judged : n.not_judged < 2 ^ 64

abbrev pub HasNumbers : Line → Type 0
HasNumbers (held number path client session issued pending found unjudged) = session < 2 ^ 64
HasNumbers (group client found count) = count < 2 ^ 64
HasNumbers (conflict number path one other c) = (number < 2 ^ 64) × (c.one.client < 2 ^ 64) × (c.other.client < 2 ^ 64)
HasNumbers (conflict_group one other c count) = (count < 2 ^ 64) × (c.one.client < 2 ^ 64) × (c.other.client < 2 ^ 64)
HasNumbers (renamed session client alias) = session < 2 ^ 64
HasNumbers (unlinked number path) = number < 2 ^ 64
HasNumbers (unnamed number) = number < 2 ^ 64
HasNumbers (unlisted client) = Unit {0}
HasNumbers (unread client (unreadable.Own fault)) = fault.at < 2 ^ 64
HasNumbers (unread client (unreadable.There release at)) = at < 2 ^ 64
HasNumbers (unknown what number path client session) = session < 2 ^ 64
HasNumbers (pathless number client session issued) = (number < 2 ^ 64) × (session < 2 ^ 64)
HasNumbers (otherwise path client session writes releases o) = (session < 2 ^ 64) × (o.grant < 2 ^ 64)
HasNumbers (otherwise_group client writes releases o) = o.grant < 2 ^ 64
HasNumbers nothing = Unit {0}
HasNumbers (summary n) = AreCounts n

-- ---- two lines tell the same

-- this server's rule among those of a release, by its number and its word
abbrev pub as_there : OwnRule → Rule
as_there own_rule.FsName = rule.FsName
as_there own_rule.Uid = rule.Uid
as_there own_rule.Gids = rule.Gids
as_there own_rule.Path = rule.Path
as_there own_rule.NoWrite = rule.NoWrite
as_there own_rule.RootSquash = rule.RootSquash
as_there own_rule.NoP = rule.NoP
as_there own_rule.NoS = rule.NoS
as_there own_rule.NotOwner = rule.NotOwner
as_there own_rule.NotOwnGroup = rule.NotOwnGroup
as_there own_rule.ModeBits = rule.ModeBits

-- the rules that are told; None where no grant lets the client mount
abbrev pub rules_told : Denial → Option (List Rule)
rules_told (Own rules) = Some (map as_there rules)
rules_told (There standing) = rules_there standing

-- why an access that is missing is denied
abbrev pub reasons : Option Access → Denial → Option (Option (List Rule))
reasons None denial = None
reasons (Some access) denial = Some (rules_told denial)

-- of an inode to which a path leads the text of the path counts, and else its number
abbrev pub IsOneInode : ℕ → Option (List (List ℕ)) → ℕ → Option (List (List ℕ)) → Type 0
IsOneInode m None n None = m ≡ n
IsOneInode m (Some p) n (Some q) = path_text p ≡ path_text q
IsOneInode m p n q = ⊥

-- of a client that tells a name the name counts, and else the number of its session
abbrev pub IsOneClient : ℕ → Option (List ℕ) → ℕ → Option (List ℕ) → Type 0
IsOneClient m None n None = m ≡ n
IsOneClient m (Some c) n (Some d) = c ≡ d
IsOneClient m c n d = ⊥

abbrev pub TellTheSame : Line → Line → Type 0
TellTheSame (held k p c m i x f u) (held l q d n j y g v) =
    (path_text p ≡ path_text q) × (c ≡ d) × (m ≡ n) × (i ≡ j) × (f.caps ≡ g.caps) × (minus f.caps x ≡ minus g.caps y) × (reasons f.missing f.denial ≡ reasons g.missing g.denial) × (u ≡ v)
TellTheSame (group c f m) (group d g n) = (reasons f.missing f.denial ≡ reasons g.missing g.denial) × (c ≡ d) × (m ≡ n)
TellTheSame (conflict m p a b c) (conflict n q x y d) = IsOneInode m p n q × (a ≡ x) × (b ≡ y) × (c ≡ d)
TellTheSame (conflict_group a b c m) (conflict_group x y d n) =
    IsOneClient c.one.client a d.one.client x × (c.one.caps ≡ d.one.caps) × (c.other.caps ≡ d.other.caps) × IsOneClient c.other.client b d.other.client y × (m ≡ n)
TellTheSame (renamed m c a) (renamed n d b) = (m ≡ n) × (c ≡ d) × (a ≡ b)
TellTheSame (unlinked m p) (unlinked n q) = (m ≡ n) × (path_text p ≡ path_text q)
TellTheSame (unnamed m) (unnamed n) = m ≡ n
TellTheSame (unlisted c) (unlisted d) = c ≡ d
TellTheSame (unread c f) (unread d g) = (c ≡ d) × (f ≡ g)
TellTheSame (unknown a k p c m) (unknown b l q d n) = (a ≡ b) × (path_text p ≡ path_text q) × (c ≡ d) × (m ≡ n)
TellTheSame (pathless k c m i) (pathless l d n j) = (k ≡ l) × (c ≡ d) × (m ≡ n) × (i ≡ j)
TellTheSame (otherwise p c m a r o) (otherwise q d n b s e) = (path_text p ≡ path_text q) × (c ≡ d) × (m ≡ n) × (a ≡ b) × (r ≡ s) × (o ≡ e)
TellTheSame (otherwise_group c a r o) (otherwise_group d b s e) = (c ≡ d) × (a ≡ b) × (r ≡ s) × (o ≡ e)
TellTheSame nothing nothing = Unit {0}
TellTheSame (summary m) (summary n) = m ≡ n
TellTheSame a b = ⊥

-- each the same as the other's line at its place, and as many
abbrev pub AllTellTheSame : List Line → List Line → Type 0
AllTellTheSame [] [] = Unit {0}
AllTellTheSame (a ∷ xs) (b ∷ ys) = TellTheSame a b × AllTellTheSame xs ys
AllTellTheSame xs ys = ⊥

-- ---- the law

abbrev pub OneLine : Type 0
OneLine = (a b : Line) → HasNumbers a → HasNumbers b → line_text a ≡ line_text b → TellTheSame a b

abbrev pub OneText : Type 0
OneText = (xs ys : List Line) → All HasNumbers xs → All HasNumbers ys → flat_map line_text xs ≡ flat_map line_text ys → AllTellTheSame xs ys
