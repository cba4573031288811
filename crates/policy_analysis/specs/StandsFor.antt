-- Where the MDS of a release judges by a grant as this server does by another one. So what is asked of the grants of this server, and of many
-- questions at once, can be asked of theirs.
use Rattle.std.specs.Prelude.{◌≡◌, ℕ, Bool, not, nat_lt, ◌&&◌, true, None, List, [], All, IsTrue, bytes_eq, if◌then◌else◌}
use Rattle.std.specs.List.{AllZip, list_any, starts_with}
use Rattle.capbits.specs.declared.caller.Caller.{Caller}
use Rattle.capspec.specs.declared.grant.Grant.{Grant as OwnGrant}
use Rattle.capspec.specs.Flags.{has_s, has_w}
use Rattle.capspec.specs.Paths.{is_name}
use Rattle.capgrant.specs.declared.access.Access.{Access}
use Rattle.capgrant.specs.declared.access.Access.TheVariants as accesses
use Rattle.capgrant.specs.declared.access.Attr.{Attr}
use Rattle.capgrant.specs.Failing.{is_some_and}
use Rattle.capgrant.specs.Question.{contains, question}
use Rattle.capgrant.specs.Verdict.{allows, granted}
use Rattle.release_grants.specs.declared.grant.Grant.{Grant}
use Rattle.release_grants.specs.declared.switches.Switches.{Switches}
use Rattle.release_rules.specs.Asked.{asked_for}
use Rattle.release_rules.specs.Failing.{has_user, user_of}
use Rattle.release_grants.specs.Flags.{has_p as has_p_there, has_s as has_s_there, has_w as has_w_there}
use Rattle.release_grants.specs.Paths.{directory_of, lies_in, path_text}
use Rattle.release_rules.specs.Question.{Question, is_in_groups}
use Rattle.release_rules.specs.Verdicts.{allows as allows_there, may_allow}

-- ---- who asks for what

-- the caller's uid is no negative number to an MDS, and each of its further groups stands before any greater one
pub record CountsWhole (caller : Caller) : Type 0 where
  pub uid : nat_lt caller.uid 2147483648 ≡ true
  pub groups : (gid : ℕ) → is_in_groups gid caller.groups ≡ contains caller.groups gid

-- these accesses, of which an MDS asks what this server does
pub data AsksAlike : Access → Type 0 where
  to_read : AsksAlike accesses.Read
  to_write : AsksAlike accesses.Write
  to_snapshot : AsksAlike accesses.Snapshot

-- what an MDS is asked by this caller for this access to the inode with these names and attributes; the client's address is not told
abbrev pub asked_there : List ℕ → Caller → List (List ℕ) → Attr → Access → Question
asked_there fs caller path attr access = record { fs = fs; caller = caller; path = path; attr = attr; asked = asked_for access; address = None }

-- ---- the grants

-- the inode does not lie in the directory of the grant
abbrev pub lies_outside : Switches → Grant → List (List ℕ) → Bool
lies_outside s g names = is_some_and (λ path. not (lies_in (directory_of s path) (path_text names))) g.path

-- by the rules of the release the grant says what this one says here: it is for the same user in the same groups, for the same inodes and flags,
-- for the file system that the release looks at, and for each network
pub record StandsFor (s : Switches) (g : Grant) (own : OwnGrant) : Type 0 where
  pub fsname : own.fsname ≡ (if s.judges_fsname then g.fsname else None)
  pub user : own.uid ≡ user_of s g
  pub gids : own.gids ≡ (if has_user s g then g.gids else [])
  pub path : (names : List (List ℕ)) → All (λ name. IsTrue (is_name name)) names → lies_outside s g names ≡ not (starts_with bytes_eq names own.path)
  pub writes : has_w own.flags ≡ has_w_there g.flags
  pub snapshots : has_w_there g.flags ≡ true → has_s own.flags ≡ has_s_there g.flags
  pub squashes : own.root_squash ≡ g.root_squash
  pub network : g.network ≡ None

-- ---- the law

-- what the one allows there the other allows here, and no more
abbrev pub JudgesAlike : Type 0
JudgesAlike = (s : Switches) (g : Grant) (own : OwnGrant) (fs : List ℕ) (caller : Caller) (path : List (List ℕ)) (attr : Attr) (access : Access) → StandsFor s g own → CountsWhole caller
    → All (λ name. IsTrue (is_name name)) path → AsksAlike access → may_allow s (asked_there fs caller path attr access) g ≡ allows (question fs caller path attr access) own

-- to change the mode is there what to write is here
abbrev pub ChangesModeByWriting : Type 0
ChangesModeByWriting = (s : Switches) (g : Grant) (own : OwnGrant) (fs : List ℕ) (caller : Caller) (path : List (List ℕ)) (attr : Attr) → StandsFor s g own → CountsWhole caller
    → All (λ name. IsTrue (is_name name)) path → may_allow s (asked_there fs caller path attr accesses.Chmod) g ≡ allows (question fs caller path attr accesses.Write) own

-- to change the owner is there what is here to write and to change the owner
abbrev pub ChangesOwnerByBoth : Type 0
ChangesOwnerByBoth = (s : Switches) (g : Grant) (own : OwnGrant) (fs : List ℕ) (caller : Caller) (path : List (List ℕ)) (attr : Attr) (uid : ℕ) → StandsFor s g own → CountsWhole caller
    → All (λ name. IsTrue (is_name name)) path → may_allow s (asked_there fs caller path attr (accesses.Chown uid)) g
    ≡ (allows (question fs caller path attr accesses.Write) own && allows (question fs caller path attr (accesses.Chown uid)) own)

-- and to change the group what is here to write and to change the group
abbrev pub ChangesGroupByBoth : Type 0
ChangesGroupByBoth = (s : Switches) (g : Grant) (own : OwnGrant) (fs : List ℕ) (caller : Caller) (path : List (List ℕ)) (attr : Attr) (gid : ℕ) → StandsFor s g own → CountsWhole caller
    → All (λ name. IsTrue (is_name name)) path → may_allow s (asked_there fs caller path attr (accesses.Chgrp gid)) g
    ≡ (allows (question fs caller path attr accesses.Write) own && allows (question fs caller path attr (accesses.Chgrp gid)) own)

-- to set an attribute of any inode is there, by a grant with p, what to read is here for the owner, where the owner may
abbrev pub SetsVxattrAsOwnerReads : Type 0
SetsVxattrAsOwnerReads = (s : Switches) (g : Grant) (own : OwnGrant) (fs : List ℕ) (caller : Caller) (path : List (List ℕ)) (attr : Attr) → StandsFor s g own → CountsWhole caller
    → All (λ name. IsTrue (is_name name)) path → has_p_there g.flags ≡ true
    → may_allow s (asked_there fs caller path attr accesses.SetVxattr) g ≡ allows (question fs caller path (record attr { uid = caller.uid; mode = 0o600 }) accesses.Read) own

-- what is asked alike, of whole lists, grant by grant: some grant of the one allows it there, wherever the client is, exactly if some grant of the other does here
abbrev pub JudgesListsAlike : Type 0
JudgesListsAlike = (s : Switches) (grants : List Grant) (owns : List OwnGrant) (fs : List ℕ) (caller : Caller) (path : List (List ℕ)) (attr : Attr) (access : Access) → AllZip (StandsFor s) grants owns → CountsWhole caller
    → All (λ name. IsTrue (is_name name)) path → AsksAlike access → list_any (allows_there s (asked_there fs caller path attr access)) grants ≡ granted (question fs caller path attr access) owns
