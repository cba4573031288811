-- Of which file system a command is asked, and what is said where no grant names it.
use Rattle.std.specs.Prelude.{◌≡◌, ℕ, List, [], ◌++◌, Option, Some, None, Ok, IfSome, codes, if◌then◌else◌}
use Rattle.std.specs.Global.{Vec}
use Rattle.std.specs.Io.KnownBytes.{Appends}
use Rattle.std.specs.List.{join_by}
use Rattle.ceph_input.specs.Auth.{Named, auth_of}
use Rattle.ceph_input.specs.FsNames.{AreFsNames, is_unnamed}
use Rattle.cli_queries.specs.declared.command_line.Invocation.{Invocation}
use Rattle.cli_queries.specs.declared.command_line.Invocation.TheVariants as invocations

-- these are the file systems that the grants of the auth list name that a text is
abbrev pub AreNamedIn : List ℕ → List (List ℕ) → Type 0
AreNamedIn auth names = (list : List Named) × (auth_of auth ≡ Some (Ok list)) × AreFsNames list names

-- the one that is given, where it may be left out
abbrev pub given_in : Invocation → Option (Vec ℕ)
given_in (invocations.Who who_args) = who_args.values.fs
given_in (invocations.Audit audit_args) = audit_args.fs
given_in invocation = None

-- those that grants name, as far as they were read
abbrev pub named_by : Invocation → List (List ℕ)
named_by (invocations.Who who_args) = who_args.named.items
named_by (invocations.Audit audit_args) = audit_args.named.items
named_by invocation = []

-- those that the grants name of the auth list of which the command is told, by its input; none, where it is told of no list
abbrev pub AreNamedFor : Invocation → Option (List ℕ) → List (List ℕ) → Type 0
AreNamedFor (invocations.Who who_args) input names = IfSome input (λ auth. AreNamedIn auth names)
AreNamedFor (invocations.Audit audit_args) input names = AreNamedIn audit_args.auth.items names
AreNamedFor invocation input names = names ≡ []

-- the names, with a comma between each two
abbrev pub listed : List (List ℕ) → List ℕ
listed names = join_by (λ name. name) (codes ", ") names

-- the line that says that no grant names the file system, and which they name
abbrev pub unnamed_line : List (List ℕ) → List ℕ
unnamed_line names = codes "capd: no grant names the file system that --fs does; they name " ++ listed names ++ codes "\n"

-- what is said beside an answer: that line, where one is given that no grant names, while others are named; else nothing
abbrev pub note_of : List (List ℕ) → Option (Vec ℕ) → List ℕ
note_of names None = []
note_of names (Some fs) = if is_unnamed names fs.items then unnamed_line names else []

-- a text was written; or a front of it, where a write failed or memory was missing
abbrev pub AppendsFront : Option (List ℕ) → Option (List ℕ) → List ℕ → Type 0
AppendsFront old new text = (taken left : List ℕ) × (text ≡ taken ++ left) × Appends old new taken

-- what is to be said beside the answer of a command was written so, and nothing else
abbrev pub Notes : Invocation → Option (List ℕ) → Option (List ℕ) → Option (List ℕ) → Type 0
Notes invocation input old new = (names : List (List ℕ)) × AreNamedFor invocation input names × AppendsFront old new (note_of names (given_in invocation))

-- the file systems that the grants name are known behind its work, and the one that is given is as it was before
abbrev pub KnowsNames : Invocation → Invocation → Option (List ℕ) → Type 0
KnowsNames before after input = AreNamedFor before input (named_by after) × (given_in after ≡ given_in before)
