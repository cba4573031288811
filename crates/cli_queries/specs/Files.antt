-- Which commands read a file in the place of standard input, for which `-` stands.
use Rattle.std.specs.Prelude.{◌≢◌, codes}
use Rattle.cli_queries.specs.declared.command_line.Invocation.{Invocation}
use Rattle.cli_queries.specs.declared.command_line.Invocation.TheVariants as invocations
use Rattle.cli_queries.specs.declared.explain_args.Source.{Source}
use Rattle.cli_queries.specs.declared.explain_args.Source.TheVariants as sources

-- the text of the grants is looked for in a file
abbrev pub IsInFile : Source → Type 0
IsInFile sources.Word = ⊥
IsInFile sources.Input = ⊥
IsInFile (sources.Keyring file client) = file.items ≢ codes "-"
IsInFile (sources.Auth file client) = file.items ≢ codes "-"

-- the command reads a file
abbrev pub ReadsFile : Invocation → Type 0
ReadsFile (invocations.Explain explain_args) = IsInFile explain_args.source
ReadsFile (invocations.Grants text more mds) = ⊥
ReadsFile (invocations.Compare old new shape mds addr) = ⊥
ReadsFile (invocations.Lint text shape mds) = ⊥
ReadsFile (invocations.Who who_args) = who_args.auth.items ≢ codes "-"
ReadsFile (invocations.Audit audit_args) = audit_args.files.tree.items ≢ codes "-"
ReadsFile (invocations.Log fs only_denied mds shape counts) = ⊥
ReadsFile (invocations.Run more) = ⊥
ReadsFile (invocations.Serve more) = ⊥
