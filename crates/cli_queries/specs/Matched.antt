-- What matched words ask for: the value that each word of the command line was given, by its name.
use Rattle.std.specs.Prelude.{◌≡◌, ◌≢◌, ◌<◌, ℕ, Bool, true, false, List, [], All, Option, Some, None, IsTrue, IsFalse, IsSomeAnd, MatchOption, codes}
use Rattle.std.specs.Str.{encode_utf8_all}
use Rattle.std.specs.Global.{Vec}
use Rattle.clap.specs.Words.{Row, first_of, found_of, one_of, rows_of, subcommand_rows_of}
use Rattle.clap.specs.declared.parser.matches.ArgMatches.{ArgMatches}
use Rattle.cluster_audit.specs.declared.notes.Detail.{Detail}
use Rattle.cluster_audit.specs.declared.notes.Detail.TheVariants as details
use Rattle.cluster_audit.specs.declared.notes.Manner.{Manner}
use Rattle.texts.specs.declared.shape.Shape.{Shape}
use Rattle.texts.specs.declared.shape.Shape.TheVariants as shapes
use Rattle.queries.specs.declared.options.Opt.{Opt}
use Rattle.queries.specs.declared.options.Opt.TheVariants as options
use Rattle.queries.specs.declared.question.Values.{Values}
use Rattle.queries.specs.declared.attempt.AttrValues.{AttrValues}
use Rattle.queries.specs.declared.clients.Telling.{Telling}
use Rattle.queries.specs.declared.clients.Telling.TheVariants as tellings
use Rattle.queries.specs.Options.{option_name}
use Rattle.release_rules.specs.declared.release.Release.{Release}
use Rattle.release_rules.specs.Releases.{release_of}
use Rattle.cli_queries.specs.declared.audit_args.AuditArgs.{AuditArgs}
use Rattle.cli_queries.specs.declared.command_line.Invocation.{Invocation}
use Rattle.cli_queries.specs.declared.command_line.Invocation.TheVariants as invocations
use Rattle.cli_queries.specs.declared.explain_args.Form.{Form}
use Rattle.cli_queries.specs.declared.explain_args.Form.TheVariants as forms
use Rattle.cli_queries.specs.declared.explain_args.ExplainArgs.{ExplainArgs}
use Rattle.cli_queries.specs.declared.explain_args.Source.{Source}
use Rattle.cli_queries.specs.declared.explain_args.Source.TheVariants as sources
use Rattle.cli_queries.specs.declared.who_args.WhoArgs.{WhoArgs}

-- the words of a command as they were matched
abbrev pub words_of : ArgMatches → List Row
words_of matches = rows_of (found_of matches)

-- ---- one word

-- the bytes are those that the text spells, a character for each, where it spells any
abbrev pub IsSpelledBy : List ℕ → List ℕ → Type 0
IsSpelledBy text bytes = (spelt : List ℕ) → All (λ byte. byte < 256) spelt → text ≡ encode_utf8_all spelt → bytes ≡ spelt

-- a word that has to be given has this value
abbrev pub IsValue : List Row → List ℕ → Vec ℕ → Type 0
IsValue words name value = IsSomeAnd (first_of name words) (λ text. IsSpelledBy text value.items)

-- a word has no value
abbrev pub IsLeftOut : List Row → List ℕ → Type 0
IsLeftOut words name = first_of name words ≡ None

-- a word that may be left out has this value, or none
abbrev pub IsGiven : List Row → List ℕ → Option (Vec ℕ) → Type 0
IsGiven words name (Some value) = IsValue words name value
IsGiven words name None = IsLeftOut words name

-- whether a flag stands
abbrev pub IsFlag : List Row → List ℕ → Bool → Type 0
IsFlag words name flag = MatchOption (one_of name words) (IsFalse flag) (λ text. (text ≡ codes "true" → IsTrue flag) × (text ≡ codes "false" → IsFalse flag))

-- ---- what stands in several commands

abbrev pub IsOption : List Row → Opt → Vec ℕ → Type 0
IsOption words option value = IsValue words (option_name option) value

-- `--mds` names the release by whose rules is answered; this server's, where it is left out
abbrev pub IsMds : List Row → Option Release → Type 0
IsMds words None = IsLeftOut words (codes "mds")
IsMds words (Some release) = (word : Vec ℕ) × IsValue words (codes "mds") word × (release_of word.items ≡ Some release)

-- `--json` asks for objects
abbrev pub IsShape : List Row → Shape → Type 0
IsShape words shapes.Objects = IsFlag words (codes "json") true
IsShape words shapes.Lines = IsFlag words (codes "json") false

-- of `--more` and `--json` the first that stands
abbrev pub IsTelling : List Row → Telling → Type 0
IsTelling words tellings.More = IsFlag words (codes "more") true
IsTelling words tellings.Object = IsFlag words (codes "more") false × IsFlag words (codes "json") true
IsTelling words tellings.Line = IsFlag words (codes "more") false × IsFlag words (codes "json") false

-- ---- explain

-- the value of each option; grants that are not given have no byte
pub record AreValues (words : List Row) (values : Values) : Type 0 where
  pub grants : MatchOption (first_of (option_name options.Grants) words) (values.grants.items ≡ []) (λ text. IsSpelledBy text values.grants.items)
  pub fs : IsOption words options.Fs values.fs
  pub uid : IsOption words options.Uid values.uid
  pub gid : IsOption words options.Gid values.gid
  pub groups : IsGiven words (option_name options.Groups) values.groups
  pub path : IsOption words options.Path values.path
  pub owner : IsOption words options.Owner values.owner
  pub group : IsOption words options.Group values.group
  pub mode : IsOption words options.Mode values.mode
  pub access : IsOption words options.Access values.access
  pub addr : IsGiven words (option_name options.Addr) values.addr

-- the keyring, or else the auth list, of the client that is named; or else standard input, for which `-` stands, or the word itself
abbrev pub IsSource : List Row → List ℕ → Source → Type 0
IsSource words grants (sources.Keyring file client) = IsValue words (codes "keyring") file × IsValue words (codes "client") client
IsSource words grants (sources.Auth file client) = IsLeftOut words (codes "keyring") × IsValue words (codes "auth") file × IsValue words (codes "client") client
IsSource words grants sources.Input = IsLeftOut words (codes "keyring") × IsLeftOut words (codes "auth") × (grants ≡ codes "-")
IsSource words grants sources.Word = IsLeftOut words (codes "keyring") × IsLeftOut words (codes "auth") × (grants ≢ codes "-")

-- of `--quiet`, `--more` and `--json` the first that stands
abbrev pub IsForm : List Row → Form → Type 0
IsForm words forms.Status = IsFlag words (codes "quiet") true
IsForm words forms.More = IsFlag words (codes "quiet") false × IsFlag words (codes "more") true
IsForm words forms.Object = IsFlag words (codes "quiet") false × IsFlag words (codes "more") false × IsFlag words (codes "json") true
IsForm words forms.Line = IsFlag words (codes "quiet") false × IsFlag words (codes "more") false × IsFlag words (codes "json") false

pub record IsExplainArgs (words : List Row) (explain_args : ExplainArgs) : Type 0 where
  pub values : AreValues words explain_args.values
  pub source : IsSource words explain_args.values.grants.items explain_args.source
  pub form : IsForm words explain_args.form
  pub mds : IsMds words explain_args.mds

-- ---- who

-- owner, group and mode of the inode, where the owner is given
abbrev pub IsAttr : List Row → Option AttrValues → Type 0
IsAttr words None = IsLeftOut words (option_name options.Owner)
IsAttr words (Some attr) = IsOption words options.Owner attr.owner × IsOption words options.Group attr.group × IsOption words options.Mode attr.mode

pub record IsWhoArgs (words : List Row) (who_args : WhoArgs) : Type 0 where
  pub access : IsOption words options.Access who_args.values.access
  pub path : IsOption words options.Path who_args.values.path
  pub fs : IsGiven words (option_name options.Fs) who_args.values.fs
  pub attr : IsAttr words who_args.values.attr
  pub auth : IsValue words (codes "auth") who_args.auth
  pub telling : IsTelling words who_args.telling
  pub unread : who_args.named.items ≡ []
  pub mds : IsMds words who_args.mds

-- ---- audit

-- `--rule` asks for what is found by rule and client
abbrev pub IsDetail : List Row → Detail → Type 0
IsDetail words details.Groups = IsFlag words (codes "rule") true
IsDetail words details.Each = IsFlag words (codes "rule") false

abbrev pub IsManner : List Row → Manner → Type 0
IsManner words manner = IsMds words manner.mds × IsDetail words manner.detail × IsShape words manner.shape × IsFlag words (codes "more") manner.more

-- the files are named, and none is read yet
pub record IsAuditArgs (words : List Row) (audit_args : AuditArgs) : Type 0 where
  pub manner : IsManner words audit_args.manner
  pub fs : IsGiven words (option_name options.Fs) audit_args.fs
  pub auth : IsValue words (codes "auth") audit_args.files.auth
  pub sessions : IsValue words (codes "sessions") audit_args.files.sessions
  pub tree : IsValue words (codes "tree") audit_args.files.tree
  pub unread : (audit_args.auth.items ≡ []) × (audit_args.sessions.items ≡ []) × (audit_args.named.items ≡ [])

-- ---- all commands

-- the command of this name asks for this, with the values of its words
abbrev pub AsksFor : List ℕ → List Row → Invocation → Type 0
AsksFor name words (invocations.Explain explain_args) = (name ≡ codes "explain") × IsExplainArgs words explain_args
AsksFor name words (invocations.Grants text more mds) = (name ≡ codes "grants") × IsValue words (codes "text") text × IsFlag words (codes "more") more × IsMds words mds
AsksFor name words (invocations.Compare old new telling mds addr) =
    (name ≡ codes "compare") × IsValue words (codes "old") old × IsValue words (codes "new") new × IsTelling words telling × IsMds words mds × IsGiven words (option_name options.Addr) addr
AsksFor name words (invocations.Lint text shape mds) = (name ≡ codes "lint") × IsValue words (codes "text") text × IsShape words shape × IsMds words mds
AsksFor name words (invocations.Who who_args) = (name ≡ codes "who") × IsWhoArgs words who_args
AsksFor name words (invocations.Audit audit_args) = (name ≡ codes "audit") × IsAuditArgs words audit_args
AsksFor name words (invocations.Log fs only_denied mds shape counts) =
    (name ≡ codes "log") × IsOption words options.Fs fs × IsFlag words (codes "denied") only_denied × IsMds words mds × IsShape words shape × IsFlag words (codes "count") counts
AsksFor name words (invocations.Run more) = (name ≡ codes "run") × IsFlag words (codes "more") more
AsksFor name words (invocations.Serve more) = (name ≡ codes "serve") × IsFlag words (codes "more") more

-- the command that was matched, with its own words, asks for this
abbrev pub IsAskedBy : ArgMatches → Invocation → Type 0
IsAskedBy matches invocation = IsSomeAnd (subcommand_rows_of matches) (λ found. AsksFor found.0 found.1 invocation)
