-- What releases tell of two texts of grants, where they answer otherwise than this server.
use Rattle.std.specs.Prelude.{◌≡◌, ◌<◌, ℕ, ◌^◌, Bool, not, true, ◌&&◌, Option, None, is_none, is_some, IfSome, List, [], ◌++◌, codes, if◌then◌else◌}
use Rattle.release_rules.specs.declared.release.Release.{Release}
use Rattle.release_rules.specs.declared.release.Release.TheVariants.{Pacific, Reef, Tentacle}
use Rattle.release_rules.specs.Releases.{version_of}
use Rattle.policy_analysis.specs.declared.witness.Witness.{Witness}
use Rattle.texts.specs.Comparing.{comparison}
use Rattle.texts.specs.Lines.{IsReported, SameIf}
use Rattle.texts.specs.MdsChanges.{SameChangeIf}
use Rattle.texts.specs.declared.shape.Shape.TheVariants.{Lines}
use Rattle.queries.specs.ComparingBy.{AreChangesOf, IsWhyNotBoth, changes_text, mds_compare_text, terms_by}
use Rattle.queries.specs.declared.comparing_by.Changes.{Changes}
use Rattle.queries.specs.declared.comparing_by.MdsCompareFault.{MdsCompareFault}
use Rattle.queries.specs.declared.comparing_by.MdsCompareFault.TheVariants.{BadAddress, New, NoMemory, Old}
use Rattle.queries.specs.declared.comparing_by.Uncompared.{Uncompared}
use Rattle.queries.specs.declared.comparing_by.Uncompared.TheVariants.{LastSlash, NotRead, TooLarge}
use Rattle.queries.specs.declared.comparing_more.OwnAnswer.{OwnAnswer}

-- what a release says of two texts: what is gained and lost, or why it does not compare them
pub data ReleaseAnswer : Type 0 where
  compared : Changes → ReleaseAnswer
  uncompared : MdsCompareFault → ReleaseAnswer

-- it says so, where the client's address is not told
abbrev pub Says : Release → List ℕ → List ℕ → ReleaseAnswer → Type 0
Says release old new (ReleaseAnswer.compared changes) = AreChangesOf release (terms_by release None) old new changes
Says release old new (ReleaseAnswer.uncompared fault) = IsWhyNotBoth release (terms_by release None) old new fault

-- whether this server tells that something is gained, and that something is lost
abbrev pub own_answer : Option Witness → Option Witness → OwnAnswer
own_answer gain loss = record { gains = is_some gain; loses = is_some loss }

-- something there is just where there is something here
abbrev pub is_alike : {A : Type 0} → Bool → Option A → Bool
is_alike here there = if here then is_some there else is_none there

-- the release tells as much: a gain, and a loss, just where this server does
abbrev pub tells_alike : OwnAnswer → Changes → Bool
tells_alike own changes = is_alike own.gains changes.gain && is_alike own.loses changes.loss

-- whether it answers otherwise: it does not tell as much, or does not compare the texts
abbrev pub is_otherwise : OwnAnswer → ReleaseAnswer → Bool
is_otherwise own (ReleaseAnswer.compared changes) = not (tells_alike own changes)
is_otherwise own (ReleaseAnswer.uncompared fault) = true

abbrev pub head_of : Release → List ℕ
head_of release = codes "by the rules of Ceph " ++ (version_of release ++ codes ":")

-- what stands behind its name
abbrev pub answer_text : ReleaseAnswer → List ℕ
answer_text (ReleaseAnswer.compared changes) = codes "\n" ++ changes_text Lines changes
answer_text (ReleaseAnswer.uncompared fault) = codes " " ++ (mds_compare_text fault ++ codes "\n")

-- what is told of a release: nothing where it does not answer otherwise
abbrev pub section_of : OwnAnswer → Release → ReleaseAnswer → List ℕ
section_of own release answer = if is_otherwise own answer then head_of release ++ answer_text answer else []

-- behind the one text the other has what is told of a release
abbrev pub AddsSection : OwnAnswer → Release → List ℕ → List ℕ → List ℕ → List ℕ → Type 0
AddsSection own release old new before after = (answer : ReleaseAnswer) × Says release old new answer × (after ≡ before ++ section_of own release answer)

-- what is told of each, in their order
abbrev pub sections_of : OwnAnswer → ReleaseAnswer → ReleaseAnswer → ReleaseAnswer → List ℕ
sections_of own pacific reef tentacle = section_of own Pacific pacific ++ (section_of own Reef reef ++ section_of own Tentacle tentacle)

-- behind the one text the other has that
pub record AddsSections (own : OwnAnswer) (old new before after : List ℕ) : Type 0 where
  pub pacific : ReleaseAnswer
  pub reef : ReleaseAnswer
  pub tentacle : ReleaseAnswer
  pub pacific_says : Says Pacific old new pacific
  pub reef_says : Says Reef old new reef
  pub tentacle_says : Says Tentacle old new tentacle
  pub text : after ≡ before ++ sections_of own pacific reef tentacle

-- ---- one answer for a text

-- its numbers fit
abbrev pub HasText : Release → Uncompared → Type 0
HasText release (NotRead found) = (found.release ≡ release) × (found.at < 2 ^ 64)
HasText release TooLarge = Unit {0}
HasText release (LastSlash of) = of ≡ release

-- so do those of an answer of this release
abbrev pub HasAnswer : Release → ReleaseAnswer → Type 0
HasAnswer release (ReleaseAnswer.compared changes) = IfSome changes.gain (λ c. IsReported c.witness) × IfSome changes.loss (λ c. IsReported c.witness)
HasAnswer release (ReleaseAnswer.uncompared (Old why)) = HasText release why
HasAnswer release (ReleaseAnswer.uncompared (New why)) = HasText release why
HasAnswer release (ReleaseAnswer.uncompared BadAddress) = ⊥
HasAnswer release (ReleaseAnswer.uncompared NoMemory) = ⊥

-- the two say the same: the same gain and loss, or the same fault of the same text
abbrev pub SayTheSame : ReleaseAnswer → ReleaseAnswer → Type 0
SayTheSame (ReleaseAnswer.compared c) (ReleaseAnswer.compared d) = SameChangeIf c.gain d.gain × SameChangeIf c.loss d.loss × (c.networks ≡ d.networks)
SayTheSame (ReleaseAnswer.uncompared f) (ReleaseAnswer.uncompared g) = f ≡ g
SayTheSame a b = ⊥

-- the same is told: nothing, or the same answer
abbrev pub TellsTheSame : OwnAnswer → ReleaseAnswer → ReleaseAnswer → Type 0
TellsTheSame own a b = (is_otherwise own a ≡ is_otherwise own b) × (is_otherwise own a ≡ true → SayTheSame a b)

-- lines that are the same tell the same gain and loss here, and the same of each release
abbrev pub OneWithReleases : Type 0
OneWithReleases = (g h l m : Option Witness) (p q r a b c : ReleaseAnswer) → IfSome g IsReported → IfSome h IsReported → IfSome l IsReported → IfSome m IsReported
    → HasAnswer Pacific p → HasAnswer Reef q → HasAnswer Tentacle r → HasAnswer Pacific a → HasAnswer Reef b → HasAnswer Tentacle c
    → comparison g l ++ sections_of (own_answer g l) p q r ≡ comparison h m ++ sections_of (own_answer h m) a b c
    → SameIf g h × SameIf l m × TellsTheSame (own_answer g l) p a × TellsTheSame (own_answer g l) q b × TellsTheSame (own_answer g l) r c
