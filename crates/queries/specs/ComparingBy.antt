-- Two texts of grants compared by the rules of a release.
use Rattle.std.specs.Prelude.{◌≡◌, ℕ, ◌&&◌, Option, option_map, MatchOption, IsTrue, List, ◌++◌, codes, Err, if◌then◌else◌}
use Rattle.std.specs.Global.{Vec}
use Rattle.std.specs.declared.net.ip_addr.IpAddr.{IpAddr}
use Rattle.release_grants.specs.declared.grant.Grant.{Grant}
use Rattle.release_rules.specs.declared.release.Release.{Release}
use Rattle.release_grants.specs.Networks.{address_of}
use Rattle.release_grants.specs.Reading.{read_of}
use Rattle.release_rules.specs.Releases.{switches_of, version_of}
use Rattle.policy_analysis.specs.declared.compare_by.Change.{Change}
use Rattle.policy_analysis.specs.Comparing.{is_root}
use Rattle.policy_analysis.specs.ComparingBy.{CoversThere, CoversThereBut, IsChange, Judged, Terms, depend_on_address}
use Rattle.policy_analysis.specs.StandIns.{IsNotCompared}
use Rattle.policy_analysis.specs.declared.stand_ins.NotCompared.TheVariants as reasons
use Rattle.texts.specs.MdsChanges.{mds_changes}
use Rattle.texts.specs.declared.mds_change.Networks.{Networks}
use Rattle.texts.specs.declared.mds_change.Networks.TheVariants.{Compared, NotCompared}
use Rattle.texts.specs.declared.shape.Shape.{Shape}
use Rattle.queries.specs.Mds.{MdsReads, not_read_text}
use Rattle.queries.specs.Values.{IsAddressIf}
use Rattle.queries.specs.declared.comparing_by.Changes.{Changes}
use Rattle.queries.specs.declared.comparing_by.MdsCompareFault.{MdsCompareFault}
use Rattle.queries.specs.declared.comparing_by.MdsCompareFault.TheVariants.{BadAddress, New, NoMemory, Old}
use Rattle.queries.specs.declared.comparing_by.Uncompared.{Uncompared}
use Rattle.queries.specs.declared.comparing_by.Uncompared.TheVariants.{LastSlash, NotRead, TooLarge}

-- What is told of the new grants: nothing, where the old ones say as much to each question, else a change, which is of root only where no other shows it.
abbrev pub IsGainBy : Terms → List Grant → List Grant → Option Change → Type 0
IsGainBy t old new found = MatchOption found (CoversThere t old new) (λ change. IsChange t old new change × (IsTrue (is_root change.witness.caller) → CoversThereBut is_root t old new))

-- networks are compared with each other by an address alone
abbrev pub networks_of : Judged → Judged → Networks
networks_of before after = if depend_on_address before && depend_on_address after then NotCompared else Compared

-- what is gained and what is lost of the grants after, beside those before, by the same terms; and whether networks are compared
pub record AreChanges (before after : Judged) (changes : Changes) : Type 0 where
  pub gained : IsGainBy before.terms before.grants after.grants changes.gain
  pub lost : IsGainBy before.terms after.grants before.grants changes.loss
  pub networks : changes.networks ≡ networks_of before after

-- as they are told in this shape
abbrev pub changes_text : Shape → Changes → List ℕ
changes_text shape changes = mds_changes shape changes.gain changes.loss changes.networks

-- ---- of two texts

-- by what a release judges, where the client's address is given or not
abbrev pub terms_by : Release → Option IpAddr → Terms
terms_by release address = record { switches = switches_of release; address = option_map address_of address }

-- the grants are those that the release reads in the text, judged by these terms
abbrev pub IsTaken : Release → Terms → List ℕ → Judged → Type 0
IsTaken release t text judged = (judged.terms ≡ t) × MdsReads release text judged.grants

-- those of both texts are
abbrev pub AreTaken : Release → Terms → List ℕ → List ℕ → Judged → Judged → Type 0
AreTaken release t old new before after = IsTaken release t old before × IsTaken release t new after

-- what is gained and lost of the grants that the release reads in the two texts, by these terms
abbrev pub AreChangesOf : Release → Terms → List ℕ → List ℕ → Changes → Type 0
AreChangesOf release t old new changes = (before after : Judged) × AreTaken release t old new before after × AreChanges before after changes

-- the lines tell that, by the address that is given
abbrev pub IsComparisonBy : Release → Option (Vec ℕ) → Shape → List ℕ → List ℕ → List ℕ → Type 0
IsComparisonBy release addr shape old new lines =
    (address : Option IpAddr) × IsAddressIf addr address × (changes : Changes) × AreChangesOf release (terms_by release address) old new changes × (lines ≡ changes_text shape changes)

-- ---- why not

-- why the grants of a text are not compared by these terms: the release reads it up to a place alone, or reads grants for which too many would have to
-- stand in, or one that is too large; or of which one has a path with a slash at its end
abbrev pub IsWhyNot : Release → Terms → List ℕ → Uncompared → Type 0
IsWhyNot release t text (NotRead found) = (found.release ≡ release) × (read_of (switches_of release) text ≡ Err (record { at = found.at }))
IsWhyNot release t text TooLarge = (grants : List Grant) × MdsReads release text grants × IsNotCompared t grants reasons.TooLarge
IsWhyNot release t text (LastSlash of) = (of ≡ release) × ((grants : List Grant) × MdsReads release text grants × IsNotCompared t grants reasons.LastSlash)

-- why those of two are not: the old ones are not; or the new ones, and the release reads the old text
abbrev pub IsWhyNotBoth : Release → Terms → List ℕ → List ℕ → MdsCompareFault → Type 0
IsWhyNotBoth release t old new (Old why) = IsWhyNot release t old why
IsWhyNotBoth release t old new (New why) = ((before : Judged) × IsTaken release t old before) × IsWhyNot release t new why
IsWhyNotBoth release t old new BadAddress = ⊥
IsWhyNotBoth release t old new NoMemory = ⊥

-- the same where an address may be given: it is none, or the grants are not compared by it; memory may be missing at any time once it is read
abbrev pub IsFaultBy : Release → Option (Vec ℕ) → List ℕ → List ℕ → MdsCompareFault → Type 0
IsFaultBy release addr old new BadAddress = (address : Option IpAddr) → ¬ IsAddressIf addr address
IsFaultBy release addr old new NoMemory = (address : Option IpAddr) × IsAddressIf addr address
IsFaultBy release addr old new fault = (address : Option IpAddr) × IsAddressIf addr address × IsWhyNotBoth release (terms_by release address) old new fault

-- ---- as it is told

abbrev pub uncompared_text : Uncompared → List ℕ
uncompared_text (NotRead found) = not_read_text found
uncompared_text TooLarge = codes "too large to be compared"
uncompared_text (LastSlash release) = codes "to Ceph " ++ (version_of release ++ codes " a path with a slash at its end is what lies below it, which is not compared")

abbrev pub mds_compare_text : MdsCompareFault → List ℕ
mds_compare_text (Old why) = codes "old grants: " ++ uncompared_text why
mds_compare_text (New why) = codes "new grants: " ++ uncompared_text why
mds_compare_text BadAddress = codes "bad value of --addr"
mds_compare_text NoMemory = codes "no memory"
