-- What is told of two texts of grants by the rules of a release.
use Rattle.std.proofs.Common.{◌≡◌, ℕ, Option, Some, None, List, subst}
use Rattle.std.specs.Prelude.{IfSome, IsTrue, MatchOption, option_map}
use Rattle.std.specs.declared.net.ip_addr.IpAddr.{IpAddr}
use Rattle.release_grants.specs.declared.grant.Grant.{Grant}
use Rattle.release_rules.specs.declared.release.Release.{Release}
use Rattle.release_grants.specs.declared.switches.Switches.{Switches}
use Rattle.release_grants.specs.Networks.{address_of}
use Rattle.release_rules.specs.Releases.{switches_of}
use Rattle.policy_analysis.specs.declared.compare_by.Change.{Change}
use Rattle.policy_analysis.specs.Comparing.{is_root}
use Rattle.policy_analysis.specs.ComparingBy.{CoversThere, CoversThereBut, IsChange, Judged, Terms}
use Rattle.queries.specs.ComparingBy.{IsGainBy, IsTaken, IsWhyNot, terms_by}
use Rattle.queries.specs.declared.comparing_by.Uncompared.{Uncompared}

pub gain_by : (t : Terms) (old new : List Grant) (found : Option Change) → MatchOption found (CoversThere t old new) (IsChange t old new) → IfSome found (λ change. IsTrue (is_root change.witness.caller) → CoversThereBut is_root t old new) → IsGainBy t old new found
gain_by t old new None exact root = exact
gain_by t old new (Some change) exact root = (exact, root)

-- ---- by the switches that the release has

module _ (release : Release) (address : Option IpAddr) (switches : Switches) (switches_are : switches ≡ switches_of release) where
  abbrev given : Switches → Terms
  given s = record { switches = s; address = option_map address_of address }

  pub taken_by : (text : List ℕ) (judged : Judged) → IsTaken release (given switches) text judged → IsTaken release (terms_by release address) text judged
  taken_by text judged is = subst (λ (s : Switches). IsTaken release (given s) text judged) switches_are is

  pub why_not_by : (text : List ℕ) (why : Uncompared) → IsWhyNot release (given switches) text why → IsWhyNot release (terms_by release address) text why
  why_not_by text why is = subst (λ (s : Switches). IsWhyNot release (given s) text why) switches_are is
