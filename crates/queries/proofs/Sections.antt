-- What stands behind the answer of this server to two texts: what is told of each release.
use Rattle.std.proofs.Common.{◌≡◌, ◌≢◌, ◌⊎◌, ℕ, Bool, false, not, None, List, [], ◌++◌, inl, inr, ap, ◌∙◌, append_assoc}
use Rattle.std.specs.Prelude.{if◌then◌else◌}
use Rattle.release_rules.specs.declared.release.Release.{Release}
use Rattle.release_rules.specs.declared.release.Release.TheVariants.{Pacific, Reef, Tentacle}
use Rattle.policy_analysis.specs.ComparingBy.{Judged}
use Rattle.queries.specs.ComparingBy.{AreChanges, AreTaken, IsWhyNotBoth, terms_by}
use Rattle.queries.specs.ComparingMore.{AddsSection, AddsSections, ReleaseAnswer, answer_text, head_of, section_of, tells_alike}
use Rattle.queries.specs.declared.comparing_by.Changes.{Changes}
use Rattle.queries.specs.declared.comparing_by.MdsCompareFault.{MdsCompareFault}
use Rattle.queries.specs.declared.comparing_by.MdsCompareFault.TheVariants.{NoMemory}
use Rattle.queries.specs.declared.comparing_more.OwnAnswer.{OwnAnswer}

module _ (own : OwnAnswer) (release : Release) (old new front text : List ℕ) where
  pub told_changes : (before after : Judged) (changes : Changes) → AreTaken release (terms_by release None) old new before after → AreChanges before after changes → text ≡ front ++ section_of own release (ReleaseAnswer.compared changes)
      → AddsSection own release old new front text
  told_changes before after changes taken are is = (ReleaseAnswer.compared changes, (before, after, taken, are), is)

  pub told_fault : (fault : MdsCompareFault) → fault ≢ NoMemory → (fault ≡ NoMemory) ⊎ IsWhyNotBoth release (terms_by release None) old new fault → text ≡ front ++ (head_of release ++ answer_text (ReleaseAnswer.uncompared fault))
      → AddsSection own release old new front text
  told_fault fault some (inl none) is = absurd (some none)
  told_fault fault some (inr why) is = (ReleaseAnswer.uncompared fault, why, is)

-- where it does not tell as much as this server
pub unlike_section : (own : OwnAnswer) (release : Release) (changes : Changes) → tells_alike own changes ≡ false → section_of own release (ReleaseAnswer.compared changes) ≡ head_of release ++ answer_text (ReleaseAnswer.compared changes)
unlike_section own release changes unlike = ap (λ (alike : Bool). if not alike then head_of release ++ answer_text (ReleaseAnswer.compared changes) else []) unlike

-- one behind the other
pub told_of_each : (own : OwnAnswer) (old new front one two three : List ℕ) → AddsSection own Pacific old new front one → AddsSection own Reef old new one two → AddsSection own Tentacle old new two three → AddsSections own old new front three
told_of_each own old new front one two three (pacific, first, first_is) (reef, second, second_is) (tentacle, third, third_is) =
    let a = section_of own Pacific pacific in
    let b = section_of own Reef reef in
    let c = section_of own Tentacle tentacle in
    let both : two ≡ (front ++ a) ++ b = second_is ∙ ap (λ (r : List ℕ). r ++ b) first_is in
    record {
      pacific = pacific;
      reef = reef;
      tentacle = tentacle;
      pacific_says = first;
      reef_says = second;
      tentacle_says = third;
      text = third_is ∙ ap (λ (r : List ℕ). r ++ c) both ∙ append_assoc (front ++ a) b c ∙ append_assoc front a (b ++ c);
    }
