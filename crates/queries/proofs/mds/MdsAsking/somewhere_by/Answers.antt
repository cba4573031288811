use Rattle.std.proofs.Common.{◌≡◌, List, ap, ◌∙◌}
use Rattle.std.specs.Prelude.{position}
use Rattle.release_grants.specs.declared.grant.Grant.{Grant}
use Rattle.release_grants.specs.declared.switches.Switches.{Switches}
use Rattle.release_rules.specs.Failing.{may_allow_somewhere}
use Rattle.release_rules.specs.Question.{Question}
use Rattle.release_rules.specs.Releases.{switches_of}
use Rattle.texts.specs.MdsAsked.{asked_there}
use Rattle.queries.specs.AnyPath.{at_place}
use Rattle.queries.specs.Mds.{mds_question}
use Rattle.queries.proofs.mds.MdsAsking.somewhere_by.Goals as goal

same_place : (grants : List Grant) (s t : Switches) (q r : Question) → s ≡ t → q ≡ r → position (may_allow_somewhere s q) grants ≡ position (may_allow_somewhere t r) grants
same_place grants s t q r switches question =
    ap (λ (x : Switches). position (may_allow_somewhere x q) grants) switches ∙ ap (λ (x : Question). position (may_allow_somewhere t x) grants) question

pub returns-in-Some : goal.returns-in-Some
returns-in-Some c =
    let a = c.args.self.now in
    ap at_place (c.in-Some.ensures ∙ same_place c.args.grants.now _ (switches_of c.args.release) _ (mds_question a.asking (asked_there a.access)) c.switches-switches.ensures (c.of_mds-question.ensures ∙ ap (mds_question a.asking) c.asked.ensures))

pub returns : goal.returns
returns c =
    let a = c.args.self.now in
    ap at_place (c.in-None.ensures ∙ same_place c.args.grants.now _ (switches_of c.args.release) _ (mds_question a.asking (asked_there a.access)) c.switches-switches.ensures (c.of_mds-question.ensures ∙ ap (mds_question a.asking) c.asked.ensures))
