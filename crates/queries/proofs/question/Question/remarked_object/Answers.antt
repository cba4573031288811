use Rattle.std.proofs.Common.{◌≡◌, ap, ◌∙◌, Option, ℕ, rules}
use Rattle.std.proofs.lemmas.Result.{IfOk-weaker}
use Rattle.capgrant.specs.declared.answer.Verdict.{Verdict}
use Rattle.capgrant.specs.Question.{Question as Asked}
use Rattle.policy_analysis.specs.Left.{left_to_client}
use Rattle.release_rules.specs.declared.beside.Others.{Others}
use Rattle.release_rules.specs.Beside.{others_of}
use Rattle.texts.specs.Answers.{answer_object}
use Rattle.queries.specs.Question.{verdict_on}
use Rattle.queries.specs.Remarks.{asked_of, mds_asked, others_on, remarked_object}
use Rattle.queries.proofs.question.Question.remarked_object.Goals as goal

same_object : (number : Option ℕ) (a b : Asked) (v w : Verdict) (l m : Option ℕ) (o p : Others) → a ≡ b → v ≡ w → l ≡ m → o ≡ p → answer_object number a v l o ≡ answer_object number b w m p
same_object number a b v w l m o p asked judged left others =
    ap (λ x. answer_object number x v l o) asked ∙ ap (λ x. answer_object number b x l o) judged ∙ ap (λ x. answer_object number b w x o) left ∙ ap (λ x. answer_object number b w m x) others

pub returns : goal.returns
returns c =
    let q = c.args.self.now in
    let text = c.args.text.now in
    let others = c.in_ok-others.others in
    let left = c.left_to_client-left.result in
    let verdict = c.judge-verdict.result in
    let judged : verdict ≡ verdict_on q = search rules in
    let left_is : left ≡ left_to_client (asked_of q) q.grants = search rules in
    let others_are : others ≡ others_on text q = c.in_ok-others.ensures ∙ ap (λ v. others_of (mds_asked q) q.access v text) judged in
    let same : answer_object c.args.number c.asked-asked.result verdict left others ≡ remarked_object c.args.number text q =
    same_object c.args.number c.asked-asked.result (asked_of q) verdict (verdict_on q) left (left_to_client (asked_of q) q.grants) others (others_on text q) c.asked-asked.ensures judged left_is others_are in
    IfOk-weaker c.answer_object.result (λ line. line.items ≡ answer_object c.args.number c.asked-asked.result verdict left others) (λ line. line.items ≡ remarked_object c.args.number text q) (λ line is. is ∙ same) c.answer_object.ensures.line
