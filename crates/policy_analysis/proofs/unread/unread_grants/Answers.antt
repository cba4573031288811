use Rattle.std.proofs.Common.{◌≡◌, [], ◌∷◌, length, refl, sym, ap, ◌∙◌, arith}
use Rattle.std.proofs.lemmas.List.{nil_from_length}
use Rattle.capspec.specs.Words.{next}
use Rattle.policy_analysis.proofs.Words.{next_shorter}
use Rattle.policy_analysis.proofs.Grants.{grant_texts_of, reported_all, reported_more}
use Rattle.policy_analysis.proofs.unread.unread_grants.Goals as goal

pub loop-reported-init : goal.loop-reported-init
loop-reported-init c texts_of_grants stand = record { around = []; left = texts_of_grants; row = stand; white = refl; same = rw c.new-reported.ensures.items refl }

pub loop-reported-preserved : goal.loop-reported-preserved
loop-reported-preserved c texts_of_grants stand =
    rw (c.wrong_between-before.ensures, c.in_ok-push.ensures.items)
    (reported_more c.loop-reported.rest.now c.loop-reported.before c.loop-reported.reported.items texts_of_grants c.scan_grant-found.result.0 c.scan_grant-found.result.1.now c.scan_grant-found.ensures.reported c.in-Some.field-0-0.now c.in-Some.more.now
    (sym c.skip_white.ensures ∙ c.in-Some.ensures.cases.0) (c.loop-reported.invariant texts_of_grants stand))

pub loop-reported-smaller : goal.loop-reported-smaller
loop-reported-smaller c =
    let goes_on : next c.scan_grant-found.result.1.now ≡ c.in-Some.field-0-0.now ∷ c.in-Some.more.now = sym c.skip_white.ensures ∙ c.in-Some.ensures.cases.0 in
    omega (arith, next_shorter c.scan_grant-found.result.1.now, ap length goes_on, c.scan_grant-found.ensures.within)

pub returns-in_default-clause-exact : goal.returns-in_default-clause-exact
returns-in_default-clause-exact c texts_of_grants stand =
    let none : next c.scan_grant-found.result.1.now ≡ [] = sym c.skip_white.ensures ∙ nil_from_length _ c.in_default.ensures.cases in
    c.in_ok-push.ensures.items ∙ reported_all c.loop-reported.rest.now c.loop-reported.before c.loop-reported.reported.items texts_of_grants c.scan_grant-found.result.0 c.scan_grant-found.result.1.now c.scan_grant-found.ensures.reported
    (c.loop-reported.invariant texts_of_grants stand) none

pub returns-in_default-clause-reported : goal.returns-in_default-clause-reported
returns-in_default-clause-reported c grants reads =
    let given = grant_texts_of c.args.text.now grants reads.are_grants in
    record { texts_of_grants = given.0; stand = given.1; of_grants = given.2; reported_are = returns-in_default-clause-exact c given.0 given.1 }
