use Rattle.std.specs.Prelude.{[], ◌∷◌, refl}
use Rattle.capspec.specs.declared.flags.Flags4.TheVariants.{R, Rws}
use Rattle.sessiontab.specs.declared.session.Session.{Session}
use Rattle.sessiontab.specs.declared.session.Status.TheVariants.{Open, Stale}
use Rattle.policy_view.proofs.Telling.{changes-none}
use Rattle.capstep.specs.NotedChanges.{view}
use Rattle.tests_core.proofs.ViewAnswers.{client_goes, one, unseen-session}
use Rattle.tests_core.specs.Verdicts.{allow}
use Rattle.tests_core.specs.Views.{is_ended, is_opened, is_regranted}
use Rattle.tests_core.proofs.worked_cases.views.changes_of_clients.Goals as goal

pub returns-clause-comes : goal.returns-clause-comes
returns-clause-comes c tree table = one (view tree table.sessions) (is_opened 1 10 (allow Rws ∷ []))

pub returns-clause-other_grants : goal.returns-clause-other_grants
returns-clause-other_grants c tree table = one (view tree table.sessions) (is_regranted 2 (allow R ∷ []))

pub returns-clause-no_grants : goal.returns-clause-no_grants
returns-clause-no_grants c tree table = one (view tree table.sessions) (is_regranted 2 [])

pub returns-clause-closes : goal.returns-clause-closes
returns-clause-closes c tree table = one (view tree table.sessions) (is_ended 2)

pub returns-clause-is_evicted : goal.returns-clause-is_evicted
returns-clause-is_evicted c tree table = one (view tree table.sessions) (is_ended 2)

pub returns-clause-with_its_strays : goal.returns-clause-with_its_strays
returns-clause-with_its_strays c tree table = client_goes (view tree table.sessions)

pub returns-clause-stale : goal.returns-clause-stale
returns-clause-stale c tree table = unseen-session tree table.sessions (λ (session : Session). record session { status = Stale }) 2 (λ _. refl)

pub returns-clause-renewed : goal.returns-clause-renewed
returns-clause-renewed c tree table = unseen-session tree table.sessions (λ (session : Session). record session { status = Open }) 2 (λ _. refl)

pub returns-clause-unblocked : goal.returns-clause-unblocked
returns-clause-unblocked c tree table = changes-none (view tree table.sessions)
