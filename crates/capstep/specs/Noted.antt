-- What readers see of a state.
use Rattle.policy_view.specs.declared.view.View.{View}
use Rattle.capstep.specs.NotedChanges.{view}
use Rattle.capstep.specs.State.{State}

abbrev pub view_of : State → View
view_of s = view s.scene.tree s.scene.sessions.sessions
