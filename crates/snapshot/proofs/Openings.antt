-- There is one opening state on a file system and a tree.
use Rattle.std.proofs.Common.{◌≡◌, ◌∙◌, ℕ, List, [], ◌∷◌, ap, sym, subst}
use Rattle.std.specs.Cmp.{nat_cmp_total}
use Rattle.std.specs.FinMap as map
use Rattle.inotree.specs.Tree.{Nodes}
use Rattle.logbook.specs.Pages.{Book}
use Rattle.capstep.specs.History.{IsOpening}
use Rattle.capstep.specs.State.{State}
use Rattle.lockmachine.specs.Locks.{LockMap}
use Rattle.snapshot.specs.declared.place.Origin.{Origin}
use Rattle.snapshot.specs.Places.{IsOf}

same_locks : (a b : LockMap) → ((ino : ℕ) → map.get a.states ino ≡ map.get b.states ino) → a.queue ≡ b.queue → a.last ≡ b.last → a ≡ b
same_locks a b states queue last =
    let same = map.same_map nat_cmp_total map.nat_cmp-IsAntisymmetric a.states b.states states in λ i. record { states = same i; queue = queue i; last = last i }

same_opening : (fs : List ℕ) (tree : Nodes) (one other : State) → IsOpening fs tree one → IsOpening fs tree other → one ≡ other
same_opening fs tree one other is also =
    let named = is.fs_is ∙ sym also.fs_is in
    let nodes = is.tree_is ∙ sym also.tree_is in
    let sessions = is.sessions_are ∙ sym also.sessions_are in
    let table = is.table_is ∙ sym also.table_is in
    let locks = same_locks one.scene.locks other.scene.locks (λ ino. is.locks_are ino ∙ sym (also.locks_are ino)) (is.queue_is ∙ sym also.queue_is) (is.last_is ∙ sym also.last_is) in
    let messages = is.messages_are ∙ sym also.messages_are in
    λ i. record { scene = record { fs = named i; tree = nodes i; sessions = sessions i; table = table i; locks = locks i }; messages = messages i }

-- what is of two servers is of one opening state
pub same_state : (one other : State) (book also : Book) (origin : Origin) → IsOf one book origin → IsOf other also origin → one ≡ other
same_state one other book also origin is of =
    let fs : of.fs ≡ is.fs = cc (is.fs_is, of.fs_is) in
    let tree : of.tree ≡ is.tree = cc (is.tree_is, of.tree_is) in
    same_opening is.fs is.tree one other is.opens (subst (λ (f : List ℕ). IsOpening f is.tree other) fs (subst (λ (t : Nodes). IsOpening of.fs t other) tree of.opens))
