-- The step of an event that affected some inodes, all together: it is a step of the rules, leaves the state sound, issues what is due
-- and gives at most one number.
use Rattle.std.proofs.Common.{◌≡◌, ℕ, ◌+◌, Bool, List, sym, subst}
use Rattle.capcore.proofs.SizesOwed.{sizes-end, sizes-given, sizes-issues, sizes-sound}
use Rattle.capcore.proofs.StayingSound.{given-affected}
use Rattle.capcore.proofs.Common.{Affects, AreGiven, Caps, Ended, Event, Holder, IsLockMap, IsSound, IsTable, IsTree, IssuesExactly, Knows, Made, Reply, Scene}
use Rattle.capcore.proofs.Common.{SettlesAt, State, Step, all_ended, direct, ended_in, finished_at, reply_of, shown, shown-given, shown-issued, shown-sound}
use Rattle.capcore.proofs.Common.{sized_in, sizes_owed, state_at_end}
use Rattle.capcore.proofs.EntryStep.{one-step}
use Rattle.capcore.specs.UnderWay.{GivesOne}

-- what is promised of a step
pub record IsConcluded (old : State) (e : Event) (reply : Reply) (ended : List Ended) (new : State) : Type 0 where
  pub step : Step old e reply ended new
  pub sound : IsSound new
  pub issued : IssuesExactly (direct old e).state.scene new.scene
  pub given : (count : ℕ) → AreGiven count old → AreGiven (count + 1) new

module _ (at from : ℕ → Bool) (known : Holder → Caps) (old : State) (e : Event) (moves : List Made) (settled : Scene) (sound : IsSound old)
    (affects : Affects from old (direct old e).state) (table : IsTable (direct old e).state.scene.table) (order : IsLockMap (direct old e).state.scene.locks)
    (knows : Knows known old.scene (direct old e).state.scene.table) (gives : GivesOne old e)
    (settles : SettlesAt at from moves (direct old e).state.scene settled) (tree : IsTree settled.tree) where
  abbrev affected : State
  affected = (direct old e).state

  abbrev pub last : State
  last = state_at_end old affected moves (finished_at at known (sizes_owed (sized_in moves) settled))

  pub concluded : IsTable last.scene.table → (reply : Reply) (new : State) → reply ≡ reply_of last (ended_in moves) (direct old e).reply_due
      → new ≡ shown (direct old e).reply_due last → IsConcluded old e reply (all_ended old (direct old e) moves) new
  concluded last-table reply new answers is = record {
    step =
        one-step old e moves settled (finished_at at known (sizes_owed (sized_in moves) settled)) settles.settles
        (sizes-end at from known old affected moves settled sound tree table affects knows settles) reply new answers is;
    sound =
        subst IsSound (sym is)
        (shown-sound last (direct old e).reply_due (sizes-sound at from known old affected moves settled sound tree table affects knows settles order) last-table);
    issued =
        subst (λ (s : State). IssuesExactly affected.scene s.scene) (sym is)
        (shown-issued affected.scene last (direct old e).reply_due last-table
        (sizes-issues at from known old affected moves settled sound tree table affects knows settles));
    given = λ count given. (let b = gives count given in
        subst (AreGiven (count + 1)) (sym is)
        (shown-given (count + 1) last (direct old e).reply_due
        (sizes-given at from known old affected moves settled sound tree table affects knows settles count (given-affected at from known count old affected moves settled settles b.0 b.1 b.2))));
  }
