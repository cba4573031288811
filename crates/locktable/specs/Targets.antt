-- Where a lock is to go: by the head of its queue, and by what clients want.
use Rattle.std.specs.Prelude.{◌==◌, ◌≡◌, ◌≢◌, Bool, true, false, IsTrue, if◌then◌else◌, List, [], ◌∷◌, Option, Some, None, refl}
use Rattle.std.specs.List.{list_any}
use Rattle.std.proofs.Common.{sym, true≢false}
use Rattle.capbits.specs.declared.cap.Cap.{Cap}
use Rattle.capbits.specs.declared.cap.Cap.TheVariants.{Ax, Fb, Fw, Fx, Lx, Xx}
use Rattle.capbits.specs.declared.cap.Part.{Part}
use Rattle.capbits.specs.declared.cap.Part.TheVariants.{A, F, L, X}
use Rattle.capbits.specs.declared.ids.ClientId.{ClientId}
use Rattle.capbits.specs.Caps.{Caps, has}
use Rattle.capbits.specs.Sets.{caps_of_part}
use Rattle.locktable.specs.declared.states.StableState.{StableState}
use Rattle.locktable.specs.declared.states.StableState.TheVariants.{Excl, Lock, Mix, Sync}
use Rattle.locktable.specs.declared.targets.Head.{Head}
use Rattle.locktable.specs.declared.targets.Head.TheVariants.{Change, Empty, Read}

-- whether a lock that is stable in a state serves the head of its queue
abbrev pub is_served : StableState → Head → Bool
is_served Lock Change = true
is_served Lock (Read asker) = true
is_served Sync (Read asker) = true
is_served (Excl holder) (Read asker) = holder.0 == asker.0
is_served state head = false

-- whether a set has one of these caps
abbrev pub has_any : Caps → List Cap → Bool
has_any s caps = list_any (has s) caps

-- what a loner wants of a part that takes the lock for it
abbrev pub taking : Part → List Cap
taking A = Ax ∷ []
taking L = Lx ∷ []
taking X = Xx ∷ []
taking F = Fx ∷ Fw ∷ Fb ∷ []

-- the state in which clients share a part: the file lock mixes where somebody wants to write
abbrev pub shared_state : Part → Caps → StableState
shared_state F wanted = if has wanted Fw then Mix else Sync
shared_state part wanted = Sync

-- the state for a part that somebody wants
abbrev pub wanted_state : Part → Option (ClientId × Caps) → Caps → StableState
wanted_state part None wanted = shared_state part wanted
wanted_state part (Some loner) wanted = if has_any loner.1 (taking part) then Excl loner.0 else shared_state part wanted

-- the target: LOCK for a change, a state that serves a read, else a state for what is wanted, if anything is
unfoldable pub target_of : Part → StableState → Head → Option (ClientId × Caps) → Caps → StableState
target_of part state Change loner wanted = Lock
target_of part state (Read asker) loner wanted = if is_served state (Read asker) then state else Sync
target_of part state Empty loner wanted = if has_any wanted (caps_of_part part) then wanted_state part loner wanted else state

-- the target serves the head, if there is one
pub target_serves : (part : Part) (state : StableState) (head : Head) (loner : Option (ClientId × Caps)) (wanted : Caps) → head ≢ Empty → IsTrue (is_served (target_of part state head loner wanted) head)
unfolding target_of
target_serves part state Empty loner wanted ne = absurd (ne refl)
target_serves part state Change loner wanted ne = refl
target_serves part state (Read asker) loner wanted ne =
    elim (is_served state (Read asker)) as (λ b. is_served state (Read asker) ≡ b → IsTrue (is_served (if b then state else Sync) (Read asker))) [
      | true ↦ λ e. e
      | false ↦ λ e. refl
    ] refl

-- a lock at its target stays there
pub target_stays : (part : Part) (state : StableState) (head : Head) (loner : Option (ClientId × Caps)) (wanted : Caps) → target_of part (target_of part state head loner wanted) head loner wanted ≡ target_of part state head loner wanted
unfolding target_of
target_stays part state Empty loner wanted =
    elim (has_any wanted (caps_of_part part)) as (λ b. (if b then wanted_state part loner wanted else (if b then wanted_state part loner wanted else state)) ≡ (if b then wanted_state part loner wanted else state)) [
      | true ↦ refl
      | false ↦ refl
    ]
target_stays part state Change loner wanted = refl
target_stays part state (Read asker) loner wanted =
    elim (is_served state (Read asker)) as (λ b. is_served state (Read asker) ≡ b → (if is_served (if b then state else Sync) (Read asker) then (if b then state else Sync) else Sync) ≡ (if b then state else Sync)) [
      | true ↦ λ e. elim (is_served state (Read asker)) as (λ b. b ≡ true → (if b then state else Sync) ≡ state) [
        | true ↦ λ _. refl
        | false ↦ λ f. absurd (true≢false (sym f))
      ] e
      | false ↦ λ e. refl
    ] refl
