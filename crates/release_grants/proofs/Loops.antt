-- Loops over what follows a first number or grant.
use Rattle.std.proofs.Common.{◌≡◌, ℕ, zero, suc, ◌-◌, ◌<◌, ◌≤◌, List, [], ◌∷◌, ◌++◌, Bool, Option, Some, None, refl, arith}
use Rattle.release_grants.specs.declared.flags.Flags.{Flags}
use Rattle.release_grants.specs.declared.grant.Grant.{Grant}
use Rattle.release_grants.specs.declared.switches.Switches.{Switches}
use Rattle.release_grants.specs.Items.{fsname_at, more_numbers, network_at, next_number, path_at, root_squash_at}
use Rattle.release_grants.specs.Reading.{gids_if, items_at, more_grants, next_grant, takes_gids, takes_uid, uid_if}
use Rattle.release_grants.specs.Texts.{or_none}

-- ---- numbers

pub numbers_end : (count : ℕ) (numbers text : List ℕ) → count ≤ 0 → (numbers, text) ≡ more_numbers count numbers text
numbers_end zero numbers text none = refl
numbers_end (suc count) numbers text none = absurd (omega arith)

pub numbers_none : (count : ℕ) (numbers text : List ℕ) → 0 < count → next_number text ≡ None → (numbers, text) ≡ more_numbers count numbers text
numbers_none zero numbers text some none = absurd (omega arith)
numbers_none (suc count) numbers text some none = rw none refl

pub numbers_next : (count : ℕ) (numbers text : List ℕ) (n : ℕ) (rest : List ℕ) → 0 < count → next_number text ≡ Some (n, rest) → more_numbers (count - 1) (numbers ++ n ∷ []) rest ≡ more_numbers count numbers text
numbers_next zero numbers text n rest some next = absurd (omega arith)
numbers_next (suc count) numbers text n rest some next = let less : suc count - 1 ≡ count = omega arith in rw (next, less) refl

-- ---- grants

pub grants_end : (sw : Switches) (count : ℕ) (grants : List Grant) (text : List ℕ) → count ≤ 0 → (grants, text) ≡ more_grants sw count grants text
grants_end sw zero grants text none = refl
grants_end sw (suc count) grants text none = absurd (omega arith)

pub grants_none : (sw : Switches) (count : ℕ) (grants : List Grant) (text : List ℕ) → 0 < count → next_grant sw text ≡ None → (grants, text) ≡ more_grants sw count grants text
grants_none sw zero grants text some none = absurd (omega arith)
grants_none sw (suc count) grants text some none = rw none refl

pub grants_next : (sw : Switches) (count : ℕ) (grants : List Grant) (text : List ℕ) (g : Grant) (rest : List ℕ) → 0 < count → next_grant sw text ≡ Some (g, rest) → more_grants sw (count - 1) (grants ++ g ∷ []) rest ≡ more_grants sw count grants text
grants_next sw zero grants text g rest some next = absurd (omega arith)
grants_next sw (suc count) grants text g rest some next = let less : suc count - 1 ≡ count = omega arith in rw (next, less) refl

-- ---- the items of a grant

pub items_are : (sw : Switches) (flags : Flags) (t0 t1 t2 t3 t4 t5 t6 : List ℕ) (fsname path : Option (List ℕ)) (root_squash : Bool) (uid : Option ℕ) (gids : List ℕ) (network : Option (List ℕ))
    → (fsname, t1) ≡ or_none (fsname_at t0) t0 → (path, t2) ≡ or_none (path_at t1) t1 → (root_squash, t3) ≡ root_squash_at t2 → (uid, t4) ≡ uid_if (takes_uid sw fsname root_squash) t3
    → (gids, t5) ≡ gids_if (takes_gids sw uid) t4 → (network, t6) ≡ or_none (network_at t5) t5
    → (record { flags = flags; fsname = fsname; path = path; root_squash = root_squash; uid = uid; gids = gids; network = network }, t6) ≡ items_at sw flags t0
items_are sw flags t0 t1 t2 t3 t4 t5 t6 fsname path root_squash uid gids network e1 e2 e3 e4 e5 e6 = rw (← e1, ← e2, ← e3, ← e4, ← e5, ← e6) refl

pub ruleset number_steps = (numbers_end, numbers_none, numbers_next)

pub ruleset grant_steps = (grants_end, grants_none, grants_next)
