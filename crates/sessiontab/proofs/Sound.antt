-- Each change of the table keeps it sound.
use Rattle.std.specs.Prelude.{nat_le}
use Rattle.std.proofs.Common.{◌≡◌, ℕ, ◌+◌, ◌-◌, ◌<◌, ◌≤◌, Bool, true, false, cond, not, ◌||◌, ◌&&◌, Option, Some, None, is_some, Result, Ok, Err, OnOk, OnErr}
use Rattle.std.proofs.Common.{refl, sym, ap, subst, ◌∙◌, arith}
use Rattle.std.specs.Cmp.{Equal-is, nat_cmp_total}
use Rattle.std.specs.FinMap as map
use Rattle.std.specs.FinSet as set
use Rattle.std.specs.FinSet.{FinSet}
use Rattle.std.specs.Option.{option_map_or}
use Rattle.std.specs.Ordering.{eq_by_cmp, nat_cmp}
use Rattle.sessiontab.specs.declared.session.Session.{Session}
use Rattle.sessiontab.specs.Connected.{SessionMap, change_session}
use Rattle.sessiontab.specs.Table.{IsSound, SessionTable}
use Rattle.capbits.specs.declared.refusal.Refusal.TheVariants.{Blocklisted, Limit, NoSession, SessionOpen}
use Rattle.capbits.specs.Refusal.{first_failing}
use Rattle.capbits.proofs.Tests.{passed-if}
use Rattle.sessiontab.specs.Calls.{has_session}
use Rattle.sessiontab.specs.Tests.{evict_tests, new_session_tests}
use Rattle.std.proofs.lemmas.Bool.Decides.{nat_tests}

pub same_key : (q k : ℕ) → eq_by_cmp nat_cmp q k ≡ true → q ≡ k
same_key q k e = map.nat_cmp-IsAntisymmetric q k ((Equal-is (nat_cmp q k)).0 e)

one_more : (b : Bool) (n limit : ℕ) → n < limit → cond b n (n + 1) ≤ limit
one_more true n limit h = omega arith
one_more false n limit h = omega arith

as_many : (b : Bool) (n limit : ℕ) → b ≡ true → n ≤ limit → cond b n (n + 1) ≤ limit
as_many true n limit e h = h
as_many false n limit e h = cc

one_less : (b : Bool) (n limit : ℕ) → n ≤ limit → cond b (n - 1) n ≤ limit
one_less true n limit h = omega arith
one_less false n limit h = h

none_or : {X : Type 0} (b : Bool) (o : Option X) → o ≡ None → cond b None o ≡ None
none_or true o e = refl
none_or false o e = e

-- nobody is connected or blocked
pub sound-empty : IsSound (record { sessions = map.empty; blocked = set.empty })
sound-empty = record {
  sessions = subst (λ n. n ≤ 64) (sym (map.len-empty nat_cmp Session)) (omega arith);
  blocked = subst (λ n. n ≤ 1024) (sym (set.len-empty nat_cmp)) (omega arith);
  apart = λ q _. map.get-empty nat_cmp q;
}

module _ (m : SessionMap) (b : FinSet nat_cmp) (k : ℕ) (was : IsSound (record { sessions = m; blocked = b })) where
  len_without : map.len (map.remove m k) ≤ 64
  len_without = subst (λ n. n ≤ 64) (sym (map.len-remove nat_cmp_total m k)) (one_less (map.contains_key m k) (map.len m) 64 was.sessions)

  -- the client that is connected isn't blocked
  pub sound-insert : (s : Session) → set.contains b k ≡ false → map.len m < 64 → IsSound (record { sessions = map.insert m k s; blocked = b })
  sound-insert s out room = record {
    sessions = subst (λ n. n ≤ 64) (sym (map.len-insert nat_cmp_total m k s)) (one_more (map.contains_key m k) (map.len m) 64 room);
    blocked = was.blocked;
    apart = λ q blocked. map.get-insert nat_cmp_total m k s q ∙ (elim (eq_by_cmp nat_cmp q k) as (λ e. eq_by_cmp nat_cmp q k ≡ e → cond e (Some s) (map.get m q) ≡ None) [
      | true ↦ λ e. let there : set.contains b k ≡ true = subst (λ x. set.contains b x ≡ true) (same_key q k e) blocked in cc
      | false ↦ λ _. was.apart q blocked
    ] refl);
  }

  -- a session ends
  pub sound-remove : IsSound (record { sessions = map.remove m k; blocked = b })
  sound-remove = record {
    sessions = len_without;
    blocked = was.blocked;
    apart = λ q blocked. map.get-remove nat_cmp_total m k q ∙ none_or (eq_by_cmp nat_cmp q k) _ (was.apart q blocked);
  }

  -- a session changes
  pub sound-change : (f : Session → Session) → IsSound (record { sessions = change_session f m k; blocked = b })
  sound-change f =
      elim (map.get m k) as (λ o. map.get m k ≡ o → IsSound (record { sessions = option_map_or (λ s. map.insert m k (f s)) o m; blocked = b })) [
        | None ↦ λ _. was
        | Some s ↦ λ e. record {
          sessions = subst (λ n. n ≤ 64) (sym (map.len-insert nat_cmp_total m k (f s))) (as_many (map.contains_key m k) (map.len m) 64 (ap is_some e) was.sessions);
          blocked = was.blocked;
          apart = λ q blocked. map.get-insert nat_cmp_total m k (f s) q ∙ (elim (eq_by_cmp nat_cmp q k) as (λ t. eq_by_cmp nat_cmp q k ≡ t → cond t (Some (f s)) (map.get m q) ≡ None) [
            | true ↦ λ t. let here : map.get m k ≡ None = subst (λ x. map.get m x ≡ None) (same_key q k t) (was.apart q blocked) in cc
            | false ↦ λ _. was.apart q blocked
          ] refl);
        }
      ] refl

  -- a session ends, and its client is blocked
  pub sound-evict : set.len b < 1024 → IsSound (record { sessions = map.remove m k; blocked = set.insert b k })
  sound-evict room = record {
    sessions = len_without;
    blocked = subst (λ n. n ≤ 1024) (sym (set.len-insert nat_cmp_total b k)) (one_more (set.contains b k) (set.len b) 1024 room);
    apart = λ q blocked. map.get-remove nat_cmp_total m k q ∙ (elim (eq_by_cmp nat_cmp q k) as (λ e. (e || set.contains b q) ≡ true → cond e None (map.get m q) ≡ None) [
      | true ↦ λ _. refl
      | false ↦ λ there. was.apart q there
    ] (sym (set.contains-insert nat_cmp_total b k q) ∙ blocked));
  }

  -- a client is blocked no more
  pub sound-unblock : IsSound (record { sessions = m; blocked = set.remove b k })
  sound-unblock = record {
    sessions = was.sessions;
    blocked = subst (λ n. n ≤ 1024) (sym (set.len-remove nat_cmp_total b k)) (one_less (set.contains b k) (set.len b) 1024 was.blocked);
    apart = λ q blocked. was.apart q (elim (eq_by_cmp nat_cmp q k) as (λ e. (not e && set.contains b q) ≡ true → set.contains b q ≡ true) [
      | true ↦ λ none. cc
      | false ↦ λ there. there
    ] (sym (set.contains-remove nat_cmp_total b k q) ∙ blocked));
  }

below : (n limit : ℕ) → nat_le limit n ≡ false → n < limit
below n limit e = grind (arith, nat_tests)

-- where no test of a new session fails, the client has none
pub not_connected : (table : SessionTable) (client : ℕ) → first_failing (new_session_tests table client) ≡ None → has_session table client ≡ false
not_connected table client passed =
    let blocked = passed-if (set.contains table.blocked client) Blocklisted _ passed in
    (passed-if (has_session table client) SessionOpen _ blocked.1).0

-- the client is not blocked, and there is room
pub may_open : (table : SessionTable) (client : ℕ) → first_failing (new_session_tests table client) ≡ None → (set.contains table.blocked client ≡ false) × (map.len table.sessions < 64)
may_open table client passed =
    let blocked = passed-if (set.contains table.blocked client) Blocklisted _ passed in
    let connected = passed-if (has_session table client) SessionOpen _ blocked.1 in
    let full = passed-if (nat_le 64 (map.len table.sessions)) Limit None connected.1 in
    (blocked.0, below (map.len table.sessions) 64 full.0)

-- where no test of an eviction fails, the blocklist has room
pub may_evict : (table : SessionTable) (client : ℕ) → first_failing (evict_tests table client) ≡ None → set.len table.blocked < 1024
may_evict table client passed =
    let connected = passed-if (not (has_session table client)) NoSession _ passed in
    let full = passed-if (nat_le 1024 (set.len table.blocked)) Limit None connected.1 in
    below (set.len table.blocked) 1024 full.0

-- from what a call says of its Ok and of its Err
pub kept_if : {T E P Q R : Type 0} (r : Result T E) → OnOk r P → OnErr r Q → (P → R) → (Q → R) → R
kept_if (Ok x) p q f g = f p
kept_if (Err x) p q f g = g q
