-- What is kept of each client, after a change of what is kept of one.
use Rattle.std.proofs.Common.{◌≡◌, ℕ, true, false, Bool, cond, Option, Some, None, is_some, refl, sym, ap, ◌∙◌}
use mathlib.Core.Bool.{beq}
use Rattle.std.specs.Prelude.{IfSome}
use Rattle.std.specs.FinMap as map
use Rattle.std.specs.Option.{option_map}
use Rattle.std.specs.Ordering.{nat_cmp}
use Rattle.std.proofs.lemmas.Bool.{eqb-true}
use Rattle.capbits.specs.Maps.{change_at}
use Rattle.capbits.specs.declared.ids.ClientId.{ClientId}
use Rattle.std.specs.Cmp.{nat_cmp_total}
use Rattle.capbits.proofs.Maps.{change-at, insert-at, put_back, remove-at}
use Rattle.cap_arena.specs.Lists.{Lists}
use Rattle.captable.specs.declared.entry.Slot.{Slot}
use Rattle.captable.specs.declared.polls.Poll.{Poll}
use Rattle.captable.specs.Places.{ArePlaced, same_client}
use Rattle.captable.specs.Polls.{Polls, begun, counts_of, ended, new_poll, part_of, places_of, recounted}

-- one who has none gets this
abbrev pub begun_at : {V : Type 0} → V → Option V → Option V
begun_at v None = Some v
begun_at v (Some w) = Some w

-- it stays where the list has a first key
abbrev pub left : {V : Type 0} → Option ℕ → Option V → Option V
left None v = None
left (Some first) v = v

module _ {V : Type 0} (part : Poll → V) (m : Polls) (client : ClientId) where
  mapped : (b : Bool) (f : Poll → Poll) (g : V → V) → ((poll : Poll) → part (f poll) ≡ g (part poll)) → (o : Option Poll)
      → option_map part (cond b (option_map f o) o) ≡ cond b (option_map g (option_map part o)) (option_map part o)
  mapped true f g does None = refl
  mapped true f g does (Some poll) = ap Some (does poll)
  mapped false f g does o = refl

  -- a part that changes
  pub part-changed : (f : Poll → Poll) (g : V → V) → ((poll : Poll) → part (f poll) ≡ g (part poll)) → (n : Polls) → n ≡ change_at f m client.0
      → (q : ClientId) → part_of part n q ≡ cond (same_client client q) (option_map g (part_of part m q)) (part_of part m q)
  part-changed f g does n is q =
      ap (λ n. part_of part n q) is ∙ ap (option_map part) (change-at m client.0 q.0 f) ∙ mapped (same_client client q) f g does (map.get m q.0)

  -- a part that stays
  pub part-stays : (f : Poll → Poll) → ((poll : Poll) → part (f poll) ≡ part poll) → (n : Polls) → n ≡ change_at f m client.0 → (q : ClientId) → part_of part n q ≡ part_of part m q
  part-stays f does n is q = part-changed f (λ v. v) does n is q ∙ same (same_client client q) (part_of part m q)
    where
      same : (b : Bool) (o : Option V) → cond b (option_map (λ v. v) o) o ≡ o
      same true None = refl
      same true (Some v) = refl
      same false o = refl

  pub part-begun : (n : Polls) → n ≡ begun m client → (q : ClientId) → part_of part n q ≡ cond (same_client client q) (begun_at (part new_poll) (part_of part m q)) (part_of part m q)
  part-begun n is q = ap (λ n. part_of part n q) is ∙ by_case (map.get m client.0) refl
    where
      here : (o : Option Poll) → map.get m client.0 ≡ o → same_client client q ≡ true → map.get m q.0 ≡ o
      here o was e = ap (map.get m) (sym (eqb-true client.0 q.0 e)) ∙ was

      there : (b : Bool) (poll : Poll) → same_client client q ≡ b → map.get m client.0 ≡ Some poll → part_of part m q ≡ cond b (begun_at (part new_poll) (part_of part m q)) (part_of part m q)
      there true poll e was = ap (option_map part) (here (Some poll) was e) ∙ sym (ap (λ o. begun_at (part new_poll) (option_map part o)) (here (Some poll) was e))
      there false poll e was = refl

      fresh : (b : Bool) → same_client client q ≡ b → map.get m client.0 ≡ None
          → option_map part (cond b (Some new_poll) (map.get m q.0)) ≡ cond b (begun_at (part new_poll) (part_of part m q)) (part_of part m q)
      fresh true e was = sym (ap (λ o. begun_at (part new_poll) (option_map part o)) (here None was e))
      fresh false e was = refl

      by_case : (o : Option Poll) → map.get m client.0 ≡ o
          → part_of part (begun m client) q ≡ cond (same_client client q) (begun_at (part new_poll) (part_of part m q)) (part_of part m q)
      by_case (Some poll) was =
          ap (λ o. part_of part (cond (is_some o) m (map.insert m client.0 new_poll)) q) was ∙ there (same_client client q) poll refl was
      by_case None was =
          ap (λ o. part_of part (cond (is_some o) m (map.insert m client.0 new_poll)) q) was ∙ ap (option_map part) (insert-at m client.0 q.0 new_poll)
          ∙ fresh (same_client client q) refl was

  pub part-ended : (first : Option ℕ) (n : Polls) → n ≡ ended first m client → (q : ClientId) → part_of part n q ≡ cond (same_client client q) (left first (part_of part m q)) (part_of part m q)
  part-ended None n is q = ap (λ n. part_of part n q) is ∙ ap (option_map part) (remove-at m client.0 q.0) ∙ out (same_client client q) (map.get m q.0)
    where
      out : (b : Bool) (o : Option Poll) → option_map part (cond b None o) ≡ cond b None (option_map part o)
      out true o = refl
      out false o = refl
  part-ended (Some first) n is q = ap (λ n. part_of part n q) is ∙ same (same_client client q) (part_of part m q)
    where
      same : (b : Bool) (o : Option V) → o ≡ cond b o o
      same true o = refl
      same false o = refl

pub if_part : {V : Type 0} (part : Poll → V) (P : V → Type 0) (o : Option Poll) → IfSome (option_map part o) P → IfSome o (λ poll. P (part poll))
if_part part P None is = tt
if_part part P (Some poll) is = is

-- what is kept of no client
pub part-none : {V : Type 0} (part : Poll → V) (m : Polls) → m ≡ map.empty → (q : ClientId) → part_of part m q ≡ None
part-none part m none q = ap (λ n. part_of part n q) none ∙ ap (option_map part) (map.get-empty nat_cmp q.0)

-- both parts are there of the same clients
pub parts-alike : {V W : Type 0} (part : Poll → V) (other : Poll → W) (m : Polls) (q : ClientId) → is_some (part_of part m q) ≡ is_some (part_of other m q)
parts-alike part other m q = alike (map.get m q.0)
  where
    alike : (o : Option Poll) → is_some (option_map part o) ≡ is_some (option_map other o)
    alike None = refl
    alike (Some poll) = refl

-- ---- a change of one part

module _ (m : Polls) (client : ClientId) (n : Polls) where
  pub places-changed : (g : Option ℕ → Option ℕ) → n ≡ change_at (λ poll. record poll { place = g poll.place }) m client.0
      → (q : ClientId) → places_of n q ≡ cond (same_client client q) (option_map g (places_of m q)) (places_of m q)
  places-changed g is = part-changed (λ poll. poll.place) m client (λ poll. record poll { place = g poll.place }) g (λ poll. refl) n is

  pub counts-stay : (g : Option ℕ → Option ℕ) → n ≡ change_at (λ poll. record poll { place = g poll.place }) m client.0 → (q : ClientId) → counts_of n q ≡ counts_of m q
  counts-stay g is = part-stays (λ poll. poll.due) m client (λ poll. record poll { place = g poll.place }) (λ poll. refl) n is

  pub counts-changed : (g : ℕ → ℕ) → n ≡ change_at (λ poll. record poll { due = g poll.due }) m client.0
      → (q : ClientId) → counts_of n q ≡ cond (same_client client q) (option_map g (counts_of m q)) (counts_of m q)
  counts-changed g is = part-changed (λ poll. poll.due) m client (λ poll. record poll { due = g poll.due }) g (λ poll. refl) n is

  pub places-stay : (g : ℕ → ℕ) → n ≡ change_at (λ poll. record poll { due = g poll.due }) m client.0 → (q : ClientId) → places_of n q ≡ places_of m q
  places-stay g is = part-stays (λ poll. poll.place) m client (λ poll. record poll { due = g poll.due }) (λ poll. refl) n is

-- who has a count has a place
pub counts-placed : (t : Lists Slot) (m : Polls) → ArePlaced t (places_of m) → ArePlaced t (counts_of m)
counts-placed t m placed q = parts-alike (λ poll. poll.due) (λ poll. poll.place) m q ∙ placed q

-- what was kept for a first entry goes again
pub begun-back : (m : Polls) (client : ClientId) (first : Option ℕ) → is_some (map.get m client.0) ≡ is_some first → ended first (begun m client) client ≡ m
begun-back m client first there = by_case (map.get m client.0) first refl there
  where
    by_case : (o : Option Poll) (f : Option ℕ) → map.get m client.0 ≡ o → is_some o ≡ is_some f → ended f (begun m client) client ≡ m
    by_case (Some poll) (Some key) is e = ap (λ o. cond (is_some o) m (map.insert m client.0 new_poll)) is
    by_case None None is e =
        ap (λ o. map.remove (cond (is_some o) m (map.insert m client.0 new_poll)) client.0) is ∙ put_back nat_cmp_total map.nat_cmp-IsAntisymmetric m client.0 new_poll is
    by_case (Some poll) None is e = absurd (cc)
    by_case None (Some key) is e = absurd (cc)

pub part-there : {V : Type 0} (part : Poll → V) (o : Option Poll) → is_some o ≡ is_some (option_map part o)
part-there part None = refl
part-there part (Some poll) = refl

-- an entry that was due and is, or was not and is not, counts as before
pub recounted-same : (was is : Bool) → beq was is ≡ true → (poll : Poll) → record poll { due = recounted was is poll.due } ≡ poll
recounted-same true true same poll = refl
recounted-same false false same poll = refl
recounted-same true false same poll = absurd (cc)
recounted-same false true same poll = absurd (cc)
