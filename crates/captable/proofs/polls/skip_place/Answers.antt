use Rattle.std.proofs.Common.{◌≡◌, true, Some, cond, is_some, IfSome, ◌∙◌, refl, sym, ap, subst}
use Rattle.std.specs.Option.{option_map}
use Rattle.std.proofs.lemmas.Bool.{eq-eqb}
use Rattle.captable.specs.declared.polls.Poll.{Poll}
use Rattle.captable.specs.Places.{is_due_at, place_of, same_client}
use Rattle.captable.specs.Polls.{places_of}
use Rattle.captable.proofs.Placed.{still}
use Rattle.captable.proofs.Polled.{counts-stay, places-changed}
use Rattle.captable.proofs.NotDue.{none_due-put}
use Rattle.captable.proofs.polls.skip_place.Goals as goal

pub first_due-first-requires : goal.first_due-first-requires
first_due-first-requires c = c.requires c.args.client c.in-Some.poll.now.place (ap (option_map (λ (poll : Poll). poll.place)) (sym c.in-Some.ensures))

pub returns-in-Some-clause-none_due : goal.returns-in-Some-clause-none_due
returns-in-Some-clause-none_due c =
    let m = c.args.polls.now in
    let n = c.set_place.new.polls in
    let first = c.first_due-first.result in
    none_due-put (places_of m) (places_of n) c.args.lists.now c.args.client first (places-changed m c.args.client n (λ _. first) c.set_place.ensures) c.first_due-first.ensures.none_due c.requires

pub returns-in-Some-clause-due : goal.returns-in-Some-clause-due
returns-in-Some-clause-due c =
    let q = c.args.client in
    let m = c.args.polls.now in
    let n = c.set_place.new.polls in
    let first = c.first_due-first.result in
    let old = places_of m q in
    let there : places_of n q ≡ Some first =
    places-changed m q n (λ _. first) c.set_place.ensures q ∙ ap (λ b. cond b (option_map (λ _. first) old) old) (eq-eqb q.0 q.0 refl)
    ∙ ap (option_map (λ _. first)) (ap (option_map (λ (poll : Poll). poll.place)) (sym c.in-Some.ensures)) in
    subst (λ o. IfSome (place_of o) (λ key. is_due_at c.args.lists.now key ≡ true)) (sym there) c.first_due-first.ensures.due

pub returns-in-Some-clause-others : goal.returns-in-Some-clause-others
returns-in-Some-clause-others c = λ q.
    let m = c.args.polls.now in
    let n = c.set_place.new.polls in
    let first = c.first_due-first.result in
    ap is_some (places-changed m c.args.client n (λ _. first) c.set_place.ensures q) ∙ still (λ _. first) (same_client c.args.client q) (places_of m q)

pub returns-in-Some-clause-counts : goal.returns-in-Some-clause-counts
returns-in-Some-clause-counts c = λ q. counts-stay c.args.polls.now c.args.client c.set_place.new.polls (λ _. c.first_due-first.result) c.set_place.ensures q
