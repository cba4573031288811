use Rattle.std.proofs.Common.{◌≡◌, ◌++◌, ◌∷◌, [], ◌⊎◌, inl, inr, true, false, Option, Some, None, Result, Ok, Err, is_ok, OnOk, refl, sym, ap, subst, ◌∙◌}
use Rattle.std.proofs.Common.{true≢false}
use Rattle.std.proofs.lemmas.Bool.{eqb-true}
use Rattle.std.specs.List.{filter_map}
use Rattle.std.specs.Option.{option_eq}
use Rattle.capbits.specs.contracts.ids.TicketPartialEq.TheImpl as tickets
use Rattle.step_acts.specs.Renewing.{ServedFrom}
use Rattle.capcore.proofs.CommonPieces.{AreCounted, ArePermitted, CountedLocks, Covers, Ended, Ino, InoSet, IsAlike, KeptScene, Nodes, Outcome, Request, Scene}
use Rattle.capcore.proofs.CommonPieces.{Served, Table, Ticket, known_of, plain, sized_by}
use Rattle.capcore.proofs.OneChange.{alike-apart}
use Rattle.capcore.specs.Begun.{AreCountedIn, ArePermittedIn}
use Rattle.capcore.specs.Serves.{Serves}
use Rattle.capcore.proofs.settle.serve_next.Goals as goal

-- tickets that are compared as equal are the same
same-ticket : (judged : Option Ticket) (ticket : Ticket) → option_eq tickets.eq-value.it judged (Some ticket) ≡ true → judged ≡ Some ticket
same-ticket None ticket is = absurd (true≢false (sym is))
same-ticket (Some own) ticket is = let number = eqb-true own.0 ticket.0 is in λ i. Some (record { 0 = number i })

pub serve-served-requires-clause-judged : goal.serve-served-requires-clause-judged
serve-served-requires-clause-judged c = λ judged.
    c.requires.judged c.args.ticket c.in-Some.request (sym c.take.ensures.value ∙ same-ticket c.take.result c.args.ticket (sym c.eq-judged.ensures ∙ judged)) (sym c.in-Some.ensures.request)

pub returns-clause-served : goal.returns-clause-served
returns-clause-served c =
    let request : Request = c.in-Some.request in
    let outcome : Outcome = c.serve-served.result.given in
    let ended : Outcome → Ended = λ o. record { client = request.client; ticket = request.ticket; outcome = o } in
    let old = plain c.args.scene.now in
    let serves : Serves old c.args.ticket (ended outcome) (plain c.renew_served.new.scene) = record {
      request = request;
      waits = sym c.in-Some.ensures.request;
      may = c.serve-served.ensures.ends old.table old.locks;
      ended_is = refl;
      is = ap plain c.renew_served.ensures.rest ∙ ap plain c.serve-served.ensures.rest ∙ (λ i. record old { tree = c.serve-served.ensures.tree i; locks = ap (λ (l : CountedLocks). l.locks) c.apply_move.ensures.locks i });
    } in (
      ended outcome,
      serves,
      c.push.ensures.given,
      c.push.ensures.recorded ∙ ap (λ (o : Outcome). c.args.output.now.recorded.items ++ ended o ∷ []) c.serve-served.ensures.recorded,
      λ q there.
          let same : request ≡ q = (let both : Some request ≡ Some q = c.in-Some.ensures.request ∙ there in cc) in
          c.push.ensures.sized
          ∙ ap (λ (sized : Option Ino). c.args.output.now.sized.items ++ filter_map (λ (ino : Option Ino). ino) (sized ∷ []))
          (c.changed_inodes-sized.ensures.sized ∙ ap (λ (r : Request). sized_by (Served r outcome)) same),
    )

-- it was covered what the request moves, or the tree stayed as it was
covered : {T E X Y : Type 0} (r : Result T E) → OnOk r Y → (is_ok r ≡ false → X) → X ⊎ Y
covered (Ok done) covers stays = inr covers
covered (Err refused) covers stays = inl (stays refl)

pub returns-clause-permitted : goal.returns-clause-permitted
returns-clause-permitted c =
    let old : Scene = plain c.args.scene.now in
    let request : Request = c.in-Some.request in
    let outcome : Outcome = c.serve-served.result.given in
    let affected : InoSet = c.add_held_below-room.new.affected in
    let is = c.serve-served.ensures.rest in
    let after = c.serve-served.ensures.tree in
    let from : ServedFrom old.tree request outcome affected (plain c.serve-served.new.scene) = record {
      after = after;
      alike = λ other apart below. subst (λ (t : Nodes). IsAlike old.tree t other) (sym after)
          (alike-apart old request outcome other c.requires.tree (c.serve-served.ensures.ends old.table old.locks) apart below);
      covers = subst (λ (t : Table). (c.serve-served.new.scene.tree ≡ old.tree) ⊎ Covers request old.tree t affected) (sym (ap (λ (s : KeptScene). s.table.entries) is))
          (covered c.add_held_below-room.result c.add_held_below-room.ensures.covers (λ failed. c.serve-served.ensures.stays (c.is_ok.ensures.value ∙ failed)));
    } in
    subst (λ (s : KeptScene). ArePermittedIn c.renew_served.new.scene.table.kept (plain s)) (sym c.renew_served.ensures.rest)
    (c.renew_served.ensures.permitted old.tree from
    (subst (λ (s : KeptScene). ArePermitted s.table.kept s.fs old.tree s.sessions s.table.entries) (sym is) c.requires.permitted))

pub returns-clause-counted : goal.returns-clause-counted
returns-clause-counted c = λ all.
    subst AreCountedIn (sym c.renew_served.ensures.rest)
    (subst AreCountedIn (sym c.serve-served.ensures.rest) (subst (AreCounted c.args.scene.now.table.entries) (sym c.apply_move.ensures.locks) all))

pub returns-clause-pending : goal.returns-clause-pending
returns-clause-pending c = λ k. c.renew_served.ensures.pending k ∙ ap (λ (s : KeptScene). known_of s.table.kept k) c.serve-served.ensures.rest
