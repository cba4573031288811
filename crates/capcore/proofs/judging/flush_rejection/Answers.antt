use Rattle.std.proofs.Common.{◌≡◌, [], ◌∷◌, sym, ap, ◌∙◌}
use Rattle.std.specs.Option.{option_map}
use Rattle.capstep.specs.declared.event.Event.TheVariants.{Flush}
use Rattle.capcore.proofs.Common.{Access, ByTest, Cap, Caps, Event, Scene, after, basic_tests, before, caps_in, change_tests, exclusive, failing-front}
use Rattle.capcore.proofs.Common.{first_failing, need, needs, part_of_change, passed, passed-front, plain, rejection, rejection_of, release_tests}
use Rattle.capcore.proofs.judging.flush_rejection.Goals.{After-access_rejection, After-release_refusal, in-A, in-F, in-L, in-X}
use Rattle.capcore.proofs.judging.flush_rejection.Goals as goal

-- what the session, the inode and the grants reject
module _ (c : After-access_rejection) where
  abbrev s : Scene
  s = plain c.args.scene.now

  abbrev e : Event
  e = Flush c.args.holder.client c.args.holder.ino c.args.change.now

  granted : c.access_rejection.result ≡ rejection_of s (before s e) (needs s e) []
  granted =
      let k = c.args.holder in
      c.access_rejection.ensures
      ∙ ap (λ (access : Access). rejection_of s (basic_tests s k.client k.ino.0) (need k.client k.ino.0 access ∷ []) []) c.change_access.ensures

-- what is to be held
abbrev held_for : After-release_refusal → Caps
held_for c = caps_in (exclusive (part_of_change c.args.change.now) ∷ [])

held : (c : After-release_refusal) → c.release_refusal.result ≡ first_failing (release_tests c.args.scene.now.table.entries c.args.holder (held_for c))
held c =
    let cap : c.match-part.exclusive ≡ exclusive (part_of_change c.args.change.now) =
    elim c.match-part.branch [
      | in-A w ↦ w.exclusive-is ∙ ap exclusive (sym w.in-A.is ∙ c.part.ensures)
      | in-L w ↦ w.exclusive-is ∙ ap exclusive (sym w.in-L.is ∙ c.part.ensures)
      | in-X w ↦ w.exclusive-is ∙ ap exclusive (sym w.in-X.is ∙ c.part.ensures)
      | in-F w ↦ w.exclusive-is ∙ ap exclusive (sym w.in-F.is ∙ c.part.ensures)
    ] in
    c.release_refusal.ensures
    ∙ ap (λ (caps : Caps). first_failing (release_tests c.args.scene.now.table.entries c.args.holder caps)) (c.of-held.ensures ∙ ap (λ (cap : Cap). caps_in (cap ∷ [])) cap)

pub returns-in-Some : goal.returns-in-Some
returns-in-Some c =
    let here = (goal.at.returns-in-Some c).After-access_rejection in
    let w = s here in
    let flush = e here in
    sym (rejection w (before w flush) (needs w flush) (after w flush) c.in-Some.rejection (sym (granted here) ∙ c.in-Some.is))

pub returns-in-Some-release_refusal : goal.returns-in-Some-release_refusal
returns-in-Some-release_refusal c =
    let here = (goal.at.returns-in-Some-release_refusal c).After-access_rejection in
    let there = (goal.at.returns-in-Some-release_refusal c).After-release_refusal in
    let w = s here in
    let flush = e here in
    let k = c.args.holder in
    sym (passed w (before w flush) (needs w flush) (after w flush) (sym (granted here) ∙ c.in_default.is)
    ∙ ap (option_map ByTest) (failing-front (release_tests w.table k (held_for there)) (change_tests w k.ino.0 c.args.change.now) c.in-Some-release_refusal.refusal
    (sym (held there) ∙ c.in-Some-release_refusal.is)))

pub returns : goal.returns
returns c =
    let here = (goal.at.returns c).After-access_rejection in
    let there = (goal.at.returns c).After-release_refusal in
    let w = s here in
    let flush = e here in
    let k = c.args.holder in
    sym (passed w (before w flush) (needs w flush) (after w flush) (sym (granted here) ∙ c.in_default.is)
    ∙ ap (option_map ByTest) (passed-front (release_tests w.table k (held_for there)) (change_tests w k.ino.0 c.args.change.now)
    (sym (held there) ∙ c.in_default-release_refusal.is) ∙ sym c.change_refusal.ensures ∙ c.in_ok-refusal.was))
