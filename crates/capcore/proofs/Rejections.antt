-- An event that is rejected is answered so; and which inode an event affects that waits for a lock.
use Rattle.std.proofs.Common.{◌≡◌, ℕ, List, Option, Some, None, [], ◌∷◌, ◌++◌, refl, sym, ap, ◌∙◌, arith}
use Rattle.std.specs.Option.{option_map}
use Rattle.capstep.proofs.Twice.{given-twice, recorded-twice}
use Rattle.capstep.specs.Recorded.{twice}
use Rattle.capcore.proofs.Common.{Access, ByTest, ClientId, Event, IsReplied, IsSound, IsTable, Need, Refusal, Rejection, Scene, State, StepReply, Test}
use Rattle.capcore.proofs.Common.{basic_tests, failing-front, first_denied, first_failing, inode_tests, judged, need, no_test, passed-both, passed-front}
use Rattle.capcore.proofs.Common.{rejection-step, rejection_by, rejection_of, rejection_reply, session_tests}
use Rattle.capcore.proofs.Promised.{has-issuable}
use Rattle.capcore.proofs.Sounding.{later-given}

-- ---- what is rejected

rejected-answered : (old : State) (e : Event) (rejection : Rejection) (step_reply : StepReply) → IsSound old → IsTable old.scene.table → judged old.scene e ≡ Some rejection
    → step_reply.reply.given ≡ rejection_reply rejection → step_reply.reply.recorded ≡ step_reply.reply.given → step_reply.ended ≡ [] → IsReplied old e step_reply old
rejected-answered old e rejection step_reply sound table is answers recorded none = grind (arith, rejection-step, has-issuable, later-given)

-- it is a step that changes nothing
pub rejection-replied : (old : State) (e : Event) (rejection : Rejection) (step_reply : StepReply) → IsSound old → IsTable old.scene.table → judged old.scene e ≡ Some rejection
    → step_reply.reply ≡ twice (rejection_reply rejection) → step_reply.ended ≡ [] → IsReplied old e step_reply old
rejection-replied old e rejection step_reply sound table is answers none =
    rejected-answered old e rejection step_reply sound table is (given-twice step_reply.reply _ answers) (recorded-twice step_reply.reply _ answers) none

-- what rejects an event by its parts, read before it was known which state they make up
pub judged-at : (old now : State) (e : Event) (o : Option Rejection) → old ≡ now → o ≡ judged old.scene e → judged now.scene e ≡ o
judged-at old now e o view is = ap (λ (s : State). judged s.scene e) (sym view) ∙ sym is

pub access-at : (old now : State) (client : ClientId) (ino : ℕ) (access : Access) (o : Option Rejection) → old ≡ now
    → o ≡ rejection_of old.scene (basic_tests old.scene client ino) (need client ino access ∷ []) [] → rejection_of now.scene (basic_tests now.scene client ino) (need client ino access ∷ []) [] ≡ o
access-at old now client ino access o view is = ap (λ (s : State). rejection_of s.scene (basic_tests s.scene client ino) (need client ino access ∷ []) []) (sym view) ∙ sym is

-- ---- where more tests stand before and behind

rejected_by : (s : Scene) (first whole last all : Option Refusal) (denied : Option Need) (r : Rejection) → whole ≡ first → ((t : Refusal) → last ≡ Some t → all ≡ Some t)
    → rejection_by s first denied last ≡ Some r → rejection_by s whole denied all ≡ Some r
rejected_by s (Some t) whole last all denied r same more is = ap (λ o. rejection_by s o denied all) same ∙ is
rejected_by s None whole last all (Some n) r same more is = ap (λ o. rejection_by s o (Some n) all) same ∙ is
rejected_by s None whole (Some t) all None r same more is = ap (λ o. rejection_by s o None all) same ∙ ap (option_map ByTest) (more t refl) ∙ is
rejected_by s None whole None all None r same more is = absurd (cc)

free_by : (s : Scene) (first whole last all more : Option Refusal) (denied : Option Need) → whole ≡ first → (last ≡ None → all ≡ more)
    → rejection_by s first denied last ≡ None → rejection_by s whole denied all ≡ option_map ByTest more
free_by s (Some t) whole last all more denied same rest is = absurd (cc)
free_by s None whole last all more (Some n) same rest is = absurd (cc)
free_by s None whole (Some t) all more None same rest is = absurd (cc)
free_by s None whole None all more None same rest is = ap (λ o. rejection_by s o None all) same ∙ ap (option_map ByTest) (rest refl)

module _ (s : Scene) (front tests : List Test) (needed : List Need) (more last : List Test) (free : first_failing front ≡ None) where
  -- where those before pass, what rejects a request without them rejects it with them
  pub rejection-within : (r : Rejection) → rejection_of s tests needed more ≡ Some r → rejection_of s (front ++ tests) needed (more ++ last) ≡ Some r
  rejection-within r is = rejected_by s (first_failing tests) (first_failing (front ++ tests)) (first_failing more) (first_failing (more ++ last)) (first_denied s needed) r
      (passed-front front tests free) (failing-front more last) is

  -- and where nothing does, those behind decide
  pub rejection-behind : rejection_of s tests needed more ≡ None → rejection_of s (front ++ tests) needed (more ++ last) ≡ option_map ByTest (first_failing last)
  rejection-behind is = free_by s (first_failing tests) (first_failing (front ++ tests)) (first_failing more) (first_failing (more ++ last)) (first_failing last) (first_denied s needed)
      (passed-front front tests free) (passed-front more last) is

-- ---- of an inode

-- the tests of an inode passed where nothing rejects a request at it
pub inode-passed : (s : Scene) (client : ClientId) (ino : ℕ) (access : Access) → rejection_of s (basic_tests s client ino) (need client ino access ∷ []) [] ≡ None → first_failing (inode_tests s.tree ino) ≡ None
inode-passed s client ino access free =
    (passed-both (session_tests s.sessions client.0) (inode_tests s.tree ino) (no_test s (basic_tests s client ino) (need client ino access ∷ []) [] free)).1
