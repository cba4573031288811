use Rattle.std.proofs.Common.{ℕ, ◌<◌, ◌≤◌, List, [], ◌∷◌, map, length, arith, refl}
use Rattle.std.proofs.lemmas.Bool.Decides.{nat_tests}
use Rattle.std.specs.Borrow.{Bor}
use Rattle.lockmachine.specs.declared.request.Change.{Change}
use Rattle.capstep.specs.declared.event.Event.{Event}
use Rattle.capstep.specs.declared.change_word.ChangeWord.{ChangeWord}
use Rattle.capstep.specs.declared.change_word.ChangeWord.TheVariants as words
use Rattle.texts.specs.declared.fault.LineFault.TheVariants as faults
use Rattle.capexplain.specs.Events.{says_kind}
use Rattle.capexplain.specs.Faults.{Has}
use Rattle.capexplain.proofs.SaidLines.{one, two}
use Rattle.capexplain.proofs.change.read_by_kind.Goals.{in_default-via-else-more-lt1+else-more-lt2+else-more-lt3, in_default-via-then-more-lt1}
use Rattle.capexplain.proofs.change.read_by_kind.Goals as goal

-- no change takes no word, and none takes three
none : (event : Change → Event) (kind : ChangeWord) → Has (says_kind event kind []) faults.Count
none event words.Mode = refl
none event words.Uid = refl
none event words.Gid = refl
none event words.SetXattr = refl
none event words.RemoveXattr = refl
none event words.Size = refl
none event words.Time = refl

many : (event : Change → Event) (kind : ChangeWord) (a b c : List ℕ) (more : List (List ℕ)) → Has (says_kind event kind (a ∷ b ∷ c ∷ more)) faults.Count
many event words.Mode a b c more = refl
many event words.Uid a b c more = refl
many event words.Gid a b c more = refl
many event words.SetXattr a b c more = refl
many event words.RemoveXattr a b c more = refl
many event words.Size a b c more = refl
many event words.Time a b c more = refl

too_few : (event : Change → Event) (kind : ChangeWord) (more : List (Bor (List ℕ))) → length more < 1 → Has (says_kind event kind (map (λ word. word.now) more)) faults.Count
too_few event kind [] few = none event kind
too_few event kind (a ∷ more) few = absurd (omega arith)

too_many : (event : Change → Event) (kind : ChangeWord) (more : List (Bor (List ℕ))) → 3 ≤ length more → Has (says_kind event kind (map (λ word. word.now) more)) faults.Count
too_many event kind (a ∷ b ∷ c ∷ more) many_of = many event kind a.now b.now c.now (map (λ word. word.now) more)
too_many event kind [] many_of = absurd (omega arith)
too_many event kind (a ∷ []) many_of = absurd (omega arith)
too_many event kind (a ∷ b ∷ []) many_of = absurd (omega arith)

pub returns-in-len1 : goal.returns-in-len1
returns-in-len1 c = λ event. rw (one c.args.more.now (omega arith)) (c.read_one.ensures event)

pub returns-in-len2 : goal.returns-in-len2
returns-in-len2 c = λ event. rw (two c.args.more.now (omega arith)) (c.read_two.ensures event)

pub returns-in_default : goal.returns-in_default
returns-in_default c = λ event. elim c.in_default.branch [
  | in_default-via-then-more-lt1 w ↦ too_few event c.args.kind c.args.more.now (grind (arith, nat_tests))
  | in_default-via-else-more-lt1+else-more-lt2+else-more-lt3 w ↦ too_many event c.args.kind c.args.more.now (grind (arith, nat_tests))
]
